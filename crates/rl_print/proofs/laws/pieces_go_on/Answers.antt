use Rattle.rl_print.proofs.Shown.{cut_longer, cut_more, follows_more}
use Rattle.rl_print.proofs.laws.pieces_go_on.Goals as goal

pub returns : goal.returns
returns c = record { follows = follows_more; cut = cut_more; longer = cut_longer }
