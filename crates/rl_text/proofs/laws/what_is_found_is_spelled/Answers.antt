use Rattle.rl_text.proofs.Complete.{spelled_is_read}
use Rattle.rl_text.proofs.Sound.{found_is_spelled}
use Rattle.rl_text.proofs.laws.what_is_found_is_spelled.Goals as goal

pub returns : goal.returns
returns c bytes datum rest = (found_is_spelled bytes datum rest, spelled_is_read bytes datum rest)
