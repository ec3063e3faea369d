use Rattle.rl_tags.specs.Opening.{opening_rows}
use Rattle.rl_tags.proofs.names.text_at.Goals as goal

pub returns : goal.returns
unfolding opening_rows
returns c = c.text_in.ensures
