use Rattle.rl_text.proofs.Blank.{blank_is_none, none_is_blank}
use Rattle.rl_text.proofs.laws.blank_text_has_none.Goals as goal

pub returns : goal.returns
returns c bytes = (none_is_blank bytes, blank_is_none bytes)
