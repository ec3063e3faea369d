use Rattle.rl_text.proofs.Blank.{blank_is_none, none_is_blank}
use Rattle.rl_text.proofs.Complete.{spelled_is_read_by}
use Rattle.rl_text.proofs.Prefix.{refused_first}
use Rattle.rl_text.proofs.Sound.{read_is_spelled}
use Rattle.rl_text.proofs.laws.unreadable_at_first_byte.Goals as goal

pub returns : goal.returns
returns c bytes k = refused_first spelled_is_read_by read_is_spelled blank_is_none none_is_blank bytes k
