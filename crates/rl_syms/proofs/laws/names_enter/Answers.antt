use Rattle.rl_syms.proofs.Entered.{entered_gains}
use Rattle.rl_syms.proofs.laws.names_enter.Goals as goal

pub returns : goal.returns
returns c = entered_gains c.objects_are_added.ensures
