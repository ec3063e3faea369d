use Rattle.rl_syms.proofs.HeldFunctions.{functions_kept}
use Rattle.rl_syms.proofs.laws.functions_stand.Goals as goal

pub returns : goal.returns
returns c = functions_kept c.objects_are_added.ensures
