use Rattle.rl_syms.proofs.Naming.{naming_means}
use Rattle.rl_syms.proofs.laws.meaning_of_naming.Goals as goal

pub returns : goal.returns
returns c = naming_means c.objects_are_added.ensures
