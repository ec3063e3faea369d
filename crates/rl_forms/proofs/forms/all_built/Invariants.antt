use Rattle.std.proofs.Common.{◌≡◌, map}
use Rattle.std.specs.List.{All}
use Rattle.rl_forms.specs.KnownData.{IsKnown, datum_in}
use Rattle.rl_forms.specs.SeenForms.{are_built, tests_left}
use Rattle.rl_forms.proofs.forms.all_built.Given as goal

abbrev pub invariant-loop-form : goal.invariant-loop-form
invariant-loop-form l = record { known : All (IsKnown l.world) l.left.items; same : are_built l.world l.left.items ≡ are_built l.world l.forms }

abbrev pub decreases-loop-form : goal.decreases-loop-form
decreases-loop-form l = tests_left (map (datum_in l.world) l.left.items)
