use Rattle.std.proofs.Common.{◌≡◌, length, map, ◌++◌}
use Rattle.std.specs.Prelude.{option_map}
use Rattle.std.specs.List.{All}
use Rattle.rl_read.specs.Frames.{CanMake}
use Rattle.rl_read.specs.Given.{slice_left}
use Rattle.rl_forms.specs.Meaning.{data_in}
use Rattle.rl_forms.specs.KnownData.{IsKnown, IsRunning, datum_in}
use Rattle.rl_forms.proofs.reading.forms_in.Given as goal

abbrev pub invariant-forms : goal.invariant-forms
invariant-forms l = record {
  running : IsRunning l.world;
  able : CanMake l.world;
  known : All (IsKnown l.world) l.forms.items;
  read : data_in l.bytes ≡ option_map (λ more. map (datum_in l.world) l.forms.items ++ more) (data_in (slice_left l.text));
  output : l.world.output ≡ l.fn.world.output;
}

abbrev pub decreases-forms : goal.decreases-forms
decreases-forms l = length (slice_left l.text)
