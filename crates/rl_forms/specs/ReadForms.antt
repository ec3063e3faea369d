-- What the program makes of a file, as data.
use Rattle.std.specs.Prelude.{◌≡◌, map, List, Option, Some, None}
use Rattle.std.specs.Global.{Vec}
use Rattle.std.specs.List.{All}
use Rattle.rl_tags.specs.Tagged.{Tagged}
use Rattle.rl_text.specs.Datum.{Datum}
use Rattle.rl_world.specs.declared.world.World.{World}
use Rattle.rl_forms.specs.KnownData.{IsKnown, IsRunning, datum_in}

-- the forms that were read, or None where the text spells none
abbrev pub data_told : World → Option (Vec Tagged) → Option (List Datum)
data_told w None = None
data_told w (Some forms) = Some (map (datum_in w) forms.items)

-- they are data of the world, and nothing was printed
pub record AreRead (old new : World) (forms : List Tagged) : Type 0 where
  pub running : IsRunning new
  pub known : All (IsKnown new) forms
  pub output : new.output ≡ old.output
