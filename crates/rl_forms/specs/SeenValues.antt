-- What a value is seen to be.
use Rattle.std.specs.Prelude.{◌≡◌, true}
use Rattle.rl_tags.specs.Tagged.{Tagged}
use Rattle.rl_text.specs.Datum.{Pair}
use Rattle.rl_world.specs.declared.world.World.{World}
use Rattle.rl_forms.specs.KnownData.{IsKnown, datum_in}
use Rattle.rl_forms.specs.SeenForms.{is_name_datum, is_plain}
use Rattle.rl_forms.specs.declared.memory.Look.{Look}
use Rattle.rl_forms.specs.declared.memory.Look.TheVariants as look

-- it is an identifier; the pair of these two; or anything else
abbrev pub Sees : World → Tagged → Look → Type 0
Sees w v look.Other = is_plain (datum_in w v) ≡ true
Sees w v look.Identifier = is_name_datum (datum_in w v) ≡ true
Sees w v (look.Pair a d) = (datum_in w v ≡ Pair (datum_in w a) (datum_in w d)) × IsKnown w a × IsKnown w d
