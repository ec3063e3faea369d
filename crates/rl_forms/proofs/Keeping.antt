-- What is kept from one world to the next is kept over both.
use Rattle.std.proofs.Common.{refl, ◌∙◌}
use Rattle.rl_world.specs.declared.world.World.{World}
use Rattle.rl_forms.specs.KnownData.{KeepsKnown}

pub keeps_refl : (w : World) → KeepsKnown w w
keeps_refl w = record { known = λ v h. h; datum = λ v h. refl }

pub keeps_trans : (a b c : World) → KeepsKnown a b → KeepsKnown b c → KeepsKnown a c
keeps_trans a b c j k = record { known = λ v h. k.known v (j.known v h); datum = λ v h. k.datum v (j.known v h) ∙ j.datum v h }
