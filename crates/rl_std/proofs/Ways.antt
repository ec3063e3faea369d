-- What a walk along a list keeps of the world in which it began.
use Rattle.std.proofs.Common.{◌≡◌, true}
use Rattle.rl_tags.specs.Tagged.{Tagged}
use Rattle.rl_cells.specs.Cell.{is_live}
use Rattle.rl_world.specs.declared.world.World.{World}
use Rattle.rl_state.specs.StepLaws.{StepsFollow}
use Rattle.rl_state.specs.Worlds.{IsWorld, ObjectsAlone, WorldGrows}

pub record IsOnWay (old now : World) (at : Tagged) : Type 0 where
  pub live : is_live now.cells.cells at ≡ true
  pub grows : WorldGrows old now
  pub rest : ObjectsAlone old now

pub way_begins : (law : StepsFollow) (w : World) (at : Tagged) → IsWorld w → is_live w.cells.cells at ≡ true → IsOnWay w w at
way_begins law w at i h = record { live = h; grows = law.stands w i; rest = law.none w }

pub way_goes : (law : StepsFollow) (w x y : World) (at next : Tagged) → IsOnWay w x at → WorldGrows x y → ObjectsAlone x y → is_live y.cells.cells next ≡ true → IsOnWay w y next
way_goes law w x y at next h g r live = record { live = live; grows = law.grows w x y h.grows g; rest = law.alone w x y h.rest r }
