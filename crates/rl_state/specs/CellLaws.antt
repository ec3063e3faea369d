-- What is known of cells: the laws of the crates below, together.
use Rattle.rl_cells.specs.Laws.{IsAdded}
use Rattle.rl_syms.specs.Functions.{FunctionsStand}
use Rattle.rl_syms.specs.Laws.{ChangesMeaning, IsKept, IsRead, LeaveIdentifiers, MakesMeaning, NamesEnter}
use Rattle.rl_syms.specs.Readings.{NamingMeans}
use Rattle.rl_syms.specs.Numbers.{IdentifiersAreNumbered}
use Rattle.rl_read.specs.Laws.{NamesAreFound}
use Rattle.rl_world.specs.Bounds.{AreBoundsKept, RoomIsEnough}

pub record AreCellLaws : Type 0 where
  pub kept : IsKept
  pub blocks : LeaveIdentifiers
  pub makes : MakesMeaning
  pub changes : ChangesMeaning
  pub reads : IsRead
  pub numbered : IdentifiersAreNumbered
  pub enters : NamesEnter
  pub naming : NamingMeans
  pub added : IsAdded
  pub bounds : AreBoundsKept
  pub enough : RoomIsEnough
  pub found : NamesAreFound
  pub functions : FunctionsStand
