-- The memory of a list of words.
use Rattle.std.specs.Prelude.{◌≤◌, ◌^◌, ℕ, length, vec_capacity}
use Rattle.std.specs.Global.{Vec}

-- the words that are written are no more than there are, and there is room for all
pub record HasRoomForWords (written : Vec ℕ) (many : ℕ) : Type 0 where
  pub bounded : many ≤ 2 ^ 40
  pub within : length written.items ≤ many
  pub room : many ≤ vec_capacity written
