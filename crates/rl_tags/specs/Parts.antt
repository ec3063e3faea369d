-- A node of a held function, named under the tag of functions by a place past all cells.
use Rattle.std.specs.Prelude.{ℕ, ◌+◌, ◌-◌, ◌*◌, ◌/◌, ◌%◌, ◌^◌, nat_lt, cond, Option, Some, None}
use Rattle.rl_tags.specs.Tagged.{Tagged, Number, IdAt, StrAt, PairAt, VectorAt, BigAt, FunAt, index_of}

-- the place of the node at of the function at this place
abbrev pub part_index : ℕ → ℕ → ℕ
part_index holder at = (at + 1) * 2 ^ 32 + holder

abbrev pub part_value : Tagged → ℕ → Tagged
part_value holder at = FunAt (part_index (index_of holder) at)

-- the function of a node
abbrev pub holder_of : ℕ → ℕ
holder_of index = index % 2 ^ 32

-- its number there
abbrev pub node_of : ℕ → ℕ
node_of index = index / 2 ^ 32 - 1

-- the function and the number there, where it names a node
abbrev pub parted : Tagged → Option (Tagged × ℕ)
parted (Number n) = None
parted (IdAt i) = None
parted (StrAt i) = None
parted (PairAt i) = None
parted (VectorAt i) = None
parted (BigAt i) = None
parted (FunAt i) = cond (nat_lt i (2 ^ 32)) None (Some (FunAt (holder_of i), node_of i))
