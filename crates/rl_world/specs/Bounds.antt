-- The bounds of what a world counts and of its cells agree, so that where there is room the cells have it.
use Rattle.std.specs.Prelude.{◌≡◌, ℕ, ◌+◌, ◌<◌, ◌≤◌, true, List, length, Option, Some, None, IsSome}
use Rattle.rl_tags.specs.Tagged.{Tagged}
use Rattle.rl_cells.specs.Cell.{CellStore, Cell, cost_of, grown, has_room, take_cells}
use Rattle.rl_syms.specs.Made.{IsOpening}
use Rattle.rl_world.specs.Counts.{WorldCounts, aside_of, begun, counts_at_opening, expansion_ended, rejoined, room_stop, roomed, set_aside, ticked}
use Rattle.rl_world.specs.declared.counts.Aside.{Aside}
use Rattle.rl_world.specs.declared.counts.Expansion.{Expansion}

-- turns and cells are in opening together, or both after it
abbrev pub OpenTogether : Option ℕ → Option ℕ → Type 0
OpenTogether None (Some used) = Unit {0}
OpenTogether (Some ticks) None = Unit {0}
OpenTogether _ _ = ⊥

-- spare cells are in use in a compilation alone, and an expansion that is open counts all of them
abbrev pub AreSpareCounted : Option Aside → Option Expansion → Option ℕ → ℕ → Type 0
AreSpareCounted aside outermost None places = Unit {0}
AreSpareCounted None outermost (Some mark) places = ⊥
AreSpareCounted (Some a) None (Some mark) places = Unit {0}
AreSpareCounted (Some a) (Some e) (Some mark) places = places ≤ mark + e.cells

pub record BoundsAgree (c : WorldCounts) (s : CellStore) : Type 0 where
  pub bound : s.bound ≡ c.cells_bound
  pub together : OpenTogether c.opening s.count
  pub spare : AreSpareCounted c.aside c.outermost s.mark (length s.cells)

-- what is made counts: for the run, or in a compilation for an expansion that is open, over the spare cells
abbrev pub IsMakingCounted : Option Aside → Option Expansion → Option ℕ → Type 0
IsMakingCounted None outermost mark = Unit {0}
IsMakingCounted (Some a) None mark = ⊥
IsMakingCounted (Some a) (Some e) None = ⊥
IsMakingCounted (Some a) (Some e) (Some mark) = Unit {0}

-- no spare cell is taken
abbrev pub IsSpareFree : Option ℕ → ℕ → Type 0
IsSpareFree None places = Unit {0}
IsSpareFree (Some mark) places = places ≤ mark

-- where an object may be made, the cells have room for it
abbrev pub RoomIsEnough : Type 0
RoomIsEnough = (c : WorldCounts) (s : CellStore) (cost : ℕ) → BoundsAgree c s → IsMakingCounted c.aside c.outermost s.mark → room_stop c s cost ≡ None → has_room s cost ≡ true

-- each call of a world and of its cells keeps the bounds
pub record AreBoundsKept : Type 0 where
  pub opening : (s : CellStore) (turns bound : ℕ) → IsOpening s bound → BoundsAgree (counts_at_opening turns bound) s
  pub opened : (c : WorldCounts) (s : CellStore) → BoundsAgree c s → s.count ≡ None → BoundsAgree (record c { opening = None }) (record s { count = Some 0 })
  pub ticked : (c : WorldCounts) (s : CellStore) → BoundsAgree c s → BoundsAgree (ticked c) s
  pub made : (c : WorldCounts) (s : CellStore) (object : Cell) → 0 < cost_of object → BoundsAgree c s → BoundsAgree (roomed c (cost_of object)) (grown s object)
  pub unmade : (c : WorldCounts) (s : CellStore) (cost : ℕ) → BoundsAgree c s → BoundsAgree (roomed c cost) s
  pub changed : (c : WorldCounts) (s : CellStore) (cells : List Cell) → length cells ≡ length s.cells → BoundsAgree c s → BoundsAgree c (record s { cells = cells })
  pub begun : (c : WorldCounts) (s : CellStore) (name : Tagged) → IsSpareFree s.mark (length s.cells) → BoundsAgree c s → BoundsAgree (begun c name) s
  pub ended : (c : WorldCounts) (s : CellStore) → BoundsAgree c s → BoundsAgree (expansion_ended c) s
  pub apart : (c : WorldCounts) (s : CellStore) → s.mark ≡ None → BoundsAgree c s → BoundsAgree (set_aside c) s
  pub rejoined : (c : WorldCounts) (s : CellStore) (a : Aside) → s.mark ≡ None → BoundsAgree c s → BoundsAgree (rejoined c a) s
  pub marked : (c : WorldCounts) (s : CellStore) → IsSome c.aside → BoundsAgree c s → BoundsAgree c (record s { mark = Some (length s.cells) })
  pub released : (c : WorldCounts) (s : CellStore) (mark : ℕ) → BoundsAgree c s → BoundsAgree c (record s { cells = take_cells mark s.cells; mark = None })
