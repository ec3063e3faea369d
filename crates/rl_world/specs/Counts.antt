-- What a run counts: turns, expansions and cells, and what each call does to the counts.
use Rattle.std.specs.Prelude.{◌≡◌, ℕ, ◌+◌, ◌-◌, ◌==◌, ◌<◌, ◌≤◌, nat_le, nat_lt, cond, length, Option, Some, None}
use Rattle.rl_tags.specs.Tagged.{Tagged}
use Rattle.rl_cells.specs.Cell.{CellStore, used_of}
use Rattle.rl_world.specs.declared.counts.Aside.{Aside}
use Rattle.rl_world.specs.declared.counts.Expansion.{Expansion}
use Rattle.rl_world.specs.declared.stop.Stop.{Stop}
use Rattle.rl_world.specs.declared.stop.Stop.TheVariants as stop

-- the bounds on turns and on cells, the ticks of opening or None after it, the turns taken, the outermost expansion and how many are open, and what is set aside
pub record WorldCounts : Type 0 where
  pub bound : ℕ
  pub cells_bound : ℕ
  pub opening : Option ℕ
  pub turns : ℕ
  pub outermost : Option Expansion
  pub open_count : ℕ
  pub aside : Option Aside

-- before a run
abbrev pub counts_at_opening : ℕ → ℕ → WorldCounts
counts_at_opening bound cells_bound = record { bound = bound; cells_bound = cells_bound; opening = Some 0; turns = 0; outermost = None; open_count = 0; aside = None }

-- opening has 1000000 ticks, an expansion 100000 turns, and the run as many turns as its bound says
abbrev pub tick_stop_at : Option ℕ → Option Expansion → ℕ → ℕ → Option Stop
tick_stop_at (Some n) e turns bound = cond (nat_lt n 1000000) None (Some stop.Turns)
tick_stop_at None (Some e) turns bound = cond (nat_lt e.turns 100000) None (Some (stop.Expansion e.name))
tick_stop_at None None turns bound = cond (nat_lt turns bound) None (Some stop.Turns)

-- why another turn may not be taken
abbrev pub tick_stop : WorldCounts → Option Stop
tick_stop c = tick_stop_at c.opening c.outermost c.turns c.bound

abbrev pub ticked_at : Option ℕ → Option Expansion → WorldCounts → WorldCounts
ticked_at (Some n) e c = record c { opening = Some (n + 1) }
ticked_at None (Some e) c = record c { outermost = Some (record e { turns = e.turns + 1 }) }
ticked_at None None c = record c { turns = c.turns + 1 }

-- another turn: of opening, of the outermost expansion, or of the run
abbrev pub ticked : WorldCounts → WorldCounts
ticked c = ticked_at c.opening c.outermost c

abbrev pub turns_left_at : Option ℕ → Option Expansion → ℕ → ℕ → ℕ
turns_left_at (Some n) e turns bound = 1000000 - n
turns_left_at None (Some e) turns bound = 100000 - e.turns
turns_left_at None None turns bound = bound - turns

-- the turns that may still be taken: of opening, of the outermost expansion, or of the run
abbrev pub count_turns_left : WorldCounts → ℕ
count_turns_left c = turns_left_at c.opening c.outermost c.turns c.bound

-- the cells that count: in opening all, and after it those that were taken since
abbrev pub cells_taken : Option ℕ → CellStore → ℕ
cells_taken None cells = used_of cells
cells_taken (Some ticks) cells = length cells.cells

-- opening has 65536 cells, and the run as many as its bound says
abbrev pub cells_bound_at : Option ℕ → ℕ → ℕ
cells_bound_at None bound = bound
cells_bound_at (Some ticks) bound = 65536

-- but where a compilation expands the run has no bound
abbrev pub cells_stop : Option Aside → ℕ → ℕ → ℕ → Option Stop
cells_stop None taken cost bound = cond (nat_le (taken + cost) bound) None (Some stop.Cells)
cells_stop (Some aside) taken cost bound = None

-- and an expansion has 1000000
abbrev pub room_stop_at : Option Expansion → Option Aside → ℕ → ℕ → ℕ → Option Stop
room_stop_at None aside taken cost bound = cells_stop aside taken cost bound
room_stop_at (Some e) aside taken cost bound = cond (nat_le (e.cells + cost) 1000000) (cells_stop aside taken cost bound) (Some (stop.Expansion e.name))

-- why an object of this cost may not be made in these cells
abbrev pub room_stop : WorldCounts → CellStore → ℕ → Option Stop
room_stop c cells cost = room_stop_at c.outermost c.aside (cells_taken c.opening cells) cost (cells_bound_at c.opening c.cells_bound)

abbrev pub with_cells : ℕ → Option Expansion → Option Expansion
with_cells cost None = None
with_cells cost (Some e) = Some (record e { cells = e.cells + cost })

-- the cells count in the outermost expansion
abbrev pub roomed : WorldCounts → ℕ → WorldCounts
roomed c cost = record c { outermost = with_cells cost c.outermost }

-- the outermost expansion stays the one that began first
abbrev pub outermost_with : Tagged → Option Expansion → Option Expansion
outermost_with name None = Some (record { name = name; turns = 0; cells = 0 })
outermost_with name (Some e) = Some e

abbrev pub begun : WorldCounts → Tagged → WorldCounts
begun c name = record c { outermost = outermost_with name c.outermost; open_count = c.open_count + 1 }

abbrev pub expansion_ended : WorldCounts → WorldCounts
expansion_ended c = record c { outermost = cond (c.open_count == 1) None c.outermost; open_count = c.open_count - 1 }

abbrev pub aside_of : WorldCounts → Aside
aside_of c = record { turns = c.turns; outermost = c.outermost; open_count = c.open_count }

-- no expansion counts as open
abbrev pub set_aside : WorldCounts → WorldCounts
set_aside c = record c { outermost = None; open_count = 0; aside = Some (aside_of c) }

abbrev pub rejoined : WorldCounts → Aside → WorldCounts
rejoined c a = record c { turns = a.turns; outermost = a.outermost; open_count = a.open_count; aside = None }

-- some expansion is open exactly where there is an outermost one
abbrev pub IsOpen : Option Expansion → ℕ → Type 0
IsOpen None n = n ≡ 0
IsOpen (Some e) n = 0 < n

-- also among the counts that are set aside
abbrev pub IsAside : Option Aside → Type 0
IsAside None = Unit {0}
IsAside (Some a) = IsOpen a.outermost a.open_count

-- ---- turns and cells are taken, and nothing else of the counts has changed

-- in opening some ticks may have been taken
abbrev pub TakesTicks : Option ℕ → Option ℕ → Type 0
TakesTicks None None = Unit {0}
TakesTicks (Some before) (Some now) = before ≤ now
TakesTicks before now = ⊥

-- the outermost expansion is the same one, and may have taken turns and cells
abbrev pub TakesInExpansion : Option Expansion → Option Expansion → Type 0
TakesInExpansion None None = Unit {0}
TakesInExpansion (Some before) (Some now) = (now.name ≡ before.name) × (before.turns ≤ now.turns) × (before.cells ≤ now.cells)
TakesInExpansion before now = ⊥

pub record TakesTurnsAndCells (old new : WorldCounts) : Type 0 where
  pub same : new ≡ record old { opening = new.opening; turns = new.turns; outermost = new.outermost }
  pub opening : TakesTicks old.opening new.opening
  pub turns : old.turns ≤ new.turns
  -- in opening the run takes none
  pub untaken : (ticks : ℕ) → old.opening ≡ Some ticks → new.turns ≡ old.turns
  pub expansion : TakesInExpansion old.outermost new.outermost

-- a turn and the cells of an object are taken so, and what is taken one after the other
pub record CountsAreTaken : Type 0 where
  pub none : (c : WorldCounts) → TakesTurnsAndCells c c
  pub both : (a b c : WorldCounts) → TakesTurnsAndCells a b → TakesTurnsAndCells b c → TakesTurnsAndCells a c
  pub turn : (c : WorldCounts) → TakesTurnsAndCells c (ticked c)
  pub cells : (c : WorldCounts) (cost : ℕ) → TakesTurnsAndCells c (roomed c cost)
