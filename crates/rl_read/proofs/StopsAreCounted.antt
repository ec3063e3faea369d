-- The stops of the counters: a turn, a level or room was wanting.
use Rattle.std.proofs.Common.{◌≡◌, ℕ, true, refl}
use Rattle.std.specs.Prelude.{Option, Some, None, nat_le, nat_lt, ◌+◌}
use Rattle.std.proofs.lemmas.Bool.{cond_both}
use Rattle.rl_cells.specs.Cell.{CellStore}
use Rattle.rl_world.specs.Counts.{WorldCounts, tick_stop, tick_stop_at, room_stop, room_stop_at, cells_bound_at, cells_stop, cells_taken}
use Rattle.rl_world.specs.Levels.{WorldLevels, enter_stop}
use Rattle.rl_world.specs.declared.counts.Aside.{Aside}
use Rattle.rl_world.specs.declared.counts.Expansion.{Expansion}
use Rattle.rl_world.specs.declared.stop.Stop.{Stop}
use Rattle.rl_world.specs.declared.stop.Stop.TheVariants as stop
use Rattle.rl_read.specs.Given.{is_counted}

-- none, or one of the counters'
abbrev IsCounter : Option Stop → Type 0
IsCounter None = Unit {0}
IsCounter (Some s) = is_counted s ≡ true

counter_is_counted : (o : Option Stop) (s : Stop) → IsCounter o → o ≡ Some s → is_counted s ≡ true
counter_is_counted o s is e = (rw e at is)

cells_counter : (aside : Option Aside) (used cost bound : ℕ) → IsCounter (cells_stop aside used cost bound)
cells_counter None used cost bound = cond_both (nat_le (used + cost) bound) None (Some stop.Cells) IsCounter (λ e. tt) (λ e. refl)
cells_counter (Some a) used cost bound = tt

room_counter : (e : Option Expansion) (aside : Option Aside) (used cost bound : ℕ) → IsCounter (room_stop_at e aside used cost bound)
room_counter None aside used cost bound = cells_counter aside used cost bound
room_counter (Some e) aside used cost bound = cond_both (nat_le (e.cells + cost) 1000000) (cells_stop aside used cost bound) (Some (stop.Expansion e.name)) IsCounter (λ h. cells_counter aside used cost bound) (λ h. refl)

tick_counter : (opening : Option ℕ) (e : Option Expansion) (turns bound : ℕ) → IsCounter (tick_stop_at opening e turns bound)
tick_counter (Some n) e turns bound = cond_both (nat_lt n 1000000) None (Some stop.Turns) IsCounter (λ h. tt) (λ h. refl)
tick_counter None (Some e) turns bound = cond_both (nat_lt e.turns 100000) None (Some (stop.Expansion e.name)) IsCounter (λ h. tt) (λ h. refl)
tick_counter None None turns bound = cond_both (nat_lt turns bound) None (Some stop.Turns) IsCounter (λ h. tt) (λ h. refl)

pub room_counted : (c : WorldCounts) (cells : CellStore) (cost : ℕ) (s : Stop) → room_stop c cells cost ≡ Some s → is_counted s ≡ true
room_counted c cells cost s e = counter_is_counted (room_stop c cells cost) s (room_counter c.outermost c.aside (cells_taken c.opening cells) cost (cells_bound_at c.opening c.cells_bound)) e

pub tick_counted : (c : WorldCounts) (s : Stop) → tick_stop c ≡ Some s → is_counted s ≡ true
tick_counted c s e = counter_is_counted (tick_stop c) s (tick_counter c.opening c.outermost c.turns c.bound) e

pub enter_counted : (l : WorldLevels) (n : ℕ) (s : Stop) → enter_stop l n ≡ Some s → is_counted s ≡ true
enter_counted l n s e = counter_is_counted (enter_stop l n) s (cond_both (nat_le (l.level + n) l.bound) None (Some stop.Depth) IsCounter (λ h. tt) (λ h. refl)) e
