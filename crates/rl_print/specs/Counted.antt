-- The turns that are taken, and what stops a run that wants another.
use Rattle.std.specs.Prelude.{◌≡◌, ℕ, zero, suc, ◌+◌, Option, Some, None}
use Rattle.rl_world.specs.Counts.{WorldCounts, ticked, count_turns_left}
use Rattle.rl_world.specs.declared.counts.Expansion.{Expansion}
use Rattle.rl_world.specs.declared.stop.Stop.{Stop}
use Rattle.rl_world.specs.declared.stop.Stop.TheVariants as stop
use Rattle.rl_tree.specs.Printing.{Ending, Whole, NoTurn, TooDeep}

abbrev pub last_stop_at : Option ℕ → Option Expansion → Stop
last_stop_at (Some n) e = stop.Turns
last_stop_at None (Some e) = stop.Expansion e.name
last_stop_at None None = stop.Turns

-- why none is left where none is
abbrev pub last_count_stop : WorldCounts → Stop
last_count_stop c = last_stop_at c.opening c.outermost

-- after so many turns
abbrev pub ticks : ℕ → WorldCounts → WorldCounts
ticks zero c = c
ticks (suc n) c = ticks n (ticked c)

-- the stop that tells how printing ended
abbrev pub IsStop : WorldCounts → Ending → Stop → Type 0
IsStop c Whole s = ⊥
IsStop c NoTurn s = s ≡ last_count_stop c
IsStop c TooDeep s = s ≡ stop.Depth

-- some turns were taken
pub record IsTicked (old new : WorldCounts) : Type 0 where
  pub number : ℕ
  pub counts : new ≡ ticks number old
  pub left : count_turns_left old ≡ number + count_turns_left new
  pub stop : last_count_stop new ≡ last_count_stop old
