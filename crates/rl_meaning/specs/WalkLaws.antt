-- Walks need no bound: what a walk along a list comes to, and EQUAL, told pair by pair, where visits give no turns back (this project's).
use Rattle.std.specs.Prelude.{◌≡◌, ◌≤◌, ◌<◌, ℕ, suc, Bool, Option, Some, None}
use Rattle.rl_tree.specs.Value.{Value}
use Rattle.rl_meaning.specs.State.{State, Expansion}
use Rattle.rl_meaning.specs.Outcome.{Outcome, Done, Stopped, Stop, Turns, Expands, then_do, turn, turns_left, Levels}
use Rattle.rl_meaning.specs.Symbols.{pair_at}
use Rattle.rl_meaning.specs.Constants.{reading_object}
use Rattle.rl_meaning.specs.Walks.{Further, walk_on, walk_within, walk, Comparison, equal_at, equal_within, equal}

-- where it goes on, no more than these turns may be taken
abbrev pub LeavesAtMost : {A : Type 0} → ℕ → Outcome A → Type 0
LeavesAtMost n (Done a t) = turns_left t ≤ n
LeavesAtMost n other = Unit {0}

-- a visit gives no turns back
pub record GivesNoTurnsBack {A : Type 0} (visit : A → Value → Value → State → Outcome (Further A)) : Type 0 where
  pub leaves : (a : A) (pair x : Value) (s : State) → LeavesAtMost (turns_left s) (visit a pair x s)

-- what a run stops for that wants a turn where none is left
abbrev pub no_turn : Option Expansion → Stop
no_turn None = Turns
no_turn (Some e) = Expands e.macro

-- walks that come to such a thing
pub record AreWalksUnbounded (A : Type 0) : Type 0 where
  -- at an atom it is over
  pub atom : (visit : A → Value → Value → State → Outcome (Further A)) (a : A) (v : Value) (s : State) → pair_at s v ≡ None
      → walk visit a v s ≡ Done (record { result = a; end = Some v }) s
  -- a pair takes a turn and is visited, and then the walk goes on behind it, or ends
  pub pair : (visit : A → Value → Value → State → Outcome (Further A)) → GivesNoTurnsBack visit → (a : A) (v : Value) (s : State) (parts : Value × Value) → pair_at s v ≡ Some parts
      → walk visit a v s ≡ turn s (λ t. then_do (visit a v parts.0 (reading_object v t)) (λ next u. walk_on visit (λ b rest u. walk visit b rest u) parts.1 next u))
  -- where no turn is left it stops at a pair
  pub stop : (visit : A → Value → Value → State → Outcome (Further A)) (a : A) (v : Value) (s : State) (parts : Value × Value) → pair_at s v ≡ Some parts → turns_left s ≡ 0
      → walk visit a v s ≡ Stopped (no_turn s.counts.expansion) s
  -- any bound on its pairs above the turns that are left is none
  pub bound : (visit : A → Value → Value → State → Outcome (Further A)) → GivesNoTurnsBack visit → (n : ℕ) (a : A) (v : Value) (s : State) → turns_left s < n
      → walk_within visit n a v s ≡ walk visit a v s

-- EQUAL of two parts of what is compared, where a descent may have come to them
abbrev pub equal_parts : Comparison
equal_parts descent levels u v s = equal_within (suc (suc (turns_left s))) descent levels u v s

pub record IsEqualUnbounded : Type 0 where
  -- two values are compared by comparing their parts
  pub parts : (descent : Bool) (levels : Levels) (u v : Value) (s : State) → equal_parts descent levels u v s ≡ equal_at equal_parts descent levels u v s
  -- EQUAL gives no turns back
  pub leaves : (levels : Levels) (u v : Value) (s : State) → LeavesAtMost (turns_left s) (equal levels u v s)
