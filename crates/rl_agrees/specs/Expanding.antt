-- What an expansion of a plain macro leaves of the state, and that it leaves two runs side by side (this project's).
use Rattle.std.specs.Prelude.{◌≡◌, ◌≤◌, ℕ, List, ◌++◌, Option, Some, None}
use Rattle.rl_meaning.specs.State.{State, Tree}
use Rattle.rl_meaning.specs.Outcome.{Done}
use Rattle.rl_meaning.specs.Evaluation.{Here, expansion_of}
use Rattle.rl_meaning.specs.Jobs.{jobs, the_compiler}
use Rattle.rl_meaning.specs.Plain.{IsPlain}
use Rattle.rl_meaning.specs.TwoRunsValues.{Names}
use Rattle.rl_meaning.specs.TwoRunsStates.{Bounds, EntryPlace, Like}

pub record IsLonger {A : Type 0} (old new : List A) : Type 0 where
  pub more : List A
  pub is : new ≡ old ++ more

-- there is no more left of it, where there is a bound
abbrev pub NoMore : Option ℕ → Option ℕ → Type 0
NoMore None None = Unit {0}
NoMore (Some old) (Some new) = new ≤ old
NoMore old new = ⊥

-- objects and functions were made, of which nothing that was there knows, and cells were taken; whatever is watched may have been met
pub record OnlyMakes (s t : State) : Type 0 where
  pub store : IsLonger s.store t.store
  pub functions : IsLonger s.functions t.functions
  pub symbols : t.symbols ≡ s.symbols
  pub bindings : t.bindings ≡ s.bindings
  pub given : t.counts.given ≡ s.counts.given
  pub turns : t.counts.turns ≡ s.counts.turns
  pub cells : NoMore s.counts.cells t.counts.cells
  pub expansion : t.counts.expansion ≡ s.counts.expansion
  pub outside : t.outside ≡ s.outside
  pub gensyms : t.gensyms ≡ s.gensyms
  pub compilation : t.compilation ≡ s.compilation

-- where two runs stand side by side, the right one may expand a plain macro, and they stand so still
pub record PlainExpandsAlone : Type 0 where
  pub expands : (bounds : Bounds) (n : Names) (ps : List EntryPlace) (s t u : State) (i f : ℕ) (here : Here) (form : Tree) → Like bounds n ps s t → t.counts.expansion ≡ None → IsPlain t i
      → expansion_of (jobs the_compiler) i here form t ≡ Done f u → OnlyMakes t u × Like bounds n ps s u
