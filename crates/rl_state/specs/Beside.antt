-- What stands beside a world: what no world determines of a state, in the parts that the stack, held forms and the objects of a run need apart.
use Rattle.std.specs.Prelude.{◌≡◌, ℕ, Some}
use Rattle.rl_meaning.specs.State.{State}
use Rattle.rl_meaning.specs.Symbols.{symbol_at}
use Rattle.rl_meaning.specs.Variables.{Nearest, nearest}

-- the bindings stay, and the values below all of what is bound
pub record KeepsBindings (s t : State) : Type 0 where
  pub entries : t.bindings ≡ s.bindings
  pub hidden : (i : ℕ) (b : Nearest) → nearest i s ≡ Some b → (symbol_at t i).top ≡ (symbol_at s i).top

-- held forms stay, and what is known of their code
pub record KeepsFunctions (s t : State) : Type 0 where
  pub functions : t.functions ≡ s.functions
  pub compilation : t.compilation ≡ s.compilation

-- all that is beside a world stays
pub record StaysBeside (s t : State) : Type 0 where
  pub bindings : KeepsBindings s t
  pub functions : KeepsFunctions s t
  pub outside : t.outside ≡ s.outside
