-- What a world shows as opening begins: the state before the prelude, whose identifiers have no values, definitions and kinds yet.
use Rattle.std.specs.Prelude.{◌≡◌, ℕ, map, None}
use Rattle.rl_tree.specs.declared.held.VarKind.TheVariants.{Plain}
use Rattle.rl_meaning.specs.Opening.{bare_state}
use Rattle.rl_meaning.specs.State.{State, Symbol}
use Rattle.rl_meaning.specs.Variables.{nearest}

abbrev pub unset : Symbol → Symbol
unset y = record y { top = None; definition = None; kind = Plain }

-- what a world determines of it; nothing is bound
pub record IsUnset (s : State) : Type 0 where
  pub store : s.store ≡ bare_state.store
  pub symbols : s.symbols ≡ map unset bare_state.symbols
  pub counts : s.counts ≡ bare_state.counts
  pub gensyms : s.gensyms ≡ bare_state.gensyms
  pub column : s.outside.column ≡ bare_state.outside.column
  pub line_length : s.outside.line_length ≡ bare_state.outside.line_length
  pub taken : s.outside.taken ≡ bare_state.outside.taken
  pub unbound : (i : ℕ) → nearest i s ≡ None
