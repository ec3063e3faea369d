-- What a code rests on, and when it stands: a code whose dependencies stand no longer is gone at once, and so is that of a name that is defined anew (this project's).
use Rattle.std.specs.Prelude.{ℕ, Bool, true, false, ◌&&◌, ◌==◌, not, if◌then◌else◌, List, [], ◌∷◌, Option, Some, None}
use Rattle.rl_tree.specs.declared.held.Kind.TheVariants as kinds
use Rattle.rl_meaning.specs.State.{State, Definition, Dependency, Called, Fexpr, Whole, Coded}
use Rattle.rl_meaning.specs.Symbols.{symbol_at}
use Rattle.rl_meaning.specs.Reach.{expands, same_kind, same_definition}

abbrev pub is_fexpr : Option Definition → Bool
is_fexpr None = false
is_fexpr (Some d) = same_kind d.kind kinds.Fexpr

-- a name that is called is no FEXPR or MACRO; an FEXPR is one; and a whole definition is equal to the one that was read
abbrev pub stands : State → Dependency → Bool
stands s (Called i) = not (expands (symbol_at s i).definition)
stands s (Fexpr i) = is_fexpr (symbol_at s i).definition
stands s (Whole i kind p) = same_definition s (Some (record { kind = kind; function = p })) (symbol_at s i).definition

abbrev pub all_stand : State → List Dependency → Bool
all_stand s [] = true
all_stand s (d ∷ ds) = stands s d && all_stand s ds

-- of these, the codes of other names whose dependencies stand
abbrev pub standing : State → ℕ → List Coded → List Coded
standing s i [] = []
standing s i (c ∷ cs) = if not (c.name == i) && all_stand s c.dependencies then c ∷ standing s i cs else standing s i cs

-- behind a new definition of a name, or none
abbrev pub with_standing_codes : ℕ → State → State
with_standing_codes i s = record s { compilation = record s.compilation { coded = standing s i s.compilation.coded } }
