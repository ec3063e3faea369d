-- The state at opening: the prelude is read and held within the turns and cells of opening, and the names that have a function are the system's.
use Rattle.std.proofs.Common.{◌≡◌, ℕ, suc, nat_le, unwrap_or, Bool, true, false, ◌&&◌, not, is_some, if◌then◌else◌, List, [], ◌∷◌, refl}
use Rattle.std.specs.Fmt.{digits}
use Rattle.rl_tags.specs.Opening.{opening_rows, byte_names}
use Rattle.rl_tree.specs.ErrorTexts.{error_texts}
use Rattle.rl_meaning.specs.Names.{special_rows, native_rows}
use Rattle.rl_meaning.specs.State.{Symbol}
use Rattle.rl_meaning.specs.System.{is_system}
use Rattle.rl_meaning.specs.Jobs.{job}
use Rattle.rl_meaning.specs.Outcome.{Outcome, Done}
use Rattle.rl_meaning.specs.Opening.{bare_state, define_texts, opened_state, prelude_texts}

-- the symbols from this number on
abbrev are_system_names : ℕ → List Symbol → Bool
are_system_names i [] = true
are_system_names i (symbol ∷ symbols) = (if is_system i then is_some symbol.definition else not (is_some symbol.definition)) && are_system_names (suc i) symbols

names_of_the_system : are_system_names 0 opened_state.symbols ≡ true
unfolding opened_state prelude_texts bare_state opening_rows byte_names special_rows native_rows digits error_texts job
names_of_the_system = refl

abbrev is_done : {A : Type 0} → Outcome A → Bool
is_done (Done a s) = true
is_done o = false

prelude_is_held : is_done (define_texts prelude_texts bare_state) ≡ true
unfolding prelude_texts bare_state opening_rows byte_names special_rows native_rows digits error_texts job
prelude_is_held = refl

prelude_fits : nat_le 60000 (unwrap_or opened_state.counts.cells 0) ≡ true
unfolding opened_state prelude_texts bare_state opening_rows byte_names special_rows native_rows digits error_texts job
prelude_fits = refl
