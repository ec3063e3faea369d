-- The letters of the names from CAR to CDDDDR.
use Rattle.std.specs.Prelude.{Bool, true, false, List, [], ◌∷◌, Option, Some, None, Result, Ok, Err}
use Rattle.rl_tags.specs.Tagged.{Tagged}
use Rattle.rl_tree.specs.Value.{Value}
use Rattle.rl_world.specs.declared.world.World.{World}
use Rattle.rl_meaning.specs.Errors.{fail, wrong_type}
use Rattle.rl_meaning.specs.Outcome.{Done, Outcome}
use Rattle.rl_meaning.specs.State.{State}
use Rattle.rl_syms.specs.Contents.{value_of}
use Rattle.rl_state.specs.Ending.{EndsShown}
use Rattle.rl_std.specs.declared.pairs.Letter.{Letter}
use Rattle.rl_std.specs.declared.pairs.Letter.TheVariants as letter
use Rattle.rl_std.specs.declared.pairs.Path.{Path}
use Rattle.rl_std.specs.declared.pairs.Path.TheVariants as path

abbrev pub is_car : Letter → Bool
is_car letter.A = true
is_car letter.D = false

-- the path of the definition: true for A, the letter next to R first
abbrev pub letters_of : Path → List Bool
letters_of (path.One a) = is_car a ∷ []
letters_of (path.Two a b) = is_car a ∷ is_car b ∷ []
letters_of (path.Three a b c) = is_car a ∷ is_car b ∷ is_car c ∷ []
letters_of (path.Four a b c d) = is_car a ∷ is_car b ∷ is_car c ∷ is_car d ∷ []

-- the letters that are left; none where there is no path
abbrev pub letters_left : Option Path → List Bool
letters_left None = []
letters_left (Some p) = letters_of p

-- it is done with this part, or fails with this culprit
abbrev pub ReachesPart : State → Outcome Value → Result Tagged Tagged → World → Type 0
ReachesPart s o (Ok v) w = EndsShown s o (λ t. Done (value_of w.cells.cells v) t) w
ReachesPart s o (Err v) w = EndsShown s o (λ t. fail wrong_type (value_of w.cells.cells v) t) w
