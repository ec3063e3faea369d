-- Printed text, tried on examples: each side computes to the other.
use Rattle.std.proofs.Common.{◌≡◌, ℕ, [], ◌∷◌, List, refl, pos, if◌then◌else◌}
use Rattle.std.specs.Prelude.{codes, ◌==◌}
use Rattle.std.specs.Fmt.{digits}
use Rattle.rl_tree.specs.Value.{Int, Id, Str, Ref, Pair, Vector, Store}
use Rattle.rl_tree.specs.Atoms.{Style, Prin1, Prin2}
use Rattle.rl_tree.specs.Printing.{Setting, Progress, Ending, Whole, NoTurn, TooDeep, printed}

-- NIL is the identifier 2, X the identifier 7, and all others are y
abbrev pub names : ℕ → List ℕ
names i = if i == 2 then codes "NIL" else (if i == 7 then codes "X" else codes "y")

abbrev pub setting : Style → Store → Setting
setting style store = record { style = style; names = names; nil = 2; store = store; line_length = 80 }

abbrev pub at_column : ℕ → ℕ → Progress
at_column column turns = record { page = record { text = []; column = column }; turns = turns; ending = Whole }

abbrev pub ends : List ℕ → ℕ → ℕ → Ending → Progress
ends text column turns ending = record { page = record { text = text; column = column }; turns = turns; ending = ending }

-- three places and a pair take four turns
pub prints_vector : printed (setting Prin1 (Pair (Id 7) (Id 8) ∷ Vector (Int (pos 1) ∷ Str (codes "a\"b") ∷ Ref 0 ∷ []) ∷ [])) (Ref 1) 1 (at_column 0 10) ≡ ends (codes "[1 \"a\"\"b\" (X . !y)]") 19 6 Whole
unfolding digits
prints_vector = refl

-- by PRIN2 names and strings stand bare
pub prints_bare : printed (setting Prin2 (Pair (Id 8) (Ref 1) ∷ Pair (Str (codes "a\"b")) (Id 2) ∷ [])) (Ref 0) 0 (at_column 0 2) ≡ ends (codes "(y a\"b)") 7 0 Whole
prints_bare = refl

-- the turn of the second element is wanting, and its blank is not printed
pub stops_before_blank : printed (setting Prin1 (Pair (Id 7) (Ref 1) ∷ Pair (Id 7) (Id 2) ∷ [])) (Ref 0) 9 (at_column 0 1) ≡ ends (codes "(X") 2 0 NoTurn
stops_before_blank = refl

-- a list that goes round takes all turns
pub goes_round : printed (setting Prin1 (Pair (Id 7) (Ref 0) ∷ [])) (Ref 0) 9 (at_column 0 5) ≡ ends (codes "(X X X X X") 10 0 NoTurn
goes_round = refl

-- a CAR below the last level is not begun, though its turn is taken
pub nests_too_deep : printed (setting Prin1 (Pair (Ref 0) (Id 2) ∷ [])) (Ref 0) 2 (at_column 0 9) ≡ ends (codes "(((") 3 5 TooDeep
nests_too_deep = refl

-- a vector behind the dot takes no level
pub dots_vector : printed (setting Prin1 (Pair (Int (pos 1)) (Ref 1) ∷ Vector [] ∷ [])) (Ref 0) 0 (at_column 0 1) ≡ ends (codes "(1 . [])") 8 0 Whole
unfolding digits
dots_vector = refl

-- an atom that would pass the line length begins a line
pub breaks_line : printed (setting Prin2 []) (Str (codes "yy")) 0 (at_column 79 0) ≡ ends (10 ∷ codes "yy") 2 0 Whole
breaks_line = refl

pub fills_line : printed (setting Prin2 []) (Str (codes "y")) 0 (at_column 79 0) ≡ ends (codes "y") 80 0 Whole
fills_line = refl
