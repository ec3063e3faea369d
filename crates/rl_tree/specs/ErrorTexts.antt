-- The texts of system errors (this project's).
use Rattle.std.specs.Prelude.{ℕ, ◌-◌, List, [], ◌∷◌, slice_index_or, codes}

-- the texts of the errors from 10 to 23
unfoldable pub error_texts : List (List ℕ)
error_texts =
    codes "is unbound" ∷ codes "is not defined" ∷ codes "has a wrong number of arguments" ∷ codes "is of a wrong type" ∷ codes "is out of range" ∷
    codes "overflows" ∷ codes "has a zero divisor" ∷ codes "is misplaced" ∷ codes "is badly formed" ∷ codes "may not be bound or set" ∷
    codes "is a system name" ∷ codes "cannot be written" ∷ codes "cannot be loaded" ∷ codes "is the byte where the text is unreadable" ∷ []

abbrev pub error_text : ℕ → List ℕ
error_text n = slice_index_or error_texts (n - 10) []
