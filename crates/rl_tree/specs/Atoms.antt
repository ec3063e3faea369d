-- How atoms are written: by PRIN1 so that they are read as themselves, by PRIN2 as their bytes (Standard Lisp Report 1979, PRIN1 and PRIN2).
use Rattle.std.specs.Prelude.{ℕ, Bool, true, false, ◌||◌, ◌==◌, nat_le, if◌then◌else◌, List, [], ◌∷◌, ◌++◌, codes}
use Rattle.std.specs.Fmt.{signed_decimal}
use Rattle.rl_tree.specs.Bytes.{is_upper, is_digit}
use Rattle.rl_tree.specs.Value.{Value, Int, Id, Str, Ref, Fun}

pub data Style : Type 0 where
  Prin1 : Style
  Prin2 : Style

-- a byte of a name that stands without `!`: the first where it is A to Z or 128 to 255, a later one also where it is a digit or `_`
abbrev pub is_bare : Bool → ℕ → Bool
is_bare true b = is_upper b || nat_le 128 b
is_bare false b = is_upper b || nat_le 128 b || is_digit b || b == 95

-- the bytes of a name, each with `!` before it where it needs one; whether the first of them is the first of the name
abbrev pub escaped : Bool → List ℕ → List ℕ
escaped first [] = []
escaped first (b ∷ bs) = if is_bare first b then b ∷ escaped false bs else 33 ∷ b ∷ escaped false bs

-- the bytes of a string, each `"` doubled
abbrev pub doubled : List ℕ → List ℕ
doubled [] = []
doubled (b ∷ bs) = if b == 34 then 34 ∷ 34 ∷ doubled bs else b ∷ doubled bs

abbrev pub name_text : Style → List ℕ → List ℕ
name_text Prin1 name = escaped true name
name_text Prin2 name = name

abbrev pub string_text : Style → List ℕ → List ℕ
string_text Prin1 bytes = 34 ∷ (doubled bytes ++ 34 ∷ [])
string_text Prin2 bytes = bytes

-- the text of an atom, by the names of the identifiers; a pair or a vector has none here
abbrev pub atom_text : Style → (ℕ → List ℕ) → Value → List ℕ
atom_text style names (Int z) = signed_decimal z
atom_text style names (Id i) = name_text style (names i)
atom_text style names (Str bytes) = string_text style bytes
atom_text style names (Fun f place) = codes "#[function]"
atom_text style names (Ref r) = []
