-- Where the identifiers of opening stand: each takes five cells, the block at the third.
use Rattle.std.proofs.Common.{◌≡◌, ◌≢◌, ℕ, zero, suc, ◌+◌, ◌*◌, ◌<◌, Bool, true, false, ◌==◌, ◌&&◌, nat_lt, nat_le, List, [], ◌∷◌, map, length, slice_index_or, get_or, refl, sym, ◌∙◌, arith, None}
use Rattle.std.specs.List.{list_all}
use Rattle.std.proofs.lemmas.Bool.Decides.{nat_tests}
use Rattle.std.proofs.lemmas.List.{get_or-map}
use Rattle.rl_tags.specs.Opening.{Row, Plain, name_of, arguments_in_row, opening_rows, byte_names, names_at_opening, name_cells, place_in, place_of, native_in, native_at, arguments_at}

-- an element's part stands in the list of the parts
pub part_at : {X Y : Type 0} (part : X → Y) (xs : List X) (i : ℕ) (d : X) (e : Y) → i < length xs → part (get_or xs i d) ≡ get_or (map part xs) i e
part_at part xs i d e h = sym (get_or-map part xs i d e h)

abbrev is_short : List ℕ → Bool
is_short name = nat_lt 0 (length name) && nat_le (length name) 16

first_true : (a b : Bool) → (a && b) ≡ true → a ≡ true
first_true true b h = refl
first_true false b h = h

second_true : (a b : Bool) → (a && b) ≡ true → b ≡ true
second_true true b h = h
second_true false b h = cc

short_cells : (name : List ℕ) → is_short name ≡ true → name_cells name ≡ 2
short_cells name h = grind (arith, nat_tests)

place_in-short : (names : List (List ℕ)) (from i : ℕ) → list_all is_short names ≡ true → i < length names → place_in names from i ≡ from + 5 * i + 2
place_in-short [] from i h k = omega arith
place_in-short (name ∷ names) from zero h k =
    let cells : name_cells name ≡ 2 = short_cells name (first_true _ _ h) in omega arith
place_in-short (name ∷ names) from (suc i) h k =
    let cells : name_cells name ≡ 2 = short_cells name (first_true _ _ h) in
    let rest : place_in names (from + name_cells name + 3) i ≡ from + name_cells name + 3 + 5 * i + 2 = place_in-short names (from + name_cells name + 3) i (second_true (is_short name) (list_all is_short names) h) (omega arith) in
    omega arith

pub place_of-is : (i : ℕ) → i < 422 → place_of i ≡ 5 * i + 2
unfolding opening_rows byte_names
place_of-is i h =
    let p : place_in names_at_opening 0 i ≡ 0 + 5 * i + 2 = place_in-short names_at_opening 0 i refl h in p ∙ (omega arith)

native_in-here : (rows : List Row) (from i place : ℕ) → list_all (λ row. is_short (name_of row)) rows ≡ true → i < length rows → place ≡ from + 5 * i + 2 → native_in rows from place ≡ arguments_in_row (slice_index_or rows i (Plain []))
native_in-here [] from i place h k e = absurd (omega arith)
native_in-here (row ∷ rows) from zero place h k e =
    let cells : name_cells (name_of row) ≡ 2 = short_cells (name_of row) (first_true _ _ h) in
    let here : (place == from + name_cells (name_of row)) ≡ true = grind (arith, nat_tests) in
    rw here refl
native_in-here (row ∷ rows) from (suc i) place h k e =
    let cells : name_cells (name_of row) ≡ 2 = short_cells (name_of row) (first_true _ _ h) in
    let past : (place == from + name_cells (name_of row)) ≡ false = grind (arith, nat_tests) in
    rw past (native_in-here rows (from + name_cells (name_of row) + 3) i place (second_true _ _ h) (omega arith) (omega arith))

native_in-none : (rows : List Row) (from place : ℕ) → list_all (λ row. is_short (name_of row)) rows ≡ true → ((i : ℕ) → i < length rows → place ≢ from + 5 * i + 2) → native_in rows from place ≡ None
native_in-none [] from place h none = refl
native_in-none (row ∷ rows) from place h none =
    let cells : name_cells (name_of row) ≡ 2 = short_cells (name_of row) (first_true _ _ h) in
    let not_here : place ≢ from + 5 * 0 + 2 = none 0 (omega arith) in
    let past : (place == from + name_cells (name_of row)) ≡ false = grind (arith, nat_tests) in
    rw past (native_in-none rows (from + name_cells (name_of row) + 3) place (second_true _ _ h)
    (λ i k e. none (suc i) (omega arith) (omega arith)))

pub native_at-here : (i place : ℕ) → i < 167 → place ≡ 5 * i + 2 → native_at place ≡ arguments_at i
unfolding opening_rows
native_at-here i place h e = native_in-here opening_rows 0 i place refl h (omega arith)

pub native_at-none : (place : ℕ) → ((i : ℕ) → i < 167 → place ≢ 5 * i + 2) → native_at place ≡ None
unfolding opening_rows
native_at-none place none = native_in-none opening_rows 0 place refl (λ i h e. none i h (omega arith))
