-- The names that opening makes: each has 1 to 16 bytes, none stands twice, and the i-th is made at the place 5 * i + 2.
use Rattle.std.proofs.Common.{◌≡◌, ◌≢◌, ℕ, zero, suc, ◌+◌, ◌-◌, ◌*◌, ◌<◌, ◌≤◌, min, List, [], ◌∷◌, ◌++◌, map, length, get_or, replicate, refl, sym, ap, ◌∙◌, arith, inl, inr}
use Rattle.std.proofs.lemmas.Bool.{cases_lt}
use Rattle.std.proofs.lemmas.List.{get_or-map, get_or-replicate, get_or_append_left, get_or-append_right, length-append}
use Rattle.std.proofs.lemmas.List.FromFn.{get_or-range_with_len, length-range_with_len}
use Rattle.std.specs.Prelude.{cond, nat_eq, nat_lt}
use Rattle.std.specs.List.{position_or_len, range_with_len}
use Rattle.std.specs.Cmp.Lexicographic.{pointwise}
use Rattle.rl_tags.specs.Opening.{opening_rows, opening_names, byte_names, names_at_opening, name_cells, place_in, place_of, name_at}
use Rattle.rl_syms.specs.Opened.{made_name}

pub names_long : length names_at_opening ≡ 422
unfolding opening_rows byte_names
names_long = refl

constants_long : length opening_names ≡ 167
unfolding opening_rows
constants_long = refl

-- each is a string of two cells
all_short : map name_cells names_at_opening ≡ replicate 422 2
unfolding opening_rows byte_names
all_short = refl

cells_at : (i : ℕ) → i < 422 → name_cells (made_name i) ≡ 2
cells_at i l = sym (get_or-map name_cells names_at_opening i [] 0 (omega (arith, names_long))) ∙ ap (λ cells. get_or cells i 0) all_short ∙ get_or-replicate 422 i 2 0 l

pub name_some : (i : ℕ) (name : List ℕ) → i < 422 → name ≡ made_name i → 1 ≤ length name
name_some i name l e = rw e (omega (arith, cells_at i l))

pub name_short : (i : ℕ) (name : List ℕ) → i < 422 → name ≡ made_name i → length name ≤ 16
name_short i name l e = rw e (omega (arith, cells_at i l))

-- the place of a name among them
number_of : List ℕ → ℕ
number_of (b ∷ []) = cond (nat_eq b 84) 1 (cond (nat_lt b 84) (167 + b) (166 + b))
number_of name = position_or_len (pointwise nat_eq name) opening_names

numbered : map number_of names_at_opening ≡ range_with_len 0 422
unfolding opening_rows byte_names number_of
numbered = refl

number_at : (i : ℕ) → i < 422 → number_of (made_name i) ≡ i
number_at i l = sym (get_or-map number_of names_at_opening i [] 0 (omega (arith, names_long))) ∙ ap (λ numbers. get_or numbers i 0) numbered ∙ get_or-range_with_len 0 422 i 0 l ∙ omega arith

pub name_once : (i j : ℕ) → i < 422 → j < 422 → made_name i ≡ made_name j → i ≡ j
name_once i j l m e = sym (number_at i l) ∙ ap number_of e ∙ number_at j m

-- names of two cells stand five cells apart
place_in_short : (names : List (List ℕ)) (from i : ℕ) → ((k : ℕ) → k ≤ i → name_cells (get_or names k []) ≡ 2) → i < length names → place_in names from i ≡ from + 5 * i + 2
place_in_short [] from i two l = absurd (omega arith)
place_in_short (name ∷ names) from zero two l = omega (arith, two 0 (omega arith))
place_in_short (name ∷ names) from (suc i) two l =
    let first = two 0 (omega arith) in
    let rest : place_in names (from + name_cells name + 3) i ≡ from + name_cells name + 3 + 5 * i + 2 = place_in_short names (from + name_cells name + 3) i (λ k m. two (suc k) (omega arith)) (omega arith) in
    omega arith

pub place_is : (i : ℕ) → i < 422 → place_of i ≡ 5 * i + 2
place_is i l = place_in_short names_at_opening 0 i (λ k (m : k ≤ i). cells_at k (omega (arith, l, m))) (omega (arith, names_long)) ∙ omega arith

-- those that have a constant come first
pub constant_name : (i : ℕ) → i < 167 → name_at i ≡ made_name i
constant_name i l = sym (get_or_append_left opening_names byte_names [] i (omega (arith, constants_long)))

-- how many names are made before that of a byte: T is among the constants
abbrev pub letters_made : ℕ → ℕ
letters_made b = 167 + b - min 1 (b - 84)

-- T is the second name
pub letter_t : made_name 1 ≡ 84 ∷ []
unfolding opening_rows
letter_t = refl

byte_at : (b : ℕ) → b < 256 → b ≢ 84 → get_or (range_with_len 0 84 ++ range_with_len 85 171) (letters_made b - 167) 0 ≡ b
byte_at b l other = elim (cases_lt b 84) [
  | inl m ↦
      let at : letters_made b - 167 ≡ b = omega (arith, m) in
      ap (λ i. get_or (range_with_len 0 84 ++ range_with_len 85 171) i 0) at
      ∙ get_or_append_left (range_with_len 0 84) (range_with_len 85 171) 0 b (omega (arith, m, length-range_with_len 0 84))
      ∙ get_or-range_with_len 0 84 b 0 m ∙ omega arith
  | inr m ↦
      let at : letters_made b - 167 ≡ b - 1 = omega (arith, m, other) in
      let past : b - 1 - 84 < 171 = omega (arith, m, l) in
      ap (λ i. get_or (range_with_len 0 84 ++ range_with_len 85 171) i 0) at
      ∙ get_or-append_right (range_with_len 0 84) (range_with_len 85 171) 84 (b - 1) 0 (length-range_with_len 0 84) (omega (arith, m, other))
      ∙ get_or-range_with_len 85 171 (b - 1 - 84) 0 past ∙ omega (arith, m, other)
]

pub letter_name : (b : ℕ) → b < 256 → b ≢ 84 → b ∷ [] ≡ made_name (letters_made b)
unfolding byte_names
letter_name b l other =
    let bytes = range_with_len 0 84 ++ range_with_len 85 171 in
    let long : length bytes ≡ 255 = length-append (range_with_len 0 84) (range_with_len 85 171) ∙ omega (arith, length-range_with_len 0 84, length-range_with_len 85 171) in
    let one : ℕ → List ℕ = λ b. b ∷ [] in
    ap one (sym (byte_at b l other))
    ∙ sym (get_or-map one bytes (letters_made b - 167) 0 [] (omega (arith, long, l, other)))
    ∙ sym (get_or-append_right opening_names byte_names 167 (letters_made b) [] constants_long (omega arith))
