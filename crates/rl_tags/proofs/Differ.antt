-- Opening makes no name twice, and each name of one byte.
use Rattle.std.proofs.Common.{◌≡◌, ◌≢◌, ℕ, zero, suc, ◌<◌, Bool, true, false, ◌&&◌, not, List, [], ◌∷◌, length, slice_index_or, refl, sym, arith}
use Rattle.std.specs.Cmp.Lexicographic.{pointwise, other_text}
use Rattle.std.specs.Prelude.{nat_eq}
use Rattle.std.specs.List.{list_any, list_all, range_with_len}
use Rattle.std.proofs.lemmas.Bool.{true_from_ne_false}
use Rattle.std.proofs.lemmas.List.Folds.{list_any_at}
use Rattle.rl_tags.specs.Opening.{opening_rows, byte_names, names_at_opening}

abbrev pub is_name : List ℕ → List ℕ → Bool
is_name a b = pointwise nat_eq a b

abbrev all_differ : List (List ℕ) → Bool
all_differ [] = true
all_differ (name ∷ names) = not (list_any (is_name name) names) && all_differ names

not_first : (a b : Bool) → (not a && b) ≡ true → a ≢ true
not_first true b h = λ same. cc
not_first false b h = λ same. cc

second : (a b : Bool) → (not a && b) ≡ true → b ≡ true
second true b h = cc
second false b h = h

differ : (names : List (List ℕ)) (i j : ℕ) → all_differ names ≡ true → i < j → j < length names → slice_index_or names i [] ≢ slice_index_or names j []
differ [] i j h below within = absurd (omega arith)
differ (name ∷ names) i zero h below within = absurd (omega arith)
differ (name ∷ names) zero (suc j) h below within = λ same.
    let equal : is_name name (slice_index_or names j []) ≡ true = true_from_ne_false (is_name name (slice_index_or names j [])) (λ other. other_text name (slice_index_or names j []) (sym other) same) in
    not_first (list_any (is_name name) names) (all_differ names) h (list_any_at (is_name name) names j [] (omega arith) equal)
differ (name ∷ names) (suc i) (suc j) h below within = differ names i j (second (list_any (is_name name) names) (all_differ names) h) (omega arith) (omega arith)

pub names_differ : (i j : ℕ) → i < j → j < 422 → slice_index_or names_at_opening i [] ≢ slice_index_or names_at_opening j []
unfolding opening_rows byte_names
names_differ i j below within = differ names_at_opening i j refl below within

pub bytes_are_names : list_all (λ b. list_any (is_name (b ∷ [])) names_at_opening) (range_with_len 0 256) ≡ true
unfolding opening_rows byte_names
bytes_are_names = refl
