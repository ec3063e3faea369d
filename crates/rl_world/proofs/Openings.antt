-- What opening makes behind the names.
use Rattle.std.proofs.Common.{◌≡◌, ℕ, suc, ◌+◌, ◌<◌, ◌≤◌, List, [], ◌∷◌, ◌++◌, length, get_or, set, take, refl, sym, ap, ◌∙◌, arith}
use Rattle.std.proofs.lemmas.List.{take_all}
use Rattle.std.proofs.Math.Seq.{take-suc, take-suc-set}
use Rattle.rl_tags.specs.Tagged.{Tagged, StrAt}
use Rattle.rl_tree.specs.ErrorTexts.{error_texts}
use Rattle.rl_cells.specs.Cell.{Cell, StrCell, cost_of, placed}
use Rattle.rl_cells.specs.Laws.{IsAdded}
use Rattle.rl_world.specs.OpeningCells.{strings_named, with_strings}

strings_more : (texts : List (List ℕ)) (bytes : List ℕ) (cells : List Cell) → with_strings (texts ++ bytes ∷ []) cells ≡ with_strings texts cells ++ placed (StrCell bytes)
strings_more [] bytes cells = refl
strings_more (t ∷ ts) bytes cells = strings_more ts bytes (cells ++ placed (StrCell t))

names_more : (texts : List (List ℕ)) (bytes : List ℕ) (cells : List Cell) → strings_named (texts ++ bytes ∷ []) cells ≡ strings_named texts cells ++ StrAt (length (with_strings texts cells)) ∷ []
names_more [] bytes cells = refl
names_more (t ∷ ts) bytes cells = ap (λ names. StrAt (length cells) ∷ names) (names_more ts bytes (cells ++ placed (StrCell t)))

fourteen : length error_texts ≡ 14
unfolding error_texts
fourteen = refl

next_text : (i : ℕ) → i < 14 → take (i + 1) error_texts ≡ take i error_texts ++ get_or error_texts i [] ∷ []
next_text i l = let n : i + 1 ≡ suc i = omega arith in ap (λ k. take k error_texts) n ∙ take-suc error_texts i [] (omega (arith, l, fourteen))

pub made_more : (cells old new : List Cell) (i : ℕ) → i < 14 → old ≡ with_strings (take i error_texts) cells → new ≡ old ++ placed (StrCell (get_or error_texts i [])) → new ≡ with_strings (take (i + 1) error_texts) cells
made_more cells old new i l h e =
    e ∙ (ap (λ c. c ++ placed (StrCell (get_or error_texts i []))) h ∙ (sym (strings_more (take i error_texts) (get_or error_texts i []) cells) ∙ ap (λ ts. with_strings ts cells) (sym (next_text i l))))

pub named_more : (cells old : List Cell) (texts : List Tagged) (i : ℕ) (v : Tagged) → i < 14 → length texts ≡ 14 → old ≡ with_strings (take i error_texts) cells → take i texts ≡ strings_named (take i error_texts) cells → v ≡ StrAt (length old) → take (i + 1) (set texts i v) ≡ strings_named (take (i + 1) error_texts) cells
named_more cells old texts i v l many made h e =
    let n : i + 1 ≡ suc i = omega arith in
    let taken : take (i + 1) (set texts i v) ≡ take i texts ++ v ∷ [] = ap (λ k. take k (set texts i v)) n ∙ take-suc-set texts i v (omega (arith, l, many)) in
    let name : v ≡ StrAt (length (with_strings (take i error_texts) cells)) = e ∙ ap (λ c. StrAt (length c)) made in
    taken ∙ (ap (λ ts. ts ++ v ∷ []) h ∙ (ap (λ x. strings_named (take i error_texts) cells ++ x ∷ []) name ∙ (sym (names_more (take i error_texts) (get_or error_texts i []) cells) ∙ ap (λ ts. strings_named ts cells) (sym (next_text i l)))))

all_texts : take 14 error_texts ≡ error_texts
all_texts = take_all 14 error_texts (omega (arith, fourteen))

pub all_made : (cells new : List Cell) (n : ℕ) → n ≡ 14 → new ≡ with_strings (take n error_texts) cells → new ≡ with_strings error_texts cells
all_made cells new n e h = h ∙ ap (λ ts. with_strings ts cells) (ap (λ k. take k error_texts) e ∙ all_texts)

pub all_named : (cells : List Cell) (texts : List Tagged) (n : ℕ) → n ≡ 14 → length texts ≡ 14 → take n texts ≡ strings_named (take n error_texts) cells → texts ≡ strings_named error_texts cells
all_named cells texts n e many h = sym (take_all n texts (omega (arith, e, many))) ∙ (h ∙ ap (λ ts. strings_named ts cells) (ap (λ k. take k error_texts) e ∙ all_texts))

-- the cells that strings of these bytes take
abbrev cells_of : List (List ℕ) → ℕ
cells_of [] = 0
cells_of (bytes ∷ more) = cost_of (StrCell bytes) + cells_of more

long_strings : IsAdded → (texts : List (List ℕ)) (cells : List Cell) → length (with_strings texts cells) ≡ length cells + cells_of texts
long_strings law [] cells = sym (omega arith)
long_strings law (bytes ∷ more) cells =
    let one : length (cells ++ placed (StrCell bytes)) ≡ length cells + cost_of (StrCell bytes) = law.long cells (StrCell bytes) (omega arith) in
    omega (arith, one, long_strings law more (cells ++ placed (StrCell bytes)))

thirty_five : cells_of error_texts ≡ 35
unfolding error_texts
thirty_five = refl

pub strings_long : IsAdded → (cells new : List Cell) → new ≡ with_strings error_texts cells → length new ≡ length cells + 35
strings_long law cells new e = ap length e ∙ (long_strings law error_texts cells ∙ ap (λ n. length cells + n) thirty_five)
