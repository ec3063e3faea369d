-- Names are compared byte by byte, and the table of reserved words row by row.
use Rattle.std.proofs.Common.{◌≡◌, ℕ, suc, zero, ◌+◌, ◌<◌, true, false, ◌==◌, ◌&&◌, List, [], ◌∷◌, length, map, drop, get_or, refl, ap, sym, ◌∙◌, inl, inr, Option, Some, None, take, arith}
use Rattle.std.proofs.lemmas.Bool.{and_parts, cases_Bool, cond-true, cond-false}
use Rattle.std.proofs.lemmas.List.{drop_more}
use Rattle.rl_tree.specs.Bytes.{raised}
use Rattle.rl_tree.specs.Name.{Name}
use Rattle.rl_grammar.specs.Token.{Token}
use Rattle.rl_grammar.specs.Written.{same_name, word_token_in}
use Rattle.rl_lex.specs.Kinds.{kind_among, kind_of_token}
use Rattle.rl_lex.specs.declared.kind.TokenKind.{TokenKind}

pub names_of_length : (xs ys : List ℕ) → same_name xs ys ≡ true → length xs ≡ length ys
names_of_length [] [] e = refl
names_of_length (x ∷ xs) (y ∷ ys) e = ap suc (names_of_length xs ys (and_parts (x == y) (same_name xs ys) e).1)
names_of_length [] (y ∷ ys) e = cc
names_of_length (x ∷ xs) [] e = cc

pub raised_at : (xs : List ℕ) (i : ℕ) → i < length xs → get_or (map raised xs) i 0 ≡ raised (get_or xs i 0)
raised_at (x ∷ xs) zero below = refl
raised_at (x ∷ xs) (suc i) below = raised_at xs i (omega arith)
raised_at [] i below = absurd (let no : ⊥ = omega arith in no)

pub other_length : (xs ys : List ℕ) → (length xs ≡ length ys → ⊥) → same_name xs ys ≡ false
other_length xs ys other = elim (cases_Bool (same_name xs ys)) [ inl same ↦ absurd (other (names_of_length xs ys same)) | inr e ↦ e ]

-- the names from one place on
pub same_from : (xs ys : List ℕ) (i : ℕ) → i < length xs → i < length ys → same_name (drop i xs) (drop i ys) ≡ ((get_or xs i 0 == get_or ys i 0) && same_name (drop (i + 1) xs) (drop (i + 1) ys))
same_from xs ys i here there = ap (λ (bs : List ℕ). same_name bs (drop i ys)) (drop_more xs i 0 here) ∙ ap (λ (bs : List ℕ). same_name (get_or xs i 0 ∷ drop (i + 1) xs) bs) (drop_more ys i 0 there)

-- ---- the table in parts

pub none_among : (n : ℕ) (rows : List (Name × Token)) (name : Name) → kind_among (take n rows) name ≡ None → kind_of_token (word_token_in rows name) ≡ kind_of_token (word_token_in (drop n rows) name)
none_among zero rows name none = refl
none_among (suc n) [] name none = refl
none_among (suc n) (row ∷ rows) name none = elim (cases_Bool (same_name name row.0)) [
  | inl same ↦ absurd (some_no_none (kind_of_token row.1) (sym (cond-true (same_name name row.0) _ _ same) ∙ none))
  | inr other ↦ ap kind_of_token (cond-false (same_name name row.0) _ _ other) ∙ none_among n rows name (sym (cond-false (same_name name row.0) _ _ other) ∙ none)
]
  where
    some_no_none : (kind : TokenKind) → Some kind ≡ None → ⊥
    some_no_none kind e = cc

pub some_among : (n : ℕ) (rows : List (Name × Token)) (name : Name) (kind : TokenKind) → kind_among (take n rows) name ≡ Some kind → kind_of_token (word_token_in rows name) ≡ kind
some_among zero rows name kind some = cc
some_among (suc n) [] name kind some = cc
some_among (suc n) (row ∷ rows) name kind some = elim (cases_Bool (same_name name row.0)) [
  | inl same ↦ ap kind_of_token (cond-true (same_name name row.0) _ _ same) ∙ the_same (kind_of_token row.1) (sym (cond-true (same_name name row.0) _ _ same) ∙ some)
  | inr other ↦ ap kind_of_token (cond-false (same_name name row.0) _ _ other) ∙ some_among n rows name kind (sym (cond-false (same_name name row.0) _ _ other) ∙ some)
]
  where
    the_same : (other : TokenKind) → Some other ≡ Some kind → other ≡ kind
    the_same other e = cc

pub is_none : (o : Option TokenKind) → ((kind : TokenKind) → o ≡ Some kind → ⊥) → o ≡ None
is_none None never = refl
is_none (Some kind) never = absurd (never kind refl)
