-- Lists, and the definitions of identifiers, where something is appended or set.
use Rattle.std.proofs.Common.{◌≡◌, ◌≢◌, ◌⊎◌, inl, inr, ◌<◌, ℕ, zero, suc, List, [], ◌∷◌, ◌++◌, length, slice_get, refl, ap, arith}
use Rattle.std.specs.Prelude.{slice_index_or, slice_set}
use Rattle.rl_meaning.specs.State.{Symbol}

-- an element that was there
pub get_appended : {A : Type 0} (xs ys : List A) (i : ℕ) → i < length xs → slice_get (xs ++ ys) i ≡ slice_get xs i
get_appended [] ys i h = absurd (omega (arith, h))
get_appended (x ∷ xs) ys zero h = refl
get_appended (x ∷ xs) ys (suc i) h = get_appended xs ys i (omega (arith, h))

-- another element than the one that is set
pub get_set_other : {A : Type 0} (xs : List A) (r i : ℕ) (a : A) → r ≢ i → slice_get (slice_set xs r a) i ≡ slice_get xs i
get_set_other [] r i a h = refl
get_set_other (x ∷ xs) zero zero a h = absurd (h refl)
get_set_other (x ∷ xs) zero (suc i) a h = refl
get_set_other (x ∷ xs) (suc r) zero a h = refl
get_set_other (x ∷ xs) (suc r) (suc i) a h = get_set_other xs r i a (λ e. h (ap suc e))

-- an element that may be wanting is as it was, or was wanting
pub index_appended : {A : Type 0} (xs ys : List A) (i : ℕ) (d : A) → (slice_index_or (xs ++ ys) i d ≡ slice_index_or xs i d) ⊎ (slice_index_or xs i d ≡ d)
index_appended [] ys i d = inr refl
index_appended (x ∷ xs) ys zero d = inl refl
index_appended (x ∷ xs) ys (suc i) d = index_appended xs ys i d

-- ---- definitions

-- an identifier gets another value, and its definition stays
pub set_definition : (xs : List Symbol) (i j : ℕ) (symbol d : Symbol) → symbol.definition ≡ (slice_index_or xs i d).definition → (slice_index_or (slice_set xs i symbol) j d).definition ≡ (slice_index_or xs j d).definition
set_definition [] i j symbol d h = refl
set_definition (x ∷ xs) zero zero symbol d h = h
set_definition (x ∷ xs) zero (suc j) symbol d h = refl
set_definition (x ∷ xs) (suc i) zero symbol d h = refl
set_definition (x ∷ xs) (suc i) (suc j) symbol d h = set_definition xs i j symbol d h

-- a new identifier has the definition of one that is not there
pub appended_definition : (xs : List Symbol) (j : ℕ) (new d : Symbol) → new.definition ≡ d.definition → (slice_index_or (xs ++ new ∷ []) j d).definition ≡ (slice_index_or xs j d).definition
appended_definition [] zero new d h = h
appended_definition [] (suc j) new d h = refl
appended_definition (x ∷ xs) zero new d h = refl
appended_definition (x ∷ xs) (suc j) new d h = appended_definition xs j new d h
