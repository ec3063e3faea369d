-- A value in a store is a datum: the same atoms, and pairs and vectors whose parts are those of the datum.
use Rattle.std.specs.Prelude.{◌≡◌, ◌↔◌, ℕ, List, [], ◌∷◌, slice_get, Some}
use Rattle.rl_tree.specs.Name.{Name, nil_name}
use Rattle.rl_tree.specs.Value.{Value, Store}
use Rattle.rl_tree.specs.Value as value
use Rattle.rl_text.specs.Datum.{Datum, Elements, Int, Id, Str, Pair, Vector, NoElements, Element}

-- the identifier of this name; of the identifiers of data, that one alone is NIL whose name is NIL's
pub record IsIdentifier (names : ℕ → Name) (nil : ℕ) (v : Value) (name : Name) : Type 0 where
  pub number : ℕ
  pub is : v ≡ value.Id number
  pub named : names number ≡ name
  pub nil_alone : (number ≡ nil) ↔ (name ≡ nil_name)

-- the value refers to a pair of these
pub record IsPairOf (store : Store) (v a d : Value) : Type 0 where
  pub number : ℕ
  pub is : v ≡ value.Ref number
  pub stands : slice_get store number ≡ Some (value.Pair a d)

-- the value refers to a vector of these
pub record IsVectorOf (store : Store) (v : Value) (elements : List Value) : Type 0 where
  pub number : ℕ
  pub is : v ≡ value.Ref number
  pub stands : slice_get store number ≡ Some (value.Vector elements)

-- by the names of identifiers and the number of NIL
abbrev mutual
  pub IsStored : Store → (ℕ → Name) → ℕ → Value → Datum → Type 0
  IsStored store names nil v (Int z) = v ≡ value.Int z
  IsStored store names nil v (Id name) = IsIdentifier names nil v name
  IsStored store names nil v (Str bytes) = v ≡ value.Str bytes
  IsStored store names nil v (Pair a d) = (x : Value) × (y : Value) × IsPairOf store v x y × IsStored store names nil x a × IsStored store names nil y d
  IsStored store names nil v (Vector es) = (xs : List Value) × IsVectorOf store v xs × AreStored store names nil xs es

  pub AreStored : Store → (ℕ → Name) → ℕ → List Value → Elements → Type 0
  AreStored store names nil [] NoElements = Unit {0}
  AreStored store names nil (x ∷ xs) (Element e es) = IsStored store names nil x e × AreStored store names nil xs es
  AreStored store names nil _ _ = ⊥
