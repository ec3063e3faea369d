-- What a text spells: integers, identifiers by their names, strings, pairs and vectors (Standard Lisp Report 1979, S-expressions).
use Rattle.std.specs.Prelude.{ℤ, ℕ, List, [], ◌∷◌}
use Rattle.rl_tree.specs.Name.{Name, nil_name, quote_name}

mutual
  pub data Datum : Type 0 where
    Int : ℤ → Datum
    Id : Name → Datum
    Str : List ℕ → Datum
    Pair : Datum → Datum → Datum
    Vector : Elements → Datum

  -- the elements of a vector
  pub data Elements : Type 0 where
    NoElements : Elements
    Element : Datum → Elements → Elements

-- the empty list
abbrev pub nil : Datum
nil = Id nil_name

-- `(QUOTE e)`
abbrev pub quoted : Datum → Datum
quoted e = Pair (Id quote_name) (Pair e nil)

-- the list of these, which ends in t
abbrev pub listed : List Datum → Datum → Datum
listed [] t = t
listed (e ∷ es) t = Pair e (listed es t)

-- the vector of these
abbrev pub elements : List Datum → Elements
elements [] = NoElements
elements (e ∷ es) = Element e (elements es)
