-- Values and stores, without tags or addresses (Standard Lisp Report 1979, data types). Identifiers and objects are numbered by their making.
use Rattle.std.specs.Prelude.{ℕ, ℤ, List, [], ◌∷◌, ◌++◌, length, slice_set}

-- an integer, the identifier that was made i-th, a string by its bytes, a reference to the object that was made r-th, or a function pointer: the function that was made f-th, and a place in it, which is 0 for the function itself and i + 1 for the part at node i of its body
pub data Value : Type 0 where
  Int : ℤ → Value
  Id : ℕ → Value
  Str : List ℕ → Value
  Ref : ℕ → Value
  Fun : ℕ → ℕ → Value

-- a pair, or a vector by its elements
pub data Object : Type 0 where
  Pair : Value → Value → Object
  Vector : List Value → Object

-- a store: the objects in the order of their making
abbrev pub Store : Type 0
Store = List Object

-- what names the next object that is made
abbrev pub new_value : Store → Value
new_value store = Ref (length store)

-- CONS: the store with one more pair, and what names that pair
abbrev pub cons_store : Store → Value → Value → Store
cons_store store a d = store ++ Pair a d ∷ []

abbrev pub cons_value : Store → Value
cons_value store = new_value store

-- MKVECT: the store with one more vector, of these elements
abbrev pub vector_store : Store → List Value → Store
vector_store store elements = store ++ Vector elements ∷ []

-- RPLACA, RPLACD, PUTV: the store in which the object that was made r-th has become another
abbrev pub changed_store : Store → ℕ → Object → Store
changed_store store r object = slice_set store r object
