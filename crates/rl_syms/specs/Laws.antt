-- What the crates above may say of the table, and of what cells mean.
use Rattle.std.specs.Prelude.{◌≡◌, ℕ, ℤ, ◌^◌, ◌<◌, ◌≤◌, true, List, ◌++◌, length, map, slice_get, slice_set, Option, Some, None}
use Rattle.std.specs.List.{list_all}
use Rattle.rl_tags.specs.declared.Tag.TheVariants as tag
use Rattle.rl_tags.specs.Tagged.{Tagged, FunAt, StrAt, PairAt, VectorAt, BigAt, index_of}
use Rattle.rl_cells.specs.Cell.{Cell, CellStore, PairCell, StrCell, VectorCell, BigCell, BlockCell, IsClosed, is_live, is_id_cell, is_fun_cell, is_pair, is_vector, car_of, cdr_of, vector_of, cell_at, block_with, changed_at, placed, take_cells}
use Rattle.rl_tree.specs.Value.{Fun, Int, Str, Ref, Object, Pair, Vector, new_value, cons_store, cons_value, vector_store, changed_store}
use Rattle.rl_syms.specs.Contents.{funs_before, object_count, number_at, value_of, store_of}
use Rattle.rl_syms.specs.Table.{IsTable, IsNamed, IsFree, ids_from, is_id, name_in_cells, nil_value, rank_of, symbol_in_cells}
use Rattle.rl_syms.specs.Made.{new_id, with_id}
use Rattle.rl_syms.specs.Frame.{Adds, KeepsIdentifiers, words_of_id}

-- what makes or changes other objects keeps the table, its names and no others, and what its identifiers have
pub record IsKept : Type 0 where
  pub table : (old new : List Cell) (head : Option Tagged) → KeepsIdentifiers old new → IsTable old head → IsTable new head
  pub names : (old new : List Cell) (head : Option Tagged) (bytes : List ℕ) (id : Tagged) → KeepsIdentifiers old new → IsTable old head → IsNamed old head bytes id → IsNamed new head bytes id
  pub named_before : (old new : List Cell) (head : Option Tagged) (bytes : List ℕ) (id : Tagged) → KeepsIdentifiers old new → IsTable old head → IsNamed new head bytes id → IsNamed old head bytes id
  pub ids : (old new : List Cell) (v : Tagged) → KeepsIdentifiers old new → is_id new v ≡ is_id old v
  pub symbols : (old new : List Cell) (k : ℕ) → KeepsIdentifiers old new → is_id_cell (cell_at old k) ≡ true → symbol_in_cells new k ≡ symbol_in_cells old k
  pub chains : (old new : List Cell) (head : Option Tagged) → KeepsIdentifiers old new → IsTable old head → ids_from new head ≡ ids_from old head

-- pairs, vectors, strings, wide integers and held functions leave identifiers as they were, where they are made and where they are changed
pub record LeaveIdentifiers : Type 0 where
  pub made : (cells : List Cell) (c : Cell) → words_of_id c ≡ None → KeepsIdentifiers cells (cells ++ placed c)
  pub pair : (cells : List Cell) (p a d : Tagged) → is_pair cells p ≡ true → KeepsIdentifiers cells (changed_at cells p (PairCell a d))
  pub vector : (cells : List Cell) (v : Tagged) (xs : List Tagged) → is_vector cells v ≡ true → length xs ≡ length (vector_of cells v) → KeepsIdentifiers cells (changed_at cells v (VectorCell xs))
  pub word : (cells : List Cell) (k i w : ℕ) → is_fun_cell (cell_at cells k) ≡ true → KeepsIdentifiers cells (changed_at cells (FunAt k) (block_with (cell_at cells k) i w))

-- what was made past a place is released: the table stays where its chain begins before the place, NIL stands before it, and what stands before it names nothing behind it
abbrev pub ReleaseKeepsTable : Type 0
ReleaseKeepsTable = (cells : List Cell) (place : ℕ) (head : Option Tagged) → IsTable cells head → IsClosed (take_cells place cells) → is_live (take_cells place cells) nil_value ≡ true → rank_of head ≤ place → IsTable (take_cells place cells) head

-- identifiers keep their names as objects are added
abbrev pub KeepNames : Type 0
KeepNames = (cells more : List Cell) (head : Option Tagged) (k : ℕ) → IsTable cells head → is_id_cell (cell_at cells k) ≡ true → name_in_cells (cells ++ more) k ≡ name_in_cells cells k

-- what has a name is an identifier
abbrev pub AreIdentifiers : Type 0
AreIdentifiers = (cells : List Cell) (head : Option Tagged) (bytes : List ℕ) (id : Tagged) → IsTable cells head → IsNamed cells head bytes id → is_id cells id ≡ true

-- a name is that of one interned identifier
abbrev pub IsDistinct : Type 0
IsDistinct = (cells : List Cell) (head : Option Tagged) (bytes : List ℕ) (one other : Tagged) → IsTable cells head → IsNamed cells head bytes one → IsNamed cells head bytes other → one ≡ other

-- names are a table with another head, in which this identifier has this name; names that were interned stay so, and objects that stood are as they were
pub record GainsName (old new : List Cell) (before after : Option Tagged) (name : List ℕ) (id : Tagged) : Type 0 where
  pub table : IsTable new after
  pub named : IsNamed new after name id
  pub names : (bytes : List ℕ) (other : Tagged) → IsNamed old before bytes other → IsNamed new after bytes other
  pub adds : Adds old new

-- a new identifier before the others, with a name that none of them has, gives the table that name
abbrev pub NamesEnter : Type 0
NamesEnter = (s : CellStore) (head : Option Tagged) (name : List ℕ) → 1 ≤ length name → length name ≤ 255 → IsTable s.cells head → IsFree s.cells head name
    → GainsName s.cells (with_id s name nil_value head).cells head (Some (new_id s name)) name (new_id s name)

-- when an object is made, what lives means what it meant; a new pair or vector is the next object of the store, by a value that names it; a new string or wide integer means what it holds, and a new function has the next number; and where neither a pair nor a vector is made, the store stays
pub record MakesMeaning : Type 0 where
  pub values : (cells : List Cell) (c : Cell) (v : Tagged) → is_live cells v ≡ true → value_of (cells ++ placed c) v ≡ value_of cells v
  pub grows : (cells more : List Cell) (v : Tagged) → is_live cells v ≡ true → value_of (cells ++ more) v ≡ value_of cells v
  pub pair : (cells : List Cell) (a d : Tagged) → IsClosed cells → is_live cells a ≡ true → is_live cells d ≡ true → store_of (cells ++ placed (PairCell a d)) ≡ cons_store (store_of cells) (value_of cells a) (value_of cells d)
  pub pair_named : (cells : List Cell) (a d : Tagged) → value_of (cells ++ placed (PairCell a d)) (PairAt (length cells)) ≡ cons_value (store_of cells)
  pub vector : (cells : List Cell) (xs : List Tagged) → IsClosed cells → list_all (is_live cells) xs ≡ true → store_of (cells ++ placed (VectorCell xs)) ≡ vector_store (store_of cells) (map (value_of cells) xs)
  pub vector_named : (cells : List Cell) (xs : List Tagged) → value_of (cells ++ placed (VectorCell xs)) (VectorAt (length cells)) ≡ new_value (store_of cells)
  pub string_named : (cells : List Cell) (bytes : List ℕ) → value_of (cells ++ placed (StrCell bytes)) (StrAt (length cells)) ≡ Str bytes
  pub big_named : (cells : List Cell) (z : ℤ) → value_of (cells ++ placed (BigCell z)) (BigAt (length cells)) ≡ Int z
  pub function_named : (cells : List Cell) (words : List ℕ) → length cells < 2 ^ 32 → value_of (cells ++ placed (BlockCell tag.Fun words)) (FunAt (length cells)) ≡ Fun (funs_before cells (length cells)) 0
  pub others : (cells : List Cell) (c : Cell) → IsClosed cells → object_count c ≡ 0 → store_of (cells ++ placed c) ≡ store_of cells

-- every value means what it meant, and the objects are as they were
pub record MeansSame (old new : List Cell) : Type 0 where
  pub store : store_of new ≡ store_of old
  pub values : (v : Tagged) → value_of new v ≡ value_of old v

-- the object that was made r-th has become this one; all others, and what every value means, are as they were
pub record ChangesObject (old new : List Cell) (r : ℕ) (object : Object) : Type 0 where
  pub stood : r < length (store_of old)
  pub store : store_of new ≡ changed_store (store_of old) r object
  pub values : (v : Tagged) → value_of new v ≡ value_of old v

-- a new car or cdr changes the pair that is named, and a new value at a place the vector; a new word of a block changes no object
pub record ChangesMeaning : Type 0 where
  pub car : (cells : List Cell) (p v : Tagged) → is_pair cells p ≡ true
      → ChangesObject cells (changed_at cells p (PairCell v (cdr_of cells p))) (number_at cells (index_of p)) (Pair (value_of cells v) (value_of cells (cdr_of cells p)))
  pub cdr : (cells : List Cell) (p v : Tagged) → is_pair cells p ≡ true
      → ChangesObject cells (changed_at cells p (PairCell (car_of cells p) v)) (number_at cells (index_of p)) (Pair (value_of cells (car_of cells p)) (value_of cells v))
  pub place : (cells : List Cell) (v x : Tagged) (i : ℕ) → is_vector cells v ≡ true
      → ChangesObject cells (changed_at cells v (VectorCell (slice_set (vector_of cells v) i x))) (number_at cells (index_of v)) (Vector (slice_set (map (value_of cells) (vector_of cells v)) i (value_of cells x)))
  pub word : (cells : List Cell) (b : Tagged) (i w : ℕ) → MeansSame cells (changed_at cells b (block_with (cell_at cells (index_of b)) i w))

-- a value refers to the object of its number, and this is the one that the store has there
pub record RefersTo (cells : List Cell) (v : Tagged) (object : Object) : Type 0 where
  pub value : value_of cells v ≡ Ref (number_at cells (index_of v))
  pub stands : slice_get (store_of cells) (number_at cells (index_of v)) ≡ Some object

-- a pair refers to the pair of what its car and cdr mean, and a vector to the vector of what its values mean
pub record IsRead : Type 0 where
  pub pair : (cells : List Cell) (p : Tagged) → is_pair cells p ≡ true → RefersTo cells p (Pair (value_of cells (car_of cells p)) (value_of cells (cdr_of cells p)))
  pub vector : (cells : List Cell) (v : Tagged) → is_vector cells v ≡ true → RefersTo cells v (Vector (map (value_of cells) (vector_of cells v)))
