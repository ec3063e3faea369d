-- The meaning of cells, tried on examples: each side computes to the other.
use Rattle.std.proofs.Common.{◌≡◌, ◌+◌, ◌*◌, ◌^◌, List, ◌++◌, [], ◌∷◌, pos, set, refl}
use Rattle.std.specs.Prelude.{codes, slice_get, Some, None}
use Rattle.rl_tags.specs.declared.Tag.TheVariants as tag
use Rattle.rl_tags.specs.Tagged.{Number, IdAt, FunAt, StrAt, PairAt, VectorAt}
use Rattle.rl_cells.specs.Cell.{Cell, BlockCell, PairCell, StrCell, VectorCell, placed, changed_at, cdr_of, vector_of}
use Rattle.rl_tree.specs.Value.{Int, Id, Str, Ref, Fun, Pair, Vector, new_value, cons_store, cons_value, vector_store, changed_store}
use Rattle.rl_syms.specs.Contents.{funs_before, ids_before, number_at, value_of, store_of}

-- (1 . "ab") is made after its string, and is the first object
pub pair_of_string : store_of (placed (StrCell (codes "ab")) ++ placed (PairCell (Number (pos 1)) (StrAt 0))) ≡ Pair (Int (pos 1)) (Str (codes "ab")) ∷ []
pair_of_string = refl

-- a vector of three places takes three cells, and the pair that holds it twice is the second object
pub pair_of_vectors : store_of (placed (VectorCell (Number (pos 7) ∷ IdAt 2 ∷ Number (pos 9) ∷ [])) ++ placed (PairCell (VectorAt 0) (VectorAt 0))) ≡ Vector (Int (pos 7) ∷ Id 0 ∷ Int (pos 9) ∷ []) ∷ Pair (Ref 0) (Ref 0) ∷ []
unfolding ids_before
pair_of_vectors = refl

-- a pair that holds itself
pub pair_of_itself : store_of (placed (PairCell (PairAt 0) (Number (pos 3)))) ≡ Pair (Ref 0) (Int (pos 3)) ∷ []
pair_of_itself = refl

-- a new pair is what CONS makes
pub pair_made : store_of (placed (PairCell (Number (pos 1)) (Number (pos 2))) ++ placed (PairCell (PairAt 0) (Number (pos 3)))) ≡ cons_store (store_of (placed (PairCell (Number (pos 1)) (Number (pos 2))))) (Ref 0) (Int (pos 3))
pair_made = refl

-- and the value that names it is that of CONS
pub pair_named : value_of (placed (PairCell (Number (pos 1)) (Number (pos 2))) ++ placed (PairCell (PairAt 0) (Number (pos 3)))) (PairAt 1) ≡ cons_value (store_of (placed (PairCell (Number (pos 1)) (Number (pos 2)))))
pair_named = refl

-- a new vector is the next object, and the value that names it says so
pub vector_made : store_of (placed (PairCell (Number (pos 1)) (Number (pos 2))) ++ placed (VectorCell (PairAt 0 ∷ Number (pos 3) ∷ []))) ≡ vector_store (store_of (placed (PairCell (Number (pos 1)) (Number (pos 2))))) (Ref 0 ∷ Int (pos 3) ∷ [])
vector_made = refl

pub vector_named : value_of (placed (PairCell (Number (pos 1)) (Number (pos 2))) ++ placed (VectorCell (PairAt 0 ∷ Number (pos 3) ∷ []))) (VectorAt 1) ≡ new_value (store_of (placed (PairCell (Number (pos 1)) (Number (pos 2)))))
vector_named = refl

-- a string, the pair (1 . "ab"), and two pairs that both name it
abbrev pub shared : List Cell
shared = placed (StrCell (codes "ab")) ++ placed (PairCell (Number (pos 1)) (StrAt 0)) ++ placed (PairCell (PairAt 2) (Number (pos 3))) ++ placed (PairCell (Number (pos 4)) (PairAt 2))

abbrev pub shared_changed : List Cell
shared_changed = changed_at shared (PairAt 2) (PairCell (Number (pos 9)) (cdr_of shared (PairAt 2)))

-- RPLACA changes the first object alone, and both still name it
pub car_changed : store_of shared_changed ≡ Pair (Int (pos 9)) (Str (codes "ab")) ∷ Pair (Ref 0) (Int (pos 3)) ∷ Pair (Int (pos 4)) (Ref 0) ∷ []
car_changed = refl

pub car_is_rplaca : store_of shared_changed ≡ changed_store (store_of shared) 0 (Pair (Int (pos 9)) (Str (codes "ab")))
car_is_rplaca = refl

-- the pair (1 . 2), and a vector of it and NIL
abbrev pub held : List Cell
held = placed (PairCell (Number (pos 1)) (Number (pos 2))) ++ placed (VectorCell (PairAt 0 ∷ IdAt 2 ∷ []))

abbrev pub held_changed : List Cell
held_changed = changed_at held (VectorAt 1) (VectorCell (set (vector_of held (VectorAt 1)) 1 (PairAt 0)))

-- PUTV changes one place of the second object
pub place_changed : store_of held_changed ≡ Pair (Int (pos 1)) (Int (pos 2)) ∷ Vector (Ref 0 ∷ Ref 0 ∷ []) ∷ []
place_changed = refl

pub place_is_putv : store_of held_changed ≡ changed_store (store_of held) 1 (Vector (Ref 0 ∷ Ref 0 ∷ []))
place_is_putv = refl

-- a pair is read at its number, behind the pair that was made before it
pub pair_referred : value_of shared (PairAt 3) ≡ Ref 1
pair_referred = refl

pub pair_read : slice_get (store_of shared) (number_at shared 3) ≡ Some (Pair (Ref 0) (Int (pos 3)))
pair_read = refl

-- and so is a vector
pub vector_referred : value_of held (VectorAt 1) ≡ Ref 1
vector_referred = refl

pub vector_read : slice_get (store_of held) (number_at held 1) ≡ Some (Vector (Ref 0 ∷ Id 0 ∷ []))
unfolding ids_before
vector_read = refl

-- no object has the number of the next place
pub none_read : slice_get (store_of held) (number_at held 4) ≡ None
none_read = refl

-- two identifiers with a string before each: the second is number 1, whatever its place
abbrev pub two_ids : List Cell
two_ids = placed (StrCell (codes "A")) ++ placed (BlockCell tag.Id (2 ∷ 15 ∷ 33 ∷ 15 ∷ 0 ∷ 15 ∷ [])) ++ placed (StrCell (codes "B")) ++ placed (BlockCell tag.Id (82 ∷ 15 ∷ 33 ∷ 15 ∷ 0 ∷ 33 ∷ []))

pub second_id : value_of two_ids (IdAt 7) ≡ Id 1
unfolding ids_before
second_id = refl

-- a place in the second of two functions
pub part_of_second : value_of (placed (BlockCell tag.Fun (0 ∷ 0 ∷ [])) ++ placed (BlockCell tag.Id (0 ∷ 0 ∷ [])) ++ placed (BlockCell tag.Fun (0 ∷ []))) (FunAt (2 + 5 * 2 ^ 32)) ≡ Fun 1 5
unfolding funs_before
part_of_second = refl
