-- What a change of one object does to the meaning of cells.
use Rattle.std.proofs.Common.{◌≡◌, ℕ, zero, suc, ◌+◌, ◌-◌, ◌/◌, ◌%◌, ◌^◌, true, List, [], ◌∷◌, ◌++◌, map, set, refl, sym, ap, ◌∙◌, arith}
use Rattle.std.specs.List.{flat_map}
use Rattle.std.proofs.Math.Path.{fun_ext}
use Rattle.std.proofs.lemmas.List.{map-set, set-append_right}
use Rattle.rl_tags.specs.Tagged.{Tagged, Number, IdAt, StrAt, PairAt, VectorAt, BigAt, FunAt, index_of}
use Rattle.rl_tags.specs.declared.Tag.{Tag}
use Rattle.rl_tags.specs.declared.Tag.TheVariants as tag
use Rattle.rl_cells.specs.Cell.{Cell, PairCell, VectorCell, BlockCell, cell_at, is_id_cell, is_fun_cell, is_pair_cell, is_vector_cell, is_pair, is_vector, bytes_in, bytes_of, big_in, vector_in, vector_of, car_in, cdr_in, car_of, cdr_of, block_with, changed_at}
use Rattle.rl_tree.specs.Value.{Value, Int, Id, Str, Ref, Fun, Object, Pair, Vector}
use Rattle.rl_syms.specs.Contents.{object_count, number_at, value_of, object_in, store_of}
use Rattle.rl_syms.specs.Laws.{MeansSame, ChangesObject}
use Rattle.rl_syms.proofs.Meant.{one_object, number_within}
use Rattle.rl_syms.proofs.Numbers.{ids_numbered, funs_numbered}

-- two cells that no value tells apart
record IsAlike (c d : Cell) : Type 0 where
  pub count : object_count c ≡ object_count d
  pub bytes : bytes_in c ≡ bytes_in d
  pub big : big_in c ≡ big_in d
  pub id : is_id_cell c ≡ is_id_cell d
  pub «fun» : is_fun_cell c ≡ is_fun_cell d

pair_alike : (c : Cell) (a d : Tagged) → is_pair_cell c ≡ true → IsAlike (PairCell a d) c
pair_alike (PairCell x y) a d h = record { count = refl; bytes = refl; big = refl; id = refl; «fun» = refl }
pair_alike c a d h = cc

vector_alike : (c : Cell) (xs : List Tagged) → is_vector_cell c ≡ true → IsAlike (VectorCell xs) c
vector_alike (VectorCell ys) xs h = record { count = refl; bytes = refl; big = refl; id = refl; «fun» = refl }
vector_alike c xs h = cc

-- whether a block is an identifier is a question of its tag
id_by_tag : (t : Tag) (words others : List ℕ) → is_id_cell (BlockCell t words) ≡ is_id_cell (BlockCell t others)
id_by_tag tag.Int words others = refl
id_by_tag tag.Id words others = refl
id_by_tag tag.Str words others = refl
id_by_tag tag.Pair words others = refl
id_by_tag tag.Vector words others = refl
id_by_tag tag.Big words others = refl
id_by_tag tag.Fun words others = refl

fun_by_tag : (t : Tag) (words others : List ℕ) → is_fun_cell (BlockCell t words) ≡ is_fun_cell (BlockCell t others)
fun_by_tag tag.Int words others = refl
fun_by_tag tag.Id words others = refl
fun_by_tag tag.Str words others = refl
fun_by_tag tag.Pair words others = refl
fun_by_tag tag.Vector words others = refl
fun_by_tag tag.Big words others = refl
fun_by_tag tag.Fun words others = refl

block_alike : (c : Cell) (i w : ℕ) → IsAlike (block_with c i w) c
block_alike (BlockCell t words) i w = record { count = refl; bytes = refl; big = refl; id = id_by_tag t (set words i w) words; «fun» = fun_by_tag t (set words i w) words }
block_alike c i w = record { count = refl; bytes = refl; big = refl; id = refl; «fun» = refl }

-- what a cell has that does not tell the two apart stays
pub part_stays : {X : Type 0} (part : Cell → X) (cells : List Cell) (k : ℕ) (c : Cell) (j : ℕ) → part c ≡ part (cell_at cells k) → part (cell_at (set cells k c) j) ≡ part (cell_at cells j)
part_stays part [] k c j h = refl
part_stays part (x ∷ cells) zero c zero h = h
part_stays part (x ∷ cells) zero c (suc j) h = refl
part_stays part (x ∷ cells) (suc k) c zero h = refl
part_stays part (x ∷ cells) (suc k) c (suc j) h = part_stays part cells k c j h

pub text_same : (cells : List Cell) (k : ℕ) (c : Cell) (v : Tagged) → bytes_in c ≡ bytes_in (cell_at cells k) → bytes_of (set cells k c) v ≡ bytes_of cells v
text_same cells k c (StrAt j) h = part_stays bytes_in cells k c j h
text_same cells k c (Number z) h = refl
text_same cells k c (IdAt j) h = refl
text_same cells k c (PairAt j) h = refl
text_same cells k c (VectorAt j) h = refl
text_same cells k c (BigAt j) h = refl
text_same cells k c (FunAt j) h = refl

number_same : (cells : List Cell) (k : ℕ) (c : Cell) (j : ℕ) → object_count c ≡ object_count (cell_at cells k) → number_at (set cells k c) j ≡ number_at cells j
number_same [] k c j h = refl
number_same (x ∷ cells) zero c zero h = refl
number_same (x ∷ cells) zero c (suc j) h = ap (λ n. n + number_at cells j) h
number_same (x ∷ cells) (suc k) c zero h = refl
number_same (x ∷ cells) (suc k) c (suc j) h = ap (λ n. object_count x + n) (number_same cells k c j h)

value_same : (cells : List Cell) (k : ℕ) (c : Cell) (v : Tagged) → IsAlike c (cell_at cells k) → value_of (set cells k c) v ≡ value_of cells v
value_same cells k c (Number n) a = refl
value_same cells k c (IdAt j) a = ap Id (ids_numbered.same cells (set cells k c) j (λ i _. part_stays is_id_cell cells k c i a.id))
value_same cells k c (StrAt j) a = ap Str (part_stays bytes_in cells k c j a.bytes)
value_same cells k c (PairAt j) a = ap Ref (number_same cells k c j a.count)
value_same cells k c (VectorAt j) a = ap Ref (number_same cells k c j a.count)
value_same cells k c (BigAt j) a = ap Int (part_stays big_in cells k c j a.big)
value_same cells k c (FunAt j) a = ap (λ f. Fun f (j / 2 ^ 32)) (funs_numbered.same cells (set cells k c) (j % 2 ^ 32) (λ i _. part_stays is_fun_cell cells k c i a.fun))

-- the objects of the changed cells, by what values meant before
store_by_old : (cells : List Cell) (k : ℕ) (c : Cell) → IsAlike c (cell_at cells k) → store_of (set cells k c) ≡ flat_map (object_in (value_of cells)) (set cells k c)
store_by_old cells k c a = ap (λ (f : Tagged → Value). flat_map (object_in f) (set cells k c)) (fun_ext (λ v. value_same cells k c v a))

pub objects_same : (f : Tagged → Value) (cells : List Cell) (k : ℕ) (c : Cell) → object_in f c ≡ object_in f (cell_at cells k) → flat_map (object_in f) (set cells k c) ≡ flat_map (object_in f) cells
objects_same f [] k c h = refl
objects_same f (x ∷ cells) zero c h = ap (λ os. os ++ flat_map (object_in f) cells) h
objects_same f (x ∷ cells) (suc k) c h = ap (λ os. object_in f x ++ os) (objects_same f cells k c h)

block_same : (f : Tagged → Value) (c : Cell) (i w : ℕ) → object_in f (block_with c i w) ≡ object_in f c
block_same f (BlockCell t words) i w = refl
block_same f c i w = refl

first_changed : (f : Tagged → Value) (c : Cell) (objects : List Object) (o : Object) → object_count c ≡ 1 → o ∷ objects ≡ set (object_in f c ++ objects) 0 o
first_changed f (PairCell a d) objects o h = refl
first_changed f (VectorCell xs) objects o h = refl
first_changed f c objects o h = cc

-- the object of a cell is the one of its number
pub one_changed : (f : Tagged → Value) (cells : List Cell) (k : ℕ) (c : Cell) (o : Object) → object_count (cell_at cells k) ≡ 1 → object_in f c ≡ o ∷ []
    → flat_map (object_in f) (set cells k c) ≡ set (flat_map (object_in f) cells) (number_at cells k) o
one_changed f [] k c o n is = cc
one_changed f (x ∷ cells) zero c o n is = rw is (first_changed f x (flat_map (object_in f) cells) o n)
one_changed f (x ∷ cells) (suc k) c o n is =
    let rest = flat_map (object_in f) cells in
    let m = object_count x in
    let r = number_at cells k in
    ap (λ os. object_in f x ++ os) (one_changed f cells k c o n is)
    ∙ ap (λ j. object_in f x ++ set rest j o) (let e : r ≡ (m + r) - m = omega arith in e)
    ∙ sym (set-append_right (object_in f x) rest m (m + r) o (one_object f x) (omega arith))

changes : (cells : List Cell) (k : ℕ) (c : Cell) (o : Object) → IsAlike c (cell_at cells k) → object_count c ≡ 1 → object_in (value_of cells) c ≡ o ∷ [] → ChangesObject cells (set cells k c) (number_at cells k) o
changes cells k c o a n is =
    let count : object_count (cell_at cells k) ≡ 1 = sym a.count ∙ n in
    record {
      stood = number_within (value_of cells) cells k count;
      store = store_by_old cells k c a ∙ one_changed (value_of cells) cells k c o count is;
      values = λ v. value_same cells k c v a;
    }

keeps : (cells : List Cell) (k : ℕ) (i w : ℕ) → MeansSame cells (set cells k (block_with (cell_at cells k) i w))
keeps cells k i w =
    let a = block_alike (cell_at cells k) i w in
    let c = block_with (cell_at cells k) i w in
    record {
      store = store_by_old cells k c a ∙ objects_same (value_of cells) cells k c (block_same (value_of cells) (cell_at cells k) i w);
      values = λ v. value_same cells k c v a;
    }

pub car_changes : (cells : List Cell) (p v : Tagged) → is_pair cells p ≡ true
    → ChangesObject cells (changed_at cells p (PairCell v (cdr_of cells p))) (number_at cells (index_of p)) (Pair (value_of cells v) (value_of cells (cdr_of cells p)))
car_changes cells (PairAt k) v h =
    let d = cdr_in (cell_at cells k) in
    changes cells k (PairCell v d) (Pair (value_of cells v) (value_of cells d)) (pair_alike (cell_at cells k) v d h) refl refl
car_changes cells p v h = cc

pub cdr_changes : (cells : List Cell) (p v : Tagged) → is_pair cells p ≡ true
    → ChangesObject cells (changed_at cells p (PairCell (car_of cells p) v)) (number_at cells (index_of p)) (Pair (value_of cells (car_of cells p)) (value_of cells v))
cdr_changes cells (PairAt k) v h =
    let a = car_in (cell_at cells k) in
    changes cells k (PairCell a v) (Pair (value_of cells a) (value_of cells v)) (pair_alike (cell_at cells k) a v h) refl refl
cdr_changes cells p v h = cc

pub place_changes : (cells : List Cell) (v x : Tagged) (i : ℕ) → is_vector cells v ≡ true
    → ChangesObject cells (changed_at cells v (VectorCell (set (vector_of cells v) i x))) (number_at cells (index_of v)) (Vector (set (map (value_of cells) (vector_of cells v)) i (value_of cells x)))
place_changes cells (VectorAt k) x i h =
    let f = value_of cells in
    let xs = vector_in (cell_at cells k) in
    changes cells k (VectorCell (set xs i x)) (Vector (set (map f xs) i (f x))) (vector_alike (cell_at cells k) (set xs i x) h) refl (ap (λ (vs : List Value). Vector vs ∷ []) (map-set f xs i x))
place_changes cells v x i h = cc

pub word_keeps : (cells : List Cell) (b : Tagged) (i w : ℕ) → MeansSame cells (changed_at cells b (block_with (cell_at cells (index_of b)) i w))
word_keeps cells (Number n) i w = record { store = refl; values = λ v. refl }
word_keeps cells b i w = keeps cells (index_of b) i w
