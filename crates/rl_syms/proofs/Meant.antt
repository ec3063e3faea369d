-- The objects that cells mean, and what a new one does to that meaning.
use Rattle.std.proofs.Common.{◌≡◌, ℕ, zero, suc, ◌+◌, ◌-◌, ◌<◌, ◌==◌, Bool, true, ◌/◌, ◌%◌, ◌^◌, List, [], ◌∷◌, ◌++◌, length, map, take, replicate, get_or, slice_get, Some, refl, sym, ap, ◌∙◌, arith, length-append, append-nil}
use Rattle.std.specs.List.{flat_map, list_all}
use Rattle.std.proofs.lemmas.List.{get_or_append_left, take-append-le}
use Rattle.std.proofs.lemmas.List.Concat.{get_or-flat_map}
use Rattle.std.proofs.lemmas.List.Folds.{length-flat_map-take}
use Rattle.std.proofs.lemmas.Option.{slice_get-get_or}
use Rattle.std.proofs.lemmas.Grind.{flat_map-append}
use Rattle.std.proofs.lemmas.Bool.{and_parts}
use Rattle.std.proofs.Math.Seq.{take-append_seam, get_or-append_seam}
use Rattle.rl_tags.specs.Tagged.{Tagged, Number, IdAt, StrAt, PairAt, VectorAt, BigAt, FunAt}
use Rattle.rl_cells.specs.Cell.{Cell, PairCell, StrCell, VectorCell, BigCell, BlockCell, More, IsClosed, cost_of, cell_at, is_live, is_id_cell, is_fun_cell, is_str_cell, is_pair_cell, is_vector_cell, is_big_cell, is_closed_cell, is_pair, is_vector, bytes_in, big_in, car_in, cdr_in, vector_in, car_of, cdr_of, vector_of, placed}
use Rattle.rl_tree.specs.Value.{Value, Int, Id, Str, Ref, Fun, Object, Pair, Vector, cons_store}
use Rattle.rl_syms.specs.Contents.{object_count, objects_among, number_at, funs_before, value_of, object_in, objects_meant, store_of}
use Rattle.rl_syms.specs.Laws.{RefersTo}
use Rattle.rl_syms.specs.Readings.{ReadAlike}
use Rattle.rl_syms.proofs.New.{tested_inside}
use Rattle.rl_syms.proofs.Numbers.{ids_numbered, funs_numbered}

number_stays : (cells more : List Cell) (k : ℕ) (test : Cell → Bool) → test More ≡ Bool.false → test (cell_at cells k) ≡ true → number_at (cells ++ more) k ≡ number_at cells k
number_stays cells more k test fails h = let l = tested_inside test fails cells k h in ap objects_among (take-append-le k cells more (omega (arith, l)))

-- a live value means what it meant
pub value_stays : (cells more : List Cell) (v : Tagged) → is_live cells v ≡ true → value_of (cells ++ more) v ≡ value_of cells v
value_stays cells more (Number n) h = refl
value_stays cells more (IdAt k) h =
    let l = tested_inside is_id_cell refl cells k h in
    ap Id (ids_numbered.stays cells more k (omega (arith, l)))
value_stays cells more (StrAt k) h = ap (λ c. Str (bytes_in c)) (get_or_append_left cells more More k (tested_inside is_str_cell refl cells k h))
value_stays cells more (PairAt k) h = ap Ref (number_stays cells more k is_pair_cell refl h)
value_stays cells more (VectorAt k) h = ap Ref (number_stays cells more k is_vector_cell refl h)
value_stays cells more (BigAt k) h = ap (λ c. Int (big_in c)) (get_or_append_left cells more More k (tested_inside is_big_cell refl cells k h))
value_stays cells more (FunAt k) h =
    let l = tested_inside is_fun_cell refl cells (k % 2 ^ 32) h in
    ap (λ f. Fun f (k / 2 ^ 32)) (funs_numbered.stays cells more (k % 2 ^ 32) (omega (arith, l)))

map_stays : (p : Tagged → Bool) (f g : Tagged → Value) → ((v : Tagged) → p v ≡ true → g v ≡ f v) → (xs : List Tagged) → list_all p xs ≡ true → map g xs ≡ map f xs
map_stays p f g e [] h = refl
map_stays p f g e (x ∷ xs) h = let b = and_parts (p x) (list_all p xs) h in rw (e x b.0, map_stays p f g e xs b.1) refl

object_stays : (cells : List Cell) (f g : Tagged → Value) → ((v : Tagged) → is_live cells v ≡ true → g v ≡ f v) → (c : Cell) → is_closed_cell cells c ≡ true → object_in g c ≡ object_in f c
object_stays cells f g e (PairCell a d) h = let b = and_parts (is_live cells a) (is_live cells d) h in rw (e a b.0, e d b.1) refl
object_stays cells f g e (VectorCell xs) h = ap (λ (vs : List Value). Vector vs ∷ []) (map_stays (is_live cells) f g e xs h)
object_stays cells f g e (StrCell bytes) h = refl
object_stays cells f g e (BigCell z) h = refl
object_stays cells f g e (BlockCell t words) h = refl
object_stays cells f g e More h = refl

objects_stay : (all : List Cell) (f g : Tagged → Value) → ((v : Tagged) → is_live all v ≡ true → g v ≡ f v) → (cells : List Cell) → ((j : ℕ) → is_closed_cell all (cell_at cells j) ≡ true) → flat_map (object_in g) cells ≡ flat_map (object_in f) cells
objects_stay all f g e [] h = refl
objects_stay all f g e (c ∷ cs) h = rw (object_stays all f g e c (h 0), objects_stay all f g e cs (λ j. h (suc j))) refl

pub one_object : (f : Tagged → Value) (c : Cell) → length (object_in f c) ≡ object_count c
one_object f (PairCell a d) = refl
one_object f (VectorCell xs) = refl
one_object f (StrCell bytes) = refl
one_object f (BigCell z) = refl
one_object f (BlockCell t words) = refl
one_object f More = refl

pub objects_counted : (f : Tagged → Value) (cells : List Cell) → length (flat_map (object_in f) cells) ≡ objects_among cells
objects_counted f [] = refl
objects_counted f (c ∷ cs) = length-append (object_in f c) (flat_map (object_in f) cs) ∙ rw (one_object f c, objects_counted f cs) refl

object_inside : (cells : List Cell) (k : ℕ) → object_count (cell_at cells k) ≡ 1 → k < length cells
object_inside cells k n = tested_inside (λ c. object_count c == 1) refl cells k (rw n refl)

-- the number of an object is one of the store
pub number_within : (f : Tagged → Value) (cells : List Cell) (k : ℕ) → object_count (cell_at cells k) ≡ 1 → number_at cells k < length (objects_meant f cells)
number_within f cells k n =
    let most = length-flat_map-take (object_in f) cells k More (object_inside cells k n) in
    let before = objects_counted f (take k cells) in
    let one = one_object f (cell_at cells k) in
    omega (arith, most, before, one, n)

-- an object stands at its number
pub object_stands : (f : Tagged → Value) (cells : List Cell) (k : ℕ) (o : Object) → object_in f (cell_at cells k) ≡ o ∷ [] → slice_get (objects_meant f cells) (number_at cells k) ≡ Some o
object_stands f cells k o is =
    let some : length (object_in f (cell_at cells k)) ≡ 1 = ap length is in
    let one : object_count (cell_at cells k) ≡ 1 = sym (one_object f (cell_at cells k)) ∙ some in
    let before : number_at cells k ≡ length (flat_map (object_in f) (take k cells)) + 0 = omega (arith, objects_counted f (take k cells)) in
    slice_get-get_or (objects_meant f cells) (number_at cells k) o (number_within f cells k one)
    ∙ ap Some (ap (λ r. get_or (objects_meant f cells) r o) before ∙ get_or-flat_map (object_in f) cells k 0 More o (object_inside cells k one) (omega (arith, some)) ∙ ap (λ os. get_or os 0 o) is)

pair_in : (f : Tagged → Value) (c : Cell) → is_pair_cell c ≡ true → object_in f c ≡ Pair (f (car_in c)) (f (cdr_in c)) ∷ []
pair_in f (PairCell a d) h = refl
pair_in f c h = cc

vector_inside : (f : Tagged → Value) (c : Cell) → is_vector_cell c ≡ true → object_in f c ≡ Vector (map f (vector_in c)) ∷ []
vector_inside f (VectorCell xs) h = refl
vector_inside f c h = cc

pub pair_read : (cells : List Cell) (p : Tagged) → is_pair cells p ≡ true → RefersTo cells p (Pair (value_of cells (car_of cells p)) (value_of cells (cdr_of cells p)))
pair_read cells (PairAt k) h =
    let c = cell_at cells k in
    let f = value_of cells in
    record { value = refl; stands = object_stands f cells k (Pair (f (car_in c)) (f (cdr_in c))) (pair_in f c h) }
pair_read cells p h = cc

pub vector_read : (cells : List Cell) (v : Tagged) → is_vector cells v ≡ true → RefersTo cells v (Vector (map (value_of cells) (vector_of cells v)))
vector_read cells (VectorAt k) h =
    let c = cell_at cells k in
    let f = value_of cells in
    record { value = refl; stands = object_stands f cells k (Vector (map f (vector_in c))) (vector_inside f c h) }
vector_read cells v h = cc

-- the cells after the first of a new object begin none
pub rest_empty : (f : Tagged → Value) (n : ℕ) → flat_map (object_in f) (replicate n More) ≡ []
rest_empty f zero = refl
rest_empty f (suc n) = rest_empty f n

-- new objects stand behind those that there are
pub objects_grow : (f g : Tagged → Value) (cells more : List Cell) → IsClosed cells → ReadAlike cells f g → objects_meant g (cells ++ more) ≡ objects_meant f cells ++ objects_meant g more
objects_grow f g cells more closed alike =
    flat_map-append (object_in g) cells more ∙ ap (λ os. os ++ objects_meant g more) (objects_stay cells f g alike cells closed.at)

stands_last : (f g : Tagged → Value) (cells : List Cell) (c : Cell) → IsClosed cells → ReadAlike cells f g → objects_meant g (cells ++ placed c) ≡ objects_meant f cells ++ object_in g c
stands_last f g cells c closed alike =
    objects_grow f g cells (placed c) closed alike ∙ ap (λ os. objects_meant f cells ++ os) (rw (rest_empty g (cost_of c - 1)) (append-nil (object_in g c)))

-- by what it held when it was made
pub object_made : (f g : Tagged → Value) (cells : List Cell) (c : Cell) → IsClosed cells → is_closed_cell cells c ≡ true → ReadAlike cells f g → objects_meant g (cells ++ placed c) ≡ objects_meant f cells ++ object_in f c
object_made f g cells c closed live alike =
    stands_last f g cells c closed alike ∙ ap (λ os. objects_meant f cells ++ os) (object_stays cells f g alike c live)

pub objects_alike : (f g : Tagged → Value) (cells : List Cell) → IsClosed cells → ReadAlike cells f g → objects_meant g cells ≡ objects_meant f cells
objects_alike f g cells closed alike = objects_stay cells f g alike cells closed.at

pub object_meant : (cells : List Cell) (c : Cell) → IsClosed cells → is_closed_cell cells c ≡ true → store_of (cells ++ placed c) ≡ store_of cells ++ object_in (value_of cells) c
object_meant cells c closed live = object_made (value_of cells) (value_of (cells ++ placed c)) cells c closed live (value_stays cells (placed c))

pub pair_meant : (cells : List Cell) (a d : Tagged) → IsClosed cells → is_live cells a ≡ true → is_live cells d ≡ true → store_of (cells ++ placed (PairCell a d)) ≡ cons_store (store_of cells) (value_of cells a) (value_of cells d)
pair_meant cells a d closed la ld = object_meant cells (PairCell a d) closed (rw (la, ld) refl)

pub none_in : (f : Tagged → Value) (c : Cell) → object_count c ≡ 0 → object_in f c ≡ []
none_in f (PairCell a d) h = cc
none_in f (VectorCell xs) h = cc
none_in f (StrCell bytes) h = refl
none_in f (BigCell z) h = refl
none_in f (BlockCell t words) h = refl
none_in f More h = refl

pub none_meant : (cells : List Cell) (c : Cell) → IsClosed cells → object_count c ≡ 0 → store_of (cells ++ placed c) ≡ store_of cells
none_meant cells c closed h = stands_last (value_of cells) (value_of (cells ++ placed c)) cells c closed (value_stays cells (placed c)) ∙ rw (none_in (value_of (cells ++ placed c)) c h) (append-nil (store_of cells))

-- a new pair or vector has the next number
pub next_number : (cells : List Cell) (c : Cell) → number_at (cells ++ placed c) (length cells) ≡ length (store_of cells)
next_number cells c = ap objects_among (take-append_seam cells (placed c)) ∙ sym (objects_counted (value_of cells) cells)

pub new_cell : (cells : List Cell) (c : Cell) → cell_at (cells ++ placed c) (length cells) ≡ c
new_cell cells c = get_or-append_seam cells c (replicate (cost_of c - 1) More) More

-- a function behind the others
pub function_named : (cells more : List Cell) → length cells < 2 ^ 32 → value_of (cells ++ more) (FunAt (length cells)) ≡ Fun (funs_before cells (length cells)) 0
function_named cells more l =
    let low : length cells % 2 ^ 32 ≡ length cells = omega (arith, l) in
    let high : length cells / 2 ^ 32 ≡ 0 = omega (arith, l) in
    ap (λ k. Fun (funs_before (cells ++ more) k) (length cells / 2 ^ 32)) low
    ∙ ap (Fun (funs_before (cells ++ more) (length cells))) high
    ∙ ap (λ f. Fun f 0) (funs_numbered.stays cells more (length cells) (omega arith))
