-- What comes of one step of the walk.
use Rattle.std.proofs.Common.{◌≡◌, ◌≢◌, ℕ, suc, Bool, true, false, if◌then◌else◌, List, [], ◌∷◌, Some, refl, sym, ap, ◌∙◌, arith}
use Rattle.std.specs.Prelude.{◌==◌, slice_get}
use Rattle.std.proofs.lemmas.Bool.Decides.{nat_tests}
use Rattle.rl_tree.specs.Value.{Value, Id, Ref, Object, Pair, Vector}
use Rattle.rl_tree.specs.Printing.{Ending, Whole, NoTurn, TooDeep, Progress, Setting, marked, with_atom_of, goes_on, and_then, with_turn_of, with_turn, places_printed, object_printed, value_printed, dotted_atom, rest_object, rest_printed, printed}
use Rattle.rl_print.specs.Walk.{whole_printer, WalkPlace, Rest, Places, closed_walk, place_printed, all_printed, element_printed}
use Rattle.rl_print.proofs.Turns.{whole_element, whole_listed, printed_whole}

-- ---- order

then_whole : (p : Progress) (f : Progress → Progress) → p.ending ≡ Whole → and_then p f ≡ f p
then_whole p f e = ap (λ w. goes_on w p f) e

then_stopped : (p : Progress) (f : Progress → Progress) → p.ending ≢ Whole → and_then p f ≡ p
then_stopped p f h = go p.ending refl
  where
    go : (e : Ending) → e ≡ p.ending → goes_on e p f ≡ p
    go Whole e = absurd (h (sym e))
    go NoTurn e = refl
    go TooDeep e = refl

then_nothing : (p : Progress) → and_then p (λ q. q) ≡ p
then_nothing p = go p.ending
  where
    go : (e : Ending) → goes_on e p (λ q. q) ≡ p
    go Whole = refl
    go NoTurn = refl
    go TooDeep = refl

goes_on_of : (e : Ending) (p : Progress) (f : Progress → Progress) → p.ending ≡ e → and_then p f ≡ goes_on e p f
goes_on_of e p f h = ap (λ w. goes_on w p f) h

then_then : (p : Progress) (f g : Progress → Progress) → and_then (and_then p f) g ≡ and_then p (λ q. and_then (f q) g)
then_then p f g = go p.ending refl
  where
    go : (e : Ending) → p.ending ≡ e → and_then (goes_on e p f) g ≡ goes_on e p (λ q. and_then (f q) g)
    go Whole h = refl
    go NoTurn h = ap (λ w. goes_on w p g) h
    go TooDeep h = ap (λ w. goes_on w p g) h

-- a turn, where one is left, and where none is
turn_taken : (p : Progress) (f : Progress → Progress) (t : ℕ) → p.turns ≡ suc t → with_turn p f ≡ f (record p { turns = t })
turn_taken p f t e = ap (λ n. with_turn_of n p f) e

turn_wanting : (p : Progress) (f : Progress → Progress) → p.turns ≡ 0 → with_turn p f ≡ record p { ending = NoTurn }
turn_wanting p f e = ap (λ n. with_turn_of n p f) e

-- ---- an element

-- an atom is printed, and what waits comes next
pub atom_next : (g : Setting) (v : Value) (places : List WalkPlace) (levels : ℕ) (p : Progress) → value_printed g (whole_printer g) true v levels p ≡ with_atom_of g v p → p.ending ≡ Whole → element_printed g v places levels p ≡ all_printed g places levels (with_atom_of g v p)
atom_next g v places levels p atom e = ap (λ r. and_then r (all_printed g places levels)) atom ∙ then_whole (with_atom_of g v p) (all_printed g places levels) e

pair_value : (g : Setting) (inner : Bool) (r : ℕ) (a d : Value) (levels : ℕ) (p : Progress) → slice_get g.store r ≡ Some (Pair a d) → value_printed g (whole_printer g) inner (Ref r) levels p ≡ object_printed (whole_printer g) inner (Some (Pair a d)) levels p
pair_value g inner r a d levels p is = ap (λ o. object_printed (whole_printer g) inner o levels p) is

vector_value : (g : Setting) (inner : Bool) (r : ℕ) (xs : List Value) (levels : ℕ) (p : Progress) → slice_get g.store r ≡ Some (Vector xs) → value_printed g (whole_printer g) inner (Ref r) levels p ≡ object_printed (whole_printer g) inner (Some (Vector xs)) levels p
vector_value g inner r xs levels p is = ap (λ o. object_printed (whole_printer g) inner o levels p) is

pub pair_wants_turn : (g : Setting) (r : ℕ) (a d : Value) (places : List WalkPlace) (levels : ℕ) (p : Progress) → slice_get g.store r ≡ Some (Pair a d) → p.turns ≡ 0 → element_printed g (Ref r) places levels p ≡ record p { ending = NoTurn }
pair_wants_turn g r a d places levels p is none =
    ap (λ r. and_then r (all_printed g places levels)) (pair_value g true r a d levels p is ∙ turn_wanting p _ none)

pub pair_wants_level : (g : Setting) (r : ℕ) (a d : Value) (places : List WalkPlace) (p : Progress) (t : ℕ) → slice_get g.store r ≡ Some (Pair a d) → p.turns ≡ suc t → element_printed g (Ref r) places 0 p ≡ record p { turns = t; ending = TooDeep }
pair_wants_level g r a d places p t is turns =
    ap (λ r. and_then r (all_printed g places 0)) (pair_value g true r a d 0 p is ∙ turn_taken p _ t turns)

-- the pair of an element, and behind it what waits
pub pair_begins : (g : Setting) (r : ℕ) (a d : Value) (places : List WalkPlace) (levels : ℕ) (p : Progress) (t : ℕ) → slice_get g.store r ≡ Some (Pair a d) → p.turns ≡ suc t
    → element_printed g (Ref r) places (suc levels) p ≡ element_printed g a (Rest d ∷ places) levels (marked (40 ∷ []) (record p { turns = t }))
pair_begins g r a d places levels p t is turns =
    let q : Progress = record p { turns = t } in
    let b = marked (40 ∷ []) q in
    let rest = all_printed g places (suc levels) in
    ap (λ r. and_then r rest) (pair_value g true r a d (suc levels) p is ∙ (turn_taken p _ t turns ∙ whole_listed g a d levels b))
    ∙ then_then (value_printed g (whole_printer g) true a levels b) (rest_printed g (whole_printer g) d levels) rest

pub vector_wants_level : (g : Setting) (r : ℕ) (xs : List Value) (places : List WalkPlace) (p : Progress) → slice_get g.store r ≡ Some (Vector xs) → element_printed g (Ref r) places 0 p ≡ record p { ending = TooDeep }
vector_wants_level g r xs places p is = ap (λ r. and_then r (all_printed g places 0)) (vector_value g true r xs 0 p is)

pub vector_begins : (g : Setting) (r : ℕ) (xs : List Value) (places : List WalkPlace) (levels : ℕ) (p : Progress) → slice_get g.store r ≡ Some (Vector xs)
    → element_printed g (Ref r) places (suc levels) p ≡ all_printed g (Places true xs false ∷ places) levels (marked (91 ∷ []) p)
vector_begins g r xs places levels p is =
    let rest = all_printed g places (suc levels) in
    let inside = places_printed (whole_printer g) true xs levels (marked (91 ∷ []) p) in
    ap (λ r. and_then r rest) (vector_value g true r xs (suc levels) p is) ∙ ap (λ r. and_then r rest) (sym (then_nothing inside))

-- ---- the root

pub root_atom : (g : Setting) (v : Value) (levels : ℕ) (p : Progress) → value_printed g (whole_printer g) false v levels p ≡ with_atom_of g v p → printed g v levels p ≡ with_atom_of g v p
root_atom g v levels p atom = printed_whole g v levels p ∙ atom

pub root_pair_wants_turn : (g : Setting) (r : ℕ) (a d : Value) (levels : ℕ) (p : Progress) → slice_get g.store r ≡ Some (Pair a d) → p.turns ≡ 0 → printed g (Ref r) levels p ≡ record p { ending = NoTurn }
root_pair_wants_turn g r a d levels p is none = printed_whole g (Ref r) levels p ∙ (pair_value g false r a d levels p is ∙ turn_wanting p _ none)

pub root_pair : (g : Setting) (r : ℕ) (a d : Value) (levels : ℕ) (p : Progress) (t : ℕ) → slice_get g.store r ≡ Some (Pair a d) → p.turns ≡ suc t
    → printed g (Ref r) levels p ≡ element_printed g a (Rest d ∷ []) levels (marked (40 ∷ []) (record p { turns = t }))
root_pair g r a d levels p t is turns =
    let b = marked (40 ∷ []) (record p { turns = t }) in
    let x = value_printed g (whole_printer g) true a levels b in
    printed_whole g (Ref r) levels p ∙ (pair_value g false r a d levels p is ∙ (turn_taken p _ t turns ∙ (whole_listed g a d levels b
    ∙ (sym (then_nothing (and_then x (rest_printed g (whole_printer g) d levels))) ∙ then_then x (rest_printed g (whole_printer g) d levels) (λ q. q)))))

pub root_vector : (g : Setting) (r : ℕ) (xs : List Value) (levels : ℕ) (p : Progress) → slice_get g.store r ≡ Some (Vector xs)
    → printed g (Ref r) levels p ≡ all_printed g (Places true xs false ∷ []) levels (marked (91 ∷ []) p)
root_vector g r xs levels p is =
    let inside = places_printed (whole_printer g) true xs levels (marked (91 ∷ []) p) in
    printed_whole g (Ref r) levels p ∙ (vector_value g false r xs levels p is ∙ (sym (then_nothing inside) ∙ ap (λ r. and_then r (λ q. q)) (sym (then_nothing inside))))

-- ---- the rest of a list

-- one more is printed, and then what waits with a level left
pub place_done : (g : Setting) (c : WalkPlace) (places : List WalkPlace) (levels : ℕ) (p q : Progress) → place_printed g c levels p ≡ q → q.ending ≡ Whole → all_printed g (c ∷ places) levels p ≡ all_printed g places (suc levels) q
place_done g c places levels p q is e = ap (λ r. and_then r (all_printed g places (suc levels))) is ∙ then_whole q (all_printed g places (suc levels)) e

pub rest_nil : (g : Setting) (levels : ℕ) (p : Progress) → place_printed g (Rest (Id g.nil)) levels p ≡ marked (41 ∷ []) p
rest_nil g levels p = go (g.nil == g.nil) (same g.nil)
  where
    same : (n : ℕ) → (n == n) ≡ true
    same n = grind (arith, nat_tests)

    go : (b : Bool) → b ≡ true → (if b then marked (41 ∷ []) p else dotted_atom g (Id g.nil) p) ≡ marked (41 ∷ []) p
    go true e = refl
    go false e = absurd (cc)

rest_pair_value : (g : Setting) (r : ℕ) (o : Object) (levels : ℕ) (p : Progress) → slice_get g.store r ≡ Some o → place_printed g (Rest (Ref r)) levels p ≡ rest_object (whole_printer g) (Some o) levels p
rest_pair_value g r o levels p is = ap (λ o. rest_object (whole_printer g) o levels p) is

pub rest_wants_turn : (g : Setting) (r : ℕ) (a d : Value) (places : List WalkPlace) (levels : ℕ) (p : Progress) → slice_get g.store r ≡ Some (Pair a d) → p.turns ≡ 0 → all_printed g (Rest (Ref r) ∷ places) levels p ≡ record p { ending = NoTurn }
rest_wants_turn g r a d places levels p is none =
    ap (λ r. and_then r (all_printed g places (suc levels))) (rest_pair_value g r (Pair a d) levels p is ∙ turn_wanting p _ none)

pub rest_pair : (g : Setting) (r : ℕ) (a d : Value) (places : List WalkPlace) (levels : ℕ) (p : Progress) (t : ℕ) → slice_get g.store r ≡ Some (Pair a d) → p.turns ≡ suc t
    → all_printed g (Rest (Ref r) ∷ places) levels p ≡ element_printed g a (Rest d ∷ places) levels (marked (32 ∷ []) (record p { turns = t }))
rest_pair g r a d places levels p t is turns =
    let b = marked (32 ∷ []) (record p { turns = t }) in
    let rest = all_printed g places (suc levels) in
    ap (λ r. and_then r rest) (rest_pair_value g r (Pair a d) levels p is ∙ (turn_taken p _ t turns ∙ whole_listed g a d levels b))
    ∙ then_then (value_printed g (whole_printer g) true a levels b) (rest_printed g (whole_printer g) d levels) rest

pub rest_vector : (g : Setting) (r : ℕ) (xs : List Value) (places : List WalkPlace) (levels : ℕ) (p : Progress) → slice_get g.store r ≡ Some (Vector xs)
    → all_printed g (Rest (Ref r) ∷ places) levels p ≡ all_printed g (Places true xs true ∷ places) levels (marked (91 ∷ []) (marked (32 ∷ 46 ∷ 32 ∷ []) p))
rest_vector g r xs places levels p is = ap (λ r. and_then r (all_printed g places (suc levels))) (rest_pair_value g r (Vector xs) levels p is)

-- ---- the places of a vector

pub places_end : (g : Setting) (first dotted : Bool) (levels : ℕ) (p : Progress) → p.ending ≡ Whole → place_printed g (Places first [] dotted) levels p ≡ closed_walk dotted (marked (93 ∷ []) p)
places_end g first dotted levels p e = then_whole (marked (93 ∷ []) p) (closed_walk dotted) e

pub places_want_turn : (g : Setting) (first dotted : Bool) (x : Value) (xs : List Value) (places : List WalkPlace) (levels : ℕ) (p : Progress) → p.turns ≡ 0 → all_printed g (Places first (x ∷ xs) dotted ∷ places) levels p ≡ record p { ending = NoTurn }
places_want_turn g first dotted x xs places levels p none =
    ap (λ r. and_then (and_then r (closed_walk dotted)) (all_printed g places (suc levels))) (turn_wanting p _ none)

pub places_go_on : (g : Setting) (first dotted : Bool) (x : Value) (xs : List Value) (places : List WalkPlace) (levels : ℕ) (p : Progress) (t : ℕ) → p.turns ≡ suc t
    → all_printed g (Places first (x ∷ xs) dotted ∷ places) levels p ≡ element_printed g x (Places false xs dotted ∷ places) levels (if first then record p { turns = t } else marked (32 ∷ []) (record p { turns = t }))
places_go_on g first dotted x xs places levels p t turns =
    let q : Progress = record p { turns = t } in
    let b : Progress = if first then q else marked (32 ∷ []) q in
    let rest = all_printed g places (suc levels) in
    let v = value_printed g (whole_printer g) true x levels b in
    let more = places_printed (whole_printer g) false xs levels in
    ap (λ r. and_then (and_then r (closed_walk dotted)) rest) (turn_taken p _ t turns ∙ ap (λ r. and_then r more) (whole_element g x levels b))
    ∙ (ap (λ r. and_then r rest) (then_then v more (closed_walk dotted)) ∙ then_then v (λ r. and_then (more r) (closed_walk dotted)) rest)
