-- Holding forms, of two runs side by side.
use Rattle.std.proofs.Common.{◌≡◌, ◌⊎◌, inl, inr, ◌==◌, ◌+◌, ◌*◌, ◌&&◌, ◌∙◌, if◌then◌else◌, ℕ, zero, suc, Bool, true, false, List, [], ◌∷◌, ◌++◌, length, map, slice_get, Option, Some, None, refl, ap, subst, arith, length-append}
use Rattle.rl_tree.specs.Value.{Value, Id}
use Rattle.rl_tree.specs.declared.held.Kind.{Kind}
use Rattle.rl_tree.specs.declared.held.Kind.TheVariants.{Expr}
use Rattle.rl_meaning.specs.State.{State, Tree, Kept, Function, HeldFunction, Symbol}
use Rattle.rl_meaning.specs.Outcome.{Outcome, Done, room, turns_left, Levels}
use Rattle.rl_meaning.specs.Symbols.{nil_number, quote_number, progn_number, lambda_number}
use Rattle.rl_meaning.specs.Errors.{badly_formed}
use Rattle.rl_meaning.specs.Holding.{leaf, quoted_in, quoted_rest, quoted_part, quote_tree, Reader, read_quoted, read_parts, list_within, read_list, read_form, in_front, identifiers, checked_parameters, numbered, with_identifiers, kept_now, kept_of, held_cost, with_function, hold_tree, kept_in, hold_form, hold_expansion, read_forms, with_parameters, parameter_list, elements_walked, hold_function}
use Rattle.rl_meaning.specs.Forms.{visited, visited_spine, visited_forms, hold_part}
use Rattle.rl_meaning.specs.TwoRunsLinks.{Linked, link, newest, older}
use Rattle.rl_meaning.specs.TwoRunsValues.{Names, Grows, Maybe, nothing, just, Each, end, more, SameValue, same_int, same_id, same_str, same_ref, same_fun, SameParts, same_parts, SameObject, SameTree, same_atom, same_quoted, same_node, same_literal, held_of, same_held, SameFunction, same_held_function, SameNumber, SameSymbol, same_symbol}
use Rattle.rl_meaning.specs.TwoRunsStates.{Bounds, EntryPlace, SameFunctions, Like, Roomier}
use Rattle.rl_meaning.specs.TwoRunsEnds.{done}
use Rattle.rl_agrees.proofs.TwoRunsLinked.{linked_cases, one_more, within_more, get_left, get_last}
use Rattle.rl_agrees.proofs.TwoRunsGrowth.{grows_trans, value_grows, object_grows, tree_grows, function_grows, symbol_grows, aligned_grows, maybe_grows, each_grows, compilation_grows}
use Rattle.rl_agrees.proofs.TwoRunsWays.{Beside, Is, is, then_related, then_is, done_now, choose_same, turns_out, turn_related, pair_turn_related, room_related, left_same, reading_like, objects_read_like}
use Rattle.rl_agrees.proofs.TwoRunsObjects.{pair_same, nil_same, symbol_same, each_append, fail_related}
use Rattle.rl_agrees.proofs.TwoRunsForms.{identifiers_same, pairs_same, identifiers_in_same, body_same, plain_same, numbered_same}
use Rattle.rl_agrees.proofs.TwoRunsWalks.{same_goes, SameWalked, then_walked, walk_related}
use Rattle.rl_agrees.proofs.TwoRunsSpine.{is_improper_same}

-- ---- quoted parts

leaf_same : (n : Names) (v w : Value) → SameValue n v w → SameTree n (leaf v) (leaf w)
leaf_same n _ _ (same_id i) = same_atom _ _ (same_id i)
leaf_same n _ _ (same_int z) = same_atom _ _ (same_int z)
leaf_same n _ _ (same_str bytes) = same_quoted _ _ (same_str bytes)
leaf_same n _ _ (same_ref r q h) = same_quoted _ _ (same_ref r q h)
leaf_same n _ _ (same_fun f g place h) = same_quoted _ _ (same_fun f g place h)

if_quoted : (n : Names) (b c : Bool) (v w : Value) → b ≡ c → SameValue n v w → Maybe (SameValue n) (if b then Some v else None) (if c then Some w else None)
if_quoted n b c v w e h = subst (λ d. Maybe (SameValue n) (if b then Some v else None) (if d then Some w else None)) e (at b)
  where
    at : (b : Bool) → Maybe (SameValue n) (if b then Some v else None) (if b then Some w else None)
    at true = just v w h
    at false = nothing

quoted_in_same : (n : Names) (v w : Value) (o p : Option (Value × Value)) → SameValue n v w → Maybe (SameParts n) o p → Maybe (SameValue n) (quoted_in v o) (quoted_in w p)
quoted_in_same n _ _ _ _ (same_id i) (just _ _ (same_parts a d b e h k)) = if_quoted n _ _ a b (ap (λ x. (i == quote_number) && x) (nil_same n d e k)) h
quoted_in_same n _ _ _ _ (same_id i) nothing = nothing
quoted_in_same n _ _ _ _ (same_int i) h = nothing
quoted_in_same n _ _ _ _ (same_str i) h = nothing
quoted_in_same n _ _ _ _ (same_ref r q i) h = nothing
quoted_in_same n _ _ _ _ (same_fun f g place i) h = nothing

module _ {bounds : Bounds} where
  pub quoted_part_same : (n : Names) (ps : List EntryPlace) (s t : State) (v w : Value) → Like bounds n ps s t → SameValue n v w → Maybe (SameValue n) (quoted_part s v) (quoted_part t w)
  quoted_part_same n ps s t v w l h = at _ _ (pair_same n ps s t v w l h)
    where
      at : (o p : Option (Value × Value)) → Maybe (SameParts n) o p → Maybe (SameValue n) (quoted_rest s o) (quoted_rest t p)
      at _ _ nothing = nothing
      at _ _ (just _ _ (same_parts a d b e i j)) = quoted_in_same n a b _ _ i (pair_same n ps s t d e l j)

-- ---- reading a form

abbrev Reads : Bounds → Reader → Reader → Type 0
Reads bounds f g = (n : Names) (ps : List EntryPlace) (b : Bool) (l m : Levels) (v w : Value) (s t : State) → Roomier bounds l m → SameValue n v w → Like bounds n ps s t → Beside bounds SameTree n ps (f b l v s) (g b m w t)

quote_same : (n : Names) (x y : Value) → SameValue n x y → SameTree n (quote_tree x) (quote_tree y)
quote_same n x y h = same_node _ _ _ _ (same_atom _ _ (same_id quote_number)) (same_node _ _ _ _ (same_quoted x y h) (same_atom _ _ (same_id nil_number)))

module _ {bounds : Bounds} where
  read_quoted_related : (o p : Option Value) (f g : Reader) → Reads bounds f g → (n : Names) (ps : List EntryPlace) (b : Bool) (l m : Levels) (v w : Value) (s t : State) → Roomier bounds l m → Maybe (SameValue n) o p → SameValue n v w → Like bounds n ps s t → Beside bounds SameTree n ps (read_quoted o f b l v s) (read_quoted p g b m w t)
  read_quoted_related _ _ f g h n ps b l m v w s t r (just x y i) k e =
      pair_turn_related n ps b l m s t _ _ r e (λ l m s t r e. turn_related n ps _ _ _ _ (reading_like n ps v w s t e) (λ s t e. done_now n ps _ _ _ _ (quote_same n x y i) (reading_like n ps _ _ s t e)))
  read_quoted_related _ _ f g h n ps b l m v w s t r nothing k e = h n ps b l m v w s t r k e

  read_parts_related : (e e' f g : Reader) → Reads bounds e e' → Reads bounds f g → (n : Names) (ps : List EntryPlace) (o p : Option (Value × Value)) (b : Bool) (l m : Levels) (v w : Value) (s t : State) → Roomier bounds l m → Maybe (SameParts n) o p → SameValue n v w → Like bounds n ps s t → Beside bounds SameTree n ps (read_parts e f o b l v s) (read_parts e' g p b m w t)
  read_parts_related e e' f g h k n ps _ _ b l m v w s t r nothing i z = done_now n ps _ _ s t (leaf_same n v w i) z
  read_parts_related e e' f g h k n ps _ _ b l m v w s t r (just _ _ (same_parts a d c d' x y)) i z =
      pair_turn_related n ps b l m s t _ _ r z (λ l m s t r z.
      then_related n ps _ _ _ _ (h n ps true l m a c _ _ r x (reading_like n ps v w s t z)) (λ n' a c s t g p z.
      then_related n' ps _ _ _ _ (k n' ps false l m d d' s t r (value_grows n n' d d' y g) z) (λ n'' d d' s t g q z. done_now n'' ps _ _ s t (same_node a d c d' (tree_grows n' n'' a c p g) q) z)))

  element_related : (i : ℕ) → Reads bounds (list_within i) (list_within i) → Reads bounds (λ b l v s. read_quoted (quoted_part s v) (λ b l v s. list_within i b l v s) b l v s) (λ b l v s. read_quoted (quoted_part s v) (λ b l v s. list_within i b l v s) b l v s)
  element_related i within n ps b l m v w s t r h z = read_quoted_related _ _ (list_within i) (list_within i) within n ps b l m v w s t r (quoted_part_same n ps s t v w z h) h z

  list_within_related : (i : ℕ) → Reads bounds (list_within i) (list_within i)
  list_within_related zero n ps b l m v w s t r h z = turns_out n ps s t z
  list_within_related (suc i) n ps b l m v w s t r h z =
      read_parts_related _ _ (list_within i) (list_within i) (element_related i (list_within_related i)) (list_within_related i) n ps _ _ b l m v w s t r (pair_same n ps s t v w z h) h z

  read_list_related : Reads bounds read_list read_list
  read_list_related n ps b l m v w s t r h z =
      subst (λ i. Beside bounds SameTree n ps (read_list b l v s) (list_within (suc (suc i)) b m w t)) (left_same n ps s t z) (list_within_related (suc (suc (turns_left s))) n ps b l m v w s t r h z)

  pub read_form_related : (n : Names) (ps : List EntryPlace) (l m : Levels) (v w : Value) (s t : State) → Roomier bounds l m → SameValue n v w → Like bounds n ps s t → Beside bounds SameTree n ps (read_form l v s) (read_form m w t)
  read_form_related n ps l m v w s t r h z = read_quoted_related _ _ read_list read_list read_list_related n ps false l m v w s t r (quoted_part_same n ps s t v w z h) h z

  pub read_forms_related : (n : Names) (ps : List EntryPlace) (l m : Levels) (v w : Value) (o p : Option (Value × Value)) (s t : State) → Roomier bounds l m → SameValue n v w → Maybe (SameParts n) o p → Like bounds n ps s t → Beside bounds SameTree n ps (read_forms l v o s) (read_forms m w p t)
  read_forms_related n ps l m v w _ _ s t r h (just _ _ (same_parts a d b e i j)) z =
      choose_same n ps _ _ s t _ _ _ _ (nil_same n d e j) (read_form_related n ps l m a b s t r i z)
      (turn_related n ps s t _ _ z (λ s t z. then_related n ps _ _ _ _ (read_list_related n ps false l m v w s t r h z) (λ n' x y s t g k z. done_now n' ps _ _ s t (same_node _ _ _ _ (same_atom _ _ (same_id progn_number)) k) z)))
  read_forms_related n ps l m v w _ _ s t r h nothing z = done_now n ps _ _ s t (same_atom _ _ (same_id nil_number)) z

  pub elements_related : (n : Names) (ps : List EntryPlace) (v w : Value) (s t : State) → SameValue n v w → Like bounds n ps s t → Beside bounds (SameWalked (λ n xs ys. Each (SameValue n) xs ys)) n ps (elements_walked v s) (elements_walked w t)
  elements_related n ps v w s t h z =
      walk_related (λ n xs ys. Each (SameValue n) xs ys) n ps _ _ (λ m a b v w x y s t g r e i z. done_now m ps _ _ s t (same_goes _ _ (each_append (SameValue m) a b _ _ r (more x y [] [] i end))) z) [] [] v w s t end h z

-- ---- new functions

-- the names with one more function
abbrev with_function_link : ℕ → ℕ → Names → Names
with_function_link a b n = record n { functions = link a b n.functions }

function_link_grows : (a b : ℕ) (n : Names) → Grows n (with_function_link a b n)
function_link_grows a b n = record { objects = λ r q h. h; functions = λ f g h. older a b f g n.functions h }

new_functions : (n : Names) (s t : List Function) (f g : Function) → SameFunctions n s t → SameFunction n f g → SameFunctions (with_function_link (length s) (length t) n) (s ++ f ∷ []) (t ++ g ∷ [])
new_functions n s t f g h k = record {
  once = one_more n.functions (length s) (length t) h.once h.within;
  within = within_more n.functions (length s) (length t) _ _ h.within (omega (arith, length-append s (f ∷ []))) (omega (arith, length-append t (g ∷ [])));
  is = λ i j l. at i j (linked_cases (length s) (length t) i j n.functions l);
}
  where
    m : Names
    m = with_function_link (length s) (length t) n

    at : (i j : ℕ) → ((i ≡ length s) × (j ≡ length t)) ⊎ Linked n.functions i j → Maybe (SameFunction m) (slice_get (s ++ f ∷ []) i) (slice_get (t ++ g ∷ []) j)
    at i j (inl e) = rw (e.0, e.1, get_last s f, get_last t g) (just f g (function_grows n m f g k (function_link_grows (length s) (length t) n)))
    at i j (inr l) = rw (get_left s (f ∷ []) i (h.within.left i j l), get_left t (g ∷ []) j (h.within.right i j l)) (maybe_grows (SameFunction n) (SameFunction m) (λ a b x. function_grows n m a b x (function_link_grows (length s) (length t) n)) _ _ (h.is i j l))

module _ {bounds : Bounds} where
  function_like : (n : Names) (ps : List EntryPlace) (f g : Function) (s t : State) → SameFunction n f g → Like bounds n ps s t → Like bounds (with_function_link (length s.functions) (length t.functions) n) ps (with_function f s) (with_function g t)
  function_like n ps f g s t h l =
      let m : Names = with_function_link (length s.functions) (length t.functions) n in
      let w : Grows n m = function_link_grows (length s.functions) (length t.functions) n in
      record {
        store = record { once = l.store.once; within = l.store.within; is = λ r q k. maybe_grows (SameObject n) (SameObject m) (λ a b x. object_grows n m a b x w) _ _ (l.store.is r q k) };
        functions = new_functions n s.functions t.functions f g l.functions h;
        symbols = each_grows (SameSymbol n) (SameSymbol m) (λ a b x. symbol_grows n m a b x w) _ _ l.symbols;
        bindings = aligned_grows n m ps _ _ l.bindings w;
        counts = l.counts;
        outside = l.outside;
        gensyms = l.gensyms;
        compilation = compilation_grows n m s.compilation t.compilation l.compilation w;
      }

  new_function_related : (n : Names) (ps : List EntryPlace) (f g : Function) (s t : State) → SameFunction n f g → Like bounds n ps s t → Beside bounds SameNumber n ps (Done (length s.functions) (with_function f s)) (Done (length t.functions) (with_function g t))
  new_function_related n ps f g s t h l =
      done (with_function_link (length s.functions) (length t.functions) n) _ _ _ _ (function_link_grows (length s.functions) (length t.functions) n) (record { linked = newest (length s.functions) (length t.functions) n.functions }) (function_like n ps f g s t h l)

  pub hold_tree_related : (n : Names) (ps : List EntryPlace) (kind : Kind) (parameters : List ℕ) (kept : List Kept) (a b : Tree) (s t : State) → SameTree n a b → Like bounds n ps s t → Beside bounds SameNumber n ps (hold_tree kind parameters kept a s) (hold_tree kind parameters kept b t)
  hold_tree_related n ps kind parameters kept a b s t h l =
      let k : SameTree n (numbered 0 a) (numbered 0 b) = numbered_same n a b h 0 0 refl in
      subst (λ c. Beside bounds SameNumber n ps (hold_tree kind parameters kept a s) (room (8 + 2 * (length parameters + c)) t (made (numbered 0 b)))) (pairs_same n _ _ k)
      (room_related n ps (held_cost parameters (numbered 0 a)) s t (made (numbered 0 a)) (made (numbered 0 b)) l (λ s t l. new_function_related n ps _ _ s t (same_held_function _ _ (same_held kind parameters kept _ _ k)) l))
    where
      made : Tree → State → Outcome ℕ
      made x s = Done (length s.functions) (with_function (HeldFunction (held_of kind parameters kept x)) s)

-- ---- what is kept

kind_same : (n : Names) (x y : Symbol) → SameSymbol n x y → x.kind ≡ y.kind
kind_same n _ _ (same_symbol name interned kind a b p q d e h k l) = refl

module _ {bounds : Bounds} where
  kept_same : (n : Names) (ps : List EntryPlace) (s t : State) (xs : List ℕ) → Like bounds n ps s t → map (kept_now s) xs ≡ map (kept_now t) xs
  kept_same n ps s t [] l = refl
  kept_same n ps s t (x ∷ xs) l = λ i. record { variable = x; kind = kind_same n _ _ (symbol_same n ps s t x l) i } ∷ kept_same n ps s t xs l i

  kept_in_same : (n : Names) (ps : List EntryPlace) (s t : State) (xs : List ℕ) (a b : Tree) → SameTree n a b → Like bounds n ps s t → kept_in s xs a ≡ kept_in t xs b
  kept_in_same n ps s t xs a b h l = kept_same n ps s t (with_identifiers xs a) l ∙ ap (λ ys. map (kept_now t) ys) (identifiers_in_same n a b h xs xs refl)

  -- ---- holding

  -- with the kinds of now
  pub held_now : (n : Names) (ps : List EntryPlace) (kind : Kind) (xs : List ℕ) (a b : Tree) (s t : State) → SameTree n a b → Like bounds n ps s t → Beside bounds SameNumber n ps (hold_tree kind xs (kept_in s xs a) a s) (hold_tree kind xs (kept_in t xs b) b t)
  held_now n ps kind xs a b s t h l = subst (λ kept. Beside bounds SameNumber n ps (hold_tree kind xs (kept_in s xs a) a s) (hold_tree kind xs kept b t)) (kept_in_same n ps s t xs a b h l) (hold_tree_related n ps kind xs (kept_in s xs a) a b s t h l)

  pub hold_form_related : (n : Names) (ps : List EntryPlace) (l m : Levels) (v w : Value) (s t : State) → Roomier bounds l m → SameValue n v w → Like bounds n ps s t → Beside bounds SameNumber n ps (hold_form l v s) (hold_form m w t)
  hold_form_related n ps l m v w s t r h e = then_related n ps _ _ _ _ (read_form_related n ps l m v w s t r h e) (λ n' a b s t g h e. held_now n' ps Expr [] a b s t h e)

  pub hold_expansion_related : (n : Names) (ps : List EntryPlace) (l m : Levels) (kept : List Kept) (v w : Value) (s t : State) → Roomier bounds l m → SameValue n v w → Like bounds n ps s t → Beside bounds SameNumber n ps (hold_expansion l kept v s) (hold_expansion m kept w t)
  hold_expansion_related n ps l m kept v w s t r h e =
      then_related n ps _ _ _ _ (read_form_related n ps l m v w s t r h e) (λ n' a b s t g h e.
      subst (λ xs. Beside bounds SameNumber n' ps (hold_tree Expr [] (kept_of kept (with_identifiers [] a)) a s) (hold_tree Expr [] (kept_of kept xs) b t)) (identifiers_in_same n' a b h [] [] refl) (hold_tree_related n' ps Expr [] _ a b s t h e))

  pub parameters_related : {A : Type 0} {R : Names → A → A → Type 0} (n : Names) (ps : List EntryPlace) (o p : Option (List ℕ)) (s t : State) (f g : List ℕ → State → Outcome A) → o ≡ p → ((xs : List ℕ) → Beside bounds R n ps (f xs s) (g xs t)) → Like bounds n ps s t → Beside bounds R n ps (with_parameters o s f) (with_parameters p t g)
  parameters_related {R = R} n ps o p s t f g e h l = subst (λ q. Beside bounds R n ps (with_parameters o s f) (with_parameters q t g)) e (at o)
    where
      at : (o : Option (List ℕ)) → Beside bounds R n ps (with_parameters o s f) (with_parameters o t g)
      at (Some xs) = h xs
      at None = search (fail_related, same_id)

listed_same : (n : Names) (xs ys : List Value) → Each (SameValue n) xs ys → identifiers xs ≡ identifiers ys
listed_same n _ _ end = refl
listed_same n _ _ (more _ _ xs ys (same_id i) k) = ap (λ o. in_front i o) (listed_same n xs ys k)
listed_same n _ _ (more _ _ xs ys (same_int i) k) = refl
listed_same n _ _ (more _ _ xs ys (same_str i) k) = refl
listed_same n _ _ (more _ _ xs ys (same_ref r q i) k) = refl
listed_same n _ _ (more _ _ xs ys (same_fun r q place i) k) = refl

parameter_list_same : (n : Names) (kind : Kind) (o p x y : Option Value) (xs ys : List Value) → Maybe (SameValue n) o p → Maybe (SameValue n) x y → Each (SameValue n) xs ys → parameter_list kind o (record { result = xs; end = x }) ≡ parameter_list kind p (record { result = ys; end = y })
parameter_list_same n kind _ _ _ _ xs ys (just a b h) i k = refl
parameter_list_same n kind _ _ _ _ xs ys nothing nothing k = refl
parameter_list_same n kind _ _ _ _ xs ys nothing (just a b h) k = λ i. if nil_same n a b h i then checked_parameters kind (listed_same n xs ys k i) else None

module _ {bounds : Bounds} where
  pub hold_function_related : (n : Names) (ps : List EntryPlace) (kind : Kind) (l m : Levels) (u v x y : Value) (s t : State) → Roomier bounds l m → SameValue n u v → SameValue n x y → Like bounds n ps s t → Beside bounds SameNumber n ps (hold_function kind l u x s) (hold_function kind m v y t)
  hold_function_related n ps kind l m u v x y s t r h k e =
      choose_same n ps _ _ _ _ _ _ _ _ (is_improper_same n ps s t x y e k) (fail_related n ps badly_formed (Id lambda_number) (Id lambda_number) _ _ (objects_read_like n ps _ _ s t e) (same_id lambda_number))
      (then_walked n ps _ _ _ _ (elements_related n ps u v _ _ h (objects_read_like n ps _ _ s t e)) (λ n' xs ys a b s t g i j e.
      parameters_related n' ps _ _ s t _ _ (parameter_list_same n' kind _ _ a b xs ys (quoted_part_same n' ps s t u v e (value_grows n n' u v h g)) j i) (λ zs.
      then_related n' ps _ _ _ _ (read_forms_related n' ps l m x y _ _ s t r (value_grows n n' x y k g) (pair_same n' ps s t x y e (value_grows n n' x y k g)) e) (λ n'' c d s t w z e.
      held_now n'' ps kind zs c d s t z e)) e))

  -- ---- a definition inside a form

  visited_related : (n : Names) (x y : Tree) → SameTree n x y → (m' : Names) (ps : List EntryPlace) (b : Bool) (l m : Levels) (s t : State) → Roomier bounds l m → Like bounds m' ps s t → Beside bounds {A = Unit {0}} Is m' ps (visited b l x s) (visited b m y t)
  visited_related n _ _ (same_node x c y d h k) n' ps b l m s t r e = pair_turn_related n' ps b l m s t _ _ r e (λ l m s t r e. then_is n' ps _ _ _ _ (visited_related n x y h n' ps true l m s t r e) (λ n'' a s t g e. visited_related n c d k n'' ps false l m s t r e))
  visited_related n _ _ (same_literal i x y h) n' ps b l m s t r e = pair_turn_related n' ps b l m s t _ _ r e (λ l m s t r e. turn_related n' ps s t _ _ e (λ s t e. visited_related n x y h n' ps true l m s t r e))
  visited_related n _ _ (same_atom v w h) n' ps b l m s t r e = done_now n' ps _ _ s t (is _) e
  visited_related n _ _ (same_quoted v w h) n' ps b l m s t r e = done_now n' ps _ _ s t (is _) e

  spine_visited : (n : Names) (x y : Tree) → SameTree n x y → (m' : Names) (ps : List EntryPlace) (s t : State) → Like bounds m' ps s t → Beside bounds {A = Unit {0}} Is m' ps (visited_spine x s) (visited_spine y t)
  spine_visited n _ _ (same_node x c y d h k) n' ps s t e = turn_related n' ps s t _ _ e (λ s t e. spine_visited n c d k n' ps s t e)
  spine_visited n _ _ (same_literal i x y h) n' ps s t e = turn_related n' ps s t _ _ e (λ s t e. turn_related n' ps s t _ _ e (λ s t e. done_now n' ps _ _ s t (is _) e))
  spine_visited n _ _ (same_atom v w h) n' ps s t e = done_now n' ps _ _ s t (is _) e
  spine_visited n _ _ (same_quoted v w h) n' ps s t e = done_now n' ps _ _ s t (is _) e

  forms_visited : (n : Names) (x y : Tree) → SameTree n x y → (ps : List EntryPlace) (l m : Levels) (s t : State) → Roomier bounds l m → Like bounds n ps s t → Beside bounds {A = Unit {0}} Is n ps (visited_forms l x s) (visited_forms m y t)
  forms_visited n _ _ (same_node x _ y _ h (same_node a d b e i j)) ps l m s t r z = turn_related n ps s t _ _ z (λ s t z. visited_related n _ _ (same_node _ _ _ _ h (same_node a d b e i j)) n ps false l m s t r z)
  forms_visited n _ _ (same_node x _ y _ h k) ps l m s t r z = visited_related n x y h n ps false l m s t r z
  forms_visited n _ _ h ps l m s t r z = done_now n ps _ _ s t (is _) z

  pub hold_part_related : (n : Names) (ps : List EntryPlace) (kind : Kind) (l m : Levels) (a b c d : Tree) (s t : State) → Roomier bounds l m → SameTree n a b → SameTree n c d → Like bounds n ps s t → Beside bounds SameNumber n ps (hold_part kind l a c s) (hold_part kind m b d t)
  hold_part_related n ps kind l m a b c d s t r h k e =
      then_is n ps _ _ _ _ (spine_visited n a b h n ps s t e) (λ n' x s t g e.
      parameters_related n' ps _ _ s t _ _ (ap (λ o. checked_parameters kind o) (identifiers_same n a b h)) (λ xs.
      then_is n' ps _ _ _ _ (forms_visited n' c d (tree_grows n n' c d k g) ps l m s t r e) (λ n'' x s t w e.
      held_now n'' ps kind xs _ _ s t (body_same n'' _ _ (plain_same n'' c d (tree_grows n n'' c d k (grows_trans n n' n'' g w)))) e)) e)
