-- Properties and flags of two runs side by side.
use Rattle.std.proofs.Common.{◌≡◌, ℕ, Bool, true, false, List, Option, Some, None, refl}
use Rattle.rl_tree.specs.Value.{Value}
use Rattle.rl_meaning.specs.State.{State, Symbol}
use Rattle.rl_meaning.specs.Outcome.{Outcome, Done, then_do}
use Rattle.rl_meaning.specs.Symbols.{nil_value_of_state, truth, same, car_at, cdr_at}
use Rattle.rl_meaning.specs.Errors.{fail, wrong_type}
use Rattle.rl_meaning.specs.Walks.{Further, Goes}
use Rattle.rl_meaning.specs.Properties.{nowhere, looked_at, look_for, is_property, is_flag, value_at, of_identifier, properties, with_properties, get, is_there, flagp, add_first, put_at, for_identifier, put, taken_out, without, remprop, or_list, at_list_end, for_each, flag_at, for_flag, flag, remflag}
use Rattle.rl_meaning.specs.Properties.{PropertyPlace as Spot}
use Rattle.rl_meaning.specs.TwoRunsValues.{Names, Grows, Maybe, nothing, just, SameValue, same_int, same_id, same_str, same_ref, same_fun, SameParts, same_parts, SameSymbol, same_symbol}
use Rattle.rl_meaning.specs.TwoRunsStates.{Bounds, EntryPlace, Like}
use Rattle.rl_agrees.proofs.TwoRunsGrowth.{grows_refl, grows_trans, value_grows}
use Rattle.rl_agrees.proofs.TwoRunsWays.{Beside, Is, is, then_related, then_value, then_is, done_now, choose_same, changing_like}
use Rattle.rl_agrees.proofs.TwoRunsObjects.{pair_same, nil_same, same_same, symbol_same, with_symbol_like, made_pair_related, fail_related}
use Rattle.rl_agrees.proofs.TwoRunsWalks.{SameFurther, same_goes, same_ends, then_walked, walk_related}
use Rattle.rl_agrees.proofs.TwoRunsLists.{cdr_set_like}
use Rattle.rl_agrees.proofs.TwoRunsNumbers.{truth_same}

-- ---- looking

pub data SameSpot (n : Names) : Spot → Spot → Type 0 where
  same_spot : (x y v w : Option Value) → Maybe (SameValue n) x y → Maybe (SameValue n) v w → SameSpot n (record { before = x; at = v }) (record { before = y; at = w })

looked_same : (n : Names) (b c : Bool) (x y : Spot) (v w : Value) → b ≡ c → SameSpot n x y → SameValue n v w → SameFurther SameSpot n (looked_at b x v) (looked_at c y w)
looked_same n true true _ _ v w e (same_spot x y a b h k) r = same_ends _ _ (same_spot x y _ _ h (just v w r))
looked_same n false false _ _ v w e (same_spot x y a b h k) r = same_goes _ _ (same_spot _ _ _ _ (just v w r) nothing)
looked_same n true false _ _ v w e h r = absurd (cc)
looked_same n false true _ _ v w e h r = absurd (cc)

module _ {bounds : Bounds} where
  look_for_related : (n : Names) (ps : List EntryPlace) (f g : State → Value → Bool) (v w : Value) (s t : State) → ((m : Names) (x y : Value) (s t : State) → Grows n m → SameValue m x y → Like bounds m ps s t → f s x ≡ g t y) → SameValue n v w → Like bounds n ps s t → Beside bounds SameSpot n ps (look_for f v s) (look_for g w t)
  look_for_related n ps f g v w s t h k e =
      then_walked n ps _ _ _ _ (walk_related SameSpot n ps _ _ (λ m a b v w x y s t z r i j e. done_now m ps _ _ s t (looked_same m _ _ a b v w (h m x y s t z j e) r i) e) nowhere nowhere v w s t (same_spot _ _ _ _ nothing nothing) k e)
      (λ m a b x y s t g r i e. done_now m ps a b s t r e)

  is_property_same : (n : Names) (ps : List EntryPlace) (p q x y : Value) (s t : State) → SameValue n p q → SameValue n x y → Like bounds n ps s t → is_property p s x ≡ is_property q t y
  is_property_same n ps p q x y s t h k e = at _ _ (pair_same n ps s t x y e k)
    where
      at : (o o' : Option (Value × Value)) → Maybe (SameParts n) o o' → elim o as (λ (o : Option (Value × Value)). Bool) [ None ↦ false | Some parts ↦ same parts.0 p ] ≡ elim o' as (λ (o : Option (Value × Value)). Bool) [ None ↦ false | Some parts ↦ same parts.0 q ]
      at _ _ nothing = refl
      at _ _ (just _ _ (same_parts a d b c i j)) = same_same n a b p q e.store.once e.functions.once i h

properties_same : (n : Names) (x y : Symbol) → SameSymbol n x y → SameValue n x.properties y.properties
properties_same n _ _ (same_symbol name interned kind a b p q d e h k l) = k

module _ {bounds : Bounds} where
  property_related : (n : Names) (ps : List EntryPlace) (i : ℕ) (p q : Value) (s t : State) → SameValue n p q → Like bounds n ps s t → Beside bounds SameSpot n ps (look_for (is_property p) (properties s i) s) (look_for (is_property q) (properties t i) t)
  property_related n ps i p q s t k e = look_for_related n ps _ _ _ _ s t (λ m x y s t g j e. is_property_same m ps p q x y s t (value_grows n m p q k g) j e) (properties_same n _ _ (symbol_same n ps s t i e)) e

  pub of_identifier_related : {A : Type 0} {R : Names → A → A → Type 0} (n : Names) (ps : List EntryPlace) (v w : Value) (a b : A) (s t : State) (f g : ℕ → State → Outcome A) → SameValue n v w → R n a b → Like bounds n ps s t → ((i : ℕ) → Beside bounds R n ps (f i s) (g i t)) → Beside bounds R n ps (of_identifier v a s f) (of_identifier w b t g)
  of_identifier_related n ps _ _ a b s t f g (same_id i) r l h = h i
  of_identifier_related n ps _ _ a b s t f g (same_int i) r l h = done_now n ps a b s t r l
  of_identifier_related n ps _ _ a b s t f g (same_str i) r l h = done_now n ps a b s t r l
  of_identifier_related n ps _ _ a b s t f g (same_ref i j k) r l h = done_now n ps a b s t r l
  of_identifier_related n ps _ _ a b s t f g (same_fun i j place k) r l h = done_now n ps a b s t r l

  pub car_same : (n : Names) (ps : List EntryPlace) (s t : State) (v w : Value) → Like bounds n ps s t → SameValue n v w → SameValue n (car_at s v) (car_at t w)
  car_same n ps s t v w l h = at _ _ (pair_same n ps s t v w l h)
    where
      at : (o p : Option (Value × Value)) → Maybe (SameParts n) o p → SameValue n (elim o as (λ (o : Option (Value × Value)). Value) [ None ↦ nil_value_of_state | Some parts ↦ parts.0 ]) (elim p as (λ (o : Option (Value × Value)). Value) [ None ↦ nil_value_of_state | Some parts ↦ parts.0 ])
      at _ _ nothing = same_id 0
      at _ _ (just _ _ (same_parts a d b c i j)) = i

  pub cdr_same : (n : Names) (ps : List EntryPlace) (s t : State) (v w : Value) → Like bounds n ps s t → SameValue n v w → SameValue n (cdr_at s v) (cdr_at t w)
  cdr_same n ps s t v w l h = at _ _ (pair_same n ps s t v w l h)
    where
      at : (o p : Option (Value × Value)) → Maybe (SameParts n) o p → SameValue n (elim o as (λ (o : Option (Value × Value)). Value) [ None ↦ nil_value_of_state | Some parts ↦ parts.1 ]) (elim p as (λ (o : Option (Value × Value)). Value) [ None ↦ nil_value_of_state | Some parts ↦ parts.1 ])
      at _ _ nothing = same_id 0
      at _ _ (just _ _ (same_parts a d b c i j)) = j

  value_at_same : (n : Names) (ps : List EntryPlace) (s t : State) (o p : Option Value) → Like bounds n ps s t → Maybe (SameValue n) o p → SameValue n (value_at s o) (value_at t p)
  value_at_same n ps s t _ _ l nothing = same_id 0
  value_at_same n ps s t _ _ l (just v w h) = cdr_same n ps s t _ _ l (car_same n ps s t v w l h)

  got_related : (n : Names) (ps : List EntryPlace) (x y : Spot) (s t : State) → SameSpot n x y → Like bounds n ps s t → Beside bounds SameValue n ps (Done (value_at s x.at) s) (Done (value_at t y.at) t)
  got_related n ps _ _ s t (same_spot a b v w h k) l = done_now n ps _ _ s t (value_at_same n ps s t v w l k) l

  pub get_related : (n : Names) (ps : List EntryPlace) (u v p q : Value) (s t : State) → SameValue n u v → SameValue n p q → Like bounds n ps s t → Beside bounds SameValue n ps (get u p s) (get v q t)
  get_related n ps u v p q s t h k e =
      of_identifier_related n ps u v nil_value_of_state nil_value_of_state s t _ _ h (same_id 0) e (λ i.
      then_related n ps _ _ _ _ (property_related n ps i p q s t k e) (λ m x y s t g j e. got_related m ps x y s t j e))

listed_set : (n : Names) (x y : Symbol) (p q : Value) → SameSymbol n x y → SameValue n p q → SameSymbol n (record x { properties = p }) (record y { properties = q })
listed_set n _ _ p q (same_symbol name interned kind a b c d e f h k l) r = same_symbol name interned kind a b p q e f h r l

module _ {bounds : Bounds} where
  properties_like : (n : Names) (ps : List EntryPlace) (i : ℕ) (v w : Value) (s t : State) → SameValue n v w → Like bounds n ps s t → Like bounds n ps (with_properties i v s) (with_properties i w t)
  properties_like n ps i v w s t h l = with_symbol_like n ps i _ _ s t l (listed_set n _ _ v w (symbol_same n ps s t i l) h)

  add_first_related : (n : Names) (ps : List EntryPlace) (i : ℕ) (v w : Value) (s t : State) → SameValue n v w → Like bounds n ps s t → Beside bounds {A = Unit {0}} Is n ps (add_first i v s) (add_first i w t)
  add_first_related n ps i v w s t h e =
      then_value n ps _ _ _ _ (made_pair_related n ps v w _ _ s t e h (properties_same n _ _ (symbol_same n ps s t i e))) (λ m a b s t g j e. done_now m ps _ _ _ _ (is _) (properties_like m ps i a b s t j e))

  pub with_identifier_related : {A : Type 0} {R : Names → A → A → Type 0} (n : Names) (ps : List EntryPlace) (v w : Value) (s t : State) (f g : ℕ → State → Outcome A) → SameValue n v w → Like bounds n ps s t → ((i : ℕ) → Beside bounds R n ps (f i s) (g i t)) → Beside bounds R n ps (for_identifier v s f) (for_identifier w t g)
  with_identifier_related n ps _ _ s t f g (same_id i) l h = h i
  with_identifier_related n ps _ _ s t f g (same_int i) l h = search (fail_related, same_int)
  with_identifier_related n ps _ _ s t f g (same_str i) l h = search (fail_related, same_str)
  with_identifier_related n ps _ _ s t f g (same_ref r q i) l h = search (fail_related, same_ref)
  with_identifier_related n ps _ _ s t f g (same_fun r q place i) l h = search (fail_related, same_fun)

  put_at_related : (n : Names) (ps : List EntryPlace) (i : ℕ) (p q x y : Value) (a b : Spot) (s t : State) → SameValue n p q → SameValue n x y → SameSpot n a b → Like bounds n ps s t → Beside bounds SameValue n ps (put_at i p x a.at s) (put_at i q y b.at t)
  put_at_related n ps i p q x y _ _ s t h k (same_spot _ _ _ _ j (just v w r)) e = done_now n ps x y _ _ k (changing_like n ps _ _ _ _ (car_same n ps s t v w e r) (cdr_set_like n ps _ _ x y s t (car_same n ps s t v w e r) k e))
  put_at_related n ps i p q x y _ _ s t h k (same_spot _ _ _ _ j nothing) e =
      then_value n ps _ _ _ _ (made_pair_related n ps p q x y s t e h k) (λ m a b s t g j e. then_is m ps _ _ _ _ (add_first_related m ps i a b s t j e) (λ m' c s t w e. done_now m' ps x y s t (value_grows n m' x y k (grows_trans n m m' g w)) e))

  pub put_related : (n : Names) (ps : List EntryPlace) (u v p q x y : Value) (s t : State) → SameValue n u v → SameValue n p q → SameValue n x y → Like bounds n ps s t → Beside bounds SameValue n ps (put u p x s) (put v q y t)
  put_related n ps u v p q x y s t h k r e =
      with_identifier_related n ps u v s t _ _ h e (λ i.
      with_identifier_related n ps p q s t _ _ k e (λ j.
      then_related n ps _ _ _ _ (property_related n ps i p q s t k e) (λ m a b s t g o e.
      put_at_related m ps i p q x y a b s t (value_grows n m p q k g) (value_grows n m x y r g) o e)))

  -- ---- an element is taken out

  taken_out_like : (n : Names) (ps : List EntryPlace) (i : ℕ) (o p : Option Value) (v w : Value) (s t : State) → Maybe (SameValue n) o p → SameValue n v w → Like bounds n ps s t → Like bounds n ps (taken_out i o v s) (taken_out i p w t)
  taken_out_like n ps i _ _ v w s t nothing h l = properties_like n ps i _ _ s t (cdr_same n ps s t v w l h) l
  taken_out_like n ps i _ _ v w s t (just a b k) h l = changing_like n ps a b _ _ k (cdr_set_like n ps a b _ _ s t k (cdr_same n ps s t v w l h) l)

  without_like : (n : Names) (ps : List EntryPlace) (i : ℕ) (x y : Spot) (s t : State) → SameSpot n x y → Like bounds n ps s t → Like bounds n ps (without i x s) (without i y t)
  without_like n ps i _ _ s t (same_spot a b _ _ h nothing) l = l
  without_like n ps i _ _ s t (same_spot a b _ _ h (just v w k)) l = taken_out_like n ps i a b v w s t h k l

  removed_related : (n : Names) (ps : List EntryPlace) (i : ℕ) (x y : Spot) (s t : State) → SameSpot n x y → Like bounds n ps s t → Beside bounds SameValue n ps (Done (value_at s x.at) (without i x s)) (Done (value_at t y.at) (without i y t))
  removed_related n ps i _ _ s t (same_spot a b v w h k) l = done_now n ps _ _ _ _ (value_at_same n ps s t v w l k) (without_like n ps i _ _ s t (same_spot a b v w h k) l)

  pub remprop_related : (n : Names) (ps : List EntryPlace) (u v p q : Value) (s t : State) → SameValue n u v → SameValue n p q → Like bounds n ps s t → Beside bounds SameValue n ps (remprop u p s) (remprop v q t)
  remprop_related n ps u v p q s t h k e =
      of_identifier_related n ps u v nil_value_of_state nil_value_of_state s t _ _ h (same_id 0) e (λ i.
      then_related n ps _ _ _ _ (property_related n ps i p q s t k e) (λ m x y s t g j e. removed_related m ps i x y s t j e))

  -- ---- flags

  is_flag_same : (n : Names) (ps : List EntryPlace) (p q x y : Value) (s t : State) → SameValue n p q → SameValue n x y → Like bounds n ps s t → is_flag p s x ≡ is_flag q t y
  is_flag_same n ps p q x y s t h k e = same_same n x y p q e.store.once e.functions.once k h

  flag_related_at : (n : Names) (ps : List EntryPlace) (i : ℕ) (p q : Value) (s t : State) → SameValue n p q → Like bounds n ps s t → Beside bounds SameSpot n ps (look_for (is_flag p) (properties s i) s) (look_for (is_flag q) (properties t i) t)
  flag_related_at n ps i p q s t k e = look_for_related n ps _ _ _ _ s t (λ m x y s t g j e. is_flag_same m ps p q x y s t (value_grows n m p q k g) j e) (properties_same n _ _ (symbol_same n ps s t i e)) e

  there_related : (n : Names) (ps : List EntryPlace) (x y : Spot) (s t : State) → SameSpot n x y → Like bounds n ps s t → Beside bounds SameValue n ps (Done (truth (is_there x.at)) s) (Done (truth (is_there y.at)) t)
  there_related n ps _ _ s t (same_spot a b _ _ h nothing) l = done_now n ps _ _ s t (truth_same n false) l
  there_related n ps _ _ s t (same_spot a b _ _ h (just v w k)) l = done_now n ps _ _ s t (truth_same n true) l

  pub flagp_related : (n : Names) (ps : List EntryPlace) (u v p q : Value) (s t : State) → SameValue n u v → SameValue n p q → Like bounds n ps s t → Beside bounds SameValue n ps (flagp u p s) (flagp v q t)
  flagp_related n ps u v p q s t h k e =
      of_identifier_related n ps u v nil_value_of_state nil_value_of_state s t _ _ h (same_id 0) e (λ i.
      then_related n ps _ _ _ _ (flag_related_at n ps i p q s t k e) (λ m x y s t g j e. there_related m ps x y s t j e))

-- what is done for an identifier, from these names on
abbrev pub Acts : Bounds → Names → List EntryPlace → (ℕ → State → Outcome (Unit {0})) → (ℕ → State → Outcome (Unit {0})) → Type 0
Acts bounds n ps f g = (m : Names) (i : ℕ) (s t : State) → Grows n m → Like bounds m ps s t → Beside bounds {A = Unit {0}} Is m ps (f i s) (g i t)

module _ {bounds : Bounds} where
  or_list_related : {A : Type 0} {R : Names → A → A → Type 0} (n : Names) (ps : List EntryPlace) (u v x y : Value) (s t : State) (f g : ℕ → State → Outcome A) → SameValue n u v → SameValue n x y → Like bounds n ps s t → ((i : ℕ) → Beside bounds R n ps (f i s) (g i t)) → Beside bounds R n ps (or_list u x s f) (or_list v y t g)
  or_list_related n ps u v _ _ s t f g k (same_id i) l h = h i
  or_list_related n ps u v _ _ s t f g k (same_int i) l h = search fail_related
  or_list_related n ps u v _ _ s t f g k (same_str i) l h = search fail_related
  or_list_related n ps u v _ _ s t f g k (same_ref r q i) l h = search fail_related
  or_list_related n ps u v _ _ s t f g k (same_fun r q place i) l h = search fail_related

  list_end_related : (n : Names) (ps : List EntryPlace) (u v : Value) (x y : Option Value) (s t : State) → SameValue n u v → Maybe (SameValue n) x y → Like bounds n ps s t → Beside bounds SameValue n ps (at_list_end u x s) (at_list_end v y t)
  list_end_related n ps u v _ _ s t h nothing l = done_now n ps nil_value_of_state nil_value_of_state s t (same_id 0) l
  list_end_related n ps u v _ _ s t h (just a b k) l = choose_same n ps _ _ s t _ _ _ _ (nil_same n a b k) (done_now n ps nil_value_of_state nil_value_of_state s t (same_id 0) l) (search fail_related)

-- a visit to an element of the list, as the walk of `for_each` makes it
abbrev acting : (ℕ → State → Outcome (Unit {0})) → Value → Unit {0} → Value → Value → State → Outcome (Further (Unit {0}))
acting act l done pair x s = or_list l x s (λ i s. then_do (act i s) (λ done s. Done (Goes done) s))

module _ {bounds : Bounds} where
  acting_related : (n : Names) (ps : List EntryPlace) (f g : ℕ → State → Outcome (Unit {0})) (u v : Value) (a b : Unit {0}) (c d x y : Value) (s t : State) → Acts bounds n ps f g → SameValue n u v → SameValue n x y → Like bounds n ps s t → Beside bounds (SameFurther Is) n ps (acting f u a c x s) (acting g v b d y t)
  acting_related n ps f g u v a b c d x y s t acts h i l =
      or_list_related n ps u v x y s t (λ i s. then_do (f i s) (λ done s. Done (Goes done) s)) (λ i s. then_do (g i s) (λ done s. Done (Goes done) s)) h i l (λ j.
      then_related n ps _ _ _ _ (acts n j s t (grows_refl n) l) (λ k a b s t g r l. done_now k ps _ _ s t (same_goes a b r) l))

  -- an act for each identifier of a list
  pub for_each_related : (n : Names) (ps : List EntryPlace) (f g : ℕ → State → Outcome (Unit {0})) (u v : Value) (s t : State) → Acts bounds n ps f g → SameValue n u v → Like bounds n ps s t → Beside bounds SameValue n ps (for_each f u s) (for_each g v t)
  for_each_related n ps f g u v s t acts h l =
      then_walked n ps _ _ (λ walked s. at_list_end u walked.end s) (λ walked s. at_list_end v walked.end s) (walk_related Is n ps (acting f u) (acting g v) (λ m a b c d x y s t w r e i l.
      acting_related m ps f g u v a b c d x y s t (λ k i s t z l. acts k i s t (grows_trans n m k w z) l) (value_grows n m u v h w) i l) tt tt u v s t (is tt) h l)
      (λ m a b x y s t w r i l. list_end_related m ps u v x y s t (value_grows n m u v h w) i l)

  refused_related : (n : Names) (ps : List EntryPlace) (u v p q : Value) (s t : State) → SameValue n u v → SameValue n p q → Like bounds n ps s t → Beside bounds SameValue n ps (then_do (for_each (λ i s. Done tt s) u s) (λ done s. fail wrong_type p s)) (then_do (for_each (λ i s. Done tt s) v t) (λ done s. fail wrong_type q s))
  refused_related n ps u v p q s t h k l =
      then_value n ps _ _ _ _ (for_each_related n ps _ _ u v s t (λ m i s t g l. done_now m ps _ _ s t (is tt) l) h l) (λ m a b s t g r l. fail_related m ps wrong_type p q s t l (value_grows n m p q k g))

  for_flag_related : (n : Names) (ps : List EntryPlace) (p q : Value) (f g : ℕ → State → Outcome (Unit {0})) (u v : Value) (s t : State) → SameValue n p q → Acts bounds n ps f g → SameValue n u v → Like bounds n ps s t → Beside bounds SameValue n ps (for_flag p f u s) (for_flag q g v t)
  for_flag_related n ps _ _ f g u v s t (same_id i) acts h l = for_each_related n ps f g u v s t acts h l
  for_flag_related n ps _ _ f g u v s t (same_int i) acts h l = refused_related n ps u v _ _ s t h (same_int i) l
  for_flag_related n ps _ _ f g u v s t (same_str i) acts h l = refused_related n ps u v _ _ s t h (same_str i) l
  for_flag_related n ps _ _ f g u v s t (same_ref r q i) acts h l = refused_related n ps u v _ _ s t h (same_ref r q i) l
  for_flag_related n ps _ _ f g u v s t (same_fun r q place i) acts h l = refused_related n ps u v _ _ s t h (same_fun r q place i) l

  flag_at_related : (n : Names) (ps : List EntryPlace) (i : ℕ) (p q : Value) (x y : Spot) (s t : State) → SameValue n p q → SameSpot n x y → Like bounds n ps s t → Beside bounds {A = Unit {0}} Is n ps (flag_at i p x.at s) (flag_at i q y.at t)
  flag_at_related n ps i p q _ _ s t h (same_spot a b _ _ k (just v w j)) l = done_now n ps _ _ s t (is tt) l
  flag_at_related n ps i p q _ _ s t h (same_spot a b _ _ k nothing) l = add_first_related n ps i p q s t h l

  pub flag_related : (n : Names) (ps : List EntryPlace) (u v p q : Value) (s t : State) → SameValue n u v → SameValue n p q → Like bounds n ps s t → Beside bounds SameValue n ps (flag u p s) (flag v q t)
  flag_related n ps u v p q s t h k l =
      for_flag_related n ps p q _ _ u v s t k (λ m i s t g l. then_related m ps _ _ _ _ (flag_related_at m ps i p q s t (value_grows n m p q k g) l) (λ o x y s t w j l.
      flag_at_related o ps i p q x y s t (value_grows n o p q k (grows_trans n m o g w)) j l)) h l

  pub remflag_related : (n : Names) (ps : List EntryPlace) (u v p q : Value) (s t : State) → SameValue n u v → SameValue n p q → Like bounds n ps s t → Beside bounds SameValue n ps (remflag u p s) (remflag v q t)
  remflag_related n ps u v p q s t h k l =
      for_flag_related n ps p q _ _ u v s t k (λ m i s t g l. then_related m ps _ _ _ _ (flag_related_at m ps i p q s t (value_grows n m p q k g) l) (λ o x y s t w j l.
      done_now o ps _ _ _ _ (is tt) (without_like o ps i x y s t j l))) h l
