-- Natives on lists, of two runs side by side.
use Rattle.std.proofs.Common.{ℕ, suc, pos, Bool, true, false, List, [], ◌∷◌, Option, Some, None}
use Rattle.rl_tree.specs.Value.{Value, Int}
use Rattle.rl_tree.specs.Value as object
use Rattle.rl_meaning.specs.State.{State}
use Rattle.rl_meaning.specs.Outcome.{Outcome, Done, Levels}
use Rattle.rl_meaning.specs.Symbols.{pair_at, nil_value_of_state, same}
use Rattle.rl_meaning.specs.Walks.{Goes}
use Rattle.rl_meaning.specs.Lists.{part_of, with_pair, part, with_car, with_cdr, cdr_set, Chain, pair_hung, list_extended, list_ended, made_list, and_goes, append, reversed, list_length, found_at, first_pair, member, memq, associated, assoc, joined, nconc}
use Rattle.rl_meaning.specs.Copying.{with_object}
use Rattle.rl_meaning.specs.TwoRunsValues.{Names, Grows, Maybe, nothing, just, Each, end, more, SameValue, same_int, same_id, same_str, SameParts, same_parts, same_pair, same_vector}
use Rattle.rl_meaning.specs.TwoRunsStates.{Bounds, EntryPlace, Like, Roomier}
use Rattle.rl_agrees.proofs.TwoRunsGrowth.{value_grows, values_grow}
use Rattle.rl_agrees.proofs.TwoRunsWays.{Beside, Is, is, then_related, then_value, then_is, done_now, choose_related, turns_out, turn_related, deeper_related, descends_related, pair_turn_related, reading_like, pair_read_like, whole_read_like, objects_read_like, changing_like}
use Rattle.rl_agrees.proofs.TwoRunsObjects.{pair_same, same_same, made_pair_related, made_string_related, made_vector_related, interned_related, raise_related, fail_related, with_object_like}
use Rattle.rl_agrees.proofs.TwoRunsWalks.{then_walked, SameFurther, same_goes, same_ends, walk_related, equal_related}

pub ruleset values = (same_int, same_id, same_str, same_pair, same_vector, same_parts, nothing, just, is, end, more)

pub ruleset likes = (reading_like, pair_read_like, whole_read_like, objects_read_like, changing_like, with_object_like)

pub ruleset ways = (done_now, then_value, then_is, choose_related, turns_out, turn_related, deeper_related, descends_related, pair_turn_related)

pub ruleset renaming = (values, likes, ways, made_pair_related, made_string_related, made_vector_related, interned_related, raise_related, fail_related)

module _ {bounds : Bounds} where
  with_pair_related : {A : Type 0} {R : Names → A → A → Type 0} (n : Names) (ps : List EntryPlace) (o p : Option (Value × Value)) (v w : Value) (s t : State) (f g : Value × Value → State → Outcome A) → Maybe (SameParts n) o p → SameValue n v w → Like bounds n ps s t
      → ((a d b e : Value) → SameValue n a b → SameValue n d e → Beside bounds R n ps (f (a, d) s) (g (b, e) t)) → Beside bounds R n ps (with_pair o v s f) (with_pair p w t g)
  with_pair_related n ps _ _ v w s t f g (just _ _ (same_parts a d b e i j)) r l h = h a d b e i j
  with_pair_related n ps _ _ v w s t f g nothing r l h = search fail_related

  pub with_car_related : (n : Names) (ps : List EntryPlace) (u v x y : Value) (s t : State) → SameValue n u v → SameValue n x y → Like bounds n ps s t → Beside bounds SameValue n ps (with_car u x s) (with_car v y t)
  with_car_related n ps u v x y s t p q l = search (renaming, with_pair_related, pair_same) depth 8

part_of_same : (n : Names) (b : Bool) (a d c e : Value) → SameValue n a c → SameValue n d e → SameValue n (part_of b (a, d)) (part_of b (c, e))
part_of_same n true a d c e h k = h
part_of_same n false a d c e h k = k

module _ {bounds : Bounds} where
  pub part_related : (n : Names) (ps : List EntryPlace) (path : List Bool) (v w : Value) (s t : State) → SameValue n v w → Like bounds n ps s t → Beside bounds SameValue n ps (part path v s) (part path w t)
  part_related n ps [] v w s t r l = done_now n ps v w s t r l
  part_related n ps (first ∷ path) v w s t r l =
      with_pair_related n ps _ _ v w s t _ _ (pair_same n ps s t v w l r) r l (λ a d b e h k. part_related n ps path _ _ _ _ (part_of_same n first a d b e h k) (reading_like n ps v w s t l))

  pub cdr_set_like : (n : Names) (ps : List EntryPlace) (p q v w : Value) (s t : State) → SameValue n p q → SameValue n v w → Like bounds n ps s t → Like bounds n ps (cdr_set p v s) (cdr_set q w t)
  cdr_set_like n ps p q v w s t r h l = at (pair_at s p) (pair_at t q) (pair_same n ps s t p q l r)
    where
      at : (x y : Option (Value × Value)) → Maybe (SameParts n) x y → Like bounds n ps (elim x as (λ (o : Option (Value × Value)). State) [ None ↦ s | Some parts ↦ with_object p (object.Pair parts.0 v) s ]) (elim y as (λ (o : Option (Value × Value)). State) [ None ↦ t | Some parts ↦ with_object q (object.Pair parts.0 w) t ])
      at _ _ nothing = l
      at _ _ (just _ _ (same_parts a d b e i j)) = with_object_like n ps p q _ _ s t l r (same_pair a v b w i h)

  pub with_cdr_related : (n : Names) (ps : List EntryPlace) (u v x y : Value) (s t : State) → SameValue n u v → SameValue n x y → Like bounds n ps s t → Beside bounds SameValue n ps (with_cdr u x s) (with_cdr v y t)
  with_cdr_related n ps u v x y s t p q l = search (renaming, with_pair_related, pair_same) depth 8

-- ---- new lists

pub data SameChain (n : Names) : Chain → Chain → Type 0 where
  no_chain : SameChain n None None
  same_chain : (a b c d : Value) → SameValue n a b → SameValue n c d → SameChain n (Some (a, c)) (Some (b, d))

pub chain_grows : (n m : Names) (c d : Chain) → SameChain n c d → Grows n m → SameChain m c d
chain_grows n m _ _ no_chain g = no_chain
chain_grows n m _ _ (same_chain a b c d h k) g = same_chain a b c d (value_grows n m a b h g) (value_grows n m c d k g)

module _ {bounds : Bounds} where
  hung_related : (n : Names) (ps : List EntryPlace) (c d : Chain) (p q : Value) (s t : State) → SameChain n c d → SameValue n p q → Like bounds n ps s t → Beside bounds SameChain n ps (Done (pair_hung c p s).0 (pair_hung c p s).1) (Done (pair_hung d q t).0 (pair_hung d q t).1)
  hung_related n ps _ _ p q s t no_chain h l = search (renaming, same_chain)
  hung_related n ps _ _ p q s t (same_chain a b c d i j) h l = search (renaming, same_chain, cdr_set_like)

  pub extended_related : (n : Names) (ps : List EntryPlace) (c d : Chain) (v w : Value) (s t : State) → SameChain n c d → SameValue n v w → Like bounds n ps s t → Beside bounds SameChain n ps (list_extended c v s) (list_extended d w t)
  extended_related n ps c d v w s t h k l = search (renaming, hung_related, chain_grows)

  pub ended_related : (n : Names) (ps : List EntryPlace) (c d : Chain) (v w : Value) (s t : State) → SameChain n c d → SameValue n v w → Like bounds n ps s t → Beside bounds SameValue n ps (list_ended c v s) (list_ended d w t)
  ended_related n ps _ _ v w s t no_chain h l = search renaming
  ended_related n ps _ _ v w s t (same_chain a b c d i j) h l = search (renaming, cdr_set_like)

  pub made_list_related : (n : Names) (ps : List EntryPlace) (c d : Chain) (xs ys : List Value) (s t : State) → SameChain n c d → Each (SameValue n) xs ys → Like bounds n ps s t → Beside bounds SameValue n ps (made_list c xs s) (made_list d ys t)
  made_list_related n ps c d [] _ s t h end l = search (renaming, ended_related)
  made_list_related n ps c d (x ∷ xs) _ s t h (more _ y _ ys i j) l =
      then_related n ps _ _ _ _ (extended_related n ps c d x y s t h i l) (λ m a b s t g r l. made_list_related m ps a b xs ys s t r (values_grow n m xs ys j g) l)

  -- ---- walks

  and_goes_related : {A : Type 0} {R : Names → A → A → Type 0} (n : Names) (ps : List EntryPlace) (o p : Outcome A) → Beside bounds R n ps o p → Beside bounds (SameFurther R) n ps (and_goes o) (and_goes p)
  and_goes_related {R = R} n ps o p h = then_related {S = SameFurther R} n ps o p _ _ h (λ m a b s t g r l. done_now m ps _ _ s t (same_goes a b r) l)

  pub append_related : (n : Names) (ps : List EntryPlace) (u v x y : Value) (s t : State) → SameValue n u v → SameValue n x y → Like bounds n ps s t → Beside bounds SameValue n ps (append u x s) (append v y t)
  append_related n ps u v x y s t p q l =
      then_walked n ps _ _ _ _ (walk_related SameChain n ps _ _ (λ m a b v w x y s t g r e i l. and_goes_related m ps _ _ (extended_related m ps a b x y s t r i l)) None None u v s t no_chain p l)
      (λ m a b e f s t g r h l. ended_related m ps a b x y s t r (value_grows n m x y q g) l)

  pub reversed_related : (n : Names) (ps : List EntryPlace) (u v : Value) (s t : State) → SameValue n u v → Like bounds n ps s t → Beside bounds SameValue n ps (reversed u s) (reversed v t)
  reversed_related n ps u v s t p l =
      then_walked n ps _ _ _ _ (walk_related SameValue n ps _ _ (λ m a b v w x y s t g r e i l. and_goes_related m ps _ _ (made_pair_related m ps x y a b s t l i r)) nil_value_of_state nil_value_of_state u v s t (same_id 0) p l)
      (λ m a b e f s t g r h l. done_now m ps a b s t r l)

  pub list_length_related : (n : Names) (ps : List EntryPlace) (u v : Value) (s t : State) → SameValue n u v → Like bounds n ps s t → Beside bounds SameValue n ps (list_length u s) (list_length v t)
  list_length_related n ps u v s t p l =
      then_walked n ps _ _ _ _ (walk_related Is n ps _ _ (λ m a b v w x y s t g r e i l. counted m a b s t r l) 0 0 u v s t (is 0) p l)
      (λ m a b e f s t g r h l. measured m a b s t r l)
    where
      counted : (m : Names) (a b : ℕ) (s t : State) → Is m a b → Like bounds m ps s t → Beside bounds (SameFurther Is) m ps (Done (Goes (suc a)) s) (Done (Goes (suc b)) t)
      counted m _ _ s t (is a) l = done_now m ps _ _ s t (same_goes _ _ (is (suc a))) l

      measured : (m : Names) (a b : ℕ) (s t : State) → Is m a b → Like bounds m ps s t → Beside bounds SameValue m ps (Done (Int (pos a)) s) (Done (Int (pos b)) t)
      measured m _ _ s t (is a) l = done_now m ps _ _ s t (same_int _) l

found_same : (n : Names) (b : Bool) (v w : Value) → SameValue n v w → SameFurther SameValue n (found_at b v) (found_at b w)
found_same n true v w h = same_ends v w h
found_same n false v w h = same_goes nil_value_of_state nil_value_of_state (same_id 0)

module _ {bounds : Bounds} where
  first_pair_related : (n : Names) (ps : List EntryPlace) (f g : Value → Value → State → Outcome Bool) (u v : Value) (s t : State)
      → ((m : Names) (v w x y : Value) (s t : State) → Grows n m → SameValue m v w → SameValue m x y → Like bounds m ps s t → Beside bounds Is m ps (f v x s) (g w y t)) → SameValue n u v → Like bounds n ps s t → Beside bounds SameValue n ps (first_pair f u s) (first_pair g v t)
  first_pair_related n ps f g u v s t h p l =
      then_walked n ps _ _ _ _ (walk_related SameValue n ps _ _ (λ m a b v w x y s t k r e i l. then_is m ps _ _ _ _ (h m v w x y s t k e i l) (λ m' b s t k l. done_now m' ps _ _ s t (found_same m' b v w (value_grows m m' v w e k)) l)) nil_value_of_state nil_value_of_state u v s t (same_id 0) p l)
      (λ m a b e f s t g r h l. done_now m ps a b s t r l)

  pub member_related : (n : Names) (ps : List EntryPlace) (l m : Levels) (x y u v : Value) (s t : State) → Roomier bounds l m → SameValue n x y → SameValue n u v → Like bounds n ps s t → Beside bounds SameValue n ps (member l x u s) (member m y v t)
  member_related n ps l m x y u v s t r p q k = first_pair_related n ps _ _ u v s t (λ m' v w a b s t g h i k. equal_related m' ps l m x y a b s t r (value_grows n m' x y p g) i k) q k

  memq_test : (n : Names) (ps : List EntryPlace) (u v x y : Value) (s t : State) → SameValue n u v → SameValue n x y → Like bounds n ps s t → Beside bounds Is n ps (Done (same u x) s) (Done (same v y) t)
  memq_test n ps u v x y s t p q l = rw (same_same n u v x y l.store.once l.functions.once p q) (done_now n ps _ _ s t (is (same v y)) l)

  pub memq_related : (n : Names) (ps : List EntryPlace) (x y u v : Value) (s t : State) → SameValue n x y → SameValue n u v → Like bounds n ps s t → Beside bounds SameValue n ps (memq x u s) (memq y v t)
  memq_related n ps x y u v s t p q k = first_pair_related n ps _ _ u v s t (λ m' v w a b s t g h i k. memq_test m' ps x y a b s t (value_grows n m' x y p g) i k) q k

  associated_related : (n : Names) (ps : List EntryPlace) (l m : Levels) (x y u v a b : Value) (o p : Option (Value × Value)) (s t : State) → Roomier bounds l m → SameValue n x y → SameValue n u v → SameValue n a b → Maybe (SameParts n) o p → Like bounds n ps s t → Beside bounds (SameFurther SameValue) n ps (associated l x u a o s) (associated m y v b p t)
  associated_related n ps l m x y u v a b _ _ s t r h i j (just _ _ (same_parts c d c' d' e f)) k =
      then_is n ps _ _ _ _ (equal_related n ps l m x y c c' _ _ r h e (reading_like n ps a b s t k)) (λ m' b' s t g k. done_now m' ps _ _ s t (found_same m' b' a b (value_grows n m' a b j g)) k)
  associated_related n ps l m x y u v a b _ _ s t r h i j nothing k = search fail_related

  pub assoc_related : (n : Names) (ps : List EntryPlace) (l m : Levels) (x y u v : Value) (s t : State) → Roomier bounds l m → SameValue n x y → SameValue n u v → Like bounds n ps s t → Beside bounds SameValue n ps (assoc l x u s) (assoc m y v t)
  assoc_related n ps l m x y u v s t r p q k =
      then_walked n ps _ _ _ _ (walk_related SameValue n ps _ _ (λ m' a b v' w c d s t g h i j k. associated_related m' ps l m x y u v c d _ _ s t r (value_grows n m' x y p g) (value_grows n m' u v q g) j (pair_same m' ps s t c d k j) k) nil_value_of_state nil_value_of_state u v s t (same_id 0) q k)
      (λ m a b e f s t g r h l. done_now m ps a b s t r l)

pub data SameMaybe (n : Names) : Option Value → Option Value → Type 0 where
  same_maybe : (x y : Option Value) → Maybe (SameValue n) x y → SameMaybe n x y

module _ {bounds : Bounds} where
  joined_related : (n : Names) (ps : List EntryPlace) (u v : Value) (o p : Option Value) (x y : Value) (s t : State) → SameValue n u v → SameMaybe n o p → SameValue n x y → Like bounds n ps s t → Beside bounds SameValue n ps (joined u o x s) (joined v p y t)
  joined_related n ps u v _ _ x y s t h (same_maybe _ _ nothing) k l = done_now n ps x y s t k l
  joined_related n ps u v _ _ x y s t h (same_maybe _ _ (just a b i)) k l = search (renaming, cdr_set_like)

  pub nconc_related : (n : Names) (ps : List EntryPlace) (u v x y : Value) (s t : State) → SameValue n u v → SameValue n x y → Like bounds n ps s t → Beside bounds SameValue n ps (nconc u x s) (nconc v y t)
  nconc_related n ps u v x y s t p q l =
      then_walked n ps _ _ _ _ (walk_related SameMaybe n ps _ _ (λ m a b v w x y s t g r e i l. done_now m ps _ _ s t (same_goes _ _ (same_maybe _ _ (just v w e))) l) None None u v s t (same_maybe _ _ nothing) p l)
      (λ m a b e f s t g r h l. joined_related m ps u v a b x y s t (value_grows n m u v p g) r (value_grows n m x y q g) l)
