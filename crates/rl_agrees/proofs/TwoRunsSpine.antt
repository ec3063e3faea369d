-- A list that ends has no more pairs than the store: so what is said of a whole list does not hang on the size of the store.
use Rattle.std.proofs.Common.{◌≡◌, ◌≤◌, ◌<◌, ◌⊎◌, inl, inr, eqb, ◌+◌, ◌∙◌, ◌||◌, not, ℕ, zero, suc, Bool, true, false, List, [], ◌∷◌, length, slice_get, Option, Some, None, refl, sym, ap, subst, arith}
use Rattle.std.specs.List.{IsDistinct, AllByRecursion, list_any}
use Rattle.std.proofs.lemmas.Option.{slice_get_within}
use Rattle.std.proofs.lemmas.Map.Steps.{length-le_from_distinct_below}
use Rattle.std.proofs.lemmas.Bool.Decides.{nat_tests}
use Rattle.rl_tree.specs.Value.{Value, Int, Id, Str, Ref, Fun, Object}
use Rattle.rl_meaning.specs.State.{State}
use Rattle.rl_meaning.specs.Symbols.{is_nil, parts_of, pair_at, list_with_first, list_below, list_elements}
use Rattle.rl_meaning.specs.Holding.{is_improper_within, is_improper}
use Rattle.rl_meaning.specs.TwoRunsValues.{Names, Maybe, nothing, just, Each, end, more, SameValue, SameParts, same_parts}
use Rattle.rl_meaning.specs.TwoRunsStates.{Bounds, EntryPlace, Like}
use Rattle.rl_agrees.proofs.TwoRunsObjects.{pair_same, nil_same}

module _ {bounds : Bounds} where
  -- the same fuel gives the same answer on both sides
  improper_same : (i : ℕ) (n : Names) (ps : List EntryPlace) (s t : State) (v w : Value) → Like bounds n ps s t → SameValue n v w → is_improper_within i s v ≡ is_improper_within i t w
  improper_same zero n ps s t v w l h = refl
  improper_same (suc i) n ps s t v w l h = at _ _ (pair_same n ps s t v w l h) (λ a b k. improper_same i n ps s t a b l k)
    where
      at : (o p : Option (Value × Value)) → Maybe (SameParts n) o p → ((a b : Value) → SameValue n a b → is_improper_within i s a ≡ is_improper_within i t b)
          → elim o as (λ (o : Option (Value × Value)). Bool) [ None ↦ not (is_nil v) | Some parts ↦ is_improper_within i s parts.1 ] ≡ elim p as (λ (o : Option (Value × Value)). Bool) [ None ↦ not (is_nil w) | Some parts ↦ is_improper_within i t parts.1 ]
      at _ _ nothing k = ap (λ b. not b) (nil_same n v w h)
      at _ _ (just _ _ (same_parts a d b e x y)) k = k d e y

module _ (s : State) where
  -- the list comes to its end behind so many pairs
  data Ends : ℕ → Value → Type 0 where
    at_end : (v : Value) → pair_at s v ≡ None → Ends zero v
    behind : (n : ℕ) (v : Value) (parts : Value × Value) → pair_at s v ≡ Some parts → Ends n parts.1 → Ends (suc n) v

  some_same : (p q : Value × Value) → Some p ≡ Some q → p ≡ q
  some_same p q e = cc

  once : (n m : ℕ) (v : Value) → Ends n v → Ends m v → n ≡ m
  once _ _ v (at_end _ e) (at_end _ f) = refl
  once _ _ v (at_end _ e) (behind m _ parts f k) = absurd (let x : None ≡ Some parts = sym e ∙ f in cc)
  once _ _ v (behind n _ parts e h) (at_end _ f) = absurd (let x : None ≡ Some parts = sym f ∙ e in cc)
  once _ _ v (behind n _ p e h) (behind m _ q f k) = ap suc (once n m p.1 h (subst (λ parts. Ends m parts.1) (some_same q p (sym f ∙ e)) k))

  -- with enough fuel the answer is that of the end
  enough : (n : ℕ) (v : Value) → Ends n v → (i j : ℕ) → n < i → n < j → is_improper_within i s v ≡ is_improper_within j s v
  enough _ v (at_end _ e) (suc i) (suc j) l k = rw (e, is_improper_within) refl
  enough _ v (behind n _ parts e h) (suc i) (suc j) l k = rw (e, is_improper_within) (enough n parts.1 h i j (omega (arith, l)) (omega (arith, k)))
  enough _ v h zero j l k = absurd (omega (arith, l))
  enough _ v h (suc i) zero l k = absurd (omega (arith, k))

  record Found (i : ℕ) (v : Value) : Type 0 where
    pub count : ℕ
    pub less : count < i
    pub ends : Ends count v

  -- the end is met, or the fuel is out
  met : (i : ℕ) (v : Value) → Found i v ⊎ (is_improper_within i s v ≡ false)
  met zero v = inr refl
  met (suc i) v = at (pair_at s v) refl (λ w. met i w)
    where
      at : (o : Option (Value × Value)) → pair_at s v ≡ o → ((w : Value) → Found i w ⊎ (is_improper_within i s w ≡ false)) → Found (suc i) v ⊎ (elim o as (λ (o : Option (Value × Value)). Bool) [ None ↦ not (is_nil v) | Some parts ↦ is_improper_within i s parts.1 ] ≡ false)
      at None e k = inl (record { count = 0; less = omega arith; ends = at_end v e })
      at (Some parts) e k = behind_it (k parts.1)
        where
          behind_it : Found i parts.1 ⊎ (is_improper_within i s parts.1 ≡ false) → Found (suc i) v ⊎ (is_improper_within i s parts.1 ≡ false)
          behind_it (inl f) = inl (record { count = suc f.count; less = omega (arith, f.less); ends = behind f.count v parts e f.ends })
          behind_it (inr f) = inr f

  -- ---- the pairs of a list that ends are different ones

  record Deep (n : ℕ) (q : ℕ) : Type 0 where
    pub depth : ℕ
    pub least : depth ≤ n
    pub ends : Ends depth (Ref q)
    pub there : q < length s.store

  record Nodes (n : ℕ) : Type 0 where
    pub list : List ℕ
    pub long : length list ≡ n
    pub distinct : IsDistinct eqb list
    pub deep : AllByRecursion (λ q. Deep n q) list

  apart_all : (n r : ℕ) (xs : List ℕ) → Ends (suc n) (Ref r) → AllByRecursion (λ q. Deep n q) xs → AllByRecursion (λ y. eqb r y ≡ false) xs
  apart_all n r [] h a = tt
  apart_all n r (x ∷ xs) h a = (differs (λ e. let k = once (suc n) a.0.depth (Ref r) h (subst (λ y. Ends a.0.depth (Ref y)) (sym e) a.0.ends) in let l = a.0.least in omega (arith, k, l)), apart_all n r xs h a.1)
    where
      differs : (r ≡ x → ⊥) → eqb r x ≡ false
      differs k = grind (arith, nat_tests, k)

  deeper_all : (n : ℕ) (xs : List ℕ) → AllByRecursion (λ q. Deep n q) xs → AllByRecursion (λ q. Deep (suc n) q) xs
  deeper_all n [] a = tt
  deeper_all n (x ∷ xs) a = (record { depth = a.0.depth; least = let l = a.0.least in omega (arith, l); ends = a.0.ends; there = a.0.there }, deeper_all n xs a.1)

  parts_some : (o : Option Object) (parts : Value × Value) → parts_of o ≡ Some parts → (x : Object) × (o ≡ Some x)
  parts_some None parts e = absurd (cc)
  parts_some (Some x) parts e = (x, refl)

  nodes : (n : ℕ) (v : Value) → Ends n v → Nodes n
  unfolding IsDistinct
  nodes _ v (at_end _ e) = record { list = []; long = refl; distinct = tt; deep = tt }
  nodes _ (Ref r) (behind n _ parts e h) =
      let k : Nodes n = nodes n parts.1 h in
      let x : (x : Object) × (slice_get s.store r ≡ Some x) = parts_some (slice_get s.store r) parts e in
      record {
        list = r ∷ k.list;
        long = ap suc k.long;
        distinct = (apart_all n r k.list (behind n (Ref r) parts e h) k.deep, k.distinct);
        deep = (record { depth = suc n; least = omega arith; ends = behind n (Ref r) parts e h; there = slice_get_within s.store r x.0 x.1 }, deeper_all n k.list k.deep);
      }
  nodes _ (Int z) (behind n _ parts e h) = absurd (cc)
  nodes _ (Id z) (behind n _ parts e h) = absurd (cc)
  nodes _ (Str z) (behind n _ parts e h) = absurd (cc)
  nodes _ (Fun z place) (behind n _ parts e h) = absurd (cc)

  below_all : (n : ℕ) (xs : List ℕ) → AllByRecursion (λ q. Deep n q) xs → (q : ℕ) → list_any (λ x. eqb q x) xs ≡ true → q < length s.store
  below_all n [] a q e = absurd (cc)
  below_all n (x ∷ xs) a q e = at (eqb q x) refl e (λ e. below_all n xs a.1 q e)
    where
      at : (b : Bool) → eqb q x ≡ b → b || list_any (λ x. eqb q x) xs ≡ true → (list_any (λ x. eqb q x) xs ≡ true → q < length s.store) → q < length s.store
      at true e f k = let same : q ≡ x = grind (arith, nat_tests, e) in let l = a.0.there in omega (arith, same, l)
      at false e f k = k f

  no_longer : (n : ℕ) (v : Value) → Ends n v → n ≤ length s.store
  no_longer n v h = let k : Nodes n = nodes n v h in omega (arith, k.long, length-le_from_distinct_below k.list (length s.store) k.distinct (λ q e. below_all n k.list k.deep q e))

  -- any fuel above the size of the store gives one answer
  steady : (v : Value) (i j : ℕ) → length s.store < i → length s.store < j → is_improper_within i s v ≡ is_improper_within j s v
  steady v i j l k = at (met i v) (met j v)
    where
      at : Found i v ⊎ (is_improper_within i s v ≡ false) → Found j v ⊎ (is_improper_within j s v ≡ false) → is_improper_within i s v ≡ is_improper_within j s v
      at (inl f) g = enough f.count v f.ends i j f.less (omega (arith, no_longer f.count v f.ends, k))
      at (inr f) (inl g) = enough g.count v g.ends i j (omega (arith, no_longer g.count v g.ends, l)) g.less
      at (inr f) (inr g) = f ∙ sym g

module _ {bounds : Bounds} where
  pub is_improper_same : (n : Names) (ps : List EntryPlace) (s t : State) (v w : Value) → Like bounds n ps s t → SameValue n v w → is_improper s v ≡ is_improper t w
  is_improper_same n ps s t v w l h =
      let i : ℕ = suc (length s.store + length t.store) in
      steady s v (suc (length s.store)) i (omega arith) (omega arith) ∙ improper_same i n ps s t v w l h ∙ steady t w i (suc (length t.store)) (omega arith) (omega arith)

-- ---- the elements of a list

first_same : (n : Names) (v w : Value) (o p : Option (List Value)) → SameValue n v w → Maybe (Each (SameValue n)) o p → Maybe (Each (SameValue n)) (list_with_first v o) (list_with_first w p)
first_same n v w _ _ h nothing = nothing
first_same n v w _ _ h (just xs ys k) = just _ _ (more v w xs ys h k)

module _ {bounds : Bounds} where
  within_same : (i : ℕ) (n : Names) (ps : List EntryPlace) (s t : State) (v w : Value) → Like bounds n ps s t → SameValue n v w → Maybe (Each (SameValue n)) (list_below i s v) (list_below i t w)
  within_same zero n ps s t v w l h = nothing
  within_same (suc i) n ps s t v w l h = at _ _ (pair_same n ps s t v w l h) (λ a b k. within_same i n ps s t a b l k)
    where
      at : (o p : Option (Value × Value)) → Maybe (SameParts n) o p → ((a b : Value) → SameValue n a b → Maybe (Each (SameValue n)) (list_below i s a) (list_below i t b))
          → Maybe (Each (SameValue n)) (elim o as (λ (o : Option (Value × Value)). Option (List Value)) [ None ↦ Some [] | Some parts ↦ list_with_first parts.0 (list_below i s parts.1) ]) (elim p as (λ (o : Option (Value × Value)). Option (List Value)) [ None ↦ Some [] | Some parts ↦ list_with_first parts.0 (list_below i t parts.1) ])
      at _ _ nothing k = just _ _ end
      at _ _ (just _ _ (same_parts a d b e x y)) k = first_same n a b _ _ x (k d e y)

module _ (s : State) where
  list_enough : (n : ℕ) (v : Value) → Ends s n v → (i j : ℕ) → n < i → n < j → list_below i s v ≡ list_below j s v
  list_enough _ v (at_end _ e) (suc i) (suc j) l k = rw (e, list_below) refl
  list_enough _ v (behind n _ parts e h) (suc i) (suc j) l k = rw (e, list_below) (ap (λ o. list_with_first parts.0 o) (list_enough n parts.1 h i j (omega (arith, l)) (omega (arith, k))))
  list_enough _ v h zero j l k = absurd (omega (arith, l))
  list_enough _ v h (suc i) zero l k = absurd (omega (arith, k))

  list_met : (i : ℕ) (v : Value) → Found s i v ⊎ (list_below i s v ≡ None)
  list_met zero v = inr refl
  list_met (suc i) v = at (pair_at s v) refl (λ w. list_met i w)
    where
      at : (o : Option (Value × Value)) → pair_at s v ≡ o → ((w : Value) → Found s i w ⊎ (list_below i s w ≡ None)) → Found s (suc i) v ⊎ (elim o as (λ (o : Option (Value × Value)). Option (List Value)) [ None ↦ Some [] | Some parts ↦ list_with_first parts.0 (list_below i s parts.1) ] ≡ None)
      at None e k = inl (record { count = 0; less = omega arith; ends = at_end v e })
      at (Some parts) e k = behind_it (k parts.1)
        where
          behind_it : Found s i parts.1 ⊎ (list_below i s parts.1 ≡ None) → Found s (suc i) v ⊎ (list_with_first parts.0 (list_below i s parts.1) ≡ None)
          behind_it (inl f) = inl (record { count = suc f.count; less = omega (arith, f.less); ends = behind f.count v parts e f.ends })
          behind_it (inr f) = inr (ap (λ o. list_with_first parts.0 o) f)

  list_steady : (v : Value) (i j : ℕ) → length s.store < i → length s.store < j → list_below i s v ≡ list_below j s v
  list_steady v i j l k = at (list_met i v) (list_met j v)
    where
      at : Found s i v ⊎ (list_below i s v ≡ None) → Found s j v ⊎ (list_below j s v ≡ None) → list_below i s v ≡ list_below j s v
      at (inl f) g = list_enough f.count v f.ends i j f.less (omega (arith, no_longer s f.count v f.ends, k))
      at (inr f) (inl g) = list_enough g.count v g.ends i j (omega (arith, no_longer s g.count v g.ends, l)) g.less
      at (inr f) (inr g) = f ∙ sym g

module _ {bounds : Bounds} where
  pub list_elements_same : (n : Names) (ps : List EntryPlace) (s t : State) (v w : Value) → Like bounds n ps s t → SameValue n v w → Maybe (Each (SameValue n)) (list_elements s v) (list_elements t w)
  list_elements_same n ps s t v w l h =
      let i : ℕ = suc (length s.store + length t.store) in
      subst (λ o. Maybe (Each (SameValue n)) o (list_below (suc (length t.store)) t w)) (sym (list_steady s v (suc (length s.store)) i (omega arith) (omega arith)))
      (subst (λ o. Maybe (Each (SameValue n)) (list_below i s v) o) (list_steady t w i (suc (length t.store)) (omega arith) (omega arith)) (within_same i n ps s t v w l h))
