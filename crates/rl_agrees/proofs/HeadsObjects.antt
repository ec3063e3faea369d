-- The objects of a value are all that its parts name, down to the last: following them comes to its end.
use Rattle.std.proofs.Common.{◌≡◌, ◌≤◌, ◌⊎◌, inl, inr, ◌+◌, ◌==◌, ◌||◌, if◌then◌else◌, ℕ, zero, suc, Bool, true, false, List, [], ◌∷◌, ◌++◌, length, slice_get, Some, refl, sym, ap, subst, arith, length-append}
use Rattle.std.proofs.lemmas.Bool.{eqb-true, eq-eqb}
use Rattle.std.proofs.lemmas.List.Sums.{sum_by-cons}
use Rattle.rl_tree.specs.Value.{Value, Int, Id, Str, Ref, Fun, Object, Store}
use Rattle.rl_meaning.specs.Constants.{is_among, values_in, size_of, objects_within, objects_of}
use Rattle.rl_agrees.specs.Later.{IsMemberOf, first, further}
use Rattle.rl_agrees.proofs.LaterStands.{in_none, in_list}
use Rattle.rl_agrees.proofs.HeadsReach.{or_first, or_second, or_either}

-- ---- two lists

pub in_front : {A : Type 0} (a : A) (xs ys : List A) → IsMemberOf a xs → IsMemberOf a (xs ++ ys)
in_front a [] ys h = absurd (in_none a h)
in_front a (x ∷ xs) ys h = elim (in_list a x xs h) [
  | inl e ↦ subst (λ y. IsMemberOf a (y ∷ (xs ++ ys))) (sym e) (first (xs ++ ys))
  | inr k ↦ further x (xs ++ ys) (in_front a xs ys k)
]

pub in_behind : {A : Type 0} (a : A) (xs ys : List A) → IsMemberOf a ys → IsMemberOf a (xs ++ ys)
in_behind a [] ys h = h
in_behind a (x ∷ xs) ys h = further x (xs ++ ys) (in_behind a xs ys h)

pub in_either : {A : Type 0} (a : A) (xs ys : List A) → IsMemberOf a (xs ++ ys) → IsMemberOf a xs ⊎ IsMemberOf a ys
in_either a [] ys h = inr h
in_either a (x ∷ xs) ys h = elim (in_list a x (xs ++ ys) h) [
  | inl e ↦ inl (subst (λ y. IsMemberOf a (y ∷ xs)) (sym e) (first xs))
  | inr k ↦ elim (in_either a xs ys k) [
    | inl l ↦ inl (further x xs l)
    | inr r ↦ inr r
  ]
]

-- ---- what may still be followed

abbrev unless_seen : ℕ → Bool → ℕ
unless_seen b true = 0
unless_seen b false = b

abbrev room_left : ℕ → List Object → List ℕ → ℕ
room_left k [] seen = 0
room_left k (o ∷ os) seen = unless_seen (suc (length (values_in (Some o)))) (is_among k seen) + room_left (suc k) os seen

unless_or : (b : ℕ) (c d : Bool) → unless_seen b (c || d) ≤ unless_seen b d
unless_or b true d = omega arith
unless_or b false d = omega arith

room_more : (k : ℕ) (os : List Object) (r : ℕ) (seen : List ℕ) → room_left k os (r ∷ seen) ≤ room_left k os seen
room_more k [] r seen = omega arith
room_more k (o ∷ os) r seen = omega (arith, unless_or (suc (length (values_in (Some o)))) (k == r) (is_among k seen), room_more (suc k) os r seen)

among_self : (r : ℕ) (seen : List ℕ) → is_among r (r ∷ seen) ≡ true
among_self r seen = or_first _ _ (eq-eqb r r refl)

-- an object that was not seen leaves less
room_less : (k : ℕ) (os : List Object) (j r : ℕ) (seen : List ℕ) → r ≡ k + j → is_among r seen ≡ false → room_left k os (r ∷ seen) + length (values_in (slice_get os j)) ≤ room_left k os seen
room_less k [] j r seen e h = omega arith
room_less k (o ∷ os) zero r seen e h = at k (omega (arith, e))
  where
    at : (m : ℕ) → r ≡ m → room_left m (o ∷ os) (r ∷ seen) + length (values_in (Some o)) ≤ room_left m (o ∷ os) seen
    at m e = subst (λ n. room_left n (o ∷ os) (r ∷ seen) + length (values_in (Some o)) ≤ room_left n (o ∷ os) seen) e (omega (arith, ap (unless_seen (suc (length (values_in (Some o))))) h, ap (unless_seen (suc (length (values_in (Some o))))) (among_self r seen), room_more (suc r) os r seen))
room_less k (o ∷ os) (suc j) r seen e h = omega (arith, unless_or (suc (length (values_in (Some o)))) (k == r) (is_among k seen), room_less (suc k) os j r seen (omega (arith, e)) h)

room_first : (k : ℕ) (os : List Object) → room_left k os [] ≤ size_of os
room_first k [] = omega arith
room_first k (o ∷ os) = omega (arith, room_first (suc k) os, sum_by-cons (λ (o : Object). suc (length (values_in (Some o)))) o os)

-- ---- what is followed

module _ (store : Store) where
  abbrev values_at : ℕ → List Value
  values_at r = values_in (slice_get store r)

  abbrev Enough : ℕ → List ℕ → List Value → Type 0
  Enough n seen vs = length vs + room_left 0 store seen ≤ n

  seen_stays : (n : ℕ) (seen : List ℕ) (vs : List Value) (q : ℕ) → is_among q seen ≡ true → is_among q (objects_within n store seen vs) ≡ true
  seen_stays zero seen vs q h = h
  seen_stays (suc n) seen [] q h = h
  seen_stays (suc n) seen (Ref r ∷ vs) q h = elim (is_among r seen) as (λ b. is_among q (if b then objects_within n store seen vs else objects_within n store (r ∷ seen) (values_at r ++ vs)) ≡ true) [
    | true ↦ seen_stays n seen vs q h
    | false ↦ seen_stays n (r ∷ seen) (values_at r ++ vs) q (or_second _ _ h)
  ]
  seen_stays (suc n) seen (Int z ∷ vs) q h = seen_stays n seen vs q h
  seen_stays (suc n) seen (Id i ∷ vs) q h = seen_stays n seen vs q h
  seen_stays (suc n) seen (Str bytes ∷ vs) q h = seen_stays n seen vs q h
  seen_stays (suc n) seen (Fun f place ∷ vs) q h = seen_stays n seen vs q h

  abbrev number_of : Value → ℕ
  number_of (Ref r) = r
  number_of v = 0

  same_number : (r q : ℕ) → Ref r ≡ Ref q → q ≡ r
  same_number r q e = sym (ap number_of e)

  -- a value that names no object is none of those that do
  other_value : (v : Value) (q : ℕ) (vs : List Value) → (v ≡ Ref q → ⊥) → IsMemberOf (Ref q) (v ∷ vs) → IsMemberOf (Ref q) vs
  other_value v q vs other h = elim (in_list (Ref q) v vs h) [
    | inl e ↦ absurd (other e)
    | inr k ↦ k
  ]

  no_ref : (q : ℕ) (v : Value) → (elim v as (λ w. Bool) [ Int z ↦ true | Id i ↦ true | Str bytes ↦ true | Ref r ↦ false | Fun f place ↦ true ]) ≡ true → v ≡ Ref q → ⊥
  no_ref q (Ref r) h e = absurd (cc)
  no_ref q (Int z) h e = absurd (cc)
  no_ref q (Id i) h e = absurd (cc)
  no_ref q (Str bytes) h e = absurd (cc)
  no_ref q (Fun f place) h e = absurd (cc)

  followed_step : (n r q : ℕ) (seen : List ℕ) (vs : List Value) (b : Bool) → is_among r seen ≡ b → (Ref r ≡ Ref q) ⊎ IsMemberOf (Ref q) vs
      → (IsMemberOf (Ref q) vs → is_among q (objects_within n store seen vs) ≡ true)
      → (is_among r seen ≡ false → IsMemberOf (Ref q) vs → is_among q (objects_within n store (r ∷ seen) (values_at r ++ vs)) ≡ true)
      → is_among q (if b then objects_within n store seen vs else objects_within n store (r ∷ seen) (values_at r ++ vs)) ≡ true
  followed_step n r q seen vs true e (inl k) old new = seen_stays n seen vs q (subst (λ x. is_among x seen ≡ true) (sym (same_number r q k)) e)
  followed_step n r q seen vs true e (inr k) old new = old k
  followed_step n r q seen vs false e (inl k) old new = seen_stays n (r ∷ seen) (values_at r ++ vs) q (subst (λ x. is_among x (r ∷ seen) ≡ true) (sym (same_number r q k)) (among_self r seen))
  followed_step n r q seen vs false e (inr k) old new = new e k

  followed_less : (r : ℕ) (seen : List ℕ) (vs : List Value) → is_among r seen ≡ false → length (values_at r ++ vs) + room_left 0 store (r ∷ seen) ≤ length vs + room_left 0 store seen
  followed_less r seen vs h = omega (arith, length-append (values_at r) vs, room_less 0 store r r seen (omega arith) h)

  -- the objects that stand to be followed
  pub followed : (n : ℕ) (seen : List ℕ) (vs : List Value) → Enough n seen vs → (q : ℕ) → IsMemberOf (Ref q) vs → is_among q (objects_within n store seen vs) ≡ true
  followed n seen [] enough q h = absurd (in_none (Ref q) h)
  followed zero seen (v ∷ vs) enough q h = absurd (omega (arith, enough))
  followed (suc n) seen (Ref r ∷ vs) enough q h =
      followed_step n r q seen vs (is_among r seen) refl (in_list (Ref q) (Ref r) vs h)
      (λ k. followed n seen vs (omega (arith, enough)) q k)
      (λ e k. followed n (r ∷ seen) (values_at r ++ vs) (omega (arith, enough, followed_less r seen vs e)) q (in_behind (Ref q) (values_at r) vs k))
  followed (suc n) seen (Int z ∷ vs) enough q h = followed n seen vs (omega (arith, enough)) q (other_value (Int z) q vs (no_ref q (Int z) refl) h)
  followed (suc n) seen (Id i ∷ vs) enough q h = followed n seen vs (omega (arith, enough)) q (other_value (Id i) q vs (no_ref q (Id i) refl) h)
  followed (suc n) seen (Str bytes ∷ vs) enough q h = followed n seen vs (omega (arith, enough)) q (other_value (Str bytes) q vs (no_ref q (Str bytes) refl) h)
  followed (suc n) seen (Fun f place ∷ vs) enough q h = followed n seen vs (omega (arith, enough)) q (other_value (Fun f place) q vs (no_ref q (Fun f place) refl) h)

  -- what the objects that were seen name is seen or stands to be followed
  abbrev Within : List ℕ → List Value → Type 0
  Within seen vs = (r q : ℕ) → is_among r seen ≡ true → IsMemberOf (Ref q) (values_at r) → (is_among q seen ≡ true) ⊎ IsMemberOf (Ref q) vs

  within_old : (r : ℕ) (seen : List ℕ) (vs : List Value) → is_among r seen ≡ true → Within seen (Ref r ∷ vs) → Within seen vs
  within_old r seen vs e w p q h k = elim (w p q h k) [
    | inl a ↦ inl a
    | inr b ↦ elim (in_list (Ref q) (Ref r) vs b) [
      | inl same ↦ inl (subst (λ x. is_among x seen ≡ true) (sym (same_number r q same)) e)
      | inr c ↦ inr c
    ]
  ]

  within_new : (r : ℕ) (seen : List ℕ) (vs : List Value) → Within seen (Ref r ∷ vs) → Within (r ∷ seen) (values_at r ++ vs)
  within_new r seen vs w p q h k = elim (or_either (p == r) (is_among p seen) h) [
    | inl same ↦ inr (in_front (Ref q) (values_at r) vs (subst (λ x. IsMemberOf (Ref q) (values_at x)) (eqb-true p r same) k))
    | inr old ↦ elim (w p q old k) [
      | inl a ↦ inl (or_second _ _ a)
      | inr b ↦ elim (in_list (Ref q) (Ref r) vs b) [
        | inl same ↦ inl (subst (λ x. is_among x (r ∷ seen) ≡ true) (sym (same_number r q same)) (among_self r seen))
        | inr c ↦ inr (in_behind (Ref q) (values_at r) vs c)
      ]
    ]
  ]

  within_other : (v : Value) (seen : List ℕ) (vs : List Value) → ((q : ℕ) → v ≡ Ref q → ⊥) → Within seen (v ∷ vs) → Within seen vs
  within_other v seen vs other w p q h k = elim (w p q h k) [
    | inl a ↦ inl a
    | inr b ↦ inr (other_value v q vs (other q) b)
  ]

  closed_end : (seen : List ℕ) (r q : ℕ) → Within seen [] → is_among r seen ≡ true → IsMemberOf (Ref q) (values_at r) → is_among q seen ≡ true
  closed_end seen r q w h k = elim (w r q h k) [
    | inl a ↦ a
    | inr b ↦ absurd (in_none (Ref q) b)
  ]

  closed_step : (n r p q : ℕ) (seen : List ℕ) (vs : List Value) (b : Bool) → is_among r seen ≡ b
      → (is_among r seen ≡ true → is_among p (objects_within n store seen vs) ≡ true → is_among q (objects_within n store seen vs) ≡ true)
      → (is_among r seen ≡ false → is_among p (objects_within n store (r ∷ seen) (values_at r ++ vs)) ≡ true → is_among q (objects_within n store (r ∷ seen) (values_at r ++ vs)) ≡ true)
      → is_among p (if b then objects_within n store seen vs else objects_within n store (r ∷ seen) (values_at r ++ vs)) ≡ true
      → is_among q (if b then objects_within n store seen vs else objects_within n store (r ∷ seen) (values_at r ++ vs)) ≡ true
  closed_step n r p q seen vs true e old new h = old e h
  closed_step n r p q seen vs false e old new h = new e h

  -- what the objects that are followed name is followed
  pub closed_followed : (n : ℕ) (seen : List ℕ) (vs : List Value) → Enough n seen vs → Within seen vs → (p q : ℕ) → IsMemberOf (Ref q) (values_at p) → is_among p (objects_within n store seen vs) ≡ true → is_among q (objects_within n store seen vs) ≡ true
  closed_followed zero seen [] enough w p q k h = closed_end seen p q w h k
  closed_followed (suc n) seen [] enough w p q k h = closed_end seen p q w h k
  closed_followed zero seen (v ∷ vs) enough w p q k h = absurd (omega (arith, enough))
  closed_followed (suc n) seen (Ref r ∷ vs) enough w p q k h =
      closed_step n r p q seen vs (is_among r seen) refl
      (λ e h. closed_followed n seen vs (omega (arith, enough)) (within_old r seen vs e w) p q k h)
      (λ e h. closed_followed n (r ∷ seen) (values_at r ++ vs) (omega (arith, enough, followed_less r seen vs e)) (within_new r seen vs w) p q k h)
      h
  closed_followed (suc n) seen (Int z ∷ vs) enough w p q k h = closed_followed n seen vs (omega (arith, enough)) (within_other (Int z) seen vs (λ q. no_ref q (Int z) refl) w) p q k h
  closed_followed (suc n) seen (Id i ∷ vs) enough w p q k h = closed_followed n seen vs (omega (arith, enough)) (within_other (Id i) seen vs (λ q. no_ref q (Id i) refl) w) p q k h
  closed_followed (suc n) seen (Str bytes ∷ vs) enough w p q k h = closed_followed n seen vs (omega (arith, enough)) (within_other (Str bytes) seen vs (λ q. no_ref q (Str bytes) refl) w) p q k h
  closed_followed (suc n) seen (Fun f place ∷ vs) enough w p q k h = closed_followed n seen vs (omega (arith, enough)) (within_other (Fun f place) seen vs (λ q. no_ref q (Fun f place) refl) w) p q k h

  -- ---- the objects of a value

  pub object_first : (q : ℕ) → is_among q (objects_of store (Ref q ∷ [])) ≡ true
  object_first q = followed (suc (1 + size_of store)) [] (Ref q ∷ []) (omega (arith, room_first 0 store)) q (first [])

  pub object_next : (v : Value) (p q : ℕ) → is_among p (objects_of store (v ∷ [])) ≡ true → IsMemberOf (Ref q) (values_in (slice_get store p)) → is_among q (objects_of store (v ∷ [])) ≡ true
  object_next v p q h k = closed_followed (suc (1 + size_of store)) [] (v ∷ []) (omega (arith, room_first 0 store)) (λ r q h k. absurd (nothing h)) p q k h
    where
      nothing : false ≡ true → ⊥
      nothing e = absurd (cc)
