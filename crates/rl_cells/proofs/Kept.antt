-- What an append and a change of one object keep.
use Rattle.std.specs.Prelude.{nat_le}
use Rattle.std.proofs.Common.{◌≡◌, ◌≢◌, ℕ, ◌+◌, ◌-◌, ◌*◌, ◌/◌, ◌%◌, ◌^◌, ◌<◌, ◌≤◌, Bool, true, false, List, [], ◌∷◌, ◌++◌, length, get_or, set, replicate, refl, sym, ap, ◌∙◌, ◌⊎◌, inl, inr, arith, length-append, add-one, cond}
use Rattle.std.proofs.lemmas.List.{get_or_append_left, get_or_past, get_or-set_same, get_or-set_other, length-set, length-replicate, get_or-replicate}
use Rattle.std.proofs.lemmas.Bool.{cases_lt, cases_eq, and_from, and_parts}
use Rattle.std.specs.List.{list_all}
use Rattle.rl_tags.specs.Tagged.{Tagged, Number, IdAt, StrAt, PairAt, VectorAt, BigAt, FunAt, tagged_of}
use Rattle.rl_cells.specs.Cell.{Cell, PairCell, StrCell, VectorCell, BigCell, BlockCell, More, cost_of, cell_at, placed, is_live, is_pair_cell, is_str_cell, is_vector_cell, is_big_cell, is_id_cell, is_fun_cell, is_closed_cell, is_live_word, is_pair, changed_at, IsClosed}
use Rattle.rl_cells.specs.Laws.{SameKind}
use Rattle.rl_cells.specs.Stored.{IsLaid, IsStored}

-- the words agree on the cells from k on
abbrev pub AgreesOn : List ℕ → List ℕ → ℕ → ℕ → Type 0
AgreesOn ws vs k n = (i : ℕ) → 2 * k ≤ i → i < 2 * (k + n) → get_or vs i 0 ≡ get_or ws i 0

pub IsLaid-agree : (ws vs : List ℕ) (k : ℕ) (c : Cell) → AgreesOn ws vs k (cost_of c) → IsLaid ws k c → IsLaid vs k c
IsLaid-agree ws vs k (PairCell a d) e h =
    (rw (e (2 * k) (omega arith) (omega arith)) h.0, rw (e (2 * k + 1) (omega arith) (omega arith)) h.1)
IsLaid-agree ws vs k (StrCell bytes) e h =
    (rw (e (2 * k) (omega arith) (omega arith)) h.0, λ i l. rw (e (2 * k + 2 + i / 8) (omega arith) (omega arith)) (h.1 i l))
IsLaid-agree ws vs k (VectorCell xs) e h =
    (rw (e (2 * k) (omega arith) (omega arith)) h.0, λ i l. rw (e (2 * k + 2 + i) (omega arith) (omega arith)) (h.1 i l))
IsLaid-agree ws vs k (BigCell z) e h = rw (e (2 * k) (omega arith) (omega arith), e (2 * k + 1) (omega arith) (omega arith)) h
IsLaid-agree ws vs k (BlockCell t words) e h = λ i l. rw (e (2 * k + i) (omega arith) (omega arith)) (h i l)
IsLaid-agree ws vs k More e h = tt

-- a cell of the longer list is one of the shorter, the new object, or a cell after it
pub cell_at-append : (cells more : List Cell) (k : ℕ) → k < length cells → cell_at (cells ++ more) k ≡ cell_at cells k
cell_at-append cells more k l = get_or_append_left cells more More k l

pub cell_at_new : (cells : List Cell) (c : Cell) → cell_at (cells ++ placed c) (length cells) ≡ c
cell_at_new [] c = refl
cell_at_new (x ∷ cells) c = cell_at_new cells c

get_or-replicate_default : (n i : ℕ) → get_or (replicate n More) i More ≡ More
get_or-replicate_default n i =
    elim (cases_lt i n) [ inl l ↦ get_or-replicate n i More More l | inr l ↦ get_or_past (replicate n More) i More (rw length-replicate l) ]

-- past its place a new object has no further one
pub cell_at_past_new : (cells : List Cell) (c : Cell) (k : ℕ) → length cells < k → cell_at (cells ++ placed c) k ≡ More
cell_at_past_new [] c k l = let e : k ≡ (k - 1) + 1 = omega arith in rw (e, add-one) (get_or-replicate_default (cost_of c - 1) (k - 1))
cell_at_past_new (x ∷ cells) c k l =
    let e : k ≡ (k - 1) + 1 = omega arith in
    rw (e, add-one) (cell_at_past_new cells c (k - 1) (omega arith))

pub length-placed : (cells : List Cell) (c : Cell) → 0 < cost_of c → length (cells ++ placed c) ≡ length cells + cost_of c
length-placed cells c l =
    length-append cells (placed c) ∙ (let e : length (replicate (cost_of c - 1) More) ≡ cost_of c - 1 = length-replicate (cost_of c - 1) More in omega arith)

-- a place in the longer list is an old one, the new object, or past it
pub data Where (cells : List Cell) (c : Cell) (k : ℕ) : Type 0 where
  before : k < length cells → cell_at (cells ++ placed c) k ≡ cell_at cells k → Where cells c k
  here : k ≡ length cells → cell_at (cells ++ placed c) k ≡ c → Where cells c k
  after : length cells < k → cell_at (cells ++ placed c) k ≡ More → Where cells c k

pub where_is : (cells : List Cell) (c : Cell) (k : ℕ) → Where cells c k
where_is cells c k =
    elim (cases_lt k (length cells)) [
      | inl l ↦ before l (cell_at-append cells (placed c) k l)
      | inr l ↦ elim (cases_lt (length cells) k) [
        | inl m ↦ after m (cell_at_past_new cells c k m)
        | inr m ↦ let e : k ≡ length cells = omega arith in here e (rw e (cell_at_new cells c))
      ]
    ]

-- a test that More fails holds of an old place
pub tested-append : (test : Cell → Bool) → test More ≡ false → (cells more : List Cell) (k : ℕ) → test (cell_at cells k) ≡ true → test (cell_at (cells ++ more) k) ≡ true
tested-append test fails cells more k h =
    elim (cases_lt k (length cells)) [
      | inl l ↦ rw (cell_at-append cells more k l) h
      | inr l ↦
          let past : cell_at cells k ≡ More = get_or_past cells k More l in
          let e : true ≡ false = sym h ∙ ap test past ∙ fails in cc
    ]

-- a place whose cell passes such a test is within the list
pub tested_within : (test : Cell → Bool) → test More ≡ false → (cells : List Cell) (k : ℕ) → test (cell_at cells k) ≡ true → k < length cells
tested_within test fails cells k h = elim (cases_lt k (length cells)) [
  | inl l ↦ l
  | inr l ↦ let e : true ≡ false = sym h ∙ ap test (get_or_past cells k More l) ∙ fails in absurd (cc)
]

-- a live value stays live as objects are made
pub is_live-append : (cells more : List Cell) (v : Tagged) → is_live cells v ≡ true → is_live (cells ++ more) v ≡ true
is_live-append cells more (Number n) h = refl
is_live-append cells more (IdAt k) h = tested-append is_id_cell refl cells more k h
is_live-append cells more (StrAt k) h = tested-append is_str_cell refl cells more k h
is_live-append cells more (PairAt k) h = tested-append is_pair_cell refl cells more k h
is_live-append cells more (VectorAt k) h = tested-append is_vector_cell refl cells more k h
is_live-append cells more (BigAt k) h = tested-append is_big_cell refl cells more k h
is_live-append cells more (FunAt k) h = tested-append is_fun_cell refl cells more (k % 2 ^ 32) h

list_all-implied : (p q : Tagged → Bool) → ((v : Tagged) → p v ≡ true → q v ≡ true) → (xs : List Tagged) → list_all p xs ≡ true → list_all q xs ≡ true
list_all-implied p q f [] h = refl
list_all-implied p q f (x ∷ xs) h =
    let parts = and_parts (p x) (list_all p xs) h in and_from (q x) (list_all q xs) (f x parts.0) (list_all-implied p q f xs parts.1)

pub word_implied : (old new : List Cell) → ((v : Tagged) → is_live old v ≡ true → is_live new v ≡ true) → (w : ℕ) → is_live_word old w ≡ true → is_live_word new w ≡ true
word_implied old new f w h = go (nat_le (w % 16) 6) h
  where
    go : (b : Bool) → cond b (is_live old (tagged_of w)) true ≡ true → cond b (is_live new (tagged_of w)) true ≡ true
    go true p = f (tagged_of w) p
    go false p = refl

words_implied : (old new : List Cell) → ((v : Tagged) → is_live old v ≡ true → is_live new v ≡ true) → (ws : List ℕ) → list_all (is_live_word old) ws ≡ true → list_all (is_live_word new) ws ≡ true
words_implied old new f [] h = refl
words_implied old new f (w ∷ ws) h =
    let parts = and_parts (is_live_word old w) (list_all (is_live_word old) ws) h in
    and_from (is_live_word new w) (list_all (is_live_word new) ws) (word_implied old new f w parts.0) (words_implied old new f ws parts.1)

is_closed_cell-implied : (old new : List Cell) → ((v : Tagged) → is_live old v ≡ true → is_live new v ≡ true) → (c : Cell) → is_closed_cell old c ≡ true → is_closed_cell new c ≡ true
is_closed_cell-implied old new f (PairCell a d) h =
    let parts = and_parts (is_live old a) (is_live old d) h in and_from (is_live new a) (is_live new d) (f a parts.0) (f d parts.1)
is_closed_cell-implied old new f (StrCell bytes) h = refl
is_closed_cell-implied old new f (VectorCell xs) h = list_all-implied (is_live old) (is_live new) f xs h
is_closed_cell-implied old new f (BigCell z) h = h
is_closed_cell-implied old new f (BlockCell t words) h = words_implied old new f words h
is_closed_cell-implied old new f More h = refl

pub IsClosed-append : (cells : List Cell) (c : Cell) → IsClosed cells → is_closed_cell cells c ≡ true → IsClosed (cells ++ placed c)
IsClosed-append cells c h new =
    let grows : (v : Tagged) → is_live cells v ≡ true → is_live (cells ++ placed c) v ≡ true = is_live-append cells (placed c) in
    record {
      at = λ k. elim (where_is cells c k) [
        | before l e ↦ rw e (is_closed_cell-implied cells (cells ++ placed c) grows (cell_at cells k) (h.at k))
        | here l e ↦ rw e (is_closed_cell-implied cells (cells ++ placed c) grows c new)
        | after l e ↦ rw e refl
      ];
    }

-- the words for a new object
pub IsStored-append : (ws vs : List ℕ) (cells : List Cell) (c : Cell) → IsStored ws cells → 0 < cost_of c → AgreesOn ws vs 0 (length cells) → IsLaid vs (length cells) c → IsStored vs (cells ++ placed c)
IsStored-append ws vs cells c s cost e new = record {
  laid = λ k. elim (where_is cells c k) [
    | before l is ↦ rw is (
        elim (cases_lt 0 (cost_of (cell_at cells k))) [
          | inl p ↦ let w = s.within k p in IsLaid-agree ws vs k (cell_at cells k) (λ i a b. e i (omega arith) (omega arith)) (s.laid k)
          | inr p ↦ IsLaid-agree ws vs k (cell_at cells k) (λ i a b. absurd (omega arith)) (s.laid k)
        ])
    | here l is ↦ rw is (rw l new)
    | after l is ↦ rw is tt
  ];
  apart = λ k j p q. elim (where_is cells c k) [
    | before l is ↦ let q' : j < cost_of (cell_at cells k) = rw is at q in let w = s.within k (omega arith) in
        rw (cell_at-append cells (placed c) (k + j) (omega arith)) (s.apart k j p q')
    | here l is ↦ cell_at_past_new cells c (k + j) (omega arith)
    | after l is ↦ cell_at_past_new cells c (k + j) (omega arith)
  ];
  within = λ k p. let n = length-placed cells c cost in elim (where_is cells c k) [
    | before l is ↦ let p' : 0 < cost_of (cell_at cells k) = rw is at p in let w = s.within k p' in rw is (omega arith)
    | here l is ↦ rw is (omega arith)
    | after l is ↦ let p' : 0 < cost_of More = rw is at p in absurd (omega arith)
  ];
}

pub pair_like : (c : Cell) (a d : Tagged) → is_pair_cell c ≡ true → SameKind (PairCell a d) c
pair_like (PairCell x y) a d h = record { cost = refl; pair = refl; str = refl; vector = refl; big = refl; id = refl; «fun» = refl }
pair_like (StrCell bytes) a d h = cc
pair_like (VectorCell xs) a d h = cc
pair_like (BigCell z) a d h = cc
pair_like (BlockCell t words) a d h = cc
pair_like More a d h = cc

-- where the changed list is read
pub data Beside (cells : List Cell) (k : ℕ) (c : Cell) (j : ℕ) : Type 0 where
  same : j ≡ k → cell_at (set cells k c) j ≡ c → Beside cells k c j
  other : j ≢ k → cell_at (set cells k c) j ≡ cell_at cells j → Beside cells k c j

pub beside : (cells : List Cell) (k : ℕ) (c : Cell) (j : ℕ) → k < length cells → Beside cells k c j
beside cells k c j l = elim (cases_eq j k) [
  | inl e ↦ same e (rw (e, get_or-set_same cells k c More l) refl)
  | inr n ↦ other n (get_or-set_other cells k j c More n)
]

tested-set : (test : Cell → Bool) (cells : List Cell) (k : ℕ) (c : Cell) (j : ℕ) → k < length cells → test c ≡ test (cell_at cells k) → test (cell_at (set cells k c) j) ≡ test (cell_at cells j)
tested-set test cells k c j l h = elim (beside cells k c j l) [
  | same e is ↦ ap test is ∙ h ∙ ap (λ i. test (cell_at cells i)) (sym e)
  | other n is ↦ ap test is
]

-- a change of an object to one of its kind keeps what is live
pub is_live-set : (cells : List Cell) (k : ℕ) (c : Cell) (v : Tagged) → k < length cells → SameKind c (cell_at cells k) → is_live (set cells k c) v ≡ is_live cells v
is_live-set cells k c (Number n) l s = refl
is_live-set cells k c (IdAt j) l s = tested-set is_id_cell cells k c j l s.id
is_live-set cells k c (StrAt j) l s = tested-set is_str_cell cells k c j l s.str
is_live-set cells k c (PairAt j) l s = tested-set is_pair_cell cells k c j l s.pair
is_live-set cells k c (VectorAt j) l s = tested-set is_vector_cell cells k c j l s.vector
is_live-set cells k c (BigAt j) l s = tested-set is_big_cell cells k c j l s.big
is_live-set cells k c (FunAt j) l s = tested-set is_fun_cell cells k c (j % 2 ^ 32) l s.«fun»

pub IsClosed-set : (cells : List Cell) (k : ℕ) (c : Cell) → k < length cells → SameKind c (cell_at cells k) → IsClosed cells → is_closed_cell cells c ≡ true → IsClosed (set cells k c)
IsClosed-set cells k c l s h new =
    let keeps : (v : Tagged) → is_live cells v ≡ true → is_live (set cells k c) v ≡ true = λ v live. is_live-set cells k c v l s ∙ live in
    record {
      at = λ j. elim (beside cells k c j l) [
        | same e is ↦ rw is (is_closed_cell-implied cells (set cells k c) keeps c new)
        | other n is ↦ rw is (is_closed_cell-implied cells (set cells k c) keeps (cell_at cells j) (h.at j))
      ];
    }

pub cost_kept : (cells : List Cell) (k : ℕ) (c : Cell) (j : ℕ) → k < length cells → cost_of c ≡ cost_of (cell_at cells k) → cost_of (cell_at (set cells k c) j) ≡ cost_of (cell_at cells j)
cost_kept cells k c j l h = elim (beside cells k c j l) [
  | same e is ↦ ap cost_of is ∙ h ∙ ap (λ i. cost_of (cell_at cells i)) (sym e)
  | other n is ↦ ap cost_of is
]

-- two objects take different cells
pub lie_apart : (ws : List ℕ) (cells : List Cell) (j k : ℕ) → IsStored ws cells → j < k → 0 < cost_of (cell_at cells k) → j + cost_of (cell_at cells j) ≤ k
lie_apart ws cells j k s l p = elim (cases_lt k (j + cost_of (cell_at cells j))) [
  | inl m ↦
      let e : j + (k - j) ≡ k = omega arith in
      let is : cell_at cells (j + (k - j)) ≡ More = s.apart j (k - j) (omega arith) (omega arith) in
      let p' : 0 < cost_of More = let q : 0 < cost_of (cell_at cells (j + (k - j))) = rw e p in rw is at q in
      absurd (omega arith)
  | inr m ↦ m
]

-- the words after a change within one object
pub IsStored-set : (ws vs : List ℕ) (cells : List Cell) (k : ℕ) (c : Cell) → IsStored ws cells → k < length cells → SameKind c (cell_at cells k) → 0 < cost_of c
    → ((i : ℕ) → (i < 2 * k) ⊎ (2 * (k + cost_of c) ≤ i) → get_or vs i 0 ≡ get_or ws i 0) → IsLaid vs k c → IsStored vs (set cells k c)
IsStored-set ws vs cells k c s l kind p e new =
    let p' : 0 < cost_of (cell_at cells k) = omega (arith, kind.cost) in
    record {
      laid = λ j. elim (beside cells k c j l) [
        | same is_k is ↦ rw is (rw is_k new)
        | other n is ↦ rw is (elim (cases_lt 0 (cost_of (cell_at cells j))) [
          | inl q ↦ IsLaid-agree ws vs j (cell_at cells j) (λ i a b. elim (cases_lt j k) [
            | inl m ↦ let w = lie_apart ws cells j k s m p' in e i (inl (omega arith))
            | inr m ↦ let w = lie_apart ws cells k j s (omega arith) q in e i (inr (omega (arith, kind.cost)))
          ]) (s.laid j)
          | inr q ↦ IsLaid-agree ws vs j (cell_at cells j) (λ i a b. absurd (omega arith)) (s.laid j)
        ])
      ];
      apart = λ j i a b.
          let cost_is : cost_of (cell_at (set cells k c) j) ≡ cost_of (cell_at cells j) = cost_kept cells k c j l kind.cost in
          let is : cell_at cells (j + i) ≡ More = s.apart j i a (omega arith) in
          let n : (j + i) ≢ k = λ at_k. let z : cost_of (cell_at cells k) ≡ 0 = rw (← at_k) (ap cost_of is) in omega arith in
          get_or-set_other cells k (j + i) c More n ∙ is;
      within = λ j a.
          let cost_is : cost_of (cell_at (set cells k c) j) ≡ cost_of (cell_at cells j) = cost_kept cells k c j l kind.cost in
          let w = s.within j (omega arith) in
          rw (cost_is, length-set) w;
    }

-- a change of a pair keeps what is live
pub pair_keeps_live : (cells : List Cell) (p a d : Tagged) → is_pair cells p ≡ true → (v : Tagged) → is_live (changed_at cells p (PairCell a d)) v ≡ is_live cells v
pair_keeps_live cells (PairAt k) a d h v = is_live-set cells k (PairCell a d) v (tested_within is_pair_cell refl cells k h) (pair_like (cell_at cells k) a d h)
pair_keeps_live cells (Number k) a d h v = cc
pair_keeps_live cells (IdAt k) a d h v = cc
pair_keeps_live cells (StrAt k) a d h v = cc
pair_keeps_live cells (VectorAt k) a d h v = cc
pair_keeps_live cells (BigAt k) a d h v = cc
pair_keeps_live cells (FunAt k) a d h v = cc
