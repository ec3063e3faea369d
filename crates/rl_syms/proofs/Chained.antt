-- The walk down the chain.
use Rattle.std.proofs.Common.{◌≡◌, ◌≢◌, ℕ, zero, suc, add-one, ◌%◌, ◌<◌, ◌≤◌, ◌⊎◌, Bool, true, false, cond, List, ◌∷◌, length, get_or, Option, Some, None, refl, sym, ap, ◌∙◌, arith, inl, inr}
use Rattle.std.proofs.lemmas.List.{get_or_past}
use Rattle.std.proofs.lemmas.Bool.{cases_lt}
use Rattle.std.proofs.lemmas.Bool.Decides.{nat_tests}
use Rattle.std.specs.Prelude.{nat_le, MatchOption}
use Rattle.rl_tags.specs.Tagged.{Tagged, Number, IdAt, StrAt, PairAt, VectorAt, BigAt, FunAt, IsWordOf, tagged_of, index_of}
use Rattle.rl_cells.specs.Cell.{Cell, More, cell_at, is_id_cell, is_live, is_live_word, words_in, words_of, bytes_of}
use Rattle.rl_syms.specs.Table.{IsChained, IsTable, IsNamed, IsFree, IsLink, Among, chain, ids_from, held_in, name_in_cells, next_at, rank_of, is_id}

-- what is known at an identifier
pub record AtId (cells : List Cell) (v : Tagged) (k : ℕ) : Type 0 where
  pub is : v ≡ IdAt k
  pub cell : is_id_cell (cell_at cells k) ≡ true

pub within : (cells : List Cell) (k : ℕ) → is_id_cell (cell_at cells k) ≡ true → k < length cells
within cells k h = elim (cases_lt k (length cells)) [
  | inl l ↦ l
  | inr l ↦ let e : false ≡ true = ap is_id_cell (sym (get_or_past cells k More l)) ∙ h in cc
]

-- each identifier is chained to an older one
abbrev pub Falls : List Cell → Type 0
Falls cells = (k : ℕ) → is_id_cell (cell_at cells k) ≡ true → IsLink cells k (next_at cells k)

pub link_more : (cells : List Cell) (m n : ℕ) (v : Option Tagged) → m ≤ n → IsLink cells m v → IsLink cells n v
link_more cells m n None l p = tt
link_more cells m n (Some (IdAt k)) l p = (omega (arith, p.0), p.1)
link_more cells m n (Some v) l p = absurd p

-- fuel beyond the place of the first identifier changes nothing
pub chain_enough : (m n : ℕ) (cells : List Cell) (v : Option Tagged) → Falls cells → IsLink cells m v → IsLink cells n v → chain m cells v ≡ chain n cells v
chain_enough zero zero cells v f p q = refl
chain_enough zero (suc n) cells None f p q = refl
chain_enough zero (suc n) cells (Some (IdAt k)) f p q = absurd (omega (arith, p.0))
chain_enough zero (suc n) cells (Some v) f p q = absurd p
chain_enough (suc m) zero cells None f p q = refl
chain_enough (suc m) zero cells (Some (IdAt k)) f p q = absurd (omega (arith, q.0))
chain_enough (suc m) zero cells (Some v) f p q = absurd p
chain_enough (suc m) (suc n) cells None f p q = refl
chain_enough (suc m) (suc n) cells (Some (IdAt k)) f p q =
    let next = f k p.1 in
    ap (λ ks. k ∷ ks) (chain_enough m n cells (next_at cells k) f (link_more cells k m (next_at cells k) (omega (arith, p.0)) next) (link_more cells k n (next_at cells k) (omega (arith, q.0)) next))
chain_enough (suc m) (suc n) cells (Some v) f p q = absurd p

-- a link holds at the rank of what it names
pub link_self : (cells : List Cell) (n : ℕ) (v : Option Tagged) → IsLink cells n v → IsLink cells (rank_of v) v
link_self cells n None p = tt
link_self cells n (Some (IdAt k)) p = (let e = add-one k in omega arith, p.1)
link_self cells n (Some v) p = absurd p

-- an identifier, and those after it
pub ids_from_id : (cells : List Cell) (k : ℕ) → Falls cells → is_id_cell (cell_at cells k) ≡ true → ids_from cells (Some (IdAt k)) ≡ k ∷ ids_from cells (next_at cells k)
ids_from_id cells k f is =
    let next = f k is in
    ap (λ ks. k ∷ ks) (chain_enough k (rank_of (next_at cells k)) cells (next_at cells k) f next (link_self cells k (next_at cells k) next))

pub at_id : (cells : List Cell) (n : ℕ) (v : Tagged) → IsLink cells n (Some v) → AtId cells v (index_of v)
at_id cells n (IdAt k) p = record { is = refl; cell = p.1 }
at_id cells n v p = absurd p

-- looking for an identifier: what is passed is another one
pub record Looking (cells : List Cell) (Other : ℕ → Type 0) (head at_ : Option Tagged) : Type 0 where
  pub place : IsLink cells (rank_of at_) at_
  pub rest : (k : ℕ) → Among k (ids_from cells at_) → Among k (ids_from cells head)
  pub passed : (k : ℕ) → Among k (ids_from cells head) → Among k (ids_from cells at_) ⊎ Other k

-- it has another name
abbrev pub Unnamed : List Cell → List ℕ → ℕ → Type 0
Unnamed cells name k = name_in_cells cells k ≢ name

-- it stands at another place
abbrev pub Elsewhere : Tagged → ℕ → Type 0
Elsewhere id k = k ≢ index_of id

pub looking_start : (cells : List Cell) (Other : ℕ → Type 0) (head : Option Tagged) → IsTable cells head → Looking cells Other head head
looking_start cells Other head t = record { place = t.chained.first; rest = λ k h. h; passed = λ k h. inl h }

ids_at : (cells : List Cell) (head : Option Tagged) (v : Tagged) (k : ℕ) → IsTable cells head → AtId cells v k → ids_from cells (Some v) ≡ k ∷ ids_from cells (next_at cells k)
ids_at cells head v k t a = ap (λ u. ids_from cells (Some u)) a.is ∙ ids_from_id cells k t.chained.linked a.cell

pub looking_next : (cells : List Cell) (Other : ℕ → Type 0) (head : Option Tagged) (v : Tagged) (k : ℕ) → IsTable cells head → Looking cells Other head (Some v) → AtId cells v k → Other k → Looking cells Other head (next_at cells k)
looking_next cells Other head v k t l a other =
    let ids = ids_at cells head v k t a in
    record {
      place = link_self cells k (next_at cells k) (t.chained.linked k a.cell);
      rest = λ j h. l.rest j (rw ids (inr h));
      passed = λ j h. elim (l.passed j h) [
        | inl m ↦ elim (rw ids at m) [
          | inl e ↦ inr (rw e other)
          | inr n ↦ inl n
        ]
        | inr n ↦ inr n
      ];
    }

pub looking_first : (cells : List Cell) (Other : ℕ → Type 0) (head : Option Tagged) (v : Tagged) (k : ℕ) → IsTable cells head → Looking cells Other head (Some v) → AtId cells v k → Among k (ids_from cells head)
looking_first cells Other head v k t l a =
    let first : Among k (ids_from cells (Some v)) = rw (ids_at cells head v k t a) (inl refl) in
    l.rest k first

pub looking_here : (cells : List Cell) (name : List ℕ) (head : Option Tagged) (v : Tagged) (k : ℕ) → IsTable cells head → Looking cells (Unnamed cells name) head (Some v) → AtId cells v k → name_in_cells cells k ≡ name → IsNamed cells head name v
looking_here cells name head v k t l a same = rw a.is record { interned = (refl, looking_first cells (Unnamed cells name) head v k t l a); name_is = same }

pub looking_end : (cells : List Cell) (Other : ℕ → Type 0) (head : Option Tagged) → Looking cells Other head None → (k : ℕ) → Among k (ids_from cells head) → Other k
looking_end cells Other head l k h = elim (l.passed k h) [
  | inl m ↦ absurd m
  | inr n ↦ n
]

pub free_end : (cells : List Cell) (name : List ℕ) (head : Option Tagged) → Looking cells (Unnamed cells name) head None → IsFree cells head name
free_end cells name head l = record { other = looking_end cells (Unnamed cells name) head l }

-- what was read from a word
pub read_is : (w : ℕ) (r : Option Tagged) → MatchOption r (6 < w % 16) (λ y. IsWordOf w y) → r ≡ held_in w
read_is w None h = let test : nat_le (w % 16) 6 ≡ false = above (w % 16) 6 h in rw test refl
  where
    above : (m n : ℕ) → n < m → nat_le m n ≡ false
    above m n l = grind (arith, nat_tests)
read_is w (Some y) h = let test : nat_le (w % 16) 6 ≡ true = below (w % 16) 6 h.is_tagged in rw test (ap Some (sym h.is))
  where
    below : (m n : ℕ) → m ≤ n → nat_le m n ≡ true
    below m n l = grind (arith, nat_tests)

pub word_is : (cells : List Cell) (v : Tagged) (k i w : ℕ) → AtId cells v k → w ≡ get_or (words_of cells v) i 0 → w ≡ get_or (words_in (cell_at cells k)) i 0
word_is cells v k i w a e = e ∙ ap (λ u. get_or (words_of cells u) i 0) a.is

pub six_words : (cells : List Cell) (head : Option Tagged) (v : Tagged) (k : ℕ) → IsChained cells head → AtId cells v k → length (words_of cells v) ≡ 6
six_words cells head v k t a = ap (λ u. length (words_of cells u)) a.is ∙ t.six k a.cell

-- a value that a word holds
pub held_some : (w : ℕ) (x : Tagged) → held_in w ≡ Some x → tagged_of w ≡ x
held_some w x h = go (nat_le (w % 16) 6) (tagged_of w) h
  where
    go : (b : Bool) (t : Tagged) → cond b (Some t) None ≡ Some x → t ≡ x
    go true t e = cc
    go false t e = cc

pub looking_some : (cells : List Cell) (Other : ℕ → Type 0) (head at_ : Option Tagged) (v : Tagged) → at_ ≡ Some v → Looking cells Other head at_ → Looking cells Other head (Some v)
looking_some cells Other head at_ v e l = rw e at l

pub looking_id : (cells : List Cell) (Other : ℕ → Type 0) (head : Option Tagged) (v : Tagged) → Looking cells Other head (Some v) → AtId cells v (index_of v)
looking_id cells Other head v l = at_id cells (rank_of (Some v)) v l.place

-- the name that was read
pub name_here : (cells : List Cell) (v : Tagged) (k w : ℕ) (r : Option Tagged) (x : Tagged) → AtId cells v k → w ≡ get_or (words_of cells v) 0 0 → MatchOption r (6 < w % 16) (λ y. IsWordOf w y) → r ≡ Some x → name_in_cells cells k ≡ bytes_of cells x
name_here cells v k w r x a e h is = ap (λ u. bytes_of cells (tagged_of u)) (sym (word_is cells v k 0 w a e)) ∙ ap (bytes_of cells) (held_some w x (sym (read_is w r h) ∙ is))

-- the next identifier that was read
pub next_here : (cells : List Cell) (v : Tagged) (k w : ℕ) (r : Option Tagged) → AtId cells v k → w ≡ get_or (words_of cells v) 5 0 → MatchOption r (6 < w % 16) (λ y. IsWordOf w y) → next_at cells k ≡ r
next_here cells v k w r a e h = ap held_in (sym (word_is cells v k 5 w a e)) ∙ sym (read_is w r h)

link_rank : (cells : List Cell) (k : ℕ) (v : Option Tagged) → IsLink cells k v → rank_of v < suc k
link_rank cells k None p = let e = add-one k in omega arith
link_rank cells k (Some (IdAt j)) p = let e = add-one j in let f = add-one k in omega (arith, p.0)
link_rank cells k (Some v) p = absurd p

pub falls_to : (cells : List Cell) (head : Option Tagged) (v : Tagged) (k : ℕ) (x : Option Tagged) → IsTable cells head → AtId cells v k → next_at cells k ≡ x → rank_of x < rank_of (Some v)
falls_to cells head v k x t a e = rw (← e, a.is) (link_rank cells k (next_at cells k) (t.chained.linked k a.cell))

pub read_live : (cells : List Cell) (w : ℕ) (r : Option Tagged) (x : Tagged) → MatchOption r (6 < w % 16) (λ y. IsWordOf w y) → is_live_word cells w ≡ true → r ≡ Some x → is_live cells x ≡ true
read_live cells w r x h live e =
    let held : held_in w ≡ Some x = sym (read_is w r h) ∙ e in
    go (nat_le (w % 16) 6) (tagged_of w) held live
  where
    go : (b : Bool) (t : Tagged) → cond b (Some t) None ≡ Some x → cond b (is_live cells t) true ≡ true → is_live cells x ≡ true
    go true t p q = let same : t ≡ x = cc in rw (← same) q
    go false t p q = cc

-- identifiers that stay are so as values
pub ids_of : (old new : List Cell) → ((k : ℕ) → is_id_cell (cell_at old k) ≡ true → is_id_cell (cell_at new k) ≡ true) → (v : Tagged) → is_id old v ≡ true → is_id new v ≡ true
ids_of old new f (IdAt k) h = f k h
ids_of old new f (Number k) h = h
ids_of old new f (StrAt k) h = h
ids_of old new f (PairAt k) h = h
ids_of old new f (VectorAt k) h = h
ids_of old new f (BigAt k) h = h
ids_of old new f (FunAt k) h = h
