-- What a change of the cells leaves of the table.
use Rattle.std.proofs.Common.{◌≡◌, ℕ, zero, suc, add-one, ◌≤◌, ◌⊎◌, true, List, ◌∷◌, length, get_or, Option, Some, None, refl, sym, ap, ◌∙◌, arith, inl, inr}
use Rattle.std.specs.Prelude.{IsSome}
use Rattle.rl_tags.specs.Tagged.{Tagged, IdAt, tagged_of, index_of}
use Rattle.rl_cells.specs.Cell.{Cell, cell_at, is_id_cell, is_str, words_in, bytes_of}
use Rattle.rl_syms.specs.Table.{IsChained, IsName, IsNamed, IsFree, IsLink, Among, chain, ids_from, held_in, name_in_cells, next_at, rank_of}
use Rattle.rl_syms.proofs.Chained.{Falls, within, held_some, ids_from_id, link_self}

-- the identifiers of old are identifiers in new, with the same names and the same places on the chain
pub record Carries (old new : List Cell) : Type 0 where
  pub id : (k : ℕ) → is_id_cell (cell_at old k) ≡ true → is_id_cell (cell_at new k) ≡ true
  pub name : (k : ℕ) → is_id_cell (cell_at old k) ≡ true → get_or (words_in (cell_at new k)) 0 0 ≡ get_or (words_in (cell_at old k)) 0 0
  pub next : (k : ℕ) → is_id_cell (cell_at old k) ≡ true → next_at new k ≡ next_at old k
  pub string : (v : Tagged) → is_str old v ≡ true → is_str new v ≡ true
  pub text : (v : Tagged) → is_str old v ≡ true → bytes_of new v ≡ bytes_of old v

pub link_carried : (old new : List Cell) (n : ℕ) (v : Option Tagged) → Carries old new → IsLink old n v → IsLink new n v
link_carried old new n None c p = tt
link_carried old new n (Some (IdAt k)) c p = (p.0, c.id k p.1)
link_carried old new n (Some v) c p = absurd p

chain_carried : (n m : ℕ) (old new : List Cell) (v : Option Tagged) → Carries old new → Falls old → IsLink old m v → chain n new v ≡ chain n old v
chain_carried zero m old new v c f p = refl
chain_carried (suc n) m old new None c f p = refl
chain_carried (suc n) m old new (Some (IdAt k)) c f p =
    ap (λ ks. k ∷ ks) (ap (chain n new) (c.next k p.1) ∙ chain_carried n k old new (next_at old k) c f (f k p.1))
chain_carried (suc n) m old new (Some v) c f p = absurd p

pub ids_carried : (old new : List Cell) (n : ℕ) (v : Option Tagged) → Carries old new → Falls old → IsLink old n v → ids_from new v ≡ ids_from old v
ids_carried old new n v c f p = chain_carried (rank_of v) n old new v c f p

-- what is on the chain is an identifier
pub among_chain : (n m k : ℕ) (cells : List Cell) (v : Option Tagged) → Falls cells → IsLink cells m v → Among k (chain n cells v) → is_id_cell (cell_at cells k) ≡ true
among_chain zero m k cells v f p h = absurd h
among_chain (suc n) m k cells None f p h = absurd h
among_chain (suc n) m k cells (Some (IdAt j)) f p h = elim h [
  | inl e ↦ rw e p.1
  | inr i ↦ among_chain n j k cells (next_at cells j) f (f j p.1) i
]
among_chain (suc n) m k cells (Some v) f p h = absurd p

pub among_id : (cells : List Cell) (head : Option Tagged) (k : ℕ) → IsChained cells head → Among k (ids_from cells head) → is_id_cell (cell_at cells k) ≡ true
among_id cells head k t h = among_chain (rank_of head) (rank_of head) k cells head t.linked t.first h

-- an identifier's name is a string, and keeps its bytes
pub name_carried : (old new : List Cell) (head : Option Tagged) (k : ℕ) → Carries old new → IsChained old head → is_id_cell (cell_at old k) ≡ true → name_in_cells new k ≡ name_in_cells old k
name_carried old new head k c t is =
    let n = t.named k is in
    let w = get_or (words_in (cell_at old k)) 0 0 in
    let held : tagged_of w ≡ n.text = held_some w n.text n.is in
    let string : is_str old (tagged_of w) ≡ true = rw held n.string in
    ap (λ u. bytes_of new (tagged_of u)) (c.name k is) ∙ c.text (tagged_of w) string

pub named_carried : (old new : List Cell) (head : Option Tagged) (k : ℕ) → Carries old new → IsChained old head → is_id_cell (cell_at old k) ≡ true
    → IsName new (held_in (get_or (words_in (cell_at new k)) 0 0)) (name_in_cells new k)
named_carried old new head k c t is =
    let n = t.named k is in
    let same = name_carried old new head k c t is in
    record {
      text = n.text;
      is = ap held_in (c.name k is) ∙ n.is;
      string = c.string n.text n.string;
      some = rw same n.some;
      short = rw same n.short;
    }

-- a name means what it meant
pub named_stays : (old new : List Cell) (head : Option Tagged) (name : List ℕ) (id : Tagged) → Carries old new → IsChained old head → IsNamed old head name id → IsNamed new head name id
named_stays old new head name id c t h =
    let ids = ids_carried old new (rank_of head) head c t.linked t.first in
    record {
      interned = (h.interned.0, rw ids h.interned.1);
      name_is = name_carried old new head (index_of id) c t (among_id old head (index_of id) t h.interned.1) ∙ h.name_is;
    }

-- a table that gains no identifier
pub chained_same : (old new : List Cell) (head : Option Tagged) → Carries old new
    → ((k : ℕ) → is_id_cell (cell_at new k) ≡ true → is_id_cell (cell_at old k) ≡ true)
    → ((k : ℕ) → is_id_cell (cell_at old k) ≡ true → length (words_in (cell_at new k)) ≡ length (words_in (cell_at old k)))
    → ((k : ℕ) → is_id_cell (cell_at old k) ≡ true → IsSome (held_in (get_or (words_in (cell_at new k)) 2 0)))
    → IsChained old head → IsChained new head
chained_same old new head c was six listed t =
    let ids = ids_carried old new (rank_of head) head c t.linked t.first in
    record {
      six = λ k h. six k (was k h) ∙ t.six k (was k h);
      named = λ k h. named_carried old new head k c t (was k h);
      listed = λ k h. listed k (was k h);
      linked = λ k h. rw (c.next k (was k h)) (link_carried old new k (next_at old k) c (t.linked k (was k h)));
      first = link_carried old new (rank_of head) head c t.first;
      distinct = λ j k a b e.
          let a' : Among j (ids_from old head) = rw ids at a in
          let b' : Among k (ids_from old head) = rw ids at b in
          t.distinct j k a' b' (sym (name_carried old new head j c t (among_id old head j t a')) ∙ e ∙ name_carried old new head k c t (among_id old head k t b'));
    }

-- what an identifier at a new place, chained to the head, has
pub record IsNew (old new : List Cell) (head : Option Tagged) (name : List ℕ) (n : ℕ) : Type 0 where
  pub id : is_id_cell (cell_at new n) ≡ true
  pub six : length (words_in (cell_at new n)) ≡ 6
  pub named : IsName new (held_in (get_or (words_in (cell_at new n)) 0 0)) (name_in_cells new n)
  pub name_is : name_in_cells new n ≡ name
  pub listed : IsSome (held_in (get_or (words_in (cell_at new n)) 2 0))
  pub next : next_at new n ≡ head
  pub above : length old ≤ n
  pub alone : (k : ℕ) → is_id_cell (cell_at new k) ≡ true → (k ≡ n) ⊎ (is_id_cell (cell_at old k) ≡ true)
  pub same : (k : ℕ) → is_id_cell (cell_at old k) ≡ true → words_in (cell_at new k) ≡ words_in (cell_at old k)

pub below_new : (cells : List Cell) (n m : ℕ) (v : Option Tagged) → length cells ≤ n → IsLink cells m v → IsLink cells n v
below_new cells n m None l p = tt
below_new cells n m (Some (IdAt k)) l p = let i = within cells k p.1 in (omega arith, p.1)
below_new cells n m (Some v) l p = absurd p

-- a table that gains one identifier, which is not on the chain
pub chained_loose : (old new : List Cell) (head top : Option Tagged) (name : List ℕ) (n : ℕ) → Carries old new → IsNew old new top name n → IsLink old (rank_of top) top → IsChained old head → IsChained new head
chained_loose old new head top name n c i link t =
    let ids = ids_carried old new (rank_of head) head c t.linked t.first in
    record {
      six = λ k h. elim (i.alone k h) [ inl e ↦ rw e i.six | inr o ↦ ap length (i.same k o) ∙ t.six k o ];
      named = λ k h. elim (i.alone k h) [ inl e ↦ rw e i.named | inr o ↦ named_carried old new head k c t o ];
      listed = λ k h. elim (i.alone k h) [ inl e ↦ rw e i.listed | inr o ↦ rw (i.same k o) (t.listed k o) ];
      linked = λ k h. elim (i.alone k h) [
        | inl e ↦ rw (e, i.next) (link_carried old new n top c (below_new old n (rank_of top) top i.above link))
        | inr o ↦ rw (c.next k o) (link_carried old new k (next_at old k) c (t.linked k o))
      ];
      first = link_carried old new (rank_of head) head c t.first;
      distinct = λ j k a b e.
          let a' : Among j (ids_from old head) = rw ids at a in
          let b' : Among k (ids_from old head) = rw ids at b in
          t.distinct j k a' b' (sym (name_carried old new head j c t (among_id old head j t a')) ∙ e ∙ name_carried old new head k c t (among_id old head k t b'));
    }

-- the chain with the new identifier before the others
pub ids_new : (old new : List Cell) (head : Option Tagged) (name : List ℕ) (n : ℕ) → Carries old new → IsNew old new head name n → IsChained old head → ids_from new (Some (IdAt n)) ≡ n ∷ ids_from old head
ids_new old new head name n c i t =
    let loose = chained_loose old new head head name n c i t.first t in
    ids_from_id new n loose.linked i.id ∙ ap (λ v. n ∷ ids_from new v) i.next ∙ ap (λ ks. n ∷ ks) (ids_carried old new (rank_of head) head c t.linked t.first)

pub among_along : (j : ℕ) (xs ys : List ℕ) → xs ≡ ys → Among j xs → Among j ys
among_along j xs ys e h = rw e at h

-- a table that gains one identifier, with a name that no other has, before the others
pub chained_new : (old new : List Cell) (head : Option Tagged) (name : List ℕ) (n : ℕ) → Carries old new → IsNew old new head name n → IsFree old head name → IsChained old head → IsChained new (Some (IdAt n))
chained_new old new head name n c i free t =
    let loose = chained_loose old new head head name n c i t.first t in
    let ids = ids_new old new head name n c i t in
    let split : (j : ℕ) → Among j (ids_from new (Some (IdAt n))) → Among j (n ∷ ids_from old head) = λ j a. among_along j (ids_from new (Some (IdAt n))) (n ∷ ids_from old head) ids a in
    let old_name : (k : ℕ) → Among k (ids_from old head) → name_in_cells new k ≡ name_in_cells old k = λ k a. name_carried old new head k c t (among_id old head k t a) in
    record {
      six = loose.six;
      named = loose.named;
      listed = loose.listed;
      linked = loose.linked;
      first = link_self new (suc n) (Some (IdAt n)) (let e = add-one n in omega arith, i.id);
      distinct = λ j k a b e. elim (split j a) [
        | inl x ↦ elim (split k b) [
          | inl y ↦ x ∙ sym y
          | inr y ↦ absurd (free.other k y (sym (old_name k y) ∙ sym e ∙ ap (name_in_cells new) x ∙ i.name_is))
        ]
        | inr x ↦ elim (split k b) [
          | inl y ↦ absurd (free.other j x (sym (old_name j x) ∙ e ∙ ap (name_in_cells new) y ∙ i.name_is))
          | inr y ↦ t.distinct j k x y (sym (old_name j x) ∙ e ∙ old_name k y)
        ]
      ];
    }
