-- The table is kept by whatever leaves identifiers as they were.
use Rattle.std.proofs.Common.{◌≡◌, ℕ, Bool, true, false, List, [], length, get_or, Option, Some, None, refl, sym, ap, ◌∙◌}
use Rattle.rl_tags.specs.Tagged.{Tagged, Number, IdAt, StrAt, PairAt, VectorAt, BigAt, FunAt, index_of}
use Rattle.rl_tags.specs.declared.Tag.TheVariants as tag
use Rattle.rl_cells.specs.Cell.{Cell, PairCell, StrCell, VectorCell, BigCell, BlockCell, More, cell_at, is_id_cell, is_str, words_in}
use Rattle.rl_syms.specs.Table.{IsTable, IsNamed, Among, ids_from, is_id, held_in, rank_of, symbol_in_cells, symbol_of, nil_value}
use Rattle.rl_syms.specs.Frame.{KeepsIdentifiers, words_of_id}
use Rattle.rl_syms.proofs.Numbers.{ids_numbered}
use Rattle.rl_syms.proofs.Carried.{Carries, among_id, chained_same, ids_carried, name_carried, named_stays}

id_from : Option (List ℕ) → Bool
id_from (Some words) = true
id_from None = false

words_from : Option (List ℕ) → List ℕ
words_from (Some words) = words
words_from None = []

id_is : (c : Cell) → is_id_cell c ≡ id_from (words_of_id c)
unfolding id_from
id_is (PairCell a d) = refl
id_is (StrCell bytes) = refl
id_is (VectorCell xs) = refl
id_is (BigCell z) = refl
id_is (BlockCell tag.Int words) = refl
id_is (BlockCell tag.Id words) = refl
id_is (BlockCell tag.Str words) = refl
id_is (BlockCell tag.Pair words) = refl
id_is (BlockCell tag.Vector words) = refl
id_is (BlockCell tag.Big words) = refl
id_is (BlockCell tag.Fun words) = refl
id_is More = refl

words_is : (c : Cell) → is_id_cell c ≡ true → words_in c ≡ words_from (words_of_id c)
unfolding words_from
words_is (BlockCell tag.Id words) h = refl
words_is (PairCell a d) h = absurd (cc)
words_is (StrCell bytes) h = absurd (cc)
words_is (VectorCell xs) h = absurd (cc)
words_is (BigCell z) h = absurd (cc)
words_is (BlockCell tag.Int words) h = absurd (cc)
words_is (BlockCell tag.Str words) h = absurd (cc)
words_is (BlockCell tag.Pair words) h = absurd (cc)
words_is (BlockCell tag.Vector words) h = absurd (cc)
words_is (BlockCell tag.Big words) h = absurd (cc)
words_is (BlockCell tag.Fun words) h = absurd (cc)
words_is More h = absurd (cc)

pub id_same : (old new : List Cell) (k : ℕ) → KeepsIdentifiers old new → is_id_cell (cell_at new k) ≡ is_id_cell (cell_at old k)
id_same old new k b = id_is (cell_at new k) ∙ ap id_from (b.words k) ∙ sym (id_is (cell_at old k))

words_same : (old new : List Cell) (k : ℕ) → KeepsIdentifiers old new → is_id_cell (cell_at old k) ≡ true → words_in (cell_at new k) ≡ words_in (cell_at old k)
words_same old new k b h = words_is (cell_at new k) (id_same old new k b ∙ h) ∙ ap words_from (b.words k) ∙ sym (words_is (cell_at old k) h)

pub symbol_same : (old new : List Cell) (k : ℕ) → KeepsIdentifiers old new → is_id_cell (cell_at old k) ≡ true → symbol_in_cells new k ≡ symbol_in_cells old k
symbol_same old new k b h = ap symbol_of (words_same old new k b h)

pub is_id_same : (old new : List Cell) (v : Tagged) → KeepsIdentifiers old new → is_id new v ≡ is_id old v
is_id_same old new (IdAt k) b = id_same old new k b
is_id_same old new (Number k) b = refl
is_id_same old new (StrAt k) b = refl
is_id_same old new (PairAt k) b = refl
is_id_same old new (VectorAt k) b = refl
is_id_same old new (BigAt k) b = refl
is_id_same old new (FunAt k) b = refl

string_same : (old new : List Cell) (v : Tagged) → KeepsIdentifiers old new → is_str old v ≡ true → is_str new v ≡ true
string_same old new (StrAt k) b h = b.live (StrAt k) h
string_same old new (Number k) b h = h
string_same old new (IdAt k) b h = h
string_same old new (PairAt k) b h = h
string_same old new (VectorAt k) b h = h
string_same old new (BigAt k) b h = h
string_same old new (FunAt k) b h = h

keeps_carries : (old new : List Cell) → KeepsIdentifiers old new → Carries old new
keeps_carries old new b = record {
  id = λ k h. id_same old new k b ∙ h;
  name = λ k h. ap (λ ws. get_or ws 0 0) (words_same old new k b h);
  next = λ k h. ap (λ ws. held_in (get_or ws 5 0)) (words_same old new k b h);
  string = λ v h. string_same old new v b h;
  text = λ v h. b.texts v h;
}

pub table_same : (old new : List Cell) (head : Option Tagged) → KeepsIdentifiers old new → IsTable old head → IsTable new head
table_same old new head b t = record {
  chained = chained_same old new head (keeps_carries old new b) (λ k h. sym (id_same old new k b) ∙ h) (λ k h. ap length (words_same old new k b h)) (λ k h. rw (words_same old new k b h) (t.chained.listed k h)) t.chained;
  nil = b.live nil_value t.nil;
  first = ids_numbered.same old new (index_of nil_value) (λ j _. id_same old new j b) ∙ t.first;
  defined = λ k h. let was : is_id_cell (cell_at old k) ≡ true = sym (id_same old new k b) ∙ h in rw (words_same old new k b was) (t.defined k was);
}

pub chain_same : (old new : List Cell) (head : Option Tagged) → KeepsIdentifiers old new → IsTable old head → ids_from new head ≡ ids_from old head
chain_same old new head b t = ids_carried old new (rank_of head) head (keeps_carries old new b) t.chained.linked t.chained.first

pub names_same : (old new : List Cell) (head : Option Tagged) (bytes : List ℕ) (id : Tagged) → KeepsIdentifiers old new → IsTable old head → IsNamed old head bytes id → IsNamed new head bytes id
names_same old new head bytes id b t n = named_stays old new head bytes id (keeps_carries old new b) t.chained n

-- what has a name had it before
pub named_before : (old new : List Cell) (head : Option Tagged) (bytes : List ℕ) (id : Tagged) → KeepsIdentifiers old new → IsTable old head → IsNamed new head bytes id → IsNamed old head bytes id
named_before old new head bytes id b t n =
    let c = keeps_carries old new b in
    let ids = chain_same old new head b t in
    let was : Among (index_of id) (ids_from old head) = rw ids at n.interned.1 in
    record {
      interned = (n.interned.0, was);
      name_is = sym (name_carried old new head (index_of id) c t.chained (among_id old head (index_of id) t.chained was)) ∙ n.name_is;
    }

pub one_name : (cells : List Cell) (head : Option Tagged) (bytes : List ℕ) (one two : Tagged) → IsTable cells head → IsNamed cells head bytes one → IsNamed cells head bytes two → one ≡ two
one_name cells head bytes one two t m n =
    m.interned.0 ∙ ap IdAt (t.chained.distinct (index_of one) (index_of two) m.interned.1 n.interned.1 (m.name_is ∙ sym n.name_is)) ∙ sym n.interned.0
