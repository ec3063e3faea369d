-- The table after one word of an identifier is set, which is neither its name nor its link.
use Rattle.std.proofs.Common.{◌≡◌, ◌≢◌, ℕ, ◌+◌, ◌/◌, ◌<◌, ◌⊎◌, true, false, List, [], ◌∷◌, length, get_or, set, Option, Some, None, refl, sym, ap, ◌∙◌, arith, inl, inr}
use Rattle.std.proofs.lemmas.List.{get_or-set_same, get_or-set_other, length-set}
use Rattle.std.proofs.lemmas.Bool.{cases_eq}
use Rattle.std.specs.Prelude.{IsSome}
use Rattle.std.specs.Option.{ForSome}
use Rattle.rl_tags.specs.Tagged.{Tagged, Number, IdAt, StrAt, PairAt, VectorAt, BigAt, FunAt, index_of}
use Rattle.rl_tags.specs.declared.Tag.TheVariants as tag
use Rattle.rl_cells.specs.Cell.{Cell, PairCell, StrCell, VectorCell, BigCell, BlockCell, More, cell_at, changed_at, block_with, is_block, is_id_cell, is_str, is_str_cell, is_live, words_in, words_of, bytes_of, bytes_in}
use Rattle.rl_cells.specs.Laws.{IsChanged, SameKind}
use Rattle.rl_tree.specs.declared.held.Kind.{Kind}
use Rattle.rl_syms.specs.Table.{IsTable, IsNamed, is_id, is_pointer, held_in, word_in, nil_value, symbol_in_cells, symbol_of, kind_in_word, var_kind_in, of_kind}
use Rattle.rl_syms.proofs.Chained.{AtId, within}
use Rattle.rl_syms.proofs.Carried.{Carries, chained_same, named_stays}
use Rattle.rl_syms.proofs.Changed.{text_same}
use Rattle.rl_syms.proofs.Numbers.{ids_numbered}

id_block : (c : Cell) → is_id_cell c ≡ true → c ≡ BlockCell tag.Id (words_in c)
id_block (BlockCell tag.Id words) h = refl
id_block (BlockCell tag.Int words) h = cc
id_block (BlockCell tag.Str words) h = cc
id_block (BlockCell tag.Pair words) h = cc
id_block (BlockCell tag.Vector words) h = cc
id_block (BlockCell tag.Big words) h = cc
id_block (BlockCell tag.Fun words) h = cc
id_block (PairCell a d) h = cc
id_block (StrCell bytes) h = cc
id_block (VectorCell xs) h = cc
id_block (BigCell z) h = cc
id_block More h = cc

pub is_at_id : (cells : List Cell) (v : Tagged) → is_id cells v ≡ true → AtId cells v (index_of v)
is_at_id cells (IdAt k) h = record { is = refl; cell = h }
is_at_id cells (Number k) h = let e : false ≡ true = h in cc
is_at_id cells (StrAt k) h = let e : false ≡ true = h in cc
is_at_id cells (PairAt k) h = let e : false ≡ true = h in cc
is_at_id cells (VectorAt k) h = let e : false ≡ true = h in cc
is_at_id cells (BigAt k) h = let e : false ≡ true = h in cc
is_at_id cells (FunAt k) h = let e : false ≡ true = h in cc

pub id_is_block : (cells : List Cell) (v : Tagged) → is_id cells v ≡ true → is_block cells v ≡ true
id_is_block cells v h = let a = is_at_id cells v h in rw a.is a.cell

pub id_words : (cells : List Cell) (v : Tagged) → is_id cells v ≡ true → words_of cells v ≡ words_in (cell_at cells (index_of v))
id_words cells v h = let a = is_at_id cells v h in ap (words_of cells) a.is

pub id_long : (cells : List Cell) (head : Option Tagged) (v : Tagged) → IsTable cells head → is_id cells v ≡ true → length (words_of cells v) ≡ 6
id_long cells head v t h = ap length (id_words cells v h) ∙ t.chained.six (index_of v) (is_at_id cells v h).cell

like : (xs ys : List ℕ) → length ys ≡ length xs → SameKind (BlockCell tag.Id ys) (BlockCell tag.Id xs)
like xs ys e = record { cost = ap (λ n. (n + 1) / 2) e; pair = refl; str = refl; vector = refl; big = refl; id = refl; «fun» = refl }

-- what setting the word i leaves
pub record SetAt (old new : List Cell) (head : Option Tagged) (k i w : ℕ) : Type 0 where
  pub id : is_id_cell (cell_at new k) ≡ true
  pub words : words_in (cell_at new k) ≡ set (words_in (cell_at old k)) i w
  pub others : (j : ℕ) → j ≢ k → cell_at new j ≡ cell_at old j
  pub live : (v : Tagged) → is_live new v ≡ is_live old v
  pub texts : (v : Tagged) → bytes_of new v ≡ bytes_of old v
  pub long : length new ≡ length old

not_string : (cells : List Cell) (j k : ℕ) → is_str_cell (cell_at cells j) ≡ true → is_id_cell (cell_at cells k) ≡ true → j ≢ k
not_string cells j k s h e = go (cell_at cells k) (rw e at s) h
  where
    go : (c : Cell) → is_str_cell c ≡ true → is_id_cell c ≡ true → ⊥
    go (StrCell bytes) p q = let z : false ≡ true = q in cc
    go (BlockCell t words) p q = let z : false ≡ true = p in cc
    go (PairCell a d) p q = let z : false ≡ true = p in cc
    go (VectorCell xs) p q = let z : false ≡ true = p in cc
    go (BigCell z) p q = let y : false ≡ true = p in cc
    go More p q = let z : false ≡ true = p in cc

pub word_stays : (old new : List Cell) (head : Option Tagged) (k i w n j : ℕ) → SetAt old new head k i w → n ≢ i → word_in new j n ≡ word_in old j n
word_stays old new head k i w n j s ne = elim (cases_eq j k) [
  | inl e ↦ rw e (ap (λ ws. get_or ws n 0) s.words ∙ get_or-set_other (words_in (cell_at old k)) i n w 0 ne)
  | inr o ↦ ap (λ c. get_or (words_in c) n 0) (s.others j o)
]

-- a word is the one that is set, or as it was
word_set : (old new : List Cell) (head : Option Tagged) (k i w n j : ℕ) → IsTable old head → is_id_cell (cell_at old k) ≡ true → SetAt old new head k i w → i < 5 → ((i ≡ n) × (word_in new j n ≡ w)) ⊎ (word_in new j n ≡ word_in old j n)
word_set old new head k i w n j t h s within_ = elim (cases_eq j k) [
  | inl e ↦ elim (cases_eq i n) [
    | inl same ↦
        let is : word_in new k n ≡ w = ap (λ ws. get_or ws n 0) s.words ∙ ap (λ m. get_or (set (words_in (cell_at old k)) i w) m 0) (sym same) ∙ get_or-set_same (words_in (cell_at old k)) i w 0 (omega (arith, t.chained.six k h, within_)) in
        inl (same, rw e is)
    | inr ne ↦ inr (word_stays old new head k i w n j s (λ q. ne (sym q)))
  ]
  | inr o ↦ inr (ap (λ c. get_or (words_in c) n 0) (s.others j o))
]

string_stays : (old new : List Cell) (head : Option Tagged) (k i w : ℕ) (v : Tagged) → is_id_cell (cell_at old k) ≡ true → SetAt old new head k i w → is_str old v ≡ true → (is_str new v ≡ true) × (bytes_of new v ≡ bytes_of old v)
string_stays old new head k i w (StrAt j) h s p =
    let is = s.others j (not_string old j k p h) in (ap is_str_cell is ∙ p, ap bytes_in is)
string_stays old new head k i w (Number j) h s p = let e : false ≡ true = p in cc
string_stays old new head k i w (IdAt j) h s p = let e : false ≡ true = p in cc
string_stays old new head k i w (PairAt j) h s p = let e : false ≡ true = p in cc
string_stays old new head k i w (VectorAt j) h s p = let e : false ≡ true = p in cc
string_stays old new head k i w (BigAt j) h s p = let e : false ≡ true = p in cc
string_stays old new head k i w (FunAt j) h s p = let e : false ≡ true = p in cc

pub set_carries : (old new : List Cell) (head : Option Tagged) (k i w : ℕ) → is_id_cell (cell_at old k) ≡ true → SetAt old new head k i w → 0 < i → i < 5 → Carries old new
set_carries old new head k i w h s some within_ =
    let not_name : 0 ≢ i = omega arith in
    let not_next : 5 ≢ i = omega arith in
    record {
      id = λ j p. elim (cases_eq j k) [ inl e ↦ rw e s.id | inr o ↦ ap is_id_cell (s.others j o) ∙ p ];
      name = λ j p. word_stays old new head k i w 0 j s not_name;
      next = λ j p. ap held_in (word_stays old new head k i w 5 j s not_next);
      string = λ v p. (string_stays old new head k i w v h s p).0;
      text = λ v p. (string_stays old new head k i w v h s p).1;
    }

pub set_table : (old new : List Cell) (head : Option Tagged) (k i w : ℕ) → IsTable old head → is_id_cell (cell_at old k) ≡ true → SetAt old new head k i w → 0 < i → i < 5 → (i ≡ 2 → IsSome (held_in w)) → (i ≡ 3 → ForSome (held_in w) (λ f. is_pointer f ≡ true)) → IsTable new head
set_table old new head k i w t h s some within_ plist pointer =
    let was : (j : ℕ) → is_id_cell (cell_at new j) ≡ true → is_id_cell (cell_at old j) ≡ true = λ j p. elim (cases_eq j k) [
      | inl e ↦ rw e h
      | inr o ↦ ap is_id_cell (sym (s.others j o)) ∙ p
    ] in
    let carries = set_carries old new head k i w h s some within_ in
    let long : (j : ℕ) → length (words_in (cell_at new j)) ≡ length (words_in (cell_at old j)) = λ j. elim (cases_eq j k) [
      | inl e ↦ rw e (ap length s.words ∙ length-set (words_in (cell_at old k)) i w)
      | inr o ↦ ap (λ c. length (words_in c)) (s.others j o)
    ] in
    let listed : (j : ℕ) → is_id_cell (cell_at old j) ≡ true → IsSome (held_in (word_in new j 2)) = λ j p. elim (word_set old new head k i w 2 j t h s within_) [
      | inl set_ ↦ rw set_.1 (plist set_.0)
      | inr stays ↦ rw stays (t.chained.listed j p)
    ] in
    let defined : (j : ℕ) → is_id_cell (cell_at old j) ≡ true → ForSome (held_in (word_in new j 3)) (λ f. is_pointer f ≡ true) = λ j p. elim (word_set old new head k i w 3 j t h s within_) [
      | inl set_ ↦ rw set_.1 (pointer set_.0)
      | inr stays ↦ rw stays (t.defined j p)
    ] in
    record {
      chained = chained_same old new head carries was (λ j p. long j) listed t.chained;
      nil = s.live nil_value ∙ t.nil;
      first = ids_numbered.same old new (index_of nil_value) (λ j _. s.live (IdAt j)) ∙ t.first;
      defined = λ j p. defined j (was j p);
    }

pub set_keeps : (old new : List Cell) (head : Option Tagged) (k i w : ℕ) → IsTable old head → is_id_cell (cell_at old k) ≡ true → SetAt old new head k i w → 0 < i → i < 5 → (bytes : List ℕ) (other : Tagged) → IsNamed old head bytes other → IsNamed new head bytes other
set_keeps old new head k i w t h s some within_ bytes id n = named_stays old new head bytes id (set_carries old new head k i w h s some within_) t.chained n

-- a word of a block that is an identifier is set
pub set_at : IsChanged → (old new : List Cell) (head : Option Tagged) (v : Tagged) (i w : ℕ) → IsTable old head → is_id old v ≡ true → new ≡ changed_at old v (block_with (cell_at old (index_of v)) i w) → SetAt old new head (index_of v) i w
set_at law old new head v i w t h changed =
    let a = is_at_id old v h in
    let k = index_of v in
    let ws = words_in (cell_at old k) in
    let block : cell_at old k ≡ BlockCell tag.Id ws = id_block (cell_at old k) a.cell in
    let inside = within old k a.cell in
    let c : Cell = BlockCell tag.Id (set ws i w) in
    let is : new ≡ set old k c = changed ∙ ap (λ u. changed_at old u (block_with (cell_at old k) i w)) a.is ∙ ap (λ b. set old k (block_with b i w)) block in
    let here : cell_at new k ≡ c = ap (λ cs. cell_at cs k) is ∙ law.here old k c inside in
    let kind : SameKind c (cell_at old k) = rw block (like ws (set ws i w) (length-set ws i w)) in
    record {
      id = ap is_id_cell here;
      words = ap words_in here;
      others = λ j n. ap (λ cs. cell_at cs j) is ∙ law.others old k j c n;
      live = λ u. ap (λ cs. is_live cs u) is ∙ law.live old k c u inside kind;
      texts = λ u. ap (λ cs. bytes_of cs u) is ∙ text_same old k c u (sym (ap bytes_in block));
      long = ap length is ∙ length-set old k c;
    }

list_six : (ws : List ℕ) → length ws ≡ 6 → ws ≡ get_or ws 0 0 ∷ get_or ws 1 0 ∷ get_or ws 2 0 ∷ get_or ws 3 0 ∷ get_or ws 4 0 ∷ get_or ws 5 0 ∷ []
list_six [] h = absurd (omega arith)
list_six (a ∷ []) h = absurd (omega arith)
list_six (a ∷ b ∷ []) h = absurd (omega arith)
list_six (a ∷ b ∷ c ∷ []) h = absurd (omega arith)
list_six (a ∷ b ∷ c ∷ d ∷ []) h = absurd (omega arith)
list_six (a ∷ b ∷ c ∷ d ∷ e ∷ []) h = absurd (omega arith)
list_six (a ∷ b ∷ c ∷ d ∷ e ∷ f ∷ []) h = refl
list_six (a ∷ b ∷ c ∷ d ∷ e ∷ f ∷ g ∷ ws) h = absurd (omega arith)

-- the definition is taken away
pub undefined : (old new : List Cell) (k w : ℕ) → length (words_in (cell_at old k)) ≡ 6 → words_in (cell_at new k) ≡ set (words_in (cell_at old k)) 3 w → held_in w ≡ None
    → symbol_in_cells new k ≡ record (symbol_in_cells old k) { definition = None }
undefined old new k w six words none =
    let ws = words_in (cell_at old k) in
    let is = list_six ws six in
    ap symbol_of words ∙ ap (λ xs. symbol_of (set xs 3 w)) is ∙ ap (λ h. record (symbol_in_cells old k) { definition = of_kind (kind_in_word (get_or ws 4 0)) h }) none

-- the definition is set, and the declared kind stays
pub defined : (old mid new : List Cell) (k x y : ℕ) (kind : Kind) (f : Tagged) → length (words_in (cell_at old k)) ≡ 6 → words_in (cell_at mid k) ≡ set (words_in (cell_at old k)) 4 x → words_in (cell_at new k) ≡ set (words_in (cell_at mid k)) 3 y
    → kind_in_word x ≡ kind → var_kind_in x ≡ var_kind_in (word_in old k 4) → held_in y ≡ Some f → symbol_in_cells new k ≡ record (symbol_in_cells old k) { definition = Some (kind, f) }
defined old mid new k x y kind f six first second kind_is declared pointer =
    let ws = words_in (cell_at old k) in
    let is = list_six ws six in
    ap symbol_of second ∙ ap (λ xs. symbol_of (set xs 3 y)) first ∙ ap (λ xs. symbol_of (set (set xs 4 x) 3 y)) is
    ∙ ap (λ v. record (symbol_in_cells old k) { definition = of_kind (kind_in_word x) (held_in y); kind = v }) declared
    ∙ ap (λ c. record (symbol_in_cells old k) { definition = of_kind c (held_in y) }) kind_is
    ∙ ap (λ h. record (symbol_in_cells old k) { definition = of_kind kind h }) pointer
