-- Held functions stay where other objects are made and changed.
use Rattle.std.proofs.Common.{◌≡◌, ℕ, ◌+◌, ◌-◌, ◌%◌, ◌/◌, ◌^◌, ◌<◌, ◌≤◌, true, false, List, ◌++◌, length, set, Option, Some, None, refl, sym, ap, ◌∙◌, arith, inl, inr}
use Rattle.std.specs.Prelude.{is_some}
use Rattle.std.proofs.lemmas.Bool.{cases_eq}
use Rattle.std.proofs.lemmas.List.{get_or_past, get_or-set_same, get_or-set_other, length-append, length-replicate}
use Rattle.rl_tags.specs.declared.Tag.TheVariants as tag
use Rattle.rl_tags.specs.Tagged.{Tagged, StrAt, PairAt, VectorAt, FunAt, index_of}
use Rattle.rl_tree.specs.Value.{Fun}
use Rattle.rl_cells.specs.Cell.{Cell, CellStore, PairCell, StrCell, VectorCell, BigCell, BlockCell, More, block_with, cell_at, cost_of, changed_at, placed, is_fun_cell, is_id_cell, is_pair, is_pair_cell, is_vector, is_vector_cell, words_in, words_of}
use Rattle.rl_cells.specs.Laws.{IsAdded}
use Rattle.rl_syms.specs.Contents.{funs_before}
use Rattle.rl_syms.specs.Frame.{Sets}
use Rattle.rl_syms.specs.Functions.{ChangesFunction, FunctionsStand, GainsFunction, KeepsHeldFunctions, is_held_function, words_of_function}
use Rattle.rl_syms.specs.Made.{new_words, with_id}
use Rattle.rl_syms.specs.Table.{SymbolCells, is_id}
use Rattle.rl_syms.proofs.Changed.{part_stays}
use Rattle.rl_syms.proofs.Field.{is_at_id}
use Rattle.rl_syms.proofs.Meant.{function_named, new_cell}
use Rattle.rl_syms.proofs.New.{where_is, before, here, after, tested_inside}
use Rattle.rl_syms.proofs.Numbers.{funs_numbered, none_between}

-- ---- cells

no_words : (c : Cell) → is_pair_cell c ≡ true → words_of_function c ≡ None
no_words (PairCell a d) h = refl
no_words c h = absurd (cc)

no_words_there : (c : Cell) → is_vector_cell c ≡ true → words_of_function c ≡ None
no_words_there (VectorCell xs) h = refl
no_words_there c h = absurd (cc)

no_words_of_id : (c : Cell) → is_id_cell c ≡ true → words_of_function c ≡ None
no_words_of_id (BlockCell tag.Id words) h = refl
no_words_of_id c h = absurd (cc)

-- whether there are words says whether it is a function
is_fun_by_words : (c : Cell) → is_fun_cell c ≡ is_some (words_of_function c)
is_fun_by_words (BlockCell tag.Fun words) = refl
is_fun_by_words (BlockCell tag.Int words) = refl
is_fun_by_words (BlockCell tag.Id words) = refl
is_fun_by_words (BlockCell tag.Str words) = refl
is_fun_by_words (BlockCell tag.Pair words) = refl
is_fun_by_words (BlockCell tag.Vector words) = refl
is_fun_by_words (BlockCell tag.Big words) = refl
is_fun_by_words (PairCell a d) = refl
is_fun_by_words (StrCell bytes) = refl
is_fun_by_words (VectorCell xs) = refl
is_fun_by_words (BigCell z) = refl
is_fun_by_words More = refl

words_by_words : (c d : Cell) → is_fun_cell d ≡ true → words_of_function c ≡ words_of_function d → words_in c ≡ words_in d
words_by_words c (BlockCell tag.Fun words) h e = of_some c e
  where
    of_some : (c : Cell) → words_of_function c ≡ Some words → words_in c ≡ words
    of_some (BlockCell tag.Fun others) e = cc
    of_some c e = absurd (cc)
words_by_words c d h e = absurd (cc)

none_past : (cells : List Cell) (k : ℕ) → length cells ≤ k → None ≡ words_of_function (cell_at cells k)
none_past cells k l = sym (ap words_of_function (get_or_past cells k More l))

-- ---- what is made

added_keeps : IsAdded → (cells : List Cell) (c : Cell) → words_of_function c ≡ None → KeepsHeldFunctions cells (cells ++ placed c)
added_keeps law cells c none = record {
  words = λ k. elim (where_is law cells c k) [
    | before l e ↦ ap words_of_function e
    | here l e ↦ ap words_of_function e ∙ (none ∙ none_past cells k (omega arith))
    | after l e ↦ ap words_of_function e ∙ none_past cells k (omega arith)
  ];
}

both_keep : (a b c : List Cell) → KeepsHeldFunctions a b → KeepsHeldFunctions b c → KeepsHeldFunctions a c
both_keep a b c f g = record { words = λ k. g.words k ∙ f.words k }

naming_keeps : IsAdded → (s : CellStore) (name : List ℕ) (plist : Tagged) (next : Option Tagged) → KeepsHeldFunctions s.cells (with_id s name plist next).cells
naming_keeps law s name plist next =
    let text = s.cells ++ placed (StrCell name) in
    let block = BlockCell tag.Id (new_words (StrAt (length s.cells)) plist next) in
    both_keep s.cells text (text ++ placed block) (added_keeps law s.cells (StrCell name) refl) (added_keeps law text block refl)

-- a new function is one more
more_many : IsAdded → (cells : List Cell) (c : Cell) → is_fun_cell c ≡ true → funs_before (cells ++ placed c) (length (cells ++ placed c)) ≡ funs_before cells (length cells) + 1
more_many law cells c is =
    let new = cells ++ placed c in
    let behind = cost_of c - 1 in
    let long : length new ≡ length cells + 1 + behind = omega (arith, length-append cells (placed c), length-replicate behind More) in
    ap (funs_before new) long
    ∙ none_between funs_numbered new (length cells + 1) behind (λ k l m h. absurd (let clash : false ≡ true = sym (ap is_fun_cell (law.past cells c k (omega (arith, l)))) ∙ h in cc))
    ∙ funs_numbered.here new (length cells) (ap is_fun_cell (new_cell cells c) ∙ is)
    ∙ ap (λ n. n + 1) (funs_numbered.stays cells (placed c) (length cells) (omega arith))

function_gained : IsAdded → (cells : List Cell) (words : List ℕ) → length cells < 2 ^ 32 → GainsFunction cells (cells ++ placed (BlockCell tag.Fun words)) words (FunAt (length cells))
function_gained law cells words l =
    let c = BlockCell tag.Fun words in
    record {
      place = refl;
      stands = ap is_fun_cell (new_cell cells c);
      words_are = ap words_in (new_cell cells c);
      means = function_named cells (placed c) l;
      many = more_many law cells c refl;
      others = λ k ne. elim (where_is law cells c k) [
        | before l e ↦ ap words_of_function e
        | here e f ↦ absurd (ne e)
        | after l e ↦ ap words_of_function e ∙ none_past cells k (omega arith)
      ];
    }

-- ---- what is changed

pair_keeps : (cells : List Cell) (p a d : Tagged) → is_pair cells p ≡ true → KeepsHeldFunctions cells (changed_at cells p (PairCell a d))
pair_keeps cells (PairAt k) a d h = record { words = λ j. part_stays words_of_function cells k (PairCell a d) j (sym (no_words (cell_at cells k) h)) }
pair_keeps cells p a d h = absurd (cc)

vector_keeps : (cells : List Cell) (v : Tagged) (xs : List Tagged) → is_vector cells v ≡ true → KeepsHeldFunctions cells (changed_at cells v (VectorCell xs))
vector_keeps cells (VectorAt k) xs h = record { words = λ j. part_stays words_of_function cells k (VectorCell xs) j (sym (no_words_there (cell_at cells k) h)) }
vector_keeps cells v xs h = absurd (cc)

setting_keeps : (old new : List Cell) (id : Tagged) (y : SymbolCells) → is_id old id ≡ true → Sets old new id y → KeepsHeldFunctions old new
setting_keeps old new id y h sets = record {
  words = λ k. elim (cases_eq k (index_of id)) [
    | inl e ↦ rw e (no_words_of_id (cell_at new (index_of id)) (is_at_id new id (sets.ids id h)).cell ∙ sym (no_words_of_id (cell_at old (index_of id)) (is_at_id old id h).cell))
    | inr ne ↦ ap words_of_function (sets.others k ne)
  ];
}

-- where each place passes as it passed, as many functions begin
tested_many : (old new : List Cell) → ((k : ℕ) → is_fun_cell (cell_at new k) ≡ is_fun_cell (cell_at old k)) → funs_before new (length new) ≡ funs_before old (length old)
tested_many old new same =
    let past = length old + length new in
    sym (funs_numbered.past new past (omega arith)) ∙ funs_numbered.same old new past (λ j l. same j) ∙ funs_numbered.past old past (omega arith)

with_word : (c : Cell) (i w : ℕ) → is_fun_cell c ≡ true → (is_fun_cell (block_with c i w) ≡ true) × (words_in (block_with c i w) ≡ set (words_in c) i w)
with_word (BlockCell tag.Fun words) i w h = (refl, refl)
with_word c i w h = absurd (cc)

word_changed : (cells : List Cell) (f : Tagged) (i w : ℕ) → is_held_function cells f ≡ true → ChangesFunction cells (changed_at cells f (block_with (cell_at cells (index_of f)) i w)) f i w
word_changed cells (FunAt k) i w h =
    let c = block_with (cell_at cells k) i w in
    let there : cell_at (set cells k c) k ≡ c = get_or-set_same cells k c More (tested_inside is_fun_cell refl cells k h) in
    let is = with_word (cell_at cells k) i w h in
    record {
      stands = ap is_fun_cell there ∙ is.0;
      words_are = ap words_in there ∙ is.1;
      many = tested_many cells (set cells k c) (λ j. part_stays is_fun_cell cells k c j (is.0 ∙ sym h));
      others = λ j ne. ap words_of_function (get_or-set_other cells k j c More ne);
    }
word_changed cells f i w h = absurd (cc)

-- ---- what is left

tests_kept : (old new : List Cell) (k : ℕ) → KeepsHeldFunctions old new → is_fun_cell (cell_at new k) ≡ is_fun_cell (cell_at old k)
tests_kept old new k h = is_fun_by_words (cell_at new k) ∙ ap is_some (h.words k) ∙ sym (is_fun_by_words (cell_at old k))

words_kept : (old new : List Cell) (f : Tagged) → KeepsHeldFunctions old new → is_held_function old f ≡ true → words_of new f ≡ words_of old f
words_kept old new (FunAt k) h is = words_by_words (cell_at new k) (cell_at old k) is (h.words k)
words_kept old new f h is = absurd (cc)

pub functions_kept : IsAdded → FunctionsStand
functions_kept law = record {
  none = λ cells. record { words = λ k. refl };
  both = both_keep;
  made = added_keeps law;
  named = naming_keeps law;
  pair = pair_keeps;
  vector = vector_keeps;
  set = setting_keeps;
  function = function_gained law;
  word = word_changed;
  live = λ old new k h. tests_kept old new (k % 2 ^ 32) h;
  values = λ old new k h. ap (λ n. Fun n (k / 2 ^ 32)) (funs_numbered.same old new (k % 2 ^ 32) (λ j l. tests_kept old new j h));
  many = λ old new h. tested_many old new (λ k. tests_kept old new k h);
  words = words_kept;
}
