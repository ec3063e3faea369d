-- Strings stay as other objects are made, and opening makes no other objects than these.
use Rattle.std.proofs.Common.{◌≡◌, ℕ, ◌+◌, ◌<◌, true, List, [], length, get_or, set, Option, Ok, Err, refl, sym, ap, ◌∙◌, arith, inl, inr}
use Rattle.std.specs.Prelude.{Result, IfOk, OnErr}
use Rattle.std.proofs.lemmas.Bool.{cases_lt}
use Rattle.std.proofs.lemmas.List.{get_or-set_same, get_or-set_other}
use Rattle.rl_tags.specs.Tagged.{Tagged, IdAt, StrAt}
use Rattle.rl_cells.specs.Cell.{Cell, CellStore, StrCell, bytes_of, cell_at, grown, is_id_cell, is_str, placed}
use Rattle.rl_cells.specs.Laws.{IsAdded}
use Rattle.rl_syms.specs.Frame.{KeepsIdentifiers}
use Rattle.rl_syms.specs.Laws.{IsKept, LeaveIdentifiers}
use Rattle.rl_syms.specs.Opened.{IsOpened, is_name_cell}
use Rattle.rl_syms.specs.Table.{IsTable}
use Rattle.rl_tree.specs.ErrorTexts.{error_texts}
use Rattle.rl_world.specs.Errors.{AddsTexts, AreTexts}

string_kept : (old new : List Cell) (v : Tagged) → KeepsIdentifiers old new → is_str old v ≡ true → is_str new v ≡ true
string_kept old new (StrAt k) b h = b.live (StrAt k) h
string_kept old new v b h = absurd (cc)

pub keeps_refl : (cells : List Cell) → KeepsIdentifiers cells cells
keeps_refl cells = record { live = λ v h. h; texts = λ v h. refl; words = λ k. refl }

pub keeps_trans : (a b c : List Cell) → KeepsIdentifiers a b → KeepsIdentifiers b c → KeepsIdentifiers a c
keeps_trans a b c p q = record {
  live = λ v h. q.live v (p.live v h);
  texts = λ v h. q.texts v (string_kept a b v p h) ∙ p.texts v h;
  words = λ k. q.words k ∙ p.words k;
}

pub texts_none : (cells : List Cell) (texts : List Tagged) → AreTexts cells texts 0
texts_none cells texts = record { string = λ i d l. absurd (omega arith); text = λ i d l. absurd (omega arith) }

pub texts_kept : (old new : List Cell) (texts : List Tagged) (n : ℕ) → KeepsIdentifiers old new → AreTexts old texts n → AreTexts new texts n
texts_kept old new texts n b t = record {
  string = λ i d l. string_kept old new (get_or texts i d) b (t.string i d l);
  text = λ i d l. b.texts (get_or texts i d) (t.string i d l) ∙ t.text i d l;
}

-- one text more
pub texts_more : (old new : List Cell) (texts more : List Tagged) (n : ℕ) (v : Tagged) → KeepsIdentifiers old new → AreTexts old texts n → n < length texts → more ≡ set texts n v → is_str new v ≡ true → bytes_of new v ≡ get_or error_texts n [] → AreTexts new more (n + 1)
texts_more old new texts more n v b t l e string text =
    let kept = texts_kept old new texts n b t in
    rw e (record {
      string = λ i d m. elim (cases_lt i n) [
        | inl below ↦ rw (get_or-set_other texts n i v d (λ same. absurd (omega arith))) (kept.string i d below)
        | inr at ↦ let is : i ≡ n = omega arith in rw (is, get_or-set_same texts n v d l) string
      ];
      text = λ i d m. elim (cases_lt i n) [
        | inl below ↦ rw (get_or-set_other texts n i v d (λ same. absurd (omega arith))) (kept.text i d below)
        | inr at ↦ let is : i ≡ n = omega arith in rw (is, get_or-set_same texts n v d l) text
      ];
    })

string_adds : IsAdded → (old : CellStore) (bytes : List ℕ) → AddsTexts old.cells (grown old (StrCell bytes)).cells
string_adds law old bytes k h =
    let text = StrCell bytes in
    elim (cases_lt k (length old.cells)) [
      | inl below ↦ ap is_name_cell (law.stands old.cells (placed text) k below) ∙ h
      | inr above ↦ elim (cases_lt (length old.cells) k) [
        | inl past ↦ ap is_name_cell (law.past old.cells text k past)
        | inr at ↦ let is : k ≡ length old.cells = omega arith in rw is (ap is_name_cell (law.here old.cells text))
      ]
    ]

-- where a string is made, and where there is no room for it
pub text_adds : {E : Type 0} → IsAdded → (old new : CellStore) (bytes : List ℕ) (r : Result Tagged E) → IfOk r (λ v. new ≡ grown old (StrCell bytes)) → OnErr r (new ≡ old) → AddsTexts old.cells new.cells
text_adds law old new bytes (Ok v) made same = rw made (string_adds law old bytes)
text_adds law old new bytes (Err f) made same = rw same (λ k h. h)

pub text_keeps : {E : Type 0} → LeaveIdentifiers → (old new : CellStore) (bytes : List ℕ) (r : Result Tagged E) → IfOk r (λ v. new ≡ grown old (StrCell bytes)) → OnErr r (new ≡ old) → KeepsIdentifiers old.cells new.cells
text_keeps law old new bytes (Ok v) made same = rw made (law.made old.cells (StrCell bytes) refl)
text_keeps law old new bytes (Err f) made same = rw same (keeps_refl old.cells)

-- what opening made stays all that it made, but for the texts
pub opened_kept : IsKept → (old new : List Cell) (head : Option Tagged) → KeepsIdentifiers old new → AddsTexts old new → IsTable old head → IsOpened old head → IsOpened new head
opened_kept law old new head keeps adds table opened = record {
  blank = λ k h. let was : is_id_cell (cell_at old k) ≡ true = sym (law.ids old new (IdAt k) keeps) ∙ h in rw (law.symbols old new k keeps was) (opened.blank k was);
  known = λ bytes id h. opened.known bytes id (law.named_before old new head bytes id keeps table h);
  objects = λ k. adds k (opened.objects k);
}
