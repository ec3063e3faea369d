-- The texts of errors stay.
use Rattle.std.proofs.Common.{◌≡◌, ℕ, ◌<◌, ◌≤◌, true, false, List, [], length, get_or, take, Option, refl, sym, ap, ◌∙◌, arith, inl, inr}
use Rattle.std.specs.Prelude.{◌≢◌}
use Rattle.std.proofs.lemmas.Bool.{cases_lt}
use Rattle.std.proofs.lemmas.List.{get_or_past, get_or-take}
use Rattle.rl_tags.specs.Tagged.{Tagged, IdAt, StrAt, index_of}
use Rattle.rl_cells.specs.Cell.{Cell, More, bytes_in, bytes_of, cell_at, is_id_cell, is_str, is_str_cell, take_cells}
use Rattle.rl_syms.specs.Frame.{Adds, Sets}
use Rattle.rl_syms.specs.Table.{SymbolCells, is_id}
use Rattle.rl_world.specs.Errors.{AreTexts}
use Rattle.rl_world.specs.TextsKept.{AreTextsBefore, AreTextsKept}
use Rattle.rl_world.proofs.Texts.{texts_kept}

-- a string whose cell stays
same_string : (old new : List Cell) (v : Tagged) → is_str old v ≡ true → cell_at new (index_of v) ≡ cell_at old (index_of v) → (is_str new v ≡ true) × (bytes_of new v ≡ bytes_of old v)
same_string old new (StrAt k) h e = (ap is_str_cell e ∙ h, ap bytes_in e)
same_string old new v h e = absurd (cc)

texts_stay : (old new : List Cell) (texts : List Tagged) (n : ℕ) → ((i : ℕ) (d : Tagged) → i < n → cell_at new (index_of (get_or texts i d)) ≡ cell_at old (index_of (get_or texts i d))) → AreTexts old texts n → AreTexts new texts n
texts_stay old new texts n same t = record {
  string = λ i d l. (same_string old new (get_or texts i d) (t.string i d l) (same i d l)).0;
  text = λ i d l. (same_string old new (get_or texts i d) (t.string i d l) (same i d l)).1 ∙ t.text i d l;
}

-- a string stands within the cells
string_within : (cells : List Cell) (v : Tagged) → is_str cells v ≡ true → index_of v < length cells
string_within cells (StrAt k) h = elim (cases_lt k (length cells)) [
  | inl below ↦ below
  | inr past ↦ let none : cell_at cells k ≡ More = get_or_past cells k More past in absurd (let e : is_str_cell More ≡ true = sym (ap is_str_cell none) ∙ h in cc)
]
string_within cells v h = absurd (cc)

pub texts_before : (cells : List Cell) (texts : List Tagged) (n : ℕ) → AreTexts cells texts n → AreTextsBefore texts n (length cells)
texts_before cells texts n t = λ i d l. string_within cells (get_or texts i d) (t.string i d l)

-- a string is no identifier
apart : (cells : List Cell) (id v : Tagged) → is_id cells id ≡ true → is_str cells v ≡ true → index_of v ≢ index_of id
apart cells (IdAt j) (StrAt k) i s e = let both : is_str_cell (cell_at cells j) ≡ true = sym (ap (λ n. is_str_cell (cell_at cells n)) e) ∙ s in no_both (cell_at cells j) i both
  where
    no_both : (c : Cell) → is_id_cell c ≡ true → is_str_cell c ≡ true → ⊥
    no_both c i s = grind arith
apart cells (IdAt j) v i s e = absurd (cc)
apart cells id v i s e = absurd (cc)

pub texts_are_kept_by : AreTextsKept
texts_are_kept_by = record {
  before = texts_before;
  blocks = texts_kept;
  added = λ old new texts n a t. texts_stay old new texts n (λ i d l. a.stands (index_of (get_or texts i d)) (texts_before old texts n t i d l)) t;
  set = λ old new id s texts n is a t. texts_stay old new texts n (λ i d l. a.others (index_of (get_or texts i d)) (apart old id (get_or texts i d) is (t.string i d l))) t;
  released = λ cells mark texts n b t. texts_stay cells (take_cells mark cells) texts n (λ i d l. get_or-take mark cells (index_of (get_or texts i d)) More (b i d l)) t;
}
