-- A block that was just made, and is filled word by word.
use Rattle.std.proofs.Common.{◌≡◌, ℕ, ◌+◌, ◌-◌, ◌/◌, ◌%◌, ◌≤◌, Bool, true, false, cond, List, ◌∷◌, ◌++◌, length, set, replicate, refl, sym, ap, ◌∙◌, arith, Option, Some, None}
use Rattle.std.proofs.Math.Seq.{set-append_seam}
use Rattle.std.proofs.lemmas.List.{length-set}
use Rattle.std.proofs.lemmas.Bool.Decides.{nat_tests}
use Rattle.std.specs.Prelude.{nat_le}
use Rattle.rl_tags.specs.Tagged.{Tagged, IdAt, tagged_of, IsWordOf, index_of}
use Rattle.rl_tags.specs.declared.Tag.TheVariants as tag
use Rattle.rl_cells.specs.Cell.{Cell, CellStore, BlockCell, More, cell_at, placed, grown, cost_of, more_counted, changed_at, block_with, is_live, is_live_word, is_block, is_id_cell, words_of, words_in}
use Rattle.rl_cells.specs.Laws.{IsAdded}
use Rattle.rl_syms.specs.Table.{held_in}

-- a word that holds a live value, or none
pub option_live : (cells : List Cell) (v : Option Tagged) (w : ℕ) → held_in w ≡ v → ((x : Tagged) → v ≡ Some x → is_live cells x ≡ true) → is_live_word cells w ≡ true
option_live cells v w held live = go (nat_le (w % 16) 6) refl held
  where
    go : (b : Bool) → nat_le (w % 16) 6 ≡ b → cond b (Some (tagged_of w)) None ≡ v → cond b (is_live cells (tagged_of w)) true ≡ true
    go true t e = live (tagged_of w) (sym e)
    go false t e = refl

pub word_live : (cells : List Cell) (v : Tagged) (w : ℕ) → is_live cells v ≡ true → IsWordOf w v → is_live_word cells w ≡ true
word_live cells v w h is = let test : nat_le (w % 16) 6 ≡ true = below (w % 16) 6 is.is_tagged in rw test (ap (is_live cells) is.is ∙ h)
  where
    below : (m n : ℕ) → m ≤ n → nat_le m n ≡ true
    below m n l = grind (arith, nat_tests)

pub live_grown : IsAdded → (old now : CellStore) (c : Cell) (v : Tagged) → now ≡ grown old c → is_live old.cells v ≡ true → is_live now.cells v ≡ true
live_grown law old now c v made h = rw made (law.live old.cells (placed c) v h)

pub live_filled : IsAdded → (old now : CellStore) (c : Cell) (w : ℕ) → now ≡ grown old c → is_live_word old.cells w ≡ true → is_live_word now.cells w ≡ true
live_filled law old now c w made h = rw made (law.words old.cells (placed c) w h)

pub words_filled : IsAdded → (old now : CellStore) (id : Tagged) (ws : List ℕ) → now ≡ grown old (BlockCell tag.Id ws) → id ≡ IdAt (length old.cells) → words_of now.cells id ≡ ws
words_filled law old now id ws made is = rw (made, is) (ap words_in (law.here old.cells (BlockCell tag.Id ws)))

pub block_filled : IsAdded → (old now : CellStore) (id : Tagged) (ws : List ℕ) → now ≡ grown old (BlockCell tag.Id ws) → id ≡ IdAt (length old.cells) → is_block now.cells id ≡ true
block_filled law old now id ws made is = rw (made, is) (ap is_id_cell (law.here old.cells (BlockCell tag.Id ws)))

placed_set : (cells : List Cell) (ws : List ℕ) (i w : ℕ) → set (cells ++ placed (BlockCell tag.Id ws)) (length cells) (BlockCell tag.Id (set ws i w)) ≡ cells ++ placed (BlockCell tag.Id (set ws i w))
placed_set cells ws i w =
    set-append_seam cells (BlockCell tag.Id ws) (replicate ((length ws + 1) / 2 - 1) More) (BlockCell tag.Id (set ws i w))
    ∙ ap (λ n. cells ++ BlockCell tag.Id (set ws i w) ∷ replicate ((n + 1) / 2 - 1) More) (sym (length-set ws i w))

-- one more word is set
pub filled_set : IsAdded → (old now next : CellStore) (id : Tagged) (ws : List ℕ) (i w : ℕ) → now ≡ grown old (BlockCell tag.Id ws) → id ≡ IdAt (length old.cells)
    → next ≡ record now { cells = changed_at now.cells id (block_with (cell_at now.cells (index_of id)) i w) } → next ≡ grown old (BlockCell tag.Id (set ws i w))
filled_set law old now next id ws i w made is changed =
    let block : cell_at (old.cells ++ placed (BlockCell tag.Id ws)) (length old.cells) ≡ BlockCell tag.Id ws = law.here old.cells (BlockCell tag.Id ws) in
    let count : more_counted old.count old.mark (cost_of (BlockCell tag.Id ws)) ≡ more_counted old.count old.mark (cost_of (BlockCell tag.Id (set ws i w))) = ap (λ n. more_counted old.count old.mark ((n + 1) / 2)) (sym (length-set ws i w)) in
    changed ∙ ap (λ (s : CellStore). record s { cells = changed_at s.cells id (block_with (cell_at s.cells (index_of id)) i w) }) made
    ∙ ap (λ v. record (grown old (BlockCell tag.Id ws)) { cells = changed_at (old.cells ++ placed (BlockCell tag.Id ws)) v (block_with (cell_at (old.cells ++ placed (BlockCell tag.Id ws)) (index_of v)) i w) }) is
    ∙ ap (λ c. record (grown old (BlockCell tag.Id ws)) { cells = set (old.cells ++ placed (BlockCell tag.Id ws)) (length old.cells) (block_with c i w) }) block
    ∙ ap (λ cs. record (grown old (BlockCell tag.Id ws)) { cells = cs }) (placed_set old.cells ws i w)
    ∙ ap (λ n. record (grown old (BlockCell tag.Id (set ws i w))) { count = n }) count
