-- A new name in a world: none had it, and those that were there stay.
use Rattle.std.proofs.Common.{◌≡◌, ℕ, ◌≤◌, ◌⊎◌, inl, inr, List, length, Option, None, true, ap, sym, subst, arith, length-append}
use Rattle.rl_tags.specs.Tagged.{Tagged}
use Rattle.rl_cells.specs.Cell.{CellStore, is_live}
use Rattle.rl_syms.specs.Made.{Enters, Finds, id_cost, with_id}
use Rattle.rl_syms.specs.Table.{IsFree, IsNamed, IsTable, nil_value}
use Rattle.rl_syms.specs.declared.table.Syms.{Syms}
use Rattle.rl_text.specs.Maker.{Has}
use Rattle.rl_world.specs.Counts.{WorldCounts, room_stop, roomed}
use Rattle.rl_world.specs.declared.world.World.{World}
use Rattle.rl_read.specs.Frames.{AreReadyToMake, CanMake, IsMaking}
use Rattle.rl_read.specs.Laws.{AreMakingLaws}
use Rattle.rl_read.specs.Stock.{identifier_at, stock_of}
use Rattle.rl_read.proofs.MakingKeepsNames.{able_entered}
use Rattle.rl_read.proofs.ObjectMade.{identifier_had}

-- what no identifier has is not found
pub entered : (old new : CellStore) (before after : Option Tagged) (name : List ℕ) (v : Tagged) → IsFree old.cells before name → Finds old new before after name v ⊎ Enters old new before after name v → Enters old new before after name v
entered old new before after name v free (inl f) = absurd (free.other _ f.named.interned.1 f.named.name_is)
entered old new before after name v free (inr e) = e

-- the chain of names begins elsewhere, and nothing else of the table has changed
syms_are : (old new : Syms) → new.made ≡ old.made → new ≡ record old { head = new.head }
syms_are old new e = ap (λ (n : ℕ). record new { made = n }) e

-- the cells are more
pub longer_with_id : (s : CellStore) (name : List ℕ) (plist : Tagged) (next : Option Tagged) → length s.cells ≤ length (with_id s name plist next).cells
longer_with_id s name plist next = simp length-append (omega arith)

-- names, cells and counts alone have changed, and what was there stays
pub making_entered : (w : World) (cells : CellStore) (syms : Syms) (counts : WorldCounts) (name : List ℕ) (v : Tagged) → Enters w.cells cells w.syms.head syms.head name v → syms.made ≡ w.syms.made
    → ((v : Tagged) → is_live w.cells.cells v ≡ true → is_live cells.cells v ≡ true)
    → ((bytes : List ℕ) (id : Tagged) → IsNamed w.cells.cells w.syms.head bytes id → IsNamed cells.cells syms.head bytes id)
    → IsMaking w (record w { cells = cells; syms = syms; counts = counts })
making_entered w cells syms counts name v e made live names = record {
  world = ap (λ (s : Syms). record w { cells = cells; syms = s; counts = counts }) (syms_are w.syms syms made);
  live = live;
  longer = rw e.cells (longer_with_id w.cells name nil_value w.syms.head);
  names = names;
}

-- objects may be made as before
pub able_named : AreMakingLaws → (w : World) (cells : CellStore) (syms : Syms) (name : List ℕ) (v : Tagged) → Enters w.cells cells w.syms.head syms.head name v → IsTable cells.cells syms.head → CanMake w → AreReadyToMake cells syms.head (roomed w.counts (id_cost name))
able_named laws w cells syms name v e table able =
    subst (λ (s : CellStore). AreReadyToMake s syms.head (roomed w.counts (id_cost name))) (sym e.cells)
    (able_entered laws w name nil_value syms.head (subst (λ (s : CellStore). IsTable s.cells syms.head) e.cells table) able)

-- it is the new identifier of the stock
pub identifier_entered : (w : World) (cells : CellStore) (syms : Syms) (name : List ℕ) (v : Tagged) → Enters w.cells cells w.syms.head syms.head name v → room_stop w.counts w.cells (id_cost name) ≡ None
    → identifier_at None name (stock_of w) ≡ Has v (stock_of (record w { cells = cells; syms = syms; counts = roomed w.counts (id_cost name) }))
identifier_entered w cells syms name v e stop =
    rw (e.cells, e.head, e.place) (identifier_had name (stock_of w) stop)
