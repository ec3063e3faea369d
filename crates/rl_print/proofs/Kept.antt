-- What printing keeps on the walk.
use Rattle.std.proofs.Common.{◌≡◌, ◌≢◌, ℕ, suc, ◌+◌, ◌-◌, ◌≤◌, ◌∷◌, length, map, Some, refl, sym, ap, ◌∙◌, arith}
use Rattle.std.specs.List.{AllByRecursion}
use Rattle.rl_cells.specs.Cell.{CellStore}
use Rattle.rl_tree.specs.Atoms as atoms
use Rattle.rl_tree.specs.Printing.{Progress}
use Rattle.rl_world.specs.declared.world.World.{World}
use Rattle.rl_print.specs.Walk.{IsKeptByPrinting, IsReadyToPrint, WalkPlace, all_printed, continued, kept_place, levels_left, walk_place_in, setting_in_world, waiting_places}
use Rattle.rl_print.specs.declared.walk.Cursor.{Cursor}
use Rattle.rl_print.specs.declared.walk.State.TheVariants as state
use Rattle.rl_world.specs.Walks.{kept_above}

pub places_pushed : (base : ℕ) (old new : World) (t : ℕ × ℕ × ℕ) (place : WalkPlace) → new.cells ≡ old.cells → kept_above base new.levels ≡ t ∷ kept_above base old.levels → kept_place old.cells.cells t ≡ place → waiting_places new base ≡ place ∷ waiting_places old base
places_pushed base old new t place cells above is = rw (cells, above, is) refl

pub ready_pushed : (base : ℕ) (old new : World) (t : ℕ × ℕ × ℕ) → new.cells ≡ old.cells → new.syms ≡ old.syms → new.levels.walk ≡ t ∷ old.levels.walk → kept_above base new.levels ≡ t ∷ kept_above base old.levels → IsKeptByPrinting old.cells.cells t → IsReadyToPrint old base → IsReadyToPrint new base
ready_pushed base old new t cells syms walk above kept r =
    let long : length new.levels.walk ≡ suc (length old.levels.walk) = ap length walk in
    record {
      table = rw (cells, syms) r.table;
      above = omega (arith, long, r.above);
      kept = rw (cells, above) (kept, r.kept);
    }

-- ---- what waited comes next

pub kept_first : (base : ℕ) (old new : World) (t : ℕ × ℕ × ℕ) → kept_above base old.levels ≡ t ∷ kept_above base new.levels → IsReadyToPrint old base → IsKeptByPrinting old.cells.cells t × AllByRecursion (IsKeptByPrinting old.cells.cells) (kept_above base new.levels)
kept_first base old new t above r = rw above at r.kept

pub ready_popped : (base : ℕ) (old new : World) (t : ℕ × ℕ × ℕ) → new.cells ≡ old.cells → new.syms ≡ old.syms → kept_above base old.levels ≡ t ∷ kept_above base new.levels → base ≤ length new.levels.walk → IsReadyToPrint old base → IsReadyToPrint new base
ready_popped base old new t cells syms above l r = record {
  table = rw (cells, syms) r.table;
  above = l;
  kept = rw cells (kept_first base old new t above r).1;
}

pub left_more : (base : ℕ) (old new : World) (t : ℕ × ℕ × ℕ) → base ≤ length old.levels.walk → length old.levels.walk ≢ base → old.levels.walk ≡ t ∷ new.levels.walk → base ≤ length new.levels.walk
left_more base old new t above other popped =
    let long : length old.levels.walk ≡ suc (length new.levels.walk) = ap length popped in omega (arith, above, other, long)

pub popped_means : (style : atoms.Style) (base : ℕ) (old new : World) (t : ℕ × ℕ × ℕ) (c : Cursor) → new ≡ record old { levels = record old.levels { level = old.levels.level - 1; walk = new.levels.walk } } → kept_above base old.levels ≡ t ∷ kept_above base new.levels
    → walk_place_in old.cells.cells c ≡ kept_place old.cells.cells t → old.levels.level ≤ old.levels.bound → 1 ≤ old.levels.level
    → (p : Progress) → continued style new base (Some (state.Next c)) p ≡ all_printed (setting_in_world style old) (waiting_places old base) (levels_left old + 1) p
popped_means style base old new t c e above is within some p =
    let cells : new.cells ≡ old.cells = ap (λ (w : World). w.cells) e in
    let level : new.levels.level ≡ old.levels.level - 1 = ap (λ (w : World). w.levels.level) e in
    let bound : new.levels.bound ≡ old.levels.bound = ap (λ (w : World). w.levels.bound) e in
    let left : levels_left new ≡ levels_left old + 1 = omega (arith, level, bound, within, some) in
    let setting : setting_in_world style new ≡ setting_in_world style old = ap (setting_in_world style) e in
    let places : walk_place_in new.cells.cells c ∷ waiting_places new base ≡ waiting_places old base =
    ap (λ (s : CellStore). walk_place_in s.cells c ∷ map (kept_place s.cells) (kept_above base new.levels)) cells
    ∙ (ap (λ place. place ∷ map (kept_place old.cells.cells) (kept_above base new.levels)) is
    ∙ sym (ap (map (kept_place old.cells.cells)) above)) in
    ap (λ g. all_printed g (walk_place_in new.cells.cells c ∷ waiting_places new base) (levels_left new) p) setting
    ∙ (ap (λ ps. all_printed (setting_in_world style old) ps (levels_left new) p) places ∙ ap (λ n. all_printed (setting_in_world style old) (waiting_places old base) n p) left)

pub none_means : (style : atoms.Style) (base : ℕ) (w : World) → length w.levels.walk ≡ base → (p : Progress) → p ≡ all_printed (setting_in_world style w) (waiting_places w base) (levels_left w + 1) p
none_means style base w e p =
    let none : length w.levels.walk - base ≡ 0 = omega (arith, e) in rw none refl
