-- A world in which pairs, strings and vectors are made or changed keeps its names.
use Rattle.std.proofs.Common.{◌≡◌, ℕ, ◌+◌, ◌<◌, ◌≤◌, List, length, Option, Some, None, true, refl, ap, subst, arith, length-append, length-set, slice_set}
use Rattle.std.specs.Prelude.{Bool, false, Result, Ok, Err, OnErr, is_ok}
use Rattle.rl_tags.specs.Tagged.{Tagged, Number, IdAt, StrAt, PairAt, VectorAt, BigAt, FunAt}
use Rattle.rl_tags.specs.declared.Tag.TheVariants as tag
use Rattle.rl_cells.specs.Cell.{Cell, CellStore, BlockCell, PairCell, StrCell, VectorCell, changed_at, cost_of, grown, has_room, is_live, is_pair, is_vector, vector_of}
use Rattle.rl_syms.specs.Made.{id_cost, new_words, with_id}
use Rattle.rl_world.specs.Bounds.{BoundsAgree, IsMakingCounted}
use Rattle.rl_world.specs.declared.counts.Aside.{Aside}
use Rattle.rl_world.specs.declared.counts.Expansion.{Expansion}
use Rattle.rl_syms.specs.Frame.{KeepsIdentifiers, words_of_id}
use Rattle.rl_syms.specs.Laws.{IsKept, LeaveIdentifiers}
use Rattle.rl_syms.specs.Table.{IsTable}
use Rattle.rl_world.specs.Counts.{WorldCounts, room_stop, roomed, with_cells}
use Rattle.rl_world.specs.declared.world.World.{World}
use Rattle.rl_read.specs.Frames.{AreReadyToMake, CanMake, IsMaking}
use Rattle.rl_read.specs.Laws.{AreMakingLaws}

-- a change leaves as many cells
pub length_changed : (cells : List Cell) (v : Tagged) (c : Cell) → length (changed_at cells v c) ≡ length cells
length_changed cells (Number n) c = refl
length_changed cells (IdAt k) c = length-set cells k c
length_changed cells (StrAt k) c = length-set cells k c
length_changed cells (PairAt k) c = length-set cells k c
length_changed cells (VectorAt k) c = length-set cells k c
length_changed cells (BigAt k) c = length-set cells k c
length_changed cells (FunAt k) c = length-set cells k c

-- cells that keep the blocks keep the names
pub making_blocks : IsKept → (w : World) (cells : CellStore) (counts : WorldCounts) → KeepsIdentifiers w.cells.cells cells.cells → length w.cells.cells ≤ length cells.cells → IsTable w.cells.cells w.syms.head → IsMaking w (record w { cells = cells; counts = counts })
making_blocks kept w cells counts blocks longer table = record {
  world = refl;
  live = blocks.live;
  longer = longer;
  names = λ bytes id h. kept.names w.cells.cells cells.cells w.syms.head bytes id blocks table h;
}

-- a new object that is no block
pub making_grown : IsKept → LeaveIdentifiers → (w : World) (c : Cell) (counts : WorldCounts) → words_of_id c ≡ None → IsTable w.cells.cells w.syms.head → IsMaking w (record w { cells = grown w.cells c; counts = counts })
making_grown kept leave w c counts none table =
    making_blocks kept w (grown w.cells c) counts (leave.made w.cells.cells c none) (simp length-append (omega arith)) table

-- and the names are still a table
pub table_grown : IsKept → LeaveIdentifiers → (w : World) (c : Cell) → words_of_id c ≡ None → IsTable w.cells.cells w.syms.head → IsTable (grown w.cells c).cells w.syms.head
table_grown kept leave w c none table = kept.table w.cells.cells (grown w.cells c).cells w.syms.head (leave.made w.cells.cells c none) table

-- a pair with another car or cdr
pub making_changed : IsKept → LeaveIdentifiers → (w : World) (p a d : Tagged) → is_pair w.cells.cells p ≡ true → IsTable w.cells.cells w.syms.head → IsMaking w (record w { cells = record w.cells { cells = changed_at w.cells.cells p (PairCell a d) } })
making_changed kept leave w p a d pair table =
    making_blocks kept w (record w.cells { cells = changed_at w.cells.cells p (PairCell a d) }) w.counts (leave.pair w.cells.cells p a d pair) (omega (arith, length_changed w.cells.cells p (PairCell a d))) table

-- and the names are still a table
pub table_changed : IsKept → LeaveIdentifiers → (w : World) (p a d : Tagged) → is_pair w.cells.cells p ≡ true → IsTable w.cells.cells w.syms.head → IsTable (changed_at w.cells.cells p (PairCell a d)) w.syms.head
table_changed kept leave w p a d pair table = kept.table w.cells.cells (changed_at w.cells.cells p (PairCell a d)) w.syms.head (leave.pair w.cells.cells p a d pair) table

-- a vector with as many other values
pub making_vector : IsKept → LeaveIdentifiers → (w : World) (v : Tagged) (xs : List Tagged) → is_vector w.cells.cells v ≡ true → length xs ≡ length (vector_of w.cells.cells v) → IsTable w.cells.cells w.syms.head → IsMaking w (record w { cells = record w.cells { cells = changed_at w.cells.cells v (VectorCell xs) } })
making_vector kept leave w v xs vector long table =
    making_blocks kept w (record w.cells { cells = changed_at w.cells.cells v (VectorCell xs) }) w.counts (leave.vector w.cells.cells v xs vector long) (omega (arith, length_changed w.cells.cells v (VectorCell xs))) table

-- and the names are still a table
pub table_vector : IsKept → LeaveIdentifiers → (w : World) (v : Tagged) (xs : List Tagged) → is_vector w.cells.cells v ≡ true → length xs ≡ length (vector_of w.cells.cells v) → IsTable w.cells.cells w.syms.head → IsTable (changed_at w.cells.cells v (VectorCell xs)) w.syms.head
table_vector kept leave w v xs vector long table = kept.table w.cells.cells (changed_at w.cells.cells v (VectorCell xs)) w.syms.head (leave.vector w.cells.cells v xs vector long) table

-- ---- what is ready for making stays so

-- what is made counts as before
counted_more : (aside : Option Aside) (e : Option Expansion) (mark : Option ℕ) (cost : ℕ) → IsMakingCounted aside e mark → IsMakingCounted aside (with_cells cost e) mark
counted_more None e mark cost h = tt
counted_more (Some a) None mark cost h = absurd h
counted_more (Some a) (Some e) None cost h = absurd h
counted_more (Some a) (Some e) (Some mark) cost h = tt

-- where there is room, the cells have it
pub room_enough : AreMakingLaws → (w : World) (cost : ℕ) → CanMake w → room_stop w.counts w.cells cost ≡ None → has_room w.cells cost ≡ true
room_enough laws w cost able e = laws.enough w.counts w.cells cost able.bounds able.counted e

-- what answers Ok where there is room does so
pub ok_with_room : {T E : Type 0} (r : Result T E) (b : Bool) → OnErr r (b ≡ false) → b ≡ true → is_ok r ≡ true
ok_with_room (Ok x) b h t = refl
ok_with_room (Err e) b h t = absurd (let f : b ≡ false = h in cc)

-- an object was made for which room was asked
pub able_grown : AreMakingLaws → (w : World) (c : Cell) → words_of_id c ≡ None → 0 < cost_of c → CanMake w → AreReadyToMake (grown w.cells c) w.syms.head (roomed w.counts (cost_of c))
able_grown laws w c none some able = record {
  table = table_grown laws.kept laws.leave w c none able.table;
  bounds = laws.bounds.made w.counts w.cells c some able.bounds;
  counted = counted_more w.counts.aside w.counts.outermost w.cells.mark (cost_of c) able.counted;
}

-- a pair was changed
pub able_changed : AreMakingLaws → (w : World) (p a d : Tagged) → is_pair w.cells.cells p ≡ true → CanMake w → AreReadyToMake (record w.cells { cells = changed_at w.cells.cells p (PairCell a d) }) w.syms.head w.counts
able_changed laws w p a d pair able = record {
  table = table_changed laws.kept laws.leave w p a d pair able.table;
  bounds = laws.bounds.changed w.counts w.cells (changed_at w.cells.cells p (PairCell a d)) (length_changed w.cells.cells p (PairCell a d)) able.bounds;
  counted = able.counted;
}

-- a vector was changed
pub able_vector : AreMakingLaws → (w : World) (v : Tagged) (xs : List Tagged) → is_vector w.cells.cells v ≡ true → length xs ≡ length (vector_of w.cells.cells v) → CanMake w → AreReadyToMake (record w.cells { cells = changed_at w.cells.cells v (VectorCell xs) }) w.syms.head w.counts
able_vector laws w v xs vector long able = record {
  table = table_vector laws.kept laws.leave w v xs vector long able.table;
  bounds = laws.bounds.changed w.counts w.cells (changed_at w.cells.cells v (VectorCell xs)) (length_changed w.cells.cells v (VectorCell xs)) able.bounds;
  counted = able.counted;
}

-- room that was taken twice
with_cells_twice : (e : Option Expansion) (a b : ℕ) → with_cells b (with_cells a e) ≡ with_cells (a + b) e
with_cells_twice None a b = refl
with_cells_twice (Some e) a b = ap (λ (n : ℕ). Some (record e { cells = n })) (omega arith)

-- an identifier was made: a string and a block
pub able_entered : AreMakingLaws → (w : World) (name : List ℕ) (plist : Tagged) (head : Option Tagged) → IsTable (with_id w.cells name plist w.syms.head).cells head → CanMake w → AreReadyToMake (with_id w.cells name plist w.syms.head) head (roomed w.counts (id_cost name))
able_entered laws w name plist head table able =
    let text : Cell = StrCell name in
    let block : Cell = BlockCell tag.Id (new_words (StrAt (length w.cells.cells)) plist w.syms.head) in
    let first : BoundsAgree (roomed w.counts (cost_of text)) (grown w.cells text) = laws.bounds.made w.counts w.cells text (omega arith) able.bounds in
    let both : BoundsAgree (roomed (roomed w.counts (cost_of text)) (cost_of block)) (with_id w.cells name plist w.syms.head) = laws.bounds.made (roomed w.counts (cost_of text)) (grown w.cells text) block (omega arith) first in
    record {
      table = table;
      bounds = subst (λ (e : Option Expansion). BoundsAgree (record w.counts { outermost = e }) (with_id w.cells name plist w.syms.head)) (with_cells_twice w.counts.outermost (cost_of text) (cost_of block)) both;
      counted = counted_more w.counts.aside w.counts.outermost w.cells.mark (id_cost name) able.counted;
    }

-- what lives does so with another value at a place
pub put_live : LeaveIdentifiers → (cells : List Cell) (v x : Tagged) (i : ℕ) → is_vector cells v ≡ true → (u : Tagged) → is_live cells u ≡ true → is_live (changed_at cells v (VectorCell (slice_set (vector_of cells v) i x))) u ≡ true
put_live leave cells v x i vector = (leave.vector cells v (slice_set (vector_of cells v) i x) vector (length-set (vector_of cells v) i x)).live
