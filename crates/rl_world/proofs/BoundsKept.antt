-- Each call keeps the bounds, and where there is room the cells have it.
use Rattle.std.proofs.Common.{◌≡◌, ℕ, ◌+◌, ◌<◌, ◌≤◌, Bool, true, false, cond, nat_le, List, ◌++◌, length, Option, Some, None, refl, sym, subst, arith}
use Rattle.std.specs.Prelude.{IsSome, ◌==◌}
use Rattle.std.proofs.lemmas.Bool.{leb-true, le-leb}
use Rattle.rl_tags.specs.Tagged.{Tagged}
use Rattle.rl_cells.specs.Cell.{CellStore, Cell, cost_of, grown, has_room, more_counted, placed, room_in, take_cells}
use Rattle.rl_cells.specs.Laws.{IsAdded}
use Rattle.rl_syms.specs.Made.{IsOpening}
use Rattle.rl_world.specs.Bounds.{AreBoundsKept, AreSpareCounted, BoundsAgree, IsMakingCounted, IsSpareFree, OpenTogether, RoomIsEnough}
use Rattle.rl_world.specs.Counts.{WorldCounts, begun, cells_bound_at, cells_stop, cells_taken, counts_at_opening, expansion_ended, outermost_with, rejoined, room_stop_at, roomed, set_aside, ticked, ticked_at, with_cells}
use Rattle.rl_world.specs.declared.counts.Aside.{Aside}
use Rattle.rl_world.specs.declared.counts.Expansion.{Expansion}
use Rattle.rl_world.specs.declared.stop.Stop.{Stop}

cond_none : (b : Bool) (x : Option Stop) (s : Stop) → cond b x (Some s) ≡ None → (b ≡ true) × (x ≡ None)
cond_none true x s h = (refl, h)
cond_none false x s h = absurd (cc)

-- ---- where there is room the cells have it

run_enough : (o count : Option ℕ) (cells : List Cell) (bound cost : ℕ) → OpenTogether o count → cells_stop None (cells_taken o (record { cells = cells; bound = bound; count = count; mark = None })) cost (cells_bound_at o bound) ≡ None → room_in count None (length cells) bound cost ≡ true
run_enough None None cells bound cost t h = absurd t
run_enough None (Some used) cells bound cost t h = (cond_none (nat_le (used + cost) bound) None _ h).0
run_enough (Some ticks) None cells bound cost t h = (cond_none (nat_le (length cells + cost) 65536) None _ h).0
run_enough (Some ticks) (Some used) cells bound cost t h = absurd t

spare_within : (n mark spent cost : ℕ) → n ≤ mark + spent → nat_le (spent + cost) 1000000 ≡ true → nat_le (n + cost) (mark + 1000000) ≡ true
spare_within n mark spent cost l h =
    let within : spent + cost ≤ 1000000 = leb-true (spent + cost) 1000000 h in
    le-leb (n + cost) (mark + 1000000) (omega (arith, l, within))

spare_enough : (count : Option ℕ) (mark n bound spent cost : ℕ) → n ≤ mark + spent → nat_le (spent + cost) 1000000 ≡ true → room_in count (Some mark) n bound cost ≡ true
spare_enough None mark n bound spent cost l h = spare_within n mark spent cost l h
spare_enough (Some used) mark n bound spent cost l h = spare_within n mark spent cost l h

enough : (o : Option ℕ) (e : Option Expansion) (a : Option Aside) (count mark : Option ℕ) (cells : List Cell) (bound cost : ℕ) → OpenTogether o count → AreSpareCounted a e mark (length cells) → IsMakingCounted a e mark
    → room_stop_at e a (cells_taken o (record { cells = cells; bound = bound; count = count; mark = mark })) cost (cells_bound_at o bound) ≡ None → room_in count mark (length cells) bound cost ≡ true
enough o None None count None cells bound cost t s m h = run_enough o count cells bound cost t h
enough o (Some e) None count None cells bound cost t s m h = run_enough o count cells bound cost t (cond_none (nat_le (e.cells + cost) 1000000) _ _ h).1
enough o e None count (Some mark) cells bound cost t s m h = absurd s
enough o None (Some a) count mark cells bound cost t s m h = absurd m
enough o (Some e) (Some a) count None cells bound cost t s m h = absurd m
enough o (Some e) (Some a) count (Some mark) cells bound cost t s m h = spare_enough count mark (length cells) bound e.cells cost s (cond_none (nat_le (e.cells + cost) 1000000) _ _ h).0

pub room_enough : RoomIsEnough
room_enough c s cost b m h =
    let P : ℕ → Type 0 = λ n. room_stop_at c.outermost c.aside (cells_taken c.opening s) cost (cells_bound_at c.opening n) ≡ None in
    enough c.opening c.outermost c.aside s.count s.mark s.cells s.bound cost b.together b.spare m (subst P (sym b.bound) h)

-- ---- each call keeps the bounds

ticked_agrees : (o : Option ℕ) (e : Option Expansion) (c : WorldCounts) (s : CellStore) → c.opening ≡ o → c.outermost ≡ e → BoundsAgree c s → BoundsAgree (ticked_at o e c) s
ticked_agrees (Some n) e c s ho he b = record { bound = b.bound; together = together s.count (rw ho at b.together); spare = b.spare }
  where
    together : (count : Option ℕ) → OpenTogether (Some n) count → OpenTogether (Some (n + 1)) count
    together None h = tt
    together (Some used) h = absurd h
ticked_agrees None (Some e) c s ho he b = record { bound = b.bound; together = b.together; spare = spare c.aside s.mark (rw he at b.spare) }
  where
    spare : (a : Option Aside) (mark : Option ℕ) → AreSpareCounted a (Some e) mark (length s.cells) → AreSpareCounted a (Some (record e { turns = e.turns + 1 })) mark (length s.cells)
    spare a None h = tt
    spare None (Some m) h = absurd h
    spare (Some a) (Some m) h = h
ticked_agrees None None c s ho he b = record { bound = b.bound; together = b.together; spare = b.spare }

-- with other cells and another expansion, which takes no less
spare_grows : (a : Option Aside) (e : Option Expansion) (mark : Option ℕ) (n more cost : ℕ) → more ≤ n + cost → AreSpareCounted a e mark n → AreSpareCounted a (with_cells cost e) mark more
spare_grows a e None n more cost l h = tt
spare_grows None e (Some m) n more cost l h = absurd h
spare_grows (Some a) None (Some m) n more cost l h = tt
spare_grows (Some a) (Some e) (Some m) n more cost l h = omega (arith, l, h)

together_counted : (o count mark : Option ℕ) (cost : ℕ) → OpenTogether o count → OpenTogether o (more_counted count mark cost)
together_counted o None None cost h = h
together_counted o (Some used) None cost h = counted o h
  where
    counted : (o : Option ℕ) → OpenTogether o (Some used) → OpenTogether o (Some (used + cost))
    counted None h = tt
    counted (Some n) h = absurd h
together_counted o None (Some m) cost h = h
together_counted o (Some used) (Some m) cost h = h

spare_begun : (a : Option Aside) (e : Option Expansion) (mark : Option ℕ) (n : ℕ) (name : Tagged) → IsSpareFree mark n → AreSpareCounted a e mark n → AreSpareCounted a (outermost_with name e) mark n
spare_begun a e None n name f h = tt
spare_begun None e (Some m) n name f h = absurd h
spare_begun (Some a) None (Some m) n name f h = omega (arith, f)
spare_begun (Some a) (Some e) (Some m) n name f h = h

spare_ended : (last : Bool) (a : Option Aside) (e : Option Expansion) (mark : Option ℕ) (n : ℕ) → AreSpareCounted a e mark n → AreSpareCounted a (cond last None e) mark n
spare_ended false a e mark n h = h
spare_ended true a e None n h = tt
spare_ended true None e (Some m) n h = absurd h
spare_ended true (Some a) e (Some m) n h = tt

spare_marked : (a : Option Aside) (e : Option Expansion) (n : ℕ) → IsSome a → AreSpareCounted a e (Some n) n
spare_marked None e n h = absurd (cc)
spare_marked (Some a) None n h = tt
spare_marked (Some a) (Some e) n h = omega arith

spare_without : (a : Option Aside) (e : Option Expansion) (mark : Option ℕ) (n : ℕ) → mark ≡ None → AreSpareCounted a e mark n
spare_without a e mark n h = rw h tt

pub bounds_kept : IsAdded → AreBoundsKept
bounds_kept law = record {
  opening = λ s turns bound o. record { bound = o.bound_is; together = rw o.count tt; spare = spare_without None None s.mark (length s.cells) o.mark };
  opened = λ c s b h. record { bound = b.bound; together = tt; spare = b.spare };
  ticked = λ c s b. ticked_agrees c.opening c.outermost c s refl refl b;
  made = λ c s object some b.
      let long : length (s.cells ++ placed object) ≡ length s.cells + cost_of object = law.long s.cells object some in
      record {
        bound = b.bound;
        together = together_counted c.opening s.count s.mark (cost_of object) b.together;
        spare = spare_grows c.aside c.outermost s.mark (length s.cells) (length (s.cells ++ placed object)) (cost_of object) (omega (arith, long)) b.spare;
      };
  unmade = λ c s cost b. record { bound = b.bound; together = b.together; spare = spare_grows c.aside c.outermost s.mark (length s.cells) (length s.cells) cost (omega arith) b.spare };
  changed = λ c s cells long b. record { bound = b.bound; together = b.together; spare = rw long b.spare };
  begun = λ c s name free b. record { bound = b.bound; together = b.together; spare = spare_begun c.aside c.outermost s.mark (length s.cells) name free b.spare };
  ended = λ c s b. record { bound = b.bound; together = b.together; spare = spare_ended (c.open_count == 1) c.aside c.outermost s.mark (length s.cells) b.spare };
  apart = λ c s h b. record { bound = b.bound; together = b.together; spare = spare_without (set_aside c).aside None s.mark (length s.cells) h };
  rejoined = λ c s a h b. record { bound = b.bound; together = b.together; spare = spare_without None a.outermost s.mark (length s.cells) h };
  marked = λ c s some b. record { bound = b.bound; together = b.together; spare = spare_marked c.aside c.outermost (length s.cells) some };
  released = λ c s mark b. record { bound = b.bound; together = b.together; spare = tt };
}
