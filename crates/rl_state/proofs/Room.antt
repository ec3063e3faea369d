-- Turns and room: what a world counts is what the definition counts.
use Rattle.std.proofs.Common.{◌≡◌, ℕ, suc, ◌+◌, ◌-◌, ◌^◌, ◌<◌, ◌≤◌, Bool, true, false, nat_le, nat_lt, cond, List, length, Option, Some, None, Ok, Err, refl, sym, ap, subst, ◌∙◌, arith}
use Rattle.std.proofs.lemmas.Bool.{leb-true, leb-false, le-leb, lt-leb, ltb-true, ltb-false}
use Rattle.std.specs.Option.{ForSome}
use Rattle.rl_tags.specs.Tagged.{index_of}
use Rattle.rl_syms.specs.Table.{is_id}
use Rattle.rl_cells.specs.Cell.{Cell, has_room, room_in, used_of}
use Rattle.rl_cells.specs.Cell as cell
use Rattle.rl_world.specs.Counts as counted
use Rattle.rl_world.specs.Bounds.{AreBoundsKept, BoundsAgree, IsMakingCounted, RoomIsEnough}
use Rattle.rl_world.specs.Counts.{cells_bound_at, cells_stop, cells_taken, room_stop, room_stop_at, roomed, tick_stop, tick_stop_at, ticked, count_turns_left, turns_left_at, with_cells}
use Rattle.rl_world.specs.declared.counts.Expansion as expansion
use Rattle.rl_world.specs.declared.stop.Stop as stops
use Rattle.rl_world.specs.declared.stop.Stop.TheVariants as stop
use Rattle.rl_world.specs.declared.world.World.{World}
use Rattle.rl_meaning.specs.State.{State, Counts, Expansion}
use Rattle.rl_meaning.specs.Outcome.{Outcome, Done, Stopped, Cells, room, turn, cells_within, expansion_within, run_room, run_turn, expansion_turn}
use Rattle.rl_syms.specs.Contents.{ids_before}
use Rattle.rl_state.specs.ShownState.{ShowsState, counts_in, expansion_in, given_in, turns_in}
use Rattle.rl_state.specs.Worlds.{IsWorld, AreWorldCounts, WorldGrows}
use Rattle.rl_state.specs.Ending.{StopsWith, MeansDone, stop_in}
use Rattle.rl_state.proofs.Outer.{grows_counted, shows_counted}

-- what is left of turns and cells
abbrev pub left : ℕ → ℕ → ℕ → Option Expansion → Counts
left g t c e = record { given = g; turns = t; cells = Some c; expansion = e }

-- the turns and the cells that are left, with the cells that a new object takes
abbrev pub left_behind : cell.CellStore → counted.WorldCounts → ℕ → Option Expansion → Counts
left_behind c k cost e = left (given_in k.opening k.bound) (turns_in k.opening k.bound k.turns) (cells_bound_at k.opening k.cells_bound - (cells_taken k.opening c + cost)) e

pub left_in : (c : cell.CellStore) (k : counted.WorldCounts) → AreWorldCounts c k
    → counts_in c k ≡ left (given_in k.opening k.bound) (turns_in k.opening k.bound k.turns) (cells_bound_at k.opening k.cells_bound - cells_taken k.opening c) (expansion_in c.cells k.open_count k.outermost)
left_in c k r = rw r.together refl

abbrev with_counts : State → Counts → State
with_counts s q = record s { counts = q }

fits : (used cost bound : ℕ) → used + cost ≤ bound → nat_le cost (bound - used) ≡ true
fits used cost bound l = le-leb cost (bound - used) (omega arith)

full : (used cost bound : ℕ) → 0 < cost → bound < used + cost → nat_le cost (bound - used) ≡ false
full used cost bound p l = lt-leb cost (bound - used) (omega arith)

-- ---- room

cells_done : {A : Type 0} (g : ℕ) (used cost bound t : ℕ) (e : Option Expansion) (s : State) (next : State → Outcome A) → cells_stop None used cost bound ≡ None
    → run_room (Some (bound - used)) cost (with_counts s (left g t (bound - used) e)) next ≡ next (with_counts s (left g t (bound - (used + cost)) e))
cells_done {A} g used cost bound t e s next h = go (nat_le (used + cost) bound) refl h
  where
    go : (b : Bool) → nat_le (used + cost) bound ≡ b → cond b None (Some stop.Cells) ≡ None → run_room (Some (bound - used)) cost (with_counts s (left g t (bound - used) e)) next ≡ next (with_counts s (left g t (bound - (used + cost)) e))
    go true is h =
        let within : used + cost ≤ bound = leb-true (used + cost) bound is in
        let rest : bound - used - cost ≡ bound - (used + cost) = omega arith in
        ap (λ b. cells_within b (bound - used - cost) (with_counts s (left g t (bound - used) e)) next) (fits used cost bound within) ∙ ap (λ c. next (with_counts s (left g t c e))) rest
    go false is h = absurd (cc)

cells_full : {A : Type 0} (used cost bound : ℕ) (q : Counts) (s : State) (next : State → Outcome A) (why : stops.Stop) → 0 < cost → cells_stop None used cost bound ≡ Some why
    → (run_room (Some (bound - used)) cost (with_counts s q) next ≡ Stopped Cells (with_counts s q)) × (why ≡ stop.Cells)
cells_full {A} used cost bound q s next why p h = go (nat_le (used + cost) bound) refl h
  where
    go : (b : Bool) → nat_le (used + cost) bound ≡ b → cond b None (Some stop.Cells) ≡ Some why → (run_room (Some (bound - used)) cost (with_counts s q) next ≡ Stopped Cells (with_counts s q)) × (why ≡ stop.Cells)
    go true is h = absurd (cc)
    go false is h = (ap (λ b. cells_within b (bound - used - cost) (with_counts s q) next) (full used cost bound p (leb-false (used + cost) bound is)), cc)

abbrev meant : List Cell → ℕ → expansion.Expansion → ℕ → Expansion
meant cells inner e c = record { macro = ids_before cells (index_of e.name); inner_count = inner - 1; turns = 100000 - e.turns; cells = c }

room_done_at : {A : Type 0} (g : ℕ) (cells : List Cell) (inner : ℕ) (outer : Option expansion.Expansion) (used cost bound t : ℕ) (s : State) (next : State → Outcome A) → room_stop_at outer None used cost bound ≡ None
    → room cost (with_counts s (left g t (bound - used) (expansion_in cells inner outer))) next ≡ next (with_counts s (left g t (bound - (used + cost)) (expansion_in cells inner (with_cells cost outer))))
room_done_at g cells inner None used cost bound t s next h = cells_done g used cost bound t None s next h
room_done_at {A} g cells inner (Some e) used cost bound t s next h = go (nat_le (e.cells + cost) 1000000) refl h
  where
    go : (b : Bool) → nat_le (e.cells + cost) 1000000 ≡ b → cond b (cells_stop None used cost bound) (Some (stop.Expansion e.name)) ≡ None
        → room cost (with_counts s (left g t (bound - used) (expansion_in cells inner (Some e)))) next ≡ next (with_counts s (left g t (bound - (used + cost)) (expansion_in cells inner (with_cells cost (Some e)))))
    go true is h =
        let within : e.cells + cost ≤ 1000000 = leb-true (e.cells + cost) 1000000 is in
        let rest : 1000000 - e.cells - cost ≡ 1000000 - (e.cells + cost) = omega arith in
        ap (λ b. expansion_within b (meant cells inner e (1000000 - e.cells)) cost (with_counts s (left g t (bound - used) (expansion_in cells inner (Some e)))) (λ s. run_room s.counts.cells cost s next)) (fits e.cells cost 1000000 within)
        ∙ ap (λ c. run_room (Some (bound - used)) cost (with_counts s (left g t (bound - used) (Some (meant cells inner e c)))) next) rest
        ∙ cells_done g used cost bound t _ s next h
    go false is h = absurd (cc)

room_full_at : {A : Type 0} (g : ℕ) (cells : List Cell) (inner : ℕ) (outer : Option expansion.Expansion) (used cost bound t : ℕ) (s : State) (next : State → Outcome A) (why : stops.Stop) → 0 < cost → room_stop_at outer None used cost bound ≡ Some why
    → StopsWith s (room cost (with_counts s (left g t (bound - used) (expansion_in cells inner outer))) next) (stop_in cells why)
room_full_at g cells inner None used cost bound t s next why p h =
    let f = cells_full used cost bound (left g t (bound - used) None) s next why p h in
    record { state = _; is = f.0 ∙ ap (λ y. Stopped (stop_in cells y) (with_counts s (left g t (bound - used) None))) (sym f.1); good = record { functions = record { functions = refl; compilation = refl }; bindings = record { entries = refl; hidden = λ i b h. refl }; outside = refl } }
room_full_at {A} g cells inner (Some e) used cost bound t s next why p h = go (nat_le (e.cells + cost) 1000000) refl h
  where
    go : (b : Bool) → nat_le (e.cells + cost) 1000000 ≡ b → cond b (cells_stop None used cost bound) (Some (stop.Expansion e.name)) ≡ Some why
        → StopsWith s (room cost (with_counts s (left g t (bound - used) (expansion_in cells inner (Some e)))) next) (stop_in cells why)
    go true is h =
        let f = cells_full used cost bound (left g t (bound - used) (Some (meant cells inner e (1000000 - e.cells - cost)))) s next why p h in
        record {
          state = _;
          is = ap (λ b. expansion_within b (meant cells inner e (1000000 - e.cells)) cost (with_counts s (left g t (bound - used) (expansion_in cells inner (Some e)))) (λ s. run_room s.counts.cells cost s next)) (fits e.cells cost 1000000 (leb-true (e.cells + cost) 1000000 is))
              ∙ f.0 ∙ ap (λ y. Stopped (stop_in cells y) (with_counts s (left g t (bound - used) (Some (meant cells inner e (1000000 - e.cells - cost)))))) (sym f.1);
          good = record { functions = record { functions = refl; compilation = refl }; bindings = record { entries = refl; hidden = λ i b h. refl }; outside = refl };
        }
    go false is h =
        let y : stop.Expansion e.name ≡ why = cc in
        record {
          state = with_counts s (left g t (bound - used) (expansion_in cells inner (Some e)));
          is = ap (λ b. expansion_within b (meant cells inner e (1000000 - e.cells)) cost (with_counts s (left g t (bound - used) (expansion_in cells inner (Some e)))) (λ s. run_room s.counts.cells cost s next)) (full e.cells cost 1000000 p (leb-false (e.cells + cost) 1000000 is))
              ∙ ap (λ y. Stopped (stop_in cells y) (with_counts s (left g t (bound - used) (expansion_in cells inner (Some e))))) y;
          good = record { functions = record { functions = refl; compilation = refl }; bindings = record { entries = refl; hidden = λ i b h. refl }; outside = refl };
        }

-- what is left behind an object of this cost
abbrev pub roomed_in : cell.CellStore → counted.WorldCounts → ℕ → Counts
roomed_in c k cost = left_behind c k cost (expansion_in c.cells k.open_count (with_cells cost k.outermost))

pub room_done : {A : Type 0} (c : cell.CellStore) (k : counted.WorldCounts) (cost : ℕ) (s : State) (next : State → Outcome A) → AreWorldCounts c k → s.counts ≡ counts_in c k → room_stop k c cost ≡ None
    → room cost s next ≡ next (record s { counts = roomed_in c k cost })
room_done {A} c k cost s next r e h =
    let taken = cells_taken k.opening c in
    let bound = cells_bound_at k.opening k.cells_bound in
    let stop : room_stop_at k.outermost None taken cost bound ≡ None = rw r.together at h in
    ap (λ q. room cost (with_counts s q) next) (e ∙ left_in c k r) ∙ room_done_at (given_in k.opening k.bound) c.cells k.open_count k.outermost taken cost bound (turns_in k.opening k.bound k.turns) s next stop

pub room_full : {A : Type 0} (c : cell.CellStore) (k : counted.WorldCounts) (cost : ℕ) (s : State) (next : State → Outcome A) (why : stops.Stop) → AreWorldCounts c k → s.counts ≡ counts_in c k → 0 < cost → room_stop k c cost ≡ Some why
    → StopsWith s (room cost s next) (stop_in c.cells why)
room_full {A} c k cost s next why r e p h =
    let taken = cells_taken k.opening c in
    let bound = cells_bound_at k.opening k.cells_bound in
    let stop : room_stop_at k.outermost None taken cost bound ≡ Some why = rw r.together at h in
    let f = room_full_at (given_in k.opening k.bound) c.cells k.open_count k.outermost taken cost bound (turns_in k.opening k.bound k.turns) s next why p stop in
    record { state = f.state; is = ap (λ q. room cost (with_counts s q) next) (e ∙ left_in c k r) ∙ f.is; good = f.good }

-- where room is counted, the cells have it
pub room_fits : RoomIsEnough → (c : cell.CellStore) (k : counted.WorldCounts) (cost : ℕ) → AreWorldCounts c k → room_stop k c cost ≡ None → has_room c cost ≡ true
room_fits enough c k cost r h = enough k c cost r.bounds (subst (λ a. IsMakingCounted a k.outermost c.mark) (sym r.together) tt) h

-- ---- turns

abbrev turns_after : Option expansion.Expansion → ℕ → ℕ
turns_after None turns = turns + 1
turns_after (Some e) turns = turns

abbrev outer_after : Option expansion.Expansion → Option expansion.Expansion
outer_after None = None
outer_after (Some e) = Some (record e { turns = e.turns + 1 })

turn_done_at : {A : Type 0} (g : ℕ) (cells : List Cell) (inner : ℕ) (outer : Option expansion.Expansion) (turns bound c : ℕ) (s : State) (next : State → Outcome A) → tick_stop_at None outer turns bound ≡ None
    → turn (with_counts s (left g (bound - turns) c (expansion_in cells inner outer))) next ≡ next (with_counts s (left g (bound - turns_after outer turns) c (expansion_in cells inner (outer_after outer))))
turn_done_at {A} g cells inner None turns bound c s next h = go (nat_lt turns bound) refl h
  where
    go : (b : Bool) → nat_lt turns bound ≡ b → cond b None (Some stop.Turns) ≡ None → turn (with_counts s (left g (bound - turns) c None)) next ≡ next (with_counts s (left g (bound - (turns + 1)) c None))
    go true is h =
        let l : turns < bound = ltb-true turns bound is in
        let e : bound - turns ≡ suc (bound - (turns + 1)) = omega arith in
        ap (λ t. run_turn t (with_counts s (left g t c None)) next) e
    go false is h = absurd (cc)
turn_done_at {A} g cells inner (Some x) turns bound c s next h = go (nat_lt x.turns 100000) refl h
  where
    go : (b : Bool) → nat_lt x.turns 100000 ≡ b → cond b None (Some (stop.Expansion x.name)) ≡ None
        → turn (with_counts s (left g (bound - turns) c (expansion_in cells inner (Some x)))) next ≡ next (with_counts s (left g (bound - turns) c (expansion_in cells inner (outer_after (Some x)))))
    go true is h =
        let l : x.turns < 100000 = ltb-true x.turns 100000 is in
        let e : 100000 - x.turns ≡ suc (100000 - (x.turns + 1)) = omega arith in
        ap (λ t. expansion_turn t (record (meant cells inner x (1000000 - x.cells)) { turns = t }) (with_counts s (left g (bound - turns) c (Some (record (meant cells inner x (1000000 - x.cells)) { turns = t })))) next) e
    go false is h = absurd (cc)

turn_full_at : {A : Type 0} (g : ℕ) (cells : List Cell) (inner : ℕ) (outer : Option expansion.Expansion) (turns bound c : ℕ) (s : State) (next : State → Outcome A) (why : stops.Stop) → tick_stop_at None outer turns bound ≡ Some why
    → StopsWith s (turn (with_counts s (left g (bound - turns) c (expansion_in cells inner outer))) next) (stop_in cells why)
turn_full_at {A} g cells inner None turns bound c s next why h = go (nat_lt turns bound) refl h
  where
    go : (b : Bool) → nat_lt turns bound ≡ b → cond b None (Some stop.Turns) ≡ Some why → StopsWith s (turn (with_counts s (left g (bound - turns) c None)) next) (stop_in cells why)
    go true is h = absurd (cc)
    go false is h =
        let l : bound ≤ turns = ltb-false turns bound is in
        let e : bound - turns ≡ 0 = omega arith in
        let y : stop.Turns ≡ why = cc in
        record {
          state = with_counts s (left g 0 c None);
          is = ap (λ t. run_turn t (with_counts s (left g t c None)) next) e ∙ ap (λ y. Stopped (stop_in cells y) (with_counts s (left g 0 c None))) y;
          good = record { functions = record { functions = refl; compilation = refl }; bindings = record { entries = refl; hidden = λ i b h. refl }; outside = refl };
        }
turn_full_at {A} g cells inner (Some x) turns bound c s next why h = go (nat_lt x.turns 100000) refl h
  where
    go : (b : Bool) → nat_lt x.turns 100000 ≡ b → cond b None (Some (stop.Expansion x.name)) ≡ Some why
        → StopsWith s (turn (with_counts s (left g (bound - turns) c (expansion_in cells inner (Some x)))) next) (stop_in cells why)
    go true is h = absurd (cc)
    go false is h =
        let l : 100000 ≤ x.turns = ltb-false x.turns 100000 is in
        let e : 100000 - x.turns ≡ 0 = omega arith in
        let y : stop.Expansion x.name ≡ why = cc in
        record {
          state = with_counts s (left g (bound - turns) c (Some (record (meant cells inner x (1000000 - x.cells)) { turns = 0 })));
          is = ap (λ t. expansion_turn t (record (meant cells inner x (1000000 - x.cells)) { turns = t }) (with_counts s (left g (bound - turns) c (Some (record (meant cells inner x (1000000 - x.cells)) { turns = t })))) next) e
              ∙ ap (λ y. Stopped (stop_in cells y) (with_counts s (left g (bound - turns) c (Some (record (meant cells inner x (1000000 - x.cells)) { turns = 0 }))))) y;
          good = record { functions = record { functions = refl; compilation = refl }; bindings = record { entries = refl; hidden = λ i b h. refl }; outside = refl };
        }

-- the counts of a run, and those of opening
left_run : (c : cell.CellStore) (k : counted.WorldCounts) → AreWorldCounts c k → k.opening ≡ None → counts_in c k ≡ left k.bound (k.bound - k.turns) (k.cells_bound - used_of c) (expansion_in c.cells k.open_count k.outermost)
left_run c k r o = rw (o, r.together) refl

left_opening : (c : cell.CellStore) (k : counted.WorldCounts) (n : ℕ) → AreWorldCounts c k → k.opening ≡ Some n → counts_in c k ≡ left 1000000 (1000000 - n) (65536 - length c.cells) None
left_opening c k n r o = rw (o, r.together, r.unexpanded n o) refl

running_ticked_at : (c : cell.CellStore) (k : counted.WorldCounts) (o : Option ℕ) (e : Option expansion.Expansion) → AreWorldCounts c k → k.opening ≡ o → BoundsAgree (counted.ticked_at o e k) c → AreWorldCounts c (counted.ticked_at o e k)
running_ticked_at c k (Some n) e r is b = record { bounds = b; together = r.together; unexpanded = λ m h. r.unexpanded n is; untaken = λ m h. r.untaken n is; few = r.few }
running_ticked_at c k None (Some e) r is b = record { bounds = b; together = r.together; unexpanded = λ m h. absurd (let f : None ≡ Some m = sym is ∙ h in cc); untaken = r.untaken; few = r.few }
running_ticked_at c k None None r is b = record { bounds = b; together = r.together; unexpanded = r.unexpanded; untaken = λ m h. absurd (let f : None ≡ Some m = sym is ∙ h in cc); few = r.few }

pub running_ticked : AreBoundsKept → (c : cell.CellStore) (k : counted.WorldCounts) → AreWorldCounts c k → AreWorldCounts c (ticked k)
running_ticked law c k r = running_ticked_at c k k.opening k.outermost r refl (law.ticked k c r.bounds)

-- the counts after a turn, of a run and of opening
ticked_at_in : (c : cell.CellStore) (k : counted.WorldCounts) (e : Option expansion.Expansion) → AreWorldCounts c k → k.opening ≡ None → k.outermost ≡ e
    → counts_in c (counted.ticked_at None e k) ≡ left k.bound (k.bound - turns_after e k.turns) (k.cells_bound - used_of c) (expansion_in c.cells k.open_count (outer_after e))
ticked_at_in c k None r o is = rw (o, r.together, is) refl
ticked_at_in c k (Some x) r o is = rw (o, r.together) refl

ticked_run : (c : cell.CellStore) (k : counted.WorldCounts) → AreWorldCounts c k → k.opening ≡ None
    → counts_in c (ticked k) ≡ left k.bound (k.bound - turns_after k.outermost k.turns) (k.cells_bound - used_of c) (expansion_in c.cells k.open_count (outer_after k.outermost))
ticked_run c k r o = ap (λ o. counts_in c (counted.ticked_at o k.outermost k)) o ∙ ticked_at_in c k k.outermost r o refl

ticked_opening : (c : cell.CellStore) (k : counted.WorldCounts) (n : ℕ) → AreWorldCounts c k → k.opening ≡ Some n → counts_in c (ticked k) ≡ left 1000000 (1000000 - (n + 1)) (65536 - length c.cells) None
ticked_opening c k n r o =
    let after : counts_in c (counted.ticked_at (Some n) k.outermost k) ≡ left 1000000 (1000000 - (n + 1)) (65536 - length c.cells) None = rw (r.together, r.unexpanded n o) refl in
    ap (λ o. counts_in c (counted.ticked_at o k.outermost k)) o ∙ after

pub turn_done : {A : Type 0} (c : cell.CellStore) (k : counted.WorldCounts) (s : State) (next : State → Outcome A) → AreWorldCounts c k → s.counts ≡ counts_in c k → tick_stop k ≡ None
    → turn s next ≡ next (record s { counts = counts_in c (ticked k) })
turn_done {A} c k s next r e h = go k.opening refl
  where
    go : (o : Option ℕ) → k.opening ≡ o → turn s next ≡ next (record s { counts = counts_in c (ticked k) })
    go None o =
        let stop : tick_stop_at None k.outermost k.turns k.bound ≡ None = rw o at h in
        ap (λ q. turn (with_counts s q) next) (e ∙ left_run c k r o) ∙ turn_done_at k.bound c.cells k.open_count k.outermost k.turns k.bound (k.cells_bound - used_of c) s next stop
        ∙ ap (λ q. next (with_counts s q)) (sym (ticked_run c k r o))
    go (Some n) o =
        let stop : tick_stop_at None None n 1000000 ≡ None = rw o at h in
        ap (λ q. turn (with_counts s q) next) (e ∙ left_opening c k n r o) ∙ turn_done_at 1000000 c.cells k.open_count None n 1000000 (65536 - length c.cells) s next stop
        ∙ ap (λ q. next (with_counts s q)) (sym (ticked_opening c k n r o))

pub turn_full : {A : Type 0} (c : cell.CellStore) (k : counted.WorldCounts) (s : State) (next : State → Outcome A) (why : stops.Stop) → AreWorldCounts c k → s.counts ≡ counts_in c k → tick_stop k ≡ Some why
    → StopsWith s (turn s next) (stop_in c.cells why)
turn_full {A} c k s next why r e h = go k.opening refl
  where
    go : (o : Option ℕ) → k.opening ≡ o → StopsWith s (turn s next) (stop_in c.cells why)
    go None o =
        let stop : tick_stop_at None k.outermost k.turns k.bound ≡ Some why = rw o at h in
        let f = turn_full_at k.bound c.cells k.open_count k.outermost k.turns k.bound (k.cells_bound - used_of c) s next why stop in
        record { state = f.state; is = ap (λ q. turn (with_counts s q) next) (e ∙ left_run c k r o) ∙ f.is; good = f.good }
    go (Some n) o =
        let stop : tick_stop_at None None n 1000000 ≡ Some why = rw o at h in
        let f = turn_full_at 1000000 c.cells k.open_count None n 1000000 (65536 - length c.cells) s next why stop in
        record { state = f.state; is = ap (λ q. turn (with_counts s q) next) (e ∙ left_opening c k n r o) ∙ f.is; good = f.good }

pub turn_means : (w x : World) → x ≡ record w { counts = ticked w.counts } → IsWorld w → tick_stop w.counts ≡ None → (s : State) → ShowsState w s → MeansDone s (turn s (λ t. Done tt t)) (Ok tt) x
turn_means w x e i h s shown = subst (λ y. MeansDone s (turn s (λ t. Done tt t)) (Ok tt) y) (sym e) (record {
  state = record s { counts = counts_in w.cells (ticked w.counts) };
  is = turn_done w.cells w.counts s (λ t. Done tt t) i.running shown.counts h;
  good = record {
    shows = shows_counted w w.cells.count (ticked w.counts) s (counts_in w.cells (ticked w.counts)) s.compilation refl shown;
    stays = record { functions = record { functions = refl; compilation = refl }; bindings = record { entries = refl; hidden = λ i b h. refl }; outside = refl };
  };
})

expanding_ticked_at : (cells : List Cell) (k : counted.WorldCounts) (o : Option ℕ) (outer : Option expansion.Expansion) → k.outermost ≡ outer → ForSome k.outermost (λ e. is_id cells e.name ≡ true)
    → ForSome (counted.ticked_at o outer k).outermost (λ e. is_id cells e.name ≡ true)
expanding_ticked_at cells k (Some n) outer is h = h
expanding_ticked_at cells k None None is h = h
expanding_ticked_at cells k None (Some e) is h = λ x same. let q : record e { turns = e.turns + 1 } ≡ x = cc in subst (λ (y : expansion.Expansion). is_id cells y.name ≡ true) q (h e is)

pub turn_grows : AreBoundsKept → (w x : World) → x ≡ record w { counts = ticked w.counts } → IsWorld w → WorldGrows w x
turn_grows law w x e i = subst (λ y. WorldGrows w y) (sym e)
    (grows_counted w w.cells.count (ticked w.counts) (running_ticked law w.cells w.counts i.running) (expanding_ticked_at w.cells.cells w.counts w.counts.opening w.counts.outermost refl i.expanding) i)

pub turn_stops : (w x : World) (why : stops.Stop) → x ≡ w → IsWorld w → tick_stop w.counts ≡ Some why → (s : State) → ShowsState w s → MeansDone s (turn s (λ t. Done tt t)) (Err why) x
turn_stops w x why e i h s shown = subst (λ y. MeansDone s (turn s (λ t. Done tt t)) (Err why) y) (sym e) (turn_full w.cells w.counts s (λ t. Done tt t) why i.running shown.counts h)

-- ---- the turns that are left

below_stop : (taken bound : ℕ) (why : stops.Stop) → cond (nat_lt taken bound) None (Some why) ≡ None → taken < bound
below_stop taken bound why h = go (nat_lt taken bound) refl h
  where
    go : (b : Bool) → nat_lt taken bound ≡ b → cond b None (Some why) ≡ None → taken < bound
    go true is h = ltb-true taken bound is
    go false is h = absurd (cc)

falls_at : (k : counted.WorldCounts) (o : Option ℕ) (e : Option expansion.Expansion) → k.opening ≡ o → k.outermost ≡ e → tick_stop_at o e k.turns k.bound ≡ None → turns_left_at o e k.turns k.bound ≡ count_turns_left (counted.ticked_at o e k) + 1
falls_at k (Some n) e o is h =
    let l = below_stop n 1000000 stop.Turns h in
    omega (arith, l)
falls_at k None None o is h =
    let now : count_turns_left (counted.ticked_at None None k) ≡ k.bound - (k.turns + 1) = ap (λ x. turns_left_at x k.outermost (k.turns + 1) k.bound) o ∙ ap (λ x. turns_left_at None x (k.turns + 1) k.bound) is in
    let l = below_stop k.turns k.bound stop.Turns h in
    omega (arith, now, l)
falls_at k None (Some x) o is h =
    let now : count_turns_left (counted.ticked_at None (Some x) k) ≡ 100000 - (x.turns + 1) = ap (λ y. turns_left_at y (Some (record x { turns = x.turns + 1 })) k.turns k.bound) o in
    let l = below_stop x.turns 100000 (stop.Expansion x.name) h in
    omega (arith, now, l)

pub turn_falls : (w x : World) → x ≡ record w { counts = ticked w.counts } → tick_stop w.counts ≡ None → count_turns_left w.counts ≡ count_turns_left x.counts + 1
turn_falls w x e h = falls_at w.counts w.counts.opening w.counts.outermost refl refl h ∙ ap (λ (y : World). count_turns_left y.counts + 1) (sym e)

pub few_left : (c : cell.CellStore) (k : counted.WorldCounts) → AreWorldCounts c k → count_turns_left k ≤ 2 ^ 59 - 1
few_left c k r = go k.opening k.outermost
  where
    go : (o : Option ℕ) (e : Option expansion.Expansion) → turns_left_at o e k.turns k.bound ≤ 2 ^ 59 - 1
    go (Some n) e = omega arith
    go None None = let f = r.few in omega (arith, f)
    go None (Some e) = omega arith
