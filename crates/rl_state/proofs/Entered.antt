-- Levels are entered and left: the world shows the same states.
use Rattle.std.proofs.Common.{◌≡◌, ℕ, ◌+◌, ◌-◌, ◌≤◌, Bool, true, false, nat_le, cond, Some, None, Ok, Err, refl, sym, ap, subst, ◌∙◌, arith}
use Rattle.std.proofs.lemmas.Bool.{leb-true, leb-false, le-leb, lt-leb}
use Rattle.rl_world.specs.Levels.{WorldLevels, enter_stop}
use Rattle.rl_world.specs.declared.stop.Stop as stops
use Rattle.rl_world.specs.declared.stop.Stop.TheVariants as stop
use Rattle.rl_world.specs.declared.world.World.{World}
use Rattle.rl_meaning.specs.State.{State}
use Rattle.rl_meaning.specs.Outcome.{Done, Stopped, in_levels, deeper}
use Rattle.rl_state.specs.ShownState.{ShowsState}
use Rattle.rl_state.specs.Worlds.{IsWorld, WorldGrows}
use Rattle.rl_state.specs.Ending.{stop_in}
use Rattle.rl_state.specs.Descents.{MeansLevels, levels_shown}
use Rattle.rl_state.proofs.Outer.{grows_levels, shows_outer, stays_still}

shows_levels : (w : World) (l : WorldLevels) (s : State) → ShowsState w s → ShowsState (record w { levels = l }) s
shows_levels w l s h = shows_outer w l w.output w.notes w.input s s.outside s.watched h.column h.line_length h.taken h

pub levels_grow : (w x : World) (l : WorldLevels) → x ≡ record w { levels = l } → IsWorld w → l.level ≤ l.bound → WorldGrows w x
levels_grow w x l e i h = grows_levels w x l w.output w.notes w.input e h i

pub levels_show : (w x : World) (l : WorldLevels) → x ≡ record w { levels = l } → (s : State) → ShowsState w s → ShowsState x s
levels_show w x l e s h = subst (λ y. ShowsState y s) (sym e) (shows_levels w l s h)

-- what was not refused is within the bound
pub entered_within : (l : WorldLevels) (n : ℕ) → enter_stop l n ≡ None → l.level + n ≤ l.bound
entered_within l n h = go (nat_le (l.level + n) l.bound) refl h
  where
    go : (b : Bool) → nat_le (l.level + n) l.bound ≡ b → cond b None (Some stop.Depth) ≡ None → l.level + n ≤ l.bound
    go true e h = leb-true (l.level + n) l.bound e
    go false e h = absurd (cc)

pub deeper_done : (w x : World) (n : ℕ) (l : WorldLevels) → x ≡ record w { levels = l } → l.level ≡ w.levels.level + n → l.bound ≡ w.levels.bound → enter_stop w.levels n ≡ None
    → (s : State) → ShowsState w s → MeansLevels s (deeper n (levels_shown w) s (λ l. Done l s)) (Ok tt) x
deeper_done w x n l e entered bound h s shown =
    let within = entered_within w.levels n h in
    let fits : nat_le n (w.levels.bound - w.levels.level) ≡ true = le-leb n (w.levels.bound - w.levels.level) (omega (arith, within)) in
    let rest : w.levels.bound - w.levels.level - n ≡ l.bound - l.level = omega (arith, entered, bound) in
    subst (λ y. MeansLevels s (deeper n (levels_shown w) s (λ l. Done l s)) (Ok tt) y) (sym e) (record {
      state = s;
      is = ap (λ b. in_levels b (w.levels.bound - w.levels.level - n) s (λ l. Done l s)) fits ∙ ap (λ k. Done (Some k) s) rest;
      good = record { shows = shows_levels w l s shown; stays = stays_still s s.store s.watched };
    })

pub deeper_stops : (w x : World) (n : ℕ) (why : stops.Stop) → x ≡ w → IsWorld w → enter_stop w.levels n ≡ Some why
    → (s : State) → ShowsState w s → MeansLevels s (deeper n (levels_shown w) s (λ l. Done l s)) (Err why) x
deeper_stops w x n why e i h s shown = go (nat_le (w.levels.level + n) w.levels.bound) refl h
  where
    go : (b : Bool) → nat_le (w.levels.level + n) w.levels.bound ≡ b → cond b None (Some stop.Depth) ≡ Some why → MeansLevels s (deeper n (levels_shown w) s (λ l. Done l s)) (Err why) x
    go true is h = absurd (cc)
    go false is h =
        let past = leb-false (w.levels.level + n) w.levels.bound is in
        let l = i.levels in
        let full : nat_le n (w.levels.bound - w.levels.level) ≡ false = lt-leb n (w.levels.bound - w.levels.level) (omega (arith, past, l)) in
        let y : stop.Depth ≡ why = cc in
        record {
          state = s;
          is = ap (λ b. in_levels b (w.levels.bound - w.levels.level - n) s (λ l. Done l s)) full ∙ ap (λ y. Stopped (stop_in x.cells.cells y) s) y;
          good = stays_still s s.store s.watched;
        }
