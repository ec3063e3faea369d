-- A world in which something was printed is one that grew.
use Rattle.std.proofs.Common.{ℕ, zero, suc, ◌≤◌, length, ap, refl, sym, subst, ◌∙◌}
use Rattle.rl_world.specs.Bounds.{AreBoundsKept}
use Rattle.rl_world.specs.Counts.{CountsAreTaken, TakesTurnsAndCells, WorldCounts, ticked}
use Rattle.rl_world.specs.Output.{Output}
use Rattle.rl_world.specs.declared.world.World.{World}
use Rattle.rl_print.specs.Counted.{ticks}
use Rattle.rl_print.specs.Walk.{IsPrinting}
use Rattle.rl_state.specs.Worlds.{IsWorld, PrintsAlone, WorldGrows}
use Rattle.rl_state.proofs.Made.{grows_refl}
use Rattle.rl_state.proofs.Outer.{grows_levels}
use Rattle.rl_state.proofs.Room.{turn_grows}
use Rattle.rl_state.proofs.Steps.{grows_trans}

ticks_grow : AreBoundsKept → (n : ℕ) (w : World) → IsWorld w → WorldGrows w (record w { counts = ticks n w.counts })
ticks_grow law zero w i = grows_refl w w refl i
ticks_grow law (suc n) w i =
    let one = turn_grows law w (record w { counts = ticked w.counts }) refl i in
    grows_trans w (record w { counts = ticked w.counts }) _ one (ticks_grow law n (record w { counts = ticked w.counts }) one.world)

pub printing_grows : AreBoundsKept → (base : ℕ) (w x : World) → IsPrinting base w x → x.levels.level ≤ x.levels.bound → IsWorld w → WorldGrows w x
printing_grows law base w x p le i =
    let page : Output = record w.output { waiting = x.output.waiting; column = x.output.column } in
    let ticked_ = ticks_grow law p.ticked.number w i in
    grows_trans w (record w { counts = ticks p.ticked.number w.counts }) x ticked_ (grows_levels (record w { counts = ticks p.ticked.number w.counts }) x x.levels page w.notes w.input (p.world ∙ ap (λ (k : WorldCounts). record w { counts = k; levels = x.levels; output = page }) p.ticked.counts) le ticked_.world)

takes_ticks : CountsAreTaken → (n : ℕ) (k : WorldCounts) → TakesTurnsAndCells k (ticks n k)
takes_ticks law zero k = law.none k
takes_ticks law (suc n) k = law.both k (ticked k) (ticks n (ticked k)) (law.turn k) (takes_ticks law n (ticked k))

pub prints_alone : CountsAreTaken → (w x : World) → IsPrinting (length w.levels.walk) w x → PrintsAlone w x
prints_alone law w x p = record {
  rest = p.world;
  counts = subst (λ (k : WorldCounts). TakesTurnsAndCells w.counts k) (sym p.ticked.counts) (takes_ticks law p.ticked.number w.counts);
  steady = p.steady;
}
