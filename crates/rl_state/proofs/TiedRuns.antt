-- A whole run: what it took and printed, in no state.
use Rattle.std.proofs.Common.{arith, ◌≡◌, ℕ, ◌+◌, ◌<◌, ◌^◌, true, false, List, [], ◌++◌, length, Option, None, refl, sym, ap, subst, ◌∙◌, append-nil}
use Rattle.rl_io.specs.Told.{WhereTold}
use Rattle.rl_world.specs.Input.{Input, with_back}
use Rattle.rl_meaning.specs.State.{State}
use Rattle.rl_syms.specs.Numbers.{IdentifiersAreNumbered}
use Rattle.rl_state.specs.StateOfWorld.{state_in}
use Rattle.rl_state.specs.Ties.{IsPrintedBefore, Ties, WorldAndTold, with_coming}
use Rattle.rl_state.specs.TiesLaws.{NothingWaits, RunsAreTied}
use Rattle.rl_state.proofs.Totals.{shown}
use Rattle.rl_state.proofs.ToldOn.{told_first, told_mapped}
use Rattle.rl_state.proofs.TiedBytes.{coming_shows}

abbrev fresh : Input
fresh = record { back = None; given = 0; ended = false }

-- where nothing waits, nothing was printed
nothing_yet : (start : Option (List ℕ)) (waiting : List ℕ) → waiting ≡ [] → IsPrintedBefore start start waiting []
nothing_yet start waiting e = subst (λ (l : List ℕ). IsPrintedBefore start start l []) (sym e) (told_first start (λ before held. before ++ [] ≡ held ++ []) (λ x. refl))

tie_start : (law : IdentifiersAreNumbered) (a : WorldAndTold) (coming : List ℕ) → NothingWaits a → a.world.input ≡ fresh → length coming < 2 ^ 64
    → Ties (record { out = a.out; notes = a.notes; source = None }) a coming (with_coming a.world coming)
unfolding state_in
tie_start law a coming empty new few = record {
  shows = coming_shows (shown law) a.world coming;
  output = nothing_yet a.out a.world.output.waiting empty.output;
  notes = nothing_yet a.notes a.world.notes empty.notes;
  input = refl;
  left = tt;
  ended = λ t. absurd (let f : false ≡ true = sym (ap (λ (n : Input). n.ended) new) ∙ t in cc);
  few = subst (λ (n : Input). n.given + length (with_back n.back coming) < 2 ^ 64) (sym new) (omega (arith, few));
}

-- where nothing waits, all that was printed is there
all_there : (old now : Option (List ℕ)) (waiting output : List ℕ) → waiting ≡ [] → IsPrintedBefore old now waiting output → WhereTold old now (λ before now. now ≡ before ++ output)
all_there old now waiting output empty h =
    told_mapped old now (λ before held. before ++ output ≡ held ++ waiting) (λ before now. now ≡ before ++ output)
    (λ before held e. sym (append-nil held) ∙ ap (λ (l : List ℕ). held ++ l) (sym empty) ∙ sym e) h

pub whole_run : (law : IdentifiersAreNumbered) (R : State → State → Type 0) → RunsAreTied R
whole_run law R a b empty new done h = record {
  bytes = h.bytes;
  taken = h.told;
  ends = λ few.
      let r = h.means (record { out = a.out; notes = a.notes; source = None }) [] (with_coming a.world (h.bytes ++ [])) (tie_start law a (h.bytes ++ []) empty new (subst (λ (l : List ℕ). length l < 2 ^ 64) (sym (append-nil h.bytes)) few)) (λ t. refl) in
      let runs : R (with_coming a.world h.bytes) r.0 = subst (λ (l : List ℕ). R (with_coming a.world l) r.0) (append-nil h.bytes) r.1 in
      record {
        state = r.0;
        runs = runs;
        printed = all_there a.out b.out b.world.output.waiting r.0.outside.output done.output r.2.output;
        noted = all_there a.notes b.notes b.world.notes r.0.outside.notes done.notes r.2.notes;
      };
}
