-- A byte that is put back.
use Rattle.std.proofs.Common.{arith, ◌≡◌, ℕ, suc, ◌+◌, ◌-◌, ◌≤◌, ◌<◌, ◌^◌, true, List, [], ◌∷◌, length, drop, Option, Some, None, refl, sym, ap, subst, ◌∙◌}
use Rattle.rl_world.specs.Input.{Input, with_back}
use Rattle.rl_world.specs.declared.world.World.{World}
use Rattle.rl_meaning.specs.State.{State}
use Rattle.rl_io.specs.Told.{WhereTold}
use Rattle.rl_state.specs.Ties.{ToldAtStart, WorldAndTold, EndsTied, GivesNext, SeesNext, TakesInput, Ties, after_byte, and_told, given_back}
use Rattle.rl_state.proofs.Outer.{shows_outer}

back_few : (taken given n : ℕ) → 1 ≤ given → taken ≡ given → taken + n < 2 ^ 64 → (taken - 1) + suc n < 2 ^ 64
back_few taken given n one e h = omega (arith, one, e, h)

pub back_ties : (at : ToldAtStart) (w x : World) (o n i : Option (List ℕ)) (b : ℕ) (coming : List ℕ) (s : State) → w.input.back ≡ None → 1 ≤ w.input.given
    → x ≡ record w { input = record w.input { back = Some b; given = w.input.given - 1 } } → Ties at (and_told w o n i) coming s → Ties at (and_told x o n i) coming (given_back b s)
back_ties at w x o n i b coming s none one e h = subst (λ (y : World). Ties at (and_told y o n i) coming (given_back b s)) (sym e) (record {
  shows = shows_outer w w.levels w.output w.notes (record w.input { back = Some b; given = w.input.given - 1 }) s (given_back b s).outside s.watched h.shows.column h.shows.line_length (ap (λ n. n - 1) h.shows.taken) h.shows;
  output = h.output;
  notes = h.notes;
  input = ap (λ (l : List ℕ). b ∷ l) (h.input ∙ ap (λ (k : Option ℕ). with_back k coming) none);
  left = h.left;
  ended = h.ended;
  few = back_few s.outside.taken w.input.given (length s.outside.input) one h.shows.taken h.few;
})

abbrev at_input : State → List ℕ → ℕ → State
at_input s input taken = record s { outside = record s.outside { input = input; taken = taken } }

count_back : (t n : ℕ) → (t + (suc n - n)) - 1 ≡ t
count_back t n = omega arith

back_same : (s : State) (b : ℕ) (rest : List ℕ) → s.outside.input ≡ b ∷ rest → given_back b (after_byte (Some b) s) ≡ s
back_same s b rest e =
    ap (λ (l : List ℕ). at_input s (b ∷ drop 1 l) ((s.outside.taken + (length l - length (drop 1 l))) - 1)) e
    ∙ ap (at_input s (b ∷ rest)) (count_back s.outside.taken (length rest))
    ∙ ap (λ (l : List ℕ). at_input s l s.outside.taken) (sym e)

pub sees : (a c : WorldAndTold) (x : World) (o n i : Option (List ℕ)) (first : Option ℕ) (b : ℕ) → first ≡ Some b → TakesInput a c (EndsTied (GivesNext first) c) → c ≡ and_told c.world o n i
    → x ≡ record c.world { input = record c.world.input { back = Some b; given = c.world.input.given - 1 } }
    → ((at : ToldAtStart) (coming : List ℕ) (s : State) → Ties at c coming s → Ties at (and_told x o n i) coming (given_back b s))
    → TakesInput a (and_told x c.out c.notes c.source) (EndsTied (SeesNext (Some b)) (and_told x o n i))
sees a c x o n i first b e h is world back = record {
  bytes = h.bytes;
  told = h.told;
  dry = subst (λ (y : World). WhereTold a.source c.source (λ before now. (a.world.input.ended ≡ true → before ≡ []) → y.input.ended ≡ true → now ≡ [])) (sym world) h.dry;
  ended = λ t. let r = h.ended t in (r.0, ap (λ (y : World). y.input.ended) world ∙ r.1);
  means = λ at rest s t only.
      let r = subst (λ (k : Option ℕ). EndsTied (GivesNext k) c at rest s) e (h.means at rest s t (λ f. only (ap (λ (y : World). y.input.ended) world ∙ f))) in
      (s, (r.1.0, refl), subst (λ (y : State). Ties at (and_told x o n i) rest y) (ap (given_back b) r.1.1 ∙ back_same s b r.1.0.0 r.1.0.1) (back at rest r.0 r.2));
}

-- a call that changes the input alone, and then a byte that is put back
pub still_input_alone : (w mid x : World) (place : Input) → mid ≡ record w { output = record w.output { waiting = [] }; input = mid.input } → x ≡ record mid { input = place } → x ≡ record w { output = record w.output { waiting = [] }; input = x.input }
still_input_alone w mid x place e f =
    f ∙ ap (λ (y : World). record y { input = place }) e
    ∙ ap (λ (k : Input). record w { output = record w.output { waiting = [] }; input = k }) (sym (ap (λ (y : World). y.input) f))
