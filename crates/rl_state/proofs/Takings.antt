-- Calls that take input, one after another.
use Rattle.std.proofs.Common.{◌≡◌, ℕ, true, List, [], ◌++◌, Option, refl, sym, ap, subst, ◌∙◌, append_assoc}
use Rattle.rl_io.specs.Told.{WhereTold}
use Rattle.rl_world.specs.Input.{Input}
use Rattle.rl_meaning.specs.State.{State}
use Rattle.rl_state.specs.Ties.{ToldAtStart, WorldAndTold, EndsTied, TakesNothing, TakesInput, ThenHolds, Ties}
use Rattle.rl_state.proofs.ToldOn.{told_first, told_through}

pub takes_then : (a b c : WorldAndTold) (R : State → State → Type 0) (P : ToldAtStart → List ℕ → State → Type 0) → TakesInput a b (EndsTied R b) → TakesInput b c P → TakesInput a c (ThenHolds R P)
takes_then a b c R P g h = record {
  bytes = g.bytes ++ h.bytes;
  told = told_through a.source b.source c.source (λ before now. before ≡ g.bytes ++ now) (λ before now. before ≡ h.bytes ++ now) (λ before now. before ≡ (g.bytes ++ h.bytes) ++ now)
      (λ x y z p q. p ∙ ap (λ l. g.bytes ++ l) q ∙ sym (append_assoc g.bytes h.bytes z)) g.told h.told;
  dry = told_through a.source b.source c.source
      (λ before now. (a.world.input.ended ≡ true → before ≡ []) → b.world.input.ended ≡ true → now ≡ [])
      (λ before now. (b.world.input.ended ≡ true → before ≡ []) → c.world.input.ended ≡ true → now ≡ [])
      (λ before now. (a.world.input.ended ≡ true → before ≡ []) → c.world.input.ended ≡ true → now ≡ [])
      (λ x y z p q. λ f. q (p f)) g.dry h.dry;
  ended = λ t.
      let first = g.ended t in
      let second = h.ended first.1 in
      (ap (λ (l : List ℕ). l ++ h.bytes) first.0 ∙ second.0, second.1);
  means = λ at rest s t only.
      let r = g.means at (h.bytes ++ rest) s (subst (λ (l : List ℕ). Ties at a l s) (append_assoc g.bytes h.bytes rest) t)
      (λ e. let second = h.ended e in ap (λ (l : List ℕ). l ++ rest) second.0 ∙ only second.1) in
      record { mid = r.0; first = r.1; second = h.means at rest r.0 r.2 only };
}

pub takes_kept : (a b c : WorldAndTold) (P Q : ToldAtStart → List ℕ → State → Type 0) → TakesInput a b P → TakesNothing b c → ((at : ToldAtStart) (rest : List ℕ) (s : State) → P at rest s → Q at rest s) → TakesInput a c Q
takes_kept a b c P Q h u f = record {
  bytes = h.bytes;
  told = subst (λ (t : Option (List ℕ)). WhereTold a.source t (λ before now. before ≡ h.bytes ++ now)) (sym u.source) h.told;
  dry = subst (λ (t : Option (List ℕ)). WhereTold a.source t (λ before now. (a.world.input.ended ≡ true → before ≡ []) → c.world.input.ended ≡ true → now ≡ [])) (sym u.source)
      (subst (λ (n : Input). WhereTold a.source b.source (λ before now. (a.world.input.ended ≡ true → before ≡ []) → n.ended ≡ true → now ≡ [])) (sym u.input) h.dry);
  ended = λ t. let r = h.ended t in (r.0, ap (λ (n : Input). n.ended) u.input ∙ r.1);
  means = λ at rest s t only. f at rest s (h.means at rest s t (λ e. only (ap (λ (n : Input). n.ended) u.input ∙ e)));
}

pub takes_none : (a : WorldAndTold) (P : ToldAtStart → List ℕ → State → Type 0) → ((at : ToldAtStart) (rest : List ℕ) (s : State) → Ties at a rest s → P at rest s) → TakesInput a a P
takes_none a P f = record {
  bytes = [];
  told = told_first a.source (λ before now. before ≡ now) (λ x. refl);
  dry = told_first a.source (λ before now. (a.world.input.ended ≡ true → before ≡ []) → a.world.input.ended ≡ true → now ≡ []) (λ x f. f);
  ended = λ t. (refl, t);
  means = λ at rest s t only. f at rest s t;
}
