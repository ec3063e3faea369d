-- What is taken of a text, one call after another.
use Rattle.std.proofs.Common.{◌≡◌, ℕ, ◌+◌, List, [], ◌++◌, length, refl, sym, ap, ◌∙◌, subst, append_assoc, length-append, arith}
use Rattle.rl_world.specs.Input.{with_back}
use Rattle.rl_read.specs.Taken.{Unread, came_of, MayCome, TakesBytes}
use Rattle.rl_read.proofs.ToldByCalls.{told_first, told_through}

-- nothing was taken
pub takes_first : (a : Unread) (P : List ℕ → List ℕ → Type 0) → ((bytes : List ℕ) → P bytes bytes) → TakesBytes a a P
takes_first a P f = record {
  bytes = [];
  told = told_first a.left (λ before now. before ≡ [] ++ now) (λ bytes. refl);
  dry = told_first a.left (λ before now. MayCome a before → MayCome a now) (λ bytes h. h);
  ended = λ e. (refl, e);
  counted = λ few. omega arith;
  means = λ rest h. f (with_back a.returned rest);
}

-- what was taken first, and then
pub takes_then : (a b c : Unread) (P Q R : List ℕ → List ℕ → Type 0) → ((x y z : List ℕ) → P x y → Q y z → R x z) → TakesBytes a b P → TakesBytes b c Q → TakesBytes a c R
takes_then a b c P Q R f p q = record {
  bytes = p.bytes ++ q.bytes;
  told = told_through a.left b.left c.left _ _ _ (λ x y z e d. e ∙ ap (λ bytes. p.bytes ++ bytes) d ∙ sym (append_assoc p.bytes q.bytes z)) p.told q.told;
  dry = told_through a.left b.left c.left _ _ _ (λ x y z e d h. d (e h)) p.dry q.dry;
  ended = λ e. let first = p.ended e in let then = q.ended first.1 in (ap (λ bytes. bytes ++ q.bytes) first.0 ∙ then.0, then.1);
  counted = λ few.
      let long : length (p.bytes ++ q.bytes) ≡ length p.bytes + length q.bytes = length-append p.bytes q.bytes in
      let first : came_of b ≡ came_of a + length p.bytes = p.counted (omega (arith, few, long)) in
      let then : came_of c ≡ came_of b + length q.bytes = q.counted (omega (arith, few, long, first)) in
      omega (arith, long, first, then);
  means = λ rest h.
      let later : MayCome b (q.bytes ++ rest) = λ e. let then = q.ended e in ap (λ bytes. bytes ++ rest) then.0 ∙ h then.1 in
      f _ _ _ (subst (λ bytes. P (with_back a.returned bytes) (with_back b.returned (q.bytes ++ rest))) (sym (append_assoc p.bytes q.bytes rest)) (p.means (q.bytes ++ rest) later)) (q.means rest h);
}
