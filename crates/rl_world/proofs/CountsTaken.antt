-- Turns and cells that are taken, one after the other.
use Rattle.std.proofs.Common.{◌≡◌, ℕ, suc, ◌+◌, ◌≤◌, Option, Some, None, refl, sym, ap, ◌∙◌, arith}
use Rattle.rl_world.specs.Counts.{CountsAreTaken, TakesInExpansion, TakesTicks, TakesTurnsAndCells, WorldCounts, roomed, ticked, ticked_at, with_cells}
use Rattle.rl_world.specs.declared.counts.Expansion.{Expansion}

ticks_refl : (o : Option ℕ) → TakesTicks o o
ticks_refl None = tt
ticks_refl (Some n) = omega arith

within_refl : (o : Option Expansion) → TakesInExpansion o o
within_refl None = tt
within_refl (Some e) = (refl, omega arith, omega arith)

taken_refl : (c : WorldCounts) → TakesTurnsAndCells c c
taken_refl c = record { same = refl; opening = ticks_refl c.opening; turns = omega arith; untaken = λ n e. refl; expansion = within_refl c.outermost }

ticks_both : (a b c : Option ℕ) → TakesTicks a b → TakesTicks b c → TakesTicks a c
ticks_both None None c h g = g
ticks_both None (Some n) c h g = absurd h
ticks_both (Some m) None c h g = absurd h
ticks_both (Some m) (Some n) None h g = absurd g
ticks_both (Some m) (Some n) (Some k) h g = omega (arith, h, g)

within_both : (a b c : Option Expansion) → TakesInExpansion a b → TakesInExpansion b c → TakesInExpansion a c
within_both None None c h g = g
within_both None (Some n) c h g = absurd h
within_both (Some m) None c h g = absurd h
within_both (Some m) (Some n) None h g = absurd g
within_both (Some m) (Some n) (Some k) h g = let (x, t, u) = h in let (y, v, z) = g in (y ∙ x, omega (arith, t, v), omega (arith, u, z))

-- an opening goes on
ticks_some : (a b : Option ℕ) (n : ℕ) → a ≡ Some n → TakesTicks a b → (m : ℕ) × (b ≡ Some m)
ticks_some None b n e h = absurd (cc)
ticks_some (Some k) None n e h = absurd h
ticks_some (Some k) (Some m) n e h = (m, refl)

taken_both : (a b c : WorldCounts) → TakesTurnsAndCells a b → TakesTurnsAndCells b c → TakesTurnsAndCells a c
taken_both a b c h g = record {
  same = g.same ∙ ap (λ (k : WorldCounts). record k { opening = c.opening; turns = c.turns; outermost = c.outermost }) h.same;
  opening = ticks_both a.opening b.opening c.opening h.opening g.opening;
  turns = (let l = h.turns in let m = g.turns in omega (arith, l, m));
  untaken = λ n e. (let on = ticks_some a.opening b.opening n e h.opening in g.untaken on.0 on.1 ∙ h.untaken n e);
  expansion = within_both a.outermost b.outermost c.outermost h.expansion g.expansion;
}

taken_turn_at : (c : WorldCounts) (o : Option ℕ) (e : Option Expansion) → c.opening ≡ o → c.outermost ≡ e → TakesTurnsAndCells c (ticked_at o e c)
taken_turn_at c (Some n) e o is = record { same = refl; opening = rw o (omega arith); turns = omega arith; untaken = λ m e. refl; expansion = within_refl c.outermost }
taken_turn_at c None (Some e) o is = record { same = refl; opening = ticks_refl c.opening; turns = omega arith; untaken = λ m e. refl; expansion = rw is (refl, omega arith, omega arith) }
taken_turn_at c None None o is = record { same = refl; opening = ticks_refl c.opening; turns = omega arith; untaken = λ m e. absurd (let q = sym o ∙ e in cc); expansion = within_refl c.outermost }

within_cells : (o : Option Expansion) (cost : ℕ) → TakesInExpansion o (with_cells cost o)
within_cells None cost = tt
within_cells (Some e) cost = (refl, omega arith, omega arith)

pub counts_taken : CountsAreTaken
counts_taken = record {
  none = taken_refl;
  both = taken_both;
  turn = λ c. taken_turn_at c c.opening c.outermost refl refl;
  cells = λ c cost. record { same = refl; opening = ticks_refl c.opening; turns = omega arith; untaken = λ n e. refl; expansion = within_cells c.outermost cost };
}
