-- What reading a form keeps, one call after another.
use Rattle.std.proofs.Common.{◌≡◌, ℕ, ◌-◌, List, length, drop, refl, sym, ap, ◌∙◌, subst, arith}
use Rattle.std.specs.Prelude.{Option}
use Rattle.rl_world.specs.Levels.{WorldLevels}
use Rattle.rl_world.specs.Walks.{IsSteady}
use Rattle.rl_world.specs.declared.world.World.{World}
use Rattle.rl_read.specs.Frames.{IsReading}
use Rattle.rl_read.specs.Reads.{KeepsByReading}

pub keeps_refl : (w : World) → KeepsByReading w w
keeps_refl w = record { world = refl; live = λ v h. h; names = λ bytes id h. h }

pub keeps_trans : (a b c : World) → KeepsByReading a b → KeepsByReading b c → KeepsByReading a c
keeps_trans a b c p q = record {
  world = q.world ∙ ap (λ (w : World). record w { cells = c.cells; syms = record w.syms { head = c.syms.head }; counts = c.counts; levels = c.levels; output = record w.output { waiting = c.output.waiting }; input = c.input }) p.world;
  live = λ v h. q.live v (p.live v h);
  names = λ bytes id h. q.names bytes id (p.names bytes id h);
}

-- a byte was given
pub keeps_given : (a b : World) → b ≡ record a { counts = b.counts; output = record a.output { waiting = b.output.waiting }; input = b.input } → KeepsByReading a b
keeps_given a b e = subst (λ (w : World). KeepsByReading a w) (sym e) (record { world = refl; live = λ v h. h; names = λ bytes id h. h })

-- a byte was put back
pub keeps_back : (a b : World) → b ≡ record a { input = b.input } → KeepsByReading a b
keeps_back a b e = subst (λ (w : World). KeepsByReading a w) (sym e) (record { world = refl; live = λ v h. h; names = λ bytes id h. h })

-- levels were left
pub keeps_levels : (a b : World) → b ≡ record a { levels = b.levels } → KeepsByReading a b
keeps_levels a b e = subst (λ (w : World). KeepsByReading a w) (sym e) (record { world = refl; live = λ v h. h; names = λ bytes id h. h })

-- a byte was read
pub keeps_read : (base : ℕ) (a b : World) → IsReading base a b → KeepsByReading a b
keeps_read base a b r = record {
  world = r.making.world ∙ sym (ap (λ (w : World). record a { cells = b.cells; syms = record a.syms { head = b.syms.head }; counts = b.counts; levels = b.levels; output = record a.output { waiting = w.output.waiting }; input = w.input }) r.making.world);
  live = r.making.live;
  names = r.making.names;
}

-- ---- levels

-- a walk that has left all its levels leaves them as they were
pub levels_back : (base : ℕ) (old new : WorldLevels) → base ≡ length old.walk → length new.walk ≡ base → IsSteady base old new → new ≡ old
levels_back base old new eo en s =
    let none_new : length new.walk - base ≡ 0 = omega (arith, en) in
    let none_old : length old.walk - base ≡ 0 = omega (arith, eo) in
    let walk : new.walk ≡ old.walk = ap (λ n. drop n new.walk) (sym none_new) ∙ (s.below ∙ ap (λ n. drop n old.walk) none_old) in
    let level : new.level ≡ old.level = omega (arith, s.level, eo, en) in
    ap (λ (w : List (ℕ × ℕ × ℕ)). record new { walk = w }) walk ∙ (ap (λ (n : ℕ). record new { walk = old.walk; level = n }) level
    ∙ (ap (λ (n : ℕ). record new { walk = old.walk; level = old.level; bound = n }) s.bound ∙ ap (λ (a : Option ℕ). record { bound = old.bound; level = old.level; walk = old.walk; aside = a }) s.aside))

-- the levels of a world that has the levels of another
pub steady_as : (base : ℕ) (old : WorldLevels) (mid new : World) → mid.levels ≡ new.levels → IsSteady base old mid.levels → IsSteady base old new.levels
steady_as base old mid new e s = subst (λ (l : WorldLevels). IsSteady base old l) e s

-- ---- what reading a byte leaves alone

pub read_input : (base : ℕ) (a b : World) → IsReading base a b → b.input ≡ a.input
read_input base a b r = ap (λ (w : World). w.input) r.making.world

pub read_waiting : (base : ℕ) (a b : World) → IsReading base a b → b.output.waiting ≡ a.output.waiting
read_waiting base a b r = ap (λ (w : World). w.output.waiting) r.making.world

pub left_input : (a b : World) → b ≡ record a { levels = b.levels } → b.input ≡ a.input
left_input a b e = ap (λ (w : World). w.input) e

pub left_waiting : (a b : World) → b ≡ record a { levels = b.levels } → b.output.waiting ≡ a.output.waiting
left_waiting a b e = ap (λ (w : World). w.output.waiting) e
