-- What stays as objects are made, and as a text is read.
use Rattle.std.proofs.Common.{◌≡◌, ℕ, ◌≤◌, List, [], ◌∷◌, length, true, refl, sym, ap, subst, ◌∙◌, arith}
use Rattle.std.specs.List.{AllByRecursion}
use Rattle.rl_tags.specs.Tagged.{Tagged, PairAt}
use Rattle.rl_cells.specs.Cell.{Cell, is_live, is_pair}
use Rattle.rl_world.specs.Levels.{WorldLevels}
use Rattle.rl_world.specs.declared.world.World.{World}
use Rattle.rl_read.specs.Frames.{CanMake, IsChain, IsGroup, IsKeptByReading, IsMaking, IsReading, IsReadyToRead, group_in}
use Rattle.rl_read.specs.Calls.{ChangesLevels}
use Rattle.rl_read.specs.declared.frames.Chain.{Chain}
use Rattle.rl_read.specs.declared.frames.Chain.TheVariants as chain
use Rattle.rl_read.specs.declared.frames.Group.{Group}
use Rattle.rl_read.specs.declared.frames.Group.TheVariants as group
use Rattle.rl_world.specs.Walks.{IsSteady, kept_above}

-- ---- making

pub making_refl : (w : World) → IsMaking w w
making_refl w = record { world = refl; live = λ v h. h; longer = omega arith; names = λ bytes id h. h }

pub making_trans : (a b c : World) → IsMaking a b → IsMaking b c → IsMaking a c
making_trans a b c p q = record {
  world = q.world ∙ ap (λ (w : World). record w { cells = c.cells; syms = record w.syms { head = c.syms.head }; counts = c.counts }) p.world;
  live = λ v h. q.live v (p.live v h);
  longer = omega (arith, p.longer, q.longer);
  names = λ bytes id h. q.names bytes id (p.names bytes id h);
}

pub making_levels : (a b : World) → IsMaking a b → b.levels ≡ a.levels
making_levels a b m = ap (λ (w : World). w.levels) m.world

-- what was a pair is one
pub pair_stays : (old new : List Cell) (v : Tagged) → ((v : Tagged) → is_live old v ≡ true → is_live new v ≡ true) → is_pair old v ≡ true → is_pair new v ≡ true
pair_stays old new (PairAt k) live h = live (PairAt k) h
pair_stays old new v live h = absurd cc

pub chain_stays : (old new : List Cell) (c : Chain) → ((v : Tagged) → is_live old v ≡ true → is_live new v ≡ true) → IsChain old c → IsChain new c
chain_stays old new chain.Empty live h = tt
chain_stays old new (chain.Pairs first last) live h = (pair_stays old new first live h.0, pair_stays old new last live h.1)

pub group_stays : (old new : List Cell) (g : Group) → ((v : Tagged) → is_live old v ≡ true → is_live new v ≡ true) → length old ≤ length new → IsGroup old g → IsGroup new g
group_stays old new group.Root live l h = tt
group_stays old new group.Quote live l h = tt
group_stays old new (group.Vector c) live l h = chain_stays old new c live h
group_stays old new (group.List c owed p) live l h = (chain_stays old new c live h.0, omega (arith, h.1))
group_stays old new (group.QuoteBehind c owed) live l h = (chain_stays old new c live h.0, omega (arith, h.1))
group_stays old new (group.VectorBehind v c owed) live l h = (chain_stays old new v live h.0, chain_stays old new c live h.1, omega (arith, h.2))

pub kept_stays : (old new : List Cell) (ts : List (ℕ × ℕ × ℕ)) → ((v : Tagged) → is_live old v ≡ true → is_live new v ≡ true) → length old ≤ length new → AllByRecursion (IsKeptByReading old) ts → AllByRecursion (IsKeptByReading new) ts
kept_stays old new [] live l h = tt
kept_stays old new (t ∷ ts) live l h = (record { group_is = group_stays old new (group_in t) live l h.0.group_is; inner = h.0.inner; owed = h.0.owed }, kept_stays old new ts live l h.1)

-- objects were made, and this has begun
pub ready_made : (base : ℕ) (old new : World) (g h : Group) → IsReadyToRead base old g → IsMaking old new → CanMake new → IsGroup new.cells.cells h → (h ≡ group.Root → length old.levels.walk ≡ base) → IsReadyToRead base new h
ready_made base old new g h r m able is root =
    let levels = making_levels old new m in
    record {
      able = able;
      above = rw levels r.above;
      kept = rw levels (kept_stays old.cells.cells new.cells.cells (kept_above base old.levels) m.live m.longer r.kept);
      group_is = is;
      root = λ e. rw levels (root e);
    }

-- and the same has begun
pub ready_stays : (base : ℕ) (old new : World) (g : Group) → IsReadyToRead base old g → IsMaking old new → CanMake new → IsReadyToRead base new g
ready_stays base old new g r m able = ready_made base old new g g r m able (group_stays old.cells.cells new.cells.cells g m.live m.longer r.group_is) r.root

-- ---- reading

pub steady_refl : (base : ℕ) (l : WorldLevels) → IsSteady base l l
steady_refl base l = record { below = refl; level = refl; bound = refl; aside = refl }

pub steady_trans : (base : ℕ) (a b c : WorldLevels) → IsSteady base a b → IsSteady base b c → IsSteady base a c
steady_trans base a b c p q = record {
  below = q.below ∙ p.below;
  level = omega (arith, p.level, q.level);
  bound = q.bound ∙ p.bound;
  aside = q.aside ∙ p.aside;
}

pub reading_refl : (base : ℕ) (w : World) → IsReading base w w
reading_refl base w = record { making = making_refl w; steady = steady_refl base w.levels }

pub reading_of_making : (base : ℕ) (a b : World) → IsMaking a b → IsReading base a b
reading_of_making base a b m =
    let levels = making_levels a b m in
    record {
      making = subst (λ (l : WorldLevels). IsMaking (record a { levels = l }) b) (sym levels) m;
      steady = subst (λ (l : WorldLevels). IsSteady base a.levels l) (sym levels) (steady_refl base a.levels);
    }

-- no level has changed
pub levels_same : (base : ℕ) (w : World) → ChangesLevels base w w
levels_same base w = record { world = refl; steady = steady_refl base w.levels }

-- levels alone have changed
pub reading_of_levels : (base : ℕ) (a b : World) → ChangesLevels base a b → IsReading base a b
reading_of_levels base a b l = record {
  making = rw (← l.world) (making_refl b);
  steady = l.steady;
}

pub reading_trans : (base : ℕ) (a b c : World) → IsReading base a b → IsReading base b c → IsReading base a c
reading_trans base a b c p q =
    let world : c ≡ record a { levels = c.levels; cells = c.cells; syms = record a.syms { head = c.syms.head }; counts = c.counts } =
    q.making.world ∙ ap (λ (w : World). record w { levels = c.levels; cells = c.cells; syms = record w.syms { head = c.syms.head }; counts = c.counts }) p.making.world in
    record {
      making = record {
        world = world;
        live = λ v h. q.making.live v (p.making.live v h);
        longer = omega (arith, p.making.longer, q.making.longer);
        names = λ bytes id h. q.making.names bytes id (p.making.names bytes id h);
      };
      steady = steady_trans base a.levels b.levels c.levels p.steady q.steady;
    }
