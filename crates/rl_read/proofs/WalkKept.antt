-- What reading keeps on the walk.
use Rattle.std.proofs.Common.{◌≡◌, ◌≢◌, ℕ, suc, ◌-◌, ◌≤◌, Bool, true, List, [], ◌∷◌, length, take, refl, sym, ap, subst, ◌∙◌, arith}
use Rattle.std.specs.List.{AllByRecursion}
use Rattle.rl_cells.specs.Cell.{Cell}
use Rattle.rl_tags.specs.Tagged.{Tagged}
use Rattle.rl_text.specs.Maker.{Maker}
use Rattle.rl_text.specs.Reader.{ReaderFrame, is_inner, left}
use Rattle.rl_world.specs.Levels.{WorldLevels}
use Rattle.rl_world.specs.declared.world.World.{World}
use Rattle.rl_world.specs.declared.stop.Stop.{Stop}
use Rattle.rl_read.specs.Stock.{Stock, in_stock, level_left, stock_of}
use Rattle.rl_read.specs.Stock as stock
use Rattle.rl_read.specs.Frames.{CanMake, IsGroup, IsKeptByReading, IsReadyToRead, behind_it, group_weight, frames_in, frames_kept, frames_of, group_in, is_inner_group}
use Rattle.rl_read.specs.declared.frames.Chain.{Chain}
use Rattle.rl_read.specs.declared.frames.Phase.TheVariants as phase
use Rattle.rl_read.specs.declared.frames.Group.{Group}
use Rattle.rl_read.specs.declared.frames.Group.TheVariants as group
use Rattle.rl_world.specs.Walks.{kept_above}

-- levels alone have changed, whatever they are now
pub levels_alone : (old new : World) (l : WorldLevels) → new ≡ record old { levels = l } → new ≡ record old { levels = new.levels }
levels_alone old new l e = e ∙ ap (λ (w : World). record old { levels = w.levels }) (sym e)

-- and where they have changed once more
pub levels_again : (a b c : World) (l : WorldLevels) → b ≡ record a { levels = b.levels } → c ≡ record b { levels = l } → c ≡ record a { levels = c.levels }
levels_again a b c l e d = levels_alone b c l d ∙ ap (λ (w : World). record w { levels = c.levels }) e

-- ---- one more is kept

-- more than the base were kept
pub left_more : (base : ℕ) (old new : WorldLevels) (t : ℕ × ℕ × ℕ) → base ≤ length old.walk → length old.walk ≢ base → old.walk ≡ t ∷ new.walk → base ≤ length new.walk
left_more base old new t above other popped =
    let long : length old.walk ≡ suc (length new.walk) = ap length popped in omega (arith, above, other, long)

-- it was the first of what was kept
pub kept_first : (base : ℕ) (cells : List Cell) (old new : WorldLevels) (t : ℕ × ℕ × ℕ) → kept_above base old ≡ t ∷ kept_above base new → AllByRecursion (IsKeptByReading cells) (kept_above base old) → IsKeptByReading cells t × AllByRecursion (IsKeptByReading cells) (kept_above base new)
kept_first base cells old new t above kept = rw above at kept

-- what has begun is what was kept
pub frames_popped : (base : ℕ) (old new : World) (t : ℕ × ℕ × ℕ) (g : Group) → kept_above base old.levels ≡ t ∷ kept_above base new.levels → g ≡ group_in t → frames_in base new g ≡ frames_kept (kept_above base old.levels)
frames_popped base old new t g above is = rw is (sym (ap frames_kept above))

-- ---- levels

-- what is in such a group takes a level
pub inner_frames : (g : Group) (fs : List (ReaderFrame stock.PairChain)) → is_inner_group g ≡ true → is_inner (frames_of g fs) ≡ true
inner_frames group.Root fs h = absurd cc
inner_frames group.Quote fs h = refl
inner_frames (group.Vector c) fs h = refl
inner_frames (group.List c owed phase.Begun) fs h = refl
inner_frames (group.List c owed phase.Going) fs h = refl
inner_frames (group.List c owed phase.Dotted) fs h = absurd cc
inner_frames (group.List c owed phase.Shut) fs h = refl
inner_frames (group.QuoteBehind c owed) fs h = refl
inner_frames (group.VectorBehind v c owed) fs h = refl

-- what takes a level is inside of something
pub not_root : (g : Group) → is_inner_group g ≡ true → g ≢ group.Root
not_root group.Root h e = cc
not_root group.Quote h e = cc
not_root (group.Vector c) h e = cc
not_root (group.List c owed p) h e = cc
not_root (group.QuoteBehind c owed) h e = cc
not_root (group.VectorBehind v c owed) h e = cc

-- it leaves a level
pub inner_left : (m : Maker Stock Tagged stock.PairChain Stop) (fs : List (ReaderFrame stock.PairChain)) (k : Stock) → is_inner fs ≡ true → left m fs k ≡ m.leave k
inner_left m fs k h = rw h refl

-- nothing is kept
pub none_left : (base : ℕ) (w : World) → length w.levels.walk ≡ base → (t : Bool) → stock_of w ≡ left (in_stock t) (frames_kept (kept_above base w.levels)) (stock_of w)
none_left base w e t =
    let none : length w.levels.walk - base ≡ 0 = omega (arith, e) in rw none refl

-- one level more is left
pub stock_popped : (old new : World) → new ≡ record old { levels = record old.levels { level = old.levels.level - 1; walk = new.levels.walk } } → old.levels.level ≤ old.levels.bound → 1 ≤ old.levels.level → stock_of new ≡ level_left (stock_of old)
stock_popped old new e within some =
    let more : old.levels.bound - (old.levels.level - 1) ≡ suc (old.levels.bound - old.levels.level) = omega arith in
    ap stock_of e ∙ ap (λ n. record (stock_of old) { left = n }) more

-- the level of what was kept is left
pub popped_left : (base : ℕ) (old new : World) (t : ℕ × ℕ × ℕ) → kept_above base old.levels ≡ t ∷ kept_above base new.levels → is_inner_group (group_in t) ≡ true → stock_of new ≡ level_left (stock_of old)
    → (turns : Bool) → stock_of new ≡ left (in_stock turns) (frames_kept (kept_above base old.levels)) (stock_of old)
popped_left base old new t above inner made turns =
    rw above (made ∙ sym (inner_left (in_stock turns) (frames_of (group_in t) (frames_kept (kept_above base new.levels))) (stock_of old) (inner_frames (group_in t) (frames_kept (kept_above base new.levels)) inner)))

-- ---- what is ready

-- where levels alone have changed, objects may be made as before
pub able_left : (old new : World) → new ≡ record old { levels = new.levels } → CanMake old → CanMake new
able_left old new e able = subst CanMake (sym e) able

-- all is ready for what was kept
pub ready_popped : (base : ℕ) (old new : World) (t : ℕ × ℕ × ℕ) (g : Group) → CanMake old → AllByRecursion (IsKeptByReading old.cells.cells) (kept_above base old.levels) → new ≡ record old { levels = new.levels } → kept_above base old.levels ≡ t ∷ kept_above base new.levels → base ≤ length new.levels.walk → g ≡ group_in t → IsReadyToRead base new g
ready_popped base old new t g able kept world above l is =
    let cells : new.cells ≡ old.cells = ap (λ (w : World). w.cells) world in
    let first = kept_first base old.cells.cells old.levels new.levels t above kept in
    record {
      able = able_left old new world able;
      above = l;
      kept = rw cells first.1;
      group_is = rw (cells, is) first.0.group_is;
      root = λ e. absurd (not_root (group_in t) first.0.inner (sym is ∙ e));
    }

-- what is around is kept, and all is ready for what begins
pub ready_pushed : (base : ℕ) (old new : World) (t : ℕ × ℕ × ℕ) (g h : Group) → IsReadyToRead base old g → new ≡ record old { levels = new.levels } → new.levels.walk ≡ t ∷ old.levels.walk → kept_above base new.levels ≡ t ∷ kept_above base old.levels → group_in t ≡ g → is_inner_group g ≡ true → IsKeptByReading old.cells.cells t → IsGroup new.cells.cells h → h ≢ group.Root → IsReadyToRead base new h
ready_pushed base old new t g h r world walk above is inner kept group_is inside =
    let cells : new.cells ≡ old.cells = ap (λ (w : World). w.cells) world in
    let long : length new.levels.walk ≡ suc (length old.levels.walk) = ap length walk in
    record {
      able = able_left old new world r.able;
      above = omega (arith, long, r.above);
      kept = rw (cells, above) (kept, r.kept);
      group_is = group_is;
      root = λ e. absurd (inside e);
    }

-- ---- nothing is around it

-- where nothing has begun, nothing is kept
pub root_keeps_none : (base : ℕ) (w : World) → IsReadyToRead base w group.Root → kept_above base w.levels ≡ []
root_keeps_none base w r =
    let nothing : length w.levels.walk - base ≡ 0 = omega (arith, r.root refl) in
    ap (λ n. take n w.levels.walk) nothing

-- a group with nothing around it is alone
pub root_frames : (base : ℕ) (w : World) (g : Group) → IsReadyToRead base w g → g ≡ group.Root → frames_in base w g ≡ []
root_frames base w g r e = rw e (ap frames_kept (root_keeps_none base w (rw e at r)))

-- ---- what is around a group

-- around a group that is not behind a dot stands what is kept
pub around_kept : (g : Group) (fs : List (ReaderFrame stock.PairChain)) → ((c : Chain) (owed : ℕ) → g ≡ group.QuoteBehind c owed → ⊥) → ((v c : Chain) (owed : ℕ) → g ≡ group.VectorBehind v c owed → ⊥) → behind_it g fs ≡ fs
around_kept group.Root fs q v = refl
around_kept group.Quote fs q v = refl
around_kept (group.Vector c) fs q v = refl
around_kept (group.List c owed p) fs q v = refl
around_kept (group.QuoteBehind c owed) fs q v = absurd (q c owed refl)
around_kept (group.VectorBehind a c owed) fs q v = absurd (v a c owed refl)

-- what is around a group weighs less
pub weight_inside : (g : Group) → g ≢ group.Root → 1 ≤ group_weight g
weight_inside group.Root h = absurd (h refl)
weight_inside group.Quote h = omega arith
weight_inside (group.Vector c) h = omega arith
weight_inside (group.List c owed p) h = omega arith
weight_inside (group.QuoteBehind c owed) h = omega arith
weight_inside (group.VectorBehind v c owed) h = omega arith
