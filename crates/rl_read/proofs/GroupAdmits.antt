-- What may stand in what has begun.
use Rattle.std.proofs.Common.{◌≡◌, ◌≢◌, ℕ, Bool, false, true, List, [], refl, ap, ◌∙◌}
use Rattle.std.specs.Prelude.{Result, Ok, Err, IfErr}
use Rattle.rl_read.specs.Given.{is_counted}
use Rattle.rl_text.specs.Reader.{ReaderFrame, Refuses, admits, dot}
use Rattle.rl_world.specs.declared.world.World.{World}
use Rattle.rl_world.specs.declared.stop.Stop.{Stop}
use Rattle.rl_read.specs.Stock.{Stock, in_stock, stock_of}
use Rattle.rl_read.specs.Stock as stock
use Rattle.rl_read.specs.Frames.{CanMake, IsReadyToRead, frames_in, frames_kept, frames_of, group_admits, opening_frame}
use Rattle.rl_read.specs.Steps.{opens_at}
use Rattle.rl_read.specs.Calls.{BeginsGroup, TakesStep}
use Rattle.rl_read.specs.declared.step.Step.{Step}
use Rattle.rl_read.specs.declared.step.Step.TheVariants as step
use Rattle.rl_read.specs.declared.word.Mode.TheVariants as mode
use Rattle.rl_read.proofs.MakingStays.{reading_of_levels}
use Rattle.rl_read.specs.declared.frames.Chain.{Chain}
use Rattle.rl_read.specs.declared.frames.Phase.{Phase}
use Rattle.rl_read.specs.declared.frames.Phase.TheVariants as phase
use Rattle.rl_read.specs.declared.frames.Group.{Group}
use Rattle.rl_read.specs.declared.frames.Group.TheVariants as group
use Rattle.rl_read.specs.declared.frames.Opening.{Opening}
use Rattle.rl_read.proofs.WalkKept.{able_left, root_frames}
use Rattle.rl_world.specs.Walks.{kept_above}

-- a spelling may stand there
pub admits_frames : (g : Group) (fs : List (ReaderFrame stock.PairChain)) → (g ≡ group.Root → frames_of g fs ≡ []) → admits (frames_of g fs) ≡ group_admits g
admits_frames group.Root fs r = ap admits (r refl)
admits_frames group.Quote fs r = refl
admits_frames (group.Vector c) fs r = refl
admits_frames (group.List c owed phase.Begun) fs r = refl
admits_frames (group.List c owed phase.Going) fs r = refl
admits_frames (group.List c owed phase.Dotted) fs r = refl
admits_frames (group.List c owed phase.Shut) fs r = refl
admits_frames (group.QuoteBehind c owed) fs r = refl
admits_frames (group.VectorBehind v c owed) fs r = refl

-- the group that has begun tells where a spelling may stand
pub admits_ready : (base : ℕ) (w : World) (g : Group) → IsReadyToRead base w g → admits (frames_in base w g) ≡ group_admits g
admits_ready base w g r = admits_frames g (frames_kept (kept_above base w.levels)) (root_frames base w g r)

-- where a spelling may stand, it begins
pub opens_opened : (t : Bool) (o : Opening) (fs : List (ReaderFrame stock.PairChain)) (k : Stock) → admits fs ≡ true → opens_at (in_stock t) o fs k ≡ opening_frame (in_stock t) o fs k
opens_opened t o fs k h = rw h refl

-- and else it has no place
pub opens_refused : (t : Bool) (o : Opening) (fs : List (ReaderFrame stock.PairChain)) (k : Stock) → admits fs ≡ false → opens_at (in_stock t) o fs k ≡ Refuses k
opens_refused t o fs k h = rw h refl

-- it begins with a byte, between spellings
abbrev going_on : Result Group Stop → Result Step Stop
going_on (Ok g) = Ok (step.Goes mode.Gap g)
going_on (Err s) = Err s

pub begins_step : {base : ℕ} {old new : World} {outer : Group} {o : Opening} → (r : Result Group Stop) → BeginsGroup base old outer new o r → IfErr r (λ s. is_counted s ≡ true) → new ≡ record old { levels = new.levels } → CanMake old → admits (frames_in base old outer) ≡ true → TakesStep base old outer new [] (λ m fs k. opens_at m o fs k) (going_on r)
begins_step {base = base} {old = old} {new = new} {outer = outer} {o = o} (Ok g) b counted world able h = record {
  means = λ t. opens_opened t o (frames_in base old outer) (stock_of old) h ∙ b.means t;
  sound = (b.ready, tt);
  able = b.ready.able;
  reading = reading_of_levels base old new (record { world = world; steady = b.steady });
}
begins_step {base = base} {old = old} {new = new} {outer = outer} {o = o} (Err s) b counted world able h = record {
  means = λ t. opens_opened t o (frames_in base old outer) (stock_of old) h ∙ b.means t;
  sound = counted;
  able = able_left old new world able;
  reading = reading_of_levels base old new (record { world = world; steady = b.steady });
}

-- a dot has its place in a list alone
pub dot_refuses : (t : Bool) (g : Group) (fs : List (ReaderFrame stock.PairChain)) (k : Stock) → (g ≡ group.Root → frames_of g fs ≡ []) → ((c : Chain) (owed : ℕ) (p : Phase) → g ≡ group.List c owed p → ⊥) → dot (in_stock t) (frames_of g fs) k ≡ Refuses k
dot_refuses t group.Root fs k r l = ap (λ fs. dot (in_stock t) fs k) (r refl)
dot_refuses t group.Quote fs k r l = refl
dot_refuses t (group.Vector c) fs k r l = refl
dot_refuses t (group.List c owed p) fs k r l = absurd (l c owed p refl)
dot_refuses t (group.QuoteBehind c owed) fs k r l = refl
dot_refuses t (group.VectorBehind v c owed) fs k r l = refl

-- and so in all that has begun
pub dot_refuses_ready : (base : ℕ) (w : World) (t : Bool) (g : Group) → IsReadyToRead base w g → ((c : Chain) (owed : ℕ) (p : Phase) → g ≡ group.List c owed p → ⊥) → dot (in_stock t) (frames_in base w g) (stock_of w) ≡ Refuses (stock_of w)
dot_refuses_ready base w t g r l = dot_refuses t g (frames_kept (kept_above base w.levels)) (stock_of w) (root_frames base w g r) l

-- nor is there one where a list has none or has had its own
pub dot_refuses_list : (t : Bool) (c : Chain) (owed : ℕ) (p : Phase) (fs : List (ReaderFrame stock.PairChain)) (k : Stock) → p ≢ phase.Going → dot (in_stock t) (frames_of (group.List c owed p) fs) k ≡ Refuses k
dot_refuses_list t c owed phase.Begun fs k not = refl
dot_refuses_list t c owed phase.Going fs k not = absurd (not refl)
dot_refuses_list t c owed phase.Dotted fs k not = refl
dot_refuses_list t c owed phase.Shut fs k not = refl
