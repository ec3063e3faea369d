-- What begins in a list, a vector or a quote enters a level.
use Rattle.std.proofs.Common.{◌≡◌, ℕ, suc, ◌+◌, ◌-◌, Bool, true, List, [], ◌∷◌, None, Some, refl, sym, ap, ◌∙◌, arith}
use Rattle.std.proofs.lemmas.Bool.Decides.{nat_tests}
use Rattle.rl_text.specs.Reader.{Begun, Dotted, ReaderFrame, Gap, Goes, Going, Halts, Listing, Quoting, Shut, Vectoring, group_begins, is_inner}
use Rattle.rl_world.specs.Levels.{WorldLevels, enter_stop}
use Rattle.rl_world.specs.declared.world.World.{World}
use Rattle.rl_world.specs.declared.stop.Stop.{Stop}
use Rattle.rl_world.specs.declared.stop.Stop.TheVariants as stop
use Rattle.rl_read.specs.Stock.{Stock, in_stock, stock_of}
use Rattle.rl_read.specs.Stock as stock
use Rattle.rl_read.specs.Frames.{IsReadyToRead, frame_of, frames_in, frames_kept, frames_of, group_in, is_inner_group, opening_frame}
use Rattle.rl_read.specs.declared.frames.Group.{Group}
use Rattle.rl_read.specs.declared.frames.Group.TheVariants as group
use Rattle.rl_read.specs.declared.frames.Opening.{Opening}
use Rattle.rl_read.specs.declared.frames.Opening.TheVariants as opening
use Rattle.rl_read.proofs.WalkKept.{inner_frames, root_frames}
use Rattle.rl_world.specs.Walks.{kept_above}

-- a list in what takes a level is no list behind a dot
pub list_begins : (t : Bool) (fs : List (ReaderFrame stock.PairChain)) (k : Stock) → is_inner fs ≡ true → opening_frame (in_stock t) opening.List fs k ≡ group_begins (in_stock t) (frame_of opening.List) fs k
list_begins t [] k h = absurd cc
list_begins t (Listing l n Begun ∷ fs) k h = refl
list_begins t (Listing l n Going ∷ fs) k h = refl
list_begins t (Listing l n Dotted ∷ fs) k h = absurd cc
list_begins t (Listing l n Shut ∷ fs) k h = refl
list_begins t (Vectoring l ∷ fs) k h = refl
list_begins t (Quoting ∷ fs) k h = refl

-- what begins in what takes a level asks for one
pub opened_begins : (t : Bool) (o : Opening) (fs : List (ReaderFrame stock.PairChain)) (k : Stock) → is_inner fs ≡ true → opening_frame (in_stock t) o fs k ≡ group_begins (in_stock t) (frame_of o) fs k
opened_begins t opening.List fs k h = list_begins t fs k h
opened_begins t opening.Vector fs k h = refl
opened_begins t opening.Quote fs k h = refl

-- a level was left, and is entered
pub opened_goes : (t : Bool) (o : Opening) (fs : List (ReaderFrame stock.PairChain)) (k : Stock) (n : ℕ) → is_inner fs ≡ true → k.left ≡ suc n → opening_frame (in_stock t) o fs k ≡ Goes Gap (frame_of o ∷ fs) (record k { left = n })
opened_goes t o fs k n h e = opened_begins t o fs k h ∙ rw (h, e) refl

-- no level was left
pub opened_halts : (t : Bool) (o : Opening) (fs : List (ReaderFrame stock.PairChain)) (k : Stock) → is_inner fs ≡ true → k.left ≡ 0 → opening_frame (in_stock t) o fs k ≡ Halts stop.Depth k
opened_halts t o fs k h e = opened_begins t o fs k h ∙ rw (h, e) refl

-- a level may be entered, so one is left
pub may_enter : (l : WorldLevels) → enter_stop l 1 ≡ None → l.bound - l.level ≡ suc (l.bound - (l.level + 1))
may_enter l h = grind (arith, nat_tests)

-- no level may be entered, so none is left
pub no_level : (l : WorldLevels) (s : Stop) → enter_stop l 1 ≡ Some s → l.bound - l.level ≡ 0
no_level l s h = grind (arith, nat_tests)

-- it is the depth that is wanting
pub stops_depth : (l : WorldLevels) (s : Stop) → enter_stop l 1 ≡ Some s → s ≡ stop.Depth
stops_depth l s h = grind (arith, nat_tests)

-- three words more are kept, and what begins is the newest
pub opened_pushed : (base : ℕ) (old new : World) (t : ℕ × ℕ × ℕ) (o : Opening) (g h : Group) → enter_stop old.levels 1 ≡ None → new ≡ record old { levels = record old.levels { level = old.levels.level + 1; walk = t ∷ old.levels.walk } } → kept_above base new.levels ≡ t ∷ kept_above base old.levels
    → group_in t ≡ g → is_inner_group g ≡ true → ((fs : List (ReaderFrame stock.PairChain)) → frames_of h fs ≡ frame_of o ∷ fs) → (turns : Bool) → opening_frame (in_stock turns) o (frames_in base old g) (stock_of old) ≡ Goes Gap (frames_in base new h) (stock_of new)
opened_pushed base old new t o g h may e above is inner frames turns =
    let kept : frames_kept (kept_above base new.levels) ≡ frames_in base old g =
    ap frames_kept above ∙ ap (λ g. frames_of g (frames_kept (kept_above base old.levels))) is in
    opened_goes turns o (frames_in base old g) (stock_of old) (old.levels.bound - (old.levels.level + 1)) (inner_frames g (frames_kept (kept_above base old.levels)) inner) (may_enter old.levels may)
    ∙ (ap (λ k. Goes Gap (frame_of o ∷ frames_in base old g) k) (sym (ap stock_of e))
    ∙ ap (λ fs. Goes Gap fs (stock_of new)) (sym (frames (frames_kept (kept_above base new.levels)) ∙ ap (λ fs. frame_of o ∷ fs) kept)))

-- nothing begins where no level may be entered
pub opened_stops : (base : ℕ) (w : World) (o : Opening) (g : Group) (s : Stop) → enter_stop w.levels 1 ≡ Some s → is_inner_group g ≡ true → (t : Bool) → opening_frame (in_stock t) o (frames_in base w g) (stock_of w) ≡ Halts s (stock_of w)
opened_stops base w o g s wants inner t =
    opened_halts t o (frames_in base w g) (stock_of w) (inner_frames g (frames_kept (kept_above base w.levels)) inner) (no_level w.levels s wants) ∙ ap (λ s. Halts s (stock_of w)) (sym (stops_depth w.levels s wants))

-- with nothing around it no level is entered
pub opened_alone : (t : Bool) (o : Opening) (k : Stock) → opening_frame (in_stock t) o [] k ≡ Goes Gap (frame_of o ∷ []) k
opened_alone t opening.List k = refl
opened_alone t opening.Vector k = refl
opened_alone t opening.Quote k = refl

-- what begins with nothing around it
pub opened_root : (base : ℕ) (w : World) (o : Opening) (g h : Group) → IsReadyToRead base w g → g ≡ group.Root → ((fs : List (ReaderFrame stock.PairChain)) → frames_of h fs ≡ frame_of o ∷ fs) → (t : Bool) → opening_frame (in_stock t) o (frames_in base w g) (stock_of w) ≡ Goes Gap (frames_in base w h) (stock_of w)
opened_root base w o g h r e frames t =
    let alone : frames_in base w g ≡ [] = root_frames base w g r e in
    let kept : frames_kept (kept_above base w.levels) ≡ [] = ap (λ (g : Group). frames_in base w g) (sym e) ∙ alone in
    rw (alone, frames (frames_kept (kept_above base w.levels)), kept) (opened_alone t o (stock_of w))
