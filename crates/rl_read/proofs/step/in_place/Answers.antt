use Rattle.std.proofs.Common.{◌∷◌, ap, arith, refl, sym}
use Rattle.rl_text.specs.Reader as reader
use Rattle.rl_read.specs.Stock.{stock_of}
use Rattle.rl_read.specs.Frames.{chain_of, frames_kept}
use Rattle.rl_read.specs.declared.frames.Group.TheVariants as group
use Rattle.rl_read.specs.declared.step.Ended.TheVariants as how
use Rattle.rl_world.specs.Walks.{kept_above}
use Rattle.rl_read.proofs.MakingStays.{chain_stays, ready_made}
use Rattle.rl_read.proofs.CallsFollow.{made_ends, made_lacks, reads_here}
use Rattle.rl_read.proofs.ElementEnds.{group_in_place, kept_same, root_ended, root_frames}
use Rattle.rl_read.proofs.step.in_place.Goals as goal

-- an element of a vector hangs a pair in the list of its elements
pub returns-in-Ok-clause-ends : goal.returns-in-Ok-clause-ends
returns-in-Ok-clause-ends c base ready =
    let m = c.in-Ok.ensures.made.making in
    let fs = frames_kept (kept_above base c.args.w.now.levels) in
    rw c.in-Vector.is
    (made_ends base (group.Vector c.in-Vector.c) (λ m fs k. reader.value_ended m c.args.v fs k) (λ t l k. reader.Inside (reader.Vectoring l ∷ fs) k) (how.Inside (group.Vector c.in-Ok.c)) c.in-Ok.ensures.made (λ t. refl)
    (λ t. ap (λ fs. reader.Inside (reader.Vectoring (chain_of c.in-Ok.c) ∷ fs) (stock_of c.extended.new.w)) (sym (kept_same base c.args.w.now c.extended.new.w m)))
    (ready_made base c.args.w.now c.extended.new.w c.args.group (group.Vector c.in-Ok.c) ready m c.in-Ok.ensures.made.able c.in-Ok.ensures.made.sound (λ e. absurd cc)))

pub returns-in-Err-clause-ends : goal.returns-in-Err-clause-ends
returns-in-Err-clause-ends c base ready =
    let fs = frames_kept (kept_above base c.args.w.now.levels) in
    rw c.in-Vector.is (made_lacks base (group.Vector c.in-Vector.c) (λ m fs k. reader.value_ended m c.args.v fs k) (λ t l k. reader.Inside (reader.Vectoring l ∷ fs) k) c.in-Err.ensures.made (λ t. refl))

pub returns-in-Ok-extended-clause-ends : goal.returns-in-Ok-extended-clause-ends
returns-in-Ok-extended-clause-ends c base ready =
    let m = c.in-Ok-extended.ensures.made.making in
    let was = c.in-VectorBehind in
    let fs = reader.Listing (chain_of was.l) was.owed reader.Dotted ∷ frames_kept (kept_above base c.args.w.now.levels) in
    let is = group_in_place base c.args.w.now c.args.group (group.VectorBehind was.c was.l was.owed) ready was.is in
    rw was.is
    (made_ends base (group.VectorBehind was.c was.l was.owed) (λ m fs k. reader.value_ended m c.args.v fs k) (λ t l k. reader.Inside (reader.Vectoring l ∷ fs) k) (how.Inside (group.VectorBehind c.in-Ok-extended.c was.l was.owed)) c.in-Ok-extended.ensures.made (λ t. refl)
    (λ t. ap (λ fs. reader.Inside (reader.Vectoring (chain_of c.in-Ok-extended.c) ∷ reader.Listing (chain_of was.l) was.owed reader.Dotted ∷ fs) (stock_of c.extended-in-VectorBehind.new.w)) (sym (kept_same base c.args.w.now c.extended-in-VectorBehind.new.w m)))
    (ready_made base c.args.w.now c.extended-in-VectorBehind.new.w c.args.group (group.VectorBehind c.in-Ok-extended.c was.l was.owed) ready m c.in-Ok-extended.ensures.made.able
    (c.in-Ok-extended.ensures.made.sound, chain_stays c.args.w.now.cells.cells c.extended-in-VectorBehind.new.w.cells.cells was.l m.live is.1, omega (arith, is.2, m.longer))
    (λ e. absurd cc)))

pub returns-in-Err-extended-clause-ends : goal.returns-in-Err-extended-clause-ends
returns-in-Err-extended-clause-ends c base ready =
    let was = c.in-VectorBehind in
    let fs = reader.Listing (chain_of was.l) was.owed reader.Dotted ∷ frames_kept (kept_above base c.args.w.now.levels) in
    rw was.is (made_lacks base (group.VectorBehind was.c was.l was.owed) (λ m fs k. reader.value_ended m c.args.v fs k) (λ t l k. reader.Inside (reader.Vectoring l ∷ fs) k) c.in-Err-extended.ensures.made (λ t. refl))

pub returns-in-List-clause-ends : goal.returns-in-List-clause-ends
returns-in-List-clause-ends c base ready = rw c.in-List.is (c.in_list.ensures.ends base (rw c.in-List.is at ready))

-- nothing is around
pub returns-in_default-clause-ends : goal.returns-in_default-clause-ends
returns-in_default-clause-ends c base ready =
    let root = root_frames base c.args.w.now c.args.group ready c.requires.place c.in_default.not-Vector c.in_default.not-List c.in_default.not-VectorBehind in
    reads_here base c.args.w.now c.args.group ready (λ t. root_ended t base c.args.w.now c.args.v c.args.group ready root) (record { ready = rw root at ready; live = c.requires.live })
