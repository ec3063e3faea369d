use Rattle.std.proofs.Common.{◌∙◌, ◌∷◌, ap, arith, sym}
use Rattle.rl_text.specs.Reader.{ended_with}
use Rattle.rl_text.specs.Reader as reader
use Rattle.rl_read.specs.Stock.{stock_of}
use Rattle.rl_read.specs.Frames.{chain_of, frames_kept}
use Rattle.rl_read.specs.declared.frames.Phase.TheVariants as phase
use Rattle.rl_read.specs.declared.frames.Group.TheVariants as group
use Rattle.rl_read.specs.declared.step.Ended.TheVariants as how
use Rattle.rl_world.specs.Walks.{kept_above}
use Rattle.rl_read.proofs.MakingStays.{chain_stays, ready_made, reading_of_making}
use Rattle.rl_read.proofs.CallsFollow.{made_ends, made_lacks}
use Rattle.rl_read.proofs.ElementEnds.{kept_same, list_element}
use Rattle.rl_read.proofs.step.in_list.Goals as goal

pub returns-in-Dotted-clause-ends : goal.returns-in-Dotted-clause-ends
returns-in-Dotted-clause-ends c base ready =
    let m = c.end_with.ensures.none.making in
    let fs = frames_kept (kept_above base c.args.w.now.levels) in
    rw c.in-Dotted.is
    (record {
      means = λ t. ap (λ x. ended_with x (λ l s. reader.Inside (reader.Listing l c.args.owed reader.Shut ∷ fs) s)) c.end_with.ensures.ended
          ∙ ap (λ fs. reader.Inside (reader.Listing (chain_of c.args.l) c.args.owed reader.Shut ∷ fs) (stock_of c.end_with.new.w)) (sym (kept_same base c.args.w.now c.end_with.new.w m));
      sound = ready_made base c.args.w.now c.end_with.new.w (group.List c.args.l c.args.owed c.args.phase) (group.List c.args.l c.args.owed phase.Shut) ready m c.end_with.ensures.none.able
          (chain_stays c.args.w.now.cells.cells c.end_with.new.w.cells.cells c.args.l m.live ready.group_is.0, omega (arith, ready.group_is.1, m.longer))
          (λ e. absurd cc);
      able = c.end_with.ensures.none.able;
      reading = reading_of_making base c.args.w.now c.end_with.new.w m;
    })

pub returns-in-Ok-clause-ends : goal.returns-in-Ok-clause-ends
returns-in-Ok-clause-ends c base ready =
    let m = c.in-Ok.ensures.made.making in
    let fs = frames_kept (kept_above base c.args.w.now.levels) in
    made_ends base (group.List c.args.l c.args.owed c.args.phase) (λ m fs k. reader.value_ended m c.args.v fs k) (λ t l k. reader.Inside (reader.Listing l c.args.owed reader.Going ∷ fs) k) (how.Inside (group.List c.in-Ok.l c.args.owed phase.Going)) c.in-Ok.ensures.made
    (λ t. list_element c.args.phase c.in_default.not-Dotted t c.args.v (chain_of c.args.l) c.args.owed fs (stock_of c.args.w.now))
    (λ t. ap (λ fs. reader.Inside (reader.Listing (chain_of c.in-Ok.l) c.args.owed reader.Going ∷ fs) (stock_of c.extended.new.w)) (sym (kept_same base c.args.w.now c.extended.new.w m)))
    (ready_made base c.args.w.now c.extended.new.w (group.List c.args.l c.args.owed c.args.phase) (group.List c.in-Ok.l c.args.owed phase.Going) ready m c.in-Ok.ensures.made.able
    (c.in-Ok.ensures.made.sound, omega (arith, ready.group_is.1, c.in-Ok.ensures.longer))
    (λ e. absurd cc))

pub returns-in-Err-clause-ends : goal.returns-in-Err-clause-ends
returns-in-Err-clause-ends c base ready =
    let fs = frames_kept (kept_above base c.args.w.now.levels) in
    made_lacks base (group.List c.args.l c.args.owed c.args.phase) (λ m fs k. reader.value_ended m c.args.v fs k) (λ t l k. reader.Inside (reader.Listing l c.args.owed reader.Going ∷ fs) k) c.in-Err.ensures.made
    (λ t. list_element c.args.phase c.in_default.not-Dotted t c.args.v (chain_of c.args.l) c.args.owed fs (stock_of c.args.w.now))
