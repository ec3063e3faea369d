use Rattle.std.proofs.Common.{rules, sym, ◌∙◌}
use Rattle.rl_text.specs.Reader as reader
use Rattle.rl_read.specs.Stock.{in_stock}
use Rattle.rl_read.specs.Frames.{frames_around}
use Rattle.rl_read.proofs.MakingStays.{ready_stays, reading_of_levels, reading_of_making, reading_trans}
use Rattle.rl_read.proofs.CallsFollow.{made_lacks, reads_after}
use Rattle.rl_read.proofs.ElementEnds.{quote_ends, quote_goes}
use Rattle.rl_read.proofs.step.value_ended.Goals as goal

pub returns-in-Err : goal.returns-in-Err
returns-in-Err c =
    reads_after c.loop-w.invariant.reading
    (made_lacks c.args.base c.loop-w.group (λ m fs k. reader.value_ended m c.loop-w.v fs k) (λ t q k. reader.value_ended (in_stock t) q (frames_around c.args.base c.loop-w.w c.loop-w.group) (reader.left (in_stock t) (frames_around c.args.base c.loop-w.w c.loop-w.group) k)) c.in-Err.ensures
    (λ t. quote_ends t c.args.base c.loop-w.w c.loop-w.v c.loop-w.group (sym c.is_quote.ensures ∙ c.loop-w-test.true)))
    (λ t. c.loop-w.invariant.means t)

pub around-group-requires-clause-ready : goal.around-group-requires-clause-ready
around-group-requires-clause-ready c = ready_stays c.args.base c.loop-w.w c.quoted.new.w c.loop-w.group c.loop-w.invariant.ready c.in-Ok.ensures.making c.in-Ok.ensures.able

pub loop-w-preserved : goal.loop-w-preserved
loop-w-preserved c =
    record {
      ready = c.around-group.ensures.ready;
      live = search rules;
      means = λ t. c.loop-w.invariant.means t ∙ quote_goes t c.args.base c.loop-w.w c.quoted.new.w c.around-group.new.w c.loop-w.v c.in-Ok.q c.loop-w.group c.around-group.result (sym c.is_quote.ensures ∙ c.loop-w-test.true) c.in-Ok.ensures.means c.in-Ok.ensures.making c.around-group.ensures.frames (c.around-group.ensures.left t);
      reading = reading_trans c.args.base c.args.w.now c.quoted.new.w c.around-group.new.w
          (reading_trans c.args.base c.args.w.now c.loop-w.w c.quoted.new.w c.loop-w.invariant.reading (reading_of_making c.args.base c.loop-w.w c.quoted.new.w c.in-Ok.ensures.making))
          (reading_of_levels c.args.base c.quoted.new.w c.around-group.new.w c.around-group.ensures.levels);
    }

pub returns : goal.returns
returns c = reads_after c.loop-w.invariant.reading (c.in_place.ensures.ends c.args.base c.loop-w.invariant.ready) (λ t. c.loop-w.invariant.means t)
