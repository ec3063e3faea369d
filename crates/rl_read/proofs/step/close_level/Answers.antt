use Rattle.std.proofs.Common.{ap, sym, ◌∙◌}
use Rattle.rl_tags.specs.Tagged.{Tagged}
use Rattle.rl_text.specs.Reader as reader
use Rattle.rl_read.specs.Stock.{in_stock, stock_of}
use Rattle.rl_read.specs.Frames.{frames_around}
use Rattle.rl_read.proofs.BracketsClose.{rest_closes, rest_is_ready, whole_closes}
use Rattle.rl_read.proofs.MakingStays.{reading_of_making}
use Rattle.rl_read.proofs.CallsFollow.{reads_same}
use Rattle.rl_read.proofs.step.close_level.Goals as goal

pub returns-then-owed-eq0 : goal.returns-then-owed-eq0
returns-then-owed-eq0 c =
    reads_same c.bracket_ended.ensures
    (λ t. whole_closes t c.args.base c.args.w.now c.args.group.now c.args.l.now c.args.owed c.args.phase.now c.requires.list c.if-owed-eq0.true c.requires.undotted
    ∙ ap (λ (v : Tagged). reader.goes_after (reader.value_ended (in_stock t) v (frames_around c.args.base c.args.w.now c.args.group.now) (reader.left (in_stock t) (frames_around c.args.base c.args.w.now c.args.group.now) (stock_of c.args.w.now)))) (sym c.first_of.ensures))

pub returns-else-owed-eq0 : goal.returns-else-owed-eq0
returns-else-owed-eq0 c = record {
  means = λ t. rest_closes t c.args.base c.args.w.now c.end_inner.new.w c.args.group.now c.args.l.now c.args.owed c.args.phase.now c.requires.list c.if-owed-eq0.false c.requires.undotted c.end_inner.ensures.none.making c.end_inner.ensures.ended;
  sound = (rest_is_ready c.args.base c.args.w.now c.end_inner.new.w c.args.group.now c.args.l.now c.args.owed c.args.phase.now c.requires.list c.requires.ready c.end_inner.ensures.none.making c.end_inner.ensures.none.able, tt);
  able = c.end_inner.ensures.none.able;
  reading = reading_of_making c.args.base c.args.w.now c.end_inner.new.w c.end_inner.ensures.none.making;
}
