use Rattle.std.proofs.Common.{refl, sym, ap, ◌∙◌, subst, ◌≡◌, ℕ, Bool, true, false, [], IsTrue, ◌<◌}
use Rattle.rl_io.specs.Told.{WhereTold}
use Rattle.rl_read.specs.Taken.{TakesBytes}
use Rattle.rl_cells.specs.Cell.{is_live}
use Rattle.rl_text.specs.Keeping.{FramesKept}
use Rattle.rl_text.specs.Reader as reader
use Rattle.rl_text.specs.Reader.{NoneLeft, Read, Refused, Stopped, read_by}
use Rattle.rl_world.specs.declared.stop.Stop.{Stop}
use Rattle.rl_world.specs.declared.stop.Stop.TheVariants as stop
use Rattle.rl_read.specs.Given.{is_counted, is_fault}
use Rattle.rl_read.specs.Stock.{Stock, in_stock, stock_of}
use Rattle.rl_read.specs.Frames.{CanMake, frames_in, frames_kept}
use Rattle.rl_read.specs.Steps.{IsStep, step_of, mode_of}
use Rattle.rl_read.specs.Reads.{IsRefusedText, IsStoppedText}
use Rattle.rl_read.specs.ReadingKeepsCells.{LeavesWhatStood, keeping_what_stood}
use Rattle.rl_read.proofs.MakingStays.{steady_refl, steady_trans}
use Rattle.rl_read.proofs.ToldByCalls.{told_first, told_same, told_same_cut, told_waits}
use Rattle.rl_read.proofs.ReadingKeeps.{keeps_refl, keeps_trans, keeps_given, keeps_back, keeps_levels, keeps_read, levels_back, steady_as, read_input, read_waiting, left_input, left_waiting}
use Rattle.rl_read.proofs.MakingTakesNoTurn.{goes_left, measure_falls, turns_fall}
use Rattle.rl_read.proofs.ByteByByte.{going_first, kept_first, ready_first, passed_able, passed_levels, passed_ready, passed_same, told_on, told_done, told_before, told_refused, told_halted, told_whole, told_none, told_end_refused, told_end_stopped, told_wants, wanted_is_counted, not_a_read, not_a_write}
use Rattle.rl_read.proofs.TextEnds.{levels_left, same_place, stop_same}
use Rattle.rl_read.proofs.WhatStands.{answer_stands, byte_stands, end_stands, fit_of, given_stands, stood_levels}
use Rattle.rl_read.proofs.ElementEnds.{ok_mapped as ok_then}
use Rattle.rl_read.proofs.read.read_form.Goals as goal
use Rattle.rl_read.proofs.read.read_form.Goals.{then-not-used, else-not-used}
use Rattle.rl_world.specs.declared.world.World.{World}
use Rattle.rl_world.specs.Input.{Input}
use Rattle.rl_world.specs.Counts.{count_turns_left}
use Rattle.std.specs.Prelude.{Option, IsSome}

-- where the form has ended, a byte alone may have been put back
done_world : (g : Rattle.rl_read.proofs.read.read_form.Given.Over) (c : goal.Joined-not-used g) → c.if-not-used.w ≡ record c.read_byte.new.w { input = c.if-not-used.w.input }
done_world g c = elim c.if-not-used.branch [
  | then-not-used w ↦ w.w-is ∙ w.back.ensures.world ∙ ap (λ (x : World). record c.read_byte.new.w { input = x.input }) (sym w.w-is)
  | else-not-used w ↦ w.w-is ∙ ap (λ (x : World). record c.read_byte.new.w { input = x.input }) (sym w.w-is)
]

pub loop-b-init : goal.loop-b-init
loop-b-init g c = record {
  base = c.walk_len-base.ensures;
  ready = ready_first c.walk_len-base.result c.args.w.now c.walk_len-base.ensures c.requires;
  word = tt;
  turns = refl;
  goes = going_first (g.T.Bytes.takes_turns c.args.text.now) c.walk_len-base.result c.args.w.now (g.T.Bytes.unread c.args.text.now c.args.w.now.input) (kept_first c.walk_len-base.result c.args.w.now c.walk_len-base.ensures);
  printed = told_first (g.T.Bytes.printed c.args.text.now c.args.w.now.output.waiting) (λ before now. now ≡ before) (λ x. refl);
  reads = refl;
  writes = refl;
  kept = refl;
  keeps = keeps_refl c.args.w.now;
  stands = c.reading_keeps_cells.ensures.first (stock_of c.args.w.now);
  behind = subst (λ ts. FramesKept (keeping_what_stood (stock_of c.args.w.now)) (frames_kept ts)) (sym (kept_first c.walk_len-base.result c.args.w.now c.walk_len-base.ensures)) tt;
  steady = steady_refl c.walk_len-base.result c.args.w.now.levels;
}

pub at_end-requires-clause-ready : goal.at_end-requires-clause-ready
at_end-requires-clause-ready g c = passed_ready c.bounds_are_kept.ensures (g.T.Bytes.takes_turns c.loop-b.text) c.walk_len-base.result c.loop-b.w c.next.new.w c.loop-b.group c.in-Ok-None.field-0 c.in-Ok-None.ensures.turn c.next.ensures.world c.loop-b.invariant.ready

pub returns-in-Ok-None-clause-ok : goal.returns-in-Ok-None-clause-ok
returns-in-Ok-None-clause-ok g c = ok_then c.at_end.result (λ v. (t : Bool) → reader.at_end (in_stock t) (mode_of c.loop-b.mode c.loop-b.word.items) (frames_in c.walk_len-base.result c.next.new.w c.loop-b.group) (stock_of c.next.new.w) ≡ Read v (stock_of c.at_end.new.w) []) (λ v. TakesBytes (g.T.Bytes.unread c.args.text.now c.args.w.now.input) (g.T.Bytes.unread c.next.new.self c.at_end.new.w.input) (λ before now. read_by (in_stock (g.T.Bytes.takes_turns c.args.text.now)) (stock_of c.args.w.now) before ≡ Read v (stock_of c.at_end.new.w) now)) (λ v e. told_whole (g.T.Bytes.takes_turns c.args.text.now) (g.T.Bytes.takes_turns c.loop-b.text) c.loop-b.invariant.turns c.args.w.now c.loop-b.w c.next.new.w c.walk_len-base.result (mode_of c.loop-b.mode c.loop-b.word.items) c.loop-b.group c.loop-b.k (g.T.Bytes.unread c.args.text.now c.args.w.now.input) (g.T.Bytes.unread c.loop-b.text c.loop-b.w.input) (λ i. g.T.Bytes.unread c.next.new.self i) c.loop-b.invariant.goes c.next.ensures.world c.in-Ok-None.field-0 c.in-Ok-None.ensures.gives c.in-Ok-None.ensures.turn c.in-Ok-None.field-0-is c.at_end.new.w.input (read_input c.walk_len-base.result c.next.new.w c.at_end.new.w c.at_end.ensures.reading) v (stock_of c.at_end.new.w) (e (g.T.Bytes.takes_turns c.args.text.now))) c.at_end.ensures.ok

pub returns-in-Ok-None-clause-syntax : goal.returns-in-Ok-None-clause-syntax
returns-in-Ok-None-clause-syntax g c = λ k is. told_end_refused (g.T.Bytes.takes_turns c.args.text.now) (g.T.Bytes.takes_turns c.loop-b.text) c.loop-b.invariant.turns c.args.w.now c.loop-b.w c.next.new.w c.walk_len-base.result (mode_of c.loop-b.mode c.loop-b.word.items) c.loop-b.group c.loop-b.k (g.T.Bytes.unread c.args.text.now c.args.w.now.input) (g.T.Bytes.unread c.loop-b.text c.loop-b.w.input) (λ i. g.T.Bytes.unread c.next.new.self i) c.loop-b.invariant.goes c.next.ensures.world c.in-Ok-None.field-0 c.in-Ok-None.ensures.gives c.in-Ok-None.ensures.turn c.in-Ok-None.field-0-is c.at_end.new.w.input (read_input c.walk_len-base.result c.next.new.w c.at_end.new.w c.at_end.ensures.reading) c.at_end.new.w k (c.at_end.ensures.syntax k is)

pub returns-in-Ok-None-clause-end : goal.returns-in-Ok-None-clause-end
returns-in-Ok-None-clause-end g c = λ is. told_none (g.T.Bytes.takes_turns c.args.text.now) (g.T.Bytes.takes_turns c.loop-b.text) c.loop-b.invariant.turns c.args.w.now c.loop-b.w c.next.new.w c.walk_len-base.result (mode_of c.loop-b.mode c.loop-b.word.items) c.loop-b.group c.loop-b.k (g.T.Bytes.unread c.args.text.now c.args.w.now.input) (g.T.Bytes.unread c.loop-b.text c.loop-b.w.input) (λ i. g.T.Bytes.unread c.next.new.self i) c.loop-b.invariant.goes c.next.ensures.world c.in-Ok-None.field-0 c.in-Ok-None.ensures.gives c.in-Ok-None.ensures.turn c.in-Ok-None.field-0-is c.at_end.new.w.input (read_input c.walk_len-base.result c.next.new.w c.at_end.new.w c.at_end.ensures.reading) (stock_of c.at_end.new.w) (c.at_end.ensures.end is (g.T.Bytes.takes_turns c.args.text.now))

pub returns-in-Ok-None-clause-stop : goal.returns-in-Ok-None-clause-stop
returns-in-Ok-None-clause-stop g c = λ s is not. told_end_stopped (g.T.Bytes.takes_turns c.args.text.now) (g.T.Bytes.takes_turns c.loop-b.text) c.loop-b.invariant.turns c.args.w.now c.loop-b.w c.next.new.w c.walk_len-base.result (mode_of c.loop-b.mode c.loop-b.word.items) c.loop-b.group c.loop-b.k (g.T.Bytes.unread c.args.text.now c.args.w.now.input) (g.T.Bytes.unread c.loop-b.text c.loop-b.w.input) (λ i. g.T.Bytes.unread c.next.new.self i) c.loop-b.invariant.goes c.next.ensures.world c.in-Ok-None.field-0 c.in-Ok-None.ensures.gives c.in-Ok-None.ensures.turn c.in-Ok-None.field-0-is c.at_end.new.w.input (read_input c.walk_len-base.result c.next.new.w c.at_end.new.w c.at_end.ensures.reading) c.at_end.new.w s (c.at_end.ensures.stop s is)

pub returns-in-Ok-None-clause-counted : goal.returns-in-Ok-None-clause-counted
returns-in-Ok-None-clause-counted g c = λ s is not. c.at_end.ensures.counted s is

pub returns-in-Ok-None-clause-printed : goal.returns-in-Ok-None-clause-printed
returns-in-Ok-None-clause-printed g c = λ not. told_waits (λ waiting. g.T.Bytes.printed c.next.new.self waiting) (g.T.Bytes.printed c.args.text.now c.args.w.now.output.waiting) (g.T.Bytes.printed c.loop-b.text c.loop-b.w.output.waiting) c.next.new.w.output.waiting c.at_end.new.w.output.waiting (read_waiting c.walk_len-base.result c.next.new.w c.at_end.new.w c.at_end.ensures.reading) c.loop-b.invariant.printed (c.in-Ok-None.ensures.printed (λ e. cc))

pub returns-in-Ok-None-clause-read_failed : goal.returns-in-Ok-None-clause-read_failed
returns-in-Ok-None-clause-read_failed g c = λ is. absurd (not_a_read stop.Read (c.at_end.ensures.counted stop.Read is) refl)

pub returns-in-Ok-None-clause-write_failed : goal.returns-in-Ok-None-clause-write_failed
returns-in-Ok-None-clause-write_failed g c = λ is. absurd (not_a_write stop.Write (c.at_end.ensures.counted stop.Write is) refl)

pub returns-in-Ok-None-clause-levels : goal.returns-in-Ok-None-clause-levels
returns-in-Ok-None-clause-levels g c = λ whole. levels_back c.walk_len-base.result c.args.w.now.levels c.at_end.new.w.levels c.walk_len-base.ensures (c.at_end.ensures.left whole) (steady_trans c.walk_len-base.result c.args.w.now.levels c.next.new.w.levels c.at_end.new.w.levels (steady_as c.walk_len-base.result c.args.w.now.levels c.loop-b.w c.next.new.w (sym (passed_levels c.loop-b.w c.next.new.w c.next.ensures.world)) c.loop-b.invariant.steady) c.at_end.ensures.reading.steady)

pub returns-in-Ok-None-clause-stands : goal.returns-in-Ok-None-clause-stands
returns-in-Ok-None-clause-stands g c =
    let at = (given_stands c.counts_are_taken.ensures (stock_of c.args.w.now) (g.T.Bytes.takes_turns c.loop-b.text) c.walk_len-base.result c.loop-b.w c.next.new.w c.loop-b.group c.in-Ok-None.field-0 c.in-Ok-None.ensures.turn c.next.ensures.world (c.loop-b.invariant.stands, c.loop-b.invariant.behind)) in
    answer_stands c.reading_keeps_cells.ensures (stock_of c.args.w.now) c.at_end.result (λ t. reader.at_end (in_stock t) (mode_of c.loop-b.mode c.loop-b.word.items) (frames_in c.walk_len-base.result c.next.new.w c.loop-b.group) (stock_of c.next.new.w)) c.at_end.new.w c.loop-b.k
    (end_stands c.reading_keeps_cells.ensures (stock_of c.args.w.now) true (mode_of c.loop-b.mode c.loop-b.word.items) (frames_in c.walk_len-base.result c.next.new.w c.loop-b.group) (stock_of c.next.new.w) (fit_of c.loop-b.mode c.loop-b.word.items c.loop-b.invariant.word) at.1 at.0)
    c.at_end.ensures.ok c.at_end.ensures.syntax c.at_end.ensures.end c.at_end.ensures.stop

pub returns-in-Ok-None-clause-keeps : goal.returns-in-Ok-None-clause-keeps
returns-in-Ok-None-clause-keeps g c = keeps_trans c.args.w.now c.next.new.w c.at_end.new.w (keeps_trans c.args.w.now c.loop-b.w c.next.new.w c.loop-b.invariant.keeps (keeps_given c.loop-b.w c.next.new.w c.next.ensures.world)) (keeps_read c.walk_len-base.result c.next.new.w c.at_end.new.w c.at_end.ensures.reading)

pub returns-in-Err-clause-stop : goal.returns-in-Err-clause-stop
returns-in-Err-clause-stop g c = λ s e. subst (λ (s : Stop). is_fault s ≡ false → TakesBytes (g.T.Bytes.unread c.args.text.now c.args.w.now.input) (g.T.Bytes.unread c.next.new.self c.next.new.w.input) (λ before now. IsStoppedText (g.T.Bytes.takes_turns c.args.text.now) c.args.w.now c.next.new.w before now s)) (stop_same c.in-Err.s s e) (told_wants (g.T.Bytes.takes_turns c.args.text.now) (g.T.Bytes.takes_turns c.loop-b.text) c.loop-b.invariant.turns c.args.w.now c.loop-b.w c.next.new.w (mode_of c.loop-b.mode c.loop-b.word.items) (frames_in c.walk_len-base.result c.loop-b.w c.loop-b.group) c.loop-b.k (g.T.Bytes.unread c.args.text.now c.args.w.now.input) (g.T.Bytes.unread c.loop-b.text c.loop-b.w.input) (g.T.Bytes.unread c.next.new.self c.next.new.w.input) c.in-Err.s c.loop-b.invariant.goes c.in-Err.ensures.stop (passed_same c.loop-b.w c.next.new.w c.next.ensures.world c.in-Err.ensures.err))

pub returns-in-Err-clause-able : goal.returns-in-Err-clause-able
returns-in-Err-clause-able g c = passed_able c.walk_len-base.result c.loop-b.w c.next.new.w c.loop-b.group c.in-Err.ensures.err c.next.ensures.world c.loop-b.invariant.ready

pub returns-in-Err-clause-counted : goal.returns-in-Err-clause-counted
returns-in-Err-clause-counted g c = λ s e. subst (λ (s : Stop). is_fault s ≡ false → is_counted s ≡ true) (stop_same c.in-Err.s s e) (wanted_is_counted (g.T.Bytes.takes_turns c.loop-b.text) (g.T.Bytes.unread c.loop-b.text c.loop-b.w.input) (g.T.Bytes.unread c.next.new.self c.next.new.w.input) c.loop-b.w c.next.new.w c.in-Err.s c.in-Err.ensures.stop)

pub returns-in-Err-clause-printed : goal.returns-in-Err-clause-printed
returns-in-Err-clause-printed g c = λ not. told_same (g.T.Bytes.printed c.args.text.now c.args.w.now.output.waiting) (g.T.Bytes.printed c.loop-b.text c.loop-b.w.output.waiting) (g.T.Bytes.printed c.next.new.self c.next.new.w.output.waiting) c.loop-b.invariant.printed (c.in-Err.ensures.printed (λ e. not (cc)))

pub returns-in-Err-clause-steady_reads : goal.returns-in-Err-clause-steady_reads
returns-in-Err-clause-steady_reads g c = λ not. c.in-Err.ensures.steady_reads (λ e. not (cc)) ∙ c.loop-b.invariant.reads

pub returns-in-Err-clause-steady_writes : goal.returns-in-Err-clause-steady_writes
returns-in-Err-clause-steady_writes g c = λ not. c.in-Err.ensures.steady_writes (λ e. not (cc)) ∙ c.loop-b.invariant.writes

pub returns-in-Err-clause-stands : goal.returns-in-Err-clause-stands
returns-in-Err-clause-stands g c = subst (λ k. LeavesWhatStood (stock_of c.args.w.now) k) (sym (passed_same c.loop-b.w c.next.new.w c.next.ensures.world c.in-Err.ensures.err)) c.loop-b.invariant.stands

pub returns-in-Err-clause-keeps : goal.returns-in-Err-clause-keeps
returns-in-Err-clause-keeps g c = (keeps_trans c.args.w.now c.loop-b.w c.next.new.w c.loop-b.invariant.keeps (keeps_given c.loop-b.w c.next.new.w c.next.ensures.world))

pub read_byte-requires-clause-ready : goal.read_byte-requires-clause-ready
read_byte-requires-clause-ready g c = passed_ready c.bounds_are_kept.ensures (g.T.Bytes.takes_turns c.loop-b.text) c.walk_len-base.result c.loop-b.w c.next.new.w c.loop-b.group c.in-Ok-Some.field-0 c.in-Ok-Some.ensures.turn c.next.ensures.world c.loop-b.invariant.ready

pub returns-in-Err-read_byte-clause-stop : goal.returns-in-Err-read_byte-clause-stop
returns-in-Err-read_byte-clause-stop g c = λ s e not. subst (λ (s : Stop). TakesBytes (g.T.Bytes.unread c.args.text.now c.args.w.now.input) (g.T.Bytes.unread c.next.new.self c.read_byte.new.w.input) (λ before now. IsStoppedText (g.T.Bytes.takes_turns c.args.text.now) c.args.w.now c.read_byte.new.w before now s)) (stop_same c.in-Err-read_byte.s s e) (told_halted (g.T.Bytes.takes_turns c.args.text.now) (g.T.Bytes.takes_turns c.loop-b.text) c.loop-b.invariant.turns c.args.w.now c.loop-b.w c.next.new.w c.walk_len-base.result (mode_of c.loop-b.mode c.loop-b.word.items) c.loop-b.group c.loop-b.k (g.T.Bytes.unread c.args.text.now c.args.w.now.input) (g.T.Bytes.unread c.loop-b.text c.loop-b.w.input) (λ i. g.T.Bytes.unread c.next.new.self i) c.loop-b.invariant.goes c.next.ensures.world c.in-Ok-Some.field-0 c.in-Ok-Some.ensures.gives c.in-Ok-Some.ensures.turn c.in-Ok-Some.b c.in-Ok-Some.field-0-is c.read_byte.new.w.input (read_input c.walk_len-base.result c.next.new.w c.read_byte.new.w c.read_byte.ensures.reading) c.read_byte.new.w c.in-Err-read_byte.s (c.in-Err-read_byte.ensures.means (g.T.Bytes.takes_turns c.args.text.now)))

pub returns-in-Err-read_byte-clause-counted : goal.returns-in-Err-read_byte-clause-counted
returns-in-Err-read_byte-clause-counted g c = λ s e not. subst (λ (s : Stop). is_counted s ≡ true) (stop_same c.in-Err-read_byte.s s e) c.in-Err-read_byte.ensures.sound

pub returns-in-Err-read_byte-clause-printed : goal.returns-in-Err-read_byte-clause-printed
returns-in-Err-read_byte-clause-printed g c = λ not. told_waits (λ waiting. g.T.Bytes.printed c.next.new.self waiting) (g.T.Bytes.printed c.args.text.now c.args.w.now.output.waiting) (g.T.Bytes.printed c.loop-b.text c.loop-b.w.output.waiting) c.next.new.w.output.waiting c.read_byte.new.w.output.waiting (read_waiting c.walk_len-base.result c.next.new.w c.read_byte.new.w c.read_byte.ensures.reading) c.loop-b.invariant.printed (c.in-Ok-Some.ensures.printed (λ e. cc))

pub returns-in-Err-read_byte-clause-stands : goal.returns-in-Err-read_byte-clause-stands
returns-in-Err-read_byte-clause-stands g c =
    let at = (given_stands c.counts_are_taken.ensures (stock_of c.args.w.now) (g.T.Bytes.takes_turns c.loop-b.text) c.walk_len-base.result c.loop-b.w c.next.new.w c.loop-b.group c.in-Ok-Some.field-0 c.in-Ok-Some.ensures.turn c.next.ensures.world (c.loop-b.invariant.stands, c.loop-b.invariant.behind)) in
    byte_stands c.reading_keeps_cells.ensures (stock_of c.args.w.now) (g.T.Bytes.takes_turns c.args.text.now) (mode_of c.loop-b.mode c.loop-b.word.items) c.in-Ok-Some.b (frames_in c.walk_len-base.result c.next.new.w c.loop-b.group) (stock_of c.next.new.w) _ (fit_of c.loop-b.mode c.loop-b.word.items c.loop-b.invariant.word) at.1 at.0 (c.in-Err-read_byte.ensures.means (g.T.Bytes.takes_turns c.args.text.now))

pub returns-in-Err-read_byte-clause-keeps : goal.returns-in-Err-read_byte-clause-keeps
returns-in-Err-read_byte-clause-keeps g c = (keeps_trans c.args.w.now c.next.new.w c.read_byte.new.w (keeps_trans c.args.w.now c.loop-b.w c.next.new.w c.loop-b.invariant.keeps (keeps_given c.loop-b.w c.next.new.w c.next.ensures.world)) (keeps_read c.walk_len-base.result c.next.new.w c.read_byte.new.w c.read_byte.ensures.reading))

pub returns-in-Done-clause-ok : goal.returns-in-Done-clause-ok
returns-in-Done-clause-ok g c = elim c.if-not-used.branch [
  | then-not-used w ↦ subst (λ (x : World). TakesBytes (g.T.Bytes.unread c.args.text.now c.args.w.now.input) (g.T.Bytes.unread c.if-not-used.text x.input) (λ before now. read_by (in_stock (g.T.Bytes.takes_turns c.args.text.now)) (stock_of c.args.w.now) before ≡ Read c.in-Done.v (stock_of x) now)) (sym w.w-is)
      (subst (λ (t : g.row.T.Denot). TakesBytes (g.T.Bytes.unread c.args.text.now c.args.w.now.input) (g.T.Bytes.unread t w.back.new.w.input) (λ before now. read_by (in_stock (g.T.Bytes.takes_turns c.args.text.now)) (stock_of c.args.w.now) before ≡ Read c.in-Done.v (stock_of w.back.new.w) now)) (sym w.text-is) (subst (λ (k : Stock). TakesBytes (g.T.Bytes.unread c.args.text.now c.args.w.now.input) (g.T.Bytes.unread w.back.new.self w.back.new.w.input) (λ before now. read_by (in_stock (g.T.Bytes.takes_turns c.args.text.now)) (stock_of c.args.w.now) before ≡ Read c.in-Done.v k now)) (sym (ap (λ (x : World). stock_of x) w.back.ensures.world))
      (told_before (g.T.Bytes.takes_turns c.args.text.now) (g.T.Bytes.takes_turns c.loop-b.text) c.loop-b.invariant.turns c.args.w.now c.loop-b.w c.next.new.w c.walk_len-base.result (mode_of c.loop-b.mode c.loop-b.word.items) c.loop-b.group c.loop-b.k (g.T.Bytes.unread c.args.text.now c.args.w.now.input) (g.T.Bytes.unread c.loop-b.text c.loop-b.w.input) (λ i. g.T.Bytes.unread c.next.new.self i) c.loop-b.invariant.goes c.next.ensures.world c.in-Ok-Some.field-0 c.in-Ok-Some.ensures.gives c.in-Ok-Some.ensures.turn c.in-Ok-Some.b c.in-Ok-Some.field-0-is c.read_byte.new.w.input (read_input c.walk_len-base.result c.next.new.w c.read_byte.new.w c.read_byte.ensures.reading) c.in-Done.v (stock_of c.read_byte.new.w) (g.T.Bytes.unread w.back.new.self w.back.new.w.input) (c.in-Ok.ensures.means (g.T.Bytes.takes_turns c.args.text.now) ∙ ap (λ x. step_of c.walk_len-base.result c.read_byte.new.w c.read_byte.new.word.items x) c.in-Done.is ∙ ap (λ (u : Bool). reader.Done c.in-Done.v u (stock_of c.read_byte.new.w)) w.if-not-used.true) w.back.ensures.back)))
  | else-not-used w ↦ subst (λ (x : World). TakesBytes (g.T.Bytes.unread c.args.text.now c.args.w.now.input) (g.T.Bytes.unread c.if-not-used.text x.input) (λ before now. read_by (in_stock (g.T.Bytes.takes_turns c.args.text.now)) (stock_of c.args.w.now) before ≡ Read c.in-Done.v (stock_of x) now)) (sym w.w-is)
      (subst (λ (t : g.row.T.Denot). TakesBytes (g.T.Bytes.unread c.args.text.now c.args.w.now.input) (g.T.Bytes.unread t c.read_byte.new.w.input) (λ before now. read_by (in_stock (g.T.Bytes.takes_turns c.args.text.now)) (stock_of c.args.w.now) before ≡ Read c.in-Done.v (stock_of c.read_byte.new.w) now)) (sym w.text-is) (told_done (g.T.Bytes.takes_turns c.args.text.now) (g.T.Bytes.takes_turns c.loop-b.text) c.loop-b.invariant.turns c.args.w.now c.loop-b.w c.next.new.w c.walk_len-base.result (mode_of c.loop-b.mode c.loop-b.word.items) c.loop-b.group c.loop-b.k (g.T.Bytes.unread c.args.text.now c.args.w.now.input) (g.T.Bytes.unread c.loop-b.text c.loop-b.w.input) (λ i. g.T.Bytes.unread c.next.new.self i) c.loop-b.invariant.goes c.next.ensures.world c.in-Ok-Some.field-0 c.in-Ok-Some.ensures.gives c.in-Ok-Some.ensures.turn c.in-Ok-Some.b c.in-Ok-Some.field-0-is c.read_byte.new.w.input (read_input c.walk_len-base.result c.next.new.w c.read_byte.new.w c.read_byte.ensures.reading) c.in-Done.v (stock_of c.read_byte.new.w) (c.in-Ok.ensures.means (g.T.Bytes.takes_turns c.args.text.now) ∙ ap (λ x. step_of c.walk_len-base.result c.read_byte.new.w c.read_byte.new.word.items x) c.in-Done.is ∙ ap (λ (u : Bool). reader.Done c.in-Done.v u (stock_of c.read_byte.new.w)) w.if-not-used.false)))
]

pub returns-in-Done-clause-printed : goal.returns-in-Done-clause-printed
returns-in-Done-clause-printed g c = elim c.if-not-used.branch [
  | then-not-used w ↦ λ not. subst (λ (x : World). WhereTold (g.T.Bytes.printed c.args.text.now c.args.w.now.output.waiting) (g.T.Bytes.printed c.if-not-used.text x.output.waiting) (λ before now. now ≡ before)) (sym w.w-is)
      (subst (λ (t : g.row.T.Denot). WhereTold (g.T.Bytes.printed c.args.text.now c.args.w.now.output.waiting) (g.T.Bytes.printed t w.back.new.w.output.waiting) (λ before now. now ≡ before)) (sym w.text-is) (told_same (g.T.Bytes.printed c.args.text.now c.args.w.now.output.waiting) (g.T.Bytes.printed c.next.new.self c.read_byte.new.w.output.waiting) (g.T.Bytes.printed w.back.new.self w.back.new.w.output.waiting) (told_waits (λ waiting. g.T.Bytes.printed c.next.new.self waiting) (g.T.Bytes.printed c.args.text.now c.args.w.now.output.waiting) (g.T.Bytes.printed c.loop-b.text c.loop-b.w.output.waiting) c.next.new.w.output.waiting c.read_byte.new.w.output.waiting (read_waiting c.walk_len-base.result c.next.new.w c.read_byte.new.w c.read_byte.ensures.reading) c.loop-b.invariant.printed (c.in-Ok-Some.ensures.printed (λ e. cc))) w.back.ensures.printed))
  | else-not-used w ↦ λ not. subst (λ (x : World). WhereTold (g.T.Bytes.printed c.args.text.now c.args.w.now.output.waiting) (g.T.Bytes.printed c.if-not-used.text x.output.waiting) (λ before now. now ≡ before)) (sym w.w-is)
      (subst (λ (t : g.row.T.Denot). WhereTold (g.T.Bytes.printed c.args.text.now c.args.w.now.output.waiting) (g.T.Bytes.printed t c.read_byte.new.w.output.waiting) (λ before now. now ≡ before)) (sym w.text-is) (told_waits (λ waiting. g.T.Bytes.printed c.next.new.self waiting) (g.T.Bytes.printed c.args.text.now c.args.w.now.output.waiting) (g.T.Bytes.printed c.loop-b.text c.loop-b.w.output.waiting) c.next.new.w.output.waiting c.read_byte.new.w.output.waiting (read_waiting c.walk_len-base.result c.next.new.w c.read_byte.new.w c.read_byte.ensures.reading) c.loop-b.invariant.printed (c.in-Ok-Some.ensures.printed (λ e. cc))))
]

pub returns-in-Done-clause-steady_reads : goal.returns-in-Done-clause-steady_reads
returns-in-Done-clause-steady_reads g c = elim c.if-not-used.branch [
  | then-not-used w ↦ λ not. ap (λ (t : g.row.T.Denot). g.T.Bytes.reads t) w.text-is ∙ (w.back.ensures.steady_reads ∙ (c.in-Ok-Some.ensures.steady_reads (λ e. cc) ∙ c.loop-b.invariant.reads))
  | else-not-used w ↦ λ not. ap (λ (t : g.row.T.Denot). g.T.Bytes.reads t) w.text-is ∙ (c.in-Ok-Some.ensures.steady_reads (λ e. cc) ∙ c.loop-b.invariant.reads)
]

pub returns-in-Done-clause-steady_writes : goal.returns-in-Done-clause-steady_writes
returns-in-Done-clause-steady_writes g c = elim c.if-not-used.branch [
  | then-not-used w ↦ λ not. ap (λ (t : g.row.T.Denot). g.T.Bytes.writes t) w.text-is ∙ (w.back.ensures.steady_writes ∙ (c.in-Ok-Some.ensures.steady_writes (λ e. cc) ∙ c.loop-b.invariant.writes))
  | else-not-used w ↦ λ not. ap (λ (t : g.row.T.Denot). g.T.Bytes.writes t) w.text-is ∙ (c.in-Ok-Some.ensures.steady_writes (λ e. cc) ∙ c.loop-b.invariant.writes)
]

pub returns-in-Done-clause-kept : goal.returns-in-Done-clause-kept
returns-in-Done-clause-kept g c = elim c.if-not-used.branch [
  | then-not-used w ↦ ap (λ (t : g.row.T.Denot). g.T.Bytes.kept t) w.text-is ∙ (w.back.ensures.kept ∙ (c.next.ensures.kept ∙ c.loop-b.invariant.kept))
  | else-not-used w ↦ ap (λ (t : g.row.T.Denot). g.T.Bytes.kept t) w.text-is ∙ (c.next.ensures.kept ∙ c.loop-b.invariant.kept)
]

pub returns-in-Done-clause-live : goal.returns-in-Done-clause-live
returns-in-Done-clause-live g c = let whole = (subst (λ x. IsStep c.walk_len-base.result c.read_byte.new.w c.read_byte.new.word.items x) c.in-Done.is c.in-Ok.ensures.sound) in subst (λ (x : World). IsTrue (is_live x.cells.cells c.in-Done.v)) (sym (done_world g c)) whole.live

pub returns-in-Done-clause-able : goal.returns-in-Done-clause-able
returns-in-Done-clause-able g c = subst (λ (x : World). CanMake x) (sym (done_world g c)) c.read_byte.ensures.able

pub returns-in-Done-clause-levels : goal.returns-in-Done-clause-levels
returns-in-Done-clause-levels g c = λ u. let whole = (subst (λ x. IsStep c.walk_len-base.result c.read_byte.new.w c.read_byte.new.word.items x) c.in-Done.is c.in-Ok.ensures.sound) in ap (λ (x : World). x.levels) (done_world g c) ∙ levels_back c.walk_len-base.result c.args.w.now.levels c.read_byte.new.w.levels c.walk_len-base.ensures (whole.ready.root refl) (steady_trans c.walk_len-base.result c.args.w.now.levels c.next.new.w.levels c.read_byte.new.w.levels (steady_as c.walk_len-base.result c.args.w.now.levels c.loop-b.w c.next.new.w (sym (passed_levels c.loop-b.w c.next.new.w c.next.ensures.world)) c.loop-b.invariant.steady) c.read_byte.ensures.reading.steady)

pub returns-in-Done-clause-stands : goal.returns-in-Done-clause-stands
returns-in-Done-clause-stands g c =
    let at = (given_stands c.counts_are_taken.ensures (stock_of c.args.w.now) (g.T.Bytes.takes_turns c.loop-b.text) c.walk_len-base.result c.loop-b.w c.next.new.w c.loop-b.group c.in-Ok-Some.field-0 c.in-Ok-Some.ensures.turn c.next.ensures.world (c.loop-b.invariant.stands, c.loop-b.invariant.behind)) in
    subst (λ (x : World). LeavesWhatStood (stock_of c.args.w.now) (stock_of x)) (sym (done_world g c))
    (byte_stands c.reading_keeps_cells.ensures (stock_of c.args.w.now) (g.T.Bytes.takes_turns c.args.text.now) (mode_of c.loop-b.mode c.loop-b.word.items) c.in-Ok-Some.b (frames_in c.walk_len-base.result c.next.new.w c.loop-b.group) (stock_of c.next.new.w) _ (fit_of c.loop-b.mode c.loop-b.word.items c.loop-b.invariant.word) at.1 at.0 (c.in-Ok.ensures.means (g.T.Bytes.takes_turns c.args.text.now) ∙ ap (λ x. step_of c.walk_len-base.result c.read_byte.new.w c.read_byte.new.word.items x) c.in-Done.is))

pub returns-in-Done-clause-keeps : goal.returns-in-Done-clause-keeps
returns-in-Done-clause-keeps g c = keeps_trans c.args.w.now c.read_byte.new.w c.if-not-used.w (keeps_trans c.args.w.now c.next.new.w c.read_byte.new.w (keeps_trans c.args.w.now c.loop-b.w c.next.new.w c.loop-b.invariant.keeps (keeps_given c.loop-b.w c.next.new.w c.next.ensures.world)) (keeps_read c.walk_len-base.result c.next.new.w c.read_byte.new.w c.read_byte.ensures.reading)) (keeps_back c.read_byte.new.w c.if-not-used.w (done_world g c))

pub returns-in-Refuses-clause-syntax : goal.returns-in-Refuses-clause-syntax
returns-in-Refuses-clause-syntax g c = λ k is. subst (λ (k : ℕ). TakesBytes (g.T.Bytes.unread c.args.text.now c.args.w.now.input) (g.T.Bytes.unread c.next.new.self c.refused.new.w.input) (λ before now. IsRefusedText (g.T.Bytes.takes_turns c.args.text.now) c.args.w.now c.refused.new.w before now k)) (sym (same_place c.refused.result k c.loop-b.k c.refused.ensures.syntax is)) (told_refused (g.T.Bytes.takes_turns c.args.text.now) (g.T.Bytes.takes_turns c.loop-b.text) c.loop-b.invariant.turns c.args.w.now c.loop-b.w c.next.new.w c.walk_len-base.result (mode_of c.loop-b.mode c.loop-b.word.items) c.loop-b.group c.loop-b.k (g.T.Bytes.unread c.args.text.now c.args.w.now.input) (g.T.Bytes.unread c.loop-b.text c.loop-b.w.input) (λ i. g.T.Bytes.unread c.next.new.self i) c.loop-b.invariant.goes c.next.ensures.world c.in-Ok-Some.field-0 c.in-Ok-Some.ensures.gives c.in-Ok-Some.ensures.turn c.in-Ok-Some.b c.in-Ok-Some.field-0-is c.refused.new.w.input (left_input c.read_byte.new.w c.refused.new.w c.refused.ensures.levels.world ∙ read_input c.walk_len-base.result c.next.new.w c.read_byte.new.w c.read_byte.ensures.reading) (stock_of c.read_byte.new.w) c.refused.new.w (c.in-Ok.ensures.means (g.T.Bytes.takes_turns c.args.text.now) ∙ ap (λ x. step_of c.walk_len-base.result c.read_byte.new.w c.read_byte.new.word.items x) c.in-Refuses.is) (levels_left c.read_byte.new.w c.refused.new.w c.refused.ensures.levels.world))

pub returns-in-Refuses-clause-printed : goal.returns-in-Refuses-clause-printed
returns-in-Refuses-clause-printed g c = λ not. told_waits (λ waiting. g.T.Bytes.printed c.next.new.self waiting) (g.T.Bytes.printed c.args.text.now c.args.w.now.output.waiting) (g.T.Bytes.printed c.loop-b.text c.loop-b.w.output.waiting) c.next.new.w.output.waiting c.refused.new.w.output.waiting (left_waiting c.read_byte.new.w c.refused.new.w c.refused.ensures.levels.world ∙ read_waiting c.walk_len-base.result c.next.new.w c.read_byte.new.w c.read_byte.ensures.reading) c.loop-b.invariant.printed (c.in-Ok-Some.ensures.printed (λ e. cc))

pub returns-in-Refuses-clause-levels : goal.returns-in-Refuses-clause-levels
returns-in-Refuses-clause-levels g c = λ whole. levels_back c.walk_len-base.result c.args.w.now.levels c.refused.new.w.levels c.walk_len-base.ensures c.refused.ensures.left (steady_trans c.walk_len-base.result c.args.w.now.levels c.read_byte.new.w.levels c.refused.new.w.levels (steady_trans c.walk_len-base.result c.args.w.now.levels c.next.new.w.levels c.read_byte.new.w.levels (steady_as c.walk_len-base.result c.args.w.now.levels c.loop-b.w c.next.new.w (sym (passed_levels c.loop-b.w c.next.new.w c.next.ensures.world)) c.loop-b.invariant.steady) c.read_byte.ensures.reading.steady) c.refused.ensures.levels.steady)

pub returns-in-Refuses-clause-stands : goal.returns-in-Refuses-clause-stands
returns-in-Refuses-clause-stands g c =
    let at = (given_stands c.counts_are_taken.ensures (stock_of c.args.w.now) (g.T.Bytes.takes_turns c.loop-b.text) c.walk_len-base.result c.loop-b.w c.next.new.w c.loop-b.group c.in-Ok-Some.field-0 c.in-Ok-Some.ensures.turn c.next.ensures.world (c.loop-b.invariant.stands, c.loop-b.invariant.behind)) in
    stood_levels (stock_of c.args.w.now) (stock_of c.read_byte.new.w) (stock_of c.refused.new.w) _ (levels_left c.read_byte.new.w c.refused.new.w c.refused.ensures.levels.world)
    (byte_stands c.reading_keeps_cells.ensures (stock_of c.args.w.now) (g.T.Bytes.takes_turns c.args.text.now) (mode_of c.loop-b.mode c.loop-b.word.items) c.in-Ok-Some.b (frames_in c.walk_len-base.result c.next.new.w c.loop-b.group) (stock_of c.next.new.w) _ (fit_of c.loop-b.mode c.loop-b.word.items c.loop-b.invariant.word) at.1 at.0 (c.in-Ok.ensures.means (g.T.Bytes.takes_turns c.args.text.now) ∙ ap (λ x. step_of c.walk_len-base.result c.read_byte.new.w c.read_byte.new.word.items x) c.in-Refuses.is))

pub returns-in-Refuses-clause-keeps : goal.returns-in-Refuses-clause-keeps
returns-in-Refuses-clause-keeps g c = keeps_trans c.args.w.now c.read_byte.new.w c.refused.new.w (keeps_trans c.args.w.now c.next.new.w c.read_byte.new.w (keeps_trans c.args.w.now c.loop-b.w c.next.new.w c.loop-b.invariant.keeps (keeps_given c.loop-b.w c.next.new.w c.next.ensures.world)) (keeps_read c.walk_len-base.result c.next.new.w c.read_byte.new.w c.read_byte.ensures.reading)) (keeps_levels c.read_byte.new.w c.refused.new.w c.refused.ensures.levels.world)

pub loop-b-smaller : goal.loop-b-smaller
loop-b-smaller g c = measure_falls (g.T.Bytes.takes_turns c.loop-b.text) (g.T.Bytes.takes_turns c.next.new.self) (count_turns_left c.loop-b.w.counts) (count_turns_left c.read_byte.new.w.counts) (g.T.Bytes.number c.loop-b.text c.loop-b.w.input) (g.T.Bytes.number c.next.new.self c.read_byte.new.w.input) c.next.ensures.same
    (λ takes. turns_fall (g.T.Bytes.takes_turns c.loop-b.text) c.loop-b.w c.next.new.w c.read_byte.new.w c.in-Ok-Some.field-0 c.in-Ok-Some.b c.in-Ok-Some.field-0-is takes c.in-Ok-Some.ensures.turn
    (goes_left (g.T.Bytes.takes_turns c.args.text.now) (mode_of c.loop-b.mode c.loop-b.word.items) (mode_of c.in-Goes.next c.read_byte.new.word.items) c.in-Ok-Some.b (frames_in c.walk_len-base.result c.next.new.w c.loop-b.group) (frames_in c.walk_len-base.result c.read_byte.new.w c.in-Goes.inside) (stock_of c.next.new.w) (stock_of c.read_byte.new.w) (c.in-Ok.ensures.means (g.T.Bytes.takes_turns c.args.text.now) ∙ ap (λ x. step_of c.walk_len-base.result c.read_byte.new.w c.read_byte.new.word.items x) c.in-Goes.is)))
    (λ none. subst (λ (i : Input). g.T.Bytes.number c.next.new.self i < g.T.Bytes.number c.loop-b.text c.loop-b.w.input) (sym (read_input c.walk_len-base.result c.next.new.w c.read_byte.new.w c.read_byte.ensures.reading)) (c.in-Ok-Some.ensures.lower (subst (λ (o : Option ℕ). IsSome o) (sym c.in-Ok-Some.field-0-is) refl) none))

pub loop-b-preserved : goal.loop-b-preserved
loop-b-preserved g c = let is = subst (λ x. IsStep c.walk_len-base.result c.read_byte.new.w c.read_byte.new.word.items x) c.in-Goes.is c.in-Ok.ensures.sound in
    let at = (given_stands c.counts_are_taken.ensures (stock_of c.args.w.now) (g.T.Bytes.takes_turns c.loop-b.text) c.walk_len-base.result c.loop-b.w c.next.new.w c.loop-b.group c.in-Ok-Some.field-0 c.in-Ok-Some.ensures.turn c.next.ensures.world (c.loop-b.invariant.stands, c.loop-b.invariant.behind)) in
    let on = byte_stands c.reading_keeps_cells.ensures (stock_of c.args.w.now) (g.T.Bytes.takes_turns c.args.text.now) (mode_of c.loop-b.mode c.loop-b.word.items) c.in-Ok-Some.b (frames_in c.walk_len-base.result c.next.new.w c.loop-b.group) (stock_of c.next.new.w) _ (fit_of c.loop-b.mode c.loop-b.word.items c.loop-b.invariant.word) at.1 at.0 (c.in-Ok.ensures.means (g.T.Bytes.takes_turns c.args.text.now) ∙ ap (λ x. step_of c.walk_len-base.result c.read_byte.new.w c.read_byte.new.word.items x) c.in-Goes.is) in
    record {
      base = c.loop-b.invariant.base;
      ready = is.0;
      word = is.1;
      turns = c.next.ensures.same ∙ c.loop-b.invariant.turns;
      goes = told_on (g.T.Bytes.takes_turns c.args.text.now) (g.T.Bytes.takes_turns c.loop-b.text) c.loop-b.invariant.turns c.args.w.now c.loop-b.w c.next.new.w c.walk_len-base.result (mode_of c.loop-b.mode c.loop-b.word.items) c.loop-b.group c.loop-b.k (g.T.Bytes.unread c.args.text.now c.args.w.now.input) (g.T.Bytes.unread c.loop-b.text c.loop-b.w.input) (λ i. g.T.Bytes.unread c.next.new.self i) c.loop-b.invariant.goes c.next.ensures.world c.in-Ok-Some.field-0 c.in-Ok-Some.ensures.gives c.in-Ok-Some.ensures.turn c.in-Ok-Some.b c.in-Ok-Some.field-0-is c.read_byte.new.w.input (read_input c.walk_len-base.result c.next.new.w c.read_byte.new.w c.read_byte.ensures.reading) (mode_of c.in-Goes.next c.read_byte.new.word.items) (frames_in c.walk_len-base.result c.read_byte.new.w c.in-Goes.inside) (stock_of c.read_byte.new.w) c.saturating_add-k.result (c.in-Ok.ensures.means (g.T.Bytes.takes_turns c.args.text.now) ∙ ap (λ x. step_of c.walk_len-base.result c.read_byte.new.w c.read_byte.new.word.items x) c.in-Goes.is) c.saturating_add-k.ensures;
      printed = told_waits (λ waiting. g.T.Bytes.printed c.next.new.self waiting) (g.T.Bytes.printed c.args.text.now c.args.w.now.output.waiting) (g.T.Bytes.printed c.loop-b.text c.loop-b.w.output.waiting) c.next.new.w.output.waiting c.read_byte.new.w.output.waiting (read_waiting c.walk_len-base.result c.next.new.w c.read_byte.new.w c.read_byte.ensures.reading) c.loop-b.invariant.printed (c.in-Ok-Some.ensures.printed (λ e. cc));
      reads = c.in-Ok-Some.ensures.steady_reads (λ e. cc) ∙ c.loop-b.invariant.reads;
      writes = c.in-Ok-Some.ensures.steady_writes (λ e. cc) ∙ c.loop-b.invariant.writes;
      kept = c.next.ensures.kept ∙ c.loop-b.invariant.kept;
      stands = on.0;
      behind = on.1;
      keeps = (keeps_trans c.args.w.now c.next.new.w c.read_byte.new.w (keeps_trans c.args.w.now c.loop-b.w c.next.new.w c.loop-b.invariant.keeps (keeps_given c.loop-b.w c.next.new.w c.next.ensures.world)) (keeps_read c.walk_len-base.result c.next.new.w c.read_byte.new.w c.read_byte.ensures.reading));
      steady = (steady_trans c.walk_len-base.result c.args.w.now.levels c.next.new.w.levels c.read_byte.new.w.levels (steady_as c.walk_len-base.result c.args.w.now.levels c.loop-b.w c.next.new.w (sym (passed_levels c.loop-b.w c.next.new.w c.next.ensures.world)) c.loop-b.invariant.steady) c.read_byte.ensures.reading.steady);
    }

pub returns-in-Err-clause-cut : goal.returns-in-Err-clause-cut
returns-in-Err-clause-cut g c = λ failed. told_same_cut (g.T.Bytes.printed c.args.text.now c.args.w.now.output.waiting) (g.T.Bytes.printed c.loop-b.text c.loop-b.w.output.waiting) (g.T.Bytes.printed c.next.new.self c.next.new.w.output.waiting) c.loop-b.invariant.printed (c.in-Err.ensures.cut (cc))

pub returns-in-Ok-None-clause-cut : goal.returns-in-Ok-None-clause-cut
returns-in-Ok-None-clause-cut g c = λ failed. absurd (not_a_write stop.Write (c.at_end.ensures.counted stop.Write failed) refl)
