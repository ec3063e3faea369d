use Rattle.std.proofs.Common.{ap}
use Rattle.std.specs.Prelude.{Err}
use Rattle.rl_state.proofs.Outer.{grows_outer}
use Rattle.rl_state.proofs.TiedBytes.{next, taking_cut, taking_faults, unread_as}
use Rattle.rl_state.proofs.outside.next_byte.Goals as goal

pub returns-in-Ok-clause-means : goal.returns-in-Ok-clause-means
returns-in-Ok-clause-means g c = next c.args.w.now c.input_byte.new.self c.in-Ok.b _ _ _ _ _ _ c.in-Ok.ensures.world c.in-Ok.ensures.place c.in-Ok.ensures.gives c.in-Ok.ensures.at_end c.in-Ok.ensures.back (unread_as c.args.w.now.input.back c.input_byte.new.io.input.now c.args.io.now.input.now g.I.Source.left c.in-Ok.ensures.unread_back) (λ e. ap g.I.Source.left (c.in-Ok.ensures.unread_end e)) (c.in-Ok.ensures.printed (λ e. absurd (cc))) (ap (λ io. g.N.Sink.contents io.notes.now) c.in-Ok.ensures.rest)

pub returns-in-Err-clause-cut : goal.returns-in-Err-clause-cut
returns-in-Err-clause-cut g c at coming s h = taking_cut at c.args.w.now c.input_byte.new.self _ _ _ _ _ _ coming s (ap (λ io. g.N.Sink.contents io.notes.now) c.in-Err.ensures.rest) c.in-Err.ensures.printed_front h

pub returns-in-Ok-clause-faults : goal.returns-in-Ok-clause-faults
returns-in-Ok-clause-faults g c = (c.in-Ok.ensures.steady_out (λ e. absurd (cc)), c.in-Ok.ensures.steady_input (λ e. absurd (cc)))

pub returns-in-Err-clause-faults : goal.returns-in-Err-clause-faults
returns-in-Err-clause-faults g c =
    taking_faults c.in-Err.why _ _ _ _ c.in-Err.ensures.stop (λ e. c.in-Err.ensures.write_failed (ap Err e)) (λ e. c.in-Err.ensures.read_failed (ap Err e))
    (λ f. c.in-Err.ensures.steady_out (λ e. f (cc))) (λ f. c.in-Err.ensures.steady_input (λ e. f (cc)))

pub returns-in-Ok-clause-grows : goal.returns-in-Ok-clause-grows
returns-in-Ok-clause-grows g c = grows_outer c.args.w.now c.input_byte.new.self _ _ _ c.in-Ok.ensures.world

pub returns-in-Err-clause-grows : goal.returns-in-Err-clause-grows
returns-in-Err-clause-grows g c = grows_outer c.args.w.now c.input_byte.new.self _ _ _ c.in-Err.ensures.world

pub returns-in-Ok-clause-rest : goal.returns-in-Ok-clause-rest
returns-in-Ok-clause-rest g c = record { world = c.in-Ok.ensures.world; objects = c.in-Ok.ensures.rest; same_input = c.in-Ok.ensures.same_input; same_out = c.in-Ok.ensures.same_out }

pub returns-in-Err-clause-rest : goal.returns-in-Err-clause-rest
returns-in-Err-clause-rest g c = record { world = c.in-Err.ensures.world; objects = c.in-Err.ensures.rest; same_input = c.in-Err.ensures.same_input; same_out = c.in-Err.ensures.same_out }
