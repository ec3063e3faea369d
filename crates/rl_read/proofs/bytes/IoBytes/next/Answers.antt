use Rattle.std.proofs.Common.{◌≡◌, ◌∙◌, ap, sym, subst, inl}
use Rattle.rl_world.specs.Input.{Gives, Input}
use Rattle.rl_world.specs.declared.world.World.{World}
use Rattle.rl_world.specs.Counts.{WorldCounts, tick_stop}
use Rattle.rl_read.specs.Taken.{TakesBytes}
use Rattle.rl_read.proofs.InputTakes.{input_takes, takes_some, unread_input}
use Rattle.rl_read.proofs.ToldByCalls.{told_cut}
use Rattle.rl_read.proofs.bytes.IoBytes.next.Goals as goal
use Rattle.rl_read.proofs.bytes.IoBytes.next.Goals.{then-is_some+in_default, else-is_some}

pub returns-clause-gives : goal.returns-clause-gives
returns-clause-gives g c =
    let takes = input_takes (λ i. g.I.Source.left i) c.args.self.now.input.now c.input_byte.new.io.input.now c.args.w.now.input c.input_byte.new.self.input c.in-Ok.b
    c.in-Ok.ensures.gives c.in-Ok.ensures.at_end c.input_byte.ensures.unread_back c.input_byte.ensures.unread_end c.in-Ok.ensures.back c.in-Ok.ensures.place in
    let at : Input → Type 0 = λ i. TakesBytes (unread_input c.args.w.now.input (g.I.Source.left c.args.self.now.input.now)) (unread_input i (g.I.Source.left c.input_byte.new.io.input.now)) (λ before now. Gives before now c.in-Ok.b) in
    elim c.if-is_some.branch [
      | then-is_some+in_default w ↦ subst at (sym (ap (λ (x : World). x.input) w.w-is ∙ ap (λ (x : World). x.input) w.in_default.ensures.counted)) takes
      | else-is_some w ↦ subst at (sym (ap (λ (x : World). x.input) w.w-is)) takes
    ]

pub returns-in-Err-tick-clause-stop : goal.returns-in-Err-tick-clause-stop
returns-in-Err-tick-clause-stop g c =
    let takes = input_takes (λ i. g.I.Source.left i) c.args.self.now.input.now c.input_byte.new.io.input.now c.args.w.now.input c.input_byte.new.self.input c.in-Ok.b
    c.in-Ok.ensures.gives c.in-Ok.ensures.at_end c.input_byte.ensures.unread_back c.input_byte.ensures.unread_end c.in-Ok.ensures.back c.in-Ok.ensures.place in
    let counts : c.input_byte.new.self.counts ≡ c.args.w.now.counts = ap (λ (x : World). x.counts) c.input_byte.ensures.world in
    let same : c.tick.new.self ≡ c.input_byte.new.self = c.in-Err-tick.ensures.err in
    let at : Input → Type 0 = λ i. TakesBytes (unread_input c.args.w.now.input (g.I.Source.left c.args.self.now.input.now)) (unread_input i (g.I.Source.left c.input_byte.new.io.input.now)) (λ before now. Gives before now c.in-Ok.b) in
    inl (record {
      stop_is = ap (λ (n : WorldCounts). tick_stop n) (sym counts) ∙ c.in-Err-tick.ensures.stop;
      counts = ap (λ (x : World). x.counts) same ∙ counts;
      given = takes_some _ _ c.in-Ok.b (sym c.is_some.ensures ∙ c.if-is_some.true) (subst at (sym (ap (λ (x : World). x.input) same)) takes);
    })

pub returns-in-Err-clause-err : goal.returns-in-Err-clause-err
returns-in-Err-clause-err g c = ap (λ (x : World). x.counts) c.input_byte.ensures.world

pub returns-in-Err-tick-clause-err : goal.returns-in-Err-tick-clause-err
returns-in-Err-tick-clause-err g c = ap (λ (x : World). x.counts) c.in-Err-tick.ensures.err ∙ ap (λ (x : World). x.counts) c.input_byte.ensures.world

pub returns-in-Err-clause-cut : goal.returns-in-Err-clause-cut
returns-in-Err-clause-cut g c failed = told_cut (g.O.Sink.contents c.args.self.now.out.now) (g.O.Sink.contents c.input_byte.new.io.out.now) c.args.w.now.output.waiting c.input_byte.new.self.output.waiting (ap (λ (x : World). x.output.waiting) c.input_byte.ensures.world) c.input_byte.ensures.printed_front
