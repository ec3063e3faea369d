use Rattle.std.proofs.Common.{ap}
use Rattle.rl_state.proofs.ReadingGrows.{reading_grows}
use Rattle.rl_state.proofs.ReadingTied.{can_make, end_takes, fault_cuts, fault_leaves, form_takes, not_written, refused_takes, stop_takes}
use Rattle.rl_state.proofs.reading.read.Goals as goal

pub read_form-form-requires : goal.read_form-form-requires
read_form-form-requires g c = can_make c.args.w.now c.requires.world

pub returns-in-Ok-clause-form : goal.returns-in-Ok-clause-form
returns-in-Ok-clause-form g c =
    form_takes c.cells_are_known.ensures c.names_are_identifiers.ensures c.args.w.now c.read_form-form.new.w _ _ _ _ _ _ c.in-Ok.v c.requires.world c.is_closed.ensures c.in-Ok.ensures.keeps.world
    (c.in-Ok.ensures.printed (λ e. absurd (cc))) (ap (λ k. g.N.Sink.contents k.2.now) c.in-Ok.ensures.kept) c.in-Ok.ensures.ok

pub returns-in-Err-clause-syntax : goal.returns-in-Err-clause-syntax
returns-in-Err-clause-syntax g c k e =
    refused_takes c.cells_are_known.ensures c.names_are_identifiers.ensures c.args.w.now c.read_form-form.new.w _ _ _ _ _ _ k c.requires.world c.is_closed.ensures c.in-Err.ensures.keeps.world
    (c.in-Err.ensures.printed (λ f. absurd (cc))) (ap (λ k. g.N.Sink.contents k.2.now) c.in-Err.ensures.kept) (c.in-Err.ensures.syntax k e)

pub returns-in-Err-clause-end : goal.returns-in-Err-clause-end
returns-in-Err-clause-end g c e =
    end_takes c.cells_are_known.ensures c.names_are_identifiers.ensures c.args.w.now c.read_form-form.new.w _ _ _ _ _ _ c.requires.world c.is_closed.ensures c.in-Err.ensures.keeps.world
    (c.in-Err.ensures.printed (λ f. absurd (cc))) (ap (λ k. g.N.Sink.contents k.2.now) c.in-Err.ensures.kept) (c.in-Err.ensures.end e)

pub returns-in-Ok-clause-rest : goal.returns-in-Ok-clause-rest
returns-in-Ok-clause-rest g c =
    let kept = c.in-Ok.ensures.kept in
    record { notes = ap (λ k. k.2) kept; files = ap (λ k. k.3) kept; same_input = ap (λ k. k.0) kept; same_out = ap (λ k. k.1) kept }

pub returns-in-Err-clause-rest : goal.returns-in-Err-clause-rest
returns-in-Err-clause-rest g c =
    let kept = c.in-Err.ensures.kept in
    record { notes = ap (λ k. k.2) kept; files = ap (λ k. k.3) kept; same_input = ap (λ k. k.0) kept; same_out = ap (λ k. k.1) kept }

pub returns-in-Err-clause-stop : goal.returns-in-Err-clause-stop
returns-in-Err-clause-stop g c why e counted =
    stop_takes c.cells_are_known.ensures c.names_are_identifiers.ensures c.args.w.now c.read_form-form.new.w _ _ _ _ _ _ why c.requires.world c.is_closed.ensures c.is_bounded.ensures.cells c.is_bounded.ensures.bound c.in-Err.ensures.keeps.world
    (c.in-Err.ensures.printed (not_written _ why e counted)) (ap (λ k. g.N.Sink.contents k.2.now) c.in-Err.ensures.kept) (c.in-Err.ensures.stop why e counted)

pub returns-in-Ok-clause-grows : goal.returns-in-Ok-clause-grows
returns-in-Ok-clause-grows g c = reading_grows c.cells_are_known.ensures c.args.w.now c.read_form-form.new.w c.requires.world c.read_form-form.ensures.keeps c.read_form-form.ensures.able c.read_form-form.ensures.stands c.level.ensures.levels.within

pub returns-in-Err-clause-grows : goal.returns-in-Err-clause-grows
returns-in-Err-clause-grows g c = reading_grows c.cells_are_known.ensures c.args.w.now c.read_form-form.new.w c.requires.world c.read_form-form.ensures.keeps c.read_form-form.ensures.able c.read_form-form.ensures.stands c.level.ensures.levels.within

pub returns-in-Err-clause-cut : goal.returns-in-Err-clause-cut
returns-in-Err-clause-cut g c why e fault at coming s ties =
    fault_cuts at c.args.w.now c.read_form-form.new.w _ _ _ _ _ _ coming s (ap (λ k. g.N.Sink.contents k.2.now) c.in-Err.ensures.kept) (fault_leaves _ _ _ why e c.in-Err.ensures.printed c.in-Err.ensures.cut) ties
