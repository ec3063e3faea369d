use Rattle.std.proofs.Common.{Some, refl}
use Rattle.rl_forms.specs.Meaning.{file_meaning}
use Rattle.rl_forms.proofs.Closing.{forms_end, front_none, never_unbuilt}
use Rattle.rl_forms.proofs.run.run_forms.Goals as goal

pub returns-in-Err-built_forms-clause-ends : goal.returns-in-Err-built_forms-clause-ends
returns-in-Err-built_forms-clause-ends g c = front_none (g.O.Sink.contents c.args.io.now.out.now) (g.O.Sink.contents c.args.io.now.out.now) (file_meaning (Some c.args.file.now)).output refl

pub print_forms-requires-clause-known : goal.print_forms-requires-clause-known
print_forms-requires-clause-known g c =
    let forms = rw c.in-Ok-Some.field-0-is at c.in-Ok-Some.ensures in
    rw c.deref.ensures.value forms.known

pub returns-clause-ends : goal.returns-clause-ends
returns-clause-ends g c =
    let forms = rw c.in-Ok-Some.field-0-is at c.in-Ok-Some.ensures in
    let p = rw c.deref.ensures.value at c.print_forms.ensures.ends in
    forms_end c.args.file.now c.built_forms.new.world c.in-Ok-Some.forms.items _ _ c.print_forms.result forms p

pub returns-clause-silent : goal.returns-clause-silent
returns-clause-silent g c = λ s. absurd (never_unbuilt _ _ _ c.print_forms.result c.print_forms.ensures.ends s)
