use Rattle.std.proofs.Common.{inl, inr}
use Rattle.rlisp.proofs.command.end_with.Goals as goal

pub returns-in-Ok-clause-reported : goal.returns-in-Ok-clause-reported
returns-in-Ok-clause-reported g c = inl (c.in-Ok.ensures.appended, c.in-Ok.ensures.steady)

pub returns-in-Err-clause-reported : goal.returns-in-Err-clause-reported
returns-in-Err-clause-reported g c = inr (c.in-Err.ensures.front, c.in-Err.ensures.failed)
