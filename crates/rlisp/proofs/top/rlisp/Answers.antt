use Rattle.rlisp.specs.Texts.{texts_of}
use Rattle.rlisp.proofs.Endings.{usage_at}
use Rattle.rlisp.proofs.top.rlisp.Goals as goal

pub returns-in-Err-clause-usage : goal.returns-in-Err-clause-usage
returns-in-Err-clause-usage g c = usage_at (texts_of c.args.words.now) c.in-Err.word c.in-Err.ensures.stops
