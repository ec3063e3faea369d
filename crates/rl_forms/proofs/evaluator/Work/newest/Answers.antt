use Rattle.std.proofs.Common.{sym, ap}
use Rattle.rl_forms.specs.Tasks.{Stacks}
use Rattle.rl_forms.proofs.Turns.{newest_of}
use Rattle.rl_forms.proofs.evaluator.Work.newest.Goals as goal

pub returns : goal.returns
returns c = rw (c.copied.ensures, c.last.ensures.value, c.deref.ensures.value) (newest_of c.self.inside.values.items c.args.self.now (ap (λ (k : Stacks). k.values) (sym c.self.view_is)))
