use Rattle.std.proofs.Common.{refl}
use Rattle.std.proofs.lemmas.List.{reverse-reverse}
use Rattle.rl_forms.proofs.evaluator.Work.of.Goals as goal

pub returns : goal.returns
returns c = rw (c.reverse.ensures.items, c.in_ok-tasks.ensures, reverse-reverse, c.new.ensures.items) refl
