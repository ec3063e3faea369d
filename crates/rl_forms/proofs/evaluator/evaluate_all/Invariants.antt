use Rattle.std.proofs.Common.{◌≡◌}
use Rattle.rl_forms.specs.KnownData.{IsRunning}
use Rattle.rl_forms.specs.Pages.{PrintsOnPage}
use Rattle.rl_forms.specs.Tasks.{AreKnown, page_at_end, page_of_forms, steps_of, tasks_weight}
use Rattle.rl_forms.proofs.evaluator.evaluate_all.Given as goal

abbrev pub invariant-tasks : goal.invariant-tasks
invariant-tasks g l = record {
  running : IsRunning l.world;
  known : AreKnown l.world l.work;
  prints : PrintsOnPage (g.O.Sink.contents l.fn.io.out.now) (g.O.Sink.contents l.io.out.now) l.fn.world.output.waiting l.world.output.waiting (page_of_forms l.fn.world l.forms) (page_at_end l.world l.work);
  steady : g.O.Sink.faults l.io.out.now ≡ g.O.Sink.faults l.fn.io.out.now;
  same_out : l.io.out.ghost_name ≡ l.fn.io.out.ghost_name;
  rest : l.io ≡ record l.fn.io { out = l.io.out };
}

abbrev pub decreases-tasks : goal.decreases-tasks
decreases-tasks g l = tasks_weight (steps_of l.world l.work)
