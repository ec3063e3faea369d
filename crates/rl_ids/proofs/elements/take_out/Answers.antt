use Rattle.rl_ids.proofs.elements.take_out.Goals as goal

pub returns-in-Some-clause-means : goal.returns-in-Some-clause-means
returns-in-Some-clause-means c s shown = rw c.in-Some.is (c.unlink.ensures.means s shown)

pub returns-in-None-clause-means : goal.returns-in-None-clause-means
returns-in-None-clause-means c s shown = rw c.in-None.is (c.steps_follow.ensures.still c.args.w.now s shown)
