use Rattle.std.proofs.Common.{◌+◌, refl, ap, arith}
use Rattle.rl_world.proofs.Threes.{length-threes, threes_pushed}
use Rattle.rl_world.proofs.Walks.{above_more, push_steady}
use Rattle.rl_world.specs.Levels.{WorldLevels}
use Rattle.rl_world.proofs.levels.Levels.push.Goals as goal

pub returns-clause-entered : goal.returns-clause-entered
returns-clause-entered c =
    rw (← c.self.view_is, threes_pushed c.self.inside.kept c.args.a c.args.b c.args.c c.self.inside.words c.set.new.self c.set-2.new.self c.set-3.new.self (omega (arith, c.self.invariant.long, c.self.invariant.kept_within, c.if-self.false)) c.set.ensures c.set-2.ensures c.set-3.ensures) refl

pub returns-clause-below : goal.returns-clause-below
returns-clause-below c = rw (← c.self.view_is) (omega (arith, length-threes (c.self.inside.kept + 1) c.set-3.new.self, length-threes c.self.inside.kept c.self.inside.words))

pub returns-clause-steady : goal.returns-clause-steady
returns-clause-steady c = λ base l. push_steady base _ _ _ (returns-clause-entered c) l

pub returns-clause-above : goal.returns-clause-above
returns-clause-above c = λ base l. above_more base _ _ _ (ap (λ (v : WorldLevels). v.walk) (returns-clause-entered c)) l
