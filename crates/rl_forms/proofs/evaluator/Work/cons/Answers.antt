use Rattle.rl_forms.proofs.Evaluating.{taken_value, second_value}
use Rattle.rl_forms.proofs.Turns.{after_cons}
use Rattle.rl_forms.proofs.evaluator.Work.cons.Goals as goal

pub cons-requires-clause-car_known : goal.cons-requires-clause-car_known
cons-requires-clause-car_known c = second_value c.args.world.now c.args.self.now c.take.new.self c.take-2.new.self c.in-Some-take.car c.in-Some.cdr c.requires.known c.in-Some.ensures c.in-Some-take.ensures

pub cons-requires-clause-cdr_known : goal.cons-requires-clause-cdr_known
cons-requires-clause-cdr_known c = taken_value c.args.world.now c.args.self.now c.take.new.self c.in-Some.cdr c.requires.known c.in-Some.ensures

pub returns-clause-turn : goal.returns-clause-turn
returns-clause-turn c = λ told. after_cons told c.args.world.now c.cons.new.world c.args.self.now c.take.new.self c.take-2.new.self c.give.new.self c.in-Some-take.car c.in-Some.cdr c.in_ok-pair.pair c.requires.known c.in-Some.ensures c.in-Some-take.ensures c.in_ok-pair.ensures.keeps c.in_ok-pair.ensures.output c.in_ok-pair.ensures.stands c.in_ok-give.ensures
