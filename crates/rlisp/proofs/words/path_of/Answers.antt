use Rattle.std.proofs.Common.{rules, ◌≢◌, length}
use Rattle.rlisp.proofs.Commands.{none_stop, first_stops, run_stops, path_stops, more_stops, not_so}
use Rattle.rlisp.proofs.words.path_of.Goals as goal

pub returns-then-is_empty-clause-stops : goal.returns-then-is_empty-clause-stops
returns-then-is_empty-clause-stops c = none_stop c.args.words.now (search rules)

pub returns-then-not-is_run-clause-stops : goal.returns-then-not-is_run-clause-stops
returns-then-not-is_run-clause-stops c =
    let some : length c.args.words.now ≢ 0 = search rules in
    first_stops c.args.words.now c.index-words-0.result some c.index-words-0.is (not_so c.is_run.result _ c.is_run.ensures (search rules))

pub returns-then-words-eq1-clause-stops : goal.returns-then-words-eq1-clause-stops
returns-then-words-eq1-clause-stops c = run_stops c.args.words.now c.index-words-0.result c.if-words-eq1.true c.index-words-0.is (c.is_run.ensures.0 (search rules))

pub returns-then-not-is_path-clause-stops : goal.returns-then-not-is_path-clause-stops
returns-then-not-is_path-clause-stops c =
    let some : length c.args.words.now ≢ 0 = search rules in
    let more : length c.args.words.now ≢ 1 = search rules in
    path_stops c.args.words.now c.index-words-0.result c.index-words-1.result some more c.index-words-0.is c.index-words-1.is (c.is_run.ensures.0 (search rules)) (not_so c.is_path.result _ c.is_path.ensures (search rules))

pub returns-then-words-gt2-clause-stops : goal.returns-then-words-gt2-clause-stops
returns-then-words-gt2-clause-stops c =
    more_stops c.args.words.now c.index-words-0.result c.index-words-1.result (search rules) c.index-words-0.is c.index-words-1.is (c.is_run.ensures.0 (search rules)) (c.is_path.ensures.0 (search rules))
