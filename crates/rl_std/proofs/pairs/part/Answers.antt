use Rattle.rl_meaning.specs.Errors.{fail, wrong_type}
use Rattle.rl_syms.specs.Contents.{value_of}
use Rattle.rl_std.proofs.Coming.{answers_on}
use Rattle.rl_std.proofs.pairs.part.Goals as goal

pub returns-in-Err-clause-means : goal.returns-in-Err-clause-means
returns-in-Err-clause-means c s shown =
    let w = c.args.w.now in
    answers_on c.steps_follow.ensures s _ (λ t. fail wrong_type (value_of w.cells.cells c.in-Err.atom) t) c.fail.result w c.fail.new.w (c.in-Err.ensures.means s shown) c.fail.ensures.means
