use Rattle.std.proofs.Common.{sym, subst}
use Rattle.rl_tree.specs.Value.{Pair}
use Rattle.rl_syms.specs.Contents.{value_of}
use Rattle.rl_meaning.specs.Constants.{changing}
use Rattle.rl_state.specs.Ending.{IsShownBeside}
use Rattle.rl_ids.proofs.Following.{shown_changing}
use Rattle.rl_ids.proofs.PairParts.{cdr_changed, no_cdr_changed}
use Rattle.rl_ids.proofs.parts.change_cdr.Goals as goal

pub returns-in-Some-clause-means : goal.returns-in-Some-clause-means
returns-in-Some-clause-means c s shown =
    let p = value_of c.args.w.now.cells.cells c.args.p in
    let a = value_of c.args.w.now.cells.cells c.in-Some._parts.0 in
    let d = value_of c.args.w.now.cells.cells c.in-Some._parts.1 in
    let x = value_of c.args.w.now.cells.cells c.args.d in
    let is = c.in-Some.ensures.means s shown in
    subst (λ t. IsShownBeside c.set_cdr.new.w s (changing p t)) (sym (cdr_changed s p a d x is)) (c.steps_follow.ensures.changing c.set_cdr.new.w p (Pair a x) s (c.set_cdr.ensures.shows s a d shown is))

pub returns-in-None-clause-means : goal.returns-in-None-clause-means
returns-in-None-clause-means c s shown =
    let p = value_of c.args.w.now.cells.cells c.args.p in
    subst (λ t. IsShownBeside c.args.w.now s (changing p t)) (sym (no_cdr_changed s p (value_of c.args.w.now.cells.cells c.args.d) (c.in-None.ensures.means s shown))) (shown_changing c.args.w.now p s shown)
