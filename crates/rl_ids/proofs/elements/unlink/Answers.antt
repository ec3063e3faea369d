use Rattle.std.proofs.Common.{subst, ◌∙◌}
use Rattle.rl_syms.specs.Contents.{value_of}
use Rattle.rl_meaning.specs.Constants.{changing}
use Rattle.rl_meaning.specs.Lists.{cdr_set}
use Rattle.rl_meaning.specs.Properties.{with_properties}
use Rattle.rl_state.specs.Ending.{IsShownBeside}
use Rattle.rl_state.specs.ShownState.{number_in}
use Rattle.rl_ids.proofs.Named.{listed_stays}
use Rattle.rl_ids.proofs.elements.unlink.Goals as goal

pub returns-in-Some-clause-means : goal.returns-in-Some-clause-means
returns-in-Some-clause-means c s shown =
    let p = value_of c.args.w.now.cells.cells c.in-Some.last in
    rw c.in-Some.is (subst (λ d. IsShownBeside c.change_cdr.new.w s (changing p (cdr_set p d s))) (c.cdr_or_nil-rest.ensures.means s shown) (c.change_cdr.ensures.means s shown))

pub returns-in-None-clause-means : goal.returns-in-None-clause-means
returns-in-None-clause-means c s shown =
    let i = number_in c.args.w.now.cells.cells c.args.id in
    let d = value_of c.args.w.now.cells.cells c.cdr_or_nil-rest.result in
    rw c.in-None.is (subst (λ d. IsShownBeside c.set_properties.new.w s (with_properties i d s)) (c.cdr_or_nil-rest.ensures.means s shown) (record { shows = c.set_properties.ensures.shows s shown; stays = listed_stays s i d }))
