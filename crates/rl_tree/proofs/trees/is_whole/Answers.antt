use Rattle.std.proofs.lemmas.Bool.{false≢true}
use Rattle.rl_tree.specs.Preorder.{IsWholeTree}
use Rattle.rl_tree.proofs.Whole.{none_to_come, too_many_to_come}
use Rattle.rl_tree.proofs.trees.is_whole.Goals.{then-wanted-eq0-via-then-wanted-eq0, then-wanted-eq0-via-else-wanted-eq0+then-wanted-nodes}
use Rattle.rl_tree.proofs.trees.is_whole.Goals as goal

pub returns-then-wanted-eq0 : goal.returns-then-wanted-eq0
returns-then-wanted-eq0 c =
    let no : IsWholeTree c.args.nodes.now → ⊥ =
    elim c.then-wanted-eq0.branch [
      | then-wanted-eq0-via-then-wanted-eq0 w ↦ none_to_come c.args.nodes.now c.loop-index.index c.loop-index.wanted c.loop-index.invariant c.loop-index-test.true w.if-wanted-eq0.true
      | then-wanted-eq0-via-else-wanted-eq0+then-wanted-nodes w ↦ too_many_to_come c.args.nodes.now c.loop-index.index c.loop-index.wanted c.loop-index.invariant w.if-wanted-nodes.true
    ] in
    (λ h. absurd (false≢true h), λ h. absurd (no h))
