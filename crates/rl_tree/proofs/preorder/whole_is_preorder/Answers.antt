use Rattle.std.proofs.Common.{subst}
use Rattle.rl_tree.specs.Preorder.{IsWholeTree}
use Rattle.rl_tree.proofs.Whole.{preorder_is_whole, whole_has_tree}
use Rattle.rl_tree.proofs.preorder.whole_is_preorder.Goals as goal

pub returns : goal.returns
returns c = λ nodes. (whole_has_tree nodes, λ h. subst IsWholeTree h.1 (preorder_is_whole h.0))
