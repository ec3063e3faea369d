use Rattle.rl_tree.proofs.Rebuilt.{one_preorder}
use Rattle.rl_tree.proofs.preorder.preorder_tells_tree.Goals as goal

pub returns : goal.returns
returns c = one_preorder
