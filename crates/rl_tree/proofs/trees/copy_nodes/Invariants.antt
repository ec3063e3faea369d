use Rattle.std.proofs.Common.{◌≡◌, take}
use Rattle.rl_tree.proofs.trees.copy_nodes.Given as goal

abbrev pub invariant-loop-node : goal.invariant-loop-node
invariant-loop-node l = l.copied.items ≡ take l.node-index l.nodes
