use Rattle.std.proofs.Common.{◌≡◌, drop}
use Rattle.rl_tree.specs.Preorder.{wanted}
use Rattle.rl_tree.proofs.trees.is_whole.Given as goal

abbrev pub invariant-loop-index : goal.invariant-loop-index
invariant-loop-index l = wanted 1 l.nodes ≡ wanted l.wanted (drop l.index l.nodes)
