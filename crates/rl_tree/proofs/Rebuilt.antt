-- A tree is built again from its nodes, so that they have one tree.
use Rattle.std.proofs.Common.{◌≡◌, ℕ, zero, suc, List, [], ◌∷◌, ◌++◌, refl, sym, ap, ◌∙◌, append_assoc}
use Rattle.std.proofs.lemmas.List.{append-nil}
use Rattle.rl_tree.specs.declared.nodes.Node.{Node}
use Rattle.rl_tree.specs.declared.nodes.Node.TheVariants.{Int, Id, Str, Pair, Vector, Quoted}
use Rattle.rl_tree.specs.Preorder.{NodeTree, IntLeaf, IdLeaf, StrLeaf, QuotedLeaf, PairOf, VectorOf, NodeTrees, NoTrees, MoreTrees, count_of, preorder, preorders}

-- the first n of trees, and those behind them
abbrev front : ℕ → NodeTrees → NodeTrees
front zero ts = NoTrees
front (suc n) NoTrees = NoTrees
front (suc n) (MoreTrees t ts) = MoreTrees t (front n ts)

abbrev behind : ℕ → NodeTrees → NodeTrees
behind zero ts = ts
behind (suc n) NoTrees = NoTrees
behind (suc n) (MoreTrees t ts) = behind n ts

abbrev follow : NodeTrees → NodeTrees → NodeTrees
follow NoTrees us = us
follow (MoreTrees t ts) us = MoreTrees t (follow ts us)

-- the pair of the first two
abbrev paired : NodeTrees → NodeTrees
paired NoTrees = NoTrees
paired (MoreTrees a NoTrees) = NoTrees
paired (MoreTrees a (MoreTrees d ts)) = MoreTrees (PairOf a d) ts

abbrev with_node : Node → NodeTrees → NodeTrees
with_node (Int z) ts = MoreTrees (IntLeaf z) ts
with_node (Id i) ts = MoreTrees (IdLeaf i) ts
with_node (Str bytes) ts = MoreTrees (StrLeaf bytes) ts
with_node Pair ts = paired ts
with_node (Vector n) ts = MoreTrees (VectorOf (front n ts)) (behind n ts)
with_node (Quoted v) ts = MoreTrees (QuotedLeaf v) ts

-- the trees of nodes, built from the last node on
abbrev rebuilt : List Node → NodeTrees
rebuilt [] = NoTrees
rebuilt (node ∷ nodes) = with_node node (rebuilt nodes)

front_follow : (ts us : NodeTrees) → front (count_of ts) (follow ts us) ≡ ts
front_follow NoTrees us = refl
front_follow (MoreTrees t ts) us = ap (MoreTrees t) (front_follow ts us)

behind_follow : (ts us : NodeTrees) → behind (count_of ts) (follow ts us) ≡ us
behind_follow NoTrees us = refl
behind_follow (MoreTrees t ts) us = behind_follow ts us

mutual
  rebuilds_tree : (t : NodeTree) (rest : List Node) → rebuilt (preorder t ++ rest) ≡ MoreTrees t (rebuilt rest)
  rebuilds_tree (IntLeaf z) rest = refl
  rebuilds_tree (IdLeaf i) rest = refl
  rebuilds_tree (StrLeaf bytes) rest = refl
  rebuilds_tree (QuotedLeaf v) rest = refl
  rebuilds_tree (PairOf a d) rest =
      ap (λ nodes. paired (rebuilt nodes)) (append_assoc (preorder a) (preorder d) rest)
      ∙ (ap paired (rebuilds_tree a (preorder d ++ rest)) ∙ ap (λ ts. paired (MoreTrees a ts)) (rebuilds_tree d rest))
  rebuilds_tree (VectorOf ts) rest =
      ap (λ us. with_node (Vector (count_of ts)) us) (rebuilds_trees ts rest)
      ∙ (ap (λ us. MoreTrees (VectorOf us) (behind (count_of ts) (follow ts (rebuilt rest)))) (front_follow ts (rebuilt rest))
      ∙ ap (MoreTrees (VectorOf ts)) (behind_follow ts (rebuilt rest)))

  rebuilds_trees : (ts : NodeTrees) (rest : List Node) → rebuilt (preorders ts ++ rest) ≡ follow ts (rebuilt rest)
  rebuilds_trees NoTrees rest = refl
  rebuilds_trees (MoreTrees t ts) rest =
      ap rebuilt (append_assoc (preorder t) (preorders ts) rest)
      ∙ (rebuilds_tree t (preorders ts ++ rest) ∙ ap (MoreTrees t) (rebuilds_trees ts rest))

rebuilds : (t : NodeTree) → rebuilt (preorder t) ≡ MoreTrees t NoTrees
rebuilds t = simp append-nil at (rebuilds_tree t [])

pub one_preorder : (s t : NodeTree) → preorder s ≡ preorder t → s ≡ t
one_preorder s t e =
    let same : MoreTrees s NoTrees ≡ MoreTrees t NoTrees = sym (rebuilds s) ∙ (ap rebuilt e ∙ rebuilds t) in
    cc
