-- Trees as lists of nodes in preorder: each node stands before the trees of its parts, which follow one after another.
use Rattle.std.specs.Prelude.{◌≡◌, ℕ, zero, suc, ◌+◌, ℤ, List, [], ◌∷◌, ◌++◌, Option, Some, None}
use Rattle.rl_tags.specs.Tagged.{Tagged}
use Rattle.rl_tree.specs.declared.nodes.Node.{Node}
use Rattle.rl_tree.specs.declared.nodes.Node.TheVariants.{Int, Id, Str, Pair, Vector, Quoted}

-- how many parts a node has
abbrev pub arity_of : Node → ℕ
arity_of (Int z) = 0
arity_of (Id i) = 0
arity_of (Str bytes) = 0
arity_of Pair = 2
arity_of (Vector n) = n
arity_of (Quoted v) = 0

-- how many trees are still to come after these nodes, where k were to come before them; None where they have more trees than that
abbrev pub wanted : ℕ → List Node → Option ℕ
wanted k [] = Some k
wanted zero (node ∷ nodes) = None
wanted (suc k) (node ∷ nodes) = wanted (k + arity_of node) nodes

-- one tree, whole, and nothing after it
abbrev pub IsWholeTree : List Node → Type 0
IsWholeTree nodes = wanted 1 nodes ≡ Some 0

mutual
  -- the trees themselves
  pub data NodeTree : Type 0 where
    IntLeaf : ℤ → NodeTree
    IdLeaf : Tagged → NodeTree
    StrLeaf : List ℕ → NodeTree
    QuotedLeaf : Tagged → NodeTree
    PairOf : NodeTree → NodeTree → NodeTree
    VectorOf : NodeTrees → NodeTree

  -- the elements of a vector
  pub data NodeTrees : Type 0 where
    NoTrees : NodeTrees
    MoreTrees : NodeTree → NodeTrees → NodeTrees

abbrev pub count_of : NodeTrees → ℕ
count_of NoTrees = 0
count_of (MoreTrees t ts) = suc (count_of ts)

-- the nodes of a tree in preorder
abbrev mutual
  pub preorder : NodeTree → List Node
  preorder (IntLeaf z) = Int z ∷ []
  preorder (IdLeaf i) = Id i ∷ []
  preorder (StrLeaf bytes) = Str bytes ∷ []
  preorder (QuotedLeaf v) = Quoted v ∷ []
  preorder (PairOf a d) = Pair ∷ (preorder a ++ preorder d)
  preorder (VectorOf ts) = Vector (count_of ts) ∷ preorders ts

  pub preorders : NodeTrees → List Node
  preorders NoTrees = []
  preorders (MoreTrees t ts) = preorder t ++ preorders ts
