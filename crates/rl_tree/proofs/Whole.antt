-- The whole lists of nodes are the preorder lists of trees.
use Rattle.std.proofs.Common.{◌≡◌, ℕ, zero, suc, ◌+◌, ◌-◌, ◌<◌, ◌≤◌, List, [], ◌∷◌, ◌++◌, length, drop, Some, refl, sym, ap, ◌∙◌, append_assoc, length-drop, arith}
use Rattle.std.proofs.lemmas.List.{append-nil}
use Rattle.rl_tree.specs.declared.nodes.Node.{Node}
use Rattle.rl_tree.specs.declared.nodes.Node.TheVariants.{Int, Id, Str, Pair, Vector, Quoted}
use Rattle.rl_tree.specs.Preorder.{arity_of, wanted, IsWholeTree, NodeTree, IntLeaf, IdLeaf, StrLeaf, QuotedLeaf, PairOf, VectorOf, NodeTrees, NoTrees, MoreTrees, count_of, preorder, preorders}

-- a leaf is one of the trees that are to come
leaf : (k : ℕ) (rest : List Node) → wanted (k + 0) rest ≡ wanted k rest
leaf k rest = let same : k + 0 ≡ k = omega arith in ap (λ n. wanted n rest) same

-- ---- the nodes of a tree are one of the trees that are to come

mutual
  reads_tree : (t : NodeTree) (k : ℕ) (rest : List Node) → wanted (suc k) (preorder t ++ rest) ≡ wanted k rest
  reads_tree (IntLeaf z) k rest = leaf k rest
  reads_tree (IdLeaf i) k rest = leaf k rest
  reads_tree (StrLeaf bytes) k rest = leaf k rest
  reads_tree (QuotedLeaf v) k rest = leaf k rest
  reads_tree (PairOf a d) k rest =
      let two : k + 2 ≡ suc (suc k) = omega arith in
      ap (λ n. wanted n ((preorder a ++ preorder d) ++ rest)) two
      ∙ (ap (λ nodes. wanted (suc (suc k)) nodes) (append_assoc (preorder a) (preorder d) rest)
      ∙ (reads_tree a (suc k) (preorder d ++ rest) ∙ reads_tree d k rest))
  reads_tree (VectorOf ts) k rest = reads_trees ts k rest

  reads_trees : (ts : NodeTrees) (k : ℕ) (rest : List Node) → wanted (k + count_of ts) (preorders ts ++ rest) ≡ wanted k rest
  reads_trees NoTrees k rest = leaf k rest
  reads_trees (MoreTrees t ts) k rest =
      let one : k + suc (count_of ts) ≡ suc (k + count_of ts) = omega arith in
      ap (λ n. wanted n ((preorder t ++ preorders ts) ++ rest)) one
      ∙ (ap (λ nodes. wanted (suc (k + count_of ts)) nodes) (append_assoc (preorder t) (preorders ts) rest)
      ∙ (reads_tree t (k + count_of ts) (preorders ts ++ rest) ∙ reads_trees ts k rest))

pub preorder_is_whole : (t : NodeTree) → IsWholeTree (preorder t)
preorder_is_whole t = simp append-nil at (reads_tree t 0 [])

-- ---- as many trees as are to come

-- trees, so many, with these nodes
record AreTrees (k : ℕ) (nodes : List Node) : Type 0 where
  trees : NodeTrees
  many : count_of trees ≡ k
  are : preorders trees ≡ nodes

-- the first n trees, and k others
record Splits (n k : ℕ) (nodes : List Node) : Type 0 where
  front : NodeTrees
  rest : NodeTrees
  front_many : count_of front ≡ n
  rest_many : count_of rest ≡ k
  are : preorders front ++ preorders rest ≡ nodes

split : (n k : ℕ) (ts : NodeTrees) → count_of ts ≡ k + n → Splits n k (preorders ts)
split zero k ts e = record { front = NoTrees; rest = ts; front_many = refl; rest_many = e ∙ omega arith; are = refl }
split (suc n) k NoTrees e = absurd (omega arith)
split (suc n) k (MoreTrees t ts) e =
    let s = split n k ts (omega arith) in
    record {
      front = MoreTrees t s.front;
      rest = s.rest;
      front_many = ap (λ m. suc m) s.front_many;
      rest_many = s.rest_many;
      are = append_assoc (preorder t) (preorders s.front) (preorders s.rest) ∙ ap (λ nodes. preorder t ++ nodes) s.are;
    }

-- a tree of these nodes, with k trees after it
with_front : (t : NodeTree) (k : ℕ) (rest : NodeTrees) (nodes : List Node) → count_of rest ≡ k → preorder t ++ preorders rest ≡ nodes → AreTrees (suc k) nodes
with_front t k rest nodes many are = record { trees = MoreTrees t rest; many = ap (λ m. suc m) many; are = are }

-- two trees are the parts of a pair
pair_front : (k : ℕ) (nodes : List Node) (ts : NodeTrees) → count_of ts ≡ k + 2 → preorders ts ≡ nodes → AreTrees (suc k) (Pair ∷ nodes)
pair_front k nodes NoTrees many are = absurd (omega arith)
pair_front k nodes (MoreTrees a NoTrees) many are = absurd (omega arith)
pair_front k nodes (MoreTrees a (MoreTrees d ts)) many are =
    with_front (PairOf a d) k ts (Pair ∷ nodes) (omega arith) (ap (λ ns. Pair ∷ ns) (append_assoc (preorder a) (preorder d) (preorders ts) ∙ are))

vector_front : (n k : ℕ) (nodes : List Node) (ts : NodeTrees) → count_of ts ≡ k + n → preorders ts ≡ nodes → AreTrees (suc k) (Vector n ∷ nodes)
vector_front n k nodes ts many are =
    let s = split n k ts many in
    with_front (VectorOf s.front) k s.rest (Vector n ∷ nodes) s.rest_many
    (ap (λ m. Vector m ∷ (preorders s.front ++ preorders s.rest)) s.front_many ∙ ap (λ ns. Vector n ∷ ns) (s.are ∙ are))

node_front : (node : Node) (k : ℕ) (nodes : List Node) → AreTrees (k + arity_of node) nodes → AreTrees (suc k) (node ∷ nodes)
node_front (Int z) k nodes h = with_front (IntLeaf z) k h.trees (Int z ∷ nodes) (h.many ∙ omega arith) (ap (λ ns. Int z ∷ ns) h.are)
node_front (Id i) k nodes h = with_front (IdLeaf i) k h.trees (Id i ∷ nodes) (h.many ∙ omega arith) (ap (λ ns. Id i ∷ ns) h.are)
node_front (Str bytes) k nodes h = with_front (StrLeaf bytes) k h.trees (Str bytes ∷ nodes) (h.many ∙ omega arith) (ap (λ ns. Str bytes ∷ ns) h.are)
node_front Pair k nodes h = pair_front k nodes h.trees h.many h.are
node_front (Vector n) k nodes h = vector_front n k nodes h.trees h.many h.are
node_front (Quoted v) k nodes h = with_front (QuotedLeaf v) k h.trees (Quoted v ∷ nodes) (h.many ∙ omega arith) (ap (λ ns. Quoted v ∷ ns) h.are)

trees_of : (k : ℕ) (nodes : List Node) → wanted k nodes ≡ Some 0 → AreTrees k nodes
trees_of k [] e = let none : 0 ≡ k = cc in record { trees = NoTrees; many = none; are = refl }
trees_of zero (node ∷ nodes) e = absurd cc
trees_of (suc k) (node ∷ nodes) e = node_front node k nodes (trees_of (k + arity_of node) nodes e)

one_tree : (nodes : List Node) (ts : NodeTrees) → count_of ts ≡ 1 → preorders ts ≡ nodes → (t : NodeTree) × (preorder t ≡ nodes)
one_tree nodes NoTrees many are = absurd (omega arith)
one_tree nodes (MoreTrees t NoTrees) many are = (t, simp append-nil at are)
one_tree nodes (MoreTrees t (MoreTrees u ts)) many are = absurd (omega arith)

pub whole_has_tree : (nodes : List Node) → IsWholeTree nodes → (t : NodeTree) × (preorder t ≡ nodes)
whole_has_tree nodes e = let h = trees_of 1 nodes e in one_tree nodes h.trees h.many h.are

-- ---- for the code that counts

-- each tree that is to come takes at least a node
pub at_most_left : (k : ℕ) (nodes : List Node) → wanted k nodes ≡ Some 0 → k ≤ length nodes
at_most_left k [] e = let none : k ≡ 0 = cc in omega arith
at_most_left zero (node ∷ nodes) e = omega arith
at_most_left (suc k) (node ∷ nodes) e = let more = at_most_left (k + arity_of node) nodes e in omega arith

-- the nodes from a place on have the trees that are to come there
at_place : (nodes : List Node) (i k : ℕ) → wanted 1 nodes ≡ wanted k (drop i nodes) → IsWholeTree nodes → wanted k (drop i nodes) ≡ Some 0
at_place nodes i k e whole = sym e ∙ whole

past_end : (nodes : List Node) → 0 < length nodes → wanted 0 nodes ≡ Some 0 → ⊥
past_end [] some e = omega arith
past_end (node ∷ nodes) some e = cc

-- what is left at a place before the end is not nothing, so that some tree has to be to come
pub none_to_come : (nodes : List Node) (i k : ℕ) → wanted 1 nodes ≡ wanted k (drop i nodes) → i < length nodes → k ≡ 0 → IsWholeTree nodes → ⊥
none_to_come nodes i k e h z whole =
    let left = rw z at (at_place nodes i k e whole) in
    let some : 0 < length (drop i nodes) = omega (arith, length-drop i nodes) in
    past_end (drop i nodes) some left

pub too_many_to_come : (nodes : List Node) (i k : ℕ) → wanted 1 nodes ≡ wanted k (drop i nodes) → length nodes - i < k → IsWholeTree nodes → ⊥
too_many_to_come nodes i k e h whole =
    let most = at_most_left k (drop i nodes) (at_place nodes i k e whole) in
    omega (arith, length-drop i nodes)
