-- How many expressions, and operands of `not`, `**`, `.` and of names, are unfinished at each token of a statement: a list parallel to its tokens. Each is unfinished from its first token to its last.
use Rattle.std.specs.Prelude.{ℕ, suc, List, [], ◌∷◌}
use Rattle.rl_grammar.specs.Tree.{NameList, Just, Also, Parameters, NoParameters, OneParameter, NoneListed, Listed, Labels, Unlabelled, Label, Declarations, NoDeclarations, Declared, Group, Block, Prog, EachOf, Two, Single, Going, GoBare, GoTo, Gotos, Tree, Variable, Whole, Text, Quote, Bare, Call, Apply, Enclosed, Set, Binary, Raise, Pair, Negate, Signed, IfThen, IfElse, WhileDo, RepeatUntil, ForTo, EachIn, LambdaOf, Grouped, ReturnNone, ReturnOf, GoingTo, Callee, Named, EnclosedLambda, Items, One, More, Pieces, First, Next, Piece, Nothing, Something, MaybeMode, NoMode, InMode, MaybeKind, NoKind, OfKind, FileNames, JustFile, AlsoFile, Base, Plainly, Defining, StatementBody, Empty, Ending, InFiles, Only, Based}

-- at a name, and at each token of more
abbrev pub names_nests : ℕ → NameList → List ℕ → List ℕ
names_nests n (Just x) ns = n ∷ ns
names_nests n (Also xs x) ns = names_nests n xs (n ∷ n ∷ ns)

abbrev pub parameters_nests : ℕ → Parameters → List ℕ → List ℕ
parameters_nests n NoParameters ns = ns
parameters_nests n (OneParameter x) ns = n ∷ ns
parameters_nests n NoneListed ns = n ∷ n ∷ ns
parameters_nests n (Listed xs) ns = n ∷ names_nests n xs (n ∷ ns)

abbrev pub labels_nests : ℕ → Labels → List ℕ → List ℕ
labels_nests n Unlabelled ns = ns
labels_nests n (Label ls x) ns = labels_nests n ls (n ∷ n ∷ ns)

abbrev pub declarations_nests : ℕ → Declarations → List ℕ → List ℕ
declarations_nests n NoDeclarations ns = ns
declarations_nests n (Declared ds xs) ns = declarations_nests n ds (n ∷ names_nests n xs (n ∷ ns))

abbrev pub group_nests : ℕ → Group → List ℕ → List ℕ
group_nests n Block ns = n ∷ ns
group_nests n (Prog ds) ns = n ∷ declarations_nests n ds ns

abbrev pub each_nests : ℕ → EachOf → List ℕ → List ℕ
each_nests n Two ns = n ∷ n ∷ ns
each_nests n Single ns = n ∷ ns

abbrev pub going_nests : ℕ → Going → List ℕ → List ℕ
going_nests n GoBare ns = n ∷ ns
going_nests n GoTo ns = n ∷ n ∷ ns
going_nests n Gotos ns = n ∷ ns

-- so many are unfinished at all of the tree
abbrev mutual
  pub nests : ℕ → Tree → List ℕ → List ℕ
  nests n (Variable h) ns = n ∷ ns
  nests n (Whole k) ns = n ∷ ns
  nests n (Text k) ns = n ∷ ns
  nests n (Quote k) ns = n ∷ ns
  nests n (Bare c) ns = callee_nests n c (n ∷ n ∷ ns)
  nests n (Call c es) ns = callee_nests n c (n ∷ items_nests n es (n ∷ ns))
  nests n (Apply h a) ns = n ∷ nests (suc n) a ns
  nests n (Enclosed a) ns = n ∷ nests (suc n) a (n ∷ ns)
  nests n (Set h a) ns = n ∷ n ∷ nests (suc n) a ns
  nests n (Binary o a b) ns = nests n a (n ∷ nests n b ns)
  nests n (Raise a b) ns = nests n a (n ∷ nests (suc n) b ns)
  nests n (Pair a b) ns = nests n a (n ∷ nests (suc n) b ns)
  nests n (Negate a) ns = n ∷ nests (suc n) a ns
  nests n (Signed s a) ns = n ∷ nests n a ns
  nests n (IfThen a b) ns = n ∷ nests (suc n) a (n ∷ nests (suc n) b ns)
  nests n (IfElse a b c) ns = n ∷ nests (suc n) a (n ∷ nests (suc n) b (n ∷ nests (suc n) c ns))
  nests n (WhileDo a b) ns = n ∷ nests (suc n) a (n ∷ nests (suc n) b ns)
  nests n (RepeatUntil a b) ns = n ∷ nests (suc n) a (n ∷ nests (suc n) b ns)
  nests n (ForTo x a b c) ns = n ∷ n ∷ n ∷ nests (suc n) a (n ∷ nests (suc n) b (n ∷ nests (suc n) c ns))
  nests n (EachIn e x a w b) ns = each_nests n e (n ∷ n ∷ nests (suc n) a (n ∷ nests (suc n) b ns))
  nests n (LambdaOf p a) ns = n ∷ parameters_nests n p (n ∷ nests (suc n) a ns)
  nests n (Grouped g ps) ns = group_nests n g (pieces_nests n ps (n ∷ ns))
  nests n ReturnNone ns = n ∷ ns
  nests n (ReturnOf a) ns = n ∷ nests (suc n) a ns
  nests n (GoingTo g x) ns = going_nests n g (n ∷ ns)

  pub callee_nests : ℕ → Callee → List ℕ → List ℕ
  callee_nests n (Named h) ns = n ∷ ns
  callee_nests n (EnclosedLambda a) ns = n ∷ nests (suc n) a (n ∷ ns)

  pub items_nests : ℕ → Items → List ℕ → List ℕ
  items_nests n (One a) ns = nests (suc n) a ns
  items_nests n (More es a) ns = items_nests n es (n ∷ nests (suc n) a ns)

  pub pieces_nests : ℕ → Pieces → List ℕ → List ℕ
  pieces_nests n (First p) ns = piece_nests n p ns
  pieces_nests n (Next ps s p) ns = pieces_nests n ps (n ∷ piece_nests n p ns)

  pub piece_nests : ℕ → Piece → List ℕ → List ℕ
  piece_nests n (Nothing ls) ns = labels_nests n ls ns
  piece_nests n (Something ls a) ns = labels_nests n ls (nests (suc n) a ns)

-- ---- statements

abbrev pub mode_nests : MaybeMode → List ℕ → List ℕ
mode_nests NoMode ns = ns
mode_nests (InMode m) ns = 0 ∷ ns

abbrev pub kind_nests : MaybeKind → List ℕ → List ℕ
kind_nests NoKind ns = ns
kind_nests (OfKind k) ns = 0 ∷ ns

abbrev pub files_nests : FileNames → List ℕ → List ℕ
files_nests (JustFile k) ns = 0 ∷ ns
files_nests (AlsoFile fs k) ns = files_nests fs (0 ∷ 0 ∷ ns)

abbrev pub base_nests : Base → List ℕ → List ℕ
base_nests (Plainly m) ns = mode_nests m ns
base_nests (Defining m k x p) ns = mode_nests m (kind_nests k (0 ∷ 0 ∷ parameters_nests 0 p (0 ∷ ns)))

abbrev pub body_nests : StatementBody → List ℕ → List ℕ
body_nests Empty ns = ns
body_nests Ending ns = 0 ∷ ns
body_nests (InFiles fs) ns = 0 ∷ files_nests fs ns
body_nests (Only m) ns = 0 ∷ ns
body_nests (Based b a) ns = base_nests b (nests 1 a ns)

-- at each token of a statement and of its separator
abbrev pub statement_nests : StatementBody → List ℕ
statement_nests b = body_nests b (0 ∷ [])

-- at most so many may be unfinished
abbrev pub nesting_bound : ℕ
nesting_bound = 200
