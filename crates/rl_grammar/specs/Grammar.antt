-- The grammar of statements: which trees are of it, and the statements that tokens begin with.
use Rattle.std.specs.Prelude.{◌≡◌, ℕ, suc, ◌≤◌, Bool, true, false, not, ◌&&◌, nat_le, List, ◌∷◌}
use Rattle.rl_grammar.specs.Token.{Operator, Or, And, Plus, Minus, Times, Divide, Separator, Token, Identifier, Integer, String, Quoted, Infix, Word, Power, Dot, Not, Open, If, Else, While, Repeat, For, Foreach, OpenBlock, Separating, Begin, Return, Go, Goto, Lambda}
use Rattle.rl_grammar.specs.Tree.{NameUse, Plain, Reserved, LeftOperator, By, ByWord, operation_token, Labels, Label, Group, Block, Tree, Variable, Whole, Text, Quote, Bare, Call, Apply, Enclosed, Set, Binary, Raise, Pair, Negate, Signed, IfThen, IfElse, WhileDo, RepeatUntil, ForTo, EachIn, LambdaOf, Grouped, ReturnNone, ReturnOf, GoingTo, Callee, Named, EnclosedLambda, Items, One, More, Pieces, First, Next, Piece, Nothing, Something, spelled, StatementBody, Based, body_spelled}

-- ---- levels: 0 expr, 1 or, 2 and, 3 neg, 4 rel, 5 sum, 6 prod, 7 pow, 8 dot, 9 prim, 10 a prim that does not begin with `(`

abbrev pub operator_level : Operator → ℕ
operator_level Or = 1
operator_level And = 2
operator_level Plus = 5
operator_level Minus = 5
operator_level Times = 6
operator_level Divide = 6
operator_level o = 4

-- an identifier that is one of the three words begins no `id prim`'s operand
abbrev pub head_level : NameUse → ℕ
head_level (Plain x) = 10
head_level (Reserved w) = 9

abbrev pub level : LeftOperator → ℕ
level (By o) = operator_level o
level (ByWord w) = 4

-- an operand of this level goes on with the token
abbrev pub goes : ℕ → Token → Bool
goes n (Infix o) = nat_le n (operator_level o)
goes n (Word w) = nat_le n 4
goes n Power = nat_le n 7
goes n Dot = nat_le n 8
goes n t = false

abbrev pub is_else : Token → Bool
is_else Else = true
is_else t = false

-- a prim that does not begin with `(`, and is no word of the three, begins with the token
abbrev pub begins_phrase : Token → Bool
begins_phrase (Identifier x) = true
begins_phrase (Integer k) = true
begins_phrase (String k) = true
begins_phrase (Quoted k) = true
begins_phrase If = true
begins_phrase While = true
begins_phrase Repeat = true
begins_phrase For = true
begins_phrase Foreach = true
begins_phrase OpenBlock = true
begins_phrase Begin = true
begins_phrase Return = true
begins_phrase Go = true
begins_phrase Goto = true
begins_phrase Lambda = true
begins_phrase t = false

-- an expr begins with the token
abbrev pub begins : Token → Bool
begins (Word w) = true
begins Open = true
begins Not = true
begins (Infix Plus) = true
begins (Infix Minus) = true
begins t = begins_phrase t

-- no part that stands last in the tree goes on with the token: each phrase reaches as far right as it can, and an `else` belongs to the nearest `if` without one
abbrev pub ends : Tree → Token → Bool
ends (Apply h a) t = not (goes 10 t) && ends a t
ends (Set h a) t = not (goes 0 t) && ends a t
ends (Binary o a b) t = not (goes (suc (level o)) t) && ends b t
ends (Raise a b) t = not (goes 7 t) && ends b t
ends (Pair a b) t = not (goes 8 t) && ends b t
ends (Negate a) t = not (goes 3 t) && ends a t
ends (Signed s a) t = not (goes 6 t) && ends a t
ends (IfThen a b) t = not (goes 0 t) && (not (is_else t) && ends b t)
ends (IfElse a b c) t = not (goes 0 t) && ends c t
ends (WhileDo a b) t = not (goes 0 t) && ends b t
ends (RepeatUntil a b) t = not (goes 0 t) && ends b t
ends (ForTo x a b c) t = not (goes 0 t) && ends c t
ends (EachIn e x a w b) t = not (goes 0 t) && ends b t
ends (LambdaOf p a) t = not (goes 0 t) && ends a t
ends ReturnNone t = not (begins t)
ends (ReturnOf a) t = not (goes 0 t) && ends a t
ends a t = true

-- a lambda in parentheses may be called
abbrev pub is_parenthesized_lambda : Tree → Bool
is_parenthesized_lambda (LambdaOf p a) = true
is_parenthesized_lambda a = false

-- only pieces of `begin` have labels
abbrev pub LabelsFit : Group → Labels → Type 0
LabelsFit Block (Label ls x) = ⊥
LabelsFit g ls = Unit {0}

-- the tree is of the grammar at a level: it is an expr, an or, .., or what any level above it may be. An operator to the left of which the tree stands
-- ends its left operand: no part of that goes on with it
abbrev mutual
  pub Fits : ℕ → Tree → Type 0
  Fits n (Variable h) = n ≤ head_level h
  Fits n (Whole k) = Unit {0}
  Fits n (Text k) = Unit {0}
  Fits n (Quote k) = Unit {0}
  Fits n (Bare c) = CalleeFits n c
  Fits n (Call c es) = CalleeFits n c × ItemsFit es
  Fits n (Apply h a) = (n ≤ head_level h) × Fits 10 a
  Fits n (Enclosed a) = (n ≤ 9) × Fits 0 a
  Fits n (Set h a) = (n ≤ 0) × Fits 0 a
  Fits n (Binary o a b) = (n ≤ level o) × Fits (level o) a × (ends a (operation_token o) ≡ true) × Fits (suc (level o)) b
  Fits n (Raise a b) = (n ≤ 7) × Fits 8 a × (ends a Power ≡ true) × Fits 7 b
  Fits n (Pair a b) = (n ≤ 8) × Fits 9 a × (ends a Dot ≡ true) × Fits 8 b
  Fits n (Negate a) = (n ≤ 3) × Fits 3 a
  Fits n (Signed s a) = (n ≤ 5) × Fits 6 a
  Fits n (IfThen a b) = Fits 0 a × Fits 0 b
  Fits n (IfElse a b c) = Fits 0 a × Fits 0 b × (ends b Else ≡ true) × Fits 0 c
  Fits n (WhileDo a b) = Fits 0 a × Fits 0 b
  Fits n (RepeatUntil a b) = Fits 0 a × Fits 0 b
  Fits n (ForTo x a b c) = Fits 0 a × Fits 0 b × Fits 0 c
  Fits n (EachIn e x a w b) = Fits 0 a × Fits 0 b
  Fits n (LambdaOf p a) = Fits 0 a
  Fits n (Grouped g ps) = PiecesFit g ps
  Fits n ReturnNone = Unit {0}
  Fits n (ReturnOf a) = Fits 0 a
  Fits n (GoingTo g x) = Unit {0}

  pub CalleeFits : ℕ → Callee → Type 0
  CalleeFits n (Named h) = n ≤ head_level h
  CalleeFits n (EnclosedLambda a) = (n ≤ 9) × (is_parenthesized_lambda a ≡ true) × Fits 0 a

  pub ItemsFit : Items → Type 0
  ItemsFit (One a) = Fits 0 a
  ItemsFit (More es a) = ItemsFit es × Fits 0 a

  pub PiecesFit : Group → Pieces → Type 0
  PiecesFit g (First p) = PieceFits g p
  PiecesFit g (Next ps s p) = PiecesFit g ps × PieceFits g p

  pub PieceFits : Group → Piece → Type 0
  PieceFits g (Nothing ls) = LabelsFit g ls
  PieceFits g (Something ls a) = LabelsFit g ls × Fits 0 a

-- a statement that is an expr, and the tokens behind it
pub record IsExpr (ts : List Token) (a : Tree) (s : Separator) (rest : List Token) : Type 0 where
  pub is : ts ≡ spelled a (Separating s ∷ rest)
  pub fits : Fits 0 a

abbrev pub BodyFits : StatementBody → Type 0
BodyFits (Based b a) = Fits 0 a
BodyFits b = Unit {0}

-- a statement, and the tokens behind it
pub record IsStatement (ts : List Token) (b : StatementBody) (s : Separator) (rest : List Token) : Type 0 where
  pub is : ts ≡ body_spelled b (Separating s ∷ rest)
  pub fits : BodyFits b
