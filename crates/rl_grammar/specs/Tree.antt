-- Statements as trees, parentheses kept, and the tokens that each spells. Each tree spells its tokens before those that are given.
use Rattle.std.specs.Prelude.{ℕ, List, ◌∷◌}
use Rattle.rl_tree.specs.Name.{Name}
use Rattle.rl_text.specs.Datum.{Datum}
use Rattle.rl_grammar.specs.Token.{Operator, Plus, Minus, Worded, Separator, Semicolon, Way, Do, ModeWord, KindWord, Token, Mode, Kind, Procedure, Identifier, Integer, String, Quoted, Infix, Word, Power, Dot, Not, Assign, Open, Close, Comma, Colon, If, Then, Else, While, Repeat, Until, For, Each, Foreach, In, Does, OpenBlock, CloseBlock, Separating, Begin, End, Scalar, Return, Go, To, Goto, Lambda}

-- a name that stands as a value or is called
pub data NameUse : Type 0 where
  Plain : Name → NameUse
  Reserved : Worded → NameUse

abbrev pub head_token : NameUse → Token
head_token (Plain x) = Identifier x
head_token (Reserved w) = Word w

-- an operator that groups to the left
pub data LeftOperator : Type 0 where
  By : Operator → LeftOperator
  ByWord : Worded → LeftOperator

abbrev pub operation_token : LeftOperator → Token
operation_token (By o) = Infix o
operation_token (ByWord w) = Word w

-- a leading `+` or `-`
pub data LeadingSign : Type 0 where
  Positive : LeadingSign
  Negative : LeadingSign

abbrev pub sign_token : LeadingSign → Token
sign_token Positive = Infix Plus
sign_token Negative = Infix Minus

-- names with `,` between them
pub data NameList : Type 0 where
  Just : Name → NameList
  Also : NameList → Name → NameList

abbrev pub names_spelled : NameList → List Token → List Token
names_spelled (Just x) ts = Identifier x ∷ ts
names_spelled (Also xs x) ts = names_spelled xs (Comma ∷ Identifier x ∷ ts)

-- none, a name, `()`, or names in parentheses
pub data Parameters : Type 0 where
  NoParameters : Parameters
  OneParameter : Name → Parameters
  NoneListed : Parameters
  Listed : NameList → Parameters

abbrev pub parameters_spelled : Parameters → List Token → List Token
parameters_spelled NoParameters ts = ts
parameters_spelled (OneParameter x) ts = Identifier x ∷ ts
parameters_spelled NoneListed ts = Open ∷ Close ∷ ts
parameters_spelled (Listed xs) ts = Open ∷ names_spelled xs (Close ∷ ts)

-- `l: m:`
pub data Labels : Type 0 where
  Unlabelled : Labels
  Label : Labels → Name → Labels

abbrev pub labels_spelled : Labels → List Token → List Token
labels_spelled Unlabelled ts = ts
labels_spelled (Label ls x) ts = labels_spelled ls (Identifier x ∷ Colon ∷ ts)

-- `scalar x, y;`, maybe some of them
pub data Declarations : Type 0 where
  NoDeclarations : Declarations
  Declared : Declarations → NameList → Declarations

abbrev pub declarations_spelled : Declarations → List Token → List Token
declarations_spelled NoDeclarations ts = ts
declarations_spelled (Declared ds xs) ts = declarations_spelled ds (Scalar ∷ names_spelled xs (Separating Semicolon ∷ ts))

-- `<< .. >>`, and `begin .. end`
pub data Group : Type 0 where
  Block : Group
  Prog : Declarations → Group

abbrev pub group_spelled : Group → List Token → List Token
group_spelled Block ts = OpenBlock ∷ ts
group_spelled (Prog ds) ts = Begin ∷ declarations_spelled ds ts

abbrev pub group_end : Group → Token
group_end Block = CloseBlock
group_end (Prog ds) = End

-- `for each`, and `foreach`
pub data EachOf : Type 0 where
  Two : EachOf
  Single : EachOf

abbrev pub each_spelled : EachOf → List Token → List Token
each_spelled Two ts = For ∷ Each ∷ ts
each_spelled Single ts = Foreach ∷ ts

-- `go l`, `go to l`, and `goto l`
pub data Going : Type 0 where
  GoBare : Going
  GoTo : Going
  Gotos : Going

abbrev pub going_spelled : Going → List Token → List Token
going_spelled GoBare ts = Go ∷ ts
going_spelled GoTo ts = Go ∷ To ∷ ts
going_spelled Gotos ts = Goto ∷ ts

mutual
  pub data Tree : Type 0 where
    Variable : NameUse → Tree
    -- an integer, a string, and `'` e
    Whole : ℕ → Tree
    Text : List ℕ → Tree
    Quote : Datum → Tree
    -- `f()`, `f(a, b)`, and `f a`
    Bare : Callee → Tree
    Call : Callee → Items → Tree
    Apply : NameUse → Tree → Tree
    -- `(a)`
    Enclosed : Tree → Tree
    -- `x := a`
    Set : NameUse → Tree → Tree
    Binary : LeftOperator → Tree → Tree → Tree
    -- `a ** b`, and `a . b`
    Raise : Tree → Tree → Tree
    Pair : Tree → Tree → Tree
    -- `not a`
    Negate : Tree → Tree
    Signed : LeadingSign → Tree → Tree
    IfThen : Tree → Tree → Tree
    IfElse : Tree → Tree → Tree → Tree
    WhileDo : Tree → Tree → Tree
    RepeatUntil : Tree → Tree → Tree
    ForTo : Name → Tree → Tree → Tree → Tree
    EachIn : EachOf → Name → Tree → Way → Tree → Tree
    LambdaOf : Parameters → Tree → Tree
    Grouped : Group → Pieces → Tree
    ReturnNone : Tree
    ReturnOf : Tree → Tree
    GoingTo : Going → Name → Tree

  -- what is called: a name, or `(lambda ..)`
  pub data Callee : Type 0 where
    Named : NameUse → Callee
    EnclosedLambda : Tree → Callee

  -- arguments with `,` between them
  pub data Items : Type 0 where
    One : Tree → Items
    More : Items → Tree → Items

  -- pieces with `;` or `$` between them
  pub data Pieces : Type 0 where
    First : Piece → Pieces
    Next : Pieces → Separator → Piece → Pieces

  -- labels, and maybe what they stand before
  pub data Piece : Type 0 where
    Nothing : Labels → Piece
    Something : Labels → Tree → Piece

-- ---- its tokens, before these

abbrev mutual
  pub spelled : Tree → List Token → List Token
  spelled (Variable h) ts = head_token h ∷ ts
  spelled (Whole k) ts = Integer k ∷ ts
  spelled (Text k) ts = String k ∷ ts
  spelled (Quote k) ts = Quoted k ∷ ts
  spelled (Bare c) ts = callee_spelled c (Open ∷ Close ∷ ts)
  spelled (Call c es) ts = callee_spelled c (Open ∷ items_spelled es (Close ∷ ts))
  spelled (Apply h a) ts = head_token h ∷ spelled a ts
  spelled (Enclosed a) ts = Open ∷ spelled a (Close ∷ ts)
  spelled (Set h a) ts = head_token h ∷ Assign ∷ spelled a ts
  spelled (Binary o a b) ts = spelled a (operation_token o ∷ spelled b ts)
  spelled (Raise a b) ts = spelled a (Power ∷ spelled b ts)
  spelled (Pair a b) ts = spelled a (Dot ∷ spelled b ts)
  spelled (Negate a) ts = Not ∷ spelled a ts
  spelled (Signed s a) ts = sign_token s ∷ spelled a ts
  spelled (IfThen a b) ts = If ∷ spelled a (Then ∷ spelled b ts)
  spelled (IfElse a b c) ts = If ∷ spelled a (Then ∷ spelled b (Else ∷ spelled c ts))
  spelled (WhileDo a b) ts = While ∷ spelled a (Does Do ∷ spelled b ts)
  spelled (RepeatUntil a b) ts = Repeat ∷ spelled a (Until ∷ spelled b ts)
  spelled (ForTo x a b c) ts = For ∷ Identifier x ∷ Assign ∷ spelled a (Colon ∷ spelled b (Does Do ∷ spelled c ts))
  spelled (EachIn e x a w b) ts = each_spelled e (Identifier x ∷ In ∷ spelled a (Does w ∷ spelled b ts))
  spelled (LambdaOf p a) ts = Lambda ∷ parameters_spelled p (Separating Semicolon ∷ spelled a ts)
  spelled (Grouped g ps) ts = group_spelled g (pieces_spelled ps (group_end g ∷ ts))
  spelled ReturnNone ts = Return ∷ ts
  spelled (ReturnOf a) ts = Return ∷ spelled a ts
  spelled (GoingTo g x) ts = going_spelled g (Identifier x ∷ ts)

  pub callee_spelled : Callee → List Token → List Token
  callee_spelled (Named h) ts = head_token h ∷ ts
  callee_spelled (EnclosedLambda a) ts = Open ∷ spelled a (Close ∷ ts)

  pub items_spelled : Items → List Token → List Token
  items_spelled (One a) ts = spelled a ts
  items_spelled (More es a) ts = items_spelled es (Comma ∷ spelled a ts)

  pub pieces_spelled : Pieces → List Token → List Token
  pieces_spelled (First p) ts = piece_spelled p ts
  pieces_spelled (Next ps s p) ts = pieces_spelled ps (Separating s ∷ piece_spelled p ts)

  pub piece_spelled : Piece → List Token → List Token
  piece_spelled (Nothing ls) ts = labels_spelled ls ts
  piece_spelled (Something ls a) ts = labels_spelled ls (spelled a ts)

-- ---- statements

-- `symbolic` or `lisp`, or neither
pub data MaybeMode : Type 0 where
  NoMode : MaybeMode
  InMode : ModeWord → MaybeMode

abbrev pub mode_spelled : MaybeMode → List Token → List Token
mode_spelled NoMode ts = ts
mode_spelled (InMode m) ts = Mode m ∷ ts

-- the kind of a procedure, or none
pub data MaybeKind : Type 0 where
  NoKind : MaybeKind
  OfKind : KindWord → MaybeKind

abbrev pub kind_spelled : MaybeKind → List Token → List Token
kind_spelled NoKind ts = ts
kind_spelled (OfKind k) ts = Kind k ∷ ts

-- the names of files with `,` between them
pub data FileNames : Type 0 where
  JustFile : List ℕ → FileNames
  AlsoFile : FileNames → List ℕ → FileNames

abbrev pub files_spelled : FileNames → List Token → List Token
files_spelled (JustFile k) ts = String k ∷ ts
files_spelled (AlsoFile ks k) ts = files_spelled ks (Comma ∷ String k ∷ ts)

-- what an expr ends: a statement that it is, or a procedure whose body it is
pub data Base : Type 0 where
  Plainly : MaybeMode → Base
  Defining : MaybeMode → MaybeKind → Name → Parameters → Base

abbrev pub base_spelled : Base → List Token → List Token
base_spelled (Plainly m) ts = mode_spelled m ts
base_spelled (Defining m k x p) ts = mode_spelled m (kind_spelled k (Procedure ∷ Identifier x ∷ parameters_spelled p (Separating Semicolon ∷ ts)))

-- nothing, `end`, `in` with files, a mode alone, or what ends with an expr
pub data StatementBody : Type 0 where
  Empty : StatementBody
  Ending : StatementBody
  InFiles : FileNames → StatementBody
  Only : ModeWord → StatementBody
  Based : Base → Tree → StatementBody

abbrev pub body_spelled : StatementBody → List Token → List Token
body_spelled Empty ts = ts
body_spelled Ending ts = End ∷ ts
body_spelled (InFiles ks) ts = In ∷ files_spelled ks ts
body_spelled (Only m) ts = Mode m ∷ ts
body_spelled (Based b a) ts = base_spelled b (spelled a ts)
