-- Parsing an expr token by token: what has begun, and where the next token leads. It knows no bound of nesting.
use Rattle.std.specs.Prelude.{ℕ, suc, Bool, true, false, nat_le, if◌then◌else◌, List, [], ◌∷◌}
use Rattle.rl_tree.specs.Name.{Name}
use Rattle.rl_grammar.specs.Token.{Plus, Minus, Separator, Semicolon, Way, Do, Token, Identifier, Integer, String, Quoted, Infix, Word, Power, Dot, Not, Assign, Open, Close, Comma, Colon, If, Then, While, Repeat, Until, For, Each, Foreach, In, Does, OpenBlock, CloseBlock, Separating, Begin, End, Scalar, Return, Go, To, Goto, Lambda}
use Rattle.rl_grammar.specs.Tree.{NameUse, Plain, Reserved, LeftOperator, By, ByWord, LeadingSign, Positive, Negative, NameList, Just, Also, Parameters, NoParameters, OneParameter, NoneListed, Listed, Labels, Unlabelled, Label, Declarations, NoDeclarations, Declared, Group, Block, Prog, EachOf, Two, Single, Going, GoBare, GoTo, Gotos, Tree, Variable, Whole, Text, Quote, Bare, Call, Apply, Enclosed, Set, Binary, Raise, Pair, Negate, Signed, IfThen, IfElse, WhileDo, RepeatUntil, ForTo, EachIn, LambdaOf, Grouped, ReturnNone, ReturnOf, GoingTo, Callee, EnclosedLambda, Items, One, More, Pieces, First, Next, Piece, Nothing, Something}
use Rattle.rl_grammar.specs.Grammar.{level, goes, is_else, begins_phrase, begins, is_parenthesized_lambda}
use Rattle.rl_grammar.specs.Tree as tree

-- the arguments before the one that comes
pub data Before : Type 0 where
  None : Before
  After : Items → Before

abbrev pub with_last : Before → Tree → Items
with_last None a = One a
with_last (After es) a = More es a

-- the pieces before the one that comes, and the separator behind them
pub data Behind : Type 0 where
  NoPiece : Behind
  Pieced : Pieces → Separator → Behind

abbrev pub pieces_with : Behind → Piece → Pieces
pieces_with NoPiece p = First p
pieces_with (Pieced ps s) p = Next ps s p

-- what has begun, and waits for an operand
pub data ParserFrame : Type 0 where
  InBinary : LeftOperator → Tree → ParserFrame
  InPower : Tree → ParserFrame
  InPair : Tree → ParserFrame
  InNot : ParserFrame
  InSign : LeadingSign → ParserFrame
  InApply : NameUse → ParserFrame
  InSet : NameUse → ParserFrame
  InEnclosed : ParserFrame
  InCond : ParserFrame
  InThen : Tree → ParserFrame
  InElse : Tree → Tree → ParserFrame
  InWhile : ParserFrame
  InDo : Tree → ParserFrame
  InRepeat : ParserFrame
  InUntil : Tree → ParserFrame
  InFrom : Name → ParserFrame
  InTo : Name → Tree → ParserFrame
  InFor : Name → Tree → Tree → ParserFrame
  InOf : EachOf → Name → ParserFrame
  InEach : EachOf → Name → Tree → Way → ParserFrame
  InLambda : Parameters → ParserFrame
  InArgs : Callee → Before → ParserFrame
  InPiece : Group → Behind → Labels → ParserFrame
  InReturn : ParserFrame

-- the level of the operand
abbrev pub operand_level : ParserFrame → ℕ
operand_level (InBinary o a) = suc (level o)
operand_level (InPower a) = 7
operand_level (InPair a) = 8
operand_level InNot = 3
operand_level (InSign s) = 6
operand_level (InApply h) = 10
operand_level f = 0

abbrev pub lowest : List ParserFrame → ℕ
lowest [] = 0
lowest (f ∷ fs) = operand_level f

-- how far a parameter list is
pub data Listing : Type 0 where
  Begun : Listing
  Opening : Listing
  Naming : NameList → Listing
  Parted : NameList → Listing
  Over : Parameters → Listing

pub data ParserState : Type 0 where
  -- an operand must come; a name has come; an operand has come
  Want : List ParserFrame → ParserState
  Named : List ParserFrame → NameUse → ParserState
  Has : List ParserFrame → Tree → ParserState
  -- what is called and `(`; a lambda in parentheses
  Opened : List ParserFrame → Callee → ParserState
  Shut : List ParserFrame → Tree → ParserState
  Returned : List ParserFrame → ParserState
  -- a piece may begin; a name has come that may be a label
  AtPiece : List ParserFrame → Group → Behind → Labels → ParserState
  AtName : List ParserFrame → Group → Behind → Labels → Name → ParserState
  -- `begin` and declarations; `scalar`, maybe names and a comma; names
  AtDeclarations : List ParserFrame → Declarations → ParserState
  AtScalar : List ParserFrame → Declarations → ParserState
  AtNames : List ParserFrame → Declarations → NameList → ParserState
  AtMore : List ParserFrame → Declarations → NameList → ParserState
  AtParameters : List ParserFrame → Listing → ParserState
  AtFor : List ParserFrame → ParserState
  AtIndex : List ParserFrame → Name → ParserState
  AtEach : List ParserFrame → EachOf → ParserState
  AtIn : List ParserFrame → EachOf → Name → ParserState
  AtGo : List ParserFrame → ParserState
  AtGoal : List ParserFrame → Going → ParserState

-- it goes on; the statement has ended with the separator; or the token has no place
pub data ParserStep : Type 0 where
  Goes : ParserState → ParserStep
  Done : Tree → Separator → ParserStep
  Refuses : ParserStep

abbrev pub frame_opened : ParserFrame → List ParserFrame → ParserStep
frame_opened f fs = Goes (Want (f ∷ fs))

-- an operand begins
abbrev pub begin : List ParserFrame → Token → ParserStep
begin fs (Identifier x) = Goes (Named fs (Plain x))
begin fs (Word w) = if nat_le (lowest fs) 9 then Goes (Named fs (Reserved w)) else Refuses
begin fs (Integer k) = Goes (Has fs (Whole k))
begin fs (String k) = Goes (Has fs (Text k))
begin fs (Quoted k) = Goes (Has fs (Quote k))
begin fs Open = if nat_le (lowest fs) 9 then frame_opened InEnclosed fs else Refuses
begin fs (Infix Plus) = if nat_le (lowest fs) 5 then Goes (Want (InSign Positive ∷ fs)) else Refuses
begin fs (Infix Minus) = if nat_le (lowest fs) 5 then Goes (Want (InSign Negative ∷ fs)) else Refuses
begin fs Not = if nat_le (lowest fs) 3 then frame_opened InNot fs else Refuses
begin fs If = frame_opened InCond fs
begin fs While = frame_opened InWhile fs
begin fs Repeat = frame_opened InRepeat fs
begin fs For = Goes (AtFor fs)
begin fs Foreach = Goes (AtEach fs Single)
begin fs OpenBlock = Goes (AtPiece fs Block NoPiece Unlabelled)
begin fs Begin = Goes (AtDeclarations fs NoDeclarations)
begin fs Return = Goes (Returned fs)
begin fs Go = Goes (AtGo fs)
begin fs Goto = Goes (AtGoal fs Gotos)
begin fs Lambda = Goes (AtParameters fs Begun)
begin fs t = Refuses

-- an operand goes on with an operator
abbrev pub pushed : List ParserFrame → Tree → Token → ParserStep
pushed fs a (Infix o) = Goes (Want (InBinary (By o) a ∷ fs))
pushed fs a (Word w) = Goes (Want (InBinary (ByWord w) a ∷ fs))
pushed fs a Power = frame_opened (InPower a) fs
pushed fs a Dot = frame_opened (InPair a) fs
pushed fs a t = Refuses

-- pieces end, or another may begin
abbrev pub pieced : List ParserFrame → Group → Pieces → Token → ParserStep
pieced fs g ps (Separating s) = Goes (AtPiece fs g (Pieced ps s) Unlabelled)
pieced fs Block ps CloseBlock = Goes (Has fs (Grouped Block ps))
pieced fs (Prog ds) ps End = Goes (Has fs (Grouped (Prog ds) ps))
pieced fs g ps t = Refuses

-- an operand ends before the token
abbrev pub operand_ended : ParserFrame → List ParserFrame → Tree → Token → (Tree → ParserStep) → ParserStep
operand_ended (InBinary o a) fs b t further = further (Binary o a b)
operand_ended (InPower a) fs b t further = further (Raise a b)
operand_ended (InPair a) fs b t further = further (Pair a b)
operand_ended InNot fs a t further = further (Negate a)
operand_ended (InSign s) fs a t further = further (Signed s a)
operand_ended (InApply h) fs a t further = further (Apply h a)
operand_ended (InSet h) fs a t further = further (Set h a)
operand_ended InEnclosed fs a Close further = if is_parenthesized_lambda a then Goes (Shut fs a) else Goes (Has fs (Enclosed a))
operand_ended InCond fs a Then further = Goes (Want (InThen a ∷ fs))
operand_ended (InThen a) fs b t further = if is_else t then Goes (Want (InElse a b ∷ fs)) else further (IfThen a b)
operand_ended (InElse a b) fs c t further = further (IfElse a b c)
operand_ended InWhile fs a (Does Do) further = Goes (Want (InDo a ∷ fs))
operand_ended (InDo a) fs b t further = further (WhileDo a b)
operand_ended InRepeat fs a Until further = Goes (Want (InUntil a ∷ fs))
operand_ended (InUntil a) fs b t further = further (RepeatUntil a b)
operand_ended (InFrom x) fs a Colon further = Goes (Want (InTo x a ∷ fs))
operand_ended (InTo x a) fs b (Does Do) further = Goes (Want (InFor x a b ∷ fs))
operand_ended (InFor x a b) fs c t further = further (ForTo x a b c)
operand_ended (InOf e x) fs a (Does w) further = Goes (Want (InEach e x a w ∷ fs))
operand_ended (InEach e x a w) fs b t further = further (EachIn e x a w b)
operand_ended (InLambda p) fs a t further = further (LambdaOf p a)
operand_ended (InArgs c es) fs a Comma further = Goes (Want (InArgs c (After (with_last es a)) ∷ fs))
operand_ended (InArgs c es) fs a Close further = Goes (Has fs (Call c (with_last es a)))
operand_ended (InPiece g ps ls) fs a t further = pieced fs g (pieces_with ps (Something ls a)) t
operand_ended InReturn fs a t further = further (ReturnOf a)
operand_ended f fs a t further = Refuses

-- the statement ends, or does not
abbrev pub statement_whole : Tree → Token → ParserStep
statement_whole a (Separating s) = Done a s
statement_whole a t = Refuses

-- an operand has come
abbrev pub after : List ParserFrame → Tree → Token → ParserStep
after [] a t = if goes 0 t then pushed [] a t else statement_whole a t
after (f ∷ fs) a t = if goes (operand_level f) t then pushed (f ∷ fs) a t else operand_ended f fs a t (λ b. after fs b t)

-- a name has come, and no operand of it
abbrev pub name_alone : List ParserFrame → NameUse → Token → ParserStep
name_alone fs h Assign = if nat_le (lowest fs) 0 then frame_opened (InSet h) fs else Refuses
name_alone fs h Open = Goes (Opened fs (tree.Named h))
name_alone fs h t = after fs (Variable h) t

abbrev pub named : List ParserFrame → NameUse → Token → ParserStep
named fs h t = if begins_phrase t then begin (InApply h ∷ fs) t else name_alone fs h t

abbrev pub call_empty : List ParserFrame → Callee → Token → ParserStep
call_empty fs c Close = Goes (Has fs (Bare c))
call_empty fs c t = Refuses

abbrev pub shut : List ParserFrame → Tree → Token → ParserStep
shut fs a Open = Goes (Opened fs (EnclosedLambda a))
shut fs a t = after fs (Enclosed a) t

abbrev pub piece_begins : List ParserFrame → Group → Behind → Labels → Token → ParserStep
piece_begins fs (Prog ds) ps ls (Identifier x) = Goes (AtName fs (Prog ds) ps ls x)
piece_begins fs g ps ls t = begin (InPiece g ps ls ∷ fs) t

abbrev pub at_piece : List ParserFrame → Group → Behind → Labels → Token → ParserStep
at_piece fs g ps ls t = if begins t then piece_begins fs g ps ls t else pieced fs g (pieces_with ps (Nothing ls)) t

abbrev pub is_colon : Token → Bool
is_colon Colon = true
is_colon t = false

abbrev pub at_name : List ParserFrame → Group → Behind → Labels → Name → Token → ParserStep
at_name fs g ps ls x t = if is_colon t then Goes (AtPiece fs g ps (Label ls x)) else named (InPiece g ps ls ∷ fs) (Plain x) t

abbrev pub at_declarations : List ParserFrame → Declarations → Token → ParserStep
at_declarations fs ds Scalar = Goes (AtScalar fs ds)
at_declarations fs ds t = at_piece fs (Prog ds) NoPiece Unlabelled t

abbrev pub at_names : List ParserFrame → Declarations → NameList → Token → ParserStep
at_names fs ds xs Comma = Goes (AtMore fs ds xs)
at_names fs ds xs (Separating Semicolon) = Goes (AtDeclarations fs (Declared ds xs))
at_names fs ds xs t = Refuses

abbrev pub at_parameters : List ParserFrame → Listing → Token → ParserStep
at_parameters fs Begun (Identifier x) = Goes (AtParameters fs (Over (OneParameter x)))
at_parameters fs Begun Open = Goes (AtParameters fs Opening)
at_parameters fs Begun (Separating Semicolon) = Goes (Want (InLambda NoParameters ∷ fs))
at_parameters fs Opening Close = Goes (AtParameters fs (Over NoneListed))
at_parameters fs Opening (Identifier x) = Goes (AtParameters fs (Naming (Just x)))
at_parameters fs (Naming xs) Comma = Goes (AtParameters fs (Parted xs))
at_parameters fs (Naming xs) Close = Goes (AtParameters fs (Over (Listed xs)))
at_parameters fs (Parted xs) (Identifier x) = Goes (AtParameters fs (Naming (Also xs x)))
at_parameters fs (Over p) (Separating Semicolon) = Goes (Want (InLambda p ∷ fs))
at_parameters fs l t = Refuses

abbrev pub at_for : List ParserFrame → Token → ParserStep
at_for fs Each = Goes (AtEach fs Two)
at_for fs (Identifier x) = Goes (AtIndex fs x)
at_for fs t = Refuses

abbrev pub at_go : List ParserFrame → Token → ParserStep
at_go fs To = Goes (AtGoal fs GoTo)
at_go fs (Identifier x) = Goes (Has fs (GoingTo GoBare x))
at_go fs t = Refuses

abbrev pub at_identifier : Token → (Name → ParserState) → ParserStep
at_identifier (Identifier x) next = Goes (next x)
at_identifier t next = Refuses

abbrev pub at_index : List ParserFrame → Name → Token → ParserStep
at_index fs x Assign = Goes (Want (InFrom x ∷ fs))
at_index fs x t = Refuses

abbrev pub at_in : List ParserFrame → EachOf → Name → Token → ParserStep
at_in fs e x In = Goes (Want (InOf e x ∷ fs))
at_in fs e x t = Refuses

abbrev pub parser_step : ParserState → Token → ParserStep
parser_step (Want fs) t = begin fs t
parser_step (Named fs h) t = named fs h t
parser_step (Has fs a) t = after fs a t
parser_step (Opened fs c) t = if begins t then begin (InArgs c None ∷ fs) t else call_empty fs c t
parser_step (Shut fs a) t = shut fs a t
parser_step (Returned fs) t = if begins t then begin (InReturn ∷ fs) t else after fs ReturnNone t
parser_step (AtPiece fs g ps ls) t = at_piece fs g ps ls t
parser_step (AtName fs g ps ls x) t = at_name fs g ps ls x t
parser_step (AtDeclarations fs ds) t = at_declarations fs ds t
parser_step (AtScalar fs ds) t = at_identifier t (λ x. AtNames fs ds (Just x))
parser_step (AtNames fs ds xs) t = at_names fs ds xs t
parser_step (AtMore fs ds xs) t = at_identifier t (λ x. AtNames fs ds (Also xs x))
parser_step (AtParameters fs l) t = at_parameters fs l t
parser_step (AtFor fs) t = at_for fs t
parser_step (AtIndex fs x) t = at_index fs x t
parser_step (AtEach fs e) t = at_identifier t (λ x. AtIn fs e x)
parser_step (AtIn fs e x) t = at_in fs e x t
parser_step (AtGo fs) t = at_go fs t
parser_step (AtGoal fs g) t = at_identifier t (λ x. Has fs (GoingTo g x))

-- a statement and the tokens behind it; or the tokens from the one on that has no place
pub data ParserOutcome : Type 0 where
  Read : Tree → Separator → List Token → ParserOutcome
  Refused : List Token → ParserOutcome

abbrev pub after_parser_step : List Token → Token → ParserStep → (ParserState → ParserOutcome) → ParserOutcome
after_parser_step ts t (Goes s) further = further s
after_parser_step ts t (Done a s) further = Read a s ts
after_parser_step ts t Refuses further = Refused (t ∷ ts)

abbrev pub parser_run : ParserState → List Token → ParserOutcome
parser_run s [] = Refused []
parser_run s (t ∷ ts) = after_parser_step ts t (parser_step s t) (λ s. parser_run s ts)

abbrev pub parse : List Token → ParserOutcome
parse ts = parser_run (Want []) ts
