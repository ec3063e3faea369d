-- Parsing keeps count of what is unfinished at each token that it has taken.
use Rattle.std.proofs.Common.{◌≡◌, ℕ, suc, nat_le, if◌then◌else◌, List, [], ◌∷◌, ◌++◌, refl, ap, ◌∙◌}
use Rattle.std.proofs.lemmas.Bool.{cond_both}
use Rattle.rl_tree.specs.Name.{Name}
use Rattle.rl_grammar.specs.Token.{Plus, Minus, Semicolon, Do, Token, Identifier, Integer, String, Quoted, Infix, Word, Power, Dot, Not, Assign, Open, Close, Comma, Colon, If, Then, While, Repeat, Until, For, Each, Foreach, In, Does, OpenBlock, CloseBlock, Separating, Begin, End, Scalar, Return, Go, To, Goto, Lambda}
use Rattle.rl_grammar.specs.Tree.{NameUse, Plain, Reserved, Positive, Negative, NameList, Labels, Unlabelled, Declarations, Group, Block, Prog, EachOf, Tree, Variable, Apply, Enclosed, Set, Binary, Raise, Pair, Negate, Signed, IfThen, IfElse, WhileDo, RepeatUntil, ForTo, EachIn, LambdaOf, ReturnNone, ReturnOf, Callee, Pieces, Piece, Nothing, Something}
use Rattle.rl_grammar.specs.Grammar.{goes, is_else, begins_phrase, begins, is_parenthesized_lambda}
use Rattle.rl_grammar.specs.Parser.{Before, None, After, with_last, Behind, NoPiece, Pieced, pieces_with, ParserFrame, InBinary, InPower, InPair, InNot, InSign, InApply, InSet, InEnclosed, InCond, InThen, InElse, InWhile, InDo, InRepeat, InUntil, InFrom, InTo, InFor, InOf, InEach, InLambda, InArgs, InPiece, InReturn, operand_level, lowest, Listing, Begun, Opening, Naming, Parted, Over, ParserState, Want, Has, Opened, Shut, Returned, AtPiece, AtName, AtDeclarations, AtScalar, AtNames, AtMore, AtParameters, AtFor, AtIndex, AtEach, AtIn, AtGo, AtGoal, ParserStep, Goes, Done, Refuses, begin, pushed, pieced, operand_ended, statement_whole, after, name_alone, named, call_empty, shut, piece_begins, at_piece, is_colon, at_name, at_declarations, at_names, at_parameters, at_for, at_go, at_identifier, at_index, at_in, parser_step}
use Rattle.rl_grammar.specs.Nesting.{names_nests, parameters_nests, labels_nests, declarations_nests, group_nests, each_nests, going_nests, nests, callee_nests, items_nests, pieces_nests, piece_nests}
use Rattle.rl_grammar.specs.Within.{nesting, depth}
use Rattle.rl_grammar.specs.Parser as parser

-- ---- what is unfinished at the tokens that led here, before these

abbrev deep_before : ℕ → Before → List ℕ → List ℕ
deep_before n None ns = ns
deep_before n (After es) ns = items_nests n es (n ∷ ns)

abbrev deep_behind : ℕ → Behind → List ℕ → List ℕ
deep_behind n NoPiece ns = ns
deep_behind n (Pieced ps s) ns = pieces_nests n ps (n ∷ ns)

abbrev deep : List ParserFrame → List ℕ → List ℕ
deep [] ns = ns
deep (InBinary o a ∷ fs) ns = deep fs (nests (nesting fs) a (nesting fs ∷ ns))
deep (InPower a ∷ fs) ns = deep fs (nests (nesting fs) a (nesting fs ∷ ns))
deep (InPair a ∷ fs) ns = deep fs (nests (nesting fs) a (nesting fs ∷ ns))
deep (InNot ∷ fs) ns = deep fs (nesting fs ∷ ns)
deep (InSign s ∷ fs) ns = deep fs (nesting fs ∷ ns)
deep (InApply h ∷ fs) ns = deep fs (nesting fs ∷ ns)
deep (InSet h ∷ fs) ns = deep fs (nesting fs ∷ nesting fs ∷ ns)
deep (InEnclosed ∷ fs) ns = deep fs (nesting fs ∷ ns)
deep (InCond ∷ fs) ns = deep fs (nesting fs ∷ ns)
deep (InThen a ∷ fs) ns = deep fs (nesting fs ∷ nests (suc (nesting fs)) a (nesting fs ∷ ns))
deep (InElse a b ∷ fs) ns = deep fs (nesting fs ∷ nests (suc (nesting fs)) a (nesting fs ∷ nests (suc (nesting fs)) b (nesting fs ∷ ns)))
deep (InWhile ∷ fs) ns = deep fs (nesting fs ∷ ns)
deep (InDo a ∷ fs) ns = deep fs (nesting fs ∷ nests (suc (nesting fs)) a (nesting fs ∷ ns))
deep (InRepeat ∷ fs) ns = deep fs (nesting fs ∷ ns)
deep (InUntil a ∷ fs) ns = deep fs (nesting fs ∷ nests (suc (nesting fs)) a (nesting fs ∷ ns))
deep (InFrom x ∷ fs) ns = deep fs (nesting fs ∷ nesting fs ∷ nesting fs ∷ ns)
deep (InTo x a ∷ fs) ns = deep fs (nesting fs ∷ nesting fs ∷ nesting fs ∷ nests (suc (nesting fs)) a (nesting fs ∷ ns))
deep (InFor x a b ∷ fs) ns = deep fs (nesting fs ∷ nesting fs ∷ nesting fs ∷ nests (suc (nesting fs)) a (nesting fs ∷ nests (suc (nesting fs)) b (nesting fs ∷ ns)))
deep (InOf e x ∷ fs) ns = deep fs (each_nests (nesting fs) e (nesting fs ∷ nesting fs ∷ ns))
deep (InEach e x a w ∷ fs) ns = deep fs (each_nests (nesting fs) e (nesting fs ∷ nesting fs ∷ nests (suc (nesting fs)) a (nesting fs ∷ ns)))
deep (InLambda p ∷ fs) ns = deep fs (nesting fs ∷ parameters_nests (nesting fs) p (nesting fs ∷ ns))
deep (InArgs c es ∷ fs) ns = deep fs (callee_nests (nesting fs) c (nesting fs ∷ deep_before (nesting fs) es ns))
deep (InPiece g ps ls ∷ fs) ns = deep fs (group_nests (nesting fs) g (deep_behind (nesting fs) ps (labels_nests (nesting fs) ls ns)))
deep (InReturn ∷ fs) ns = deep fs (nesting fs ∷ ns)

abbrev pub deep_listing : ℕ → Listing → List ℕ → List ℕ
deep_listing n Begun ns = ns
deep_listing n Opening ns = n ∷ ns
deep_listing n (Naming xs) ns = n ∷ names_nests n xs ns
deep_listing n (Parted xs) ns = n ∷ names_nests n xs (n ∷ ns)
deep_listing n (Over p) ns = parameters_nests n p ns

-- a name that may be a label is left out, since the token behind it decides
abbrev pub deep_state : ParserState → List ℕ → List ℕ
deep_state (Want fs) ns = deep fs ns
deep_state (parser.Named fs h) ns = deep fs (nesting fs ∷ ns)
deep_state (Has fs a) ns = deep fs (nests (nesting fs) a ns)
deep_state (Opened fs c) ns = deep fs (callee_nests (nesting fs) c (nesting fs ∷ ns))
deep_state (Shut fs a) ns = deep fs (nesting fs ∷ nests (suc (nesting fs)) a (nesting fs ∷ ns))
deep_state (Returned fs) ns = deep fs (nesting fs ∷ ns)
deep_state (AtPiece fs g ps ls) ns = deep fs (group_nests (nesting fs) g (deep_behind (nesting fs) ps (labels_nests (nesting fs) ls ns)))
deep_state (AtName fs g ps ls x) ns = deep fs (group_nests (nesting fs) g (deep_behind (nesting fs) ps (labels_nests (nesting fs) ls ns)))
deep_state (AtDeclarations fs ds) ns = deep fs (nesting fs ∷ declarations_nests (nesting fs) ds ns)
deep_state (AtScalar fs ds) ns = deep fs (nesting fs ∷ declarations_nests (nesting fs) ds (nesting fs ∷ ns))
deep_state (AtNames fs ds xs) ns = deep fs (nesting fs ∷ declarations_nests (nesting fs) ds (nesting fs ∷ names_nests (nesting fs) xs ns))
deep_state (AtMore fs ds xs) ns = deep fs (nesting fs ∷ declarations_nests (nesting fs) ds (nesting fs ∷ names_nests (nesting fs) xs (nesting fs ∷ ns)))
deep_state (AtParameters fs l) ns = deep fs (nesting fs ∷ deep_listing (nesting fs) l ns)
deep_state (AtFor fs) ns = deep fs (nesting fs ∷ ns)
deep_state (AtIndex fs x) ns = deep fs (nesting fs ∷ nesting fs ∷ ns)
deep_state (AtEach fs e) ns = deep fs (each_nests (nesting fs) e ns)
deep_state (AtIn fs e x) ns = deep fs (each_nests (nesting fs) e (nesting fs ∷ ns))
deep_state (AtGo fs) ns = deep fs (nesting fs ∷ ns)
deep_state (AtGoal fs g) ns = deep fs (going_nests (nesting fs) g ns)

-- the last token is told, if nothing is open about it
abbrev pub told : ParserState → List ℕ → List ℕ
told (AtName fs g ps ls x) ns = ns
told s ns = depth s ∷ ns

abbrev pub Deep : Type 0
Deep = List ℕ → List ℕ

abbrev pub Tells : Deep → ParserStep → Type 0
Tells front (Goes s) = (ns : List ℕ) → front (told s ns) ≡ deep_state s ns
Tells front (Done a p) = (ns : List ℕ) → front (0 ∷ ns) ≡ nests 1 a (0 ∷ ns)
Tells front Refuses = Unit {0}

-- ---- a token

low_tells : (n : ℕ) (fs : List ParserFrame) (front : Deep) (st : ParserStep) → Tells front st → Tells front (if nat_le (lowest fs) n then st else Refuses)
low_tells n fs front st tells = cond_both (nat_le (lowest fs) n) st Refuses (Tells front) (λ e. tells) (λ e. tt)

begin_tells : (fs : List ParserFrame) (t : Token) → Tells (λ ns. deep fs ns) (begin fs t)
begin_tells fs (Identifier x) = λ ns. refl
begin_tells fs (Word w) = low_tells 9 fs (λ ns. deep fs ns) (Goes (parser.Named fs (Reserved w))) (λ ns. refl)
begin_tells fs (Integer k) = λ ns. refl
begin_tells fs (String k) = λ ns. refl
begin_tells fs (Quoted k) = λ ns. refl
begin_tells fs Open = low_tells 9 fs (λ ns. deep fs ns) (Goes (Want (InEnclosed ∷ fs))) (λ ns. refl)
begin_tells fs (Infix Plus) = low_tells 5 fs (λ ns. deep fs ns) (Goes (Want (InSign Positive ∷ fs))) (λ ns. refl)
begin_tells fs (Infix Minus) = low_tells 5 fs (λ ns. deep fs ns) (Goes (Want (InSign Negative ∷ fs))) (λ ns. refl)
begin_tells fs Not = low_tells 3 fs (λ ns. deep fs ns) (Goes (Want (InNot ∷ fs))) (λ ns. refl)
begin_tells fs If = λ ns. refl
begin_tells fs While = λ ns. refl
begin_tells fs Repeat = λ ns. refl
begin_tells fs For = λ ns. refl
begin_tells fs Foreach = λ ns. refl
begin_tells fs Lambda = λ ns. refl
begin_tells fs OpenBlock = λ ns. refl
begin_tells fs Begin = λ ns. refl
begin_tells fs Return = λ ns. refl
begin_tells fs Go = λ ns. refl
begin_tells fs Goto = λ ns. refl
begin_tells fs t = tt

-- what is told otherwise is the same
moved : (front other : Deep) (st : ParserStep) → ((ns : List ℕ) → front ns ≡ other ns) → Tells other st → Tells front st
moved front other (Goes s) is tells = λ ns. is (told s ns) ∙ tells ns
moved front other (Done a p) is tells = λ ns. is (0 ∷ ns) ∙ tells ns
moved front other Refuses is tells = tt

pushed_tells : (fs : List ParserFrame) (a : Tree) (t : Token) → Tells (λ ns. deep fs (nests (nesting fs) a ns)) (pushed fs a t)
pushed_tells fs a (Infix o) = λ ns. refl
pushed_tells fs a (Word w) = λ ns. refl
pushed_tells fs a Power = λ ns. refl
pushed_tells fs a Dot = λ ns. refl
pushed_tells fs a t = tt

last_deep : (n : ℕ) (es : Before) (a : Tree) (ns : List ℕ) → deep_before n es (nests (suc n) a ns) ≡ items_nests n (with_last es a) ns
last_deep n None a ns = refl
last_deep n (After es) a ns = refl

piece_deep : (n : ℕ) (ps : Behind) (p : Piece) (ns : List ℕ) → deep_behind n ps (piece_nests n p ns) ≡ pieces_nests n (pieces_with ps p) ns
piece_deep n NoPiece p ns = refl
piece_deep n (Pieced ps s) p ns = refl

pieced_tells : (fs : List ParserFrame) (g : Group) (ps : Pieces) (t : Token) → Tells (λ ns. deep fs (group_nests (nesting fs) g (pieces_nests (nesting fs) ps ns))) (pieced fs g ps t)
pieced_tells fs g ps (Separating s) = λ ns. refl
pieced_tells fs Block ps CloseBlock = λ ns. refl
pieced_tells fs (Prog ds) ps End = λ ns. refl
pieced_tells fs Block ps t = tt
pieced_tells fs (Prog ds) ps t = tt

abbrev Further : List ParserFrame → Token → Type 0
Further fs t = (a : Tree) → Tells (λ ns. deep fs (nests (nesting fs) a ns)) (after fs a t)

abbrev inner : ParserFrame → List ParserFrame → Tree → Deep
inner f fs a ns = deep (f ∷ fs) (nests (nesting (f ∷ fs)) a ns)

ended_tells : (f : ParserFrame) (fs : List ParserFrame) (a : Tree) (t : Token) → Further fs t → Tells (λ ns. inner f fs a ns) (operand_ended f fs a t (λ b. after fs b t))
ended_tells (InBinary o b) fs a t next = next (Binary o b a)
ended_tells (InPower b) fs a t next = next (Raise b a)
ended_tells (InPair b) fs a t next = next (Pair b a)
ended_tells InNot fs a t next = next (Negate a)
ended_tells (InSign s) fs a t next = next (Signed s a)
ended_tells (InApply h) fs a t next = next (Apply h a)
ended_tells (InSet h) fs a t next = next (Set h a)
ended_tells InEnclosed fs a Close next =
    cond_both (is_parenthesized_lambda a) (Goes (Shut fs a)) (Goes (Has fs (Enclosed a))) (Tells (λ ns. inner InEnclosed fs a ns)) (λ lambda. λ ns. refl) (λ other. λ ns. refl)
ended_tells InCond fs a Then next = λ ns. refl
ended_tells (InThen b) fs a t next =
    cond_both (is_else t) (Goes (Want (InElse b a ∷ fs))) (after fs (IfThen b a) t) (Tells (λ ns. inner (InThen b) fs a ns)) (λ at_else. λ ns. refl) (λ other. next (IfThen b a))
ended_tells (InElse b c) fs a t next = next (IfElse b c a)
ended_tells InWhile fs a (Does Do) next = λ ns. refl
ended_tells (InDo b) fs a t next = next (WhileDo b a)
ended_tells InRepeat fs a Until next = λ ns. refl
ended_tells (InUntil b) fs a t next = next (RepeatUntil b a)
ended_tells (InFrom x) fs a Colon next = λ ns. refl
ended_tells (InTo x b) fs a (Does Do) next = λ ns. refl
ended_tells (InFor x b c) fs a t next = next (ForTo x b c a)
ended_tells (InOf w x) fs a (Does v) next = λ ns. refl
ended_tells (InEach w x b v) fs a t next = next (EachIn w x b v a)
ended_tells (InLambda p) fs a t next = next (LambdaOf p a)
ended_tells (InArgs c es) fs a Comma next = λ ns. ap (λ ns. deep fs (callee_nests (nesting fs) c (nesting fs ∷ ns))) (last_deep (nesting fs) es a (nesting fs ∷ ns))
ended_tells (InArgs c es) fs a Close next = λ ns. ap (λ ns. deep fs (callee_nests (nesting fs) c (nesting fs ∷ ns))) (last_deep (nesting fs) es a (nesting fs ∷ ns))
ended_tells (InPiece g ps ls) fs a t next =
    moved (λ ns. inner (InPiece g ps ls) fs a ns) (λ ns. deep fs (group_nests (nesting fs) g (pieces_nests (nesting fs) (pieces_with ps (Something ls a)) ns))) (pieced fs g (pieces_with ps (Something ls a)) t)
    (λ ns. ap (λ ns. deep fs (group_nests (nesting fs) g ns)) (piece_deep (nesting fs) ps (Something ls a) ns))
    (pieced_tells fs g (pieces_with ps (Something ls a)) t)
ended_tells InReturn fs a t next = next (ReturnOf a)
ended_tells f fs a t next = tt

whole_tells : (a : Tree) (t : Token) → Tells (λ ns. nests 1 a ns) (statement_whole a t)
whole_tells a (Separating s) = λ ns. refl
whole_tells a t = tt

after_tells : (fs : List ParserFrame) (a : Tree) (t : Token) → Tells (λ ns. deep fs (nests (nesting fs) a ns)) (after fs a t)
after_tells [] a t = cond_both (goes 0 t) (pushed [] a t) (statement_whole a t) (Tells (λ ns. nests 1 a ns)) (λ g. pushed_tells [] a t) (λ g. whole_tells a t)
after_tells (f ∷ fs) a t =
    cond_both (goes (operand_level f) t) (pushed (f ∷ fs) a t) (operand_ended f fs a t (λ b. after fs b t)) (Tells (λ ns. inner f fs a ns)) (λ g. pushed_tells (f ∷ fs) a t) (λ g. ended_tells f fs a t (λ b. after_tells fs b t))

alone_tells : (fs : List ParserFrame) (h : NameUse) (t : Token) → Tells (λ ns. deep fs (nesting fs ∷ ns)) (name_alone fs h t)
alone_tells fs h Assign = low_tells 0 fs (λ ns. deep fs (nesting fs ∷ ns)) (Goes (Want (InSet h ∷ fs))) (λ ns. refl)
alone_tells fs h Open = λ ns. refl
alone_tells fs h t = after_tells fs (Variable h) t

named_tells : (fs : List ParserFrame) (h : NameUse) (t : Token) → Tells (λ ns. deep fs (nesting fs ∷ ns)) (named fs h t)
named_tells fs h t = cond_both (begins_phrase t) (begin (InApply h ∷ fs) t) (name_alone fs h t) (Tells (λ ns. deep fs (nesting fs ∷ ns))) (λ e. begin_tells (InApply h ∷ fs) t) (λ e. alone_tells fs h t)

empty_tells : (fs : List ParserFrame) (c : Callee) (t : Token) → Tells (λ ns. deep fs (callee_nests (nesting fs) c (nesting fs ∷ ns))) (call_empty fs c t)
empty_tells fs c Close = λ ns. refl
empty_tells fs c t = tt

shut_tells : (fs : List ParserFrame) (a : Tree) (t : Token) → Tells (λ ns. deep_state (Shut fs a) ns) (shut fs a t)
shut_tells fs a Open = λ ns. refl
shut_tells fs a t = after_tells fs (Enclosed a) t

abbrev piece_front : List ParserFrame → Group → Behind → Labels → Deep
piece_front fs g ps ls ns = deep fs (group_nests (nesting fs) g (deep_behind (nesting fs) ps (labels_nests (nesting fs) ls ns)))

begins_tells : (fs : List ParserFrame) (g : Group) (ps : Behind) (ls : Labels) (t : Token) → Tells (λ ns. piece_front fs g ps ls ns) (piece_begins fs g ps ls t)
begins_tells fs (Prog ds) ps ls (Identifier x) = λ ns. refl
begins_tells fs (Prog ds) ps ls t = begin_tells (InPiece (Prog ds) ps ls ∷ fs) t
begins_tells fs Block ps ls t = begin_tells (InPiece Block ps ls ∷ fs) t

piece_tells : (fs : List ParserFrame) (g : Group) (ps : Behind) (ls : Labels) (t : Token) → Tells (λ ns. piece_front fs g ps ls ns) (at_piece fs g ps ls t)
piece_tells fs g ps ls t =
    cond_both (begins t) (piece_begins fs g ps ls t) (pieced fs g (pieces_with ps (Nothing ls)) t) (Tells (λ ns. piece_front fs g ps ls ns))
    (λ e. begins_tells fs g ps ls t)
    (λ e. moved (λ ns. piece_front fs g ps ls ns) (λ ns. deep fs (group_nests (nesting fs) g (pieces_nests (nesting fs) (pieces_with ps (Nothing ls)) ns))) (pieced fs g (pieces_with ps (Nothing ls)) t)
    (λ ns. ap (λ ns. deep fs (group_nests (nesting fs) g ns)) (piece_deep (nesting fs) ps (Nothing ls) ns))
    (pieced_tells fs g (pieces_with ps (Nothing ls)) t))

-- a name that may be a label is one where `:` follows, and else an operand
abbrev pub name_depth : List ParserFrame → Token → ℕ
name_depth fs t = if is_colon t then nesting fs else suc (nesting fs)

at_name_tells : (fs : List ParserFrame) (g : Group) (ps : Behind) (ls : Labels) (x : Name) (t : Token) → Tells (λ ns. piece_front fs g ps ls (name_depth fs t ∷ ns)) (at_name fs g ps ls x t)
at_name_tells fs g ps ls x Colon = λ ns. refl
at_name_tells fs g ps ls x t = named_tells (InPiece g ps ls ∷ fs) (Plain x) t

declarations_tells : (fs : List ParserFrame) (ds : Declarations) (t : Token) → Tells (λ ns. deep_state (AtDeclarations fs ds) ns) (at_declarations fs ds t)
declarations_tells fs ds Scalar = λ ns. refl
declarations_tells fs ds t = piece_tells fs (Prog ds) NoPiece Unlabelled t

identifier_tells : (front : Deep) (t : Token) (next : Name → ParserState) → ((x : Name) → Tells front (Goes (next x))) → Tells front (at_identifier t next)
identifier_tells front (Identifier x) next tells = tells x
identifier_tells front t next tells = tt

names_tells : (fs : List ParserFrame) (ds : Declarations) (xs : NameList) (t : Token) → Tells (λ ns. deep_state (AtNames fs ds xs) ns) (at_names fs ds xs t)
names_tells fs ds xs Comma = λ ns. refl
names_tells fs ds xs (Separating Semicolon) = λ ns. refl
names_tells fs ds xs t = tt

parameters_tells : (fs : List ParserFrame) (l : Listing) (t : Token) → Tells (λ ns. deep_state (AtParameters fs l) ns) (at_parameters fs l t)
parameters_tells fs Begun (Identifier x) = λ ns. refl
parameters_tells fs Begun Open = λ ns. refl
parameters_tells fs Begun (Separating Semicolon) = λ ns. refl
parameters_tells fs Opening Close = λ ns. refl
parameters_tells fs Opening (Identifier x) = λ ns. refl
parameters_tells fs (Naming xs) Comma = λ ns. refl
parameters_tells fs (Naming xs) Close = λ ns. refl
parameters_tells fs (Parted xs) (Identifier x) = λ ns. refl
parameters_tells fs (Over p) (Separating Semicolon) = λ ns. refl
parameters_tells fs l t = tt

for_tells : (fs : List ParserFrame) (t : Token) → Tells (λ ns. deep_state (AtFor fs) ns) (at_for fs t)
for_tells fs Each = λ ns. refl
for_tells fs (Identifier x) = λ ns. refl
for_tells fs t = tt

go_tells : (fs : List ParserFrame) (t : Token) → Tells (λ ns. deep_state (AtGo fs) ns) (at_go fs t)
go_tells fs To = λ ns. refl
go_tells fs (Identifier x) = λ ns. refl
go_tells fs t = tt

index_tells : (fs : List ParserFrame) (x : Name) (t : Token) → Tells (λ ns. deep_state (AtIndex fs x) ns) (at_index fs x t)
index_tells fs x Assign = λ ns. refl
index_tells fs x t = tt

in_tells : (fs : List ParserFrame) (e : EachOf) (x : Name) (t : Token) → Tells (λ ns. deep_state (AtIn fs e x) ns) (at_in fs e x t)
in_tells fs e x In = λ ns. refl
in_tells fs e x t = tt

-- what was open about the last token, decided by the next
abbrev pub owed_state : ParserState → Token → List ℕ
owed_state (AtName fs g ps ls x) t = name_depth fs t ∷ []
owed_state s t = []

pub step_tells : (s : ParserState) (t : Token) → Tells (λ ns. deep_state s (owed_state s t ++ ns)) (parser_step s t)
step_tells (Want fs) t = begin_tells fs t
step_tells (parser.Named fs h) t = named_tells fs h t
step_tells (Has fs a) t = after_tells fs a t
step_tells (Opened fs c) t =
    cond_both (begins t) (begin (InArgs c None ∷ fs) t) (call_empty fs c t) (Tells (λ ns. deep_state (Opened fs c) ns)) (λ e. begin_tells (InArgs c None ∷ fs) t) (λ e. empty_tells fs c t)
step_tells (Shut fs a) t = shut_tells fs a t
step_tells (Returned fs) t =
    cond_both (begins t) (begin (InReturn ∷ fs) t) (after fs ReturnNone t) (Tells (λ ns. deep_state (Returned fs) ns)) (λ e. begin_tells (InReturn ∷ fs) t) (λ e. after_tells fs ReturnNone t)
step_tells (AtPiece fs g ps ls) t = piece_tells fs g ps ls t
step_tells (AtName fs g ps ls x) t = at_name_tells fs g ps ls x t
step_tells (AtDeclarations fs ds) t = declarations_tells fs ds t
step_tells (AtScalar fs ds) t = identifier_tells (λ ns. deep_state (AtScalar fs ds) ns) t _ (λ x. λ ns. refl)
step_tells (AtNames fs ds xs) t = names_tells fs ds xs t
step_tells (AtMore fs ds xs) t = identifier_tells (λ ns. deep_state (AtMore fs ds xs) ns) t _ (λ x. λ ns. refl)
step_tells (AtParameters fs l) t = parameters_tells fs l t
step_tells (AtFor fs) t = for_tells fs t
step_tells (AtIndex fs x) t = index_tells fs x t
step_tells (AtEach fs e) t = identifier_tells (λ ns. deep_state (AtEach fs e) ns) t _ (λ x. λ ns. refl)
step_tells (AtIn fs e x) t = in_tells fs e x t
step_tells (AtGo fs) t = go_tells fs t
step_tells (AtGoal fs g) t = identifier_tells (λ ns. deep_state (AtGoal fs g) ns) t _ (λ x. λ ns. refl)
