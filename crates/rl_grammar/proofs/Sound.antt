-- What is parsed is of the grammar.
use Rattle.std.proofs.Common.{◌≡◌, ℕ, suc, ◌<◌, ◌≤◌, Bool, true, false, not, ◌&&◌, nat_le, if◌then◌else◌, List, [], ◌∷◌, refl, ap, ◌∙◌, arith}
use Rattle.rl_grammar.specs.Token.{Or, And, Plus, Minus, Times, Divide, Separator, Semicolon, Do, Token, Identifier, Integer, String, Quoted, Infix, Word, Power, Dot, Not, Assign, Open, Close, Comma, Colon, If, Then, Else, While, Repeat, Until, For, Each, Foreach, In, Does, OpenBlock, CloseBlock, Separating, Begin, End, Scalar, Return, Go, To, Goto, Lambda}
use Rattle.rl_grammar.specs.Tree.{NameUse, Plain, Reserved, head_token, LeftOperator, By, ByWord, operation_token, sign_token, NameList, names_spelled, parameters_spelled, Labels, Unlabelled, Label, labels_spelled, Declarations, declarations_spelled, Group, Block, Prog, group_spelled, EachOf, each_spelled, going_spelled, Tree, Variable, Whole, Text, Quote, Bare, Call, Apply, Enclosed, Set, Binary, Raise, Pair, Negate, Signed, IfThen, IfElse, WhileDo, RepeatUntil, ForTo, EachIn, LambdaOf, Grouped, ReturnNone, ReturnOf, GoingTo, Callee, EnclosedLambda, Pieces, Piece, Nothing, Something, spelled, callee_spelled, items_spelled, pieces_spelled, piece_spelled}
use Rattle.rl_grammar.specs.Grammar.{head_level, level, goes, is_else, begins_phrase, begins, ends, is_parenthesized_lambda, LabelsFit, Fits, CalleeFits, ItemsFit, PiecesFit, PieceFits, IsExpr}
use Rattle.rl_grammar.specs.Parser.{Before, None, After, with_last, Behind, NoPiece, Pieced, pieces_with, ParserFrame, InBinary, InPower, InPair, InNot, InSign, InApply, InSet, InEnclosed, InCond, InThen, InElse, InWhile, InDo, InRepeat, InUntil, InFrom, InTo, InFor, InOf, InEach, InLambda, InArgs, InPiece, InReturn, operand_level, lowest, Listing, Begun, Opening, Naming, Parted, Over, ParserState, Want, Named, Has, Opened, Shut, Returned, AtPiece, AtName, AtDeclarations, AtScalar, AtNames, AtMore, AtParameters, AtFor, AtIndex, AtEach, AtIn, AtGo, AtGoal, ParserStep, Goes, Done, Refuses, begin, pushed, pieced, operand_ended, statement_whole, after, name_alone, named, call_empty, shut, piece_begins, at_piece, is_colon, at_name, at_declarations, at_names, at_parameters, at_for, at_go, at_identifier, at_index, at_in, parser_step, Read, after_parser_step, parser_run, parse}
use Rattle.rl_grammar.specs.Tree as tree
use Rattle.rl_tree.specs.Name.{Name}
use Rattle.std.proofs.lemmas.Bool.{cond_both, leb-true, leb-false, and_parts, and_from, not-true, not-false, not_from_false}

-- ---- the tokens that led here, before these

abbrev pub shown_before : Before → List Token → List Token
shown_before None ts = ts
shown_before (After es) ts = items_spelled es (Comma ∷ ts)

abbrev pub shown_behind : Behind → List Token → List Token
shown_behind NoPiece ts = ts
shown_behind (Pieced ps s) ts = pieces_spelled ps (Separating s ∷ ts)

abbrev pub shown : List ParserFrame → List Token → List Token
shown [] ts = ts
shown (InBinary o a ∷ fs) ts = shown fs (spelled a (operation_token o ∷ ts))
shown (InPower a ∷ fs) ts = shown fs (spelled a (Power ∷ ts))
shown (InPair a ∷ fs) ts = shown fs (spelled a (Dot ∷ ts))
shown (InNot ∷ fs) ts = shown fs (Not ∷ ts)
shown (InSign s ∷ fs) ts = shown fs (sign_token s ∷ ts)
shown (InApply h ∷ fs) ts = shown fs (head_token h ∷ ts)
shown (InSet h ∷ fs) ts = shown fs (head_token h ∷ Assign ∷ ts)
shown (InEnclosed ∷ fs) ts = shown fs (Open ∷ ts)
shown (InCond ∷ fs) ts = shown fs (If ∷ ts)
shown (InThen a ∷ fs) ts = shown fs (If ∷ spelled a (Then ∷ ts))
shown (InElse a b ∷ fs) ts = shown fs (If ∷ spelled a (Then ∷ spelled b (Else ∷ ts)))
shown (InWhile ∷ fs) ts = shown fs (While ∷ ts)
shown (InDo a ∷ fs) ts = shown fs (While ∷ spelled a (Does Do ∷ ts))
shown (InRepeat ∷ fs) ts = shown fs (Repeat ∷ ts)
shown (InUntil a ∷ fs) ts = shown fs (Repeat ∷ spelled a (Until ∷ ts))
shown (InFrom x ∷ fs) ts = shown fs (For ∷ Identifier x ∷ Assign ∷ ts)
shown (InTo x a ∷ fs) ts = shown fs (For ∷ Identifier x ∷ Assign ∷ spelled a (Colon ∷ ts))
shown (InFor x a b ∷ fs) ts = shown fs (For ∷ Identifier x ∷ Assign ∷ spelled a (Colon ∷ spelled b (Does Do ∷ ts)))
shown (InOf e x ∷ fs) ts = shown fs (each_spelled e (Identifier x ∷ In ∷ ts))
shown (InEach e x a w ∷ fs) ts = shown fs (each_spelled e (Identifier x ∷ In ∷ spelled a (Does w ∷ ts)))
shown (InLambda p ∷ fs) ts = shown fs (Lambda ∷ parameters_spelled p (Separating Semicolon ∷ ts))
shown (InArgs c es ∷ fs) ts = shown fs (callee_spelled c (Open ∷ shown_before es ts))
shown (InPiece g ps ls ∷ fs) ts = shown fs (group_spelled g (shown_behind ps (labels_spelled ls ts)))
shown (InReturn ∷ fs) ts = shown fs (Return ∷ ts)

abbrev pub shown_listing : Listing → List Token → List Token
shown_listing Begun ts = ts
shown_listing Opening ts = Open ∷ ts
shown_listing (Naming xs) ts = Open ∷ names_spelled xs ts
shown_listing (Parted xs) ts = Open ∷ names_spelled xs (Comma ∷ ts)
shown_listing (Over p) ts = parameters_spelled p ts

abbrev pub shown_state : ParserState → List Token → List Token
shown_state (Want fs) ts = shown fs ts
shown_state (Named fs h) ts = shown fs (head_token h ∷ ts)
shown_state (Has fs a) ts = shown fs (spelled a ts)
shown_state (Opened fs c) ts = shown fs (callee_spelled c (Open ∷ ts))
shown_state (Shut fs a) ts = shown fs (Open ∷ spelled a (Close ∷ ts))
shown_state (Returned fs) ts = shown fs (Return ∷ ts)
shown_state (AtPiece fs g ps ls) ts = shown fs (group_spelled g (shown_behind ps (labels_spelled ls ts)))
shown_state (AtName fs g ps ls x) ts = shown fs (group_spelled g (shown_behind ps (labels_spelled ls (Identifier x ∷ ts))))
shown_state (AtDeclarations fs ds) ts = shown fs (Begin ∷ declarations_spelled ds ts)
shown_state (AtScalar fs ds) ts = shown fs (Begin ∷ declarations_spelled ds (Scalar ∷ ts))
shown_state (AtNames fs ds xs) ts = shown fs (Begin ∷ declarations_spelled ds (Scalar ∷ names_spelled xs ts))
shown_state (AtMore fs ds xs) ts = shown fs (Begin ∷ declarations_spelled ds (Scalar ∷ names_spelled xs (Comma ∷ ts)))
shown_state (AtParameters fs l) ts = shown fs (Lambda ∷ shown_listing l ts)
shown_state (AtFor fs) ts = shown fs (For ∷ ts)
shown_state (AtIndex fs x) ts = shown fs (For ∷ Identifier x ∷ ts)
shown_state (AtEach fs e) ts = shown fs (each_spelled e ts)
shown_state (AtIn fs e x) ts = shown fs (each_spelled e (Identifier x ∷ ts))
shown_state (AtGo fs) ts = shown fs (Go ∷ ts)
shown_state (AtGoal fs g) ts = shown fs (going_spelled g ts)

-- ---- what has begun is of the grammar

abbrev BeforeFits : Before → Type 0
BeforeFits None = Unit {0}
BeforeFits (After es) = ItemsFit es

abbrev BehindFits : Group → Behind → Type 0
BehindFits g NoPiece = Unit {0}
BehindFits g (Pieced ps s) = PiecesFit g ps

abbrev FrameFits : ParserFrame → List ParserFrame → Type 0
FrameFits (InBinary o a) fs = (lowest fs ≤ level o) × Fits (level o) a × (ends a (operation_token o) ≡ true)
FrameFits (InPower a) fs = (lowest fs ≤ 7) × Fits 8 a × (ends a Power ≡ true)
FrameFits (InPair a) fs = (lowest fs ≤ 8) × Fits 9 a × (ends a Dot ≡ true)
FrameFits InNot fs = lowest fs ≤ 3
FrameFits (InSign s) fs = lowest fs ≤ 5
FrameFits (InApply h) fs = lowest fs ≤ head_level h
FrameFits (InSet h) fs = lowest fs ≤ 0
FrameFits InEnclosed fs = lowest fs ≤ 9
FrameFits (InThen a) fs = Fits 0 a
FrameFits (InElse a b) fs = Fits 0 a × Fits 0 b × (ends b Else ≡ true)
FrameFits (InDo a) fs = Fits 0 a
FrameFits (InUntil a) fs = Fits 0 a
FrameFits (InTo x a) fs = Fits 0 a
FrameFits (InFor x a b) fs = Fits 0 a × Fits 0 b
FrameFits (InEach e x a w) fs = Fits 0 a
FrameFits (InArgs c es) fs = CalleeFits (lowest fs) c × BeforeFits es
FrameFits (InPiece g ps ls) fs = BehindFits g ps × LabelsFit g ls
FrameFits f fs = Unit {0}

abbrev FramesFit : List ParserFrame → Type 0
FramesFit [] = Unit {0}
FramesFit (f ∷ fs) = FrameFits f fs × FramesFit fs

abbrev pub StateFits : ParserState → Type 0
StateFits (Want fs) = FramesFit fs
StateFits (Named fs h) = FramesFit fs × (lowest fs ≤ head_level h)
StateFits (Has fs a) = FramesFit fs × Fits (lowest fs) a × ((t : Token) → ends a t ≡ true)
StateFits (Opened fs c) = FramesFit fs × CalleeFits (lowest fs) c
StateFits (Shut fs a) = FramesFit fs × (lowest fs ≤ 9) × (is_parenthesized_lambda a ≡ true) × Fits 0 a
StateFits (Returned fs) = FramesFit fs
StateFits (AtPiece fs g ps ls) = FramesFit fs × BehindFits g ps × LabelsFit g ls
StateFits (AtName fs Block ps ls x) = ⊥
StateFits (AtName fs (Prog ds) ps ls x) = FramesFit fs × BehindFits (Prog ds) ps
StateFits (AtDeclarations fs ds) = FramesFit fs
StateFits (AtScalar fs ds) = FramesFit fs
StateFits (AtNames fs ds xs) = FramesFit fs
StateFits (AtMore fs ds xs) = FramesFit fs
StateFits (AtParameters fs l) = FramesFit fs
StateFits (AtFor fs) = FramesFit fs
StateFits (AtIndex fs x) = FramesFit fs
StateFits (AtEach fs e) = FramesFit fs
StateFits (AtIn fs e x) = FramesFit fs
StateFits (AtGo fs) = FramesFit fs
StateFits (AtGoal fs g) = FramesFit fs

abbrev pub Front : Type 0
Front = List Token → List Token

abbrev pub Holds : Front → Token → ParserStep → Type 0
Holds front t (Goes s) = ((ts : List Token) → front (t ∷ ts) ≡ shown_state s ts) × StateFits s
Holds front t (Done a s) = ((ts : List Token) → front (t ∷ ts) ≡ spelled a (Separating s ∷ ts)) × Fits 0 a
Holds front t Refuses = Unit {0}

-- ---- an operand before an operator is of its level

pub level_most : (o : LeftOperator) → level o ≤ 6
level_most (By Or) = omega arith
level_most (By And) = omega arith
level_most (By Plus) = omega arith
level_most (By Minus) = omega arith
level_most (By Times) = omega arith
level_most (By Divide) = omega arith
level_most (By o) = omega arith
level_most (ByWord w) = omega arith

head_least : (h : NameUse) → 9 ≤ head_level h
head_least (Plain x) = omega arith
head_least (Reserved w) = omega arith

-- an operand of level n does not go on with it
below : (n : ℕ) (o : LeftOperator) (x : Bool) → (not (goes n (operation_token o)) && x) ≡ true → level o < n
below n (By o) x e = leb-false _ _ (not-true _ (and_parts _ _ e).0)
below n (ByWord w) x e = leb-false _ _ (not-true _ (and_parts _ _ e).0)

callee_at : (c : Callee) (n m : ℕ) → CalleeFits n c → m ≤ 9 → CalleeFits m c
callee_at (tree.Named h) n m is low = let least = head_least h in omega arith
callee_at (EnclosedLambda a) n m is low = (low, is.1, is.2)

pub at_operation : (a : Tree) (n : ℕ) (o : LeftOperator) → Fits n a → ends a (operation_token o) ≡ true → Fits (level o) a
at_operation (Variable h) n o is e = let most = level_most o in let least = head_least h in omega arith
at_operation (Whole k) n o is e = tt
at_operation (Text k) n o is e = tt
at_operation (Quote k) n o is e = tt
at_operation (Bare c) n o is e = let most = level_most o in callee_at c n (level o) is (omega arith)
at_operation (Call c es) n o is e = let most = level_most o in (callee_at c n (level o) is.0 (omega arith), is.1)
at_operation (Apply h a) n o is e = let most = level_most o in let least = head_least h in (omega arith, is.1)
at_operation (Enclosed a) n o is e = let most = level_most o in (omega arith, is.1)
at_operation (Set h a) n o is e = absurd (let less = below 0 o _ e in omega arith)
at_operation (Binary p a b) n o is e = let less = below (suc (level p)) o _ e in (omega arith, is.1, is.2, is.3)
at_operation (Raise a b) n o is e = let most = level_most o in (omega arith, is.1, is.2, is.3)
at_operation (Pair a b) n o is e = let most = level_most o in (omega arith, is.1, is.2, is.3)
at_operation (Negate a) n o is e = let less = below 3 o _ e in (omega arith, is.1)
at_operation (Signed s a) n o is e = let less = below 6 o _ e in (omega arith, is.1)
at_operation (IfThen a b) n o is e = is
at_operation (IfElse a b c) n o is e = is
at_operation (WhileDo a b) n o is e = is
at_operation (RepeatUntil a b) n o is e = is
at_operation (ForTo x a b c) n o is e = is
at_operation (EachIn w x a v b) n o is e = is
at_operation (LambdaOf p a) n o is e = is
at_operation (Grouped g ps) n o is e = is
at_operation ReturnNone n o is e = tt
at_operation (ReturnOf a) n o is e = is
at_operation (GoingTo g x) n o is e = tt

-- no operator's right operand ends before `**` or `.`
binary_takes : (o : LeftOperator) (t : Token) (x : Bool) → (not (goes 7 t)) ≡ false → (not (goes (suc (level o)) t) && x) ≡ true → ⊥
binary_takes (By Or) Power x g e = absurd cc
binary_takes (By And) Power x g e = absurd cc
binary_takes (By Plus) Power x g e = absurd cc
binary_takes (By Minus) Power x g e = absurd cc
binary_takes (By Times) Power x g e = absurd cc
binary_takes (By Divide) Power x g e = absurd cc
binary_takes (By o) Power x g e = absurd cc
binary_takes (ByWord w) Power x g e = absurd cc
binary_takes (By Or) Dot x g e = absurd cc
binary_takes (By And) Dot x g e = absurd cc
binary_takes (By Plus) Dot x g e = absurd cc
binary_takes (By Minus) Dot x g e = absurd cc
binary_takes (By Times) Dot x g e = absurd cc
binary_takes (By Divide) Dot x g e = absurd cc
binary_takes (By o) Dot x g e = absurd cc
binary_takes (ByWord w) Dot x g e = absurd cc
binary_takes o (Infix p) x g e = let low = leb-true _ _ (not-false _ g) in absurd (let most = level_most (By p) in omega arith)
binary_takes o (Word p) x g e = absurd cc
binary_takes o t x g e = absurd cc

pub at_power : (a : Tree) (n : ℕ) → Fits n a → ends a Power ≡ true → Fits 8 a
at_power (Variable h) n is e = let least = head_least h in omega arith
at_power (Whole k) n is e = tt
at_power (Text k) n is e = tt
at_power (Quote k) n is e = tt
at_power (Bare c) n is e = callee_at c n 8 is (omega arith)
at_power (Call c es) n is e = (callee_at c n 8 is.0 (omega arith), is.1)
at_power (Apply h a) n is e = let least = head_least h in (omega arith, is.1)
at_power (Enclosed a) n is e = (omega arith, is.1)
at_power (Set h a) n is e = absurd cc
at_power (Binary o a b) n is e = absurd (binary_takes o Power _ refl e)
at_power (Raise a b) n is e = absurd cc
at_power (Pair a b) n is e = (omega arith, is.1, is.2, is.3)
at_power (Negate a) n is e = absurd cc
at_power (Signed s a) n is e = absurd cc
at_power (IfThen a b) n is e = is
at_power (IfElse a b c) n is e = is
at_power (WhileDo a b) n is e = is
at_power (RepeatUntil a b) n is e = is
at_power (ForTo x a b c) n is e = is
at_power (EachIn w x a v b) n is e = is
at_power (LambdaOf p a) n is e = is
at_power (Grouped g ps) n is e = is
at_power ReturnNone n is e = tt
at_power (ReturnOf a) n is e = is
at_power (GoingTo g x) n is e = tt

pub at_dot : (a : Tree) (n : ℕ) → Fits n a → ends a Dot ≡ true → Fits 9 a
at_dot (Variable h) n is e = head_least h
at_dot (Whole k) n is e = tt
at_dot (Text k) n is e = tt
at_dot (Quote k) n is e = tt
at_dot (Bare c) n is e = callee_at c n 9 is (omega arith)
at_dot (Call c es) n is e = (callee_at c n 9 is.0 (omega arith), is.1)
at_dot (Apply h a) n is e = (head_least h, is.1)
at_dot (Enclosed a) n is e = (omega arith, is.1)
at_dot (Set h a) n is e = absurd cc
at_dot (Binary o a b) n is e = absurd (binary_takes o Dot _ refl e)
at_dot (Raise a b) n is e = absurd cc
at_dot (Pair a b) n is e = absurd cc
at_dot (Negate a) n is e = absurd cc
at_dot (Signed s a) n is e = absurd cc
at_dot (IfThen a b) n is e = is
at_dot (IfElse a b c) n is e = is
at_dot (WhileDo a b) n is e = is
at_dot (RepeatUntil a b) n is e = is
at_dot (ForTo x a b c) n is e = is
at_dot (EachIn w x a v b) n is e = is
at_dot (LambdaOf p a) n is e = is
at_dot (Grouped g ps) n is e = is
at_dot ReturnNone n is e = tt
at_dot (ReturnOf a) n is e = is
at_dot (GoingTo g x) n is e = tt

-- ---- a token

low_holds : (n : ℕ) (fs : List ParserFrame) (front : Front) (t : Token) (st : ParserStep) → (lowest fs ≤ n → Holds front t st) → Holds front t (if nat_le (lowest fs) n then st else Refuses)
low_holds n fs front t st holds = cond_both (nat_le (lowest fs) n) st Refuses (Holds front t) (λ e. holds (leb-true _ _ e)) (λ e. tt)

name_level : (fs : List ParserFrame) (x : Name) → lowest fs ≤ head_level (Plain x)
name_level [] x = omega arith
name_level (InBinary o a ∷ fs) x = let most = level_most o in omega arith
name_level (InPower a ∷ fs) x = omega arith
name_level (InPair a ∷ fs) x = omega arith
name_level (InNot ∷ fs) x = omega arith
name_level (InSign s ∷ fs) x = omega arith
name_level (InApply h ∷ fs) x = omega arith
name_level (f ∷ fs) x = omega arith

begin_holds : (fs : List ParserFrame) (t : Token) → FramesFit fs → Holds (λ ts. shown fs ts) t (begin fs t)
begin_holds fs (Identifier x) fit = (λ ts. refl, (fit, name_level fs x))
begin_holds fs (Word w) fit = low_holds 9 fs (λ ts. shown fs ts) (Word w) _ (λ low. (λ ts. refl, (fit, low)))
begin_holds fs (Integer k) fit = (λ ts. refl, (fit, tt, λ t. refl))
begin_holds fs (String k) fit = (λ ts. refl, (fit, tt, λ t. refl))
begin_holds fs (Quoted k) fit = (λ ts. refl, (fit, tt, λ t. refl))
begin_holds fs Open fit = low_holds 9 fs (λ ts. shown fs ts) Open _ (λ low. (λ ts. refl, (low, fit)))
begin_holds fs (Infix Plus) fit = low_holds 5 fs (λ ts. shown fs ts) (Infix Plus) _ (λ low. (λ ts. refl, (low, fit)))
begin_holds fs (Infix Minus) fit = low_holds 5 fs (λ ts. shown fs ts) (Infix Minus) _ (λ low. (λ ts. refl, (low, fit)))
begin_holds fs Not fit = low_holds 3 fs (λ ts. shown fs ts) Not _ (λ low. (λ ts. refl, (low, fit)))
begin_holds fs If fit = (λ ts. refl, (tt, fit))
begin_holds fs While fit = (λ ts. refl, (tt, fit))
begin_holds fs Repeat fit = (λ ts. refl, (tt, fit))
begin_holds fs For fit = (λ ts. refl, fit)
begin_holds fs Foreach fit = (λ ts. refl, fit)
begin_holds fs Lambda fit = (λ ts. refl, fit)
begin_holds fs OpenBlock fit = (λ ts. refl, (fit, tt, tt))
begin_holds fs Begin fit = (λ ts. refl, fit)
begin_holds fs Return fit = (λ ts. refl, fit)
begin_holds fs Go fit = (λ ts. refl, fit)
begin_holds fs Goto fit = (λ ts. refl, fit)
begin_holds fs t fit = tt

-- what is shown otherwise is the same
moved : (front other : Front) (t : Token) (st : ParserStep) → ((ts : List Token) → front ts ≡ other ts) → Holds other t st → Holds front t st
moved front other t (Goes s) is h = (λ ts. is (t ∷ ts) ∙ h.0 ts, h.1)
moved front other t (Done a s) is h = (λ ts. is (t ∷ ts) ∙ h.0 ts, h.1)
moved front other t Refuses is h = tt

-- what stands deeper begins
deeper_holds : (f : ParserFrame) (fs : List ParserFrame) (front : Front) (t : Token) → ((ts : List Token) → front ts ≡ shown (f ∷ fs) ts) → FrameFits f fs → FramesFit fs → Holds front t (begin (f ∷ fs) t)
deeper_holds f fs front t is fits outer = moved front (λ ts. shown (f ∷ fs) ts) t (begin (f ∷ fs) t) is (begin_holds (f ∷ fs) t (fits, outer))

pushed_holds : (fs : List ParserFrame) (a : Tree) (t : Token) → goes (lowest fs) t ≡ true → FramesFit fs → Fits (lowest fs) a → ends a t ≡ true → Holds (λ ts. shown fs (spelled a ts)) t (pushed fs a t)
pushed_holds fs a (Infix o) g fit is e = (λ ts. refl, ((leb-true _ _ g, at_operation a _ (By o) is e, e), fit))
pushed_holds fs a (Word w) g fit is e = (λ ts. refl, ((leb-true _ _ g, at_operation a _ (ByWord w) is e, e), fit))
pushed_holds fs a Power g fit is e = (λ ts. refl, ((leb-true _ _ g, at_power a _ is e, e), fit))
pushed_holds fs a Dot g fit is e = (λ ts. refl, ((leb-true _ _ g, at_dot a _ is e, e), fit))
pushed_holds fs a t g fit is e = tt

last_shown : (es : Before) (a : Tree) (ts : List Token) → shown_before es (spelled a ts) ≡ items_spelled (with_last es a) ts
last_shown None a ts = refl
last_shown (After es) a ts = refl

last_fits : (es : Before) (a : Tree) → BeforeFits es → Fits 0 a → ItemsFit (with_last es a)
last_fits None a fit is = is
last_fits (After es) a fit is = (fit, is)

piece_shown : (ps : Behind) (p : Piece) (ts : List Token) → shown_behind ps (piece_spelled p ts) ≡ pieces_spelled (pieces_with ps p) ts
piece_shown NoPiece p ts = refl
piece_shown (Pieced ps s) p ts = refl

piece_fits : (g : Group) (ps : Behind) (p : Piece) → BehindFits g ps → PieceFits g p → PiecesFit g (pieces_with ps p)
piece_fits g NoPiece p fit is = is
piece_fits g (Pieced ps s) p fit is = (fit, is)

unlabelled_fits : (g : Group) → LabelsFit g Unlabelled
unlabelled_fits Block = tt
unlabelled_fits (Prog ds) = tt

-- pieces have come
pieced_holds : (fs : List ParserFrame) (g : Group) (ps : Pieces) (t : Token) → FramesFit fs → PiecesFit g ps → Holds (λ ts. shown fs (group_spelled g (pieces_spelled ps ts))) t (pieced fs g ps t)
pieced_holds fs g ps (Separating s) fit is = (λ ts. refl, (fit, is, unlabelled_fits g))
pieced_holds fs Block ps CloseBlock fit is = (λ ts. refl, (fit, is, λ t. refl))
pieced_holds fs (Prog ds) ps End fit is = (λ ts. refl, (fit, is, λ t. refl))
pieced_holds fs Block ps t fit is = tt
pieced_holds fs (Prog ds) ps t fit is = tt

abbrev Further : List ParserFrame → Token → Type 0
Further fs t = (a : Tree) → Fits (lowest fs) a → ends a t ≡ true → Holds (λ ts. shown fs (spelled a ts)) t (after fs a t)

ended_holds : (f : ParserFrame) (fs : List ParserFrame) (a : Tree) (t : Token) → goes (operand_level f) t ≡ false → FrameFits f fs → FramesFit fs → Fits (operand_level f) a → ends a t ≡ true → Further fs t → Holds (λ ts. shown (f ∷ fs) (spelled a ts)) t (operand_ended f fs a t (λ b. after fs b t))
ended_holds (InBinary o b) fs a t g fit outer is e next = next (Binary o b a) (fit.0, fit.1, fit.2, is) (and_from _ _ (not_from_false _ g) e)
ended_holds (InPower b) fs a t g fit outer is e next = next (Raise b a) (fit.0, fit.1, fit.2, is) (and_from _ _ (not_from_false _ g) e)
ended_holds (InPair b) fs a t g fit outer is e next = next (Pair b a) (fit.0, fit.1, fit.2, is) (and_from _ _ (not_from_false _ g) e)
ended_holds InNot fs a t g fit outer is e next = next (Negate a) (fit, is) (and_from _ _ (not_from_false _ g) e)
ended_holds (InSign s) fs a t g fit outer is e next = next (Signed s a) (fit, is) (and_from _ _ (not_from_false _ g) e)
ended_holds (InApply h) fs a t g fit outer is e next = next (Apply h a) (fit, is) (and_from _ _ (not_from_false _ g) e)
ended_holds (InSet h) fs a t g fit outer is e next = next (Set h a) (fit, is) (and_from _ _ (not_from_false _ g) e)
ended_holds InEnclosed fs a Close g fit outer is e next =
    cond_both (is_parenthesized_lambda a) (Goes (Shut fs a)) (Goes (Has fs (Enclosed a))) (Holds (λ ts. shown (InEnclosed ∷ fs) (spelled a ts)) Close)
    (λ lambda. (λ ts. refl, (outer, fit, lambda, is)))
    (λ other. (λ ts. refl, (outer, (fit, is), λ t. refl)))
ended_holds InCond fs a Then g fit outer is e next = (λ ts. refl, (is, outer))
ended_holds (InThen b) fs a t g fit outer is e next =
    cond_both (is_else t) (Goes (Want (InElse b a ∷ fs))) (after fs (IfThen b a) t) (Holds (λ ts. shown (InThen b ∷ fs) (spelled a ts)) t)
    (λ at_else. else_holds t at_else e)
    (λ other. next (IfThen b a) (fit, is) (and_from _ _ (not_from_false _ g) (and_from _ _ (not_from_false _ other) e)))
  where
    else_holds : (t : Token) → is_else t ≡ true → ends a t ≡ true → Holds (λ ts. shown (InThen b ∷ fs) (spelled a ts)) t (Goes (Want (InElse b a ∷ fs)))
    else_holds Else at_else e = (λ ts. refl, ((fit, is, e), outer))
    else_holds t at_else e = absurd cc
ended_holds (InElse b c) fs a t g fit outer is e next = next (IfElse b c a) (fit.0, fit.1, fit.2, is) (and_from _ _ (not_from_false _ g) e)
ended_holds InWhile fs a (Does Do) g fit outer is e next = (λ ts. refl, (is, outer))
ended_holds (InDo b) fs a t g fit outer is e next = next (WhileDo b a) (fit, is) (and_from _ _ (not_from_false _ g) e)
ended_holds InRepeat fs a Until g fit outer is e next = (λ ts. refl, (is, outer))
ended_holds (InUntil b) fs a t g fit outer is e next = next (RepeatUntil b a) (fit, is) (and_from _ _ (not_from_false _ g) e)
ended_holds (InFrom x) fs a Colon g fit outer is e next = (λ ts. refl, (is, outer))
ended_holds (InTo x b) fs a (Does Do) g fit outer is e next = (λ ts. refl, ((fit, is), outer))
ended_holds (InFor x b c) fs a t g fit outer is e next = next (ForTo x b c a) (fit.0, fit.1, is) (and_from _ _ (not_from_false _ g) e)
ended_holds (InOf w x) fs a (Does v) g fit outer is e next = (λ ts. refl, (is, outer))
ended_holds (InEach w x b v) fs a t g fit outer is e next = next (EachIn w x b v a) (fit, is) (and_from _ _ (not_from_false _ g) e)
ended_holds (InLambda p) fs a t g fit outer is e next = next (LambdaOf p a) is (and_from _ _ (not_from_false _ g) e)
ended_holds (InArgs c es) fs a Comma g fit outer is e next = (λ ts. ap (λ ts. shown fs (callee_spelled c (Open ∷ ts))) (last_shown es a (Comma ∷ ts)), ((fit.0, last_fits es a fit.1 is), outer))
ended_holds (InArgs c es) fs a Close g fit outer is e next = (λ ts. ap (λ ts. shown fs (callee_spelled c (Open ∷ ts))) (last_shown es a (Close ∷ ts)), (outer, (fit.0, last_fits es a fit.1 is), λ t. refl))
ended_holds (InPiece h ps ls) fs a t g fit outer is e next =
    moved (λ ts. shown (InPiece h ps ls ∷ fs) (spelled a ts)) (λ ts. shown fs (group_spelled h (pieces_spelled (pieces_with ps (Something ls a)) ts))) t (pieced fs h (pieces_with ps (Something ls a)) t)
    (λ ts. ap (λ ts. shown fs (group_spelled h ts)) (piece_shown ps (Something ls a) ts))
    (pieced_holds fs h (pieces_with ps (Something ls a)) t outer (piece_fits h ps (Something ls a) fit.0 (fit.1, is)))
ended_holds InReturn fs a t g fit outer is e next = next (ReturnOf a) is (and_from _ _ (not_from_false _ g) e)
ended_holds f fs a t g fit outer is e next = tt

whole_holds : (a : Tree) (t : Token) → Fits 0 a → Holds (λ ts. spelled a ts) t (statement_whole a t)
whole_holds a (Separating s) is = (λ ts. refl, is)
whole_holds a t is = tt

after_holds : (fs : List ParserFrame) (a : Tree) (t : Token) → FramesFit fs → Fits (lowest fs) a → ends a t ≡ true → Holds (λ ts. shown fs (spelled a ts)) t (after fs a t)
after_holds [] a t fit is e =
    cond_both (goes 0 t) (pushed [] a t) (statement_whole a t) (Holds (λ ts. spelled a ts) t)
    (λ g. pushed_holds [] a t g fit is e) (λ g. whole_holds a t is)
after_holds (f ∷ fs) a t fit is e =
    cond_both (goes (operand_level f) t) (pushed (f ∷ fs) a t) (operand_ended f fs a t (λ b. after fs b t)) (Holds (λ ts. shown (f ∷ fs) (spelled a ts)) t)
    (λ g. pushed_holds (f ∷ fs) a t g fit is e)
    (λ g. ended_holds f fs a t g fit.0 fit.1 is e (λ b is e. after_holds fs b t fit.1 is e))

alone_holds : (fs : List ParserFrame) (h : NameUse) (t : Token) → FramesFit fs → lowest fs ≤ head_level h → Holds (λ ts. shown fs (head_token h ∷ ts)) t (name_alone fs h t)
alone_holds fs (Plain x) Assign fit low = low_holds 0 fs (λ ts. shown fs (Identifier x ∷ ts)) Assign _ (λ least. (λ ts. refl, (least, fit)))
alone_holds fs (Reserved w) Assign fit low = low_holds 0 fs (λ ts. shown fs (Word w ∷ ts)) Assign _ (λ least. (λ ts. refl, (least, fit)))
alone_holds fs (Plain x) Open fit low = (λ ts. refl, (fit, low))
alone_holds fs (Reserved w) Open fit low = (λ ts. refl, (fit, low))
alone_holds fs (Plain x) t fit low = after_holds fs (Variable (Plain x)) t fit low refl
alone_holds fs (Reserved w) t fit low = after_holds fs (Variable (Reserved w)) t fit low refl

named_holds : (fs : List ParserFrame) (h : NameUse) (t : Token) → FramesFit fs → lowest fs ≤ head_level h → Holds (λ ts. shown fs (head_token h ∷ ts)) t (named fs h t)
named_holds fs h t fit low =
    cond_both (begins_phrase t) (begin (InApply h ∷ fs) t) (name_alone fs h t) (Holds (λ ts. shown fs (head_token h ∷ ts)) t)
    (λ e. deeper_holds (InApply h) fs (λ ts. shown fs (head_token h ∷ ts)) t (λ ts. refl) low fit)
    (λ e. alone_holds fs h t fit low)

empty_holds : (fs : List ParserFrame) (c : Callee) (t : Token) → FramesFit fs → CalleeFits (lowest fs) c → Holds (λ ts. shown fs (callee_spelled c (Open ∷ ts))) t (call_empty fs c t)
empty_holds fs c Close fit is = (λ ts. refl, (fit, is, λ t. refl))
empty_holds fs c t fit is = tt

shut_holds : (fs : List ParserFrame) (a : Tree) (t : Token) → StateFits (Shut fs a) → Holds (λ ts. shown fs (Open ∷ spelled a (Close ∷ ts))) t (shut fs a t)
shut_holds fs a Open fit = (λ ts. refl, (fit.0, (fit.1, fit.2, fit.3)))
shut_holds fs a t fit = after_holds fs (Enclosed a) t fit.0 (fit.1, fit.3) refl

abbrev piece_front : List ParserFrame → Group → Behind → Labels → Front
piece_front fs g ps ls ts = shown fs (group_spelled g (shown_behind ps (labels_spelled ls ts)))

begins_holds : (fs : List ParserFrame) (g : Group) (ps : Behind) (ls : Labels) (t : Token) → FramesFit fs → BehindFits g ps → LabelsFit g ls → Holds (λ ts. piece_front fs g ps ls ts) t (piece_begins fs g ps ls t)
begins_holds fs (Prog ds) ps ls (Identifier x) fit is ok = (λ ts. refl, (fit, is))
begins_holds fs (Prog ds) ps ls t fit is ok = deeper_holds (InPiece (Prog ds) ps ls) fs (λ ts. piece_front fs (Prog ds) ps ls ts) t (λ ts. refl) (is, ok) fit
begins_holds fs Block ps ls t fit is ok = deeper_holds (InPiece Block ps ls) fs (λ ts. piece_front fs Block ps ls ts) t (λ ts. refl) (is, ok) fit

piece_holds : (fs : List ParserFrame) (g : Group) (ps : Behind) (ls : Labels) (t : Token) → FramesFit fs → BehindFits g ps → LabelsFit g ls → Holds (λ ts. piece_front fs g ps ls ts) t (at_piece fs g ps ls t)
piece_holds fs g ps ls t fit is ok =
    cond_both (begins t) (piece_begins fs g ps ls t) (pieced fs g (pieces_with ps (Nothing ls)) t) (Holds (λ ts. piece_front fs g ps ls ts) t)
    (λ e. begins_holds fs g ps ls t fit is ok)
    (λ e. moved (λ ts. piece_front fs g ps ls ts) (λ ts. shown fs (group_spelled g (pieces_spelled (pieces_with ps (Nothing ls)) ts))) t (pieced fs g (pieces_with ps (Nothing ls)) t)
    (λ ts. ap (λ ts. shown fs (group_spelled g ts)) (piece_shown ps (Nothing ls) ts))
    (pieced_holds fs g (pieces_with ps (Nothing ls)) t fit (piece_fits g ps (Nothing ls) is ok)))

colon_holds : (fs : List ParserFrame) (ds : Declarations) (ps : Behind) (ls : Labels) (x : Name) (t : Token) → is_colon t ≡ true → FramesFit fs → BehindFits (Prog ds) ps → Holds (λ ts. piece_front fs (Prog ds) ps ls (Identifier x ∷ ts)) t (Goes (AtPiece fs (Prog ds) ps (Label ls x)))
colon_holds fs ds ps ls x Colon e fit is = (λ ts. refl, (fit, is, tt))
colon_holds fs ds ps ls x t e fit is = absurd cc

at_name_holds : (fs : List ParserFrame) (ds : Declarations) (ps : Behind) (ls : Labels) (x : Name) (t : Token) → FramesFit fs → BehindFits (Prog ds) ps → Holds (λ ts. piece_front fs (Prog ds) ps ls (Identifier x ∷ ts)) t (at_name fs (Prog ds) ps ls x t)
at_name_holds fs ds ps ls x t fit is =
    let front : Front = λ ts. piece_front fs (Prog ds) ps ls (Identifier x ∷ ts) in
    cond_both (is_colon t) (Goes (AtPiece fs (Prog ds) ps (Label ls x))) _ (Holds front t)
    (λ e. colon_holds fs ds ps ls x t e fit is)
    (λ e. moved front (λ ts. shown (InPiece (Prog ds) ps ls ∷ fs) (Identifier x ∷ ts)) t (named (InPiece (Prog ds) ps ls ∷ fs) (Plain x) t) (λ ts. refl) (named_holds (InPiece (Prog ds) ps ls ∷ fs) (Plain x) t ((is, tt), fit) (omega arith)))

declarations_holds : (fs : List ParserFrame) (ds : Declarations) (t : Token) → FramesFit fs → Holds (λ ts. shown fs (Begin ∷ declarations_spelled ds ts)) t (at_declarations fs ds t)
declarations_holds fs ds Scalar fit = (λ ts. refl, fit)
declarations_holds fs ds t fit = piece_holds fs (Prog ds) NoPiece Unlabelled t fit tt tt

identifier_holds : (front : Front) (t : Token) (next : Name → ParserState) → ((x : Name) → Holds front (Identifier x) (Goes (next x))) → Holds front t (at_identifier t next)
identifier_holds front (Identifier x) next holds = holds x
identifier_holds front t next holds = tt

names_holds : (fs : List ParserFrame) (ds : Declarations) (xs : NameList) (t : Token) → FramesFit fs → Holds (λ ts. shown fs (Begin ∷ declarations_spelled ds (Scalar ∷ names_spelled xs ts))) t (at_names fs ds xs t)
names_holds fs ds xs Comma fit = (λ ts. refl, fit)
names_holds fs ds xs (Separating Semicolon) fit = (λ ts. refl, fit)
names_holds fs ds xs t fit = tt

parameters_holds : (fs : List ParserFrame) (l : Listing) (t : Token) → FramesFit fs → Holds (λ ts. shown fs (Lambda ∷ shown_listing l ts)) t (at_parameters fs l t)
parameters_holds fs Begun (Identifier x) fit = (λ ts. refl, fit)
parameters_holds fs Begun Open fit = (λ ts. refl, fit)
parameters_holds fs Begun (Separating Semicolon) fit = (λ ts. refl, (tt, fit))
parameters_holds fs Opening Close fit = (λ ts. refl, fit)
parameters_holds fs Opening (Identifier x) fit = (λ ts. refl, fit)
parameters_holds fs (Naming xs) Comma fit = (λ ts. refl, fit)
parameters_holds fs (Naming xs) Close fit = (λ ts. refl, fit)
parameters_holds fs (Parted xs) (Identifier x) fit = (λ ts. refl, fit)
parameters_holds fs (Over p) (Separating Semicolon) fit = (λ ts. refl, (tt, fit))
parameters_holds fs l t fit = tt

for_holds : (fs : List ParserFrame) (t : Token) → FramesFit fs → Holds (λ ts. shown fs (For ∷ ts)) t (at_for fs t)
for_holds fs Each fit = (λ ts. refl, fit)
for_holds fs (Identifier x) fit = (λ ts. refl, fit)
for_holds fs t fit = tt

go_holds : (fs : List ParserFrame) (t : Token) → FramesFit fs → Holds (λ ts. shown fs (Go ∷ ts)) t (at_go fs t)
go_holds fs To fit = (λ ts. refl, fit)
go_holds fs (Identifier x) fit = (λ ts. refl, (fit, tt, λ t. refl))
go_holds fs t fit = tt

index_holds : (fs : List ParserFrame) (x : Name) (t : Token) → FramesFit fs → Holds (λ ts. shown fs (For ∷ Identifier x ∷ ts)) t (at_index fs x t)
index_holds fs x Assign fit = (λ ts. refl, (tt, fit))
index_holds fs x t fit = tt

in_holds : (fs : List ParserFrame) (e : EachOf) (x : Name) (t : Token) → FramesFit fs → Holds (λ ts. shown fs (each_spelled e (Identifier x ∷ ts))) t (at_in fs e x t)
in_holds fs e x In fit = (λ ts. refl, (tt, fit))
in_holds fs e x t fit = tt

pub step_holds : (s : ParserState) (t : Token) → StateFits s → Holds (λ ts. shown_state s ts) t (parser_step s t)
step_holds (Want fs) t fit = begin_holds fs t fit
step_holds (Named fs h) t fit = named_holds fs h t fit.0 fit.1
step_holds (Has fs a) t fit = after_holds fs a t fit.0 fit.1 (fit.2 t)
step_holds (Opened fs c) t fit =
    cond_both (begins t) (begin (InArgs c None ∷ fs) t) (call_empty fs c t) (Holds (λ ts. shown fs (callee_spelled c (Open ∷ ts))) t)
    (λ e. deeper_holds (InArgs c None) fs (λ ts. shown fs (callee_spelled c (Open ∷ ts))) t (λ ts. refl) (fit.1, tt) fit.0)
    (λ e. empty_holds fs c t fit.0 fit.1)
step_holds (Shut fs a) t fit = shut_holds fs a t fit
step_holds (Returned fs) t fit =
    cond_both (begins t) (begin (InReturn ∷ fs) t) (after fs ReturnNone t) (Holds (λ ts. shown fs (Return ∷ ts)) t)
    (λ e. deeper_holds InReturn fs (λ ts. shown fs (Return ∷ ts)) t (λ ts. refl) tt fit)
    (λ e. after_holds fs ReturnNone t fit tt (not_from_false _ e))
step_holds (AtPiece fs g ps ls) t fit = piece_holds fs g ps ls t fit.0 fit.1 fit.2
step_holds (AtName fs Block ps ls x) t fit = absurd fit
step_holds (AtName fs (Prog ds) ps ls x) t fit = at_name_holds fs ds ps ls x t fit.0 fit.1
step_holds (AtDeclarations fs ds) t fit = declarations_holds fs ds t fit
step_holds (AtScalar fs ds) t fit = identifier_holds (λ ts. shown_state (AtScalar fs ds) ts) t _ (λ x. (λ ts. refl, fit))
step_holds (AtNames fs ds xs) t fit = names_holds fs ds xs t fit
step_holds (AtMore fs ds xs) t fit = identifier_holds (λ ts. shown_state (AtMore fs ds xs) ts) t _ (λ x. (λ ts. refl, fit))
step_holds (AtParameters fs l) t fit = parameters_holds fs l t fit
step_holds (AtFor fs) t fit = for_holds fs t fit
step_holds (AtIndex fs x) t fit = index_holds fs x t fit
step_holds (AtEach fs e) t fit = identifier_holds (λ ts. shown_state (AtEach fs e) ts) t _ (λ x. (λ ts. refl, fit))
step_holds (AtIn fs e x) t fit = in_holds fs e x t fit
step_holds (AtGo fs) t fit = go_holds fs t fit
step_holds (AtGoal fs g) t fit = identifier_holds (λ ts. shown_state (AtGoal fs g) ts) t _ (λ x. (λ ts. refl, (fit, tt, λ t. refl)))

-- ---- all tokens

abbrev Shows : List Token → Tree → Separator → List Token → Type 0
Shows ts a p rest = (ts ≡ spelled a (Separating p ∷ rest)) × Fits 0 a

step_shows : (s : ParserState) (t : Token) (ts : List Token) (a : Tree) (p : Separator) (rest : List Token) (st : ParserStep) → Holds (λ ts. shown_state s ts) t st → after_parser_step ts t st (λ s. parser_run s ts) ≡ Read a p rest → ((s : ParserState) → StateFits s → parser_run s ts ≡ Read a p rest → Shows (shown_state s ts) a p rest) → Shows (shown_state s (t ∷ ts)) a p rest
step_shows s t ts a p rest (Goes next) h e further = let more = further next h.1 e in (h.0 ts ∙ more.0, more.1)
step_shows s t ts a p rest (Done b q) h e further = let same : b ≡ a = cc in let ending : q ≡ p = cc in let left : ts ≡ rest = cc in (rw (← left, ← same, ← ending) (h.0 ts), rw (← same) h.1)
step_shows s t ts a p rest Refuses h e further = absurd cc

run_shows : (ts : List Token) (s : ParserState) (a : Tree) (p : Separator) (rest : List Token) → StateFits s → parser_run s ts ≡ Read a p rest → Shows (shown_state s ts) a p rest
run_shows [] s a p rest fit e = absurd cc
run_shows (t ∷ ts) s a p rest fit e = step_shows s t ts a p rest (parser_step s t) (step_holds s t fit) e (λ s fit e. run_shows ts s a p rest fit e)

pub parsed_is_expr : (ts : List Token) (a : Tree) (p : Separator) (rest : List Token) → parse ts ≡ Read a p rest → IsExpr ts a p rest
parsed_is_expr ts a p rest e = let shows = run_shows ts (Want []) a p rest tt e in record { is = shows.0; fits = shows.1 }
