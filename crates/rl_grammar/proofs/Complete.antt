-- What is of the grammar is parsed.
use Rattle.std.proofs.Common.{◌≡◌, ℕ, suc, ◌≤◌, Bool, true, false, not, nat_le, if◌then◌else◌, List, [], ◌∷◌, refl, ap, ◌∙◌, arith}
use Rattle.rl_grammar.specs.Token.{Plus, Minus, Separator, Semicolon, Do, Token, Identifier, Integer, String, Quoted, Infix, Word, Power, Dot, Not, Assign, Open, Close, Comma, Colon, If, Then, Else, While, Repeat, Until, For, Each, Foreach, In, Does, OpenBlock, CloseBlock, Separating, Begin, End, Scalar, Return, Go, To, Goto, Lambda}
use Rattle.rl_grammar.specs.Tree.{NameUse, Plain, Reserved, head_token, LeftOperator, By, ByWord, operation_token, Positive, Negative, NameList, Just, Also, names_spelled, Parameters, NoParameters, OneParameter, NoneListed, Listed, parameters_spelled, Labels, Unlabelled, Label, labels_spelled, Declarations, NoDeclarations, Declared, declarations_spelled, Group, Block, Prog, Two, Single, GoBare, GoTo, Gotos, Tree, Variable, Whole, Text, Quote, Bare, Call, Apply, Enclosed, Set, Binary, Raise, Pair, Negate, Signed, IfThen, IfElse, WhileDo, RepeatUntil, ForTo, EachIn, LambdaOf, Grouped, ReturnNone, ReturnOf, GoingTo, Callee, EnclosedLambda, Items, One, More, Pieces, First, Next, Piece, Nothing, Something, spelled, callee_spelled, items_spelled, pieces_spelled, piece_spelled}
use Rattle.rl_grammar.specs.Grammar.{head_level, level, goes, is_else, begins_phrase, begins, ends, is_parenthesized_lambda, LabelsFit, Fits, CalleeFits, ItemsFit, PiecesFit, PieceFits, IsExpr}
use Rattle.rl_grammar.specs.Parser.{Before, None, After, with_last, Behind, NoPiece, Pieced, pieces_with, ParserFrame, InBinary, InPower, InPair, InNot, InSign, InApply, InSet, InEnclosed, InCond, InThen, InElse, InWhile, InDo, InRepeat, InUntil, InFrom, InTo, InFor, InOf, InEach, InLambda, InArgs, InPiece, InReturn, operand_level, lowest, Begun, Opening, Naming, ParserState, Want, Named, Has, Opened, Shut, Returned, AtPiece, AtName, AtDeclarations, AtScalar, AtNames, AtParameters, ParserStep, Goes, Refuses, frame_opened, begin, pushed, pieced, operand_ended, after, name_alone, call_empty, at_piece, is_colon, at_declarations, parser_step, Read, after_parser_step, parser_run, parse}
use Rattle.rl_grammar.specs.Tree as tree
use Rattle.rl_tree.specs.Name.{Name}
use Rattle.std.proofs.lemmas.Bool.{cond_both, cond-true, cond-false, le-leb, and_parts, and_from, not-true, not_from_false}
use Rattle.rl_grammar.proofs.Sound.{level_most}

-- what may follow an operand, but for the first four none of it goes on with the operand
abbrev pub follows : Token → Bool
follows (Infix o) = true
follows (Word w) = true
follows Power = true
follows Dot = true
follows Close = true
follows Comma = true
follows Colon = true
follows Then = true
follows Else = true
follows Until = true
follows (Does w) = true
follows CloseBlock = true
follows (Separating s) = true
follows End = true
follows t = false

abbrev pub closes : Token → Bool
closes Close = true
closes Comma = true
closes Colon = true
closes Then = true
closes Until = true
closes (Does w) = true
closes CloseBlock = true
closes (Separating s) = true
closes End = true
closes t = false

pub closes_follows : (t : Token) → closes t ≡ true → follows t ≡ true
closes_follows Close e = refl
closes_follows Comma e = refl
closes_follows Colon e = refl
closes_follows Then e = refl
closes_follows Until e = refl
closes_follows (Does w) e = refl
closes_follows CloseBlock e = refl
closes_follows (Separating s) e = refl
closes_follows End e = refl
closes_follows t e = absurd cc

pub closes_goes : (n : ℕ) (t : Token) → closes t ≡ true → not (goes n t) ≡ true
closes_goes n (Infix o) e = absurd cc
closes_goes n (Word w) e = absurd cc
closes_goes n Power e = absurd cc
closes_goes n Dot e = absurd cc
closes_goes n t e = refl

pub closes_else : (t : Token) → closes t ≡ true → not (is_else t) ≡ true
closes_else Else e = absurd cc
closes_else t e = refl

pub closes_begins : (t : Token) → closes t ≡ true → begins t ≡ false
closes_begins Close e = refl
closes_begins Comma e = refl
closes_begins Colon e = refl
closes_begins Then e = refl
closes_begins Until e = refl
closes_begins (Does w) e = refl
closes_begins CloseBlock e = refl
closes_begins (Separating s) e = refl
closes_begins End e = refl
closes_begins t e = absurd cc

-- any tree ends before what closes
pub closes_ends : (a : Tree) (t : Token) → closes t ≡ true → ends a t ≡ true
closes_ends (Apply h a) t e = and_from _ _ (closes_goes 10 t e) (closes_ends a t e)
closes_ends (Set h a) t e = and_from _ _ (closes_goes 0 t e) (closes_ends a t e)
closes_ends (Binary o a b) t e = and_from _ _ (closes_goes (suc (level o)) t e) (closes_ends b t e)
closes_ends (Raise a b) t e = and_from _ _ (closes_goes 7 t e) (closes_ends b t e)
closes_ends (Pair a b) t e = and_from _ _ (closes_goes 8 t e) (closes_ends b t e)
closes_ends (Negate a) t e = and_from _ _ (closes_goes 3 t e) (closes_ends a t e)
closes_ends (Signed s a) t e = and_from _ _ (closes_goes 6 t e) (closes_ends a t e)
closes_ends (IfThen a b) t e = and_from _ _ (closes_goes 0 t e) (and_from _ _ (closes_else t e) (closes_ends b t e))
closes_ends (IfElse a b c) t e = and_from _ _ (closes_goes 0 t e) (closes_ends c t e)
closes_ends (WhileDo a b) t e = and_from _ _ (closes_goes 0 t e) (closes_ends b t e)
closes_ends (RepeatUntil a b) t e = and_from _ _ (closes_goes 0 t e) (closes_ends b t e)
closes_ends (ForTo x a b c) t e = and_from _ _ (closes_goes 0 t e) (closes_ends c t e)
closes_ends (EachIn w x a v b) t e = and_from _ _ (closes_goes 0 t e) (closes_ends b t e)
closes_ends (LambdaOf p a) t e = and_from _ _ (closes_goes 0 t e) (closes_ends a t e)
closes_ends ReturnNone t e = not_from_false _ (closes_begins t e)
closes_ends (ReturnOf a) t e = and_from _ _ (closes_goes 0 t e) (closes_ends a t e)
closes_ends a t e = refl

-- ---- steps

pub by_step : (s : ParserState) (t : Token) (ts : List Token) (st : ParserStep) → parser_step s t ≡ st → parser_run s (t ∷ ts) ≡ after_parser_step ts t st (λ s. parser_run s ts)
by_step s t ts st e = ap (λ (st : ParserStep). after_parser_step ts t st (λ s. parser_run s ts)) e

allowed : (n : ℕ) (fs : List ParserFrame) (st : ParserStep) → lowest fs ≤ n → (if nat_le (lowest fs) n then st else Refuses) ≡ st
allowed n fs st low = cond-true (nat_le (lowest fs) n) _ _ (le-leb _ _ low)

after_goes : (fs : List ParserFrame) (a : Tree) (t : Token) → goes (lowest fs) t ≡ true → after fs a t ≡ pushed fs a t
after_goes [] a t g = cond-true (goes 0 t) _ _ g
after_goes (f ∷ fs) a t g = cond-true (goes (operand_level f) t) _ _ g

pub reduced : (f : ParserFrame) (fs : List ParserFrame) (a b : Tree) (t : Token) (rest : List Token) → not (goes (operand_level f) t) ≡ true → operand_ended f fs a t (λ b. after fs b t) ≡ after fs b t → parser_run (Has (f ∷ fs) a) (t ∷ rest) ≡ parser_run (Has fs b) (t ∷ rest)
reduced f fs a b t rest g e = by_step (Has (f ∷ fs) a) t rest (after fs b t) (cond-false (goes (operand_level f) t) _ _ (not-true _ g) ∙ e)

-- a name that is whole
pub name_read : (fs : List ParserFrame) (h : NameUse) (t : Token) (rest : List Token) → follows t ≡ true → parser_run (Named fs h) (t ∷ rest) ≡ parser_run (Has fs (Variable h)) (t ∷ rest)
name_read fs (Plain x) (Infix o) rest e = refl
name_read fs (Plain x) (Word w) rest e = refl
name_read fs (Plain x) Power rest e = refl
name_read fs (Plain x) Dot rest e = refl
name_read fs (Plain x) Close rest e = refl
name_read fs (Plain x) Comma rest e = refl
name_read fs (Plain x) Colon rest e = refl
name_read fs (Plain x) Then rest e = refl
name_read fs (Plain x) Else rest e = refl
name_read fs (Plain x) Until rest e = refl
name_read fs (Plain x) (Does w) rest e = refl
name_read fs (Plain x) CloseBlock rest e = refl
name_read fs (Plain x) (Separating s) rest e = refl
name_read fs (Plain x) End rest e = refl
name_read fs (Reserved v) (Infix o) rest e = refl
name_read fs (Reserved v) (Word w) rest e = refl
name_read fs (Reserved v) Power rest e = refl
name_read fs (Reserved v) Dot rest e = refl
name_read fs (Reserved v) Close rest e = refl
name_read fs (Reserved v) Comma rest e = refl
name_read fs (Reserved v) Colon rest e = refl
name_read fs (Reserved v) Then rest e = refl
name_read fs (Reserved v) Else rest e = refl
name_read fs (Reserved v) Until rest e = refl
name_read fs (Reserved v) (Does w) rest e = refl
name_read fs (Reserved v) CloseBlock rest e = refl
name_read fs (Reserved v) (Separating s) rest e = refl
name_read fs (Reserved v) End rest e = refl
name_read fs h t rest e = absurd cc

pub shut_read : (fs : List ParserFrame) (a : Tree) (t : Token) (rest : List Token) → follows t ≡ true → parser_run (Shut fs a) (t ∷ rest) ≡ parser_run (Has fs (Enclosed a)) (t ∷ rest)
shut_read fs a Open rest e = absurd cc
shut_read fs a t rest e = refl

-- ---- the first token of a tree

pub record FirstOf (a : Tree) (test : Token → Bool) : Type 0 where
  pub token : Token
  pub rest : List Token → List Token
  pub is : (ts : List Token) → spelled a ts ≡ token ∷ rest ts
  pub tests : test token ≡ true

first_named : (a : Tree) (h : NameUse) (rest : List Token → List Token) → ((ts : List Token) → spelled a ts ≡ head_token h ∷ rest ts) → FirstOf a begins
first_named a (Plain x) rest is = record { token = Identifier x; rest = rest; is = is; tests = refl }
first_named a (Reserved w) rest is = record { token = Word w; rest = rest; is = is; tests = refl }

pub first : (a : Tree) → FirstOf a begins
first (Variable h) = first_named (Variable h) h _ (λ ts. refl)
first (Whole k) = record { token = Integer k; rest = λ ts. ts; is = λ ts. refl; tests = refl }
first (Text k) = record { token = String k; rest = λ ts. ts; is = λ ts. refl; tests = refl }
first (Quote k) = record { token = Quoted k; rest = λ ts. ts; is = λ ts. refl; tests = refl }
first (Bare (tree.Named h)) = first_named (Bare (tree.Named h)) h (λ ts. Open ∷ Close ∷ ts) (λ ts. refl)
first (Bare (EnclosedLambda a)) = record { token = Open; rest = λ ts. spelled a (Close ∷ Open ∷ Close ∷ ts); is = λ ts. refl; tests = refl }
first (Call (tree.Named h) es) = first_named (Call (tree.Named h) es) h (λ ts. Open ∷ items_spelled es (Close ∷ ts)) (λ ts. refl)
first (Call (EnclosedLambda a) es) = record { token = Open; rest = λ ts. spelled a (Close ∷ Open ∷ items_spelled es (Close ∷ ts)); is = λ ts. refl; tests = refl }
first (Apply h a) = first_named (Apply h a) h (λ ts. spelled a ts) (λ ts. refl)
first (Enclosed a) = record { token = Open; rest = λ ts. spelled a (Close ∷ ts); is = λ ts. refl; tests = refl }
first (Set h a) = first_named (Set h a) h (λ ts. Assign ∷ spelled a ts) (λ ts. refl)
first (Binary o a b) = let f = first a in record { token = f.token; rest = λ ts. f.rest (operation_token o ∷ spelled b ts); is = λ ts. f.is _; tests = f.tests }
first (Raise a b) = let f = first a in record { token = f.token; rest = λ ts. f.rest (Power ∷ spelled b ts); is = λ ts. f.is _; tests = f.tests }
first (Pair a b) = let f = first a in record { token = f.token; rest = λ ts. f.rest (Dot ∷ spelled b ts); is = λ ts. f.is _; tests = f.tests }
first (Negate a) = record { token = Not; rest = λ ts. spelled a ts; is = λ ts. refl; tests = refl }
first (Signed Positive a) = record { token = Infix Plus; rest = λ ts. spelled a ts; is = λ ts. refl; tests = refl }
first (Signed Negative a) = record { token = Infix Minus; rest = λ ts. spelled a ts; is = λ ts. refl; tests = refl }
first (IfThen a b) = record { token = If; rest = λ ts. spelled a (Then ∷ spelled b ts); is = λ ts. refl; tests = refl }
first (IfElse a b c) = record { token = If; rest = λ ts. spelled a (Then ∷ spelled b (Else ∷ spelled c ts)); is = λ ts. refl; tests = refl }
first (WhileDo a b) = record { token = While; rest = λ ts. spelled a (Does Do ∷ spelled b ts); is = λ ts. refl; tests = refl }
first (RepeatUntil a b) = record { token = Repeat; rest = λ ts. spelled a (Until ∷ spelled b ts); is = λ ts. refl; tests = refl }
first (ForTo x a b c) = record { token = For; rest = λ ts. Identifier x ∷ Assign ∷ spelled a (Colon ∷ spelled b (Does Do ∷ spelled c ts)); is = λ ts. refl; tests = refl }
first (EachIn Two x a w b) = record { token = For; rest = λ ts. Each ∷ Identifier x ∷ In ∷ spelled a (Does w ∷ spelled b ts); is = λ ts. refl; tests = refl }
first (EachIn Single x a w b) = record { token = Foreach; rest = λ ts. Identifier x ∷ In ∷ spelled a (Does w ∷ spelled b ts); is = λ ts. refl; tests = refl }
first (LambdaOf p a) = record { token = Lambda; rest = λ ts. parameters_spelled p (Separating Semicolon ∷ spelled a ts); is = λ ts. refl; tests = refl }
first (Grouped Block ps) = record { token = OpenBlock; rest = λ ts. pieces_spelled ps (CloseBlock ∷ ts); is = λ ts. refl; tests = refl }
first (Grouped (Prog ds) ps) = record { token = Begin; rest = λ ts. declarations_spelled ds (pieces_spelled ps (End ∷ ts)); is = λ ts. refl; tests = refl }
first ReturnNone = record { token = Return; rest = λ ts. ts; is = λ ts. refl; tests = refl }
first (ReturnOf a) = record { token = Return; rest = λ ts. spelled a ts; is = λ ts. refl; tests = refl }
first (GoingTo GoBare x) = record { token = Go; rest = λ ts. Identifier x ∷ ts; is = λ ts. refl; tests = refl }
first (GoingTo GoTo x) = record { token = Go; rest = λ ts. To ∷ Identifier x ∷ ts; is = λ ts. refl; tests = refl }
first (GoingTo Gotos x) = record { token = Goto; rest = λ ts. Identifier x ∷ ts; is = λ ts. refl; tests = refl }

phrase_named : (a : Tree) (h : NameUse) (rest : List Token → List Token) → 10 ≤ head_level h → ((ts : List Token) → spelled a ts ≡ head_token h ∷ rest ts) → FirstOf a begins_phrase
phrase_named a (Plain x) rest low is = record { token = Identifier x; rest = rest; is = is; tests = refl }
phrase_named a (Reserved w) rest low is = absurd (omega arith)

phrase_first : (a : Tree) → Fits 10 a → FirstOf a begins_phrase
phrase_first (Variable h) fit = phrase_named (Variable h) h (λ ts. ts) fit (λ ts. refl)
phrase_first (Whole k) fit = record { token = Integer k; rest = λ ts. ts; is = λ ts. refl; tests = refl }
phrase_first (Text k) fit = record { token = String k; rest = λ ts. ts; is = λ ts. refl; tests = refl }
phrase_first (Quote k) fit = record { token = Quoted k; rest = λ ts. ts; is = λ ts. refl; tests = refl }
phrase_first (Bare (tree.Named h)) fit = phrase_named (Bare (tree.Named h)) h (λ ts. Open ∷ Close ∷ ts) fit (λ ts. refl)
phrase_first (Bare (EnclosedLambda a)) fit = absurd (let low = fit.0 in omega arith)
phrase_first (Call (tree.Named h) es) fit = phrase_named (Call (tree.Named h) es) h (λ ts. Open ∷ items_spelled es (Close ∷ ts)) fit.0 (λ ts. refl)
phrase_first (Call (EnclosedLambda a) es) fit = absurd (let callee = fit.0 in let low = callee.0 in omega arith)
phrase_first (Apply h a) fit = phrase_named (Apply h a) h (λ ts. spelled a ts) fit.0 (λ ts. refl)
phrase_first (Enclosed a) fit = absurd (let low = fit.0 in omega arith)
phrase_first (Set h a) fit = absurd (let low = fit.0 in omega arith)
phrase_first (Binary o a b) fit = absurd (let low = fit.0 in let most = level_most o in omega arith)
phrase_first (Raise a b) fit = absurd (let low = fit.0 in omega arith)
phrase_first (Pair a b) fit = absurd (let low = fit.0 in omega arith)
phrase_first (Negate a) fit = absurd (let low = fit.0 in omega arith)
phrase_first (Signed s a) fit = absurd (let low = fit.0 in omega arith)
phrase_first (IfThen a b) fit = record { token = If; rest = λ ts. spelled a (Then ∷ spelled b ts); is = λ ts. refl; tests = refl }
phrase_first (IfElse a b c) fit = record { token = If; rest = λ ts. spelled a (Then ∷ spelled b (Else ∷ spelled c ts)); is = λ ts. refl; tests = refl }
phrase_first (WhileDo a b) fit = record { token = While; rest = λ ts. spelled a (Does Do ∷ spelled b ts); is = λ ts. refl; tests = refl }
phrase_first (RepeatUntil a b) fit = record { token = Repeat; rest = λ ts. spelled a (Until ∷ spelled b ts); is = λ ts. refl; tests = refl }
phrase_first (ForTo x a b c) fit = record { token = For; rest = λ ts. Identifier x ∷ Assign ∷ spelled a (Colon ∷ spelled b (Does Do ∷ spelled c ts)); is = λ ts. refl; tests = refl }
phrase_first (EachIn Two x a w b) fit = record { token = For; rest = λ ts. Each ∷ Identifier x ∷ In ∷ spelled a (Does w ∷ spelled b ts); is = λ ts. refl; tests = refl }
phrase_first (EachIn Single x a w b) fit = record { token = Foreach; rest = λ ts. Identifier x ∷ In ∷ spelled a (Does w ∷ spelled b ts); is = λ ts. refl; tests = refl }
phrase_first (LambdaOf p a) fit = record { token = Lambda; rest = λ ts. parameters_spelled p (Separating Semicolon ∷ spelled a ts); is = λ ts. refl; tests = refl }
phrase_first (Grouped Block ps) fit = record { token = OpenBlock; rest = λ ts. pieces_spelled ps (CloseBlock ∷ ts); is = λ ts. refl; tests = refl }
phrase_first (Grouped (Prog ds) ps) fit = record { token = Begin; rest = λ ts. declarations_spelled ds (pieces_spelled ps (End ∷ ts)); is = λ ts. refl; tests = refl }
phrase_first ReturnNone fit = record { token = Return; rest = λ ts. ts; is = λ ts. refl; tests = refl }
phrase_first (ReturnOf a) fit = record { token = Return; rest = λ ts. spelled a ts; is = λ ts. refl; tests = refl }
phrase_first (GoingTo GoBare x) fit = record { token = Go; rest = λ ts. Identifier x ∷ ts; is = λ ts. refl; tests = refl }
phrase_first (GoingTo GoTo x) fit = record { token = Go; rest = λ ts. To ∷ Identifier x ∷ ts; is = λ ts. refl; tests = refl }
phrase_first (GoingTo Gotos x) fit = record { token = Goto; rest = λ ts. Identifier x ∷ ts; is = λ ts. refl; tests = refl }

-- ---- an operand begins where it need not

enters : (a : Tree) (test : Token → Bool) (one : FirstOf a test) (s : ParserState) (f : ParserFrame) (fs : List ParserFrame) (other : Token → ParserStep) → ((t : Token) → parser_step s t ≡ (if test t then begin (f ∷ fs) t else other t)) → (ts : List Token) → parser_run s (spelled a ts) ≡ parser_run (Want (f ∷ fs)) (spelled a ts)
enters a test one s f fs other is ts =
    rw (one.is ts) (by_step s one.token (one.rest ts) (begin (f ∷ fs) one.token) (is one.token ∙ cond-true (test one.token) _ _ one.tests))

applies : (a : Tree) (h : NameUse) (fs : List ParserFrame) (ts : List Token) → Fits 10 a → parser_run (Named fs h) (spelled a ts) ≡ parser_run (Want (InApply h ∷ fs)) (spelled a ts)
applies a h fs ts fit = enters a begins_phrase (phrase_first a fit) (Named fs h) (InApply h) fs (λ t. name_alone fs h t) (λ t. refl) ts

items_call : (es : Items) (c : Callee) (fs : List ParserFrame) (ts : List Token) → parser_run (Opened fs c) (items_spelled es ts) ≡ parser_run (Want (InArgs c None ∷ fs)) (items_spelled es ts)
items_call (One a) c fs ts = enters a begins (first a) (Opened fs c) (InArgs c None) fs (λ t. call_empty fs c t) (λ t. refl) ts
items_call (More es a) c fs ts = items_call es c fs (Comma ∷ spelled a ts)

returns : (a : Tree) (fs : List ParserFrame) (ts : List Token) → parser_run (Returned fs) (spelled a ts) ≡ parser_run (Want (InReturn ∷ fs)) (spelled a ts)
returns a fs ts = enters a begins (first a) (Returned fs) InReturn fs (λ t. after fs ReturnNone t) (λ t. refl) ts

-- ---- pieces

phrase_no_colon : (t : Token) → begins_phrase t ≡ true → is_colon t ≡ false
phrase_no_colon Colon e = absurd cc
phrase_no_colon t e = refl

operation_no_colon : (o : LeftOperator) → is_colon (operation_token o) ≡ false
operation_no_colon (By o) = refl
operation_no_colon (ByWord w) = refl

-- a name that is no label
unlabels : (fs : List ParserFrame) (ds : Declarations) (ps : Behind) (ls : Labels) (x : Name) (t : Token) (ts : List Token) → is_colon t ≡ false → parser_run (AtName fs (Prog ds) ps ls x) (t ∷ ts) ≡ parser_run (Named (InPiece (Prog ds) ps ls ∷ fs) (Plain x)) (t ∷ ts)
unlabels fs ds ps ls x t ts other = by_step (AtName fs (Prog ds) ps ls x) t ts _ (cond-false (is_colon t) _ _ other)

abbrev Pieces_on : List ParserFrame → Group → Behind → Labels → List Token → Type 0
Pieces_on fs g ps ls ts = parser_run (AtPiece fs g ps ls) ts ≡ parser_run (Want (InPiece g ps ls ∷ fs)) ts

prog_piece : (a : Tree) (fs : List ParserFrame) (ds : Declarations) (ps : Behind) (ls : Labels) (n : ℕ) (t : Token) (ts : List Token) → Fits n a → is_colon t ≡ false → Pieces_on fs (Prog ds) ps ls (spelled a (t ∷ ts))
prog_piece (Variable (Plain x)) fs ds ps ls n t ts fit other = unlabels fs ds ps ls x t ts other
prog_piece (Variable (Reserved w)) fs ds ps ls n t ts fit other = refl
prog_piece (Whole k) fs ds ps ls n t ts fit other = refl
prog_piece (Text k) fs ds ps ls n t ts fit other = refl
prog_piece (Quote k) fs ds ps ls n t ts fit other = refl
prog_piece (Bare (tree.Named (Plain x))) fs ds ps ls n t ts fit other = unlabels fs ds ps ls x Open (Close ∷ t ∷ ts) refl
prog_piece (Bare (tree.Named (Reserved w))) fs ds ps ls n t ts fit other = refl
prog_piece (Bare (EnclosedLambda a)) fs ds ps ls n t ts fit other = refl
prog_piece (Call (tree.Named (Plain x)) es) fs ds ps ls n t ts fit other = unlabels fs ds ps ls x Open (items_spelled es (Close ∷ t ∷ ts)) refl
prog_piece (Call (tree.Named (Reserved w)) es) fs ds ps ls n t ts fit other = refl
prog_piece (Call (EnclosedLambda a) es) fs ds ps ls n t ts fit other = refl
prog_piece (Apply (Plain x) a) fs ds ps ls n t ts fit other =
    let one = phrase_first a fit.1 in
    rw (one.is (t ∷ ts)) (unlabels fs ds ps ls x one.token (one.rest (t ∷ ts)) (phrase_no_colon one.token one.tests))
prog_piece (Apply (Reserved w) a) fs ds ps ls n t ts fit other = refl
prog_piece (Enclosed a) fs ds ps ls n t ts fit other = refl
prog_piece (Set (Plain x) a) fs ds ps ls n t ts fit other = unlabels fs ds ps ls x Assign (spelled a (t ∷ ts)) refl
prog_piece (Set (Reserved w) a) fs ds ps ls n t ts fit other = refl
prog_piece (Binary o a b) fs ds ps ls n t ts fit other = prog_piece a fs ds ps ls (level o) (operation_token o) (spelled b (t ∷ ts)) fit.1 (operation_no_colon o)
prog_piece (Raise a b) fs ds ps ls n t ts fit other = prog_piece a fs ds ps ls 8 Power (spelled b (t ∷ ts)) fit.1 refl
prog_piece (Pair a b) fs ds ps ls n t ts fit other = prog_piece a fs ds ps ls 9 Dot (spelled b (t ∷ ts)) fit.1 refl
prog_piece (Negate a) fs ds ps ls n t ts fit other = refl
prog_piece (Signed Positive a) fs ds ps ls n t ts fit other = refl
prog_piece (Signed Negative a) fs ds ps ls n t ts fit other = refl
prog_piece (IfThen a b) fs ds ps ls n t ts fit other = refl
prog_piece (IfElse a b c) fs ds ps ls n t ts fit other = refl
prog_piece (WhileDo a b) fs ds ps ls n t ts fit other = refl
prog_piece (RepeatUntil a b) fs ds ps ls n t ts fit other = refl
prog_piece (ForTo x a b c) fs ds ps ls n t ts fit other = refl
prog_piece (EachIn Two x a w b) fs ds ps ls n t ts fit other = refl
prog_piece (EachIn Single x a w b) fs ds ps ls n t ts fit other = refl
prog_piece (LambdaOf p a) fs ds ps ls n t ts fit other = refl
prog_piece (Grouped Block qs) fs ds ps ls n t ts fit other = refl
prog_piece (Grouped (Prog es) qs) fs ds ps ls n t ts fit other = refl
prog_piece ReturnNone fs ds ps ls n t ts fit other = refl
prog_piece (ReturnOf a) fs ds ps ls n t ts fit other = refl
prog_piece (GoingTo GoBare x) fs ds ps ls n t ts fit other = refl
prog_piece (GoingTo GoTo x) fs ds ps ls n t ts fit other = refl
prog_piece (GoingTo Gotos x) fs ds ps ls n t ts fit other = refl

piece_on : (g : Group) (a : Tree) (fs : List ParserFrame) (ps : Behind) (ls : Labels) (n : ℕ) (t : Token) (ts : List Token) → Fits n a → is_colon t ≡ false → Pieces_on fs g ps ls (spelled a (t ∷ ts))
piece_on (Prog ds) a fs ps ls n t ts fit other = prog_piece a fs ds ps ls n t ts fit other
piece_on Block a fs ps ls n t ts fit other = enters a begins (first a) (AtPiece fs Block ps ls) (InPiece Block ps ls) fs (λ t. pieced fs Block (pieces_with ps (Nothing ls)) t) (λ t. refl) (t ∷ ts)

labels_read : (ls : Labels) (fs : List ParserFrame) (g : Group) (ps : Behind) (ts : List Token) → LabelsFit g ls → parser_run (AtPiece fs g ps Unlabelled) (labels_spelled ls ts) ≡ parser_run (AtPiece fs g ps ls) ts
labels_read Unlabelled fs g ps ts fit = refl
labels_read (Label ls x) fs (Prog ds) ps ts fit = labels_read ls fs (Prog ds) ps (Identifier x ∷ Colon ∷ ts) (labels_fit ls)
  where
    labels_fit : (ls : Labels) → LabelsFit (Prog ds) ls
    labels_fit Unlabelled = tt
    labels_fit (Label ls x) = tt
labels_read (Label ls x) fs Block ps ts fit = absurd fit

-- ---- declarations and parameters

names_read : (xs : NameList) (fs : List ParserFrame) (ds : Declarations) (ts : List Token) → parser_run (AtScalar fs ds) (names_spelled xs ts) ≡ parser_run (AtNames fs ds xs) ts
names_read (Just x) fs ds ts = refl
names_read (Also xs x) fs ds ts = names_read xs fs ds (Comma ∷ Identifier x ∷ ts)

declarations_read : (ds : Declarations) (fs : List ParserFrame) (ts : List Token) → parser_run (AtDeclarations fs NoDeclarations) (declarations_spelled ds ts) ≡ parser_run (AtDeclarations fs ds) ts
declarations_read NoDeclarations fs ts = refl
declarations_read (Declared ds xs) fs ts = declarations_read ds fs (Scalar ∷ names_spelled xs (Separating Semicolon ∷ ts)) ∙ names_read xs fs ds (Separating Semicolon ∷ ts)

listed_read : (xs : NameList) (fs : List ParserFrame) (ts : List Token) → parser_run (AtParameters fs Opening) (names_spelled xs ts) ≡ parser_run (AtParameters fs (Naming xs)) ts
listed_read (Just x) fs ts = refl
listed_read (Also xs x) fs ts = listed_read xs fs (Comma ∷ Identifier x ∷ ts)

parameters_read : (p : Parameters) (fs : List ParserFrame) (ts : List Token) → parser_run (AtParameters fs Begun) (parameters_spelled p (Separating Semicolon ∷ ts)) ≡ parser_run (Want (InLambda p ∷ fs)) ts
parameters_read NoParameters fs ts = refl
parameters_read (OneParameter x) fs ts = refl
parameters_read NoneListed fs ts = refl
parameters_read (Listed xs) fs ts = listed_read xs fs (Close ∷ Separating Semicolon ∷ ts)

abbrev is_scalar : Token → Bool
is_scalar Scalar = true
is_scalar t = false

record Undeclared (ts : List Token) : Type 0 where
  pub token : Token
  rest : List Token
  is : ts ≡ token ∷ rest
  tests : is_scalar token ≡ false

begins_no_scalar : (t : Token) → begins t ≡ true → is_scalar t ≡ false
begins_no_scalar Scalar e = absurd cc
begins_no_scalar t e = refl

labels_start : (ls : Labels) (ts : List Token) → Undeclared ts → Undeclared (labels_spelled ls ts)
labels_start Unlabelled ts start = start
labels_start (Label ls x) ts start = labels_start ls (Identifier x ∷ Colon ∷ ts) (record { token = Identifier x; rest = Colon ∷ ts; is = refl; tests = refl })

piece_start : (p : Piece) (ts : List Token) → Undeclared ts → Undeclared (piece_spelled p ts)
piece_start (Nothing ls) ts start = labels_start ls ts start
piece_start (Something ls a) ts start = let one = first a in labels_start ls (spelled a ts) (record { token = one.token; rest = one.rest ts; is = one.is ts; tests = begins_no_scalar one.token one.tests })

pieces_start : (ps : Pieces) (ts : List Token) → Undeclared ts → Undeclared (pieces_spelled ps ts)
pieces_start (First p) ts start = piece_start p ts start
pieces_start (Next ps s p) ts start = pieces_start ps (Separating s ∷ piece_spelled p ts) (record { token = Separating s; rest = piece_spelled p ts; is = refl; tests = refl })

no_scalar : (t : Token) (fs : List ParserFrame) (ds : Declarations) → is_scalar t ≡ false → at_declarations fs ds t ≡ at_piece fs (Prog ds) NoPiece Unlabelled t
no_scalar Scalar fs ds e = absurd cc
no_scalar t fs ds e = refl

undeclared : (fs : List ParserFrame) (ds : Declarations) (ts : List Token) → Undeclared ts → parser_run (AtDeclarations fs ds) ts ≡ parser_run (AtPiece fs (Prog ds) NoPiece Unlabelled) ts
undeclared fs ds ts start = rw start.is (by_step (AtDeclarations fs ds) start.token start.rest _ (no_scalar start.token fs ds start.tests))

-- ---- items

abbrev before : Items → Before
before (One a) = None
before (More es a) = After es

abbrev last : Items → Tree
last (One a) = a
last (More es a) = a

last_is : (es : Items) → with_last (before es) (last es) ≡ es
last_is (One a) = refl
last_is (More es a) = refl

head_read : (h : NameUse) (fs : List ParserFrame) (n : ℕ) (ts : List Token) → lowest fs ≤ n → n ≤ head_level h → parser_run (Want fs) (head_token h ∷ ts) ≡ parser_run (Named fs h) ts
head_read (Plain x) fs n ts low high = refl
head_read (Reserved w) fs n ts low high = by_step (Want fs) (Word w) ts _ (allowed 9 fs _ (omega arith))

operation_goes : (o : LeftOperator) (fs : List ParserFrame) → lowest fs ≤ level o → goes (lowest fs) (operation_token o) ≡ true
operation_goes (By o) fs low = le-leb _ _ low
operation_goes (ByWord w) fs low = le-leb _ _ low

operation_follows : (o : LeftOperator) → follows (operation_token o) ≡ true
operation_follows (By o) = refl
operation_follows (ByWord w) = refl

operation_pushed : (o : LeftOperator) (fs : List ParserFrame) (a : Tree) → pushed fs a (operation_token o) ≡ Goes (Want (InBinary o a ∷ fs))
operation_pushed (By o) fs a = refl
operation_pushed (ByWord w) fs a = refl

separated : (fs : List ParserFrame) (g : Group) (qs : Pieces) (s : Separator) (ts : List Token) → after_parser_step ts (Separating s) (pieced fs g qs (Separating s)) (λ s. parser_run s ts) ≡ parser_run (AtPiece fs g (Pieced qs s) Unlabelled) ts
separated fs Block qs s ts = refl
separated fs (Prog ds) qs s ts = refl

-- a name before `:=`
assigned : (h : NameUse) (fs : List ParserFrame) (ts : List Token) → (if nat_le (lowest fs) 0 then frame_opened (InSet h) fs else Refuses) ≡ frame_opened (InSet h) fs → parser_run (Named fs h) (Assign ∷ ts) ≡ parser_run (Want (InSet h ∷ fs)) ts
assigned (Plain x) fs ts e = by_step (Named fs (Plain x)) Assign ts _ e
assigned (Reserved w) fs ts e = by_step (Named fs (Reserved w)) Assign ts _ e

-- ---- trees

mutual
  tree_read : (a : Tree) (fs : List ParserFrame) (n : ℕ) (t : Token) (rest : List Token) → Fits n a → lowest fs ≤ n → ends a t ≡ true → follows t ≡ true → parser_run (Want fs) (spelled a (t ∷ rest)) ≡ parser_run (Has fs a) (t ∷ rest)
  tree_read (Variable h) fs n t rest is low e next = head_read h fs n (t ∷ rest) low is ∙ name_read fs h t rest next
  tree_read (Whole k) fs n t rest is low e next = refl
  tree_read (Text k) fs n t rest is low e next = refl
  tree_read (Quote k) fs n t rest is low e next = refl
  tree_read (Bare c) fs n t rest is low e next = callee_read c fs n (Close ∷ t ∷ rest) is low
  tree_read (Call c es) fs n t rest is low e next =
      callee_read c fs n (items_spelled es (Close ∷ t ∷ rest)) is.0 low
      ∙ items_call es c fs (Close ∷ t ∷ rest)
      ∙ args_read es c fs Close (t ∷ rest) is.1 refl
      ∙ ap (λ es. parser_run (Has fs (Call c es)) (t ∷ rest)) (last_is es)
  tree_read (Apply h a) fs n t rest is low e next =
      let parts = and_parts _ _ e in
      head_read h fs n (spelled a (t ∷ rest)) low is.0
      ∙ applies a h fs (t ∷ rest) is.1
      ∙ tree_read a (InApply h ∷ fs) 10 t rest is.1 (omega arith) parts.1 next
      ∙ reduced (InApply h) fs a (Apply h a) t rest parts.0 refl
  tree_read (Enclosed a) fs n t rest is low e next =
      by_step (Want fs) Open (spelled a (Close ∷ t ∷ rest)) _ (allowed 9 fs _ (let most = is.0 in omega arith))
      ∙ tree_read a (InEnclosed ∷ fs) 0 Close (t ∷ rest) is.1 (omega arith) (closes_ends a Close refl) refl
      ∙ cond_both (is_parenthesized_lambda a) (Goes (Shut fs a)) (Goes (Has fs (Enclosed a))) (λ (st : ParserStep). after_parser_step (t ∷ rest) Close st (λ s. parser_run s (t ∷ rest)) ≡ parser_run (Has fs (Enclosed a)) (t ∷ rest)) (λ lambda. shut_read fs a t rest next) (λ other. refl)
  tree_read (Set h a) fs n t rest is low e next =
      let parts = and_parts _ _ e in
      head_read h fs n (Assign ∷ spelled a (t ∷ rest)) low (let most = is.0 in omega arith)
      ∙ assigned h fs (spelled a (t ∷ rest)) (allowed 0 fs _ (let most = is.0 in omega arith))
      ∙ tree_read a (InSet h ∷ fs) 0 t rest is.1 (omega arith) parts.1 next
      ∙ reduced (InSet h) fs a (Set h a) t rest parts.0 refl
  tree_read (Binary o a b) fs n t rest is low e next =
      let low_enough : lowest fs ≤ level o = (let most = is.0 in omega arith) in
      let parts = and_parts _ _ e in
      tree_read a fs (level o) (operation_token o) (spelled b (t ∷ rest)) is.1 low_enough is.2 (operation_follows o)
      ∙ by_step (Has fs a) (operation_token o) (spelled b (t ∷ rest)) _ (after_goes fs a (operation_token o) (operation_goes o fs low_enough) ∙ operation_pushed o fs a)
      ∙ tree_read b (InBinary o a ∷ fs) (suc (level o)) t rest is.3 (omega arith) parts.1 next
      ∙ reduced (InBinary o a) fs b (Binary o a b) t rest parts.0 refl
  tree_read (Raise a b) fs n t rest is low e next =
      let low_enough : lowest fs ≤ 7 = (let most = is.0 in omega arith) in
      let parts = and_parts _ _ e in
      tree_read a fs 8 Power (spelled b (t ∷ rest)) is.1 (omega arith) is.2 refl
      ∙ by_step (Has fs a) Power (spelled b (t ∷ rest)) _ (after_goes fs a Power (le-leb _ _ low_enough))
      ∙ tree_read b (InPower a ∷ fs) 7 t rest is.3 (omega arith) parts.1 next
      ∙ reduced (InPower a) fs b (Raise a b) t rest parts.0 refl
  tree_read (Pair a b) fs n t rest is low e next =
      let low_enough : lowest fs ≤ 8 = (let most = is.0 in omega arith) in
      let parts = and_parts _ _ e in
      tree_read a fs 9 Dot (spelled b (t ∷ rest)) is.1 (omega arith) is.2 refl
      ∙ by_step (Has fs a) Dot (spelled b (t ∷ rest)) _ (after_goes fs a Dot (le-leb _ _ low_enough))
      ∙ tree_read b (InPair a ∷ fs) 8 t rest is.3 (omega arith) parts.1 next
      ∙ reduced (InPair a) fs b (Pair a b) t rest parts.0 refl
  tree_read (Negate a) fs n t rest is low e next =
      let parts = and_parts _ _ e in
      by_step (Want fs) Not (spelled a (t ∷ rest)) _ (allowed 3 fs _ (let most = is.0 in omega arith))
      ∙ tree_read a (InNot ∷ fs) 3 t rest is.1 (omega arith) parts.1 next
      ∙ reduced InNot fs a (Negate a) t rest parts.0 refl
  tree_read (Signed Positive a) fs n t rest is low e next =
      let parts = and_parts _ _ e in
      by_step (Want fs) (Infix Plus) (spelled a (t ∷ rest)) _ (allowed 5 fs _ (let most = is.0 in omega arith))
      ∙ tree_read a (InSign Positive ∷ fs) 6 t rest is.1 (omega arith) parts.1 next
      ∙ reduced (InSign Positive) fs a (Signed Positive a) t rest parts.0 refl
  tree_read (Signed Negative a) fs n t rest is low e next =
      let parts = and_parts _ _ e in
      by_step (Want fs) (Infix Minus) (spelled a (t ∷ rest)) _ (allowed 5 fs _ (let most = is.0 in omega arith))
      ∙ tree_read a (InSign Negative ∷ fs) 6 t rest is.1 (omega arith) parts.1 next
      ∙ reduced (InSign Negative) fs a (Signed Negative a) t rest parts.0 refl
  tree_read (IfThen a b) fs n t rest is low e next =
      let parts = and_parts _ _ e in
      let others = and_parts _ _ parts.1 in
      tree_read a (InCond ∷ fs) 0 Then (spelled b (t ∷ rest)) is.0 (omega arith) (closes_ends a Then refl) refl
      ∙ tree_read b (InThen a ∷ fs) 0 t rest is.1 (omega arith) others.1 next
      ∙ reduced (InThen a) fs b (IfThen a b) t rest parts.0 (cond-false (is_else t) _ _ (not-true _ others.0))
  tree_read (IfElse a b c) fs n t rest is low e next =
      let parts = and_parts _ _ e in
      tree_read a (InCond ∷ fs) 0 Then (spelled b (Else ∷ spelled c (t ∷ rest))) is.0 (omega arith) (closes_ends a Then refl) refl
      ∙ tree_read b (InThen a ∷ fs) 0 Else (spelled c (t ∷ rest)) is.1 (omega arith) is.2 refl
      ∙ tree_read c (InElse a b ∷ fs) 0 t rest is.3 (omega arith) parts.1 next
      ∙ reduced (InElse a b) fs c (IfElse a b c) t rest parts.0 refl
  tree_read (WhileDo a b) fs n t rest is low e next =
      let parts = and_parts _ _ e in
      tree_read a (InWhile ∷ fs) 0 (Does Do) (spelled b (t ∷ rest)) is.0 (omega arith) (closes_ends a (Does Do) refl) refl
      ∙ tree_read b (InDo a ∷ fs) 0 t rest is.1 (omega arith) parts.1 next
      ∙ reduced (InDo a) fs b (WhileDo a b) t rest parts.0 refl
  tree_read (RepeatUntil a b) fs n t rest is low e next =
      let parts = and_parts _ _ e in
      tree_read a (InRepeat ∷ fs) 0 Until (spelled b (t ∷ rest)) is.0 (omega arith) (closes_ends a Until refl) refl
      ∙ tree_read b (InUntil a ∷ fs) 0 t rest is.1 (omega arith) parts.1 next
      ∙ reduced (InUntil a) fs b (RepeatUntil a b) t rest parts.0 refl
  tree_read (ForTo x a b c) fs n t rest is low e next =
      let parts = and_parts _ _ e in
      tree_read a (InFrom x ∷ fs) 0 Colon (spelled b (Does Do ∷ spelled c (t ∷ rest))) is.0 (omega arith) (closes_ends a Colon refl) refl
      ∙ tree_read b (InTo x a ∷ fs) 0 (Does Do) (spelled c (t ∷ rest)) is.1 (omega arith) (closes_ends b (Does Do) refl) refl
      ∙ tree_read c (InFor x a b ∷ fs) 0 t rest is.2 (omega arith) parts.1 next
      ∙ reduced (InFor x a b) fs c (ForTo x a b c) t rest parts.0 refl
  tree_read (EachIn Two x a w b) fs n t rest is low e next =
      let parts = and_parts _ _ e in
      tree_read a (InOf Two x ∷ fs) 0 (Does w) (spelled b (t ∷ rest)) is.0 (omega arith) (closes_ends a (Does w) refl) refl
      ∙ tree_read b (InEach Two x a w ∷ fs) 0 t rest is.1 (omega arith) parts.1 next
      ∙ reduced (InEach Two x a w) fs b (EachIn Two x a w b) t rest parts.0 refl
  tree_read (EachIn Single x a w b) fs n t rest is low e next =
      let parts = and_parts _ _ e in
      tree_read a (InOf Single x ∷ fs) 0 (Does w) (spelled b (t ∷ rest)) is.0 (omega arith) (closes_ends a (Does w) refl) refl
      ∙ tree_read b (InEach Single x a w ∷ fs) 0 t rest is.1 (omega arith) parts.1 next
      ∙ reduced (InEach Single x a w) fs b (EachIn Single x a w b) t rest parts.0 refl
  tree_read (LambdaOf p a) fs n t rest is low e next =
      let parts = and_parts _ _ e in
      parameters_read p fs (spelled a (t ∷ rest))
      ∙ tree_read a (InLambda p ∷ fs) 0 t rest is (omega arith) parts.1 next
      ∙ reduced (InLambda p) fs a (LambdaOf p a) t rest parts.0 refl
  tree_read (Grouped Block ps) fs n t rest is low e next = pieces_read ps fs Block CloseBlock (t ∷ rest) is refl refl
  tree_read (Grouped (Prog ds) ps) fs n t rest is low e next =
      declarations_read ds fs (pieces_spelled ps (End ∷ t ∷ rest))
      ∙ undeclared fs ds (pieces_spelled ps (End ∷ t ∷ rest)) (pieces_start ps (End ∷ t ∷ rest) (record { token = End; rest = t ∷ rest; is = refl; tests = refl }))
      ∙ pieces_read ps fs (Prog ds) End (t ∷ rest) is refl refl
  tree_read ReturnNone fs n t rest is low e next = by_step (Returned fs) t rest _ (cond-false (begins t) _ _ (not-true _ e))
  tree_read (ReturnOf a) fs n t rest is low e next =
      let parts = and_parts _ _ e in
      returns a fs (t ∷ rest)
      ∙ tree_read a (InReturn ∷ fs) 0 t rest is (omega arith) parts.1 next
      ∙ reduced InReturn fs a (ReturnOf a) t rest parts.0 refl
  tree_read (GoingTo GoBare x) fs n t rest is low e next = refl
  tree_read (GoingTo GoTo x) fs n t rest is low e next = refl
  tree_read (GoingTo Gotos x) fs n t rest is low e next = refl

  callee_read : (c : Callee) (fs : List ParserFrame) (n : ℕ) (ts : List Token) → CalleeFits n c → lowest fs ≤ n → parser_run (Want fs) (callee_spelled c (Open ∷ ts)) ≡ parser_run (Opened fs c) ts
  callee_read (tree.Named (Plain x)) fs n ts is low = refl
  callee_read (tree.Named (Reserved w)) fs n ts is low = head_read (Reserved w) fs n (Open ∷ ts) low is
  callee_read (EnclosedLambda a) fs n ts is low =
      by_step (Want fs) Open (spelled a (Close ∷ Open ∷ ts)) _ (allowed 9 fs _ (let most = is.0 in omega arith))
      ∙ tree_read a (InEnclosed ∷ fs) 0 Close (Open ∷ ts) is.2 (omega arith) (closes_ends a Close refl) refl
      ∙ by_step (Has (InEnclosed ∷ fs) a) Close (Open ∷ ts) _ (cond-true (is_parenthesized_lambda a) _ _ is.1)

  args_read : (es : Items) (c : Callee) (fs : List ParserFrame) (t : Token) (rest : List Token) → ItemsFit es → closes t ≡ true → parser_run (Want (InArgs c None ∷ fs)) (items_spelled es (t ∷ rest)) ≡ parser_run (Has (InArgs c (before es) ∷ fs) (last es)) (t ∷ rest)
  args_read (One a) c fs t rest is e = tree_read a (InArgs c None ∷ fs) 0 t rest is (omega arith) (closes_ends a t e) (closes_follows t e)
  args_read (More es a) c fs t rest is e =
      args_read es c fs Comma (spelled a (t ∷ rest)) is.0 refl
      ∙ ap (λ es. parser_run (Want (InArgs c (After es) ∷ fs)) (spelled a (t ∷ rest))) (last_is es)
      ∙ tree_read a (InArgs c (After es) ∷ fs) 0 t rest is.1 (omega arith) (closes_ends a t e) (closes_follows t e)

  pieces_read : (qs : Pieces) (fs : List ParserFrame) (g : Group) (t : Token) (rest : List Token) → PiecesFit g qs → closes t ≡ true → is_colon t ≡ false → parser_run (AtPiece fs g NoPiece Unlabelled) (pieces_spelled qs (t ∷ rest)) ≡ after_parser_step rest t (pieced fs g qs t) (λ s. parser_run s rest)
  pieces_read (First p) fs g t rest is e other = piece_read p fs g NoPiece t rest is e other
  pieces_read (Next qs s p) fs g t rest is e other =
      pieces_read qs fs g (Separating s) (piece_spelled p (t ∷ rest)) is.0 refl refl
      ∙ separated fs g qs s (piece_spelled p (t ∷ rest))
      ∙ piece_read p fs g (Pieced qs s) t rest is.1 e other

  piece_read : (p : Piece) (fs : List ParserFrame) (g : Group) (ps : Behind) (t : Token) (rest : List Token) → PieceFits g p → closes t ≡ true → is_colon t ≡ false → parser_run (AtPiece fs g ps Unlabelled) (piece_spelled p (t ∷ rest)) ≡ after_parser_step rest t (pieced fs g (pieces_with ps p) t) (λ s. parser_run s rest)
  piece_read (Nothing ls) fs g ps t rest is e other =
      labels_read ls fs g ps (t ∷ rest) is
      ∙ by_step (AtPiece fs g ps ls) t rest _ (cond-false (begins t) _ _ (closes_begins t e))
  piece_read (Something ls a) fs g ps t rest is e other =
      labels_read ls fs g ps (spelled a (t ∷ rest)) is.0
      ∙ piece_on g a fs ps ls _ t rest is.1 other
      ∙ tree_read a (InPiece g ps ls ∷ fs) 0 t rest is.1 (omega arith) (closes_ends a t e) (closes_follows t e)
      ∙ by_step (Has (InPiece g ps ls ∷ fs) a) t rest _ (cond-false (goes 0 t) _ _ (not-true _ (closes_goes 0 t e)))

-- ---- a statement

pub expr_is_parsed : (ts : List Token) (a : Tree) (p : Separator) (rest : List Token) → IsExpr ts a p rest → parse ts ≡ Read a p rest
expr_is_parsed ts a p rest s = ap parse s.is ∙ tree_read a [] 0 (Separating p) rest s.fits (omega arith) (closes_ends a (Separating p) refl) refl
