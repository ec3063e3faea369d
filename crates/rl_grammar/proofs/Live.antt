-- Wherever parsing has come, some tokens end the statement well.
use Rattle.std.proofs.Common.{◌≡◌, true, List, [], ◌∷◌, refl, ◌∙◌}
use Rattle.rl_grammar.specs.Token.{Semicolon, Do, Token, Identifier, Assign, Close, Colon, Then, Until, In, Does, Separating, End}
use Rattle.rl_grammar.specs.Tree.{NameUse, Plain, Just, Also, NoParameters, NoneListed, Listed, Labels, Unlabelled, Label, Declarations, Declared, Group, Block, Prog, group_end, GoBare, Tree, Variable, Bare, Call, Apply, Enclosed, Set, Binary, Raise, Pair, Negate, Signed, IfThen, IfElse, WhileDo, RepeatUntil, ForTo, EachIn, LambdaOf, Grouped, ReturnNone, ReturnOf, GoingTo, Nothing, Something}
use Rattle.rl_grammar.specs.Grammar.{is_else, begins, is_parenthesized_lambda}
use Rattle.rl_grammar.specs.Parser.{with_last, Behind, NoPiece, pieces_with, ParserFrame, InBinary, InPower, InPair, InNot, InSign, InApply, InSet, InEnclosed, InCond, InThen, InElse, InWhile, InDo, InRepeat, InUntil, InFrom, InTo, InFor, InOf, InEach, InLambda, InArgs, InPiece, InReturn, operand_level, Listing, Begun, Opening, Naming, Parted, Over, ParserState, Want, Named, Has, Opened, Shut, Returned, AtPiece, AtName, AtDeclarations, AtScalar, AtNames, AtMore, AtParameters, AtFor, AtIndex, AtEach, AtIn, AtGo, AtGoal, ParserStep, Goes, operand_ended, after, is_colon, Read, after_parser_step, parser_run}
use Rattle.rl_tree.specs.Name.{t_name}
use Rattle.std.proofs.lemmas.Bool.{cond_both, cond-false, not-true}
use Rattle.rl_grammar.proofs.Complete.{closes, closes_goes, closes_else, closes_follows, closes_begins, name_read, shut_read, reduced, by_step}

-- the token that ends the innermost that only a token can end, and those that end all else
abbrev closer : List ParserFrame → Token
closer [] = Separating Semicolon
closer (InEnclosed ∷ fs) = Close
closer (InCond ∷ fs) = Then
closer (InWhile ∷ fs) = Does Do
closer (InRepeat ∷ fs) = Until
closer (InFrom x ∷ fs) = Colon
closer (InTo x a ∷ fs) = Does Do
closer (InOf e x ∷ fs) = Does Do
closer (InArgs c es ∷ fs) = Close
closer (InPiece g ps ls ∷ fs) = group_end g
closer (f ∷ fs) = closer fs

abbrev closers : List ParserFrame → List Token
closers [] = []
closers (InEnclosed ∷ fs) = closer fs ∷ closers fs
closers (InCond ∷ fs) = Identifier t_name ∷ closer fs ∷ closers fs
closers (InWhile ∷ fs) = Identifier t_name ∷ closer fs ∷ closers fs
closers (InRepeat ∷ fs) = Identifier t_name ∷ closer fs ∷ closers fs
closers (InFrom x ∷ fs) = Identifier t_name ∷ Does Do ∷ Identifier t_name ∷ closer fs ∷ closers fs
closers (InTo x a ∷ fs) = Identifier t_name ∷ closer fs ∷ closers fs
closers (InOf e x ∷ fs) = Identifier t_name ∷ closer fs ∷ closers fs
closers (InArgs c es ∷ fs) = closer fs ∷ closers fs
closers (InPiece g ps ls ∷ fs) = closer fs ∷ closers fs
closers (f ∷ fs) = closers fs

closer_closes : (fs : List ParserFrame) → closes (closer fs) ≡ true
closer_closes [] = refl
closer_closes (InEnclosed ∷ fs) = refl
closer_closes (InCond ∷ fs) = refl
closer_closes (InWhile ∷ fs) = refl
closer_closes (InRepeat ∷ fs) = refl
closer_closes (InFrom x ∷ fs) = refl
closer_closes (InTo x a ∷ fs) = refl
closer_closes (InOf e x ∷ fs) = refl
closer_closes (InArgs c es ∷ fs) = refl
closer_closes (InPiece Block ps ls ∷ fs) = refl
closer_closes (InPiece (Prog ds) ps ls ∷ fs) = refl
closer_closes (f ∷ fs) = closer_closes fs

record Finish (s : ParserState) (ts : List Token) : Type 0 where
  tree : Tree
  read : parser_run s ts ≡ Read tree Semicolon []

-- what ends all that has begun
abbrev ending : List ParserFrame → List Token
ending fs = closer fs ∷ closers fs

-- the innermost ends as this
reduces : (f : ParserFrame) (fs : List ParserFrame) (a b : Tree) → operand_ended f fs a (closer fs) (λ b. after fs b (closer fs)) ≡ after fs b (closer fs) → Finish (Has fs b) (ending fs) → Finish (Has (f ∷ fs) a) (ending fs)
reduces f fs a b e finish = record { tree = finish.tree; read = reduced f fs a b (closer fs) (closers fs) (closes_goes (operand_level f) (closer fs) (closer_closes fs)) e ∙ finish.read }

then_reduces : (fs : List ParserFrame) (a b : Tree) → Finish (Has fs (IfThen a b)) (ending fs) → Finish (Has (InThen a ∷ fs) b) (ending fs)
then_reduces fs a b finish = reduces (InThen a) fs b (IfThen a b) (cond-false (is_else (closer fs)) _ _ (not-true _ (closes_else (closer fs) (closer_closes fs)))) finish

name_reads : (fs : List ParserFrame) (h : NameUse) (t : Token) (ts : List Token) → closes t ≡ true → Finish (Has fs (Variable h)) (t ∷ ts) → Finish (Named fs h) (t ∷ ts)
name_reads fs h t ts e finish = record { tree = finish.tree; read = name_read fs h t ts (closes_follows t e) ∙ finish.read }

-- an operand, and what ends all that has begun
operand : (fs : List ParserFrame) → Finish (Has fs (Variable (Plain t_name))) (ending fs) → Finish (Want fs) (Identifier t_name ∷ ending fs)
operand fs finish = let name = name_reads fs (Plain t_name) (closer fs) (closers fs) (closer_closes fs) finish in record { tree = name.tree; read = name.read }

-- the last operand of what ends with it
last_operand : (f : ParserFrame) (fs : List ParserFrame) (b : Tree) → operand_ended f fs (Variable (Plain t_name)) (closer fs) (λ b. after fs b (closer fs)) ≡ after fs b (closer fs) → Finish (Has fs b) (ending fs) → Finish (Want (f ∷ fs)) (Identifier t_name ∷ ending fs)
last_operand f fs b e finish =
    let name = name_reads (f ∷ fs) (Plain t_name) (closer fs) (closers fs) (closer_closes fs) (reduces f fs (Variable (Plain t_name)) b e finish) in
    record { tree = name.tree; read = name.read }

abbrev zero_variable : Tree
zero_variable = Variable (Plain t_name)

enclosed_ends : (fs : List ParserFrame) (a : Tree) → Finish (Has fs (Enclosed a)) (ending fs) → Finish (Has (InEnclosed ∷ fs) a) (Close ∷ ending fs)
enclosed_ends fs a finish = record {
  tree = finish.tree;
  read = cond_both (is_parenthesized_lambda a) (Goes (Shut fs a)) (Goes (Has fs (Enclosed a))) (λ (st : ParserStep). after_parser_step (ending fs) Close st (λ s. parser_run s (ending fs)) ≡ parser_run (Has fs (Enclosed a)) (ending fs)) (λ lambda. shut_read fs a (closer fs) (closers fs) (closes_follows _ (closer_closes fs))) (λ other. refl) ∙ finish.read;
}

finish : (fs : List ParserFrame) (a : Tree) → Finish (Has fs a) (ending fs)
finish [] a = record { tree = a; read = refl }
finish (InBinary o b ∷ fs) a = reduces (InBinary o b) fs a (Binary o b a) refl (finish fs (Binary o b a))
finish (InPower b ∷ fs) a = reduces (InPower b) fs a (Raise b a) refl (finish fs (Raise b a))
finish (InPair b ∷ fs) a = reduces (InPair b) fs a (Pair b a) refl (finish fs (Pair b a))
finish (InNot ∷ fs) a = reduces InNot fs a (Negate a) refl (finish fs (Negate a))
finish (InSign s ∷ fs) a = reduces (InSign s) fs a (Signed s a) refl (finish fs (Signed s a))
finish (InApply h ∷ fs) a = reduces (InApply h) fs a (Apply h a) refl (finish fs (Apply h a))
finish (InSet h ∷ fs) a = reduces (InSet h) fs a (Set h a) refl (finish fs (Set h a))
finish (InEnclosed ∷ fs) a = enclosed_ends fs a (finish fs (Enclosed a))
finish (InCond ∷ fs) a =
    let last = name_reads (InThen a ∷ fs) (Plain t_name) (closer fs) (closers fs) (closer_closes fs) (then_reduces fs a zero_variable (finish fs (IfThen a zero_variable))) in
    record { tree = last.tree; read = last.read }
finish (InThen b ∷ fs) a = then_reduces fs b a (finish fs (IfThen b a))
finish (InElse b c ∷ fs) a = reduces (InElse b c) fs a (IfElse b c a) refl (finish fs (IfElse b c a))
finish (InWhile ∷ fs) a = let last = last_operand (InDo a) fs (WhileDo a zero_variable) refl (finish fs (WhileDo a zero_variable)) in record { tree = last.tree; read = last.read }
finish (InDo b ∷ fs) a = reduces (InDo b) fs a (WhileDo b a) refl (finish fs (WhileDo b a))
finish (InRepeat ∷ fs) a = let last = last_operand (InUntil a) fs (RepeatUntil a zero_variable) refl (finish fs (RepeatUntil a zero_variable)) in record { tree = last.tree; read = last.read }
finish (InUntil b ∷ fs) a = reduces (InUntil b) fs a (RepeatUntil b a) refl (finish fs (RepeatUntil b a))
finish (InFrom x ∷ fs) a = let last = last_operand (InFor x a zero_variable) fs (ForTo x a zero_variable zero_variable) refl (finish fs (ForTo x a zero_variable zero_variable)) in record { tree = last.tree; read = last.read }
finish (InTo x b ∷ fs) a = let last = last_operand (InFor x b a) fs (ForTo x b a zero_variable) refl (finish fs (ForTo x b a zero_variable)) in record { tree = last.tree; read = last.read }
finish (InFor x b c ∷ fs) a = reduces (InFor x b c) fs a (ForTo x b c a) refl (finish fs (ForTo x b c a))
finish (InOf e x ∷ fs) a = let last = last_operand (InEach e x a Do) fs (EachIn e x a Do zero_variable) refl (finish fs (EachIn e x a Do zero_variable)) in record { tree = last.tree; read = last.read }
finish (InEach e x b w ∷ fs) a = reduces (InEach e x b w) fs a (EachIn e x b w a) refl (finish fs (EachIn e x b w a))
finish (InLambda p ∷ fs) a = reduces (InLambda p) fs a (LambdaOf p a) refl (finish fs (LambdaOf p a))
finish (InArgs c es ∷ fs) a = let outer = finish fs (Call c (with_last es a)) in record { tree = outer.tree; read = outer.read }
finish (InPiece Block ps ls ∷ fs) a = let outer = finish fs (Grouped Block (pieces_with ps (Something ls a))) in record { tree = outer.tree; read = outer.read }
finish (InPiece (Prog ds) ps ls ∷ fs) a = let outer = finish fs (Grouped (Prog ds) (pieces_with ps (Something ls a))) in record { tree = outer.tree; read = outer.read }
finish (InReturn ∷ fs) a = reduces InReturn fs a (ReturnOf a) refl (finish fs (ReturnOf a))

-- the tokens make a label of a name that may be one
abbrev pub LabelsName : ParserState → List Token → Type 0
LabelsName (AtName fs g ps ls x) [] = ⊥
LabelsName (AtName fs g ps ls x) (t ∷ ts) = is_colon t ≡ true
LabelsName s ts = Unit {0}

-- tokens that end the statement well
pub record Live (s : ParserState) : Type 0 where
  pub tokens : List Token
  pub tree : Tree
  pub read : parser_run s tokens ≡ Read tree Semicolon []
  pub labels : LabelsName s tokens

pieces_live : (fs : List ParserFrame) (g : Group) (ps : Behind) (ls : Labels) → Finish (AtPiece fs g ps ls) (group_end g ∷ ending fs)
pieces_live fs Block ps ls = let outer = finish fs (Grouped Block (pieces_with ps (Nothing ls))) in record { tree = outer.tree; read = outer.read }
pieces_live fs (Prog ds) ps ls = let outer = finish fs (Grouped (Prog ds) (pieces_with ps (Nothing ls))) in record { tree = outer.tree; read = outer.read }

declarations_live : (fs : List ParserFrame) (ds : Declarations) → Finish (AtDeclarations fs ds) (End ∷ ending fs)
declarations_live fs ds = let outer = finish fs (Grouped (Prog ds) (pieces_with NoPiece (Nothing Unlabelled))) in record { tree = outer.tree; read = outer.read }

want_live : (fs : List ParserFrame) → Finish (Want fs) (Identifier t_name ∷ ending fs)
want_live fs = operand fs (finish fs zero_variable)

parameters_live : (fs : List ParserFrame) (l : Listing) → Live (AtParameters fs l)
parameters_live fs Begun = let end = want_live (InLambda NoParameters ∷ fs) in record { tokens = Separating Semicolon ∷ Identifier t_name ∷ ending fs; tree = end.tree; read = end.read; labels = tt }
parameters_live fs Opening = let end = want_live (InLambda NoneListed ∷ fs) in record { tokens = Close ∷ Separating Semicolon ∷ Identifier t_name ∷ ending fs; tree = end.tree; read = end.read; labels = tt }
parameters_live fs (Naming xs) = let end = want_live (InLambda (Listed xs) ∷ fs) in record { tokens = Close ∷ Separating Semicolon ∷ Identifier t_name ∷ ending fs; tree = end.tree; read = end.read; labels = tt }
parameters_live fs (Parted xs) = let end = want_live (InLambda (Listed (Also xs t_name)) ∷ fs) in record { tokens = Identifier t_name ∷ Close ∷ Separating Semicolon ∷ Identifier t_name ∷ ending fs; tree = end.tree; read = end.read; labels = tt }
parameters_live fs (Over p) = let end = want_live (InLambda p ∷ fs) in record { tokens = Separating Semicolon ∷ Identifier t_name ∷ ending fs; tree = end.tree; read = end.read; labels = tt }

pub live : (s : ParserState) → Live s
live (Want fs) = let end = want_live fs in record { tokens = Identifier t_name ∷ ending fs; tree = end.tree; read = end.read; labels = tt }
live (Named fs h) = let end = name_reads fs h (closer fs) (closers fs) (closer_closes fs) (finish fs (Variable h)) in record { tokens = ending fs; tree = end.tree; read = end.read; labels = tt }
live (Has fs a) = let end = finish fs a in record { tokens = ending fs; tree = end.tree; read = end.read; labels = tt }
live (Opened fs c) = let end = finish fs (Bare c) in record { tokens = Close ∷ ending fs; tree = end.tree; read = end.read; labels = tt }
live (Shut fs a) = let end = finish fs (Enclosed a) in record { tokens = ending fs; tree = end.tree; read = shut_read fs a (closer fs) (closers fs) (closes_follows _ (closer_closes fs)) ∙ end.read; labels = tt }
live (Returned fs) = let end = finish fs ReturnNone in record { tokens = ending fs; tree = end.tree; read = by_step (Returned fs) (closer fs) (closers fs) _ (cond-false (begins (closer fs)) _ _ (closes_begins _ (closer_closes fs))) ∙ end.read; labels = tt }
live (AtPiece fs g ps ls) = let end = pieces_live fs g ps ls in record { tokens = group_end g ∷ ending fs; tree = end.tree; read = end.read; labels = tt }
live (AtName fs g ps ls x) = let end = pieces_live fs g ps (Label ls x) in record { tokens = Colon ∷ group_end g ∷ ending fs; tree = end.tree; read = end.read; labels = refl }
live (AtDeclarations fs ds) = let end = declarations_live fs ds in record { tokens = End ∷ ending fs; tree = end.tree; read = end.read; labels = tt }
live (AtScalar fs ds) = let end = declarations_live fs (Declared ds (Just t_name)) in record { tokens = Identifier t_name ∷ Separating Semicolon ∷ End ∷ ending fs; tree = end.tree; read = end.read; labels = tt }
live (AtNames fs ds xs) = let end = declarations_live fs (Declared ds xs) in record { tokens = Separating Semicolon ∷ End ∷ ending fs; tree = end.tree; read = end.read; labels = tt }
live (AtMore fs ds xs) = let end = declarations_live fs (Declared ds (Also xs t_name)) in record { tokens = Identifier t_name ∷ Separating Semicolon ∷ End ∷ ending fs; tree = end.tree; read = end.read; labels = tt }
live (AtParameters fs l) = parameters_live fs l
live (AtFor fs) = let end = want_live (InFrom t_name ∷ fs) in record { tokens = Identifier t_name ∷ Assign ∷ Identifier t_name ∷ ending (InFrom t_name ∷ fs); tree = end.tree; read = end.read; labels = tt }
live (AtIndex fs x) = let end = want_live (InFrom x ∷ fs) in record { tokens = Assign ∷ Identifier t_name ∷ ending (InFrom x ∷ fs); tree = end.tree; read = end.read; labels = tt }
live (AtEach fs e) = let end = want_live (InOf e t_name ∷ fs) in record { tokens = Identifier t_name ∷ In ∷ Identifier t_name ∷ ending (InOf e t_name ∷ fs); tree = end.tree; read = end.read; labels = tt }
live (AtIn fs e x) = let end = want_live (InOf e x ∷ fs) in record { tokens = In ∷ Identifier t_name ∷ ending (InOf e x ∷ fs); tree = end.tree; read = end.read; labels = tt }
live (AtGo fs) = let end = finish fs (GoingTo GoBare t_name) in record { tokens = Identifier t_name ∷ ending fs; tree = end.tree; read = end.read; labels = tt }
live (AtGoal fs g) = let end = finish fs (GoingTo g t_name) in record { tokens = Identifier t_name ∷ ending fs; tree = end.tree; read = end.read; labels = tt }
