-- The forms that the phrases of the grammar stand for, a definition a phrase.
use Rattle.std.specs.Prelude.{◌≡◌, ℕ, pos, List, [], ◌∷◌, codes}
use Rattle.rl_tree.specs.Name.{Name, t_name, cons_name}
use Rattle.rl_tree.specs.Digits.{negated}
use Rattle.rl_text.specs.Datum.{Datum, Id, Pair, nil, quoted}
use Rattle.rl_text.specs.Datum as datum
use Rattle.rl_grammar.specs.Tree as tree
use Rattle.rl_grammar.specs.Token.{Or, And, Equal, Unequal, AtLeast, Greater, AtMost, Less, Plus, Minus, Times, Divide, Worded, Eq, Member, Memq, Separator, Way, Do, Collect, Join, Expr, Fexpr, Macro, Smacro, Token}
use Rattle.rl_grammar.specs.Tree.{NameUse, Plain, Reserved, LeftOperator, By, ByWord, LeadingSign, Positive, Negative, NameList, Just, Also, Parameters, NoParameters, OneParameter, NoneListed, Listed, Labels, Unlabelled, Label, Declarations, NoDeclarations, Declared, Group, Block, Prog, Tree, Variable, Whole, Text, Quote, Bare, Call, Apply, Enclosed, Set, Binary, Raise, Negate, Signed, IfThen, IfElse, WhileDo, RepeatUntil, ForTo, EachIn, LambdaOf, Grouped, ReturnNone, ReturnOf, GoingTo, Callee, Named, EnclosedLambda, Items, One, More, Pieces, First, Next, Piece, Nothing, Something, MaybeKind, NoKind, OfKind, FileNames, JustFile, AlsoFile, Plainly, Defining, StatementBody, Empty, Ending, InFiles, Only, Based}
use Rattle.rl_grammar.specs.Grammar.{IsStatement}

-- ---- lists

abbrev pub one : Datum → Datum
one a = Pair a nil

abbrev pub two : Datum → Datum → Datum
two a b = Pair a (one b)

abbrev pub three : Datum → Datum → Datum → Datum
three a b c = Pair a (two b c)

abbrev pub four : Datum → Datum → Datum → Datum → Datum
four a b c d = Pair a (three b c d)

-- the list with one more element at its end
abbrev pub with_element : Datum → Datum → Datum
with_element (Pair a b) c = Pair a (with_element b c)
with_element a c = one c

-- ---- `x := e`

abbrev pub assignment : Datum → Datum → Datum
assignment x e = three (Id (codes "SETQ")) x e

-- ---- operators

abbrev pub or_name : Name
or_name = codes "OR"

abbrev pub and_name : Name
and_name = codes "AND"

abbrev pub worded_name : Worded → Name
worded_name Eq = codes "EQ"
worded_name Member = codes "MEMBER"
worded_name Memq = codes "MEMQ"

-- `not a`
abbrev pub negation : Datum → Datum
negation a = two (Id (codes "NOT")) a

-- `a op b`
abbrev pub operated_data : LeftOperator → Datum → Datum → Datum
operated_data (By Or) a b = three (Id or_name) a b
operated_data (By And) a b = three (Id and_name) a b
operated_data (By Equal) a b = three (Id (codes "EQUAL")) a b
operated_data (By Greater) a b = three (Id (codes "GREATERP")) a b
operated_data (By Less) a b = three (Id (codes "LESSP")) a b
operated_data (By Unequal) a b = negation (three (Id (codes "EQUAL")) a b)
operated_data (By AtLeast) a b = negation (three (Id (codes "LESSP")) a b)
operated_data (By AtMost) a b = negation (three (Id (codes "GREATERP")) a b)
operated_data (By Plus) a b = three (Id (codes "PLUS2")) a b
operated_data (By Minus) a b = three (Id (codes "DIFFERENCE")) a b
operated_data (By Times) a b = three (Id (codes "TIMES2")) a b
operated_data (By Divide) a b = three (Id (codes "QUOTIENT")) a b
operated_data (ByWord w) a b = three (Id (worded_name w)) a b

-- what of an operand its form does not tell: `a or b or c` is one list, and so is `a and b and c`, but not where parentheses stand round a part of it; and a
-- bare integer has a negative
pub data Shape : Type 0 where
  IsOr : Shape
  IsAnd : Shape
  IsBare : ℕ → Shape
  IsOther : Shape

abbrev pub shape_of : Tree → Shape
shape_of (Binary (By Or) a b) = IsOr
shape_of (Binary (By And) a b) = IsAnd
shape_of (Whole k) = IsBare k
shape_of a = IsOther

-- an operator behind an operand of this shape
abbrev pub joined_by : LeftOperator → Shape → Datum → Datum → Datum
joined_by (By Or) IsOr a b = with_element a b
joined_by (By And) IsAnd a b = with_element a b
joined_by o shape a b = operated_data o a b

-- `a ** b`
abbrev pub power : Datum → Datum → Datum
power a b = three (Id (codes "EXPT")) a b

-- `a . b`
abbrev pub dotted : Datum → Datum → Datum
dotted a b = three (Id cons_name) a b

-- a leading `-`: before a bare integer the negative integer; a leading `+` changes nothing
abbrev pub signed_datum : LeadingSign → Shape → Datum → Datum
signed_datum Positive shape a = a
signed_datum Negative (IsBare k) a = datum.Int (negated k)
signed_datum Negative shape a = two (Id (codes "MINUS")) a

-- ---- names

abbrev pub head_form : NameUse → Datum
head_form (Plain x) = Id x
head_form (Reserved w) = Id (worded_name w)

-- `x, y` before these
abbrev pub names_form : NameList → Datum → Datum
names_form (Just x) f = Pair (Id x) f
names_form (Also xs x) f = names_form xs (Pair (Id x) f)

abbrev pub parameters_form : Parameters → Datum
parameters_form NoParameters = nil
parameters_form (OneParameter x) = one (Id x)
parameters_form NoneListed = nil
parameters_form (Listed xs) = names_form xs nil

-- the variables of `scalar`, before these
abbrev pub declarations_form : Declarations → Datum → Datum
declarations_form NoDeclarations f = f
declarations_form (Declared ds xs) f = declarations_form ds (names_form xs f)

-- `l: m:` before these
abbrev pub labels_form : Labels → Datum → Datum
labels_form Unlabelled f = f
labels_form (Label ls x) f = labels_form ls (Pair (Id x) f)

-- ---- `if`

abbrev pub if_then : Datum → Datum → Datum
if_then a b = two (Id (codes "COND")) (two a b)

abbrev pub if_else : Datum → Datum → Datum → Datum
if_else a b c = three (Id (codes "COND")) (two a b) (two (Id t_name) c)

-- ---- groups

-- a piece, or the body of a loop, whose form is an identifier: among the forms of a PROG it would be a label
abbrev pub as_piece : Datum → Datum
as_piece (Id x) = two (Id (codes "PROGN")) (Id x)
as_piece f = f

-- `(PROG variables ..)`
abbrev pub prog : Datum → Datum → Datum
prog variables forms = Pair (Id (codes "PROG")) (Pair variables forms)

-- `<< .. >>`, and `begin scalar .. end`
abbrev pub group_form : Group → Datum → Datum
group_form Block forms = Pair (Id (codes "PROGN")) forms
group_form (Prog ds) forms = prog (declarations_form ds nil) forms

abbrev pub piece_of : Group → Datum → Datum
piece_of Block f = f
piece_of (Prog ds) f = as_piece f

-- ---- `return`, `go to`, `lambda`

abbrev pub return_of : Datum → Datum
return_of e = two (Id (codes "RETURN")) e

abbrev pub go_to : Datum → Datum
go_to l = two (Id (codes "GO")) l

abbrev pub lambda_of : Datum → Datum → Datum
lambda_of parameters e = three (Id (codes "LAMBDA")) parameters e

-- ---- loops

abbrev pub loop_label : Datum
loop_label = Id (codes "$LOOP")

abbrev pub end_variable : Datum
end_variable = Id (codes "$END")

abbrev pub list_variable : Datum
list_variable = Id (codes "$LIST")

abbrev pub out_variable : Datum
out_variable = Id (codes "$OUT")

-- the loop goes on
abbrev pub again : Datum
again = go_to loop_label

-- `(COND (test (RETURN value)))`
abbrev pub returns_when : Datum → Datum → Datum
returns_when test value = if_then test (return_of value)

-- `while a do s`
abbrev pub while_do : Datum → Datum → Datum
while_do a s = prog nil (four loop_label (returns_when (negation a) nil) (as_piece s) again)

-- `repeat s until a`
abbrev pub repeat_until : Datum → Datum → Datum
repeat_until s a = prog nil (three loop_label (as_piece s) (if_then (negation a) again))

-- `for i := a : b do s`
abbrev pub for_to : Datum → Datum → Datum → Datum → Datum
for_to i a b s =
    three (lambda_of (two i end_variable)
    (prog nil (Pair loop_label (Pair (returns_when (three (Id (codes "GREATERP")) i end_variable) nil)
    (three (as_piece s) (assignment i (three (Id (codes "PLUS2")) i (datum.Int (pos 1)))) again)))))
    a b

-- `(SETQ x (CAR $LIST)) (SETQ $LIST (CDR $LIST))` before these
abbrev pub with_next : Datum → Datum → Datum
with_next x rest = Pair (assignment x (two (Id (codes "CAR")) list_variable)) (Pair (assignment list_variable (two (Id (codes "CDR")) list_variable)) rest)

-- the loop over `$LIST`, which gives this at the end of the list: its variables, what it gives, and what it does with x
abbrev pub each_loop : Datum → Datum → Datum → Datum → Datum
each_loop variables value x work =
    prog variables (Pair loop_label (Pair (returns_when (two (Id (codes "ATOM")) list_variable) value) (with_next x (two work again))))

-- `for each x in l do s`, `collect e` and `join e`
abbrev pub each_of : Way → Datum → Datum → Datum
each_of Do x s = each_loop (one x) nil x (as_piece s)
each_of Collect x e = each_loop (two x out_variable) (two (Id (codes "REVERSE")) out_variable) x (assignment out_variable (three (Id cons_name) e out_variable))
each_of Join x e = each_loop (two x out_variable) out_variable x (assignment out_variable (three (Id (codes "NCONC")) out_variable e))

abbrev pub each_in : Way → Datum → Datum → Datum → Datum
each_in w x l s = two (lambda_of (one list_variable) (each_of w x s)) l

-- ---- trees

abbrev mutual
  pub form_of : Tree → Datum
  form_of (Variable h) = head_form h
  form_of (Whole k) = datum.Int (pos k)
  form_of (Text k) = datum.Str k
  form_of (Quote e) = quoted e
  form_of (Bare c) = one (callee_form c)
  form_of (Call c es) = Pair (callee_form c) (items_form es nil)
  form_of (Apply h a) = two (head_form h) (form_of a)
  form_of (Enclosed a) = form_of a
  form_of (Set h a) = assignment (head_form h) (form_of a)
  form_of (Binary o a b) = joined_by o (shape_of a) (form_of a) (form_of b)
  form_of (Raise a b) = power (form_of a) (form_of b)
  form_of (tree.Pair a b) = dotted (form_of a) (form_of b)
  form_of (Negate a) = negation (form_of a)
  form_of (Signed s a) = signed_datum s (shape_of a) (form_of a)
  form_of (IfThen a b) = if_then (form_of a) (form_of b)
  form_of (IfElse a b c) = if_else (form_of a) (form_of b) (form_of c)
  form_of (WhileDo a s) = while_do (form_of a) (form_of s)
  form_of (RepeatUntil s a) = repeat_until (form_of s) (form_of a)
  form_of (ForTo x a b s) = for_to (Id x) (form_of a) (form_of b) (form_of s)
  form_of (EachIn e x l w s) = each_in w (Id x) (form_of l) (form_of s)
  form_of (LambdaOf p a) = lambda_of (parameters_form p) (form_of a)
  form_of (Grouped g ps) = group_form g (pieces_form g ps nil)
  form_of ReturnNone = return_of nil
  form_of (ReturnOf a) = return_of (form_of a)
  form_of (GoingTo g x) = go_to (Id x)

  pub callee_form : Callee → Datum
  callee_form (Named h) = head_form h
  callee_form (EnclosedLambda a) = form_of a

  pub items_form : Items → Datum → Datum
  items_form (One a) f = Pair (form_of a) f
  items_form (More es a) f = items_form es (Pair (form_of a) f)

  pub pieces_form : Group → Pieces → Datum → Datum
  pieces_form g (First p) f = piece_form g p f
  pieces_form g (Next ps s p) f = pieces_form g ps (piece_form g p f)

  pub piece_form : Group → Piece → Datum → Datum
  piece_form g (Nothing ls) f = labels_form ls f
  piece_form g (Something ls a) f = labels_form ls (Pair (piece_of g (form_of a)) f)

-- ---- procedures

-- `smacro procedure f(x, y); e`: its body with its parameters replaced by the forms of the call
abbrev pub smacro : Datum → Datum → Datum → Datum
smacro f parameters e =
    four (Id (codes "DM")) f (one (Id (codes "$U")))
    (three (Id (codes "SUBLIS")) (three (Id (codes "PAIR")) (quoted parameters) (two (Id (codes "CDR")) (Id (codes "$U")))) (quoted e))

-- `procedure f(x); e`, and with its kind before it
abbrev pub procedure : MaybeKind → Datum → Datum → Datum → Datum
procedure NoKind f parameters e = four (Id (codes "DE")) f parameters e
procedure (OfKind Expr) f parameters e = four (Id (codes "DE")) f parameters e
procedure (OfKind Fexpr) f parameters e = four (Id (codes "DF")) f parameters e
procedure (OfKind Macro) f parameters e = four (Id (codes "DM")) f parameters e
procedure (OfKind Smacro) f parameters e = smacro f parameters e

-- ---- statements

-- what a statement is: nothing; the end of its file; files whose statements are run; or a form
pub data Meant : Type 0 where
  IsEmpty : Meant
  IsEnd : Meant
  Reads : List (List ℕ) → Meant
  Evaluates : Datum → Meant

-- the names of the files, before these
abbrev pub files_named : FileNames → List (List ℕ) → List (List ℕ)
files_named (JustFile k) ks = k ∷ ks
files_named (AlsoFile fs k) ks = files_named fs (k ∷ ks)

abbrev pub meant : StatementBody → Meant
meant Empty = IsEmpty
meant Ending = IsEnd
meant (InFiles fs) = Reads (files_named fs [])
meant (Only m) = Evaluates nil
meant (Based (Plainly m) a) = Evaluates (form_of a)
meant (Based (Defining m k f p) a) = Evaluates (procedure k (Id f) (parameters_form p) (form_of a))

-- the tokens begin with a statement that means this
pub record Means (ts : List Token) (m : Meant) (rest : List Token) : Type 0 where
  pub body : StatementBody
  pub separator : Separator
  pub is : IsStatement ts body separator rest
  pub means : m ≡ meant body
