-- Statements and what they mean, or the byte at which they are refused, tried on examples: each side computes to the other.
use Rattle.std.proofs.Common.{◌≡◌, ℕ, zero, suc, ◌-◌, Bool, true, false, ◌&&◌, ◌==◌, List, [], ◌∷◌, ◌++◌, length, take, drop, refl}
use Rattle.std.specs.Prelude.{codes}
use Rattle.rl_text.specs.Reading.{Reading, Found, reading}
use Rattle.rl_grammar.specs.Form.{Meant, IsEmpty, IsEnd, Reads, Evaluates, meant}
use Rattle.rl_grammar.specs.Lexer.{behind_gap}
use Rattle.rl_grammar.specs.Statement.{Start}
use Rattle.rl_grammar.specs.SourceReader.{SourceResult, HasStatement, NothingLeft, Unreadable, read_source, source_statement}

-- what a statement means, or the number of bytes before the one that is refused
pub data Answer : Type 0 where
  Says : Meant → Answer
  Nothing : Answer
  Refused : ℕ → Answer

abbrev pub answered : List ℕ → SourceResult → Answer
answered bytes (HasStatement b s rest) = Says (meant b)
answered bytes NothingLeft = Nothing
answered bytes (Unreadable from) = Refused (length bytes - length from)

abbrev pub answer : List ℕ → Answer
answer bytes = answered bytes (source_statement bytes)

-- the form that this spells
abbrev pub spells : Reading → Answer
spells (Found datum rest) = Says (Evaluates datum)
spells other = Refused 0

abbrev pub form : List ℕ → Answer
form bytes = spells (reading bytes)

-- ---- operators with their neighbours

pub minus_to_the_left : answer (codes "a-b-c;") ≡ form (codes "(DIFFERENCE (DIFFERENCE A B) C)")
minus_to_the_left = refl

pub power_to_the_right : answer (codes "a**b**c;") ≡ form (codes "(EXPT A (EXPT B C))")
power_to_the_right = refl

pub dot_to_the_right : answer (codes "a.b.c;") ≡ form (codes "(CONS A (CONS B C))")
dot_to_the_right = refl

pub leading_minus_before_a_product : answer (codes "-a*b+c;") ≡ form (codes "(PLUS2 (MINUS (TIMES2 A B)) C)")
leading_minus_before_a_product = refl

pub negative_integer : answer (codes "-1;") ≡ form (codes "-1")
negative_integer = refl

pub negative_integer_behind_a_blank : answer (codes "- 1;") ≡ form (codes "-1")
negative_integer_behind_a_blank = refl

pub minus_of_an_integer_in_parentheses : answer (codes "-(5);") ≡ form (codes "(MINUS 5)")
minus_of_an_integer_in_parentheses = refl

pub minus_of_a_power : answer (codes "-1**2;") ≡ form (codes "(MINUS (EXPT 1 2))")
minus_of_a_power = refl

pub minus_of_a_product_of_integers : answer (codes "-5*2;") ≡ form (codes "(MINUS (TIMES2 5 2))")
minus_of_a_product_of_integers = refl

pub leading_plus : answer (codes "+a - b;") ≡ form (codes "(DIFFERENCE A B)")
leading_plus = refl

pub sum_and_product : answer (codes "a+b*c/d;") ≡ form (codes "(PLUS2 A (QUOTIENT (TIMES2 B C) D))")
sum_and_product = refl

pub product_of_powers : answer (codes "a*b**c;") ≡ form (codes "(TIMES2 A (EXPT B C))")
product_of_powers = refl

pub dot_before_power : answer (codes "a . b ** c . d;") ≡ form (codes "(EXPT (CONS A B) (CONS C D))")
dot_before_power = refl

pub not_before_a_relation : answer (codes "not a = b;") ≡ form (codes "(NOT (EQUAL A B))")
not_before_a_relation = refl

pub not_of_not : answer (codes "not not a and b;") ≡ form (codes "(AND (NOT (NOT A)) B)")
not_of_not = refl

pub and_before_or : answer (codes "a and b or c;") ≡ form (codes "(OR (AND A B) C)")
and_before_or = refl

pub one_list_of_or : answer (codes "a or b or c or d;") ≡ form (codes "(OR A B C D)")
one_list_of_or = refl

pub one_list_of_and : answer (codes "a and b and c;") ≡ form (codes "(AND A B C)")
one_list_of_and = refl

pub or_in_parentheses : answer (codes "(a or b) or c;") ≡ form (codes "(OR (OR A B) C)")
or_in_parentheses = refl

pub or_behind_parentheses : answer (codes "a or (b or c);") ≡ form (codes "(OR A (OR B C))")
or_behind_parentheses = refl

pub relations_to_the_left : answer (codes "a = b = c;") ≡ form (codes "(EQUAL (EQUAL A B) C)")
relations_to_the_left = refl

pub unequal : answer (codes "a neq b;") ≡ form (codes "(NOT (EQUAL A B))")
unequal = refl

pub at_least : answer (codes "a >= b;") ≡ form (codes "(NOT (LESSP A B))")
at_least = refl

pub at_most : answer (codes "a <= b;") ≡ form (codes "(NOT (GREATERP A B))")
at_most = refl

pub greater_and_less : answer (codes "a > b < c;") ≡ form (codes "(LESSP (GREATERP A B) C)")
greater_and_less = refl

pub relation_of_sums : answer (codes "a+1>b-2;") ≡ form (codes "(GREATERP (PLUS2 A 1) (DIFFERENCE B 2))")
relation_of_sums = refl

pub memberships : answer (codes "a member b memq c;") ≡ form (codes "(MEMQ (MEMBER A B) C)")
memberships = refl

pub eq_between : answer (codes "a eq b;") ≡ form (codes "(EQ A B)")
eq_between = refl

pub assignments_to_the_right : answer (codes "a:=b:=c;") ≡ form (codes "(SETQ A (SETQ B C))")
assignments_to_the_right = refl

pub assignment_of_or : answer (codes "a := b or c;") ≡ form (codes "(SETQ A (OR B C))")
assignment_of_or = refl

pub assignment_in_an_operand : answer (codes "1 + a := b;") ≡ Refused 6
assignment_in_an_operand = refl

pub minus_behind_an_operator : answer (codes "a * - b;") ≡ Refused 4
minus_behind_an_operator = refl

pub sign_behind_power : answer (codes "a ** -1;") ≡ Refused 5
sign_behind_power = refl

pub not_behind_a_relation : answer (codes "a = not b;") ≡ Refused 4
not_behind_a_relation = refl

-- ---- calls

pub call_of_two : answer (codes "f(a,b);") ≡ form (codes "(F A B)")
call_of_two = refl

pub call_of_none : answer (codes "f();") ≡ form (codes "(F)")
call_of_none = refl

pub call_by_a_blank : answer (codes "f a;") ≡ form (codes "(F A)")
call_by_a_blank = refl

pub calls_of_calls : answer (codes "f a b;") ≡ form (codes "(F (A B))")
calls_of_calls = refl

pub name_before_a_minus : answer (codes "f -a;") ≡ form (codes "(DIFFERENCE F A)")
name_before_a_minus = refl

pub operand_behind_a_call : answer (codes "f(a)b;") ≡ Refused 4
operand_behind_a_call = refl

pub calls_before_a_dot : answer (codes "car cdr x . y;") ≡ form (codes "(CONS (CAR (CDR X)) Y)")
calls_before_a_dot = refl

pub call_of_an_integer : answer (codes "f 1 + g \"s\";") ≡ form (codes "(PLUS2 (F 1) (G \"s\"))")
call_of_an_integer = refl

pub call_of_a_quoted : answer (codes "car '(a . b);") ≡ form (codes "(CAR (QUOTE (A . B)))")
call_of_a_quoted = refl

pub call_of_a_phrase : answer (codes "f if a then b + c;") ≡ form (codes "(F (COND (A (PLUS2 B C))))")
call_of_a_phrase = refl

pub lambda_that_is_called : answer (codes "(lambda(x,y); x+y)(1,2);") ≡ form (codes "((LAMBDA (X Y) (PLUS2 X Y)) 1 2)")
lambda_that_is_called = refl

pub lambda_that_is_called_with_none : answer (codes "(lambda; 1)();") ≡ form (codes "((LAMBDA NIL 1))")
lambda_that_is_called_with_none = refl

pub lambda_alone : answer (codes "lambda x; x*x;") ≡ form (codes "(LAMBDA (X) (TIMES2 X X))")
lambda_alone = refl

pub lambda_in_parentheses : answer (codes "(lambda x; x) . y;") ≡ form (codes "(CONS (LAMBDA (X) X) Y)")
lambda_in_parentheses = refl

pub signed_lambda_is_not_called : answer (codes "(+lambda x; x)(1);") ≡ Refused 14
signed_lambda_is_not_called = refl

pub lambda_in_two_parentheses_is_not_called : answer (codes "((lambda x; x))(1);") ≡ Refused 15
lambda_in_two_parentheses_is_not_called = refl

pub call_without_an_argument : answer (codes "f(a,);") ≡ Refused 4
call_without_an_argument = refl

-- ---- EQ, MEMBER and MEMQ as names

pub eq_as_a_name : answer (codes "eq;") ≡ form (codes "EQ")
eq_as_a_name = refl

pub eq_of_eq : answer (codes "eq eq eq;") ≡ form (codes "(EQ EQ EQ)")
eq_of_eq = refl

pub eq_by_a_blank : answer (codes "return eq 3;") ≡ form (codes "(RETURN (EQ 3))")
eq_by_a_blank = refl

pub eq_that_is_called : answer (codes "eq(a,b);") ≡ form (codes "(EQ A B)")
eq_that_is_called = refl

pub eq_that_is_set : answer (codes "eq := 3;") ≡ form (codes "(SETQ EQ 3)")
eq_that_is_set = refl

pub member_in_an_operand : answer (codes "a + member;") ≡ form (codes "(PLUS2 A MEMBER)")
member_in_an_operand = refl

pub eq_begins_no_operand_of_a_name : answer (codes "f eq;") ≡ Refused 4
eq_begins_no_operand_of_a_name = refl

pub eq_is_no_label : answer (codes "begin eq: a end;") ≡ Refused 8
eq_is_no_label = refl

pub eq_is_no_parameter : answer (codes "procedure f(eq); 1;") ≡ Refused 12
eq_is_no_parameter = refl

pub eq_is_no_loop_variable : answer (codes "for eq := 1:2 do f();") ≡ Refused 4
eq_is_no_loop_variable = refl

pub eq_is_no_goal : answer (codes "go to eq;") ≡ Refused 6
eq_is_no_goal = refl

-- ---- `if`

pub if_without_else : answer (codes "if a then b;") ≡ form (codes "(COND (A B))")
if_without_else = refl

pub if_with_else : answer (codes "if a then b else c;") ≡ form (codes "(COND (A B) (T C))")
if_with_else = refl

pub else_of_the_nearest : answer (codes "if a then if b then c else d;") ≡ form (codes "(COND (A (COND (B C) (T D))))")
else_of_the_nearest = refl

pub else_of_both : answer (codes "if a then if b then c else d else e;") ≡ form (codes "(COND (A (COND (B C) (T D))) (T E))")
else_of_both = refl

pub else_if : answer (codes "if a then b else if c then d;") ≡ form (codes "(COND (A B) (T (COND (C D))))")
else_if = refl

pub if_as_an_operand : answer (codes "1 + if a then b + c else d + e;") ≡ form (codes "(PLUS2 1 (COND (A (PLUS2 B C)) (T (PLUS2 D E))))")
if_as_an_operand = refl

pub assignment_in_a_branch : answer (codes "if a then b := c else d := e;") ≡ form (codes "(COND (A (SETQ B C)) (T (SETQ D E)))")
assignment_in_a_branch = refl

-- ---- groups

pub block : answer (codes "<< a; b >>;") ≡ form (codes "(PROGN A B)")
block = refl

pub empty_pieces : answer (codes "<< ; a;; b$ >>;") ≡ form (codes "(PROGN A B)")
empty_pieces = refl

pub empty_block : answer (codes "<< >>;") ≡ form (codes "(PROGN)")
empty_block = refl

pub block_of_one : answer (codes "<<a>>;") ≡ form (codes "(PROGN A)")
block_of_one = refl

pub label_in_a_block : answer (codes "<< a : b >>;") ≡ Refused 5
label_in_a_block = refl

pub prog : answer (codes "begin scalar x; l: f(); b() end;") ≡ form (codes "(PROG (X) L (F) (B))")
prog = refl

pub identifiers_as_pieces : answer (codes "begin x; (x); +x; nil end;") ≡ form (codes "(PROG NIL (PROGN X) (PROGN X) (PROGN X) (PROGN NIL))")
identifiers_as_pieces = refl

pub labels_of_a_piece : answer (codes "begin l: m: a := 1; n: end;") ≡ form (codes "(PROG NIL L M (SETQ A 1) N)")
labels_of_a_piece = refl

pub two_declarations : answer (codes "begin scalar x, y; scalar z; x := y . z end;") ≡ form (codes "(PROG (X Y Z) (SETQ X (CONS Y Z)))")
two_declarations = refl

pub empty_prog : answer (codes "begin end;") ≡ form (codes "(PROG NIL)")
empty_prog = refl

pub scalar_behind_a_piece : answer (codes "begin a; scalar x; b end;") ≡ Refused 9
scalar_behind_a_piece = refl

pub dollar_behind_scalar : answer (codes "begin scalar x$ a end;") ≡ Refused 14
dollar_behind_scalar = refl

pub return_of_nothing : answer (codes "begin return end;") ≡ form (codes "(PROG NIL (RETURN NIL))")
return_of_nothing = refl

pub return_before_a_separator : answer (codes "return;") ≡ form (codes "(RETURN NIL)")
return_before_a_separator = refl

pub return_of_a_difference : answer (codes "return - 3;") ≡ form (codes "(RETURN -3)")
return_of_a_difference = refl

pub return_before_equal : answer (codes "return = 3;") ≡ form (codes "(EQUAL (RETURN NIL) 3)")
return_before_equal = refl

pub return_of_a_sum : answer (codes "return a + b;") ≡ form (codes "(RETURN (PLUS2 A B))")
return_of_a_sum = refl

pub goes : answer (codes "begin go to l; go l; goto l; l: end;") ≡ form (codes "(PROG NIL (GO L) (GO L) (GO L) L)")
goes = refl

-- ---- loops

pub while_loop : answer (codes "while a do f();") ≡ form (codes "(PROG NIL !$LOOP (COND ((NOT A) (RETURN NIL))) (F) (GO !$LOOP))")
while_loop = refl

pub while_loop_of_a_name : answer (codes "while a do x;") ≡ form (codes "(PROG NIL !$LOOP (COND ((NOT A) (RETURN NIL))) (PROGN X) (GO !$LOOP))")
while_loop_of_a_name = refl

pub repeat_loop : answer (codes "repeat f() until a;") ≡ form (codes "(PROG NIL !$LOOP (F) (COND ((NOT A) (GO !$LOOP))))")
repeat_loop = refl

pub repeat_loop_of_a_name : answer (codes "repeat x until a or b;") ≡ form (codes "(PROG NIL !$LOOP (PROGN X) (COND ((NOT (OR A B)) (GO !$LOOP))))")
repeat_loop_of_a_name = refl

pub counting_loop : answer (codes "for i:=1:n do print i;") ≡ form (codes "((LAMBDA (I !$END) (PROG NIL !$LOOP (COND ((GREATERP I !$END) (RETURN NIL))) (PRINT I) (SETQ I (PLUS2 I 1)) (GO !$LOOP))) 1 N)")
counting_loop = refl

pub loop_over_a_list : answer (codes "for each x in l do print x;") ≡ form (codes "((LAMBDA (!$LIST) (PROG (X) !$LOOP (COND ((ATOM !$LIST) (RETURN NIL))) (SETQ X (CAR !$LIST)) (SETQ !$LIST (CDR !$LIST)) (PRINT X) (GO !$LOOP))) L)")
loop_over_a_list = refl

pub loop_over_a_list_of_a_name : answer (codes "foreach x in l do x;") ≡ form (codes "((LAMBDA (!$LIST) (PROG (X) !$LOOP (COND ((ATOM !$LIST) (RETURN NIL))) (SETQ X (CAR !$LIST)) (SETQ !$LIST (CDR !$LIST)) (PROGN X) (GO !$LOOP))) L)")
loop_over_a_list_of_a_name = refl

pub collecting_loop : answer (codes "for each x in l collect x;") ≡ form (codes "((LAMBDA (!$LIST) (PROG (X !$OUT) !$LOOP (COND ((ATOM !$LIST) (RETURN (REVERSE !$OUT)))) (SETQ X (CAR !$LIST)) (SETQ !$LIST (CDR !$LIST)) (SETQ !$OUT (CONS X !$OUT)) (GO !$LOOP))) L)")
collecting_loop = refl

pub joining_loop : answer (codes "foreach x in f l join g x;") ≡ form (codes "((LAMBDA (!$LIST) (PROG (X !$OUT) !$LOOP (COND ((ATOM !$LIST) (RETURN !$OUT))) (SETQ X (CAR !$LIST)) (SETQ !$LIST (CDR !$LIST)) (SETQ !$OUT (NCONC !$OUT (G X))) (GO !$LOOP))) (F L))")
joining_loop = refl

pub loop_in_a_loop : answer (codes "while a do repeat f() until b;") ≡ form (codes "(PROG NIL !$LOOP (COND ((NOT A) (RETURN NIL))) (PROG NIL !$LOOP (F) (COND ((NOT B) (GO !$LOOP)))) (GO !$LOOP))")
loop_in_a_loop = refl

pub collect_behind_while : answer (codes "while a collect b;") ≡ Refused 8
collect_behind_while = refl

-- ---- procedures and statements

pub procedure_of_two : answer (codes "procedure f(x,y); x+y;") ≡ form (codes "(DE F (X Y) (PLUS2 X Y))")
procedure_of_two = refl

pub procedure_of_one : answer (codes "symbolic procedure f x; x;") ≡ form (codes "(DE F (X) X)")
procedure_of_one = refl

pub procedure_of_none : answer (codes "lisp expr procedure f; 1;") ≡ form (codes "(DE F NIL 1)")
procedure_of_none = refl

pub procedure_of_none_listed : answer (codes "expr procedure f(); 1;") ≡ form (codes "(DE F NIL 1)")
procedure_of_none_listed = refl

pub fexpr_procedure : answer (codes "symbolic fexpr procedure q u; car u;") ≡ form (codes "(DF Q (U) (CAR U))")
fexpr_procedure = refl

pub macro_procedure : answer (codes "macro procedure m u; list('quote, cadr u);") ≡ form (codes "(DM M (U) (LIST (QUOTE QUOTE) (CADR U)))")
macro_procedure = refl

pub smacro_procedure : answer (codes "smacro procedure sq(x,y); x*y;") ≡ form (codes "(DM SQ (!$U) (SUBLIS (PAIR (QUOTE (X Y)) (CDR !$U)) (QUOTE (TIMES2 X Y))))")
smacro_procedure = refl

pub symbolic_expression : answer (codes "symbolic car x$") ≡ form (codes "(CAR X)")
symbolic_expression = refl

pub mode_alone : answer (codes "lisp;") ≡ form (codes "NIL")
mode_alone = refl

pub nothing : answer (codes " ;") ≡ Says IsEmpty
nothing = refl

pub end_of_a_file : answer (codes "end;") ≡ Says IsEnd
end_of_a_file = refl

pub files : answer (codes "in \"a.red\", \"b.red\" ,\"c\"$") ≡ Says (Reads (codes "a.red" ∷ codes "b.red" ∷ codes "c" ∷ []))
files = refl

pub dollar_behind_parameters : answer (codes "procedure f x$ x;") ≡ Refused 13
dollar_behind_parameters = refl

pub file_that_is_no_string : answer (codes "in a;") ≡ Refused 3
file_that_is_no_string = refl

pub mode_before_end : answer (codes "symbolic end;") ≡ Refused 9
mode_before_end = refl

-- ---- tokens

pub escaped_word : answer (codes "!if + !I!F + i!f;") ≡ form (codes "(PLUS2 (PLUS2 !if IF) I!f)")
escaped_word = refl

pub words_in_large_letters : answer (codes "IF a THEN b;") ≡ form (codes "(COND (A B))")
words_in_large_letters = refl

pub longer_name : answer (codes "iff := endx;") ≡ form (codes "(SETQ IFF ENDX)")
longer_name = refl

pub quote_before_everything : answer (codes "'a + '\"s\" . '12 - '(a . b) * '[1 2];") ≡ form (codes "(DIFFERENCE (PLUS2 (QUOTE A) (CONS (QUOTE \"s\") (QUOTE 12))) (TIMES2 (QUOTE (A . B)) (QUOTE [1 2])))")
quote_before_everything = refl

pub quote_of_a_special : answer (codes "f '+ ;") ≡ form (codes "(F (QUOTE !+))")
quote_of_a_special = refl

pub quote_and_a_blank : answer (codes "' %c\n a;") ≡ form (codes "(QUOTE A)")
quote_and_a_blank = refl

pub string_with_separators : answer (codes "f \"a;b$\"\"c\";") ≡ form (codes "(F \"a;b$\"\"c\")")
string_with_separators = refl

pub comments : answer (codes "%x;\n a %;\n + %+\n b;%c") ≡ form (codes "(PLUS2 A B)")
comments = refl

pub marks_without_blanks : answer (codes "a:=b**c.d>=e;") ≡ form (codes "(SETQ A (NOT (LESSP (EXPT B (CONS C D)) E)))")
marks_without_blanks = refl

pub blocks_behind_less : answer (codes "<<a< <<b>>>>;") ≡ form (codes "(PROGN (LESSP A (PROGN B)))")
blocks_behind_less = refl

pub longest_mark_first : answer (codes "<<a<<<b>>>>>;") ≡ Refused 5
longest_mark_first = refl

pub greatest_integer : answer (codes "576460752303423487;") ≡ form (codes "576460752303423487")
greatest_integer = refl

pub least_integer : answer (codes "-576460752303423487;") ≡ form (codes "-576460752303423487")
least_integer = refl

pub integer_past_the_greatest : answer (codes "a + 576460752303423488;") ≡ Refused 21
integer_past_the_greatest = refl

pub no_token : answer (codes "a + # b;") ≡ Refused 4
no_token = refl

pub bracket : answer (codes "[1];") ≡ Refused 0
bracket = refl

pub open_string : answer (codes "f \"abc;") ≡ Refused 7
open_string = refl

pub quote_of_a_parenthesis : answer (codes "a . ');") ≡ Refused 5
quote_of_a_parenthesis = refl

pub quote_of_an_open_list : answer (codes "'(a . b c);") ≡ Refused 8
quote_of_an_open_list = refl

pub escape_at_the_end : answer (codes "f a!") ≡ Refused 4
escape_at_the_end = refl

-- ---- where a text ends or is refused

pub empty_text : answer (codes "") ≡ Nothing
empty_text = refl

pub blanks_alone : answer (codes " %;\n ") ≡ Nothing
blanks_alone = refl

pub unfinished_block : answer (codes "<< 1; 2") ≡ Refused 7
unfinished_block = refl

pub unfinished_sum : answer (codes "1 +") ≡ Refused 3
unfinished_sum = refl

pub no_separator : answer (codes "a ") ≡ Refused 2
no_separator = refl

pub close_without_open : answer (codes "a);") ≡ Refused 1
close_without_open = refl

pub else_without_if : answer (codes "a else b;") ≡ Refused 2
else_without_if = refl

pub number_that_is_called : answer (codes "1(a);") ≡ Refused 1
number_that_is_called = refl

pub two_numbers : answer (codes "1 2;") ≡ Refused 2
two_numbers = refl

pub comma_alone : answer (codes "a, b;") ≡ Refused 1
comma_alone = refl

pub then_is_missing : answer (codes "if a; b;") ≡ Refused 4
then_is_missing = refl

pub do_is_missing : answer (codes "for i:=1:2 print i;") ≡ Refused 11
do_is_missing = refl

pub equal_in_place_of_assignment : answer (codes "for i = 1:2 do f();") ≡ Refused 6
equal_in_place_of_assignment = refl

pub integer_as_a_label : answer (codes "begin 1: a end;") ≡ Refused 7
integer_as_a_label = refl

-- ---- nesting

abbrev pub times : ℕ → List ℕ → List ℕ → List ℕ
times zero some rest = rest
times (suc n) some rest = some ++ times n some rest

-- the statement's own expr is one, and each parenthesis one more: 200 at the name
pub parentheses_199 : answer (times 199 (codes "(") (codes "a" ++ times 199 (codes ")") (codes ";"))) ≡ form (codes "A")
parentheses_199 = refl

-- and 200 at the last parenthesis, which is read; the name behind it is not
pub parentheses_200 : answer (times 200 (codes "(") (codes "a;")) ≡ Refused 200
parentheses_200 = refl

pub parentheses_201 : answer (times 201 (codes "(") (codes "a;")) ≡ Refused 200
parentheses_201 = refl

pub nots_200 : answer (times 200 (codes "not ") (codes "a;")) ≡ Refused 800
nots_200 = refl

pub powers_200 : answer (times 200 (codes "a**") (codes "a;")) ≡ Refused 600
powers_200 = refl

pub dots_200 : answer (times 200 (codes "a.") (codes "a;")) ≡ Refused 400
dots_200 = refl

pub assignments_200 : answer (times 200 (codes "a:=") (codes "a;")) ≡ Refused 600
assignments_200 = refl

pub calls_200 : answer (times 200 (codes "f ") (codes "a;")) ≡ Refused 400
calls_200 = refl

pub arguments_200 : answer (times 200 (codes "f(") (codes "a;")) ≡ Refused 400
arguments_200 = refl

pub blocks_200 : answer (times 200 (codes "<<") (codes "a;")) ≡ Refused 400
blocks_200 = refl

pub returns_200 : answer (times 200 (codes "return ") (codes "a;")) ≡ Refused 1400
returns_200 = refl

-- operators that group to the left do not nest
pub sums_300 : answer (times 300 (codes "a+") (codes "a)")) ≡ Refused 601
sums_300 = refl

-- a name where a piece may begin may be a label, which stands outside the piece
pub label_at_the_bound : answer (times 199 (codes "(") (codes "begin a:b;")) ≡ Refused 208
label_at_the_bound = refl

pub name_at_the_bound : answer (times 199 (codes "(") (codes "begin a;")) ≡ Refused 206
name_at_the_bound = refl

pub integer_at_the_bound : answer (times 199 (codes "(") (codes "begin 1;")) ≡ Refused 205
integer_at_the_bound = refl

-- ---- the longest statement

-- where a statement takes at most so many bytes
abbrev pub limited : ℕ → List ℕ → Answer
limited most bytes = answered bytes (read_source (suc (length bytes)) (drop most (behind_gap false bytes)) Start bytes)

pub as_long_as_may_be : limited 5 (codes "a+bc;") ≡ form (codes "(PLUS2 A BC)")
as_long_as_may_be = refl

pub separator_past_the_end : limited 4 (codes "a+bc;") ≡ Refused 4
separator_past_the_end = refl

pub name_across_the_end : limited 3 (codes "a+bc;") ≡ Refused 3
name_across_the_end = refl

pub misplaced_across_the_end : limited 3 (codes "a bc;") ≡ Refused 3
misplaced_across_the_end = refl

pub misplaced_before_the_end : limited 3 (codes "a)b;") ≡ Refused 1
misplaced_before_the_end = refl

pub blanks_across_the_end : limited 2 (codes "a   ;") ≡ Refused 2
blanks_across_the_end = refl

pub blanks_before_all : limited 2 (codes "  %c\n a;") ≡ form (codes "A")
blanks_before_all = refl

pub text_ends_past_the_end : limited 2 (codes "a  ") ≡ Refused 2
text_ends_past_the_end = refl

-- ---- a text that ends early

abbrev pub ends_there : ℕ → Answer → Bool
ends_there k (Refused j) = k == j
ends_there k (Says m) = false
ends_there k Nothing = true

-- each shorter front of the statement is refused where it ends, or nothing has begun in it
abbrev pub cut : ℕ → List ℕ → Bool
cut zero bytes = true
cut (suc k) bytes = ends_there k (answer (take k bytes)) && cut k bytes

abbrev pub cut_anywhere : List ℕ → Bool
cut_anywhere bytes = cut (length bytes) bytes

pub cut_sum : cut_anywhere (codes "a-b*(c+d);") ≡ true
cut_sum = refl

pub cut_call : cut_anywhere (codes "f(a,'(b . c));") ≡ true
cut_call = refl

pub cut_pieces : cut_anywhere (codes "begin a; b end;") ≡ true
cut_pieces = refl

pub cut_prog : cut_anywhere (codes "begin l: a end;") ≡ true
cut_prog = refl

pub cut_if : cut_anywhere (codes "if a then b else c;") ≡ true
cut_if = refl

pub cut_repeat : cut_anywhere (codes "repeat f until a;") ≡ true
cut_repeat = refl

pub cut_while : cut_anywhere (codes "while a do b;") ≡ true
cut_while = refl

pub cut_lambda : cut_anywhere (codes "lambda x; x;") ≡ true
cut_lambda = refl

pub cut_return : cut_anywhere (codes "return \"a;b\";") ≡ true
cut_return = refl

pub cut_comment : cut_anywhere (codes "%c\n a;") ≡ true
cut_comment = refl

pub cut_escapes : cut_anywhere (codes "!if + i!f;") ≡ true
cut_escapes = refl

pub cut_procedure : cut_anywhere (codes "symbolic procedure f(x,y); x.y;") ≡ true
cut_procedure = refl

pub cut_not : cut_anywhere (codes "not a and b;") ≡ true
cut_not = refl

pub cut_go : cut_anywhere (codes "go to l;") ≡ true
cut_go = refl

pub cut_integers : cut_anywhere (codes "1+23*456;") ≡ true
cut_integers = refl

pub cut_eq : cut_anywhere (codes "a eq b;") ≡ true
cut_eq = refl

pub cut_files : cut_anywhere (codes "in \"a\", \"b\";") ≡ true
cut_files = refl

pub cut_quotes : cut_anywhere (codes "''a.'[b (c)];") ≡ true
cut_quotes = refl

pub cut_block_in_call : cut_anywhere (codes "f <<a>b>>;") ≡ true
cut_block_in_call = refl

pub cut_power : cut_anywhere (codes "a**b;") ≡ true
cut_power = refl
