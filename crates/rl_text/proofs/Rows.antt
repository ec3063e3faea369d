-- Texts, what they spell and what is printed of it, tried on examples: each side computes to the other.
use Rattle.std.proofs.Common.{◌≡◌, ℕ, pos, negsuc, List, [], refl}
use Rattle.std.specs.Fmt.{digits}
use Rattle.std.specs.Prelude.{codes}
use Rattle.rl_tree.specs.Atoms.{Prin1, Prin2}
use Rattle.rl_tree.specs.Printing.{Page}
use Rattle.rl_text.specs.Datum.{Datum, Int, Id, Str, Pair, Vector, NoElements, Element, nil, quoted}
use Rattle.rl_text.specs.Printed.{with_datum}
use Rattle.rl_text.specs.Reading.{Found, NoText, Unreadable, reading}

pub ends_behind_the_dot : reading (codes "(a . ") ≡ Unreadable 5
ends_behind_the_dot = refl

pub only_a_comment : reading (codes "%x") ≡ NoText
only_a_comment = refl

pub closes_nothing : reading (codes ")") ≡ Unreadable 0
closes_nothing = refl

pub a_name_and_more : reading (codes " ab c") ≡ Found (Id (codes "AB")) (codes " c")
a_name_and_more = refl

pub a_vector : reading (codes "[1 \"a\"\"b\" (x . !y)]") ≡ Found (Vector (Element (Int (pos 1)) (Element (Str (codes "a\"b")) (Element (Pair (Id (codes "X")) (Id (codes "y"))) NoElements)))) []
a_vector = refl

pub a_quote_and_a_dot : reading (codes "'(a . 'b)") ≡ Found (quoted (Pair (Id (codes "A")) (quoted (Id (codes "B"))))) []
a_quote_and_a_dot = refl

-- a list behind a dot is the rest of the list
pub a_list_behind_a_dot : reading (codes "(a . (b . (c)))d") ≡ Found (Pair (Id (codes "A")) (Pair (Id (codes "B")) (Pair (Id (codes "C")) nil))) (codes "d")
a_list_behind_a_dot = refl

pub nothing_behind_a_dot : reading (codes "(a .)") ≡ Unreadable 4
nothing_behind_a_dot = refl

pub two_behind_a_dot : reading (codes "(a . b c)") ≡ Unreadable 7
two_behind_a_dot = refl

pub no_list_yet : reading (codes "( . a)") ≡ Unreadable 2
no_list_yet = refl

pub a_vector_behind_a_dot : reading (codes "(a . [ ] )") ≡ Found (Pair (Id (codes "A")) (Vector NoElements)) []
a_vector_behind_a_dot = refl

pub signs : reading (codes "(+ - +5 -5 +a)") ≡ Found (Pair (Id (codes "+")) (Pair (Id (codes "-")) (Pair (Int (pos 5)) (Pair (Int (negsuc 4)) (Pair (Id (codes "+")) (Pair (Id (codes "A")) nil)))))) []
signs = refl

pub greatest : reading (codes "576460752303423487") ≡ Found (Int (pos 576460752303423487)) []
greatest = refl

pub past_the_greatest : reading (codes "576460752303423488") ≡ Unreadable 17
past_the_greatest = refl

pub least : reading (codes "-576460752303423488") ≡ Found (Int (negsuc 576460752303423487)) []
least = refl

pub an_escape_at_the_end : reading (codes "a!") ≡ Unreadable 2
an_escape_at_the_end = refl

pub escaped_bytes : reading (codes "!a!+b_!!") ≡ Found (Id (codes "a+B_!")) []
escaped_bytes = refl

pub a_string_that_is_open : reading (codes "\"ab") ≡ Unreadable 3
a_string_that_is_open = refl

pub comments_between : reading (codes "%c\n ( %d)\n a . %)\n b )") ≡ Found (Pair (Id (codes "A")) (Id (codes "B"))) []
comments_between = refl

pub a_comment_that_ends_the_text : reading (codes "(%)") ≡ Unreadable 3
a_comment_that_ends_the_text = refl

-- ---- what is printed

abbrev page : List ℕ → ℕ → Page
page text column = record { text = text; column = column }

-- `(A b . "a"c")`, in which b is an identifier of a small letter and the string has a quote
abbrev dotted : Datum
dotted = Pair (Id (codes "A")) (Pair (Id (codes "b")) (Str (codes "a\"c")))

pub prints_dotted : with_datum Prin1 80 dotted (page [] 0) ≡ page (codes "(A !b . \"a\"\"c\")") 15
prints_dotted = refl

-- by PRIN2 names and strings stand bare
pub prints_dotted_bare : with_datum Prin2 80 dotted (page [] 0) ≡ page (codes "(A b . a\"c)") 11
prints_dotted_bare = refl

-- a list that ends in NIL, in a vector, and NIL as an element
pub prints_nested : with_datum Prin1 80 (Vector (Element (Vector NoElements) (Element (Pair nil nil) (Element (Vector (Element (Int (negsuc 4)) NoElements)) NoElements)))) (page (codes "> ") 2) ≡ page (codes "> [[] (NIL) [-5]]") 17
unfolding digits
prints_nested = refl

-- a vector behind a dot
pub prints_vector_behind_a_dot : with_datum Prin1 80 (Pair (Int (pos 1)) (Vector (Element (Id (codes "A")) (Element (Id (codes "B")) NoElements)))) (page [] 0) ≡ page (codes "(1 . [A B])") 11
unfolding digits
prints_vector_behind_a_dot = refl

-- the second atom would pass column 80 and begins a line; marks do not
pub prints_past_the_line : with_datum Prin1 80 (Pair (Id (codes "AB")) (Pair (Id (codes "CD")) nil)) (page [] 76) ≡ page (codes "(AB \nCD)") 3
prints_past_the_line = refl

-- what fills the line stands on it, and by PRIN1 the `!` count
pub prints_up_to_the_line : with_datum Prin2 80 (Pair (Id (codes "a")) nil) (page [] 78) ≡ page (codes "(a)") 81
prints_up_to_the_line = refl

pub prints_escaped_past_the_line : with_datum Prin1 80 (Pair (Id (codes "a")) nil) (page [] 78) ≡ page (codes "(\n!a)") 3
prints_escaped_past_the_line = refl
