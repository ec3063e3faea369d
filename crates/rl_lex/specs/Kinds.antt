-- The kind of a token: all of it but its name, its number, its bytes or its datum.
use Rattle.std.specs.Prelude.{if◌then◌else◌, List, [], ◌∷◌, Option, Some, None}
use Rattle.rl_tree.specs.Name.{Name}
use Rattle.rl_grammar.specs.Token as token
use Rattle.rl_grammar.specs.Written.{same_name}
use Rattle.rl_lex.specs.declared.kind.Operator.{Operator}
use Rattle.rl_lex.specs.declared.kind.Operator.TheVariants as the_operator
use Rattle.rl_lex.specs.declared.kind.Worded.{Worded}
use Rattle.rl_lex.specs.declared.kind.Worded.TheVariants as the_worded
use Rattle.rl_lex.specs.declared.kind.Separator.{Separator}
use Rattle.rl_lex.specs.declared.kind.Separator.TheVariants as the_separator
use Rattle.rl_lex.specs.declared.kind.Way.{Way}
use Rattle.rl_lex.specs.declared.kind.Way.TheVariants as the_way
use Rattle.rl_lex.specs.declared.kind.ModeWord.{ModeWord}
use Rattle.rl_lex.specs.declared.kind.ModeWord.TheVariants as the_modeword
use Rattle.rl_lex.specs.declared.kind.KindWord.{KindWord}
use Rattle.rl_lex.specs.declared.kind.KindWord.TheVariants as the_kindword
use Rattle.rl_lex.specs.declared.kind.TokenKind.{TokenKind}
use Rattle.rl_lex.specs.declared.kind.TokenKind.TheVariants as the_tokenkind

abbrev pub operator_kind : token.Operator → Operator
operator_kind token.Or = the_operator.Or
operator_kind token.And = the_operator.And
operator_kind token.Equal = the_operator.Equal
operator_kind token.Unequal = the_operator.Unequal
operator_kind token.AtLeast = the_operator.AtLeast
operator_kind token.Greater = the_operator.Greater
operator_kind token.AtMost = the_operator.AtMost
operator_kind token.Less = the_operator.Less
operator_kind token.Plus = the_operator.Plus
operator_kind token.Minus = the_operator.Minus
operator_kind token.Times = the_operator.Times
operator_kind token.Divide = the_operator.Divide

abbrev pub worded_kind : token.Worded → Worded
worded_kind token.Eq = the_worded.Eq
worded_kind token.Member = the_worded.Member
worded_kind token.Memq = the_worded.Memq

abbrev pub separator_kind : token.Separator → Separator
separator_kind token.Semicolon = the_separator.Semicolon
separator_kind token.Dollar = the_separator.Dollar

abbrev pub way_kind : token.Way → Way
way_kind token.Do = the_way.Do
way_kind token.Collect = the_way.Collect
way_kind token.Join = the_way.Join

abbrev pub mode_word_kind : token.ModeWord → ModeWord
mode_word_kind token.Symbolic = the_modeword.Symbolic
mode_word_kind token.Lisp = the_modeword.Lisp

abbrev pub kind_word_kind : token.KindWord → KindWord
kind_word_kind token.Expr = the_kindword.Expr
kind_word_kind token.Fexpr = the_kindword.Fexpr
kind_word_kind token.Macro = the_kindword.Macro
kind_word_kind token.Smacro = the_kindword.Smacro

abbrev pub kind_of_token : token.Token → TokenKind
kind_of_token (token.Mode x) = the_tokenkind.Mode (mode_word_kind x)
kind_of_token (token.Kind x) = the_tokenkind.Kind (kind_word_kind x)
kind_of_token token.Procedure = the_tokenkind.Procedure
kind_of_token (token.Identifier x) = the_tokenkind.Identifier
kind_of_token (token.Integer x) = the_tokenkind.Integer
kind_of_token (token.String x) = the_tokenkind.String
kind_of_token (token.Quoted x) = the_tokenkind.Quoted
kind_of_token (token.Infix x) = the_tokenkind.Infix (operator_kind x)
kind_of_token (token.Word x) = the_tokenkind.Word (worded_kind x)
kind_of_token token.Power = the_tokenkind.Power
kind_of_token token.Dot = the_tokenkind.Dot
kind_of_token token.Not = the_tokenkind.Not
kind_of_token token.Assign = the_tokenkind.Assign
kind_of_token token.Open = the_tokenkind.Open
kind_of_token token.Close = the_tokenkind.Close
kind_of_token token.Comma = the_tokenkind.Comma
kind_of_token token.Colon = the_tokenkind.Colon
kind_of_token token.If = the_tokenkind.If
kind_of_token token.Then = the_tokenkind.Then
kind_of_token token.Else = the_tokenkind.Else
kind_of_token token.While = the_tokenkind.While
kind_of_token token.Repeat = the_tokenkind.Repeat
kind_of_token token.Until = the_tokenkind.Until
kind_of_token token.For = the_tokenkind.For
kind_of_token token.Each = the_tokenkind.Each
kind_of_token token.Foreach = the_tokenkind.Foreach
kind_of_token token.In = the_tokenkind.In
kind_of_token (token.Does x) = the_tokenkind.Does (way_kind x)
kind_of_token token.OpenBlock = the_tokenkind.OpenBlock
kind_of_token token.CloseBlock = the_tokenkind.CloseBlock
kind_of_token (token.Separating x) = the_tokenkind.Separating (separator_kind x)
kind_of_token token.Begin = the_tokenkind.Begin
kind_of_token token.End = the_tokenkind.End
kind_of_token token.Scalar = the_tokenkind.Scalar
kind_of_token token.Return = the_tokenkind.Return
kind_of_token token.Go = the_tokenkind.Go
kind_of_token token.To = the_tokenkind.To
kind_of_token token.Goto = the_tokenkind.Goto
kind_of_token token.Lambda = the_tokenkind.Lambda

-- the kind of the word that the name is, of these; None where it is none of them
abbrev pub kind_among : List (Name × token.Token) → Name → Option TokenKind
kind_among [] name = None
kind_among (row ∷ rows) name = if same_name name row.0 then Some (kind_of_token row.1) else kind_among rows name
