-- What the grammar asks of a token that its kind tells.
use Rattle.std.specs.Prelude.{ℕ, Bool, true, false, nat_le}
use Rattle.rl_lex.specs.declared.kind.Operator.{Operator}
use Rattle.rl_lex.specs.declared.kind.Operator.TheVariants.{Or, And, Plus, Minus, Times, Divide}
use Rattle.rl_lex.specs.declared.kind.TokenKind.{TokenKind}
use Rattle.rl_lex.specs.declared.kind.TokenKind.TheVariants.{Identifier, Integer, String, Quoted, Infix, Word, Power, Dot, Not, Open, Colon, If, Else, While, Repeat, For, Foreach, OpenBlock, Begin, Return, Go, Goto, Lambda}

abbrev pub level_of_operator : Operator → ℕ
level_of_operator Or = 1
level_of_operator And = 2
level_of_operator Plus = 5
level_of_operator Minus = 5
level_of_operator Times = 6
level_of_operator Divide = 6
level_of_operator o = 4

-- an operand of this level goes on with the token
abbrev pub kind_goes : ℕ → TokenKind → Bool
kind_goes n (Infix o) = nat_le n (level_of_operator o)
kind_goes n (Word w) = nat_le n 4
kind_goes n Power = nat_le n 7
kind_goes n Dot = nat_le n 8
kind_goes n k = false

abbrev pub kind_is_else : TokenKind → Bool
kind_is_else Else = true
kind_is_else k = false

abbrev pub kind_is_colon : TokenKind → Bool
kind_is_colon Colon = true
kind_is_colon k = false

-- a prim that does not begin with `(`, and is no word of the three, begins with the token
abbrev pub kind_begins_phrase : TokenKind → Bool
kind_begins_phrase Identifier = true
kind_begins_phrase Integer = true
kind_begins_phrase String = true
kind_begins_phrase Quoted = true
kind_begins_phrase If = true
kind_begins_phrase While = true
kind_begins_phrase Repeat = true
kind_begins_phrase For = true
kind_begins_phrase Foreach = true
kind_begins_phrase OpenBlock = true
kind_begins_phrase Begin = true
kind_begins_phrase Return = true
kind_begins_phrase Go = true
kind_begins_phrase Goto = true
kind_begins_phrase Lambda = true
kind_begins_phrase k = false

-- an expr begins with the token
abbrev pub kind_begins : TokenKind → Bool
kind_begins (Word w) = true
kind_begins Open = true
kind_begins Not = true
kind_begins (Infix Plus) = true
kind_begins (Infix Minus) = true
kind_begins k = kind_begins_phrase k
