-- The tokens of RLISP (the syntax of REDUCE), as its grammar sees them.
use Rattle.std.specs.Prelude.{ℕ, List}
use Rattle.rl_tree.specs.Name.{Name}
use Rattle.rl_text.specs.Datum.{Datum}

-- the operators that group to the left, and are never identifiers
pub data Operator : Type 0 where
  Or : Operator
  And : Operator
  Equal : Operator
  Unequal : Operator
  AtLeast : Operator
  Greater : Operator
  AtMost : Operator
  Less : Operator
  Plus : Operator
  Minus : Operator
  Times : Operator
  Divide : Operator

-- the words that are operators, or identifiers where an operand must stand
pub data Worded : Type 0 where
  Eq : Worded
  Member : Worded
  Memq : Worded

-- `;` and `$`
pub data Separator : Type 0 where
  Semicolon : Separator
  Dollar : Separator

-- what `for each` does with each element
pub data Way : Type 0 where
  Do : Way
  Collect : Way
  Join : Way

pub data ModeWord : Type 0 where
  Symbolic : ModeWord
  Lisp : ModeWord

pub data KindWord : Type 0 where
  Expr : KindWord
  Fexpr : KindWord
  Macro : KindWord
  Smacro : KindWord

pub data Token : Type 0 where
  Mode : ModeWord → Token
  Kind : KindWord → Token
  Procedure : Token
  -- by its name; a word that has no meaning of its own, or is written with `!`
  Identifier : Name → Token
  -- without a sign
  Integer : ℕ → Token
  -- by its bytes
  String : List ℕ → Token
  -- `'` and a spelling of this
  Quoted : Datum → Token
  Infix : Operator → Token
  Word : Worded → Token
  -- `**`
  Power : Token
  Dot : Token
  Not : Token
  -- `:=`
  Assign : Token
  Open : Token
  Close : Token
  Comma : Token
  Colon : Token
  If : Token
  Then : Token
  Else : Token
  While : Token
  Repeat : Token
  Until : Token
  For : Token
  Each : Token
  Foreach : Token
  In : Token
  Does : Way → Token
  -- `<<` and `>>`
  OpenBlock : Token
  CloseBlock : Token
  Separating : Separator → Token
  Begin : Token
  End : Token
  Scalar : Token
  Return : Token
  Go : Token
  To : Token
  Goto : Token
  Lambda : Token
