-- Statements within the bound of nesting, and where tokens cease to go on to one.
use Rattle.std.specs.Prelude.{◌≡◌, ℕ, suc, ◌<◌, ◌≤◌, true, nat_le, List, [], ◌++◌, length, take}
use Rattle.std.specs.List.{list_all}
use Rattle.rl_grammar.specs.Token.{Separator, Token}
use Rattle.rl_grammar.specs.Tree.{StatementBody}
use Rattle.rl_grammar.specs.Grammar.{IsStatement}
use Rattle.rl_grammar.specs.Nesting.{statement_nests, nesting_bound}

-- at no token is more unfinished than the bound allows
abbrev pub AllWithin : List ℕ → Type 0
AllWithin ns = list_all (λ n. nat_le n nesting_bound) ns ≡ true

-- some statement begins with these tokens, and at none of them is more unfinished than the bound
pub record BeginsWithin (ts : List Token) : Type 0 where
  pub more : List Token
  pub tree : StatementBody
  pub separator : Separator
  pub is : IsStatement (ts ++ more) tree separator []
  pub within : AllWithin (take (length ts) (statement_nests tree))

-- the tokens begin with no statement within the bound; some statement begins with the first k and is within the bound at them, and none with one more
pub record IsRefusedWithin (ts : List Token) (k : ℕ) : Type 0 where
  pub none : (a : StatementBody) (s : Separator) (rest : List Token) → IsStatement ts a s rest → AllWithin (statement_nests a) → ⊥
  pub within : k ≤ length ts
  pub begins : BeginsWithin (take k ts)
  pub stops : k < length ts → BeginsWithin (take (suc k) ts) → ⊥
