-- Leaving by GO or RETURN: which outcomes do not, and which jobs may (this project's).
use Rattle.std.specs.Prelude.{Bool, true, false}
use Rattle.rl_meaning.specs.Outcome.{Outcome, Done, Failed, Went, Returned, Stopped}
use Rattle.rl_meaning.specs.Evaluation.{Job, Statement, In}

-- a value, an error or a stop
abbrev pub IsNoTransfer : {A : Type 0} → Outcome A → Type 0
IsNoTransfer (Done a s) = Unit {0}
IsNoTransfer (Failed n m s) = Unit {0}
IsNoTransfer (Went l s) = ⊥
IsNoTransfer (Returned v s) = ⊥
IsNoTransfer (Stopped why s) = Unit {0}

-- a statement of a PROG
abbrev pub is_statement : Job → Bool
is_statement (In here Statement form) = true
is_statement other = false
