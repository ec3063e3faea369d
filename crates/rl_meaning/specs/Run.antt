-- The meaning of a run of `sl`: the forms of the source are read and evaluated in turn (this project's skipping behind an unreadable text).
use Rattle.std.specs.Prelude.{ℕ, zero, suc, ◌-◌, ◌==◌, min, ◌^◌, decimal, codes, false, if◌then◌else◌, List, [], ◌∷◌, length, take, Option, Some, None}
use Rattle.rl_tree.specs.Value.{Value}
use Rattle.rl_tree.specs.Name.{Name}
use Rattle.rl_tree.specs.Printing.{with_atom}
use Rattle.rl_meaning.specs.State.{State, Function, HeldFunction, Files}
use Rattle.rl_meaning.specs.Outcome.{Outcome, Done, Failed, Went, Returned, Stopped, Stop, Missing, then_do, Levels}
use Rattle.rl_meaning.specs.Symbols.{nil_value_of_state}
use Rattle.rl_tree.specs.ErrorTexts.{error_text}
use Rattle.rl_meaning.specs.Errors.{unreadable}
use Rattle.rl_meaning.specs.Holding.{hold_form, pointer_to, function_at}
use Rattle.rl_meaning.specs.Printing.{page_of, with_page, print_mark, print_end_of_line, fresh_line, print_error}
use Rattle.rl_meaning.specs.Input.{FormReading, Form, End, Unreadable, read_bytes}
use Rattle.rl_meaning.specs.Evaluation.{longest_chain}
use Rattle.rl_meaning.specs.Jobs.{evaluate}
use Rattle.rl_meaning.specs.Opening.{opened_state}

-- the bounds of a run, and the levels that the expansions of its verdicts have; no number of cells, and no levels, is no bound
pub record Limits : Type 0 where
  pub turns : ℕ
  pub cells : Option ℕ
  pub levels : Levels
  pub verdicts : Levels

-- the source was read to its end, or the run stopped
pub data RunEnding : Type 0 where
  Finished : RunEnding
  Stops : Stop → RunEnding

-- how a run ended, and the state then
pub record Ran : Type 0 where
  pub ending : RunEnding
  pub state : State

-- ---- a statement

abbrev pub held_evaluated : Levels → ℕ → Function → State → Outcome Value
held_evaluated levels f (HeldFunction held) s = evaluate (record { levels = levels; chain = longest_chain; kept = held.kept; holder = f }) held.body s
held_evaluated levels f other s = Done nil_value_of_state s

abbrev pub statement : Levels → Value → State → Outcome Value
statement levels v s = then_do (hold_form levels v s) (λ f s. held_evaluated levels f (function_at s (pointer_to f)) s)

-- an error that no ERRORSET takes ends its statement, and its text is printed
abbrev pub after_statement : Levels → Outcome Value → Outcome (Unit {0})
after_statement levels (Done v s) = Done tt s
after_statement levels (Failed n m s) = print_error levels m s
after_statement levels (Went l s) = Done tt s
after_statement levels (Returned v s) = Done tt s
after_statement levels (Stopped why s) = Stopped why s

-- ---- an unreadable text

abbrev pub print_atom : List ℕ → State → State
print_atom bytes s = with_page (with_atom s.outside.line_length (page_of s) bytes) s

-- the text of error 23; no object is made for it, and no turn is taken
abbrev pub print_unreadable : ℕ → State → State
print_unreadable k s =
    print_end_of_line (print_atom (error_text unreadable) (print_mark (32 ∷ []) (print_atom (decimal (min k (2 ^ 59 - 1))) (print_mark (codes "***** ") (fresh_line s)))))

-- what stands behind the first end of line
abbrev pub behind_line : List ℕ → List ℕ
behind_line [] = []
behind_line (b ∷ bs) = if b == 10 then bs else behind_line bs

-- ---- all statements

abbrev pub run_goes_on : {A : Type 0} → Outcome A → (A → State → Ran) → Ran
run_goes_on (Done a s) next = next a s
run_goes_on (Failed n m s) next = record { ending = Finished; state = s }
run_goes_on (Went l s) next = record { ending = Finished; state = s }
run_goes_on (Returned v s) next = record { ending = Finished; state = s }
run_goes_on (Stopped why s) next = record { ending = Stops why; state = s }

abbrev pub read_and_run : Levels → ℕ → (List ℕ → State → Ran) → FormReading → State → Ran
read_and_run levels size further (Form v rest) s = run_goes_on (after_statement levels (statement levels v s)) (λ done s. further rest s)
read_and_run levels size further End s = record { ending = Finished; state = s }
read_and_run levels size further (Unreadable k from) s = further (behind_line from) (print_unreadable (size - length from) s)

-- the statements of these bytes, of which there are at most n, of a source of this size
abbrev pub run_within : ℕ → Levels → ℕ → List ℕ → State → Ran
run_within zero levels size bytes s = record { ending = Finished; state = s }
run_within (suc n) levels size bytes s =
    run_goes_on (read_bytes false levels bytes s) (λ reading s. read_and_run levels size (λ rest s. run_within n levels size rest s) reading s)

abbrev pub run_bytes : Levels → List ℕ → State → Ran
run_bytes levels bytes s = run_within (suc (length bytes)) levels (length bytes) bytes s

-- the state in which a run with these bounds, over these files and this input, begins
abbrev pub started : Limits → Files → List ℕ → State → State
started limits files input s = record s {
  counts = record { given = limits.turns; turns = limits.turns; cells = limits.cells; expansion = None };
  outside = record s.outside { files = files; input = input };
  compilation = record s.compilation { levels = limits.verdicts };
}

-- the bytes of a file that are its source: no more are read
abbrev pub source_of : List ℕ → List ℕ
source_of file = take (2 ^ 32) file

-- a run over a file, or over none
abbrev pub run_file : Levels → Name → Option (List ℕ) → State → Ran
run_file levels name (Some file) s = run_bytes levels (source_of file) s
run_file levels name None s = record { ending = Stops (Missing name); state = s }

-- what a run over the file of this name comes to
abbrev pub meaning : Limits → Name → Files → List ℕ → Ran
meaning limits name files input = run_file limits.levels name (files name) (started limits files input opened_state)
