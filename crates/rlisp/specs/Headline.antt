-- What the status of a run says of the file that the words name, against the meaning of that file.
use Rattle.std.specs.Prelude.{◌≡◌, ◌⊎◌, ℕ, List, Option, Some, None, IfSome}
use Rattle.rl_tree.specs.Command.{CommandWord, IsCommand}
use Rattle.rl_forms.specs.Meaning.{file_meaning}
use Rattle.rlisp.specs.Status.{outcome_told, outcome_number}
use Rattle.rlisp.specs.declared.status.Status.{Status}
use Rattle.rlisp.specs.declared.status.Status.TheVariants.{OutOfMemory}

-- the file of each name, where there is one
abbrev pub Folder : Type 0
Folder = List ℕ → Option (List ℕ)

-- where the words are a command and the folder is told, this holds of the file that the command names, or of there being none
abbrev pub OfFile : List CommandWord → Option Folder → (Option (List ℕ) → Type 0) → Type 0
OfFile words folder P = (path : CommandWord) → IsCommand words path → IfSome folder (λ file_of. P (file_of path))

-- the words name this file, and where the folder is told it has none of that name
abbrev pub NamesNoFile : List CommandWord → Option Folder → List ℕ → Type 0
NamesNoFile words folder name = IsCommand words name × IfSome folder (λ file_of. file_of name ≡ None)

-- the status is that of the meaning, or there was no memory
abbrev pub Agrees : Status → Option (List ℕ) → Type 0
Agrees status file = (outcome_told status ≡ Some (file_meaning file).outcome) ⊎ (status ≡ OutOfMemory)

-- the same of the status's number
abbrev pub NumberAgrees : ℕ → Option (List ℕ) → Type 0
NumberAgrees number file = (number ≡ outcome_number (file_meaning file).outcome) ⊎ (number ≡ 12)
