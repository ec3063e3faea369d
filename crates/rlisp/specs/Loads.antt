-- What loading a file answers.
use Rattle.std.specs.Prelude.{◌≡◌, ℕ, ◌<◌, ◌≤◌, List, length, Option, Some, None}
use Rattle.rl_io.specs.Faults.{Rose}
use Rattle.rl_forms.specs.Meaning.{longest_file}
use Rattle.rlisp.specs.declared.source.Loaded.{Loaded}
use Rattle.rlisp.specs.declared.source.Loaded.TheVariants.{File, Long, Missing, Fault, OutOfMemory}

-- of a file, or of no file
abbrev pub Loads : Option (List ℕ) → Loaded → Type 0
Loads file (File bytes) = file ≡ Some bytes.items
Loads None Long = ⊥
Loads (Some bytes) Long = longest_file < length bytes
Loads file Missing = file ≡ None
Loads file Fault = Unit {0}
Loads file OutOfMemory = Unit {0}

-- only a file that is not too long is handed out
abbrev pub IsShortFile : Loaded → Type 0
IsShortFile (File bytes) = length bytes.items ≤ longest_file
IsShortFile Long = Unit {0}
IsShortFile Missing = Unit {0}
IsShortFile Fault = Unit {0}
IsShortFile OutOfMemory = Unit {0}

-- the count of faults rose for a fault, and stayed for any other answer
abbrev pub FaultsCounted : ℕ → ℕ → Loaded → Type 0
FaultsCounted before now Fault = Rose before now
FaultsCounted before now (File bytes) = now ≡ before
FaultsCounted before now Long = now ≡ before
FaultsCounted before now Missing = now ≡ before
FaultsCounted before now OutOfMemory = now ≡ before
