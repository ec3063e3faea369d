-- What the number of a status says of the status.
use Rattle.std.proofs.Common.{◌≡◌, ◌≢◌, ◌⊎◌, ℕ, true, List, Option, Some, None, IfSome, refl, sym, ap, ◌∙◌, inl, inr}
use Rattle.rl_tree.specs.Command.{CommandWord, IsCommand}
use Rattle.rl_forms.specs.Meaning.{FileOutcome, Finished, file_meaning}
use Rattle.rl_forms.specs.Meaning as meaning
use Rattle.rlisp.specs.Status.{status_number, outcome_told, outcome_number, is_silent}
use Rattle.rlisp.specs.Headline.{Folder, OfFile, Agrees, NumberAgrees}
use Rattle.rlisp.specs.declared.status.Status.{Status}
use Rattle.rlisp.specs.declared.status.Status.TheVariants.{Done, Usage, Missing, WriteFault, FileFault, OutOfMemory, Unbuilt}

pub is_done : (s : Status) → status_number s ≡ 0 → s ≡ Done
is_done Done e = refl
is_done (Usage word) e = cc
is_done (Missing name) e = cc
is_done WriteFault e = cc
is_done FileFault e = cc
is_done OutOfMemory e = cc
is_done Unbuilt e = cc

pub is_usage : (s : Status) → status_number s ≡ 2 → (word : ℕ) × (s ≡ Usage word)
is_usage Done e = cc
is_usage (Usage word) e = (word, refl)
is_usage (Missing name) e = cc
is_usage WriteFault e = cc
is_usage FileFault e = cc
is_usage OutOfMemory e = cc
is_usage Unbuilt e = cc

pub is_missing : (s : Status) → status_number s ≡ 3 → (name : List ℕ) × (s ≡ Missing name)
is_missing Done e = cc
is_missing (Usage word) e = cc
is_missing (Missing name) e = (name, refl)
is_missing WriteFault e = cc
is_missing FileFault e = cc
is_missing OutOfMemory e = cc
is_missing Unbuilt e = cc

pub is_write_fault : (s : Status) → status_number s ≡ 5 → s ≡ WriteFault
is_write_fault Done e = cc
is_write_fault (Usage word) e = cc
is_write_fault (Missing name) e = cc
is_write_fault WriteFault e = refl
is_write_fault FileFault e = cc
is_write_fault OutOfMemory e = cc
is_write_fault Unbuilt e = cc

pub is_file_fault : (s : Status) → status_number s ≡ 6 → s ≡ FileFault
is_file_fault Done e = cc
is_file_fault (Usage word) e = cc
is_file_fault (Missing name) e = cc
is_file_fault WriteFault e = cc
is_file_fault FileFault e = refl
is_file_fault OutOfMemory e = cc
is_file_fault Unbuilt e = cc

pub is_unbuilt : (s : Status) → status_number s ≡ 13 → s ≡ Unbuilt
is_unbuilt Done e = cc
is_unbuilt (Usage word) e = cc
is_unbuilt (Missing name) e = cc
is_unbuilt WriteFault e = cc
is_unbuilt FileFault e = cc
is_unbuilt OutOfMemory e = cc
is_unbuilt Unbuilt e = refl

-- no other number says that something may have been printed
pub silent_by : (s : Status) → status_number s ≢ 0 → status_number s ≢ 5 → status_number s ≢ 12 → is_silent s ≡ true
silent_by Done a b c = absurd (a refl)
silent_by (Usage word) a b c = refl
silent_by (Missing name) a b c = refl
silent_by WriteFault a b c = absurd (b refl)
silent_by FileFault a b c = refl
silent_by OutOfMemory a b c = absurd (c refl)
silent_by Unbuilt a b c = refl

told_number : (s : Status) (o : FileOutcome) → outcome_told s ≡ Some o → status_number s ≡ outcome_number o
told_number Done o e = let same : Finished ≡ o = cc in ap outcome_number same
told_number (Usage word) o e = cc
told_number (Missing name) o e = let same : meaning.Missing ≡ o = cc in ap outcome_number same
told_number WriteFault o e = cc
told_number FileFault o e = cc
told_number OutOfMemory o e = cc
told_number Unbuilt o e = let same : meaning.Unbuilt ≡ o = cc in ap outcome_number same

agrees : (s : Status) (file : Option (List ℕ)) → Agrees s file → NumberAgrees (status_number s) file
agrees s file (inl h) = inl (told_number s (file_meaning file).outcome h)
agrees s file (inr h) = inr (ap status_number h)

agrees_told : (folder : Option Folder) (path : CommandWord) (s : Status) → IfSome folder (λ file_of. Agrees s (file_of path)) → IfSome folder (λ file_of. NumberAgrees (status_number s) (file_of path))
agrees_told None path s h = tt
agrees_told (Some file_of) path s h = agrees s (file_of path) h

pub all_agree : (words : List CommandWord) (folder : Option Folder) (s : Status) → OfFile words folder (Agrees s) → OfFile words folder (NumberAgrees (status_number s))
all_agree words folder s h = λ path command. agrees_told folder path s (h path command)
