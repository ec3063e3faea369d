-- The meaning of a run of `sl`: the forms of the file are evaluated in turn, on an empty page.
use Rattle.std.specs.Prelude.{true, ◌≡◌, ◌⊎◌, ℕ, zero, suc, ◌<◌, nat_lt, if◌then◌else◌, List, [], ◌∷◌, length, Option, Some, None, option_map}
use Rattle.std.specs.List.{list_all}
use Rattle.rl_tree.specs.Printing.{Page}
use Rattle.rl_text.specs.Datum.{Datum}
use Rattle.rl_text.specs.Gap.{IsBlankText}
use Rattle.rl_text.specs.Spelling.{IsSpelled}
use Rattle.rl_text.specs.Reading.{Reading, Found, NoText, Unreadable, reading}
use Rattle.rl_forms.specs.BuiltForms.{is_built, page_after}

-- ---- the forms of a file

-- the bytes spell these data, one after another, and then nothing but blanks and comments
abbrev pub AreSpelled : List Datum → List ℕ → Type 0
AreSpelled [] bytes = IsBlankText bytes
AreSpelled (datum ∷ more) bytes = (rest : List ℕ) × IsSpelled bytes datum rest × AreSpelled more rest

abbrev pub data_after : (List ℕ → Option (List Datum)) → Reading → Option (List Datum)
data_after further (Found datum rest) = option_map (λ more. datum ∷ more) (further rest)
data_after further NoText = Some []
data_after further (Unreadable k) = None

-- the data of bytes, of which there are at most n
abbrev pub data_within : ℕ → List ℕ → Option (List Datum)
data_within zero bytes = data_after (λ rest. None) (reading bytes)
data_within (suc n) bytes = data_after (λ rest. data_within n rest) (reading bytes)

-- the data that the bytes spell; None where they spell none
abbrev pub data_in : List ℕ → Option (List Datum)
data_in bytes = data_within (length bytes) bytes

-- ---- a run

-- the source was read to its end; there is no such file; or it has something that is not built yet
pub data FileOutcome : Type 0 where
  Finished : FileOutcome
  Missing : FileOutcome
  Unbuilt : FileOutcome

-- how a run ends, and the bytes that it printed
pub record Meaning : Type 0 where
  pub outcome : FileOutcome
  pub output : List ℕ

-- bytes of the longest file that is built
abbrev pub longest_file : ℕ
longest_file = 4096

abbrev pub empty_page : Page
empty_page = record { text = []; column = 0 }

abbrev pub nothing_printed : FileOutcome → Meaning
nothing_printed outcome = record { outcome = outcome; output = [] }

-- the whole file is tested first: where it has a form that is not built, nothing is printed
abbrev pub meaning_of_forms : Option (List Datum) → Meaning
meaning_of_forms None = nothing_printed Unbuilt
meaning_of_forms (Some forms) =
    if list_all is_built forms then record { outcome = Finished; output = (page_after forms empty_page).text } else nothing_printed Unbuilt

-- the meaning of a run over the bytes of its file, or over no file
abbrev pub file_meaning : Option (List ℕ) → Meaning
file_meaning None = nothing_printed Missing
file_meaning (Some file) = if nat_lt longest_file (length file) then nothing_printed Unbuilt else meaning_of_forms (data_in file)

-- the file is too long, or its bytes spell no list of built forms
abbrev pub IsUnbuilt : List ℕ → Type 0
IsUnbuilt file = (longest_file < length file) ⊎ ((forms : List Datum) → AreSpelled forms file → list_all is_built forms ≡ true → ⊥)
