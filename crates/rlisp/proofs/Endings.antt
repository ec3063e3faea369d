-- What each ending of a run says of its file and its output.
use Rattle.std.proofs.Common.{◌≡◌, ℕ, true, List, Option, Some, None, IfSome, refl, ap, subst}
use Rattle.std.specs.Option.{IsSomeAnd}
use Rattle.rl_tree.specs.Command.{CommandWord, StopsAt}
use Rattle.rl_forms.specs.Meaning.{file_meaning, IsUnbuilt}
use Rattle.rl_forms.specs.Appended.{AppendedFront}
use Rattle.rl_forms.specs.Laws.{AllAndNothingAreFronts, UnbuiltMeansUnspelled}
use Rattle.rlisp.specs.Status.{is_silent}
use Rattle.rlisp.specs.Headline.{Folder}
use Rattle.rlisp.specs.EndsAsStatus.{EndsAsStatus}
use Rattle.rlisp.specs.declared.status.Status.{Status}
use Rattle.rlisp.specs.declared.status.Status.TheVariants.{Done, Usage, Missing, WriteFault, FileFault, OutOfMemory, Unbuilt}
use Rattle.rlisp.proofs.Commands.{stops_once}

-- however a run ends, it printed a front of the output
front_of_end : AllAndNothingAreFronts → (file old new : Option (List ℕ)) (status : Status) → EndsAsStatus file old new status → (is_silent status ≡ true → new ≡ old) → AppendedFront old new (file_meaning file).output
front_of_end law file old new Done h silent = law.all old new (file_meaning file).output h.output
front_of_end law file old new (Usage word) h silent = absurd h
front_of_end law file old new (Missing name) h silent = law.nothing old new (file_meaning file).output (silent refl)
front_of_end law file old new WriteFault h silent = h
front_of_end law file old new FileFault h silent = law.nothing old new (file_meaning file).output (silent refl)
front_of_end law file old new OutOfMemory h silent = h
front_of_end law file old new Unbuilt h silent = law.nothing old new (file_meaning file).output (silent refl)

-- a run that ends as Unbuilt has a file of which the rule says so
unbuilt_by : UnbuiltMeansUnspelled → (file old new : Option (List ℕ)) (status : Status) → status ≡ Unbuilt → EndsAsStatus file old new status → IsSomeAnd file IsUnbuilt
unbuilt_by law None old new status e h = let h' : EndsAsStatus None old new Unbuilt = subst (EndsAsStatus None old new) e h in absurd h'
unbuilt_by law (Some bytes) old new status e h = let h' : EndsAsStatus (Some bytes) old new Unbuilt = subst (EndsAsStatus (Some bytes) old new) e h in law bytes h'

-- the same of the file of a path
pub front_in : AllAndNothingAreFronts → (folder : Option Folder) (path : CommandWord) (old new : Option (List ℕ)) (status : Status) → IfSome folder (λ file_of. EndsAsStatus (file_of path) old new status) → (is_silent status ≡ true → new ≡ old)
    → IfSome folder (λ file_of. AppendedFront old new (file_meaning (file_of path)).output)
front_in law None path old new status h silent = tt
front_in law (Some file_of) path old new status h silent = front_of_end law (file_of path) old new status h silent

pub unbuilt_in : UnbuiltMeansUnspelled → (folder : Option Folder) (path : CommandWord) (old new : Option (List ℕ)) (status : Status) → status ≡ Unbuilt
    → IfSome folder (λ file_of. EndsAsStatus (file_of path) old new status) → IfSome folder (λ file_of. IsSomeAnd (file_of path) IsUnbuilt)
unbuilt_in law None path old new status e h = tt
unbuilt_in law (Some file_of) path old new status e h = unbuilt_by law (file_of path) old new status e h

-- the word of the status is the one at which the words stop
pub usage_at : (words : List CommandWord) (j : ℕ) → StopsAt words j → (k : ℕ) → (Usage j ≡ Usage k → StopsAt words k) × (StopsAt words k → Usage j ≡ Usage k)
usage_at words j h k = (λ e. let i : j ≡ k = cc in subst (StopsAt words) i h, λ g. ap Usage (stops_once words j k h g))
