use Rattle.std.proofs.Common.{ℕ, List, sym, ap, ◌∙◌}
use Rattle.rl_text.specs.Datum.{Datum}
use Rattle.rl_text.specs.Reader.{ReaderOutcome, Read, NoneLeft, Refused, Stopped}
use Rattle.rl_text.proofs.Complete.{spelled_is_read_by}
use Rattle.rl_text.proofs.laws.text_spells_once.Goals as goal

-- what an outcome reads, or else this
abbrev read_or : Datum → ReaderOutcome (Unit {0}) Datum ⊥ → Datum
read_or other (Read datum s rest) = datum
read_or other (NoneLeft s) = other
read_or other (Refused s from) = other
read_or other (Stopped w s rest) = other

abbrev rest_or : List ℕ → ReaderOutcome (Unit {0}) Datum ⊥ → List ℕ
rest_or other (Read datum s rest) = rest
rest_or other (NoneLeft s) = other
rest_or other (Refused s from) = other
rest_or other (Stopped w s rest) = other

pub returns : goal.returns
returns c bytes some other rest more one two =
    let same = sym (spelled_is_read_by bytes some rest one) ∙ spelled_is_read_by bytes other more two in
    (ap (read_or some) same, ap (rest_or rest) same)
