-- What reading has to do with spelling.
use Rattle.std.specs.Prelude.{◌≡◌, ◌↔◌, ℕ, List, ◌++◌}
use Rattle.rl_tree.specs.Value.{Value}
use Rattle.rl_tree.specs.Printing.{Setting, Progress, Whole, printed}
use Rattle.rl_text.specs.Datum.{Datum}
use Rattle.rl_text.specs.Gap.{IsBlankText}
use Rattle.rl_text.specs.Spelling.{IsSpelled}
use Rattle.rl_text.specs.Refusal.{IsRefusedAt}
use Rattle.rl_text.specs.Stored.{IsStored}
use Rattle.rl_text.specs.Printed.{with_datum}
use Rattle.rl_text.specs.Reading.{Found, NoText, Unreadable, reading}

-- a datum is found exactly where the bytes begin with a spelling of it
abbrev pub FindsSpelled : Type 0
FindsSpelled = (bytes : List ℕ) (datum : Datum) (rest : List ℕ) → (reading bytes ≡ Found datum rest) ↔ IsSpelled bytes datum rest

-- bytes begin with a spelling of one datum, and of so many bytes, or with none
abbrev pub SpellsOnce : Type 0
SpellsOnce = (bytes : List ℕ) (some other : Datum) (rest more : List ℕ) → IsSpelled bytes some rest → IsSpelled bytes other more → (some ≡ other) × (rest ≡ more)

-- no text is found exactly where nothing but blanks and comments is there
abbrev pub FindsNone : Type 0
FindsNone = (bytes : List ℕ) → (reading bytes ≡ NoText) ↔ IsBlankText bytes

-- bytes are unreadable exactly at the first byte with which no spelling goes on, or at their end inside a spelling
abbrev pub RefusesFirst : Type 0
RefusesFirst = (bytes : List ℕ) (k : ℕ) → (reading bytes ≡ Unreadable k) ↔ IsRefusedAt bytes k

-- of a value that is a datum, the datum is printed where nothing is wanting, and a front of it where something is
pub record PrintsData : Type 0 where
  pub whole : (g : Setting) (v : Value) (datum : Datum) (levels : ℕ) (p : Progress) → p.ending ≡ Whole → IsStored g.store g.names g.nil v datum
      → (printed g v levels p).ending ≡ Whole → (printed g v levels p).page ≡ with_datum g.style g.line_length datum p.page
  pub front : (g : Setting) (v : Value) (datum : Datum) (levels : ℕ) (p : Progress) → p.ending ≡ Whole → IsStored g.store g.names g.nil v datum
      → (rest : List ℕ) × ((with_datum g.style g.line_length datum p.page).text ≡ (printed g v levels p).page.text ++ rest)
