-- What the front of bytes spells, computed: the datum and the bytes behind it, that nothing but blanks and comments is there, or where they cease to be Lisp text.
use Rattle.std.specs.Prelude.{ℕ, ◌-◌, List, [], ◌∷◌, ◌++◌, length}
use Rattle.rl_text.specs.Datum.{Datum, Vector, nil, quoted, listed, elements}
use Rattle.rl_text.specs.Word.{datum_of_atom}
use Rattle.rl_text.specs.Maker.{Has, Maker}
use Rattle.rl_text.specs.Reader.{ReaderOutcome, Read, NoneLeft, Refused, Stopped, read_by}

-- a list that is not whole yet: its elements, and what stands behind them
pub record Items : Type 0 where
  pub elements : List Datum
  pub tail : Datum

abbrev pub listed_items : Items → Datum
listed_items l = listed l.elements l.tail

-- data are made, and nothing is counted
abbrev pub plain : Maker (Unit {0}) Datum Items ⊥
plain = record {
  turn = λ s. Has tt s;
  enter = λ s. Has tt s;
  leave = λ s. s;
  atom = λ a s. Has (datum_of_atom a) s;
  nil = nil;
  empty = record { elements = []; tail = nil };
  extended = λ l e s. Has (record { elements = l.elements ++ e ∷ []; tail = nil }) s;
  ended = λ l e s. Has (record { elements = []; tail = listed l.elements e }) s;
  list = listed_items;
  vector = λ l s. Has (Vector (elements l.elements)) s;
  quoted = λ e s. Has (quoted e) s;
}

pub data Reading : Type 0 where
  Found : Datum → List ℕ → Reading
  NoText : Reading
  -- the number of bytes before the one that has no place
  Unreadable : ℕ → Reading

abbrev pub reading_of : List ℕ → ReaderOutcome (Unit {0}) Datum ⊥ → Reading
reading_of bytes (Read datum s rest) = Found datum rest
reading_of bytes (NoneLeft s) = NoText
reading_of bytes (Refused s from) = Unreadable (length bytes - length from)
reading_of bytes (Stopped w s rest) = absurd w

abbrev pub reading : List ℕ → Reading
reading bytes = reading_of bytes (read_by plain tt bytes)
