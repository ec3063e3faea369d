-- Where a word of Lisp text ends, or the byte with which it does not go on, by what the definition of reading makes of the bytes.
use Rattle.std.specs.Prelude.{◌≡◌, ℕ, ◌+◌, ◌-◌, ◌<◌, ◌≤◌, Bool, true, false, ◌≢◌, ◌⊎◌, List, [], ◌∷◌, ◌++◌, length, take, drop, map, slice_index}
use Rattle.rl_tree.specs.Bytes.{is_name_byte, raised}
use Rattle.rl_text.specs.Datum.{Datum}
use Rattle.rl_text.specs.Word.{Atom, Integer, Identifier, String, signed, datum_of_atom}
use Rattle.rl_text.specs.Reader.{ReaderFrame, Mode, Gap, InName, InNumber, InText, Ended, Whole, Inside, Lacks, ReaderOutcome, Read, Refused, admits, value_ended, read_from}
use Rattle.rl_text.specs.Reading.{Items, plain}
use Rattle.rl_grammar.specs.Lexer.{has_no_escape}
use Rattle.rl_lex.specs.declared.atom.Scan.{Scan}
use Rattle.rl_lex.specs.declared.atom.Scan.TheVariants.{Ends, Bad}
use Rattle.rl_lex.specs.declared.atom.Character.{Character}
use Rattle.rl_lex.specs.declared.atom.Character.TheVariants.{Next, EndsAt, NoPlace}

-- reading of data goes on with these bytes
abbrev pub data_read : Mode → List (ReaderFrame Items) → List ℕ → ReaderOutcome (Unit {0}) Datum ⊥
data_read mode fs bytes = read_from plain mode fs tt bytes

-- an element has ended, and these bytes follow it
abbrev pub read_behind : List ℕ → Ended (Unit {0}) Datum Items ⊥ → ReaderOutcome (Unit {0}) Datum ⊥
read_behind rest (Whole v s) = Read v s rest
read_behind rest (Inside fs s) = read_from plain Gap fs s rest
read_behind rest (Lacks w s) = absurd w

abbrev pub read_behind_atom : Atom → List (ReaderFrame Items) → List ℕ → ReaderOutcome (Unit {0}) Datum ⊥
read_behind_atom a fs rest = read_behind rest (value_ended plain (datum_of_atom a) fs tt)

-- from the bytes on, in each place where a spelling may stand, reading comes to the atom and the rest from this place on
pub record WordEnds (from : List (ReaderFrame Items) → ReaderOutcome (Unit {0}) Datum ⊥) (bytes : List ℕ) (at to : ℕ) (a : Atom) : Type 0 where
  pub after : at < to
  pub within : to ≤ length bytes
  pub reads : (fs : List (ReaderFrame Items)) → admits fs ≡ true → from fs ≡ read_behind_atom a fs (drop to bytes)

-- reading refuses the byte at this place, or the end of the bytes
pub record WordFails (from : List (ReaderFrame Items) → ReaderOutcome (Unit {0}) Datum ⊥) (bytes : List ℕ) (at k : ℕ) : Type 0 where
  pub after : at ≤ k
  pub within : k ≤ length bytes
  pub reads : (fs : List (ReaderFrame Items)) → admits fs ≡ true → from fs ≡ Refused tt (drop k bytes)

-- a spelling begins at the place
abbrev pub read_at : List ℕ → ℕ → List (ReaderFrame Items) → ReaderOutcome (Unit {0}) Datum ⊥
read_at bytes at fs = data_read Gap fs (drop at bytes)

-- the first digit stands at the place
abbrev pub digits_read_at : Bool → List ℕ → ℕ → List (ReaderFrame Items) → ReaderOutcome (Unit {0}) Datum ⊥
digits_read_at minus bytes at fs = data_read (InNumber minus (slice_index bytes at - 48)) fs (drop (at + 1) bytes)

-- the bytes from one place to another
abbrev pub text_between : List ℕ → ℕ → ℕ → List ℕ
text_between bytes at to = take (to - at) (drop at bytes)

-- a name that is written without `!` is its text, raised
abbrev pub IsTextOf : List ℕ → ℕ → ℕ → List ℕ → Type 0
IsTextOf bytes at to name = has_no_escape (text_between bytes at to) ≡ true → name ≡ map raised (text_between bytes at to)

abbrev pub IsNameScan : List ℕ → ℕ → Scan → Type 0
IsNameScan bytes at (Ends to) = (name : List ℕ) × WordEnds (read_at bytes at) bytes at to (Identifier name) × IsTextOf bytes at to name
IsNameScan bytes at (Bad k) = WordFails (read_at bytes at) bytes at k

abbrev pub IsTextScan : List ℕ → ℕ → Scan → Type 0
IsTextScan bytes at (Ends to) = (text : List ℕ) × WordEnds (read_at bytes at) bytes at to (String text)
IsTextScan bytes at (Bad k) = WordFails (read_at bytes at) bytes at k

abbrev pub IsDigitsScan : Bool → List ℕ → ℕ → Scan → Type 0
IsDigitsScan minus bytes at (Ends to) = (n : ℕ) × WordEnds (digits_read_at minus bytes at) bytes at to (Integer (signed minus n))
IsDigitsScan minus bytes at (Bad k) = WordFails (digits_read_at minus bytes at) bytes at k

-- ---- one byte of a name or a string

-- the word goes on with one byte more
pub record IsByteOf (mode : List ℕ → Mode) (word bytes : List ℕ) (at to : ℕ) : Type 0 where
  pub after : at < to
  pub within : to ≤ length bytes
  pub byte : ℕ
  pub reads : (fs : List (ReaderFrame Items)) → data_read (mode word) fs (drop at bytes) ≡ data_read (mode (word ++ byte ∷ [])) fs (drop to bytes)

-- the word ends
pub record EndsWord (mode : List ℕ → Mode) (atom : List ℕ → Atom) (word bytes : List ℕ) (at to : ℕ) : Type 0 where
  pub after : at ≤ to
  pub within : to ≤ length bytes
  pub reads : (fs : List (ReaderFrame Items)) → data_read (mode word) fs (drop at bytes) ≡ read_behind_atom (atom word) fs (drop to bytes)

-- the byte at this place has no place in the word
pub record RefusesWord (mode : List ℕ → Mode) (word bytes : List ℕ) (at k : ℕ) : Type 0 where
  pub after : at ≤ k
  pub within : k ≤ length bytes
  pub reads : (fs : List (ReaderFrame Items)) → data_read (mode word) fs (drop at bytes) ≡ Refused tt (drop k bytes)

-- `!` and a byte, or a byte that is raised
abbrev pub IsOneByte : List ℕ → ℕ → ℕ → ℕ → Type 0
IsOneByte bytes at to byte = (slice_index bytes at ≡ 33) ⊎ ((to ≡ at + 1) × (byte ≡ raised (slice_index bytes at)))

abbrev pub IsNameStep : List ℕ → ℕ → List ℕ → Character → Type 0
IsNameStep bytes at name (Next to) = (next : IsByteOf InName name bytes at to) × IsOneByte bytes at to next.byte × (length name < 255)
IsNameStep bytes at name (EndsAt to) = EndsWord InName Identifier name bytes at to × (to ≡ at) × (is_name_byte (slice_index bytes at) ≡ false) × (slice_index bytes at ≢ 33)
IsNameStep bytes at name (NoPlace k) = RefusesWord InName name bytes at k

abbrev pub IsTextStep : List ℕ → ℕ → List ℕ → Character → Type 0
IsTextStep bytes at text (Next to) = IsByteOf InText text bytes at to × (length text < 65535)
IsTextStep bytes at text (EndsAt to) = EndsWord InText String text bytes at to
IsTextStep bytes at text (NoPlace k) = RefusesWord InText text bytes at k
