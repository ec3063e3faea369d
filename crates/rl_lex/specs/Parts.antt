-- What has begun in a quoted spelling, as the definition of reading keeps it.
use Rattle.std.specs.Prelude.{◌≡◌, ℕ, zero, suc, ◌+◌, ◌<◌, ◌≤◌, Bool, true, false, List, [], ◌∷◌, length, drop, Option, Some, None}
use Rattle.rl_text.specs.Byte as byte
use Rattle.rl_text.specs.Datum.{Datum, quoted}
use Rattle.rl_text.specs.Word.{Atom}
use Rattle.rl_text.specs.Reader.{ReaderFrame, Listing, Vectoring, Quoting, Phase, Gap, ReaderStep, Done, Refuses, ReaderOutcome, Read, Refused}
use Rattle.rl_text.specs.Reader as reader
use Rattle.rl_text.specs.Reading.{Items}
use Rattle.rl_lex.specs.Scans.{data_read, read_at, WordEnds, WordFails}
use Rattle.rl_lex.specs.declared.atom.Scan.{Scan}
use Rattle.rl_lex.specs.declared.atom.Scan.TheVariants as scan
use Rattle.rl_lex.specs.declared.spelling.Moved.{Moved}
use Rattle.rl_lex.specs.declared.spelling.Moved.TheVariants.{Goes, Ends, Bad}
use Rattle.rl_lex.specs.declared.nest.Part.{Part}
use Rattle.rl_lex.specs.declared.nest.Part.TheVariants.{Quote, Vector, Begun, Going, Dotted, Shut}

-- a list that is so far
abbrev pub list_part : Phase → Part
list_part reader.Begun = Begun
list_part reader.Going = Going
list_part reader.Dotted = Dotted
list_part reader.Shut = Shut

-- the parts are those that reading has begun, a quote the outermost; a list behind a dot is a part of its own here
abbrev pub ArePartsOf : List Part → List (ReaderFrame Items) → Type 0
ArePartsOf (p ∷ ps) (Vectoring l ∷ fs) = (p ≡ Vector) × ArePartsOf ps fs
ArePartsOf (p ∷ ps) (Listing l zero phase ∷ fs) = (p ≡ list_part phase) × ArePartsOf ps fs
ArePartsOf (p ∷ ps) (Listing l (suc n) phase ∷ fs) = (p ≡ list_part phase) × ((k : Items) × ArePartsOf ps (Listing k n reader.Dotted ∷ fs))
ArePartsOf (p ∷ []) (Quoting ∷ []) = p ≡ Quote
ArePartsOf (p ∷ q ∷ ps) (Quoting ∷ fs) = (p ≡ Quote) × ArePartsOf (q ∷ ps) fs
ArePartsOf _ _ = ⊥

-- what has begun where an element has ended; None where all has ended
abbrev pub parts_behind : List Part → Option (List Part)
parts_behind [] = None
parts_behind (Quote ∷ ps) = parts_behind ps
parts_behind (Vector ∷ ps) = Some (Vector ∷ ps)
parts_behind (Begun ∷ ps) = Some (Going ∷ ps)
parts_behind (Going ∷ ps) = Some (Going ∷ ps)
parts_behind (Dotted ∷ ps) = Some (Shut ∷ ps)
parts_behind (Shut ∷ ps) = Some (Going ∷ ps)

-- no spelling may stand behind what stands behind a dot
abbrev pub parts_admit : List Part → Bool
parts_admit (Shut ∷ ps) = false
parts_admit ps = true

-- a part that begins with a mark, and that mark
abbrev pub is_opening : Part → Bool
is_opening Quote = true
is_opening Vector = true
is_opening Begun = true
is_opening other = false

abbrev pub opening_mark : Part → byte.Mark
opening_mark Quote = byte.Quote
opening_mark Vector = byte.OpenVector
opening_mark other = byte.Open

-- a class of bytes that begin a word, or nothing
abbrev pub is_word_class : byte.Class → Bool
is_word_class byte.Blank = false
is_word_class byte.Percent = false
is_word_class (byte.Marks m) = false
is_word_class other = true

abbrev pub IsWordScan : List ℕ → ℕ → Scan → Type 0
IsWordScan bytes at (scan.Ends to) = (a : Atom) × WordEnds (read_at bytes at) bytes at to a
IsWordScan bytes at (scan.Bad k) = WordFails (read_at bytes at) bytes at k

-- an element has ended before the place
abbrev pub IsBehind : List Part → List Part → ℕ → Moved → Type 0
IsBehind old new to (Goes place) = (place ≡ to) × (parts_behind old ≡ Some new)
IsBehind old new to (Ends place) = (place ≡ to) × (parts_behind old ≡ None)
IsBehind old new to (Bad k) = ⊥

-- a mark at the place leads reading to this step
abbrev pub IsMovedByMark : ℕ → List Part → Moved → ReaderStep (Unit {0}) Datum Items ⊥ → Type 0
IsMovedByMark at new (Goes to) step = (to ≡ at + 1) × ((more : List (ReaderFrame Items)) × (step ≡ reader.Goes Gap more tt) × ArePartsOf new more)
IsMovedByMark at new (Ends to) step = (to ≡ at + 1) × ((e : Datum) × (step ≡ Done (quoted e) true tt))
IsMovedByMark at new (Bad k) step = (k ≡ at) × (step ≡ Refuses tt)

-- what stands at the place leads reading further
pub record IsPartFurther (bytes : List ℕ) (at to : ℕ) (new : List Part) (fs : List (ReaderFrame Items)) : Type 0 where
  pub after : at < to
  pub within : to ≤ length bytes
  pub more : List (ReaderFrame Items)
  pub parts : ArePartsOf new more
  pub reads : read_at bytes at fs ≡ data_read Gap more (drop to bytes)

-- or to its end, at the outermost quote
pub record IsWholeQuote (from : ReaderOutcome (Unit {0}) Datum ⊥) (bytes : List ℕ) (at to : ℕ) : Type 0 where
  pub after : at < to
  pub within : to ≤ length bytes
  pub datum : Datum
  pub reads : from ≡ Read (quoted datum) tt (drop to bytes)

-- or it is refused
pub record IsNoQuote (from : ReaderOutcome (Unit {0}) Datum ⊥) (bytes : List ℕ) (at k : ℕ) : Type 0 where
  pub after : at ≤ k
  pub within : k ≤ length bytes
  pub reads : from ≡ Refused tt (drop k bytes)

abbrev pub IsMoved : List ℕ → ℕ → List Part → List (ReaderFrame Items) → Moved → Type 0
IsMoved bytes at new fs (Goes to) = IsPartFurther bytes at to new fs
IsMoved bytes at new fs (Ends to) = IsWholeQuote (read_at bytes at fs) bytes at to
IsMoved bytes at new fs (Bad k) = IsNoQuote (read_at bytes at fs) bytes at k

-- reading behind the outermost quote
abbrev pub quote_read_at : List ℕ → ℕ → ReaderOutcome (Unit {0}) Datum ⊥
quote_read_at bytes at = data_read Gap (Quoting ∷ []) (drop (at + 1) bytes)

abbrev pub IsQuotedScan : List ℕ → ℕ → Scan → Type 0
IsQuotedScan bytes at (scan.Ends to) = IsWholeQuote (quote_read_at bytes at) bytes at to
IsQuotedScan bytes at (scan.Bad k) = IsNoQuote (quote_read_at bytes at) bytes at k
