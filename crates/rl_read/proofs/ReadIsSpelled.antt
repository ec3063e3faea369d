-- A reading in a world told by what its text spells.
use Rattle.std.proofs.Common.{◌≡◌, ℕ, ◌-◌, Bool, List, length, refl, ap}
use Rattle.rl_tags.specs.Tagged.{Tagged}
use Rattle.rl_text.specs.Datum.{Datum}
use Rattle.rl_text.specs.Maker.{Made, Has, Wants}
use Rattle.rl_text.specs.Makers.{MakerRelations, MadeRelated, both_have, first_wants, AreMakersRelated, OutcomesRelated, both_read, both_find_none, both_refuse, both_stop, first_stops, second_stops, EndRelated}
use Rattle.rl_text.specs.Reader.{ReaderOutcome, Read, NoneLeft, Refused, read_by}
use Rattle.rl_text.specs.Reading.{Items, Found, NoText, Unreadable, plain, reading, reading_of}
use Rattle.rl_world.specs.declared.stop.Stop.{Stop}
use Rattle.rl_read.specs.Stock.{Stock, PairChain, in_stock}

-- whatever is made in the world and of data
abbrev pub heedless : MakerRelations (Unit {0}) Stock Tagged PairChain Stop (Unit {0}) Datum Items ⊥
heedless = record { grows = λ at now. Unit {0}; states = λ at k t. Unit {0}; values = λ at v d. Unit {0}; lists = λ at c l. Unit {0}; wants = λ s k x t. Unit {0}; wants_first = λ s k. Unit {0}; wants_second = λ x t. ⊥ }

abbrev pub ReadsAsData : Type 0
ReadsAsData = EndRelated heedless

made_heedless : {A B : Type 0} (x : Made Stock A Stop) (b : B) → MadeRelated heedless tt (λ now a b. Unit {0}) x (Has b tt)
made_heedless (Has a k) b = both_have tt a b k tt tt tt tt
made_heedless (Wants s k) b = first_wants s k _ tt

makers : (turns : Bool) → AreMakersRelated heedless (in_stock turns) plain
makers turns = record {
  names = record { same = λ at. tt; and_then = λ at now later g h. tt; values = λ at now g v d h. tt; lists = λ at now g c l h. tt };
  turn = λ at k t h. made_heedless _ _;
  enter = λ at k t h. made_heedless _ _;
  leave = λ at k t h. tt;
  atom = λ at a is k t h. made_heedless _ _;
  nil = λ at k t h. tt;
  empty = λ at k t h. tt;
  extended = λ at c l v d k t e f h. made_heedless _ _;
  ended = λ at c l v d k t e f h. made_heedless _ _;
  list = λ at c l k t e h. tt;
  vector = λ at c l k t e h. made_heedless _ _;
  quoted = λ at v d k t e h. made_heedless _ _;
}

ends_read : (x : ReaderOutcome Stock Tagged Stop) (o : ReaderOutcome (Unit {0}) Datum ⊥) (bytes rest : List ℕ) (v : Tagged) (made : Stock) → OutcomesRelated heedless tt x o → x ≡ Read v made rest → (datum : Datum) × (reading_of bytes o ≡ Found datum rest)
ends_read x o bytes rest v made (both_read now u d k t more g h s) e = (d, ap (λ (r : List ℕ). Found d r) (let same : more ≡ rest = cc in same))
ends_read x o bytes rest v made (both_find_none now k t g h) e = absurd cc
ends_read x o bytes rest v made (both_refuse now k t from g h) e = absurd cc
ends_read x o bytes rest v made (both_stop s y k t more h) e = absurd y
ends_read x o bytes rest v made (first_stops s k more other h) e = absurd cc
ends_read x o bytes rest v made (second_stops y t more other h) e = absurd y

ends_with_none : (x : ReaderOutcome Stock Tagged Stop) (o : ReaderOutcome (Unit {0}) Datum ⊥) (bytes : List ℕ) (made : Stock) → OutcomesRelated heedless tt x o → x ≡ NoneLeft made → reading_of bytes o ≡ NoText
ends_with_none x o bytes made (both_read now u d k t more g h s) e = absurd cc
ends_with_none x o bytes made (both_find_none now k t g h) e = refl
ends_with_none x o bytes made (both_refuse now k t from g h) e = absurd cc
ends_with_none x o bytes made (both_stop s y k t more h) e = absurd y
ends_with_none x o bytes made (first_stops s k more other h) e = absurd cc
ends_with_none x o bytes made (second_stops y t more other h) e = absurd y

ends_refused : (x : ReaderOutcome Stock Tagged Stop) (o : ReaderOutcome (Unit {0}) Datum ⊥) (bytes from : List ℕ) (made : Stock) → OutcomesRelated heedless tt x o → x ≡ Refused made from → reading_of bytes o ≡ Unreadable (length bytes - length from)
ends_refused x o bytes from made (both_read now u d k t more g h s) e = absurd cc
ends_refused x o bytes from made (both_find_none now k t g h) e = absurd cc
ends_refused x o bytes from made (both_refuse now k t other g h) e = ap (λ (l : List ℕ). Unreadable (length bytes - length l)) (let same : other ≡ from = cc in same)
ends_refused x o bytes from made (both_stop s y k t more h) e = absurd y
ends_refused x o bytes from made (first_stops s k more other h) e = absurd cc
ends_refused x o bytes from made (second_stops y t more other h) e = absurd y

alike : ReadsAsData → (turns : Bool) (k : Stock) (bytes : List ℕ) → OutcomesRelated heedless tt (read_by (in_stock turns) k bytes) (read_by plain tt bytes)
alike law turns k bytes = law.text (in_stock turns) plain (makers turns) tt k tt bytes tt

pub reads_found : ReadsAsData → (turns : Bool) (k made : Stock) (bytes rest : List ℕ) (v : Tagged) → read_by (in_stock turns) k bytes ≡ Read v made rest → (datum : Datum) × (reading bytes ≡ Found datum rest)
reads_found law turns k made bytes rest v e = ends_read (read_by (in_stock turns) k bytes) (read_by plain tt bytes) bytes rest v made (alike law turns k bytes) e

pub reads_none : ReadsAsData → (turns : Bool) (k made : Stock) (bytes : List ℕ) → read_by (in_stock turns) k bytes ≡ NoneLeft made → reading bytes ≡ NoText
reads_none law turns k made bytes e = ends_with_none (read_by (in_stock turns) k bytes) (read_by plain tt bytes) bytes made (alike law turns k bytes) e

pub reads_refused : ReadsAsData → (turns : Bool) (k made : Stock) (bytes from : List ℕ) → read_by (in_stock turns) k bytes ≡ Refused made from → reading bytes ≡ Unreadable (length bytes - length from)
reads_refused law turns k made bytes from e = ends_refused (read_by (in_stock turns) k bytes) (read_by plain tt bytes) bytes from made (alike law turns k bytes) e
