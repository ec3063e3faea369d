-- A reading in a world told by the datum that is read.
use Rattle.std.proofs.Common.{◌≡◌, ℕ, Bool, List, [], length, subst, arith}
use Rattle.rl_tags.specs.Tagged.{Tagged}
use Rattle.rl_text.specs.Datum.{Datum}
use Rattle.rl_text.specs.Reader.{ReaderOutcome, Read, NoneLeft, Refused, Stopped, Gap, read_by}
use Rattle.rl_text.specs.Reading.{Found, plain, reading, reading_of}
use Rattle.rl_world.specs.declared.stop.Stop.{Stop}
use Rattle.rl_read.specs.Data.{KeepsData, IsDatum, datum_of}
use Rattle.rl_read.specs.Laws.{IsNamedStock}
use Rattle.rl_read.specs.Stock.{Stock, in_stock}
use Rattle.rl_read.proofs.DataStay.{data_kept, stays_refl}
use Rattle.rl_read.proofs.ValueStands.{Heap, stands_datum}
use Rattle.rl_read.proofs.FramesStand.{Holds, IsResult}
use Rattle.rl_read.proofs.MadeStands.{AreLaws, heap_of}
use Rattle.rl_read.proofs.ReadStands.{SimRead, read_sim}
use Rattle.rl_read.proofs.ReadIsSpelled.{ReadsAsData, reads_found}

-- nothing has begun
at_first : (k : Stock) → IsNamedStock k → Holds (heap_of k) (heap_of k) [] []
at_first k n = record {
  heap = record { table = n.table; nil = n.nil };
  longer = omega arith;
  stays = stays_refl k.cells.cells k.head;
  around = omega arith;
  few = omega arith;
}

result_of : (first : Heap) (made : Stock) (v : Tagged) (bytes rest : List ℕ) (o : ReaderOutcome (Unit {0}) Datum ⊥) (d : Datum) → SimRead first (Read v made rest) o → reading_of bytes o ≡ Found d rest → IsResult first (heap_of made) v d
result_of first made v bytes rest (Read e t more) d r f = let same : e ≡ d = cc in subst (λ (x : Datum). IsResult first (heap_of made) v x) same r
result_of first made v bytes rest (NoneLeft t) d r f = absurd cc
result_of first made v bytes rest (Refused t from) d r f = absurd cc
result_of first made v bytes rest (Stopped w t more) d r f = absurd w

pub reads_result : AreLaws → ReadsAsData → (turns : Bool) (k made : Stock) (bytes rest : List ℕ) (v : Tagged) → IsNamedStock k → read_by (in_stock turns) k bytes ≡ Read v made rest → (d : Datum) × (reading bytes ≡ Found d rest) × IsResult (heap_of k) (heap_of made) v d
reads_result laws law turns k made bytes rest v n e =
    let found = reads_found law turns k made bytes rest v e in
    let sim = subst (λ (o : ReaderOutcome Stock Tagged Stop). SimRead (heap_of k) o (read_by plain tt bytes)) e (read_sim laws (heap_of k) turns Gap [] [] k tt bytes tt (at_first k n)) in
    (found.0, found.1, result_of (heap_of k) made v bytes rest (read_by plain tt bytes) found.0 sim found.1)

pub result_datum : AreLaws → (first : Heap) (made : Stock) (v : Tagged) (d : Datum) → IsResult first (heap_of made) v d → IsDatum made.cells.cells made.head v × (datum_of made.cells.cells v ≡ d)
result_datum laws first made v d r = stands_datum laws.ids 0 (length made.cells.cells) (heap_of made) r.heap.table (length made.cells.cells) v d r.few r.stands

pub result_keeps : (k made : Stock) (v : Tagged) (d : Datum) → IsResult (heap_of k) (heap_of made) v d → KeepsData k made
result_keeps k made v d r = record {
  is = λ u h. (data_kept k.cells.cells k.head made.cells.cells made.head r.stays r.longer u h).0;
  same = λ u h. (data_kept k.cells.cells k.head made.cells.cells made.head r.stays r.longer u h).1;
}

pub result_named : (first : Heap) (made : Stock) (v : Tagged) (d : Datum) → IsResult first (heap_of made) v d → IsNamedStock made
result_named first made v d r = record { table = r.heap.table; nil = r.heap.nil }
