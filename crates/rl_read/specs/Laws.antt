-- What the crates above may say of reading in a world.
use Rattle.std.specs.Prelude.{◌≡◌, ◌≢◌, ℕ, ◌-◌, Bool, true, List, ◌++◌, length, Option, Some, None}
use Rattle.rl_tags.specs.Tagged.{Tagged, PairAt, index_of}
use Rattle.rl_tags.specs.Ids.{nil_id}
use Rattle.rl_cells.specs.Cell.{Cell, PairCell, is_live, is_pair, car_of, cdr_of, placed}
use Rattle.rl_syms.specs.Table.{Among, IsTable, IsNamed, name_in_cells, nil_value}
use Rattle.rl_syms.specs.Contents.{ids_before, value_of, store_of}
use Rattle.rl_syms.specs.Numbers.{numbered_name}
use Rattle.rl_syms.specs.Laws.{IsKept, LeaveIdentifiers}
use Rattle.rl_syms.specs.Made.{IsOpening}
use Rattle.rl_world.specs.Bounds.{AreBoundsKept, RoomIsEnough}
use Rattle.rl_world.specs.Counts.{counts_at_opening}
use Rattle.rl_world.specs.declared.world.World.{World}
use Rattle.rl_read.specs.Frames.{CanMake}
use Rattle.rl_tree.specs.Name.{Name, nil_name}
use Rattle.rl_text.specs.Datum.{Datum, Pair}
use Rattle.rl_text.specs.Stored.{IsStored}
use Rattle.rl_text.specs.Gap.{IsBlankText}
use Rattle.rl_text.specs.Spelling.{IsSpelled}
use Rattle.rl_text.specs.Refusal.{IsRefusedAt}
use Rattle.rl_text.specs.Reader.{Read, NoneLeft, Refused, read_by}
use Rattle.rl_read.specs.Stock.{Stock, in_stock, named_among}
use Rattle.rl_read.specs.Data.{IsDatum, datum_of, KeepsData}

-- whatever there is, and whether bytes take turns or not
pub record ReadsText : Type 0 where
  pub read : (turns : Bool) (k made : Stock) (bytes rest : List ℕ) (v : Tagged) → read_by (in_stock turns) k bytes ≡ Read v made rest → (datum : Datum) × IsSpelled bytes datum rest
  pub none : (turns : Bool) (k made : Stock) (bytes : List ℕ) → read_by (in_stock turns) k bytes ≡ NoneLeft made → IsBlankText bytes
  pub refused : (turns : Bool) (k made : Stock) (bytes from : List ℕ) → read_by (in_stock turns) k bytes ≡ Refused made from → IsRefusedAt bytes (length bytes - length from)

-- names are a table, and NIL is the interned identifier of its name
pub record IsNamedStock (k : Stock) : Type 0 where
  pub table : IsTable k.cells.cells k.head
  pub nil : IsNamed k.cells.cells k.head nil_name nil_value

-- a value that was read is the datum that the text spells, and what was a datum before is the same one
pub record ReadsData : Type 0 where
  pub spelled : (turns : Bool) (k made : Stock) (bytes rest : List ℕ) (v : Tagged) → IsNamedStock k → read_by (in_stock turns) k bytes ≡ Read v made rest → IsSpelled bytes (datum_of made.cells.cells v) rest
  pub is : (turns : Bool) (k made : Stock) (bytes rest : List ℕ) (v : Tagged) → IsNamedStock k → read_by (in_stock turns) k bytes ≡ Read v made rest → IsDatum made.cells.cells made.head v
  pub keeps : (turns : Bool) (k made : Stock) (bytes rest : List ℕ) (v : Tagged) → IsNamedStock k → read_by (in_stock turns) k bytes ≡ Read v made rest → KeepsData k made
  pub named : (turns : Bool) (k made : Stock) (bytes rest : List ℕ) (v : Tagged) → IsNamedStock k → read_by (in_stock turns) k bytes ≡ Read v made rest → IsNamedStock made

-- a value that is a datum means it, in the store that the cells mean
abbrev pub MeansDatum : Type 0
MeansDatum = (cells : List Cell) (head : Option Tagged) (v : Tagged) → IsTable cells head → IsNamed cells head nil_name nil_value → IsDatum cells head v
    → IsStored (store_of cells) (numbered_name cells) (ids_before cells (index_of nil_id)) (value_of cells v) (datum_of cells v)

-- a new pair of data is the pair of them, and leaves all others; the parts of a pair that is a datum are the parts of that datum
pub record PairsAreData : Type 0 where
  pub kept : (cells : List Cell) (head : Option Tagged) (a d v : Tagged) → IsTable cells head → IsDatum cells head v → IsDatum (cells ++ placed (PairCell a d)) head v
  pub same : (cells : List Cell) (head : Option Tagged) (a d v : Tagged) → IsTable cells head → IsDatum cells head v → datum_of (cells ++ placed (PairCell a d)) v ≡ datum_of cells v
  pub made : (cells : List Cell) (head : Option Tagged) (a d : Tagged) → IsTable cells head → IsDatum cells head a → IsDatum cells head d → IsDatum (cells ++ placed (PairCell a d)) head (PairAt (length cells))
  pub means : (cells : List Cell) (head : Option Tagged) (a d : Tagged) → IsTable cells head → IsDatum cells head a → IsDatum cells head d → datum_of (cells ++ placed (PairCell a d)) (PairAt (length cells)) ≡ Pair (datum_of cells a) (datum_of cells d)
  pub car : (cells : List Cell) (head : Option Tagged) (p : Tagged) → is_pair cells p ≡ true → IsDatum cells head p → IsDatum cells head (car_of cells p)
  pub cdr : (cells : List Cell) (head : Option Tagged) (p : Tagged) → is_pair cells p ≡ true → IsDatum cells head p → IsDatum cells head (cdr_of cells p)
  pub parts : (cells : List Cell) (head : Option Tagged) (p : Tagged) → is_pair cells p ≡ true → IsDatum cells head p → datum_of cells p ≡ Pair (datum_of cells (car_of cells p)) (datum_of cells (cdr_of cells p))
  pub live : (cells : List Cell) (head : Option Tagged) (v : Tagged) → IsDatum cells head v → is_live cells v ≡ true

-- what making an object rests on
pub record AreMakingLaws : Type 0 where
  pub kept : IsKept
  pub leave : LeaveIdentifiers
  pub bounds : AreBoundsKept
  pub enough : RoomIsEnough

-- after opening, what is made counts
abbrev pub OpenedWorldsMake : Type 0
OpenedWorldsMake = (w : World) (turns bound : ℕ) → IsTable w.cells.cells w.syms.head → IsOpening w.cells bound → w.counts ≡ counts_at_opening turns bound
    → CanMake (record w { cells = record w.cells { count = Some 0 }; counts = record w.counts { opening = None } })

-- the first of several identifiers that has a name is one of them and has it, and where there is none no one has
pub record NamesAreFound : Type 0 where
  pub found : (cells : List Cell) (name : Name) (is : List ℕ) (i : ℕ) → named_among cells name is ≡ Some i → Among i is × (name_in_cells cells i ≡ name)
  pub free : (cells : List Cell) (name : Name) (is : List ℕ) → named_among cells name is ≡ None → (k : ℕ) → Among k is → name_in_cells cells k ≢ name
