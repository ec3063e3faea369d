-- How reading a form ends.
use Rattle.std.specs.Prelude.{◌≡◌, ℕ, ◌-◌, ◌≤◌, ◌^◌, Bool, true, List, [], length, drop, min, Result, Ok, Err, IfOk}
use Rattle.rl_tags.specs.Tagged.{Tagged}
use Rattle.rl_cells.specs.Cell.{is_live}
use Rattle.rl_syms.specs.Table.{IsNamed}
use Rattle.rl_text.specs.Reader.{ReaderFrame, Mode, ReaderOutcome, at_end_between, Read, NoneLeft, Refused, Stopped, read_by, read_from}
use Rattle.rl_world.specs.declared.world.World.{World}
use Rattle.rl_world.specs.declared.stop.Stop.{Stop}
use Rattle.rl_read.specs.Given.{is_counted}
use Rattle.rl_read.specs.Frames.{CanMake, IsReading}
use Rattle.rl_read.specs.Stock.{PairChain, Stock, in_stock, stock_of}
use Rattle.rl_read.specs.declared.read.ReadFault.{ReadFault}
use Rattle.rl_read.specs.declared.read.ReadFault.TheVariants as fault

abbrev pub ReadAnswer : Type 0
ReadAnswer = ReaderOutcome Stock Tagged Stop

-- the text ends between spellings
abbrev pub ended_between : List (ReaderFrame PairChain) → Stock → ReadAnswer
ended_between fs k = at_end_between fs k

abbrev pub NotStopped : Result Tagged ReadFault → Type 0
NotStopped (Ok v) = Unit {0}
NotStopped (Err (fault.Syntax k)) = Unit {0}
NotStopped (Err fault.End) = Unit {0}
NotStopped (Err (fault.Stop s)) = ⊥

-- it is refused, and what was made before is in the world; the levels were left
pub record IsRefusal (w : World) (answer : Bool → ReadAnswer) (from : List ℕ) : Type 0 where
  pub made : Stock
  pub refused : (t : Bool) → answer t ≡ Refused made from
  pub stays : record made { left = (stock_of w).left } ≡ stock_of w

abbrev pub IsStopped : (Bool → ReadAnswer) → Stop → List ℕ → Stock → Type 0
IsStopped answer s rest made = (t : Bool) → answer t ≡ Stopped s made rest

-- the end of a text: a form has ended with it, or only blanks and comments are there, or it is refused where so many bytes were given, or something that is counted is wanting
pub record EndsText (base : ℕ) (old new : World) (meant : Bool → ReadAnswer) (given : ℕ) (result : Result Tagged ReadFault) : Type 0 where
  pub ok : IfOk result (λ v. (t : Bool) → meant t ≡ Read v (stock_of new) [])
  pub syntax : (k : ℕ) → result ≡ Err (fault.Syntax k) → (k ≡ given) × IsRefusal new meant []
  pub end : result ≡ Err fault.End → (t : Bool) → meant t ≡ NoneLeft (stock_of new)
  pub stop : (s : Stop) → result ≡ Err (fault.Stop s) → IsStopped meant s [] (stock_of new)
  pub counted : (s : Stop) → result ≡ Err (fault.Stop s) → is_counted s ≡ true
  pub live : IfOk result (λ v. is_live new.cells.cells v ≡ true)
  pub able : CanMake new
  pub left : NotStopped result → length new.levels.walk ≡ base
  pub reading : IsReading base old new

-- from here on reading comes to what it comes to from the start, and so many bytes were given
pub record IsGoing (turns : Bool) (start : World) (m : Mode) (fs : List (ReaderFrame PairChain)) (k : Stock) (given : ℕ) (before now : List ℕ) : Type 0 where
  pub same : read_by (in_stock turns) (stock_of start) before ≡ read_from (in_stock turns) m fs k now
  pub place : given ≡ min (length before - length now) (2 ^ 64 - 1)
  pub shorter : length now ≤ length before

-- so many bytes stand before the one that is refused, which was given
pub record IsRefusedText (turns : Bool) (old new : World) (before now : List ℕ) (k : ℕ) : Type 0 where
  pub from : List ℕ
  pub made : Stock
  pub refused : read_by (in_stock turns) (stock_of old) before ≡ Refused made from
  pub stays : record made { left = (stock_of new).left } ≡ stock_of new
  pub place : k ≡ min (length before - length from) (2 ^ 64 - 1)
  pub given : now ≡ drop 1 from

-- it stops, and what was made and counted before is in the world
abbrev pub IsStoppedText : Bool → World → World → List ℕ → List ℕ → Stop → Type 0
IsStoppedText turns old new before now s = read_by (in_stock turns) (stock_of old) before ≡ Stopped s (stock_of new) now

-- cells, names, counts, levels, what waits for the output and the place in the input alone have changed; what was live is, and names stay
pub record KeepsByReading (old new : World) : Type 0 where
  pub world : new ≡ record old { cells = new.cells; syms = record old.syms { head = new.syms.head }; counts = new.counts; levels = new.levels; output = record old.output { waiting = new.output.waiting }; input = new.input }
  pub live : (v : Tagged) → is_live old.cells.cells v ≡ true → is_live new.cells.cells v ≡ true
  pub names : (bytes : List ℕ) (id : Tagged) → IsNamed old.cells.cells old.syms.head bytes id → IsNamed new.cells.cells new.syms.head bytes id
