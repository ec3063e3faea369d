-- What each kind of call promises: it answers as the definition does, stops where the definition stops, and says what is so afterwards.
use Rattle.std.specs.Prelude.{◌≡◌, ℕ, Bool, true, List, length, Result, Ok, Err, IfOk}
use Rattle.rl_tags.specs.Tagged.{Tagged}
use Rattle.rl_cells.specs.Cell.{Cell}
use Rattle.rl_text.specs.Maker.{Made, Maker, Has, Wants}
use Rattle.rl_text.specs.Reader as reader
use Rattle.rl_world.specs.Walks.{IsSteady}
use Rattle.rl_world.specs.declared.world.World.{World}
use Rattle.rl_world.specs.declared.stop.Stop.{Stop}
use Rattle.rl_read.specs.Given.{is_counted}
use Rattle.rl_read.specs.Stock.{Stock, PairChain, in_stock, stock_of}
use Rattle.rl_read.specs.Frames.{CanMake, IsMaking, IsReading, IsReadyToRead, frames_in, opening_frame}
use Rattle.rl_read.specs.Steps.{IsEnded, IsStep, ended_of, step_of}
use Rattle.rl_read.specs.declared.frames.Group.{Group}
use Rattle.rl_read.specs.declared.frames.Opening.{Opening}
use Rattle.rl_read.specs.declared.step.Step.{Step}
use Rattle.rl_read.specs.declared.step.Ended.{Ended}

-- ---- answers

-- what a call answers, in the definition's words: a value, or what is wanting
abbrev pub value_or_want : {T D : Type 0} → (T → D) → (Stop → D) → Result T Stop → D
value_or_want value want (Ok v) = value v
value_or_want value want (Err s) = want s

-- a value is as it has to be, and what is wanting is counted
abbrev pub IsValueOrCounted : {T : Type 0} → (T → Type 0) → Result T Stop → Type 0
IsValueOrCounted is (Ok v) = is v
IsValueOrCounted is (Err s) = is_counted s ≡ true

-- ---- making

-- makes what the definition makes, and more may be made afterwards
pub record Makes {T A : Type 0} (old new : World) (value : T → A) (is : T → Type 0) (made : Stock → Made Stock A Stop) (result : Result T Stop) : Type 0 where
  pub means : made (stock_of old) ≡ value_or_want (λ v. Has (value v) (stock_of new)) (λ s. Wants s (stock_of new)) result
  pub sound : IsValueOrCounted is result
  pub able : CanMake new
  pub making : IsMaking old new

-- an object of this kind
abbrev pub MakesObject : (List Cell → Tagged → Bool) → World → World → (Stock → Made Stock Tagged Stop) → Result Tagged Stop → Type 0
MakesObject is old new made result = Makes old new (λ v. v) (λ v. is new.cells.cells v ≡ true) made result

-- objects change and none is made
pub record MakesNoObject (old new : World) : Type 0 where
  pub same : length new.cells.cells ≡ length old.cells.cells
  pub able : CanMake new
  pub making : IsMaking old new

-- ---- levels

-- levels alone change, those above the base
pub record ChangesLevels (base : ℕ) (old new : World) : Type 0 where
  pub world : new ≡ record old { levels = new.levels }
  pub steady : IsSteady base old.levels new.levels

-- a list, a vector or a quote begins in what has begun
pub record BeginsGroup (base : ℕ) (old : World) (outer : Group) (new : World) (o : Opening) (result : Result Group Stop) : Type 0 where
  pub means : (t : Bool) → opening_frame (in_stock t) o (frames_in base old outer) (stock_of old) ≡ value_or_want (λ g. reader.Goes reader.Gap (frames_in base new g) (stock_of new)) (λ s. reader.Halts s (stock_of new)) result
  pub ready : IfOk result (λ g. IsReadyToRead base new g)
  pub steady : IsSteady base old.levels new.levels

-- ---- reading

-- what the definition does with all that has begun and with what there is
abbrev pub OfReader : Type 0 → Type 0
OfReader D = Maker Stock Tagged PairChain Stop → List (reader.ReaderFrame PairChain) → Stock → D

-- reads on to what the definition comes to, whether bytes take turns or not, and more may be made and read afterwards
pub record ReadsOn {T D : Type 0} (base : ℕ) (old new : World) (meant : Bool → D) (value : T → D) (want : Stop → D) (is : T → Type 0) (result : Result T Stop) : Type 0 where
  pub means : (t : Bool) → meant t ≡ value_or_want value want result
  pub sound : IsValueOrCounted is result
  pub able : CanMake new
  pub reading : IsReading base old new

-- a byte, or a part of what it does
abbrev pub TakesStep : ℕ → World → Group → World → List ℕ → OfReader (reader.ReaderStep Stock Tagged PairChain Stop) → Result Step Stop → Type 0
TakesStep base old g new bytes step result = ReadsOn base old new (λ t. step (in_stock t) (frames_in base old g) (stock_of old)) (step_of base new bytes) (λ s. reader.Halts s (stock_of new)) (IsStep base new bytes) result

-- the end of an element
abbrev pub EndsElement : ℕ → World → Group → World → OfReader (reader.Ended Stock Tagged PairChain Stop) → Result Ended Stop → Type 0
EndsElement base old g new ended result = ReadsOn base old new (λ t. ended (in_stock t) (frames_in base old g) (stock_of old)) (ended_of base new) (λ s. reader.Lacks s (stock_of new)) (IsEnded base new) result
