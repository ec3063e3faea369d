-- Calls, one after another: what a call promises follows from what the calls that it makes promise.
use Rattle.std.proofs.Common.{◌≡◌, ℕ, Bool, List, true, refl, sym, ap, subst, ◌∙◌}
use Rattle.std.specs.Prelude.{Result, Ok, Err}
use Rattle.rl_tags.specs.Tagged.{Tagged}
use Rattle.rl_text.specs.Maker.{Made, Wants}
use Rattle.rl_text.specs.Byte as byte
use Rattle.rl_text.specs.Reader.{ended_with}
use Rattle.rl_text.specs.Reader as reader
use Rattle.rl_world.specs.declared.world.World.{World}
use Rattle.rl_world.specs.declared.stop.Stop.{Stop}
use Rattle.rl_read.specs.Given.{is_counted}
use Rattle.rl_read.specs.Stock.{PairChain, Stock, and_then_made, in_stock, stock_of}
use Rattle.rl_read.specs.Frames.{CanMake, IsMaking, IsReading, IsReadyToRead, frames_in}
use Rattle.rl_read.specs.Steps.{IsEnded, ended_of}
use Rattle.rl_read.specs.Calls.{EndsElement, IsValueOrCounted, Makes, MakesNoObject, OfReader, ReadsOn, TakesStep, value_or_want}
use Rattle.rl_read.specs.declared.frames.Group.{Group}
use Rattle.rl_read.specs.declared.step.Step.{Step}
use Rattle.rl_read.specs.declared.step.Step.TheVariants as step
use Rattle.rl_read.specs.declared.step.Ended.{Ended}
use Rattle.rl_read.proofs.MakingStays.{making_refl, making_trans, reading_of_making, reading_refl, reading_trans}

-- ---- making

-- something is wanting, and nothing has changed
pub makes_none : {T A : Type 0} {value : T → A} {is : T → Type 0} {made : Stock → Made Stock A Stop} (w : World) (s : Stop) → CanMake w → made (stock_of w) ≡ Wants s (stock_of w) → is_counted s ≡ true → Makes w w value is made (Err s)
makes_none w s able wants counted = record { means = wants; sound = counted; able = able; making = making_refl w }

-- nothing has changed at all
pub nothing_made : (w : World) → CanMake w → MakesNoObject w w
nothing_made w able = record { same = refl; able = able; making = making_refl w }

-- it is made of what was made before it
pub makes_after : {T A : Type 0} {old mid new : World} {value : T → A} {is : T → Type 0} {one other : Stock → Made Stock A Stop} {r : Result T Stop} → IsMaking old mid → Makes mid new value is one r → other (stock_of old) ≡ one (stock_of mid) → Makes old new value is other r
makes_after {old = old} {mid = mid} {new = new} first h same = record { means = same ∙ h.means; sound = h.sound; able = h.able; making = making_trans old mid new first h.making }

pub makes_same : {T A : Type 0} {old new : World} {value : T → A} {is : T → Type 0} {one other : Stock → Made Stock A Stop} {r : Result T Stop} → Makes old new value is one r → other (stock_of old) ≡ one (stock_of old) → Makes old new value is other r
makes_same h same = record { means = same ∙ h.means; sound = h.sound; able = h.able; making = h.making }

-- what it makes is less too
pub sound_as : {T : Type 0} {is also : T → Type 0} → (r : Result T Stop) → ((v : T) → is v → also v) → IsValueOrCounted is r → IsValueOrCounted also r
sound_as (Ok v) less h = less v h
sound_as (Err s) less h = h

pub makes_as : {T A : Type 0} {old new : World} {value : T → A} {is also : T → Type 0} {made : Stock → Made Stock A Stop} {r : Result T Stop} → ((v : T) → is v → also v) → Makes old new value is made r → Makes old new value also made r
makes_as {r = r} less h = record { means = h.means; sound = sound_as r less h.sound; able = h.able; making = h.making }

-- where a part is wanting, the whole is
pub makes_no_part : {T U A B : Type 0} {old new : World} {value : T → A} {is : T → Type 0} {of : U → B} {also : U → Type 0} {part : Stock → Made Stock A Stop} {whole : Stock → Made Stock B Stop} {s : Stop} → Makes old new value is part (Err s) → (next : A → Stock → Made Stock B Stop) → whole (stock_of old) ≡ and_then_made (part (stock_of old)) next → Makes old new of also whole (Err s)
makes_no_part h next same = record { means = same ∙ ap (λ x. and_then_made x next) h.means; sound = h.sound; able = h.able; making = h.making }

-- ---- reading

-- nothing has changed, and what it comes to is known
pub reads_here : {T D : Type 0} {meant : Bool → D} {value : T → D} {want : Stop → D} {is : T → Type 0} {r : Result T Stop} (base : ℕ) (w : World) (g : Group) → IsReadyToRead base w g → ((t : Bool) → meant t ≡ value_or_want value want r) → IsValueOrCounted is r → ReadsOn base w w meant value want is r
reads_here base w g ready means sound = record { means = means; sound = sound; able = ready.able; reading = reading_refl base w }

-- the byte has no place
pub step_refused : (base : ℕ) (w : World) (g : Group) (bytes : List ℕ) (meant : OfReader (reader.ReaderStep Stock Tagged PairChain Stop)) → IsReadyToRead base w g → ((t : Bool) → meant (in_stock t) (frames_in base w g) (stock_of w) ≡ reader.Refuses (stock_of w)) → TakesStep base w g w bytes meant (Ok step.Refuses)
step_refused base w g bytes meant ready means = record { means = means; sound = (g, ready); able = ready.able; reading = reading_refl base w }

-- the same by another name
pub reads_same : {T D : Type 0} {base : ℕ} {old new : World} {one other : Bool → D} {value : T → D} {want : Stop → D} {is : T → Type 0} {r : Result T Stop} → ReadsOn base old new one value want is r → ((t : Bool) → other t ≡ one t) → ReadsOn base old new other value want is r
reads_same h same = record { means = λ t. same t ∙ h.means t; sound = h.sound; able = h.able; reading = h.reading }

-- after what was read before
pub reads_after : {T D : Type 0} {base : ℕ} {old mid new : World} {one other : Bool → D} {value : T → D} {want : Stop → D} {is : T → Type 0} {r : Result T Stop} → IsReading base old mid → ReadsOn base mid new one value want is r → ((t : Bool) → other t ≡ one t) → ReadsOn base old new other value want is r
reads_after {base = base} {old = old} {mid = mid} {new = new} first h same = record { means = λ t. same t ∙ h.means t; sound = h.sound; able = h.able; reading = reading_trans base old mid new first h.reading }

-- what follows of what it comes to
pub reads_then : {T U D E : Type 0} {base : ℕ} {old new : World} {meant : Bool → D} {value : T → D} {want : Stop → D} {is : T → Type 0} {r : Result T Stop} {of : U → E} {lacks : Stop → E} {also : U → Type 0} {q : Result U Stop}
    → (f : Bool → D → E) → ReadsOn base old new meant value want is r → ((t : Bool) → f t (value_or_want value want r) ≡ value_or_want of lacks q) → IsValueOrCounted also q → ReadsOn base old new (λ t. f t (meant t)) of lacks also q
reads_then f h same sound = record { means = λ t. ap (f t) (h.means t) ∙ same t; sound = sound; able = h.able; reading = h.reading }

-- ---- the end of an element

-- what was made for it is its end
pub made_ends : {T A : Type 0} {old new : World} {value : T → A} {is : T → Type 0} {made : Stock → Made Stock A Stop} {v : T} (base : ℕ) (g : Group) (meant : OfReader (reader.Ended Stock Tagged PairChain Stop)) (next : Bool → A → Stock → reader.Ended Stock Tagged PairChain Stop) (e : Ended)
    → Makes old new value is made (Ok v) → ((t : Bool) → meant (in_stock t) (frames_in base old g) (stock_of old) ≡ ended_with (made (stock_of old)) (next t)) → ((t : Bool) → next t (value v) (stock_of new) ≡ ended_of base new e) → IsEnded base new e → EndsElement base old g new meant (Ok e)
made_ends {old = old} {new = new} base g meant next e h same ends sound = record {
  means = λ t. same t ∙ ap (λ x. ended_with x (next t)) h.means ∙ ends t;
  sound = sound;
  able = h.able;
  reading = reading_of_making base old new h.making;
}

-- where what is made for it is wanting, so is its end
pub made_lacks : {T A : Type 0} {old new : World} {value : T → A} {is : T → Type 0} {made : Stock → Made Stock A Stop} {s : Stop} (base : ℕ) (g : Group) (meant : OfReader (reader.Ended Stock Tagged PairChain Stop)) (next : Bool → A → Stock → reader.Ended Stock Tagged PairChain Stop)
    → Makes old new value is made (Err s) → ((t : Bool) → meant (in_stock t) (frames_in base old g) (stock_of old) ≡ ended_with (made (stock_of old)) (next t)) → EndsElement base old g new meant (Err s)
made_lacks {old = old} {new = new} base g meant next h same = record {
  means = λ t. same t ∙ ap (λ x. ended_with x (next t)) h.means;
  sound = h.sound;
  able = h.able;
  reading = reading_of_making base old new h.making;
}

-- where an element that ends with a byte is wanting, so is the step
pub step_lacks : {old new : World} {s : Stop} (base : ℕ) (g : Group) (bytes : List ℕ) (element : OfReader (reader.Ended Stock Tagged PairChain Stop)) → EndsElement base old g new element (Err s) → TakesStep base old g new bytes (λ m fs k. reader.goes_after (element m fs k)) (Err s)
step_lacks base g bytes element h = reads_then (λ t e. reader.goes_after e) h (λ t. refl) h.sound

-- ---- between spellings

-- the byte's class tells what it does, and a word begins with these bytes
pub gap_step : {base : ℕ} {old new : World} {r : Result Step Stop} {word : List ℕ} → (g : Group) (b : ℕ) (class : byte.Class) → class ≡ byte.class_of b → (bytes : List ℕ) → word ≡ bytes → TakesStep base old g new bytes (λ m fs k. reader.at_class m class b fs k) r → TakesStep base old g new word (λ m fs k. reader.at_gap m b fs k) r
gap_step {base = base} {old = old} {new = new} {r = r} g b class is bytes same h =
    subst (λ (word : List ℕ). TakesStep base old g new word (λ m fs k. reader.at_gap m b fs k) r) (sym same)
    (subst (λ (class : byte.Class). TakesStep base old g new bytes (λ m fs k. reader.at_class m class b fs k) r) is h)
