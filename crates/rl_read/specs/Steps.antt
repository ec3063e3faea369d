-- What a byte and the end of an element come to, told as the definition tells it.
use Rattle.std.specs.Prelude.{◌≡◌, ℕ, ◌^◌, ◌<◌, ◌≤◌, Bool, true, false, if◌then◌else◌, List, [], ◌∷◌, length}
use Rattle.rl_tags.specs.Tagged.{Tagged}
use Rattle.rl_cells.specs.Cell.{is_live}
use Rattle.rl_text.specs.Word as word
use Rattle.rl_text.specs.Maker.{Made, Maker, Has}
use Rattle.rl_text.specs.Reader as reader
use Rattle.rl_world.specs.declared.world.World.{World}
use Rattle.rl_world.specs.declared.stop.Stop.{Stop}
use Rattle.rl_syms.specs.Table.{nil_value}
use Rattle.rl_read.specs.Stock.{Stock, PairChain, chain_ended, stock_of}
use Rattle.rl_read.specs.Frames.{IsReadyToRead, frames_in, opening_frame}
use Rattle.rl_read.specs.declared.frames.Opening.{Opening}
use Rattle.rl_read.specs.declared.frames.Phase.{Phase}
use Rattle.rl_read.specs.declared.frames.Phase.TheVariants as phase
use Rattle.rl_read.specs.declared.frames.Group.{Group}
use Rattle.rl_read.specs.declared.frames.Group.TheVariants as group
use Rattle.rl_read.specs.declared.make.Atom.{Atom}
use Rattle.rl_read.specs.declared.make.Atom.TheVariants as atom
use Rattle.rl_read.specs.declared.word.Mode.{Mode}
use Rattle.rl_read.specs.declared.word.Mode.TheVariants as mode
use Rattle.rl_read.specs.declared.step.Step.{Step}
use Rattle.rl_read.specs.declared.step.Step.TheVariants as step
use Rattle.rl_read.specs.declared.step.Ended.{Ended}
use Rattle.rl_read.specs.declared.step.Ended.TheVariants as how

-- ---- bytes and words

abbrev pub mode_of : Mode → List ℕ → reader.Mode
mode_of mode.Gap bytes = reader.Gap
mode_of mode.Comment bytes = reader.Comment
mode_of mode.Name bytes = reader.InName bytes
mode_of mode.Escape bytes = reader.InEscape bytes
mode_of (mode.Sign c) bytes = reader.AfterSign c
mode_of (mode.Number minus n) bytes = reader.InNumber minus n
mode_of mode.Text bytes = reader.InText bytes
mode_of mode.Quote bytes = reader.AfterQuote bytes

abbrev pub IsNumber : Bool → ℕ → Type 0
IsNumber true n = n ≤ 2 ^ 59
IsNumber false n = n < 2 ^ 59

-- a name that has begun has a byte and at most 255, one that goes on behind `!` fewer, and a number is in range
abbrev pub IsMode : Mode → List ℕ → Type 0
IsMode mode.Name bytes = (1 ≤ length bytes) × (length bytes ≤ 255)
IsMode mode.Escape bytes = length bytes < 255
IsMode (mode.Number minus n) bytes = IsNumber minus n
IsMode m bytes = Unit {0}

-- ---- atoms

abbrev pub atom_meant : Atom → word.Atom
atom_meant (atom.Identifier name) = word.Identifier name.now
atom_meant (atom.Text bytes) = word.String bytes.now

abbrev pub IsAtom : Atom → Type 0
IsAtom (atom.Identifier name) = (1 ≤ length name.now) × (length name.now ≤ 255)
IsAtom (atom.Text bytes) = length bytes.now ≤ 65535

-- the word that ends has become this atom
abbrev pub word_atom : Mode → List ℕ → word.Atom
word_atom mode.Name bytes = word.Identifier bytes
word_atom (mode.Sign c) bytes = word.Identifier (c ∷ [])
word_atom (mode.Number minus n) bytes = word.Integer (word.signed minus n)
word_atom m bytes = word.String bytes

-- a word that may end
abbrev pub may_end : Mode → Bool
may_end mode.Name = true
may_end (mode.Sign c) = true
may_end (mode.Number minus n) = true
may_end mode.Quote = true
may_end m = false

abbrev pub is_text_mode : Mode → Bool
is_text_mode mode.Text = true
is_text_mode mode.Quote = true
is_text_mode m = false

abbrev pub is_digits_mode : Mode → Bool
is_digits_mode (mode.Sign c) = true
is_digits_mode (mode.Number minus n) = true
is_digits_mode m = false

-- ---- what begins and ends

abbrev pub opens_at : Maker Stock Tagged PairChain Stop → Opening → List (reader.ReaderFrame PairChain) → Stock → reader.ReaderStep Stock Tagged PairChain Stop
opens_at m o fs k = if reader.admits fs then opening_frame m o fs k else reader.Refuses k

-- a list behind a dot ends with NIL, but where it has had its own dot
abbrev pub inner_ended : Phase → PairChain → Stock → Made Stock PairChain Stop
inner_ended phase.Shut c k = Has c k
inner_ended p c k = chain_ended c nil_value k

-- ---- what it comes to

abbrev pub ended_of : ℕ → World → Ended → reader.Ended Stock Tagged PairChain Stop
ended_of base w (how.Whole v) = reader.Whole v (stock_of w)
ended_of base w (how.Inside g) = reader.Inside (frames_in base w g) (stock_of w)

abbrev pub step_of : ℕ → World → List ℕ → Step → reader.ReaderStep Stock Tagged PairChain Stop
step_of base w bytes (step.Goes m g) = reader.Goes (mode_of m bytes) (frames_in base w g) (stock_of w)
step_of base w bytes (step.Done v used) = reader.Done v used (stock_of w)
step_of base w bytes step.Refuses = reader.Refuses (stock_of w)

-- the whole text has ended: nothing is kept, and the value is live
pub record IsWhole (base : ℕ) (w : World) (v : Tagged) : Type 0 where
  pub ready : IsReadyToRead base w group.Root
  pub live : is_live w.cells.cells v ≡ true

abbrev pub IsEnded : ℕ → World → Ended → Type 0
IsEnded base w (how.Whole v) = IsWhole base w v
IsEnded base w (how.Inside g) = IsReadyToRead base w g

-- where it goes on, all is ready for the next byte
abbrev pub IsStep : ℕ → World → List ℕ → Step → Type 0
IsStep base w bytes (step.Goes m g) = IsReadyToRead base w g × IsMode m bytes
IsStep base w bytes (step.Done v used) = IsWhole base w v
IsStep base w bytes step.Refuses = (g : Group) × IsReadyToRead base w g
