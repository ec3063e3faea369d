-- One maker of what is read: what each of its operations keeps of states, values and lists, and so a byte, and a text.
use Rattle.std.specs.Prelude.{ℕ, Bool, List, [], ◌∷◌}
use Rattle.rl_text.specs.Word.{Atom}
use Rattle.rl_text.specs.Maker.{Made, Has, Wants, Maker}
use Rattle.rl_text.specs.Makers.{IsSpellable, IsFit}
use Rattle.rl_text.specs.Reader.{ReaderFrame, Listing, Vectoring, Quoting, Mode, ReaderStep, Goes, Done, Refuses, Halts, reader_step, ReaderOutcome, Read, NoneLeft, Refused, Stopped, at_end, read_by}

-- what holds of states, values and lists, and of a state in which something is wanting
pub record MakerKeeps (S V L W : Type 0) : Type 1 where
  pub states : S → Type 0
  pub values : V → Type 0
  pub lists : L → Type 0
  pub wants : W → S → Type 0

module _ {S V L W : Type 0} (keeps : MakerKeeps S V L W) where
  pub data MadeKept {A : Type 0} (has : A → Type 0) : Made S A W → Type 0 where
    made_kept : (a : A) (s : S) → has a → keeps.states s → MadeKept has (Has a s)
    wants_kept : (w : W) (s : S) → keeps.wants w s → MadeKept has (Wants w s)

  -- each operation keeps it
  pub record IsKeptByMaker (m : Maker S V L W) : Type 0 where
    pub turn : (s : S) → keeps.states s → MadeKept (λ a. Unit {0}) (m.turn s)
    pub enter : (s : S) → keeps.states s → MadeKept (λ a. Unit {0}) (m.enter s)
    pub leave : (s : S) → keeps.states s → keeps.states (m.leave s)
    pub atom : (a : Atom) → IsSpellable a → (s : S) → keeps.states s → MadeKept keeps.values (m.atom a s)
    pub nil : keeps.values m.nil
    pub empty : keeps.lists m.empty
    pub extended : (l : L) (v : V) (s : S) → keeps.lists l → keeps.values v → keeps.states s → MadeKept keeps.lists (m.extended l v s)
    pub ended : (l : L) (v : V) (s : S) → keeps.lists l → keeps.values v → keeps.states s → MadeKept keeps.lists (m.ended l v s)
    pub list : (l : L) → keeps.lists l → keeps.values (m.list l)
    pub vector : (l : L) (s : S) → keeps.lists l → keeps.states s → MadeKept keeps.values (m.vector l s)
    pub quoted : (v : V) (s : S) → keeps.values v → keeps.states s → MadeKept keeps.values (m.quoted v s)

  -- what has begun has it
  abbrev pub FramesKept : List (ReaderFrame L) → Type 0
  FramesKept [] = Unit {0}
  FramesKept (Listing l n p ∷ fs) = keeps.lists l × FramesKept fs
  FramesKept (Vectoring l ∷ fs) = keeps.lists l × FramesKept fs
  FramesKept (Quoting ∷ fs) = FramesKept fs

  pub data StepKept : ReaderStep S V L W → Type 0 where
    goes_kept : (mode : Mode) (fs : List (ReaderFrame L)) (s : S) → IsFit mode → FramesKept fs → keeps.states s → StepKept (Goes mode fs s)
    done_kept : (v : V) (used : Bool) (s : S) → keeps.values v → keeps.states s → StepKept (Done v used s)
    refuses_kept : (s : S) → keeps.states s → StepKept (Refuses s)
    halts_kept : (w : W) (s : S) → keeps.wants w s → StepKept (Halts w s)

  pub data OutcomeKept : ReaderOutcome S V W → Type 0 where
    read_kept : (v : V) (s : S) (rest : List ℕ) → keeps.values v → keeps.states s → OutcomeKept (Read v s rest)
    none_kept : (s : S) → keeps.states s → OutcomeKept (NoneLeft s)
    refused_kept : (s : S) (from : List ℕ) → keeps.states s → OutcomeKept (Refused s from)
    stopped_kept : (w : W) (s : S) (rest : List ℕ) → keeps.wants w s → OutcomeKept (Stopped w s rest)

  -- what each operation of a maker keeps stands behind a text, behind one byte of it, and at its end
  pub record KeptAlongText : Type 0 where
    pub text : (m : Maker S V L W) → IsKeptByMaker m → (s : S) (bytes : List ℕ) → keeps.states s → OutcomeKept (read_by m s bytes)
    pub byte : (m : Maker S V L W) → IsKeptByMaker m → (mode : Mode) (b : ℕ) (fs : List (ReaderFrame L)) (s : S) → IsFit mode → FramesKept fs → keeps.states s → StepKept (reader_step m mode b fs s)
    pub end : (m : Maker S V L W) → IsKeptByMaker m → (mode : Mode) (fs : List (ReaderFrame L)) (s : S) → IsFit mode → FramesKept fs → keeps.states s → OutcomeKept (at_end m mode fs s)

-- where nothing is asked
abbrev pub nothing_kept : MakerKeeps (Unit {0}) (Unit {0}) (Unit {0}) (Unit {0})
nothing_kept = record { states = λ s. Unit {0}; values = λ v. Unit {0}; lists = λ l. Unit {0}; wants = λ w s. Unit {0} }
