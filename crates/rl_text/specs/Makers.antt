-- Two makers of what is read: relations of their states, values and lists that each operation keeps, under names to which it may add, and how a byte and a text then end for both.
use Rattle.std.specs.Prelude.{◌≤◌, ℕ, Bool, List, [], ◌∷◌, length}
use Rattle.rl_text.specs.Word.{Atom, Identifier}
use Rattle.rl_text.specs.Maker.{Made, Has, Wants, Maker}
use Rattle.rl_text.specs.Reader.{Phase, ReaderFrame, Listing, Vectoring, Quoting, Mode, InName, InEscape, ReaderStep, Goes, Done, Refuses, Halts, reader_step, ReaderOutcome, Read, NoneLeft, Refused, Stopped, at_end, read_by}

-- an atom that a text can spell: a name has 1 to 255 bytes
abbrev pub IsSpellable : Atom → Type 0
IsSpellable (Identifier name) = (1 ≤ length name) × (length name ≤ 255)
IsSpellable a = Unit {0}

-- a name that is under way has at most 255 bytes, and behind `!` room for one more
abbrev pub IsFit : Mode → Type 0
IsFit (InName cs) = (1 ≤ length cs) × (length cs ≤ 255)
IsFit (InEscape cs) = length cs ≤ 254
IsFit mode = Unit {0}

-- what relates two makers: states, values and lists under names, which may grow
pub record MakerRelations (N S V L W T U K X : Type 0) : Type 1 where
  pub grows : N → N → Type 0
  pub states : N → S → T → Type 0
  pub values : N → V → U → Type 0
  pub lists : N → L → K → Type 0
  -- what is wanting where both stop
  pub wants : W → S → X → T → Type 0
  -- where the first does, whatever comes of the second; and the other way round
  pub wants_first : W → S → Type 0
  pub wants_second : X → T → Type 0

module _ {N S V L W T U K X : Type 0} (r : MakerRelations N S V L W T U K X) where
  -- names grow by a preorder, and what is related stays so
  pub record AreNamesGrowing : Type 0 where
    pub same : (at : N) → r.grows at at
    pub and_then : (at now later : N) → r.grows at now → r.grows now later → r.grows at later
    pub values : (at now : N) → r.grows at now → (v : V) (u : U) → r.values at v u → r.values now v u
    pub lists : (at now : N) → r.grows at now → (l : L) (k : K) → r.lists at l k → r.lists now l k

  -- both make what is related under grown names, or both stop, or one of them does
  pub data MadeRelated {A B : Type 0} (at : N) (related : N → A → B → Type 0) : Made S A W → Made T B X → Type 0 where
    both_have : (now : N) (a : A) (b : B) (s : S) (t : T) → r.grows at now → related now a b → r.states now s t → MadeRelated at related (Has a s) (Has b t)
    both_want : (w : W) (x : X) (s : S) (t : T) → r.wants w s x t → MadeRelated at related (Wants w s) (Wants x t)
    first_wants : (w : W) (s : S) (other : Made T B X) → r.wants_first w s → MadeRelated at related (Wants w s) other
    second_wants : (x : X) (t : T) (other : Made S A W) → r.wants_second x t → MadeRelated at related other (Wants x t)

  -- each operation keeps the relations
  pub record AreMakersRelated (m : Maker S V L W) (n : Maker T U K X) : Type 0 where
    pub names : AreNamesGrowing
    pub turn : (at : N) (s : S) (t : T) → r.states at s t → MadeRelated at (λ now a b. Unit {0}) (m.turn s) (n.turn t)
    pub enter : (at : N) (s : S) (t : T) → r.states at s t → MadeRelated at (λ now a b. Unit {0}) (m.enter s) (n.enter t)
    pub leave : (at : N) (s : S) (t : T) → r.states at s t → r.states at (m.leave s) (n.leave t)
    pub atom : (at : N) (a : Atom) → IsSpellable a → (s : S) (t : T) → r.states at s t → MadeRelated at r.values (m.atom a s) (n.atom a t)
    pub nil : (at : N) (s : S) (t : T) → r.states at s t → r.values at m.nil n.nil
    pub empty : (at : N) (s : S) (t : T) → r.states at s t → r.lists at m.empty n.empty
    pub extended : (at : N) (l : L) (k : K) (v : V) (u : U) (s : S) (t : T) → r.lists at l k → r.values at v u → r.states at s t → MadeRelated at r.lists (m.extended l v s) (n.extended k u t)
    pub ended : (at : N) (l : L) (k : K) (v : V) (u : U) (s : S) (t : T) → r.lists at l k → r.values at v u → r.states at s t → MadeRelated at r.lists (m.ended l v s) (n.ended k u t)
    pub list : (at : N) (l : L) (k : K) (s : S) (t : T) → r.lists at l k → r.states at s t → r.values at (m.list l) (n.list k)
    pub vector : (at : N) (l : L) (k : K) (s : S) (t : T) → r.lists at l k → r.states at s t → MadeRelated at r.values (m.vector l s) (n.vector k t)
    pub quoted : (at : N) (v : V) (u : U) (s : S) (t : T) → r.values at v u → r.states at s t → MadeRelated at r.values (m.quoted v s) (n.quoted u t)

  -- the same has begun
  pub data FramesRelated (at : N) : List (ReaderFrame L) → List (ReaderFrame K) → Type 0 where
    no_frames : FramesRelated at [] []
    listing : (l : L) (k : K) (n : ℕ) (p : Phase) (fs : List (ReaderFrame L)) (gs : List (ReaderFrame K)) → r.lists at l k → FramesRelated at fs gs → FramesRelated at (Listing l n p ∷ fs) (Listing k n p ∷ gs)
    vectoring : (l : L) (k : K) (fs : List (ReaderFrame L)) (gs : List (ReaderFrame K)) → r.lists at l k → FramesRelated at fs gs → FramesRelated at (Vectoring l ∷ fs) (Vectoring k ∷ gs)
    quoting : (fs : List (ReaderFrame L)) (gs : List (ReaderFrame K)) → FramesRelated at fs gs → FramesRelated at (Quoting ∷ fs) (Quoting ∷ gs)

  -- a byte comes to the same for both; or one of them stops
  pub data StepsRelated (at : N) : ReaderStep S V L W → ReaderStep T U K X → Type 0 where
    both_go : (now : N) (mode : Mode) (fs : List (ReaderFrame L)) (gs : List (ReaderFrame K)) (s : S) (t : T) → r.grows at now → IsFit mode → FramesRelated now fs gs → r.states now s t → StepsRelated at (Goes mode fs s) (Goes mode gs t)
    both_end : (now : N) (v : V) (u : U) (used : Bool) (s : S) (t : T) → r.grows at now → r.values now v u → r.states now s t → StepsRelated at (Done v used s) (Done u used t)
    both_have_no_place : (now : N) (s : S) (t : T) → r.grows at now → r.states now s t → StepsRelated at (Refuses s) (Refuses t)
    both_halt : (w : W) (x : X) (s : S) (t : T) → r.wants w s x t → StepsRelated at (Halts w s) (Halts x t)
    first_halts : (w : W) (s : S) (other : ReaderStep T U K X) → r.wants_first w s → StepsRelated at (Halts w s) other
    second_halts : (x : X) (t : T) (other : ReaderStep S V L W) → r.wants_second x t → StepsRelated at other (Halts x t)

  -- a text ends for both in the same way and with the same bytes left; or one of them stops
  pub data OutcomesRelated (at : N) : ReaderOutcome S V W → ReaderOutcome T U X → Type 0 where
    both_read : (now : N) (v : V) (u : U) (s : S) (t : T) (rest : List ℕ) → r.grows at now → r.values now v u → r.states now s t → OutcomesRelated at (Read v s rest) (Read u t rest)
    both_find_none : (now : N) (s : S) (t : T) → r.grows at now → r.states now s t → OutcomesRelated at (NoneLeft s) (NoneLeft t)
    both_refuse : (now : N) (s : S) (t : T) (from : List ℕ) → r.grows at now → r.states now s t → OutcomesRelated at (Refused s from) (Refused t from)
    both_stop : (w : W) (x : X) (s : S) (t : T) (rest : List ℕ) → r.wants w s x t → OutcomesRelated at (Stopped w s rest) (Stopped x t rest)
    first_stops : (w : W) (s : S) (rest : List ℕ) (other : ReaderOutcome T U X) → r.wants_first w s → OutcomesRelated at (Stopped w s rest) other
    second_stops : (x : X) (t : T) (rest : List ℕ) (other : ReaderOutcome S V W) → r.wants_second x t → OutcomesRelated at other (Stopped x t rest)

  -- makers whose operations keep the relations read alike from states that are related: a text, one byte of it, and its end
  pub record EndRelated : Type 0 where
    pub text : (m : Maker S V L W) (n : Maker T U K X) → AreMakersRelated m n → (at : N) (s : S) (t : T) (bytes : List ℕ) → r.states at s t → OutcomesRelated at (read_by m s bytes) (read_by n t bytes)
    pub byte : (m : Maker S V L W) (n : Maker T U K X) → AreMakersRelated m n → (at : N) (mode : Mode) (b : ℕ) (fs : List (ReaderFrame L)) (gs : List (ReaderFrame K)) (s : S) (t : T) → IsFit mode → FramesRelated at fs gs → r.states at s t
        → StepsRelated at (reader_step m mode b fs s) (reader_step n mode b gs t)
    pub end : (m : Maker S V L W) (n : Maker T U K X) → AreMakersRelated m n → (at : N) (mode : Mode) (fs : List (ReaderFrame L)) (gs : List (ReaderFrame K)) (s : S) (t : T) → IsFit mode → FramesRelated at fs gs → r.states at s t
        → OutcomesRelated at (at_end m mode fs s) (at_end n mode gs t)

-- where nothing is asked
abbrev pub unrelated : MakerRelations (Unit {0}) (Unit {0}) (Unit {0}) (Unit {0}) (Unit {0}) (Unit {0}) (Unit {0}) (Unit {0}) (Unit {0})
unrelated = record { grows = λ at now. Unit {0}; states = λ at s t. Unit {0}; values = λ at v u. Unit {0}; lists = λ at l k. Unit {0}; wants = λ w s x t. Unit {0}; wants_first = λ w s. Unit {0}; wants_second = λ x t. Unit {0} }
