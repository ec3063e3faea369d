-- What each operation of a maker keeps, reading keeps: the maker is related to that of data, which wants nothing, whatever this makes.
use Rattle.std.proofs.Common.{List, [], ◌∷◌}
use Rattle.rl_text.specs.Datum.{Datum}
use Rattle.rl_text.specs.Maker.{Made, Has, Maker}
use Rattle.rl_text.specs.Makers.{MakerRelations, MadeRelated, both_have, first_wants, AreMakersRelated, FramesRelated, no_frames, listing, vectoring, quoting, StepsRelated, both_go, both_end, both_have_no_place, both_halt, first_halts, second_halts, OutcomesRelated, both_read, both_find_none, both_refuse, both_stop, first_stops, second_stops}
use Rattle.rl_text.specs.Keeping.{MakerKeeps, MadeKept, made_kept, wants_kept, IsKeptByMaker, FramesKept, StepKept, goes_kept, done_kept, refuses_kept, halts_kept, OutcomeKept, read_kept, none_kept, refused_kept, stopped_kept, KeptAlongText}
use Rattle.rl_text.specs.Reader.{ReaderFrame, Listing, Vectoring, Quoting, ReaderStep, ReaderOutcome}
use Rattle.rl_text.specs.Reading.{Items, plain}
use Rattle.rl_text.proofs.RelatedMakers.{ends_related}

module _ {S V L W : Type 0} (keeps : MakerKeeps S V L W) where
  abbrev beside : MakerRelations (Unit {0}) S V L W (Unit {0}) Datum Items ⊥
  beside = record {
    grows = λ at now. Unit {0};
    states = λ at s t. keeps.states s;
    values = λ at v u. keeps.values v;
    lists = λ at l k. keeps.lists l;
    wants = λ w s x t. ⊥;
    wants_first = keeps.wants;
    wants_second = λ x t. ⊥;
  }

  made_beside : {A B : Type 0} (has : A → Type 0) (x : Made S A W) (b : B) → MadeKept keeps has x → MadeRelated beside tt (λ now a b. has a) x (Has b tt)
  made_beside has x b (made_kept a s h k) = both_have tt a b s tt tt h k
  made_beside has x b (wants_kept w s h) = first_wants w s _ h

  related_beside : (m : Maker S V L W) → IsKeptByMaker keeps m → AreMakersRelated beside m plain
  related_beside m kept = record {
    names = record { same = λ at. tt; and_then = λ at now later g h. tt; values = λ at now g v u h. h; lists = λ at now g l k h. h };
    turn = λ at s t h. made_beside _ _ _ (kept.turn s h);
    enter = λ at s t h. made_beside _ _ _ (kept.enter s h);
    leave = λ at s t h. kept.leave s h;
    atom = λ at a is s t h. made_beside keeps.values _ _ (kept.atom a is s h);
    nil = λ at s t h. kept.nil;
    empty = λ at s t h. kept.empty;
    extended = λ at l k v u s t e f h. made_beside keeps.lists _ _ (kept.extended l v s e f h);
    ended = λ at l k v u s t e f h. made_beside keeps.lists _ _ (kept.ended l v s e f h);
    list = λ at l k s t e h. kept.list l e;
    vector = λ at l k s t e h. made_beside keeps.values _ _ (kept.vector l s e h);
    quoted = λ at v u s t e h. made_beside keeps.values _ _ (kept.quoted v s e h);
  }

  -- ---- what has begun

  abbrev data_frames : List (ReaderFrame L) → List (ReaderFrame Items)
  data_frames [] = []
  data_frames (Listing l n p ∷ fs) = Listing plain.empty n p ∷ data_frames fs
  data_frames (Vectoring l ∷ fs) = Vectoring plain.empty ∷ data_frames fs
  data_frames (Quoting ∷ fs) = Quoting ∷ data_frames fs

  frames_beside : (fs : List (ReaderFrame L)) → FramesKept keeps fs → FramesRelated beside tt fs (data_frames fs)
  frames_beside [] h = no_frames
  frames_beside (Listing l n p ∷ fs) h = listing l plain.empty n p fs _ h.0 (frames_beside fs h.1)
  frames_beside (Vectoring l ∷ fs) h = vectoring l plain.empty fs _ h.0 (frames_beside fs h.1)
  frames_beside (Quoting ∷ fs) h = quoting fs _ (frames_beside fs h)

  frames_kept : (fs : List (ReaderFrame L)) (gs : List (ReaderFrame Items)) → FramesRelated beside tt fs gs → FramesKept keeps fs
  frames_kept fs gs no_frames = tt
  frames_kept fs gs (listing l k n p fs' gs' e f) = (e, frames_kept fs' gs' f)
  frames_kept fs gs (vectoring l k fs' gs' e f) = (e, frames_kept fs' gs' f)
  frames_kept fs gs (quoting fs' gs' f) = frames_kept fs' gs' f

  -- ---- a byte, and how a text ends

  step_kept : (x : ReaderStep S V L W) (y : ReaderStep (Unit {0}) Datum Items ⊥) → StepsRelated beside tt x y → StepKept keeps x
  step_kept x y (both_go now mode fs gs s t g fit f h) = goes_kept mode fs s fit (frames_kept fs gs f) h
  step_kept x y (both_end now v u used s t g h k) = done_kept v used s h k
  step_kept x y (both_have_no_place now s t g h) = refuses_kept s h
  step_kept x y (both_halt w z s t h) = absurd z
  step_kept x y (first_halts w s other h) = halts_kept w s h
  step_kept x y (second_halts z t other h) = absurd z

  outcome_kept : (x : ReaderOutcome S V W) (y : ReaderOutcome (Unit {0}) Datum ⊥) → OutcomesRelated beside tt x y → OutcomeKept keeps x
  outcome_kept x y (both_read now v u s t rest g h k) = read_kept v s rest h k
  outcome_kept x y (both_find_none now s t g h) = none_kept s h
  outcome_kept x y (both_refuse now s t from g h) = refused_kept s from h
  outcome_kept x y (both_stop w z s t rest h) = absurd z
  outcome_kept x y (first_stops w s rest other h) = stopped_kept w s rest h
  outcome_kept x y (second_stops z t rest other h) = absurd z

  pub kept_along_text : KeptAlongText keeps
  kept_along_text =
      let law = ends_related beside in
      record {
        text = λ m kept s bytes h. outcome_kept _ _ (law.text m plain (related_beside m kept) tt s tt bytes h);
        byte = λ m kept mode b fs s fit f h. step_kept _ _ (law.byte m plain (related_beside m kept) tt mode b fs (data_frames fs) s tt fit (frames_beside fs f) h);
        end = λ m kept mode fs s fit f h. outcome_kept _ _ (law.end m plain (related_beside m kept) tt mode fs (data_frames fs) s tt fit (frames_beside fs f) h);
      }
