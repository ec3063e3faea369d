-- Makers whose operations keep relations read alike: byte by byte, from lists that have begun alike.
use Rattle.std.proofs.Common.{◌≡◌, ◌≤◌, ◌++◌, refl, arith, length-append, ℕ, zero, suc, ◌^◌, ◌+◌, ◌-◌, ◌*◌, ◌==◌, nat_lt, nat_le, Bool, true, false, if◌then◌else◌, List, [], ◌∷◌, length}
use Rattle.std.proofs.lemmas.Bool.{ltb-true}
use Rattle.rl_tree.specs.Bytes.{is_digit, is_name_byte, raised}
use Rattle.rl_text.specs.Byte.{Mark, Open, Close, Dot, Quote, OpenVector, CloseVector, Class, Blank, Percent, Marks, Text, Escape, Letter, Digit, Sign, Special, Nothing, class_of}
use Rattle.rl_text.specs.Word.{Atom, Integer, Identifier, String, signed}
use Rattle.rl_text.specs.Maker.{Made, Maker}
use Rattle.rl_text.specs.Makers.{IsSpellable, IsFit, MakerRelations, AreNamesGrowing, MadeRelated, both_have, both_want, first_wants, second_wants, AreMakersRelated, FramesRelated, no_frames, listing, vectoring, quoting, StepsRelated, both_go, both_end, both_have_no_place, both_halt, first_halts, second_halts, OutcomesRelated, both_read, both_find_none, both_refuse, both_stop, first_stops, second_stops, EndRelated}
use Rattle.rl_text.specs.Reader.{Phase, Begun, Going, Dotted, Shut, ReaderFrame, Listing, Quoting, Mode, Gap, Comment, InName, InEscape, AfterSign, InNumber, InText, AfterQuote, is_inner, admits, Ended, Whole, Inside, Lacks, ended_with, left, value_ended, ReaderStep, Goes, Refuses, goes_with, goes_after, group_begins, open_list, close_list, dot, close_vector, at_mark, atom_ended, in_word, at_class, goes_before, atom_before, reader_step, ReaderOutcome, Refused, ends_after, at_end_between, at_end, after_step, after_turn, read_from}

comment_fit : (b : Bool) → IsFit (if b then Gap else Comment)
comment_fit true = tt
comment_fit false = tt

longer_fit : (cs : List ℕ) (b : ℕ) → length cs ≤ 254 → IsFit (InName (cs ++ b ∷ []))
longer_fit cs b l = let long = length-append cs (b ∷ []) in (omega (arith, long), omega (arith, long, l))

module _ {N S V L W T U K X : Type 0} (r : MakerRelations N S V L W T U K X) where
  abbrev FramesL : Type 0
  FramesL = List (ReaderFrame L)

  abbrev FramesK : Type 0
  FramesK = List (ReaderFrame K)

  abbrev Frames : N → FramesL → FramesK → Type 0
  Frames at fs gs = FramesRelated r at fs gs

  abbrev Steps : N → ReaderStep S V L W → ReaderStep T U K X → Type 0
  Steps at x y = StepsRelated r at x y

  abbrev Outcomes : N → ReaderOutcome S V W → ReaderOutcome T U X → Type 0
  Outcomes at x y = OutcomesRelated r at x y

  -- an element ends for both in the same way, or one of them stops
  data EndsRelated (at : N) : Ended S V L W → Ended T U K X → Type 0 where
    whole : (now : N) (v : V) (u : U) (s : S) (t : T) → r.grows at now → r.values now v u → r.states now s t → EndsRelated at (Whole v s) (Whole u t)
    inside : (now : N) (fs : FramesL) (gs : FramesK) (s : S) (t : T) → r.grows at now → Frames now fs gs → r.states now s t → EndsRelated at (Inside fs s) (Inside gs t)
    both_lack : (w : W) (x : X) (s : S) (t : T) → r.wants w s x t → EndsRelated at (Lacks w s) (Lacks x t)
    first_lacks : (w : W) (s : S) (other : Ended T U K X) → r.wants_first w s → EndsRelated at (Lacks w s) other
    second_lacks : (x : X) (t : T) (other : Ended S V L W) → r.wants_second x t → EndsRelated at other (Lacks x t)

  -- ---- choices

  if_steps : (at : N) (b : Bool) (x y : ReaderStep S V L W) (z w : ReaderStep T U K X) → Steps at x z → Steps at y w → Steps at (if b then x else y) (if b then z else w)
  if_steps at true x y z w h k = h
  if_steps at false x y z w h k = k

  if_inner : (at : N) (fs : FramesL) (gs : FramesK) (x y : ReaderStep S V L W) (z w : ReaderStep T U K X) → Frames at fs gs → Steps at x z → Steps at y w → Steps at (if is_inner fs then x else y) (if is_inner gs then z else w)
  if_inner at fs gs x y z w no_frames h k = k
  if_inner at fs gs x y z w (listing l m n Begun fs' gs' e f) h k = h
  if_inner at fs gs x y z w (listing l m n Going fs' gs' e f) h k = h
  if_inner at fs gs x y z w (listing l m n Dotted fs' gs' e f) h k = k
  if_inner at fs gs x y z w (listing l m n Shut fs' gs' e f) h k = h
  if_inner at fs gs x y z w (vectoring l m fs' gs' e f) h k = h
  if_inner at fs gs x y z w (quoting fs' gs' f) h k = h

  module _ (names : AreNamesGrowing r) where
    -- ---- what is related stays so

    frames_kept : (at now : N) → r.grows at now → (fs : FramesL) (gs : FramesK) → Frames at fs gs → Frames now fs gs
    frames_kept at now g fs gs no_frames = no_frames
    frames_kept at now g fs gs (listing l k n p fs' gs' e f) = listing l k n p fs' gs' (names.lists at now g l k e) (frames_kept at now g fs' gs' f)
    frames_kept at now g fs gs (vectoring l k fs' gs' e f) = vectoring l k fs' gs' (names.lists at now g l k e) (frames_kept at now g fs' gs' f)
    frames_kept at now g fs gs (quoting fs' gs' f) = quoting fs' gs' (frames_kept at now g fs' gs' f)

    ends_from : (at now : N) → r.grows at now → (d : Ended S V L W) (e : Ended T U K X) → EndsRelated now d e → EndsRelated at d e
    ends_from at now g d e (whole later v u s t h k i) = whole later v u s t (names.and_then at now later g h) k i
    ends_from at now g d e (inside later fs gs s t h k i) = inside later fs gs s t (names.and_then at now later g h) k i
    ends_from at now g d e (both_lack w x s t h) = both_lack w x s t h
    ends_from at now g d e (first_lacks w s other h) = first_lacks w s _ h
    ends_from at now g d e (second_lacks x t other h) = second_lacks x t _ h

    steps_from : (at now : N) → r.grows at now → (x : ReaderStep S V L W) (y : ReaderStep T U K X) → Steps now x y → Steps at x y
    steps_from at now g x y (both_go later mode fs gs s t h fit k i) = both_go later mode fs gs s t (names.and_then at now later g h) fit k i
    steps_from at now g x y (both_end later v u used s t h k i) = both_end later v u used s t (names.and_then at now later g h) k i
    steps_from at now g x y (both_have_no_place later s t h k) = both_have_no_place later s t (names.and_then at now later g h) k
    steps_from at now g x y (both_halt w z s t h) = both_halt w z s t h
    steps_from at now g x y (first_halts w s other h) = first_halts w s _ h
    steps_from at now g x y (second_halts z t other h) = second_halts z t _ h

    outcomes_from : (at now : N) → r.grows at now → (x : ReaderOutcome S V W) (y : ReaderOutcome T U X) → Outcomes now x y → Outcomes at x y
    outcomes_from at now g x y (both_read later v u s t rest h k i) = both_read later v u s t rest (names.and_then at now later g h) k i
    outcomes_from at now g x y (both_find_none later s t h k) = both_find_none later s t (names.and_then at now later g h) k
    outcomes_from at now g x y (both_refuse later s t from h k) = both_refuse later s t from (names.and_then at now later g h) k
    outcomes_from at now g x y (both_stop w z s t rest h) = both_stop w z s t rest h
    outcomes_from at now g x y (first_stops w s rest other h) = first_stops w s rest _ h
    outcomes_from at now g x y (second_stops z t rest other h) = second_stops z t rest _ h

    -- ---- what is made, or wanting

    ended_with_ends : {A B : Type 0} (at : N) (related : N → A → B → Type 0) (x : Made S A W) (y : Made T B X) (f : A → S → Ended S V L W) (g : B → T → Ended T U K X) → MadeRelated r at related x y
        → ((now : N) (a : A) (b : B) (s : S) (t : T) → r.grows at now → related now a b → r.states now s t → EndsRelated now (f a s) (g b t)) → EndsRelated at (ended_with x f) (ended_with y g)
    ended_with_ends at related x y f g (both_have now a b s t h e k) next = ends_from at now h _ _ (next now a b s t h e k)
    ended_with_ends at related x y f g (both_want w v s t h) next = both_lack w v s t h
    ended_with_ends at related x y f g (first_wants w s other h) next = first_lacks w s _ h
    ended_with_ends at related x y f g (second_wants v t other h) next = second_lacks v t _ h

    goes_with_steps : {A B : Type 0} (at : N) (related : N → A → B → Type 0) (x : Made S A W) (y : Made T B X) (f : A → S → ReaderStep S V L W) (g : B → T → ReaderStep T U K X) → MadeRelated r at related x y
        → ((now : N) (a : A) (b : B) (s : S) (t : T) → r.grows at now → related now a b → r.states now s t → Steps now (f a s) (g b t)) → Steps at (goes_with x f) (goes_with y g)
    goes_with_steps at related x y f g (both_have now a b s t h e k) next = steps_from at now h _ _ (next now a b s t h e k)
    goes_with_steps at related x y f g (both_want w v s t h) next = both_halt w v s t h
    goes_with_steps at related x y f g (first_wants w s other h) next = first_halts w s _ h
    goes_with_steps at related x y f g (second_wants v t other h) next = second_halts v t _ h

    goes_after_steps : (at : N) (d : Ended S V L W) (e : Ended T U K X) → EndsRelated at d e → Steps at (goes_after d) (goes_after e)
    goes_after_steps at d e (whole now v u s t g h k) = both_end now v u true s t g h k
    goes_after_steps at d e (inside now fs gs s t g f h) = both_go now Gap fs gs s t g tt f h
    goes_after_steps at d e (both_lack w x s t h) = both_halt w x s t h
    goes_after_steps at d e (first_lacks w s other h) = first_halts w s _ h
    goes_after_steps at d e (second_lacks x t other h) = second_halts x t _ h

    -- under the same names
    goes : (at : N) (mode : Mode) (fs : FramesL) (gs : FramesK) (s : S) (t : T) → IsFit mode → Frames at fs gs → r.states at s t → Steps at (Goes mode fs s) (Goes mode gs t)
    goes at mode fs gs s t fit f h = both_go at mode fs gs s t (names.same at) fit f h

    refuses : (at : N) (s : S) (t : T) → r.states at s t → Steps at (Refuses s) (Refuses t)
    refuses at s t h = both_have_no_place at s t (names.same at) h

    goes_on_in : (at : N) (fs : FramesL) (gs : FramesK) (s : S) (t : T) → Frames at fs gs → r.states at s t → EndsRelated at (Inside fs s) (Inside gs t)
    goes_on_in at fs gs s t f h = inside at fs gs s t (names.same at) f h

    -- what may stand only where a spelling may
    admitted : (at : N) (fs : FramesL) (gs : FramesK) (s : S) (t : T) (x : ReaderStep S V L W) (y : ReaderStep T U K X) → Frames at fs gs → r.states at s t → Steps at x y → Steps at (if admits fs then x else Refuses s) (if admits gs then y else Refuses t)
    admitted at fs gs s t x y no_frames h k = k
    admitted at fs gs s t x y (listing l m n Begun fs' gs' e f) h k = k
    admitted at fs gs s t x y (listing l m n Going fs' gs' e f) h k = k
    admitted at fs gs s t x y (listing l m n Dotted fs' gs' e f) h k = k
    admitted at fs gs s t x y (listing l m n Shut fs' gs' e f) h k = refuses at s t h
    admitted at fs gs s t x y (vectoring l m fs' gs' e f) h k = k
    admitted at fs gs s t x y (quoting fs' gs' f) h k = k

    -- what goes on only under a test of its own
    tested : (at : N) (b : Bool) (mode : Mode) (fs : FramesL) (gs : FramesK) (s : S) (t : T) → (b ≡ true → IsFit mode) → Frames at fs gs → r.states at s t → Steps at (if b then Goes mode fs s else Refuses s) (if b then Goes mode gs t else Refuses t)
    tested at true mode fs gs s t fit f h = goes at mode fs gs s t (fit refl) f h
    tested at false mode fs gs s t fit f h = refuses at s t h

    word_steps : (at : N) (mode : Mode) (fs : FramesL) (gs : FramesK) (s : S) (t : T) → IsFit mode → Frames at fs gs → r.states at s t → Steps at (in_word mode fs s) (in_word mode gs t)
    word_steps at mode fs gs s t fit f h = admitted at fs gs s t _ _ f h (goes at mode fs gs s t fit f h)

    -- ---- the end of a text

    after_ends : (at : N) (d : Ended S V L W) (e : Ended T U K X) → EndsRelated at d e → Outcomes at (ends_after d) (ends_after e)
    after_ends at d e (whole now v u s t g h k) = both_read now v u s t [] g h k
    after_ends at d e (inside now fs gs s t g f h) = both_refuse now s t [] g h
    after_ends at d e (both_lack w x s t h) = both_stop w x s t [] h
    after_ends at d e (first_lacks w s other h) = first_stops w s [] _ h
    after_ends at d e (second_lacks x t other h) = second_stops x t [] _ h

    refused : (at : N) (s : S) (t : T) → r.states at s t → Outcomes at (Refused s []) (Refused t [])
    refused at s t h = both_refuse at s t [] (names.same at) h

    between_ends : (at : N) (fs : FramesL) (gs : FramesK) (s : S) (t : T) → Frames at fs gs → r.states at s t → Outcomes at (at_end_between fs s) (at_end_between gs t)
    between_ends at fs gs s t no_frames h = both_find_none at s t (names.same at) h
    between_ends at fs gs s t (listing l k i p fs' gs' e f) h = refused at s t h
    between_ends at fs gs s t (vectoring l k fs' gs' e f) h = refused at s t h
    between_ends at fs gs s t (quoting fs' gs' f) h = refused at s t h

    after_steps : (at : N) (b : ℕ) (bs : List ℕ) (x : ReaderStep S V L W) (y : ReaderStep T U K X) (a : Mode → FramesL → S → ReaderOutcome S V W) (c : Mode → FramesK → T → ReaderOutcome T U X) → Steps at x y
        → ((now : N) (mode : Mode) (fs : FramesL) (gs : FramesK) (s : S) (t : T) → IsFit mode → Frames now fs gs → r.states now s t → Outcomes now (a mode fs s) (c mode gs t)) → Outcomes at (after_step b bs x a) (after_step b bs y c)
    after_steps at b bs x y a c (both_go now mode fs gs s t g fit f h) next = outcomes_from at now g _ _ (next now mode fs gs s t fit f h)
    after_steps at b bs x y a c (both_end now v u used s t g h k) next = both_read now v u s t _ g h k
    after_steps at b bs x y a c (both_have_no_place now s t g h) next = both_refuse now s t _ g h
    after_steps at b bs x y a c (both_halt w z s t h) next = both_stop w z s t _ h
    after_steps at b bs x y a c (first_halts w s other h) next = first_stops w s _ _ h
    after_steps at b bs x y a c (second_halts z t other h) next = second_stops z t _ _ h

    after_turns : (at : N) (bs : List ℕ) (x : Made S (Unit {0}) W) (y : Made T (Unit {0}) X) (a : S → ReaderOutcome S V W) (c : T → ReaderOutcome T U X) → MadeRelated r at (λ now p q. Unit {0}) x y
        → ((now : N) (s : S) (t : T) → r.grows at now → r.states now s t → Outcomes now (a s) (c t)) → Outcomes at (after_turn bs x a) (after_turn bs y c)
    after_turns at bs x y a c (both_have now p q s t g e k) next = outcomes_from at now g _ _ (next now s t g k)
    after_turns at bs x y a c (both_want w v s t h) next = both_stop w v s t bs h
    after_turns at bs x y a c (first_wants w s other h) next = first_stops w s bs _ h
    after_turns at bs x y a c (second_wants v t other h) next = second_stops v t bs _ h

  module _ (m : Maker S V L W) (n : Maker T U K X) (kept : AreMakersRelated r m n) where
    left_related : (at : N) (fs : FramesL) (gs : FramesK) (s : S) (t : T) → Frames at fs gs → r.states at s t → r.states at (left m fs s) (left n gs t)
    left_related at fs gs s t no_frames h = h
    left_related at fs gs s t (listing l k i Begun fs' gs' e f) h = kept.leave at s t h
    left_related at fs gs s t (listing l k i Going fs' gs' e f) h = kept.leave at s t h
    left_related at fs gs s t (listing l k i Dotted fs' gs' e f) h = h
    left_related at fs gs s t (listing l k i Shut fs' gs' e f) h = kept.leave at s t h
    left_related at fs gs s t (vectoring l k fs' gs' e f) h = kept.leave at s t h
    left_related at fs gs s t (quoting fs' gs' f) h = kept.leave at s t h

    -- ---- an element ends

    extended_ends : (at : N) (l : L) (k : K) (i : ℕ) (v : V) (u : U) (fs : FramesL) (gs : FramesK) (s : S) (t : T) → r.lists at l k → Frames at fs gs → r.values at v u → r.states at s t
        → EndsRelated at (ended_with (m.extended l v s) (λ l s. Inside (Listing l i Going ∷ fs) s)) (ended_with (n.extended k u t) (λ k t. Inside (Listing k i Going ∷ gs) t))
    extended_ends at l k i v u fs gs s t e f h d =
        ended_with_ends kept.names at r.lists _ _ _ _ (kept.extended at l k v u s t e h d) (λ now l k s t g e d. goes_on_in kept.names now _ _ s t (listing l k i Going fs gs e (frames_kept kept.names at now g fs gs f)) d)

    listing_ends : (at : N) (l : L) (k : K) (i : ℕ) (p : Phase) (v : V) (u : U) (fs : FramesL) (gs : FramesK) (s : S) (t : T) → r.lists at l k → Frames at fs gs → r.values at v u → r.states at s t → EndsRelated at (value_ended m v (Listing l i p ∷ fs) s) (value_ended n u (Listing k i p ∷ gs) t)
    listing_ends at l k i Dotted v u fs gs s t e f h d =
        ended_with_ends kept.names at r.lists _ _ _ _ (kept.ended at l k v u s t e h d) (λ now l k s t g e d. goes_on_in kept.names now _ _ s t (listing l k i Shut fs gs e (frames_kept kept.names at now g fs gs f)) d)
    listing_ends at l k i Begun v u fs gs s t e f h d = extended_ends at l k i v u fs gs s t e f h d
    listing_ends at l k i Going v u fs gs s t e f h d = extended_ends at l k i v u fs gs s t e f h d
    listing_ends at l k i Shut v u fs gs s t e f h d = extended_ends at l k i v u fs gs s t e f h d

    value_ends : (at : N) (v : V) (u : U) (fs : FramesL) (gs : FramesK) (s : S) (t : T) → Frames at fs gs → r.values at v u → r.states at s t → EndsRelated at (value_ended m v fs s) (value_ended n u gs t)
    value_ends at v u [] [] s t no_frames h d = whole at v u s t (kept.names.same at) h d
    value_ends at v u _ _ s t (listing l k i p fs gs e f) h d = listing_ends at l k i p v u fs gs s t e f h d
    value_ends at v u _ _ s t (vectoring l k fs gs e f) h d =
        ended_with_ends kept.names at r.lists _ _ _ _ (kept.extended at l k v u s t e h d) (λ now l k s t g e d. goes_on_in kept.names now _ _ s t (vectoring l k fs gs e (frames_kept kept.names at now g fs gs f)) d)
    value_ends at v u (Quoting ∷ fs) (Quoting ∷ gs) s t (quoting _ _ f) h d =
        ended_with_ends kept.names at r.values _ _ _ _ (kept.quoted at v u s t h d) (λ now q p s t g e d.
        let f = frames_kept kept.names at now g fs gs f in
        value_ends now q p fs gs (left m fs s) (left n gs t) f e (left_related now fs gs s t f d))

    atom_ends : (at : N) (a : Atom) (fs : FramesL) (gs : FramesK) (s : S) (t : T) → IsSpellable a → Frames at fs gs → r.states at s t → EndsRelated at (atom_ended m a fs s) (atom_ended n a gs t)
    atom_ends at a fs gs s t is f h = ended_with_ends kept.names at r.values _ _ _ _ (kept.atom at a is s t h) (λ now v u s t g e d. value_ends now v u fs gs s t (frames_kept kept.names at now g fs gs f) e d)

    -- ---- marks

    begins_steps : (at : N) (a : ReaderFrame L) (b : ReaderFrame K) (fs : FramesL) (gs : FramesK) (s : S) (t : T) → Frames at fs gs → Frames at (a ∷ fs) (b ∷ gs) → r.states at s t → Steps at (group_begins m a fs s) (group_begins n b gs t)
    begins_steps at a b fs gs s t f g h =
        if_inner at fs gs _ _ _ _ f (goes_with_steps kept.names at (λ now x y. Unit {0}) _ _ _ _ (kept.enter at s t h) (λ now x y s t i e d. goes kept.names now Gap _ _ s t tt (frames_kept kept.names at now i _ _ g) d))
        (goes kept.names at Gap _ _ s t tt g h)

    list_begins : (at : N) (fs : FramesL) (gs : FramesK) (s : S) (t : T) → Frames at fs gs → r.states at s t → Steps at (group_begins m (Listing m.empty 0 Begun) fs s) (group_begins n (Listing n.empty 0 Begun) gs t)
    list_begins at fs gs s t f h = begins_steps at _ _ fs gs s t f (listing m.empty n.empty 0 Begun fs gs (kept.empty at s t h) f) h

    open_steps : (at : N) (fs : FramesL) (gs : FramesK) (s : S) (t : T) → Frames at fs gs → r.states at s t → Steps at (open_list m fs s) (open_list n gs t)
    open_steps at _ _ s t no_frames h = list_begins at _ _ s t no_frames h
    open_steps at _ _ s t (listing l k i Begun fs gs e f) h = list_begins at _ _ s t (listing l k i Begun fs gs e f) h
    open_steps at _ _ s t (listing l k i Going fs gs e f) h = list_begins at _ _ s t (listing l k i Going fs gs e f) h
    open_steps at _ _ s t (listing l k i Dotted fs gs e f) h = goes kept.names at Gap _ _ s t tt (listing l k (suc i) Begun fs gs e f) h
    open_steps at _ _ s t (listing l k i Shut fs gs e f) h = list_begins at _ _ s t (listing l k i Shut fs gs e f) h
    open_steps at _ _ s t (vectoring l k fs gs e f) h = list_begins at _ _ s t (vectoring l k fs gs e f) h
    open_steps at _ _ s t (quoting fs gs f) h = list_begins at _ _ s t (quoting fs gs f) h

    list_closes : (at : N) (l : L) (k : K) (fs : FramesL) (gs : FramesK) (s : S) (t : T) → r.lists at l k → Frames at fs gs → r.states at s t → Steps at (goes_after (value_ended m (m.list l) fs (left m fs s))) (goes_after (value_ended n (n.list k) gs (left n gs t)))
    list_closes at l k fs gs s t e f h = goes_after_steps kept.names at _ _ (value_ends at (m.list l) (n.list k) fs gs _ _ f (kept.list at l k s t e h) (left_related at fs gs s t f h))

    -- a list behind a dot ends with NIL
    inner_closes : (at : N) (l : L) (k : K) (i : ℕ) (fs : FramesL) (gs : FramesK) (s : S) (t : T) → r.lists at l k → Frames at fs gs → r.states at s t
        → Steps at (goes_with (m.ended l m.nil s) (λ l s. Goes Gap (Listing l i Shut ∷ fs) s)) (goes_with (n.ended k n.nil t) (λ k t. Goes Gap (Listing k i Shut ∷ gs) t))
    inner_closes at l k i fs gs s t e f h =
        goes_with_steps kept.names at r.lists _ _ _ _ (kept.ended at l k m.nil n.nil s t e (kept.nil at s t h) h) (λ now l k s t g e d. goes kept.names now Gap _ _ s t tt (listing l k i Shut fs gs e (frames_kept kept.names at now g fs gs f)) d)

    close_listing : (at : N) (l : L) (k : K) (i : ℕ) (p : Phase) (fs : FramesL) (gs : FramesK) (s : S) (t : T) → r.lists at l k → Frames at fs gs → r.states at s t → Steps at (close_list m (Listing l i p ∷ fs) s) (close_list n (Listing k i p ∷ gs) t)
    close_listing at l k i Dotted fs gs s t e f h = refuses kept.names at s t h
    close_listing at l k zero Begun fs gs s t e f h = list_closes at l k fs gs s t e f h
    close_listing at l k zero Going fs gs s t e f h = list_closes at l k fs gs s t e f h
    close_listing at l k zero Shut fs gs s t e f h = list_closes at l k fs gs s t e f h
    close_listing at l k (suc i) Begun fs gs s t e f h = inner_closes at l k i fs gs s t e f h
    close_listing at l k (suc i) Going fs gs s t e f h = inner_closes at l k i fs gs s t e f h
    close_listing at l k (suc i) Shut fs gs s t e f h = goes kept.names at Gap _ _ s t tt (listing l k i Shut fs gs e f) h

    close_steps : (at : N) (fs : FramesL) (gs : FramesK) (s : S) (t : T) → Frames at fs gs → r.states at s t → Steps at (close_list m fs s) (close_list n gs t)
    close_steps at _ _ s t no_frames h = refuses kept.names at s t h
    close_steps at _ _ s t (listing l k i p fs gs e f) h = close_listing at l k i p fs gs s t e f h
    close_steps at _ _ s t (vectoring l k fs gs e f) h = refuses kept.names at s t h
    close_steps at _ _ s t (quoting fs gs f) h = refuses kept.names at s t h

    dot_steps : (at : N) (fs : FramesL) (gs : FramesK) (s : S) (t : T) → Frames at fs gs → r.states at s t → Steps at (dot m fs s) (dot n gs t)
    dot_steps at _ _ s t no_frames h = refuses kept.names at s t h
    dot_steps at _ _ s t (listing l k i Begun fs gs e f) h = refuses kept.names at s t h
    dot_steps at _ _ s t (listing l k i Going fs gs e f) h = goes kept.names at Gap _ _ s t tt (listing l k i Dotted fs gs e f) h
    dot_steps at _ _ s t (listing l k i Dotted fs gs e f) h = refuses kept.names at s t h
    dot_steps at _ _ s t (listing l k i Shut fs gs e f) h = refuses kept.names at s t h
    dot_steps at _ _ s t (vectoring l k fs gs e f) h = refuses kept.names at s t h
    dot_steps at _ _ s t (quoting fs gs f) h = refuses kept.names at s t h

    close_vector_steps : (at : N) (fs : FramesL) (gs : FramesK) (s : S) (t : T) → Frames at fs gs → r.states at s t → Steps at (close_vector m fs s) (close_vector n gs t)
    close_vector_steps at _ _ s t no_frames h = refuses kept.names at s t h
    close_vector_steps at _ _ s t (listing l k i p fs gs e f) h = refuses kept.names at s t h
    close_vector_steps at _ _ s t (vectoring l k fs gs e f) h =
        goes_after_steps kept.names at _ _ (ended_with_ends kept.names at r.values _ _ _ _ (kept.vector at l k s t e h) (λ now v u s t g e d.
        let f = frames_kept kept.names at now g fs gs f in
        value_ends now v u fs gs _ _ f e (left_related now fs gs s t f d)))
    close_vector_steps at _ _ s t (quoting fs gs f) h = refuses kept.names at s t h

    mark_steps : (at : N) (mark : Mark) (fs : FramesL) (gs : FramesK) (s : S) (t : T) → Frames at fs gs → r.states at s t → Steps at (at_mark m mark fs s) (at_mark n mark gs t)
    mark_steps at Close fs gs s t f h = close_steps at fs gs s t f h
    mark_steps at CloseVector fs gs s t f h = close_vector_steps at fs gs s t f h
    mark_steps at Dot fs gs s t f h = dot_steps at fs gs s t f h
    mark_steps at Open fs gs s t f h = admitted kept.names at fs gs s t _ _ f h (open_steps at fs gs s t f h)
    mark_steps at OpenVector fs gs s t f h = admitted kept.names at fs gs s t _ _ f h (begins_steps at _ _ fs gs s t f (vectoring m.empty n.empty fs gs (kept.empty at s t h) f) h)
    mark_steps at Quote fs gs s t f h = admitted kept.names at fs gs s t _ _ f h (begins_steps at _ _ fs gs s t f (quoting fs gs f) h)

    -- ---- a byte

    class_steps : (at : N) (c : Class) (b : ℕ) (fs : FramesL) (gs : FramesK) (s : S) (t : T) → Frames at fs gs → r.states at s t → Steps at (at_class m c b fs s) (at_class n c b gs t)
    class_steps at Blank b fs gs s t f h = goes kept.names at Gap fs gs s t tt f h
    class_steps at Percent b fs gs s t f h = goes kept.names at Comment fs gs s t tt f h
    class_steps at (Marks mark) b fs gs s t f h = mark_steps at mark fs gs s t f h
    class_steps at Text b fs gs s t f h = word_steps kept.names at (InText []) fs gs s t tt f h
    class_steps at Escape b fs gs s t f h = word_steps kept.names at (InEscape []) fs gs s t (omega arith) f h
    class_steps at Letter b fs gs s t f h = word_steps kept.names at (InName (raised b ∷ [])) fs gs s t (omega arith, omega arith) f h
    class_steps at Digit b fs gs s t f h = word_steps kept.names at (InNumber false (b - 48)) fs gs s t tt f h
    class_steps at Sign b fs gs s t f h = word_steps kept.names at (AfterSign b) fs gs s t tt f h
    class_steps at Special b fs gs s t f h = admitted kept.names at fs gs s t _ _ f h (goes_after_steps kept.names at _ _ (atom_ends at (Identifier (b ∷ [])) fs gs s t (omega arith, omega arith) f h))
    class_steps at Nothing b fs gs s t f h = refuses kept.names at s t h

    before_steps : (at : N) (b : ℕ) (d : Ended S V L W) (e : Ended T U K X) → EndsRelated at d e → Steps at (goes_before m b d) (goes_before n b e)
    before_steps at b d e (whole now v u s t g h k) = both_end now v u false s t g h k
    before_steps at b d e (inside now fs gs s t g f h) = steps_from kept.names at now g _ _ (class_steps now (class_of b) b fs gs s t f h)
    before_steps at b d e (both_lack w x s t h) = both_halt w x s t h
    before_steps at b d e (first_lacks w s other h) = first_halts w s _ h
    before_steps at b d e (second_lacks x t other h) = second_halts x t _ h

    atom_before_steps : (at : N) (a : Atom) (b : ℕ) (fs : FramesL) (gs : FramesK) (s : S) (t : T) → IsSpellable a → Frames at fs gs → r.states at s t → Steps at (atom_before m a b fs s) (atom_before n a b gs t)
    atom_before_steps at a b fs gs s t is f h = before_steps at b _ _ (atom_ends at a fs gs s t is f h)

    byte_related : (at : N) (mode : Mode) (b : ℕ) (fs : FramesL) (gs : FramesK) (s : S) (t : T) → IsFit mode → Frames at fs gs → r.states at s t → Steps at (reader_step m mode b fs s) (reader_step n mode b gs t)
    byte_related at Gap b fs gs s t fit f h = class_steps at (class_of b) b fs gs s t f h
    byte_related at Comment b fs gs s t fit f h = goes kept.names at _ fs gs s t (comment_fit (b == 10)) f h
    byte_related at (InName cs) b fs gs s t fit f h =
        if_steps at (is_name_byte b) _ _ _ _ (tested kept.names at (nat_lt (length cs) 255) _ fs gs s t (λ e. longer_fit cs (raised b) (let l = ltb-true (length cs) 255 e in omega (arith, l))) f h)
        (if_steps at (b == 33) _ _ _ _ (tested kept.names at (nat_lt (length cs) 255) _ fs gs s t (λ e. let l = ltb-true (length cs) 255 e in omega (arith, l)) f h) (atom_before_steps at (Identifier cs) b fs gs s t fit f h))
    byte_related at (InEscape cs) b fs gs s t fit f h = goes kept.names at _ fs gs s t (longer_fit cs b fit) f h
    byte_related at (AfterSign c) b fs gs s t fit f h = if_steps at (is_digit b) _ _ _ _ (goes kept.names at _ fs gs s t tt f h) (atom_before_steps at (Identifier (c ∷ [])) b fs gs s t (omega arith, omega arith) f h)
    byte_related at (InNumber minus i) b fs gs s t fit f h =
        if_steps at (is_digit b) _ _ _ _ (tested kept.names at (if minus then nat_le (10 * i + (b - 48)) (2 ^ 59) else nat_lt (10 * i + (b - 48)) (2 ^ 59)) _ fs gs s t (λ e. tt) f h) (atom_before_steps at (Integer (signed minus i)) b fs gs s t tt f h)
    byte_related at (InText cs) b fs gs s t fit f h = if_steps at (b == 34) _ _ _ _ (goes kept.names at _ fs gs s t tt f h) (tested kept.names at (nat_lt (length cs) 65535) _ fs gs s t (λ e. tt) f h)
    byte_related at (AfterQuote cs) b fs gs s t fit f h = if_steps at (b == 34) _ _ _ _ (tested kept.names at (nat_lt (length cs) 65535) _ fs gs s t (λ e. tt) f h) (atom_before_steps at (String cs) b fs gs s t tt f h)

    -- ---- a text

    word_ends : (at : N) (a : Atom) (fs : FramesL) (gs : FramesK) (s : S) (t : T) → IsSpellable a → Frames at fs gs → r.states at s t → Outcomes at (ends_after (atom_ended m a fs s)) (ends_after (atom_ended n a gs t))
    word_ends at a fs gs s t is f h = after_ends kept.names at _ _ (atom_ends at a fs gs s t is f h)

    end_related : (at : N) (mode : Mode) (fs : FramesL) (gs : FramesK) (s : S) (t : T) → IsFit mode → Frames at fs gs → r.states at s t → Outcomes at (at_end m mode fs s) (at_end n mode gs t)
    end_related at Gap fs gs s t fit f h = between_ends kept.names at fs gs s t f h
    end_related at Comment fs gs s t fit f h = between_ends kept.names at fs gs s t f h
    end_related at (InName cs) fs gs s t fit f h = word_ends at (Identifier cs) fs gs s t fit f h
    end_related at (InEscape cs) fs gs s t fit f h = refused kept.names at s t h
    end_related at (AfterSign c) fs gs s t fit f h = word_ends at (Identifier (c ∷ [])) fs gs s t (omega arith, omega arith) f h
    end_related at (InNumber minus i) fs gs s t fit f h = word_ends at (Integer (signed minus i)) fs gs s t tt f h
    end_related at (InText cs) fs gs s t fit f h = refused kept.names at s t h
    end_related at (AfterQuote cs) fs gs s t fit f h = word_ends at (String cs) fs gs s t tt f h

    from_related : (at : N) (mode : Mode) (fs : FramesL) (gs : FramesK) (s : S) (t : T) (bytes : List ℕ) → IsFit mode → Frames at fs gs → r.states at s t → Outcomes at (read_from m mode fs s bytes) (read_from n mode gs t bytes)
    from_related at mode fs gs s t [] fit f h = end_related at mode fs gs s t fit f h
    from_related at mode fs gs s t (b ∷ bs) fit f h =
        after_turns kept.names at bs _ _ _ _ (kept.turn at s t h) (λ now s t g d.
        after_steps kept.names now b bs _ _ _ _ (byte_related now mode b fs gs s t fit (frames_kept kept.names at now g fs gs f) d) (λ now mode fs gs s t fit f h. from_related now mode fs gs s t bs fit f h))

  pub ends_related : EndRelated r
  ends_related = record {
    text = λ m n kept at s t bytes h. from_related m n kept at Gap [] [] s t bytes tt no_frames h;
    byte = byte_related;
    end = end_related;
  }
