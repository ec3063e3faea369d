-- A text byte by byte, and what it comes to.
use Rattle.std.proofs.Common.{◌≡◌, ◌≢◌, ℕ, suc, ◌+◌, ◌-◌, ◌^◌, Bool, true, false, List, [], ◌∷◌, length, take, refl, sym, ap, ap₂, ◌∙◌, subst, arith, ◌⊎◌, inl, inr}
use Rattle.std.specs.Prelude.{Option, Some, None, min}
use Rattle.rl_tags.specs.Tagged.{Tagged}
use Rattle.rl_text.specs.Maker.{Has, Wants}
use Rattle.rl_text.specs.Reader.{ReaderFrame, Gap, Mode, ReaderStep, Goes, Done, Refuses, Halts, NoneLeft, Read, Refused, Stopped, after_step, after_turn, at_end, read_by, read_from, reader_step}
use Rattle.rl_world.specs.Counts.{WorldCounts, ticked, ticked_at}
use Rattle.rl_world.specs.Bounds.{AreBoundsKept, IsMakingCounted}
use Rattle.rl_world.specs.declared.counts.Aside.{Aside}
use Rattle.rl_world.specs.declared.counts.Expansion.{Expansion}
use Rattle.rl_read.specs.Taken.{Unread, TakesBytes}
use Rattle.rl_world.specs.Input.{Gives, Input}
use Rattle.rl_world.specs.Levels.{WorldLevels}
use Rattle.rl_world.specs.declared.world.World.{World}
use Rattle.rl_world.specs.declared.stop.Stop.{Stop}
use Rattle.rl_read.specs.Frames.{AreReadyToMake, CanMake, IsKeptByReading, IsReadyToRead, frames_in, frames_of, frames_kept}
use Rattle.rl_world.specs.Walks.{kept_above}
use Rattle.rl_world.specs.declared.stop.Stop.TheVariants as stop
use Rattle.rl_read.specs.Given.{IsGiven, WantsTurn, is_counted, is_fault}
use Rattle.rl_read.specs.Reads.{ReadAnswer, IsGoing, IsRefusal, IsRefusedText, IsStopped, IsStoppedText}
use Rattle.rl_read.specs.Stock.{Stock, PairChain, in_stock, stock_of, turned, turned_at}
use Rattle.rl_read.specs.declared.frames.Group.{Group}
use Rattle.rl_read.specs.declared.frames.Group.TheVariants as group
use Rattle.std.specs.List.{AllByRecursion}
use Rattle.rl_read.proofs.StopsAreCounted.{tick_counted}
use Rattle.rl_read.proofs.TakenByCalls.{takes_first, takes_then}

-- ---- a byte was given

-- counts, what waits and the place in the input alone have changed
abbrev pub IsPassed : World → World → Type 0
IsPassed old new = new ≡ record old { counts = new.counts; output = record old.output { waiting = new.output.waiting }; input = new.input }

pub passed_levels : (old new : World) → IsPassed old new → new.levels ≡ old.levels
passed_levels old new e = ap (λ (w : World). w.levels) e

pub passed_frames : (base : ℕ) (old new : World) (g : Group) → IsPassed old new → frames_in base new g ≡ frames_in base old g
passed_frames base old new g e = ap (λ (l : WorldLevels). frames_of g (frames_kept (kept_above base l))) (passed_levels old new e)

pub passed_stock : (old new : World) → IsPassed old new → stock_of new ≡ record (stock_of old) { counts = new.counts }
passed_stock old new e = ap (λ (w : World). stock_of w) e

-- a turn changes nothing of what counts
counted_again : (aside : Option Aside) (e f : Expansion) (mark : Option ℕ) → IsMakingCounted aside (Some e) mark → IsMakingCounted aside (Some f) mark
counted_again None e f mark h = tt
counted_again (Some a) e f None h = absurd h
counted_again (Some a) e f (Some mark) h = tt

counted_ticked : (c : WorldCounts) (opening : Option ℕ) (e : Option Expansion) (mark : Option ℕ) → c.outermost ≡ e → IsMakingCounted c.aside e mark → IsMakingCounted (ticked_at opening e c).aside (ticked_at opening e c).outermost mark
counted_ticked c (Some n) e mark is h = subst (λ (e : Option Expansion). IsMakingCounted c.aside e mark) (sym is) h
counted_ticked c None None mark is h = subst (λ (e : Option Expansion). IsMakingCounted c.aside e mark) (sym is) h
counted_ticked c None (Some e) mark is h = counted_again c.aside e (record e { turns = e.turns + 1 }) mark h

-- where the counts are as they were, or one turn was taken, objects may be made as before
able_same : (old new : World) → IsPassed old new → new.counts ≡ old.counts → CanMake old → CanMake new
able_same old new e same able = subst (λ (w : World). CanMake w) (sym e) (subst (λ (c : WorldCounts). AreReadyToMake old.cells old.syms.head c) (sym same) able)

able_ticked : AreBoundsKept → (old new : World) → IsPassed old new → new.counts ≡ ticked old.counts → CanMake old → CanMake new
able_ticked law old new e is able =
    subst (λ (w : World). CanMake w) (sym e) (subst (λ (c : WorldCounts). AreReadyToMake old.cells old.syms.head c) (sym is)
    (record { table = able.table; bounds = law.ticked old.counts old.cells able.bounds; counted = counted_ticked old.counts old.counts.opening old.counts.outermost old.cells.mark refl able.counted }))

able_given : AreBoundsKept → (turns : Bool) (old new : World) (b : Option ℕ) → IsGiven turns old new b → IsPassed old new → CanMake old → CanMake new
able_given law true old new (Some b) g e able = able_ticked law old new e g.counted able
able_given law true old new None g e able = able_same old new e g able
able_given law false old new b g e able = able_same old new e g able

pub passed_ready : AreBoundsKept → (turns : Bool) (base : ℕ) (old new : World) (g : Group) (b : Option ℕ) → IsGiven turns old new b → IsPassed old new → IsReadyToRead base old g → IsReadyToRead base new g
passed_ready law turns base old new g b given e r =
    let able : AreReadyToMake old.cells old.syms.head new.counts = subst (λ (w : World). AreReadyToMake w.cells w.syms.head new.counts) e (able_given law turns old new b given e r.able) in
    subst (λ (w : World). IsReadyToRead base w g) (sym e) (record { able = able; above = r.above; kept = r.kept; group_is = r.group_is; root = r.root })

-- no byte was given
pub passed_able : (base : ℕ) (old new : World) (g : Group) → new.counts ≡ old.counts → IsPassed old new → IsReadyToRead base old g → CanMake new
passed_able base old new g same e r = able_same old new e same r.able

-- the counts are as they were
pub passed_same : (old new : World) → IsPassed old new → new.counts ≡ old.counts → stock_of new ≡ stock_of old
passed_same old new e same = passed_stock old new e ∙ ap (λ (c : WorldCounts). record (stock_of old) { counts = c }) same

pub turn_given : (turns : Bool) (old new : World) (b : ℕ) → IsGiven turns old new (Some b) → IsPassed old new → turned turns (stock_of old) ≡ Has tt (stock_of new)
turn_given true old new b g e = ap (λ s. turned_at s (stock_of old)) g.some ∙ sym (ap (λ k. Has tt k) (passed_stock old new e ∙ ap (λ (c : WorldCounts). record (stock_of old) { counts = c }) g.counted))
turn_given false old new b g e = sym (ap (λ k. Has tt k) (passed_same old new e g))

-- the end takes no turn
pub end_given : (turns : Bool) (old new : World) → IsGiven turns old new None → IsPassed old new → stock_of new ≡ stock_of old
end_given true old new g e = passed_same old new e g
end_given false old new g e = passed_same old new e g

-- the end of a text comes to the same
pub end_same : (turns : Bool) (base : ℕ) (old new : World) (m : Mode) (g : Group) → IsPassed old new → stock_of new ≡ stock_of old → at_end (in_stock turns) m (frames_in base old g) (stock_of old) ≡ at_end (in_stock turns) m (frames_in base new g) (stock_of new)
end_same turns base old new m g e same = ap₂ (λ fs k. at_end (in_stock turns) m fs k) (sym (passed_frames base old new g e)) (sym same)

-- and a byte
pub step_same : (turns : Bool) (base : ℕ) (old new : World) (m : Mode) (b : ℕ) (g : Group) → IsPassed old new → reader_step (in_stock turns) m b (frames_in base old g) (stock_of new) ≡ reader_step (in_stock turns) m b (frames_in base new g) (stock_of new)
step_same turns base old new m b g e = ap (λ fs. reader_step (in_stock turns) m b fs (stock_of new)) (sym (passed_frames base old new g e))

-- ---- a byte was read

module _ (turns : Bool) (start : World) (m : Mode) (fs : List (ReaderFrame PairChain)) (k : Stock) (given : ℕ) (before mid : List ℕ) (going : IsGoing turns start m fs k given before mid) where
  -- it is read with the stock behind its turn
  byte_read : (b : ℕ) (now : List ℕ) (taken : Stock) (x : ReaderStep Stock Tagged PairChain Stop) → mid ≡ b ∷ now → turned turns k ≡ Has tt taken → reader_step (in_stock turns) m b fs taken ≡ x
      → read_by (in_stock turns) (stock_of start) before ≡ after_step b now x (λ m fs k. read_from (in_stock turns) m fs k now)
  byte_read b now taken x e turn is =
      going.same
      ∙ ap (λ bytes. read_from (in_stock turns) m fs k bytes) e
      ∙ ap (λ t. after_turn now t (λ k. after_step b now (reader_step (in_stock turns) m b fs k) (λ m fs k. read_from (in_stock turns) m fs k now))) turn
      ∙ ap (λ x. after_step b now x (λ m fs k. read_from (in_stock turns) m fs k now)) is

  going_on : (b : ℕ) (now : List ℕ) (taken : Stock) (next : Mode) (more : List (ReaderFrame PairChain)) (made : Stock) (count : ℕ) → mid ≡ b ∷ now → turned turns k ≡ Has tt taken → reader_step (in_stock turns) m b fs taken ≡ Goes next more made → count ≡ min (given + 1) (2 ^ 64 - 1)
      → IsGoing turns start next more made count before now
  going_on b now taken next more made count e turn is count_is =
      let long : length mid ≡ suc (length now) = ap length e in
      record {
        same = byte_read b now taken (Goes next more made) e turn is;
        place = omega (arith, going.place, going.shorter, long, count_is);
        shorter = omega (arith, going.shorter, long);
      }

  done_with : (b : ℕ) (now : List ℕ) (taken : Stock) (v : Tagged) (made : Stock) → mid ≡ b ∷ now → turned turns k ≡ Has tt taken → reader_step (in_stock turns) m b fs taken ≡ Done v true made → read_by (in_stock turns) (stock_of start) before ≡ Read v made now
  done_with b now taken v made e turn is = byte_read b now taken (Done v true made) e turn is

  done_before : (b : ℕ) (now : List ℕ) (taken : Stock) (v : Tagged) (made : Stock) → mid ≡ b ∷ now → turned turns k ≡ Has tt taken → reader_step (in_stock turns) m b fs taken ≡ Done v false made → read_by (in_stock turns) (stock_of start) before ≡ Read v made (b ∷ now)
  done_before b now taken v made e turn is = byte_read b now taken (Done v false made) e turn is

  refused_at : (b : ℕ) (now : List ℕ) (taken made : Stock) (new : World) → mid ≡ b ∷ now → turned turns k ≡ Has tt taken → reader_step (in_stock turns) m b fs taken ≡ Refuses made → record made { left = (stock_of new).left } ≡ stock_of new → IsRefusedText turns start new before now given
  refused_at b now taken made new e turn is stays =
      let long : length mid ≡ suc (length now) = ap length e in
      record {
        from = b ∷ now;
        made = made;
        refused = byte_read b now taken (Refuses made) e turn is;
        stays = stays;
        place = going.place ∙ ap (λ bytes. min (length before - length bytes) (2 ^ 64 - 1)) e;
        given = refl;
      }

  halted_at : (b : ℕ) (now : List ℕ) (taken : Stock) (last : World) (s : Stop) → mid ≡ b ∷ now → turned turns k ≡ Has tt taken → reader_step (in_stock turns) m b fs taken ≡ Halts s (stock_of last) → IsStoppedText turns start last before now s
  halted_at b now taken last s e turn is = byte_read b now taken (Halts s (stock_of last)) e turn is

  -- no turn was left
  turn_wanted : (b : ℕ) (now : List ℕ) (last : World) (s : Stop) → mid ≡ b ∷ now → turned turns k ≡ Wants s k → stock_of last ≡ k → IsStoppedText turns start last before now s
  turn_wanted b now last s e wants same =
      going.same
      ∙ ap (λ bytes. read_from (in_stock turns) m fs k bytes) e
      ∙ ap (λ t. after_turn now t (λ k. after_step b now (reader_step (in_stock turns) m b fs k) (λ m fs k. read_from (in_stock turns) m fs k now))) wants
      ∙ ap (λ k. Stopped s k now) (sym same)

  -- ---- the end

  end_read : (now : List ℕ) (answer : ReadAnswer) → Gives mid now None → at_end (in_stock turns) m fs k ≡ answer → read_by (in_stock turns) (stock_of start) before ≡ answer
  end_read now answer e is = going.same ∙ ap (λ bytes. read_from (in_stock turns) m fs k bytes) e.0 ∙ is

  end_whole : (now : List ℕ) (v : Tagged) (made : Stock) → Gives mid now None → at_end (in_stock turns) m fs k ≡ Read v made [] → read_by (in_stock turns) (stock_of start) before ≡ Read v made now
  end_whole now v made e is = end_read now (Read v made []) e is ∙ ap (λ bytes. Read v made bytes) (sym e.1)

  end_refused : (now : List ℕ) (new : World) (answer : Bool → ReadAnswer) (count : ℕ) → Gives mid now None → at_end (in_stock turns) m fs k ≡ answer turns → IsRefusal new answer [] → count ≡ given → IsRefusedText turns start new before now count
  end_refused now new answer count e is r count_is = record {
    from = [];
    made = r.made;
    refused = end_read now (Refused r.made []) e (is ∙ r.refused turns);
    stays = r.stays;
    place = count_is ∙ (going.place ∙ ap (λ bytes. min (length before - length bytes) (2 ^ 64 - 1)) e.0);
    given = e.1;
  }

  end_stopped : (now : List ℕ) (last : World) (answer : Bool → ReadAnswer) (s : Stop) → Gives mid now None → at_end (in_stock turns) m fs k ≡ answer turns → IsStopped answer s [] (stock_of last) → IsStoppedText turns start last before now s
  end_stopped now last answer s e is r = end_read now (Stopped s (stock_of last) []) e (is ∙ r turns) ∙ ap (λ bytes. Stopped s (stock_of last) bytes) (sym e.1)

-- ---- where the bytes are told

-- the start of a text
pub going_first : (turns : Bool) (base : ℕ) (w : World) (told : Unread) → kept_above base w.levels ≡ [] → TakesBytes told told (λ before now. IsGoing turns w Gap (frames_kept (kept_above base w.levels)) (stock_of w) 0 before now)
going_first turns base w told none = takes_first told (λ before now. IsGoing turns w Gap (frames_kept (kept_above base w.levels)) (stock_of w) 0 before now) (λ bytes. record {
  same = sym (ap (λ ts. read_from (in_stock turns) Gap (frames_kept ts) (stock_of w) bytes) none);
  place = omega arith;
  shorter = omega arith;
})

module _ (turns turns_now : Bool) (same : turns_now ≡ turns) (start old new : World) (base : ℕ) (m : Mode) (group : Group) (count : ℕ) (a mid : Unread) (left : Input → Unread)
    (going : TakesBytes a mid (λ before now. IsGoing turns start m (frames_in base old group) (stock_of old) count before now)) (passed : IsPassed old new)
    (o : Option ℕ) (gives : TakesBytes mid (left new.input) (λ before now. Gives before now o)) (turn : IsGiven turns_now old new o) where
  module _ (b : ℕ) (is : o ≡ Some b) (i : Input) (input : i ≡ new.input) where
    taken : turned turns (stock_of old) ≡ Has tt (stock_of new)
    taken = turn_given turns old new b (subst (λ (t : Bool). IsGiven t old new (Some b)) same (subst (λ (o : Option ℕ). IsGiven turns_now old new o) is turn)) passed

    -- what follows from the byte
    pub told_byte : (P : List ℕ → List ℕ → Type 0) → ((before mid now : List ℕ) → IsGoing turns start m (frames_in base old group) (stock_of old) count before mid → mid ≡ b ∷ now → P before now) → TakesBytes a (left i) P
    told_byte P f = subst (λ (i : Input). TakesBytes a (left i) P) (sym input)
        (takes_then a mid (left new.input) (λ before now. IsGoing turns start m (frames_in base old group) (stock_of old) count before now) (λ before now. Gives before now (Some b)) P f going (subst (λ (o : Option ℕ). TakesBytes mid (left new.input) (λ before now. Gives before now o)) is gives))

    pub told_on : (next : Mode) (more : List (ReaderFrame PairChain)) (made : Stock) (after : ℕ) → reader_step (in_stock turns) m b (frames_in base new group) (stock_of new) ≡ Goes next more made → after ≡ min (count + 1) (2 ^ 64 - 1) → TakesBytes a (left i) (λ before now. IsGoing turns start next more made after before now)
    told_on next more made after steps after_is = told_byte (λ before now. IsGoing turns start next more made after before now) (λ before mid now goes e. going_on turns start m (frames_in base old group) (stock_of old) count before mid goes b now (stock_of new) next more made after e taken (step_same turns base old new m b group passed ∙ steps) after_is)

    pub told_done : (v : Tagged) (made : Stock) → reader_step (in_stock turns) m b (frames_in base new group) (stock_of new) ≡ Done v true made → TakesBytes a (left i) (λ before now. read_by (in_stock turns) (stock_of start) before ≡ Read v made now)
    told_done v made steps = told_byte (λ before now. read_by (in_stock turns) (stock_of start) before ≡ Read v made now) (λ before mid now goes e. done_with turns start m (frames_in base old group) (stock_of old) count before mid goes b now (stock_of new) v made e taken (step_same turns base old new m b group passed ∙ steps))

    -- the byte is put back
    pub told_before : (v : Tagged) (made : Stock) (c : Unread) → reader_step (in_stock turns) m b (frames_in base new group) (stock_of new) ≡ Done v false made → TakesBytes (left i) c (λ before now. now ≡ b ∷ before) → TakesBytes a c (λ before now. read_by (in_stock turns) (stock_of start) before ≡ Read v made now)
    told_before v made c steps back =
        takes_then a (left i) c (λ before now. read_by (in_stock turns) (stock_of start) before ≡ Read v made (b ∷ now)) (λ before now. now ≡ b ∷ before) (λ before now. read_by (in_stock turns) (stock_of start) before ≡ Read v made now)
        (λ x y z e d. e ∙ ap (λ bytes. Read v made bytes) (sym d))
        (told_byte (λ before now. read_by (in_stock turns) (stock_of start) before ≡ Read v made (b ∷ now)) (λ before mid now goes e. done_before turns start m (frames_in base old group) (stock_of old) count before mid goes b now (stock_of new) v made e taken (step_same turns base old new m b group passed ∙ steps)))
        back

    pub told_refused : (made : Stock) (last : World) → reader_step (in_stock turns) m b (frames_in base new group) (stock_of new) ≡ Refuses made → record made { left = (stock_of last).left } ≡ stock_of last → TakesBytes a (left i) (λ before now. IsRefusedText turns start last before now count)
    told_refused made last steps stays = told_byte (λ before now. IsRefusedText turns start last before now count) (λ before mid now goes e. refused_at turns start m (frames_in base old group) (stock_of old) count before mid goes b now (stock_of new) made last e taken (step_same turns base old new m b group passed ∙ steps) stays)

    pub told_halted : (last : World) (s : Stop) → reader_step (in_stock turns) m b (frames_in base new group) (stock_of new) ≡ Halts s (stock_of last) → TakesBytes a (left i) (λ before now. IsStoppedText turns start last before now s)
    told_halted last s steps = told_byte (λ before now. IsStoppedText turns start last before now s) (λ before mid now goes e. halted_at turns start m (frames_in base old group) (stock_of old) count before mid goes b now (stock_of new) last s e taken (step_same turns base old new m b group passed ∙ steps))

  module _ (is : o ≡ None) (i : Input) (input : i ≡ new.input) where
    ends : at_end (in_stock turns) m (frames_in base old group) (stock_of old) ≡ at_end (in_stock turns) m (frames_in base new group) (stock_of new)
    ends = end_same turns base old new m group passed (end_given turns old new (subst (λ (t : Bool). IsGiven t old new None) same (subst (λ (o : Option ℕ). IsGiven turns_now old new o) is turn)) passed)

    -- what follows from the end
    pub told_end : (P : List ℕ → List ℕ → Type 0) → ((before mid now : List ℕ) → IsGoing turns start m (frames_in base old group) (stock_of old) count before mid → Gives mid now None → P before now) → TakesBytes a (left i) P
    told_end P f = subst (λ (i : Input). TakesBytes a (left i) P) (sym input)
        (takes_then a mid (left new.input) (λ before now. IsGoing turns start m (frames_in base old group) (stock_of old) count before now) (λ before now. Gives before now None) P f going (subst (λ (o : Option ℕ). TakesBytes mid (left new.input) (λ before now. Gives before now o)) is gives))

    pub told_whole : (v : Tagged) (made : Stock) → at_end (in_stock turns) m (frames_in base new group) (stock_of new) ≡ Read v made [] → TakesBytes a (left i) (λ before now. read_by (in_stock turns) (stock_of start) before ≡ Read v made now)
    told_whole v made e = told_end (λ before now. read_by (in_stock turns) (stock_of start) before ≡ Read v made now) (λ before mid now goes g. end_whole turns start m (frames_in base old group) (stock_of old) count before mid goes now v made g (ends ∙ e))

    pub told_none : (made : Stock) → at_end (in_stock turns) m (frames_in base new group) (stock_of new) ≡ NoneLeft made → TakesBytes a (left i) (λ before now. (now ≡ []) × (read_by (in_stock turns) (stock_of start) before ≡ NoneLeft made))
    told_none made e = told_end (λ before now. (now ≡ []) × (read_by (in_stock turns) (stock_of start) before ≡ NoneLeft made)) (λ before mid now goes g. (g.1, end_read turns start m (frames_in base old group) (stock_of old) count before mid goes now (NoneLeft made) g (ends ∙ e)))

    pub told_end_refused : (last : World) (k : ℕ) → (k ≡ count) × IsRefusal last (λ t. at_end (in_stock t) m (frames_in base new group) (stock_of new)) [] → TakesBytes a (left i) (λ before now. IsRefusedText turns start last before now k)
    told_end_refused last k r = told_end (λ before now. IsRefusedText turns start last before now k) (λ before mid now goes g. end_refused turns start m (frames_in base old group) (stock_of old) count before mid goes now last (λ t. at_end (in_stock t) m (frames_in base new group) (stock_of new)) k g ends r.1 r.0)

    pub told_end_stopped : (last : World) (s : Stop) → IsStopped (λ t. at_end (in_stock t) m (frames_in base new group) (stock_of new)) s [] (stock_of last) → TakesBytes a (left i) (λ before now. IsStoppedText turns start last before now s)
    told_end_stopped last s r = told_end (λ before now. IsStoppedText turns start last before now s) (λ before mid now goes g. end_stopped turns start m (frames_in base old group) (stock_of old) count before mid goes now last (λ t. at_end (in_stock t) m (frames_in base new group) (stock_of new)) s g ends r)

-- no turn was left for a byte
wants_turn : (turns : Bool) (mid now : Unread) (old new : World) (s : Stop) → WantsTurn turns mid now old new s → (turned turns (stock_of old) ≡ Wants s (stock_of old)) × TakesBytes mid now (λ before now. (b : ℕ) × (before ≡ b ∷ now))
wants_turn true mid now old new s w = (ap (λ x. turned_at x (stock_of old)) w.stop_is, w.given)
wants_turn false mid now old new s w = absurd w

pub told_wants : (turns turns_now : Bool) → turns_now ≡ turns → (start old new : World) (m : Mode) (fs : List (ReaderFrame PairChain)) (count : ℕ) (a mid now : Unread) (s : Stop) → TakesBytes a mid (λ before now. IsGoing turns start m fs (stock_of old) count before now) → WantsTurn turns_now mid now old new s ⊎ (is_fault s ≡ true) → stock_of new ≡ stock_of old → is_fault s ≡ false
    → TakesBytes a now (λ before now. IsStoppedText turns start new before now s)
told_wants turns turns_now same start old new m fs count a mid now s going why stays not = elim why [
  | inl w ↦
      let x = wants_turn turns mid now old new s (subst (λ (t : Bool). WantsTurn t mid now old new s) same w) in
      takes_then a mid now (λ before now. IsGoing turns start m fs (stock_of old) count before now) (λ before now. (b : ℕ) × (before ≡ b ∷ now)) (λ before now. IsStoppedText turns start new before now s) (λ before mid now goes e. turn_wanted turns start m fs (stock_of old) count before mid goes e.0 now new s e.1 x.0 stays) going x.1
  | inr f ↦ absurd (let clash : true ≡ false = sym f ∙ not in cc)
]

-- a turn is a counter's
wants_counted : (turns : Bool) (mid now : Unread) (old new : World) (s : Stop) → WantsTurn turns mid now old new s → is_counted s ≡ true
wants_counted true mid now old new s w = tick_counted old.counts s w.stop_is
wants_counted false mid now old new s w = absurd w

pub wanted_is_counted : (turns : Bool) (mid now : Unread) (old new : World) (s : Stop) → WantsTurn turns mid now old new s ⊎ (is_fault s ≡ true) → is_fault s ≡ false → is_counted s ≡ true
wanted_is_counted turns mid now old new s why not = elim why [ inl w ↦ wants_counted turns mid now old new s w | inr f ↦ absurd (let clash : true ≡ false = sym f ∙ not in cc) ]

-- ---- what is not a fault of the input or the output

pub not_a_read : (s : Stop) → is_counted s ≡ true → s ≢ stop.Read
not_a_read s counted e = let clash : is_counted stop.Read ≡ true = subst (λ (s : Stop). is_counted s ≡ true) e counted in cc

pub not_a_write : (s : Stop) → is_counted s ≡ true → s ≢ stop.Write
not_a_write s counted e = let clash : is_counted stop.Write ≡ true = subst (λ (s : Stop). is_counted s ≡ true) e counted in cc

-- ---- the start

pub kept_first : (base : ℕ) (w : World) → base ≡ length w.levels.walk → kept_above base w.levels ≡ []
kept_first base w e = let nothing : length w.levels.walk - base ≡ 0 = omega (arith, e) in ap (λ n. take n w.levels.walk) nothing

pub ready_first : (base : ℕ) (w : World) → base ≡ length w.levels.walk → CanMake w → IsReadyToRead base w group.Root
ready_first base w e able = record {
  able = able;
  above = omega (arith, e);
  kept = subst (λ (ts : List (ℕ × ℕ × ℕ)). AllByRecursion (IsKeptByReading w.cells.cells) ts) (sym (kept_first base w e)) tt;
  group_is = tt;
  root = λ r. sym e;
}
