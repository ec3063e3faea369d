-- Where bytes are refused, the bytes before that place are the front of a spelling, and with the byte there they are of none.
use Rattle.std.proofs.Common.{◌≡◌, ◌↔◌, ℕ, suc, ◌+◌, ◌-◌, ◌<◌, ◌≤◌, List, [], ◌∷◌, ◌++◌, length, take, drop, refl, ap, sym, subst, ◌∙◌, inl, inr, arith, append_assoc}
use Rattle.std.proofs.lemmas.Bool.{cases_order}
use Rattle.std.proofs.lemmas.List.{take-append-drop, take-take, length-append, take_at}
use Rattle.rl_text.specs.Datum.{Datum}
use Rattle.rl_text.specs.Gap.{IsBlankText}
use Rattle.rl_text.specs.Spelling.{IsSpelled}
use Rattle.rl_text.specs.Refusal.{BeginsSpelling, IsRefusedAt}
use Rattle.rl_text.specs.Reader.{ReaderFrame, Mode, Gap, Comment, InName, InEscape, AfterSign, InNumber, InText, AfterQuote, Ended, Whole, Inside, Lacks, ReaderStep, Goes, Done, Refuses, Halts, reader_step, ReaderOutcome, Read, NoneLeft, Refused, Stopped, ends_after, at_end, after_step, read_from, read_by}
use Rattle.rl_text.specs.Reading.{Items, plain, NoText, Unreadable, reading_of, reading}
use Rattle.rl_text.proofs.Live.{live}

-- ---- reading looks at no byte past the refused one

ends_after_refused : (ended : Ended (Unit {0}) Datum Items ⊥) (from : List ℕ) → ends_after ended ≡ Refused tt from → from ≡ []
ends_after_refused (Whole v s) from refused = absurd cc
ends_after_refused (Inside fs s) from refused = cc
ends_after_refused (Lacks w s) from refused = absurd w

between_refused : (fs : List (ReaderFrame Items)) (from : List ℕ) → at_end plain Gap fs tt ≡ Refused tt from → from ≡ []
between_refused [] from refused = absurd cc
between_refused (f ∷ fs) from refused = cc

-- at the end no byte is refused
at_end_refused : (mode : Mode) (fs : List (ReaderFrame Items)) (from : List ℕ) → at_end plain mode fs tt ≡ Refused tt from → from ≡ []
at_end_refused Gap fs from refused = between_refused fs from refused
at_end_refused Comment fs from refused = between_refused fs from refused
at_end_refused (InName cs) fs from refused = ends_after_refused _ from refused
at_end_refused (InEscape cs) fs from refused = cc
at_end_refused (AfterSign c) fs from refused = ends_after_refused _ from refused
at_end_refused (InNumber minus n) fs from refused = ends_after_refused _ from refused
at_end_refused (InText cs) fs from refused = cc
at_end_refused (AfterQuote cs) fs from refused = ends_after_refused _ from refused

-- all the bytes in front go on, whatever follows them, and the byte behind them is refused, whatever follows it
record Stops (mode : Mode) (fs : List (ReaderFrame Items)) (bytes from : List ℕ) : Type 0 where
  front : List ℕ
  is : bytes ≡ front ++ from
  at : Mode
  begun : List (ReaderFrame Items)
  goes : (more : List ℕ) → read_from plain mode fs tt (front ++ more) ≡ read_from plain at begun tt more
  refuses : (b : ℕ) (bs more : List ℕ) → from ≡ b ∷ bs → read_from plain at begun tt (b ∷ more) ≡ Refused tt (b ∷ more)

-- reading goes on from a byte that leads there
abbrev onward : List ℕ → Mode → List (ReaderFrame Items) → Unit {0} → ReaderOutcome (Unit {0}) Datum ⊥
onward bs mode fs s = read_from plain mode fs s bs

-- one byte more in front
stops_behind : (mode : Mode) (fs : List (ReaderFrame Items)) (b : ℕ) (bs from : List ℕ) (next : Mode) (gs : List (ReaderFrame Items)) → reader_step plain mode b fs tt ≡ Goes next gs tt → Stops next gs bs from → Stops mode fs (b ∷ bs) from
stops_behind mode fs b bs from next gs goes stops = record {
  front = b ∷ stops.front;
  is = ap (λ (xs : List ℕ). b ∷ xs) stops.is;
  at = stops.at;
  begun = stops.begun;
  goes = λ more. ap (λ (x : ReaderStep (Unit {0}) Datum Items ⊥). after_step b (stops.front ++ more) x (onward (stops.front ++ more))) goes ∙ stops.goes more;
  refuses = stops.refuses;
}

-- the byte is refused here
stops_here : (mode : Mode) (fs : List (ReaderFrame Items)) (b : ℕ) (bs from : List ℕ) → reader_step plain mode b fs tt ≡ Refuses tt → from ≡ b ∷ bs → Stops mode fs (b ∷ bs) from
stops_here mode fs b bs from refuses is = record {
  front = [];
  is = sym is;
  at = mode;
  begun = fs;
  goes = λ more. refl;
  refuses = λ c cs more e. let same : c ≡ b = cc in rw same (ap (λ (x : ReaderStep (Unit {0}) Datum Items ⊥). after_step b more x (onward more)) refuses);
}

-- by what the byte leads to
stops_after : (mode : Mode) (fs : List (ReaderFrame Items)) (b : ℕ) (bs from : List ℕ) (x : ReaderStep (Unit {0}) Datum Items ⊥) → reader_step plain mode b fs tt ≡ x → after_step b bs x (onward bs) ≡ Refused tt from → ((next : Mode) (gs : List (ReaderFrame Items)) → read_from plain next gs tt bs ≡ Refused tt from → Stops next gs bs from) → Stops mode fs (b ∷ bs) from
stops_after mode fs b bs from (Goes next gs s) e refused each = stops_behind mode fs b bs from next gs e (each next gs refused)
stops_after mode fs b bs from (Done v used s) e refused each = absurd cc
stops_after mode fs b bs from (Refuses s) e refused each = stops_here mode fs b bs from e cc
stops_after mode fs b bs from (Halts w s) e refused each = absurd w

stops : (mode : Mode) (fs : List (ReaderFrame Items)) (bytes from : List ℕ) → read_from plain mode fs tt bytes ≡ Refused tt from → Stops mode fs bytes from
stops mode fs [] from refused =
    let none = at_end_refused mode fs from refused in
    record { front = []; is = sym none; at = mode; begun = fs; goes = λ more. refl; refuses = λ b bs more e. absurd cc }
stops mode fs (b ∷ bs) from refused = stops_after mode fs b bs from (reader_step plain mode b fs tt) refl refused (λ next gs refused. stops next gs bs from refused)

-- ---- which spellings begin with what

-- what is spelled is read; what is read is spelled; blanks and comments are no text; and nothing else is none
abbrev pub IsComplete : Type 0
IsComplete = (bytes : List ℕ) (datum : Datum) (rest : List ℕ) → IsSpelled bytes datum rest → read_by plain tt bytes ≡ Read datum tt rest

abbrev pub IsSound : Type 0
IsSound = (bytes : List ℕ) (datum : Datum) (rest : List ℕ) → read_by plain tt bytes ≡ Read datum tt rest → IsSpelled bytes datum rest

abbrev pub PassesBlank : Type 0
PassesBlank = (bytes : List ℕ) → IsBlankText bytes → reading bytes ≡ NoText

abbrev pub PassesOnlyBlank : Type 0
PassesOnlyBlank = (bytes : List ℕ) → reading bytes ≡ NoText → IsBlankText bytes

-- the bytes that go on are the front of a spelling
front_begins : IsSound → (bytes from : List ℕ) (s : Stops Gap [] bytes from) → BeginsSpelling s.front
front_begins sound bytes from s =
    let l = live s.at s.begun in
    record { more = l.bytes; datum = l.datum; spelled = sound (s.front ++ l.bytes) l.datum [] (s.goes l.bytes ∙ l.read) }

-- and with the byte that is refused they are of none
none_further : IsComplete → (bytes : List ℕ) (b : ℕ) (bs : List ℕ) (s : Stops Gap [] bytes (b ∷ bs)) → BeginsSpelling (s.front ++ b ∷ []) → ⊥
none_further complete bytes b bs s begins =
    let read = complete ((s.front ++ b ∷ []) ++ begins.more) begins.datum [] begins.spelled in
    let refused = s.goes (b ∷ begins.more) ∙ s.refuses b bs begins.more refl in
    let same = append_assoc s.front (b ∷ []) begins.more in
    absurd cc

-- a shorter front of a spelling is one
shorter_begins : (bytes : List ℕ) (j k : ℕ) → j ≤ k → BeginsSpelling (take k bytes) → BeginsSpelling (take j bytes)
shorter_begins bytes j k below begins =
    let part = take-append-drop j (take k bytes) in
    let front = take-take j k bytes below in
    let same : take j bytes ++ (drop j (take k bytes) ++ begins.more) ≡ take k bytes ++ begins.more = sym (append_assoc (take j bytes) (drop j (take k bytes)) begins.more) ∙ cc in
    record { more = drop j (take k bytes) ++ begins.more; datum = begins.datum; spelled = rw same begins.spelled }

-- bytes are refused at one place
not_before : (bytes : List ℕ) (j k : ℕ) → IsRefusedAt bytes j → IsRefusedAt bytes k → j < k → ⊥
not_before bytes j k first second below =
    let within = second.within in
    first.stops (omega arith) (shorter_begins bytes (suc j) k (omega arith) second.begins)

same_place : (bytes : List ℕ) (j k : ℕ) → IsRefusedAt bytes j → IsRefusedAt bytes k → j ≡ k
same_place bytes j k first second =
    elim (cases_order j k) [
      | inl e ↦ e
      | inr other ↦ elim other [
        | inl below ↦ absurd (not_before bytes j k first second below)
        | inr above ↦ absurd (not_before bytes k j second first above)
      ]
    ]

-- ---- bytes that are refused

-- the byte behind the front is there, and with it no spelling goes on
stops_at : IsComplete → (bytes from : List ℕ) (s : Stops Gap [] bytes from) → length s.front < length (s.front ++ from) → BeginsSpelling (take (suc (length s.front)) (s.front ++ from)) → ⊥
stops_at complete bytes [] s more begins = absurd (let e = length-append s.front [] in omega arith)
stops_at complete bytes (b ∷ bs) s more begins =
    let e : take (suc (length s.front)) (s.front ++ b ∷ bs) ≡ s.front ++ b ∷ [] = rw (← append_assoc s.front (b ∷ []) bs) (take_at (s.front ++ b ∷ []) bs (suc (length s.front)) (length-append s.front (b ∷ []) ∙ omega arith)) in
    none_further complete bytes b bs s (rw e at begins)

refused_behind : IsComplete → IsSound → PassesBlank → (bytes from : List ℕ) → read_by plain tt bytes ≡ Refused tt from → (s : Stops Gap [] bytes from) → IsRefusedAt bytes (length s.front)
refused_behind complete sound blank bytes from refused s = record {
  unspelled = λ datum rest spelled. let read = complete bytes datum rest spelled in absurd cc;
  some = λ is_blank. let read = blank bytes is_blank in let same = ap (reading_of bytes) refused in absurd cc;
  within = rw s.is (omega (arith, length-append s.front from));
  begins = rw (s.is, take_at s.front from (length s.front) refl) (front_begins sound bytes from s);
  stops = rw s.is (stops_at complete bytes from s);
}

-- the place is as many bytes from the end as are left
refused_at : IsComplete → IsSound → PassesBlank → (bytes from : List ℕ) → read_by plain tt bytes ≡ Refused tt from → IsRefusedAt bytes (length bytes - length from)
refused_at complete sound blank bytes from refused =
    let s = stops Gap [] bytes from refused in
    let whole : length bytes ≡ length s.front + length from = ap length s.is ∙ length-append s.front from in
    let place : length s.front ≡ length bytes - length from = omega arith in
    subst (λ (k : ℕ). IsRefusedAt bytes k) place (refused_behind complete sound blank bytes from refused s)

-- by what is read
unreadable_is_refused : IsComplete → IsSound → PassesBlank → (bytes : List ℕ) (k : ℕ) (x : ReaderOutcome (Unit {0}) Datum ⊥) → read_by plain tt bytes ≡ x → reading_of bytes x ≡ Unreadable k → IsRefusedAt bytes k
unreadable_is_refused complete sound blank bytes k (Read datum s rest) e unreadable = absurd cc
unreadable_is_refused complete sound blank bytes k (NoneLeft s) e unreadable = absurd cc
unreadable_is_refused complete sound blank bytes k (Refused s from) e unreadable =
    let place : length bytes - length from ≡ k = cc in
    subst (λ (i : ℕ). IsRefusedAt bytes i) place (refused_at complete sound blank bytes from e)
unreadable_is_refused complete sound blank bytes k (Stopped w s rest) e unreadable = absurd w

refused_is_unreadable : IsComplete → IsSound → PassesBlank → PassesOnlyBlank → (bytes : List ℕ) (k : ℕ) (x : ReaderOutcome (Unit {0}) Datum ⊥) → read_by plain tt bytes ≡ x → IsRefusedAt bytes k → reading_of bytes x ≡ Unreadable k
refused_is_unreadable complete sound blank none bytes k (Read datum s rest) e refused = absurd (refused.unspelled datum rest (sound bytes datum rest e))
refused_is_unreadable complete sound blank none bytes k (NoneLeft s) e refused = absurd (refused.some (none bytes (ap (reading_of bytes) e)))
refused_is_unreadable complete sound blank none bytes k (Refused s from) e refused = ap Unreadable (same_place bytes (length bytes - length from) k (refused_at complete sound blank bytes from e) refused)
refused_is_unreadable complete sound blank none bytes k (Stopped w s rest) e refused = absurd w

-- bytes are unreadable exactly at the first byte with which no spelling goes on, or at their end inside a spelling
pub refused_first : IsComplete → IsSound → PassesBlank → PassesOnlyBlank → (bytes : List ℕ) (k : ℕ) → (reading bytes ≡ Unreadable k) ↔ IsRefusedAt bytes k
refused_first complete sound blank none bytes k =
    (λ unreadable. unreadable_is_refused complete sound blank bytes k (read_by plain tt bytes) refl unreadable, λ refused. refused_is_unreadable complete sound blank none bytes k (read_by plain tt bytes) refl refused)
