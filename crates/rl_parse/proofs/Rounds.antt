-- A round of the loop over tokens.
use Rattle.std.proofs.Common.{◌≡◌, ℕ, zero, suc, ◌+◌, ◌<◌, ◌≤◌, true, nat_le, List, [], ◌∷◌, length, drop, ap, sym, ◌∙◌, subst, inl, inr, arith, drop_of_length-le}
use Rattle.std.proofs.lemmas.Bool.{cond-true, cond-false, cases_Bool, leb-true}
use Rattle.rl_lex.specs.Kinds.{kind_of_token}
use Rattle.rl_grammar.specs.Token.{Token}
use Rattle.rl_grammar.specs.Parser.{ParserFrame, InBinary, InSign, ParserState, Want, Has}
use Rattle.rl_grammar.specs.Nesting.{nesting_bound}
use Rattle.rl_grammar.specs.Within.{nesting, depth, admits_place, bounded_place, place_within}
use Rattle.rl_grammar.specs.Statement.{StatementPlace, Start, Inside, PlaceStep, GoesTo, Ends, Fails, place_step}
use Rattle.rl_grammar.specs.SourceReader.{SourceResult, Unreadable, read_source}
use Rattle.rl_parse.specs.Frames.{nested_in}
use Rattle.rl_parse.specs.Machine.{MachineStep}
use Rattle.rl_parse.specs.Shapes.{frames_shape, frames_at, begun_at, place_shape, place_step_shape}
use Rattle.rl_parse.specs.Recognition.{IsRecognizedAs, Stands, behind_longest}
use Rattle.rl_parse.proofs.Rising.{Rises, RisesStep, within_rises}
use Rattle.rl_parse.proofs.Simulation.{simulates, nested_tells}
use Rattle.rl_parse.specs.declared.frame.Frame.{Frame}
use Rattle.rl_parse.specs.declared.place.Place.{Place}
use Rattle.rl_parse.specs.declared.recognize.Recognized.{Recognized}
use Rattle.rl_parse.specs.declared.recognize.Recognized.TheVariants.{Statement, Nothing, Syntax}

-- with so much left to read, reading from the beginning is reading from here
abbrev pub ReadsOn : List ℕ → ℕ → ℕ → StatementPlace → Type 0
ReadsOn bytes at n s = (m : ℕ) × (length bytes < at + m) × (read_source n (behind_longest bytes) Start bytes ≡ read_source m (behind_longest bytes) s (drop at bytes))

pub goes_on : (bytes : List ℕ) (at to n : ℕ) (s t : StatementPlace) → at < length bytes → at < to → ReadsOn bytes at n s → ((k : ℕ) → read_source (suc k) (behind_longest bytes) s (drop at bytes) ≡ read_source k (behind_longest bytes) t (drop to bytes)) → ReadsOn bytes to n t
goes_on bytes at to n s t here after (zero, enough, reads) next = absurd (omega (arith, here, enough))
goes_on bytes at to n s t here after (suc k, enough, reads) next = (k, omega (arith, enough, after), reads ∙ next k)

-- what is recognized behind a place is recognized from the beginning
from_start : (bytes : List ℕ) (at : ℕ) (r : Recognized) (one other : SourceResult) → one ≡ other → IsRecognizedAs bytes at r other → IsRecognizedAs bytes 0 r one
from_start bytes at (Statement w p to) one other is (after, within, (b, q, reads, what, separator)) = (omega (arith, after), within, (b, q, is ∙ reads, what, separator))
from_start bytes at (Syntax k) one other is (after, within, reads) = (omega arith, within, is ∙ reads)
from_start bytes at Nothing one other is none = absurd none

pub found_reads : (bytes : List ℕ) (at n : ℕ) (s : StatementPlace) (r : Recognized) → at < length bytes → ReadsOn bytes at n s → ((k : ℕ) → IsRecognizedAs bytes at r (read_source (suc k) (behind_longest bytes) s (drop at bytes))) → IsRecognizedAs bytes 0 r (read_source n (behind_longest bytes) Start bytes)
found_reads bytes at n s r here (zero, enough, reads) found = absurd (omega (arith, here, enough))
found_reads bytes at n s r here (suc k, enough, reads) found = from_start bytes at r _ _ reads (found k)

pub end_reads : (bytes : List ℕ) (at n : ℕ) (s : StatementPlace) → at ≡ length bytes → at ≤ 1048576 → ReadsOn bytes at n s → read_source n (behind_longest bytes) Start bytes ≡ Unreadable (drop at bytes)
end_reads bytes at n s end short (zero, enough, reads) = absurd (omega (arith, end, enough))
end_reads bytes at n s end short (suc k, enough, reads) =
    let gone : drop at bytes ≡ [] = drop_of_length-le bytes {i = at} (omega (arith, end)) in
    let past : behind_longest bytes ≡ [] = drop_of_length-le bytes {i = 1048576} (omega (arith, end, short)) in
    reads
    ∙ ap (λ (xs : List ℕ). read_source (suc k) xs s (drop at bytes)) past
    ∙ ap (λ (xs : List ℕ). read_source (suc k) [] s xs) gone
    ∙ ap Unreadable (sym gone)

-- ---- what has begun stays short

nesting_low : (f : ParserFrame) (fs : List ParserFrame) → nesting (f ∷ fs) ≤ suc (nesting fs)
nesting_low (InBinary o a) fs = omega arith
nesting_low (InSign s) fs = omega arith
nesting_low f fs = omega arith

depth_low : (s : ParserState) → nesting (frames_at s) ≤ suc (depth s)
depth_low (Want []) = omega arith
depth_low (Want (f ∷ fs)) = nesting_low f fs
depth_low (Has fs a) = omega arith
depth_low s = omega arith

abbrev IsLow : StatementPlace → Type 0
IsLow t = nested_in (frames_shape (begun_at t)) ≤ 201

inside_low : (s : ParserState) → nat_le (depth s) nesting_bound ≡ true → nested_in (frames_shape (frames_at s)) ≤ 201
inside_low s bounded =
    let low = leb-true (depth s) 200 bounded in
    let few = depth_low s in
    let same = nested_tells (frames_at s) in
    omega (arith, low, few, same)

bounded_low : (st : PlaceStep) (t : StatementPlace) → bounded_place st ≡ GoesTo t → IsLow t
bounded_low (GoesTo (Inside b s)) t e = elim (cases_Bool (nat_le (depth s) nesting_bound)) [
  | inl bounded ↦
      let goes : GoesTo (Inside b s) ≡ GoesTo t = sym (cond-true (nat_le (depth s) nesting_bound) _ _ bounded) ∙ e in
      let same : Inside b s ≡ t = cc in
      subst IsLow same (inside_low s bounded)
  | inr deep ↦ absurd (let fails = sym (cond-false (nat_le (depth s) nesting_bound) _ _ deep) ∙ e in cc)
]
bounded_low (Ends b p) t e = absurd cc
bounded_low Fails t e = absurd cc
bounded_low (GoesTo s) t e = let same : s ≡ t = cc in subst IsLow same (omega arith)

pub goes_low : (s t : StatementPlace) (k : Token) (p : Place) (fs : List Frame) → place_within s k ≡ GoesTo t → Stands p fs t → nested_in fs ≤ 201
goes_low s t k p fs step stands = elim (cases_Bool (admits_place s k)) [
  | inl admits ↦
      let low = bounded_low (place_step s k) t (sym (cond-true (admits_place s k) _ _ admits) ∙ step) in
      subst (λ (xs : List Frame). nested_in xs ≤ 201) (sym stands.1) low
  | inr other ↦ absurd (let fails = sym (cond-false (admits_place s k) _ _ other) ∙ step in cc)
]

pub goes_rising : (s t : StatementPlace) (k : Token) (p q : Place) (fs gs : List Frame) → place_within s k ≡ GoesTo t → Stands p fs s → Stands q gs t → Rises fs → Rises gs
goes_rising s t k p q fs gs step before after rises =
    let begun = subst (λ (xs : List Frame). Rises xs) before.1 rises in
    let moved = subst (λ (m : MachineStep). RisesStep m) (sym (simulates s k) ∙ ap place_step_shape step) (within_rises (place_shape s) (frames_shape (begun_at s)) (kind_of_token k) begun) in
    subst (λ (xs : List Frame). Rises xs) (sym after.1) moved
