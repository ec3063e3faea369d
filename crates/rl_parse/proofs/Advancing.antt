-- What stands next leads the parser of the grammar as it leads the machine.
use Rattle.std.proofs.Common.{◌≡◌, ℕ, suc, ◌+◌, ◌-◌, ◌<◌, ◌≤◌, min, true, false, nat_le, List, [], ◌∷◌, length, drop, inl, inr, refl, ap, sym, ◌∙◌, subst, arith, length-drop, drop_of_length-le, drop-drop}
use Rattle.std.proofs.lemmas.Bool.{cond-true, cond-false, cases_Bool, leb-true, leb-false, le-leb, lt-leb}
use Rattle.rl_text.specs.Gap.{IsBlankText}
use Rattle.rl_lex.specs.Kinds.{kind_of_token, separator_kind}
use Rattle.rl_lex.specs.Tokens.{IsNextToken, IsNextBad}
use Rattle.rl_lex.specs.declared.kind.TokenKind.{TokenKind}
use Rattle.rl_lex.specs.declared.next.Token as lexed
use Rattle.rl_grammar.specs.Token as token
use Rattle.rl_grammar.specs.Lexer.{Front, Stops, first_token}
use Rattle.rl_grammar.specs.Laws.{FindsToken, FindsNoToken, RefusesByte}
use Rattle.rl_grammar.specs.Statement.{StatementPlace, PlaceStep, GoesTo, Ends, Fails}
use Rattle.rl_grammar.specs.Within.{place_within}
use Rattle.rl_grammar.specs.SourceReader.{HasStatement, Unreadable, not_past, after_token, fits_source, with_first, read_source}
use Rattle.rl_parse.specs.Machine.{MachineStep, machine_within}
use Rattle.rl_parse.specs.Shapes.{what_of, place_shape, begun_at, frames_shape, place_step_shape}
use Rattle.rl_parse.specs.Recognition.{IsAdvance, IsTaken, Stands, behind_longest}
use Rattle.rl_parse.proofs.Simulation.{simulates}
use Rattle.rl_parse.proofs.Stopping.{stops_at}
use Rattle.rl_parse.specs.declared.frame.Frame.{Frame}
use Rattle.rl_parse.specs.declared.place.Place.{Place}
use Rattle.rl_parse.specs.declared.recognize.Recognized.TheVariants.{Statement, Nothing, Syntax}
use Rattle.rl_parse.specs.declared.recognize.Advance.{Advance}
use Rattle.rl_parse.specs.declared.recognize.Advance.TheVariants.{Goes, Found}

-- ---- the end of the longest statement

pub limit_behind : (bytes : List ℕ) (limit : ℕ) → limit ≡ min (length bytes) 1048576 → behind_longest bytes ≡ drop limit bytes
limit_behind bytes limit is = elim (cases_Bool (nat_le (length bytes) 1048576)) [
  | inl short ↦
      let few = leb-true (length bytes) 1048576 short in
      let gone : behind_longest bytes ≡ [] = drop_of_length-le bytes {i = 1048576} (omega (arith, few)) in
      let left : drop limit bytes ≡ [] = drop_of_length-le bytes {i = limit} (omega (arith, few, is)) in
      gone ∙ sym left
  | inr long ↦
      let many = leb-false (length bytes) 1048576 long in
      let same : 1048576 ≡ limit = omega (arith, many, is) in
      ap (λ (n : ℕ). drop n bytes) same
]

fits_limit : (bytes : List ℕ) (to : ℕ) → to ≤ 1048576 → to ≤ length bytes → fits_source (behind_longest bytes) (drop to bytes) ≡ true
fits_limit bytes to short within =
    let end = length-drop 1048576 bytes in
    let rest = length-drop to bytes in
    le-leb _ _ (omega (arith, end, rest, short, within))

fits_no_limit : (bytes : List ℕ) (to : ℕ) → 1048576 < to → to ≤ length bytes → fits_source (behind_longest bytes) (drop to bytes) ≡ false
fits_no_limit bytes to long within =
    let end = length-drop 1048576 bytes in
    let rest = length-drop to bytes in
    let less : length (drop to bytes) < length (behind_longest bytes) = omega (arith, end, rest, long, within) in
    lt-leb _ _ less

-- ---- a token

token_reads : FindsToken → (bytes : List ℕ) (at n : ℕ) (s : StatementPlace) (found : lexed.Token) (next : IsNextToken bytes at found) → found.to ≤ 1048576 → read_source (suc n) (behind_longest bytes) s (drop at bytes) ≡ after_token (behind_longest bytes) (drop found.from bytes) (drop found.to bytes) (place_within s next.token) (λ t. read_source n (behind_longest bytes) t (drop found.to bytes))
token_reads finds bytes at n s found next short =
    ap (λ (f : Front). with_first (behind_longest bytes) s f (λ t rest. read_source n (behind_longest bytes) t rest)) ((finds (drop at bytes) (drop found.from bytes) (drop found.to bytes) next.token).1 next.is)
    ∙ cond-true (fits_source (behind_longest bytes) (drop found.to bytes)) _ _ (fits_limit bytes found.to short next.within)

taken_advances : (bytes : List ℕ) (at : ℕ) (s : StatementPlace) (fs : List Frame) (found : lexed.Token) (next : IsNextToken bytes at found) (r : Advance) (st : PlaceStep) → found.to ≤ 1048576 → place_within s next.token ≡ st → IsTaken found fs r (place_step_shape st) → ((n : ℕ) → read_source (suc n) (behind_longest bytes) s (drop at bytes) ≡ after_token (behind_longest bytes) (drop found.from bytes) (drop found.to bytes) st (λ t. read_source n (behind_longest bytes) t (drop found.to bytes))) → IsAdvance bytes at s fs r
taken_advances bytes at s fs found next (Goes p to) (GoesTo t) short step taken reads =
    let place : place_shape t ≡ p = let e = taken.1 in cc in
    let stack : frames_shape (begun_at t) ≡ fs = let e = taken.1 in cc in
    record {
      after = omega (arith, taken.0, next.after, next.takes);
      within = omega (arith, taken.0, next.within);
      short = omega (arith, taken.0, short);
      token = next.token;
      next = t;
      step = step;
      stands = (sym place, sym stack);
      reads = λ n. reads n ∙ ap (λ (k : ℕ). read_source n (behind_longest bytes) t (drop k bytes)) (sym taken.0);
    }
taken_advances bytes at s fs found next (Goes p to) (Ends b q) short step taken reads = absurd (let e = taken.1 in cc)
taken_advances bytes at s fs found next (Goes p to) Fails short step taken reads = absurd (let e = taken.1 in cc)
taken_advances bytes at s fs found next (Found (Statement w q to)) (Ends b p) short step taken reads =
    let what : what_of b ≡ w = let e = taken.1 in cc in
    let separator : separator_kind p ≡ q = let e = taken.1 in cc in
    λ n. (omega (arith, taken.0, next.after, next.takes), omega (arith, taken.0, next.within), (b, p, reads n ∙ ap (λ (k : ℕ). HasStatement b p (drop k bytes)) (sym taken.0), sym what, sym separator))
taken_advances bytes at s fs found next (Found (Statement w q to)) (GoesTo t) short step taken reads = absurd (let e = taken.1 in cc)
taken_advances bytes at s fs found next (Found (Statement w q to)) Fails short step taken reads = absurd (let e = taken.1 in cc)
taken_advances bytes at s fs found next (Found (Syntax k)) Fails short step taken reads =
    λ n. (omega (arith, taken.0, next.after), omega (arith, taken.0, next.takes, next.within), reads n ∙ ap (λ (k : ℕ). Unreadable (drop k bytes)) (sym taken.0))
taken_advances bytes at s fs found next (Found (Syntax k)) (GoesTo t) short step taken reads = absurd (let e = taken.1 in cc)
taken_advances bytes at s fs found next (Found (Syntax k)) (Ends b p) short step taken reads = absurd (let e = taken.1 in cc)
taken_advances bytes at s fs found next (Found Nothing) st short step taken reads = absurd taken

within_shape : (p : Place) (stack : List Frame) (kind : TokenKind) (s : StatementPlace) (t : token.Token) → Stands p stack s → kind ≡ kind_of_token t → machine_within p stack kind ≡ place_step_shape (place_within s t)
within_shape p stack kind s t stands is =
    ap (λ (q : Place). machine_within q stack kind) stands.0
    ∙ ap (λ (fs : List Frame). machine_within (place_shape s) fs kind) stands.1
    ∙ ap (λ (k : TokenKind). machine_within (place_shape s) (frames_shape (begun_at s)) k) is
    ∙ sym (simulates s t)

pub token_advances : FindsToken → (bytes : List ℕ) (at : ℕ) (p : Place) (stack fs : List Frame) (s : StatementPlace) (found : lexed.Token) (r : Advance) (next : IsNextToken bytes at found) → found.to ≤ 1048576 → Stands p stack s → IsTaken found fs r (machine_within p stack found.kind) → IsAdvance bytes at s fs r
token_advances finds bytes at p stack fs s found r next short stands taken =
    taken_advances bytes at s fs found next r (place_within s next.token) short refl
    (subst (λ (m : MachineStep). IsTaken found fs r m) (within_shape p stack found.kind s next.token stands next.kind) taken)
    (λ n. token_reads finds bytes at n s found next short)

-- ---- what is past the longest statement, no token, and a byte that has no place in one

pub token_past : FindsToken → (bytes : List ℕ) (at n : ℕ) (s : StatementPlace) (found : lexed.Token) (limit : ℕ) (next : IsNextToken bytes at found) → limit ≡ min (length bytes) 1048576 → limit < found.to → read_source (suc n) (behind_longest bytes) s (drop at bytes) ≡ Unreadable (drop limit bytes)
token_past finds bytes at n s found limit next is past =
    let within = next.within in
    ap (λ (f : Front). with_first (behind_longest bytes) s f (λ t rest. read_source n (behind_longest bytes) t rest)) ((finds (drop at bytes) (drop found.from bytes) (drop found.to bytes) next.token).1 next.is)
    ∙ cond-false (fits_source (behind_longest bytes) (drop found.to bytes)) _ _ (fits_no_limit bytes found.to (omega (arith, is, past, within)) within)
    ∙ ap Unreadable (limit_behind bytes limit is)

past_nothing : (end : List ℕ) → not_past end [] ≡ end
past_nothing [] = refl
past_nothing (b ∷ bs) = cond-false (nat_le (length (b ∷ bs)) 0) _ _ (lt-leb (length (b ∷ bs)) 0 (omega arith))

pub blank_ends : FindsNoToken → (bytes : List ℕ) (at n : ℕ) (s : StatementPlace) (limit : ℕ) → limit ≡ min (length bytes) 1048576 → IsBlankText (drop at bytes) → read_source (suc n) (behind_longest bytes) s (drop at bytes) ≡ Unreadable (drop limit bytes)
blank_ends none bytes at n s limit is blank =
    ap (λ (f : Front). with_first (behind_longest bytes) s f (λ t rest. read_source n (behind_longest bytes) t rest)) ((none (drop at bytes)).1 blank)
    ∙ ap Unreadable (past_nothing (behind_longest bytes) ∙ limit_behind bytes limit is)

place_of : (bytes : List ℕ) (at k : ℕ) (from : List ℕ) → at ≤ k → k ≤ length bytes → at ≤ length bytes → k - at ≡ length (drop at bytes) - length from → (j : ℕ) × (j ≤ length (drop at bytes)) × (from ≡ drop j (drop at bytes)) → from ≡ drop k bytes
place_of bytes at k from after within here count place =
    let size = length-drop at bytes in
    let left = ap length place.2 ∙ length-drop place.0 (drop at bytes) in
    let same : at + place.0 ≡ k = let few = place.1 in omega (arith, size, left, count, few, after, within, here) in
    place.2 ∙ drop-drop place.0 at bytes ∙ ap (λ (n : ℕ). drop n bytes) same

bad_stops : RefusesByte → (bytes : List ℕ) (at k : ℕ) → at ≤ length bytes → IsNextBad bytes at k → first_token (drop at bytes) ≡ Stops (drop k bytes)
bad_stops refuses bytes at k here bad =
    let stopped = (refuses (drop at bytes) (k - at)).1 bad.is in
    let place = stops_at (drop at bytes) stopped.0 stopped.1 in
    stopped.1 ∙ ap Stops (place_of bytes at k stopped.0 bad.after bad.within here stopped.2 place)

bad_reads : RefusesByte → (bytes : List ℕ) (at n : ℕ) (s : StatementPlace) (k : ℕ) → at ≤ length bytes → IsNextBad bytes at k → read_source (suc n) (behind_longest bytes) s (drop at bytes) ≡ Unreadable (not_past (behind_longest bytes) (drop k bytes))
bad_reads refuses bytes at n s k here bad = ap (λ (f : Front). with_first (behind_longest bytes) s f (λ t rest. read_source n (behind_longest bytes) t rest)) (bad_stops refuses bytes at k here bad)

pub bad_ends : RefusesByte → (bytes : List ℕ) (at n : ℕ) (s : StatementPlace) (k limit : ℕ) → limit ≡ min (length bytes) 1048576 → at ≤ length bytes → IsNextBad bytes at k → k ≤ limit → read_source (suc n) (behind_longest bytes) s (drop at bytes) ≡ Unreadable (drop k bytes)
bad_ends refuses bytes at n s k limit is here bad before =
    bad_reads refuses bytes at n s k here bad
    ∙ ap Unreadable (cond-true (nat_le (length (behind_longest bytes)) (length (drop k bytes))) _ _ (fits_limit bytes k (omega (arith, is, before)) bad.within))

pub bad_past : RefusesByte → (bytes : List ℕ) (at n : ℕ) (s : StatementPlace) (k limit : ℕ) → limit ≡ min (length bytes) 1048576 → at ≤ length bytes → IsNextBad bytes at k → limit < k → read_source (suc n) (behind_longest bytes) s (drop at bytes) ≡ Unreadable (drop limit bytes)
bad_past refuses bytes at n s k limit is here bad past =
    let within = bad.within in
    bad_reads refuses bytes at n s k here bad
    ∙ ap Unreadable (cond-false (nat_le (length (behind_longest bytes)) (length (drop k bytes))) _ _ (fits_no_limit bytes k (omega (arith, is, past, within)) within))
    ∙ ap Unreadable (limit_behind bytes limit is)
