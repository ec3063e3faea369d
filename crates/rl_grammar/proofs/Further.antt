-- What follows the byte behind the longest statement does not matter.
use Rattle.std.proofs.Common.{◌≡◌, ℕ, zero, suc, ◌-◌, ◌<◌, ◌≤◌, Bool, true, false, ◌==◌, List, [], ◌∷◌, ◌++◌, Option, Some, None, length, take, drop, refl, ap, sym, subst, ◌∙◌, inl, inr, arith, append_assoc}
use Rattle.std.proofs.lemmas.Bool.{cases_Bool, cond-true, cond-false, leb-true, leb-false}
use Rattle.std.proofs.lemmas.List.{length-append, length-drop, drop_at, drop-append-le, take-append-le}
use Rattle.rl_tree.specs.Bytes.{is_blank}
use Rattle.rl_text.specs.Datum.{Datum}
use Rattle.rl_text.specs.Laws.{FindsSpelled}
use Rattle.rl_text.specs.Reader.{ReaderFrame, Mode, Gap, Comment, InName, InEscape, AfterSign, InNumber, InText, AfterQuote, Ended, Whole, Inside, Lacks, ReaderStep, Goes, Done, Refuses, Halts, reader_step, ReaderOutcome, Read, Refused, Stopped, ends_after, at_end_between, at_end, after_step, read_from}
use Rattle.rl_text.specs.Reader as reader
use Rattle.rl_text.specs.Reading.{Items, Found, plain, reading_of, reading}
use Rattle.rl_grammar.specs.Token.{Token}
use Rattle.rl_grammar.specs.Written.{short_mark, long_mark}
use Rattle.rl_grammar.specs.Lexer.{behind_gap, Lexed, Lexes, Bad, begins_spelling, before_rest, token_read, lexed_or_bad, lexed_spelling, lexed_long, lexed_mark, lexed, Front, Begins, NoneLeft, Stops, first_token_of, first_behind, first_token}
use Rattle.rl_grammar.specs.Statement.{StatementPlace, Start, PlaceStep, GoesTo, Ends, Fails}
use Rattle.rl_grammar.specs.Within.{place_within}
use Rattle.rl_grammar.specs.Source.{longest, past_longest}
use Rattle.rl_grammar.specs.SourceReader.{Unreadable, fits_source, read_source, source_behind, source_statement, extended_source}
use Rattle.rl_grammar.proofs.Spelled.{spelled_here}
use Rattle.rl_grammar.proofs.Lexed.{long_has_short, found_is_first}
use Rattle.rl_grammar.proofs.Sources.{first_shorter, by_first, by_token, by_long, fits_from, fits_not}
use Rattle.rl_grammar.proofs.Unreadable.{not_past_before, not_past_behind}

-- ---- reading

abbrev Outcomes : Type 0
Outcomes = ReaderOutcome (Unit {0}) Datum ⊥

-- at most so many bytes are left
abbrev Leaves : Outcomes → ℕ → Type 0
Leaves (Read v s rest) n = length rest ≤ n
Leaves (reader.NoneLeft s) n = Unit {0}
Leaves (Refused s from) n = length from ≤ n
Leaves (Stopped w s rest) n = ⊥

-- what is read of bytes, and of these with more behind them: the same, where a byte is left; or nothing is left of them, and of more at most all
data ReadOn (bytes more : List ℕ) (one other : Outcomes) : Type 0 where
  SameRead : (v : Datum) (s : Unit {0}) (b : ℕ) (bs : List ℕ) → one ≡ Read v s (b ∷ bs) → other ≡ Read v s (b ∷ (bs ++ more)) → ReadOn bytes more one other
  SameRefused : (front : List ℕ) (s : Unit {0}) (b : ℕ) (bs : List ℕ) → bytes ≡ front ++ b ∷ bs → one ≡ Refused s (b ∷ bs) → other ≡ Refused s (b ∷ (bs ++ more)) → ReadOn bytes more one other
  ReadBeyond : Leaves one 0 → Leaves other (length more) → ReadOn bytes more one other

ends_leave : (e : Ended (Unit {0}) Datum Items ⊥) → Leaves (ends_after e) 0
ends_leave (Whole v s) = omega arith
ends_leave (Inside fs s) = omega arith
ends_leave (Lacks w s) = absurd w

between_leaves : (fs : List (ReaderFrame Items)) (s : Unit {0}) → Leaves (at_end_between fs s) 0
between_leaves [] s = tt
between_leaves (f ∷ fs) s = omega arith

end_leaves : (mode : Mode) (fs : List (ReaderFrame Items)) (s : Unit {0}) → Leaves (at_end plain mode fs s) 0
end_leaves Gap fs s = between_leaves fs s
end_leaves Comment fs s = between_leaves fs s
end_leaves (InName cs) fs s = ends_leave _
end_leaves (InEscape cs) fs s = omega arith
end_leaves (AfterSign c) fs s = ends_leave _
end_leaves (InNumber minus n) fs s = ends_leave _
end_leaves (InText cs) fs s = omega arith
end_leaves (AfterQuote cs) fs s = ends_leave _

more_leaves : (o : Outcomes) (m n : ℕ) → m ≤ n → Leaves o m → Leaves o n
more_leaves (Read v s rest) m n below leaves = omega arith
more_leaves (reader.NoneLeft s) m n below leaves = tt
more_leaves (Refused s from) m n below leaves = omega arith
more_leaves (Stopped w s rest) m n below leaves = leaves

step_leaves : (b : ℕ) (bs : List ℕ) (st : ReaderStep (Unit {0}) Datum Items ⊥) → ((mode : Mode) (fs : List (ReaderFrame Items)) (s : Unit {0}) → Leaves (read_from plain mode fs s bs) (length bs)) → Leaves (after_step b bs st (λ mode fs s. read_from plain mode fs s bs)) (length (b ∷ bs))
step_leaves b bs (Goes mode fs s) each = more_leaves (read_from plain mode fs s bs) (length bs) (length (b ∷ bs)) (omega arith) (each mode fs s)
step_leaves b bs (Done v true s) each = omega arith
step_leaves b bs (Done v false s) each = omega arith
step_leaves b bs (Refuses s) each = omega arith
step_leaves b bs (Halts w s) each = absurd w

read_leaves : (bytes : List ℕ) (mode : Mode) (fs : List (ReaderFrame Items)) (s : Unit {0}) → Leaves (read_from plain mode fs s bytes) (length bytes)
read_leaves [] mode fs s = end_leaves mode fs s
read_leaves (b ∷ bs) mode fs s = step_leaves b bs (reader_step plain mode b fs s) (λ mode fs s. read_leaves bs mode fs s)

-- a byte before the others
after_byte : (b : ℕ) (bytes more : List ℕ) (one other : Outcomes) → ReadOn bytes more one other → ReadOn (b ∷ bytes) more one other
after_byte b bytes more one other (SameRead v s c cs e f) = SameRead v s c cs e f
after_byte b bytes more one other (SameRefused front s c cs is e f) = SameRefused (b ∷ front) s c cs (ap (λ (xs : List ℕ). b ∷ xs) is) e f
after_byte b bytes more one other (ReadBeyond leaves others) = ReadBeyond leaves others

done_on : (b : ℕ) (bs more : List ℕ) (v : Datum) (s : Unit {0}) → ReadOn (b ∷ bs) more (Read v s bs) (Read v s (bs ++ more))
done_on b [] more v s = ReadBeyond (omega arith) (omega arith)
done_on b (c ∷ cs) more v s = SameRead v s c cs refl refl

step_on : (b : ℕ) (bs more : List ℕ) (st : ReaderStep (Unit {0}) Datum Items ⊥) → ((mode : Mode) (fs : List (ReaderFrame Items)) (s : Unit {0}) → ReadOn bs more (read_from plain mode fs s bs) (read_from plain mode fs s (bs ++ more))) → ReadOn (b ∷ bs) more (after_step b bs st (λ mode fs s. read_from plain mode fs s bs)) (after_step b (bs ++ more) st (λ mode fs s. read_from plain mode fs s (bs ++ more)))
step_on b bs more (Goes mode fs s) each = after_byte b bs more _ _ (each mode fs s)
step_on b bs more (Done v true s) each = done_on b bs more v s
step_on b bs more (Done v false s) each = SameRead v s b bs refl refl
step_on b bs more (Refuses s) each = SameRefused [] s b bs refl refl refl
step_on b bs more (Halts w s) each = absurd w

read_on : (bytes more : List ℕ) (mode : Mode) (fs : List (ReaderFrame Items)) (s : Unit {0}) → ReadOn bytes more (read_from plain mode fs s bytes) (read_from plain mode fs s (bytes ++ more))
read_on [] more mode fs s = ReadBeyond (end_leaves mode fs s) (read_leaves more mode fs s)
read_on (b ∷ bs) more mode fs s = step_on b bs more (reader_step plain mode b fs s) (λ mode fs s. read_on bs more mode fs s)

-- ---- a token

abbrev LexLeaves : Lexed → ℕ → Type 0
LexLeaves (Lexes token rest) n = length rest ≤ n
LexLeaves (Bad from) n = length from ≤ n

data LexOn (more : List ℕ) (one other : Lexed) : Type 0 where
  SameLexes : (token : Token) (b : ℕ) (bs : List ℕ) → one ≡ Lexes token (b ∷ bs) → other ≡ Lexes token (b ∷ (bs ++ more)) → LexOn more one other
  SameBad : (b : ℕ) (bs : List ℕ) → one ≡ Bad (b ∷ bs) → other ≡ Bad (b ∷ (bs ++ more)) → LexOn more one other
  LexBeyond : LexLeaves one 0 → LexLeaves other (length more) → LexOn more one other

-- a spelling
found_leaves : FindsSpelled → (b : ℕ) (bs : List ℕ) (v : Datum) (rest : List ℕ) (n : ℕ) → begins_spelling b ≡ true → reading (b ∷ bs) ≡ Found v rest → length rest ≤ n → LexLeaves (lexed_spelling (b ∷ bs) (Found v rest)) n
found_leaves finds b bs v rest n begins e leaves =
    let here = spelled_here b bs v rest begins ((finds _ _ _).0 e) in
    subst (λ (found : Option Token). LexLeaves (lexed_or_bad (b ∷ bs) found rest) n) (sym here.read) leaves

outcome_leaves : FindsSpelled → (b : ℕ) (bs : List ℕ) (o : Outcomes) (n : ℕ) → begins_spelling b ≡ true → read_from plain Gap [] tt (b ∷ bs) ≡ o → Leaves o n → LexLeaves (lexed_spelling (b ∷ bs) (reading_of (b ∷ bs) o)) n
outcome_leaves finds b bs (Read v s rest) n begins e leaves = found_leaves finds b bs v rest n begins (ap (reading_of (b ∷ bs)) e) leaves
outcome_leaves finds b bs (reader.NoneLeft s) n begins e leaves = omega arith
outcome_leaves finds b bs (Refused s from) n begins e leaves = let left = length-drop (length (b ∷ bs) - length from) (b ∷ bs) in omega arith
outcome_leaves finds b bs (Stopped w s rest) n begins e leaves = absurd w

spelling_leaves : FindsSpelled → (b : ℕ) (bs : List ℕ) (n : ℕ) → begins_spelling b ≡ true → Leaves (read_from plain Gap [] tt (b ∷ bs)) n → LexLeaves (lexed b bs) n
spelling_leaves finds b bs n begins leaves =
    subst (λ (l : Lexed). LexLeaves l n) (sym (cond-true (begins_spelling b) _ _ begins)) (outcome_leaves finds b bs (read_from plain Gap [] tt (b ∷ bs)) n begins refl leaves)

-- the bytes of the token are the same
before_same : (bytes more : List ℕ) (b : ℕ) (bs : List ℕ) → before_rest (bytes ++ more) (b ∷ (bs ++ more)) ≡ before_rest bytes (b ∷ bs)
before_same bytes more b bs =
    let whole = length-append bytes more in
    let rest = length-append bs more in
    let count : length (bytes ++ more) - length (b ∷ (bs ++ more)) ≡ length bytes - length (b ∷ bs) = omega arith in
    ap (λ (n : ℕ). take n (bytes ++ more)) count ∙ take-append-le (length bytes - length (b ∷ bs)) bytes more (omega arith)

spelling_by : (b : ℕ) (bs : List ℕ) (o : Outcomes) → begins_spelling b ≡ true → read_from plain Gap [] tt (b ∷ bs) ≡ o → lexed b bs ≡ lexed_spelling (b ∷ bs) (reading_of (b ∷ bs) o)
spelling_by b bs o begins e = cond-true (begins_spelling b) _ _ begins ∙ ap (λ (o : Outcomes). lexed_spelling (b ∷ bs) (reading_of (b ∷ bs) o)) e

dropped : (front from : List ℕ) (bytes : List ℕ) → bytes ≡ front ++ from → drop (length bytes - length from) bytes ≡ from
dropped front from bytes is =
    let sizes = ap length is ∙ length-append front from in
    let count : length bytes - length from ≡ length front = omega arith in
    ap (λ (n : ℕ). drop n bytes) count ∙ ap (drop (length front)) is ∙ drop_at front from (length front) refl

spelling_on : FindsSpelled → (b : ℕ) (bs more : List ℕ) → begins_spelling b ≡ true → ReadOn (b ∷ bs) more (read_from plain Gap [] tt (b ∷ bs)) (read_from plain Gap [] tt (b ∷ (bs ++ more))) → LexOn more (lexed b bs) (lexed b (bs ++ more))
spelling_on finds b bs more begins (SameRead v s c cs e f) =
    let here = spelled_here b bs v (c ∷ cs) begins ((finds _ _ _).0 (ap (reading_of (b ∷ bs)) e)) in
    let read = ap (λ (text : List ℕ). token_read text v) (before_same (b ∷ bs) more c cs) ∙ here.read in
    SameLexes here.token c cs
    (spelling_by b bs (Read v s (c ∷ cs)) begins e ∙ ap (λ (found : Option Token). lexed_or_bad (b ∷ bs) found (c ∷ cs)) here.read)
    (spelling_by b (bs ++ more) (Read v s (c ∷ (cs ++ more))) begins f ∙ ap (λ (found : Option Token). lexed_or_bad (b ∷ (bs ++ more)) found (c ∷ (cs ++ more))) read)
spelling_on finds b bs more begins (SameRefused front s c cs is e f) =
    SameBad c cs
    (spelling_by b bs (Refused s (c ∷ cs)) begins e ∙ ap Bad (dropped front (c ∷ cs) (b ∷ bs) is))
    (spelling_by b (bs ++ more) (Refused s (c ∷ (cs ++ more))) begins f ∙ ap Bad (dropped front (c ∷ (cs ++ more)) (b ∷ (bs ++ more)) (ap (λ (xs : List ℕ). xs ++ more) is ∙ append_assoc front (c ∷ cs) more)))
spelling_on finds b bs more begins (ReadBeyond leaves others) = LexBeyond (spelling_leaves finds b bs 0 begins leaves) (spelling_leaves finds b (bs ++ more) (length more) begins others)

-- a mark
short_leaves : (b : ℕ) (bs : List ℕ) (short : Option Token) → LexLeaves (lexed_or_bad (b ∷ bs) short bs) (length (b ∷ bs))
short_leaves b bs (Some token) = omega arith
short_leaves b bs None = omega arith

long_leaves : (b c : ℕ) (cs : List ℕ) (long : Option Token) → LexLeaves (lexed_long b c cs long) (length (b ∷ c ∷ cs))
long_leaves b c cs (Some token) = omega arith
long_leaves b c cs None = short_leaves b (c ∷ cs) (short_mark b)

mark_leaves : (b : ℕ) (bs : List ℕ) → LexLeaves (lexed_mark b bs) (length (b ∷ bs))
mark_leaves b [] = short_leaves b [] (short_mark b)
mark_leaves b (c ∷ cs) = long_leaves b c cs (long_mark b c)

lexed_leaves : FindsSpelled → (b : ℕ) (bs : List ℕ) → LexLeaves (lexed b bs) (length (b ∷ bs))
lexed_leaves finds b bs = elim (cases_Bool (begins_spelling b)) [
  | inl begins ↦ spelling_leaves finds b bs (length (b ∷ bs)) begins (read_leaves (b ∷ bs) Gap [] tt)
  | inr other ↦ subst (λ (l : Lexed). LexLeaves l (length (b ∷ bs))) (sym (cond-false (begins_spelling b) _ _ other)) (mark_leaves b bs)
]

-- a mark of one byte leaves what follows it, and what it begins leaves no more
long_rest : (b c : ℕ) (cs : List ℕ) (token : Token) (long : Option Token) → short_mark b ≡ Some token → LexLeaves (lexed_long b c cs long) (length (c ∷ cs))
long_rest b c cs token (Some other) e = omega arith
long_rest b c cs token None e = subst (λ (found : Option Token). LexLeaves (lexed_or_bad (b ∷ c ∷ cs) found (c ∷ cs)) (length (c ∷ cs))) (sym e) (omega arith)

mark_rest : (b : ℕ) (more : List ℕ) (token : Token) → short_mark b ≡ Some token → LexLeaves (lexed_mark b more) (length more)
mark_rest b [] token e = subst (λ (found : Option Token). LexLeaves (lexed_or_bad (b ∷ []) found []) 0) (sym e) (omega arith)
mark_rest b (c ∷ cs) token e = long_rest b c cs token (long_mark b c) e

no_long : (b c : ℕ) (cs : List ℕ) (long : Option Token) → long_mark b c ≡ long → short_mark b ≡ None → lexed_long b c cs long ≡ Bad (b ∷ c ∷ cs)
no_long b c cs (Some token) e none = absurd (let has = long_has_short b c token e in let no : false ≡ true = rw none at has in cc)
no_long b c cs None e none = ap (λ (found : Option Token). lexed_or_bad (b ∷ c ∷ cs) found (c ∷ cs)) none

no_mark : (b : ℕ) (more : List ℕ) → short_mark b ≡ None → lexed_mark b more ≡ Bad (b ∷ more)
no_mark b [] none = ap (λ (found : Option Token). lexed_or_bad (b ∷ []) found []) none
no_mark b (c ∷ cs) none = no_long b c cs (long_mark b c) refl none

last_mark_on : (b : ℕ) (more : List ℕ) (short : Option Token) → short_mark b ≡ short → LexOn more (lexed_mark b []) (lexed_mark b more)
last_mark_on b more (Some token) e = LexBeyond (mark_rest b [] token e) (mark_rest b more token e)
last_mark_on b more None e = SameBad b [] (no_mark b [] e) (no_mark b more e)

short_on : (b : ℕ) (c : ℕ) (cs more : List ℕ) (short : Option Token) → LexOn more (lexed_or_bad (b ∷ c ∷ cs) short (c ∷ cs)) (lexed_or_bad (b ∷ c ∷ (cs ++ more)) short (c ∷ (cs ++ more)))
short_on b c cs more (Some token) = SameLexes token c cs refl refl
short_on b c cs more None = SameBad b (c ∷ cs) refl refl

lexes_on : (token : Token) (cs more : List ℕ) → LexOn more (Lexes token cs) (Lexes token (cs ++ more))
lexes_on token [] more = LexBeyond (omega arith) (omega arith)
lexes_on token (d ∷ ds) more = SameLexes token d ds refl refl

long_on : (b c : ℕ) (cs more : List ℕ) (long : Option Token) → LexOn more (lexed_long b c cs long) (lexed_long b c (cs ++ more) long)
long_on b c cs more (Some token) = lexes_on token cs more
long_on b c cs more None = short_on b c cs more (short_mark b)

mark_on : (b : ℕ) (bs more : List ℕ) → LexOn more (lexed_mark b bs) (lexed_mark b (bs ++ more))
mark_on b [] more = last_mark_on b more (short_mark b) refl
mark_on b (c ∷ cs) more = long_on b c cs more (long_mark b c)

lexed_on : FindsSpelled → (b : ℕ) (bs more : List ℕ) → LexOn more (lexed b bs) (lexed b (bs ++ more))
lexed_on finds b bs more = elim (cases_Bool (begins_spelling b)) [
  | inl begins ↦ spelling_on finds b bs more begins (read_on (b ∷ bs) more Gap [] tt)
  | inr other ↦
      subst (λ (l : Lexed). LexOn more l (lexed b (bs ++ more))) (sym (cond-false (begins_spelling b) _ _ other))
      (subst (λ (l : Lexed). LexOn more (lexed_mark b bs) l) (sym (cond-false (begins_spelling b) _ _ other)) (mark_on b bs more))
]

-- ---- the first token

data GapOn (inside : Bool) (bytes more : List ℕ) : Type 0 where
  SameGap : (b : ℕ) (bs : List ℕ) → behind_gap inside bytes ≡ b ∷ bs → behind_gap inside (bytes ++ more) ≡ b ∷ (bs ++ more) → GapOn inside bytes more
  GapBeyond : behind_gap inside bytes ≡ [] → length (behind_gap inside (bytes ++ more)) ≤ length more → GapOn inside bytes more

gap_after : (inside other : Bool) (c : ℕ) (cs more : List ℕ) → ((xs : List ℕ) → behind_gap inside (c ∷ xs) ≡ behind_gap other xs) → GapOn other cs more → GapOn inside (c ∷ cs) more
gap_after inside other c cs more goes (SameGap b bs e f) = SameGap b bs (goes cs ∙ e) (goes (cs ++ more) ∙ f)
gap_after inside other c cs more goes (GapBeyond e f) = GapBeyond (goes cs ∙ e) (subst (λ (xs : List ℕ). length xs ≤ length more) (sym (goes (cs ++ more))) f)

gap_shorter : (bytes : List ℕ) (inside : Bool) → length (behind_gap inside bytes) ≤ length bytes
gap_shorter [] inside = omega arith
gap_shorter (b ∷ bs) true = elim (cases_Bool (b == 10)) [
  | inl line ↦ rw line (let less = gap_shorter bs false in omega arith)
  | inr other ↦ rw other (let less = gap_shorter bs true in omega arith)
]
gap_shorter (b ∷ bs) false = elim (cases_Bool (is_blank b)) [
  | inl blank ↦ rw blank (let less = gap_shorter bs false in omega arith)
  | inr other ↦ elim (cases_Bool (b == 37)) [
    | inl percent ↦ rw (other, percent) (let less = gap_shorter bs true in omega arith)
    | inr neither ↦ rw (other, neither) (omega arith)
  ]
]

gap_on : (bytes more : List ℕ) (inside : Bool) → GapOn inside bytes more
gap_on [] more inside = GapBeyond refl (gap_shorter more inside)
gap_on (c ∷ cs) more true = elim (cases_Bool (c == 10)) [
  | inl line ↦ gap_after true false c cs more (λ xs. rw line refl) (gap_on cs more false)
  | inr other ↦ gap_after true true c cs more (λ xs. rw other refl) (gap_on cs more true)
]
gap_on (c ∷ cs) more false = elim (cases_Bool (is_blank c)) [
  | inl blank ↦ gap_after false false c cs more (λ xs. rw blank refl) (gap_on cs more false)
  | inr other ↦ elim (cases_Bool (c == 37)) [
    | inl percent ↦ gap_after false true c cs more (λ xs. rw (other, percent) refl) (gap_on cs more true)
    | inr neither ↦ SameGap c cs (rw (other, neither) refl) (rw (other, neither) refl)
  ]
]

abbrev FrontLeaves : Front → ℕ → Type 0
FrontLeaves (Begins token at rest) n = length rest ≤ n
FrontLeaves NoneLeft n = Unit {0}
FrontLeaves (Stops from) n = length from ≤ n

data FrontOn (more : List ℕ) (one other : Front) : Type 0 where
  SameBegins : (token : Token) (at : List ℕ) (b : ℕ) (bs : List ℕ) → one ≡ Begins token at (b ∷ bs) → other ≡ Begins token (at ++ more) (b ∷ (bs ++ more)) → FrontOn more one other
  SameStops : (b : ℕ) (bs : List ℕ) → one ≡ Stops (b ∷ bs) → other ≡ Stops (b ∷ (bs ++ more)) → FrontOn more one other
  FrontBeyond : FrontLeaves one 0 → FrontLeaves other (length more) → FrontOn more one other

lex_front : (at : List ℕ) (l : Lexed) (n : ℕ) → LexLeaves l n → FrontLeaves (first_token_of at l) n
lex_front at (Lexes token rest) n leaves = leaves
lex_front at (Bad from) n leaves = leaves

front_of : (at more : List ℕ) (one other : Lexed) → LexOn more one other → FrontOn more (first_token_of at one) (first_token_of (at ++ more) other)
front_of at more one other (SameLexes token b bs e f) = SameBegins token at b bs (ap (first_token_of at) e) (ap (first_token_of (at ++ more)) f)
front_of at more one other (SameBad b bs e f) = SameStops b bs (ap (first_token_of at) e) (ap (first_token_of (at ++ more)) f)
front_of at more one other (LexBeyond leaves others) = FrontBeyond (lex_front at one 0 leaves) (lex_front (at ++ more) other (length more) others)

behind_leaves : FindsSpelled → (here : List ℕ) (n : ℕ) → length here ≤ n → FrontLeaves (first_behind here) n
behind_leaves finds [] n below = tt
behind_leaves finds (b ∷ bs) n below = lex_front (b ∷ bs) (lexed b bs) n (wider (lexed b bs) (lexed_leaves finds b bs))
  where
    wider : (l : Lexed) → LexLeaves l (length (b ∷ bs)) → LexLeaves l n
    wider (Lexes token rest) leaves = omega arith
    wider (Bad from) leaves = omega arith

first_on : FindsSpelled → (bytes more : List ℕ) → GapOn false bytes more → FrontOn more (first_token bytes) (first_token (bytes ++ more))
first_on finds bytes more (SameGap b bs e f) =
    subst (λ (x : Front). FrontOn more x (first_token (bytes ++ more))) (sym (ap first_behind e))
    (subst (λ (x : Front). FrontOn more (first_behind (b ∷ bs)) x) (sym (ap first_behind f)) (front_of (b ∷ bs) more (lexed b bs) (lexed b (bs ++ more)) (lexed_on finds b bs more)))
first_on finds bytes more (GapBeyond e f) =
    FrontBeyond (subst (λ (x : Front). FrontLeaves x 0) (sym (ap first_behind e)) tt) (behind_leaves finds (behind_gap false (bytes ++ more)) (length more) f)

-- ---- a statement

-- nothing of it is left before the end of the longest statement
beyond_refused : (n : ℕ) (end : List ℕ) (s : StatementPlace) (bytes : List ℕ) (k : ℕ) (f : Front) → first_token bytes ≡ f → FrontLeaves f k → k < length end → read_source (suc n) end s bytes ≡ Unreadable end
beyond_refused n end s bytes k (Begins token at rest) e leaves long = by_long n end s bytes token at rest e (fits_not end rest (omega arith))
beyond_refused n end s bytes k NoneLeft e leaves long = by_first n end s bytes NoneLeft e ∙ ap Unreadable (not_past_behind end [] (omega arith))
beyond_refused n end s bytes k (Stops from) e leaves long = by_first n end s bytes (Stops from) e ∙ ap Unreadable (not_past_behind end from (omega arith))

abbrev EachOn : ℕ → ℕ → List ℕ → List ℕ → List ℕ → Type 0
EachOn n m end more rest = (s : StatementPlace) → read_source m (end ++ more) s (rest ++ more) ≡ extended_source more (read_source n end s rest)

token_on : (st : PlaceStep) (n m : ℕ) (end more : List ℕ) (s : StatementPlace) (bytes : List ℕ) (t : Token) (at rest : List ℕ) → place_within s t ≡ st → first_token bytes ≡ Begins t at rest → first_token (bytes ++ more) ≡ Begins t (at ++ more) (rest ++ more) → fits_source end rest ≡ true → fits_source (end ++ more) (rest ++ more) ≡ true → EachOn n m end more rest → read_source (suc m) (end ++ more) s (bytes ++ more) ≡ extended_source more (read_source (suc n) end s bytes)
token_on (GoesTo next) n m end more s bytes t at rest reader_step e f fit fit_more each =
    by_token m (end ++ more) s (bytes ++ more) t (at ++ more) (rest ++ more) (GoesTo next) f fit_more reader_step ∙ each next ∙ ap (extended_source more) (sym (by_token n end s bytes t at rest (GoesTo next) e fit reader_step))
token_on (Ends c q) n m end more s bytes t at rest reader_step e f fit fit_more each =
    by_token m (end ++ more) s (bytes ++ more) t (at ++ more) (rest ++ more) (Ends c q) f fit_more reader_step ∙ ap (extended_source more) (sym (by_token n end s bytes t at rest (Ends c q) e fit reader_step))
token_on Fails n m end more s bytes t at rest reader_step e f fit fit_more each =
    by_token m (end ++ more) s (bytes ++ more) t (at ++ more) (rest ++ more) Fails f fit_more reader_step ∙ ap (extended_source more) (sym (by_token n end s bytes t at rest Fails e fit reader_step))

begins_on : (n m : ℕ) (end more : List ℕ) (s : StatementPlace) (bytes : List ℕ) (t : Token) (at rest : List ℕ) → first_token bytes ≡ Begins t at rest → first_token (bytes ++ more) ≡ Begins t (at ++ more) (rest ++ more) → (length end ≤ length rest → EachOn n m end more rest) → read_source (suc m) (end ++ more) s (bytes ++ more) ≡ extended_source more (read_source (suc n) end s bytes)
begins_on n m end more s bytes t at rest e f each =
    let ends = length-append end more in
    let rests = length-append rest more in
    elim (cases_Bool (fits_source end rest)) [
      | inl fit ↦
          let short = leb-true (length end) (length rest) fit in
          token_on (place_within s t) n m end more s bytes t at rest refl e f fit (fits_from (end ++ more) (rest ++ more) (omega arith)) (each short)
      | inr long ↦
          let past = leb-false (length end) (length rest) long in
          by_long m (end ++ more) s (bytes ++ more) t (at ++ more) (rest ++ more) f (fits_not (end ++ more) (rest ++ more) (omega arith))
          ∙ ap (extended_source more) (sym (by_long n end s bytes t at rest e long))
    ]

stops_on : (n m : ℕ) (end more : List ℕ) (s : StatementPlace) (bytes from : List ℕ) → first_token bytes ≡ Stops from → first_token (bytes ++ more) ≡ Stops (from ++ more) → read_source (suc m) (end ++ more) s (bytes ++ more) ≡ extended_source more (read_source (suc n) end s bytes)
stops_on n m end more s bytes from e f =
    let ends = length-append end more in
    let froms = length-append from more in
    by_first m (end ++ more) s (bytes ++ more) (Stops (from ++ more)) f
    ∙ elim (cases_Bool (fits_source end from)) [
      | inl fit ↦
          let short = leb-true (length end) (length from) fit in
          ap Unreadable (not_past_before (end ++ more) (from ++ more) (omega arith))
          ∙ ap (extended_source more) (ap Unreadable (sym (not_past_before end from short)))
      | inr long ↦
          let past = leb-false (length end) (length from) long in
          ap Unreadable (not_past_behind (end ++ more) (from ++ more) (omega arith))
          ∙ ap (extended_source more) (ap Unreadable (sym (not_past_behind end from past)))
    ]
    ∙ ap (extended_source more) (sym (by_first n end s bytes (Stops from) e))

front_on : FindsSpelled → (n m : ℕ) (end more : List ℕ) (s : StatementPlace) (bytes : List ℕ) → 0 < length end → length bytes < suc n → length (bytes ++ more) < suc m → FrontOn more (first_token bytes) (first_token (bytes ++ more)) → ((rest : List ℕ) → length end ≤ length rest → length rest < n → length (rest ++ more) < m → EachOn n m end more rest) → read_source (suc m) (end ++ more) s (bytes ++ more) ≡ extended_source more (read_source (suc n) end s bytes)
front_on finds n m end more s bytes some enough enough_more (SameBegins t at b bs e f) each =
    let first = found_is_first finds bytes at (b ∷ bs) t e in
    let less = first_shorter t bytes at (b ∷ bs) first in
    let whole = length-append bytes more in
    let rest = length-append (b ∷ bs) more in
    let small : length (b ∷ bs) < n = omega arith in
    let small_more : length ((b ∷ bs) ++ more) < m = omega arith in
    begins_on n m end more s bytes t at (b ∷ bs) e f (λ short. each (b ∷ bs) short small small_more)
front_on finds n m end more s bytes some enough enough_more (SameStops b bs e f) each = stops_on n m end more s bytes (b ∷ bs) e f
front_on finds n m end more s bytes some enough enough_more (FrontBeyond leaves others) each =
    let ends = length-append end more in
    beyond_refused m (end ++ more) s (bytes ++ more) (length more) (first_token (bytes ++ more)) refl others (omega arith)
    ∙ ap (extended_source more) (sym (beyond_refused n end s bytes 0 (first_token bytes) refl leaves some))

source_on : FindsSpelled → (n m : ℕ) (end more : List ℕ) (s : StatementPlace) (bytes : List ℕ) → 0 < length end → length bytes < n → length (bytes ++ more) < m → read_source m (end ++ more) s (bytes ++ more) ≡ extended_source more (read_source n end s bytes)
source_on finds zero m end more s bytes some enough enough_more = absurd (omega arith)
source_on finds (suc n) zero end more s bytes some enough enough_more = absurd (omega arith)
source_on finds (suc n) (suc m) end more s bytes some enough enough_more =
    front_on finds n m end more s bytes some enough enough_more (first_on finds bytes more (gap_on bytes more false))
    (λ rest short small small_more s. source_on finds n m end more s rest some small small_more)

nothing_past : length (drop {A = ℕ} longest []) ≡ 0
nothing_past = length-drop {A = ℕ} longest []

-- the end of the longest statement stays where it is
past_on : (bytes more : List ℕ) → 0 < length (past_longest bytes) → GapOn false bytes more → past_longest (bytes ++ more) ≡ past_longest bytes ++ more
past_on bytes more some (SameGap b bs e f) =
    let left = length-drop longest (b ∷ bs) in
    let here : length (past_longest bytes) ≡ length (drop longest (b ∷ bs)) = ap (λ (xs : List ℕ). length (drop longest xs)) e in
    ap (drop longest) f ∙ drop-append-le longest (b ∷ bs) more (omega arith) ∙ ap (λ (xs : List ℕ). drop longest xs ++ more) (sym e)
past_on bytes more some (GapBeyond e f) = absurd (let none : length (past_longest bytes) ≡ 0 = ap (λ (xs : List ℕ). length (drop longest xs)) e ∙ nothing_past in omega arith)

behind_on : FindsSpelled → (bytes more : List ℕ) → 0 < length (past_longest bytes) → GapOn false bytes more → source_statement (bytes ++ more) ≡ extended_source more (source_statement bytes)
behind_on finds bytes more some (SameGap b bs e f) =
    ap (λ (here : List ℕ). source_behind here (bytes ++ more)) f
    ∙ ap (λ (end : List ℕ). read_source (suc (length (bytes ++ more))) end Start (bytes ++ more)) (past_on bytes more some (SameGap b bs e f))
    ∙ source_on finds (suc (length bytes)) (suc (length (bytes ++ more))) (past_longest bytes) more Start bytes some (omega arith) (omega arith)
    ∙ ap (λ (here : List ℕ). extended_source more (source_behind here bytes)) (sym e)
behind_on finds bytes more some (GapBeyond e f) = absurd (let none : length (past_longest bytes) ≡ 0 = ap (λ (xs : List ℕ). length (drop longest xs)) e ∙ nothing_past in omega arith)

pub looks_no_further : FindsSpelled → (bytes more : List ℕ) → 0 < length (past_longest bytes) → source_statement (bytes ++ more) ≡ extended_source more (source_statement bytes)
looks_no_further finds bytes more some = behind_on finds bytes more some (gap_on bytes more false)
