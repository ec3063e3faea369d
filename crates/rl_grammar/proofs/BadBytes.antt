-- Bytes are bad exactly at the first with which no token goes on, or at their end inside a token.
use Rattle.std.proofs.Common.{◌≡◌, ◌↔◌, ℕ, zero, suc, ◌+◌, ◌-◌, ◌^◌, ◌<◌, ◌≤◌, true, false, ◌==◌, nat_le, List, [], ◌∷◌, ◌++◌, length, take, drop, Option, Some, None, refl, ap, sym, subst, ◌∙◌, inl, inr, eqb-true, arith, append_assoc}
use Rattle.std.proofs.lemmas.Bool.{cases_Bool, cond-true, cond-false, and_from, and_parts, leb-true}
use Rattle.std.proofs.lemmas.List.{take-append-drop, take-take, length-append, length-take-le, length-drop, take_at}
use Rattle.rl_tree.specs.Bytes.{is_digit, is_letter}
use Rattle.rl_text.specs.Datum.{Datum, quoted}
use Rattle.rl_text.specs.Gap.{IsGap}
use Rattle.rl_text.specs.Laws.{FindsSpelled, FindsNone}
use Rattle.rl_text.specs.Laws as text
use Rattle.rl_text.specs.Reading.{Reading, Found, NoText, Unreadable, reading}
use Rattle.rl_text.specs.Refusal.{BeginsSpelling}
use Rattle.rl_text.specs.Refusal as text_refusal
use Rattle.rl_text.specs.Spelling.{IsSpelled}
use Rattle.rl_text.specs.Word.{Plain, Escaped, Unsigned, Number, Named, Text, AreNameCharacters, AreIntegerDigits, atom_of, datum_of_atom}
use Rattle.rl_grammar.specs.Token.{Token, Semicolon, Separating}
use Rattle.rl_grammar.specs.Written.{short_mark, long_mark, Short}
use Rattle.rl_grammar.specs.Lexer.{behind_gap, Lexed, Lexes, Bad, begins_spelling, before_rest, token_read, lexed_or_bad, lexed_spelling, lexed_short, lexed_long, lexed_mark, lexed, Front, Begins, NoneLeft, Stops, first_token_of, first_behind, first_token}
use Rattle.rl_grammar.specs.Refusal.{BeginsToken, IsBadAt}
use Rattle.rl_grammar.proofs.Gaps.{IsSolid, found_solid, solid_is_some}
use Rattle.rl_grammar.proofs.Spelled.{spelling_solid, spelled_here, word_spelled, quote_spelled}
use Rattle.rl_grammar.proofs.Lexed.{long_has_short, first_passed, first_is_found, found_is_first, none_found, blank_found}
use Rattle.rl_grammar.proofs.OnePlace.{one_place}

-- ---- lists

take_past : (gap at : List ℕ) (j : ℕ) → j ≤ length at → take (length gap + j) (gap ++ at) ≡ gap ++ take j at
take_past gap at j below =
    let whole = length-append gap (take j at) in
    let part = length-take-le j at below in
    ap (λ (xs : List ℕ). take (length gap + j) (gap ++ xs)) (sym (take-append-drop j at))
    ∙ ap (λ (xs : List ℕ). take (length gap + j) xs) (sym (append_assoc gap (take j at) (drop j at)))
    ∙ take_at (gap ++ take j at) (drop j at) (length gap + j) (omega arith)

-- ---- some spelling begins with a byte that begins one

abbrev letter : List ℕ
letter = 65 ∷ []

letter_is : (b : ℕ) → is_letter b ≡ true → AreNameCharacters (Plain b ∷ [])
letter_is b e = record { name = and_from _ _ e refl; short = omega arith }

by_letter : (b : ℕ) → is_letter b ≡ true → BeginsSpelling (b ∷ [])
by_letter b e = record { more = []; datum = datum_of_atom (atom_of (Named (Plain b ∷ []))); spelled = word_spelled (Named (Plain b ∷ [])) (b ∷ []) [] refl (letter_is b e) tt }

digit_small : (b : ℕ) → is_digit b ≡ true → b - 48 < 2 ^ 59
digit_small b e = let parts = and_parts (nat_le 48 b) (nat_le b 57) e in let most = leb-true b 57 parts.1 in omega arith

digit_is : (b : ℕ) → is_digit b ≡ true → AreIntegerDigits Unsigned (b ∷ [])
digit_is b e = record { some = omega arith; are_digits = and_from _ _ e refl; in_range = let small = digit_small b e in omega arith }

by_digit : (b : ℕ) → is_digit b ≡ true → BeginsSpelling (b ∷ [])
by_digit b e = record { more = []; datum = datum_of_atom (atom_of (Number Unsigned (b ∷ []))); spelled = word_spelled (Number Unsigned (b ∷ [])) (b ∷ []) [] refl (digit_is b e) tt }

by_escape : BeginsSpelling (33 ∷ [])
by_escape = record { more = letter; datum = datum_of_atom (atom_of (Named (Escaped 65 ∷ []))); spelled = word_spelled (Named (Escaped 65 ∷ [])) (33 ∷ letter) [] refl (record { name = refl; short = omega arith }) tt }

by_string : BeginsSpelling (34 ∷ [])
by_string = record { more = 34 ∷ []; datum = datum_of_atom (atom_of (Text [])); spelled = word_spelled (Text []) (34 ∷ 34 ∷ []) [] refl (omega arith) tt }

by_quote : BeginsSpelling (39 ∷ [])
by_quote = record {
  more = letter;
  datum = quoted (datum_of_atom (atom_of (Named (Plain 65 ∷ []))));
  spelled = quote_spelled (datum_of_atom (atom_of (Named (Plain 65 ∷ [])))) (39 ∷ letter) letter [] refl (word_spelled (Named (Plain 65 ∷ [])) letter [] refl (letter_is 65 refl) tt);
}

abbrev Opens : ℕ → Type 0
Opens b = BeginsSpelling (b ∷ [])

some_spelling : (b : ℕ) → begins_spelling b ≡ true → Opens b
some_spelling b e = elim (cases_Bool (is_letter b)) [
  | inl letter ↦ by_letter b letter
  | inr no_letter ↦ elim (cases_Bool (is_digit b)) [
    | inl digit ↦ by_digit b digit
    | inr no_digit ↦ elim (cases_Bool (b == 33)) [
      | inl escape ↦ subst (λ (b : ℕ). Opens b) (sym (eqb-true b 33 escape)) by_escape
      | inr no_escape ↦ elim (cases_Bool (b == 34)) [
        | inl string ↦ subst (λ (b : ℕ). Opens b) (sym (eqb-true b 34 string)) by_string
        | inr no_string ↦ elim (cases_Bool (b == 39)) [
          | inl quote ↦ subst (λ (b : ℕ). Opens b) (sym (eqb-true b 39 quote)) by_quote
          | inr no_quote ↦ absurd (let none : false ≡ true = rw (no_letter, no_digit, no_escape, no_string, no_quote) at e in cc)
        ]
      ]
    ]
  ]
]

-- ---- what is bad where a byte stands behind a gap

-- so many bytes from this one on begin a token, and with one more they begin none
record IsLocal (b : ℕ) (bs : List ℕ) (j : ℕ) : Type 0 where
  none : (token : Token) (rest : List ℕ) → lexed b bs ≡ Lexes token rest → ⊥
  within : j ≤ length (b ∷ bs)
  begins : (gap : List ℕ) → IsGap gap → BeginsToken (gap ++ take j (b ∷ bs))
  stops : j < length (b ∷ bs) → (more : List ℕ) (token : Token) → lexed b (take j bs ++ more) ≡ Lexes token [] → ⊥

-- what is found there is the first token
first_lexed : (at : List ℕ) (l : Lexed) (token : Token) (here rest : List ℕ) → first_token_of at l ≡ Begins token here rest → l ≡ Lexes token rest
first_lexed at (Lexes other after) token here rest e = let token_same : other ≡ token = cc in let rest_same : after ≡ rest = cc in rw (token_same, rest_same) refl
first_lexed at (Bad from) token here rest e = absurd cc

first_no_none : (at : List ℕ) (l : Lexed) → first_token_of at l ≡ NoneLeft → ⊥
first_no_none at (Lexes token rest) e = absurd cc
first_no_none at (Bad from) e = absurd cc

local_is_bad : FindsSpelled → (bytes gap : List ℕ) (b : ℕ) (bs : List ℕ) (j : ℕ) → IsGap gap → IsSolid b → bytes ≡ gap ++ b ∷ bs → IsLocal b bs j → IsBadAt bytes (length gap + j)
local_is_bad finds bytes gap b bs j is_gap solid is local =
    let passed = first_passed gap bytes b bs solid is is_gap in
    let most = local.within in
    let sizes : length bytes ≡ length gap + length (b ∷ bs) = ap length is ∙ length-append gap (b ∷ bs) in
    record {
      none = λ token at rest f. local.none token rest (first_lexed (b ∷ bs) (lexed b bs) token at rest (sym passed ∙ first_is_found finds bytes at rest token f));
      some = λ blank. first_no_none (b ∷ bs) (lexed b bs) (sym passed ∙ blank_found bytes blank);
      within = omega arith;
      begins = subst (λ (front : List ℕ). BeginsToken front) (sym (ap (take (length gap + j)) is ∙ take_past gap (b ∷ bs) j most)) (local.begins gap is_gap);
      stops = λ below begins. stopped (omega arith) begins;
    }
  where
    stopped : j < length (b ∷ bs) → BeginsToken (take (suc (length gap + j)) bytes) → ⊥
    stopped below begins =
        let place : suc (length gap + j) ≡ length gap + suc j = omega arith in
        let front : take (suc (length gap + j)) bytes ≡ gap ++ take (suc j) (b ∷ bs) = ap (λ (n : ℕ). take n bytes) place ∙ ap (take (length gap + suc j)) is ∙ take_past gap (b ∷ bs) (suc j) (omega arith) in
        let whole : take (suc (length gap + j)) bytes ++ begins.more ≡ gap ++ b ∷ (take j bs ++ begins.more) = ap (λ (xs : List ℕ). xs ++ begins.more) front ∙ append_assoc gap (take (suc j) (b ∷ bs)) begins.more in
        let passed = first_passed gap (take (suc (length gap + j)) bytes ++ begins.more) b (take j bs ++ begins.more) solid whole is_gap in
        let found = first_is_found finds (take (suc (length gap + j)) bytes ++ begins.more) begins.at [] begins.token begins.is in
        local.stops below begins.more begins.token (first_lexed (b ∷ (take j bs ++ begins.more)) (lexed b (take j bs ++ begins.more)) begins.token begins.at [] (sym passed ∙ found))

-- ---- a byte that begins no token

semicolon_first : (gap : List ℕ) → IsGap gap → BeginsToken (gap ++ [])
semicolon_first gap is_gap = record {
  more = 59 ∷ [];
  token = Separating Semicolon;
  at = 59 ∷ [];
  is = record {
    gap = gap;
    is_gap = is_gap;
    is = append_assoc gap [] (59 ∷ []);
    token_is = record { written = Short 59; stands = (refl, tt); is = refl };
  };
}

short_fails : (b : ℕ) (bs : List ℕ) (token : Token) (rest : List ℕ) → short_mark b ≡ None → lexed_short b bs ≡ Lexes token rest → ⊥
short_fails b bs token rest none e = let bad = sym (ap (λ (found : Option Token). lexed_or_bad (b ∷ bs) found bs) none) ∙ e in absurd cc

long_fails : (b c : ℕ) (cs : List ℕ) (token : Token) (rest : List ℕ) (long : Option Token) → short_mark b ≡ None → long_mark b c ≡ long → lexed_long b c cs long ≡ Lexes token rest → ⊥
long_fails b c cs token rest (Some other) none e found = let has = long_has_short b c other e in absurd (let no : false ≡ true = rw none at has in cc)
long_fails b c cs token rest None none e found = short_fails b (c ∷ cs) token rest none found

mark_fails : (b : ℕ) (bs : List ℕ) (token : Token) (rest : List ℕ) → short_mark b ≡ None → lexed_mark b bs ≡ Lexes token rest → ⊥
mark_fails b [] token rest none found = short_fails b [] token rest none found
mark_fails b (c ∷ cs) token rest none found = long_fails b c cs token rest (long_mark b c) none refl found

lexed_fails : (b : ℕ) (bs : List ℕ) (token : Token) (rest : List ℕ) → begins_spelling b ≡ false → short_mark b ≡ None → lexed b bs ≡ Lexes token rest → ⊥
lexed_fails b bs token rest other none found = mark_fails b bs token rest none (sym (cond-false (begins_spelling b) _ _ other) ∙ found)

no_token_local : (b : ℕ) (bs : List ℕ) → begins_spelling b ≡ false → short_mark b ≡ None → IsLocal b bs 0
no_token_local b bs other none = record {
  none = λ token rest found. lexed_fails b bs token rest other none found;
  within = omega arith;
  begins = λ gap is_gap. semicolon_first gap is_gap;
  stops = λ below more token found. lexed_fails b (take 0 bs ++ more) token [] other none found;
}

-- ---- a spelling that does not go on

spelling_lexed : FindsSpelled → (b : ℕ) (bs : List ℕ) (token : Token) (rest : List ℕ) (r : Reading) → reading (b ∷ bs) ≡ r → lexed_spelling (b ∷ bs) r ≡ Lexes token rest → (datum : Datum) × IsSpelled (b ∷ bs) datum rest
spelling_lexed finds b bs token rest (Found datum after) e found = (datum, subst (λ (rest : List ℕ). IsSpelled (b ∷ bs) datum rest) (read_rest (token_read (before_rest (b ∷ bs) after) datum) found) ((finds _ _ _).0 e))
  where
    read_rest : (read : Option Token) → lexed_or_bad (b ∷ bs) read after ≡ Lexes token rest → after ≡ rest
    read_rest (Some other) found = cc
    read_rest None found = absurd cc
spelling_lexed finds b bs token rest NoText e found = absurd cc
spelling_lexed finds b bs token rest (Unreadable k) e found = absurd cc

lexed_spelled : FindsSpelled → (b : ℕ) (bs : List ℕ) (token : Token) (rest : List ℕ) → begins_spelling b ≡ true → lexed b bs ≡ Lexes token rest → (datum : Datum) × IsSpelled (b ∷ bs) datum rest
lexed_spelled finds b bs token rest begins found = spelling_lexed finds b bs token rest (reading (b ∷ bs)) refl (sym (cond-true (begins_spelling b) _ _ begins) ∙ found)

-- the token that a front of a spelling begins
spelling_first : (gap : List ℕ) (b : ℕ) (xs : List ℕ) → IsGap gap → begins_spelling b ≡ true → BeginsSpelling (b ∷ xs) → BeginsToken (gap ++ b ∷ xs)
spelling_first gap b xs is_gap begins s =
    let here = spelled_here b (xs ++ s.more) s.datum [] begins s.spelled in
    record {
      more = s.more;
      token = here.token;
      at = b ∷ (xs ++ s.more);
      is = record { gap = gap; is_gap = is_gap; is = append_assoc gap (b ∷ xs) s.more; token_is = here.is };
    }

unreadable_local : FindsSpelled → (b : ℕ) (bs : List ℕ) (j : ℕ) → begins_spelling b ≡ true → text_refusal.IsRefusedAt (b ∷ bs) j → IsLocal b bs j
unreadable_local finds b bs zero begins r = absurd (r.stops (omega arith) (some_spelling b begins))
unreadable_local finds b bs (suc i) begins r = record {
  none = λ token rest found. let s = lexed_spelled finds b bs token rest begins found in r.unspelled s.0 rest s.1;
  within = r.within;
  begins = λ gap is_gap. spelling_first gap b (take i bs) is_gap begins r.begins;
  stops = λ below more token found. let s = lexed_spelled finds b (take (suc i) bs ++ more) token [] begins found in r.stops below (record { more = more; datum = s.0; spelled = s.1 });
}

-- ---- what is bad

-- where the byte is that is bad, from the one on that stands behind the gap
record BadHere (b : ℕ) (bs from : List ℕ) : Type 0 where
  count : ℕ
  is : from ≡ drop count (b ∷ bs)
  local : IsLocal b bs count

spelling_bad : FindsSpelled → FindsNone → text.RefusesFirst → (b : ℕ) (bs from : List ℕ) (r : Reading) → begins_spelling b ≡ true → reading (b ∷ bs) ≡ r → lexed_spelling (b ∷ bs) r ≡ Bad from → BadHere b bs from
spelling_bad finds blank refuses b bs from (Found datum rest) begins e bad =
    let here = spelled_here b bs datum rest begins ((finds _ _ _).0 e) in
    absurd (let same : Lexes here.token rest ≡ Bad from = sym (ap (λ (found : Option Token). lexed_or_bad (b ∷ bs) found rest) here.read) ∙ bad in cc)
spelling_bad finds blank refuses b bs from NoText begins e bad = absurd (solid_is_some b bs (spelling_solid b begins) ((blank (b ∷ bs)).0 e))
spelling_bad finds blank refuses b bs from (Unreadable k) begins e bad =
    let is : drop k (b ∷ bs) ≡ from = cc in
    record { count = k; is = sym is; local = unreadable_local finds b bs k begins ((refuses (b ∷ bs) k).0 e) }

short_bad : (b : ℕ) (bs from : List ℕ) (short : Option Token) → begins_spelling b ≡ false → short_mark b ≡ short → lexed_or_bad (b ∷ bs) short bs ≡ Bad from → BadHere b bs from
short_bad b bs from (Some token) other e bad = absurd cc
short_bad b bs from None other e bad = let is : b ∷ bs ≡ from = cc in record { count = 0; is = sym is; local = no_token_local b bs other e }

long_bad : (b c : ℕ) (cs from : List ℕ) (long : Option Token) → begins_spelling b ≡ false → lexed_long b c cs long ≡ Bad from → BadHere b (c ∷ cs) from
long_bad b c cs from (Some token) other bad = absurd cc
long_bad b c cs from None other bad = short_bad b (c ∷ cs) from (short_mark b) other refl bad

mark_bad : (b : ℕ) (bs from : List ℕ) → begins_spelling b ≡ false → lexed_mark b bs ≡ Bad from → BadHere b bs from
mark_bad b [] from other bad = short_bad b [] from (short_mark b) other refl bad
mark_bad b (c ∷ cs) from other bad = long_bad b c cs from (long_mark b c) other bad

lexed_bad : FindsSpelled → FindsNone → text.RefusesFirst → (b : ℕ) (bs from : List ℕ) → lexed b bs ≡ Bad from → BadHere b bs from
lexed_bad finds blank refuses b bs from bad = elim (cases_Bool (begins_spelling b)) [
  | inl begins ↦ spelling_bad finds blank refuses b bs from (reading (b ∷ bs)) begins refl (rw begins at bad)
  | inr other ↦ mark_bad b bs from other (rw other at bad)
]

bad_of : (at from : List ℕ) (l : Lexed) → first_token_of at l ≡ Stops from → l ≡ Bad from
bad_of at from (Lexes token rest) e = absurd cc
bad_of at from (Bad other) e = let same : other ≡ from = cc in ap Bad same

bad_behind : FindsSpelled → FindsNone → text.RefusesFirst → (bytes from here : List ℕ) → behind_gap false bytes ≡ here → first_behind here ≡ Stops from → IsBadAt bytes (length bytes - length from)
bad_behind finds blank refuses bytes from [] e bad = absurd cc
bad_behind finds blank refuses bytes from (b ∷ bs) e bad =
    let s = found_solid bytes b bs e in
    let here = lexed_bad finds blank refuses b bs from (bad_of (b ∷ bs) from (lexed b bs) bad) in
    let most = (here.local).within in
    let sizes : length bytes ≡ length s.behind.gap + length (b ∷ bs) = ap length s.behind.is ∙ length-append s.behind.gap (b ∷ bs) in
    let left : length from ≡ length (b ∷ bs) - here.count = ap length here.is ∙ length-drop here.count (b ∷ bs) in
    let place : length s.behind.gap + here.count ≡ length bytes - length from = omega arith in
    subst (λ (k : ℕ). IsBadAt bytes k) place (local_is_bad finds bytes s.behind.gap b bs here.count s.behind.is_gap s.solid s.behind.is here.local)

stops_is_bad : FindsSpelled → FindsNone → text.RefusesFirst → (bytes from : List ℕ) → first_token bytes ≡ Stops from → IsBadAt bytes (length bytes - length from)
stops_is_bad finds blank refuses bytes from bad = bad_behind finds blank refuses bytes from (behind_gap false bytes) refl bad

-- the bytes that are left are those from the bad one on
dropped_behind : FindsSpelled → FindsNone → text.RefusesFirst → (bytes from here : List ℕ) → behind_gap false bytes ≡ here → first_behind here ≡ Stops from → from ≡ drop (length bytes - length from) bytes
dropped_behind finds blank refuses bytes from [] e bad = absurd cc
dropped_behind finds blank refuses bytes from (b ∷ bs) e bad =
    let s = found_solid bytes b bs e in
    let here = lexed_bad finds blank refuses b bs from (bad_of (b ∷ bs) from (lexed b bs) bad) in
    let front : List ℕ = s.behind.gap ++ take here.count (b ∷ bs) in
    let parts : bytes ≡ front ++ from = s.behind.is ∙ ap (λ (xs : List ℕ). s.behind.gap ++ xs) (sym (take-append-drop here.count (b ∷ bs))) ∙ sym (append_assoc s.behind.gap (take here.count (b ∷ bs)) (drop here.count (b ∷ bs))) ∙ ap (λ (xs : List ℕ). front ++ xs) (sym here.is) in
    let sizes = ap length parts ∙ length-append front from in
    let place : length bytes - length from ≡ length front = omega arith in
    sym (ap (λ (n : ℕ). drop n bytes) place ∙ ap (drop (length front)) parts ∙ drop_front front from)
  where
    drop_front : (xs ys : List ℕ) → drop (length xs) (xs ++ ys) ≡ ys
    drop_front [] ys = refl
    drop_front (x ∷ xs) ys = drop_front xs ys

pub stops_dropped : FindsSpelled → FindsNone → text.RefusesFirst → (bytes from : List ℕ) → first_token bytes ≡ Stops from → from ≡ drop (length bytes - length from) bytes
stops_dropped finds blank refuses bytes from bad = dropped_behind finds blank refuses bytes from (behind_gap false bytes) refl bad

-- ---- one place

-- a shorter front of a token is one
shorter_begins : (bytes : List ℕ) (j k : ℕ) → j ≤ k → BeginsToken (take k bytes) → BeginsToken (take j bytes)
shorter_begins bytes j k below begins =
    let part = take-append-drop j (take k bytes) in
    let front = take-take j k bytes below in
    let same : take j bytes ++ (drop j (take k bytes) ++ begins.more) ≡ take k bytes ++ begins.more = sym (append_assoc (take j bytes) (drop j (take k bytes)) begins.more) ∙ cc in
    record { more = drop j (take k bytes) ++ begins.more; token = begins.token; at = begins.at; is = rw same begins.is }

not_before : (bytes : List ℕ) (j k : ℕ) → IsBadAt bytes j → IsBadAt bytes k → j < k → ⊥
not_before bytes j k first second below =
    let within = second.within in
    first.stops (omega arith) (shorter_begins bytes (suc j) k (omega arith) second.begins)

same_place : (bytes : List ℕ) (j k : ℕ) → IsBadAt bytes j → IsBadAt bytes k → j ≡ k
same_place bytes j k first second = one_place (λ i. IsBadAt bytes i) (not_before bytes) j k first second

abbrev StopsAt : List ℕ → ℕ → Type 0
StopsAt bytes k = (from : List ℕ) × (first_token bytes ≡ Stops from) × (k ≡ length bytes - length from)

bad_is_stopped : FindsSpelled → FindsNone → text.RefusesFirst → (bytes : List ℕ) (k : ℕ) (f : Front) → first_token bytes ≡ f → IsBadAt bytes k → StopsAt bytes k
bad_is_stopped finds blank refuses bytes k (Begins token at rest) e bad = absurd (bad.none token at rest (found_is_first finds bytes at rest token e))
bad_is_stopped finds blank refuses bytes k NoneLeft e bad = absurd (bad.some (none_found bytes e))
bad_is_stopped finds blank refuses bytes k (Stops from) e bad = (from, e, same_place bytes k (length bytes - length from) bad (stops_is_bad finds blank refuses bytes from e))

pub stops_are_bad : FindsSpelled → FindsNone → text.RefusesFirst → (bytes : List ℕ) (k : ℕ) → StopsAt bytes k ↔ IsBadAt bytes k
stops_are_bad finds blank refuses bytes k =
    (λ r. subst (λ (k : ℕ). IsBadAt bytes k) (sym r.2) (stops_is_bad finds blank refuses bytes r.0 r.1), λ bad. bad_is_stopped finds blank refuses bytes k (first_token bytes) refl bad)
