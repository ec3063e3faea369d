-- A token is found exactly where the bytes begin with it.
use Rattle.std.proofs.Common.{◌≡◌, ℕ, Bool, true, false, not, ◌&&◌, ◌==◌, List, [], ◌∷◌, ◌++◌, Option, Some, None, refl, ap, sym, subst, ◌∙◌, inl, inr, eqb-true}
use Rattle.std.specs.List.{list_all}
use Rattle.std.specs.Option.{is_some}
use Rattle.std.proofs.lemmas.Bool.{cases_Bool, cond-true, cond-false, and_parts, not-true}
use Rattle.rl_tree.specs.Bytes.{is_blank}
use Rattle.rl_text.specs.Datum.{Datum, quoted}
use Rattle.rl_text.specs.Gap.{IsGap, IsBlankText}
use Rattle.rl_text.specs.Laws.{FindsSpelled}
use Rattle.rl_text.specs.Reading.{Reading, Found, NoText, Unreadable, reading}
use Rattle.rl_text.specs.Word.{atom_of, datum_of_atom}
use Rattle.rl_grammar.specs.Token.{Token}
use Rattle.rl_grammar.specs.Written.{short_marks, long_marks, at_byte, second_of, short_mark, long_mark, Written, Spelled, Quoting, Short, Long, token_of, IsAlone, StandsWritten, IsTokenAt, IsFirst}
use Rattle.rl_grammar.specs.Lexer.{behind_gap, Lexed, Lexes, Bad, begins_spelling, before_rest, token_read, lexed_or_bad, lexed_spelling, lexed_long, lexed_mark, lexed, Begins, NoneLeft, first_token_of, first_behind, first_token}
use Rattle.rl_grammar.proofs.Gaps.{IsSolid, found_solid, gap_passed, none_is_blank, blank_is_none}
use Rattle.rl_grammar.proofs.Spelled.{spelling_solid, word_is_read, word_first, spelled_here, word_spelled, quote_spelled}

-- ---- marks

at_byte_holds : {A : Type 0} (P : ℕ → Bool) (rows : List (ℕ × A)) (b : ℕ) (x : A) → list_all (λ row. P row.0) rows ≡ true → at_byte rows b ≡ Some x → P b ≡ true
at_byte_holds P [] b x all e = absurd cc
at_byte_holds P (row ∷ rows) b x all e =
    let parts = and_parts _ _ all in
    elim (cases_Bool (b == row.0)) [
      | inl same ↦ rw (eqb-true b row.0 same) parts.0
      | inr other ↦ at_byte_holds P rows b x parts.1 (rw other at e)
    ]

abbrev is_mark_byte : ℕ → Bool
is_mark_byte b = not (begins_spelling b) && (not (is_blank b) && not (b == 37))

-- a mark begins no spelling, and stands in no gap
pub record IsMarkByte (b : ℕ) : Type 0 where
  pub no_spelling : begins_spelling b ≡ false
  pub solid : IsSolid b

mark_byte : (b : ℕ) → is_mark_byte b ≡ true → IsMarkByte b
mark_byte b e =
    let parts = and_parts _ _ e in
    let others = and_parts _ _ parts.1 in
    record { no_spelling = not-true _ parts.0; solid = record { no_blank = not-true _ others.0; no_percent = not-true _ others.1 } }

pub short_byte : (b : ℕ) (token : Token) → short_mark b ≡ Some token → IsMarkByte b
short_byte b token e = mark_byte b (at_byte_holds is_mark_byte short_marks b token refl e)

abbrev has_short : ℕ → Bool
has_short b = is_some (short_mark b)

second_has : (b c : ℕ) (token : Token) (rows : Option (List (ℕ × Token))) → at_byte long_marks b ≡ rows → second_of rows c ≡ Some token → has_short b ≡ true
second_has b c token (Some rows) e second = at_byte_holds has_short long_marks b rows refl e
second_has b c token None e second = absurd cc

-- where a mark of two bytes begins, one of one byte does
pub long_has_short : (b c : ℕ) (token : Token) → long_mark b c ≡ Some token → is_some (short_mark b) ≡ true
long_has_short b c token e = second_has b c token (at_byte long_marks b) refl e

has_byte : (b : ℕ) (short : Option Token) → short_mark b ≡ short → is_some short ≡ true → IsMarkByte b
has_byte b (Some token) e has = short_byte b token e
has_byte b None e has = absurd cc

pub long_byte : (b c : ℕ) (token : Token) → long_mark b c ≡ Some token → IsMarkByte b
long_byte b c token e = has_byte b (short_mark b) refl (long_has_short b c token e)

-- ---- a token that stands here is found

-- what is read here is the token
read_lexed : (b : ℕ) (bs : List ℕ) (datum : Datum) (rest : List ℕ) (token : Token) → begins_spelling b ≡ true → reading (b ∷ bs) ≡ Found datum rest → token_read (before_rest (b ∷ bs) rest) datum ≡ Some token → lexed b bs ≡ Lexes token rest
read_lexed b bs datum rest token begins found read =
    cond-true (begins_spelling b) _ _ begins
    ∙ ap (lexed_spelling (b ∷ bs)) found
    ∙ ap (λ (found : Option Token). lexed_or_bad (b ∷ bs) found rest) read

short_lexed : (b : ℕ) (rest : List ℕ) (token : Token) → IsAlone b rest → short_mark b ≡ Some token → lexed b rest ≡ Lexes token rest
short_lexed b [] token alone e = cond-false (begins_spelling b) _ _ (short_byte b token e).no_spelling ∙ ap (λ (found : Option Token). lexed_or_bad (b ∷ []) found []) e
short_lexed b (c ∷ cs) token alone e =
    cond-false (begins_spelling b) _ _ (short_byte b token e).no_spelling
    ∙ ap (λ (found : Option Token). lexed_long b c cs found) alone
    ∙ ap (λ (found : Option Token). lexed_or_bad (b ∷ c ∷ cs) found (c ∷ cs)) e

long_lexed : (b c : ℕ) (rest : List ℕ) (token : Token) → long_mark b c ≡ Some token → lexed b (c ∷ rest) ≡ Lexes token rest
long_lexed b c rest token e =
    cond-false (begins_spelling b) _ _ (long_byte b c token e).no_spelling
    ∙ ap (λ (found : Option Token). lexed_long b c rest found) e

-- the first byte of a token, and that the token is found there
pub record Starts (token : Token) (at rest : List ℕ) : Type 0 where
  pub byte : ℕ
  pub others : List ℕ
  pub is : at ≡ byte ∷ others
  pub solid : IsSolid byte
  pub found : lexed byte others ≡ Lexes token rest

written_starts : FindsSpelled → (token : Token) (w : Written) (at rest : List ℕ) → StandsWritten w at rest → token_of w ≡ Some token → Starts token at rest
written_starts finds token (Spelled w) at rest stands e =
    let first = word_first w token stands.1 e in
    let is : at ≡ first.byte ∷ (first.others ++ rest) = stands.0 ∙ ap (λ (text : List ℕ). text ++ rest) first.is in
    let spelled = word_spelled w (first.byte ∷ (first.others ++ rest)) rest (sym is ∙ stands.0) stands.1 stands.2 in
    let read = word_is_read w rest token stands.1 e in
    record {
      byte = first.byte;
      others = first.others ++ rest;
      is = is;
      solid = spelling_solid first.byte first.begins;
      found = read_lexed first.byte (first.others ++ rest) (datum_of_atom (atom_of w)) rest token first.begins ((finds _ _ _).1 spelled) (subst (λ (bytes : List ℕ). token_read (before_rest bytes rest) (datum_of_atom (atom_of w)) ≡ Some token) (sym stands.0 ∙ is) read);
    }
written_starts finds token (Quoting d) at rest stands e = record {
  byte = 39;
  others = stands.0;
  is = stands.1;
  solid = spelling_solid 39 refl;
  found = read_lexed 39 stands.0 (quoted d) rest token refl ((finds _ _ _).1 (quote_spelled d (39 ∷ stands.0) stands.0 rest refl stands.2)) e;
}
written_starts finds token (Short b) at rest stands e = record { byte = b; others = rest; is = stands.0; solid = (short_byte b token e).solid; found = short_lexed b rest token stands.1 e }
written_starts finds token (Long b c) at rest stands e = record { byte = b; others = c ∷ rest; is = stands; solid = (long_byte b c token e).solid; found = long_lexed b c rest token e }

pub token_starts : FindsSpelled → (token : Token) (at rest : List ℕ) → IsTokenAt token at rest → Starts token at rest
token_starts finds token at rest t = written_starts finds token t.written at rest t.stands t.is

-- behind a gap the first token is the one there
pub first_passed : (gap bytes : List ℕ) (b : ℕ) (bs : List ℕ) → IsSolid b → bytes ≡ gap ++ b ∷ bs → IsGap gap → first_token bytes ≡ first_token_of (b ∷ bs) (lexed b bs)
first_passed gap bytes b bs solid is gap_is = ap first_token is ∙ ap first_behind (gap_passed gap b bs solid gap_is)

pub first_is_found : FindsSpelled → (bytes at rest : List ℕ) (token : Token) → IsFirst token bytes at rest → first_token bytes ≡ Begins token at rest
first_is_found finds bytes at rest token f =
    let start = token_starts finds token at rest f.token_is in
    first_passed f.gap bytes start.byte start.others start.solid (f.is ∙ ap (λ (at : List ℕ). f.gap ++ at) start.is) f.is_gap
    ∙ ap (first_token_of (start.byte ∷ start.others)) start.found
    ∙ ap (λ (at : List ℕ). Begins token at rest) (sym start.is)

-- ---- what is found stands here

spelling_token : FindsSpelled → (b : ℕ) (bs : List ℕ) (token : Token) (rest : List ℕ) (r : Reading) → begins_spelling b ≡ true → reading (b ∷ bs) ≡ r → lexed_spelling (b ∷ bs) r ≡ Lexes token rest → IsTokenAt token (b ∷ bs) rest
spelling_token finds b bs token rest (Found datum after) begins e found =
    let here = spelled_here b bs datum after begins ((finds _ _ _).0 e) in
    let same : Lexes here.token after ≡ Lexes token rest = sym (ap (λ (found : Option Token). lexed_or_bad (b ∷ bs) found after) here.read) ∙ found in
    let token_same : here.token ≡ token = cc in
    let rest_same : after ≡ rest = cc in
    subst (λ (rest : List ℕ). IsTokenAt token (b ∷ bs) rest) rest_same (subst (λ (t : Token). IsTokenAt t (b ∷ bs) after) token_same here.is)
spelling_token finds b bs token rest NoText begins e found = absurd cc
spelling_token finds b bs token rest (Unreadable k) begins e found = absurd cc

short_token : (b : ℕ) (bs : List ℕ) (token : Token) (rest : List ℕ) (short : Option Token) → IsAlone b bs → short_mark b ≡ short → lexed_or_bad (b ∷ bs) short bs ≡ Lexes token rest → IsTokenAt token (b ∷ bs) rest
short_token b bs token rest (Some other) alone e found =
    let token_same : other ≡ token = cc in
    let rest_same : bs ≡ rest = cc in
    record { written = Short b; stands = (rw rest_same refl, rw (← rest_same) alone); is = e ∙ ap Some token_same }
short_token b bs token rest None alone e found = absurd cc

long_token : (b c : ℕ) (cs : List ℕ) (token : Token) (rest : List ℕ) (long : Option Token) → long_mark b c ≡ long → lexed_long b c cs long ≡ Lexes token rest → IsTokenAt token (b ∷ c ∷ cs) rest
long_token b c cs token rest (Some other) e found =
    let token_same : other ≡ token = cc in
    let rest_same : cs ≡ rest = cc in
    record { written = Long b c; stands = rw rest_same refl; is = e ∙ ap Some token_same }
long_token b c cs token rest None e found = short_token b (c ∷ cs) token rest (short_mark b) e refl found

mark_token : (b : ℕ) (bs : List ℕ) (token : Token) (rest : List ℕ) → lexed_mark b bs ≡ Lexes token rest → IsTokenAt token (b ∷ bs) rest
mark_token b [] token rest found = short_token b [] token rest (short_mark b) tt refl found
mark_token b (c ∷ cs) token rest found = long_token b c cs token rest (long_mark b c) refl found

pub lexed_token : FindsSpelled → (b : ℕ) (bs : List ℕ) (token : Token) (rest : List ℕ) → lexed b bs ≡ Lexes token rest → IsTokenAt token (b ∷ bs) rest
lexed_token finds b bs token rest found = elim (cases_Bool (begins_spelling b)) [
  | inl begins ↦ spelling_token finds b bs token rest (reading (b ∷ bs)) begins refl (rw begins at found)
  | inr other ↦ mark_token b bs token rest (rw other at found)
]

behind_first : FindsSpelled → (bytes at rest : List ℕ) (token : Token) (b : ℕ) (bs : List ℕ) (l : Lexed) → behind_gap false bytes ≡ b ∷ bs → lexed b bs ≡ l → first_token_of (b ∷ bs) l ≡ Begins token at rest → IsFirst token bytes at rest
behind_first finds bytes at rest token b bs (Lexes other after) e lexes found =
    let s = found_solid bytes b bs e in
    let token_same : other ≡ token = cc in
    let at_same : b ∷ bs ≡ at = cc in
    let rest_same : after ≡ rest = cc in
    record {
      gap = s.behind.gap;
      is_gap = s.behind.is_gap;
      is = s.behind.is ∙ ap (λ (at : List ℕ). s.behind.gap ++ at) at_same;
      token_is = rw (← at_same) (lexed_token finds b bs token rest (rw (← token_same, ← rest_same) lexes));
    }
behind_first finds bytes at rest token b bs (Bad from) e lexes found = absurd cc

found_behind : FindsSpelled → (bytes at rest : List ℕ) (token : Token) (here : List ℕ) → behind_gap false bytes ≡ here → first_behind here ≡ Begins token at rest → IsFirst token bytes at rest
found_behind finds bytes at rest token [] e found = absurd cc
found_behind finds bytes at rest token (b ∷ bs) e found = behind_first finds bytes at rest token b bs (lexed b bs) e refl found

pub found_is_first : FindsSpelled → (bytes at rest : List ℕ) (token : Token) → first_token bytes ≡ Begins token at rest → IsFirst token bytes at rest
found_is_first finds bytes at rest token found = found_behind finds bytes at rest token (behind_gap false bytes) refl found

-- ---- nothing is found

none_behind : (bytes here : List ℕ) → behind_gap false bytes ≡ here → first_behind here ≡ NoneLeft → IsBlankText bytes
none_behind bytes [] e none = none_is_blank bytes e
none_behind bytes (b ∷ bs) e none = absurd (no_none (b ∷ bs) (lexed b bs) none)
  where
    no_none : (at : List ℕ) (l : Lexed) → first_token_of at l ≡ NoneLeft → ⊥
    no_none at (Lexes token rest) none = absurd cc
    no_none at (Bad from) none = absurd cc

pub none_found : (bytes : List ℕ) → first_token bytes ≡ NoneLeft → IsBlankText bytes
none_found bytes none = none_behind bytes (behind_gap false bytes) refl none

pub blank_found : (bytes : List ℕ) → IsBlankText bytes → first_token bytes ≡ NoneLeft
blank_found bytes blank = ap first_behind (blank_is_none bytes blank)
