-- From where a spelling ends to the token that it is.
use Rattle.std.proofs.Common.{◌≡◌, ℕ, pos, ◌+◌, ◌-◌, ◌<◌, ◌≤◌, true, false, List, [], ◌∷◌, length, take, drop, get_or, ◌⊎◌, Option, Some, None, refl, ap, sym, subst, ◌∙◌, inl, inr, arith}
use Rattle.std.specs.Prelude.{if◌then◌else◌, option_map}
use Rattle.std.proofs.lemmas.Bool.{cond-true, cond-false, cases_Bool}
use Rattle.std.proofs.lemmas.Bool.Decides.{nat_tests}
use Rattle.std.proofs.lemmas.List.{drop_more, drop-drop, length-drop}
use Rattle.std.proofs.Math.ListN.{drop_of_length-le}
use Rattle.rl_tree.specs.Bytes.{is_blank, is_digit, is_letter}
use Rattle.rl_text.specs.Datum.{Datum, Int, Id, Str, quoted}
use Rattle.rl_text.specs.Reader.{Gap, InNumber, Quoting, ReaderOutcome, Read, Refused, at_class, reader_step}
use Rattle.rl_text.specs.Word as atom
use Rattle.rl_text.specs.Byte.{class_of}
use Rattle.rl_text.specs.Byte as byte
use Rattle.rl_text.specs.Reading.{plain, reading, reading_of}
use Rattle.rl_grammar.specs.Token.{Token, Identifier, Integer, String, Quoted}
use Rattle.rl_grammar.specs.Written.{IsFirst, word_token, short_mark, long_mark}
use Rattle.rl_grammar.specs.Lexer.{Lexes, Bad, before_rest, behind_gap, begins_spelling, first_behind, first_token, first_token_of, has_no_escape, lexed_long, lexed_mark, lexed_or_bad, lexed_spelling, token_read, Begins, Stops}
use Rattle.rl_lex.specs.Kinds.{kind_of_token}
use Rattle.rl_lex.specs.Scans.{IsDigitsScan, IsTextOf, IsTextScan, WordEnds, WordFails, digits_read_at, read_at, text_between}
use Rattle.rl_grammar.specs.Laws.{FindsToken, RefusesByte}
use Rattle.rl_lex.specs.Parts.{IsQuotedScan, quote_read_at}
use Rattle.rl_lex.specs.Tokens.{IsBadLexeme, IsBadNext, IsLexeme, IsTokenLexeme, IsTokenNext, lexed_at, mark_as, name_kind, scan_as, short_as}
use Rattle.rl_lex.proofs.ReadBytes.{read_on}
use Rattle.rl_lex.specs.declared.kind.TokenKind.{TokenKind}
use Rattle.rl_lex.specs.declared.kind.TokenKind.TheVariants as the_kind
use Rattle.rl_lex.specs.declared.atom.Scan.{Scan}
use Rattle.rl_lex.specs.declared.atom.Scan.TheVariants as scan
use Rattle.rl_lex.specs.declared.next.Next.{Next}
use Rattle.rl_lex.specs.declared.next.Next.TheVariants as next

-- the bytes from a place on that begin a spelling
spelled_at : (bytes : List ℕ) (at : ℕ) → at < length bytes → begins_spelling (get_or bytes at 0) ≡ true → lexed_at bytes at ≡ lexed_spelling (drop at bytes) (reading (drop at bytes))
spelled_at bytes at here begins =
    cond-true (begins_spelling (get_or bytes at 0)) _ _ begins
    ∙ ap (λ (bs : List ℕ). lexed_spelling bs (reading bs)) (sym (drop_more bytes at 0 here))

text_before : (bytes : List ℕ) (at to : ℕ) → at ≤ to → to ≤ length bytes → before_rest (drop at bytes) (drop to bytes) ≡ text_between bytes at to
text_before bytes at to after within =
    let size = length-drop at bytes in
    let left = length-drop to bytes in
    let count : length (drop at bytes) - length (drop to bytes) ≡ to - at = omega (arith, size, left) in
    ap (λ (n : ℕ). take n (drop at bytes)) count

-- what is read from a place on is a token
pub spelled_token : (bytes : List ℕ) (at to : ℕ) (d : Datum) (token : Token) → at < length bytes → at ≤ to → to ≤ length bytes → begins_spelling (get_or bytes at 0) ≡ true → read_at bytes at [] ≡ Read d tt (drop to bytes) → token_read (text_between bytes at to) d ≡ Some token → lexed_at bytes at ≡ Lexes token (drop to bytes)
spelled_token bytes at to d token here after within begins reads is =
    spelled_at bytes at here begins
    ∙ ap (λ (o : ReaderOutcome (Unit {0}) Datum ⊥). lexed_spelling (drop at bytes) (reading_of (drop at bytes) o)) reads
    ∙ ap (λ (text : List ℕ). lexed_or_bad (drop at bytes) (token_read text d) (drop to bytes)) (text_before bytes at to after within)
    ∙ ap (λ (found : Option Token). lexed_or_bad (drop at bytes) found (drop to bytes)) is

-- what is refused from a place on is bad
pub spelled_bad : (bytes : List ℕ) (at k : ℕ) → at < length bytes → at ≤ k → k ≤ length bytes → begins_spelling (get_or bytes at 0) ≡ true → read_at bytes at [] ≡ Refused tt (drop k bytes) → lexed_at bytes at ≡ Bad (drop k bytes)
spelled_bad bytes at k here after within begins reads =
    let size = length-drop at bytes in
    let left = length-drop k bytes in
    let place : at + (length (drop at bytes) - length (drop k bytes)) ≡ k = omega (arith, size, left) in
    spelled_at bytes at here begins
    ∙ ap (λ (o : ReaderOutcome (Unit {0}) Datum ⊥). lexed_spelling (drop at bytes) (reading_of (drop at bytes) o)) reads
    ∙ ap Bad (drop-drop (length (drop at bytes) - length (drop k bytes)) at bytes ∙ ap (λ (n : ℕ). drop n bytes) place)

-- the kind of a name
pub named_kind : (bytes : List ℕ) (at to : ℕ) (name : List ℕ) → IsTextOf bytes at to name → name_kind (text_between bytes at to) ≡ kind_of_token (if has_no_escape (text_between bytes at to) then word_token name else Identifier name)
named_kind bytes at to name text = elim (cases_Bool (has_no_escape (text_between bytes at to))) [
  | inl bare ↦ cond-true (has_no_escape (text_between bytes at to)) _ _ bare ∙ ap (λ (bs : List ℕ). kind_of_token (word_token bs)) (sym (text bare)) ∙ ap kind_of_token (sym (cond-true (has_no_escape (text_between bytes at to)) (word_token name) (Identifier name) bare))
  | inr other ↦ cond-false (has_no_escape (text_between bytes at to)) _ _ other ∙ ap kind_of_token (sym (cond-false (has_no_escape (text_between bytes at to)) (word_token name) (Identifier name) other))
]

-- ---- marks

marked_at : (bytes : List ℕ) (at : ℕ) → begins_spelling (get_or bytes at 0) ≡ false → lexed_at bytes at ≡ lexed_mark (get_or bytes at 0) (drop (at + 1) bytes)
marked_at bytes at other = cond-false (begins_spelling (get_or bytes at 0)) _ _ other

pub lone_mark : (bytes : List ℕ) (at : ℕ) → length bytes ≡ at + 1 → begins_spelling (get_or bytes at 0) ≡ false → lexed_at bytes at ≡ lexed_or_bad (drop at bytes) (short_mark (get_or bytes at 0)) (drop (at + 1) bytes)
lone_mark bytes at end other =
    let none : drop (at + 1) bytes ≡ [] = drop_of_length-le bytes (omega arith) in
    marked_at bytes at other
    ∙ ap (lexed_mark (get_or bytes at 0)) none
    ∙ ap (λ (rest : List ℕ). lexed_or_bad (get_or bytes at 0 ∷ rest) (short_mark (get_or bytes at 0)) rest) (sym none)
    ∙ ap (λ (here : List ℕ). lexed_or_bad here (short_mark (get_or bytes at 0)) (drop (at + 1) bytes)) (sym (drop_more bytes at 0 (omega arith)))

pub long_token : (bytes : List ℕ) (at : ℕ) (token : Token) → at + 1 < length bytes → begins_spelling (get_or bytes at 0) ≡ false → long_mark (get_or bytes at 0) (get_or bytes (at + 1) 0) ≡ Some token → lexed_at bytes at ≡ Lexes token (drop (at + 2) bytes)
long_token bytes at token next other is =
    let b = get_or bytes at 0 in
    let c = get_or bytes (at + 1) 0 in
    let two : at + 1 + 1 ≡ at + 2 = omega arith in
    marked_at bytes at other
    ∙ ap (lexed_mark b) (drop_more bytes (at + 1) 0 next)
    ∙ ap (λ (found : Option Token). lexed_long b c (drop (at + 1 + 1) bytes) found) is
    ∙ ap (λ (n : ℕ). Lexes token (drop n bytes)) two

pub short_before : (bytes : List ℕ) (at : ℕ) → at + 1 < length bytes → begins_spelling (get_or bytes at 0) ≡ false → long_mark (get_or bytes at 0) (get_or bytes (at + 1) 0) ≡ None → lexed_at bytes at ≡ lexed_or_bad (drop at bytes) (short_mark (get_or bytes at 0)) (drop (at + 1) bytes)
short_before bytes at next other is =
    let b = get_or bytes at 0 in
    let c = get_or bytes (at + 1) 0 in
    marked_at bytes at other
    ∙ ap (lexed_mark b) (drop_more bytes (at + 1) 0 next)
    ∙ ap (λ (found : Option Token). lexed_long b c (drop (at + 1 + 1) bytes) found) is
    ∙ ap (λ (rest : List ℕ). lexed_or_bad (b ∷ rest) (short_mark b) rest) (sym (drop_more bytes (at + 1) 0 next))
    ∙ ap (λ (here : List ℕ). lexed_or_bad here (short_mark b) (drop (at + 1) bytes)) (sym (drop_more bytes at 0 (omega arith)))

-- ---- lexemes

abbrev MarkLexeme : List ℕ → ℕ → Option Token → Type 0
MarkLexeme bytes at o = IsLexeme bytes at (mark_as at (option_map kind_of_token o))

mark_lexeme : (bytes : List ℕ) (at : ℕ) (o : Option Token) → at < length bytes → lexed_at bytes at ≡ lexed_or_bad (drop at bytes) o (drop (at + 1) bytes) → MarkLexeme bytes at o
mark_lexeme bytes at (Some token) here is = record { here = refl; takes = omega arith; within = omega (arith, here); token = token; is = is; kind = refl }
mark_lexeme bytes at None here is = record { after = omega arith; within = omega (arith, here); is = is }

pub short_lexeme : (bytes : List ℕ) (at : ℕ) (r : Next) → at < length bytes → lexed_at bytes at ≡ lexed_or_bad (drop at bytes) (short_mark (get_or bytes at 0)) (drop (at + 1) bytes) → r ≡ short_as at (get_or bytes at 0) → IsLexeme bytes at r
short_lexeme bytes at r here is same = subst (λ (r : Next). IsLexeme bytes at r) (sym same) (mark_lexeme bytes at (short_mark (get_or bytes at 0)) here is)

pub mapped_some : (o : Option Token) (kind : TokenKind) → Some kind ≡ option_map kind_of_token o → (token : Token) × (o ≡ Some token) × (kind ≡ kind_of_token token)
mapped_some (Some token) kind is = (token, refl, (let same : kind ≡ kind_of_token token = cc in same))
mapped_some None kind is = absurd (let never : Some kind ≡ None = is in cc)

pub mapped_none : (o : Option Token) → None ≡ option_map kind_of_token o → o ≡ None
mapped_none None is = refl
mapped_none (Some token) is = absurd (let never : None ≡ Some (kind_of_token token) = is in cc)

pub name_begins_spelling : (b : ℕ) → (is_letter b ≡ true) ⊎ (b ≡ 33) → begins_spelling b ≡ true
name_begins_spelling b (inl letter) = rw letter refl
name_begins_spelling b (inr escape) = ap begins_spelling escape

pub name_lexeme : (bytes : List ℕ) (at to : ℕ) (kind : TokenKind) (name : List ℕ) → at < length bytes → begins_spelling (get_or bytes at 0) ≡ true → WordEnds (read_at bytes at) bytes at to (atom.Identifier name) → IsTextOf bytes at to name → kind ≡ name_kind (text_between bytes at to) → IsTokenLexeme bytes at (record { kind = kind; from = at; to = to })
name_lexeme bytes at to kind name here begins ends text is = record {
  here = refl;
  takes = ends.after;
  within = ends.within;
  token = if has_no_escape (text_between bytes at to) then word_token name else Identifier name;
  is = spelled_token bytes at to (Id name) _ here (omega (arith, ends.after)) ends.within begins (ends.reads [] refl) refl;
  kind = is ∙ named_kind bytes at to name text;
}

pub word_fails : (bytes : List ℕ) (at k : ℕ) → at < length bytes → begins_spelling (get_or bytes at 0) ≡ true → WordFails (read_at bytes at) bytes at k → IsBadLexeme bytes at k
word_fails bytes at k here begins fails = record { after = fails.after; within = fails.within; is = spelled_bad bytes at k here fails.after fails.within begins (fails.reads [] refl) }

pub text_lexeme : (bytes : List ℕ) (at : ℕ) (s : Scan) → at < length bytes → get_or bytes at 0 ≡ 34 → IsTextScan bytes at s → IsLexeme bytes at (scan_as at the_kind.String s)
text_lexeme bytes at (scan.Ends to) here quote s = record {
  here = refl;
  takes = s.1.after;
  within = s.1.within;
  token = String s.0;
  is = spelled_token bytes at to (Str s.0) (String s.0) here (omega (arith, s.1.after)) s.1.within (ap begins_spelling quote) (s.1.reads [] refl) refl;
  kind = refl;
}
text_lexeme bytes at (scan.Bad k) here quote s = word_fails bytes at k here (ap begins_spelling quote) s

digit_class : (b : ℕ) → is_digit b ≡ true → class_of b ≡ byte.Digit
digit_class b digit =
    let solid : is_blank b ≡ false = grind (arith, nat_tests) in
    let other : is_letter b ≡ false = grind (arith, nat_tests) in
    cond-false (is_blank b) _ _ solid ∙ cond-false (is_letter b) _ _ other ∙ cond-true (is_digit b) _ _ digit

digit_begins : (b : ℕ) → is_digit b ≡ true → begins_spelling b ≡ true
digit_begins b digit = grind (arith, nat_tests)

digits_read : (bytes : List ℕ) (at : ℕ) → at < length bytes → is_digit (get_or bytes at 0) ≡ true → read_at bytes at [] ≡ digits_read_at false bytes at []
digits_read bytes at here digit = read_on Gap (InNumber false (get_or bytes at 0 - 48)) [] [] bytes at here (ap (λ (c : byte.Class). at_class plain c (get_or bytes at 0) [] tt) (digit_class (get_or bytes at 0) digit))

pub digits_lexeme : (bytes : List ℕ) (at : ℕ) (s : Scan) → at < length bytes → is_digit (get_or bytes at 0) ≡ true → IsDigitsScan false bytes at s → IsLexeme bytes at (scan_as at the_kind.Integer s)
digits_lexeme bytes at (scan.Ends to) here digit s = record {
  here = refl;
  takes = s.1.after;
  within = s.1.within;
  token = Integer s.0;
  is = spelled_token bytes at to (Int (pos s.0)) (Integer s.0) here (omega (arith, s.1.after)) s.1.within (digit_begins (get_or bytes at 0) digit) (digits_read bytes at here digit ∙ s.1.reads [] refl) refl;
  kind = refl;
}
digits_lexeme bytes at (scan.Bad k) here digit s = record {
  after = s.after;
  within = s.within;
  is = spelled_bad bytes at k here s.after s.within (digit_begins (get_or bytes at 0) digit) (digits_read bytes at here digit ∙ s.reads [] refl);
}

quote_reads : (bytes : List ℕ) (at : ℕ) → at < length bytes → get_or bytes at 0 ≡ 39 → read_at bytes at [] ≡ quote_read_at bytes at
quote_reads bytes at here quote = read_on Gap Gap [] (Quoting ∷ []) bytes at here (ap (λ (b : ℕ). reader_step plain Gap b [] tt) quote)

pub quoted_lexeme : (bytes : List ℕ) (at : ℕ) (s : Scan) → at < length bytes → get_or bytes at 0 ≡ 39 → IsQuotedScan bytes at s → IsLexeme bytes at (scan_as at the_kind.Quoted s)
quoted_lexeme bytes at (scan.Ends to) here quote s = record {
  here = refl;
  takes = s.after;
  within = s.within;
  token = Quoted s.datum;
  is = spelled_token bytes at to (quoted s.datum) (Quoted s.datum) here (omega (arith, s.after)) s.within (ap begins_spelling quote) (quote_reads bytes at here quote ∙ s.reads) refl;
  kind = refl;
}
quoted_lexeme bytes at (scan.Bad k) here quote s = record {
  after = s.after;
  within = s.within;
  is = spelled_bad bytes at k here s.after s.within (ap begins_spelling quote) (quote_reads bytes at here quote ∙ s.reads);
}

-- ---- from a lexeme behind a gap to what stands next

first_at : (bytes : List ℕ) (at from : ℕ) → from < length bytes → drop from bytes ≡ behind_gap false (drop at bytes) → first_token (drop at bytes) ≡ first_token_of (drop from bytes) (lexed_at bytes from)
first_at bytes at from here behind =
    ap first_behind (sym behind ∙ drop_more bytes from 0 here)
    ∙ ap (λ (bs : List ℕ). first_token_of bs (lexed_at bytes from)) (sym (drop_more bytes from 0 here))

pub token_next : FindsToken → (bytes : List ℕ) (at from : ℕ) (r : Next) → at ≤ from → from < length bytes → drop from bytes ≡ behind_gap false (drop at bytes) → IsLexeme bytes from r → IsTokenNext bytes at r
token_next finds bytes at from (next.Token found) after here behind l =
    let first : first_token (drop at bytes) ≡ Begins l.token (drop from bytes) (drop found.to bytes) = first_at bytes at from here behind ∙ ap (first_token_of (drop from bytes)) l.is in
    record {
      after = omega (arith, l.here, after);
      takes = omega (arith, l.here, l.takes);
      within = l.within;
      token = l.token;
      is = subst (λ (n : ℕ). IsFirst l.token (drop at bytes) (drop n bytes) (drop found.to bytes)) (sym l.here) ((finds (drop at bytes) (drop from bytes) (drop found.to bytes) l.token).0 first);
      kind = l.kind;
    }
token_next finds bytes at from next.End after here behind l = tt
token_next finds bytes at from (next.Bad k) after here behind l = tt

pub bad_next : RefusesByte → (bytes : List ℕ) (at from : ℕ) (r : Next) → at ≤ from → from < length bytes → drop from bytes ≡ behind_gap false (drop at bytes) → IsLexeme bytes from r → IsBadNext bytes at r
bad_next refuses bytes at from (next.Bad k) after here behind l =
    let size = length-drop at bytes in
    let left = length-drop k bytes in
    let first : first_token (drop at bytes) ≡ Stops (drop k bytes) = first_at bytes at from here behind ∙ ap (first_token_of (drop from bytes)) l.is in
    record {
      after = omega (arith, l.after, after);
      within = l.within;
      is = (refuses (drop at bytes) (k - at)).0 (drop k bytes, first, omega (arith, size, left, l.within, l.after, after));
    }
bad_next refuses bytes at from next.End after here behind l = tt
bad_next refuses bytes at from (next.Token found) after here behind l = tt
