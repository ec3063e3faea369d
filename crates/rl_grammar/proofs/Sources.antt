-- A statement is read exactly where the text begins with it, and a text is unreadable exactly where no statement goes on.
use Rattle.std.proofs.Common.{◌≡◌, ◌↔◌, ℕ, zero, suc, ◌<◌, ◌≤◌, true, false, List, [], ◌∷◌, ◌++◌, length, refl, ap, sym, ◌∙◌, inl, inr, arith, append_assoc}
use Rattle.std.proofs.lemmas.Bool.{cases_Bool, cond-true, cond-false, le-leb, leb-true}
use Rattle.std.proofs.lemmas.List.{length-append}
use Rattle.rl_text.specs.Gap.{IsBlankText}
use Rattle.rl_text.specs.Laws.{FindsSpelled}
use Rattle.rl_text.specs.Spelling as spelling
use Rattle.rl_text.specs.Word.{word_text}
use Rattle.std.specs.Prelude.{Some}
use Rattle.rl_grammar.specs.Token.{Separator, Token}
use Rattle.rl_grammar.specs.Written.{Written, Spelled, Quoting, Short, Long, token_of, StandsWritten, IsTokenAt, IsFirst}
use Rattle.rl_grammar.specs.Lexer.{behind_gap, Front, Begins, NoneLeft, Stops, first_token}
use Rattle.rl_grammar.specs.Tree.{StatementBody}
use Rattle.rl_grammar.specs.Statement.{StatementPlace, Start, PlaceStep, GoesTo, Ends, Fails, Parsed}
use Rattle.rl_grammar.specs.Within.{place_within, place_run_within}
use Rattle.rl_grammar.specs.Source.{past_longest, AreTokensOfSource, IsSource}
use Rattle.rl_grammar.specs.SourceReader.{HasStatement, NothingLeft, Unreadable, after_token, fits_source, with_first, read_source, source_started, source_behind, source_statement}
use Rattle.rl_grammar.proofs.Gaps.{none_is_blank, blank_is_none}
use Rattle.rl_grammar.proofs.Spelled.{word_first}
use Rattle.rl_grammar.proofs.Lexed.{first_is_found, found_is_first, blank_found}
use Rattle.rl_grammar.proofs.Bounded.{by_within}
use Rattle.rl_grammar.proofs.PrefixWithin.{statement_within, within_statement}

-- ---- each token takes a byte at least

spelled_slice : (tokens : List spelling.LispToken) (bytes rest : List ℕ) → spelling.AreTokens tokens bytes rest → (text : List ℕ) × (bytes ≡ text ++ rest)
spelled_slice [] bytes rest are = ([], are)
spelled_slice (token ∷ tokens) bytes rest are =
    let front = are.1 in
    let more = spelled_slice tokens are.0 rest are.2 in
    let text : List ℕ = spelling.token_text token in (
      front.gap ++ (text ++ more.0),
      front.is
          ∙ ap (λ (after : List ℕ). front.gap ++ (text ++ after)) more.1
          ∙ ap (λ (xs : List ℕ). front.gap ++ xs) (sym (append_assoc text more.0 rest))
          ∙ sym (append_assoc front.gap (text ++ more.0) rest),
    )

written_slice : (token : Token) (w : Written) (at rest : List ℕ) → StandsWritten w at rest → token_of w ≡ Some token → (text : List ℕ) × (at ≡ text ++ rest) × (0 < length text)
written_slice token (Spelled w) at rest stands e =
    let first = word_first w token stands.1 e in
    let some = ap length first.is in
    (word_text w, stands.0, omega arith)
written_slice token (Quoting d) at rest stands e =
    let s = stands.2 in
    let slice = spelled_slice (spelling.tokens_of s.spelling) stands.0 rest s.spelled in
    (39 ∷ slice.0, stands.1 ∙ ap (λ (xs : List ℕ). 39 ∷ xs) slice.1, omega arith)
written_slice token (Short b) at rest stands e = (b ∷ [], stands.0, omega arith)
written_slice token (Long b c) at rest stands e = (b ∷ c ∷ [], stands, omega arith)

-- a token is the bytes up to the rest
pub token_slice : (token : Token) (at rest : List ℕ) → IsTokenAt token at rest → (text : List ℕ) × (at ≡ text ++ rest) × (0 < length text)
token_slice token at rest t = written_slice token t.written at rest t.stands t.is

pub first_shorter : (token : Token) (bytes at rest : List ℕ) → IsFirst token bytes at rest → length rest < length bytes
first_shorter token bytes at rest f =
    let slice = token_slice token at rest f.token_is in
    let some = slice.2 in
    let here = ap length slice.1 in
    let parts = length-append slice.0 rest in
    let whole = ap length f.is in
    let outer = length-append f.gap at in
    omega arith

pub tokens_shorter : (ts : List Token) (bytes rest : List ℕ) → AreTokensOfSource ts bytes rest → length rest ≤ length bytes
tokens_shorter [] bytes rest are = let same = ap length are in omega arith
tokens_shorter (t ∷ ts) bytes rest are =
    let one = first_shorter t bytes are.0 are.1 are.2 in
    let others = tokens_shorter ts are.1 rest are.3 in
    omega arith

-- ---- steps

pub by_first : (n : ℕ) (end : List ℕ) (s : StatementPlace) (bytes : List ℕ) (f : Front) → first_token bytes ≡ f → read_source (suc n) end s bytes ≡ with_first end s f (λ s rest. read_source n end s rest)
by_first n end s bytes f e = ap (λ (f : Front). with_first end s f (λ s rest. read_source n end s rest)) e

-- a token that is whole before the end leads on by its step
pub by_token : (n : ℕ) (end : List ℕ) (s : StatementPlace) (bytes : List ℕ) (t : Token) (at rest : List ℕ) (st : PlaceStep) → first_token bytes ≡ Begins t at rest → fits_source end rest ≡ true → place_within s t ≡ st → read_source (suc n) end s bytes ≡ after_token end at rest st (λ s. read_source n end s rest)
by_token n end s bytes t at rest st e fit step =
    by_first n end s bytes (Begins t at rest) e
    ∙ cond-true (fits_source end rest) _ _ fit
    ∙ ap (λ (st : PlaceStep). after_token end at rest st (λ s. read_source n end s rest)) step

pub by_long : (n : ℕ) (end : List ℕ) (s : StatementPlace) (bytes : List ℕ) (t : Token) (at rest : List ℕ) → first_token bytes ≡ Begins t at rest → fits_source end rest ≡ false → read_source (suc n) end s bytes ≡ Unreadable end
by_long n end s bytes t at rest e long = by_first n end s bytes (Begins t at rest) e ∙ cond-false (fits_source end rest) _ _ long

pub fits_from : (end rest : List ℕ) → length end ≤ length rest → fits_source end rest ≡ true
fits_from end rest short = le-leb (length end) (length rest) short

pub fits_not : (end rest : List ℕ) → length rest < length end → fits_source end rest ≡ false
fits_not end rest long = elim (cases_Bool (fits_source end rest)) [
  | inl fit ↦ absurd (let short = leb-true (length end) (length rest) fit in omega arith)
  | inr other ↦ other
]

-- ---- what is read is a statement

-- tokens that stand here, and are a statement from this place on
record Stand (end : List ℕ) (s : StatementPlace) (bytes : List ℕ) (b : StatementBody) (p : Separator) (rest : List ℕ) : Type 0 where
  tokens : List Token
  stand : AreTokensOfSource tokens bytes rest
  parsed : place_run_within s tokens ≡ Parsed b p []
  short : length end ≤ length rest

abbrev EachReads : ℕ → List ℕ → StatementBody → Separator → List ℕ → Type 0
EachReads n end b p rest = (s : StatementPlace) (bytes : List ℕ) → read_source n end s bytes ≡ HasStatement b p rest → Stand end s bytes b p rest

token_reads : (n : ℕ) (end : List ℕ) (s : StatementPlace) (bytes : List ℕ) (b : StatementBody) (p : Separator) (rest : List ℕ) (t : Token) (at after : List ℕ) (st : PlaceStep) → IsFirst t bytes at after → fits_source end after ≡ true → place_within s t ≡ st → after_token end at after st (λ s. read_source n end s after) ≡ HasStatement b p rest → EachReads n end b p rest → Stand end s bytes b p rest
token_reads n end s bytes b p rest t at after (GoesTo next) first fit step e each =
    let more = each next after e in
    record {
      tokens = t ∷ more.tokens;
      stand = (at, after, first, more.stand);
      parsed = by_within s t more.tokens (GoesTo next) step ∙ more.parsed;
      short = more.short;
    }
token_reads n end s bytes b p rest t at after (Ends c q) first fit step e each =
    let body : c ≡ b = cc in
    let separator : q ≡ p = cc in
    let left : after ≡ rest = cc in
    record {
      tokens = t ∷ [];
      stand = (at, after, first, left);
      parsed = by_within s t [] (Ends c q) step ∙ (rw (body, separator) refl);
      short = rw (← left) (leb-true (length end) (length after) fit);
    }
token_reads n end s bytes b p rest t at after Fails first fit step e each = absurd cc

first_reads : FindsSpelled → (n : ℕ) (end : List ℕ) (s : StatementPlace) (bytes : List ℕ) (b : StatementBody) (p : Separator) (rest : List ℕ) (f : Front) → first_token bytes ≡ f → with_first end s f (λ s rest. read_source n end s rest) ≡ HasStatement b p rest → EachReads n end b p rest → Stand end s bytes b p rest
first_reads finds n end s bytes b p rest (Begins t at after) found e each = elim (cases_Bool (fits_source end after)) [
  | inl fit ↦ token_reads n end s bytes b p rest t at after (place_within s t) (found_is_first finds bytes at after t found) fit refl (sym (cond-true (fits_source end after) _ _ fit) ∙ e) each
  | inr long ↦ absurd (let none = sym (cond-false (fits_source end after) _ _ long) ∙ e in cc)
]
first_reads finds n end s bytes b p rest NoneLeft found e each = absurd cc
first_reads finds n end s bytes b p rest (Stops from) found e each = absurd cc

source_stands : FindsSpelled → (n : ℕ) (end : List ℕ) (s : StatementPlace) (bytes : List ℕ) (b : StatementBody) (p : Separator) (rest : List ℕ) → read_source n end s bytes ≡ HasStatement b p rest → Stand end s bytes b p rest
source_stands finds zero end s bytes b p rest e = absurd cc
source_stands finds (suc n) end s bytes b p rest e = first_reads finds n end s bytes b p rest (first_token bytes) refl e (λ s bytes e. source_stands finds n end s bytes b p rest e)

started_is_source : FindsSpelled → (bytes : List ℕ) (b : StatementBody) (p : Separator) (rest : List ℕ) → source_started bytes ≡ HasStatement b p rest → IsSource bytes b p rest
started_is_source finds bytes b p rest e =
    let stand = source_stands finds (suc (length bytes)) (past_longest bytes) Start bytes b p rest e in
    let both = within_statement stand.tokens b p [] stand.parsed in
    record { tokens = stand.tokens; stand = stand.stand; is = both.0; within = both.1; short = stand.short }

read_is_source : FindsSpelled → (bytes : List ℕ) (b : StatementBody) (p : Separator) (rest here : List ℕ) → source_behind here bytes ≡ HasStatement b p rest → IsSource bytes b p rest
read_is_source finds bytes b p rest [] e = absurd cc
read_is_source finds bytes b p rest (c ∷ cs) e = started_is_source finds bytes b p rest e

-- ---- a statement is read

last_read : (ts : List Token) (b c : StatementBody) (p q : Separator) (after rest : List ℕ) → AreTokensOfSource ts after rest → Parsed c q ts ≡ Parsed b p [] → HasStatement c q after ≡ HasStatement b p rest
last_read [] b c p q after rest more e = let body : c ≡ b = cc in let separator : q ≡ p = cc in rw (body, separator) (ap (HasStatement b p) more)
last_read (u ∷ us) b c p q after rest more e = absurd cc

token_read : (st : PlaceStep) (ts : List Token) (n : ℕ) (end : List ℕ) (s : StatementPlace) (bytes : List ℕ) (b : StatementBody) (p : Separator) (rest : List ℕ) (t : Token) (at after : List ℕ) → place_within s t ≡ st → first_token bytes ≡ Begins t at after → fits_source end after ≡ true → AreTokensOfSource ts after rest → place_run_within s (t ∷ ts) ≡ Parsed b p [] → ((next : StatementPlace) → place_run_within next ts ≡ Parsed b p [] → read_source n end next after ≡ HasStatement b p rest) → read_source (suc n) end s bytes ≡ HasStatement b p rest
token_read (GoesTo next) ts n end s bytes b p rest t at after step found fit are parsed each =
    by_token n end s bytes t at after (GoesTo next) found fit step ∙ each next (sym (by_within s t ts (GoesTo next) step) ∙ parsed)
token_read (Ends c q) ts n end s bytes b p rest t at after step found fit are parsed each =
    by_token n end s bytes t at after (Ends c q) found fit step ∙ last_read ts b c p q after rest are (sym (by_within s t ts (Ends c q) step) ∙ parsed)
token_read Fails ts n end s bytes b p rest t at after step found fit are parsed each = absurd (let refused = sym (by_within s t ts Fails step) ∙ parsed in cc)

stands_read : FindsSpelled → (ts : List Token) (n : ℕ) (end : List ℕ) (s : StatementPlace) (bytes : List ℕ) (b : StatementBody) (p : Separator) (rest : List ℕ) → AreTokensOfSource ts bytes rest → place_run_within s ts ≡ Parsed b p [] → length end ≤ length rest → length bytes < n → read_source n end s bytes ≡ HasStatement b p rest
stands_read finds [] n end s bytes b p rest are parsed short enough = absurd cc
stands_read finds (t ∷ ts) zero end s bytes b p rest are parsed short enough = absurd (omega arith)
stands_read finds (t ∷ ts) (suc n) end s bytes b p rest are parsed short enough =
    let less = tokens_shorter ts are.1 rest are.3 in
    let one = first_shorter t bytes are.0 are.1 are.2 in
    let fit = fits_from end are.1 (omega arith) in
    let small : length are.1 < n = omega arith in
    token_read (place_within s t) ts n end s bytes b p rest t are.0 are.1 refl (first_is_found finds bytes are.0 are.1 t are.2) fit are.3 parsed
    (λ next parsed. stands_read finds ts n end next are.1 b p rest are.3 parsed short small)

source_is_started : FindsSpelled → (bytes : List ℕ) (b : StatementBody) (p : Separator) (rest : List ℕ) → IsSource bytes b p rest → source_started bytes ≡ HasStatement b p rest
source_is_started finds bytes b p rest is = stands_read finds is.tokens (suc (length bytes)) (past_longest bytes) Start bytes b p rest is.stand (statement_within is.tokens b p [] is.is is.within) is.short (omega arith)

-- a blank text has no tokens
blank_stands : FindsSpelled → (ts : List Token) (bytes : List ℕ) (b : StatementBody) (p : Separator) (rest : List ℕ) → IsBlankText bytes → AreTokensOfSource ts bytes rest → place_run_within Start ts ≡ Parsed b p [] → ⊥
blank_stands finds [] bytes b p rest blank are parsed = absurd cc
blank_stands finds (t ∷ ts) bytes b p rest blank are parsed = let found = sym (first_is_found finds bytes are.0 are.1 t are.2) ∙ blank_found bytes blank in absurd cc

source_is_read : FindsSpelled → (bytes : List ℕ) (b : StatementBody) (p : Separator) (rest here : List ℕ) → behind_gap false bytes ≡ here → IsSource bytes b p rest → source_behind here bytes ≡ HasStatement b p rest
source_is_read finds bytes b p rest [] e is = absurd (blank_stands finds is.tokens bytes b p rest (none_is_blank bytes e) is.stand (statement_within is.tokens b p [] is.is is.within))
source_is_read finds bytes b p rest (c ∷ cs) e is = source_is_started finds bytes b p rest is

pub reads_source : FindsSpelled → (bytes : List ℕ) (b : StatementBody) (p : Separator) (rest : List ℕ) → (source_statement bytes ≡ HasStatement b p rest) ↔ IsSource bytes b p rest
reads_source finds bytes b p rest = (read_is_source finds bytes b p rest (behind_gap false bytes), source_is_read finds bytes b p rest (behind_gap false bytes) refl)

-- ---- nothing is left

token_some : (n : ℕ) (end : List ℕ) (at rest : List ℕ) (st : PlaceStep) → ((s : StatementPlace) → read_source n end s rest ≡ NothingLeft → ⊥) → after_token end at rest st (λ s. read_source n end s rest) ≡ NothingLeft → ⊥
token_some n end at rest (GoesTo next) each e = each next e
token_some n end at rest (Ends b p) each e = absurd cc
token_some n end at rest Fails each e = absurd cc

first_some : (n : ℕ) (end : List ℕ) (s : StatementPlace) (f : Front) → ((s : StatementPlace) (rest : List ℕ) → read_source n end s rest ≡ NothingLeft → ⊥) → with_first end s f (λ s rest. read_source n end s rest) ≡ NothingLeft → ⊥
first_some n end s (Begins t at rest) each e = elim (cases_Bool (fits_source end rest)) [
  | inl fit ↦ token_some n end at rest (place_within s t) (λ s. each s rest) (sym (cond-true (fits_source end rest) _ _ fit) ∙ e)
  | inr long ↦ let stop : Unreadable end ≡ NothingLeft = sym (cond-false (fits_source end rest) _ _ long) ∙ e in absurd cc
]
first_some n end s NoneLeft each e = absurd cc
first_some n end s (Stops from) each e = absurd cc

-- a statement that has begun is something
source_some : (n : ℕ) (end : List ℕ) (s : StatementPlace) (bytes : List ℕ) → read_source n end s bytes ≡ NothingLeft → ⊥
source_some zero end s bytes e = absurd cc
source_some (suc n) end s bytes e = first_some n end s (first_token bytes) (λ s rest. source_some n end s rest) e

nothing_is_blank : (bytes here : List ℕ) → behind_gap false bytes ≡ here → source_behind here bytes ≡ NothingLeft → IsBlankText bytes
nothing_is_blank bytes [] e nothing = none_is_blank bytes e
nothing_is_blank bytes (c ∷ cs) e nothing = absurd (source_some (suc (length bytes)) (past_longest bytes) Start bytes nothing)

pub finds_no_source : (bytes : List ℕ) → (source_statement bytes ≡ NothingLeft) ↔ IsBlankText bytes
finds_no_source bytes = (nothing_is_blank bytes (behind_gap false bytes) refl, λ blank. ap (λ (here : List ℕ). source_behind here bytes) (blank_is_none bytes blank))
