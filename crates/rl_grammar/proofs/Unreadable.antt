-- A text is unreadable exactly where no statement goes on.
use Rattle.std.proofs.Common.{◌≡◌, ◌↔◌, ℕ, zero, suc, ◌-◌, ◌<◌, ◌≤◌, Bool, true, false, ◌==◌, nat_le, List, [], ◌∷◌, ◌++◌, length, drop, refl, ap, sym, subst, ◌∙◌, inl, inr, arith}
use Rattle.std.proofs.lemmas.Bool.{cases_Bool, cond_both, cond-true, cond-false, leb-true, leb-false}
use Rattle.std.proofs.lemmas.List.{append-nil, length-append, length-drop, take_all}
use Rattle.rl_tree.specs.Bytes.{is_blank}
use Rattle.rl_text.specs.Gap.{IsBlankText}
use Rattle.rl_text.specs.Laws.{FindsSpelled, FindsNone}
use Rattle.rl_text.specs.Laws as text
use Rattle.rl_grammar.specs.Token.{Separator, Token}
use Rattle.rl_grammar.specs.Written.{IsFirst}
use Rattle.rl_grammar.specs.Lexer.{behind_gap, Front, Begins, NoneLeft, Stops, first_token}
use Rattle.rl_grammar.specs.Refusal.{IsBadAt}
use Rattle.rl_grammar.specs.Tree.{StatementBody}
use Rattle.rl_grammar.specs.Grammar.{IsStatement}
use Rattle.rl_grammar.specs.Statement.{StatementPlace, Start, PlaceStep, GoesTo, Ends, Fails, place_step, Result, Parsed, Syntax, after_place, run_place}
use Rattle.rl_grammar.specs.Nesting.{statement_nests}
use Rattle.rl_grammar.specs.Within.{place_within, place_run_within, parse_within}
use Rattle.rl_grammar.specs.Bound.{AllWithin, BeginsWithin}
use Rattle.rl_grammar.specs.Source.{longest, past_longest, AreTokensOfSource, IsPast, PastToken, PastByte, PastText, Ceases, NoPlace, NoToken, NoMore, TooLong, IsUnreadable}
use Rattle.rl_grammar.specs.SourceReader.{Unreadable, not_past, after_token, fits_source, with_first, read_source, source_started, source_behind, source_statement}
use Rattle.rl_grammar.proofs.Gaps.{none_is_blank, blank_is_none}
use Rattle.rl_grammar.proofs.Lexed.{first_is_found, found_is_first, none_found, blank_found}
use Rattle.rl_grammar.proofs.BadBytes.{stops_are_bad, stops_dropped}
use Rattle.rl_grammar.proofs.Bounded.{by_within}
use Rattle.rl_grammar.proofs.Whole.{statement_is_parsed}
use Rattle.rl_grammar.proofs.PrefixWithin.{within_statement, refused_at, shorter_begins, suffix, all_taken}
use Rattle.rl_grammar.proofs.Sources.{first_shorter, tokens_shorter, by_first, by_token, by_long, fits_from, fits_not, reads_source}

-- ---- tokens that all go on

-- what of these tokens is a front of a statement
begins_all : (ts : List Token) → place_run_within Start ts ≡ Syntax [] → BeginsWithin ts
begins_all ts goes =
    let refused = refused_at ts [] goes in
    subst (λ (front : List Token). BeginsWithin front) (take_all (length ts - 0) ts (omega arith)) refused.begins

-- with this token more they are none
begins_no_more : (ts : List Token) (t : Token) → place_run_within Start (ts ++ t ∷ []) ≡ Syntax (t ∷ []) → BeginsWithin (ts ++ t ∷ []) → ⊥
begins_no_more ts t fails begins =
    let refused = refused_at (ts ++ t ∷ []) (t ∷ []) fails in
    let sizes = length-append ts (t ∷ []) in
    refused.stops (omega arith) (subst (λ (front : List Token). BeginsWithin front) (sym (take_all (suc (length (ts ++ t ∷ []) - 1)) (ts ++ t ∷ []) (omega arith))) begins)

-- more tokens behind a statement
parsed_more : (s : StatementPlace) (ts more : List Token) (b : StatementBody) (p : Separator) (rest : List Token) → run_place s ts ≡ Parsed b p rest → run_place s (ts ++ more) ≡ Parsed b p (rest ++ more)
parsed_more s [] more b p rest e = absurd cc
parsed_more s (t ∷ ts) more b p rest e = step_more (place_step s t) e (λ next e. parsed_more next ts more b p rest e)
  where
    step_more : (st : PlaceStep) → after_place ts t st (λ s. run_place s ts) ≡ Parsed b p rest → ((next : StatementPlace) → run_place next ts ≡ Parsed b p rest → run_place next (ts ++ more) ≡ Parsed b p (rest ++ more)) → after_place (ts ++ more) t st (λ s. run_place s (ts ++ more)) ≡ Parsed b p (rest ++ more)
    step_more (GoesTo next) e each = each next e
    step_more (Ends c q) e each = let body : c ≡ b = cc in let separator : q ≡ p = cc in let left : ts ≡ rest = cc in rw (body, separator, left) refl
    step_more Fails e each = absurd cc

none_left : (left more : List Token) → left ++ more ≡ [] → left ≡ []
none_left [] more e = refl
none_left (t ∷ left) more e = absurd cc

-- a front of a statement that is none itself goes on to its end
all_go : (ts : List Token) → BeginsWithin ts → ((b : StatementBody) (p : Separator) → IsStatement ts b p [] → AllWithin (statement_nests b) → ⊥) → parse_within ts ≡ Syntax []
all_go ts begins none = all_went (parse_within ts) refl
  where
    whole : (b : StatementBody) (p : Separator) (left : List Token) → IsStatement ts b p left → left ≡ []
    whole b p left is =
        let one = parsed_more Start ts begins.more b p left (statement_is_parsed ts b p left is) in
        let other = statement_is_parsed (ts ++ begins.more) begins.tree begins.separator [] begins.is in
        none_left left begins.more (let same : Parsed b p (left ++ begins.more) ≡ Parsed begins.tree begins.separator [] = sym one ∙ other in cc)

    all_went : (r : Result) → parse_within ts ≡ r → r ≡ Syntax []
    all_went (Parsed b p left) e =
        let both = within_statement ts b p left e in
        absurd (none b p (subst (λ (left : List Token). IsStatement ts b p left) (whole b p left both.0) both.0) both.1)
    all_went (Syntax []) e = refl
    all_went (Syntax (u ∷ us)) e =
        let refused = refused_at ts (u ∷ us) e in
        let most = suffix ts Start (u ∷ us) e in
        let all = take_all (length ts) ts (omega arith) in
        absurd (refused.stops (omega arith) (shorter_begins ts (suc (length ts - length (u ∷ us))) (length ts) (omega arith) (subst (λ (front : List Token). BeginsWithin front) (sym all) begins)))

-- ---- where reading ceases

-- why it ceases at a place, and the bytes from the one on that is refused
data CeasesAt (end : List ℕ) (s : StatementPlace) (after from : List ℕ) : Type 0 where
  NoPlaceAt : (t : Token) (rest : List ℕ) → IsFirst t after from rest → length end ≤ length rest → place_within s t ≡ Fails → CeasesAt end s after from
  NoTokenAt : (k : ℕ) → IsBadAt after k → from ≡ drop k after → length end ≤ length from → CeasesAt end s after from
  NoMoreAt : IsBlankText after → end ≡ [] → from ≡ [] → CeasesAt end s after from
  TooLongAt : IsPast end after → from ≡ end → CeasesAt end s after from

-- tokens that go on, and where reading ceases behind them
record Ceased (end : List ℕ) (s : StatementPlace) (bytes from : List ℕ) : Type 0 where
  tokens : List Token
  after : List ℕ
  stand : AreTokensOfSource tokens bytes after
  at : StatementPlace
  goes : (more : List Token) → place_run_within s (tokens ++ more) ≡ place_run_within at more
  short : length end ≤ length after
  ceases : CeasesAt end at after from

ceased_here : (end : List ℕ) (s : StatementPlace) (bytes from : List ℕ) → length end ≤ length bytes → CeasesAt end s bytes from → Ceased end s bytes from
ceased_here end s bytes from short ceases = record { tokens = []; after = bytes; stand = refl; at = s; goes = λ more. refl; short = short; ceases = ceases }

abbrev EachCeases : ℕ → List ℕ → List ℕ → List ℕ → Type 0
EachCeases n end rest from = (s : StatementPlace) → read_source n end s rest ≡ Unreadable from → Ceased end s rest from

token_ceases : (n : ℕ) (end : List ℕ) (s : StatementPlace) (bytes from : List ℕ) (t : Token) (at rest : List ℕ) (st : PlaceStep) → IsFirst t bytes at rest → length end ≤ length rest → length end ≤ length bytes → place_within s t ≡ st → after_token end at rest st (λ s. read_source n end s rest) ≡ Unreadable from → EachCeases n end rest from → Ceased end s bytes from
token_ceases n end s bytes from t at rest (GoesTo next) first fit short step e each =
    let more = each next e in
    record {
      tokens = t ∷ more.tokens;
      after = more.after;
      stand = (at, rest, first, more.stand);
      at = more.at;
      goes = λ others. by_within s t (more.tokens ++ others) (GoesTo next) step ∙ more.goes others;
      short = more.short;
      ceases = more.ceases;
    }
token_ceases n end s bytes from t at rest (Ends c q) first fit short step e each = absurd cc
token_ceases n end s bytes from t at rest Fails first fit short step e each =
    let is : at ≡ from = cc in
    ceased_here end s bytes from short (NoPlaceAt t rest (subst (λ (at : List ℕ). IsFirst t bytes at rest) is first) fit step)

-- a byte or the end of the text, before the end of the longest statement or past it
not_past_is : (end from here : List ℕ) → Unreadable (not_past end here) ≡ Unreadable from → not_past end here ≡ from
not_past_is end from here e = cc

bad_ceases : (end : List ℕ) (s : StatementPlace) (bytes from here : List ℕ) (k : ℕ) → length end ≤ length bytes → IsBadAt bytes k → here ≡ drop k bytes → not_past end here ≡ from → Ceased end s bytes from
bad_ceases end s bytes from here k short bad is e = elim (cases_Bool (nat_le (length end) (length here))) [
  | inl before ↦
      let same : here ≡ from = sym (cond-true (nat_le (length end) (length here)) _ _ before) ∙ e in
      let fit = leb-true (length end) (length here) before in
      ceased_here end s bytes from short (NoTokenAt k bad (sym same ∙ is) (subst (λ (xs : List ℕ). length end ≤ length xs) same fit))
  | inr past ↦
      let same : end ≡ from = sym (cond-false (nat_le (length end) (length here)) _ _ past) ∙ e in
      let long = leb-false (length end) (length here) past in
      ceased_here end s bytes from short (TooLongAt (PastByte k bad (subst (λ (xs : List ℕ). length xs < length end) is long)) (sym same))
]

no_bytes : (xs : List ℕ) → length xs ≤ 0 → xs ≡ []
no_bytes [] e = refl
no_bytes (x ∷ xs) e = absurd (omega arith)

blank_ceases : (end : List ℕ) (s : StatementPlace) (bytes from : List ℕ) → length end ≤ length bytes → IsBlankText bytes → not_past end [] ≡ from → Ceased end s bytes from
blank_ceases end s bytes from short blank e = elim (cases_Bool (nat_le (length end) 0)) [
  | inl before ↦
      let same : [] ≡ from = sym (cond-true (nat_le (length end) 0) _ _ before) ∙ e in
      ceased_here end s bytes from short (NoMoreAt blank (no_bytes end (leb-true (length end) 0 before)) (sym same))
  | inr past ↦
      let same : end ≡ from = sym (cond-false (nat_le (length end) 0) _ _ past) ∙ e in
      ceased_here end s bytes from short (TooLongAt (PastText blank (leb-false (length end) 0 past)) (sym same))
]

first_ceases : FindsSpelled → FindsNone → text.RefusesFirst → (n : ℕ) (end : List ℕ) (s : StatementPlace) (bytes from : List ℕ) (f : Front) → length end ≤ length bytes → first_token bytes ≡ f → with_first end s f (λ s rest. read_source n end s rest) ≡ Unreadable from → ((rest : List ℕ) → length end ≤ length rest → length rest < length bytes → EachCeases n end rest from) → Ceased end s bytes from
first_ceases finds blank refuses n end s bytes from (Begins t at rest) short found e each =
    let first = found_is_first finds bytes at rest t found in
    elim (cases_Bool (fits_source end rest)) [
      | inl fit ↦
          let room = leb-true (length end) (length rest) fit in
          token_ceases n end s bytes from t at rest (place_within s t) first room short refl (sym (cond-true (fits_source end rest) _ _ fit) ∙ e) (each rest room (first_shorter t bytes at rest first))
      | inr long ↦
          let stop : Unreadable end ≡ Unreadable from = sym (cond-false (fits_source end rest) _ _ long) ∙ e in
          let same : end ≡ from = cc in
          ceased_here end s bytes from short (TooLongAt (PastToken t at rest first (leb-false (length end) (length rest) long)) (sym same))
    ]
first_ceases finds blank refuses n end s bytes from NoneLeft short found e each = blank_ceases end s bytes from short (none_found bytes found) (not_past_is end from [] e)
first_ceases finds blank refuses n end s bytes from (Stops here) short found e each =
    let bad = (stops_are_bad finds blank refuses bytes (length bytes - length here)).0 (here, found, refl) in
    bad_ceases end s bytes from here (length bytes - length here) short bad (stops_dropped finds blank refuses bytes here found) (not_past_is end from here e)

source_ceases : FindsSpelled → FindsNone → text.RefusesFirst → (n : ℕ) (end : List ℕ) (s : StatementPlace) (bytes from : List ℕ) → length end ≤ length bytes → length bytes < n → read_source n end s bytes ≡ Unreadable from → Ceased end s bytes from
source_ceases finds blank refuses zero end s bytes from short enough e = absurd (omega arith)
source_ceases finds blank refuses (suc n) end s bytes from short enough e =
    first_ceases finds blank refuses n end s bytes from (first_token bytes) short refl e (λ rest room less s e. source_ceases finds blank refuses n end s rest from room (omega arith) e)

-- ---- what is refused is unreadable

ceases_of : (end : List ℕ) (ts : List Token) (at : StatementPlace) (after from : List ℕ) → ((more : List Token) → place_run_within Start (ts ++ more) ≡ place_run_within at more) → CeasesAt end at after from → Ceases end ts after from
ceases_of end ts at after from goes (NoPlaceAt t rest first fit fails) = NoPlace t rest first fit (begins_no_more ts t (goes (t ∷ []) ∙ by_within at t [] Fails fails))
ceases_of end ts at after from goes (NoTokenAt k bad is fit) = NoToken k bad is fit
ceases_of end ts at after from goes (NoMoreAt blank none is) = NoMore blank none is
ceases_of end ts at after from goes (TooLongAt past is) = TooLong past is

behind_shorter : (inside : Bool) (bytes : List ℕ) → length (behind_gap inside bytes) ≤ length bytes
behind_shorter inside [] = omega arith
behind_shorter true (b ∷ bs) = let more = behind_shorter false bs in let same = behind_shorter true bs in cond_both (b == 10) (behind_gap false bs) (behind_gap true bs) (λ xs. length xs ≤ length (b ∷ bs)) (λ e. omega arith) (λ e. omega arith)
behind_shorter false (b ∷ bs) =
    let more = behind_shorter false bs in
    let same = behind_shorter true bs in
    cond_both (is_blank b) (behind_gap false bs) _ (λ xs. length xs ≤ length (b ∷ bs)) (λ e. omega arith)
    (λ e. cond_both (b == 37) (behind_gap true bs) (b ∷ bs) (λ xs. length xs ≤ length (b ∷ bs)) (λ e. omega arith) (λ e. omega arith))

-- no more bytes are past the longest statement than there are
past_shorter : (bytes : List ℕ) → length (past_longest bytes) ≤ length bytes
past_shorter bytes =
    let part = length-drop longest (behind_gap false bytes) in
    let less = behind_shorter false bytes in
    omega arith

refused_is_unreadable : FindsSpelled → FindsNone → text.RefusesFirst → (bytes from here : List ℕ) → behind_gap false bytes ≡ here → source_behind here bytes ≡ Unreadable from → IsUnreadable bytes from
refused_is_unreadable finds blank refuses bytes from [] is e = absurd cc
refused_is_unreadable finds blank refuses bytes from (b ∷ bs) is e =
    let c = source_ceases finds blank refuses (suc (length bytes)) (past_longest bytes) Start bytes from (past_shorter bytes) (omega arith) e in
    record {
      none = λ d p rest source. let read = (reads_source finds bytes d p rest).1 source in let same = ap (λ (here : List ℕ). source_behind here bytes) is in absurd cc;
      some = λ is_blank. let none = blank_is_none bytes is_blank in absurd cc;
      tokens = c.tokens;
      after = c.after;
      stand = c.stand;
      begins = begins_all c.tokens (subst (λ (ts : List Token). place_run_within Start ts ≡ Syntax []) (append-nil c.tokens) (c.goes []));
      short = c.short;
      ceases = ceases_of (past_longest bytes) c.tokens c.at c.after from c.goes c.ceases;
    }

-- ---- what is unreadable is refused

-- where reading has come behind these tokens
record Reaches (n : ℕ) (end : List ℕ) (s : StatementPlace) (bytes : List ℕ) (ts : List Token) (after : List ℕ) : Type 0 where
  count : ℕ
  at : StatementPlace
  read : read_source n end s bytes ≡ read_source count end at after
  enough : length after < count
  goes : (more : List Token) → place_run_within s (ts ++ more) ≡ place_run_within at more

token_reaches : (st : PlaceStep) (n : ℕ) (end : List ℕ) (s : StatementPlace) (bytes : List ℕ) (t : Token) (ts : List Token) (at rest after : List ℕ) → place_within s t ≡ st → first_token bytes ≡ Begins t at rest → fits_source end rest ≡ true → place_run_within s (t ∷ ts) ≡ Syntax [] → ((next : StatementPlace) → place_run_within next ts ≡ Syntax [] → Reaches n end next rest ts after) → Reaches (suc n) end s bytes (t ∷ ts) after
token_reaches (GoesTo next) n end s bytes t ts at rest after step found fit goes each =
    let more = each next (sym (by_within s t ts (GoesTo next) step) ∙ goes) in
    record {
      count = more.count;
      at = more.at;
      read = by_token n end s bytes t at rest (GoesTo next) found fit step ∙ more.read;
      enough = more.enough;
      goes = λ others. by_within s t (ts ++ others) (GoesTo next) step ∙ more.goes others;
    }
token_reaches (Ends c q) n end s bytes t ts at rest after step found fit goes each = absurd (let whole = sym (by_within s t ts (Ends c q) step) ∙ goes in cc)
token_reaches Fails n end s bytes t ts at rest after step found fit goes each = absurd (let refused = sym (by_within s t ts Fails step) ∙ goes in cc)

tokens_reach : FindsSpelled → (ts : List Token) (n : ℕ) (end : List ℕ) (s : StatementPlace) (bytes after : List ℕ) → AreTokensOfSource ts bytes after → place_run_within s ts ≡ Syntax [] → length end ≤ length after → length bytes < n → Reaches n end s bytes ts after
tokens_reach finds [] n end s bytes after are goes short enough = record {
  count = n;
  at = s;
  read = ap (λ (bytes : List ℕ). read_source n end s bytes) are;
  enough = let same = ap length are in omega arith;
  goes = λ more. refl;
}
tokens_reach finds (t ∷ ts) zero end s bytes after are goes short enough = absurd (omega arith)
tokens_reach finds (t ∷ ts) (suc n) end s bytes after are goes short enough =
    let less = tokens_shorter ts are.1 after are.3 in
    let one = first_shorter t bytes are.0 are.1 are.2 in
    let fit = fits_from end are.1 (omega arith) in
    let small : length are.1 < n = omega arith in
    token_reaches (place_within s t) n end s bytes t ts are.0 are.1 after refl (first_is_found finds bytes are.0 are.1 t are.2) fit goes
    (λ next goes. tokens_reach finds ts n end next are.1 after are.3 goes short small)

-- a token with which no statement goes on leads nowhere
step_fails : (ts : List Token) (t : Token) (at : StatementPlace) (st : PlaceStep) → ((more : List Token) → place_run_within Start (ts ++ more) ≡ place_run_within at more) → place_within at t ≡ st → (BeginsWithin (ts ++ t ∷ []) → ⊥) → st ≡ Fails
step_fails ts t at (GoesTo next) goes step none = absurd (none (begins_all (ts ++ t ∷ []) (goes (t ∷ []) ∙ by_within at t [] (GoesTo next) step)))
step_fails ts t at (Ends c q) goes step none =
    let both = within_statement (ts ++ t ∷ []) c q [] (goes (t ∷ []) ∙ by_within at t [] (Ends c q) step) in
    absurd (none (record {
      more = [];
      tree = c;
      separator = q;
      is = subst (λ (front : List Token). IsStatement front c q []) (sym (append-nil (ts ++ t ∷ []))) both.0;
      within = all_taken (length (ts ++ t ∷ [])) (statement_nests c) both.1;
    }))
step_fails ts t at Fails goes step none = refl

stops_with : FindsSpelled → FindsNone → text.RefusesFirst → (n : ℕ) (end : List ℕ) (at : StatementPlace) (after here : List ℕ) (k : ℕ) → IsBadAt after k → here ≡ drop k after → read_source (suc n) end at after ≡ Unreadable (not_past end here)
stops_with finds blank refuses n end at after here k bad is =
    let stop = (stops_are_bad finds blank refuses after k).1 bad in
    let place : stop.0 ≡ here = stops_dropped finds blank refuses after stop.0 stop.1 ∙ ap (λ (n : ℕ). drop n after) (sym stop.2) ∙ sym is in
    by_first n end at after (Stops stop.0) stop.1 ∙ ap (λ (xs : List ℕ). Unreadable (not_past end xs)) place

pub not_past_before : (end here : List ℕ) → length end ≤ length here → not_past end here ≡ here
not_past_before end here fit = cond-true (nat_le (length end) (length here)) _ _ (fits_from end here fit)

pub not_past_behind : (end here : List ℕ) → length here < length end → not_past end here ≡ end
not_past_behind end here long = cond-false (nat_le (length end) (length here)) _ _ (fits_not end here long)

past_refused : FindsSpelled → FindsNone → text.RefusesFirst → (n : ℕ) (end : List ℕ) (at : StatementPlace) (after : List ℕ) → IsPast end after → read_source (suc n) end at after ≡ Unreadable end
past_refused finds blank refuses n end at after (PastToken t here rest first long) = by_long n end at after t here rest (first_is_found finds after here rest t first) (fits_not end rest long)
past_refused finds blank refuses n end at after (PastByte k bad long) = stops_with finds blank refuses n end at after (drop k after) k bad refl ∙ ap Unreadable (not_past_behind end (drop k after) long)
past_refused finds blank refuses n end at after (PastText is_blank long) = by_first n end at after NoneLeft (blank_found after is_blank) ∙ ap Unreadable (not_past_behind end [] long)

ceases_refused : FindsSpelled → FindsNone → text.RefusesFirst → (n : ℕ) (end : List ℕ) (ts : List Token) (at : StatementPlace) (after from : List ℕ) → ((more : List Token) → place_run_within Start (ts ++ more) ≡ place_run_within at more) → Ceases end ts after from → read_source (suc n) end at after ≡ Unreadable from
ceases_refused finds blank refuses n end ts at after from goes (NoPlace t rest first fit none) =
    by_token n end at after t from rest Fails (first_is_found finds after from rest t first) (fits_from end rest fit) (step_fails ts t at (place_within at t) goes refl none)
ceases_refused finds blank refuses n end ts at after from goes (NoToken k bad is fit) = stops_with finds blank refuses n end at after from k bad is ∙ ap Unreadable (not_past_before end from fit)
ceases_refused finds blank refuses n end ts at after from goes (NoMore is_blank none is) =
    by_first n end at after NoneLeft (blank_found after is_blank) ∙ ap Unreadable (ap (λ (end : List ℕ). not_past end []) none ∙ sym is)
ceases_refused finds blank refuses n end ts at after from goes (TooLong past is) = past_refused finds blank refuses n end at after past ∙ ap Unreadable (sym is)

counted_refused : FindsSpelled → FindsNone → text.RefusesFirst → (n : ℕ) (end : List ℕ) (ts : List Token) (at : StatementPlace) (after from : List ℕ) → length after < n → ((more : List Token) → place_run_within Start (ts ++ more) ≡ place_run_within at more) → Ceases end ts after from → read_source n end at after ≡ Unreadable from
counted_refused finds blank refuses zero end ts at after from enough goes ceases = absurd (omega arith)
counted_refused finds blank refuses (suc n) end ts at after from enough goes ceases = ceases_refused finds blank refuses n end ts at after from goes ceases

unreadable_is_started : FindsSpelled → FindsNone → text.RefusesFirst → (bytes from : List ℕ) → IsUnreadable bytes from → source_started bytes ≡ Unreadable from
unreadable_is_started finds blank refuses bytes from u =
    let goes = all_go u.tokens u.begins (λ b p is within. u.none b p u.after (record { tokens = u.tokens; stand = u.stand; is = is; within = within; short = u.short })) in
    let r = tokens_reach finds u.tokens (suc (length bytes)) (past_longest bytes) Start bytes u.after u.stand goes u.short (omega arith) in
    r.read ∙ counted_refused finds blank refuses r.count (past_longest bytes) u.tokens r.at u.after from r.enough r.goes u.ceases

unreadable_is_refused : FindsSpelled → FindsNone → text.RefusesFirst → (bytes from here : List ℕ) → behind_gap false bytes ≡ here → IsUnreadable bytes from → source_behind here bytes ≡ Unreadable from
unreadable_is_refused finds blank refuses bytes from [] is u = absurd (u.some (none_is_blank bytes is))
unreadable_is_refused finds blank refuses bytes from (b ∷ bs) is u = unreadable_is_started finds blank refuses bytes from u

pub refuses_source : FindsSpelled → FindsNone → text.RefusesFirst → (bytes from : List ℕ) → (source_statement bytes ≡ Unreadable from) ↔ IsUnreadable bytes from
refuses_source finds blank refuses bytes from =
    (refused_is_unreadable finds blank refuses bytes from (behind_gap false bytes) refl, unreadable_is_refused finds blank refuses bytes from (behind_gap false bytes) refl)
