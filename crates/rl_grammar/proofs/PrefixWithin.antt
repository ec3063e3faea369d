-- Where tokens are refused with bounded nesting, those before that place are the front of a statement that is within the bound there, and with the token there they are of none.
use Rattle.std.proofs.Common.{◌≡◌, ◌↔◌, ℕ, suc, ◌+◌, ◌-◌, ◌<◌, ◌≤◌, true, List, [], ◌∷◌, ◌++◌, length, take, drop, refl, ap, sym, subst, ◌∙◌, arith, append_assoc}
use Rattle.std.proofs.lemmas.Bool.{and_parts, and_from}
use Rattle.std.proofs.lemmas.List.{take-append-drop, take-take, length-append, take_at}
use Rattle.rl_grammar.specs.Token.{Separator, Semicolon, Token}
use Rattle.rl_grammar.specs.Tree.{StatementBody}
use Rattle.rl_grammar.specs.Grammar.{IsStatement}
use Rattle.rl_grammar.specs.Parser.{ParserFrame, AtName, is_colon}
use Rattle.rl_grammar.specs.Statement.{StatementPlace, Start, Inside, PlaceStep, GoesTo, Ends, Fails, place_step, Result, Parsed, Syntax, after_place, run_place}
use Rattle.rl_grammar.specs.Nesting.{statement_nests}
use Rattle.rl_grammar.specs.Within.{nesting, place_within, place_run_within, parse_within}
use Rattle.rl_grammar.specs.Bound.{AllWithin, BeginsWithin, IsRefusedWithin}
use Rattle.rl_grammar.proofs.Deep.{name_depth}
use Rattle.rl_grammar.proofs.Counted.{told_place, owed, known_behind, known, statement_is_known}
use Rattle.rl_grammar.proofs.Bounded.{small, Low, Passes, Taken, Passed, Ended, Failed, token_taken, by_step, by_within, known_by, all_parts, all_from, owed_small, owed_admits, told_small, taken, ends_within, name_low, parsed_within, within_parsed}
use Rattle.rl_grammar.proofs.Whole.{parsed_is_statement, statement_is_parsed, LabelsPlace, place_live}
use Rattle.rl_grammar.proofs.OnePlace.{one_place}

-- ---- so many of the numbers belong to the tokens that were taken

-- what is open about the last token stands before those
abbrev held : StatementPlace → ℕ → ℕ
held (Inside b (AtName fs g ps ls x)) n = suc n
held s n = n

take_told : (next : StatementPlace) (n : ℕ) (ns : List ℕ) → take (suc n) (told_place next ns) ≡ told_place next (take (held next n) ns)
take_told (Inside b (AtName fs g ps ls x)) n ns = refl
take_told (Inside b s) n ns = refl
take_told s n ns = refl

take_owed : (s : StatementPlace) (t : Token) (n : ℕ) (ns : List ℕ) → take (held s (suc n)) (owed s t ++ ns) ≡ owed s t ++ take (suc n) ns
take_owed (Inside b (AtName fs g ps ls x)) t n ns = refl
take_owed s t n ns = refl

take_known : (s : StatementPlace) (t : Token) (next : StatementPlace) (n : ℕ) (ns : List ℕ) → take (held s (suc n)) (owed s t ++ told_place next ns) ≡ owed s t ++ told_place next (take (held next n) ns)
take_known s t next n ns = take_owed s t n (told_place next ns) ∙ ap (λ (ns : List ℕ). owed s t ++ ns) (take_told next n ns)

-- where a label is made of the last token, what is known of it is within the bound
colon_small : (fs : List ParserFrame) (t : Token) → is_colon t ≡ true → small (nesting fs) ≡ true → small (name_depth fs t) ≡ true
colon_small fs t colon low = rw colon low

none_taken : (s : StatementPlace) (more : List Token) → Low s → LabelsPlace s more → AllWithin (take (held s 0) (known s more))
none_taken (Inside b (AtName fs g ps ls x)) [] low labels = absurd labels
none_taken (Inside b (AtName fs g ps ls x)) (t ∷ ts) low labels = and_from _ _ (colon_small fs t labels low) refl
none_taken s more low labels = refl

-- ---- tokens in front of the refused one

-- all the tokens in front go on, whatever follows them, and are within the bound; and the token behind them is refused, whatever follows it
record Stops (s : StatementPlace) (ts from : List Token) : Type 0 where
  front : List Token
  is : ts ≡ front ++ from
  at : StatementPlace
  goes : (more : List Token) → run_place s (front ++ more) ≡ run_place at more
  through : (more : List Token) → place_run_within s (front ++ more) ≡ place_run_within at more
  within : (more : List Token) → LabelsPlace at more → AllWithin (take (held s (length front)) (known s (front ++ more)))
  refuses : (t : Token) (others more : List Token) → from ≡ t ∷ others → place_run_within at (t ∷ more) ≡ Syntax (t ∷ more)

one_more : (s : StatementPlace) (t : Token) (next : StatementPlace) (n : ℕ) (ts : List Token) → Low s → Passes s t next → AllWithin (take (held next n) (known next ts)) → AllWithin (take (held s (suc n)) (known s (t ∷ ts)))
one_more s t next n ts low passes all =
    rw (known_by s t ts (GoesTo next) passes.goes, take_known s t next n (known next ts))
    (all_from (owed s t) _ (owed_small s t low passes.admitted) (told_small next (take (held next n) (known next ts)) passes.low all))

stops_here : (s : StatementPlace) (t : Token) (ts from : List Token) → Low s → place_within s t ≡ Fails → place_run_within s (t ∷ ts) ≡ Syntax from → Stops s (t ∷ ts) from
stops_here s t ts from low e refused =
    let stop = sym (by_within s t ts Fails e) ∙ refused in
    let is : t ∷ ts ≡ from = cc in
    record {
      front = [];
      is = is;
      at = s;
      goes = λ more. refl;
      through = λ more. refl;
      within = λ more labels. none_taken s more low labels;
      refuses = λ u others more same. let first : u ≡ t = cc in rw first (by_within s t more Fails e);
    }

stops_after : (s : StatementPlace) (t : Token) (ts from : List Token) → Low s → Taken s t → place_run_within s (t ∷ ts) ≡ Syntax from → ((next : StatementPlace) → Low next → place_run_within next ts ≡ Syntax from → Stops next ts from) → Stops s (t ∷ ts) from
stops_after s t ts from low (Passed next passes e) refused each =
    let stops = each next passes.low (sym (by_within s t ts (GoesTo next) e) ∙ refused) in
    record {
      front = t ∷ stops.front;
      is = ap (λ (xs : List Token). t ∷ xs) stops.is;
      at = stops.at;
      goes = λ more. by_step s t (stops.front ++ more) (GoesTo next) passes.goes ∙ stops.goes more;
      through = λ more. by_within s t (stops.front ++ more) (GoesTo next) e ∙ stops.through more;
      within = λ more labels. one_more s t next (length stops.front) (stops.front ++ more) low passes (stops.within more labels);
      refuses = stops.refuses;
    }
stops_after s t ts from low (Ended b p admitted ends e) refused each = absurd (let parsed = sym (by_within s t ts (Ends b p) e) ∙ refused in cc)
stops_after s t ts from low (Failed e) refused each = stops_here s t ts from low e refused

stops : (ts : List Token) (s : StatementPlace) (from : List Token) → Low s → place_run_within s ts ≡ Syntax from → Stops s ts from
stops [] s from low refused =
    let none : from ≡ [] = cc in
    record {
      front = [];
      is = sym none;
      at = s;
      goes = λ more. refl;
      through = λ more. refl;
      within = λ more labels. none_taken s more low labels;
      refuses = λ t others more e. absurd cc;
    }
stops (t ∷ ts) s from low refused = stops_after s t ts from low (token_taken s t) refused (λ next low refused. stops ts next from low refused)

-- the tokens that go on are the front of a statement
front_begins : (ts from : List Token) (s : Stops Start ts from) → BeginsWithin s.front
front_begins ts from s =
    let l = place_live s.at in
    let read = s.goes l.tokens ∙ l.read in
    record {
      more = l.tokens;
      tree = l.body;
      separator = Semicolon;
      is = parsed_is_statement (s.front ++ l.tokens) l.body Semicolon [] read;
      within = subst (λ (ns : List ℕ). AllWithin (take (length s.front) ns)) (statement_is_known (s.front ++ l.tokens) l.body Semicolon [] read) (s.within l.tokens l.labels);
    }

-- ---- no token of such a front is refused

suffix_after : (s : StatementPlace) (t : Token) (ts from : List Token) → Taken s t → place_run_within s (t ∷ ts) ≡ Syntax from → ((next : StatementPlace) → place_run_within next ts ≡ Syntax from → length from ≤ length ts) → length from ≤ length (t ∷ ts)
suffix_after s t ts from (Passed next passes e) refused each = let most = each next (sym (by_within s t ts (GoesTo next) e) ∙ refused) in omega arith
suffix_after s t ts from (Ended b p admitted ends e) refused each = absurd (let parsed = sym (by_within s t ts (Ends b p) e) ∙ refused in cc)
suffix_after s t ts from (Failed e) refused each =
    let stop = sym (by_within s t ts Fails e) ∙ refused in
    let is : t ∷ ts ≡ from = cc in
    let same = ap length is in omega arith

pub suffix : (ts : List Token) (s : StatementPlace) (from : List Token) → place_run_within s ts ≡ Syntax from → length from ≤ length ts
suffix [] s from refused = let none : from ≡ [] = cc in rw none (omega arith)
suffix (t ∷ ts) s from refused = suffix_after s t ts from (token_taken s t) refused (λ next refused. suffix ts next from refused)

low_taken : (next : StatementPlace) (n : ℕ) (ts : List Token) (b : StatementBody) (p : Separator) (rest : List Token) → run_place next ts ≡ Parsed b p rest → AllWithin (told_place next (take (held next n) (known next ts))) → Low next
low_taken (Inside c (AtName fs g ps ls x)) n [] b p rest e all = absurd cc
low_taken (Inside c (AtName fs g ps ls x)) n (t ∷ ts) b p rest e all = name_low fs t (and_parts _ _ all).0
low_taken (Inside c s) n ts b p rest e all = (and_parts _ _ all).0
low_taken s n ts b p rest e all = tt

untold : (s : StatementPlace) (ns : List ℕ) → AllWithin (told_place s ns) → AllWithin ns
untold (Inside b (AtName fs g ps ls x)) ns all = all
untold (Inside b s) ns all = (and_parts _ _ all).1
untold s ns all = all

owed_taken : (s : StatementPlace) (t : Token) (n : ℕ) (ns : List ℕ) → AllWithin (take (held s (suc n)) (owed s t ++ ns)) → AllWithin (owed s t)
owed_taken s t n ns all = (all_parts (owed s t) (take (suc n) ns) (rw (take_owed s t n ns) at all)).0

abbrev Later : List Token → List Token → List Token → StatementBody → Separator → List Token → Type 0
Later front more from b p rest = (s : StatementPlace) → run_place s (front ++ more) ≡ Parsed b p rest → AllWithin (take (held s (length front)) (known s (front ++ more))) → place_run_within s (front ++ more) ≡ Syntax from → length from ≤ length more

later_after : (s : StatementPlace) (t : Token) (front more from : List Token) (b : StatementBody) (p : Separator) (rest : List Token) (st : PlaceStep) → place_step s t ≡ st → after_place (front ++ more) t st (λ s. run_place s (front ++ more)) ≡ Parsed b p rest → AllWithin (take (held s (suc (length front))) (owed s t ++ known_behind st (λ s. known s (front ++ more)))) → place_run_within s (t ∷ (front ++ more)) ≡ Syntax from → Later front more from b p rest → length from ≤ length more
later_after s t front more from b p rest (GoesTo next) goes parsed all refused each =
    let parts = all_parts (owed s t) (told_place next (take (held next (length front)) (known next (front ++ more)))) (rw (take_known s t next (length front) (known next (front ++ more))) at all) in
    let low = low_taken next (length front) (front ++ more) b p rest parsed parts.1 in
    let on = by_within s t (front ++ more) (GoesTo next) (taken s t next (owed_admits s t parts.0) goes low) in
    each next parsed (untold next _ parts.1) (sym on ∙ refused)
later_after s t front more from b p rest (Ends c q) ends parsed all refused each =
    let admitted = owed_admits s t (owed_taken s t (length front) (0 ∷ []) all) in
    absurd (let whole = sym (by_within s t (front ++ more) (Ends c q) (ends_within s t c q admitted ends)) ∙ refused in cc)
later_after s t front more from b p rest Fails fails parsed all refused each = absurd cc

later : (front more from : List Token) (b : StatementBody) (p : Separator) (rest : List Token) → Later front more from b p rest
later [] more from b p rest s parsed all refused = suffix more s from refused
later (t ∷ front) more from b p rest s parsed all refused = later_after s t front more from b p rest (place_step s t) refl parsed all refused (later front more from b p rest)

-- with the token that is refused they are of none
none_further : (ts : List Token) (t : Token) (others : List Token) (s : Stops Start ts (t ∷ others)) → BeginsWithin (s.front ++ t ∷ []) → ⊥
none_further ts t others s begins =
    let front : List Token = s.front ++ t ∷ [] in
    let parsed = statement_is_parsed (front ++ begins.more) begins.tree begins.separator [] begins.is in
    let known_is = statement_is_known (front ++ begins.more) begins.tree begins.separator [] parsed in
    let all = subst (λ (ns : List ℕ). AllWithin (take (length front) ns)) (sym known_is) begins.within in
    let same = append_assoc s.front (t ∷ []) begins.more in
    let refused : place_run_within Start (front ++ begins.more) ≡ Syntax (t ∷ begins.more) = rw same (s.through (t ∷ begins.more) ∙ s.refuses t others begins.more refl) in
    let most = later front begins.more (t ∷ begins.more) begins.tree begins.separator [] Start parsed all refused in
    absurd (omega arith)

-- ---- one place

take_all : (ns : List ℕ) (i j : ℕ) → i ≤ j → AllWithin (take j ns) → AllWithin (take i ns)
take_all ns i j below all =
    let part = take-append-drop i (take j ns) in
    let split = all_parts (take i (take j ns)) (drop i (take j ns)) (subst (λ (ns : List ℕ). AllWithin ns) (sym part) all) in
    subst (λ (ns : List ℕ). AllWithin ns) (take-take i j ns below) split.0

pub all_taken : (i : ℕ) (ns : List ℕ) → AllWithin ns → AllWithin (take i ns)
all_taken i ns all = (all_parts (take i ns) (drop i ns) (subst (λ (ns : List ℕ). AllWithin ns) (sym (take-append-drop i ns)) all)).0

-- a shorter front of a statement is one
pub shorter_begins : (ts : List Token) (j k : ℕ) → j ≤ k → BeginsWithin (take k ts) → BeginsWithin (take j ts)
shorter_begins ts j k below begins =
    let part = take-append-drop j (take k ts) in
    let front = take-take j k ts below in
    let same : take j ts ++ (drop j (take k ts) ++ begins.more) ≡ take k ts ++ begins.more = sym (append_assoc (take j ts) (drop j (take k ts)) begins.more) ∙ cc in
    let less : length (take j ts) ≤ length (take k ts) = (let whole = ap length part in let parts = length-append (take j (take k ts)) (drop j (take k ts)) in let same_front = ap length front in omega arith) in
    record {
      more = drop j (take k ts) ++ begins.more;
      tree = begins.tree;
      separator = begins.separator;
      is = rw same begins.is;
      within = take_all (statement_nests begins.tree) (length (take j ts)) (length (take k ts)) less begins.within;
    }

-- tokens are refused at one place
not_before : (ts : List Token) (j k : ℕ) → IsRefusedWithin ts j → IsRefusedWithin ts k → j < k → ⊥
not_before ts j k first second below =
    let within = second.within in
    first.stops (omega arith) (shorter_begins ts (suc j) k (omega arith) second.begins)

same_place : (ts : List Token) (j k : ℕ) → IsRefusedWithin ts j → IsRefusedWithin ts k → j ≡ k
same_place ts j k first second = one_place (λ i. IsRefusedWithin ts i) (not_before ts) j k first second

stops_at : (ts from : List Token) (s : Stops Start ts from) → length s.front < length (s.front ++ from) → BeginsWithin (take (suc (length s.front)) (s.front ++ from)) → ⊥
stops_at ts [] s more begins = absurd (let e = length-append s.front [] in omega arith)
stops_at ts (t ∷ others) s more begins =
    let e : take (suc (length s.front)) (s.front ++ t ∷ others) ≡ s.front ++ t ∷ [] = rw (← append_assoc s.front (t ∷ []) others) (take_at (s.front ++ t ∷ []) others (suc (length s.front)) (length-append s.front (t ∷ []) ∙ omega arith)) in
    none_further ts t others s (rw e at begins)

-- what is within the bound is parsed
pub statement_within : (ts : List Token) (a : StatementBody) (p : Separator) (rest : List Token) → IsStatement ts a p rest → AllWithin (statement_nests a) → parse_within ts ≡ Parsed a p rest
statement_within ts a p rest is all =
    let parsed = statement_is_parsed ts a p rest is in
    within_parsed ts Start a p rest parsed (subst (λ (ns : List ℕ). AllWithin ns) (sym (statement_is_known ts a p rest parsed)) all)

pub within_statement : (ts : List Token) (a : StatementBody) (p : Separator) (rest : List Token) → parse_within ts ≡ Parsed a p rest → IsStatement ts a p rest × AllWithin (statement_nests a)
within_statement ts a p rest e =
    let parsed = parsed_within ts Start a p rest tt e in
    (parsed_is_statement ts a p rest parsed.0, subst (λ (ns : List ℕ). AllWithin ns) (statement_is_known ts a p rest parsed.0) parsed.1)

pub parses_within : (ts : List Token) (a : StatementBody) (p : Separator) (rest : List Token) → (parse_within ts ≡ Parsed a p rest) ↔ (IsStatement ts a p rest × AllWithin (statement_nests a))
parses_within ts a p rest = (within_statement ts a p rest, λ both. statement_within ts a p rest both.0 both.1)

refused_behind : (ts from : List Token) → parse_within ts ≡ Syntax from → (s : Stops Start ts from) → IsRefusedWithin ts (length s.front)
refused_behind ts from refused s = record {
  none = λ a p rest statement all. let read = statement_within ts a p rest statement all in absurd cc;
  within = rw s.is (omega (arith, length-append s.front from));
  begins = rw (s.is, take_at s.front from (length s.front) refl) (front_begins ts from s);
  stops = rw s.is (stops_at ts from s);
}

pub refused_at : (ts from : List Token) → parse_within ts ≡ Syntax from → IsRefusedWithin ts (length ts - length from)
refused_at ts from refused =
    let s = stops ts Start from tt refused in
    let all : length ts ≡ length s.front + length from = ap length s.is ∙ length-append s.front from in
    let place : length s.front ≡ length ts - length from = omega arith in
    subst (λ (k : ℕ). IsRefusedWithin ts k) place (refused_behind ts from refused s)

abbrev FailsAt : List Token → ℕ → Type 0
FailsAt ts k = (from : List Token) × (parse_within ts ≡ Syntax from) × (k ≡ length ts - length from)

refused_is_refused : (ts : List Token) (k : ℕ) (x : Result) → parse_within ts ≡ x → IsRefusedWithin ts k → FailsAt ts k
refused_is_refused ts k (Parsed a p rest) e refused = absurd (let both = within_statement ts a p rest e in refused.none a p rest both.0 both.1)
refused_is_refused ts k (Syntax from) e refused = (from, e, same_place ts k (length ts - length from) refused (refused_at ts from e))

pub refused_within : (ts : List Token) (k : ℕ) → FailsAt ts k ↔ IsRefusedWithin ts k
refused_within ts k = (λ r. subst (λ (k : ℕ). IsRefusedWithin ts k) (sym r.2) (refused_at ts r.0 r.1), λ refused. refused_is_refused ts k (parse_within ts) refl refused)

-- ---- as many numbers as tokens

counts_one : (s : StatementPlace) (t : Token) (next : StatementPlace) (ns : List ℕ) (m r : ℕ) → length ns + r ≡ held next m → length (owed s t ++ told_place next ns) + r ≡ held s (suc m)
counts_one s t next ns m r e = counts_owed s (told_place next ns) (suc m) (counts_told next e)
  where
    counts_told : (next : StatementPlace) → length ns + r ≡ held next m → length (told_place next ns) + r ≡ suc m
    counts_told (Inside b (AtName fs g ps ls x)) e = e
    counts_told (Inside b s) e = omega arith
    counts_told s e = omega arith

    counts_owed : (s : StatementPlace) (ns : List ℕ) (m : ℕ) → length ns + r ≡ m → length (owed s t ++ ns) + r ≡ held s m
    counts_owed (Inside b (AtName fs g ps ls x)) ns m e = omega arith
    counts_owed s ns m e = e

counts_end : (s : StatementPlace) (t : Token) (m : ℕ) → length (owed s t ++ 0 ∷ []) + m ≡ held s (suc m)
counts_end (Inside b (AtName fs g ps ls x)) t m = omega arith
counts_end s t m = omega arith

counts_after : (s : StatementPlace) (t : Token) (ts : List Token) (b : StatementBody) (p : Separator) (rest : List Token) (st : PlaceStep) → after_place ts t st (λ s. run_place s ts) ≡ Parsed b p rest → ((s : StatementPlace) → run_place s ts ≡ Parsed b p rest → length (known s ts) + length rest ≡ held s (length ts)) → length (owed s t ++ known_behind st (λ s. known s ts)) + length rest ≡ held s (suc (length ts))
counts_after s t ts b p rest (GoesTo next) e each = counts_one s t next (known next ts) (length ts) (length rest) (each next e)
counts_after s t ts b p rest (Ends c q) e each = let left : ts ≡ rest = cc in rw (← left) (counts_end s t (length ts))
counts_after s t ts b p rest Fails e each = absurd cc

counts : (ts : List Token) (s : StatementPlace) (b : StatementBody) (p : Separator) (rest : List Token) → run_place s ts ≡ Parsed b p rest → length (known s ts) + length rest ≡ held s (length ts)
counts [] s b p rest e = absurd cc
counts (t ∷ ts) s b p rest e = counts_after s t ts b p rest (place_step s t) e (λ s e. counts ts s b p rest e)

pub counts_tokens : (ts : List Token) (a : StatementBody) (p : Separator) → IsStatement ts a p [] → length (statement_nests a) ≡ length ts
counts_tokens ts a p is =
    let parsed = statement_is_parsed ts a p [] is in
    let all = counts ts Start a p [] parsed in
    ap length (sym (statement_is_known ts a p [] parsed)) ∙ omega arith
