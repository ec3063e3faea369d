-- Parsing with bounded nesting takes exactly the statements that are within the bound.
use Rattle.std.proofs.Common.{◌≡◌, ℕ, suc, Bool, true, nat_le, nat_lt, ◌||◌, List, [], ◌∷◌, ◌++◌, refl, ap, sym, subst, ◌∙◌, inl, inr, arith}
use Rattle.std.proofs.lemmas.Bool.{cond-true, cond-false, cases_Bool, and_parts, and_from, leb-true, ltb-true, le-leb, lt-ltb}
use Rattle.std.proofs.lemmas.List.Folds.{list_all-append}
use Rattle.rl_grammar.specs.Token.{Separator, Token}
use Rattle.rl_grammar.specs.Tree.{Base, StatementBody}
use Rattle.rl_grammar.specs.Parser.{ParserFrame, ParserState, AtName, is_colon}
use Rattle.rl_grammar.specs.Statement.{StatementPlace, Inside, PlaceStep, GoesTo, Ends, Fails, place_step, Parsed, after_place, run_place}
use Rattle.rl_grammar.specs.Nesting.{nesting_bound}
use Rattle.rl_grammar.specs.Within.{nesting, depth, bounded_place, admits_place, place_within, place_run_within}
use Rattle.rl_grammar.specs.Bound.{AllWithin}
use Rattle.rl_grammar.proofs.Deep.{name_depth}
use Rattle.rl_grammar.proofs.Counted.{told_place, owed, known_behind, known}

-- ---- what is within the bound

abbrev pub small : ℕ → Bool
small n = nat_le n nesting_bound

-- what is unfinished at the last token
abbrev pub Low : StatementPlace → Type 0
Low (Inside b s) = small (depth s) ≡ true
Low s = Unit {0}

pub all_parts : (ms ns : List ℕ) → AllWithin (ms ++ ns) → AllWithin ms × AllWithin ns
all_parts ms ns all = and_parts _ _ (rw (list_all-append small ms ns) at all)

pub all_from : (ms ns : List ℕ) → AllWithin ms → AllWithin ns → AllWithin (ms ++ ns)
all_from ms ns first second = rw (list_all-append small ms ns) (and_from _ _ first second)

deeper_small : (n : ℕ) → nat_lt n nesting_bound ≡ true → small (suc n) ≡ true
deeper_small n e = le-leb (suc n) nesting_bound (let below = ltb-true n nesting_bound e in omega arith)

small_deeper : (n : ℕ) → small (suc n) ≡ true → nat_lt n nesting_bound ≡ true
small_deeper n e = lt-ltb n nesting_bound (let below = leb-true (suc n) nesting_bound e in omega arith)

small_under : (n : ℕ) → small (suc n) ≡ true → small n ≡ true
small_under n e = le-leb n nesting_bound (let below = leb-true (suc n) nesting_bound e in omega arith)

-- a name that may be a label
pub name_small : (fs : List ParserFrame) (t : Token) → small (nesting fs) ≡ true → (is_colon t || nat_lt (nesting fs) nesting_bound) ≡ true → small (name_depth fs t) ≡ true
name_small fs t low admitted = elim (cases_Bool (is_colon t)) [
  | inl colon ↦ rw colon low
  | inr other ↦ rw other (deeper_small (nesting fs) (rw other at admitted))
]

name_admitted : (fs : List ParserFrame) (t : Token) → small (name_depth fs t) ≡ true → (is_colon t || nat_lt (nesting fs) nesting_bound) ≡ true
name_admitted fs t e = elim (cases_Bool (is_colon t)) [
  | inl colon ↦ rw colon refl
  | inr other ↦ rw other (small_deeper (nesting fs) (rw other at e))
]

pub name_low : (fs : List ParserFrame) (t : Token) → small (name_depth fs t) ≡ true → small (nesting fs) ≡ true
name_low fs t e = elim (cases_Bool (is_colon t)) [
  | inl colon ↦ rw colon at e
  | inr other ↦ small_under (nesting fs) (rw other at e)
]

pub owed_small : (s : StatementPlace) (t : Token) → Low s → admits_place s t ≡ true → AllWithin (owed s t)
owed_small (Inside b (AtName fs g ps ls x)) t low admitted = and_from _ _ (name_small fs t low admitted) refl
owed_small s t low admitted = refl

pub owed_admits : (s : StatementPlace) (t : Token) → AllWithin (owed s t) → admits_place s t ≡ true
owed_admits (Inside b (AtName fs g ps ls x)) t all = name_admitted fs t (and_parts _ _ all).0
owed_admits s t all = refl

pub told_small : (s : StatementPlace) (ns : List ℕ) → Low s → AllWithin ns → AllWithin (told_place s ns)
told_small (Inside b (AtName fs g ps ls x)) ns low all = all
told_small (Inside b s) ns low all = and_from _ _ low all
told_small s ns low all = all

-- ---- a token

-- a token that is admitted, and leads to within the bound, is taken
pub taken : (s : StatementPlace) (t : Token) (next : StatementPlace) → admits_place s t ≡ true → place_step s t ≡ GoesTo next → Low next → place_within s t ≡ GoesTo next
taken s t next admitted goes low = cond-true (admits_place s t) _ _ admitted ∙ ap bounded_place goes ∙ bounded next low
  where
    bounded : (next : StatementPlace) → Low next → bounded_place (GoesTo next) ≡ GoesTo next
    bounded (Inside b s) low = cond-true (small (depth s)) _ _ low
    bounded next low = refl

pub ends_within : (s : StatementPlace) (t : Token) (b : StatementBody) (p : Separator) → admits_place s t ≡ true → place_step s t ≡ Ends b p → place_within s t ≡ Ends b p
ends_within s t b p admitted ends = cond-true (admits_place s t) _ _ admitted ∙ ap bounded_place ends

pub by_within : (s : StatementPlace) (t : Token) (ts : List Token) (st : PlaceStep) → place_within s t ≡ st → place_run_within s (t ∷ ts) ≡ after_place ts t st (λ s. place_run_within s ts)
by_within s t ts st e = ap (λ (st : PlaceStep). after_place ts t st (λ s. place_run_within s ts)) e

-- what the bound lets pass
pub record Passes (s : StatementPlace) (t : Token) (next : StatementPlace) : Type 0 where
  pub admitted : admits_place s t ≡ true
  pub goes : place_step s t ≡ GoesTo next
  pub low : Low next

-- how a token is taken with the bound
pub data Taken (s : StatementPlace) (t : Token) : Type 0 where
  Passed : (next : StatementPlace) → Passes s t next → place_within s t ≡ GoesTo next → Taken s t
  Ended : (b : StatementBody) (p : Separator) → admits_place s t ≡ true → place_step s t ≡ Ends b p → place_within s t ≡ Ends b p → Taken s t
  Failed : place_within s t ≡ Fails → Taken s t

inside_taken : (s : StatementPlace) (t : Token) (b : Base) (next : ParserState) → admits_place s t ≡ true → place_step s t ≡ GoesTo (Inside b next) → Taken s t
inside_taken s t b next admitted goes = elim (cases_Bool (small (depth next))) [
  | inl low ↦ Passed (Inside b next) (record { admitted = admitted; goes = goes; low = low }) (taken s t (Inside b next) admitted goes low)
  | inr high ↦ Failed (cond-true (admits_place s t) _ _ admitted ∙ ap bounded_place goes ∙ cond-false (small (depth next)) _ _ high)
]

goes_taken : (s : StatementPlace) (t : Token) (next : StatementPlace) → admits_place s t ≡ true → place_step s t ≡ GoesTo next → Taken s t
goes_taken s t (Inside b next) admitted goes = inside_taken s t b next admitted goes
goes_taken s t next admitted goes = Passed next (record { admitted = admitted; goes = goes; low = tt }) (taken s t next admitted goes tt)

step_taken : (s : StatementPlace) (t : Token) (st : PlaceStep) → admits_place s t ≡ true → place_step s t ≡ st → Taken s t
step_taken s t (GoesTo next) admitted e = goes_taken s t next admitted e
step_taken s t (Ends b p) admitted e = Ended b p admitted e (ends_within s t b p admitted e)
step_taken s t Fails admitted e = Failed (cond-true (admits_place s t) _ _ admitted ∙ ap bounded_place e)

pub token_taken : (s : StatementPlace) (t : Token) → Taken s t
token_taken s t = elim (cases_Bool (admits_place s t)) [
  | inl admitted ↦ step_taken s t (place_step s t) admitted refl
  | inr other ↦ Failed (cond-false (admits_place s t) _ _ other)
]

pub by_step : (s : StatementPlace) (t : Token) (ts : List Token) (st : PlaceStep) → place_step s t ≡ st → run_place s (t ∷ ts) ≡ after_place ts t st (λ s. run_place s ts)
by_step s t ts st e = ap (λ (st : PlaceStep). after_place ts t st (λ s. run_place s ts)) e

pub known_by : (s : StatementPlace) (t : Token) (ts : List Token) (st : PlaceStep) → place_step s t ≡ st → known s (t ∷ ts) ≡ owed s t ++ known_behind st (λ s. known s ts)
known_by s t ts st e = ap (λ (st : PlaceStep). owed s t ++ known_behind st (λ s. known s ts)) e

-- ---- what is parsed with the bound

abbrev WithinAll : StatementPlace → List Token → StatementBody → Separator → List Token → Type 0
WithinAll s ts b p rest = (run_place s ts ≡ Parsed b p rest) × AllWithin (known s ts)

parsed_after : (s : StatementPlace) (t : Token) (ts : List Token) (b : StatementBody) (p : Separator) (rest : List Token) → Low s → Taken s t → place_run_within s (t ∷ ts) ≡ Parsed b p rest → ((s : StatementPlace) → Low s → place_run_within s ts ≡ Parsed b p rest → WithinAll s ts b p rest) → WithinAll s (t ∷ ts) b p rest
parsed_after s t ts b p rest low (Passed next passes e) parsed each =
    let more = each next passes.low (sym (by_within s t ts (GoesTo next) e) ∙ parsed) in (
      by_step s t ts (GoesTo next) passes.goes ∙ more.0,
      subst (λ (ns : List ℕ). AllWithin ns) (sym (known_by s t ts (GoesTo next) passes.goes)) (all_from (owed s t) _ (owed_small s t low passes.admitted) (told_small next (known next ts) passes.low more.1)),
    )
parsed_after s t ts b p rest low (Ended c q admitted ends e) parsed each = (
  by_step s t ts (Ends c q) ends ∙ (sym (by_within s t ts (Ends c q) e) ∙ parsed),
  subst (λ (ns : List ℕ). AllWithin ns) (sym (known_by s t ts (Ends c q) ends)) (all_from (owed s t) _ (owed_small s t low admitted) refl),
)
parsed_after s t ts b p rest low (Failed e) parsed each = absurd (let refused = sym (by_within s t ts Fails e) ∙ parsed in cc)

pub parsed_within : (ts : List Token) (s : StatementPlace) (b : StatementBody) (p : Separator) (rest : List Token) → Low s → place_run_within s ts ≡ Parsed b p rest → WithinAll s ts b p rest
parsed_within [] s b p rest low e = absurd cc
parsed_within (t ∷ ts) s b p rest low e = parsed_after s t ts b p rest low (token_taken s t) e (λ s low e. parsed_within ts s b p rest low e)

-- ---- what is within the bound is parsed with it

low_known : (next : StatementPlace) (ts : List Token) (b : StatementBody) (p : Separator) (rest : List Token) → run_place next ts ≡ Parsed b p rest → AllWithin (told_place next (known next ts)) → Low next
low_known (Inside c (AtName fs g ps ls x)) [] b p rest e all = absurd cc
low_known (Inside c (AtName fs g ps ls x)) (t ∷ ts) b p rest e all = name_low fs t (and_parts _ _ all).0
low_known (Inside c s) ts b p rest e all = (and_parts _ _ all).0
low_known s ts b p rest e all = tt

within_after : (s : StatementPlace) (t : Token) (ts : List Token) (b : StatementBody) (p : Separator) (rest : List Token) (st : PlaceStep) → place_step s t ≡ st → after_place ts t st (λ s. run_place s ts) ≡ Parsed b p rest → AllWithin (owed s t ++ known_behind st (λ s. known s ts)) → ((s : StatementPlace) → run_place s ts ≡ Parsed b p rest → AllWithin (known s ts) → place_run_within s ts ≡ Parsed b p rest) → place_run_within s (t ∷ ts) ≡ Parsed b p rest
within_after s t ts b p rest (GoesTo next) goes e all each =
    let parts = all_parts (owed s t) (told_place next (known next ts)) all in
    let low = low_known next ts b p rest e parts.1 in
    by_within s t ts (GoesTo next) (taken s t next (owed_admits s t parts.0) goes low) ∙ each next e (untold next (known next ts) parts.1)
  where
    untold : (s : StatementPlace) (ns : List ℕ) → AllWithin (told_place s ns) → AllWithin ns
    untold (Inside b (AtName fs g ps ls x)) ns all = all
    untold (Inside b s) ns all = (and_parts _ _ all).1
    untold s ns all = all
within_after s t ts b p rest (Ends c q) ends e all each =
    let parts = all_parts (owed s t) (0 ∷ []) all in
    by_within s t ts (Ends c q) (ends_within s t c q (owed_admits s t parts.0) ends) ∙ e
within_after s t ts b p rest Fails fails e all each = absurd cc

pub within_parsed : (ts : List Token) (s : StatementPlace) (b : StatementBody) (p : Separator) (rest : List Token) → run_place s ts ≡ Parsed b p rest → AllWithin (known s ts) → place_run_within s ts ≡ Parsed b p rest
within_parsed [] s b p rest e all = absurd cc
within_parsed (t ∷ ts) s b p rest e all = within_after s t ts b p rest (place_step s t) refl e all (λ s e all. within_parsed ts s b p rest e all)
