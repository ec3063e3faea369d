-- Where tokens are refused, those before that place are the front of a statement, and with the token there they are of none.
use Rattle.std.proofs.Common.{◌≡◌, ◌↔◌, ℕ, suc, ◌+◌, ◌-◌, ◌<◌, ◌≤◌, List, [], ◌∷◌, ◌++◌, length, take, drop, refl, ap, sym, subst, ◌∙◌, arith, append_assoc}
use Rattle.std.proofs.lemmas.List.{take-append-drop, take-take, length-append, take_at}
use Rattle.rl_grammar.specs.Token.{Semicolon, Token}
use Rattle.rl_grammar.specs.Statement.{StatementPlace, Start, PlaceStep, GoesTo, Ends, Fails, place_step, Result, Parsed, Syntax, after_place, run_place, parse_statement}
use Rattle.rl_grammar.specs.Laws.{BeginsStatement, AreTokensRefusedAt}
use Rattle.rl_grammar.proofs.Whole.{parsed_is_statement, statement_is_parsed, by_place, place_live}
use Rattle.rl_grammar.proofs.OnePlace.{one_place}

-- all the tokens in front go on, whatever follows them, and the token behind them is refused, whatever follows it
record Stops (s : StatementPlace) (ts from : List Token) : Type 0 where
  front : List Token
  is : ts ≡ front ++ from
  at : StatementPlace
  goes : (more : List Token) → run_place s (front ++ more) ≡ run_place at more
  refuses : (t : Token) (others more : List Token) → from ≡ t ∷ others → run_place at (t ∷ more) ≡ Syntax (t ∷ more)

stops_after : (s : StatementPlace) (t : Token) (ts from : List Token) (st : PlaceStep) → place_step s t ≡ st → after_place ts t st (λ s. run_place s ts) ≡ Syntax from → ((next : StatementPlace) → run_place next ts ≡ Syntax from → Stops next ts from) → Stops s (t ∷ ts) from
stops_after s t ts from (GoesTo next) e refused each =
    let stops = each next refused in
    record {
      front = t ∷ stops.front;
      is = ap (λ (xs : List Token). t ∷ xs) stops.is;
      at = stops.at;
      goes = λ more. by_place s t (stops.front ++ more) (GoesTo next) e ∙ stops.goes more;
      refuses = stops.refuses;
    }
stops_after s t ts from (Ends a p) e refused each = absurd cc
stops_after s t ts from Fails e refused each =
    let is : t ∷ ts ≡ from = cc in
    record {
      front = [];
      is = is;
      at = s;
      goes = λ more. refl;
      refuses = λ u others more same. let first : u ≡ t = cc in rw first (by_place s t more Fails e);
    }

stops : (ts : List Token) (s : StatementPlace) (from : List Token) → run_place s ts ≡ Syntax from → Stops s ts from
stops [] s from refused = let none : from ≡ [] = cc in record { front = []; is = sym none; at = s; goes = λ more. refl; refuses = λ t others more e. absurd cc }
stops (t ∷ ts) s from refused = stops_after s t ts from (place_step s t) refl refused (λ next refused. stops ts next from refused)

-- the tokens that go on are the front of a statement
front_begins : (ts from : List Token) (s : Stops Start ts from) → BeginsStatement s.front
front_begins ts from s =
    let l = place_live s.at in
    record { more = l.tokens; tree = l.body; separator = Semicolon; is = parsed_is_statement (s.front ++ l.tokens) l.body Semicolon [] (s.goes l.tokens ∙ l.read) }

-- and with the token that is refused they are of none
none_further : (ts : List Token) (t : Token) (others : List Token) (s : Stops Start ts (t ∷ others)) → BeginsStatement (s.front ++ t ∷ []) → ⊥
none_further ts t others s begins =
    let read = statement_is_parsed ((s.front ++ t ∷ []) ++ begins.more) begins.tree begins.separator [] begins.is in
    let refused = s.goes (t ∷ begins.more) ∙ s.refuses t others begins.more refl in
    let same = append_assoc s.front (t ∷ []) begins.more in
    absurd cc

-- a shorter front of a statement is one
shorter_begins : (ts : List Token) (j k : ℕ) → j ≤ k → BeginsStatement (take k ts) → BeginsStatement (take j ts)
shorter_begins ts j k below begins =
    let part = take-append-drop j (take k ts) in
    let front = take-take j k ts below in
    let same : take j ts ++ (drop j (take k ts) ++ begins.more) ≡ take k ts ++ begins.more = sym (append_assoc (take j ts) (drop j (take k ts)) begins.more) ∙ cc in
    record { more = drop j (take k ts) ++ begins.more; tree = begins.tree; separator = begins.separator; is = rw same begins.is }

-- tokens are refused at one place
not_before : (ts : List Token) (j k : ℕ) → AreTokensRefusedAt ts j → AreTokensRefusedAt ts k → j < k → ⊥
not_before ts j k first second below =
    let within = second.within in
    first.stops (omega arith) (shorter_begins ts (suc j) k (omega arith) second.begins)

same_place : (ts : List Token) (j k : ℕ) → AreTokensRefusedAt ts j → AreTokensRefusedAt ts k → j ≡ k
same_place ts j k first second = one_place (λ i. AreTokensRefusedAt ts i) (not_before ts) j k first second

stops_at : (ts from : List Token) (s : Stops Start ts from) → length s.front < length (s.front ++ from) → BeginsStatement (take (suc (length s.front)) (s.front ++ from)) → ⊥
stops_at ts [] s more begins = absurd (let e = length-append s.front [] in omega arith)
stops_at ts (t ∷ others) s more begins =
    let e : take (suc (length s.front)) (s.front ++ t ∷ others) ≡ s.front ++ t ∷ [] = rw (← append_assoc s.front (t ∷ []) others) (take_at (s.front ++ t ∷ []) others (suc (length s.front)) (length-append s.front (t ∷ []) ∙ omega arith)) in
    none_further ts t others s (rw e at begins)

refused_behind : (ts from : List Token) → parse_statement ts ≡ Syntax from → (s : Stops Start ts from) → AreTokensRefusedAt ts (length s.front)
refused_behind ts from refused s = record {
  none = λ a p rest statement. let read = statement_is_parsed ts a p rest statement in absurd cc;
  within = rw s.is (omega (arith, length-append s.front from));
  begins = rw (s.is, take_at s.front from (length s.front) refl) (front_begins ts from s);
  stops = rw s.is (stops_at ts from s);
}

refused_at : (ts from : List Token) → parse_statement ts ≡ Syntax from → AreTokensRefusedAt ts (length ts - length from)
refused_at ts from refused =
    let s = stops ts Start from refused in
    let all : length ts ≡ length s.front + length from = ap length s.is ∙ length-append s.front from in
    let place : length s.front ≡ length ts - length from = omega arith in
    subst (λ (k : ℕ). AreTokensRefusedAt ts k) place (refused_behind ts from refused s)

abbrev FailsAt : List Token → ℕ → Type 0
FailsAt ts k = (from : List Token) × (parse_statement ts ≡ Syntax from) × (k ≡ length ts - length from)

refused_is_refused : (ts : List Token) (k : ℕ) (x : Result) → parse_statement ts ≡ x → AreTokensRefusedAt ts k → FailsAt ts k
refused_is_refused ts k (Parsed a p rest) e refused = absurd (refused.none a p rest (parsed_is_statement ts a p rest e))
refused_is_refused ts k (Syntax from) e refused = (from, e, same_place ts k (length ts - length from) refused (refused_at ts from e))

pub refused_first : (ts : List Token) (k : ℕ) → FailsAt ts k ↔ AreTokensRefusedAt ts k
refused_first ts k = (λ r. subst (λ (k : ℕ). AreTokensRefusedAt ts k) (sym r.2) (refused_at ts r.0 r.1), λ refused. refused_is_refused ts k (parse_statement ts) refl refused)
