-- A law on one run over any preorder on states: what is asked of it, a step at a time, and how outcomes keep it.
use Rattle.std.proofs.Common.{◌≡◌, ◌≤◌, ◌-◌, nat_le, ℕ, zero, suc, ℤ, Bool, true, false, List, [], ◌∷◌, ◌++◌, length, Option, Some, None, refl, subst}
use Rattle.rl_tree.specs.Value.{Value, Ref, Object}
use Rattle.rl_tree.specs.Name.{Name}
use Rattle.rl_tree.specs.Printing.{Page}
use Rattle.rl_meaning.specs.State.{State, Symbol, Definition, Function, Entry, Expansion, Event}
use Rattle.rl_meaning.specs.Outcome.{Outcome, Done, Failed, Went, Returned, Stopped, Stop, Turns, then_do, choose, run_turn, expansion_turn, turn_of, turn, Levels, in_levels, deeper, descends, pair_turn, cells_within, run_room, expansion_within, expansion_room, room}
use Rattle.rl_meaning.specs.Symbols.{new_symbol, symbol_at, with_symbol}
use Rattle.rl_meaning.specs.Events.{with_event}
use Rattle.rl_meaning.specs.Constants.{changing}
use Rattle.rl_meaning.specs.Holding.{with_function}
use Rattle.rl_meaning.specs.Variables.{with_nearest, with_oldest}
use Rattle.rl_meaning.specs.Copying.{with_object}
use Rattle.rl_meaning.specs.Definitions.{with_definition}
use Rattle.rl_meaning.specs.Printing.{with_page, turns_taken, note}
use Rattle.rl_meaning.specs.Input.{with_input, read_bytes}
use Rattle.rl_meaning.specs.Evaluation.{Position, Statement, Inside, with_expansion, without_expansion}
use Rattle.rl_meaning.specs.Opening.{state_of}
use Rattle.rl_agrees.specs.Later.{IsMore}
use Rattle.rl_agrees.specs.Leaving.{IsNoTransfer}

-- ---- steps

-- whether bindings may be left in any way, as c-macros do
abbrev pub Frees : Bool → Type 0
Frees true = Unit {0}
Frees false = ⊥

-- what is asked of a preorder: that it has each change that the definitions make, but for what goes out
pub record StepsAt (freely : Bool) (P : State → State → Type 0) : Type 0 where
  pub same : (s : State) → P s s
  pub and_then : (s t u : State) → P s t → P t u → P s u
  -- turns that are taken, of the run or of the open expansion; cells of each; and an expansion that opens, and is over
  pub turns : (n : ℕ) (s : State) → P s (turns_taken s.counts.expansion n s)
  pub cells : (n m : ℕ) (s : State) → s.counts.cells ≡ Some m → P s (record s { counts = record s.counts { cells = Some n } })
  pub expansion_cells : (n : ℕ) (e : Expansion) (s : State) → s.counts.expansion ≡ Some e → P s (record s { counts = record s.counts { expansion = Some (record e { cells = n }) } })
  pub opened : (f : ℕ) (s : State) → P s (with_expansion f s)
  pub closed : (f : ℕ) (s t : State) → P (with_expansion f s) t → P s (without_expansion t)
  -- a new object; a change of one that is new since; and a change that is noted
  pub made : (o : Object) (s : State) → P s (record s { store = s.store ++ o ∷ [] })
  pub fresh : (r : ℕ) (o : Object) (s t : State) → P s t → length s.store ≤ r → P s (with_object (Ref r) o t)
  pub noted : (v : Value) (s : State) → P s (changing v s)
  pub changed : (v : Value) (o : Object) (s : State) → P s (changing v (with_object v o s))
  pub grows : (s t : State) → P s t → length s.store ≤ length t.store
  -- a new identifier, one that changes but for its definition, and a definition
  pub named : (name : Name) (interned : Bool) (s : State) → P s (record s { symbols = s.symbols ++ new_symbol name interned ∷ [] })
  pub symbol : (i : ℕ) (symbol : Symbol) (s : State) → symbol.definition ≡ (symbol_at s i).definition → P s (with_symbol i symbol s)
  pub definition : (i : ℕ) (d : Option Definition) (s : State) → P s (with_definition i d s)
  pub function : (f : Function) (s : State) → P s (with_function f s)
  -- a new binding or mark, the value of a binding, and going back to as many entries as a state had; and, for c-macros, any bindings
  pub pushed : (e : Entry) (s : State) → P s (record s { bindings = e ∷ s.bindings })
  pub valued : (x : ℕ) (v : Value) (s : State) → P s (record s { bindings = with_nearest x v s.bindings })
  pub oldest : (r s t : State) → P r s → P r t → P r (with_oldest (length s.bindings) t)
  pub freed : Frees freely → (entries : List Entry) (s : State) → P s (record s { bindings = entries })
  pub gensyms : (n : ℕ) (s : State) → P s (record s { gensyms = n })
  pub event : (e : Event) (s : State) → P s (with_event e s)
  -- what comes in, and how long a line may be
  pub input : (rest : List ℕ) (s : State) → P s (with_input rest s)
  pub line_length : (n : ℕ) (s : State) → P s (record s { outside = record s.outside { line_length = n } })

-- with c-macros
abbrev pub Steps : (State → State → Type 0) → Type 0
Steps P = StepsAt true P

-- and what goes out
pub record Prints (P : State → State → Type 0) : Type 0 where
  pub printed : (page : Page) (s : State) → IsMore s.outside.output page.text → P s (with_page page s)
  pub note_ : (line : List ℕ) (s : State) → P s (note line s)

-- one state behind another, by the preorder
pub record IsBehind (P : State → State → Type 0) (r s : State) : Type 0 where
  pub is : P r s

-- ---- outcomes

-- only as a statement of a PROG a form may leave by GO or RETURN
abbrev pub PlainAt : {A : Type 0} → Position → Outcome A → Type 0
PlainAt Statement o = Unit {0}
PlainAt Inside o = IsNoTransfer o

-- the outcome's state follows a state, and the outcome is as it may be at the position
pub record LeadsAt {A : Type 0} (P : State → State → Type 0) (position : Position) (r : State) (o : Outcome A) : Type 0 where
  pub moves : P r (state_of o)
  pub plain : PlainAt position o

-- anywhere, and where it neither goes nor returns
abbrev pub Moves : {A : Type 0} → (State → State → Type 0) → State → Outcome A → Type 0
Moves P r o = LeadsAt P Statement r o

abbrev pub Leads : {A : Type 0} → (State → State → Type 0) → State → Outcome A → Type 0
Leads P r o = LeadsAt P Inside r o

-- and what reading does
pub record ReadsLead (P : State → State → Type 0) : Type 0 where
  pub leads : (turns : Bool) (levels : Levels) (bytes : List ℕ) (s : State) → Leads P s (read_bytes turns levels bytes s)

-- what the value of an outcome has, in its state
abbrev pub DoneWith : {A : Type 0} → (A → State → Type 0) → Outcome A → Type 0
DoneWith Good (Done a s) = Good a s
DoneWith Good (Failed n m s) = Unit {0}
DoneWith Good (Went l s) = Unit {0}
DoneWith Good (Returned v s) = Unit {0}
DoneWith Good (Stopped why s) = Unit {0}

pub record Makes {A : Type 0} (P : State → State → Type 0) (position : Position) (r : State) (Good : A → State → Type 0) (o : Outcome A) : Type 0 where
  pub leads : LeadsAt P position r o
  pub good : DoneWith Good o

plain_done : {A : Type 0} (position : Position) (a : A) (t : State) → PlainAt position (Done a t)
plain_done Statement a t = tt
plain_done Inside a t = tt

plain_failed : (A : Type 0) (position : Position) (n : ℤ) (m : Value) (t : State) → PlainAt {A = A} position (Failed n m t)
plain_failed A Statement n m t = tt
plain_failed A Inside n m t = tt

plain_stopped : (A : Type 0) (position : Position) (why : Stop) (t : State) → PlainAt {A = A} position (Stopped why t)
plain_stopped A Statement why t = tt
plain_stopped A Inside why t = tt

plain_went : (A B : Type 0) (position : Position) (l : ℕ) (t u : State) → PlainAt {A = A} position (Went l t) → PlainAt {A = B} position (Went l u)
plain_went A B Statement l t u h = tt
plain_went A B Inside l t u h = absurd h

plain_returned : (A B : Type 0) (position : Position) (v : Value) (t u : State) → PlainAt {A = A} position (Returned v t) → PlainAt {A = B} position (Returned v u)
plain_returned A B Statement v t u h = tt
plain_returned A B Inside v t u h = absurd h

module _ {freely : Bool} {P : State → State → Type 0} (steps : StepsAt freely P) where
  -- ---- states

  pub follows_same : (s : State) → IsBehind P s s
  follows_same s = record { is = steps.same s }

  pub follows_then : (r s t : State) → IsBehind P r s → P s t → IsBehind P r t
  follows_then r s t h k = record { is = steps.and_then r s t h.is k }

  -- an outcome from a later state
  pub leads_from : {A : Type 0} {position : Position} (r s : State) (o : Outcome A) → IsBehind P r s → LeadsAt P position s o → LeadsAt P position r o
  leads_from r s o h k = record { moves = steps.and_then r s (state_of o) h.is k.moves; plain = k.plain }

-- ---- ways of outcomes

module _ {P : State → State → Type 0} {position : Position} {r : State} where
  pub done_leads : {A : Type 0} (a : A) (s : State) → IsBehind P r s → LeadsAt P position r (Done a s)
  done_leads a s h = record { moves = h.is; plain = plain_done position a s }

  pub failed_leads : {A : Type 0} (n : ℤ) (m : Value) (s : State) → IsBehind P r s → LeadsAt {A = A} P position r (Failed n m s)
  failed_leads n m s h = record { moves = h.is; plain = plain_failed _ position n m s }

  pub stopped_leads : {A : Type 0} (why : Stop) (s : State) → IsBehind P r s → LeadsAt {A = A} P position r (Stopped why s)
  stopped_leads why s h = record { moves = h.is; plain = plain_stopped _ position why s }

  -- a GO, or a RETURN, as one from another state
  pub went_leads : {A B : Type 0} (l : ℕ) (s t : State) → LeadsAt {A = A} P position r (Went l s) → IsBehind P r t → LeadsAt {A = B} P position r (Went l t)
  went_leads l s t h f = record { moves = f.is; plain = plain_went _ _ position l s t h.plain }

  pub returned_leads : {A B : Type 0} (v : Value) (s t : State) → LeadsAt {A = A} P position r (Returned v s) → IsBehind P r t → LeadsAt {A = B} P position r (Returned v t)
  returned_leads v s t h f = record { moves = f.is; plain = plain_returned _ _ position v s t h.plain }

  pub done_makes : {A : Type 0} (Good : A → State → Type 0) (a : A) (s : State) → IsBehind P r s → Good a s → Makes P position r Good (Done a s)
  done_makes Good a s h good = record { leads = done_leads a s h; good = good }

  -- a value that has something, and what comes then
  pub then_makes : {A B : Type 0} (Good : A → State → Type 0) (Then : B → State → Type 0) (o : Outcome A) (next : A → State → Outcome B) → Makes P position r Good o → ((a : A) (t : State) → IsBehind P r t → Good a t → Makes P position r Then (next a t)) → Makes P position r Then (then_do o next)
  then_makes Good Then (Done a t) next h k = k a t (record { is = h.leads.moves }) h.good
  then_makes Good Then (Failed n m t) next h k = record { leads = record { moves = h.leads.moves; plain = plain_failed _ position n m t }; good = tt }
  then_makes Good Then (Went l t) next h k = record { leads = record { moves = h.leads.moves; plain = plain_went _ _ position l t t h.leads.plain }; good = tt }
  then_makes Good Then (Returned v t) next h k = record { leads = record { moves = h.leads.moves; plain = plain_returned _ _ position v t t h.leads.plain }; good = tt }
  then_makes Good Then (Stopped why t) next h k = record { leads = record { moves = h.leads.moves; plain = plain_stopped _ position why t }; good = tt }

  pub then_with : {A B : Type 0} (Good : A → State → Type 0) (o : Outcome A) (next : A → State → Outcome B) → Makes P position r Good o → ((a : A) (t : State) → IsBehind P r t → Good a t → LeadsAt P position r (next a t)) → LeadsAt P position r (then_do o next)
  then_with Good (Done a t) next h k = k a t (record { is = h.leads.moves }) h.good
  then_with Good (Failed n m t) next h k = record { moves = h.leads.moves; plain = plain_failed _ position n m t }
  then_with Good (Went l t) next h k = record { moves = h.leads.moves; plain = plain_went _ _ position l t t h.leads.plain }
  then_with Good (Returned v t) next h k = record { moves = h.leads.moves; plain = plain_returned _ _ position v t t h.leads.plain }
  then_with Good (Stopped why t) next h k = record { moves = h.leads.moves; plain = plain_stopped _ position why t }

  -- of any value there is nothing to say
  pub makes_any : {A : Type 0} (o : Outcome A) → LeadsAt P position r o → Makes P position r (λ a t. Unit {0}) o
  makes_any (Done a t) h = record { leads = h; good = tt }
  makes_any (Failed n m t) h = record { leads = h; good = tt }
  makes_any (Went l t) h = record { leads = h; good = tt }
  makes_any (Returned v t) h = record { leads = h; good = tt }
  makes_any (Stopped why t) h = record { leads = h; good = tt }

  pub then_leads : {A B : Type 0} (o : Outcome A) (next : A → State → Outcome B) → LeadsAt P position r o → ((a : A) (t : State) → IsBehind P r t → LeadsAt P position r (next a t)) → LeadsAt P position r (then_do o next)
  then_leads (Done a t) next h k = k a t (record { is = h.moves })
  then_leads (Failed n m t) next h k = record { moves = h.moves; plain = plain_failed _ position n m t }
  then_leads (Went l t) next h k = record { moves = h.moves; plain = plain_went _ _ position l t t h.plain }
  then_leads (Returned v t) next h k = record { moves = h.moves; plain = plain_returned _ _ position v t t h.plain }
  then_leads (Stopped why t) next h k = record { moves = h.moves; plain = plain_stopped _ position why t }

  pub choose_leads : {A : Type 0} (b : Bool) (s : State) (first second : State → Outcome A) → LeadsAt P position r (first s) → LeadsAt P position r (second s) → LeadsAt P position r (choose b s first second)
  choose_leads true s first second h k = h
  choose_leads false s first second h k = k

-- what neither goes nor returns may stand anywhere
pub anywhere : {A : Type 0} {P : State → State → Type 0} {r : State} (position : Position) (o : Outcome A) → Leads P r o → LeadsAt P position r o
anywhere Statement o h = record { moves = h.moves; plain = tt }
anywhere Inside o h = h

-- ---- turns, levels and cells

module _ {freely : Bool} {P : State → State → Type 0} (steps : StepsAt freely P) {r : State} where
  -- for any claim on outcomes: that it holds where a turn is wanting, and of what comes behind the turn
  pub turn_claims : {A : Type 0} (Claim : Outcome A → Type 0) (s : State) (next : State → Outcome A) → IsBehind P r s → ((why : Stop) → Claim (Stopped why s)) → ((t : State) → IsBehind P r t → Claim (next t)) → Claim (turn s next)
  turn_claims Claim s next h stops k = at s.counts.expansion refl
    where
      run_at : (n : ℕ) → s.counts.expansion ≡ None → Claim (run_turn n s next)
      run_at zero e = stops Turns
      run_at (suc n) e = k _ (follows_then steps r s _ h (subst (λ (o : Option Expansion). P s (turns_taken o n s)) e (steps.turns n s)))

      expansion_at : (n : ℕ) (x : Expansion) → s.counts.expansion ≡ Some x → Claim (expansion_turn n x s next)
      expansion_at zero x e = stops _
      expansion_at (suc n) x e = k _ (follows_then steps r s _ h (subst (λ (o : Option Expansion). P s (turns_taken o n s)) e (steps.turns n s)))

      at : (o : Option Expansion) → s.counts.expansion ≡ o → Claim (turn_of o s next)
      at None e = run_at s.counts.turns e
      at (Some x) e = expansion_at x.turns x e

  -- so with cells
  pub room_claims : {A : Type 0} (Claim : Outcome A → Type 0) (cost : ℕ) (s : State) (next : State → Outcome A) → IsBehind P r s → ((why : Stop) (t : State) → IsBehind P r t → Claim (Stopped why t)) → ((t : State) → IsBehind P r t → Claim (next t)) → Claim (room cost s next)
  room_claims Claim cost s next h stops k = at s.counts.expansion refl
    where
      run_within : (b : Bool) (c m : ℕ) (t : State) → t.counts.cells ≡ Some m → IsBehind P r t → Claim (cells_within b c t next)
      run_within true c m t e f = k _ (follows_then steps r t _ f (steps.cells c m t e))
      run_within false c m t e f = stops _ t f

      more : (o : Option ℕ) (t : State) → t.counts.cells ≡ o → IsBehind P r t → Claim (run_room o cost t next)
      more None t e f = k t f
      more (Some c) t e f = run_within (nat_le cost c) (c - cost) c t e f

      within : (b : Bool) (x : Expansion) → s.counts.expansion ≡ Some x → Claim (expansion_within b x cost s (λ t. run_room t.counts.cells cost t next))
      within true x e = more _ _ refl (follows_then steps r s _ h (steps.expansion_cells (x.cells - cost) x s e))
      within false x e = stops _ s h

      at : (o : Option Expansion) → s.counts.expansion ≡ o → Claim (expansion_room o cost s (λ t. run_room t.counts.cells cost t next))
      at None e = more _ s refl h
      at (Some x) e = within (nat_le cost x.cells) x e

module _ {freely : Bool} {P : State → State → Type 0} (steps : StepsAt freely P) {position : Position} {r : State} where
  pub turn_leads : {A : Type 0} (s : State) (next : State → Outcome A) → IsBehind P r s → ((t : State) → IsBehind P r t → LeadsAt P position r (next t)) → LeadsAt P position r (turn s next)
  turn_leads s next h k = turn_claims steps (λ o. LeadsAt P position r o) s next h (λ why. stopped_leads why s h) k

  pub entered_leads : {A : Type 0} (b : Bool) (l : ℕ) (s : State) (next : Levels → Outcome A) → IsBehind P r s → ((l : Levels) → LeadsAt P position r (next l)) → LeadsAt P position r (in_levels b l s next)
  entered_leads true l s next h k = k (Some l)
  entered_leads false l s next h k = stopped_leads _ s h

  pub deeper_leads : {A : Type 0} (n : ℕ) (levels : Levels) (s : State) (next : Levels → Outcome A) → IsBehind P r s → ((l : Levels) → LeadsAt P position r (next l)) → LeadsAt P position r (deeper n levels s next)
  deeper_leads n None s next h k = k None
  deeper_leads n (Some l) s next h k = entered_leads _ _ s next h k

  pub descends_leads : {A : Type 0} (b : Bool) (levels : Levels) (s : State) (next : Levels → Outcome A) → IsBehind P r s → ((l : Levels) → LeadsAt P position r (next l)) → LeadsAt P position r (descends b levels s next)
  descends_leads true levels s next h k = deeper_leads 1 levels s next h k
  descends_leads false levels s next h k = k levels

  pub pair_turn_leads : {A : Type 0} (descent : Bool) (levels : Levels) (s : State) (next : Levels → State → Outcome A) → IsBehind P r s → ((l : Levels) (t : State) → IsBehind P r t → LeadsAt P position r (next l t)) → LeadsAt P position r (pair_turn descent levels s next)
  pair_turn_leads descent levels s next h k = turn_leads s _ h (λ t f. descends_leads descent levels t _ f (λ l. k l t f))

  pub room_leads : {A : Type 0} (cost : ℕ) (s : State) (next : State → Outcome A) → IsBehind P r s → ((t : State) → IsBehind P r t → LeadsAt P position r (next t)) → LeadsAt P position r (room cost s next)
  room_leads cost s next h k = room_claims steps (λ o. LeadsAt P position r o) cost s next h (λ why t f. stopped_leads why t f) k

  -- ---- with what a value has

  pub turn_makes : {A : Type 0} (Good : A → State → Type 0) (s : State) (next : State → Outcome A) → IsBehind P r s → ((t : State) → IsBehind P r t → Makes P position r Good (next t)) → Makes P position r Good (turn s next)
  turn_makes Good s next h k = turn_claims steps (λ o. Makes P position r Good o) s next h (λ why. record { leads = stopped_leads why s h; good = tt }) k

  pub room_makes : {A : Type 0} (Good : A → State → Type 0) (cost : ℕ) (s : State) (next : State → Outcome A) → IsBehind P r s → ((t : State) → IsBehind P r t → Makes P position r Good (next t)) → Makes P position r Good (room cost s next)
  room_makes Good cost s next h k = room_claims steps (λ o. Makes P position r Good o) cost s next h (λ why t f. record { leads = stopped_leads why t f; good = tt }) k
