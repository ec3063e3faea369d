-- What stays, at each step of an expansion, of the state in which it began: turns, levels, cells and what is watched.
use Rattle.std.proofs.Common.{◌≡◌, ◌≤◌, ◌-◌, ℕ, zero, suc, Bool, true, false, List, Option, Some, None, refl, subst, arith}
use Rattle.std.specs.Prelude.{nat_le}
use Rattle.rl_meaning.specs.State.{State, Entry, Counts, Expansion, Watched}
use Rattle.rl_meaning.specs.Outcome.{Outcome, Done, Failed, Went, Returned, Stopped, then_do, expansion_turn, turn_of, turn, Levels, in_levels, deeper, descends, pair_turn, cells_within, run_room, expansion_within, expansion_room, room}
use Rattle.rl_agrees.specs.Expanding.{IsLonger, NoMore}

-- ---- outcomes: what is said of a result and of a GO or RETURN; nothing is said of an error and of a stop, since an expansion that meets one is none

abbrev pub EndsAs : {A : Type 0} → (A → State → Type 0) → (State → Type 0) → Outcome A → Type 0
EndsAs P Q (Done a t) = P a t
EndsAs P Q (Failed n m t) = Unit {0}
EndsAs P Q (Went l t) = Q t
EndsAs P Q (Returned v t) = Q t
EndsAs P Q (Stopped why t) = Unit {0}

pub record Ends {A : Type 0} (P : A → State → Type 0) (Q : State → Type 0) (o : Outcome A) : Type 0 where
  pub ends : EndsAs P Q o

-- and then
pub then_ends : {A B : Type 0} (P : A → State → Type 0) (R : B → State → Type 0) (Q : State → Type 0) (o : Outcome A) (next : A → State → Outcome B) → Ends P Q o → ((a : A) (t : State) → P a t → Ends R Q (next a t)) → Ends R Q (then_do o next)
then_ends P R Q (Done a t) next h k = k a t h.ends
then_ends P R Q (Failed n m t) next h k = record { ends = tt }
then_ends P R Q (Went l t) next h k = record { ends = h.ends }
then_ends P R Q (Returned v t) next h k = record { ends = h.ends }
then_ends P R Q (Stopped why t) next h k = record { ends = tt }

pub ends_weaken : {A : Type 0} (P R : A → State → Type 0) (Q S : State → Type 0) (o : Outcome A) → ((a : A) (t : State) → P a t → R a t) → ((t : State) → Q t → S t) → Ends P Q o → Ends R S o
ends_weaken P R Q S (Done a t) h k e = record { ends = h a t e.ends }
ends_weaken P R Q S (Failed n m t) h k e = record { ends = tt }
ends_weaken P R Q S (Went l t) h k e = record { ends = k t e.ends }
ends_weaken P R Q S (Returned v t) h k e = record { ends = k t e.ends }
ends_weaken P R Q S (Stopped why t) h k e = record { ends = tt }

-- ---- counts

-- one expansion is open
abbrev pub IsOutermost : Option Expansion → Type 0
IsOutermost None = ⊥
IsOutermost (Some e) = e.inner_count ≡ 0

-- the run's turns stay, and no cells come back
pub record Spent (c d : Counts) : Type 0 where
  pub given : d.given ≡ c.given
  pub turns : d.turns ≡ c.turns
  pub cells : NoMore c.cells d.cells
  pub outermost : IsOutermost d.expansion

pub no_more_refl : (o : Option ℕ) → NoMore o o
no_more_refl None = tt
no_more_refl (Some c) = omega arith

-- ---- what stays of a state in a later one, whose bindings are as this says

pub record Stays (b : State) (B : List Entry → Type 0) (t : State) : Type 0 where
  pub store : IsLonger b.store t.store
  pub functions : IsLonger b.functions t.functions
  pub symbols : t.symbols ≡ b.symbols
  pub outside : t.outside ≡ b.outside
  pub gensyms : t.gensyms ≡ b.gensyms
  pub compilation : t.compilation ≡ b.compilation
  pub counts : Spent b.counts t.counts
  pub bindings : B t.bindings

-- a result, or a GO or RETURN of which this is said
abbrev pub Leaves : {A : Type 0} → State → (List Entry → Type 0) → (State → Type 0) → Outcome A → Type 0
Leaves {A} b B Q o = Ends {A = A} (λ a t. Stays b B t) Q o

pub with_counts_stays : (b : State) (B : List Entry → Type 0) (s : State) (d : Counts) → Spent b.counts d → Stays b B s → Stays b B (record s { counts = d })
with_counts_stays b B s d h k = record { store = k.store; functions = k.functions; symbols = k.symbols; outside = k.outside; gensyms = k.gensyms; compilation = k.compilation; counts = h; bindings = k.bindings }

pub with_bindings_stays : (b : State) (B C : List Entry → Type 0) (s : State) (es : List Entry) → C es → Stays b B s → Stays b C (record s { bindings = es })
with_bindings_stays b B C s es h k = record { store = k.store; functions = k.functions; symbols = k.symbols; outside = k.outside; gensyms = k.gensyms; compilation = k.compilation; counts = k.counts; bindings = h }

pub watched_stays : (b : State) (B : List Entry → Type 0) (s : State) (w : Watched) → Stays b B s → Stays b B (record s { watched = w })
watched_stays b B s w k = record { store = k.store; functions = k.functions; symbols = k.symbols; outside = k.outside; gensyms = k.gensyms; compilation = k.compilation; counts = k.counts; bindings = k.bindings }

pub done_stays : {A : Type 0} (b : State) (B : List Entry → Type 0) (Q : State → Type 0) (a : A) (t : State) → Stays b B t → Leaves b B Q (Done a t)
done_stays b B Q a t h = record { ends = h }

pub then_stays : {A B' : Type 0} (b : State) (B : List Entry → Type 0) (Q : State → Type 0) (o : Outcome A) (next : A → State → Outcome B') → Leaves b B Q o → ((a : A) (t : State) → Stays b B t → Leaves b B Q (next a t)) → Leaves b B Q (then_do o next)
then_stays b B Q o next h k = then_ends _ _ Q o next h k

module _ {A : Type 0} (b : State) (B : List Entry → Type 0) (P : A → State → Type 0) (Q : State → Type 0) where
  -- ---- turns: they are those of the expansion

  pub turn_ends : (s : State) (next : State → Outcome A) → Stays b B s → ((t : State) → Stays b B t → Ends P Q (next t)) → Ends P Q (turn s next)
  turn_ends s next k h = at s.counts.expansion k.counts.outermost
    where
      expansion_at : (n : ℕ) (x : Expansion) → x.inner_count ≡ 0 → Ends P Q (expansion_turn n x s next)
      expansion_at zero x o = record { ends = tt }
      expansion_at (suc n) x o = h _ (with_counts_stays b B s _ (record { given = k.counts.given; turns = k.counts.turns; cells = k.counts.cells; outermost = o }) k)

      at : (e : Option Expansion) → IsOutermost e → Ends P Q (turn_of e s next)
      at None o = absurd o
      at (Some x) o = expansion_at x.turns x o

  -- ---- levels

  entered_ends : (c : Bool) (l : ℕ) (s : State) (next : Levels → Outcome A) → ((l : Levels) → Ends P Q (next l)) → Ends P Q (in_levels c l s next)
  entered_ends true l s next h = h (Some l)
  entered_ends false l s next h = record { ends = tt }

  pub deeper_ends : (n : ℕ) (levels : Levels) (s : State) (next : Levels → Outcome A) → ((l : Levels) → Ends P Q (next l)) → Ends P Q (deeper n levels s next)
  deeper_ends n None s next h = h None
  deeper_ends n (Some l) s next h = entered_ends _ _ s next h

  pub descends_ends : (c : Bool) (levels : Levels) (s : State) (next : Levels → Outcome A) → ((l : Levels) → Ends P Q (next l)) → Ends P Q (descends c levels s next)
  descends_ends true levels s next h = deeper_ends 1 levels s next h
  descends_ends false levels s next h = h levels

  pub pair_turn_ends : (descent : Bool) (levels : Levels) (s : State) (next : Levels → State → Outcome A) → Stays b B s → ((l : Levels) (t : State) → Stays b B t → Ends P Q (next l t)) → Ends P Q (pair_turn descent levels s next)
  pair_turn_ends descent levels s next k h = turn_ends s _ k (λ t k. descends_ends descent levels t _ (λ l. h l t k))

  -- ---- cells: of the expansion, and of the run

  run_room_ends : (o : Option ℕ) (cost : ℕ) (s : State) (next : State → Outcome A) → s.counts.cells ≡ o → Stays b B s → ((t : State) → Stays b B t → Ends P Q (next t)) → Ends P Q (run_room o cost s next)
  run_room_ends None cost s next e k h = h s k
  run_room_ends (Some c) cost s next e k h = at (nat_le cost c)
    where
      fewer : (o : Option ℕ) → NoMore o (Some c) → NoMore o (Some (c - cost))
      fewer None f = absurd f
      fewer (Some d) f = let g : c ≤ d = f in omega (arith, g)

      at : (x : Bool) → Ends P Q (cells_within x (c - cost) s next)
      at true = h _ (with_counts_stays b B s _ (record { given = k.counts.given; turns = k.counts.turns; cells = fewer b.counts.cells (rw_at e k.counts.cells); outermost = k.counts.outermost }) k)
        where
          rw_at : s.counts.cells ≡ Some c → NoMore b.counts.cells s.counts.cells → NoMore b.counts.cells (Some c)
          rw_at e f = subst (λ x. NoMore b.counts.cells x) e f
      at false = record { ends = tt }

  pub room_ends : (cost : ℕ) (s : State) (next : State → Outcome A) → Stays b B s → ((t : State) → Stays b B t → Ends P Q (next t)) → Ends P Q (room cost s next)
  room_ends cost s next k h = at s.counts.expansion k.counts.outermost
    where
      more : (t : State) → Stays b B t → Ends P Q (run_room t.counts.cells cost t next)
      more t k = run_room_ends t.counts.cells cost t next refl k h

      within : (c : Bool) (x : Expansion) → x.inner_count ≡ 0 → Ends P Q (expansion_within c x cost s (λ t. run_room t.counts.cells cost t next))
      within true x o = more _ (with_counts_stays b B s _ (record { given = k.counts.given; turns = k.counts.turns; cells = k.counts.cells; outermost = o }) k)
      within false x o = record { ends = tt }

      at : (e : Option Expansion) → IsOutermost e → Ends P Q (expansion_room e cost s (λ t. run_room t.counts.cells cost t next))
      at None o = absurd o
      at (Some x) o = within (nat_le cost x.cells) x o
