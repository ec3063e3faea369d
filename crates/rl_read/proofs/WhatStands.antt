-- Reading leaves the cells that stood at first, and of the counts takes turns and cells alone: it changes only pairs that it made itself.
use Rattle.std.proofs.Common.{◌≡◌, ◌∙◌, sym, ℕ, zero, suc, ◌-◌, ◌<◌, ◌^◌, ◌≤◌, inl, inr, set, ◌∷◌, Bool, true, false, nat_le, if◌then◌else◌, List, [], ◌++◌, length, Option, Some, None, refl, ap, subst, arith}
use Rattle.std.proofs.Math.Seq.{get_or-append_right}
use Rattle.std.proofs.lemmas.Bool.{cases_lt}
use Rattle.std.proofs.lemmas.List.{get_or_append_left, get_or_past, get_or-set_other, length-append, length-set}
use Rattle.std.specs.Prelude.{replicate, Result, Ok, Err, IfOk}
use Rattle.rl_tags.specs.Tagged.{Tagged, PairAt, StrAt, VectorAt}
use Rattle.rl_cells.specs.Cell.{Cell, PairCell, StrCell, VectorCell, More, car_of, cell_at, changed_at, cost_of, placed}
use Rattle.rl_syms.specs.Functions.{words_of_function}
use Rattle.rl_tree.specs.Name.{Name, quote_name}
use Rattle.rl_text.specs.Word.{Atom, Integer, Identifier, String}
use Rattle.rl_text.specs.Maker.{Made, Has, Wants}
use Rattle.rl_text.specs.Makers.{IsFit}
use Rattle.rl_text.specs.Keeping.{MadeKept, made_kept, wants_kept, IsKeptByMaker, FramesKept, StepKept, goes_kept, done_kept, refuses_kept, halts_kept, OutcomeKept, read_kept, none_kept, refused_kept, stopped_kept, KeptAlongText}
use Rattle.rl_text.specs.Reader.{ReaderFrame, Mode, ReaderStep, Goes, Done, Refuses, Halts, reader_step, ReaderOutcome, Read, NoneLeft, Refused, Stopped, at_end}
use Rattle.rl_world.specs.Counts.{CountsAreTaken, WorldCounts, room_stop, roomed, ticked, tick_stop}
use Rattle.rl_world.specs.declared.stop.Stop.{Stop}
use Rattle.rl_world.specs.declared.stop.Stop.TheVariants as stop
use Rattle.rl_syms.specs.Made.{id_cost}
use Rattle.rl_syms.specs.Table.{ids_from, nil_value}
use Rattle.rl_world.specs.declared.world.World.{World}
use Rattle.rl_read.specs.Frames.{frames_in}
use Rattle.rl_read.specs.Given.{IsGiven}
use Rattle.rl_read.specs.Reads.{ReadAnswer, IsRefusal, IsStopped}
use Rattle.rl_read.specs.Steps as steps
use Rattle.rl_read.specs.Steps.{mode_of}
use Rattle.rl_read.specs.declared.frames.Group.{Group}
use Rattle.rl_read.specs.declared.read.ReadFault.{ReadFault}
use Rattle.rl_read.specs.declared.read.ReadFault.TheVariants as fault
use Rattle.rl_read.specs.declared.word.Mode as word
use Rattle.rl_read.specs.declared.word.Mode.TheVariants as mode
use Rattle.rl_read.specs.ReadingKeepsCells.{CellsStay, LeavesWhatStood, IsChainBehind, keeping_what_stood, ReadingKeepsCells}
use Rattle.rl_read.specs.Stock.{Stock, PairChain, and_then_made, atom_made, chain_ended, chain_extended, chain_hung, elements_of, entered, entered_at, identifier_at, identifier_made, in_stock, named_among, object_made, pair_made, quote_made, stock_with_cdr, stock_of, turned, turned_at, vector_made, with_room, with_room_at}
use Rattle.rl_read.proofs.ByteByByte.{IsPassed, passed_frames, passed_same, passed_stock}

-- ---- cells

-- no held function begins among the cells of another object
none_placed : (c : Cell) → words_of_function c ≡ None → (n k : ℕ) → words_of_function (cell_at (c ∷ replicate n More) k) ≡ None
none_placed c none n zero = none
none_placed c none n (suc k) = none_behind n k
  where
    none_behind : (n k : ℕ) → words_of_function (cell_at (replicate n More) k) ≡ None
    none_behind zero k = refl
    none_behind (suc n) zero = refl
    none_behind (suc n) (suc k) = none_behind n k

none_set : (cells : List Cell) (i k : ℕ) (c : Cell) → words_of_function c ≡ None → words_of_function (cell_at cells k) ≡ None → words_of_function (cell_at (set cells i c) k) ≡ None
none_set [] i k c none h = refl
none_set (x ∷ cells) zero zero c none h = none
none_set (x ∷ cells) zero (suc k) c none h = h
none_set (x ∷ cells) (suc i) zero c none h = h
none_set (x ∷ cells) (suc i) (suc k) c none h = none_set cells i k c none h

none_past : (cells : List Cell) (k : ℕ) → length cells ≤ k → words_of_function (cell_at cells k) ≡ None
none_past cells k l = ap words_of_function (get_or_past cells k More l)

pub stand_refl : (cells : List Cell) → CellsStay cells cells
stand_refl cells = record { longer = omega arith; stands = λ k l. refl; functions = record { words = λ k. refl } }

pub stand_added : (old cells : List Cell) (c : Cell) → words_of_function c ≡ None → CellsStay old cells → CellsStay old (cells ++ placed c)
stand_added old cells c none h = record {
  longer = omega (arith, h.longer, length-append cells (placed c));
  stands = λ k l. get_or_append_left cells (placed c) More k (omega (arith, l, h.longer)) ∙ h.stands k l;
  functions = record {
    words = λ k. elim (cases_lt k (length cells)) [
      | inl l ↦ ap words_of_function (get_or_append_left cells (placed c) More k l) ∙ h.functions.words k
      | inr l ↦ ap words_of_function (get_or-append_right cells (placed c) k More l) ∙ none_placed c none (cost_of c - 1) (k - length cells) ∙ sym (none_past old k (omega (arith, l, h.longer)))
    ];
  };
}

pub stand_changed : (old cells : List Cell) (i : ℕ) (c : Cell) → words_of_function c ≡ None → length old ≤ i → CellsStay old cells → CellsStay old (changed_at cells (PairAt i) c)
stand_changed old cells i c none behind h =
    let others : (k : ℕ) → k < length old → cell_at (set cells i c) k ≡ cell_at cells k = λ k l. get_or-set_other cells i k c More (λ same. absurd (omega (arith, same, l, behind))) in
    record {
      longer = omega (arith, h.longer, length-set cells i c);
      stands = λ k l. others k l ∙ h.stands k l;
      functions = record {
        words = λ k. elim (cases_lt k (length old)) [
          | inl l ↦ ap words_of_function (others k l) ∙ h.functions.words k
          | inr l ↦ let past = none_past old k l in none_set cells i k c none (h.functions.words k ∙ past) ∙ sym past
        ];
      };
    }

-- ---- a stock

pub stood_refl : CountsAreTaken → (k : Stock) → LeavesWhatStood k k
stood_refl law k = record { cells = stand_refl k.cells.cells; counts = law.none k.counts }

pub stood_ticked : CountsAreTaken → (start k : Stock) → LeavesWhatStood start k → LeavesWhatStood start (record k { counts = ticked k.counts })
stood_ticked law start k h = record { cells = h.cells; counts = law.both start.counts k.counts (ticked k.counts) h.counts (law.turn k.counts) }

-- levels alone are others
pub stood_levels : (start made now : Stock) (n : ℕ) → record made { left = n } ≡ now → LeavesWhatStood start made → LeavesWhatStood start now
stood_levels start made now n e h = subst (λ (k : Stock). LeavesWhatStood start k) e (record { cells = h.cells; counts = h.counts })

-- ---- what is made

module _ (law : CountsAreTaken) (start : Stock) where
  -- a pair behind the cells that stood at first
  abbrev IsBehind : Tagged → Type 0
  IsBehind p = (i : ℕ) × (length start.cells.cells ≤ i) × (p ≡ PairAt i)

  abbrev Stood : Stock → Type 0
  Stood k = LeavesWhatStood start k

  abbrev Makes : {A : Type 0} → (A → Type 0) → Made Stock A Stop → Type 0
  Makes P (Has a k) = Stood k × P a
  Makes P (Wants s k) = Stood k

  abbrev Anything : {A : Type 0} → A → Type 0
  Anything a = Unit {0}

  then_makes : {A B : Type 0} (P : A → Type 0) (Q : B → Type 0) (x : Made Stock A Stop) (f : A → Stock → Made Stock B Stop) → Makes P x → ((a : A) (k : Stock) → Stood k → P a → Makes Q (f a k)) → Makes Q (and_then_made x f)
  then_makes P Q (Has a k) f h g = g a k h.0 h.1
  then_makes P Q (Wants s k) f h g = h

  room_makes_at : (o : Option Stop) (cost : ℕ) (k : Stock) → Stood k → Makes Anything (with_room_at o cost k)
  room_makes_at (Some s) cost k h = h
  room_makes_at None cost k h = (record { cells = h.cells; counts = law.both start.counts k.counts (roomed k.counts cost) h.counts (law.cells k.counts cost) }, tt)

  room_makes : (cost : ℕ) (k : Stock) → Stood k → Makes Anything (with_room cost k)
  room_makes cost k h = room_makes_at (room_stop k.counts k.cells cost) cost k h

  object_makes : (P : Tagged → Type 0) (at : ℕ → Tagged) (c : Cell) (k : Stock) → words_of_function c ≡ None → ((n : ℕ) → length start.cells.cells ≤ n → P (at n)) → Stood k → Makes P (object_made at c k)
  object_makes P at c k none f h = then_makes Anything P (with_room (cost_of c) k) _ (room_makes (cost_of c) k h) (λ u k h t. (record { cells = stand_added start.cells.cells k.cells.cells c none h.cells; counts = h.counts }, f (length k.cells.cells) h.cells.longer))

  pair_makes : (a d : Tagged) (k : Stock) → Stood k → Makes IsBehind (pair_made a d k)
  pair_makes a d k h = object_makes IsBehind (λ n. PairAt n) (PairCell a d) k refl (λ n l. (n, l, refl)) h

  identifier_makes : (name : Name) (k : Stock) → Stood k → Makes Anything (identifier_made name k)
  identifier_makes name k h = at (named_among k.cells.cells name (ids_from k.cells.cells k.head))
    where
      at : (o : Option ℕ) → Makes Anything (identifier_at o name k)
      at (Some i) = (h, tt)
      at None = then_makes Anything Anything (with_room (id_cost name) k) _ (room_makes (id_cost name) k h) (λ u k h t. (record { cells = stand_added start.cells.cells _ _ refl (stand_added start.cells.cells k.cells.cells (StrCell name) refl h.cells); counts = h.counts }, tt))

  atom_makes : (a : Atom) (k : Stock) → Stood k → Makes Anything (atom_made a k)
  atom_makes (Integer z) k h = (h, tt)
  atom_makes (Identifier name) k h = identifier_makes name k h
  atom_makes (String bytes) k h = object_makes Anything (λ n. StrAt n) (StrCell bytes) k refl (λ n l. tt) h

  cdr_stands : (p v : Tagged) (k : Stock) → IsBehind p → Stood k → Stood (stock_with_cdr p v k)
  cdr_stands p v k b h = record { cells = rw b.2 (stand_changed start.cells.cells k.cells.cells b.0 (PairCell (car_of k.cells.cells (PairAt b.0)) v) refl b.1 h.cells); counts = h.counts }

  hung_makes : (c : PairChain) (p : Tagged) (k : Stock) → (IsChainBehind start) c → IsBehind p → Stood k → Makes (IsChainBehind start) (chain_hung c p k)
  hung_makes None p k b e h = (h, e)
  hung_makes (Some c) p k b e h = (cdr_stands c.1 p k b h, e)

  extended_makes : (c : PairChain) (v : Tagged) (k : Stock) → (IsChainBehind start) c → Stood k → Makes (IsChainBehind start) (chain_extended c v k)
  extended_makes c v k b h = then_makes IsBehind (IsChainBehind start) (pair_made v nil_value k) _ (pair_makes v nil_value k h) (λ p k h e. hung_makes c p k b e h)

  ended_makes : (c : PairChain) (v : Tagged) (k : Stock) → (IsChainBehind start) c → Stood k → Makes (IsChainBehind start) (chain_ended c v k)
  ended_makes None v k b h = (h, tt)
  ended_makes (Some c) v k b h = (cdr_stands c.1 v k b h, b)

  vector_makes : (c : PairChain) (k : Stock) → Stood k → Makes Anything (vector_made c k)
  vector_makes c k h = let xs = elements_of k.cells.cells c in at xs (nat_le (length xs) (2 ^ 31))
    where
      at : (xs : List Tagged) (b : Bool) → Makes Anything (if b then object_made (λ n. VectorAt n) (VectorCell xs) k else Wants stop.Cells k)
      at xs true = object_makes Anything (λ n. VectorAt n) (VectorCell xs) k refl (λ n l. tt) h
      at xs false = h

  quote_makes : (v : Tagged) (k : Stock) → Stood k → Makes Anything (quote_made v k)
  quote_makes v k h = then_makes Anything Anything (identifier_made quote_name k) _ (identifier_makes quote_name k h) (λ q k h t.
      then_makes IsBehind Anything (pair_made v nil_value k) _ (pair_makes v nil_value k h) (λ p k h b. with_any (pair_made q p k) (pair_makes q p k h)))
    where
      with_any : (x : Made Stock Tagged Stop) → Makes IsBehind x → Makes Anything x
      with_any (Has a k) h = (h.0, tt)
      with_any (Wants s k) h = h

  enter_makes : (k : Stock) → Stood k → Makes Anything (entered k)
  enter_makes k h = at k.left
    where
      at : (n : ℕ) → Makes Anything (entered_at n k)
      at zero = h
      at (suc n) = (record { cells = h.cells; counts = h.counts }, tt)

  turn_makes : (turns : Bool) (k : Stock) → Stood k → Makes Anything (turned turns k)
  turn_makes false k h = (h, tt)
  turn_makes true k h = at (tick_stop k.counts)
    where
      at : (o : Option Stop) → Makes Anything (turned_at o k)
      at None = (stood_ticked law start k h, tt)
      at (Some s) = h

  kept : {A : Type 0} (P : A → Type 0) (x : Made Stock A Stop) → Makes P x → MadeKept (keeping_what_stood start) P x
  kept P (Has a k) h = made_kept a k h.1 h.0
  kept P (Wants s k) h = wants_kept s k h

  maker_keeps : (turns : Bool) → IsKeptByMaker (keeping_what_stood start) (in_stock turns)
  maker_keeps turns = record {
    turn = λ k h. kept Anything _ (turn_makes turns k h);
    enter = λ k h. kept Anything _ (enter_makes k h);
    leave = λ k h. record { cells = h.cells; counts = h.counts };
    atom = λ a is k h. kept Anything _ (atom_makes a k h);
    nil = tt;
    empty = tt;
    extended = λ c v k b e h. kept (IsChainBehind start) _ (extended_makes c v k b h);
    ended = λ c v k b e h. kept (IsChainBehind start) _ (ended_makes c v k b h);
    list = λ c b. tt;
    vector = λ c k b h. kept Anything _ (vector_makes c k h);
    quoted = λ v k e h. kept Anything _ (quote_makes v k h);
  }

pub cells_kept : CountsAreTaken → ((start : Stock) → KeptAlongText (keeping_what_stood start)) → ReadingKeepsCells
cells_kept counts law = record {
  text = λ start turns k bytes h. (law start).text (in_stock turns) (maker_keeps counts start turns) k bytes h;
  byte = λ start turns mode b fs k fit f h. (law start).byte (in_stock turns) (maker_keeps counts start turns) mode b fs k fit f h;
  end = λ start turns mode fs k fit f h. (law start).end (in_stock turns) (maker_keeps counts start turns) mode fs k fit f h;
  first = stood_refl counts;
}

-- ---- a byte, and the end of a text

-- the mode of a word
pub fit_of : (m : word.Mode) (bytes : List ℕ) → steps.IsMode m bytes → IsFit (mode_of m bytes)
fit_of mode.Gap bytes h = tt
fit_of mode.Comment bytes h = tt
fit_of mode.Name bytes h = h
fit_of mode.Escape bytes h = omega (arith, h)
fit_of (mode.Sign c) bytes h = tt
fit_of (mode.Number minus n) bytes h = tt
fit_of mode.Text bytes h = tt
fit_of mode.Quote bytes h = tt

module _ (law : ReadingKeepsCells) (start : Stock) where
  abbrev AreFramesBehind : List (ReaderFrame PairChain) → Type 0
  AreFramesBehind fs = FramesKept (keeping_what_stood start) fs

  abbrev Steps : ReaderStep Stock Tagged PairChain Stop → Type 0
  Steps (Goes m fs k) = LeavesWhatStood start k × AreFramesBehind fs
  Steps (Done v used k) = LeavesWhatStood start k
  Steps (Refuses k) = LeavesWhatStood start k
  Steps (Halts s k) = LeavesWhatStood start k

  abbrev Comes : ReaderOutcome Stock Tagged Stop → Type 0
  Comes (Read v k rest) = LeavesWhatStood start k
  Comes (NoneLeft k) = LeavesWhatStood start k
  Comes (Refused k from) = LeavesWhatStood start k
  Comes (Stopped s k rest) = LeavesWhatStood start k

  step_leaves : (x : ReaderStep Stock Tagged PairChain Stop) → StepKept (keeping_what_stood start) x → Steps x
  step_leaves x (goes_kept m fs k fit f h) = (h, f)
  step_leaves x (done_kept v used k e h) = h
  step_leaves x (refuses_kept k h) = h
  step_leaves x (halts_kept s k h) = h

  outcome_leaves : (x : ReaderOutcome Stock Tagged Stop) → OutcomeKept (keeping_what_stood start) x → Comes x
  outcome_leaves x (read_kept v k rest e h) = h
  outcome_leaves x (none_kept k h) = h
  outcome_leaves x (refused_kept k from h) = h
  outcome_leaves x (stopped_kept s k rest h) = h

  -- what a byte comes to
  pub byte_stands : (t : Bool) (m : Mode) (x : ℕ) (fs : List (ReaderFrame PairChain)) (k : Stock) (y : ReaderStep Stock Tagged PairChain Stop) → IsFit m → AreFramesBehind fs → LeavesWhatStood start k → reader_step (in_stock t) m x fs k ≡ y → Steps y
  byte_stands t m x fs k y fit b h e = subst (λ (y : ReaderStep Stock Tagged PairChain Stop). Steps y) e (step_leaves _ (law.byte start t m x fs k fit b h))

  pub end_stands : (t : Bool) (m : Mode) (fs : List (ReaderFrame PairChain)) (k : Stock) → IsFit m → AreFramesBehind fs → LeavesWhatStood start k → Comes (at_end (in_stock t) m fs k)
  end_stands t m fs k fit b h = outcome_leaves _ (law.end start t m fs k fit b h)

-- ---- in a world

-- a byte was given, or none was left
pub given_stands : CountsAreTaken → (start : Stock) (turns : Bool) (base : ℕ) (old new : World) (g : Group) (b : Option ℕ) → IsGiven turns old new b → IsPassed old new → LeavesWhatStood start (stock_of old) × FramesKept (keeping_what_stood start) (frames_in base old g)
    → LeavesWhatStood start (stock_of new) × FramesKept (keeping_what_stood start) (frames_in base new g)
given_stands law start turns base old new g b given e h = (stood turns b given, subst (λ fs. FramesKept (keeping_what_stood start) fs) (sym (passed_frames base old new g e)) h.1)
  where
    same : new.counts ≡ old.counts → LeavesWhatStood start (stock_of new)
    same s = subst (λ k. LeavesWhatStood start k) (sym (passed_same old new e s)) h.0

    stood : (turns : Bool) (b : Option ℕ) → IsGiven turns old new b → LeavesWhatStood start (stock_of new)
    stood true (Some b) given = subst (λ k. LeavesWhatStood start k) (sym (passed_stock old new e ∙ ap (λ (c : WorldCounts). record (stock_of old) { counts = c }) given.counted)) (stood_ticked law start (stock_of old) h.0)
    stood true None given = same given
    stood false b given = same given

-- the text has ended, in any of the ways
pub answer_stands : (law : ReadingKeepsCells) (start : Stock) (r : Result Tagged ReadFault) (answer : Bool → ReadAnswer) (new : World) (k : ℕ) → Comes law start (answer true) → IfOk r (λ v. (t : Bool) → answer t ≡ Read v (stock_of new) [])
    → ((j : ℕ) → r ≡ Err (fault.Syntax j) → (j ≡ k) × IsRefusal new answer []) → (r ≡ Err fault.End → (t : Bool) → answer t ≡ NoneLeft (stock_of new)) → ((s : Stop) → r ≡ Err (fault.Stop s) → IsStopped answer s [] (stock_of new)) → LeavesWhatStood start (stock_of new)
answer_stands law start (Ok v) answer new k h ok syntax none stopped = subst (Comes law start) (ok true) h
answer_stands law start (Err (fault.Syntax j)) answer new k h ok syntax none stopped = let r = (syntax j refl).1 in stood_levels start r.made (stock_of new) _ r.stays (subst (Comes law start) (r.refused true) h)
answer_stands law start (Err fault.End) answer new k h ok syntax none stopped = subst (Comes law start) (none refl true) h
answer_stands law start (Err (fault.Stop s)) answer new k h ok syntax none stopped = subst (Comes law start) (stopped s refl true) h
