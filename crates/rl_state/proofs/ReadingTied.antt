-- The world behind a form that was read shows the state with the input behind it.
use Rattle.std.proofs.Common.{◌≡◌, ◌≢◌, ℕ, ◌+◌, ◌-◌, ◌^◌, ◌<◌, ◌≤◌, true, false, List, [], ◌∷◌, ◌++◌, length, min, Option, Some, None, refl, sym, ap, subst, ◌∙◌, arith, append_assoc, append-nil}
use Rattle.std.proofs.lemmas.List.{length-append, length-drop}
use Rattle.std.specs.Prelude.{option_map, Result, Err}
use Rattle.rl_io.specs.Told.{WhereTold}
use Rattle.rl_tags.specs.Tagged.{Tagged}
use Rattle.rl_cells.specs.Cell.{IsClosed}
use Rattle.rl_syms.specs.Contents.{value_of}
use Rattle.rl_syms.specs.Laws.{AreIdentifiers}
use Rattle.rl_text.specs.Word.{Identifier, Integer, String, signed}
use Rattle.rl_text.specs.Maker.{Made, Has, Wants, Maker}
use Rattle.rl_text.specs.Reader.{ReaderFrame, Mode, Gap, Comment, InName, InEscape, AfterSign, InNumber, InText, AfterQuote, Ended, Whole, Inside, Lacks, ReaderStep, Goes, Done, Refuses, Halts, atom_ended, reader_step, ReaderOutcome, Read, NoneLeft, Refused, Stopped, ends_after, at_end_between, at_end, after_step, after_turn, read_by, read_from}
use Rattle.rl_world.specs.Input.{with_back}
use Rattle.rl_world.specs.declared.stop.Stop as stops
use Rattle.rl_world.specs.declared.stop.Stop.TheVariants as stop
use Rattle.rl_world.specs.declared.world.World.{World}
use Rattle.rl_meaning.specs.Input.{End, Form, Unreadable, with_input}
use Rattle.rl_meaning.specs.Outcome as outcome
use Rattle.rl_meaning.specs.State.{Outside, State}
use Rattle.rl_read.specs.Stock.{Stock, in_stock, stock_of}
use Rattle.rl_read.specs.Given.{FrontIsLeft, is_fault}
use Rattle.rl_read.specs.declared.read.ReadFault.{ReadFault}
use Rattle.rl_read.specs.declared.read.ReadFault.TheVariants as fault
use Rattle.rl_read.specs.Reads.{IsRefusedText, IsStoppedText}
use Rattle.rl_read.specs.Frames.{CanMake}
use Rattle.rl_world.specs.Bounds.{IsMakingCounted}
use Rattle.rl_read.specs.Taken.{TakesBytes, Unread, came_of}
use Rattle.rl_state.specs.ShownState.{ShowsState}
use Rattle.rl_state.specs.Ties.{IsPrintedBefore, IsPrintedInPart, LeavesFronts, TakesInput, Ties, ToldAtStart, and_told}
use Rattle.rl_state.specs.CellLaws.{AreCellLaws}
use Rattle.rl_state.specs.Descents.{levels_shown}
use Rattle.rl_state.specs.Ending.{stop_in}
use Rattle.rl_state.specs.ReadsAs.{ReadsNone, ReadsTo, ReadsUntil}
use Rattle.rl_state.specs.Worlds.{IsWorld}
use Rattle.rl_state.proofs.ReadingEnds.{form_read, none_read, refused_read, stop_read}
use Rattle.rl_state.proofs.ToldOn.{out_kept_cut, told_mapped, told_through}
use Rattle.rl_state.proofs.Outer.{shows_outer}
use Rattle.rl_state.proofs.StockShown.{stocked}

-- ---- what is left is no longer than the text

abbrev pub LeavesFew : {S V W : Type 0} → ReaderOutcome S V W → ℕ → Type 0
LeavesFew (Read v s rest) n = length rest ≤ n
LeavesFew (NoneLeft s) n = Unit {0}
LeavesFew (Refused s from) n = length from ≤ n
LeavesFew (Stopped why s rest) n = length rest ≤ n

module _ {S V L W : Type 0} (m : Maker S V L W) where
  few_more : (o : ReaderOutcome S V W) (i j : ℕ) → i ≤ j → LeavesFew o i → LeavesFew o j
  few_more (Read v s rest) i j le h = omega (arith, le, h)
  few_more (NoneLeft s) i j le h = tt
  few_more (Refused s from) i j le h = omega (arith, le, h)
  few_more (Stopped why s rest) i j le h = omega (arith, le, h)

  ends_few : (d : Ended S V L W) (i : ℕ) → LeavesFew (ends_after d) i
  ends_few (Whole v s) i = omega arith
  ends_few (Inside fs s) i = omega arith
  ends_few (Lacks why s) i = omega arith

  between_few : (fs : List (ReaderFrame L)) (s : S) (i : ℕ) → LeavesFew {V = V} {W = W} (at_end_between fs s) i
  between_few [] s i = tt
  between_few (f ∷ fs) s i = omega arith

  end_few : (mode : Mode) (fs : List (ReaderFrame L)) (s : S) (i : ℕ) → LeavesFew (at_end m mode fs s) i
  end_few Gap fs s i = between_few fs s i
  end_few Comment fs s i = between_few fs s i
  end_few (InName cs) fs s i = ends_few (atom_ended m (Identifier cs) fs s) i
  end_few (InEscape cs) fs s i = omega arith
  end_few (AfterSign c) fs s i = ends_few (atom_ended m (Identifier (c ∷ [])) fs s) i
  end_few (InNumber minus n) fs s i = ends_few (atom_ended m (Integer (signed minus n)) fs s) i
  end_few (InText cs) fs s i = omega arith
  end_few (AfterQuote cs) fs s i = ends_few (atom_ended m (String cs) fs s) i

  step_few : (b : ℕ) (bs : List ℕ) (x : ReaderStep S V L W) (further : Mode → List (ReaderFrame L) → S → ReaderOutcome S V W) → ((mode : Mode) (fs : List (ReaderFrame L)) (s : S) → LeavesFew (further mode fs s) (length bs)) → LeavesFew (after_step b bs x further) (length (b ∷ bs))
  step_few b bs (Goes mode fs s) further h = few_more (further mode fs s) (length bs) (length (b ∷ bs)) (omega arith) (h mode fs s)
  step_few b bs (Done v true s) further h = omega arith
  step_few b bs (Done v false s) further h = omega arith
  step_few b bs (Refuses s) further h = omega arith
  step_few b bs (Halts why s) further h = omega arith

  turn_few : (b : ℕ) (bs : List ℕ) (x : Made S (Unit {0}) W) (further : S → ReaderOutcome S V W) → ((s : S) → LeavesFew (further s) (length (b ∷ bs))) → LeavesFew (after_turn bs x further) (length (b ∷ bs))
  turn_few b bs (Has u s) further h = h s
  turn_few b bs (Wants why s) further h = omega arith

  pub reading_leaves_few : (bytes : List ℕ) (mode : Mode) (fs : List (ReaderFrame L)) (s : S) → LeavesFew (read_from m mode fs s bytes) (length bytes)
  reading_leaves_few [] mode fs s = end_few mode fs s 0
  reading_leaves_few (b ∷ bs) mode fs s = turn_few b bs (m.turn s) _ (λ s. step_few b bs (reader_step m mode b fs s) _ (λ mode fs s. reading_leaves_few bs mode fs s))

-- ---- how many bytes were taken

pub taken_so : (given given' back back' came rest input left : ℕ) → given + back + came < 2 ^ 64 → (given + back + came < 2 ^ 64 → given' + back' ≡ given + back + came) → input ≡ back + (came + rest) → left ≡ back' + rest → left ≤ input → given + (input - left) ≡ given'
taken_so given given' back back' came rest input left few counted i l le = let c = counted few in omega (arith, c, i, l, le)

-- what the world shows beside the input
pub read_shows : (w x : World) (left : List ℕ) (t : State) → ShowsState (stocked w (stock_of x)) t → t.outside.taken + (length t.outside.input - length left) ≡ x.input.given
    → x ≡ record w { cells = x.cells; syms = record w.syms { head = x.syms.head }; counts = x.counts; levels = x.levels; output = record w.output { waiting = x.output.waiting }; input = x.input }
    → ShowsState x (with_input left t)
read_shows w x left t h taken e =
    subst (λ y. ShowsState y (with_input left t)) (sym e)
    (shows_outer (stocked w (stock_of x)) x.levels (record w.output { waiting = x.output.waiting }) w.notes x.input t (with_input left t).outside t.watched h.column h.line_length taken h)

-- ---- what is told

printed_same : (a o p : Option (List ℕ)) (u v out : List ℕ) → IsPrintedBefore a o u out → WhereTold (option_map (λ b. b ++ u) o) (option_map (λ b. b ++ v) p) (λ before now. now ≡ before) → IsPrintedBefore a p v out
printed_same None o p u v out h f = tt
printed_same (Some a) None p u v out h f = absurd h
printed_same (Some a) (Some o) None u v out h f = absurd f
printed_same (Some a) (Some o) (Some p) u v out h f = h ∙ sym f

tail_of : List ℕ → List ℕ
tail_of [] = []
tail_of (x ∷ xs) = xs

same_rest : (xs ys zs : List ℕ) → xs ++ ys ≡ xs ++ zs → ys ≡ zs
unfolding tail_of
same_rest [] ys zs e = e
same_rest (x ∷ xs) ys zs e = same_rest xs ys zs (ap tail_of e)

left_same : (a i j : Option (List ℕ)) (bytes rest : List ℕ) → WhereTold a i (λ before left. left ≡ bytes ++ rest) → WhereTold i j (λ before now. before ≡ bytes ++ now) → WhereTold a j (λ before left. left ≡ rest)
left_same a i j bytes rest h f = told_through a i j _ _ _ (λ x y z p q. same_rest bytes z rest (sym q ∙ p)) h f

back_long : (back : Option ℕ) (rest : List ℕ) → length (with_back back rest) ≡ length (with_back back []) + length rest
back_long None rest = omega arith
back_long (Some b) rest = omega arith

abbrev pub unread_of : World → Option (List ℕ) → Unread
unread_of w i = record { returned = w.input.back; given = w.input.given; ended = w.input.ended; left = i }

-- the world behind the bytes that were taken ties to the state with the input behind them
pub read_ties : (w x : World) (at : ToldAtStart) (o p n q i j : Option (List ℕ)) (bytes rest : List ℕ) (s t : State) → Ties at (and_told w o n i) (bytes ++ rest) s → (x.input.ended ≡ true → rest ≡ [])
    → ShowsState (stocked w (stock_of x)) t → t.outside ≡ s.outside → length (with_back x.input.back rest) ≤ length s.outside.input
    → x ≡ record w { cells = x.cells; syms = record w.syms { head = x.syms.head }; counts = x.counts; levels = x.levels; output = record w.output { waiting = x.output.waiting }; input = x.input }
    → (came_of (unread_of w i) + length bytes < 2 ^ 64 → came_of (unread_of x j) ≡ came_of (unread_of w i) + length bytes)
    → WhereTold i j (λ before now. before ≡ bytes ++ now) → WhereTold (option_map (λ b. b ++ w.output.waiting) o) (option_map (λ b. b ++ x.output.waiting) p) (λ before now. now ≡ before) → q ≡ n
    → Ties at (and_told x p q j) rest (with_input (with_back x.input.back rest) t)
read_ties w x at o p n q i j bytes rest s t h only shown beside le keeps counted told printed same =
    let left = with_back x.input.back rest in
    let both = length-append bytes rest in
    let long = ap (λ (l : List ℕ). length l) h.input ∙ back_long w.input.back (bytes ++ rest) in
    let ends = back_long x.input.back rest in
    let few = h.few in
    let start = h.shows.taken in
    let fits : came_of (unread_of w i) + length bytes < 2 ^ 64 = omega (arith, few, start, long, both) in
    let count = counted fits in
    let came : s.outside.taken + (length s.outside.input - length left) ≡ x.input.given = omega (arith, count, start, long, both, ends, le) in
    let taken : t.outside.taken + (length t.outside.input - length left) ≡ x.input.given = ap (λ (y : Outside). y.taken + (length y.input - length left)) beside ∙ came in
    record {
      shows = read_shows w x left t shown taken keeps;
      output = subst (λ (y : Outside). IsPrintedBefore at.out p x.output.waiting y.output) (sym beside) (printed_same at.out o p w.output.waiting x.output.waiting s.outside.output h.output printed);
      notes = subst (λ (y : Outside). IsPrintedBefore at.notes q x.notes y.notes) (sym beside) (subst (λ l. IsPrintedBefore at.notes l x.notes s.outside.notes) (sym same) (subst (λ (l : List ℕ). IsPrintedBefore at.notes n l s.outside.notes) (sym (ap (λ (y : World). y.notes) keeps)) h.notes));
      input = refl;
      left = left_same at.source i j bytes rest h.left told;
      ended = only;
      few = omega (arith, taken, count, few, start, long, both, ends);
    }

-- a form that was read of the input
pub form_takes : AreCellLaws → AreIdentifiers → (w x : World) (o p n q i j : Option (List ℕ)) (v : Tagged) → IsWorld w → IsClosed w.cells.cells
    → x ≡ record w { cells = x.cells; syms = record w.syms { head = x.syms.head }; counts = x.counts; levels = x.levels; output = record w.output { waiting = x.output.waiting }; input = x.input }
    → WhereTold (option_map (λ b. b ++ w.output.waiting) o) (option_map (λ b. b ++ x.output.waiting) p) (λ before now. now ≡ before) → q ≡ n
    → TakesBytes (unread_of w i) (unread_of x j) (λ before now. read_by (in_stock true) (stock_of w) before ≡ Read v (stock_of x) now)
    → TakesInput (and_told w o n i) (and_told x p q j) (λ at rest s. ReadsTo (levels_shown w) (Form (value_of x.cells.cells v) (with_back x.input.back rest)) (with_back x.input.back rest) (and_told x p q j) at rest s)
form_takes laws ids w x o p n q i j v world closed keeps printed same h = record {
  bytes = h.bytes;
  told = h.told;
  dry = h.dry;
  ended = h.ended;
  means = λ at rest s t only.
      let left = with_back x.input.back rest in
      let is : read_by (in_stock true) (stock_of w) s.outside.input ≡ Read v (stock_of x) left = subst (λ (l : List ℕ). read_by (in_stock true) (stock_of w) l ≡ Read v (stock_of x) left) (sym t.input) (h.means rest only) in
      let e = form_read laws ids true w world closed s t.shows s.outside.input v (stock_of x) left is in
      let few : length left ≤ length s.outside.input = subst (λ y. LeavesFew y (length s.outside.input)) is (reading_leaves_few (in_stock true) s.outside.input Gap [] (stock_of w)) in
      (e.state, e.is, read_ties w x at o p n q i j h.bytes rest s e.state t only e.stands.shows e.stands.outside few keeps h.counted h.told printed same);
}

-- where nothing but blanks and comments was left of the input
pub end_takes : AreCellLaws → AreIdentifiers → (w x : World) (o p n q i j : Option (List ℕ)) → IsWorld w → IsClosed w.cells.cells
    → x ≡ record w { cells = x.cells; syms = record w.syms { head = x.syms.head }; counts = x.counts; levels = x.levels; output = record w.output { waiting = x.output.waiting }; input = x.input }
    → WhereTold (option_map (λ b. b ++ w.output.waiting) o) (option_map (λ b. b ++ x.output.waiting) p) (λ before now. now ≡ before) → q ≡ n
    → TakesBytes (unread_of w i) (unread_of x j) (λ before now. (now ≡ []) × (read_by (in_stock true) (stock_of w) before ≡ NoneLeft (stock_of x)))
    → TakesInput (and_told w o n i) (and_told x p q j) (λ at rest s. ReadsTo (levels_shown w) End [] (and_told x p q j) at rest s)
end_takes laws ids w x o p n q i j world closed keeps printed same h = record {
  bytes = h.bytes;
  told = h.told;
  dry = h.dry;
  ended = h.ended;
  means = λ at rest s t only.
      let left = with_back x.input.back rest in
      let both : (left ≡ []) × (read_by (in_stock true) (stock_of w) (with_back w.input.back (h.bytes ++ rest)) ≡ NoneLeft (stock_of x)) = h.means rest only in
      let is : read_by (in_stock true) (stock_of w) s.outside.input ≡ NoneLeft (stock_of x) = subst (λ (l : List ℕ). read_by (in_stock true) (stock_of w) l ≡ NoneLeft (stock_of x)) (sym t.input) both.1 in
      let e = none_read laws ids true w world closed s t.shows s.outside.input (stock_of x) is in
      let none = ap (λ (l : List ℕ). length l) both.0 in
      let few : length left ≤ length s.outside.input = omega (arith, none) in
      (e.state, e.is, subst (λ (l : List ℕ). Ties at (and_told x p q j) rest (with_input l e.state)) both.0 (read_ties w x at o p n q i j h.bytes rest s e.state t only e.stands.shows e.stands.outside few keeps h.counted h.told printed same));
}

pub can_make : (w : World) → IsWorld w → CanMake w
can_make w i = record { table = i.table; bounds = i.running.bounds; counted = subst (λ a. IsMakingCounted a w.counts.outermost w.cells.mark) (sym i.running.together) tt }

least : (a : ℕ) → a < 2 ^ 64 → min a (2 ^ 64 - 1) ≡ a
least a l = omega (arith, l)

-- a text of the input that was refused: at this byte, behind which the input stands
pub refused_takes : AreCellLaws → AreIdentifiers → (w x : World) (o p n q i j : Option (List ℕ)) (k : ℕ) → IsWorld w → IsClosed w.cells.cells
    → x ≡ record w { cells = x.cells; syms = record w.syms { head = x.syms.head }; counts = x.counts; levels = x.levels; output = record w.output { waiting = x.output.waiting }; input = x.input }
    → WhereTold (option_map (λ b. b ++ w.output.waiting) o) (option_map (λ b. b ++ x.output.waiting) p) (λ before now. now ≡ before) → q ≡ n
    → TakesBytes (unread_of w i) (unread_of x j) (λ before now. IsRefusedText true w x before now k)
    → TakesInput (and_told w o n i) (and_told x p q j) (λ at rest s. ReadsNone (levels_shown w) k (with_back x.input.back rest) (and_told x p q j) at rest s)
refused_takes laws ids w x o p n q i j k world closed keeps printed same h = record {
  bytes = h.bytes;
  told = h.told;
  dry = h.dry;
  ended = h.ended;
  means = λ at rest s t only.
      let left = with_back x.input.back rest in
      let r : IsRefusedText true w x s.outside.input left k = subst (λ (l : List ℕ). IsRefusedText true w x l left k) (sym t.input) (h.means rest only) in
      let e = refused_read laws ids true w world closed s t.shows s.outside.input r.made r.from r.refused in
      let shows : ShowsState (stocked w (stock_of x)) e.state = subst (λ (m : Stock). ShowsState (stocked w m) e.state) r.stays e.stands.shows in
      let from_few : length r.from ≤ length s.outside.input = subst (λ y. LeavesFew y (length s.outside.input)) r.refused (reading_leaves_few (in_stock true) s.outside.input Gap [] (stock_of w)) in
      let dropped = length-drop 1 r.from in
      let behind = ap (λ (l : List ℕ). length l) r.given in
      let few : length left ≤ length s.outside.input = omega (arith, from_few, dropped, behind) in
      let all = t.few in
      let number : k ≡ length s.outside.input - length r.from = r.place ∙ least (length s.outside.input - length r.from) (omega (arith, all)) in
      (r.from, r.given, e.state, e.is ∙ ap (λ m. outcome.Done (Unreadable m r.from) e.state) (sym number), read_ties w x at o p n q i j h.bytes rest s e.state t only shows e.stands.outside few keeps h.counted h.told printed same);
}

-- reading of the input that stopped for want of a turn, of a level or of cells, of which there are no more than there may be
pub stop_takes : AreCellLaws → AreIdentifiers → (w x : World) (o p n q i j : Option (List ℕ)) (why : stops.Stop) → IsWorld w → IsClosed w.cells.cells → length x.cells.cells ≤ 1065536 + x.cells.bound → x.cells.bound ≤ 64000000
    → x ≡ record w { cells = x.cells; syms = record w.syms { head = x.syms.head }; counts = x.counts; levels = x.levels; output = record w.output { waiting = x.output.waiting }; input = x.input }
    → WhereTold (option_map (λ b. b ++ w.output.waiting) o) (option_map (λ b. b ++ x.output.waiting) p) (λ before now. now ≡ before) → q ≡ n
    → TakesBytes (unread_of w i) (unread_of x j) (λ before now. IsStoppedText true w x before now why)
    → TakesInput (and_told w o n i) (and_told x p q j) (λ at rest s. ReadsUntil (levels_shown w) (stop_in x.cells.cells why) (and_told x p q j) at s)
stop_takes laws ids w x o p n q i j why world closed many bound keeps printed same h = record {
  bytes = h.bytes;
  told = h.told;
  dry = h.dry;
  ended = h.ended;
  means = λ at rest s t only.
      let left = with_back x.input.back rest in
      let is : read_by (in_stock true) (stock_of w) s.outside.input ≡ Stopped why (stock_of x) left = subst (λ (l : List ℕ). read_by (in_stock true) (stock_of w) l ≡ Stopped why (stock_of x) left) (sym t.input) (h.means rest only) in
      let e = stop_read laws ids true w world closed s t.shows s.outside.input why (stock_of x) left (omega (arith, many, bound)) is in
      record {
        state = e.0;
        is = e.1;
        output = subst (λ (y : Outside). IsPrintedBefore at.out p x.output.waiting y.output) (sym e.2) (printed_same at.out o p w.output.waiting x.output.waiting s.outside.output t.output printed);
        notes = subst (λ (y : Outside). IsPrintedBefore at.notes q x.notes y.notes) (sym e.2)
            (subst (λ l. IsPrintedBefore at.notes l x.notes s.outside.notes) (sym same) (subst (λ (l : List ℕ). IsPrintedBefore at.notes n l s.outside.notes) (sym (ap (λ (y : World). y.notes) keeps)) t.notes));
      };
}

-- a stop of the counters is no failed write
pub not_written : (r : Result Tagged ReadFault) (why : stops.Stop) → r ≡ Err (fault.Stop why) → is_fault why ≡ false → r ≢ Err (fault.Stop stop.Write)
not_written r why e counted f =
    let same : why ≡ stop.Write = cc in
    let clash : true ≡ false = subst (λ (s : stops.Stop). is_fault s ≡ false) same counted in
    cc

-- ---- a read or a write failed

all_left : (a b : Option (List ℕ)) → WhereTold a b (λ before now. now ≡ before) → WhereTold a b FrontIsLeft
all_left a b h = told_mapped a b (λ before now. now ≡ before) FrontIsLeft (λ x y e. ([], sym e ∙ sym (append-nil y))) h

-- a front of what was printed is left, whichever it was
pub fault_leaves : (a b : Option (List ℕ)) (r : Result Tagged ReadFault) (why : stops.Stop) → r ≡ Err (fault.Stop why) → (r ≢ Err (fault.Stop stop.Write) → WhereTold a b (λ before now. now ≡ before)) → (r ≡ Err (fault.Stop stop.Write) → WhereTold a b FrontIsLeft) → WhereTold a b FrontIsLeft
fault_leaves a b r stop.Write e printed cut = cut e
fault_leaves a b r stop.Read e printed cut = all_left a b (printed (λ f. cc))
fault_leaves a b r stop.Turns e printed cut = all_left a b (printed (λ f. cc))
fault_leaves a b r stop.Cells e printed cut = all_left a b (printed (λ f. cc))
fault_leaves a b r stop.Depth e printed cut = all_left a b (printed (λ f. cc))
fault_leaves a b r (stop.Expansion name) e printed cut = all_left a b (printed (λ f. cc))
fault_leaves a b r stop.Files e printed cut = all_left a b (printed (λ f. cc))
fault_leaves a b r stop.Missing e printed cut = all_left a b (printed (λ f. cc))

front_in_part : (start o p : Option (List ℕ)) (waited waiting output : List ℕ) → IsPrintedBefore start o waited output → WhereTold (option_map (λ b. b ++ waited) o) (option_map (λ b. b ++ waiting) p) FrontIsLeft → IsPrintedInPart start p output
front_in_part None o p waited waiting output h f = tt
front_in_part (Some a) None p waited waiting output h f = absurd h
front_in_part (Some a) (Some b) None waited waiting output h f = absurd f
front_in_part (Some a) (Some b) (Some c) waited waiting output h f = (waiting ++ f.0, h ∙ f.1 ∙ append_assoc c waiting f.0)

pub fault_cuts : (at : ToldAtStart) (w x : World) (o p n q i j : Option (List ℕ)) (coming : List ℕ) (s : State) → q ≡ n → WhereTold (option_map (λ b. b ++ w.output.waiting) o) (option_map (λ b. b ++ x.output.waiting) p) FrontIsLeft
    → Ties at (and_told w o n i) coming s → LeavesFronts at (and_told x p q j) s
fault_cuts at w x o p n q i j coming s same left h = record {
  output = front_in_part at.out o p w.output.waiting x.output.waiting s.outside.output h.output left;
  notes = out_kept_cut at.notes n q w.notes s.outside.notes same h.notes;
}
