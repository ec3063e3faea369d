-- How printing ends: whole, for want of a turn or of a level, or where a write failed.
use Rattle.std.proofs.Common.{◌≡◌, ◌≢◌, ℕ, List, ◌++◌, Option, Some, None, Ok, Err, refl, sym, ap, subst, ◌∙◌, append_assoc}
use Rattle.rl_io.specs.Told.{WhereTold}
use Rattle.rl_tags.specs.Tagged.{Tagged}
use Rattle.rl_tree.specs.Value.{Value}
use Rattle.rl_tree.specs.Atoms.{Style}
use Rattle.rl_tree.specs.Printing.{Ending, NoTurn, Page, Progress, TooDeep, Whole}
use Rattle.rl_syms.specs.Contents.{value_of}
use Rattle.rl_syms.specs.Numbers.{NamesAreNumbered}
use Rattle.rl_world.specs.Counts.{count_turns_left}
use Rattle.rl_world.specs.Input.{with_back}
use Rattle.rl_world.specs.Waiting.{GoesOut}
use Rattle.rl_world.specs.declared.counts.Expansion as expansion
use Rattle.rl_world.specs.declared.stop.Stop as stops
use Rattle.rl_world.specs.declared.stop.Stop.TheVariants as stop
use Rattle.rl_world.specs.declared.world.World.{World}
use Rattle.rl_print.specs.Counted.{IsStop, last_stop_at}
use Rattle.rl_print.specs.Walk.{CutsPrinting, HaltsPrinting, IsPrinted, IsPrinting, progress_in_world, stopped, whole_printed}
use Rattle.rl_meaning.specs.State.{Counts, Expansion, State}
use Rattle.rl_meaning.specs.Outcome.{Outcome, Done, Stopped, then_do}
use Rattle.rl_meaning.specs.Opening.{state_of}
use Rattle.rl_meaning.specs.Constants.{reading_whole}
use Rattle.rl_meaning.specs.Printing.{after_printing, ended_printing, last_stop, printing, with_page}
use Rattle.rl_state.specs.CellLaws.{AreCellLaws}
use Rattle.rl_state.specs.ShownState.{ShowsState, counts_in, expansion_in}
use Rattle.rl_state.specs.Descents.{levels_shown}
use Rattle.rl_state.specs.Ending.{Reaches, stop_in}
use Rattle.rl_state.specs.Ties.{IsPrintedInPart, LeavesFronts, Ties, ToldAtStart, and_told}
use Rattle.rl_state.specs.Prints.{PrintsAs}
use Rattle.rl_state.specs.Worlds.{IsWorld}
use Rattle.rl_state.proofs.ToldOn.{out_cut, out_follows, out_kept, out_kept_cut, told_mapped}
use Rattle.rl_state.proofs.Printings.{printed_shown, retaken, retaken_ticks, taken_is}

-- the state with this page and these turns left, in which the value was read
abbrev printed_state : Page → ℕ → Value → State → State
printed_state page n v s = with_page page (record (reading_whole v s) { counts = retaken s.counts.expansion n s.counts })

abbrev giving : Value → Unit {0} → State → Outcome Value
giving a u t = Done a t

printing_is : (law : AreCellLaws) (named : NamesAreNumbered) (w : World) (s : State) (style : Style) (v : Tagged) (p : Progress) → IsWorld w → ShowsState w s → whole_printed style w v s.outside.output ≡ p
    → printing style (levels_shown w) (value_of w.cells.cells v) s ≡ then_do (ended_printing p.ending (printed_state p.page p.turns (value_of w.cells.cells v) s)) (giving (value_of w.cells.cells v))
printing_is law named w s style v p i shown e =
    let a = value_of w.cells.cells v in
    ap (λ q. then_do (after_printing q (reading_whole a s)) (giving a)) (printed_shown law.numbered named w s style v i shown ∙ e)
    ∙ ap (λ t. then_do (ended_printing p.ending (with_page p.page t)) (giving a)) (taken_is s.counts.expansion p.turns (reading_whole a s))

module _ (law : AreCellLaws) (named : NamesAreNumbered) (at : ToldAtStart) (w x : World) (o p n m i j : Option (List ℕ)) (coming : List ℕ) (s : State) (style : Style) (v : Tagged) (base : ℕ)
    (is : IsWorld w) (prints : IsPrinting base w x) (notes : m ≡ n) (source : j ≡ i) (h : Ties at (and_told w o n i) coming s) where
  abbrev a : Value
  a = value_of w.cells.cells v

  abbrev state_with : List ℕ → State
  state_with bytes = printed_state (progress_in_world x (s.outside.output ++ bytes)).page (count_turns_left x.counts) a s

  counts_printed : retaken s.counts.expansion (count_turns_left x.counts) s.counts ≡ counts_in w.cells x.counts
  counts_printed =
      ap (λ (q : Counts). retaken q.expansion (count_turns_left x.counts) q) h.shows.counts
      ∙ sym (subst (λ k. counts_in w.cells k ≡ retaken (counts_in w.cells w.counts).expansion (count_turns_left k) (counts_in w.cells w.counts)) (sym prints.ticked.counts) (retaken_ticks law.bounds prints.ticked.number w.cells w.counts is.running))

  shows_printed : (bytes : List ℕ) → ShowsState x (state_with bytes)
  shows_printed bytes = subst (λ (y : World). ShowsState y (state_with bytes)) (sym prints.world) (record {
    store = h.shows.store;
    symbols = record { many = h.shows.symbols.many; symbols = h.shows.symbols.symbols; values = h.shows.symbols.values };
    counts = counts_printed;
    gensyms = h.shows.gensyms;
    column = refl;
    line_length = h.shows.line_length;
    taken = h.shows.taken;
    free = h.shows.free;
    bound = h.shows.bound;
  })

  ties_printed : (bytes : List ℕ) → GoesOut o w.output.waiting p x.output.waiting bytes → Ties at (and_told x p m j) coming (state_with bytes)
  ties_printed bytes f = record {
    shows = shows_printed bytes;
    output = out_follows at.out o p w.output.waiting x.output.waiting s.outside.output bytes h.output f;
    notes = out_kept at.notes n m w.notes x.notes s.outside.notes notes (ap (λ (y : World). y.notes) prints.world) h.notes;
    input = h.input ∙ ap (λ (y : World). with_back y.input.back coming) (sym prints.world);
    left = subst (λ (t : Option (List ℕ)). WhereTold at.source t (λ before left. left ≡ coming)) (sym source) h.left;
    ended = λ t. h.ended (ap (λ (y : World). y.input.ended) (sym prints.world) ∙ t);
    few = h.few;
  }

  pub printed_whole : IsPrinted o p style w x v → PrintsAs at (printing style (levels_shown w) a s) a (Ok tt) (and_told x p m j) coming
  printed_whole whole =
      let q = whole.prints in
      record {
        state = state_with q.bytes;
        is = printing_is law named w s style v (progress_in_world x (s.outside.output ++ q.bytes)) is h.shows (q.means s.outside.output);
        good = ties_printed q.bytes q.follows;
      }

  -- ---- a turn or a level is wanting

  why_at : (opening : Option ℕ) (outer : Option expansion.Expansion) → w.counts.opening ≡ opening → w.counts.outermost ≡ outer → last_stop (expansion_in w.cells.cells w.counts.open_count outer) ≡ stop_in w.cells.cells (last_stop_at opening outer)
  why_at None None eo ex = refl
  why_at None (Some e) eo ex = refl
  why_at (Some k) None eo ex = refl
  why_at (Some k) (Some e) eo ex = absurd (let none = is.running.unexpanded k eo in let f : Some e ≡ None = sym ex ∙ none in cc)

  last_retaken : (e : Option Expansion) (k : ℕ) (q : Counts) → q.expansion ≡ e → last_stop (retaken e k q).expansion ≡ last_stop e
  last_retaken None k q f = ap last_stop f
  last_retaken (Some e) k q f = refl

  cells_same : x.cells.cells ≡ w.cells.cells
  cells_same = ap (λ (y : World). y.cells.cells) prints.world

  pub printed_until : (why : stops.Stop) → HaltsPrinting o p w x (whole_printed style w v) why → Reaches (Ties at (and_told x p m j) coming) (printing style (levels_shown w) a s) (λ t. Stopped (stop_in x.cells.cells why) t)
  printed_until why halts = go halts.ending halts.is_stop (halts.prints.means s.outside.output)
    where
      bytes : List ℕ
      bytes = halts.prints.bytes

      ended : (ending : Ending) → whole_printed style w v s.outside.output ≡ stopped x ending (s.outside.output ++ halts.prints.bytes) → printing style (levels_shown w) a s ≡ then_do (ended_printing ending (state_with halts.prints.bytes)) (giving a)
      ended ending e = printing_is law named w s style v (stopped x ending (s.outside.output ++ halts.prints.bytes)) is h.shows e

      go : (ending : Ending) → IsStop w.counts ending why → whole_printed style w v s.outside.output ≡ stopped x ending (s.outside.output ++ halts.prints.bytes)
          → Reaches (Ties at (and_told x p m j) coming) (printing style (levels_shown w) a s) (λ t. Stopped (stop_in x.cells.cells why) t)
      go Whole is_stop e = absurd is_stop
      go NoTurn is_stop e = record {
        state = state_with halts.prints.bytes;
        is = ended NoTurn e
            ∙ ap (λ y. Stopped y (state_with halts.prints.bytes))
            (last_retaken s.counts.expansion (count_turns_left x.counts) s.counts refl ∙ ap last_stop (ap (λ (q : Counts). q.expansion) h.shows.counts) ∙ why_at w.counts.opening w.counts.outermost refl refl
            ∙ ap (stop_in w.cells.cells) (sym is_stop) ∙ ap (λ cells. stop_in cells why) (sym cells_same));
        good = ties_printed halts.prints.bytes halts.prints.follows;
      }
      go TooDeep is_stop e = record {
        state = state_with halts.prints.bytes;
        is = ended TooDeep e ∙ ap (λ y. Stopped (stop_in x.cells.cells y) (state_with halts.prints.bytes)) (sym is_stop);
        good = ties_printed halts.prints.bytes halts.prints.follows;
      }

  -- ---- a write failed

  part_longer : (bytes more : List ℕ) → IsPrintedInPart at.out p bytes → IsPrintedInPart at.out p (bytes ++ more)
  part_longer bytes more f = told_mapped at.out p (λ before held. (lost : List ℕ) × (before ++ bytes ≡ held ++ lost)) (λ before held. (lost : List ℕ) × (before ++ (bytes ++ more) ≡ held ++ lost))
      (λ before held q. (q.0 ++ more, sym (append_assoc before bytes more) ∙ ap (λ l. l ++ more) q.1 ∙ append_assoc held q.0 more)) f

  state_ended : (ending : Ending) (t : State) → state_of (then_do (ended_printing ending t) (giving a)) ≡ t
  state_ended Whole t = refl
  state_ended NoTurn t = refl
  state_ended TooDeep t = refl

  pub printed_in_part : CutsPrinting o p w.output.waiting (whole_printed style w v) → LeavesFronts at (and_told x p m j) (state_of (printing style (levels_shown w) a s))
  printed_in_part cuts =
      let all = whole_printed style w v s.outside.output in
      let more = cuts.more s.outside.output in
      let end = ap state_of (printing_is law named w s style v all is h.shows refl) ∙ state_ended all.ending (printed_state all.page all.turns a s) in
      subst (λ t. LeavesFronts at (and_told x p m j) t) (sym end) (record {
        output = subst (λ l. IsPrintedInPart at.out p l) (sym more.1) (part_longer (s.outside.output ++ cuts.bytes) more.0 (out_cut at.out o p w.output.waiting s.outside.output cuts.bytes h.output cuts.cut));
        notes = out_kept_cut at.notes n m w.notes s.outside.notes notes h.notes;
      })

  pub printed_less : (why : stops.Stop) → (why ≢ stop.Write → HaltsPrinting o p w x (whole_printed style w v) why) → (why ≡ stop.Write → CutsPrinting o p w.output.waiting (whole_printed style w v))
      → PrintsAs at (printing style (levels_shown w) a s) a (Err why) (and_told x p m j) coming
  printed_less stop.Write halts cuts = printed_in_part (cuts refl)
  printed_less stop.Turns halts cuts = printed_until stop.Turns (halts (λ e. absurd (cc)))
  printed_less stop.Cells halts cuts = printed_until stop.Cells (halts (λ e. absurd (cc)))
  printed_less stop.Depth halts cuts = printed_until stop.Depth (halts (λ e. absurd (cc)))
  printed_less (stop.Expansion name) halts cuts = printed_until (stop.Expansion name) (halts (λ e. absurd (cc)))
  printed_less stop.Read halts cuts = printed_until stop.Read (halts (λ e. absurd (cc)))
  printed_less stop.Files halts cuts = printed_until stop.Files (halts (λ e. absurd (cc)))
  printed_less stop.Missing halts cuts = printed_until stop.Missing (halts (λ e. absurd (cc)))
