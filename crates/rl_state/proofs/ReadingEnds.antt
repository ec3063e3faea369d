-- How the definition's reading of a text ends where reading in a world ends: with the form, at the end, at the byte that is refused, or with the stop.
use Rattle.std.proofs.Common.{◌≡◌, ℕ, ◌-◌, ◌^◌, ◌≤◌, Bool, List, length, refl, sym, ap, subst, ◌∙◌, arith}
use Rattle.rl_tags.specs.Tagged.{Tagged}
use Rattle.rl_tree.specs.Value.{Value}
use Rattle.rl_cells.specs.Cell.{IsClosed}
use Rattle.rl_syms.specs.Contents.{value_of}
use Rattle.rl_syms.specs.Laws.{AreIdentifiers}
use Rattle.rl_text.specs.Reader.{ReaderOutcome, Read, NoneLeft, Refused, Stopped, read_by}
use Rattle.rl_world.specs.declared.stop.Stop.{Stop}
use Rattle.rl_world.specs.declared.world.World.{World}
use Rattle.rl_meaning.specs.Input.{End, Form, FormReading, ReadingPlace, Unreadable, form_reading_of, in_state, read_bytes}
use Rattle.rl_meaning.specs.Outcome as outcome
use Rattle.rl_meaning.specs.Outcome.{Done, Outcome}
use Rattle.rl_meaning.specs.State.{Outside, State}
use Rattle.rl_read.specs.Stock.{Stock, in_stock, stock_of}
use Rattle.rl_state.specs.CellLaws.{AreCellLaws}
use Rattle.rl_state.specs.Descents.{levels_shown}
use Rattle.rl_state.specs.Ending.{stop_in}
use Rattle.rl_state.specs.ShownState.{ShowsState}
use Rattle.rl_state.specs.Worlds.{IsWorld}
use Rattle.rl_state.proofs.ReadingShown.{At, OutcomesAs, both_find_none, both_read, both_refuse, both_stop, first_stops, reads_alike}
use Rattle.rl_state.proofs.StockShown.{StandsAs}

-- it ends so, in a state that the world with this stock shows
pub record EndsRead (w : World) (out : Outside) (k : Stock) (o : Outcome FormReading) (reading : FormReading) : Type 0 where
  pub state : State
  pub is : o ≡ Done reading state
  pub stands : StandsAs w out k state

module _ (laws : AreCellLaws) (ids : AreIdentifiers) (turns : Bool) (w : World) (i : IsWorld w) (closed : IsClosed w.cells.cells) (s : State) (shown : ShowsState w s) (bytes : List ℕ) where
  abbrev place : ReadingPlace
  place = record { state = s; levels = levels_shown w }

  abbrev there : ReaderOutcome ReadingPlace Value outcome.Stop
  there = read_by (in_state turns) place bytes

  begins : At w s.outside laws ids (stock_of w) place
  begins = (record { world = i; closed = closed; shows = shown; outside = refl }, refl)

  alike : OutcomesAs w s.outside laws ids (read_by (in_stock turns) (stock_of w) bytes) there
  alike = reads_alike w s.outside laws ids turns (stock_of w) place bytes begins

  form_ends : (x : ReaderOutcome Stock Tagged Stop) (y : ReaderOutcome ReadingPlace Value outcome.Stop) (v : Tagged) (made : Stock) (rest : List ℕ) → OutcomesAs w s.outside laws ids x y → x ≡ Read v made rest → EndsRead w s.outside made (form_reading_of bytes y) (Form (value_of made.cells.cells v) rest)
  form_ends x y v made rest (both_read v' u k p rest' h a) e =
      let v_is : v' ≡ v = cc in
      let k_is : k ≡ made = cc in
      let rest_is : rest' ≡ rest = cc in
      record {
        state = p.state;
        is = ap (λ u. Done (Form u rest') p.state) (sym h.1) ∙ ap (λ v. Done (Form (value_of k.cells.cells v) rest') p.state) v_is ∙ ap (λ (k : Stock). Done (Form (value_of k.cells.cells v) rest') p.state) k_is ∙ ap (λ r. Done (Form (value_of made.cells.cells v) r) p.state) rest_is;
        stands = subst (λ k. StandsAs w s.outside k p.state) k_is a.0;
      }
  form_ends x y v made rest (both_find_none k p a) e = absurd cc
  form_ends x y v made rest (both_refuse k p from a) e = absurd cc
  form_ends x y v made rest (both_stop why z k p rest' h) e = absurd cc
  form_ends x y v made rest (first_stops why k rest' other h) e = absurd cc

  none_ends : (x : ReaderOutcome Stock Tagged Stop) (y : ReaderOutcome ReadingPlace Value outcome.Stop) (made : Stock) → OutcomesAs w s.outside laws ids x y → x ≡ NoneLeft made → EndsRead w s.outside made (form_reading_of bytes y) End
  none_ends x y made (both_read v' u k p rest' h a) e = absurd cc
  none_ends x y made (both_find_none k p a) e = let k_is : k ≡ made = cc in record { state = p.state; is = refl; stands = subst (λ k. StandsAs w s.outside k p.state) k_is a.0 }
  none_ends x y made (both_refuse k p from a) e = absurd cc
  none_ends x y made (both_stop why z k p rest' h) e = absurd cc
  none_ends x y made (first_stops why k rest' other h) e = absurd cc

  refused_ends : (x : ReaderOutcome Stock Tagged Stop) (y : ReaderOutcome ReadingPlace Value outcome.Stop) (made : Stock) (from : List ℕ) → OutcomesAs w s.outside laws ids x y → x ≡ Refused made from → EndsRead w s.outside made (form_reading_of bytes y) (Unreadable (length bytes - length from) from)
  refused_ends x y made from (both_read v' u k p rest' h a) e = absurd cc
  refused_ends x y made from (both_find_none k p a) e = absurd cc
  refused_ends x y made from (both_refuse k p from' a) e =
      let k_is : k ≡ made = cc in
      let from_is : from' ≡ from = cc in
      record { state = p.state; is = ap (λ (l : List ℕ). Done (Unreadable (length bytes - length l) l) p.state) from_is; stands = subst (λ k. StandsAs w s.outside k p.state) k_is a.0 }
  refused_ends x y made from (both_stop why z k p rest' h) e = absurd cc
  refused_ends x y made from (first_stops why k rest' other h) e = absurd cc

  -- no world has so many cells
  stop_ends : (x : ReaderOutcome Stock Tagged Stop) (y : ReaderOutcome ReadingPlace Value outcome.Stop) (why : Stop) (made : Stock) (rest : List ℕ) → length made.cells.cells ≤ 2 ^ 31 → OutcomesAs w s.outside laws ids x y → x ≡ Stopped why made rest
      → (t : State) × (form_reading_of bytes y ≡ outcome.Stopped (stop_in made.cells.cells why) t) × (t.outside ≡ s.outside)
  stop_ends x y why made rest few (both_read v' u k p rest' h a) e = absurd cc
  stop_ends x y why made rest few (both_find_none k p a) e = absurd cc
  stop_ends x y why made rest few (both_refuse k p from a) e = absurd cc
  stop_ends x y why made rest few (both_stop why' z k p rest' h) e =
      let k_is : k ≡ made = cc in
      let why_is : why' ≡ why = cc in
      (p.state, ap (λ z. outcome.Stopped z p.state) (h.0 ∙ ap (λ (k : Stock). stop_in k.cells.cells why') k_is ∙ ap (stop_in made.cells.cells) why_is), h.1)
  stop_ends x y why made rest few (first_stops why' k rest' other h) e =
      let k_is : k ≡ made = cc in
      let same : length k.cells.cells ≡ length made.cells.cells = ap (λ (k : Stock). length k.cells.cells) k_is in
      absurd (omega (arith, h, few, same))

  pub form_read : (v : Tagged) (made : Stock) (rest : List ℕ) → read_by (in_stock turns) (stock_of w) bytes ≡ Read v made rest → EndsRead w s.outside made (read_bytes turns (levels_shown w) bytes s) (Form (value_of made.cells.cells v) rest)
  form_read v made rest e = form_ends _ there v made rest alike e

  pub none_read : (made : Stock) → read_by (in_stock turns) (stock_of w) bytes ≡ NoneLeft made → EndsRead w s.outside made (read_bytes turns (levels_shown w) bytes s) End
  none_read made e = none_ends _ there made alike e

  pub refused_read : (made : Stock) (from : List ℕ) → read_by (in_stock turns) (stock_of w) bytes ≡ Refused made from → EndsRead w s.outside made (read_bytes turns (levels_shown w) bytes s) (Unreadable (length bytes - length from) from)
  refused_read made from e = refused_ends _ there made from alike e

  pub stop_read : (why : Stop) (made : Stock) (rest : List ℕ) → length made.cells.cells ≤ 2 ^ 31 → read_by (in_stock turns) (stock_of w) bytes ≡ Stopped why made rest → (t : State) × (read_bytes turns (levels_shown w) bytes s ≡ outcome.Stopped (stop_in made.cells.cells why) t) × (t.outside ≡ s.outside)
  stop_read why made rest few e = stop_ends _ there why made rest few alike e
