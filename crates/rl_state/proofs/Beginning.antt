-- The world as it begins is one in opening, and at the end of opening it shows a run that begins.
use Rattle.std.proofs.Common.{◌≡◌, ℕ, ◌-◌, ◌^◌, ◌<◌, ◌≤◌, false, List, [], ◌∷◌, ◌++◌, length, Option, Some, None, refl, sym, ap, subst, ◌∙◌, arith, length-append}
use Rattle.rl_tags.specs.Opening.{byte_names, names_at_opening, opening_rows, place_of}
use Rattle.rl_tags.specs.Tagged.{Tagged, IdAt}
use Rattle.rl_tags.specs.Ids.{emsg_star_id, t_id}
use Rattle.rl_tree.specs.ErrorTexts.{error_texts}
use Rattle.rl_cells.specs.Cell as cell
use Rattle.rl_cells.specs.Cell.{Cell, StrCell, placed}
use Rattle.rl_syms.specs.Contents.{ids_before}
use Rattle.rl_syms.specs.Laws.{AreIdentifiers}
use Rattle.rl_syms.specs.Made.{IsOpening}
use Rattle.rl_syms.specs.Numbers.{IdentifiersAreNumbered}
use Rattle.rl_syms.specs.Opened.{made_name}
use Rattle.rl_syms.specs.Table.{IsNamed, IsTable}
use Rattle.rl_world.specs.Bounds.{AreBoundsKept, OpenTogether}
use Rattle.rl_world.specs.Counts as counted
use Rattle.rl_world.specs.Counts.{counts_at_opening}
use Rattle.rl_world.specs.Errors.{AreTexts}
use Rattle.rl_world.specs.Levels.{WorldLevels}
use Rattle.rl_world.specs.OpeningCells.{AreOpeningCells, with_strings}
use Rattle.rl_world.specs.declared.world.World.{World}
use Rattle.rl_meaning.specs.State.{State, Counts, Files}
use Rattle.rl_meaning.specs.Run.{Limits, started}
use Rattle.rl_state.specs.CellLaws.{AreCellLaws}
use Rattle.rl_state.specs.ShownState.{ShowsState, counts_in}
use Rattle.rl_state.specs.Worlds.{AreWorldCounts, HasNumber, IsWorld, WorldGrows}
use Rattle.rl_state.proofs.Kept.{id_cell, id_inside}
use Rattle.rl_state.proofs.Outer.{counted_as, grows_counted, shows_counted, shows_outer}
use Rattle.rl_state.proofs.Room.{left}

-- ---- strings behind the names

numbers_stay : IdentifiersAreNumbered → (texts : List (List ℕ)) (cells : List Cell) (k : ℕ) → k ≤ length cells → ids_before (with_strings texts cells) k ≡ ids_before cells k
numbers_stay law [] cells k l = refl
numbers_stay law (bytes ∷ more) cells k l =
    let long = length-append cells (placed (StrCell bytes)) in
    numbers_stay law more (cells ++ placed (StrCell bytes)) k (omega (arith, l, long)) ∙ law.stays cells (placed (StrCell bytes)) k l

abbrev IsNamedIn : Option Tagged → List ℕ → Tagged → List Cell → Type 0
IsNamedIn head name id cells = IsTable cells head × IsNamed cells head name id

names_stay : AreCellLaws → (texts : List (List ℕ)) (cells : List Cell) (head : Option Tagged) (name : List ℕ) (id : Tagged) → IsNamedIn head name id cells → IsNamedIn head name id (with_strings texts cells)
names_stay law [] cells head name id h = h
names_stay law (bytes ∷ more) cells head name id h =
    let b = law.blocks.made cells (StrCell bytes) refl in
    names_stay law more (cells ++ placed (StrCell bytes)) head name id (law.kept.table cells (cells ++ placed (StrCell bytes)) head b h.0, law.kept.names cells (cells ++ placed (StrCell bytes)) head name id b h.0 h.1)

-- ---- the names of opening

pub opened_named : AreCellLaws → (cells : List Cell) (texts : List Tagged) (head : Option Tagged) → AreOpeningCells cells texts head → (i : ℕ) → i < length names_at_opening → IsNamed cells head (made_name i) (IdAt (place_of i))
opened_named law cells texts head o i l =
    subst (λ c. IsNamed c head (made_name i) (IdAt (place_of i))) (sym o.cells_are) (names_stay law error_texts o.names.cells head (made_name i) (IdAt (place_of i)) (o.table, o.first.named i l)).1

opened_number : (law : AreCellLaws) (ids : AreIdentifiers) (cells : List Cell) (texts : List Tagged) (head : Option Tagged) → AreOpeningCells cells texts head → (i : ℕ) → i < length names_at_opening → ids_before cells (place_of i) ≡ i
opened_number law ids cells texts head o i l =
    let is = ids o.names.cells head (made_name i) (IdAt (place_of i)) o.table (o.first.named i l) in
    let inside = id_inside o.names.cells (place_of i) (id_cell o.names.cells (IdAt (place_of i)) is) in
    ap (λ c. ids_before c (place_of i)) o.cells_are ∙ numbers_stay law.numbered error_texts o.names.cells (place_of i) (omega (arith, inside)) ∙ o.first.numbered i l

pub opened_numbers : (law : AreCellLaws) (ids : AreIdentifiers) (cells : List Cell) (texts : List Tagged) (head : Option Tagged) → IsTable cells head → AreOpeningCells cells texts head
    → (i : ℕ) → i < length names_at_opening → HasNumber cells (IdAt (place_of i)) i
opened_numbers law ids cells texts head t o i l = record {
  is_id = ids cells head (made_name i) (IdAt (place_of i)) t (opened_named law cells texts head o i l);
  number = opened_number law ids cells texts head o i l;
}

pub names_long : length names_at_opening ≡ 422
unfolding opening_rows byte_names
names_long = refl

t_place : IdAt (place_of 1) ≡ t_id
unfolding opening_rows
t_place = refl

message_place : IdAt (place_of 3) ≡ emsg_star_id
unfolding opening_rows
message_place = refl

-- ---- the world as it begins

running_opens : AreBoundsKept → (c : cell.CellStore) (turns bound : ℕ) → turns ≤ 2 ^ 59 - 1 → IsOpening c bound → AreWorldCounts c (counts_at_opening turns bound)
running_opens law c turns bound few o = record { bounds = law.opening c turns bound o; together = refl; unexpanded = λ n h. refl; untaken = λ n h. refl; few = few }

-- what a world has as it begins
pub record Begins (w : World) (turns bound nest : ℕ) : Type 0 where
  pub table : IsTable w.cells.cells w.syms.head
  pub texts : AreTexts w.cells.cells w.texts 14
  pub exact : AreOpeningCells w.cells.cells w.texts w.syms.head
  pub opening : IsOpening w.cells bound
  pub counts : w.counts ≡ counts_at_opening turns bound
  pub levels : w.levels ≡ record { bound = nest; level = 0; walk = []; aside = None }
  pub made : w.syms.made ≡ 0
  pub output : w.output ≡ record { waiting = []; column = 0; line_length = 80 }
  pub input : w.input ≡ record { back = None; given = 0; ended = false }

pub world_opens : (law : AreCellLaws) (ids : AreIdentifiers) (w : World) (turns bound nest : ℕ) → turns ≤ 2 ^ 59 - 1 → Begins w turns bound nest → IsWorld w
world_opens law ids w turns bound nest few b =
    let number = opened_numbers law ids w.cells.cells w.texts w.syms.head b.table b.exact in
    let long = names_long in
    let made = b.made in
    record {
      table = b.table;
      t = subst (λ id. HasNumber w.cells.cells id 1) t_place (number 1 (omega (arith, long)));
      message = subst (λ id. HasNumber w.cells.cells id 3) message_place (number 3 (omega (arith, long)));
      texts = b.texts;
      running = subst (λ k. AreWorldCounts w.cells k) (sym b.counts) (running_opens law.bounds w.cells turns bound few b.opening);
      levels = subst (λ (l : WorldLevels). l.level ≤ l.bound) (sym b.levels) (omega arith);
      made = omega (arith, made);
      expanding = λ e h. absurd (let f : None ≡ Some e = ap (λ (k : counted.WorldCounts). k.outermost) (sym b.counts) ∙ h in cc);
    }

-- ---- the end of opening

abbrev ended_cells : cell.CellStore → cell.CellStore
ended_cells c = record c { count = Some 0 }

abbrev ended_counts : counted.WorldCounts → counted.WorldCounts
ended_counts k = record k { opening = None }

in_opening : (c : cell.CellStore) (k : counted.WorldCounts) → AreWorldCounts c k → c.count ≡ None → (n : ℕ) × (k.opening ≡ Some n)
in_opening c k r h = go k.opening refl (subst (λ o. OpenTogether k.opening o) h r.bounds.together)
  where
    go : (o : Option ℕ) → k.opening ≡ o → OpenTogether o None → (n : ℕ) × (k.opening ≡ Some n)
    go None e t = absurd t
    go (Some n) e t = (n, e)

running_ended : AreBoundsKept → (c : cell.CellStore) (k : counted.WorldCounts) → AreWorldCounts c k → c.count ≡ None → AreWorldCounts (ended_cells c) (ended_counts k)
running_ended law c k r h = record {
  bounds = law.opened k c r.bounds h;
  together = r.together;
  unexpanded = λ n o. absurd (cc);
  untaken = λ n o. absurd (cc);
  few = r.few;
}

counts_ended : (c : cell.CellStore) (k : counted.WorldCounts) → AreWorldCounts c k → c.count ≡ None → counts_in (ended_cells c) (ended_counts k) ≡ left k.bound k.bound k.cells_bound None
counts_ended c k r h =
    let at = in_opening c k r h in
    let none = r.untaken at.0 at.1 in
    let now : counts_in (ended_cells c) (ended_counts k) ≡ left k.bound (k.bound - k.turns) (k.cells_bound - 0) None = rw (r.together, r.unexpanded at.0 at.1) refl in
    let turns : k.bound - k.turns ≡ k.bound = omega (arith, none) in
    let cells : k.cells_bound - 0 ≡ k.cells_bound = omega arith in
    now ∙ ap (λ t. left k.bound t (k.cells_bound - 0) None) turns ∙ ap (λ n. left k.bound k.bound n None) cells

pub ended_grows : AreBoundsKept → (w x : World) → x ≡ record w { cells = ended_cells w.cells; counts = ended_counts w.counts } → IsWorld w → w.cells.count ≡ None → WorldGrows w x
ended_grows law w x e i h = subst (λ y. WorldGrows w y) (sym e) (grows_counted w (Some 0) (ended_counts w.counts) (running_ended law w.cells w.counts i.running h) i.expanding i)

pub ended_shows : (w x : World) → x ≡ record w { cells = ended_cells w.cells; counts = ended_counts w.counts } → IsWorld w → w.cells.count ≡ None
    → (s : State) (limits : Limits) (files : Files) (input : List ℕ) → limits.turns ≡ w.counts.bound → limits.cells ≡ Some w.counts.cells_bound → ShowsState w s → ShowsState x (started limits files input s)
ended_shows w x e i h s limits files input t c shown =
    let k = ended_counts w.counts in
    let code = (started limits files input s).compilation in
    let q : Counts = record { given = limits.turns; turns = limits.turns; cells = limits.cells; expansion = None } in
    let is : q ≡ counts_in (ended_cells w.cells) k = ap (λ n. record { given = n; turns = n; cells = limits.cells; expansion = None }) t
    ∙ ap (λ o. record { given = w.counts.bound; turns = w.counts.bound; cells = o; expansion = None }) c ∙ sym (counts_ended w.cells w.counts i.running h) in
    subst (λ y. ShowsState y (started limits files input s)) (sym e)
    (shows_outer (counted_as w (Some 0) k) w.levels w.output w.notes w.input (record s { counts = q; compilation = code }) (started limits files input s).outside s.watched shown.column shown.line_length shown.taken
    (shows_counted w (Some 0) k s q code is shown))
