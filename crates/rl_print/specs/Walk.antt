-- Where printing stands: what comes next, and what waits behind it, each in the pair or vector round the one before.
use Rattle.std.specs.Prelude.{◌≡◌, ◌≢◌, ℕ, suc, ◌+◌, ◌-◌, ◌*◌, ◌<◌, ◌%◌, ◌≤◌, ◌==◌, Bool, true, false, if◌then◌else◌, List, [], ◌∷◌, ◌++◌, length, map, drop, Option, Some, None}
use Rattle.std.specs.List.{AllByRecursion}
use Rattle.rl_tags.specs.Tagged.{Tagged, tagged_of, index_of}
use Rattle.rl_tags.specs.Ids.{nil_id}
use Rattle.rl_cells.specs.Cell.{Cell, is_live, is_vector, vector_of}
use Rattle.rl_syms.specs.Table.{IsTable}
use Rattle.rl_syms.specs.Numbers.{numbered_name}
use Rattle.rl_syms.specs.Contents.{ids_before, value_of, store_of}
use Rattle.rl_tree.specs.Value.{Value}
use Rattle.rl_tree.specs.Atoms as atoms
use Rattle.rl_tree.specs.Printing.{Setting, Progress, Ending, Whole, Printer, marked, with_atom_of, and_then, places_printed, value_printed, dotted_atom, rest_printed, job_printed, printed}
use Rattle.rl_world.specs.Walks.{IsSteady, kept_above}
use Rattle.rl_world.specs.Waiting.{GoesOut, FrontGoesOut}
use Rattle.rl_world.specs.declared.world.World.{World}
use Rattle.rl_world.specs.declared.stop.Stop.{Stop}
use Rattle.rl_print.specs.Counted.{IsStop, IsTicked}
use Rattle.rl_print.specs.declared.walk.Cursor.{Cursor}
use Rattle.rl_print.specs.declared.walk.Cursor.TheVariants as cursor
use Rattle.rl_print.specs.AtomText.{is_atom}
use Rattle.rl_print.specs.declared.walk.Piece.{Piece}
use Rattle.rl_print.specs.declared.walk.Piece.TheVariants as piece
use Rattle.rl_print.specs.declared.walk.State.{State}
use Rattle.rl_print.specs.declared.walk.State.TheVariants as state
use Rattle.rl_world.specs.Counts.{count_turns_left}

-- printing, whatever the turns that are left
unfoldable pub whole_printer : Setting → Printer
whole_printer g job levels p = job_printed g (suc p.turns) job levels p

-- the rest of a list; or the values of a vector that are still to come, whether they are all of them, and whether `)` stands behind its end
pub data WalkPlace : Type 0 where
  Rest : Value → WalkPlace
  Places : Bool → List Value → Bool → WalkPlace

abbrev pub closed_walk : Bool → Progress → Progress
closed_walk true p = marked (41 ∷ []) p
closed_walk false p = p

-- what is printed from a place on
abbrev pub place_printed : Setting → WalkPlace → ℕ → Progress → Progress
place_printed g (Rest d) levels p = rest_printed g (whole_printer g) d levels p
place_printed g (Places first xs dotted) levels p = and_then (places_printed (whole_printer g) first xs levels p) (closed_walk dotted)

-- and from several, each of which leaves a level
abbrev pub all_printed : Setting → List WalkPlace → ℕ → Progress → Progress
all_printed g [] levels p = p
all_printed g (c ∷ cs) levels p = and_then (place_printed g c levels p) (all_printed g cs (suc levels))

-- an element, and then these places
abbrev pub element_printed : Setting → Value → List WalkPlace → ℕ → Progress → Progress
element_printed g v places levels p = and_then (value_printed g (whole_printer g) true v levels p) (all_printed g places levels)

-- ---- in a world

abbrev pub walk_place_in : List Cell → Cursor → WalkPlace
walk_place_in cells (cursor.Rest d) = Rest (value_of cells d)
walk_place_in cells (cursor.Places v i dotted) = Places (i == 0) (drop i (map (value_of cells) (vector_of cells v))) dotted

-- what three words of a walk keep
abbrev pub kept_place : List Cell → ℕ × ℕ × ℕ → WalkPlace
kept_place cells t = if t.0 == 0 then Rest (value_of cells (tagged_of t.1)) else Places (t.2 == 0) (drop t.2 (map (value_of cells) (vector_of cells (tagged_of t.1)))) (t.0 == 2)

abbrev pub waiting_places : World → ℕ → List WalkPlace
waiting_places w base = map (kept_place w.cells.cells) (kept_above base w.levels)

abbrev pub levels_left : World → ℕ
levels_left w = w.levels.bound - w.levels.level

abbrev pub setting_in_world : atoms.Style → World → Setting
setting_in_world style w = record { style = style; names = numbered_name w.cells.cells; nil = ids_before w.cells.cells (index_of nil_id); store = store_of w.cells.cells; line_length = w.output.line_length }

-- how far printing is, with this text printed so far
abbrev pub progress_in_world : World → List ℕ → Progress
progress_in_world w text = record { page = record { text = text; column = w.output.column }; turns = count_turns_left w.counts; ending = Whole }

-- what is printed at once: a mark, an atom, or a dot, an atom and `)`
abbrev pub shown : Setting → List Cell → Piece → Progress → Progress
shown g cells (piece.Mark bytes) p = marked bytes.now p
shown g cells (piece.Atom v) p = with_atom_of g (value_of cells v) p
shown g cells (piece.Dotted v) p = dotted_atom g (value_of cells v) p

-- what the whole comes to from a state on
abbrev pub continued : atoms.Style → World → ℕ → Option State → Progress → Progress
continued style w base None p = p
continued style w base (Some (state.Element v c)) p = element_printed (setting_in_world style w) (value_of w.cells.cells v) (walk_place_in w.cells.cells c ∷ waiting_places w base) (levels_left w) p
continued style w base (Some (state.Next c)) p = all_printed (setting_in_world style w) (walk_place_in w.cells.cells c ∷ waiting_places w base) (levels_left w) p

abbrev pub walk_meaning : atoms.Style → World → ℕ → Option State → List ℕ → Progress
walk_meaning style w base next text = continued style w base next (progress_in_world w text)

-- it stops here
abbrev pub stopped : World → Ending → List ℕ → Progress
stopped w ending text = record (progress_in_world w text) { ending = ending }

-- some bytes were printed, and the whole comes to the same
pub record PrintsOn (before now : Option (List ℕ)) (waited waiting : List ℕ) (old new : List ℕ → Progress) : Type 0 where
  pub bytes : List ℕ
  pub follows : GoesOut before waited now waiting bytes
  pub means : (text : List ℕ) → old text ≡ new (text ++ bytes)

-- a front of what waited and of the whole came to the sink
pub record CutsPrinting (before now : Option (List ℕ)) (waited : List ℕ) (old : List ℕ → Progress) : Type 0 where
  pub bytes : List ℕ
  pub cut : FrontGoesOut before now (waited ++ bytes)
  pub more : (text : List ℕ) → (rest : List ℕ) × ((old text).page.text ≡ (text ++ bytes) ++ rest)

-- ---- what may be printed

abbrev pub IsCursor : List Cell → Cursor → Type 0
IsCursor cells (cursor.Rest d) = is_live cells d ≡ true
IsCursor cells (cursor.Places v i dotted) = (is_vector cells v ≡ true) × (i ≤ length (vector_of cells v))

-- what is printed next is live, and so is what waits behind it
abbrev pub IsState : List Cell → State → Type 0
IsState cells (state.Element v c) = (is_live cells v ≡ true) × IsCursor cells c
IsState cells (state.Next c) = IsCursor cells c

-- three words that keep the rest of a list, or a place in a vector
pub record IsKeptByPrinting (cells : List Cell) (t : ℕ × ℕ × ℕ) : Type 0 where
  pub kind : t.0 ≤ 2
  pub tagged : t.1 % 16 ≤ 6
  pub rest : t.0 ≡ 0 → is_live cells (tagged_of t.1) ≡ true
  pub places : t.0 ≢ 0 → (is_vector cells (tagged_of t.1) ≡ true) × (t.2 ≤ length (vector_of cells (tagged_of t.1)))

-- names are a table, and of the words of the walk those above the base were kept by printing
pub record IsReadyToPrint (w : World) (base : ℕ) : Type 0 where
  pub table : IsTable w.cells.cells w.syms.head
  pub above : base ≤ length w.levels.walk
  pub kept : AllByRecursion (IsKeptByPrinting w.cells.cells) (kept_above base w.levels)

-- what comes next may be printed; or nothing does, and nothing waits
abbrev pub IsNext : World → ℕ → Option State → Type 0
IsNext w base None = length w.levels.walk ≡ base
IsNext w base (Some s) = IsState w.cells.cells s

-- what may be printed at once
abbrev pub IsPiece : List Cell → Piece → Type 0
IsPiece cells (piece.Mark bytes) = Unit {0}
IsPiece cells (piece.Atom v) = is_atom cells v ≡ true
IsPiece cells (piece.Dotted v) = is_atom cells v ≡ true

-- ---- a step

-- of the world only turns, levels and what a walk keeps have changed
pub record IsWorldOf (base : ℕ) (old new : World) : Type 0 where
  pub world : new ≡ record old { counts = new.counts; levels = new.levels }
  pub ticked : IsTicked old.counts new.counts
  pub steady : IsSteady base old.levels new.levels

abbrev pub state_weight : Option State → ℕ
state_weight None = 0
state_weight (Some (state.Element v c)) = 6
state_weight (Some (state.Next (cursor.Rest d))) = 3
state_weight (Some (state.Next (cursor.Places v i dotted))) = 1

-- more than the steps that are left
abbrev pub walk_weight : World → Option State → ℕ
walk_weight w next = 10 * count_turns_left w.counts + 4 * length w.levels.walk + state_weight next

-- a piece is to be printed, and then it goes on with the next state
pub record Advances (base : ℕ) (old new : World) (at : Option State) (piece : Piece) (next : Option State) : Type 0 where
  pub means : (style : atoms.Style) (text : List ℕ) → walk_meaning style old base at text ≡ continued style new base next (shown (setting_in_world style new) new.cells.cells piece (progress_in_world new text))
  pub ready : IsReadyToPrint new base
  pub next_is : IsNext new base next
  pub piece_is : IsPiece new.cells.cells piece
  pub less : walk_weight new next < walk_weight old at

-- it ends here, for want of a turn or of a level
pub record EndsPrinting (base : ℕ) (old new : World) (at : Option State) (s : Stop) : Type 0 where
  pub ending : Ending
  pub is_stop : IsStop old.counts ending s
  pub means : (style : atoms.Style) (text : List ℕ) → walk_meaning style old base at text ≡ stopped new ending text

-- ---- what is printed at once

-- these bytes follow what waited, and make what the piece is to show
pub record Shows (before now : Option (List ℕ)) (style : atoms.Style) (old new : World) (piece : Piece) : Type 0 where
  pub bytes : List ℕ
  pub follows : GoesOut before old.output.waiting now new.output.waiting bytes
  pub means : (text : List ℕ) → shown (setting_in_world style old) old.cells.cells piece (progress_in_world old text) ≡ progress_in_world new (text ++ bytes)

-- a front of what waited and of these bytes came to the sink
pub record ShowsFront (before now : Option (List ℕ)) (style : atoms.Style) (old : World) (piece : Piece) : Type 0 where
  pub bytes : List ℕ
  pub cut : FrontGoesOut before now (old.output.waiting ++ bytes)
  pub more : (text : List ℕ) → (rest : List ℕ) × ((shown (setting_in_world style old) old.cells.cells piece (progress_in_world old text)).page.text ≡ (text ++ bytes) ++ rest)

-- ---- a value from its root on

-- what is printed of a value, with this text printed before
abbrev pub whole_printed : atoms.Style → World → Tagged → List ℕ → Progress
whole_printed style w v text = printed (setting_in_world style w) (value_of w.cells.cells v) (levels_left w) (progress_in_world w text)

pub record BeginsPrinting (base : ℕ) (old new : World) (v : Tagged) (piece : Piece) (next : Option State) : Type 0 where
  pub means : (style : atoms.Style) (text : List ℕ) → whole_printed style old v text ≡ continued style new base next (shown (setting_in_world style new) new.cells.cells piece (progress_in_world new text))
  pub ready : IsReadyToPrint new base
  pub next_is : IsNext new base next
  pub piece_is : IsPiece new.cells.cells piece

pub record FailsToBegin (old new : World) (v : Tagged) (s : Stop) : Type 0 where
  pub ending : Ending
  pub is_stop : IsStop old.counts ending s
  pub means : (style : atoms.Style) (text : List ℕ) → whole_printed style old v text ≡ stopped new ending text

-- ---- steps that print

-- of the world only turns, levels, what a walk keeps, and what is printed have changed
pub record IsPrinting (base : ℕ) (old new : World) : Type 0 where
  pub world : new ≡ record old { counts = new.counts; levels = new.levels; output = record old.output { waiting = new.output.waiting; column = new.output.column } }
  pub ticked : IsTicked old.counts new.counts
  pub steady : IsSteady base old.levels new.levels

-- a step printed something, and it goes on with the next state
pub record GoesOnPrinting (before now : Option (List ℕ)) (base : ℕ) (style : atoms.Style) (old new : World) (start : List ℕ → Progress) (next : Option State) : Type 0 where
  pub prints : PrintsOn before now old.output.waiting new.output.waiting start (walk_meaning style new base next)
  pub ready : IsReadyToPrint new base
  pub next_is : IsNext new base next

-- it ends for want of a turn or of a level, and what was printed is all that the definition prints
pub record HaltsPrinting (before now : Option (List ℕ)) (old new : World) (start : List ℕ → Progress) (s : Stop) : Type 0 where
  pub ending : Ending
  pub is_stop : IsStop old.counts ending s
  pub prints : PrintsOn before now old.output.waiting new.output.waiting start (stopped new ending)

-- ---- all of it

-- all that the definition prints was printed, in as many turns, and levels are as they were
pub record IsPrinted (before now : Option (List ℕ)) (style : atoms.Style) (old new : World) (v : Tagged) : Type 0 where
  pub prints : PrintsOn before now old.output.waiting new.output.waiting (whole_printed style old v) (progress_in_world new)
  pub levels : new.levels ≡ old.levels
