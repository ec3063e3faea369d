-- Levels, and what goes out and comes in, stand beside the objects of a world.
use Rattle.std.proofs.Common.{◌≡◌, ◌≤◌, ℕ, true, List, Option, refl, sym, subst}
use Rattle.std.specs.Option.{ForSome}
use Rattle.rl_syms.specs.Table.{is_id}
use Rattle.rl_world.specs.Counts.{WorldCounts}
use Rattle.rl_world.specs.Input.{Input}
use Rattle.rl_world.specs.Levels.{WorldLevels}
use Rattle.rl_world.specs.Output.{Output}
use Rattle.rl_world.specs.declared.world.World.{World}
use Rattle.rl_tree.specs.Value.{Store}
use Rattle.rl_meaning.specs.State.{State, Compilation, Counts, Outside, Watched}
use Rattle.rl_state.specs.ShownState.{ShowsState, counts_in}
use Rattle.rl_state.specs.Ties.{Ties, ToldAtStart, and_told, with_lines}
use Rattle.rl_state.specs.Worlds.{AreWorldCounts, IsWorld, WorldGrows}
use Rattle.rl_state.specs.Beside.{StaysBeside}

-- what is watched is not shown, and of the outside three numbers alone
pub shows_outer : (w : World) (l : WorldLevels) (page : Output) (noted : List ℕ) (place : Input) (s : State) (o : Outside) (v : Watched) → o.column ≡ page.column → o.line_length ≡ page.line_length → o.taken ≡ place.given → ShowsState w s
    → ShowsState (record w { levels = l; output = page; notes = noted; input = place }) (record s { outside = o; watched = v })
shows_outer w l page noted place s o v column line taken h = record {
  store = h.store;
  symbols = record { many = h.symbols.many; symbols = h.symbols.symbols; values = h.symbols.values };
  counts = h.counts;
  gensyms = h.gensyms;
  column = column;
  line_length = line;
  taken = taken;
  free = h.free;
  bound = h.bound;
}

pub grows_levels : (w x : World) (l : WorldLevels) (page : Output) (noted : List ℕ) (place : Input) → x ≡ record w { levels = l; output = page; notes = noted; input = place } → l.level ≤ l.bound → IsWorld w → WorldGrows w x
grows_levels w x l page noted place e h i = subst (λ (y : World). WorldGrows w y) (sym e) (record {
  world = record { table = i.table; t = i.t; message = i.message; texts = i.texts; running = i.running; levels = h; made = i.made; expanding = i.expanding };
  live = λ v h. h;
  values = λ v h. refl;
})

pub grows_outer : (w x : World) (page : Output) (noted : List ℕ) (place : Input) → x ≡ record w { output = page; notes = noted; input = place } → IsWorld w → WorldGrows w x
grows_outer w x page noted place e i = grows_levels w x w.levels page noted place e i.levels i

pub lines_tie : (at : ToldAtStart) (w x : World) (o m i : Option (List ℕ)) (n : ℕ) (coming : List ℕ) (s : State) → x ≡ record w { output = record w.output { line_length = n } }
    → Ties at (and_told w o m i) coming s → Ties at (and_told x o m i) coming (with_lines n s)
lines_tie at w x o m i n coming s e h = subst (λ (y : World). Ties at (and_told y o m i) coming (with_lines n s)) (sym e) (record {
  shows = shows_outer w w.levels (record w.output { line_length = n }) w.notes w.input s (with_lines n s).outside s.watched h.shows.column refl h.shows.taken h.shows;
  output = h.output;
  notes = h.notes;
  input = h.input;
  left = h.left;
  ended = h.ended;
  few = h.few;
})

-- ---- where of a world the counts alone are others, and whether its cells are counted

abbrev pub counted_as : World → Option ℕ → WorldCounts → World
counted_as w count k = record w { cells = record w.cells { count = count }; counts = k }

-- what is known of code is not shown
pub shows_counted : (w : World) (count : Option ℕ) (k : WorldCounts) (s : State) (q : Counts) (code : Compilation) → q ≡ counts_in (record w.cells { count = count }) k → ShowsState w s
    → ShowsState (counted_as w count k) (record s { counts = q; compilation = code })
shows_counted w count k s q code e h = record {
  store = h.store;
  symbols = record { many = h.symbols.many; symbols = h.symbols.symbols; values = h.symbols.values };
  counts = e;
  gensyms = h.gensyms;
  column = h.column;
  line_length = h.line_length;
  taken = h.taken;
  free = h.free;
  bound = h.bound;
}

pub grows_counted : (w : World) (count : Option ℕ) (k : WorldCounts) → AreWorldCounts (record w.cells { count = count }) k → ForSome k.outermost (λ e. is_id w.cells.cells e.name ≡ true) → IsWorld w → WorldGrows w (counted_as w count k)
grows_counted w count k r e i = record {
  world = record { table = i.table; t = i.t; message = i.message; texts = i.texts; running = r; levels = i.levels; made = i.made; expanding = e };
  live = λ v h. h;
  values = λ v h. refl;
}

-- what no world determines stays where objects change, or what is watched
pub stays_still : (s : State) (store : Store) (v : Watched) → StaysBeside s (record s { store = store; watched = v })
stays_still s store v = record { functions = record { functions = refl; compilation = refl }; bindings = record { entries = refl; hidden = λ i b h. refl }; outside = refl }
