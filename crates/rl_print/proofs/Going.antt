-- A step of the walk with what it prints.
use Rattle.std.proofs.Common.{◌≡◌, ℕ, zero, suc, ◌+◌, ◌-◌, Bool, true, false, List, [], ◌∷◌, ◌++◌, length, drop, Option, Some, None, refl, sym, ap, ◌∙◌, append_assoc, arith}
use Rattle.std.proofs.lemmas.List.{append-nil}
use Rattle.rl_tags.specs.Tagged.{Tagged}
use Rattle.rl_syms.specs.Contents.{value_of}
use Rattle.rl_tree.specs.Atoms as atoms
use Rattle.rl_tree.specs.Printing.{Ending, Whole, NoTurn, TooDeep, Progress, Setting, places_printed, value_printed}
use Rattle.rl_world.specs.Counts.{WorldCounts, ticked}
use Rattle.rl_world.specs.Levels.{WorldLevels}
use Rattle.rl_world.specs.Output.{Output}
use Rattle.rl_world.specs.Waiting.{GoesOut}
use Rattle.rl_world.specs.declared.stop.Stop.{Stop}
use Rattle.rl_world.specs.declared.world.World.{World}
use Rattle.rl_print.specs.Counted.{IsStop, IsTicked, last_count_stop, ticks}
use Rattle.rl_print.specs.Walk.{Advances, BeginsPrinting, CutsPrinting, EndsPrinting, FailsToBegin, GoesOnPrinting, HaltsPrinting, IsNext, IsPrinted, IsPrinting, IsReadyToPrint, WalkPlace, PrintsOn, Rest, Places, Shows, ShowsFront, all_printed, closed_walk, continued, walk_meaning, levels_left, walk_place_in, place_printed, progress_in_world, setting_in_world, shown, stopped, waiting_places, whole_printer, whole_printed}
use Rattle.rl_print.specs.declared.walk.Piece.{Piece}
use Rattle.rl_print.specs.declared.walk.State.{State}
use Rattle.rl_print.specs.declared.walk.State.TheVariants as state
use Rattle.rl_print.proofs.After.{IsAfter, after_refl, and_then_after, marked_after, places_after, rest_after, value_after}
use Rattle.rl_print.proofs.Shown.{Writes, cut_more, follows_more}
use Rattle.rl_print.proofs.Turns.{whole_after}
use Rattle.rl_world.specs.Walks.{IsSteady}

-- ---- what waits only adds to the text

closed_after : (dotted : Bool) (p : Progress) → IsAfter p (closed_walk dotted p)
closed_after true p = marked_after (41 ∷ []) p
closed_after false p = after_refl p

place_after : (g : Setting) (c : WalkPlace) (levels : ℕ) (p : Progress) → IsAfter p (place_printed g c levels p)
place_after g (Rest d) levels p = rest_after g (whole_printer g) (whole_after g) d levels p
place_after g (Places first xs dotted) levels p =
    let r = places_printed (whole_printer g) first xs levels p in
    and_then_after p r (closed_walk dotted) (places_after (whole_printer g) (whole_after g) first xs levels p) (closed_after dotted r)

all_after : (g : Setting) (places : List WalkPlace) (levels : ℕ) (p : Progress) → IsAfter p (all_printed g places levels p)
all_after g [] levels p = after_refl p
all_after g (c ∷ cs) levels p =
    let r = place_printed g c levels p in
    and_then_after p r (all_printed g cs (suc levels)) (place_after g c levels p) (all_after g cs (suc levels) r)

continued_after : (style : atoms.Style) (w : World) (base : ℕ) (next : Option State) (p : Progress) → IsAfter p (continued style w base next p)
continued_after style w base None p = after_refl p
continued_after style w base (Some (state.Next c)) p = all_after (setting_in_world style w) (walk_place_in w.cells.cells c ∷ waiting_places w base) (levels_left w) p
continued_after style w base (Some (state.Element v c)) p =
    let g = setting_in_world style w in
    let places = walk_place_in w.cells.cells c ∷ waiting_places w base in
    let r = value_printed g (whole_printer g) true (value_of w.cells.cells v) (levels_left w) p in
    and_then_after p r (all_printed g places (levels_left w)) (value_after g (whole_printer g) (whole_after g) true (value_of w.cells.cells v) (levels_left w) p) (all_after g places (levels_left w) r)

-- ---- what is written changes nothing of what is to come

continued_written : (style : atoms.Style) (old new : World) (base : ℕ) (next : Option State) (p : Progress) → Writes old new → continued style old base next p ≡ continued style new base next p
continued_written style old new base None p e = refl
continued_written style old new base (Some (state.Next c)) p e = sym (ap (λ (w : World). continued style w base (Some (state.Next c)) p) e)
continued_written style old new base (Some (state.Element v c)) p e = sym (ap (λ (w : World). continued style w base (Some (state.Element v c)) p) e)

ready_written : (old new : World) (base : ℕ) → Writes old new → IsReadyToPrint old base → IsReadyToPrint new base
ready_written old new base e r = rw e (record { table = r.table; above = r.above; kept = r.kept })

next_written : (old new : World) (base : ℕ) (next : Option State) → Writes old new → IsNext old base next → IsNext new base next
next_written old new base None e h = rw e h
next_written old new base (Some (state.Next c)) e h = rw e h
next_written old new base (Some (state.Element v c)) e h = rw e h

-- nothing follows
pub nothing_follows : (told : Option (List ℕ)) (waited waiting : List ℕ) → waiting ≡ waited → GoesOut told waited told waiting []
nothing_follows None waited waiting e = tt
nothing_follows (Some now) waited waiting e = (0, sym (append-nil now), e ∙ sym (append-nil waited))

-- ---- a step

pub goes_of : (before now : Option (List ℕ)) (base : ℕ) (style : atoms.Style) (old mid new : World) (at next : Option State) (p : Piece) → mid.output ≡ old.output → Advances base old mid at p next → Writes mid new → Shows before now style mid new p → GoesOnPrinting before now base style old new (walk_meaning style old base at) next
goes_of before now base style old mid new at next p same a e s = record {
  prints = record {
    bytes = s.bytes;
    follows = rw (← ap (λ (o : Output). o.waiting) same) s.follows;
    means = λ text. a.means style text ∙ (ap (continued style mid base next) (s.means text) ∙ continued_written style mid new base next (progress_in_world new (text ++ s.bytes)) e);
  };
  ready = ready_written mid new base e a.ready;
  next_is = next_written mid new base next e a.next_is;
}

pub cut_of : (before now : Option (List ℕ)) (base : ℕ) (style : atoms.Style) (old mid : World) (at next : Option State) (p : Piece) → mid.output ≡ old.output → Advances base old mid at p next → ShowsFront before now style mid p → CutsPrinting before now old.output.waiting (walk_meaning style old base at)
cut_of before now base style old mid at next p same a s = record {
  bytes = s.bytes;
  cut = rw (← ap (λ (o : Output). o.waiting) same) s.cut;
  more = λ text.
      let q = shown (setting_in_world style mid) mid.cells.cells p (progress_in_world mid text) in
      let after = continued_after style mid base next q in
      let r = s.more text in
      (r.0 ++ after.more, ap (λ (p : Progress). p.page.text) (a.means style text) ∙ (after.text ∙ (ap (λ t. t ++ after.more) r.1 ∙ append_assoc (text ++ s.bytes) r.0 after.more)));
}

pub halts_of : (told : Option (List ℕ)) (base : ℕ) (style : atoms.Style) (old new : World) (at : Option State) (s : Stop) → new.output ≡ old.output → EndsPrinting base old new at s → HaltsPrinting told told old new (walk_meaning style old base at) s
halts_of told base style old new at s same e = record {
  ending = e.ending;
  is_stop = e.is_stop;
  prints = record {
    bytes = [];
    follows = nothing_follows told old.output.waiting new.output.waiting (ap (λ (o : Output). o.waiting) same);
    means = λ text. e.means style text ∙ ap (stopped new e.ending) (sym (append-nil text));
  };
}

-- ---- the first step

pub goes_first : (before now : Option (List ℕ)) (base : ℕ) (style : atoms.Style) (old mid new : World) (v : Tagged) (next : Option State) (p : Piece) → mid.output ≡ old.output → BeginsPrinting base old mid v p next → Writes mid new → Shows before now style mid new p → GoesOnPrinting before now base style old new (whole_printed style old v) next
goes_first before now base style old mid new v next p same a e s = record {
  prints = record {
    bytes = s.bytes;
    follows = rw (← ap (λ (o : Output). o.waiting) same) s.follows;
    means = λ text. a.means style text ∙ (ap (continued style mid base next) (s.means text) ∙ continued_written style mid new base next (progress_in_world new (text ++ s.bytes)) e);
  };
  ready = ready_written mid new base e a.ready;
  next_is = next_written mid new base next e a.next_is;
}

pub cut_first : (before now : Option (List ℕ)) (base : ℕ) (style : atoms.Style) (old mid : World) (v : Tagged) (next : Option State) (p : Piece) → mid.output ≡ old.output → BeginsPrinting base old mid v p next → ShowsFront before now style mid p → CutsPrinting before now old.output.waiting (whole_printed style old v)
cut_first before now base style old mid v next p same a s = record {
  bytes = s.bytes;
  cut = rw (← ap (λ (o : Output). o.waiting) same) s.cut;
  more = λ text.
      let q = shown (setting_in_world style mid) mid.cells.cells p (progress_in_world mid text) in
      let after = continued_after style mid base next q in
      let r = s.more text in
      (r.0 ++ after.more, ap (λ (p : Progress). p.page.text) (a.means style text) ∙ (after.text ∙ (ap (λ t. t ++ after.more) r.1 ∙ append_assoc (text ++ s.bytes) r.0 after.more)));
}

pub halts_first : (told : Option (List ℕ)) (style : atoms.Style) (old new : World) (v : Tagged) (s : Stop) → new.output ≡ old.output → FailsToBegin old new v s → HaltsPrinting told told old new (whole_printed style old v) s
halts_first told style old new v s same e = record {
  ending = e.ending;
  is_stop = e.is_stop;
  prints = record {
    bytes = [];
    follows = nothing_follows told old.output.waiting new.output.waiting (ap (λ (o : Output). o.waiting) same);
    means = λ text. e.means style text ∙ ap (stopped new e.ending) (sym (append-nil text));
  };
}

-- ---- one after another

pub prints_more : (a b c : Option (List ℕ)) (x y z : List ℕ) (one two three : List ℕ → Progress) → PrintsOn a b x y one two → PrintsOn b c y z two three → PrintsOn a c x z one three
prints_more a b c x y z one two three p q = record {
  bytes = p.bytes ++ q.bytes;
  follows = follows_more a b c x y z p.bytes q.bytes p.follows q.follows;
  means = λ text. p.means text ∙ (q.means (text ++ p.bytes) ∙ ap three (append_assoc text p.bytes q.bytes));
}

pub cuts_more : (a b c : Option (List ℕ)) (x y : List ℕ) (one two : List ℕ → Progress) → PrintsOn a b x y one two → CutsPrinting b c y two → CutsPrinting a c x one
cuts_more a b c x y one two p q = record {
  bytes = p.bytes ++ q.bytes;
  cut = cut_more a b c x y p.bytes q.bytes p.follows q.cut;
  more = λ text.
      let r = q.more (text ++ p.bytes) in
      (r.0, ap (λ (w : Progress). w.page.text) (p.means text) ∙ (r.1 ∙ ap (λ t. t ++ r.0) (append_assoc text p.bytes q.bytes)));
}

-- ---- one printing world after another

pub ticked_more : (a b c : WorldCounts) → IsTicked a b → IsTicked b c → IsTicked a c
ticked_more a b c p q = record {
  number = p.number + q.number;
  counts = q.counts ∙ (ap (ticks q.number) p.counts ∙ ticks_add p.number q.number a);
  left = let l = p.left in let m = q.left in omega (arith, l, m);
  stop = q.stop ∙ p.stop;
}
  where
    ticks_add : (n m : ℕ) (c : WorldCounts) → ticks m (ticks n c) ≡ ticks (n + m) c
    ticks_add zero m c = let e : 0 + m ≡ m = omega arith in rw e refl
    ticks_add (suc n) m c = let e : suc n + m ≡ suc (n + m) = omega arith in rw e (ticks_add n m (ticked c))

pub printing_more : (base : ℕ) (a b c : World) → IsPrinting base a b → IsPrinting base b c → IsPrinting base a c
printing_more base a b c p q = record {
  world = q.world ∙ ap (λ (w : World). record w { counts = c.counts; levels = c.levels; output = record w.output { waiting = c.output.waiting; column = c.output.column } }) p.world;
  ticked = ticked_more a.counts b.counts c.counts p.ticked q.ticked;
  steady = record {
    below = q.steady.below ∙ p.steady.below;
    level = let l = p.steady.level in let m = q.steady.level in omega (arith, l, m);
    bound = q.steady.bound ∙ p.steady.bound;
    aside = q.steady.aside ∙ p.steady.aside;
  };
}

-- at the end the levels are as they were
pub levels_back : (base : ℕ) (old new : WorldLevels) → length old.walk ≡ base → length new.walk ≡ base → IsSteady base old new → new ≡ old
levels_back base old new eo en s =
    let none_new : length new.walk - base ≡ 0 = omega (arith, en) in
    let none_old : length old.walk - base ≡ 0 = omega (arith, eo) in
    let walk : new.walk ≡ old.walk = ap (λ n. drop n new.walk) (sym none_new) ∙ (s.below ∙ ap (λ n. drop n old.walk) none_old) in
    let level : new.level ≡ old.level = omega (arith, s.level, eo, en) in
    ap (λ (w : List (ℕ × ℕ × ℕ)). record new { walk = w }) walk ∙ (ap (λ (n : ℕ). record new { walk = old.walk; level = n }) level
    ∙ (ap (λ (n : ℕ). record new { walk = old.walk; level = old.level; bound = n }) s.bound ∙ ap (λ (a : Option ℕ). record { bound = old.bound; level = old.level; walk = old.walk; aside = a }) s.aside))

-- ---- the whole

stop_before : (old mid : WorldCounts) (e : Ending) (s : Stop) → last_count_stop mid ≡ last_count_stop old → IsStop mid e s → IsStop old e s
stop_before old mid Whole s same h = absurd h
stop_before old mid NoTurn s same h = h ∙ same
stop_before old mid TooDeep s same h = h

pub halts_more : (a b c : Option (List ℕ)) (base : ℕ) (style : atoms.Style) (old mid new : World) (start : List ℕ → Progress) (at : Option State) (now : State) (s : Stop) → at ≡ Some now → IsPrinting base old mid → GoesOnPrinting a b base style old mid start at → HaltsPrinting b c mid new (walk_meaning style mid base (Some now)) s → HaltsPrinting a c old new start s
halts_more a b c base style old mid new start at now s e w g h =
    let p : PrintsOn a b old.output.waiting mid.output.waiting start (walk_meaning style mid base (Some now)) = rw (sym e) g.prints in
    record {
      ending = h.ending;
      is_stop = stop_before old.counts mid.counts h.ending s w.ticked.stop h.is_stop;
      prints = prints_more a b c old.output.waiting mid.output.waiting new.output.waiting start (walk_meaning style mid base (Some now)) (stopped new h.ending) p h.prints;
    }

pub cuts_later : (a b c : Option (List ℕ)) (base : ℕ) (style : atoms.Style) (old mid : World) (start : List ℕ → Progress) (at : Option State) (now : State) → at ≡ Some now → GoesOnPrinting a b base style old mid start at → CutsPrinting b c mid.output.waiting (walk_meaning style mid base (Some now)) → CutsPrinting a c old.output.waiting start
cuts_later a b c base style old mid start at now e g h =
    let p : PrintsOn a b old.output.waiting mid.output.waiting start (walk_meaning style mid base (Some now)) = rw (sym e) g.prints in
    cuts_more a b c old.output.waiting mid.output.waiting start (walk_meaning style mid base (Some now)) p h

pub goes_more : (a b c : Option (List ℕ)) (base : ℕ) (style : atoms.Style) (old mid new : World) (start : List ℕ → Progress) (at : Option State) (now : State) (next : Option State) → at ≡ Some now → GoesOnPrinting a b base style old mid start at → GoesOnPrinting b c base style mid new (walk_meaning style mid base (Some now)) next → GoesOnPrinting a c base style old new start next
goes_more a b c base style old mid new start at now next e g q =
    let p : PrintsOn a b old.output.waiting mid.output.waiting start (walk_meaning style mid base (Some now)) = rw (sym e) g.prints in
    record {
      prints = prints_more a b c old.output.waiting mid.output.waiting new.output.waiting start (walk_meaning style mid base (Some now)) (walk_meaning style new base next) p q.prints;
      ready = q.ready;
      next_is = q.next_is;
    }

pub printed_of : (before now : Option (List ℕ)) (style : atoms.Style) (base : ℕ) (old new : World) (v : Tagged) (at : Option State) → at ≡ None → base ≡ length old.levels.walk → IsPrinting base old new → GoesOnPrinting before now base style old new (whole_printed style old v) at → IsPrinted before now style old new v
printed_of before now style base old new v None e eb w g = record {
  prints = g.prints;
  levels = levels_back base old.levels new.levels (sym eb) g.next_is w.steady;
}
printed_of before now style base old new v (Some x) e eb w g = absurd (cc)
