-- Calls that write, one after another.
use Rattle.std.proofs.Common.{◌≡◌, ℕ, List, Option, Some, None, refl, sym, ap, subst, ◌∙◌}
use Rattle.std.specs.Prelude.{◌≢◌, Result, Err}
use Rattle.rl_io.specs.declared.traits.Io.{Io}
use Rattle.rl_tree.specs.Printing.{Ending, Whole, NoTurn, TooDeep}
use Rattle.rl_world.specs.Counts.{WorldCounts}
use Rattle.rl_world.specs.Writing.{ChangesOutAlone, ChangesOutObject, OnlyWriteFaults, StopFaults, WriteFaults}
use Rattle.rl_world.specs.declared.counts.Expansion.{Expansion}
use Rattle.rl_world.specs.declared.stop.Stop.{Stop}
use Rattle.rl_world.specs.declared.stop.Stop.TheVariants as stop
use Rattle.rl_world.specs.declared.world.World.{World}
use Rattle.rl_print.specs.Counted.{IsStop, last_stop_at}
use Rattle.rl_print.proofs.Shown.{writes_trans}

pub object_same : {I O N F : Type 0} (io : Io I O N F) → ChangesOutObject io io
object_same io = record { objects = refl; same_out = refl }

pub object_then : {I O N F : Type 0} (a b c : Io I O N F) → ChangesOutObject a b → ChangesOutObject b c → ChangesOutObject a c
object_then {I} {O} {N} {F} a b c p q = record {
  objects = q.objects ∙ ap (λ (io : Io I O N F). record io { out = c.out }) p.objects;
  same_out = q.same_out ∙ p.same_out;
}

pub out_same : {I O N F : Type 0} (w : World) (io : Io I O N F) → ChangesOutAlone w w io io
out_same w io = record { world = refl; outside = object_same io }

pub out_then : {I O N F : Type 0} (u v w : World) (a b c : Io I O N F) → ChangesOutAlone u v a b → ChangesOutAlone v w b c → ChangesOutAlone u w a c
out_then u v w a b c p q = record { world = writes_trans u v w p.world q.world; outside = object_then a b c p.outside q.outside }

-- ---- faults, after a call that left the count

pub only_then : {A : Type 0} (r : Result A Stop) (a b c : ℕ) (waiting : List ℕ) → b ≡ a → OnlyWriteFaults r b c waiting → OnlyWriteFaults r a c waiting
only_then r a b c waiting e h = subst (λ n. OnlyWriteFaults r n c waiting) e h

pub faults_then : {A : Type 0} (r : Result A Stop) (a b c : ℕ) (waiting : List ℕ) → b ≡ a → WriteFaults r b c waiting → WriteFaults r a c waiting
faults_then r a b c waiting e h = subst (λ n. WriteFaults r n c waiting) e h

pub only_as_any : (s : Stop) (a b : ℕ) (waiting : List ℕ) → OnlyWriteFaults {A = Unit {0}} (Err s) a b waiting → StopFaults s a b waiting
only_as_any s a b waiting h = subst (λ s. StopFaults s a b waiting) (sym h.0) h.1

-- ---- where nothing was written

last_other : (o : Option ℕ) (e : Option Expansion) → last_stop_at o e ≢ stop.Write
last_other (Some n) e h = absurd (cc)
last_other None (Some e) h = absurd (cc)
last_other None None h = absurd (cc)

not_write : (c : WorldCounts) (e : Ending) (s : Stop) → IsStop c e s → s ≢ stop.Write
not_write c Whole s h e = absurd h
not_write c NoTurn s h e = last_other c.opening c.outermost (sym h ∙ e)
not_write c TooDeep s h e = absurd (cc)

steady_stop : (s : Stop) (n : ℕ) (waiting : List ℕ) → s ≢ stop.Write → StopFaults s n n waiting
steady_stop stop.Write n waiting h = absurd (h refl)
steady_stop stop.Turns n waiting h = refl
steady_stop stop.Cells n waiting h = refl
steady_stop stop.Depth n waiting h = refl
steady_stop (stop.Expansion name) n waiting h = refl
steady_stop stop.Read n waiting h = refl
steady_stop stop.Files n waiting h = refl
steady_stop stop.Missing n waiting h = refl

-- a want of a turn or of a level is no fault
pub counted_stop : (c : WorldCounts) (e : Ending) (s : Stop) (n : ℕ) (waiting : List ℕ) → IsStop c e s → StopFaults s n n waiting
counted_stop c e s n waiting h = steady_stop s n waiting (not_write c e s h)
