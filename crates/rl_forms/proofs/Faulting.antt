-- What a failed write is to an evaluation.
use Rattle.std.proofs.Common.{◌≡◌, ℕ, List, refl, subst}
use Rattle.std.specs.Prelude.{◌≢◌}
use Rattle.rl_io.specs.Faults.{Rose}
use Rattle.rl_world.specs.Writing.{StopFaults}
use Rattle.rl_world.specs.declared.stop.Stop.{Stop}
use Rattle.rl_world.specs.declared.stop.Stop.TheVariants as stop
use Rattle.rl_forms.specs.declared.printing.Fault.{Fault}
use Rattle.rl_forms.specs.declared.printing.Fault.TheVariants.{NoMemory, Write}

pub failed_rose : (s : Stop) (a b : ℕ) (waiting : List ℕ) → s ≡ stop.Write → StopFaults s a b waiting → Rose a b
failed_rose s a b waiting e h = (subst (λ s. StopFaults s a b waiting) e h).rose

steady_else : (s : Stop) (a b : ℕ) (waiting : List ℕ) → s ≢ stop.Write → StopFaults s a b waiting → b ≡ a
steady_else stop.Write a b waiting n h = absurd (n refl)
steady_else stop.Turns a b waiting n h = h
steady_else stop.Cells a b waiting n h = h
steady_else stop.Depth a b waiting n h = h
steady_else (stop.Expansion name) a b waiting n h = h
steady_else stop.Read a b waiting n h = h
steady_else stop.Files a b waiting n h = h
steady_else stop.Missing a b waiting n h = h

pub steady_fault : (f : Fault) (s : Stop) (a b : ℕ) (waiting : List ℕ) → (f ≡ NoMemory → s ≢ stop.Write) → f ≢ Write → StopFaults s a b waiting → b ≡ a
steady_fault NoMemory s a b waiting m n h = steady_else s a b waiting (m refl) h
steady_fault Write s a b waiting m n h = absurd (n refl)
