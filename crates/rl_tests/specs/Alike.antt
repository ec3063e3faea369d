-- Frames of one level and two slots each.
use Rattle.std.specs.Prelude.{◌≡◌, List, [], ◌∷◌, length}
use Rattle.rl_stack.specs.StackState.{StackFrame}

abbrev pub AreAlike : List StackFrame → Type 0
AreAlike [] = Unit {0}
AreAlike (f ∷ fs) = (length f.slots ≡ 2) × (f.levels ≡ 1) × AreAlike fs
