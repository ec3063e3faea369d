-- What has begun: the level of the operand that it waits for, and how many are unfinished.
use Rattle.std.specs.Prelude.{ℕ, suc, Bool, true, false, List, [], ◌∷◌}
use Rattle.rl_parse.specs.declared.frame.Frame.{Frame}
use Rattle.rl_parse.specs.declared.frame.Frame.TheVariants.{Side, Tail, Lambda}

abbrev pub level_of_frame : Frame → ℕ
level_of_frame (Side n) = n
level_of_frame (Tail n) = n
level_of_frame f = 0

abbrev pub lowest_of : List Frame → ℕ
lowest_of [] = 0
lowest_of (f ∷ fs) = level_of_frame f

-- how many are unfinished in an operand of the innermost
abbrev pub nested_in : List Frame → ℕ
nested_in [] = 1
nested_in (Side n ∷ fs) = nested_in fs
nested_in (f ∷ fs) = suc (nested_in fs)

-- how many are unfinished in the innermost
abbrev pub nested_outside : List Frame → ℕ
nested_outside [] = 0
nested_outside (f ∷ fs) = nested_in fs

-- a lambda ends with its operand
abbrev pub is_lambda_frame : Frame → Bool
is_lambda_frame Lambda = true
is_lambda_frame f = false
