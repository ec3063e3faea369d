-- How many are unfinished, and how many frames there are.
use Rattle.std.proofs.Common.{◌≤◌, ◌+◌, List, [], ◌∷◌, length, arith}
use Rattle.rl_parse.specs.Frames.{nested_in}
use Rattle.rl_parse.specs.declared.frame.Frame.{Frame}
use Rattle.rl_parse.specs.declared.frame.Frame.TheVariants.{Side}

pub nested_few : (fs : List Frame) → nested_in fs ≤ length fs + 1
nested_few [] = omega arith
nested_few (Side n ∷ fs) = let few = nested_few fs in omega (arith, few)
nested_few (f ∷ fs) = let few = nested_few fs in omega (arith, few)
