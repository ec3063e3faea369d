-- Laws of what is printed behind what waits.
use Rattle.std.specs.Prelude.{ℕ, List, ◌++◌, Option}
use Rattle.rl_world.specs.Waiting.{GoesOut, FrontGoesOut}

-- two pieces that follow what waited, one after another, follow it as one piece; and where the second is cut off, so are both together; what is cut off is a front of any longer text
pub record PiecesGoOn : Type 0 where
  pub follows : (a b c : Option (List ℕ)) (x y z first more : List ℕ) → GoesOut a x b y first → GoesOut b y c z more → GoesOut a x c z (first ++ more)
  pub cut : (a b c : Option (List ℕ)) (x y first more : List ℕ) → GoesOut a x b y first → FrontGoesOut b c (y ++ more) → FrontGoesOut a c (x ++ (first ++ more))
  pub longer : (a c : Option (List ℕ)) (x first more : List ℕ) → FrontGoesOut a c (x ++ first) → FrontGoesOut a c (x ++ (first ++ more))
