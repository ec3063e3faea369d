-- What is printed, and where it goes: bytes follow what waited, and the page is told for any text that was printed before.
use Rattle.std.specs.Prelude.{◌≡◌, ℕ, List, ◌++◌, Option, IfSome}
use Rattle.rl_tree.specs.Printing.{Page}
use Rattle.rl_world.specs.Waiting.{GoesOut, FrontGoesOut}
use Rattle.rl_world.specs.declared.world.World.{World}

-- the page of a world, when this text was printed on it
abbrev pub page_in : World → List ℕ → Page
page_in w text = record { text = text; column = w.output.column }

-- a page that comes of what was printed before, or None
abbrev pub PageOfText : Type 0
PageOfText = List ℕ → Option Page

-- some bytes were printed, and behind them comes what came of all before
pub record PrintsOnPage (before now : Option (List ℕ)) (waited waiting : List ℕ) (old new : PageOfText) : Type 0 where
  pub bytes : List ℕ
  pub follows : GoesOut before waited now waiting bytes
  pub means : (text : List ℕ) → old text ≡ new (text ++ bytes)

-- the bytes are a front of what is printed
pub record IsFrontOfPage (whole : PageOfText) (bytes : List ℕ) : Type 0 where
  pub more : (text : List ℕ) → IfSome (whole text) (λ page. (rest : List ℕ) × (page.text ≡ (text ++ bytes) ++ rest))

-- a front of what is printed follows what waited
pub record HaltsPage (before now : Option (List ℕ)) (waited waiting : List ℕ) (whole : PageOfText) : Type 0 where
  pub bytes : List ℕ
  pub follows : GoesOut before waited now waiting bytes
  pub front : IsFrontOfPage whole bytes

-- a front of what waited and of what is printed came to the sink
pub record CutsPage (before now : Option (List ℕ)) (waited : List ℕ) (whole : PageOfText) : Type 0 where
  pub bytes : List ℕ
  pub cut : FrontGoesOut before now (waited ++ bytes)
  pub front : IsFrontOfPage whole bytes

-- of the world only turns, levels and what is printed have changed
pub record KeepsObjects (old new : World) : Type 0 where
  pub cells : new.cells ≡ old.cells
  pub syms : new.syms ≡ old.syms
  pub line : new.output.line_length ≡ old.output.line_length
