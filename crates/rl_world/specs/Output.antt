-- What is printed: the bytes that wait, the column, and the line length.
use Rattle.std.specs.Prelude.{ℕ, List}

pub record Output : Type 0 where
  pub waiting : List ℕ
  pub column : ℕ
  pub line_length : ℕ
