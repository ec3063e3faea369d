-- What the crates above may say of cells as objects are made and changed.
use Rattle.std.specs.Prelude.{◌≡◌, ◌≢◌, ℕ, ◌+◌, ◌<◌, true, List, ◌++◌, length, slice_set}
use Rattle.rl_tags.specs.Tagged.{Tagged}
use Rattle.rl_cells.specs.Cell.{Cell, More, cell_at, cost_of, placed, is_live, is_live_word, is_pair_cell, is_str_cell, is_vector_cell, is_big_cell, is_id_cell, is_fun_cell}

-- a new object stands where the cells ended, and takes its cost; what stood stays, and what was live is live
pub record IsAdded : Type 0 where
  pub stands : (cells more : List Cell) (k : ℕ) → k < length cells → cell_at (cells ++ more) k ≡ cell_at cells k
  pub here : (cells : List Cell) (c : Cell) → cell_at (cells ++ placed c) (length cells) ≡ c
  pub past : (cells : List Cell) (c : Cell) (k : ℕ) → length cells < k → cell_at (cells ++ placed c) k ≡ More
  pub long : (cells : List Cell) (c : Cell) → 0 < cost_of c → length (cells ++ placed c) ≡ length cells + cost_of c
  pub live : (cells more : List Cell) (v : Tagged) → is_live cells v ≡ true → is_live (cells ++ more) v ≡ true
  pub words : (cells more : List Cell) (w : ℕ) → is_live_word cells w ≡ true → is_live_word (cells ++ more) w ≡ true

-- two objects of one kind and cost
pub record SameKind (c d : Cell) : Type 0 where
  pub cost : cost_of c ≡ cost_of d
  pub pair : is_pair_cell c ≡ is_pair_cell d
  pub str : is_str_cell c ≡ is_str_cell d
  pub vector : is_vector_cell c ≡ is_vector_cell d
  pub big : is_big_cell c ≡ is_big_cell d
  pub id : is_id_cell c ≡ is_id_cell d
  pub «fun» : is_fun_cell c ≡ is_fun_cell d

-- one object alone is changed, and where it keeps its kind the same values are live
pub record IsChanged : Type 0 where
  pub here : (cells : List Cell) (k : ℕ) (c : Cell) → k < length cells → cell_at (slice_set cells k c) k ≡ c
  pub others : (cells : List Cell) (k j : ℕ) (c : Cell) → j ≢ k → cell_at (slice_set cells k c) j ≡ cell_at cells j
  pub live : (cells : List Cell) (k : ℕ) (c : Cell) (v : Tagged) → k < length cells → SameKind c (cell_at cells k) → is_live (slice_set cells k c) v ≡ is_live cells v

-- objects lie apart: in the cells of an object no other begins
pub record IsApart (cells : List Cell) : Type 0 where
  pub apart : (k j : ℕ) → 0 < j → j < cost_of (cell_at cells k) → cell_at cells (k + j) ≡ More
