-- Two runs side by side, the left one and the right one, number their objects apart: which number on the left is which on the right, as links that only grow (this project's).
use Rattle.std.specs.Prelude.{◌≡◌, ◌<◌, ℕ}

pub data Links : Type 0 where
  unlinked : Links
  link : ℕ → ℕ → Links → Links

-- these two numbers are linked
pub data Linked : Links → ℕ → ℕ → Type 0 where
  newest : (a b : ℕ) (ls : Links) → Linked (link a b ls) a b
  older : (a b r q : ℕ) (ls : Links) → Linked ls r q → Linked (link a b ls) r q

-- no number is linked to two
pub record OneToOne (ls : Links) : Type 0 where
  pub right : (r q p : ℕ) → Linked ls r q → Linked ls r p → q ≡ p
  pub left : (r p q : ℕ) → Linked ls r q → Linked ls p q → r ≡ p

-- all numbers are below these
pub record Within (ls : Links) (m n : ℕ) : Type 0 where
  pub left : (r q : ℕ) → Linked ls r q → r < m
  pub right : (r q : ℕ) → Linked ls r q → q < n
