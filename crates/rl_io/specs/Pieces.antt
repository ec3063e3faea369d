-- What a read takes of the bytes that are left, and what a write adds to those that are there.
use Rattle.std.specs.Prelude.{◌≡◌, ℕ, ◌<◌, ◌≤◌, List, [], ◌++◌, length, take, drop}

-- `n` bytes moved from the front of what was left to the front of the buffer;
-- none exactly where nothing was left, or the buffer has no room
pub record Moves (before now buffer : List ℕ) (n : ℕ) : Type 0 where
  pub front : take n buffer ≡ take n before
  pub within : n ≤ length before
  pub rest : now ≡ drop n before
  pub ends : 0 < length buffer → n ≡ 0 → before ≡ []

-- a front of the piece was added, all of it or less
abbrev pub AppendsFront : List ℕ → List ℕ → List ℕ → Type 0
AppendsFront before now piece = (n : ℕ) × (now ≡ before ++ take n piece)
