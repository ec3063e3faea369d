-- A file that is read piece by piece.
use Rattle.std.proofs.Common.{◌≡◌, ℕ, ◌≤◌, List, [], length, take, Option, Some, None}

-- these bytes are a front of the file; of no file, none
abbrev pub HoldsFront : Option (List ℕ) → List ℕ → Type 0
HoldsFront None bytes = bytes ≡ []
HoldsFront (Some file) bytes = (bytes ≡ take (length bytes) file) × (length bytes ≤ length file)
