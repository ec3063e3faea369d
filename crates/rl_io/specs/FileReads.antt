-- What a read at an offset answers.
use Rattle.std.specs.Prelude.{◌≡◌, ℕ, ◌+◌, ◌<◌, ◌≤◌, List, length, take, drop, Option, None, Some}
use Rattle.rl_io.specs.declared.traits.FileRead.{FileRead}
use Rattle.rl_io.specs.declared.traits.FileRead.TheVariants.{Piece, End, Missing}

-- of a file, or of no file
abbrev pub ReadsFile : Option (List ℕ) → ℕ → List ℕ → FileRead → Type 0
ReadsFile None offset buffer (Piece n) = ⊥
ReadsFile None offset buffer End = ⊥
ReadsFile None offset buffer Missing = Unit {0}
ReadsFile (Some bytes) offset buffer (Piece n) =
    (offset < length bytes) × (offset + n ≤ length bytes) × (take n buffer ≡ take n (drop offset bytes))
ReadsFile (Some bytes) offset buffer End = length bytes ≤ offset
ReadsFile (Some bytes) offset buffer Missing = ⊥

-- a piece fits a buffer with this room, and is not empty where the buffer is not
abbrev pub FitsBuffer : ℕ → FileRead → Type 0
FitsBuffer room (Piece n) = (n ≤ room) × (0 < room → 0 < n)
FitsBuffer room End = Unit {0}
FitsBuffer room Missing = Unit {0}
