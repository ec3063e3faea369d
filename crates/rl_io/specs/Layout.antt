-- How the names and the files lie in memory, one after another.
use Rattle.std.specs.Prelude.{◌≡◌, ℕ, ◌+◌, ◌*◌, ◌≤◌, List, [], ◌∷◌, length, take, drop, slice_get, None, Some}
use Rattle.rl_io.specs.Entries.{FileEntry, file_of}
use Rattle.rl_io.specs.declared.store.Size.{Size}

-- how many bytes these names and files take
abbrev pub total : List Size → ℕ
total [] = 0
total (s ∷ ss) = (s.name + s.file) + total ss

-- the files of these sizes that lie in `bytes`
abbrev pub files_of : List Size → List ℕ → List FileEntry
files_of [] bytes = []
files_of (s ∷ ss) bytes =
    record { name = take s.name bytes; bytes = take s.file (drop s.name bytes) }
    ∷ files_of ss (drop (s.name + s.file) bytes)

-- all bytes belong to files, and the room suffices
pub record IsLaidOut (sizes : List Size) (bytes : List ℕ) (room : ℕ) : Type 0 where
  pub filled : length bytes ≡ total sizes
  pub fits : total sizes + 16 * length sizes ≤ room

-- the first file of that name has this index, and its name lies at `start`
pub record IsFoundAt (sizes : List Size) (bytes name : List ℕ) (index start : ℕ) (size : Size) : Type 0 where
  pub size_is : slice_get sizes index ≡ Some size
  pub starts : start ≡ total (take index sizes)
  pub new_before : file_of (files_of (take index sizes) (take start bytes)) name ≡ None
  pub here : take size.name (drop start bytes) ≡ name
