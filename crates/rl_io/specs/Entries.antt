-- Files in memory, as a list of names with bytes.
use Rattle.std.specs.Prelude.{ℕ, ◌+◌, ◌-◌, List, [], ◌∷◌, ◌++◌, length, take, drop, min, nat_le, Option, None, Some, if◌then◌else◌}
use Rattle.std.specs.Str.{bytes_eq}
use Rattle.rl_io.specs.Calls.{Calls, passed, missed}
use Rattle.rl_io.specs.declared.traits.FileRead.{FileRead}
use Rattle.rl_io.specs.declared.traits.FileRead.TheVariants.{Piece, End, Missing}

pub record FileEntry : Type 0 where
  pub name : List ℕ
  pub bytes : List ℕ

-- the file of a name
abbrev pub file_of : List FileEntry → List ℕ → Option (List ℕ)
file_of [] name = None
file_of (e ∷ es) name = (if bytes_eq e.name name then Some e.bytes else file_of es name)

-- the files, once the bytes are the file of that name: in its place, where there was one, and else at the end
abbrev pub put_of : List FileEntry → List ℕ → List ℕ → List FileEntry
put_of [] name bytes = record { name = name; bytes = bytes } ∷ []
put_of (e ∷ es) name bytes =
    (if bytes_eq e.name name then record { name = e.name; bytes = bytes } ∷ es else e ∷ put_of es name bytes)

-- the room that files take: each takes its name, its bytes and 16
abbrev pub room_used : List FileEntry → ℕ
room_used [] = 0
room_used (e ∷ es) = 16 + length e.name + length e.bytes + room_used es

-- files, and the room for all of them
pub record StoredFiles : Type 0 where
  pub files : List FileEntry
  pub room : ℕ

-- the store, once a file was put
abbrev pub stored : StoredFiles → List ℕ → List ℕ → StoredFiles
stored store name bytes = record { files = put_of store.files name bytes; room = store.room }

-- a folder in memory
pub record FolderState : Type 0 where
  pub files : List FileEntry
  pub room : ℕ
  pub calls : Calls

-- after a file was put by hand, which is no call of the trait
abbrev pub folder_with_file : FolderState → List ℕ → List ℕ → FolderState
folder_with_file folder name bytes = record { files = put_of folder.files name bytes; room = folder.room; calls = folder.calls }

-- after a write
abbrev pub written : FolderState → List ℕ → List ℕ → FolderState
written folder name bytes =
    record { files = put_of folder.files name bytes; room = folder.room; calls = passed folder.calls }

-- after a read
abbrev pub looked : FolderState → FolderState
looked folder = record { files = folder.files; room = folder.room; calls = passed folder.calls }

-- after a call that failed
abbrev pub untouched : FolderState → FolderState
untouched folder = record { files = folder.files; room = folder.room; calls = missed folder.calls }

-- what a read of a file at an offset answers, with room for so many bytes
abbrev pub answer_of : Option (List ℕ) → ℕ → ℕ → FileRead
answer_of None offset room = Missing
answer_of (Some file) offset room =
    (if nat_le (length file) offset then End else Piece (min (length file - offset) room))

-- the buffer after that read
abbrev pub buffer_of : Option (List ℕ) → ℕ → List ℕ → List ℕ
buffer_of None offset buffer = buffer
buffer_of (Some file) offset buffer =
    take (min (length file - offset) (length buffer)) (drop offset file) ++ drop (min (length file - offset) (length buffer)) buffer
