-- The words of the command: which words are one, and at which word they stop being one.
use Rattle.std.specs.Prelude.{◌≡◌, ℕ, suc, ◌<◌, ◌≤◌, List, [], ◌∷◌, ◌++◌, length, take, codes}

abbrev pub CommandWord : Type 0
CommandWord = List ℕ

-- the word of the command that runs a file of Standard Lisp forms
abbrev pub run_word : CommandWord
run_word = codes "sl"

-- a path has 1 to 4,096 bytes
pub record IsPath (path : CommandWord) : Type 0 where
  pub some : 0 < length path
  pub short : length path ≤ 4096

-- `sl` and a path
pub record IsCommand (words : List CommandWord) (path : CommandWord) : Type 0 where
  pub are : words ≡ run_word ∷ path ∷ []
  pub path_is : IsPath path

-- some command begins with these words
pub record BeginsCommand (words : List CommandWord) : Type 0 where
  pub more : List CommandWord
  pub path : CommandWord
  pub command : IsCommand (words ++ more) path

-- the words are no command, and k is the number, from 0, of the first word after which none remains, or the number of words
pub record StopsAt (words : List CommandWord) (k : ℕ) : Type 0 where
  pub within : k ≤ length words
  pub begins : BeginsCommand (take k words)
  pub stops : k < length words → BeginsCommand (take (suc k) words) → ⊥
  pub not_whole : (path : CommandWord) → IsCommand words path → ⊥
