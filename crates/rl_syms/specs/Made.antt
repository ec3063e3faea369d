-- A new identifier: its name as a string, and then its block.
use Rattle.std.specs.Prelude.{◌≡◌, true, ℕ, ◌+◌, List, [], ◌∷◌, length, Option, Some, None}
use Rattle.rl_tags.specs.Tagged.{Tagged, IdAt, StrAt, word_of}
use Rattle.rl_tags.specs.declared.Tag.TheVariants as tag
use Rattle.rl_cells.specs.Cell.{CellStore, StrCell, BlockCell, cost_of, grown, has_room}
use Rattle.rl_syms.specs.Table.{IsNamed, IsFree, nil_value}

-- the word of a value, or one that holds nothing
abbrev pub option_word : Option Tagged → ℕ
option_word None = 15
option_word (Some v) = word_of v

-- without value and definition, and plain
abbrev pub new_words : Tagged → Tagged → Option Tagged → List ℕ
new_words text plist next = word_of text ∷ 15 ∷ word_of plist ∷ 15 ∷ 0 ∷ option_word next ∷ []

-- the cells that a new identifier of this name takes
abbrev pub id_cost : List ℕ → ℕ
id_cost name = cost_of (StrCell name) + 3

abbrev pub new_id : CellStore → List ℕ → Tagged
new_id s name = IdAt (length s.cells + cost_of (StrCell name))

abbrev pub with_id : CellStore → List ℕ → Tagged → Option Tagged → CellStore
with_id s name plist next = grown (grown s (StrCell name)) (BlockCell tag.Id (new_words (StrAt (length s.cells)) plist next))

-- a name that an interned identifier has already: nothing is made
pub record Finds (old new : CellStore) (before after : Option Tagged) (name : List ℕ) (id : Tagged) : Type 0 where
  pub named : IsNamed old.cells before name id
  pub cells : new ≡ old
  pub head : after ≡ before

-- a name that no interned identifier has: a new one stands before the others
pub record Enters (old new : CellStore) (before after : Option Tagged) (name : List ℕ) (id : Tagged) : Type 0 where
  pub free : IsFree old.cells before name
  pub room : has_room old (id_cost name) ≡ true
  pub place : id ≡ new_id old name
  pub cells : new ≡ with_id old name nil_value before
  pub head : after ≡ Some id

-- opening goes on: nothing is counted, and no spare cells are in use
pub record IsOpening (s : CellStore) (bound : ℕ) : Type 0 where
  pub count : s.count ≡ None
  pub mark : s.mark ≡ None
  pub bound_is : s.bound ≡ bound
