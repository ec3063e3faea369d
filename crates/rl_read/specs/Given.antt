-- What a text gives, and the turns that its bytes take.
use Rattle.std.specs.Prelude.{◌≡◌, ℕ, ◌-◌, ◌==◌, Bool, true, false, List, [], ◌∷◌, ◌++◌, length, drop, Option, Some, None}
use Rattle.rl_world.specs.Counts.{tick_stop, ticked}
use Rattle.rl_world.specs.Input.{with_back}
use Rattle.rl_world.specs.declared.world.World.{World}
use Rattle.rl_world.specs.declared.stop.Stop.{Stop}
use Rattle.rl_world.specs.declared.stop.Stop.TheVariants as stop
use Rattle.rl_read.specs.Taken.{Unread, TakesBytes}

-- the bytes of a slice, how many of them were given, and the byte that was put back
pub record Slice : Type 0 where
  pub bytes : List ℕ
  pub at : ℕ
  pub returned : Option ℕ

-- the bytes of a slice that are to be read
abbrev pub slice_left : Slice → List ℕ
slice_left s = with_back s.returned (drop s.at s.bytes)

-- a slice has ended where all its bytes were given
abbrev pub unread_slice : Slice → Unread
unread_slice s = record { returned = s.returned; given = s.at - length (with_back s.returned []); ended = s.at == length s.bytes; left = Some (drop s.at s.bytes) }

-- the input, or the output, failed
abbrev pub is_fault : Stop → Bool
is_fault stop.Read = true
is_fault stop.Write = true
is_fault s = false

-- a turn, a level or room was wanting
abbrev pub is_counted : Stop → Bool
is_counted stop.Turns = true
is_counted stop.Cells = true
is_counted stop.Depth = true
is_counted (stop.Expansion name) = true
is_counted s = false

-- a turn was left and was taken
pub record TakesTurn (old new : World) : Type 0 where
  pub some : tick_stop old.counts ≡ None
  pub counted : new.counts ≡ ticked old.counts

-- a byte takes a turn where bytes take turns, the end takes none
abbrev pub IsGiven : Bool → World → World → Option ℕ → Type 0
IsGiven true old new (Some b) = TakesTurn old new
IsGiven turns old new b = new.counts ≡ old.counts

-- a byte was given, and no turn was left for it
pub record IsWithoutTurn (before now : Unread) (old new : World) (s : Stop) : Type 0 where
  pub stop_is : tick_stop old.counts ≡ Some s
  pub counts : new.counts ≡ old.counts
  pub given : TakesBytes before now (λ before now. (b : ℕ) × (before ≡ b ∷ now))

abbrev pub WantsTurn : Bool → Unread → Unread → World → World → Stop → Type 0
WantsTurn true before now old new s = IsWithoutTurn before now old new s
WantsTurn false before now old new s = ⊥

-- the byte that was given may be put back
abbrev pub HasGiven : (ℕ → Type 0) → Option ℕ → Type 0
HasGiven may None = Unit {0}
HasGiven may (Some b) = may b

-- a front of it is left
abbrev pub FrontIsLeft : List ℕ → List ℕ → Type 0
FrontIsLeft before now = (lost : List ℕ) × (before ≡ now ++ lost)
