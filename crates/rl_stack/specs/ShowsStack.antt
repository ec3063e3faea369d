-- The states that a world and a stack show together: an identifier's value cell has the value of its newest binding, and the stack what that hid.
use Rattle.std.specs.Prelude.{◌≡◌, ◌≢◌, ◌≤◌, ℕ, ◌+◌, Bool, true, false, ◌==◌, if◌then◌else◌, List, [], ◌∷◌, length, Option, Some, None}
use Rattle.std.specs.Option.{ForSome}
use Rattle.rl_tags.specs.Tagged.{Tagged}
use Rattle.rl_tags.specs.Ids.{emsg_star_id}
use Rattle.rl_tree.specs.Value.{Value}
use Rattle.rl_tree.specs.declared.held.VarKind.{VarKind}
use Rattle.rl_tree.specs.declared.held.VarKind.TheVariants as kind
use Rattle.rl_cells.specs.Cell.{Cell, is_live}
use Rattle.rl_syms.specs.Table.{is_id}
use Rattle.rl_syms.specs.Contents.{value_of}
use Rattle.rl_world.specs.declared.world.World.{World}
use Rattle.rl_meaning.specs.State.{State, Pointer, Entry, Binding, Mark, Scope, Local, Fluid}
use Rattle.rl_meaning.specs.Outcome.{Done}
use Rattle.rl_meaning.specs.Symbols.{symbol_at}
use Rattle.rl_meaning.specs.Variables.{strays, variable}
use Rattle.rl_state.specs.ShownState.{ShowsState, number_in, option_value_in, pointer_named}
use Rattle.rl_stack.specs.declared.saved.Saved as stacked
use Rattle.rl_stack.specs.declared.saved.Saved.TheVariants as saved
use Rattle.rl_stack.specs.StackState.{StackFrame, StackState, levels_of_frames, levels_of_saved}

-- ---- what is shown

-- the value that a variable has below these bindings
abbrev pub value_below : ℕ → Option Value → List Entry → Option Value
value_below i top [] = top
value_below i top (Mark f ∷ entries) = value_below i top entries
value_below i top (Binding y scope v ∷ entries) = if i == y then Some v else value_below i top entries

-- a binding is local where the form that made it keeps the name plain
abbrev pub scope_kept : VarKind → Scope
scope_kept kind.Plain = Local
scope_kept kind.Fluid = Fluid
scope_kept kind.Global = Fluid

abbrev pub scope_saved : Bool → Scope
scope_saved true = Local
scope_saved false = Fluid

-- the function that a mark names
abbrev pub mark_shown : List Cell → Option Tagged → Option Pointer
mark_shown cells None = None
mark_shown cells (Some f) = Some (pointer_named (value_of cells f))

-- what is kept of a binding shows it: of which variable it is, how it was made, and the value that it hid
pub record ShowsBinding (cells : List Cell) (tops : ℕ → Option Value) (id : Tagged) (local : Bool) (hid : Option Tagged) (x : ℕ) (scope : Scope) (below : List Entry) : Type 0 where
  pub variable : number_in cells id ≡ x
  pub made : scope_saved local ≡ scope
  pub hidden : option_value_in cells hid ≡ value_below x (tops x) below

abbrev pub ShowsEntries : List Cell → (ℕ → Option Value) → List stacked.Saved → List Entry → Type 0
ShowsEntries cells tops [] [] = Unit {0}
ShowsEntries cells tops (saved.Mark f ∷ saves) (Mark g ∷ entries) = (mark_shown cells f ≡ g) × ShowsEntries cells tops saves entries
ShowsEntries cells tops (saved.Binding id local hid levels ∷ saves) (Binding x scope v ∷ entries) = ShowsBinding cells tops id local hid x scope entries × ShowsEntries cells tops saves entries
ShowsEntries cells tops _ _ = ⊥

abbrev pub tops_of : State → ℕ → Option Value
tops_of s i = (symbol_at s i).top

-- world and stack together show a state
pub record ShowsStack (w : World) (stack : StackState) (s : State) : Type 0 where
  pub world : ShowsState w s
  pub entries : ShowsEntries w.cells.cells (tops_of s) stack.saved s.bindings

-- a use of a variable gives this value; it may stray, and then what is watched is another
pub record GivesVariable (x : ℕ) (v : Value) (s : State) : Type 0 where
  pub astray : Bool
  pub is : variable x s ≡ Done v (strays astray x s)

-- ---- what is live

-- a variable that may be bound: EMSG!* is GLOBAL
pub record IsVariable (cells : List Cell) (id : Tagged) : Type 0 where
  pub is_id : is_id cells id ≡ true
  pub bindable : id ≢ emsg_star_id

abbrev pub AreLive : List Cell → List Tagged → Type 0
AreLive cells [] = Unit {0}
AreLive cells (v ∷ vs) = (is_live cells v ≡ true) × AreLive cells vs

abbrev pub AreFramesLive : List Cell → List StackFrame → Type 0
AreFramesLive cells [] = Unit {0}
AreFramesLive cells (f ∷ fs) = AreLive cells f.slots × AreLive cells f.waiting × AreFramesLive cells fs

abbrev pub AreSavedLive : List Cell → List stacked.Saved → Type 0
AreSavedLive cells [] = Unit {0}
AreSavedLive cells (saved.Mark f ∷ saves) = ForSome f (λ v. is_live cells v ≡ true) × AreSavedLive cells saves
AreSavedLive cells (saved.Binding id local hid levels ∷ saves) = IsVariable cells id × ForSome hid (λ v. is_live cells v ≡ true) × AreSavedLive cells saves

pub record IsStackLive (cells : List Cell) (stack : StackState) : Type 0 where
  pub frames : AreFramesLive cells stack.frames
  pub unframed : AreLive cells stack.unframed
  pub saved : AreSavedLive cells stack.saved
  pub registers : AreLive cells stack.registers

-- ---- levels

-- the levels of frames and bindings are among those that are entered, and none of them is a walk's
pub record StandsIn (w : World) (stack : StackState) : Type 0 where
  pub nest : w.levels.bound ≤ stack.nest
  pub levels : levels_of_frames stack.frames + levels_of_saved stack.saved + length w.levels.walk ≤ w.levels.level
