-- When two runs stand side by side: the right one walks all functions; the left one may run code, so it has made fewer objects, has no fewer cells and levels, and lacks local bindings that code keeps in slots (this project's).
use Rattle.std.specs.Prelude.{◌≡◌, ◌≤◌, ℕ, Bool, false, is_some, List, [], ◌∷◌, length, slice_get, Option, Some, None}
use Rattle.rl_tree.specs.Value.{Value, Store}
use Rattle.rl_meaning.specs.State.{State, Pointer, Function, Entry, Binding, Mark, Scope, Local, Expansion, Counts, Compilation}
use Rattle.rl_meaning.specs.Outcome.{Levels}
use Rattle.rl_meaning.specs.TwoRunsLinks.{Linked, OneToOne, Within}
use Rattle.rl_meaning.specs.TwoRunsValues.{Names, Maybe, Each, SameValue, SameObject, SameFunction, SamePointer, SameSymbol, SameCoded}

-- ---- objects and functions: those that are linked are the same

pub record SameStore (n : Names) (s t : Store) : Type 0 where
  pub once : OneToOne n.objects
  pub within : Within n.objects (length s) (length t)
  pub is : (r q : ℕ) → Linked n.objects r q → Maybe (SameObject n) (slice_get s r) (slice_get t q)

pub record SameFunctions (n : Names) (s t : List Function) : Type 0 where
  pub once : OneToOne n.functions
  pub within : Within n.functions (length s) (length t)
  pub is : (f g : ℕ) → Linked n.functions f g → Maybe (SameFunction n) (slice_get s f) (slice_get t g)

-- ---- bindings

-- how the entries of the right run lie beside those of the left, the newest first: a binding of both; a mark of both; a local binding that the left run lacks, with its variable and its value on the right; or a mark that it lacks, of a function that went on by a call in last place
pub data EntryPlace : Type 0 where
  Both : EntryPlace
  BothMark : EntryPlace
  Hidden : ℕ → Value → EntryPlace
  HiddenMark : Option Pointer → EntryPlace

pub data Aligned (n : Names) : List EntryPlace → List Entry → List Entry → Type 0 where
  bottom : Aligned n [] [] []
  both : (x : ℕ) (scope : Scope) (v w : Value) (ps : List EntryPlace) (xs ys : List Entry) → SameValue n v w → Aligned n ps xs ys → Aligned n (Both ∷ ps) (Binding x scope v ∷ xs) (Binding x scope w ∷ ys)
  both_mark : (f g : Option Pointer) (ps : List EntryPlace) (xs ys : List Entry) → Maybe (SamePointer n) f g → Aligned n ps xs ys → Aligned n (BothMark ∷ ps) (Mark f ∷ xs) (Mark g ∷ ys)
  hidden : (x : ℕ) (v : Value) (ps : List EntryPlace) (xs ys : List Entry) → Aligned n ps xs ys → Aligned n (Hidden x v ∷ ps) xs (Binding x Local v ∷ ys)
  hidden_mark : (g : Option Pointer) (ps : List EntryPlace) (xs ys : List Entry) → Aligned n ps xs ys → Aligned n (HiddenMark g ∷ ps) xs (Mark g ∷ ys)

-- all entries are of both
abbrev pub all_both : List Entry → List EntryPlace
all_both [] = []
all_both (Binding x scope v ∷ es) = Both ∷ all_both es
all_both (Mark f ∷ es) = BothMark ∷ all_both es

-- above the newest mark of either run no binding is lacking: so it is where a form is walked on both sides
abbrev pub Shown : List EntryPlace → Type 0
Shown [] = Unit {0}
Shown (Both ∷ ps) = Shown ps
Shown (BothMark ∷ ps) = Unit {0}
Shown (Hidden x v ∷ ps) = ⊥
Shown (HiddenMark g ∷ ps) = Unit {0}

-- ---- counts

pub data SameExpansion : Option Expansion → Option Expansion → Type 0 where
  same_none : SameExpansion None None
  same_open : (e : Expansion) → SameExpansion (Some e) (Some e)

-- whether the right run has a bound on levels, and on cells: so it has, or has not, as long as it goes on
pub record Bounds : Type 0 where
  pub levels : Bool
  pub cells : Bool

-- of a walk that starts with these levels and cells
abbrev pub bounds_of : Levels → Option ℕ → Bounds
bounds_of levels cells = record { levels = is_some levels; cells = is_some cells }

-- where both runs have a bound, the right one has no more left
abbrev pub IsRoomier : Option ℕ → Option ℕ → Type 0
IsRoomier (Some l) (Some m) = m ≤ l
IsRoomier l m = Unit {0}

pub record Roomier (bounds : Bounds) (l m : Levels) : Type 0 where
  pub is : IsRoomier l m
  pub bound : is_some m ≡ bounds.levels

pub record RoomierCells (bounds : Bounds) (c d : Option ℕ) : Type 0 where
  pub is : IsRoomier c d
  pub bound : is_some d ≡ bounds.cells

pub record SameCounts (bounds : Bounds) (c d : Counts) : Type 0 where
  pub given : c.given ≡ d.given
  pub turns : c.turns ≡ d.turns
  pub cells : RoomierCells bounds c.cells d.cells
  pub expansion : SameExpansion c.expansion d.expansion

-- ---- compilation: the right run has the same codes, and runs none

pub record SameCompilation (n : Names) (c d : Compilation) : Type 0 where
  pub walks : d.runs_code ≡ false
  pub coded : Each (SameCoded n) c.coded d.coded
  pub answers : c.answers ≡ d.answers
  pub levels : c.levels ≡ d.levels
  pub requests : c.requests ≡ d.requests
  pub compiles_all : c.compiles_all ≡ d.compiles_all

-- ---- states

pub record Like (bounds : Bounds) (n : Names) (ps : List EntryPlace) (s t : State) : Type 0 where
  pub store : SameStore n s.store t.store
  pub functions : SameFunctions n s.functions t.functions
  pub symbols : Each (SameSymbol n) s.symbols t.symbols
  pub bindings : Aligned n ps s.bindings t.bindings
  pub counts : SameCounts bounds s.counts t.counts
  pub outside : s.outside ≡ t.outside
  pub gensyms : s.gensyms ≡ t.gensyms
  pub compilation : SameCompilation n s.compilation t.compilation
