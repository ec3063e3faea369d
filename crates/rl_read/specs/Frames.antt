-- What has begun, as the walk of a world keeps it: three words for each level, above those that were there.
use Rattle.std.specs.Prelude.{◌≡◌, ℕ, ◌+◌, ◌-◌, ◌*◌, ◌/◌, ◌%◌, ◌^◌, ◌<◌, ◌≤◌, ◌==◌, Bool, true, false, if◌then◌else◌, List, [], ◌∷◌, length, Option, Some, None}
use Rattle.std.specs.List.{AllByRecursion}
use Rattle.rl_tags.specs.Tagged.{Tagged, PairAt}
use Rattle.rl_cells.specs.Cell.{Cell, CellStore, is_live, is_pair}
use Rattle.rl_syms.specs.Table.{IsTable, IsNamed}
use Rattle.rl_text.specs.Reader.{ReaderFrame, Listing, Vectoring, Quoting, Begun, Going, Dotted, Shut, ReaderStep, group_begins, open_list}
use Rattle.rl_text.specs.Maker.{Maker}
use Rattle.rl_world.specs.declared.stop.Stop.{Stop}
use Rattle.rl_text.specs.Reader as reader
use Rattle.rl_world.specs.Bounds.{BoundsAgree, IsMakingCounted}
use Rattle.rl_world.specs.Counts.{WorldCounts}
use Rattle.rl_world.specs.Walks.{IsSteady, kept_above}
use Rattle.rl_world.specs.declared.world.World.{World}
use Rattle.rl_read.specs.Stock as stock
use Rattle.rl_read.specs.declared.frames.Chain.{Chain}
use Rattle.rl_read.specs.declared.frames.Chain.TheVariants as chain
use Rattle.rl_read.specs.declared.frames.Phase.{Phase}
use Rattle.rl_read.specs.declared.frames.Phase.TheVariants as phase
use Rattle.rl_read.specs.declared.frames.Group.{Group}
use Rattle.rl_read.specs.declared.frames.Group.TheVariants as group
use Rattle.rl_read.specs.declared.frames.Opening.{Opening}
use Rattle.rl_read.specs.declared.frames.Opening.TheVariants as opening

-- ---- what they mean

abbrev pub chain_of : Chain → stock.PairChain
chain_of chain.Empty = None
chain_of (chain.Pairs first last) = Some (first, last)

abbrev pub phase_of : Phase → reader.Phase
phase_of phase.Begun = Begun
phase_of phase.Going = Going
phase_of phase.Dotted = Dotted
phase_of phase.Shut = Shut

abbrev pub frames_of : Group → List (ReaderFrame stock.PairChain) → List (ReaderFrame stock.PairChain)
frames_of group.Root fs = fs
frames_of group.Quote fs = Quoting ∷ fs
frames_of (group.Vector c) fs = Vectoring (chain_of c) ∷ fs
frames_of (group.List c owed p) fs = Listing (chain_of c) owed (phase_of p) ∷ fs
frames_of (group.QuoteBehind c owed) fs = Quoting ∷ Listing (chain_of c) owed Dotted ∷ fs
frames_of (group.VectorBehind v c owed) fs = Vectoring (chain_of v) ∷ Listing (chain_of c) owed Dotted ∷ fs

-- an element of it is quoted
abbrev pub is_quote_group : Group → Bool
is_quote_group group.Quote = true
is_quote_group (group.QuoteBehind c owed) = true
is_quote_group g = false

-- the elements of the vector that it is
abbrev pub vector_in_group : Group → Option Chain
vector_in_group (group.Vector c) = Some c
vector_in_group (group.VectorBehind c l owed) = Some c
vector_in_group g = None

-- what begins
abbrev pub opening_frame : Maker stock.Stock Tagged stock.PairChain Stop → Opening → List (ReaderFrame stock.PairChain) → stock.Stock → ReaderStep stock.Stock Tagged stock.PairChain Stop
opening_frame m opening.List fs k = open_list m fs k
opening_frame m opening.Vector fs k = group_begins m (Vectoring None) fs k
opening_frame m opening.Quote fs k = group_begins m Quoting fs k

abbrev pub frame_of : Opening → ReaderFrame stock.PairChain
frame_of opening.List = Listing None 0 Begun
frame_of opening.Vector = Vectoring None
frame_of opening.Quote = Quoting

-- what is around the newest frame of a group
abbrev pub behind_it : Group → List (ReaderFrame stock.PairChain) → List (ReaderFrame stock.PairChain)
behind_it (group.QuoteBehind c owed) fs = Listing (chain_of c) owed Dotted ∷ fs
behind_it (group.VectorBehind v c owed) fs = Listing (chain_of c) owed Dotted ∷ fs
behind_it g fs = fs

-- whether a spelling may stand there
abbrev pub group_admits : Group → Bool
group_admits (group.List c owed phase.Shut) = false
group_admits g = true

-- ---- in words

abbrev pub kind_of_phase : Phase → ℕ
kind_of_phase phase.Begun = 3
kind_of_phase phase.Going = 4
kind_of_phase phase.Dotted = 5
kind_of_phase phase.Shut = 6

-- the chain whose places a word has
abbrev pub chain_in : ℕ → Chain
chain_in w = if w == 0 then chain.Empty else chain.Pairs (PairAt ((w - 1) / 4294967296)) (PairAt ((w - 1) % 4294967296))

abbrev pub group_of_words : ℕ → ℕ → ℕ → ℕ → Group
group_of_words kind owed b c =
    if kind == 0 then group.Root
    else (if kind == 1 then group.Quote
    else (if kind == 2 then group.Vector (chain_in c)
    else (if kind == 3 then group.List (chain_in b) owed phase.Begun
    else (if kind == 4 then group.List (chain_in b) owed phase.Going
    else (if kind == 5 then group.List (chain_in b) owed phase.Dotted
    else (if kind == 6 then group.List (chain_in b) owed phase.Shut
    else (if kind == 7 then group.QuoteBehind (chain_in b) owed
    else group.VectorBehind (chain_in c) (chain_in b) owed)))))))

-- the group that three words keep
abbrev pub group_in : ℕ × ℕ × ℕ → Group
group_in t = group_of_words (t.0 % 16) (t.0 / 16) t.1 t.2

abbrev pub frames_kept : List (ℕ × ℕ × ℕ) → List (ReaderFrame stock.PairChain)
frames_kept [] = []
frames_kept (t ∷ ts) = frames_of (group_in t) (frames_kept ts)

-- all that has begun, the newest first
abbrev pub frames_in : ℕ → World → Group → List (ReaderFrame stock.PairChain)
frames_in base w g = frames_of g (frames_kept (kept_above base w.levels))

abbrev pub frames_around : ℕ → World → Group → List (ReaderFrame stock.PairChain)
frames_around base w g = behind_it g (frames_kept (kept_above base w.levels))

abbrev pub group_weight : Group → ℕ
group_weight group.Root = 0
group_weight (group.QuoteBehind c owed) = 2
group_weight (group.VectorBehind v c owed) = 2
group_weight g = 1

-- more than the groups around it
abbrev pub weight_of_group : World → Group → ℕ
weight_of_group w g = 3 * length w.levels.walk + group_weight g

-- ---- what may be kept

abbrev pub IsChain : List Cell → Chain → Type 0
IsChain cells chain.Empty = Unit {0}
IsChain cells (chain.Pairs first last) = (is_pair cells first ≡ true) × (is_pair cells last ≡ true)

-- as many `)` are owed as there are pairs at most, and one less where an element stands before the dot
abbrev pub owes : Phase → ℕ
owes phase.Begun = 0
owes phase.Going = 1
owes phase.Dotted = 1
owes phase.Shut = 0

abbrev pub IsGroup : List Cell → Group → Type 0
IsGroup cells group.Root = Unit {0}
IsGroup cells group.Quote = Unit {0}
IsGroup cells (group.Vector c) = IsChain cells c
IsGroup cells (group.List c owed p) = IsChain cells c × (owed + owes p ≤ length cells)
IsGroup cells (group.QuoteBehind c owed) = IsChain cells c × (owed + 1 ≤ length cells)
IsGroup cells (group.VectorBehind v c owed) = IsChain cells v × IsChain cells c × (owed + 1 ≤ length cells)

-- what is in it takes a level
abbrev pub is_inner_group : Group → Bool
is_inner_group group.Root = false
is_inner_group group.Quote = true
is_inner_group (group.Vector c) = true
is_inner_group (group.List c owed phase.Dotted) = false
is_inner_group (group.List c owed p) = true
is_inner_group (group.QuoteBehind c owed) = true
is_inner_group (group.VectorBehind v c owed) = true

pub record IsKeptByReading (cells : List Cell) (t : ℕ × ℕ × ℕ) : Type 0 where
  pub group_is : IsGroup cells (group_in t)
  pub inner : is_inner_group (group_in t) ≡ true
  pub owed : t.0 / 16 < 2 ^ 32

-- names are a table, the bounds of counts and of cells agree, and what is made counts: so where there is room the cells have it
pub record AreReadyToMake (cells : CellStore) (head : Option Tagged) (counts : WorldCounts) : Type 0 where
  pub table : IsTable cells.cells head
  pub bounds : BoundsAgree counts cells
  pub counted : IsMakingCounted counts.aside counts.outermost cells.mark

abbrev pub CanMake : World → Type 0
CanMake w = AreReadyToMake w.cells w.syms.head w.counts

-- objects may be made, what was kept is sound, and only a group with nothing around it has nothing kept
pub record IsReadyToRead (base : ℕ) (w : World) (g : Group) : Type 0 where
  pub able : CanMake w
  pub above : base ≤ length w.levels.walk
  pub kept : AllByRecursion (IsKeptByReading w.cells.cells) (kept_above base w.levels)
  pub group_is : IsGroup w.cells.cells g
  pub root : g ≡ group.Root → length w.levels.walk ≡ base

-- ---- what stays

-- cells, names and counts alone have changed, and what was live is
pub record IsMaking (old new : World) : Type 0 where
  pub world : new ≡ record old { cells = new.cells; syms = record old.syms { head = new.syms.head }; counts = new.counts }
  pub live : (v : Tagged) → is_live old.cells.cells v ≡ true → is_live new.cells.cells v ≡ true
  pub longer : length old.cells.cells ≤ length new.cells.cells
  pub names : (bytes : List ℕ) (id : Tagged) → IsNamed old.cells.cells old.syms.head bytes id → IsNamed new.cells.cells new.syms.head bytes id

-- and levels
pub record IsReading (base : ℕ) (old new : World) : Type 0 where
  pub making : IsMaking (record old { levels = new.levels }) new
  pub steady : IsSteady base old.levels new.levels
