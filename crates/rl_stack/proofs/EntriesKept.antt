-- What stands on a stack as the world grows, and as values below what is bound change.
use Rattle.std.proofs.Common.{◌≡◌, ◌≢◌, ℕ, Bool, true, false, ◌==◌, List, [], ◌∷◌, Option, Some, None, refl, sym, ap, subst, ◌∙◌}
use Rattle.std.specs.Option.{ForSome}
use Rattle.std.proofs.lemmas.Bool.{eqb-true, eq-eqb}
use Rattle.rl_tags.specs.Tagged.{Tagged, Number, IdAt, StrAt, PairAt, VectorAt, BigAt, FunAt, index_of}
use Rattle.rl_tree.specs.Value.{Value, Id}
use Rattle.rl_cells.specs.Cell.{Cell, cell_at, is_id_cell, is_live}
use Rattle.rl_syms.specs.Table.{is_id}
use Rattle.rl_syms.specs.Contents.{value_of}
use Rattle.rl_world.specs.declared.world.World.{World}
use Rattle.rl_meaning.specs.State.{State, Entry, Binding, Mark, Scope}
use Rattle.rl_meaning.specs.Variables.{Nearest, nearest_from}
use Rattle.rl_state.specs.ShownState.{ShowsState, number_in, option_value_in, pointer_named, seen_of}
use Rattle.rl_state.specs.Beside.{KeepsBindings}
use Rattle.rl_state.specs.Worlds.{WorldGrows}
use Rattle.rl_stack.specs.ShowsStack.{AreFramesLive, AreLive, AreSavedLive, IsStackLive, ShowsEntries, ShowsStack, mark_shown, tops_of, value_below}
use Rattle.rl_stack.specs.StackState.{StackFrame, StackState}
use Rattle.rl_stack.specs.declared.saved.Saved as stacked
use Rattle.rl_stack.specs.declared.saved.Saved.TheVariants as saved

pub eqb-refl : (x : ℕ) → (x == x) ≡ true
eqb-refl x = eq-eqb x x refl

pub neq-eqb : (x y : ℕ) → x ≢ y → (x == y) ≡ false
neq-eqb x y ne = go (x == y) refl
  where
    go : (b : Bool) → (x == y) ≡ b → (x == y) ≡ false
    go true e = absurd (ne (eqb-true x y e))
    go false e = e

-- ---- identifiers as the world grows

pub id_cell : (cells : List Cell) (id : Tagged) → is_id cells id ≡ true → is_id_cell (cell_at cells (index_of id)) ≡ true
id_cell cells (IdAt k) h = h
id_cell cells (Number k) h = absurd (cc)
id_cell cells (StrAt k) h = absurd (cc)
id_cell cells (PairAt k) h = absurd (cc)
id_cell cells (VectorAt k) h = absurd (cc)
id_cell cells (BigAt k) h = absurd (cc)
id_cell cells (FunAt k) h = absurd (cc)

id_value : (cells : List Cell) (id : Tagged) → is_id cells id ≡ true → value_of cells id ≡ Id (number_in cells id)
id_value cells (IdAt k) h = refl
id_value cells (Number k) h = absurd (cc)
id_value cells (StrAt k) h = absurd (cc)
id_value cells (PairAt k) h = absurd (cc)
id_value cells (VectorAt k) h = absurd (cc)
id_value cells (BigAt k) h = absurd (cc)
id_value cells (FunAt k) h = absurd (cc)

id_live : (cells : List Cell) (id : Tagged) → is_id cells id ≡ true → is_live cells id ≡ true
id_live cells (IdAt k) h = h
id_live cells (Number k) h = absurd (cc)
id_live cells (StrAt k) h = absurd (cc)
id_live cells (PairAt k) h = absurd (cc)
id_live cells (VectorAt k) h = absurd (cc)
id_live cells (BigAt k) h = absurd (cc)
id_live cells (FunAt k) h = absurd (cc)

pub id_kept : (w x : World) → WorldGrows w x → (id : Tagged) → is_id w.cells.cells id ≡ true → is_id x.cells.cells id ≡ true
id_kept w x g (IdAt k) h = g.live (IdAt k) h
id_kept w x g (Number k) h = absurd (cc)
id_kept w x g (StrAt k) h = absurd (cc)
id_kept w x g (PairAt k) h = absurd (cc)
id_kept w x g (VectorAt k) h = absurd (cc)
id_kept w x g (BigAt k) h = absurd (cc)
id_kept w x g (FunAt k) h = absurd (cc)

pub number_kept : (w x : World) → WorldGrows w x → (id : Tagged) → is_id w.cells.cells id ≡ true → number_in x.cells.cells id ≡ number_in w.cells.cells id
number_kept w x g id h =
    let e : Id (number_in x.cells.cells id) ≡ Id (number_in w.cells.cells id) = sym (id_value x.cells.cells id (id_kept w x g id h)) ∙ g.values id (id_live w.cells.cells id h) ∙ id_value w.cells.cells id h in
    cc

pub option_kept : (w x : World) → WorldGrows w x → (o : Option Tagged) → ForSome o (λ v. is_live w.cells.cells v ≡ true) → option_value_in x.cells.cells o ≡ option_value_in w.cells.cells o
option_kept w x g None h = refl
option_kept w x g (Some v) h = ap Some (g.values v (h v refl))

option_live : (w x : World) → WorldGrows w x → (o : Option Tagged) → ForSome o (λ v. is_live w.cells.cells v ≡ true) → ForSome o (λ v. is_live x.cells.cells v ≡ true)
option_live w x g o h = λ v e. g.live v (h v e)

mark_kept : (w x : World) → WorldGrows w x → (f : Option Tagged) → ForSome f (λ v. is_live w.cells.cells v ≡ true) → mark_shown x.cells.cells f ≡ mark_shown w.cells.cells f
mark_kept w x g None h = refl
mark_kept w x g (Some v) h = ap (λ u. Some (pointer_named u)) (g.values v (h v refl))

-- ---- the stack as the world grows

pub saved_kept : (w x : World) → WorldGrows w x → (saves : List stacked.Saved) → AreSavedLive w.cells.cells saves → AreSavedLive x.cells.cells saves
saved_kept w x g [] h = tt
saved_kept w x g (saved.Mark f ∷ saves) h = (option_live w x g f h.0, saved_kept w x g saves h.1)
saved_kept w x g (saved.Binding id local hid levels ∷ saves) h = (record { is_id = id_kept w x g id h.0.is_id; bindable = h.0.bindable }, option_live w x g hid h.1, saved_kept w x g saves h.2)

values_kept : (w x : World) → WorldGrows w x → (vs : List Tagged) → AreLive w.cells.cells vs → AreLive x.cells.cells vs
values_kept w x g [] h = tt
values_kept w x g (v ∷ vs) h = (g.live v h.0, values_kept w x g vs h.1)

frames_kept : (w x : World) → WorldGrows w x → (fs : List StackFrame) → AreFramesLive w.cells.cells fs → AreFramesLive x.cells.cells fs
frames_kept w x g [] h = tt
frames_kept w x g (f ∷ fs) h = (values_kept w x g f.slots h.0, values_kept w x g f.waiting h.1, frames_kept w x g fs h.2)

pub stack_kept : (w x : World) (stack : StackState) → WorldGrows w x → IsStackLive w.cells.cells stack → IsStackLive x.cells.cells stack
stack_kept w x stack g h = record {
  frames = frames_kept w x g stack.frames h.frames;
  unframed = values_kept w x g stack.unframed h.unframed;
  saved = saved_kept w x g stack.saved h.saved;
  registers = values_kept w x g stack.registers h.registers;
}

pub entries_kept : (w x : World) → WorldGrows w x → (tops : ℕ → Option Value) (saves : List stacked.Saved) (entries : List Entry) → AreSavedLive w.cells.cells saves → ShowsEntries w.cells.cells tops saves entries → ShowsEntries x.cells.cells tops saves entries
entries_kept w x g tops [] [] l h = tt
entries_kept w x g tops (saved.Mark f ∷ saves) (Mark m ∷ entries) l h = (mark_kept w x g f l.0 ∙ h.0, entries_kept w x g tops saves entries l.1 h.1)
entries_kept w x g tops (saved.Binding id local hid levels ∷ saves) (Binding y scope v ∷ entries) l h =
    (record { variable = number_kept w x g id l.0.is_id ∙ h.0.variable; made = h.0.made; hidden = option_kept w x g hid l.1 ∙ h.0.hidden }, entries_kept w x g tops saves entries l.2 h.1)
entries_kept w x g tops [] (Mark m ∷ entries) l h = absurd h
entries_kept w x g tops [] (Binding y scope v ∷ entries) l h = absurd h
entries_kept w x g tops (saved.Mark f ∷ saves) [] l h = absurd h
entries_kept w x g tops (saved.Mark f ∷ saves) (Binding y scope v ∷ entries) l h = absurd h
entries_kept w x g tops (saved.Binding id local hid levels ∷ saves) [] l h = absurd h
entries_kept w x g tops (saved.Binding id local hid levels ∷ saves) (Mark m ∷ entries) l h = absurd h

-- ---- values below what is bound may change

top_behind : (tops new : ℕ → Option Value) (below : Bool) (y : ℕ) (scope : Scope) (v : Value) (entries : List Entry)
    → ((i : ℕ) (b : Nearest) → nearest_from below i (Binding y scope v ∷ entries) ≡ Some b → new i ≡ tops i) → (i : ℕ) (b : Nearest) → nearest_from below i entries ≡ Some b → new i ≡ tops i
top_behind tops new below y scope v entries h i b e = go (i == y) refl
  where
    go : (z : Bool) → (i == y) ≡ z → new i ≡ tops i
    go true is = h i (record { scope = scope; value = v; below = below }) (rw is refl)
    go false is = h i b (rw is e)

pub tops_kept : (cells : List Cell) (tops new : ℕ → Option Value) (below : Bool) (saves : List stacked.Saved) (entries : List Entry)
    → ((i : ℕ) (b : Nearest) → nearest_from below i entries ≡ Some b → new i ≡ tops i) → ShowsEntries cells tops saves entries → ShowsEntries cells new saves entries
tops_kept cells tops new below [] [] t h = tt
tops_kept cells tops new below (saved.Mark f ∷ saves) (Mark m ∷ entries) t h = (h.0, tops_kept cells tops new true saves entries t h.1)
tops_kept cells tops new below (saved.Binding id local hid levels ∷ saves) (Binding y scope v ∷ entries) t h =
    let e : new y ≡ tops y = t y (record { scope = scope; value = v; below = below }) (rw (eqb-refl y) refl) in (
      record { variable = h.0.variable; made = h.0.made; hidden = h.0.hidden ∙ ap (λ o. value_below y o entries) (sym e) },
      tops_kept cells tops new below saves entries (top_behind tops new below y scope v entries t) h.1,
    )
tops_kept cells tops new below [] (Mark m ∷ entries) t h = absurd h
tops_kept cells tops new below [] (Binding y scope v ∷ entries) t h = absurd h
tops_kept cells tops new below (saved.Mark f ∷ saves) [] t h = absurd h
tops_kept cells tops new below (saved.Mark f ∷ saves) (Binding y scope v ∷ entries) t h = absurd h
tops_kept cells tops new below (saved.Binding id local hid levels ∷ saves) [] t h = absurd h
tops_kept cells tops new below (saved.Binding id local hid levels ∷ saves) (Mark m ∷ entries) t h = absurd h

-- a call that leaves all beside the world leaves the stack
pub all_stays : (w x : World) (stack : StackState) (s t : State) → WorldGrows w x → IsStackLive w.cells.cells stack → ShowsStack w stack s → ShowsState x t → KeepsBindings s t → ShowsStack x stack t
all_stays w x stack s t g l h shown stays = record {
  world = shown;
  entries = subst (λ es. ShowsEntries x.cells.cells (tops_of t) stack.saved es) (sym stays.entries) (tops_kept x.cells.cells (tops_of s) (tops_of t) false stack.saved s.bindings stays.hidden (entries_kept w x g (tops_of s) stack.saved s.bindings l.saved h.entries));
}

-- ---- what is seen

pub seen_below : (below : Bool) (i : ℕ) (top : Option Value) (entries : List Entry) → seen_of (nearest_from below i entries) top ≡ value_below i top entries
seen_below below i top [] = refl
seen_below below i top (Mark f ∷ entries) = seen_below true i top entries
seen_below below i top (Binding y scope v ∷ entries) = go (i == y) refl (seen_below below i top entries)
  where
    go : (b : Bool) → (i == y) ≡ b → seen_of (nearest_from below i entries) top ≡ value_below i top entries → seen_of (nearest_from below i (Binding y scope v ∷ entries)) top ≡ value_below i top (Binding y scope v ∷ entries)
    go true e r = rw e refl
    go false e r = rw e r
