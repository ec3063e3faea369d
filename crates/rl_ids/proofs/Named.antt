-- Identifiers among values.
use Rattle.std.proofs.Common.{◌≡◌, ◌≢◌, ℕ, zero, suc, true, false, List, [], ◌∷◌, refl, sym, ap, subst, ◌∙◌}
use Rattle.std.specs.Prelude.{slice_index_or, slice_set}
use Rattle.rl_tags.specs.Tagged.{Tagged, Number, IdAt, StrAt, PairAt, VectorAt, BigAt, FunAt, tag_of}
use Rattle.rl_tags.specs.declared.Tag.TheVariants as tag
use Rattle.rl_tags.specs.Ids.{nil_id}
use Rattle.rl_tree.specs.Value.{Value, Id}
use Rattle.rl_cells.specs.Cell.{Cell, is_live}
use Rattle.rl_syms.specs.Contents.{value_of}
use Rattle.rl_syms.specs.Table.{is_id}
use Rattle.rl_world.specs.declared.world.World.{World}
use Rattle.rl_meaning.specs.Errors.{fail, wrong_type}
use Rattle.rl_meaning.specs.Outcome.{Outcome, Done}
use Rattle.rl_meaning.specs.Properties.{for_identifier, of_identifier, with_properties}
use Rattle.rl_meaning.specs.State.{State, Symbol}
use Rattle.rl_meaning.specs.Symbols.{new_symbol, nil_value_of_state, symbol_at, with_symbol}
use Rattle.rl_state.specs.Beside.{StaysBeside}
use Rattle.rl_state.specs.ShownState.{number_in}
use Rattle.rl_state.specs.Worlds.{IsWorld, WorldGrows}

pub id_by_tag : (cells : List Cell) (v : Tagged) → tag_of v ≡ tag.Id → is_live cells v ≡ true → is_id cells v ≡ true
id_by_tag cells (IdAt k) e h = h
id_by_tag cells (Number n) e h = absurd (cc)
id_by_tag cells (StrAt k) e h = absurd (cc)
id_by_tag cells (PairAt k) e h = absurd (cc)
id_by_tag cells (VectorAt k) e h = absurd (cc)
id_by_tag cells (BigAt k) e h = absurd (cc)
id_by_tag cells (FunAt k) e h = absurd (cc)

pub id_lives : (cells : List Cell) (v : Tagged) → is_id cells v ≡ true → is_live cells v ≡ true
id_lives cells (IdAt k) h = h
id_lives cells (Number n) h = absurd (cc)
id_lives cells (StrAt k) h = absurd (cc)
id_lives cells (PairAt k) h = absurd (cc)
id_lives cells (VectorAt k) h = absurd (cc)
id_lives cells (BigAt k) h = absurd (cc)
id_lives cells (FunAt k) h = absurd (cc)

id_tagged : (cells : List Cell) (v : Tagged) → is_id cells v ≡ true → tag_of v ≡ tag.Id
id_tagged cells (IdAt k) h = refl
id_tagged cells (Number n) h = absurd (cc)
id_tagged cells (StrAt k) h = absurd (cc)
id_tagged cells (PairAt k) h = absurd (cc)
id_tagged cells (VectorAt k) h = absurd (cc)
id_tagged cells (BigAt k) h = absurd (cc)
id_tagged cells (FunAt k) h = absurd (cc)

-- an identifier means its number
pub id_means : (cells : List Cell) (v : Tagged) → is_id cells v ≡ true → value_of cells v ≡ Id (number_in cells v)
id_means cells (IdAt k) h = refl
id_means cells (Number n) h = absurd (cc)
id_means cells (StrAt k) h = absurd (cc)
id_means cells (PairAt k) h = absurd (cc)
id_means cells (VectorAt k) h = absurd (cc)
id_means cells (BigAt k) h = absurd (cc)
id_means cells (FunAt k) h = absurd (cc)

-- it stays one, with its number
pub id_kept : (w x : World) (v : Tagged) → WorldGrows w x → is_id w.cells.cells v ≡ true → is_id x.cells.cells v ≡ true
id_kept w x v g h = id_by_tag x.cells.cells v (id_tagged w.cells.cells v h) (g.live v (id_lives w.cells.cells v h))

pub number_kept : (w x : World) (v : Tagged) → WorldGrows w x → is_id w.cells.cells v ≡ true → number_in x.cells.cells v ≡ number_in w.cells.cells v
number_kept w x v g h =
    let same : Id (number_in x.cells.cells v) ≡ Id (number_in w.cells.cells v) =
    sym (id_means x.cells.cells v (id_kept w x v g h)) ∙ g.values v (id_lives w.cells.cells v h) ∙ id_means w.cells.cells v h in
    cc

pub nil_means : (w : World) → IsWorld w → value_of w.cells.cells nil_id ≡ nil_value_of_state
nil_means w i = ap Id i.table.first

-- ---- what is no identifier

pub no_identifier : {A : Type 0} (cells : List Cell) (v : Tagged) (a : A) (s : State) (next : ℕ → State → Outcome A) → tag_of v ≢ tag.Id → of_identifier (value_of cells v) a s next ≡ Done a s
no_identifier cells (IdAt k) a s next ne = absurd (ne refl)
no_identifier cells (Number n) a s next ne = refl
no_identifier cells (StrAt k) a s next ne = refl
no_identifier cells (PairAt k) a s next ne = refl
no_identifier cells (VectorAt k) a s next ne = refl
no_identifier cells (BigAt k) a s next ne = refl
no_identifier cells (FunAt k) a s next ne = refl

pub wants_identifier : {A : Type 0} (cells : List Cell) (v : Tagged) (s : State) (next : ℕ → State → Outcome A) → tag_of v ≢ tag.Id → for_identifier (value_of cells v) s next ≡ fail wrong_type (value_of cells v) s
wants_identifier cells (IdAt k) s next ne = absurd (ne refl)
wants_identifier cells (Number n) s next ne = refl
wants_identifier cells (StrAt k) s next ne = refl
wants_identifier cells (PairAt k) s next ne = refl
wants_identifier cells (VectorAt k) s next ne = refl
wants_identifier cells (BigAt k) s next ne = refl
wants_identifier cells (FunAt k) s next ne = refl

-- ---- a symbol with the value that it had stays beside a world

top_kept : (ys : List Symbol) (i j : ℕ) (y d : Symbol) → y.top ≡ (slice_index_or ys i d).top → (slice_index_or (slice_set ys i y) j d).top ≡ (slice_index_or ys j d).top
top_kept [] i j y d e = refl
top_kept (x ∷ ys) zero zero y d e = e
top_kept (x ∷ ys) zero (suc j) y d e = refl
top_kept (x ∷ ys) (suc i) zero y d e = refl
top_kept (x ∷ ys) (suc i) (suc j) y d e = top_kept ys i j y d e

pub symbol_stays : (s : State) (i : ℕ) (y : Symbol) → y.top ≡ (symbol_at s i).top → StaysBeside s (with_symbol i y s)
symbol_stays s i y e = record {
  functions = record { functions = refl; compilation = refl };
  bindings = record { entries = refl; hidden = λ j b h. top_kept s.symbols i j y (new_symbol [] false) e };
  outside = refl;
}

pub listed_stays : (s : State) (i : ℕ) (v : Value) → StaysBeside s (with_properties i v s)
listed_stays s i v = symbol_stays s i (record (symbol_at s i) { properties = v }) refl
