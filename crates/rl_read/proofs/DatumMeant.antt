-- A value in cells that is a datum means that datum, in the store that the cells mean.
use Rattle.std.proofs.Common.{◌≡◌, ℕ, suc, true, List, [], ◌∷◌, map, Option, refl, ap, sym, ◌∙◌}
use Rattle.std.specs.List.{AllByRecursion}
use Rattle.rl_tags.specs.Tagged.{Tagged, Number, IdAt, StrAt, PairAt, VectorAt, index_of}
use Rattle.rl_tags.specs.Ids.{nil_id}
use Rattle.rl_cells.specs.Cell.{Cell, cell_at, is_id_cell, car_in, cdr_in, vector_in}
use Rattle.rl_tree.specs.Name.{nil_name}
use Rattle.rl_syms.specs.Contents.{ids_before, number_at, value_of, store_of}
use Rattle.rl_syms.specs.Numbers.{IdentifiersAreNumbered, NamesAreNumbered, numbered_name}
use Rattle.rl_syms.specs.Laws.{IsRead}
use Rattle.rl_syms.specs.Table.{Among, IsTable, IsNamed, ids_from, name_in_cells, nil_value}
use Rattle.rl_text.specs.Datum.{Datum, elements}
use Rattle.rl_text.specs.Stored.{IsStored, AreStored, IsIdentifier}
use Rattle.rl_read.specs.Data.{IsDatumWithin, datum_within}

-- cells in which NIL has its name
record IsNamedTable (cells : List Cell) (head : Option Tagged) : Type 0 where
  table : IsTable cells head
  nil : IsNamed cells head nil_name nil_value

-- the value means this datum
abbrev Means : List Cell → Tagged → Datum → Type 0
Means cells v d = IsStored (store_of cells) (numbered_name cells) (ids_before cells (index_of nil_id)) (value_of cells v) d

-- an interned identifier is NIL where its name is NIL's
name_means : IdentifiersAreNumbered → NamesAreNumbered → (cells : List Cell) (head : Option Tagged) (k : ℕ) → IsNamedTable cells head → is_id_cell (cell_at cells k) ≡ true → Among k (ids_from cells head)
    → IsIdentifier (numbered_name cells) (ids_before cells (index_of nil_id)) (value_of cells (IdAt k)) (name_in_cells cells k)
name_means numbers names cells head k named is_id among = record {
  number = ids_before cells k;
  is = refl;
  named = names cells k is_id;
  nil_alone = (
    λ e. ap (name_in_cells cells) (numbers.distinct cells k (index_of nil_value) is_id named.table.nil e) ∙ named.nil.name_is,
    λ e. ap (ids_before cells) (named.table.chained.distinct k (index_of nil_value) among named.nil.interned.1 (e ∙ sym named.nil.name_is)),
  );
}

-- what holds of each value of a vector
elements_mean : (cells : List Cell) (n : ℕ) (head : Option Tagged) → ((v : Tagged) → IsDatumWithin n cells head v → Means cells v (datum_within n cells v)) → (xs : List Tagged) → AllByRecursion (IsDatumWithin n cells head) xs
    → AreStored (store_of cells) (numbered_name cells) (ids_before cells (index_of nil_id)) (map (value_of cells) xs) (elements (map (datum_within n cells) xs))
elements_mean cells n head each [] are = tt
elements_mean cells n head each (x ∷ xs) are = (each x are.0, elements_mean cells n head each xs are.1)

-- so many deep
datum_means : (read : IsRead) → IdentifiersAreNumbered → NamesAreNumbered → (cells : List Cell) (head : Option Tagged) → IsNamedTable cells head → (n : ℕ) (v : Tagged) → IsDatumWithin n cells head v → Means cells v (datum_within n cells v)
datum_means read numbers names cells head named n (Number z) is = refl
datum_means read numbers names cells head named n (IdAt k) is = name_means numbers names cells head k named is.0 is.1
datum_means read numbers names cells head named n (StrAt k) is = refl
datum_means read numbers names cells head named (suc n) (PairAt k) is =
    let means = read.pair cells (PairAt k) is.0 in (
      value_of cells (car_in (cell_at cells k)),
      value_of cells (cdr_in (cell_at cells k)),
      record { number = number_at cells k; is = means.value; stands = means.stands },
      datum_means read numbers names cells head named n (car_in (cell_at cells k)) is.1,
      datum_means read numbers names cells head named n (cdr_in (cell_at cells k)) is.2,
    )
datum_means read numbers names cells head named (suc n) (VectorAt k) is =
    let means = read.vector cells (VectorAt k) is.0 in (
      map (value_of cells) (vector_in (cell_at cells k)),
      record { number = number_at cells k; is = means.value; stands = means.stands },
      elements_mean cells n head (datum_means read numbers names cells head named n) (vector_in (cell_at cells k)) is.1,
    )
datum_means read numbers names cells head named _ _ is = absurd is

-- a value that is a datum means it
pub data_mean : (read : IsRead) → IdentifiersAreNumbered → NamesAreNumbered → (cells : List Cell) (head : Option Tagged) (n : ℕ) (v : Tagged) → IsTable cells head → IsNamed cells head nil_name nil_value → IsDatumWithin n cells head v → Means cells v (datum_within n cells v)
data_mean read numbers names cells head n v table nil is = datum_means read numbers names cells head (record { table = table; nil = nil }) n v is
