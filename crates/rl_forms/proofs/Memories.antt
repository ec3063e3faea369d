-- What values of the world are, and what a new pair keeps.
use Rattle.std.proofs.Common.{◌≡◌, ℕ, zero, suc, ◌<◌, true, List, [], ◌++◌, length, Option, Some, None, refl, ap, arith}
use Rattle.rl_tags.specs.Tagged.{Tagged, Number, IdAt, StrAt, PairAt, VectorAt, BigAt, FunAt, tag_of}
use Rattle.rl_tags.specs.declared.Tag.TheVariants as Tag
use Rattle.rl_tags.specs.declared.names.TheConstants.{OPENING_NAMES}
use Rattle.rl_tags.specs.Opening.{opening_rows, place_of, name_at as opening_name}
use Rattle.rl_cells.specs.Cell.{Cell, PairCell, placed, grown, is_live, is_pair, car_of, cdr_of}
use Rattle.rl_syms.specs.Table.{IsTable, IsNamed}
use Rattle.rl_syms.specs.Laws.{IsKept, LeaveIdentifiers}
use Rattle.rl_tree.specs.Name.{Name}
use Rattle.rl_text.specs.Datum.{Pair}
use Rattle.rl_read.specs.Data.{IsDatumWithin, datum_within}
use Rattle.rl_read.specs.Laws.{PairsAreData}
use Rattle.rl_world.specs.Output.{Output}
use Rattle.rl_world.specs.declared.world.World.{World}
use Rattle.rl_forms.specs.KnownData.{IsKnown, IsNameOf, IsRunning, IsBeginning, KeepsKnown, StandsForDatum, datum_in}
use Rattle.rl_forms.specs.SeenForms.{is_name_datum, is_plain}

-- ---- what a value is, by its tag

pub id_seen : (w : World) (v : Tagged) → Tag.Id ≡ tag_of v → is_name_datum (datum_in w v) ≡ true
unfolding datum_in
id_seen w (IdAt k) t = refl
id_seen w (Number z) t = cc
id_seen w (StrAt k) t = cc
id_seen w (PairAt k) t = cc
id_seen w (VectorAt k) t = cc
id_seen w (BigAt k) t = cc
id_seen w (FunAt k) t = cc

plain_within : (n : ℕ) (cells : List Cell) (head : Option Tagged) (v : Tagged) → (tag_of v ≡ Tag.Id → ⊥) → (tag_of v ≡ Tag.Pair → ⊥) → IsDatumWithin n cells head v → is_plain (datum_within n cells v) ≡ true
plain_within n cells head (Number z) i p d = refl
plain_within n cells head (IdAt k) i p d = absurd (i refl)
plain_within n cells head (StrAt k) i p d = refl
plain_within n cells head (PairAt k) i p d = absurd (p refl)
plain_within zero cells head (VectorAt k) i p d = absurd d
plain_within (suc n) cells head (VectorAt k) i p d = refl
plain_within n cells head (BigAt k) i p d = absurd d
plain_within n cells head (FunAt k) i p d = absurd d

pub plain_seen : (w : World) (v : Tagged) → IsKnown w v → (tag_of v ≡ Tag.Id → ⊥) → (tag_of v ≡ Tag.Pair → ⊥) → is_plain (datum_in w v) ≡ true
unfolding datum_in
plain_seen w v known i p = plain_within (length w.cells.cells) w.cells.cells w.syms.head v i p known.is

pub known_live : PairsAreData → (w : World) (v : Tagged) → IsKnown w v → is_live w.cells.cells v ≡ true
known_live law w v known = law.live w.cells.cells w.syms.head v known.is

pair_of_tag : (cells : List Cell) (v : Tagged) → Tag.Pair ≡ tag_of v → is_live cells v ≡ true → is_pair cells v ≡ true
pair_of_tag cells (PairAt k) t l = l
pair_of_tag cells (Number z) t l = cc
pair_of_tag cells (IdAt k) t l = cc
pair_of_tag cells (StrAt k) t l = cc
pair_of_tag cells (VectorAt k) t l = cc
pair_of_tag cells (BigAt k) t l = cc
pair_of_tag cells (FunAt k) t l = cc

pub known_pair : PairsAreData → (w : World) (v : Tagged) → IsKnown w v → Tag.Pair ≡ tag_of v → is_pair w.cells.cells v ≡ true
known_pair law w v known t = pair_of_tag w.cells.cells v t (known_live law w v known)

pub pair_seen : PairsAreData → (w : World) (v a d : Tagged) → IsKnown w v → Tag.Pair ≡ tag_of v → a ≡ car_of w.cells.cells v → d ≡ cdr_of w.cells.cells v → (datum_in w v ≡ Pair (datum_in w a) (datum_in w d)) × IsKnown w a × IsKnown w d
unfolding datum_in
pair_seen law w v a d known t ea ed =
    let is = known_pair law w v known t in
    rw (ea, ed) (law.parts w.cells.cells w.syms.head v is known.is, record { is = law.car w.cells.cells w.syms.head v is known.is }, record { is = law.cdr w.cells.cells w.syms.head v is known.is })

-- ---- a pair more

abbrev pub grown_world : World → Tagged → Tagged → World
grown_world w a d = record w { cells = grown w.cells (PairCell a d) }

name_kept : IsKept → LeaveIdentifiers → (w : World) (a d : Tagged) (name : Name) (id : Tagged) → IsTable w.cells.cells w.syms.head → IsNameOf w name id → IsNameOf (grown_world w a d) name id
name_kept kept leave w a d name id table h = kept.names w.cells.cells (w.cells.cells ++ placed (PairCell a d)) w.syms.head name id (leave.made w.cells.cells (PairCell a d) refl) table h

pub grown_running : IsKept → LeaveIdentifiers → (w : World) (a d : Tagged) → IsRunning w → IsRunning (grown_world w a d)
grown_running kept leave w a d is = record {
  table = kept.table w.cells.cells (w.cells.cells ++ placed (PairCell a d)) w.syms.head (leave.made w.cells.cells (PairCell a d) refl) is.table;
  nil = name_kept kept leave w a d _ _ is.table is.nil;
  t = name_kept kept leave w a d _ _ is.table is.t;
  quote = name_kept kept leave w a d _ _ is.table is.quote;
  cons = name_kept kept leave w a d _ _ is.table is.cons;
  prin1 = name_kept kept leave w a d _ _ is.table is.prin1;
  prin2 = name_kept kept leave w a d _ _ is.table is.prin2;
  print = name_kept kept leave w a d _ _ is.table is.print;
  terpri = name_kept kept leave w a d _ _ is.table is.terpri;
  line = is.line;
}

pub grown_keeps : PairsAreData → (w : World) (a d : Tagged) → IsRunning w → KeepsKnown w (grown_world w a d)
unfolding datum_in
grown_keeps law w a d is = record {
  known = λ v h. record { is = law.kept w.cells.cells w.syms.head a d v is.table h.is };
  datum = λ v h. law.same w.cells.cells w.syms.head a d v is.table h.is;
}

pub grown_stands : PairsAreData → (w : World) (a d : Tagged) → IsRunning w → IsKnown w a → IsKnown w d → StandsForDatum (grown_world w a d) (PairAt (length w.cells.cells)) (Pair (datum_in w a) (datum_in w d))
unfolding datum_in
grown_stands law w a d is ka kd = record {
  known = record { is = law.made w.cells.cells w.syms.head a d is.table ka.is kd.is };
  datum = law.means w.cells.cells w.syms.head a d is.table ka.is kd.is;
}

-- ---- opening

-- the world once opening has ended
abbrev pub settled : World → World
settled w = record w { cells = record w.cells { count = Some 0 }; counts = record w.counts { opening = None } }

pub opened_beginning : (w : World) → IsTable w.cells.cells w.syms.head → ((i : ℕ) → i < OPENING_NAMES → IsNamed w.cells.cells w.syms.head (opening_name i) (IdAt (place_of i)))
    → w.output ≡ record { waiting = []; column = 0; line_length = 80 } → IsBeginning (settled w)
unfolding opening_rows
opened_beginning w table names output = record {
  running = record {
    table = table;
    nil = names 0 (omega arith);
    t = names 1 (omega arith);
    quote = names 2 (omega arith);
    cons = names 74 (omega arith);
    prin1 = names 125 (omega arith);
    prin2 = names 126 (omega arith);
    print = names 127 (omega arith);
    terpri = names 128 (omega arith);
    line = ap (λ (o : Output). o.line_length) output;
  };
  waiting = ap (λ (o : Output). o.waiting) output;
  column = ap (λ (o : Output). o.column) output;
}
