-- Which forms are built, by their parts.
use Rattle.std.proofs.Common.{◌≡◌, ℕ, zero, suc, true, false, List, Option, refl, sym, ap, ◌∙◌, arith, inl, inr, ◌+◌, ◌*◌, ◌==◌, eqb-true, eq-eqb}
use Rattle.std.specs.Str.{bytes_eq}
use Rattle.std.proofs.lemmas.Slice.Eq.{slice_eq-Decides}
use Rattle.std.proofs.lemmas.Bool.{cases_Bool}
use Rattle.std.proofs.lemmas.Bool.Decides.{Decides-eqb}
use Rattle.rl_tags.specs.Tagged.{Tagged, Number, IdAt, StrAt, PairAt, VectorAt, BigAt, FunAt, index_of, word_of}
use Rattle.rl_cells.specs.Cell.{Cell}
use Rattle.rl_syms.specs.Table.{IsTable, Among, name_in_cells, ids_from}
use Rattle.rl_tree.specs.Name.{Name, nil_name, t_name, quote_name, cons_name, print_name}
use Rattle.rl_text.specs.Datum.{Datum, Int, Id, Str, Pair, Vector, nil}
use Rattle.rl_read.specs.Data.{IsDatumWithin, datum_within}
use Rattle.rl_world.specs.declared.world.World.{World}
use Rattle.rl_forms.specs.BuiltForms.{is_built, prin1_name, prin2_name, terpri_name}
use Rattle.rl_forms.specs.KnownData.{IsKnown, IsNameOf, datum_in}
use Rattle.rl_forms.specs.SeenForms.{is_name_datum, is_plain, IsConstant}

-- ---- names

-- bytes that are the same
same_bytes : (xs ys : List ℕ) → bytes_eq xs ys ≡ true → xs ≡ ys
same_bytes xs ys h = (slice_eq-Decides Decides-eqb xs ys (bytes_eq xs ys) refl).0 h

other_bytes : (f name : Name) → (Id f ≡ Id name → ⊥) → bytes_eq f name ≡ false
other_bytes f name other = elim (cases_Bool (bytes_eq f name)) [
  | inl same ↦ absurd (other (ap Id (same_bytes f name same)))
  | inr e ↦ e
]

-- the identifier that a known value is
pub record IsIdentifier (cells : List Cell) (head : Option Tagged) (v : Tagged) (name : Name) : Type 0 where
  pub place : ℕ
  pub is : v ≡ IdAt place
  pub among : Among place (ids_from cells head)
  pub named : name_in_cells cells place ≡ name

identifier_within : (n : ℕ) (cells : List Cell) (head : Option Tagged) (v : Tagged) (name : Name) → IsDatumWithin n cells head v → datum_within n cells v ≡ Id name → IsIdentifier cells head v name
identifier_within n cells head (IdAt k) name d e = record { place = k; is = refl; among = d.1; named = cc }
identifier_within n cells head (Number z) name d e = absurd (cc)
identifier_within n cells head (StrAt k) name d e = absurd (cc)
identifier_within zero cells head (PairAt k) name d e = absurd d
identifier_within (suc n) cells head (PairAt k) name d e = absurd (cc)
identifier_within zero cells head (VectorAt k) name d e = absurd d
identifier_within (suc n) cells head (VectorAt k) name d e = absurd (cc)
identifier_within n cells head (BigAt k) name d e = absurd d
identifier_within n cells head (FunAt k) name d e = absurd d

-- ---- constants of the program, by their words

pub is_id : (k : ℕ) (v : Tagged) → (word_of v == 16 * k + 1) ≡ true → v ≡ IdAt k
is_id k v h = go v (eqb-true (word_of v) (16 * k + 1) h)
  where
    go : (v : Tagged) → word_of v ≡ 16 * k + 1 → v ≡ IdAt k
    go (Number z) e = absurd (omega arith)
    go (IdAt i) e = ap IdAt (omega arith)
    go (StrAt i) e = absurd (omega arith)
    go (PairAt i) e = absurd (omega arith)
    go (VectorAt i) e = absurd (omega arith)
    go (BigAt i) e = absurd (omega arith)
    go (FunAt i) e = absurd (omega arith)

pub is_other : (k : ℕ) (v : Tagged) → (word_of v == 16 * k + 1) ≡ false → v ≡ IdAt k → ⊥
is_other k v h e = let same : (word_of v == 16 * k + 1) ≡ true = ap (λ v. word_of v == 16 * k + 1) e ∙ eq-eqb (16 * k + 1) (16 * k + 1) refl in cc

-- the value that has a name is that name
named_is : (w : World) (name : Name) (id v : Tagged) → IsNameOf w name id → v ≡ id → datum_in w v ≡ Id name
unfolding datum_in
named_is w name id v h e = ap (datum_in w) (e ∙ h.interned.0) ∙ ap Id h.name_is

-- a value that is the constant has its name
pub has_name : (k : ℕ) (w : World) (name : Name) (v : Tagged) → IsNameOf w name (IdAt k) → (word_of v == 16 * k + 1) ≡ true → datum_in w v ≡ Id name
has_name k w name v h e = named_is w name (IdAt k) v h (is_id k v e)

-- and no other
other_name : (w : World) (name : Name) (id v : Tagged) → IsTable w.cells.cells w.syms.head → IsNameOf w name id → IsKnown w v → (v ≡ id → ⊥) → datum_in w v ≡ Id name → ⊥
unfolding datum_in
other_name w name id v table h known other e =
    let i = identifier_within _ w.cells.cells w.syms.head v name known.is e in
    let same = table.chained.distinct i.place (index_of id) i.among h.interned.1 (i.named ∙ sym h.name_is) in
    other (i.is ∙ (ap IdAt same ∙ sym h.interned.0))

pub has_other : (k : ℕ) (w : World) (name : Name) (v : Tagged) → IsTable w.cells.cells w.syms.head → IsNameOf w name (IdAt k) → IsKnown w v → (word_of v == 16 * k + 1) ≡ false → datum_in w v ≡ Id name → ⊥
has_other k w name v table h known e = other_name w name (IdAt k) v table h known (is_other k v e)

-- ---- constants

pub plain_constant : (d : Datum) → is_plain d ≡ true → IsConstant d
plain_constant (Int z) h = record { built = refl; same = λ page. refl }
plain_constant (Id name) h = absurd (cc)
plain_constant (Str bytes) h = record { built = refl; same = λ page. refl }
plain_constant (Pair a d) h = absurd (cc)
plain_constant (Vector es) h = record { built = refl; same = λ page. refl }

pub nil_constant : (d : Datum) → d ≡ Id nil_name → IsConstant d
nil_constant d e = rw e (record { built = refl; same = λ page. refl })

pub t_constant : (d : Datum) → d ≡ Id t_name → IsConstant d
t_constant d e = rw e (record { built = refl; same = λ page. refl })

pub name_unbuilt : (d : Datum) → is_name_datum d ≡ true → (d ≡ Id nil_name → ⊥) → (d ≡ Id t_name → ⊥) → is_built d ≡ false
name_unbuilt (Id name) h p q = rw (other_bytes name nil_name p, other_bytes name t_name q) refl
name_unbuilt (Int z) h p q = absurd (cc)
name_unbuilt (Str bytes) h p q = absurd (cc)
name_unbuilt (Pair a d) h p q = absurd (cc)
name_unbuilt (Vector es) h p q = absurd (cc)

-- ---- what follows the function

-- neither a name nor a pair
pub plain_behind : (head list : Datum) → is_plain list ≡ true → is_built (Pair head list) ≡ false
plain_behind (Id f) (Int z) h = refl
plain_behind (Id f) (Id name) h = cc
plain_behind (Id f) (Str bytes) h = refl
plain_behind (Id f) (Pair a d) h = cc
plain_behind (Id f) (Vector es) h = refl
plain_behind (Int z) list h = refl
plain_behind (Str bytes) list h = refl
plain_behind (Pair a d) list h = refl
plain_behind (Vector es) list h = refl

-- a name that is not NIL
pub name_behind : (head list : Datum) → is_name_datum list ≡ true → (list ≡ nil → ⊥) → is_built (Pair head list) ≡ false
name_behind (Id f) (Int z) h p = refl
name_behind (Id f) (Id name) h p = rw (other_bytes name nil_name p) refl
name_behind (Id f) (Str bytes) h p = refl
name_behind (Id f) (Pair a d) h p = absurd (cc)
name_behind (Id f) (Vector es) h p = refl
name_behind (Int z) list h p = refl
name_behind (Str bytes) list h p = refl
name_behind (Pair a d) list h p = refl
name_behind (Vector es) list h p = refl

pub plain_second : (head first rest : Datum) → is_plain rest ≡ true → is_built (Pair head (Pair first rest)) ≡ false
plain_second (Id f) first (Int z) h = refl
plain_second (Id f) first (Id name) h = cc
plain_second (Id f) first (Str bytes) h = refl
plain_second (Id f) first (Pair a d) h = cc
plain_second (Id f) first (Vector es) h = refl
plain_second (Int z) first rest h = refl
plain_second (Str bytes) first rest h = refl
plain_second (Pair a d) first rest h = refl
plain_second (Vector es) first rest h = refl

pub name_second : (head first rest : Datum) → is_name_datum rest ≡ true → (rest ≡ nil → ⊥) → is_built (Pair head (Pair first rest)) ≡ false
name_second (Id f) first (Int z) h p = refl
name_second (Id f) first (Id name) h p = rw (other_bytes name nil_name p) refl
name_second (Id f) first (Str bytes) h p = refl
name_second (Id f) first (Pair a d) h p = absurd (cc)
name_second (Id f) first (Vector es) h p = refl
name_second (Int z) first rest h p = refl
name_second (Str bytes) first rest h p = refl
name_second (Pair a d) first rest h p = refl
name_second (Vector es) first rest h p = refl

-- two elements, and then what is not NIL
pub third : (head first second end : Datum) → (end ≡ nil → ⊥) → is_built (Pair head (Pair first (Pair second end))) ≡ false
third (Id f) first second (Int z) p = refl
third (Id f) first second (Id name) p = rw (other_bytes name nil_name p) refl
third (Id f) first second (Str bytes) p = refl
third (Id f) first second (Pair a d) p = refl
third (Id f) first second (Vector es) p = refl
third (Int z) first second end p = refl
third (Str bytes) first second end p = refl
third (Pair a d) first second end p = refl
third (Vector es) first second end p = refl

-- ---- functions that are not known

pub none_unbuilt : (head : Datum) → (head ≡ Id terpri_name → ⊥) → is_built (Pair head nil) ≡ false
none_unbuilt (Id f) p = rw (other_bytes f terpri_name p) refl
none_unbuilt (Int z) p = refl
none_unbuilt (Str bytes) p = refl
none_unbuilt (Pair a d) p = refl
none_unbuilt (Vector es) p = refl

pub one_unbuilt : (head a : Datum) → (head ≡ Id quote_name → ⊥) → (head ≡ Id print_name → ⊥) → (head ≡ Id prin1_name → ⊥) → (head ≡ Id prin2_name → ⊥) → is_built (Pair head (Pair a nil)) ≡ false
one_unbuilt (Id f) a p q r s = rw (other_bytes f quote_name p, other_bytes f print_name q, other_bytes f prin1_name r, other_bytes f prin2_name s) refl
one_unbuilt (Int z) a p q r s = refl
one_unbuilt (Str bytes) a p q r s = refl
one_unbuilt (Pair x y) a p q r s = refl
one_unbuilt (Vector es) a p q r s = refl

pub two_unbuilt : (head a b : Datum) → (head ≡ Id cons_name → ⊥) → is_built (Pair head (Pair a (Pair b nil))) ≡ false
two_unbuilt (Id f) a b p = rw (other_bytes f cons_name p) refl
two_unbuilt (Int z) a b p = refl
two_unbuilt (Str bytes) a b p = refl
two_unbuilt (Pair x y) a b p = refl
two_unbuilt (Vector es) a b p = refl
