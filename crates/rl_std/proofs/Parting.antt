-- What is done with a pair, or with a value that is none.
use Rattle.std.proofs.Common.{◌≡◌, Bool, true, false, List, ◌∷◌, Option, Some, None, if◌then◌else◌, ap, subst, sym, ◌∙◌}
use Rattle.rl_world.specs.declared.stop.NStep as steps
use Rattle.rl_world.specs.declared.world.World.{World}
use Rattle.rl_tree.specs.Value.{Value, Pair}
use Rattle.rl_cells.specs.Cell.{Cell, is_live, is_pair}
use Rattle.rl_tags.specs.Tagged.{Tagged, Number, IdAt, StrAt, PairAt, VectorAt, BigAt, FunAt}
use Rattle.rl_meaning.specs.Constants.{reading_object}
use Rattle.rl_meaning.specs.Copying.{with_object}
use Rattle.rl_meaning.specs.Errors.{fail, wrong_type}
use Rattle.rl_meaning.specs.State.{State}
use Rattle.rl_meaning.specs.Outcome.{Outcome}
use Rattle.rl_meaning.specs.Lists.{cdr_set, part, part_of, with_pair}
use Rattle.rl_meaning.specs.Symbols.{pair_at}
use Rattle.rl_syms.specs.Contents.{value_of}
use Rattle.rl_state.specs.Ending.{EndsShown, MeansAnswer}
use Rattle.rl_state.specs.ShownState.{ShowsState}
use Rattle.rl_state.specs.StepLaws.{StepsFollow}
use Rattle.rl_std.proofs.Along.{HasParts}
use Rattle.rl_std.proofs.Coming.{goes_on, retold}

pub of_pair : (s : State) (v : Value) (next : Value × Value → State → Outcome Value) (o : Option (Value × Value)) (r : steps.NStep) (w : World) → pair_at s v ≡ o → MeansAnswer s (with_pair o v s next) r w → MeansAnswer s (with_pair (pair_at s v) v s next) r w
of_pair s v next o r w e h = subst (λ o. MeansAnswer s (with_pair o v s next) r w) (sym e) h

-- ---- along a path

side_is : (cells : List Cell) (b : Bool) (a d side : Tagged) → side ≡ (if b then a else d) → part_of b (value_of cells a, value_of cells d) ≡ value_of cells side
side_is cells true a d side e = ap (value_of cells) (sym e)
side_is cells false a d side e = ap (value_of cells) (sym e)

pub side_live : (cells : List Cell) (b : Bool) (p : Tagged × Tagged) (side : Tagged) → side ≡ (if b then p.0 else p.1) → (is_live cells p.0 ≡ true) × (is_live cells p.1 ≡ true) → is_live cells side ≡ true
side_live cells true p side e h = ap (is_live cells) e ∙ h.0
side_live cells false p side e h = ap (is_live cells) e ∙ h.1

pub part_goes : (law : StepsFollow) (s : State) (o : Outcome Value) (w : World) (b : Bool) (path : List Bool) (at side : Tagged) (p : Tagged × Tagged) → EndsShown s o (part (b ∷ path) (value_of w.cells.cells at)) w
    → HasParts w at (Some p) → side ≡ (if b then p.0 else p.1) → EndsShown s o (part path (value_of w.cells.cells side)) w
part_goes law s o w b path at side p h parts e =
    let v = value_of w.cells.cells at in
    goes_on law s o (part (b ∷ path) v) (part path (value_of w.cells.cells side)) w w h (λ t shown. record {
      state = reading_object v t;
      is = ap (λ o. with_pair o v t (λ parts t. part path (part_of b parts) (reading_object v t))) (parts t shown)
          ∙ ap (λ x. part path x (reading_object v t)) (side_is w.cells.cells b p.0 p.1 side e);
      good = law.reading w v t shown;
    })

pub no_part : (s : State) (o : Outcome Value) (w : World) (b : Bool) (path : List Bool) (at : Tagged) → EndsShown s o (part (b ∷ path) (value_of w.cells.cells at)) w
    → HasParts w at None → EndsShown s o (λ t. fail wrong_type (value_of w.cells.cells at) t) w
no_part s o w b path at h parts =
    let v = value_of w.cells.cells at in
    retold s o (part (b ∷ path) v) (λ t. fail wrong_type v t) w h (λ t shown. ap (λ o. with_pair o v t (λ parts t. part path (part_of b parts) (reading_object v t))) (parts t shown))

-- ---- a pair stays one, and gets another CDR

pub pair_stays : (old new : List Cell) (v : Tagged) → ((x : Tagged) → is_live old x ≡ true → is_live new x ≡ true) → is_pair old v ≡ true → is_pair new v ≡ true
pair_stays old new (PairAt k) f h = f (PairAt k) h
pair_stays old new (Number k) f h = absurd (cc)
pair_stays old new (IdAt k) f h = absurd (cc)
pair_stays old new (StrAt k) f h = absurd (cc)
pair_stays old new (VectorAt k) f h = absurd (cc)
pair_stays old new (BigAt k) f h = absurd (cc)
pair_stays old new (FunAt k) f h = absurd (cc)

pub pair_live : (cells : List Cell) (v : Tagged) → is_pair cells v ≡ true → is_live cells v ≡ true
pair_live cells (PairAt k) h = h
pair_live cells (Number k) h = absurd (cc)
pair_live cells (IdAt k) h = absurd (cc)
pair_live cells (StrAt k) h = absurd (cc)
pair_live cells (VectorAt k) h = absurd (cc)
pair_live cells (BigAt k) h = absurd (cc)
pair_live cells (FunAt k) h = absurd (cc)

pub cdr_set_is : (s : State) (l v a d : Value) → pair_at s l ≡ Some (a, d) → cdr_set l v s ≡ with_object l (Pair a v) s
cdr_set_is s l v a d e = ap (λ (o : Option (Value × Value)). elim o [ None ↦ s | Some parts ↦ with_object l (Pair parts.0 v) s ]) e
