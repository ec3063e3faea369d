-- What a test leaves to be tested.
use Rattle.std.proofs.Common.{◌≡◌, ◌+◌, ◌<◌, Bool, true, false, ◌&&◌, List, [], ◌∷◌, ◌++◌, map, refl, sym, ap, ◌∙◌, arith}
use Rattle.std.specs.List.{All, list_all}
use Rattle.std.proofs.lemmas.List.{map-append}
use Rattle.std.proofs.lemmas.List.Elements.{All-append, All-cons, All-head, All-nil, All-tail}
use Rattle.std.proofs.lemmas.List.Folds.{list_all-append}
use Rattle.rl_tags.specs.Tagged.{Tagged}
use Rattle.rl_text.specs.Datum.{Datum}
use Rattle.rl_world.specs.declared.world.World.{World}
use Rattle.rl_forms.specs.BuiltForms.{is_built}
use Rattle.rl_forms.specs.KnownData.{IsKnown, datum_in}
use Rattle.rl_forms.specs.SeenForms.{call, cons_call, printer_name, pairs_of_datum, tests_left, are_built, IsTested}
use Rattle.rl_forms.specs.declared.forms.Printer.{Printer}
use Rattle.rl_forms.specs.declared.forms.Printer.TheVariants as printer

-- ---- one more at the end

and_true : (b : Bool) → (b && true) ≡ b
and_true true = refl
and_true false = refl

and_swap : (a b : Bool) → (a && b) ≡ (b && a)
and_swap true true = refl
and_swap true false = refl
and_swap false true = refl
and_swap false false = refl

and_turn : (a b c : Bool) → ((a && b) && c) ≡ ((c && a) && b)
and_turn true true true = refl
and_turn true true false = refl
and_turn true false true = refl
and_turn true false false = refl
and_turn false b true = refl
and_turn false b false = refl

pub built_seam : (w : World) (vs : List Tagged) (v : Tagged) → are_built w (vs ++ v ∷ []) ≡ (are_built w vs && is_built (datum_in w v))
built_seam w vs v = ap (list_all is_built) (map-append (datum_in w) vs (v ∷ [])) ∙ (list_all-append is_built (map (datum_in w) vs) (datum_in w v ∷ []) ∙ ap (λ b. are_built w vs && b) (and_true (is_built (datum_in w v))))

tests_seam : (ds : List Datum) (d : Datum) → tests_left (ds ++ d ∷ []) ≡ tests_left ds + (pairs_of_datum d + 1)
tests_seam [] d = omega arith
tests_seam (x ∷ xs) d = let rest = tests_seam xs d in omega (arith, rest)

left_seam : (w : World) (vs : List Tagged) (v : Tagged) → tests_left (map (datum_in w) (vs ++ v ∷ [])) ≡ tests_left (map (datum_in w) vs) + (pairs_of_datum (datum_in w v) + 1)
left_seam w vs v = ap tests_left (map-append (datum_in w) vs (v ∷ [])) ∙ tests_seam (map (datum_in w) vs) (datum_in w v)

pub known_seam : (w : World) (vs : List Tagged) (v : Tagged) → All (IsKnown w) vs → IsKnown w v → All (IsKnown w) (vs ++ v ∷ [])
known_seam w vs v known k = All-append (IsKnown w) vs (v ∷ []) known (All-cons (IsKnown w) v [] k (All-nil (IsKnown w)))

-- ---- a test

printer_built : (f : Printer) (a : Datum) → is_built (call (printer_name f) a) ≡ is_built a
printer_built printer.Print a = refl
printer_built printer.Prin1 a = refl
printer_built printer.Prin2 a = refl

pub print_tested : (w : World) (d : Datum) (f : Printer) (a : Tagged) (old new : List Tagged) → All (IsKnown w) old → IsKnown w a × (d ≡ call (printer_name f) (datum_in w a)) → new ≡ old ++ a ∷ [] → IsTested w d old new
print_tested w d f a old new known h e =
    let pairs : pairs_of_datum d ≡ pairs_of_datum (call (printer_name f) (datum_in w a)) = ap pairs_of_datum h.1 in
    let left = left_seam w old a in
    rw e (record {
      same = ap (λ x. is_built x && are_built w old) h.1 ∙ (ap (λ b. b && are_built w old) (printer_built f (datum_in w a)) ∙ (and_swap (is_built (datum_in w a)) (are_built w old) ∙ sym (built_seam w old a)));
      known = known_seam w old a known h.0;
      fewer = omega (arith, pairs, left);
    })

pub cons_tested : (w : World) (d : Datum) (a b : Tagged) (old mid new : List Tagged) → All (IsKnown w) old → IsKnown w a × IsKnown w b × (d ≡ cons_call (datum_in w a) (datum_in w b)) → mid ≡ old ++ a ∷ [] → new ≡ mid ++ b ∷ [] → IsTested w d old new
cons_tested w d a b old mid new known h e1 e2 =
    let pairs : pairs_of_datum d ≡ pairs_of_datum (cons_call (datum_in w a) (datum_in w b)) = ap pairs_of_datum h.2 in
    let first = left_seam w old a in
    let second = left_seam w (old ++ a ∷ []) b in
    let x = is_built (datum_in w a) in
    let y = is_built (datum_in w b) in
    rw (e2, e1) (record {
      same = ap (λ d. is_built d && are_built w old) h.2 ∙ (and_turn x y (are_built w old) ∙ (ap (λ c. c && y) (sym (built_seam w old a)) ∙ sym (built_seam w (old ++ a ∷ []) b)));
      known = known_seam w (old ++ a ∷ []) b (known_seam w old a known h.0) h.1;
      fewer = omega (arith, pairs, first, second);
    })

-- a form is taken off to be tested
pub taken_known : (w : World) (all vs : List Tagged) (v : Tagged) → all ≡ vs ++ v ∷ [] → All (IsKnown w) all → All (IsKnown w) vs × IsKnown w v
taken_known w all vs v e known = seam vs (rw (← e) known)
  where
    seam : (vs : List Tagged) → All (IsKnown w) (vs ++ v ∷ []) → All (IsKnown w) vs × IsKnown w v
    seam [] h = (All-nil (IsKnown w), All-head (IsKnown w) v [] h)
    seam (x ∷ xs) h = let rest = seam xs (All-tail (IsKnown w) x (xs ++ v ∷ []) h) in (All-cons (IsKnown w) x xs (All-head (IsKnown w) x (xs ++ v ∷ []) h) rest.0, rest.1)

-- the rest and what the form leaves is built exactly where all was
pub taken_built : (w : World) (all vs new : List Tagged) (v : Tagged) → all ≡ vs ++ v ∷ [] → IsTested w (datum_in w v) vs new → are_built w new ≡ are_built w all
taken_built w all vs new v e h = sym h.same ∙ (and_swap (is_built (datum_in w v)) (are_built w vs) ∙ (sym (built_seam w vs v) ∙ ap (are_built w) (sym e)))

pub taken_fewer : (w : World) (all vs new : List Tagged) (v : Tagged) → all ≡ vs ++ v ∷ [] → IsTested w (datum_in w v) vs new → tests_left (map (datum_in w) new) < tests_left (map (datum_in w) all)
taken_fewer w all vs new v e h =
    let left : tests_left (map (datum_in w) all) ≡ tests_left (map (datum_in w) vs) + (pairs_of_datum (datum_in w v) + 1) = ap (λ vs. tests_left (map (datum_in w) vs)) e ∙ left_seam w vs v in
    omega (arith, left, h.fewer)

-- one that is not built is enough
pub taken_unbuilt : (w : World) (all vs : List Tagged) (v : Tagged) → all ≡ vs ++ v ∷ [] → is_built (datum_in w v) ≡ false → are_built w all ≡ false
taken_unbuilt w all vs v e h = ap (are_built w) e ∙ (built_seam w vs v ∙ (ap (λ b. are_built w vs && b) h ∙ and_swap (are_built w vs) false))
