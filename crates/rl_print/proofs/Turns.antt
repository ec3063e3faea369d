-- More turns to begin with change nothing where those that are left suffice.
use Rattle.std.proofs.Common.{◌≡◌, ℕ, zero, suc, ◌<◌, ◌≤◌, Bool, true, false, if◌then◌else◌, List, [], ◌∷◌, Option, Some, None, refl, ap, ◌∙◌, arith}
use Rattle.std.specs.Prelude.{slice_get}
use Rattle.rl_tree.specs.Value.{Value, Int, Id, Str, Ref, Fun, Object, Pair, Vector}
use Rattle.rl_tree.specs.Printing.{Ending, Whole, NoTurn, TooDeep, Progress, Setting, Printer, PrintingJob, Element, Listed, marked, goes_on, and_then, with_turn_of, with_turn, with_level, places_printed, object_printed, value_printed, rest_object, rest_printed, job_printed, printed}
use Rattle.rl_print.specs.Walk.{whole_printer}
use Rattle.rl_print.proofs.After.{GoesOn, job_after, value_after}

-- two printers do the same where fewer than n turns are left
abbrev pub Agree : Printer → Printer → ℕ → Type 0
Agree f g n = (job : PrintingJob) (l : ℕ) (q : Progress) → q.turns < n → f job l q ≡ g job l q

with_turn_same : (p : Progress) (f g : Progress → Progress) → ((t : ℕ) → t < p.turns → f (record p { turns = t }) ≡ g (record p { turns = t })) → with_turn p f ≡ with_turn p g
with_turn_same p f g h = go p.turns refl
  where
    go : (n : ℕ) → n ≡ p.turns → with_turn_of n p f ≡ with_turn_of n p g
    go zero e = refl
    go (suc t) e = h t (omega arith)

and_then_same : (r s : Progress) (f g : Progress → Progress) → r ≡ s → f s ≡ g s → and_then r f ≡ and_then s g
and_then_same r s f g e h = ap (λ q. and_then q f) e ∙ go s.ending
  where
    go : (e : Ending) → goes_on e s f ≡ goes_on e s g
    go Whole = h
    go NoTurn = refl
    go TooDeep = refl

with_level_same : (inner : Bool) (levels : ℕ) (p : Progress) (f g : ℕ → Progress → Progress) → ((l : ℕ) → f l p ≡ g l p) → with_level inner levels p f ≡ with_level inner levels p g
with_level_same false levels p f g h = h levels
with_level_same true zero p f g h = refl
with_level_same true (suc l) p f g h = h l

blank_turns_same : (first : Bool) (p : Progress) → (if first then p else marked (32 ∷ []) p).turns ≡ p.turns
blank_turns_same true p = refl
blank_turns_same false p = refl

places_same : (f g : Printer) (n : ℕ) → Agree f g n → GoesOn g → (first : Bool) (xs : List Value) (l : ℕ) (p : Progress) → p.turns ≤ n → places_printed f first xs l p ≡ places_printed g first xs l p
places_same f g n a h first [] l p m = refl
places_same f g n a h first (x ∷ xs) l p m = with_turn_same p _ _ (λ t k.
    let q : Progress = record p { turns = t } in
    let b : Progress = if first then q else marked (32 ∷ []) q in
    let bt : b.turns ≡ t = blank_turns_same first q in
    let after = h (Element x) l b in
    and_then_same (f (Element x) l b) (g (Element x) l b) (places_printed f false xs l) (places_printed g false xs l) (a (Element x) l b (omega (arith, bt))) (places_same f g n a h false xs l (g (Element x) l b) (omega (arith, after.turns, bt))))

object_same : (f g : Printer) (n : ℕ) → Agree f g n → GoesOn g → (inner : Bool) (o : Option Object) (l : ℕ) (p : Progress) → p.turns ≤ n → object_printed f inner o l p ≡ object_printed g inner o l p
object_same f g n a h inner None l p m = refl
object_same f g n a h inner (Some (Pair x y)) l p m = with_turn_same p _ _ (λ t k.
    let q : Progress = record p { turns = t } in
    with_level_same inner l q _ _ (λ j. a (Listed x y) j (marked (40 ∷ []) q) (omega arith)))
object_same f g n a h inner (Some (Vector xs)) l p m = with_level_same inner l p _ _ (λ j. places_same f g n a h true xs j (marked (91 ∷ []) p) m)

pub value_same : (s : Setting) (f g : Printer) (n : ℕ) → Agree f g n → GoesOn g → (inner : Bool) (v : Value) (l : ℕ) (p : Progress) → p.turns ≤ n → value_printed s f inner v l p ≡ value_printed s g inner v l p
value_same s f g n a h inner (Ref r) l p m = object_same f g n a h inner (slice_get s.store r) l p m
value_same s f g n a h inner (Int z) l p m = refl
value_same s f g n a h inner (Id i) l p m = refl
value_same s f g n a h inner (Str bytes) l p m = refl
value_same s f g n a h inner (Fun k place) l p m = refl

rest_object_same : (f g : Printer) (n : ℕ) → Agree f g n → GoesOn g → (o : Option Object) (l : ℕ) (p : Progress) → p.turns ≤ n → rest_object f o l p ≡ rest_object g o l p
rest_object_same f g n a h None l p m = refl
rest_object_same f g n a h (Some (Pair x y)) l p m = with_turn_same p _ _ (λ t k. a (Listed x y) l (marked (32 ∷ []) (record p { turns = t })) (omega arith))
rest_object_same f g n a h (Some (Vector xs)) l p m = ap (λ r. and_then r (marked (41 ∷ []))) (places_same f g n a h true xs l (marked (91 ∷ []) (marked (32 ∷ 46 ∷ 32 ∷ []) p)) m)

pub rest_same : (s : Setting) (f g : Printer) (n : ℕ) → Agree f g n → GoesOn g → (d : Value) (l : ℕ) (p : Progress) → p.turns ≤ n → rest_printed s f d l p ≡ rest_printed s g d l p
rest_same s f g n a h (Ref r) l p m = rest_object_same f g n a h (slice_get s.store r) l p m
rest_same s f g n a h (Id i) l p m = refl
rest_same s f g n a h (Int z) l p m = refl
rest_same s f g n a h (Str bytes) l p m = refl
rest_same s f g n a h (Fun k place) l p m = refl

pub job_same : (s : Setting) (n m : ℕ) (job : PrintingJob) (l : ℕ) (q : Progress) → q.turns < n → q.turns < m → job_printed s n job l q ≡ job_printed s m job l q
job_same s zero m job l q h k = absurd (omega arith)
job_same s (suc n) zero job l q h k = absurd (omega arith)
job_same s (suc n) (suc m) (Element v) l q h k =
    value_same s (job_printed s n) (job_printed s m) q.turns (λ j i r b. job_same s n m j i r (omega arith) (omega arith)) (job_after s m) true v l q (omega arith)
job_same s (suc n) (suc m) (Listed a d) l q h k =
    let agree : Agree (job_printed s n) (job_printed s m) q.turns = λ j i r b. job_same s n m j i r (omega arith) (omega arith) in
    let x = value_printed s (job_printed s n) true a l q in
    let y = value_printed s (job_printed s m) true a l q in
    let after = value_after s (job_printed s m) (job_after s m) true a l q in
    and_then_same x y (rest_printed s (job_printed s n) d l) (rest_printed s (job_printed s m) d l)
    (value_same s (job_printed s n) (job_printed s m) q.turns agree (job_after s m) true a l q (omega arith))
    (rest_same s (job_printed s n) (job_printed s m) q.turns agree (job_after s m) d l y after.turns)

-- ---- printing, whatever the turns

pub whole_after : (s : Setting) → GoesOn (whole_printer s)
unfolding whole_printer
whole_after s job l q = job_after s (suc q.turns) job l q

agrees : (s : Setting) (n : ℕ) → Agree (job_printed s n) (whole_printer s) n
unfolding whole_printer
agrees s n job l q h = job_same s n (suc q.turns) job l q h (omega arith)

pub whole_element : (s : Setting) (v : Value) (l : ℕ) (p : Progress) → whole_printer s (Element v) l p ≡ value_printed s (whole_printer s) true v l p
unfolding whole_printer
whole_element s v l p = value_same s (job_printed s p.turns) (whole_printer s) p.turns (agrees s p.turns) (whole_after s) true v l p (omega arith)

pub whole_listed : (s : Setting) (a d : Value) (l : ℕ) (p : Progress) → whole_printer s (Listed a d) l p ≡ and_then (value_printed s (whole_printer s) true a l p) (rest_printed s (whole_printer s) d l)
unfolding whole_printer
whole_listed s a d l p =
    let x = value_printed s (job_printed s p.turns) true a l p in
    let y = value_printed s (whole_printer s) true a l p in
    let after = value_after s (whole_printer s) (whole_after s) true a l p in
    and_then_same x y (rest_printed s (job_printed s p.turns) d l) (rest_printed s (whole_printer s) d l)
    (value_same s (job_printed s p.turns) (whole_printer s) p.turns (agrees s p.turns) (whole_after s) true a l p (omega arith))
    (rest_same s (job_printed s p.turns) (whole_printer s) p.turns (agrees s p.turns) (whole_after s) d l y after.turns)

pub printed_whole : (s : Setting) (v : Value) (l : ℕ) (p : Progress) → printed s v l p ≡ value_printed s (whole_printer s) false v l p
unfolding whole_printer
printed_whole s v l p = value_same s (job_printed s p.turns) (whole_printer s) p.turns (agrees s p.turns) (whole_after s) false v l p (omega arith)
