-- As printing goes on, turns never rise and the text only grows.
use Rattle.std.proofs.Common.{◌≡◌, ℕ, zero, suc, ◌+◌, ◌<◌, ◌≤◌, Bool, true, false, if◌then◌else◌, List, [], ◌∷◌, ◌++◌, length, Option, Some, None, refl, sym, ap, ◌∙◌, arith, append_assoc, le_refl, le_trans}
use Rattle.std.specs.Prelude.{◌&&◌, ◌==◌, nat_lt, slice_get}
use Rattle.std.proofs.lemmas.List.{append-nil}
use Rattle.rl_tree.specs.Value.{Value, Int, Id, Str, Ref, Fun, Object, Pair, Vector}
use Rattle.rl_tree.specs.Printing.{Page}
use Rattle.rl_tree.specs.Printing.{Ending, Whole, NoTurn, TooDeep, Progress, Setting, Printer, PrintingJob, Element, Listed, with_text, marked, with_atom_of, goes_on, and_then, with_turn_of, with_turn, with_level, places_printed, vector_printed, object_printed, value_printed, dotted_atom, rest_object, rest_printed, job_printed}

-- the second is further on
pub record IsAfter (p q : Progress) : Type 0 where
  pub turns : q.turns ≤ p.turns
  pub more : List ℕ
  pub text : q.page.text ≡ p.page.text ++ more

pub after_refl : (p : Progress) → IsAfter p p
after_refl p = record { turns = le_refl p.turns; more = []; text = sym (append-nil p.page.text) }

pub after_trans : (p q r : Progress) → IsAfter p q → IsAfter q r → IsAfter p r
after_trans p q r a b = record {
  turns = le_trans b.turns a.turns;
  more = a.more ++ b.more;
  text = b.text ∙ (ap (λ t. t ++ b.more) a.text ∙ append_assoc p.page.text a.more b.more);
}

-- the same text and no more turns
pub after_same : (p q : Progress) → q.turns ≤ p.turns → q.page.text ≡ p.page.text → IsAfter p q
after_same p q l e = record { turns = l; more = []; text = e ∙ sym (append-nil p.page.text) }

pub marked_after : (bytes : List ℕ) (p : Progress) → IsAfter p (marked bytes p)
marked_after bytes p = record { turns = le_refl p.turns; more = bytes; text = refl }

atom_text_after : (n : ℕ) (page : Page) (bytes : List ℕ) (broken : Bool) → (more : List ℕ) × ((if broken then with_text (with_text page (10 ∷ [])) bytes else with_text page bytes).text ≡ page.text ++ more)
atom_text_after n page bytes true = ((10 ∷ []) ++ bytes, append_assoc page.text (10 ∷ []) bytes)
atom_text_after n page bytes false = (bytes, refl)

pub atom_after : (g : Setting) (v : Value) (p : Progress) → IsAfter p (with_atom_of g v p)
atom_after g v p =
    let t = atom_text_after g.line_length p.page _ (nat_lt 0 p.page.column && nat_lt g.line_length (p.page.column + length _)) in
    record { turns = le_refl p.turns; more = t.0; text = t.1 }

pub and_then_after : (p r : Progress) (next : Progress → Progress) → IsAfter p r → IsAfter r (next r) → IsAfter p (and_then r next)
and_then_after p r next a b = go r.ending
  where
    go : (e : Ending) → IsAfter p (goes_on e r next)
    go Whole = after_trans p r (next r) a b
    go NoTurn = a
    go TooDeep = a

pub with_turn_after : (p : Progress) (next : Progress → Progress) → ((t : ℕ) → t < p.turns → IsAfter (record p { turns = t }) (next (record p { turns = t }))) → IsAfter p (with_turn p next)
with_turn_after p next h = go p.turns refl
  where
    go : (n : ℕ) → n ≡ p.turns → IsAfter p (with_turn_of n p next)
    go zero e = after_same p _ (le_refl p.turns) refl
    go (suc t) e = after_trans p (record p { turns = t }) (next (record p { turns = t })) (after_same p _ (omega arith) refl) (h t (omega arith))

pub with_level_after : (inner : Bool) (levels : ℕ) (p : Progress) (next : ℕ → Progress → Progress) → ((l : ℕ) → IsAfter p (next l p)) → IsAfter p (with_level inner levels p next)
with_level_after false levels p next h = h levels
with_level_after true zero p next h = after_same p _ (le_refl p.turns) refl
with_level_after true (suc l) p next h = h l

-- a printer goes on
abbrev pub GoesOn : Printer → Type 0
GoesOn print = (job : PrintingJob) (l : ℕ) (q : Progress) → IsAfter q (print job l q)

blank_after : (first : Bool) (p : Progress) → IsAfter p (if first then p else marked (32 ∷ []) p)
blank_after true p = after_refl p
blank_after false p = marked_after (32 ∷ []) p

pub places_after : (print : Printer) → GoesOn print → (first : Bool) (xs : List Value) (l : ℕ) (p : Progress) → IsAfter p (places_printed print first xs l p)
places_after print h first [] l p = marked_after (93 ∷ []) p
places_after print h first (x ∷ xs) l p = with_turn_after p _ (λ t m.
    let q : Progress = record p { turns = t } in
    let b : Progress = if first then q else marked (32 ∷ []) q in
    let r = print (Element x) l b in
    and_then_after q r (places_printed print false xs l) (after_trans q b r (blank_after first q) (h (Element x) l b)) (places_after print h false xs l r))

pub vector_after : (print : Printer) → GoesOn print → (xs : List Value) (l : ℕ) (p : Progress) → IsAfter p (vector_printed print xs l p)
vector_after print h xs l p = after_trans p (marked (91 ∷ []) p) _ (marked_after (91 ∷ []) p) (places_after print h true xs l (marked (91 ∷ []) p))

object_after : (print : Printer) → GoesOn print → (inner : Bool) (o : Option Object) (l : ℕ) (p : Progress) → IsAfter p (object_printed print inner o l p)
object_after print h inner None l p = after_refl p
object_after print h inner (Some (Pair a d)) l p = with_turn_after p _ (λ t m.
    let q : Progress = record p { turns = t } in
    with_level_after inner l q _ (λ k. after_trans q (marked (40 ∷ []) q) _ (marked_after (40 ∷ []) q) (h (Listed a d) k (marked (40 ∷ []) q))))
object_after print h inner (Some (Vector xs)) l p = with_level_after inner l p _ (λ k. vector_after print h xs k p)

pub value_after : (g : Setting) (print : Printer) → GoesOn print → (inner : Bool) (v : Value) (l : ℕ) (p : Progress) → IsAfter p (value_printed g print inner v l p)
value_after g print h inner (Ref r) l p = object_after print h inner (slice_get g.store r) l p
value_after g print h inner (Int z) l p = atom_after g (Int z) p
value_after g print h inner (Id i) l p = atom_after g (Id i) p
value_after g print h inner (Str bytes) l p = atom_after g (Str bytes) p
value_after g print h inner (Fun f place) l p = atom_after g (Fun f place) p

dotted_after : (g : Setting) (v : Value) (p : Progress) → IsAfter p (dotted_atom g v p)
dotted_after g v p =
    let q = marked (32 ∷ 46 ∷ 32 ∷ []) p in
    let r = with_atom_of g v q in
    after_trans p q _ (marked_after (32 ∷ 46 ∷ 32 ∷ []) p) (after_trans q r _ (atom_after g v q) (marked_after (41 ∷ []) r))

rest_object_after : (print : Printer) → GoesOn print → (o : Option Object) (l : ℕ) (p : Progress) → IsAfter p (rest_object print o l p)
rest_object_after print h None l p = after_refl p
rest_object_after print h (Some (Pair a d)) l p = with_turn_after p _ (λ t m.
    let q : Progress = record p { turns = t } in after_trans q (marked (32 ∷ []) q) _ (marked_after (32 ∷ []) q) (h (Listed a d) l (marked (32 ∷ []) q)))
rest_object_after print h (Some (Vector xs)) l p =
    let q = marked (32 ∷ 46 ∷ 32 ∷ []) p in
    let r = vector_printed print xs l q in
    and_then_after p r (marked (41 ∷ [])) (after_trans p q r (marked_after (32 ∷ 46 ∷ 32 ∷ []) p) (vector_after print h xs l q)) (marked_after (41 ∷ []) r)

id_rest_after : (g : Setting) (i : ℕ) (p : Progress) (ends : Bool) → IsAfter p (if ends then marked (41 ∷ []) p else dotted_atom g (Id i) p)
id_rest_after g i p true = marked_after (41 ∷ []) p
id_rest_after g i p false = dotted_after g (Id i) p

pub rest_after : (g : Setting) (print : Printer) → GoesOn print → (d : Value) (l : ℕ) (p : Progress) → IsAfter p (rest_printed g print d l p)
rest_after g print h (Ref r) l p = rest_object_after print h (slice_get g.store r) l p
rest_after g print h (Id i) l p = id_rest_after g i p (i == g.nil)
rest_after g print h (Int z) l p = dotted_after g (Int z) p
rest_after g print h (Str bytes) l p = dotted_after g (Str bytes) p
rest_after g print h (Fun f place) l p = dotted_after g (Fun f place) p

pub job_after : (g : Setting) (n : ℕ) → GoesOn (job_printed g n)
job_after g zero job l q = after_same q _ (le_refl q.turns) refl
job_after g (suc n) (Element v) l q = value_after g (job_printed g n) (job_after g n) true v l q
job_after g (suc n) (Listed a d) l q =
    let r = value_printed g (job_printed g n) true a l q in
    and_then_after q r (rest_printed g (job_printed g n) d l) (value_after g (job_printed g n) (job_after g n) true a l q) (rest_after g (job_printed g n) (job_after g n) d l r)
