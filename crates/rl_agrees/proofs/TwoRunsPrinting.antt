-- Printing of two runs side by side: it prints the same, or one of them has too few levels, and then what it printed is a front of what the other one prints.
use Rattle.std.proofs.Common.{◌≡◌, ◌≤◌, ◌<◌, ◌⊎◌, inl, inr, ◌==◌, ◌∙◌, ◌+◌, ◌&&◌, if◌then◌else◌, ℕ, zero, suc, Bool, true, false, List, [], ◌∷◌, ◌++◌, length, Option, Some, None, refl, sym, subst, arith}
use Rattle.std.specs.Prelude.{codes, nat_lt}
use Rattle.std.proofs.lemmas.List.{append-nil}
use Rattle.rl_tree.specs.Value.{Value, Int, Id, Str, Ref, Fun, Object}
use Rattle.rl_tree.specs.Atoms.{Style, Prin1, Prin2, atom_text}
use Rattle.rl_tree.specs.Printing.{Page, Setting, Progress, Ending, Whole, NoTurn, TooDeep, with_text, with_atom, marked, with_atom_of, goes_on, and_then, with_turn_of, with_turn, with_level, PrintingJob, Element, Listed, Printer, places_printed, vector_printed, object_printed, value_printed, dotted_atom, rest_object, rest_printed, job_printed, printed}
use Rattle.rl_meaning.specs.State.{State, Expansion}
use Rattle.rl_meaning.specs.Outcome.{Outcome, Done, Stopped, Depth, then_do, Levels, turns_left}
use Rattle.rl_meaning.specs.Opening.{state_of}
use Rattle.rl_meaning.specs.Printing as printing
use Rattle.rl_meaning.specs.Printing.{Elements, dotted_message, message_rest, elements_within, message_object, message_printed, print_message, print_mark, print_end_of_line, fresh_line, print_error, print, terpri, with_page, setting_in, page_of, progress_in, levels_in, turns_taken, last_stop, ended_printing, after_printing, print_value}
use Rattle.rl_meaning.specs.TwoRunsValues.{Names, Maybe, nothing, just, Each, end, more, SameValue, same_int, same_id, same_str, same_ref, same_fun, SameObject, same_pair, same_vector}
use Rattle.rl_meaning.specs.TwoRunsStates.{Bounds, SameStore, SameExpansion, same_none, same_open, EntryPlace, Like, Roomier}
use Rattle.rl_meaning.specs.TwoRunsEnds.{IsBegunBy, HasShown, lacks_levels, meets_levels, MayStop, Parted, right_short, left_short, Related, done, stopped, parted}
use Rattle.rl_agrees.proofs.OneRunDepth.{printed_not_deep, message_not_deep}
use Rattle.rl_agrees.proofs.TwoRunsGrowth.{grows_refl}
use Rattle.rl_agrees.proofs.TwoRunsWays.{Is, is, with_counts_like, left_same, whole_read_like}
use Rattle.rl_agrees.proofs.TwoRunsAtoms.{text_same, names_same}
use Rattle.rl_agrees.proofs.TwoRunsJoined.{begins_refl, begins_trans}

-- ---- fronts

pub begins_more : (xs ys : List ℕ) → IsBegunBy xs (xs ++ ys)
begins_more xs ys = record { rest = ys; is = refl }

-- ---- how far two printings come

-- E: what is known where the left printing has fewer levels than the right one
data SameProgress (E : Type 0) : Progress → Progress → Type 0 where
  same_progress : (p : Progress) → SameProgress E p p
  right_deep : (p q : Progress) → q.ending ≡ TooDeep → IsBegunBy q.page.text p.page.text → SameProgress E p q
  left_deep : (p q : Progress) → E → p.ending ≡ TooDeep → IsBegunBy p.page.text q.page.text → SameProgress E p q

-- both go on from this text
record SameFrom (E : Type 0) (text : List ℕ) (p q : Progress) : Type 0 where
  pub left : IsBegunBy text p.page.text
  pub right : IsBegunBy text q.page.text
  pub same : SameProgress E p q

abbrev SameSteps : Type 0 → (Progress → Progress) → (Progress → Progress) → Type 0
SameSteps E f g = (r : Progress) → SameFrom E r.page.text (f r) (g r)

one_from : {E : Type 0} (text : List ℕ) (p q : Progress) → p ≡ q → IsBegunBy text p.page.text → SameFrom E text p q
one_from {E = E} text p q e h = subst (λ x. SameFrom E text p x) e (record { left = h; right = h; same = same_progress p })

same_from : {E : Type 0} (text : List ℕ) (p : Progress) → IsBegunBy text p.page.text → SameFrom E text p p
same_from text p h = record { left = h; right = h; same = same_progress p }

-- behind more text
from_front : {E : Type 0} (xs ys : List ℕ) (p q : Progress) → IsBegunBy xs ys → SameFrom E ys p q → SameFrom E xs p q
from_front xs ys p q h k = record { left = begins_trans xs ys p.page.text h k.left; right = begins_trans xs ys q.page.text h k.right; same = k.same }

-- what goes on only adds to the page
goes_on_begins : (e : Ending) (p : Progress) (f : Progress → Progress) → IsBegunBy p.page.text (f p).page.text → IsBegunBy p.page.text (goes_on e p f).page.text
goes_on_begins Whole p f h = h
goes_on_begins NoTurn p f h = begins_refl p.page.text
goes_on_begins TooDeep p f h = begins_refl p.page.text

and_then_same : {E : Type 0} (text : List ℕ) (p q : Progress) (f g : Progress → Progress) → SameFrom E text p q → SameSteps E f g → SameFrom E text (and_then p f) (and_then q g)
and_then_same {E = E} text p q f g h k = record {
  left = begins_trans text p.page.text _ h.left (goes_on_begins p.ending p f (k p).left);
  right = begins_trans text q.page.text _ h.right (goes_on_begins q.ending q g (k q).right);
  same = at p q h.same;
}
  where
    one : (e : Ending) (p : Progress) → SameProgress E (goes_on e p f) (goes_on e p g)
    one Whole p = (k p).same
    one NoTurn p = same_progress p
    one TooDeep p = same_progress p

    at : (p q : Progress) → SameProgress E p q → SameProgress E (and_then p f) (and_then q g)
    at _ _ (same_progress p) = one p.ending p
    at p q (right_deep _ _ e b) = subst (λ x. SameProgress E (and_then p f) (goes_on x q g)) (sym e) (right_deep _ q e (begins_trans q.page.text p.page.text _ b (goes_on_begins p.ending p f (k p).left)))
    at p q (left_deep _ _ w e b) = subst (λ x. SameProgress E (goes_on x p f) (and_then q g)) (sym e) (left_deep p _ w e (begins_trans p.page.text q.page.text _ b (goes_on_begins q.ending q g (k q).right)))

with_turn_same : {E : Type 0} (p : Progress) (f g : Progress → Progress) → SameSteps E f g → SameFrom E p.page.text (with_turn p f) (with_turn p g)
with_turn_same {E = E} p f g h = at p.turns
  where
    at : (t : ℕ) → SameFrom E p.page.text (with_turn_of t p f) (with_turn_of t p g)
    at zero = same_from p.page.text (record p { ending = NoTurn }) (begins_refl p.page.text)
    at (suc t) = h (record p { turns = t })

-- one of the two may have no level left
with_level_same : {E : Type 0} (b : Bool) (i j : ℕ) (p : Progress) (f g : ℕ → Progress → Progress) → (i < j → E) → ((i j : ℕ) → (i < j → E) → SameSteps E (f i) (g j)) → SameFrom E p.page.text (with_level b i p f) (with_level b j p g)
with_level_same false i j p f g e h = h i j e p
with_level_same true zero zero p f g e h = same_from p.page.text (record p { ending = TooDeep }) (begins_refl p.page.text)
with_level_same true (suc i) zero p f g e h = let k : SameFrom _ p.page.text (f i p) (g i p) = h i i (λ le. absurd (omega (arith, le))) p in record { left = k.left; right = begins_refl p.page.text; same = right_deep _ _ refl k.left }
with_level_same true zero (suc j) p f g e h = let k : SameFrom _ p.page.text (f j p) (g j p) = h j j (λ le. absurd (omega (arith, le))) p in record { left = begins_refl p.page.text; right = k.right; same = left_deep _ _ (e (omega arith)) refl k.right }
with_level_same true (suc i) (suc j) p f g e h = h i j (λ le. e (omega (arith, le))) p

marked_steps : {E : Type 0} (bytes : List ℕ) (p : Progress) → SameFrom E p.page.text (marked bytes p) (marked bytes p)
marked_steps bytes p = same_from p.page.text (marked bytes p) (begins_more p.page.text bytes)

-- ---- values

record SameSetting (n : Names) (g h : Setting) : Type 0 where
  pub style : g.style ≡ h.style
  pub names : g.names ≡ h.names
  pub nil : g.nil ≡ h.nil
  pub store : SameStore n g.store h.store
  pub line_length : g.line_length ≡ h.line_length

data SameJob (n : Names) : PrintingJob → PrintingJob → Type 0 where
  same_element : (v w : Value) → SameValue n v w → SameJob n (Element v) (Element w)
  same_listed : (a d b e : Value) → SameValue n a b → SameValue n d e → SameJob n (Listed a d) (Listed b e)

-- where the left printing has fewer levels, this is known
abbrev Prints : Type 0 → Names → Printer → Printer → Type 0
Prints E n f g = (x y : PrintingJob) (i j : ℕ) → (i < j → E) → SameJob n x y → SameSteps E (f x i) (g y j)

separated : (first : Bool) (p : Progress) → IsBegunBy p.page.text (if first then p else marked (32 ∷ []) p).page.text
separated true p = begins_refl p.page.text
separated false p = begins_more p.page.text (32 ∷ [])

places_same : {E : Type 0} (n : Names) (f g : Printer) → Prints E n f g → (first : Bool) (xs ys : List Value) (i j : ℕ) → (i < j → E) → Each (SameValue n) xs ys → SameSteps E (places_printed f first xs i) (places_printed g first ys j)
places_same n f g h first [] _ i j less end p = marked_steps (93 ∷ []) p
places_same n f g h first (x ∷ xs) _ i j less (more _ y _ ys k r) p =
    with_turn_same p _ _ (λ p. and_then_same p.page.text _ _ (places_printed f false xs i) (places_printed g false ys j)
    (from_front p.page.text _ _ _ (separated first p) (h _ _ i j less (same_element x y k) (if first then p else marked (32 ∷ []) p))) (λ p. places_same n f g h false xs ys i j less r p))

vector_same : {E : Type 0} (n : Names) (f g : Printer) → Prints E n f g → (xs ys : List Value) (i j : ℕ) → (i < j → E) → Each (SameValue n) xs ys → SameSteps E (vector_printed f xs i) (vector_printed g ys j)
vector_same n f g h xs ys i j less k p = from_front p.page.text _ _ _ (begins_more p.page.text (91 ∷ [])) (places_same n f g h true xs ys i j less k (marked (91 ∷ []) p))

object_same : {E : Type 0} (n : Names) (f g : Printer) → Prints E n f g → (inner : Bool) (o q : Option Object) (i j : ℕ) → (i < j → E) → Maybe (SameObject n) o q → SameSteps E (object_printed f inner o i) (object_printed g inner q j)
object_same n f g h inner _ _ i j less nothing p = same_from p.page.text p (begins_refl p.page.text)
object_same n f g h inner _ _ i j less (just _ _ (same_pair a d b e x y)) p =
    with_turn_same p _ _ (λ p. with_level_same inner i j p (λ l p. f (Listed a d) l (marked (40 ∷ []) p)) (λ l p. g (Listed b e) l (marked (40 ∷ []) p)) less (λ i j less p.
    from_front p.page.text _ _ _ (begins_more p.page.text (40 ∷ [])) (h _ _ i j less (same_listed a d b e x y) (marked (40 ∷ []) p))))
object_same n f g h inner _ _ i j less (just _ _ (same_vector xs ys x)) p = with_level_same inner i j p (λ l p. vector_printed f xs l p) (λ l p. vector_printed g ys l p) less (λ i j less p. vector_same n f g h xs ys i j less x p)

atom_begins : (line_length : ℕ) (page : Page) (bytes : List ℕ) → IsBegunBy page.text (with_atom line_length page bytes).text
atom_begins line_length page bytes = at (nat_lt 0 page.column && nat_lt line_length (page.column + length bytes))
  where
    at : (b : Bool) → IsBegunBy page.text (if b then with_text (with_text page (10 ∷ [])) bytes else with_text page bytes).text
    at true = begins_trans page.text (page.text ++ 10 ∷ []) _ (begins_more page.text (10 ∷ [])) (begins_more (page.text ++ 10 ∷ []) bytes)
    at false = begins_more page.text bytes

module _ {E : Type 0} (n : Names) (g h : Setting) (s : SameSetting n g h) where
  atom_same : (v w : Value) → SameValue n v w → SameSteps E (with_atom_of g v) (with_atom_of h w)
  atom_same v w r p = one_from p.page.text _ _ (λ k. record p { page = with_atom (s.line_length k) p.page (text_same n g.style h.style g.names h.names v w s.style s.names r k) }) (atom_begins g.line_length p.page (atom_text g.style g.names v))

  dotted_same : (v w : Value) → SameValue n v w → SameSteps E (dotted_atom g v) (dotted_atom h w)
  dotted_same v w r p =
      let q = marked (32 ∷ 46 ∷ 32 ∷ []) p in
      one_from p.page.text _ _ (λ k. marked (41 ∷ []) (record q { page = with_atom (s.line_length k) q.page (text_same n g.style h.style g.names h.names v w s.style s.names r k) }))
      (begins_trans p.page.text q.page.text _ (begins_more p.page.text _) (begins_trans q.page.text _ _ (atom_begins g.line_length q.page (atom_text g.style g.names v)) (begins_more _ (41 ∷ []))))

  value_same : (f f' : Printer) → Prints E n f f' → (inner : Bool) (v w : Value) (i j : ℕ) → (i < j → E) → SameValue n v w → SameSteps E (value_printed g f inner v i) (value_printed h f' inner w j)
  value_same f f' k inner _ _ i j less (same_ref r q x) p = object_same n f f' k inner _ _ i j less (s.store.is r q x) p
  value_same f f' k inner _ _ i j less (same_int x) p = atom_same (Int x) (Int x) (same_int x) p
  value_same f f' k inner _ _ i j less (same_id x) p = atom_same (Id x) (Id x) (same_id x) p
  value_same f f' k inner _ _ i j less (same_str x) p = atom_same (Str x) (Str x) (same_str x) p
  value_same f f' k inner _ _ i j less (same_fun r q place x) p = atom_same (Fun r place) (Fun q place) (same_fun r q place x) p

  rest_object_same : (f f' : Printer) → Prints E n f f' → (o q : Option Object) (i j : ℕ) → (i < j → E) → Maybe (SameObject n) o q → SameSteps E (rest_object f o i) (rest_object f' q j)
  rest_object_same f f' k _ _ i j less nothing p = same_from p.page.text p (begins_refl p.page.text)
  rest_object_same f f' k _ _ i j less (just _ _ (same_pair a d b e x y)) p =
      with_turn_same p _ _ (λ p. from_front p.page.text _ _ _ (begins_more p.page.text (32 ∷ [])) (k _ _ i j less (same_listed a d b e x y) (marked (32 ∷ []) p)))
  rest_object_same f f' k _ _ i j less (just _ _ (same_vector xs ys x)) p =
      from_front p.page.text _ _ _ (begins_more p.page.text (32 ∷ 46 ∷ 32 ∷ [])) (and_then_same (marked (32 ∷ 46 ∷ 32 ∷ []) p).page.text _ _ _ _ (vector_same n f f' k xs ys i j less x (marked (32 ∷ 46 ∷ 32 ∷ []) p)) (λ p. marked_steps (41 ∷ []) p))

  rest_same : (f f' : Printer) → Prints E n f f' → (v w : Value) (i j : ℕ) → (i < j → E) → SameValue n v w → SameSteps E (rest_printed g f v i) (rest_printed h f' w j)
  rest_same f f' k _ _ i j less (same_ref r q x) p = rest_object_same f f' k _ _ i j less (s.store.is r q x) p
  rest_same f f' k _ _ i j less (same_int x) p = dotted_same (Int x) (Int x) (same_int x) p
  rest_same f f' k _ _ i j less (same_str x) p = dotted_same (Str x) (Str x) (same_str x) p
  rest_same f f' k _ _ i j less (same_fun r q place x) p = dotted_same (Fun r place) (Fun q place) (same_fun r q place x) p
  rest_same f f' k _ _ i j less (same_id x) p = subst (λ y. SameFrom E p.page.text (if x == g.nil then marked (41 ∷ []) p else dotted_atom g (Id x) p) (if x == y then marked (41 ∷ []) p else dotted_atom h (Id x) p)) s.nil (at (x == g.nil))
    where
      at : (b : Bool) → SameFrom E p.page.text (if b then marked (41 ∷ []) p else dotted_atom g (Id x) p) (if b then marked (41 ∷ []) p else dotted_atom h (Id x) p)
      at true = marked_steps (41 ∷ []) p
      at false = dotted_same (Id x) (Id x) (same_id x) p

  job_same : (i : ℕ) → Prints E n (job_printed g i) (job_printed h i)
  job_same zero _ _ i j less x p = same_from p.page.text (record p { ending = NoTurn }) (begins_refl p.page.text)
  job_same (suc o) _ _ i j less (same_element v w x) p = value_same (job_printed g o) (job_printed h o) (job_same o) true v w i j less x p
  job_same (suc o) _ _ i j less (same_listed a d b e x y) p =
      and_then_same p.page.text _ _ (rest_printed g (job_printed g o) d i) (rest_printed h (job_printed h o) e j) (value_same (job_printed g o) (job_printed h o) (job_same o) true a b i j less x p) (λ p. rest_same (job_printed g o) (job_printed h o) (job_same o) d e i j less y p)

  printed_same : (v w : Value) (i j : ℕ) → (i < j → E) → SameValue n v w → SameSteps E (printed g v i) (printed h w j)
  printed_same v w i j less r p = value_same (job_printed g p.turns) (job_printed h p.turns) (job_same p.turns) false v w i j less r p

-- ---- the text of an error

abbrev SameElements : Type 0 → Names → Elements → Elements → Type 0
SameElements E n f g = (a b d e : Value) (i j : ℕ) → (i < j → E) → SameValue n a b → SameValue n d e → SameSteps E (f a d i) (g b e j)

module _ {E : Type 0} (n : Names) (g h : Setting) (s : SameSetting n g h) where
  dot_same : (v w : Value) → SameValue n v w → SameSteps E (dotted_message g v) (dotted_message h w)
  dot_same v w r p = from_front p.page.text _ _ _ (begins_more p.page.text (32 ∷ 46 ∷ 32 ∷ [])) (atom_same n g h s v w r (marked (32 ∷ 46 ∷ 32 ∷ []) p))

  message_object_rest : (f f' : Elements) → SameElements E n f f' → (o q : Option Object) (i j : ℕ) → (i < j → E) → Maybe (SameObject n) o q → SameSteps E (printing.rest_of_object g f o i) (printing.rest_of_object h f' q j)
  message_object_rest f f' k _ _ i j less nothing p = same_from p.page.text p (begins_refl p.page.text)
  message_object_rest f f' k _ _ i j less (just _ _ (same_pair a d b e x y)) p =
      with_turn_same p _ _ (λ p. from_front p.page.text _ _ _ (begins_more p.page.text (32 ∷ [])) (k a b d e i j less x y (marked (32 ∷ []) p)))
  message_object_rest f f' k _ _ i j less (just _ _ (same_vector xs ys x)) p =
      from_front p.page.text _ _ _ (begins_more p.page.text (32 ∷ 46 ∷ 32 ∷ [])) (vector_same n (job_printed g (suc p.turns)) (job_printed h (suc p.turns)) (job_same n g h s (suc p.turns)) xs ys i j less x (marked (32 ∷ 46 ∷ 32 ∷ []) p))

  message_rest_same : (f f' : Elements) → SameElements E n f f' → (v w : Value) (i j : ℕ) → (i < j → E) → SameValue n v w → SameSteps E (message_rest g f v i) (message_rest h f' w j)
  message_rest_same f f' k _ _ i j less (same_ref r q x) p = message_object_rest f f' k _ _ i j less (s.store.is r q x) p
  message_rest_same f f' k _ _ i j less (same_int x) p = dot_same (Int x) (Int x) (same_int x) p
  message_rest_same f f' k _ _ i j less (same_str x) p = dot_same (Str x) (Str x) (same_str x) p
  message_rest_same f f' k _ _ i j less (same_fun r q place x) p = dot_same (Fun r place) (Fun q place) (same_fun r q place x) p
  message_rest_same f f' k _ _ i j less (same_id x) p = subst (λ y. SameFrom E p.page.text (if x == g.nil then p else dotted_message g (Id x) p) (if x == y then p else dotted_message h (Id x) p)) s.nil (at (x == g.nil))
    where
      at : (b : Bool) → SameFrom E p.page.text (if b then p else dotted_message g (Id x) p) (if b then p else dotted_message h (Id x) p)
      at true = same_from p.page.text p (begins_refl p.page.text)
      at false = dot_same (Id x) (Id x) (same_id x) p

  elements_same : (o : ℕ) → SameElements E n (elements_within g o) (elements_within h o)
  elements_same zero a b d e i j less x y p = same_from p.page.text (record p { ending = NoTurn }) (begins_refl p.page.text)
  elements_same (suc o) a b d e i j less x y p =
      and_then_same p.page.text _ _ (message_rest g (elements_within g o) d i) (message_rest h (elements_within h o) e j) (value_same n g h s (job_printed g (suc p.turns)) (job_printed h (suc p.turns)) (job_same n g h s (suc p.turns)) true a b i j less x p) (λ p.
      message_rest_same (elements_within g o) (elements_within h o) (elements_same o) d e i j less y p)

  message_same : (v w : Value) (i j : ℕ) → (i < j → E) → SameValue n v w → SameSteps E (message_printed g v i) (message_printed h w j)
  message_same _ _ i j less (same_ref r q x) p = at _ _ (s.store.is r q x)
    where
      at : (o o' : Option Object) → Maybe (SameObject n) o o' → SameFrom E p.page.text (message_object g (Ref r) o i p) (message_object h (Ref q) o' j p)
      at _ _ nothing = printed_same n g h s (Ref r) (Ref q) i j less (same_ref r q x) p
      at _ _ (just _ _ (same_vector xs ys z)) = printed_same n g h s (Ref r) (Ref q) i j less (same_ref r q x) p
      at _ _ (just _ _ (same_pair a d b e y z)) = with_turn_same p _ _ (λ p. elements_same (suc p.turns) a b d e i j less y z p)
  message_same _ _ i j less (same_int x) p = printed_same n g h s _ _ i j less (same_int x) p
  message_same _ _ i j less (same_id x) p = printed_same n g h s _ _ i j less (same_id x) p
  message_same _ _ i j less (same_str x) p = printed_same n g h s _ _ i j less (same_str x) p
  message_same _ _ i j less (same_fun r q place x) p = printed_same n g h s _ _ i j less (same_fun r q place x) p

-- ---- in a state

module _ {bounds : Bounds} where
  setting_same : (style : Style) (n : Names) (ps : List EntryPlace) (s t : State) → Like bounds n ps s t → SameSetting n (setting_in style s) (setting_in style t)
  setting_same style n ps s t l = record { style = refl; names = names_same n ps s t l; nil = refl; store = l.store; line_length = λ k. (l.outside k).line_length }

  progress_one : (n : Names) (ps : List EntryPlace) (s t : State) → Like bounds n ps s t → progress_in s ≡ progress_in t
  progress_one n ps s t l = λ k. record { page = record { text = (l.outside k).output; column = (l.outside k).column }; turns = left_same n ps s t l k; ending = Whole }

  page_like : (n : Names) (ps : List EntryPlace) (page : Page) (s t : State) → Like bounds n ps s t → Like bounds n ps (with_page page s) (with_page page t)
  page_like n ps page s t l = record { store = l.store; functions = l.functions; symbols = l.symbols; bindings = l.bindings; counts = l.counts; outside = λ k. record (l.outside k) { output = page.text; column = page.column }; gensyms = l.gensyms; compilation = l.compilation }

  taken_like : (n : Names) (ps : List EntryPlace) (turns : ℕ) (o p : Option Expansion) (s t : State) → SameExpansion o p → s.counts.expansion ≡ o → t.counts.expansion ≡ p → Like bounds n ps s t → Like bounds n ps (turns_taken o turns s) (turns_taken p turns t)
  taken_like n ps turns _ _ s t same_none e f l = with_counts_like n ps s t _ _ (record { given = l.counts.given; turns = refl; cells = l.counts.cells; expansion = l.counts.expansion }) l
  taken_like n ps turns _ _ s t (same_open x) e f l = with_counts_like n ps s t _ _ (record { given = l.counts.given; turns = l.counts.turns; cells = l.counts.cells; expansion = same_open _ }) l

notes_kept : (o : Option Expansion) (turns : ℕ) (s : State) → (turns_taken o turns s).outside.notes ≡ s.outside.notes
notes_kept None turns s = refl
notes_kept (Some e) turns s = refl

-- the state in which a printing ends
abbrev state_after : Progress → State → State
state_after p s = with_page p.page (turns_taken s.counts.expansion p.turns s)

-- more is to be seen of the second state
abbrev Shows : State → State → Type 0
Shows s t = HasShown s.outside.output s.outside.notes t.outside

shows_trans : (s t u : State) → Shows s t → Shows t u → Shows s u
shows_trans s t u h k = record { output = begins_trans _ _ _ h.output k.output; notes = begins_trans _ _ _ h.notes k.notes }

front_shown : (p q : Progress) (s t : State) → s.outside.notes ≡ t.outside.notes → IsBegunBy p.page.text q.page.text → Shows (state_after p s) (state_after q t)
front_shown p q s t e b = record {
  output = b;
  notes = record { rest = []; is = notes_kept t.counts.expansion q.turns t ∙ sym e ∙ sym (notes_kept s.counts.expansion p.turns s) ∙ sym (append-nil _) };
}

-- a printing, and what is done behind it
abbrev behind : {A : Type 0} → (State → State) → A → Outcome (Unit {0}) → Outcome A
behind act x o = then_do o (λ done s. Done x (act s))

ended_shown : {A : Type 0} (act : State → State) (x : A) (e : Ending) (s : State) → ((s : State) → Shows s (act s)) → Shows s (state_of (behind act x (ended_printing e s)))
ended_shown act x Whole s adds = adds s
ended_shown act x NoTurn s adds = record { output = begins_refl _; notes = begins_refl _ }
ended_shown act x TooDeep s adds = record { output = begins_refl _; notes = begins_refl _ }

-- where what is done adds to what is to be seen
module _ {bounds : Bounds} {A : Type 0} (R : Names → A → A → Type 0) (n : Names) (ps : List EntryPlace) (a b : A) (act : State → State) (r : R n a b) (keeps : (s t : State) → Like bounds n ps s t → Like bounds n ps (act s) (act t)) (adds : (s : State) → Shows s (act s)) where
  same_ended : (e : Ending) (s t : State) → (e ≡ TooDeep → bounds.levels ≡ true) → Like bounds n ps s t → Related bounds (Parted bounds) R n ps (behind act a (ended_printing e s)) (behind act b (ended_printing e t))
  same_ended Whole s t has l = done n a b (act s) (act t) (grows_refl n) r (keeps s t l)
  same_ended TooDeep s t has l = stopped Depth s t (record { outside = l.outside; turns = l.counts.turns; may = has refl })
  same_ended NoTurn s t has l = subst (λ why. Related bounds (Parted bounds) R n ps (Stopped (last_stop s.counts.expansion) s) (Stopped why t)) (at _ _ l.counts.expansion) (stopped _ s t (record { outside = l.outside; turns = l.counts.turns; may = may s.counts.expansion }))
    where
      at : (o p : Option Expansion) → SameExpansion o p → last_stop o ≡ last_stop p
      at _ _ same_none = refl
      at _ _ (same_open x) = refl

      may : (o : Option Expansion) → MayStop bounds (last_stop o)
      may None = tt
      may (Some x) = tt

  behind_related : {E : Type 0} (p q : Progress) (s t : State) → (E → p.ending ≡ TooDeep → bounds.levels ≡ false) → (q.ending ≡ TooDeep → bounds.levels ≡ true) → SameProgress E p q → Like bounds n ps s t → Related bounds (Parted bounds) R n ps (behind act a (after_printing p s)) (behind act b (after_printing q t))
  behind_related _ _ s t lacks has (same_progress p) l = same_ended p.ending _ _ has (page_like n ps p.page _ _ (taken_like n ps p.turns _ _ s t l.counts.expansion refl refl l))
  behind_related p q s t lacks has (right_deep _ _ e h) l =
      subst (λ x. Related bounds (Parted bounds) R n ps (behind act a (after_printing p s)) (behind act b (ended_printing x (state_after q t)))) (sym e)
      (parted _ _ (right_short _ Depth (state_after q t) (meets_levels (has e)) (shows_trans (state_after q t) (state_after p s) (state_of (behind act a (after_printing p s))) (front_shown q p t s (λ k. (sym l.outside k).notes) h) (ended_shown act a p.ending (state_after p s) adds))))
  behind_related p q s t lacks has (left_deep _ _ w e h) l =
      subst (λ x. Related bounds (Parted bounds) R n ps (behind act a (ended_printing x (state_after p s))) (behind act b (after_printing q t))) (sym e)
      (parted _ _ (left_short Depth (state_after p s) _ (lacks_levels (lacks w e)) (shows_trans (state_after p s) (state_after q t) (state_of (behind act b (after_printing q t))) (front_shown p q s t (λ k. (l.outside k).notes) h) (ended_shown act b q.ending (state_after q t) adds))))

  -- the left printing has fewer levels than the right one only where it has a bound and the right run has none, or where it has none itself and so more levels than it needs
  abbrev HasFewer : Levels → Type 0
  HasFewer l = (l ≡ None) ⊎ (bounds.levels ≡ false)

  fewer : (n : Names) (ps : List EntryPlace) (l m : Levels) (s t : State) → Roomier bounds l m → Like bounds n ps s t → levels_in l s < levels_in m t → HasFewer l
  fewer n ps None m s t r e le = inl refl
  fewer n ps (Some l) None s t r e le = inr (sym r.bound)
  fewer n ps (Some l) (Some m) s t r e le = let ge : m ≤ l = r.is in absurd (omega (arith, le, ge))

  value_lacks : (style : Style) (l : Levels) (v : Value) (s : State) → HasFewer l → (printed (setting_in style s) v (levels_in l s) (progress_in s)).ending ≡ TooDeep → bounds.levels ≡ false
  value_lacks style l v s (inr e) d = e
  value_lacks style None v s (inl e) d = absurd (printed_not_deep (setting_in style s) v (page_of s) (turns_left s) d)
  value_lacks style (Some l) v s (inl e) d = absurd (let x : Some l ≡ None = e in cc)

  message_lacks : (l : Levels) (v : Value) (s : State) → HasFewer l → (message_printed (setting_in Prin2 s) v (levels_in l s) (progress_in s)).ending ≡ TooDeep → bounds.levels ≡ false
  message_lacks l v s (inr e) d = e
  message_lacks None v s (inl e) d = absurd (message_not_deep (setting_in Prin2 s) v (page_of s) (turns_left s) d)
  message_lacks (Some l) v s (inl e) d = absurd (let x : Some l ≡ None = e in cc)

  -- the right printing stops for levels only where the right run has a bound
  value_has : (style : Style) (l m : Levels) (w : Value) (t : State) → Roomier bounds l m → (printed (setting_in style t) w (levels_in m t) (progress_in t)).ending ≡ TooDeep → bounds.levels ≡ true
  value_has style l None w t r d = absurd (printed_not_deep (setting_in style t) w (page_of t) (turns_left t) d)
  value_has style l (Some m) w t r d = sym r.bound

  message_has : (l m : Levels) (w : Value) (t : State) → Roomier bounds l m → (message_printed (setting_in Prin2 t) w (levels_in m t) (progress_in t)).ending ≡ TooDeep → bounds.levels ≡ true
  message_has l None w t r d = absurd (message_not_deep (setting_in Prin2 t) w (page_of t) (turns_left t) d)
  message_has l (Some m) w t r d = sym r.bound

  value_behind : (style : Style) (l m : Levels) (v w : Value) (s t : State) → Roomier bounds l m → SameValue n v w → Like bounds n ps s t → Related bounds (Parted bounds) R n ps (behind act a (print_value style l v s)) (behind act b (print_value style m w t))
  value_behind style l m v w s t r h e =
      behind_related {E = HasFewer l} _ _ _ _ (value_lacks style l v s) (value_has style l m w t r) (subst (λ p. SameProgress (HasFewer l) (printed (setting_in style s) v (levels_in l s) (progress_in s)) (printed (setting_in style t) w (levels_in m t) p)) (progress_one n ps s t e)
      (printed_same n (setting_in style s) (setting_in style t) (setting_same style n ps s t e) v w (levels_in l s) (levels_in m t) (fewer n ps l m s t r e) h (progress_in s)).same) (whole_read_like n ps v w s t e)

  message_behind : (l m : Levels) (v w : Value) (s t : State) → Roomier bounds l m → SameValue n v w → Like bounds n ps s t → Related bounds (Parted bounds) R n ps (behind act a (print_message l v s)) (behind act b (print_message m w t))
  message_behind l m v w s t r h e =
      behind_related {E = HasFewer l} _ _ _ _ (message_lacks l v s) (message_has l m w t r) (subst (λ p. SameProgress (HasFewer l) (message_printed (setting_in Prin2 s) v (levels_in l s) (progress_in s)) (message_printed (setting_in Prin2 t) w (levels_in m t) p)) (progress_one n ps s t e)
      (message_same n (setting_in Prin2 s) (setting_in Prin2 t) (setting_same Prin2 n ps s t e) v w (levels_in l s) (levels_in m t) (fewer n ps l m s t r e) h (progress_in s)).same) (whole_read_like n ps v w s t e)

module _ {bounds : Bounds} where
  pub mark_like : (n : Names) (ps : List EntryPlace) (bytes : List ℕ) (s t : State) → Like bounds n ps s t → Like bounds n ps (print_mark bytes s) (print_mark bytes t)
  mark_like n ps bytes s t l = record { store = l.store; functions = l.functions; symbols = l.symbols; bindings = l.bindings; counts = l.counts; outside = λ k. let page : Page = with_text (record { text = (l.outside k).output; column = (l.outside k).column }) bytes in record (l.outside k) { output = page.text; column = page.column }; gensyms = l.gensyms; compilation = l.compilation }

line_shown : (s : State) → Shows s (print_end_of_line s)
line_shown s = record { output = begins_more s.outside.output (10 ∷ []); notes = begins_refl s.outside.notes }

module _ {bounds : Bounds} where
  pub fresh_like : (n : Names) (ps : List EntryPlace) (s t : State) → Like bounds n ps s t → Like bounds n ps (fresh_line s) (fresh_line t)
  fresh_like n ps s t l = at (s.outside.column == 0) (t.outside.column == 0) (λ k. (l.outside k).column == 0)
    where
      at : (b c : Bool) → b ≡ c → Like bounds n ps (if b then s else print_end_of_line s) (if c then t else print_end_of_line t)
      at true true e = l
      at false false e = mark_like n ps _ s t l
      at true false e = absurd (cc)
      at false true e = absurd (cc)

  -- ---- natives, and the text of an error

  pub printing_related : (style : Style) (n : Names) (ps : List EntryPlace) (l m : Levels) (v w : Value) (s t : State) → Roomier bounds l m → SameValue n v w → Like bounds n ps s t → Related bounds (Parted bounds) SameValue n ps (printing.printing style l v s) (printing.printing style m w t)
  printing_related style n ps l m v w s t r h e =
      value_behind SameValue n ps v w (λ s. s) h (λ s t l. l) (λ s. record { output = begins_refl s.outside.output; notes = begins_refl s.outside.notes }) style l m v w s t r h e

  pub print_related : (n : Names) (ps : List EntryPlace) (l m : Levels) (v w : Value) (s t : State) → Roomier bounds l m → SameValue n v w → Like bounds n ps s t → Related bounds (Parted bounds) SameValue n ps (print l v s) (print m w t)
  print_related n ps l m v w s t r h e = value_behind SameValue n ps v w (λ s. print_end_of_line s) h (λ s t l. mark_like n ps (10 ∷ []) s t l) line_shown Prin1 l m v w s t r h e

  pub print_error_related : (n : Names) (ps : List EntryPlace) (l m : Levels) (v w : Value) (s t : State) → Roomier bounds l m → SameValue n v w → Like bounds n ps s t → Related bounds {A = Unit {0}} (Parted bounds) Is n ps (print_error l v s) (print_error m w t)
  print_error_related n ps l m v w s t r h e =
      message_behind {A = Unit {0}} Is n ps tt tt (λ s. print_end_of_line s) (is tt) (λ s t l. mark_like n ps (10 ∷ []) s t l) line_shown l m v w _ _ r h (mark_like n ps (codes "***** ") _ _ (fresh_like n ps s t e))

  -- ---- notes

  pub note_like : (n : Names) (ps : List EntryPlace) (line : List ℕ) (s t : State) → Like bounds n ps s t → Like bounds n ps (printing.note line s) (printing.note line t)
  note_like n ps line s t l = record { store = l.store; functions = l.functions; symbols = l.symbols; bindings = l.bindings; counts = l.counts; outside = λ k. record (l.outside k) { notes = (l.outside k).notes ++ (line ++ 10 ∷ []) }; gensyms = l.gensyms; compilation = l.compilation }
