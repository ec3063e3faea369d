-- Where nesting has no bound, no printing ends for lack of a level: it has more levels than turns, and each level stands behind a turn.
use Rattle.std.proofs.Common.{◌≡◌, ◌≤◌, ◌+◌, ◌==◌, ℕ, zero, suc, Bool, true, false, if◌then◌else◌, List, [], ◌∷◌, slice_get, Option, Some, None, arith}
use Rattle.rl_tree.specs.Value.{Value, Int, Id, Str, Ref, Fun, Object}
use Rattle.rl_tree.specs.Value as object
use Rattle.rl_tree.specs.Printing.{Page, Setting, Progress, Whole, NoTurn, TooDeep, PrintingJob, Element, Listed, Printer, marked, and_then, with_turn, with_level, places_printed, vector_printed, object_printed, value_printed, rest_object, rest_printed, job_printed, printed}
use Rattle.rl_meaning.specs.Printing.{Elements, message_rest, elements_within, message_object, message_printed}
use Rattle.rl_meaning.specs.Printing as text

-- ---- how far a printing came

abbrev at : Page → ℕ → Progress
at page t = record { page = page; turns = t; ending = Whole }

-- no more turns than these are left, and no level was wanting
data Within (n : ℕ) : Progress → Type 0 where
  whole : (page : Page) (t : ℕ) → t ≤ n → Within n (at page t)
  no_turn : (page : Page) (t : ℕ) → Within n (record { page = page; turns = t; ending = NoTurn })

-- so many levels more than turns
record Deep (k n l : ℕ) : Type 0 where
  pub is : n + k ≤ l

deep_less : (k j n i l : ℕ) → j + i ≤ k + n → Deep k n l → Deep j i l
deep_less k j n i l le h = let x : n + k ≤ l = h.is in record { is = omega (arith, x, le) }

-- the levels above the turns that an element needs
abbrev need : Bool → ℕ → ℕ
need true k = suc k
need false k = k

more_within : (m n : ℕ) (p : Progress) → m ≤ n → Within m p → Within n p
more_within m n p le (whole page t k) = whole page t (omega (arith, le, k))
more_within m n p le (no_turn page t) = no_turn page t

then_within : (n : ℕ) (p : Progress) (f : Progress → Progress) → Within n p → ((page : Page) (t : ℕ) → t ≤ n → Within n (f (at page t))) → Within n (and_then p f)
then_within n p f (whole page t k) next = next page t k
then_within n p f (no_turn page t) next = no_turn page t

turn_within : (n : ℕ) (page : Page) (t : ℕ) → t ≤ n → (f : Progress → Progress) → ((t : ℕ) → suc t ≤ n → Within t (f (at page t))) → Within n (with_turn (at page t) f)
turn_within n page zero k f next = no_turn page zero
turn_within n page (suc t) k f next = more_within t n _ (omega (arith, k)) (next t k)

level_within : (b : Bool) (k n l : ℕ) (page : Page) (t : ℕ) (f : ℕ → Progress → Progress) → Deep (need b k) n l → ((l : ℕ) → Deep k n l → Within n (f l (at page t))) → Within n (with_level b l (at page t) f)
level_within false k n l page t f h next = next l h
level_within true k n zero page t f h next = let x : n + suc k ≤ zero = h.is in absurd (omega (arith, x))
level_within true k n (suc l) page t f h next = let x : n + suc k ≤ suc l = h.is in next l (record { is = omega (arith, x) })

if_within : (b : Bool) (n : ℕ) (p q : Progress) → Within n p → Within n q → Within n (if b then p else q)
if_within true n p q h k = h
if_within false n p q h k = k

-- ---- values

abbrev Jobs : Printer → Type 0
Jobs f = (j : PrintingJob) (n l : ℕ) → Deep 2 n l → (page : Page) (t : ℕ) → t ≤ n → Within n (f j l (at page t))

module _ (f : Printer) (jobs : Jobs f) where
  places_within : (first : Bool) (xs : List Value) (n l : ℕ) → Deep 1 n l → (page : Page) (t : ℕ) → t ≤ n → Within n (places_printed f first xs l (at page t))
  places_within first [] n l deep page t k = whole _ t k
  places_within first (x ∷ xs) n l deep page t k =
      turn_within n page t k _ (λ t k. then_within t _ _ (begun first t (deep_less 1 2 n t l (omega (arith, k)) deep))
      (λ page v e. places_within false xs t l (deep_less 1 1 n t l (omega (arith, k)) deep) page v e))
    where
      begun : (first : Bool) (t : ℕ) → Deep 2 t l → Within t (f (Element x) l (if first then record { page = page; turns = t; ending = Whole } else marked (32 ∷ []) (record { page = page; turns = t; ending = Whole })))
      begun true t deep = jobs (Element x) t l deep page t (omega arith)
      begun false t deep = jobs (Element x) t l deep _ t (omega arith)

  vector_within : (xs : List Value) (n l : ℕ) → Deep 1 n l → (page : Page) (t : ℕ) → t ≤ n → Within n (vector_printed f xs l (at page t))
  vector_within xs n l deep page t k = places_within true xs n l deep _ t k

  object_within : (inner : Bool) (o : Option Object) (n l : ℕ) → Deep (need inner 1) n l → (page : Page) (t : ℕ) → t ≤ n → Within n (object_printed f inner o l (at page t))
  object_within inner None n l deep page t k = whole page t k
  object_within inner (Some (object.Pair a e)) n l deep page t k =
      turn_within n page t k _ (λ t k. level_within inner 2 t l page t _ (after inner n t k deep) (λ l deep. jobs (Listed a e) t l deep _ t (omega arith)))
    where
      after : (inner : Bool) (n t : ℕ) → suc t ≤ n → Deep (need inner 1) n l → Deep (need inner 2) t l
      after true n t k deep = deep_less 2 3 n t l (omega (arith, k)) deep
      after false n t k deep = deep_less 1 2 n t l (omega (arith, k)) deep
  object_within inner (Some (object.Vector xs)) n l deep page t k = level_within inner 1 n l page t _ deep (λ l deep. vector_within xs n l deep page t k)

  value_within : (s : Setting) (inner : Bool) (v : Value) (n l : ℕ) → Deep (need inner 1) n l → (page : Page) (t : ℕ) → t ≤ n → Within n (value_printed s f inner v l (at page t))
  value_within s inner (Ref r) n l deep page t k = object_within inner (slice_get s.store r) n l deep page t k
  value_within s inner (Int z) n l deep page t k = whole _ t k
  value_within s inner (Id i) n l deep page t k = whole _ t k
  value_within s inner (Str bytes) n l deep page t k = whole _ t k
  value_within s inner (Fun e place) n l deep page t k = whole _ t k

  rest_object_within : (o : Option Object) (n l : ℕ) → Deep 2 n l → (page : Page) (t : ℕ) → t ≤ n → Within n (rest_object f o l (at page t))
  rest_object_within None n l deep page t k = whole page t k
  rest_object_within (Some (object.Pair a e)) n l deep page t k =
      turn_within n page t k _ (λ t k. jobs (Listed a e) t l (deep_less 2 2 n t l (omega (arith, k)) deep) _ t (omega arith))
  rest_object_within (Some (object.Vector xs)) n l deep page t k =
      then_within n _ _ (vector_within xs n l (deep_less 2 1 n n l (omega arith) deep) _ t k) (λ page t k. whole _ t k)

  rest_within : (s : Setting) (v : Value) (n l : ℕ) → Deep 2 n l → (page : Page) (t : ℕ) → t ≤ n → Within n (rest_printed s f v l (at page t))
  rest_within s (Ref r) n l deep page t k = rest_object_within (slice_get s.store r) n l deep page t k
  rest_within s (Id i) n l deep page t k = if_within (i == s.nil) n _ _ (whole _ t k) (whole _ t k)
  rest_within s (Int z) n l deep page t k = whole _ t k
  rest_within s (Str bytes) n l deep page t k = whole _ t k
  rest_within s (Fun e place) n l deep page t k = whole _ t k

job_within : (s : Setting) (i : ℕ) → Jobs (job_printed s i)
job_within s zero x n l deep page t k = no_turn page t
job_within s (suc i) (Element v) n l deep page t k = value_within (job_printed s i) (job_within s i) s true v n l deep page t k
job_within s (suc i) (Listed a e) n l deep page t k =
    then_within n (value_printed s (job_printed s i) true a l (at page t)) (rest_printed s (job_printed s i) e l) (value_within (job_printed s i) (job_within s i) s true a n l deep page t k)
    (λ page t k. rest_within (job_printed s i) (job_within s i) s e n l deep page t k)

printed_within : (s : Setting) (v : Value) (n l : ℕ) → Deep 1 n l → (page : Page) (t : ℕ) → t ≤ n → Within n (printed s v l (at page t))
printed_within s v n l deep page t k = value_within (job_printed s t) (job_within s t) s false v n l deep page t k

-- ---- messages

abbrev Parts : Elements → Type 0
Parts f = (a e : Value) (n l : ℕ) → Deep 2 n l → (page : Page) (t : ℕ) → t ≤ n → Within n (f a e l (at page t))

message_object_rest : (s : Setting) (f : Elements) → Parts f → (o : Option Object) (n l : ℕ) → Deep 2 n l → (page : Page) (t : ℕ) → t ≤ n → Within n (text.rest_of_object s f o l (at page t))
message_object_rest s f parts (Some (object.Pair a e)) n l deep page t k = turn_within n page t k _ (λ t k. parts a e t l (deep_less 2 2 n t l (omega (arith, k)) deep) _ t (omega arith))
message_object_rest s f parts (Some (object.Vector xs)) n l deep page t k = vector_within (job_printed s (suc t)) (job_within s (suc t)) xs n l (deep_less 2 1 n n l (omega arith) deep) _ t k
message_object_rest s f parts None n l deep page t k = whole page t k

message_rest_within : (s : Setting) (f : Elements) → Parts f → (v : Value) (n l : ℕ) → Deep 2 n l → (page : Page) (t : ℕ) → t ≤ n → Within n (message_rest s f v l (at page t))
message_rest_within s f parts (Ref r) n l deep page t k = message_object_rest s f parts (slice_get s.store r) n l deep page t k
message_rest_within s f parts (Id i) n l deep page t k = if_within (i == s.nil) n _ _ (whole _ t k) (whole _ t k)
message_rest_within s f parts (Int z) n l deep page t k = whole _ t k
message_rest_within s f parts (Str bytes) n l deep page t k = whole _ t k
message_rest_within s f parts (Fun e place) n l deep page t k = whole _ t k

parts_within : (s : Setting) (i : ℕ) → Parts (elements_within s i)
parts_within s zero a e n l deep page t k = no_turn page t
parts_within s (suc i) a e n l deep page t k =
    then_within n (value_printed s (job_printed s (suc t)) true a l (at page t)) (message_rest s (elements_within s i) e l) (value_within (job_printed s (suc t)) (job_within s (suc t)) s true a n l deep page t k)
    (λ page t k. message_rest_within s (elements_within s i) (parts_within s i) e n l deep page t k)

message_object_within : (s : Setting) (v : Value) (o : Option Object) (n l : ℕ) → Deep 1 n l → (page : Page) (t : ℕ) → t ≤ n → Within n (message_object s v o l (at page t))
message_object_within s v (Some (object.Pair a e)) n l deep page t k =
    turn_within n page t k _ (λ t k. parts_within s (suc t) a e t l (deep_less 1 2 n t l (omega (arith, k)) deep) page t (omega arith))
message_object_within s v (Some (object.Vector xs)) n l deep page t k = printed_within s v n l deep page t k
message_object_within s v None n l deep page t k = printed_within s v n l deep page t k

message_within : (s : Setting) (v : Value) (n l : ℕ) → Deep 1 n l → (page : Page) (t : ℕ) → t ≤ n → Within n (message_printed s v l (at page t))
message_within s (Ref r) n l deep page t k = message_object_within s (Ref r) (slice_get s.store r) n l deep page t k
message_within s (Int z) n l deep page t k = printed_within s (Int z) n l deep page t k
message_within s (Id i) n l deep page t k = printed_within s (Id i) n l deep page t k
message_within s (Str bytes) n l deep page t k = printed_within s (Str bytes) n l deep page t k
message_within s (Fun e place) n l deep page t k = printed_within s (Fun e place) n l deep page t k

-- ---- so no level is wanting

not_deep : (n : ℕ) (p : Progress) → Within n p → p.ending ≡ TooDeep → ⊥
not_deep n p (whole page t k) e = let x : Whole ≡ TooDeep = e in cc
not_deep n p (no_turn page t) e = let x : NoTurn ≡ TooDeep = e in cc

pub printed_not_deep : (s : Setting) (v : Value) (page : Page) (t : ℕ) → (printed s v (suc t) (at page t)).ending ≡ TooDeep → ⊥
printed_not_deep s v page t e = not_deep t _ (printed_within s v t (suc t) (record { is = omega arith }) page t (omega arith)) e

pub message_not_deep : (s : Setting) (v : Value) (page : Page) (t : ℕ) → (message_printed s v (suc t) (at page t)).ending ≡ TooDeep → ⊥
message_not_deep s v page t e = not_deep t _ (message_within s v t (suc t) (record { is = omega arith }) page t (omega arith)) e
