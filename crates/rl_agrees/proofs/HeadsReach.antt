-- Reaching comes to its end: all that stands to be followed is reached, since its steps are more than all that can be opened.
use Rattle.std.proofs.Common.{◌≡◌, ◌≤◌, ◌<◌, ◌⊎◌, inl, inr, ◌+◌, ◌*◌, ◌-◌, ◌==◌, ◌&&◌, ◌||◌, if◌then◌else◌, ℕ, zero, suc, Bool, true, false, List, [], ◌∷◌, ◌++◌, length, Option, Some, None, refl, sym, ap, ◌∙◌, subst, arith, length-append}
use Rattle.std.specs.Prelude.{slice_index_or, sum_by, nat_lt, filter_map, flat_map, slice_get}
use Rattle.std.proofs.lemmas.List.{length-map}
use Rattle.std.proofs.lemmas.List.Sums.{get_or-le-sum_by}
use Rattle.std.proofs.lemmas.Bool.{eqb-true, eq-eqb}
use Rattle.std.proofs.lemmas.Bool.Decides.{eqb_tells}
use Rattle.rl_tree.specs.Value.{Store, Id}
use Rattle.rl_meaning.specs.State.{State, Symbol, Tree, Atom, Quoted, Pair, Literal, Kept, Pointer, Definition, Function, SpecialForm, NativeFunction, HeldFunction}
use Rattle.rl_meaning.specs.Symbols.{t_number, nil_value_of_state, nil_number, progn_number, new_symbol, symbol_at}
use Rattle.rl_meaning.specs.Constants.{values_in, size_of, objects_within}
use Rattle.rl_meaning.specs.Holding.{when, function_number, nodes_in, either_part, part_at, body_of, forms_of, function_part, no_function, function_in, function_at}
use Rattle.rl_meaning.specs.Reach.{identifier_in, value_identifiers, tree_mentions, Reached, same_bool, is_reached, all_through, body_mentions, is_opened, opened_names, reach_within, body_size, reach_bound, reach_of}
use Rattle.rl_agrees.proofs.LaterStands.{and_first, and_second}

-- ---- tests

pub or_first : (a b : Bool) → a ≡ true → (a || b) ≡ true
or_first true b h = refl
or_first false b h = absurd (cc)

pub or_second : (a b : Bool) → b ≡ true → (a || b) ≡ true
or_second true b h = refl
or_second false b h = h

pub or_either : (a b : Bool) → (a || b) ≡ true → (a ≡ true) ⊎ (b ≡ true)
or_either true b h = inl refl
or_either false b h = inr h

same_self : (n : ℕ) (through : Bool) → (n == n && same_bool through through) ≡ true
same_self n true = ap (λ (b : Bool). b && true) (eq-eqb n n refl)
same_self n false = ap (λ (b : Bool). b && true) (eq-eqb n n refl)

bool_is : (a b : Bool) → same_bool a b ≡ true → a ≡ b
bool_is true true h = refl
bool_is true false h = absurd (cc)
bool_is false true h = absurd (cc)
bool_is false false h = refl

-- what passes the test is the same
reached_is : (x y : Reached) → (x.name == y.name && same_bool x.through y.through) ≡ true → x ≡ y
reached_is x y h =
    let e : x.name ≡ y.name = eqb-true x.name y.name (and_first _ _ h) in
    let k : x.through ≡ y.through = bool_is x.through y.through (and_second (x.name == y.name) _ h) in
    λ i. record { name = e i; through = k i }

pub reached_self : (x : Reached) (xs : List Reached) → is_reached x (x ∷ xs) ≡ true
reached_self x xs = or_first _ _ (same_self x.name x.through)

pub reached_behind : (x : Reached) (xs ys : List Reached) → is_reached x ys ≡ true → is_reached x (xs ++ ys) ≡ true
reached_behind x [] ys h = h
reached_behind x (y ∷ xs) ys h = or_second _ _ (reached_behind x xs ys h)

reached_front : (x : Reached) (xs ys : List Reached) → is_reached x xs ≡ true → is_reached x (xs ++ ys) ≡ true
reached_front x [] ys h = absurd (cc)
reached_front x (y ∷ xs) ys h =
    let b : Bool = x.name == y.name && same_bool x.through y.through in
    elim (or_either b (is_reached x xs) h) [
      | inl same ↦ or_first b (is_reached x (xs ++ ys)) same
      | inr k ↦ or_second b (is_reached x (xs ++ ys)) (reached_front x xs ys k)
    ]

-- ---- what may still be opened

-- so much for each name below a bound, twice, that is not reached yet
abbrev missing : ℕ → Bool → ℕ
missing b true = 0
missing b false = b

abbrev left : ℕ → ℕ → List Reached → ℕ
left b zero seen = 0
left b (suc k) seen = missing b (is_reached (record { name = k; through = true }) seen) + (missing b (is_reached (record { name = k; through = false }) seen) + left b k seen)

missing_or : (b : ℕ) (c d : Bool) → missing b (c || d) ≤ missing b d
missing_or b true d = omega arith
missing_or b false d = omega arith

left_more : (b k : ℕ) (x : Reached) (seen : List Reached) → left b k (x ∷ seen) ≤ left b k seen
left_more b zero x seen = omega arith
left_more b (suc k) x seen = omega (arith, missing_or b (k == x.name && same_bool true x.through) (is_reached (record { name = k; through = true }) seen), missing_or b (k == x.name && same_bool false x.through) (is_reached (record { name = k; through = false }) seen), left_more b k x seen)

-- a name that was not reached leaves less to open
left_less_here : (b k : ℕ) (through : Bool) (seen : List Reached) → is_reached (record { name = k; through = through }) seen ≡ false → left b (suc k) (record { name = k; through = through } ∷ seen) + b ≤ left b (suc k) seen
left_less_here b k true seen h =
    let x : Reached = record { name = k; through = true } in
    omega (arith, ap (missing b) h, ap (missing b) (reached_self x seen), missing_or b (k == k && same_bool false true) (is_reached (record { name = k; through = false }) seen), left_more b k x seen)
left_less_here b k false seen h =
    let x : Reached = record { name = k; through = false } in
    omega (arith, ap (missing b) h, ap (missing b) (reached_self x seen), missing_or b (k == k && same_bool true false) (is_reached (record { name = k; through = true }) seen), left_more b k x seen)

left_less : (b k : ℕ) (x : Reached) (seen : List Reached) → is_reached x seen ≡ false → x.name < k → left b k (x ∷ seen) + b ≤ left b k seen
left_less b zero x seen h lt = absurd (omega (arith, lt))
left_less b (suc k) x seen h lt = elim (eqb_tells x.name k) [
  | inl same ↦ at (λ i. record { name = same.1 i; through = x.through })
  | inr other ↦ omega (arith, missing_or b (k == x.name && same_bool true x.through) (is_reached (record { name = k; through = true }) seen), missing_or b (k == x.name && same_bool false x.through) (is_reached (record { name = k; through = false }) seen), left_less b k x seen h (omega (arith, lt, other.1)))
]
  where
    at : x ≡ (record { name = k; through = x.through }) → left b (suc k) (x ∷ seen) + b ≤ left b (suc k) seen
    at e = subst (λ (y : Reached). left b (suc k) (y ∷ seen) + b ≤ left b (suc k) seen) (sym e) (left_less_here b k x.through seen (ap (λ (y : Reached). is_reached y seen) (sym e) ∙ h))

left_first : (b k : ℕ) → left b k [] ≤ (2 * k + 1) * suc b
left_first b zero = omega arith
left_first b (suc k) = grind (arith, left_first b k)

-- ---- how much a function mentions

none_within : (n : ℕ) (store : Store) (seen : List ℕ) → objects_within n store seen [] ≡ seen
none_within zero store seen = refl
none_within (suc n) store seen = refl

-- an identifier by itself mentions itself
pub alone : (store : Store) (i : ℕ) → value_identifiers store (Id i) ≡ i ∷ []
alone store i = ap (λ (rs : List ℕ). i ∷ filter_map identifier_in (flat_map (λ r. values_in (slice_get store r)) rs)) (none_within (1 + size_of store) store [])

one : (store : Store) (i : ℕ) → length (tree_mentions store (Atom (Id i))) ≡ 1
one store i = ap length (alone store i)

body_of_fits : (store : Store) (t : Tree) → length (tree_mentions store (body_of t)) ≤ suc (length (tree_mentions store t))
body_of_fits store (Pair a (Pair b d)) = omega (arith, one store progn_number, length-append (tree_mentions store (Atom (Id progn_number))) (tree_mentions store (Pair a (Pair b d))))
body_of_fits store (Pair a end) = omega (arith, length-append (tree_mentions store a) (tree_mentions store end))
body_of_fits store t = omega (arith, one store nil_number)

-- the function of a FUNCTION form mentions no more than that form
body_fits : (store : Store) (e : Tree) → length (tree_mentions store (body_of (forms_of e))) ≤ suc (length (tree_mentions store e))
body_fits store (Pair l (Pair parameters forms)) = omega (arith, body_of_fits store forms, length-append (tree_mentions store l) (tree_mentions store (Pair parameters forms)), length-append (tree_mentions store parameters) (tree_mentions store forms))
body_fits store e = omega (arith, one store nil_number)

abbrev Fits : Store → ℕ → Option Tree → Type 0
Fits store n None = Unit {0}
Fits store n (Some t) = length (tree_mentions store t) ≤ n

either_fits : (store : Store) (n : ℕ) (b : Bool) (o p : Option Tree) → Fits store n o → Fits store n p → Fits store n (either_part b o p)
either_fits store n true o p h k = h
either_fits store n false o p h k = k

fits_more : (store : Store) (m n : ℕ) (o : Option Tree) → m ≤ n → Fits store m o → Fits store n o
fits_more store m n None le h = tt
fits_more store m n (Some t) le h = omega (arith, le, h)

when_fits : (store : Store) (n : ℕ) (b : Bool) → 1 ≤ n → Fits store n (when b (Atom nil_value_of_state))
when_fits store n true h = omega (arith, h, one store nil_number)
when_fits store n false h = tt

-- a part mentions no more than the whole
part_fits : (store : Store) (i : ℕ) (t : Tree) → Fits store (length (tree_mentions store t)) (part_at i t)
part_fits store zero t = omega arith
part_fits store (suc i) (Pair a d) =
    let n : ℕ = length (tree_mentions store (Pair a d)) in
    let long = length-append (tree_mentions store a) (tree_mentions store d) in
    either_fits store n (nat_lt i (nodes_in a)) _ _ (fits_more store _ n _ (omega (arith, long)) (part_fits store i a)) (fits_more store _ n _ (omega (arith, long)) (part_fits store (i - nodes_in a) d))
part_fits store (suc zero) (Literal m e) = omega (arith, one store function_number)
part_fits store (suc (suc zero)) (Literal m e) = omega (arith, one store nil_number, length-append (tree_mentions store e) (tree_mentions store (Atom nil_value_of_state)))
part_fits store (suc (suc (suc i))) (Literal m e) =
    let n : ℕ = suc (length (tree_mentions store e)) in
    either_fits store n (nat_lt i (nodes_in e)) _ _ (fits_more store _ n _ (omega arith) (part_fits store i e)) (when_fits store n (i == nodes_in e) (omega arith))
part_fits store (suc i) (Atom v) = tt
part_fits store (suc i) (Quoted v) = tt

function_part_fits : (s : State) (kept : List Kept) (n : ℕ) (o : Option Tree) → Fits s.store n o → body_size s (function_part kept o) ≤ n
function_part_fits s kept n (Some (Literal m e)) h = omega (arith, h, body_fits s.store e)
function_part_fits s kept n other h = omega arith

function_in_fits : (s : State) (f : Function) (place : ℕ) → body_size s (function_in f place) ≤ body_size s f
function_in_fits s f zero = omega arith
function_in_fits s (HeldFunction held) (suc i) = function_part_fits s held.kept _ (part_at i held.body) (part_fits s.store i held.body)
function_in_fits s (SpecialForm form) (suc i) = omega arith
function_in_fits s (NativeFunction native) (suc i) = omega arith

-- ---- steps enough

abbrev opened_at : State → Reached → List Reached
opened_at s x = opened_names s x (symbol_at s x.name).definition

abbrev size_of_bodies : State → ℕ
size_of_bodies s = sum_by (λ f. body_size s f) s.functions

at_or_beyond : {A : Type 0} (xs : List A) (i : ℕ) (d : A) → (i < length xs) ⊎ (slice_index_or xs i d ≡ d)
at_or_beyond [] i d = inr refl
at_or_beyond (x ∷ xs) zero d = inl (omega arith)
at_or_beyond (x ∷ xs) (suc i) d = elim (at_or_beyond xs i d) [
  | inl lt ↦ inl (omega (arith, lt))
  | inr e ↦ inr e
]

shorter_if : {A : Type 0} (b : Bool) (xs : List A) (n : ℕ) → length xs ≤ n → length (if b then xs else []) ≤ n
shorter_if true xs n h = h
shorter_if false xs n h = omega arith

function_fits : (s : State) (p : Pointer) → body_size s (function_at s p) ≤ size_of_bodies s
function_fits s p =
    let f : Function = slice_index_or s.functions p.function no_function in
    let whole : body_size s (function_at s p) ≤ body_size s f = function_in_fits s f p.place in
    elim (at_or_beyond s.functions p.function no_function) [
      | inl lt ↦ omega (arith, whole, get_or-le-sum_by (λ f. body_size s f) s.functions p.function no_function lt)
      | inr e ↦ omega (arith, whole, ap (λ (f : Function). body_size s f) e)
    ]

opened_fits : (s : State) (x : Reached) (o : Option Definition) → length (opened_names s x o) ≤ size_of_bodies s
opened_fits s x None = omega arith
opened_fits s x (Some d) = shorter_if (is_opened d.kind x.through) (all_through true (body_mentions s (function_at s d.function))) (size_of_bodies s) (omega (arith, length-map (body_mentions s (function_at s d.function)) (λ (i : ℕ). the_reached i), function_fits s d.function))
  where
    the_reached : ℕ → Reached
    the_reached i = record { name = i; through = true }

-- each step leaves less, by what stands to be followed and by what may still be opened
opened_less : (s : State) (x : Reached) (seen pending : List Reached) → is_reached x seen ≡ false → let b = size_of_bodies s in let k = length s.symbols in length (opened_at s x ++ pending) + left b k (x ∷ seen) ≤ length pending + left b k seen
opened_less s x seen pending h = elim (at_or_beyond s.symbols x.name (new_symbol [] false)) [
  | inl lt ↦ omega (arith, length-append (opened_at s x) pending, opened_fits s x (symbol_at s x.name).definition, left_less (size_of_bodies s) (length s.symbols) x seen h lt)
  | inr e ↦ omega (arith, ap (λ (symbol : Symbol). length (opened_names s x symbol.definition ++ pending)) e, left_more (size_of_bodies s) (length s.symbols) x seen)
]

-- ---- what is reached

module _ (s : State) where
  seen_later : (n : ℕ) (seen pending : List Reached) (y : Reached) → is_reached y seen ≡ true → is_reached y (reach_within n s seen pending) ≡ true
  seen_later zero seen pending y h = h
  seen_later (suc n) seen [] y h = h
  seen_later (suc n) seen (x ∷ pending) y h = elim (is_reached x seen) as (λ b. is_reached y (if b then reach_within n s seen pending else reach_within n s (x ∷ seen) (opened_at s x ++ pending)) ≡ true) [
    | true ↦ seen_later n seen pending y h
    | false ↦ seen_later n (x ∷ seen) (opened_at s x ++ pending) y (or_second _ _ h)
  ]

  abbrev Enough : ℕ → List Reached → List Reached → Type 0
  Enough n seen pending = length pending + left (size_of_bodies s) (length s.symbols) seen ≤ n

  first_seen : (n : ℕ) (x y : Reached) (seen pending : List Reached) → (y.name == x.name && same_bool y.through x.through) ≡ true → is_reached x seen ≡ true → is_reached y (reach_within n s seen pending) ≡ true
  first_seen n x y seen pending h k = seen_later n seen pending y (subst (λ (z : Reached). is_reached z seen ≡ true) (sym (reached_is y x h)) k)

  pending_step : (n : ℕ) (x y : Reached) (seen pending : List Reached) (b : Bool) → is_reached x seen ≡ b → ((y.name == x.name && same_bool y.through x.through) ≡ true) ⊎ (is_reached y pending ≡ true)
      → (is_reached y pending ≡ true → is_reached y (reach_within n s seen pending) ≡ true)
      → (is_reached x seen ≡ false → is_reached y pending ≡ true → is_reached y (reach_within n s (x ∷ seen) (opened_at s x ++ pending)) ≡ true)
      → is_reached y (if b then reach_within n s seen pending else reach_within n s (x ∷ seen) (opened_at s x ++ pending)) ≡ true
  pending_step n x y seen pending true e (inl k) old new = first_seen n x y seen pending k e
  pending_step n x y seen pending true e (inr k) old new = old k
  pending_step n x y seen pending false e (inl k) old new = first_seen n x y (x ∷ seen) (opened_at s x ++ pending) k (reached_self x seen)
  pending_step n x y seen pending false e (inr k) old new = new e k

  -- what stands to be followed
  pending_reached : (n : ℕ) (seen pending : List Reached) → Enough n seen pending → (y : Reached) → is_reached y pending ≡ true → is_reached y (reach_within n s seen pending) ≡ true
  pending_reached n seen [] enough y h = absurd (cc)
  pending_reached zero seen (x ∷ pending) enough y h = absurd (omega (arith, enough))
  pending_reached (suc n) seen (x ∷ pending) enough y h =
      pending_step n x y seen pending (is_reached x seen) refl (or_either _ _ h)
      (λ k. pending_reached n seen pending (omega (arith, enough)) y k)
      (λ e k. pending_reached n (x ∷ seen) (opened_at s x ++ pending) (omega (arith, enough, opened_less s x seen pending e)) y (reached_behind y (opened_at s x) pending k))

  -- what the names that were seen open is seen or stands to be followed
  abbrev Within : List Reached → List Reached → Type 0
  Within seen pending = (y z : Reached) → is_reached y seen ≡ true → is_reached z (opened_at s y) ≡ true → (is_reached z seen ≡ true) ⊎ (is_reached z pending ≡ true)

  within_old : (x : Reached) (seen pending : List Reached) → is_reached x seen ≡ true → Within seen (x ∷ pending) → Within seen pending
  within_old x seen pending e w y z h k = elim (w y z h k) [
    | inl a ↦ inl a
    | inr p ↦ elim (or_either _ _ p) [
      | inl same ↦ inl (subst (λ (v : Reached). is_reached v seen ≡ true) (sym (reached_is z x same)) e)
      | inr q ↦ inr q
    ]
  ]

  within_new : (x : Reached) (seen pending : List Reached) → Within seen (x ∷ pending) → Within (x ∷ seen) (opened_at s x ++ pending)
  within_new x seen pending w y z h k = elim (or_either _ _ h) [
    | inl same ↦ inr (reached_front z (opened_at s x) pending (subst (λ (v : Reached). is_reached z (opened_at s v) ≡ true) (reached_is y x same) k))
    | inr old ↦ elim (w y z old k) [
      | inl a ↦ inl (or_second _ _ a)
      | inr p ↦ elim (or_either _ _ p) [
        | inl same ↦ inl (or_first _ _ same)
        | inr q ↦ inr (reached_behind z (opened_at s x) pending q)
      ]
    ]
  ]

  closed_end : (seen : List Reached) (y z : Reached) → Within seen [] → is_reached y seen ≡ true → is_reached z (opened_at s y) ≡ true → is_reached z seen ≡ true
  closed_end seen y z w h k = elim (w y z h k) [
    | inl a ↦ a
    | inr p ↦ absurd (none p)
  ]
    where
      none : false ≡ true → ⊥
      none e = absurd (cc)

  closed_step : (n : ℕ) (x y z : Reached) (seen pending : List Reached) (b : Bool) → is_reached x seen ≡ b
      → (is_reached x seen ≡ true → is_reached y (reach_within n s seen pending) ≡ true → is_reached z (reach_within n s seen pending) ≡ true)
      → (is_reached x seen ≡ false → is_reached y (reach_within n s (x ∷ seen) (opened_at s x ++ pending)) ≡ true → is_reached z (reach_within n s (x ∷ seen) (opened_at s x ++ pending)) ≡ true)
      → is_reached y (if b then reach_within n s seen pending else reach_within n s (x ∷ seen) (opened_at s x ++ pending)) ≡ true
      → is_reached z (if b then reach_within n s seen pending else reach_within n s (x ∷ seen) (opened_at s x ++ pending)) ≡ true
  closed_step n x y z seen pending true e old new h = old e h
  closed_step n x y z seen pending false e old new h = new e h

  -- what the names that are reached open is reached
  closed_reached : (n : ℕ) (seen pending : List Reached) → Enough n seen pending → Within seen pending → (y z : Reached) → is_reached z (opened_at s y) ≡ true → is_reached y (reach_within n s seen pending) ≡ true → is_reached z (reach_within n s seen pending) ≡ true
  closed_reached zero seen [] enough w y z k h = closed_end seen y z w h k
  closed_reached (suc n) seen [] enough w y z k h = closed_end seen y z w h k
  closed_reached zero seen (x ∷ pending) enough w y z k h = absurd (omega (arith, enough))
  closed_reached (suc n) seen (x ∷ pending) enough w y z k h =
      closed_step n x y z seen pending (is_reached x seen) refl
      (λ e h. closed_reached n seen pending (omega (arith, enough)) (within_old x seen pending e w) y z k h)
      (λ e h. closed_reached n (x ∷ seen) (opened_at s x ++ pending) (omega (arith, enough, opened_less s x seen pending e)) (within_new x seen pending w) y z k h)
      h

  -- ---- the reach of a function

  abbrev firsts : Function → List Reached
  firsts f = all_through false (t_number ∷ body_mentions s f)

  bound_enough : (f : Function) → Enough (reach_bound s (length (firsts f))) [] (firsts f)
  bound_enough f = grind (arith, left_first (size_of_bodies s) (length s.symbols))

  pub reach_first : (f : Function) (y : Reached) → is_reached y (all_through false (t_number ∷ body_mentions s f)) ≡ true → is_reached y (reach_of s f) ≡ true
  reach_first f y h = pending_reached (reach_bound s (length (firsts f))) [] (firsts f) (bound_enough f) y h

  pub reach_opened : (f : Function) (y z : Reached) → is_reached y (reach_of s f) ≡ true → is_reached z (opened_names s y (symbol_at s y.name).definition) ≡ true → is_reached z (reach_of s f) ≡ true
  reach_opened f y z h k = closed_reached (reach_bound s (length (firsts f))) [] (firsts f) (bound_enough f) (λ y z h k. absurd (nothing h)) y z k h
    where
      nothing : false ≡ true → ⊥
      nothing e = absurd (cc)
