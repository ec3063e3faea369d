-- Trees, functions and heads of two runs side by side.
use Rattle.std.proofs.Common.{◌≡◌, ◌==◌, ◌&&◌, ◌+◌, ◌-◌, if◌then◌else◌, is_some, ℕ, zero, suc, Bool, true, false, List, [], length, slice_index_or, unwrap_or, Option, Some, None, refl, ap, subst}
use Rattle.std.specs.Prelude.{nat_lt}
use Rattle.std.proofs.lemmas.Option.{unwrap_or-slice_get}
use Rattle.rl_tree.specs.Value.{Value, Id}
use Rattle.rl_tree.specs.declared.held.Kind.{Kind}
use Rattle.rl_tree.specs.declared.held.Kind.TheVariants.{Expr}
use Rattle.rl_meaning.specs.Names.{Special, Quote, Cond, Progn, And, Or, Setq, Prog, Go, Return, List_, Plus, Times, Max, Min, De, Df, Dm}
use Rattle.rl_meaning.specs.Names as names
use Rattle.rl_meaning.specs.State.{State, Tree, Literal, Kept, Pointer, Definition, Symbol, Function, SpecialForm, NativeFunction, HeldFunction}
use Rattle.rl_meaning.specs.Symbols.{nil_number, progn_number, lambda_number}
use Rattle.rl_meaning.specs.Holding.{function_number, in_front, tree_identifiers, when, checked_parameters, is_list_end, is_list, body_of, nodes_in, either_part, part_of_literal, part_at, is_lambda, is_function_form, numbered, numbered_rest, pairs_of, with_identifier, with_identifiers, parameters_of, forms_of, lambda_held, no_function, function_part, function_in, function_at, form_part, form_in, form_at}
use Rattle.rl_meaning.specs.Forms.{Head, Form, Call, Applied, Bad, head_in, head_of, element_count, is_identifier_tree, is_clause, are_clauses, begins_with_identifier, begins_with_identifiers, is_quoted_leaf, fits, lambda_parameters, after_label, unnumbered_tree}
use Rattle.rl_meaning.specs.TwoRunsLinks.{Linked}
use Rattle.rl_meaning.specs.TwoRunsValues.{Names, Maybe, nothing, just, SameValue, same_int, same_id, same_str, same_ref, same_fun, SameTree, same_atom, same_quoted, same_node, same_literal, held_of, same_held, SameFunction, same_special, same_native, same_held_function, SamePointer, same_pointer, SameDefinition, same_definition, SameSymbol, same_symbol}
use Rattle.rl_meaning.specs.TwoRunsStates.{Bounds, EntryPlace, Like}
use Rattle.rl_agrees.proofs.TwoRunsObjects.{nil_same, symbol_same}

-- ---- what is the same of trees

pub list_end_same : (n : Names) (x y : Tree) → SameTree n x y → is_list_end x ≡ is_list_end y
list_end_same n _ _ (same_atom v w r) = nil_same n v w r
list_end_same n _ _ (same_quoted v w r) = refl
list_end_same n _ _ (same_node a d b e h k) = refl
list_end_same n _ _ (same_literal i a b h) = refl

pub list_same : (n : Names) (x y : Tree) → SameTree n x y → is_list x ≡ is_list y
list_same n _ _ (same_atom v w r) = nil_same n v w r
list_same n _ _ (same_quoted v w r) = refl
list_same n _ _ (same_node a d b e h k) = list_same n d e k
list_same n _ _ (same_literal i a b h) = refl

pub count_same : (n : Names) (x y : Tree) → SameTree n x y → element_count x ≡ element_count y
count_same n _ _ (same_atom v w r) = refl
count_same n _ _ (same_quoted v w r) = refl
count_same n _ _ (same_node a d b e h k) = ap suc (count_same n d e k)
count_same n _ _ (same_literal i a b h) = refl

pub identifiers_same : (n : Names) (x y : Tree) → SameTree n x y → tree_identifiers x ≡ tree_identifiers y
identifiers_same n _ _ (same_node _ d _ e (same_atom _ _ (same_id i)) k) = ap (λ o. in_front i o) (identifiers_same n d e k)
identifiers_same n _ _ (same_node _ d _ e (same_atom _ _ r) k) = refl
identifiers_same n _ _ (same_node _ d _ e h k) = refl
identifiers_same n _ _ (same_atom _ _ (same_id i)) = refl
identifiers_same n _ _ (same_atom _ _ r) = refl
identifiers_same n _ _ (same_quoted v w r) = refl
identifiers_same n _ _ (same_literal i a b h) = refl

identifier_same : (n : Names) (x y : Tree) → SameTree n x y → is_identifier_tree x ≡ is_identifier_tree y
identifier_same n _ _ (same_atom _ _ (same_id i)) = refl
identifier_same n _ _ (same_atom _ _ r) = refl
identifier_same n _ _ h = refl

begins_same : (n : Names) (x y : Tree) → SameTree n x y → begins_with_identifier x ≡ begins_with_identifier y
begins_same n _ _ (same_node a d b e h k) = identifier_same n a b h
begins_same n _ _ h = refl

begins_all_same : (n : Names) (x y : Tree) → SameTree n x y → begins_with_identifiers x ≡ begins_with_identifiers y
begins_all_same n _ _ (same_node a d b e h k) = ap (λ o. is_some o) (identifiers_same n a b h)
begins_all_same n _ _ h = refl

clause_same : (n : Names) (x y : Tree) → SameTree n x y → is_clause x ≡ is_clause y
clause_same n _ _ (same_node a d b e h k) = list_same n d e k
clause_same n _ _ h = refl

clauses_same : (n : Names) (x y : Tree) → SameTree n x y → are_clauses x ≡ are_clauses y
clauses_same n _ _ (same_node a d b e h k) = rw (clause_same n a b h, clauses_same n d e k) refl
clauses_same n _ _ (same_atom v w r) = nil_same n v w r
clauses_same n _ _ (same_quoted v w r) = refl
clauses_same n _ _ (same_literal i a b h) = refl

quoted_leaf_same : (n : Names) (x y : Tree) → SameTree n x y → is_quoted_leaf x ≡ is_quoted_leaf y
quoted_leaf_same n _ _ (same_node _ d _ e (same_quoted v w r) k) = list_end_same n d e k
quoted_leaf_same n _ _ (same_node _ d _ e h k) = refl
quoted_leaf_same n _ _ h = refl

pub fits_same : (n : Names) (form : Special) (x y : Tree) → SameTree n x y → fits form x ≡ fits form y
fits_same n Quote x y h = quoted_leaf_same n x y h
fits_same n names.Function x y h = rw (list_same n x y h, count_same n x y h, begins_same n x y h) refl
fits_same n Cond x y h = clauses_same n x y h
fits_same n Progn x y h = list_same n x y h
fits_same n And x y h = list_same n x y h
fits_same n Or x y h = list_same n x y h
fits_same n Setq x y h = rw (list_same n x y h, count_same n x y h, begins_same n x y h) refl
fits_same n Prog x y h = rw (list_same n x y h, begins_all_same n x y h) refl
fits_same n Go x y h = rw (list_same n x y h, count_same n x y h, begins_same n x y h) refl
fits_same n Return x y h = rw (list_same n x y h, count_same n x y h) refl
fits_same n List_ x y h = list_same n x y h
fits_same n Plus x y h = list_same n x y h
fits_same n Times x y h = list_same n x y h
fits_same n Max x y h = rw (list_same n x y h, count_same n x y h) refl
fits_same n Min x y h = rw (list_same n x y h, count_same n x y h) refl
fits_same n De x y h = rw (list_same n x y h, count_same n x y h, begins_same n x y h) refl
fits_same n Df x y h = rw (list_same n x y h, count_same n x y h, begins_same n x y h) refl
fits_same n Dm x y h = rw (list_same n x y h, count_same n x y h, begins_same n x y h) refl

abbrev fitting : Option (List ℕ) → Bool → Bool → ℕ → Option (List ℕ)
fitting o forms args count = elim (checked_parameters Expr o) [ None ↦ None | Some xs ↦ if forms && (args && length xs == count) then Some xs else None ]

pub parameters_same : (n : Names) (x y a b : Tree) → SameTree n x y → SameTree n a b → lambda_parameters x a ≡ lambda_parameters y b
parameters_same n _ _ a b (same_node p f q g h k) r = λ i. fitting (identifiers_same n p q h i) (list_same n f g k i) (list_same n a b r i) (count_same n a b r i)
parameters_same n _ _ a b h r = refl

if_label : (n : Names) (d e : Tree) (b : Bool) (x y : Option Tree) → SameTree n d e → Maybe (SameTree n) x y → Maybe (SameTree n) (if b then Some d else x) (if b then Some e else y)
if_label n d e true x y k h = just d e k
if_label n d e false x y k h = h

pub label_same : (n : Names) (l : ℕ) (x y : Tree) → SameTree n x y → Maybe (SameTree n) (after_label l x) (after_label l y)
label_same n l _ _ (same_node _ d _ e (same_atom _ _ (same_id i)) k) = if_label n d e (i == l) _ _ k (label_same n l d e k)
label_same n l _ _ (same_node _ d _ e (same_atom _ _ r) k) = label_same n l d e k
label_same n l _ _ (same_node _ d _ e h k) = label_same n l d e k
label_same n l _ _ h = nothing

pub pairs_same : (n : Names) (x y : Tree) → SameTree n x y → pairs_of x ≡ pairs_of y
pairs_same n _ _ (same_node a d b e h k) = λ i. 1 + pairs_same n a b h i + pairs_same n d e k i
pairs_same n _ _ (same_literal i a b h) = ap (λ j. 2 + j) (pairs_same n a b h)
pairs_same n _ _ (same_atom v w h) = refl
pairs_same n _ _ (same_quoted v w h) = refl

pub identifiers_in_same : (n : Names) (x y : Tree) → SameTree n x y → (xs ys : List ℕ) → xs ≡ ys → with_identifiers xs x ≡ with_identifiers ys y
identifiers_in_same n _ _ (same_atom _ _ (same_id i)) xs ys e = ap (λ zs. with_identifier zs i) e
identifiers_in_same n _ _ (same_atom _ _ (same_int i)) xs ys e = e
identifiers_in_same n _ _ (same_atom _ _ (same_str i)) xs ys e = e
identifiers_in_same n _ _ (same_atom _ _ (same_ref r q i)) xs ys e = e
identifiers_in_same n _ _ (same_atom _ _ (same_fun f g place i)) xs ys e = e
identifiers_in_same n _ _ (same_quoted v w h) xs ys e = e
identifiers_in_same n _ _ (same_node a d b c h k) xs ys e = identifiers_in_same n d c k _ _ (identifiers_in_same n a b h xs ys e)
identifiers_in_same n _ _ (same_literal i a b h) xs ys e = identifiers_in_same n a b h _ _ (ap (λ zs. with_identifier zs function_number) e)

-- ---- trees that are made of trees

pub body_same : (n : Names) (x y : Tree) → SameTree n x y → SameTree n (body_of x) (body_of y)
body_same n _ _ (same_node _ _ _ _ h (same_node a d b e i j)) = same_node _ _ _ _ (same_atom _ _ (same_id progn_number)) (same_node _ _ _ _ h (same_node a d b e i j))
body_same n _ _ (same_node _ _ _ _ h k) = h
body_same n _ _ h = same_atom _ _ (same_id nil_number)

pub plain_same : (n : Names) (x y : Tree) → SameTree n x y → SameTree n (unnumbered_tree x) (unnumbered_tree y)
plain_same n _ _ (same_node x c y d h k) = same_node _ _ _ _ (plain_same n x y h) (plain_same n c d k)
plain_same n _ _ (same_literal i x y h) = same_node _ _ _ _ (same_atom _ _ (same_id function_number)) (same_node _ _ _ _ (plain_same n x y h) (same_atom _ _ (same_id nil_number)))
plain_same n _ _ (same_atom v w h) = same_atom v w h
plain_same n _ _ (same_quoted v w h) = same_quoted v w h

-- ---- nodes

pub nodes_same : (n : Names) (x y : Tree) → SameTree n x y → nodes_in x ≡ nodes_in y
nodes_same n _ _ (same_atom v w h) = refl
nodes_same n _ _ (same_quoted v w h) = refl
nodes_same n _ _ (same_node a d b e h k) = λ i. suc (nodes_same n a b h i + nodes_same n d e k i)
nodes_same n _ _ (same_literal i a b h) = ap (λ j. 4 + j) (nodes_same n a b h)

either_same : (n : Names) (b c : Bool) (x y v w : Option Tree) → b ≡ c → Maybe (SameTree n) x y → Maybe (SameTree n) v w → Maybe (SameTree n) (either_part b x v) (either_part c y w)
either_same n b c x y v w e h k = subst (λ d. Maybe (SameTree n) (either_part b x v) (either_part d y w)) e (at b)
  where
    at : (b : Bool) → Maybe (SameTree n) (either_part b x v) (either_part b y w)
    at true = h
    at false = k

when_same : (n : Names) (b c : Bool) (x y : Tree) → b ≡ c → SameTree n x y → Maybe (SameTree n) (when b x) (when c y)
when_same n b c x y e h = subst (λ d. Maybe (SameTree n) (when b x) (when d y)) e (at b)
  where
    at : (b : Bool) → Maybe (SameTree n) (when b x) (when b y)
    at true = just x y h
    at false = nothing

-- behind the first pair of a FUNCTION form
literal_part_same : (n : Names) (x y : Tree) → SameTree n x y → ((i : ℕ) → Maybe (SameTree n) (part_at i x) (part_at i y)) → (i : ℕ) → Maybe (SameTree n) (part_of_literal (λ i. part_at i x) i x) (part_of_literal (λ i. part_at i y) i y)
literal_part_same n x y h part zero = just _ _ (same_atom _ _ (same_id function_number))
literal_part_same n x y h part (suc zero) = just _ _ (same_node x _ y _ h (same_atom _ _ (same_id nil_number)))
literal_part_same n x y h part (suc (suc i)) =
    either_same n _ _ _ _ _ _ (ap (λ j. nat_lt i j) (nodes_same n x y h)) (part i) (when_same n _ _ _ _ (ap (λ j. i == j) (nodes_same n x y h)) (same_atom _ _ (same_id nil_number)))

pub part_same : (n : Names) (x y : Tree) → SameTree n x y → (i : ℕ) → Maybe (SameTree n) (part_at i x) (part_at i y)
part_same n x y h zero = just x y h
part_same n _ _ (same_node a d b e h k) (suc i) =
    either_same n _ _ _ _ _ _ (ap (λ j. nat_lt i j) (nodes_same n a b h)) (part_same n a b h i)
    (subst (λ j. Maybe (SameTree n) (part_at (i - nodes_in a) d) (part_at (i - j) e)) (nodes_same n a b h) (part_same n d e k (i - nodes_in a)))
part_same n _ _ (same_literal j a b h) (suc i) = literal_part_same n a b h (λ i. part_same n a b h i) i
part_same n _ _ (same_atom v w h) (suc i) = nothing
part_same n _ _ (same_quoted v w h) (suc i) = nothing

-- ---- numbers of FUNCTION forms

lambda_same : (n : Names) (x y : Tree) → SameTree n x y → is_lambda x ≡ is_lambda y
lambda_same n _ _ (same_node _ _ _ _ (same_atom _ _ (same_id i)) (same_node p f q g h k)) = λ j. (i == lambda_number) && list_same n f g k j && is_some (checked_parameters Expr (identifiers_same n p q h j))
lambda_same n _ _ (same_node _ _ _ _ (same_atom _ _ (same_id i)) k) = refl
lambda_same n _ _ (same_node _ _ _ _ (same_atom _ _ r) k) = refl
lambda_same n _ _ (same_node _ _ _ _ h k) = refl
lambda_same n _ _ h = refl

function_form_same : (n : Names) (x y a b c d : Tree) → SameTree n x y → SameTree n a b → SameTree n c d → is_function_form x a c ≡ is_function_form y b d
function_form_same n _ _ a b c d (same_atom _ _ (same_id i)) k h = λ j. (i == function_number) && list_end_same n c d h j && lambda_same n a b k j
function_form_same n _ _ a b c d (same_atom _ _ r) k h = refl
function_form_same n _ _ a b c d r k h = refl

abbrev one_of : Bool → Tree → Tree → Tree
one_of b x y = elim b as (λ (b : Bool). Tree) [ true ↦ x | false ↦ y ]

one_same : (n : Names) (b c : Bool) (x y v w : Tree) → b ≡ c → SameTree n x y → SameTree n v w → SameTree n (one_of b x v) (one_of c y w)
one_same n b c x y v w e h k = subst (λ d. SameTree n (one_of b x v) (one_of d y w)) e (at b)
  where
    at : (b : Bool) → SameTree n (one_of b x v) (one_of b y w)
    at true = h
    at false = k

mutual
  pub numbered_same : (n : Names) (x y : Tree) → SameTree n x y → (i j : ℕ) → i ≡ j → SameTree n (numbered i x) (numbered j y)
  numbered_same n _ _ (same_node x _ y _ h (same_node e c f d k r)) i j q =
      one_same n _ _ _ _ _ _ (function_form_same n x y e f c d h k r)
      (subst (λ j. SameTree n (Literal i (numbered (3 + i) e)) (Literal j (numbered (3 + j) f))) q (same_literal i _ _ (numbered_same n e f k (3 + i) (3 + i) refl)))
      (same_node _ _ _ _ (numbered_same n x y h _ _ (ap suc q)) (same_node _ _ _ _ (numbered_same n e f k _ _ (λ z. 2 + q z + nodes_same n x y h z)) (rest_same n c d r _ _ (λ z. 2 + q z + nodes_same n x y h z + nodes_same n e f k z))))
  numbered_same n _ _ (same_node x c y d h r) i j q = same_node _ _ _ _ (numbered_same n x y h _ _ (ap suc q)) (rest_same n c d r _ _ (λ z. suc (q z) + nodes_same n x y h z))
  numbered_same n _ _ (same_atom v w h) i j q = same_atom v w h
  numbered_same n _ _ (same_quoted v w h) i j q = same_quoted v w h
  numbered_same n _ _ (same_literal k x y h) i j q = same_literal k x y h

  pub rest_same : (n : Names) (x y : Tree) → SameTree n x y → (i j : ℕ) → i ≡ j → SameTree n (numbered_rest i x) (numbered_rest j y)
  rest_same n _ _ (same_node x c y d h r) i j q = same_node _ _ _ _ (numbered_same n x y h _ _ (ap suc q)) (rest_same n c d r _ _ (λ z. suc (q z) + nodes_same n x y h z))
  rest_same n _ _ (same_atom v w h) i j q = same_atom v w h
  rest_same n _ _ (same_quoted v w h) i j q = same_quoted v w h
  rest_same n _ _ (same_literal k x y h) i j q = same_literal k x y h

-- ---- functions

forms_same : (n : Names) (x y : Tree) → SameTree n x y → SameTree n (forms_of x) (forms_of y)
forms_same n _ _ (same_node _ _ _ _ h (same_node a d b e i j)) = j
forms_same n _ _ (same_node _ _ _ _ h k) = same_atom _ _ (same_id nil_number)
forms_same n _ _ h = same_atom _ _ (same_id nil_number)

parameters_of_same : (n : Names) (x y : Tree) → SameTree n x y → parameters_of x ≡ parameters_of y
parameters_of_same n _ _ (same_node _ _ _ _ h (same_node a d b e i j)) = λ k. unwrap_or (identifiers_same n a b i k) []
parameters_of_same n _ _ (same_node _ _ _ _ h k) = refl
parameters_of_same n _ _ h = refl

-- the function of a FUNCTION form
pub lambda_held_same : (n : Names) (kept : List Kept) (x y : Tree) → SameTree n x y → SameFunction n (lambda_held kept x) (lambda_held kept y)
lambda_held_same n kept x y h =
    subst (λ zs. SameFunction n (lambda_held kept x) (HeldFunction (held_of Expr zs kept (body_of (forms_of y))))) (parameters_of_same n x y h)
    (same_held_function _ _ (same_held Expr (parameters_of x) kept _ _ (body_same n _ _ (forms_same n x y h))))

function_part_same : (n : Names) (kept : List Kept) (o p : Option Tree) → Maybe (SameTree n) o p → SameFunction n (function_part kept o) (function_part kept p)
function_part_same n kept _ _ nothing = same_special Quote
function_part_same n kept _ _ (just _ _ (same_literal i a b h)) = lambda_held_same n kept a b h
function_part_same n kept _ _ (just _ _ (same_atom v w h)) = same_special Quote
function_part_same n kept _ _ (just _ _ (same_quoted v w h)) = same_special Quote
function_part_same n kept _ _ (just _ _ (same_node a d b e h k)) = same_special Quote

function_in_same : (n : Names) (x y : Function) (place : ℕ) → SameFunction n x y → SameFunction n (function_in x place) (function_in y place)
function_in_same n x y zero h = h
function_in_same n _ _ (suc i) (same_held_function _ _ (same_held kind parameters kept a b h)) = function_part_same n kept _ _ (part_same n a b h i)
function_in_same n _ _ (suc i) (same_special form) = same_special Quote
function_in_same n _ _ (suc i) (same_native native) = same_special Quote

or_same : {A : Type 0} (R : A → A → Type 0) (o p : Option A) (d e : A) → R d e → Maybe R o p → R (unwrap_or o d) (unwrap_or p e)
or_same R _ _ d e r nothing = r
or_same R _ _ d e r (just a b h) = h

module _ {bounds : Bounds} where
  function_numbered : (n : Names) (ps : List EntryPlace) (s t : State) (f g : ℕ) → Like bounds n ps s t → Linked n.functions f g → SameFunction n (slice_index_or s.functions f no_function) (slice_index_or t.functions g no_function)
  function_numbered n ps s t f g l h = rw (← unwrap_or-slice_get s.functions f no_function, ← unwrap_or-slice_get t.functions g no_function) (or_same (SameFunction n) _ _ _ _ (same_special Quote) (l.functions.is f g h))

  pub function_same : (n : Names) (ps : List EntryPlace) (s t : State) (p q : Pointer) → Like bounds n ps s t → SamePointer n p q → SameFunction n (function_at s p) (function_at t q)
  function_same n ps s t _ _ l (same_pointer f g place h) = function_in_same n _ _ place (function_numbered n ps s t f g l h)

form_part_same : (n : Names) (v w : Value) (o p : Option Tree) → SameValue n v w → Maybe (SameTree n) o p → SameTree n (form_part v o) (form_part w p)
form_part_same n v w _ _ r nothing = same_quoted v w r
form_part_same n v w _ _ r (just _ _ (same_literal i a b h)) = same_literal i a b h
form_part_same n v w _ _ r (just _ _ (same_node a d b e h k)) = same_node a d b e h k
form_part_same n v w _ _ r (just _ _ (same_atom _ _ h)) = same_quoted v w r
form_part_same n v w _ _ r (just _ _ (same_quoted _ _ h)) = same_quoted v w r

form_in_same : (n : Names) (v w : Value) (x y : Function) (place : ℕ) → SameValue n v w → SameFunction n x y → SameTree n (form_in v x place) (form_in w y place)
form_in_same n v w _ _ (suc i) r (same_held_function _ _ (same_held kind parameters kept a b h)) = form_part_same n v w _ _ r (part_same n a b h i)
form_in_same n v w _ _ zero r (same_held_function _ _ h) = same_quoted v w r
form_in_same n v w _ _ i r (same_special form) = same_quoted v w r
form_in_same n v w _ _ i r (same_native native) = same_quoted v w r

module _ {bounds : Bounds} where
  pub form_same : (n : Names) (ps : List EntryPlace) (s t : State) (v w : Value) → Like bounds n ps s t → SameValue n v w → SameTree n (form_at s v) (form_at t w)
  form_same n ps s t _ _ l (same_fun f g place h) = form_in_same n _ _ _ _ place (same_fun f g place h) (function_numbered n ps s t f g l h)
  form_same n ps s t _ _ l (same_int z) = same_quoted _ _ (same_int z)
  form_same n ps s t _ _ l (same_id i) = same_quoted _ _ (same_id i)
  form_same n ps s t _ _ l (same_str bytes) = same_quoted _ _ (same_str bytes)
  form_same n ps s t _ _ l (same_ref r q h) = same_quoted _ _ (same_ref r q h)

-- ---- heads

pub definition_same : (n : Names) (x y : Symbol) → SameSymbol n x y → Maybe (SameDefinition n) x.definition y.definition
definition_same n _ _ (same_symbol name interned kind a b p q d e h k l) = l

pub data SameHead (n : Names) : Head → Head → Type 0 where
  same_form : (form : Special) → SameHead n (Form form) (Form form)
  same_call : (kind : Kind) (i : ℕ) → SameHead n (Call kind i) (Call kind i)
  same_applied : SameHead n Applied Applied
  same_bad : (v w : Value) → SameValue n v w → SameHead n (Bad v) (Bad w)

named_head : (n : Names) (f : ℕ) (kind : Kind) (x y : Function) → SameFunction n x y → SameHead n (elim x [ SpecialForm form ↦ Form form | NativeFunction native ↦ Call kind f | HeldFunction held ↦ Call kind f ]) (elim y [ SpecialForm form ↦ Form form | NativeFunction native ↦ Call kind f | HeldFunction held ↦ Call kind f ])
named_head n f kind _ _ (same_special form) = same_form form
named_head n f kind _ _ (same_native native) = same_call kind f
named_head n f kind _ _ (same_held_function a b h) = same_call kind f

module _ {bounds : Bounds} where
  head_in_same : (n : Names) (ps : List EntryPlace) (s t : State) (f : ℕ) (o p : Option Definition) → Like bounds n ps s t → Maybe (SameDefinition n) o p → SameHead n (head_in f o s) (head_in f p t)
  head_in_same n ps s t f _ _ l nothing = same_call Expr f
  head_in_same n ps s t f _ _ l (just _ _ (same_definition kind p q h)) = named_head n f kind _ _ (function_same n ps s t p q l h)

  pub head_same : (n : Names) (ps : List EntryPlace) (s t : State) (x y : Tree) → Like bounds n ps s t → SameTree n x y → SameHead n (head_of x s) (head_of y t)
  head_same n ps s t _ _ l (same_atom _ _ (same_id i)) = head_in_same n ps s t i _ _ l (definition_same n _ _ (symbol_same n ps s t i l))
  head_same n ps s t _ _ l (same_atom v w r) = same_bad _ _ r
  head_same n ps s t _ _ l (same_quoted v w r) = same_bad v w r
  head_same n ps s t _ _ l (same_node _ d _ e (same_atom _ _ (same_id i)) k) = at (i == lambda_number)
    where
      at : (b : Bool) → SameHead n (if b then Applied else Bad (Id lambda_number)) (if b then Applied else Bad (Id lambda_number))
      at true = same_applied
      at false = same_bad _ _ (same_id lambda_number)
  head_same n ps s t _ _ l (same_node _ d _ e (same_atom _ _ r) k) = same_bad _ _ (same_id lambda_number)
  head_same n ps s t _ _ l (same_node _ d _ e h k) = same_bad _ _ (same_id lambda_number)
  head_same n ps s t _ _ l (same_literal i a b h) = same_bad _ _ (same_id lambda_number)
