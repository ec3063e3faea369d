-- What a body rests on stays, a change at a time: equal definitions, and what rests on them.
use Rattle.std.proofs.Common.{◌≡◌, ◌⊎◌, inl, inr, ℕ, ℤ, pos, negsuc, ◌==◌, ◌&&◌, not, Bool, true, false, List, [], ◌∷◌, ◌++◌, Option, Some, None, refl, sym, ap, ◌∙◌, subst, ◌<◌, zero, suc, length, arith, slice_get}
use Rattle.std.proofs.lemmas.Slice.Eq.{bytes_eq-Decides}
use Rattle.std.specs.Prelude.{slice_index_or}
use Rattle.rl_tree.specs.Value.{Value, Object, Int, Id, Str, Ref, Fun}
use Rattle.rl_tree.specs.declared.held.Kind.{Kind}
use Rattle.rl_tree.specs.declared.held.Kind.TheVariants.{Expr, Fexpr, Macro}
use Rattle.rl_tree.specs.declared.held.VarKind.{VarKind}
use Rattle.rl_tree.specs.declared.held.VarKind.TheVariants as variable
use Rattle.rl_meaning.specs.State.{State, Tree, Atom, Quoted, Pair, Literal, Kept, Held, Pointer, Definition, Function, SpecialForm, NativeFunction, HeldFunction}
use Rattle.rl_meaning.specs.Symbols.{same_integer, same, symbol_at}
use Rattle.rl_meaning.specs.Holding.{function_number, with_identifier, with_identifiers, kept_kind, no_function, function_in, function_at}
use Rattle.rl_meaning.specs.Reach.{is_opened, same_kind, same_var_kind, same_tree, same_names, same_kept, same_held, same_function, same_definition, expands}
use Rattle.rl_meaning.specs.Forms.{Head, Form, Call, head_in}
use Rattle.rl_agrees.specs.Later.{IsMore, IsNoted, IsMemberOf, Later}
use Rattle.rl_agrees.specs.Heads.{leaves_in, leaves_of, Inside, inside_name, inside_object, RestsOn, on_truth, on_name, on_opened, Stays, kind_as_head, IsThere}
use Rattle.rl_agrees.proofs.LaterStands.{in_none, and_first, and_second, and_both, nat_is, function_same, pointer_is, same_definition_more, function_more}
use Rattle.rl_agrees.proofs.OneRunLater.{more_length, noted_on}
use Rattle.rl_meaning.specs.Constants.{values_in}

-- ---- what passes the tests is the same

kind_is : (k l : Kind) → same_kind k l ≡ true → k ≡ l
kind_is Expr Expr h = refl
kind_is Fexpr Fexpr h = refl
kind_is Macro Macro h = refl
kind_is Expr Fexpr h = absurd (cc)
kind_is Expr Macro h = absurd (cc)
kind_is Fexpr Expr h = absurd (cc)
kind_is Fexpr Macro h = absurd (cc)
kind_is Macro Expr h = absurd (cc)
kind_is Macro Fexpr h = absurd (cc)

kind_same : (k : Kind) → same_kind k k ≡ true
kind_same Expr = refl
kind_same Fexpr = refl
kind_same Macro = refl

var_kind_is : (k l : VarKind) → same_var_kind k l ≡ true → k ≡ l
var_kind_is variable.Plain variable.Plain h = refl
var_kind_is variable.Fluid variable.Fluid h = refl
var_kind_is variable.Global variable.Global h = refl
var_kind_is variable.Plain variable.Fluid h = absurd (cc)
var_kind_is variable.Plain variable.Global h = absurd (cc)
var_kind_is variable.Fluid variable.Plain h = absurd (cc)
var_kind_is variable.Fluid variable.Global h = absurd (cc)
var_kind_is variable.Global variable.Plain h = absurd (cc)
var_kind_is variable.Global variable.Fluid h = absurd (cc)

integer_is : (z w : ℤ) → same_integer z w ≡ true → z ≡ w
integer_is (pos n) (pos m) h = ap pos (nat_is n m h)
integer_is (negsuc n) (negsuc m) h = ap negsuc (nat_is n m h)
integer_is (pos n) (negsuc m) h = absurd (cc)
integer_is (negsuc n) (pos m) h = absurd (cc)

value_is : (v w : Value) → same v w ≡ true → v ≡ w
value_is (Int z) (Int w) h = ap Int (integer_is z w h)
value_is (Id i) (Id j) h = ap Id (nat_is i j h)
value_is (Str a) (Str b) h = ap Str ((bytes_eq-Decides a b).0 h)
value_is (Ref r) (Ref q) h = ap Ref (nat_is r q h)
value_is (Fun f i) (Fun g j) h = ap (λ x. Fun x i) (nat_is f g (and_first _ _ h)) ∙ ap (λ y. Fun g y) (nat_is i j (and_second (f == g) _ h))
value_is v w h = absurd (cc)

names_is : (xs ys : List ℕ) → same_names xs ys ≡ true → xs ≡ ys
names_is [] [] h = refl
names_is (x ∷ xs) (y ∷ ys) h = ap (λ z. z ∷ xs) (nat_is x y (and_first _ _ h)) ∙ ap (λ zs. y ∷ zs) (names_is xs ys (and_second (x == y) _ h))
names_is [] (y ∷ ys) h = absurd (cc)
names_is (x ∷ xs) [] h = absurd (cc)

-- ---- trees with the same leaves

tree_leaves : (t u : Tree) → same_tree t u ≡ true → leaves_in t ≡ leaves_in u
tree_leaves (Atom v) (Atom w) h = ap (λ x. x ∷ []) (value_is v w h)
tree_leaves (Quoted v) (Quoted w) h = ap (λ x. x ∷ []) (value_is v w h)
tree_leaves (Pair a d) (Pair b e) h = ap (λ xs. xs ++ leaves_in d) (tree_leaves a b (and_first _ _ h)) ∙ ap (λ ys. leaves_in b ++ ys) (tree_leaves d e (and_second (same_tree a b) _ h))
tree_leaves (Literal n e) (Literal m f) h = ap (λ xs. Id function_number ∷ xs) (tree_leaves e f h)
tree_leaves t u h = absurd (cc)

tree_identifiers : (xs : List ℕ) (t u : Tree) → same_tree t u ≡ true → with_identifiers xs t ≡ with_identifiers xs u
tree_identifiers xs (Atom v) (Atom w) h = ap (λ x. with_identifiers xs (Atom x)) (value_is v w h)
tree_identifiers xs (Quoted v) (Quoted w) h = refl
tree_identifiers xs (Pair a d) (Pair b e) h = ap (λ ys. with_identifiers ys d) (tree_identifiers xs a b (and_first _ _ h)) ∙ tree_identifiers (with_identifiers xs b) d e (and_second (same_tree a b) _ h)
tree_identifiers xs (Literal n e) (Literal m f) h = tree_identifiers (with_identifier xs function_number) e f h
tree_identifiers xs t u h = absurd (cc)

tree_then : (t u v : Tree) → same_tree t u ≡ true → same_tree u v ≡ true → same_tree t v ≡ true
tree_then (Atom a) (Atom b) v h k = subst (λ x. same_tree (Atom x) v ≡ true) (sym (value_is a b h)) k
tree_then (Quoted a) (Quoted b) v h k = subst (λ x. same_tree (Quoted x) v ≡ true) (sym (value_is a b h)) k
tree_then (Pair a d) (Pair b e) (Pair c f) h k = and_both _ _ (tree_then a b c (and_first _ _ h) (and_first _ _ k)) (tree_then d e f (and_second (same_tree a b) _ h) (and_second (same_tree b c) _ k))
tree_then (Literal n e) (Literal m f) (Literal l g) h k = tree_then e f g h k
tree_then (Pair a d) (Pair b e) v h k = absurd (cc)
tree_then (Literal n e) (Literal m f) v h k = absurd (cc)
tree_then t u v h k = absurd (cc)

kept_then : (xs : List ℕ) (ks ls ms : List Kept) → same_kept xs ks ls ≡ true → same_kept xs ls ms ≡ true → same_kept xs ks ms ≡ true
kept_then [] ks ls ms h k = refl
kept_then (x ∷ xs) ks ls ms h k = and_both _ _
    (subst (λ y. same_var_kind y (kept_kind ms x) ≡ true) (sym (var_kind_is (kept_kind ks x) (kept_kind ls x) (and_first _ _ h))) (and_first _ _ k))
    (kept_then xs ks ls ms (and_second (same_var_kind (kept_kind ks x) (kept_kind ls x)) _ h) (and_second (same_var_kind (kept_kind ls x) (kept_kind ms x)) _ k))

-- ---- functions

-- what two equal forms have in common
record HeldSame (f g : Held) : Type 0 where
  pub parameters : f.parameters ≡ g.parameters
  pub body : same_tree f.body g.body ≡ true
  pub kept : same_kept (with_identifiers f.parameters f.body) f.kept g.kept ≡ true

held_parts : (f g : Held) → same_held f g ≡ true → HeldSame f g
held_parts f g h =
    let p : (same_names f.parameters g.parameters && same_tree f.body g.body) ≡ true = and_first _ _ h in
    record {
      parameters = names_is f.parameters g.parameters (and_first _ _ p);
      body = and_second (same_names f.parameters g.parameters) _ p;
      kept = and_second (same_names f.parameters g.parameters && same_tree f.body g.body) _ h;
    }

held_then : (f g h : Held) → same_held f g ≡ true → same_held g h ≡ true → same_held f h ≡ true
held_then f g h a b =
    let x : HeldSame f g = held_parts f g a in
    let y : HeldSame g h = held_parts g h b in
    let names : same_names f.parameters h.parameters ≡ true = subst (λ xs. same_names xs h.parameters ≡ true) (sym x.parameters) (and_first (same_names g.parameters h.parameters) (same_tree g.body h.body) (and_first _ _ b)) in
    let identifiers : with_identifiers f.parameters f.body ≡ with_identifiers g.parameters g.body = ap (λ xs. with_identifiers xs f.body) x.parameters ∙ tree_identifiers g.parameters f.body g.body x.body in
    and_both _ _ (and_both _ _ names (tree_then f.body g.body h.body x.body y.body))
    (kept_then (with_identifiers f.parameters f.body) f.kept g.kept h.kept x.kept (subst (λ xs. same_kept xs g.kept h.kept ≡ true) (sym identifiers) y.kept))

-- where one of two functions is not held, they are equal only by their pointers
at_pointer : (t : State) (p q r : Pointer) → p ≡ q → same_function q r (function_at t q) (function_at t r) ≡ true → same_function p r (function_at t p) (function_at t r) ≡ true
at_pointer t p q r e h = subst (λ x. same_function x r (function_at t x) (function_at t r) ≡ true) (sym e) h

behind_pointer : (t : State) (p q r : Pointer) → q ≡ r → same_function p q (function_at t p) (function_at t q) ≡ true → same_function p r (function_at t p) (function_at t r) ≡ true
behind_pointer t p q r e h = subst (λ x. same_function p x (function_at t p) (function_at t x) ≡ true) e h

function_or : (p q r : Pointer) (f g h : Function) → same_function p q f g ≡ true → same_function q r g h ≡ true → (same_function p r f h ≡ true) ⊎ ((p ≡ q) ⊎ (q ≡ r))
function_or p q r (HeldFunction a) (HeldFunction b) (HeldFunction c) x y = inl (held_then a b c x y)
function_or p q r (HeldFunction a) (HeldFunction b) (SpecialForm form) x y = inr (inr (pointer_is q r y))
function_or p q r (HeldFunction a) (HeldFunction b) (NativeFunction native) x y = inr (inr (pointer_is q r y))
function_or p q r (HeldFunction a) (SpecialForm form) h x y = inr (inl (pointer_is p q x))
function_or p q r (HeldFunction a) (NativeFunction native) h x y = inr (inl (pointer_is p q x))
function_or p q r (SpecialForm form) g h x y = inr (inl (pointer_is p q x))
function_or p q r (NativeFunction native) g h x y = inr (inl (pointer_is p q x))

function_then : (t : State) (p q r : Pointer) → same_function p q (function_at t p) (function_at t q) ≡ true → same_function q r (function_at t q) (function_at t r) ≡ true → same_function p r (function_at t p) (function_at t r) ≡ true
function_then t p q r x y = elim (function_or p q r (function_at t p) (function_at t q) (function_at t r) x y) [
  | inl z ↦ z
  | inr pointers ↦ elim pointers [
    | inl e ↦ at_pointer t p q r e y
    | inr e ↦ behind_pointer t p q r e x
  ]
]

-- ---- definitions

definition_same : (t : State) (o : Option Definition) → same_definition t o o ≡ true
definition_same t None = refl
definition_same t (Some d) = and_both _ _ (kind_same d.kind) (function_same d.function (function_at t d.function))

definition_then : (t : State) (o p q : Option Definition) → same_definition t o p ≡ true → same_definition t p q ≡ true → same_definition t o q ≡ true
definition_then t None None q h k = k
definition_then t (Some d) (Some e) (Some f) h k = and_both _ _
    (subst (λ x. same_kind x f.kind ≡ true) (sym (kind_is d.kind e.kind (and_first _ _ h))) (and_first _ _ k))
    (function_then t d.function e.function f.function (and_second (same_kind d.kind e.kind) _ h) (and_second (same_kind e.kind f.kind) _ k))
definition_then t (Some d) (Some e) None h k = absurd (cc)
definition_then t None (Some e) q h k = absurd (cc)
definition_then t (Some d) None q h k = absurd (cc)

-- equal definitions both expand, or neither does
same_expands : (t : State) (o p : Option Definition) → same_definition t o p ≡ true → expands o ≡ expands p
same_expands t None None h = refl
same_expands t (Some d) (Some e) h = ap (λ k. not (same_kind k Expr)) (kind_is d.kind e.kind (and_first _ _ h))
same_expands t None (Some e) h = absurd (cc)
same_expands t (Some d) None h = absurd (cc)

-- ---- what stays

pub stays_same : (t : State) (through : Bool) (o p : Option Definition) → p ≡ o → Stays t through o p
stays_same t true o p e = subst (λ x. same_definition t o x ≡ true) (sym e) (definition_same t o)
stays_same t false o p e = inl (subst (λ x. same_definition t o x ≡ true) (sym e) (definition_same t o))

pub stays_then : (t u : State) → IsMore t.functions u.functions → (through : Bool) (o p q : Option Definition) → Stays t through o p → Stays u through p q → Stays u through o q
stays_then t u more true o p q h k = definition_then u o p q (same_definition_more t u more o p h) k
stays_then t u more false o p q (inl h) (inl k) = inl (definition_then u o p q (same_definition_more t u more o p h) k)
stays_then t u more false o p q (inl h) (inr k) = inr (same_expands t o p h ∙ k.0, k.1)
stays_then t u more false o p q (inr h) (inl k) = inr (h.0, sym (same_expands u p q k) ∙ h.1)
stays_then t u more false o p q (inr h) (inr k) = inr (h.0, k.1)

-- ---- what a body rests on

leaves_or : (p q : Pointer) (f g : Function) → same_function p q f g ≡ true → (leaves_of f ≡ leaves_of g) ⊎ (p ≡ q)
leaves_or p q (HeldFunction a) (HeldFunction b) h = inl (tree_leaves a.body b.body (held_parts a b h).body)
leaves_or p q (HeldFunction a) (SpecialForm form) h = inr (pointer_is p q h)
leaves_or p q (HeldFunction a) (NativeFunction native) h = inr (pointer_is p q h)
leaves_or p q (SpecialForm form) g h = inr (pointer_is p q h)
leaves_or p q (NativeFunction native) g h = inr (pointer_is p q h)

function_leaves : (t : State) (p q : Pointer) → same_function p q (function_at t p) (function_at t q) ≡ true → leaves_of (function_at t p) ≡ leaves_of (function_at t q)
function_leaves t p q h = elim (leaves_or p q (function_at t p) (function_at t q) h) [
  | inl e ↦ e
  | inr e ↦ ap (λ x. leaves_of (function_at t x)) e
]

leaves_more : (s t : State) → IsMore s.functions t.functions → (p : Pointer) (v : Value) → IsMemberOf v (leaves_of (function_at s p)) → IsMemberOf v (leaves_of (function_at t p))
leaves_more s t more p v h = elim (function_more s t more p) [
  | inl e ↦ subst (λ (f : Function). IsMemberOf v (leaves_of f)) (sym e) h
  | inr e ↦ absurd (in_none v (subst (λ (f : Function). IsMemberOf v (leaves_of f)) e h))
]

-- ---- constants

-- what is noted since a state is noted still
pub noted_still : (s t u : State) → Later s t → Later t u → (r : ℕ) → IsNoted t r (length s.functions) → IsNoted u r (length s.functions)
noted_still s t u h k r noted = noted_on s t u r (k.noted r) (more_length s.functions t.functions h.functions) noted

abbrev pub NotedStill : State → State → State → Type 0
NotedStill s t u = (r : ℕ) → IsNoted t r (length s.functions) → IsNoted u r (length s.functions)

inside_before : (s t u : State) → NotedStill s t u → (v : Value) (i : ℕ) → Inside s u v i → Inside s t v i
inside_before s t u still _ _ (inside_name i) = inside_name i
inside_before s t u still _ _ (inside_object r i v has unnoted more) = inside_object r i v has (λ noted. unnoted (still r noted)) (inside_before s t u still v i more)

there_or : (xs : List Object) (r : ℕ) → (r < length xs) ⊎ (slice_get xs r ≡ None)
there_or [] r = inr refl
there_or (x ∷ xs) zero = inl (omega arith)
there_or (x ∷ xs) (suc r) = elim (there_or xs r) [
  | inl lt ↦ inl (omega (arith, lt))
  | inr e ↦ inr e
]

-- an object that is not noted has what it had
has_still : (s t : State) → Later s t → (r : ℕ) (v : Value) → (IsNoted t r (length s.functions) → ⊥) → IsMemberOf v (values_in (slice_get s.store r)) → IsMemberOf v (values_in (slice_get t.store r))
has_still s t h r v unnoted has = elim (there_or s.store r) [
  | inr e ↦ absurd (in_none v (subst (λ (o : Option Object). IsMemberOf v (values_in o)) e has))
  | inl lt ↦ elim (h.stay r lt) [
    | inl same ↦ subst (λ (o : Option Object). IsMemberOf v (values_in o)) (sym same) has
    | inr noted ↦ absurd (unnoted noted)
  ]
]

inside_later : (s t u : State) → Later s t → Later t u → (v : Value) (i : ℕ) → Inside s u v i → Inside t u v i
inside_later s t u h k _ _ (inside_name i) = inside_name i
inside_later s t u h k _ _ (inside_object r i v has unnoted more) =
    inside_object r i v (has_still s t h r v (λ noted. unnoted (noted_still s t u h k r noted)) has)
    (λ noted. unnoted (record { functions = noted.functions; last = noted.last; late = omega (arith, noted.late, more_length s.functions t.functions h.functions) }))
    (inside_later s t u h k v i more)

-- an opened name is opened still, and has the same names in its body
record StillOpened (t : State) (through : Bool) (d : Definition) (o : Option Definition) : Type 0 where
  pub new : Definition
  pub is : o ≡ Some new
  pub opens : is_opened new.kind through ≡ true
  pub same : same_function d.function new.function (function_at t d.function) (function_at t new.function) ≡ true

opened_expands : (k : Kind) → is_opened k false ≡ true → not (same_kind k Expr) ≡ false → ⊥
opened_expands Expr h e = absurd (cc)
opened_expands Fexpr h e = absurd (cc)
opened_expands Macro h e = absurd (cc)

same_opened : (t : State) (through : Bool) (d : Definition) (o : Option Definition) → is_opened d.kind through ≡ true → same_definition t (Some d) o ≡ true → StillOpened t through d o
same_opened t through d (Some e) h k = record {
  new = e;
  is = refl;
  opens = subst (λ x. is_opened x through ≡ true) (kind_is d.kind e.kind (and_first _ _ k)) h;
  same = and_second (same_kind d.kind e.kind) _ k;
}
same_opened t through d None h k = absurd (cc)

still_opened : (t : State) (through : Bool) (d : Definition) (o : Option Definition) → is_opened d.kind through ≡ true → Stays t through (Some d) o → StillOpened t through d o
still_opened t true d o h k = same_opened t true d o h k
still_opened t false d o h (inl k) = same_opened t false d o h k
still_opened t false d o h (inr k) = absurd (opened_expands d.kind h k.0)

pub rests_before : (s t u : State) → NotedStill s t u → (f : Function) (i : ℕ) (through : Bool) → RestsOn s u f i through → RestsOn s t f i through
rests_before s t u still f _ _ on_truth = on_truth
rests_before s t u still f _ _ (on_name v i has inside) = on_name v i has (inside_before s t u still v i inside)
rests_before s t u still f _ _ (on_opened i j through d v r e o has inside) = on_opened i j through d v (rests_before s t u still f i through r) e o has (inside_before s t u still v j inside)

-- what the definitions are that a body rests on, by a later state
abbrev pub AllStay : State → State → Function → Type 0
AllStay s t f = (i : ℕ) (through : Bool) → RestsOn s t f i through → Stays t through (symbol_at s i).definition (symbol_at t i).definition

-- where what a body rests on stays, it rests on the same
rests_on : (s t u : State) → Later s t → Later t u → (f : Function) → AllStay s t f → (i : ℕ) (through : Bool) → RestsOn s u f i through → RestsOn t u f i through
rests_on s t u h k f stay _ _ on_truth = on_truth
rests_on s t u h k f stay _ _ (on_name v i has inside) = on_name v i has (inside_later s t u h k v i inside)
rests_on s t u h k f stay _ _ (on_opened i j through d v r e o has inside) =
    let still : StillOpened t through d (symbol_at t i).definition = still_opened t through d (symbol_at t i).definition o (subst (λ x. Stays t through x (symbol_at t i).definition) e (stay i through (rests_before s t u (noted_still s t u h k) f i through r))) in
    on_opened i j through still.new v (rests_on s t u h k f stay i through r) still.is still.opens
    (subst (λ xs. IsMemberOf v xs) (function_leaves t d.function still.new.function still.same) (leaves_more s t h.functions d.function v has))
    (inside_later s t u h k v j inside)

-- a body rests on no less than one with fewer leaves does
rests_less : (t u : State) (f g : Function) → ((v : Value) → IsMemberOf v (leaves_of f) → IsMemberOf v (leaves_of g)) → (i : ℕ) (through : Bool) → RestsOn t u f i through → RestsOn t u g i through
rests_less t u f g leaves _ _ on_truth = on_truth
rests_less t u f g leaves _ _ (on_name v i has inside) = on_name v i (leaves v has) inside
rests_less t u f g leaves _ _ (on_opened i j through d v r e o has inside) = on_opened i j through d v (rests_less t u f g leaves i through r) e o has inside

pub rests_more : (s t u : State) → Later s t → Later t u → (p : Pointer) → AllStay s t (function_at s p) → (i : ℕ) (through : Bool) → RestsOn s u (function_at s p) i through → RestsOn t u (function_at t p) i through
rests_more s t u h k p stay i through r = rests_less t u (function_at s p) (function_at t p) (leaves_more s t h.functions p) i through (rests_on s t u h k (function_at s p) stay i through r)

-- ---- heads

same_kinds : (t : State) (o p : Option Definition) → same_definition t o p ≡ true → kind_as_head p ≡ kind_as_head o
same_kinds t None None h = refl
same_kinds t (Some d) (Some e) h = sym (kind_is d.kind e.kind (and_first _ _ h))
same_kinds t None (Some e) h = absurd (cc)
same_kinds t (Some d) None h = absurd (cc)

no_expr : (k : Kind) → not (same_kind k Expr) ≡ false → k ≡ Expr
no_expr Expr h = refl
no_expr Fexpr h = absurd (cc)
no_expr Macro h = absurd (cc)

expr_kind : (o : Option Definition) → expands o ≡ false → kind_as_head o ≡ Expr
expr_kind None h = refl
expr_kind (Some d) h = no_expr d.kind h

pub stays_kind : (t : State) (through : Bool) (o p : Option Definition) → Stays t through o p → kind_as_head p ≡ kind_as_head o
stays_kind t true o p h = same_kinds t o p h
stays_kind t false o p (inl h) = same_kinds t o p h
stays_kind t false o p (inr h) = expr_kind p h.1 ∙ sym (expr_kind o h.0)

-- the head that a function of this kind is
abbrev head_by : ℕ → Kind → Function → Head
head_by i kind f = elim f [
  | SpecialForm form ↦ Form form
  | NativeFunction native ↦ Call kind i
  | HeldFunction held ↦ Call kind i
]

same_head_by : (i : ℕ) (kind : Kind) (p q : Pointer) (f g : Function) → (p ≡ q → f ≡ g) → same_function p q f g ≡ true → head_by i kind g ≡ head_by i kind f
same_head_by i kind p q (HeldFunction a) (HeldFunction b) one h = refl
same_head_by i kind p q (HeldFunction a) (SpecialForm form) one h = ap (λ (f : Function). head_by i kind f) (sym (one (pointer_is p q h)))
same_head_by i kind p q (HeldFunction a) (NativeFunction native) one h = refl
same_head_by i kind p q (SpecialForm form) g one h = ap (λ (f : Function). head_by i kind f) (sym (one (pointer_is p q h)))
same_head_by i kind p q (NativeFunction native) g one h = ap (λ (f : Function). head_by i kind f) (sym (one (pointer_is p q h)))

index_front : {A : Type 0} (xs ys : List A) (i : ℕ) (d : A) → i < length xs → slice_index_or (xs ++ ys) i d ≡ slice_index_or xs i d
index_front [] ys i d h = absurd (omega (arith, h))
index_front (x ∷ xs) ys zero d h = refl
index_front (x ∷ xs) ys (suc i) d h = index_front xs ys i d (omega (arith, h))

-- a function that is there stays what it is
function_there : (s t : State) → IsMore s.functions t.functions → (p : Pointer) → p.function < length s.functions → function_at t p ≡ function_at s p
function_there s t more p lt = ap (λ (fs : List Function). function_in (slice_index_or fs p.function no_function) p.place) more.is ∙ ap (λ (f : Function). function_in f p.place) (index_front s.functions more.rest p.function no_function lt)

same_head : (s t : State) → IsMore s.functions t.functions → (i : ℕ) (o p : Option Definition) → IsThere s o → expands o ≡ true → same_definition t o p ≡ true → head_in i p t ≡ head_in i o s
same_head s t more i None p there e h = absurd (cc)
same_head s t more i (Some d) None there e h = absurd (cc)
same_head s t more i (Some d) (Some f) there e h =
    ap (λ (k : Kind). head_by i k (function_at t f.function)) (sym (kind_is d.kind f.kind (and_first _ _ h)))
    ∙ (same_head_by i d.kind d.function f.function (function_at t d.function) (function_at t f.function) (λ e. ap (λ (p : Pointer). function_at t p) e) (and_second (same_kind d.kind f.kind) _ h)
    ∙ ap (λ (g : Function). head_by i d.kind g) (function_there s t more d.function there))

pub stays_head : (s t : State) → IsMore s.functions t.functions → (i : ℕ) (through : Bool) (o p : Option Definition) → IsThere s o → expands o ≡ true → Stays t through o p → head_in i p t ≡ head_in i o s
stays_head s t more i true o p there e h = same_head s t more i o p there e h
stays_head s t more i false o p there e (inl h) = same_head s t more i o p there e h
stays_head s t more i false o p there e (inr h) = absurd (both (sym e ∙ h.0))
  where
    both : true ≡ false → ⊥
    both e = absurd (cc)
