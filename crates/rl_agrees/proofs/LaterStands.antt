-- What a code rests on stands where functions are only appended and definitions stay.
use Rattle.std.proofs.Common.{if◌then◌else◌, ◌≡◌, ◌⊎◌, inl, inr, ℤ, pos, negsuc, ◌&&◌, ◌==◌, not, ℕ, zero, suc, Bool, true, false, List, [], ◌∷◌, Option, Some, None, refl, sym, ap, ◌∙◌, subst}
use Rattle.std.specs.Str.{bytes_eq}
use Rattle.std.proofs.lemmas.Bool.{eqb-true, eq-eqb}
use Rattle.std.proofs.lemmas.Slice.Eq.{bytes_eq-Decides}
use Rattle.std.specs.Prelude.{slice_index_or}
use Rattle.rl_tree.specs.Value.{Value, Int, Id, Str, Ref, Fun}
use Rattle.rl_tree.specs.declared.held.VarKind.{VarKind}
use Rattle.rl_tree.specs.declared.held.VarKind.TheVariants.{Plain, Fluid, Global}
use Rattle.rl_meaning.specs.State.{State, Tree, Atom, Quoted, Pair, Literal, Kept, Held, Pointer, Definition, Function, SpecialForm, NativeFunction, HeldFunction, Dependency, Called, Whole, Coded}
use Rattle.rl_meaning.specs.State as state
use Rattle.rl_meaning.specs.Symbols.{same_integer, same, symbol_at}
use Rattle.rl_meaning.specs.Holding.{kept_kind, with_identifiers, same_pointer, no_function, function_in, function_at}
use Rattle.rl_meaning.specs.Reach.{same_var_kind, same_tree, same_names, same_kept, same_held, same_function, same_definition, expands}
use Rattle.rl_meaning.specs.CodeInForce.{is_fexpr, stands, all_stand, standing}
use Rattle.rl_agrees.specs.Later.{IsMore, IsMemberOf, first, further}
use Rattle.rl_agrees.proofs.LaterLists.{index_appended}

-- ---- two tests

pub and_first : (a b : Bool) → (a && b) ≡ true → a ≡ true
and_first true b h = refl
and_first false b h = absurd (cc)

pub and_second : (a b : Bool) → (a && b) ≡ true → b ≡ true
and_second true b h = h
and_second false b h = absurd (cc)

pub and_both : (a b : Bool) → a ≡ true → b ≡ true → (a && b) ≡ true
and_both true b h k = k
and_both false b h k = absurd (cc)

nat_same : (n : ℕ) → (n == n) ≡ true
nat_same n = eq-eqb n n refl

pub nat_is : (m n : ℕ) → (m == n) ≡ true → m ≡ n
nat_is m n h = eqb-true m n h

-- ---- each thing is the same as itself

bytes_same : (bs : List ℕ) → bytes_eq bs bs ≡ true
bytes_same bs = (bytes_eq-Decides bs bs).1 refl

integer_same : (z : ℤ) → same_integer z z ≡ true
integer_same (pos n) = nat_same n
integer_same (negsuc n) = nat_same n

value_same : (v : Value) → same v v ≡ true
value_same (Int z) = integer_same z
value_same (Id i) = nat_same i
value_same (Str bytes) = bytes_same bytes
value_same (Ref r) = nat_same r
value_same (Fun f place) = and_both _ _ (nat_same f) (nat_same place)

tree_same : (t : Tree) → same_tree t t ≡ true
tree_same (Atom v) = value_same v
tree_same (Quoted v) = value_same v
tree_same (Pair a d) = and_both _ _ (tree_same a) (tree_same d)
tree_same (Literal n e) = tree_same e

names_same : (xs : List ℕ) → same_names xs xs ≡ true
names_same [] = refl
names_same (x ∷ xs) = and_both _ _ (nat_same x) (names_same xs)

pub var_kind_same : (k : VarKind) → same_var_kind k k ≡ true
var_kind_same Plain = refl
var_kind_same Fluid = refl
var_kind_same Global = refl

kept_same : (xs : List ℕ) (ks : List Kept) → same_kept xs ks ks ≡ true
kept_same [] ks = refl
kept_same (x ∷ xs) ks = and_both _ _ (var_kind_same (kept_kind ks x)) (kept_same xs ks)

held_same : (h : Held) → same_held h h ≡ true
held_same h = and_both _ _ (and_both _ _ (names_same h.parameters) (tree_same h.body)) (kept_same (with_identifiers h.parameters h.body) h.kept)

pointer_same : (p : Pointer) → same_pointer p p ≡ true
pointer_same p = and_both _ _ (nat_same p.function) (nat_same p.place)

pub function_same : (p : Pointer) (f : Function) → same_function p p f f ≡ true
function_same p (SpecialForm form) = pointer_same p
function_same p (NativeFunction native) = pointer_same p
function_same p (HeldFunction held) = held_same held

-- ---- functions that are appended

-- what a function pointer names is as it was, or it named none
pub function_more : (s t : State) → IsMore s.functions t.functions → (p : Pointer) → (function_at t p ≡ function_at s p) ⊎ (function_at s p ≡ no_function)
function_more s t more p = elim (index_appended s.functions more.rest p.function no_function) [
  | inl e ↦ inl (ap (λ (fs : List Function). function_in (slice_index_or fs p.function no_function) p.place) more.is ∙ ap (λ (f : Function). function_in f p.place) e)
  | inr e ↦ inr (ap (λ (f : Function). function_in f p.place) e ∙ none p.place)
]
  where
    none : (place : ℕ) → function_in no_function place ≡ no_function
    none zero = refl
    none (suc i) = refl

pub pointer_is : (p q : Pointer) → same_pointer p q ≡ true → p ≡ q
pointer_is p q h =
    let e : p.function ≡ q.function = nat_is p.function q.function (and_first (p.function == q.function) (p.place == q.place) h) in
    let k : p.place ≡ q.place = nat_is p.place q.place (and_second (p.function == q.function) (p.place == q.place) h) in
    λ i. record { function = e i; place = k i }

none_first : (p q : Pointer) (g : Function) → same_function p q no_function g ≡ same_pointer p q
none_first p q g = refl

pub none_second : (p q : Pointer) (f : Function) → same_function p q f no_function ≡ same_pointer p q
none_second p q (SpecialForm form) = refl
none_second p q (NativeFunction native) = refl
none_second p q (HeldFunction held) = refl

same_pointers : (t : State) (p q : Pointer) → same_pointer p q ≡ true → same_function p q (function_at t p) (function_at t q) ≡ true
same_pointers t p q h = subst (λ (x : Pointer). same_function p x (function_at t p) (function_at t x) ≡ true) (pointer_is p q h) (function_same p (function_at t p))

same_function_more : (s t : State) → IsMore s.functions t.functions → (p q : Pointer) → same_function p q (function_at s p) (function_at s q) ≡ true → same_function p q (function_at t p) (function_at t q) ≡ true
same_function_more s t more p q h = elim (function_more s t more p) [
  | inr e ↦ same_pointers t p q (ap (λ (f : Function). same_function p q f (function_at s q)) (sym e) ∙ h)
  | inl e ↦ elim (function_more s t more q) [
    | inr k ↦ same_pointers t p q (sym (none_second p q (function_at s p)) ∙ (ap (λ (f : Function). same_function p q (function_at s p) f) (sym k) ∙ h))
    | inl k ↦ ap (λ (f : Function). same_function p q f (function_at t q)) e ∙ (ap (λ (f : Function). same_function p q (function_at s p) f) k ∙ h)
  ]
]

pub same_definition_more : (s t : State) → IsMore s.functions t.functions → (o p : Option Definition) → same_definition s o p ≡ true → same_definition t o p ≡ true
same_definition_more s t more None None h = refl
same_definition_more s t more (Some d) (Some e) h = and_both _ _ (and_first _ _ h) (same_function_more s t more d.function e.function (and_second _ _ h))
same_definition_more s t more None (Some e) h = h
same_definition_more s t more (Some d) None h = h

-- ---- dependencies

-- definitions are as they were
pub record SameDefinitions (s t : State) : Type 0 where
  pub at : (i : ℕ) → (symbol_at t i).definition ≡ (symbol_at s i).definition

pub stands_more : (s t : State) → SameDefinitions s t → IsMore s.functions t.functions → (d : Dependency) → stands s d ≡ true → stands t d ≡ true
stands_more s t same more (Called i) h = ap (λ (o : Option Definition). not (expands o)) (same.at i) ∙ h
stands_more s t same more (state.Fexpr i) h = ap is_fexpr (same.at i) ∙ h
stands_more s t same more (Whole i kind p) h =
    let d : Option Definition = Some (record { kind = kind; function = p }) in
    ap (λ (o : Option Definition). same_definition t d o) (same.at i) ∙ same_definition_more s t more d (symbol_at s i).definition h

pub all_stand_more : (s t : State) → SameDefinitions s t → IsMore s.functions t.functions → (ds : List Dependency) → all_stand s ds ≡ true → all_stand t ds ≡ true
all_stand_more s t same more [] h = refl
all_stand_more s t same more (d ∷ ds) h = and_both _ _ (stands_more s t same more d (and_first _ _ h)) (all_stand_more s t same more ds (and_second _ _ h))

-- ---- codes

-- an empty list has nothing
pub in_none : {A : Type 0} (a : A) → IsMemberOf a [] → ⊥
in_none a h = elim h [ ]

-- what is in a list is its first element or further
pub in_list : {A : Type 0} (a b : A) (bs : List A) → IsMemberOf a (b ∷ bs) → (b ≡ a) ⊎ IsMemberOf a bs
in_list a b bs (first rest) = inl refl
in_list a b bs (further c rest h) = inr h

-- one more code, or none
also_in : (x c : Coded) (ys cs : List Coded) → (IsMemberOf c ys → IsMemberOf c cs) → (b : Bool) → IsMemberOf c (if b then x ∷ ys else ys) → IsMemberOf c (x ∷ cs)
also_in x c ys cs k false h = further x cs (k h)
also_in x c ys cs k true h = elim (in_list c x ys h) [
  | inl e ↦ subst (λ (y : Coded). IsMemberOf c (y ∷ cs)) (sym e) (first cs)
  | inr h ↦ further x cs (k h)
]

pub standing_fewer : (s : State) (i : ℕ) (cs : List Coded) (c : Coded) → IsMemberOf c (standing s i cs) → IsMemberOf c cs
standing_fewer s i [] c h = h
standing_fewer s i (x ∷ cs) c h = also_in x c (standing s i cs) cs (standing_fewer s i cs c) (not (x.name == i) && all_stand s x.dependencies) h

also_stands : (s : State) (x c : Coded) (ys : List Coded) → (IsMemberOf c ys → all_stand s c.dependencies ≡ true) → (b : Bool) → (b ≡ true → all_stand s x.dependencies ≡ true) → IsMemberOf c (if b then x ∷ ys else ys) → all_stand s c.dependencies ≡ true
also_stands s x c ys k false e h = k h
also_stands s x c ys k true e h = elim (in_list c x ys h) [
  | inl same ↦ subst (λ (y : Coded). all_stand s y.dependencies ≡ true) same (e refl)
  | inr h ↦ k h
]

pub standing_stand : (s : State) (i : ℕ) (cs : List Coded) (c : Coded) → IsMemberOf c (standing s i cs) → all_stand s c.dependencies ≡ true
standing_stand s i [] c h = absurd (in_none c h)
standing_stand s i (x ∷ cs) c h =
    also_stands s x c (standing s i cs) (standing_stand s i cs c) (not (x.name == i) && all_stand s x.dependencies) (and_second (not (x.name == i)) (all_stand s x.dependencies)) h
