-- What a body rests on is reached, so that a definition that turns nothing leaves it.
use Rattle.std.proofs.Common.{◌≡◌, ◌⊎◌, inl, inr, ◌&&◌, ◌||◌, not, if◌then◌else◌, ℕ, Bool, true, false, List, [], ◌∷◌, Option, refl, sym, subst, ◌==◌}
use Rattle.rl_tree.specs.Value.{Value, Int, Id, Str, Ref, Fun, Store}
use Rattle.rl_meaning.specs.State.{State, Tree, Atom, Quoted, Pair, Literal, Pointer, Definition, Function, SpecialForm, NativeFunction, HeldFunction}
use Rattle.rl_meaning.specs.Symbols.{t_number, symbol_at}
use Rattle.rl_meaning.specs.Holding.{function_number, function_at}
use Rattle.rl_meaning.specs.Reach.{identifier_in, value_identifiers, tree_mentions, Reached, is_reached, all_through, body_mentions, opened_names, reach_of, same_definition, running, expands, is_turned_by, turns_any, turns}
use Rattle.rl_agrees.specs.Later.{IsMore, IsMemberOf, first, further}
use Rattle.rl_agrees.specs.Heads.{leaves_in, leaves_of, Inside, inside_name, inside_object, RestsOn, on_truth, on_name, on_opened, Stays}
use Rattle.rl_agrees.proofs.LaterStands.{in_none, in_list, same_definition_more}
use Rattle.rl_agrees.proofs.HeadsReach.{or_either, or_second, reached_self, alone, reach_first, reach_opened}
use Rattle.rl_agrees.proofs.HeadsObjects.{in_front, in_behind, in_either, object_first, object_next}
use Rattle.rl_meaning.specs.Constants.{is_among, values_in, objects_of}
use Rattle.std.specs.Prelude.{filter_map, flat_map, slice_get}
use Rattle.std.proofs.lemmas.Bool.{eqb-true}

-- ---- what a body rests on is reached

-- ---- the identifiers in a value

identifier_kept : (i : ℕ) (vs : List Value) → IsMemberOf (Id i) vs → IsMemberOf i (filter_map identifier_in vs)
identifier_kept i [] h = absurd (in_none (Id i) h)
identifier_kept i (v ∷ vs) h = elim (in_list (Id i) v vs h) [
  | inl e ↦ subst (λ w. IsMemberOf i (filter_map identifier_in (w ∷ vs))) (sym e) (first (filter_map identifier_in vs))
  | inr k ↦ behind v (identifier_kept i vs k)
]
  where
    behind : (v : Value) → IsMemberOf i (filter_map identifier_in vs) → IsMemberOf i (filter_map identifier_in (v ∷ vs))
    behind (Id j) k = further j (filter_map identifier_in vs) k
    behind (Int z) k = k
    behind (Str bytes) k = k
    behind (Ref r) k = k
    behind (Fun f place) k = k

among_flat : (store : Store) (v : Value) (r : ℕ) (rs : List ℕ) → is_among r rs ≡ true → IsMemberOf v (values_in (slice_get store r)) → IsMemberOf v (flat_map (λ r. values_in (slice_get store r)) rs)
among_flat store v r [] h k = absurd (cc)
among_flat store v r (q ∷ rs) h k = elim (or_either (r == q) (is_among r rs) h) [
  | inl e ↦ in_front v (values_in (slice_get store q)) (flat_map (λ r. values_in (slice_get store r)) rs) (subst (λ x. IsMemberOf v (values_in (slice_get store x))) (eqb-true r q e) k)
  | inr more ↦ in_behind v (values_in (slice_get store q)) (flat_map (λ r. values_in (slice_get store r)) rs) (among_flat store v r rs more k)
]

-- a value in one of the objects of another
record Under (store : Store) (root v : Value) : Type 0 where
  pub object : ℕ
  pub is : is_among object (objects_of store (root ∷ [])) ≡ true
  pub has : IsMemberOf v (values_in (slice_get store object))

inside_among : (s t : State) (root v : Value) (i : ℕ) → (v ≡ root) ⊎ Under s.store root v → Inside s t v i → IsMemberOf (Id i) (root ∷ flat_map (λ r. values_in (slice_get s.store r)) (objects_of s.store (root ∷ [])))
inside_among s t root _ _ (inl e) (inside_name i) = subst (λ v. IsMemberOf (Id i) (v ∷ flat_map (λ r. values_in (slice_get s.store r)) (objects_of s.store (root ∷ [])))) e (first _)
inside_among s t root _ _ (inr under) (inside_name i) = further root _ (among_flat s.store (Id i) under.object (objects_of s.store (root ∷ [])) under.is under.has)
inside_among s t root _ _ (inl e) (inside_object r i v has unnoted more) = inside_among s t root v i (inr (record { object = r; is = subst (λ w. is_among r (objects_of s.store (w ∷ [])) ≡ true) e (object_first s.store r); has = has })) more
inside_among s t root _ _ (inr under) (inside_object r i v has unnoted more) = inside_among s t root v i (inr (record { object = r; is = object_next s.store root under.object r under.is under.has; has = has })) more

inside_mentioned : (s t : State) (v : Value) (i : ℕ) → Inside s t v i → IsMemberOf i (value_identifiers s.store v)
inside_mentioned s t v i h = identifier_kept i (v ∷ flat_map (λ r. values_in (slice_get s.store r)) (objects_of s.store (v ∷ []))) (inside_among s t v v i (inl refl) h)

-- ---- those in a body

one_leaf : (store : Store) (w v : Value) (i : ℕ) → IsMemberOf v (w ∷ []) → IsMemberOf i (value_identifiers store v) → IsMemberOf i (value_identifiers store w)
one_leaf store w v i h k = elim (in_list v w [] h) [
  | inl e ↦ subst (λ x. IsMemberOf i (value_identifiers store x)) (sym e) k
  | inr none ↦ absurd (in_none v none)
]

leaf_mentioned : (store : Store) (t : Tree) (v : Value) (i : ℕ) → IsMemberOf v (leaves_in t) → IsMemberOf i (value_identifiers store v) → IsMemberOf i (tree_mentions store t)
leaf_mentioned store (Atom w) v i h k = one_leaf store w v i h k
leaf_mentioned store (Quoted w) v i h k = one_leaf store w v i h k
leaf_mentioned store (Pair a d) v i h k = elim (in_either v (leaves_in a) (leaves_in d) h) [
  | inl l ↦ in_front i (tree_mentions store a) (tree_mentions store d) (leaf_mentioned store a v i l k)
  | inr r ↦ in_behind i (tree_mentions store a) (tree_mentions store d) (leaf_mentioned store d v i r k)
]
leaf_mentioned store (Literal n e) v i h k = elim (in_list v (Id function_number) (leaves_in e) h) [
  | inl same ↦ in_front i (function_number ∷ []) (tree_mentions store e) (subst (λ (xs : List ℕ). IsMemberOf i xs) (alone store function_number) (subst (λ x. IsMemberOf i (value_identifiers store x)) (sym same) k))
  | inr more ↦ further function_number (tree_mentions store e) (leaf_mentioned store e v i more k)
]

function_mentions : (s t : State) (f : Function) (v : Value) (i : ℕ) → IsMemberOf v (leaves_of f) → Inside s t v i → IsMemberOf i (body_mentions s f)
function_mentions s t (HeldFunction held) v i h k = leaf_mentioned s.store held.body v i h (inside_mentioned s t v i k)
function_mentions s t (SpecialForm form) v i h k = absurd (in_none v h)
function_mentions s t (NativeFunction native) v i h k = absurd (in_none v h)

all_reached : (through : Bool) (i : ℕ) (xs : List ℕ) → IsMemberOf i xs → is_reached (record { name = i; through = through }) (all_through through xs) ≡ true
all_reached through i [] h = absurd (in_none i h)
all_reached through i (x ∷ xs) h = elim (in_list i x xs h) [
  | inl e ↦ subst (λ y. is_reached (record { name = i; through = through }) (record { name = y; through = through } ∷ all_through through xs) ≡ true) (sym e) (reached_self (record { name = i; through = through }) (all_through through xs))
  | inr k ↦ or_second _ (is_reached (record { name = i; through = through }) (all_through through xs)) (all_reached through i xs k)
]

pub rests_reached : (s t : State) (f : Function) (i : ℕ) (through : Bool) → RestsOn s t f i through → is_reached (record { name = i; through = through }) (reach_of s f) ≡ true
rests_reached s t f _ _ on_truth = reach_first s f (record { name = t_number; through = false }) (reached_self (record { name = t_number; through = false }) (all_through false (body_mentions s f)))
rests_reached s t f _ _ (on_name v i h inside) = reach_first s f (record { name = i; through = false }) (all_reached false i (t_number ∷ body_mentions s f) (further t_number (body_mentions s f) (function_mentions s t f v i h inside)))
rests_reached s t f _ _ (on_opened i j through d v r e o h inside) =
    let z : Reached = record { name = j; through = true } in
    let all : List Reached = all_through true (body_mentions s (function_at s d.function)) in
    reach_opened s f (record { name = i; through = through }) z (rests_reached s t f i through r)
    (subst (λ (x : Option Definition). is_reached z (opened_names s (record { name = i; through = through }) x) ≡ true) (sym e)
    (subst (λ (b : Bool). is_reached z (if b then all else []) ≡ true) (sym o) (all_reached true j (body_mentions s (function_at s d.function)) (function_mentions s t (function_at s d.function) v j h inside))))

-- ---- a definition that turns nothing

or_none : (a b : Bool) → (a || b) ≡ false → (a ≡ false) × (b ≡ false)
or_none true b h = absurd (cc)
or_none false b h = (refl, h)

neither : (a b : Bool) → (not a && b) ≡ false → (a ≡ true) ⊎ (b ≡ false)
neither true b h = inl refl
neither false b h = inr h

not_both : (a b : Bool) → (a && b) ≡ false → b ≡ true → a ≡ false
not_both true b h k = absurd (cc)
not_both false b h k = refl

none_turned : (s : State) (b : Bool) (i : ℕ) (ps : List Pointer) (p : Pointer) → turns_any s b i ps ≡ false → IsMemberOf p ps → is_turned_by b i (reach_of s (function_at s p)) ≡ false
none_turned s b i [] p h k = absurd (in_none p k)
none_turned s b i (q ∷ ps) p h k =
    let both : (is_turned_by b i (reach_of s (function_at s q)) ≡ false) × (turns_any s b i ps ≡ false) = or_none _ _ h in
    elim (in_list p q ps k) [
      | inl e ↦ subst (λ (x : Pointer). is_turned_by b i (reach_of s (function_at s x)) ≡ false) e both.0
      | inr more ↦ none_turned s b i ps p both.1 more
    ]

-- what is reached and does not turn is reached through no macro, and expands neither before nor after
not_turned : (u : State) (i : ℕ) (old new : Option Definition) (reached : List Reached) (through : Bool) → is_turned_by (expands old || expands new) i reached ≡ false → is_reached (record { name = i; through = through }) reached ≡ true → Stays u through old new
not_turned u i old new reached true h k = absurd (cc)
not_turned u i old new reached false h k =
    let e : (expands old || expands new) ≡ false = not_both (expands old || expands new) (is_reached (record { name = i; through = false }) reached) (or_none (is_reached (record { name = i; through = true }) reached) ((expands old || expands new) && is_reached (record { name = i; through = false }) reached) h).1 k in
    inr (or_none (expands old) (expands new) e)

same_stays : (u : State) (through : Bool) (old new : Option Definition) → same_definition u old new ≡ true → Stays u through old new
same_stays u true old new h = h
same_stays u false old new h = inl h

-- the definition of a name changes and turns nothing
pub unturned_stays : (s u : State) → IsMore s.functions u.functions → (i : ℕ) (d : Option Definition) → turns i d s ≡ false → (p : Pointer) → IsMemberOf p (running s.bindings) → (through : Bool) → RestsOn s u (function_at s p) i through → Stays u through (symbol_at s i).definition d
unturned_stays s u more i d h p run through r =
    let old : Option Definition = (symbol_at s i).definition in
    elim (neither (same_definition s old d) (turns_any s (expands old || expands d) i (running s.bindings)) h) [
      | inl same ↦ same_stays u through old d (same_definition_more s u more old d same)
      | inr none ↦ not_turned u i old d (reach_of s (function_at s p)) through (none_turned s (expands old || expands d) i (running s.bindings) p none run) (rests_reached s u (function_at s p) i through r)
    ]
