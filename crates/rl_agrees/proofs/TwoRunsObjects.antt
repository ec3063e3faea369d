-- Objects of two runs side by side: looking at them, making and changing them; and errors.
use Rattle.std.proofs.Common.{◌≡◌, ◌⊎◌, inl, inr, ◌==◌, ◌&&◌, if◌then◌else◌, ℤ, ℕ, zero, suc, pos, Bool, true, false, List, [], ◌∷◌, ◌++◌, length, slice_get, slice_set, slice_index_or, Option, Some, None, refl, sym, ap, subst, arith}
use Rattle.std.specs.Str.{bytes_eq}
use Rattle.std.proofs.Common.{length-append}
use Rattle.std.proofs.Math.Decide.{ℕ_discrete}
use Rattle.std.proofs.lemmas.Bool.Decides.{nat_tests}
use Rattle.rl_tree.specs.Value.{Value, Id, Ref, Object, Store}
use Rattle.rl_tree.specs.Name.{Name}
use Rattle.rl_meaning.specs.State.{State, Symbol, Function}
use Rattle.rl_meaning.specs.Outcome.{Done, made_pair, made_string, made_vector, made_symbol}
use Rattle.rl_meaning.specs.Symbols.{nil_value_of_state, nil_number, message_id, is_nil, same, parts_of, places_of, pair_at, vector_at, symbol_at, with_symbol, with_top, new_symbol, interned_at, named_from, interned}
use Rattle.rl_meaning.specs.Errors.{raise, fail}
use Rattle.rl_meaning.specs.Copying.{with_object}
use Rattle.rl_meaning.specs.TwoRunsLinks.{Links, link, Linked, newest, older, OneToOne}
use Rattle.rl_agrees.proofs.TwoRunsLinked.{linked_cases, one_more, within_more, get_left, get_last, get_set_same, get_set_other, length_set}
use Rattle.rl_meaning.specs.TwoRunsValues.{Names, Grows, Maybe, nothing, just, Each, end, more, SameValue, same_int, same_id, same_str, same_ref, same_fun, SameParts, same_parts, SameObject, same_pair, same_vector, SameFunction, SameSymbol, same_symbol}
use Rattle.rl_meaning.specs.TwoRunsStates.{Bounds, SameStore, SameFunctions, EntryPlace, Like}
use Rattle.rl_meaning.specs.TwoRunsEnds.{done, failed}
use Rattle.rl_agrees.proofs.TwoRunsGrowth.{grows_refl, maybe_grows, each_grows, value_grows, object_grows, function_grows, symbol_grows, aligned_grows, compilation_grows}
use Rattle.rl_agrees.proofs.TwoRunsWays.{Beside, then_related, done_now, room_related}

-- ---- looking

parts_same : (n : Names) (o p : Option Object) → Maybe (SameObject n) o p → Maybe (SameParts n) (parts_of o) (parts_of p)
parts_same n o p nothing = nothing
parts_same n o p (just _ _ (same_pair a d b e h k)) = just _ _ (same_parts a d b e h k)
parts_same n o p (just _ _ (same_vector xs ys h)) = nothing

places_same : (n : Names) (o p : Option Object) → Maybe (SameObject n) o p → Maybe (Each (SameValue n)) (places_of o) (places_of p)
places_same n o p nothing = nothing
places_same n o p (just _ _ (same_pair a d b e h k)) = nothing
places_same n o p (just _ _ (same_vector xs ys h)) = just _ _ h

module _ {bounds : Bounds} where
  pub pair_same : (n : Names) (ps : List EntryPlace) (s t : State) (v w : Value) → Like bounds n ps s t → SameValue n v w → Maybe (SameParts n) (pair_at s v) (pair_at t w)
  pair_same n ps s t v w l (same_ref r q h) = parts_same n _ _ (l.store.is r q h)
  pair_same n ps s t v w l (same_int z) = nothing
  pair_same n ps s t v w l (same_id i) = nothing
  pair_same n ps s t v w l (same_str bytes) = nothing
  pair_same n ps s t v w l (same_fun f g place h) = nothing

  pub vector_same : (n : Names) (ps : List EntryPlace) (s t : State) (v w : Value) → Like bounds n ps s t → SameValue n v w → Maybe (Each (SameValue n)) (vector_at s v) (vector_at t w)
  vector_same n ps s t v w l (same_ref r q h) = places_same n _ _ (l.store.is r q h)
  vector_same n ps s t v w l (same_int z) = nothing
  vector_same n ps s t v w l (same_id i) = nothing
  vector_same n ps s t v w l (same_str bytes) = nothing
  vector_same n ps s t v w l (same_fun f g place h) = nothing

pub nil_same : (n : Names) (v w : Value) → SameValue n v w → is_nil v ≡ is_nil w
nil_same n v w (same_int z) = refl
nil_same n v w (same_id i) = refl
nil_same n v w (same_str bytes) = refl
nil_same n v w (same_ref r q h) = refl
nil_same n v w (same_fun f g place h) = refl

equal_test : (b c : Bool) → (b ≡ true → c ≡ true) → (c ≡ true → b ≡ true) → b ≡ c
equal_test true true h k = refl
equal_test false false h k = refl
equal_test true false h k = sym (h refl)
equal_test false true h k = k refl

numbers_same : (r p q o : ℕ) → (r ≡ p → q ≡ o) → (q ≡ o → r ≡ p) → (r == p) ≡ (q == o)
numbers_same r p q o h k = grind (arith, nat_tests, h, k)

pub linked_same : (ls : Links) (r p q o : ℕ) → OneToOne ls → Linked ls r q → Linked ls p o → (r == p) ≡ (q == o)
linked_same ls r p q o one h k = numbers_same r p q o (λ e. one.right p q o (subst (λ x. Linked ls x q) e h) k) (λ e. one.left r p o (subst (λ x. Linked ls r x) e h) k)

pub same_same : (n : Names) (u v x y : Value) → OneToOne n.objects → OneToOne n.functions → SameValue n u v → SameValue n x y → same u x ≡ same v y
same_same n u v x y o f (same_ref r q h) (same_ref p k g) = linked_same n.objects r p q k o h g
same_same n u v x y o f (same_fun r q place h) (same_fun p k other g) = ap (λ b. b && place == other) (linked_same n.functions r p q k f h g)
same_same n u v x y o f (same_int z) (same_int w) = refl
same_same n u v x y o f (same_id z) (same_id w) = refl
same_same n u v x y o f (same_str z) (same_str w) = refl
same_same n u v x y o f (same_int z) (same_id i) = refl
same_same n u v x y o f (same_int z) (same_str i) = refl
same_same n u v x y o f (same_int z) (same_ref r q h) = refl
same_same n u v x y o f (same_int z) (same_fun r q place h) = refl
same_same n u v x y o f (same_id i) (same_int z) = refl
same_same n u v x y o f (same_id i) (same_str z) = refl
same_same n u v x y o f (same_id i) (same_ref r q h) = refl
same_same n u v x y o f (same_id i) (same_fun r q place h) = refl
same_same n u v x y o f (same_str i) (same_int z) = refl
same_same n u v x y o f (same_str i) (same_id z) = refl
same_same n u v x y o f (same_str i) (same_ref r q h) = refl
same_same n u v x y o f (same_str i) (same_fun r q place h) = refl
same_same n u v x y o f (same_ref r q h) (same_int z) = refl
same_same n u v x y o f (same_ref r q h) (same_id z) = refl
same_same n u v x y o f (same_ref r q h) (same_str z) = refl
same_same n u v x y o f (same_ref r q h) (same_fun i j other k) = refl
same_same n u v x y o f (same_fun r q place h) (same_int z) = refl
same_same n u v x y o f (same_fun r q place h) (same_id z) = refl
same_same n u v x y o f (same_fun r q place h) (same_str z) = refl
same_same n u v x y o f (same_fun r q place h) (same_ref i j k) = refl

-- ---- elements of lists

pub each_at : {A : Type 0} (R : A → A → Type 0) (xs ys : List A) (d e : A) (i : ℕ) → Each R xs ys → R d e → R (slice_index_or xs i d) (slice_index_or ys i e)
each_at R xs ys d e i end r = r
each_at R xs ys d e zero (more a b as' bs h k) r = h
each_at R xs ys d e (suc i) (more a b as' bs h k) r = each_at R as' bs d e i k r

pub each_set : {A : Type 0} (R : A → A → Type 0) (xs ys : List A) (i : ℕ) (a b : A) → Each R xs ys → R a b → Each R (slice_set xs i a) (slice_set ys i b)
each_set R xs ys i a b end r = end
each_set R xs ys zero a b (more x y as' bs h k) r = more a b as' bs r k
each_set R xs ys (suc i) a b (more x y as' bs h k) r = more x y _ _ h (each_set R as' bs i a b k r)

pub each_append : {A : Type 0} (R : A → A → Type 0) (xs ys vs ws : List A) → Each R xs ys → Each R vs ws → Each R (xs ++ vs) (ys ++ ws)
each_append R xs ys vs ws end r = r
each_append R xs ys vs ws (more x y as' bs h k) r = more x y _ _ h (each_append R as' bs vs ws k r)

pub each_length : {A : Type 0} (R : A → A → Type 0) (xs ys : List A) → Each R xs ys → length xs ≡ length ys
each_length R xs ys end = refl
each_length R xs ys (more x y as' bs h k) = ap suc (each_length R as' bs k)

pub each_get : {A : Type 0} (R : A → A → Type 0) (xs ys : List A) (i : ℕ) → Each R xs ys → Maybe R (slice_get xs i) (slice_get ys i)
each_get R xs ys i end = nothing
each_get R xs ys zero (more a b as' bs h k) = just a b h
each_get R xs ys (suc i) (more a b as' bs h k) = each_get R as' bs i k

-- ---- making

-- the names with one more object
abbrev pub with_link : ℕ → ℕ → Names → Names
with_link a b n = record n { objects = link a b n.objects }

link_grows : (a b : ℕ) (n : Names) → Grows n (with_link a b n)
link_grows a b n = record { objects = λ r q h. older a b r q n.objects h; functions = λ f g h. h }

new_store : (n : Names) (s t : Store) (o p : Object) → SameStore n s t → SameObject n o p → SameStore (with_link (length s) (length t) n) (s ++ o ∷ []) (t ++ p ∷ [])
new_store n s t o p h k = record {
  once = one_more n.objects (length s) (length t) h.once h.within;
  within = within_more n.objects (length s) (length t) _ _ h.within (omega (arith, length-append s (o ∷ []))) (omega (arith, length-append t (p ∷ [])));
  is = λ r q l. at r q (linked_cases (length s) (length t) r q n.objects l);
}
  where
    m : Names
    m = with_link (length s) (length t) n

    at : (r q : ℕ) → ((r ≡ length s) × (q ≡ length t)) ⊎ Linked n.objects r q → Maybe (SameObject m) (slice_get (s ++ o ∷ []) r) (slice_get (t ++ p ∷ []) q)
    at r q (inl e) = rw (e.0, e.1, get_last s o, get_last t p) (just o p (object_grows n m o p k (link_grows (length s) (length t) n)))
    at r q (inr l) = rw (get_left s (o ∷ []) r (h.within.left r q l), get_left t (p ∷ []) q (h.within.right r q l)) (maybe_grows (SameObject n) (SameObject m) (λ a b x. object_grows n m a b x (link_grows (length s) (length t) n)) _ _ (h.is r q l))

functions_links : (n : Names) (ls : Links) (s t : List Function) → Grows n (record n { objects = ls }) → SameFunctions n s t → SameFunctions (record n { objects = ls }) s t
functions_links n ls s t g h = record {
  once = h.once;
  within = h.within;
  is = λ i j l. maybe_grows (SameFunction n) (SameFunction (record n { objects = ls })) (λ a b x. function_grows n _ a b x g) _ _ (h.is i j l);
}

module _ {bounds : Bounds} where
  pub new_like : (n : Names) (ps : List EntryPlace) (s t : State) (o p : Object) → Like bounds n ps s t → SameObject n o p → Like bounds (with_link (length s.store) (length t.store) n) ps (record s { store = s.store ++ o ∷ [] }) (record t { store = t.store ++ p ∷ [] })
  new_like n ps s t o p l k =
      let m : Names = with_link (length s.store) (length t.store) n in
      let g : Grows n m = link_grows (length s.store) (length t.store) n in
      record {
        store = new_store n s.store t.store o p l.store k;
        functions = functions_links n _ s.functions t.functions g l.functions;
        symbols = each_grows (SameSymbol n) (SameSymbol m) (λ a b x. symbol_grows n m a b x g) _ _ l.symbols;
        bindings = aligned_grows n m ps _ _ l.bindings g;
        counts = l.counts;
        outside = l.outside;
        gensyms = l.gensyms;
        compilation = compilation_grows n m s.compilation t.compilation l.compilation g;
      }

  new_related : (n : Names) (ps : List EntryPlace) (s t : State) (o p : Object) → Like bounds n ps s t → SameObject n o p → Beside bounds SameValue n ps (Done (Ref (length s.store)) (record s { store = s.store ++ o ∷ [] })) (Done (Ref (length t.store)) (record t { store = t.store ++ p ∷ [] }))
  new_related n ps s t o p l k =
      done (with_link (length s.store) (length t.store) n) _ _ _ _ (link_grows (length s.store) (length t.store) n) (same_ref _ _ (newest (length s.store) (length t.store) n.objects)) (new_like n ps s t o p l k)

  pub made_pair_related : (n : Names) (ps : List EntryPlace) (a b d e : Value) (s t : State) → Like bounds n ps s t → SameValue n a b → SameValue n d e → Beside bounds SameValue n ps (made_pair a d s) (made_pair b e t)
  made_pair_related n ps a b d e s t l h k = room_related n ps 1 s t _ _ l (λ s t l. new_related n ps s t _ _ l (same_pair a d b e h k))

  pub made_string_related : (n : Names) (ps : List EntryPlace) (bytes : List ℕ) (s t : State) → Like bounds n ps s t → Beside bounds SameValue n ps (made_string bytes s) (made_string bytes t)
  made_string_related n ps bytes s t l = room_related n ps _ s t _ _ l (λ s t l. done_now n ps _ _ s t (same_str bytes) l)

  pub made_vector_related : (n : Names) (ps : List EntryPlace) (xs ys : List Value) (s t : State) → Like bounds n ps s t → Each (SameValue n) xs ys → Beside bounds SameValue n ps (made_vector xs s) (made_vector ys t)
  made_vector_related n ps xs ys s t l h = rw (← each_length (SameValue n) xs ys h) (room_related n ps _ s t _ _ l (λ s t l. new_related n ps s t _ _ l (same_vector xs ys h)))

-- ---- changing

set_store : (n : Names) (s t : Store) (r q : ℕ) (o p : Object) → SameStore n s t → Linked n.objects r q → SameObject n o p → SameStore n (slice_set s r o) (slice_set t q p)
set_store n s t r q o p h l k = record {
  once = h.once;
  within = record { left = λ i j x. rw (length_set s r o) (h.within.left i j x); right = λ i j x. rw (length_set t q p) (h.within.right i j x) };
  is = λ i j x. at i j x (ℕ_discrete i r);
}
  where
    at : (i j : ℕ) → Linked n.objects i j → Dec (i ≡ r) → Maybe (SameObject n) (slice_get (slice_set s r o) i) (slice_get (slice_set t q p) j)
    at i j x (yes e) =
        let f : j ≡ q = h.once.right r j q (subst (λ y. Linked n.objects y j) e x) l in
        rw (e, f, get_set_same s r o (h.within.left r q l), get_set_same t q p (h.within.right r q l)) (just o p k)
    at i j x (no e) =
        rw (get_set_other s r i o e, get_set_other t q j p (λ f. e (h.once.left i r q (subst (λ y. Linked n.objects i y) f x) l))) (h.is i j x)

module _ {bounds : Bounds} where
  pub set_like : (n : Names) (ps : List EntryPlace) (s t : State) (x y : Store) → Like bounds n ps s t → SameStore n x y → Like bounds n ps (record s { store = x }) (record t { store = y })
  set_like n ps s t x y l h = record { store = h; functions = l.functions; symbols = l.symbols; bindings = l.bindings; counts = l.counts; outside = l.outside; gensyms = l.gensyms; compilation = l.compilation }

  pub with_object_like : (n : Names) (ps : List EntryPlace) (v w : Value) (o p : Object) (s t : State) → Like bounds n ps s t → SameValue n v w → SameObject n o p → Like bounds n ps (with_object v o s) (with_object w p t)
  with_object_like n ps v w o p s t l (same_ref r q h) k = set_like n ps s t _ _ l (set_store n s.store t.store r q o p l.store h k)
  with_object_like n ps v w o p s t l (same_int z) k = l
  with_object_like n ps v w o p s t l (same_id i) k = l
  with_object_like n ps v w o p s t l (same_str bytes) k = l
  with_object_like n ps v w o p s t l (same_fun f g place h) k = l

-- ---- identifiers

pub new_symbol_same : (n : Names) (name : Name) (b : Bool) → SameSymbol n (new_symbol name b) (new_symbol name b)
new_symbol_same n name b = same_symbol name b _ _ _ _ _ _ _ nothing (same_id nil_number) nothing

module _ {bounds : Bounds} where
  pub symbol_same : (n : Names) (ps : List EntryPlace) (s t : State) (i : ℕ) → Like bounds n ps s t → SameSymbol n (symbol_at s i) (symbol_at t i)
  symbol_same n ps s t i l = each_at (SameSymbol n) s.symbols t.symbols _ _ i l.symbols (new_symbol_same n [] false)

  pub symbols_like : (n : Names) (ps : List EntryPlace) (s t : State) (xs ys : List Symbol) → Like bounds n ps s t → Each (SameSymbol n) xs ys → Like bounds n ps (record s { symbols = xs }) (record t { symbols = ys })
  symbols_like n ps s t xs ys l h = record { store = l.store; functions = l.functions; symbols = h; bindings = l.bindings; counts = l.counts; outside = l.outside; gensyms = l.gensyms; compilation = l.compilation }

  pub with_symbol_like : (n : Names) (ps : List EntryPlace) (i : ℕ) (x y : Symbol) (s t : State) → Like bounds n ps s t → SameSymbol n x y → Like bounds n ps (with_symbol i x s) (with_symbol i y t)
  with_symbol_like n ps i x y s t l h = symbols_like n ps s t _ _ l (each_set (SameSymbol n) s.symbols t.symbols i x y l.symbols h)

top_same : (n : Names) (x y : Symbol) (v w : Value) → SameSymbol n x y → SameValue n v w → SameSymbol n (record x { top = Some v }) (record y { top = Some w })
top_same n x y v w (same_symbol name interned kind a b p q d e h k l) r = same_symbol name interned kind _ _ p q d e (just v w r) k l

module _ {bounds : Bounds} where
  pub with_top_like : (n : Names) (ps : List EntryPlace) (i : ℕ) (v w : Value) (s t : State) → Like bounds n ps s t → SameValue n v w → Like bounds n ps (with_top i v s) (with_top i w t)
  with_top_like n ps i v w s t l h = with_symbol_like n ps i _ _ s t l (top_same n _ _ v w (symbol_same n ps s t i l) h)

  pub made_symbol_related : (n : Names) (ps : List EntryPlace) (name : Name) (b : Bool) (s t : State) → Like bounds n ps s t → Beside bounds SameValue n ps (made_symbol (new_symbol name b) s) (made_symbol (new_symbol name b) t)
  made_symbol_related n ps name b s t l = room_related n ps _ s t _ _ l (λ s t l. made s t l)
    where
      made : (s t : State) → Like bounds n ps s t → Beside bounds SameValue n ps (Done (Id (length s.symbols)) (record s { symbols = s.symbols ++ new_symbol name b ∷ [] })) (Done (Id (length t.symbols)) (record t { symbols = t.symbols ++ new_symbol name b ∷ [] }))
      made s t l = rw (← each_length (SameSymbol n) s.symbols t.symbols l.symbols)
          (done_now n ps _ _ _ _ (same_id (length s.symbols)) (symbols_like n ps s t _ _ l (each_append (SameSymbol n) s.symbols t.symbols _ _ l.symbols (more _ _ [] [] (new_symbol_same n name b) end))))

pub named_same : (n : Names) (i : ℕ) (name : Name) (xs ys : List Symbol) → Each (SameSymbol n) xs ys → named_from i name xs ≡ named_from i name ys
named_same n i name xs ys end = refl
named_same n i name xs ys (more _ _ as' bs (same_symbol x interned kind a b p q d e h k l) r) = ap (λ o. if interned && bytes_eq x name then Some i else o) (named_same n (suc i) name as' bs r)

module _ {bounds : Bounds} where
  interned_at_related : (n : Names) (ps : List EntryPlace) (o : Option ℕ) (name : Name) (s t : State) → Like bounds n ps s t → Beside bounds SameValue n ps (interned_at o name s) (interned_at o name t)
  interned_at_related n ps (Some i) name s t l = done_now n ps _ _ s t (same_id i) l
  interned_at_related n ps None name s t l = made_symbol_related n ps name true s t l

  pub interned_related : (n : Names) (ps : List EntryPlace) (name : Name) (s t : State) → Like bounds n ps s t → Beside bounds SameValue n ps (interned name s) (interned name t)
  interned_related n ps name s t l = rw (← named_same n 0 name s.symbols t.symbols l.symbols) (interned_at_related n ps _ name s t l)

  -- ---- errors

  pub raise_related : {A : Type 0} {R : Names → A → A → Type 0} (n : Names) (ps : List EntryPlace) (z : ℤ) (v w : Value) (s t : State) → Like bounds n ps s t → SameValue n v w → Beside bounds {A = A} R n ps (raise z v s) (raise z w t)
  raise_related n ps z v w s t l h = failed n z v w _ _ (grows_refl n) h (with_top_like n ps message_id v w s t l h)

  pub fail_related : {A : Type 0} {R : Names → A → A → Type 0} (n : Names) (ps : List EntryPlace) (i : ℕ) (v w : Value) (s t : State) → Like bounds n ps s t → SameValue n v w → Beside bounds {A = A} R n ps (fail i v s) (fail i w t)
  fail_related n ps i v w s t l h =
      then_related n ps _ _ _ _ (made_pair_related n ps _ _ nil_value_of_state nil_value_of_state s t l (same_str _) (same_id nil_number)) (λ m a b s t g r l.
      then_related m ps _ _ _ _ (made_pair_related m ps v w a b s t l (value_grows n m v w h g) r) (λ k a b s t g r l.
      raise_related k ps (pos i) a b s t l r))
