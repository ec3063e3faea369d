-- Tests, vectors, and identifiers made of texts, of two runs side by side.
use Rattle.std.proofs.Common.{◌≡◌, ◌&&◌, ◌||◌, if◌then◌else◌, not, ℤ, pos, negsuc, ℕ, zero, suc, Bool, false, List, [], ◌∷◌, ◌++◌, length, Option, Some, None, refl, ap, subst}
use Rattle.std.specs.Prelude.{is_some, replicate, decimal}
use Rattle.rl_tree.specs.Value.{Value, Int, Id, Str, Ref, Fun}
use Rattle.rl_tree.specs.Value as object
use Rattle.rl_tree.specs.Bytes.{is_digit, is_upper, is_lower}
use Rattle.rl_tree.specs.Name.{Name}
use Rattle.rl_tree.specs.Atoms.{Style, Prin1, atom_text}
use Rattle.rl_tree.specs.declared.held.VarKind.{VarKind}
use Rattle.rl_meaning.specs.Names as names
use Rattle.rl_meaning.specs.State.{State, Symbol}
use Rattle.rl_meaning.specs.Outcome.{Outcome, Done, made_symbol}
use Rattle.rl_meaning.specs.Symbols.{nil_value_of_state, symbol_at, name_of_number, of_byte, new_symbol}
use Rattle.rl_meaning.specs.Atoms.{is_object, is_identifier, is_integer, is_string, is_function, is_integer_with, is_one_byte, is_fluid, is_global, is_named, is_declared, holds, made_places, mkvect, place_at, with_place_of, with_vector, getv, putv, upper_bound, upbv, padded, gensym, intern, of_bytes, explode, Spelled, InName, InNumber, AtZero, AfterQuote, Compressed, Spells, Stops, atom_spelled, compressed_atom, one_byte_of, with_byte, bytes_named, compress_bytes, proper, compress}
use Rattle.rl_meaning.specs.Lists.{made_list}
use Rattle.rl_meaning.specs.TwoRunsLinks.{newest, older}
use Rattle.rl_meaning.specs.TwoRunsValues.{Names, Grows, Maybe, nothing, just, Each, end, more, SameValue, same_int, same_id, same_str, same_ref, same_fun, same_vector, SameSymbol, same_symbol}
use Rattle.rl_meaning.specs.TwoRunsStates.{Bounds, EntryPlace, Like}
use Rattle.rl_meaning.specs.TwoRunsEnds.{done}
use Rattle.rl_agrees.proofs.TwoRunsGrowth.{value_grows}
use Rattle.rl_agrees.proofs.TwoRunsWays.{Beside, then_value, done_now, choose_related, room_related, reading_like, changing_like}
use Rattle.rl_agrees.proofs.TwoRunsObjects.{pair_same, vector_same, nil_same, symbol_same, each_length, each_get, each_set, each_append, with_link, new_like, made_string_related, made_symbol_related, named_same, interned_related, fail_related, with_object_like}
use Rattle.rl_agrees.proofs.TwoRunsWalks.{same_goes, then_walked, walk_related}
use Rattle.rl_agrees.proofs.TwoRunsLists.{no_chain, made_list_related}
use Rattle.rl_agrees.proofs.TwoRunsNumbers.{or_nil_same}

-- ---- what a symbol has

name_of : (n : Names) (x y : Symbol) → SameSymbol n x y → x.name ≡ y.name
name_of n _ _ (same_symbol name interned kind a b p q d e h k l) = refl

module _ {bounds : Bounds} where
  pub name_same : (n : Names) (ps : List EntryPlace) (s t : State) (i : ℕ) → Like bounds n ps s t → name_of_number s i ≡ name_of_number t i
  name_same n ps s t i l = name_of n _ _ (symbol_same n ps s t i l)

kind_of : (n : Names) (x y : Symbol) → SameSymbol n x y → x.kind ≡ y.kind
kind_of n _ _ (same_symbol name interned kind a b p q d e h k l) = refl

module _ {bounds : Bounds} where
  pub kind_same : (n : Names) (ps : List EntryPlace) (s t : State) (i : ℕ) → Like bounds n ps s t → (symbol_at s i).kind ≡ (symbol_at t i).kind
  kind_same n ps s t i l = kind_of n _ _ (symbol_same n ps s t i l)

-- ---- tests

some_same : {A : Type 0} (R : A → A → Type 0) (o p : Option A) → Maybe R o p → is_some o ≡ is_some p
some_same R _ _ nothing = refl
some_same R _ _ (just a b h) = refl

module _ {bounds : Bounds} where
  object_same : (n : Names) (ps : List EntryPlace) (s t : State) (v w : Value) → Like bounds n ps s t → SameValue n v w → is_object s v ≡ is_object t w
  object_same n ps s t v w l h = some_same _ _ _ (pair_same n ps s t v w l h)

identifier_same : (n : Names) (v w : Value) → SameValue n v w → is_identifier v ≡ is_identifier w
identifier_same n _ _ (same_int z) = refl
identifier_same n _ _ (same_id i) = refl
identifier_same n _ _ (same_str bytes) = refl
identifier_same n _ _ (same_ref r q h) = refl
identifier_same n _ _ (same_fun f g place h) = refl

integer_same : (n : Names) (v w : Value) → SameValue n v w → is_integer v ≡ is_integer w
integer_same n _ _ (same_int z) = refl
integer_same n _ _ (same_id i) = refl
integer_same n _ _ (same_str bytes) = refl
integer_same n _ _ (same_ref r q h) = refl
integer_same n _ _ (same_fun f g place h) = refl

string_same : (n : Names) (v w : Value) → SameValue n v w → is_string v ≡ is_string w
string_same n _ _ (same_int z) = refl
string_same n _ _ (same_id i) = refl
string_same n _ _ (same_str bytes) = refl
string_same n _ _ (same_ref r q h) = refl
string_same n _ _ (same_fun f g place h) = refl

function_same : (n : Names) (v w : Value) → SameValue n v w → is_function v ≡ is_function w
function_same n _ _ (same_int z) = refl
function_same n _ _ (same_id i) = refl
function_same n _ _ (same_str bytes) = refl
function_same n _ _ (same_ref r q h) = refl
function_same n _ _ (same_fun f g place h) = refl

integer_with_same : (n : Names) (test : ℤ → Bool) (v w : Value) → SameValue n v w → is_integer_with test v ≡ is_integer_with test w
integer_with_same n test _ _ (same_int z) = refl
integer_with_same n test _ _ (same_id i) = refl
integer_with_same n test _ _ (same_str bytes) = refl
integer_with_same n test _ _ (same_ref r q h) = refl
integer_with_same n test _ _ (same_fun f g place h) = refl

module _ {bounds : Bounds} where
  named_with_same : (n : Names) (ps : List EntryPlace) (s t : State) (test : Name → Bool) (v w : Value) → Like bounds n ps s t → SameValue n v w → is_named s test v ≡ is_named t test w
  named_with_same n ps s t test _ _ l (same_int z) = refl
  named_with_same n ps s t test _ _ l (same_id i) = ap (λ x. test x) (name_same n ps s t i l)
  named_with_same n ps s t test _ _ l (same_str bytes) = refl
  named_with_same n ps s t test _ _ l (same_ref r q h) = refl
  named_with_same n ps s t test _ _ l (same_fun f g place h) = refl

  declared_same : (n : Names) (ps : List EntryPlace) (s t : State) (test : VarKind → Bool) (v w : Value) → Like bounds n ps s t → SameValue n v w → is_declared s test v ≡ is_declared t test w
  declared_same n ps s t test _ _ l (same_int z) = refl
  declared_same n ps s t test _ _ l (same_id i) = ap (λ x. test x) (kind_same n ps s t i l)
  declared_same n ps s t test _ _ l (same_str bytes) = refl
  declared_same n ps s t test _ _ l (same_ref r q h) = refl
  declared_same n ps s t test _ _ l (same_fun f g place h) = refl

  pub holds_same : (n : Names) (ps : List EntryPlace) (s t : State) (test : names.Test) (v w : Value) → Like bounds n ps s t → SameValue n v w → holds test s v ≡ holds test t w
  holds_same n ps s t names.Atom v w l h = ap (λ b. not b) (object_same n ps s t v w l h)
  holds_same n ps s t names.Codep v w l h = function_same n v w h
  holds_same n ps s t names.Constantp v w l h = λ k. not (object_same n ps s t v w l h k) && not (identifier_same n v w h k)
  holds_same n ps s t names.Fixp v w l h = integer_same n v w h
  holds_same n ps s t names.Idp v w l h = identifier_same n v w h
  holds_same n ps s t names.Null v w l h = nil_same n v w h
  holds_same n ps s t names.Pairp v w l h = object_same n ps s t v w l h
  holds_same n ps s t names.Stringp v w l h = string_same n v w h
  holds_same n ps s t names.Vectorp v w l h = some_same _ _ _ (vector_same n ps s t v w l h)
  holds_same n ps s t names.Minusp v w l h = integer_with_same n _ v w h
  holds_same n ps s t names.Onep v w l h = integer_with_same n _ v w h
  holds_same n ps s t names.Zerop v w l h = integer_with_same n _ v w h
  holds_same n ps s t names.Digit v w l h = named_with_same n ps s t (is_one_byte is_digit) v w l h
  holds_same n ps s t names.Liter v w l h = named_with_same n ps s t (is_one_byte (λ b. is_upper b || is_lower b)) v w l h
  holds_same n ps s t names.Fluidp v w l h = declared_same n ps s t is_fluid v w l h
  holds_same n ps s t names.Globalp v w l h = declared_same n ps s t is_global v w l h

-- ---- vectors

nils : (n : Names) (i : ℕ) → Each (SameValue n) (replicate i nil_value_of_state) (replicate i nil_value_of_state)
nils n zero = end
nils n (suc i) = more nil_value_of_state nil_value_of_state _ _ (same_id 0) (nils n i)

module _ {bounds : Bounds} where
  made_places_related : (n : Names) (ps : List EntryPlace) (places : ℕ) (s t : State) → Like bounds n ps s t → Beside bounds SameValue n ps (made_places places s) (made_places places t)
  made_places_related n ps places s t l = room_related n ps _ s t _ _ l made
    where
      made : (s t : State) → Like bounds n ps s t → Beside bounds SameValue n ps (Done (Ref (length s.store)) (record s { store = s.store ++ object.Vector (replicate places nil_value_of_state) ∷ [] })) (Done (Ref (length t.store)) (record t { store = t.store ++ object.Vector (replicate places nil_value_of_state) ∷ [] }))
      made s t l =
          let a : ℕ = length s.store in
          let b : ℕ = length t.store in
          let g : Grows n (with_link a b n) = record { objects = λ r q h. older a b r q n.objects h; functions = λ f g h. h } in
          done (with_link a b n) _ _ _ _ g (same_ref a b (newest a b n.objects)) (new_like n ps s t _ _ l (same_vector _ _ (nils n places)))

  pub mkvect_related : (n : Names) (ps : List EntryPlace) (v w : Value) (s t : State) → SameValue n v w → Like bounds n ps s t → Beside bounds SameValue n ps (mkvect v s) (mkvect w t)
  mkvect_related n ps _ _ s t (same_int (pos i)) l = search (choose_related, made_places_related, fail_related, same_int)
  mkvect_related n ps _ _ s t (same_int (negsuc zero)) l = made_places_related n ps 0 s t l
  mkvect_related n ps _ _ s t (same_int (negsuc (suc i))) l = search (fail_related, same_int)
  mkvect_related n ps _ _ s t (same_id i) l = search (fail_related, same_id)
  mkvect_related n ps _ _ s t (same_str bytes) l = search (fail_related, same_str)
  mkvect_related n ps _ _ s t (same_ref r q h) l = search (fail_related, same_ref)
  mkvect_related n ps _ _ s t (same_fun f g place h) l = search (fail_related, same_fun)

  with_vector_related : {A : Type 0} {R : Names → A → A → Type 0} (n : Names) (ps : List EntryPlace) (o p : Option (List Value)) (v w : Value) (s t : State) (f g : List Value → State → Outcome A) → Maybe (Each (SameValue n)) o p → SameValue n v w → Like bounds n ps s t
      → ((xs ys : List Value) → Each (SameValue n) xs ys → Beside bounds R n ps (f xs s) (g ys t)) → Beside bounds R n ps (with_vector o v s f) (with_vector p w t g)
  with_vector_related n ps _ _ v w s t f g (just xs ys k) r l h = h xs ys k
  with_vector_related n ps _ _ v w s t f g nothing r l h = search fail_related

  place_at_related : {A : Type 0} {R : Names → A → A → Type 0} (n : Names) (ps : List EntryPlace) (xs ys : List Value) (i : ℕ) (o p : Option Value) (s t : State) (f g : ℕ → Value → State → Outcome A) → Maybe (SameValue n) o p → Like bounds n ps s t
      → ((x y : Value) → SameValue n x y → Beside bounds R n ps (f i x s) (g i y t)) → Beside bounds R n ps (place_at xs i o s f) (place_at ys i p t g)
  place_at_related n ps xs ys i _ _ s t f g (just x y k) l h = h x y k
  place_at_related n ps xs ys i _ _ s t f g nothing l h = search (fail_related, same_int)

  place_of_related : {A : Type 0} {R : Names → A → A → Type 0} (n : Names) (ps : List EntryPlace) (xs ys : List Value) (i j : Value) (s t : State) (f g : ℕ → Value → State → Outcome A) → Each (SameValue n) xs ys → SameValue n i j → Like bounds n ps s t
      → ((k : ℕ) (x y : Value) → SameValue n x y → Beside bounds R n ps (f k x s) (g k y t)) → Beside bounds R n ps (with_place_of xs i s f) (with_place_of ys j t g)
  place_of_related n ps xs ys _ _ s t f g r (same_int (pos i)) l h = place_at_related n ps xs ys i _ _ s t f g (each_get (SameValue n) xs ys i r) l (h i)
  place_of_related n ps xs ys _ _ s t f g r (same_int (negsuc i)) l h = search (fail_related, same_int)
  place_of_related n ps xs ys _ _ s t f g r (same_id i) l h = search (fail_related, same_id)
  place_of_related n ps xs ys _ _ s t f g r (same_str i) l h = search (fail_related, same_str)
  place_of_related n ps xs ys _ _ s t f g r (same_ref i j k) l h = search (fail_related, same_ref)
  place_of_related n ps xs ys _ _ s t f g r (same_fun i j place k) l h = search (fail_related, same_fun)

  pub getv_related : (n : Names) (ps : List EntryPlace) (u v i j : Value) (s t : State) → SameValue n u v → SameValue n i j → Like bounds n ps s t → Beside bounds SameValue n ps (getv u i s) (getv v j t)
  getv_related n ps u v i j s t h k l = with_vector_related n ps _ _ u v s t _ _ (vector_same n ps s t u v l h) h l (λ xs ys r. place_of_related n ps xs ys i j s t _ _ r k l (λ o x y z. done_now n ps x y _ _ z (reading_like n ps u v s t l)))

  pub putv_related : (n : Names) (ps : List EntryPlace) (u v i j x y : Value) (s t : State) → SameValue n u v → SameValue n i j → SameValue n x y → Like bounds n ps s t → Beside bounds SameValue n ps (putv u i x s) (putv v j y t)
  putv_related n ps u v i j x y s t h k z l =
      with_vector_related n ps _ _ u v s t _ _ (vector_same n ps s t u v l h) h l (λ xs ys r. place_of_related n ps xs ys i j s t _ _ r k l (λ o a b w.
      done_now n ps x y _ _ z (changing_like n ps u v _ _ h (with_object_like n ps u v _ _ s t l h (same_vector _ _ (each_set (SameValue n) xs ys o x y r z))))))

upper_same : (n : Names) (xs ys : List Value) → Each (SameValue n) xs ys → SameValue n (Int (upper_bound xs)) (Int (upper_bound ys))
upper_same n _ _ end = same_int _
upper_same n _ _ (more x y xs ys h k) = rw (each_length (SameValue n) xs ys k) (same_int (pos (length ys)))

bound_same : (n : Names) (o p : Option (List Value)) → Maybe (Each (SameValue n)) o p → SameValue n (elim o as (λ (o : Option (List Value)). Value) [ None ↦ nil_value_of_state | Some xs ↦ Int (upper_bound xs) ]) (elim p as (λ (o : Option (List Value)). Value) [ None ↦ nil_value_of_state | Some xs ↦ Int (upper_bound xs) ])
bound_same n _ _ nothing = same_id 0
bound_same n _ _ (just xs ys h) = upper_same n xs ys h

module _ {bounds : Bounds} where
  pub upbv_related : (n : Names) (ps : List EntryPlace) (v w : Value) (s t : State) → SameValue n v w → Like bounds n ps s t → Beside bounds SameValue n ps (upbv v s) (upbv w t)
  upbv_related n ps v w s t h l = done_now n ps _ _ s t (bound_same n _ _ (vector_same n ps s t v w l h)) l

  -- ---- identifiers

  gensyms_like : (n : Names) (ps : List EntryPlace) (i j : ℕ) (s t : State) → i ≡ j → Like bounds n ps s t → Like bounds n ps (record s { gensyms = i }) (record t { gensyms = j })
  gensyms_like n ps i j s t e l = record { store = l.store; functions = l.functions; symbols = l.symbols; bindings = l.bindings; counts = l.counts; outside = l.outside; gensyms = e; compilation = l.compilation }

  new_named_related : (n : Names) (ps : List EntryPlace) (x y : Name) (s t : State) → x ≡ y → Like bounds n ps s t → Beside bounds SameValue n ps (made_symbol (new_symbol x false) s) (made_symbol (new_symbol y false) t)
  new_named_related n ps x y s t e l = subst (λ z. Beside bounds SameValue n ps (made_symbol (new_symbol x false) s) (made_symbol (new_symbol z false) t)) e (made_symbol_related n ps x false s t l)

  pub gensym_related : (n : Names) (ps : List EntryPlace) (s t : State) → Like bounds n ps s t → Beside bounds SameValue n ps (gensym s) (gensym t)
  gensym_related n ps s t l =
      then_value n ps _ _ _ _ (new_named_related n ps _ _ s t (ap (λ i. 71 ∷ padded (decimal (suc i))) l.gensyms) l) (λ m a b s t g r l.
      done_now m ps a b _ _ r (gensyms_like m ps _ _ s t (ap suc l.gensyms) l))

  pub intern_related : (n : Names) (ps : List EntryPlace) (v w : Value) (s t : State) → SameValue n v w → Like bounds n ps s t → Beside bounds SameValue n ps (intern v s) (intern w t)
  intern_related n ps _ _ s t (same_id i) l = rw (name_same n ps s t i l) (interned_related n ps (name_of_number t i) s t l)
  intern_related n ps _ _ s t (same_str bytes) l = search (choose_related, interned_related, fail_related, same_str)
  intern_related n ps _ _ s t (same_int z) l = search (fail_related, same_int)
  intern_related n ps _ _ s t (same_ref r q h) l = search (fail_related, same_ref)
  intern_related n ps _ _ s t (same_fun f g place h) l = search (fail_related, same_fun)

  pub of_byte_same : (n : Names) (ps : List EntryPlace) (b : ℕ) (s t : State) → Like bounds n ps s t → SameValue n (of_byte b s) (of_byte b t)
  of_byte_same n ps b s t l = rw (named_same n 0 (b ∷ []) s.symbols t.symbols l.symbols) (or_nil_same n _)

  of_bytes_same : (n : Names) (ps : List EntryPlace) (bytes : List ℕ) (s t : State) → Like bounds n ps s t → Each (SameValue n) (of_bytes s bytes) (of_bytes t bytes)
  of_bytes_same n ps [] s t l = end
  of_bytes_same n ps (b ∷ bs) s t l = more _ _ _ _ (of_byte_same n ps b s t l) (of_bytes_same n ps bs s t l)

-- an atom has the same text where identifiers have the same names
pub text_same : (n : Names) (style other : Style) (f g : ℕ → Name) (v w : Value) → style ≡ other → f ≡ g → SameValue n v w → atom_text style f v ≡ atom_text other g w
text_same n style other f g _ _ d e (same_int z) = λ k. atom_text (d k) (e k) (Int z)
text_same n style other f g _ _ d e (same_id i) = λ k. atom_text (d k) (e k) (Id i)
text_same n style other f g _ _ d e (same_str bytes) = λ k. atom_text (d k) (e k) (Str bytes)
text_same n style other f g _ _ d e (same_ref r q h) = refl
text_same n style other f g _ _ d e (same_fun i j place h) = refl

module _ {bounds : Bounds} where
  pub names_same : (n : Names) (ps : List EntryPlace) (s t : State) → Like bounds n ps s t → name_of_number s ≡ name_of_number t
  names_same n ps s t l = λ k i. name_same n ps s t i l k

  exploded_related : (n : Names) (ps : List EntryPlace) (v w : Value) (s t : State) → SameValue n v w → Like bounds n ps s t → Beside bounds SameValue n ps (made_list None (of_bytes s (atom_text Prin1 (name_of_number s) v)) s) (made_list None (of_bytes t (atom_text Prin1 (name_of_number t) w)) t)
  exploded_related n ps v w s t h l = rw (text_same n Prin1 Prin1 (name_of_number s) (name_of_number t) v w refl (names_same n ps s t l) h) (made_list_related n ps None None _ _ s t no_chain (of_bytes_same n ps (atom_text Prin1 (name_of_number t) w) s t l) l)

  pub explode_related : (n : Names) (ps : List EntryPlace) (v w : Value) (s t : State) → SameValue n v w → Like bounds n ps s t → Beside bounds SameValue n ps (explode v s) (explode w t)
  explode_related n ps _ _ s t (same_int z) l = exploded_related n ps (Int z) (Int z) s t (same_int z) l
  explode_related n ps _ _ s t (same_id i) l = exploded_related n ps (Id i) (Id i) s t (same_id i) l
  explode_related n ps _ _ s t (same_str bytes) l = exploded_related n ps (Str bytes) (Str bytes) s t (same_str bytes) l
  explode_related n ps _ _ s t (same_ref r q h) l = search (fail_related, same_ref)
  explode_related n ps _ _ s t (same_fun f g place h) l = exploded_related n ps (Fun f place) (Fun g place) s t (same_fun f g place h) l

-- ---- COMPRESS

abbrev SameValues : Names → List Value → List Value → Type 0
SameValues n = Each (SameValue n)

module _ {bounds : Bounds} where
  bytes_named_same : (n : Names) (ps : List EntryPlace) (xs ys : List Value) (s t : State) → Each (SameValue n) xs ys → Like bounds n ps s t → bytes_named s xs ≡ bytes_named t ys
  bytes_named_same n ps _ _ s t end l = refl
  bytes_named_same n ps _ _ s t (more _ _ xs ys (same_id i) k) l = λ j. with_byte (one_byte_of (name_same n ps s t i l j)) (bytes_named_same n ps xs ys s t k l j)
  bytes_named_same n ps _ _ s t (more _ _ xs ys (same_int z) k) l = refl
  bytes_named_same n ps _ _ s t (more _ _ xs ys (same_str bytes) k) l = refl
  bytes_named_same n ps _ _ s t (more _ _ xs ys (same_ref r q h) k) l = refl
  bytes_named_same n ps _ _ s t (more _ _ xs ys (same_fun f g place h) k) l = refl

proper_same : {A : Type 0} (n : Names) (x y : Option Value) (o p : Option A) → Maybe (SameValue n) x y → o ≡ p → proper x o ≡ proper y p
proper_same {A} n _ _ o p nothing e = refl
proper_same {A} n _ _ o p (just v w h) e = subst (λ x. proper (Some v) o ≡ proper (Some w) x) e (at o)
  where
    at : (o : Option A) → proper (Some v) o ≡ proper (Some w) o
    at None = refl
    at (Some a) = ap (λ b. if b then Some a else None) (nil_same n v w h)

module _ {bounds : Bounds} where
  atom_of_related : (n : Names) (ps : List EntryPlace) (i : ℕ) (x : Spelled) (s t : State) → Like bounds n ps s t → Beside bounds SameValue n ps (atom_spelled i x s) (atom_spelled i x t)
  atom_of_related n ps i (InName name) s t l = made_symbol_related n ps name false s t l
  atom_of_related n ps i (InNumber minus k) s t l = done_now n ps _ _ s t (same_int _) l
  atom_of_related n ps i AtZero s t l = done_now n ps _ _ s t (same_int _) l
  atom_of_related n ps i (AfterQuote bytes) s t l = made_string_related n ps bytes s t l
  atom_of_related n ps i x s t l = search (fail_related, same_int)

  compressed_related : (n : Names) (ps : List EntryPlace) (i : ℕ) (x : Compressed) (s t : State) → Like bounds n ps s t → Beside bounds SameValue n ps (compressed_atom i x s) (compressed_atom i x t)
  compressed_related n ps i (Spells x) s t l = atom_of_related n ps i x s t l
  compressed_related n ps i (Stops k) s t l = search (fail_related, same_int)

  bytes_related : (n : Names) (ps : List EntryPlace) (o p : Option (List ℕ)) (v w : Value) (s t : State) → o ≡ p → SameValue n v w → Like bounds n ps s t → Beside bounds SameValue n ps (compress_bytes o v s) (compress_bytes p w t)
  bytes_related n ps o p v w s t e h l = subst (λ x. Beside bounds SameValue n ps (compress_bytes o v s) (compress_bytes x w t)) e (at o)
    where
      at : (o : Option (List ℕ)) → Beside bounds SameValue n ps (compress_bytes o v s) (compress_bytes o w t)
      at (Some bytes) = compressed_related n ps _ _ s t l
      at None = search fail_related

  pub compress_related : (n : Names) (ps : List EntryPlace) (u v : Value) (s t : State) → SameValue n u v → Like bounds n ps s t → Beside bounds SameValue n ps (compress u s) (compress v t)
  compress_related n ps u v s t h l =
      then_walked n ps _ _ _ _ (walk_related SameValues n ps _ _ (λ m a b v w x y s t g r e i l. done_now m ps _ _ s t (same_goes _ _ (each_append (SameValue m) a b _ _ r (more x y [] [] i end))) l) [] [] u v s t end h l)
      (λ m xs ys a b s t g r i l. bytes_related m ps _ _ u v s t (proper_same m a b _ _ i (bytes_named_same m ps xs ys s t r l)) (value_grows n m u v h g) l)
