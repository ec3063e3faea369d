-- The cases of the head of a list, as they stand in the definition of plain forms, each by its name; and that a head stays what it was.
use Rattle.std.proofs.Common.{◌≡◌, ◌<◌, ◌&&◌, if◌then◌else◌, ℕ, zero, suc, Bool, true, false, List, [], ◌∷◌, ◌++◌, length, slice_index_or, Option, Some, None, refl, ◌∙◌, ap, arith}
use Rattle.rl_tree.specs.Value.{Int, Id, Str, Ref, Fun}
use Rattle.rl_tree.specs.declared.held.Kind.{Kind}
use Rattle.rl_meaning.specs.Names.{Special, Quote, Cond, Progn, And, Or, Setq, Prog, Go, Return, List_, Plus, Times, Max, Min, De, Df, Dm}
use Rattle.rl_meaning.specs.Names as names
use Rattle.rl_meaning.specs.State.{State, Entry, Tree, Atom, Quoted, Pair, Literal, Pointer, Definition, Function, SpecialForm, NativeFunction, HeldFunction}
use Rattle.rl_meaning.specs.Symbols.{new_symbol, symbol_at}
use Rattle.rl_meaning.specs.Holding.{is_list, no_function, function_in, function_at}
use Rattle.rl_meaning.specs.Forms.{Head, Form, Call, Applied, Bad, head_in, head_of, fits}
use Rattle.rl_meaning.specs.Plain.{is_plain_call, are_plain, are_plain_clauses, sets_plainly, is_plain_prog}
use Rattle.rl_agrees.proofs.PlainWays.{Stays}

-- ---- plain forms

abbrev pub plain_special : State → List ℕ → List ℕ → Tree → Special → Bool
plain_special b plain scope args form = elim form [
  | Quote ↦ true
  | names.Function ↦ false
  | Cond ↦ if fits Cond args then are_plain_clauses b plain scope args else true
  | Progn ↦ if fits Progn args then are_plain b plain scope args else true
  | And ↦ if fits And args then are_plain b plain scope args else true
  | Or ↦ if fits Or args then are_plain b plain scope args else true
  | Setq ↦ if fits Setq args then sets_plainly b plain scope args else true
  | Prog ↦ if fits Prog args then is_plain_prog b plain scope args else true
  | Go ↦ true
  | Return ↦ if fits Return args then are_plain b plain scope args else true
  | List_ ↦ if fits List_ args then are_plain b plain scope args else true
  | Plus ↦ if fits Plus args then are_plain b plain scope args else true
  | Times ↦ if fits Times args then are_plain b plain scope args else true
  | Max ↦ if fits Max args then are_plain b plain scope args else true
  | Min ↦ if fits Min args then are_plain b plain scope args else true
  | De ↦ false
  | Df ↦ false
  | Dm ↦ false
]

abbrev pub plain_list : State → List ℕ → List ℕ → Tree → Head → Bool
plain_list b plain scope args h = elim h [
  | Applied ↦ false
  | Bad culprit ↦ true
  | Call kind i ↦ if is_list args then is_plain_call b plain kind i && are_plain b plain scope args else true
  | Form form ↦ plain_special b plain scope args form
]

-- ---- a head stays what it was, since each definition names a function that is there

pub record InRange (b : State) : Type 0 where
  pub is : (i : ℕ) (d : Definition) → (symbol_at b i).definition ≡ Some d → d.function.function < length b.functions

index_left : {A : Type 0} (xs ys : List A) (i : ℕ) (d : A) → i < length xs → slice_index_or (xs ++ ys) i d ≡ slice_index_or xs i d
index_left (x ∷ xs) ys zero d h = refl
index_left (x ∷ xs) ys (suc i) d h = index_left xs ys i d (omega (arith, h))
index_left [] ys i d h = absurd (omega (arith, h))

pub symbol_same : (b : State) (B : List Entry → Type 0) (s : State) (i : ℕ) → Stays b B s → symbol_at s i ≡ symbol_at b i
symbol_same b B s i k = ap (λ xs. slice_index_or xs i (new_symbol [] false)) k.symbols

pub function_same : (b : State) (B : List Entry → Type 0) (s : State) (p : Pointer) → p.function < length b.functions → Stays b B s → function_at s p ≡ function_at b p
function_same b B s p h k = ap (λ f. function_in f p.place) (ap (λ xs. slice_index_or xs p.function no_function) k.functions.is ∙ index_left b.functions k.functions.more p.function no_function h)

abbrev head_by : Kind → ℕ → Function → Head
head_by kind f fn = elim fn [
  | SpecialForm form ↦ Form form
  | NativeFunction native ↦ Call kind f
  | HeldFunction held ↦ Call kind f
]

head_in_same : (b : State) (B : List Entry → Type 0) (s : State) (f : ℕ) (o : Option Definition) → ((d : Definition) → o ≡ Some d → d.function.function < length b.functions) → Stays b B s → head_in f o s ≡ head_in f o b
head_in_same b B s f None r k = refl
head_in_same b B s f (Some d) r k = ap (λ fn. head_by d.kind f fn) (function_same b B s d.function (r d refl) k)

pub head_same : (b : State) (B : List Entry → Type 0) (s : State) (t : Tree) → InRange b → Stays b B s → head_of t s ≡ head_of t b
head_same b B s (Atom (Id f)) r k = ap (λ y. head_in f y.definition s) (symbol_same b B s f k) ∙ head_in_same b B s f (symbol_at b f).definition (r.is f) k
head_same b B s (Atom (Int z)) r k = refl
head_same b B s (Atom (Str bytes)) r k = refl
head_same b B s (Atom (Ref q)) r k = refl
head_same b B s (Atom (Fun f place)) r k = refl
head_same b B s (Quoted v) r k = refl
head_same b B s (Literal n e) r k = refl
head_same b B s (Pair (Atom (Id l)) rest) r k = refl
head_same b B s (Pair (Atom (Int z)) rest) r k = refl
head_same b B s (Pair (Atom (Str bytes)) rest) r k = refl
head_same b B s (Pair (Atom (Ref q)) rest) r k = refl
head_same b B s (Pair (Atom (Fun f place)) rest) r k = refl
head_same b B s (Pair (Quoted v) rest) r k = refl
head_same b B s (Pair (Pair x y) rest) r k = refl
head_same b B s (Pair (Literal n e) rest) r k = refl
