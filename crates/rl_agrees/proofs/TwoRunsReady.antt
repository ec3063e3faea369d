-- The right run stays ready as it goes on: functions stay, codes only go, and constants change only where that is noted.
use Rattle.std.proofs.Common.{◌≡◌, ◌∙◌, inl, inr, ◌≤◌, ◌<◌, ℕ, zero, suc, true, List, [], ◌∷◌, ◌++◌, length, slice_get, slice_index_or, Some, refl, sym, ap, subst, arith}
use Rattle.std.proofs.Common.{length-append}
use Rattle.std.proofs.lemmas.Bool.Decides.{nat_tests}
use Rattle.rl_tree.specs.Value.{Object, Store}
use Rattle.rl_meaning.specs.State.{State, Coded, Held, Pointer, Function, HeldFunction}
use Rattle.rl_meaning.specs.Constants.{last_change_of}
use Rattle.rl_meaning.specs.Holding.{no_function, function_in, function_at}
use Rattle.rl_meaning.specs.CodeInForce.{all_stand}
use Rattle.rl_meaning.specs.Compiling.{Compiler}
use Rattle.rl_meaning.specs.Right.{Stood, is_later, AsItStood, AllAsTheyStood}
use Rattle.rl_agrees.specs.Later.{IsMore, IsNoted, StaysOrNoted, NotedBefore, IsMemberOf, first, further, Later}
use Rattle.rl_agrees.specs.TwoRunsJobs.{ReadyCode, Ready}
use Rattle.rl_agrees.proofs.TwoRunsKept.{Goes}

-- ---- functions

index_in : (xs ys : List Function) (i : ℕ) → i < length xs → slice_index_or (xs ++ ys) i no_function ≡ slice_index_or xs i no_function
index_in (x ∷ xs) ys zero h = refl
index_in (x ∷ xs) ys (suc i) h = index_in xs ys i (omega (arith, h))
index_in [] ys i h = absurd (omega (arith, h))

-- past the last there is no held function
pub held_within : (xs : List Function) (i place : ℕ) (held : Held) → function_in (slice_index_or xs i no_function) place ≡ HeldFunction held → i < length xs
held_within [] i zero held e = absurd (cc)
held_within [] i (suc place) held e = absurd (cc)
held_within (x ∷ xs) zero place held e = omega arith
held_within (x ∷ xs) (suc i) place held e = omega (arith, held_within xs i place held e)

pub function_stays : (s t : State) (p : Pointer) (held : Held) → IsMore s.functions t.functions → function_at s p ≡ HeldFunction held → function_at t p ≡ HeldFunction held
function_stays s t p held more e =
    subst (λ fs. function_in (slice_index_or fs p.function no_function) p.place ≡ HeldFunction held) (sym more.is)
    (ap (λ f. function_in f p.place) (index_in s.functions more.rest p.function (held_within s.functions p.function p.place held e)) ∙ e)

functions_more : (s t : State) → IsMore s.functions t.functions → length s.functions ≤ length t.functions
functions_more s t more = let x : length t.functions ≡ length (s.functions ++ more.rest) = ap (λ fs. length fs) more.is in omega (arith, x, length-append s.functions more.rest)

-- ---- constants

got_within : (xs : Store) (i : ℕ) (o : Object) → slice_get xs i ≡ Some o → i < length xs
got_within [] i o e = absurd (cc)
got_within (x ∷ xs) zero o e = omega arith
got_within (x ∷ xs) (suc i) o e = omega (arith, got_within xs i o e)

noted_later : (t : State) (r f n : ℕ) → f < n → IsNoted t r n → is_later f (last_change_of r t.watched.changes) ≡ true
noted_later t r f n lt noted = subst (λ o. is_later f o ≡ true) (sym noted.last) (let le : n ≤ noted.functions = noted.late in grind (arith, nat_tests, lt, le))

stood_stays : (s t : State) (c : Stood) → Later s t → c.holder < length s.functions → AsItStood s c → AsItStood t c
stood_stays s t c later lt (inl e) = at (later.stay c.object (got_within s.store c.object c.was e))
  where
    at : StaysOrNoted s t c.object → AsItStood t c
    at (inl same) = inl (same ∙ e)
    at (inr noted) = inr (noted_later t c.object c.holder (length s.functions) lt noted)
stood_stays s t c later lt (inr e) = at (later.noted c.object)
  where
    at : NotedBefore s t c.object → AsItStood t c
    at (inl same) = inr (subst (λ o. is_later c.holder o ≡ true) (sym same) e)
    at (inr noted) = inr (noted_later t c.object c.holder (length s.functions) lt noted)

all_stay : (s t : State) (cs : List Stood) → Later s t → ((x : Stood) → IsMemberOf x cs → x.holder < length s.functions) → AllAsTheyStood s cs → AllAsTheyStood t cs
all_stay s t [] later older h = tt
all_stay s t (c ∷ cs) later older h = (stood_stays s t c later (older c (first cs)) h.0, all_stay s t cs later (λ x i. older x (further c cs i)) h.1)

-- ---- ready

code_stays : (c : Compiler) (s t : State) (x : Coded) → Later s t → all_stand t x.dependencies ≡ true → ReadyCode c s x → ReadyCode c t x
code_stays c s t x later stands r = record {
  lowered = r.lowered;
  held = r.held;
  stood = r.stood;
  right = r.right;
  is = function_stays s t x.function r.held later.functions r.is;
  stands = stands;
  constants = all_stay s t r.stood later r.older r.constants;
  older = λ y i. omega (arith, r.older y i, functions_more s t later.functions);
}

pub ready_stays : (c : Compiler) (s t : State) → Goes s t → Ready c s → Ready c t
ready_stays c s t goes ready = record {
  codes = λ x i. code_stays c s t x goes.later (goes.later.stand (λ y j. (ready.codes y j).stands) x i) (ready.codes x (goes.later.fewer x i));
  event = goes.within ready.event;
}
