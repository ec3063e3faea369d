-- The code of the identity comes to the codes of a state: what was ready and sound stays so.
use Rattle.std.proofs.Common.{◌≡◌, ◌∙◌, ◌<◌, ◌==◌, ℕ, zero, suc, Bool, true, false, ◌&&◌, List, [], ◌∷◌, length, Option, Some, None, refl, ap, subst, arith}
use Rattle.std.proofs.lemmas.Bool.Decides.{nat_tests}
use Rattle.rl_meaning.specs.CMacros.{Entry, Exit}
use Rattle.rl_meaning.specs.State.{State, Coded, Kept, Pointer, Definition, Dependency, Called, Fexpr, Whole, HeldFunction}
use Rattle.rl_meaning.specs.Symbols.{symbol_at}
use Rattle.rl_meaning.specs.Holding.{function_at}
use Rattle.rl_meaning.specs.Reach.{same_definition}
use Rattle.rl_meaning.specs.CodeInForce.{stands, all_stand}
use Rattle.rl_meaning.specs.Compiling.{Compiler}
use Rattle.rl_meaning.specs.Right.{Stood, AllAsTheyStood}
use Rattle.rl_meaning.specs.TwoRunsLinks.{Linked, newest, older}
use Rattle.rl_meaning.specs.TwoRunsValues.{Names, end, more, same_pointer, same_macro, SameCoded, same_coded}
use Rattle.rl_agrees.specs.Later.{IsMemberOf, first, further}
use Rattle.rl_agrees.specs.TwoRunsJobs.{ReadyCode, Ready}
use Rattle.rl_agrees.specs.TwoRunsRuns.{each_itself, names_of, IsSoundState}
use Rattle.rl_agrees.specs.Identity.{identity_of, identity_code, identity_coded, with_coded, IsPlainVariable}
use Rattle.rl_agrees.proofs.TwoRunsReady.{held_within}
use Rattle.rl_agrees.proofs.IdentityCode.{identity_right}

-- ---- ready: what codes rest on is not among the codes

module _ (n : Coded) (s : State) where
  definition_with : (x y : Option Definition) → same_definition (with_coded n s) x y ≡ same_definition s x y
  definition_with None None = refl
  definition_with None (Some e) = refl
  definition_with (Some d) None = refl
  definition_with (Some d) (Some e) = refl

  stands_with : (d : Dependency) → stands (with_coded n s) d ≡ stands s d
  stands_with (Called i) = refl
  stands_with (Fexpr i) = refl
  stands_with (Whole i kind p) = definition_with (Some (record { kind = kind; function = p })) (symbol_at s i).definition

  all_stand_with : (ds : List Dependency) → all_stand (with_coded n s) ds ≡ all_stand s ds
  all_stand_with [] = refl
  all_stand_with (d ∷ ds) = ap (λ b. b && all_stand (with_coded n s) ds) (stands_with d) ∙ ap (λ b. stands s d && b) (all_stand_with ds)

  stood_with : (cs : List Stood) → AllAsTheyStood s cs → AllAsTheyStood (with_coded n s) cs
  stood_with [] h = tt
  stood_with (c ∷ cs) h = (h.0, stood_with cs h.1)

  code_with : (c : Compiler) (x : Coded) → ReadyCode c s x → ReadyCode c (with_coded n s) x
  code_with c x r = record {
    lowered = r.lowered;
    held = r.held;
    stood = r.stood;
    right = r.right;
    is = r.is;
    stands = all_stand_with x.dependencies ∙ r.stands;
    constants = stood_with r.stood r.constants;
    older = r.older;
  }

identity_ready : (c : Compiler) (s : State) (i x : ℕ) (p : Pointer) (kept : List Kept) → IsPlainVariable kept x → function_at s p ≡ HeldFunction (identity_of x kept) → ReadyCode c (with_coded (identity_coded i p) s) (identity_coded i p)
identity_ready c s i x p kept free is = record {
  lowered = s;
  held = identity_of x kept;
  stood = [];
  right = identity_right c i x p kept free s;
  is = is;
  stands = refl;
  constants = tt;
  older = λ y h. absurd (elim h [ ]);
}

pub ready_with : (c : Compiler) (s : State) (i x : ℕ) (p : Pointer) (kept : List Kept) → IsPlainVariable kept x → function_at s p ≡ HeldFunction (identity_of x kept) → Ready c s → Ready c (with_coded (identity_coded i p) s)
ready_with c s i x p kept free is ready = record {
  codes = λ y h. codes y h;
  event = record { printed = ready.event.printed; noted = ready.event.noted };
}
  where
    codes : (y : Coded) → IsMemberOf y (identity_coded i p ∷ s.compilation.coded) → ReadyCode c (with_coded (identity_coded i p) s) y
    codes _ (first rest) = identity_ready c s i x p kept free is
    codes y (further b rest h) = code_with (identity_coded i p) s c y (ready.codes y h)

-- ---- sound: the function is one of the state

linked_at : (n i : ℕ) (b : Bool) → (i == n) ≡ b → i < suc n → (i < n → Linked (each_itself n) i i) → Linked (each_itself (suc n)) i i
linked_at n i true e lt next = let same : n ≡ i = grind (arith, nat_tests, e) in subst (λ z. Linked (each_itself (suc n)) z z) same (newest n n (each_itself n))
linked_at n i false e lt next = older n n i i (each_itself n) (next (grind (arith, nat_tests, e, lt)))

pub linked_itself : (n i : ℕ) → i < n → Linked (each_itself n) i i
linked_itself zero i lt = absurd (omega (arith, lt))
linked_itself (suc n) i lt = linked_at n i (i == n) refl lt (λ h. linked_itself n i h)

identity_same : (n : Names) (i : ℕ) (p : Pointer) → Linked n.functions p.function p.function → SameCoded n (identity_coded i p) (identity_coded i p)
identity_same n i p h =
    same_coded i false p p (identity_code i) (identity_code i) [] [] (same_pointer p.function p.function p.place h)
    (more _ _ _ _ (same_macro (Entry i 1) refl) (more _ _ _ _ (same_macro Exit refl) end)) end

pub sound_with : (s : State) (i x : ℕ) (p : Pointer) (kept : List Kept) → function_at s p ≡ HeldFunction (identity_of x kept) → IsSoundState s → IsSoundState (with_coded (identity_coded i p) s)
sound_with s i x p kept is h = record {
  objects = h.objects;
  functions = h.functions;
  symbols = h.symbols;
  bindings = h.bindings;
  codes = more _ _ _ _ (identity_same (names_of s) i p (linked_itself (length s.functions) p.function (held_within s.functions p.function p.place (identity_of x kept) is))) h.codes;
}
