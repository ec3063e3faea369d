-- Natives keep a law on one run.
use Rattle.std.proofs.Common.{◌≡◌, pos, negsuc, ℕ, zero, suc, Bool, List, slice_get, Option, Some, None, refl}
use Rattle.rl_tree.specs.Value.{Value, Int, Id, Str, Ref, Fun}
use Rattle.rl_tree.specs.Atoms as atoms
use Rattle.rl_tree.specs.declared.held.Kind.{Kind}
use Rattle.rl_tree.specs.declared.held.VarKind.{VarKind}
use Rattle.rl_meaning.specs.Names.{Native, Tests, Eq, Equal, Part, Cons, Rplaca, Rplacd, Append, Reverse, Length, Member, Memq, Assoc, Nconc, Number, Error, Mkvect, Getv, Putv, Upbv, Gensym, Intern, Explode, Compress, Get, Flagp, Put, Remprop, Flag, Remflag, Getd, Putd, Remd, Fluid, Global, Unfluid, Set, Prin1, Prin2, Print, Terpri, Posn, Linelength, Read, Readch}
use Rattle.rl_meaning.specs.State.{State, Symbol, Definition, Pointer}
use Rattle.rl_meaning.specs.Constants.{reading_pair}
use Rattle.rl_meaning.specs.Outcome.{Outcome, Done, Levels}
use Rattle.rl_meaning.specs.Symbols.{symbol_at, with_symbol, cdr_at}
use Rattle.rl_meaning.specs.Atoms.{made_places, mkvect, place_at, with_place_of, with_vector, getv, putv, upbv, gensym, intern, explode, Spelled, InName, InNumber, AtZero, AfterQuote, Compressed, Spells, Stops, atom_spelled, compressed_atom, compress_bytes, compress}
use Rattle.rl_meaning.specs.Properties.{PropertyPlace, look_for, with_properties, of_identifier, get, flagp, add_first, put_at, for_identifier, put, taken_out, without, remprop, or_list, at_list_end, for_each, flag_at, for_flag, flag, remflag}
use Rattle.rl_meaning.specs.Definitions.{with_definition, define, definition_pair, getd, FunctionBody, Given, Lambda, kind_of, with_kind, body_in, with_body, own_name, hold_lambda, function_of, putd, remd, declared, declare, fluid, global, undeclare, unfluid, set}
use Rattle.rl_meaning.specs.Natives.{argument, native}
use Rattle.rl_meaning.specs.Evaluation.{Position}
use Rattle.rl_agrees.proofs.OneRun.{StepsAt, Prints, ReadsLead, IsBehind, LeadsAt, follows_then, then_leads}
use Rattle.rl_agrees.proofs.OneRunObjects.{leading, pair_leads, chained_none, made_list_leads, made_follows, changed_follows, cdr_changed_follows, reading_pair_follows}
use Rattle.rl_agrees.proofs.OneRunWalks.{walk_leads, equal_leads}
use Rattle.rl_agrees.proofs.OneRunHolding.{hold_function_leads}
use Rattle.rl_agrees.proofs.OneRunVariables.{by_name_leads, with_integer_leads, operated_leads, part_leads, with_car_leads, with_cdr_leads, append_leads, reversed_leads, list_length_leads, member_leads, memq_leads, assoc_leads, nconc_leads}
use Rattle.rl_agrees.proofs.OneRunPrinting.{end_of_line_follows, printing_leads, print_leads, linelength_leads}
use Rattle.rl_agrees.proofs.OneRunReading.{read_leads, readch_leads}

-- ---- states

-- what a native asks of the preorder for what it prints and reads
abbrev pub NeedsOf : (State → State → Type 0) → Native → Type 0
NeedsOf P Prin1 = Prints P
NeedsOf P Prin2 = Prints P
NeedsOf P Print = Prints P
NeedsOf P Terpri = Prints P
NeedsOf P Read = ReadsLead P
NeedsOf P other = Unit {0}

pub any_needs : (P : State → State → Type 0) (n : Native) → Prints P → ReadsLead P → NeedsOf P n
any_needs P Prin1 p q = p
any_needs P Prin2 p q = p
any_needs P Print p q = p
any_needs P Terpri p q = p
any_needs P Read p q = q
any_needs P other p q = tt

module _ {freely : Bool} {P : State → State → Type 0} (steps : StepsAt freely P) {r : State} where
  pub gensyms_follow : (n : ℕ) (s : State) → IsBehind P r s → IsBehind P r (record s { gensyms = n })
  gensyms_follow n s h = follows_then steps r s _ h (steps.gensyms n s)

  pub symbol_follows : (i : ℕ) (symbol : Symbol) (s : State) → symbol.definition ≡ (symbol_at s i).definition → IsBehind P r s → IsBehind P r (with_symbol i symbol s)
  symbol_follows i symbol s e h = follows_then steps r s _ h (steps.symbol i symbol s e)

  pub properties_follow : (i : ℕ) (list : Value) (s : State) → IsBehind P r s → IsBehind P r (with_properties i list s)
  properties_follow i list s h = symbol_follows i _ s refl h

  pub taken_out_follows : (i : ℕ) (o : Option Value) (pair : Value) (s : State) → IsBehind P r s → IsBehind P r (taken_out i o pair s)
  taken_out_follows i None pair s h = properties_follow i _ s h
  taken_out_follows i (Some before) pair s h = cdr_changed_follows steps before (cdr_at s pair) s h

  pub without_follows : (i : ℕ) (place : PropertyPlace) (s : State) → IsBehind P r s → IsBehind P r (without i place s)
  without_follows i place s h = elim place.at as (λ o. IsBehind P r (elim o as (λ (o : Option Value). State) [ None ↦ s | Some pair ↦ taken_out i place.before pair s ])) [
    | None ↦ h
    | Some pair ↦ taken_out_follows i place.before pair s h
  ]

  pub definition_follows : (i : ℕ) (d : Option Definition) (s : State) → IsBehind P r s → IsBehind P r (with_definition i d s)
  definition_follows i d s h = follows_then steps r s _ h (steps.definition i d s)

  pub define_follows : (i : ℕ) (kind : Kind) (p : Pointer) (s : State) → IsBehind P r s → IsBehind P r (define i kind p s)
  define_follows i kind p s h = definition_follows i _ s h

module _ {freely : Bool} {P : State → State → Type 0} (steps : StepsAt freely P) {position : Position} {r : State} where
  -- ---- vectors

  pub places_lead : (n : ℕ) (s : State) → IsBehind P r s → LeadsAt P position r (made_places n s)
  places_lead n s h = search (leading, made_follows)

  pub mkvect_leads : (v : Value) (s : State) → IsBehind P r s → LeadsAt P position r (mkvect v s)
  mkvect_leads (Int (pos n)) s h = search (leading, places_lead)
  mkvect_leads (Int (negsuc zero)) s h = places_lead 0 s h
  mkvect_leads (Int (negsuc (suc n))) s h = search leading
  mkvect_leads v s h = search leading

  pub place_at_leads : {A : Type 0} (xs : List Value) (n : ℕ) (o : Option Value) (s : State) (next : ℕ → Value → State → Outcome A) → IsBehind P r s → ((n : ℕ) (x : Value) (t : State) → IsBehind P r t → LeadsAt P position r (next n x t)) → LeadsAt P position r (place_at xs n o s next)
  place_at_leads xs n (Some x) s next h k = k n x s h
  place_at_leads xs n None s next h k = search leading

  pub place_of_leads : {A : Type 0} (xs : List Value) (i : Value) (s : State) (next : ℕ → Value → State → Outcome A) → IsBehind P r s → ((n : ℕ) (x : Value) (t : State) → IsBehind P r t → LeadsAt P position r (next n x t)) → LeadsAt P position r (with_place_of xs i s next)
  place_of_leads xs (Int (pos n)) s next h k = place_at_leads xs n (slice_get xs n) s next h k
  place_of_leads xs (Int (negsuc n)) s next h k = search leading
  place_of_leads xs i s next h k = search leading

  pub with_vector_leads : {A : Type 0} (o : Option (List Value)) (v : Value) (s : State) (next : List Value → State → Outcome A) → IsBehind P r s → ((xs : List Value) (t : State) → IsBehind P r t → LeadsAt P position r (next xs t)) → LeadsAt P position r (with_vector o v s next)
  with_vector_leads (Some xs) v s next h k = k xs s h
  with_vector_leads None v s next h k = search leading

  pub getv_leads : (v i : Value) (s : State) → IsBehind P r s → LeadsAt P position r (getv v i s)
  getv_leads v i s h = search (leading, with_vector_leads, place_of_leads)

  pub putv_leads : (v i y : Value) (s : State) → IsBehind P r s → LeadsAt P position r (putv v i y s)
  putv_leads v i y s h = search (leading, with_vector_leads, place_of_leads, changed_follows)

  pub upbv_leads : (v : Value) (s : State) → IsBehind P r s → LeadsAt P position r (upbv v s)
  upbv_leads v s h = search leading

  -- ---- identifiers

  pub gensym_leads : (s : State) → IsBehind P r s → LeadsAt P position r (gensym s)
  gensym_leads s h = search (leading, gensyms_follow)

  pub intern_leads : (v : Value) (s : State) → IsBehind P r s → LeadsAt P position r (intern v s)
  intern_leads (Id i) s h = search leading
  intern_leads (Str bytes) s h = search leading
  intern_leads v s h = search leading

  pub explode_leads : (v : Value) (s : State) → IsBehind P r s → LeadsAt P position r (explode v s)
  explode_leads (Ref r) s h = search leading
  explode_leads (Id i) s h = search (made_list_leads, chained_none)
  explode_leads (Int z) s h = search (made_list_leads, chained_none)
  explode_leads (Str bytes) s h = search (made_list_leads, chained_none)
  explode_leads (Fun f place) s h = search (made_list_leads, chained_none)

  pub atom_of_leads : (k : ℕ) (spelled : Spelled) (s : State) → IsBehind P r s → LeadsAt P position r (atom_spelled k spelled s)
  atom_of_leads k (InName name) s h = search leading
  atom_of_leads k (InNumber minus n) s h = search leading
  atom_of_leads k AtZero s h = search leading
  atom_of_leads k (AfterQuote bytes) s h = search leading
  atom_of_leads k spelled s h = search leading

  pub compressed_leads : (n : ℕ) (c : Compressed) (s : State) → IsBehind P r s → LeadsAt P position r (compressed_atom n c s)
  compressed_leads n (Spells spelled) s h = atom_of_leads n spelled s h
  compressed_leads n (Stops k) s h = search leading

  pub compress_bytes_leads : (o : Option (List ℕ)) (l : Value) (s : State) → IsBehind P r s → LeadsAt P position r (compress_bytes o l s)
  compress_bytes_leads (Some bytes) l s h = search compressed_leads
  compress_bytes_leads None l s h = search leading

  pub compress_leads : (l : Value) (s : State) → IsBehind P r s → LeadsAt P position r (compress l s)
  compress_leads l s h = search (leading, walk_leads, compress_bytes_leads)

  -- ---- properties

  pub look_for_leads : (test : State → Value → Bool) (list : Value) (s : State) → IsBehind P r s → LeadsAt P position r (look_for test list s)
  look_for_leads test list s h = search (leading, walk_leads)

  pub of_identifier_leads : {A : Type 0} (v : Value) (a : A) (s : State) (next : ℕ → State → Outcome A) → IsBehind P r s → ((i : ℕ) (t : State) → IsBehind P r t → LeadsAt P position r (next i t)) → LeadsAt P position r (of_identifier v a s next)
  of_identifier_leads (Id i) a s next h k = k i s h
  of_identifier_leads v a s next h k = search leading

  pub with_identifier_leads : {A : Type 0} (v : Value) (s : State) (next : ℕ → State → Outcome A) → IsBehind P r s → ((i : ℕ) (t : State) → IsBehind P r t → LeadsAt P position r (next i t)) → LeadsAt P position r (for_identifier v s next)
  with_identifier_leads (Id i) s next h k = k i s h
  with_identifier_leads v s next h k = search leading

  pub or_list_leads : {A : Type 0} (l v : Value) (s : State) (next : ℕ → State → Outcome A) → IsBehind P r s → ((i : ℕ) (t : State) → IsBehind P r t → LeadsAt P position r (next i t)) → LeadsAt P position r (or_list l v s next)
  or_list_leads l (Id i) s next h k = k i s h
  or_list_leads l v s next h k = search leading

  pub get_leads : (u p : Value) (s : State) → IsBehind P r s → LeadsAt P position r (get u p s)
  get_leads u p s h = search (leading, of_identifier_leads, look_for_leads)

  pub flagp_leads : (u p : Value) (s : State) → IsBehind P r s → LeadsAt P position r (flagp u p s)
  flagp_leads u p s h = search (leading, of_identifier_leads, look_for_leads)

  pub add_first_leads : (i : ℕ) (element : Value) (s : State) → IsBehind P r s → LeadsAt P position r (add_first i element s)
  add_first_leads i element s h = search (leading, properties_follow)

  pub put_at_leads : (i : ℕ) (p x : Value) (o : Option Value) (s : State) → IsBehind P r s → LeadsAt P position r (put_at i p x o s)
  put_at_leads i p x (Some pair) s h = search (leading, cdr_changed_follows)
  put_at_leads i p x None s h = search (leading, add_first_leads)

  pub put_leads : (u p x : Value) (s : State) → IsBehind P r s → LeadsAt P position r (put u p x s)
  put_leads u p x s h = search (leading, with_identifier_leads, look_for_leads, put_at_leads)

  pub remprop_leads : (u p : Value) (s : State) → IsBehind P r s → LeadsAt P position r (remprop u p s)
  remprop_leads u p s h = search (leading, of_identifier_leads, look_for_leads, without_follows)

  pub at_list_end_leads : (l : Value) (o : Option Value) (s : State) → IsBehind P r s → LeadsAt P position r (at_list_end l o s)
  at_list_end_leads l (Some end) s h = search leading
  at_list_end_leads l None s h = search leading

  pub for_each_leads : (act : ℕ → State → Outcome (Unit {0})) → ((i : ℕ) (s : State) → IsBehind P r s → LeadsAt P position r (act i s)) → (l : Value) (s : State) → IsBehind P r s → LeadsAt P position r (for_each act l s)
  for_each_leads act k l s h = search (leading, walk_leads, or_list_leads, at_list_end_leads, k)

  pub flag_at_leads : (i : ℕ) (p : Value) (o : Option Value) (s : State) → IsBehind P r s → LeadsAt P position r (flag_at i p o s)
  flag_at_leads i p (Some pair) s h = search leading
  flag_at_leads i p None s h = add_first_leads i p s h

  pub for_flag_leads : (p : Value) (act : ℕ → State → Outcome (Unit {0})) → ((i : ℕ) (s : State) → IsBehind P r s → LeadsAt P position r (act i s)) → (l : Value) (s : State) → IsBehind P r s → LeadsAt P position r (for_flag p act l s)
  for_flag_leads (Id j) act k l s h = for_each_leads act k l s h
  for_flag_leads p act k l s h = then_leads _ _ (for_each_leads (λ i s. Done tt s) (λ i s h. search leading) l s h) (λ done s h. search leading)

  pub flag_leads : (l p : Value) (s : State) → IsBehind P r s → LeadsAt P position r (flag l p s)
  flag_leads l p s h = search (leading, for_flag_leads, look_for_leads, flag_at_leads)

  pub remflag_leads : (l p : Value) (s : State) → IsBehind P r s → LeadsAt P position r (remflag l p s)
  remflag_leads l p s h = search (leading, for_flag_leads, look_for_leads, without_follows)

  -- ---- definitions

  pub definition_pair_leads : (o : Option Definition) (s : State) → IsBehind P r s → LeadsAt P position r (definition_pair o s)
  definition_pair_leads None s h = search leading
  definition_pair_leads (Some d) s h = search leading

  pub getd_leads : (f : Value) (s : State) → IsBehind P r s → LeadsAt P position r (getd f s)
  getd_leads f s h = search (leading, of_identifier_leads, definition_pair_leads)

  pub with_kind_leads : {A : Type 0} (o : Option Kind) (t : Value) (s : State) (next : Kind → State → Outcome A) → IsBehind P r s → ((k : Kind) (t : State) → IsBehind P r t → LeadsAt P position r (next k t)) → LeadsAt P position r (with_kind o t s next)
  with_kind_leads (Some kind) t s next h k = k kind s h
  with_kind_leads None t s next h k = search leading

  pub with_body_leads : {A : Type 0} (o : Option FunctionBody) (b : Value) (s : State) (next : FunctionBody → State → Outcome A) → IsBehind P r s → ((x : FunctionBody) (t : State) → IsBehind P r t → LeadsAt P position r (next x t)) → LeadsAt P position r (with_body o b s next)
  with_body_leads (Some body) b s next h k = k body s h
  with_body_leads None b s next h k = search leading

  pub own_name_leads : {A : Type 0} (i : ℕ) (s : State) (next : State → Outcome A) → IsBehind P r s → ((t : State) → IsBehind P r t → LeadsAt P position r (next t)) → LeadsAt P position r (own_name i s next)
  own_name_leads i s next h k = search (leading, k)

  pub hold_lambda_leads : (kind : Kind) (levels : Levels) (o : Option (Value × Value)) (s : State) → IsBehind P r s → LeadsAt P position r (hold_lambda kind levels o s)
  hold_lambda_leads kind levels (Some parts) s h = search hold_function_leads
  hold_lambda_leads kind levels None s h = search leading

  pub function_of_leads : (kind : Kind) (levels : Levels) (body : FunctionBody) (s : State) → IsBehind P r s → LeadsAt P position r (function_of kind levels body s)
  function_of_leads kind levels (Given p) s h = search leading
  function_of_leads kind levels (Lambda rest) s h = search (leading, hold_lambda_leads)

  pub putd_leads : (levels : Levels) (f t b : Value) (s : State) → IsBehind P r s → LeadsAt P position r (putd levels f t b s)
  putd_leads levels f t b s h =
      with_identifier_leads f s _ h (λ i s h.
      with_kind_leads (kind_of t) t s _ h (λ kind s h.
      with_body_leads (body_in s kind b) b (reading_pair b s) _ (reading_pair_follows steps b s h) (λ body s h. search (leading, own_name_leads, function_of_leads, define_follows))))

  pub remd_leads : (f : Value) (s : State) → IsBehind P r s → LeadsAt P position r (remd f s)
  remd_leads f s h = search (leading, with_identifier_leads, own_name_leads, definition_pair_leads, definition_follows)

  pub declared_leads : (kind : VarKind) (i : ℕ) (s : State) → IsBehind P r s → LeadsAt P position r (declared kind i s)
  declared_leads kind i s h = search (leading, symbol_follows)

  pub declare_leads : (kind other : VarKind) (i : ℕ) (s : State) → IsBehind P r s → LeadsAt P position r (declare kind other i s)
  declare_leads kind other i s h = search (leading, declared_leads)

  pub fluid_leads : (l : Value) (s : State) → IsBehind P r s → LeadsAt P position r (fluid l s)
  fluid_leads l s h = search (for_each_leads, declare_leads)

  pub global_leads : (l : Value) (s : State) → IsBehind P r s → LeadsAt P position r (global l s)
  global_leads l s h = search (for_each_leads, declare_leads)

  pub undeclare_leads : (i : ℕ) (s : State) → IsBehind P r s → LeadsAt P position r (undeclare i s)
  undeclare_leads i s h = search (leading, symbol_follows)

  pub unfluid_leads : (l : Value) (s : State) → IsBehind P r s → LeadsAt P position r (unfluid l s)
  unfluid_leads l s h = search (for_each_leads, undeclare_leads)

  pub set_leads : (u x : Value) (s : State) → IsBehind P r s → LeadsAt P position r (set u x s)
  set_leads u x s h = search (with_identifier_leads, by_name_leads)

  -- ---- each native; those that print or read ask for more of the preorder

  pub native_leads : (n : Native) (levels : Levels) (vs : List Value) (s : State) → NeedsOf P n → IsBehind P r s → LeadsAt P position r (native n levels vs s)
  native_leads (Tests t) levels vs s p h = search leading
  native_leads Eq levels vs s p h = search leading
  native_leads Equal levels vs s p h = search (leading, equal_leads)
  native_leads (Part path) levels vs s p h = part_leads steps path (argument vs 0) s h
  native_leads Cons levels vs s p h = pair_leads steps (argument vs 0) (argument vs 1) s h
  native_leads Rplaca levels vs s p h = with_car_leads steps (argument vs 0) (argument vs 1) s h
  native_leads Rplacd levels vs s p h = with_cdr_leads steps (argument vs 0) (argument vs 1) s h
  native_leads Append levels vs s p h = append_leads steps (argument vs 0) (argument vs 1) s h
  native_leads Reverse levels vs s p h = reversed_leads steps (argument vs 0) s h
  native_leads Length levels vs s p h = list_length_leads steps (argument vs 0) s h
  native_leads Member levels vs s p h = member_leads steps levels (argument vs 0) (argument vs 1) s h
  native_leads Memq levels vs s p h = memq_leads steps (argument vs 0) (argument vs 1) s h
  native_leads Assoc levels vs s p h = assoc_leads steps levels (argument vs 0) (argument vs 1) s h
  native_leads Nconc levels vs s p h = nconc_leads steps (argument vs 0) (argument vs 1) s h
  native_leads (Number o) levels vs s p h = operated_leads steps o vs s h
  native_leads Error levels vs s p h = search (leading, with_integer_leads)
  native_leads Mkvect levels vs s p h = mkvect_leads (argument vs 0) s h
  native_leads Getv levels vs s p h = getv_leads (argument vs 0) (argument vs 1) s h
  native_leads Putv levels vs s p h = putv_leads (argument vs 0) (argument vs 1) (argument vs 2) s h
  native_leads Upbv levels vs s p h = upbv_leads (argument vs 0) s h
  native_leads Gensym levels vs s p h = gensym_leads s h
  native_leads Intern levels vs s p h = intern_leads (argument vs 0) s h
  native_leads Explode levels vs s p h = explode_leads (argument vs 0) s h
  native_leads Compress levels vs s p h = compress_leads (argument vs 0) s h
  native_leads Get levels vs s p h = get_leads (argument vs 0) (argument vs 1) s h
  native_leads Flagp levels vs s p h = flagp_leads (argument vs 0) (argument vs 1) s h
  native_leads Put levels vs s p h = put_leads (argument vs 0) (argument vs 1) (argument vs 2) s h
  native_leads Remprop levels vs s p h = remprop_leads (argument vs 0) (argument vs 1) s h
  native_leads Flag levels vs s p h = flag_leads (argument vs 0) (argument vs 1) s h
  native_leads Remflag levels vs s p h = remflag_leads (argument vs 0) (argument vs 1) s h
  native_leads Getd levels vs s p h = getd_leads (argument vs 0) s h
  native_leads Putd levels vs s p h = putd_leads levels (argument vs 0) (argument vs 1) (argument vs 2) s h
  native_leads Remd levels vs s p h = remd_leads (argument vs 0) s h
  native_leads Fluid levels vs s p h = fluid_leads (argument vs 0) s h
  native_leads Global levels vs s p h = global_leads (argument vs 0) s h
  native_leads Unfluid levels vs s p h = unfluid_leads (argument vs 0) s h
  native_leads Set levels vs s p h = set_leads (argument vs 0) (argument vs 1) s h
  native_leads Prin1 levels vs s p h = printing_leads steps p atoms.Prin1 levels (argument vs 0) s h
  native_leads Prin2 levels vs s p h = printing_leads steps p atoms.Prin2 levels (argument vs 0) s h
  native_leads Print levels vs s p h = print_leads steps p levels (argument vs 0) s h
  native_leads Terpri levels vs s p h = search (leading, end_of_line_follows)
  native_leads Posn levels vs s p h = search leading
  native_leads Linelength levels vs s p h = linelength_leads steps (argument vs 0) s h
  native_leads Read levels vs s p h = read_leads steps p levels s h
  native_leads Readch levels vs s p h = readch_leads steps s h
  native_leads other levels vs s p h = search leading
