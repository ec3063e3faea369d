-- The natives of two runs side by side: those that print nothing, and those that print.
use Rattle.std.proofs.Common.{◌≡◌, pos, negsuc, ℕ, zero, suc, Bool, true, false, List, [], ◌∷◌, subst}
use Rattle.rl_tree.specs.Value.{Value, Int}
use Rattle.rl_tree.specs.Atoms as atoms
use Rattle.rl_meaning.specs.Names.{Native, Tests, Eq, Equal, Part, Cons, Rplaca, Rplacd, Append, Reverse, Length, Member, Memq, Assoc, Nconc, Number, Error, Mkvect, Getv, Putv, Upbv, Gensym, Intern, Explode, Compress, Get, Flagp, Put, Remprop, Flag, Remflag, Getd, Putd, Remd, Fluid, Global, Unfluid, Set, Prin1, Prin2, Print, Terpri, Posn, Linelength, Read, Readch}
use Rattle.rl_meaning.specs.Names as names
use Rattle.rl_meaning.specs.State.{State}
use Rattle.rl_meaning.specs.Outcome.{Done, Unbuilt, Levels}
use Rattle.rl_meaning.specs.Symbols.{nil_value_of_state, truth, same}
use Rattle.rl_meaning.specs.Errors.{raise}
use Rattle.rl_meaning.specs.Numbers.{with_integer}
use Rattle.rl_meaning.specs.Atoms.{holds}
use Rattle.rl_meaning.specs.Definitions.{getd, putd, remd, fluid, global, unfluid, set}
use Rattle.rl_meaning.specs.Printing.{terpri, posn, with_line_length, linelength}
use Rattle.rl_meaning.specs.Natives.{native, argument}
use Rattle.rl_meaning.specs.TwoRunsValues.{Names, Each, SameValue, same_int, same_id, same_str, same_ref, same_fun}
use Rattle.rl_meaning.specs.TwoRunsStates.{Bounds, EntryPlace, Like, Roomier}
use Rattle.rl_meaning.specs.TwoRunsEnds.{Parted, Related}
use Rattle.rl_agrees.proofs.TwoRunsWays.{Beside, then_is, done_now, choose_related, stopped_now}
use Rattle.rl_agrees.proofs.TwoRunsObjects.{same_same, each_at, made_pair_related, raise_related, fail_related}
use Rattle.rl_agrees.proofs.TwoRunsWalks.{equal_related}
use Rattle.rl_agrees.proofs.TwoRunsLists.{part_related, with_car_related, with_cdr_related, append_related, reversed_related, list_length_related, member_related, memq_related, assoc_related, nconc_related}
use Rattle.rl_agrees.proofs.TwoRunsNumbers.{truth_same, with_integer_related, operated_related}
use Rattle.rl_agrees.proofs.TwoRunsAtoms.{holds_same, mkvect_related, getv_related, putv_related, upbv_related, gensym_related, intern_related, explode_related, compress_related}
use Rattle.rl_agrees.proofs.TwoRunsProperties.{get_related, flagp_related, put_related, remprop_related, flag_related, remflag_related}
use Rattle.rl_agrees.proofs.TwoRunsPrinting.{printing_related, print_related, mark_like}
use Rattle.rl_agrees.proofs.TwoRunsReading.{ReadsBeside, read_related, readch_related}

-- ---- the natives that define and declare, which are taken as given here

pub record DefinitionsAgree (bounds : Bounds) : Type 0 where
  pub getd_ : (n : Names) (ps : List EntryPlace) (u v : Value) (s t : State) → SameValue n u v → Like bounds n ps s t → Beside bounds SameValue n ps (getd u s) (getd v t)
  pub putd_ : (n : Names) (ps : List EntryPlace) (l m : Levels) (u v x y b c : Value) (s t : State) → Roomier bounds l m → SameValue n u v → SameValue n x y → SameValue n b c → Like bounds n ps s t → Beside bounds SameValue n ps (putd l u x b s) (putd m v y c t)
  pub remd_ : (n : Names) (ps : List EntryPlace) (u v : Value) (s t : State) → SameValue n u v → Like bounds n ps s t → Beside bounds SameValue n ps (remd u s) (remd v t)
  pub fluid_ : (n : Names) (ps : List EntryPlace) (u v : Value) (s t : State) → SameValue n u v → Like bounds n ps s t → Beside bounds SameValue n ps (fluid u s) (fluid v t)
  pub global_ : (n : Names) (ps : List EntryPlace) (u v : Value) (s t : State) → SameValue n u v → Like bounds n ps s t → Beside bounds SameValue n ps (global u s) (global v t)
  pub unfluid_ : (n : Names) (ps : List EntryPlace) (u v : Value) (s t : State) → SameValue n u v → Like bounds n ps s t → Beside bounds SameValue n ps (unfluid u s) (unfluid v t)
  pub set_ : (n : Names) (ps : List EntryPlace) (u v x y : Value) (s t : State) → SameValue n u v → SameValue n x y → Like bounds n ps s t → Related bounds (Parted bounds) SameValue n ps (set u x s) (set v y t)

-- ---- lines

module _ {bounds : Bounds} where
  pub terpri_related : (n : Names) (ps : List EntryPlace) (s t : State) → Like bounds n ps s t → Beside bounds SameValue n ps (terpri s) (terpri t)
  terpri_related n ps s t l = done_now n ps nil_value_of_state nil_value_of_state _ _ (same_id 0) (mark_like n ps (10 ∷ []) s t l)

number_same : (n : Names) (i j : ℕ) → i ≡ j → SameValue n (Int (pos i)) (Int (pos j))
number_same n i j e = subst (λ k. SameValue n (Int (pos i)) (Int (pos k))) e (same_int (pos i))

module _ {bounds : Bounds} where
  pub posn_related : (n : Names) (ps : List EntryPlace) (s t : State) → Like bounds n ps s t → Beside bounds SameValue n ps (posn s) (posn t)
  posn_related n ps s t l = done_now n ps _ _ s t (number_same n s.outside.column t.outside.column (λ k. (l.outside k).column)) l

  length_same : (n : Names) (ps : List EntryPlace) (s t : State) → Like bounds n ps s t → SameValue n (Int (pos s.outside.line_length)) (Int (pos t.outside.line_length))
  length_same n ps s t l = number_same n s.outside.line_length t.outside.line_length (λ k. (l.outside k).line_length)

  length_like : (n : Names) (ps : List EntryPlace) (i : ℕ) (s t : State) → Like bounds n ps s t → Like bounds n ps (record s { outside = record s.outside { line_length = i } }) (record t { outside = record t.outside { line_length = i } })
  length_like n ps i s t l = record { store = l.store; functions = l.functions; symbols = l.symbols; bindings = l.bindings; counts = l.counts; outside = λ k. record (l.outside k) { line_length = i }; gensyms = l.gensyms; compilation = l.compilation }

  set_length_related : (n : Names) (ps : List EntryPlace) (i : ℕ) (s t : State) → Like bounds n ps s t → Beside bounds SameValue n ps (with_line_length i s) (with_line_length i t)
  set_length_related n ps i s t l = done_now n ps _ _ _ _ (length_same n ps s t l) (length_like n ps i s t l)

  told_related : (n : Names) (ps : List EntryPlace) (s t : State) → Like bounds n ps s t → Beside bounds SameValue n ps (Done (Int (pos s.outside.line_length)) s) (Done (Int (pos t.outside.line_length)) t)
  told_related n ps s t l = done_now n ps _ _ s t (length_same n ps s t l) l

  pub linelength_related : (n : Names) (ps : List EntryPlace) (v w : Value) (s t : State) → SameValue n v w → Like bounds n ps s t → Beside bounds SameValue n ps (linelength v s) (linelength w t)
  linelength_related n ps _ _ s t (same_int (pos (suc i))) l = search (choose_related, set_length_related, fail_related, same_int)
  linelength_related n ps _ _ s t (same_int (pos zero)) l = search (fail_related, same_int)
  linelength_related n ps _ _ s t (same_int (negsuc i)) l = search (fail_related, same_int)
  linelength_related n ps _ _ s t (same_id i) l = search (choose_related, told_related, fail_related, same_id)
  linelength_related n ps _ _ s t (same_str bytes) l = search (fail_related, same_str)
  linelength_related n ps _ _ s t (same_ref r q h) l = search (fail_related, same_ref)
  linelength_related n ps _ _ s t (same_fun f g place h) l = search (fail_related, same_fun)

-- ---- all natives

pub argument_same : (n : Names) (xs ys : List Value) (i : ℕ) → Each (SameValue n) xs ys → SameValue n (argument xs i) (argument ys i)
argument_same n xs ys i h = each_at (SameValue n) xs ys nil_value_of_state nil_value_of_state i h (same_id 0)

module _ {bounds : Bounds} where
  tested_related : (n : Names) (ps : List EntryPlace) (test : names.Test) (v w : Value) (s t : State) → SameValue n v w → Like bounds n ps s t → Beside bounds SameValue n ps (Done (truth (holds test s v)) s) (Done (truth (holds test t w)) t)
  tested_related n ps test v w s t h l = subst (λ b. Beside bounds SameValue n ps (Done (truth (holds test s v)) s) (Done (truth b) t)) (holds_same n ps s t test v w l h) (done_now n ps _ _ s t (truth_same n (holds test s v)) l)

  eq_related : (n : Names) (ps : List EntryPlace) (u v x y : Value) (s t : State) → SameValue n u v → SameValue n x y → Like bounds n ps s t → Beside bounds SameValue n ps (Done (truth (same u x)) s) (Done (truth (same v y)) t)
  eq_related n ps u v x y s t h k l = subst (λ b. Beside bounds SameValue n ps (Done (truth (same u x)) s) (Done (truth b) t)) (same_same n u v x y l.store.once l.functions.once h k) (done_now n ps _ _ s t (truth_same n (same u x)) l)

  error_related : (n : Names) (ps : List EntryPlace) (u v x y : Value) (s t : State) → SameValue n u v → SameValue n x y → Like bounds n ps s t → Beside bounds SameValue n ps (with_integer u s (λ z s. raise z x s)) (with_integer v t (λ z s. raise z y s))
  error_related n ps u v x y s t h k l = with_integer_related n ps u v s t _ _ h l (λ z. raise_related n ps z x y s t l k)

-- natives that may stop in the middle of what they print
abbrev pub prints : Native → Bool
prints Prin1 = true
prints Prin2 = true
prints Print = true
prints other = false

-- SET may meet a variable that strays
abbrev pub sets : Native → Bool
sets Set = true
sets other = false

module _ {bounds : Bounds} (d : DefinitionsAgree bounds) (reads : ReadsBeside) where
  pub native_related : (n : Names) (ps : List EntryPlace) (o : Native) (l m : Levels) (xs ys : List Value) (s t : State) → prints o ≡ false → sets o ≡ false → Roomier bounds l m → Each (SameValue n) xs ys → Like bounds n ps s t → Beside bounds SameValue n ps (native o l xs s) (native o m ys t)
  native_related n ps (Tests test) l m xs ys s t p q r h e = tested_related n ps test _ _ s t (argument_same n xs ys 0 h) e
  native_related n ps Eq l m xs ys s t p q r h e = eq_related n ps _ _ _ _ s t (argument_same n xs ys 0 h) (argument_same n xs ys 1 h) e
  native_related n ps Equal l m xs ys s t p q r h e = then_is n ps _ _ _ _ (equal_related n ps l m _ _ _ _ s t r (argument_same n xs ys 0 h) (argument_same n xs ys 1 h) e) (λ k b s t g e. done_now k ps _ _ s t (truth_same k b) e)
  native_related n ps (Part path) l m xs ys s t p q r h e = part_related n ps path _ _ s t (argument_same n xs ys 0 h) e
  native_related n ps Cons l m xs ys s t p q r h e = made_pair_related n ps _ _ _ _ s t e (argument_same n xs ys 0 h) (argument_same n xs ys 1 h)
  native_related n ps Rplaca l m xs ys s t p q r h e = with_car_related n ps _ _ _ _ s t (argument_same n xs ys 0 h) (argument_same n xs ys 1 h) e
  native_related n ps Rplacd l m xs ys s t p q r h e = with_cdr_related n ps _ _ _ _ s t (argument_same n xs ys 0 h) (argument_same n xs ys 1 h) e
  native_related n ps Append l m xs ys s t p q r h e = append_related n ps _ _ _ _ s t (argument_same n xs ys 0 h) (argument_same n xs ys 1 h) e
  native_related n ps Reverse l m xs ys s t p q r h e = reversed_related n ps _ _ s t (argument_same n xs ys 0 h) e
  native_related n ps Length l m xs ys s t p q r h e = list_length_related n ps _ _ s t (argument_same n xs ys 0 h) e
  native_related n ps Member l m xs ys s t p q r h e = member_related n ps l m _ _ _ _ s t r (argument_same n xs ys 0 h) (argument_same n xs ys 1 h) e
  native_related n ps Memq l m xs ys s t p q r h e = memq_related n ps _ _ _ _ s t (argument_same n xs ys 0 h) (argument_same n xs ys 1 h) e
  native_related n ps Assoc l m xs ys s t p q r h e = assoc_related n ps l m _ _ _ _ s t r (argument_same n xs ys 0 h) (argument_same n xs ys 1 h) e
  native_related n ps Nconc l m xs ys s t p q r h e = nconc_related n ps _ _ _ _ s t (argument_same n xs ys 0 h) (argument_same n xs ys 1 h) e
  native_related n ps (Number o) l m xs ys s t p q r h e = operated_related n ps o xs ys s t h e
  native_related n ps Error l m xs ys s t p q r h e = error_related n ps _ _ _ _ s t (argument_same n xs ys 0 h) (argument_same n xs ys 1 h) e
  native_related n ps Mkvect l m xs ys s t p q r h e = mkvect_related n ps _ _ s t (argument_same n xs ys 0 h) e
  native_related n ps Getv l m xs ys s t p q r h e = getv_related n ps _ _ _ _ s t (argument_same n xs ys 0 h) (argument_same n xs ys 1 h) e
  native_related n ps Putv l m xs ys s t p q r h e = putv_related n ps _ _ _ _ _ _ s t (argument_same n xs ys 0 h) (argument_same n xs ys 1 h) (argument_same n xs ys 2 h) e
  native_related n ps Upbv l m xs ys s t p q r h e = upbv_related n ps _ _ s t (argument_same n xs ys 0 h) e
  native_related n ps Gensym l m xs ys s t p q r h e = gensym_related n ps s t e
  native_related n ps Intern l m xs ys s t p q r h e = intern_related n ps _ _ s t (argument_same n xs ys 0 h) e
  native_related n ps Explode l m xs ys s t p q r h e = explode_related n ps _ _ s t (argument_same n xs ys 0 h) e
  native_related n ps Compress l m xs ys s t p q r h e = compress_related n ps _ _ s t (argument_same n xs ys 0 h) e
  native_related n ps Get l m xs ys s t p q r h e = get_related n ps _ _ _ _ s t (argument_same n xs ys 0 h) (argument_same n xs ys 1 h) e
  native_related n ps Flagp l m xs ys s t p q r h e = flagp_related n ps _ _ _ _ s t (argument_same n xs ys 0 h) (argument_same n xs ys 1 h) e
  native_related n ps Put l m xs ys s t p q r h e = put_related n ps _ _ _ _ _ _ s t (argument_same n xs ys 0 h) (argument_same n xs ys 1 h) (argument_same n xs ys 2 h) e
  native_related n ps Remprop l m xs ys s t p q r h e = remprop_related n ps _ _ _ _ s t (argument_same n xs ys 0 h) (argument_same n xs ys 1 h) e
  native_related n ps Flag l m xs ys s t p q r h e = flag_related n ps _ _ _ _ s t (argument_same n xs ys 0 h) (argument_same n xs ys 1 h) e
  native_related n ps Remflag l m xs ys s t p q r h e = remflag_related n ps _ _ _ _ s t (argument_same n xs ys 0 h) (argument_same n xs ys 1 h) e
  native_related n ps Getd l m xs ys s t p q r h e = d.getd_ n ps _ _ s t (argument_same n xs ys 0 h) e
  native_related n ps Putd l m xs ys s t p q r h e = d.putd_ n ps l m _ _ _ _ _ _ s t r (argument_same n xs ys 0 h) (argument_same n xs ys 1 h) (argument_same n xs ys 2 h) e
  native_related n ps Remd l m xs ys s t p q r h e = d.remd_ n ps _ _ s t (argument_same n xs ys 0 h) e
  native_related n ps Fluid l m xs ys s t p q r h e = d.fluid_ n ps _ _ s t (argument_same n xs ys 0 h) e
  native_related n ps Global l m xs ys s t p q r h e = d.global_ n ps _ _ s t (argument_same n xs ys 0 h) e
  native_related n ps Unfluid l m xs ys s t p q r h e = d.unfluid_ n ps _ _ s t (argument_same n xs ys 0 h) e
  native_related n ps Terpri l m xs ys s t p q r h e = terpri_related n ps s t e
  native_related n ps Posn l m xs ys s t p q r h e = posn_related n ps s t e
  native_related n ps Linelength l m xs ys s t p q r h e = linelength_related n ps _ _ s t (argument_same n xs ys 0 h) e
  native_related n ps Read l m xs ys s t p q r h e = read_related reads n ps l m s t r e
  native_related n ps Readch l m xs ys s t p q r h e = readch_related n ps s t e
  native_related n ps Set l m xs ys s t p q r h e = absurd (cc)
  native_related n ps Prin1 l m xs ys s t p q r h e = absurd (cc)
  native_related n ps Prin2 l m xs ys s t p q r h e = absurd (cc)
  native_related n ps Print l m xs ys s t p q r h e = absurd (cc)
  native_related n ps other l m xs ys s t p q r h e = stopped_now n ps Unbuilt s t tt e

  pub set_related : (n : Names) (ps : List EntryPlace) (l m : Levels) (xs ys : List Value) (s t : State) → Each (SameValue n) xs ys → Like bounds n ps s t → Related bounds (Parted bounds) SameValue n ps (native Set l xs s) (native Set m ys t)
  set_related n ps l m xs ys s t h e = d.set_ n ps _ _ _ _ s t (argument_same n xs ys 0 h) (argument_same n xs ys 1 h) e

module _ {bounds : Bounds} where
  -- what prints
  pub printer_related : (n : Names) (ps : List EntryPlace) (o : Native) (l m : Levels) (xs ys : List Value) (s t : State) → prints o ≡ true → Roomier bounds l m → Each (SameValue n) xs ys → Like bounds n ps s t → Related bounds (Parted bounds) SameValue n ps (native o l xs s) (native o m ys t)
  printer_related n ps Prin1 l m xs ys s t p r h e = printing_related atoms.Prin1 n ps l m _ _ s t r (argument_same n xs ys 0 h) e
  printer_related n ps Prin2 l m xs ys s t p r h e = printing_related atoms.Prin2 n ps l m _ _ s t r (argument_same n xs ys 0 h) e
  printer_related n ps Print l m xs ys s t p r h e = print_related n ps l m _ _ s t r (argument_same n xs ys 0 h) e
  printer_related n ps other l m xs ys s t p r h e = absurd (cc)
