-- What each turn of the evaluator does.
use Rattle.std.proofs.Common.{◌≡◌, ℕ, ◌<◌, Bool, true, false, ◌&&◌, if◌then◌else◌, List, [], ◌∷◌, ◌++◌, map, Option, Some, None, refl, sym, ap, ◌∙◌, arith}
use Rattle.std.specs.Prelude.{Result, Err, MatchOption, slice_get, length, reverse, ◌-◌}
use Rattle.std.specs.List.{All, list_all}
use Rattle.std.proofs.lemmas.List.{length-append, reverse-append, reverse-reverse}
use Rattle.std.proofs.lemmas.List.Elements.{All-head, All-nil, All-tail}
use Rattle.rl_tags.specs.Tagged.{Tagged}
use Rattle.rl_tags.specs.Ids.{nil_id}
use Rattle.rl_tree.specs.Printing.{Page}
use Rattle.rl_text.specs.Datum.{Datum, Id, Pair, nil, quoted}
use Rattle.rl_world.specs.declared.world.World.{World}
use Rattle.rl_print.specs.Laws.{PiecesGoOn}
use Rattle.rl_world.specs.Output.{Output}
use Rattle.rl_print.specs.AtomText.{style_of}
use Rattle.rl_print.specs.declared.atom.Style.{Style}
use Rattle.rl_forms.specs.BuiltForms.{is_built, evaluated, page_after, with_end_of_line}
use Rattle.rl_forms.specs.KnownData.{IsKnown, IsRunning, KeepsKnown, StandsForDatum, datum_in}
use Rattle.rl_forms.specs.SeenForms.{IsConstant, call, cons_call, terpri_call, printer_name, pairs_of_datum, are_built}
use Rattle.rl_forms.specs.declared.forms.Printer.{Printer}
use Rattle.rl_forms.specs.declared.forms.Printer.TheVariants as printer
use Rattle.rl_forms.specs.Pages.{page_in, PageOfText, PrintsOnPage, HaltsPage, CutsPage, KeepsObjects}
use Rattle.rl_forms.specs.Tasks.{Step, Evaluate, Cons, EndLine, page_finished, Stacks, steps_of, page_at_end, AreKnown, tasks_weight, IsFurther, IsNewest, IsStuck, with_task, stacks_with_value, with_print, page_of_forms, tasks_begun}
use Rattle.rl_forms.specs.declared.evaluator.Task.TheVariants as task
use Rattle.rl_forms.proofs.Evaluating.{quiet, quiet_halts, prints_trans, halts_behind, cut_behind, then_prints, then_front, finished_adds, known_task, known_value, without_task, without_value, newest_task, kept_known, kept_steps, kept_values, objects_keep}
use Rattle.rl_forms.proofs.Paging.{shown}

-- ---- on data

finished_constant : (d : Datum) (steps : List Step) (values : List Datum) (page : Page) → IsConstant d → page_finished (Evaluate d ∷ steps) values page ≡ page_finished steps (d ∷ values) page
finished_constant d steps values page h = rw (h.built, h.same page) refl

both : (x y : Bool) (p : Option Page) → (if x && y then p else None) ≡ (if x then (if y then p else None) else None)
both true y p = refl
both false y p = refl

finished_cons : (a b : Datum) (steps : List Step) (values : List Datum) (page : Page) → page_finished (Evaluate (cons_call a b) ∷ steps) values page ≡ page_finished (Evaluate a ∷ Evaluate b ∷ Cons ∷ steps) values page
finished_cons a b steps values page =
    let x = evaluated a page in
    let y = evaluated b x.page in
    both (is_built a) (is_built b) (page_finished steps (Pair x.value y.value ∷ values) y.page)

-- ---- forms are taken apart

-- the value of a form in the place of the form
abbrev same_form : World → Stacks → Datum → List ℕ → Option Page
same_form w k d text = page_finished (Evaluate d ∷ steps_of w k) (map (datum_in w) k.values) (page_in w text)

pub after_constant : (told : Option (List ℕ)) (w : World) (k n : Stacks) (v : Tagged) → AreKnown w (with_task (task.Evaluate v) k) → IsConstant (datum_in w v) → n ≡ stacks_with_value v k
    → IsFurther told told w (with_task (task.Evaluate v) k) w n
after_constant told w k n v known h is = rw is (record {
  prints = quiet told w.output.waiting w.output.waiting (page_at_end w (with_task (task.Evaluate v) k)) (page_at_end w (stacks_with_value v k)) refl (λ text. finished_constant (datum_in w v) (steps_of w k) (map (datum_in w) k.values) (page_in w text) h);
  known = known_value w v k (newest_task w (task.Evaluate v) k known) (without_task w (task.Evaluate v) k known);
  lighter = omega arith;
})

pub after_quoted : (told : Option (List ℕ)) (w : World) (k n : Stacks) (v x : Tagged) → AreKnown w (with_task (task.Evaluate v) k) → IsKnown w x × (datum_in w v ≡ quoted (datum_in w x)) → n ≡ stacks_with_value x k
    → IsFurther told told w (with_task (task.Evaluate v) k) w n
after_quoted told w k n v x known h is = rw is (record {
  prints = quiet told w.output.waiting w.output.waiting (page_at_end w (with_task (task.Evaluate v) k)) (page_at_end w (stacks_with_value x k)) refl (λ text. ap (λ d. same_form w k d text) h.1);
  known = known_value w x k h.0 (without_task w (task.Evaluate v) k known);
  lighter = omega arith;
})

nil_known : (w : World) → IsRunning w → IsKnown w nil_id
nil_known w is = record { is = (is.table.nil, is.nil.interned.1) }

nil_datum : (w : World) → IsRunning w → datum_in w nil_id ≡ nil
unfolding datum_in
nil_datum w is = ap Id is.nil.name_is

pub after_line_call : (told : Option (List ℕ)) (w : World) (k k1 n : Stacks) (v : Tagged) → IsRunning w → AreKnown w (with_task (task.Evaluate v) k) → datum_in w v ≡ terpri_call → k1 ≡ stacks_with_value nil_id k → n ≡ with_task task.EndLine k1
    → IsFurther told told w (with_task (task.Evaluate v) k) w n
after_line_call told w k k1 n v running known h is1 is =
    let light : pairs_of_datum (datum_in w v) ≡ 1 = ap pairs_of_datum h in
    rw (is, is1) (record {
      prints = quiet told w.output.waiting w.output.waiting (page_at_end w (with_task (task.Evaluate v) k)) (page_at_end w (with_task task.EndLine (stacks_with_value nil_id k))) refl
          (λ text. ap (λ d. same_form w k d text) h ∙ ap (λ d. page_finished (EndLine ∷ steps_of w k) (d ∷ map (datum_in w) k.values) (page_in w text)) (sym (nil_datum w running)));
      known = known_task w task.EndLine (stacks_with_value nil_id k) tt (known_value w nil_id k (nil_known w running) (without_task w (task.Evaluate v) k known));
      lighter = omega arith;
    })

pub after_print_call : (told : Option (List ℕ)) (w : World) (k n : Stacks) (v a : Tagged) (f : Printer) → AreKnown w (with_task (task.Evaluate v) k) → IsKnown w a × (datum_in w v ≡ call (printer_name f) (datum_in w a)) → n ≡ with_print f a k
    → IsFurther told told w (with_task (task.Evaluate v) k) w n
after_print_call told w k n v a printer.Print known h is =
    let light : pairs_of_datum (datum_in w v) ≡ pairs_of_datum (call (printer_name printer.Print) (datum_in w a)) = ap pairs_of_datum h.1 in
    rw is (record {
      prints = quiet told w.output.waiting w.output.waiting (page_at_end w (with_task (task.Evaluate v) k)) (page_at_end w (with_print printer.Print a k)) refl (λ text. ap (λ d. same_form w k d text) h.1);
      known = known_task w (task.Evaluate a) _ h.0 (known_task w (task.Print _) _ tt (known_task w task.EndLine k tt (without_task w (task.Evaluate v) k known)));
      lighter = omega arith;
    })
after_print_call told w k n v a printer.Prin1 known h is =
    let light : pairs_of_datum (datum_in w v) ≡ pairs_of_datum (call (printer_name printer.Prin1) (datum_in w a)) = ap pairs_of_datum h.1 in
    rw is (record {
      prints = quiet told w.output.waiting w.output.waiting (page_at_end w (with_task (task.Evaluate v) k)) (page_at_end w (with_print printer.Prin1 a k)) refl (λ text. ap (λ d. same_form w k d text) h.1);
      known = known_task w (task.Evaluate a) _ h.0 (known_task w (task.Print _) k tt (without_task w (task.Evaluate v) k known));
      lighter = omega arith;
    })
after_print_call told w k n v a printer.Prin2 known h is =
    let light : pairs_of_datum (datum_in w v) ≡ pairs_of_datum (call (printer_name printer.Prin2) (datum_in w a)) = ap pairs_of_datum h.1 in
    rw is (record {
      prints = quiet told w.output.waiting w.output.waiting (page_at_end w (with_task (task.Evaluate v) k)) (page_at_end w (with_print printer.Prin2 a k)) refl (λ text. ap (λ d. same_form w k d text) h.1);
      known = known_task w (task.Evaluate a) _ h.0 (known_task w (task.Print _) k tt (without_task w (task.Evaluate v) k known));
      lighter = omega arith;
    })

pub after_cons_call : (told : Option (List ℕ)) (w : World) (k k1 k2 n : Stacks) (v a b : Tagged) → AreKnown w (with_task (task.Evaluate v) k)
    → IsKnown w a × IsKnown w b × (datum_in w v ≡ cons_call (datum_in w a) (datum_in w b))
    → k1 ≡ with_task task.Cons k → k2 ≡ with_task (task.Evaluate b) k1 → n ≡ with_task (task.Evaluate a) k2
    → IsFurther told told w (with_task (task.Evaluate v) k) w n
after_cons_call told w k k1 k2 n v a b known h is1 is2 is =
    let light : pairs_of_datum (datum_in w v) ≡ pairs_of_datum (cons_call (datum_in w a) (datum_in w b)) = ap pairs_of_datum h.2 in
    let rest = known_task w task.Cons k tt (without_task w (task.Evaluate v) k known) in
    rw (is, is2, is1) (record {
      prints = quiet told w.output.waiting w.output.waiting (page_at_end w (with_task (task.Evaluate v) k)) (page_at_end w (with_task (task.Evaluate a) (with_task (task.Evaluate b) (with_task task.Cons k)))) refl
          (λ text. ap (λ d. same_form w k d text) h.2 ∙ finished_cons (datum_in w a) (datum_in w b) (steps_of w k) (map (datum_in w) k.values) (page_in w text));
      known = known_task w (task.Evaluate a) (with_task (task.Evaluate b) (with_task task.Cons k)) h.0 (known_task w (task.Evaluate b) (with_task task.Cons k) h.1 rest);
      lighter = omega arith;
    })

-- ---- a pair is made

pub after_cons : (told : Option (List ℕ)) (w x : World) (k k1 k2 n : Stacks) (a d pair : Tagged) → AreKnown w k → k ≡ stacks_with_value d k1 → k1 ≡ stacks_with_value a k2
    → KeepsKnown w x → x.output ≡ w.output → StandsForDatum x pair (Pair (datum_in w a) (datum_in w d)) → n ≡ stacks_with_value pair k2
    → IsFurther told told w (with_task task.Cons k) x n
after_cons told w x k k1 k2 n a d pair known is1 is2 keeps output stands is =
    let known2 : AreKnown w k2 = without_value w a k2 (rw (← is2) (without_value w d k1 (rw (← is1) known))) in
    let steps = kept_steps w x k2 keeps known2 in
    let light : tasks_weight (steps_of x k2) ≡ tasks_weight (steps_of w k2) = ap tasks_weight steps in
    rw (is1, is2, is) (record {
      prints = quiet told w.output.waiting x.output.waiting (page_at_end w (with_task task.Cons (stacks_with_value d (stacks_with_value a k2)))) (page_at_end x (stacks_with_value pair k2)) (ap (λ (o : Output). o.waiting) output)
          (λ text. rw (stands.datum, steps, kept_values w x k2.values keeps known2.values, output) refl);
      known = known_value x pair k2 stands.known (kept_known w x k2 keeps known2);
      lighter = omega arith;
    })

-- ---- something is printed

-- what is to come, from another page
abbrev rest_of : World → Stacks → Page → Option Page
rest_of w k page = page_finished (steps_of w k) (map (datum_in w) k.values) page

kept_rest : (w x : World) (k : Stacks) (page : Page) → KeepsObjects w x → AreKnown w k → rest_of w k page ≡ rest_of x k page
kept_rest w x k page same known =
    let keeps = objects_keep w x same in
    rw (kept_steps w x k keeps known, kept_values w x k.values keeps known.values) refl

-- the page of a world and its tasks, where a task has printed
printed_on : (before now : Option (List ℕ)) (w x : World) (k : Stacks) (one : List ℕ → Page) → KeepsObjects w x → AreKnown w k
    → PrintsOnPage before now w.output.waiting x.output.waiting (λ t. Some (one t)) (λ t. Some (page_in x t)) → PrintsOnPage before now w.output.waiting x.output.waiting (λ t. rest_of w k (one t)) (page_at_end x k)
printed_on before now w x k one same known h =
    let p = then_prints (rest_of w k) before now w.output.waiting x.output.waiting one (page_in x) h in
    record { bytes = p.bytes; follows = p.follows; means = λ text. p.means text ∙ kept_rest w x k (page_in x (text ++ p.bytes)) same known }

further_on : (before now : Option (List ℕ)) (w x : World) (k l : Stacks) (one : List ℕ → Page) → KeepsObjects w x → AreKnown w k → ((text : List ℕ) → page_at_end w l text ≡ rest_of w k (one text)) → tasks_weight (steps_of w k) < tasks_weight (steps_of w l)
    → PrintsOnPage before now w.output.waiting x.output.waiting (λ t. Some (one t)) (λ t. Some (page_in x t)) → IsFurther before now w l x k
further_on before now w x k l one same known starts less h =
    let p = printed_on before now w x k one same known h in
    let keeps = objects_keep w x same in
    let light : tasks_weight (steps_of x k) ≡ tasks_weight (steps_of w k) = ap tasks_weight (kept_steps w x k keeps known) in
    record {
      prints = record { bytes = p.bytes; follows = p.follows; means = λ text. starts text ∙ p.means text };
      known = kept_known w x k keeps known;
      lighter = omega (arith, light, less);
    }

print_starts : (w : World) (s : Style) (v : Tagged) (k : Stacks) → IsNewest v k → (text : List ℕ) → page_at_end w (with_task (task.Print s) k) text ≡ rest_of w k (shown (style_of s) w v text)
print_starts w s v k newest text =
    let same : (l : Stacks) → page_at_end w (with_task (task.Print s) (stacks_with_value v l)) text ≡ rest_of w (stacks_with_value v l) (shown (style_of s) w v text) = λ l. refl in
    rw newest.1 (same newest.0)

pub after_print : (before now : Option (List ℕ)) (w x : World) (k : Stacks) (s : Style) (v : Tagged) → AreKnown w k → IsNewest v k → KeepsObjects w x
    → PrintsOnPage before now w.output.waiting x.output.waiting (λ t. Some (shown (style_of s) w v t)) (λ t. Some (page_in x t)) → IsFurther before now w (with_task (task.Print s) k) x k
after_print before now w x k s v known newest same h = further_on before now w x k (with_task (task.Print s) k) (shown (style_of s) w v) same known (print_starts w s v k newest) (omega arith) h

pub print_halts : (before now : Option (List ℕ)) (w x : World) (k : Stacks) (s : Style) (v : Tagged) → IsNewest v k
    → HaltsPage before now w.output.waiting x.output.waiting (λ t. Some (shown (style_of s) w v t)) → HaltsPage before now w.output.waiting x.output.waiting (page_at_end w (with_task (task.Print s) k))
print_halts before now w x k s v newest h =
    let front = then_front (rest_of w k) (finished_adds (steps_of w k) (map (datum_in w) k.values)) (shown (style_of s) w v) h.bytes h.front in
    record { bytes = h.bytes; follows = h.follows; front = record { more = λ text. rw (print_starts w s v k newest text) (front.more text) } }

pub print_cut : (before now : Option (List ℕ)) (w : World) (k : Stacks) (s : Style) (v : Tagged) → IsNewest v k
    → CutsPage before now w.output.waiting (λ t. Some (shown (style_of s) w v t)) → CutsPage before now w.output.waiting (page_at_end w (with_task (task.Print s) k))
print_cut before now w k s v newest h =
    let front = then_front (rest_of w k) (finished_adds (steps_of w k) (map (datum_in w) k.values)) (shown (style_of s) w v) h.bytes h.front in
    record { bytes = h.bytes; cut = h.cut; front = record { more = λ text. rw (print_starts w s v k newest text) (front.more text) } }

pub after_line : (before now : Option (List ℕ)) (w x : World) (k : Stacks) → AreKnown w k → KeepsObjects w x
    → PrintsOnPage before now w.output.waiting x.output.waiting (λ t. Some (with_end_of_line (page_in w t))) (λ t. Some (page_in x t)) → IsFurther before now w (with_task task.EndLine k) x k
after_line before now w x k known same h = further_on before now w x k (with_task task.EndLine k) (λ t. with_end_of_line (page_in w t)) same known (λ text. refl) (omega arith) h

pub line_cut : (before now : Option (List ℕ)) (w : World) (k : Stacks)
    → CutsPage before now w.output.waiting (λ t. Some (with_end_of_line (page_in w t))) → CutsPage before now w.output.waiting (page_at_end w (with_task task.EndLine k))
line_cut before now w k h =
    record { bytes = h.bytes; cut = h.cut; front = then_front (rest_of w k) (finished_adds (steps_of w k) (map (datum_in w) k.values)) (λ t. with_end_of_line (page_in w t)) h.bytes h.front }

-- ---- all forms

finished_forms : (ds values : List Datum) (page : Page) → list_all is_built ds ≡ true → page_finished (map Evaluate ds) values page ≡ Some (page_after ds page)
finished_forms [] values page h = refl
finished_forms (d ∷ ds) values page h =
    let first : is_built d ≡ true = and_first (is_built d) (list_all is_built ds) h in
    let rest : list_all is_built ds ≡ true = and_second (is_built d) (list_all is_built ds) h in
    rw first (finished_forms ds ((evaluated d page).value ∷ values) (evaluated d page).page rest)
  where
    and_first : (a b : Bool) → (a && b) ≡ true → a ≡ true
    and_first true b e = refl
    and_first false b e = e

    and_second : (a b : Bool) → (a && b) ≡ true → b ≡ true
    and_second true b e = e
    and_second false b e = absurd (cc)

forms_steps : (w : World) (vs : List Tagged) → steps_of w (tasks_begun vs) ≡ map Evaluate (map (datum_in w) vs)
forms_steps w [] = refl
forms_steps w (v ∷ vs) = ap (λ (steps : List Step). Evaluate (datum_in w v) ∷ steps) (forms_steps w vs)

-- what the forms print, told as what is to be done
pub forms_begun : (w : World) (vs : List Tagged) (k : Stacks) (text : List ℕ) → are_built w vs ≡ true → k ≡ tasks_begun vs → page_of_forms w vs text ≡ page_at_end w k text
forms_begun w vs k text built is = rw (is, forms_steps w vs) (sym (finished_forms (map (datum_in w) vs) [] (page_in w text) built))

pub begun_known : (w : World) (vs : List Tagged) (k : Stacks) → All (IsKnown w) vs → k ≡ tasks_begun vs → AreKnown w k
begun_known w vs k known is = rw is (go vs known)
  where
    go : (vs : List Tagged) → All (IsKnown w) vs → AreKnown w (tasks_begun vs)
    go [] h = record { tasks = All-nil _; values = All-nil (IsKnown w) }
    go (v ∷ vs) h = known_task w (task.Evaluate v) (tasks_begun vs) (All-head (IsKnown w) v vs h) (go vs (All-tail (IsKnown w) v vs h))

-- ---- faults

-- a fault is the same one in another answer
pub same_fault : {X Y F : Type 0} (a b : F) → let one : F → Result X F = λ f. Err f in one a ≡ one b → let other : F → Result Y F = λ f. Err f in other a ≡ other b
same_fault a b e = cc

-- ---- the newest value

at_seam : (xs : List Tagged) (y : Tagged) → slice_get (xs ++ y ∷ []) (length xs) ≡ Some y
at_seam [] y = refl
at_seam (x ∷ xs) y = at_seam xs y

newest_item : (xs : List Tagged) (y : Tagged) → slice_get (xs ++ y ∷ []) (length (xs ++ y ∷ []) - 1) ≡ Some y
newest_item xs y = let last : length (xs ++ y ∷ []) - 1 ≡ length xs = omega (arith, length-append xs (y ∷ [])) in rw last (at_seam xs y)

-- the last item is the newest value
pub newest_of : (items : List Tagged) (k : Stacks) → k.values ≡ reverse items → MatchOption (slice_get items (length items - 1)) (k.values ≡ []) (λ v. IsNewest v k)
newest_of items k e = rw (← reverse-reverse items) (go (reverse items) e)
  where
    go : (rs : List Tagged) → k.values ≡ rs → MatchOption (slice_get (reverse rs) (length (reverse rs) - 1)) (k.values ≡ []) (λ v. IsNewest v k)
    go [] e = e
    go (r ∷ rs) e = rw (reverse-append (r ∷ []) rs, newest_item (reverse rs) r) (record { tasks = k.tasks; values = rs }, ap (λ vs. record { tasks = k.tasks; values = vs }) e)

-- ---- from the first form to the last

pub all_done : (a b : Option (List ℕ)) (x y : List ℕ) (one : PageOfText) (w : World) (k : Stacks) → PrintsOnPage a b x y one (page_at_end w k) → k.tasks ≡ [] → PrintsOnPage a b x y one (λ text. Some (page_in w text))
all_done a b x y one w k p e = record {
  bytes = p.bytes;
  follows = p.follows;
  means = λ text. p.means text ∙ ap (λ tasks. page_finished (steps_of w (record { tasks = tasks; values = k.values })) (map (datum_in w) k.values) (page_in w (text ++ p.bytes))) e;
}

pub further_prints : PiecesGoOn → (a b c : Option (List ℕ)) (x : List ℕ) (one : PageOfText) (w v : World) (k l m : Stacks) → k ≡ l → PrintsOnPage a b x w.output.waiting one (page_at_end w k) → IsFurther b c w l v m → PrintsOnPage a c x v.output.waiting one (page_at_end v m)
further_prints law a b c x one w v k l m e p q = prints_trans law a b c x w.output.waiting v.output.waiting one (page_at_end w k) (page_at_end v m) p (rw e q.prints)

pub further_halts : PiecesGoOn → (a b c : Option (List ℕ)) (x z : List ℕ) (one : PageOfText) (w : World) (k l : Stacks) → k ≡ l → PrintsOnPage a b x w.output.waiting one (page_at_end w k) → HaltsPage b c w.output.waiting z (page_at_end w l) → HaltsPage a c x z one
further_halts law a b c x z one w k l e p h = halts_behind law a b c x w.output.waiting z one (page_at_end w k) p (rw e h)

pub further_cut : PiecesGoOn → (a b c : Option (List ℕ)) (x : List ℕ) (one : PageOfText) (w : World) (k l : Stacks) → k ≡ l → PrintsOnPage a b x w.output.waiting one (page_at_end w k) → CutsPage b c w.output.waiting (page_at_end w l) → CutsPage a c x one
further_cut law a b c x one w k l e p h = cut_behind law a b c x w.output.waiting one (page_at_end w k) p (rw e h)

pub begins : (told : Option (List ℕ)) (w : World) (vs : List Tagged) (k : Stacks) → are_built w vs ≡ true → k ≡ tasks_begun vs → PrintsOnPage told told w.output.waiting w.output.waiting (page_of_forms w vs) (page_at_end w k)
begins told w vs k built is = quiet told w.output.waiting w.output.waiting (page_of_forms w vs) (page_at_end w k) refl (λ text. forms_begun w vs k text built is)

-- before anything is done
pub halts_first : PiecesGoOn → (told : Option (List ℕ)) (w : World) (vs : List Tagged) → are_built w vs ≡ true → HaltsPage told told w.output.waiting w.output.waiting (page_of_forms w vs)
halts_first law told w vs built = halts_behind law told told told w.output.waiting w.output.waiting w.output.waiting (page_of_forms w vs) (page_at_end w (tasks_begun vs)) (begins told w vs (tasks_begun vs) built refl) (quiet_halts told w (tasks_begun vs) w.output.waiting refl)

-- built forms are evaluated to their end
pub not_stuck : (a b : Option (List ℕ)) (x : List ℕ) (w v : World) (vs : List Tagged) (k l : Stacks) → k ≡ l → PrintsOnPage a b x v.output.waiting (page_of_forms w vs) (page_at_end v k) → IsStuck v l → ⊥
not_stuck a b x w v vs k l e p stuck = let none : page_of_forms w vs [] ≡ None = p.means [] ∙ rw e (stuck ([] ++ p.bytes)) in cc
