-- What a run has printed when it ends.
use Rattle.std.proofs.Common.{◌≡◌, ℕ, ◌≤◌, ◌⊎◌, true, false, List, [], ◌++◌, length, take, map, Option, Some, None, refl, sym, ap, ◌∙◌, arith, inl, inr}
use Rattle.std.specs.Prelude.{nat_lt}
use Rattle.std.proofs.Math.Seq.{take-length}
use Rattle.std.proofs.lemmas.List.{append-nil, take-append-drop}
use Rattle.std.proofs.lemmas.Bool.{cases_Bool}
use Rattle.std.proofs.lemmas.Bool.Decides.{nat_tests}
use Rattle.std.proofs.lemmas.Bool.{ltb-true}
use Rattle.rl_tags.specs.Tagged.{Tagged}
use Rattle.rl_io.specs.Faults.{Rose}
use Rattle.rl_tree.specs.Printing.{Page}
use Rattle.rl_text.specs.Laws.{FindsSpelled, FindsNone}
use Rattle.rl_world.specs.Output.{Output}
use Rattle.rl_world.specs.Waiting.{GoesOut, FrontGoesOut}
use Rattle.rl_world.specs.declared.world.World.{World}
use Rattle.rl_print.specs.Laws.{PiecesGoOn}
use Rattle.rl_forms.specs.BuiltForms.{page_after}
use Rattle.rl_forms.specs.Meaning.{Meaning, Finished, Unbuilt, data_in, file_meaning, meaning_of_forms, nothing_printed, empty_page}
use Rattle.rl_forms.specs.KnownData.{IsBeginning, datum_in}
use Rattle.rl_forms.specs.SeenForms.{are_built}
use Rattle.rl_forms.specs.Appended.{Appended, AppendedFront}
use Rattle.rl_forms.specs.Pages.{page_in, PrintsOnPage, HaltsPage, CutsPage, IsFrontOfPage}
use Rattle.rl_forms.specs.Tasks.{page_of_forms}
use Rattle.rl_forms.specs.ReadForms.{AreRead}
use Rattle.rl_forms.specs.FileForms.{AreForms, PrintsForms, output_of}
use Rattle.rl_forms.specs.RunEnds.{EndsForms}
use Rattle.rl_forms.specs.Laws.{UnbuiltMeansUnspelled, AllAndNothingAreFronts}
use Rattle.rl_forms.specs.declared.run.Ending.{Ending}
use Rattle.rl_forms.specs.declared.run.Ending.TheVariants as ending
use Rattle.rl_forms.specs.declared.run.Ending.TheVariants.{Done, WriteFault, OutOfMemory}
use Rattle.rl_forms.proofs.Finding.{spelled_found}

-- ---- fronts

-- all that waits was written
follows_all : (old new : Option (List ℕ)) (text : List ℕ) → GoesOut old [] new [] text → Appended old new text
follows_all None new text h = tt
follows_all (Some x) None text h = absurd h
follows_all (Some x) (Some y) text h = h.1 ∙ ap (λ t. x ++ t) (sym (append-nil (take h.0 text)) ∙ (ap (λ t. take h.0 text ++ t) h.2 ∙ take-append-drop h.0 text))

front_of : PiecesGoOn → (old new : Option (List ℕ)) (bytes rest text : List ℕ) → FrontGoesOut old new bytes → text ≡ bytes ++ rest → AppendedFront old new text
front_of law old new bytes rest text h e = rw e (law.longer old new [] bytes rest h)

-- what waited was written, all or less
flushed_front : PiecesGoOn → (a b c : Option (List ℕ)) (y bytes : List ℕ) → GoesOut a [] b y bytes → FrontGoesOut b c y → FrontGoesOut a c bytes
flushed_front law a b c y bytes p q =
    let whole : FrontGoesOut a c (bytes ++ []) = law.cut a b c [] y bytes [] p (rw (append-nil y) q) in
    rw (append-nil bytes) at whole

-- ---- what the forms print, on an empty page

begun_page : (w : World) → IsBeginning w → page_in w [] ≡ empty_page
begun_page w is = ap (λ n. record { text = []; column = n }) is.column

forms_text : (w : World) (vs : List Tagged) → IsBeginning w → page_of_forms w vs [] ≡ Some (page_after (map (datum_in w) vs) empty_page)
forms_text w vs is = ap (λ p. Some (page_after (map (datum_in w) vs) p)) (begun_page w is)

some_text : (p q : Page) → Some p ≡ Some q → p.text ≡ q.text
some_text p q e = let same : p ≡ q = cc in ap (λ (p : Page). p.text) same

-- all that was printed
all_bytes : (a b : Option (List ℕ)) (w v : World) (vs : List Tagged) → IsBeginning w → (p : PrintsOnPage a b w.output.waiting v.output.waiting (page_of_forms w vs) (λ t. Some (page_in v t))) → output_of w vs ≡ p.bytes
all_bytes a b w v vs is p = some_text (page_after (map (datum_in w) vs) empty_page) (page_in v p.bytes) (sym (forms_text w vs is) ∙ p.means [])

front_bytes : (w : World) (vs : List Tagged) (bytes : List ℕ) → IsBeginning w → IsFrontOfPage (page_of_forms w vs) bytes → (rest : List ℕ) × (output_of w vs ≡ bytes ++ rest)
front_bytes w vs bytes is h =
    let r = h.more [] in
    (r.0, ap (λ p. (page_after (map (datum_in w) vs) p).text) (sym (begun_page w is)) ∙ r.1)

-- ---- how a run ends

pub done : PiecesGoOn → (a b c : Option (List ℕ)) (w v : World) (vs : List Tagged) → IsBeginning w → PrintsOnPage a b w.output.waiting v.output.waiting (page_of_forms w vs) (λ t. Some (page_in v t)) → GoesOut b v.output.waiting c [] [] → Appended a c (output_of w vs)
done law a b c w v vs is p q =
    let whole : GoesOut a [] c [] (p.bytes ++ []) = law.follows a b c [] v.output.waiting [] p.bytes [] (rw is.waiting at p.follows) q in
    rw (all_bytes a b w v vs is p, ← append-nil p.bytes) (follows_all a c (p.bytes ++ []) whole)

pub cut_at_end : PiecesGoOn → (a b c : Option (List ℕ)) (w v : World) (vs : List Tagged) → IsBeginning w → PrintsOnPage a b w.output.waiting v.output.waiting (page_of_forms w vs) (λ t. Some (page_in v t)) → FrontGoesOut b c v.output.waiting → AppendedFront a c (output_of w vs)
cut_at_end law a b c w v vs is p q = rw (all_bytes a b w v vs is p) (flushed_front law a b c v.output.waiting p.bytes (rw is.waiting at p.follows) q)

pub halted : PiecesGoOn → (a b c : Option (List ℕ)) (w v : World) (vs : List Tagged) → IsBeginning w → HaltsPage a b w.output.waiting v.output.waiting (page_of_forms w vs) → FrontGoesOut b c v.output.waiting → AppendedFront a c (output_of w vs)
halted law a b c w v vs is h q =
    let front = front_bytes w vs h.bytes is h.front in
    front_of law a c h.bytes front.0 (output_of w vs) (flushed_front law a b c v.output.waiting h.bytes (rw is.waiting at h.follows) q) front.1

pub cut_off : PiecesGoOn → (a c : Option (List ℕ)) (w : World) (vs : List Tagged) → IsBeginning w → CutsPage a c w.output.waiting (page_of_forms w vs) → AppendedFront a c (output_of w vs)
cut_off law a c w vs is h =
    let front = front_bytes w vs h.bytes is h.front in
    front_of law a c h.bytes front.0 (output_of w vs) (rw is.waiting at h.cut) front.1

-- a sink that takes all has no faults
pub rose_out : (a b : ℕ) → Rose a b ⊎ Rose 0 0 → Rose a b
rose_out a b (inl h) = h
rose_out a b (inr h) = absurd (omega arith)

-- ---- the forms of a file

short : (n : ℕ) → n ≤ 4096 → nat_lt 4096 n ≡ false
short n h = grind (arith, nat_tests)

meaning_is : (file : List ℕ) → length file ≤ 4096 → file_meaning (Some file) ≡ meaning_of_forms (data_in file)
meaning_is file h = rw (short (length file) h) refl

pub unread : (file : List ℕ) → length file ≤ 4096 → None ≡ data_in file → file_meaning (Some file) ≡ nothing_printed Unbuilt
unread file h e = meaning_is file h ∙ ap meaning_of_forms (sym e)

pub not_built : (file : List ℕ) (w : World) (vs : List Tagged) → length file ≤ 4096 → Some (map (datum_in w) vs) ≡ data_in file → are_built w vs ≡ false → file_meaning (Some file) ≡ nothing_printed Unbuilt
not_built file w vs h e b = meaning_is file h ∙ (ap meaning_of_forms (sym e) ∙ rw b refl)

pub are_forms : (file : List ℕ) (w v : World) (vs : List Tagged) → length file ≤ 4096 → IsBeginning w → AreRead w v vs → Some (map (datum_in v) vs) ≡ data_in file → are_built v vs ≡ true → AreForms file v vs
are_forms file w v vs h is r e b = record {
  beginning = record {
    running = r.running;
    waiting = ap (λ (o : Output). o.waiting) r.output ∙ is.waiting;
    column = ap (λ (o : Output). o.column) r.output ∙ is.column;
  };
  known = r.known;
  built = b;
  means = meaning_is file h ∙ (ap meaning_of_forms (sym e) ∙ rw b refl);
}

-- ---- the rule

-- a file that is not built is too long, or spells no built forms
pub unbuilt_rule : FindsSpelled → FindsNone → UnbuiltMeansUnspelled
unbuilt_rule finds none file e = elim (cases_Bool (nat_lt 4096 (length file))) [
  | inl long ↦ inl (ltb-true 4096 (length file) long)
  | inr small ↦ inr (λ forms spelled built.
      let found : data_in file ≡ Some forms = spelled_found finds none forms file spelled in
      let ends : (file_meaning (Some file)).outcome ≡ Finished = rw (small, found, built) refl in
      cc)
]

-- ---- the ending

-- a run over the forms of a file ends as they do
pub forms_end : (file : List ℕ) (w : World) (vs : List Tagged) (old new : Option (List ℕ)) (end : Ending) → AreForms file w vs → PrintsForms (output_of w vs) old new end → EndsForms file old new end
forms_end file w vs old new Done h p = record { finished = ap (λ (m : Meaning). m.outcome) h.means; output = rw (ap (λ (m : Meaning). m.output) h.means) p }
forms_end file w vs old new WriteFault h p = rw (ap (λ (m : Meaning). m.output) h.means) p
forms_end file w vs old new OutOfMemory h p = rw (ap (λ (m : Meaning). m.output) h.means) p
forms_end file w vs old new ending.Unbuilt h p = absurd p

-- it is one with which something may have been printed
pub never_unbuilt : (output : List ℕ) (old new : Option (List ℕ)) (end : Ending) → PrintsForms output old new end → end ≡ ending.Unbuilt → ⊥
never_unbuilt output old new Done p e = cc
never_unbuilt output old new WriteFault p e = cc
never_unbuilt output old new OutOfMemory p e = cc
never_unbuilt output old new ending.Unbuilt p e = p

-- ---- all and nothing

front_whole : (old new : Option (List ℕ)) (text : List ℕ) → Appended old new text → AppendedFront old new text
front_whole None new text h = tt
front_whole (Some x) None text h = absurd h
front_whole (Some x) (Some y) text h = (length text, h ∙ ap (λ (xs : List ℕ). x ++ xs) (sym (take-length text)))

pub front_none : (old new : Option (List ℕ)) (text : List ℕ) → new ≡ old → AppendedFront old new text
front_none None new text h = tt
front_none (Some x) None text h = cc
front_none (Some x) (Some y) text h = (0, let e : y ≡ x = cc in e ∙ sym (append-nil x))

pub fronts : AllAndNothingAreFronts
fronts = record { all = front_whole; nothing = front_none }
