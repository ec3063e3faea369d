-- What a turn of the evaluator leaves to be done.
use Rattle.std.proofs.Common.{◌≡◌, ℕ, Bool, true, false, if◌then◌else◌, List, [], ◌∷◌, ◌++◌, map, Option, Some, None, IfSome, refl, sym, ap, ◌∙◌, append_assoc}
use Rattle.std.specs.List.{All}
use Rattle.std.specs.Str.{bytes_eq}
use Rattle.std.proofs.lemmas.Bool.{cond_both}
use Rattle.std.proofs.lemmas.List.{append-nil}
use Rattle.std.proofs.lemmas.List.Elements.{All-cons, All-head, All-tail, All-weaker}
use Rattle.rl_tags.specs.Tagged.{Tagged}
use Rattle.rl_tree.specs.Atoms.{Style, Prin1, Prin2}
use Rattle.rl_tree.specs.Name.{quote_name}
use Rattle.rl_tree.specs.Printing.{Page}
use Rattle.rl_text.specs.Datum.{Datum, Id, Pair}
use Rattle.rl_text.specs.Printed.{with_datum}
use Rattle.rl_world.specs.Waiting.{GoesOut}
use Rattle.rl_world.specs.declared.world.World.{World}
use Rattle.rl_print.specs.Laws.{PiecesGoOn}
use Rattle.rl_forms.specs.BuiltForms.{line_length, prin1_name, prin2_name, Valued, is_built, evaluated, printed_on_page, with_end_of_line}
use Rattle.rl_forms.specs.KnownData.{IsKnown, IsRunning, KeepsKnown, datum_in}
use Rattle.rl_forms.specs.Pages.{page_in, PageOfText, PrintsOnPage, IsFrontOfPage, HaltsPage, CutsPage, KeepsObjects}
use Rattle.rl_forms.specs.Tasks.{Step, Evaluate, Cons, Print, EndLine, page_finished, Stacks, step_in, steps_of, page_at_end, KnowsTask, AreKnown, IsNewest, with_task, stacks_with_value}
use Rattle.rl_forms.specs.declared.evaluator.Task.{Task}
use Rattle.rl_forms.specs.declared.evaluator.Task.TheVariants as task
use Rattle.rl_forms.proofs.Paging.{datum_apart, blank}

-- ---- a page that only grows

-- the text of the second is that of the first, and more
pub record Adds (a b : Page) : Type 0 where
  pub more : List ℕ
  pub text : b.text ≡ a.text ++ more

adds_refl : (a : Page) → Adds a a
adds_refl a = record { more = []; text = sym (append-nil a.text) }

adds_trans : (a b c : Page) → Adds a b → Adds b c → Adds a c
adds_trans a b c p q = record { more = p.more ++ q.more; text = q.text ∙ (ap (λ t. t ++ q.more) p.text ∙ append_assoc a.text p.more q.more) }

datum_adds : (s : Style) (d : Datum) (page : Page) → Adds page (with_datum s line_length d page)
datum_adds s d page = record { more = (with_datum s line_length d (blank page.column)).text; text = ap (λ (p : Page). p.text) (datum_apart s line_length d page) }

line_adds : (page : Page) → Adds page (with_end_of_line page)
line_adds page = record { more = 10 ∷ []; text = refl }

if_adds : (c : Bool) (page x y : Page) → Adds page x → Adds page y → Adds page (if c then x else y)
if_adds true page x y p q = p
if_adds false page x y p q = q

printed_adds : (f : List ℕ) (d : Datum) (page : Page) → Adds page (printed_on_page f d page)
printed_adds f d page =
    let one = with_datum Prin1 line_length d page in
    let line = with_end_of_line one in
    let first : Adds page one = datum_adds Prin1 d page in
    let last : Adds page line = adds_trans page one line first (line_adds one) in
    if_adds (bytes_eq f prin2_name) page (with_datum Prin2 line_length d page) (if bytes_eq f prin1_name then one else line) (datum_adds Prin2 d page) (if_adds (bytes_eq f prin1_name) page one line first last)

value_adds : (c : Bool) (page : Page) (x y : Valued) → Adds page x.page → Adds page y.page → Adds page (if c then x else y).page
value_adds true page x y p q = p
value_adds false page x y p q = q

evaluated_adds : (d : Datum) (page : Page) → Adds page (evaluated d page).page
evaluated_adds (Pair (Id f) (Id end)) page = line_adds page
evaluated_adds (Pair (Id f) (Pair a (Id end))) page =
    let x = evaluated a page in
    let printed = printed_on_page f x.value x.page in
    value_adds (bytes_eq f quote_name) page (record { value = a; page = page }) (record { value = x.value; page = printed }) (adds_refl page) (adds_trans page x.page printed (evaluated_adds a page) (printed_adds f x.value x.page))
evaluated_adds (Pair (Id f) (Pair a (Pair b (Id end)))) page =
    let x = evaluated a page in
    adds_trans page x.page (evaluated b x.page).page (evaluated_adds a page) (evaluated_adds b x.page)
evaluated_adds d page = adds_refl page

abbrev pub AddsTo : Page → Option Page → Type 0
AddsTo page told = IfSome told (λ p. (rest : List ℕ) × (p.text ≡ page.text ++ rest))

adds_to : (a b : Page) (told : Option Page) → Adds a b → AddsTo b told → AddsTo a told
adds_to a b None p h = tt
adds_to a b (Some c) p h = (p.more ++ h.0, h.1 ∙ (ap (λ t. t ++ h.0) p.text ∙ append_assoc a.text p.more h.0))

-- what is still to be done only adds to the page
pub finished_adds : (steps : List Step) (values : List Datum) (page : Page) → AddsTo page (page_finished steps values page)
finished_adds [] values page = ([], sym (append-nil page.text))
finished_adds (Evaluate d ∷ steps) values page =
    cond_both (is_built d) (page_finished steps ((evaluated d page).value ∷ values) (evaluated d page).page) None (AddsTo page)
    (λ e. adds_to page (evaluated d page).page (page_finished steps ((evaluated d page).value ∷ values) (evaluated d page).page) (evaluated_adds d page) (finished_adds steps ((evaluated d page).value ∷ values) (evaluated d page).page))
    (λ e. tt)
finished_adds (Cons ∷ steps) (d ∷ a ∷ values) page = finished_adds steps (Pair a d ∷ values) page
finished_adds (Cons ∷ steps) [] page = tt
finished_adds (Cons ∷ steps) (d ∷ []) page = tt
finished_adds (Print s ∷ steps) (v ∷ values) page = adds_to page (with_datum s line_length v page) (page_finished steps (v ∷ values) (with_datum s line_length v page)) (datum_adds s v page) (finished_adds steps (v ∷ values) (with_datum s line_length v page))
finished_adds (Print s ∷ steps) [] page = tt
finished_adds (EndLine ∷ steps) values page = adds_to page (with_end_of_line page) (page_finished steps values (with_end_of_line page)) (line_adds page) (finished_adds steps values (with_end_of_line page))

-- ---- bytes that are printed, and what is to come of them

some_same : {X : Type 0} (a b : X) → Some a ≡ Some b → a ≡ b
some_same a b e = cc

-- what comes of a page comes of what is printed on it
pub then_prints : (F : Page → Option Page) (before now : Option (List ℕ)) (waited waiting : List ℕ) (old new : List ℕ → Page) → PrintsOnPage before now waited waiting (λ t. Some (old t)) (λ t. Some (new t)) → PrintsOnPage before now waited waiting (λ t. F (old t)) (λ t. F (new t))
then_prints F before now waited waiting old new h = record {
  bytes = h.bytes;
  follows = h.follows;
  means = λ text. ap F (some_same (old text) (new (text ++ h.bytes)) (h.means text));
}

pub then_front : (F : Page → Option Page) → ((page : Page) → AddsTo page (F page)) → (old : List ℕ → Page) (bytes : List ℕ) → IsFrontOfPage (λ t. Some (old t)) bytes → IsFrontOfPage (λ t. F (old t)) bytes
then_front F adds old bytes h = record { more = λ text. go text (F (old text)) (adds (old text)) (h.more text) }
  where
    go : (text : List ℕ) (told : Option Page) → AddsTo (old text) told → (rest : List ℕ) × ((old text).text ≡ (text ++ bytes) ++ rest) → IfSome told (λ p. (rest : List ℕ) × (p.text ≡ (text ++ bytes) ++ rest))
    go text None a r = tt
    go text (Some p) a r = (r.0 ++ a.0, a.1 ∙ (ap (λ t. t ++ a.0) r.1 ∙ append_assoc (text ++ bytes) r.0 a.0))

-- nothing follows
nothing_follows : (told : Option (List ℕ)) (waited waiting : List ℕ) → waiting ≡ waited → GoesOut told waited told waiting []
nothing_follows None waited waiting e = tt
nothing_follows (Some now) waited waiting e = (0, sym (append-nil now), e ∙ sym (append-nil waited))

-- nothing is printed
pub quiet : (told : Option (List ℕ)) (waited waiting : List ℕ) (old new : PageOfText) → waiting ≡ waited → ((text : List ℕ) → old text ≡ new text) → PrintsOnPage told told waited waiting old new
quiet told waited waiting old new e same = record {
  bytes = [];
  follows = nothing_follows told waited waiting e;
  means = λ text. same text ∙ ap new (sym (append-nil text));
}

-- nothing at all is a front
quiet_front : (w : World) (k : Stacks) → IsFrontOfPage (page_at_end w k) []
quiet_front w k = record { more = λ text. go text (page_at_end w k text) (finished_adds (steps_of w k) (map (datum_in w) k.values) (page_in w text)) }
  where
    go : (text : List ℕ) (told : Option Page) → AddsTo (page_in w text) told → IfSome told (λ p. (rest : List ℕ) × (p.text ≡ (text ++ []) ++ rest))
    go text None a = tt
    go text (Some p) a = (a.0, a.1 ∙ ap (λ t. t ++ a.0) (sym (append-nil text)))

pub quiet_halts : (told : Option (List ℕ)) (w : World) (k : Stacks) (waiting : List ℕ) → waiting ≡ w.output.waiting → HaltsPage told told w.output.waiting waiting (page_at_end w k)
quiet_halts told w k waiting e = record { bytes = []; follows = nothing_follows told w.output.waiting waiting e; front = quiet_front w k }

-- ---- one after another

pub prints_trans : PiecesGoOn → (a b c : Option (List ℕ)) (x y z : List ℕ) (one two three : PageOfText) → PrintsOnPage a b x y one two → PrintsOnPage b c y z two three → PrintsOnPage a c x z one three
prints_trans law a b c x y z one two three p q = record {
  bytes = p.bytes ++ q.bytes;
  follows = law.follows a b c x y z p.bytes q.bytes p.follows q.follows;
  means = λ text. p.means text ∙ (q.means (text ++ p.bytes) ∙ ap three (append_assoc text p.bytes q.bytes));
}

front_behind : (one two : PageOfText) (first bytes : List ℕ) → ((text : List ℕ) → one text ≡ two (text ++ first)) → IsFrontOfPage two bytes → IsFrontOfPage one (first ++ bytes)
front_behind one two first bytes same h = record {
  more = λ text. rw (same text, ← append_assoc text first bytes) (h.more (text ++ first));
}

pub halts_behind : PiecesGoOn → (a b c : Option (List ℕ)) (x y z : List ℕ) (one two : PageOfText) → PrintsOnPage a b x y one two → HaltsPage b c y z two → HaltsPage a c x z one
halts_behind law a b c x y z one two p h = record {
  bytes = p.bytes ++ h.bytes;
  follows = law.follows a b c x y z p.bytes h.bytes p.follows h.follows;
  front = front_behind one two p.bytes h.bytes p.means h.front;
}

pub cut_behind : PiecesGoOn → (a b c : Option (List ℕ)) (x y : List ℕ) (one two : PageOfText) → PrintsOnPage a b x y one two → CutsPage b c y two → CutsPage a c x one
cut_behind law a b c x y one two p h = record {
  bytes = p.bytes ++ h.bytes;
  cut = law.cut a b c x y p.bytes h.bytes p.follows h.cut;
  front = front_behind one two p.bytes h.bytes p.means h.front;
}

-- ---- what is known, as tasks and values come and go

pub known_task : (w : World) (t : Task) (k : Stacks) → KnowsTask w t → AreKnown w k → AreKnown w (with_task t k)
known_task w t k h known = record { tasks = All-cons (KnowsTask w) t k.tasks h known.tasks; values = known.values }

pub known_value : (w : World) (v : Tagged) (k : Stacks) → IsKnown w v → AreKnown w k → AreKnown w (stacks_with_value v k)
known_value w v k h known = record { tasks = known.tasks; values = All-cons (IsKnown w) v k.values h known.values }

pub without_task : (w : World) (t : Task) (k : Stacks) → AreKnown w (with_task t k) → AreKnown w k
without_task w t k known = record { tasks = All-tail (KnowsTask w) t k.tasks known.tasks; values = known.values }

pub without_value : (w : World) (v : Tagged) (k : Stacks) → AreKnown w (stacks_with_value v k) → AreKnown w k
without_value w v k known = record { tasks = known.tasks; values = All-tail (IsKnown w) v k.values known.values }

pub newest_task : (w : World) (t : Task) (k : Stacks) → AreKnown w (with_task t k) → KnowsTask w t
newest_task w t k known = All-head (KnowsTask w) t k.tasks known.tasks

newest_value : (w : World) (v : Tagged) (k : Stacks) → AreKnown w (stacks_with_value v k) → IsKnown w v
newest_value w v k known = All-head (IsKnown w) v k.values known.values

pub newest_known : (w : World) (v : Tagged) (k : Stacks) → AreKnown w k → IsNewest v k → IsKnown w v
newest_known w v k known newest = newest_value w v newest.0 (rw (← newest.1) known)

pub taken_value : (w : World) (k k1 : Stacks) (d : Tagged) → AreKnown w k → k ≡ stacks_with_value d k1 → IsKnown w d
taken_value w k k1 d known is = newest_value w d k1 (rw (← is) known)

pub second_value : (w : World) (k k1 k2 : Stacks) (a d : Tagged) → AreKnown w k → k ≡ stacks_with_value d k1 → k1 ≡ stacks_with_value a k2 → IsKnown w a
second_value w k k1 k2 a d known is1 is2 = newest_value w a k2 (rw (← is2) (without_value w d k1 (rw (← is1) known)))

-- ---- a world that grows

kept_task : (v w : World) (t : Task) → KeepsKnown v w → KnowsTask v t → KnowsTask w t × (step_in w t ≡ step_in v t)
kept_task v w (task.Evaluate x) k h = (k.known x h, ap Evaluate (k.datum x h))
kept_task v w task.Cons k h = (tt, refl)
kept_task v w (task.Print s) k h = (tt, refl)
kept_task v w task.EndLine k h = (tt, refl)

kept_map : {X Y : Type 0} (f g : X → Y) (P : X → Type 0) → ((x : X) → P x → g x ≡ f x) → (xs : List X) → All P xs → map g xs ≡ map f xs
kept_map f g P same [] h = refl
kept_map f g P same (x ∷ xs) h = rw (same x (All-head P x xs h), kept_map f g P same xs (All-tail P x xs h)) refl

pub kept_known : (v w : World) (k : Stacks) → KeepsKnown v w → AreKnown v k → AreKnown w k
kept_known v w k keeps h = record {
  tasks = All-weaker (KnowsTask v) (KnowsTask w) (λ t p. (kept_task v w t keeps p).0) k.tasks h.tasks;
  values = All-weaker (IsKnown v) (IsKnown w) keeps.known k.values h.values;
}

pub kept_steps : (v w : World) (k : Stacks) → KeepsKnown v w → AreKnown v k → steps_of w k ≡ steps_of v k
kept_steps v w k keeps h = kept_map (step_in v) (step_in w) (KnowsTask v) (λ t p. (kept_task v w t keeps p).1) k.tasks h.tasks

pub kept_values : (v w : World) (vs : List Tagged) → KeepsKnown v w → All (IsKnown v) vs → map (datum_in w) vs ≡ map (datum_in v) vs
kept_values v w vs keeps h = kept_map (datum_in v) (datum_in w) (IsKnown v) keeps.datum vs h

-- where only what is printed has changed
pub objects_keep : (v w : World) → KeepsObjects v w → KeepsKnown v w
unfolding datum_in
objects_keep v w h = record {
  known = λ x k. record { is = rw (h.cells, h.syms) k.is };
  datum = λ x k. rw h.cells refl;
}

pub objects_running : (v w : World) → KeepsObjects v w → IsRunning v → IsRunning w
objects_running v w h is = record {
  table = rw (h.cells, h.syms) is.table;
  nil = rw (h.cells, h.syms) is.nil;
  t = rw (h.cells, h.syms) is.t;
  quote = rw (h.cells, h.syms) is.quote;
  cons = rw (h.cells, h.syms) is.cons;
  prin1 = rw (h.cells, h.syms) is.prin1;
  prin2 = rw (h.cells, h.syms) is.prin2;
  print = rw (h.cells, h.syms) is.print;
  terpri = rw (h.cells, h.syms) is.terpri;
  line = h.line ∙ is.line;
}
