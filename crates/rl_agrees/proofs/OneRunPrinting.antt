-- Printing only puts more on the page, and keeps a law on one run.
use Rattle.std.proofs.Common.{◌==◌, ◌+◌, ◌&&◌, nat_lt, pos, ℕ, zero, suc, Bool, true, false, if◌then◌else◌, List, [], ◌∷◌, ◌++◌, length, slice_get, Option, Some, None, sym, ap, ◌∙◌, append_assoc, append-nil}
use Rattle.rl_tree.specs.Value.{Value, Int, Id, Str, Ref, Fun, Object}
use Rattle.rl_tree.specs.Value as object
use Rattle.rl_tree.specs.Atoms.{Style, Prin2}
use Rattle.rl_tree.specs.Printing.{Page, with_text, with_atom, with_atom_of, Setting, Progress, Ending, Whole, NoTurn, TooDeep, PrintingJob, Element, Listed, Printer, marked, goes_on, and_then, with_turn_of, with_turn, with_level, places_printed, vector_printed, object_printed, value_printed, dotted_atom, rest_object, rest_printed, job_printed, printed}
use Rattle.rl_meaning.specs.State.{State, Expansion}
use Rattle.rl_meaning.specs.Constants.{reading_whole}
use Rattle.rl_meaning.specs.Outcome.{Levels}
use Rattle.rl_meaning.specs.Printing.{page_of, setting_in, progress_in, levels_in, Elements, turns_taken, ended_printing, with_page, after_printing, print_value, print_mark, message_rest, elements_within, dotted_message, message_object, message_printed, print_message, fresh_line, print_end_of_line, print_error, printing, print, linelength, note_value, note_error, note}
use Rattle.rl_meaning.specs.Printing as text
use Rattle.rl_meaning.specs.Evaluation.{Position}
use Rattle.rl_agrees.specs.Later.{IsMore}
use Rattle.rl_agrees.proofs.OneRun.{StepsAt, Prints, IsBehind, LeadsAt, follows_then}
use Rattle.rl_agrees.proofs.OneRunObjects.{leading, reading_whole_follows}

-- ---- lists that begin alike

pub more_same : {A : Type 0} (xs : List A) → IsMore xs xs
more_same xs = record { rest = []; is = sym (append-nil xs) }

pub more_behind : {A : Type 0} (xs ys zs : List A) → IsMore xs ys → IsMore xs (ys ++ zs)
more_behind {A} xs ys zs h = record { rest = h.rest ++ zs; is = ap (λ (l : List A). l ++ zs) h.is ∙ simp append_assoc }

pub more_then : {A : Type 0} (xs ys zs : List A) → IsMore xs ys → IsMore ys zs → IsMore xs zs
more_then {A} xs ys zs h k = record { rest = h.rest ++ k.rest; is = k.is ∙ (ap (λ (l : List A). l ++ k.rest) h.is ∙ simp append_assoc) }

-- ---- pages

-- the page has this text, and more behind it
pub record Adds (old : List ℕ) (p : Progress) : Type 0 where
  pub more : IsMore old p.page.text

pub text_more : (old : List ℕ) (page : Page) (bytes : List ℕ) → IsMore old page.text → IsMore old (with_text page bytes).text
text_more old page bytes h = more_behind old page.text bytes h

pub if_more : (b : Bool) (old : List ℕ) (x y : Page) → IsMore old x.text → IsMore old y.text → IsMore old (if b then x else y).text
if_more true old x y h k = h
if_more false old x y h k = k

pub atom_more : (old : List ℕ) (n : ℕ) (page : Page) (bytes : List ℕ) → IsMore old page.text → IsMore old (with_atom n page bytes).text
atom_more old n page bytes h = if_more (nat_lt 0 page.column && nat_lt n (page.column + length bytes)) old (with_text (with_text page (10 ∷ [])) bytes) (with_text page bytes) (text_more old (with_text page (10 ∷ [])) bytes (text_more old page (10 ∷ []) h)) (text_more old page bytes h)

pub marked_adds : (old bytes : List ℕ) (p : Progress) → Adds old p → Adds old (marked bytes p)
marked_adds old bytes p h = record { more = text_more old p.page bytes h.more }

pub atom_adds : (old : List ℕ) (g : Setting) (v : Value) (p : Progress) → Adds old p → Adds old (with_atom_of g v p)
atom_adds old g v p h = record { more = atom_more old g.line_length p.page _ h.more }

pub dotted_adds : (old : List ℕ) (g : Setting) (v : Value) (p : Progress) → Adds old p → Adds old (dotted_atom g v p)
dotted_adds old g v p h = marked_adds old (41 ∷ []) _ (atom_adds old g v _ (marked_adds old (32 ∷ 46 ∷ 32 ∷ []) p h))

pub then_adds : (old : List ℕ) (p : Progress) (next : Progress → Progress) → Adds old p → ((q : Progress) → Adds old q → Adds old (next q)) → Adds old (and_then p next)
then_adds old p next h k = at p.ending
  where
    at : (e : Ending) → Adds old (goes_on e p next)
    at Whole = k p h
    at NoTurn = h
    at TooDeep = h

pub turn_adds : (old : List ℕ) (p : Progress) (next : Progress → Progress) → Adds old p → ((q : Progress) → Adds old q → Adds old (next q)) → Adds old (with_turn p next)
turn_adds old p next h k = at p.turns
  where
    at : (n : ℕ) → Adds old (with_turn_of n p next)
    at zero = record { more = h.more }
    at (suc n) = k _ (record { more = h.more })

pub level_adds : (old : List ℕ) (b : Bool) (levels : ℕ) (p : Progress) (next : ℕ → Progress → Progress) → Adds old p → ((l : ℕ) → Adds old (next l p)) → Adds old (with_level b levels p next)
level_adds old false levels p next h k = k levels
level_adds old true zero p next h k = record { more = h.more }
level_adds old true (suc l) p next h k = k l

pub if_adds : (old : List ℕ) (b : Bool) (p q : Progress) → Adds old p → Adds old q → Adds old (if b then p else q)
if_adds old true p q h k = h
if_adds old false p q h k = k

-- how jobs are printed only adds to a page
abbrev pub Adding : List ℕ → Printer → Type 0
Adding old print = (j : PrintingJob) (levels : ℕ) (p : Progress) → Adds old p → Adds old (print j levels p)

module _ (old : List ℕ) where
  pub places_add : (print : Printer) → Adding old print → (first : Bool) (xs : List Value) (levels : ℕ) (p : Progress) → Adds old p → Adds old (places_printed print first xs levels p)
  places_add print k first [] levels p h = marked_adds old _ p h
  places_add print k first (x ∷ xs) levels p h =
      turn_adds old p _ h (λ q h. then_adds old _ _ (k (Element x) levels _ (if_adds old first q _ h (marked_adds old _ q h))) (λ q h. places_add print k false xs levels q h))

  pub vector_adds : (print : Printer) → Adding old print → (xs : List Value) (levels : ℕ) (p : Progress) → Adds old p → Adds old (vector_printed print xs levels p)
  vector_adds print k xs levels p h = places_add print k true xs levels _ (marked_adds old _ p h)

  pub object_adds : (print : Printer) → Adding old print → (inner : Bool) (o : Option Object) (levels : ℕ) (p : Progress) → Adds old p → Adds old (object_printed print inner o levels p)
  object_adds print k inner None levels p h = h
  object_adds print k inner (Some (object.Pair a d)) levels p h = turn_adds old p _ h (λ q h. level_adds old inner levels q _ h (λ l. k (Listed a d) l _ (marked_adds old _ q h)))
  object_adds print k inner (Some (object.Vector xs)) levels p h = level_adds old inner levels p _ h (λ l. vector_adds print k xs l p h)

  pub value_adds : (g : Setting) (print : Printer) → Adding old print → (inner : Bool) (v : Value) (levels : ℕ) (p : Progress) → Adds old p → Adds old (value_printed g print inner v levels p)
  value_adds g print k inner (Ref r) levels p h = object_adds print k inner (slice_get g.store r) levels p h
  value_adds g print k inner (Int z) levels p h = atom_adds old g (Int z) p h
  value_adds g print k inner (Id i) levels p h = atom_adds old g (Id i) p h
  value_adds g print k inner (Str bytes) levels p h = atom_adds old g (Str bytes) p h
  value_adds g print k inner (Fun f place) levels p h = atom_adds old g (Fun f place) p h

  pub rest_object_adds : (print : Printer) → Adding old print → (o : Option Object) (levels : ℕ) (p : Progress) → Adds old p → Adds old (rest_object print o levels p)
  rest_object_adds print k None levels p h = h
  rest_object_adds print k (Some (object.Pair a d)) levels p h = turn_adds old p _ h (λ q h. k (Listed a d) levels _ (marked_adds old _ q h))
  rest_object_adds print k (Some (object.Vector xs)) levels p h = then_adds old _ _ (vector_adds print k xs levels _ (marked_adds old _ p h)) (λ q h. marked_adds old _ q h)

  pub rest_adds : (g : Setting) (print : Printer) → Adding old print → (v : Value) (levels : ℕ) (p : Progress) → Adds old p → Adds old (rest_printed g print v levels p)
  rest_adds g print k (Ref r) levels p h = rest_object_adds print k (slice_get g.store r) levels p h
  rest_adds g print k (Id i) levels p h = if_adds old (i == g.nil) _ _ (marked_adds old (41 ∷ []) p h) (dotted_adds old g (Id i) p h)
  rest_adds g print k (Int z) levels p h = dotted_adds old g (Int z) p h
  rest_adds g print k (Str bytes) levels p h = dotted_adds old g (Str bytes) p h
  rest_adds g print k (Fun f place) levels p h = dotted_adds old g (Fun f place) p h

  pub job_adds : (g : Setting) (n : ℕ) → Adding old (job_printed g n)
  job_adds g zero j levels p h = record { more = h.more }
  job_adds g (suc n) (Element v) levels p h = value_adds g _ (job_adds g n) true v levels p h
  job_adds g (suc n) (Listed a d) levels p h = then_adds old _ _ (value_adds g _ (job_adds g n) true a levels p h) (λ q h. rest_adds g _ (job_adds g n) d levels q h)

  pub printed_adds : (g : Setting) (v : Value) (levels : ℕ) (p : Progress) → Adds old p → Adds old (printed g v levels p)
  printed_adds g v levels p h = value_adds g _ (job_adds g p.turns) false v levels p h

  -- ---- messages

  message_object_rest : (g : Setting) (elements : Elements) → ((a d : Value) (levels : ℕ) (p : Progress) → Adds old p → Adds old (elements a d levels p)) → (o : Option Object) (levels : ℕ) (p : Progress) → Adds old p → Adds old (text.rest_of_object g elements o levels p)
  message_object_rest g elements k (Some (object.Pair a d)) levels p h = turn_adds old p _ h (λ q h. k a d levels _ (marked_adds old _ q h))
  message_object_rest g elements k (Some (object.Vector xs)) levels p h = vector_adds _ (job_adds g (suc p.turns)) xs levels _ (marked_adds old _ p h)
  message_object_rest g elements k None levels p h = h

  message_dotted : (g : Setting) (v : Value) (p : Progress) → Adds old p → Adds old (dotted_message g v p)
  message_dotted g v p h = atom_adds old g v _ (marked_adds old (32 ∷ 46 ∷ 32 ∷ []) p h)

  pub message_rest_adds : (g : Setting) (elements : Elements) → ((a d : Value) (levels : ℕ) (p : Progress) → Adds old p → Adds old (elements a d levels p)) → (v : Value) (levels : ℕ) (p : Progress) → Adds old p → Adds old (message_rest g elements v levels p)
  message_rest_adds g elements k (Ref r) levels p h = message_object_rest g elements k (slice_get g.store r) levels p h
  message_rest_adds g elements k (Id i) levels p h = if_adds old (i == g.nil) _ _ h (message_dotted g (Id i) p h)
  message_rest_adds g elements k v levels p h = message_dotted g v p h

  pub elements_add : (g : Setting) (n : ℕ) (a d : Value) (levels : ℕ) (p : Progress) → Adds old p → Adds old (elements_within g n a d levels p)
  elements_add g zero a d levels p h = record { more = h.more }
  elements_add g (suc n) a d levels p h = then_adds old _ _ (value_adds g _ (job_adds g (suc p.turns)) true a levels p h) (λ q h. message_rest_adds g _ (elements_add g n) d levels q h)

  pub message_object_adds : (g : Setting) (v : Value) (o : Option Object) (levels : ℕ) (p : Progress) → Adds old p → Adds old (message_object g v o levels p)
  message_object_adds g v (Some (object.Pair a d)) levels p h = turn_adds old p _ h (λ q h. elements_add g (suc q.turns) a d levels q h)
  message_object_adds g v (Some (object.Vector xs)) levels p h = printed_adds g v levels p h
  message_object_adds g v None levels p h = printed_adds g v levels p h

  pub message_adds : (g : Setting) (v : Value) (levels : ℕ) (p : Progress) → Adds old p → Adds old (message_printed g v levels p)
  message_adds g (Ref r) levels p h = message_object_adds g (Ref r) (slice_get g.store r) levels p h
  message_adds g (Int z) levels p h = printed_adds g (Int z) levels p h
  message_adds g (Id i) levels p h = printed_adds g (Id i) levels p h
  message_adds g (Str bytes) levels p h = printed_adds g (Str bytes) levels p h
  message_adds g (Fun f place) levels p h = printed_adds g (Fun f place) levels p h

-- ---- in a state

module _ {freely : Bool} {P : State → State → Type 0} (steps : StepsAt freely P) (prints : Prints P) {r : State} where
  pub page_follows : (page : Page) (s : State) → IsMore s.outside.output page.text → IsBehind P r s → IsBehind P r (with_page page s)
  page_follows page s more h = follows_then steps r s _ h (prints.printed page s more)

  pub print_mark_follows : (bytes : List ℕ) (s : State) → IsBehind P r s → IsBehind P r (print_mark bytes s)
  print_mark_follows bytes s h = page_follows _ s (text_more _ (page_of s) bytes (more_same _)) h

  pub end_of_line_follows : (s : State) → IsBehind P r s → IsBehind P r (print_end_of_line s)
  end_of_line_follows s h = print_mark_follows _ s h

  pub fresh_line_follows : (s : State) → IsBehind P r s → IsBehind P r (fresh_line s)
  fresh_line_follows s h = at (s.outside.column == 0)
    where
      at : (b : Bool) → IsBehind P r (if b then s else print_end_of_line s)
      at true = h
      at false = end_of_line_follows s h

  pub note_follows : (line : List ℕ) (s : State) → IsBehind P r s → IsBehind P r (note line s)
  note_follows line s h = follows_then steps r s _ h (prints.note_ line s)

module _ {freely : Bool} {P : State → State → Type 0} (steps : StepsAt freely P) {r : State} where
  pub length_follows : (n : ℕ) (s : State) → IsBehind P r s → IsBehind P r (record s { outside = record s.outside { line_length = n } })
  length_follows n s h = follows_then steps r s _ h (steps.line_length n s)

module _ {freely : Bool} {P : State → State → Type 0} (steps : StepsAt freely P) (prints : Prints P) {position : Position} {r : State} where
  pub ended_printing_leads : (e : Ending) (s : State) → IsBehind P r s → LeadsAt P position r (ended_printing e s)
  ended_printing_leads Whole s h = search leading
  ended_printing_leads NoTurn s h = search leading
  ended_printing_leads TooDeep s h = search leading

  pub after_printing_leads : (p : Progress) (s : State) → Adds s.outside.output p → IsBehind P r s → LeadsAt P position r (after_printing p s)
  after_printing_leads p s adds h = ended_printing_leads p.ending _ (page_follows steps prints p.page _ (at s.counts.expansion) (follows_then steps r s _ h (steps.turns p.turns s)))
    where
      at : (o : Option Expansion) → IsMore (turns_taken o p.turns s).outside.output p.page.text
      at None = adds.more
      at (Some e) = adds.more

  pub print_value_leads : (style : Style) (levels : Levels) (v : Value) (s : State) → IsBehind P r s → LeadsAt P position r (print_value style levels v s)
  print_value_leads style levels v s h = after_printing_leads _ (reading_whole v s) (printed_adds _ (setting_in style s) v (levels_in levels s) (progress_in s) (record { more = more_same _ })) (reading_whole_follows steps v s h)

  pub print_message_leads : (levels : Levels) (v : Value) (s : State) → IsBehind P r s → LeadsAt P position r (print_message levels v s)
  print_message_leads levels v s h = after_printing_leads _ (reading_whole v s) (message_adds _ (setting_in Prin2 s) v (levels_in levels s) (progress_in s) (record { more = more_same _ })) (reading_whole_follows steps v s h)

  pub print_error_leads : (levels : Levels) (message : Value) (s : State) → IsBehind P r s → LeadsAt P position r (print_error levels message s)
  print_error_leads levels message s h = search (leading, print_message_leads, print_mark_follows, fresh_line_follows)

  pub printing_leads : (style : Style) (levels : Levels) (v : Value) (s : State) → IsBehind P r s → LeadsAt P position r (printing style levels v s)
  printing_leads style levels v s h = search (leading, print_value_leads)

  pub print_leads : (levels : Levels) (v : Value) (s : State) → IsBehind P r s → LeadsAt P position r (print levels v s)
  print_leads levels v s h = search (leading, print_value_leads, end_of_line_follows)

module _ {freely : Bool} {P : State → State → Type 0} (steps : StepsAt freely P) {position : Position} {r : State} where
  pub linelength_leads : (v : Value) (s : State) → IsBehind P r s → LeadsAt P position r (linelength v s)
  linelength_leads (Int (pos (suc n))) s h = search (leading, length_follows)
  linelength_leads (Int z) s h = search leading
  linelength_leads v s h = search leading
