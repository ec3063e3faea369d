-- Printed text: what PRIN1 and PRIN2 print of a value, and the turns and levels that they take (Standard Lisp Report 1979; turns and levels are this project's). Each pair, and each place of a vector, takes a turn as it is reached; each descent into a CAR or a place that is a pair or a vector takes a level until it is done.
use Rattle.std.specs.Prelude.{ℕ, zero, suc, ◌+◌, ◌-◌, ◌^◌, Bool, true, false, ◌&&◌, ◌==◌, nat_lt, min, if◌then◌else◌, List, [], ◌∷◌, ◌++◌, length, fold, slice_get, Option, Some, None}
use Rattle.rl_tree.specs.Value.{Value, Int, Id, Str, Ref, Fun, Object, Pair, Vector, Store}
use Rattle.rl_tree.specs.Atoms.{Style, atom_text}

-- ---- bytes on a page

-- what was printed, and the number of bytes since the last end of line, or 2^59 - 1 where they are more
pub record Page : Type 0 where
  pub text : List ℕ
  pub column : ℕ

-- the column after a byte: the bytes since the last end of line, or 2^59 - 1 where they are more
abbrev pub column_with : ℕ → ℕ → ℕ
column_with column b = if b == 10 then 0 else min (column + 1) (2 ^ 59 - 1)

abbrev pub with_text : Page → List ℕ → Page
with_text page bytes = record { text = page.text ++ bytes; column = fold column_with page.column bytes }

-- an atom that would pass the line length begins a new line, unless it begins one already
abbrev pub with_atom : ℕ → Page → List ℕ → Page
with_atom line_length page bytes =
    if nat_lt 0 page.column && nat_lt line_length (page.column + length bytes) then with_text (with_text page (10 ∷ [])) bytes else with_text page bytes

-- ---- how far printing came

-- all is printed; or a turn, or a level, was wanting
pub data Ending : Type 0 where
  Whole : Ending
  NoTurn : Ending
  TooDeep : Ending

-- the page, the turns that are left, and how printing ended
pub record Progress : Type 0 where
  pub page : Page
  pub turns : ℕ
  pub ending : Ending

-- what is printed: in which style, with which names of identifiers, which of them is NIL, which objects, and how long a line may be
pub record Setting : Type 0 where
  pub style : Style
  pub names : ℕ → List ℕ
  pub nil : ℕ
  pub store : Store
  pub line_length : ℕ

abbrev pub marked : List ℕ → Progress → Progress
marked bytes p = record p { page = with_text p.page bytes }

abbrev pub with_atom_of : Setting → Value → Progress → Progress
with_atom_of g v p = record p { page = with_atom g.line_length p.page (atom_text g.style g.names v) }

abbrev pub goes_on : Ending → Progress → (Progress → Progress) → Progress
goes_on Whole p next = next p
goes_on NoTurn p next = p
goes_on TooDeep p next = p

-- and then, if all is printed so far
abbrev pub and_then : Progress → (Progress → Progress) → Progress
and_then p next = goes_on p.ending p next

abbrev pub with_turn_of : ℕ → Progress → (Progress → Progress) → Progress
with_turn_of zero p next = record p { ending = NoTurn }
with_turn_of (suc t) p next = next (record p { turns = t })

-- a turn is taken first
abbrev pub with_turn : Progress → (Progress → Progress) → Progress
with_turn p next = with_turn_of p.turns p next

-- one of the levels that are left is entered first, where it is a descent
abbrev pub with_level : Bool → ℕ → Progress → (ℕ → Progress → Progress) → Progress
with_level false levels p next = next levels p
with_level true zero p next = record p { ending = TooDeep }
with_level true (suc l) p next = next l p

-- ---- the walk

-- an element, or an element of a list and the rest behind it
pub data PrintingJob : Type 0 where
  Element : Value → PrintingJob
  Listed : Value → Value → PrintingJob

-- how jobs are printed, with so many levels left
abbrev pub Printer : Type 0
Printer = PrintingJob → ℕ → Progress → Progress

-- the places of a vector from one on, and its end
abbrev pub places_printed : Printer → Bool → List Value → ℕ → Progress → Progress
places_printed print first [] levels p = marked (93 ∷ []) p
places_printed print first (x ∷ xs) levels p =
    with_turn p (λ p. and_then (print (Element x) levels (if first then p else marked (32 ∷ []) p)) (places_printed print false xs levels))

abbrev pub vector_printed : Printer → List Value → ℕ → Progress → Progress
vector_printed print xs levels p = places_printed print true xs levels (marked (91 ∷ []) p)

abbrev pub object_printed : Printer → Bool → Option Object → ℕ → Progress → Progress
object_printed print inner None levels p = p
object_printed print inner (Some (Pair a d)) levels p = with_turn p (λ p. with_level inner levels p (λ l p. print (Listed a d) l (marked (40 ∷ []) p)))
object_printed print inner (Some (Vector xs)) levels p = with_level inner levels p (λ l p. vector_printed print xs l p)

-- a value, by a descent where it is an inner one
abbrev pub value_printed : Setting → Printer → Bool → Value → ℕ → Progress → Progress
value_printed g print inner (Ref r) levels p = object_printed print inner (slice_get g.store r) levels p
value_printed g print inner (Int z) levels p = with_atom_of g (Int z) p
value_printed g print inner (Id i) levels p = with_atom_of g (Id i) p
value_printed g print inner (Str bytes) levels p = with_atom_of g (Str bytes) p
value_printed g print inner (Fun f place) levels p = with_atom_of g (Fun f place) p

-- ` . `, an atom, and `)`
abbrev pub dotted_atom : Setting → Value → Progress → Progress
dotted_atom g v p = marked (41 ∷ []) (with_atom_of g v (marked (32 ∷ 46 ∷ 32 ∷ []) p))

abbrev pub rest_object : Printer → Option Object → ℕ → Progress → Progress
rest_object print None levels p = p
rest_object print (Some (Pair a d)) levels p = with_turn p (λ p. print (Listed a d) levels (marked (32 ∷ []) p))
rest_object print (Some (Vector xs)) levels p = and_then (vector_printed print xs levels (marked (32 ∷ 46 ∷ 32 ∷ []) p)) (marked (41 ∷ []))

-- what stands behind an element of a list
abbrev pub rest_printed : Setting → Printer → Value → ℕ → Progress → Progress
rest_printed g print (Ref r) levels p = rest_object print (slice_get g.store r) levels p
rest_printed g print (Id i) levels p = if i == g.nil then marked (41 ∷ []) p else dotted_atom g (Id i) p
rest_printed g print (Int z) levels p = dotted_atom g (Int z) p
rest_printed g print (Str bytes) levels p = dotted_atom g (Str bytes) p
rest_printed g print (Fun f place) levels p = dotted_atom g (Fun f place) p

-- a job, by the turns that may still be taken
abbrev pub job_printed : Setting → ℕ → Printer
job_printed g zero job levels p = record p { ending = NoTurn }
job_printed g (suc n) (Element v) levels p = value_printed g (job_printed g n) true v levels p
job_printed g (suc n) (Listed a d) levels p = and_then (value_printed g (job_printed g n) true a levels p) (rest_printed g (job_printed g n) d levels)

-- PRIN1 or PRIN2 of a value
abbrev pub printed : Setting → Value → ℕ → Progress → Progress
printed g v levels p = value_printed g (job_printed g p.turns) false v levels p
