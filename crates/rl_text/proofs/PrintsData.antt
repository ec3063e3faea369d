-- What is printed of a value that is a datum is a front of the datum's text, and all of it where printing ends whole.
use Rattle.std.proofs.Common.{◌≡◌, ℕ, zero, suc, Bool, true, false, ◌==◌, if◌then◌else◌, List, [], ◌∷◌, ◌++◌, refl, ap, subst, sym, ◌∙◌, append_assoc}
use Rattle.std.specs.Str.{bytes_eq}
use Rattle.std.proofs.lemmas.Bool.Decides.{Decides-eqb, same_from_decides}
use Rattle.std.proofs.lemmas.Slice.Eq.{bytes_eq-Decides}
use Rattle.std.proofs.lemmas.List.{append-nil}
use Rattle.std.proofs.lemmas.List.Sums.{fold-append}
use Rattle.rl_tree.specs.Name.{nil_name}
use Rattle.rl_tree.specs.Value.{Value, Ref}
use Rattle.rl_tree.specs.Value as value
use Rattle.rl_tree.specs.Printing.{Page}
use Rattle.rl_tree.specs.Atoms.{Style, name_text}
use Rattle.rl_tree.specs.Printing.{Setting, Progress, Ending, Whole, NoTurn, TooDeep, PrintingJob, Listed, dotted_atom, with_text, with_atom, and_then, goes_on, with_turn, with_turn_of, with_level, marked, job_printed, value_printed, object_printed, rest_printed, rest_object, vector_printed, places_printed, printed}
use Rattle.rl_tree.specs.Printing as job
use Rattle.rl_text.specs.Datum.{Datum, Elements, Int, Id, Str, Pair, Vector, NoElements, Element}
use Rattle.rl_text.specs.Printed.{Piece, Atom, Mark, with_piece, with_pieces, pieces_of, rest_pieces, first_pieces, further_pieces, with_datum}
use Rattle.rl_text.specs.Stored.{IsStored, AreStored, IsIdentifier}

-- ---- a page and more on it

-- the text of one page goes on from that of another
record GoesOn (some more : Page) : Type 0 where
  rest : List ℕ
  is : more.text ≡ some.text ++ rest

same_goes_on : (page : Page) → GoesOn page page
same_goes_on page = record { rest = []; is = sym (append-nil page.text) }

goes_on_further : (one two three : Page) → GoesOn one two → GoesOn two three → GoesOn one three
goes_on_further one two three first second =
    record { rest = first.rest ++ second.rest; is = second.is ∙ ap (λ (text : List ℕ). text ++ second.rest) first.is ∙ append_assoc one.text first.rest second.rest }

text_goes_on : (page : Page) (bytes : List ℕ) → GoesOn page (with_text page bytes)
text_goes_on page bytes = record { rest = bytes; is = refl }

atom_goes_on_by : (breaks : Bool) (page : Page) (bytes : List ℕ) → GoesOn page (if breaks then with_text (with_text page (10 ∷ [])) bytes else with_text page bytes)
atom_goes_on_by true page bytes = goes_on_further page (with_text page (10 ∷ [])) (with_text (with_text page (10 ∷ [])) bytes) (text_goes_on page (10 ∷ [])) (text_goes_on (with_text page (10 ∷ [])) bytes)
atom_goes_on_by false page bytes = text_goes_on page bytes

piece_goes_on : (line_length : ℕ) (page : Page) (piece : Piece) → GoesOn page (with_piece line_length page piece)
piece_goes_on line_length page (Atom bytes) = atom_goes_on_by _ page bytes
piece_goes_on line_length page (Mark bytes) = text_goes_on page bytes

-- pieces only add to the text
pieces_go_on : (line_length : ℕ) (page : Page) (pieces : List Piece) → GoesOn page (with_pieces line_length page pieces)
pieces_go_on line_length page [] = same_goes_on page
pieces_go_on line_length page (piece ∷ pieces) =
    goes_on_further page (with_piece line_length page piece) (with_pieces line_length page (piece ∷ pieces)) (piece_goes_on line_length page piece) (pieces_go_on line_length (with_piece line_length page piece) pieces)

-- ---- printing

-- so far a front of the text of this page is printed, and this page where printing ended whole
record Prints (page : Page) (p : Progress) : Type 0 where
  goes_on : GoesOn p.page page
  whole : p.ending ≡ Whole → p.page ≡ page

prints_page : (p : Progress) → Prints p.page p
prints_page p = record { goes_on = same_goes_on p.page; whole = λ ends. refl }

-- printing that stopped printed a front
stopped_prints : (page : Page) (p : Progress) → GoesOn p.page page → (p.ending ≡ Whole → ⊥) → Prints page p
stopped_prints page p more stopped = record { goes_on = more; whole = λ ends. absurd (stopped ends) }

stops_for_turn : (page : Page) (p : Progress) → GoesOn p.page page → Prints page (record p { ending = NoTurn })
stops_for_turn page p more = stopped_prints page (record p { ending = NoTurn }) more (λ (ends : NoTurn ≡ Whole). cc)

stops_for_level : (page : Page) (p : Progress) → GoesOn p.page page → Prints page (record p { ending = TooDeep })
stops_for_level page p more = stopped_prints page (record p { ending = TooDeep }) more (λ (ends : TooDeep ≡ Whole). cc)

-- more pieces follow where printing ended whole
goes_on_by : (ending : Ending) (line_length : ℕ) (page : Page) (pieces : List Piece) (p : Progress) (next : Progress → Progress) → p.ending ≡ ending → Prints page p → (p.page ≡ page → Prints (with_pieces line_length page pieces) (next p)) → Prints (with_pieces line_length page pieces) (goes_on ending p next)
goes_on_by Whole line_length page pieces p next ends one two = two (one.whole ends)
goes_on_by NoTurn line_length page pieces p next ends one two =
    stopped_prints (with_pieces line_length page pieces) p (goes_on_further p.page page (with_pieces line_length page pieces) one.goes_on (pieces_go_on line_length page pieces)) (λ (whole : p.ending ≡ Whole). cc)
goes_on_by TooDeep line_length page pieces p next ends one two =
    stopped_prints (with_pieces line_length page pieces) p (goes_on_further p.page page (with_pieces line_length page pieces) one.goes_on (pieces_go_on line_length page pieces)) (λ (whole : p.ending ≡ Whole). cc)

-- what prints these pieces from wherever it begins
abbrev PrintsPieces : ℕ → List Piece → (Progress → Progress) → Type 0
PrintsPieces line_length pieces next = (p : Progress) → Prints (with_pieces line_length p.page pieces) (next p)

-- these pieces and then those
prints_then : (line_length : ℕ) (page : Page) (some more : List Piece) (p : Progress) (next : Progress → Progress) → Prints (with_pieces line_length page some) p → PrintsPieces line_length more next → Prints (with_pieces line_length page (some ++ more)) (and_then p next)
prints_then line_length page some more p next one two =
    rw (fold-append (with_piece line_length) page some more)
    (goes_on_by p.ending line_length (with_pieces line_length page some) more p next refl one (λ same. subst (λ (page : Page). Prints (with_pieces line_length page more) (next p)) same (two p)))

-- a turn is taken, or wanting
prints_by_turn : (turns line_length : ℕ) (pieces : List Piece) (p : Progress) (next : Progress → Progress) → ((t : ℕ) → Prints (with_pieces line_length p.page pieces) (next (record p { turns = t }))) → Prints (with_pieces line_length p.page pieces) (with_turn_of turns p next)
prints_by_turn zero line_length pieces p next holds = stops_for_turn (with_pieces line_length p.page pieces) p (pieces_go_on line_length p.page pieces)
prints_by_turn (suc t) line_length pieces p next holds = holds t

-- a level is entered, or wanting
prints_by_level : (inner : Bool) (levels line_length : ℕ) (pieces : List Piece) (p : Progress) (next : ℕ → Progress → Progress) → ((l : ℕ) → Prints (with_pieces line_length p.page pieces) (next l p)) → Prints (with_pieces line_length p.page pieces) (with_level inner levels p next)
prints_by_level false levels line_length pieces p next holds = holds levels
prints_by_level true zero line_length pieces p next holds = stops_for_level (with_pieces line_length p.page pieces) p (pieces_go_on line_length p.page pieces)
prints_by_level true (suc l) line_length pieces p next holds = holds l

-- ---- a datum

-- the datum's pieces are printed of a value that is it
abbrev PrintsValue : Setting → Datum → Type 0
PrintsValue g d = (n : ℕ) (inner : Bool) (v : Value) (levels : ℕ) → IsStored g.store g.names g.nil v d → PrintsPieces g.line_length (pieces_of g.style d) (value_printed g (job_printed g n) inner v levels)

-- and behind an element of a list
abbrev PrintsRest : Setting → Datum → Type 0
PrintsRest g d = (n : ℕ) (v : Value) (levels : ℕ) → IsStored g.store g.names g.nil v d → PrintsPieces g.line_length (rest_pieces g.style d) (rest_printed g (job_printed g n) v levels)

-- the elements of a vector, behind `[` or behind an element
abbrev place_pieces : Bool → Style → Elements → List Piece
place_pieces true style es = first_pieces style es
place_pieces false style es = further_pieces style es

abbrev PrintsPlaces : Setting → Elements → Type 0
PrintsPlaces g es = (n : ℕ) (first : Bool) (xs : List Value) (levels : ℕ) → AreStored g.store g.names g.nil xs es → PrintsPieces g.line_length (place_pieces first g.style es) (places_printed (job_printed g n) first xs levels)

-- an element and what stands behind it
prints_listed : (g : Setting) (a d : Datum) → PrintsValue g a → PrintsRest g d → (n : ℕ) (x y : Value) (levels : ℕ) → IsStored g.store g.names g.nil x a → IsStored g.store g.names g.nil y d → PrintsPieces g.line_length (pieces_of g.style a ++ rest_pieces g.style d) (job_printed g n (Listed x y) levels)
prints_listed g a d value rest zero x y levels one two p = stops_for_turn _ p (pieces_go_on g.line_length p.page (pieces_of g.style a ++ rest_pieces g.style d))
prints_listed g a d value rest (suc n) x y levels one two p =
    prints_then g.line_length p.page (pieces_of g.style a) (rest_pieces g.style d) (value_printed g (job_printed g n) true x levels p) (rest_printed g (job_printed g n) y levels) (value n true x levels one p) (rest n y levels two)

-- an element of a vector
prints_element : (g : Setting) (e : Datum) → PrintsValue g e → (n : ℕ) (x : Value) (levels : ℕ) → IsStored g.store g.names g.nil x e → PrintsPieces g.line_length (pieces_of g.style e) (job_printed g n (job.Element x) levels)
prints_element g e value zero x levels is p = stops_for_turn _ p (pieces_go_on g.line_length p.page (pieces_of g.style e))
prints_element g e value (suc n) x levels is p = value n true x levels is p

-- a pair, from its parts
prints_pair : (g : Setting) (a d : Datum) → PrintsValue g a → PrintsRest g d → PrintsValue g (Pair a d)
prints_pair g a d value rest n inner v levels (x, y, pair, one, two) p =
    rw (pair.is, pair.stands)
    (prints_by_turn p.turns g.line_length (pieces_of g.style (Pair a d)) p _
    (λ t. prints_by_level inner levels g.line_length (pieces_of g.style (Pair a d)) (record p { turns = t }) _
    (λ l. prints_listed g a d value rest n x y l one two (marked (40 ∷ []) (record p { turns = t })))))

prints_rest_pair : (g : Setting) (a d : Datum) → PrintsValue g a → PrintsRest g d → PrintsRest g (Pair a d)
prints_rest_pair g a d value rest n v levels (x, y, pair, one, two) p =
    rw (pair.is, pair.stands)
    (prints_by_turn p.turns g.line_length (rest_pieces g.style (Pair a d)) p _
    (λ t. prints_listed g a d value rest n x y levels one two (marked (32 ∷ []) (record p { turns = t }))))

-- a vector, from its elements
prints_vector : (g : Setting) (es : Elements) → PrintsPlaces g es → PrintsValue g (Vector es)
prints_vector g es places n inner v levels (xs, vector, are) p =
    rw (vector.is, vector.stands)
    (prints_by_level inner levels g.line_length (pieces_of g.style (Vector es)) p _ (λ l. places n true xs l are (marked (91 ∷ []) p)))

prints_rest_vector : (g : Setting) (es : Elements) → PrintsPlaces g es → PrintsRest g (Vector es)
prints_rest_vector g es places n v levels (xs, vector, are) p =
    rw (vector.is, vector.stands)
    (let q : Progress = marked (91 ∷ []) (marked (32 ∷ 46 ∷ 32 ∷ []) p) in
    prints_then g.line_length q.page (first_pieces g.style es) (Mark (41 ∷ []) ∷ []) (places_printed (job_printed g n) true xs levels q) (marked (41 ∷ [])) (places n true xs levels are q) (λ r. prints_page (marked (41 ∷ []) r)))

-- a place and those behind it
prints_places : (g : Setting) (e : Datum) (es : Elements) → PrintsValue g e → PrintsPlaces g es → PrintsPlaces g (Element e es)
prints_places g e es value places n first [] levels are p = absurd are
prints_places g e es value places n true (x ∷ xs) levels are p =
    prints_by_turn p.turns g.line_length (first_pieces g.style (Element e es)) p _
    (λ t. prints_then g.line_length p.page (pieces_of g.style e) (further_pieces g.style es) (job_printed g n (job.Element x) levels (record p { turns = t })) (places_printed (job_printed g n) false xs levels)
    (prints_element g e value n x levels are.0 (record p { turns = t })) (places n false xs levels are.1))
prints_places g e es value places n false (x ∷ xs) levels are p =
    prints_by_turn p.turns g.line_length (further_pieces g.style (Element e es)) p _
    (λ t. let q : Progress = marked (32 ∷ []) (record p { turns = t }) in
    prints_then g.line_length q.page (pieces_of g.style e) (further_pieces g.style es) (job_printed g n (job.Element x) levels q) (places_printed (job_printed g n) false xs levels)
    (prints_element g e value n x levels are.0 q) (places n false xs levels are.1))

prints_end : (g : Setting) → PrintsPlaces g NoElements
prints_end g n true [] levels are p = prints_page (marked (93 ∷ []) p)
prints_end g n false [] levels are p = prints_page (marked (93 ∷ []) p)
prints_end g n first (x ∷ xs) levels are p = absurd are

-- an identifier
prints_name : (g : Setting) (name : List ℕ) → PrintsValue g (Id name)
prints_name g name n inner v levels is p = rw (is.is, ← is.named) (prints_page _)

-- it ends a list where it is NIL
nil_same : (names : ℕ → List ℕ) (nil : ℕ) (v : Value) (name : List ℕ) (is : IsIdentifier names nil v name) → (is.number == nil) ≡ bytes_eq name nil_name
nil_same names nil v name is =
    let by_number = Decides-eqb is.number nil in
    same_from_decides (is.number == nil) (bytes_eq name nil_name) (λ e. is.nil_alone.0 (by_number.0 e), λ e. by_number.1 (is.nil_alone.1 e)) (bytes_eq-Decides name nil_name)

ends_list : (g : Setting) (i : ℕ) (ends : Bool) (p : Progress) → Prints (with_pieces g.line_length p.page (if ends then Mark (41 ∷ []) ∷ [] else Mark (32 ∷ 46 ∷ 32 ∷ []) ∷ Atom (name_text g.style (g.names i)) ∷ Mark (41 ∷ []) ∷ [])) (if ends then marked (41 ∷ []) p else dotted_atom g (value.Id i) p)
ends_list g i true p = prints_page _
ends_list g i false p = prints_page _

prints_rest_name : (g : Setting) (name : List ℕ) → PrintsRest g (Id name)
prints_rest_name g name n v levels is p = rw (is.is, ← nil_same g.names g.nil v name is, ← is.named) (ends_list g is.number (is.number == g.nil) p)

mutual
  prints_value : (g : Setting) (d : Datum) → PrintsValue g d
  prints_value g (Int z) = λ n inner v levels is p. rw is (prints_page _)
  prints_value g (Id name) = prints_name g name
  prints_value g (Str bytes) = λ n inner v levels is p. rw is (prints_page _)
  prints_value g (Pair a d) = prints_pair g a d (prints_value g a) (prints_rest g d)
  prints_value g (Vector es) = prints_vector g es (prints_elements g es)

  prints_rest : (g : Setting) (d : Datum) → PrintsRest g d
  prints_rest g (Int z) = λ n v levels is p. rw is (prints_page _)
  prints_rest g (Id name) = prints_rest_name g name
  prints_rest g (Str bytes) = λ n v levels is p. rw is (prints_page _)
  prints_rest g (Pair a d) = prints_rest_pair g a d (prints_value g a) (prints_rest g d)
  prints_rest g (Vector es) = prints_rest_vector g es (prints_elements g es)

  prints_elements : (g : Setting) (es : Elements) → PrintsPlaces g es
  prints_elements g NoElements = prints_end g
  prints_elements g (Element e es) = prints_places g e es (prints_value g e) (prints_elements g es)

-- the datum is printed, or a front of it
pub printed_whole : (g : Setting) (v : Value) (d : Datum) (levels : ℕ) (p : Progress) → IsStored g.store g.names g.nil v d → (printed g v levels p).ending ≡ Whole → (printed g v levels p).page ≡ with_datum g.style g.line_length d p.page
printed_whole g v d levels p is whole = (prints_value g d p.turns false v levels is p).whole whole

pub printed_front : (g : Setting) (v : Value) (d : Datum) (levels : ℕ) (p : Progress) → IsStored g.store g.names g.nil v d → (rest : List ℕ) × ((with_datum g.style g.line_length d p.page).text ≡ (printed g v levels p).page.text ++ rest)
printed_front g v d levels p is = let more = (prints_value g d p.turns false v levels is p).goes_on in (more.rest, more.is)
