-- What PRIN1 and PRIN2 print of a datum: its atoms and the marks between them, in turn (Standard Lisp Report 1979, PRIN1 and PRIN2).
use Rattle.std.specs.Prelude.{ℕ, if◌then◌else◌, List, [], ◌∷◌, ◌++◌, fold}
use Rattle.std.specs.Fmt.{signed_decimal}
use Rattle.std.specs.Str.{bytes_eq}
use Rattle.rl_tree.specs.Name.{nil_name}
use Rattle.rl_tree.specs.Atoms.{Style, name_text, string_text}
use Rattle.rl_tree.specs.Printing.{Page}
use Rattle.rl_tree.specs.Printing.{with_text, with_atom}
use Rattle.rl_text.specs.Datum.{Datum, Elements, Int, Id, Str, Pair, Vector, NoElements, Element}

-- an atom, which begins a new line where it would pass the line length, or a mark, which never breaks a line
pub data Piece : Type 0 where
  Atom : List ℕ → Piece
  Mark : List ℕ → Piece

abbrev mutual
  pub pieces_of : Style → Datum → List Piece
  pieces_of style (Int z) = Atom (signed_decimal z) ∷ []
  pieces_of style (Id name) = Atom (name_text style name) ∷ []
  pieces_of style (Str bytes) = Atom (string_text style bytes) ∷ []
  pieces_of style (Pair a d) = Mark (40 ∷ []) ∷ (pieces_of style a ++ rest_pieces style d)
  pieces_of style (Vector es) = Mark (91 ∷ []) ∷ first_pieces style es

  -- what stands behind an element of a list: nothing but `)` where the list ends in NIL
  pub rest_pieces : Style → Datum → List Piece
  rest_pieces style (Int z) = Mark (32 ∷ 46 ∷ 32 ∷ []) ∷ Atom (signed_decimal z) ∷ Mark (41 ∷ []) ∷ []
  rest_pieces style (Id name) = if bytes_eq name nil_name then Mark (41 ∷ []) ∷ [] else Mark (32 ∷ 46 ∷ 32 ∷ []) ∷ Atom (name_text style name) ∷ Mark (41 ∷ []) ∷ []
  rest_pieces style (Str bytes) = Mark (32 ∷ 46 ∷ 32 ∷ []) ∷ Atom (string_text style bytes) ∷ Mark (41 ∷ []) ∷ []
  rest_pieces style (Pair a d) = Mark (32 ∷ []) ∷ (pieces_of style a ++ rest_pieces style d)
  rest_pieces style (Vector es) = Mark (32 ∷ 46 ∷ 32 ∷ []) ∷ Mark (91 ∷ []) ∷ (first_pieces style es ++ Mark (41 ∷ []) ∷ [])

  -- what stands behind `[`
  pub first_pieces : Style → Elements → List Piece
  first_pieces style NoElements = Mark (93 ∷ []) ∷ []
  first_pieces style (Element e es) = pieces_of style e ++ further_pieces style es

  -- and behind an element of a vector
  pub further_pieces : Style → Elements → List Piece
  further_pieces style NoElements = Mark (93 ∷ []) ∷ []
  further_pieces style (Element e es) = Mark (32 ∷ []) ∷ (pieces_of style e ++ further_pieces style es)

abbrev pub with_piece : ℕ → Page → Piece → Page
with_piece line_length page (Atom bytes) = with_atom line_length page bytes
with_piece line_length page (Mark bytes) = with_text page bytes

abbrev pub with_pieces : ℕ → Page → List Piece → Page
with_pieces line_length page pieces = fold (with_piece line_length) page pieces

-- the page with the datum printed on it
abbrev pub with_datum : Style → ℕ → Datum → Page → Page
with_datum style line_length d page = with_pieces line_length page (pieces_of style d)
