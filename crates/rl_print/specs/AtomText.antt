-- What is still to be given of an atom's text.
use Rattle.std.specs.Prelude.{ℕ, Bool, false, ◌==◌, nat_le, if◌then◌else◌, List, [], ◌∷◌, ◌++◌, length, drop, Option, None, Some}
use Rattle.rl_tags.specs.Tagged.{Tagged, PairAt, VectorAt}
use Rattle.rl_cells.specs.Cell.{Cell, is_live}
use Rattle.rl_syms.specs.Numbers.{numbered_name}
use Rattle.rl_syms.specs.Contents.{value_of}
use Rattle.rl_tree.specs.Value.{Value, Id, Str}
use Rattle.rl_tree.specs.Atoms as atoms
use Rattle.rl_tree.specs.Atoms.{atom_text, doubled, escaped}
use Rattle.rl_print.specs.declared.atom.AtomText.{AtomText}
use Rattle.rl_print.specs.declared.atom.Style.{Style}
use Rattle.rl_print.specs.declared.atom.Style.TheVariants.{Prin1, Prin2}

-- a small integer, or live and neither a pair nor a vector
abbrev pub is_atom : List Cell → Tagged → Bool
is_atom cells (PairAt k) = false
is_atom cells (VectorAt k) = false
is_atom cells v = is_live cells v

abbrev pub style_of : Style → atoms.Style
style_of Prin1 = atoms.Prin1
style_of Prin2 = atoms.Prin2

-- the bytes of an atom, as PRIN2 writes them
abbrev pub plain_text : List Cell → Tagged → List ℕ
plain_text cells v = atom_text atoms.Prin2 (numbered_name cells) (value_of cells v)

-- the quote that opens a string, or the second of the two bytes that a byte is written as
abbrev pub pending_text : Option ℕ → List ℕ
pending_text None = []
pending_text (Some b) = b ∷ []

-- the text of a string from its byte n on, with the quote that closes it; none where that was given too
abbrev pub quoted_from : ℕ → List ℕ → List ℕ
quoted_from n bytes = if nat_le n (length bytes) then doubled (drop n bytes) ++ 34 ∷ [] else []

-- the text of an atom from the byte n on of its name, of its string, or else of its text
abbrev pub text_from : ℕ → Style → (ℕ → List ℕ) → Value → List ℕ
text_from n Prin1 names (Id i) = escaped (n == 0) (drop n (names i))
text_from n Prin1 names (Str bytes) = quoted_from n bytes
text_from n style names v = drop n (atom_text (style_of style) names v)

-- what `next` is still to give
abbrev pub text_left : List Cell → AtomText → List ℕ
text_left cells t = pending_text t.pending ++ text_from t.at t.style (numbered_name cells) (value_of cells t.atom)

-- a new line, where one is begun
abbrev pub line_break : Bool → List ℕ
line_break broken = if broken then 10 ∷ [] else []
