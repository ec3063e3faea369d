-- What reading asks for: turns and levels are taken, and atoms, lists, vectors and quotes are made, in the order in which the text spells them. Who makes them is left open here.
use Rattle.rl_text.specs.Word.{Atom}

-- it is made, or something is wanting for it
pub data Made (S A W : Type 0) : Type 0 where
  Has : A → S → Made S A W
  Wants : W → S → Made S A W

-- states S, values V, lists that are not whole yet L, and what may be wanting W
pub record Maker (S V L W : Type 0) : Type 0 where
  -- a turn, for a byte
  pub turn : S → Made S (Unit {0}) W
  -- a level is entered, and left
  pub enter : S → Made S (Unit {0}) W
  pub leave : S → S
  pub atom : Atom → S → Made S V W
  pub nil : V
  -- a list without elements, with one more, and with what stands behind its dot
  pub empty : L
  pub extended : L → V → S → Made S L W
  pub ended : L → V → S → Made S L W
  -- the list, and the vector of its elements
  pub list : L → V
  pub vector : L → S → Made S V W
  -- `(QUOTE e)`
  pub quoted : V → S → Made S V W
