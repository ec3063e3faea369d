-- What is printed of a value, on the page of any text that was printed before.
use Rattle.std.proofs.Common.{◌≡◌, ℕ, ◌+◌, List, [], ◌∷◌, ◌++◌, length, Bool, true, false, if◌then◌else◌, Option, Some, refl, sym, ap, ◌∙◌, append_assoc}
use Rattle.std.specs.Prelude.{◌&&◌, nat_lt}
use Rattle.std.proofs.lemmas.List.{append-nil}
use Rattle.rl_tags.specs.Tagged.{Tagged}
use Rattle.rl_syms.specs.Contents.{value_of}
use Rattle.rl_tree.specs.Atoms as atoms
use Rattle.rl_tree.specs.Printing.{Page}
use Rattle.rl_tree.specs.Printing.{Progress, with_text}
use Rattle.rl_text.specs.Datum.{Datum}
use Rattle.rl_text.specs.Laws.{PrintsData}
use Rattle.rl_text.specs.Stored.{IsStored}
use Rattle.rl_text.specs.Printed.{Piece, Atom, Mark, pieces_of, with_piece, with_pieces, with_datum}
use Rattle.rl_read.specs.Laws.{MeansDatum}
use Rattle.rl_world.specs.declared.stop.Stop.{Stop}
use Rattle.rl_world.specs.declared.world.World.{World}
use Rattle.rl_print.specs.Walk.{IsPrinted, IsPrinting, levels_left, progress_in_world, setting_in_world, whole_printed}
use Rattle.rl_print.specs.Walk as walk
use Rattle.rl_forms.specs.BuiltForms.{line_length}
use Rattle.rl_forms.specs.KnownData.{IsKnown, IsRunning, datum_in}
use Rattle.rl_forms.specs.Pages.{page_in, PrintsOnPage, IsFrontOfPage, HaltsPage, CutsPage, KeepsObjects}

-- ---- a page behind a text

abbrev pub onto : List ℕ → Page → Page
onto text page = record { text = text ++ page.text; column = page.column }

-- nothing was printed on the line but so many bytes
abbrev pub blank : ℕ → Page
blank column = record { text = []; column = column }

broken_apart : (broken : Bool) (page : Page) (bytes : List ℕ) → (if broken then with_text (with_text page (10 ∷ [])) bytes else with_text page bytes) ≡ onto page.text (if broken then with_text (with_text (blank page.column) (10 ∷ [])) bytes else with_text (blank page.column) bytes)
broken_apart true page bytes = rw (append_assoc page.text (10 ∷ []) bytes) refl
broken_apart false page bytes = refl

piece_apart : (n : ℕ) (page : Page) (piece : Piece) → with_piece n page piece ≡ onto page.text (with_piece n (blank page.column) piece)
piece_apart n page (Atom bytes) = broken_apart (nat_lt 0 page.column && nat_lt n (page.column + length bytes)) page bytes
piece_apart n page (Mark bytes) = refl

pieces_apart : (n : ℕ) (pieces : List Piece) (page : Page) → with_pieces n page pieces ≡ onto page.text (with_pieces n (blank page.column) pieces)
pieces_apart n [] page = ap (λ text. record { text = text; column = page.column }) (sym (append-nil page.text))
pieces_apart n (piece ∷ pieces) page =
    let first = with_piece n (blank page.column) piece in
    let rest = with_pieces n (blank first.column) pieces in
    ap (λ (q : Page). with_pieces n q pieces) (piece_apart n page piece)
    ∙ (pieces_apart n pieces (onto page.text first)
    ∙ (ap (λ text. record { text = text; column = rest.column }) (append_assoc page.text first.text rest.text)
    ∙ ap (onto page.text) (sym (pieces_apart n pieces first))))

-- a datum on a page is the page and the datum on an empty page at that column
pub datum_apart : (style : atoms.Style) (n : ℕ) (d : Datum) (page : Page) → with_datum style n d page ≡ onto page.text (with_datum style n d (blank page.column))
datum_apart style n d page = pieces_apart n (pieces_of style d) page

-- ---- what PRIN1 and PRIN2 print

stored : MeansDatum → (w : World) (v : Tagged) → IsRunning w → IsKnown w v → (style : atoms.Style) → let g = setting_in_world style w in IsStored g.store g.names g.nil (value_of w.cells.cells v) (datum_in w v)
unfolding datum_in
stored law w v is known style = law w.cells.cells w.syms.head v is.table is.nil known.is

-- what is printed of a value of the world
abbrev pub shown : atoms.Style → World → Tagged → List ℕ → Page
shown style w v text = with_datum style line_length (datum_in w v) (page_in w text)

line_is : (style : atoms.Style) (w : World) (v : Tagged) (page : Page) → IsRunning w → with_datum style w.output.line_length (datum_in w v) page ≡ with_datum style line_length (datum_in w v) page
line_is style w v page is = ap (λ n. with_datum style n (datum_in w v) page) is.line

-- where all is printed
pub all_shown : MeansDatum → PrintsData → (before now : Option (List ℕ)) (style : atoms.Style) (old new : World) (v : Tagged) → IsRunning old → IsKnown old v → IsPrinted before now style old new v
    → PrintsOnPage before now old.output.waiting new.output.waiting (λ text. Some (shown style old v text)) (λ text. Some (page_in new text))
all_shown means law before now style old new v is known h = record {
  bytes = h.prints.bytes;
  follows = h.prints.follows;
  means = λ text.
      let printed = h.prints.means text in
      let alone : (whole_printed style old v text).page ≡ with_datum style old.output.line_length (datum_in old v) (page_in old text) =
      law.whole (setting_in_world style old) (value_of old.cells.cells v) (datum_in old v) (levels_left old) (progress_in_world old text) refl (stored means old v is known style) (ap (λ (p : Progress). p.ending) printed) in
      ap Some (sym (line_is style old v (page_in old text) is) ∙ (sym alone ∙ ap (λ (p : Progress). p.page) printed));
}

-- a front of what the walk prints is one of what is printed of the datum
front_shown : MeansDatum → PrintsData → (style : atoms.Style) (old : World) (v : Tagged) (bytes : List ℕ) → IsRunning old → IsKnown old v → ((text : List ℕ) → (rest : List ℕ) × ((whole_printed style old v text).page.text ≡ (text ++ bytes) ++ rest)) → IsFrontOfPage (λ text. Some (shown style old v text)) bytes
front_shown means law style old v bytes is known more = record {
  more = λ text.
      let first = more text in
      let next = law.front (setting_in_world style old) (value_of old.cells.cells v) (datum_in old v) (levels_left old) (progress_in_world old text) refl (stored means old v is known style) in (
        first.0 ++ next.0,
        ap (λ (p : Page). p.text) (sym (line_is style old v (page_in old text) is)) ∙ (next.1 ∙ (ap (λ t. t ++ next.0) first.1 ∙ append_assoc (text ++ bytes) first.0 next.0)),
      );
}

-- where a turn or a level was wanting
pub front_halts : MeansDatum → PrintsData → (before now : Option (List ℕ)) (style : atoms.Style) (old new : World) (v : Tagged) (s : Stop) → IsRunning old → IsKnown old v → walk.HaltsPrinting before now old new (whole_printed style old v) s
    → HaltsPage before now old.output.waiting new.output.waiting (λ text. Some (shown style old v text))
front_halts means law before now style old new v s is known h = record {
  bytes = h.prints.bytes;
  follows = h.prints.follows;
  front = front_shown means law style old v h.prints.bytes is known (λ text. ([], ap (λ (p : Progress). p.page.text) (h.prints.means text) ∙ sym (append-nil (text ++ h.prints.bytes))));
}

-- where the output failed
pub front_cut : MeansDatum → PrintsData → (before now : Option (List ℕ)) (style : atoms.Style) (old : World) (v : Tagged) → IsRunning old → IsKnown old v → walk.CutsPrinting before now old.output.waiting (whole_printed style old v)
    → CutsPage before now old.output.waiting (λ text. Some (shown style old v text))
front_cut means law before now style old v is known h = record {
  bytes = h.bytes;
  cut = h.cut;
  front = front_shown means law style old v h.bytes is known h.more;
}

pub printing_keeps : (base : ℕ) (old new : World) → IsPrinting base old new → KeepsObjects old new
printing_keeps base old new h = record {
  cells = ap (λ (w : World). w.cells) h.world;
  syms = ap (λ (w : World). w.syms) h.world;
  line = ap (λ (w : World). w.output.line_length) h.world;
}
