-- What is printed at once, in a world.
use Rattle.std.proofs.Common.{◌≡◌, ℕ, suc, ◌+◌, ◌<◌, Bool, true, false, if◌then◌else◌, List, [], ◌∷◌, ◌++◌, length, take, drop, get_or, Bor, Option, Some, None, refl, sym, ap, ◌∙◌, append_assoc, arith}
use Rattle.std.specs.Prelude.{◌&&◌, nat_lt, fold}
use Rattle.std.proofs.lemmas.List.{append-nil, take-append-drop}
use Rattle.std.proofs.Math.Seq.{take-append-add, drop-append-add, take-suc}
use Rattle.std.proofs.lemmas.List.Sums.{fold-append}
use Rattle.rl_tags.specs.Tagged.{Tagged}
use Rattle.rl_cells.specs.Cell.{Cell}
use Rattle.rl_syms.specs.Contents.{value_of}
use Rattle.rl_syms.specs.Numbers.{numbered_name}
use Rattle.rl_tree.specs.Atoms as atoms
use Rattle.rl_tree.specs.Atoms.{atom_text}
use Rattle.rl_tree.specs.Printing.{Page}
use Rattle.rl_tree.specs.Printing.{Progress, Whole, column_with, marked, with_atom, with_atom_of, with_text}
use Rattle.rl_world.specs.Waiting.{GoesOut, FrontGoesOut}
use Rattle.rl_world.specs.declared.world.World.{World}
use Rattle.rl_print.specs.AtomText.{line_break}
use Rattle.rl_print.specs.Walk.{Shows, ShowsFront, progress_in_world, setting_in_world, shown}
use Rattle.rl_print.specs.declared.walk.Piece.TheVariants as piece
use Rattle.rl_print.proofs.After.{after_trans, atom_after, marked_after}
use Rattle.rl_world.specs.Counts.{count_turns_left}

-- only what waits and the column have changed
abbrev pub Writes : World → World → Type 0
Writes old new = new ≡ record old { output = record old.output { waiting = new.output.waiting; column = new.output.column } }

progress_written : (old new : World) (text : List ℕ) (column : ℕ) → Writes old new → new.output.column ≡ column → record { page = record { text = text; column = column }; turns = count_turns_left old.counts; ending = Whole } ≡ progress_in_world new text
progress_written old new text column e c =
    let counts : new.counts ≡ old.counts = ap (λ (w : World). w.counts) e in
    rw (counts, c) refl

-- ---- a mark

pub mark_shows : (before now : Option (List ℕ)) (style : atoms.Style) (old new : World) (bytes : Bor (List ℕ)) → Writes old new → GoesOut before old.output.waiting now new.output.waiting bytes.now → new.output.column ≡ fold column_with old.output.column bytes.now → Shows before now style old new (piece.Mark bytes)
mark_shows before now style old new bytes e follows column = record {
  bytes = bytes.now;
  follows = follows;
  means = λ text. progress_written old new (text ++ bytes.now) (fold column_with old.output.column bytes.now) e column;
}

pub mark_front : (before now : Option (List ℕ)) (style : atoms.Style) (old : World) (bytes : Bor (List ℕ)) → FrontGoesOut before now (old.output.waiting ++ bytes.now) → ShowsFront before now style old (piece.Mark bytes)
mark_front before now style old bytes cut = record {
  bytes = bytes.now;
  cut = cut;
  more = λ text. ([], sym (append-nil (text ++ bytes.now)));
}

-- ---- an atom

abbrev with_broken : Bool → Page → List ℕ → Page
with_broken broken page bytes = if broken then with_text (with_text page (10 ∷ [])) bytes else with_text page bytes

abbrev onto : List ℕ → Page → Page
onto text page = record { text = text ++ page.text; column = page.column }

broken_apart : (broken : Bool) (page : Page) (bytes : List ℕ) → with_broken broken page bytes ≡ onto page.text (with_broken broken (record { text = []; column = page.column }) bytes)
broken_apart true page bytes = rw (append_assoc page.text (10 ∷ []) bytes) refl
broken_apart false page bytes = refl

-- an atom on a page is the page and the atom on an empty page at that column
atom_apart : (n : ℕ) (page : Page) (bytes : List ℕ) → with_atom n page bytes ≡ onto page.text (with_atom n (record { text = []; column = page.column }) bytes)
atom_apart n page bytes = broken_apart (nat_lt 0 page.column && nat_lt n (page.column + length bytes)) page bytes

-- the page of an atom alone
abbrev pub atom_page : World → atoms.Style → Tagged → Page
atom_page w style v = with_atom w.output.line_length (record { text = []; column = w.output.column }) (atom_text style (numbered_name w.cells.cells) (value_of w.cells.cells v))

atom_shown : (style : atoms.Style) (old new : World) (v : Tagged) (text : List ℕ) → Writes old new → new.output.column ≡ (atom_page old style v).column → with_atom_of (setting_in_world style old) (value_of old.cells.cells v) (progress_in_world old text) ≡ progress_in_world new (text ++ (atom_page old style v).text)
atom_shown style old new v text e column =
    ap (λ (page : Page). record (progress_in_world old text) { page = page }) (atom_apart old.output.line_length (record { text = text; column = old.output.column }) (atom_text style (numbered_name old.cells.cells) (value_of old.cells.cells v)))
    ∙ progress_written old new (text ++ (atom_page old style v).text) (atom_page old style v).column e column

pub atom_shows : (before now : Option (List ℕ)) (style : atoms.Style) (old new : World) (v : Tagged) → Writes old new → GoesOut before old.output.waiting now new.output.waiting (atom_page old style v).text → new.output.column ≡ (atom_page old style v).column → Shows before now style old new (piece.Atom v)
atom_shows before now style old new v e follows column = record {
  bytes = (atom_page old style v).text;
  follows = follows;
  means = λ text. atom_shown style old new v text e column;
}

atom_text_is : (style : atoms.Style) (old : World) (v : Tagged) (text : List ℕ) → (with_atom_of (setting_in_world style old) (value_of old.cells.cells v) (progress_in_world old text)).page.text ≡ text ++ (atom_page old style v).text
atom_text_is style old v text = ap (λ (page : Page). page.text) (atom_apart old.output.line_length (record { text = text; column = old.output.column }) (atom_text style (numbered_name old.cells.cells) (value_of old.cells.cells v)))

pub atom_front : (before now : Option (List ℕ)) (style : atoms.Style) (old : World) (v : Tagged) → FrontGoesOut before now (old.output.waiting ++ (atom_page old style v).text) → ShowsFront before now style old (piece.Atom v)
atom_front before now style old v cut = record {
  bytes = (atom_page old style v).text;
  cut = cut;
  more = λ text. ([], atom_text_is style old v text ∙ sym (append-nil (text ++ (atom_page old style v).text)));
}

-- ---- ` . `, an atom, and `)`

-- what waits and what is still to come, cut where the sink's part ends
cut_at : (n : ℕ) (x first more : List ℕ) → x ++ (first ++ more) ≡ take n (x ++ first) ++ (drop n (x ++ first) ++ more)
cut_at n x first more =
    sym (append_assoc x first more) ∙ (ap (λ v. v ++ more) (sym (take-append-drop n (x ++ first))) ∙ append_assoc (take n (x ++ first)) (drop n (x ++ first)) more)

taken_more : (n m : ℕ) (a b c x y first more : List ℕ) → b ≡ a ++ take n (x ++ first) → y ≡ drop n (x ++ first) → c ≡ b ++ take m (y ++ more) → c ≡ a ++ take (length (take n (x ++ first)) + m) (x ++ (first ++ more))
taken_more n m a b c x y first more eb ey ec =
    let front = take n (x ++ first) in
    let rest = drop n (x ++ first) in
    ec ∙ (ap (λ t. t ++ take m (y ++ more)) eb ∙ (ap (λ w. (a ++ front) ++ take m (w ++ more)) ey ∙ (append_assoc a front (take m (rest ++ more))
    ∙ (ap (λ t. a ++ t) (sym (take-append-add front (rest ++ more) m)) ∙ ap (λ t. a ++ take (length front + m) t) (sym (cut_at n x first more))))))

-- what follows what waited, and then more
pub follows_more : (a b c : Option (List ℕ)) (x y z first more : List ℕ) → GoesOut a x b y first → GoesOut b y c z more → GoesOut a x c z (first ++ more)
follows_more None b c x y z first more p q = tt
follows_more (Some a) None c x y z first more p q = absurd p
follows_more (Some a) (Some b) None x y z first more p q = absurd q
follows_more (Some a) (Some b) (Some c) x y z first more p q =
    let front = take p.0 (x ++ first) in
    let rest = drop p.0 (x ++ first) in (
      length front + q.0,
      taken_more p.0 q.0 a b c x y first more p.1 p.2 q.1,
      q.2 ∙ (ap (λ w. drop q.0 (w ++ more)) p.2 ∙ (sym (drop-append-add front (rest ++ more) q.0) ∙ ap (drop (length front + q.0)) (sym (cut_at p.0 x first more)))),
    )

-- and then a front of more
pub cut_more : (a b c : Option (List ℕ)) (x y first more : List ℕ) → GoesOut a x b y first → FrontGoesOut b c (y ++ more) → FrontGoesOut a c (x ++ (first ++ more))
cut_more None b c x y first more p q = tt
cut_more (Some a) None c x y first more p q = absurd p
cut_more (Some a) (Some b) None x y first more p q = absurd q
cut_more (Some a) (Some b) (Some c) x y first more p q = (length (take p.0 (x ++ first)) + q.0, taken_more p.0 q.0 a b c x y first more p.1 p.2 q.1)

-- a front is one of more
pub cut_longer : (a c : Option (List ℕ)) (x first more : List ℕ) → FrontGoesOut a c (x ++ first) → FrontGoesOut a c (x ++ (first ++ more))
cut_longer None c x first more h = tt
cut_longer (Some a) None x first more h = absurd h
cut_longer (Some a) (Some c) x first more h =
    let front = take h.0 (x ++ first) in
    (length front + 0, h.1 ∙ ap (λ t. a ++ t) (sym (append-nil front) ∙ (sym (take-append-add front (drop h.0 (x ++ first) ++ more) 0) ∙ ap (take (length front + 0)) (sym (cut_at h.0 x first more)))))

take_next : (bytes : List ℕ) (i : ℕ) → i < length bytes → take (i + 1) bytes ≡ take i bytes ++ get_or bytes i 0 ∷ []
take_next bytes i l = let n : i + 1 ≡ suc i = omega arith in ap (λ k. take k bytes) n ∙ take-suc bytes i 0 l

-- one byte more follows
pub byte_follows : (a b c : Option (List ℕ)) (x y z bytes : List ℕ) (i : ℕ) → i < length bytes → GoesOut a x b y (take i bytes) → GoesOut b y c z (get_or bytes i 0 ∷ []) → GoesOut a x c z (take (i + 1) bytes)
byte_follows a b c x y z bytes i l p q = rw (take_next bytes i l) (follows_more a b c x y z (take i bytes) (get_or bytes i 0 ∷ []) p q)

pub byte_column : (column : ℕ) (bytes : List ℕ) (i : ℕ) → i < length bytes → column_with (fold column_with column (take i bytes)) (get_or bytes i 0) ≡ fold column_with column (take (i + 1) bytes)
byte_column column bytes i l = sym (ap (fold column_with column) (take_next bytes i l) ∙ fold-append column_with column (take i bytes) (get_or bytes i 0 ∷ []))

-- or the sink fails at it
pub byte_cut : (a b c : Option (List ℕ)) (x y bytes : List ℕ) (i : ℕ) → i < length bytes → GoesOut a x b y (take i bytes) → FrontGoesOut b c (y ++ get_or bytes i 0 ∷ []) → FrontGoesOut a c (x ++ bytes)
byte_cut a b c x y bytes i l p q =
    let first = take i bytes ++ get_or bytes i 0 ∷ [] in
    let whole : bytes ≡ first ++ drop (i + 1) bytes = sym (take-append-drop (i + 1) bytes) ∙ ap (λ t. t ++ drop (i + 1) bytes) (take_next bytes i l) in
    rw whole (cut_longer a c x first (drop (i + 1) bytes) (cut_more a b c x y (take i bytes) (get_or bytes i 0 ∷ []) p q))

-- what is written stays written
pub writes_more : (a b c : World) (column : ℕ) → Writes a b → c ≡ record b { output = record b.output { waiting = c.output.waiting; column = column } } → Writes a c
writes_more a b c column p q =
    let at : c.output.column ≡ column = ap (λ (w : World). w.output.column) q in
    q ∙ (ap (λ (w : World). record w { output = record w.output { waiting = c.output.waiting; column = column } }) p
    ∙ ap (λ (n : ℕ). record a { output = record a.output { waiting = c.output.waiting; column = n } }) (sym at))

pub writes_trans : (a b c : World) → Writes a b → Writes b c → Writes a c
writes_trans a b c p q = writes_more a b c c.output.column p q

-- ---- the three together

-- what is shown of ` . `, an atom and `)`
pub dotted_shows : (before one two now : Option (List ℕ)) (style : atoms.Style) (old mid late new : World) (v : Tagged) (dot close : Bor (List ℕ)) → dot.now ≡ 32 ∷ 46 ∷ 32 ∷ [] → close.now ≡ 41 ∷ []
    → Writes old mid → Shows before one style old mid (piece.Mark dot) → Writes mid late → Shows one two style mid late (piece.Atom v) → Shows two now style late new (piece.Mark close) → Shows before now style old new (piece.Dotted v)
dotted_shows before one two now style old mid late new v dot close ed ec wm m wl a z =
    let cells : mid.cells ≡ old.cells = ap (λ (w : World). w.cells) wm in
    record {
      bytes = m.bytes ++ (a.bytes ++ z.bytes);
      follows = follows_more before one now old.output.waiting mid.output.waiting new.output.waiting m.bytes (a.bytes ++ z.bytes) m.follows (follows_more one two now mid.output.waiting late.output.waiting new.output.waiting a.bytes z.bytes a.follows z.follows);
      means = λ text.
          let first : marked (32 ∷ 46 ∷ 32 ∷ []) (progress_in_world old text) ≡ progress_in_world mid (text ++ m.bytes) = ap (λ b. marked b (progress_in_world old text)) (sym ed) ∙ m.means text in
          let atom : with_atom_of (setting_in_world style old) (value_of old.cells.cells v) (progress_in_world mid (text ++ m.bytes)) ≡ progress_in_world late ((text ++ m.bytes) ++ a.bytes) = ap (λ (w : World). with_atom_of (setting_in_world style w) (value_of w.cells.cells v) (progress_in_world mid (text ++ m.bytes))) (sym wm) ∙ a.means (text ++ m.bytes) in
          let last : marked (41 ∷ []) (progress_in_world late ((text ++ m.bytes) ++ a.bytes)) ≡ progress_in_world new (((text ++ m.bytes) ++ a.bytes) ++ z.bytes) = ap (λ b. marked b (progress_in_world late ((text ++ m.bytes) ++ a.bytes))) (sym ec) ∙ z.means ((text ++ m.bytes) ++ a.bytes) in
          ap (λ p. marked (41 ∷ []) (with_atom_of (setting_in_world style old) (value_of old.cells.cells v) p)) first
          ∙ (ap (marked (41 ∷ [])) atom ∙ (last ∙ ap (progress_in_world new) (append_assoc (text ++ m.bytes) a.bytes z.bytes ∙ append_assoc text m.bytes (a.bytes ++ z.bytes))));
    }

-- what is behind the dot only adds to the text
dotted_after_mark : (style : atoms.Style) (old : World) (v : Tagged) (text : List ℕ) → (rest : List ℕ) × ((shown (setting_in_world style old) old.cells.cells (piece.Dotted v) (progress_in_world old text)).page.text ≡ (text ++ 32 ∷ 46 ∷ 32 ∷ []) ++ rest)
dotted_after_mark style old v text =
    let p = marked (32 ∷ 46 ∷ 32 ∷ []) (progress_in_world old text) in
    let q = with_atom_of (setting_in_world style old) (value_of old.cells.cells v) p in
    let a = after_trans p q (marked (41 ∷ []) q) (atom_after (setting_in_world style old) (value_of old.cells.cells v) p) (marked_after (41 ∷ []) q) in
    (a.more, a.text)

pub dot_front : (before now : Option (List ℕ)) (style : atoms.Style) (old : World) (v : Tagged) (dot : List ℕ) → dot ≡ 32 ∷ 46 ∷ 32 ∷ [] → FrontGoesOut before now (old.output.waiting ++ dot) → ShowsFront before now style old (piece.Dotted v)
dot_front before now style old v dot e cut = record {
  bytes = dot;
  cut = cut;
  more = λ text. rw e (dotted_after_mark style old v text);
}

-- the atom behind the dot, in the world in which the dot is printed
dotted_text : (before one : Option (List ℕ)) (style : atoms.Style) (old mid : World) (v : Tagged) (dot : Bor (List ℕ)) (text : List ℕ) → dot.now ≡ 32 ∷ 46 ∷ 32 ∷ [] → Writes old mid → (m : Shows before one style old mid (piece.Mark dot))
    → (shown (setting_in_world style old) old.cells.cells (piece.Dotted v) (progress_in_world old text)).page.text ≡ (shown (setting_in_world style mid) mid.cells.cells (piece.Atom v) (progress_in_world mid (text ++ m.bytes))).page.text ++ 41 ∷ []
dotted_text before one style old mid v dot text ed wm m =
    let first : marked (32 ∷ 46 ∷ 32 ∷ []) (progress_in_world old text) ≡ progress_in_world mid (text ++ m.bytes) = ap (λ b. marked b (progress_in_world old text)) (sym ed) ∙ m.means text in
    ap (λ (p : Progress). (with_atom_of (setting_in_world style old) (value_of old.cells.cells v) p).page.text ++ 41 ∷ []) first
    ∙ ap (λ (w : World). (with_atom_of (setting_in_world style w) (value_of w.cells.cells v) (progress_in_world mid (text ++ m.bytes))).page.text ++ 41 ∷ []) (sym wm)

pub atom_behind_front : (before one now : Option (List ℕ)) (style : atoms.Style) (old mid : World) (v : Tagged) (dot : Bor (List ℕ)) → dot.now ≡ 32 ∷ 46 ∷ 32 ∷ [] → Writes old mid → Shows before one style old mid (piece.Mark dot) → ShowsFront one now style mid (piece.Atom v) → ShowsFront before now style old (piece.Dotted v)
atom_behind_front before one now style old mid v dot ed wm m a = record {
  bytes = m.bytes ++ a.bytes;
  cut = cut_more before one now old.output.waiting mid.output.waiting m.bytes a.bytes m.follows a.cut;
  more = λ text.
      let r = a.more (text ++ m.bytes) in
      (r.0 ++ 41 ∷ [], dotted_text before one style old mid v dot text ed wm m ∙ (ap (λ t. t ++ 41 ∷ []) r.1 ∙ (append_assoc ((text ++ m.bytes) ++ a.bytes) r.0 (41 ∷ []) ∙ ap (λ t. t ++ (r.0 ++ 41 ∷ [])) (append_assoc text m.bytes a.bytes))));
}

pub close_front : (before one two now : Option (List ℕ)) (style : atoms.Style) (old mid late : World) (v : Tagged) (dot : Bor (List ℕ)) (close : List ℕ) → dot.now ≡ 32 ∷ 46 ∷ 32 ∷ [] → close ≡ 41 ∷ [] → Writes old mid → Shows before one style old mid (piece.Mark dot)
    → Shows one two style mid late (piece.Atom v) → FrontGoesOut two now (late.output.waiting ++ close) → ShowsFront before now style old (piece.Dotted v)
close_front before one two now style old mid late v dot close ed ec wm m a cut = record {
  bytes = m.bytes ++ (a.bytes ++ close);
  cut = cut_more before one now old.output.waiting mid.output.waiting m.bytes (a.bytes ++ close) m.follows (cut_more one two now mid.output.waiting late.output.waiting a.bytes close a.follows cut);
  more = λ text.
      let atom : (shown (setting_in_world style mid) mid.cells.cells (piece.Atom v) (progress_in_world mid (text ++ m.bytes))).page.text ≡ (text ++ m.bytes) ++ a.bytes = ap (λ (p : Progress). p.page.text) (a.means (text ++ m.bytes)) in
      let whole : ((text ++ m.bytes) ++ a.bytes) ++ close ≡ text ++ (m.bytes ++ (a.bytes ++ close)) = append_assoc (text ++ m.bytes) a.bytes close ∙ append_assoc text m.bytes (a.bytes ++ close) in
      ([], dotted_text before one style old mid v dot text ed wm m ∙ (ap (λ t. t ++ 41 ∷ []) atom ∙ (ap (λ t. ((text ++ m.bytes) ++ a.bytes) ++ t) (sym ec) ∙ (whole ∙ sym (append-nil (text ++ (m.bytes ++ (a.bytes ++ close))))))));
}

-- ---- the bytes of a text, one after another

pub record TextGoes (before now : Option (List ℕ)) (waited waiting : List ℕ) (begun column : ℕ) (whole left : List ℕ) : Type 0 where
  pub done : List ℕ
  pub is : whole ≡ done ++ left
  pub follows : GoesOut before waited now waiting done
  pub column_is : column ≡ fold column_with begun done

pub text_begins : (told : Option (List ℕ)) (waited : List ℕ) (column : ℕ) (whole : List ℕ) → TextGoes told told waited waited column column whole whole
text_begins told waited column whole = record { done = []; is = refl; follows = no_bytes told; column_is = refl }
  where
    no_bytes : (t : Option (List ℕ)) → GoesOut t waited t waited []
    no_bytes None = tt
    no_bytes (Some now) = (0, sym (append-nil now), sym (append-nil waited))

pub text_goes_on : (a b c : Option (List ℕ)) (x y z : List ℕ) (begun column after : ℕ) (whole left more : List ℕ) (byte : ℕ) → TextGoes a b x y begun column whole left → left ≡ byte ∷ more → GoesOut b y c z (byte ∷ []) → after ≡ column_with column byte → TextGoes a c x z begun after whole more
text_goes_on a b c x y z begun column after whole left more byte g e f k = record {
  done = g.done ++ byte ∷ [];
  is = g.is ∙ (ap (λ t. g.done ++ t) e ∙ sym (append_assoc g.done (byte ∷ []) more));
  follows = follows_more a b c x y z g.done (byte ∷ []) g.follows f;
  column_is = k ∙ (ap (λ n. column_with n byte) g.column_is ∙ sym (fold-append column_with begun g.done (byte ∷ [])));
}

pub text_cut : (a b c : Option (List ℕ)) (x y : List ℕ) (begun column : ℕ) (whole left more : List ℕ) (byte : ℕ) → TextGoes a b x y begun column whole left → left ≡ byte ∷ more → FrontGoesOut b c (y ++ byte ∷ []) → FrontGoesOut a c (x ++ whole)
text_cut a b c x y begun column whole left more byte g e q =
    let all : whole ≡ (g.done ++ byte ∷ []) ++ more = g.is ∙ (ap (λ t. g.done ++ t) e ∙ sym (append_assoc g.done (byte ∷ []) more)) in
    rw all (cut_longer a c x (g.done ++ byte ∷ []) more (cut_more a b c x y g.done (byte ∷ []) g.follows q))

-- all of it
pub text_follows : (a b : Option (List ℕ)) (x y : List ℕ) (begun column : ℕ) (whole left : List ℕ) → TextGoes a b x y begun column whole left → left ≡ [] → GoesOut a x b y whole × (column ≡ fold column_with begun whole)
text_follows a b x y begun column whole left g e =
    let all : whole ≡ g.done = g.is ∙ (ap (λ t. g.done ++ t) e ∙ append-nil g.done) in
    rw all (g.follows, g.column_is)

-- ---- an atom behind a new line

broken_page : (broken : Bool) (column : ℕ) (bytes : List ℕ) → with_broken broken (record { text = []; column = column }) bytes ≡ record { text = line_break broken ++ bytes; column = fold column_with (fold column_with column (line_break broken)) bytes }
broken_page true column bytes = refl
broken_page false column bytes = refl

-- on the page of an atom are the break before it and its text
atom_written : (style : atoms.Style) (old : World) (v : Tagged) (broken : Bool) (bytes : List ℕ) → bytes ≡ atom_text style (numbered_name old.cells.cells) (value_of old.cells.cells v) → broken ≡ (nat_lt 0 old.output.column && nat_lt old.output.line_length (old.output.column + length bytes))
    → atom_page old style v ≡ record { text = line_break broken ++ bytes; column = fold column_with (fold column_with old.output.column (line_break broken)) bytes }
atom_written style old v broken bytes is e =
    ap (λ bs. with_atom old.output.line_length (record { text = []; column = old.output.column }) bs) (sym is)
    ∙ (ap (λ b. with_broken b (record { text = []; column = old.output.column }) bytes) (sym e) ∙ broken_page broken old.output.column bytes)

same_left : (left : List Cell → List ℕ) (old mid : World) → Writes old mid → left mid.cells.cells ≡ left old.cells.cells
same_left left old mid e = ap (λ (w : World). left w.cells.cells) e

abbrev pub IsTextOf : atoms.Style → Tagged → (List Cell → List ℕ) → Type 0
IsTextOf style v left = (cells : List Cell) → left cells ≡ atom_text style (numbered_name cells) (value_of cells v)

abbrev pub IsBroken : World → Bool → List ℕ → Type 0
IsBroken w broken bytes = broken ≡ (nat_lt 0 w.output.column && nat_lt w.output.line_length (w.output.column + length bytes))

pub atom_follows : (a b c : Option (List ℕ)) (style : atoms.Style) (old mid new : World) (v : Tagged) (broken : Bool) (left : List Cell → List ℕ) → IsTextOf style v left → IsBroken old broken (left old.cells.cells) → Writes old mid
    → GoesOut a old.output.waiting b mid.output.waiting (line_break broken) → GoesOut b mid.output.waiting c new.output.waiting (left mid.cells.cells) → GoesOut a old.output.waiting c new.output.waiting (atom_page old style v).text
atom_follows a b c style old mid new v broken left is e w f g =
    let more : GoesOut b mid.output.waiting c new.output.waiting (left old.cells.cells) = rw (sym (same_left left old mid w)) g in
    rw (ap (λ (p : Page). p.text) (atom_written style old v broken (left old.cells.cells) (is old.cells.cells) e)) (follows_more a b c old.output.waiting mid.output.waiting new.output.waiting (line_break broken) (left old.cells.cells) f more)

pub atom_column : (style : atoms.Style) (old mid new : World) (v : Tagged) (broken : Bool) (left : List Cell → List ℕ) → IsTextOf style v left → IsBroken old broken (left old.cells.cells) → Writes old mid
    → mid.output.column ≡ fold column_with old.output.column (line_break broken) → new.output.column ≡ fold column_with mid.output.column (left mid.cells.cells) → new.output.column ≡ (atom_page old style v).column
atom_column style old mid new v broken left is e w f g =
    let more : new.output.column ≡ fold column_with mid.output.column (left old.cells.cells) = g ∙ ap (fold column_with mid.output.column) (same_left left old mid w) in
    more ∙ (ap (λ n. fold column_with n (left old.cells.cells)) f ∙ sym (ap (λ (p : Page). p.column) (atom_written style old v broken (left old.cells.cells) (is old.cells.cells) e)))

pub atom_cut : (a b c : Option (List ℕ)) (style : atoms.Style) (old mid : World) (v : Tagged) (broken : Bool) (left : List Cell → List ℕ) → IsTextOf style v left → IsBroken old broken (left old.cells.cells) → Writes old mid
    → GoesOut a old.output.waiting b mid.output.waiting (line_break broken) → FrontGoesOut b c (mid.output.waiting ++ left mid.cells.cells) → FrontGoesOut a c (old.output.waiting ++ (atom_page old style v).text)
atom_cut a b c style old mid v broken left is e w f g =
    let more : FrontGoesOut b c (mid.output.waiting ++ left old.cells.cells) = rw (sym (same_left left old mid w)) g in
    rw (ap (λ (p : Page). p.text) (atom_written style old v broken (left old.cells.cells) (is old.cells.cells) e)) (cut_more a b c old.output.waiting mid.output.waiting (line_break broken) (left old.cells.cells) f more)

pub break_cut : (a c : Option (List ℕ)) (style : atoms.Style) (old : World) (v : Tagged) (broken : Bool) (left : List Cell → List ℕ) → IsTextOf style v left → IsBroken old broken (left old.cells.cells)
    → FrontGoesOut a c (old.output.waiting ++ line_break broken) → FrontGoesOut a c (old.output.waiting ++ (atom_page old style v).text)
break_cut a c style old v broken left is e f =
    rw (ap (λ (p : Page). p.text) (atom_written style old v broken (left old.cells.cells) (is old.cells.cells) e)) (cut_longer a c old.output.waiting (line_break broken) (left old.cells.cells) f)
