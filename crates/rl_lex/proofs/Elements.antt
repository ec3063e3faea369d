-- Elements of a quoted spelling: where one begins and ends, and what has begun.
use Rattle.std.proofs.Common.{◌≡◌, ◌≢◌, ℕ, zero, suc, ◌+◌, ◌-◌, ◌<◌, ◌≤◌, Bool, true, false, ◌==◌, List, [], ◌∷◌, length, drop, get_or, Option, Some, None, IfSome, IfNone, refl, ap, sym, subst, ◌∙◌, inl, inr, arith}
use Rattle.std.specs.Prelude.{if◌then◌else◌}
use Rattle.std.proofs.lemmas.Bool.{cond-true, cond-false, cases_Bool, eqb-true}
use Rattle.rl_tree.specs.Bytes.{is_blank, is_digit}
use Rattle.rl_text.specs.Datum.{Datum, quoted}
use Rattle.rl_text.specs.Byte.{Class, class_of}
use Rattle.rl_text.specs.Byte as byte
use Rattle.rl_text.specs.Word.{Atom, Identifier, Integer, signed, datum_of_atom}
use Rattle.rl_text.specs.Reader.{ReaderFrame, Listing, Vectoring, Quoting, Mode, Gap, Comment, AfterSign, InNumber, reader_step, Ended, Whole, Inside, Lacks, ReaderStep, Done, Refuses, ReaderOutcome, Read, Refused, admits, is_inner, left, value_ended, goes_after, group_begins, open_list, close_list, close_vector, dot, at_mark, at_class, at_end}
use Rattle.rl_text.specs.Reader as reader
use Rattle.rl_text.specs.Reading.{Items, plain}
use Rattle.rl_grammar.specs.Lexer.{behind_gap}
use Rattle.rl_lex.specs.Scans.{IsDigitsScan, data_read, read_at, read_behind, read_behind_atom, WordEnds}
use Rattle.rl_lex.specs.Parts.{ArePartsOf, IsWordScan, IsBehind, IsPartFurther, IsMoved, IsMovedByMark, IsWholeQuote, is_opening, is_word_class, opening_mark, parts_admit, parts_behind}
use Rattle.rl_lex.proofs.ReadBytes.{Frames, PlainStep, stepped, read_byte, read_on, read_refused, read_before, read_last}
use Rattle.rl_lex.specs.declared.spelling.Moved.{Moved}
use Rattle.rl_lex.specs.declared.spelling.Moved.TheVariants.{Goes, Ends, Bad}
use Rattle.rl_lex.specs.declared.atom.Scan.{Scan}
use Rattle.rl_lex.specs.declared.atom.Scan.TheVariants as scan
use Rattle.rl_lex.specs.declared.nest.Part.{Part}
use Rattle.rl_lex.specs.declared.nest.Part.TheVariants.{Quote, Vector, Begun, Going, Dotted, Shut}

abbrev pub PlainEnded : Type 0
PlainEnded = Ended (Unit {0}) Datum Items ⊥

-- ---- an element ends

-- all has ended, and was quoted; or these parts have begun
abbrev pub IsEndedAs : Option (List Part) → PlainEnded → Type 0
IsEndedAs None (Whole d s) = (e : Datum) × (d ≡ quoted e)
IsEndedAs (Some ps) (Inside fs s) = ArePartsOf ps fs
IsEndedAs _ _ = ⊥

abbrev EndsPart : Part → List Part → ReaderFrame Items → Frames → Datum → Unit {0} → Type 0
EndsPart p ps f fs v u = IsEndedAs (parts_behind (p ∷ ps)) (value_ended plain v (f ∷ fs) u)

part_ends : (p q : Part) (ps : List Part) (f : ReaderFrame Items) (fs : Frames) (v : Datum) (u : Unit {0}) → p ≡ q → EndsPart q ps f fs v u → EndsPart p ps f fs v u
part_ends p q ps f fs v u is ends = subst (λ (x : Part). EndsPart x ps f fs v u) (sym is) ends

pub value_ends : (ps : List Part) (fs : Frames) (v : Datum) (u : Unit {0}) → ArePartsOf ps fs → IsEndedAs (parts_behind ps) (value_ended plain v fs u)
value_ends (p ∷ ps) (Vectoring l ∷ fs) v u is = part_ends p Vector ps (Vectoring l) fs v u is.0 (refl, is.1)
value_ends (p ∷ ps) (Listing l zero reader.Begun ∷ fs) v u is = part_ends p Begun ps (Listing l zero reader.Begun) fs v u is.0 (refl, is.1)
value_ends (p ∷ ps) (Listing l zero reader.Going ∷ fs) v u is = part_ends p Going ps (Listing l zero reader.Going) fs v u is.0 (refl, is.1)
value_ends (p ∷ ps) (Listing l zero reader.Dotted ∷ fs) v u is = part_ends p Dotted ps (Listing l zero reader.Dotted) fs v u is.0 (refl, is.1)
value_ends (p ∷ ps) (Listing l zero reader.Shut ∷ fs) v u is = part_ends p Shut ps (Listing l zero reader.Shut) fs v u is.0 (refl, is.1)
value_ends (p ∷ ps) (Listing l (suc n) reader.Begun ∷ fs) v u is = part_ends p Begun ps (Listing l (suc n) reader.Begun) fs v u is.0 (refl, is.1)
value_ends (p ∷ ps) (Listing l (suc n) reader.Going ∷ fs) v u is = part_ends p Going ps (Listing l (suc n) reader.Going) fs v u is.0 (refl, is.1)
value_ends (p ∷ ps) (Listing l (suc n) reader.Dotted ∷ fs) v u is = part_ends p Dotted ps (Listing l (suc n) reader.Dotted) fs v u is.0 (refl, is.1)
value_ends (p ∷ ps) (Listing l (suc n) reader.Shut ∷ fs) v u is = part_ends p Shut ps (Listing l (suc n) reader.Shut) fs v u is.0 (refl, is.1)
value_ends (p ∷ []) (Quoting ∷ []) v u is = part_ends p Quote [] Quoting [] v u is (v, refl)
value_ends (p ∷ q ∷ ps) (Quoting ∷ fs) v u is = part_ends p Quote (q ∷ ps) Quoting fs v u is.0 (value_ends (q ∷ ps) fs (quoted v) (left plain fs u) is.1)
value_ends _ _ v u is = absurd is

-- ---- from an ended element to a step and to reading

goes_as : (new : List Part) (at to : ℕ) (e : PlainEnded) → to ≡ at + 1 → IsEndedAs (Some new) e → IsMovedByMark at new (Goes to) (goes_after e)
goes_as new at to (Inside fs s) place is = (place, (fs, refl, is))
goes_as new at to (Whole d s) place is = absurd is
goes_as new at to (Lacks w s) place is = absurd w

ends_as : (new : List Part) (at to : ℕ) (e : PlainEnded) → to ≡ at + 1 → IsEndedAs None e → IsMovedByMark at new (Ends to) (goes_after e)
ends_as new at to (Whole d s) place is = (place, (is.0, ap (λ (d : Datum). Done d true tt) is.1))
ends_as new at to (Inside fs s) place is = absurd is
ends_as new at to (Lacks w s) place is = absurd w

pub marked_behind : (old new : List Part) (at : ℕ) (r : Moved) (e : PlainEnded) → IsBehind old new (at + 1) r → IsEndedAs (parts_behind old) e → IsMovedByMark at new r (goes_after e)
marked_behind old new at (Goes to) e behind is = goes_as new at to e behind.0 (subst (λ (o : Option (List Part)). IsEndedAs o e) behind.1 is)
marked_behind old new at (Ends to) e behind is = ends_as new at to e behind.0 (subst (λ (o : Option (List Part)). IsEndedAs o e) behind.1 is)
marked_behind old new at (Bad k) e behind is = absurd behind

further_as : (bytes : List ℕ) (at to : ℕ) (new : List Part) (fs : Frames) (e : PlainEnded) → at < to → to ≤ length bytes → read_at bytes at fs ≡ read_behind (drop to bytes) e → IsEndedAs (Some new) e → IsPartFurther bytes at to new fs
further_as bytes at to new fs (Inside more s) after within reads is = record { after = after; within = within; more = more; parts = is; reads = reads }
further_as bytes at to new fs (Whole d s) after within reads is = absurd is
further_as bytes at to new fs (Lacks w s) after within reads is = absurd w

whole_as : (bytes : List ℕ) (at to : ℕ) (fs : Frames) (e : PlainEnded) → at < to → to ≤ length bytes → read_at bytes at fs ≡ read_behind (drop to bytes) e → IsEndedAs None e → IsWholeQuote (read_at bytes at fs) bytes at to
whole_as bytes at to fs (Whole d s) after within reads is = record { after = after; within = within; datum = is.0; reads = reads ∙ ap (λ (d : Datum). Read d tt (drop to bytes)) is.1 }
whole_as bytes at to fs (Inside more s) after within reads is = absurd is
whole_as bytes at to fs (Lacks w s) after within reads is = absurd w

-- a word has ended before a place
pub word_behind : (bytes : List ℕ) (at to : ℕ) (old new : List Part) (fs : Frames) (r : Moved) (a : Atom) → WordEnds (read_at bytes at) bytes at to a → admits fs ≡ true → ArePartsOf old fs → IsBehind old new to r → IsMoved bytes at new fs r
word_behind bytes at to old new fs (Goes place) a ends admitted parts behind =
    let is : IsEndedAs (parts_behind old) (value_ended plain (datum_of_atom a) fs tt) = value_ends old fs (datum_of_atom a) tt parts in
    subst (λ (n : ℕ). IsPartFurther bytes at n new fs) (sym behind.0)
    (further_as bytes at to new fs (value_ended plain (datum_of_atom a) fs tt) ends.after ends.within (ends.reads fs admitted) (subst (λ (o : Option (List Part)). IsEndedAs o (value_ended plain (datum_of_atom a) fs tt)) behind.1 is))
word_behind bytes at to old new fs (Ends place) a ends admitted parts behind =
    let is : IsEndedAs (parts_behind old) (value_ended plain (datum_of_atom a) fs tt) = value_ends old fs (datum_of_atom a) tt parts in
    subst (λ (n : ℕ). IsWholeQuote (read_at bytes at fs) bytes at n) (sym behind.0)
    (whole_as bytes at to fs (value_ended plain (datum_of_atom a) fs tt) ends.after ends.within (ends.reads fs admitted) (subst (λ (o : Option (List Part)). IsEndedAs o (value_ended plain (datum_of_atom a) fs tt)) behind.1 is))
word_behind bytes at to old new fs (Bad k) a ends admitted parts behind = absurd behind

-- ---- where a spelling may stand

pub admits_parts : (ps : List Part) (fs : Frames) → ArePartsOf ps fs → admits fs ≡ parts_admit ps
admits_parts (p ∷ ps) (Vectoring l ∷ fs) is = sym (ap (λ (x : Part). parts_admit (x ∷ ps)) is.0)
admits_parts (p ∷ ps) (Listing l zero reader.Begun ∷ fs) is = sym (ap (λ (x : Part). parts_admit (x ∷ ps)) is.0)
admits_parts (p ∷ ps) (Listing l zero reader.Going ∷ fs) is = sym (ap (λ (x : Part). parts_admit (x ∷ ps)) is.0)
admits_parts (p ∷ ps) (Listing l zero reader.Dotted ∷ fs) is = sym (ap (λ (x : Part). parts_admit (x ∷ ps)) is.0)
admits_parts (p ∷ ps) (Listing l zero reader.Shut ∷ fs) is = sym (ap (λ (x : Part). parts_admit (x ∷ ps)) is.0)
admits_parts (p ∷ ps) (Listing l (suc n) reader.Begun ∷ fs) is = sym (ap (λ (x : Part). parts_admit (x ∷ ps)) is.0)
admits_parts (p ∷ ps) (Listing l (suc n) reader.Going ∷ fs) is = sym (ap (λ (x : Part). parts_admit (x ∷ ps)) is.0)
admits_parts (p ∷ ps) (Listing l (suc n) reader.Dotted ∷ fs) is = sym (ap (λ (x : Part). parts_admit (x ∷ ps)) is.0)
admits_parts (p ∷ ps) (Listing l (suc n) reader.Shut ∷ fs) is = sym (ap (λ (x : Part). parts_admit (x ∷ ps)) is.0)
admits_parts (p ∷ []) (Quoting ∷ []) is = sym (ap (λ (x : Part). parts_admit (x ∷ [])) is)
admits_parts (p ∷ q ∷ ps) (Quoting ∷ fs) is = sym (ap (λ (x : Part). parts_admit (x ∷ q ∷ ps)) is.0)
admits_parts _ _ is = absurd is

-- ---- marks

group_goes : (f : ReaderFrame Items) (fs : Frames) → group_begins plain f fs tt ≡ reader.Goes Gap (f ∷ fs) tt
group_goes f fs = elim (cases_Bool (is_inner fs)) [ inl inner ↦ cond-true (is_inner fs) _ _ inner | inr outer ↦ cond-false (is_inner fs) _ _ outer ]

list_opens : (ps : List Part) (fs : Frames) → ArePartsOf ps fs → (more : Frames) × (open_list plain fs tt ≡ reader.Goes Gap more tt) × ArePartsOf (Begun ∷ ps) more
list_opens ps [] is = (Listing plain.empty 0 reader.Begun ∷ [], group_goes (Listing plain.empty 0 reader.Begun) [], (refl, is))
list_opens ps (Vectoring l ∷ fs) is = (Listing plain.empty 0 reader.Begun ∷ Vectoring l ∷ fs, group_goes (Listing plain.empty 0 reader.Begun) (Vectoring l ∷ fs), (refl, is))
list_opens ps (Quoting ∷ fs) is = (Listing plain.empty 0 reader.Begun ∷ Quoting ∷ fs, group_goes (Listing plain.empty 0 reader.Begun) (Quoting ∷ fs), (refl, is))
list_opens ps (Listing l n reader.Begun ∷ fs) is = (Listing plain.empty 0 reader.Begun ∷ Listing l n reader.Begun ∷ fs, group_goes (Listing plain.empty 0 reader.Begun) (Listing l n reader.Begun ∷ fs), (refl, is))
list_opens ps (Listing l n reader.Going ∷ fs) is = (Listing plain.empty 0 reader.Begun ∷ Listing l n reader.Going ∷ fs, group_goes (Listing plain.empty 0 reader.Begun) (Listing l n reader.Going ∷ fs), (refl, is))
list_opens ps (Listing l n reader.Shut ∷ fs) is = (Listing plain.empty 0 reader.Begun ∷ Listing l n reader.Shut ∷ fs, group_goes (Listing plain.empty 0 reader.Begun) (Listing l n reader.Shut ∷ fs), (refl, is))
list_opens ps (Listing l n reader.Dotted ∷ fs) is = (Listing l (suc n) reader.Begun ∷ fs, refl, (refl, (l, is)))

vector_opens : (ps : List Part) (fs : Frames) → ArePartsOf ps fs → (more : Frames) × (group_begins plain (Vectoring plain.empty) fs tt ≡ reader.Goes Gap more tt) × ArePartsOf (Vector ∷ ps) more
vector_opens ps fs is = (Vectoring plain.empty ∷ fs, group_goes (Vectoring plain.empty) fs, (refl, is))

quote_opens : (ps : List Part) (fs : Frames) → ArePartsOf ps fs → (more : Frames) × (group_begins plain Quoting fs tt ≡ reader.Goes Gap more tt) × ArePartsOf (Quote ∷ ps) more
quote_opens (q ∷ ps) fs is = (Quoting ∷ fs, group_goes Quoting fs, (refl, is))
quote_opens [] fs is = absurd is

with_admitted : (ps : List Part) (part : Part) (fs : Frames) (x y : PlainStep) → admits fs ≡ true → (more : Frames) × (x ≡ reader.Goes Gap more tt) × ArePartsOf (part ∷ ps) more → (more : Frames) × ((if admits fs then x else y) ≡ reader.Goes Gap more tt) × ArePartsOf (part ∷ ps) more
with_admitted ps part fs x y admitted opened = (opened.0, cond-true (admits fs) x y admitted ∙ opened.1, opened.2)

pub part_opens : (part : Part) (ps : List Part) (fs : Frames) → is_opening part ≡ true → parts_admit ps ≡ true → ArePartsOf ps fs → (more : Frames) × (at_mark plain (opening_mark part) fs tt ≡ reader.Goes Gap more tt) × ArePartsOf (part ∷ ps) more
part_opens Quote ps fs opening admitted is = with_admitted ps Quote fs _ (Refuses tt) (admits_parts ps fs is ∙ admitted) (quote_opens ps fs is)
part_opens Vector ps fs opening admitted is = with_admitted ps Vector fs _ (Refuses tt) (admits_parts ps fs is ∙ admitted) (vector_opens ps fs is)
part_opens Begun ps fs opening admitted is = with_admitted ps Begun fs _ (Refuses tt) (admits_parts ps fs is ∙ admitted) (list_opens ps fs is)
part_opens Going ps fs opening admitted is = cc
part_opens Dotted ps fs opening admitted is = cc
part_opens Shut ps fs opening admitted is = cc

pub part_shut : (part : Part) (ps : List Part) (fs : Frames) → is_opening part ≡ true → parts_admit ps ≡ false → ArePartsOf ps fs → at_mark plain (opening_mark part) fs tt ≡ Refuses tt
part_shut Quote ps fs opening admitted is = cond-false (admits fs) _ _ (admits_parts ps fs is ∙ admitted)
part_shut Vector ps fs opening admitted is = cond-false (admits fs) _ _ (admits_parts ps fs is ∙ admitted)
part_shut Begun ps fs opening admitted is = cond-false (admits fs) _ _ (admits_parts ps fs is ∙ admitted)
part_shut Going ps fs opening admitted is = cc
part_shut Dotted ps fs opening admitted is = cc
part_shut Shut ps fs opening admitted is = cc

-- the innermost part that was taken off is another
pub top_is_not : (q : Part) (r : Option Part) (old new : List Part) → IfSome r (λ part. old ≡ part ∷ new) → IfNone r (old ≡ []) → (r ≡ Some q → ⊥) → (qs : List Part) → old ≡ q ∷ qs → ⊥
top_is_not q None old new some none other qs is = let both : [] ≡ q ∷ qs = sym none ∙ is in cc
top_is_not q (Some p) old new some none other qs is = other (let both : p ∷ new ≡ q ∷ qs = sym some ∙ is in let same : p ≡ q = cc in ap Some same)

pub dot_goes : (ps : List Part) (fs : Frames) → ArePartsOf (Going ∷ ps) fs → (more : Frames) × (dot plain fs tt ≡ reader.Goes Gap more tt) × ArePartsOf (Dotted ∷ ps) more
dot_goes ps (Listing l zero reader.Going ∷ fs) is = (Listing l zero reader.Dotted ∷ fs, refl, (refl, is.1))
dot_goes ps (Listing l (suc n) reader.Going ∷ fs) is = (Listing l (suc n) reader.Dotted ∷ fs, refl, (refl, is.1))
dot_goes ps (Listing l zero reader.Begun ∷ fs) is = absurd (let e = is.0 in cc)
dot_goes ps (Listing l zero reader.Dotted ∷ fs) is = absurd (let e = is.0 in cc)
dot_goes ps (Listing l zero reader.Shut ∷ fs) is = absurd (let e = is.0 in cc)
dot_goes ps (Listing l (suc n) reader.Begun ∷ fs) is = absurd (let e = is.0 in cc)
dot_goes ps (Listing l (suc n) reader.Dotted ∷ fs) is = absurd (let e = is.0 in cc)
dot_goes ps (Listing l (suc n) reader.Shut ∷ fs) is = absurd (let e = is.0 in cc)
dot_goes ps (Vectoring l ∷ fs) is = absurd (let e = is.0 in cc)
dot_goes [] (Quoting ∷ []) is = absurd (let e : Going ≡ Quote = is in cc)
dot_goes (q ∷ ps) (Quoting ∷ fs) is = absurd (let e = is.0 in cc)
dot_goes _ _ is = absurd is

pub dot_refuses : (ps : List Part) (fs : Frames) → ArePartsOf ps fs → ((qs : List Part) → ps ≡ Going ∷ qs → ⊥) → dot plain fs tt ≡ Refuses tt
dot_refuses (p ∷ ps) (Listing l zero reader.Going ∷ fs) is other = absurd (other ps (ap (λ (x : Part). x ∷ ps) is.0))
dot_refuses (p ∷ ps) (Listing l (suc n) reader.Going ∷ fs) is other = absurd (other ps (ap (λ (x : Part). x ∷ ps) is.0))
dot_refuses [] (Listing l n reader.Going ∷ fs) is other = absurd is
dot_refuses ps (Listing l n reader.Begun ∷ fs) is other = refl
dot_refuses ps (Listing l n reader.Dotted ∷ fs) is other = refl
dot_refuses ps (Listing l n reader.Shut ∷ fs) is other = refl
dot_refuses ps (Vectoring l ∷ fs) is other = refl
dot_refuses ps (Quoting ∷ fs) is other = refl
dot_refuses ps [] is other = refl

pub fewer_popped : (r : Option Part) (old new : List Part) → IfSome r (λ part. old ≡ part ∷ new) → IfNone r (new ≡ []) → length new ≤ length old
fewer_popped None old new some empty = rw empty (omega arith)
fewer_popped (Some p) old new some empty = let long = ap length some in omega arith

-- ---- `)` and `]`

-- a list behind a dot has ended
dotted_ends : (new ps : List Part) (k l : Items) (n at : ℕ) (fs : Frames) (r : Moved) → ArePartsOf ps (Listing k n reader.Dotted ∷ fs) → IsBehind ps new (at + 1) r → IsMovedByMark at new r (reader.Goes Gap (Listing l n reader.Shut ∷ fs) tt)
dotted_ends new (p ∷ ps) k l zero at fs r is behind = subst (λ (x : Part). IsBehind (x ∷ ps) new (at + 1) r → IsMovedByMark at new r (reader.Goes Gap (Listing l zero reader.Shut ∷ fs) tt)) (sym is.0) (λ behind. marked_behind (Dotted ∷ ps) new at r (Inside (Listing l zero reader.Shut ∷ fs) tt) behind (refl, is.1)) behind
dotted_ends new (p ∷ ps) k l (suc n) at fs r is behind = subst (λ (x : Part). IsBehind (x ∷ ps) new (at + 1) r → IsMovedByMark at new r (reader.Goes Gap (Listing l (suc n) reader.Shut ∷ fs) tt)) (sym is.0) (λ behind. marked_behind (Dotted ∷ ps) new at r (Inside (Listing l (suc n) reader.Shut ∷ fs) tt) behind (refl, is.1)) behind
dotted_ends new [] k l n at fs r is behind = absurd is

pub list_closes : (p : Part) (new ps : List Part) (at : ℕ) (fs : Frames) (r : Moved) → p ≢ Quote → p ≢ Vector → p ≢ Dotted → ArePartsOf (p ∷ ps) fs → IsBehind ps new (at + 1) r → IsMovedByMark at new r (close_list plain fs tt)
list_closes p new ps at (Listing l zero reader.Begun ∷ fs) r q v d is behind = marked_behind ps new at r _ behind (value_ends ps fs (plain.list l) (left plain fs tt) is.1)
list_closes p new ps at (Listing l zero reader.Going ∷ fs) r q v d is behind = marked_behind ps new at r _ behind (value_ends ps fs (plain.list l) (left plain fs tt) is.1)
list_closes p new ps at (Listing l zero reader.Shut ∷ fs) r q v d is behind = marked_behind ps new at r _ behind (value_ends ps fs (plain.list l) (left plain fs tt) is.1)
list_closes p new ps at (Listing l (suc n) reader.Begun ∷ fs) r q v d is behind = dotted_ends new ps is.1.0 _ n at fs r is.1.1 behind
list_closes p new ps at (Listing l (suc n) reader.Going ∷ fs) r q v d is behind = dotted_ends new ps is.1.0 _ n at fs r is.1.1 behind
list_closes p new ps at (Listing l (suc n) reader.Shut ∷ fs) r q v d is behind = dotted_ends new ps is.1.0 l n at fs r is.1.1 behind
list_closes p new ps at (Listing l zero reader.Dotted ∷ fs) r q v d is behind = absurd (d is.0)
list_closes p new ps at (Listing l (suc n) reader.Dotted ∷ fs) r q v d is behind = absurd (d is.0)
list_closes p new ps at (Vectoring l ∷ fs) r q v d is behind = absurd (v is.0)
list_closes p new [] at (Quoting ∷ []) r q v d is behind = absurd (q is)
list_closes p new (x ∷ ps) at (Quoting ∷ fs) r q v d is behind = absurd (q is.0)
list_closes p new _ at _ r q v d is behind = absurd is

pub list_refuses : (ps : List Part) (fs : Frames) → ArePartsOf ps fs → ((qs : List Part) → ps ≡ Begun ∷ qs → ⊥) → ((qs : List Part) → ps ≡ Going ∷ qs → ⊥) → ((qs : List Part) → ps ≡ Shut ∷ qs → ⊥) → close_list plain fs tt ≡ Refuses tt
list_refuses (p ∷ ps) (Listing l zero reader.Begun ∷ fs) is b g s = absurd (b ps (ap (λ (x : Part). x ∷ ps) is.0))
list_refuses (p ∷ ps) (Listing l (suc n) reader.Begun ∷ fs) is b g s = absurd (b ps (ap (λ (x : Part). x ∷ ps) is.0))
list_refuses (p ∷ ps) (Listing l zero reader.Going ∷ fs) is b g s = absurd (g ps (ap (λ (x : Part). x ∷ ps) is.0))
list_refuses (p ∷ ps) (Listing l (suc n) reader.Going ∷ fs) is b g s = absurd (g ps (ap (λ (x : Part). x ∷ ps) is.0))
list_refuses (p ∷ ps) (Listing l zero reader.Shut ∷ fs) is b g s = absurd (s ps (ap (λ (x : Part). x ∷ ps) is.0))
list_refuses (p ∷ ps) (Listing l (suc n) reader.Shut ∷ fs) is b g s = absurd (s ps (ap (λ (x : Part). x ∷ ps) is.0))
list_refuses (p ∷ ps) (Listing l n reader.Dotted ∷ fs) is b g s = refl
list_refuses (p ∷ ps) (Vectoring l ∷ fs) is b g s = refl
list_refuses (p ∷ ps) (Quoting ∷ fs) is b g s = refl
list_refuses _ _ is b g s = absurd is

pub vector_closes : (new ps : List Part) (at : ℕ) (fs : Frames) (r : Moved) → ArePartsOf (Vector ∷ ps) fs → IsBehind ps new (at + 1) r → IsMovedByMark at new r (close_vector plain fs tt)
vector_closes new ps at (Vectoring l ∷ fs) r is behind = marked_behind ps new at r _ behind (value_ends ps fs _ (left plain fs tt) is.1)
vector_closes new ps at (Listing l zero reader.Begun ∷ fs) r is behind = absurd (let e = is.0 in cc)
vector_closes new ps at (Listing l zero reader.Going ∷ fs) r is behind = absurd (let e = is.0 in cc)
vector_closes new ps at (Listing l zero reader.Dotted ∷ fs) r is behind = absurd (let e = is.0 in cc)
vector_closes new ps at (Listing l zero reader.Shut ∷ fs) r is behind = absurd (let e = is.0 in cc)
vector_closes new ps at (Listing l (suc n) reader.Begun ∷ fs) r is behind = absurd (let e = is.0 in cc)
vector_closes new ps at (Listing l (suc n) reader.Going ∷ fs) r is behind = absurd (let e = is.0 in cc)
vector_closes new ps at (Listing l (suc n) reader.Dotted ∷ fs) r is behind = absurd (let e = is.0 in cc)
vector_closes new ps at (Listing l (suc n) reader.Shut ∷ fs) r is behind = absurd (let e = is.0 in cc)
vector_closes new [] at (Quoting ∷ []) r is behind = absurd (let e : Vector ≡ Quote = is in cc)
vector_closes new (x ∷ ps) at (Quoting ∷ fs) r is behind = absurd (let e = is.0 in cc)
vector_closes new _ at _ r is behind = absurd is

pub vector_refuses : (ps : List Part) (fs : Frames) → ArePartsOf ps fs → ((qs : List Part) → ps ≡ Vector ∷ qs → ⊥) → close_vector plain fs tt ≡ Refuses tt
vector_refuses (p ∷ ps) (Vectoring l ∷ fs) is other = absurd (other ps (ap (λ (x : Part). x ∷ ps) is.0))
vector_refuses (p ∷ ps) (Listing l n phase ∷ fs) is other = refl
vector_refuses (p ∷ ps) (Quoting ∷ fs) is other = refl
vector_refuses _ _ is other = absurd is

-- the innermost part is this one
pub popped_is : (q : Part) (r : Option Part) (old new : List Part) → IfSome r (λ part. old ≡ part ∷ new) → (x : Part) → r ≡ Some x → x ≡ q → old ≡ q ∷ new
popped_is q None old new some x is same = cc
popped_is q (Some y) old new some x is same = some ∙ ap (λ (p : Part). p ∷ new) (let e : y ≡ x = cc in e ∙ same)

-- ---- from a mark's step to reading

pub marked_reads : (bytes : List ℕ) (at : ℕ) (new : List Part) (fs : Frames) (r : Moved) (m : byte.Mark) → at < length bytes → class_of (get_or bytes at 0) ≡ byte.Marks m → IsMovedByMark at new r (at_mark plain m fs tt) → IsMoved bytes at new fs r
marked_reads bytes at new fs (Goes to) m here class moved = record {
  after = omega (arith, moved.0);
  within = omega (arith, moved.0, here);
  more = moved.1.0;
  parts = moved.1.2;
  reads = read_on Gap Gap fs moved.1.0 bytes at here (ap (λ (c : Class). at_class plain c (get_or bytes at 0) fs tt) class ∙ moved.1.1) ∙ ap (λ (n : ℕ). data_read Gap moved.1.0 (drop n bytes)) (sym moved.0);
}
marked_reads bytes at new fs (Ends to) m here class moved = record {
  after = omega (arith, moved.0);
  within = omega (arith, moved.0, here);
  datum = moved.1.0;
  reads = read_byte Gap fs bytes at here ∙ ap (stepped (get_or bytes at 0) (drop (at + 1) bytes)) (ap (λ (c : Class). at_class plain c (get_or bytes at 0) fs tt) class ∙ moved.1.1) ∙ ap (λ (n : ℕ). Read (quoted moved.1.0) tt (drop n bytes)) (sym moved.0);
}
marked_reads bytes at new fs (Bad k) m here class moved = record {
  after = omega (arith, moved.0);
  within = omega (arith, moved.0, here);
  reads = read_refused Gap fs bytes at here (ap (λ (c : Class). at_class plain c (get_or bytes at 0) fs tt) class ∙ moved.1) ∙ ap (λ (n : ℕ). Refused tt (drop n bytes)) (sym moved.0);
}

-- ---- words

pub word_refused : (c : Class) (b : ℕ) (fs : Frames) → is_word_class c ≡ true → admits fs ≡ false → at_class plain c b fs tt ≡ Refuses tt
word_refused byte.Text b fs word shut = cond-false (admits fs) _ _ shut
word_refused byte.Escape b fs word shut = cond-false (admits fs) _ _ shut
word_refused byte.Letter b fs word shut = cond-false (admits fs) _ _ shut
word_refused byte.Digit b fs word shut = cond-false (admits fs) _ _ shut
word_refused byte.Sign b fs word shut = cond-false (admits fs) _ _ shut
word_refused byte.Special b fs word shut = cond-false (admits fs) _ _ shut
word_refused byte.Nothing b fs word shut = refl
word_refused byte.Blank b fs word shut = cc
word_refused byte.Percent b fs word shut = cc
word_refused (byte.Marks m) b fs word shut = cc

digit_begins_number : (b : ℕ) (fs : Frames) → class_of b ≡ byte.Digit → admits fs ≡ true → reader_step plain Gap b fs tt ≡ reader.Goes (InNumber false (b - 48)) fs tt
digit_begins_number b fs class admitted = ap (λ (c : Class). at_class plain c b fs tt) class ∙ cond-true (admits fs) _ _ admitted

sign_begins : (b : ℕ) (fs : Frames) → class_of b ≡ byte.Sign → admits fs ≡ true → reader_step plain Gap b fs tt ≡ reader.Goes (AfterSign b) fs tt
sign_begins b fs class admitted = ap (λ (c : Class). at_class plain c b fs tt) class ∙ cond-true (admits fs) _ _ admitted

pub digits_are_word : (bytes : List ℕ) (at : ℕ) (r : Scan) → at < length bytes → class_of (get_or bytes at 0) ≡ byte.Digit → IsDigitsScan false bytes at r → IsWordScan bytes at r
digits_are_word bytes at (scan.Ends to) here class s = (
  Integer (signed false s.0),
  record {
    after = s.1.after;
    within = s.1.within;
    reads = λ fs admitted. read_on Gap (InNumber false (get_or bytes at 0 - 48)) fs fs bytes at here (digit_begins_number (get_or bytes at 0) fs class admitted) ∙ s.1.reads fs admitted;
  },
)
digits_are_word bytes at (scan.Bad k) here class s = record {
  after = s.after;
  within = s.within;
  reads = λ fs admitted. read_on Gap (InNumber false (get_or bytes at 0 - 48)) fs fs bytes at here (digit_begins_number (get_or bytes at 0) fs class admitted) ∙ s.reads fs admitted;
}

signed_digits : (bytes : List ℕ) (at : ℕ) (fs : Frames) → at + 1 < length bytes → class_of (get_or bytes at 0) ≡ byte.Sign → is_digit (get_or bytes (at + 1) 0) ≡ true → admits fs ≡ true → read_at bytes at fs ≡ data_read (InNumber (get_or bytes at 0 == 45) (get_or bytes (at + 1) 0 - 48)) fs (drop (at + 1 + 1) bytes)
signed_digits bytes at fs next class digit admitted =
    read_on Gap (AfterSign (get_or bytes at 0)) fs fs bytes at (omega arith) (sign_begins (get_or bytes at 0) fs class admitted)
    ∙ read_on (AfterSign (get_or bytes at 0)) (InNumber (get_or bytes at 0 == 45) (get_or bytes (at + 1) 0 - 48)) fs fs bytes (at + 1) next (cond-true (is_digit (get_or bytes (at + 1) 0)) _ _ digit)

pub signed_are_word : (bytes : List ℕ) (at : ℕ) (r : Scan) → at + 1 < length bytes → class_of (get_or bytes at 0) ≡ byte.Sign → is_digit (get_or bytes (at + 1) 0) ≡ true → IsDigitsScan (get_or bytes at 0 == 45) bytes (at + 1) r → IsWordScan bytes at r
signed_are_word bytes at (scan.Ends to) next class digit s = (
  Integer (signed (get_or bytes at 0 == 45) s.0),
  record {
    after = omega (arith, s.1.after);
    within = s.1.within;
    reads = λ fs admitted. signed_digits bytes at fs next class digit admitted ∙ s.1.reads fs admitted;
  },
)
signed_are_word bytes at (scan.Bad k) next class digit s = record {
  after = omega (arith, s.after);
  within = s.within;
  reads = λ fs admitted. signed_digits bytes at fs next class digit admitted ∙ s.reads fs admitted;
}

-- a sign by itself, before the end or before a byte that is no digit
pub sign_last : (bytes : List ℕ) (at : ℕ) (fs : Frames) → at < length bytes → class_of (get_or bytes at 0) ≡ byte.Sign → length bytes ≤ at + 1 → admits fs ≡ true → read_at bytes at fs ≡ read_behind_atom (Identifier (get_or bytes at 0 ∷ [])) fs (drop (at + 1) bytes)
sign_last bytes at fs here class end admitted =
    read_on Gap (AfterSign (get_or bytes at 0)) fs fs bytes at here (sign_begins (get_or bytes at 0) fs class admitted)
    ∙ read_last (AfterSign (get_or bytes at 0)) (Identifier (get_or bytes at 0 ∷ [])) fs bytes (at + 1) (omega arith) refl

pub sign_before : (bytes : List ℕ) (at : ℕ) (fs : Frames) → at + 1 < length bytes → class_of (get_or bytes at 0) ≡ byte.Sign → is_digit (get_or bytes (at + 1) 0) ≡ false → admits fs ≡ true → read_at bytes at fs ≡ read_behind_atom (Identifier (get_or bytes at 0 ∷ [])) fs (drop (at + 1) bytes)
sign_before bytes at fs next class other admitted =
    read_on Gap (AfterSign (get_or bytes at 0)) fs fs bytes at (omega arith) (sign_begins (get_or bytes at 0) fs class admitted)
    ∙ read_before (AfterSign (get_or bytes at 0)) (Identifier (get_or bytes at 0 ∷ [])) fs bytes (at + 1) next (cond-false (is_digit (get_or bytes (at + 1) 0)) _ _ other)

ended_behind : (b : ℕ) (bs : List ℕ) (e : PlainEnded) → stepped b bs (goes_after e) ≡ read_behind bs e
ended_behind b bs (Whole v s) = refl
ended_behind b bs (Inside fs s) = refl
ended_behind b bs (Lacks w s) = absurd w

pub special_reads : (bytes : List ℕ) (at : ℕ) (fs : Frames) → at < length bytes → class_of (get_or bytes at 0) ≡ byte.Special → admits fs ≡ true → read_at bytes at fs ≡ read_behind_atom (Identifier (get_or bytes at 0 ∷ [])) fs (drop (at + 1) bytes)
special_reads bytes at fs here class admitted =
    read_byte Gap fs bytes at here
    ∙ ap (stepped (get_or bytes at 0) (drop (at + 1) bytes)) (ap (λ (c : Class). at_class plain c (get_or bytes at 0) fs tt) class ∙ cond-true (admits fs) _ _ admitted)
    ∙ ended_behind (get_or bytes at 0) (drop (at + 1) bytes) (value_ended plain (datum_of_atom (Identifier (get_or bytes at 0 ∷ []))) fs tt)

-- ---- gaps

abbrev gap_mode : Bool → Mode
gap_mode true = Comment
gap_mode false = Gap

gap_reads : (inside : Bool) (fs : Frames) (bs : List ℕ) → data_read (gap_mode inside) fs bs ≡ data_read Gap fs (behind_gap inside bs)
gap_reads false fs [] = refl
gap_reads true fs [] = refl
gap_reads true fs (b ∷ bs) = elim (cases_Bool (b == 10)) [
  | inl end ↦ ap (λ (t : Bool). data_read (if t then Gap else Comment) fs bs) end ∙ gap_reads false fs bs ∙ sym (ap (data_read Gap fs) (cond-true (b == 10) (behind_gap false bs) (behind_gap true bs) end))
  | inr on ↦ ap (λ (t : Bool). data_read (if t then Gap else Comment) fs bs) on ∙ gap_reads true fs bs ∙ sym (ap (data_read Gap fs) (cond-false (b == 10) (behind_gap false bs) (behind_gap true bs) on))
]
gap_reads false fs (b ∷ bs) = elim (cases_Bool (is_blank b)) [
  | inl blank ↦ ap (λ (c : Class). stepped b bs (at_class plain c b fs tt)) (cond-true (is_blank b) byte.Blank _ blank) ∙ gap_reads false fs bs ∙ sym (ap (data_read Gap fs) (cond-true (is_blank b) _ _ blank))
  | inr solid ↦ elim (cases_Bool (b == 37)) [
    | inl percent ↦ ap (λ (c : Class). stepped b bs (at_class plain c b fs tt)) (ap class_of (eqb-true b 37 percent)) ∙ gap_reads true fs bs ∙ sym (ap (data_read Gap fs) (cond-false (is_blank b) _ _ solid ∙ cond-true (b == 37) _ _ percent))
    | inr other ↦ sym (ap (data_read Gap fs) (cond-false (is_blank b) _ _ solid ∙ cond-false (b == 37) _ _ other))
  ]
]

-- a comment from its `%` on to the end of its line
pub comment_reads : (bytes : List ℕ) (at to : ℕ) (fs : Frames) → at < length bytes → class_of (get_or bytes at 0) ≡ byte.Percent → behind_gap true (drop (at + 1) bytes) ≡ behind_gap false (drop to bytes) → read_at bytes at fs ≡ data_read Gap fs (drop to bytes)
comment_reads bytes at to fs here class behind =
    read_on Gap Comment fs fs bytes at here (ap (λ (c : Class). at_class plain c (get_or bytes at 0) fs tt) class)
    ∙ gap_reads true fs (drop (at + 1) bytes)
    ∙ ap (data_read Gap fs) behind
    ∙ sym (gap_reads false fs (drop to bytes))

-- something has begun at the end of the bytes
pub parts_at_end : (ps : List Part) (fs : Frames) → ArePartsOf ps fs → at_end plain Gap fs tt ≡ Refused tt []
parts_at_end ps (f ∷ fs) is = refl
parts_at_end [] [] is = absurd is
parts_at_end (p ∷ ps) [] is = absurd is
