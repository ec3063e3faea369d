-- What reading a form makes of the world, and of what is still to be read.
use Rattle.std.proofs.Common.{◌≡◌, ℕ, ◌<◌, ◌-◌, List, [], ◌∷◌, ◌++◌, length, drop, map, Option, Some, None, refl, sym, ap, ◌∙◌, subst, append_assoc, false}
use Rattle.std.specs.Prelude.{option_map}
use Rattle.std.specs.List.{All}
use Rattle.std.proofs.lemmas.List.{append-nil, map-append}
use Rattle.std.proofs.lemmas.Bool.{eqb-true}
use Rattle.std.proofs.Math.Seq.{drop-length}
use Rattle.std.proofs.lemmas.List.Elements.{All-weaker}
use Rattle.rl_tags.specs.Tagged.{Tagged}
use Rattle.rl_syms.specs.Table.{IsTable}
use Rattle.rl_text.specs.Datum.{Datum}
use Rattle.rl_text.specs.Laws.{FindsSpelled, FindsNone, RefusesFirst}
use Rattle.rl_text.specs.Reader.{Read, NoneLeft, read_by}
use Rattle.rl_read.specs.Given.{Slice, slice_left, unread_slice}
use Rattle.rl_read.specs.Taken.{MayCome, TakesBytes}
use Rattle.rl_read.specs.Stock.{Stock, in_stock, stock_of}
use Rattle.rl_read.specs.Reads as reads
use Rattle.rl_read.specs.Reads.{IsRefusedText}
use Rattle.rl_read.specs.Laws.{ReadsText, ReadsData, IsNamedStock}
use Rattle.rl_world.specs.Input.{with_back}
use Rattle.rl_world.specs.declared.world.World.{World}
use Rattle.rl_forms.specs.Meaning.{data_in}
use Rattle.rl_forms.specs.KnownData.{IsKnown, IsRunning, KeepsKnown, datum_in}
use Rattle.rl_forms.proofs.Evaluating.{kept_values}
use Rattle.rl_forms.proofs.Finding.{data_found, data_none, data_refused, blank_stock, spelled_shorter}
use Rattle.rl_forms.proofs.Testing.{known_seam}

named_stock : (w : World) → IsRunning w → IsNamedStock (stock_of w)
named_stock w is = record { table = is.table; nil = is.nil }

-- names and the line length stay
pub read_running : (w v : World) → IsRunning w → IsTable v.cells.cells v.syms.head → reads.KeepsByReading w v → IsRunning v
read_running w v is table k = record {
  table = table;
  nil = k.names _ _ is.nil;
  t = k.names _ _ is.t;
  quote = k.names _ _ is.quote;
  cons = k.names _ _ is.cons;
  prin1 = k.names _ _ is.prin1;
  prin2 = k.names _ _ is.prin2;
  print = k.names _ _ is.print;
  terpri = k.names _ _ is.terpri;
  line = ap (λ (w : World). w.output.line_length) k.world ∙ is.line;
}

-- nothing is printed
pub read_output : (w v : World) → reads.KeepsByReading w v → v.output.waiting ≡ w.output.waiting → v.output ≡ w.output
read_output w v k e = ap (λ (w : World). w.output) k.world ∙ ap (λ bytes. record w.output { waiting = bytes }) e

-- ---- what is left of a file

-- what holds whatever may come behind the bytes that were taken holds of the bytes that are left
pub slice_told : (s t : Slice) (P : List ℕ → List ℕ → Type 0) → TakesBytes (unread_slice s) (unread_slice t) P → P (slice_left s) (slice_left t)
slice_told s t P h =
    let none : MayCome (unread_slice s) (drop s.at s.bytes) = λ e. ap (λ n. drop n s.bytes) (eqb-true s.at (length s.bytes) e) ∙ drop-length s.bytes in
    subst (λ bytes. P (with_back s.returned bytes) (slice_left t)) (sym h.told) (h.means (drop t.at t.bytes) (h.dry none))

-- ---- a form

-- a value was read from these bytes, and these are left
abbrev pub IsRead : World → World → Tagged → List ℕ → List ℕ → Type 0
IsRead w v x before now = read_by (in_stock false) (stock_of w) before ≡ Read x (stock_of v) now

pub read_keeps : ReadsData → (w v : World) (x : Tagged) (before now : List ℕ) → IsRunning w → IsRead w v x before now → KeepsKnown w v
unfolding datum_in
read_keeps law w v x before now is e =
    let k = law.keeps false (stock_of w) (stock_of v) before now x (named_stock w is) e in
    record { known = λ y h. record { is = k.is y h.is }; datum = λ y h. k.same y h.is }

pub read_shorter : ReadsData → (w v : World) (x : Tagged) (before now : List ℕ) → IsRunning w → IsRead w v x before now → length now < length before
read_shorter law w v x before now is e = spelled_shorter before now _ (law.spelled false (stock_of w) (stock_of v) before now x (named_stock w is) e)

pub read_known : ReadsData → (w v : World) (x : Tagged) (before now : List ℕ) (vs : List Tagged) → IsRunning w → IsRead w v x before now → All (IsKnown w) vs → All (IsKnown v) (vs ++ x ∷ [])
read_known law w v x before now vs is e known =
    known_seam v vs x (All-weaker (IsKnown w) (IsKnown v) (read_keeps law w v x before now is e).known vs known) (record { is = law.is false (stock_of w) (stock_of v) before now x (named_stock w is) e })

-- what is still to be found, behind what was
behind : (first : List Datum) (d : Datum) (more : Option (List Datum)) → option_map (λ xs. first ++ xs) (option_map (λ xs. d ∷ xs) more) ≡ option_map (λ xs. (first ++ d ∷ []) ++ xs) more
behind first d None = refl
behind first d (Some xs) = ap Some (sym (append_assoc first (d ∷ []) xs))

pub read_more : ReadsData → FindsSpelled → (w v : World) (x : Tagged) (file before now : List ℕ) (vs new : List Tagged) → IsRunning w → IsRead w v x before now → All (IsKnown w) vs → new ≡ vs ++ x ∷ []
    → data_in file ≡ option_map (λ more. map (datum_in w) vs ++ more) (data_in before) → data_in file ≡ option_map (λ more. map (datum_in v) new ++ more) (data_in now)
unfolding datum_in
read_more law finds w v x file before now vs new is e known push h =
    let found : data_in before ≡ option_map (λ more. datum_in v x ∷ more) (data_in now) = data_found finds before now (datum_in v x) (law.spelled false (stock_of w) (stock_of v) before now x (named_stock w is) e) in
    let kept : map (datum_in v) vs ≡ map (datum_in w) vs = kept_values w v vs (read_keeps law w v x before now is e) known in
    let all : map (datum_in v) new ≡ map (datum_in w) vs ++ datum_in v x ∷ [] = ap (map (datum_in v)) push ∙ (map-append (datum_in v) vs (x ∷ []) ∙ ap (λ ds. ds ++ datum_in v x ∷ []) kept) in
    h ∙ (ap (option_map (λ more. map (datum_in w) vs ++ more)) found ∙ (behind (map (datum_in w) vs) (datum_in v x) (data_in now) ∙ ap (λ ds. option_map (λ more. ds ++ more) (data_in now)) (sym all)))

-- ---- the end

-- nothing but blanks was left
abbrev pub IsEnd : World → World → List ℕ → Type 0
IsEnd w v before = read_by (in_stock false) (stock_of w) before ≡ NoneLeft (stock_of v)

end_keeps : ReadsText → (w v : World) (before : List ℕ) → IsEnd w v before → KeepsKnown w v
unfolding datum_in
end_keeps law w v before e =
    let same = blank_stock (stock_of w) (stock_of v) before (law.none false (stock_of w) (stock_of v) before e) e in
    let cells : v.cells ≡ w.cells = ap (λ (k : Stock). k.cells) same in
    let head : v.syms.head ≡ w.syms.head = ap (λ (k : Stock). k.head) same in
    record { known = λ y h. record { is = rw (cells, head) h.is }; datum = λ y h. rw cells refl }

pub end_known : ReadsText → (w v : World) (before : List ℕ) (vs : List Tagged) → IsEnd w v before → All (IsKnown w) vs → All (IsKnown v) vs
end_known law w v before vs e known = All-weaker (IsKnown w) (IsKnown v) (end_keeps law w v before e).known vs known

pub end_read : ReadsText → FindsSpelled → FindsNone → (w v : World) (file before : List ℕ) (vs : List Tagged) → IsEnd w v before → All (IsKnown w) vs
    → data_in file ≡ option_map (λ more. map (datum_in w) vs ++ more) (data_in before) → Some (map (datum_in v) vs) ≡ data_in file
end_read law finds none w v file before vs e known h =
    let blank = data_none finds none before (law.none false (stock_of w) (stock_of v) before e) in
    let kept = kept_values w v vs (end_keeps law w v before e) known in
    sym (h ∙ (ap (option_map (λ more. map (datum_in w) vs ++ more)) blank ∙ ap Some (append-nil (map (datum_in w) vs) ∙ sym kept)))

-- ---- a byte that is refused

pub refused_read : ReadsText → FindsSpelled → RefusesFirst → (w v : World) (file before now : List ℕ) (k : ℕ) (first : List Datum) → IsRefusedText false w v before now k
    → data_in file ≡ option_map (λ more. first ++ more) (data_in before) → None ≡ data_in file
refused_read law finds refuses w v file before now k first r h =
    let at = law.refused false (stock_of w) r.made before r.from r.refused in
    sym (h ∙ ap (option_map (λ more. first ++ more)) (data_refused finds before _ ((refuses before (length before - length r.from)).1 at)))
