-- A text that is cut off behind the byte after its longest statement, with what stands before its first token.
use Rattle.std.proofs.Common.{◌≡◌, ℕ, zero, suc, ◌+◌, ◌-◌, ◌<◌, ◌≤◌, min, Bool, true, false, nat_le, ◌==◌, List, [], ◌∷◌, ◌++◌, length, take, drop, refl, ap, sym, ◌∙◌, ◌⊎◌, inl, inr, arith, length-drop, length-take, drop_of_length-le, drop-drop, take-append-drop, take_all, append-nil}
use Rattle.std.specs.Prelude.{if◌then◌else◌}
use Rattle.std.proofs.lemmas.Bool.{cond-true, cond-false, cases_Bool, leb-true, leb-false}
use Rattle.std.proofs.lemmas.List.{drop-take}
use Rattle.rl_tree.specs.Bytes.{is_blank}
use Rattle.rl_text.specs.Gap.{IsBlankText}
use Rattle.rl_grammar.specs.Laws.{LooksNoFurther, ReadsSource, FindsNoSource, RefusesSource}
use Rattle.rl_grammar.specs.Lexer.{Front, behind_gap, first_behind}
use Rattle.rl_grammar.specs.Source.{longest, past_longest}
use Rattle.rl_grammar.specs.Statement.{Start}
use Rattle.rl_grammar.specs.SourceReader.{SourceResult, HasStatement, NothingLeft, Unreadable, with_first, read_source, source_behind, source_statement, extended_source}
use Rattle.rl_parse.specs.Recognition.{IsRecognizedAs, IsStatementHere, IsNothingHere, IsSyntaxHere, behind_longest, shifted_by}
use Rattle.rl_parse.specs.declared.recognize.Recognized.{Recognized}
use Rattle.rl_parse.specs.declared.recognize.Recognized.TheVariants.{Statement, Nothing, Syntax}

-- ---- blanks and comments

gap_short : (inside : Bool) (xs : List ℕ) → length (behind_gap inside xs) ≤ length xs
gap_short true [] = omega arith
gap_short false [] = omega arith
gap_short true (b ∷ bs) = elim (cases_Bool (b == 10)) [
  | inl line ↦ let less = gap_short false bs in let same = ap length (cond-true (b == 10) (behind_gap false bs) (behind_gap true bs) line) in omega (arith, less, same)
  | inr other ↦ let less = gap_short true bs in let same = ap length (cond-false (b == 10) (behind_gap false bs) (behind_gap true bs) other) in omega (arith, less, same)
]
gap_short false (b ∷ bs) = elim (cases_Bool (is_blank b)) [
  | inl blank ↦ let less = gap_short false bs in let same = ap length (cond-true (is_blank b) (behind_gap false bs) (if b == 37 then behind_gap true bs else b ∷ bs) blank) in omega (arith, less, same)
  | inr solid ↦ let step = ap length (cond-false (is_blank b) (behind_gap false bs) (if b == 37 then behind_gap true bs else b ∷ bs) solid) in elim (cases_Bool (b == 37)) [
    | inl comment ↦ let less = gap_short true bs in let same = ap length (cond-true (b == 37) (behind_gap true bs) (b ∷ bs) comment) in omega (arith, less, step, same)
    | inr other ↦ let same = ap length (cond-false (b == 37) (behind_gap true bs) (b ∷ bs) other) in omega (arith, step, same)
  ]
]

-- a byte of a gap is passed, and a byte that is none is not
data GapByte (inside : Bool) (b : ℕ) : Type 0 where
  Passes : (after : Bool) → ((bs : List ℕ) → behind_gap inside (b ∷ bs) ≡ behind_gap after bs) → GapByte inside b
  Stays : inside ≡ false → ((bs : List ℕ) → behind_gap inside (b ∷ bs) ≡ b ∷ bs) → GapByte inside b

gap_byte : (inside : Bool) (b : ℕ) → GapByte inside b
gap_byte true b = elim (cases_Bool (b == 10)) [
  | inl line ↦ Passes false (λ bs. cond-true (b == 10) _ _ line)
  | inr other ↦ Passes true (λ bs. cond-false (b == 10) _ _ other)
]
gap_byte false b = elim (cases_Bool (is_blank b)) [
  | inl blank ↦ Passes false (λ bs. cond-true (is_blank b) _ _ blank)
  | inr solid ↦ elim (cases_Bool (b == 37)) [
    | inl comment ↦ Passes true (λ bs. cond-false (is_blank b) _ _ solid ∙ cond-true (b == 37) _ _ comment)
    | inr other ↦ Stays refl (λ bs. cond-false (is_blank b) _ _ solid ∙ cond-false (b == 37) _ _ other)
  ]
]

abbrev GapTaken : Bool → List ℕ → ℕ → ℕ → Type 0
GapTaken inside xs g e = behind_gap inside xs ≡ drop g xs → g < length xs → g < e → behind_gap inside (take e xs) ≡ drop g (take e xs)

byte_taken : (b : ℕ) (bs : List ℕ) (inside : Bool) (g e : ℕ) → GapByte inside b → ((after : Bool) (g e : ℕ) → GapTaken after bs g e) → GapTaken inside (b ∷ bs) g (suc e)
byte_taken b bs inside zero e (Passes after passes) each is here more = absurd (let less = gap_short after bs in let same = ap length (sym (passes bs) ∙ is) in omega (arith, less, same))
byte_taken b bs inside (suc g) e (Passes after passes) each is here more = passes (take e bs) ∙ each after g e (sym (passes bs) ∙ is) (omega (arith, here)) (omega (arith, more))
byte_taken b bs inside zero e (Stays outside stays) each is here more = stays (take e bs)
byte_taken b bs inside (suc g) e (Stays outside stays) each is here more = absurd (let same = ap length (sym (stays bs) ∙ is) in let left = length-drop g bs in omega (arith, same, left))

gap_taken : (xs : List ℕ) (inside : Bool) (g e : ℕ) → GapTaken inside xs g e
gap_taken [] inside g e is here more = absurd (omega arith)
gap_taken (b ∷ bs) inside g zero is here more = absurd (omega arith)
gap_taken (b ∷ bs) inside g (suc e) is here more = byte_taken b bs inside g e (gap_byte inside b) (λ after g e. gap_taken bs after g e) is here more

byte_passed : (b : ℕ) (bs : List ℕ) (inside : Bool) → GapByte inside b → ((after : Bool) → behind_gap false (behind_gap after bs) ≡ behind_gap after bs) → behind_gap false (behind_gap inside (b ∷ bs)) ≡ behind_gap inside (b ∷ bs)
byte_passed b bs inside (Passes after passes) each = ap (behind_gap false) (passes bs) ∙ each after ∙ sym (passes bs)
byte_passed b bs inside (Stays outside stays) each = ap (behind_gap false) (stays bs) ∙ ap (λ (c : Bool). behind_gap c (b ∷ bs)) (sym outside)

gap_passed : (xs : List ℕ) (inside : Bool) → behind_gap false (behind_gap inside xs) ≡ behind_gap inside xs
gap_passed [] true = refl
gap_passed [] false = refl
gap_passed (b ∷ bs) inside = byte_passed b bs inside (gap_byte inside b) (λ after. gap_passed bs after)

-- ---- what stands before the first token changes nothing

started_behind : (x z : List ℕ) → behind_gap false x ≡ z → behind_gap false z ≡ z → 0 < length z → source_statement x ≡ read_source (suc (length x)) (behind_longest z) Start z
started_behind x [] behind solid some = absurd (omega arith)
started_behind x (b ∷ bs) behind solid some =
    ap (λ (here : List ℕ). source_behind here x) behind
    ∙ ap (λ (end : List ℕ). read_source (suc (length x)) end Start x) (ap (drop longest) behind)
    ∙ ap (λ (f : Front). with_first (behind_longest (b ∷ bs)) Start f (λ t rest. read_source (length x) (behind_longest (b ∷ bs)) t rest)) (ap first_behind (behind ∙ sym solid))

-- ---- the text as far as one looks

extended_nothing : (r : SourceResult) → r ≡ extended_source [] r
extended_nothing (HasStatement b s rest) = ap (HasStatement b s) (sym (append-nil rest))
extended_nothing NothingLeft = refl
extended_nothing (Unreadable from) = ap Unreadable (sym (append-nil from))

-- e bytes are all, or tell what all tell
cut_tells : LooksNoFurther → (x : List ℕ) (e : ℕ) → 0 < length (past_longest (take e x)) → source_statement x ≡ extended_source (drop e x) (source_statement (take e x))
cut_tells looks x e long = ap source_statement (sym (take-append-drop e x)) ∙ looks (take e x) (drop e x) long

all_tells : (x : List ℕ) (e : ℕ) → length x ≤ e → source_statement x ≡ extended_source (drop e x) (source_statement (take e x))
all_tells x e all =
    let none : drop e x ≡ [] = drop_of_length-le x {i = e} all in
    let same : take e x ≡ x = take_all e x all in
    extended_nothing (source_statement x)
    ∙ ap (λ (xs : List ℕ). extended_source xs (source_statement x)) (sym none)
    ∙ ap (λ (xs : List ℕ). extended_source (drop e x) (source_statement xs)) (sym same)

window_all : LooksNoFurther → (x z : List ℕ) (e : ℕ) → behind_gap false (take e x) ≡ z → (length x ≤ e) ⊎ (1048576 < length z) → source_statement x ≡ extended_source (drop e x) (source_statement (take e x))
window_all looks x z e cut (inl all) = all_tells x e all
window_all looks x z e cut (inr long) =
    let past : past_longest (take e x) ≡ drop 1048576 z = ap (drop longest) cut in
    let left = length-drop 1048576 z in
    let many = ap length past in
    cut_tells looks x e (omega (arith, left, many, long))

window_tells : LooksNoFurther → (x : List ℕ) (g m : ℕ) → behind_gap false x ≡ drop g x → g < length x → 0 < m → (length x ≤ g + m) ⊎ (1048576 < length (take m (drop g x))) → source_statement x ≡ extended_source (drop (g + m) x) (read_source (suc (length (take (g + m) x))) (behind_longest (take m (drop g x))) Start (take m (drop g x)))
window_tells looks x g m behind here some far =
    let cut : behind_gap false (take (g + m) x) ≡ take m (drop g x) = gap_taken x false g (g + m) behind here (omega (arith, some)) ∙ drop-take g m x in
    let solid : behind_gap false (take m (drop g x)) ≡ take m (drop g x) = ap (behind_gap false) (sym cut) ∙ gap_passed (take (g + m) x) false ∙ cut in
    let size = length-drop g x in
    let count = length-take m (drop g x) in
    let first = started_behind (take (g + m) x) (take m (drop g x)) cut solid (omega (arith, size, count, here, some)) in
    window_all looks x (take m (drop g x)) (g + m) cut far ∙ ap (extended_source (drop (g + m) x)) first

-- ---- from the beginning of the window

-- the text in the window from its first token on, as far as one looks
abbrev pub looked_at : List ℕ → ℕ → ℕ → List ℕ
looked_at w from end = take (end - from) (drop from w)

pub window_reads : LooksNoFurther → (w : List ℕ) (at from end : ℕ) → at ≤ from → from < length w → end ≡ min (length w) (from + 1048577) → drop from w ≡ behind_gap false (drop at w) → (n : ℕ) × (length (looked_at w from end) < n) × (source_statement (drop at w) ≡ extended_source (drop end w) (read_source n (behind_longest (looked_at w from end)) Start (looked_at w from end)))
window_reads looks w at from end after here last behind =
    let x = drop at w in
    let g = from - at in
    let m = end - from in
    let size = length-drop at w in
    let place : drop g x ≡ drop from w = drop-drop g at w ∙ ap (λ (k : ℕ). drop k w) (omega (arith, after)) in
    let count : length (take m (drop g x)) ≡ m = length-take m (drop g x) ∙ (let left = length-drop g x in omega (arith, size, left, last, after, here)) in
    let far : (length x ≤ g + m) ⊎ (1048576 < length (take m (drop g x))) = elim (cases_Bool (nat_le (length w) (from + 1048577))) [
      | inl all ↦ inl (let few = leb-true (length w) (from + 1048577) all in omega (arith, size, few, last, after, here))
      | inr more ↦ inr (let many = leb-false (length w) (from + 1048577) more in omega (arith, count, many, last))
    ] in
    let tells = window_tells looks x g m (sym behind ∙ sym place) (omega (arith, size, after, here)) (omega (arith, last, here)) far in
    let rest : drop (g + m) x ≡ drop end w = drop-drop (g + m) at w ∙ ap (λ (k : ℕ). drop k w) (omega (arith, after, last, here)) in
    let enough : length (looked_at w from end) < suc (length (take (g + m) x)) = (let one = length-take (g + m) x in let two = length-take m (drop from w) in let left = length-drop from w in omega (arith, one, two, left, size, last, after, here)) in (
      suc (length (take (g + m) x)),
      enough,
      tells
          ∙ ap (λ (more : List ℕ). extended_source more (read_source (suc (length (take (g + m) x))) (behind_longest (take m (drop g x))) Start (take m (drop g x)))) rest
          ∙ ap (λ (xs : List ℕ). extended_source (drop end w) (read_source (suc (length (take (g + m) x))) (behind_longest (take m xs)) Start (take m xs))) place,
    )

-- what is left of what one looks at, and what stands behind that
left_behind : (w : List ℕ) (from end to : ℕ) → from ≤ end → to ≤ length (looked_at w from end) → drop to (looked_at w from end) ++ drop end w ≡ drop (from + to) w
left_behind w from end to order within =
    let few = length-take (end - from) (drop from w) in
    let rest = end - from - to in
    let all : to + rest ≡ end - from = omega (arith, few, within) in
    ap (λ (k : ℕ). drop to (take k (drop from w)) ++ drop end w) (sym all)
    ∙ ap (λ (xs : List ℕ). xs ++ drop end w) (drop-take to rest (drop from w))
    ∙ ap (λ (xs : List ℕ). take rest (drop to (drop from w)) ++ xs) (sym (drop-drop rest to (drop from w) ∙ drop-drop (to + rest) from w ∙ ap (λ (k : ℕ). drop k w) (omega (arith, all, order))))
    ∙ take-append-drop rest (drop to (drop from w))
    ∙ drop-drop to from w

pub statement_here : ReadsSource → (w : List ℕ) (at from end : ℕ) (r : Recognized) (o : SourceResult) → at ≤ from → from ≤ end → end ≤ length w → source_statement (drop at w) ≡ extended_source (drop end w) o → IsRecognizedAs (looked_at w from end) 0 r o → IsStatementHere w at (shifted_by from r)
statement_here reads w at from end (Statement what p to) o after order last tells (some, within, (b, s, is, kind, ends)) = record {
  after = omega (arith, after, some);
  within = (let few = length-take (end - from) (drop from w) in omega (arith, few, within, order, last));
  body = b;
  ending = s;
  is = (reads (drop at w) b s (drop (from + to) w)).0 (tells ∙ ap (extended_source (drop end w)) is ∙ ap (HasStatement b s) (left_behind w from end to order within));
  kind = kind;
  ends = ends;
}
statement_here reads w at from end Nothing o after order last tells is = tt
statement_here reads w at from end (Syntax k) o after order last tells is = tt

pub syntax_here : RefusesSource → (w : List ℕ) (at from end : ℕ) (r : Recognized) (o : SourceResult) → at ≤ from → from ≤ end → end ≤ length w → source_statement (drop at w) ≡ extended_source (drop end w) o → IsRecognizedAs (looked_at w from end) 0 r o → IsSyntaxHere w at (shifted_by from r)
syntax_here refuses w at from end (Syntax k) o after order last tells (some, within, is) = record {
  after = omega (arith, after);
  within = (let few = length-take (end - from) (drop from w) in omega (arith, few, within, order, last));
  is = (refuses (drop at w) (drop (from + k) w)).0 (tells ∙ ap (extended_source (drop end w)) is ∙ ap Unreadable (left_behind w from end k order within));
}
syntax_here refuses w at from end Nothing o after order last tells is = tt
syntax_here refuses w at from end (Statement what p to) o after order last tells is = tt

pub nothing_here : (w : List ℕ) (at from end : ℕ) (r : Recognized) (o : SourceResult) → IsRecognizedAs (looked_at w from end) 0 r o → IsNothingHere w at (shifted_by from r)
nothing_here w at from end Nothing o none = absurd none
nothing_here w at from end (Statement what p to) o is = tt
nothing_here w at from end (Syntax k) o is = tt

pub blank_here : FindsNoSource → (w : List ℕ) (at from : ℕ) → from ≡ length w → drop from w ≡ behind_gap false (drop at w) → IsBlankText (drop at w)
blank_here none w at from end behind =
    let gone : drop from w ≡ [] = drop_of_length-le w {i = from} (omega (arith, end)) in
    (none (drop at w)).0 (ap (λ (here : List ℕ). source_behind here (drop at w)) (sym behind ∙ gone))
