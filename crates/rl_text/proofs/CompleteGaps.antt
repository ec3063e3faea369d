-- What reading does at the end of an element, at a byte between spellings, and in a gap.
use Rattle.std.proofs.Common.{◌≡◌, ℕ, true, false, ◌==◌, List, [], ◌∷◌, ◌++◌, Some, None, refl, ap, ◌∙◌, inl, inr, eqb-true}
use Rattle.std.proofs.lemmas.Bool.{cases_Bool, cond-true, cond-false}
use Rattle.rl_tree.specs.Bytes.{is_blank}
use Rattle.rl_text.specs.Byte.{Class, Blank, Percent, class_of}
use Rattle.rl_text.specs.Datum.{Datum, quoted}
use Rattle.rl_text.specs.Gap.{comment_after}
use Rattle.rl_text.specs.Reader.{Dotted, ReaderFrame, Listing, Vectoring, Quoting, Mode, Gap, Comment, Ended, Whole, Inside, Lacks, value_ended, goes_after, goes_before, at_class, ReaderOutcome, Read, Stopped, ends_after, after_step, read_from}
use Rattle.rl_text.specs.Reading.{Items, plain}
use Rattle.rl_text.proofs.Classes.{blank_class}

-- what has begun where data are made
abbrev pub Frames : Type 0
Frames = List (ReaderFrame Items)

-- how an element ends where data are made
abbrev pub PlainEnded : Type 0
PlainEnded = Ended (Unit {0}) Datum Items ⊥

-- what is read where data are made
abbrev pub PlainOutcome : Type 0
PlainOutcome = ReaderOutcome (Unit {0}) Datum ⊥

-- reading goes on with these bytes
abbrev pub from : Mode → Frames → List ℕ → PlainOutcome
from mode fs bytes = read_from plain mode fs tt bytes

-- reading goes on behind an element that has ended
abbrev pub after_ended : PlainEnded → List ℕ → PlainOutcome
after_ended (Whole v s) rest = Read v s rest
after_ended (Inside fs s) rest = read_from plain Gap fs s rest
after_ended (Lacks w s) rest = Stopped w s rest

-- how an element ends with this datum
abbrev pub ending : Datum → Frames → PlainEnded
ending v fs = value_ended plain v fs tt

-- reading goes on behind an element that is this datum
abbrev pub after_value : Datum → Frames → List ℕ → PlainOutcome
after_value v fs rest = after_ended (ending v fs) rest

-- an element that ends before a byte leaves that byte
pub ended_before : (e : PlainEnded) (b : ℕ) (bs : List ℕ) → after_step b bs (goes_before plain b e) (λ mode fs s. read_from plain mode fs s bs) ≡ after_ended e (b ∷ bs)
ended_before (Whole v s) b bs = refl
ended_before (Inside fs s) b bs = refl
ended_before (Lacks w s) b bs = absurd w

-- one that ends with a byte leaves those behind it
pub ended_after : (e : PlainEnded) (b : ℕ) (bs : List ℕ) → after_step b bs (goes_after e) (λ mode fs s. read_from plain mode fs s bs) ≡ after_ended e bs
ended_after (Whole v s) b bs = refl
ended_after (Inside fs s) b bs = refl
ended_after (Lacks w s) b bs = absurd w

-- one that ends with the text leaves nothing
pub ended_at_end : (v : Datum) (fs : Frames) → ends_after (ending v fs) ≡ after_value v fs []
ended_at_end v [] = refl
ended_at_end v (Quoting ∷ fs) = ended_at_end (quoted v) fs
ended_at_end v (Vectoring l ∷ fs) = refl
ended_at_end v (Listing l n Dotted ∷ fs) = refl
ended_at_end v (Listing l n phase ∷ fs) = refl

-- ---- between spellings

-- reading goes on with a byte by its class
abbrev pub after_class : Class → ℕ → List ℕ → Frames → PlainOutcome
after_class c b bs fs = after_step b bs (at_class plain c b fs tt) (λ mode fs s. read_from plain mode fs s bs)

-- a byte between spellings is read by its class
pub by_class : (b : ℕ) (bs : List ℕ) (fs : Frames) (c : Class) → class_of b ≡ c → from Gap fs (b ∷ bs) ≡ after_class c b bs fs
by_class b bs fs c e = ap (λ c. after_class c b bs fs) e

-- `%` is of the class of what begins a comment
percent_class : (b : ℕ) → (b == 37) ≡ true → class_of b ≡ Percent
percent_class b e = rw (eqb-true b 37 e) refl

mutual
  -- blanks and whole comments are skipped
  pub gap_skipped : (fs : Frames) (gap rest : List ℕ) → comment_after false gap ≡ Some false → from Gap fs (gap ++ rest) ≡ from Gap fs rest
  gap_skipped fs [] rest e = refl
  gap_skipped fs (b ∷ bs) rest e = elim (cases_Bool (is_blank b)) [
    | inl blank ↦ by_class b (bs ++ rest) fs Blank (blank_class b blank) ∙ gap_skipped fs bs rest (rw blank at e)
    | inr other ↦ elim (cases_Bool (b == 37)) [
      | inl percent ↦ by_class b (bs ++ rest) fs Percent (percent_class b percent) ∙ comment_skipped fs bs rest (rw (other, percent) at e)
      | inr neither ↦ absurd (let none : None ≡ Some false = rw (other, neither) at e in cc)
    ]
  ]

  -- the rest of a comment and what follows it are skipped
  comment_skipped : (fs : Frames) (gap rest : List ℕ) → comment_after true gap ≡ Some false → from Comment fs (gap ++ rest) ≡ from Gap fs rest
  comment_skipped fs [] rest e = absurd cc
  comment_skipped fs (b ∷ bs) rest e = elim (cases_Bool (b == 10)) [
    | inl line ↦ ap (λ mode. from mode fs (bs ++ rest)) (cond-true (b == 10) Gap Comment line) ∙ gap_skipped fs bs rest (rw line at e)
    | inr inside ↦ ap (λ mode. from mode fs (bs ++ rest)) (cond-false (b == 10) Gap Comment inside) ∙ comment_skipped fs bs rest (rw inside at e)
  ]
