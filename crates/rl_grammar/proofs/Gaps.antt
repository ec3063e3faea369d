-- Blanks and comments in front of a token are passed over.
use Rattle.std.proofs.Common.{◌≡◌, ℕ, Bool, true, false, ◌==◌, List, [], ◌∷◌, ◌++◌, Some, None, refl, ap, ◌∙◌, inl, inr}
use Rattle.std.specs.Option.{IsSome}
use Rattle.std.proofs.lemmas.Bool.{cases_Bool}
use Rattle.rl_tree.specs.Bytes.{is_blank}
use Rattle.rl_text.specs.Gap.{comment_after}
use Rattle.rl_grammar.specs.Lexer.{behind_gap}

-- a byte that stands in no gap
pub record IsSolid (b : ℕ) : Type 0 where
  pub no_blank : is_blank b ≡ false
  pub no_percent : (b == 37) ≡ false

-- the bytes are a gap and these
pub record Behind (inside : Bool) (bytes at : List ℕ) : Type 0 where
  pub gap : List ℕ
  pub is_gap : comment_after inside gap ≡ Some false
  pub is : bytes ≡ gap ++ at

-- a byte more in the gap
more_gap : (inside other : Bool) (b : ℕ) (bs at : List ℕ) → ((gap : List ℕ) → comment_after inside (b ∷ gap) ≡ comment_after other gap) → Behind other bs at → Behind inside (b ∷ bs) at
more_gap inside other b bs at goes more = record {
  gap = b ∷ more.gap;
  is_gap = goes more.gap ∙ more.is_gap;
  is = ap (λ (xs : List ℕ). b ∷ xs) more.is;
}

-- what a solid byte begins stands behind a gap
pub record Solid (bytes : List ℕ) (b : ℕ) (bs : List ℕ) : Type 0 where
  pub behind : Behind false bytes (b ∷ bs)
  pub solid : IsSolid b

record SolidIn (inside : Bool) (bytes : List ℕ) (b : ℕ) (bs : List ℕ) : Type 0 where
  behind : Behind inside bytes (b ∷ bs)
  solid : IsSolid b

one_more : (inside other : Bool) (c : ℕ) (cs : List ℕ) (b : ℕ) (bs : List ℕ) → ((gap : List ℕ) → comment_after inside (c ∷ gap) ≡ comment_after other gap) → SolidIn other cs b bs → SolidIn inside (c ∷ cs) b bs
one_more inside other c cs b bs goes more = record { behind = more_gap inside other c cs (b ∷ bs) goes more.behind; solid = more.solid }

mutual
  found_outside : (bytes : List ℕ) (b : ℕ) (bs : List ℕ) → behind_gap false bytes ≡ b ∷ bs → SolidIn false bytes b bs
  found_outside [] b bs e = absurd cc
  found_outside (c ∷ cs) b bs e = elim (cases_Bool (is_blank c)) [
    | inl blank ↦ one_more false false c cs b bs (λ gap. rw blank refl) (found_outside cs b bs (rw blank at e))
    | inr other ↦ elim (cases_Bool (c == 37)) [
      | inl percent ↦ one_more false true c cs b bs (λ gap. rw (other, percent) refl) (found_inside cs b bs (rw (other, percent) at e))
      | inr neither ↦
          let is : c ∷ cs ≡ b ∷ bs = rw (other, neither) at e in
          let same : c ≡ b = cc in
          record {
            behind = record { gap = []; is_gap = refl; is = is };
            solid = record { no_blank = rw (← same) other; no_percent = rw (← same) neither };
          }
    ]
  ]

  found_inside : (bytes : List ℕ) (b : ℕ) (bs : List ℕ) → behind_gap true bytes ≡ b ∷ bs → SolidIn true bytes b bs
  found_inside [] b bs e = absurd cc
  found_inside (c ∷ cs) b bs e = elim (cases_Bool (c == 10)) [
    | inl line ↦ one_more true false c cs b bs (λ gap. rw line refl) (found_outside cs b bs (rw line at e))
    | inr other ↦ one_more true true c cs b bs (λ gap. rw other refl) (found_inside cs b bs (rw other at e))
  ]

-- what is found behind the gap stands behind a gap
pub found_solid : (bytes : List ℕ) (b : ℕ) (bs : List ℕ) → behind_gap false bytes ≡ b ∷ bs → Solid bytes b bs
found_solid bytes b bs e = let s = found_outside bytes b bs e in record { behind = s.behind; solid = s.solid }

mutual
  passed_outside : (gap : List ℕ) (b : ℕ) (bs : List ℕ) → IsSolid b → comment_after false gap ≡ Some false → behind_gap false (gap ++ b ∷ bs) ≡ b ∷ bs
  passed_outside [] b bs solid e = rw (solid.no_blank, solid.no_percent) refl
  passed_outside (c ∷ cs) b bs solid e = elim (cases_Bool (is_blank c)) [
    | inl blank ↦ rw blank (passed_outside cs b bs solid (rw blank at e))
    | inr other ↦ elim (cases_Bool (c == 37)) [
      | inl percent ↦ rw (other, percent) (passed_inside cs b bs solid (rw (other, percent) at e))
      | inr neither ↦ absurd (let none : None ≡ Some false = rw (other, neither) at e in cc)
    ]
  ]

  passed_inside : (gap : List ℕ) (b : ℕ) (bs : List ℕ) → IsSolid b → comment_after true gap ≡ Some false → behind_gap true (gap ++ b ∷ bs) ≡ b ∷ bs
  passed_inside [] b bs solid e = absurd cc
  passed_inside (c ∷ cs) b bs solid e = elim (cases_Bool (c == 10)) [
    | inl line ↦ rw line (passed_outside cs b bs solid (rw line at e))
    | inr other ↦ rw other (passed_inside cs b bs solid (rw other at e))
  ]

-- a gap is passed over
pub gap_passed : (gap : List ℕ) (b : ℕ) (bs : List ℕ) → IsSolid b → comment_after false gap ≡ Some false → behind_gap false (gap ++ b ∷ bs) ≡ b ∷ bs
gap_passed gap b bs solid e = passed_outside gap b bs solid e

mutual
  none_outside : (bytes : List ℕ) → behind_gap false bytes ≡ [] → IsSome (comment_after false bytes)
  none_outside [] e = refl
  none_outside (c ∷ cs) e = elim (cases_Bool (is_blank c)) [
    | inl blank ↦ rw blank (none_outside cs (rw blank at e))
    | inr other ↦ elim (cases_Bool (c == 37)) [
      | inl percent ↦ rw (other, percent) (none_inside cs (rw (other, percent) at e))
      | inr neither ↦ absurd (let none : c ∷ cs ≡ [] = rw (other, neither) at e in cc)
    ]
  ]

  none_inside : (bytes : List ℕ) → behind_gap true bytes ≡ [] → IsSome (comment_after true bytes)
  none_inside [] e = refl
  none_inside (c ∷ cs) e = elim (cases_Bool (c == 10)) [
    | inl line ↦ rw line (none_outside cs (rw line at e))
    | inr other ↦ rw other (none_inside cs (rw other at e))
  ]

mutual
  blank_outside : (bytes : List ℕ) → IsSome (comment_after false bytes) → behind_gap false bytes ≡ []
  blank_outside [] e = refl
  blank_outside (c ∷ cs) e = elim (cases_Bool (is_blank c)) [
    | inl blank ↦ rw blank (blank_outside cs (rw blank at e))
    | inr other ↦ elim (cases_Bool (c == 37)) [
      | inl percent ↦ rw (other, percent) (blank_inside cs (rw (other, percent) at e))
      | inr neither ↦ absurd (let some : false ≡ true = rw (other, neither) at e in cc)
    ]
  ]

  blank_inside : (bytes : List ℕ) → IsSome (comment_after true bytes) → behind_gap true bytes ≡ []
  blank_inside [] e = refl
  blank_inside (c ∷ cs) e = elim (cases_Bool (c == 10)) [
    | inl line ↦ rw line (blank_outside cs (rw line at e))
    | inr other ↦ rw other (blank_inside cs (rw other at e))
  ]

-- nothing is behind the gap exactly where all is blank
pub none_is_blank : (bytes : List ℕ) → behind_gap false bytes ≡ [] → IsSome (comment_after false bytes)
none_is_blank bytes e = none_outside bytes e

pub blank_is_none : (bytes : List ℕ) → IsSome (comment_after false bytes) → behind_gap false bytes ≡ []
blank_is_none bytes e = blank_outside bytes e

-- a solid byte is not blank
pub solid_is_some : (b : ℕ) (bs : List ℕ) → IsSolid b → IsSome (comment_after false (b ∷ bs)) → ⊥
solid_is_some b bs solid e = let some : false ≡ true = rw (solid.no_blank, solid.no_percent) at e in absurd cc

-- before a solid byte stands no gap
pub solid_no_gap : (b : ℕ) (bs gap at : List ℕ) → IsSolid b → comment_after false gap ≡ Some false → b ∷ bs ≡ gap ++ at → gap ≡ []
solid_no_gap b bs [] at solid e is = refl
solid_no_gap b bs (c ∷ cs) at solid e is = absurd (let same : b ≡ c = cc in let none : None ≡ Some false = rw (← same, solid.no_blank, solid.no_percent) at e in cc)
