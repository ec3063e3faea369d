-- What may stand between spellings: blanks, and comments, each from `%` to the end of its line.
use Rattle.std.specs.Prelude.{◌≡◌, ℕ, Bool, true, false, ◌==◌, if◌then◌else◌, List, [], ◌∷◌, Option, Some, None, IsSome}
use Rattle.rl_tree.specs.Bytes.{is_blank}

-- whether the bytes end in a comment, where they begin in one or not; None where anything else is among them
abbrev pub comment_after : Bool → List ℕ → Option Bool
comment_after inside [] = Some inside
comment_after true (b ∷ bs) = if b == 10 then comment_after false bs else comment_after true bs
comment_after false (b ∷ bs) = if is_blank b then comment_after false bs else (if b == 37 then comment_after true bs else None)

-- blanks and whole comments
abbrev pub IsGap : List ℕ → Type 0
IsGap bytes = comment_after false bytes ≡ Some false

-- nothing but blanks and comments, of which the last may have no end of line
abbrev pub IsBlankText : List ℕ → Type 0
IsBlankText bytes = IsSome (comment_after false bytes)
