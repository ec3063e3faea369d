-- Where a byte has no place in a token, what is left from it on is the end of the bytes.
use Rattle.std.proofs.Common.{◌≡◌, ℕ, suc, ◌+◌, ◌≤◌, Bool, true, false, ◌==◌, List, [], ◌∷◌, length, drop, Option, Some, None, refl, ap, sym, ◌∙◌, subst, inl, inr, arith, length-drop, drop-drop, drop_of_length-le, nat_le}
use Rattle.std.specs.Prelude.{if◌then◌else◌}
use Rattle.std.proofs.lemmas.Bool.{cond-true, cond-false, cases_Bool, leb-true, leb-false}
use Rattle.rl_tree.specs.Bytes.{is_blank}
use Rattle.rl_text.specs.Reading.{Reading, Found, NoText, Unreadable, reading}
use Rattle.rl_grammar.specs.Token.{Token}
use Rattle.rl_grammar.specs.Written.{short_mark, long_mark}
use Rattle.rl_grammar.specs.Lexer.{behind_gap, Lexed, Lexes, Bad, begins_spelling, before_rest, token_read, lexed_or_bad, lexed_spelling, lexed_long, lexed_mark, lexed, Stops, first_token_of, first_behind, first_token}

-- the rest is the bytes from some place on
abbrev pub IsEndOf : List ℕ → List ℕ → Type 0
IsEndOf bytes rest = (j : ℕ) × (j ≤ length bytes) × (rest ≡ drop j bytes)

all_of : (bytes : List ℕ) → IsEndOf bytes bytes
all_of bytes = (0, omega arith, refl)

none_of : (bytes : List ℕ) → IsEndOf bytes []
none_of bytes = (length bytes, omega arith, sym (drop_of_length-le bytes (omega arith)))

end_behind : (b : ℕ) (bytes rest : List ℕ) → IsEndOf bytes rest → IsEndOf (b ∷ bytes) rest
end_behind b bytes rest is = (suc is.0, let few = is.1 in omega (arith, few), is.2)

further_end : (bytes from rest : List ℕ) → IsEndOf bytes from → IsEndOf from rest → IsEndOf bytes rest
further_end bytes from rest one other =
    let left = ap length one.2 ∙ length-drop one.0 bytes in
    (one.0 + other.0, let few = one.1 in let more = other.1 in omega (arith, left, few, more), other.2 ∙ ap (drop other.0) one.2 ∙ drop-drop other.0 one.0 bytes)

end_at : (bytes : List ℕ) (k : ℕ) → IsEndOf bytes (drop k bytes)
end_at bytes k = elim (cases_Bool (nat_le k (length bytes))) [
  | inl within ↦ (k, leb-true k (length bytes) within, refl)
  | inr past ↦ (length bytes, omega arith, let many = leb-false k (length bytes) past in drop_of_length-le bytes {i = k} (omega (arith, many)) ∙ sym (drop_of_length-le bytes (omega arith)))
]

abbrev BadIsEnd : List ℕ → Lexed → Type 0
BadIsEnd bytes l = (from : List ℕ) → l ≡ Bad from → IsEndOf bytes from

bad_end : (bytes end : List ℕ) → IsEndOf bytes end → BadIsEnd bytes (Bad end)
bad_end bytes end is from e = let same : end ≡ from = cc in subst (λ (xs : List ℕ). IsEndOf bytes xs) same is

or_bad_end : (bytes : List ℕ) (found : Option Token) (rest : List ℕ) → BadIsEnd bytes (lexed_or_bad bytes found rest)
or_bad_end bytes (Some token) rest from e = absurd cc
or_bad_end bytes None rest from e = bad_end bytes bytes (all_of bytes) from e

spelling_end : (bytes : List ℕ) (r : Reading) → BadIsEnd bytes (lexed_spelling bytes r)
spelling_end bytes (Found d rest) from e = or_bad_end bytes (token_read (before_rest bytes rest) d) rest from e
spelling_end bytes NoText from e = bad_end bytes [] (none_of bytes) from e
spelling_end bytes (Unreadable k) from e = bad_end bytes (drop k bytes) (end_at bytes k) from e

long_end : (b c : ℕ) (rest : List ℕ) (found : Option Token) → BadIsEnd (b ∷ c ∷ rest) (lexed_long b c rest found)
long_end b c rest (Some token) from e = absurd cc
long_end b c rest None from e = or_bad_end (b ∷ c ∷ rest) (short_mark b) (c ∷ rest) from e

mark_end : (b : ℕ) (bs : List ℕ) → BadIsEnd (b ∷ bs) (lexed_mark b bs)
mark_end b [] from e = or_bad_end (b ∷ []) (short_mark b) [] from e
mark_end b (c ∷ rest) from e = long_end b c rest (long_mark b c) from e

lexed_end : (b : ℕ) (bs : List ℕ) → BadIsEnd (b ∷ bs) (lexed b bs)
lexed_end b bs from e = elim (cases_Bool (begins_spelling b)) [
  | inl spelling ↦ spelling_end (b ∷ bs) (reading (b ∷ bs)) from (sym (cond-true (begins_spelling b) _ _ spelling) ∙ e)
  | inr mark ↦ mark_end b bs from (sym (cond-false (begins_spelling b) _ _ mark) ∙ e)
]

stopped_end : (bytes from : List ℕ) (l : Lexed) → first_token_of bytes l ≡ Stops from → BadIsEnd bytes l → IsEndOf bytes from
stopped_end bytes from (Lexes token rest) e ends = absurd cc
stopped_end bytes from (Bad here) e ends = ends from (let same : here ≡ from = cc in ap Bad same)

behind_end : (here from : List ℕ) → first_behind here ≡ Stops from → IsEndOf here from
behind_end [] from e = absurd cc
behind_end (b ∷ bs) from e = stopped_end (b ∷ bs) from (lexed b bs) e (lexed_end b bs)

gap_same : (c : Bool) (bytes first second : List ℕ) → IsEndOf bytes first → IsEndOf bytes second → IsEndOf bytes (if c then first else second)
gap_same true bytes first second one other = one
gap_same false bytes first second one other = other

gap_end : (inside : Bool) (bytes : List ℕ) → IsEndOf bytes (behind_gap inside bytes)
gap_end true [] = all_of []
gap_end false [] = all_of []
gap_end true (b ∷ bs) = gap_same (b == 10) (b ∷ bs) _ _ (end_behind b bs _ (gap_end false bs)) (end_behind b bs _ (gap_end true bs))
gap_end false (b ∷ bs) =
    gap_same (is_blank b) (b ∷ bs) _ _ (end_behind b bs _ (gap_end false bs))
    (gap_same (b == 37) (b ∷ bs) _ _ (end_behind b bs _ (gap_end true bs)) (all_of (b ∷ bs)))

pub stops_at : (bytes from : List ℕ) → first_token bytes ≡ Stops from → IsEndOf bytes from
stops_at bytes from e = further_end bytes (behind_gap false bytes) from (gap_end false bytes) (behind_end (behind_gap false bytes) from e)
