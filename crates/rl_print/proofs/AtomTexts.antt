-- What is left of an atom's text, behind the byte that comes next.
use Rattle.std.proofs.Common.{◌≡◌, ◌≢◌, ℕ, ◌+◌, ◌<◌, ◌≤◌, ◌==◌, false, List, [], ◌∷◌, ◌++◌, length, drop, slice_get, Option, None, Some, refl, sym, ap, ◌∙◌, append_assoc, arith}
use Rattle.std.proofs.lemmas.Bool.Decides.{nat_tests}
use Rattle.std.proofs.lemmas.List.{drop_all, drop_more}
use Rattle.std.proofs.lemmas.Option.{get_or_from_slice_get, slice_get-get_or, slice_get_within}
use Rattle.rl_tags.specs.Tagged.{Tagged, IdAt, StrAt, tag_of}
use Rattle.rl_tags.specs.declared.Tag.TheVariants as tag
use Rattle.rl_cells.specs.Cell.{Cell}
use Rattle.rl_syms.specs.Numbers.{numbered_name}
use Rattle.rl_syms.specs.Contents.{value_of}
use Rattle.rl_tree.specs.Atoms.{doubled, escaped}
use Rattle.rl_print.specs.AtomText.{pending_text, plain_text, quoted_from, text_from, text_left}
use Rattle.rl_print.specs.declared.atom.AtomText.{AtomText}
use Rattle.rl_print.specs.declared.atom.Style.{Style}
use Rattle.rl_print.specs.declared.atom.Style.TheVariants.{Prin1, Prin2}

drop_read : (xs : List ℕ) (n b : ℕ) → slice_get xs n ≡ Some b → drop n xs ≡ b ∷ drop (n + 1) xs
drop_read xs n b e = drop_more xs n b (slice_get_within xs n b e) ∙ ap (λ x. x ∷ drop (n + 1) xs) (get_or_from_slice_get xs n b b e)

length_le : (xs : List ℕ) (n : ℕ) → slice_get xs n ≡ None → length xs ≤ n
length_le xs n e = grind (arith, slice_get-get_or xs n 0)

drop_past : (xs : List ℕ) (n : ℕ) → slice_get xs n ≡ None → drop n xs ≡ []
drop_past xs n e = drop_all n xs (length_le xs n e)

-- ---- a byte of a string

quoted_within : (bytes : List ℕ) (n : ℕ) → n ≤ length bytes → quoted_from n bytes ≡ doubled (drop n bytes) ++ 34 ∷ []
quoted_within bytes n h = grind (arith, nat_tests)

quoted_past : (bytes : List ℕ) (n : ℕ) → length bytes < n → quoted_from n bytes ≡ []
quoted_past bytes n h = grind (arith, nat_tests)

quoted_read : (bytes : List ℕ) (n b r : ℕ) (p : Option ℕ) → ((bs : List ℕ) → doubled (b ∷ bs) ≡ r ∷ (pending_text p ++ doubled bs)) → slice_get bytes n ≡ Some b → quoted_from n bytes ≡ r ∷ (pending_text p ++ quoted_from (n + 1) bytes)
quoted_read bytes n b r p gives e =
    let h : n < length bytes = slice_get_within bytes n b e in
    quoted_within bytes n (omega arith)
    ∙ ap (λ xs. doubled xs ++ 34 ∷ []) (drop_read bytes n b e)
    ∙ ap (λ xs. xs ++ 34 ∷ []) (gives (drop (n + 1) bytes))
    ∙ ap (λ xs. r ∷ xs) (append_assoc (pending_text p) (doubled (drop (n + 1) bytes)) (34 ∷ []))
    ∙ ap (λ xs. r ∷ (pending_text p ++ xs)) (sym (quoted_within bytes (n + 1) (omega arith)))

-- ---- a byte of a name

later_byte : (n : ℕ) → (n + 1 == 0) ≡ false
later_byte n = grind (arith, nat_tests)

escaped_read : (name : List ℕ) (n b r : ℕ) (p : Option ℕ) → ((bs : List ℕ) → escaped (n == 0) (b ∷ bs) ≡ r ∷ (pending_text p ++ escaped false bs)) → slice_get name n ≡ Some b → escaped (n == 0) (drop n name) ≡ r ∷ (pending_text p ++ escaped (n + 1 == 0) (drop (n + 1) name))
escaped_read name n b r p gives e =
    ap (escaped (n == 0)) (drop_read name n b e)
    ∙ gives (drop (n + 1) name)
    ∙ ap (λ first. r ∷ (pending_text p ++ escaped first (drop (n + 1) name))) (sym (later_byte n))

-- ---- a byte of an atom

string_read : (cells : List Cell) (s : Style) (a : Tagged) (n b r : ℕ) (q p : Option ℕ) → s ≡ Prin1 → tag_of a ≡ tag.Str → q ≡ None → ((bs : List ℕ) → doubled (b ∷ bs) ≡ r ∷ (pending_text p ++ doubled bs)) → slice_get (plain_text cells a) n ≡ Some b → pending_text q ++ text_from n s (numbered_name cells) (value_of cells a) ≡ r ∷ (pending_text p ++ text_from (n + 1) s (numbered_name cells) (value_of cells a))
string_read cells Prin1 (StrAt k) n b r None p es ea eq gives e = quoted_read (plain_text cells (StrAt k)) n b r p gives e
string_read cells Prin1 (StrAt k) n b r (Some x) p es ea eq gives e = cc
string_read cells Prin1 a n b r q p es ea eq gives e = cc
string_read cells Prin2 a n b r q p es ea eq gives e = cc

name_read : (cells : List Cell) (s : Style) (a : Tagged) (n b r : ℕ) (q p : Option ℕ) → s ≡ Prin1 → tag_of a ≡ tag.Id → q ≡ None → ((bs : List ℕ) → escaped (n == 0) (b ∷ bs) ≡ r ∷ (pending_text p ++ escaped false bs)) → slice_get (plain_text cells a) n ≡ Some b → pending_text q ++ text_from n s (numbered_name cells) (value_of cells a) ≡ r ∷ (pending_text p ++ text_from (n + 1) s (numbered_name cells) (value_of cells a))
name_read cells Prin1 (IdAt k) n b r None p es ea eq gives e = escaped_read (plain_text cells (IdAt k)) n b r p gives e
name_read cells Prin1 (IdAt k) n b r (Some x) p es ea eq gives e = cc
name_read cells Prin1 a n b r q p es ea eq gives e = cc
name_read cells Prin2 a n b r q p es ea eq gives e = cc

-- by PRIN2, and by PRIN1 where no byte is written as two
plain_from : (cells : List Cell) (s : Style) (a : Tagged) (n : ℕ) → (s ≡ Prin1 → (tag_of a ≢ tag.Id) × (tag_of a ≢ tag.Str)) → text_from n s (numbered_name cells) (value_of cells a) ≡ drop n (plain_text cells a)
plain_from cells Prin1 (IdAt k) n plain = absurd ((plain refl).0 refl)
plain_from cells Prin1 (StrAt k) n plain = absurd ((plain refl).1 refl)
plain_from cells Prin1 a n plain = refl
plain_from cells Prin2 a n plain = refl

pub gives_plain : (cells : List Cell) (t : AtomText) (b : ℕ) → (t.style ≡ Prin1 → (tag_of t.atom ≢ tag.Id) × (tag_of t.atom ≢ tag.Str)) → t.pending ≡ None → slice_get (plain_text cells t.atom) t.at ≡ Some b → text_left cells t ≡ b ∷ text_left cells (record t { at = t.at + 1 })
gives_plain cells t b plain none e =
    rw none (plain_from cells t.style t.atom t.at plain ∙ drop_read (plain_text cells t.atom) t.at b e ∙ ap (λ xs. b ∷ xs) (sym (plain_from cells t.style t.atom (t.at + 1) plain)))

pub gives_string : (cells : List Cell) (t new : AtomText) (b r : ℕ) → t.style ≡ Prin1 → tag_of t.atom ≡ tag.Str → t.pending ≡ None → ((bs : List ℕ) → doubled (b ∷ bs) ≡ r ∷ (pending_text new.pending ++ doubled bs)) → new ≡ record t { at = t.at + 1; pending = new.pending } → slice_get (plain_text cells t.atom) t.at ≡ Some b → text_left cells t ≡ r ∷ text_left cells new
gives_string cells t new b r es ea eq gives moves e = rw moves (string_read cells t.style t.atom t.at b r t.pending new.pending es ea eq gives e)

pub gives_name : (cells : List Cell) (t new : AtomText) (b r : ℕ) → t.style ≡ Prin1 → tag_of t.atom ≡ tag.Id → t.pending ≡ None → ((bs : List ℕ) → escaped (t.at == 0) (b ∷ bs) ≡ r ∷ (pending_text new.pending ++ escaped false bs)) → new ≡ record t { at = t.at + 1; pending = new.pending } → slice_get (plain_text cells t.atom) t.at ≡ Some b → text_left cells t ≡ r ∷ text_left cells new
gives_name cells t new b r es ea eq gives moves e = rw moves (name_read cells t.style t.atom t.at b r t.pending new.pending es ea eq gives e)

-- ---- the end of an atom

from_past : (cells : List Cell) (s : Style) (a : Tagged) (n : ℕ) → (s ≡ Prin1 → tag_of a ≢ tag.Str) → slice_get (plain_text cells a) n ≡ None → text_from n s (numbered_name cells) (value_of cells a) ≡ []
from_past cells Prin1 (StrAt k) n plain e = absurd (plain refl refl)
from_past cells Prin1 (IdAt k) n plain e = ap (escaped (n == 0)) (drop_past (plain_text cells (IdAt k)) n e)
from_past cells Prin1 a n plain e = drop_past (plain_text cells a) n e
from_past cells Prin2 a n plain e = drop_past (plain_text cells a) n e

-- nothing is left, where no quote is to close it
pub none_left : (cells : List Cell) (t : AtomText) → (t.style ≡ Prin1 → tag_of t.atom ≢ tag.Str) → t.pending ≡ None → slice_get (plain_text cells t.atom) t.at ≡ None → text_left cells t ≡ []
none_left cells t plain none e = rw none (from_past cells t.style t.atom t.at plain e)
