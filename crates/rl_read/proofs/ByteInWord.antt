-- What a byte's step comes to, by the word in which it stands.
use Rattle.std.proofs.Common.{◌≡◌, ◌≢◌, ℕ, ◌≤◌, ◌<◌, Bool, List, [], ◌∷◌, ◌++◌, length, nat_lt, true, false, refl, ap, ◌∙◌, arith}
use Rattle.std.proofs.lemmas.Bool.Decides.{nat_tests}
use Rattle.rl_tags.specs.Tagged.{Tagged}
use Rattle.rl_world.specs.declared.stop.Stop.{Stop}
use Rattle.std.proofs.lemmas.Bool.{ne_eqb}
use Rattle.rl_tree.specs.Bytes.{is_digit, is_name_byte, raised}
use Rattle.rl_text.specs.Reader.{ReaderFrame}
use Rattle.rl_text.specs.Reader as reader
use Rattle.rl_text.specs.Word as word
use Rattle.rl_read.specs.Stock.{Stock, PairChain, in_stock}
use Rattle.rl_read.specs.Steps.{is_digits_mode, is_text_mode, mode_of, word_atom}
use Rattle.rl_read.specs.declared.word.Mode.{Mode}
use Rattle.rl_read.specs.declared.word.Mode.TheVariants as mode

-- where an atom before a byte has ended inside something, the byte stands in a gap there
pub inside_before : (t : Bool) (b : ℕ) (a : word.Atom) (fs inner : List (ReaderFrame PairChain)) (k made : Stock) → reader.atom_ended (in_stock t) a fs k ≡ reader.Inside inner made → reader.atom_before (in_stock t) a b fs k ≡ reader.at_gap (in_stock t) b inner made
inside_before t b a fs inner k made e = ap (λ x. reader.goes_before (in_stock t) b x) e

-- a word that may have so many bytes takes one more
pub grown_goes : (most : ℕ) (bytes : List ℕ) (m : reader.Mode) (fs : List (ReaderFrame PairChain)) (k : Stock) → length bytes < most → reader.grown_to {V = Tagged} {W = Stop} most bytes m fs k ≡ reader.Goes m fs k
grown_goes most bytes m fs k l = let more : nat_lt (length bytes) most ≡ true = grind (arith, nat_tests) in rw more refl

-- and no more than so many
pub grown_refused : (most : ℕ) (bytes : List ℕ) (m : reader.Mode) (fs : List (ReaderFrame PairChain)) (k : Stock) → most ≤ length bytes → reader.grown_to {V = Tagged} {W = Stop} most bytes m fs k ≡ reader.Refuses k
grown_refused most bytes m fs k l = let full : nat_lt (length bytes) most ≡ false = grind (arith, nat_tests) in rw full refl

-- a byte of a name goes on with it
pub name_goes : (t : Bool) (b : ℕ) (bytes : List ℕ) (fs : List (ReaderFrame PairChain)) (k : Stock) → is_name_byte b ≡ true → reader.reader_step (in_stock t) (reader.InName bytes) b fs k ≡ reader.grown_to 255 bytes (reader.InName (bytes ++ raised b ∷ [])) fs k
name_goes t b bytes fs k is = rw is refl

-- a name ends before a byte that neither goes on with it nor is `!`
pub name_before : (t : Bool) (b : ℕ) (bytes : List ℕ) (fs : List (ReaderFrame PairChain)) (k : Stock) → is_name_byte b ≡ false → b ≢ 33 → reader.reader_step (in_stock t) (reader.InName bytes) b fs k ≡ reader.atom_before (in_stock t) (word.Identifier bytes) b fs k
name_before t b bytes fs k other plain = rw (other, ne_eqb b 33 plain) refl

-- a sign and a number end before a byte that is no digit
pub digits_before : (t : Bool) (m : Mode) (b : ℕ) (bytes : List ℕ) (fs : List (ReaderFrame PairChain)) (k : Stock) → is_digits_mode m ≡ true → is_digit b ≡ false → reader.reader_step (in_stock t) (mode_of m bytes) b fs k ≡ reader.atom_before (in_stock t) (word_atom m bytes) b fs k
digits_before t mode.Gap b bytes fs k is other = cc
digits_before t mode.Comment b bytes fs k is other = cc
digits_before t mode.Name b bytes fs k is other = cc
digits_before t mode.Escape b bytes fs k is other = cc
digits_before t (mode.Sign c) b bytes fs k is other = rw other refl
digits_before t (mode.Number minus n) b bytes fs k is other = rw other refl
digits_before t mode.Text b bytes fs k is other = cc
digits_before t mode.Quote b bytes fs k is other = cc

-- what is neither a sign nor a number has no digits
pub none_else_digits : (m : Mode) → is_digits_mode m ≡ true → ((c : ℕ) → m ≡ mode.Sign c → ⊥) → ((minus : Bool) (n : ℕ) → m ≡ mode.Number minus n → ⊥) → ⊥
none_else_digits mode.Gap is sign number = cc
none_else_digits mode.Comment is sign number = cc
none_else_digits mode.Name is sign number = cc
none_else_digits mode.Escape is sign number = cc
none_else_digits (mode.Sign c) is sign number = sign c refl
none_else_digits (mode.Number minus n) is sign number = number minus n refl
none_else_digits mode.Text is sign number = cc
none_else_digits mode.Quote is sign number = cc

-- what is of a string and is not inside it stands behind a `"`
pub quote_else : (m : Mode) → is_text_mode m ≡ true → m ≢ mode.Text → m ≡ mode.Quote
quote_else mode.Gap is not = cc
quote_else mode.Comment is not = cc
quote_else mode.Name is not = cc
quote_else mode.Escape is not = cc
quote_else (mode.Sign c) is not = cc
quote_else (mode.Number minus n) is not = cc
quote_else mode.Text is not = absurd (not refl)
quote_else mode.Quote is not = refl

-- a string ends before a byte that is no `"`
pub text_before : (t : Bool) (m : Mode) (b : ℕ) (bytes : List ℕ) (fs : List (ReaderFrame PairChain)) (k : Stock) → m ≡ mode.Quote → b ≢ 34 → reader.reader_step (in_stock t) (mode_of m bytes) b fs k ≡ reader.atom_before (in_stock t) (word.String bytes) b fs k
text_before t m b bytes fs k is other = ap (λ (m : Mode). reader.reader_step (in_stock t) (mode_of m bytes) b fs k) is ∙ rw (ne_eqb b 34 other) refl

-- and goes on with it
pub text_goes : (t : Bool) (b : ℕ) (bytes : List ℕ) (fs : List (ReaderFrame PairChain)) (k : Stock) → b ≢ 34 → reader.reader_step (in_stock t) (reader.InText bytes) b fs k ≡ reader.grown_to 65535 bytes (reader.InText (bytes ++ b ∷ [])) fs k
text_goes t b bytes fs k other = rw (ne_eqb b 34 other) refl

-- of two `"` one is a byte of the string
pub quote_goes : (t : Bool) (m : Mode) (b : ℕ) (bytes : List ℕ) (fs : List (ReaderFrame PairChain)) (k : Stock) → m ≡ mode.Quote → b ≡ 34 → reader.reader_step (in_stock t) (mode_of m bytes) b fs k ≡ reader.grown_to 65535 bytes (reader.InText (bytes ++ b ∷ [])) fs k
quote_goes t m b bytes fs k is two = rw (is, two) refl
