-- The forms of a text: how the data that it spells are found, one after another.
use Rattle.std.proofs.Common.{◌≡◌, ℕ, zero, suc, ◌<◌, ◌≤◌, ◌==◌, Bool, true, false, List, [], ◌∷◌, ◌++◌, length, Option, Some, None, refl, ap, ◌∙◌, arith, inl, inr}
use Rattle.std.specs.Prelude.{option_map}
use Rattle.std.specs.Option.{IsSome}
use Rattle.std.proofs.lemmas.List.{length-append}
use Rattle.std.proofs.lemmas.Bool.{cases_Bool, cond-true}
use Rattle.std.proofs.Common.{eqb-true}
use Rattle.rl_tree.specs.Bytes.{is_blank}
use Rattle.rl_text.specs.Byte.{Open, Close, Quote, OpenVector, Blank, Percent, class_of}
use Rattle.rl_text.specs.Datum.{Datum}
use Rattle.rl_text.specs.Gap.{comment_after, IsBlankText}
use Rattle.rl_text.specs.Word.{Word, Number, Named, Single, Text, Plain, Escaped, Character, word_text, character_text, IsWord}
use Rattle.rl_text.specs.Word as word
use Rattle.rl_text.specs.Spelling.{LispToken, Sign, Spelled, token_text, IsToken, AreTokens, IsSpelled, Spelling, Atom, Quoted, Empty, Listed, Vectored, tokens_of, rest_tokens, places_tokens}
use Rattle.rl_text.specs.Laws.{FindsSpelled, FindsNone}
use Rattle.rl_text.specs.Reader.{Gap, Comment, Mode, NoneLeft, read_from, read_by}
use Rattle.rl_text.specs.Reading.{Reading, Found, NoText, Unreadable, reading}
use Rattle.rl_read.specs.Stock.{Stock, in_stock}
use Rattle.rl_forms.specs.Meaning.{AreSpelled, data_after, data_within, data_in}

-- ---- a spelling has a byte

sign_some : (sign : word.Sign) (digits : List ℕ) → 0 < length digits → 0 < length (word_text (Number sign digits))
sign_some word.Unsigned digits h = h
sign_some word.Plus digits h = omega arith
sign_some word.Minus digits h = omega arith

named_some : (cs : List Character) → word.are_name_characters cs ≡ true → 0 < length (word_text (Named cs))
named_some [] h = absurd (cc)
named_some (Plain b ∷ cs) h = omega arith
named_some (Escaped b ∷ cs) h = omega arith

token_some : (token : LispToken) → IsToken token → 0 < length (token_text token)
token_some (Sign mark) h = omega arith
token_some (Spelled (Number sign digits)) h = sign_some sign digits h.some
token_some (Spelled (Named cs)) h = named_some cs h.name
token_some (Spelled (Single b)) h = omega arith
token_some (Spelled (Text bytes)) h = omega arith

front_shorter : (gap text rest : List ℕ) → 0 < length text → length rest < length (gap ++ (text ++ rest))
front_shorter gap text rest some = omega (arith, length-append gap (text ++ rest), length-append text rest)

tokens_shorter : (tokens : List LispToken) (bytes rest : List ℕ) → AreTokens tokens bytes rest → length rest ≤ length bytes
tokens_shorter [] bytes rest h = omega (arith, ap length h)
tokens_shorter (token ∷ tokens) bytes rest h =
    let more = tokens_shorter tokens h.0 rest h.2 in
    let less : length h.0 < length bytes = rw h.1.is (front_shorter h.1.gap (token_text token) h.0 (token_some token h.1.token_is)) in
    omega (arith, more, less)

some_shorter : (token : LispToken) (tokens : List LispToken) (bytes rest : List ℕ) → AreTokens (token ∷ tokens) bytes rest → length rest < length bytes
some_shorter token tokens bytes rest h =
    let more = tokens_shorter tokens h.0 rest h.2 in
    let less : length h.0 < length bytes = rw h.1.is (front_shorter h.1.gap (token_text token) h.0 (token_some token h.1.token_is)) in
    omega (arith, more, less)

spelling_shorter : (s : Spelling) (bytes rest : List ℕ) → AreTokens (tokens_of s) bytes rest → length rest < length bytes
spelling_shorter (Atom w) bytes rest h = some_shorter (Spelled w) [] bytes rest h
spelling_shorter (Quoted e) bytes rest h = some_shorter (Sign Quote) (tokens_of e) bytes rest h
spelling_shorter Empty bytes rest h = some_shorter (Sign Open) (Sign Close ∷ []) bytes rest h
spelling_shorter (Listed e more) bytes rest h = some_shorter (Sign Open) (tokens_of e ++ rest_tokens more) bytes rest h
spelling_shorter (Vectored places) bytes rest h = some_shorter (Sign OpenVector) (places_tokens places) bytes rest h

pub spelled_shorter : (bytes rest : List ℕ) (d : Datum) → IsSpelled bytes d rest → length rest < length bytes
spelled_shorter bytes rest d h = spelling_shorter h.spelling bytes rest h.spelled

-- ---- the data of a text, by its first one

after_same : (r : Reading) (f g : List ℕ → Option (List Datum)) → ((d : Datum) (rest : List ℕ) → r ≡ Found d rest → f rest ≡ g rest) → data_after f r ≡ data_after g r
after_same (Found d rest) f g h = ap (option_map (λ more. d ∷ more)) (h d rest refl)
after_same NoText f g h = refl
after_same (Unreadable k) f g h = refl

-- more than the length of a text makes no difference
any_fuel : FindsSpelled → (n m : ℕ) (bytes : List ℕ) → length bytes ≤ n → length bytes ≤ m → data_within n bytes ≡ data_within m bytes
any_fuel law zero zero bytes p q = refl
any_fuel law zero (suc m) bytes p q = after_same (reading bytes) (λ rest. None) (λ rest. data_within m rest) (λ d rest e. let less = spelled_shorter bytes rest d ((law bytes d rest).0 e) in absurd (omega (arith, less)))
any_fuel law (suc n) zero bytes p q = after_same (reading bytes) (λ rest. data_within n rest) (λ rest. None) (λ d rest e. let less = spelled_shorter bytes rest d ((law bytes d rest).0 e) in absurd (omega (arith, less)))
any_fuel law (suc n) (suc m) bytes p q = after_same (reading bytes) (λ rest. data_within n rest) (λ rest. data_within m rest)
    (λ d rest e. let less = spelled_shorter bytes rest d ((law bytes d rest).0 e) in any_fuel law n m rest (omega (arith, less)) (omega (arith, less)))

data_step : FindsSpelled → (n : ℕ) (bytes : List ℕ) → length bytes ≤ n → data_within n bytes ≡ data_after data_in (reading bytes)
data_step law zero bytes p = after_same (reading bytes) (λ rest. None) data_in (λ d rest e. let less = spelled_shorter bytes rest d ((law bytes d rest).0 e) in absurd (omega (arith, less)))
data_step law (suc n) bytes p = after_same (reading bytes) (λ rest. data_within n rest) data_in
    (λ d rest e. let less = spelled_shorter bytes rest d ((law bytes d rest).0 e) in any_fuel law n (length rest) rest (omega (arith, less)) (omega arith))

pub data_found : FindsSpelled → (bytes rest : List ℕ) (d : Datum) → IsSpelled bytes d rest → data_in bytes ≡ option_map (λ more. d ∷ more) (data_in rest)
data_found law bytes rest d h = data_step law (length bytes) bytes (omega arith) ∙ ap (data_after data_in) ((law bytes d rest).1 h)

pub data_none : FindsSpelled → FindsNone → (bytes : List ℕ) → IsBlankText bytes → data_in bytes ≡ Some []
data_none law none bytes h = data_step law (length bytes) bytes (omega arith) ∙ ap (data_after data_in) ((none bytes).1 h)

pub data_refused : FindsSpelled → (bytes : List ℕ) (k : ℕ) → reading bytes ≡ Unreadable k → data_in bytes ≡ None
data_refused law bytes k e = data_step law (length bytes) bytes (omega arith) ∙ ap (data_after data_in) e

-- data that are spelled are found
pub spelled_found : FindsSpelled → FindsNone → (ds : List Datum) (bytes : List ℕ) → AreSpelled ds bytes → data_in bytes ≡ Some ds
spelled_found law none [] bytes h = data_none law none bytes h
spelled_found law none (d ∷ ds) bytes h = data_found law bytes h.0 d h.1 ∙ ap (option_map (λ more. d ∷ more)) (spelled_found law none ds h.0 h.2)

-- ---- where nothing is left, nothing is made

abbrev mode_of : Bool → Mode
mode_of false = Gap
mode_of true = Comment

blank_reads : (k : Stock) (bytes : List ℕ) (inside : Bool) → IsSome (comment_after inside bytes) → read_from (in_stock false) (mode_of inside) [] k bytes ≡ NoneLeft k
blank_reads k [] false some = refl
blank_reads k [] true some = refl
blank_reads k (b ∷ bs) true some =
    elim (cases_Bool (b == 10)) [
      | inl e ↦ rw e (blank_reads k bs false (rw e at some))
      | inr e ↦ rw e (blank_reads k bs true (rw e at some))
    ]
blank_reads k (b ∷ bs) false some =
    elim (cases_Bool (is_blank b)) [
      | inl blank ↦ let c : class_of b ≡ Blank = cond-true (is_blank b) Blank _ blank in rw c (blank_reads k bs false (rw blank at some))
      | inr solid ↦ elim (cases_Bool (b == 37)) [
        | inl percent ↦ let c : class_of b ≡ Percent = rw (eqb-true b 37 percent) refl in rw c (blank_reads k bs true (rw (solid, percent) at some))
        | inr other ↦ absurd (let none : false ≡ true = rw (solid, other) at some in cc)
      ]
    ]

-- the stock is as it was
pub blank_stock : (k made : Stock) (bytes : List ℕ) → IsBlankText bytes → read_by (in_stock false) k bytes ≡ NoneLeft made → made ≡ k
blank_stock k made bytes blank e = let same = blank_reads k bytes false blank in cc
