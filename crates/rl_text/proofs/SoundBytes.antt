-- What bytes may still come after what has begun, in each mode; and that a mark goes before what may come after it.
use Rattle.std.proofs.Common.{◌≡◌, ℕ, zero, suc, ◌<◌, ◌≤◌, Bool, true, false, if◌then◌else◌, List, [], ◌∷◌, ◌++◌, length, map, Some, refl, ap}
use Rattle.std.proofs.lemmas.Bool.{cond_both}
use Rattle.rl_tree.specs.Digits.{digits_number}
use Rattle.rl_tree.specs.Atoms.{doubled}
use Rattle.rl_text.specs.Byte.{Mark, Open, Close, Dot, Quote, OpenVector, CloseVector, mark_byte, is_sign}
use Rattle.rl_text.specs.Word.{Character, Plain, Escaped, Sign, Unsigned, Word, Number, Named, Single, character_text, sign_text, word_text, is_minus, character_of, Identifier, atom_of, datum_of_atom, AreIntegerDigits, are_name_characters, IsWord}
use Rattle.rl_text.specs.Word as word
use Rattle.rl_text.specs.Datum.{Datum, quoted}
use Rattle.rl_text.specs.Gap.{comment_after}
use Rattle.rl_text.specs.Spelling.{Atom, LispToken, Spelled, token_text, IsToken, EndsBefore, IsFront, AreTokens}
use Rattle.rl_text.specs.Spelling as spelling
use Rattle.rl_text.specs.Reader.{Begun, Going, Shut, ReaderFrame, Listing, Vectoring, Quoting, Mode, Gap, Comment, InName, InEscape, AfterSign, InNumber, InText, AfterQuote, is_inner, admits, Ended, Whole, Inside, Lacks, left, value_ended, ReaderStep, Goes, Done, Refuses, Halts, goes_after, group_begins, open_list, close_list, dot, close_vector, at_mark, in_word, at_class, atom_ended, goes_before, atom_before}
use Rattle.rl_text.specs.Reader as reader
use Rattle.rl_text.specs.Reading.{Items, plain}
use Rattle.rl_text.proofs.SoundComing.{After, Awaited, open_awaited, open_awaited_behind, dot_awaited, vector_awaited, quote_awaited, close_vector_awaited, close_awaited, close_shut_awaited, close_inner_awaited}

-- ---- what bytes may come

-- the bytes are tokens of which P holds, and then the rest
abbrev pub TokensWith : (List LispToken → Type 0) → List ℕ → List ℕ → Type 0
TokensWith P rest bytes = (tokens : List LispToken) × AreTokens tokens bytes rest × P tokens

-- a gap, in a comment or not, and then tokens that are awaited
pub record Comes (d : Datum) (rest : List ℕ) (inside : Bool) (fs : List (ReaderFrame Items)) (bytes : List ℕ) : Type 0 where
  pub gap : List ℕ
  pub token : LispToken
  pub after : List ℕ
  pub tokens : List LispToken
  pub is_gap : comment_after inside gap ≡ Some false
  pub is : bytes ≡ gap ++ (token_text token ++ after)
  pub token_is : IsToken token
  pub ends : EndsBefore token after
  pub more : AreTokens tokens after rest
  pub awaited : Awaited d fs (token ∷ tokens)

-- the bytes that a word still has after its first ones, and then what may come after it
pub record WordGoes (d : Datum) (rest first : List ℕ) (fs : List (ReaderFrame Items)) (bytes : List ℕ) : Type 0 where
  pub word : Word
  pub text : List ℕ
  pub after : List ℕ
  pub tokens : List LispToken
  pub is : bytes ≡ text ++ after
  pub spelled : word_text word ≡ first ++ text
  pub word_is : IsWord word
  pub ends : EndsBefore (Spelled word) after
  pub more : AreTokens tokens after rest
  pub goes : After d fs (datum_of_atom (atom_of word)) tokens

-- in each mode, whatever the word's first bytes were that led to it
abbrev pub Lexes : Datum → List ℕ → Mode → List (ReaderFrame Items) → List ℕ → Type 0
Lexes d rest Gap fs bytes = Comes d rest false fs bytes
Lexes d rest Comment fs bytes = Comes d rest true fs bytes
Lexes d rest (InName cs) fs bytes = (chars : List Character) → cs ≡ map character_of chars → are_name_characters chars ≡ true → length chars ≤ 255 → WordGoes d rest (word_text (Named chars)) fs bytes
Lexes d rest (InEscape cs) fs bytes = (chars : List Character) → cs ≡ map character_of chars → ((b : ℕ) → are_name_characters (chars ++ Escaped b ∷ []) ≡ true) → length chars < 255 → WordGoes d rest (word_text (Named chars) ++ 33 ∷ []) fs bytes
Lexes d rest (AfterSign c) fs bytes = is_sign c ≡ true → WordGoes d rest (c ∷ []) fs bytes
Lexes d rest (InNumber minus n) fs bytes = (sign : Sign) (digits : List ℕ) → minus ≡ is_minus sign → n ≡ digits_number digits → AreIntegerDigits sign digits → WordGoes d rest (word_text (Number sign digits)) fs bytes
Lexes d rest (InText cs) fs bytes = length cs ≤ 65535 → WordGoes d rest (34 ∷ doubled cs) fs bytes
Lexes d rest (AfterQuote cs) fs bytes = length cs ≤ 65535 → WordGoes d rest (word_text (word.Text cs)) fs bytes

-- what a step leads to, after its byte and before further bytes
abbrev pub GoesOut : Datum → List ℕ → ℕ → List ℕ → ReaderStep (Unit {0}) Datum Items ⊥ → Type 0
GoesOut d rest b bs (Goes mode fs s) = Lexes d rest mode fs bs
GoesOut d rest b bs (Done v true s) = (d ≡ v) × (bs ≡ rest)
GoesOut d rest b bs (Done v false s) = (d ≡ v) × (b ∷ bs ≡ rest)
GoesOut d rest b bs (Refuses s) = ⊥
GoesOut d rest b bs (Halts w s) = ⊥

-- what may come where an element has ended
abbrev pub Leaves : Datum → Ended (Unit {0}) Datum Items ⊥ → List LispToken → Type 0
Leaves d (Whole v s) tokens = (tokens ≡ []) × (d ≡ v)
Leaves d (Inside fs s) tokens = Awaited d fs tokens
Leaves d (Lacks w s) tokens = ⊥

-- ---- an element ends

-- what the reader has when a value has ended is what may come after it
pub after_value : (d : Datum) (fs : List (ReaderFrame Items)) (v : Datum) (s : Unit {0}) (tokens : List LispToken) → Leaves d (value_ended plain v fs s) tokens → After d fs v tokens
after_value d [] v s tokens e = e
after_value d (Quoting ∷ fs) v s tokens e = after_value d fs (quoted v) (left plain fs s) tokens e
after_value d (Vectoring l ∷ fs) v s tokens e = e
after_value d (Listing l n reader.Dotted ∷ fs) v s tokens e = e
after_value d (Listing l n Begun ∷ fs) v s tokens e = e refl
after_value d (Listing l n Going ∷ fs) v s tokens e = e refl
after_value d (Listing l n Shut ∷ fs) v s tokens e = e refl

-- what comes at a gap is tokens
pub comes_tokens : (d : Datum) (rest : List ℕ) (fs : List (ReaderFrame Items)) (bytes : List ℕ) → Comes d rest false fs bytes → TokensWith (Awaited d fs) rest bytes
comes_tokens d rest fs bytes c = (c.token ∷ c.tokens, (c.after, record { gap = c.gap; is_gap = c.is_gap; is = c.is; token_is = c.token_is; ends = c.ends }, c.more), c.awaited)

-- an element ends with this byte
pub ended_after : (d : Datum) (rest : List ℕ) (b : ℕ) (bs : List ℕ) (e : Ended (Unit {0}) Datum Items ⊥) → GoesOut d rest b bs (goes_after e) → TokensWith (Leaves d e) rest bs
ended_after d rest b bs (Whole v s) f = ([], f.1, (refl, f.0))
ended_after d rest b bs (Inside fs s) f = comes_tokens d rest fs bs f
ended_after d rest b bs (Lacks w s) f = absurd f

-- tokens of which P holds are tokens of which Q does, where P says so
pub tokens_mapped : (P Q : List LispToken → Type 0) (rest bytes : List ℕ) → ((tokens : List LispToken) → P tokens → Q tokens) → TokensWith P rest bytes → TokensWith Q rest bytes
tokens_mapped P Q rest bytes f t = (t.0, t.1, f t.0 t.2)

-- ---- marks

-- a mark ends before anything
mark_ends : (mark : Mark) (bytes : List ℕ) → EndsBefore (spelling.Sign mark) bytes
mark_ends mark [] = tt
mark_ends mark (b ∷ bs) = refl

-- a mark goes before what may come after it
mark_comes : (d : Datum) (rest : List ℕ) (b : ℕ) (bs : List ℕ) (fs : List (ReaderFrame Items)) (mark : Mark) (P : List LispToken → Type 0) → b ≡ mark_byte mark → ((tokens : List LispToken) → P tokens → Awaited d fs (spelling.Sign mark ∷ tokens)) → TokensWith P rest bs → Comes d rest false fs (b ∷ bs)
mark_comes d rest b bs fs mark P is f t = record {
  gap = [];
  token = spelling.Sign mark;
  after = bs;
  tokens = t.0;
  is_gap = refl;
  is = ap (λ (c : ℕ). c ∷ bs) is;
  token_is = tt;
  ends = mark_ends mark bs;
  more = t.1;
  awaited = f t.0 t.2;
}

-- what begins with a mark leaves a gap
begun_comes : (d : Datum) (rest : List ℕ) (b : ℕ) (bs : List ℕ) (frame : ReaderFrame Items) (fs : List (ReaderFrame Items)) (s : Unit {0}) → GoesOut d rest b bs (group_begins plain frame fs s) → TokensWith (Awaited d (frame ∷ fs)) rest bs
begun_comes d rest b bs frame fs s =
    cond_both (is_inner fs) (Goes Gap (frame ∷ fs) s) (Goes Gap (frame ∷ fs) s) (λ st. GoesOut d rest b bs st → TokensWith (Awaited d (frame ∷ fs)) rest bs)
    (λ e f. comes_tokens d rest (frame ∷ fs) bs f) (λ e f. comes_tokens d rest (frame ∷ fs) bs f)

-- what needs a place has one
pub admitted_follows : (d : Datum) (rest : List ℕ) (b : ℕ) (bs : List ℕ) (fs : List (ReaderFrame Items)) (st : ReaderStep (Unit {0}) Datum Items ⊥) (s : Unit {0}) → GoesOut d rest b bs (if admits fs then st else Refuses s) → (admits fs ≡ true) × GoesOut d rest b bs st
admitted_follows d rest b bs fs st s =
    cond_both (admits fs) st (Refuses s) (λ x. GoesOut d rest b bs x → (admits fs ≡ true) × GoesOut d rest b bs st) (λ e f. (e, f)) (λ e f. absurd f)

-- a byte `(`
open_comes : (d : Datum) (rest : List ℕ) (b : ℕ) (bs : List ℕ) (fs : List (ReaderFrame Items)) (s : Unit {0}) → b ≡ 40 → admits fs ≡ true → GoesOut d rest b bs (open_list plain fs s) → Comes d rest false fs (b ∷ bs)
open_comes d rest b bs (Listing l n reader.Dotted ∷ fs) s is admitted f =
    mark_comes d rest b bs (Listing l n reader.Dotted ∷ fs) Open (Awaited d (Listing l (suc n) Begun ∷ fs)) is (open_awaited_behind d fs l n) (comes_tokens d rest (Listing l (suc n) Begun ∷ fs) bs f)
open_comes d rest b bs fs s is admitted f =
    mark_comes d rest b bs fs Open (Awaited d (Listing plain.empty 0 Begun ∷ fs)) is (λ tokens. open_awaited d fs plain.empty tokens refl refl admitted) (begun_comes d rest b bs (Listing plain.empty 0 Begun) fs s f)

-- a byte `.`
dot_comes : (d : Datum) (rest : List ℕ) (b : ℕ) (bs : List ℕ) (fs : List (ReaderFrame Items)) (s : Unit {0}) → b ≡ 46 → GoesOut d rest b bs (dot plain fs s) → Comes d rest false fs (b ∷ bs)
dot_comes d rest b bs (Listing l n Going ∷ fs) s is f =
    mark_comes d rest b bs (Listing l n Going ∷ fs) Dot (Awaited d (Listing l n reader.Dotted ∷ fs)) is (dot_awaited d fs l n) (comes_tokens d rest (Listing l n reader.Dotted ∷ fs) bs f)
dot_comes d rest b bs _ s is f = absurd f

-- a byte `]`
close_vector_comes : (d : Datum) (rest : List ℕ) (b : ℕ) (bs : List ℕ) (fs : List (ReaderFrame Items)) (s : Unit {0}) → b ≡ 93 → GoesOut d rest b bs (close_vector plain fs s) → Comes d rest false fs (b ∷ bs)
close_vector_comes d rest b bs (Vectoring l ∷ fs) s is f =
    mark_comes d rest b bs (Vectoring l ∷ fs) CloseVector _ is (λ tokens e. close_vector_awaited d fs l tokens (after_value d fs _ _ tokens e)) (ended_after d rest b bs _ f)
close_vector_comes d rest b bs _ s is f = absurd f

-- a byte `)`
close_comes : (d : Datum) (rest : List ℕ) (b : ℕ) (bs : List ℕ) (fs : List (ReaderFrame Items)) (s : Unit {0}) → b ≡ 41 → GoesOut d rest b bs (close_list plain fs s) → Comes d rest false fs (b ∷ bs)
close_comes d rest b bs (Listing l zero Begun ∷ fs) s is f =
    mark_comes d rest b bs _ Close _ is (λ tokens e. close_awaited d fs l Begun tokens (λ e. cc) (after_value d fs _ _ tokens e)) (ended_after d rest b bs _ f)
close_comes d rest b bs (Listing l zero Going ∷ fs) s is f =
    mark_comes d rest b bs _ Close _ is (λ tokens e. close_awaited d fs l Going tokens (λ e. cc) (after_value d fs _ _ tokens e)) (ended_after d rest b bs _ f)
close_comes d rest b bs (Listing l zero Shut ∷ fs) s is f =
    mark_comes d rest b bs _ Close _ is (λ tokens e. close_awaited d fs l Shut tokens (λ e. cc) (after_value d fs _ _ tokens e)) (ended_after d rest b bs _ f)
close_comes d rest b bs (Listing l (suc n) Shut ∷ fs) s is f =
    mark_comes d rest b bs _ Close _ is (λ tokens e. close_shut_awaited d fs l n tokens e) (comes_tokens d rest _ bs f)
close_comes d rest b bs (Listing l (suc n) Begun ∷ fs) s is f =
    mark_comes d rest b bs _ Close _ is (λ tokens e. close_inner_awaited d fs l n Begun tokens (λ e. cc) (λ e. cc) e) (comes_tokens d rest _ bs f)
close_comes d rest b bs (Listing l (suc n) Going ∷ fs) s is f =
    mark_comes d rest b bs _ Close _ is (λ tokens e. close_inner_awaited d fs l n Going tokens (λ e. cc) (λ e. cc) e) (comes_tokens d rest _ bs f)
close_comes d rest b bs _ s is f = absurd f

-- a byte that is a mark
pub mark_step : (d : Datum) (rest : List ℕ) (b : ℕ) (bs : List ℕ) (mark : Mark) (fs : List (ReaderFrame Items)) (s : Unit {0}) → b ≡ mark_byte mark → GoesOut d rest b bs (at_mark plain mark fs s) → Comes d rest false fs (b ∷ bs)
mark_step d rest b bs Close fs s is f = close_comes d rest b bs fs s is f
mark_step d rest b bs CloseVector fs s is f = close_vector_comes d rest b bs fs s is f
mark_step d rest b bs Dot fs s is f = dot_comes d rest b bs fs s is f
mark_step d rest b bs Open fs s is f =
    let a = admitted_follows d rest b bs fs (open_list plain fs s) s f in
    open_comes d rest b bs fs s is a.0 a.1
mark_step d rest b bs OpenVector fs s is f =
    let a = admitted_follows d rest b bs fs (group_begins plain (Vectoring plain.empty) fs s) s f in
    mark_comes d rest b bs fs OpenVector (Awaited d (Vectoring plain.empty ∷ fs)) is (λ tokens. vector_awaited d fs plain.empty tokens refl a.0) (begun_comes d rest b bs (Vectoring plain.empty) fs s a.1)
mark_step d rest b bs Quote fs s is f =
    let a = admitted_follows d rest b bs fs (group_begins plain Quoting fs s) s f in
    mark_comes d rest b bs fs Quote (Awaited d (Quoting ∷ fs)) is (λ tokens. quote_awaited d fs tokens a.0) (begun_comes d rest b bs Quoting fs s a.1)
