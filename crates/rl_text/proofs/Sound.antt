-- What is read is spelled.
use Rattle.std.proofs.Common.{◌≡◌, ℕ, true, false, ◌==◌, List, [], ◌∷◌, refl, subst}
use Rattle.std.proofs.lemmas.Bool.{cond_both}
use Rattle.rl_text.specs.Byte.{class_of}
use Rattle.rl_text.specs.Word.{Word, Named, Number, Single, word_text, Integer, Identifier, String, atom_of, datum_of_atom, IsWord}
use Rattle.rl_text.specs.Word as word
use Rattle.rl_text.specs.Datum.{Datum}
use Rattle.rl_text.specs.Spelling.{IsSpelled, AreTokens}
use Rattle.rl_text.specs.Reader.{ReaderFrame, Mode, Gap, Comment, InName, InEscape, AfterSign, InNumber, InText, AfterQuote, Ended, Whole, Inside, Lacks, ReaderStep, Goes, Done, Refuses, Halts, atom_ended, reader_step, ReaderOutcome, Read, NoneLeft, Refused, Stopped, ends_after, at_end, at_end_between, after_step, read_from, read_by}
use Rattle.rl_text.specs.Reading.{Items, plain, Found, reading, reading_of}
use Rattle.rl_text.proofs.Classed.{class_says, sign_is_special}
use Rattle.rl_text.proofs.SoundBytes.{TokensWith, Comes, WordGoes, Lexes, GoesOut, Leaves, after_value, comes_tokens, tokens_mapped}
use Rattle.rl_text.proofs.SoundWords.{word_ends, gap_byte, gap_step, name_step, escape_step, number_step, sign_step, text_step, after_quote_step}

-- ---- a byte

-- a byte in a comment
comment_step : (d : Datum) (rest : List ℕ) (b : ℕ) (bs : List ℕ) (fs : List (ReaderFrame Items)) (s : Unit {0}) → GoesOut d rest b bs (reader_step plain Comment b fs s) → Comes d rest true fs (b ∷ bs)
comment_step d rest b bs fs s f =
    cond_both (b == 10) Gap Comment (λ mode. Lexes d rest mode fs bs → Comes d rest true fs (b ∷ bs))
    (λ e f. gap_byte d rest true false fs b bs (λ gap g. rw e g) f)
    (λ e f. gap_byte d rest true true fs b bs (λ gap g. rw e g) f)
    f

-- where reading goes on after a byte, what may come begins with the byte
byte_step : (d : Datum) (rest : List ℕ) (b : ℕ) (bs : List ℕ) (mode : Mode) (fs : List (ReaderFrame Items)) (s : Unit {0}) → GoesOut d rest b bs (reader_step plain mode b fs s) → Lexes d rest mode fs (b ∷ bs)
byte_step d rest b bs Gap fs s f = gap_step d rest b bs (class_of b) fs s (class_says b) f
byte_step d rest b bs Comment fs s f = comment_step d rest b bs fs s f
byte_step d rest b bs (InName cs) fs s f = name_step d rest b bs cs fs s f
byte_step d rest b bs (InEscape cs) fs s f = escape_step d rest b bs cs fs s f
byte_step d rest b bs (AfterSign c) fs s f = sign_step d rest b bs c fs s f
byte_step d rest b bs (InNumber minus n) fs s f = number_step d rest b bs minus n fs s f
byte_step d rest b bs (InText cs) fs s f = text_step d rest b bs cs fs s f
byte_step d rest b bs (AfterQuote cs) fs s f = after_quote_step d rest b bs cs fs s f

-- ---- the end of the text

-- an element ends with the text
ended_at_end : (d : Datum) (rest : List ℕ) (t : Unit {0}) (e : Ended (Unit {0}) Datum Items ⊥) → ends_after e ≡ Read d t rest → TokensWith (Leaves d e) rest []
ended_at_end d rest t (Whole v s) is = ([], (cc), (refl, (cc)))
ended_at_end d rest t (Inside fs s) is = absurd cc
ended_at_end d rest t (Lacks w s) is = absurd w

-- a word ends with the text
word_at_end : (d : Datum) (rest first : List ℕ) (fs : List (ReaderFrame Items)) (s t : Unit {0}) (w : Word) → word_text w ≡ first → IsWord w → ends_after (atom_ended plain (atom_of w) fs s) ≡ Read d t rest → WordGoes d rest first fs []
word_at_end d rest first fs s t w is word_is e =
    word_ends d rest first fs [] w is word_is tt
    (tokens_mapped _ _ rest [] (after_value d fs _ s) (ended_at_end d rest t (atom_ended plain (atom_of w) fs s) e))

-- nothing is read where only a gap is left
no_gap_at_end : (d : Datum) (rest : List ℕ) (fs : List (ReaderFrame Items)) (s t : Unit {0}) (P : Type 0) → at_end_between {V = Datum} {W = ⊥} fs s ≡ Read d t rest → P
no_gap_at_end d rest [] s t P e = absurd cc
no_gap_at_end d rest (f ∷ fs) s t P e = absurd cc

-- where something is read at the end of the text, the text may end so
end_step : (d : Datum) (rest : List ℕ) (mode : Mode) (fs : List (ReaderFrame Items)) (s t : Unit {0}) → at_end plain mode fs s ≡ Read d t rest → Lexes d rest mode fs []
end_step d rest Gap fs s t e = no_gap_at_end d rest fs s t _ e
end_step d rest Comment fs s t e = no_gap_at_end d rest fs s t _ e
end_step d rest (InName cs) fs s t e = λ chars is name short. word_at_end d rest (word_text (Named chars)) fs s t (Named chars) refl (record { name = name; short = short }) (rw is at e)
end_step d rest (InEscape cs) fs s t e = absurd cc
end_step d rest (AfterSign c) fs s t e = λ sign. word_at_end d rest (c ∷ []) fs s t (Single c) refl (sign_is_special c sign) e
end_step d rest (InNumber minus n) fs s t e = λ sign digits minus_is is number. word_at_end d rest (word_text (Number sign digits)) fs s t (Number sign digits) refl number (rw (minus_is, is) at e)
end_step d rest (InText cs) fs s t e = absurd cc
end_step d rest (AfterQuote cs) fs s t e = λ short. word_at_end d rest (word_text (word.Text cs)) fs s t (word.Text cs) refl short e

-- ---- all bytes

-- what is read after a step comes after it
step_follows : (d : Datum) (rest : List ℕ) (t : Unit {0}) (b : ℕ) (bs : List ℕ) → ((mode : Mode) (fs : List (ReaderFrame Items)) (s : Unit {0}) → read_from plain mode fs s bs ≡ Read d t rest → Lexes d rest mode fs bs) → (st : ReaderStep (Unit {0}) Datum Items ⊥) → after_step b bs st (λ mode fs s. read_from plain mode fs s bs) ≡ Read d t rest → GoesOut d rest b bs st
step_follows d rest t b bs further (Goes mode fs s) e = further mode fs s e
step_follows d rest t b bs further (Done v true s) e = ((cc), (cc))
step_follows d rest t b bs further (Done v false s) e = ((cc), (cc))
step_follows d rest t b bs further (Refuses s) e = absurd cc
step_follows d rest t b bs further (Halts w s) e = absurd w

-- where something is read, its bytes may come
pub read_lexes : (d : Datum) (rest : List ℕ) (t : Unit {0}) (bytes : List ℕ) (mode : Mode) (fs : List (ReaderFrame Items)) (s : Unit {0}) → read_from plain mode fs s bytes ≡ Read d t rest → Lexes d rest mode fs bytes
read_lexes d rest t [] mode fs s e = end_step d rest mode fs s t e
read_lexes d rest t (b ∷ bs) mode fs s e = byte_step d rest b bs mode fs s (step_follows d rest t b bs (read_lexes d rest t bs) (reader_step plain mode b fs s) e)

-- what is read is spelled
pub read_is_spelled : (bytes : List ℕ) (datum : Datum) (rest : List ℕ) → read_by plain tt bytes ≡ Read datum tt rest → IsSpelled bytes datum rest
read_is_spelled bytes datum rest e =
    let t = comes_tokens datum rest [] bytes (read_lexes datum rest tt bytes Gap [] tt e) in
    record {
      spelling = t.2.0;
      spelled = subst (λ tokens. AreTokens tokens bytes rest) t.2.1 t.1;
      is = t.2.2;
    }

-- what is found was read
read_found : (bytes : List ℕ) (datum : Datum) (rest : List ℕ) (o : ReaderOutcome (Unit {0}) Datum ⊥) → reading_of bytes o ≡ Found datum rest → o ≡ Read datum tt rest
read_found bytes datum rest (Read v s more) e = let v_is : v ≡ datum = cc in let more_is : more ≡ rest = cc in rw (v_is, more_is) refl
read_found bytes datum rest (NoneLeft s) e = absurd cc
read_found bytes datum rest (Refused s from) e = absurd cc
read_found bytes datum rest (Stopped w s more) e = absurd w

-- what is found is spelled
pub found_is_spelled : (bytes : List ℕ) (datum : Datum) (rest : List ℕ) → reading bytes ≡ Found datum rest → IsSpelled bytes datum rest
found_is_spelled bytes datum rest e = read_is_spelled bytes datum rest (read_found bytes datum rest (read_by plain tt bytes) e)
