-- What the end of a text comes to.
use Rattle.std.proofs.Common.{◌≡◌, ◌≢◌, ℕ, ◌⊎◌, inl, inr, Bool, List, [], length, true, refl, sym, ap, ◌∙◌, subst}
use Rattle.std.specs.Prelude.{Result, Ok, Err}
use Rattle.rl_tags.specs.Tagged.{Tagged}
use Rattle.rl_text.specs.Reader.{ReaderFrame, NoneLeft, Read, Refused}
use Rattle.rl_text.specs.Reader as reader
use Rattle.rl_world.specs.declared.world.World.{World}
use Rattle.rl_read.specs.Stock.{Stock, PairChain, in_stock, stock_of}
use Rattle.rl_world.specs.declared.stop.Stop.{Stop}
use Rattle.rl_read.specs.Given.{is_counted}
use Rattle.rl_read.specs.Calls.{ChangesLevels, ReadsOn}
use Rattle.rl_read.specs.Frames.{CanMake, IsReading, IsReadyToRead, frames_in, frames_kept}
use Rattle.rl_read.specs.Reads.{EndsText, ReadAnswer, IsRefusal, ended_between}
use Rattle.rl_read.specs.Steps.{IsEnded, ended_of, may_end, mode_of, word_atom}
use Rattle.rl_read.specs.declared.step.Ended.TheVariants as how
use Rattle.rl_read.specs.declared.frames.Group.{Group}
use Rattle.rl_read.specs.declared.frames.Group.TheVariants as group
use Rattle.rl_read.specs.declared.read.ReadFault.{ReadFault}
use Rattle.rl_read.specs.declared.read.ReadFault.TheVariants as fault
use Rattle.rl_read.specs.declared.word.Mode.{Mode}
use Rattle.rl_read.specs.declared.word.Mode.TheVariants as mode
use Rattle.rl_read.proofs.ElementEnds.{ok_mapped}
use Rattle.rl_read.proofs.MakingStays.{reading_of_levels, reading_trans}
use Rattle.rl_read.proofs.WalkKept.{able_left, root_keeps_none}

-- inside something the text is refused
pub inside_refused : (base : ℕ) (w : World) (g : Group) (k : Stock) → g ≢ group.Root → ended_between (frames_in base w g) k ≡ Refused k []
inside_refused base w group.Root k not = absurd (not refl)
inside_refused base w group.Quote k not = refl
inside_refused base w (group.Vector c) k not = refl
inside_refused base w (group.List c n p) k not = refl
inside_refused base w (group.QuoteBehind c n) k not = refl
inside_refused base w (group.VectorBehind v c n) k not = refl

-- and else there is none
pub root_has_none : (base : ℕ) (w : World) (g : Group) → IsReadyToRead base w g → g ≡ group.Root → ended_between (frames_in base w g) (stock_of w) ≡ NoneLeft (stock_of w)
root_has_none base w g r root =
    let ready : IsReadyToRead base w group.Root = subst (λ (g : Group). IsReadyToRead base w g) root r in
    ap (λ (g : Group). ended_between (frames_in base w g) (stock_of w)) root ∙ ap (λ ts. ended_between (frames_kept ts) (stock_of w)) (root_keeps_none base w ready)

-- the place of a refusal
abbrev pub place_of : ℕ → Result Tagged ReadFault → ℕ
place_of other (Err (fault.Syntax k)) = k
place_of other (Err fault.End) = other
place_of other (Err (fault.Stop s)) = other
place_of other (Ok v) = other

pub same_place : (r : Result Tagged ReadFault) (j k : ℕ) → r ≡ Err (fault.Syntax k) → r ≡ Err (fault.Syntax j) → j ≡ k
same_place r j k one other = ap (place_of 0) (sym other ∙ one)

-- what is wanting is one
pub stop_same : (a b : Stop) → ◌≡◌ {A = Result Tagged ReadFault} (Err (fault.Stop a)) (Err (fault.Stop b)) → a ≡ b
stop_same a b e = cc

-- levels alone were left
pub levels_left : (old new : World) → new ≡ record old { levels = new.levels } → record (stock_of old) { left = (stock_of new).left } ≡ stock_of new
levels_left old new e = sym (ap (λ (w : World). stock_of w) e)

-- what was refused is a refusal
pub refusal_of : (old new : World) (answer : Bool → ReadAnswer) → ((t : Bool) → answer t ≡ Refused (stock_of old) []) → new ≡ record old { levels = new.levels } → IsRefusal new answer []
refusal_of old new answer refused world = record { made = stock_of old; refused = refused; stays = levels_left old new world }

-- a refusal of one is that of an equal one
pub refusal_same : (w : World) (one other : Bool → ReadAnswer) (from : List ℕ) → ((t : Bool) → other t ≡ one t) → IsRefusal w one from → IsRefusal w other from
refusal_same w one other from same r = record { made = r.made; refused = λ t. same t ∙ r.refused t; stays = r.stays }

-- the text is refused where so many bytes were given, and all levels are left
pub text_refused : (base : ℕ) (old new : World) (meant : Bool → ReadAnswer) (k : ℕ) (r : Result Tagged ReadFault) → r ≡ Err (fault.Syntax k) → ((t : Bool) → meant t ≡ Refused (stock_of old) []) → length new.levels.walk ≡ base → ChangesLevels base old new → CanMake old → EndsText base old new meant k r
text_refused base old new meant k r is refused left levels able = record {
  ok = rw is tt;
  syntax = λ j e. (same_place r j k is e, refusal_of old new meant refused levels.world);
  end = λ e. absurd (let both = sym is ∙ e in cc);
  stop = λ s e. absurd (let both = sym is ∙ e in cc);
  counted = λ s e. absurd (let both = sym is ∙ e in cc);
  live = rw is tt;
  able = able_left old new levels.world able;
  left = λ _. left;
  reading = reading_of_levels base old new levels;
}

-- an element ends with the text: it is the form, or something is wanting for it
pub text_whole : {base : ℕ} {old new : World} {ended : Bool → reader.Ended Stock Tagged PairChain Stop} {want : Stop → reader.Ended Stock Tagged PairChain Stop} {v : Tagged} {k : ℕ} → ReadsOn base old new ended (ended_of base new) want (IsEnded base new) (Ok (how.Whole v)) → EndsText base old new (λ t. reader.ends_after (ended t)) k (Ok v)
text_whole h = record {
  ok = λ t. ap reader.ends_after (h.means t);
  syntax = λ j e. absurd cc;
  end = λ e. absurd cc;
  stop = λ s e. absurd cc;
  counted = λ s e. absurd cc;
  live = h.sound.live;
  able = h.able;
  left = λ _. h.sound.ready.root refl;
  reading = h.reading;
}

pub text_lacks : {base : ℕ} {old new : World} {ended : Bool → reader.Ended Stock Tagged PairChain Stop} {s : Stop} {k : ℕ} → ReadsOn base old new ended (ended_of base new) (λ s. reader.Lacks s (stock_of new)) (IsEnded base new) (Err s) → EndsText base old new (λ t. reader.ends_after (ended t)) k (Err (fault.Stop s))
text_lacks {new = new} {s = s} h = record {
  ok = tt;
  syntax = λ j e. absurd cc;
  end = λ e. absurd cc;
  stop = λ r e t. ap reader.ends_after (h.means t) ∙ ap (λ s. reader.Stopped s (stock_of new) []) (stop_same s r e);
  counted = λ r e. subst (λ (s : Stop). is_counted s ≡ true) (stop_same s r e) h.sound;
  live = tt;
  able = h.able;
  left = λ none. absurd none;
  reading = h.reading;
}

-- the end of a text after what was read before
pub text_after : {base : ℕ} {old mid new : World} {one other : Bool → ReadAnswer} {k : ℕ} {r : Result Tagged ReadFault} → IsReading base old mid → EndsText base mid new one k r → ((t : Bool) → other t ≡ one t) → EndsText base old new other k r
text_after {base = base} {old = old} {mid = mid} {new = new} {one = one} {other = other} {k = k} {r = r} first h same = record {
  ok = ok_mapped r (λ v. (t : Bool) → one t ≡ Read v (stock_of new) []) (λ v. (t : Bool) → other t ≡ Read v (stock_of new) []) (λ v is t. same t ∙ is t) h.ok;
  syntax = λ j e. ((h.syntax j e).0, refusal_same new one other [] same (h.syntax j e).1);
  end = λ e t. same t ∙ h.end e t;
  stop = λ s e t. same t ∙ h.stop s e t;
  counted = h.counted;
  live = h.live;
  able = h.able;
  left = h.left;
  reading = reading_trans base old mid new first h.reading;
}

-- between spellings
pub between_ends : (t : Bool) (m : Mode) (bytes : List ℕ) (fs : List (ReaderFrame PairChain)) (k : Stock) → (m ≡ mode.Gap) ⊎ (m ≡ mode.Comment) → reader.at_end (in_stock t) (mode_of m bytes) fs k ≡ ended_between fs k
between_ends t m bytes fs k is = elim is [
  | inl e ↦ ap (λ (m : Mode). reader.at_end (in_stock t) (mode_of m bytes) fs k) e
  | inr e ↦ ap (λ (m : Mode). reader.at_end (in_stock t) (mode_of m bytes) fs k) e
]

-- inside an escape or a string
pub open_ends : (t : Bool) (m : Mode) (bytes : List ℕ) (fs : List (ReaderFrame PairChain)) (k : Stock) → (m ≡ mode.Escape) ⊎ (m ≡ mode.Text) → reader.at_end (in_stock t) (mode_of m bytes) fs k ≡ Refused k []
open_ends t m bytes fs k is = elim is [
  | inl e ↦ ap (λ (m : Mode). reader.at_end (in_stock t) (mode_of m bytes) fs k) e
  | inr e ↦ ap (λ (m : Mode). reader.at_end (in_stock t) (mode_of m bytes) fs k) e
]

-- else a word may end
pub may_end_else : (m : Mode) → m ≢ mode.Gap → m ≢ mode.Comment → m ≢ mode.Escape → m ≢ mode.Text → may_end m ≡ true
may_end_else mode.Gap gap comment escape text = absurd (gap refl)
may_end_else mode.Comment gap comment escape text = absurd (comment refl)
may_end_else mode.Name gap comment escape text = refl
may_end_else mode.Escape gap comment escape text = absurd (escape refl)
may_end_else (mode.Sign c) gap comment escape text = refl
may_end_else (mode.Number minus n) gap comment escape text = refl
may_end_else mode.Text gap comment escape text = absurd (text refl)
may_end_else mode.Quote gap comment escape text = refl

pub word_ends : (t : Bool) (m : Mode) (bytes : List ℕ) (fs : List (ReaderFrame PairChain)) (k : Stock) → may_end m ≡ true → reader.at_end (in_stock t) (mode_of m bytes) fs k ≡ reader.ends_after (reader.atom_ended (in_stock t) (word_atom m bytes) fs k)
word_ends t mode.Gap bytes fs k e = cc
word_ends t mode.Comment bytes fs k e = cc
word_ends t mode.Name bytes fs k e = refl
word_ends t mode.Escape bytes fs k e = cc
word_ends t (mode.Sign c) bytes fs k e = refl
word_ends t (mode.Number minus n) bytes fs k e = refl
word_ends t mode.Text bytes fs k e = cc
word_ends t mode.Quote bytes fs k e = refl
