-- A byte takes a turn, and what is made of it takes none.
use Rattle.std.proofs.Common.{◌≡◌, ℕ, zero, suc, ◌+◌, ◌-◌, ◌*◌, ◌^◌, ◌<◌, ◌==◌, Bool, true, false, if◌then◌else◌, List, [], ◌∷◌, ◌++◌, length, refl, ap, ◌∙◌, subst, arith}
use Rattle.std.specs.Prelude.{Option, Some, None, cond, nat_lt, nat_le}
use Rattle.std.proofs.lemmas.Bool.{cond_both, ltb-true}
use Rattle.rl_tags.specs.Tagged.{Tagged, PairAt, StrAt, VectorAt}
use Rattle.rl_cells.specs.Cell.{Cell, PairCell, StrCell, VectorCell, cost_of}
use Rattle.rl_tree.specs.Bytes.{is_digit, is_name_byte, raised}
use Rattle.rl_tree.specs.Name.{Name, quote_name}
use Rattle.rl_text.specs.Byte.{Mark, Open, Close, Dot, Quote, OpenVector, CloseVector, Class, Blank, Percent, Marks, Text, Escape, Letter, Digit, Sign, Special, Nothing, class_of}
use Rattle.rl_text.specs.Word.{Atom, Integer, Identifier, String, signed}
use Rattle.rl_text.specs.Maker.{Made, Has, Wants}
use Rattle.rl_text.specs.Reader.{Begun, Going, Dotted, Shut, ReaderFrame, Listing, Vectoring, Quoting, Mode, Gap, Comment, InName, InEscape, AfterSign, InNumber, InText, AfterQuote, Ended, Whole, Inside, Lacks, ReaderStep, Goes, Done, Refuses, Halts, admits, is_inner, left, ended_with, value_ended, atom_ended, goes_with, goes_after, goes_before, group_begins, open_list, close_list, close_vector, dot, at_mark, in_word, at_class, atom_before, grown_to, in_number, reader_step}
use Rattle.rl_world.specs.Counts.{WorldCounts, tick_stop, tick_stop_at, ticked, ticked_at, count_turns_left, turns_left_at, room_stop, roomed, with_cells}
use Rattle.rl_world.specs.declared.counts.Expansion.{Expansion}
use Rattle.rl_world.specs.declared.stop.Stop.{Stop}
use Rattle.rl_world.specs.declared.stop.Stop.TheVariants as stop
use Rattle.rl_syms.specs.Made.{id_cost}
use Rattle.rl_syms.specs.Table.{ids_from, nil_value}
use Rattle.rl_world.specs.declared.world.World.{World}
use Rattle.rl_read.specs.Given.{IsGiven, TakesTurn}
use Rattle.rl_read.specs.Stock as stock
use Rattle.rl_read.specs.Stock.{Stock, PairChain, elements_of, in_stock, with_room, with_room_at, object_made, pair_made, atom_made, identifier_at, identifier_made, named_among, and_then_made, chain_hung, chain_extended, chain_ended, vector_made, quote_made, entered, entered_at}

-- ---- a turn

-- a number that is below a bound is left less once it has grown
below_true : (a b : ℕ) (s : Stop) → cond (nat_lt a b) None (Some s) ≡ None → a < b
below_true a b s e = cond_both (nat_lt a b) None (Some s) (λ o. o ≡ None → a < b) (λ h e. ltb-true a b h) (λ h e. absurd (let clash : Some s ≡ None = e in cc)) e

turn_taken_at : (opening : Option ℕ) (e : Option Expansion) (c : WorldCounts) → c.opening ≡ opening → c.outermost ≡ e → tick_stop_at opening e c.turns c.bound ≡ None → count_turns_left (ticked_at opening e c) < turns_left_at opening e c.turns c.bound
turn_taken_at (Some n) e c o x h = let l = below_true n 1000000 stop.Turns h in omega arith
turn_taken_at None (Some e) c o x h = let l = below_true e.turns 100000 (stop.Expansion e.name) h in rw o (omega arith)
turn_taken_at None None c o x h = let l = below_true c.turns c.bound stop.Turns h in rw (o, x) (omega arith)

-- a turn is left, and is taken
pub turn_taken : (c : WorldCounts) → tick_stop c ≡ None → count_turns_left (ticked c) < count_turns_left c
turn_taken c h = turn_taken_at c.opening c.outermost c refl refl h

-- ---- what is made takes no turns

-- so many turns are left
abbrev Left : ℕ → Stock → Type 0
Left n k = count_turns_left k.counts ≡ n

abbrev LeftMade : {A : Type 0} → ℕ → Made Stock A Stop → Type 0
LeftMade n (Has a k) = Left n k
LeftMade n (Wants s k) = Unit {0}

room_left : (o : Option ℕ) (e : Option Expansion) (cost turns bound : ℕ) → turns_left_at o (with_cells cost e) turns bound ≡ turns_left_at o e turns bound
room_left (Some n) e cost turns bound = refl
room_left None None cost turns bound = refl
room_left None (Some e) cost turns bound = refl

then_left : {A B : Type 0} (n : ℕ) (x : Made Stock A Stop) (f : A → Stock → Made Stock B Stop) → LeftMade n x → ((a : A) (k : Stock) → Left n k → LeftMade n (f a k)) → LeftMade n (and_then_made x f)
then_left n (Has a k) f h g = g a k h
then_left n (Wants s k) f h g = tt

with_room_left_at : (n : ℕ) (s : Option Stop) (cost : ℕ) (k : Stock) → Left n (record k { counts = roomed k.counts cost }) → LeftMade n (with_room_at s cost k)
with_room_left_at n (Some s) cost k h = tt
with_room_left_at n None cost k h = h

with_room_left : (n cost : ℕ) (k : Stock) → Left n k → LeftMade n (with_room cost k)
with_room_left n cost k h = with_room_left_at n (room_stop k.counts k.cells cost) cost k (room_left k.counts.opening k.counts.outermost cost k.counts.turns k.counts.bound ∙ h)

object_left : (n : ℕ) (at : ℕ → Tagged) (c : Cell) (k : Stock) → Left n k → LeftMade n (object_made at c k)
object_left n at c k h = then_left n (with_room (cost_of c) k) _ (with_room_left n (cost_of c) k h) (λ a k h. h)

pair_left : (n : ℕ) (a d : Tagged) (k : Stock) → Left n k → LeftMade n (pair_made a d k)
pair_left n a d k h = object_left n (λ i. PairAt i) (PairCell a d) k h

identifier_left_at : (n : ℕ) (i : Option ℕ) (name : Name) (k : Stock) → Left n k → LeftMade n (identifier_at i name k)
identifier_left_at n (Some i) name k h = h
identifier_left_at n None name k h = then_left n (with_room (id_cost name) k) _ (with_room_left n (id_cost name) k h) (λ a k h. h)

identifier_left : (n : ℕ) (name : Name) (k : Stock) → Left n k → LeftMade n (identifier_made name k)
identifier_left n name k h = identifier_left_at n (named_among k.cells.cells name (ids_from k.cells.cells k.head)) name k h

atom_left : (n : ℕ) (a : Atom) (k : Stock) → Left n k → LeftMade n (atom_made a k)
atom_left n (Integer z) k h = h
atom_left n (Identifier name) k h = identifier_left n name k h
atom_left n (String bytes) k h = object_left n (λ i. StrAt i) (StrCell bytes) k h

hung_left : (n : ℕ) (c : PairChain) (p : Tagged) (k : Stock) → Left n k → LeftMade n (chain_hung c p k)
hung_left n None p k h = h
hung_left n (Some c) p k h = h

extended_left : (n : ℕ) (c : PairChain) (v : Tagged) (k : Stock) → Left n k → LeftMade n (chain_extended c v k)
extended_left n c v k h = then_left n (pair_made v nil_value k) _ (pair_left n v nil_value k h) (λ p k h. hung_left n c p k h)

ended_left : (n : ℕ) (c : PairChain) (v : Tagged) (k : Stock) → Left n k → LeftMade n (chain_ended c v k)
ended_left n None v k h = h
ended_left n (Some c) v k h = h

vector_left_if : (n : ℕ) (b : Bool) (xs : List Tagged) (k : Stock) → Left n k → LeftMade n (if b then object_made (λ i. VectorAt i) (VectorCell xs) k else Wants stop.Cells k)
vector_left_if n true xs k h = object_left n (λ i. VectorAt i) (VectorCell xs) k h
vector_left_if n false xs k h = tt

vector_left : (n : ℕ) (c : PairChain) (k : Stock) → Left n k → LeftMade n (vector_made c k)
vector_left n c k h = vector_left_if n (nat_le (length (elements_of k.cells.cells c)) (2 ^ 31)) (elements_of k.cells.cells c) k h

quote_left : (n : ℕ) (v : Tagged) (k : Stock) → Left n k → LeftMade n (quote_made v k)
quote_left n v k h = then_left n (identifier_made quote_name k) _ (identifier_left n quote_name k h) (λ q k h. then_left n (pair_made v nil_value k) _ (pair_left n v nil_value k h) (λ p k h. pair_left n q p k h))

entered_left_at : (n l : ℕ) (k : Stock) → Left n k → LeftMade n (entered_at l k)
entered_left_at n zero k h = tt
entered_left_at n (suc l) k h = h

-- ---- an element ends

abbrev LeftEnded : ℕ → Ended Stock Tagged PairChain Stop → Type 0
LeftEnded n (Whole v k) = Left n k
LeftEnded n (Inside fs k) = Left n k
LeftEnded n (Lacks s k) = Unit {0}

ended_with_left : {A : Type 0} (n : ℕ) (x : Made Stock A Stop) (f : A → Stock → Ended Stock Tagged PairChain Stop) → LeftMade n x → ((a : A) (k : Stock) → Left n k → LeftEnded n (f a k)) → LeftEnded n (ended_with x f)
ended_with_left n (Has a k) f h g = g a k h
ended_with_left n (Wants s k) f h g = tt

level_left_at : (n : ℕ) (inner : Bool) (k : Stock) → Left n k → Left n (if inner then stock.level_left k else k)
level_left_at n true k h = h
level_left_at n false k h = h

value_left : (n : ℕ) (t : Bool) (v : Tagged) (fs : List (ReaderFrame PairChain)) (k : Stock) → Left n k → LeftEnded n (value_ended (in_stock t) v fs k)
value_left n t v [] k h = h
value_left n t v (Quoting ∷ fs) k h = ended_with_left n (quote_made v k) _ (quote_left n v k h) (λ q k h. value_left n t q fs (left (in_stock t) fs k) (level_left_at n (is_inner fs) k h))
value_left n t v (Vectoring l ∷ fs) k h = ended_with_left n (chain_extended l v k) _ (extended_left n l v k h) (λ l k h. h)
value_left n t v (Listing l m Dotted ∷ fs) k h = ended_with_left n (chain_ended l v k) _ (ended_left n l v k h) (λ l k h. h)
value_left n t v (Listing l m Begun ∷ fs) k h = ended_with_left n (chain_extended l v k) _ (extended_left n l v k h) (λ l k h. h)
value_left n t v (Listing l m Going ∷ fs) k h = ended_with_left n (chain_extended l v k) _ (extended_left n l v k h) (λ l k h. h)
value_left n t v (Listing l m Shut ∷ fs) k h = ended_with_left n (chain_extended l v k) _ (extended_left n l v k h) (λ l k h. h)

atom_ended_left : (n : ℕ) (t : Bool) (a : Atom) (fs : List (ReaderFrame PairChain)) (k : Stock) → Left n k → LeftEnded n (atom_ended (in_stock t) a fs k)
atom_ended_left n t a fs k h = ended_with_left n (atom_made a k) _ (atom_left n a k h) (λ v k h. value_left n t v fs k h)

-- ---- a byte

abbrev LeftStep : ℕ → ReaderStep Stock Tagged PairChain Stop → Type 0
LeftStep n (Goes m fs k) = Left n k
LeftStep n (Done v used k) = Unit {0}
LeftStep n (Refuses k) = Unit {0}
LeftStep n (Halts s k) = Unit {0}

goes_with_left : {A : Type 0} (n : ℕ) (x : Made Stock A Stop) (f : A → Stock → ReaderStep Stock Tagged PairChain Stop) → LeftMade n x → ((a : A) (k : Stock) → Left n k → LeftStep n (f a k)) → LeftStep n (goes_with x f)
goes_with_left n (Has a k) f h g = g a k h
goes_with_left n (Wants s k) f h g = tt

goes_after_left : (n : ℕ) (e : Ended Stock Tagged PairChain Stop) → LeftEnded n e → LeftStep n (goes_after e)
goes_after_left n (Whole v k) h = tt
goes_after_left n (Inside fs k) h = h
goes_after_left n (Lacks s k) h = tt

if_left : (n : ℕ) (c : Bool) (x y : ReaderStep Stock Tagged PairChain Stop) → LeftStep n x → LeftStep n y → LeftStep n (if c then x else y)
if_left n true x y h g = h
if_left n false x y h g = g

begins_left : (n : ℕ) (t : Bool) (f : ReaderFrame PairChain) (fs : List (ReaderFrame PairChain)) (k : Stock) → Left n k → LeftStep n (group_begins (in_stock t) f fs k)
begins_left n t f fs k h = if_left n (is_inner fs) _ _ (goes_with_left n (entered k) _ (entered_left_at n k.left k h) (λ a k h. h)) h

open_left : (n : ℕ) (t : Bool) (fs : List (ReaderFrame PairChain)) (k : Stock) → Left n k → LeftStep n (open_list (in_stock t) fs k)
open_left n t [] k h = begins_left n t (Listing None 0 Begun) [] k h
open_left n t (Quoting ∷ fs) k h = begins_left n t (Listing None 0 Begun) (Quoting ∷ fs) k h
open_left n t (Vectoring l ∷ fs) k h = begins_left n t (Listing None 0 Begun) (Vectoring l ∷ fs) k h
open_left n t (Listing l m Dotted ∷ fs) k h = h
open_left n t (Listing l m Begun ∷ fs) k h = begins_left n t (Listing None 0 Begun) (Listing l m Begun ∷ fs) k h
open_left n t (Listing l m Going ∷ fs) k h = begins_left n t (Listing None 0 Begun) (Listing l m Going ∷ fs) k h
open_left n t (Listing l m Shut ∷ fs) k h = begins_left n t (Listing None 0 Begun) (Listing l m Shut ∷ fs) k h

close_left : (n : ℕ) (t : Bool) (fs : List (ReaderFrame PairChain)) (k : Stock) → Left n k → LeftStep n (close_list (in_stock t) fs k)
close_left n t [] k h = tt
close_left n t (Quoting ∷ fs) k h = tt
close_left n t (Vectoring l ∷ fs) k h = tt
close_left n t (Listing l m Dotted ∷ fs) k h = tt
close_left n t (Listing l zero Begun ∷ fs) k h = goes_after_left n _ (value_left n t (stock.first_of_chain l) fs (left (in_stock t) fs k) (level_left_at n (is_inner fs) k h))
close_left n t (Listing l zero Going ∷ fs) k h = goes_after_left n _ (value_left n t (stock.first_of_chain l) fs (left (in_stock t) fs k) (level_left_at n (is_inner fs) k h))
close_left n t (Listing l zero Shut ∷ fs) k h = goes_after_left n _ (value_left n t (stock.first_of_chain l) fs (left (in_stock t) fs k) (level_left_at n (is_inner fs) k h))
close_left n t (Listing l (suc m) Shut ∷ fs) k h = h
close_left n t (Listing l (suc m) Begun ∷ fs) k h = goes_with_left n (chain_ended l nil_value k) _ (ended_left n l nil_value k h) (λ l k h. h)
close_left n t (Listing l (suc m) Going ∷ fs) k h = goes_with_left n (chain_ended l nil_value k) _ (ended_left n l nil_value k h) (λ l k h. h)

dot_left : (n : ℕ) (t : Bool) (fs : List (ReaderFrame PairChain)) (k : Stock) → Left n k → LeftStep n (dot (in_stock t) fs k)
dot_left n t [] k h = tt
dot_left n t (Quoting ∷ fs) k h = tt
dot_left n t (Vectoring l ∷ fs) k h = tt
dot_left n t (Listing l m Begun ∷ fs) k h = tt
dot_left n t (Listing l m Going ∷ fs) k h = h
dot_left n t (Listing l m Dotted ∷ fs) k h = tt
dot_left n t (Listing l m Shut ∷ fs) k h = tt

close_vector_left : (n : ℕ) (t : Bool) (fs : List (ReaderFrame PairChain)) (k : Stock) → Left n k → LeftStep n (close_vector (in_stock t) fs k)
close_vector_left n t [] k h = tt
close_vector_left n t (Quoting ∷ fs) k h = tt
close_vector_left n t (Listing l m p ∷ fs) k h = tt
close_vector_left n t (Vectoring l ∷ fs) k h = goes_after_left n _ (ended_with_left n (vector_made l k) _ (vector_left n l k h) (λ v k h. value_left n t v fs (left (in_stock t) fs k) (level_left_at n (is_inner fs) k h)))

mark_left : (n : ℕ) (t : Bool) (mark : Mark) (fs : List (ReaderFrame PairChain)) (k : Stock) → Left n k → LeftStep n (at_mark (in_stock t) mark fs k)
mark_left n t Close fs k h = close_left n t fs k h
mark_left n t CloseVector fs k h = close_vector_left n t fs k h
mark_left n t Dot fs k h = dot_left n t fs k h
mark_left n t Open fs k h = if_left n (admits fs) _ _ (open_left n t fs k h) tt
mark_left n t OpenVector fs k h = if_left n (admits fs) _ _ (begins_left n t (Vectoring None) fs k h) tt
mark_left n t Quote fs k h = if_left n (admits fs) _ _ (begins_left n t Quoting fs k h) tt

in_word_left : (n : ℕ) (m : Mode) (fs : List (ReaderFrame PairChain)) (k : Stock) → Left n k → LeftStep n (in_word m fs k)
in_word_left n m fs k h = if_left n (admits fs) _ _ h tt

class_left : (n : ℕ) (t : Bool) (c : Class) (b : ℕ) (fs : List (ReaderFrame PairChain)) (k : Stock) → Left n k → LeftStep n (at_class (in_stock t) c b fs k)
class_left n t Blank b fs k h = h
class_left n t Percent b fs k h = h
class_left n t (Marks mark) b fs k h = mark_left n t mark fs k h
class_left n t Text b fs k h = in_word_left n (InText []) fs k h
class_left n t Escape b fs k h = in_word_left n (InEscape []) fs k h
class_left n t Letter b fs k h = in_word_left n (InName (raised b ∷ [])) fs k h
class_left n t Digit b fs k h = in_word_left n (InNumber false (b - 48)) fs k h
class_left n t Sign b fs k h = in_word_left n (AfterSign b) fs k h
class_left n t Special b fs k h = if_left n (admits fs) _ _ (goes_after_left n _ (atom_ended_left n t (Identifier (b ∷ [])) fs k h)) tt
class_left n t Nothing b fs k h = tt

goes_before_left : (n : ℕ) (t : Bool) (b : ℕ) (e : Ended Stock Tagged PairChain Stop) → LeftEnded n e → LeftStep n (goes_before (in_stock t) b e)
goes_before_left n t b (Whole v k) h = tt
goes_before_left n t b (Inside fs k) h = class_left n t (class_of b) b fs k h
goes_before_left n t b (Lacks s k) h = tt

before_left : (n : ℕ) (t : Bool) (a : Atom) (b : ℕ) (fs : List (ReaderFrame PairChain)) (k : Stock) → Left n k → LeftStep n (atom_before (in_stock t) a b fs k)
before_left n t a b fs k h = goes_before_left n t b _ (atom_ended_left n t a fs k h)

grown_left : (n most : ℕ) (bytes : List ℕ) (m : Mode) (fs : List (ReaderFrame PairChain)) (k : Stock) → Left n k → LeftStep n (grown_to most bytes m fs k)
grown_left n most bytes m fs k h = if_left n (nat_lt (length bytes) most) _ _ h tt

number_left : (n : ℕ) (minus : Bool) (m : ℕ) (fs : List (ReaderFrame PairChain)) (k : Stock) → Left n k → LeftStep n (in_number minus m fs k)
number_left n minus m fs k h = if_left n (if minus then nat_le m (2 ^ 59) else nat_lt m (2 ^ 59)) (Goes (InNumber minus m) fs k) (Refuses k) h tt

step_left : (n : ℕ) (t : Bool) (m : Mode) (b : ℕ) (fs : List (ReaderFrame PairChain)) (k : Stock) → Left n k → LeftStep n (reader_step (in_stock t) m b fs k)
step_left n t Gap b fs k h = class_left n t (class_of b) b fs k h
step_left n t Comment b fs k h = h
step_left n t (InName cs) b fs k h =
    if_left n (is_name_byte b) _ _ (grown_left n 255 cs (InName (cs ++ raised b ∷ [])) fs k h)
    (if_left n (b == 33) _ _ (grown_left n 255 cs (InEscape cs) fs k h) (before_left n t (Identifier cs) b fs k h))
step_left n t (InEscape cs) b fs k h = h
step_left n t (AfterSign c) b fs k h = if_left n (is_digit b) _ _ h (before_left n t (Identifier (c ∷ [])) b fs k h)
step_left n t (InNumber minus m) b fs k h = if_left n (is_digit b) _ _ (number_left n minus (10 * m + (b - 48)) fs k h) (before_left n t (Integer (signed minus m)) b fs k h)
step_left n t (InText cs) b fs k h = if_left n (b == 34) _ _ h (grown_left n 65535 cs (InText (cs ++ b ∷ [])) fs k h)
step_left n t (AfterQuote cs) b fs k h = if_left n (b == 34) _ _ (grown_left n 65535 cs (InText (cs ++ 34 ∷ [])) fs k h) (before_left n t (String cs) b fs k h)

-- as many turns are left behind a byte that goes on
pub goes_left : (t : Bool) (m next : Mode) (b : ℕ) (fs more : List (ReaderFrame PairChain)) (k made : Stock) → reader_step (in_stock t) m b fs k ≡ Goes next more made → count_turns_left made.counts ≡ count_turns_left k.counts
goes_left t m next b fs more k made e = subst (λ (x : ReaderStep Stock Tagged PairChain Stop). LeftStep (count_turns_left k.counts) x) e (step_left (count_turns_left k.counts) t m b fs k refl)

-- ---- the measure

pub measure_falls : (before after : Bool) (turns turns_after number number_after : ℕ) → after ≡ before → (before ≡ true → turns_after < turns) → (before ≡ false → number_after < number) → (if after then turns_after else number_after) < (if before then turns else number)
measure_falls true after turns turns_after number number_after same one other = rw same (one refl)
measure_falls false after turns turns_after number number_after same one other = rw same (other refl)

-- where bytes take turns, fewer are left behind a byte
pub turns_fall : (turns : Bool) (old new last : World) (o : Option ℕ) (b : ℕ) → o ≡ Some b → turns ≡ true → IsGiven turns old new o → count_turns_left last.counts ≡ count_turns_left new.counts → count_turns_left last.counts < count_turns_left old.counts
turns_fall turns old new last o b is takes given same =
    let turn : TakesTurn old new = subst (λ (t : Bool). IsGiven t old new (Some b)) takes (subst (λ (o : Option ℕ). IsGiven turns old new o) is given) in
    let less : count_turns_left (ticked old.counts) < count_turns_left old.counts = turn_taken old.counts turn.some in
    let counted : count_turns_left new.counts ≡ count_turns_left (ticked old.counts) = ap (λ (c : WorldCounts). count_turns_left c) turn.counted in
    omega (arith, less, counted, same)
