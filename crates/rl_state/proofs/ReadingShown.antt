-- A text is read in a stock as the definition reads it in a state that the world of the stock shows: byte by byte, from lists that have begun alike, each made behind those around it.
use Rattle.std.proofs.Common.{◌≡◌, ℕ, zero, suc, ◌^◌, ◌+◌, ◌-◌, ◌*◌, ◌<◌, ◌≤◌, ◌==◌, nat_lt, nat_le, Bool, true, false, if◌then◌else◌, List, [], ◌∷◌, ◌++◌, length, Some, None, refl, sym, ap, subst, ◌∙◌, arith}
use Rattle.std.proofs.lemmas.Bool.{leb-true, leb-false, ltb-true}
use Rattle.std.proofs.lemmas.List.{length-append}
use Rattle.rl_tags.specs.Tagged.{Tagged, VectorAt}
use Rattle.rl_tree.specs.Bytes.{is_digit, is_name_byte, raised}
use Rattle.rl_tree.specs.Value.{Value}
use Rattle.rl_cells.specs.Cell.{Cell, VectorCell, cdr_in}
use Rattle.rl_syms.specs.Laws.{AreIdentifiers}
use Rattle.rl_syms.specs.Table.{nil_value}
use Rattle.rl_text.specs.Byte.{Mark, Open, Close, Dot, Quote, OpenVector, CloseVector, Class, Blank, Percent, Marks, Text, Escape, Letter, Digit, Sign, Special, Nothing, class_of}
use Rattle.rl_text.specs.Word.{Atom, Integer, Identifier, String, signed}
use Rattle.rl_text.specs.Maker.{Made, Has, Wants, Maker}
use Rattle.rl_text.specs.Reader.{Phase, Begun, Going, Dotted, Shut, ReaderFrame, Listing, Vectoring, Quoting, Mode, Gap, Comment, InName, InEscape, AfterSign, InNumber, InText, AfterQuote, is_inner, admits, Ended, Whole, Inside, Lacks, ended_with, left, value_ended, ReaderStep, Goes, Done, Refuses, Halts, goes_with, goes_after, group_begins, open_list, close_list, dot, close_vector, at_mark, atom_ended, in_word, at_class, goes_before, atom_before, reader_step, ReaderOutcome, Read, NoneLeft, Refused, Stopped, ends_after, at_end_between, at_end, after_step, after_turn, read_from, read_by}
use Rattle.rl_world.specs.declared.stop.Stop.{Stop}
use Rattle.rl_world.specs.declared.stop.Stop.TheVariants as stop
use Rattle.rl_world.specs.declared.world.World.{World}
use Rattle.rl_meaning.specs.Input.{ReadingPlace, byte_turn, ended_chain, enter, first_pair_of, in_state, leave, made_atom, made_in, make, quoted_value, vector_of_chain}
use Rattle.rl_meaning.specs.Lists.{Chain, list_extended}
use Rattle.rl_meaning.specs.Outcome as outcome
use Rattle.rl_meaning.specs.Outcome.{Outcome}
use Rattle.rl_meaning.specs.State.{Outside, State}
use Rattle.rl_meaning.specs.Symbols.{nil_value_of_state}
use Rattle.rl_read.specs.Stock.{PairChain, Stock, chain_ended, chain_extended, elements_of, entered, entered_at, first_of_chain, in_stock, level_left, object_made, turned, vector_made}
use Rattle.rl_state.specs.CellLaws.{AreCellLaws}
use Rattle.rl_state.specs.Ending.{stop_in}
use Rattle.rl_state.specs.Worlds.{WorldGrows}
use Rattle.rl_state.proofs.ChainsRise.{EndsWithin, IsLastPair, IsOpenIn, open_ends, rises_kept}
use Rattle.rl_state.proofs.Closed.{pair_inside}
use Rattle.rl_state.proofs.Made.{grows_refl}
use Rattle.rl_state.proofs.StockKept.{HangsWell, IsLastIn, KeepsTo, ShutWell, Stays, atom_stays, ended_stays, extended_hangs, keeps_less, keeps_on, keeps_same, quote_stays, turn_stays, vector_stays}
use Rattle.rl_state.proofs.StockShown.{EntersAs, IsChainAs, IsMadeAtom, IsShownAs, MakesAs, PlacesAs, atom_makes, chain_stays, ended_makes, enter_makes, extended_makes, first_shown, is_shown, leave_makes, nil_shown, quote_makes, shown_stays, stocked, turn_makes, vector_makes}
use Rattle.rl_state.proofs.Steps.{grows_trans}

-- what a word has so far may become a name
abbrev pub IsGoodMode : Mode → Type 0
IsGoodMode (InName cs) = (1 ≤ length cs) × (length cs ≤ 255)
IsGoodMode (InEscape cs) = length cs ≤ 254
IsGoodMode mode = Unit {0}

abbrev V : Type 0
V = Tagged

abbrev FramesL : Type 0
FramesL = List (ReaderFrame PairChain)

abbrev FramesK : Type 0
FramesK = List (ReaderFrame Chain)

module _ (w : World) (out : Outside) (laws : AreCellLaws) (ids : AreIdentifiers) where
  abbrev pub At : Stock → ReadingPlace → Type 0
  At k p = PlacesAs w out laws ids k p

  -- what lives stays, and the cells before a place
  pub record Onward (lo : ℕ) (old new : Stock) : Type 0 where
    pub grows : WorldGrows (stocked w old) (stocked w new)
    pub keeps : KeepsTo lo old.cells.cells new.cells.cells

  onward_on : (lo : ℕ) (a b c : Stock) → Onward lo a b → Onward lo b c → Onward lo a c
  onward_on lo a b c h k = record { grows = grows_trans _ _ _ h.grows k.grows; keeps = keeps_on lo a.cells.cells b.cells.cells c.cells.cells h.keeps k.keeps }

  onward_less : (lo hi : ℕ) (a b : Stock) → lo ≤ hi → Onward hi a b → Onward lo a b
  onward_less lo hi a b le h = record { grows = h.grows; keeps = keeps_less lo hi a.cells.cells b.cells.cells le h.keeps }

  onward_same : (lo : ℕ) (k : Stock) (p : ReadingPlace) → At k p → Onward lo k k
  onward_same lo k p at = record { grows = grows_refl _ _ refl at.0.world; keeps = keeps_same lo k.cells.cells }

  -- the same is wanting, and the outside is as at first
  abbrev pub StopsAlike : Stop → outcome.Stop → Stock → ReadingPlace → Type 0
  StopsAlike why x k p = (x ≡ stop_in k.cells.cells why) × (p.state.outside ≡ out)

  -- both make what is so related, or the same is wanting for both, or there are more cells than there may be
  data MadeAlike {A B : Type 0} (lo : ℕ) (from : Stock) (R : Stock → A → B → Type 0) : Made Stock A Stop → Made ReadingPlace B outcome.Stop → Type 0 where
    both_have : (a : A) (b : B) (k : Stock) (p : ReadingPlace) → R k a b → At k p → Onward lo from k → MadeAlike lo from R (Has a k) (Has b p)
    both_want : (why : Stop) (x : outcome.Stop) (k : Stock) (p : ReadingPlace) → StopsAlike why x k p → MadeAlike lo from R (Wants why k) (Wants x p)
    first_wants : (why : Stop) (k : Stock) (other : Made ReadingPlace B outcome.Stop) → 2 ^ 31 < length k.cells.cells → MadeAlike lo from R (Wants why k) other

  alike : {A B : Type 0} (lo : ℕ) (from : Stock) (R : Stock → A → B → Type 0) (x : Made Stock A Stop) (act : State → Outcome B) (p : ReadingPlace) → MakesAs w out from R x (act p.state) → Stays lo from.cells.cells x → At from p → MadeAlike lo from R x (make act p)
  alike lo from R (Has a k) act p h s at =
      subst (λ o. MadeAlike lo from R (Has a k) (made_in p.levels o)) (sym h.is) (both_have a h.value k (record { state = h.state; levels = p.levels }) h.related (h.stands, at.1 ∙ ap Some (sym h.left)) (record { grows = h.grows; keeps = s }))
  alike lo from R (Wants why k) act p h s at = subst (λ o. MadeAlike lo from R (Wants why k) (made_in p.levels o)) (sym h.is) (both_want why (stop_in k.cells.cells why) k (record { state = h.state; levels = p.levels }) (refl, h.outside))

  -- ---- what has begun

  -- a list that is not whole yet, with its last pair in these places
  abbrev IsListAs : ℕ → ℕ → Stock → PairChain → Chain → Type 0
  IsListAs lo hi k c d = IsChainAs w out laws ids k c d × IsLastIn lo hi c

  -- and of which a vector may be made
  abbrev IsOpenAs : ℕ → ℕ → Stock → PairChain → Chain → Type 0
  IsOpenAs lo hi k c d = IsChainAs w out laws ids k c d × IsLastIn lo hi c × IsOpenIn k.cells.cells lo hi c

  data FramesAs (k : Stock) : ℕ → FramesL → FramesK → Type 0 where
    no_frames : (hi : ℕ) → FramesAs k hi [] []
    listing : (hi lo : ℕ) (l : PairChain) (d : Chain) (n : ℕ) (p : Phase) (fs : FramesL) (gs : FramesK) → lo ≤ hi → IsListAs lo hi k l d → FramesAs k lo fs gs → FramesAs k hi (Listing l n p ∷ fs) (Listing d n p ∷ gs)
    vectoring : (hi lo : ℕ) (l : PairChain) (d : Chain) (fs : FramesL) (gs : FramesK) → lo ≤ hi → IsOpenAs lo hi k l d → FramesAs k lo fs gs → FramesAs k hi (Vectoring l ∷ fs) (Vectoring d ∷ gs)
    quoting : (hi : ℕ) (fs : FramesL) (gs : FramesK) → FramesAs k hi fs gs → FramesAs k hi (Quoting ∷ fs) (Quoting ∷ gs)

  list_kept : (lo hi : ℕ) (k j : Stock) (c : PairChain) (d : Chain) → Onward hi k j → IsListAs lo hi k c d → IsListAs lo hi j c d
  list_kept lo hi k j c d h e = (chain_stays w out laws ids k j c d h.grows e.0, e.1)

  open_kept : (lo hi : ℕ) (old new : List Cell) (c : PairChain) → KeepsTo hi old new → IsOpenIn old lo hi c → IsOpenIn new lo hi c
  open_kept lo hi old new None h e = tt
  open_kept lo hi old new (Some c) h e =
      let below = e.below in
      record {
        begin = e.begin;
        end = e.end;
        steps = e.steps;
        first = e.first;
        last = e.last;
        above = e.above;
        below = e.below;
        rises = rises_kept old new e.steps e.begin e.end (λ j l. h.stands j (omega (arith, l, below))) e.rises;
        nil = ap cdr_in (h.stands e.end e.below) ∙ e.nil;
      }

  vector_kept : (lo hi : ℕ) (k j : Stock) (c : PairChain) (d : Chain) → Onward hi k j → IsOpenAs lo hi k c d → IsOpenAs lo hi j c d
  vector_kept lo hi k j c d h e = (chain_stays w out laws ids k j c d h.grows e.0, e.1, open_kept lo hi k.cells.cells j.cells.cells c h.keeps e.2)

  frames_kept : (k j : Stock) (hi : ℕ) → Onward hi k j → (fs : FramesL) (gs : FramesK) → FramesAs k hi fs gs → FramesAs j hi fs gs
  frames_kept k j hi h fs gs (no_frames hi') = no_frames hi
  frames_kept k j hi h fs gs (listing hi' lo l d n p fs' gs' le e f) = listing hi lo l d n p fs' gs' le (list_kept lo hi k j l d h e) (frames_kept k j lo (onward_less lo hi k j le h) fs' gs' f)
  frames_kept k j hi h fs gs (vectoring hi' lo l d fs' gs' le e f) = vectoring hi lo l d fs' gs' le (vector_kept lo hi k j l d h e) (frames_kept k j lo (onward_less lo hi k j le h) fs' gs' f)
  frames_kept k j hi h fs gs (quoting hi' fs' gs' f) = quoting hi fs' gs' (frames_kept k j hi h fs' gs' f)

  record Framed (k : Stock) (fs : FramesL) (gs : FramesK) : Type 0 where
    hi : ℕ
    within : hi ≤ length k.cells.cells
    frames : FramesAs k hi fs gs

  framed_on : (k j : Stock) (fs : FramesL) (gs : FramesK) (f : Framed k fs gs) → Onward f.hi k j → Framed j fs gs
  framed_on k j fs gs f h = record { hi = f.hi; within = (let a = f.within in let b = h.keeps.longer in omega (arith, a, b)); frames = frames_kept k j f.hi h fs gs f.frames }

  -- ---- how things end

  data EndsAs : Ended Stock V PairChain Stop → Ended ReadingPlace Value Chain outcome.Stop → Type 0 where
    whole : (v : V) (u : Value) (k : Stock) (p : ReadingPlace) → IsShownAs w out k v u → At k p → EndsAs (Whole v k) (Whole u p)
    inside : (fs : FramesL) (gs : FramesK) (k : Stock) (p : ReadingPlace) → Framed k fs gs → At k p → EndsAs (Inside fs k) (Inside gs p)
    lack : (why : Stop) (x : outcome.Stop) (k : Stock) (p : ReadingPlace) → StopsAlike why x k p → EndsAs (Lacks why k) (Lacks x p)
    first_lacks : (why : Stop) (k : Stock) (other : Ended ReadingPlace Value Chain outcome.Stop) → 2 ^ 31 < length k.cells.cells → EndsAs (Lacks why k) other

  data StepsAs : ReaderStep Stock V PairChain Stop → ReaderStep ReadingPlace Value Chain outcome.Stop → Type 0 where
    goes : (mode : Mode) (fs : FramesL) (gs : FramesK) (k : Stock) (p : ReadingPlace) → IsGoodMode mode → Framed k fs gs → At k p → StepsAs (Goes mode fs k) (Goes mode gs p)
    done : (v : V) (u : Value) (used : Bool) (k : Stock) (p : ReadingPlace) → IsShownAs w out k v u → At k p → StepsAs (Done v used k) (Done u used p)
    refuses : (k : Stock) (p : ReadingPlace) → At k p → StepsAs (Refuses k) (Refuses p)
    halt : (why : Stop) (x : outcome.Stop) (k : Stock) (p : ReadingPlace) → StopsAlike why x k p → StepsAs (Halts why k) (Halts x p)
    first_halts : (why : Stop) (k : Stock) (other : ReaderStep ReadingPlace Value Chain outcome.Stop) → 2 ^ 31 < length k.cells.cells → StepsAs (Halts why k) other

  -- a text ends for both in the same way and with the same bytes left, or there are more cells than there may be
  pub data OutcomesAs : ReaderOutcome Stock V Stop → ReaderOutcome ReadingPlace Value outcome.Stop → Type 0 where
    both_read : (v : V) (u : Value) (k : Stock) (p : ReadingPlace) (rest : List ℕ) → IsShownAs w out k v u → At k p → OutcomesAs (Read v k rest) (Read u p rest)
    both_find_none : (k : Stock) (p : ReadingPlace) → At k p → OutcomesAs (NoneLeft k) (NoneLeft p)
    both_refuse : (k : Stock) (p : ReadingPlace) (from : List ℕ) → At k p → OutcomesAs (Refused k from) (Refused p from)
    both_stop : (why : Stop) (x : outcome.Stop) (k : Stock) (p : ReadingPlace) (rest : List ℕ) → StopsAlike why x k p → OutcomesAs (Stopped why k rest) (Stopped x p rest)
    first_stops : (why : Stop) (k : Stock) (rest : List ℕ) (other : ReaderOutcome ReadingPlace Value outcome.Stop) → 2 ^ 31 < length k.cells.cells → OutcomesAs (Stopped why k rest) other

  if_steps : (b : Bool) (x y : ReaderStep Stock V PairChain Stop) (z t : ReaderStep ReadingPlace Value Chain outcome.Stop) → StepsAs x z → StepsAs y t → StepsAs (if b then x else y) (if b then z else t)
  if_steps true x y z t h k = h
  if_steps false x y z t h k = k

  admitted_at : (hi : ℕ) (fs : FramesL) (gs : FramesK) (k : Stock) (p : ReadingPlace) (x : ReaderStep Stock V PairChain Stop) (y : ReaderStep ReadingPlace Value Chain outcome.Stop) → FramesAs k hi fs gs → At k p → StepsAs x y → StepsAs (if admits fs then x else Refuses k) (if admits gs then y else Refuses p)
  admitted_at hi fs gs k p x y (no_frames hi') at h = h
  admitted_at hi fs gs k p x y (listing hi' lo l d n Begun fs' gs' le e f) at h = h
  admitted_at hi fs gs k p x y (listing hi' lo l d n Going fs' gs' le e f) at h = h
  admitted_at hi fs gs k p x y (listing hi' lo l d n Dotted fs' gs' le e f) at h = h
  admitted_at hi fs gs k p x y (listing hi' lo l d n Shut fs' gs' le e f) at h = refuses k p at
  admitted_at hi fs gs k p x y (vectoring hi' lo l d fs' gs' le e f) at h = h
  admitted_at hi fs gs k p x y (quoting hi' fs' gs' f) at h = h

  admitted : (fs : FramesL) (gs : FramesK) (k : Stock) (p : ReadingPlace) (x : ReaderStep Stock V PairChain Stop) (y : ReaderStep ReadingPlace Value Chain outcome.Stop) → Framed k fs gs → At k p → StepsAs x y → StepsAs (if admits fs then x else Refuses k) (if admits gs then y else Refuses p)
  admitted fs gs k p x y f at h = admitted_at f.hi fs gs k p x y f.frames at h

  if_inner : (hi : ℕ) (fs : FramesL) (gs : FramesK) (k : Stock) (x y : ReaderStep Stock V PairChain Stop) (z t : ReaderStep ReadingPlace Value Chain outcome.Stop) → FramesAs k hi fs gs → StepsAs x z → StepsAs y t → StepsAs (if is_inner fs then x else y) (if is_inner gs then z else t)
  if_inner hi fs gs k x y z t (no_frames hi') h g = g
  if_inner hi fs gs k x y z t (listing hi' lo l d n Begun fs' gs' le e f) h g = h
  if_inner hi fs gs k x y z t (listing hi' lo l d n Going fs' gs' le e f) h g = h
  if_inner hi fs gs k x y z t (listing hi' lo l d n Dotted fs' gs' le e f) h g = g
  if_inner hi fs gs k x y z t (listing hi' lo l d n Shut fs' gs' le e f) h g = h
  if_inner hi fs gs k x y z t (vectoring hi' lo l d fs' gs' le e f) h g = h
  if_inner hi fs gs k x y z t (quoting hi' fs' gs' f) h g = h

  ended_with_ends : {A B : Type 0} (lo : ℕ) (from : Stock) (R : Stock → A → B → Type 0) (x : Made Stock A Stop) (y : Made ReadingPlace B outcome.Stop) (f : A → Stock → Ended Stock V PairChain Stop) (g : B → ReadingPlace → Ended ReadingPlace Value Chain outcome.Stop) → MadeAlike lo from R x y
      → ((a : A) (b : B) (k : Stock) (p : ReadingPlace) → R k a b → At k p → Onward lo from k → EndsAs (f a k) (g b p)) → EndsAs (ended_with x f) (ended_with y g)
  ended_with_ends lo from R x y f g (both_have a b k p e h c) next = next a b k p e h c
  ended_with_ends lo from R x y f g (both_want why v k p h) next = lack why v k p h
  ended_with_ends lo from R x y f g (first_wants why k other h) next = first_lacks why k _ h

  goes_with_steps : {A B : Type 0} (lo : ℕ) (from : Stock) (R : Stock → A → B → Type 0) (x : Made Stock A Stop) (y : Made ReadingPlace B outcome.Stop) (f : A → Stock → ReaderStep Stock V PairChain Stop) (g : B → ReadingPlace → ReaderStep ReadingPlace Value Chain outcome.Stop) → MadeAlike lo from R x y
      → ((a : A) (b : B) (k : Stock) (p : ReadingPlace) → R k a b → At k p → Onward lo from k → StepsAs (f a k) (g b p)) → StepsAs (goes_with x f) (goes_with y g)
  goes_with_steps lo from R x y f g (both_have a b k p e h c) next = next a b k p e h c
  goes_with_steps lo from R x y f g (both_want why v k p h) next = halt why v k p h
  goes_with_steps lo from R x y f g (first_wants why k other h) next = first_halts why k _ h

  goes_after_steps : (d : Ended Stock V PairChain Stop) (e : Ended ReadingPlace Value Chain outcome.Stop) → EndsAs d e → StepsAs (goes_after d) (goes_after e)
  goes_after_steps d e (whole v u k p h at) = done v u true k p h at
  goes_after_steps d e (inside fs gs k p f at) = goes Gap fs gs k p tt f at
  goes_after_steps d e (lack why x k p h) = halt why x k p h
  goes_after_steps d e (first_lacks why k other h) = first_halts why k _ h

  abbrev Any : Stock → Unit {0} → Unit {0} → Type 0
  Any k a b = Unit {0}

  -- ---- levels

  abbrev OnwardMade : ℕ → Stock → Made Stock (Unit {0}) Stop → Type 0
  OnwardMade hi k (Has u j) = Onward hi k j
  OnwardMade hi k (Wants why j) = Unit {0}

  entered_onward : (hi : ℕ) (k : Stock) (p : ReadingPlace) → At k p → (n : ℕ) → OnwardMade hi k (entered_at n k)
  entered_onward hi k p at zero = tt
  entered_onward hi k p at (suc n) = record { grows = grows_refl _ _ refl at.0.world; keeps = keeps_same hi k.cells.cells }

  entered_alike : (hi : ℕ) (k : Stock) (x : Made Stock (Unit {0}) Stop) (y : Made ReadingPlace (Unit {0}) outcome.Stop) → EntersAs w out laws ids x y → OnwardMade hi k x → MadeAlike hi k Any x y
  entered_alike hi k (Has u j) (Has v p) h o = both_have u v j p tt h o
  entered_alike hi k (Wants why j) (Wants x p) h o = both_want why x j p h
  entered_alike hi k (Has u j) (Wants x p) h o = absurd h
  entered_alike hi k (Wants why j) (Has v p) h o = absurd h

  enter_alike : (hi : ℕ) (k : Stock) (p : ReadingPlace) → At k p → MadeAlike hi k Any (entered k) (enter p)
  enter_alike hi k p at = entered_alike hi k (entered k) (enter p) (enter_makes w out laws ids k p at) (entered_onward hi k p at k.left)

  -- ---- lists and vectors

  extended_list : (lo hi : ℕ) (c : PairChain) (d : Chain) (v : V) (u : Value) (k : Stock) (p : ReadingPlace) → lo ≤ hi → hi ≤ length k.cells.cells → IsListAs lo hi k c d → IsShownAs w out k v u → At k p
      → MadeAlike lo k (λ j c d. IsListAs lo (length j.cells.cells) j c d) (chain_extended c v k) (make (list_extended d u) p)
  extended_list lo hi c d v u k p le within e h at =
      go (chain_extended c v k) (extended_makes w out laws ids k c d v u p.state at.0 e.0 h) (extended_hangs laws.added lo k (omega (arith, le, within)) v c hi within e.1)
    where
      go : (x : Made Stock PairChain Stop) → MakesAs w out k (IsChainAs w out laws ids) x (list_extended d u p.state) → HangsWell lo k.cells.cells c x → MadeAlike lo k (λ j c d. IsListAs lo (length j.cells.cells) j c d) x (make (list_extended d u) p)
      go (Has c' j) m s = alike lo k (λ j c d. IsListAs lo (length j.cells.cells) j c d) (Has c' j) (list_extended d u) p (record { value = m.value; state = m.state; is = m.is; stands = m.stands; grows = m.grows; left = m.left; related = (m.related, s.last) }) s.keeps at
      go (Wants why j) m s = alike lo k (λ j c d. IsListAs lo (length j.cells.cells) j c d) (Wants why j) (list_extended d u) p m tt at

  extended_vector : (lo hi : ℕ) (c : PairChain) (d : Chain) (v : V) (u : Value) (k : Stock) (p : ReadingPlace) → lo ≤ hi → hi ≤ length k.cells.cells → IsOpenAs lo hi k c d → IsShownAs w out k v u → At k p
      → MadeAlike lo k (λ j c d. IsOpenAs lo (length j.cells.cells) j c d) (chain_extended c v k) (make (list_extended d u) p)
  extended_vector lo hi c d v u k p le within e h at =
      go (chain_extended c v k) (extended_makes w out laws ids k c d v u p.state at.0 e.0 h) (extended_hangs laws.added lo k (omega (arith, le, within)) v c hi within e.1)
    where
      go : (x : Made Stock PairChain Stop) → MakesAs w out k (IsChainAs w out laws ids) x (list_extended d u p.state) → HangsWell lo k.cells.cells c x → MadeAlike lo k (λ j c d. IsOpenAs lo (length j.cells.cells) j c d) x (make (list_extended d u) p)
      go (Has c' j) m s = alike lo k (λ j c d. IsOpenAs lo (length j.cells.cells) j c d) (Has c' j) (list_extended d u) p (record { value = m.value; state = m.state; is = m.is; stands = m.stands; grows = m.grows; left = m.left; related = (m.related, s.last, s.opens hi within e.2) }) s.keeps at
      go (Wants why j) m s = alike lo k (λ j c d. IsOpenAs lo (length j.cells.cells) j c d) (Wants why j) (list_extended d u) p m tt at

  ended_list : (lo hi : ℕ) (c : PairChain) (d : Chain) (v : V) (u : Value) (k : Stock) (p : ReadingPlace) → lo ≤ hi → hi ≤ length k.cells.cells → IsListAs lo hi k c d → IsShownAs w out k v u → At k p
      → MadeAlike lo k (λ j c d. IsListAs lo (length j.cells.cells) j c d) (chain_ended c v k) (make (ended_chain d u) p)
  ended_list lo hi c d v u k p le within e h at =
      go (chain_ended c v k) (ended_makes w out laws ids k c d v u p.state at.0 e.0 h) (ended_stays laws.added lo k (omega (arith, le, within)) v c hi within e.1)
    where
      go : (x : Made Stock PairChain Stop) → MakesAs w out k (IsChainAs w out laws ids) x (ended_chain d u p.state) → ShutWell laws.added lo k (omega (arith, le, within)) v x → MadeAlike lo k (λ j c d. IsListAs lo (length j.cells.cells) j c d) x (make (ended_chain d u) p)
      go (Has c' j) m s = alike lo k (λ j c d. IsListAs lo (length j.cells.cells) j c d) (Has c' j) (ended_chain d u) p (record { value = m.value; state = m.state; is = m.is; stands = m.stands; grows = m.grows; left = m.left; related = (m.related, s.1) }) s.0 at
      go (Wants why j) m s = alike lo k (λ j c d. IsListAs lo (length j.cells.cells) j c d) (Wants why j) (ended_chain d u) p m tt at

  last_pair : (k : Stock) (c : PairChain) (d : Chain) → IsChainAs w out laws ids k c d → IsLastPair k.cells.cells c
  last_pair k None None e = tt
  last_pair k None (Some d) e = absurd e
  last_pair k (Some c) None e = absurd e
  last_pair k (Some c) (Some d) e = e.1.0

  vector_alike : (lo hi : ℕ) (c : PairChain) (d : Chain) (k : Stock) (p : ReadingPlace) → lo ≤ length k.cells.cells → IsOpenAs lo hi k c d → At k p → MadeAlike lo k (IsShownAs w out) (vector_made c k) (make (vector_of_chain d) p)
  vector_alike lo hi c d k p within e at = go (nat_le (length xs) (2 ^ 31)) refl
    where
      xs : List Tagged
      xs = elements_of k.cells.cells c

      ends : EndsWithin k.cells.cells c
      ends = open_ends laws.changes k.cells.cells lo hi c (pair_inside k.cells.cells) (last_pair k c d e.0) e.2

      go : (b : Bool) → nat_le (length xs) (2 ^ 31) ≡ b → MadeAlike lo k (IsShownAs w out) (vector_made c k) (make (vector_of_chain d) p)
      go true few =
          let objects : length xs ≤ length p.state.store = subst (λ store. length xs ≤ length store) (sym at.0.shows.store) ends.objects_many in
          alike lo k (IsShownAs w out) (vector_made c k) (vector_of_chain d) p (vector_makes w out laws ids k c d p.state at.0 e.0 (leb-true (length xs) (2 ^ 31) few) objects) (vector_stays lo k.cells.cells within c k (keeps_same lo k.cells.cells)) at
      go false many =
          let past = leb-false (length xs) (2 ^ 31) many in
          let cells = ends.cells_many in
          subst (λ (x : Made Stock Tagged Stop). MadeAlike lo k (IsShownAs w out) x (make (vector_of_chain d) p)) (sym (ap (λ b. if b then object_made (λ n. VectorAt n) (VectorCell xs) k else Wants stop.Cells k) many)) (first_wants stop.Cells k _ (omega (arith, past, cells)))

  framed_listing : (at k j : Stock) (hi lo : ℕ) (l : PairChain) (d : Chain) (i : ℕ) (ph : Phase) (fs : FramesL) (gs : FramesK) → lo ≤ hi → hi ≤ length at.cells.cells → Onward hi at k → Onward lo k j → IsListAs lo (length j.cells.cells) j l d → FramesAs at lo fs gs
      → Framed j (Listing l i ph ∷ fs) (Listing d i ph ∷ gs)
  framed_listing at k j hi lo l d i ph fs gs le within c c' e f =
      let a = c.keeps.longer in
      let b = c'.keeps.longer in
      record { hi = length j.cells.cells; within = omega arith; frames = listing (length j.cells.cells) lo l d i ph fs gs (omega (arith, le, within, a, b)) e (frames_kept at j lo (onward_on lo at k j (onward_less lo hi at k le c) c') fs gs f) }

  framed_vectoring : (at k j : Stock) (hi lo : ℕ) (l : PairChain) (d : Chain) (fs : FramesL) (gs : FramesK) → lo ≤ hi → hi ≤ length at.cells.cells → Onward hi at k → Onward lo k j → IsOpenAs lo (length j.cells.cells) j l d → FramesAs at lo fs gs
      → Framed j (Vectoring l ∷ fs) (Vectoring d ∷ gs)
  framed_vectoring at k j hi lo l d fs gs le within c c' e f =
      let a = c.keeps.longer in
      let b = c'.keeps.longer in
      record { hi = length j.cells.cells; within = omega arith; frames = vectoring (length j.cells.cells) lo l d fs gs (omega (arith, le, within, a, b)) e (frames_kept at j lo (onward_on lo at k j (onward_less lo hi at k le c) c') fs gs f) }

  still_within : (hi : ℕ) (k j : Stock) → hi ≤ length k.cells.cells → Onward hi k j → hi ≤ length j.cells.cells
  still_within hi k j within c = let a = c.keeps.longer in omega (arith, within, a)

  module _ (turns : Bool) where
    abbrev m : Maker Stock V PairChain Stop
    m = in_stock turns

    abbrev n : Maker ReadingPlace Value Chain outcome.Stop
    n = in_state turns

    left_by_one : (lo : ℕ) (k : Stock) (p : ReadingPlace) → At k p → At (level_left k) (leave p) × Onward lo k (level_left k)
    left_by_one lo k p at = (leave_makes w out laws ids k p at, record { grows = grows_refl _ _ refl at.0.world; keeps = keeps_same lo k.cells.cells })

    left_alike : (lo hi : ℕ) (fs : FramesL) (gs : FramesK) (at k : Stock) (p : ReadingPlace) → FramesAs at hi fs gs → At k p → At (left m fs k) (left n gs p) × Onward lo k (left m fs k)
    left_alike lo hi fs gs at k p (no_frames hi') h = (h, onward_same lo k p h)
    left_alike lo hi fs gs at k p (listing hi' lo' l d i Begun fs' gs' le e f) h = left_by_one lo k p h
    left_alike lo hi fs gs at k p (listing hi' lo' l d i Going fs' gs' le e f) h = left_by_one lo k p h
    left_alike lo hi fs gs at k p (listing hi' lo' l d i Dotted fs' gs' le e f) h = (h, onward_same lo k p h)
    left_alike lo hi fs gs at k p (listing hi' lo' l d i Shut fs' gs' le e f) h = left_by_one lo k p h
    left_alike lo hi fs gs at k p (vectoring hi' lo' l d fs' gs' le e f) h = left_by_one lo k p h
    left_alike lo hi fs gs at k p (quoting hi' fs' gs' f) h = left_by_one lo k p h

    -- ---- an element ends

    abbrev Goes_on : Stock → ℕ → FramesL → FramesK → Type 0
    Goes_on at hi fs gs = (v : V) (u : Value) (k : Stock) (p : ReadingPlace) → Onward hi at k → IsShownAs w out k v u → At k p → EndsAs (value_ended m v fs k) (value_ended n u gs p)

    listing_goes_on : (at : Stock) (hi lo : ℕ) (l : PairChain) (d : Chain) (i : ℕ) (ph : Phase) (fs : FramesL) (gs : FramesK) → lo ≤ hi → hi ≤ length at.cells.cells → IsListAs lo hi at l d → FramesAs at lo fs gs → Goes_on at hi (Listing l i ph ∷ fs) (Listing d i ph ∷ gs)
    listing_goes_on at hi lo l d i Dotted fs gs le within e f v u k p c h a = ended_with_ends lo k _ _ _ _ _ (ended_list lo hi l d v u k p le (still_within hi at k within c) (list_kept lo hi at k l d c e) h a) (λ l d j q e a c'. inside _ _ j q (framed_listing at k j hi lo l d i Shut fs gs le within c c' e f) a)
    listing_goes_on at hi lo l d i Begun fs gs le within e f v u k p c h a = ended_with_ends lo k _ _ _ _ _ (extended_list lo hi l d v u k p le (still_within hi at k within c) (list_kept lo hi at k l d c e) h a) (λ l d j q e a c'. inside _ _ j q (framed_listing at k j hi lo l d i Going fs gs le within c c' e f) a)
    listing_goes_on at hi lo l d i Going fs gs le within e f v u k p c h a = ended_with_ends lo k _ _ _ _ _ (extended_list lo hi l d v u k p le (still_within hi at k within c) (list_kept lo hi at k l d c e) h a) (λ l d j q e a c'. inside _ _ j q (framed_listing at k j hi lo l d i Going fs gs le within c c' e f) a)
    listing_goes_on at hi lo l d i Shut fs gs le within e f v u k p c h a = ended_with_ends lo k _ _ _ _ _ (extended_list lo hi l d v u k p le (still_within hi at k within c) (list_kept lo hi at k l d c e) h a) (λ l d j q e a c'. inside _ _ j q (framed_listing at k j hi lo l d i Going fs gs le within c c' e f) a)

    value_ends : (at : Stock) (hi : ℕ) → hi ≤ length at.cells.cells → (fs : FramesL) (gs : FramesK) → FramesAs at hi fs gs → Goes_on at hi fs gs
    value_ends at hi within fs gs (no_frames hi') v u k p c h a = whole v u k p h a
    value_ends at hi within fs gs (listing hi' lo l d i ph fs' gs' le e f) v u k p c h a = listing_goes_on at hi lo l d i ph fs' gs' le within e f v u k p c h a
    value_ends at hi within fs gs (vectoring hi' lo l d fs' gs' le e f) v u k p c h a =
        ended_with_ends lo k _ _ _ _ _ (extended_vector lo hi l d v u k p le (still_within hi at k within c) (vector_kept lo hi at k l d c e) h a) (λ l d j q e a c'. inside _ _ j q (framed_vectoring at k j hi lo l d fs' gs' le within c c' e f) a)
    value_ends at hi within fs gs (quoting hi' fs' gs' f) v u k p c h a =
        ended_with_ends hi k _ _ _ _ _ (alike hi k _ _ (quoted_value u) p (quote_makes w out laws ids k v u p.state a.0 h) (quote_stays hi k.cells.cells (still_within hi at k within c) v k (keeps_same hi k.cells.cells)) a)
        (λ q x j r e a c'.
        let after = left_alike hi hi fs' gs' at j r f a in
        value_ends at hi within fs' gs' f q x (left m fs' j) (left n gs' r) (onward_on hi at j (left m fs' j) (onward_on hi at k j c c') after.1) (shown_stays w out j (left m fs' j) q x after.1.grows (is_shown w out j q x e)) after.0)

    -- a list or a vector has ended, so its level is left first
    ends_left : (v : V) (u : Value) (hi : ℕ) (fs : FramesL) (gs : FramesK) (k : Stock) (p : ReadingPlace) → hi ≤ length k.cells.cells → FramesAs k hi fs gs → IsShownAs w out k v u → At k p → EndsAs (value_ended m v fs (left m fs k)) (value_ended n u gs (left n gs p))
    ends_left v u hi fs gs k p within f h a =
        let after = left_alike hi hi fs gs k k p f a in
        value_ends k hi within fs gs f v u (left m fs k) (left n gs p) after.1 (shown_stays w out k (left m fs k) v u after.1.grows h) after.0

    atom_ends : (b : Atom) (fs : FramesL) (gs : FramesK) (k : Stock) (p : ReadingPlace) → IsMadeAtom w out b → Framed k fs gs → At k p → EndsAs (atom_ended m b fs k) (atom_ended n b gs p)
    atom_ends b fs gs k p good f a =
        ended_with_ends f.hi k _ _ _ _ _ (alike f.hi k _ _ (made_atom b) p (atom_makes w out laws ids k b p.state a.0 good) (atom_stays f.hi k.cells.cells f.within b k (keeps_same f.hi k.cells.cells)) a)
        (λ v u j q e a c. value_ends k f.hi f.within fs gs f.frames v u j q c e a)

    -- ---- marks

    begins_steps : (x : ReaderFrame PairChain) (y : ReaderFrame Chain) (fs : FramesL) (gs : FramesK) (k : Stock) (p : ReadingPlace) → Framed k fs gs → Framed k (x ∷ fs) (y ∷ gs) → At k p → StepsAs (group_begins m x fs k) (group_begins n y gs p)
    begins_steps x y fs gs k p f g a =
        if_inner f.hi fs gs k _ _ _ _ f.frames (goes_with_steps g.hi k Any _ _ _ _ (enter_alike g.hi k p a) (λ s t j q e a c. goes Gap _ _ j q tt (framed_on k j _ _ g c) a)) (goes Gap _ _ k p tt g a)

    new_listing : (k : Stock) (fs : FramesL) (gs : FramesK) → Framed k fs gs → Framed k (Listing None 0 Begun ∷ fs) (Listing None 0 Begun ∷ gs)
    new_listing k fs gs f = record { hi = f.hi; within = f.within; frames = listing f.hi f.hi None None 0 Begun fs gs (omega arith) (tt, tt) f.frames }

    new_vectoring : (k : Stock) (fs : FramesL) (gs : FramesK) → Framed k fs gs → Framed k (Vectoring None ∷ fs) (Vectoring None ∷ gs)
    new_vectoring k fs gs f = record { hi = f.hi; within = f.within; frames = vectoring f.hi f.hi None None fs gs (omega arith) (tt, tt, tt) f.frames }

    new_quoting : (k : Stock) (fs : FramesL) (gs : FramesK) → Framed k fs gs → Framed k (Quoting ∷ fs) (Quoting ∷ gs)
    new_quoting k fs gs f = record { hi = f.hi; within = f.within; frames = quoting f.hi fs gs f.frames }

    list_begins : (fs : FramesL) (gs : FramesK) (k : Stock) (p : ReadingPlace) → Framed k fs gs → At k p → StepsAs (group_begins m (Listing None 0 Begun) fs k) (group_begins n (Listing None 0 Begun) gs p)
    list_begins fs gs k p f a = begins_steps _ _ fs gs k p f (new_listing k fs gs f) a

    framed : (hi : ℕ) (k : Stock) (fs : FramesL) (gs : FramesK) → hi ≤ length k.cells.cells → FramesAs k hi fs gs → Framed k fs gs
    framed hi k fs gs within f = record { hi = hi; within = within; frames = f }

    open_listing : (hi lo : ℕ) (l : PairChain) (d : Chain) (i : ℕ) (ph : Phase) (fs : FramesL) (gs : FramesK) (k : Stock) (p : ReadingPlace) → hi ≤ length k.cells.cells → lo ≤ hi → IsListAs lo hi k l d → FramesAs k lo fs gs → At k p → StepsAs (open_list m (Listing l i ph ∷ fs) k) (open_list n (Listing d i ph ∷ gs) p)
    open_listing hi lo l d i Begun fs gs k p within le e f a = list_begins _ _ k p (framed hi k _ _ within (listing hi lo l d i Begun fs gs le e f)) a
    open_listing hi lo l d i Going fs gs k p within le e f a = list_begins _ _ k p (framed hi k _ _ within (listing hi lo l d i Going fs gs le e f)) a
    open_listing hi lo l d i Dotted fs gs k p within le e f a = goes Gap _ _ k p tt (framed hi k _ _ within (listing hi lo l d (suc i) Begun fs gs le e f)) a
    open_listing hi lo l d i Shut fs gs k p within le e f a = list_begins _ _ k p (framed hi k _ _ within (listing hi lo l d i Shut fs gs le e f)) a

    open_steps : (hi : ℕ) (fs : FramesL) (gs : FramesK) (k : Stock) (p : ReadingPlace) → hi ≤ length k.cells.cells → FramesAs k hi fs gs → At k p → StepsAs (open_list m fs k) (open_list n gs p)
    open_steps hi fs gs k p within (no_frames hi') a = list_begins [] [] k p (framed hi k _ _ within (no_frames hi)) a
    open_steps hi fs gs k p within (listing hi' lo l d i ph fs' gs' le e f) a = open_listing hi lo l d i ph fs' gs' k p within le e f a
    open_steps hi fs gs k p within (vectoring hi' lo l d fs' gs' le e f) a = list_begins _ _ k p (framed hi k _ _ within (vectoring hi lo l d fs' gs' le e f)) a
    open_steps hi fs gs k p within (quoting hi' fs' gs' f) a = list_begins _ _ k p (framed hi k _ _ within (quoting hi fs' gs' f)) a

    list_closes : (hi lo : ℕ) (l : PairChain) (d : Chain) (fs : FramesL) (gs : FramesK) (k : Stock) (p : ReadingPlace) → hi ≤ length k.cells.cells → lo ≤ hi → IsListAs lo hi k l d → FramesAs k lo fs gs → At k p
        → StepsAs (goes_after (value_ended m (first_of_chain l) fs (left m fs k))) (goes_after (value_ended n (first_pair_of d) gs (left n gs p)))
    list_closes hi lo l d fs gs k p within le e f a = goes_after_steps _ _ (ends_left (first_of_chain l) (first_pair_of d) lo fs gs k p (omega (arith, within, le)) f (first_shown w out laws ids k l d p.state a.0 e.0) a)

    -- a list behind a dot ends with NIL
    inner_closes : (hi lo : ℕ) (l : PairChain) (d : Chain) (i : ℕ) (fs : FramesL) (gs : FramesK) (k : Stock) (p : ReadingPlace) → hi ≤ length k.cells.cells → lo ≤ hi → IsListAs lo hi k l d → FramesAs k lo fs gs → At k p
        → StepsAs (goes_with (m.ended l m.nil k) (λ l k. Goes Gap (Listing l i Shut ∷ fs) k)) (goes_with (n.ended d n.nil p) (λ d p. Goes Gap (Listing d i Shut ∷ gs) p))
    inner_closes hi lo l d i fs gs k p within le e f a =
        goes_with_steps lo k _ _ _ _ _ (ended_list lo hi l d nil_value nil_value_of_state k p le within e (nil_shown w out laws ids k p.state a.0) a)
        (λ l d j q e a' c. goes Gap _ _ j q tt (framed_listing k k j hi lo l d i Shut fs gs le within (onward_same hi k p a) c e f) a')

    close_listing : (hi lo : ℕ) (l : PairChain) (d : Chain) (i : ℕ) (ph : Phase) (fs : FramesL) (gs : FramesK) (k : Stock) (p : ReadingPlace) → hi ≤ length k.cells.cells → lo ≤ hi → IsListAs lo hi k l d → FramesAs k lo fs gs → At k p
        → StepsAs (close_list m (Listing l i ph ∷ fs) k) (close_list n (Listing d i ph ∷ gs) p)
    close_listing hi lo l d i Dotted fs gs k p within le e f a = refuses k p a
    close_listing hi lo l d zero Begun fs gs k p within le e f a = list_closes hi lo l d fs gs k p within le e f a
    close_listing hi lo l d zero Going fs gs k p within le e f a = list_closes hi lo l d fs gs k p within le e f a
    close_listing hi lo l d zero Shut fs gs k p within le e f a = list_closes hi lo l d fs gs k p within le e f a
    close_listing hi lo l d (suc i) Begun fs gs k p within le e f a = inner_closes hi lo l d i fs gs k p within le e f a
    close_listing hi lo l d (suc i) Going fs gs k p within le e f a = inner_closes hi lo l d i fs gs k p within le e f a
    close_listing hi lo l d (suc i) Shut fs gs k p within le e f a = goes Gap _ _ k p tt (framed hi k _ _ within (listing hi lo l d i Shut fs gs le e f)) a

    close_steps : (hi : ℕ) (fs : FramesL) (gs : FramesK) (k : Stock) (p : ReadingPlace) → hi ≤ length k.cells.cells → FramesAs k hi fs gs → At k p → StepsAs (close_list m fs k) (close_list n gs p)
    close_steps hi fs gs k p within (no_frames hi') a = refuses k p a
    close_steps hi fs gs k p within (listing hi' lo l d i ph fs' gs' le e f) a = close_listing hi lo l d i ph fs' gs' k p within le e f a
    close_steps hi fs gs k p within (vectoring hi' lo l d fs' gs' le e f) a = refuses k p a
    close_steps hi fs gs k p within (quoting hi' fs' gs' f) a = refuses k p a

    dot_steps : (hi : ℕ) (fs : FramesL) (gs : FramesK) (k : Stock) (p : ReadingPlace) → hi ≤ length k.cells.cells → FramesAs k hi fs gs → At k p → StepsAs (dot m fs k) (dot n gs p)
    dot_steps hi fs gs k p within (no_frames hi') a = refuses k p a
    dot_steps hi fs gs k p within (listing hi' lo l d i Begun fs' gs' le e f) a = refuses k p a
    dot_steps hi fs gs k p within (listing hi' lo l d i Going fs' gs' le e f) a = goes Gap _ _ k p tt (framed hi k _ _ within (listing hi lo l d i Dotted fs' gs' le e f)) a
    dot_steps hi fs gs k p within (listing hi' lo l d i Dotted fs' gs' le e f) a = refuses k p a
    dot_steps hi fs gs k p within (listing hi' lo l d i Shut fs' gs' le e f) a = refuses k p a
    dot_steps hi fs gs k p within (vectoring hi' lo l d fs' gs' le e f) a = refuses k p a
    dot_steps hi fs gs k p within (quoting hi' fs' gs' f) a = refuses k p a

    close_vector_steps : (hi : ℕ) (fs : FramesL) (gs : FramesK) (k : Stock) (p : ReadingPlace) → hi ≤ length k.cells.cells → FramesAs k hi fs gs → At k p → StepsAs (close_vector m fs k) (close_vector n gs p)
    close_vector_steps hi fs gs k p within (no_frames hi') a = refuses k p a
    close_vector_steps hi fs gs k p within (listing hi' lo l d i ph fs' gs' le e f) a = refuses k p a
    close_vector_steps hi fs gs k p within (vectoring hi' lo l d fs' gs' le e f) a =
        let low : lo ≤ length k.cells.cells = omega (arith, le, within) in
        goes_after_steps _ _ (ended_with_ends lo k _ _ _ _ _ (vector_alike lo hi l d k p low e a) (λ v u j q e' a' c. ends_left v u lo fs' gs' j q (still_within lo k j low c) (frames_kept k j lo c fs' gs' f) e' a'))
    close_vector_steps hi fs gs k p within (quoting hi' fs' gs' f) a = refuses k p a

    mark_steps : (mark : Mark) (fs : FramesL) (gs : FramesK) (k : Stock) (p : ReadingPlace) → Framed k fs gs → At k p → StepsAs (at_mark m mark fs k) (at_mark n mark gs p)
    mark_steps Close fs gs k p f a = close_steps f.hi fs gs k p f.within f.frames a
    mark_steps CloseVector fs gs k p f a = close_vector_steps f.hi fs gs k p f.within f.frames a
    mark_steps Dot fs gs k p f a = dot_steps f.hi fs gs k p f.within f.frames a
    mark_steps Open fs gs k p f a = admitted fs gs k p _ _ f a (open_steps f.hi fs gs k p f.within f.frames a)
    mark_steps OpenVector fs gs k p f a = admitted fs gs k p _ _ f a (begins_steps _ _ fs gs k p f (new_vectoring k fs gs f) a)
    mark_steps Quote fs gs k p f a = admitted fs gs k p _ _ f a (begins_steps _ _ fs gs k p f (new_quoting k fs gs f) a)

    -- ---- a byte

    word_steps : (mode : Mode) (fs : FramesL) (gs : FramesK) (k : Stock) (p : ReadingPlace) → IsGoodMode mode → Framed k fs gs → At k p → StepsAs (in_word mode fs k) (in_word mode gs p)
    word_steps mode fs gs k p good f a = admitted fs gs k p _ _ f a (goes mode fs gs k p good f a)

    class_steps : (c : Class) (b : ℕ) (fs : FramesL) (gs : FramesK) (k : Stock) (p : ReadingPlace) → Framed k fs gs → At k p → StepsAs (at_class m c b fs k) (at_class n c b gs p)
    class_steps Blank b fs gs k p f a = goes Gap fs gs k p tt f a
    class_steps Percent b fs gs k p f a = goes Comment fs gs k p tt f a
    class_steps (Marks mark) b fs gs k p f a = mark_steps mark fs gs k p f a
    class_steps Text b fs gs k p f a = word_steps (InText []) fs gs k p tt f a
    class_steps Escape b fs gs k p f a = word_steps (InEscape []) fs gs k p (omega arith) f a
    class_steps Letter b fs gs k p f a = word_steps (InName (raised b ∷ [])) fs gs k p (omega arith, omega arith) f a
    class_steps Digit b fs gs k p f a = word_steps (InNumber false (b - 48)) fs gs k p tt f a
    class_steps Sign b fs gs k p f a = word_steps (AfterSign b) fs gs k p tt f a
    class_steps Special b fs gs k p f a = admitted fs gs k p _ _ f a (goes_after_steps _ _ (atom_ends (Identifier (b ∷ [])) fs gs k p (omega arith, omega arith) f a))
    class_steps Nothing b fs gs k p f a = refuses k p a

    before_steps : (b : ℕ) (d : Ended Stock V PairChain Stop) (e : Ended ReadingPlace Value Chain outcome.Stop) → EndsAs d e → StepsAs (goes_before m b d) (goes_before n b e)
    before_steps b d e (whole v u k p h a) = done v u false k p h a
    before_steps b d e (inside fs gs k p f a) = class_steps (class_of b) b fs gs k p f a
    before_steps b d e (lack why x k p h) = halt why x k p h
    before_steps b d e (first_lacks why k other h) = first_halts why k _ h

    atom_before_steps : (c : Atom) (b : ℕ) (fs : FramesL) (gs : FramesK) (k : Stock) (p : ReadingPlace) → IsMadeAtom w out c → Framed k fs gs → At k p → StepsAs (atom_before m c b fs k) (atom_before n c b gs p)
    atom_before_steps c b fs gs k p good f a = before_steps b _ _ (atom_ends c fs gs k p good f a)

    -- what goes on only under a test of its own
    tested : (b : Bool) (mode : Mode) (fs : FramesL) (gs : FramesK) (k : Stock) (p : ReadingPlace) → (b ≡ true → IsGoodMode mode) → Framed k fs gs → At k p → StepsAs (if b then Goes mode fs k else Refuses k) (if b then Goes mode gs p else Refuses p)
    tested true mode fs gs k p good f a = goes mode fs gs k p (good refl) f a
    tested false mode fs gs k p good f a = refuses k p a

    name_longer : (cs : List ℕ) (x : ℕ) → length cs ≤ 254 → IsGoodMode (InName (cs ++ x ∷ []))
    name_longer cs x l = let long = length-append cs (x ∷ []) in (omega (arith, long), omega (arith, long, l))

    below_255 : (cs : List ℕ) → nat_lt (length cs) 255 ≡ true → length cs ≤ 254
    below_255 cs e = let l = ltb-true (length cs) 255 e in omega (arith, l)

    step_steps : (mode : Mode) (b : ℕ) (fs : FramesL) (gs : FramesK) (k : Stock) (p : ReadingPlace) → IsGoodMode mode → Framed k fs gs → At k p → StepsAs (reader_step m mode b fs k) (reader_step n mode b gs p)
    step_steps Gap b fs gs k p good f a = class_steps (class_of b) b fs gs k p f a
    step_steps Comment b fs gs k p good f a = comment_goes (b == 10)
      where
        comment_goes : (c : Bool) → StepsAs (Goes (if c then Gap else Comment) fs k) (Goes (if c then Gap else Comment) gs p)
        comment_goes true = goes Gap fs gs k p tt f a
        comment_goes false = goes Comment fs gs k p tt f a
    step_steps (InName cs) b fs gs k p good f a =
        if_steps (is_name_byte b) _ _ _ _ (tested (nat_lt (length cs) 255) (InName (cs ++ raised b ∷ [])) fs gs k p (λ e. name_longer cs (raised b) (below_255 cs e)) f a)
        (if_steps (b == 33) _ _ _ _ (tested (nat_lt (length cs) 255) (InEscape cs) fs gs k p (below_255 cs) f a) (atom_before_steps (Identifier cs) b fs gs k p good f a))
    step_steps (InEscape cs) b fs gs k p good f a = goes (InName (cs ++ b ∷ [])) fs gs k p (name_longer cs b good) f a
    step_steps (AfterSign c) b fs gs k p good f a = if_steps (is_digit b) _ _ _ _ (goes (InNumber (c == 45) (b - 48)) fs gs k p tt f a) (atom_before_steps (Identifier (c ∷ [])) b fs gs k p (omega arith, omega arith) f a)
    step_steps (InNumber minus i) b fs gs k p good f a =
        if_steps (is_digit b) _ _ _ _ (tested (if minus then nat_le (10 * i + (b - 48)) (2 ^ 59) else nat_lt (10 * i + (b - 48)) (2 ^ 59)) (InNumber minus (10 * i + (b - 48))) fs gs k p (λ e. tt) f a) (atom_before_steps (Integer (signed minus i)) b fs gs k p tt f a)
    step_steps (InText cs) b fs gs k p good f a = if_steps (b == 34) _ _ _ _ (goes (AfterQuote cs) fs gs k p tt f a) (tested (nat_lt (length cs) 65535) (InText (cs ++ b ∷ [])) fs gs k p (λ e. tt) f a)
    step_steps (AfterQuote cs) b fs gs k p good f a = if_steps (b == 34) _ _ _ _ (tested (nat_lt (length cs) 65535) (InText (cs ++ 34 ∷ [])) fs gs k p (λ e. tt) f a) (atom_before_steps (String cs) b fs gs k p tt f a)

    -- ---- a text

    after_ends : (d : Ended Stock V PairChain Stop) (e : Ended ReadingPlace Value Chain outcome.Stop) → EndsAs d e → OutcomesAs (ends_after d) (ends_after e)
    after_ends d e (whole v u k p h a) = both_read v u k p [] h a
    after_ends d e (inside fs gs k p f a) = both_refuse k p [] a
    after_ends d e (lack why x k p h) = both_stop why x k p [] h
    after_ends d e (first_lacks why k other h) = first_stops why k [] _ h

    between_ends : (hi : ℕ) (fs : FramesL) (gs : FramesK) (k : Stock) (p : ReadingPlace) → FramesAs k hi fs gs → At k p → OutcomesAs (at_end_between fs k) (at_end_between gs p)
    between_ends hi fs gs k p (no_frames hi') a = both_find_none k p a
    between_ends hi fs gs k p (listing hi' lo l d i ph fs' gs' le e f) a = both_refuse k p [] a
    between_ends hi fs gs k p (vectoring hi' lo l d fs' gs' le e f) a = both_refuse k p [] a
    between_ends hi fs gs k p (quoting hi' fs' gs' f) a = both_refuse k p [] a

    word_ends : (c : Atom) (fs : FramesL) (gs : FramesK) (k : Stock) (p : ReadingPlace) → IsMadeAtom w out c → Framed k fs gs → At k p → OutcomesAs (ends_after (atom_ended m c fs k)) (ends_after (atom_ended n c gs p))
    word_ends c fs gs k p good f a = after_ends _ _ (atom_ends c fs gs k p good f a)

    text_ends : (mode : Mode) (fs : FramesL) (gs : FramesK) (k : Stock) (p : ReadingPlace) → IsGoodMode mode → Framed k fs gs → At k p → OutcomesAs (at_end m mode fs k) (at_end n mode gs p)
    text_ends Gap fs gs k p good f a = between_ends f.hi fs gs k p f.frames a
    text_ends Comment fs gs k p good f a = between_ends f.hi fs gs k p f.frames a
    text_ends (InName cs) fs gs k p good f a = word_ends (Identifier cs) fs gs k p good f a
    text_ends (InEscape cs) fs gs k p good f a = both_refuse k p [] a
    text_ends (AfterSign c) fs gs k p good f a = word_ends (Identifier (c ∷ [])) fs gs k p (omega arith, omega arith) f a
    text_ends (InNumber minus i) fs gs k p good f a = word_ends (Integer (signed minus i)) fs gs k p tt f a
    text_ends (InText cs) fs gs k p good f a = both_refuse k p [] a
    text_ends (AfterQuote cs) fs gs k p good f a = word_ends (String cs) fs gs k p tt f a

    after_steps : (b : ℕ) (bs : List ℕ) (x : ReaderStep Stock V PairChain Stop) (y : ReaderStep ReadingPlace Value Chain outcome.Stop) (c : Mode → FramesL → Stock → ReaderOutcome Stock V Stop) (d : Mode → FramesK → ReadingPlace → ReaderOutcome ReadingPlace Value outcome.Stop) → StepsAs x y
        → ((mode : Mode) (fs : FramesL) (gs : FramesK) (k : Stock) (p : ReadingPlace) → IsGoodMode mode → Framed k fs gs → At k p → OutcomesAs (c mode fs k) (d mode gs p)) → OutcomesAs (after_step b bs x c) (after_step b bs y d)
    after_steps b bs x y c d (goes mode fs gs k p good f a) next = next mode fs gs k p good f a
    after_steps b bs x y c d (done v u used k p h a) next = both_read v u k p _ h a
    after_steps b bs x y c d (refuses k p a) next = both_refuse k p _ a
    after_steps b bs x y c d (halt why z k p h) next = both_stop why z k p _ h
    after_steps b bs x y c d (first_halts why k other h) next = first_stops why k _ _ h

    after_turns : (lo : ℕ) (bs : List ℕ) (from : Stock) (x : Made Stock (Unit {0}) Stop) (y : Made ReadingPlace (Unit {0}) outcome.Stop) (c : Stock → ReaderOutcome Stock V Stop) (d : ReadingPlace → ReaderOutcome ReadingPlace Value outcome.Stop) → MadeAlike lo from Any x y
        → ((k : Stock) (p : ReadingPlace) → Onward lo from k → At k p → OutcomesAs (c k) (d p)) → OutcomesAs (after_turn bs x c) (after_turn bs y d)
    after_turns lo bs from x y c d (both_have s t k p e a o) next = next k p o a
    after_turns lo bs from x y c d (both_want why v k p h) next = both_stop why v k p bs h
    after_turns lo bs from x y c d (first_wants why k other h) next = first_stops why k bs _ h

    turn_alike : (lo : ℕ) (k : Stock) (p : ReadingPlace) → lo ≤ length k.cells.cells → At k p → MadeAlike lo k Any (turned turns k) (make (byte_turn turns) p)
    turn_alike lo k p within a = alike lo k Any (turned turns k) (byte_turn turns) p (turn_makes w out laws ids turns k p.state a.0) (turn_stays lo k.cells.cells within turns k (keeps_same lo k.cells.cells)) a

    from_alike : (bytes : List ℕ) (mode : Mode) (fs : FramesL) (gs : FramesK) (k : Stock) (p : ReadingPlace) → IsGoodMode mode → Framed k fs gs → At k p → OutcomesAs (read_from m mode fs k bytes) (read_from n mode gs p bytes)
    from_alike [] mode fs gs k p good f a = text_ends mode fs gs k p good f a
    from_alike (b ∷ bs) mode fs gs k p good f a =
        after_turns f.hi bs k _ _ _ _ (turn_alike f.hi k p f.within a) (λ j q o a. after_steps b bs _ _ _ _ (step_steps mode b fs gs j q good (framed_on k j fs gs f o) a) (λ mode fs gs k p good f a. from_alike bs mode fs gs k p good f a))

    pub reads_alike : (k : Stock) (p : ReadingPlace) (bytes : List ℕ) → At k p → OutcomesAs (read_by m k bytes) (read_by n p bytes)
    reads_alike k p bytes a = from_alike bytes Gap [] [] k p tt (record { hi = 0; within = omega arith; frames = no_frames 0 }) a
