-- Reading of two runs side by side: they read the same, or one of them stops short.
use Rattle.std.proofs.Common.{◌==◌, ◌+◌, ◌-◌, if◌then◌else◌, ℕ, Bool, true, false, List, [], ◌∷◌, length, Option, Some, None, unwrap_or, subst, arith}
use Rattle.std.specs.Prelude.{drop}
use Rattle.rl_tree.specs.Value.{Value, Id}
use Rattle.rl_tree.specs.Name.{quote_name}
use Rattle.rl_text.specs.Word as word
use Rattle.rl_text.specs.Maker.{Made}
use Rattle.rl_text.specs.Makers.{MakerRelations, MadeRelated, both_have, both_want, first_wants, second_wants, AreMakersRelated, OutcomesRelated, both_read, both_find_none, both_refuse, both_stop, first_stops, second_stops, EndRelated}
use Rattle.rl_text.specs.Reader as reader
use Rattle.rl_meaning.specs.State.{State}
use Rattle.rl_meaning.specs.Outcome.{Outcome, Stop, Turns, Levels}
use Rattle.rl_meaning.specs.Symbols.{nil_value_of_state, nil_number, end_of_line_id, of_byte}
use Rattle.rl_meaning.specs.Errors.{unreadable}
use Rattle.rl_meaning.specs.Lists.{Chain}
use Rattle.rl_meaning.specs.Input.{ReadingPlace as Spot, made_in, made_atom, byte_turn, entered_from, enter, outer_levels, leave, first_pair_of, ended_chain, vector_of_chain, quoted_value, in_state, FormReading, Form, End, Unreadable, form_reading_of, read_bytes, with_input, byte_number, read_ended, read, character, readch_of, readch}
use Rattle.rl_meaning.specs.TwoRunsValues.{Names, Grows, Maybe, nothing, just, Each, end, SameValue, same_int, same_id}
use Rattle.rl_meaning.specs.TwoRunsStates.{Bounds, EntryPlace, Like, Roomier}
use Rattle.rl_meaning.specs.TwoRunsEnds.{IsLackingBound, IsMeeting, SameStop, done, failed, went, returned, stopped, parted}
use Rattle.rl_agrees.proofs.TwoRunsGrowth.{grows_refl, grows_trans, value_grows}
use Rattle.rl_agrees.proofs.TwoRunsWays.{right_short, left_short, Beside, Is, is, then_related, then_value, done_now, turn_related, deeper_related}
use Rattle.rl_agrees.proofs.TwoRunsObjects.{made_pair_related, made_string_related, made_vector_related, interned_related, fail_related}
use Rattle.rl_agrees.proofs.TwoRunsSpine.{list_elements_same}
use Rattle.rl_agrees.proofs.TwoRunsLists.{SameChain, no_chain, same_chain, chain_grows, extended_related, ended_related}
use Rattle.rl_agrees.proofs.TwoRunsAtoms.{of_byte_same}

-- ---- what is made

pub record SameSpot (bounds : Bounds) (n : Names) (ps : List EntryPlace) (p q : Spot) : Type 0 where
  pub state : Like bounds n ps p.state q.state
  pub levels : Roomier bounds p.levels q.levels

-- both stop for the same
pub data SameWants (bounds : Bounds) : Stop → Spot → Stop → Spot → Type 0 where
  same_wants : (why : Stop) (p q : Spot) → SameStop bounds why p.state q.state → SameWants bounds why p why q

-- under these bounds and beside these entries: names are links, which grow as objects are made
abbrev pub reading_beside : Bounds × List EntryPlace → MakerRelations Names Spot Value Chain Stop Spot Value Chain Stop
reading_beside g = record {
  grows = Grows;
  states = λ n p q. SameSpot g.0 n g.1 p q;
  values = SameValue;
  lists = SameChain;
  wants = λ why p x q. SameWants g.0 why p x q;
  wants_first = λ why p. IsLackingBound g.0 why;
  wants_second = λ why q. IsMeeting g.0 why;
}

-- the law over makers, so picked
abbrev pub ReadsBeside : Type 0
ReadsBeside = (g : Bounds × List EntryPlace) → EndRelated (reading_beside g)

abbrev SameMade : (bounds : Bounds) {A : Type 0} (R : Names → A → A → Type 0) (n : Names) (ps : List EntryPlace) → Made Spot A Stop → Made Spot A Stop → Type 0
SameMade bounds R n ps x y = MadeRelated (reading_beside (bounds, ps)) n R x y

module _ {bounds : Bounds} where
  turns_same : (n : Names) (ps : List EntryPlace) (s t : State) → Like bounds n ps s t → SameStop bounds Turns s t
  turns_same n ps s t l = record { outside = l.outside; turns = l.counts.turns; may = tt }

  made_same : {A : Type 0} {R : Names → A → A → Type 0} (n : Names) (ps : List EntryPlace) (l m : Levels) (o p : Outcome A) → Roomier bounds l m → Beside bounds R n ps o p → SameMade bounds R n ps (made_in l o) (made_in m p)
  made_same n ps l m _ _ r (done k a b s t g h e) = both_have k a b _ _ g h (record { state = e; levels = r })
  made_same n ps l m _ _ r (failed k z v w s t g h e) = both_want Turns Turns _ _ (same_wants Turns _ _ (turns_same k ps s t e))
  made_same n ps l m _ _ r (went k x s t g e) = both_want Turns Turns _ _ (same_wants Turns _ _ (turns_same k ps s t e))
  made_same n ps l m _ _ r (returned k v w s t g h e) = both_want Turns Turns _ _ (same_wants Turns _ _ (turns_same k ps s t e))
  made_same n ps l m _ _ r (stopped why s t e) = both_want why why _ _ (same_wants why _ _ e)
  made_same n ps l m _ _ r (parted _ _ (right_short o why t e)) = second_wants why _ _ e
  made_same n ps l m _ _ r (parted _ _ (left_short why s p e)) = first_wants why _ _ e

abbrev RoomierIn : Bounds → Names → Levels → Levels → Type 0
RoomierIn bounds n l m = Roomier bounds l m

module _ {bounds : Bounds} where
  entered_same : (n : Names) (ps : List EntryPlace) (l m : Levels) (o p : Outcome Levels) → Roomier bounds l m → Beside bounds (RoomierIn bounds) n ps o p → SameMade bounds {A = Unit {0}} (λ m a b. Unit {0}) n ps (entered_from l o) (entered_from m p)
  entered_same n ps l m _ _ r (done k a b s t g h e) = both_have k _ _ _ _ g tt (record { state = e; levels = h })
  entered_same n ps l m _ _ r (failed k z v w s t g h e) = both_want Turns Turns _ _ (same_wants Turns _ _ (turns_same k ps s t e))
  entered_same n ps l m _ _ r (went k x s t g e) = both_want Turns Turns _ _ (same_wants Turns _ _ (turns_same k ps s t e))
  entered_same n ps l m _ _ r (returned k v w s t g h e) = both_want Turns Turns _ _ (same_wants Turns _ _ (turns_same k ps s t e))
  entered_same n ps l m _ _ r (stopped why s t e) = both_want why why _ _ (same_wants why _ _ e)
  entered_same n ps l m _ _ r (parted _ _ (right_short o why t e)) = second_wants why _ _ e
  entered_same n ps l m _ _ r (parted _ _ (left_short why s p e)) = first_wants why _ _ e

  enter_same : (n : Names) (ps : List EntryPlace) (p q : Spot) → SameSpot bounds n ps p q → SameMade bounds {A = Unit {0}} (λ m a b. Unit {0}) n ps (enter p) (enter q)
  enter_same n ps p q h =
      entered_same n ps p.levels q.levels _ _ h.levels (deeper_related n ps 1 p.levels q.levels p.state q.state _ _ h.levels (λ l m r. done_now n ps l m p.state q.state r h.state))

  outer_same : (l m : Levels) → Roomier bounds l m → Roomier bounds (outer_levels l) (outer_levels m)
  outer_same None None r = record { is = tt; bound = r.bound }
  outer_same None (Some m) r = record { is = tt; bound = r.bound }
  outer_same (Some l) None r = record { is = tt; bound = r.bound }
  outer_same (Some l) (Some m) r = record { is = let k = r.is in omega (arith, k); bound = r.bound }

  leave_same : (n : Names) (ps : List EntryPlace) (p q : Spot) → SameSpot bounds n ps p q → SameSpot bounds n ps (leave p) (leave q)
  leave_same n ps p q h = record { state = h.state; levels = outer_same p.levels q.levels h.levels }

  byte_turn_related : (n : Names) (ps : List EntryPlace) (turns : Bool) (s t : State) → Like bounds n ps s t → Beside bounds {A = Unit {0}} Is n ps (byte_turn turns s) (byte_turn turns t)
  byte_turn_related n ps true s t l = turn_related n ps s t _ _ l (λ s t l. done_now n ps _ _ s t (is _) l)
  byte_turn_related n ps false s t l = done_now n ps _ _ s t (is _) l

  atom_related : (n : Names) (ps : List EntryPlace) (a : word.Atom) (s t : State) → Like bounds n ps s t → Beside bounds SameValue n ps (made_atom a s) (made_atom a t)
  atom_related n ps (word.Integer z) s t l = done_now n ps _ _ s t (same_int z) l
  atom_related n ps (word.Identifier name) s t l = interned_related n ps name s t l
  atom_related n ps (word.String bytes) s t l = made_string_related n ps bytes s t l

  ended_chain_related : (n : Names) (ps : List EntryPlace) (c d : Chain) (v w : Value) (s t : State) → SameChain n c d → SameValue n v w → Like bounds n ps s t → Beside bounds SameChain n ps (ended_chain c v s) (ended_chain d w t)
  ended_chain_related n ps c d v w s t h k l = then_value n ps _ _ _ _ (ended_related n ps c d v w s t h k l) (λ m a b s t g r l. done_now m ps c d s t (chain_grows n m c d h g) l)

first_same : (n : Names) (c d : Chain) → SameChain n c d → SameValue n (first_pair_of c) (first_pair_of d)
first_same n _ _ no_chain = same_id nil_number
first_same n _ _ (same_chain a b c d h k) = h

or_none : (n : Names) (o p : Option (List Value)) → Maybe (Each (SameValue n)) o p → Each (SameValue n) (unwrap_or o []) (unwrap_or p [])
or_none n _ _ nothing = end
or_none n _ _ (just xs ys h) = h

module _ {bounds : Bounds} where
  vector_related : (n : Names) (ps : List EntryPlace) (c d : Chain) (s t : State) → SameChain n c d → Like bounds n ps s t → Beside bounds SameValue n ps (vector_of_chain c s) (vector_of_chain d t)
  vector_related n ps c d s t h l = made_vector_related n ps _ _ s t l (or_none n _ _ (list_elements_same n ps s t (first_pair_of c) (first_pair_of d) l (first_same n c d h)))

  quoted_related : (n : Names) (ps : List EntryPlace) (v w : Value) (s t : State) → SameValue n v w → Like bounds n ps s t → Beside bounds SameValue n ps (quoted_value v s) (quoted_value w t)
  quoted_related n ps v w s t h l =
      then_value n ps _ _ _ _ (interned_related n ps quote_name s t l) (λ m a b s t g r l.
      then_value m ps _ _ _ _ (made_pair_related m ps v w nil_value_of_state nil_value_of_state s t l (value_grows n m v w h g) (same_id nil_number)) (λ k c d s t x e l.
      made_pair_related k ps a b c d s t l (value_grows m k a b r x) e))

-- ---- the maker whose two runs stand side by side

module _ {bounds : Bounds} where
  byte_same : (n : Names) (ps : List EntryPlace) (turns : Bool) (p q : Spot) → SameSpot bounds n ps p q → SameMade bounds {A = Unit {0}} (λ m a b. Unit {0}) n ps (made_in p.levels (byte_turn turns p.state)) (made_in q.levels (byte_turn turns q.state))
  byte_same n ps turns p q h = unnamed _ _ (made_same n ps p.levels q.levels _ _ h.levels (byte_turn_related n ps turns p.state q.state h.state))
    where
      unnamed : (x y : Made Spot (Unit {0}) Stop) → SameMade bounds {A = Unit {0}} Is n ps x y → SameMade bounds {A = Unit {0}} (λ m a b. Unit {0}) n ps x y
      unnamed x y (both_have m a b p q g e h) = both_have m a b p q g tt h
      unnamed x y (both_want why z p q h) = both_want why z p q h
      unnamed x y (first_wants why p other h) = first_wants why p other h
      unnamed x y (second_wants why q other h) = second_wants why q other h

  makers_beside : (ps : List EntryPlace) (turns : Bool) → AreMakersRelated (reading_beside (bounds, ps)) (in_state turns) (in_state turns)
  makers_beside ps turns = record {
    names = record { same = grows_refl; and_then = grows_trans; values = λ n m g v w h. value_grows n m v w h g; lists = λ n m g c d h. chain_grows n m c d h g };
    turn = λ n p q h. byte_same n ps turns p q h;
    enter = λ n p q h. enter_same n ps p q h;
    leave = λ n p q h. leave_same n ps p q h;
    atom = λ n a spelled p q h. made_same n ps p.levels q.levels _ _ h.levels (atom_related n ps a p.state q.state h.state);
    nil = λ n p q h. same_id nil_number;
    empty = λ n p q h. no_chain;
    extended = λ n c d v w p q k r h. made_same n ps p.levels q.levels _ _ h.levels (extended_related n ps c d v w p.state q.state k r h.state);
    ended = λ n c d v w p q k r h. made_same n ps p.levels q.levels _ _ h.levels (ended_chain_related n ps c d v w p.state q.state k r h.state);
    list = λ n c d p q k h. first_same n c d k;
    vector = λ n c d p q k h. made_same n ps p.levels q.levels _ _ h.levels (vector_related n ps c d p.state q.state k h.state);
    quoted = λ n v w p q k h. made_same n ps p.levels q.levels _ _ h.levels (quoted_related n ps v w p.state q.state k h.state);
  }

-- ---- in a state

pub data SameReading (n : Names) : FormReading → FormReading → Type 0 where
  same_form : (v w : Value) (rest : List ℕ) → SameValue n v w → SameReading n (Form v rest) (Form w rest)
  same_end : SameReading n End End
  same_unreadable : (k : ℕ) (from : List ℕ) → SameReading n (Unreadable k from) (Unreadable k from)

module _ {bounds : Bounds} where
  reading_related : (n : Names) (ps : List EntryPlace) (bytes : List ℕ) (x y : reader.ReaderOutcome Spot Value Stop) → OutcomesRelated (reading_beside (bounds, ps)) n x y → Beside bounds SameReading n ps (form_reading_of bytes x) (form_reading_of bytes y)
  reading_related n ps bytes _ _ (both_read m v w p q rest g r l) = let e : Like bounds m ps p.state q.state = l.state in done m _ _ p.state q.state g (same_form v w rest r) e
  reading_related n ps bytes _ _ (both_find_none m p q g l) = let e : Like bounds m ps p.state q.state = l.state in done m _ _ p.state q.state g same_end e
  reading_related n ps bytes _ _ (both_refuse m p q rest g l) = let e : Like bounds m ps p.state q.state = l.state in done m _ _ p.state q.state g (same_unreadable _ rest) e
  reading_related n ps bytes _ _ (both_stop _ _ _ _ rest (same_wants why p q e)) = stopped why p.state q.state e
  reading_related n ps bytes _ _ (first_stops why p rest o e) = parted _ _ (left_short why p.state _ e)
  reading_related n ps bytes _ _ (second_stops why q rest o e) = parted _ _ (right_short _ why q.state e)

  -- ---- the input

  pub with_input_like : (n : Names) (ps : List EntryPlace) (rest : List ℕ) (s t : State) → Like bounds n ps s t → Like bounds n ps (with_input rest s) (with_input rest t)
  with_input_like n ps rest s t l = record { store = l.store; functions = l.functions; symbols = l.symbols; bindings = l.bindings; counts = l.counts; outside = λ k. record (l.outside k) { input = rest; taken = (l.outside k).taken + (length (l.outside k).input - length rest) }; gensyms = l.gensyms; compilation = l.compilation }

  read_ended_related : (n : Names) (ps : List EntryPlace) (taken : ℕ) (x y : FormReading) (s t : State) → SameReading n x y → Like bounds n ps s t → Beside bounds SameValue n ps (read_ended taken x s) (read_ended taken y t)
  read_ended_related n ps taken _ _ s t (same_form v w rest h) l = done_now n ps v w _ _ h (with_input_like n ps rest s t l)
  read_ended_related n ps taken _ _ s t same_end l = done_now n ps _ _ _ _ (same_id _) (with_input_like n ps [] s t l)
  read_ended_related n ps taken _ _ s t (same_unreadable k from) l = fail_related n ps unreadable (byte_number (taken + k)) (byte_number (taken + k)) _ _ (with_input_like n ps (drop 1 from) s t l) (same_int _)

  taken_related : (n : Names) (ps : List EntryPlace) (x y : FormReading) (s t : State) → SameReading n x y → Like bounds n ps s t → Beside bounds SameValue n ps (read_ended s.outside.taken x s) (read_ended t.outside.taken y t)
  taken_related n ps x y s t h l = subst (λ k. Beside bounds SameValue n ps (read_ended s.outside.taken x s) (read_ended k y t)) (λ k. (l.outside k).taken) (read_ended_related n ps s.outside.taken x y s t h l)

  character_same : (n : Names) (ps : List EntryPlace) (b : ℕ) (s t : State) → Like bounds n ps s t → SameValue n (character b s) (character b t)
  character_same n ps b s t l = at (b == 10)
    where
      at : (c : Bool) → SameValue n (if c then Id end_of_line_id else of_byte b s) (if c then Id end_of_line_id else of_byte b t)
      at true = same_id _
      at false = of_byte_same n ps b s t l

  readch_of_related : (n : Names) (ps : List EntryPlace) (bytes : List ℕ) (s t : State) → Like bounds n ps s t → Beside bounds SameValue n ps (readch_of bytes s) (readch_of bytes t)
  readch_of_related n ps [] s t l = done_now n ps _ _ s t (same_id _) l
  readch_of_related n ps (b ∷ bs) s t l = done_now n ps _ _ _ _ (character_same n ps b s t l) (with_input_like n ps bs s t l)

  pub readch_related : (n : Names) (ps : List EntryPlace) (s t : State) → Like bounds n ps s t → Beside bounds SameValue n ps (readch s) (readch t)
  readch_related n ps s t l = subst (λ bytes. Beside bounds SameValue n ps (readch s) (readch_of bytes t)) (λ k. (l.outside k).input) (readch_of_related n ps s.outside.input s t l)

module _ {bounds : Bounds} (law : ReadsBeside) where
  -- one form of these bytes: of the input, or of a source
  pub read_bytes_related : (n : Names) (ps : List EntryPlace) (turns : Bool) (l m : Levels) (bytes : List ℕ) (s t : State) → Roomier bounds l m → Like bounds n ps s t → Beside bounds SameReading n ps (read_bytes turns l bytes s) (read_bytes turns m bytes t)
  read_bytes_related n ps turns l m bytes s t r e =
      reading_related n ps bytes _ _ ((law (bounds, ps)).text (in_state turns) (in_state turns) (makers_beside ps turns) n (record { state = s; levels = l }) (record { state = t; levels = m }) bytes (record { state = e; levels = r }))

  input_related : (n : Names) (ps : List EntryPlace) (l m : Levels) (s t : State) → Roomier bounds l m → Like bounds n ps s t → Beside bounds SameReading n ps (read_bytes true l s.outside.input s) (read_bytes true m t.outside.input t)
  input_related n ps l m s t r e = subst (λ bytes. Beside bounds SameReading n ps (read_bytes true l s.outside.input s) (read_bytes true m bytes t)) (λ k. (e.outside k).input) (read_bytes_related n ps true l m s.outside.input s t r e)

  pub read_related : (n : Names) (ps : List EntryPlace) (l m : Levels) (s t : State) → Roomier bounds l m → Like bounds n ps s t → Beside bounds SameValue n ps (read l s) (read m t)
  read_related n ps l m s t r e = then_related n ps _ _ _ _ (input_related n ps l m s t r e) (λ o x y s t g h e. taken_related o ps x y s t h e)
