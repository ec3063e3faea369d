-- What reading makes in a stock is what the definition makes in a state that the world of the stock shows, operation by operation.
use Rattle.std.proofs.Common.{◌≡◌, ◌≢◌, ℕ, ◌%◌, ◌≤◌, Bool, true, false, nat_le, cond, if◌then◌else◌, List, [], ◌∷◌, length, Option, Some, None, Ok, Err, refl, sym, ap, subst, ◌∙◌, arith, zero, suc, ◌+◌, ◌-◌, ◌/◌, ◌^◌, ◌<◌, map, ◌++◌}
use Rattle.std.specs.Prelude.{slice_index, unwrap_or}
use Rattle.std.specs.List.{list_all}
use Rattle.rl_tags.specs.Tagged.{Tagged, Number, IdAt, StrAt, PairAt, VectorAt, BigAt, FunAt, tagged_of, index_of, tag_of}
use Rattle.rl_tags.specs.declared.Tag.TheVariants as tag
use Rattle.rl_tree.specs.Value.{Value, Int, Id, Ref, Str, Fun, Pair, Object, new_value, vector_store}
use Rattle.rl_tree.specs.Name.{Name, quote_name}
use Rattle.rl_cells.specs.Cell as cell
use Rattle.rl_cells.specs.Cell.{Cell, PairCell, StrCell, BlockCell, More, IsClosed, cell_at, car_of, car_in, changed_at, cost_of, grown, is_closed_cell, is_id_cell, is_live, is_live_word, is_pair, is_str, placed, words_in, cdr_of, VectorCell, cdr_in}
use Rattle.rl_syms.specs.Contents.{value_of}
use Rattle.rl_syms.specs.Laws.{AreIdentifiers}
use Rattle.rl_syms.specs.Made.{id_cost, new_id, new_words, with_id}
use Rattle.rl_syms.specs.Opened.{IsBlank}
use Rattle.rl_syms.specs.declared.table.Syms.{Syms}
use Rattle.rl_syms.specs.Table.{IsFree, IsLink, IsName, IsNamed, IsTable, held_in, ids_from, name_in_cells, nil_value, symbol_in_cells}
use Rattle.rl_text.specs.Maker.{Made, Has, Wants}
use Rattle.rl_text.specs.Word.{Atom, Integer, Identifier, String}
use Rattle.rl_world.specs.Counts.{room_stop, roomed, tick_stop, ticked}
use Rattle.rl_world.specs.declared.stop.Stop.{Stop}
use Rattle.rl_world.specs.declared.stop.Stop.TheVariants as stop
use Rattle.rl_world.specs.declared.world.World.{World}
use Rattle.rl_meaning.specs.Input.{byte_turn, made_atom, quoted_value, ended_chain, first_pair_of, ReadingPlace, enter, entered_from, leave, outer_levels, vector_of_chain}
use Rattle.rl_meaning.specs.Outcome as outcome
use Rattle.rl_meaning.specs.Outcome.{Outcome, Done, Stopped, made_pair, made_string, then_do, Levels, deeper, in_levels, made_vector, room}
use Rattle.rl_meaning.specs.State.{Outside, State}
use Rattle.rl_meaning.specs.Symbols.{interned, nil_value_of_state, list_below, list_elements, list_with_first}
use Rattle.rl_read.specs.Stock.{Stock, and_then_made, atom_made, identifier_at, identifier_made, named_among, pair_made, quote_made, turned, turned_at, with_room_at, PairChain, chain_ended, chain_extended, chain_hung, first_of_chain, stock_with_cdr, elements_from, elements_of, entered, entered_at, level_left, object_made, vector_made}
use Rattle.rl_meaning.specs.Copying.{with_object}
use Rattle.rl_meaning.specs.Lists.{Chain, cdr_set, list_extended, pair_hung}
use Rattle.rl_state.proofs.Pairs.{altered_grows, cdr_altered, cdr_shown, pair_shown, none_shown}
use Rattle.std.proofs.lemmas.Bool.{le-leb}
use Rattle.std.proofs.lemmas.List.{length-map}
use Rattle.rl_state.specs.CellLaws.{AreCellLaws}
use Rattle.rl_state.specs.Ending.{MeansDone, MeansValue, stop_in}
use Rattle.rl_state.specs.ShownState.{ShowsState}
use Rattle.rl_state.specs.Worlds.{IsWorld, WorldGrows}
use Rattle.rl_state.proofs.Closed.{both_true, closed_made, closed_cdr, all_kept, parts_live}
use Rattle.rl_state.proofs.Entering.{IsNamedIn, entered_head, gains_interned, interned_made, interned_stops, named_ends, named_grows, not_counted}
use Rattle.rl_state.proofs.Finding.{found_means}
use Rattle.rl_state.proofs.Kept.{id_live}
use Rattle.rl_state.proofs.Made.{grows_refl, made_ends, pair_ends, pair_stops, string_ends, string_stops, ends_made, made_stops}
use Rattle.rl_state.proofs.Room.{turn_grows, turn_means, turn_stops}
use Rattle.rl_state.proofs.Steps.{grows_trans}

-- a world with what a stock has
abbrev pub stocked : World → Stock → World
stocked w k = record w { cells = k.cells; syms = record w.syms { head = k.head }; counts = k.counts }

-- ---- live cells of a new identifier

str_live : (cells : List Cell) (v : Tagged) → is_str cells v ≡ true → is_live cells v ≡ true
str_live cells (StrAt k) h = h
str_live cells v h = absurd (cc)

pub pair_live : (cells : List Cell) (v : Tagged) → is_pair cells v ≡ true → is_live cells v ≡ true
pair_live cells (PairAt k) h = h
pair_live cells v h = absurd (cc)

link_live : (cells : List Cell) (n : ℕ) (t : Tagged) → IsLink cells n (Some t) → is_live cells t ≡ true
link_live cells n (IdAt j) h = h.1
link_live cells n (Number z) h = absurd h
link_live cells n (StrAt j) h = absurd h
link_live cells n (PairAt j) h = absurd h
link_live cells n (VectorAt j) h = absurd h
link_live cells n (BigAt j) h = absurd h
link_live cells n (FunAt j) h = absurd h

link_word : (cells : List Cell) (n w : ℕ) → IsLink cells n (held_in w) → is_live_word cells w ≡ true
link_word cells n w = go (nat_le (w % 16) 6)
  where
    go : (b : Bool) → IsLink cells n (cond b (Some (tagged_of w)) None) → cond b (is_live cells (tagged_of w)) true ≡ true
    go true h = link_live cells n (tagged_of w) h
    go false h = refl

tagged_word : (cells : List Cell) (w : ℕ) → is_live cells (tagged_of w) ≡ true → is_live_word cells w ≡ true
tagged_word cells w h = go (nat_le (w % 16) 6)
  where
    go : (b : Bool) → cond b (is_live cells (tagged_of w)) true ≡ true
    go true = h
    go false = refl

held_word : (cells : List Cell) (w : ℕ) (v : Tagged) → held_in w ≡ Some v → is_live cells v ≡ true → is_live_word cells w ≡ true
held_word cells w v = go (nat_le (w % 16) 6)
  where
    go : (b : Bool) → cond b (Some (tagged_of w)) None ≡ Some v → is_live cells v ≡ true → cond b (is_live cells (tagged_of w)) true ≡ true
    go true e h = let same : v ≡ tagged_of w = cc in rw same at h
    go false e h = refl

six_live : (cells : List Cell) (a b c d e f : ℕ) → is_live_word cells a ≡ true → is_live_word cells b ≡ true → is_live_word cells c ≡ true → is_live_word cells d ≡ true → is_live_word cells e ≡ true → is_live_word cells f ≡ true
    → list_all (is_live_word cells) (a ∷ b ∷ c ∷ d ∷ e ∷ f ∷ []) ≡ true
six_live cells a b c d e f p q r s t u =
    both_true _ _ p (both_true _ _ q (both_true _ _ r (both_true _ _ s (both_true _ _ t (both_true _ _ u refl)))))

abbrev texted : cell.CellStore → Name → cell.CellStore
texted s name = grown s (StrCell name)

abbrev words_for : cell.CellStore → Name → Option Tagged → List ℕ
words_for s name link = new_words (StrAt (length s.cells)) nil_value link

pub closed_entered : (laws : AreCellLaws) (s : cell.CellStore) (name : Name) (link after : Option Tagged) → IsTable (with_id s name nil_value link).cells after → IsClosed s.cells → IsClosed (with_id s name nil_value link).cells
closed_entered laws s name link after t closed =
    closed_made laws.added (texted s name).cells block (closed_made laws.added s.cells (StrCell name) closed refl)
    (six_live new (slice_index (words_for s name link) 0) 15 (slice_index (words_for s name link) 2) 15 0 (slice_index (words_for s name link) 5)
    (held_word new _ named.text (sym (ap (λ (ws : List ℕ). held_in (slice_index ws 0)) words_at) ∙ named.is) (str_live new named.text named.string))
    refl
    (tagged_word new (slice_index (words_for s name link) 2) (subst (λ v. is_live new v ≡ true) (sym (sym (ap (λ (ws : List ℕ). tagged_of (slice_index ws 2)) words_at) ∙ blank.plist)) t.nil))
    refl refl
    (link_word new place (slice_index (words_for s name link) 5) (subst (λ (ws : List ℕ). IsLink new place (held_in (slice_index ws 5))) words_at (t.chained.linked place is_id))))
  where
    block : Cell
    block = BlockCell tag.Id (words_for s name link)

    new : List Cell
    new = (with_id s name nil_value link).cells

    place : ℕ
    place = index_of (new_id s name)

    here : cell_at new place ≡ block
    here = ap (cell_at new) (sym (laws.added.long s.cells (StrCell name) (omega arith))) ∙ laws.added.here (texted s name).cells block

    words_at : words_in (cell_at new place) ≡ words_for s name link
    words_at = ap words_in here

    is_id : is_id_cell (cell_at new place) ≡ true
    is_id = ap is_id_cell here

    named : IsName new (held_in (slice_index (words_in (cell_at new place)) 0)) (name_in_cells new place)
    named = t.chained.named place is_id

    blank : IsBlank (symbol_in_cells new place)
    blank = laws.naming.blank s name link

-- ---- what is made

module _ (w : World) (out : Outside) where
  -- the world with what the stock has shows the state, and the outside is as at first
  pub record StandsAs (k : Stock) (s : State) : Type 0 where
    pub world : IsWorld (stocked w k)
    pub closed : IsClosed k.cells.cells
    pub shows : ShowsState (stocked w k) s
    pub outside : s.outside ≡ out

  pub record HasMade {A B : Type 0} (from : Stock) (R : Stock → A → B → Type 0) (a : A) (k : Stock) (o : Outcome B) : Type 0 where
    pub value : B
    pub state : State
    pub is : o ≡ Done value state
    pub stands : StandsAs k state
    pub grows : WorldGrows (stocked w from) (stocked w k)
    pub left : k.left ≡ from.left
    pub related : R k a value

  pub record LacksBoth {B : Type 0} (why : Stop) (k : Stock) (o : Outcome B) : Type 0 where
    pub state : State
    pub is : o ≡ Stopped (stop_in k.cells.cells why) state
    pub outside : state.outside ≡ out

  -- both make what is so related, or the same is wanting for both
  abbrev pub MakesAs : {A B : Type 0} → Stock → (Stock → A → B → Type 0) → Made Stock A Stop → Outcome B → Type 0
  MakesAs from R (Has a k) o = HasMade from R a k o
  MakesAs from R (Wants why k) o = LacksBoth why k o

  abbrev pub Grown : Stock → Stock → Type 0
  Grown k j = WorldGrows (stocked w k) (stocked w j)

  wider : {A B : Type 0} (from k : Stock) (R : Stock → A → B → Type 0) (y : Made Stock A Stop) (o : Outcome B) → Grown from k → k.left ≡ from.left → MakesAs k R y o → MakesAs from R y o
  wider from k R (Has a j) o g l h = record { value = h.value; state = h.state; is = h.is; stands = h.stands; grows = grows_trans _ _ _ g h.grows; left = h.left ∙ l; related = h.related }
  wider from k R (Wants why j) o g l h = h

  pub then_makes : {A B C D : Type 0} (from : Stock) (R : Stock → A → B → Type 0) (Q : Stock → C → D → Type 0) (x : Made Stock A Stop) (o : Outcome B) (f : A → Stock → Made Stock C Stop) (g : B → State → Outcome D)
      → MakesAs from R x o → ((a : A) (k : Stock) (b : B) (s : State) → StandsAs k s → Grown from k → R k a b → MakesAs k Q (f a k) (g b s)) → MakesAs from Q (and_then_made x f) (then_do o g)
  then_makes from R Q (Has a k) o f g h next =
      subst (λ o. MakesAs from Q (f a k) (then_do o g)) (sym h.is) (wider from k Q (f a k) (g h.value h.state) h.grows h.left (next a k h.value h.state h.stands h.grows h.related))
  then_makes from R Q (Wants why k) o f g h next = record { state = h.state; is = ap (λ o. then_do o g) h.is; outside = h.outside }

  -- ---- values

  abbrev pub IsShownAs : Stock → Tagged → Value → Type 0
  IsShownAs k v u = (is_live k.cells.cells v ≡ true) × (value_of k.cells.cells v ≡ u)

  abbrev pub IsPairAs : Stock → Tagged → Value → Type 0
  IsPairAs k v u = (is_pair k.cells.cells v ≡ true) × (value_of k.cells.cells v ≡ u)

  pub shown_stays : (from k : Stock) (v : Tagged) (u : Value) → Grown from k → IsShownAs from v u → IsShownAs k v u
  shown_stays from k v u g h = (g.live v h.0, g.values v h.0 ∙ h.1)

  pair_stays_one : (old new : List Cell) (v : Tagged) → ((v : Tagged) → is_live old v ≡ true → is_live new v ≡ true) → is_pair old v ≡ true → is_pair new v ≡ true
  pair_stays_one old new (PairAt k) live h = live (PairAt k) h
  pair_stays_one old new v live h = absurd (cc)

  pub pair_stays : (from k : Stock) (v : Tagged) (u : Value) → Grown from k → IsPairAs from v u → IsPairAs k v u
  pair_stays from k v u g h = (pair_stays_one from.cells.cells k.cells.cells v g.live h.0, g.values v (pair_live from.cells.cells v h.0) ∙ h.1)

  pub is_shown : (k : Stock) (v : Tagged) (u : Value) → IsPairAs k v u → IsShownAs k v u
  is_shown k v u h = (pair_live k.cells.cells v h.0, h.1)

  value_has : (R : Stock → Tagged → Value → Type 0) (from k : Stock) (v : Tagged) (s : State) (o : Outcome Value) → StandsAs from s → MeansValue s o (Ok v) (stocked w k) → Grown from k → IsClosed k.cells.cells → k.left ≡ from.left → R k v (value_of k.cells.cells v) → MakesAs from R (Has v k) o
  value_has R from k v s o h m g closed left r = record {
    value = value_of k.cells.cells v;
    state = m.state;
    is = m.is;
    stands = record { world = g.world; closed = closed; shows = m.good.shows; outside = m.good.stays.outside ∙ h.outside };
    grows = g;
    left = left;
    related = r;
  }

  value_lacks : (R : Stock → Tagged → Value → Type 0) (from : Stock) (why : Stop) (s : State) (o : Outcome Value) → s.outside ≡ out → MeansValue s o (Err why) (stocked w from) → MakesAs from R (Wants why from) o
  value_lacks R from why s o outside m = record { state = m.state; is = m.is; outside = m.good.outside ∙ outside }

  -- a name has 1 to 255 bytes
  abbrev pub IsMadeAtom : Atom → Type 0
  IsMadeAtom (Identifier name) = (1 ≤ length name) × (length name ≤ 255)
  IsMadeAtom a = Unit {0}

  module _ (laws : AreCellLaws) (ids : AreIdentifiers) where
    -- ---- pairs

    pair_made_at : (from : Stock) (a d : Tagged) (s : State) → StandsAs from s → is_live from.cells.cells a ≡ true → is_live from.cells.cells d ≡ true → (o : Option Stop) → room_stop from.counts from.cells 1 ≡ o
        → MakesAs from IsPairAs (and_then_made (with_room_at o 1 from) (λ _ k. Has (PairAt (length k.cells.cells)) (record k { cells = grown k.cells (PairCell a d) }))) (made_pair (value_of from.cells.cells a) (value_of from.cells.cells d) s)
    pair_made_at from a d s h la ld (Some why) e = value_lacks IsPairAs from why s _ h.outside (pair_stops (stocked w from) (stocked w from) a d why refl h.world e s h.shows)
    pair_made_at from a d s h la ld None e =
        let W = stocked w from in
        let cells = from.cells.cells in
        let c = PairCell a d in
        let r : World = record W { counts = roomed from.counts 1 } in
        let k : Stock = record from { cells = grown from.cells c; counts = roomed from.counts 1 } in
        let g : Grown from k = made_ends laws W r (grown from.cells c) c refl refl refl (omega arith) h.world in
        value_has IsPairAs from k (PairAt (length cells)) s _ h
        (pair_ends laws W r (grown from.cells c) a d (PairAt (length cells)) (record { counted = refl; made = refl; named = refl; closed = h.closed; room = e }) h.world la ld s h.shows)
        g (closed_made laws.added cells c h.closed (both_true _ _ (g.live a la) (g.live d ld))) refl (ap cell.is_pair_cell (laws.added.here cells c), refl)

    pub pair_makes : (from : Stock) (a d : Tagged) (x y : Value) (s : State) → StandsAs from s → IsShownAs from a x → IsShownAs from d y → MakesAs from IsPairAs (pair_made a d from) (made_pair x y s)
    pair_makes from a d x y s h p q =
        subst (λ x. MakesAs from IsPairAs (pair_made a d from) (made_pair x y s)) p.1
        (subst (λ y. MakesAs from IsPairAs (pair_made a d from) (made_pair (value_of from.cells.cells a) y s)) q.1
        (pair_made_at from a d s h p.0 q.0 (room_stop from.counts from.cells 1) refl))

    pub nil_shown : (k : Stock) (s : State) → StandsAs k s → IsShownAs k nil_value nil_value_of_state
    nil_shown k s h = (h.world.table.nil, ap Id h.world.table.first)

    -- ---- atoms

    text_made_at : (from : Stock) (bytes : List ℕ) (s : State) → StandsAs from s → (o : Option Stop) → room_stop from.counts from.cells (cost_of (StrCell bytes)) ≡ o
        → MakesAs from IsShownAs (and_then_made (with_room_at o (cost_of (StrCell bytes)) from) (λ _ k. Has (StrAt (length k.cells.cells)) (record k { cells = grown k.cells (StrCell bytes) }))) (made_string bytes s)
    text_made_at from bytes s h (Some why) e = value_lacks IsShownAs from why s _ h.outside (string_stops (stocked w from) (stocked w from) bytes why refl h.world e s h.shows)
    text_made_at from bytes s h None e =
        let W = stocked w from in
        let cells = from.cells.cells in
        let c = StrCell bytes in
        let r : World = record W { counts = roomed from.counts (cost_of c) } in
        let k : Stock = record from { cells = grown from.cells c; counts = roomed from.counts (cost_of c) } in
        let g : Grown from k = made_ends laws W r (grown from.cells c) c refl refl refl (omega arith) h.world in
        value_has IsShownAs from k (StrAt (length cells)) s _ h
        (string_ends laws W r (grown from.cells c) bytes (StrAt (length cells)) (record { counted = refl; made = refl; named = refl; closed = h.closed; room = e }) h.world s h.shows)
        g (closed_made laws.added cells c h.closed refl) refl (ap cell.is_str_cell (laws.added.here cells c), refl)

    name_made_at : (from : Stock) (name : Name) (s : State) → StandsAs from s → 1 ≤ length name → length name ≤ 255 → IsFree from.cells.cells from.head name → (o : Option Stop) → room_stop from.counts from.cells (id_cost name) ≡ o
        → MakesAs from IsShownAs (and_then_made (with_room_at o (id_cost name) from) (λ _ k. Has (new_id k.cells name) (record k { cells = with_id k.cells name nil_value k.head; head = Some (new_id k.cells name) }))) (interned name s)
    name_made_at from name s h some short free (Some why) e = value_lacks IsShownAs from why s _ h.outside (interned_stops laws (stocked w from) (stocked w from) name why h.world free refl e s h.shows)
    name_made_at from name s h some short free None e =
        let W = stocked w from in
        let id = new_id from.cells name in
        let r : World = record W { counts = roomed from.counts (id_cost name) } in
        let cs = with_id from.cells name nil_value from.head in
        let names : Syms = record W.syms { head = Some id } in
        let k : Stock = record from { cells = cs; head = Some id; counts = roomed from.counts (id_cost name) } in
        let gains = gains_interned laws W name some short h.world free in
        let is_in : IsNamedIn W r cs names id name from.head (entered_head W name) not_counted = record { counted = refl; cells = refl; head = refl; made = refl; place = refl } in
        let entered = laws.enters from.cells from.head name some short h.world.table free in
        let g : Grown from k = named_grows laws W r cs names id name from.head (entered_head W name) true not_counted h.world gains is_in in
        value_has IsShownAs from k id s _ h
        (named_ends laws W r cs names id name from.head (entered_head W name) true not_counted h.world gains is_in h.closed (interned name s) s h.shows (interned_made laws W name h.world free gains e s h.shows))
        g (closed_entered laws from.cells name from.head (Some id) entered.table h.closed) refl (id_live cs.cells id (ids cs.cells (Some id) name id entered.table entered.named), refl)

    name_makes_at : (from : Stock) (name : Name) (s : State) → StandsAs from s → 1 ≤ length name → length name ≤ 255 → (o : Option ℕ) → named_among from.cells.cells name (ids_from from.cells.cells from.head) ≡ o → MakesAs from IsShownAs (identifier_at o name from) (interned name s)
    name_makes_at from name s h some short (Some i) e =
        let cells = from.cells.cells in
        let found = laws.found.found cells name (ids_from cells from.head) i e in
        let named : IsNamed cells from.head name (IdAt i) = record { interned = (refl, found.0); name_is = found.1 } in
        value_has IsShownAs from from (IdAt i) s _ h (found_means laws.numbered ids (stocked w from) name (IdAt i) h.world.table named s h.shows) (grows_refl _ _ refl h.world) h.closed refl
        (id_live cells (IdAt i) (ids cells from.head name (IdAt i) h.world.table named), refl)
    name_makes_at from name s h some short None e =
        name_made_at from name s h some short (record { other = laws.found.free from.cells.cells name (ids_from from.cells.cells from.head) e }) (room_stop from.counts from.cells (id_cost name)) refl

    pub name_makes : (from : Stock) (name : Name) (s : State) → StandsAs from s → 1 ≤ length name → length name ≤ 255 → MakesAs from IsShownAs (identifier_made name from) (interned name s)
    name_makes from name s h some short = name_makes_at from name s h some short (named_among from.cells.cells name (ids_from from.cells.cells from.head)) refl

    pub atom_makes : (from : Stock) (a : Atom) (s : State) → StandsAs from s → IsMadeAtom a → MakesAs from IsShownAs (atom_made a from) (made_atom a s)
    atom_makes from (Integer z) s h is = record { value = Int z; state = s; is = refl; stands = h; grows = grows_refl _ _ refl h.world; left = refl; related = (refl, refl) }
    atom_makes from (Identifier name) s h is = name_makes from name s h is.0 is.1
    atom_makes from (String bytes) s h is = text_made_at from bytes s h (room_stop from.counts from.cells (cost_of (StrCell bytes))) refl

    -- ---- quotes

    pub quote_makes : (from : Stock) (v : Tagged) (u : Value) (s : State) → StandsAs from s → IsShownAs from v u → MakesAs from IsPairAs (quote_made v from) (quoted_value u s)
    quote_makes from v u s h p =
        then_makes from IsShownAs IsPairAs (identifier_made quote_name from) (interned quote_name s) _ _ (name_makes from quote_name s h (omega arith) (omega arith)) (λ q k x s h g r.
        then_makes k IsPairAs IsPairAs (pair_made v nil_value k) (made_pair u nil_value_of_state s) _ _ (pair_makes k v nil_value u nil_value_of_state s h (shown_stays from k v u g p) (nil_shown k s h)) (λ p j y s h g t.
        pair_makes j q p x y s h (shown_stays k j q x g r) (is_shown j p y t)))

    -- ---- turns

    turn_made_at : (from : Stock) (s : State) → StandsAs from s → (o : Option Stop) → tick_stop from.counts ≡ o → MakesAs from (λ k a b. Unit {0}) (turned_at o from) (byte_turn true s)
    turn_made_at from s h (Some why) e =
        let m : MeansDone s (byte_turn true s) (Err why) (stocked w from) = turn_stops (stocked w from) (stocked w from) why refl h.world e s h.shows in
        record { state = m.state; is = m.is; outside = m.good.outside ∙ h.outside }
    turn_made_at from s h None e =
        let W = stocked w from in
        let k : Stock = record from { counts = ticked from.counts } in
        let m : MeansDone s (byte_turn true s) (Ok tt) (stocked w k) = turn_means W (stocked w k) refl h.world e s h.shows in
        let g : Grown from k = turn_grows laws.bounds W (stocked w k) refl h.world in
        record {
          value = tt;
          state = m.state;
          is = m.is;
          stands = record { world = g.world; closed = h.closed; shows = m.good.shows; outside = m.good.stays.outside ∙ h.outside };
          grows = g;
          left = refl;
          related = tt;
        }

    pub turn_makes : (turns : Bool) (from : Stock) (s : State) → StandsAs from s → MakesAs from (λ k a b. Unit {0}) (turned turns from) (byte_turn turns s)
    turn_makes true from s h = turn_made_at from s h (tick_stop from.counts) refl
    turn_makes false from s h = record { value = tt; state = s; is = refl; stands = h; grows = grows_refl _ _ refl h.world; left = refl; related = tt }

    -- ---- lists

    cdr_set_is : (k : Stock) (p v : Tagged) (s : State) → StandsAs k s → is_pair k.cells.cells p ≡ true
        → cdr_set (value_of k.cells.cells p) (value_of k.cells.cells v) s ≡ with_object (value_of k.cells.cells p) (Pair (value_of k.cells.cells (car_of k.cells.cells p)) (value_of k.cells.cells v)) s
    cdr_set_is k p v s h is =
        ap (λ (o : Option (Value × Value)). elim o [ None ↦ s | Some parts ↦ with_object (value_of k.cells.cells p) (Pair parts.0 (value_of k.cells.cells v)) s ]) (pair_shown laws.reads (stocked w k) p is s h.shows)

    object_leaves : (v : Value) (o : Object) (s : State) → (with_object v o s).outside ≡ s.outside
    object_leaves (Ref r) o s = refl
    object_leaves (Int z) o s = refl
    object_leaves (Id i) o s = refl
    object_leaves (Str bytes) o s = refl
    object_leaves (Fun f place) o s = refl

    cdr_grows : (k : Stock) (p v : Tagged) (s : State) → StandsAs k s → is_pair k.cells.cells p ≡ true → Grown k (stock_with_cdr p v k)
    cdr_grows k p v s h is = altered_grows laws (stocked w k) _ _ _ _ (cdr_altered laws (stocked w k) (stock_with_cdr p v k).cells p v is h.closed refl) h.world

    cdr_stands : (k : Stock) (p v : Tagged) (s : State) → StandsAs k s → is_pair k.cells.cells p ≡ true → is_live k.cells.cells v ≡ true → StandsAs (stock_with_cdr p v k) (cdr_set (value_of k.cells.cells p) (value_of k.cells.cells v) s)
    cdr_stands k p v s h is lv =
        let cells = k.cells.cells in
        let W = stocked w k in
        let g = cdr_grows k p v s h is in
        let has = pair_shown laws.reads W p is s h.shows in
        subst (λ t. StandsAs (stock_with_cdr p v k) t) (sym (cdr_set_is k p v s h is)) (record {
          world = g.world;
          closed = closed_cdr cells p v g.live is h.closed lv;
          shows = cdr_shown laws W (stocked w (stock_with_cdr p v k)) _ p v is (cdr_altered laws W (stock_with_cdr p v k).cells p v is h.closed refl) h.world s (value_of cells (car_of cells p)) (value_of cells (cdr_of cells p)) h.shows has;
          outside = object_leaves (value_of cells p) (Pair (value_of cells (car_of cells p)) (value_of cells v)) s ∙ h.outside;
        })

    -- the first and the last pair
    abbrev pub IsChainAs : Stock → PairChain → Chain → Type 0
    IsChainAs k None None = Unit {0}
    IsChainAs k None (Some d) = ⊥
    IsChainAs k (Some c) None = ⊥
    IsChainAs k (Some c) (Some d) = IsPairAs k c.0 d.0 × IsPairAs k c.1 d.1

    pub chain_stays : (from k : Stock) (c : PairChain) (d : Chain) → Grown from k → IsChainAs from c d → IsChainAs k c d
    chain_stays from k None None g h = tt
    chain_stays from k None (Some d) g h = absurd h
    chain_stays from k (Some c) None g h = absurd h
    chain_stays from k (Some c) (Some d) g h = (pair_stays from k c.0 d.0 g h.0, pair_stays from k c.1 d.1 g h.1)

    pub first_shown : (k : Stock) (c : PairChain) (d : Chain) (s : State) → StandsAs k s → IsChainAs k c d → IsShownAs k (first_of_chain c) (first_pair_of d)
    first_shown k None None s h e = nil_shown k s h
    first_shown k None (Some d) s h e = absurd e
    first_shown k (Some c) None s h e = absurd e
    first_shown k (Some c) (Some d) s h e = is_shown k c.0 d.0 e.0

    -- a pair is hung behind the last one
    hung_makes : (k : Stock) (c : PairChain) (d : Chain) (p : Tagged) (x : Value) (s : State) → StandsAs k s → IsChainAs k c d → IsPairAs k p x → MakesAs k IsChainAs (chain_hung c p k) (Done (pair_hung d x s).0 (pair_hung d x s).1)
    hung_makes k None None p x s h e q = record { value = Some (x, x); state = s; is = refl; stands = h; grows = grows_refl _ _ refl h.world; left = refl; related = (q, q) }
    hung_makes k None (Some d) p x s h e q = absurd e
    hung_makes k (Some c) None p x s h e q = absurd e
    hung_makes k (Some c) (Some d) p x s h e q =
        let g = cdr_grows k c.1 p s h e.1.0 in
        record {
          value = Some (d.0, x);
          state = cdr_set d.1 x s;
          is = refl;
          stands = subst (λ (y : Value). StandsAs (stock_with_cdr c.1 p k) (cdr_set y x s)) e.1.1 (subst (λ (x : Value). StandsAs (stock_with_cdr c.1 p k) (cdr_set (value_of k.cells.cells c.1) x s)) q.1 (cdr_stands k c.1 p s h e.1.0 (pair_live k.cells.cells p q.0)));
          grows = g;
          left = refl;
          related = (pair_stays k (stock_with_cdr c.1 p k) c.0 d.0 g e.0, pair_stays k (stock_with_cdr c.1 p k) p x g q);
        }

    pub extended_makes : (from : Stock) (c : PairChain) (d : Chain) (v : Tagged) (u : Value) (s : State) → StandsAs from s → IsChainAs from c d → IsShownAs from v u → MakesAs from IsChainAs (chain_extended c v from) (list_extended d u s)
    extended_makes from c d v u s h e p =
        then_makes from IsPairAs IsChainAs (pair_made v nil_value from) (made_pair u nil_value_of_state s) _ _ (pair_makes from v nil_value u nil_value_of_state s h p (nil_shown from s h)) (λ q k x s h g t. hung_makes k c d q x s h (chain_stays from k c d g e) t)

    pub ended_makes : (from : Stock) (c : PairChain) (d : Chain) (v : Tagged) (u : Value) (s : State) → StandsAs from s → IsChainAs from c d → IsShownAs from v u → MakesAs from IsChainAs (chain_ended c v from) (ended_chain d u s)
    ended_makes from None None v u s h e p = record { value = None; state = s; is = refl; stands = h; grows = grows_refl _ _ refl h.world; left = refl; related = tt }
    ended_makes from None (Some d) v u s h e p = absurd e
    ended_makes from (Some c) None v u s h e p = absurd e
    ended_makes from (Some c) (Some d) v u s h e p =
        let g = cdr_grows from c.1 v s h e.1.0 in
        record {
          value = Some d;
          state = cdr_set d.1 u s;
          is = refl;
          stands = subst (λ (y : Value). StandsAs (stock_with_cdr c.1 v from) (cdr_set y u s)) e.1.1 (subst (λ (x : Value). StandsAs (stock_with_cdr c.1 v from) (cdr_set (value_of from.cells.cells c.1) x s)) p.1 (cdr_stands from c.1 v s h e.1.0 p.0));
          grows = g;
          left = refl;
          related = chain_stays from (stock_with_cdr c.1 v from) (Some c) (Some d) g e;
        }

    -- ---- vectors

    -- what is no pair has no elements
    no_pair : (k : Stock) (s : State) → StandsAs k s → (n : ℕ) (v : Tagged) → is_live k.cells.cells v ≡ true → tag_of v ≢ tag.Pair → list_below (suc n) s (value_of k.cells.cells v) ≡ Some []
    no_pair k s h n v live ne = ap (λ (o : Option (Value × Value)). elim o [ None ↦ Some [] | Some parts ↦ list_with_first parts.0 (list_below n s parts.1) ]) (none_shown laws.reads (stocked w k) v live ne s h.shows)

    abbrev making_vector : List Value → State → Outcome Value
    making_vector vs s = Done (new_value s.store) (record s { store = vector_store s.store vs })

    -- a walk that ends within what is asked for comes to the same elements
    elements_shown : (k : Stock) (s : State) → StandsAs k s → (n m : ℕ) (v : Tagged) → is_live k.cells.cells v ≡ true → length (elements_from m k.cells.cells v) < m → length (elements_from m k.cells.cells v) < n
        → list_below n s (value_of k.cells.cells v) ≡ Some (map (value_of k.cells.cells) (elements_from m k.cells.cells v))
    elements_shown k s h zero m v live few l = absurd (omega (arith, l))
    elements_shown k s h (suc n) zero v live few l = absurd (omega (arith, few))
    elements_shown k s h (suc n) (suc m) (PairAt i) live few l =
        let cells = k.cells.cells in
        let c = cell_at cells i in
        let later = elements_shown k s h n m (cdr_in c) (parts_live cells c live (h.closed.at i)).1 (omega (arith, few)) (omega (arith, l)) in
        ap (λ (o : Option (Value × Value)). elim o [ None ↦ Some [] | Some parts ↦ list_with_first parts.0 (list_below n s parts.1) ]) (pair_shown laws.reads (stocked w k) (PairAt i) live s h.shows)
        ∙ ap (list_with_first (value_of cells (car_in c))) later
    elements_shown k s h (suc n) (suc m) (Number z) live few l = no_pair k s h n (Number z) live (λ e. absurd cc)
    elements_shown k s h (suc n) (suc m) (IdAt i) live few l = no_pair k s h n (IdAt i) live (λ e. absurd cc)
    elements_shown k s h (suc n) (suc m) (StrAt i) live few l = no_pair k s h n (StrAt i) live (λ e. absurd cc)
    elements_shown k s h (suc n) (suc m) (VectorAt i) live few l = no_pair k s h n (VectorAt i) live (λ e. absurd cc)
    elements_shown k s h (suc n) (suc m) (BigAt i) live few l = no_pair k s h n (BigAt i) live (λ e. absurd cc)
    elements_shown k s h (suc n) (suc m) (FunAt i) live few l = no_pair k s h n (FunAt i) live (λ e. absurd cc)

    -- what lists hold lives
    elements_live : (k : Stock) (s : State) → StandsAs k s → (m : ℕ) (v : Tagged) → is_live k.cells.cells v ≡ true → list_all (is_live k.cells.cells) (elements_from m k.cells.cells v) ≡ true
    elements_live k s h zero v live = refl
    elements_live k s h (suc m) (PairAt i) live =
        let parts = parts_live k.cells.cells (cell_at k.cells.cells i) live (h.closed.at i) in
        both_true _ _ parts.0 (elements_live k s h m (cdr_in (cell_at k.cells.cells i)) parts.1)
    elements_live k s h (suc m) (Number z) live = refl
    elements_live k s h (suc m) (IdAt i) live = refl
    elements_live k s h (suc m) (StrAt i) live = refl
    elements_live k s h (suc m) (VectorAt i) live = refl
    elements_live k s h (suc m) (BigAt i) live = refl
    elements_live k s h (suc m) (FunAt i) live = refl

    vector_made_at : (from : Stock) (xs : List Tagged) (s : State) → StandsAs from s → list_all (is_live from.cells.cells) xs ≡ true → (o : Option Stop) → room_stop from.counts from.cells (cost_of (VectorCell xs)) ≡ o
        → MakesAs from IsShownAs (and_then_made (with_room_at o (cost_of (VectorCell xs)) from) (λ _ k. Has (VectorAt (length k.cells.cells)) (record k { cells = grown k.cells (VectorCell xs) }))) (room (cost_of (VectorCell xs)) s (making_vector (map (value_of from.cells.cells) xs)))
    vector_made_at from xs s h live (Some why) e = value_lacks IsShownAs from why s _ h.outside (made_stops (stocked w from) (stocked w from) (cost_of (VectorCell xs)) s _ why refl h.world (omega arith) e h.shows)
    vector_made_at from xs s h live None e =
        let W = stocked w from in
        let cells = from.cells.cells in
        let c = VectorCell xs in
        let vs = map (value_of cells) xs in
        let r : World = record W { counts = roomed from.counts (cost_of c) } in
        let k : Stock = record from { cells = grown from.cells c; counts = roomed from.counts (cost_of c) } in
        let g : Grown from k = made_ends laws W r (grown from.cells c) c refl refl refl (omega arith) h.world in
        value_has IsShownAs from k (VectorAt (length cells)) s _ h
        (ends_made laws W r (grown from.cells c) c VectorAt (VectorAt (length cells)) s (making_vector vs) (new_value s.store) (vector_store s.store vs) (record { counted = refl; made = refl; named = refl; closed = h.closed; room = e }) refl (omega arith) h.world h.shows refl
        (ap (λ os. vector_store os vs) h.shows.store ∙ sym (laws.makes.vector cells xs h.closed live))
        (laws.makes.vector_named cells xs ∙ ap new_value (sym h.shows.store)))
        g (closed_made laws.added cells c h.closed (all_kept (is_live cells) (is_live (cells ++ placed c)) g.live xs live)) refl (ap cell.is_vector_cell (laws.added.here cells c), refl)

    -- of the elements of a list that ends: of at most as many as there are objects
    pub vector_makes : (from : Stock) (c : PairChain) (d : Chain) (s : State) → StandsAs from s → IsChainAs from c d → length (elements_of from.cells.cells c) ≤ 2 ^ 31 → length (elements_of from.cells.cells c) ≤ length s.store → MakesAs from IsShownAs (vector_made c from) (vector_of_chain d s)
    vector_makes from c d s h e few fuel =
        let cells = from.cells.cells in
        let xs = elements_of cells c in
        let vs = map (value_of cells) xs in
        let first = first_shown from c d s h e in
        let same : list_elements s (first_pair_of d) ≡ Some vs = ap (list_elements s) (sym first.1) ∙ elements_shown from s h (suc (length s.store)) (2 ^ 31 + 1) (first_of_chain c) first.0 (omega (arith, few)) (omega (arith, fuel)) in
        let many : length vs ≡ length xs = length-map xs (value_of cells) in
        let fits : nat_le (length xs) (2 ^ 31) ≡ true = le-leb (length xs) (2 ^ 31) few in
        let cost : 1 + (length vs + 1) / 2 ≡ cost_of (VectorCell xs) = ap (λ n. 1 + (n + 1) / 2) many in
        subst (λ (x : Made Stock Tagged Stop). MakesAs from IsShownAs x (vector_of_chain d s)) (sym (ap (λ b. if b then object_made (λ n. VectorAt n) (VectorCell xs) from else Wants stop.Cells from) fits))
        (subst (λ (o : Outcome Value). MakesAs from IsShownAs (object_made (λ n. VectorAt n) (VectorCell xs) from) o) (sym (ap (λ o. made_vector (unwrap_or o []) s) same ∙ ap (λ n. room n s (making_vector vs)) cost))
        (vector_made_at from xs s h (elements_live from s h (2 ^ 31 + 1) (first_of_chain c) first.0) (room_stop from.counts from.cells (cost_of (VectorCell xs))) refl))

    -- ---- levels

    abbrev pub PlacesAs : Stock → ReadingPlace → Type 0
    PlacesAs k p = StandsAs k p.state × (p.levels ≡ Some k.left)

    abbrev pub EntersAs : Made Stock (Unit {0}) Stop → Made ReadingPlace (Unit {0}) outcome.Stop → Type 0
    EntersAs (Has u k) (Has v p) = PlacesAs k p
    EntersAs (Wants why k) (Wants x p) = (x ≡ stop_in k.cells.cells why) × (p.state.outside ≡ out)
    EntersAs (Has u k) (Wants x p) = ⊥
    EntersAs (Wants why k) (Has v p) = ⊥

    relevelled : (k : Stock) (n : ℕ) (s : State) → StandsAs k s → StandsAs (record k { left = n }) s
    relevelled k n s h = record { world = h.world; closed = h.closed; shows = h.shows; outside = h.outside }

    enters : (k : Stock) (p : ReadingPlace) (n : ℕ) → StandsAs k p.state → EntersAs (entered_at n k) (entered_from p.levels (deeper 1 (Some n) p.state (λ levels. Done levels p.state)))
    enters k p zero h = (refl, h.outside)
    enters k p (suc n) h =
        let fits : nat_le 1 (suc n) ≡ true = le-leb 1 (suc n) (omega arith) in
        let less : suc n - 1 ≡ n = omega arith in
        subst (λ b. EntersAs (entered_at (suc n) k) (entered_from p.levels (in_levels b (suc n - 1) p.state (λ levels. Done levels p.state)))) (sym fits) (relevelled k n p.state h, ap Some less)

    pub enter_makes : (k : Stock) (p : ReadingPlace) → PlacesAs k p → EntersAs (entered k) (enter p)
    enter_makes k p h = subst (λ (l : Levels). EntersAs (entered k) (entered_from p.levels (deeper 1 l p.state (λ levels. Done levels p.state)))) (sym h.1) (enters k p k.left h.0)

    pub leave_makes : (k : Stock) (p : ReadingPlace) → PlacesAs k p → PlacesAs (level_left k) (leave p)
    leave_makes k p h = (relevelled k (suc k.left) p.state h.0, ap outer_levels h.1)
