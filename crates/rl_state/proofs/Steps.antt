-- Steps one after another.
use Rattle.std.proofs.Common.{◌≡◌, ℕ, true, false, None, List, [], refl, sym, ap, subst, ◌∙◌, Ok, Err, pos}
use Rattle.rl_tags.specs.Tagged.{Tagged, Number, IdAt, StrAt, PairAt, VectorAt, BigAt, FunAt}
use Rattle.std.specs.Prelude.{slice_index_or}
use Rattle.rl_tags.specs.Ids.{nil_id}
use Rattle.rl_tree.specs.Value.{Value, Id, Str}
use Rattle.rl_cells.specs.Cell.{Cell, is_live, is_str, bytes_of}
use Rattle.rl_world.specs.declared.stop.Stop as stops
use Rattle.rl_world.specs.declared.stop.NStep.TheVariants as step
use Rattle.rl_world.specs.declared.world.World.{World}
use Rattle.rl_meaning.specs.State.{State, Symbol}
use Rattle.rl_meaning.specs.Variables.{nearest, nearest_from}
use Rattle.rl_state.proofs.Outer.{shows_outer, stays_still}
use Rattle.rl_state.proofs.Set.{top_else}
use Rattle.rl_meaning.specs.Outcome.{Outcome, Done, Failed, Stop, then_do, made_pair}
use Rattle.rl_tree.specs.ErrorTexts.{error_text}
use Rattle.rl_meaning.specs.Errors.{fail}
use Rattle.rl_meaning.specs.Symbols.{nil_value_of_state, message_id, new_symbol, with_top}
use Rattle.rl_meaning.specs.Constants.{reading_object, changing}
use Rattle.rl_meaning.specs.Copying.{with_object}
use Rattle.rl_tree.specs.Value as value
use Rattle.rl_syms.specs.Contents.{value_of}
use Rattle.rl_state.specs.ShownState.{ShowsState}
use Rattle.rl_state.specs.Worlds.{IsWorld, WorldGrows}
use Rattle.rl_state.specs.Beside.{StaysBeside}
use Rattle.rl_state.specs.Ending.{EndsShown, StopsWith, MeansValue, MeansAnswer, stop_in}

pub stays_trans : (s t u : State) → StaysBeside s t → StaysBeside t u → StaysBeside s u
stays_trans s t u a b = record {
  functions = record { functions = b.functions.functions ∙ a.functions.functions; compilation = b.functions.compilation ∙ a.functions.compilation };
  bindings = record {
    entries = b.bindings.entries ∙ a.bindings.entries;
    hidden = λ i n h. b.bindings.hidden i n (ap (nearest_from false i) a.bindings.entries ∙ h) ∙ a.bindings.hidden i n h;
  };
  outside = b.outside ∙ a.outside;
}

-- one that differs in what is watched, in store, counts and gensyms alone
pub stays_watched : (s t u : State) → StaysBeside s t → u.functions ≡ t.functions → u.compilation ≡ t.compilation → u.bindings ≡ t.bindings → u.outside ≡ t.outside → u.symbols ≡ t.symbols → StaysBeside s u
stays_watched s t u a f c b o y = record {
  functions = record { functions = f ∙ a.functions.functions; compilation = c ∙ a.functions.compilation };
  bindings = record {
    entries = b ∙ a.bindings.entries;
    hidden = λ i n h. ap (λ (ys : List Symbol). (slice_index_or ys i (new_symbol [] false)).top) y ∙ a.bindings.hidden i n h;
  };
  outside = o ∙ a.outside;
}

pub after : {A B : Type 0} (s : State) (o : Outcome A) (a : A) (w x : World) (next : A → State → Outcome B) (end : State → Outcome B) → EndsShown s o (λ t. Done a t) w → ((t : State) → ShowsState w t → EndsShown t (next a t) end x) → EndsShown s (then_do o next) end x
after s o a w x next end h k =
    let r = k h.state h.good.shows in
    record { state = r.state; is = ap (λ o. then_do o next) h.is ∙ r.is; good = record { shows = r.good.shows; stays = stays_trans s h.state r.state h.good.stays r.good.stays } }

pub stops_after : {A B : Type 0} (s : State) (o : Outcome A) (a : A) (w : World) (next : A → State → Outcome B) (why : Stop) → EndsShown s o (λ t. Done a t) w → ((t : State) → ShowsState w t → StopsWith t (next a t) why) → StopsWith s (then_do o next) why
stops_after s o a w next why h k =
    let r = k h.state h.good.shows in
    record { state = r.state; is = ap (λ o. then_do o next) h.is ∙ r.is; good = stays_trans s h.state r.state h.good.stays r.good }

pub stops_first : {A B : Type 0} (s : State) (o : Outcome A) (next : A → State → Outcome B) (why : Stop) → StopsWith s o why → StopsWith s (then_do o next) why
stops_first s o next why h = record { state = h.state; is = ap (λ o. then_do o next) h.is; good = h.good }

pub grows_trans : (w x y : World) → WorldGrows w x → WorldGrows x y → WorldGrows w y
grows_trans w x y a b = record {
  world = b.world;
  live = λ v h. b.live v (a.live v h);
  values = λ v h. b.values v (a.live v h) ∙ a.values v h;
}

-- ---- what is watched is not shown

pub shows_reading : (w : World) (v : Value) (s : State) → ShowsState w s → ShowsState w (reading_object v s)
shows_reading w v s h = shows_outer w w.levels w.output w.notes w.input s s.outside (reading_object v s).watched h.column h.line_length h.taken h

pub stays_reading : (v : Value) (s : State) → StaysBeside s (reading_object v s)
stays_reading v s = stays_still s s.store (reading_object v s).watched

pub shows_changing : (w : World) (v : Value) (s : State) → ShowsState w s → ShowsState w (changing v s)
shows_changing w (value.Ref r) s h = shows_outer w w.levels w.output w.notes w.input s s.outside (changing (value.Ref r) s).watched h.column h.line_length h.taken h
shows_changing w (value.Int z) s h = h
shows_changing w (value.Id i) s h = h
shows_changing w (value.Str b) s h = h
shows_changing w (value.Fun f p) s h = h

pub stays_changed : (u : Value) (o : value.Object) (s : State) → StaysBeside s (with_object u o s)
stays_changed (value.Ref r) o s = stays_still s (with_object (value.Ref r) o s).store s.watched
stays_changed (value.Int z) o s = stays_still s s.store s.watched
stays_changed (value.Id i) o s = stays_still s s.store s.watched
stays_changed (value.Str b) o s = stays_still s s.store s.watched
stays_changed (value.Fun f p) o s = stays_still s s.store s.watched

pub stays_changing : (u : Value) (o : value.Object) (s : State) → StaysBeside s (changing u (with_object u o s))
stays_changing (value.Ref r) o s = stays_still s (with_object (value.Ref r) o s).store (changing (value.Ref r) (with_object (value.Ref r) o s)).watched
stays_changing (value.Int z) o s = stays_still s s.store s.watched
stays_changing (value.Id i) o s = stays_still s s.store s.watched
stays_changing (value.Str b) o s = stays_still s s.store s.watched
stays_changing (value.Fun f p) o s = stays_still s s.store s.watched

-- ---- system errors

pub str_live : (cells : List Cell) (v : Tagged) → is_str cells v ≡ true → is_live cells v ≡ true
str_live cells (StrAt k) h = h
str_live cells (Number k) h = absurd (cc)
str_live cells (IdAt k) h = absurd (cc)
str_live cells (PairAt k) h = absurd (cc)
str_live cells (VectorAt k) h = absurd (cc)
str_live cells (BigAt k) h = absurd (cc)
str_live cells (FunAt k) h = absurd (cc)

-- what a string means is its bytes
pub str_means : (cells : List Cell) (v : Tagged) → is_str cells v ≡ true → value_of cells v ≡ Str (bytes_of cells v)
str_means cells (StrAt k) h = refl
str_means cells (Number k) h = absurd (cc)
str_means cells (IdAt k) h = absurd (cc)
str_means cells (PairAt k) h = absurd (cc)
str_means cells (VectorAt k) h = absurd (cc)
str_means cells (BigAt k) h = absurd (cc)
str_means cells (FunAt k) h = absurd (cc)

abbrev first_pair : ℕ → State → Outcome Value
first_pair n s = made_pair (Str (error_text n)) nil_value_of_state s

first_is : (w : World) (n : ℕ) (text : Tagged) (s : State) → value_of w.cells.cells text ≡ Str (error_text n) → IsWorld w → made_pair (value_of w.cells.cells text) (value_of w.cells.cells nil_id) s ≡ first_pair n s
first_is w n text s is i =
    ap (λ v. made_pair v (value_of w.cells.cells nil_id) s) is
    ∙ ap (λ k. made_pair (Str (error_text n)) (Id k) s) i.table.first

-- EMSG!* is never bound
stays_message : (v : Value) (t : State) → nearest message_id t ≡ None → StaysBeside t (with_top message_id v t)
stays_message v t free = record {
  functions = record { functions = refl; compilation = refl };
  bindings = record { entries = refl; hidden = λ i b h. ap (λ (y : Symbol). y.top) (top_else t message_id i v (λ e. absurd (let f : nearest i t ≡ None = ap (λ j. nearest j t) e ∙ free in cc))) };
  outside = refl;
}

pub fails : (w w1 w2 w3 : World) (n : ℕ) (culprit text rest message : Tagged)
    → value_of w.cells.cells text ≡ Str (error_text n)
    → IsWorld w → is_live w.cells.cells culprit ≡ true → is_live w2.cells.cells message ≡ true
    → ((s : State) → ShowsState w s → MeansValue s (made_pair (value_of w.cells.cells text) (value_of w.cells.cells nil_id) s) (Ok rest) w1) → WorldGrows w w1
    → ((s : State) → ShowsState w1 s → MeansValue s (made_pair (value_of w1.cells.cells culprit) (value_of w1.cells.cells rest) s) (Ok message) w2)
    → ((s : State) → ShowsState w2 s → ShowsState w3 (with_top message_id (value_of w2.cells.cells message) s)) → WorldGrows w2 w3
    → (s : State) → ShowsState w s → MeansAnswer s (fail n (value_of w.cells.cells culprit) s) (step.Error (Number (pos n)) message) w3
fails w w1 w2 w3 n culprit text rest message is i live live2 m1 g1 m2 sh g3 s shown =
    after s _ (value_of w1.cells.cells rest) w1 w3 _ _ (subst (λ o. EndsShown s o (λ t. Done (value_of w1.cells.cells rest) t) w1) (first_is w n text s is i) (m1 s shown)) (λ t shown1.
    after t _ (value_of w2.cells.cells message) w2 w3 _ _ (subst (λ v. EndsShown t (made_pair v (value_of w1.cells.cells rest) t) (λ t. Done (value_of w2.cells.cells message) t) w2) (g1.values culprit live) (m2 t shown1)) (λ t shown2.
    record {
      state = with_top message_id (value_of w2.cells.cells message) t;
      is = ap (λ m. Failed (pos n) m (with_top message_id (value_of w2.cells.cells message) t)) (sym (g3.values message live2));
      good = record { shows = sh t shown2; stays = stays_message (value_of w2.cells.cells message) t shown2.free };
    }))

pub fails_first : (w x : World) (n : ℕ) (culprit text : Tagged) (why : stops.Stop)
    → value_of w.cells.cells text ≡ Str (error_text n) → IsWorld w
    → ((s : State) → ShowsState w s → MeansValue s (made_pair (value_of w.cells.cells text) (value_of w.cells.cells nil_id) s) (Err why) x)
    → (s : State) → ShowsState w s → MeansAnswer s (fail n (value_of w.cells.cells culprit) s) (step.Stop why) x
fails_first w x n culprit text why is i m s shown =
    stops_first s _ _ _ (subst (λ o. StopsWith s o (stop_in x.cells.cells why)) (first_is w n text s is i) (m s shown))

pub fails_second : (w w1 x : World) (n : ℕ) (culprit text rest : Tagged) (why : stops.Stop)
    → value_of w.cells.cells text ≡ Str (error_text n) → IsWorld w → is_live w.cells.cells culprit ≡ true
    → ((s : State) → ShowsState w s → MeansValue s (made_pair (value_of w.cells.cells text) (value_of w.cells.cells nil_id) s) (Ok rest) w1) → WorldGrows w w1
    → ((s : State) → ShowsState w1 s → MeansValue s (made_pair (value_of w1.cells.cells culprit) (value_of w1.cells.cells rest) s) (Err why) x)
    → (s : State) → ShowsState w s → MeansAnswer s (fail n (value_of w.cells.cells culprit) s) (step.Stop why) x
fails_second w w1 x n culprit text rest why is i live m1 g1 m2 s shown =
    stops_after s _ (value_of w1.cells.cells rest) w1 _ _ (subst (λ o. EndsShown s o (λ t. Done (value_of w1.cells.cells rest) t) w1) (first_is w n text s is i) (m1 s shown)) (λ t shown1.
    stops_first t _ _ _ (subst (λ v. StopsWith t (made_pair v (value_of w1.cells.cells rest) t) (stop_in x.cells.cells why)) (g1.values culprit live) (m2 t shown1)))
