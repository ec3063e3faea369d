-- Steps one after another: what a state reaches, and what stays beside a world.
use Rattle.std.proofs.Common.{◌≡◌, ℕ, true, false, Option, Some, None, refl, sym, ap, subst, ◌∙◌}
use Rattle.rl_tree.specs.Value as value
use Rattle.rl_tree.specs.Value.{Value, Store}
use Rattle.rl_world.specs.declared.stop.NStep as steps
use Rattle.rl_world.specs.declared.stop.NStep.TheVariants as step
use Rattle.rl_world.specs.declared.world.World.{World}
use Rattle.rl_meaning.specs.State.{State, Symbol, Watched}
use Rattle.rl_meaning.specs.Constants.{changing, reading_object}
use Rattle.rl_meaning.specs.Outcome.{Outcome, Done, Failed, Stop, Stopped, then_do}
use Rattle.rl_meaning.specs.Symbols.{new_symbol}
use Rattle.rl_state.specs.Beside.{StaysBeside}
use Rattle.rl_state.specs.Ending.{IsShownBeside, MeansAnswer, Reaches, stop_in}
use Rattle.rl_state.specs.ShownState.{ShowsState}
use Rattle.rl_state.specs.StepLaws.{StepsFollow}

-- ---- what is reached

pub reach_after : {A B : Type 0} (mid good : State → Type 0) (o : Outcome A) (a : A) (next : A → State → Outcome B) (end : State → Outcome B) → Reaches mid o (λ t. Done a t) → ((t : State) → mid t → Reaches good (next a t) end) → Reaches good (then_do o next) end
reach_after mid good o a next end h k =
    let r = k h.state h.good in
    record { state = r.state; is = ap (λ o. then_do o next) h.is ∙ r.is; good = r.good }

pub reach_stop : {A B : Type 0} (good : State → Type 0) (o : Outcome A) (next : A → State → Outcome B) (why : Stop) → Reaches good o (λ t. Stopped why t) → Reaches good (then_do o next) (λ t. Stopped why t)
reach_stop good o next why h = record { state = h.state; is = ap (λ o. then_do o next) h.is; good = h.good }

pub reach_weaker : {A : Type 0} (mid good : State → Type 0) (o : Outcome A) (end : State → Outcome A) → ((t : State) → mid t → good t) → Reaches mid o end → Reaches good o end
reach_weaker mid good o end f h = record { state = h.state; is = h.is; good = f h.state h.good }

-- ---- what stays

-- where objects change, or what is watched
pub stays_still : (s : State) (store : Store) (v : Watched) → StaysBeside s (record s { store = store; watched = v })
stays_still s store v = record { functions = record { functions = refl; compilation = refl }; bindings = record { entries = refl; hidden = λ i b h. refl }; outside = refl }

pub shown_on : (law : StepsFollow) (w x : World) (s t u : State) → IsShownBeside w s t → IsShownBeside x t u → IsShownBeside x s u
shown_on law w x s t u a b = record { shows = b.shows; stays = law.stays s t u a.stays b.stays }

-- what is watched is not shown
pub shows_watched : (w : World) (s : State) (v : Watched) → ShowsState w s → ShowsState w (record s { watched = v })
shows_watched w s v h = record {
  store = h.store;
  symbols = record { many = h.symbols.many; symbols = h.symbols.symbols; values = h.symbols.values };
  counts = h.counts;
  gensyms = h.gensyms;
  column = h.column;
  line_length = h.line_length;
  taken = h.taken;
  free = h.free;
  bound = h.bound;
}

pub shown_reading : (law : StepsFollow) (w : World) (v : Value) (s t : State) → IsShownBeside w s t → IsShownBeside w s (reading_object v t)
shown_reading law w v s t h = shown_on law w w s t (reading_object v t) h (law.reading w v t h.shows)

pub shown_changing : (w : World) (v : Value) (s : State) → ShowsState w s → IsShownBeside w s (changing v s)
shown_changing w (value.Ref r) s h = let n = (changing (value.Ref r) s).watched in record { shows = shows_watched w s n h; stays = stays_still s s.store n }
shown_changing w (value.Int z) s h = record { shows = h; stays = stays_still s s.store s.watched }
shown_changing w (value.Id i) s h = record { shows = h; stays = stays_still s s.store s.watched }
shown_changing w (value.Str b) s h = record { shows = h; stays = stays_still s s.store s.watched }
shown_changing w (value.Fun f p) s h = record { shows = h; stays = stays_still s s.store s.watched }

-- ---- answers

pub answer_on : (law : StepsFollow) (w x : World) (s t : State) (o : Outcome Value) (r : steps.NStep) → IsShownBeside w s t → MeansAnswer t o r x → MeansAnswer s o r x
answer_on law w x s t o (step.Done v) a h = reach_weaker (IsShownBeside x t) (IsShownBeside x s) o _ (λ u b. shown_on law w x s t u a b) h
answer_on law w x s t o (step.Error n m) a h = reach_weaker (IsShownBeside x t) (IsShownBeside x s) o _ (λ u b. shown_on law w x s t u a b) h
answer_on law w x s t o (step.Stop why) a h = reach_weaker (StaysBeside t) (StaysBeside s) o _ (λ u b. law.stays s t u a.stays b) h

-- what comes first is done, and the answer is that of what comes next
pub answer_after : {A : Type 0} (w x : World) (s : State) (o : Outcome A) (a : A) (next : A → State → Outcome Value) (r : steps.NStep) → Reaches (IsShownBeside w s) o (λ t. Done a t) → ((t : State) → IsShownBeside w s t → MeansAnswer s (next a t) r x) → MeansAnswer s (then_do o next) r x
answer_after w x s o a next (step.Done v) h k = reach_after (IsShownBeside w s) (IsShownBeside x s) o a next _ h k
answer_after w x s o a next (step.Error n m) h k = reach_after (IsShownBeside w s) (IsShownBeside x s) o a next _ h k
answer_after w x s o a next (step.Stop why) h k = reach_after (IsShownBeside w s) (StaysBeside s) o a next _ h k
