-- What an outcome comes to, one call after another.
use Rattle.std.proofs.Common.{◌≡◌, refl, ap, ◌∙◌}
use Rattle.rl_world.specs.declared.stop.NStep as steps
use Rattle.rl_world.specs.declared.stop.NStep.TheVariants as step
use Rattle.rl_world.specs.declared.world.World.{World}
use Rattle.rl_tree.specs.Value.{Value}
use Rattle.rl_meaning.specs.State.{State}
use Rattle.rl_meaning.specs.Outcome.{Outcome, Done, Stop, then_do}
use Rattle.rl_state.specs.ShownState.{ShowsState}
use Rattle.rl_state.specs.Ending.{EndsShown, MeansAnswer, StopsWith}
use Rattle.rl_state.specs.StepLaws.{StepsFollow}

-- nothing is done
pub begins : {A : Type 0} (law : StepsFollow) (s : State) (end : State → Outcome A) (w : World) → ShowsState w s → EndsShown s (end s) end w
begins law s end w h = record { state = s; is = refl; good = law.still w s h }

-- the same end by another word
pub retold : {A : Type 0} (s : State) (o : Outcome A) (end other : State → Outcome A) (w : World) → EndsShown s o end w → ((t : State) → ShowsState w t → end t ≡ other t) → EndsShown s o other w
retold s o end other w h k = record { state = h.state; is = h.is ∙ k h.state h.good.shows; good = h.good }

pub goes_on : {A : Type 0} (law : StepsFollow) (s : State) (o : Outcome A) (end other : State → Outcome A) (w x : World) → EndsShown s o end w → ((t : State) → ShowsState w t → EndsShown t (end t) other x) → EndsShown s o other x
goes_on law s o end other w x h k =
    let r = k h.state h.good.shows in
    record { state = r.state; is = h.is ∙ r.is; good = record { shows = r.good.shows; stays = law.stays s h.state r.state h.good.stays r.good.stays } }

pub stops_on : {A : Type 0} (law : StepsFollow) (s : State) (o : Outcome A) (end : State → Outcome A) (why : Stop) (w : World) → EndsShown s o end w → ((t : State) → ShowsState w t → StopsWith t (end t) why) → StopsWith s o why
stops_on law s o end why w h k =
    let r = k h.state h.good.shows in
    record { state = r.state; is = h.is ∙ r.is; good = law.stays s h.state r.state h.good.stays r.good }

pub answers_on : (law : StepsFollow) (s : State) (o : Outcome Value) (end : State → Outcome Value) (r : steps.NStep) (w x : World) → EndsShown s o end w → ((t : State) → ShowsState w t → MeansAnswer t (end t) r x) → MeansAnswer s o r x
answers_on law s o end (step.Done v) w x h k = goes_on law s o end _ w x h k
answers_on law s o end (step.Error n m) w x h k = goes_on law s o end _ w x h k
answers_on law s o end (step.Stop why) w x h k = stops_on law s o end _ w h k

-- ---- and then

pub ends_then : {A B : Type 0} (s : State) (o : Outcome A) (end : State → Outcome A) (next : A → State → Outcome B) (w : World) → EndsShown s o end w → EndsShown s (then_do o next) (λ t. then_do (end t) next) w
ends_then s o end next w h = record { state = h.state; is = ap (λ o. then_do o next) h.is; good = h.good }

pub stops_then : {A B : Type 0} (s : State) (o : Outcome A) (next : A → State → Outcome B) (why : Stop) → StopsWith s o why → StopsWith s (then_do o next) why
stops_then s o next why h = record { state = h.state; is = ap (λ o. then_do o next) h.is; good = h.good }
