-- What is proved of the identity and its code, as one law.
use Rattle.std.proofs.Common.{◌≡◌, ℕ, false, List, Option}
use Rattle.rl_meaning.specs.Outcome.{Levels}
use Rattle.rl_meaning.specs.Symbols.{is_constant}
use Rattle.rl_meaning.specs.Run.{run_bytes}
use Rattle.rl_meaning.specs.Jobs.{the_compiler}
use Rattle.rl_meaning.specs.Opening.{bare_state}
use Rattle.rl_meaning.specs.TwoRunsStates.{bounds_of, IsRoomier}
use Rattle.rl_agrees.specs.Laws.{CodeAgrees}
use Rattle.rl_agrees.specs.TwoRunsRuns.{RunsAgree, with_running_code, walking}
use Rattle.rl_agrees.specs.Identity.{identity_state, ACodeIsRight}
use Rattle.rl_agrees.proofs.IdentityCode.{identity_right}
use Rattle.rl_agrees.proofs.IdentityState.{ready_with, sound_with}
use Rattle.rl_agrees.proofs.IdentitySound.{ready_state, sound_state, code_runs}
use Rattle.rl_agrees.proofs.IdentityWrong.{nil_wrong}

-- runs that start where the identity has its code
identity_agrees : CodeAgrees → (x : ℕ) (l m : Levels) (cells : Option ℕ) (source : List ℕ) → is_constant x ≡ false → IsRoomier l m → RunsAgree (bounds_of m cells) (run_bytes l source (with_running_code (identity_state x))) (run_bytes m source (walking cells (identity_state x)))
unfolding bare_state
identity_agrees law x l m cells source e r = law.runs (identity_state x) l m cells source (sound_state x) (ready_state the_compiler x e) r tt

pub a_code_is_right : CodeAgrees → ACodeIsRight
a_code_is_right law = record {
  right = λ c lowered i x p kept free. identity_right c i x p kept free lowered;
  ready = ready_with;
  sound = sound_with;
  ready_state = ready_state;
  sound_state = sound_state;
  runs = code_runs;
  agrees = identity_agrees law;
  wrong = nil_wrong;
}
