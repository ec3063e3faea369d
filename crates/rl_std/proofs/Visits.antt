-- What walks do at each pair: each gives no turns back.
use Rattle.std.proofs.Common.{◌≤◌, ℕ, suc, pos, Option, Some, None, arith}
use Rattle.rl_tree.specs.Value.{Value, Int, Id, Str, Ref, Fun}
use Rattle.rl_tree.specs.Value as object
use Rattle.rl_meaning.specs.State.{State}
use Rattle.rl_meaning.specs.Outcome.{Outcome, Done, made_pair, turns_left}
use Rattle.rl_meaning.specs.Copying.{with_object}
use Rattle.rl_meaning.specs.Lists.{Chain, and_goes, joined, list_ended, list_extended, pair_hung}
use Rattle.rl_meaning.specs.Symbols.{nil_value_of_state, pair_at}
use Rattle.rl_meaning.specs.Walks.{Further, Goes, Walked}
use Rattle.rl_meaning.specs.WalkLaws.{GivesNoTurnsBack}
use Rattle.rl_std.proofs.Turning.{pair_leaves, then_leaves}

-- ---- LENGTH

abbrev pub counting : ℕ → Value → Value → State → Outcome (Further ℕ)
counting n pair x s = Done (Goes (suc n)) s

abbrev pub counted : Walked ℕ → State → Outcome Value
counted walked s = Done (Int (pos walked.result)) s

pub counting_gives : GivesNoTurnsBack counting
counting_gives = record { leaves = λ n pair x s. omega arith }

-- ---- REVERSE

abbrev pub turning_round : Value → Value → Value → State → Outcome (Further Value)
turning_round list pair x s = and_goes (made_pair x list s)

abbrev pub resulting : Walked Value → State → Outcome Value
resulting walked s = Done walked.result s

pub turning_round_gives : GivesNoTurnsBack turning_round
turning_round_gives = record { leaves = λ list pair x s. then_leaves (turns_left s) (made_pair x list s) _ (pair_leaves x list s) (λ v t h. h) }

-- ---- APPEND

abbrev pub copying : Chain → Value → Value → State → Outcome (Further Chain)
copying chain pair x s = and_goes (list_extended chain x s)

abbrev pub behind : Value → Walked Chain → State → Outcome Value
behind v walked s = list_ended walked.result v s

hung_leaves : (n : ℕ) (chain : Chain) (p : Value) (t : State) → turns_left t ≤ n → turns_left (pair_hung chain p t).1 ≤ n
hung_leaves n None p t h = h
hung_leaves n (Some c) p t h = go (pair_at t c.1)
  where
    go : (parts : Option (Value × Value)) → turns_left (elim parts [ None ↦ t | Some parts ↦ with_object c.1 (object.Pair parts.0 p) t ]) ≤ n
    go None = h
    go (Some parts) = at c.1
      where
        at : (v : Value) → turns_left (with_object v (object.Pair parts.0 p) t) ≤ n
        at (Ref r) = h
        at (Int z) = h
        at (Id i) = h
        at (Str b) = h
        at (Fun f q) = h

pub copying_gives : GivesNoTurnsBack copying
copying_gives = record {
  leaves = λ chain pair x s.
      then_leaves (turns_left s) (list_extended chain x s) _
      (then_leaves (turns_left s) (made_pair x nil_value_of_state s) _ (pair_leaves x nil_value_of_state s) (λ p t h. hung_leaves (turns_left s) chain p t h))
      (λ v t h. h);
}

-- ---- NCONC

abbrev pub lasting : Option Value → Value → Value → State → Outcome (Further (Option Value))
lasting last pair x s = Done (Goes (Some pair)) s

abbrev pub joining : Value → Value → Walked (Option Value) → State → Outcome Value
joining u v walked s = joined u walked.result v s

pub lasting_gives : GivesNoTurnsBack lasting
lasting_gives = record { leaves = λ last pair x s. omega arith }
