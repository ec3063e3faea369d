use Rattle.std.proofs.Common.{refl, sym, subst}
use Rattle.rl_world.specs.Counts.{TakesTurnsAndCells}
use Rattle.rl_state.proofs.Made.{grows_refl, rest_refl, rest_trans}
use Rattle.rl_state.proofs.Outer.{stays_still}
use Rattle.rl_state.proofs.Steps.{grows_trans, shows_changing, shows_reading, stays_changed, stays_changing, stays_reading, stays_trans}
use Rattle.rl_state.proofs.laws.steps_follow.Goals as goal

pub returns : goal.returns
returns c =
    let law = c.counts_are_taken.ensures in
    record {
      still = λ w s h. record { shows = h; stays = stays_still s s.store s.watched };
      stays = stays_trans;
      stands = λ w i. grows_refl w w refl i;
      grows = grows_trans;
      none = λ w. rest_refl law w w refl;
      alone = rest_trans law;
      counted = λ w k t. record { rest = refl; counts = t; functions = record { words = λ k. refl } };
      changed = λ w v o s h. record { shows = h; stays = stays_changed v o s };
      reading = λ w v s h. record { shows = shows_reading w v s h; stays = stays_reading v s };
      changing = λ w v o s h. record { shows = shows_changing w v _ h; stays = stays_changing v o s };
    }
