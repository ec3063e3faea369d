use Rattle.rl_world.proofs.TextsStay.{texts_are_kept_by}
use Rattle.rl_world.proofs.laws.texts_are_kept.Goals as goal

pub returns : goal.returns
returns c = texts_are_kept_by
