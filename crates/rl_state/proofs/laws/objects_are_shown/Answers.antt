use Rattle.rl_state.proofs.Pairs.{no_vector_shown, none_shown, pair_shown, vector_shown}
use Rattle.rl_state.proofs.laws.objects_are_shown.Goals as goal

pub returns : goal.returns
returns c =
    let law = c.meaning_of_reading.ensures in
    record { pair = pair_shown law; no_pair = none_shown law; vector = vector_shown law; no_vector = no_vector_shown law }
