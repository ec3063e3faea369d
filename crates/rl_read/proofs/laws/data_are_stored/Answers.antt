use Rattle.std.specs.Prelude.{length}
use Rattle.rl_read.proofs.DatumMeant.{data_mean}
use Rattle.rl_read.proofs.laws.data_are_stored.Goals as goal

pub returns : goal.returns
returns c cells head v table nil is = data_mean c.meaning_of_reading.ensures c.identifiers_are_numbered.ensures c.names_are_numbered.ensures cells head (length cells) v table nil is
