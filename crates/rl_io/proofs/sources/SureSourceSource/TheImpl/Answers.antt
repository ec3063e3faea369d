use Rattle.std.proofs.Common.{refl}
use Rattle.rl_io.proofs.Sure.{on_ok, on_err}
use Rattle.rl_io.proofs.sources.SureSourceSource.TheImpl.Goals as goal

pub read-tells : goal.read-tells
read-tells g c =
    record {
      fits = c.ensures.fits;
      moved = c.ensures.moved;
      steady = on_ok _ c.result refl;
      failed = on_err _ c.result c.ensures.sure;
    }
