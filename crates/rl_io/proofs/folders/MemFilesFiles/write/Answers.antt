use Rattle.std.proofs.Common.{ap}
use Rattle.rl_io.proofs.Looks.{replaces}
use Rattle.rl_io.proofs.folders.MemFilesFiles.write.Goals as goal

pub returns-clause-written : goal.returns-clause-written
returns-clause-written c =
    replaces c.args.self.now.files c.put.new.self.files c.args.name.now c.args.bytes.now
    (rw (← c.self.view_is) (ap (λ s. s.files) (c.if-not-put.ensures).after))
