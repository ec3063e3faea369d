use Rattle.std.proofs.Common.{ap}
use Rattle.rlisp.proofs.Endings.{front_in, unbuilt_in}
use Rattle.rlisp.proofs.top.run_path.Goals as goal

pub returns-clause-front : goal.returns-clause-front
returns-clause-front g c = front_in c.all_and_nothing_are_fronts.ensures (g.F.Files.contents c.args.io.now.files.now) c.args.path.now _ _ c.run_file.result c.run_file.ensures.ends (λ s. ap g.O.Sink.contents (c.run_file.ensures.silent s))

pub returns-clause-unbuilt : goal.returns-clause-unbuilt
returns-clause-unbuilt g c = λ e. unbuilt_in c.unbuilt_files_spell_no_built_forms.ensures (g.F.Files.contents c.args.io.now.files.now) c.args.path.now _ _ c.run_file.result e c.run_file.ensures.ends
