use Rattle.rl_print.specs.AtomText.{style_of}
use Rattle.rl_print.proofs.Shown.{atom_front, atom_shows}
use Rattle.rl_print.proofs.show.show_atom.Goals as goal

pub returns-in-Ok-clause-ok : goal.returns-in-Ok-clause-ok
returns-in-Ok-clause-ok g c = atom_shows _ _ (style_of c.args.style) c.args.w.now c.put_atom.new.w c.args.v c.put_atom.ensures.outside.world c.in-Ok.ensures.ok c.in-Ok.ensures.column

pub returns-in-Err-clause-front : goal.returns-in-Err-clause-front
returns-in-Err-clause-front g c = atom_front _ _ (style_of c.args.style) c.args.w.now c.args.v c.in-Err.ensures.front
