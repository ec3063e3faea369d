use Rattle.rl_print.specs.AtomText.{style_of}
use Rattle.rl_print.proofs.Shown.{mark_front, mark_shows}
use Rattle.rl_print.proofs.show.show_mark.Goals as goal

pub returns-in-Ok-clause-ok : goal.returns-in-Ok-clause-ok
returns-in-Ok-clause-ok g c = mark_shows _ _ (style_of c.args.style) c.args.w.now c.put_bytes.new.w c.args.bytes c.put_bytes.ensures.outside.world c.in-Ok.ensures.ok c.in-Ok.ensures.column

pub returns-in-Err-clause-front : goal.returns-in-Err-clause-front
returns-in-Err-clause-front g c = mark_front _ _ (style_of c.args.style) c.args.w.now c.args.bytes c.in-Err.ensures.front
