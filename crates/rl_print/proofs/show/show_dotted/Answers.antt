use Rattle.std.proofs.Common.{Err, refl, ◌∙◌}
use Rattle.rl_print.specs.AtomText.{style_of}
use Rattle.rl_print.proofs.Shown.{atom_behind_front, close_front, dot_front, dotted_shows}
use Rattle.rl_print.proofs.Writings.{only_then, out_then}
use Rattle.rl_print.proofs.show.show_dotted.Goals as goal

pub returns-in-Err-clause-front : goal.returns-in-Err-clause-front
returns-in-Err-clause-front g c = dot_front _ _ (style_of c.args.style) c.args.w.now c.args.v _ refl c.in-Err.ensures.cut

pub returns-in-Err-show_atom-clause-front : goal.returns-in-Err-show_atom-clause-front
returns-in-Err-show_atom-clause-front g c = atom_behind_front _ _ _ (style_of c.args.style) c.args.w.now c.show_mark.new.w c.args.v _ refl c.in_default.ensures.outside.world c.in_default.ensures.ok c.in-Err-show_atom.ensures.front

pub returns-in-Ok-clause-ok : goal.returns-in-Ok-clause-ok
returns-in-Ok-clause-ok g c = dotted_shows _ _ _ _ (style_of c.args.style) c.args.w.now c.show_mark.new.w c.show_atom.new.w c.show_mark-2.new.w c.args.v _ _ refl refl c.in_default.ensures.outside.world c.in_default.ensures.ok c.in_default-show_atom.ensures.outside.world c.in_default-show_atom.ensures.ok c.in-Ok.ensures.ok

pub returns-in-Err-show_mark-clause-front : goal.returns-in-Err-show_mark-clause-front
returns-in-Err-show_mark-clause-front g c = close_front _ _ _ _ (style_of c.args.style) c.args.w.now c.show_mark.new.w c.show_atom.new.w c.args.v _ _ refl refl c.in_default.ensures.outside.world c.in_default.ensures.ok c.in_default-show_atom.ensures.ok c.in-Err-show_mark.ensures.cut

pub returns-in-Err-show_atom-clause-faults : goal.returns-in-Err-show_atom-clause-faults
returns-in-Err-show_atom-clause-faults g c = only_then {A = Unit {0}} (Err c.in-Err-show_atom.s) _ _ _ _ c.in_default.ensures.faults c.in-Err-show_atom.ensures.faults

pub returns-in-Err-show_atom-clause-outside : goal.returns-in-Err-show_atom-clause-outside
returns-in-Err-show_atom-clause-outside g c = out_then _ _ _ _ _ _ c.in_default.ensures.outside c.in-Err-show_atom.ensures.outside

pub returns-in-Ok-clause-faults : goal.returns-in-Ok-clause-faults
returns-in-Ok-clause-faults g c = c.in-Ok.ensures.faults ∙ (c.in_default-show_atom.ensures.faults ∙ c.in_default.ensures.faults)

pub returns-in-Ok-clause-outside : goal.returns-in-Ok-clause-outside
returns-in-Ok-clause-outside g c = out_then _ _ _ _ _ _ c.in_default.ensures.outside (out_then _ _ _ _ _ _ c.in_default-show_atom.ensures.outside c.in-Ok.ensures.outside)

pub returns-in-Err-show_mark-clause-faults : goal.returns-in-Err-show_mark-clause-faults
returns-in-Err-show_mark-clause-faults g c = only_then {A = Unit {0}} (Err c.in-Err-show_mark.s) _ _ _ _ (c.in_default-show_atom.ensures.faults ∙ c.in_default.ensures.faults) c.in-Err-show_mark.ensures.faults

pub returns-in-Err-show_mark-clause-outside : goal.returns-in-Err-show_mark-clause-outside
returns-in-Err-show_mark-clause-outside g c = out_then _ _ _ _ _ _ c.in_default.ensures.outside (out_then _ _ _ _ _ _ c.in_default-show_atom.ensures.outside c.in-Err-show_mark.ensures.outside)
