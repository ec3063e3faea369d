use Rattle.std.proofs.Common.{◌∙◌}
use Rattle.rl_ids.proofs.Sameness.{same_words}
use Rattle.rl_ids.proofs.same.same.Goals as goal

pub returns-in_default : goal.returns-in_default
returns-in_default c =
    same_words c.identifiers_are_numbered.ensures c.functions_are_numbered.ensures c.args.w.now.cells.cells c.args.u c.args.v c.is_same.result c.requires.u_live c.requires.v_live
    (λ e. c.in_default.not-Int (c.tag.ensures ∙ e)) (λ e. c.in_default.not-Big (c.tag.ensures ∙ e)) (λ e. c.in_default.not-Str (c.tag.ensures ∙ e)) c.is_same.ensures
