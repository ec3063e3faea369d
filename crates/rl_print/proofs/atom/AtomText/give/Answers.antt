use Rattle.std.proofs.Common.{sym, ◌∙◌}
use Rattle.rl_print.proofs.AtomTexts.{gives_name, gives_plain, gives_string}
use Rattle.rl_print.proofs.atom.AtomText.give.Goals.{in_default-via-in-Prin1+in_default, in_default-via-in_default}
use Rattle.rl_print.proofs.atom.AtomText.give.Goals as goal

pub returns-in-Prin1-Id-clause-gives : goal.returns-in-Prin1-Id-clause-gives
returns-in-Prin1-Id-clause-gives c = λ cells. gives_name cells _ _ _ _ c.in-Prin1-Id.is-0 (sym c.tag.ensures ∙ c.in-Prin1-Id.is-1) c.requires.none_pending c.give_escaped.ensures.gives c.give_escaped.ensures.moves

pub returns-in-Prin1-Str-clause-gives : goal.returns-in-Prin1-Str-clause-gives
returns-in-Prin1-Str-clause-gives c = λ cells. gives_string cells _ _ _ _ c.in-Prin1-Str.is-0 (sym c.tag.ensures ∙ c.in-Prin1-Str.is-1) c.requires.none_pending c.give_doubled.ensures.gives c.give_doubled.ensures.moves

pub returns-in_default-clause-gives : goal.returns-in_default-clause-gives
returns-in_default-clause-gives c = λ cells.
    elim c.in_default.branch [
      | in_default-via-in-Prin1+in_default w ↦ gives_plain cells _ _ (λ s. (λ e. w.in_default.not-Id-1 (c.tag.ensures ∙ e), λ e. w.in_default.not-Str-1 (c.tag.ensures ∙ e))) c.requires.none_pending
      | in_default-via-in_default w ↦ gives_plain cells _ _ (λ s. absurd (cc (s, w.in_default.is-0))) c.requires.none_pending
    ]
