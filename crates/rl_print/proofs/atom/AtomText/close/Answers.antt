use Rattle.std.proofs.Common.{refl, ◌∙◌}
use Rattle.rl_print.proofs.AtomTexts.{none_left}
use Rattle.rl_print.proofs.atom.AtomText.close.Goals as goal

pub returns-in_default : goal.returns-in_default
returns-in_default c = record {
  gives = none_left _ _ (λ s e. c.in_default.not-Str-1 (c.tag.ensures ∙ e)) c.requires.none_pending c.requires.ended;
  atom = refl;
}

pub returns-in_default-2-clause-gives : goal.returns-in_default-2-clause-gives
returns-in_default-2-clause-gives c = none_left c.args.w.now.cells.cells c.args.self.now (λ s. absurd (cc (s, c.in_default.is-0))) c.requires.none_pending c.requires.ended
