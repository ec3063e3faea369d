use Rattle.std.proofs.Common.{◌≡◌, List, true, refl, sym, ◌∙◌, subst}
use Rattle.rl_lex.specs.Parts.{ArePartsOf, parts_admit}
use Rattle.rl_lex.proofs.Elements.{part_opens, part_shut}
use Rattle.rl_lex.specs.declared.nest.Part.{Part}
use Rattle.rl_lex.proofs.spelling.opens.Goals as goal

pub returns-then-not-admits-clause-moved : goal.returns-then-not-admits-clause-moved
returns-then-not-admits-clause-moved c = λ fs is. (refl, part_shut c.args.part c.args.nest.now fs c.requires.opening (sym c.admits.ensures.admits ∙ c.if-not-admits.true) is)

pub returns-clause-moved : goal.returns-clause-moved
returns-clause-moved c = λ fs is.
    let same = c.admits.ensures.same c.if-not-admits.false in
    let admitted : parts_admit c.args.nest.now ≡ true = sym c.admits.ensures.admits ∙ c.if-not-admits.false in
    let opened = part_opens c.args.part c.admits.new.nest fs c.requires.opening (subst (λ (ps : List Part). parts_admit ps ≡ true) (sym same) admitted) (subst (λ (ps : List Part). ArePartsOf ps fs) (sym same) is) in
    (refl, (opened.0, opened.1, subst (λ (ps : List Part). ArePartsOf ps opened.0) (sym c.push.ensures) opened.2))
