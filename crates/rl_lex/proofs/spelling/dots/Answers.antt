use Rattle.std.proofs.Common.{List, refl, sym, subst}
use Rattle.rl_lex.specs.Parts.{ArePartsOf}
use Rattle.rl_lex.proofs.Elements.{dot_goes, popped_is}
use Rattle.rl_lex.specs.declared.nest.Part.{Part}
use Rattle.rl_lex.specs.declared.nest.Part.TheVariants.{Going}
use Rattle.rl_lex.proofs.spelling.dots.Goals as goal

pub returns-in-Some-Going-clause-moved : goal.returns-in-Some-Going-clause-moved
returns-in-Some-Going-clause-moved c = λ fs is.
    let old = popped_is Going c.pop.result c.args.nest.now c.pop.new.self c.pop.ensures.some c.in-Some-Going.field-0 c.in-Some-Going.is c.in-Some-Going.field-0-is in
    let goes = dot_goes c.pop.new.self fs (subst (λ (ps : List Part). ArePartsOf ps fs) old is) in
    (refl, (goes.0, goes.1, subst (λ (ps : List Part). ArePartsOf ps goes.0) (sym c.push.ensures) goes.2))
