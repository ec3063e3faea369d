use Rattle.std.proofs.Common.{List, subst}
use Rattle.rl_lex.specs.Parts.{ArePartsOf}
use Rattle.rl_lex.proofs.Elements.{vector_closes, popped_is}
use Rattle.rl_lex.specs.declared.nest.Part.{Part}
use Rattle.rl_lex.specs.declared.nest.Part.TheVariants.{Vector}
use Rattle.rl_lex.proofs.spelling.closes_vector.Goals as goal

pub returns-in-Some-Vector-clause-moved : goal.returns-in-Some-Vector-clause-moved
returns-in-Some-Vector-clause-moved c = λ fs is.
    let old = popped_is Vector c.pop.result c.args.nest.now c.pop.new.self c.pop.ensures.some c.in-Some-Vector.field-0 c.in-Some-Vector.is c.in-Some-Vector.field-0-is in
    vector_closes c.behind.new.nest c.pop.new.self c.args.at fs c.behind.result (subst (λ (ps : List Part). ArePartsOf ps fs) old is) c.behind.ensures.behind
