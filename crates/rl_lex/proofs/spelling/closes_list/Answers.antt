use Rattle.std.proofs.Common.{List, subst}
use Rattle.rl_lex.specs.Parts.{ArePartsOf}
use Rattle.rl_lex.proofs.Elements.{list_closes, popped_is}
use Rattle.rl_lex.specs.declared.nest.Part.{Part}
use Rattle.rl_lex.specs.declared.nest.Part.TheVariants.{Begun, Going, Shut}
use Rattle.rl_lex.proofs.spelling.closes_list.Goals as goal

pub returns-in-Some-Begun-clause-moved : goal.returns-in-Some-Begun-clause-moved
returns-in-Some-Begun-clause-moved c = λ fs is.
    let old = popped_is Begun c.pop.result c.args.nest.now c.pop.new.self c.pop.ensures.some c.in-Some-Begun.field-0 c.in-Some-Begun.is c.in-Some-Begun.field-0-is in
    list_closes Begun c.behind.new.nest c.pop.new.self c.args.at fs c.behind.result (λ e. cc) (λ e. cc) (λ e. cc) (subst (λ (ps : List Part). ArePartsOf ps fs) old is) c.behind.ensures.behind

pub returns-in-Some-Going-clause-moved : goal.returns-in-Some-Going-clause-moved
returns-in-Some-Going-clause-moved c = λ fs is.
    let old = popped_is Going c.pop.result c.args.nest.now c.pop.new.self c.pop.ensures.some c.in-Some-Going.field-0 c.in-Some-Going.is c.in-Some-Going.field-0-is in
    list_closes Going c.behind-in-Some-Going.new.nest c.pop.new.self c.args.at fs c.behind-in-Some-Going.result (λ e. cc) (λ e. cc) (λ e. cc) (subst (λ (ps : List Part). ArePartsOf ps fs) old is) c.behind-in-Some-Going.ensures.behind

pub returns-in-Some-Shut-clause-moved : goal.returns-in-Some-Shut-clause-moved
returns-in-Some-Shut-clause-moved c = λ fs is.
    let old = popped_is Shut c.pop.result c.args.nest.now c.pop.new.self c.pop.ensures.some c.in-Some-Shut.field-0 c.in-Some-Shut.is c.in-Some-Shut.field-0-is in
    list_closes Shut c.behind-in-Some-Shut.new.nest c.pop.new.self c.args.at fs c.behind-in-Some-Shut.result (λ e. cc) (λ e. cc) (λ e. cc) (subst (λ (ps : List Part). ArePartsOf ps fs) old is) c.behind-in-Some-Shut.ensures.behind
