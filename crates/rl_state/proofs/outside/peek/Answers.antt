use Rattle.std.proofs.Common.{ℕ, Option, refl, subst}
use Rattle.rl_state.specs.Ties.{EndsTied, GivesNext, TakesInput, told_in}
use Rattle.rl_state.proofs.Steps.{grows_trans}
use Rattle.rl_state.proofs.TiedBacks.{sees, still_input_alone}
use Rattle.rl_state.proofs.outside.peek.Goals as goal

pub returns-in-Ok-Some-clause-means : goal.returns-in-Ok-Some-clause-means
returns-in-Ok-Some-clause-means g c = sees _ (told_in g.O.Sink.contents g.N.Sink.contents g.I.Source.left c.next_byte.new.w c.next_byte.new.io) c.put_back.new.w _ _ _ c.in-Ok-Some.field-0 c.in-Ok-Some.b c.in-Ok-Some.field-0-is c.in-Ok-Some.ensures.means refl c.put_back.ensures.rest (λ at coming s t. c.put_back.ensures.means at _ _ _ coming s t)

pub returns-in-Ok-Some-clause-grows : goal.returns-in-Ok-Some-clause-grows
returns-in-Ok-Some-clause-grows g c i =
    let first = c.next_byte.ensures.grows i in
    grows_trans c.args.w.now c.next_byte.new.w c.put_back.new.w first (c.put_back.ensures.grows first.world)

pub returns-in-Ok-Some-clause-rest : goal.returns-in-Ok-Some-clause-rest
returns-in-Ok-Some-clause-rest g c =
    let first = c.next_byte.ensures.rest in
    record { world = still_input_alone c.args.w.now c.next_byte.new.w c.put_back.new.w _ first.world c.put_back.ensures.rest; objects = first.objects; same_input = first.same_input; same_out = first.same_out }

pub returns-in-Ok-None-clause-means : goal.returns-in-Ok-None-clause-means
returns-in-Ok-None-clause-means g c =
    let told = told_in g.O.Sink.contents g.N.Sink.contents g.I.Source.left in
    subst (λ (b : Option ℕ). TakesInput (told c.args.w.now c.args.io.now) (told c.next_byte.new.w c.next_byte.new.io) (EndsTied (GivesNext b) (told c.next_byte.new.w c.next_byte.new.io))) c.in-Ok-None.field-0-is c.in-Ok-None.ensures.means
