use Rattle.std.proofs.Common.{ap, ◌∙◌, ◌∷◌}
use Rattle.rl_stack.specs.StackState.{StackState}
use Rattle.rl_stack.proofs.Bound.{unbinds_one, unmarks_one, undoes_none}
use Rattle.rl_stack.proofs.stack.Stack.unbind_one.Goals as goal

pub returns-in-Binding : goal.returns-in-Binding
returns-in-Binding c =
    let new : StackState = c.unsave.new.self in
    unbinds_one c.args.w.now c.set_cell.new.w c.shallower.new.w c.args.self.now new c.in-Binding.id c.in-Binding._local c.in-Binding.hid c.in-Binding.levels (c.in-Some.ensures ∙ ap (λ x. record new { saved = x ∷ new.saved }) c.in-Binding.is)
    c.requires.live c.requires.stands c.set_cell.ensures.shows c.set_cell.ensures.grows c.set_cell.ensures.rest c.shallower.ensures.shows c.shallower.ensures.grows c.shallower.ensures.left

pub returns-in-Mark : goal.returns-in-Mark
returns-in-Mark c =
    let new : StackState = c.unsave.new.self in
    unmarks_one c.args.w.now c.args.self.now new c.in-Mark._f (c.in-Some.ensures ∙ ap (λ x. record new { saved = x ∷ new.saved }) c.in-Mark.is) c.requires.world c.requires.live c.requires.stands

pub returns-in-None : goal.returns-in-None
returns-in-None c = undoes_none c.args.w.now c.args.self.now c.unsave.new.self c.in-None.ensures.0 c.in-None.ensures.1 c.requires.world c.requires.live c.requires.stands
