use Rattle.std.proofs.Common.{length, refl, sym, ◌∙◌}
use Rattle.rl_print.proofs.Reached.{atom_begun, live_atom, live_vector, vector_begun, world_refl}
use Rattle.rl_print.proofs.advance.begin.Goals as goal

pub returns-in-Vector-clause-ok : goal.returns-in-Vector-clause-ok
returns-in-Vector-clause-ok c = vector_begun c.meaning_of_reading.ensures (length c.args.w.now.levels.walk) c.args.w.now c.args.v _ refl c.requires.table refl (live_vector c.args.w.now.cells.cells c.args.v c.requires.live (sym c.in-Vector.is ∙ c.tag.ensures))

pub returns-in_default : goal.returns-in_default
returns-in_default c = record {
  ok = atom_begun (length c.args.w.now.levels.walk) c.args.w.now c.args.v c.requires.table refl (live_atom c.args.w.now.cells.cells c.args.v c.requires.live (λ e. c.in_default.not-Pair (c.tag.ensures ∙ e)) (λ e. c.in_default.not-Vector (c.tag.ensures ∙ e)));
  err = tt;
  world = world_refl (length c.args.w.now.levels.walk) c.args.w.now;
}
