use Rattle.std.proofs.Common.{◌≡◌, true, refl, sym, ap, ◌∙◌, ◌∷◌, [], arith}
use Rattle.rl_tree.specs.Printing.{dotted_atom, marked}
use Rattle.rl_syms.specs.Contents.{value_of}
use Rattle.rl_print.specs.AtomText.{is_atom}
use Rattle.rl_world.specs.declared.world.World.{World}
use Rattle.rl_print.specs.Walk.{continued, walk_place_in, progress_in_world, setting_in_world}
use Rattle.rl_print.specs.declared.walk.Cursor.TheVariants as cursor
use Rattle.rl_print.specs.declared.walk.State.TheVariants as state
use Rattle.rl_print.proofs.Reached.{atom_is_last, done_means, is_nil, is_other, live_atom, live_vector, nil_last, pop_less, rest_vector_means, world_popped}
use Rattle.rl_print.proofs.advance.rest.Goals as goal

pub returns-then-eq-clause-ok : goal.returns-then-eq-clause-ok
returns-then-eq-clause-ok c =
    let nil = is_nil c.args.d (sym c.eq.ensures ∙ c.if-eq.true) in
    record {
      means = λ style text. done_means c.args.base c.args.w.now c.pop.new.w c.pop.result (walk_place_in c.args.w.now.cells.cells (cursor.Rest c.args.d)) style (marked (41 ∷ [])) text c.pop.ensures.world (c.pop.ensures.means style) (nil_last style c.args.w.now c.args.d text nil) refl;
      ready = c.pop.ensures.ready;
      next_is = c.pop.ensures.next;
      piece_is = tt;
      less = pop_less c.args.w.now c.pop.new.w (state.Next (cursor.Rest c.args.d)) c.pop.result c.pop.ensures.world c.pop.ensures.fewer (omega arith);
    }

pub returns-in-Vector-clause-ok : goal.returns-in-Vector-clause-ok
returns-in-Vector-clause-ok c =
    let vector = live_vector c.args.w.now.cells.cells c.args.d c.requires.live (sym c.in-Vector.is ∙ c.tag.ensures) in
    record {
      means = rest_vector_means c.meaning_of_reading.ensures c.args.base c.args.w.now c.args.d vector;
      ready = c.requires.ready;
      next_is = (vector, omega arith);
      piece_is = tt;
      less = omega arith;
    }

pub returns-in_default : goal.returns-in_default
returns-in_default c =
    let cells = c.args.w.now.cells.cells in
    let atom : is_atom cells c.args.d ≡ true = live_atom cells c.args.d c.requires.live (λ e. c.in_default.not-Pair (c.tag.ensures ∙ e)) (λ e. c.in_default.not-Vector (c.tag.ensures ∙ e)) in
    let other = is_other c.args.d (sym c.eq.ensures ∙ c.if-eq.false) in
    let p = c.pop-in_default in
    record {
      ok = record {
        means = λ style text. done_means c.args.base c.args.w.now p.new.w p.result (walk_place_in cells (cursor.Rest c.args.d)) style (dotted_atom (setting_in_world style c.args.w.now) (value_of cells c.args.d)) text p.ensures.world (p.ensures.means style) (atom_is_last c.identifiers_are_numbered.ensures style c.args.w.now c.args.d text c.requires.ready.table.nil atom other) refl
            ∙ ap (λ (w : World). continued style p.new.w c.args.base p.result (dotted_atom (setting_in_world style w) (value_of w.cells.cells c.args.d) (progress_in_world p.new.w text))) (sym p.ensures.world);
        ready = p.ensures.ready;
        next_is = p.ensures.next;
        piece_is = ap (λ (w : World). is_atom w.cells.cells c.args.d) p.ensures.world ∙ atom;
        less = pop_less c.args.w.now p.new.w (state.Next (cursor.Rest c.args.d)) p.result p.ensures.world p.ensures.fewer (omega arith);
      };
      err = tt;
      world = world_popped c.args.base c.args.w.now p.new.w p.ensures.world p.ensures.steady;
    }
