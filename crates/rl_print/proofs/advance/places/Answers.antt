use Rattle.std.proofs.Common.{◌≡◌, ◌≢◌, ◌∙◌, ◌+◌, ◌<◌, length, refl, sym, ap, arith}
use Rattle.std.specs.Prelude.{slice_get}
use Rattle.std.proofs.lemmas.Option.{slice_get-get_or}
use Rattle.rl_tags.specs.Ids.{nil_id}
use Rattle.rl_cells.specs.Cell.{is_vector, vector_of}
use Rattle.rl_tree.specs.Printing.{NoTurn, marked}
use Rattle.rl_world.specs.declared.world.World.{World}
use Rattle.rl_print.specs.Walk.{walk_place_in}
use Rattle.rl_print.specs.declared.walk.Cursor.TheVariants as cursor
use Rattle.rl_print.specs.declared.walk.State.TheVariants as state
use Rattle.rl_print.proofs.Reached.{Turned, done_means, end_of, places_mean, places_no_turn, pop_less, ready_turned, turn_less}
use Rattle.rl_print.proofs.advance.places.Goals as goal

pub returns-then-i-from-clause-ok : goal.returns-then-i-from-clause-ok
returns-then-i-from-clause-ok c = record {
  means = λ style text. done_means c.args.base c.args.w.now c.pop.new.w c.pop.result (walk_place_in c.args.w.now.cells.cells (cursor.Places c.args.v c.args.i c.args.dotted)) style (marked c.end_mark.result.now) text c.pop.ensures.world (c.pop.ensures.means style)
      (end_of style c.args.w.now c.args.v c.args.i c.args.dotted c.end_mark.result.now text (omega (arith, c.if-i-from.true, c.from.ensures, c.vector_len.ensures)) c.end_mark.ensures) refl;
  ready = c.pop.ensures.ready;
  next_is = c.pop.ensures.next;
  piece_is = tt;
  less = pop_less c.args.w.now c.pop.new.w (state.Next (cursor.Places c.args.v c.args.i c.args.dotted)) c.pop.result c.pop.ensures.world c.pop.ensures.fewer (omega arith);
}

pub returns-in-Err-clause-err : goal.returns-in-Err-clause-err
returns-in-Err-clause-err c =
    let cells = c.args.w.now.cells.cells in
    let other : c.args.i ≢ length (vector_of cells c.args.v) = λ e. c.if-i-from.false (e ∙ sym (c.from.ensures ∙ c.vector_len.ensures)) in
    let within : c.args.i < length (vector_of cells c.args.v) = omega (arith, c.requires.place.1, other) in
    rw c.in-Err.ensures.err record {
      ending = NoTurn;
      is_stop = c.in-Err.ensures.stop;
      means = places_no_turn c.args.base c.args.w.now c.args.v c.args.i c.args.dotted _ (slice_get-get_or (vector_of cells c.args.v) c.args.i nil_id within) c.in-Err.ensures.none;
    }

pub returns-clause-ok : goal.returns-clause-ok
returns-clause-ok c =
    let turned : Turned c.args.w.now c.turn.new.w = record { world = c.in_default.ensures.world; turns = c.in_default.ensures.taken } in
    let other : c.args.i ≢ length (vector_of c.args.w.now.cells.cells c.args.v) = λ e. c.if-i-from.false (e ∙ sym (c.from.ensures ∙ c.vector_len.ensures)) in
    let long : length (vector_of c.turn.new.w.cells.cells c.args.v) ≡ length (vector_of c.args.w.now.cells.cells c.args.v) = ap (λ (w : World). length (vector_of w.cells.cells c.args.v)) turned.world in
    record {
      means = places_mean c.args.base c.args.w.now c.turn.new.w c.args.v c.args.i c.args.dotted c.get-x.result c.mark_before.result.now turned (ap (λ (w : World). slice_get (vector_of w.cells.cells c.args.v) c.args.i) (sym turned.world) ∙ c.get-x.ensures.value) c.mark_before.ensures;
      ready = ready_turned c.args.base c.args.w.now c.turn.new.w turned c.requires.ready;
      next_is = (c.get-x.ensures.live, (ap (λ (w : World). is_vector w.cells.cells c.args.v) turned.world ∙ c.requires.place.0, omega (arith, c.requires.place.1, other, long)));
      piece_is = tt;
      less = turn_less c.args.w.now c.turn.new.w (state.Next (cursor.Places c.args.v c.args.i c.args.dotted)) c.get-x.result (cursor.Places c.args.v (c.args.i + 1) c.args.dotted) turned;
    }
