use Rattle.std.proofs.Common.{◌≡◌, true, ◌∙◌, arith}
use Rattle.rl_print.specs.AtomText.{is_atom}
use Rattle.rl_print.proofs.Reached.{atom_means, cursor_less, live_atom, world_refl}
use Rattle.rl_print.proofs.advance.element.Goals as goal

pub returns-in_default : goal.returns-in_default
returns-in_default c =
    let atom : is_atom c.args.w.now.cells.cells c.args.v ≡ true = live_atom c.args.w.now.cells.cells c.args.v c.requires.live (λ e. c.in_default.not-Pair (c.tag.ensures ∙ e)) (λ e. c.in_default.not-Vector (c.tag.ensures ∙ e)) in
    record {
      ok = λ base ready. record {
        means = atom_means base c.args.w.now c.args.v c.args.outer atom;
        ready = ready;
        next_is = c.requires.outer;
        piece_is = atom;
        less = omega (arith, cursor_less c.args.outer);
      };
      err = λ base ready. tt;
      world = λ base ready. world_refl base c.args.w.now;
    }
