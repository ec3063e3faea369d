use Rattle.std.proofs.Common.{Err, ◌≡◌, ◌∷◌, sym, ap, ◌∙◌}
use Rattle.rl_cells.specs.Cell.{CellStore}
use Rattle.rl_world.specs.declared.world.World.{World}
use Rattle.rl_print.specs.AtomText.{text_left}
use Rattle.rl_print.proofs.Shown.{text_cut, text_goes_on}
use Rattle.rl_print.proofs.Writings.{only_then, out_then}
use Rattle.rl_print.proofs.put.put_text.Goals as goal

pub returns-in-Err-clause-front : goal.returns-in-Err-clause-front
returns-in-Err-clause-front g c =
    let cells = ap (λ (w : World). w.cells) c.loop-b.invariant.outside.world in
    let e : text_left c.args.w.now.cells.cells c.loop-b.left ≡ c.in-Some.b ∷ text_left c.args.w.now.cells.cells c.next.new.self = ap (λ (s : CellStore). text_left s.cells c.loop-b.left) (sym cells) ∙ (c.in-Some.ensures.gives ∙ ap (λ (s : CellStore). c.in-Some.b ∷ text_left s.cells c.next.new.self) cells) in
    text_cut _ _ _ _ _ _ _ _ _ _ c.in-Some.b c.loop-b.invariant.goes e c.in-Err.ensures.front

pub returns-in-Err-clause-faults : goal.returns-in-Err-clause-faults
returns-in-Err-clause-faults g c = only_then {A = Unit {0}} (Err c.in-Err.s) _ _ _ _ c.loop-b.invariant.steady c.in-Err.ensures.faults

pub returns-in-Err-clause-outside : goal.returns-in-Err-clause-outside
returns-in-Err-clause-outside g c = out_then _ _ _ _ _ _ c.loop-b.invariant.outside c.in-Err.ensures.outside

pub loop-b-preserved : goal.loop-b-preserved
loop-b-preserved g c =
    let cells = ap (λ (w : World). w.cells) c.loop-b.invariant.outside.world in
    let e : text_left c.args.w.now.cells.cells c.loop-b.left ≡ c.in-Some.b ∷ text_left c.args.w.now.cells.cells c.next.new.self = ap (λ (s : CellStore). text_left s.cells c.loop-b.left) (sym cells) ∙ (c.in-Some.ensures.gives ∙ ap (λ (s : CellStore). c.in-Some.b ∷ text_left s.cells c.next.new.self) cells) in
    record {
      goes = text_goes_on _ _ _ _ _ _ _ _ _ _ _ _ c.in-Some.b c.loop-b.invariant.goes e c.in_default-put_byte.ensures.ok c.in_default-put_byte.ensures.column;
      atom = c.in-Some.ensures.atom ∙ c.loop-b.invariant.atom;
      steady = c.in_default-put_byte.ensures.faults ∙ c.loop-b.invariant.steady;
      outside = out_then _ _ _ _ _ _ c.loop-b.invariant.outside c.in_default-put_byte.ensures.outside;
    }
