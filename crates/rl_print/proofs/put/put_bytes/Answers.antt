use Rattle.std.proofs.Common.{Err, ◌∙◌, ap, get_or}
use Rattle.rl_tree.specs.Printing.{column_with}
use Rattle.rl_print.proofs.Shown.{byte_column, byte_cut, byte_follows}
use Rattle.rl_print.proofs.Writings.{only_then, out_then}
use Rattle.rl_print.proofs.put.put_bytes.Goals as goal

pub returns-in-Err-clause-front : goal.returns-in-Err-clause-front
returns-in-Err-clause-front g c = byte_cut _ _ _ _ _ c.args.bytes.now c.loop-i.i c.loop-i-test.true c.loop-i.invariant.follows c.in-Err.ensures.front

pub returns-in-Err-clause-faults : goal.returns-in-Err-clause-faults
returns-in-Err-clause-faults g c = only_then {A = Unit {0}} (Err c.in-Err.s) _ _ _ _ c.loop-i.invariant.steady c.in-Err.ensures.faults

pub returns-in-Err-clause-outside : goal.returns-in-Err-clause-outside
returns-in-Err-clause-outside g c = out_then _ _ _ _ _ _ c.loop-i.invariant.outside c.in-Err.ensures.outside

pub loop-i-preserved : goal.loop-i-preserved
loop-i-preserved g c = record {
  follows = byte_follows _ _ _ _ _ _ c.args.bytes.now c.loop-i.i c.loop-i-test.true c.loop-i.invariant.follows c.in_default.ensures.ok;
  column = c.in_default.ensures.column ∙ (ap (λ n. column_with n (get_or c.args.bytes.now c.loop-i.i 0)) c.loop-i.invariant.column ∙ byte_column c.args.w.now.output.column c.args.bytes.now c.loop-i.i c.loop-i-test.true);
  steady = c.in_default.ensures.faults ∙ c.loop-i.invariant.steady;
  outside = out_then _ _ _ _ _ _ c.loop-i.invariant.outside c.in_default.ensures.outside;
}
