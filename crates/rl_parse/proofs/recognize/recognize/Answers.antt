use Rattle.std.proofs.Common.{◌≡◌, ◌≤◌, List, length, refl, sym, subst, arith}
use Rattle.rl_grammar.specs.Statement.{Start}
use Rattle.rl_parse.specs.Frames.{nested_in}
use Rattle.rl_parse.proofs.Rising.{Rises, rising_room}
use Rattle.rl_parse.proofs.Rounds.{goes_on, goes_low, goes_rising, found_reads, end_reads}
use Rattle.rl_parse.specs.declared.frame.Frame.{Frame}
use Rattle.rl_parse.proofs.recognize.recognize.Goals as goal

pub loop-at-init : goal.loop-at-init
loop-at-init c = record {
  within = omega arith;
  short = omega arith;
  state = Start;
  stands = (refl, c.new-stack.ensures);
  rises = subst (λ (fs : List Frame). Rises fs) (sym c.new-stack.ensures) tt;
  low = subst (λ (fs : List Frame). nested_in fs ≤ 201) (sym c.new-stack.ensures) (omega arith);
  reads = λ n more. (n, omega (arith, more), refl);
}

pub next_place-requires-clause-room : goal.next_place-requires-clause-room
next_place-requires-clause-room c = rising_room c.loop-at.stack c.loop-at.invariant.rises c.loop-at.invariant.low

pub loop-at-smaller : goal.loop-at-smaller
loop-at-smaller c =
    let l = c.loop-at.invariant in
    let next = c.in-Goes.ensures l.state l.stands in
    omega (arith, next.after, next.within)

pub loop-at-preserved : goal.loop-at-preserved
loop-at-preserved c =
    let l = c.loop-at.invariant in
    let next = c.in-Goes.ensures l.state l.stands in
    record {
      within = next.within;
      short = next.short;
      state = next.next;
      stands = next.stands;
      rises = goes_rising l.state next.next next.token c.loop-at.place c.in-Goes.next c.loop-at.stack c.next_place.new.stack next.step l.stands next.stands l.rises;
      low = goes_low l.state next.next next.token c.in-Goes.next c.next_place.new.stack next.step next.stands;
      reads = λ n more. goes_on c.args.bytes.now c.loop-at.at c.in-Goes.to n l.state next.next c.loop-at-test.true next.after (l.reads n more) next.reads;
    }

pub returns-in-Found : goal.returns-in-Found
returns-in-Found c = λ n more.
    let l = c.loop-at.invariant in
    found_reads c.args.bytes.now c.loop-at.at n l.state c.in-Found.found c.loop-at-test.true (l.reads n more) (c.in-Found.ensures l.state l.stands)

pub returns : goal.returns
returns c = λ n more.
    let l = c.loop-at.invariant in
    let end : c.loop-at.at ≡ length c.args.bytes.now = omega (arith, l.within, c.loop-at-test.false) in
    (omega arith, l.within, end_reads c.args.bytes.now c.loop-at.at n l.state end l.short (l.reads n more))
