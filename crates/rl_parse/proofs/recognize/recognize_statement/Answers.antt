use Rattle.std.proofs.Common.{◌<◌, length, sym, subst, arith}
use Rattle.rl_parse.specs.Recognition.{IsStatementHere, IsNothingHere, IsSyntaxHere}
use Rattle.rl_parse.proofs.Windows.{window_reads, statement_here, nothing_here, syntax_here, blank_here}
use Rattle.rl_parse.specs.declared.recognize.Recognized.{Recognized}
use Rattle.rl_parse.proofs.recognize.recognize_statement.Goals as goal

pub returns-then-from-window-clause-nothing : goal.returns-then-from-window-clause-nothing
returns-then-from-window-clause-nothing c = blank_here c.finds_no_source.ensures c.args.window.now c.args.at c.gap_end-from.result c.if-from-window.true c.gap_end-from.ensures.behind

pub returns-clause-statement : goal.returns-clause-statement
returns-clause-statement c =
    let w = c.args.window.now in
    let gap = c.gap_end-from.ensures in
    let last = c.end_of-end.ensures in
    let here : c.gap_end-from.result < length w = omega (arith, gap.within, c.if-from-window.false) in
    let reads = window_reads c.looks_no_further.ensures w c.args.at c.gap_end-from.result c.end_of-end.result gap.after here last gap.behind in
    subst (λ (r : Recognized). IsStatementHere w c.args.at r) (sym c.shifted.ensures)
    (statement_here c.reads_source.ensures w c.args.at c.gap_end-from.result c.end_of-end.result c.recognize.result _ gap.after (omega (arith, last, here)) (omega (arith, last)) reads.2 (c.recognize.ensures reads.0 reads.1))

pub returns-clause-nothing : goal.returns-clause-nothing
returns-clause-nothing c =
    let w = c.args.window.now in
    let gap = c.gap_end-from.ensures in
    let last = c.end_of-end.ensures in
    let here : c.gap_end-from.result < length w = omega (arith, gap.within, c.if-from-window.false) in
    let reads = window_reads c.looks_no_further.ensures w c.args.at c.gap_end-from.result c.end_of-end.result gap.after here last gap.behind in
    subst (λ (r : Recognized). IsNothingHere w c.args.at r) (sym c.shifted.ensures)
    (nothing_here w c.args.at c.gap_end-from.result c.end_of-end.result c.recognize.result _ (c.recognize.ensures reads.0 reads.1))

pub returns-clause-syntax : goal.returns-clause-syntax
returns-clause-syntax c =
    let w = c.args.window.now in
    let gap = c.gap_end-from.ensures in
    let last = c.end_of-end.ensures in
    let here : c.gap_end-from.result < length w = omega (arith, gap.within, c.if-from-window.false) in
    let reads = window_reads c.looks_no_further.ensures w c.args.at c.gap_end-from.result c.end_of-end.result gap.after here last gap.behind in
    subst (λ (r : Recognized). IsSyntaxHere w c.args.at r) (sym c.shifted.ensures)
    (syntax_here c.refuses_source.ensures w c.args.at c.gap_end-from.result c.end_of-end.result c.recognize.result _ gap.after (omega (arith, last, here)) (omega (arith, last)) reads.2 (c.recognize.ensures reads.0 reads.1))
