use Rattle.std.proofs.Common.{◌∙◌, refl, sym}
use Rattle.rl_read.specs.Stock.{stock_of}
use Rattle.rl_read.proofs.MakingStays.{levels_same, reading_refl}
use Rattle.rl_read.proofs.TextEnds.{inside_refused, root_has_none, text_refused}
use Rattle.rl_read.proofs.read.gap_at_end.Goals as goal

pub returns-in-Root-clause-ends : goal.returns-in-Root-clause-ends
returns-in-Root-clause-ends c = record {
  ok = tt;
  syntax = λ k is. absurd cc;
  end = λ end t. root_has_none c.args.base c.args.w.now c.args.group c.requires.ready c.in-Root.is;
  stop = λ s is. absurd cc;
  counted = λ s is. absurd cc;
  live = tt;
  able = c.requires.ready.able;
  left = λ whole. c.requires.ready.root c.in-Root.is;
  reading = reading_refl c.args.base c.args.w.now;
}

pub returns-in-Root-clause-levels : goal.returns-in-Root-clause-levels
returns-in-Root-clause-levels c = levels_same c.args.base c.args.w.now

pub returns-in_default : goal.returns-in_default
returns-in_default c = record {
  ends = text_refused c.args.base c.args.w.now c.refused.new.w _ c.args.k c.refused.result c.refused.ensures.syntax (λ t. inside_refused c.args.base c.args.w.now c.args.group (stock_of c.args.w.now) c.in_default.not-Root) c.refused.ensures.left c.refused.ensures.levels c.requires.ready.able;
  none = rw c.refused.ensures.syntax refl;
  stop = λ s is. (let both = sym c.refused.ensures.syntax ∙ is in cc);
  levels = c.refused.ensures.levels;
}
