use Rattle.std.proofs.Common.{◌∙◌, set, refl, arith}
use Rattle.std.proofs.lemmas.List.{length-set}
use Rattle.rl_world.proofs.Texts.{keeps_refl, keeps_trans, texts_more, texts_none}
use Rattle.rl_world.proofs.Openings.{all_made, all_named, made_more, named_more, strings_long}
use Rattle.rl_world.proofs.errors.make_texts.Goals as goal

pub loop-i-init : goal.loop-i-init
loop-i-init c = record {
  fourteen = refl;
  texts = texts_none c.args.c.now.cells _;
  keeps = keeps_refl c.args.c.now.cells;
  strings = λ k h. h;
  made = refl;
  named = refl;
  opening = c.requires.opening;
  long = omega (arith, c.requires.long);
}

pub loop-i-preserved : goal.loop-i-preserved
loop-i-preserved c = record {
  fourteen = length-set c.loop-i.texts c.loop-i.i c.make_text.result ∙ c.loop-i.invariant.fourteen;
  texts = texts_more c.loop-i.c.cells c.make_text.new.c.cells c.loop-i.texts (set c.loop-i.texts c.loop-i.i c.make_text.result) c.loop-i.i c.make_text.result c.make_text.ensures.keeps c.loop-i.invariant.texts (omega (arith, c.loop-i.invariant.fourteen, c.loop-i-test.true)) refl c.make_text.ensures.string c.make_text.ensures.text;
  keeps = keeps_trans _ c.loop-i.c.cells c.make_text.new.c.cells c.loop-i.invariant.keeps c.make_text.ensures.keeps;
  strings = λ k h. c.make_text.ensures.strings k (c.loop-i.invariant.strings k h);
  made = made_more c.args.c.now.cells c.loop-i.c.cells c.make_text.new.c.cells c.loop-i.i c.loop-i-test.true c.loop-i.invariant.made c.make_text.ensures.made;
  named = named_more c.args.c.now.cells c.loop-i.c.cells c.loop-i.texts c.loop-i.i c.make_text.result c.loop-i-test.true c.loop-i.invariant.fourteen c.loop-i.invariant.made c.loop-i.invariant.named c.make_text.ensures.named;
  opening = record { count = c.make_text.ensures.opening.count; mark = c.make_text.ensures.opening.mark; bound_is = c.make_text.ensures.opening.bound_is ∙ c.loop-i.invariant.opening.bound_is };
  long = c.make_text.ensures.long;
}

pub returns-clause-made : goal.returns-clause-made
returns-clause-made c = all_made c.args.c.now.cells c.loop-i.c.cells c.loop-i.i (omega (arith, c.loop-i-test.false, c.loop-i.auto.i-end)) c.loop-i.invariant.made

pub returns-clause-named : goal.returns-clause-named
returns-clause-named c = all_named c.args.c.now.cells c.loop-i.texts c.loop-i.i (omega (arith, c.loop-i-test.false, c.loop-i.auto.i-end)) c.loop-i.invariant.fourteen c.loop-i.invariant.named

pub returns-clause-long : goal.returns-clause-long
returns-clause-long c = strings_long c.objects_are_added.ensures c.args.c.now.cells c.loop-i.c.cells (all_made c.args.c.now.cells c.loop-i.c.cells c.loop-i.i (omega (arith, c.loop-i-test.false, c.loop-i.auto.i-end)) c.loop-i.invariant.made)
