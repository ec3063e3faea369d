use Rattle.std.proofs.Common.{◌≡◌, ◌<◌, ◌++◌, ◌∷◌, [], ℕ, length, refl, inl, inr, sym, subst, ◌∙◌, arith}
use Rattle.std.proofs.lemmas.List.{length_push}
use Rattle.rl_text.specs.Reader.{InName}
use Rattle.rl_text.specs.Word.{Identifier}
use Rattle.rl_lex.specs.Scans.{IsTextOf}
use Rattle.rl_lex.proofs.ReadBytes.{name_begins, name_has_begun, no_text, text_next, after_begun, read_last}
use Rattle.rl_lex.proofs.atom.name_end.Goals as goal

pub loop-i-init : goal.loop-i-init
loop-i-init c = record {
  after = inl refl;
  within = omega arith;
  name = [];
  counted = refl;
  short = omega arith;
  text = no_text c.args.bytes.now c.args.at;
  reads = λ fs admitted. name_begins fs c.args.bytes.now c.args.at c.requires.here c.requires.begins admitted;
}

pub returns-in-EndsAt : goal.returns-in-EndsAt
returns-in-EndsAt c =
    let l = c.loop-i.invariant in
    let e = c.in-EndsAt.ensures l.name l.counted l.short in
    let begun : c.args.at < c.loop-i.i = name_has_begun c.args.bytes.now c.args.at c.loop-i.i l.after c.requires.begins e.2 e.3 in (
      l.name,
      record {
        after = omega (arith, e.1, begun);
        within = e.0.within;
        reads = λ fs admitted. l.reads fs admitted ∙ e.0.reads fs;
      },
      subst (λ (n : ℕ). IsTextOf c.args.bytes.now c.args.at n l.name) (sym e.1) l.text,
    )

pub returns-in-NoPlace : goal.returns-in-NoPlace
returns-in-NoPlace c =
    let l = c.loop-i.invariant in
    let e = c.in-NoPlace.ensures l.name l.counted l.short in
    let after = after_begun c.args.at c.loop-i.i l.after in
    record {
      after = omega (arith, e.after, after);
      within = e.within;
      reads = λ fs admitted. l.reads fs admitted ∙ e.reads fs;
    }

pub loop-i-smaller : goal.loop-i-smaller
loop-i-smaller c =
    let l = c.loop-i.invariant in
    let e = c.in-Next.ensures l.name l.counted l.short in
    omega (arith, e.0.after, e.0.within, l.within)

pub loop-i-preserved : goal.loop-i-preserved
loop-i-preserved c =
    let l = c.loop-i.invariant in
    let e = c.in-Next.ensures l.name l.counted l.short in
    let after = after_begun c.args.at c.loop-i.i l.after in
    let size = length_push l.name e.0.byte in
    record {
      after = inr (omega (arith, e.0.after, after));
      within = e.0.within;
      name = l.name ++ e.0.byte ∷ [];
      counted = omega (arith, size, l.counted);
      short = omega (arith, e.2, l.counted);
      text = text_next c.args.bytes.now c.args.at c.loop-i.i c.in-Next.to e.0.byte l.name after e.0.after c.loop-i-test.true l.text e.1;
      reads = λ fs admitted. l.reads fs admitted ∙ e.0.reads fs;
    }

pub returns : goal.returns
returns c =
    let l = c.loop-i.invariant in
    let after = after_begun c.args.at c.loop-i.i l.after in
    let end : c.loop-i.i ≡ length c.args.bytes.now = omega (arith, l.within, c.loop-i-test.false) in (
      l.name,
      record {
        after = omega (arith, end, c.requires.here);
        within = l.within;
        reads = λ fs admitted. l.reads fs admitted ∙ read_last (InName l.name) (Identifier l.name) fs c.args.bytes.now c.loop-i.i end refl;
      },
      l.text,
    )
