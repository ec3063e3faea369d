use Rattle.std.proofs.Common.{◌++◌, ◌∷◌, [], ◌∙◌, arith}
use Rattle.std.proofs.lemmas.List.{length_push}
use Rattle.rl_lex.proofs.atom.text_end.Goals as goal

pub loop-i-preserved : goal.loop-i-preserved
loop-i-preserved c =
    let l = c.loop-i.invariant in
    let e = c.in-Next.ensures l.text l.counted l.short in
    let size = length_push l.text e.0.byte in
    record {
      after = omega (arith, e.0.after, l.after);
      within = e.0.within;
      text = l.text ++ e.0.byte ∷ [];
      counted = omega (arith, size, l.counted);
      short = omega (arith, e.1, l.counted);
      reads = λ fs admitted. l.reads fs admitted ∙ e.0.reads fs;
    }
