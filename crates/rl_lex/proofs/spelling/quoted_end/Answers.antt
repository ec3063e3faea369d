use Rattle.std.proofs.Common.{◌≡◌, [], ◌∷◌, List, length, refl, sym, ◌∙◌, ap, subst, arith}
use Rattle.rl_text.specs.Reader.{Gap, Quoting}
use Rattle.rl_lex.specs.Parts.{ArePartsOf}
use Rattle.rl_lex.proofs.ReadBytes.{read_end}
use Rattle.rl_lex.proofs.Elements.{parts_at_end}
use Rattle.rl_lex.specs.declared.nest.Part.{Part}
use Rattle.rl_lex.specs.declared.nest.Part.TheVariants.{Quote}
use Rattle.rl_lex.proofs.spelling.quoted_end.Goals as goal

pub loop-i-init : goal.loop-i-init
loop-i-init c =
    let one : c.push.new.self ≡ Quote ∷ [] = c.push.ensures ∙ ap (λ (ps : List Part). Quote ∷ ps) c.clear.ensures in
    let long : length c.push.new.self ≡ 1 = ap length one in
    record {
      after = omega arith;
      within = omega (arith, c.requires.here);
      deep = omega (arith, long);
      frames = Quoting ∷ [];
      parts = subst (λ (ps : List Part). ArePartsOf ps (Quoting ∷ [])) (sym one) refl;
      reads = refl;
    }

pub returns : goal.returns
returns c =
    let l = c.loop-i.invariant in
    let end : c.loop-i.i ≡ length c.args.bytes.now = omega (arith, l.within, c.loop-i-test.false) in
    record {
      after = omega (arith, l.after);
      within = l.within;
      reads = l.reads ∙ read_end Gap l.frames c.args.bytes.now c.loop-i.i end (parts_at_end c.loop-i.nest l.frames l.parts);
    }
