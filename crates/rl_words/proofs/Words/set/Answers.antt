use Rattle.std.proofs.Common.{◌≤◌, ◌∙◌, ap, subst, sym, ◌++◌, ◌∷◌, []}
use Rattle.rl_words.proofs.Zeros.{set_seen}
use Rattle.rl_words.proofs.Words.set.Goals as goal

pub returns-else-i-len : goal.returns-else-i-len
returns-else-i-len c =
    let s = c.self.inside in
    set_seen s.written.items c.push_reserved.new.self.items c.args.self.now s.many c.args.i c.args.word (sym c.self.view_is) c.self.invariant.within
    (subst (λ n. n ≤ c.args.i) (c.len.ensures ∙ s.written.ok.0) c.if-i-len.false) c.requires
    (c.push_reserved.ensures.items ∙ ap (λ l. l ++ c.args.word ∷ []) c.write_zeros.ensures.items)
