use Rattle.std.proofs.Common.{◌+◌, ◌*◌, ◌∙◌, ap, sym, arith}
use Rattle.std.proofs.lemmas.List.FromFn.{get_or-map-range_with_len}
use Rattle.rl_tags.proofs.Places.{place_of-is}
use Rattle.rl_tags.proofs.names.word_at.Goals as goal

pub returns : goal.returns
returns c = c.word_in.ensures
    ∙ get_or-map-range_with_len (λ i. 16 * (5 * i + 2) + 1) 0 167 c.args.number c.args.number 0 c.requires (omega arith)
    ∙ ap (λ place. 16 * place + 1) (sym (place_of-is c.args.number (omega (arith, c.requires))))
