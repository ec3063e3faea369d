use Rattle.std.proofs.Common.{ap, sym, ◌∙◌}
use Rattle.rl_text.specs.Word as word
use Rattle.rl_read.specs.Steps.{word_atom}
use Rattle.rl_read.specs.declared.word.Mode.{Mode}
use Rattle.rl_read.proofs.CallsFollow.{reads_same}
use Rattle.rl_read.proofs.ElementEnds.{atoms_same, quote_mode}
use Rattle.rl_read.proofs.step.word_ended.Goals as goal

pub returns-in-Sign : goal.returns-in-Sign
returns-in-Sign c = rw c.in-Sign.is c.atom_ended.ensures

pub returns-in-Number : goal.returns-in-Number
returns-in-Number c = rw c.in-Number.is c.number_ended.ensures

pub returns-in-Name : goal.returns-in-Name
returns-in-Name c =
    reads_same c.atom_ended-in-Name.ensures
    (λ t. atoms_same t c.args.base c.args.w.now c.args.group _ _ (ap (λ (m : Mode). word_atom m c.args.word.now.items) c.in-Name.is ∙ ap word.Identifier (sym c.as_slice.ensures.value)))

pub returns-in_default : goal.returns-in_default
returns-in_default c =
    let is = quote_mode c.args.mode c.requires.may_end c.in_default.not-Name c.in_default.not-Sign c.in_default.not-Number in
    let same = ap (λ (m : Mode). word_atom m c.args.word.now.items) is ∙ ap word.String (sym c.as_slice-in_default.ensures.value) in
    reads_same c.atom_ended-in_default.ensures (λ t. atoms_same t c.args.base c.args.w.now c.args.group _ _ same)
