use Rattle.std.proofs.Common.{◌≡◌, false, map, sym, ◌∙◌, ap, arith, get_or, ◌==◌, ◌&&◌, ◌+◌, drop, Bool}
use Rattle.std.proofs.lemmas.Bool.{ne_eqb, eq-eqb}
use Rattle.std.proofs.lemmas.List.{length-map}
use Rattle.rl_tree.specs.Bytes.{raised}
use Rattle.rl_grammar.specs.Written.{same_name}
use Rattle.rl_lex.proofs.WordSteps.{other_length, raised_at, same_from}
use Rattle.rl_lex.proofs.word.is_word.Goals as goal

pub returns-then-text-word : goal.returns-then-text-word
returns-then-text-word c = sym (other_length (map raised c.args.text.now) c.args.word.now (λ same. c.if-text-word.true (sym (length-map c.args.text.now raised) ∙ same)))

pub returns-then-raised-word : goal.returns-then-raised-word
returns-then-raised-word c =
    let text = c.args.text.now in
    let word = c.args.word.now in
    let i = c.loop-i.i in
    let long = length-map text raised in
    let step = same_from (map raised text) word i (omega arith) (omega arith) in
    let differ : (get_or (map raised text) i 0 == get_or word i 0) ≡ false = ne_eqb _ _ (λ same. c.if-raised-word.true (c.raised.ensures ∙ sym (raised_at text i (omega arith)) ∙ same)) in
    sym (c.loop-i.invariant ∙ step ∙ ap (λ (b : Bool). b && same_name (drop (i + 1) (map raised text)) (drop (i + 1) word)) differ)

pub loop-i-preserved : goal.loop-i-preserved
loop-i-preserved c =
    let text = c.args.text.now in
    let word = c.args.word.now in
    let i = c.loop-i.i in
    let long = length-map text raised in
    let step = same_from (map raised text) word i (omega arith) (omega arith) in
    let same = eq-eqb (get_or (map raised text) i 0) (get_or word i 0) (raised_at text i (omega arith) ∙ sym c.raised.ensures ∙ c.if-raised-word.false) in
    c.loop-i.invariant ∙ step ∙ ap (λ (b : Bool). b && same_name (drop (i + 1) (map raised text)) (drop (i + 1) word)) same
