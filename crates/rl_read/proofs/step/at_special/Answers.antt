use Rattle.std.proofs.Common.{◌≡◌, [], ◌∷◌, true, refl, sym, ◌∙◌}
use Rattle.rl_text.specs.Byte as byte
use Rattle.rl_text.specs.Reader as reader
use Rattle.rl_text.specs.Word as word
use Rattle.rl_read.specs.Stock.{stock_of}
use Rattle.rl_read.specs.Frames.{frames_in}
use Rattle.rl_read.proofs.GroupAdmits.{admits_ready}
use Rattle.rl_read.proofs.ElementEnds.{special_taken}
use Rattle.rl_read.proofs.CallsFollow.{reads_same, step_lacks, step_refused}
use Rattle.rl_read.proofs.step.at_special.Goals as goal

pub returns-then-not-admits : goal.returns-then-not-admits
returns-then-not-admits c =
    step_refused c.args.base c.args.w.now c.args.group [] (λ m fs k. reader.at_class m byte.Special c.args.b fs k) c.requires.ready
    (λ t. rw (admits_ready c.args.base c.args.w.now c.args.group c.requires.ready ∙ (sym c.admits.ensures ∙ c.if-not-admits.true)) refl)

pub returns-in-Ok : goal.returns-in-Ok
returns-in-Ok c =
    let admitted : reader.admits (frames_in c.args.base c.args.w.now c.args.group) ≡ true = admits_ready c.args.base c.args.w.now c.args.group c.requires.ready ∙ (sym c.admits.ensures ∙ c.if-not-admits.false) in
    reads_same (c.goes_after.ensures c.args.base c.args.w.now c.atom_ended.new.w c.args.group [] (λ m fs k. reader.atom_ended m (word.Identifier (c.args.b ∷ [])) fs k) c.in-Ok.ensures)
    (λ t. special_taken t c.args.b (frames_in c.args.base c.args.w.now c.args.group) (stock_of c.args.w.now) admitted)

pub returns-in-Err : goal.returns-in-Err
returns-in-Err c =
    let admitted : reader.admits (frames_in c.args.base c.args.w.now c.args.group) ≡ true = admits_ready c.args.base c.args.w.now c.args.group c.requires.ready ∙ (sym c.admits.ensures ∙ c.if-not-admits.false) in
    reads_same (step_lacks c.args.base c.args.group [] (λ m fs k. reader.atom_ended m (word.Identifier (c.args.b ∷ [])) fs k) c.in-Err.ensures)
    (λ t. special_taken t c.args.b (frames_in c.args.base c.args.w.now c.args.group) (stock_of c.args.w.now) admitted)
