use Rattle.std.proofs.Common.{refl}
use Rattle.rl_text.specs.Reader as reader
use Rattle.rl_read.proofs.CallsFollow.{reads_then}
use Rattle.rl_read.proofs.step.goes_after.Goals as goal

pub returns-in-Whole : goal.returns-in-Whole
returns-in-Whole c = λ base old new outer bytes element ends.
    let is = rw c.in-Whole.is at ends in
    reads_then (λ t e. reader.goes_after e) is (λ t. refl) is.sound

pub returns-in-Inside : goal.returns-in-Inside
returns-in-Inside c = λ base old new outer bytes element ends.
    let is = rw c.in-Inside.is at ends in
    reads_then (λ t e. reader.goes_after e) is (λ t. refl) (is.sound, tt)
