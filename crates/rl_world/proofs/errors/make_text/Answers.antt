use Rattle.rl_world.proofs.Texts.{text_adds, text_keeps}
use Rattle.rl_world.proofs.errors.make_text.Goals as goal

pub returns-clause-strings : goal.returns-clause-strings
returns-clause-strings c = text_adds c.objects_are_added.ensures c.args.c.now c.string.new.self c.text_bytes.result.now c.string.result c.string.ensures.ok c.string.ensures.err

pub returns-clause-keeps : goal.returns-clause-keeps
returns-clause-keeps c = text_keeps c.others_leave_identifiers.ensures c.args.c.now c.string.new.self c.text_bytes.result.now c.string.result c.string.ensures.ok c.string.ensures.err
