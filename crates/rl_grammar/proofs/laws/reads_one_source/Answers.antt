use Rattle.std.proofs.Common.{◌≡◌, sym, ◌∙◌}
use Rattle.rl_grammar.specs.SourceReader.{HasStatement}
use Rattle.rl_grammar.proofs.Sources.{reads_source}
use Rattle.rl_grammar.proofs.laws.reads_one_source.Goals as goal

pub returns : goal.returns
returns c bytes b d s t rest more one other =
    let finds = c.what_is_found_is_spelled.ensures in
    let same : HasStatement b s rest ≡ HasStatement d t more = sym ((reads_source finds bytes b s rest).1 one) ∙ (reads_source finds bytes d t more).1 other in
    (cc, cc, cc)
