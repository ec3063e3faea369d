use Rattle.std.proofs.Common.{◌≡◌, sym, ◌∙◌}
use Rattle.rl_grammar.specs.Lexer.{Begins}
use Rattle.rl_grammar.proofs.Lexed.{first_is_found}
use Rattle.rl_grammar.proofs.laws.finds_one_token.Goals as goal

pub returns : goal.returns
returns c bytes at rest after more token other one two =
    let finds = c.what_is_found_is_spelled.ensures in
    let same : Begins token at rest ≡ Begins other after more = sym (first_is_found finds bytes at rest token one) ∙ first_is_found finds bytes after more other two in
    (cc, cc, cc)
