use Rattle.std.proofs.Common.{List, sym, ap, ◌∙◌}
use Rattle.rl_grammar.specs.Token.{Token}
use Rattle.rl_grammar.specs.Tree.{StatementBody}
use Rattle.rl_grammar.specs.Form.{meant}
use Rattle.rl_grammar.specs.Statement.{Result, Parsed, Syntax}
use Rattle.rl_grammar.proofs.Whole.{statement_is_parsed}
use Rattle.rl_grammar.proofs.laws.means_one.Goals as goal

abbrev body_or : StatementBody → Result → StatementBody
body_or other (Parsed b s rest) = b
body_or other (Syntax from) = other

abbrev rest_or : List Token → Result → List Token
rest_or other (Parsed b s rest) = rest
rest_or other (Syntax from) = other

pub returns : goal.returns
returns c ts m n rest more some other =
    let same = sym (statement_is_parsed ts some.body some.separator rest some.is) ∙ statement_is_parsed ts other.body other.separator more other.is in
    (some.means ∙ ap meant (ap (body_or some.body) same) ∙ sym other.means, ap (rest_or rest) same)
