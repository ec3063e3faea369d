use Rattle.std.proofs.Common.{◌≡◌, true, get_or, sym, ◌∙◌, subst}
use Rattle.rl_tree.specs.Bytes.{is_digit}
use Rattle.rl_lex.specs.Tokens.{IsLexeme}
use Rattle.rl_lex.specs.declared.next.Next.{Next}
use Rattle.rl_lex.proofs.Lexemes.{digits_lexeme, quoted_lexeme, text_lexeme}
use Rattle.rl_lex.proofs.next.lexeme.Goals as goal

pub returns-then-is_ascii_digit : goal.returns-then-is_ascii_digit
returns-then-is_ascii_digit c =
    let bytes = c.args.bytes.now in
    let at = c.args.at in
    let digit : is_digit (get_or bytes at 0) ≡ true = sym c.is_ascii_digit.ensures.value ∙ c.if-is_ascii_digit.true in
    subst (λ (r : Next). IsLexeme bytes at r) (sym c.spelled.ensures) (digits_lexeme bytes at c.digits_end.result c.requires.here digit c.digits_end.ensures)

pub returns-in-34 : goal.returns-in-34
returns-in-34 c =
    let bytes = c.args.bytes.now in
    let at = c.args.at in
    subst (λ (r : Next). IsLexeme bytes at r) (sym c.spelled-in-34.ensures) (text_lexeme bytes at c.text_end.result c.requires.here c.in-34.is c.text_end.ensures)

pub returns-in-39 : goal.returns-in-39
returns-in-39 c =
    let bytes = c.args.bytes.now in
    let at = c.args.at in
    subst (λ (r : Next). IsLexeme bytes at r) (sym c.spelled-in-39.ensures) (quoted_lexeme bytes at c.quoted_end.result c.requires.here c.in-39.is c.quoted_end.ensures)
