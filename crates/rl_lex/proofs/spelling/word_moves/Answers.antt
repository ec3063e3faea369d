use Rattle.std.proofs.Common.{List, get_or, sym, ◌∙◌, subst, arith}
use Rattle.rl_text.specs.Byte.{class_of}
use Rattle.rl_text.specs.Reader.{Gap}
use Rattle.rl_lex.specs.Parts.{IsBehind, IsWordScan}
use Rattle.rl_lex.proofs.ReadBytes.{read_refused}
use Rattle.rl_lex.proofs.Elements.{admits_parts, word_behind, word_refused}
use Rattle.rl_lex.specs.declared.nest.Part.{Part}
use Rattle.rl_lex.specs.declared.atom.Scan.{Scan}
use Rattle.rl_lex.proofs.spelling.word_moves.Goals as goal

pub returns-then-not-admits-clause-moved : goal.returns-then-not-admits-clause-moved
returns-then-not-admits-clause-moved c = λ fs is.
    let bytes = c.args.bytes.now in
    let at = c.args.at in
    record {
      after = omega arith;
      within = omega (arith, c.requires.here);
      reads = read_refused Gap fs bytes at c.requires.here (word_refused (class_of (get_or bytes at 0)) (get_or bytes at 0) fs c.requires.begins (admits_parts c.args.nest.now fs is ∙ sym c.admits.ensures.admits ∙ c.if-not-admits.true));
    }

pub returns-in-Ends-clause-moved : goal.returns-in-Ends-clause-moved
returns-in-Ends-clause-moved c = λ fs is.
    let bytes = c.args.bytes.now in
    let at = c.args.at in
    let ends = subst (λ (s : Scan). IsWordScan bytes at s) c.in-Ends.is c.requires.scan in
    let behind = subst (λ (ps : List Part). IsBehind ps c.behind.new.nest c.in-Ends.to c.behind.result) (c.admits.ensures.same c.if-not-admits.false) c.behind.ensures.behind in
    word_behind bytes at c.in-Ends.to c.args.nest.now c.behind.new.nest fs c.behind.result ends.0 ends.1 (admits_parts c.args.nest.now fs is ∙ sym c.admits.ensures.admits ∙ c.if-not-admits.false) is behind
