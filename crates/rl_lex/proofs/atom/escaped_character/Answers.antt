use Rattle.std.proofs.Common.{◌<◌, ◌+◌, ◌++◌, ◌∷◌, [], length, get_or, refl, inl, ◌∙◌, arith}
use Rattle.rl_text.specs.Reader.{InName, InEscape}
use Rattle.rl_lex.proofs.ReadBytes.{read_refused, read_on, read_on_twice, read_end, name_escapes, name_escapes_none}
use Rattle.rl_lex.proofs.atom.escaped_character.Goals as goal

pub returns-then-count-eq-LONGEST_NAME : goal.returns-then-count-eq-LONGEST_NAME
returns-then-count-eq-LONGEST_NAME c = λ name counted short. record {
  after = omega arith;
  within = omega arith;
  reads = λ fs. read_refused (InName name) fs c.args.bytes.now c.args.at c.requires.here (name_escapes_none name _ fs c.requires.escape (counted ∙ c.if-count-eq-LONGEST_NAME.true));
}

pub returns-then-at-bytes : goal.returns-then-at-bytes
returns-then-at-bytes c = λ name counted short.
    let room : length name < 255 = omega arith in
    record {
      after = omega arith;
      within = omega arith;
      reads = λ fs. read_on (InName name) (InEscape name) fs fs c.args.bytes.now c.args.at c.requires.here (name_escapes name _ fs c.requires.escape room) ∙ read_end (InEscape name) fs c.args.bytes.now (c.args.at + 1) c.if-at-bytes.true refl;
    }

pub returns : goal.returns
returns c = λ name counted short.
    let bytes = c.args.bytes.now in
    let at = c.args.at in
    let room : length name < 255 = omega arith in
    let two : at + 1 < length bytes = omega arith in (
      record {
        after = omega arith;
        within = omega arith;
        byte = get_or bytes (at + 1) 0;
        reads = λ fs. read_on_twice (InName name) (InEscape name) (InName (name ++ get_or bytes (at + 1) 0 ∷ [])) fs bytes at two (name_escapes name _ fs c.requires.escape room) refl;
      },
      inl c.requires.escape,
      room,
    )
