use Rattle.std.proofs.Common.{◌≡◌, ◌<◌, ◌++◌, ◌∷◌, [], length, get_or, true, false, refl, inr, sym, ◌∙◌, arith}
use Rattle.rl_tree.specs.Bytes.{is_name_byte, raised}
use Rattle.rl_text.specs.Reader.{InName}
use Rattle.rl_text.specs.Word.{Identifier}
use Rattle.rl_lex.proofs.ReadBytes.{read_refused, read_on, read_before, name_grows, name_full, name_ends}
use Rattle.rl_lex.proofs.atom.name_character.Goals as goal

pub returns-then-not-is_name_byte : goal.returns-then-not-is_name_byte
returns-then-not-is_name_byte c = λ name counted short.
    let bytes = c.args.bytes.now in
    let at = c.args.at in
    let other : is_name_byte (get_or bytes at 0) ≡ false = sym c.is_name_byte.ensures ∙ c.if-not-is_name_byte.true in (
      record {
        after = omega arith;
        within = omega arith;
        reads = λ fs. read_before (InName name) (Identifier name) fs bytes at c.requires (name_ends name (get_or bytes at 0) fs other c.if-b-eq33.false);
      },
      refl,
      other,
      c.if-b-eq33.false,
    )

pub returns-then-count-eq-LONGEST_NAME : goal.returns-then-count-eq-LONGEST_NAME
returns-then-count-eq-LONGEST_NAME c = λ name counted short.
    let bytes = c.args.bytes.now in
    let at = c.args.at in
    let is : is_name_byte (get_or bytes at 0) ≡ true = sym c.is_name_byte.ensures ∙ c.if-not-is_name_byte.false in
    record {
      after = omega arith;
      within = omega arith;
      reads = λ fs. read_refused (InName name) fs bytes at c.requires (name_full name (get_or bytes at 0) fs is (counted ∙ c.if-count-eq-LONGEST_NAME.true));
    }

pub returns : goal.returns
returns c = λ name counted short.
    let bytes = c.args.bytes.now in
    let at = c.args.at in
    let is : is_name_byte (get_or bytes at 0) ≡ true = sym c.is_name_byte.ensures ∙ c.if-not-is_name_byte.false in
    let room : length name < 255 = omega arith in (
      record {
        after = omega arith;
        within = omega arith;
        byte = raised (get_or bytes at 0);
        reads = λ fs. read_on (InName name) (InName (name ++ raised (get_or bytes at 0) ∷ [])) fs fs bytes at c.requires (name_grows name (get_or bytes at 0) fs is room);
      },
      inr (refl, refl),
      room,
    )
