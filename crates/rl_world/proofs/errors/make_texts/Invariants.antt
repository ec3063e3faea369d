use Rattle.std.proofs.Common.{◌≡◌, ◌+◌, ◌*◌, ◌≤◌, length, take}
use Rattle.rl_syms.specs.Frame.{KeepsIdentifiers}
use Rattle.rl_syms.specs.Made.{IsOpening}
use Rattle.rl_tree.specs.ErrorTexts.{error_texts}
use Rattle.rl_world.specs.Errors.{AddsTexts, AreTexts}
use Rattle.rl_world.specs.OpeningCells.{strings_named, with_strings}
use Rattle.rl_world.proofs.errors.make_texts.Given as goal

abbrev pub invariant-loop-i : goal.invariant-loop-i
invariant-loop-i l = record {
  fourteen : length l.texts ≡ 14;
  texts : AreTexts l.c.cells l.texts l.i;
  keeps : KeepsIdentifiers l.fn.c.cells l.c.cells;
  strings : AddsTexts l.fn.c.cells l.c.cells;
  made : l.c.cells ≡ with_strings (take l.i error_texts) l.fn.c.cells;
  named : take l.i l.texts ≡ strings_named (take l.i error_texts) l.fn.c.cells;
  opening : IsOpening l.c l.fn.c.bound;
  long : length l.c.cells ≤ 2115 + 4 * l.i;
}
