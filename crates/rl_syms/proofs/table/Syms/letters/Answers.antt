use Rattle.std.proofs.Common.{◌≡◌, [], ◌∷◌, length, refl, ◌∙◌, arith}
use Rattle.rl_tags.specs.Opening.{names_at_opening}
use Rattle.rl_syms.proofs.First.{room_left, letter_next}
use Rattle.rl_syms.proofs.Names.{letters_made, names_long}
use Rattle.rl_syms.proofs.table.Syms.letters.Goals as goal

pub intern_short-requires-clause-room : goal.intern_short-requires-clause-room
intern_short-requires-clause-room c = room_left c.loop-byte.c c.args.c.now.bound 5 c.loop-byte.invariant.opening (omega (arith, c.loop-byte.invariant.first.long))

pub loop-byte-preserved : goal.loop-byte-preserved
loop-byte-preserved c = record {
  table = c.intern_short.ensures.table;
  opening = c.intern_short.ensures.opening c.args.c.now.bound c.loop-byte.invariant.opening;
  first = letter_next c.objects_are_added.ensures c.loop-byte.byte c.loop-byte.c c.intern_short.new.c c.loop-byte.self.head c.intern_short.new.self.head (c.loop-byte.byte ∷ []) c.intern_short.result (omega arith) refl c.loop-byte.invariant.table c.intern_short.ensures.ok c.loop-byte.invariant.first;
  opened = c.intern_short.ensures.opened;
  made = c.intern_short.ensures.made ∙ c.loop-byte.invariant.made;
}

pub returns-clause-first : goal.returns-clause-first
returns-clause-first c = let all : letters_made c.loop-byte.byte ≡ length names_at_opening = omega (arith, names_long) in rw all at c.loop-byte.invariant.first
