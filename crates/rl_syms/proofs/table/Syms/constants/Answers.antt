use Rattle.std.proofs.Common.{◌≡◌, ◌∙◌, arith}
use Rattle.rl_tags.specs.declared.names.TheConstants.{OPENING_NAMES}
use Rattle.rl_syms.proofs.Names.{constant_name, name_some, name_short}
use Rattle.rl_syms.proofs.First.{room_left, first_next}
use Rattle.rl_syms.proofs.table.Syms.constants.Goals as goal

pub intern_short-requires-clause-some : goal.intern_short-requires-clause-some
intern_short-requires-clause-some c = name_some c.loop-number.number c.opening_name.result.now (omega arith) (c.opening_name.ensures ∙ constant_name c.loop-number.number (omega arith))

pub intern_short-requires-clause-short : goal.intern_short-requires-clause-short
intern_short-requires-clause-short c = name_short c.loop-number.number c.opening_name.result.now (omega arith) (c.opening_name.ensures ∙ constant_name c.loop-number.number (omega arith))

pub intern_short-requires-clause-room : goal.intern_short-requires-clause-room
intern_short-requires-clause-room c = room_left c.loop-number.c c.args.c.now.bound 5 c.loop-number.invariant.opening (omega (arith, c.loop-number.invariant.first.long))

pub loop-number-preserved : goal.loop-number-preserved
loop-number-preserved c = record {
  table = c.intern_short.ensures.table;
  opening = c.intern_short.ensures.opening c.args.c.now.bound c.loop-number.invariant.opening;
  opened = c.intern_short.ensures.opened;
  first = first_next c.objects_are_added.ensures c.loop-number.number c.loop-number.c c.intern_short.new.c c.loop-number.self.head c.intern_short.new.self.head c.opening_name.result.now c.intern_short.result (omega arith) (c.opening_name.ensures ∙ constant_name c.loop-number.number (omega arith)) c.loop-number.invariant.table c.intern_short.ensures.ok c.loop-number.invariant.first;
  made = c.intern_short.ensures.made ∙ c.loop-number.invariant.made;
}

pub returns-clause-first : goal.returns-clause-first
returns-clause-first c = let all : c.loop-number.number ≡ OPENING_NAMES = omega arith in rw all at c.loop-number.invariant.first
