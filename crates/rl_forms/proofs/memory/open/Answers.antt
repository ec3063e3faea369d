use Rattle.rl_forms.proofs.Memories.{opened_beginning}
use Rattle.rl_forms.proofs.memory.open.Goals as goal

pub returns : goal.returns
returns c = record {
  beginning = rw c.opened.ensures (opened_beginning c.in_ok-world.world c.in_ok-world.ensures.table c.in_ok-world.ensures.names c.in_ok-world.ensures.output);
  able = rw c.opened.ensures (c.opened_worlds_make.ensures c.in_ok-world.world _ _ c.in_ok-world.ensures.table c.in_ok-world.ensures.opening c.in_ok-world.ensures.counts);
}
