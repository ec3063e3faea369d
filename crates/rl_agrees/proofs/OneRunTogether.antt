-- The laws on one run together are one law on one run, so that what reading keeps is picked once for all of them.
use Rattle.std.proofs.Common.{false}
use Rattle.rl_meaning.specs.State.{State}
use Rattle.rl_agrees.specs.Later.{Later}
use Rattle.rl_agrees.proofs.TwoRunsKept.{Goes}
use Rattle.rl_agrees.proofs.OneRun.{StepsAt, Steps, ReadsLead}
use Rattle.rl_agrees.proofs.OneRunGoes.{goes_steps}
use Rattle.rl_agrees.proofs.OneRunHeads.{Heads, heads_steps}
use Rattle.rl_agrees.proofs.OneRunMarks.{Marks}
use Rattle.rl_agrees.proofs.OneRunQuiet.{Quiet, quiet_steps}
use Rattle.rl_agrees.proofs.OneRunReading.{ReadingFollows, reads_lead}

pub record Both (P Q : State → State → Type 0) (s t : State) : Type 0 where
  pub first : P s t
  pub second : Q s t

both_steps : {P Q : State → State → Type 0} → StepsAt false P → StepsAt false Q → StepsAt false (Both P Q)
both_steps p q = record {
  same = λ s. record { first = p.same s; second = q.same s };
  and_then = λ s t u h k. record { first = p.and_then s t u h.first k.first; second = q.and_then s t u h.second k.second };
  turns = λ n s. record { first = p.turns n s; second = q.turns n s };
  cells = λ n m s e. record { first = p.cells n m s e; second = q.cells n m s e };
  expansion_cells = λ n x s e. record { first = p.expansion_cells n x s e; second = q.expansion_cells n x s e };
  opened = λ f s. record { first = p.opened f s; second = q.opened f s };
  closed = λ f s t h. record { first = p.closed f s t h.first; second = q.closed f s t h.second };
  made = λ o s. record { first = p.made o s; second = q.made o s };
  fresh = λ r o s t h le. record { first = p.fresh r o s t h.first le; second = q.fresh r o s t h.second le };
  noted = λ v s. record { first = p.noted v s; second = q.noted v s };
  changed = λ v o s. record { first = p.changed v o s; second = q.changed v o s };
  grows = λ s t h. p.grows s t h.first;
  named = λ name interned s. record { first = p.named name interned s; second = q.named name interned s };
  symbol = λ i symbol s e. record { first = p.symbol i symbol s e; second = q.symbol i symbol s e };
  definition = λ i d s. record { first = p.definition i d s; second = q.definition i d s };
  function = λ f s. record { first = p.function f s; second = q.function f s };
  pushed = λ e s. record { first = p.pushed e s; second = q.pushed e s };
  valued = λ x v s. record { first = p.valued x v s; second = q.valued x v s };
  oldest = λ r s t h k. record { first = p.oldest r s t h.first k.first; second = q.oldest r s t h.second k.second };
  freed = λ may entries s. absurd may;
  gensyms = λ n s. record { first = p.gensyms n s; second = q.gensyms n s };
  event = λ e s. record { first = p.event e s; second = q.event e s };
  input = λ rest s. record { first = p.input rest s; second = q.input rest s };
  line_length = λ n s. record { first = p.line_length n s; second = q.line_length n s };
}

-- a law that holds with c-macros holds without them
confined : {P : State → State → Type 0} → Steps P → StepsAt false P
confined p = record {
  same = p.same;
  and_then = p.and_then;
  turns = p.turns;
  cells = p.cells;
  expansion_cells = p.expansion_cells;
  opened = p.opened;
  closed = p.closed;
  made = p.made;
  fresh = p.fresh;
  noted = p.noted;
  changed = p.changed;
  grows = p.grows;
  named = p.named;
  symbol = p.symbol;
  definition = p.definition;
  function = p.function;
  pushed = p.pushed;
  valued = p.valued;
  oldest = p.oldest;
  freed = λ may entries s. absurd may;
  gensyms = p.gensyms;
  event = p.event;
  input = p.input;
  line_length = p.line_length;
}

-- ---- what reading keeps

abbrev pub Together : State → State → Type 0
Together = Both Goes (Both Quiet Heads)

-- the law of one maker, for each state from which reading begins
abbrev pub ReadingKeepsAll : Type 0
ReadingKeepsAll = ReadingFollows Together

all_read : ReadingKeepsAll → ReadsLead Together
all_read law = reads_lead (both_steps (confined goes_steps) (both_steps (confined quiet_steps) heads_steps)) law

reads_so : {P Q : State → State → Type 0} → ((s t : State) → P s t → Q s t) → ReadsLead P → ReadsLead Q
reads_so f h = record { leads = λ turns levels bytes s. record { moves = f s _ (h.leads turns levels bytes s).moves; plain = (h.leads turns levels bytes s).plain } }

pub goes_read : ReadingKeepsAll → ReadsLead Goes
goes_read law = reads_so (λ s t h. h.first) (all_read law)

pub quiet_read : ReadingKeepsAll → ReadsLead Quiet
quiet_read law = reads_so (λ s t h. h.second.first) (all_read law)

pub heads_read : ReadingKeepsAll → ReadsLead Heads
heads_read law = reads_so (λ s t h. h.second.second) (all_read law)

pub marks_read : ReadingKeepsAll → ReadsLead Marks
marks_read law = reads_so (λ s t h. h.second.second.marks) (all_read law)

pub later_read : ReadingKeepsAll → ReadsLead Later
later_read law = reads_so (λ s t h. h.first.later) (all_read law)
