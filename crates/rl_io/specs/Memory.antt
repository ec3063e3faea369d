-- What is seen of a source and of a sink in memory.
use Rattle.std.specs.Prelude.{ℕ, List, ◌++◌, drop}
use Rattle.rl_io.specs.Calls.{Calls, passed, missed}

-- the bytes that are left of a source
pub record SourceState : Type 0 where
  pub left : List ℕ
  pub calls : Calls

-- after a read of `n` bytes
abbrev pub read_of : SourceState → ℕ → SourceState
read_of source n = record { left = drop n source.left; calls = passed source.calls }

-- after a read that failed
abbrev pub unread : SourceState → SourceState
unread source = record { left = source.left; calls = missed source.calls }

-- the bytes that a sink has taken, and how many it can hold
pub record SinkState : Type 0 where
  pub contents : List ℕ
  pub room : ℕ
  pub calls : Calls

-- after a write of this piece
abbrev pub taken : SinkState → List ℕ → SinkState
taken sink piece = record { contents = sink.contents ++ piece; room = sink.room; calls = passed sink.calls }

-- after a write that failed
abbrev pub refused : SinkState → SinkState
refused sink = record { contents = sink.contents; room = sink.room; calls = missed sink.calls }
