use Rattle.std.proofs.Common.{ℕ, List, [], Option}
use Rattle.std.specs.Borrow.{Bor}
use Rattle.rl_tags.proofs.Places.{part_at}
use Rattle.rl_tags.proofs.names.text_in.Goals as goal

pub returns : goal.returns
returns c = part_at (λ (row : Bor (List ℕ) × ℕ × Option ℕ). row.0.now) c.args.rows.now c.args.number _ [] c.requires
