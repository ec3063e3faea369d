use Rattle.std.proofs.Common.{ℕ, List, Option, None}
use Rattle.std.specs.Borrow.{Bor}
use Rattle.rl_tags.proofs.Places.{part_at}
use Rattle.rl_tags.proofs.names.arguments_in.Goals as goal

pub returns : goal.returns
returns c = part_at (λ (row : Bor (List ℕ) × ℕ × Option ℕ). row.2) c.args.rows.now c.args.number _ None c.requires
