use Rattle.std.proofs.Common.{[], None, ◌∙◌}
use Rattle.std.proofs.lemmas.List.{get_or-map}
use Rattle.rl_tags.specs.Opening.{opening_rows, arguments_in_row, Plain}
use Rattle.rl_tags.proofs.names.native_arguments_at.Goals as goal

pub returns : goal.returns
unfolding opening_rows
returns c = c.arguments_in.ensures ∙ get_or-map arguments_in_row opening_rows c.args.number (Plain []) None c.requires
