use Rattle.rl_forms.proofs.Closing.{unbuilt_rule}
use Rattle.rl_forms.proofs.laws.unbuilt_files_spell_no_built_forms.Goals as goal

pub returns : goal.returns
returns c = unbuilt_rule c.what_is_found_is_spelled.ensures c.blank_text_has_none.ensures
