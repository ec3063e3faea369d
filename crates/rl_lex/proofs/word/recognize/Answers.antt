use Rattle.std.proofs.Common.{drop, map, sym, ◌∙◌}
use Rattle.rl_tree.specs.Bytes.{raised}
use Rattle.rl_grammar.specs.Written.{reserved_words}
use Rattle.rl_lex.proofs.WordSteps.{none_among, some_among, is_none}
use Rattle.rl_lex.proofs.word.recognize.Goals as goal

pub returns-in-Some-words_e_to_g : goal.returns-in-Some-words_e_to_g
returns-in-Some-words_e_to_g c =
    let name = map raised c.args.text.now in
    sym (
    none_among 7 (drop 0 reserved_words) name (sym c.words_a_to_e.ensures ∙ is_none _ c.in_default.not-Some) ∙
    some_among 7 (drop 7 reserved_words) name c.in-Some-words_e_to_g.kind (sym c.words_e_to_g.ensures ∙ c.in-Some-words_e_to_g.is))

pub returns-in-Some-words_i_to_m : goal.returns-in-Some-words_i_to_m
returns-in-Some-words_i_to_m c =
    let name = map raised c.args.text.now in
    sym (
    none_among 7 (drop 0 reserved_words) name (sym c.words_a_to_e.ensures ∙ is_none _ c.in_default.not-Some) ∙
    none_among 7 (drop 7 reserved_words) name (sym c.words_e_to_g.ensures ∙ is_none _ c.in_default-words_e_to_g.not-Some) ∙
    some_among 7 (drop 14 reserved_words) name c.in-Some-words_i_to_m.kind (sym c.words_i_to_m.ensures ∙ c.in-Some-words_i_to_m.is))

pub returns-in-Some-words_m_to_r : goal.returns-in-Some-words_m_to_r
returns-in-Some-words_m_to_r c =
    let name = map raised c.args.text.now in
    sym (
    none_among 7 (drop 0 reserved_words) name (sym c.words_a_to_e.ensures ∙ is_none _ c.in_default.not-Some) ∙
    none_among 7 (drop 7 reserved_words) name (sym c.words_e_to_g.ensures ∙ is_none _ c.in_default-words_e_to_g.not-Some) ∙
    none_among 7 (drop 14 reserved_words) name (sym c.words_i_to_m.ensures ∙ is_none _ c.in_default-words_i_to_m.not-Some) ∙
    some_among 7 (drop 21 reserved_words) name c.in-Some-words_m_to_r.kind (sym c.words_m_to_r.ensures ∙ c.in-Some-words_m_to_r.is))

pub returns-in-Some-words_s_to_w : goal.returns-in-Some-words_s_to_w
returns-in-Some-words_s_to_w c =
    let name = map raised c.args.text.now in
    sym (
    none_among 7 (drop 0 reserved_words) name (sym c.words_a_to_e.ensures ∙ is_none _ c.in_default.not-Some) ∙
    none_among 7 (drop 7 reserved_words) name (sym c.words_e_to_g.ensures ∙ is_none _ c.in_default-words_e_to_g.not-Some) ∙
    none_among 7 (drop 14 reserved_words) name (sym c.words_i_to_m.ensures ∙ is_none _ c.in_default-words_i_to_m.not-Some) ∙
    none_among 7 (drop 21 reserved_words) name (sym c.words_m_to_r.ensures ∙ is_none _ c.in_default-words_m_to_r.not-Some) ∙
    some_among 7 (drop 28 reserved_words) name c.in-Some-words_s_to_w.kind (sym c.words_s_to_w.ensures ∙ c.in-Some-words_s_to_w.is))
