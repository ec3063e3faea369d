use Rattle.std.proofs.Common.{Err, ◌-◌, ◌^◌, ℕ, List, length, min, ap, ◌∙◌, sym}
use Rattle.rl_print.specs.AtomText.{style_of, text_left}
use Rattle.rl_print.proofs.Shown.{atom_column, atom_cut, atom_follows, break_cut}
use Rattle.rl_print.proofs.Writings.{only_then, out_then}
use Rattle.rl_print.proofs.put.put_atom.Goals as goal

pub returns-in-Ok-clause-ok : goal.returns-in-Ok-clause-ok
returns-in-Ok-clause-ok g c =
    let cells = c.args.w.now.cells.cells in
    let long = c.text_length-long.ensures ∙ ap (λ (bs : List ℕ). min (length bs) (2 ^ 64 - 1)) (c.styled.ensures.text cells ∙ sym (c.styled-2.ensures.text cells)) in
    atom_follows _ _ _ (style_of c.args.style) c.args.w.now c.put_break.new.w c.put_text.new.w c.args.a c.breaks-broken.result (λ cs. text_left cs c.styled-2.result) c.styled-2.ensures.text (c.breaks-broken.ensures (length (text_left cells c.styled-2.result)) long) c.in_default.ensures.outside.world c.in_default.ensures.ok c.in-Ok.ensures.ok

pub returns-in-Ok-clause-column : goal.returns-in-Ok-clause-column
returns-in-Ok-clause-column g c =
    let cells = c.args.w.now.cells.cells in
    let long = c.text_length-long.ensures ∙ ap (λ (bs : List ℕ). min (length bs) (2 ^ 64 - 1)) (c.styled.ensures.text cells ∙ sym (c.styled-2.ensures.text cells)) in
    atom_column (style_of c.args.style) c.args.w.now c.put_break.new.w c.put_text.new.w c.args.a c.breaks-broken.result (λ cs. text_left cs c.styled-2.result) c.styled-2.ensures.text (c.breaks-broken.ensures (length (text_left cells c.styled-2.result)) long) c.in_default.ensures.outside.world c.in_default.ensures.column c.in-Ok.ensures.column

pub returns-in-Err-clause-front : goal.returns-in-Err-clause-front
returns-in-Err-clause-front g c =
    let bytes = text_left c.args.w.now.cells.cells c.styled.result in
    break_cut _ _ (style_of c.args.style) c.args.w.now c.args.a c.breaks-broken.result (λ cs. text_left cs c.styled.result) c.styled.ensures.text (c.breaks-broken.ensures (length bytes) c.text_length-long.ensures) c.in-Err.ensures.front

pub returns-in-Err-put_text-clause-front : goal.returns-in-Err-put_text-clause-front
returns-in-Err-put_text-clause-front g c =
    let cells = c.args.w.now.cells.cells in
    let long = c.text_length-long.ensures ∙ ap (λ (bs : List ℕ). min (length bs) (2 ^ 64 - 1)) (c.styled.ensures.text cells ∙ sym (c.styled-2.ensures.text cells)) in
    atom_cut _ _ _ (style_of c.args.style) c.args.w.now c.put_break.new.w c.args.a c.breaks-broken.result (λ cs. text_left cs c.styled-2.result) c.styled-2.ensures.text (c.breaks-broken.ensures (length (text_left cells c.styled-2.result)) long) c.in_default.ensures.outside.world c.in_default.ensures.ok c.in-Err-put_text.ensures.front

pub returns-in-Ok-clause-faults : goal.returns-in-Ok-clause-faults
returns-in-Ok-clause-faults g c = c.in-Ok.ensures.faults ∙ c.in_default.ensures.faults

pub returns-in-Ok-clause-outside : goal.returns-in-Ok-clause-outside
returns-in-Ok-clause-outside g c = out_then _ _ _ _ _ _ c.in_default.ensures.outside c.in-Ok.ensures.outside

pub returns-in-Err-put_text-clause-faults : goal.returns-in-Err-put_text-clause-faults
returns-in-Err-put_text-clause-faults g c = only_then {A = Unit {0}} (Err c.in-Err-put_text.s) _ _ _ _ c.in_default.ensures.faults c.in-Err-put_text.ensures.faults

pub returns-in-Err-put_text-clause-outside : goal.returns-in-Err-put_text-clause-outside
returns-in-Err-put_text-clause-outside g c = out_then _ _ _ _ _ _ c.in_default.ensures.outside c.in-Err-put_text.ensures.outside
