use Rattle.std.proofs.Common.{◌≡◌, ◌-◌, ◌<◌, length, reverse, set, Some, ap, sym, ◌∙◌, arith}
use Rattle.std.specs.Prelude.{slice_get}
use Rattle.rl_stack.specs.Saving.{with_hid}
use Rattle.rl_stack.specs.StackState.{StackState}
use Rattle.rl_stack.specs.declared.saved.Saved.TheVariants as saved
use Rattle.rl_stack.proofs.FramesLie.{state_laid}
use Rattle.rl_stack.proofs.Reversed.{reverse-set}
use Rattle.rl_stack.proofs.TopValues.{hid_set, hid_mark, newest_at, saved_long}
use Rattle.rl_stack.proofs.stack.Stack.set_hid.Goals as goal

pub returns-in-Binding : goal.returns-in-Binding
returns-in-Binding c =
    let n = c.len.ensures in
    let k : c.args.k < length c.self.inside.saved.items = saved_long c.args.self.now c.self.inside.saved c.args.k (ap (λ (s : StackState). s.saved) c.self.view_is) c.requires in
    let at : c.len.result - 1 - c.args.k ≡ length c.self.inside.saved.items - 1 - c.args.k = omega (arith, n, c.self.inside.saved.ok.0) in
    let got : slice_get (reverse c.self.inside.saved.items) c.args.k ≡ Some c.index.result.now = newest_at c.self.inside.saved.items c.args.k (c.len.result - 1 - c.args.k) c.index.result.now k at c.index.ensures in
    let whole : with_hid c.args.k c.args.hid (reverse c.self.inside.saved.items) ≡ reverse (set c.self.inside.saved.items (c.len.result - 1 - c.args.k) (saved.Binding c.in-Binding.id c.in-Binding.local c.args.hid c.in-Binding.levels)) =
    hid_set c.args.k c.args.hid (reverse c.self.inside.saved.items) c.in-Binding.id c.in-Binding.local c.in-Binding._old c.in-Binding.levels (got ∙ ap Some c.in-Binding.is)
    ∙ sym (ap (λ m. reverse (set c.self.inside.saved.items m (saved.Binding c.in-Binding.id c.in-Binding.local c.args.hid c.in-Binding.levels))) at ∙ reverse-set c.self.inside.saved.items c.args.k _ k) in
    sym (ap (λ (s : StackState). record s { saved = with_hid c.args.k c.args.hid s.saved }) (sym c.self.view_is) ∙ ap (λ saves. state_laid c.self.inside.nest c.self.inside.waiting (reverse c.self.inside.heads.items) (reverse c.self.inside.words.items) saves c.self.inside.registers) whole)

pub returns-in-Mark : goal.returns-in-Mark
returns-in-Mark c =
    let n = c.len.ensures in
    let k : c.args.k < length c.self.inside.saved.items = saved_long c.args.self.now c.self.inside.saved c.args.k (ap (λ (s : StackState). s.saved) c.self.view_is) c.requires in
    let at : c.len.result - 1 - c.args.k ≡ length c.self.inside.saved.items - 1 - c.args.k = omega (arith, n, c.self.inside.saved.ok.0) in
    let got : slice_get (reverse c.self.inside.saved.items) c.args.k ≡ Some c.index.result.now = newest_at c.self.inside.saved.items c.args.k (c.len.result - 1 - c.args.k) c.index.result.now k at c.index.ensures in
    let same : with_hid c.args.k c.args.hid (reverse c.self.inside.saved.items) ≡ reverse c.self.inside.saved.items = hid_mark c.args.k c.args.hid (reverse c.self.inside.saved.items) c.in-Mark._f (got ∙ ap Some c.in-Mark.is) in
    let view : c.args.self.now.saved ≡ reverse c.self.inside.saved.items = sym (ap (λ (s : StackState). s.saved) c.self.view_is) in
    ap (λ saves. record c.args.self.now { saved = saves }) (view ∙ sym same ∙ sym (ap (with_hid c.args.k c.args.hid) view))
