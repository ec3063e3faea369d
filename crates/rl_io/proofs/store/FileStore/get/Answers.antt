use Rattle.std.proofs.Common.{◌≡◌, ◌+◌, ◌-◌, length, refl, arith}
use Rattle.rl_io.specs.Layout.{total, files_of}
use Rattle.rl_io.proofs.Lies.{found_within, found_get}
use Rattle.rl_io.proofs.store.FileStore.get.Goals as goal

pub overflow_add-start : goal.overflow_add-start
overflow_add-start c =
    let l : length c.as_slice-bytes.result.now ≡ total c.deref.result.now = rw (c.deref.ensures.value, c.as_slice-bytes.ensures.value) c.self.invariant.0.filled in
    grind (arith, found_within _ _ _ _ _ _ c.in-Some.ensures l)

pub overflow_add-result : goal.overflow_add-result
overflow_add-result c =
    let l : length c.as_slice-bytes.result.now ≡ total c.deref.result.now = rw (c.deref.ensures.value, c.as_slice-bytes.ensures.value) c.self.invariant.0.filled in
    grind (arith, found_within _ _ _ _ _ _ c.in-Some.ensures l)

pub slice_bounds-result-end : goal.slice_bounds-result-end
slice_bounds-result-end c =
    let l : length c.as_slice-bytes.result.now ≡ total c.deref.result.now = rw (c.deref.ensures.value, c.as_slice-bytes.ensures.value) c.self.invariant.0.filled in
    grind (arith, found_within _ _ _ _ _ _ c.in-Some.ensures l)

pub returns-in-Some : goal.returns-in-Some
returns-in-Some c =
    let p = c.in-Some.place in
    let l : length c.as_slice-bytes.result.now ≡ total c.deref.result.now = rw (c.deref.ensures.value, c.as_slice-bytes.ensures.value) c.self.invariant.0.filled in
    let e : c.args.self.now.files ≡ files_of c.deref.result.now c.as_slice-bytes.result.now
    = rw (c.deref.ensures.value, c.as_slice-bytes.ensures.value, ← c.self.view_is) refl in
    let n : p.start + p.size.name + p.size.file - (p.start + p.size.name) ≡ p.size.file = omega arith in
    rw (e, n) (found_get _ _ _ _ _ _ c.in-Some.ensures l)
