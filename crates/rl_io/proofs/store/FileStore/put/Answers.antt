use Rattle.std.proofs.Common.{ℕ, ◌+◌, ◌≤◌, length, refl, List, ap, sym, arith}
use Rattle.std.proofs.lemmas.Option.{slice_get_within}
use Rattle.rl_io.specs.Entries.{FileEntry, StoredFiles}
use Rattle.rl_io.proofs.Looks.{room_no, room_yes, never}
use Rattle.rl_io.proofs.Lies.{found_within, found_new, used_found, used_new, new_put, laid_replaced, laid_added}
use Rattle.rl_io.proofs.store.FileStore.put.Goals as goal

abbrev store_of : List FileEntry → ℕ → StoredFiles
store_of es room = record { files = es; room = room }

pub overflow_add-free : goal.overflow_add-free
overflow_add-free c =
    let a = c.self.inside in
    let p = c.in-Some.place in
    let f = rw (c.deref.ensures.value, c.deref-2.ensures.value) at c.in-Some.ensures in
    let w : p.start + (p.size.name + p.size.file) ≤ length a.bytes.items = found_within _ _ _ _ _ _ f c.self.invariant.0.filled in
    grind (arith, w, c.len.ensures, a.bytes.ok.0)

pub returns-then-file-free-clause-room : goal.returns-then-file-free-clause-room
returns-then-file-free-clause-room c =
    let a = c.self.inside in
    let f = rw (c.deref.ensures.value, c.deref-2.ensures.value) at c.in-Some.ensures in
    let u = used_found a.sizes.items a.bytes.items c.args.name.now c.args.file.now _ _ _ f c.self.invariant.0.filled in
    rw (← c.self.view_is)
    (room_no _ (λ h. omega (arith, u, c.len.ensures, c.len-2.ensures, a.bytes.ok.0, a.sizes.ok.0, c.self.invariant.0.fits, c.self.invariant.0.filled)))

pub replace-requires-clause-index : goal.replace-requires-clause-index
replace-requires-clause-index c =
    let a = c.self.inside in
    let f = rw (c.deref.ensures.value, c.deref-2.ensures.value) at c.in-Some.ensures in
    omega (arith, slice_get_within a.sizes.items c.in-Some.place.index c.in-Some.place.size f.size_is, a.sizes.ok.0)

pub replace-requires-clause-within : goal.replace-requires-clause-within
replace-requires-clause-within c =
    let a = c.self.inside in
    let f = rw (c.deref.ensures.value, c.deref-2.ensures.value) at c.in-Some.ensures in
    omega (arith, found_within a.sizes.items a.bytes.items _ _ _ _ f c.self.invariant.0.filled, a.bytes.ok.0)

pub replace-requires-clause-room : goal.replace-requires-clause-room
replace-requires-clause-room c =
    let a = c.self.inside in
    let f = rw (c.deref.ensures.value, c.deref-2.ensures.value) at c.in-Some.ensures in
    omega (
      arith,
      found_within a.sizes.items a.bytes.items _ _ _ _ f c.self.invariant.0.filled,
      a.bytes.ok.0,
      a.sizes.ok.0,
      c.len.ensures,
      c.len-2.ensures,
      c.self.invariant.0.filled,
      c.self.invariant.0.fits,
      c.self.invariant.1,
    )

pub invariant_of-self : goal.invariant_of-self
invariant_of-self c =
    let a = c.self.inside in
    let f = rw (c.deref.ensures.value, c.deref-2.ensures.value) at c.in-Some.ensures in
    rw (c.replace.ensures.sizes, c.replace.ensures.bytes, c.replace.ensures.places) (
      laid_replaced a.sizes.items a.bytes.items c.args.name.now c.args.file.now _ _ a.room _ c.self.invariant.0 f
          (omega (arith, a.bytes.ok.0, a.sizes.ok.0, c.len.ensures, c.len-2.ensures, c.self.invariant.0.filled, c.self.invariant.0.fits)),
      omega (arith, c.self.invariant.1, c.replace.ensures.room),
      c.self.invariant.2,
    )

pub returns-then-not-has_room-clause-room : goal.returns-then-not-has_room-clause-room
returns-then-not-has_room-clause-room c =
    let a = c.self.inside in
    let n = rw (c.deref.ensures.value, c.deref-2.ensures.value) at c.in-None.ensures in
    let u = used_new a.sizes.items a.bytes.items c.args.name.now c.args.file.now c.self.invariant.0.filled n in
    rw (← c.self.view_is)
    (room_no _ (λ h. never ((c.if-not-has_room.ensures).1 (omega (arith, u, c.len.ensures, c.len-2.ensures, a.bytes.ok.0, a.sizes.ok.0)))))

pub invariant_of-self-in-None : goal.invariant_of-self-in-None
invariant_of-self-in-None c =
    let a = c.self.inside in
    let h = (c.if-not-has_room.ensures).0 refl in
    rw (c.add.ensures.sizes, c.add.ensures.bytes, c.add.ensures.places) (
      laid_added a.sizes.items a.bytes.items c.args.name.now c.args.file.now a.room c.self.invariant.0
          (omega (arith, h, a.bytes.ok.0, a.sizes.ok.0, c.len.ensures, c.len-2.ensures)),
      omega (arith, c.self.invariant.1, c.add.ensures.room),
      c.self.invariant.2,
    )

pub returns-else-file-free-clause-room : goal.returns-else-file-free-clause-room
returns-else-file-free-clause-room c =
    let a = c.self.inside in
    let f = rw (c.deref.ensures.value, c.deref-2.ensures.value) at c.in-Some.ensures in
    let u = used_found a.sizes.items a.bytes.items c.args.name.now c.args.file.now _ _ _ f c.self.invariant.0.filled in
    rw (← c.self.view_is)
    (room_yes _ (omega (arith, u, c.len.ensures, c.len-2.ensures, a.bytes.ok.0, a.sizes.ok.0, c.self.invariant.0.fits, c.self.invariant.0.filled)))

pub returns-else-file-free-clause-after : goal.returns-else-file-free-clause-after
returns-else-file-free-clause-after c =
    let a = c.self.inside in
    let f = rw (c.deref.ensures.value, c.deref-2.ensures.value) at c.in-Some.ensures in
    rw (← c.self.view_is, c.replace.ensures.sizes, c.replace.ensures.bytes)
    (ap (λ es. store_of es a.room) (sym (found_new a.sizes.items a.bytes.items c.args.name.now c.args.file.now _ _ _ f c.self.invariant.0.filled)))

pub returns-else-not-has_room-clause-room : goal.returns-else-not-has_room-clause-room
returns-else-not-has_room-clause-room c =
    let a = c.self.inside in
    let n = rw (c.deref.ensures.value, c.deref-2.ensures.value) at c.in-None.ensures in
    let u = used_new a.sizes.items a.bytes.items c.args.name.now c.args.file.now c.self.invariant.0.filled n in
    let h = (c.if-not-has_room.ensures).0 refl in
    rw (← c.self.view_is) (room_yes _ (omega (arith, u, h, c.len.ensures, c.len-2.ensures, a.bytes.ok.0, a.sizes.ok.0)))

pub returns-else-not-has_room-clause-after : goal.returns-else-not-has_room-clause-after
returns-else-not-has_room-clause-after c =
    let a = c.self.inside in
    let n = rw (c.deref.ensures.value, c.deref-2.ensures.value) at c.in-None.ensures in
    rw (← c.self.view_is, c.add.ensures.sizes, c.add.ensures.bytes)
    (ap (λ es. store_of es a.room) (sym (new_put a.sizes.items a.bytes.items c.args.name.now c.args.file.now c.self.invariant.0.filled n)))
