-- How frames lie, as values are pushed and popped, slots are set, and frames come and go.
use Rattle.std.proofs.Common.{◌≡◌, ℕ, suc, ◌+◌, ◌-◌, ◌*◌, ◌<◌, ◌≤◌, List, [], ◌∷◌, ◌++◌, length, take, drop, reverse, replicate, get_or, set, Some, refl, sym, ap, subst, ◌∙◌, arith}
use Rattle.std.specs.Prelude.{slice_get}
use Rattle.std.specs.Global.{Vec}
use Rattle.std.proofs.lemmas.Option.{slice_get-get_or}
use Rattle.std.proofs.lemmas.List.{drop-set-add, drop-set-lt, get_or-drop, get_or-reverse, get_or-take, length-append, length-drop, length-replicate, length-reverse, length-take-le, take-set-le}
use Rattle.std.proofs.Math.Seq.{take-append_seam, take-set-lt, drop-append_seam}
use Rattle.rl_tags.specs.Tagged.{Tagged}
use Rattle.rl_tags.specs.Ids.{nil_id}
use Rattle.rl_stack.specs.declared.saved.Saved as stacked
use Rattle.rl_stack.specs.declared.stack.FrameHead as heads
use Rattle.rl_stack.specs.StackState.{HasFrame, MayWait, NewestFits, OnNewest, StackState, levels_of_frames, waiting_of, with_newest, with_place, with_slot_value, with_waiting}
use Rattle.rl_stack.specs.StackLayout.{LieApart, frames_laid, levels_laid, unframed_laid}
use Rattle.rl_stack.proofs.Reversed.{drop-both, reverse-cut, reverse-filled, reverse-pushed, reverse-set}

-- what a contract sees
abbrev pub state_laid : ℕ → ℕ → List heads.FrameHead → List Tagged → List stacked.Saved → List Tagged → StackState
state_laid nest w hs words saves registers = record { nest = nest; frames = frames_laid w hs words; unframed = unframed_laid w hs words; saved = saves; registers = registers }

-- ---- lengths

pub waiting_long : (more w : ℕ) (hs : List heads.FrameHead) (words : List Tagged) → LieApart more w hs (length words) → length (waiting_of (frames_laid w hs words) (unframed_laid w hs words)) ≡ w
waiting_long more w [] words a = sym a.0
waiting_long more w (h ∷ hs) words a = length-take-le w words (omega (arith, a.1))

pub slots_long : (more w : ℕ) (h : heads.FrameHead) (hs : List heads.FrameHead) (words : List Tagged) → LieApart more w (h ∷ hs) (length words) → length (take h.slots (drop w words)) ≡ h.slots
slots_long more w h hs words a = length-take-le h.slots (drop w words) (omega (arith, a.1, length-drop w words))

pub frames_long : (w : ℕ) (hs : List heads.FrameHead) (words : List Tagged) → length (frames_laid w hs words) ≡ length hs
frames_long w [] words = refl
frames_long w (h ∷ hs) words = ap suc (frames_long h.below hs (drop h.slots (drop w words)))

pub levels_long : (w : ℕ) (hs : List heads.FrameHead) (words : List Tagged) → levels_of_frames (frames_laid w hs words) ≡ levels_laid hs
levels_long w [] words = refl
levels_long w (h ∷ hs) words = ap (λ n. h.levels + n) (levels_long h.below hs (drop h.slots (drop w words)))

-- ---- room

pub words_fit : (more w : ℕ) (hs : List heads.FrameHead) (n : ℕ) → LieApart more w hs n → n ≤ 64 * levels_laid hs + more + 16
words_fit more w [] n a = omega (arith, a.1)
words_fit more w (h ∷ hs) n a = let r = words_fit 0 h.below hs a.0 a.4 in omega (arith, r, a.1, a.3)

pub heads_fit : (more w : ℕ) (hs : List heads.FrameHead) (n : ℕ) → LieApart more w hs n → length hs ≤ levels_laid hs
heads_fit more w [] n a = omega (arith)
heads_fit more w (h ∷ hs) n a = let r = heads_fit 0 h.below hs a.0 a.4 in omega (arith, r, a.2)

pub lie_wider : (more w : ℕ) (hs : List heads.FrameHead) (n : ℕ) → LieApart 0 w hs n → LieApart more w hs n
lie_wider more w [] n a = a
lie_wider more w (h ∷ hs) n a = (a.0, a.1, a.2, omega (arith, a.3), a.4)

pub waiting_least : (more w : ℕ) (hs : List heads.FrameHead) (n : ℕ) → LieApart more w hs n → w ≤ n
waiting_least more w [] n a = omega (arith, a.0)
waiting_least more w (h ∷ hs) n a = omega (arith, a.1)

pub laid_long : (w : ℕ) (frames : Vec heads.FrameHead) (words : Vec Tagged) → LieApart 16 w (reverse frames.items) (length words.items) → LieApart 16 w (reverse frames.items) (length (reverse words.items))
laid_long w frames words a = subst (LieApart 16 w (reverse frames.items)) (sym (length-reverse words.items)) a

-- a value waits
pub waits_some : (nest w : ℕ) (frames : Vec heads.FrameHead) (words : Vec Tagged) (saves : List stacked.Saved) (registers : List Tagged) (now : StackState) → state_laid nest w (reverse frames.items) (reverse words.items) saves registers ≡ now
    → LieApart 16 w (reverse frames.items) (length words.items) → 1 ≤ length (waiting_of now.frames now.unframed) → 1 ≤ w
waits_some nest w frames words saves registers now e a l =
    let m : 1 ≤ length (waiting_of (frames_laid w (reverse frames.items) (reverse words.items)) (unframed_laid w (reverse frames.items) (reverse words.items))) = subst (λ (s : StackState). 1 ≤ length (waiting_of s.frames s.unframed)) (sym e) l in
    let k = waiting_long 16 w (reverse frames.items) (reverse words.items) (laid_long w frames words a) in
    omega (arith, m, k)

-- ---- a value that waits

pub lie_pushed : (w : ℕ) (hs : List heads.FrameHead) (words : List Tagged) → LieApart 16 w hs (length words) → MayWait (frames_laid w hs words) (unframed_laid w hs words) → LieApart 16 (w + 1) hs (length words + 1)
lie_pushed w [] words a m = (omega (arith, a.0), omega (arith, m))
lie_pushed w (h ∷ hs) words a m =
    let k = waiting_long 16 w (h ∷ hs) words a in
    let s = slots_long 16 w h hs words a in
    (a.0, omega (arith, a.1), a.2, omega (arith, m, k, s), a.4)

pub lie_popped : (w : ℕ) (hs : List heads.FrameHead) (n : ℕ) → LieApart 16 (suc w) hs (suc n) → LieApart 16 w hs n
lie_popped w [] n a = (omega (arith, a.0), omega (arith, a.1))
lie_popped w (h ∷ hs) n a = (a.0, omega (arith, a.1), a.2, omega (arith, a.3), a.4)

pub state_pushed : (nest w : ℕ) (hs : List heads.FrameHead) (words : List Tagged) (saves : List stacked.Saved) (registers : List Tagged) (v : Tagged)
    → state_laid nest (suc w) hs (v ∷ words) saves registers ≡ with_waiting v (state_laid nest w hs words saves registers)
state_pushed nest w [] words saves registers v = refl
state_pushed nest w (h ∷ hs) words saves registers v = refl

-- ---- slots

pub slot_read : (more w : ℕ) (hs : List heads.FrameHead) (words : List Tagged) (i : ℕ) (d : Tagged) → LieApart more w hs (length words) → OnNewest (frames_laid w hs words) (λ f. i < length f.slots)
    → OnNewest (frames_laid w hs words) (λ f. slice_get f.slots i ≡ Some (get_or words (w + i) d))
slot_read more w [] words i d a l = l
slot_read more w (h ∷ hs) words i d a l =
    let s = slots_long more w h hs words a in
    slice_get-get_or (take h.slots (drop w words)) i d l ∙ ap Some (get_or-take h.slots (drop w words) i d (omega (arith, s, l)) ∙ get_or-drop w words i d)

pub slot_within : (more w : ℕ) (hs : List heads.FrameHead) (words : List Tagged) (i : ℕ) → LieApart more w hs (length words) → OnNewest (frames_laid w hs words) (λ f. i < length f.slots) → w + i < length words
slot_within more w [] words i a l = absurd l
slot_within more w (h ∷ hs) words i a l = omega (arith, slots_long more w h hs words a, l, a.1)

pub state_slot : (nest more w : ℕ) (hs : List heads.FrameHead) (words : List Tagged) (saves : List stacked.Saved) (registers : List Tagged) (i : ℕ) (v : Tagged) → LieApart more w hs (length words) → OnNewest (frames_laid w hs words) (λ f. i < length f.slots)
    → state_laid nest w hs (set words (w + i) v) saves registers ≡ record (state_laid nest w hs words saves registers) { frames = with_newest (with_slot_value i v) (frames_laid w hs words) }
state_slot nest more w [] words saves registers i v a l = absurd l
state_slot nest more w (h ∷ hs) words saves registers i v a l =
    let k : i < h.slots = omega (arith, slots_long more w h hs words a, l) in
    let e : drop w (set words (w + i) v) ≡ set (drop w words) i v = drop-set-add w words i v in
    let waits : take w (set words (w + i) v) ≡ take w words = take-set-le w words (w + i) v (omega arith) in
    let slots : take h.slots (drop w (set words (w + i) v)) ≡ set (take h.slots (drop w words)) i v = ap (take h.slots) e ∙ take-set-lt h.slots (drop w words) i v k in
    let rest : drop h.slots (drop w (set words (w + i) v)) ≡ drop h.slots (drop w words) = ap (drop h.slots) e ∙ drop-set-lt h.slots (drop w words) i v k in
    made waits slots rest
  where
    made : {ws ss rs : List Tagged} → take w (set words (w + i) v) ≡ ws → take h.slots (drop w (set words (w + i) v)) ≡ ss → drop h.slots (drop w (set words (w + i) v)) ≡ rs
        → state_laid nest w (h ∷ hs) (set words (w + i) v) saves registers ≡ record { nest = nest; frames = record { levels = h.levels; owner = h.owner; place = h.place; slots = ss; waiting = ws } ∷ frames_laid h.below hs rs; unframed = unframed_laid h.below hs rs; saved = saves; registers = registers }
    made a b c = rw (a, b, c) refl

-- ---- frames

pub has_head : (w : ℕ) (hs : List heads.FrameHead) (words : List Tagged) → HasFrame (frames_laid w hs words) → 1 ≤ length hs
has_head w [] words f = absurd f
has_head w (h ∷ hs) words f = omega (arith)

pub lie_added : (w levels slots owner : ℕ) (hs : List heads.FrameHead) (words : List Tagged) → LieApart 16 w hs (length words) → NewestFits (frames_laid w hs words) → slots + 4 ≤ 64 * levels
    → LieApart 16 0 (record { levels = levels; slots = slots; owner = owner; place = 0; below = w } ∷ hs) (slots + length words)
lie_added w levels slots owner hs words a f l = (length words, omega (arith), l, omega (arith, l), below hs a f)
  where
    below : (hs : List heads.FrameHead) → LieApart 16 w hs (length words) → NewestFits (frames_laid w hs words) → LieApart 0 w hs (length words)
    below [] a f = a
    below (h ∷ hs) a f = (a.0, a.1, a.2, omega (arith, waiting_long 16 w (h ∷ hs) words a, slots_long 16 w h hs words a, f), a.4)

pub state_added : (nest w levels slots owner : ℕ) (hs : List heads.FrameHead) (words : List Tagged) (saves : List stacked.Saved) (registers : List Tagged)
    → state_laid nest 0 (record { levels = levels; slots = slots; owner = owner; place = 0; below = w } ∷ hs) (replicate slots nil_id ++ words) saves registers
    ≡ record (state_laid nest w hs words saves registers) { frames = record { levels = levels; owner = owner; place = 0; slots = replicate slots nil_id; waiting = [] } ∷ frames_laid w hs words }
state_added nest w levels slots owner hs words saves registers =
    let t : take slots (replicate slots nil_id ++ words) ≡ replicate slots nil_id = ap (λ n. take n (replicate slots nil_id ++ words)) (sym (length-replicate slots nil_id)) ∙ take-append_seam (replicate slots nil_id) words in
    let d : drop slots (replicate slots nil_id ++ words) ≡ words = ap (λ n. drop n (replicate slots nil_id ++ words)) (sym (length-replicate slots nil_id)) ∙ drop-append_seam (replicate slots nil_id) words in
    rw (t, d) refl

pub state_taken : (nest w : ℕ) (h : heads.FrameHead) (hs : List heads.FrameHead) (words : List Tagged) (saves : List stacked.Saved) (registers : List Tagged)
    → state_laid nest h.below hs (drop (w + h.slots) words) saves registers ≡ record (state_laid nest w (h ∷ hs) words saves registers) { frames = drop 1 (frames_laid w (h ∷ hs) words) }
state_taken nest w h hs words saves registers = rw (drop-both h.slots w words) refl

-- ---- in vectors

pub slots_within : (nest w : ℕ) (frames : Vec heads.FrameHead) (words : Vec Tagged) (saves : List stacked.Saved) (registers : List Tagged) (now : StackState) (i : ℕ) → state_laid nest w (reverse frames.items) (reverse words.items) saves registers ≡ now
    → LieApart 16 w (reverse frames.items) (length words.items) → OnNewest now.frames (λ f. i < length f.slots) → w + i < length words.items
slots_within nest w frames words saves registers now i e a l =
    let m = slot_within 16 w (reverse frames.items) (reverse words.items) i (laid_long w frames words a) (subst (λ (s : StackState). OnNewest s.frames (λ f. i < length f.slots)) (sym e) l) in
    omega (arith, m, length-reverse words.items)

pub slot_shown : (nest w : ℕ) (frames : Vec heads.FrameHead) (words : Vec Tagged) (saves : List stacked.Saved) (registers : List Tagged) (now : StackState) (i k : ℕ) (v : Tagged) → state_laid nest w (reverse frames.items) (reverse words.items) saves registers ≡ now
    → LieApart 16 w (reverse frames.items) (length words.items) → OnNewest now.frames (λ f. i < length f.slots) → k ≡ length words.items - 1 - (w + i) → v ≡ get_or words.items k v
    → OnNewest now.frames (λ f. slice_get f.slots i ≡ Some v)
slot_shown nest w frames words saves registers now i k v e a l at is =
    let inside = slots_within nest w frames words saves registers now i e a l in
    let read = slot_read 16 w (reverse frames.items) (reverse words.items) i v (laid_long w frames words a) (subst (λ (s : StackState). OnNewest s.frames (λ f. i < length f.slots)) (sym e) l) in
    let value : get_or (reverse words.items) (w + i) v ≡ v = get_or-reverse words.items (w + i) v inside ∙ ap (λ n. get_or words.items n v) (sym at) ∙ sym is in
    subst (λ (s : StackState). OnNewest s.frames (λ f. slice_get f.slots i ≡ Some v)) e (subst (λ x. OnNewest (frames_laid w (reverse frames.items) (reverse words.items)) (λ f. slice_get f.slots i ≡ Some x)) value read)

pub slot_set : (nest w : ℕ) (frames : Vec heads.FrameHead) (words : Vec Tagged) (saves : List stacked.Saved) (registers : List Tagged) (now : StackState) (i k : ℕ) (v : Tagged) → state_laid nest w (reverse frames.items) (reverse words.items) saves registers ≡ now
    → LieApart 16 w (reverse frames.items) (length words.items) → OnNewest now.frames (λ f. i < length f.slots) → k ≡ length words.items - 1 - (w + i)
    → state_laid nest w (reverse frames.items) (reverse (set words.items k v)) saves registers ≡ record now { frames = with_newest (with_slot_value i v) now.frames }
slot_set nest w frames words saves registers now i k v e a l at =
    let inside = slots_within nest w frames words saves registers now i e a l in
    let there : reverse (set words.items k v) ≡ set (reverse words.items) (w + i) v = ap (λ n. reverse (set words.items n v)) at ∙ reverse-set words.items (w + i) v inside in
    ap (λ ws. state_laid nest w (reverse frames.items) ws saves registers) there
    ∙ state_slot nest 16 w (reverse frames.items) (reverse words.items) saves registers i v (laid_long w frames words a) (subst (λ (s : StackState). OnNewest s.frames (λ f. i < length f.slots)) (sym e) l)
    ∙ ap (λ (s : StackState). record s { frames = with_newest (with_slot_value i v) s.frames }) e

abbrev head_at : ℕ → heads.FrameHead → heads.FrameHead
head_at p h = record { levels = h.levels; slots = h.slots; owner = h.owner; place = p; below = h.below }

-- the newest head stands last in the vector
newest_head : (frames : Vec heads.FrameHead) (k p : ℕ) (h : heads.FrameHead) → 1 ≤ length frames.items → k ≡ length frames.items - 1 → h ≡ get_or frames.items k h
    → (hs : List heads.FrameHead) × (reverse frames.items ≡ h ∷ hs) × (reverse (set frames.items k (head_at p h)) ≡ head_at p h ∷ hs)
newest_head frames k p h l at is = go (reverse frames.items) refl
  where
    long : length (reverse frames.items) ≡ length frames.items
    long = length-reverse frames.items

    there : reverse (set frames.items k (head_at p h)) ≡ set (reverse frames.items) 0 (head_at p h)
    there = ap (λ n. reverse (set frames.items n (head_at p h))) (let e : k ≡ length frames.items - 1 - 0 = omega (arith, at) in e) ∙ reverse-set frames.items 0 (head_at p h) (omega (arith, l))

    first : get_or (reverse frames.items) 0 h ≡ h
    first = get_or-reverse frames.items 0 h (omega (arith, l)) ∙ ap (λ n. get_or frames.items n h) (let e : length frames.items - 1 - 0 ≡ k = omega (arith, at) in e) ∙ sym is

    go : (hs : List heads.FrameHead) → reverse frames.items ≡ hs → (rest : List heads.FrameHead) × (reverse frames.items ≡ h ∷ rest) × (reverse (set frames.items k (head_at p h)) ≡ head_at p h ∷ rest)
    go [] e = absurd (let z : length (reverse frames.items) ≡ 0 = ap length e in omega (arith, z, long, l))
    go (x ∷ hs) e =
        let same : x ≡ h = sym (ap (λ ys. get_or ys 0 h) e) ∙ first in
        (hs, e ∙ ap (λ y. y ∷ hs) same, there ∙ ap (λ ys. set ys 0 (head_at p h)) e)

some_heads : (nest w : ℕ) (frames : Vec heads.FrameHead) (words : Vec Tagged) (saves : List stacked.Saved) (registers : List Tagged) (now : StackState) → state_laid nest w (reverse frames.items) (reverse words.items) saves registers ≡ now → HasFrame now.frames → 1 ≤ length frames.items
some_heads nest w frames words saves registers now e f =
    let l = has_head w (reverse frames.items) (reverse words.items) (subst (λ (s : StackState). HasFrame s.frames) (sym e) f) in
    omega (arith, l, length-reverse frames.items)

pub place_kept : (nest w : ℕ) (frames : Vec heads.FrameHead) (words : Vec Tagged) (saves : List stacked.Saved) (registers : List Tagged) (now : StackState) (k p : ℕ) (h : heads.FrameHead) → state_laid nest w (reverse frames.items) (reverse words.items) saves registers ≡ now
    → LieApart 16 w (reverse frames.items) (length words.items) → HasFrame now.frames → k ≡ length frames.items - 1 → h ≡ get_or frames.items k h
    → LieApart 16 w (reverse (set frames.items k (head_at p h))) (length words.items) × (levels_laid (reverse (set frames.items k (head_at p h))) ≡ levels_laid (reverse frames.items))
place_kept nest w frames words saves registers now k p h e a f at is =
    let n = newest_head frames k p h (some_heads nest w frames words saves registers now e f) at is in
    let b : LieApart 16 w (h ∷ n.0) (length words.items) = subst (λ hs. LieApart 16 w hs (length words.items)) n.1 a in
    (subst (λ hs. LieApart 16 w hs (length words.items)) (sym n.2) (b.0, b.1, b.2, b.3, b.4), ap levels_laid n.2 ∙ sym (ap levels_laid n.1))

pub place_set : (nest w : ℕ) (frames : Vec heads.FrameHead) (words : Vec Tagged) (saves : List stacked.Saved) (registers : List Tagged) (now : StackState) (k p : ℕ) (h : heads.FrameHead) → state_laid nest w (reverse frames.items) (reverse words.items) saves registers ≡ now
    → HasFrame now.frames → k ≡ length frames.items - 1 → h ≡ get_or frames.items k h
    → state_laid nest w (reverse (set frames.items k (head_at p h))) (reverse words.items) saves registers ≡ record now { frames = with_newest (with_place p) now.frames }
place_set nest w frames words saves registers now k p h e f at is =
    let n = newest_head frames k p h (some_heads nest w frames words saves registers now e f) at is in
    ap (λ hs. state_laid nest w hs (reverse words.items) saves registers) n.2
    ∙ sym (ap (λ hs. record (state_laid nest w hs (reverse words.items) saves registers) { frames = with_newest (with_place p) (frames_laid w hs (reverse words.items)) }) n.1)
    ∙ ap (λ (s : StackState). record s { frames = with_newest (with_place p) s.frames }) e

-- ---- frames come and go, in vectors

-- the newest frame's values are cut off
pub taken_apart : (w : ℕ) (frames new : Vec heads.FrameHead) (words cut : Vec Tagged) (h : heads.FrameHead) → frames.items ≡ new.items ++ h ∷ [] → cut.items ≡ take (length words.items - (w + h.slots)) words.items
    → LieApart 16 w (reverse frames.items) (length words.items) → levels_laid (reverse frames.items) ≡ h.levels + levels_laid (reverse new.items) × LieApart 16 h.below (reverse new.items) (length cut.items)
taken_apart w frames new words cut h e f a =
    let hs : reverse frames.items ≡ h ∷ reverse new.items = ap reverse e ∙ reverse-pushed new.items h in
    let b : LieApart 16 w (h ∷ reverse new.items) (length words.items) = subst (λ hs. LieApart 16 w hs (length words.items)) hs a in
    let n : length cut.items ≡ length words.items - (w + h.slots) = ap length f ∙ length-take-le (length words.items - (w + h.slots)) words.items (omega (arith)) in
    let rest : b.0 ≡ length cut.items = omega (arith, n, b.1) in
    (ap levels_laid hs, lie_wider 16 h.below (reverse new.items) (length cut.items) (subst (LieApart 0 h.below (reverse new.items)) rest b.4))

pub taken_shown : (nest w : ℕ) (frames new : Vec heads.FrameHead) (words cut : Vec Tagged) (saves : List stacked.Saved) (registers : List Tagged) (now : StackState) (h : heads.FrameHead) → state_laid nest w (reverse frames.items) (reverse words.items) saves registers ≡ now
    → frames.items ≡ new.items ++ h ∷ [] → cut.items ≡ take (length words.items - (w + h.slots)) words.items → LieApart 16 w (reverse frames.items) (length words.items)
    → state_laid nest h.below (reverse new.items) (reverse cut.items) saves registers ≡ record now { frames = drop 1 now.frames }
taken_shown nest w frames new words cut saves registers now h v e f a =
    let hs : reverse frames.items ≡ h ∷ reverse new.items = ap reverse e ∙ reverse-pushed new.items h in
    let b : LieApart 16 w (h ∷ reverse new.items) (length words.items) = subst (λ hs. LieApart 16 w hs (length words.items)) hs a in
    let c : reverse cut.items ≡ drop (w + h.slots) (reverse words.items) = ap reverse f ∙ reverse-cut words.items (w + h.slots) (omega (arith, b.1)) in
    ap (λ ws. state_laid nest h.below (reverse new.items) ws saves registers) c
    ∙ state_taken nest w h (reverse new.items) (reverse words.items) saves registers
    ∙ sym (ap (λ hs. record (state_laid nest w hs (reverse words.items) saves registers) { frames = drop 1 (frames_laid w hs (reverse words.items)) }) hs)
    ∙ ap (λ (s : StackState). record s { frames = drop 1 s.frames }) v

pub added_apart : (nest w levels slots owner : ℕ) (frames new : Vec heads.FrameHead) (words more : Vec Tagged) (saves : List stacked.Saved) (registers : List Tagged) (now : StackState) → state_laid nest w (reverse frames.items) (reverse words.items) saves registers ≡ now
    → new.items ≡ frames.items ++ record { levels = levels; slots = slots; owner = owner; place = 0; below = w } ∷ [] → more.items ≡ words.items ++ replicate slots nil_id
    → LieApart 16 w (reverse frames.items) (length words.items) → NewestFits now.frames → slots + 4 ≤ 64 * levels
    → LieApart 16 0 (reverse new.items) (length more.items) × (levels_laid (reverse new.items) ≡ levels + levels_of_frames now.frames)
added_apart nest w levels slots owner frames new words more saves registers now v e f a n l =
    let h : heads.FrameHead = record { levels = levels; slots = slots; owner = owner; place = 0; below = w } in
    let hs : reverse new.items ≡ h ∷ reverse frames.items = ap reverse e ∙ reverse-pushed frames.items h in
    let long : slots + length (reverse words.items) ≡ length more.items = (let m : length more.items ≡ length words.items + length (replicate slots nil_id) = ap length f ∙ length-append words.items (replicate slots nil_id) in omega (arith, m, length-replicate slots nil_id, length-reverse words.items)) in
    let b = lie_added w levels slots owner (reverse frames.items) (reverse words.items) (laid_long w frames words a) (subst (λ (s : StackState). NewestFits s.frames) (sym v) n) l in (
      subst (λ hs. LieApart 16 0 hs (length more.items)) (sym hs) (subst (LieApart 16 0 (h ∷ reverse frames.items)) long b),
      ap levels_laid hs ∙ ap (λ n. levels + n) (sym (levels_long w (reverse frames.items) (reverse words.items)) ∙ ap (λ (s : StackState). levels_of_frames s.frames) v),
    )

pub added_shown : (nest w levels slots owner : ℕ) (frames new : Vec heads.FrameHead) (words more : Vec Tagged) (saves : List stacked.Saved) (registers : List Tagged) (now : StackState) → state_laid nest w (reverse frames.items) (reverse words.items) saves registers ≡ now
    → new.items ≡ frames.items ++ record { levels = levels; slots = slots; owner = owner; place = 0; below = w } ∷ [] → more.items ≡ words.items ++ replicate slots nil_id
    → state_laid nest 0 (reverse new.items) (reverse more.items) saves registers ≡ record now { frames = record { levels = levels; owner = owner; place = 0; slots = replicate slots nil_id; waiting = [] } ∷ now.frames }
added_shown nest w levels slots owner frames new words more saves registers now v e f =
    let h : heads.FrameHead = record { levels = levels; slots = slots; owner = owner; place = 0; below = w } in
    ap (λ hs. state_laid nest 0 hs (reverse more.items) saves registers) (ap reverse e ∙ reverse-pushed frames.items h)
    ∙ ap (λ ws. state_laid nest 0 (h ∷ reverse frames.items) ws saves registers) (ap reverse f ∙ reverse-filled words.items slots nil_id)
    ∙ state_added nest w levels slots owner (reverse frames.items) (reverse words.items) saves registers
    ∙ ap (λ (s : StackState). record s { frames = record { levels = levels; owner = owner; place = 0; slots = replicate slots nil_id; waiting = [] } ∷ s.frames }) v

pub heads_room : (nest w levels slots : ℕ) (frames : Vec heads.FrameHead) (words : Vec Tagged) (saves : List stacked.Saved) (registers : List Tagged) (now : StackState) → state_laid nest w (reverse frames.items) (reverse words.items) saves registers ≡ now
    → LieApart 16 w (reverse frames.items) (length words.items) → slots + 4 ≤ 64 * levels → levels + levels_of_frames now.frames ≤ now.nest → (length frames.items < nest) × (length words.items + slots ≤ 64 * nest + 32)
heads_room nest w levels slots frames words saves registers now v a l s =
    let n = heads_fit 16 w (reverse frames.items) (length words.items) a in
    let k = words_fit 16 w (reverse frames.items) (length words.items) a in
    let t : levels + levels_laid (reverse frames.items) ≤ nest = (let u : levels + levels_of_frames (frames_laid w (reverse frames.items) (reverse words.items)) ≤ nest = subst (λ (z : StackState). levels + levels_of_frames z.frames ≤ z.nest) (sym v) s in omega (arith, u, levels_long w (reverse frames.items) (reverse words.items))) in
    (omega (arith, n, l, t, length-reverse frames.items), omega (arith, k, l, t))
