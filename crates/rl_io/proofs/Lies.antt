-- Files that lie one after another.
use Rattle.std.proofs.Common.{◌≡◌, ℕ, ◌+◌, ◌-◌, ◌*◌, ◌<◌, ◌≤◌, true, false, List, [], ◌∷◌, ◌++◌, length, take, drop, slice_get, slice_set, None, Some, refl, ap, sym, ◌∙◌, add_assoc, append_assoc, append-nil, suc, get_or, arith, length-append, length-drop}
use Rattle.std.proofs.lemmas.List.{nil_from_length, take-append-le, drop-append-le, length-take-le, set_split, length_push}
use Rattle.std.proofs.lemmas.List.{drop-drop, length-set, take-append-drop, take_more, take-take}
use Rattle.std.proofs.lemmas.Option.{slice_get_within, get_or_from_slice_get, slice_get-get_or}
use Rattle.std.proofs.lemmas.Slice.Eq.{bytes_eq-Decides}
use Rattle.std.proofs.Math.Seq.{take-append_seam, drop-append_seam, drop-append-add, take-add, drop-cons}
use Rattle.std.specs.Str.{bytes_eq}
use Rattle.rl_io.proofs.Looks.{file_of-append, put_of-append, room_used-append, put_new, file_at, put_at, file_past}
use Rattle.rl_io.specs.Entries.{file_of, put_of, room_used}
use Rattle.rl_io.specs.Layout.{total, files_of, IsFoundAt, IsLaidOut}
use Rattle.rl_io.specs.declared.store.Size.{Size}

pub total-append : (xs ys : List Size) → total (xs ++ ys) ≡ total xs + total ys
total-append [] ys = omega arith
total-append (s ∷ xs) ys = omega (arith, total-append xs ys)

-- the files of two pieces
pub files_of-append : (xs ys : List Size) (a b : List ℕ) → total xs ≤ length a → length a ≤ total xs → files_of (xs ++ ys) (a ++ b) ≡ files_of xs a ++ files_of ys b
files_of-append [] ys a b l h = let e : a ≡ [] = nil_from_length a (omega arith) in rw e refl
files_of-append (s ∷ xs) ys a b l h =
    rw (
      take-append-le s.name a b (omega arith),
      drop-append-le s.name a b (omega arith),
      take-append-le s.file (drop s.name a) b (omega (arith, length-drop s.name a)),
      drop-append-le (s.name + s.file) a b (omega arith),
    )
    (ap (λ es. record { name = take s.name a; bytes = take s.file (drop s.name a) } ∷ es)
    (files_of-append xs ys (drop (s.name + s.file) a) b (omega (arith, length-drop (s.name + s.file) a)) (omega (arith, length-drop (s.name + s.file) a))))

pub room_used-files_of : (xs : List Size) (a : List ℕ) → total xs ≤ length a → room_used (files_of xs a) ≡ total xs + 16 * length xs
room_used-files_of [] a h = refl
room_used-files_of (s ∷ xs) a h =
    let rest : length (drop (s.name + s.file) a) ≡ length a - (s.name + s.file) = length-drop (s.name + s.file) a in
    omega (
      arith,
      length-take-le s.name a (omega arith),
      length-take-le s.file (drop s.name a) (omega (arith, length-drop s.name a)),
      room_used-files_of xs (drop (s.name + s.file) a) (omega arith),
    )

-- a name and a file at the front
files_of-front : (ys : List Size) (n m : ℕ) (name file b : List ℕ) → length name ≡ n → length file ≡ m
    → files_of (record { name = n; file = m } ∷ ys) (name ++ (file ++ b)) ≡ record { name = name; bytes = file } ∷ files_of ys b
files_of-front ys n m name file b h k =
    rw (
      ← h,
      ← k,
      take-append_seam name (file ++ b),
      drop-append_seam name (file ++ b),
      take-append_seam file b,
      drop-append-add name (file ++ b) (length file),
      drop-append_seam file b,
    )
    refl

-- the file that was found: its sizes stand between others, and its name and its bytes behind those of the first
pub found_file : (xs ys : List Size) (s : Size) (a rest name : List ℕ)
    → length a ≡ total xs → file_of (files_of xs a) name ≡ None → take s.name rest ≡ name
    → file_of (files_of (xs ++ s ∷ ys) (a ++ rest)) name ≡ Some (take s.file (drop s.name rest))
found_file xs ys s a rest name l n h =
    rw (
      files_of-append xs (s ∷ ys) a rest (omega arith) (omega arith),
      file_of-append (files_of xs a) (files_of (s ∷ ys) rest) name n,
    )
    (file_at (record { name = take s.name rest; bytes = take s.file (drop s.name rest) }) (files_of ys (drop (s.name + s.file) rest)) name h)

-- and what becomes of it once other bytes stand there
pub found_put : (xs ys : List Size) (s : Size) (a rest name file : List ℕ)
    → length a ≡ total xs → s.name ≤ length rest → file_of (files_of xs a) name ≡ None → take s.name rest ≡ name
    → put_of (files_of (xs ++ s ∷ ys) (a ++ rest)) name file
    ≡ files_of (xs ++ record { name = s.name; file = length file } ∷ ys)
    (a ++ (take s.name rest ++ (file ++ drop (s.name + s.file) rest)))
found_put xs ys s a rest name file l m n h =
    rw (
      files_of-append xs (s ∷ ys) a rest (omega arith) (omega arith),
      put_of-append (files_of xs a) (files_of (s ∷ ys) rest) name file n,
      put_at (record { name = take s.name rest; bytes = take s.file (drop s.name rest) }) (files_of ys (drop (s.name + s.file) rest)) name file h,
      files_of-append xs (record { name = s.name; file = length file } ∷ ys) a (take s.name rest ++ (file ++ drop (s.name + s.file) rest)) (omega arith) (omega arith),
      files_of-front ys s.name (length file) (take s.name rest) file (drop (s.name + s.file) rest) (length-take-le s.name rest m) refl,
    )
    refl

-- a new file behind the others
pub new_put : (xs : List Size) (a name file : List ℕ) → length a ≡ total xs → file_of (files_of xs a) name ≡ None
    → put_of (files_of xs a) name file
    ≡ files_of (xs ++ record { name = length name; file = length file } ∷ []) (a ++ name ++ file)
new_put xs a name file l n =
    rw (
      put_new (files_of xs a) name file n,
      append_assoc a name file,
      files_of-append xs (record { name = length name; file = length file } ∷ []) a (name ++ file) (omega arith) (omega arith),
    )
    (ap (λ es. files_of xs a ++ es)
    (sym (files_of-front [] (length name) (length file) name file [] refl refl) ∙ ap (λ bs. files_of (record { name = length name; file = length file } ∷ []) (name ++ bs)) (append-nil file)))

-- one more file has another name
more_apart : (xs : List Size) (s : Size) (a piece name : List ℕ) → length a ≡ total xs
    → file_of (files_of xs a) name ≡ None → bytes_eq (take s.name piece) name ≡ false
    → file_of (files_of (xs ++ s ∷ []) (a ++ piece)) name ≡ None
more_apart xs s a piece name l n h =
    rw (
      files_of-append xs (s ∷ []) a piece (omega arith) (omega arith),
      file_of-append (files_of xs a) (files_of (s ∷ []) piece) name n,
    )
    (file_past (record { name = take s.name piece; bytes = take s.file (drop s.name piece) }) name h)

-- the sizes round one of them
pub sizes_round : (sizes : List Size) (i : ℕ) (s : Size)
    → slice_get sizes i ≡ Some s → sizes ≡ take i sizes ++ s ∷ drop (suc i) sizes
sizes_round sizes i s h =
    let l : i < length sizes = slice_get_within sizes i s h in
    let e : get_or sizes i s ≡ s = get_or_from_slice_get sizes i s s h in
    sym (take-append-drop i sizes) ∙ ap (λ ss. take i sizes ++ ss) (drop-cons sizes i s l ∙ ap (λ x. x ∷ drop (suc i) sizes) e)

take_is : (sizes : List Size) (i : ℕ) (s : Size)
    → slice_get sizes i ≡ Some s → take (i + 1) sizes ≡ take i sizes ++ s ∷ []
take_is sizes i s h =
    take_more sizes i s (slice_get_within sizes i s h) ∙ ap (λ x. take i sizes ++ x ∷ []) (get_or_from_slice_get sizes i s s h)

-- what the first files take, and one more, and all
pub total_more : (sizes : List Size) (i : ℕ) (s : Size)
    → slice_get sizes i ≡ Some s → total (take (i + 1) sizes) ≡ total (take i sizes) + (s.name + s.file)
total_more sizes i s h =
    rw (take_is sizes i s h) (omega (arith, total-append (take i sizes) (s ∷ [])))

pub total_within : (sizes : List Size) (i : ℕ) (s : Size)
    → slice_get sizes i ≡ Some s → total (take i sizes) + (s.name + s.file) ≤ total sizes
total_within sizes i s h =
    let e : total sizes ≡ total (take i sizes ++ s ∷ drop (suc i) sizes) = ap total (sizes_round sizes i s h) in
    omega (arith, e, total-append (take i sizes) (s ∷ drop (suc i) sizes))

-- what a look-up knows of the files that it has passed
pub record IsLookedThrough (sizes : List Size) (bytes name : List ℕ) (i start : ℕ) : Type 0 where
  pub starts : start ≡ total (take i sizes)
  pub new_before : file_of (files_of (take i sizes) (take start bytes)) name ≡ None

-- what a look-up knows after one more file
pub look_more : (sizes : List Size) (bytes name : List ℕ) (i start : ℕ) (s : Size)
    → slice_get sizes i ≡ Some s → length bytes ≡ total sizes → start ≡ total (take i sizes)
    → file_of (files_of (take i sizes) (take start bytes)) name ≡ None
    → bytes_eq (take s.name (drop start bytes)) name ≡ false
    → file_of (files_of (take (i + 1) sizes) (take (start + (s.name + s.file)) bytes)) name ≡ None
look_more sizes bytes name i start s h l t n d =
    rw (take_is sizes i s h, take-add start (s.name + s.file) bytes)
    (more_apart (take i sizes) s (take start bytes) (take (s.name + s.file) (drop start bytes)) name
    (length-take-le start bytes (omega (arith, total_within sizes i s h)) ∙ t) n
    (ap (λ xs. bytes_eq xs name) (take-take s.name (s.name + s.file) (drop start bytes) (omega arith)) ∙ d))

-- what follows for a file that was found
pub found_within : (sizes : List Size) (bytes name : List ℕ) (i start : ℕ) (s : Size)
    → IsFoundAt sizes bytes name i start s → length bytes ≡ total sizes → start + (s.name + s.file) ≤ length bytes
found_within sizes bytes name i start s f l = omega (arith, total_within sizes i s f.size_is, f.starts)

front_is : (sizes : List Size) (bytes name : List ℕ) (i start : ℕ) (s : Size)
    → IsFoundAt sizes bytes name i start s → length bytes ≡ total sizes → length (take start bytes) ≡ total (take i sizes)
front_is sizes bytes name i start s f l =
    length-take-le start bytes (omega (arith, found_within sizes bytes name i start s f l)) ∙ f.starts

pub found_get : (sizes : List Size) (bytes name : List ℕ) (i start : ℕ) (s : Size)
    → IsFoundAt sizes bytes name i start s → length bytes ≡ total sizes
    → file_of (files_of sizes bytes) name ≡ Some (take s.file (drop (start + s.name) bytes))
found_get sizes bytes name i start s f l =
    let whole : take start bytes ++ drop start bytes ≡ bytes = take-append-drop start bytes in
    let e : file_of (files_of (take i sizes ++ s ∷ drop (suc i) sizes) (take start bytes ++ drop start bytes)) name
    ≡ Some (take s.file (drop s.name (drop start bytes)))
    = found_file (take i sizes) (drop (suc i) sizes) s (take start bytes) (drop start bytes) name
    (front_is sizes bytes name i start s f l) f.new_before f.here in
    ap (λ ss. file_of (files_of ss bytes) name) (sizes_round sizes i s f.size_is)
    ∙ ap (λ bs. file_of (files_of (take i sizes ++ s ∷ drop (suc i) sizes) bs) name) (sym whole)
    ∙ e
    ∙ ap (λ bs. Some (take s.file bs)) (drop-drop s.name start bytes)

-- another file in its place
pub found_new : (sizes : List Size) (bytes name file : List ℕ) (i start : ℕ) (s : Size)
    → IsFoundAt sizes bytes name i start s → length bytes ≡ total sizes
    → put_of (files_of sizes bytes) name file
    ≡ files_of (slice_set sizes i (record { name = s.name; file = length file }))
    (take (start + s.name) bytes ++ (file ++ drop (start + s.name + s.file) bytes))
found_new sizes bytes name file i start s f l =
    let a = take start bytes in
    let rest = drop start bytes in
    let whole : a ++ rest ≡ bytes = take-append-drop start bytes in
    let set_is : slice_set sizes i (record { name = s.name; file = length file })
    ≡ take i sizes ++ record { name = s.name; file = length file } ∷ drop (suc i) sizes
    = set_split sizes i (record { name = s.name; file = length file }) (slice_get_within sizes i s f.size_is) in
    let e : put_of (files_of (take i sizes ++ s ∷ drop (suc i) sizes) (a ++ rest)) name file
    ≡ files_of (take i sizes ++ record { name = s.name; file = length file } ∷ drop (suc i) sizes)
    (a ++ (take s.name rest ++ (file ++ drop (s.name + s.file) rest)))
    = found_put (take i sizes) (drop (suc i) sizes) s a rest name file (front_is sizes bytes name i start s f l)
    (omega (arith, length-drop start bytes, found_within sizes bytes name i start s f l)) f.new_before f.here in
    let bytes_are : a ++ (take s.name rest ++ (file ++ drop (s.name + s.file) rest))
    ≡ take (start + s.name) bytes ++ (file ++ drop (start + s.name + s.file) bytes)
    = rw (take-add start s.name bytes, drop-drop (s.name + s.file) start bytes, append_assoc a (take s.name rest) (file ++ drop (start + s.name + s.file) bytes), add_assoc start s.name s.file) refl in
    ap (λ ss. put_of (files_of ss bytes) name file) (sizes_round sizes i s f.size_is)
    ∙ ap (λ bs. put_of (files_of (take i sizes ++ s ∷ drop (suc i) sizes) bs) name file) (sym whole)
    ∙ e
    ∙ ap (λ bs. files_of (take i sizes ++ record { name = s.name; file = length file } ∷ drop (suc i) sizes) bs) bytes_are
    ∙ ap (λ ss. files_of ss (take (start + s.name) bytes ++ (file ++ drop (start + s.name + s.file) bytes))) (sym set_is)

pub found_total : (sizes : List Size) (i m : ℕ) (s : Size) → slice_get sizes i ≡ Some s
    → total (slice_set sizes i (record { name = s.name; file = m })) + s.file ≡ total sizes + m
found_total sizes i m s h =
    let s' : Size = record { name = s.name; file = m } in
    let new : total (slice_set sizes i s') ≡ total (take i sizes ++ s' ∷ drop (suc i) sizes)
    = ap total (set_split sizes i s' (slice_get_within sizes i s h)) in
    let old : total sizes ≡ total (take i sizes ++ s ∷ drop (suc i) sizes) = ap total (sizes_round sizes i s h) in
    omega (arith, new, old, total-append (take i sizes) (s' ∷ drop (suc i) sizes), total-append (take i sizes) (s ∷ drop (suc i) sizes))

pub new_total : (sizes : List Size) (s : Size) → total (sizes ++ s ∷ []) ≡ total sizes + (s.name + s.file)
new_total sizes s = omega (arith, total-append sizes (s ∷ []))

-- the room that all files take
pub used_all : (sizes : List Size) (bytes : List ℕ) → length bytes ≡ total sizes
    → room_used (files_of sizes bytes) ≡ length bytes + 16 * length sizes
used_all sizes bytes l = omega (arith, room_used-files_of sizes bytes (omega arith))

pub put_length : (bytes file : List ℕ) (from n : ℕ) → from + n ≤ length bytes
    → length (take from bytes ++ (file ++ drop (from + n) bytes)) ≡ from + (length file + (length bytes - (from + n)))
put_length bytes file from n h =
    omega (
      arith,
      length-append (take from bytes) (file ++ drop (from + n) bytes),
      length-append file (drop (from + n) bytes),
      length-drop (from + n) bytes,
      length-take-le from bytes (omega arith),
    )

pub used_found : (sizes : List Size) (bytes name file : List ℕ) (i start : ℕ) (s : Size)
    → IsFoundAt sizes bytes name i start s → length bytes ≡ total sizes
    → room_used (put_of (files_of sizes bytes) name file) + s.file ≡ length bytes + 16 * length sizes + length file
used_found sizes bytes name file i start s f l =
    let s' : Size = record { name = s.name; file = length file } in
    let new : List ℕ = take (start + s.name) bytes ++ (file ++ drop (start + s.name + s.file) bytes) in
    let n : length new ≡ start + s.name + (length file + (length bytes - (start + s.name + s.file)))
    = put_length bytes file (start + s.name) s.file (omega (arith, found_within sizes bytes name i start s f l)) in
    let w : start + (s.name + s.file) ≤ length bytes = found_within sizes bytes name i start s f l in
    let t : total (slice_set sizes i s') + s.file ≡ total sizes + length file = found_total sizes i (length file) s f.size_is in
    let k : length (slice_set sizes i s') ≡ length sizes = length-set sizes i s' in
    let u : room_used (files_of (slice_set sizes i s') new) ≡ total (slice_set sizes i s') + 16 * length (slice_set sizes i s')
    = room_used-files_of (slice_set sizes i s') new (omega arith) in
    rw (found_new sizes bytes name file i start s f l) (omega arith)

pub used_new : (sizes : List Size) (bytes name file : List ℕ)
    → length bytes ≡ total sizes → file_of (files_of sizes bytes) name ≡ None
    → room_used (put_of (files_of sizes bytes) name file) ≡ length bytes + 16 * length sizes + (16 + length name + length file)
used_new sizes bytes name file l n =
    rw (put_new (files_of sizes bytes) name file n)
    (omega (arith, room_used-append (files_of sizes bytes) (record { name = name; bytes = file } ∷ []), used_all sizes bytes l))

-- the same at a read
pub read_is : (sizes : List Size) (i : ℕ) (d : Size) → i < length sizes → slice_get sizes i ≡ Some (get_or sizes i d)
read_is sizes i d h = slice_get-get_or sizes i d h

pub read_within : (sizes : List Size) (i : ℕ) (d : Size) → i < length sizes
    → total (take i sizes) + ((get_or sizes i d).name + (get_or sizes i d).file) ≤ total sizes
read_within sizes i d h = total_within sizes i (get_or sizes i d) (read_is sizes i d h)

-- a look-up finds the name, or goes on
pub found_here : (sizes : List Size) (bytes name : List ℕ) (i start : ℕ) (d : Size) → i < length sizes
    → IsLookedThrough sizes bytes name i start
    → bytes_eq (take (start + (get_or sizes i d).name - start) (drop start bytes)) name ≡ true
    → IsFoundAt sizes bytes name i start (get_or sizes i d)
found_here sizes bytes name i start d h k e =
    let n : start + (get_or sizes i d).name - start ≡ (get_or sizes i d).name = omega arith in
    record {
      size_is = read_is sizes i d h;
      starts = k.starts;
      new_before = k.new_before;
      here = (bytes_eq-Decides (take (get_or sizes i d).name (drop start bytes)) name).0
          (ap (λ m. bytes_eq (take m (drop start bytes)) name) (sym n) ∙ e);
    }

pub found_later : (sizes : List Size) (bytes name : List ℕ) (i start : ℕ) (d : Size) → i < length sizes
    → length bytes ≡ total sizes → IsLookedThrough sizes bytes name i start
    → bytes_eq (take (start + (get_or sizes i d).name - start) (drop start bytes)) name ≡ false
    → IsLookedThrough sizes bytes name (i + 1) (start + (get_or sizes i d).name + (get_or sizes i d).file)
found_later sizes bytes name i start d h l k e =
    let s = get_or sizes i d in
    let n : start + s.name - start ≡ s.name = omega arith in
    record {
      starts = omega (arith, k.starts, total_more sizes i s (read_is sizes i d h));
      new_before = rw (add_assoc start s.name s.file)
          (look_more sizes bytes name i start s (read_is sizes i d h) l k.starts k.new_before
          (ap (λ m. bytes_eq (take m (drop start bytes)) name) (sym n) ∙ e));
    }

-- the layout after a file was put
pub laid_replaced : (sizes : List Size) (bytes name file : List ℕ) (i start room : ℕ) (s : Size)
    → IsLaidOut sizes bytes room → IsFoundAt sizes bytes name i start s
    → length bytes + 16 * length sizes + length file ≤ room + s.file
    → IsLaidOut (slice_set sizes i (record { name = s.name; file = length file }))
    (take (start + s.name) bytes ++ (file ++ drop (start + s.name + s.file) bytes)) room
laid_replaced sizes bytes name file i start room s l f h =
    let s' : Size = record { name = s.name; file = length file } in
    let w : start + (s.name + s.file) ≤ length bytes = found_within sizes bytes name i start s f l.filled in
    let n : length (take (start + s.name) bytes ++ (file ++ drop (start + s.name + s.file) bytes))
    ≡ start + s.name + (length file + (length bytes - (start + s.name + s.file)))
    = put_length bytes file (start + s.name) s.file (omega arith) in
    let t : total (slice_set sizes i s') + s.file ≡ total sizes + length file = found_total sizes i (length file) s f.size_is in
    let k : length (slice_set sizes i s') ≡ length sizes = length-set sizes i s' in
    record { filled = omega (arith, l.filled); fits = omega (arith, l.filled) }

pub laid_added : (sizes : List Size) (bytes name file : List ℕ) (room : ℕ)
    → IsLaidOut sizes bytes room → length bytes + 16 * length sizes + (16 + length name + length file) ≤ room
    → IsLaidOut (sizes ++ record { name = length name; file = length file } ∷ []) (bytes ++ name ++ file) room
laid_added sizes bytes name file room l h =
    let s : Size = record { name = length name; file = length file } in
    let t : total (sizes ++ s ∷ []) ≡ total sizes + (length name + length file) = new_total sizes s in
    let k : length (sizes ++ s ∷ []) ≡ length sizes + 1 = length_push sizes s in
    let n : length (bytes ++ name ++ file) ≡ length bytes + length name + length file
    = omega (arith, length-append (bytes ++ name) file, length-append bytes name) in
    record { filled = omega (arith, l.filled); fits = omega (arith, l.filled, l.fits) }
