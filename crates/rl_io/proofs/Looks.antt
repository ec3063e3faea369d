-- Look-ups in a list of files, and files that are put there.
use Rattle.std.proofs.Common.{◌≡◌, ◌≢◌, ℕ, ◌+◌, Bool, true, false, List, [], ◌∷◌, ◌++◌, Option, None, Some, refl, ap, sym, ◌∙◌, if◌then◌else◌, IsTrue, arith}
use Rattle.std.specs.Str.{bytes_eq}
use Rattle.std.proofs.lemmas.Slice.Eq.{bytes_eq-Decides}
use Rattle.rl_io.specs.Entries.{FileEntry, file_of, put_of, room_used}
use Rattle.rl_io.specs.Folder.{Replaces}

past : {X : Type 0} (b : Bool) (x : List ℕ) (r : Option (List ℕ)) (u v w : X)
    → (if b then Some x else r) ≡ None → (r ≡ None → v ≡ w) → (if b then u else v) ≡ w
past true x r u v w h k = cc
past false x r u v w h k = k h

-- a name that is not among the first files is looked up in the others
pub file_of-append : (xs ys : List FileEntry) (name : List ℕ) → file_of xs name ≡ None → file_of (xs ++ ys) name ≡ file_of ys name
file_of-append [] ys name h = refl
file_of-append (e ∷ xs) ys name h =
    past (bytes_eq e.name name) e.bytes (file_of xs name) (Some e.bytes) (file_of (xs ++ ys) name) (file_of ys name) h
    (file_of-append xs ys name)

pub put_of-append : (xs ys : List FileEntry) (name bytes : List ℕ)
    → file_of xs name ≡ None → put_of (xs ++ ys) name bytes ≡ xs ++ put_of ys name bytes
put_of-append [] ys name bytes h = refl
put_of-append (e ∷ xs) ys name bytes h =
    past (bytes_eq e.name name) e.bytes (file_of xs name) (record { name = e.name; bytes = bytes } ∷ (xs ++ ys))
    (e ∷ put_of (xs ++ ys) name bytes) (e ∷ (xs ++ put_of ys name bytes)) h
    (λ k. ap (λ es. e ∷ es) (put_of-append xs ys name bytes k))

-- a new file comes behind the others
pub put_new : (xs : List FileEntry) (name bytes : List ℕ)
    → file_of xs name ≡ None → put_of xs name bytes ≡ xs ++ record { name = name; bytes = bytes } ∷ []
put_new [] name bytes h = refl
put_new (e ∷ xs) name bytes h =
    past (bytes_eq e.name name) e.bytes (file_of xs name) (record { name = e.name; bytes = bytes } ∷ xs)
    (e ∷ put_of xs name bytes) (e ∷ (xs ++ record { name = name; bytes = bytes } ∷ [])) h
    (λ k. ap (λ es. e ∷ es) (put_new xs name bytes k))

same : (xs : List ℕ) → bytes_eq xs xs ≡ true
same xs = (bytes_eq-Decides xs xs).1 refl

is_false : (b : Bool) → (b ≡ true → ⊥) → b ≡ false
is_false true n = absurd (n refl)
is_false false n = refl

apart : (xs ys : List ℕ) → xs ≢ ys → bytes_eq xs ys ≡ false
apart xs ys n = is_false (bytes_eq xs ys) (λ e. n ((bytes_eq-Decides xs ys).0 e))

same_at : (e : FileEntry) (xs : List FileEntry) (name bytes : List ℕ) (b : Bool)
    → bytes_eq e.name name ≡ b → file_of (put_of xs name bytes) name ≡ Some bytes
    → file_of (if b then record { name = e.name; bytes = bytes } ∷ xs else e ∷ put_of xs name bytes) name ≡ Some bytes
same_at e xs name bytes true h k = rw h refl
same_at e xs name bytes false h k = rw h k

-- what was put is the file of its name
pub file_of-put_same : (xs : List FileEntry) (name bytes : List ℕ) → file_of (put_of xs name bytes) name ≡ Some bytes
file_of-put_same [] name bytes = rw (same name) refl
file_of-put_same (e ∷ xs) name bytes =
    same_at e xs name bytes (bytes_eq e.name name) refl (file_of-put_same xs name bytes)

other_at : (e : FileEntry) (xs : List FileEntry) (name bytes q : List ℕ) (b : Bool)
    → q ≢ name → bytes_eq e.name name ≡ b → file_of (put_of xs name bytes) q ≡ file_of xs q
    → file_of (if b then record { name = e.name; bytes = bytes } ∷ xs else e ∷ put_of xs name bytes) q ≡ file_of (e ∷ xs) q
other_at e xs name bytes q true n h k =
    let f : bytes_eq e.name q ≡ false = apart e.name q (λ l. n (sym l ∙ (bytes_eq-Decides e.name name).0 h)) in rw f refl
other_at e xs name bytes q false n h k = ap (λ r. (if bytes_eq e.name q then Some e.bytes else r)) k

-- and the other names have their files
pub file_of-put_other : (xs : List FileEntry) (name bytes q : List ℕ)
    → q ≢ name → file_of (put_of xs name bytes) q ≡ file_of xs q
file_of-put_other [] name bytes q n = rw (apart name q (λ l. n (sym l))) refl
file_of-put_other (e ∷ xs) name bytes q n =
    other_at e xs name bytes q (bytes_eq e.name name) n refl (file_of-put_other xs name bytes q n)

-- the first file has the name, or has another
pub file_at : (e : FileEntry) (es : List FileEntry) (name : List ℕ) → e.name ≡ name → file_of (e ∷ es) name ≡ Some e.bytes
file_at e es name h = let t : bytes_eq e.name name ≡ true = (bytes_eq-Decides e.name name).1 h in rw t refl

pub put_at : (e : FileEntry) (es : List FileEntry) (name bytes : List ℕ)
    → e.name ≡ name → put_of (e ∷ es) name bytes ≡ record { name = e.name; bytes = bytes } ∷ es
put_at e es name bytes h = let t : bytes_eq e.name name ≡ true = (bytes_eq-Decides e.name name).1 h in rw t refl

pub file_past : (e : FileEntry) (name : List ℕ) → bytes_eq e.name name ≡ false → file_of (e ∷ []) name ≡ None
file_past e name h = rw h refl

pub room_used-append : (xs ys : List FileEntry) → room_used (xs ++ ys) ≡ room_used xs + room_used ys
room_used-append [] ys = omega arith
room_used-append (e ∷ xs) ys = omega (arith, room_used-append xs ys)

-- what `room` of a put says
pub room_no : (A : Type 0) → (A → ⊥) → (IsTrue false → A) × (A → IsTrue false)
room_no A n = ((λ h. absurd (cc)), (λ a. absurd (n a)))

pub room_yes : (A : Type 0) → A → (IsTrue true → A) × (A → IsTrue true)
room_yes A a = ((λ h. a), (λ h. refl))

pub never : IsTrue false → ⊥
never h = cc

-- a put in terms of a folder
pub replaces : (files now : List FileEntry) (name bytes : List ℕ)
    → now ≡ put_of files name bytes → Replaces name bytes (file_of files) (file_of now)
replaces files now name bytes e =
    record {
      file = rw e (file_of-put_same files name bytes);
      others = λ q n. rw e (file_of-put_other files name bytes q n);
    }
