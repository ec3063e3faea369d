-- At which word the words of a command stop being one.
use Rattle.std.proofs.Common.{Bool, true, false, ◌≡◌, ◌≢◌, ℕ, zero, suc, ◌<◌, ◌≤◌, List, [], ◌∷◌, ◌++◌, length, take, refl, sym, ap, ◌∙◌, arith, get_or, inl, inr, rules, subst, append_assoc}
use Rattle.std.proofs.lemmas.Bool.{cases_lt}
use Rattle.std.specs.Global.{Vec}
use Rattle.rl_tree.specs.Command.{CommandWord, run_word, IsPath, IsCommand, BeginsCommand, StopsAt}
use Rattle.rlisp.specs.Texts.{texts_of}

-- ---- where they stop

abbrev a_path : CommandWord
a_path = 65 ∷ []

command : IsCommand (run_word ∷ a_path ∷ []) a_path
command = record { are = refl; path_is = record { some = search rules; short = search rules } }

-- any command begins with no words
begins_none : BeginsCommand []
begins_none = record { more = run_word ∷ a_path ∷ []; path = a_path; command = command }

begins_run : BeginsCommand (run_word ∷ [])
begins_run = record { more = a_path ∷ []; path = a_path; command = command }

begins_path : (path : CommandWord) → IsPath path → BeginsCommand (run_word ∷ path ∷ [])
begins_path path p = record { more = []; path = path; command = record { are = refl; path_is = p } }

-- the first word of a command
first_run : (w : CommandWord) (ws : List CommandWord) → BeginsCommand (w ∷ ws) → w ≡ run_word
first_run w ws b = let e = b.command.are in cc

second_path : (w x : CommandWord) (ws : List CommandWord) → BeginsCommand (w ∷ x ∷ ws) → IsPath x
second_path w x ws b = let e = b.command.are in let same : x ≡ b.path = cc in rw same b.command.path_is

no_third : (w x y : CommandWord) (ws : List CommandWord) → BeginsCommand (w ∷ x ∷ y ∷ ws) → ⊥
no_third w x y ws b = let e = b.command.are in cc

pub stops_empty : StopsAt [] 0
stops_empty = record { within = omega arith; begins = begins_none; stops = λ l _. omega arith; not_whole = λ path c. let e = c.are in cc }

pub stops_first : (w : CommandWord) (ws : List CommandWord) → w ≢ run_word → StopsAt (w ∷ ws) 0
stops_first w ws n = record { within = omega arith; begins = begins_none; stops = λ _ b. n (first_run w [] b); not_whole = λ path c. n (let e = c.are in cc) }

pub stops_run : StopsAt (run_word ∷ []) 1
stops_run = record { within = omega arith; begins = begins_run; stops = λ l _. omega arith; not_whole = λ path c. let e = c.are in cc }

pub stops_second : (x : CommandWord) (ws : List CommandWord) → (IsPath x → ⊥) → StopsAt (run_word ∷ x ∷ ws) 1
stops_second x ws n = record { within = omega arith; begins = begins_run; stops = λ _ b. n (second_path run_word x [] b); not_whole = λ path c. let e = c.are in let same : x ≡ path = cc in n (rw same c.path_is) }

pub stops_third : (x y : CommandWord) (ws : List CommandWord) → IsPath x → StopsAt (run_word ∷ x ∷ y ∷ ws) 2
stops_third x y ws p = record { within = omega arith; begins = begins_path x p; stops = λ _ b. no_third run_word x y [] b; not_whole = λ path c. let e = c.are in cc }

-- ---- for the words in memory

first_two : (words : List (Vec ℕ)) (u v : Vec ℕ) → length words ≢ 0 → length words ≢ 1 → u ≡ get_or words 0 u → v ≡ get_or words 1 v → (rest : List (Vec ℕ)) × (words ≡ u ∷ v ∷ rest)
first_two [] u v l m e f = absurd (l refl)
first_two (x ∷ []) u v l m e f = absurd (m refl)
first_two (x ∷ y ∷ rest) u v l m e f = (rest, let a : u ≡ x = e in let b : v ≡ y = f in cc)

pub none_stop : (words : List (Vec ℕ)) → length words ≡ 0 → StopsAt (texts_of words) 0
none_stop [] l = stops_empty
none_stop (x ∷ xs) l = absurd (omega arith)

pub first_stops : (words : List (Vec ℕ)) (u : Vec ℕ) → length words ≢ 0 → u ≡ get_or words 0 u → u.items ≢ run_word → StopsAt (texts_of words) 0
first_stops [] u l e n = absurd (l refl)
first_stops (x ∷ xs) u l e n = stops_first x.items (texts_of xs) (let a : u ≡ x = e in rw (← a) n)

pub run_stops : (words : List (Vec ℕ)) (u : Vec ℕ) → length words ≡ 1 → u ≡ get_or words 0 u → u.items ≡ run_word → StopsAt (texts_of words) 1
run_stops [] u l e n = absurd (omega arith)
run_stops (x ∷ []) u l e n = let a : u ≡ x = e in rw (← a, n) stops_run
run_stops (x ∷ y ∷ rest) u l e n = absurd (omega arith)

pub path_stops : (words : List (Vec ℕ)) (u v : Vec ℕ) → length words ≢ 0 → length words ≢ 1 → u ≡ get_or words 0 u → v ≡ get_or words 1 v → u.items ≡ run_word → (IsPath v.items → ⊥) → StopsAt (texts_of words) 1
path_stops words u v l m e f n p =
    let r = first_two words u v l m e f in
    let are : texts_of words ≡ run_word ∷ v.items ∷ texts_of r.0 = ap texts_of r.1 ∙ ap (λ (w : CommandWord). w ∷ v.items ∷ texts_of r.0) n in
    subst (λ (ws : List CommandWord). StopsAt ws 1) (sym are) (stops_second v.items (texts_of r.0) p)

pub more_stops : (words : List (Vec ℕ)) (u v : Vec ℕ) → 2 < length words → u ≡ get_or words 0 u → v ≡ get_or words 1 v → u.items ≡ run_word → IsPath v.items → StopsAt (texts_of words) 2
more_stops [] u v l e f n p = absurd (omega arith)
more_stops (x ∷ []) u v l e f n p = absurd (omega arith)
more_stops (x ∷ y ∷ []) u v l e f n p = absurd (omega arith)
more_stops (x ∷ y ∷ z ∷ rest) u v l e f n p = let a : u ≡ x = e in let b : v ≡ y = f in rw (← a, ← b, n) (stops_third v.items z.items (texts_of rest) p)

pub two_run : (words : List (Vec ℕ)) (u v : Vec ℕ) → length words ≢ 0 → length words ≢ 1 → length words ≤ 2 → u ≡ get_or words 0 u → v ≡ get_or words 1 v → u.items ≡ run_word → IsPath v.items → IsCommand (texts_of words) v.items
two_run [] u v l m k e f n p = absurd (l refl)
two_run (x ∷ []) u v l m k e f n p = absurd (m refl)
two_run (x ∷ y ∷ []) u v l m k e f n p = let a : u ≡ x = e in let b : v ≡ y = f in record { are = rw (← a, ← b, n) refl; path_is = p }
two_run (x ∷ y ∷ z ∷ rest) u v l m k e f n p = absurd (omega arith)

-- ---- a command stops at one word

begins_front : (xs ys : List CommandWord) → BeginsCommand (xs ++ ys) → BeginsCommand xs
begins_front xs ys b = record { more = ys ++ b.more; path = b.path; command = rw (← append_assoc) b.command }

-- the first j words come first among the first k
fewer_first : (words : List CommandWord) (j k : ℕ) → j ≤ k → (rest : List CommandWord) × (take k words ≡ take j words ++ rest)
fewer_first words zero k l = (take k words, refl)
fewer_first words (suc j) zero l = absurd (omega arith)
fewer_first [] (suc j) (suc k) l = ([], refl)
fewer_first (w ∷ ws) (suc j) (suc k) l = let r = fewer_first ws j k (omega arith) in (r.0, ap (λ (vs : List CommandWord). w ∷ vs) r.1)

begins_fewer : (words : List CommandWord) (j k : ℕ) → j ≤ k → BeginsCommand (take k words) → BeginsCommand (take j words)
begins_fewer words j k l b = let r = fewer_first words j k l in begins_front (take j words) r.0 (subst BeginsCommand r.1 b)

no_later : (words : List CommandWord) (j k : ℕ) → StopsAt words j → StopsAt words k → j < k → ⊥
no_later words j k a b l = a.stops (omega (arith, b.within)) (begins_fewer words (suc j) k (omega arith) b.begins)

pub stops_once : (words : List CommandWord) (j k : ℕ) → StopsAt words j → StopsAt words k → j ≡ k
stops_once words j k a b =
    elim (cases_lt j k) [
      | inl l ↦ absurd (no_later words j k a b l)
      | inr l ↦ elim (cases_lt k j) [ inl m ↦ absurd (no_later words k j b a m) | inr m ↦ omega arith ]
    ]

-- a test that failed
pub not_so : (b : Bool) (P : Type 0) → (b ≡ true → P) × (P → b ≡ true) → b ≡ false → P → ⊥
not_so b P h f p = let e : b ≡ true = h.1 p in cc
