-- Threes of words.
use Rattle.std.proofs.Common.{◌≡◌, ℕ, zero, suc, ◌+◌, ◌*◌, ◌<◌, ◌≤◌, List, ◌∷◌, length, get_or, set, refl, ap, ◌∙◌, arith}
use Rattle.std.proofs.lemmas.List.{get_or-set_same, get_or-set_other, length-set}
use Rattle.rl_world.specs.Levels.{threes}

pub length-threes : (n : ℕ) (words : List ℕ) → length (threes n words) ≡ n
length-threes zero words = refl
length-threes (suc n) words = ap suc (length-threes n words)

threes_same : (n : ℕ) (words new : List ℕ) → ((i : ℕ) → i < 3 * n → get_or new i 0 ≡ get_or words i 0) → threes n new ≡ threes n words
threes_same zero words new same = refl
threes_same (suc n) words new same =
    rw (same (3 * n) (omega arith), same (3 * n + 1) (omega arith), same (3 * n + 2) (omega arith), threes_same n words new (λ i l. same i (omega arith))) refl

-- three words more
pub threes_pushed : (n a b c : ℕ) (words one two new : List ℕ) → 3 * n + 3 ≤ length words → one ≡ set words (3 * n) a → two ≡ set one (3 * n + 1) b → new ≡ set two (3 * n + 2) c → threes (n + 1) new ≡ (a, b, c) ∷ threes n words
threes_pushed n a b c words one two new long ea eb ec =
    let l1 : length one ≡ length words = ap length ea ∙ length-set words (3 * n) a in
    let l2 : length two ≡ length one = ap length eb ∙ length-set one (3 * n + 1) b in
    let third : get_or new (3 * n + 2) 0 ≡ c = ap (λ ws. get_or ws (3 * n + 2) 0) ec ∙ get_or-set_same two (3 * n + 2) c 0 (omega arith) in
    let past : (i : ℕ) → i < 3 * n + 2 → get_or new i 0 ≡ get_or two i 0 = λ i l. ap (λ ws. get_or ws i 0) ec ∙ get_or-set_other two (3 * n + 2) i c 0 (λ e. absurd (omega arith)) in
    let second : get_or new (3 * n + 1) 0 ≡ b = past (3 * n + 1) (omega arith) ∙ (ap (λ ws. get_or ws (3 * n + 1) 0) eb ∙ get_or-set_same one (3 * n + 1) b 0 (omega arith)) in
    let before : (i : ℕ) → i < 3 * n + 1 → get_or new i 0 ≡ get_or one i 0 = λ i l. past i (omega arith) ∙ (ap (λ ws. get_or ws i 0) eb ∙ get_or-set_other one (3 * n + 1) i b 0 (λ e. absurd (omega arith))) in
    let first : get_or new (3 * n) 0 ≡ a = before (3 * n) (omega arith) ∙ (ap (λ ws. get_or ws (3 * n) 0) ea ∙ get_or-set_same words (3 * n) a 0 (omega arith)) in
    let old : (i : ℕ) → i < 3 * n → get_or new i 0 ≡ get_or words i 0 = λ i l. before i (omega arith) ∙ (ap (λ ws. get_or ws i 0) ea ∙ get_or-set_other words (3 * n) i a 0 (λ e. absurd (omega arith))) in
    let m : n + 1 ≡ suc n = omega arith in
    rw (m, first, second, third, threes_same n words new old) refl
