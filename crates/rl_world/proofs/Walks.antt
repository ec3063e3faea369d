-- What a walk on the levels of a world keeps, as three words are kept or given back.
use Rattle.std.proofs.Common.{◌≡◌, ℕ, suc, ◌+◌, ◌-◌, ◌≤◌, List, ◌∷◌, length, take, drop, sym, ap, ◌∙◌, arith}
use Rattle.rl_world.specs.Levels.{WorldLevels}
use Rattle.rl_world.specs.Walks.{IsSteady}

-- one more is kept, above what stays
pub above_more : (base : ℕ) (walk more : List (ℕ × ℕ × ℕ)) (t : ℕ × ℕ × ℕ) → more ≡ t ∷ walk → base ≤ length walk → take (length more - base) more ≡ t ∷ take (length walk - base) walk
above_more base walk more t e l =
    let n : suc (length walk) - base ≡ suc (length walk - base) = omega arith in
    ap (λ ts. take (length ts - base) ts) e ∙ ap (λ k. take k (t ∷ walk)) n

pub below_more : (base : ℕ) (walk more : List (ℕ × ℕ × ℕ)) (t : ℕ × ℕ × ℕ) → more ≡ t ∷ walk → base ≤ length walk → drop (length more - base) more ≡ drop (length walk - base) walk
below_more base walk more t e l =
    let n : suc (length walk) - base ≡ suc (length walk - base) = omega arith in
    ap (λ ts. drop (length ts - base) ts) e ∙ ap (λ k. drop k (t ∷ walk)) n

pub push_steady : (base : ℕ) (old new : WorldLevels) (t : ℕ × ℕ × ℕ) → new ≡ record old { level = old.level + 1; walk = t ∷ old.walk } → base ≤ length old.walk → IsSteady base old new
push_steady base old new t e l =
    let walk : new.walk ≡ t ∷ old.walk = ap (λ (v : WorldLevels). v.walk) e in
    let long : length new.walk ≡ suc (length old.walk) = ap length walk in
    let level : new.level ≡ old.level + 1 = ap (λ (v : WorldLevels). v.level) e in
    record {
      below = below_more base _ _ t walk l;
      level = omega (arith, long, level);
      bound = ap (λ (v : WorldLevels). v.bound) e;
      aside = ap (λ (v : WorldLevels). v.aside) e;
    }

pub pop_steady : (base : ℕ) (old new : WorldLevels) (t : ℕ × ℕ × ℕ) → old.walk ≡ t ∷ new.walk → new ≡ record old { level = old.level - 1; walk = new.walk } → 1 ≤ old.level → base ≤ length new.walk → IsSteady base old new
pop_steady base old new t popped e some l =
    let long : length old.walk ≡ suc (length new.walk) = ap length popped in
    let level : new.level ≡ old.level - 1 = ap (λ (v : WorldLevels). v.level) e in
    record {
      below = sym (below_more base _ _ t popped l);
      level = omega (arith, long, level);
      bound = ap (λ (v : WorldLevels). v.bound) e;
      aside = ap (λ (v : WorldLevels). v.aside) e;
    }
