-- What is told of a text, one call after another.
use Rattle.std.proofs.Common.{◌≡◌, ℕ, List, [], ◌++◌, drop, take, sym, ap, subst, ◌∙◌, append_assoc, append-nil, take-append-drop}
use Rattle.std.specs.Prelude.{Option, Some, None, option_map}
use Rattle.rl_io.specs.Told.{WhereTold}
use Rattle.rl_world.specs.Waiting.{FrontGoesOut}
use Rattle.rl_read.specs.Given.{FrontIsLeft}

-- what holds of the first and the second and of the second and the third comes to what holds of the first and the third
pub told_through : {X : Type 0} (a b c : Option X) (P Q R : X → X → Type 0) → ((x y z : X) → P x y → Q y z → R x z) → WhereTold a b P → WhereTold b c Q → WhereTold a c R
told_through None b c P Q R f p q = tt
told_through (Some x) None c P Q R f p q = absurd p
told_through (Some x) (Some y) None P Q R f p q = absurd q
told_through (Some x) (Some y) (Some z) P Q R f p q = f x y z p q

pub told_mapped : {X : Type 0} (a b : Option X) (P R : X → X → Type 0) → ((x y : X) → P x y → R x y) → WhereTold a b P → WhereTold a b R
told_mapped None b P R f p = tt
told_mapped (Some x) None P R f p = absurd p
told_mapped (Some x) (Some y) P R f p = f x y p

-- at first
pub told_first : {X : Type 0} (a : Option X) (P : X → X → Type 0) → ((x : X) → P x x) → WhereTold a a P
told_first None P f = tt
told_first (Some x) P f = f x

-- nothing changes twice
pub told_same : {X : Type 0} (a b c : Option X) → WhereTold a b (λ before now. now ≡ before) → WhereTold b c (λ before now. now ≡ before) → WhereTold a c (λ before now. now ≡ before)
told_same a b c p q = told_through a b c (λ before now. now ≡ before) (λ before now. now ≡ before) (λ before now. now ≡ before) (λ x y z e d. d ∙ e) p q

-- and where what waits stays
pub told_waits : (printed : List ℕ → Option (List ℕ)) (a b : Option (List ℕ)) (x y : List ℕ) → y ≡ x → WhereTold a b (λ before now. now ≡ before) → WhereTold b (printed x) (λ before now. now ≡ before) → WhereTold a (printed y) (λ before now. now ≡ before)
told_waits printed a b x y e p q = subst (λ (waiting : List ℕ). WhereTold a (printed waiting) (λ before now. now ≡ before)) (sym e) (told_same a b (printed x) p q)

-- of what waited a front came out, and the rest is lost
pub told_cut : (o p : Option (List ℕ)) (waited waiting : List ℕ) → waiting ≡ [] → FrontGoesOut o p waited → WhereTold (option_map (λ bytes. bytes ++ waited) o) (option_map (λ bytes. bytes ++ waiting) p) FrontIsLeft
told_cut None p waited waiting e f = tt
told_cut (Some x) None waited waiting e f = absurd f
told_cut (Some x) (Some y) waited waiting e f = (
  drop f.0 waited,
  ap (λ l. x ++ l) (sym (take-append-drop f.0 waited)) ∙ sym (append_assoc x (take f.0 waited) (drop f.0 waited)) ∙ ap (λ l. l ++ drop f.0 waited) (sym f.1 ∙ sym (append-nil y) ∙ ap (λ l. y ++ l) (sym e)),
)

-- and what was printed before stays so
pub told_same_cut : (a b c : Option (List ℕ)) → WhereTold a b (λ before now. now ≡ before) → WhereTold b c FrontIsLeft → WhereTold a c FrontIsLeft
told_same_cut a b c p q = told_through a b c (λ before now. now ≡ before) FrontIsLeft FrontIsLeft (λ x y z e d. (d.0, sym e ∙ d.1)) p q
