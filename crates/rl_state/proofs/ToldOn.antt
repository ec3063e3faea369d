-- What is told, from call to call.
use Rattle.std.proofs.Common.{◌≡◌, ℕ, List, [], ◌++◌, take, drop, Option, Some, None, sym, ap, subst, ◌∙◌, append_assoc, append-nil, take-append-drop}
use Rattle.rl_io.specs.Told.{WhereTold}
use Rattle.rl_world.specs.Waiting.{GoesOut, FrontGoesOut}
use Rattle.rl_state.specs.Ties.{IsPrintedBefore, IsPrintedInPart}

pub told_through : {X : Type 0} (a b c : Option X) (P Q R : X → X → Type 0) → ((x y z : X) → P x y → Q y z → R x z) → WhereTold a b P → WhereTold b c Q → WhereTold a c R
told_through None b c P Q R f p q = tt
told_through (Some x) None c P Q R f p q = absurd p
told_through (Some x) (Some y) None P Q R f p q = absurd q
told_through (Some x) (Some y) (Some z) P Q R f p q = f x y z p q

moved : (before output held waiting now after bytes : List ℕ) (n : ℕ) → before ++ output ≡ held ++ waiting → now ≡ held ++ take n (waiting ++ bytes) → before ++ (output ++ bytes) ≡ now ++ drop n (waiting ++ bytes)
moved before output held waiting now after bytes n h e =
    sym (append_assoc before output bytes)
    ∙ ap (λ l. l ++ bytes) h
    ∙ append_assoc held waiting bytes
    ∙ ap (λ l. held ++ l) (sym (take-append-drop n (waiting ++ bytes)))
    ∙ sym (append_assoc held (take n (waiting ++ bytes)) (drop n (waiting ++ bytes)))
    ∙ ap (λ l. l ++ drop n (waiting ++ bytes)) (sym e)

pub told_first : {X : Type 0} (a : Option X) (P : X → X → Type 0) → ((x : X) → P x x) → WhereTold a a P
told_first None P f = tt
told_first (Some x) P f = f x

pub told_mapped : {X : Type 0} (a b : Option X) (P R : X → X → Type 0) → ((x y : X) → P x y → R x y) → WhereTold a b P → WhereTold a b R
told_mapped None b P R f p = tt
told_mapped (Some x) None P R f p = absurd p
told_mapped (Some x) (Some y) P R f p = f x y p

pub out_follows : (start old new : Option (List ℕ)) (waited waiting output bytes : List ℕ) → IsPrintedBefore start old waited output → GoesOut old waited new waiting bytes → IsPrintedBefore start new waiting (output ++ bytes)
out_follows start old new waited waiting output bytes h f =
    told_through start old new (λ before held. before ++ output ≡ held ++ waited)
    (λ before now. (n : ℕ) × (now ≡ before ++ take n (waited ++ bytes)) × (waiting ≡ drop n (waited ++ bytes)))
    (λ before held. before ++ (output ++ bytes) ≡ held ++ waiting)
    (λ x y z p q. moved x output y waited z waiting bytes q.0 p q.1 ∙ ap (λ l. z ++ l) (sym q.2)) h f

pub out_flushed : (start old new : Option (List ℕ)) (waited waiting output : List ℕ) → IsPrintedBefore start old waited output → GoesOut old waited new [] [] → waiting ≡ [] → IsPrintedBefore start new waiting output
out_flushed start old new waited waiting output h f e =
    subst (λ l. IsPrintedBefore start new l output) (sym e) (subst (λ l. IsPrintedBefore start new [] l) (append-nil output) (out_follows start old new waited [] output [] h f))

pub out_cut : (start old new : Option (List ℕ)) (waited output bytes : List ℕ) → IsPrintedBefore start old waited output → FrontGoesOut old new (waited ++ bytes) → IsPrintedInPart start new (output ++ bytes)
out_cut start old new waited output bytes h f =
    told_through start old new (λ before held. before ++ output ≡ held ++ waited)
    (λ before now. (n : ℕ) × (now ≡ before ++ take n (waited ++ bytes)))
    (λ before held. (lost : List ℕ) × (before ++ (output ++ bytes) ≡ held ++ lost))
    (λ x y z p q. (drop q.0 (waited ++ bytes), moved x output y waited z [] bytes q.0 p q.1)) h f

pub out_cut_flushed : (start old new : Option (List ℕ)) (waited output : List ℕ) → IsPrintedBefore start old waited output → FrontGoesOut old new waited → IsPrintedInPart start new output
out_cut_flushed start old new waited output h f =
    subst (λ l. IsPrintedInPart start new l) (append-nil output) (out_cut start old new waited output [] h (subst (λ l. FrontGoesOut old new l) (sym (append-nil waited)) f))

-- what is told, and what waits, is as it was
pub out_kept : (start old new : Option (List ℕ)) (waited waiting output : List ℕ) → new ≡ old → waiting ≡ waited → IsPrintedBefore start old waited output → IsPrintedBefore start new waiting output
out_kept start old new waited waiting output e f h =
    subst (λ (t : Option (List ℕ)). IsPrintedBefore start t waiting output) (sym e) (subst (λ (l : List ℕ). IsPrintedBefore start old l output) (sym f) h)

-- and what waits may be lost
pub out_kept_cut : (start old new : Option (List ℕ)) (waited output : List ℕ) → new ≡ old → IsPrintedBefore start old waited output → IsPrintedInPart start new output
out_kept_cut start old new waited output e h =
    subst (λ (t : Option (List ℕ)). IsPrintedInPart start t output) (sym e)
    (told_mapped start old (λ before held. before ++ output ≡ held ++ waited) (λ before held. (lost : List ℕ) × (before ++ output ≡ held ++ lost)) (λ before held p. (waited, p)) h)

pub out_grows : (start now : Option (List ℕ)) (output more : List ℕ) → IsPrintedInPart start now output → IsPrintedInPart start now (output ++ more)
out_grows start now output more h =
    told_mapped start now (λ before held. (lost : List ℕ) × (before ++ output ≡ held ++ lost)) (λ before held. (lost : List ℕ) × (before ++ (output ++ more) ≡ held ++ lost))
    (λ before held p. (p.0 ++ more, sym (append_assoc before output more) ∙ ap (λ l. l ++ more) p.1 ∙ append_assoc held p.0 more)) h
