-- A write adds a front of its piece, however it ends.
use Rattle.std.proofs.Common.{◌≡◌, ℕ, List, [], ◌++◌, length, take, drop, Option, Some, None, Ok, Err, sym, ap, ◌∙◌, le_refl}
use Rattle.std.specs.Prelude.{Result, OnOk, OnErr}
use Rattle.std.proofs.lemmas.List.{append-nil, drop_all, take_all}
use Rattle.rl_io.specs.Told.{WhereTold}
use Rattle.rl_world.specs.Waiting.{GoesOut, FrontGoesOut}

whole_front : (old new : Option (List ℕ)) (piece : List ℕ) → WhereTold old new (λ before now. now ≡ before ++ piece) → FrontGoesOut old new piece
whole_front None new piece h = tt
whole_front (Some before) None piece h = h
whole_front (Some before) (Some now) piece h = (length piece, h ∙ ap (λ bytes. before ++ bytes) (sym (take_all (length piece) piece (le_refl (length piece)))))

pub written_front : {E : Type 0} (old new : Option (List ℕ)) (r : Result (Unit {0}) E) (piece waited : List ℕ) → OnOk r (WhereTold old new (λ before now. now ≡ before ++ piece)) → OnErr r (FrontGoesOut old new piece) → piece ≡ waited → FrontGoesOut old new waited
written_front old new (Ok u) piece waited ok err e = rw (← e) (whole_front old new piece ok)
written_front old new (Err f) piece waited ok err e = rw (← e) err

whole_follows : (old new : Option (List ℕ)) (waited : List ℕ) → WhereTold old new (λ before now. now ≡ before ++ waited) → GoesOut old waited new [] []
whole_follows None new waited h = tt
whole_follows (Some before) None waited h = h
whole_follows (Some before) (Some now) waited h =
    let all : take (length waited) (waited ++ []) ≡ waited = ap (take (length waited)) (append-nil waited) ∙ take_all (length waited) waited (le_refl (length waited)) in
    let none : drop (length waited) (waited ++ []) ≡ [] = ap (drop (length waited)) (append-nil waited) ∙ drop_all (length waited) waited (le_refl (length waited)) in
    (length waited, h ∙ ap (λ bytes. before ++ bytes) (sym all), sym none)

pub written_follows : {E : Type 0} (old new : Option (List ℕ)) (r : Result (Unit {0}) E) (piece waited cleared : List ℕ) → OnOk r (WhereTold old new (λ before now. now ≡ before ++ piece)) → piece ≡ waited → cleared ≡ [] → OnOk r (GoesOut old waited new cleared [])
written_follows old new (Ok u) piece waited cleared ok e c = rw (c, ← e) (whole_follows old new piece ok)
written_follows old new (Err f) piece waited cleared ok e c = tt
