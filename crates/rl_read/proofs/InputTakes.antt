-- The bytes that one call takes of the input.
use Rattle.std.proofs.Common.{◌≡◌, ℕ, ◌+◌, ◌-◌, ◌^◌, ◌≤◌, Bool, true, false, List, [], ◌∷◌, ◌++◌, refl, sym, ap, ◌∙◌, subst, arith}
use Rattle.std.specs.Option.{is_some}
use Rattle.std.specs.Prelude.{Option, Some, None, IfSome, min}
use Rattle.rl_io.specs.Told.{WhereTold}
use Rattle.rl_world.specs.Input.{Input, Gives, given_after, ended_after, with_back}
use Rattle.rl_read.specs.Taken.{Unread, came_of, MayCome, TakesBytes}
use Rattle.rl_read.proofs.ToldByCalls.{told_first, told_mapped}

pub takes_mapped : (a b : Unread) (P Q : List ℕ → List ℕ → Type 0) → ((x y : List ℕ) → P x y → Q x y) → TakesBytes a b P → TakesBytes a b Q
takes_mapped a b P Q f p = record { bytes = p.bytes; told = p.told; dry = p.dry; ended = p.ended; counted = p.counted; means = λ rest h. f _ _ (p.means rest h) }

-- nothing comes of the source
still : (a b : Unread) (P : List ℕ → List ℕ → Type 0) → b.left ≡ a.left → b.ended ≡ a.ended → came_of b ≡ came_of a → ((rest : List ℕ) → MayCome b rest → P (with_back a.returned rest) (with_back b.returned rest)) → TakesBytes a b P
still a b P left ended came means = record {
  bytes = [];
  told = subst (λ (l : Option (List ℕ)). WhereTold a.left l (λ before now. before ≡ [] ++ now)) (sym left) (told_first a.left (λ before now. before ≡ [] ++ now) (λ bytes. refl));
  dry = subst (λ (l : Option (List ℕ)). WhereTold a.left l (λ before now. MayCome a before → MayCome b now)) (sym left) (told_first a.left (λ before now. MayCome a before → MayCome b now) (λ bytes h e. h (sym ended ∙ e)));
  ended = λ e. (refl, ended ∙ e);
  counted = λ few. omega (arith, came);
  means = means;
}

-- ---- the input

abbrev pub unread_input : Input → Option (List ℕ) → Unread
unread_input i left = record { returned = i.back; given = i.given; ended = i.ended; left = left }

module _ {S : Type 0} (left : S → Option (List ℕ)) (s t : S) where
  given_back : (c given : ℕ) (ended : Bool) → t ≡ s → TakesBytes (record { returned = Some c; given = given; ended = ended; left = left s }) (record { returned = None; given = min (given + 1) (2 ^ 64 - 1); ended = ended; left = left t }) (λ x y. Gives x y (Some c))
  given_back c given ended same = record {
    bytes = [];
    told = subst (λ (u : S). WhereTold (left s) (left u) (λ before now. before ≡ [] ++ now)) (sym same) (told_first (left s) (λ before now. before ≡ [] ++ now) (λ bytes. refl));
    dry = subst (λ (u : S). WhereTold (left s) (left u) (λ before now. (ended ≡ true → before ≡ []) → ended ≡ true → now ≡ [])) (sym same) (told_first (left s) (λ before now. (ended ≡ true → before ≡ []) → ended ≡ true → now ≡ []) (λ bytes h. h));
    ended = λ e. (refl, e);
    counted = λ few. omega arith;
    means = λ rest h. refl;
  }

  given_first : (b given : ℕ) → WhereTold (left s) (left t) (λ x y. Gives x y (Some b)) → TakesBytes (record { returned = None; given = given; ended = false; left = left s }) (record { returned = None; given = min (given + 1) (2 ^ 64 - 1); ended = false; left = left t }) (λ x y. Gives x y (Some b))
  given_first b given gives = record {
    bytes = b ∷ [];
    told = told_mapped (left s) (left t) (λ x y. Gives x y (Some b)) (λ before now. before ≡ (b ∷ []) ++ now) (λ x y e. e) gives;
    dry = told_mapped (left s) (left t) (λ x y. Gives x y (Some b)) (λ before now. (false ≡ true → before ≡ []) → false ≡ true → now ≡ []) (λ x y e h f. absurd cc) gives;
    ended = λ e. absurd cc;
    counted = λ few. omega arith;
    means = λ rest h. refl;
  }

  ends_now : (given : ℕ) → WhereTold (left s) (left t) (λ x y. Gives x y None) → TakesBytes (record { returned = None; given = given; ended = false; left = left s }) (record { returned = None; given = given; ended = true; left = left t }) (λ x y. Gives x y None)
  ends_now given gives = record {
    bytes = [];
    told = told_mapped (left s) (left t) (λ x y. Gives x y None) (λ before now. before ≡ [] ++ now) (λ x y e. e.0 ∙ sym e.1) gives;
    dry = told_mapped (left s) (left t) (λ x y. Gives x y None) (λ before now. (false ≡ true → before ≡ []) → true ≡ true → now ≡ []) (λ x y e h f. e.1) gives;
    ended = λ e. absurd cc;
    counted = λ few. omega arith;
    means = λ rest h. (h refl, h refl);
  }

  ended_before : (given : ℕ) → t ≡ s → TakesBytes (record { returned = None; given = given; ended = true; left = left s }) (record { returned = None; given = given; ended = true; left = left t }) (λ x y. Gives x y None)
  ended_before given same = still _ _ (λ x y. Gives x y None) (ap left same) refl refl (λ rest h. (h refl, h refl))

  taken : (back : Option ℕ) (given : ℕ) (ended : Bool) (b : Option ℕ)
      → (back ≡ None → ended ≡ false → WhereTold (left s) (left t) (λ x y. Gives x y b)) → (back ≡ None → ended ≡ true → b ≡ None) → IfSome back (λ c. t ≡ s) → (ended ≡ true → t ≡ s) → IfSome back (λ c. b ≡ Some c)
      → TakesBytes (record { returned = back; given = given; ended = ended; left = left s }) (record { returned = None; given = given_after b given; ended = ended_after b ended; left = left t }) (λ x y. Gives x y b)
  taken (Some c) given ended b gives at_end unread_back unread_end back =
      subst (λ (b : Option ℕ). TakesBytes (record { returned = Some c; given = given; ended = ended; left = left s }) (record { returned = None; given = given_after b given; ended = ended_after b ended; left = left t }) (λ x y. Gives x y b)) (sym back) (given_back c given ended unread_back)
  taken None given true b gives at_end unread_back unread_end back =
      subst (λ (b : Option ℕ). TakesBytes (record { returned = None; given = given; ended = true; left = left s }) (record { returned = None; given = given_after b given; ended = ended_after b true; left = left t }) (λ x y. Gives x y b)) (sym (at_end refl refl)) (ended_before given (unread_end refl))
  taken None given false (Some b) gives at_end unread_back unread_end back = given_first b given (gives refl refl)
  taken None given false None gives at_end unread_back unread_end back = ends_now given (gives refl refl)

  pub input_takes : (old new : Input) (b : Option ℕ)
      → (old.back ≡ None → old.ended ≡ false → WhereTold (left s) (left t) (λ x y. Gives x y b)) → (old.back ≡ None → old.ended ≡ true → b ≡ None) → IfSome old.back (λ c. t ≡ s) → (old.ended ≡ true → t ≡ s) → IfSome old.back (λ c. b ≡ Some c)
      → new ≡ record { back = None; given = given_after b old.given; ended = ended_after b old.ended } → TakesBytes (unread_input old (left s)) (unread_input new (left t)) (λ x y. Gives x y b)
  input_takes old new b gives at_end unread_back unread_end back place =
      subst (λ (i : Input). TakesBytes (unread_input old (left s)) (unread_input i (left t)) (λ x y. Gives x y b)) (sym place) (taken old.back old.given old.ended b gives at_end unread_back unread_end back)

-- the byte that was given last is put back
pub input_returns : (old new : Input) (left : Option (List ℕ)) (b : ℕ) → old.back ≡ None → 1 ≤ old.given → new ≡ record { back = Some b; given = old.given - 1; ended = old.ended } → TakesBytes (unread_input old left) (unread_input new left) (λ before now. now ≡ b ∷ before)
input_returns old new left b none some place =
    subst (λ (i : Input). TakesBytes (unread_input old left) (unread_input i left) (λ before now. now ≡ b ∷ before)) (sym place)
    (subst (λ (back : Option ℕ). TakesBytes (record { returned = back; given = old.given; ended = old.ended; left = left }) (record { returned = Some b; given = old.given - 1; ended = old.ended; left = left }) (λ before now. now ≡ b ∷ before)) (sym none)
    (still _ _ (λ before now. now ≡ b ∷ before) refl refl (omega (arith, some)) (λ rest h. refl)))

-- some byte was given
pub takes_some : (a b : Unread) (o : Option ℕ) → is_some o ≡ true → TakesBytes a b (λ x y. Gives x y o) → TakesBytes a b (λ before now. (c : ℕ) × (before ≡ c ∷ now))
takes_some a b (Some c) e p = takes_mapped a b (λ x y. Gives x y (Some c)) (λ before now. (c : ℕ) × (before ≡ c ∷ now)) (λ x y e. (c, e)) p
takes_some a b None e p = absurd cc
