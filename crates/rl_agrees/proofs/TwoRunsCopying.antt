-- Fresh copies of forms, of two runs side by side.
use Rattle.std.proofs.Common.{Bool, true, false, List}
use Rattle.rl_tree.specs.Value.{Value}
use Rattle.rl_meaning.specs.State.{State, Tree}
use Rattle.rl_meaning.specs.Outcome.{Outcome, Levels}
use Rattle.rl_meaning.specs.Symbols.{nil_value_of_state, nil_number}
use Rattle.rl_meaning.specs.Holding.{function_number}
use Rattle.rl_meaning.specs.Copying.{copied_parts, copied_pair, copied_at, copied}
use Rattle.rl_meaning.specs.TwoRunsValues.{Names, Grows, SameValue, same_id, same_pair, SameTree, same_atom, same_quoted, same_node, same_literal}
use Rattle.rl_meaning.specs.TwoRunsStates.{Bounds, EntryPlace, Like, Roomier}
use Rattle.rl_agrees.proofs.TwoRunsGrowth.{grows_refl, grows_trans, value_grows}
use Rattle.rl_agrees.proofs.TwoRunsWays.{Beside, then_value, done_now, pair_turn_related}
use Rattle.rl_agrees.proofs.TwoRunsObjects.{made_pair_related, with_object_like}

-- what goes on side by side, from these names on
abbrev Acts : Bounds → Names → List EntryPlace → (State → Outcome Value) → (State → Outcome Value) → Type 0
Acts bounds n ps f g = (m : Names) (s t : State) → Grows n m → Like bounds m ps s t → Beside bounds SameValue m ps (f s) (g t)

abbrev ActsAt : Bounds → Names → List EntryPlace → (Levels → State → Outcome Value) → (Levels → State → Outcome Value) → Type 0
ActsAt bounds n ps f g = (l m : Levels) → Roomier bounds l m → Acts bounds n ps (λ s. f l s) (λ s. g m s)

module _ {bounds : Bounds} where
  copied_parts_related : (n : Names) (ps : List EntryPlace) (f f' g g' : State → Outcome Value) → Acts bounds n ps f f' → Acts bounds n ps g g' → (m : Names) (p q : Value) (s t : State) → Grows n m → SameValue m p q → Like bounds m ps s t → Beside bounds SameValue m ps (copied_parts p f g s) (copied_parts q f' g' t)
  copied_parts_related n ps f f' g g' h k m p q s t w i z =
      then_value m ps _ _ _ _ (h m s t w z) (λ m' a b s t x j z.
      then_value m' ps _ _ _ _ (k m' _ _ (grows_trans n m m' w x) (with_object_like m' ps p q _ _ s t z (value_grows m m' p q i x) (same_pair a nil_value_of_state b nil_value_of_state j (same_id nil_number)))) (λ m'' d e s t y o z.
      done_now m'' ps p q _ _ (value_grows m m'' p q i (grows_trans m m' m'' x y)) (with_object_like m'' ps p q _ _ s t z (value_grows m m'' p q i (grows_trans m m' m'' x y)) (same_pair a d b e (value_grows m' m'' a b j y) o))))

  copied_pair_related : (n : Names) (ps : List EntryPlace) (b : Bool) (l m : Levels) → Roomier bounds l m → (f f' g g' : Levels → State → Outcome Value) → ActsAt bounds n ps f f' → ActsAt bounds n ps g g' → Acts bounds n ps (λ s. copied_pair b l f g s) (λ s. copied_pair b m f' g' s)
  copied_pair_related n ps b l m r f f' g g' h k n' s t w z =
      pair_turn_related n' ps b l m s t _ _ r z (λ l m s t r z.
      then_value n' ps _ _ _ _ (made_pair_related n' ps nil_value_of_state nil_value_of_state nil_value_of_state nil_value_of_state s t z (same_id nil_number) (same_id nil_number)) (λ n'' p q s t x i z.
      copied_parts_related n ps (λ s. f l s) (λ s. f' m s) (λ s. g l s) (λ s. g' m s) (h l m r) (k l m r) n'' p q s t (grows_trans n n' n'' w x) i z))

  copied_at_related : (n : Names) (ps : List EntryPlace) (x y : Tree) → SameTree n x y → (b : Bool) (l m : Levels) → Roomier bounds l m → Acts bounds n ps (λ s. copied_at b l x s) (λ s. copied_at b m y s)
  copied_at_related n ps _ _ (same_atom v w h) b l m r n' s t g z = done_now n' ps v w s t (value_grows n n' v w h g) z
  copied_at_related n ps _ _ (same_quoted v w h) b l m r n' s t g z = done_now n' ps v w s t (value_grows n n' v w h g) z
  copied_at_related n ps _ _ (same_node x c y d h k) b l m r n' s t g z =
      copied_pair_related n ps b l m r (λ l s. copied_at true l x s) (λ l s. copied_at true l y s) (λ l s. copied_at false l c s) (λ l s. copied_at false l d s) (λ l m r. copied_at_related n ps x y h true l m r) (λ l m r. copied_at_related n ps c d k false l m r) n' s t g z
  copied_at_related n ps _ _ (same_literal i x y h) b l m r n' s t g z =
      copied_pair_related n ps b l m r _ _ _ _ (λ l m r n' s t g z. done_now n' ps _ _ s t (same_id function_number) z)
      (λ l m r. copied_pair_related n ps false l m r (λ l s. copied_at true l x s) (λ l s. copied_at true l y s) _ _ (λ l m r. copied_at_related n ps x y h true l m r) (λ l m r n' s t g z. done_now n' ps _ _ s t (same_id nil_number) z)) n' s t g z

  pub copied_related : (n : Names) (ps : List EntryPlace) (l m : Levels) (a b : Tree) (s t : State) → Roomier bounds l m → SameTree n a b → Like bounds n ps s t → Beside bounds SameValue n ps (copied l a s) (copied m b t)
  copied_related n ps l m a b s t r h e = copied_at_related n ps a b h false l m r n s t (grows_refl n) e
