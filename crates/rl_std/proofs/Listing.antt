-- New lists, and a last pair that gets another CDR.
use Rattle.std.proofs.Common.{◌≡◌, true, Option, Some, None, Ok, Err, refl, ap, subst, sym, ◌∙◌}
use Rattle.rl_tags.specs.Tagged.{Tagged}
use Rattle.rl_tags.specs.Ids.{nil_id}
use Rattle.rl_tree.specs.Value.{Value, Id, Pair}
use Rattle.rl_cells.specs.Cell.{car_of, cdr_of, is_live, is_pair}
use Rattle.rl_world.specs.declared.stop.Stop as stops
use Rattle.rl_world.specs.declared.world.World.{World}
use Rattle.rl_meaning.specs.Constants.{changing}
use Rattle.rl_meaning.specs.Copying.{with_object}
use Rattle.rl_meaning.specs.Lists.{Chain, cdr_set, joined, list_ended, list_extended, pair_hung}
use Rattle.rl_meaning.specs.Outcome.{Done, Outcome, made_pair, then_do}
use Rattle.rl_meaning.specs.State.{State}
use Rattle.rl_meaning.specs.Symbols.{nil_value_of_state, pair_at}
use Rattle.rl_meaning.specs.Walks.{Further, Goes}
use Rattle.rl_syms.specs.Contents.{value_of}
use Rattle.rl_state.specs.Ending.{EndsShown, MeansValue, StopsWith, stop_in}
use Rattle.rl_state.specs.ShownState.{ShowsState}
use Rattle.rl_state.specs.StepLaws.{ObjectsAreShown, StepsFollow}
use Rattle.rl_state.specs.Worlds.{IsWorld, WorldGrows}
use Rattle.rl_std.specs.Chains.{IsListChain, MeansChain, list_chain_in}
use Rattle.rl_std.proofs.Coming.{ends_then, goes_on, stops_then}
use Rattle.rl_std.proofs.Parting.{cdr_set_is, pair_live, pair_stays}
use Rattle.rl_std.proofs.Visits.{copying, turning_round}

pub nil_is : (w : World) → IsWorld w → value_of w.cells.cells nil_id ≡ nil_value_of_state
nil_is w i = ap Id i.table.first

-- ---- a pair more

-- what the clause of `pair` says
abbrev pub MakesPair : World → Tagged → Tagged → Tagged → World → Type 0
MakesPair w a d v x = (t : State) → ShowsState w t → MeansValue t (made_pair (value_of w.cells.cells a) (value_of w.cells.cells d) t) (Ok v) x

abbrev pub MakesNoPair : World → Tagged → Tagged → stops.Stop → World → Type 0
MakesNoPair w a d why x = (t : State) → ShowsState w t → MeansValue t (made_pair (value_of w.cells.cells a) (value_of w.cells.cells d) t) (Err why) x

pub turned_round : (w x y : World) (e list v : Tagged) (pair : Value) → WorldGrows w x → is_live w.cells.cells e ≡ true → is_live w.cells.cells list ≡ true → MakesPair x e list v y
    → (t : State) → ShowsState x t → EndsShown t (turning_round (value_of w.cells.cells list) pair (value_of w.cells.cells e) t) (λ u. Done (Goes (value_of y.cells.cells v)) u) y
turned_round w x y e list v pair g he hl made t shown =
    subst (λ l. EndsShown t (turning_round l pair (value_of w.cells.cells e) t) (λ u. Done (Goes (value_of y.cells.cells v)) u) y) (g.values list hl)
    (subst (λ z. EndsShown t (turning_round (value_of x.cells.cells list) pair z t) (λ u. Done (Goes (value_of y.cells.cells v)) u) y) (g.values e he)
    (ends_then t _ (λ u. Done (value_of y.cells.cells v) u) (λ a s. Done (Goes a) s) y (made t shown)))

pub stops_turning : (w x y : World) (e list : Tagged) (why : stops.Stop) (pair : Value) → WorldGrows w x → is_live w.cells.cells e ≡ true → is_live w.cells.cells list ≡ true → MakesNoPair x e list why y
    → (t : State) → ShowsState x t → StopsWith t (turning_round (value_of w.cells.cells list) pair (value_of w.cells.cells e) t) (stop_in y.cells.cells why)
stops_turning w x y e list why pair g he hl made t shown =
    subst (λ l. StopsWith t (turning_round l pair (value_of w.cells.cells e) t) (stop_in y.cells.cells why)) (g.values list hl)
    (subst (λ z. StopsWith t (turning_round (value_of x.cells.cells list) pair z t) (stop_in y.cells.cells why)) (g.values e he)
    (stops_then t _ (λ a s. Done (Goes a) s) (stop_in y.cells.cells why) (made t shown)))

-- ---- a pair gets another CDR

-- what the clause of `set_cdr` says
abbrev pub SetsCdr : World → Tagged → Tagged → World → Type 0
SetsCdr w p v x = (s : State) (a d : Value) → ShowsState w s → pair_at s (value_of w.cells.cells p) ≡ Some (a, d) → ShowsState x (with_object (value_of w.cells.cells p) (Pair a (value_of w.cells.cells v)) s)

pub cdr_is_set : (follow : StepsFollow) (objects : ObjectsAreShown) (w x : World) (p v : Tagged) → is_pair w.cells.cells p ≡ true → SetsCdr w p v x
    → (s : State) → ShowsState w s → EndsShown s (Done (tt {0}) (cdr_set (value_of w.cells.cells p) (value_of w.cells.cells v) s)) (λ t. Done (tt {0}) t) x
cdr_is_set follow objects w x p v h sets s shown =
    let l = value_of w.cells.cells p in
    let z = value_of w.cells.cells v in
    let has = objects.pair w p h s shown in
    let a = value_of w.cells.cells (car_of w.cells.cells p) in
    let d = value_of w.cells.cells (cdr_of w.cells.cells p) in
    record {
      state = with_object l (Pair a z) s;
      is = ap (λ t. Done (tt {0}) t) (cdr_set_is s l z a d has);
      good = follow.changed x l (Pair a z) s (sets s a d shown has);
    }

-- whatever is done then
pub cdr_set_then : {A : Type 0} (s t : State) (x : World) (next : State → Outcome A) → EndsShown s (Done (tt {0}) t) (λ u. Done (tt {0}) u) x → EndsShown s (next t) next x
cdr_set_then s t x next h = record { state = h.state; is = ap next (same t h.state h.is); good = h.good }
  where
    same : (t u : State) → Done (tt {0}) t ≡ Done (tt {0}) u → t ≡ u
    same t u e = cc

-- ---- chains

pub chain_same : (w x : World) (chain : Option (Tagged × Tagged)) → WorldGrows w x → IsListChain w.cells.cells chain → list_chain_in x.cells.cells chain ≡ list_chain_in w.cells.cells chain
chain_same w x None g h = refl
chain_same w x (Some c) g h =
    let both = h c refl in
    ap (λ f. Some (f, value_of x.cells.cells c.1)) (g.values c.0 (pair_live w.cells.cells c.0 both.0)) ∙ ap (λ l. Some (value_of w.cells.cells c.0, l)) (g.values c.1 (pair_live w.cells.cells c.1 both.1))

pub chain_stays : (w x : World) (chain : Option (Tagged × Tagged)) → WorldGrows w x → IsListChain w.cells.cells chain → IsListChain x.cells.cells chain
chain_stays w x chain g h = λ c e. (pair_stays w.cells.cells x.cells.cells c.0 g.live (h c e).0, pair_stays w.cells.cells x.cells.cells c.1 g.live (h c e).1)

pub one_chain : (w : World) (f l : Tagged) → is_pair w.cells.cells f ≡ true → is_pair w.cells.cells l ≡ true → IsListChain w.cells.cells (Some (f, l))
one_chain w f l hf hl = λ c e. go c e
  where
    first : (p q : Tagged × Tagged) → Some p ≡ Some q → p ≡ q
    first p q e = cc

    go : (c : Tagged × Tagged) → Some (f, l) ≡ Some c → (is_pair w.cells.cells c.0 ≡ true) × (is_pair w.cells.cells c.1 ≡ true)
    go c e = subst (λ (c : Tagged × Tagged). (is_pair w.cells.cells c.0 ≡ true) × (is_pair w.cells.cells c.1 ≡ true)) (first (f, l) c e) (hf, hl)

-- what a list that is not whole yet comes to, where its last pair gets this one as CDR
pub chain_hangs : (follow : StepsFollow) (objects : ObjectsAreShown) (w x y : World) (c : Tagged × Tagged) (e p : Tagged) → IsWorld w → WorldGrows w x → WorldGrows x y → IsListChain w.cells.cells (Some c) → is_live x.cells.cells p ≡ true → MakesPair w e nil_id p x → SetsCdr x c.1 p y
    → (s : State) → ShowsState w s → MeansChain s (list_extended (list_chain_in w.cells.cells (Some c)) (value_of w.cells.cells e) s) (Ok (Some (c.0, p))) y
chain_hangs follow objects w x y c e p i g h chain live made sets s shown =
    let f = value_of w.cells.cells c.0 in
    let l = value_of w.cells.cells c.1 in
    let both = chain c refl in
    let f_live = pair_live w.cells.cells c.0 both.0 in
    let l_live = pair_live w.cells.cells c.1 both.1 in
    let v = value_of x.cells.cells p in
    let hung : Value → State → Outcome Chain = λ p t. Done (Some (f, p)) (cdr_set l p t) in
    let first = ends_then s _ (λ t. Done v t) hung x (made s shown) in
    let nil = ap (λ n. then_do (made_pair (value_of w.cells.cells e) n s) hung) (nil_is w i) in
    subst (λ o. EndsShown s o (λ t. Done (list_chain_in y.cells.cells (Some (c.0, p))) t) y) nil
    (goes_on follow s _ (hung v) (λ t. Done (list_chain_in y.cells.cells (Some (c.0, p))) t) x y first (λ t shown_x.
    let set = cdr_is_set follow objects x y c.1 p (pair_stays w.cells.cells x.cells.cells c.1 g.live both.1) sets t shown_x in
    let last = cdr_set_then t _ y (λ u. Done (Some (f, v)) u) set in
    subst (λ z. EndsShown t (Done (Some (f, v)) (cdr_set z v t)) (λ t. Done (list_chain_in y.cells.cells (Some (c.0, p))) t) y) (g.values c.1 l_live)
    (subst (λ z. EndsShown t (Done (Some (f, v)) (cdr_set (value_of x.cells.cells c.1) v t)) (λ t. Done z t) y)
    (ap (λ z. Some (f, z)) (sym (h.values p live)) ∙ ap (λ z. Some (z, value_of y.cells.cells p)) (sym (h.values c.0 (g.live c.0 f_live) ∙ g.values c.0 f_live)))
    last)))

pub chain_begins : (w x : World) (e p : Tagged) → IsWorld w → MakesPair w e nil_id p x → (s : State) → ShowsState w s → MeansChain s (list_extended None (value_of w.cells.cells e) s) (Ok (Some (p, p))) x
chain_begins w x e p i made s shown =
    let hung : Value → State → Outcome Chain = λ p t. Done (Some (p, p)) t in
    subst (λ n. EndsShown s (then_do (made_pair (value_of w.cells.cells e) n s) hung) (λ t. Done (list_chain_in x.cells.cells (Some (p, p))) t) x) (nil_is w i)
    (ends_then s _ (λ t. Done (value_of x.cells.cells p) t) hung x (made s shown))

pub chain_stops : (w x : World) (chain : Chain) (e : Tagged) (why : stops.Stop) → IsWorld w → MakesNoPair w e nil_id why x → (s : State) → ShowsState w s → StopsWith s (list_extended chain (value_of w.cells.cells e) s) (stop_in x.cells.cells why)
chain_stops w x chain e why i made s shown =
    let hung : Value → State → Outcome Chain = λ p s. let h = pair_hung chain p s in Done h.0 h.1 in
    subst (λ n. StopsWith s (then_do (made_pair (value_of w.cells.cells e) n s) hung) (stop_in x.cells.cells why)) (nil_is w i) (stops_then s _ hung (stop_in x.cells.cells why) (made s shown))

-- the list is whole
pub chain_ends : (follow : StepsFollow) (objects : ObjectsAreShown) (w x : World) (c : Tagged × Tagged) (v : Tagged) → WorldGrows w x → IsListChain w.cells.cells (Some c) → SetsCdr w c.1 v x
    → (s : State) → ShowsState w s → EndsShown s (list_ended (list_chain_in w.cells.cells (Some c)) (value_of w.cells.cells v) s) (λ t. Done (value_of x.cells.cells c.0) t) x
chain_ends follow objects w x c v g chain sets s shown =
    let both = chain c refl in
    let f = value_of w.cells.cells c.0 in
    subst (λ z. EndsShown s (Done f (cdr_set (value_of w.cells.cells c.1) (value_of w.cells.cells v) s)) (λ t. Done z t) x) (sym (g.values c.0 (pair_live w.cells.cells c.0 both.0)))
    (cdr_set_then s _ x (λ u. Done f u) (cdr_is_set follow objects w x c.1 v both.1 sets s shown))

-- ---- APPEND's visit

pub copies : (w x y : World) (chain longer : Option (Tagged × Tagged)) (e : Tagged) (pair : Value) → WorldGrows w x → IsListChain w.cells.cells chain → is_live w.cells.cells e ≡ true
    → ((t : State) → ShowsState x t → MeansChain t (list_extended (list_chain_in x.cells.cells chain) (value_of x.cells.cells e) t) (Ok longer) y)
    → (t : State) → ShowsState x t → EndsShown t (copying (list_chain_in w.cells.cells chain) pair (value_of w.cells.cells e) t) (λ u. Done (Goes (list_chain_in y.cells.cells longer)) u) y
copies w x y chain longer e pair g hc he made t shown =
    subst (λ l. EndsShown t (copying l pair (value_of w.cells.cells e) t) (λ u. Done (Goes (list_chain_in y.cells.cells longer)) u) y) (chain_same w x chain g hc)
    (subst (λ z. EndsShown t (copying (list_chain_in x.cells.cells chain) pair z t) (λ u. Done (Goes (list_chain_in y.cells.cells longer)) u) y) (g.values e he)
    (ends_then t _ (λ u. Done (list_chain_in y.cells.cells longer) u) (λ a s. Done (Goes a) s) y (made t shown)))

pub stops_copying : (w x y : World) (chain : Option (Tagged × Tagged)) (e : Tagged) (why : stops.Stop) (pair : Value) → WorldGrows w x → IsListChain w.cells.cells chain → is_live w.cells.cells e ≡ true
    → ((t : State) → ShowsState x t → MeansChain t (list_extended (list_chain_in x.cells.cells chain) (value_of x.cells.cells e) t) (Err why) y)
    → (t : State) → ShowsState x t → StopsWith t (copying (list_chain_in w.cells.cells chain) pair (value_of w.cells.cells e) t) (stop_in y.cells.cells why)
stops_copying w x y chain e why pair g hc he made t shown =
    subst (λ l. StopsWith t (copying l pair (value_of w.cells.cells e) t) (stop_in y.cells.cells why)) (chain_same w x chain g hc)
    (subst (λ z. StopsWith t (copying (list_chain_in x.cells.cells chain) pair z t) (stop_in y.cells.cells why)) (g.values e he)
    (stops_then t _ (λ a s. Done (Goes a) s) (stop_in y.cells.cells why) (made t shown)))

-- ---- NCONC's end

pub joins : (follow : StepsFollow) (objects : ObjectsAreShown) (w x : World) (p z : Tagged) (u v : Value) (r : Tagged) → is_pair w.cells.cells p ≡ true → u ≡ value_of x.cells.cells r → v ≡ value_of w.cells.cells z → SetsCdr w p z x
    → (s : State) → ShowsState w s → EndsShown s (joined u (Some (value_of w.cells.cells p)) v s) (λ t. Done (value_of x.cells.cells r) t) x
joins follow objects w x p z u v r h ru vz sets s shown =
    let l = value_of w.cells.cells p in
    let has = objects.pair w p h s shown in
    let a = value_of w.cells.cells (car_of w.cells.cells p) in
    let d = value_of w.cells.cells (cdr_of w.cells.cells p) in
    let t = with_object l (Pair a (value_of w.cells.cells z)) s in
    record {
      state = changing l t;
      is = ap (λ y. Done u (changing l (cdr_set l y s))) vz ∙ ap (λ t. Done u (changing l t)) (cdr_set_is s l (value_of w.cells.cells z) a d has) ∙ ap (λ y. Done y (changing l t)) ru;
      good = follow.changing x l (Pair a (value_of w.cells.cells z)) s (sets s a d shown has);
    }
