-- What `)` and the end of what it closes come to.
use Rattle.std.proofs.Common.{◌≡◌, ◌≢◌, ℕ, suc, ◌-◌, Bool, List, ◌∷◌, refl, sym, ap, ap₂, ◌∙◌, subst, arith}
use Rattle.std.specs.Prelude.{Some}
use Rattle.rl_tags.specs.Tagged.{Tagged}
use Rattle.rl_text.specs.Maker.{Has, Wants}
use Rattle.rl_text.specs.Reader.{ReaderFrame, Vectoring, Listing, Gap, Goes, Shut, goes_after, goes_with, left}
use Rattle.rl_text.specs.Reader as reader
use Rattle.rl_world.specs.declared.world.World.{World}
use Rattle.rl_world.specs.declared.stop.Stop.{Stop}
use Rattle.rl_read.specs.Stock.{Stock, PairChain, in_stock, stock_of, first_of_chain, vector_made}
use Rattle.rl_read.specs.Frames.{CanMake, IsGroup, IsMaking, IsReadyToRead, chain_of, phase_of, frames_in, frames_around, frames_kept, vector_in_group}
use Rattle.rl_read.specs.Steps.{inner_ended}
use Rattle.rl_read.specs.declared.frames.Chain.TheVariants as chain
use Rattle.rl_read.specs.declared.frames.Phase.{Phase}
use Rattle.rl_read.specs.declared.frames.Phase.TheVariants as phase
use Rattle.rl_read.specs.declared.frames.Group.{Group}
use Rattle.rl_read.specs.declared.frames.Group.TheVariants as group
use Rattle.rl_read.proofs.MakingStays.{chain_stays, ready_made}
use Rattle.std.proofs.lemmas.Option.{same_Some}
use Rattle.rl_read.proofs.ElementEnds.{around_same, kept_same}
use Rattle.rl_read.proofs.WalkKept.{root_keeps_none}
use Rattle.rl_world.specs.Walks.{kept_above}

-- a list, a vector or a quote has ended, and its level is left
pub bracket_around : (t : Bool) (base : ℕ) (old new : World) (v : Tagged) (g h : Group) → frames_in base new h ≡ frames_around base old g → stock_of new ≡ left (in_stock t) (frames_around base old g) (stock_of old)
    → reader.value_ended (in_stock t) v (frames_around base old g) (left (in_stock t) (frames_around base old g) (stock_of old)) ≡ reader.value_ended (in_stock t) v (frames_in base new h) (stock_of new)
bracket_around t base old new v g h frames stock = ap₂ (λ fs k. reader.value_ended (in_stock t) v fs k) (sym frames) (sym stock)

-- a list of which nothing is owed
pub list_closes : (t : Bool) (p : Phase) → p ≢ phase.Dotted → (c : PairChain) (fs : List (ReaderFrame PairChain)) (k : Stock)
    → reader.close_list (in_stock t) (Listing c 0 (phase_of p) ∷ fs) k ≡ goes_after (reader.value_ended (in_stock t) (first_of_chain c) fs (left (in_stock t) fs k))
list_closes t phase.Begun not c fs k = refl
list_closes t phase.Going not c fs k = refl
list_closes t phase.Dotted not c fs k = absurd (not refl)
list_closes t phase.Shut not c fs k = refl

pub whole_closes : (t : Bool) (base : ℕ) (w : World) (g : Group) (c : chain.the_data) (n : ℕ) (p : Phase) → g ≡ group.List c n p → n ≡ 0 → p ≢ phase.Dotted
    → reader.close_list (in_stock t) (frames_in base w g) (stock_of w) ≡ goes_after (reader.value_ended (in_stock t) (first_of_chain (chain_of c)) (frames_around base w g) (left (in_stock t) (frames_around base w g) (stock_of w)))
whole_closes t base w g c n p is zero_is not =
    let is_list : g ≡ group.List c 0 p = is ∙ ap (λ (n : ℕ). group.List c n p) zero_is in
    subst (λ (h : Group). reader.close_list (in_stock t) (frames_in base w h) (stock_of w) ≡ goes_after (reader.value_ended (in_stock t) (first_of_chain (chain_of c)) (frames_around base w h) (left (in_stock t) (frames_around base w h) (stock_of w)))) (sym is_list) (list_closes t p not (chain_of c) (frames_kept (kept_above base w.levels)) (stock_of w))

-- a list that stands behind a dot
pub inner_closes : (t : Bool) (p : Phase) → p ≢ phase.Dotted → (c l : PairChain) (n : ℕ) (fs : List (ReaderFrame PairChain)) (k made : Stock) → inner_ended p c k ≡ Has l made
    → reader.close_list (in_stock t) (Listing c (suc n) (phase_of p) ∷ fs) k ≡ Goes Gap (Listing l n Shut ∷ fs) made
inner_closes t phase.Begun not c l n fs k made e = ap (λ x. goes_with x (λ l s. Goes Gap (Listing l n Shut ∷ fs) s)) e
inner_closes t phase.Going not c l n fs k made e = ap (λ x. goes_with x (λ l s. Goes Gap (Listing l n Shut ∷ fs) s)) e
inner_closes t phase.Dotted not c l n fs k made e = absurd (not refl)
inner_closes t phase.Shut not c l n fs k made e = ap (λ x. goes_with x (λ l s. Goes Gap (Listing l n Shut ∷ fs) s)) e

pub less_one : (n : ℕ) → n ≢ 0 → n ≡ suc (n - 1)
less_one n not = omega arith

pub rest_closes : (t : Bool) (base : ℕ) (old new : World) (g : Group) (c : chain.the_data) (n : ℕ) (p : Phase) → g ≡ group.List c n p → n ≢ 0 → p ≢ phase.Dotted → IsMaking old new → inner_ended p (chain_of c) (stock_of old) ≡ Has (chain_of c) (stock_of new)
    → reader.close_list (in_stock t) (frames_in base old g) (stock_of old) ≡ Goes Gap (Listing (chain_of c) (n - 1) Shut ∷ frames_kept (kept_above base new.levels)) (stock_of new)
rest_closes t base old new g c n p is some not m ended =
    let fs = frames_kept (kept_above base old.levels) in
    let is_list : g ≡ group.List c (suc (n - 1)) p = is ∙ ap (λ (n : ℕ). group.List c n p) (less_one n some) in
    ap (λ (h : Group). reader.close_list (in_stock t) (frames_in base old h) (stock_of old)) is_list
    ∙ inner_closes t p not (chain_of c) (chain_of c) (n - 1) fs (stock_of old) (stock_of new) ended
    ∙ ap (λ fs. Goes Gap (Listing (chain_of c) (n - 1) Shut ∷ fs) (stock_of new)) (sym (kept_same base old new m))

pub rest_is_ready : (base : ℕ) (old new : World) (g : Group) (c : chain.the_data) (n : ℕ) (p : Phase) → g ≡ group.List c n p → IsReadyToRead base old g → IsMaking old new → CanMake new → IsReadyToRead base new (group.List c (n - 1) phase.Shut)
rest_is_ready base old new g c n p is r m able =
    let list : IsGroup old.cells.cells (group.List c n p) = subst (λ (g : Group). IsGroup old.cells.cells g) is r.group_is in
    ready_made base old new g (group.List c (n - 1) phase.Shut) r m able
    (chain_stays old.cells.cells new.cells.cells c m.live list.0, omega (arith, list.1, m.longer))
    (λ e. absurd cc)

-- nothing but a list is closed
pub no_list_closes : (t : Bool) (base : ℕ) (w : World) (g : Group) → IsReadyToRead base w g → ((c : chain.the_data) (n : ℕ) (p : Phase) → g ≡ group.List c n p → ⊥) → reader.close_list (in_stock t) (frames_in base w g) (stock_of w) ≡ reader.Refuses (stock_of w)
no_list_closes t base w group.Root r not = ap (λ ts. reader.close_list (in_stock t) (frames_kept ts) (stock_of w)) (root_keeps_none base w r)
no_list_closes t base w group.Quote r not = refl
no_list_closes t base w (group.Vector c) r not = refl
no_list_closes t base w (group.List c n p) r not = absurd (not c n p refl)
no_list_closes t base w (group.QuoteBehind c n) r not = refl
no_list_closes t base w (group.VectorBehind v c n) r not = refl

-- ---- vectors

pub vector_frames : (base : ℕ) (w : World) (g : Group) (c : chain.the_data) → vector_in_group g ≡ Some c → frames_in base w g ≡ Vectoring (chain_of c) ∷ frames_around base w g
vector_frames base w (group.Vector d) c is = ap (λ (c : chain.the_data). Vectoring (chain_of c) ∷ frames_around base w (group.Vector d)) (same_Some d c is)
vector_frames base w (group.VectorBehind d l n) c is = ap (λ (c : chain.the_data). Vectoring (chain_of c) ∷ frames_around base w (group.VectorBehind d l n)) (same_Some d c is)
vector_frames base w group.Root c is = cc
vector_frames base w group.Quote c is = cc
vector_frames base w (group.List d n p) c is = cc
vector_frames base w (group.QuoteBehind d n) c is = cc

-- a vector is made of its elements, and has ended
pub vector_closes : (t : Bool) (base : ℕ) (old made : World) (g : Group) (c : chain.the_data) (v : Tagged) → vector_in_group g ≡ Some c → vector_made (chain_of c) (stock_of old) ≡ Has v (stock_of made) → IsMaking old made
    → reader.close_vector (in_stock t) (frames_in base old g) (stock_of old) ≡ goes_after (reader.value_ended (in_stock t) v (frames_around base made g) (left (in_stock t) (frames_around base made g) (stock_of made)))
vector_closes t base old made g c v is e m =
    ap (λ fs. reader.close_vector (in_stock t) fs (stock_of old)) (vector_frames base old g c is)
    ∙ ap (λ x. goes_after (reader.ended_with x (λ v s. reader.value_ended (in_stock t) v (frames_around base old g) (left (in_stock t) (frames_around base old g) s)))) e
    ∙ ap (λ fs. goes_after (reader.value_ended (in_stock t) v fs (left (in_stock t) fs (stock_of made)))) (sym (around_same base old made g m))

pub vector_lacks : (t : Bool) (base : ℕ) (w : World) (g : Group) (c : chain.the_data) (s : Stop) (k : Stock) → vector_in_group g ≡ Some c → vector_made (chain_of c) (stock_of w) ≡ Wants s k → reader.close_vector (in_stock t) (frames_in base w g) (stock_of w) ≡ reader.Halts s k
vector_lacks t base w g c s k is e =
    ap (λ fs. reader.close_vector (in_stock t) fs (stock_of w)) (vector_frames base w g c is)
    ∙ ap (λ x. goes_after (reader.ended_with x (λ v s. reader.value_ended (in_stock t) v (frames_around base w g) (left (in_stock t) (frames_around base w g) s)))) e

-- nothing but a vector is closed by `]`
pub no_vector_closes : (t : Bool) (base : ℕ) (w : World) (g : Group) → IsReadyToRead base w g → ((c : chain.the_data) → g ≡ group.Vector c → ⊥) → ((v c : chain.the_data) (n : ℕ) → g ≡ group.VectorBehind v c n → ⊥) → reader.close_vector (in_stock t) (frames_in base w g) (stock_of w) ≡ reader.Refuses (stock_of w)
no_vector_closes t base w group.Root r v b = ap (λ ts. reader.close_vector (in_stock t) (frames_kept ts) (stock_of w)) (root_keeps_none base w r)
no_vector_closes t base w group.Quote r v b = refl
no_vector_closes t base w (group.Vector c) r v b = absurd (v c refl)
no_vector_closes t base w (group.List c n p) r v b = refl
no_vector_closes t base w (group.QuoteBehind c n) r v b = refl
no_vector_closes t base w (group.VectorBehind d c n) r v b = absurd (b d c n refl)
