-- What the end of an element comes to, by what was made for it and what is around it.
use Rattle.std.proofs.Common.{◌≡◌, ◌≢◌, ℕ, Bool, List, [], ◌∷◌, true, false, refl, sym, ap, ap₂, ◌∙◌, subst}
use Rattle.std.specs.Prelude.{Result, Ok, Err, IfOk}
use Rattle.rl_tags.specs.Tagged.{Tagged}
use Rattle.rl_text.specs.Maker.{Has}
use Rattle.rl_text.specs.Reader.{ReaderFrame, Listing, Vectoring, Quoting, Going, Shut, left, ended_with}
use Rattle.rl_text.specs.Reader as reader
use Rattle.rl_text.specs.Word as word
use Rattle.rl_world.specs.declared.world.World.{World}
use Rattle.rl_read.specs.Stock.{Stock, PairChain, in_stock, stock_of, quote_made, chain_extended, atom_made}
use Rattle.rl_read.specs.Frames.{IsChain, IsGroup, IsMaking, IsReading, IsReadyToRead, chain_of, phase_of, frames_in, frames_around, frames_kept, is_quote_group, owes}
use Rattle.rl_text.specs.Byte as byte
use Rattle.rl_read.specs.Steps.{may_end}
use Rattle.rl_read.specs.declared.word.Mode.{Mode}
use Rattle.rl_read.specs.declared.word.Mode.TheVariants as mode
use Rattle.rl_read.specs.declared.frames.Chain as declared
use Rattle.rl_read.specs.declared.frames.Phase.{Phase}
use Rattle.rl_read.specs.declared.frames.Phase.TheVariants as phase
use Rattle.rl_read.specs.declared.frames.Group.{Group}
use Rattle.rl_read.specs.declared.frames.Group.TheVariants as group
use Rattle.rl_read.proofs.MakingStays.{making_levels}
use Rattle.rl_read.proofs.WalkKept.{root_frames as alone}
use Rattle.rl_world.specs.Walks.{kept_above}

-- ---- answers

pub ok_mapped : {A E : Type 0} (r : Result A E) (P Q : A → Type 0) → ((a : A) → P a → Q a) → IfOk r P → IfOk r Q
ok_mapped (Ok a) P Q f h = f a h
ok_mapped (Err e) P Q f h = tt

-- ---- what is around stays as objects are made

pub kept_same : (base : ℕ) (old new : World) → IsMaking old new → frames_kept (kept_above base new.levels) ≡ frames_kept (kept_above base old.levels)
kept_same base old new m = ap (λ l. frames_kept (kept_above base l)) (making_levels old new m)

pub frames_same : (base : ℕ) (old new : World) (g : Group) → IsMaking old new → frames_in base new g ≡ frames_in base old g
frames_same base old new g m = ap (λ fs. Rattle.rl_read.specs.Frames.frames_of g fs) (kept_same base old new m)

pub around_same : (base : ℕ) (old new : World) (g : Group) → IsMaking old new → frames_around base new g ≡ frames_around base old g
around_same base old new g m = ap (λ fs. Rattle.rl_read.specs.Frames.behind_it g fs) (kept_same base old new m)

-- ---- an element of a list

-- an element of a list hangs a pair, where nothing stands behind its dot
pub list_element : (p : Phase) → p ≢ phase.Dotted → (t : Bool) (v : Tagged) (c : PairChain) (n : ℕ) (fs : List (ReaderFrame PairChain)) (k : Stock)
    → reader.value_ended (in_stock t) v (Listing c n (phase_of p) ∷ fs) k ≡ ended_with (chain_extended c v k) (λ l s. reader.Inside (Listing l n Going ∷ fs) s)
list_element phase.Begun not t v c n fs k = refl
list_element phase.Going not t v c n fs k = refl
list_element phase.Dotted not t v c n fs k = absurd (not refl)
list_element phase.Shut not t v c n fs k = refl

-- ---- a quoted element

pub quote_frames : (base : ℕ) (w : World) (g : Group) → is_quote_group g ≡ true → frames_in base w g ≡ Quoting ∷ frames_around base w g
quote_frames base w group.Quote e = refl
quote_frames base w (group.QuoteBehind c owed) e = refl
quote_frames base w group.Root e = cc
quote_frames base w (group.Vector c) e = cc
quote_frames base w (group.List c owed p) e = cc
quote_frames base w (group.VectorBehind v c owed) e = cc

-- a quoted element is made a quote, which is an element of what is around
pub quote_ends : (t : Bool) (base : ℕ) (w : World) (v : Tagged) (g : Group) → is_quote_group g ≡ true
    → reader.value_ended (in_stock t) v (frames_in base w g) (stock_of w) ≡ ended_with (quote_made v (stock_of w)) (λ q k. reader.value_ended (in_stock t) q (frames_around base w g) (left (in_stock t) (frames_around base w g) k))
quote_ends t base w v g is = ap (λ fs. reader.value_ended (in_stock t) v fs (stock_of w)) (quote_frames base w g is)

pub quote_goes : (t : Bool) (base : ℕ) (old made new : World) (v q : Tagged) (g h : Group) → is_quote_group g ≡ true → quote_made v (stock_of old) ≡ Has q (stock_of made) → IsMaking old made
    → frames_in base new h ≡ frames_around base made g → stock_of new ≡ left (in_stock t) (frames_around base made g) (stock_of made)
    → reader.value_ended (in_stock t) v (frames_in base old g) (stock_of old) ≡ reader.value_ended (in_stock t) q (frames_in base new h) (stock_of new)
quote_goes t base old made new v q g h is made_is m frames stock =
    let around = around_same base old made g m in
    quote_ends t base old v g is
    ∙ ap (λ x. ended_with x (λ q s. reader.value_ended (in_stock t) q (frames_around base old g) (left (in_stock t) (frames_around base old g) s))) made_is
    ∙ ap (λ fs. reader.value_ended (in_stock t) q fs (left (in_stock t) fs (stock_of made))) (sym around)
    ∙ ap₂ (λ fs k. reader.value_ended (in_stock t) q fs k) (sym frames) (sym stock)

-- a quote is not the root
pub quote_is_inside : (g : Group) → is_quote_group g ≡ true → g ≢ group.Root
quote_is_inside g is e = let same : is_quote_group group.Root ≡ true = subst (λ (g : Group). is_quote_group g ≡ true) e is in cc

-- where nothing of these has begun, nothing has
pub root_frames : (base : ℕ) (w : World) (g : Group) → IsReadyToRead base w g → is_quote_group g ≡ false → ((c : Rattle.rl_read.specs.declared.frames.Chain.TheVariants.the_data) → g ≡ group.Vector c → ⊥) → ((c : Rattle.rl_read.specs.declared.frames.Chain.TheVariants.the_data) (n : ℕ) (p : Phase) → g ≡ group.List c n p → ⊥) → ((v c : Rattle.rl_read.specs.declared.frames.Chain.TheVariants.the_data) (n : ℕ) → g ≡ group.VectorBehind v c n → ⊥) → g ≡ group.Root
root_frames base w group.Root r is v l b = refl
root_frames base w group.Quote r is v l b = cc
root_frames base w (group.Vector c) r is v l b = absurd (v c refl)
root_frames base w (group.List c n p) r is v l b = absurd (l c n p refl)
root_frames base w (group.QuoteBehind c n) r is v l b = cc
root_frames base w (group.VectorBehind v c n) r is w' l b = absurd (b v c n refl)

pub root_ended : (t : Bool) (base : ℕ) (w : World) (v : Tagged) (g : Group) → IsReadyToRead base w g → g ≡ group.Root → reader.value_ended (in_stock t) v (frames_in base w g) (stock_of w) ≡ reader.Whole v (stock_of w)
root_ended t base w v g r root = ap (λ fs. reader.value_ended (in_stock t) v fs (stock_of w)) (alone base w g r root)

pub group_in_place : (base : ℕ) (w : World) (g h : Group) → IsReadyToRead base w g → g ≡ h → IsGroup w.cells.cells h
group_in_place base w g h r e = subst (λ (g : Group). IsGroup w.cells.cells g) e r.group_is

-- ---- an atom

pub atom_goes : (t : Bool) (base : ℕ) (old made : World) (a : word.Atom) (v : Tagged) (g : Group) → atom_made a (stock_of old) ≡ Has v (stock_of made) → IsMaking old made
    → reader.atom_ended (in_stock t) a (frames_in base old g) (stock_of old) ≡ reader.value_ended (in_stock t) v (frames_in base made g) (stock_of made)
atom_goes t base old made a v g e m =
    ap (λ x. ended_with x (λ v s. reader.value_ended (in_stock t) v (frames_in base old g) s)) e
    ∙ ap (λ fs. reader.value_ended (in_stock t) v fs (stock_of made)) (sym (frames_same base old made g m))

-- ---- steps

-- one special is an identifier, where a spelling may stand
pub special_taken : (t : Bool) (b : ℕ) (fs : List (ReaderFrame PairChain)) (k : Stock) → reader.admits fs ≡ true → reader.at_class (in_stock t) byte.Special b fs k ≡ reader.goes_after (reader.atom_ended (in_stock t) (word.Identifier (b ∷ [])) fs k)
special_taken t b fs k h = rw h refl

-- ---- words that end

pub quote_mode : (m : Mode) → may_end m ≡ true → m ≢ mode.Name → ((c : ℕ) → m ≡ mode.Sign c → ⊥) → ((minus : Bool) (n : ℕ) → m ≡ mode.Number minus n → ⊥) → m ≡ mode.Quote
quote_mode mode.Gap e name sign number = cc
quote_mode mode.Comment e name sign number = cc
quote_mode mode.Name e name sign number = absurd (name refl)
quote_mode mode.Escape e name sign number = cc
quote_mode (mode.Sign c) e name sign number = absurd (sign c refl)
quote_mode (mode.Number minus n) e name sign number = absurd (number minus n refl)
quote_mode mode.Text e name sign number = cc
quote_mode mode.Quote e name sign number = refl

-- the same atom ends the same
pub atoms_same : (t : Bool) (base : ℕ) (w : World) (g : Group) (a b : word.Atom) → a ≡ b → reader.atom_ended (in_stock t) a (frames_in base w g) (stock_of w) ≡ reader.atom_ended (in_stock t) b (frames_in base w g) (stock_of w)
atoms_same t base w g a b e = ap (λ a. reader.atom_ended (in_stock t) a (frames_in base w g) (stock_of w)) e
