-- The identifier that has a name: what the definition finds by it is what the names of a world have.
use Rattle.std.proofs.Common.{◌≡◌, ℕ, zero, suc, ◌+◌, ◌<◌, Bool, true, false, ◌&&◌, ◌||◌, ◌==◌, List, [], ◌∷◌, length, get_or, Option, Some, None, Ok, refl, sym, ap, subst, ◌∙◌, arith, inl, inr}
use Rattle.std.specs.Prelude.{if◌then◌else◌}
use Rattle.std.specs.Str.{bytes_eq}
use Rattle.std.proofs.lemmas.Slice.Eq.{bytes_eq-Decides}
use Rattle.std.proofs.lemmas.Bool.{and_parts, eqb-true, eq-eqb}
use Rattle.rl_tags.specs.Tagged.{Tagged, index_of}
use Rattle.rl_tree.specs.Value.{Id}
use Rattle.rl_tree.specs.Name.{Name}
use Rattle.rl_cells.specs.Cell.{Cell, cell_at, is_id_cell}
use Rattle.rl_syms.specs.Contents.{ids_before, value_of}
use Rattle.rl_syms.specs.Numbers.{IdentifiersAreNumbered}
use Rattle.rl_syms.specs.Table.{Among, IsFree, IsNamed, IsTable, ids_from, name_in_cells}
use Rattle.rl_syms.specs.Laws.{AreIdentifiers}
use Rattle.rl_world.specs.declared.world.World.{World}
use Rattle.rl_meaning.specs.State.{State, Symbol}
use Rattle.rl_meaning.specs.Outcome.{Done}
use Rattle.rl_meaning.specs.Symbols.{interned, interned_at, named_from, new_symbol, symbol_at}
use Rattle.rl_state.specs.ShownState.{ShowsState, is_listed, number_in, symbol_meant}
use Rattle.rl_state.specs.Ending.{MeansValue}
use Rattle.rl_state.proofs.Kept.{id_cell}

-- ---- lists of symbols

abbrev matches : Name → Symbol → Bool
matches name y = y.interned && bytes_eq y.name name

named_first : (k : ℕ) (name : Name) (ys : List Symbol) (i : ℕ) (d : Symbol) → i < length ys → matches name (get_or ys i d) ≡ true → ((j : ℕ) → j < i → matches name (get_or ys j d) ≡ false) → named_from k name ys ≡ Some (k + i)
named_first k name [] i d l h no_other = absurd (omega arith)
named_first k name (y ∷ ys) zero d l h no_other = let z : k ≡ k + 0 = omega arith in ap (λ b. if b then Some k else named_from (suc k) name ys) h ∙ ap Some z
named_first k name (y ∷ ys) (suc i) d l h no_other =
    let z : suc k + i ≡ k + suc i = omega arith in
    ap (λ b. if b then Some k else named_from (suc k) name ys) (no_other 0 (omega arith)) ∙ named_first (suc k) name ys i d (omega arith) h (λ j m. no_other (suc j) (omega arith)) ∙ ap Some z

named_nowhere : (k : ℕ) (name : Name) (ys : List Symbol) (d : Symbol) → ((j : ℕ) → j < length ys → matches name (get_or ys j d) ≡ false) → named_from k name ys ≡ None
named_nowhere k name [] d no_other = refl
named_nowhere k name (y ∷ ys) d no_other =
    ap (λ b. if b then Some k else named_from (suc k) name ys) (no_other 0 (omega arith)) ∙ named_nowhere (suc k) name ys d (λ j m. no_other (suc j) (omega arith))

-- ---- the chain

or_left : (a b : Bool) → a ≡ true → (a || b) ≡ true
or_left a b h = rw h refl

or_right : (a b : Bool) → b ≡ true → (a || b) ≡ true
or_right true b h = refl
or_right false b h = h

pub among_listed : (k : ℕ) (xs : List ℕ) → Among k xs → is_listed k xs ≡ true
among_listed k [] h = absurd h
among_listed k (x ∷ xs) h = elim h [
  | inl e ↦ or_left (k == x) (is_listed k xs) (eq-eqb k x e)
  | inr r ↦ or_right (k == x) (is_listed k xs) (among_listed k xs r)
]

pub listed_among : (k : ℕ) (xs : List ℕ) → is_listed k xs ≡ true → Among k xs
listed_among k [] h = absurd (cc)
listed_among k (x ∷ xs) h = go (k == x) refl h (λ r. listed_among k xs r)
  where
    go : (b : Bool) → (k == x) ≡ b → (b || is_listed k xs) ≡ true → (is_listed k xs ≡ true → Among k xs) → Among k (x ∷ xs)
    go true e h later = inl (eqb-true k x e)
    go false e h later = inr (later h)

-- ---- in a world

-- the definition's test of the identifier at a place
matches_at : (w : World) (name : Name) (k : ℕ) → is_id_cell (cell_at w.cells.cells k) ≡ true → (s : State) → ShowsState w s
    → matches name (symbol_at s (ids_before w.cells.cells k)) ≡ (is_listed k (ids_from w.cells.cells w.syms.head) && bytes_eq (name_in_cells w.cells.cells k) name)
unfolding symbol_meant
matches_at w name k h s shown = ap (matches name) (shown.symbols.symbols k h)

both_true : (a b : Bool) → a ≡ true → b ≡ true → (a && b) ≡ true
both_true a b h k = rw (h, k) refl

named_here : (w : World) (name : Name) (k : ℕ) → is_id_cell (cell_at w.cells.cells k) ≡ true → Among k (ids_from w.cells.cells w.syms.head) → name_in_cells w.cells.cells k ≡ name
    → (s : State) → ShowsState w s → matches name (symbol_at s (ids_before w.cells.cells k)) ≡ true
named_here w name k h a e s shown =
    matches_at w name k h s shown ∙ both_true _ _ (among_listed k _ a) ((bytes_eq-Decides (name_in_cells w.cells.cells k) name).1 e)

pub false_unless : (b : Bool) → (b ≡ true → ⊥) → b ≡ false
false_unless true n = absurd (n refl)
false_unless false n = refl

-- a number whose symbol passes is that of an interned identifier of this name
pub record HasThisName (w : World) (name : Name) (i : ℕ) : Type 0 where
  pub place : ℕ
  pub is_id : is_id_cell (cell_at w.cells.cells place) ≡ true
  pub number : ids_before w.cells.cells place ≡ i
  pub among : Among place (ids_from w.cells.cells w.syms.head)
  pub named : name_in_cells w.cells.cells place ≡ name

has_this_name : (law : IdentifiersAreNumbered) (w : World) (name : Name) (i : ℕ) (s : State) → ShowsState w s → i < length s.symbols → matches name (symbol_at s i) ≡ true → HasThisName w name i
has_this_name law w name i s shown l h =
    let e = law.each w.cells.cells i (subst (λ n. i < n) shown.symbols.many l) in
    let k = e.0 in
    let at : matches name (symbol_at s (ids_before w.cells.cells k)) ≡ true = ap (λ n. matches name (symbol_at s n)) e.2 ∙ h in
    let both = and_parts (is_listed k (ids_from w.cells.cells w.syms.head)) (bytes_eq (name_in_cells w.cells.cells k) name) (sym (matches_at w name k e.1 s shown) ∙ at) in
    record { place = k; is_id = e.1; number = e.2; among = listed_among k _ both.0; named = (bytes_eq-Decides (name_in_cells w.cells.cells k) name).0 both.1 }

pub found_name : (law : IdentifiersAreNumbered) (ids : AreIdentifiers) (w : World) (name : Name) (id : Tagged) → IsTable w.cells.cells w.syms.head → IsNamed w.cells.cells w.syms.head name id
    → (s : State) → ShowsState w s → named_from 0 name s.symbols ≡ Some (number_in w.cells.cells id)
found_name law ids w name id t named s shown =
    let cells = w.cells.cells in
    let k = index_of id in
    let is = id_cell cells id (ids cells w.syms.head name id t named) in
    let within : ids_before cells k < length s.symbols = subst (λ n. ids_before cells k < n) (sym shown.symbols.many) (law.within cells k is) in
    let z : 0 + ids_before cells k ≡ ids_before cells k = omega arith in
    named_first 0 name s.symbols (ids_before cells k) (new_symbol [] false) within (named_here w name k is named.interned.1 named.name_is s shown)
    (λ j l. false_unless (matches name (symbol_at s j)) (λ h.
    let other = has_this_name law w name j s shown (omega (arith, within)) h in
    let same : other.place ≡ k = t.chained.distinct other.place k other.among named.interned.1 (other.named ∙ sym named.name_is) in
    let number : j ≡ ids_before cells k = sym other.number ∙ ap (ids_before cells) same in
    absurd (omega (arith, number))))
    ∙ ap Some z

pub free_name : (law : IdentifiersAreNumbered) (w : World) (name : Name) → IsFree w.cells.cells w.syms.head name → (s : State) → ShowsState w s → named_from 0 name s.symbols ≡ None
free_name law w name free s shown =
    named_nowhere 0 name s.symbols (new_symbol [] false) (λ j l. false_unless (matches name (symbol_at s j)) (λ h.
    let other = has_this_name law w name j s shown l h in free.other other.place other.among other.named))

-- what an interned identifier means
pub named_means : (cells : List Cell) (head : Option Tagged) (name : Name) (id : Tagged) → IsNamed cells head name id → value_of cells id ≡ Id (number_in cells id)
named_means cells head name id named = ap (value_of cells) named.interned.0

pub found_means : (law : IdentifiersAreNumbered) (ids : AreIdentifiers) (w : World) (name : Name) (id : Tagged) → IsTable w.cells.cells w.syms.head → IsNamed w.cells.cells w.syms.head name id
    → (s : State) → ShowsState w s → MeansValue s (interned name s) (Ok id) w
found_means law ids w name id t named s shown = record {
  state = s;
  is = ap (λ o. interned_at o name s) (found_name law ids w name id t named s shown) ∙ ap (λ v. Done v s) (sym (named_means w.cells.cells w.syms.head name id named));
  good = record {
    shows = shown;
    stays = record { functions = record { functions = refl; compilation = refl }; bindings = record { entries = refl; hidden = λ i b h. refl }; outside = refl };
  };
}
