-- An expansion of a plain macro on the right side alone leaves two runs side by side.
use Rattle.std.proofs.Common.{◌≡◌, ◌≤◌, ◌<◌, ℕ, zero, suc, Bool, true, false, is_some, List, [], ◌∷◌, length, slice_index_or, Option, Some, None, refl, sym, ◌∙◌, ap, subst, arith, length-append}
use Rattle.rl_tree.specs.Value.{Store}
use Rattle.rl_tree.specs.declared.held.Kind.TheVariants.{Expr, Macro}
use Rattle.rl_meaning.specs.State.{State, Coded, Expansion, Tree, Pointer, Symbol, Definition, Function}
use Rattle.rl_meaning.specs.Outcome.{Outcome, Done, Failed, Went, Returned, Stopped}
use Rattle.rl_meaning.specs.Symbols.{symbol_at, new_symbol}
use Rattle.rl_meaning.specs.Evaluation.{Here, Run, From, opened_expansion, with_expansion, closed_expansion, without_expansion, closed, expansion_of}
use Rattle.rl_meaning.specs.Jobs.{code_outside, code_of, run_held, job_at, job, jobs, rank, the_compiler}
use Rattle.rl_meaning.specs.Opening.{state_of}
use Rattle.rl_meaning.specs.TwoRunsValues.{Names, Maybe, nothing, just, Each, end, more, SameSymbol, same_symbol, SameDefinition, same_definition, same_pointer}
use Rattle.rl_meaning.specs.TwoRunsStates.{Bounds, SameStore, SameFunctions, EntryPlace, IsRoomier, Like}
use Rattle.rl_meaning.specs.Plain.{have_plain, IsPlain}
use Rattle.rl_agrees.specs.Expanding.{IsLonger, NoMore, OnlyMakes, PlainExpandsAlone}
use Rattle.rl_agrees.proofs.TwoRunsLinked.{get_left}
use Rattle.rl_agrees.proofs.PlainWays.{then_ends, IsOutermost, no_more_refl, Stays, Leaves}
use Rattle.rl_agrees.proofs.PlainObjects.{longer_refl}
use Rattle.rl_agrees.proofs.PlainHolding.{hold_expansion_stays, copied_stays}
use Rattle.rl_agrees.proofs.PlainVariables.{Same}
use Rattle.rl_agrees.proofs.PlainHeads.{InRange}
use Rattle.rl_agrees.proofs.PlainEvaluation.{and_left, definition_target, walking, Asks, called_stays, walked_stays, statements_stay}

-- ---- jobs: in an expansion no code runs

no_code_outside : (e : Option Expansion) (runs : Bool) (coded : List Coded) (i : ℕ) (f : Option Pointer) → IsOutermost e → code_outside e runs coded i f ≡ None
no_code_outside None runs coded i f o = absurd o
no_code_outside (Some e) true coded i f o = refl
no_code_outside (Some e) false coded i f o = refl

no_code : (name : Option ℕ) (f : Option Pointer) (s : State) → IsOutermost s.counts.expansion → code_of name f s ≡ None
no_code None f s o = refl
no_code (Some i) f s o = no_code_outside s.counts.expansion s.compilation.runs_code s.compilation.coded i f o

module _ (b : State) (plain : List ℕ) (ranged : InRange b) (exprs : have_plain b plain Expr plain ≡ true) where
  asks_at : (n : ℕ) → Asks b plain (λ j s. job_at the_compiler n j s)
  asks_at zero = record {
    run = λ name levels holder f held vs s h k. record { ends = tt };
    from = λ base scope here whole rest s w h k. record { ends = tt };
  }
  asks_at (suc n) = record {
    run = λ name levels holder f held vs s h k.
        subst (λ code. Leaves b (Same s.bindings) (λ t. Stays b (Same s.bindings) t) (run_held (walking (λ j s. job_at the_compiler n j s)) code levels holder f held vs s)) (sym (no_code name f s k.counts.outermost))
        (walked_stays b plain ranged exprs (λ j s. job_at the_compiler n j s) (asks_at n) levels holder f held vs s h k);
    from = λ base scope here whole rest s w h k. statements_stay b plain ranged exprs (λ j s. job_at the_compiler n j s) (asks_at n) base scope here whole rest s w h k;
  }

  asks_job : Asks b plain (job the_compiler)
  unfolding job
  asks_job = record {
    run = λ name levels holder f held vs s h k. (asks_at (suc (rank (Run name levels holder f held vs) s))).run name levels holder f held vs s h k;
    from = λ base scope here whole rest s w h k. (asks_at (suc (rank (From here whole rest) s))).from base scope here whole rest s w h k;
  }

-- ---- what an expansion leaves

opened_stays : (t : State) (i : ℕ) → t.counts.expansion ≡ None → Stays t (Same t.bindings) (with_expansion i t)
opened_stays t i e = record {
  store = longer_refl t.store;
  functions = longer_refl t.functions;
  symbols = refl;
  outside = refl;
  gensyms = refl;
  compilation = refl;
  counts = record { given = refl; turns = refl; cells = no_more_refl t.counts.cells; outermost = ap (λ o. (opened_expansion i o).inner_count) e };
  bindings = refl;
}

closed_none : (e : Option Expansion) → IsOutermost e → closed_expansion e ≡ None
closed_none None o = absurd o
closed_none (Some e) o = ap (λ n. elim n as (λ x. Option Expansion) [ zero ↦ None | suc n ↦ Some (record e { inner_count = n }) ]) o

only_makes : (t u : State) → t.counts.expansion ≡ None → Stays t (Same t.bindings) u → OnlyMakes t (without_expansion u)
only_makes t u e k = record {
  store = k.store;
  functions = k.functions;
  symbols = k.symbols;
  bindings = k.bindings;
  given = k.counts.given;
  turns = k.counts.turns;
  cells = k.counts.cells;
  expansion = closed_none u.counts.expansion k.counts.outermost ∙ sym e;
  outside = k.outside;
  gensyms = k.gensyms;
  compilation = k.compilation;
}

closed_makes : (t u : State) (f : ℕ) (o : Outcome ℕ) → t.counts.expansion ≡ None → Leaves t (Same t.bindings) (λ s. Stays t (Same t.bindings) s) o → closed o ≡ Done f u → OnlyMakes t u
closed_makes t u f (Done a v) e k h = let g : without_expansion v ≡ u = ap state_of h in subst (λ x. OnlyMakes t x) g (only_makes t v e k.ends)
closed_makes t u f (Failed n m v) e k h = absurd (let g = h in cc)
closed_makes t u f (Went l v) e k h = absurd (let g = h in cc)
closed_makes t u f (Returned m v) e k h = absurd (let g = h in cc)
closed_makes t u f (Stopped why v) e k h = absurd (let g = h in cc)

expansion_makes : (t u : State) (i f : ℕ) (here : Here) (form : Tree) → InRange t → t.counts.expansion ≡ None → IsPlain t i → expansion_of (jobs the_compiler) i here form t ≡ Done f u → OnlyMakes t u
expansion_makes t u i f here form ranged e p h =
    closed_makes t u f _ e
    (then_ends _ _ _ _ _ (copied_stays t (Same t.bindings) _ here.levels form (with_expansion i t) (opened_stays t i e)) (λ list s k.
    then_ends _ _ _ _ _ (called_stays t p.exprs ranged p.are (job the_compiler) (asks_job t p.exprs ranged p.are) (Same t.bindings) i here.levels (list ∷ []) s
    (definition_target t p.exprs Macro (symbol_at t i).definition (and_left _ true p.is)) k) (λ v s k.
    hold_expansion_stays t (Same t.bindings) _ here.levels here.kept v s k))) h

-- ---- side by side

store_alone : (n : Names) (s t u : Store) → IsLonger t u → SameStore n s t → SameStore n s u
store_alone n s t u l h = subst (λ x. SameStore n s x) (sym l.is) (record {
  once = h.once;
  within = record { left = h.within.left; right = λ r q k. omega (arith, h.within.right r q k, length-append t l.more) };
  is = λ r q k. rw (get_left t l.more q (h.within.right r q k)) (h.is r q k);
})

functions_alone : (n : Names) (s t u : List Function) → IsLonger t u → SameFunctions n s t → SameFunctions n s u
functions_alone n s t u l h = subst (λ x. SameFunctions n s x) (sym l.is) (record {
  once = h.once;
  within = record { left = h.within.left; right = λ r q k. omega (arith, h.within.right r q k, length-append t l.more) };
  is = λ r q k. rw (get_left t l.more q (h.within.right r q k)) (h.is r q k);
})

-- fewer cells on the right
roomier_alone : (l m n : Option ℕ) → IsRoomier l m → NoMore m n → IsRoomier l n
roomier_alone None m n h k = tt
roomier_alone (Some l) None None h k = tt
roomier_alone (Some l) (Some m) (Some n) h k = let le : m ≤ l = h in let ge : n ≤ m = k in omega (arith, le, ge)
roomier_alone (Some l) None (Some n) h k = absurd k
roomier_alone (Some l) (Some m) None h k = absurd k

more_bounded : (l m : Option ℕ) → NoMore l m → is_some m ≡ is_some l
more_bounded None None h = refl
more_bounded (Some l) (Some m) h = refl
more_bounded None (Some m) h = absurd h
more_bounded (Some l) None h = absurd h

module _ {bounds : Bounds} where
  pub like_alone : (n : Names) (ps : List EntryPlace) (s t u : State) → Like bounds n ps s t → OnlyMakes t u → Like bounds n ps s u
  like_alone n ps s t u l o = record {
    store = store_alone n s.store t.store u.store o.store l.store;
    functions = functions_alone n s.functions t.functions u.functions o.functions l.functions;
    symbols = rw o.symbols l.symbols;
    bindings = rw o.bindings l.bindings;
    counts = record {
      given = l.counts.given ∙ sym o.given;
      turns = l.counts.turns ∙ sym o.turns;
      cells = record { is = roomier_alone s.counts.cells t.counts.cells u.counts.cells l.counts.cells.is o.cells; bound = more_bounded t.counts.cells u.counts.cells o.cells ∙ l.counts.cells.bound };
      expansion = rw o.expansion l.counts.expansion;
    };
    outside = l.outside ∙ sym o.outside;
    gensyms = l.gensyms ∙ sym o.gensyms;
    compilation = rw o.compilation l.compilation;
  }

-- on the right side each definition names a function that is there
abbrev Ranged : List Function → Option Definition → Type 0
Ranged functions None = Unit {0}
Ranged functions (Some d) = d.function.function < length functions

definition_ranged : (n : Names) (s t : List Function) (x y : Option Definition) → SameFunctions n s t → Maybe (SameDefinition n) x y → Ranged t y
definition_ranged n s t x y h nothing = tt
definition_ranged n s t x y h (just _ _ (same_definition kind _ _ (same_pointer f g place l))) = h.within.right f g l

symbols_ranged : (n : Names) (s t : List Function) (xs ys : List Symbol) → SameFunctions n s t → Each (SameSymbol n) xs ys → (i : ℕ) → Ranged t (slice_index_or ys i (new_symbol [] false)).definition
symbols_ranged n s t xs ys h end i = tt
symbols_ranged n s t xs ys h (more _ _ as' bs (same_symbol name interned kind x y p q d e a c l) r) zero = definition_ranged n s t d e h l
symbols_ranged n s t xs ys h (more _ _ as' bs g r) (suc i) = symbols_ranged n s t as' bs h r i

module _ {bounds : Bounds} where
  like_ranged : (n : Names) (ps : List EntryPlace) (s t : State) → Like bounds n ps s t → InRange t
  like_ranged n ps s t l = record { is = λ i d e. subst (λ o. Ranged t.functions o) e (symbols_ranged n s.functions t.functions s.symbols t.symbols l.functions l.symbols i) }

pub plain_alone : PlainExpandsAlone
plain_alone = record {
  expands = λ bounds n ps s t u i f here form l e p h.
      let o : OnlyMakes t u = expansion_makes t u i f here form (like_ranged n ps s t l) e p h in
      (o, like_alone n ps s t u l o);
}
