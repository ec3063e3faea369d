-- `then` makes the struct with no bytes, at the list that its clause names.
use Rattle.rl_cells.proofs.Walks.{List, [], ◌∷◌, refl, proved, ftrue, ‵, raw, ◌⊛◌, ◌$◌, ◌∵◌, !, qed, done, move, keep, split, fjoin, suffices, agg, enter, no_more, returns, alloc_all, pass_all, free_all, look_at, sets, RefOf, yes, shr_vals, shr_Tells, Lfts, RattleType, Slot, plain, named_lft, name_of, meet_at, nothing, alive, owns, types_at, Stays, says, stay_dropped, Goes-dropped, ends_at, none, none_made}
use Rattle.rl_cells.specs.Changed.{changed}
use Rattle.rl_cells.specs.Cell.{Cell}
use Rattle.rl_cells.specs.declared.objects.Objects.{Objects}
use Rattle.rl_cells.specs.contracts.objects.Change as Change
use Rattle.rl_cells.specs.contracts.objects.Objects.{the_row}
use Rattle.rl_cells.specs.contracts.objects.Objects.then as f
use Rattle.rl_cells.proofs.objects.Objects.then.Statement.{statement}
use Rattle.rl_cells.proofs.objects.Objects.then.Code as code

abbrev made : List Cell → Objects
made cells = record { cells = cells }

abbrev change_row : Lfts 3 → RattleType
change_row κs = Change.the_row (named_lft 3 2 tt κs)

abbrev the_self : Slot 3
the_self = RefOf {n = 3} (0 ∷ []) tt (plain (λ _. the_row)) (λ _. tt)

abbrev the_change : Slot 3
the_change = RefOf {n = 3} (1 ∷ []) tt (plain change_row) (λ _. tt)

abbrev stayed : Stays f.ended.signature.params f.ended.kept
stayed = (stay_dropped the_self yes, (stay_dropped the_change yes, tt))

pub then_spec : {M : Type 1} → statement M
then_spec 𝓤 𝓛 𝓜 𝓡 wired =
    let c = f.clauses 𝓛 𝓜.mem 𝓡.returns in
    proved 𝓛 f.ended stayed c 𝓜 𝓡 (Goes-dropped 𝓛 3 the_self yes (λ κs x w. refl), (Goes-dropped 𝓛 3 the_change yes (λ κs x w. refl), tt))
    f.Key.name code.function (code.unfolded 𝓤 𝓛.H 𝓜 𝓡 wired)
    (λ κs. (shr_vals, (shr_vals, tt))) (λ κs. (shr_Tells (name_of (0 ∷ [])) (meet_at 3 (0 ∷ []) tt κs) the_row, (shr_Tells (name_of (1 ∷ [])) (meet_at 3 (1 ∷ []) tt κs) (change_row κs), tt))) (λ κs qs bounds a g are.
    qed 𝓛 ((raw (alive 𝓛 f.signature κs qs) ⊛ ‵ (owns (types_at f.signature.params κs) a (shr_vals a.0, (shr_vals a.1.0, tt)))) ∷ ‵ ftrue ∷ []) ∵ split ! $ keep ! (0 ∷ []) $
    enter ! _ _ _ _ _ $ alloc_all ! (λ l. pass_all ! refl ((tt, tt), ((tt, tt), tt)) $
    sets ! (agg ! (no_more !)) refl (tt, tt) $
    returns ! (look_at ! 0 refl) $ free_all ! refl $
    suffices ! _ (ends_at 𝓛 f.ended stayed c ((κs, qs, bounds, a, (shr_vals a.0, (shr_vals a.1.0, tt))), g) none (made (changed a.0.now.cells a.1.0.now)) (tt, (tt, tt)) (tt, (tt, tt))) $ says ! refl $
    nothing ! $ none_made ! $ fjoin ! $ nothing ! $ nothing ! $ fjoin ! $ nothing ! $ fjoin ! $ move ! (2 ∷ 0 ∷ 1 ∷ []) $ done !))
