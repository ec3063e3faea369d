-- `new` makes the struct with no bytes, at the empty list.
use Rattle.rl_cells.proofs.Walks.{[], ◌∷◌, refl, proved, ftrue, ‵, raw, ◌$◌, ◌∵◌, !, qed, done, drop, fjoin, suffices, agg, enter, no_more, returns, alloc_all, pass_all, free_all, look_at, sets, nothing, on_entry, says, ends_at, none, none_made}
use Rattle.rl_cells.specs.declared.objects.Objects.{Objects}
use Rattle.rl_cells.specs.contracts.objects.Objects.new as f
use Rattle.rl_cells.proofs.objects.Objects.new.Statement.{statement}
use Rattle.rl_cells.proofs.objects.Objects.new.Code as code

abbrev made : Objects
made = record { cells = [] }

pub new_spec : {M : Type 1} → statement M
new_spec 𝓤 𝓛 𝓜 𝓡 wired =
    let c = f.clauses 𝓛 𝓜.mem 𝓡.returns in
    proved 𝓛 f.ended tt c 𝓜 𝓡 tt
    f.Key.name code.function (code.unfolded 𝓤 𝓛.H 𝓜 𝓡 wired)
    (λ κs. tt) (λ κs. tt) (λ κs qs bounds a g are.
    qed 𝓛 (raw (on_entry 𝓛 f.signature κs qs a tt) ∷ ‵ ftrue ∷ []) ∵ drop ! $ drop ! $
    enter ! _ _ _ _ _ $ alloc_all ! (λ l. pass_all ! refl tt $
    sets ! (agg ! (no_more !)) refl (tt, tt) $
    returns ! (look_at ! 0 refl) $ free_all ! refl $
    suffices ! _ (ends_at 𝓛 f.ended tt c ((κs, qs, bounds, a, tt), g) none made tt tt) $ says ! refl $
    nothing ! $ none_made ! $ fjoin ! $ nothing ! $ nothing ! $ done !))
