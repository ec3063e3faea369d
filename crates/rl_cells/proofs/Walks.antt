-- What the walks of `src/objects.rt` cite, and a step that both take.
pub use Rattle.std.proofs.Common.{List, [], ◌∷◌, refl}
pub use Rattle.std.proofs.raw_atomic.Walks.{proved}
pub use base.Fml.{ftrue}
pub use mir.Val.{Val, vstruct, vnil}
pub use types.Kit.{‵, raw, ◌⊛◌, ◌$◌, ◌∵◌, !, qed, done, move, keep, drop, split, fjoin, suffices}
pub use types.Part.{agg}
pub use types.Run.{enter, no_more, returns}
pub use types.ByLocal.{alloc_all, pass_all, free_all, look_at, sets}
pub use denote.Builtin.{RefOf}
pub use denote.Exit.{yes}
pub use contract.Lifetimes.{Lfts}
pub use denote.RattleType.{RattleType, owns}
pub use denote.Ref.{shr_vals, shr_Tells}
pub use denote.Signature.{Slot, plain, types_at, named_lft, name_of, meet_at}
pub use denote.Steps.{nothing}
pub use denote.Triple.Entry.{on_entry, alive}
pub use denote.Triple.Walked.{Stays, says, stay_dropped, Goes-dropped, ends_at}
use seplogic.Ra.Ura.{Ura}
use types.Logic.{Logic}
use types.Kit.{Goal, Step, step, Item, fpack, feq_i}
use denote.RattleType.{Valss}
use denote.Struct.Struct.{Struct, within}

-- the machine value of a struct with no fields
abbrev pub none : Val
none = vstruct vnil

abbrev pub fieldless : RattleType
fieldless = Struct (record { name = []; args = []; types = []; fields = [] })

pub none_made : {M : Type 1} {𝓤 : Ura M} {𝓛 : Logic 𝓤} {K : Type 0} {Γ : List (Item 𝓤)} {G : Goal 𝓤 𝓛.H} → K → Step K 𝓛 (‵ (fieldless.own_val tt (none ∷ [])) ∷ Γ) G Γ G
none_made t = step (λ s.
    nothing t $ feq_i t (List Val) (none ∷ []) (none ∷ []) refl $ fjoin t $
    fpack t (Valss []) (within (record { name = []; args = []; types = []; fields = [] }) tt (none ∷ [])) tt $ s)
