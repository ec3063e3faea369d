-- Setting a word of an identifier that is neither its name nor its link leaves what all means.
use Rattle.std.proofs.Common.{◌≡◌, ℕ, zero, suc, ◌<◌, true, List, ◌∷◌, Option, Some, None, refl, sym, ap, ◌∙◌, arith}
use Rattle.rl_tags.specs.Tagged.{Tagged, Number, IdAt, StrAt, PairAt, VectorAt, BigAt, FunAt, index_of, tagged_of}
use Rattle.rl_cells.specs.Cell.{Cell, cell_at, changed_at, block_with, bytes_of}
use Rattle.rl_cells.specs.Laws.{IsChanged}
use Rattle.rl_syms.specs.Table.{IsTable, IsFree, Among, chain, held_in, ids_from, is_id, name_in_cells, next_at, rank_of}
use Rattle.rl_syms.specs.Contents.{store_of, value_of}
use Rattle.rl_syms.specs.Frame.{KeepsMeaning}
use Rattle.rl_syms.proofs.Field.{set_at, word_stays}
use Rattle.rl_syms.proofs.Changed.{word_keeps}

chain_same : (n : ℕ) (old new : List Cell) (v : Option Tagged) → ((k : ℕ) → next_at new k ≡ next_at old k) → chain n new v ≡ chain n old v
chain_same zero old new v s = refl
chain_same (suc n) old new (Some (IdAt k)) s = ap (λ ks. k ∷ ks) (ap (chain n new) (s k) ∙ chain_same n old new (next_at old k) s)
chain_same (suc n) old new (Some (Number z)) s = refl
chain_same (suc n) old new (Some (StrAt k)) s = refl
chain_same (suc n) old new (Some (PairAt k)) s = refl
chain_same (suc n) old new (Some (VectorAt k)) s = refl
chain_same (suc n) old new (Some (BigAt k)) s = refl
chain_same (suc n) old new (Some (FunAt k)) s = refl
chain_same (suc n) old new None s = refl

free_same : (old new : List Cell) (head : Option Tagged) (name : List ℕ) → ids_from new head ≡ ids_from old head → ((k : ℕ) → name_in_cells new k ≡ name_in_cells old k) → IsFree old head name → IsFree new head name
free_same old new head name chains names free = record {
  other = λ k a.
      let was : Among k (ids_from old head) = rw chains at a in
      λ e. free.other k was (sym (names k) ∙ e);
}

pub field_keeps : IsChanged → (old new : List Cell) (head : Option Tagged) (v : Tagged) (i w : ℕ) → IsTable old head → is_id old v ≡ true → 0 < i → i < 5 → new ≡ changed_at old v (block_with (cell_at old (index_of v)) i w) → KeepsMeaning old new
field_keeps law old new head v i w t h some within changed =
    let s = set_at law old new head v i w t h changed in
    let m = word_keeps old v i w in
    let k = index_of v in
    let next : (j : ℕ) → next_at new j ≡ next_at old j = λ j. ap held_in (word_stays old new head k i w 5 j s (omega arith)) in
    let names : (j : ℕ) → name_in_cells new j ≡ name_in_cells old j = λ j. ap (λ u. bytes_of new (tagged_of u)) (word_stays old new head k i w 0 j s (omega arith)) ∙ s.texts _ in
    let chains : (first : Option Tagged) → ids_from new first ≡ ids_from old first = λ first. chain_same (rank_of first) old new first next in
    record {
      long = s.long;
      live = s.live;
      values = λ u. ap (λ cs. value_of cs u) changed ∙ m.values u;
      store = ap store_of changed ∙ m.store;
      chains = chains;
      names = names;
      free = λ first name. free_same old new first name (chains first) names;
    }

pub keeps_then : (old mid new : List Cell) → KeepsMeaning old mid → KeepsMeaning mid new → KeepsMeaning old new
keeps_then old mid new k l = record {
  long = l.long ∙ k.long;
  live = λ v. l.live v ∙ k.live v;
  values = λ v. l.values v ∙ k.values v;
  store = l.store ∙ k.store;
  chains = λ head. l.chains head ∙ k.chains head;
  names = λ j. l.names j ∙ k.names j;
  free = λ head name f. l.free head name (k.free head name f);
}
