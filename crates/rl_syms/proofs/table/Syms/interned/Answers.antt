use Rattle.std.proofs.Common.{◌≡◌, ◌≢◌, ◌<◌, sym, ◌∙◌, Some, refl}
use Rattle.rl_tags.specs.Tagged.{index_of}
use Rattle.rl_syms.specs.Table.{next_at, rank_of, Among, ids_from}
use Rattle.rl_syms.proofs.Chained.{Elsewhere, looking_some, looking_id, looking_first, looking_next, looking_end, next_here, falls_to}
use Rattle.rl_syms.proofs.Field.{is_at_id}
use Rattle.rl_syms.proofs.table.Syms.interned.Goals as goal

pub returns-then-index : goal.returns-then-index
returns-then-index c =
    let cells = c.args.c.now.cells in
    let v = c.in-Some.other in
    let l = looking_some cells (Elsewhere c.args.id) c.args.self.now.head c.loop-at.at v c.in-Some.is c.loop-at.invariant in
    let a = looking_id cells (Elsewhere c.args.id) c.args.self.now.head v l in
    let same : index_of v ≡ index_of c.args.id = sym c.index.ensures.at ∙ c.if-index.true ∙ c.index-in-Some.ensures.at in
    let here : Among (index_of c.args.id) (ids_from cells c.args.self.now.head) = rw (← same) (looking_first cells (Elsewhere c.args.id) c.args.self.now.head v (index_of v) c.requires.table l a) in
    (λ _. ((is_at_id cells c.args.id c.requires.id).is, here), λ _. refl)

pub loop-at-smaller : goal.loop-at-smaller
loop-at-smaller c =
    let cells = c.args.c.now.cells in
    let v = c.in-Some.other in
    let l = looking_some cells (Elsewhere c.args.id) c.args.self.now.head c.loop-at.at v c.in-Some.is c.loop-at.invariant in
    let a = looking_id cells (Elsewhere c.args.id) c.args.self.now.head v l in
    let next = next_here cells v (index_of v) c.word.result c.read-at.result a c.word.ensures.value c.read-at.ensures.back in
    let less : rank_of c.read-at.result < rank_of (Some v) = falls_to cells c.args.self.now.head v (index_of v) c.read-at.result c.requires.table a next in
    rw c.in-Some.is less

pub loop-at-preserved : goal.loop-at-preserved
loop-at-preserved c =
    let cells = c.args.c.now.cells in
    let v = c.in-Some.other in
    let l = looking_some cells (Elsewhere c.args.id) c.args.self.now.head c.loop-at.at v c.in-Some.is c.loop-at.invariant in
    let a = looking_id cells (Elsewhere c.args.id) c.args.self.now.head v l in
    let other : index_of v ≢ index_of c.args.id = λ e. c.if-index.false (c.index.ensures.at ∙ e ∙ sym c.index-in-Some.ensures.at) in
    let next : next_at cells (index_of v) ≡ c.read-at.result = next_here cells v (index_of v) c.word.result c.read-at.result a c.word.ensures.value c.read-at.ensures.back in
    rw (← next) (looking_next cells (Elsewhere c.args.id) c.args.self.now.head v (index_of v) c.requires.table l a other)

pub returns : goal.returns
returns c =
    let l = looking_end c.args.c.now.cells (Elsewhere c.args.id) c.args.self.now.head (rw c.in_default.is at c.loop-at.invariant) in
    (λ e. cc, λ i. absurd (l (index_of c.args.id) i.1 refl))
