use Rattle.std.proofs.Common.{◌≡◌, ◌≢◌, ◌<◌, true, false, length, sym, ◌∙◌, arith, Some}
use Rattle.rl_tags.specs.Tagged.{index_of}
use Rattle.rl_cells.specs.Cell.{words_of}
use Rattle.rl_syms.specs.Table.{name_in_cells, next_at, rank_of}
use Rattle.rl_syms.proofs.Chained.{Unnamed, looking_some, looking_id, looking_here, looking_next, free_end, name_here, next_here, falls_to, six_words}
use Rattle.rl_syms.proofs.table.Syms.find.Goals as goal

pub returns-then-has_bytes-clause-found : goal.returns-then-has_bytes-clause-found
returns-then-has_bytes-clause-found c =
    let cells = c.args.c.now.cells in
    let v = c.in-Some.id in
    let l = looking_some cells (Unnamed cells c.args.name.now) c.args.self.now.head c.loop-at.at v c.in-Some.is c.loop-at.invariant in
    let a = looking_id cells (Unnamed cells c.args.name.now) c.args.self.now.head v l in
    let name = name_here cells v (index_of v) c.word.result c.read.result c.unwrap-text.result a c.word.ensures.value c.read.ensures.back c.unwrap-text.ensures in
    looking_here cells c.args.name.now c.args.self.now.head v (index_of v) c.requires l a (name ∙ c.has_bytes.ensures.0 c.if-has_bytes.true)

pub word-requires-in-Some-clause-within : goal.word-requires-in-Some-clause-within
word-requires-in-Some-clause-within c =
    let cells = c.args.c.now.cells in
    let v = c.in-Some.id in
    let l = looking_some cells (Unnamed cells c.args.name.now) c.args.self.now.head c.loop-at.at v c.in-Some.is c.loop-at.invariant in
    let a = looking_id cells (Unnamed cells c.args.name.now) c.args.self.now.head v l in
    let six : length (words_of cells v) ≡ 6 = six_words cells c.args.self.now.head v (index_of v) c.requires.chained a in
    rw six (omega arith)

pub loop-at-smaller : goal.loop-at-smaller
loop-at-smaller c =
    let cells = c.args.c.now.cells in
    let v = c.in-Some.id in
    let l = looking_some cells (Unnamed cells c.args.name.now) c.args.self.now.head c.loop-at.at v c.in-Some.is c.loop-at.invariant in
    let a = looking_id cells (Unnamed cells c.args.name.now) c.args.self.now.head v l in
    let next = next_here cells v (index_of v) c.word-in-Some.result c.read-at.result a c.word-in-Some.ensures.value c.read-at.ensures.back in
    let less : rank_of c.read-at.result < rank_of (Some v) = falls_to cells c.args.self.now.head v (index_of v) c.read-at.result c.requires a next in
    rw c.in-Some.is less

pub loop-at-preserved : goal.loop-at-preserved
loop-at-preserved c =
    let cells = c.args.c.now.cells in
    let v = c.in-Some.id in
    let l = looking_some cells (Unnamed cells c.args.name.now) c.args.self.now.head c.loop-at.at v c.in-Some.is c.loop-at.invariant in
    let a = looking_id cells (Unnamed cells c.args.name.now) c.args.self.now.head v l in
    let name = name_here cells v (index_of v) c.word.result c.read.result c.unwrap-text.result a c.word.ensures.value c.read.ensures.back c.unwrap-text.ensures in
    let other : name_in_cells cells (index_of v) ≢ c.args.name.now = λ e. let yes : c.has_bytes.result ≡ true = c.has_bytes.ensures.1 (sym name ∙ e) in let z : true ≡ false = sym yes ∙ c.if-has_bytes.false in cc in
    let next : next_at cells (index_of v) ≡ c.read-at.result = next_here cells v (index_of v) c.word-in-Some.result c.read-at.result a c.word-in-Some.ensures.value c.read-at.ensures.back in
    rw (← next) (looking_next cells (Unnamed cells c.args.name.now) c.args.self.now.head v (index_of v) c.requires l a other)

pub returns-clause-found : goal.returns-clause-found
returns-clause-found c = free_end c.args.c.now.cells c.args.name.now c.args.self.now.head (rw c.in_default.is at c.loop-at.invariant)
