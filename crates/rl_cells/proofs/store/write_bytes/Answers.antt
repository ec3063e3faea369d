use Rattle.std.proofs.Common.{◌≡◌, ◌≢◌, ℕ, ◌+◌, ◌/◌, ◌%◌, ◌<◌, get_or, set, sym, ap, ◌∙◌, inl, inr, arith, below_more, w64}
use Rattle.std.specs.Int.{to_le_bytes, from_le_bytes}
use Rattle.std.proofs.lemmas.List.{get_or-set_other, length-set}
use Rattle.rl_cells.proofs.Bytes.{byte_in-set_same, byte_in-set_other}
use Rattle.rl_cells.proofs.store.write_bytes.Goals as goal

pub loop-i-preserved : goal.loop-i-preserved
loop-i-preserved c =
    let ws = c.loop-i.words in
    let at = c.args.at in
    let i = c.loop-i.i in
    let b = get_or c.args.bytes.now i 0 in
    let small : b < 256 = (c.type_inv.bytes i).fits in
    let packed : c.from_le_bytes.result ≡ from_le_bytes w64 (set (to_le_bytes w64 c.get.result) (i % 8) b) = c.from_le_bytes.ensures ∙ ap (λ p. from_le_bytes w64 (set p (i % 8) b)) c.to_le_bytes-parts.ensures in
    rw c.set.ensures record {
      len = length-set ws (at + i / 8) c.from_le_bytes.result ∙ c.loop-i.invariant.len;
      written = below_more _ _ (λ (k : ℕ) (l : k < i). let n : k ≢ i = omega arith in c.loop-i.invariant.written k l ∙ sym (byte_in-set_other ws at i k c.get.result c.from_le_bytes.result b c.get.ensures small packed n))
          (sym (byte_in-set_same ws at i c.get.result c.from_le_bytes.result b c.get.ensures small packed));
      rest = λ k o. let n : k ≢ at + i / 8 = elim o [ inl l ↦ omega arith | inr l ↦ omega arith ] in get_or-set_other ws (at + i / 8) k c.from_le_bytes.result 0 n ∙ c.loop-i.invariant.rest k o;
    }
