-- One byte of the words is written.
use Rattle.std.proofs.Common.{◌≡◌, ◌≢◌, ℕ, zero, suc, ◌+◌, ◌/◌, ◌%◌, ◌<◌, List, length, get_or, set, sym, ap, ◌∙◌, inl, inr, arith, w64}
use Rattle.std.proofs.lemmas.List.{get_or-set_same, get_or-set_other, length-set}
use Rattle.std.proofs.lemmas.Bool.{cases_eq}
use Rattle.std.proofs.lemmas.Nat.{le_bytes_8}
use Rattle.std.specs.Int.{to_le_bytes, from_le_bytes}
use Rattle.std.specs.Prelude.{slice_get}
use Rattle.std.proofs.lemmas.Option.{get_or_from_slice_get, slice_get_within}
use Rattle.std.specs.Prelude.{Some}
use Rattle.rl_cells.specs.Stored.{byte_in}

byte_small : (w i : ℕ) → get_or (to_le_bytes w64 w) i 0 < 256
byte_small w zero = omega arith
byte_small w (suc zero) = omega arith
byte_small w (suc (suc zero)) = omega arith
byte_small w (suc (suc (suc zero))) = omega arith
byte_small w (suc (suc (suc (suc zero)))) = omega arith
byte_small w (suc (suc (suc (suc (suc zero))))) = omega arith
byte_small w (suc (suc (suc (suc (suc (suc zero)))))) = omega arith
byte_small w (suc (suc (suc (suc (suc (suc (suc zero))))))) = omega arith
byte_small w (suc (suc (suc (suc (suc (suc (suc (suc i)))))))) = omega arith

changed_small : (w r b : ℕ) → r < 8 → b < 256 → (i : ℕ) → get_or (set (to_le_bytes w64 w) r b) i 0 < 256
changed_small w r b l s i = elim (cases_eq i r) [
  | inl e ↦ rw (e, get_or-set_same (to_le_bytes w64 w) r b 0 l) s
  | inr n ↦ rw (get_or-set_other (to_le_bytes w64 w) r i b 0 n) (byte_small w i)
]

-- the bytes of the word that was put together
unpacked : (w r b n : ℕ) → r < 8 → b < 256 → n ≡ from_le_bytes w64 (set (to_le_bytes w64 w) r b) → to_le_bytes w64 n ≡ set (to_le_bytes w64 w) r b
unpacked w r b n l s e = le_bytes_8 (set (to_le_bytes w64 w) r b) n (length-set (to_le_bytes w64 w) r b) (changed_small w r b l s) e

pub byte_in-set_same : (ws : List ℕ) (at i w n b : ℕ) → slice_get ws (at + i / 8) ≡ Some w → b < 256 → n ≡ from_le_bytes w64 (set (to_le_bytes w64 w) (i % 8) b) → byte_in (set ws (at + i / 8) n) at i ≡ b
byte_in-set_same ws at i w n b got s e =
    let l : at + i / 8 < length ws = slice_get_within ws (at + i / 8) w got in
    let r : i % 8 < 8 = omega arith in
    let is : get_or (set ws (at + i / 8) n) (at + i / 8) 0 ≡ n = get_or-set_same ws (at + i / 8) n 0 l in
    ap (λ x. get_or (to_le_bytes w64 x) (i % 8) 0) is ∙ ap (λ bs. get_or bs (i % 8) 0) (unpacked w (i % 8) b n r s e)
    ∙ get_or-set_same (to_le_bytes w64 w) (i % 8) b 0 r

pub byte_in-set_other : (ws : List ℕ) (at i k w n b : ℕ) → slice_get ws (at + i / 8) ≡ Some w → b < 256 → n ≡ from_le_bytes w64 (set (to_le_bytes w64 w) (i % 8) b) → k ≢ i → byte_in (set ws (at + i / 8) n) at k ≡ byte_in ws at k
byte_in-set_other ws at i k w n b got s e ne =
    let l : at + i / 8 < length ws = slice_get_within ws (at + i / 8) w got in
    let r : i % 8 < 8 = omega arith in
    elim (cases_eq (k / 8) (i / 8)) [
      | inl same ↦
          let is : get_or (set ws (at + i / 8) n) (at + k / 8) 0 ≡ n = rw same (get_or-set_same ws (at + i / 8) n 0 l) in
          let was : get_or ws (at + k / 8) 0 ≡ w = rw same (get_or_from_slice_get ws (at + i / 8) w 0 got) in
          let apart : k % 8 ≢ i % 8 = λ h. ne (omega arith) in
          ap (λ x. get_or (to_le_bytes w64 x) (k % 8) 0) is ∙ ap (λ bs. get_or bs (k % 8) 0) (unpacked w (i % 8) b n r s e)
          ∙ get_or-set_other (to_le_bytes w64 w) (i % 8) (k % 8) b 0 apart ∙ ap (λ x. get_or (to_le_bytes w64 x) (k % 8) 0) (sym was)
      | inr other ↦
          let apart : (at + k / 8) ≢ at + i / 8 = λ h. other (omega arith) in
          ap (λ x. get_or (to_le_bytes w64 x) (k % 8) 0) (get_or-set_other ws (at + i / 8) (at + k / 8) n 0 apart)
    ]
