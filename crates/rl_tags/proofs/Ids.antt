-- The constants by name are those of the table.
use Rattle.std.proofs.Common.{◌≡◌, refl, map}
use Rattle.std.specs.List.{range_with_len}
use Rattle.rl_tags.specs.Tagged.{IdAt}
use Rattle.rl_tags.specs.Opening.{opening_rows, byte_names, place_of}
use Rattle.rl_tags.specs.Ids.{opening_ids}

pub opening_ids-are : opening_ids ≡ map (λ i. IdAt (place_of i)) (range_with_len 0 167)
unfolding opening_rows byte_names
opening_ids-are = refl
