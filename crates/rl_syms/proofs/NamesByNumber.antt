-- An identifier has the name of its number.
use Rattle.std.proofs.Common.{◌≡◌, ◌+◌, true, List, [], ◌∷◌, length, get_or, take, refl, sym, ap, ◌∙◌, arith}
use Rattle.std.specs.List.{flat_map, count_by}
use Rattle.std.proofs.lemmas.List.Concat.{get_or-flat_map}
use Rattle.std.proofs.lemmas.List.{length-append}
use Rattle.std.proofs.lemmas.List.Sums.{sum_by-cons}
use Rattle.std.specs.Prelude.{cond}
use Rattle.rl_tags.specs.declared.Tag.TheVariants as tag
use Rattle.rl_cells.specs.Cell.{Cell, PairCell, StrCell, VectorCell, BigCell, BlockCell, More, cell_at, is_id_cell, bytes_of, words_in}
use Rattle.rl_syms.specs.Contents.{ids_before}
use Rattle.rl_syms.specs.Table.{symbol_of}
use Rattle.rl_syms.specs.Numbers.{NamesAreNumbered, cell_names, numbered_name}
use Rattle.rl_syms.proofs.New.{tested_inside}

one_name : (all : List Cell) (c : Cell) → length (cell_names all c) ≡ cond (is_id_cell c) 1 0
one_name all (BlockCell tag.Int words) = refl
one_name all (BlockCell tag.Id words) = refl
one_name all (BlockCell tag.Str words) = refl
one_name all (BlockCell tag.Pair words) = refl
one_name all (BlockCell tag.Vector words) = refl
one_name all (BlockCell tag.Big words) = refl
one_name all (BlockCell tag.Fun words) = refl
one_name all (PairCell a d) = refl
one_name all (StrCell bytes) = refl
one_name all (VectorCell xs) = refl
one_name all (BigCell z) = refl
one_name all More = refl

names_counted : (all cells : List Cell) → length (flat_map (cell_names all) cells) ≡ count_by is_id_cell cells
names_counted all [] = refl
names_counted all (c ∷ cells) =
    length-append (cell_names all c) (flat_map (cell_names all) cells) ∙ rw (one_name all c, names_counted all cells) (sym (sum_by-cons (λ x. cond (is_id_cell x) 1 0) c cells))

name_here : (all : List Cell) (c : Cell) → is_id_cell c ≡ true → cell_names all c ≡ bytes_of all (symbol_of (words_in c)).name ∷ []
name_here all (BlockCell tag.Id words) h = refl
name_here all c h = cc

pub names_numbered : NamesAreNumbered
unfolding numbered_name ids_before
names_numbered cells k h =
    let here = name_here cells (cell_at cells k) h in
    let one : length (cell_names cells (cell_at cells k)) ≡ 1 = ap length here in
    let before : count_by is_id_cell (take k cells) ≡ length (flat_map (cell_names cells) (take k cells)) + 0 = omega (arith, names_counted cells (take k cells)) in
    ap (λ r. get_or (flat_map (cell_names cells) cells) r []) before
    ∙ get_or-flat_map (cell_names cells) cells k 0 More [] (tested_inside is_id_cell refl cells k h) (omega (arith, one))
    ∙ ap (λ ns. get_or ns 0 []) here
