-- The world of a run, and the data that its values are.
use Rattle.std.specs.Prelude.{◌≡◌, []}
use Rattle.rl_tags.specs.Tagged.{Tagged}
use Rattle.rl_tags.specs.Ids.{nil_id, t_id, quote_id, cons_id, prin1_id, prin2_id, print_id, terpri_id}
use Rattle.rl_syms.specs.Table.{IsTable, IsNamed}
use Rattle.rl_tree.specs.Name.{Name, nil_name, t_name, quote_name, cons_name, print_name}
use Rattle.rl_text.specs.Datum.{Datum}
use Rattle.rl_read.specs.Data.{IsDatum, datum_of}
use Rattle.rl_world.specs.declared.world.World.{World}
use Rattle.rl_forms.specs.BuiltForms.{line_length, prin1_name, prin2_name, terpri_name}

-- a value that is a datum
pub record IsKnown (w : World) (v : Tagged) : Type 0 where
  pub is : IsDatum w.cells.cells w.syms.head v

-- the datum that it is
unfoldable pub datum_in : World → Tagged → Datum
datum_in w v = datum_of w.cells.cells v

-- the value is the interned identifier of the name
abbrev pub IsNameOf : World → Name → Tagged → Type 0
IsNameOf w name id = IsNamed w.cells.cells w.syms.head name id

-- names are a table, those that the evaluator knows are at the places of their constants, and lines are as long as at opening
pub record IsRunning (w : World) : Type 0 where
  pub table : IsTable w.cells.cells w.syms.head
  pub nil : IsNameOf w nil_name nil_id
  pub t : IsNameOf w t_name t_id
  pub quote : IsNameOf w quote_name quote_id
  pub cons : IsNameOf w cons_name cons_id
  pub prin1 : IsNameOf w prin1_name prin1_id
  pub prin2 : IsNameOf w prin2_name prin2_id
  pub print : IsNameOf w print_name print_id
  pub terpri : IsNameOf w terpri_name terpri_id
  pub line : w.output.line_length ≡ line_length

-- and nothing was printed
pub record IsBeginning (w : World) : Type 0 where
  pub running : IsRunning w
  pub waiting : w.output.waiting ≡ []
  pub column : w.output.column ≡ 0

-- what was known is known, and is the same datum
pub record KeepsKnown (old new : World) : Type 0 where
  pub known : (v : Tagged) → IsKnown old v → IsKnown new v
  pub datum : (v : Tagged) → IsKnown old v → datum_in new v ≡ datum_in old v

-- a value of this world that is the datum
pub record StandsForDatum (w : World) (v : Tagged) (d : Datum) : Type 0 where
  pub known : IsKnown w v
  pub datum : datum_in w v ≡ d
