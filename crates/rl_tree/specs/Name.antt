-- Names: the bytes of identifiers, and the names that the definitions themselves speak of.
use Rattle.std.specs.Prelude.{ℕ, List, codes}

-- a name: its bytes
abbrev pub Name : Type 0
Name = List ℕ

abbrev pub nil_name : Name
nil_name = codes "NIL"

abbrev pub t_name : Name
t_name = codes "T"

abbrev pub quote_name : Name
quote_name = codes "QUOTE"

abbrev pub cons_name : Name
cons_name = codes "CONS"

abbrev pub print_name : Name
print_name = codes "PRINT"
