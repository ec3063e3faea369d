-- The identifiers that opening makes: their names in the order of their making, and where they stand.
use Rattle.std.specs.Prelude.{ℕ, zero, suc, ◌+◌, ◌/◌, ◌==◌, cond, List, [], ◌∷◌, ◌++◌, Option, Some, None, map, length, codes, slice_index_or}
use Rattle.std.specs.List.{range_with_len}
use Rattle.rl_tags.specs.Tagged.{Tagged, Number, IdAt, StrAt, PairAt, VectorAt, BigAt, FunAt}

-- a name that has a constant, and the number of arguments of a native that code may call
pub data Row : Type 0 where
  Plain : List ℕ → Row
  Native : List ℕ → ℕ → Row

abbrev pub name_of : Row → List ℕ
name_of (Plain name) = name
name_of (Native name n) = name

abbrev pub arguments_in_row : Row → Option ℕ
arguments_in_row (Plain name) = None
arguments_in_row (Native name n) = Some n

-- The table: the system's variable and constants, the special forms, the kinds of functions, the natives, the functions
-- of the prelude, and the variables and labels of its texts.
unfoldable pub opening_rows : List Row
opening_rows =
    Plain (codes "NIL") ∷
    Plain (codes "T") ∷
    Plain (codes "QUOTE") ∷
    Plain (codes "EMSG*") ∷
    Plain (codes "$EOF$") ∷
    Plain (codes "$EOL$") ∷
    Plain (codes "FUNCTION") ∷
    Plain (codes "COND") ∷
    Plain (codes "PROGN") ∷
    Plain (codes "AND") ∷
    Plain (codes "OR") ∷
    Plain (codes "SETQ") ∷
    Plain (codes "PROG") ∷
    Plain (codes "GO") ∷
    Plain (codes "RETURN") ∷
    Plain (codes "LAMBDA") ∷
    Plain (codes "LIST") ∷
    Plain (codes "PLUS") ∷
    Plain (codes "TIMES") ∷
    Plain (codes "MAX") ∷
    Plain (codes "MIN") ∷
    Plain (codes "DE") ∷
    Plain (codes "DF") ∷
    Plain (codes "DM") ∷
    Plain (codes "EXPR") ∷
    Plain (codes "FEXPR") ∷
    Plain (codes "MACRO") ∷
    Native (codes "ATOM") 1 ∷
    Native (codes "CODEP") 1 ∷
    Native (codes "CONSTANTP") 1 ∷
    Native (codes "EQ") 2 ∷
    Native (codes "EQN") 2 ∷
    Native (codes "FIXP") 1 ∷
    Native (codes "IDP") 1 ∷
    Native (codes "NOT") 1 ∷
    Native (codes "NULL") 1 ∷
    Native (codes "NUMBERP") 1 ∷
    Native (codes "PAIRP") 1 ∷
    Native (codes "STRINGP") 1 ∷
    Native (codes "VECTORP") 1 ∷
    Native (codes "EQUAL") 2 ∷
    Native (codes "MINUSP") 1 ∷
    Native (codes "ONEP") 1 ∷
    Native (codes "ZEROP") 1 ∷
    Native (codes "CAR") 1 ∷
    Native (codes "CDR") 1 ∷
    Native (codes "CAAR") 1 ∷
    Native (codes "CADR") 1 ∷
    Native (codes "CDAR") 1 ∷
    Native (codes "CDDR") 1 ∷
    Native (codes "CAAAR") 1 ∷
    Native (codes "CAADR") 1 ∷
    Native (codes "CADAR") 1 ∷
    Native (codes "CADDR") 1 ∷
    Native (codes "CDAAR") 1 ∷
    Native (codes "CDADR") 1 ∷
    Native (codes "CDDAR") 1 ∷
    Native (codes "CDDDR") 1 ∷
    Native (codes "CAAAAR") 1 ∷
    Native (codes "CAAADR") 1 ∷
    Native (codes "CAADAR") 1 ∷
    Native (codes "CAADDR") 1 ∷
    Native (codes "CADAAR") 1 ∷
    Native (codes "CADADR") 1 ∷
    Native (codes "CADDAR") 1 ∷
    Native (codes "CADDDR") 1 ∷
    Native (codes "CDAAAR") 1 ∷
    Native (codes "CDAADR") 1 ∷
    Native (codes "CDADAR") 1 ∷
    Native (codes "CDADDR") 1 ∷
    Native (codes "CDDAAR") 1 ∷
    Native (codes "CDDADR") 1 ∷
    Native (codes "CDDDAR") 1 ∷
    Native (codes "CDDDDR") 1 ∷
    Native (codes "CONS") 2 ∷
    Native (codes "RPLACA") 2 ∷
    Native (codes "RPLACD") 2 ∷
    Native (codes "APPEND") 2 ∷
    Native (codes "REVERSE") 1 ∷
    Native (codes "LENGTH") 1 ∷
    Native (codes "MEMBER") 2 ∷
    Native (codes "MEMQ") 2 ∷
    Native (codes "ASSOC") 2 ∷
    Native (codes "NCONC") 2 ∷
    Native (codes "ABS") 1 ∷
    Native (codes "ADD1") 1 ∷
    Native (codes "MINUS") 1 ∷
    Native (codes "SUB1") 1 ∷
    Native (codes "DIFFERENCE") 2 ∷
    Native (codes "PLUS2") 2 ∷
    Native (codes "TIMES2") 2 ∷
    Native (codes "MAX2") 2 ∷
    Native (codes "MIN2") 2 ∷
    Native (codes "QUOTIENT") 2 ∷
    Native (codes "REMAINDER") 2 ∷
    Native (codes "DIVIDE") 2 ∷
    Native (codes "EXPT") 2 ∷
    Native (codes "GREATERP") 2 ∷
    Native (codes "LESSP") 2 ∷
    Native (codes "ERROR") 2 ∷
    Native (codes "MKVECT") 1 ∷
    Native (codes "GETV") 2 ∷
    Native (codes "PUTV") 3 ∷
    Native (codes "UPBV") 1 ∷
    Native (codes "GENSYM") 0 ∷
    Native (codes "INTERN") 1 ∷
    Native (codes "EXPLODE") 1 ∷
    Native (codes "COMPRESS") 1 ∷
    Native (codes "DIGIT") 1 ∷
    Native (codes "LITER") 1 ∷
    Native (codes "GET") 2 ∷
    Native (codes "FLAGP") 2 ∷
    Native (codes "PUT") 3 ∷
    Native (codes "REMPROP") 2 ∷
    Native (codes "FLAG") 2 ∷
    Native (codes "REMFLAG") 2 ∷
    Native (codes "GETD") 1 ∷
    Native (codes "PUTD") 3 ∷
    Native (codes "REMD") 1 ∷
    Native (codes "FLUID") 1 ∷
    Native (codes "GLOBAL") 1 ∷
    Native (codes "UNFLUID") 1 ∷
    Native (codes "FLUIDP") 1 ∷
    Native (codes "GLOBALP") 1 ∷
    Native (codes "SET") 2 ∷
    Native (codes "PRIN1") 1 ∷
    Native (codes "PRIN2") 1 ∷
    Native (codes "PRINT") 1 ∷
    Native (codes "TERPRI") 0 ∷
    Native (codes "POSN") 0 ∷
    Native (codes "LINELENGTH") 1 ∷
    Native (codes "READ") 0 ∷
    Native (codes "READCH") 0 ∷
    Plain (codes "EVAL") ∷
    Plain (codes "ERRORSET") ∷
    Plain (codes "APPLY") ∷
    Plain (codes "COMPILE") ∷
    Plain (codes "FASLOUT") ∷
    Plain (codes "LOAD") ∷
    Plain (codes "MAP") ∷
    Plain (codes "MAPC") ∷
    Plain (codes "MAPCAR") ∷
    Plain (codes "MAPLIST") ∷
    Plain (codes "MAPCAN") ∷
    Plain (codes "MAPCON") ∷
    Plain (codes "SASSOC") ∷
    Plain (codes "SUBLIS") ∷
    Plain (codes "SUBST") ∷
    Plain (codes "DELETE") ∷
    Plain (codes "PAIR") ∷
    Plain (codes "DEFLIST") ∷
    Plain (codes "EXPAND") ∷
    Plain (codes "EVLIS") ∷
    Plain (codes "PROG2") ∷
    Plain (codes "$X") ∷
    Plain (codes "$FN") ∷
    Plain (codes "$L") ∷
    Plain (codes "$R") ∷
    Plain (codes "$U") ∷
    Plain (codes "$V") ∷
    Plain (codes "$Y") ∷
    Plain (codes "$A") ∷
    Plain (codes "$D") ∷
    Plain (codes "$W") ∷
    Plain (codes "$M") ∷
    Plain (codes "$I") ∷
    Plain (codes "$B") ∷
    []

-- the names that have a constant
abbrev pub opening_names : List (List ℕ)
opening_names = map name_of opening_rows

-- the names of one byte that the table lacks: of these it has T alone
unfoldable pub byte_names : List (List ℕ)
byte_names = map (λ b. b ∷ []) (range_with_len 0 84 ++ range_with_len 85 171)

-- all names that opening makes
abbrev pub names_at_opening : List (List ℕ)
names_at_opening = opening_names ++ byte_names

-- the cells of a name's string; the three cells of the identifier's block stand behind them
abbrev pub name_cells : List ℕ → ℕ
name_cells name = 1 + (length name + 15) / 16

-- where the block of the i-th of these names begins, where they are made one after the other from a cell on
abbrev pub place_in : List (List ℕ) → ℕ → ℕ → ℕ
place_in [] from i = from
place_in (name ∷ names) from zero = from + name_cells name
place_in (name ∷ names) from (suc i) = place_in names (from + name_cells name + 3) i

-- where the identifier number i of opening stands
abbrev pub place_of : ℕ → ℕ
place_of i = place_in names_at_opening 0 i

abbrev pub name_at : ℕ → List ℕ
name_at i = slice_index_or opening_names i []

abbrev pub arguments_at : ℕ → Option ℕ
arguments_at i = arguments_in_row (slice_index_or opening_rows i (Plain []))

-- the number of arguments of the native at a place, where these rows are made one after the other from a cell on
abbrev pub native_in : List Row → ℕ → ℕ → Option ℕ
native_in [] from place = None
native_in (row ∷ rows) from place =
    cond (place == from + name_cells (name_of row)) (arguments_in_row row)
    (native_in rows (from + name_cells (name_of row) + 3) place)

abbrev pub native_at : ℕ → Option ℕ
native_at place = native_in opening_rows 0 place

abbrev pub native_arguments : Tagged → Option ℕ
native_arguments (Number n) = None
native_arguments (IdAt place) = native_at place
native_arguments (StrAt i) = None
native_arguments (PairAt i) = None
native_arguments (VectorAt i) = None
native_arguments (BigAt i) = None
native_arguments (FunAt i) = None
