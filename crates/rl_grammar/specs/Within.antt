-- Parsing a statement with bounded nesting: a token is refused too where more would be unfinished at it than the bound allows.
use Rattle.std.specs.Prelude.{ℕ, suc, Bool, true, ◌||◌, nat_le, nat_lt, if◌then◌else◌, List, [], ◌∷◌}
use Rattle.rl_grammar.specs.Token.{Token}
use Rattle.rl_grammar.specs.Parser.{ParserFrame, InBinary, InSign, ParserState, Want, Has, Opened, Shut, Returned, AtPiece, AtName, AtDeclarations, AtScalar, AtNames, AtMore, AtParameters, AtFor, AtIndex, AtEach, AtIn, AtGo, AtGoal, is_colon}
use Rattle.rl_grammar.specs.Parser as parser
use Rattle.rl_grammar.specs.Statement.{StatementPlace, Start, Inside, PlaceStep, GoesTo, Fails, place_step, Result, Syntax, after_place}
use Rattle.rl_grammar.specs.Nesting.{nesting_bound}

-- how many are unfinished in an operand of what has begun
abbrev pub nesting : List ParserFrame → ℕ
nesting [] = 1
nesting (InBinary o a ∷ fs) = nesting fs
nesting (InSign s ∷ fs) = nesting fs
nesting (f ∷ fs) = suc (nesting fs)

-- how many are unfinished at the last token; where it is a name that may be a label, these at least
abbrev pub depth : ParserState → ℕ
depth (Want []) = 0
depth (Want (f ∷ fs)) = nesting fs
depth (parser.Named fs h) = nesting fs
depth (Has fs a) = nesting fs
depth (Opened fs c) = nesting fs
depth (Shut fs a) = nesting fs
depth (Returned fs) = nesting fs
depth (AtPiece fs g ps ls) = nesting fs
depth (AtName fs g ps ls x) = nesting fs
depth (AtDeclarations fs ds) = nesting fs
depth (AtScalar fs ds) = nesting fs
depth (AtNames fs ds xs) = nesting fs
depth (AtMore fs ds xs) = nesting fs
depth (AtParameters fs l) = nesting fs
depth (AtFor fs) = nesting fs
depth (AtIndex fs x) = nesting fs
depth (AtEach fs e) = nesting fs
depth (AtIn fs e x) = nesting fs
depth (AtGo fs) = nesting fs
depth (AtGoal fs g) = nesting fs

-- the token before this one may be what it turns out to be by this one: a name without `:` is no label, and stands deeper
abbrev pub admits_token : ParserState → Token → Bool
admits_token (AtName fs g ps ls x) t = is_colon t || nat_lt (nesting fs) nesting_bound
admits_token s t = true

abbrev pub bounded_place : PlaceStep → PlaceStep
bounded_place (GoesTo (Inside b s)) = if nat_le (depth s) nesting_bound then GoesTo (Inside b s) else Fails
bounded_place st = st

abbrev pub admits_place : StatementPlace → Token → Bool
admits_place (Inside b s) t = admits_token s t
admits_place s t = true

abbrev pub place_within : StatementPlace → Token → PlaceStep
place_within s t = if admits_place s t then bounded_place (place_step s t) else Fails

abbrev pub place_run_within : StatementPlace → List Token → Result
place_run_within s [] = Syntax []
place_run_within s (t ∷ ts) = after_place ts t (place_within s t) (λ s. place_run_within s ts)

abbrev pub parse_within : List Token → Result
parse_within ts = place_run_within Start ts
