-- A machine that recognizes statements: what the parser of the grammar does, but for names, numbers and trees.
use Rattle.std.specs.Prelude.{ℕ, suc, Bool, true, false, ◌||◌, nat_le, nat_lt, if◌then◌else◌, not, List, [], ◌∷◌, Option, Some, None}
use Rattle.rl_grammar.specs.Nesting.{nesting_bound}
use Rattle.rl_lex.specs.declared.kind.Operator.TheVariants.{Plus, Minus}
use Rattle.rl_lex.specs.declared.kind.Separator.{Separator}
use Rattle.rl_lex.specs.declared.kind.Separator.TheVariants.{Semicolon}
use Rattle.rl_lex.specs.declared.kind.Way.TheVariants.{Do}
use Rattle.rl_lex.specs.declared.kind.TokenKind.{TokenKind}
use Rattle.rl_lex.specs.declared.kind.TokenKind.TheVariants.{Mode, Kind, Procedure, Identifier, Integer, String, Quoted, Infix, Word, Power, Dot, Not, Assign, Open, Close, Comma, Colon, If, Then, Else, While, Repeat, Until, For, Foreach, In, Does, OpenBlock, CloseBlock, Separating, Begin, End, Scalar, Return, Go, To, Goto}
use Rattle.rl_lex.specs.declared.kind.TokenKind.TheVariants as kind
use Rattle.rl_parse.specs.Frames.{level_of_frame, lowest_of, nested_in, nested_outside, is_lambda_frame}
use Rattle.rl_parse.specs.Kinds.{level_of_operator, kind_goes, kind_is_else, kind_is_colon, kind_begins_phrase, kind_begins}
use Rattle.rl_parse.specs.declared.frame.Frame.{Frame}
use Rattle.rl_parse.specs.declared.frame.Frame.TheVariants.{Side, Tail, Lambda, Enclosed, Condition, Consequent, Doing, Repeated, From, Each, Arguments, Pieces}
use Rattle.rl_parse.specs.declared.frame.Group.{Group}
use Rattle.rl_parse.specs.declared.frame.Group.TheVariants.{Block, Prog}
use Rattle.rl_parse.specs.declared.place.Listing.{Listing}
use Rattle.rl_parse.specs.declared.place.Listing.TheVariants.{Begun, Opening, Naming, Parted, Over}
use Rattle.rl_parse.specs.declared.place.Place.{Place}
use Rattle.rl_parse.specs.declared.place.Place.TheVariants.{Start, AtMode, AtKind, AtProcedure, AtListing, AtEnd, AtFile, AtFiles, Want, Named, Has, Opened, Shut, Returned, AtPiece, AtName, AtDeclarations, AtScalar, AtNames, AtParameters, AtFor, AtIndex, AtEach, AtIn, AtGo, AtGoal}
use Rattle.rl_parse.specs.declared.place.What.{What}
use Rattle.rl_parse.specs.declared.place.What.TheVariants as what
use Rattle.rl_parse.specs.declared.place.Step.{Step}
use Rattle.rl_parse.specs.declared.place.Step.TheVariants.{Goes, Ends, Refused}

-- it is at a place, with what has begun; the statement has ended; or the token has no place
pub data MachineStep : Type 0 where
  Moves : Place → List Frame → MachineStep
  Completes : What → Separator → MachineStep
  Refuses : MachineStep

-- what a step of the code, with what has begun then, is of these
abbrev pub shown_step : Step → List Frame → MachineStep
shown_step (Goes p) fs = Moves p fs
shown_step (Ends w s) fs = Completes w s
shown_step Refused fs = Refuses

abbrev pub wants : Frame → List Frame → MachineStep
wants f fs = Moves Want (f ∷ fs)

-- an operand begins that must not be of a higher level than this
abbrev pub allowed : ℕ → List Frame → MachineStep → MachineStep
allowed n fs m = if nat_le (lowest_of fs) n then m else Refuses

-- an operand begins
abbrev pub machine_begin : List Frame → TokenKind → MachineStep
machine_begin fs Identifier = Moves Named fs
machine_begin fs (Word w) = allowed 9 fs (Moves Named fs)
machine_begin fs Integer = Moves (Has false) fs
machine_begin fs String = Moves (Has false) fs
machine_begin fs Quoted = Moves (Has false) fs
machine_begin fs Open = allowed 9 fs (wants Enclosed fs)
machine_begin fs (Infix Plus) = allowed 5 fs (wants (Side 6) fs)
machine_begin fs (Infix Minus) = allowed 5 fs (wants (Side 6) fs)
machine_begin fs Not = allowed 3 fs (wants (Tail 3) fs)
machine_begin fs If = wants Condition fs
machine_begin fs While = wants Doing fs
machine_begin fs Repeat = wants Repeated fs
machine_begin fs For = Moves AtFor fs
machine_begin fs Foreach = Moves AtEach fs
machine_begin fs OpenBlock = Moves (AtPiece Block) fs
machine_begin fs Begin = Moves AtDeclarations fs
machine_begin fs Return = Moves Returned fs
machine_begin fs Go = Moves AtGo fs
machine_begin fs Goto = Moves AtGoal fs
machine_begin fs kind.Lambda = Moves (AtParameters Begun) fs
machine_begin fs k = Refuses

-- an operand goes on with an operator
abbrev pub machine_pushed : List Frame → TokenKind → MachineStep
machine_pushed fs (Infix o) = wants (Side (suc (level_of_operator o))) fs
machine_pushed fs (Word w) = wants (Side 5) fs
machine_pushed fs Power = wants (Tail 7) fs
machine_pushed fs Dot = wants (Tail 8) fs
machine_pushed fs k = Refuses

-- pieces end, or another may begin
abbrev pub machine_pieced : List Frame → Group → TokenKind → MachineStep
machine_pieced fs g (Separating s) = Moves (AtPiece g) fs
machine_pieced fs Block CloseBlock = Moves (Has false) fs
machine_pieced fs Prog End = Moves (Has false) fs
machine_pieced fs g k = Refuses

-- what has begun ends with its operand before the token
abbrev pub ends_with_operand : Frame → TokenKind → Bool
ends_with_operand (Side n) k = true
ends_with_operand (Tail n) k = true
ends_with_operand Lambda k = true
ends_with_operand Consequent k = not (kind_is_else k)
ends_with_operand f k = false

-- what has begun waits for a token behind its operand; the operand is a lambda or not
abbrev pub machine_closed : Frame → List Frame → Bool → TokenKind → MachineStep
machine_closed Enclosed fs lambda Close = if lambda then Moves Shut fs else Moves (Has false) fs
machine_closed Condition fs lambda Then = wants Consequent fs
machine_closed Consequent fs lambda Else = wants (Tail 0) fs
machine_closed Doing fs lambda (Does Do) = wants (Tail 0) fs
machine_closed Repeated fs lambda Until = wants (Tail 0) fs
machine_closed From fs lambda Colon = wants Doing fs
machine_closed Each fs lambda (Does w) = wants (Tail 0) fs
machine_closed Arguments fs lambda Comma = wants Arguments fs
machine_closed Arguments fs lambda Close = Moves (Has false) fs
machine_closed (Pieces g) fs lambda k = machine_pieced fs g k
machine_closed f fs lambda k = Refuses

-- the statement ends, or does not
abbrev pub machine_whole : TokenKind → MachineStep
machine_whole (Separating s) = Completes what.Form s
machine_whole k = Refuses

-- an operand has come
abbrev pub machine_after : List Frame → Bool → TokenKind → MachineStep
machine_after [] lambda k = if kind_goes 0 k then machine_pushed [] k else machine_whole k
machine_after (f ∷ fs) lambda k = if kind_goes (level_of_frame f) k then machine_pushed (f ∷ fs) k else (if ends_with_operand f k then machine_after fs (is_lambda_frame f) k else machine_closed f fs lambda k)

-- a name has come
abbrev pub machine_alone : List Frame → TokenKind → MachineStep
machine_alone fs Assign = allowed 0 fs (wants (Tail 0) fs)
machine_alone fs Open = Moves Opened fs
machine_alone fs k = machine_after fs false k

abbrev pub machine_named : List Frame → TokenKind → MachineStep
machine_named fs k = if kind_begins_phrase k then machine_begin (Tail 10 ∷ fs) k else machine_alone fs k

abbrev pub machine_opened : List Frame → TokenKind → MachineStep
machine_opened fs Close = Moves (Has false) fs
machine_opened fs k = if kind_begins k then machine_begin (Arguments ∷ fs) k else Refuses

abbrev pub machine_shut : List Frame → TokenKind → MachineStep
machine_shut fs Open = Moves Opened fs
machine_shut fs k = machine_after fs false k

abbrev pub machine_returned : List Frame → TokenKind → MachineStep
machine_returned fs k = if kind_begins k then machine_begin (Tail 0 ∷ fs) k else machine_after fs false k

-- a piece may begin
abbrev pub machine_piece_begins : List Frame → Group → TokenKind → MachineStep
machine_piece_begins fs Prog Identifier = Moves (AtName Prog) fs
machine_piece_begins fs g k = machine_begin (Pieces g ∷ fs) k

abbrev pub machine_piece : List Frame → Group → TokenKind → MachineStep
machine_piece fs g k = if kind_begins k then machine_piece_begins fs g k else machine_pieced fs g k

abbrev pub machine_name : List Frame → Group → TokenKind → MachineStep
machine_name fs g k = if kind_is_colon k then Moves (AtPiece g) fs else machine_named (Pieces g ∷ fs) k

abbrev pub machine_declarations : List Frame → TokenKind → MachineStep
machine_declarations fs Scalar = Moves AtScalar fs
machine_declarations fs k = machine_piece fs Prog k

abbrev pub machine_names : List Frame → TokenKind → MachineStep
machine_names fs Comma = Moves AtScalar fs
machine_names fs (Separating Semicolon) = Moves AtDeclarations fs
machine_names fs k = Refuses

-- where a parameter list goes on
abbrev pub listing_on : Listing → TokenKind → Option Listing
listing_on Begun Identifier = Some Over
listing_on Begun Open = Some Opening
listing_on Opening Close = Some Over
listing_on Opening Identifier = Some Naming
listing_on Naming Comma = Some Parted
listing_on Naming Close = Some Over
listing_on Parted Identifier = Some Naming
listing_on l k = None

abbrev pub listing_ends : Listing → TokenKind → Bool
listing_ends Begun (Separating Semicolon) = true
listing_ends Over (Separating Semicolon) = true
listing_ends l k = false

abbrev pub listed : List Frame → (Listing → Place) → Option Listing → MachineStep
listed fs place (Some l) = Moves (place l) fs
listed fs place None = Refuses

-- a parameter list goes on in this place, or ends so
abbrev pub machine_listing : Listing → List Frame → (Listing → Place) → MachineStep → TokenKind → MachineStep
machine_listing l fs place over k = if listing_ends l k then over else listed fs place (listing_on l k)

abbrev pub machine_for : List Frame → TokenKind → MachineStep
machine_for fs kind.Each = Moves AtEach fs
machine_for fs Identifier = Moves AtIndex fs
machine_for fs k = Refuses

abbrev pub machine_go : List Frame → TokenKind → MachineStep
machine_go fs To = Moves AtGoal fs
machine_go fs Identifier = Moves (Has false) fs
machine_go fs k = Refuses

abbrev pub machine_index : List Frame → TokenKind → MachineStep
machine_index fs Assign = wants From fs
machine_index fs k = Refuses

abbrev pub machine_in : List Frame → TokenKind → MachineStep
machine_in fs In = wants Each fs
machine_in fs k = Refuses

abbrev pub machine_identifier : List Frame → Place → TokenKind → MachineStep
machine_identifier fs p Identifier = Moves p fs
machine_identifier fs p k = Refuses

-- ---- what stands before an expr, and statements that have none

abbrev pub machine_body : List Frame → TokenKind → MachineStep
machine_body fs (Kind w) = Moves AtKind fs
machine_body fs Procedure = Moves AtProcedure fs
machine_body fs k = machine_begin fs k

abbrev pub machine_start : List Frame → TokenKind → MachineStep
machine_start fs (Separating s) = Completes what.Nothing s
machine_start fs End = Moves AtEnd fs
machine_start fs In = Moves AtFile fs
machine_start fs (Mode m) = Moves AtMode fs
machine_start fs k = machine_body fs k

abbrev pub machine_mode : List Frame → TokenKind → MachineStep
machine_mode fs (Separating s) = Completes what.Form s
machine_mode fs k = machine_body fs k

abbrev pub machine_kind : List Frame → TokenKind → MachineStep
machine_kind fs Procedure = Moves AtProcedure fs
machine_kind fs k = Refuses

abbrev pub machine_end : TokenKind → MachineStep
machine_end (Separating s) = Completes what.End s
machine_end k = Refuses

abbrev pub machine_file : List Frame → TokenKind → MachineStep
machine_file fs String = Moves AtFiles fs
machine_file fs k = Refuses

abbrev pub machine_files : List Frame → TokenKind → MachineStep
machine_files fs Comma = Moves AtFile fs
machine_files fs (Separating s) = Completes what.Files s
machine_files fs k = Refuses

-- ---- a step

abbrev pub machine_step : Place → List Frame → TokenKind → MachineStep
machine_step Start fs k = machine_start fs k
machine_step AtMode fs k = machine_mode fs k
machine_step AtKind fs k = machine_kind fs k
machine_step AtProcedure fs k = machine_identifier fs (AtListing Begun) k
machine_step (AtListing l) fs k = machine_listing l fs AtListing (Moves Want fs) k
machine_step AtEnd fs k = machine_end k
machine_step AtFile fs k = machine_file fs k
machine_step AtFiles fs k = machine_files fs k
machine_step Want fs k = machine_begin fs k
machine_step Named fs k = machine_named fs k
machine_step (Has lambda) fs k = machine_after fs lambda k
machine_step Opened fs k = machine_opened fs k
machine_step Shut fs k = machine_shut fs k
machine_step Returned fs k = machine_returned fs k
machine_step (AtPiece g) fs k = machine_piece fs g k
machine_step (AtName g) fs k = machine_name fs g k
machine_step AtDeclarations fs k = machine_declarations fs k
machine_step AtScalar fs k = machine_identifier fs AtNames k
machine_step AtNames fs k = machine_names fs k
machine_step (AtParameters l) fs k = machine_listing l fs AtParameters (wants Lambda fs) k
machine_step AtFor fs k = machine_for fs k
machine_step AtIndex fs k = machine_index fs k
machine_step AtEach fs k = machine_identifier fs AtIn k
machine_step AtIn fs k = machine_in fs k
machine_step AtGo fs k = machine_go fs k
machine_step AtGoal fs k = machine_identifier fs (Has false) k

-- ---- bounded nesting

-- no expr has begun
abbrev pub is_before_expr : Place → Bool
is_before_expr Start = true
is_before_expr AtMode = true
is_before_expr AtKind = true
is_before_expr AtProcedure = true
is_before_expr (AtListing l) = true
is_before_expr AtEnd = true
is_before_expr AtFile = true
is_before_expr AtFiles = true
is_before_expr p = false

-- a word of a phrase has come, or a name in one
abbrev pub is_at_word : Place → Bool
is_at_word AtScalar = true
is_at_word AtNames = true
is_at_word (AtParameters l) = true
is_at_word AtFor = true
is_at_word AtIndex = true
is_at_word AtEach = true
is_at_word AtIn = true
is_at_word AtGo = true
is_at_word AtGoal = true
is_at_word p = false

-- how many are unfinished at the last token
abbrev pub machine_depth : Place → List Frame → ℕ
machine_depth Want fs = nested_outside fs
machine_depth p fs = if is_before_expr p then 0 else nested_in fs

abbrev pub machine_bounded : MachineStep → MachineStep
machine_bounded (Moves p fs) = if nat_le (machine_depth p fs) nesting_bound then Moves p fs else Refuses
machine_bounded m = m

-- a name that is no label stands deeper
abbrev pub machine_admits : Place → List Frame → TokenKind → Bool
machine_admits (AtName g) fs k = kind_is_colon k || nat_lt (nested_in fs) nesting_bound
machine_admits p fs k = true

abbrev pub machine_within : Place → List Frame → TokenKind → MachineStep
machine_within p fs k = if machine_admits p fs k then machine_bounded (machine_step p fs k) else Refuses
