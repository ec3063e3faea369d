-- What the machine keeps of a parser: the place, and of what has begun what ends it.
use Rattle.std.specs.Prelude.{suc, List, [], map}
use Rattle.rl_lex.specs.Kinds.{separator_kind}
use Rattle.rl_grammar.specs.Tree.{StatementBody, Empty, Ending, InFiles, Only, Based}
use Rattle.rl_grammar.specs.Tree as tree
use Rattle.rl_grammar.specs.Grammar.{level, is_parenthesized_lambda}
use Rattle.rl_grammar.specs.Parser.{ParserFrame, InBinary, InPower, InPair, InNot, InSign, InApply, InSet, InEnclosed, InCond, InThen, InElse, InWhile, InDo, InRepeat, InUntil, InFrom, InTo, InFor, InOf, InEach, InLambda, InArgs, InPiece, InReturn, ParserState, AtMore, ParserStep, Done}
use Rattle.rl_grammar.specs.Parser as parser
use Rattle.rl_grammar.specs.Statement.{StatementPlace, Inside, PlaceStep, GoesTo, Fails}
use Rattle.rl_grammar.specs.Statement as statement
use Rattle.rl_parse.specs.Machine.{MachineStep, Moves, Completes, Refuses}
use Rattle.rl_parse.specs.declared.frame.Frame.{Frame}
use Rattle.rl_parse.specs.declared.frame.Frame.TheVariants.{Side, Tail, Lambda, Enclosed, Condition, Consequent, Doing, Repeated, From, Each, Arguments, Pieces}
use Rattle.rl_parse.specs.declared.frame.Group.{Group}
use Rattle.rl_parse.specs.declared.frame.Group.TheVariants.{Block, Prog}
use Rattle.rl_parse.specs.declared.place.Listing.{Listing}
use Rattle.rl_parse.specs.declared.place.Listing.TheVariants.{Begun, Opening, Naming, Parted, Over}
use Rattle.rl_parse.specs.declared.place.Place.{Place}
use Rattle.rl_parse.specs.declared.place.Place.TheVariants.{Start, AtMode, AtKind, AtProcedure, AtListing, AtEnd, AtFile, AtFiles, Want, Named, Has, Opened, Shut, Returned, AtPiece, AtName, AtDeclarations, AtScalar, AtNames, AtParameters, AtFor, AtIndex, AtEach, AtIn, AtGo, AtGoal}
use Rattle.rl_parse.specs.declared.place.What.{What}
use Rattle.rl_parse.specs.declared.place.What.TheVariants as what

abbrev pub group_shape : tree.Group → Group
group_shape tree.Block = Block
group_shape (tree.Prog ds) = Prog

abbrev pub listing_shape : parser.Listing → Listing
listing_shape parser.Begun = Begun
listing_shape parser.Opening = Opening
listing_shape (parser.Naming xs) = Naming
listing_shape (parser.Parted xs) = Parted
listing_shape (parser.Over p) = Over

abbrev pub frame_shape : ParserFrame → Frame
frame_shape (InBinary o a) = Side (suc (level o))
frame_shape (InPower a) = Tail 7
frame_shape (InPair a) = Tail 8
frame_shape InNot = Tail 3
frame_shape (InSign s) = Side 6
frame_shape (InApply h) = Tail 10
frame_shape (InSet h) = Tail 0
frame_shape InEnclosed = Enclosed
frame_shape InCond = Condition
frame_shape (InThen a) = Consequent
frame_shape (InElse a b) = Tail 0
frame_shape InWhile = Doing
frame_shape (InDo a) = Tail 0
frame_shape InRepeat = Repeated
frame_shape (InUntil a) = Tail 0
frame_shape (InFrom x) = From
frame_shape (InTo x a) = Doing
frame_shape (InFor x a b) = Tail 0
frame_shape (InOf e x) = Each
frame_shape (InEach e x a w) = Tail 0
frame_shape (InLambda p) = Lambda
frame_shape (InArgs c es) = Arguments
frame_shape (InPiece g ps ls) = Pieces (group_shape g)
frame_shape InReturn = Tail 0

abbrev pub frames_shape : List ParserFrame → List Frame
frames_shape fs = map frame_shape fs

-- what has begun at a state
abbrev pub frames_at : ParserState → List ParserFrame
frames_at (parser.Want fs) = fs
frames_at (parser.Named fs h) = fs
frames_at (parser.Has fs a) = fs
frames_at (parser.Opened fs c) = fs
frames_at (parser.Shut fs a) = fs
frames_at (parser.Returned fs) = fs
frames_at (parser.AtPiece fs g ps ls) = fs
frames_at (parser.AtName fs g ps ls x) = fs
frames_at (parser.AtDeclarations fs ds) = fs
frames_at (parser.AtScalar fs ds) = fs
frames_at (parser.AtNames fs ds xs) = fs
frames_at (AtMore fs ds xs) = fs
frames_at (parser.AtParameters fs l) = fs
frames_at (parser.AtFor fs) = fs
frames_at (parser.AtIndex fs x) = fs
frames_at (parser.AtEach fs e) = fs
frames_at (parser.AtIn fs e x) = fs
frames_at (parser.AtGo fs) = fs
frames_at (parser.AtGoal fs g) = fs

abbrev pub state_shape : ParserState → Place
state_shape (parser.Want fs) = Want
state_shape (parser.Named fs h) = Named
state_shape (parser.Has fs a) = Has (is_parenthesized_lambda a)
state_shape (parser.Opened fs c) = Opened
state_shape (parser.Shut fs a) = Shut
state_shape (parser.Returned fs) = Returned
state_shape (parser.AtPiece fs g ps ls) = AtPiece (group_shape g)
state_shape (parser.AtName fs g ps ls x) = AtName (group_shape g)
state_shape (parser.AtDeclarations fs ds) = AtDeclarations
state_shape (parser.AtScalar fs ds) = AtScalar
state_shape (parser.AtNames fs ds xs) = AtNames
state_shape (AtMore fs ds xs) = AtScalar
state_shape (parser.AtParameters fs l) = AtParameters (listing_shape l)
state_shape (parser.AtFor fs) = AtFor
state_shape (parser.AtIndex fs x) = AtIndex
state_shape (parser.AtEach fs e) = AtEach
state_shape (parser.AtIn fs e x) = AtIn
state_shape (parser.AtGo fs) = AtGo
state_shape (parser.AtGoal fs g) = AtGoal

abbrev pub place_shape : StatementPlace → Place
place_shape statement.Start = Start
place_shape (statement.AtMode m) = AtMode
place_shape (statement.AtKind m k) = AtKind
place_shape (statement.AtProcedure m k) = AtProcedure
place_shape (statement.AtListing m k x l) = AtListing (listing_shape l)
place_shape statement.AtEnd = AtEnd
place_shape (statement.AtFile ks) = AtFile
place_shape (statement.AtFiles ks) = AtFiles
place_shape (Inside b s) = state_shape s

abbrev pub begun_at : StatementPlace → List ParserFrame
begun_at (Inside b s) = frames_at s
begun_at s = []

-- what a statement is
abbrev pub what_of : StatementBody → What
what_of Empty = what.Nothing
what_of Ending = what.End
what_of (InFiles ks) = what.Files
what_of (Only m) = what.Form
what_of (Based b a) = what.Form

abbrev pub step_shape : ParserStep → MachineStep
step_shape (parser.Goes s) = Moves (state_shape s) (frames_shape (frames_at s))
step_shape (Done a p) = Completes what.Form (separator_kind p)
step_shape parser.Refuses = Refuses

abbrev pub place_step_shape : PlaceStep → MachineStep
place_step_shape (GoesTo s) = Moves (place_shape s) (frames_shape (begun_at s))
place_step_shape (statement.Ends b p) = Completes (what_of b) (separator_kind p)
place_step_shape Fails = Refuses
