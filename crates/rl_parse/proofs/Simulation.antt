-- The machine does what the parser of the grammar does.
use Rattle.std.proofs.Common.{◌≡◌, ℕ, suc, Bool, true, false, nat_le, nat_lt, ◌||◌, List, [], ◌∷◌, refl, ap, sym, ◌∙◌, subst}
use Rattle.std.specs.Prelude.{if◌then◌else◌}
use Rattle.rl_tree.specs.Name.{Name}
use Rattle.rl_lex.specs.Kinds.{kind_of_token, operator_kind}
use Rattle.rl_grammar.specs.Token.{Operator, Or, Plus, Minus, Semicolon, Do, Token, Mode, Kind, Procedure, Identifier, String, Infix, Word, Not, Assign, Open, Close, Comma, Colon, If, Then, Else, Until, Each, In, Does, Separating, End, Scalar, To, ModeWord, KindWord}
use Rattle.rl_grammar.specs.Tree.{NameUse, Plain, Group, Block, Prog, Tree, LambdaOf, Binary, Raise, Pair, Negate, Signed, Apply, Set, IfThen, IfElse, WhileDo, RepeatUntil, ForTo, EachIn, ReturnNone, ReturnOf, Variable, Enclosed, Something, Nothing, Labels, Unlabelled, Label, Declarations, NameList, Callee, Pieces, EachOf, MaybeMode, NoMode, InMode, MaybeKind, Base, Plainly, FileNames}
use Rattle.rl_grammar.specs.Grammar.{operator_level, goes, begins_phrase, begins, is_parenthesized_lambda}
use Rattle.rl_grammar.specs.Parser.{ParserFrame, InBinary, InPower, InPair, InNot, InSign, InApply, InSet, InEnclosed, InCond, InThen, InElse, InWhile, InDo, InRepeat, InUntil, InFrom, InTo, InFor, InOf, InEach, InLambda, InArgs, InPiece, InReturn, operand_level, lowest, ParserState, Want, Has, Shut, Returned, Opened, AtPiece, AtName, AtDeclarations, AtScalar, AtNames, AtMore, AtParameters, AtFor, AtIndex, AtEach, AtIn, AtGo, AtGoal, ParserStep, Goes, Done, Refuses, begin, pushed, pieced, operand_ended, statement_whole, after, name_alone, named, call_empty, shut, piece_begins, at_piece, at_name, at_declarations, at_names, at_parameters, at_for, at_go, at_identifier, at_index, at_in, parser_step, is_colon, Behind, NoPiece, None, pieces_with, Listing, Begun, Opening, Naming, Parted, Over}
use Rattle.rl_grammar.specs.Parser as parser
use Rattle.rl_grammar.specs.Statement.{StatementPlace, Start, AtMode, AtKind, AtProcedure, AtListing, AtEnd, AtFile, AtFiles, Inside, PlaceStep, GoesTo, Ends, Fails, inside, at_body, at_start, at_mode, at_kind, at_procedure, at_listing, place_at_end, at_file, at_files, place_step, MaybeFiles}
use Rattle.rl_grammar.specs.Nesting.{nesting_bound}
use Rattle.rl_grammar.specs.Within.{nesting, depth, bounded_place, admits_place, place_within}
use Rattle.rl_parse.specs.Frames.{level_of_frame, lowest_of, nested_in, is_lambda_frame}
use Rattle.rl_parse.specs.Kinds.{level_of_operator, kind_goes, kind_is_colon, kind_begins, kind_begins_phrase}
use Rattle.rl_parse.specs.Machine.{MachineStep, Moves, Completes, machine_begin, machine_pushed, machine_pieced, ends_with_operand, machine_closed, machine_after, machine_whole, machine_alone, machine_named, machine_opened, machine_shut, machine_returned, machine_piece_begins, machine_piece, machine_name, machine_declarations, machine_names, machine_listing, machine_for, machine_go, machine_index, machine_in, machine_identifier, machine_body, machine_start, machine_mode, machine_kind, machine_end, machine_file, machine_files, machine_step, machine_depth, machine_bounded, machine_admits, machine_within, wants}
use Rattle.rl_parse.specs.Machine as machine
use Rattle.rl_parse.specs.Shapes.{group_shape, listing_shape, frame_shape, frames_shape, frames_at, state_shape, step_shape, place_shape, begun_at, place_step_shape}
use Rattle.rl_parse.specs.declared.frame.Frame.{Frame}
use Rattle.rl_parse.specs.declared.frame.Frame.TheVariants as frame
use Rattle.rl_parse.specs.declared.place.Place.{Place}
use Rattle.rl_parse.specs.declared.place.Place.TheVariants as place
use Rattle.rl_lex.specs.declared.kind.TokenKind.{TokenKind}

-- ---- what kinds tell

operator_tells : (o : Operator) → level_of_operator (operator_kind o) ≡ operator_level o
operator_tells Or = refl
operator_tells o = refl

goes_tells : (n : ℕ) (t : Token) → kind_goes n (kind_of_token t) ≡ goes n t
goes_tells n (Infix o) = ap (nat_le n) (operator_tells o)
goes_tells n t = refl

colon_tells : (t : Token) → kind_is_colon (kind_of_token t) ≡ is_colon t
colon_tells Colon = refl
colon_tells t = refl

phrase_tells : (t : Token) → kind_begins_phrase (kind_of_token t) ≡ begins_phrase t
phrase_tells If = refl
phrase_tells t = refl

begins_tells : (t : Token) → kind_begins (kind_of_token t) ≡ begins t
begins_tells (Infix Plus) = refl
begins_tells t = refl

level_tells : (f : ParserFrame) → level_of_frame (frame_shape f) ≡ operand_level f
level_tells InNot = refl
level_tells f = refl

lowest_tells : (fs : List ParserFrame) → lowest_of (frames_shape fs) ≡ lowest fs
lowest_tells [] = refl
lowest_tells (f ∷ fs) = level_tells f

-- ---- choices

cond_same : (c : Bool) (st su : ParserStep) (m n : MachineStep) → step_shape st ≡ m → step_shape su ≡ n → step_shape (if c then st else su) ≡ (if c then m else n)
cond_same true st su m n first second = first
cond_same false st su m n first second = second

cond_shape : (c d : Bool) (st su : ParserStep) (m n : MachineStep) → d ≡ c → step_shape st ≡ m → step_shape su ≡ n → step_shape (if c then st else su) ≡ (if d then m else n)
cond_shape c d st su m n is first second = subst (λ (b : Bool). step_shape (if c then st else su) ≡ (if b then m else n)) (sym is) (cond_same c st su m n first second)

allowed_shape : (n : ℕ) (fs : List ParserFrame) (st : ParserStep) (m : MachineStep) → step_shape st ≡ m → step_shape (if nat_le (lowest fs) n then st else Refuses) ≡ machine.allowed n (frames_shape fs) m
allowed_shape n fs st m is = cond_shape (nat_le (lowest fs) n) (nat_le (lowest_of (frames_shape fs)) n) st Refuses m machine.Refuses (ap (λ (l : ℕ). nat_le l n) (lowest_tells fs)) is refl

-- ---- an operand begins

begin_shape : (fs : List ParserFrame) (t : Token) → step_shape (begin fs t) ≡ machine_begin (frames_shape fs) (kind_of_token t)
begin_shape fs (Word w) = allowed_shape 9 fs _ _ refl
begin_shape fs Open = allowed_shape 9 fs _ _ refl
begin_shape fs (Infix Plus) = allowed_shape 5 fs _ _ refl
begin_shape fs (Infix Minus) = allowed_shape 5 fs _ _ refl
begin_shape fs Not = allowed_shape 3 fs _ _ refl
begin_shape fs t = refl

-- ---- an operand has come

pushed_shape : (fs : List ParserFrame) (a : Tree) (t : Token) → step_shape (pushed fs a t) ≡ machine_pushed (frames_shape fs) (kind_of_token t)
pushed_shape fs a (Infix o) = ap (λ (n : ℕ). wants (frame.Side (suc n)) (frames_shape fs)) (sym (operator_tells o))
pushed_shape fs a t = refl

whole_shape : (a : Tree) (t : Token) → step_shape (statement_whole a t) ≡ machine_whole (kind_of_token t)
whole_shape a (Separating s) = refl
whole_shape a t = refl

pieced_shape : (fs : List ParserFrame) (g : Group) (ps : Pieces) (t : Token) → step_shape (pieced fs g ps t) ≡ machine_pieced (frames_shape fs) (group_shape g) (kind_of_token t)
pieced_shape fs Block ps (Separating s) = refl
pieced_shape fs (Prog ds) ps (Separating s) = refl
pieced_shape fs Block ps t = refl
pieced_shape fs (Prog ds) ps t = refl

abbrev AfterShape : List ParserFrame → Token → Type 0
AfterShape fs t = (b : Tree) → step_shape (after fs b t) ≡ machine_after (frames_shape fs) (is_parenthesized_lambda b) (kind_of_token t)

abbrev machine_ended : Frame → List Frame → Bool → TokenKind → MachineStep
machine_ended f fs lambda k = if ends_with_operand f k then machine_after fs (is_lambda_frame f) k else machine_closed f fs lambda k

ended_shape : (f : ParserFrame) (fs : List ParserFrame) (a : Tree) (t : Token) → AfterShape fs t → step_shape (operand_ended f fs a t (λ b. after fs b t)) ≡ machine_ended (frame_shape f) (frames_shape fs) (is_parenthesized_lambda a) (kind_of_token t)
ended_shape (InBinary o b) fs a t next = next (Binary o b a)
ended_shape (InPower b) fs a t next = next (Raise b a)
ended_shape (InPair b) fs a t next = next (Pair b a)
ended_shape InNot fs a t next = next (Negate a)
ended_shape (InSign s) fs a t next = next (Signed s a)
ended_shape (InApply h) fs a t next = next (Apply h a)
ended_shape (InSet h) fs a t next = next (Set h a)
ended_shape InEnclosed fs a Close next = cond_same (is_parenthesized_lambda a) (Goes (Shut fs a)) (Goes (Has fs (Enclosed a))) _ _ refl refl
ended_shape InCond fs a Then next = refl
ended_shape (InThen b) fs a Else next = refl
ended_shape (InThen b) fs a t next = next (IfThen b a)
ended_shape (InElse b c) fs a t next = next (IfElse b c a)
ended_shape InWhile fs a (Does Do) next = refl
ended_shape (InDo b) fs a t next = next (WhileDo b a)
ended_shape InRepeat fs a Until next = refl
ended_shape (InUntil b) fs a t next = next (RepeatUntil b a)
ended_shape (InFrom x) fs a Colon next = refl
ended_shape (InTo x b) fs a (Does Do) next = refl
ended_shape (InFor x b c) fs a t next = next (ForTo x b c a)
ended_shape (InOf w x) fs a (Does v) next = refl
ended_shape (InEach w x b v) fs a t next = next (EachIn w x b v a)
ended_shape (InLambda p) fs a t next = next (LambdaOf p a)
ended_shape (InArgs c es) fs a Comma next = refl
ended_shape (InArgs c es) fs a Close next = refl
ended_shape (InPiece g ps ls) fs a t next = pieced_shape fs g (pieces_with ps (Something ls a)) t
ended_shape InReturn fs a t next = next (ReturnOf a)
ended_shape f fs a t next = refl

after_shape : (fs : List ParserFrame) (a : Tree) (t : Token) → step_shape (after fs a t) ≡ machine_after (frames_shape fs) (is_parenthesized_lambda a) (kind_of_token t)
after_shape [] a t = cond_shape (goes 0 t) (kind_goes 0 (kind_of_token t)) (pushed [] a t) (statement_whole a t) _ _ (goes_tells 0 t) (pushed_shape [] a t) (whole_shape a t)
after_shape (f ∷ fs) a t =
    cond_shape (goes (operand_level f) t) (kind_goes (level_of_frame (frame_shape f)) (kind_of_token t)) (pushed (f ∷ fs) a t) (operand_ended f fs a t (λ b. after fs b t)) _ _
    (ap (λ (n : ℕ). kind_goes n (kind_of_token t)) (level_tells f) ∙ goes_tells (operand_level f) t)
    (pushed_shape (f ∷ fs) a t)
    (ended_shape f fs a t (λ b. after_shape fs b t))

-- ---- names

alone_shape : (fs : List ParserFrame) (h : NameUse) (t : Token) → step_shape (name_alone fs h t) ≡ machine_alone (frames_shape fs) (kind_of_token t)
alone_shape fs h Assign = allowed_shape 0 fs _ _ refl
alone_shape fs h Open = refl
alone_shape fs h t = after_shape fs (Variable h) t

named_shape : (fs : List ParserFrame) (h : NameUse) (t : Token) → step_shape (named fs h t) ≡ machine_named (frames_shape fs) (kind_of_token t)
named_shape fs h t = cond_shape (begins_phrase t) (kind_begins_phrase (kind_of_token t)) (begin (InApply h ∷ fs) t) (name_alone fs h t) _ _ (phrase_tells t) (begin_shape (InApply h ∷ fs) t) (alone_shape fs h t)

empty_shape : (fs : List ParserFrame) (c : Callee) (t : Token) → step_shape (if begins t then begin (InArgs c None ∷ fs) t else call_empty fs c t) ≡ machine_opened (frames_shape fs) (kind_of_token t)
empty_shape fs c Close = refl
empty_shape fs c t = cond_shape (begins t) (kind_begins (kind_of_token t)) (begin (InArgs c None ∷ fs) t) Refuses _ _ (begins_tells t) (begin_shape (InArgs c None ∷ fs) t) refl

shut_shape : (fs : List ParserFrame) (a : Tree) (t : Token) → step_shape (shut fs a t) ≡ machine_shut (frames_shape fs) (kind_of_token t)
shut_shape fs a Open = refl
shut_shape fs a t = after_shape fs (Enclosed a) t

returned_shape : (fs : List ParserFrame) (t : Token) → step_shape (parser_step (Returned fs) t) ≡ machine_returned (frames_shape fs) (kind_of_token t)
returned_shape fs t = cond_shape (begins t) (kind_begins (kind_of_token t)) (begin (InReturn ∷ fs) t) (after fs ReturnNone t) _ _ (begins_tells t) (begin_shape (InReturn ∷ fs) t) (after_shape fs ReturnNone t)

-- ---- pieces

piece_begins_shape : (fs : List ParserFrame) (g : Group) (ps : Behind) (ls : Labels) (t : Token) → step_shape (piece_begins fs g ps ls t) ≡ machine_piece_begins (frames_shape fs) (group_shape g) (kind_of_token t)
piece_begins_shape fs (Prog ds) ps ls (Identifier x) = refl
piece_begins_shape fs (Prog ds) ps ls t = begin_shape (InPiece (Prog ds) ps ls ∷ fs) t
piece_begins_shape fs Block ps ls t = begin_shape (InPiece Block ps ls ∷ fs) t

piece_shape : (fs : List ParserFrame) (g : Group) (ps : Behind) (ls : Labels) (t : Token) → step_shape (at_piece fs g ps ls t) ≡ machine_piece (frames_shape fs) (group_shape g) (kind_of_token t)
piece_shape fs g ps ls t = cond_shape (begins t) (kind_begins (kind_of_token t)) (piece_begins fs g ps ls t) (pieced fs g (pieces_with ps (Nothing ls)) t) _ _ (begins_tells t) (piece_begins_shape fs g ps ls t) (pieced_shape fs g (pieces_with ps (Nothing ls)) t)

name_shape : (fs : List ParserFrame) (g : Group) (ps : Behind) (ls : Labels) (x : Name) (t : Token) → step_shape (at_name fs g ps ls x t) ≡ machine_name (frames_shape fs) (group_shape g) (kind_of_token t)
name_shape fs g ps ls x t = cond_shape (is_colon t) (kind_is_colon (kind_of_token t)) (Goes (AtPiece fs g ps (Label ls x))) (named (InPiece g ps ls ∷ fs) (Plain x) t) _ _ (colon_tells t) refl (named_shape (InPiece g ps ls ∷ fs) (Plain x) t)

declarations_shape : (fs : List ParserFrame) (ds : Declarations) (t : Token) → step_shape (at_declarations fs ds t) ≡ machine_declarations (frames_shape fs) (kind_of_token t)
declarations_shape fs ds Scalar = refl
declarations_shape fs ds t = piece_shape fs (Prog ds) NoPiece Unlabelled t

names_shape : (fs : List ParserFrame) (ds : Declarations) (xs : NameList) (t : Token) → step_shape (at_names fs ds xs t) ≡ machine_names (frames_shape fs) (kind_of_token t)
names_shape fs ds xs (Separating Semicolon) = refl
names_shape fs ds xs t = refl

-- ---- words of phrases

identifier_shape : (fs : List ParserFrame) (p : Place) (t : Token) (next : Name → ParserState) → ((x : Name) → step_shape (Goes (next x)) ≡ Moves p (frames_shape fs)) → step_shape (at_identifier t next) ≡ machine_identifier (frames_shape fs) p (kind_of_token t)
identifier_shape fs p (Identifier x) next is = is x
identifier_shape fs p t next is = refl

parameters_shape : (fs : List ParserFrame) (l : Listing) (t : Token) → step_shape (at_parameters fs l t) ≡ machine_listing (listing_shape l) (frames_shape fs) place.AtParameters (wants frame.Lambda (frames_shape fs)) (kind_of_token t)
parameters_shape fs Begun (Separating Semicolon) = refl
parameters_shape fs Begun t = refl
parameters_shape fs Opening (Separating Semicolon) = refl
parameters_shape fs Opening t = refl
parameters_shape fs (Naming xs) (Separating Semicolon) = refl
parameters_shape fs (Naming xs) t = refl
parameters_shape fs (Parted xs) (Separating Semicolon) = refl
parameters_shape fs (Parted xs) t = refl
parameters_shape fs (Over p) (Separating Semicolon) = refl
parameters_shape fs (Over p) t = refl

for_shape : (fs : List ParserFrame) (t : Token) → step_shape (at_for fs t) ≡ machine_for (frames_shape fs) (kind_of_token t)
for_shape fs Each = refl
for_shape fs t = refl

go_shape : (fs : List ParserFrame) (t : Token) → step_shape (at_go fs t) ≡ machine_go (frames_shape fs) (kind_of_token t)
go_shape fs To = refl
go_shape fs t = refl

index_shape : (fs : List ParserFrame) (x : Name) (t : Token) → step_shape (at_index fs x t) ≡ machine_index (frames_shape fs) (kind_of_token t)
index_shape fs x Assign = refl
index_shape fs x t = refl

in_shape : (fs : List ParserFrame) (e : EachOf) (x : Name) (t : Token) → step_shape (at_in fs e x t) ≡ machine_in (frames_shape fs) (kind_of_token t)
in_shape fs e x In = refl
in_shape fs e x t = refl

-- ---- a step of an expr

parser_shape : (s : ParserState) (t : Token) → step_shape (parser_step s t) ≡ machine_step (state_shape s) (frames_shape (frames_at s)) (kind_of_token t)
parser_shape (Want fs) t = begin_shape fs t
parser_shape (parser.Named fs h) t = named_shape fs h t
parser_shape (Has fs a) t = after_shape fs a t
parser_shape (Opened fs c) t = empty_shape fs c t
parser_shape (Shut fs a) t = shut_shape fs a t
parser_shape (Returned fs) t = returned_shape fs t
parser_shape (AtPiece fs g ps ls) t = piece_shape fs g ps ls t
parser_shape (AtName fs g ps ls x) t = name_shape fs g ps ls x t
parser_shape (AtDeclarations fs ds) t = declarations_shape fs ds t
parser_shape (AtScalar fs ds) t = identifier_shape fs place.AtNames t _ (λ x. refl)
parser_shape (AtNames fs ds xs) t = names_shape fs ds xs t
parser_shape (AtMore fs ds xs) t = identifier_shape fs place.AtNames t _ (λ x. refl)
parser_shape (AtParameters fs l) t = parameters_shape fs l t
parser_shape (AtFor fs) t = for_shape fs t
parser_shape (AtIndex fs x) t = index_shape fs x t
parser_shape (AtEach fs e) t = identifier_shape fs place.AtIn t _ (λ x. refl)
parser_shape (AtIn fs e x) t = in_shape fs e x t
parser_shape (AtGo fs) t = go_shape fs t
parser_shape (AtGoal fs g) t = identifier_shape fs (place.Has false) t _ (λ x. refl)

-- ---- a step of a statement

inside_shape : (b : Base) (st : ParserStep) → place_step_shape (inside b st) ≡ step_shape st
inside_shape b (Goes s) = refl
inside_shape b (Done a p) = refl
inside_shape b Refuses = refl

body_shape : (m : MaybeMode) (t : Token) → place_step_shape (at_body m t) ≡ machine_body [] (kind_of_token t)
body_shape m (Kind k) = refl
body_shape m Procedure = refl
body_shape m t = inside_shape (Plainly m) (begin [] t) ∙ begin_shape [] t

start_shape : (t : Token) → place_step_shape (at_start t) ≡ machine_start [] (kind_of_token t)
start_shape (Separating p) = refl
start_shape End = refl
start_shape In = refl
start_shape (Mode m) = refl
start_shape t = body_shape NoMode t

mode_shape : (m : ModeWord) (t : Token) → place_step_shape (at_mode m t) ≡ machine_mode [] (kind_of_token t)
mode_shape m (Separating p) = refl
mode_shape m t = body_shape (InMode m) t

kind_shape : (m : MaybeMode) (k : KindWord) (t : Token) → place_step_shape (at_kind m k t) ≡ machine_kind [] (kind_of_token t)
kind_shape m k Procedure = refl
kind_shape m k t = refl

procedure_shape : (m : MaybeMode) (k : MaybeKind) (t : Token) → place_step_shape (at_procedure m k t) ≡ machine_identifier [] (place.AtListing (listing_shape Begun)) (kind_of_token t)
procedure_shape m k (Identifier x) = refl
procedure_shape m k t = refl

place_listing_shape : (m : MaybeMode) (k : MaybeKind) (x : Name) (l : Listing) (t : Token) → place_step_shape (at_listing m k x l t) ≡ machine_listing (listing_shape l) [] place.AtListing (Moves place.Want []) (kind_of_token t)
place_listing_shape m k x Begun (Separating Semicolon) = refl
place_listing_shape m k x Begun t = refl
place_listing_shape m k x Opening (Separating Semicolon) = refl
place_listing_shape m k x Opening t = refl
place_listing_shape m k x (Naming xs) (Separating Semicolon) = refl
place_listing_shape m k x (Naming xs) t = refl
place_listing_shape m k x (Parted xs) (Separating Semicolon) = refl
place_listing_shape m k x (Parted xs) t = refl
place_listing_shape m k x (Over p) (Separating Semicolon) = refl
place_listing_shape m k x (Over p) t = refl

end_shape : (t : Token) → place_step_shape (place_at_end t) ≡ machine_end (kind_of_token t)
end_shape (Separating p) = refl
end_shape t = refl

file_shape : (ks : MaybeFiles) (t : Token) → place_step_shape (at_file ks t) ≡ machine_file [] (kind_of_token t)
file_shape ks (String k) = refl
file_shape ks t = refl

files_shape : (ks : FileNames) (t : Token) → place_step_shape (at_files ks t) ≡ machine_files [] (kind_of_token t)
files_shape ks (Separating p) = refl
files_shape ks t = refl

place_step_simulates : (s : StatementPlace) (t : Token) → place_step_shape (place_step s t) ≡ machine_step (place_shape s) (frames_shape (begun_at s)) (kind_of_token t)
place_step_simulates Start t = start_shape t
place_step_simulates (AtMode m) t = mode_shape m t
place_step_simulates (AtKind m k) t = kind_shape m k t
place_step_simulates (AtProcedure m k) t = procedure_shape m k t
place_step_simulates (AtListing m k x l) t = place_listing_shape m k x l t
place_step_simulates AtEnd t = end_shape t
place_step_simulates (AtFile ks) t = file_shape ks t
place_step_simulates (AtFiles ks) t = files_shape ks t
place_step_simulates (Inside b s) t = inside_shape b (parser_step s t) ∙ parser_shape s t

-- ---- bounded nesting

pub nested_tells : (fs : List ParserFrame) → nested_in (frames_shape fs) ≡ nesting fs
nested_tells [] = refl
nested_tells (InBinary o a ∷ fs) = nested_tells fs
nested_tells (InSign s ∷ fs) = nested_tells fs
nested_tells (f ∷ fs) = ap suc (nested_tells fs)

depth_tells : (s : ParserState) → machine_depth (state_shape s) (frames_shape (frames_at s)) ≡ depth s
depth_tells (Want []) = refl
depth_tells (Want (f ∷ fs)) = nested_tells fs
depth_tells (parser.Named fs h) = nested_tells fs
depth_tells (Has fs a) = nested_tells fs
depth_tells (Opened fs c) = nested_tells fs
depth_tells (Shut fs a) = nested_tells fs
depth_tells (Returned fs) = nested_tells fs
depth_tells (AtPiece fs g ps ls) = nested_tells fs
depth_tells (AtName fs g ps ls x) = nested_tells fs
depth_tells (AtDeclarations fs ds) = nested_tells fs
depth_tells (AtScalar fs ds) = nested_tells fs
depth_tells (AtNames fs ds xs) = nested_tells fs
depth_tells (AtMore fs ds xs) = nested_tells fs
depth_tells (AtParameters fs l) = nested_tells fs
depth_tells (AtFor fs) = nested_tells fs
depth_tells (AtIndex fs x) = nested_tells fs
depth_tells (AtEach fs e) = nested_tells fs
depth_tells (AtIn fs e x) = nested_tells fs
depth_tells (AtGo fs) = nested_tells fs
depth_tells (AtGoal fs g) = nested_tells fs

place_same : (c : Bool) (st su : PlaceStep) (m n : MachineStep) → place_step_shape st ≡ m → place_step_shape su ≡ n → place_step_shape (if c then st else su) ≡ (if c then m else n)
place_same true st su m n first second = first
place_same false st su m n first second = second

place_cond : (c d : Bool) (st su : PlaceStep) (m n : MachineStep) → d ≡ c → place_step_shape st ≡ m → place_step_shape su ≡ n → place_step_shape (if c then st else su) ≡ (if d then m else n)
place_cond c d st su m n is first second = subst (λ (b : Bool). place_step_shape (if c then st else su) ≡ (if b then m else n)) (sym is) (place_same c st su m n first second)

bounded_shape : (st : PlaceStep) → place_step_shape (bounded_place st) ≡ machine_bounded (place_step_shape st)
bounded_shape (GoesTo (Inside b s)) = place_cond (nat_le (depth s) nesting_bound) (nat_le (machine_depth (state_shape s) (frames_shape (frames_at s))) nesting_bound) (GoesTo (Inside b s)) Fails _ _ (ap (λ (n : ℕ). nat_le n nesting_bound) (depth_tells s)) refl refl
bounded_shape (GoesTo s) = refl
bounded_shape (Ends b p) = refl
bounded_shape Fails = refl

admits_tells : (s : StatementPlace) (t : Token) → machine_admits (place_shape s) (frames_shape (begun_at s)) (kind_of_token t) ≡ admits_place s t
admits_tells (Inside b (AtName fs g ps ls x)) t = ap (λ (c : Bool). c || nat_lt (nested_in (frames_shape fs)) nesting_bound) (colon_tells t) ∙ ap (λ (n : ℕ). is_colon t || nat_lt n nesting_bound) (nested_tells fs)
admits_tells s t = refl

pub simulates : (s : StatementPlace) (t : Token) → place_step_shape (place_within s t) ≡ machine_within (place_shape s) (frames_shape (begun_at s)) (kind_of_token t)
simulates s t =
    place_cond (admits_place s t) (machine_admits (place_shape s) (frames_shape (begun_at s)) (kind_of_token t)) (bounded_place (place_step s t)) Fails _ _ (admits_tells s t)
    (bounded_shape (place_step s t) ∙ ap machine_bounded (place_step_simulates s t))
    refl
