-- What does not nest rises in its level, so that a stack of bounded nesting is short.
use Rattle.std.proofs.Common.{◌≡◌, ◌+◌, ◌*◌, ◌<◌, ◌≤◌, Bool, true, false, nat_le, List, [], ◌∷◌, length, refl, arith}
use Rattle.std.specs.Prelude.{if◌then◌else◌}
use Rattle.std.proofs.lemmas.Bool.{leb-true}
use Rattle.rl_lex.specs.declared.kind.Operator.{Operator}
use Rattle.rl_lex.specs.declared.kind.Operator.TheVariants.{Or}
use Rattle.rl_lex.specs.declared.kind.Operator.TheVariants as operator
use Rattle.rl_lex.specs.declared.kind.TokenKind.{TokenKind}
use Rattle.rl_lex.specs.declared.kind.TokenKind.TheVariants.{Mode, Kind, Procedure, Identifier, Integer, String, Quoted, Infix, Word, Power, Dot, Not, Assign, Open, Close, Comma, Colon, If, Then, Else, While, Repeat, Until, For, Foreach, In, Does, OpenBlock, CloseBlock, Separating, Begin, End, Scalar, Return, Go, To, Goto}
use Rattle.rl_lex.specs.declared.kind.TokenKind.TheVariants as kind
use Rattle.rl_lex.specs.declared.kind.Way.TheVariants.{Do}
use Rattle.rl_lex.specs.declared.kind.Separator.TheVariants.{Semicolon}
use Rattle.rl_parse.specs.Frames.{level_of_frame, lowest_of, nested_in, is_lambda_frame}
use Rattle.rl_parse.specs.Kinds.{level_of_operator, kind_goes, kind_begins, kind_begins_phrase, kind_is_colon}
use Rattle.rl_parse.specs.Machine.{MachineStep, Moves, Completes, Refuses, machine_begin, machine_pushed, machine_pieced, ends_with_operand, machine_closed, machine_after, machine_whole, machine_alone, machine_named, machine_opened, machine_shut, machine_returned, machine_piece_begins, machine_piece, machine_name, machine_declarations, machine_names, listing_ends, listing_on, listed, machine_listing, machine_for, machine_go, machine_index, machine_in, machine_identifier, machine_body, machine_start, machine_mode, machine_kind, machine_end, machine_file, machine_files, machine_step, machine_depth, machine_bounded, machine_admits, machine_within}
use Rattle.rl_grammar.specs.Nesting.{nesting_bound}
use Rattle.rl_parse.specs.declared.frame.Frame.{Frame}
use Rattle.rl_parse.specs.declared.frame.Frame.TheVariants.{Side, Tail, Lambda, Enclosed, Condition, Consequent, Doing, Repeated, From, Each, Arguments, Pieces}
use Rattle.rl_parse.specs.declared.frame.Group.{Group}
use Rattle.rl_parse.specs.declared.frame.Group.TheVariants.{Block, Prog}
use Rattle.rl_parse.specs.declared.place.Listing.{Listing}
use Rattle.rl_parse.specs.declared.place.Place.{Place}
use Rattle.rl_parse.specs.declared.place.Place.TheVariants.{Start, AtMode, AtKind, AtProcedure, AtListing, AtEnd, AtFile, AtFiles, Want, Named, Has, Opened, Shut, Returned, AtPiece, AtName, AtDeclarations, AtScalar, AtNames, AtParameters, AtFor, AtIndex, AtEach, AtIn, AtGo, AtGoal}
use Rattle.std.specs.Prelude.{Option, Some, None}

abbrev pub Rises : List Frame → Type 0
Rises [] = Unit {0}
Rises (Side n ∷ fs) = (lowest_of fs < n) × (n ≤ 10) × Rises fs
Rises (Tail n ∷ fs) = (n ≤ 10) × Rises fs
Rises (f ∷ fs) = Rises fs

low_level : (fs : List Frame) → Rises fs → lowest_of fs ≤ 10
low_level [] is = omega arith
low_level (Side n ∷ fs) is = is.1
low_level (Tail n ∷ fs) is = is.0
low_level (f ∷ fs) is = omega arith

pub rising_few : (fs : List Frame) → Rises fs → length fs + 11 ≤ 11 * nested_in fs + lowest_of fs
rising_few [] is = omega arith
rising_few (Side n ∷ fs) is = let few = rising_few fs is.2 in omega (arith, few, is.0)
rising_few (Tail n ∷ fs) is = let few = rising_few fs is.1 in let low = low_level fs is.1 in omega (arith, few, low)
rising_few (f ∷ fs) is = let few = rising_few fs is in let low = low_level fs is in omega (arith, few, low)

pub rising_room : (fs : List Frame) → Rises fs → nested_in fs ≤ 201 → length fs + 2 < 2240
rising_room fs is nested = let few = rising_few fs is in let low = low_level fs is in omega (arith, few, low, nested)

-- ---- a step

abbrev pub RisesStep : MachineStep → Type 0
RisesStep (Moves p fs) = Rises fs
RisesStep m = Unit {0}

rises_if : (c : Bool) (m n : MachineStep) → (c ≡ true → RisesStep m) → RisesStep n → RisesStep (if c then m else n)
rises_if true m n first second = first refl
rises_if false m n first second = second

begin_rises : (fs : List Frame) (k : TokenKind) → Rises fs → RisesStep (machine_begin fs k)
begin_rises fs (Word w) is = rises_if (nat_le (lowest_of fs) 9) _ _ (λ e. is) tt
begin_rises fs Open is = rises_if (nat_le (lowest_of fs) 9) _ _ (λ e. is) tt
begin_rises fs (Infix operator.Plus) is = rises_if (nat_le (lowest_of fs) 5) _ _ (λ e. let low = leb-true (lowest_of fs) 5 e in (omega (arith, low), omega arith, is)) tt
begin_rises fs (Infix operator.Minus) is = rises_if (nat_le (lowest_of fs) 5) _ _ (λ e. let low = leb-true (lowest_of fs) 5 e in (omega (arith, low), omega arith, is)) tt
begin_rises fs (Infix o) is = tt
begin_rises fs Not is = rises_if (nat_le (lowest_of fs) 3) _ _ (λ e. (omega arith, is)) tt
begin_rises fs Identifier is = is
begin_rises fs Integer is = is
begin_rises fs String is = is
begin_rises fs Quoted is = is
begin_rises fs If is = is
begin_rises fs While is = is
begin_rises fs Repeat is = is
begin_rises fs For is = is
begin_rises fs Foreach is = is
begin_rises fs OpenBlock is = is
begin_rises fs Begin is = is
begin_rises fs Return is = is
begin_rises fs Go is = is
begin_rises fs Goto is = is
begin_rises fs kind.Lambda is = is
begin_rises fs k is = tt

operator_low : (o : Operator) → level_of_operator o ≤ 6
operator_low Or = omega arith
operator_low o = omega arith

pushed_rises : (fs : List Frame) (k : TokenKind) → Rises fs → kind_goes (lowest_of fs) k ≡ true → RisesStep (machine_pushed fs k)
pushed_rises fs (Infix o) is goes = let low = leb-true (lowest_of fs) (level_of_operator o) goes in let small = operator_low o in (omega (arith, low), omega (arith, small), is)
pushed_rises fs (Word w) is goes = let low = leb-true (lowest_of fs) 4 goes in (omega (arith, low), omega arith, is)
pushed_rises fs Power is goes = (omega arith, is)
pushed_rises fs Dot is goes = (omega arith, is)
pushed_rises fs k is goes = tt

pieced_rises : (fs : List Frame) (g : Group) (k : TokenKind) → Rises fs → RisesStep (machine_pieced fs g k)
pieced_rises fs Block (Separating s) is = is
pieced_rises fs Prog (Separating s) is = is
pieced_rises fs Block CloseBlock is = is
pieced_rises fs Prog End is = is
pieced_rises fs Block k is = tt
pieced_rises fs Prog k is = tt

closed_rises : (f : Frame) (fs : List Frame) (lambda : Bool) (k : TokenKind) → Rises fs → RisesStep (machine_closed f fs lambda k)
closed_rises Enclosed fs lambda Close is = rises_if lambda _ _ (λ e. is) is
closed_rises Condition fs lambda Then is = is
closed_rises Consequent fs lambda Else is = (omega arith, is)
closed_rises Doing fs lambda (Does Do) is = (omega arith, is)
closed_rises Repeated fs lambda Until is = (omega arith, is)
closed_rises From fs lambda Colon is = is
closed_rises Each fs lambda (Does w) is = (omega arith, is)
closed_rises Arguments fs lambda Comma is = is
closed_rises Arguments fs lambda Close is = is
closed_rises (Pieces g) fs lambda k is = pieced_rises fs g k is
closed_rises f fs lambda k is = tt

whole_rises : (k : TokenKind) → RisesStep (machine_whole k)
whole_rises (Separating s) = tt
whole_rises k = tt

below_rises : (f : Frame) (fs : List Frame) → Rises (f ∷ fs) → Rises fs
below_rises (Side n) fs is = is.2
below_rises (Tail n) fs is = is.1
below_rises f fs is = is

after_rises : (fs : List Frame) (lambda : Bool) (k : TokenKind) → Rises fs → RisesStep (machine_after fs lambda k)
after_rises [] lambda k is = rises_if (kind_goes 0 k) (machine_pushed [] k) (machine_whole k) (λ e. pushed_rises [] k is e) (whole_rises k)
after_rises (f ∷ fs) lambda k is =
    rises_if (kind_goes (level_of_frame f) k) (machine_pushed (f ∷ fs) k) _ (λ e. pushed_rises (f ∷ fs) k is e)
    (rises_if (ends_with_operand f k) (machine_after fs (is_lambda_frame f) k) (machine_closed f fs lambda k) (λ e. after_rises fs (is_lambda_frame f) k (below_rises f fs is)) (closed_rises f fs lambda k (below_rises f fs is)))

alone_rises : (fs : List Frame) (k : TokenKind) → Rises fs → RisesStep (machine_alone fs k)
alone_rises fs Assign is = rises_if (nat_le (lowest_of fs) 0) _ _ (λ e. (omega arith, is)) tt
alone_rises fs Open is = is
alone_rises fs k is = after_rises fs false k is

named_rises : (fs : List Frame) (k : TokenKind) → Rises fs → RisesStep (machine_named fs k)
named_rises fs k is = rises_if (kind_begins_phrase k) _ _ (λ e. begin_rises (Tail 10 ∷ fs) k (omega arith, is)) (alone_rises fs k is)

opened_rises : (fs : List Frame) (k : TokenKind) → Rises fs → RisesStep (machine_opened fs k)
opened_rises fs Close is = is
opened_rises fs k is = rises_if (kind_begins k) (machine_begin (Arguments ∷ fs) k) Refuses (λ e. begin_rises (Arguments ∷ fs) k is) tt

shut_rises : (fs : List Frame) (k : TokenKind) → Rises fs → RisesStep (machine_shut fs k)
shut_rises fs Open is = is
shut_rises fs k is = after_rises fs false k is

returned_rises : (fs : List Frame) (k : TokenKind) → Rises fs → RisesStep (machine_returned fs k)
returned_rises fs k is = rises_if (kind_begins k) _ _ (λ e. begin_rises (Tail 0 ∷ fs) k (omega arith, is)) (after_rises fs false k is)

piece_begins_rises : (fs : List Frame) (g : Group) (k : TokenKind) → Rises fs → RisesStep (machine_piece_begins fs g k)
piece_begins_rises fs Prog Identifier is = is
piece_begins_rises fs Prog k is = begin_rises (Pieces Prog ∷ fs) k is
piece_begins_rises fs Block k is = begin_rises (Pieces Block ∷ fs) k is

piece_rises : (fs : List Frame) (g : Group) (k : TokenKind) → Rises fs → RisesStep (machine_piece fs g k)
piece_rises fs g k is = rises_if (kind_begins k) _ _ (λ e. piece_begins_rises fs g k is) (pieced_rises fs g k is)

name_rises : (fs : List Frame) (g : Group) (k : TokenKind) → Rises fs → RisesStep (machine_name fs g k)
name_rises fs g k is = rises_if (kind_is_colon k) _ _ (λ e. is) (named_rises (Pieces g ∷ fs) k is)

declarations_rises : (fs : List Frame) (k : TokenKind) → Rises fs → RisesStep (machine_declarations fs k)
declarations_rises fs Scalar is = is
declarations_rises fs k is = piece_rises fs Prog k is

names_rises : (fs : List Frame) (k : TokenKind) → Rises fs → RisesStep (machine_names fs k)
names_rises fs Comma is = is
names_rises fs (Separating Semicolon) is = is
names_rises fs k is = tt

listed_rises : (fs : List Frame) (place : Listing → Place) (l : Option Listing) → Rises fs → RisesStep (listed fs place l)
listed_rises fs place (Some l) is = is
listed_rises fs place None is = tt

listing_rises : (l : Listing) (fs : List Frame) (place : Listing → Place) (over : MachineStep) (k : TokenKind) → Rises fs → RisesStep over → RisesStep (machine_listing l fs place over k)
listing_rises l fs place over k is ends = rises_if (listing_ends l k) _ _ (λ e. ends) (listed_rises fs place (listing_on l k) is)

for_rises : (fs : List Frame) (k : TokenKind) → Rises fs → RisesStep (machine_for fs k)
for_rises fs kind.Each is = is
for_rises fs Identifier is = is
for_rises fs k is = tt

go_rises : (fs : List Frame) (k : TokenKind) → Rises fs → RisesStep (machine_go fs k)
go_rises fs To is = is
go_rises fs Identifier is = is
go_rises fs k is = tt

index_rises : (fs : List Frame) (k : TokenKind) → Rises fs → RisesStep (machine_index fs k)
index_rises fs Assign is = is
index_rises fs k is = tt

in_rises : (fs : List Frame) (k : TokenKind) → Rises fs → RisesStep (machine_in fs k)
in_rises fs In is = is
in_rises fs k is = tt

identifier_rises : (fs : List Frame) (p : Place) (k : TokenKind) → Rises fs → RisesStep (machine_identifier fs p k)
identifier_rises fs p Identifier is = is
identifier_rises fs p k is = tt

body_rises : (fs : List Frame) (k : TokenKind) → Rises fs → RisesStep (machine_body fs k)
body_rises fs (Kind w) is = is
body_rises fs Procedure is = is
body_rises fs k is = begin_rises fs k is

start_rises : (fs : List Frame) (k : TokenKind) → Rises fs → RisesStep (machine_start fs k)
start_rises fs (Separating s) is = tt
start_rises fs End is = is
start_rises fs In is = is
start_rises fs (Mode m) is = is
start_rises fs k is = body_rises fs k is

mode_rises : (fs : List Frame) (k : TokenKind) → Rises fs → RisesStep (machine_mode fs k)
mode_rises fs (Separating s) is = tt
mode_rises fs k is = body_rises fs k is

kind_rises : (fs : List Frame) (k : TokenKind) → Rises fs → RisesStep (machine_kind fs k)
kind_rises fs Procedure is = is
kind_rises fs k is = tt

end_rises : (k : TokenKind) → RisesStep (machine_end k)
end_rises (Separating s) = tt
end_rises k = tt

file_rises : (fs : List Frame) (k : TokenKind) → Rises fs → RisesStep (machine_file fs k)
file_rises fs String is = is
file_rises fs k is = tt

files_rises : (fs : List Frame) (k : TokenKind) → Rises fs → RisesStep (machine_files fs k)
files_rises fs Comma is = is
files_rises fs (Separating s) is = tt
files_rises fs k is = tt

step_rises : (p : Place) (fs : List Frame) (k : TokenKind) → Rises fs → RisesStep (machine_step p fs k)
step_rises Start fs k is = start_rises fs k is
step_rises AtMode fs k is = mode_rises fs k is
step_rises AtKind fs k is = kind_rises fs k is
step_rises AtProcedure fs k is = identifier_rises fs (AtListing _) k is
step_rises (AtListing l) fs k is = listing_rises l fs AtListing (Moves Want fs) k is is
step_rises AtEnd fs k is = end_rises k
step_rises AtFile fs k is = file_rises fs k is
step_rises AtFiles fs k is = files_rises fs k is
step_rises Want fs k is = begin_rises fs k is
step_rises Named fs k is = named_rises fs k is
step_rises (Has lambda) fs k is = after_rises fs lambda k is
step_rises Opened fs k is = opened_rises fs k is
step_rises Shut fs k is = shut_rises fs k is
step_rises Returned fs k is = returned_rises fs k is
step_rises (AtPiece g) fs k is = piece_rises fs g k is
step_rises (AtName g) fs k is = name_rises fs g k is
step_rises AtDeclarations fs k is = declarations_rises fs k is
step_rises AtScalar fs k is = identifier_rises fs AtNames k is
step_rises AtNames fs k is = names_rises fs k is
step_rises (AtParameters l) fs k is = listing_rises l fs AtParameters (Moves Want (Lambda ∷ fs)) k is is
step_rises AtFor fs k is = for_rises fs k is
step_rises AtIndex fs k is = index_rises fs k is
step_rises AtEach fs k is = identifier_rises fs AtIn k is
step_rises AtIn fs k is = in_rises fs k is
step_rises AtGo fs k is = go_rises fs k is
step_rises AtGoal fs k is = identifier_rises fs (Has false) k is

bounded_rises : (m : MachineStep) → RisesStep m → RisesStep (machine_bounded m)
bounded_rises (Moves p fs) is = rises_if (nat_le (machine_depth p fs) nesting_bound) _ _ (λ e. is) tt
bounded_rises (Completes w s) is = tt
bounded_rises Refuses is = tt

pub within_rises : (p : Place) (fs : List Frame) (k : TokenKind) → Rises fs → RisesStep (machine_within p fs k)
within_rises p fs k is = rises_if (machine_admits p fs k) _ _ (λ e. bounded_rises (machine_step p fs k) (step_rises p fs k is)) tt
