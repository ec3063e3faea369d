-- What is unfinished at the tokens of a statement, as parsing counts it, is what its tree says; and parsing with bounded nesting takes the statements that are within the bound.
use Rattle.std.proofs.Common.{◌≡◌, ℕ, List, [], ◌∷◌, ◌++◌, refl, ap, ◌∙◌}
use Rattle.rl_tree.specs.Name.{Name}
use Rattle.rl_grammar.specs.Token.{Separator, Semicolon, ModeWord, KindWord, Token, Mode, Kind, Procedure, Identifier, String, Open, Close, Comma, In, Separating, End}
use Rattle.rl_grammar.specs.Tree.{MaybeMode, NoMode, InMode, MaybeKind, FileNames, Base, Plainly, StatementBody}
use Rattle.rl_grammar.specs.Parser.{Listing, Begun, Opening, Naming, Parted, Over, Want, ParserStep, Goes, Done, Refuses, parser_step}
use Rattle.rl_grammar.specs.Statement.{MaybeFiles, NoFiles, SomeFiles, with_file, StatementPlace, Start, AtMode, AtKind, AtProcedure, AtListing, AtEnd, AtFile, AtFiles, Inside, PlaceStep, GoesTo, Ends, Fails, inside, at_body, at_start, at_mode, at_kind, at_procedure, at_listing, place_at_end, at_file, at_files, place_step, Parsed, after_place, run_place}
use Rattle.rl_grammar.specs.Nesting.{mode_nests, kind_nests, files_nests, base_nests, body_nests, statement_nests}
use Rattle.rl_grammar.proofs.Deep.{deep_listing, deep_state, told, Deep, Tells, owed_state, step_tells}

-- ---- what is unfinished at the tokens that led here, before these

abbrev pub deep_files : MaybeFiles → List ℕ → List ℕ
deep_files NoFiles ns = ns
deep_files (SomeFiles fs) ns = files_nests fs (0 ∷ ns)

abbrev pub deep_place : StatementPlace → List ℕ → List ℕ
deep_place Start ns = ns
deep_place (AtMode m) ns = 0 ∷ ns
deep_place (AtKind m k) ns = mode_nests m (0 ∷ ns)
deep_place (AtProcedure m k) ns = mode_nests m (kind_nests k (0 ∷ ns))
deep_place (AtListing m k x l) ns = mode_nests m (kind_nests k (0 ∷ 0 ∷ deep_listing 0 l ns))
deep_place AtEnd ns = 0 ∷ ns
deep_place (AtFile fs) ns = 0 ∷ deep_files fs ns
deep_place (AtFiles fs) ns = 0 ∷ files_nests fs ns
deep_place (Inside b s) ns = base_nests b (deep_state s ns)

abbrev pub told_place : StatementPlace → List ℕ → List ℕ
told_place (Inside b s) ns = told s ns
told_place s ns = 0 ∷ ns

abbrev pub owed : StatementPlace → Token → List ℕ
owed (Inside b s) t = owed_state s t
owed s t = []

abbrev TellsPlace : Deep → PlaceStep → Type 0
TellsPlace front (GoesTo s) = (ns : List ℕ) → front (told_place s ns) ≡ deep_place s ns
TellsPlace front (Ends b p) = (ns : List ℕ) → front (0 ∷ ns) ≡ body_nests b (0 ∷ ns)
TellsPlace front Fails = Unit {0}

inside_tells : (b : Base) (front : Deep) (st : ParserStep) → Tells front st → TellsPlace (λ ns. base_nests b (front ns)) (inside b st)
inside_tells b front (Goes s) tells = λ ns. ap (λ ns. base_nests b ns) (tells ns)
inside_tells b front (Done a p) tells = λ ns. ap (λ ns. base_nests b ns) (tells ns)
inside_tells b front Refuses tells = tt

body_tells : (m : MaybeMode) (t : Token) → TellsPlace (λ ns. mode_nests m ns) (at_body m t)
body_tells m (Kind k) = λ ns. refl
body_tells m Procedure = λ ns. refl
body_tells m t = inside_tells (Plainly m) (λ ns. ns) (parser_step (Want []) t) (step_tells (Want []) t)

start_tells : (t : Token) → TellsPlace (λ ns. ns) (at_start t)
start_tells (Separating p) = λ ns. refl
start_tells End = λ ns. refl
start_tells In = λ ns. refl
start_tells (Mode m) = λ ns. refl
start_tells t = body_tells NoMode t

mode_tells : (m : ModeWord) (t : Token) → TellsPlace (λ ns. 0 ∷ ns) (at_mode m t)
mode_tells m (Separating p) = λ ns. refl
mode_tells m t = body_tells (InMode m) t

kind_tells : (m : MaybeMode) (k : KindWord) (t : Token) → TellsPlace (λ ns. mode_nests m (0 ∷ ns)) (at_kind m k t)
kind_tells m k Procedure = λ ns. refl
kind_tells m k t = tt

procedure_tells : (m : MaybeMode) (k : MaybeKind) (t : Token) → TellsPlace (λ ns. deep_place (AtProcedure m k) ns) (at_procedure m k t)
procedure_tells m k (Identifier x) = λ ns. refl
procedure_tells m k t = tt

listing_tells : (m : MaybeMode) (k : MaybeKind) (x : Name) (l : Listing) (t : Token) → TellsPlace (λ ns. deep_place (AtListing m k x l) ns) (at_listing m k x l t)
listing_tells m k x Begun (Identifier y) = λ ns. refl
listing_tells m k x Begun Open = λ ns. refl
listing_tells m k x Begun (Separating Semicolon) = λ ns. refl
listing_tells m k x Opening Close = λ ns. refl
listing_tells m k x Opening (Identifier y) = λ ns. refl
listing_tells m k x (Naming xs) Comma = λ ns. refl
listing_tells m k x (Naming xs) Close = λ ns. refl
listing_tells m k x (Parted xs) (Identifier y) = λ ns. refl
listing_tells m k x (Over p) (Separating Semicolon) = λ ns. refl
listing_tells m k x l t = tt

end_tells : (t : Token) → TellsPlace (λ ns. 0 ∷ ns) (place_at_end t)
end_tells (Separating p) = λ ns. refl
end_tells t = tt

file_deep : (fs : MaybeFiles) (k : List ℕ) (ns : List ℕ) → deep_files fs (0 ∷ ns) ≡ files_nests (with_file fs k) ns
file_deep NoFiles k ns = refl
file_deep (SomeFiles fs) k ns = refl

file_tells : (fs : MaybeFiles) (t : Token) → TellsPlace (λ ns. deep_place (AtFile fs) ns) (at_file fs t)
file_tells fs (String k) = λ ns. ap (λ (ns : List ℕ). 0 ∷ ns) (file_deep fs k ns)
file_tells fs t = tt

files_tells : (fs : FileNames) (t : Token) → TellsPlace (λ ns. deep_place (AtFiles fs) ns) (at_files fs t)
files_tells fs Comma = λ ns. refl
files_tells fs (Separating p) = λ ns. refl
files_tells fs t = tt

place_tells : (s : StatementPlace) (t : Token) → TellsPlace (λ ns. deep_place s (owed s t ++ ns)) (place_step s t)
place_tells Start t = start_tells t
place_tells (AtMode m) t = mode_tells m t
place_tells (AtKind m k) t = kind_tells m k t
place_tells (AtProcedure m k) t = procedure_tells m k t
place_tells (AtListing m k x l) t = listing_tells m k x l t
place_tells AtEnd t = end_tells t
place_tells (AtFile fs) t = file_tells fs t
place_tells (AtFiles fs) t = files_tells fs t
place_tells (Inside b s) t = inside_tells b (λ ns. deep_state s (owed_state s t ++ ns)) (parser_step s t) (step_tells s t)

-- ---- the count along tokens

abbrev pub known_behind : PlaceStep → (StatementPlace → List ℕ) → List ℕ
known_behind (GoesTo s) further = told_place s (further s)
known_behind (Ends b p) further = 0 ∷ []
known_behind Fails further = []

abbrev pub known : StatementPlace → List Token → List ℕ
known s [] = []
known s (t ∷ ts) = owed s t ++ known_behind (place_step s t) (λ s. known s ts)

-- what parsing counts is what the tree says
known_after : (s : StatementPlace) (t : Token) (ts : List Token) (b : StatementBody) (p : Separator) (rest : List Token) (st : PlaceStep) → TellsPlace (λ ns. deep_place s (owed s t ++ ns)) st → after_place ts t st (λ s. run_place s ts) ≡ Parsed b p rest → ((s : StatementPlace) → run_place s ts ≡ Parsed b p rest → deep_place s (known s ts) ≡ statement_nests b) → deep_place s (owed s t ++ known_behind st (λ s. known s ts)) ≡ statement_nests b
known_after s t ts b p rest (GoesTo next) tells e each = tells (known next ts) ∙ each next e
known_after s t ts b p rest (Ends c q) tells e each = let same : c ≡ b = cc in rw (← same) (tells [])
known_after s t ts b p rest Fails tells e each = absurd cc

pub known_is_said : (ts : List Token) (s : StatementPlace) (b : StatementBody) (p : Separator) (rest : List Token) → run_place s ts ≡ Parsed b p rest → deep_place s (known s ts) ≡ statement_nests b
known_is_said [] s b p rest e = absurd cc
known_is_said (t ∷ ts) s b p rest e = known_after s t ts b p rest (place_step s t) (place_tells s t) e (λ s e. known_is_said ts s b p rest e)

pub statement_is_known : (ts : List Token) (b : StatementBody) (p : Separator) (rest : List Token) → run_place Start ts ≡ Parsed b p rest → known Start ts ≡ statement_nests b
statement_is_known ts b p rest e = known_is_said ts Start b p rest e
