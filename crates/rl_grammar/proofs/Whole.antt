-- Statements: what is parsed is of the grammar, what is of the grammar is parsed, and wherever parsing has come, some tokens end the statement well.
use Rattle.std.proofs.Common.{◌≡◌, ℕ, true, List, [], ◌∷◌, refl, ap, ◌∙◌}
use Rattle.rl_grammar.specs.Token.{Separator, Semicolon, ModeWord, KindWord, Token, Mode, Kind, Procedure, Identifier, Integer, String, Open, Close, Comma, In, Separating, End}
use Rattle.rl_grammar.specs.Tree.{NameList, Just, Also, names_spelled, Parameters, NoParameters, OneParameter, NoneListed, Listed, parameters_spelled, Tree, Whole, spelled, MaybeMode, NoMode, InMode, mode_spelled, MaybeKind, NoKind, OfKind, kind_spelled, FileNames, JustFile, AlsoFile, files_spelled, Base, Plainly, Defining, base_spelled, StatementBody, Empty, Ending, InFiles, Only, Based, body_spelled}
use Rattle.rl_grammar.specs.Grammar.{begins, BodyFits, IsStatement}
use Rattle.rl_grammar.specs.Parser.{Listing, Begun, Opening, Naming, Parted, Over, ParserState, Want, ParserStep, Goes, Done, Refuses, parser_step, ParserOutcome, Read, Refused, after_parser_step, parser_run}
use Rattle.rl_grammar.specs.Statement.{MaybeFiles, NoFiles, SomeFiles, with_file, StatementPlace, Start, AtMode, AtKind, AtProcedure, AtListing, AtEnd, AtFile, AtFiles, Inside, PlaceStep, GoesTo, Ends, Fails, inside, at_body, at_start, at_mode, at_kind, at_procedure, at_listing, place_at_end, at_file, at_files, place_step, Result, Parsed, Syntax, after_place, run_place, parse_statement}
use Rattle.rl_tree.specs.Name.{Name, t_name}
use Rattle.rl_grammar.proofs.Sound.{shown_listing, shown_state, StateFits, Holds, Front, step_holds}
use Rattle.rl_grammar.proofs.Complete.{first, expr_is_parsed}
use Rattle.rl_grammar.proofs.Live.{LabelsName, live}

-- ---- inside an expr

abbrev wrap : Base → ParserOutcome → Result
wrap b (Read a p rest) = Parsed (Based b a) p rest
wrap b (Refused ts) = Syntax ts

inside_step : (b : Base) (t : Token) (ts : List Token) (st : ParserStep) → ((s : ParserState) → run_place (Inside b s) ts ≡ wrap b (parser_run s ts)) → after_place ts t (inside b st) (λ s. run_place s ts) ≡ wrap b (after_parser_step ts t st (λ s. parser_run s ts))
inside_step b t ts (Goes s) each = each s
inside_step b t ts (Done a p) each = refl
inside_step b t ts Refuses each = refl

inside_run : (ts : List Token) (b : Base) (s : ParserState) → run_place (Inside b s) ts ≡ wrap b (parser_run s ts)
inside_run [] b s = refl
inside_run (t ∷ ts) b s = inside_step b t ts (parser_step s t) (λ s. inside_run ts b s)

-- ---- what is parsed is of the grammar

abbrev shown_files : MaybeFiles → List Token → List Token
shown_files NoFiles ts = ts
shown_files (SomeFiles ks) ts = files_spelled ks (Comma ∷ ts)

abbrev shown_place : StatementPlace → List Token → List Token
shown_place Start ts = ts
shown_place (AtMode m) ts = Mode m ∷ ts
shown_place (AtKind m k) ts = mode_spelled m (Kind k ∷ ts)
shown_place (AtProcedure m k) ts = mode_spelled m (kind_spelled k (Procedure ∷ ts))
shown_place (AtListing m k x l) ts = mode_spelled m (kind_spelled k (Procedure ∷ Identifier x ∷ shown_listing l ts))
shown_place AtEnd ts = End ∷ ts
shown_place (AtFile ks) ts = In ∷ shown_files ks ts
shown_place (AtFiles ks) ts = In ∷ files_spelled ks ts
shown_place (Inside b s) ts = base_spelled b (shown_state s ts)

abbrev PlaceFits : StatementPlace → Type 0
PlaceFits (Inside b s) = StateFits s
PlaceFits s = Unit {0}

abbrev PlaceHolds : Front → Token → PlaceStep → Type 0
PlaceHolds front t (GoesTo s) = ((ts : List Token) → front (t ∷ ts) ≡ shown_place s ts) × PlaceFits s
PlaceHolds front t (Ends b p) = ((ts : List Token) → front (t ∷ ts) ≡ body_spelled b (Separating p ∷ ts)) × BodyFits b
PlaceHolds front t Fails = Unit {0}

inside_holds : (b : Base) (front : Front) (t : Token) (st : ParserStep) → Holds front t st → PlaceHolds (λ ts. base_spelled b (front ts)) t (inside b st)
inside_holds b front t (Goes s) h = (λ ts. ap (λ ts. base_spelled b ts) (h.0 ts), h.1)
inside_holds b front t (Done a p) h = (λ ts. ap (λ ts. base_spelled b ts) (h.0 ts), h.1)
inside_holds b front t Refuses h = tt

body_holds : (m : MaybeMode) (t : Token) → PlaceHolds (λ ts. mode_spelled m ts) t (at_body m t)
body_holds m (Kind k) = (λ ts. refl, tt)
body_holds m Procedure = (λ ts. refl, tt)
body_holds m t = inside_holds (Plainly m) (λ ts. ts) t (parser_step (Want []) t) (step_holds (Want []) t tt)

start_holds : (t : Token) → PlaceHolds (λ ts. ts) t (at_start t)
start_holds (Separating p) = (λ ts. refl, tt)
start_holds End = (λ ts. refl, tt)
start_holds In = (λ ts. refl, tt)
start_holds (Mode m) = (λ ts. refl, tt)
start_holds t = body_holds NoMode t

mode_holds : (m : ModeWord) (t : Token) → PlaceHolds (λ ts. Mode m ∷ ts) t (at_mode m t)
mode_holds m (Separating p) = (λ ts. refl, tt)
mode_holds m t = body_holds (InMode m) t

kind_holds : (m : MaybeMode) (k : KindWord) (t : Token) → PlaceHolds (λ ts. mode_spelled m (Kind k ∷ ts)) t (at_kind m k t)
kind_holds m k Procedure = (λ ts. refl, tt)
kind_holds m k t = tt

procedure_holds : (m : MaybeMode) (k : MaybeKind) (t : Token) → PlaceHolds (λ ts. mode_spelled m (kind_spelled k (Procedure ∷ ts))) t (at_procedure m k t)
procedure_holds m k (Identifier x) = (λ ts. refl, tt)
procedure_holds m k t = tt

listing_holds : (m : MaybeMode) (k : MaybeKind) (x : Name) (l : Listing) (t : Token) → PlaceHolds (λ ts. shown_place (AtListing m k x l) ts) t (at_listing m k x l t)
listing_holds m k x Begun (Identifier y) = (λ ts. refl, tt)
listing_holds m k x Begun Open = (λ ts. refl, tt)
listing_holds m k x Begun (Separating Semicolon) = (λ ts. refl, tt)
listing_holds m k x Opening Close = (λ ts. refl, tt)
listing_holds m k x Opening (Identifier y) = (λ ts. refl, tt)
listing_holds m k x (Naming xs) Comma = (λ ts. refl, tt)
listing_holds m k x (Naming xs) Close = (λ ts. refl, tt)
listing_holds m k x (Parted xs) (Identifier y) = (λ ts. refl, tt)
listing_holds m k x (Over p) (Separating Semicolon) = (λ ts. refl, tt)
listing_holds m k x l t = tt

end_holds : (t : Token) → PlaceHolds (λ ts. End ∷ ts) t (place_at_end t)
end_holds (Separating p) = (λ ts. refl, tt)
end_holds t = tt

file_shown : (ks : MaybeFiles) (k : List ℕ) (ts : List Token) → shown_files ks (String k ∷ ts) ≡ files_spelled (with_file ks k) ts
file_shown NoFiles k ts = refl
file_shown (SomeFiles ks) k ts = refl

file_holds : (ks : MaybeFiles) (t : Token) → PlaceHolds (λ ts. In ∷ shown_files ks ts) t (at_file ks t)
file_holds ks (String k) = (λ ts. ap (λ (ts : List Token). In ∷ ts) (file_shown ks k ts), tt)
file_holds ks t = tt

files_holds : (ks : FileNames) (t : Token) → PlaceHolds (λ ts. In ∷ files_spelled ks ts) t (at_files ks t)
files_holds ks Comma = (λ ts. refl, tt)
files_holds ks (Separating p) = (λ ts. refl, tt)
files_holds ks t = tt

place_holds : (s : StatementPlace) (t : Token) → PlaceFits s → PlaceHolds (λ ts. shown_place s ts) t (place_step s t)
place_holds Start t fit = start_holds t
place_holds (AtMode m) t fit = mode_holds m t
place_holds (AtKind m k) t fit = kind_holds m k t
place_holds (AtProcedure m k) t fit = procedure_holds m k t
place_holds (AtListing m k x l) t fit = listing_holds m k x l t
place_holds AtEnd t fit = end_holds t
place_holds (AtFile ks) t fit = file_holds ks t
place_holds (AtFiles ks) t fit = files_holds ks t
place_holds (Inside b s) t fit = inside_holds b (λ ts. shown_state s ts) t (parser_step s t) (step_holds s t fit)

abbrev Shows : List Token → StatementBody → Separator → List Token → Type 0
Shows ts b p rest = (ts ≡ body_spelled b (Separating p ∷ rest)) × BodyFits b

place_shows : (s : StatementPlace) (t : Token) (ts : List Token) (b : StatementBody) (p : Separator) (rest : List Token) (st : PlaceStep) → PlaceHolds (λ ts. shown_place s ts) t st → after_place ts t st (λ s. run_place s ts) ≡ Parsed b p rest → ((s : StatementPlace) → PlaceFits s → run_place s ts ≡ Parsed b p rest → Shows (shown_place s ts) b p rest) → Shows (shown_place s (t ∷ ts)) b p rest
place_shows s t ts b p rest (GoesTo next) h e further = let more = further next h.1 e in (h.0 ts ∙ more.0, more.1)
place_shows s t ts b p rest (Ends c q) h e further = let same : c ≡ b = cc in let ending : q ≡ p = cc in let left : ts ≡ rest = cc in (rw (← left, ← same, ← ending) (h.0 ts), rw (← same) h.1)
place_shows s t ts b p rest Fails h e further = absurd cc

run_shows : (ts : List Token) (s : StatementPlace) (b : StatementBody) (p : Separator) (rest : List Token) → PlaceFits s → run_place s ts ≡ Parsed b p rest → Shows (shown_place s ts) b p rest
run_shows [] s b p rest fit e = absurd cc
run_shows (t ∷ ts) s b p rest fit e = place_shows s t ts b p rest (place_step s t) (place_holds s t fit) e (λ s fit e. run_shows ts s b p rest fit e)

pub parsed_is_statement : (ts : List Token) (b : StatementBody) (p : Separator) (rest : List Token) → parse_statement ts ≡ Parsed b p rest → IsStatement ts b p rest
parsed_is_statement ts b p rest e = let shows = run_shows ts Start b p rest tt e in record { is = shows.0; fits = shows.1 }

-- ---- what is of the grammar is parsed

pub by_place : (s : StatementPlace) (t : Token) (ts : List Token) (st : PlaceStep) → place_step s t ≡ st → run_place s (t ∷ ts) ≡ after_place ts t st (λ s. run_place s ts)
by_place s t ts st e = ap (λ (st : PlaceStep). after_place ts t st (λ s. run_place s ts)) e

body_inside : (m : MaybeMode) (t : Token) → begins t ≡ true → at_body m t ≡ inside (Plainly m) (parser_step (Want []) t)
body_inside m (Kind k) e = absurd cc
body_inside m Procedure e = absurd cc
body_inside m t e = refl

start_inside : (t : Token) → begins t ≡ true → at_start t ≡ at_body NoMode t
start_inside (Separating p) e = absurd cc
start_inside End e = absurd cc
start_inside In e = absurd cc
start_inside (Mode m) e = absurd cc
start_inside t e = refl

mode_inside : (m : ModeWord) (t : Token) → begins t ≡ true → at_mode m t ≡ at_body (InMode m) t
mode_inside m (Separating p) e = absurd cc
mode_inside m t e = refl

files_read : (ks : FileNames) (ts : List Token) → run_place (AtFile NoFiles) (files_spelled ks ts) ≡ run_place (AtFiles ks) ts
files_read (JustFile k) ts = refl
files_read (AlsoFile ks k) ts = files_read ks (Comma ∷ String k ∷ ts)

listed_read : (xs : NameList) (m : MaybeMode) (k : MaybeKind) (x : Name) (ts : List Token) → run_place (AtListing m k x Opening) (names_spelled xs ts) ≡ run_place (AtListing m k x (Naming xs)) ts
listed_read (Just y) m k x ts = refl
listed_read (Also xs y) m k x ts = listed_read xs m k x (Comma ∷ Identifier y ∷ ts)

parameters_read : (p : Parameters) (m : MaybeMode) (k : MaybeKind) (x : Name) (ts : List Token) → run_place (AtListing m k x Begun) (parameters_spelled p (Separating Semicolon ∷ ts)) ≡ run_place (Inside (Defining m k x p) (Want [])) ts
parameters_read NoParameters m k x ts = refl
parameters_read (OneParameter y) m k x ts = refl
parameters_read NoneListed m k x ts = refl
parameters_read (Listed xs) m k x ts = listed_read xs m k x (Close ∷ Separating Semicolon ∷ ts)

base_read : (b : Base) (a : Tree) (ts : List Token) → run_place Start (base_spelled b (spelled a ts)) ≡ run_place (Inside b (Want [])) (spelled a ts)
base_read (Plainly NoMode) a ts =
    let one = first a in
    rw (one.is ts) (by_place Start one.token (one.rest ts) _ (start_inside one.token one.tests ∙ body_inside NoMode one.token one.tests))
base_read (Plainly (InMode m)) a ts =
    let one = first a in
    rw (one.is ts) (by_place (AtMode m) one.token (one.rest ts) _ (mode_inside m one.token one.tests ∙ body_inside (InMode m) one.token one.tests))
base_read (Defining NoMode NoKind x p) a ts = parameters_read p NoMode NoKind x (spelled a ts)
base_read (Defining NoMode (OfKind k) x p) a ts = parameters_read p NoMode (OfKind k) x (spelled a ts)
base_read (Defining (InMode m) NoKind x p) a ts = parameters_read p (InMode m) NoKind x (spelled a ts)
base_read (Defining (InMode m) (OfKind k) x p) a ts = parameters_read p (InMode m) (OfKind k) x (spelled a ts)

body_read : (b : StatementBody) (p : Separator) (rest : List Token) → BodyFits b → run_place Start (body_spelled b (Separating p ∷ rest)) ≡ Parsed b p rest
body_read Empty p rest fits = refl
body_read Ending p rest fits = refl
body_read (InFiles ks) p rest fits = files_read ks (Separating p ∷ rest)
body_read (Only m) p rest fits = refl
body_read (Based b a) p rest fits =
    base_read b a (Separating p ∷ rest)
    ∙ inside_run (spelled a (Separating p ∷ rest)) b (Want [])
    ∙ ap (wrap b) (expr_is_parsed (spelled a (Separating p ∷ rest)) a p rest (record { is = refl; fits = fits }))

pub statement_is_parsed : (ts : List Token) (b : StatementBody) (p : Separator) (rest : List Token) → IsStatement ts b p rest → parse_statement ts ≡ Parsed b p rest
statement_is_parsed ts b p rest s = ap parse_statement s.is ∙ body_read b p rest s.fits

-- ---- some tokens end it well

abbrev pub LabelsPlace : StatementPlace → List Token → Type 0
LabelsPlace (Inside b s) ts = LabelsName s ts
LabelsPlace s ts = Unit {0}

pub record PlaceLive (s : StatementPlace) : Type 0 where
  pub tokens : List Token
  pub body : StatementBody
  pub read : run_place s tokens ≡ Parsed body Semicolon []
  pub labels : LabelsPlace s tokens

pub place_live : (s : StatementPlace) → PlaceLive s
place_live Start = record { tokens = Separating Semicolon ∷ []; body = Empty; read = refl; labels = tt }
place_live (AtMode m) = record { tokens = Separating Semicolon ∷ []; body = Only m; read = refl; labels = tt }
place_live (AtKind m k) = record { tokens = Procedure ∷ Identifier t_name ∷ Separating Semicolon ∷ Integer 0 ∷ Separating Semicolon ∷ []; body = Based (Defining m (OfKind k) t_name NoParameters) (Whole 0); read = refl; labels = tt }
place_live (AtProcedure m k) = record { tokens = Identifier t_name ∷ Separating Semicolon ∷ Integer 0 ∷ Separating Semicolon ∷ []; body = Based (Defining m k t_name NoParameters) (Whole 0); read = refl; labels = tt }
place_live (AtListing m k x Begun) = record { tokens = Separating Semicolon ∷ Integer 0 ∷ Separating Semicolon ∷ []; body = Based (Defining m k x NoParameters) (Whole 0); read = refl; labels = tt }
place_live (AtListing m k x Opening) = record { tokens = Close ∷ Separating Semicolon ∷ Integer 0 ∷ Separating Semicolon ∷ []; body = Based (Defining m k x NoneListed) (Whole 0); read = refl; labels = tt }
place_live (AtListing m k x (Naming xs)) = record { tokens = Close ∷ Separating Semicolon ∷ Integer 0 ∷ Separating Semicolon ∷ []; body = Based (Defining m k x (Listed xs)) (Whole 0); read = refl; labels = tt }
place_live (AtListing m k x (Parted xs)) = record { tokens = Identifier t_name ∷ Close ∷ Separating Semicolon ∷ Integer 0 ∷ Separating Semicolon ∷ []; body = Based (Defining m k x (Listed (Also xs t_name))) (Whole 0); read = refl; labels = tt }
place_live (AtListing m k x (Over p)) = record { tokens = Separating Semicolon ∷ Integer 0 ∷ Separating Semicolon ∷ []; body = Based (Defining m k x p) (Whole 0); read = refl; labels = tt }
place_live AtEnd = record { tokens = Separating Semicolon ∷ []; body = Ending; read = refl; labels = tt }
place_live (AtFile ks) = record { tokens = String [] ∷ Separating Semicolon ∷ []; body = InFiles (with_file ks []); read = refl; labels = tt }
place_live (AtFiles ks) = record { tokens = Separating Semicolon ∷ []; body = InFiles ks; read = refl; labels = tt }
place_live (Inside b s) =
    let l = live s in
    record { tokens = l.tokens; body = Based b l.tree; read = inside_run l.tokens b s ∙ ap (wrap b) l.read; labels = l.labels }
