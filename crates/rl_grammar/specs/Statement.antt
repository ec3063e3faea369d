-- Parsing a statement token by token: what an expr ends, and the statements that have none.
use Rattle.std.specs.Prelude.{ℕ, List, [], ◌∷◌}
use Rattle.rl_tree.specs.Name.{Name}
use Rattle.rl_grammar.specs.Token.{Separator, Semicolon, ModeWord, KindWord, Token, Mode, Kind, Procedure, Identifier, String, Open, Close, Comma, In, Separating, End}
use Rattle.rl_grammar.specs.Tree.{Just, Also, Parameters, NoParameters, OneParameter, NoneListed, Listed, MaybeMode, NoMode, InMode, MaybeKind, NoKind, OfKind, FileNames, JustFile, AlsoFile, Base, Plainly, Defining, StatementBody, Empty, Ending, InFiles, Only, Based}
use Rattle.rl_grammar.specs.Parser.{Listing, Begun, Opening, Naming, Parted, Over, ParserState, Want, ParserStep, Goes, Done, Refuses, parser_step}

-- the files before the one that comes
pub data MaybeFiles : Type 0 where
  NoFiles : MaybeFiles
  SomeFiles : FileNames → MaybeFiles

abbrev pub with_file : MaybeFiles → List ℕ → FileNames
with_file NoFiles k = JustFile k
with_file (SomeFiles ks) k = AlsoFile ks k

-- how far a statement is
pub data StatementPlace : Type 0 where
  Start : StatementPlace
  AtMode : ModeWord → StatementPlace
  AtKind : MaybeMode → KindWord → StatementPlace
  AtProcedure : MaybeMode → MaybeKind → StatementPlace
  AtListing : MaybeMode → MaybeKind → Name → Listing → StatementPlace
  AtEnd : StatementPlace
  AtFile : MaybeFiles → StatementPlace
  AtFiles : FileNames → StatementPlace
  Inside : Base → ParserState → StatementPlace

pub data PlaceStep : Type 0 where
  GoesTo : StatementPlace → PlaceStep
  Ends : StatementBody → Separator → PlaceStep
  Fails : PlaceStep

abbrev pub inside : Base → ParserStep → PlaceStep
inside b (Goes s) = GoesTo (Inside b s)
inside b (Done a p) = Ends (Based b a) p
inside b Refuses = Fails

abbrev pub at_body : MaybeMode → Token → PlaceStep
at_body m (Kind k) = GoesTo (AtKind m k)
at_body m Procedure = GoesTo (AtProcedure m NoKind)
at_body m t = inside (Plainly m) (parser_step (Want []) t)

abbrev pub at_start : Token → PlaceStep
at_start (Separating p) = Ends Empty p
at_start End = GoesTo AtEnd
at_start In = GoesTo (AtFile NoFiles)
at_start (Mode m) = GoesTo (AtMode m)
at_start t = at_body NoMode t

abbrev pub at_mode : ModeWord → Token → PlaceStep
at_mode m (Separating p) = Ends (Only m) p
at_mode m t = at_body (InMode m) t

abbrev pub at_kind : MaybeMode → KindWord → Token → PlaceStep
at_kind m k Procedure = GoesTo (AtProcedure m (OfKind k))
at_kind m k t = Fails

abbrev pub at_procedure : MaybeMode → MaybeKind → Token → PlaceStep
at_procedure m k (Identifier x) = GoesTo (AtListing m k x Begun)
at_procedure m k t = Fails

abbrev pub defined : MaybeMode → MaybeKind → Name → Parameters → PlaceStep
defined m k x p = GoesTo (Inside (Defining m k x p) (Want []))

abbrev pub at_listing : MaybeMode → MaybeKind → Name → Listing → Token → PlaceStep
at_listing m k x Begun (Identifier y) = GoesTo (AtListing m k x (Over (OneParameter y)))
at_listing m k x Begun Open = GoesTo (AtListing m k x Opening)
at_listing m k x Begun (Separating Semicolon) = defined m k x NoParameters
at_listing m k x Opening Close = GoesTo (AtListing m k x (Over NoneListed))
at_listing m k x Opening (Identifier y) = GoesTo (AtListing m k x (Naming (Just y)))
at_listing m k x (Naming xs) Comma = GoesTo (AtListing m k x (Parted xs))
at_listing m k x (Naming xs) Close = GoesTo (AtListing m k x (Over (Listed xs)))
at_listing m k x (Parted xs) (Identifier y) = GoesTo (AtListing m k x (Naming (Also xs y)))
at_listing m k x (Over p) (Separating Semicolon) = defined m k x p
at_listing m k x l t = Fails

abbrev pub place_at_end : Token → PlaceStep
place_at_end (Separating p) = Ends Ending p
place_at_end t = Fails

abbrev pub at_file : MaybeFiles → Token → PlaceStep
at_file ks (String k) = GoesTo (AtFiles (with_file ks k))
at_file ks t = Fails

abbrev pub at_files : FileNames → Token → PlaceStep
at_files ks Comma = GoesTo (AtFile (SomeFiles ks))
at_files ks (Separating p) = Ends (InFiles ks) p
at_files ks t = Fails

abbrev pub place_step : StatementPlace → Token → PlaceStep
place_step Start t = at_start t
place_step (AtMode m) t = at_mode m t
place_step (AtKind m k) t = at_kind m k t
place_step (AtProcedure m k) t = at_procedure m k t
place_step (AtListing m k x l) t = at_listing m k x l t
place_step AtEnd t = place_at_end t
place_step (AtFile ks) t = at_file ks t
place_step (AtFiles ks) t = at_files ks t
place_step (Inside b s) t = inside b (parser_step s t)

-- a statement, its separator and the tokens behind it; or the tokens from the one on that has no place
pub data Result : Type 0 where
  Parsed : StatementBody → Separator → List Token → Result
  Syntax : List Token → Result

abbrev pub after_place : List Token → Token → PlaceStep → (StatementPlace → Result) → Result
after_place ts t (GoesTo s) further = further s
after_place ts t (Ends b p) further = Parsed b p ts
after_place ts t Fails further = Syntax (t ∷ ts)

abbrev pub run_place : StatementPlace → List Token → Result
run_place s [] = Syntax []
run_place s (t ∷ ts) = after_place ts t (place_step s t) (λ s. run_place s ts)

abbrev pub parse_statement : List Token → Result
parse_statement ts = run_place Start ts
