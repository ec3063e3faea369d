-- What a text begins with at a place, by the relations of the grammar.
use Rattle.std.specs.Prelude.{◌≡◌, ℕ, suc, ◌+◌, ◌<◌, ◌≤◌, List, length, drop}
use Rattle.rl_lex.specs.Kinds.{separator_kind}
use Rattle.rl_lex.specs.declared.kind.Separator.{Separator}
use Rattle.rl_lex.specs.declared.next.Token as lexed
use Rattle.rl_text.specs.Gap.{IsBlankText}
use Rattle.rl_grammar.specs.Token as token
use Rattle.rl_grammar.specs.Tree.{StatementBody}
use Rattle.rl_grammar.specs.Statement.{StatementPlace, GoesTo}
use Rattle.rl_grammar.specs.Within.{place_within}
use Rattle.rl_grammar.specs.Source.{longest, IsSource, IsUnreadable}
use Rattle.rl_grammar.specs.SourceReader.{SourceResult, HasStatement, Unreadable, read_source}
use Rattle.rl_parse.specs.Machine.{MachineStep, Moves, Completes, Refuses}
use Rattle.rl_parse.specs.Shapes.{what_of, place_shape, begun_at, frames_shape}
use Rattle.rl_parse.specs.declared.frame.Frame.{Frame}
use Rattle.rl_parse.specs.declared.place.Place.{Place}
use Rattle.rl_parse.specs.declared.place.What.{What}
use Rattle.rl_parse.specs.declared.recognize.Recognized.{Recognized}
use Rattle.rl_parse.specs.declared.recognize.Recognized.TheVariants.{Statement, Nothing, Syntax}
use Rattle.rl_parse.specs.declared.recognize.Advance.{Advance}
use Rattle.rl_parse.specs.declared.recognize.Advance.TheVariants.{Goes, Found}

-- the text begins with a statement of this kind, which ends before the place `to`
pub record IsStatementAt (bytes : List ℕ) (at : ℕ) (what : What) (separator : Separator) (to : ℕ) : Type 0 where
  pub after : at < to
  pub within : to ≤ length bytes
  pub body : StatementBody
  pub ending : token.Separator
  pub is : IsSource (drop at bytes) body ending (drop to bytes)
  pub kind : what ≡ what_of body
  pub ends : separator ≡ separator_kind ending

-- the text is refused at the byte at k, or at its end
pub record IsRefusedAtByte (bytes : List ℕ) (at k : ℕ) : Type 0 where
  pub after : at ≤ k
  pub within : k ≤ length bytes
  pub is : IsUnreadable (drop at bytes) (drop k bytes)

abbrev pub IsStatementHere : List ℕ → ℕ → Recognized → Type 0
IsStatementHere bytes at (Statement what separator to) = IsStatementAt bytes at what separator to
IsStatementHere bytes at r = Unit {0}

abbrev pub IsNothingHere : List ℕ → ℕ → Recognized → Type 0
IsNothingHere bytes at Nothing = IsBlankText (drop at bytes)
IsNothingHere bytes at r = Unit {0}

abbrev pub IsSyntaxHere : List ℕ → ℕ → Recognized → Type 0
IsSyntaxHere bytes at (Syntax k) = IsRefusedAtByte bytes at k
IsSyntaxHere bytes at r = Unit {0}

-- ---- a text that begins with a token

-- what stands behind the longest statement
abbrev pub behind_longest : List ℕ → List ℕ
behind_longest bytes = drop longest bytes

-- reading the text gives this, behind the place
abbrev pub IsRecognizedAs : List ℕ → ℕ → Recognized → SourceResult → Type 0
IsRecognizedAs bytes at (Statement what separator to) r = (at < to) × (to ≤ length bytes) × ((b : StatementBody) × (p : token.Separator) × (r ≡ HasStatement b p (drop to bytes)) × (what ≡ what_of b) × (separator ≡ separator_kind p))
IsRecognizedAs bytes at Nothing r = ⊥
IsRecognizedAs bytes at (Syntax k) r = (at ≤ k) × (k ≤ length bytes) × (r ≡ Unreadable (drop k bytes))

-- the machine stands where the parser does
abbrev pub Stands : Place → List Frame → StatementPlace → Type 0
Stands p fs s = (p ≡ place_shape s) × (fs ≡ frames_shape (begun_at s))

-- what is made of a token that leads the machine so
abbrev pub IsTaken : lexed.Token → List Frame → Advance → MachineStep → Type 0
IsTaken found fs (Goes p to) m = (to ≡ found.to) × (m ≡ Moves p fs)
IsTaken found fs (Found (Statement what separator to)) m = (to ≡ found.to) × (m ≡ Completes what separator)
IsTaken found fs (Found (Syntax k)) m = (k ≡ found.from) × (m ≡ Refuses)
IsTaken found fs (Found Nothing) m = ⊥

-- a token has led from one place to another
pub record IsAdvanced (bytes : List ℕ) (at : ℕ) (s : StatementPlace) (p : Place) (fs : List Frame) (to : ℕ) : Type 0 where
  pub after : at < to
  pub within : to ≤ length bytes
  pub short : to ≤ longest
  pub token : token.Token
  pub next : StatementPlace
  pub step : place_within s token ≡ GoesTo next
  pub stands : Stands p fs next
  pub reads : (n : ℕ) → read_source (suc n) (behind_longest bytes) s (drop at bytes) ≡ read_source n (behind_longest bytes) next (drop to bytes)

abbrev pub IsAdvance : List ℕ → ℕ → StatementPlace → List Frame → Advance → Type 0
IsAdvance bytes at s fs (Goes p to) = IsAdvanced bytes at s p fs to
IsAdvance bytes at s fs (Found r) = (n : ℕ) → IsRecognizedAs bytes at r (read_source (suc n) (behind_longest bytes) s (drop at bytes))

-- ---- a place further on

abbrev pub shifted_by : ℕ → Recognized → Recognized
shifted_by n (Statement what separator to) = Statement what separator (n + to)
shifted_by n Nothing = Nothing
shifted_by n (Syntax k) = Syntax (n + k)

-- where it ends is no further than this
abbrev pub EndsWithin : ℕ → Recognized → Type 0
EndsWithin n (Statement what separator to) = to ≤ n
EndsWithin n Nothing = Unit {0}
EndsWithin n (Syntax k) = k ≤ n
