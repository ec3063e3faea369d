-- Reading in a state keeps a law on one run: lists that are not whole yet end in a pair that is new.
use Rattle.std.proofs.Common.{◌+◌, drop, ℕ, Bool, true, false, List, [], ◌∷◌, Some, None}
use Rattle.rl_tree.specs.Value.{Value}
use Rattle.rl_text.specs.Word as word
use Rattle.rl_text.specs.Keeping.{MakerKeeps, MadeKept, made_kept, wants_kept, IsKeptByMaker, OutcomeKept, read_kept, none_kept, refused_kept, stopped_kept, KeptAlongText}
use Rattle.rl_text.specs.Reader as reader
use Rattle.rl_meaning.specs.State.{State}
use Rattle.rl_meaning.specs.Outcome.{Outcome, Done, Failed, Went, Returned, Stopped, Stop, Levels, deeper}
use Rattle.rl_meaning.specs.Lists.{Chain}
use Rattle.rl_meaning.specs.Errors.{unreadable}
use Rattle.rl_meaning.specs.Input.{with_input, byte_number, ReadingPlace, made_in, made_atom, byte_turn, entered_from, enter, ended_chain, vector_of_chain, quoted_value, in_state, FormReading, Form, End, Unreadable, form_reading_of, read_bytes, read_ended, read, readch_of, readch}
use Rattle.rl_meaning.specs.Evaluation.{Position, Inside}
use Rattle.rl_agrees.proofs.OneRun.{StepsAt, IsBehind, LeadsAt, Leads, Makes, ReadsLead, follows_same, follows_then, leads_from, anywhere, done_leads, stopped_leads, makes_any, deeper_leads}
use Rattle.rl_agrees.proofs.OneRunObjects.{leading, fail_leads, Chained, chained_none, cdr_set_follows, extended_makes}

pub input_follows : {freely : Bool} {P : State → State → Type 0} (steps : StepsAt freely P) {r : State} (rest : List ℕ) (s : State) → IsBehind P r s → IsBehind P r (with_input rest s)
input_follows steps {r} rest s h = follows_then steps r s _ h (steps.input rest s)

module _ {freely : Bool} {P : State → State → Type 0} (steps : StepsAt freely P) {position : Position} {r : State} where
  pub atom_leads : (a : word.Atom) (s : State) → IsBehind P r s → LeadsAt P position r (made_atom a s)
  atom_leads (word.Integer z) s h = search leading
  atom_leads (word.Identifier name) s h = search leading
  atom_leads (word.String bytes) s h = search leading

  pub byte_leads : (b : Bool) (s : State) → IsBehind P r s → LeadsAt P position r (byte_turn b s)
  byte_leads true s h = search leading
  byte_leads false s h = search leading

  pub vector_of_leads : (chain : Chain) (s : State) → IsBehind P r s → LeadsAt P position r (vector_of_chain chain s)
  vector_of_leads chain s h = search leading

  pub quoted_leads : (v : Value) (s : State) → IsBehind P r s → LeadsAt P position r (quoted_value v s)
  quoted_leads v s h = search leading

  pub ended_chain_makes : (chain : Chain) (v : Value) (s : State) → Chained r chain → IsBehind P r s → Makes P position r (λ c t. Chained r c) (ended_chain chain v s)
  ended_chain_makes None v s chained h = record { leads = search leading; good = chained }
  ended_chain_makes (Some c) v s chained h = record { leads = done_leads _ _ (cdr_set_follows steps c.1 v s chained.last h); good = chained }

-- ---- what is made in a state

abbrev Any : {A : Type 0} → A → Type 0
Any a = Unit {0}

-- what making in a state keeps behind a state: that each state follows it, and that lists that are not whole yet end in a pair that is newer
abbrev pub making_follows : (P : State → State → Type 0) → State → MakerKeeps ReadingPlace Value Chain Stop
making_follows P r = record { states = λ place. IsBehind P r place.state; values = λ v. Unit {0}; lists = λ chain. Chained r chain; wants = λ why place. IsBehind P r place.state }

module _ (P : State → State → Type 0) (r : State) where
  made_gives : {A : Type 0} (has : A → Type 0) (levels : Levels) (o : Outcome A) → Makes P Inside r (λ a t. has a) o → MadeKept (making_follows P r) has (made_in levels o)
  made_gives has levels (Done a s) h = made_kept a _ h.good (record { is = h.leads.moves })
  made_gives has levels (Failed n m s) h = wants_kept _ _ (record { is = h.leads.moves })
  made_gives has levels (Went l s) h = wants_kept _ _ (record { is = h.leads.moves })
  made_gives has levels (Returned v s) h = wants_kept _ _ (record { is = h.leads.moves })
  made_gives has levels (Stopped why s) h = wants_kept _ _ (record { is = h.leads.moves })

  entered_gives : (levels : Levels) (o : Outcome Levels) → Leads P r o → MadeKept (making_follows P r) {A = Unit {0}} Any (entered_from levels o)
  entered_gives levels (Done a s) h = made_kept tt _ tt (record { is = h.moves })
  entered_gives levels (Failed n m s) h = wants_kept _ _ (record { is = h.moves })
  entered_gives levels (Went l s) h = wants_kept _ _ (record { is = h.moves })
  entered_gives levels (Returned v s) h = wants_kept _ _ (record { is = h.moves })
  entered_gives levels (Stopped why s) h = wants_kept _ _ (record { is = h.moves })

  reading_leads : (bytes : List ℕ) (o : reader.ReaderOutcome ReadingPlace Value Stop) → OutcomeKept (making_follows P r) o → Leads P r (form_reading_of bytes o)
  reading_leads bytes o (read_kept v place rest e h) = done_leads _ _ h
  reading_leads bytes o (none_kept place h) = done_leads _ _ h
  reading_leads bytes o (refused_kept place from h) = done_leads _ _ h
  reading_leads bytes o (stopped_kept why place rest h) = stopped_leads _ _ h

module _ {freely : Bool} {P : State → State → Type 0} (steps : StepsAt freely P) (r : State) where
  enter_gives : (place : ReadingPlace) → IsBehind P r place.state → MadeKept (making_follows P r) {A = Unit {0}} Any (enter place)
  enter_gives place h = entered_gives P r place.levels (deeper 1 place.levels place.state (λ levels. Done levels place.state)) (deeper_leads steps 1 place.levels place.state _ h (λ l. search leading))

  in_state_follows : (turns : Bool) → IsKeptByMaker (making_follows P r) (in_state turns)
  in_state_follows turns = record {
    turn = λ place h. made_gives P r Any place.levels _ (makes_any _ (byte_leads steps turns place.state h));
    enter = λ place h. enter_gives place h;
    leave = λ place h. h;
    atom = λ a is place h. made_gives P r Any place.levels _ (makes_any _ (atom_leads steps a place.state h));
    nil = tt;
    empty = chained_none r;
    extended = λ chain v place good e h. made_gives P r (Chained r) place.levels _ (extended_makes steps chain v place.state good h);
    ended = λ chain v place good e h. made_gives P r (Chained r) place.levels _ (ended_chain_makes steps chain v place.state good h);
    list = λ chain good. tt;
    vector = λ chain place good h. made_gives P r Any place.levels _ (makes_any _ (vector_of_leads steps chain place.state h));
    quoted = λ v place e h. made_gives P r Any place.levels _ (makes_any _ (quoted_leads steps v place.state h));
  }

-- what making keeps, reading keeps
abbrev pub ReadingFollows : (State → State → Type 0) → Type 0
ReadingFollows P = (r : State) → KeptAlongText (making_follows P r)

pub reads_lead : {freely : Bool} {P : State → State → Type 0} → StepsAt freely P → ReadingFollows P → ReadsLead P
reads_lead {P = P} steps law = record { leads = λ turns levels bytes s. reading_leads P s bytes _ ((law s).text (in_state turns) (in_state_follows steps s turns) (record { state = s; levels = levels }) bytes (follows_same steps s)) }

module _ {freely : Bool} {P : State → State → Type 0} (steps : StepsAt freely P) {position : Position} {r : State} where
  pub read_ended_leads : (taken : ℕ) (reading : FormReading) (s : State) → IsBehind P r s → LeadsAt P position r (read_ended taken reading s)
  read_ended_leads taken (Form v rest) s h = search (leading, input_follows)
  read_ended_leads taken End s h = search (leading, input_follows)
  read_ended_leads taken (Unreadable k from) s h = fail_leads steps unreadable (byte_number (taken + k)) (with_input (drop 1 from) s) (input_follows steps (drop 1 from) s h)

  pub readch_of_leads : (bytes : List ℕ) (s : State) → IsBehind P r s → LeadsAt P position r (readch_of bytes s)
  readch_of_leads [] s h = search leading
  readch_of_leads (b ∷ bs) s h = search (leading, input_follows)

  pub readch_leads : (s : State) → IsBehind P r s → LeadsAt P position r (readch s)
  readch_leads s h = readch_of_leads s.outside.input s h

module _ {freely : Bool} {P : State → State → Type 0} (steps : StepsAt freely P) (reads : ReadsLead P) {position : Position} {r : State} where
  pub read_bytes_leads : (turns : Bool) (levels : Levels) (bytes : List ℕ) (s : State) → IsBehind P r s → LeadsAt P position r (read_bytes turns levels bytes s)
  read_bytes_leads turns levels bytes s h = anywhere position _ (leads_from steps r s _ h (reads.leads turns levels bytes s))

  pub read_leads : (levels : Levels) (s : State) → IsBehind P r s → LeadsAt P position r (read levels s)
  read_leads levels s h = search (leading, read_bytes_leads, read_ended_leads)
