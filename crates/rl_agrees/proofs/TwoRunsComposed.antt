-- A run in which code runs agrees with the walk of the same program: each code by itself does, and evaluation and c-macros respect that. And so do two walks, of which the left one may lack bindings.
use Rattle.std.proofs.Common.{◌≡◌, ◌∙◌, ◌≤◌, ◌<◌, ◌==◌, ◌&&◌, if◌then◌else◌, ℕ, zero, suc, Bool, true, false, nat_lt, List, ◌∷◌, length, Option, Some, None, refl, sym, ap, subst, arith}
use Rattle.std.proofs.lemmas.Bool.Decides.{nat_tests}
use Rattle.rl_tree.specs.Value.{Value}
use Rattle.rl_meaning.specs.CMacros.{Entry}
use Rattle.rl_meaning.specs.State.{State, Code, Coded, Expansion, Held, Pointer, Function, HeldFunction}
use Rattle.rl_meaning.specs.Outcome.{Outcome, Stopped, Turns, Levels}
use Rattle.rl_meaning.specs.Holding.{function_at}
use Rattle.rl_meaning.specs.Holding as holding
use Rattle.rl_meaning.specs.Variables.{with_mark, restored}
use Rattle.rl_meaning.specs.Evaluation.{Job, Run, Onward, Call_, From, In, Here, Rec, Frame, walked, eval, statements, applied, longest_chain}
use Rattle.rl_meaning.specs.Machine.{run, run_code, one_more, at_entry}
use Rattle.rl_meaning.specs.Jobs.{names_function, code_among, code_outside, code_of, run_held, job_done, job_rank, rank, chain_of_job, job, jobs, the_compiler}
use Rattle.rl_meaning.specs.LesserJobs.{below_by, below}
use Rattle.rl_meaning.specs.Laws.{IsFuelEnough}
use Rattle.rl_meaning.specs.TwoRunsLinks.{OneToOne}
use Rattle.rl_meaning.specs.TwoRunsValues.{Names, Maybe, nothing, just, Each, end, more, SameValue, SameHeld, SamePointer, same_pointer, SameCode, SameCoded, same_coded}
use Rattle.rl_meaning.specs.TwoRunsStates.{Bounds, EntryPlace, all_both, SameExpansion, same_none, same_open, Like, Roomier}
use Rattle.rl_meaning.specs.TwoRunsEnds.{stopped, EndsAgree}
use Rattle.rl_meaning.specs.Right.{AgreesWith, Right}
use Rattle.rl_agrees.specs.Later.{IsMemberOf, first, further}
use Rattle.rl_agrees.specs.TwoRunsJobs.{SameHere, same_here, SameJob, same_run, same_onward, same_call, same_from, same_in, ReadyCode, Ready}
use Rattle.rl_agrees.proofs.TwoRunsKept.{IsWhole, EndsSomewhere, EndsOf}
use Rattle.rl_agrees.proofs.TwoRunsObjects.{linked_same}
use Rattle.rl_agrees.proofs.TwoRunsKnown.{names_on_right, right_covers, knows, whole_places, all_both_whole}
use Rattle.rl_agrees.proofs.TwoRunsJoined.{joined}
use Rattle.rl_agrees.proofs.TwoRunsFacts.{Ask, AskGoes, GoesOn}
use Rattle.rl_agrees.proofs.TwoRunsAsked as asked
use Rattle.rl_agrees.proofs.TwoRunsCompared.{Comparison, PlacesOf, Starts, code_and_walk}

abbrev by : Ask → Rec
by ask = asked.by the_compiler ask

abbrev Respects : Bounds → Ask → Ask → Type 0
Respects bounds ask ask' = asked.Respects bounds code_and_walk ask ask'

-- a job that walks
abbrev pub walk_done : Rec → Job → State → Outcome Value
walk_done rec (Run name levels holder f held vs) s = walked rec levels holder f held vs s
walk_done rec (Onward f m code) s = run rec f code m s
walk_done rec (Call_ name levels f vs) s = applied rec name levels f vs s
walk_done rec (From here whole rest) s = statements rec here whole rest s
walk_done rec (In here position body) s = eval rec here position body s

-- the code that a job runs
abbrev pub code_in : Job → State → Option Code
code_in (Run name levels holder f held vs) s = code_of name f s
code_in j s = None

walk_is : (rec : Rec) (j : Job) (s : State) → code_in j s ≡ None → job_done rec j s ≡ walk_done rec j s
walk_is rec (Run name levels holder f held vs) s e = ap (λ o. run_held rec o levels holder f held vs s) e
walk_is rec (Onward f m code) s e = refl
walk_is rec (Call_ name levels f vs) s e = refl
walk_is rec (From here whole rest) s e = refl
walk_is rec (In here position body) s e = refl

-- ---- the right run walks

no_code : (e : Option Expansion) (coded : List Coded) (i : ℕ) (f : Option Pointer) → code_outside e false coded i f ≡ None
no_code None coded i f = refl
no_code (Some e) coded i f = refl

walks : (name : Option ℕ) (f : Option Pointer) (t : State) → t.compilation.runs_code ≡ false → code_of name f t ≡ None
walks None f t e = refl
walks (Some i) f t e = ap (λ b. code_outside t.counts.expansion b t.compilation.coded i f) e ∙ no_code t.counts.expansion t.compilation.coded i f

pub walks_all : (j : Job) (t : State) → t.compilation.runs_code ≡ false → code_in j t ≡ None
walks_all (Run name levels holder f held vs) t e = walks name f t e
walks_all (Onward f m code) t e = refl
walks_all (Call_ name levels f vs) t e = refl
walks_all (From here whole rest) t e = refl
walks_all (In here position body) t e = refl

-- ---- as much is left to do

module _ {bounds : Bounds} where
  here_chain : (n : Names) (h g : Here) → SameHere bounds n h g → h.chain ≡ g.chain
  here_chain n h g (same_here chain kept l m i j r k) = refl

  chain_same : (n : Names) (j k : Job) → SameJob bounds n j k → chain_of_job j ≡ chain_of_job k
  chain_same n j k (same_run name l m h g p q a b vs ws r i x y z) = refl
  chain_same n j k (same_onward f g m l c d x y z) = refl
  chain_same n j k (same_call name l m p q vs ws x y z) = refl
  chain_same n j k (same_from h g a b c d x y z) = here_chain n h g x
  chain_same n j k (same_in h g position a b x y) = here_chain n h g x

  rank_same : (n : Names) (ps : List EntryPlace) (j k : Job) (s t : State) → SameJob bounds n j k → Like bounds n ps s t → rank j s ≡ rank k t
  rank_same n ps j k s t x l = at s.counts.expansion t.counts.expansion l.counts.expansion ∙ ap (λ c. job_rank c t.counts.expansion t.counts.turns) (chain_same n j k x)
    where
      at : (e f : Option Expansion) → SameExpansion e f → job_rank (chain_of_job j) e s.counts.turns ≡ job_rank (chain_of_job j) f t.counts.turns
      at e f same_none = ap (λ u. job_rank (chain_of_job j) None u) l.counts.turns
      at e f (same_open x) = refl

-- ---- the code on the left, and the entry on the right

-- an entry of the right map whose code is the same
record Matched (n : Names) (code : Code) (q : Option Pointer) (ds : List Coded) : Type 0 where
  entry : Coded
  is_in : IsMemberOf entry ds
  same : SameCode n code entry.code
  function : q ≡ Some entry.function

named_same : (n : Names) (p q : Option Pointer) (f g : Pointer) → OneToOne n.functions → Maybe (SamePointer n) p q → SamePointer n f g → names_function p f ≡ names_function q g
named_same n p q f g one nothing y = refl
named_same n p q f g one (just _ _ (same_pointer a b place h)) (same_pointer c d other k) = ap (λ x. x && place == other) (linked_same n.functions a c b d one h k)

pointer_is : (p q : Pointer) → holding.same_pointer p q ≡ true → p ≡ q
pointer_is p q e = at (p.function == q.function) (p.place == q.place) refl refl e
  where
    at : (a b : Bool) → (p.function == q.function) ≡ a → (p.place == q.place) ≡ b → (a && b) ≡ true → p ≡ q
    at true true x y e = let u : p.function ≡ q.function = grind (arith, nat_tests, x) in let v : p.place ≡ q.place = grind (arith, nat_tests, y) in λ i. record { function = u i; place = v i }
    at true false x y e = absurd (cc)
    at false b x y e = absurd (cc)

named_is : (q : Option Pointer) (g : Pointer) → names_function q g ≡ true → q ≡ Some g
named_is None g e = absurd (cc)
named_is (Some q) g e = ap (λ x. Some x) (pointer_is q g e)

matched_further : (n : Names) (code : Code) (q : Option Pointer) (d : Coded) (ds : List Coded) → Matched n code q ds → Matched n code q (d ∷ ds)
matched_further n code q d ds m = record { entry = m.entry; is_in = further d ds m.is_in; same = m.same; function = m.function }

matched_at : (n : Names) (i : ℕ) (p q : Option Pointer) (code : Code) (c d : Coded) (cs ds : List Coded) → OneToOne n.functions → Maybe (SamePointer n) p q → SameCoded n c d
    → code_among (c ∷ cs) i p ≡ Some code → (code_among cs i p ≡ Some code → Matched n code q ds) → Matched n code q (d ∷ ds)
matched_at n i p q code c d cs ds one r (same_coded name loaded f g a b xs ys h k l) e next = at (name == i) (names_function p f) refl e
  where
    at : (t u : Bool) → names_function p f ≡ u → (if t && u then Some a else code_among cs i p) ≡ Some code → Matched n code q (d ∷ ds)
    at true true y e = let z : a ≡ code = cc in record {
      entry = d;
      is_in = first ds;
      same = subst (λ x. SameCode n x b) z k;
      function = named_is q g (sym (named_same n p q f g one r h) ∙ y);
    }
    at true false y e = matched_further n code q d ds (next e)
    at false u y e = matched_further n code q d ds (next e)

matched : (n : Names) (i : ℕ) (p q : Option Pointer) (code : Code) (cs ds : List Coded) → OneToOne n.functions → Maybe (SamePointer n) p q → Each (SameCoded n) cs ds → code_among cs i p ≡ Some code → Matched n code q ds
matched n i p q code cs ds one r end e = absurd (cc)
matched n i p q code cs ds one r (more c d as' bs h k) e = matched_at n i p q code c d as' bs one r h e (λ y. matched n i p q code as' bs one r k y)

-- outside expansions, and by a name
record Chosen (name : Option ℕ) (p : Option Pointer) (s : State) (code : Code) : Type 0 where
  called : ℕ
  name_is : name ≡ Some called
  expansion : s.counts.expansion ≡ None
  among : code_among s.compilation.coded called p ≡ Some code

chosen : (name : Option ℕ) (p : Option Pointer) (s : State) (code : Code) → code_of name p s ≡ Some code → Chosen name p s code
chosen None p s code e = absurd (cc)
chosen (Some i) p s code e = at s.counts.expansion s.compilation.runs_code refl e
  where
    at : (x : Option Expansion) (b : Bool) → s.counts.expansion ≡ x → code_outside x b s.compilation.coded i p ≡ Some code → Chosen (Some i) p s code
    at None true y e = record { called = i; name_is = refl; expansion = y; among = e }
    at None false y e = absurd (cc)
    at (Some x) b y e = absurd (cc)

expansion_none : (a b : Option Expansion) → a ≡ None → SameExpansion a b → b ≡ None
expansion_none a b e same_none = refl
expansion_none a b e (same_open x) = absurd (cc)

held_is : (f : Function) (a b : Held) → f ≡ HeldFunction a → f ≡ HeldFunction b → a ≡ b
held_is f a b x y = cc

-- ---- the walk of a job, by the jobs below

-- the jobs below this rank agree
abbrev Below : Bounds → Comparison → ℕ → Type 0
Below bounds c i = (n : Names) (ps : List EntryPlace) (j : Job) (s : State) (k : Job) (t : State) → Starts bounds c n ps j s k t → rank j s < i → EndsOf bounds j n ps (job the_compiler j s) (job the_compiler k t)

module _ {bounds : Bounds}
    (c : Comparison)
    (fuel : IsFuelEnough)
    (below_goes : (i : ℕ) → AskGoes (below i))
    (walk_respects : (ask ask' : Ask) → AskGoes ask → AskGoes ask' → asked.Respects bounds c ask ask' → (n : Names) (ps : List EntryPlace) (j : Job) (s : State) (k : Job) (t : State) → Starts bounds c n ps j s k t → EndsOf bounds j n ps (walk_done (by ask) j s) (walk_done (by ask') k t))
  where
    ends_stopped : (j : Job) (n : Names) (ps : List EntryPlace) (s t : State) → PlacesOf c j ps → Like bounds n ps s t → EndsOf bounds j n ps (Stopped Turns s) (Stopped Turns t)
    ends_stopped (Run name levels holder f held vs) n ps s t w l = stopped Turns s t (record { outside = l.outside; turns = l.counts.turns; may = tt })
    ends_stopped (Onward f m code) n ps s t w l = record { places = ps; whole = c.whole ps w; ends = stopped Turns s t (record { outside = l.outside; turns = l.counts.turns; may = tt }) }
    ends_stopped (Call_ name levels f vs) n ps s t w l = stopped Turns s t (record { outside = l.outside; turns = l.counts.turns; may = tt })
    ends_stopped (From here whole rest) n ps s t w l = stopped Turns s t (record { outside = l.outside; turns = l.counts.turns; may = tt })
    ends_stopped (In here position body) n ps s t w l = stopped Turns s t (record { outside = l.outside; turns = l.counts.turns; may = tt })

    below_respects : (i : ℕ) → Below bounds c i → asked.Respects bounds c (below i) (below i)
    below_respects i ih n ps j s k t st = subst (λ r. EndsOf bounds j n ps (below i j s) (below_by (nat_lt r i) k t)) (rank_same n ps j k s t st.same st.like) (at (nat_lt (rank j s) i) refl)
      where
        at : (b : Bool) → nat_lt (rank j s) i ≡ b → EndsOf bounds j n ps (below_by b j s) (below_by b k t)
        at true e = ih n ps j s k t st (grind (arith, nat_tests, e))
        at false e = ends_stopped j n ps s t st.places st.like

    walk_agrees : (i : ℕ) → Below bounds c i → (n : Names) (ps : List EntryPlace) (j : Job) (s : State) (k : Job) (t : State) → Starts bounds c n ps j s k t → rank j s ≤ i → code_in j s ≡ None → EndsOf bounds j n ps (job the_compiler j s) (job the_compiler k t)
    walk_agrees i ih n ps j s k t st le e =
        let le' : rank k t ≤ i = subst (λ r. r ≤ i) (rank_same n ps j k s t st.same st.like) le in
        let left : job the_compiler j s ≡ walk_done (by (below i)) j s = fuel.less i j s le ∙ walk_is (by (below i)) j s e in
        let right : job the_compiler k t ≡ walk_done (by (below i)) k t = fuel.less i k t le' ∙ walk_is (by (below i)) k t (walks_all k t st.like.compilation.walks) in
        subst (λ o. EndsOf bounds j n ps o (job the_compiler k t)) (sym left) (subst (λ o. EndsOf bounds j n ps (walk_done (by (below i)) j s) o) (sym right)
        (walk_respects (below i) (below i) (below_goes i) (below_goes i) (below_respects i ih) n ps j s k t st))

    -- where no code runs on the left, that is all there is
    pub walks_composed : ((j : Job) (s : State) (t : State) → c.states s t → code_in j s ≡ None) → asked.Respects bounds c (job the_compiler) (job the_compiler)
    walks_composed no_code_in n ps j s k t st = agrees (suc (rank j s)) n ps j s k t st (omega arith)
      where
        agrees : (i : ℕ) → Below bounds c i
        agrees zero n ps j s k t st lt = absurd (omega (arith, lt))
        agrees (suc i) n ps j s k t st lt = walk_agrees i (agrees i) n ps j s k t st (omega (arith, lt)) (no_code_in j s t st.ready)

-- ---- composition

module _ {bounds : Bounds}
    (fuel : IsFuelEnough)
    (job_goes : AskGoes (job the_compiler))
    (code_goes : (levels : Levels) (f : Option Pointer) (held : Held) (code : Code) (vs : List Value) (s : State) → GoesOn s (run_code (jobs the_compiler) levels f held code vs s))
    (below_goes : (i : ℕ) → AskGoes (below i))
    (walk_respects : (ask ask' : Ask) → AskGoes ask → AskGoes ask' → Respects bounds ask ask' → (n : Names) (ps : List EntryPlace) (j : Job) (s : State) (k : Job) (t : State) → Starts bounds code_and_walk n ps j s k t → EndsOf bounds j n ps (walk_done (by ask) j s) (walk_done (by ask') k t))
    (code_respects : (ask ask' : Ask) → AskGoes ask → AskGoes ask' → Respects bounds ask ask' → (n : Names) (ps : List EntryPlace) (l m : Levels) (p q : Option Pointer) (a b : Held) (c d : Code) (vs ws : List Value) (s t : State)
    → Roomier bounds l m → Maybe (SamePointer n) p q → SameHeld n a b → SameCode n c d → Each (SameValue n) vs ws → Like bounds n ps s t → IsWhole ps → Ready the_compiler t
    → EndsSomewhere bounds n (run_code (by ask) l p a c vs s) (run_code (by ask') m q b d ws t))
  where
    -- code from its entry on is a job that has no more to do
    code_below : (i : ℕ) (levels : Levels) (f : Option Pointer) (held : Held) (code : Code) (vs : List Value) (t : State) → job_rank longest_chain t.counts.expansion t.counts.turns ≤ i → run_code (by (below i)) levels f held code vs t ≡ run_code (jobs the_compiler) levels f held code vs t
    code_below i levels f held (Entry name n ∷ rest) vs t le =
        let frame : Frame = record { name = name; function = f; held = held; code = Entry name n ∷ rest; depth = length t.bindings; outside = one_more levels } in
        let j : Job = Onward frame (at_entry vs levels) rest in
        ap (λ o. restored (length t.bindings) o) (sym (fuel.less i j (with_mark f t) le) ∙ fuel.done j (with_mark f t))
    code_below i levels f held other vs t le = refl

    -- its code on both sides, then its code and its walk on the right
    code_by : (i : ℕ) → Below bounds code_and_walk i → (n : Names) (ps : List EntryPlace) (name : Option ℕ) (l m : Levels) (h g : ℕ) (p : Option Pointer) (a b : Held) (vs ws : List Value) (s t : State) (code : Code) (entry : Coded)
        → IsMemberOf entry t.compilation.coded → SameCode n code entry.code → t.counts.expansion ≡ None
        → Roomier bounds l m → SameHeld n a b → Each (SameValue n) vs ws
        → rank (Run name l h p a vs) s ≤ i → code_of name p s ≡ Some code
        → Starts bounds code_and_walk n ps (Run name l h p a vs) s (Run name m g (Some entry.function) b ws) t → Maybe (SamePointer n) p (Some entry.function)
        → EndsAgree bounds n ps (job the_compiler (Run name l h p a vs) s) (job the_compiler (Run name m g (Some entry.function) b ws) t)
    code_by i ih n ps name l m h g p a b vs ws s t code entry is_in same x r hh vv le e st pq =
        let j : Job = Run name l h p a vs in
        let f : Pointer = entry.function in
        let k : Job = Run name m g (Some f) b ws in
        let own : ReadyCode the_compiler t entry = st.ready.codes entry is_in in
        let of_ : (function_at t f ≡ HeldFunction b) × (g ≡ f.function) × (length ws ≡ length b.parameters) = st.asked in
        let right : Right the_compiler own.lowered entry b own.stood = subst (λ h. Right the_compiler own.lowered entry h own.stood) (held_is (function_at t f) own.held b own.is of_.0) own.right in
        let P : Outcome Value = run_code (jobs the_compiler) m (Some f) b entry.code ws t in
        let agrees : AgreesWith bounds (names_on_right n) t.bindings P (walked (jobs the_compiler) m f.function (Some f) b ws t) =
        right.agrees bounds (names_on_right n) m ws t (knows n ps s t vs ws code entry.code st.places st.like vv same) r.bound of_.2 of_.0 st.like.compilation.walks x own.stands own.constants in
        let walk : job the_compiler k t ≡ walked (jobs the_compiler) m g (Some f) b ws t = fuel.done k t ∙ walk_is (jobs the_compiler) k t (walks_all k t st.like.compilation.walks) in
        let second : AgreesWith bounds (names_on_right n) t.bindings P (job the_compiler k t) =
        subst (λ o. AgreesWith bounds (names_on_right n) t.bindings P o) (sym walk) (subst (λ z. AgreesWith bounds (names_on_right n) t.bindings P (walked (jobs the_compiler) m z (Some f) b ws t)) (sym of_.1) agrees) in
        let left : job the_compiler j s ≡ run_code (by (below i)) l p a code vs s = fuel.less i j s le ∙ ap (λ o. run_held (by (below i)) o l h p a vs s) e in
        let le' : rank k t ≤ i = subst (λ r. r ≤ i) (rank_same n ps j k s t st.same st.like) le in
        let first : EndsSomewhere bounds n (job the_compiler j s) P =
        subst (λ o. EndsSomewhere bounds n o P) (sym left) (subst (λ o. EndsSomewhere bounds n (run_code (by (below i)) l p a code vs s) o) (code_below i m (Some f) b entry.code ws t le')
        (code_respects (below i) (below i) (below_goes i) (below_goes i) (below_respects code_and_walk fuel below_goes walk_respects i ih) n ps l m p (Some f) a b code entry.code vs ws s t r pq hh same vv st.like st.places st.ready)) in
        subst (λ qs. EndsAgree bounds n qs (job the_compiler j s) (job the_compiler k t)) (sym (whole_places n ps s.bindings t.bindings st.places st.like.bindings))
        (joined n (names_on_right n) (right_covers n) first.places (all_both t.bindings) first.whole (all_both_whole t.bindings) (job the_compiler j s) P (job the_compiler k t)
        ((job_goes.goes k t).goes.within st.ready.event) second.events (sym (code_goes m (Some f) b entry.code ws t).goes.bounded ∙ (job_goes.goes k t).goes.bounded) first.ends second.ends)

    code_agrees : (i : ℕ) → Below bounds code_and_walk i → (n : Names) (ps : List EntryPlace) (name : Option ℕ) (l m : Levels) (h g : ℕ) (p q : Option Pointer) (a b : Held) (vs ws : List Value) (s t : State) (code : Code)
        → Starts bounds code_and_walk n ps (Run name l h p a vs) s (Run name m g q b ws) t → Roomier bounds l m → Maybe (SamePointer n) p q → SameHeld n a b → Each (SameValue n) vs ws
        → rank (Run name l h p a vs) s ≤ i → code_of name p s ≡ Some code → EndsAgree bounds n ps (job the_compiler (Run name l h p a vs) s) (job the_compiler (Run name m g q b ws) t)
    code_agrees i ih n ps name l m h g p q a b vs ws s t code st r pq hh vv le e =
        let c : Chosen name p s code = chosen name p s code e in
        let x : Matched n code q t.compilation.coded = matched n c.called p q code s.compilation.coded t.compilation.coded st.like.functions.once pq st.like.compilation.coded c.among in
        subst (λ q. Starts bounds code_and_walk n ps (Run name l h p a vs) s (Run name m g q b ws) t → Maybe (SamePointer n) p q → EndsAgree bounds n ps (job the_compiler (Run name l h p a vs) s) (job the_compiler (Run name m g q b ws) t))
        (sym x.function)
        (code_by i ih n ps name l m h g p a b vs ws s t code x.entry x.is_in x.same (expansion_none s.counts.expansion t.counts.expansion c.expansion st.like.counts.expansion) r hh vv le e)
        st pq

    below_agrees : (i : ℕ) → Below bounds code_and_walk i
    below_agrees zero n ps j s k t st lt = absurd (omega (arith, lt))
    below_agrees (suc i) n ps j s k t st lt = at (below_agrees i) j k (code_in j s) refl st st.same (omega (arith, lt))
      where
        at : Below bounds code_and_walk i → (j k : Job) (o : Option Code) → code_in j s ≡ o → Starts bounds code_and_walk n ps j s k t → SameJob bounds n j k → rank j s ≤ i → EndsOf bounds j n ps (job the_compiler j s) (job the_compiler k t)
        at ih j k None e st same le = walk_agrees code_and_walk fuel below_goes walk_respects i ih n ps j s k t st le e
        at ih _ _ (Some code) e st (same_run name l m h g p q a b vs ws r x pq hh vv) le = code_agrees i ih n ps name l m h g p q a b vs ws s t code st r pq hh vv le e
        at ih _ _ (Some code) e st (same_onward f g m l c d x y z) le = absurd (cc)
        at ih _ _ (Some code) e st (same_call name l m p q vs ws x y z) le = absurd (cc)
        at ih _ _ (Some code) e st (same_from h g a b c d x y z) le = absurd (cc)
        at ih _ _ (Some code) e st (same_in h g position a b x y) le = absurd (cc)

    -- a run in which code runs agrees with the walk
    pub composed : Respects bounds (job the_compiler) (job the_compiler)
    composed n ps j s k t st = below_agrees (suc (rank j s)) n ps j s k t st (omega arith)
