-- Copying the form of a macro, and holding the value of its expansion, only make objects and a function.
use Rattle.std.proofs.Common.{ℕ, zero, suc, Bool, true, false, List, Option, Some, None}
use Rattle.rl_tree.specs.Value.{Value, Id}
use Rattle.rl_tree.specs.Value as object
use Rattle.rl_meaning.specs.State.{State, Entry, Tree, Atom, Quoted, Pair, Literal, Kept}
use Rattle.rl_meaning.specs.Outcome.{Outcome, Done, turns_left, Levels}
use Rattle.rl_meaning.specs.Symbols.{nil_value_of_state, pair_at}
use Rattle.rl_meaning.specs.Holding.{function_number, Reader, read_quoted, quoted_part, read_parts, list_within, read_list, read_form, hold_tree, hold_expansion}
use Rattle.rl_meaning.specs.Copying.{copied_parts, copied_pair, copied_at, copied}
use Rattle.rl_agrees.proofs.PlainWays.{then_ends, Stays, Leaves, pair_turn_ends, room_ends}
use Rattle.rl_agrees.proofs.PlainObjects.{IsNew, longer_more, with_functions_stays, object_stays, pair_new, staying}

module _ (b : State) (B : List Entry → Type 0) (Q : State → Type 0) where
  -- ---- reading a form

  abbrev Reads : Reader → Type 0
  Reads read = (descent : Bool) (levels : Levels) (v : Value) (s : State) → Stays b B s → Leaves b B Q (read descent levels v s)

  read_quoted_stays : (o : Option Value) (list : Reader) → Reads list → Reads (read_quoted o list)
  read_quoted_stays (Some x) list h descent levels v s k = search staying
  read_quoted_stays None list h descent levels v s k = h descent levels v s k

  read_parts_stays : (element list : Reader) → Reads element → Reads list → (o : Option (Value × Value)) → Reads (read_parts element list o)
  read_parts_stays element list f g None descent levels v s k = search staying
  read_parts_stays element list f g (Some parts) descent levels v s k = search (staying, f, g)

  list_within_stays : (n : ℕ) → Reads (list_within n)
  list_within_stays zero descent levels v s k = record { ends = tt }
  list_within_stays (suc n) descent levels v s k =
      read_parts_stays (λ b l v s. read_quoted (quoted_part s v) (λ b l v s. list_within n b l v s) b l v s) (λ b l v s. list_within n b l v s)
      (λ b l v s k. read_quoted_stays (quoted_part s v) (λ b l v s. list_within n b l v s) (λ b l v s k. list_within_stays n b l v s k) b l v s k) (λ b l v s k. list_within_stays n b l v s k) (pair_at s v) descent levels v s k

  read_form_stays : (levels : Levels) (v : Value) (s : State) → Stays b B s → Leaves b B Q (read_form levels v s)
  read_form_stays levels v s k = read_quoted_stays (quoted_part s v) read_list (λ descent levels v s k. list_within_stays (suc (suc (turns_left s))) descent levels v s k) false levels v s k

  -- ---- holding

  hold_tree_stays : (kind : Rattle.rl_tree.specs.declared.held.Kind.Kind) (parameters : List ℕ) (kept : List Kept) (body : Tree) (s : State) → Stays b B s → Leaves b B Q (hold_tree kind parameters kept body s)
  hold_tree_stays kind parameters kept body s k = room_ends b B _ Q _ s _ k (λ t k. record { ends = with_functions_stays b B t _ (longer_more b.functions t.functions _ k.functions) k })

  pub hold_expansion_stays : (levels : Levels) (kept : List Kept) (form : Value) (s : State) → Stays b B s → Leaves b B Q (hold_expansion levels kept form s)
  hold_expansion_stays levels kept form s k = search (staying, read_form_stays, hold_tree_stays)

  -- ---- copying: a pair is new, and so it may get its parts

  abbrev Acts : (State → Outcome Value) → Type 0
  Acts act = (s : State) → Stays b B s → Leaves b B Q (act s)

  abbrev ActsAt : (Levels → State → Outcome Value) → Type 0
  ActsAt act = (l : Levels) → Acts (λ s. act l s)

  copied_parts_stays : (pair : Value) (first rest : State → Outcome Value) → IsNew b pair → Acts first → Acts rest → Acts (copied_parts pair first rest)
  copied_parts_stays pair first rest new f g s k =
      then_ends _ _ Q _ _ (f s k) (λ a t k.
      then_ends _ _ Q _ _ (g _ (object_stays b B pair (object.Pair a nil_value_of_state) t new k)) (λ d u k. record { ends = object_stays b B pair (object.Pair a d) u new k }))

  copied_pair_stays : (descent : Bool) (levels : Levels) (first rest : Levels → State → Outcome Value) → ActsAt first → ActsAt rest → Acts (λ s. copied_pair descent levels first rest s)
  copied_pair_stays descent levels first rest f g s k =
      pair_turn_ends b B _ Q descent levels s _ k (λ l t k. then_ends _ _ Q _ _ (pair_new b B Q nil_value_of_state nil_value_of_state t k) (λ pair u r. copied_parts_stays pair (λ s. first l s) (λ s. rest l s) r.0 (f l) (g l) u r.1))

  copied_at_stays : (descent : Bool) (levels : Levels) (t : Tree) (s : State) → Stays b B s → Leaves b B Q (copied_at descent levels t s)
  copied_at_stays descent levels (Atom v) s k = search staying
  copied_at_stays descent levels (Quoted v) s k = search staying
  copied_at_stays descent levels (Pair a d) s k =
      copied_pair_stays descent levels (λ l s. copied_at true l a s) (λ l s. copied_at false l d s) (λ l s k. copied_at_stays true l a s k) (λ l s k. copied_at_stays false l d s k) s k
  copied_at_stays descent levels (Literal n e) s k =
      copied_pair_stays descent levels (λ l s. Done (Id function_number) s) (λ l s. copied_pair false l (λ l s. copied_at true l e s) (λ l s. Done nil_value_of_state s) s) (λ l s k. record { ends = k })
      (λ l s k. copied_pair_stays false l (λ l s. copied_at true l e s) (λ l s. Done nil_value_of_state s) (λ l s k. copied_at_stays true l e s k) (λ l s k. record { ends = k }) s k) s k

  pub copied_stays : (levels : Levels) (t : Tree) (s : State) → Stays b B s → Leaves b B Q (copied levels t s)
  copied_stays levels t s k = copied_at_stays false levels t s k
