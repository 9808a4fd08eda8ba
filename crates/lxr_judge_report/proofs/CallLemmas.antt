-- A call moves a position on: what it keeps follows the moment's step.
use Rattle.std.proofs.Common.{◌≡◌, ℕ, suc, ◌<◌, ◌≤◌, refl, sym, ap, subst, ◌∙◌, arith, true, false, cond, List, [], ◌∷◌, ◌++◌, length, length-append}
use Rattle.std.specs.Prelude.{Option, Some, None, ◌||◌, reverse, slice_get, if◌then◌else◌}
use Rattle.std.proofs.lemmas.Bool.{false_from_ne_true}
use Rattle.lxr_layout.specs.declared.Name.{Name}
use Rattle.lxr_graph.specs.declared.Op.{Op}
use Rattle.lxr_graph.specs.declared.Op.TheVariants as op
use Rattle.lxr_graph.specs.declared.Reply.{Reply}
use Rattle.lxr_graph.specs.declared.Reply.TheVariants as reply
use Rattle.lxr_graph.specs.Names.{same_name, has}
use Rattle.lxr_graph.specs.State.{State, refs_of, object_at, register_at}
use Rattle.lxr_graph.specs.Step.{IsWellFormed, step, store_to, stored, swap_in, swapped}
use Rattle.lxr_model.specs.Moments.{Field, Trace, Moment, with_field, made_after, written_after, after_call}
use Rattle.lxr_model.specs.Moments as model
use Rattle.lxr_model.proofs.ObjectLemmas.{keeps_objects}
use Rattle.lxr_model_counting.specs.Following.{FollowsPause, IsStepReply}
use Rattle.lxr_model_counting.specs.Garbage.{FollowsRunning}
use Rattle.lxr_model_counting.proofs.FollowingLemmas.{call_follows}
use Rattle.lxr_model_counting.proofs.GarbageLemmas.{call_keeps_garbage}
use Rattle.lxr_model_counting.proofs.ReplyLemmas.{state_after_step, step_reply}
use Rattle.lxr_judge_report.specs.Fields.{made_with, fields_with, joined_field}
use Rattle.lxr_judge_report.specs.LastPauses.{Past, IsLastOf}
use Rattle.lxr_judge_report.specs.Positions.{Present, IsAt, MovesByCall, target, unreclaimed_field}
use Rattle.lxr_judge_report.proofs.SetLemmas.{joined_has, inserted_has, inserted_length, joined_reversed}

-- ---- names made

made_called : (made ms : List Name) (r : Reply) → ((n : Name) → has made n ≡ has ms n) → (n : Name) → has (made_with made r) n ≡ has (made_after ms r) n
made_called made ms (reply.New x) same n = joined_has made x n ∙ ap (λ b. same_name n x || b) (same n) ∙ sym (inserted_has x ms n)
made_called made ms r same n = same n

made_counted : (made ms : List Name) (r : Reply) → ((n : Name) → has made n ≡ has ms n) → ((n : Name) → r ≡ reply.New n → has ms n ≡ false)
    → length made ≡ length ms → length (made_with made r) ≡ length (made_after ms r)
made_counted made ms (reply.New x) same new count =
    let none : has ms x ≡ false = new x refl in
    let longer : length (made ++ x ∷ []) ≡ suc (length ms) = let both = length-append made (x ∷ []) in omega (arith, both) in
    ap (λ b. length (cond b made (made ++ x ∷ []))) (same x ∙ none) ∙ longer ∙ sym (inserted_length x ms none)
made_counted made ms r same new count = count

-- ---- fields written

-- a field that is or isn't one of an unreclaimed object, where a write was told of
written_told : (us : List Name) (ws : List Field) (n : Name) (i : ℕ) (r : Reply) → fields_with (reverse ws) (Some (n, i)) r ≡ joined_field (reverse ws) (n, i)
    → fields_with (reverse ws) (unreclaimed_field us (Some n) i) r ≡ reverse (if has us n then with_field ws (n, i) else ws)
written_told us ws n i r told = elim (has us n) as (λ b. fields_with (reverse ws) (cond b (Some (n, i)) None) r ≡ reverse (cond b (with_field ws (n, i)) ws)) [
  | true ↦ told ∙ joined_reversed ws (n, i)
  | false ↦ refl
]

-- and where none was
written_untold : (us : List Name) (ws : List Field) (n : Name) (i : ℕ) (r : Reply) → fields_with (reverse ws) (Some (n, i)) r ≡ reverse ws
    → fields_with (reverse ws) (unreclaimed_field us (Some n) i) r ≡ reverse ws
written_untold us ws n i r told = elim (has us n) as (λ b. fields_with (reverse ws) (cond b (Some (n, i)) None) r ≡ reverse ws) [ true ↦ told | false ↦ refl ]

module _ (m : Moment) (t : ℕ) where
  stored_writes : (b i source : ℕ) (held base : Option Name) → register_at m.state t b ≡ base
      → fields_with (reverse m.written) (unreclaimed_field m.unreclaimed base i) (store_to m.state i held base).1
      ≡ reverse (written_after m t (op.Store b i source) (store_to m.state i held base).1)
  stored_writes b i source held None e = refl
  stored_writes b i source held (Some n) e = found (slice_get (refs_of (object_at m.state.graph n)) i)
    where
      found : (old : Option (Option Name)) → fields_with (reverse m.written) (unreclaimed_field m.unreclaimed (Some n) i) (stored m.state n i held old).1
          ≡ reverse (written_after m t (op.Store b i source) (stored m.state n i held old).1)
      found None = written_untold m.unreclaimed m.written n i reply.Range refl
      found (Some old) = written_told m.unreclaimed m.written n i reply.Stored refl ∙ ap (λ base. reverse (model.written_with m.unreclaimed m.written base i)) (sym e)

  swapped_writes : (dest b i source : ℕ) (held base : Option Name) → register_at m.state t b ≡ base
      → fields_with (reverse m.written) (unreclaimed_field m.unreclaimed base i) (swap_in m.state t dest i held base).1
      ≡ reverse (written_after m t (op.Swap dest b i source) (swap_in m.state t dest i held base).1)
  swapped_writes dest b i source held None e = refl
  swapped_writes dest b i source held (Some n) e = found (slice_get (refs_of (object_at m.state.graph n)) i)
    where
      found : (old : Option (Option Name)) → fields_with (reverse m.written) (unreclaimed_field m.unreclaimed (Some n) i) (swapped m.state t dest n i held old).1
          ≡ reverse (written_after m t (op.Swap dest b i source) (swapped m.state t dest n i held old).1)
      found None = written_untold m.unreclaimed m.written n i reply.Range refl
      found (Some old) = written_told m.unreclaimed m.written n i (reply.Swapped old) refl ∙ ap (λ base. reverse (model.written_with m.unreclaimed m.written base i)) (sym e)

  -- what a step writes joins the fields written
  fields_called : (o : Op) → fields_with (reverse m.written) (target m.state m.unreclaimed t o) (step m.state t o).1 ≡ reverse (written_after m t o (step m.state t o).1)
  fields_called (op.Store base index source) = stored_writes base index source (register_at m.state t source) (register_at m.state t base) refl
  fields_called (op.Swap dest base index source) = swapped_writes dest base index source (register_at m.state t source) (register_at m.state t base) refl
  fields_called (op.New dest shape) = refl
  fields_called (op.Load dest base index) = refl
  fields_called (op.Put base index value) = refl
  fields_called (op.Get base index) = refl
  fields_called (op.Add base index value) = refl
  fields_called (op.Move dest source) = refl
  fields_called (op.Nil dest) = refl
  fields_called (op.Same left right) = refl
  fields_called op.Pause = refl
  fields_called op.Collect = refl
  fields_called op.End = refl

-- ---- the moment after it

-- what is kept of the last pause stays
last_called : (past new : Past) (m : Moment) (t : ℕ) (o : Op) (r : Reply) → new ≡ past → IsLastOf past m → IsLastOf new (after_call m t o r)
last_called past new m t o r same is = subst (λ p. IsLastOf p (after_call m t o r)) (sym same) (record {
  number = is.number;
  unreclaimed = is.unreclaimed;
  stuck = is.stuck;
  trace = is.trace;
  state = is.state;
})

traces_called : (m : Moment) (t : ℕ) (o : Op) (r : Reply) (trace : Option Trace) → FollowsPause m → FollowsRunning m trace → IsStepReply m.state t o r
    → FollowsRunning (after_call m t o r) trace
traces_called m t o r None lives follows is = tt
traces_called m t o r (Some trace) lives follows is = call_keeps_garbage m t o r trace lives follows is

-- what a call did to what a position keeps, where it replied r
pub record Called (old new : Present) (t : ℕ) (o : Op) (r : Reply) : Type 0 where
  pub thread : 1 ≤ t
  pub row : t < length old.state.graph
  pub formed : IsWellFormed o
  pub step : step old.state t o ≡ (new.state, r)
  pub last : new.last ≡ old.last
  pub made : new.made ≡ made_with old.made r
  pub written : new.written ≡ fields_with old.written (target old.state old.last.unreclaimed t o) r

pub called_moves : (old new : Present) (t : ℕ) (o : Op) (r : Reply) → Called old new t o r → MovesByCall old new t o r
called_moves old new t o r called m at =
    let answer : Reply = (step m.state t o).1 in
    let row : t < length m.state.graph = subst (λ (s : State). t < length s.graph) at.state called.row in
    let stepped : step m.state t o ≡ (new.state, r) = subst (λ (s : State). step s t o ≡ (new.state, r)) at.state called.step in
    let replied : r ≡ answer = sym (ap (λ (p : State × Reply). p.1) stepped) in
    let is : IsStepReply m.state t o answer = step_reply m.state t o row called.thread in
    let made : new.made ≡ made_with old.made answer = called.made ∙ ap (made_with old.made) replied in
    let young : (n : Name) → answer ≡ reply.New n → has m.made n ≡ false =
    λ n e. false_from_ne_true (has m.made n) (λ h. ((keeps_objects m.state t o row n).1 e).0 (at.lives.young n h).1) in
    subst (λ x. IsAt new (after_call m t o x)) (sym replied) (record {
      lives = call_follows m t o answer at.lives called.formed is;
      traces = traces_called m t o answer m.trace at.lives at.traces is;
      stuck = at.stuck;
      state = sym (ap (λ (p : State × Reply). p.0) stepped) ∙ sym (state_after_step m.state t o);
      last = last_called old.last new.last m t o answer called.last at.last;
      made = λ n. ap (λ ns. has ns n) made ∙ made_called old.made m.made answer at.made n;
      made_once = ap (λ (ns : List Name). length ns) made ∙ made_counted old.made m.made answer at.made young at.made_once;
      written =
          called.written
          ∙ ap (λ ws. fields_with ws (target old.state old.last.unreclaimed t o) r) at.written
          ∙ ap (λ s. fields_with (reverse m.written) (target s old.last.unreclaimed t o) r) at.state
          ∙ ap (λ us. fields_with (reverse m.written) (target m.state us t o) r) at.last.unreclaimed
          ∙ ap (λ x. fields_with (reverse m.written) (target m.state m.unreclaimed t o) x) replied
          ∙ fields_called m t o;
    })
