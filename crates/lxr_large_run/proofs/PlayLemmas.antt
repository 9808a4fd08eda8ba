-- Playing goes on by calls and pauses: what a call has come to, directly or after a pause that was made for it, and what is left once its reply is
-- kept and the pause that it asks for is made.
use Rattle.std.proofs.Common.{◌≡◌, ℕ, ◌+◌, ◌∙◌, sym, ap, subst, arith, Bool, List, [], ◌∷◌, ◌++◌, append_assoc, length, length-append, Option, Some, None}
use Rattle.lxr_graph.specs.Listing.{NameList}
use Rattle.lxr_graph.specs.History.{report_of}
use Rattle.lxr_text_script.specs.declared.TheConstants.{SCRIPT_REGISTERS}
use Rattle.lxr_text_print.specs.Reports.{report_text}
use Rattle.lxr_text_stream.specs.Streams.{Appends, AppendsFront}
use Rattle.lxr_text_stream.proofs.StreamLemmas.{Appends-append, AppendsFront-after}
use Rattle.lxr_large_model.specs.declared.LargeOp.{LargeOp}
use Rattle.lxr_large_model.specs.declared.LargeReply.{LargeReply}
use Rattle.lxr_large_model.specs.Full.{LargeTerms}
use Rattle.lxr_large_model.specs.History.{LargeItem, Called, Paused}
use Rattle.lxr_large_model.specs.Pauses.{AsksFor, IsLegalLarge, IsMadeFor, PausesHaveCauses}
use Rattle.lxr_heap.specs.declared.heap.Heap.{Heap}
use Rattle.lxr_heap.specs.Acting.{IsReplied, MayBeCalled}
use Rattle.lxr_heap.specs.Pausing.{PausesHeap, kind_asked}
use Rattle.lxr_large_text.specs.Histories.{CausesSoFar, called_in}
use Rattle.lxr_large_text.specs.Texts.{large_reports_text}
use Rattle.lxr_large_text.proofs.CauseLemmas.{any_call_may_come, asked_are_followed, pauses_are_made_for, unasked_owe_nothing}
use Rattle.lxr_large_run.specs.Asking.{asked_by}
use Rattle.lxr_large_run.specs.Playing.{HasCome, IsCutEarly, IsPlaying, LargeTask, TellsPrinted}
use Rattle.lxr_heap.proofs.NumberLemmas.{called_makes, called_pauses, paused_pauses}
use Rattle.lxr_large_run.proofs.CallLemmas.{asks_for, asks_none}

-- ---- a call

module _ (task : LargeTask) (o : LargeOp) (rest : List LargeOp) (x : Heap) (written : Option (List ℕ)) (replies : List LargeReply) (h : List LargeItem) (p : IsPlaying task (o ∷ rest) x written replies h) where
  -- it was done without a pause
  pub came_directly : (y : Heap) (r : LargeReply) → MayBeCalled SCRIPT_REGISTERS o → IsReplied x y h o r → HasCome task o rest r y written replies h
  came_directly y r may came = record {
    script = p.script;
    holds = came.holds;
    terms = came.terms ∙ p.terms;
    log = came.log ∙ p.log;
    registers = p.registers;
    calls = p.calls;
    causes = any_call_may_come task.terms h o r p.causes;
    replies = p.replies;
    text = p.text;
    told = subst (TellsPrinted task.counts) (sym came.reported) p.told;
    pauses = let same = called_pauses x y h o r p.holds came.holds in let few = p.pauses in omega (arith, same, few);
    made = let more = called_makes x y h o r p.holds came.holds (SCRIPT_REGISTERS, may) in let few = p.made in omega (arith, more, few);
    none_gone = ap (λ (g : NameList). g.items) came.gone ∙ p.none_gone;
  }

  module _ (collect : Bool) (made : IsMadeFor task.terms h (kind_asked collect) o) (y : Heap) (paused : PausesHeap x y h collect) where
    -- it may come after a pause that was made for it
    follows : (r : LargeReply) → PausesHaveCauses task.terms (Called o r ∷ []) (Paused (report_of y.space.report) ∷ h)
    follows r = pauses_are_made_for task.terms h (report_of y.space.report) o r p.causes (subst (λ k. IsMadeFor task.terms h k o) (sym paused.kind) made)

    -- and was done behind it
    pub came_behind : (z : Heap) (written' : Option (List ℕ)) (r : LargeReply) → MayBeCalled SCRIPT_REGISTERS o → IsReplied y z (Paused (report_of y.space.report) ∷ h) o r
        → Appends written written' (report_text task.counts (report_of y.space.report)) → TellsPrinted task.counts y.space.report → HasCome task o rest r z written' replies (Paused (report_of y.space.report) ∷ h)
    came_behind z written' r may came printed tells = record {
      script = p.script;
      holds = came.holds;
      terms = came.terms ∙ paused.terms ∙ p.terms;
      log = came.log ∙ paused.log ∙ p.log;
      registers = p.registers;
      calls = p.calls;
      causes = follows r;
      replies = p.replies;
      text = Appends-append task.written written written' (large_reports_text task.counts h) (report_text task.counts (report_of y.space.report)) p.text printed;
      told = subst (TellsPrinted task.counts) (sym came.reported) tells;
      pauses =
          let same = called_pauses y z (Paused (report_of y.space.report) ∷ h) o r paused.holds came.holds in
          let one = paused_pauses x y h collect p.holds paused in
          let few = p.pauses in
          omega (arith, same, one, few);
      made =
          let more = called_makes y z (Paused (report_of y.space.report) ∷ h) o r paused.holds came.holds (SCRIPT_REGISTERS, may) in
          let same = paused.made in
          let few = p.made in
          omega (arith, more, same, few);
      none_gone = ap (λ (g : NameList). g.items) came.gone ∙ paused.gone;
    }

    -- or that pause's report was cut off
    pub cut_before : (written' : Option (List ℕ)) → AppendsFront written written' (report_text task.counts (report_of y.space.report)) → IsCutEarly task written'
    cut_before written' front = record {
      history = Paused (report_of y.space.report) ∷ h;
      so_far = record {
        legal = subst (λ t. IsLegalLarge t (Paused (report_of y.space.report) ∷ h)) (paused.terms ∙ p.terms) paused.holds.legal;
        rest = o ∷ rest;
        calls = p.calls;
        causes = follows;
      };
      at_pause = tt;
      text_front = AppendsFront-after task.written written written' (large_reports_text task.counts h) (report_text task.counts (report_of y.space.report)) p.text front;
    }

-- ---- what a call asks for

-- where nothing is owed, pauses stand right whatever is to come
nothing_owed : (terms : LargeTerms) (h : List LargeItem) (rest : List LargeOp) → PausesHaveCauses terms [] h → CausesSoFar terms h rest
nothing_owed terms h [] causes = causes
nothing_owed terms h (o ∷ rest) causes = λ r. any_call_may_come terms h o r causes

one_longer : (replies : List LargeReply) (r : LargeReply) → length (replies ++ r ∷ []) ≡ length replies + 1
one_longer replies r = length-append replies (r ∷ [])

module _ (task : LargeTask) (o : LargeOp) (rest : List LargeOp) (r : LargeReply) (x : Heap) (written : Option (List ℕ)) (replies : List LargeReply) (k : List LargeItem) (c : HasCome task o rest r x written replies k) where
  -- its reply is kept, and it asks for no pause
  pub goes_on : asked_by o ≡ None → IsPlaying task rest x written (replies ++ r ∷ []) (Called o r ∷ k)
  goes_on none = record {
    script = c.script;
    holds = c.holds;
    terms = c.terms;
    log = c.log;
    registers = c.registers;
    calls = append_assoc (called_in k) (o ∷ []) rest ∙ c.calls;
    causes = unasked_owe_nothing task.terms k o r c.causes (asks_none o none);
    replies = ap (λ (rs : List LargeReply). rs ++ r ∷ []) c.replies;
    text = c.text;
    told = c.told;
    pauses = let longer = one_longer replies r in let few = c.pauses in omega (arith, longer, few);
    made = let longer = one_longer replies r in let few = c.made in omega (arith, longer, few);
    none_gone = c.none_gone;
  }

  module _ (collect : Bool) (asked : asked_by o ≡ Some collect) (y : Heap) (paused : PausesHeap x y (Called o r ∷ k) collect) where
    followed : PausesHaveCauses task.terms [] (Paused (report_of y.space.report) ∷ Called o r ∷ k)
    followed = asked_are_followed task.terms k o r (report_of y.space.report) c.causes (subst (AsksFor o) (sym paused.kind) (asks_for o collect asked))

    -- the pause that it asks for is made
    pub goes_on_behind : (written' : Option (List ℕ)) → Appends written written' (report_text task.counts (report_of y.space.report)) → TellsPrinted task.counts y.space.report
        → IsPlaying task rest y written' (replies ++ r ∷ []) (Paused (report_of y.space.report) ∷ Called o r ∷ k)
    goes_on_behind written' printed tells = record {
      script = c.script;
      holds = paused.holds;
      terms = paused.terms ∙ c.terms;
      log = paused.log ∙ c.log;
      registers = c.registers;
      calls = append_assoc (called_in k) (o ∷ []) rest ∙ c.calls;
      causes = followed;
      replies = ap (λ (rs : List LargeReply). rs ++ r ∷ []) c.replies;
      text = Appends-append task.written written written' (large_reports_text task.counts k) (report_text task.counts (report_of y.space.report)) c.text printed;
      told = tells;
      pauses =
          let one = paused_pauses x y (Called o r ∷ k) collect c.holds paused in
          let longer = one_longer replies r in
          let few = c.pauses in
          omega (arith, one, longer, few);
      made =
          let same = paused.made in
          let longer = one_longer replies r in
          let few = c.made in
          omega (arith, same, longer, few);
      none_gone = paused.gone;
    }

    -- or its report was cut off
    pub cut_behind : (written' : Option (List ℕ)) → AppendsFront written written' (report_text task.counts (report_of y.space.report)) → IsCutEarly task written'
    cut_behind written' front = record {
      history = Paused (report_of y.space.report) ∷ Called o r ∷ k;
      so_far = record {
        legal = subst (λ t. IsLegalLarge t (Paused (report_of y.space.report) ∷ Called o r ∷ k)) (paused.terms ∙ c.terms) paused.holds.legal;
        rest = rest;
        calls = append_assoc (called_in k) (o ∷ []) rest ∙ c.calls;
        causes = nothing_owed task.terms (Paused (report_of y.space.report) ∷ Called o r ∷ k) rest followed;
      };
      at_pause = tt;
      text_front = AppendsFront-after task.written written written' (large_reports_text task.counts k) (report_text task.counts (report_of y.space.report)) c.text front;
    }
