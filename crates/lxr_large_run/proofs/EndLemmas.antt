-- How playing begins, how few calls and pauses there are, and what it leaves at its end.
use Rattle.std.proofs.Common.{◌≡◌, ℕ, ◌+◌, ◌<◌, ◌≤◌, ◌∙◌, refl, sym, ap, subst, arith, List, [], ◌∷◌, suc, drop, drop-cons, drop_of_length-le, get_or, length, length-append, Option}
use Rattle.std.proofs.lemmas.List.{append-nil}
use Rattle.lxr_graph.specs.declared.Op.TheVariants as op
use Rattle.lxr_graph.specs.History.{PauseReport}
use Rattle.lxr_text_stream.specs.Streams.{Appends, AppendsFront}
use Rattle.lxr_text_stream.proofs.StreamLemmas.{Appends-append, Appends-nil, AppendsFront-after}
use Rattle.lxr_text_script.specs.declared.TheConstants.{SCRIPT_REGISTERS}
use Rattle.lxr_large_model.specs.declared.LargeOp.{LargeOp}
use Rattle.lxr_large_model.specs.declared.LargeOp.TheVariants as large_op
use Rattle.lxr_large_model.specs.declared.LargeReply.{LargeReply}
use Rattle.lxr_large_model.specs.History.{LargeItem}
use Rattle.lxr_large_model.specs.Full.{LargeTerms}
use Rattle.lxr_large_model.specs.Pauses.{IsLegalLarge}
use Rattle.lxr_large_text.specs.Replies.{AreLargePrintable, IsNoEnd, large_text}
use Rattle.lxr_large_text.specs.Limits.{IsLargeOperation, IsLargeScript, IsLargeWritten}
use Rattle.lxr_heap.specs.declared.heap.Heap.{Heap}
use Rattle.lxr_heap.specs.Holding.{IsOpenedHeap, limits_of}
use Rattle.lxr_heap.proofs.CallLemmas.{rests_all}
use Rattle.lxr_heap.proofs.MomentLemmas.{quiescent}
use Rattle.lxr_large_text.specs.Histories.{IsLargeHistory, called_in, replied_in, with_end}
use Rattle.lxr_large_text.specs.Texts.{large_reports_text}
use Rattle.lxr_large_text.proofs.HistoryLemmas.{as_many, ends_fresh, has_done}
use Rattle.lxr_large_run.specs.Playing.{IsPlaying, LargeTask, large_terms, script_sizes}
use Rattle.lxr_large_run.proofs.CallLemmas.{tells_no_pause}
use Rattle.lxr_large_run.specs.Played.{IsCutLate, IsLeftByLarge, IsPlayed}

-- ---- the beginning

pub begins : (task : LargeTask) (x : Heap) (blocks bodies : ℕ) (os : List LargeOp) → os ≡ task.operations → IsLargeScript task.operations → IsOpenedHeap x (script_sizes blocks bodies) → task.terms ≡ large_terms blocks bodies
    → IsPlaying task (with_end os) x task.written [] []
begins task x blocks bodies os same script opened terms = record {
  script = script;
  holds = opened.holds;
  terms = opened.terms ∙ sym terms;
  log = opened.log;
  registers = ap (λ (t : LargeTerms). t.registers) terms;
  calls = ap with_end same;
  causes = tt;
  replies = refl;
  text = Appends-nil task.written;
  told = tells_no_pause task.counts x.space.report opened.untold (ap (λ (r : PauseReport). r.kind) opened.holds.stands.0.safepoint.numbers.report);
  pauses = let none = opened.holds.stands.0.safepoint.numbers.pauses in omega (arith, none);
  made = let none = opened.made in omega (arith, none);
  none_gone = opened.none_gone;
}

-- ---- what comes next

-- an operation of the script
pub next_comes : (task : LargeTask) (os : List LargeOp) (i : ℕ) (d : LargeOp) (x : Heap) (written : Option (List ℕ)) (replies : List LargeReply) (h : List LargeItem) → i < length os
    → IsPlaying task (with_end (drop i os)) x written replies h → IsPlaying task (get_or os i d ∷ with_end (drop (i + 1) os)) x written replies h
next_comes task os i d x written replies h within p =
    let later : suc i ≡ i + 1 = omega arith in
    let next : drop i os ≡ get_or os i d ∷ drop (i + 1) os = rw later at (drop-cons os i d within) in
    subst (λ (left : List LargeOp). IsPlaying task (with_end left) x written replies h) next p

-- or its end
pub end_comes : (task : LargeTask) (os : List LargeOp) (i : ℕ) (x : Heap) (written : Option (List ℕ)) (replies : List LargeReply) (h : List LargeItem) → length os ≤ i
    → IsPlaying task (with_end (drop i os)) x written replies h → IsPlaying task (large_op.Small op.End ∷ []) x written replies h
end_comes task os i x written replies h over p = subst (λ (left : List LargeOp). IsPlaying task (with_end left) x written replies h) (drop_of_length-le os over) p

-- ---- registers

-- the heap has those of scripts
pub registers_are : (task : LargeTask) (rest : List LargeOp) (x : Heap) (written : Option (List ℕ)) (replies : List LargeReply) (h : List LargeItem) → IsPlaying task rest x written replies h
    → x.space.limits.registers ≡ SCRIPT_REGISTERS
registers_are task rest x written replies h p = ap (λ (t : LargeTerms). t.registers) p.terms ∙ p.registers

-- ---- numbers

-- where an operation is to come, as many replies as there are operations at most are kept
pub few_replies : (task : LargeTask) (o : LargeOp) (rest : List LargeOp) (x : Heap) (written : Option (List ℕ)) (replies : List LargeReply) (h : List LargeItem) → IsPlaying task (o ∷ rest) x written replies h
    → length replies ≤ 1048576
few_replies task o rest x written replies h p =
    let done = has_done h o rest task.operations p.calls in
    let same = ap length p.replies in
    let few = p.script.count in
    omega (arith, done, same, few)

-- ---- the end

whole : (task : LargeTask) (x : Heap) (written : Option (List ℕ)) (replies : List LargeReply) (h : List LargeItem) → IsPlaying task [] x written replies h → IsLargeHistory task.terms task.operations h
whole task x written replies h p = record {
  legal = subst (λ t. IsLegalLarge t h) p.terms p.holds.legal;
  calls = sym (append-nil (called_in h)) ∙ p.calls;
  causes = p.causes;
}

-- the space that is left
space_left : (task : LargeTask) (x : Heap) (written : Option (List ℕ)) (replies : List LargeReply) (h : List LargeItem) → IsPlaying task [] x written replies h → IsLeftByLarge task.terms h x.space
space_left task x written replies h p =
    let is = p.holds in
    let c = is.collected (ends_fresh task.terms task.operations h (whole task x written replies h p)) in
    record {
      at = is.at;
      between = quiescent x.space _ (rests_all x h is p.none_gone) c.written;
      limits = is.limits ∙ ap (λ (t : LargeTerms). limits_of t.blocks t.registers x.space.limits.log) p.terms ∙ ap (λ (n : ℕ). limits_of task.terms.blocks task.terms.registers n) p.log;
      tally = is.tally;
      state = is.state;
      reachable = c.exactly;
    }

-- the text of these operations and replies is that of the task's and of the history's
same_text : (task : LargeTask) (x : Heap) (written : Option (List ℕ)) (replies : List LargeReply) (h : List LargeItem) → IsPlaying task [] x written replies h
    → (os : List LargeOp) (rs : List LargeReply) → os ≡ task.operations → rs ≡ replies → large_text os rs ≡ large_text task.operations (replied_in h)
same_text task x written replies h p os rs same told = ap (λ (ops : List LargeOp). large_text ops rs) same ∙ ap (large_text task.operations) (told ∙ sym p.replies)

-- the replies were printed
pub played : (task : LargeTask) (x : Heap) (written written' : Option (List ℕ)) (replies : List LargeReply) (h : List LargeItem) → IsPlaying task [] x written replies h
    → (os : List LargeOp) (rs : List LargeReply) → os ≡ task.operations → rs ≡ replies → Appends written written' (large_text os rs) → IsPlayed task written' x.space
played task x written written' replies h p os rs same told printed = record {
  history = h;
  is_of = whole task x written replies h p;
  text = Appends-append task.written written written' (large_reports_text task.counts h) (large_text task.operations (replied_in h)) p.text
      (subst (λ (t : List ℕ). Appends written written' t) (same_text task x written replies h p os rs same told) printed);
  space_left = space_left task x written replies h p;
  told = p.told;
}

-- or were cut off
pub cut_late : (task : LargeTask) (x : Heap) (written written' : Option (List ℕ)) (replies : List LargeReply) (h : List LargeItem) → IsPlaying task [] x written replies h
    → (os : List LargeOp) (rs : List LargeReply) → os ≡ task.operations → rs ≡ replies → AppendsFront written written' (large_text os rs) → IsCutLate task written'
cut_late task x written written' replies h p os rs same told front = record {
  history = h;
  is_of = whole task x written replies h p;
  text_front = AppendsFront-after task.written written written' (large_reports_text task.counts h) (large_text task.operations (replied_in h)) p.text
      (subst (λ (t : List ℕ). AppendsFront written written' t) (same_text task x written replies h p os rs same told) front);
}

-- they can be printed
no_end : (o : LargeOp) → IsLargeOperation o → IsNoEnd o
no_end (large_op.Small o) is = λ same. absurd (subst (λ (z : LargeOp). IsLargeWritten z) (ap large_op.Small same) is.written)
no_end (large_op.Big dest blocks) is = tt
no_end (large_op.BigPut base index value) is = tt
no_end (large_op.BigGet base index) is = tt

pub printable : (task : LargeTask) (x : Heap) (written : Option (List ℕ)) (replies : List LargeReply) (h : List LargeItem) → IsPlaying task [] x written replies h → AreLargePrintable task.operations replies
printable task x written replies h p = record {
  replied =
      let all = ap length (sym (append-nil (called_in h)) ∙ p.calls) in
      let many = as_many h in
      let same = ap length p.replies in
      let longer = length-append task.operations (large_op.Small op.End ∷ []) in
      omega (arith, all, many, same, longer);
  no_end = λ i d within. no_end _ (p.script.each i d within);
}
