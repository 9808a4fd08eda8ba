-- An early finish and the pause after it are one pause: where some of the dead are gone before a pause, its report with their names is that of
-- the whole, and leads to the same moment. And operations between go on as if nothing had died.
use Rattle.std.proofs.Common.{◌≡◌, ◌≢◌, ℕ, ◌+◌, ◌≤◌, refl, sym, ap, subst, ◌∙◌, inl, inr, arith, Bool, true, false, cond, List, [], ◌∷◌, ◌++◌, Option, Some, None}
use Rattle.std.specs.Prelude.{◌↔◌, ◌⊎◌, ◌||◌, ◌&&◌, not, IsTrue, if◌then◌else◌, map}
use Rattle.std.proofs.lemmas.Bool.{false_from_ne_true, or_cases, or_left, or_right}
use Rattle.std.proofs.lemmas.List.Folds.{list_any-append}
use Rattle.lxr_layout.specs.declared.Name.{Name}
use Rattle.lxr_layout.specs.declared.TheConstants.{STUCK}
use Rattle.lxr_graph.specs.declared.Op.{Op}
use Rattle.lxr_graph.specs.declared.Op.TheVariants as op
use Rattle.lxr_graph.specs.declared.Reply.{Reply}
use Rattle.lxr_graph.specs.declared.Reply.TheVariants as reply
use Rattle.lxr_graph.specs.declared.report.Kind.{Kind}
use Rattle.lxr_graph.specs.declared.report.Kind.TheVariants as kind
use Rattle.lxr_graph.specs.History.{PauseReport}
use Rattle.lxr_graph.specs.Names.{AreInOrder, IsSetOf, has, same_name, union, without}
use Rattle.lxr_graph.specs.State.{State, register_at}
use Rattle.lxr_graph.proofs.NameSets.{has-union, has-without, in_order-none, in_order-union, in_order-without, in_without, not_both, one_list, union_cases, union_left, union_right, without_parts}
use Rattle.lxr_model.specs.Dead.{Dead, Promoted, dead}
use Rattle.lxr_model.specs.Moments.{Field, Moment, Trace, after_call, after_pause, going_on, stuck_after, trace_after, trace_from, unreclaimed_after, with_field, written_after, written_with}
use Rattle.lxr_model.specs.References.{references}
use Rattle.lxr_model.specs.Reports.{AreCounts, AreDrained, IsReport, IsReportWith, IsSwept, IsSweptAtEnd, PauseParts, count_entry, is_draining, kept_names, raised, remaining_names}
use Rattle.lxr_model.proofs.ReachableLemmas.{dead_parts, promoted_made}
use Rattle.lxr_model.proofs.StepLemmas.{register_held}
use Rattle.lxr_model_counting.specs.Following.{FollowsPause}
use Rattle.lxr_model_counting.proofs.DeathLemmas.{live_not_dead}
use Rattle.lxr_model_counting.proofs.DistinctLemmas.{first_has, later_has, without_apart}
use Rattle.lxr_one_pause.specs.Settling.{survived}
use Rattle.lxr_direct.specs.Operating.{FindsLogFull, IsToRecord}
use Rattle.lxr_image.specs.declared.space.Space.{Space}
use Rattle.lxr_heap.specs.Holding.{AreGone}

-- ---- the dead

-- what dies where some of the dead are gone is dead
pub dead_within : (s : State) (us stuck gone : List Name) → ((n : Name) → IsTrue (has gone n) → Dead s us stuck n) → {o : Name} → Dead s (without us gone) stuck o → Dead s us stuck o
dead_within s us stuck gone each (dead member unstuck unheld from) =
    dead (without_parts us gone _ member).0 unstuck unheld (λ u in_u f. elim (has gone u) as (λ b. has gone u ≡ b → Dead s us stuck u) [
      | true ↦ λ e. each u e
      | false ↦ λ e. dead_within s us stuck gone each (from u (in_without us gone u in_u (λ k. not_both (has gone u) k e)) f)
    ] refl)

-- and the dead that aren't gone die there
pub dead_left : (s : State) (us stuck gone : List Name) → {o : Name} → Dead s us stuck o → has gone o ≡ false → Dead s (without us gone) stuck o
dead_left s us stuck gone (dead member unstuck unheld from) away =
    dead (in_without us gone _ member (λ k. not_both (has gone _) k away)) unstuck unheld
    (λ u in_u f. let at = without_parts us gone u in_u in dead_left s us stuck gone (from u at.0 f) at.1)

-- ---- names without others

-- one name more without some, and without others, where those behind it are told
one_without : (n : Name) (ns a b c : List Name) → has c n ≡ (has a n || has b n) → without (without ns a) b ≡ without ns c → (p q : Bool) → has a n ≡ p → has b n ≡ q → without (without (n ∷ ns) a) b ≡ without (n ∷ ns) c
one_without n ns a b c both rest true q e f =
    let taken : has c n ≡ true = both ∙ ap (λ t. t || has b n) e in
    ap (λ t. without (cond (not t) (n ∷ without ns a) (without ns a)) b) e ∙ rest ∙ sym (ap (λ t. cond (not t) (n ∷ without ns c) (without ns c)) taken)
one_without n ns a b c both rest false true e f =
    let taken : has c n ≡ true = both ∙ ap (λ t. t || has b n) e ∙ f in
    ap (λ t. without (cond (not t) (n ∷ without ns a) (without ns a)) b) e ∙ ap (λ t. cond (not t) (n ∷ without (without ns a) b) (without (without ns a) b)) f ∙ rest
    ∙ sym (ap (λ t. cond (not t) (n ∷ without ns c) (without ns c)) taken)
one_without n ns a b c both rest false false e f =
    let stays : has c n ≡ false = both ∙ ap (λ t. t || has b n) e ∙ f in
    ap (λ t. without (cond (not t) (n ∷ without ns a) (without ns a)) b) e ∙ ap (λ t. cond (not t) (n ∷ without (without ns a) b) (without (without ns a) b)) f ∙ ap (λ x. n ∷ x) rest
    ∙ sym (ap (λ t. cond (not t) (n ∷ without ns c) (without ns c)) stays)

-- names without some, and without others of what is left, are names without both
pub without_both : (ns a b c : List Name) → ((n : Name) → has c n ≡ (has a n || has b n)) → without (without ns a) b ≡ without ns c
without_both [] a b c both = refl
without_both (n ∷ ns) a b c both = one_without n ns a b c (both n) (without_both ns a b c both) (has a n) (has b n) refl refl

-- where none are taken out, all are left
pub without_none : (ns : List Name) → without ns [] ≡ ns
without_none ns = without_apart ns [] (λ n h. refl)

-- where no name is gone, nothing is asked
pub none_are_gone : (m : Moment) (gone : List Name) → gone ≡ [] → AreGone m gone
none_are_gone m gone none = subst (AreGone m) (sym none) (record { once = tt; dead = λ n h. absurd (let no : false ≡ true = h in cc) })

-- nobody is on a list of nobody
pub nobody : (ns : List Name) → ((n : Name) → IsTrue (has ns n) → ⊥) → ns ≡ []
nobody [] none = refl
nobody (n ∷ ns) none = absurd (none n (first_has n ns))

module _ (m : Moment) (gone : List Name) (follows : FollowsPause m) (are : AreGone m gone) where
  abbrev us : List Name
  us = m.unreclaimed

  -- the moment at which the early dead are gone
  abbrev pub left : Moment
  left = survived m gone

  -- what is gone was unreclaimed and isn't stuck
  gone_was : (n : Name) → IsTrue (has gone n) → IsTrue (has us n) × (has m.stuck n ≡ false)
  gone_was n h = let parts = dead_parts (are.dead n h) in (parts.member, parts.unstuck)

  -- the dead are those that are gone and those that die where these are gone
  pub dead_are : (n : Name) → Dead m.last us m.stuck n ↔ (IsTrue (has gone n) ⊎ Dead m.last left.unreclaimed m.stuck n)
  dead_are n = (
    λ d. elim (has gone n) as (λ b. has gone n ≡ b → IsTrue (has gone n) ⊎ Dead m.last left.unreclaimed m.stuck n) [
      | true ↦ λ e. inl e
      | false ↦ λ e. inr (dead_left m.last us m.stuck gone d e)
    ] refl,
    λ c. elim c [
      | inl h ↦ are.dead n h
      | inr d ↦ dead_within m.last us m.stuck gone are.dead d
    ],
  )

  -- ---- a call

  -- what a register holds isn't gone
  held_stays : (t r : ℕ) (n : Name) → register_at m.state t r ≡ Some n → has gone n ≡ false
  held_stays t r n e = false_from_ne_true (has gone n) (λ h. live_not_dead m follows n (follows.held n (register_held m.state t r n e)) (are.dead n h))

  -- so it is unreclaimed there where it is so
  pub held_same : (t r : ℕ) (n : Name) → register_at m.state t r ≡ Some n → has left.unreclaimed n ≡ has us n
  held_same t r n e = has-without us gone n ∙ (λ i. has us n && not (held_stays t r n e i)) ∙ and_true (has us n)
    where
      and_true : (b : Bool) → (b && true) ≡ b
      and_true true = refl
      and_true false = refl

  -- and a write to it is noted as it is
  written_same : (t r i : ℕ) → written_with left.unreclaimed m.written (register_at m.state t r) i ≡ written_with us m.written (register_at m.state t r) i
  written_same t r i = by (register_at m.state t r) refl
    where
      by : (v : Option Name) → register_at m.state t r ≡ v → written_with left.unreclaimed m.written v i ≡ written_with us m.written v i
      by None e = refl
      by (Some n) e = ap (λ b. if b then with_field m.written (n, i) else m.written) (held_same t r n e)

  written_alike : (t : ℕ) (o : Op) (r : Reply) → written_after left t o r ≡ written_after m t o r
  written_alike t (op.Store base i source) reply.Stored = written_same t base i
  written_alike t (op.Swap dest base i source) (reply.Swapped old) = written_same t base i
  written_alike t o r = refl

  -- the moment after a call is the same without what is gone
  pub call_alike : (t : ℕ) (o : Op) (r : Reply) → after_call left t o r ≡ survived (after_call m t o r) gone
  call_alike t o r = ap (λ ws. record left { state = (after_call m t o r).state; made = (after_call m t o r).made; written = ws }) (written_alike t o r)

  -- and a store has to be recorded where it has to be
  pub recorded_alike : (t r i : ℕ) → IsToRecord left t r i ↔ IsToRecord m t r i
  recorded_alike t r i = (
    λ to. record { name = to.name; held = to.held; unreclaimed = (without_parts us gone to.name to.unreclaimed).0; within = to.within; unwritten = to.unwritten },
    λ to. record { name = to.name; held = to.held; unreclaimed = held_same t r to.name to.held ∙ to.unreclaimed; within = to.within; unwritten = to.unwritten },
  )

  pub log_alike : (s : Space) (t : ℕ) (o : Op) → FindsLogFull s left t o ↔ FindsLogFull s m t o
  log_alike s t (op.Store base i source) = (λ full. ((recorded_alike t base i).0 full.0, full.1), λ full. ((recorded_alike t base i).1 full.0, full.1))
  log_alike s t o = (λ full. full, λ full. full)

  -- ---- a pause

  module _ (r : PauseReport) (parts : PauseParts) (is : IsReportWith left parts r) (deads : List Name) (order : AreInOrder deads) (all : (n : Name) → has deads n ≡ (has r.dead n || has gone n)) where
    -- the report with the names of what is gone
    abbrev pub whole : PauseReport
    whole = record r { dead = deads }

    -- the parts of its dead: what is gone died first
    abbrev pub whole_parts : PauseParts
    whole_parts = record parts { first_dead = union gone parts.first_dead }

    first_left : without us (union gone parts.first_dead) ≡ without left.unreclaimed parts.first_dead
    first_left = sym (without_both us gone parts.first_dead (union gone parts.first_dead) (has-union gone parts.first_dead))

    kept : kept_names m whole_parts whole ≡ kept_names left parts r
    kept = ap (union r.promoted) first_left

    first_set : IsSetOf (union gone parts.first_dead) (Dead m.last us m.stuck)
    first_set = record {
      in_order = in_order-union gone parts.first_dead is.first_dead.in_order;
      members = λ n. (
        λ h. elim (union_cases gone parts.first_dead n h) [ inl a ↦ (dead_are n).1 (inl a) | inr b ↦ (dead_are n).1 (inr ((is.first_dead.members n).0 b)) ],
        λ d. elim ((dead_are n).0 d) [ inl a ↦ union_left gone parts.first_dead n a | inr b ↦ union_right gone parts.first_dead n ((is.first_dead.members n).1 b) ],
      );
    }

    drained_alike : (b : Bool) → AreDrained left parts r b → AreDrained m whole_parts whole b
    drained_alike false none = none
    drained_alike true sets = (
      subst (λ ks. IsSetOf parts.second_dead (Dead m.state ks (union r.stuck m.stuck))) (sym kept) sets.0,
      subst (λ ks. IsSetOf parts.third_dead (Dead m.state (without (without ks parts.second_dead) r.swept) (union r.stuck m.stuck))) (sym kept) sets.1,
    )

    swept_alike : (ks : List Name) (k : Kind) → IsSwept left ks r.swept k → IsSwept m ks r.swept k
    swept_alike ks kind.Plain swept = swept
    swept_alike ks kind.Begin swept = swept
    swept_alike ks (kind.End j) swept = swept
    swept_alike ks kind.Collect swept = swept

    -- ---- what is left

    -- what is gone isn't promoted
    pub promoted_stays : (n : Name) → IsTrue (has r.promoted n) → has gone n ≡ false
    promoted_stays n h = false_from_ne_true (has gone n) (λ g. not_both (has us n) (gone_was n g).0 (follows.apart n (promoted_made ((is.promoted.members n).0 h))))

    -- names of which none is gone are left as they are
    left_as : (ns : List Name) → ((n : Name) → IsTrue (has ns n) → has gone n ≡ false) → without ns deads ≡ without ns r.dead
    left_as ns apart =
        sym (without_both ns gone r.dead deads (λ n. all n ∙ or_flip (has r.dead n) (has gone n))) ∙ ap (λ xs. without xs r.dead) (without_apart ns gone apart)
      where
        or_flip : (a b : Bool) → (a || b) ≡ (b || a)
        or_flip true true = refl
        or_flip true false = refl
        or_flip false true = refl
        or_flip false false = refl

    -- of the promoted and the unreclaimed a pause leaves the same
    undead : without (union r.promoted us) deads ≡ without (union r.promoted left.unreclaimed) r.dead
    undead = one_list (without (union r.promoted us) deads) (without (union r.promoted left.unreclaimed) r.dead)
        (in_order-without (union r.promoted us) deads (in_order-union r.promoted us follows.unreclaimed))
        (in_order-without (union r.promoted left.unreclaimed) r.dead (in_order-union r.promoted left.unreclaimed (in_order-without us gone follows.unreclaimed)))
        (λ n. (down n, up n))
      where
        down : (n : Name) → IsTrue (has (without (union r.promoted us) deads) n) → IsTrue (has (without (union r.promoted left.unreclaimed) r.dead) n)
        down n h =
            let at = without_parts (union r.promoted us) deads n h in
            let none = sym (all n) ∙ at.1 in
            in_without (union r.promoted left.unreclaimed) r.dead n
            (elim (union_cases r.promoted us n at.0) [
              | inl p ↦ union_left r.promoted left.unreclaimed n p
              | inr q ↦ union_right r.promoted left.unreclaimed n (in_without us gone n q (λ g. not_both (has r.dead n || has gone n) (or_right (has r.dead n) (has gone n) g) none))
            ])
            (λ d. not_both (has r.dead n || has gone n) (or_left (has r.dead n) (has gone n) d) none)

        up : (n : Name) → IsTrue (has (without (union r.promoted left.unreclaimed) r.dead) n) → IsTrue (has (without (union r.promoted us) deads) n)
        up n h =
            let at = without_parts (union r.promoted left.unreclaimed) r.dead n h in
            let stays : has gone n ≡ false = elim (union_cases r.promoted left.unreclaimed n at.0) [ inl p ↦ promoted_stays n p | inr q ↦ (without_parts us gone n q).1 ] in
            in_without (union r.promoted us) deads n
            (elim (union_cases r.promoted left.unreclaimed n at.0) [
              | inl p ↦ union_left r.promoted us n p
              | inr q ↦ union_right r.promoted us n (without_parts us gone n q).0
            ])
            (λ d. let both : (has r.dead n || has gone n) ≡ false = (λ i. at.1 i || stays i) in not_both (has r.dead n || has gone n) (sym (all n) ∙ d) both)

    -- so the same is unreclaimed after it
    pub unreclaimed_alike : unreclaimed_after m whole ≡ unreclaimed_after left r
    unreclaimed_alike = ap (λ ns. without ns r.swept) undead

    -- and the same is stuck
    stuck_stays : (n : Name) → IsTrue (has (union r.stuck m.stuck) n) → has gone n ≡ false
    stuck_stays n h = false_from_ne_true (has gone n) (λ g. elim (union_cases r.stuck m.stuck n h) [
      | inl new ↦ elim (union_cases r.promoted (without left.unreclaimed parts.first_dead) n ((is.stuck.members n).0 new).0) [
        | inl p ↦ not_both (has gone n) g (promoted_stays n p)
        | inr q ↦ not_both (has gone n) g (without_parts us gone n (without_parts left.unreclaimed parts.first_dead n q).0).1
      ]
      | inr old ↦ not_both (has m.stuck n) old (gone_was n g).1
    ])

    stuck_alike : stuck_after m whole ≡ stuck_after left r
    stuck_alike = ap (λ ns. without ns r.swept) (left_as (union r.stuck m.stuck) stuck_stays)

    going_alike : (t : Option Trace) → going_on m whole t ≡ going_on left r t
    going_alike None = refl
    going_alike (Some trace) = refl

    trace_alike : (k : Kind) → trace_after m whole k ≡ trace_after left r k
    trace_alike kind.Plain = going_alike m.trace
    trace_alike kind.Begin = ap (λ ns. Some (record (trace_from left r) { unreclaimed = ns })) unreclaimed_alike
    trace_alike (kind.End j) = refl
    trace_alike kind.Collect = refl

    -- both pauses lead to the same moment
    pub pause_alike : after_pause m whole ≡ after_pause left r
    pause_alike = λ i. record (after_pause left r) { unreclaimed = unreclaimed_alike i; stuck = stuck_alike i; trace = trace_alike r.kind i }

    counts_alike : (b : Bool) → AreCounts left r b → AreCounts m whole b
    counts_alike false none = none
    counts_alike true counts = subst (λ ns. r.counts ≡ map (count_entry m.state ns (union r.stuck m.stuck)) ns) (sym unreclaimed_alike) counts

    -- and the whole report is one of the moment
    pub whole_report : IsReportWith m whole_parts whole
    whole_report = record {
      number = is.number;
      first_dead = first_set;
      promoted = subst (λ ks. IsSetOf r.promoted (Promoted m.state ks m.made)) (sym first_left) is.promoted;
      stuck = subst (λ ks. IsSetOf r.stuck (λ o. IsTrue (has (union r.promoted ks) o) × (has m.stuck o ≡ false)
          × (STUCK ≤ (if has r.promoted o then 0 else references m.last ks o) + raised m r.promoted o))) (sym first_left) is.stuck;
      drained = drained_alike (is_draining r.kind) is.drained;
      swept = subst (λ ks. IsSwept m (without ks parts.second_dead) r.swept r.kind) (sym kept) (swept_alike (without (kept_names left parts r) parts.second_dead) r.kind is.swept);
      dead = record {
        in_order = order;
        members = λ n. (
          λ h. elim (or_cases (has r.dead n) (has gone n) (sym (all n) ∙ h)) [
            | inl d ↦ elim ((is.dead.members n).0 d) [ inl one ↦ inl (union_right gone parts.first_dead n one) | inr later ↦ inr later ]
            | inr g ↦ inl (union_left gone parts.first_dead n g)
          ],
          λ parts_of. all n ∙ elim parts_of [
            | inl one ↦ elim (union_cases gone parts.first_dead n one) [
              | inl g ↦ or_right (has r.dead n) (has gone n) g
              | inr d ↦ or_left (has r.dead n) (has gone n) ((is.dead.members n).1 (inl d))
            ]
            | inr later ↦ or_left (has r.dead n) (has gone n) ((is.dead.members n).1 (inr later))
          ],
        );
      };
      counts = counts_alike (is_draining r.kind) is.counts;
    }
