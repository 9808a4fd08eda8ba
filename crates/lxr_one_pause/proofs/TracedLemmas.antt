-- What holds of a trace stays with another number, another order of stuck names, other states of blocks and another tracing word; and so does
-- what is said of mark and gray bits, whatever the order of names.
use Rattle.std.proofs.Common.{◌≡◌, ℕ, ◌/◌, ◌<◌, ◌≤◌, refl, sym, ap, subst, ◌∙◌, inl, inr, ◌⊎◌, arith, Bool, List, IsTrue}
use Rattle.std.specs.Prelude.{Option, Some, None}
use Rattle.lxr_layout.specs.declared.limits.Limits.{Limits}
use Rattle.lxr_layout.specs.declared.Name.{Name}
use Rattle.lxr_layout.specs.declared.LogEntry.{LogEntry}
use Rattle.lxr_layout.specs.declared.TheConstants.{GRANULES_IN_BLOCK, REMEMBERED_CURSOR}
use Rattle.lxr_graph.specs.declared.report.Kind.{Kind}
use Rattle.lxr_graph.specs.declared.report.Kind.TheVariants as kind
use Rattle.lxr_graph.specs.Names.{has}
use Rattle.lxr_graph.specs.History.{PauseReport}
use Rattle.lxr_image.specs.declared.space.Space.{Space}
use Rattle.lxr_image.specs.Tables.{Tables}
use Rattle.lxr_image.specs.Spaces.{tables_of}
use Rattle.lxr_image.specs.Reads.{granule_of}
use Rattle.lxr_blocks.specs.declared.states.BlockState.TheVariants.{Chosen}
use Rattle.lxr_blocks.specs.States.{state_in}
use Rattle.lxr_model.specs.Moments.{Moment, Trace, rememberable}
use Rattle.lxr_invariant.specs.AbstractState.{AbstractState}
use Rattle.lxr_invariant.specs.Tracing.{HasOverflowed, IsRemembered, IsRememberedSoFar, IsTracedBy, MarksStayInside, SnapshotIsCovered, TraceHolds, most_remembered}
use Rattle.lxr_invariant.proofs.ScanLemmas.{fewer_later}
use Rattle.lxr_invariant.proofs.MostLemmas.{parts_later}
use Rattle.lxr_pause_decrements.proofs.WipeLemmas.{loses_same}
use Rattle.lxr_pause_decrements.specs.Wipe.{LosesBits}
use Rattle.lxr_one_pause.specs.Pausing.{Traces}
use Rattle.lxr_one_pause.proofs.FrameLemmas.{renumbered}

module _ (l : Limits) (t : Tables) (states cursors : ℕ → ℕ) (entries : List LogEntry) (g : AbstractState) (number : ℕ) (stuck : List Name) (running : Option Trace) (reported : PauseReport)
    (same : (n : Name) → has stuck n ≡ has g.moment.stuck n) (later : g.moment.number ≤ number) (cursor : cursors REMEMBERED_CURSOR ≡ t.cursors REMEMBERED_CURSOR)
    (chosen : (b : ℕ) → state_in (record t { states = states; cursors = cursors }) b ≡ Chosen → state_in t b ≡ Chosen) where
  abbrev u : Tables
  u = record t { states = states; cursors = cursors }

  abbrev m : Moment
  m = g.moment

  abbrev then : Moment
  then = renumbered m number stuck running

  -- what the state is then
  abbrev pub abstract_then : AbstractState
  abstract_then = record { moment = then; at = g.at; reported = reported }

  module _ (trace : Trace) (is : TraceHolds l t entries g trace) where
    covered : SnapshotIsCovered u then g.at entries trace
    covered = record {
      world = is.covered.world;
      registers = is.covered.registers;
      references = λ x v i r e. elim (is.covered.references x v i r e) [
        | inl c ↦ inl c
        | inr scan ↦ inr (record { member = scan.member; unmarked = scan.unmarked; undone = scan.undone; holds = scan.holds })
      ];
    }

    inside : MarksStayInside u then g.at trace
    inside = record {
      marks = is.inside.marks;
      grays = is.inside.grays;
      dones = is.inside.dones;
      members = is.inside.members;
      referred = is.inside.referred;
      garbage = λ n q.
          let stays = is.inside.garbage n q in
          record { member = stays.member; dropped = stays.dropped; undone = stays.undone; references = stays.references; referred = λ unstuck. stays.referred (sym (same n) ∙ unstuck) };
    }

    remembers : (n : Name) (i : ℕ) → IsRemembered l t g.at n i ⊎ HasOverflowed l t → IsRemembered l u g.at n i ⊎ HasOverflowed l u
    remembers n i (inl r) = inl (r.0, subst (λ z. r.0 < z) (sym cursor) r.1, r.2, r.3)
    remembers n i (inr over) = inr (subst (λ z. l.remember < z) (sym cursor) over)

    remembered : IsRememberedSoFar l u then g.at trace is.snapshot
    remembered = record {
      fields = λ n v i k scan e bit c. remembers n i (is.remembered.fields n v i k scan e bit (chosen (granule_of (g.at v) / GRANULES_IN_BLOCK) c));
      entries = λ k drawn within. is.remembered.entries k (subst (λ z. k < z) cursor drawn) within;
      bound =
          let bound = is.remembered.bound in
          let fewer = fewer_later t u m then g.at g.at is.snapshot (λ n h unmarked. (h, unmarked, refl)) in
          omega (arith, bound, fewer, cursor);
    }

    pub trace_still : TraceHolds l u entries abstract_then trace
    trace_still = record {
      snapshot = is.snapshot;
      reachable = is.reachable;
      covered = covered;
      inside = inside;
      handled = is.handled;
      remembered = remembered;
      few = parts_later (most_remembered l) (rememberable trace is.snapshot) g.moment.number number is.few later;
    }

  pub traced_still : (trace : Option Trace) → IsTracedBy l t entries g trace → IsTracedBy l u entries abstract_then trace
  traced_still None is = tt
  traced_still (Some trace) is = trace_still trace is

-- ---- mark and gray bits, whatever the order of names

module _ (s x z : Space) (g : AbstractState) (at' : Name → ℕ) (p q : PauseReport) (left : List Name) (marks : (tables_of z).marks ≡ (tables_of x).marks) (grays : (tables_of z).grays ≡ (tables_of x).grays)
    (promoted : (n : Name) → has q.promoted n ≡ has p.promoted n) (dead : (n : Name) → has q.dead n ≡ has p.dead n) where
  abbrev bit : (ℕ → Bool) → Name → Type 0
  bit f n = IsTrue (f (granule_of (at' n)))

  lost : (bits : Tables → ℕ → Bool) → bits (tables_of z) ≡ bits (tables_of x) → LosesBits (bits (tables_of s)) (bits (tables_of x)) at' p.dead → LosesBits (bits (tables_of s)) (bits (tables_of z)) at' q.dead
  lost bits same is = subst (λ f. LosesBits (bits (tables_of s)) f at' q.dead) (sym same) (loses_same (bits (tables_of s)) (bits (tables_of x)) at' p.dead q.dead dead is)

  pub traces_still : (k : Kind) (trace : Option Trace) → Traces k trace s x g at' p left → Traces k trace s z g at' q left
  traces_still kind.Plain None is = record { marks = lost (λ t. t.marks) marks is.marks; grays = lost (λ t. t.grays) grays is.grays }
  traces_still kind.Plain (Some trace) is = record {
    marks = λ n k. (
      λ h. elim ((is.marks n k).0 (subst (λ f. bit f n) marks h)) [ inl was ↦ inl was | inr new ↦ inr (promoted n ∙ new) ],
      λ h. subst (λ f. bit f n) (sym marks) ((is.marks n k).1 (elim h [ inl was ↦ inl was | inr new ↦ inr (sym (promoted n) ∙ new) ])),
    );
    grays = λ n k. (
      λ h. elim ((is.grays n k).0 (subst (λ f. bit f n) grays h)) [
        | inl was ↦ inl was
        | inr new ↦ inr (elim new [ inl r ↦ inl (r.0, dead r.0 ∙ r.1, r.2) | inr old ↦ inr old ])
      ],
      λ h. subst (λ f. bit f n) (sym grays) ((is.grays n k).1 (elim h [
        | inl was ↦ inl was
        | inr new ↦ inr (elim new [ inl r ↦ inl (r.0, sym (dead r.0) ∙ r.1, r.2) | inr old ↦ inr old ])
      ])),
    );
  }
  traces_still kind.Begin trace is = record {
    none_marked = λ k. ap (λ f. f k) marks ∙ is.none_marked k;
    grays = λ k. (λ h. (is.grays k).0 (sym (ap (λ f. f k) grays) ∙ h), λ h. ap (λ f. f k) grays ∙ (is.grays k).1 h);
  }
  traces_still (kind.End j) trace is = record {
    marked = λ n k. subst (λ f. bit f n) (sym marks) (is.marked n k);
    none_left = λ k h. ap (λ f. f k) marks ∙ is.none_left k (sym (ap (λ f. f k) grays) ∙ h);
  }
  traces_still kind.Collect trace is = record {
    marked = λ n k. subst (λ f. bit f n) (sym marks) (is.marked n k);
    none_left = λ k h. ap (λ f. f k) marks ∙ is.none_left k (sym (ap (λ f. f k) grays) ∙ h);
  }
