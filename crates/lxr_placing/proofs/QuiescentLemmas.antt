-- A space whose runs and free blocks are listed anew stands for what it stood for.
use Rattle.std.proofs.Common.{◌≡◌, ℕ, refl, sym, ap, subst, ◌∙◌, inl, inr, ◌⊎◌, arith, List}
use Rattle.std.specs.Prelude.{Option, Some, None}
use Rattle.lxr_layout.specs.declared.limits.Limits.{Limits}
use Rattle.lxr_layout.specs.declared.LogEntry.{LogEntry}
use Rattle.lxr_layout.specs.declared.Name.{Name}
use Rattle.lxr_graph.specs.History.{report_of}
use Rattle.lxr_image.specs.declared.space.Space.{Space}
use Rattle.lxr_image.specs.Tables.{Tables}
use Rattle.lxr_image.specs.Spaces.{tables_of}
use Rattle.lxr_blocks.specs.Listing.{TurnsWithRest, with_lists}
use Rattle.lxr_model.specs.Moments.{Moment, Trace}
use Rattle.lxr_invariant.specs.AbstractState.{AbstractState, members}
use Rattle.lxr_invariant.specs.Counting.{IsUndecremented}
use Rattle.lxr_invariant.specs.Lines.{HasStates, KeepLines, OutsAreTaken}
use Rattle.lxr_invariant.specs.Tracing.{IsCovered, IsTracedBy, IsToBeScanned, StaysGarbage, TraceHolds}
use Rattle.lxr_invariant.specs.Quiescent.{HoldsMoment, IsAtSafepoint, IsQuiescent}
use Rattle.lxr_invariant.proofs.FrameLemmas.{AgreeOnMoments, holds_still, undecremented_still}

-- ---- the trace that runs

module _ (l : Limits) (t : Tables) (runs frees : List ℕ) (entries : List LogEntry) (g : AbstractState) where
  abbrev after : Tables
  after = with_lists t runs frees

  scanned_later : (u v : Name) (i : ℕ) → IsCovered t g.moment g.at entries v ⊎ IsToBeScanned t g.moment g.at u i v → IsCovered after g.moment g.at entries v ⊎ IsToBeScanned after g.moment g.at u i v
  scanned_later u v i (inl covered) = inl covered
  scanned_later u v i (inr is) = inr (record { member = is.member; unmarked = is.unmarked; undone = is.undone; holds = is.holds })

  garbage_later : (trace : Trace) (n : Name) → StaysGarbage t g.moment g.at trace n → StaysGarbage after g.moment g.at trace n
  garbage_later trace n is = record { member = is.member; dropped = is.dropped; undone = is.undone; references = is.references; referred = is.referred }

  trace_later : (trace : Trace) → TraceHolds l t entries g trace → TraceHolds l after entries g trace
  trace_later trace is = record {
    snapshot = is.snapshot;
    reachable = is.reachable;
    covered = record {
      world = is.covered.world;
      registers = is.covered.registers;
      references = λ u v i reached holds. scanned_later u v i (is.covered.references u v i reached holds);
    };
    inside = record {
      marks = is.inside.marks;
      grays = is.inside.grays;
      dones = is.inside.dones;
      members = is.inside.members;
      referred = is.inside.referred;
      garbage = λ n dropped. garbage_later trace n (is.inside.garbage n dropped);
    };
    handled = is.handled;
    remembered = record { fields = is.remembered.fields; entries = is.remembered.entries; bound = is.remembered.bound };
    few = is.few;
  }

  -- a trace reads neither runs nor free blocks
  pub traced_later : (trace : Option Trace) → IsTracedBy l t entries g trace → IsTracedBy l after entries g trace
  traced_later None is = tt
  traced_later (Some trace) is = trace_later trace is

-- ---- the rest

-- a space with nothing left of the lines that were placed on last
abbrev pub with_no_rest : Space → Space
with_no_rest s = record s { rest_next = 0; rest_end = 0 }

holds_without_rest : (s : Space) (m : Moment) (at : Name → ℕ) → HoldsMoment s m at → HoldsMoment (with_no_rest s) m at
holds_without_rest s m at is = record {
  space = record { limits = is.space.limits; size = is.space.size };
  room = record { registers = is.room.registers; deferred = is.room.deferred; logged = is.room.logged; work = is.room.work; report = is.room.report };
  as_many = is.as_many;
  follows = is.follows;
  image = record { image = is.image.image; registers = is.image.registers; deferred = is.image.deferred; world = is.image.world };
  bits = is.bits;
  logs = is.logs;
  few_logs = is.few_logs;
  counts = is.counts;
  decrements = is.decrements;
  marks = is.marks;
  lines = is.lines;
  unchosen = is.unchosen;
  unused = is.unused;
  blocks = is.blocks;
  rest = record { rest = inl refl; apart = λ n o k member covers. inr (omega arith) };
  no_work = is.no_work;
}

-- ---- the space

module _ (s after : Space) (runs frees : List ℕ) (lists : TurnsWithRest s after (with_lists (tables_of s) runs frees) 0 0) where
  abbrev listed : Tables
  listed = with_lists (tables_of s) runs frees

  limits : after.limits ≡ s.limits
  limits = ap (λ z. z.limits) lists.rest

  safepoint_later : (g : AbstractState) → IsAtSafepoint s g → IsAtSafepoint after g
  safepoint_later g is = record {
    holds = holds_still (with_no_rest s) after g.moment g.at lists.rest (subst (AgreeOnMoments (tables_of s)) (sym lists.tables) (record {
      size = refl;
      heap = refl;
      counts = refl;
      starts = refl;
      marks = refl;
      grays = refl;
      dones = refl;
      unlogged = refl;
      outs = refl;
      states = refl;
      decs = refl;
      drawn = refl;
      waiting = refl;
      tracing = refl;
    })) (holds_without_rest s g.moment g.at is.holds);
    numbers = record {
      pauses = ap (λ z. z.pauses) lists.rest ∙ is.numbers.pauses;
      trace = ap (λ z. z.trace) lists.rest ∙ is.numbers.trace;
      report = ap (λ z. report_of z.report) lists.rest ∙ is.numbers.report;
    };
    traced = subst (λ z. IsTracedBy z.limits (tables_of after) z.logged.items g g.moment.trace) (sym lists.rest)
        (subst (λ t. IsTracedBy s.limits t s.logged.items g g.moment.trace) (sym lists.tables) (traced_later s.limits (tables_of s) runs frees s.logged.items g g.moment.trace is.traced));
  }

  undecremented_later : (g : AbstractState) → IsUndecremented (tables_of s) g.moment g.at → IsUndecremented (tables_of after) g.moment g.at
  undecremented_later g is = subst (λ t. IsUndecremented t g.moment g.at) (sym lists.tables) (undecremented_still (tables_of s) listed g.moment g.at refl refl refl is)

  outs_later : (g : AbstractState) → OutsAreTaken (tables_of s) g.moment.state.graph g.at (members g.moment) → OutsAreTaken (tables_of after) g.moment.state.graph g.at (members g.moment)
  outs_later g is = subst (λ t. OutsAreTaken t g.moment.state.graph g.at (members g.moment)) (sym lists.tables) (record { taken = is.taken; outside = is.outside })

  pub quiescent_later : (g : AbstractState) → IsQuiescent s g → IsQuiescent after g
  quiescent_later g is = record {
    safepoint = safepoint_later g is.safepoint;
    unwritten = is.unwritten;
    undecremented = undecremented_later g is.undecremented;
    lines = subst (λ t. KeepLines t g.moment.state.graph g.at (members g.moment)) (sym lists.tables) is.lines;
    outs = outs_later g is.outs;
    states = subst (λ l. HasStates (tables_of after) l.blocks) (sym limits) (subst (λ t. HasStates t s.limits.blocks) (sym lists.tables) is.states);
  }
