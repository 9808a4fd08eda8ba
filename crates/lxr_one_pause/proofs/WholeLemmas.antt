-- The steps of a pause one after another: each finds what it asks for, and at their end a pause was made.
use Rattle.std.proofs.Common.{◌≡◌, ℕ, ◌+◌, ◌^◌, ◌<◌, List, [], sym, ap, subst, ◌∙◌, arith, Bool, true, false}
use Rattle.std.specs.Prelude.{Option}
use Rattle.std.specs.Option.{option_map}
use Rattle.lxr_layout.specs.declared.Name.{Name}
use Rattle.lxr_graph.specs.declared.report.Kind.{Kind}
use Rattle.lxr_graph.specs.declared.report.Report.{Report}
use Rattle.lxr_image.specs.declared.space.Space.{Space}
use Rattle.lxr_image.specs.declared.space.Tally.{Tally}
use Rattle.lxr_image.specs.Settled.{AreCounted}
use Rattle.lxr_image.specs.Spaces.{IsSpace, Turns, tables_of}
use Rattle.lxr_model.specs.Moments.{Moment, Trace}
use Rattle.lxr_model.specs.Reports.{is_draining}
use Rattle.lxr_blocks.specs.Swept.{with_states_by_lines}
use Rattle.lxr_invariant.specs.AbstractState.{AbstractState}
use Rattle.lxr_one_pause.specs.declared.Ask.{Ask}
use Rattle.lxr_one_pause.specs.declared.Pace.{Pace}
use Rattle.lxr_one_pause.specs.Deciding.{GraysLieInHeap, HasKind, TellsOfMarks, kind_of}
use Rattle.lxr_one_pause.specs.Pausing.{CanPause, Pauses}
use Rattle.lxr_one_pause.specs.Settling.{SettlesCounts, counted, settled_by}
use Rattle.lxr_one_pause.specs.Steps.{CanCountWhere, CountsWhere, HasDistinctNames, with_names_in_order, with_pause_counted}
use Rattle.lxr_one_pause.specs.Tracing.{HasTraced, MayTrace}
use Rattle.lxr_one_pause.proofs.BuildingLemmas.{now}
use Rattle.lxr_one_pause.proofs.AnyKindLemmas.{HasSettled, may_trace, settled_by_kind}
use Rattle.lxr_one_pause.proofs.DecidingLemmas.{begins_where_none, ends_where_running, grays_in_heap, has_kind, grays_used}
use Rattle.lxr_one_pause.proofs.PausingLemmas.{can_count_sorted, nothing_told, pauses}
use Rattle.lxr_one_pause.proofs.SweepLemmas.{all_counted}
use Rattle.lxr_image_search.specs.declared.Wanted.TheVariants.{ToScan}
use Rattle.lxr_image_search.specs.Search.{AvoidsFree}
use Rattle.lxr_blocks.specs.States.{FreeBlocksAreFree}
use Rattle.lxr_invariant.proofs.UnusedLemmas.{free_are_free}

module _ (s k : Space) (g : AbstractState) (can : CanPause s g) (counts : (g : AbstractState) → CanPause s g → (at' : Name → ℕ) × (gone : List Name) × SettlesCounts s k g at' gone) where
  -- where objects stand once counting is done, and what died
  abbrev counted_at : Name → ℕ
  counted_at = (counts g can).0

  abbrev gone : List Name
  gone = (counts g can).1

  abbrev settled : SettlesCounts s k g counted_at gone
  settled = (counts g can).2

  pub space_counted : IsSpace k
  space_counted = settled.holds.space

  pub grays_lie : GraysLieInHeap k
  grays_lie = grays_in_heap k (counted g.moment gone k.report) counted_at settled.holds

  pub grays_avoid : AvoidsFree (tables_of k) ToScan
  grays_avoid = grays_used k (counted g.moment gone k.report) counted_at settled.holds

  module _ (asked : Ask) (pace : Pace) (is : Kind)
      (decides : (trace : Option Trace) (traced : Bool) → k.trace ≡ option_map (λ (trace : Trace). trace.began) trace → TellsOfMarks (tables_of k) trace traced → is ≡ kind_of asked pace k.report.number trace traced) where
    abbrev decided : Space
    decided = record k { report = record k.report { kind = is } }

    kind_is : HasKind (tables_of s) g.moment g.at s.logged.items asked pace is
    kind_is = has_kind s k g asked pace can counted_at gone settled is decides

    abbrev pub stands : AbstractState
    stands = now s k g can counted_at gone settled is

    pub traces_may : MayTrace is decided stands
    traces_may = may_trace s k g can counted_at gone settled k is (begins_where_none s k g asked pace can counted_at gone settled is decides) (ends_where_running s k g asked pace can counted_at gone settled is decides)

    module _ (x : Space) (traces : (h : AbstractState) → MayTrace is decided h → HasTraced is decided x h) where
      abbrev done : HasSettled s k g can counted_at gone settled x is
      done = settled_by_kind s k g can counted_at gone settled x is traces_may (traces stands traces_may)

      -- where objects stand then
      abbrev pub at' : Name → ℕ
      at' = done.to

      pub space_traced : IsSpace x
      space_traced = done.settles.holds.space

      pub free_traced : FreeBlocksAreFree (tables_of x) x.limits.blocks
      free_traced = free_are_free x (settled_by g.moment done.parts x.report) at' done.settles.holds

      pub counted_traced : AreCounted (tables_of x)
      counted_traced = all_counted (tables_of x) (settled_by g.moment done.parts x.report) at' done.settles.holds.bits done.settles.undecremented

      module _ (swept : Space) (turns : Turns x swept (with_states_by_lines (tables_of x) x.limits.blocks)) where
        pub names_once : HasDistinctNames swept.report
        names_once = subst HasDistinctNames (sym (ap (λ (y : Space). y.report) turns.rest)) done.settles.tells.distinct

        module _ (report : Report) (orders : report ≡ with_names_in_order swept.report) where
          abbrev pub leads : Moment
          leads = settled_by g.moment done.parts x.report

          abbrev sorted : Space
          sorted = record swept { report = report }

          pub may_count : CanCountWhere (is_draining is) sorted leads at'
          may_count = can_count_sorted s x swept report g asked pace can at' done.parts done.moved done.kept done.settles is done.kind_is kind_is turns orders

          module _ (z : Space) (counts_afresh : (m : Moment) (at : Name → ℕ) → CanCountWhere (is_draining is) sorted m at → CountsWhere (is_draining is) sorted z m) where
            told : CountsWhere (is_draining is) sorted z leads
            told = counts_afresh leads at' may_count

            -- the numbers of pauses are those from before
            numbers_by : {A : Type 0} (number : Space → A) (b : Bool) → ((y : Space) (r : Report) → number (record y { report = r }) ≡ number y) → CountsWhere b sorted z leads → number z ≡ number swept
            numbers_by number false same is = ap number is ∙ same swept report
            numbers_by number true same is = ap number is.space ∙ same sorted _ ∙ same swept report

            pub few_pauses : z.pauses + 1 < 2 ^ 32
            few_pauses =
                let a = numbers_by (λ (y : Space). y.pauses) (is_draining is) (λ y r i. y.pauses) told in
                let b = ap (λ (y : Space). y.pauses) turns.rest in
                let c = ap (λ (y : Space). y.pauses) done.settles.space in
                let few = can.counted.0 in
                omega (arith, a, b, c, few)

            pub few_tallied : z.tally.pauses < 2 ^ 63
            few_tallied =
                let a = numbers_by (λ (y : Space). y.tally.pauses) (is_draining is) (λ y r i. y.tally.pauses) told in
                let b = ap (λ (y : Space). y.tally.pauses) turns.rest in
                let c = ap (λ (t : Tally). t.pauses) done.settles.tally in
                let few = can.counted.1 in
                omega (arith, a, b, c, few)

            pub is_untold : (ended : Space) → ended ≡ with_pause_counted z → ended.report.told.items ≡ []
            is_untold ended ends = nothing_told s x swept report g asked pace can at' done.parts done.moved done.kept done.settles is done.kind_is kind_is turns orders z ended told ends

            pub pause_made : (ended : Space) → ended ≡ with_pause_counted z → Pauses s ended g at' asked pace
            pause_made ended ends = pauses s x swept report g asked pace can at' done.parts done.moved done.kept done.settles is done.kind_is kind_is turns orders z ended told ends
