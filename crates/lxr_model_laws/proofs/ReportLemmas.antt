-- A report is determined part by part, in the order of a pause: each part is a set by the parts before it, and a set has
-- one list in order. A running trace is young since a plain pause may only stand while it is.
use Rattle.std.proofs.Common.{◌≡◌, ℕ, ◌+◌, ◌<◌, ◌≤◌, refl, sym, ap, subst, ◌∙◌, arith, Bool, true, false, List, [], ◌∷◌}
use Rattle.std.specs.Prelude.{Option, Some, None}
use Rattle.lxr_layout.specs.declared.Name.{Name}
use Rattle.lxr_graph.specs.declared.Reply.{Reply}
use Rattle.lxr_graph.specs.declared.Reply.TheVariants as reply
use Rattle.lxr_graph.specs.declared.report.Kind.{Kind}
use Rattle.lxr_graph.specs.declared.report.Kind.TheVariants as kind
use Rattle.lxr_graph.specs.Names.{without, union, AreInOrder}
use Rattle.lxr_graph.specs.State.{world_name}
use Rattle.lxr_graph.specs.History.{PauseReport, Item, Call, Pause, Renew}
use Rattle.lxr_graph.proofs.NameSets.{in_order-none, in_order-one, in_order-insert, in_order-union, in_order-without, one_set}
use Rattle.lxr_model.specs.Terms.{Terms}
use Rattle.lxr_model.specs.Moments.{Trace, Moment, moment, made_after, left_by, going_on, trace_after}
use Rattle.lxr_model.specs.Reports.{PauseParts, IsReport, IsReportWith, IsSwept, IsSweptAtEnd, AreDrained, AreCounts, is_draining, kept_names}
use Rattle.lxr_model.specs.Kinds.{MayStand, IsRunning, NeedsNoTrace}
use Rattle.lxr_model.specs.Legal.{IsLegalSoFar}
use Rattle.lxr_model_laws.specs.ReportLaws.{ReportsAreInOrder, MomentsAreInOrder, ReportIsDetermined, HistoryIsDetermined, RunningTracesAreYoung, TracesEndInTime}

-- ---- order

swept_in_order : (m : Moment) (kept swept : List Name) (k : Kind) → IsSwept m kept swept k → AreInOrder swept
swept_in_order m kept swept kind.Plain is = subst AreInOrder (sym is) in_order-none
swept_in_order m kept swept kind.Begin is = subst AreInOrder (sym is) in_order-none
swept_in_order m kept swept (kind.End j) is = at_end m.trace is
  where
    at_end : (trace : Option Trace) → IsSweptAtEnd swept trace → AreInOrder swept
    at_end None is = absurd is
    at_end (Some trace) is = is.in_order
swept_in_order m kept swept kind.Collect is = is.in_order

pub reports_in_order : ReportsAreInOrder
reports_in_order m report (parts, is) = record {
  promoted = is.promoted.in_order;
  dead = is.dead.in_order;
  stuck = is.stuck.in_order;
  swept = swept_in_order m (without (kept_names m parts report) parts.second_dead) report.swept report.kind is.swept;
}

made_in_order : (ns : List Name) (r : Reply) → AreInOrder ns → AreInOrder (made_after ns r)
made_in_order ns (reply.New n) o = in_order-insert n ns o
made_in_order ns _ o = o

pub left_in_order : (report : PauseReport) (ns ms : List Name) → AreInOrder ms → AreInOrder (left_by report (union ns ms))
left_in_order report ns ms o = in_order-without (without (union ns ms) report.dead) report.swept (in_order-without (union ns ms) report.dead (in_order-union ns ms o))

pub moments_in_order : MomentsAreInOrder
moments_in_order terms [] legal = record { unreclaimed = in_order-one world_name; stuck = in_order-one world_name; made = in_order-none }
moments_in_order terms (Call t o r ∷ h) legal =
    let before = moments_in_order terms h legal.0 in
    record { unreclaimed = before.unreclaimed; stuck = before.stuck; made = made_in_order (moment terms.threads h).made r before.made }
moments_in_order terms (Pause report ∷ h) legal =
    let before = moments_in_order terms h legal.0 in
    record {
      unreclaimed = left_in_order report report.promoted (moment terms.threads h).unreclaimed before.unreclaimed;
      stuck = left_in_order report report.stuck (moment terms.threads h).stuck before.stuck;
      made = in_order-none;
    }
moments_in_order terms (Renew ns ∷ h) legal =
    let sound = legal.2.sound in
    record { unreclaimed = sound.unreclaimed_in_order; stuck = sound.stuck_in_order; made = in_order-none }

-- ---- one report

-- each of these parts is one, where the parts before it are
second_same : (m : Moment) (p : PauseParts) (a b : PauseReport) (second third : List Name) (d : Bool)
    → AreDrained m (record p { second_dead = second; third_dead = third }) (record b { promoted = a.promoted; stuck = a.stuck }) d → AreDrained m p a d → second ≡ p.second_dead
second_same m p a b second third false x y = x.0 ∙ sym y.0
second_same m p a b second third true x y = one_set x.0 y.0

third_same : (m : Moment) (p : PauseParts) (a b : PauseReport) (third : List Name) (d : Bool)
    → AreDrained m (record p { third_dead = third }) (record b { promoted = a.promoted; stuck = a.stuck; swept = a.swept }) d → AreDrained m p a d → third ≡ p.third_dead
third_same m p a b third false x y = x.1 ∙ sym y.1
third_same m p a b third true x y = one_set x.1 y.1

swept_same : (m : Moment) (kept ns ms : List Name) (k : Kind) → IsSwept m kept ns k → IsSwept m kept ms k → ns ≡ ms
swept_same m kept ns ms kind.Plain x y = x ∙ sym y
swept_same m kept ns ms kind.Begin x y = x ∙ sym y
swept_same m kept ns ms (kind.End j) x y = at_end m.trace x y
  where
    at_end : (trace : Option Trace) → IsSweptAtEnd ns trace → IsSweptAtEnd ms trace → ns ≡ ms
    at_end None x y = absurd x
    at_end (Some trace) x y = one_set x y
swept_same m kept ns ms kind.Collect x y = one_set x y

counts_same : (m : Moment) (a b : PauseReport) (d : Bool)
    → AreCounts m (record b { promoted = a.promoted; stuck = a.stuck; swept = a.swept; dead = a.dead }) d → AreCounts m a d → b.counts ≡ a.counts
counts_same m a b false x y = x ∙ sym y
counts_same m a b true x y = x ∙ sym y

-- part after part of the one report takes the place of the other's
determined : (m : Moment) (p q : PauseParts) (a b : PauseReport) → IsReportWith m p a → IsReportWith m q b → b.kind ≡ a.kind → b ≡ a
determined m p q a b x y kinds =
    let number : b.number ≡ a.number = y.number ∙ sym x.number in
    let b' : PauseReport = record b { kind = a.kind } in
    let y1 : IsReportWith m q b' = subst (λ k. IsReportWith m q (record b { kind = k })) kinds y in
    let first : q.first_dead ≡ p.first_dead = one_set y1.first_dead x.first_dead in
    let y2 : IsReportWith m (record q { first_dead = p.first_dead }) b' = subst (λ d. IsReportWith m (record q { first_dead = d }) b') first y1 in
    let promoted : b.promoted ≡ a.promoted = one_set y2.promoted x.promoted in
    let y3 : IsReportWith m (record q { first_dead = p.first_dead }) (record b' { promoted = a.promoted }) =
    subst (λ ns. IsReportWith m (record q { first_dead = p.first_dead }) (record b' { promoted = ns })) promoted y2 in
    let stuck : b.stuck ≡ a.stuck = one_set y3.stuck x.stuck in
    let y4 : IsReportWith m (record q { first_dead = p.first_dead }) (record b' { promoted = a.promoted; stuck = a.stuck }) =
    subst (λ ns. IsReportWith m (record q { first_dead = p.first_dead }) (record b' { promoted = a.promoted; stuck = ns })) stuck y3 in
    let second : q.second_dead ≡ p.second_dead = second_same m p a b' q.second_dead q.third_dead (is_draining a.kind) y4.drained x.drained in
    let y5 : IsReportWith m (record p { third_dead = q.third_dead }) (record b' { promoted = a.promoted; stuck = a.stuck }) =
    subst (λ d. IsReportWith m (record p { second_dead = d; third_dead = q.third_dead }) (record b' { promoted = a.promoted; stuck = a.stuck })) second y4 in
    let swept : b.swept ≡ a.swept = swept_same m (without (kept_names m p a) p.second_dead) b.swept a.swept a.kind y5.swept x.swept in
    let y6 : IsReportWith m (record p { third_dead = q.third_dead }) (record b' { promoted = a.promoted; stuck = a.stuck; swept = a.swept }) =
    subst (λ ns. IsReportWith m (record p { third_dead = q.third_dead }) (record b' { promoted = a.promoted; stuck = a.stuck; swept = ns })) swept y5 in
    let third : q.third_dead ≡ p.third_dead = third_same m p a b' q.third_dead (is_draining a.kind) y6.drained x.drained in
    let y7 : IsReportWith m p (record b' { promoted = a.promoted; stuck = a.stuck; swept = a.swept }) =
    subst (λ d. IsReportWith m (record p { third_dead = d }) (record b' { promoted = a.promoted; stuck = a.stuck; swept = a.swept })) third y6 in
    let dead : b.dead ≡ a.dead = one_set y7.dead x.dead in
    let y8 : IsReportWith m p (record b' { promoted = a.promoted; stuck = a.stuck; swept = a.swept; dead = a.dead }) =
    subst (λ ns. IsReportWith m p (record b' { promoted = a.promoted; stuck = a.stuck; swept = a.swept; dead = ns })) dead y7 in
    let counts : b.counts ≡ a.counts = counts_same m a b' (is_draining a.kind) y8.counts x.counts in
    λ i. record { number = number i; kind = kinds i; promoted = promoted i; dead = dead i; stuck = stuck i; swept = swept i; counts = counts i }

pub report_determined : ReportIsDetermined
report_determined m a b (p, x) (q, y) kinds = sym (determined m p q a b x y (sym kinds))

pub history_determined : HistoryIsDetermined
history_determined terms [] [] x y alike = refl
history_determined terms (Call t o r ∷ g) (Call u p q ∷ h) x y alike =
    let rest : g ≡ h = history_determined terms g h x.0 y.0 alike.3 in
    λ i. Call (alike.0 i) (alike.1 i) (alike.2 i) ∷ rest i
history_determined terms (Pause a ∷ g) (Pause b ∷ h) x y alike =
    let rest : g ≡ h = history_determined terms g h x.0 y.0 alike.1 in
    let one : a ≡ b = report_determined (moment terms.threads h) a b (subst (λ l. IsReport (moment terms.threads l) a) rest x.2.reports) y.2.reports alike.0 in
    λ i. Pause (one i) ∷ rest i
history_determined terms (Renew ns ∷ g) (Renew ms ∷ h) x y alike =
    let rest : g ≡ h = history_determined terms g h x.0 y.0 alike in
    let left : world_name ∷ ns ≡ world_name ∷ ms = sym x.2.left ∙ ap (λ l. (moment terms.threads l).unreclaimed) rest ∙ y.2.left in
    let same : ns ≡ ms = cc in
    λ i. Renew (same i) ∷ rest i
history_determined terms [] (y' ∷ h) x y alike = absurd alike
history_determined terms (Call t o r ∷ g) [] x y alike = absurd alike
history_determined terms (Call t o r ∷ g) (Pause b ∷ h) x y alike = absurd alike
history_determined terms (Call t o r ∷ g) (Renew ms ∷ h) x y alike = absurd alike
history_determined terms (Pause a ∷ g) [] x y alike = absurd alike
history_determined terms (Pause a ∷ g) (Call u p q ∷ h) x y alike = absurd alike
history_determined terms (Pause a ∷ g) (Renew ms ∷ h) x y alike = absurd alike
history_determined terms (Renew ns ∷ g) [] x y alike = absurd alike
history_determined terms (Renew ns ∷ g) (Call u p q ∷ h) x y alike = absurd alike
history_determined terms (Renew ns ∷ g) (Pause b ∷ h) x y alike = absurd alike

-- ---- traces

-- a trace that runs began at this number or before, and fewer than `within` pauses ago
abbrev IsYoung : Terms → ℕ → Option Trace → Type 0
IsYoung terms k None = Unit {0}
IsYoung terms k (Some trace) = (trace.began ≤ k) × (k < trace.began + terms.within)

young_plain : (terms : Terms) (m : Moment) (report : PauseReport) (k : ℕ) (trace : Option Trace) → NeedsNoTrace terms (k + 1) trace → IsYoung terms k trace
    → IsYoung terms (k + 1) (going_on m report trace)
young_plain terms m report k None stands young = tt
young_plain terms m report k (Some trace) early young = (omega arith, early)

young_after : (terms : Terms) (h : List Item) (m : Moment) (report : PauseReport) (kd : Kind) → 1 ≤ terms.within → report.number ≡ m.number + 1
    → MayStand terms h m report.number kd → IsYoung terms m.number m.trace → IsYoung terms report.number (trace_after m report kd)
young_after terms h m report kind.Plain w e stands young =
    subst (λ k. IsYoung terms k (going_on m report m.trace)) (sym e)
    (young_plain terms m report m.number m.trace (subst (λ k. NeedsNoTrace terms k m.trace) e stands.1) young)
young_after terms h m report kind.Begin w e stands young = (omega arith, omega arith)
young_after terms h m report (kind.End j) w e stands young = tt
young_after terms h m report kind.Collect w e stands young = tt

young : (terms : Terms) (h : List Item) → 1 ≤ terms.within → IsLegalSoFar terms h → IsYoung terms (moment terms.threads h).number (moment terms.threads h).trace
young terms [] w legal = tt
young terms (Call t o r ∷ h) w legal = young terms h w legal.0
young terms (Renew ns ∷ h) w legal = tt
young terms (Pause report ∷ h) w legal =
    young_after terms h (moment terms.threads h) report report.kind w legal.2.reports.1.number legal.2.stands (young terms h w legal.0)

pub running_young : RunningTracesAreYoung
running_young terms h trace w legal is =
    subst (IsYoung terms (moment terms.threads h).number) is (young terms h w legal)

ends_young : (terms : Terms) (k j : ℕ) (trace : Option Trace) → IsRunning j trace → IsYoung terms k trace → (j < k + 1) × (k + 1 ≤ j + terms.within)
ends_young terms k j None runs young = absurd runs
ends_young terms k j (Some trace) runs young = (omega arith, omega arith)

pub ends_in_time : TracesEndInTime
ends_in_time terms h report j w legal ends =
    let m = moment terms.threads h in
    let stands : MayStand terms h m report.number (kind.End j) = subst (MayStand terms h m report.number) ends legal.2.stands in
    subst (λ k. (j < k) × (k ≤ j + terms.within)) (sym legal.2.reports.1.number) (ends_young terms m.number j m.trace stands.1 (young terms h w legal.0))
