-- The numbers that are printed of a whole history are small: rows have no more objects than the history has items, pauses are numbered from
-- 1, data words are below 2^64, and no more references are counted than objects and registers have.
use Rattle.std.proofs.Common.{◌≡◌, ℕ, zero, suc, ◌+◌, ◌*◌, ◌^◌, ◌<◌, ◌≤◌, inl, inr, ◌⊎◌, Bool, true, false, IsTrue, List, [], ◌∷◌, Some, None, length, map, refl, sym, ap, subst, ◌∙◌, arith}
use Rattle.std.specs.Prelude.{Option, nat_le, replicate, slice_get, slice_index_or, if◌then◌else◌}
use Rattle.std.specs.List.{AllByRecursion}
use Rattle.std.specs.List.Sorted.{IsStrictlySortedBy}
use Rattle.std.specs.Ordering.{nat_cmp}
use Rattle.std.specs.declared.cmp.Ordering.TheVariants.{Less}
use Rattle.std.proofs.lemmas.Bool.{cases_eq, or_left, or_right}
use Rattle.std.proofs.lemmas.List.{length-map, length-replicate}
use Rattle.std.proofs.lemmas.List.Elements.{All-from_recursion}
use Rattle.std.proofs.lemmas.Option.{none-some, same_Some}
use Rattle.std.proofs.lemmas.Map.Views.{length-le_from_below}
use Rattle.lxr_layout.specs.declared.Name.{Name}
use Rattle.lxr_layout.specs.declared.TheConstants.{REGISTERS, WORLD_REFS}
use Rattle.lxr_graph.specs.declared.Op.{Op}
use Rattle.lxr_graph.specs.declared.Op.TheVariants as op
use Rattle.lxr_graph.specs.declared.Reply.{Reply}
use Rattle.lxr_graph.specs.declared.Reply.TheVariants as reply
use Rattle.lxr_graph.specs.declared.report.Count.{Count}
use Rattle.lxr_graph.specs.declared.report.Kind.{Kind}
use Rattle.lxr_graph.specs.declared.report.Kind.TheVariants as kind
use Rattle.lxr_graph.specs.Names.{AreInOrder, has, name_order, same_held, same_name, union, without}
use Rattle.lxr_graph.specs.State.{Graph, HasObject, Object, State, next_name, object_at, opening, refs_of, row_of, world, first_serial, index_in_row}
use Rattle.lxr_graph.specs.Step.{IsFormedFor, step}
use Rattle.lxr_graph.specs.History.{PauseReport, Item, Call, Pause, Renew}
use Rattle.lxr_graph.proofs.NameLemmas.{rank_order}
use Rattle.lxr_graph.proofs.NameSets.{same_itself, union_cases, without_parts}
use Rattle.lxr_graph.proofs.RowCounts.{step_rows}
use Rattle.lxr_graph.proofs.RowLemmas.{in_row}
use Rattle.lxr_text_script.specs.Limits.{IsWritten}
use Rattle.lxr_model.specs.Reachable.{Reachable}
use Rattle.lxr_model.specs.References.{occurrences, references, references_from}
use Rattle.lxr_model.specs.Terms.{Terms}
use Rattle.lxr_model.proofs.UnrenewedLemmas.{IsUnrenewed}
use Rattle.lxr_model.specs.Moments.{Moment, Trace, going_on, moment, trace_after, unreclaimed_after}
use Rattle.lxr_model.specs.Kinds.{IsRunning, MayStand}
use Rattle.lxr_model.specs.Reports.{AreCounts, AreDrained, IsReportWith, IsSwept, IsSweptAtEnd, PauseParts, count_entry, is_draining, kept_names}
use Rattle.lxr_model.specs.Legal.{IsLegalSoFar, Replies}
use Rattle.lxr_model.specs.Belongs.{Script}
use Rattle.lxr_model.proofs.HistoryLemmas.{GoodAt, RunningGood, good_history, left_exists}
use Rattle.lxr_model.proofs.ReachableLemmas.{dead_parts, promoted_made}
use Rattle.lxr_model_counting.proofs.FollowingLemmas.{object_of, opening_follows}
use Rattle.lxr_model_counting.proofs.StoreLemmas.{step_keeps}
use Rattle.lxr_model_laws.specs.ReportLaws.{HasListsInOrder}
use Rattle.lxr_model_laws.proofs.ReportLemmas.{moments_in_order, reports_in_order}
use Rattle.lxr_judge.proofs.FormedLemmas.{AreSmall, AreSmallCounts, AreSmallNames, IsSaid, IsSmall, IsSmallKind, IsSmallList, IsSmallName, IsSmallReport, IsSmallWord}
use Rattle.lxr_judge.proofs.ModestLemmas.{AreModest, CanSay, IsModest, PutsFew, full_said, step_modest, step_said}
use Rattle.lxr_judge.proofs.PartLemmas.{IsWhole, whole_unrenewed, written_at}
use Rattle.lxr_judge.proofs.RoomLemmas.{after_cases, empty_row, rows_are}
use Rattle.lxr_judge.proofs.WholeLemmas.{legal_at, onto, unrenewed_at}

-- ---- names

opening_row_short : (threads u : ℕ) → length (row_of (opening threads).graph u) ≤ 1
opening_row_short threads zero = omega arith
opening_row_short threads (suc u) = short threads u
  where
    short : (n k : ℕ) → length (slice_index_or (replicate n (let none : List Object = [] in none)) k []) ≤ 1
    short zero k = omega arith
    short (suc n) zero = omega arith
    short (suc n) (suc k) = short n k

-- a row has at most one object more with each item
row_few : (threads u : ℕ) (h : List Item) → IsUnrenewed h → length (row_of (moment threads h).state.graph u) ≤ length h + 1
row_few threads u [] none = opening_row_short threads u
row_few threads u (Renew ns ∷ h) none = absurd none
row_few threads u (Pause report ∷ h) none = let n = row_few threads u h none in omega (arith, n)
row_few threads u (Call t o r ∷ h) none =
    let s = (moment threads h).state in
    let before = row_few threads u h none in
    elim (after_cases s t o r) [
      | inl same ↦ let e = ap (λ (z : State). length (row_of z.graph u)) same in omega (arith, before, e)
      | inr next ↦
          let e = ap (λ (z : State). length (row_of z.graph u)) next in
          let keeps = step_rows s t o in
          elim (cases_eq u t) [
            | inl mine ↦ let made = subst (λ (v : ℕ). length (row_of (step s t o).0.graph v) ≤ length (row_of s.graph v) + 1) (sym mine) keeps.one_made in omega (arith, before, e, made)
            | inr other ↦ let still = keeps.others u other in omega (arith, before, e, still)
          ]
    ]

first_low : (t : ℕ) → first_serial t ≤ 1
first_low zero = omega arith
first_low (suc t) = grind arith

-- a name that has an object is small
named_small : (threads : ℕ) (h : List Item) → IsUnrenewed h → threads ≤ 16 → length h + 1 < 2 ^ 32 → (n : Name) → HasObject (moment threads h).state.graph n → IsSmallName n
named_small threads h none few short n there =
    let g = (moment threads h).state.graph in
    let at = object_of (object_at g n) there in
    let where_it_is = in_row g n at.0 at.1 in
    let rows = rows_are threads h none in
    let row = row_few threads n.thread h none in
    let first = first_low n.thread in
    record { thread = omega (arith, few, rows, where_it_is.2); serial = omega (arith, short, row, first, where_it_is.1) }

next_small : (threads t : ℕ) (h : List Item) → IsUnrenewed h → t ≤ 16 → length h + 2 < 2 ^ 32 → IsSmallName (next_name (moment threads h).state.graph t)
next_small threads t h none low short =
    let row = row_few threads t h none in
    let first = first_low t in
    record { thread = low; serial = omega (arith, short, row, first) }

-- ---- lists of names

names_small : (ns : List Name) → ((n : Name) → IsTrue (has ns n) → IsSmallName n) → AreSmallNames ns
names_small [] each = tt
names_small (n ∷ ns) each =
    (each n (or_left (same_name n n) (has ns n) (same_itself n)), names_small ns (λ m h. each m (or_right (same_name m n) (has ns m) h)))

rank : Name → ℕ
rank n = n.serial + 2 ^ 32 * n.thread

below_all : (n : Name) (ns : List Name) → IsSmallName n → AreSmallNames ns → AllByRecursion (λ m. name_order n m ≡ Less) ns → AllByRecursion (λ k. nat_cmp (rank n) k ≡ Less) (map rank ns)
unfolding rank
below_all n [] small all below = tt
below_all n (m ∷ ns) small all below = (rank_order n m (rank n) (rank m) small.serial all.0.serial refl refl ∙ below.0, below_all n ns small all.1 below.1)

ranks_up : (ns : List Name) → AreInOrder ns → AreSmallNames ns → IsStrictlySortedBy nat_cmp (map rank ns)
unfolding IsStrictlySortedBy
ranks_up [] up all = tt
ranks_up (n ∷ ns) up all = (below_all n ns all.0 all.1 up.0, ranks_up ns up.1 all.1)

ranks_low : (ns : List Name) → AreSmallNames ns → AllByRecursion (λ k. k < 2 ^ 37) (map rank ns)
unfolding rank
ranks_low [] all = tt
ranks_low (n ∷ ns) all = let t = all.0.thread in let s = all.0.serial in (omega (arith, t, s), ranks_low ns all.1)

-- names in order are few, where they are small
names_few : (ns : List Name) → AreInOrder ns → AreSmallNames ns → length ns ≤ 2 ^ 37
names_few ns up all =
    let size = length-map ns rank in
    let most = length-le_from_below (2 ^ 37) (map rank ns) (ranks_up ns up all) (All-from_recursion (λ k. k < 2 ^ 37) (map rank ns) (ranks_low ns all)) in
    omega (arith, size, most)

pub list_small : (ns : List Name) → AreInOrder ns → ((n : Name) → IsTrue (has ns n) → IsSmallName n) → IsSmallList ns
list_small ns up each =
    let all = names_small ns each in
    let few = names_few ns up all in
    record { names = all; count = omega (arith, few) }

-- ---- counts

occurrences_few : (rs : List (Option Name)) (o : Name) → occurrences rs o ≤ length rs
occurrences_few [] o = omega arith
occurrences_few (r ∷ rs) o =
    let rest = occurrences_few rs o in
    elim (same_held (Some o) r) as (λ b. (if b then 1 else 0) + occurrences rs o ≤ length (r ∷ rs)) [ true ↦ omega (arith, rest) | false ↦ omega (arith, rest) ]

object_refs : (g : Graph) (u : Name) → AreModest g → length (refs_of (object_at g u)) ≤ 1023
object_refs g u modest = look (object_at g u) refl
  where
    look : (found : Option Object) → object_at g u ≡ found → length (refs_of found) ≤ 1023
    look None is = omega arith
    look (Some o) is = (modest u o is).refs

references_few : (g : Graph) (us : List Name) (o : Name) → AreModest g → references_from g us o ≤ 1023 * length us
references_few g [] o modest = omega arith
references_few g (u ∷ us) o modest =
    let here = occurrences_few (refs_of (object_at g u)) o in
    let few = object_refs g u modest in
    let rest = references_few g us o modest in
    omega (arith, here, few, rest)

-- there are 256 registers for each thread
registers_are : (terms : Terms) (h : List Item) → IsUnrenewed h → IsLegalSoFar terms h → length (moment terms.threads h).state.registers ≡ REGISTERS * terms.threads
registers_are terms [] none legal = let follows = opening_follows terms.threads in let size = follows.registers in let rows = rows_are terms.threads [] none in omega (arith, size, rows)
registers_are terms (Renew ns ∷ h) none legal = absurd none
registers_are terms (Pause report ∷ h) none legal = registers_are terms h none legal.0
registers_are terms (Call t o r ∷ h) none legal =
    let s = (moment terms.threads h).state in
    let before = registers_are terms h none legal.0 in
    elim (after_cases s t o r) [
      | inl same ↦ let e = ap (λ (z : State). length z.registers) same in omega (arith, before, e)
      | inr next ↦
          let e = ap (λ (z : State). length z.registers) next in
          let rows = rows_are terms.threads h none in
          let low = legal.2.thread.0 in
          let high = legal.2.thread.1 in
          let keeps = step_keeps s t o (omega (arith, rows, high)) (omega (arith, before, low, high)) in
          let still = keeps.registers in
          omega (arith, before, e, still)
    ]

-- ---- pauses

number_few : (terms : Terms) (h : List Item) → IsLegalSoFar terms h → (moment terms.threads h).number ≤ length h
number_few terms [] legal = omega arith
number_few terms (Renew ns ∷ h) legal = omega arith
number_few terms (Call t o r ∷ h) legal = let n = number_few terms h legal.0 in omega (arith, n)
number_few terms (Pause report ∷ h) legal = let n = number_few terms h legal.0 in let is = legal.2.reports.1.number in omega (arith, n, is)

-- a trace that runs began at this pause or before it
abbrev BeganBy : ℕ → Option Trace → Type 0
BeganBy n None = Unit {0}
BeganBy n (Some trace) = trace.began ≤ n

began_later : (m : Moment) (report : PauseReport) (n : ℕ) (trace : Option Trace) → BeganBy n trace → n ≤ report.number → BeganBy report.number (going_on m report trace)
began_later m report n None began le = tt
began_later m report n (Some trace) began le = omega (arith, began, le)

began_after : (m : Moment) (report : PauseReport) (k : Kind) → BeganBy m.number m.trace → m.number ≤ report.number → BeganBy report.number (trace_after m report k)
began_after m report kind.Plain began le = began_later m report m.number m.trace began le
began_after m report kind.Begin began le = omega arith
began_after m report (kind.End j) began le = tt
began_after m report kind.Collect began le = tt

began_by : (terms : Terms) (h : List Item) → IsLegalSoFar terms h → BeganBy (moment terms.threads h).number (moment terms.threads h).trace
began_by terms [] legal = tt
began_by terms (Renew ns ∷ h) legal = tt
began_by terms (Call t o r ∷ h) legal = began_by terms h legal.0
began_by terms (Pause report ∷ h) legal =
    let is = legal.2.reports.1.number in
    began_after (moment terms.threads h) report report.kind (began_by terms h legal.0) (omega (arith, is))

ended_small : (n j : ℕ) (trace : Option Trace) → IsRunning j trace → BeganBy n trace → j ≤ n
ended_small n j None runs began = absurd runs
ended_small n j (Some trace) runs began = omega (arith, runs, began)

kind_small : (terms : Terms) (h : List Item) (m : Moment) (n : ℕ) (k : Kind) → MayStand terms h m n k → BeganBy m.number m.trace → m.number < 2 ^ 32 → IsSmallKind k
kind_small terms h m n kind.Plain stands began low = tt
kind_small terms h m n kind.Begin stands began low = tt
kind_small terms h m n (kind.End j) stands began low = let le = ended_small m.number j m.trace stands.1 began in omega (arith, le, low)
kind_small terms h m n kind.Collect stands began low = tt

-- ---- a report

module _ (threads : ℕ) (m : Moment) (report : PauseReport) (parts : PauseParts) (is : IsReportWith m parts report) (good : GoodAt threads m) where
  promoted_there : (n : Name) → IsTrue (has report.promoted n) → HasObject m.state.graph n
  promoted_there n h = (good.young n (promoted_made ((is.promoted.members n).0 h))).1

  unreclaimed_there : (n : Name) → IsTrue (has m.unreclaimed n) → HasObject m.state.graph n
  unreclaimed_there n h = good.grows n (good.kept n h)

  kept_there : (n : Name) → IsTrue (has (kept_names m parts report) n) → HasObject m.state.graph n
  kept_there n h = elim (union_cases report.promoted (without m.unreclaimed parts.first_dead) n h) [
    | inl q ↦ promoted_there n q
    | inr q ↦ unreclaimed_there n (without_parts m.unreclaimed parts.first_dead n q).0
  ]

  left_there : (n : Name) → IsTrue (has (without (kept_names m parts report) parts.second_dead) n) → HasObject m.state.graph n
  left_there n h = kept_there n (without_parts (kept_names m parts report) parts.second_dead n h).0

  second_there : (b : Bool) → AreDrained m parts report b → (n : Name) → IsTrue (has parts.second_dead n) → HasObject m.state.graph n
  second_there false drained n h = let none = rw drained.0 at h in cc
  second_there true drained n h = kept_there n (dead_parts ((drained.0.members n).0 h)).member

  third_there : (b : Bool) → AreDrained m parts report b → (n : Name) → IsTrue (has parts.third_dead n) → HasObject m.state.graph n
  third_there false drained n h = let none = rw drained.1 at h in cc
  third_there true drained n h = left_there n (without_parts (without (kept_names m parts report) parts.second_dead) report.swept n (dead_parts ((drained.1.members n).0 h)).member).0

  dead_there : (n : Name) → IsTrue (has report.dead n) → HasObject m.state.graph n
  dead_there n h = elim ((is.dead.members n).0 h) [
    | inl first ↦ unreclaimed_there n (dead_parts ((is.first_dead.members n).0 first)).member
    | inr later ↦ elim later [
      | inl second ↦ second_there (is_draining report.kind) is.drained n second
      | inr third ↦ third_there (is_draining report.kind) is.drained n third
    ]
  ]

  stuck_there : (n : Name) → IsTrue (has report.stuck n) → HasObject m.state.graph n
  stuck_there n h = kept_there n ((is.stuck.members n).0 h).0

  swept_at_end : (trace : Option Trace) → RunningGood trace m.state → IsSweptAtEnd report.swept trace → (n : Name) → IsTrue (has report.swept n) → HasObject m.state.graph n
  swept_at_end None running swept n h = absurd swept
  swept_at_end (Some trace) running swept n h = running.grows n (running.kept n ((swept.members n).0 h).0)

  swept_by : (k : Kind) → IsSwept m (without (kept_names m parts report) parts.second_dead) report.swept k → (n : Name) → IsTrue (has report.swept n) → HasObject m.state.graph n
  swept_by kind.Plain swept n h = let none = rw swept at h in cc
  swept_by kind.Begin swept n h = let none = rw swept at h in cc
  swept_by (kind.End j) swept n h = swept_at_end m.trace good.running swept n h
  swept_by kind.Collect swept n h = left_there n ((swept.members n).0 h).0

  swept_there : (n : Name) → IsTrue (has report.swept n) → HasObject m.state.graph n
  swept_there n h = swept_by report.kind is.swept n h

entries_small : (s : State) (us stuck ns : List Name) → AreSmallNames ns → ((o : Name) → IsSmall (references s us o)) → AreSmallCounts (map (count_entry s us stuck) ns)
entries_small s us stuck [] all few = tt
entries_small s us stuck (n ∷ ns) all few =
    (all.0, elim (has stuck n) as (λ b. IsSmallWord (if b then None else Some (references s us n))) [ true ↦ tt | false ↦ few n ], entries_small s us stuck ns all.1 few)

counts_small : (m : Moment) (report : PauseReport) (stuck us : List Name) (b : Bool) (counts : List Count) → AreSmallNames us → ((o : Name) → IsSmall (references m.state us o))
    → (if b then map (count_entry m.state us stuck) us else []) ≡ counts → AreSmallCounts counts
counts_small m report stuck us true counts all few e = subst AreSmallCounts e (entries_small m.state us stuck us all few)
counts_small m report stuck us false counts all few e = subst AreSmallCounts e tt

are_counts : (m : Moment) (report : PauseReport) (b : Bool) → AreCounts m report b → (if b then map (count_entry m.state (unreclaimed_after m report) (union report.stuck m.stuck)) (unreclaimed_after m report) else []) ≡ report.counts
are_counts m report true counts = sym counts
are_counts m report false counts = sym counts

report_small : (terms : Terms) (h : List Item) (report : PauseReport) → IsUnrenewed h → terms.threads ≤ 16 → length h + 1 < 2 ^ 32 → AreModest (moment terms.threads h).state.graph → IsLegalSoFar terms (Pause report ∷ h) → IsSmallReport report
report_small terms h report none few short modest legal =
    let m = moment terms.threads h in
    let parts = legal.2.reports.0 in
    let is = legal.2.reports.1 in
    let good = good_history terms h legal.0 in
    let small = named_small terms.threads h none few short in
    let up : HasListsInOrder report = reports_in_order m report legal.2.reports in
    let number = number_few terms h legal.0 in
    let us = unreclaimed_after m report in
    let left = list_small us (moments_in_order terms (Pause report ∷ h) legal).unreclaimed (λ n k. small n (left_exists terms.threads m report parts is good n k)) in
    let many = names_few us (moments_in_order terms (Pause report ∷ h) legal).unreclaimed left.names in
    let registers = registers_are terms h none legal.0 in
    record {
      number = let n = is.number in omega (arith, n, number, short);
      kind = kind_small terms h m report.number report.kind legal.2.stands (began_by terms h legal.0) (omega (arith, number, short));
      promoted = list_small report.promoted up.promoted (λ n k. small n (promoted_there terms.threads m report parts is good n k));
      dead = list_small report.dead up.dead (λ n k. small n (dead_there terms.threads m report parts is good n k));
      stuck = list_small report.stuck up.stuck (λ n k. small n (stuck_there terms.threads m report parts is good n k));
      swept = list_small report.swept up.swept (λ n k. small n (swept_there terms.threads m report parts is good n k));
      counts = counts_small m report (union report.stuck m.stuck) us (is_draining report.kind) report.counts left.names
          (λ o. let a = references_few m.state.graph us o modest in let b = occurrences_few m.state.registers o in omega (arith, a, b, many, registers, few))
          (are_counts m report (is_draining report.kind) is.counts);
    }

-- ---- the whole

row_modest : (threads u k : ℕ) (o : Object) → slice_get (row_of (opening threads).graph u) k ≡ Some o → IsModest o
row_modest threads zero zero o at = subst IsModest (same_Some world o at) (record { refs = let e = length-replicate WORLD_REFS (let nil : Option Name = None in nil) in omega (arith, e); values = λ i v none. absurd (none-some v none) })
row_modest threads zero (suc k) o at = absurd (none-some o at)
row_modest threads (suc u) k o at = absurd (none-some o (sym (ap (λ (row : List Object). slice_get row k) (empty_row threads u)) ∙ at))

opening_modest : (threads : ℕ) → AreModest (opening threads).graph
opening_modest threads n o is = row_modest threads n.thread (index_in_row n) o (found (nat_le (first_serial n.thread) n.serial) is)
  where
    found : (b : Bool) → (if b then slice_get (row_of (opening threads).graph n.thread) (index_in_row n) else None) ≡ Some o → slice_get (row_of (opening threads).graph n.thread) (index_in_row n) ≡ Some o
    found true e = e
    found false e = absurd (none-some o e)

puts_few : (registers : ℕ) (o : Op) → IsFormedFor registers o → IsWritten o ⊎ (o ≡ op.End) → PutsFew o
puts_few registers (op.New dest shape) formed written = formed.1.0
puts_few registers (op.Put base index value) formed (inl written) = written.1
puts_few registers (op.Put base index value) formed (inr last) = cc
puts_few registers o formed written = tt

-- below the whole, names are never renewed either
whole_below : (terms : Terms) (script : Script) (above h : List Item) → IsWhole terms script (onto above h) → IsUnrenewed h
whole_below terms script above h whole = unrenewed_at above h (whole_unrenewed terms script (onto above h) whole)

modest_at : (terms : Terms) (script : Script) (above h : List Item) → IsWhole terms script (onto above h) → AreModest (moment terms.threads h).state.graph
modest_at terms script above [] whole = opening_modest terms.threads
modest_at terms script above (Renew ns ∷ h) whole = absurd (whole_below terms script above (Renew ns ∷ h) whole)
modest_at terms script above (Pause report ∷ h) whole = modest_at terms script (Pause report ∷ above) h whole
modest_at terms script above (Call t o r ∷ h) whole =
    let s = (moment terms.threads h).state in
    let legal = legal_at terms above (Call t o r ∷ h) whole.legal.0 in
    let call = legal.2 in
    let rows = rows_are terms.threads h (whole_below terms script above (Call t o r ∷ h) whole) in
    let before = modest_at terms script (Call t o r ∷ above) h whole in
    let few = puts_few terms.registers o call.operation (written_at terms script above h t o r whole call.thread.0 call.thread.1) in
    elim (after_cases s t o r) [
      | inl same ↦ subst (λ (z : State). AreModest z.graph) (sym same) before
      | inr next ↦ subst (λ (z : State). AreModest z.graph) (sym next) (step_modest s t o (omega (arith, rows, call.thread.1)) few before)
    ]

reached_there : (terms : Terms) (h : List Item) → IsLegalSoFar terms h → (n : Name) → Reachable (moment terms.threads h).state n → HasObject (moment terms.threads h).state.graph n
reached_there terms h legal n r =
    let good = good_history terms h legal in
    elim (good.reach n r) [ inl old ↦ good.grows n (good.kept n (good.within n old)) | inr made ↦ (good.young n made).1 ]

replied : (terms : Terms) (h : List Item) (t : ℕ) (o : Op) (r : Reply) → CanSay (moment terms.threads h).state t → Replies terms h t o r → IsSaid o r
replied terms h t (op.New dest shape) reply.Full can is = full_said dest shape
replied terms h t (op.New dest shape) r can is = subst (IsSaid (op.New dest shape)) is (step_said (moment terms.threads h).state t can (op.New dest shape))
replied terms h t o r can is = subst (IsSaid o) is (step_said (moment terms.threads h).state t can o)

longer : (above h : List Item) → length h ≤ length (onto above h)
longer [] h = omega arith
longer (x ∷ above) h = let n = longer above (x ∷ h) in omega (arith, n)

small_at : (terms : Terms) (script : Script) (above h : List Item) → IsWhole terms script (onto above h) → length (onto above h) + 1 < 2 ^ 32 → AreSmall h
small_at terms script above [] whole short = tt
small_at terms script above (Renew ns ∷ h) whole short = tt
small_at terms script above (Pause report ∷ h) whole short =
    let size = longer above (Pause report ∷ h) in
    let few : terms.threads ≤ 16 = let n = whole.fits.greatest in let e = whole.threads in omega (arith, n, e) in
    let modest = modest_at terms script (Pause report ∷ above) h whole in
    (small_at terms script (Pause report ∷ above) h whole short, report_small terms h report (whole_below terms script above (Pause report ∷ h) whole) few (omega (arith, short, size)) modest (legal_at terms above (Pause report ∷ h) whole.legal.0))
small_at terms script above (Call t o r ∷ h) whole short =
    let size = longer above (Call t o r ∷ h) in
    let few : terms.threads ≤ 16 = let n = whole.fits.greatest in let e = whole.threads in omega (arith, n, e) in
    let legal = legal_at terms above (Call t o r ∷ h) whole.legal.0 in
    let none = whole_below terms script above (Call t o r ∷ h) whole in
    let can : CanSay (moment terms.threads h).state t = record {
      reachable = λ n k. named_small terms.threads h none few (omega (arith, short, size)) n (reached_there terms h legal.0 n k);
      next = let high = legal.2.thread.1 in next_small terms.threads t h none (omega (arith, high, few)) (omega (arith, short, size));
      modest = modest_at terms script (Call t o r ∷ above) h whole;
    } in
    (small_at terms script (Call t o r ∷ above) h whole short, replied terms h t o r can legal.2.reply)

pub whole_small : (terms : Terms) (script : Script) (h : List Item) → IsWhole terms script h → length h + 1 < 2 ^ 32 → AreSmall h
whole_small terms script h whole short = small_at terms script [] h whole short
