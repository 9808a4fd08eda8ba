-- The work of tracers keeps to the rules of helpers: wherever a step leads, what may be there holds and fewer steps are left.
use Rattle.std.proofs.Common.{◌≡◌, ℕ, ◌+◌, ◌-◌, ◌*◌, ◌^◌, ◌<◌, ◌≤◌, Bool, true, false, arith, refl, subst}
use Rattle.std.specs.Prelude.{◌&&◌, nat_lt, if◌then◌else◌, IsSome, Option, Some, None}
use Rattle.lxr_layout.specs.declared.Place.{Place}
use Rattle.lxr_layout.specs.declared.limits.Regions.{Regions}
use Rattle.lxr_helper.specs.Words.{InHeap, IsObject, has_bit, references_in, referent_in}
use Rattle.lxr_helper.specs.Helpers.{Outcome, ends, goes_to, tries_next}
use Rattle.lxr_helper.specs.HelperLaws.{IsInUnit, IsLawful, MayLead}
use Rattle.lxr_helper.proofs.HelperLemmas.{either}
use Rattle.lxr_helper.proofs.WordLemmas.{header_object, referent_within}
use Rattle.lxr_trace.specs.declared.phases.Scan.{Scan}
use Rattle.lxr_trace.specs.declared.phases.TraceEnd.{TraceEnd}
use Rattle.lxr_trace.specs.declared.phases.TraceEnd.TheVariants.{Worked, Nothing, RememberFull}
use Rattle.lxr_trace.specs.declared.phases.TracerPhase.{TracerPhase}
use Rattle.lxr_trace.specs.declared.phases.TracerPhase.TheVariants as phase
use Rattle.lxr_trace.specs.Tracing.{rests_in}
use Rattle.lxr_trace.specs.Words.{counter_in, is_chosen, line_of_field, remember_room}
use Rattle.lxr_trace.specs.Phases.{IsIn, IsScan}
use Rattle.lxr_trace.specs.Steps.{action_in, at_reference, is_nothing, keeps_in, leads_in, left_behind, left_in, question, referred, scan_from_first, scanned, tracer_work}

-- ---- rests and ends

one_rest : (p : TracerPhase) → rests_in p ≡ true → p ≡ phase.Resting
one_rest phase.Resting e = refl
one_rest p e = absurd (cc)

acts : (r : Regions) (p : TracerPhase) → rests_in p ≡ false → IsSome (action_in r p)
acts r phase.Resting busy = absurd (cc)
acts r p busy = refl

one_nothing : (how : TraceEnd) → is_nothing how ≡ true → how ≡ Nothing
one_nothing Worked e = absurd (cc)
one_nothing Nothing e = refl
one_nothing RememberFull e = absurd (cc)

asks : (place : Option Place) → rests_in (question place) ≡ false
asks None = refl
asks (Some place) = refl

-- ---- a unit goes on

abbrev Goes : Outcome TracerPhase TraceEnd → Type 0
Goes o = IsInUnit tracer_work o

at_goes : (scan : Scan) → Goes (at_reference scan)
at_goes scan = either Goes (nat_lt scan.index scan.refs) _ _ (λ e. refl) (λ e. tt)

scanned_goes : (scan : Scan) → Goes (scanned scan)
scanned_goes scan = at_goes (record scan { index = scan.index + 1 })

referred_goes : (scan : Scan) (item : Option Place) → Goes (referred scan item)
referred_goes scan None = scanned_goes scan
referred_goes scan (Some referent) = refl

in_unit : (r : Regions) (p : TracerPhase) (word : ℕ) → rests_in p ≡ false → Goes (leads_in r p word)
in_unit r phase.Resting word busy = absurd (cc)
in_unit r (phase.AsksGray place) word busy = refl
in_unit r (phase.AsksObject place gray) word busy = either Goes (gray && has_bit place word) _ _ (λ e. refl) (λ e. tt)
in_unit r (phase.Marks place) word busy = either Goes (has_bit place word) _ _ (λ e. tt) (λ e. refl)
in_unit r (phase.ReadsShape place) word busy = at_goes (scan_from_first place (references_in r place word))
in_unit r (phase.Scans scan) word busy = referred_goes scan (referent_in r word)
in_unit r (phase.AsksReferent scan referent) word busy = either Goes (has_bit referent word) _ _ (λ e. refl) (λ e. scanned_goes scan)
in_unit r (phase.GraysReferent scan referent) word busy = refl
in_unit r (phase.AsksBlock scan referent) word busy = either Goes (is_chosen word) _ _ (λ e. refl) (λ e. scanned_goes scan)
in_unit r (phase.ReadsReuse scan) word busy = refl
in_unit r (phase.DrawsNumber scan counter) word busy = either Goes (nat_lt word (remember_room r)) _ _ (λ e. refl) (λ e. scanned_goes (record scan { overflowed = true }))
in_unit r (phase.Enters scan counter number) word busy = scanned_goes scan
in_unit r phase.FindsNothing word busy = tt

-- ---- where a step leads

module _ (r : Regions) (m : ℕ) where
  abbrev Leads : ℕ → Outcome TracerPhase TraceEnd → Type 0
  Leads most o = MayLead tracer_work r m most o

  at_leads : (most : ℕ) (scan : Scan) → IsObject r scan.place scan.refs → 7 * (scan.refs - scan.index) < most → Leads most (at_reference scan)
  at_leads most scan object lt =
      either (Leads most) (nat_lt scan.index scan.refs) _ _ (λ e. let below : scan.index < scan.refs = grind arith in (record { object = object; index = below }, omega arith)) (λ e. omega arith)

  scanned_leads : (most : ℕ) (scan : Scan) → IsScan r scan → left_behind scan < most → Leads most (scanned scan)
  scanned_leads most scan may lt = at_leads most (record scan { index = scan.index + 1 }) may.object lt

  referred_leads : (scan : Scan) (item : Option Place) → IsScan r scan → ((referent : Place) → item ≡ Some referent → InHeap r referent) → Leads (left_behind scan + 7) (referred scan item)
  referred_leads scan None may within = scanned_leads (left_behind scan + 7) scan may (omega arith)
  referred_leads scan (Some referent) may within = ((may, within referent refl), omega arith)

  leads : (p : TracerPhase) (word n : ℕ) → IsIn r p → rests_in p ≡ false → (keeps_in p word ≡ None → m ≡ n) → Leads (left_in n p) (leads_in r p word)
  leads phase.Resting word n may busy kept = absurd (cc)
  leads (phase.AsksGray place) word n may busy kept = (may, omega (arith, kept refl))
  leads (phase.AsksObject place gray) word n may busy kept =
      either (Leads (left_in n (phase.AsksObject place gray))) (gray && has_bit place word) _ _ (λ e. (may, omega (arith, kept refl))) (λ e. omega (arith, kept refl))
  leads (phase.Marks place) word n may busy kept = either (Leads (left_in n (phase.Marks place))) (has_bit place word) _ _ (λ e. omega (arith, kept refl)) (λ e. (may, omega arith))
  leads (phase.ReadsShape place) word n may busy kept =
      let object = header_object r place word may in
      at_leads (1 + 7 * 1023) (scan_from_first place (references_in r place word)) object (omega (arith, object.few))
  leads (phase.Scans scan) word n may busy kept = referred_leads scan (referent_in r word) may (λ referent e. referent_within r word referent e)
  leads (phase.AsksReferent scan referent) word n may busy kept =
      either (Leads (left_behind scan + 6)) (has_bit referent word) _ _ (λ e. (may, omega arith)) (λ e. scanned_leads (left_behind scan + 6) scan may.0 (omega arith))
  leads (phase.GraysReferent scan referent) word n may busy kept = (may, omega arith)
  leads (phase.AsksBlock scan referent) word n may busy kept =
      either (Leads (left_behind scan + 4)) (is_chosen word) _ _ (λ e. (may.0, omega arith)) (λ e. scanned_leads (left_behind scan + 4) scan may.0 (omega arith))
  leads (phase.ReadsReuse scan) word n may busy kept = ((may, omega arith), omega arith)
  leads (phase.DrawsNumber scan counter) word n may busy kept =
      either (Leads (left_behind scan + 2)) (nat_lt word (remember_room r)) _ _ (λ e. ((may.0, (may.1, grind arith)), omega arith))
      (λ e. scanned_leads (left_behind scan + 2) (record scan { overflowed = true }) (record { object = may.0.object; index = may.0.index }) (omega arith))
  leads (phase.Enters scan counter number) word n may busy kept = scanned_leads (left_behind scan + 1) scan may.0 (omega arith)
  leads phase.FindsNothing word n may busy kept = omega arith

-- ---- places that are kept

kept_by : (r : Regions) (referent place : Place) (b : Bool) → InHeap r referent → (if b then None else Some referent) ≡ Some place → InHeap r place
kept_by r referent place true within e = absurd (cc)
kept_by r referent place false within e = let same : referent ≡ place = cc in subst (InHeap r) same within

keeps : (r : Regions) (p : TracerPhase) (word : ℕ) (place : Place) → IsIn r p → keeps_in p word ≡ Some place → InHeap r place
keeps r (phase.GraysReferent scan referent) word place may e = kept_by r referent place (has_bit referent word) may.1 e
keeps r p word place may e = absurd (cc)

-- ---- few steps are left in each phase

scan_few : (r : Regions) (scan : Scan) → IsScan r scan → left_behind scan ≤ 7154
scan_few r scan may = omega (arith, may.object.few, may.index)

few : (r : Regions) (p : TracerPhase) (n : ℕ) → n ≤ 64 → IsIn r p → left_in n p ≤ 8192
few r (phase.Scans scan) n pocket may = omega (arith, scan_few r scan may)
few r (phase.AsksReferent scan referent) n pocket may = omega (arith, scan_few r scan may.0)
few r (phase.GraysReferent scan referent) n pocket may = omega (arith, scan_few r scan may.0)
few r (phase.AsksBlock scan referent) n pocket may = omega (arith, scan_few r scan may.0)
few r (phase.ReadsReuse scan) n pocket may = omega (arith, scan_few r scan may)
few r (phase.DrawsNumber scan counter) n pocket may = omega (arith, scan_few r scan may.0)
few r (phase.Enters scan counter number) n pocket may = omega (arith, scan_few r scan may.0)
few r p n pocket may = omega arith

pub tracer_lawful : IsLawful tracer_work
tracer_lawful = record {
  resting = refl;
  one_rest = one_rest;
  may_rest = λ r. tt;
  acts = acts;
  nothing = refl;
  one_nothing = one_nothing;
  asks = asks;
  may_ask = λ r place within. within;
  may_turn = λ r. tt;
  ask_nearer = λ n m place lt. omega arith;
  turn_nearer = λ n m. omega arith;
  in_unit = in_unit;
  leads = λ r p word n m indexes may busy kept. leads r m p word n may busy kept;
  keeps = keeps;
  few = few;
}
