-- A whole unit, from its first step on: what is left of a unit in each phase makes the whole, together with the step of that phase.
use Rattle.std.proofs.Common.{◌≡◌, ◌∙◌, ℕ, ◌+◌, ◌<◌, ◌≤◌, Bool, true, false, List, [], ◌∷◌, ◌++◌, arith, refl, ap, sym, subst}
use Rattle.std.specs.Prelude.{◌&&◌, ◌||◌, nat_lt, if◌then◌else◌, Option, Some, None}
use Rattle.lxr_layout.specs.declared.Place.{Place}
use Rattle.lxr_layout.specs.declared.limits.Regions.{Regions}
use Rattle.lxr_base.specs.Roomy.{Roomy, pushed}
use Rattle.lxr_actor.specs.declared.Action.{Action}
use Rattle.lxr_helper.specs.Words.{has_bit, references_in, referent_in}
use Rattle.lxr_helper.specs.Looks.{graying, header_look, reference_look, start_look, tracing_look}
use Rattle.lxr_helper.specs.Pockets.{kept}
use Rattle.lxr_helper.specs.Units.{Told, told}
use Rattle.lxr_helper.specs.HelperUnits as whole_unit
use Rattle.lxr_helper.specs.Helpers.{Outcome, ends, goes_to}
use Rattle.lxr_helper.specs.Helpers as helper
use Rattle.lxr_helper.proofs.HelperUnitLemmas as lemma
use Rattle.lxr_trace.specs.declared.phases.Scan.{Scan}
use Rattle.lxr_trace.specs.declared.phases.TraceEnd.{TraceEnd}
use Rattle.lxr_trace.specs.declared.phases.TraceEnd.TheVariants.{Nothing}
use Rattle.lxr_trace.specs.declared.phases.TracerPhase.{TracerPhase}
use Rattle.lxr_trace.specs.declared.phases.TracerPhase.TheVariants as phase
use Rattle.lxr_trace.specs.Tracing.{TracerState, rests_in}
use Rattle.lxr_trace.specs.Words.{counter_in, is_chosen, line_of_field, remember_room}
use Rattle.lxr_trace.specs.Steps.{action_in, at_reference, drawing, end_of, entering, gray_look, keeps_in, marking, question, referred, reuse_look, scan_from_first, scanned, state_look, tracer_work}
use Rattle.lxr_trace.specs.Units.{FindsNothing, LooksAtBlock, RemembersField, ScansFrom, ScansObject, ScansReferent}
use Rattle.lxr_trace.specs.Units as unit
use Rattle.lxr_trace.specs.Lawful.{tracer_lawful}
use Rattle.lxr_trace.specs.Laws.{UnitsEndByRules}

-- ---- what is left of a unit

-- the rest of a unit that began with this pocket ends by the rules
abbrev Finishes : Regions → Roomy Place → List Told → TracerState → Type 0
Finishes r pocket ts t' = lemma.Finishes tracer_work gray_look has_bit marking ScansObject FindsNothing r pocket ts t'

-- an object is scanned whole
abbrev ScansWhole : Regions → Place → Roomy Place → List Told → TracerState → Type 0
ScansWhole r place pocket ts t' = (how : TraceEnd) × (t'.end ≡ Some how) × ScansObject r place pocket ts t'.pocket how

-- the references from that of a scan on are scanned
record ScansOn (r : Regions) (scan : Scan) (pocket : Roomy Place) (ts : List Told) (t' : TracerState) : Type 0 where
  past : Bool
  end : t'.end ≡ Some (end_of (scan.overflowed || past))
  scans : ScansFrom r scan.place scan.refs scan.index pocket ts t'.pocket past

-- the reference of a scan is done with by steps of this kind, and then those behind it are scanned
record GoesBehind (r : Regions) (scan : Scan) (pocket : Roomy Place) (Steps : List Told → Bool → Type 0) (ts : List Told) (t' : TracerState) : Type 0 where
  first : List Told
  others : List Told
  here : Bool
  later : Bool
  split : ts ≡ first ++ others
  does : Steps first here
  end : t'.end ≡ Some (end_of (scan.overflowed || (here || later)))
  scans : ScansFrom r scan.place scan.refs (scan.index + 1) pocket others t'.pocket later

-- the field of a scan is remembered, but for the steps that were done
abbrev Remembers : Regions → Scan → List Told → List Told → Bool → Type 0
Remembers r scan before ts here = RemembersField r scan.place scan.index (before ++ ts) here

-- the reference of a scan is one of its object's
abbrev IsWithin : Scan → Type 0
IsWithin scan = scan.index < scan.refs

-- the steps ts are the rest of the unit of a tracer in this phase, whatever it found before
abbrev Rest : TracerState → TracerPhase → List Told → TracerState → Type 0
Rest t phase.Resting ts t' = (ts ≡ []) × (t' ≡ t)
Rest t (phase.AsksGray place) ts t' = Finishes t.regions (pushed t.pocket place) ts t'
Rest t (phase.AsksObject place gray) ts t' = (g : ℕ) → has_bit place g ≡ gray → Finishes t.regions (pushed t.pocket place) (told (gray_look t.regions place) g ∷ ts) t'
Rest t (phase.Marks place) ts t' = (g s : ℕ) → has_bit place g ≡ true → has_bit place s ≡ true
    → Finishes t.regions (pushed t.pocket place) (told (gray_look t.regions place) g ∷ told (start_look t.regions place) s ∷ ts) t'
Rest t (phase.ReadsShape place) ts t' = ScansWhole t.regions place t.pocket ts t'
Rest t (phase.Scans scan) ts t' = IsWithin scan → ScansOn t.regions scan t.pocket ts t'
Rest t (phase.AsksReferent scan referent) ts t' = IsWithin scan → (word : ℕ) → referent_in t.regions word ≡ Some referent
    → ScansOn t.regions scan t.pocket (told (reference_look t.regions scan.place scan.index) word ∷ ts) t'
Rest t (phase.GraysReferent scan referent) ts t' = IsWithin scan → (word s : ℕ) → referent_in t.regions word ≡ Some referent → has_bit referent s ≡ true
    → ScansOn t.regions scan t.pocket (told (reference_look t.regions scan.place scan.index) word ∷ told (start_look t.regions referent) s ∷ ts) t'
Rest t (phase.AsksBlock scan referent) ts t' = IsWithin scan → GoesBehind t.regions scan t.pocket (LooksAtBlock t.regions scan.place scan.index referent) ts t'
Rest t (phase.ReadsReuse scan) ts t' = IsWithin scan → GoesBehind t.regions scan t.pocket (Remembers t.regions scan []) ts t'
Rest t (phase.DrawsNumber scan counter) ts t' = IsWithin scan → (c : ℕ) → counter_in c (line_of_field scan.place scan.index) ≡ counter
    → GoesBehind t.regions scan t.pocket (Remembers t.regions scan (told (reuse_look t.regions scan.place scan.index) c ∷ [])) ts t'
Rest t (phase.Enters scan counter number) ts t' = IsWithin scan → (c : ℕ) → counter_in c (line_of_field scan.place scan.index) ≡ counter → number < remember_room t.regions
    → GoesBehind t.regions scan t.pocket (Remembers t.regions scan (told (reuse_look t.regions scan.place scan.index) c ∷ told (drawing t.regions) number ∷ [])) ts t'
Rest t phase.FindsNothing ts t' = t.pocket.items ≡ [] → Finishes t.regions t.pocket ts t'

-- where a step leads, with what is kept
abbrev led : TracerState → Outcome TracerPhase TraceEnd → TracerState
led t o = helper.led tracer_work t o

abbrev keeping : TracerState → Option Place → TracerState
keeping t item = helper.keeping tracer_work t item

abbrev through : TracerState → TraceEnd → TracerState
through t how = helper.through tracer_work t how

-- what is left of a tracer's unit
abbrev RestOf : TracerState → List Told → TracerState → Type 0
RestOf t ts t' = Rest t t.phase ts t'

-- ---- an empty pocket

nothing_found : (t : TracerState) (word : ℕ) (ts : List Told) (t' : TracerState) → t.pocket.items ≡ [] → RestOf (through t Nothing) ts t'
    → Finishes t.regions t.pocket (told (tracing_look t.regions) word ∷ ts) t'
nothing_found t word ts t' none rest =
    let whole : Finishes t.regions t.pocket (told (tracing_look t.regions) word ∷ []) (through t Nothing) =
    record { how = Nothing; end = refl; does = whole_unit.turns t.pocket t.pocket (told (tracing_look t.regions) word ∷ []) Nothing none (unit.finds_nothing word) } in
    subst (λ (x : TracerState). Finishes t.regions t.pocket (told (tracing_look t.regions) word ∷ ts) x) (sym rest.1)
    (subst (λ us. Finishes t.regions t.pocket (told (tracing_look t.regions) word ∷ us) (through t Nothing)) (sym rest.0) whole)

-- ---- references

or_false : (b : Bool) → b || false ≡ b
or_false true = refl
or_false false = refl

or_true : (b : Bool) → b || true ≡ true
or_true true = refl
or_true false = refl

-- the references from that of a scan on, or none where it is behind the last
at_by : (t : TracerState) (scan : Scan) (ts : List Told) (t' : TracerState) → scan.index ≤ scan.refs → (b : Bool) → nat_lt scan.index scan.refs ≡ b
    → RestOf (led t (if b then goes_to (phase.Scans scan) else ends (end_of scan.overflowed))) ts t' → ScansOn t.regions scan t.pocket ts t'
at_by t scan ts t' le true e rest = rest (grind arith)
at_by t scan ts t' le false e rest =
    let last : scan.refs ≡ scan.index = grind arith in
    let whole : ScansFrom t.regions scan.place scan.refs scan.refs t.pocket [] t.pocket false = unit.through t.pocket in
    let at : ScansFrom t.regions scan.place scan.refs scan.index t.pocket [] t.pocket false =
    subst (λ n. ScansFrom t.regions scan.place scan.refs n t.pocket [] t.pocket false) last whole in
    record {
      past = false;
      end = ap (λ (x : TracerState). x.end) rest.1 ∙ ap (λ b. Some (end_of b)) (sym (or_false scan.overflowed));
      scans = subst (λ (x : TracerState). ScansFrom t.regions scan.place scan.refs scan.index t.pocket ts x.pocket false) (sym rest.1)
          (subst (λ us. ScansFrom t.regions scan.place scan.refs scan.index t.pocket us t.pocket false) (sym rest.0) at);
    }

at_rest : (t : TracerState) (scan : Scan) (ts : List Told) (t' : TracerState) → scan.index ≤ scan.refs → RestOf (led t (at_reference scan)) ts t' → ScansOn t.regions scan t.pocket ts t'
at_rest t scan ts t' le rest = at_by t scan ts t' le (nat_lt scan.index scan.refs) refl rest

behind : (t : TracerState) (scan : Scan) (ts : List Told) (t' : TracerState) → IsWithin scan → RestOf (led t (scanned scan)) ts t'
    → ScansOn t.regions (record scan { index = scan.index + 1 }) t.pocket ts t'
behind t scan ts t' lt rest = at_rest t (record scan { index = scan.index + 1 }) ts t' (omega arith) rest

-- a reference that was scanned in these steps comes before the others
next_reference : (r : Regions) (scan : Scan) (pocket between : Roomy Place) (word : ℕ) (item : Option Place) (first others : List Told) (here later : Bool) (t' : TracerState)
    → IsWithin scan → referent_in r word ≡ item → ScansReferent r scan.place scan.index pocket item first between here
    → t'.end ≡ Some (end_of (scan.overflowed || (here || later))) → ScansFrom r scan.place scan.refs (scan.index + 1) between others t'.pocket later
    → ScansOn r scan pocket (told (reference_look r scan.place scan.index) word ∷ (first ++ others)) t'
next_reference r scan pocket between word item first others here later t' lt e scans end rest = record {
  past = here || later;
  end = end;
  scans = unit.next scan.index pocket between t'.pocket word first others here later lt
      (subst (λ i. ScansReferent r scan.place scan.index pocket i first between here) (sym e) scans) rest;
}

-- steps that found that the set has room, or that nothing is to be remembered, come before the others
stays_within : (t : TracerState) (scan : Scan) (Steps : List Told → Bool → Type 0) (first ts : List Told) (t' : TracerState) → IsWithin scan → Steps first false
    → RestOf (led t (scanned scan)) ts t' → GoesBehind t.regions scan t.pocket Steps (first ++ ts) t'
stays_within t scan Steps first ts t' lt does rest =
    let on = behind t scan ts t' lt rest in
    record { first = first; others = ts; here = false; later = on.past; split = refl; does = does; end = on.end; scans = on.scans }

-- and so do those that found that it has none
goes_past : (t : TracerState) (scan : Scan) (Steps : List Told → Bool → Type 0) (first ts : List Told) (t' : TracerState) → IsWithin scan → Steps first true
    → RestOf (led t (scanned (record scan { overflowed = true }))) ts t' → GoesBehind t.regions scan t.pocket Steps (first ++ ts) t'
goes_past t scan Steps first ts t' lt does rest =
    let on = behind t (record scan { overflowed = true }) ts t' lt rest in
    record {
      first = first;
      others = ts;
      here = true;
      later = on.past;
      split = refl;
      does = does;
      end = on.end ∙ ap (λ b. Some (end_of b)) (sym (or_true scan.overflowed));
      scans = on.scans;
    }

-- a step comes before those by which a reference is done with
step_before : (r : Regions) (scan : Scan) (pocket : Roomy Place) (step : Told) (Steps All : List Told → Bool → Type 0) (ts : List Told) (t' : TracerState)
    → ((us : List Told) (here : Bool) → Steps us here → All (step ∷ us) here) → GoesBehind r scan pocket Steps ts t' → GoesBehind r scan pocket All (step ∷ ts) t'
step_before r scan pocket step Steps All ts t' makes rest = record {
  first = step ∷ rest.first;
  others = rest.others;
  here = rest.here;
  later = rest.later;
  split = ap (λ us. step ∷ us) rest.split;
  does = makes rest.first rest.here rest.does;
  end = rest.end;
  scans = rest.scans;
}

referred_by : (t : TracerState) (scan : Scan) (word : ℕ) (ts : List Told) (t' : TracerState) → IsWithin scan → (item : Option Place) → referent_in t.regions word ≡ item
    → RestOf (led t (referred scan item)) ts t' → ScansOn t.regions scan t.pocket (told (reference_look t.regions scan.place scan.index) word ∷ ts) t'
referred_by t scan word ts t' lt None e rest =
    let on = behind t scan ts t' lt rest in
    next_reference t.regions scan t.pocket t.pocket word None [] ts false on.past t' lt e unit.nil on.end on.scans
referred_by t scan word ts t' lt (Some referent) e rest = rest lt word e

referent_by : (t : TracerState) (scan : Scan) (referent : Place) (word s : ℕ) (ts : List Told) (t' : TracerState) → IsWithin scan → referent_in t.regions word ≡ Some referent
    → (b : Bool) → has_bit referent s ≡ b → RestOf (led t (if b then goes_to (phase.GraysReferent scan referent) else scanned scan)) ts t'
    → ScansOn t.regions scan t.pocket (told (reference_look t.regions scan.place scan.index) word ∷ told (start_look t.regions referent) s ∷ ts) t'
referent_by t scan referent word s ts t' lt e true f rest = rest lt word s e f
referent_by t scan referent word s ts t' lt e false f rest =
    let on = behind t scan ts t' lt rest in
    next_reference t.regions scan t.pocket t.pocket word (Some referent) (told (start_look t.regions referent) s ∷ []) ts false on.past t' lt e
    (unit.young referent s f) on.end on.scans

grayed_rest : (t : TracerState) (scan : Scan) (referent : Place) (word s g : ℕ) (ts : List Told) (t' : TracerState) → IsWithin scan
    → referent_in t.regions word ≡ Some referent → has_bit referent s ≡ true
    → GoesBehind t.regions scan (if has_bit referent g then t.pocket else kept t.pocket referent) (LooksAtBlock t.regions scan.place scan.index referent) ts t'
    → ScansOn t.regions scan t.pocket
    (told (reference_look t.regions scan.place scan.index) word ∷ told (start_look t.regions referent) s ∷ told (graying t.regions referent) g ∷ ts) t'
grayed_rest t scan referent word s g ts t' lt e start on =
    subst (λ us. ScansOn t.regions scan t.pocket
    (told (reference_look t.regions scan.place scan.index) word ∷ told (start_look t.regions referent) s ∷ told (graying t.regions referent) g ∷ us) t') (sym on.split)
    (next_reference t.regions scan t.pocket (if has_bit referent g then t.pocket else kept t.pocket referent) word (Some referent)
    (told (start_look t.regions referent) s ∷ told (graying t.regions referent) g ∷ on.first) on.others on.here on.later t' lt e
    (unit.finds referent s g on.first on.here start on.does) on.end on.scans)

-- a referent that wasn't gray before is put into the pocket
kept_pocket : (t : TracerState) (referent : Place) (b : Bool) → (keeping t (if b then None else Some referent)).pocket ≡ (if b then t.pocket else kept t.pocket referent)
kept_pocket t referent true = refl
kept_pocket t referent false = refl

kept_regions : (t : TracerState) (item : Option Place) → (keeping t item).regions ≡ t.regions
kept_regions t None = refl
kept_regions t (Some place) = refl

kept_rest : (t : TracerState) (scan : Scan) (referent : Place) (g : ℕ) (ts : List Told) (t' : TracerState) → let k = keeping t (keeps_in (phase.GraysReferent scan referent) g) in
    GoesBehind k.regions scan k.pocket (LooksAtBlock k.regions scan.place scan.index referent) ts t'
    → GoesBehind t.regions scan (if has_bit referent g then t.pocket else kept t.pocket referent) (LooksAtBlock t.regions scan.place scan.index referent) ts t'
kept_rest t scan referent g ts t' on =
    let k = keeping t (keeps_in (phase.GraysReferent scan referent) g) in
    subst (λ pocket. GoesBehind t.regions scan pocket (LooksAtBlock t.regions scan.place scan.index referent) ts t') (kept_pocket t referent (has_bit referent g))
    (subst (λ r. GoesBehind r scan k.pocket (LooksAtBlock r scan.place scan.index referent) ts t') (kept_regions t (keeps_in (phase.GraysReferent scan referent) g)) on)

block_by : (t : TracerState) (scan : Scan) (referent : Place) (b : ℕ) (ts : List Told) (t' : TracerState) → IsWithin scan → (c : Bool) → is_chosen b ≡ c
    → RestOf (led t (if c then goes_to (phase.ReadsReuse scan) else scanned scan)) ts t'
    → GoesBehind t.regions scan t.pocket (LooksAtBlock t.regions scan.place scan.index referent) (told (state_look t.regions referent) b ∷ ts) t'
block_by t scan referent b ts t' lt true e rest =
    step_before t.regions scan t.pocket (told (state_look t.regions referent) b) (Remembers t.regions scan []) (LooksAtBlock t.regions scan.place scan.index referent) ts t'
    (λ us here remembers. unit.chosen b us here e remembers) (rest lt)
block_by t scan referent b ts t' lt false e rest =
    stays_within t scan (LooksAtBlock t.regions scan.place scan.index referent) (told (state_look t.regions referent) b ∷ []) ts t' lt (unit.other b e) rest

drawn_by : (t : TracerState) (scan : Scan) (counter c number : ℕ) (ts : List Told) (t' : TracerState) → IsWithin scan
    → counter_in c (line_of_field scan.place scan.index) ≡ counter → (b : Bool) → nat_lt number (remember_room t.regions) ≡ b
    → RestOf (led t (if b then goes_to (phase.Enters scan counter number) else scanned (record scan { overflowed = true }))) ts t'
    → GoesBehind t.regions scan t.pocket (Remembers t.regions scan (told (reuse_look t.regions scan.place scan.index) c ∷ [])) (told (drawing t.regions) number ∷ ts) t'
drawn_by t scan counter c number ts t' lt e true f rest =
    step_before t.regions scan t.pocket (told (drawing t.regions) number)
    (Remembers t.regions scan (told (reuse_look t.regions scan.place scan.index) c ∷ told (drawing t.regions) number ∷ []))
    (Remembers t.regions scan (told (reuse_look t.regions scan.place scan.index) c ∷ [])) ts t' (λ us here remembers. remembers) (rest lt c e (grind arith))
drawn_by t scan counter c number ts t' lt e false f rest =
    goes_past t scan (Remembers t.regions scan (told (reuse_look t.regions scan.place scan.index) c ∷ [])) (told (drawing t.regions) number ∷ []) ts t' lt
    (unit.is_past c number (grind arith)) rest

entered_rest : (t : TracerState) (scan : Scan) (counter c number old : ℕ) (ts : List Told) (t' : TracerState) → IsWithin scan
    → counter_in c (line_of_field scan.place scan.index) ≡ counter → number < remember_room t.regions → RestOf (led t (scanned scan)) ts t'
    → GoesBehind t.regions scan t.pocket (Remembers t.regions scan (told (reuse_look t.regions scan.place scan.index) c ∷ told (drawing t.regions) number ∷ []))
    (told (entering t.regions number counter scan.place scan.index) old ∷ ts) t'
entered_rest t scan counter c number old ts t' lt e room rest =
    let steps = Remembers t.regions scan (told (reuse_look t.regions scan.place scan.index) c ∷ told (drawing t.regions) number ∷ []) in
    let does : steps (told (entering t.regions number (counter_in c (line_of_field scan.place scan.index)) scan.place scan.index) old ∷ []) false = unit.enters c number old room in
    stays_within t scan steps (told (entering t.regions number counter scan.place scan.index) old ∷ []) ts t' lt
    (subst (λ n. steps (told (entering t.regions number n scan.place scan.index) old ∷ []) false) e does) rest

-- ---- steps

-- a unit that begins with a place, or with none, makes a whole
asked : (t : TracerState) (place : Place) (ts : List Told) (t' : TracerState) → Rest t (phase.AsksGray place) ts t' → Finishes t.regions (pushed t.pocket place) ts t'
asked t place ts t' rest = rest

turned : (t : TracerState) (ts : List Told) (t' : TracerState) → t.pocket.items ≡ [] → Rest t phase.FindsNothing ts t' → Finishes t.regions t.pocket ts t'
turned t ts t' none rest = rest none

-- the step of each phase, before what is left after it
rest_before : (t : TracerState) (p : TracerPhase) (act : Action) (word : ℕ) (ts : List Told) (t' : TracerState) → action_in t.regions p ≡ Some act
    → RestOf (helper.after_in tracer_work t p word) ts t' → Rest t p (told act word ∷ ts) t'
rest_before t phase.Resting act word ts t' does rest = absurd (cc)
rest_before t (phase.AsksGray place) act word ts t' does rest =
    let is : gray_look t.regions place ≡ act = cc in
    subst (λ a. Rest t (phase.AsksGray place) (told a word ∷ ts) t') is (rest word refl)
rest_before t (phase.AsksObject place gray) act word ts t' does rest =
    let is : start_look t.regions place ≡ act = cc in
    subst (λ a. Rest t (phase.AsksObject place gray) (told a word ∷ ts) t') is (λ g was. lemma.start_by tracer_work gray_look has_bit marking ScansObject FindsNothing Rest asked turned t place (phase.Marks place) g word ts t' gray (has_bit place word) was refl (λ gray start on. on g word gray start) rest)
rest_before t (phase.Marks place) act word ts t' does rest =
    let is : marking t.regions place ≡ act = cc in
    subst (λ a. Rest t (phase.Marks place) (told a word ∷ ts) t') is (λ g s gray start. lemma.claim_by tracer_work gray_look has_bit marking ScansObject FindsNothing Rest asked turned t place (phase.ReadsShape place) g s word ts t' gray start (has_bit place word) refl (λ on. on) rest)
rest_before t (phase.ReadsShape place) act word ts t' does rest =
    let is : header_look t.regions place ≡ act = cc in
    let on = at_rest t (scan_from_first place (references_in t.regions place word)) ts t' (omega arith) rest in
    let whole : ScansWhole t.regions place t.pocket (told (header_look t.regions place) word ∷ ts) t' =
    (end_of on.past, on.end, unit.scans word ts t'.pocket on.past on.scans) in
    subst (λ a. Rest t (phase.ReadsShape place) (told a word ∷ ts) t') is whole
rest_before t (phase.Scans scan) act word ts t' does rest =
    let is : reference_look t.regions scan.place scan.index ≡ act = cc in
    subst (λ a. Rest t (phase.Scans scan) (told a word ∷ ts) t') is (λ lt. referred_by t scan word ts t' lt (referent_in t.regions word) refl rest)
rest_before t (phase.AsksReferent scan referent) act word ts t' does rest =
    let is : start_look t.regions referent ≡ act = cc in
    subst (λ a. Rest t (phase.AsksReferent scan referent) (told a word ∷ ts) t') is
    (λ lt w e. referent_by t scan referent w word ts t' lt e (has_bit referent word) refl rest)
rest_before t (phase.GraysReferent scan referent) act word ts t' does rest =
    let is : graying t.regions referent ≡ act = cc in
    subst (λ a. Rest t (phase.GraysReferent scan referent) (told a word ∷ ts) t') is
    (λ lt w s e start. grayed_rest t scan referent w s word ts t' lt e start (kept_rest t scan referent word ts t' (rest lt)))
rest_before t (phase.AsksBlock scan referent) act word ts t' does rest =
    let is : state_look t.regions referent ≡ act = cc in
    subst (λ a. Rest t (phase.AsksBlock scan referent) (told a word ∷ ts) t') is (λ lt. block_by t scan referent word ts t' lt (is_chosen word) refl rest)
rest_before t (phase.ReadsReuse scan) act word ts t' does rest =
    let is : reuse_look t.regions scan.place scan.index ≡ act = cc in
    subst (λ a. Rest t (phase.ReadsReuse scan) (told a word ∷ ts) t') is
    (λ lt. step_before t.regions scan t.pocket (told (reuse_look t.regions scan.place scan.index) word)
    (Remembers t.regions scan (told (reuse_look t.regions scan.place scan.index) word ∷ [])) (Remembers t.regions scan []) ts t'
    (λ us here remembers. remembers) (rest lt word refl))
rest_before t (phase.DrawsNumber scan counter) act word ts t' does rest =
    let is : drawing t.regions ≡ act = cc in
    subst (λ a. Rest t (phase.DrawsNumber scan counter) (told a word ∷ ts) t') is
    (λ lt c e. drawn_by t scan counter c word ts t' lt e (nat_lt word (remember_room t.regions)) refl rest)
rest_before t (phase.Enters scan counter number) act word ts t' does rest =
    let is : entering t.regions number counter scan.place scan.index ≡ act = cc in
    subst (λ a. Rest t (phase.Enters scan counter number) (told a word ∷ ts) t') is
    (λ lt c e room. entered_rest t scan counter c number word ts t' lt e room rest)
rest_before t phase.FindsNothing act word ts t' does rest =
    let is : tracing_look t.regions ≡ act = cc in
    subst (λ a. Rest t phase.FindsNothing (told a word ∷ ts) t') is (λ none. nothing_found t word ts t' none rest)

-- ---- runs

-- each unit ends by the rules
pub end_by_rules : UnitsEndByRules
end_by_rules t t' ts rests runs = lemma.end_by_rules tracer_work gray_look has_bit marking ScansObject FindsNothing Rest asked turned tracer_lawful rest_before (λ h. (refl, refl)) t t' ts rests runs
