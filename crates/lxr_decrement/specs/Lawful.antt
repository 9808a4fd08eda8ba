-- The work of decrementers keeps to the rules of helpers: wherever a step leads, what may be there holds and fewer steps are left.
use Rattle.std.proofs.Common.{◌≡◌, ℕ, ◌+◌, ◌-◌, ◌*◌, ◌<◌, ◌≤◌, Bool, true, false, arith, refl, subst}
use Rattle.std.specs.Prelude.{◌&&◌, ◌||◌, nat_eq, nat_le, nat_lt, if◌then◌else◌, IsSome, Option, Some, None}
use Rattle.lxr_layout.specs.declared.TheConstants.{STUCK}
use Rattle.lxr_layout.specs.declared.Place.{Place}
use Rattle.lxr_layout.specs.declared.limits.Regions.{Regions}
use Rattle.lxr_helper.specs.Words.{InHeap, IsObject, has_bit, referent_in}
use Rattle.lxr_helper.specs.Helpers.{Outcome, ends, goes_to, tries_next}
use Rattle.lxr_helper.specs.HelperLaws.{IsInUnit, IsLawful, MayLead}
use Rattle.lxr_helper.proofs.HelperLemmas.{either}
use Rattle.lxr_helper.proofs.WordLemmas.{header_object, referent_within}
use Rattle.lxr_decrement.specs.declared.phases.DecEnd.{DecEnd}
use Rattle.lxr_decrement.specs.declared.phases.DecEnd.TheVariants.{Worked, Nothing}
use Rattle.lxr_decrement.specs.declared.phases.Handling.{Handling}
use Rattle.lxr_decrement.specs.declared.phases.Handling.TheVariants.{Entry, References}
use Rattle.lxr_decrement.specs.declared.phases.DecrementerPhase.{DecrementerPhase}
use Rattle.lxr_decrement.specs.declared.phases.DecrementerPhase.TheVariants as phase
use Rattle.lxr_decrement.specs.Decrementing.{rests_in}
use Rattle.lxr_decrement.specs.Words.{count_in, listed_in}
use Rattle.lxr_decrement.specs.Phases.{IsHandled, IsIn}
use Rattle.lxr_decrement.specs.Steps.{action_in, decrementer_work, entered, handled, is_nothing, keeps_in, leads_in, left_handling, left_in, question, referred}

-- ---- rests and ends

one_rest : (p : DecrementerPhase) → rests_in p ≡ true → p ≡ phase.Resting
one_rest phase.Resting e = refl
one_rest p e = absurd (cc)

acts : (r : Regions) (p : DecrementerPhase) → rests_in p ≡ false → IsSome (action_in r p)
acts r phase.Resting busy = absurd (cc)
acts r p busy = refl

one_nothing : (how : DecEnd) → is_nothing how ≡ true → how ≡ Nothing
one_nothing Worked e = absurd (cc)
one_nothing Nothing e = refl

asks : (place : Option Place) → rests_in (question place) ≡ false
asks None = refl
asks (Some place) = refl

-- ---- a unit goes on

abbrev Goes : Outcome DecrementerPhase DecEnd → Type 0
Goes o = IsInUnit decrementer_work o

handled_goes : (handling : Handling) → Goes (handled handling)
handled_goes Entry = tt
handled_goes (References place refs next traced) = either Goes (nat_lt next refs) _ _ (λ e. refl) (λ e. tt)

referred_goes : (place : Place) (refs index : ℕ) (traced : Bool) (item : Option Place) → Goes (referred place refs index traced item)
referred_goes place refs index traced None = handled_goes (References place refs (index + 1) traced)
referred_goes place refs index false (Some referent) = refl
referred_goes place refs index true (Some referent) = refl

entered_goes : (item : Option Place) → Goes (entered item)
entered_goes None = tt
entered_goes (Some referent) = refl

in_unit : (r : Regions) (p : DecrementerPhase) (word : ℕ) → rests_in p ≡ false → Goes (leads_in r p word)
in_unit r phase.Resting word busy = absurd (cc)
in_unit r (phase.AsksCount place) word busy = refl
in_unit r (phase.AsksStart place uncounted) word busy = either Goes (uncounted && has_bit place word) _ _ (λ e. refl) (λ e. tt)
in_unit r (phase.Claims place) word busy = either Goes (has_bit place word) _ _ (λ e. tt) (λ e. refl)
in_unit r (phase.ReadsHeader place) word busy = refl
in_unit r (phase.AsksTracing place refs) word busy = handled_goes (References place refs 0 (nat_eq word 1))
in_unit r (phase.ReadsReference place refs index traced) word busy = referred_goes place refs index traced (referent_in r word)
in_unit r (phase.MakesGray place refs index referent) word busy = refl
in_unit r (phase.AsksLowered referent handling) word busy =
    either Goes (nat_eq (count_in referent word) 0 || nat_eq (count_in referent word) STUCK) _ _ (λ e. handled_goes handling) (λ e. refl)
in_unit r (phase.Lowers referent handling) word busy = handled_goes handling
in_unit r phase.AsksCursor word busy = refl
in_unit r (phase.AsksNumber cursor) word busy = either Goes (nat_lt cursor (listed_in r word)) _ _ (λ e. refl) (λ e. tt)
in_unit r (phase.Draws count) word busy = either Goes (nat_lt word count) _ _ (λ e. refl) (λ e. tt)
in_unit r (phase.ReadsEntry number) word busy = entered_goes (referent_in r word)

-- ---- where a step leads

listed_by : (r : Regions) (word : ℕ) → (b : Bool) → nat_le (r.decs + word) r.remembered ≡ b → (cursor : ℕ) → cursor < (if b then word else 0)
    → r.decs + (if b then word else 0) ≤ r.remembered
listed_by r word true e cursor lt = grind arith
listed_by r word false e cursor lt = absurd (omega arith)

-- where an entry is listed, the list lies in its table
listed_within : (r : Regions) (word cursor : ℕ) → cursor < listed_in r word → r.decs + listed_in r word ≤ r.remembered
listed_within r word cursor lt = listed_by r word (nat_le (r.decs + word) r.remembered) refl cursor lt

module _ (r : Regions) (m : ℕ) where
  abbrev Leads : ℕ → Outcome DecrementerPhase DecEnd → Type 0
  Leads most o = MayLead decrementer_work r m most o

  handled_leads : (most : ℕ) (handling : Handling) → IsHandled r handling → left_handling handling < most → Leads most (handled handling)
  handled_leads most Entry may lt = lt
  handled_leads most (References place refs next traced) may lt = either (Leads most) (nat_lt next refs) _ _ (λ e. ((may.0, grind arith), lt)) (λ e. omega arith)

  referred_leads : (place : Place) (refs index : ℕ) (traced : Bool) (item : Option Place) → IsObject r place refs → index < refs
      → ((referent : Place) → item ≡ Some referent → InHeap r referent) → Leads (4 * (refs - index)) (referred place refs index traced item)
  referred_leads place refs index traced None object lt within = handled_leads (4 * (refs - index)) (References place refs (index + 1) traced) (object, omega arith) (omega arith)
  referred_leads place refs index false (Some referent) object lt within = ((within referent refl, (object, omega arith)), omega arith)
  referred_leads place refs index true (Some referent) object lt within = ((object, (lt, within referent refl)), omega arith)

  entered_leads : (item : Option Place) → ((referent : Place) → item ≡ Some referent → InHeap r referent) → Leads 3 (entered item)
  entered_leads None within = omega arith
  entered_leads (Some referent) within = ((within referent refl, tt), omega arith)

  leads : (p : DecrementerPhase) (word n : ℕ) → IsIn r p → rests_in p ≡ false → (keeps_in p word ≡ None → m ≡ n) → Leads (left_in n p) (leads_in r p word)
  leads phase.Resting word n may busy kept = absurd (cc)
  leads (phase.AsksCount place) word n may busy kept = (may, omega (arith, kept refl))
  leads (phase.AsksStart place uncounted) word n may busy kept =
      either (Leads (left_in n (phase.AsksStart place uncounted))) (uncounted && has_bit place word) _ _ (λ e. (may, omega (arith, kept refl))) (λ e. omega (arith, kept refl))
  leads (phase.Claims place) word n may busy kept = either (Leads (left_in n (phase.Claims place))) (has_bit place word) _ _ (λ e. omega (arith, kept refl)) (λ e. (may, omega arith))
  leads (phase.ReadsHeader place) word n may busy kept = let object = header_object r place word may in (object, omega (arith, object.few))
  leads (phase.AsksTracing place refs) word n may busy kept = handled_leads (1 + 4 * refs) (References place refs 0 (nat_eq word 1)) (may, omega arith) (omega arith)
  leads (phase.ReadsReference place refs index traced) word n may busy kept =
      referred_leads place refs index traced (referent_in r word) may.0 may.1 (λ referent e. referent_within r word referent e)
  leads (phase.MakesGray place refs index referent) word n may busy kept = ((may.1.1, (may.0, omega (arith, may.1.0))), omega arith)
  leads (phase.AsksLowered referent handling) word n may busy kept =
      either (Leads (left_handling handling + 2)) (nat_eq (count_in referent word) 0 || nat_eq (count_in referent word) STUCK) _ _
      (λ e. handled_leads (left_handling handling + 2) handling may.1 (omega arith)) (λ e. (may, omega arith))
  leads (phase.Lowers referent handling) word n may busy kept = handled_leads (left_handling handling + 1) handling may.1 (omega arith)
  leads phase.AsksCursor word n may busy kept = (tt, omega arith)
  leads (phase.AsksNumber cursor) word n may busy kept =
      either (Leads 5) (nat_lt cursor (listed_in r word)) _ _ (λ e. (listed_within r word cursor (grind arith), omega arith)) (λ e. omega arith)
  leads (phase.Draws count) word n may busy kept =
      either (Leads 4) (nat_lt word count) _ _ (λ e. let lt : word < count = grind arith in (omega (arith, may), omega arith)) (λ e. omega arith)
  leads (phase.ReadsEntry number) word n may busy kept = entered_leads (referent_in r word) (λ referent e. referent_within r word referent e)

-- ---- places that are kept

kept_by : (r : Regions) (referent place : Place) (b : Bool) → InHeap r referent → (if b then Some referent else None) ≡ Some place → InHeap r place
kept_by r referent place true within e = let same : referent ≡ place = cc in subst (InHeap r) same within
kept_by r referent place false within e = absurd (cc)

keeps : (r : Regions) (p : DecrementerPhase) (word : ℕ) (place : Place) → IsIn r p → keeps_in p word ≡ Some place → InHeap r place
keeps r (phase.Lowers referent handling) word place may e = kept_by r referent place (nat_eq (count_in referent word) 1) may.0 e
keeps r p word place may e = absurd (cc)

-- ---- few steps are left in each phase

handling_few : (r : Regions) (handling : Handling) → IsHandled r handling → left_handling handling ≤ 4092
handling_few r Entry may = omega arith
handling_few r (References place refs next traced) may = omega (arith, may.0.few)

few : (r : Regions) (p : DecrementerPhase) (n : ℕ) → n ≤ 64 → IsIn r p → left_in n p ≤ 8192
few r (phase.AsksTracing place refs) n pocket may = omega (arith, may.few)
few r (phase.ReadsReference place refs index traced) n pocket may = omega (arith, may.0.few)
few r (phase.MakesGray place refs index referent) n pocket may = omega (arith, may.0.few)
few r (phase.AsksLowered referent handling) n pocket may = omega (arith, handling_few r handling may.1)
few r (phase.Lowers referent handling) n pocket may = omega (arith, handling_few r handling may.1)
few r p n pocket may = omega arith

pub decrementer_lawful : IsLawful decrementer_work
decrementer_lawful = record {
  resting = refl;
  one_rest = one_rest;
  may_rest = λ r. tt;
  acts = acts;
  nothing = refl;
  one_nothing = one_nothing;
  asks = asks;
  may_ask = λ r place within. within;
  may_turn = λ r. tt;
  ask_nearer = λ n m place lt. omega arith;
  turn_nearer = λ n m. omega arith;
  in_unit = in_unit;
  leads = λ r p word n m indexes may busy kept. leads r m p word n may busy kept;
  keeps = keeps;
  few = few;
}
