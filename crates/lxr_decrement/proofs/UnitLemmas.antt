-- A whole unit, from its first step on: what is left of a unit in each phase makes the whole, together with the step of that phase.
use Rattle.std.proofs.Common.{◌≡◌, ◌≢◌, ◌∙◌, ℕ, ◌+◌, ◌<◌, ◌≤◌, Bool, true, false, List, [], ◌∷◌, ◌++◌, arith, refl, ap, sym, subst, append-nil}
use Rattle.std.specs.Prelude.{◌&&◌, ◌||◌, nat_eq, nat_lt, if◌then◌else◌, IsSome, Option, Some, None}
use Rattle.lxr_layout.specs.declared.TheConstants.{STUCK}
use Rattle.lxr_layout.specs.declared.Place.{Place}
use Rattle.lxr_layout.specs.declared.limits.Regions.{Regions}
use Rattle.lxr_base.specs.Roomy.{Roomy, pushed}
use Rattle.lxr_actor.specs.declared.Action.{Action}
use Rattle.lxr_helper.specs.Words.{has_bit, references_in, referent_in}
use Rattle.lxr_helper.specs.Looks.{graying, header_look, reference_look, start_look, tracing_look}
use Rattle.lxr_helper.specs.Pockets.{kept}
use Rattle.lxr_helper.specs.Units.{Told, told}
use Rattle.lxr_helper.specs.HelperUnits as whole_unit
use Rattle.lxr_helper.specs.Helpers.{Outcome, ends, goes_to, tries_next}
use Rattle.lxr_helper.specs.Helpers as helper
use Rattle.lxr_helper.proofs.HelperUnitLemmas as lemma
use Rattle.lxr_decrement.specs.declared.phases.DecEnd.{DecEnd}
use Rattle.lxr_decrement.specs.declared.phases.DecEnd.TheVariants.{Worked, Nothing}
use Rattle.lxr_decrement.specs.declared.phases.Handling.{Handling}
use Rattle.lxr_decrement.specs.declared.phases.Handling.TheVariants.{Entry, References}
use Rattle.lxr_decrement.specs.declared.phases.DecrementerPhase.{DecrementerPhase}
use Rattle.lxr_decrement.specs.declared.phases.DecrementerPhase.TheVariants as phase
use Rattle.lxr_decrement.specs.Decrementing.{DecrementerState, rests_in}
use Rattle.lxr_decrement.specs.Words.{count_in, is_uncounted, listed_in}
use Rattle.lxr_decrement.specs.Steps.{action_in, claim, count_look, cursor_look, decrementer_work, drawing, entered, entry_look, handled, keeps_in, lowering, number_look, question, referred}
use Rattle.lxr_decrement.specs.Units.{FindsNoEntry, HandlesObject, LowersEntry, LowersFrom, LowersPlace, LowersReferent, TurnsToList}
use Rattle.lxr_decrement.specs.Units as unit
use Rattle.lxr_decrement.specs.Lawful.{decrementer_lawful}
use Rattle.lxr_decrement.specs.Laws.{UnitsEndByRules}

-- ---- what is left of a unit

-- the rest of a unit that began with this pocket ends by the rules
abbrev Finishes : Regions → Roomy Place → List Told → DecrementerState → Type 0
Finishes r pocket ts d' = lemma.Finishes decrementer_work count_look is_uncounted claim HandlesObject TurnsToList r pocket ts d'

-- once a reference or an entry is done with, with this pocket
abbrev Continues : Regions → Handling → Roomy Place → List Told → DecrementerState → Type 0
Continues r Entry pocket ts d' = (ts ≡ []) × (d'.pocket ≡ pocket)
Continues r (References place refs next traced) pocket ts d' = LowersFrom r place refs traced next pocket ts d'.pocket

-- a place is lowered, and then it continues
record LowersOn (r : Regions) (referent : Place) (handling : Handling) (pocket : Roomy Place) (ts : List Told) (d' : DecrementerState) : Type 0 where
  first : List Told
  others : List Told
  between : Roomy Place
  split : ts ≡ first ++ others
  lowers : LowersPlace r referent pocket first between
  continues : Continues r handling between others d'

-- it worked, in this way
abbrev Works : DecrementerState → Type 0 → Type 0
Works d' A = (d'.end ≡ Some Worked) × A

-- the next reference is one of so many, or is behind the last
abbrev IsNext : Handling → Type 0
IsNext Entry = Unit {0}
IsNext (References place refs next traced) = next ≤ refs

-- the steps ts are the rest of the unit of a decrementer in this phase, whatever it found before
abbrev Rest : DecrementerState → DecrementerPhase → List Told → DecrementerState → Type 0
Rest d phase.Resting ts d' = (ts ≡ []) × (d' ≡ d)
Rest d (phase.AsksCount place) ts d' = Finishes d.regions (pushed d.pocket place) ts d'
Rest d (phase.AsksStart place uncounted) ts d' = (c : ℕ) → is_uncounted place c ≡ uncounted → Finishes d.regions (pushed d.pocket place) (told (count_look d.regions place) c ∷ ts) d'
Rest d (phase.Claims place) ts d' = (c s : ℕ) → is_uncounted place c ≡ true → has_bit place s ≡ true
    → Finishes d.regions (pushed d.pocket place) (told (count_look d.regions place) c ∷ told (start_look d.regions place) s ∷ ts) d'
Rest d (phase.ReadsHeader place) ts d' = Works d' (HandlesObject d.regions place d.pocket ts d'.pocket Worked)
Rest d (phase.AsksTracing place refs) ts d' = Works d' ((h : ℕ) → references_in d.regions place h ≡ refs → HandlesObject d.regions place d.pocket (told (header_look d.regions place) h ∷ ts) d'.pocket Worked)
Rest d (phase.ReadsReference place refs index traced) ts d' = index < refs → Works d' (LowersFrom d.regions place refs traced index d.pocket ts d'.pocket)
Rest d (phase.MakesGray place refs index referent) ts d' = index < refs → Works d' ((word : ℕ) → referent_in d.regions word ≡ Some referent
    → LowersFrom d.regions place refs true index d.pocket (told (reference_look d.regions place index) word ∷ ts) d'.pocket)
Rest d (phase.AsksLowered referent handling) ts d' = IsNext handling → Works d' (LowersOn d.regions referent handling d.pocket ts d')
Rest d (phase.Lowers referent handling) ts d' = IsNext handling → Works d' ((c : ℕ) → count_in referent c ≢ 0 → count_in referent c ≢ STUCK
    → LowersOn d.regions referent handling d.pocket (told (count_look d.regions referent) c ∷ ts) d')
Rest d phase.AsksCursor ts d' = d.pocket.items ≡ [] → Finishes d.regions d.pocket ts d'
Rest d (phase.AsksNumber cursor) ts d' = d.pocket.items ≡ [] → Finishes d.regions d.pocket (told (cursor_look d.regions) cursor ∷ ts) d'
Rest d (phase.Draws count) ts d' = d.pocket.items ≡ [] → (cursor word : ℕ) → listed_in d.regions word ≡ count → cursor < count
    → Finishes d.regions d.pocket (told (cursor_look d.regions) cursor ∷ told (number_look d.regions) word ∷ ts) d'
Rest d (phase.ReadsEntry number) ts d' = d.pocket.items ≡ [] → (cursor word : ℕ) → cursor < listed_in d.regions word → number < listed_in d.regions word
    → Finishes d.regions d.pocket (told (cursor_look d.regions) cursor ∷ told (number_look d.regions) word ∷ told (drawing d.regions) number ∷ ts) d'

-- where a step leads, with what is kept
abbrev led : DecrementerState → Outcome DecrementerPhase DecEnd → DecrementerState
led d o = helper.led decrementer_work d o

abbrev keeping : DecrementerState → Option Place → DecrementerState
keeping d item = helper.keeping decrementer_work d item

abbrev through : DecrementerState → DecEnd → DecrementerState
through d how = helper.through decrementer_work d how

-- what is left of a decrementer's unit
abbrev RestOf : DecrementerState → List Told → DecrementerState → Type 0
RestOf d ts d' = Rest d d.phase ts d'

-- ---- references

-- what continues once a reference or an entry is done with
next_by : (d : DecrementerState) (place : Place) (refs next : ℕ) (traced : Bool) (ts : List Told) (d' : DecrementerState) → next ≤ refs → (b : Bool) → nat_lt next refs ≡ b
    → RestOf (led d (if b then goes_to (phase.ReadsReference place refs next traced) else ends Worked)) ts d'
    → Works d' (LowersFrom d.regions place refs traced next d.pocket ts d'.pocket)
next_by d place refs next traced ts d' le true e rest = rest (grind arith)
next_by d place refs next traced ts d' le false e rest =
    let last : refs ≡ next = grind arith in
    let whole : LowersFrom d.regions place refs traced refs d.pocket [] d.pocket = unit.through d.pocket in (
      ap (λ (x : DecrementerState). x.end) rest.1,
      subst (λ (x : DecrementerState). LowersFrom d.regions place refs traced next d.pocket ts x.pocket) (sym rest.1)
          (subst (λ us. LowersFrom d.regions place refs traced next d.pocket us d.pocket) (sym rest.0)
          (subst (λ n. LowersFrom d.regions place refs traced n d.pocket [] d.pocket) last whole)),
    )

handled_rest : (d : DecrementerState) (handling : Handling) (ts : List Told) (d' : DecrementerState) → IsNext handling → RestOf (led d (handled handling)) ts d'
    → Works d' (Continues d.regions handling d.pocket ts d')
handled_rest d Entry ts d' le rest = (ap (λ (x : DecrementerState). x.end) rest.1, (rest.0, ap (λ (x : DecrementerState). x.pocket) rest.1))
handled_rest d (References place refs next traced) ts d' le rest = next_by d place refs next traced ts d' le (nat_lt next refs) refl rest

-- a reference that was lowered in these steps comes before the others
next_reference : (r : Regions) (place : Place) (refs index : ℕ) (traced : Bool) (pocket between : Roomy Place) (word : ℕ) (first others : List Told) (d' : DecrementerState)
    → index < refs → LowersReferent r pocket (referent_in r word) traced first between → LowersFrom r place refs traced (index + 1) between others d'.pocket
    → LowersFrom r place refs traced index pocket (told (reference_look r place index) word ∷ (first ++ others)) d'.pocket
next_reference r place refs index traced pocket between word first others d' lt lowers rest = unit.next index pocket between d'.pocket word first others lt lowers rest

referred_by : (d : DecrementerState) (place : Place) (refs index : ℕ) (traced : Bool) (word : ℕ) (ts : List Told) (d' : DecrementerState) → index < refs
    → (item : Option Place) → referent_in d.regions word ≡ item → RestOf (led d (referred place refs index traced item)) ts d'
    → Works d' (LowersFrom d.regions place refs traced index d.pocket (told (reference_look d.regions place index) word ∷ ts) d'.pocket)
referred_by d place refs index traced word ts d' lt None e rest =
    let on = handled_rest d (References place refs (index + 1) traced) ts d' (omega arith) rest in
    let none : LowersReferent d.regions d.pocket None traced [] d.pocket = unit.nil traced in (
      on.0,
      next_reference d.regions place refs index traced d.pocket d.pocket word [] ts d' lt
          (subst (λ item. LowersReferent d.regions d.pocket item traced [] d.pocket) (sym e) none) on.1,
    )
referred_by d place refs index false word ts d' lt (Some referent) e rest =
    let on = rest (omega arith) in
    let low = on.1 in
    let lowers : LowersReferent d.regions d.pocket (Some referent) false low.first low.between = unit.untraced referent low.first low.between low.lowers in (
      on.0,
      subst (λ us. LowersFrom d.regions place refs false index d.pocket (told (reference_look d.regions place index) word ∷ us) d'.pocket) (sym low.split)
          (next_reference d.regions place refs index false d.pocket low.between word low.first low.others d' lt
          (subst (λ item. LowersReferent d.regions d.pocket item false low.first low.between) (sym e) lowers) low.continues),
    )
referred_by d place refs index true word ts d' lt (Some referent) e rest =
    let on = rest lt in
    (on.0, on.1 word e)

grayed : (d : DecrementerState) (place : Place) (refs index : ℕ) (referent : Place) (gray : ℕ) (ts : List Told) (d' : DecrementerState) → index < refs
    → Works d' (LowersOn d.regions referent (References place refs (index + 1) true) d.pocket ts d') → (word : ℕ) → referent_in d.regions word ≡ Some referent
    → LowersFrom d.regions place refs true index d.pocket (told (reference_look d.regions place index) word ∷ told (graying d.regions referent) gray ∷ ts) d'.pocket
grayed d place refs index referent gray ts d' lt on word e =
    let low = on.1 in
    let lowers : LowersReferent d.regions d.pocket (Some referent) true (told (graying d.regions referent) gray ∷ low.first) low.between =
    unit.traced referent gray low.first low.between low.lowers in
    subst (λ us. LowersFrom d.regions place refs true index d.pocket (told (reference_look d.regions place index) word ∷ told (graying d.regions referent) gray ∷ us) d'.pocket) (sym low.split)
    (next_reference d.regions place refs index true d.pocket low.between word (told (graying d.regions referent) gray ∷ low.first) low.others d' lt
    (subst (λ item. LowersReferent d.regions d.pocket item true (told (graying d.regions referent) gray ∷ low.first) low.between) (sym e) lowers) low.continues)

-- ---- lowering

counted_by : (d : DecrementerState) (referent : Place) (handling : Handling) (c : ℕ) (ts : List Told) (d' : DecrementerState) → IsNext handling
    → (a b : Bool) → nat_eq (count_in referent c) 0 ≡ a → nat_eq (count_in referent c) STUCK ≡ b
    → RestOf (led d (if a || b then handled handling else goes_to (phase.Lowers referent handling))) ts d'
    → Works d' (LowersOn d.regions referent handling d.pocket (told (count_look d.regions referent) c ∷ ts) d')
counted_by d referent handling c ts d' le true b e f rest =
    let on = handled_rest d handling ts d' le rest in (
      on.0,
      record {
        first = told (count_look d.regions referent) c ∷ [];
        others = ts;
        between = d.pocket;
        split = refl;
        lowers = unit.is_zero c (grind arith);
        continues = on.1;
      },
    )
counted_by d referent handling c ts d' le false true e f rest =
    let on = handled_rest d handling ts d' le rest in (
      on.0,
      record {
        first = told (count_look d.regions referent) c ∷ [];
        others = ts;
        between = d.pocket;
        split = refl;
        lowers = unit.is_stuck c (grind arith);
        continues = on.1;
      },
    )
counted_by d referent handling c ts d' le false false e f rest =
    let on = rest le in
    (on.0, on.1 c (grind arith) (grind arith))

-- an object whose last reference is gone is put into the pocket
kept_if : (d : DecrementerState) (referent : Place) (b : Bool) → (keeping d (if b then Some referent else None)).pocket ≡ (if b then kept d.pocket referent else d.pocket)
kept_if d referent true = refl
kept_if d referent false = refl

kept_regions : (d : DecrementerState) (item : Option Place) → (keeping d item).regions ≡ d.regions
kept_regions d None = refl
kept_regions d (Some place) = refl

lowers_rest : (d : DecrementerState) (referent : Place) (handling : Handling) (old : ℕ) (ts : List Told) (d' : DecrementerState) → IsNext handling
    → RestOf (led (keeping d (keeps_in (phase.Lowers referent handling) old)) (handled handling)) ts d'
    → Works d' ((c : ℕ) → count_in referent c ≢ 0 → count_in referent c ≢ STUCK
    → LowersOn d.regions referent handling d.pocket (told (count_look d.regions referent) c ∷ told (lowering d.regions referent) old ∷ ts) d')
lowers_rest d referent handling old ts d' le rest =
    let last : Bool = nat_eq (count_in referent old) 1 in
    let low = keeping d (keeps_in (phase.Lowers referent handling) old) in
    let on = handled_rest low handling ts d' le rest in
    let continues : Continues d.regions handling (if last then kept d.pocket referent else d.pocket) ts d' =
    subst (λ left. Continues d.regions handling left ts d') (kept_if d referent last)
    (subst (λ r. Continues r handling low.pocket ts d') (kept_regions d (keeps_in (phase.Lowers referent handling) old)) on.1) in (
      on.0,
      λ c some unstuck. record {
        first = told (count_look d.regions referent) c ∷ told (lowering d.regions referent) old ∷ [];
        others = ts;
        between = if last then kept d.pocket referent else d.pocket;
        split = refl;
        lowers = unit.lowers c old some unstuck;
        continues = continues;
      },
    )

-- ---- the list of decrements

compared_by : (d : DecrementerState) (cursor word : ℕ) (ts : List Told) (d' : DecrementerState) → d.pocket.items ≡ [] → (b : Bool) → nat_lt cursor (listed_in d.regions word) ≡ b
    → RestOf (led d (if b then goes_to (phase.Draws (listed_in d.regions word)) else ends Nothing)) ts d'
    → Finishes d.regions d.pocket (told (cursor_look d.regions) cursor ∷ told (number_look d.regions) word ∷ ts) d'
compared_by d cursor word ts d' none true e rest = rest none cursor word refl (grind arith)
compared_by d cursor word ts d' none false e rest =
    let found : FindsNoEntry d.regions (told (cursor_look d.regions) cursor ∷ told (number_look d.regions) word ∷ []) = unit.loaded cursor word (grind arith) in
    let whole : Finishes d.regions d.pocket (told (cursor_look d.regions) cursor ∷ told (number_look d.regions) word ∷ []) (through d Nothing) =
    record { how = Nothing; end = refl; does = whole_unit.turns d.pocket d.pocket (told (cursor_look d.regions) cursor ∷ told (number_look d.regions) word ∷ []) Nothing none (unit.finds_nothing _ found) } in
    subst (λ (x : DecrementerState). Finishes d.regions d.pocket (told (cursor_look d.regions) cursor ∷ told (number_look d.regions) word ∷ ts) x) (sym rest.1)
    (subst (λ us. Finishes d.regions d.pocket (told (cursor_look d.regions) cursor ∷ told (number_look d.regions) word ∷ us) (through d Nothing)) (sym rest.0) whole)

drawn_by : (d : DecrementerState) (cursor word number : ℕ) (ts : List Told) (d' : DecrementerState) → d.pocket.items ≡ [] → cursor < listed_in d.regions word
    → (b : Bool) → nat_lt number (listed_in d.regions word) ≡ b → RestOf (led d (if b then goes_to (phase.ReadsEntry number) else ends Nothing)) ts d'
    → Finishes d.regions d.pocket (told (cursor_look d.regions) cursor ∷ told (number_look d.regions) word ∷ told (drawing d.regions) number ∷ ts) d'
drawn_by d cursor word number ts d' none lt true e rest = rest none cursor word lt (grind arith)
drawn_by d cursor word number ts d' none lt false e rest =
    let steps = told (cursor_look d.regions) cursor ∷ told (number_look d.regions) word ∷ told (drawing d.regions) number ∷ [] in
    let found : FindsNoEntry d.regions steps = unit.drawn cursor word number lt (grind arith) in
    let whole : Finishes d.regions d.pocket steps (through d Nothing) = record { how = Nothing; end = refl; does = whole_unit.turns d.pocket d.pocket steps Nothing none (unit.finds_nothing steps found) } in
    subst (λ (x : DecrementerState). Finishes d.regions d.pocket (told (cursor_look d.regions) cursor ∷ told (number_look d.regions) word ∷ told (drawing d.regions) number ∷ ts) x) (sym rest.1)
    (subst (λ us. Finishes d.regions d.pocket (told (cursor_look d.regions) cursor ∷ told (number_look d.regions) word ∷ told (drawing d.regions) number ∷ us) (through d Nothing)) (sym rest.0) whole)

-- an entry was lowered in these steps
entry_lowered : (d : DecrementerState) (cursor word number entry : ℕ) (ts : List Told) (d' : DecrementerState) → d.pocket.items ≡ [] → cursor < listed_in d.regions word
    → number < listed_in d.regions word → d'.end ≡ Some Worked → LowersReferent d.regions d.pocket (referent_in d.regions entry) false ts d'.pocket
    → Finishes d.regions d.pocket (told (cursor_look d.regions) cursor ∷ told (number_look d.regions) word ∷ told (drawing d.regions) number ∷ told (entry_look d.regions number) entry ∷ ts) d'
entry_lowered d cursor word number entry ts d' none lt below end lowers = record {
  how = Worked;
  end = end;
  does = whole_unit.turns d.pocket d'.pocket _ Worked none (unit.works _ d'.pocket (unit.lowers_entry cursor word number entry ts d'.pocket lt below lowers));
}

entered_by : (d : DecrementerState) (cursor word number entry : ℕ) (ts : List Told) (d' : DecrementerState) → d.pocket.items ≡ [] → cursor < listed_in d.regions word
    → number < listed_in d.regions word → (item : Option Place) → referent_in d.regions entry ≡ item → RestOf (led d (entered item)) ts d'
    → Finishes d.regions d.pocket (told (cursor_look d.regions) cursor ∷ told (number_look d.regions) word ∷ told (drawing d.regions) number ∷ told (entry_look d.regions number) entry ∷ ts) d'
entered_by d cursor word number entry ts d' none lt below None e rest =
    let nothing : LowersReferent d.regions d.pocket None false [] d.pocket = unit.nil false in
    let at : LowersReferent d.regions d.pocket (referent_in d.regions entry) false ts d'.pocket =
    subst (λ item. LowersReferent d.regions d.pocket item false ts d'.pocket) (sym e)
    (subst (λ us. LowersReferent d.regions d.pocket None false us d'.pocket) (sym rest.0)
    (subst (λ (x : DecrementerState). LowersReferent d.regions d.pocket None false [] x.pocket) (sym rest.1) nothing)) in
    entry_lowered d cursor word number entry ts d' none lt below (ap (λ (x : DecrementerState). x.end) rest.1) at
entered_by d cursor word number entry ts d' none lt below (Some referent) e rest =
    let on = rest tt in
    let low = on.1 in
    let alone : low.first ≡ ts = sym (low.split ∙ (ap (λ us. low.first ++ us) low.continues.0 ∙ append-nil low.first)) in
    let lowers : LowersReferent d.regions d.pocket (Some referent) false low.first low.between = unit.untraced referent low.first low.between low.lowers in
    let at : LowersReferent d.regions d.pocket (referent_in d.regions entry) false ts d'.pocket =
    subst (λ item. LowersReferent d.regions d.pocket item false ts d'.pocket) (sym e)
    (subst (λ us. LowersReferent d.regions d.pocket (Some referent) false us d'.pocket) alone
    (subst (λ left. LowersReferent d.regions d.pocket (Some referent) false low.first left) (sym low.continues.1) lowers)) in
    entry_lowered d cursor word number entry ts d' none lt below on.0 at

-- ---- steps

-- a unit that begins with a place, or with none, makes a whole
asked : (d : DecrementerState) (place : Place) (ts : List Told) (d' : DecrementerState) → Rest d (phase.AsksCount place) ts d' → Finishes d.regions (pushed d.pocket place) ts d'
asked d place ts d' rest = rest

turned : (d : DecrementerState) (ts : List Told) (d' : DecrementerState) → d.pocket.items ≡ [] → Rest d phase.AsksCursor ts d' → Finishes d.regions d.pocket ts d'
turned d ts d' none rest = rest none

-- the step of each phase, before what is left after it
rest_before : (d : DecrementerState) (p : DecrementerPhase) (act : Action) (word : ℕ) (ts : List Told) (d' : DecrementerState) → action_in d.regions p ≡ Some act
    → RestOf (helper.after_in decrementer_work d p word) ts d' → Rest d p (told act word ∷ ts) d'
rest_before d phase.Resting act word ts d' does rest = absurd (cc)
rest_before d (phase.AsksCount place) act word ts d' does rest =
    let is : count_look d.regions place ≡ act = cc in
    subst (λ a. Rest d (phase.AsksCount place) (told a word ∷ ts) d') is (rest word refl)
rest_before d (phase.AsksStart place uncounted) act word ts d' does rest =
    let is : start_look d.regions place ≡ act = cc in
    subst (λ a. Rest d (phase.AsksStart place uncounted) (told a word ∷ ts) d') is (λ c count. lemma.start_by decrementer_work count_look is_uncounted claim HandlesObject TurnsToList Rest asked turned d place (phase.Claims place) c word ts d' uncounted (has_bit place word) count refl (λ zero start on. on c word zero start) rest)
rest_before d (phase.Claims place) act word ts d' does rest =
    let is : claim d.regions place ≡ act = cc in
    subst (λ a. Rest d (phase.Claims place) (told a word ∷ ts) d') is (λ c s zero start. lemma.claim_by decrementer_work count_look is_uncounted claim HandlesObject TurnsToList Rest asked turned d place (phase.ReadsHeader place) c s word ts d' zero start (has_bit place word) refl (λ on. (Worked, on.0, on.1)) rest)
rest_before d (phase.ReadsHeader place) act word ts d' does rest =
    let is : header_look d.regions place ≡ act = cc in
    subst (λ a. Rest d (phase.ReadsHeader place) (told a word ∷ ts) d') is (rest.0, rest.1 word refl)
rest_before d (phase.AsksTracing place refs) act word ts d' does rest =
    let is : tracing_look d.regions ≡ act = cc in
    let on = handled_rest d (References place refs 0 (nat_eq word 1)) ts d' (omega arith) rest in
    subst (λ a. Rest d (phase.AsksTracing place refs) (told a word ∷ ts) d') is
    (on.0, λ h e. unit.handles h word ts d'.pocket (subst (λ n. LowersFrom d.regions place n (nat_eq word 1) 0 d.pocket ts d'.pocket) (sym e) on.1))
rest_before d (phase.ReadsReference place refs index traced) act word ts d' does rest =
    let is : reference_look d.regions place index ≡ act = cc in
    subst (λ a. Rest d (phase.ReadsReference place refs index traced) (told a word ∷ ts) d') is
    (λ lt. referred_by d place refs index traced word ts d' lt (referent_in d.regions word) refl rest)
rest_before d (phase.MakesGray place refs index referent) act word ts d' does rest =
    let is : graying d.regions referent ≡ act = cc in
    subst (λ a. Rest d (phase.MakesGray place refs index referent) (told a word ∷ ts) d') is
    (λ lt. let on = rest (omega arith) in (on.0, λ w e. grayed d place refs index referent word ts d' lt on w e))
rest_before d (phase.AsksLowered referent handling) act word ts d' does rest =
    let is : count_look d.regions referent ≡ act = cc in
    subst (λ a. Rest d (phase.AsksLowered referent handling) (told a word ∷ ts) d') is
    (λ le. counted_by d referent handling word ts d' le (nat_eq (count_in referent word) 0) (nat_eq (count_in referent word) STUCK) refl refl rest)
rest_before d (phase.Lowers referent handling) act word ts d' does rest =
    let is : lowering d.regions referent ≡ act = cc in
    subst (λ a. Rest d (phase.Lowers referent handling) (told a word ∷ ts) d') is (λ le. lowers_rest d referent handling word ts d' le rest)
rest_before d phase.AsksCursor act word ts d' does rest =
    let is : cursor_look d.regions ≡ act = cc in
    subst (λ a. Rest d phase.AsksCursor (told a word ∷ ts) d') is rest
rest_before d (phase.AsksNumber cursor) act word ts d' does rest =
    let is : number_look d.regions ≡ act = cc in
    subst (λ a. Rest d (phase.AsksNumber cursor) (told a word ∷ ts) d') is (λ none. compared_by d cursor word ts d' none (nat_lt cursor (listed_in d.regions word)) refl rest)
rest_before d (phase.Draws count) act word ts d' does rest =
    let is : drawing d.regions ≡ act = cc in
    subst (λ a. Rest d (phase.Draws count) (told a word ∷ ts) d') is
    (λ none cursor w e lt. drawn_by d cursor w word ts d' none (subst (λ n. cursor < n) (sym e) lt) (nat_lt word (listed_in d.regions w)) refl
    (subst (λ n. RestOf (led d (if nat_lt word n then goes_to (phase.ReadsEntry word) else ends Nothing)) ts d') (sym e) rest))
rest_before d (phase.ReadsEntry number) act word ts d' does rest =
    let is : entry_look d.regions number ≡ act = cc in
    subst (λ a. Rest d (phase.ReadsEntry number) (told a word ∷ ts) d') is
    (λ none cursor w lt below. entered_by d cursor w number word ts d' none lt below (referent_in d.regions word) refl rest)

-- ---- runs

-- each unit ends by the rules
pub end_by_rules : UnitsEndByRules
end_by_rules d d' ts rests runs =
    lemma.end_by_rules decrementer_work count_look is_uncounted claim HandlesObject TurnsToList Rest asked turned decrementer_lawful rest_before (λ h. (refl, refl)) d d' ts rests runs
