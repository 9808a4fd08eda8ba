-- Whole units of a tracer: which steps it does from rest to rest, what it finds, and how that ends.
use Rattle.std.specs.Prelude.{◌≡◌, ℕ, ◌+◌, ◌<◌, ◌≤◌, Bool, true, false, ◌||◌, List, [], ◌∷◌, ◌++◌, Option, Some, None, if◌then◌else◌}
use Rattle.lxr_layout.specs.declared.Place.{Place}
use Rattle.lxr_layout.specs.declared.limits.Regions.{Regions}
use Rattle.lxr_base.specs.Roomy.{Roomy}
use Rattle.lxr_helper.specs.Pockets.{kept}
use Rattle.lxr_helper.specs.Words.{has_bit, references_in, referent_in}
use Rattle.lxr_helper.specs.HelperUnits as helper
use Rattle.lxr_helper.specs.Looks.{graying, header_look, reference_look, start_look, tracing_look}
use Rattle.lxr_helper.specs.Units.{Told, told}
use Rattle.lxr_trace.specs.declared.phases.TraceEnd.{TraceEnd}
use Rattle.lxr_trace.specs.declared.phases.TraceEnd.TheVariants.{Nothing}
use Rattle.lxr_trace.specs.Words.{counter_in, is_chosen, line_of_field, remember_room}
use Rattle.lxr_trace.specs.Steps.{drawing, end_of, entering, gray_look, marking, reuse_look, state_look}

module _ (r : Regions) where
  -- A number of the remembered set is drawn for a reference of the object at a place. Where it is below the set's room, the
  -- entry is stored, with the reuse counter of the reference's line; else the number is past the set.
  pub data RemembersField (place : Place) (index : ℕ) : List Told → Bool → Type 0 where
    enters : (c number old : ℕ) → number < remember_room r
        → RemembersField place index
        (told (reuse_look r place index) c ∷ told (drawing r) number ∷ told (entering r number (counter_in c (line_of_field place index)) place index) old ∷ []) false
    is_past : (c number : ℕ) → remember_room r ≤ number → RemembersField place index (told (reuse_look r place index) c ∷ told (drawing r) number ∷ []) true

  -- The state of a referent's block is looked at, and the reference is remembered where the block is Chosen.
  pub data LooksAtBlock (place : Place) (index : ℕ) (referent : Place) : List Told → Bool → Type 0 where
    other : (b : ℕ) → is_chosen b ≡ false → LooksAtBlock place index referent (told (state_look r referent) b ∷ []) false
    chosen : (b : ℕ) (ts : List Told) (past : Bool) → is_chosen b ≡ true → RemembersField place index ts past
        → LooksAtBlock place index referent (told (state_look r referent) b ∷ ts) past

  -- What a reference refers to is made gray, where it is an unreclaimed object, and goes into the pocket, unless it was gray
  -- before. The pocket is the second one then, and a number was past the set or not.
  pub data ScansReferent (place : Place) (index : ℕ) (pocket : Roomy Place) : Option Place → List Told → Roomy Place → Bool → Type 0 where
    nil : ScansReferent place index pocket None [] pocket false
    young : (referent : Place) (s : ℕ) → has_bit referent s ≡ false → ScansReferent place index pocket (Some referent) (told (start_look r referent) s ∷ []) pocket false
    finds : (referent : Place) (s g : ℕ) (ts : List Told) (past : Bool) → has_bit referent s ≡ true → LooksAtBlock place index referent ts past
        → ScansReferent place index pocket (Some referent) (told (start_look r referent) s ∷ told (graying r referent) g ∷ ts)
        (if has_bit referent g then pocket else kept pocket referent) past

  -- The references of an object from an index on are read, one after another, and what each refers to is scanned.
  pub data ScansFrom (place : Place) (refs : ℕ) : ℕ → Roomy Place → List Told → Roomy Place → Bool → Type 0 where
    through : (pocket : Roomy Place) → ScansFrom place refs refs pocket [] pocket false
    next : (index : ℕ) (pocket between pocket' : Roomy Place) (word : ℕ) (ts us : List Told) (here later : Bool) → index < refs
        → ScansReferent place index pocket (referent_in r word) ts between here → ScansFrom place refs (index + 1) between us pocket' later
        → ScansFrom place refs index pocket (told (reference_look r place index) word ∷ (ts ++ us)) pocket' (here || later)

  -- The object at a place is scanned whole: its header is read, and each of its references is scanned.
  pub data ScansObject (place : Place) (pocket : Roomy Place) : List Told → Roomy Place → TraceEnd → Type 0 where
    scans : (h : ℕ) (ts : List Told) (pocket' : Roomy Place) (past : Bool) → ScansFrom place (references_in r place h) 0 pocket ts pocket' past
        → ScansObject place pocket (told (header_look r place) h ∷ ts) pocket' (end_of past)

  -- No place of the pocket needs work: the unit looks at the tracing word, and finds nothing.
  pub data FindsNothing (pocket : Roomy Place) : List Told → Roomy Place → TraceEnd → Type 0 where
    finds_nothing : (word : ℕ) → FindsNothing pocket (told (tracing_look r) word ∷ []) pocket Nothing

  -- A whole unit: the pocket before, the steps, the pocket after, and how the unit ended. A gray object is claimed by its mark bit;
  -- the unit finds nothing only where no place of the pocket needs work.
  abbrev pub DoesUnit : Roomy Place → List Told → Roomy Place → TraceEnd → Type 0
  DoesUnit = helper.DoesUnit gray_look has_bit marking r ScansObject FindsNothing
