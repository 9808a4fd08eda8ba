-- What units of swaps and adds tell: step by step, by what the steps so far have led to.
use Rattle.std.proofs.Common.{◌≡◌, ◌≢◌, ℕ, ◌+◌, ◌⊎◌, inl, inr, Bool, true, false, arith, refl, sym, ap, subst, ◌∙◌, List, [], ◌∷◌, ◌++◌, Option, Some, None}
use Rattle.std.specs.Prelude.{IsTrue, nat_eq, nat_le, nat_lt, if◌then◌else◌, slice_set}
use Rattle.std.proofs.lemmas.List.{append_assoc}
use Rattle.lxr_layout.specs.declared.Place.{Place}
use Rattle.lxr_layout.specs.declared.LogEntry.{LogEntry}
use Rattle.lxr_layout.specs.Objects.{header_of}
use Rattle.lxr_layout.specs.Places.{place_in}
use Rattle.lxr_base.specs.Roomy.{Roomy, pushed}
use Rattle.lxr_graph.specs.declared.Op.{Op}
use Rattle.lxr_graph.specs.declared.Op.TheVariants as op
use Rattle.lxr_graph.specs.declared.Reply.{Reply}
use Rattle.lxr_graph.specs.declared.Reply.TheVariants as reply
use Rattle.lxr_barrier.specs.declared.StoreEnd.{StoreEnd}
use Rattle.lxr_barrier.specs.declared.StoreEnd.TheVariants as store_end
use Rattle.lxr_barrier.specs.Storing.{Storing, begun_swap, end_of, is_swap, log_after, reference_word, store_after, swaps_next, target}
use Rattle.lxr_barrier.proofs.EndLemmas.{swap_acts, swap_found, swap_tells}
use Rattle.lxr_mutator.specs.declared.phases.MutEnd.TheVariants as ends
use Rattle.lxr_mutator.specs.declared.phases.MutatorPhase.TheVariants as phase
use Rattle.lxr_mutator.specs.declared.phases.Stop.{Stop}
use Rattle.lxr_mutator.specs.declared.phases.Stop.TheVariants as stop
use Rattle.lxr_mutator.specs.Naming.{unnamed}
use Rattle.lxr_mutator.specs.Operating.{dest_of, found_reply, indexed_fields, index_of, value_of}
use Rattle.lxr_mutator.specs.Mutating.{Mutating, op_now, register, rests_in}
use Rattle.lxr_mutator.specs.Steps.{accepts_in, action, adding, after, based, data_word, done_with, finished, name_told, next_in, reached, reaching, referring, shape_told, started, stored, with_register}
use Rattle.lxr_mutator.specs.Units.{GoesOn, led}
use Rattle.lxr_mutator.specs.Found.{AddTells, AddsTellWhatTheyFind, IsUnread, RepliesSo, SwapNames, SwapTells, SwapsTellWhatTheyFind, swapping}
use Rattle.lxr_mutator.proofs.StepLemmas.{done_rests}
use Rattle.lxr_mutator.proofs.UnitLemmas.{led_more, two_more}

-- behind some steps a unit is on its way, or it is over and has replied so
abbrev Outcome : Mutating → (Way : List ℕ → Mutating → Type 0) (Tells : List ℕ → Mutating → Reply → Type 0) → List ℕ → Mutating → Type 0
Outcome m Way Tells olds to = ((rests_in to.phase ≡ false) × Way olds to) ⊎ ((rests_in to.phase ≡ true) × RepliesSo m to (Tells olds to))

-- where each step that is on its way leads to such an outcome, the whole unit has replied so
follow : (m : Mutating) (Way : List ℕ → Mutating → Type 0) (Tells : List ℕ → Mutating → Reply → Type 0)
    → ((front : List ℕ) (x : Mutating) (old : ℕ) → led m front ≡ x → Way front x → Outcome m Way Tells (front ++ old ∷ []) (after x old))
    → (olds front : List ℕ) (x : Mutating) (old : ℕ) → led m front ≡ x → Way front x → GoesOn (after x old) olds → RepliesSo m (led (after x old) olds) (Tells (front ++ old ∷ olds) (led (after x old) olds))
follow m Way Tells step [] front x old at way rest = elim (step front x old at way) [
  | inl (on, further) ↦ absurd (cc)
  | inr (over, told) ↦ told
]
follow m Way Tells step (next ∷ olds) front x old at way (on, goes) = elim (step front x old at way) [
  | inl (goes_on, further) ↦ subst (λ (ws : List ℕ). RepliesSo m (led (after x old) (next ∷ olds)) (Tells ws (led (after x old) (next ∷ olds)))) (append_assoc front (old ∷ []) (next ∷ olds))
      (follow m Way Tells step olds (front ++ old ∷ []) (after x old) next (led_more m front old ∙ ap (λ (y : Mutating). after y old) at) further goes)
  | inr (over, told) ↦ absurd (cc)
]

-- at the header of its base; in a store; at the header of what it has found
abbrev at_header : Mutating → ℕ → Mutating
at_header m base = record m { phase = phase.Base (register m base) }

abbrev in_store : Mutating → Roomy LogEntry → Storing → Mutating
in_store m log s = record m { log = log; phase = phase.Storing s }

abbrev at_found : Mutating → ℕ → Roomy LogEntry → Place → Mutating
at_found m dest log place = record m { log = log; registers = slice_set m.registers dest place; phase = phase.Referent place }

-- ---- operations at a base

-- on its way to the base, or within
data BaseWay (m : Mutating) (base : ℕ) (Inside : List ℕ → Mutating → Type 0) (front : List ℕ) (x : Mutating) : Type 0 where
  begins : front ≡ [] → x ≡ m → m.phase ≡ phase.Ready → BaseWay m base Inside front x
  at_base : (pause : ℕ) → front ≡ pause ∷ [] → x ≡ record m { phase = phase.Base (register m base) } → BaseWay m base Inside front x
  inside : Inside front x → BaseWay m base Inside front x

-- what a base operation needs: it looks at its base first, and tells `bad` where that is nil or a word can't be read
record IsAtBase (m : Mutating) (base : ℕ) (Tells : List ℕ → Mutating → Reply → Type 0) : Type 0 where
  starts : started m (op_now m) ≡ based m (register m base)
  nil : (olds : List ℕ) (to : Mutating) → (register m base).0 ≡ 0 → Tells olds to reply.Bad
  unread : (olds : List ℕ) (to : Mutating) → IsUnread m olds → Tells olds to reply.Bad

module _ (m : Mutating) (base : ℕ) (Inside : List ℕ → Mutating → Type 0) (Tells : List ℕ → Mutating → Reply → Type 0) (is : IsAtBase m base Tells) where
  abbrev Leads : List ℕ → Mutating → Type 0
  Leads olds to = Outcome m (BaseWay m base Inside) Tells olds to

  -- an operation is done, with a reply that is told
  replies : (olds : List ℕ) (x : Mutating) (r : Reply) → x.replies ≡ m.replies → Tells olds (done_with x r) r → Leads olds (done_with x r)
  replies olds x r same tells = inr (done_rests (nat_le x.every (x.since + 1)), inr (r, subst (λ rs. (done_with x r).replies ≡ pushed rs r) same refl, tells))

  -- the base is nil, or its header is next
  look : (olds : List ℕ) (pause : ℕ) → olds ≡ pause ∷ [] → (b : Bool) → nat_eq (register m base).0 0 ≡ b
      → Leads olds (if b then done_with m reply.Bad else record m { phase = phase.Base (register m base) })
  look olds pause only true e = replies olds m reply.Bad refl (is.nil olds (done_with m reply.Bad) (grind arith))
  look olds pause only false e = inl (refl, at_base pause only refl)

  -- the pause word was 1, or the operation begins
  asked_by : (olds : List ℕ) (pause : ℕ) → olds ≡ pause ∷ [] → (b : Bool) → Leads olds (if b then finished m ends.Asked else started m (op_now m))
  asked_by olds pause only true = inr (refl, inl refl)
  asked_by olds pause only false = subst (Leads olds) (sym is.starts) (look olds pause only (nat_eq (register m base).0 0) refl)

  -- a word that can't be read
  unread_by : (front : List ℕ) (x : Mutating) (old : ℕ) → led m front ≡ x → x.replies ≡ m.replies → accepts_in x x.phase old ≡ false → Leads (front ++ old ∷ []) (done_with x reply.Bad)
  unread_by front x old at same e =
      replies (front ++ old ∷ []) x reply.Bad same (is.unread (front ++ old ∷ []) (done_with x reply.Bad) (front, old, refl, ap (λ (y : Mutating). accepts_in y y.phase old) at ∙ e))

  -- so each step of the way to the base, where it is known what its header and the words within lead to
  base_step : ((pause header : ℕ) → Leads (pause ∷ header ∷ []) (reached (at_header m base) (register m base) (shape_told (header_of header))))
      → ((front : List ℕ) (x : Mutating) (old : ℕ) → led m front ≡ x → Inside front x → Leads (front ++ old ∷ []) (after x old))
      → (front : List ℕ) (x : Mutating) (old : ℕ) → led m front ≡ x → BaseWay m base Inside front x → Leads (front ++ old ∷ []) (after x old)
  base_step header within front x old at (begins none same ready) =
      subst (λ (y : Mutating). Leads (front ++ old ∷ []) (after y old)) (sym same)
      (subst (λ p. Leads (front ++ old ∷ []) (next_in m p old)) (sym ready) (asked_by (front ++ old ∷ []) old (ap (λ ws. ws ++ old ∷ []) none) (nat_eq old 1)))
  base_step header within front x old at (at_base pause one same) =
      subst (λ (y : Mutating). Leads (front ++ old ∷ []) (after y old)) (sym same) (by_word (accepts_in (at_header m base) (phase.Base (register m base)) old) refl)
    where
      by_word : (b : Bool) → accepts_in (at_header m base) (phase.Base (register m base)) old ≡ b
          → Leads (front ++ old ∷ []) (if b then reached (at_header m base) (register m base) (shape_told (header_of old)) else done_with (at_header m base) reply.Bad)
      by_word true e = subst (λ ws. Leads ws (reached (at_header m base) (register m base) (shape_told (header_of old)))) (ap (λ ws. ws ++ old ∷ []) (sym one)) (header pause old)
      by_word false e = unread_by front (at_header m base) old (at ∙ same) refl e
  base_step header within front x old at (inside known) = within front x old at known

-- ---- swaps

-- within the store, at the header of what it has found, or about to give up
data SwapWay (m : Mutating) (dest base index source : ℕ) (front : List ℕ) (x : Mutating) : Type 0 where
  stores : (s : Storing) (log : Roomy LogEntry) → x ≡ in_store m log s
      → s ≡ record (begun_swap m.regions (register m base) index (register m source)) { phase = s.phase } → end_of s ≡ None → SwapWay m dest base index source front x
  refers : (found : ℕ) (before : List ℕ) (log : Roomy LogEntry) → front ≡ before ++ found ∷ []
      → action (led m before) ≡ swapping (reference_word (register m base) index) (register m source).0 → (place_in found).0 ≢ 0 → m.names ≡ true
      → x ≡ at_found m dest log (place_in found) → SwapWay m dest base index source front x
  gives_up : (log : Roomy LogEntry) (why : Stop) → x ≡ record m { log = log; phase = phase.GivingUp why } → SwapWay m dest base index source front x

module _ (m : Mutating) (dest base index source : ℕ) (now : op_now m ≡ op.Swap dest base index source) where
  abbrev Tells : List ℕ → Mutating → Reply → Type 0
  Tells olds to r = SwapTells m dest base index source olds to r

  abbrev Within : List ℕ → Mutating → Type 0
  Within olds to = SwapWay m dest base index source olds to

  swap_at_base : IsAtBase m base Tells
  swap_at_base = record {
    starts = ap (started m) now;
    nil = λ olds to nil. inl nil;
    unread = λ olds to unread. inr unread;
  }

  abbrev SwapLeads : List ℕ → Mutating → Type 0
  SwapLeads olds to = Leads m base Within Tells swap_at_base olds to

  -- the base has the reference or not
  swap_field : (pause header : ℕ) (b : Bool) → nat_lt index (shape_told (header_of header)).refs ≡ b
      → SwapLeads (pause ∷ header ∷ []) (if b then record m { phase = phase.Storing (begun_swap m.regions (register m base) index (register m source)) } else done_with (at_header m base) reply.Range)
  swap_field pause header true e = inl (refl, inside (stores (begun_swap m.regions (register m base) index (register m source)) m.log refl refl refl))
  swap_field pause header false e =
      replies m base Within Tells swap_at_base (pause ∷ header ∷ []) (at_header m base) reply.Range refl
      (shape_told (header_of header), (pause, header, [], refl, refl), grind arith)

  swap_header : (pause header : ℕ) → SwapLeads (pause ∷ header ∷ []) (reached (at_header m base) (register m base) (shape_told (header_of header)))
  swap_header pause header =
      let here = at_header m base in
      let shape = shape_told (header_of header) in
      subst (λ (o : Op). SwapLeads (pause ∷ header ∷ []) (if nat_lt (index_of o) (indexed_fields o shape) then record here { phase = reaching here (register m base) shape o } else done_with here reply.Range)) (sym now)
      (swap_field pause header (nat_lt index shape.refs) refl)

  -- it has found a place: the name of that is looked up, or the swap is done
  swap_referred : (front : List ℕ) (old : ℕ) (log : Roomy LogEntry) → action (led m front) ≡ swapping (reference_word (register m base) index) (register m source).0 → (place_in old).0 ≢ 0
      → (names : Bool) → m.names ≡ names → SwapLeads (front ++ old ∷ []) (referring (with_register (record m { log = log }) dest (place_in old)) names (place_in old))
  swap_referred front old log acts some true tells = inl (refl, inside (refers old front log refl acts some tells refl))
  swap_referred front old log acts some false tells =
      let here = with_register (record m { log = log }) dest (place_in old) in
      let to = done_with here (reply.Swapped (Some unnamed)) in
      subst (λ (o : Op). SwapLeads (front ++ old ∷ []) (done_with here (found_reply o (Some unnamed)))) (sym now)
      (replies m base Within Tells swap_at_base (front ++ old ∷ []) here (reply.Swapped (Some unnamed)) refl
      (old, some, subst (SwapNames m dest base index source (front ++ old ∷ []) to unnamed old) (sym tells) (record { before = front; is = refl; swaps = acts; holds = refl }, refl)))

  -- it has found nil, or a place
  swap_took : (front : List ℕ) (old : ℕ) (log : Roomy LogEntry) → action (led m front) ≡ swapping (reference_word (register m base) index) (register m source).0 → (b : Bool) → nat_eq (place_in old).0 0 ≡ b
      → SwapLeads (front ++ old ∷ [])
      (if b then done_with (with_register (record m { log = log }) dest (place_in old)) (reply.Swapped None) else referring (with_register (record m { log = log }) dest (place_in old)) m.names (place_in old))
  swap_took front old log acts true e =
      replies m base Within Tells swap_at_base (front ++ old ∷ []) (with_register (record m { log = log }) dest (place_in old)) (reply.Swapped None) refl
      (old, record { before = front; is = refl; swaps = acts; holds = refl }, grind arith)
  swap_took front old log acts false e = swap_referred front old log acts (grind arith) m.names refl

  swap_took_at : (front : List ℕ) (s : Storing) (log more : Roomy LogEntry) (old : ℕ) (place : Place) → led m front ≡ in_store m log s
      → s ≡ record (begun_swap m.regions (register m base) index (register m source)) { phase = s.phase } → IsTrue (swaps_next s) → place ≡ place_in old
      → SwapLeads (front ++ old ∷ []) (stored (in_store m log s) (store_after s log old) more (Some (store_end.Swapped place)))
  swap_took_at front s log more old place at same swaps is =
      let acts : action (led m front) ≡ swapping (reference_word (register m base) index) (register m source).0 =
      ap action at ∙ swap_acts s swaps ∙ ap (λ (z : Storing). swapping (target z) z.value.0) same in
      subst (λ (p : Place). SwapLeads (front ++ old ∷ []) (stored (in_store m log s) (store_after s log old) more (Some (store_end.Swapped p)))) (sym is)
      (subst (λ (o : Op). SwapLeads (front ++ old ∷ []) (if nat_eq (place_in old).0 0 then done_with (with_register (record m { log = more }) (dest_of o) (place_in old)) (found_reply o None)
      else referring (with_register (record m { log = more }) (dest_of o) (place_in old)) m.names (place_in old))) (sym now)
      (swap_took front old more acts (nat_eq (place_in old).0 0) refl))

  -- the store has gone on
  swap_stored : (front : List ℕ) (s : Storing) (log : Roomy LogEntry) (old : ℕ) → led m front ≡ in_store m log s
      → s ≡ record (begun_swap m.regions (register m base) index (register m source)) { phase = s.phase } → end_of s ≡ None → (e : Option StoreEnd) → end_of (store_after s log old) ≡ e
      → SwapLeads (front ++ old ∷ []) (stored (in_store m log s) (store_after s log old) (log_after s log old) e)
  swap_stored front s log old at same on None end =
      inl (refl, inside (stores (store_after s log old) (log_after s log old) refl (ap (λ (z : Storing). record z { phase = (store_after s log old).phase }) same) end))
  swap_stored front s log old at same on (Some store_end.Stored) end = absurd (swap_tells s log old (ap (λ (z : Storing). is_swap z.last) same) on end)
  swap_stored front s log old at same on (Some (store_end.Swapped place)) end = let found = swap_found s log old place on end in swap_took_at front s log (log_after s log old) old place at same found.0 found.1
  swap_stored front s log old at same on (Some store_end.LogFull) end = inl (refl, inside (gives_up (log_after s log old) stop.LogFull refl))

  -- the name of what it has found
  swap_named : (front before : List ℕ) (found old : ℕ) (log : Roomy LogEntry) → front ≡ before ++ found ∷ []
      → action (led m before) ≡ swapping (reference_word (register m base) index) (register m source).0 → (place_in found).0 ≢ 0 → m.names ≡ true
      → SwapLeads (front ++ old ∷ []) (done_with (at_found m dest log (place_in found)) (reply.Swapped (Some (name_told (header_of old)))))
  swap_named front before found old log is acts some tells =
      let name = name_told (header_of old) in
      let to = done_with (at_found m dest log (place_in found)) (reply.Swapped (Some name)) in
      replies m base Within Tells swap_at_base (front ++ old ∷ []) (at_found m dest log (place_in found)) (reply.Swapped (Some name)) refl (
        found,
        some,
        subst (SwapNames m dest base index source (front ++ old ∷ []) to name found) (sym tells)
            (old, record { before = before; is = ap (λ ws. ws ++ old ∷ []) is ∙ two_more before found old; swaps = acts; holds = refl }, refl),
      )

  -- each step within
  swap_within : (front : List ℕ) (x : Mutating) (old : ℕ) → led m front ≡ x → Within front x → SwapLeads (front ++ old ∷ []) (after x old)
  swap_within front x old at (stores s log is same on) = subst (λ (y : Mutating). SwapLeads (front ++ old ∷ []) (after y old)) (sym is) (by_word (accepts_in (in_store m log s) (phase.Storing s) old) refl)
    where
      by_word : (b : Bool) → accepts_in (in_store m log s) (phase.Storing s) old ≡ b
          → SwapLeads (front ++ old ∷ []) (if b then stored (in_store m log s) (store_after s log old) (log_after s log old) (end_of (store_after s log old)) else done_with (in_store m log s) reply.Bad)
      by_word true e = swap_stored front s log old (at ∙ is) same on (end_of (store_after s log old)) refl
      by_word false e = unread_by m base Within Tells swap_at_base front (in_store m log s) old (at ∙ is) refl e
  swap_within front x old at (refers found before log begun acts some tells is) = subst (λ (y : Mutating). SwapLeads (front ++ old ∷ []) (after y old)) (sym is) (by_word (accepts_in (at_found m dest log (place_in found)) (phase.Referent (place_in found)) old) refl)
    where
      by_word : (b : Bool) → accepts_in (at_found m dest log (place_in found)) (phase.Referent (place_in found)) old ≡ b
          → SwapLeads (front ++ old ∷ []) (if b then done_with (at_found m dest log (place_in found)) (found_reply (op_now m) (Some (name_told (header_of old)))) else done_with (at_found m dest log (place_in found)) reply.Bad)
      by_word true e = subst (λ (o : Op). SwapLeads (front ++ old ∷ []) (done_with (at_found m dest log (place_in found)) (found_reply o (Some (name_told (header_of old)))))) (sym now) (swap_named front before found old log begun acts some tells)
      by_word false e = unread_by m base Within Tells swap_at_base front (at_found m dest log (place_in found)) old (at ∙ is) refl e
  swap_within front x old at (gives_up log why is) = subst (λ (y : Mutating). SwapLeads (front ++ old ∷ []) (after y old)) (sym is) (inr (refl, inl refl))

-- so a unit of a swap tells what it found
pub swaps_tell : SwapsTellWhatTheyFind
swaps_tell m [] dest base index source is now = absurd is
swaps_tell m (old ∷ olds) dest base index source (ready, goes) now =
    follow m (BaseWay m base (SwapWay m dest base index source)) (SwapTells m dest base index source)
    (base_step m base (SwapWay m dest base index source) (SwapTells m dest base index source) (swap_at_base m dest base index source now) (swap_header m dest base index source now) (swap_within m dest base index source now))
    olds [] m old refl (begins refl refl ready) goes

-- ---- adds

-- at its data word
record AddWay (m : Mutating) (base : ℕ) (front : List ℕ) (x : Mutating) : Type 0 where
  pause : ℕ
  header : ℕ
  words : front ≡ pause ∷ header ∷ []
  is : x ≡ record m { phase = phase.Adding (register m base) (shape_told (header_of header)).refs }

module _ (m : Mutating) (base index value : ℕ) (now : op_now m ≡ op.Add base index value) where
  abbrev AddSays : List ℕ → Mutating → Reply → Type 0
  AddSays olds to r = AddTells m base index value olds r

  add_at_base : IsAtBase m base AddSays
  add_at_base = record {
    starts = ap (started m) now;
    nil = λ olds to nil. inl nil;
    unread = λ olds to unread. inr unread;
  }

  abbrev AddLeads : List ℕ → Mutating → Type 0
  AddLeads olds to = Leads m base (AddWay m base) AddSays add_at_base olds to

  -- the base has the data word or not
  add_field : (pause header : ℕ) (b : Bool) → nat_lt index (shape_told (header_of header)).values ≡ b
      → AddLeads (pause ∷ header ∷ []) (if b then record m { phase = phase.Adding (register m base) (shape_told (header_of header)).refs } else done_with (at_header m base) reply.Range)
  add_field pause header true e = inl (refl, inside (record { pause = pause; header = header; words = refl; is = refl }))
  add_field pause header false e =
      replies m base (AddWay m base) AddSays add_at_base (pause ∷ header ∷ []) (at_header m base) reply.Range refl
      (shape_told (header_of header), (pause, header, [], refl, refl), grind arith)

  add_header : (pause header : ℕ) → AddLeads (pause ∷ header ∷ []) (reached (at_header m base) (register m base) (shape_told (header_of header)))
  add_header pause header =
      let here = at_header m base in
      let shape = shape_told (header_of header) in
      subst (λ (o : Op). AddLeads (pause ∷ header ∷ []) (if nat_lt (index_of o) (indexed_fields o shape) then record here { phase = reaching here (register m base) shape o } else done_with here reply.Range)) (sym now)
      (add_field pause header (nat_lt index shape.values) refl)

  -- the step that adds
  add_within : (front : List ℕ) (x : Mutating) (old : ℕ) → led m front ≡ x → AddWay m base front x → AddLeads (front ++ old ∷ []) (after x old)
  add_within front x old at way =
      let refs = (shape_told (header_of way.header)).refs in
      let here : Mutating = record m { phase = phase.Adding (register m base) refs } in
      let acts : action (led m front) ≡ adding (data_word (register m base) refs index) value =
      ap action (at ∙ way.is) ∙ ap (λ (o : Op). adding (data_word (register m base) refs (index_of o)) (value_of o)) now in
      subst (λ (y : Mutating). AddLeads (front ++ old ∷ []) (after y old)) (sym way.is)
      (replies m base (AddWay m base) AddSays add_at_base (front ++ old ∷ []) here (reply.Added old) refl
      (shape_told (header_of way.header), (way.pause, way.header, old ∷ [], ap (λ ws. ws ++ old ∷ []) way.words, refl), front, refl, acts))

-- so a unit of an add tells what it found
pub adds_tell : AddsTellWhatTheyFind
adds_tell m [] base index value is now = absurd is
adds_tell m (old ∷ olds) base index value (ready, goes) now =
    follow m (BaseWay m base (AddWay m base)) (λ ws to r. AddTells m base index value ws r)
    (base_step m base (AddWay m base) (λ ws to r. AddTells m base index value ws r) (add_at_base m base index value now) (add_header m base index value now) (add_within m base index value now))
    olds [] m old refl (begins refl refl ready) goes
