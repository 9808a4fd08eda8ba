-- An empty pocket takes what is to be scanned, granule by granule, until it is full; so do those of all tracers, one after another.
use Rattle.std.proofs.Common.{◌≡◌, ℕ, zero, suc, ◌+◌, ◌-◌, ◌*◌, ◌/◌, ◌<◌, ◌≤◌, refl, sym, ap, subst, ◌∙◌, inl, inr, arith, Bool, true, false, List, [], ◌∷◌, ◌++◌, length, map, nat_lt, nat_le, take, length-append}
use Rattle.std.specs.Prelude.{Some, IsTrue, not, ◌⊎◌, ◌&&◌, if◌then◌else◌, slice_get, slice_index_or, slice_set}
use Rattle.std.proofs.lemmas.Bool.{le-leb, lt-ltb, ltb-true}
use Rattle.std.proofs.lemmas.Bool.Decides.{leb_tells}
use Rattle.std.proofs.lemmas.List.{append-nil, length-map, map-set, take_all, take_more_set}
use Rattle.std.proofs.lemmas.Grind.{flat_map-append}
use Rattle.std.proofs.lemmas.List.Concat.{flat_map-cons}
use Rattle.std.proofs.lemmas.Option.{slice_get-get_or}
use Rattle.lxr_layout.specs.Places.{place_at}
use Rattle.lxr_layout.specs.declared.TheConstants.{GRANULES_IN_BLOCK}
use Rattle.lxr_layout.specs.declared.Place.{Place}
use Rattle.lxr_layout.specs.declared.limits.Limits.{Limits}
use Rattle.lxr_layout.specs.Spaces.{counts_region, region_begin, regions_of}
use Rattle.lxr_image.specs.Tables.{Tables}
use Rattle.lxr_image.specs.Reads.{granule_of}
use Rattle.lxr_image_search.specs.declared.Wanted.TheVariants.{ToScan}
use Rattle.lxr_image_search.specs.Search.{IsNextWanted, NoneWanted, is_wanted}
use Rattle.lxr_actor.proofs.Runs.{slice_get-set_other}
use Rattle.lxr_helper.specs.Words.{is_in_heap}
use Rattle.lxr_trace.specs.Tracing.{TracerState}
use Rattle.lxr_trace.specs.Steps.{offered}
use Rattle.lxr_core_sim_helpers.specs.TracerShowing.{IsTracerOf}
use Rattle.lxr_core.specs.declared.actors.AnyActor.{AnyActor}
use Rattle.lxr_core.specs.declared.actors.AnyActor.TheVariants as any
use Rattle.lxr_core.specs.Actors.{tracers_in}
use Rattle.lxr_core.specs.Filling.{FillsActor, FillsPocket, FillsPockets, HaveFilled, HoldInOrder, IsToScan, MayAllFill, MayFill, holding_places, in_pockets, places_between, places_of, unfilled}
use Rattle.lxr_core.proofs.FillingLemmas.{between_next, between_up_to, between_more, each_place, place_once, place_stands}
use Rattle.lxr_core.proofs.MappedLemmas.{mapped, set_itself}
use Rattle.lxr_core.proofs.OrderLemmas.{tracers_of_both}

-- ---- one pocket

-- a granule of the heap has a place that pockets take
placed : (l : Limits) (d : TracerState) (granule : ℕ) → d.regions ≡ regions_of l → granule < GRANULES_IN_BLOCK * l.blocks → is_in_heap d.regions (granule + 1) ≡ true
placed l d granule regions within =
    let counts : d.regions.counts ≡ region_begin l counts_region = ap (λ r. r.counts) regions in
    let last : granule + 1 ≤ d.regions.counts / 2 = omega (arith, counts, within) in
    both (nat_le 1 (granule + 1)) (nat_le (granule + 1) (d.regions.counts / 2)) (le-leb 1 (granule + 1) (omega arith)) (le-leb (granule + 1) (d.regions.counts / 2) last)
  where
    both : (a b : Bool) → a ≡ true → b ≡ true → (a && b) ≡ true
    both true true p q = refl
    both false b p q = absurd (cc)
    both true false p q = absurd (cc)

-- what comes of an offer: the place is taken exactly where it lies in the heap and there is room
abbrev offer_by : TracerState → Place → Bool → TracerState × Bool
offer_by d place takes = if takes then (holding_places d (d.pocket.items ++ place ∷ []), true) else (d, false)

-- the pocket with one place more
record IsTaken (d after : TracerState) (place : Place) : Type 0 where
  pub room : length d.pocket.items < 64
  pub taken : after ≡ holding_places d (d.pocket.items ++ place ∷ [])

-- or as it was, being full
record IsRefused (d after : TracerState) : Type 0 where
  pub full : 64 ≤ length d.pocket.items
  pub same : after ≡ d

-- a place is taken only where there is room
taken_offer : (d after : TracerState) (place : Place) (lies room : Bool) → nat_lt (length d.pocket.items) 64 ≡ room → (after, true) ≡ offer_by d place (lies && room) → IsTaken d after place
taken_offer d after place true true has e = record { room = ltb-true (length d.pocket.items) 64 has; taken = ap (λ (p : TracerState × Bool). p.0) e }
taken_offer d after place true false has e = let bad : true ≡ false = ap (λ (p : TracerState × Bool). p.1) e in absurd (cc)
taken_offer d after place false true has e = let bad : true ≡ false = ap (λ (p : TracerState × Bool). p.1) e in absurd (cc)
taken_offer d after place false false has e = let bad : true ≡ false = ap (λ (p : TracerState × Bool). p.1) e in absurd (cc)

-- and refused only where there is none
refused_offer : (d after : TracerState) (place : Place) (room : Bool) → nat_lt (length d.pocket.items) 64 ≡ room → (after, false) ≡ offer_by d place (true && room) → IsRefused d after
refused_offer d after place true has e = let bad : false ≡ true = ap (λ (p : TracerState × Bool). p.1) e in absurd (cc)
refused_offer d after place false has e = record { full = not_less (length d.pocket.items) has; same = ap (λ (p : TracerState × Bool). p.0) e }
  where
    not_less : (n : ℕ) → nat_lt n 64 ≡ false → 64 ≤ n
    not_less n unlike = elim (leb_tells 64 n) [ inl c ↦ c.1 | inr c ↦ let like = lt-ltb n 64 c.1 in let bad : false ≡ true = sym unlike ∙ like in absurd (cc) ]

-- of a space, and a tracer of it
module _ (t : Tables) (l : Limits) (from next granule : ℕ) (d now after : TracerState) (of : IsTracerOf l d) (reached : from ≤ next) (places : now ≡ holding_places d (places_between t from next))
    (few : length (places_between t from next) ≤ 64) (is_next : IsNextWanted t ToScan next (GRANULES_IN_BLOCK * l.blocks) granule) where
  items : now.pocket.items ≡ places_between t from next
  items = ap (λ (x : TracerState). x.pocket.items) places

  lies : is_in_heap now.regions (granule + 1) ≡ true
  lies = placed l now granule (ap (λ (x : TracerState). x.regions) places ∙ of.regions) is_next.within

  -- a place that is refused leaves a full pocket
  pub refuses : (after, false) ≡ offered now (place_at granule) → FillsPocket t l.blocks from granule d after
  refuses e =
      let is = refused_offer now after (place_at granule) (nat_lt (length now.pocket.items) 64) refl (e ∙ ap (λ c. offer_by now (place_at granule) (c && nat_lt (length now.pocket.items) 64)) lies) in
      let full = is.full in
      let passed = between_up_to t from next granule reached is_next.reached is_next.passed in
      let same : length now.pocket.items ≡ length (places_between t from granule) = ap length (items ∙ sym passed) in
      let far = is_next.reached in let within = is_next.within in
      let as_many : length now.pocket.items ≡ length (places_between t from next) = ap length items in
      record {
        reached = omega (arith, far, reached);
        within = omega (arith, within);
        places = is.same ∙ places ∙ ap (holding_places d) (sym passed);
        few = omega (arith, same, few, as_many);
        full = λ less. absurd (omega (arith, less, same, full));
      }

  -- one that is taken stands behind the others
  pub takes : (after, true) ≡ offered now (place_at granule) → (after ≡ holding_places d (places_between t from (granule + 1))) × (length (places_between t from (granule + 1)) ≤ 64)
  takes e =
      let is = taken_offer now after (place_at granule) (is_in_heap now.regions (granule + 1)) (nat_lt (length now.pocket.items) 64) refl e in
      let more = between_next t from next (GRANULES_IN_BLOCK * l.blocks) granule reached is_next in
      let room = is.room in
      let longer : length (places_between t from (granule + 1)) ≡ length now.pocket.items + 1 =
      ap length more ∙ length-append (places_between t from next) (place_at granule ∷ []) ∙ ap (λ n. n + 1) (ap length (sym items)) in (
        is.taken ∙ ap (λ z. holding_places now (z ++ place_at granule ∷ [])) items ∙ ap (λ z. holding_places z (places_between t from next ++ place_at granule ∷ [])) places ∙ ap (holding_places d) (sym more),
        omega (arith, longer, room),
      )

-- where nothing is left the heap's end is reached
pub fills_to_end : (t : Tables) (blocks from next : ℕ) (d now : TracerState) → from ≤ next → next ≤ GRANULES_IN_BLOCK * blocks → now ≡ holding_places d (places_between t from next) → length (places_between t from next) ≤ 64
    → NoneWanted t ToScan next (GRANULES_IN_BLOCK * blocks) → FillsPocket t blocks from (GRANULES_IN_BLOCK * blocks) d now
fills_to_end t blocks from next d now reached within places few none =
    let same = between_up_to t from next (GRANULES_IN_BLOCK * blocks) reached within none in
    record {
      reached = omega (arith, reached, within);
      within = omega arith;
      places = places ∙ ap (holding_places d) (sym same);
      few = let as_many = ap length same in omega (arith, few, as_many);
      full = λ less. refl;
    }

-- at first there is no place
pub holds_none : (t : Tables) (from : ℕ) (d : TracerState) → d.pocket.items ≡ [] → d ≡ holding_places d (places_between t from from)
holds_none t from d empty =
    let none : places_between t from from ≡ [] = ap (places_of t from) (let e : from - from ≡ 0 = omega arith in e) in
    ap (holding_places d) (empty ∙ sym none)

pub none_yet : (t : Tables) (from : ℕ) → length (places_between t from from) ≤ 64
none_yet t from = let none : length (places_between t from from) ≡ 0 = ap (λ n. length (places_of t from n)) (let e : from - from ≡ 0 = omega arith in e) in omega (arith, none)

-- ---- all pockets

-- what stands in two lists behind one another stands in one of them
in_both : {X : Type 0} (xs ys : List X) (i : ℕ) (y : X) → slice_get (xs ++ ys) i ≡ Some y → (slice_get xs i ≡ Some y) ⊎ ((j : ℕ) × (slice_get ys j ≡ Some y))
in_both [] ys i y there = inr (i, there)
in_both (x ∷ xs) ys zero y there = inl there
in_both (x ∷ xs) ys (suc i) y there = in_both xs ys i y there

-- what stands in one pocket stands in all of them together
pub stands_in_all : (tracers : List TracerState) (i k : ℕ) (d : TracerState) (place : Place) → slice_get tracers i ≡ Some d → slice_get d.pocket.items k ≡ Some place → (j : ℕ) × (slice_get (in_pockets tracers) j ≡ Some place)
stands_in_all [] i k d place there at = absurd (cc)
stands_in_all (x ∷ tracers) zero k d place there at =
    let same : d ≡ x = cc in
    (k, ap (λ z. slice_get z k) (flat_map-cons (λ (z : TracerState). z.pocket.items) x tracers) ∙ slice_get-front x.pocket.items (in_pockets tracers) k place (ap (λ (z : TracerState). slice_get z.pocket.items k) (sym same) ∙ at))
  where
    slice_get-front : {X : Type 0} (xs ys : List X) (k : ℕ) (y : X) → slice_get xs k ≡ Some y → slice_get (xs ++ ys) k ≡ Some y
    slice_get-front [] ys k y at = absurd (cc)
    slice_get-front (z ∷ xs) ys zero y at = at
    slice_get-front (z ∷ xs) ys (suc k) y at = slice_get-front xs ys k y at
stands_in_all (x ∷ tracers) (suc i) k d place there at =
    let (j, stands) = stands_in_all tracers i k d place there at in
    (length x.pocket.items + j, ap (λ z. slice_get z (length x.pocket.items + j)) (flat_map-cons (λ (z : TracerState). z.pocket.items) x tracers) ∙ behind x.pocket.items (in_pockets tracers) j ∙ stands)
  where
    behind : {X : Type 0} (xs ys : List X) (j : ℕ) → slice_get (xs ++ ys) (length xs + j) ≡ slice_get ys j
    behind [] ys j = ap (slice_get ys) (let e : 0 + j ≡ j = omega arith in e)
    behind (z ∷ xs) ys j = ap (slice_get (z ∷ (xs ++ ys))) (let e : suc (length xs) + j ≡ suc (length xs + j) = omega arith in e) ∙ behind xs ys j

-- further tracers hold what is to be scanned between two granules
record Adds (t : Tables) (blocks from to : ℕ) (more : List TracerState) : Type 0 where
  reached : from ≤ to
  within : to ≤ GRANULES_IN_BLOCK * blocks
  places : in_pockets more ≡ places_between t from to
  few : (i : ℕ) (d : TracerState) → slice_get more i ≡ Some d → length d.pocket.items ≤ 64
  full : (i : ℕ) (d : TracerState) → slice_get more i ≡ Some d → length d.pocket.items < 64 → to ≡ GRANULES_IN_BLOCK * blocks
  order : HoldInOrder t blocks from to more

-- further ones that hold places in order go on where the others have stopped
in_order_more : (t : Tables) (blocks from at to : ℕ) (first more : List TracerState) → HoldInOrder t blocks from at first → HoldInOrder t blocks at to more → HoldInOrder t blocks from to (first ++ more)
in_order_more t blocks from at to [] more is further = subst (λ n. HoldInOrder t blocks n to more) is further
in_order_more t blocks from at to (d ∷ first) more (next, holds, is) further = (next, holds, in_order_more t blocks next at to first more is further)

-- none holds nothing
adds_none : (t : Tables) (blocks from : ℕ) → from ≤ GRANULES_IN_BLOCK * blocks → Adds t blocks from from []
adds_none t blocks from within = record {
  reached = omega arith;
  within = within;
  places = sym (ap (places_of t from) (let e : from - from ≡ 0 = omega arith in e));
  few = λ i d there. absurd (cc);
  full = λ i d there less. absurd (cc);
  order = refl;
}

-- one whose pocket was filled holds that
adds_one : (t : Tables) (blocks from to : ℕ) (d e : TracerState) → FillsPocket t blocks from to d e → Adds t blocks from to (e ∷ [])
adds_one t blocks from to d e is =
    let items : e.pocket.items ≡ places_between t from to = ap (λ (x : TracerState). x.pocket.items) is.places in
    record {
      reached = is.reached;
      within = is.within;
      places = flat_map-cons (λ (x : TracerState). x.pocket.items) e [] ∙ append-nil e.pocket.items ∙ items;
      few = λ i x there. (let few = is.few in let same = length_of i x there items in omega (arith, few, same));
      full = λ i x there less. is.full (let same = length_of i x there items in omega (arith, less, same));
      order = (to, record { reached = is.reached; places = items; few = is.few; full = is.full }, refl);
    }
  where
    length_of : (i : ℕ) (x : TracerState) → slice_get (e ∷ []) i ≡ Some x → e.pocket.items ≡ places_between t from to → length x.pocket.items ≡ length (places_between t from to)
    length_of zero x there items = let same : x ≡ e = cc in ap (λ (z : TracerState). length z.pocket.items) same ∙ ap length items
    length_of (suc i) x there items = absurd (cc)

-- what comes of an actor whose pocket was filled
record IsFilled (t : Tables) (blocks from to : ℕ) (before after : AnyActor) : Type 0 where
  adds : Adds t blocks from to (tracers_in (after ∷ []))
  same : unfilled after ≡ unfilled before

filled : (t : Tables) (blocks from to : ℕ) (before after : AnyActor) → from ≤ GRANULES_IN_BLOCK * blocks → FillsActor t blocks from to before after → IsFilled t blocks from to before after
filled t blocks from to (any.Mutator m) after within is =
    subst (λ n. IsFilled t blocks from n (any.Mutator m) after) (sym is.1) (subst (IsFilled t blocks from from (any.Mutator m)) (sym is.0) (record { adds = adds_none t blocks from within; same = refl }))
filled t blocks from to (any.Decrementer d) after within is =
    subst (λ n. IsFilled t blocks from n (any.Decrementer d) after) (sym is.1) (subst (IsFilled t blocks from from (any.Decrementer d)) (sym is.0) (record { adds = adds_none t blocks from within; same = refl }))
filled t blocks from to (any.Tracer d) after within (e, is, fills) =
    subst (IsFilled t blocks from to (any.Tracer d)) (sym is)
    (record { adds = adds_one t blocks from to d e fills; same = ap (λ (x : TracerState). any.Tracer (holding_places x [])) fills.places })

-- at first none is filled
pub none_filled : (t : Tables) (blocks : ℕ) (before : List AnyActor) → HaveFilled t blocks 0 before before 0
none_filled t blocks before = record { within = omega arith; same = refl; others = λ i past. refl; places = refl; few = λ i d there. absurd (cc); full = λ i d there less. absurd (cc); order = refl }

-- of actors of which the first so many are filled
module _ (t : Tables) (blocks from : ℕ) (before after : List AnyActor) (n : ℕ) (d : AnyActor) (is : HaveFilled t blocks from before after n) (less : n < length before) where
  inside : n < length after
  inside =
      let many = sym (length-map after unfilled) ∙ ap length is.same ∙ length-map before unfilled in
      omega (arith, many, less)

  here : slice_get after n ≡ Some (slice_index_or after n d)
  here = slice_get-get_or after n d inside

  -- the next one is what it was, so it may be filled
  pub next_may_fill : (l : Limits) → MayAllFill l before → MayFill l (slice_index_or after n d)
  next_may_fill l may = may n (slice_index_or after n d) (sym (is.others n (omega arith)) ∙ here)

  -- and then one more is
  pub one_more_filled : (to : ℕ) (x : AnyActor) → FillsActor t blocks from to (slice_index_or after n d) x → HaveFilled t blocks to before (slice_set after n x) (n + 1)
  one_more_filled to x fills =
      let new = filled t blocks from to (slice_index_or after n d) x is.within fills in
      let adds = new.adds in
      let reached = adds.reached in let within = adds.within in
      let first = tracers_in (take n after) in
      let more = tracers_in (x ∷ []) in
      let all : tracers_in (take (n + 1) (slice_set after n x)) ≡ first ++ more = ap tracers_in (take_more_set after n x inside) ∙ tracers_of_both (take n after) (x ∷ []) in
      record {
        within = adds.within;
        same = map-set unfilled after n x ∙ ap (slice_set (map unfilled after) n) new.same
            ∙ set_itself (map unfilled after) n (unfilled (slice_index_or after n d)) (mapped unfilled after n (slice_index_or after n d) here) ∙ is.same;
        others = λ i past. slice_get-set_other after n i x (λ e. omega (arith, e, past)) ∙ is.others i (omega (arith, past));
        places = ap in_pockets all ∙ flat_map-append (λ (z : TracerState). z.pocket.items) first more ∙ ap (λ z. z ++ in_pockets more) is.places ∙ ap (λ z. places_between t 0 from ++ z) adds.places
            ∙ sym (between_more t 0 from to (omega arith) reached);
        few = λ i e there. elim (in_both first more i e (sym (ap (λ z. slice_get z i) all) ∙ there)) [ inl p ↦ is.few i e p | inr p ↦ adds.few p.0 e p.1 ];
        full = λ i e there short. elim (in_both first more i e (sym (ap (λ z. slice_get z i) all) ∙ there)) [
          | inl p ↦ let end = is.full i e p short in omega (arith, end, reached, within)
          | inr p ↦ adds.full p.0 e p.1 short
        ];
        order = subst (HoldInOrder t blocks 0 to) (sym all) (in_order_more t blocks 0 from to first more is.order adds.order);
      }

-- once all are filled, so are the pockets
pub pockets_filled : (t : Tables) (blocks to : ℕ) (before after : List AnyActor) → HaveFilled t blocks to before after (length before) → FillsPockets t blocks (tracers_in after)
pockets_filled t blocks to before after is =
    let many : length after ≡ length before = sym (length-map after unfilled) ∙ ap length is.same ∙ length-map before unfilled in
    let whole : take (length before) after ≡ after = take_all (length before) after (omega (arith, many)) in
    let tracers = tracers_in after in
    let places : in_pockets tracers ≡ places_between t 0 to = ap (λ z. in_pockets (tracers_in z)) (sym whole) ∙ is.places in
    let at : (i : ℕ) (d : TracerState) → slice_get tracers i ≡ Some d → slice_get (tracers_in (take (length before) after)) i ≡ Some d = λ i d there. ap (λ z. slice_get (tracers_in z) i) whole ∙ there in
    let within = is.within in
    let stands : (k : ℕ) (place : Place) → slice_get (in_pockets tracers) k ≡ Some place → slice_get (places_between t 0 to) k ≡ Some place = λ k place there. ap (λ z. slice_get z k) (sym places) ∙ there in
    record {
      few = λ i d there. is.few i d (at i d there);
      found = λ k place there.
          let from = each_place t 0 (to - 0) k place (stands k place there) in
          found_at from.granule place from.is from.scan (let high = from.high in omega (arith, high, within));
      once = λ j k place one other. place_once t 0 (to - 0) j k place (stands j place one) (stands k place other);
      all = λ i d there short place scan.
          let end = is.full i d (at i d there) short in
          let some = scan.in_heap.0 in
          let low = scan.in_heap.1 in
          let below : granule_of place.0 < 0 + (to - 0) = omega (arith, end, some, low) in
          let told : IsTrue (is_wanted t ToScan (granule_of place.0)) = both_told (t.grays (granule_of place.0)) (t.marks (granule_of place.0)) scan.gray scan.unmarked in
          let (k, is_there) = place_stands t 0 (to - 0) (granule_of place.0) (omega arith) below told in
          let same : granule_of place.0 + 1 ≡ place.0 = omega (arith, some) in
          (k, ap (λ z. slice_get z k) places ∙ is_there ∙ ap (λ (n : ℕ). Some (record { 0 = n })) same);
      order = (to, subst (λ z. HoldInOrder t blocks 0 to (tracers_in z)) whole is.order);
    }
  where
    both_told : (gray mark : Bool) → IsTrue gray → mark ≡ false → IsTrue (gray && not mark)
    both_told true false g m = refl
    both_told true true g m = absurd (cc)
    both_told false mark g m = absurd (cc)

    parts_told : (gray mark : Bool) → IsTrue (gray && not mark) → IsTrue gray × (mark ≡ false)
    parts_told true false is = (refl, refl)
    parts_told true true is = absurd (cc)
    parts_told false true is = absurd (cc)
    parts_told false false is = absurd (cc)

    found_at : (granule : ℕ) (place : Place) → place ≡ place_at granule → IsTrue (is_wanted t ToScan granule) → granule < GRANULES_IN_BLOCK * blocks → IsToScan t blocks place
    found_at granule place same scan low =
        let number : place.0 ≡ granule + 1 = ap (λ (p : Place). p.0) same in
        let here : granule_of place.0 ≡ granule = omega (arith, number) in
        let told = parts_told (t.grays granule) (t.marks granule) scan in
        record { in_heap = (omega (arith, number), omega (arith, number, low)); gray = ap t.grays here ∙ told.0; unmarked = ap t.marks here ∙ told.1 }
