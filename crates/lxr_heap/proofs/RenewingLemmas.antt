-- Right behind a pause that collected the names of all that is left may be renewed, and the heap is then that of the history with the renewal.
use Rattle.std.proofs.Common.{◌≡◌, ℕ, ◌+◌, ◌^◌, ◌≤◌, refl, sym, ap, subst, ◌∙◌, inl, inr, arith, Bool, true, false, cond, List, [], ◌∷◌, length, map, filter, Some}
use Rattle.std.specs.Prelude.{◌↔◌, ◌||◌, IsTrue}
use Rattle.std.specs.List.{AllByRecursion}
use Rattle.std.proofs.lemmas.Bool.{or_cases}
use Rattle.std.proofs.lemmas.List.{length-map}
use Rattle.lxr_layout.specs.declared.Name.{Name}
use Rattle.lxr_layout.specs.declared.TheConstants.{DECREMENT_COUNT}
use Rattle.lxr_layout.specs.declared.limits.Limits.{Limits}
use Rattle.lxr_graph.specs.declared.report.Report.{Report}
use Rattle.lxr_graph.specs.Names.{AreInOrder, has, same_name, without}
use Rattle.lxr_graph.specs.State.{State, object_at, world_name}
use Rattle.lxr_image.specs.declared.space.Space.{Space}
use Rattle.lxr_image.specs.Opened.{no_tally}
use Rattle.lxr_image.specs.Spaces.{tables_of}
use Rattle.lxr_image.specs.Tables.{Tables}
use Rattle.lxr_model.specs.Moments.{Moment}
use Rattle.lxr_model.specs.Reachable.{Reachable, Refers, held}
use Rattle.lxr_model_counting.proofs.DistinctLemmas.{later_has}
use Rattle.lxr_invariant.specs.AbstractState.{leaving}
use Rattle.lxr_invariant.specs.Quiescent.{IsAtRest}
use Rattle.lxr_full.specs.Room.{HasWorld}
use Rattle.lxr_large_model.specs.Full.{IsFresh}
use Rattle.lxr_large_model.specs.History.{LargeItem, Renewed, large_moment, large_state}
use Rattle.lxr_large_model.specs.Pauses.{IsLegalLarge, most_logged}
use Rattle.lxr_graph.specs.Renewing.{renewed_graph, renewed_held, renewed_name, renewed_object, renewed_state}
use Rattle.lxr_model.specs.Moments.{renewed_moment}
use Rattle.lxr_large_model.specs.Renewing.{AreCounted, counted_name, renewed_body}
use Rattle.lxr_large_model.specs.State.{Large}
use Rattle.lxr_large_bodies.specs.Bodies.{AreAmong, Body, renamed}
use Rattle.lxr_large_bodies.specs.Kept.{HoldsBodies, Kept, kept_of}
use Rattle.lxr_renew.specs.Renewing.{MayRenew, Renews}
use Rattle.lxr_renew.proofs.NameLemmas.{begins_with_world, has_map, map_has, renewed_one, same_renewed}
use Rattle.lxr_renew.proofs.StateLemmas.{IsLeft, reachable_still}
use Rattle.lxr_large_model.proofs.SerialLemmas.{serial_tells}
use Rattle.lxr_heap.specs.declared.heap.Heap.{Heap}
use Rattle.lxr_heap.specs.Holding.{AreApart, IsCollected, IsHeapOf, IsMade, IsOther, StandAt, abstract_after, last_report, limits_of, terms_of}
use Rattle.lxr_heap.specs.Renewing.{RenewsHeap}
use Rattle.lxr_heap.specs.Telling.{TellsHeap}
use Rattle.lxr_heap.proofs.BodyLemmas.{by_tests, held_pass, kept_by}
use Rattle.lxr_heap.proofs.CallLemmas.{none_gone, rests_whole}
use Rattle.lxr_heap.proofs.EarlyLemmas.{none_are_gone, without_none}
use Rattle.lxr_heap.proofs.FullLemmas.{of_thread}
use Rattle.lxr_heap.proofs.HeapLemmas.{one_thread, standing}
use Rattle.lxr_heap.proofs.MomentLemmas.{two_rows}
use Rattle.lxr_heap.proofs.SameLemmas.{stands_retold}
use Rattle.lxr_heap.proofs.TellingLemmas.{same_state, settled}

-- ---- bodies

-- a body that is to be held, under its new name
abbrev renamed_kept : List Name → Kept → Kept
renamed_kept ns k = record k { name = renewed_name ns k.name }

kept_renamed : (ns : List Name) (bs : List Body) → map kept_of (map (renamed ns) bs) ≡ map (renamed_kept ns) (map kept_of bs)
kept_renamed ns [] = refl
kept_renamed ns (b ∷ bs) = ap (λ z. kept_of (renamed ns b) ∷ z) (kept_renamed ns bs)

-- these large names under their new names
abbrev large_of_left : List Name → List Large → List Large
large_of_left ns ls = map (renewed_body ns) (filter (λ (l : Large). has ns l.name) ls)

-- one more large name, where those behind it are told
one_renamed : (ns : List Name) (old young old' young' : Name → Bool) (l : Large) (ls : List Large) → (old l.name || young l.name) ≡ has ns l.name → young l.name ≡ false → young' (renewed_name ns l.name) ≡ false
    → (IsTrue (has ns l.name) → IsTrue (old' (renewed_name ns l.name))) → kept_by old' young' (large_of_left ns ls) ≡ map (renamed_kept ns) (kept_by old young ls) → (c : Bool) → has ns l.name ≡ c
    → kept_by old' young' (large_of_left ns (l ∷ ls)) ≡ map (renamed_kept ns) (kept_by old young (l ∷ ls))
one_renamed ns old young old' young' l ls both none none' there rest true e =
    let new : (old' (renewed_name ns l.name) || young' (renewed_name ns l.name)) ≡ true = ap (λ b. b || young' (renewed_name ns l.name)) (there e) in
    ap (λ b. kept_by old' young' (map (renewed_body ns) (cond b (l ∷ filter (λ (l : Large). has ns l.name) ls) (filter (λ (l : Large). has ns l.name) ls)))) e
    ∙ ap (λ b. cond b (record { name = renewed_name ns l.name; words = l.words; young = young' (renewed_name ns l.name) } ∷ kept_by old' young' (large_of_left ns ls)) (kept_by old' young' (large_of_left ns ls))) new
    ∙ (λ i. record { name = renewed_name ns l.name; words = l.words; young = (none' ∙ sym none) i } ∷ rest i)
    ∙ sym (ap (λ b. map (renamed_kept ns) (cond b (record { name = l.name; words = l.words; young = young l.name } ∷ kept_by old young ls) (kept_by old young ls))) (both ∙ e))
one_renamed ns old young old' young' l ls both none none' there rest false e =
    ap (λ b. kept_by old' young' (map (renewed_body ns) (cond b (l ∷ filter (λ (l : Large). has ns l.name) ls) (filter (λ (l : Large). has ns l.name) ls)))) e
    ∙ rest
    ∙ sym (ap (λ b. map (renamed_kept ns) (cond b (record { name = l.name; words = l.words; young = young l.name } ∷ kept_by old young ls) (kept_by old young ls))) (both ∙ e))

-- of the large names exactly these are kept, and no new name is young
large_renamed : (ns : List Name) (old young old' young' : Name → Bool) (ls : List Large) → AllByRecursion (λ (l : Large). (old l.name || young l.name) ≡ has ns l.name) ls
    → ((n : Name) → young n ≡ false) → ((n : Name) → young' n ≡ false) → ((n : Name) → IsTrue (has ns n) → IsTrue (old' (renewed_name ns n)))
    → kept_by old' young' (large_of_left ns ls) ≡ map (renamed_kept ns) (kept_by old young ls)
large_renamed ns old young old' young' [] all none none' there = refl
large_renamed ns old young old' young' (l ∷ ls) all none none' there =
    one_renamed ns old young old' young' l ls all.0 (none l.name) (none' (renewed_name ns l.name)) (there l.name) (large_renamed ns old young old' young' ls all.1 none none' there) (has ns l.name) refl

-- each large name that is left has one of so many serials
names_renewed : (ns : List Name) (order : AreInOrder (world_name ∷ ns)) (ls : List Large) → AllByRecursion (IsMade (length ns)) (map (renewed_body ns) (filter (λ (l : Large). has ns l.name) ls))
names_renewed ns order [] = tt
names_renewed ns order (l ∷ ls) = elim (has ns l.name) as (λ c. has ns l.name ≡ c → AllByRecursion (IsMade (length ns)) (map (renewed_body ns) (cond c (l ∷ filter (λ (l : Large). has ns l.name) ls) (filter (λ (l : Large). has ns l.name) ls)))) [
  | true ↦ λ e.
      let new = renewed_one ns order l.name e in
      (record { thread = ap (λ (q : Name). q.thread) new; serial = subst (λ (q : Name). q.serial ≤ length ns) (sym new) (serial_tells ns l.name e).0 }, names_renewed ns order ls)
  | false ↦ λ e. names_renewed ns order ls
] refl

-- bodies stay apart
others_renewed : (ns : List Name) (order : AreInOrder (world_name ∷ ns)) (b : Body) (bs : List Body) → IsTrue (has (world_name ∷ ns) b.name) → AllByRecursion (λ (b : Body). IsTrue (has (world_name ∷ ns) b.name)) bs
    → AllByRecursion (IsOther b) bs → AllByRecursion (IsOther (renamed ns b)) (map (renamed ns) bs)
others_renewed ns order b [] h all apart = tt
others_renewed ns order b (d ∷ ds) h all apart = (
  record { named = same_renewed ns order b.name d.name h all.0 ∙ apart.0.named; apart = apart.0.apart },
  others_renewed ns order b ds h all.1 apart.1,
)

apart_renewed : (ns : List Name) (order : AreInOrder (world_name ∷ ns)) (blocks : ℕ) (bs : List Body) → AllByRecursion (λ (b : Body). IsTrue (has (world_name ∷ ns) b.name)) bs → AreApart blocks bs → AreApart blocks (map (renamed ns) bs)
apart_renewed ns order blocks [] all apart = tt
apart_renewed ns order blocks (b ∷ bs) all apart = (
  record { words = apart.0.words; some = apart.0.some; within = apart.0.within },
  others_renewed ns order b bs all.0 all.1 apart.1,
  apart_renewed ns order blocks bs all.1 apart.2,
)

-- ---- the heap

-- x is the heap before what is left is told, and y behind that
module _ (x y : Heap) (h : List LargeItem) (fresh : IsTrue x.fresh) (tells : TellsHeap x y h) where
  abbrev is : IsHeapOf y h
  is = tells.holds

  abbrev m : Moment
  m = large_moment h

  abbrev pub f : IsFresh h
  f = is.fresh.0 (ap (λ (z : Heap). z.fresh) tells.heap ∙ fresh)

  abbrev c : IsCollected m
  c = is.collected f

  -- nothing is gone
  none : y.gone.items ≡ []
  none = none_gone y h is f

  all_left : without m.unreclaimed x.gone.items ≡ m.unreclaimed
  all_left = ap (without m.unreclaimed) (sym (ap (λ (z : Heap). z.gone.items) tells.heap) ∙ none) ∙ without_none m.unreclaimed

  -- the names of what is left, but for the world's
  pub left_names : (ns : List Name) × (m.unreclaimed ≡ world_name ∷ ns)
  left_names = let follows = is.follows in begins_with_world m.unreclaimed follows.unreclaimed (follows.stuck world_name follows.world)

  abbrev pub ns : List Name
  ns = left_names.0

  names : m.unreclaimed ≡ world_name ∷ ns
  names = left_names.1

  order : AreInOrder (world_name ∷ ns)
  order = subst AreInOrder names is.follows.unreclaimed

  few : length ns ≤ 2 ^ 27
  few =
      let most = is.few in
      let blocks = is.stands.0.safepoint.holds.space.limits.blocks.1 in
      let long = ap length names in
      omega (arith, most, blocks, long)

  pub counted : AreCounted y.space.report.told.items ns
  counted = record { names = tells.names ∙ all_left ∙ names; order = order; few = let k = few in omega (arith, k) }

  -- one count more than names but the world's
  pub counted_many : length y.space.report.told.items ≡ length ns + 1
  counted_many = let all = ap length counted.names in let long = length-map y.space.report.told.items counted_name in omega (arith, all, long)

  pub counted_few : length y.space.report.told.items ≤ 2 ^ 27 + 1
  counted_few = let k = few in let all = counted_many in omega (arith, k, all)

  -- so wherever objects stand, the space is at rest for all that the history leads to
  rests_at : (at : Name → ℕ) → StandAt y h at → IsAtRest y.space (abstract_after h at)
  rests_at at stands = rests_whole y h (standing y h is at stands) f

  pub may_renew : (at : Name → ℕ) → IsAtRest y.space (abstract_after h at) → MayRenew y.space (abstract_after h at) ns
  may_renew at rests = record {
    rests = rests;
    rows = (let two = two_rows y.space (abstract_after h at) rests (one_thread y h is) in let one = one_thread y h is in omega (arith, two, one));
    settled = settled y h is f;
    untraced = is.untraced;
    names = names;
    told = counted;
  }

  -- objects stand where they stood before what is left was told
  stand_told : (at : Name → ℕ) → StandAt x h at → StandAt y h at
  stand_told at stands =
      let by : Report = record x.space.report { told = record x.space.report.told { items = y.space.report.told.items } } in
      subst (λ z. StandAt z h at) (sym tells.heap) (stands_retold x h by h (record { moment = refl; state = refl; reported = refl; fresh = (λ g. g, λ g. g) }) at stands)

  -- each body is that of one of them
  bodies_left : AllByRecursion (λ (b : Body). IsTrue (has (world_name ∷ ns) b.name)) y.bodies.bodies
  bodies_left = left y.bodies.bodies (held_pass m y.bodies.bodies (large_state h).large is.bodies)
    where
      one : (n : Name) → (has m.unreclaimed n || has m.made n) ≡ true → IsTrue (has (world_name ∷ ns) n)
      one n e = elim (or_cases (has m.unreclaimed n) (has m.made n) e) [
        | inl old ↦ subst (λ us. IsTrue (has us n)) names old
        | inr young ↦ let no : IsTrue (has [] n) = subst (λ us. IsTrue (has us n)) c.made young in absurd (let both : false ≡ true = no in cc)
      ]

      left : (bs : List Body) → AllByRecursion (λ (b : Body). (has m.unreclaimed b.name || has m.made b.name) ≡ true) bs → AllByRecursion (λ (b : Body). IsTrue (has (world_name ∷ ns) b.name)) bs
      left [] all = tt
      left (b ∷ bs) all = (one b.name all.0, left bs all.1)

  pub among : AreAmong y.space.report.told.items y.bodies.bodies
  among = subst (λ us. AllByRecursion (λ (b : Body). IsTrue (has us b.name)) y.bodies.bodies) (sym (tells.names ∙ all_left ∙ names)) bodies_left

  -- exactly the large names that are left are kept
  large_left : (ls : List Large) → AllByRecursion (λ (l : Large). l.name.thread ≡ 1) ls → AllByRecursion (λ (l : Large). (has m.unreclaimed l.name || has m.made l.name) ≡ has ns l.name) ls
  large_left [] all = tt
  large_left (l ∷ ls) all = (one l.name all.0, large_left ls all.1)
    where
      no_world : (n : Name) → n.thread ≡ 1 → same_name n world_name ≡ false
      no_world n own = grind arith

      or_none : (b : Bool) → (b || false) ≡ b
      or_none true = refl
      or_none false = refl

      one : (n : Name) → n.thread ≡ 1 → (has m.unreclaimed n || has m.made n) ≡ has ns n
      one n own = (λ i. has (names i) n || has (c.made i) n) ∙ or_none (has (world_name ∷ ns) n) ∙ ap (λ b. b || has ns n) (no_world n own)

  -- what is left holds and refers to itself alone
  is_left : IsLeft ns order m.state
  is_left =
      let follows = is.follows in
      let same = same_state h f in
      record {
        held = λ n holds. subst (λ us. IsTrue (has us n)) names ((c.exactly n).1 (held holds));
        referred = λ u n member refers. subst (λ us. IsTrue (has us n)) names
            (follows.closed u n (subst (λ us. IsTrue (has us u)) (sym names) member) (subst (λ (s : State). Refers s.graph u n) (sym same) refers));
      }

  module _ (space : Space) (renews : (at : Name → ℕ) → IsAtRest y.space (abstract_after h at) → Renews y.space space (abstract_after h at) ns) (left : ℕ) (all : left ≡ length ns) where
    abbrev r : Renews y.space space (abstract_after h is.at) ns
    r = renews is.at (rests_at is.at is.stands)

    abbrev after : Heap
    after = record y { space = space; bodies = record y.bodies { bodies = map (renamed ns) y.bodies.bodies }; made = left; made_before = left; left = left }

    keeps : space.limits ≡ y.space.limits
    keeps = ap (λ (s : Space). s.limits) r.space

    no_pauses : space.pauses ≡ 0
    no_pauses = ap (λ (s : Space). s.pauses) r.space

    rests_renewed : (at : Name → ℕ) (rests : IsAtRest y.space (abstract_after h at)) → IsAtRest space (abstract_after (Renewed ns ∷ h) (renews at rests).at)
    rests_renewed at rests =
        let s = renews at rests in
        subst (λ t. IsAtRest space (record { moment = renewed_moment t ns m; at = s.at; reported = last_report h })) (one_thread y h is) s.rests

    -- no line is out, as nothing was made
    none_out : (line : ℕ) → IsTrue ((tables_of space).outs line) → ⊥
    none_out line out =
        let was : IsTrue ((tables_of y.space).outs line) = subst (λ (t : Tables). IsTrue (t.outs line)) r.tables out in
        let taken = is.stands.1.taken line was in
        let no : false ≡ true = subst (λ ms. IsTrue (has ms taken.0)) c.made taken.3 in
        absurd (cc)

    stand_renewed : (at : Name → ℕ) (rests : IsAtRest y.space (abstract_after h at)) → StandAt after (Renewed ns ∷ h) (renews at rests).at
    stand_renewed at rests = (
      subst (λ us. IsAtRest space (record { moment = leaving (renewed_moment 1 ns m) us; at = (renews at rests).at; reported = last_report h }))
          (sym (ap (without (renewed_moment 1 ns m).unreclaimed) none ∙ without_none (renewed_moment 1 ns m).unreclaimed)) (rests_renewed at rests),
      record { taken = λ line out. absurd (none_out line out); outside = λ line out. absurd (none_out line out) },
    )

    rests : IsAtRest space (abstract_after (Renewed ns ∷ h) r.at)
    rests = rests_renewed is.at (rests_at is.at is.stands)

    terms : terms_of after ≡ terms_of y
    terms = λ i. record { blocks = (keeps i).blocks; bodies = y.bodies.blocks; registers = (keeps i).registers }

    world : HasWorld (renewed_graph 1 ns (large_state h).small.graph)
    world =
        let o = is.world.0 in
        let shape = is.world.2 in
        (renewed_object ns (Some o), ap (λ z. Some (renewed_object ns z)) is.world.1, record { refs = length-map o.refs (renewed_held ns) ∙ shape.refs; values = shape.values })

    bodies : HoldsBodies after.bodies (renewed_moment 1 ns m) (large_state (Renewed ns ∷ h)).large
    bodies =
        let ls = (large_state h).large in
        kept_renamed ns y.bodies.bodies
        ∙ ap (λ ks. map (renamed_kept ns) ks) (is.bodies ∙ by_tests m ls)
        ∙ sym (large_renamed ns (has m.unreclaimed) (has m.made) (has (map (renewed_name ns) m.unreclaimed)) (has []) ls (large_left ls (of_thread y.made ls is.names))
        (λ n. ap (λ z. has z n) c.made) (λ n. refl) (λ n e. has_map (renewed_name ns) m.unreclaimed n (subst (λ us. IsTrue (has us n)) (sym names) (later n e))))
        ∙ sym (by_tests (renewed_moment 1 ns m) (large_state (Renewed ns ∷ h)).large)
      where
        later : (n : Name) → IsTrue (has ns n) → IsTrue (has (world_name ∷ ns) n)
        later n e = later_has world_name ns n e

    exactly : (n : Name) → IsTrue (has (map (renewed_name ns) m.unreclaimed) n) ↔ Reachable (renewed_state 1 ns m.state) n
    exactly n = (
      λ e.
          let v = map_has (renewed_name ns) m.unreclaimed n e in
          subst (Reachable (renewed_state 1 ns m.state)) (sym v.2)
          (reachable_still ns order 1 m.state is_left (λ q reached. subst (λ us. IsTrue (has us q)) names ((c.exactly q).1 reached)) v.0 ((c.exactly v.0).0 v.1)),
      λ reached. rests.safepoint.holds.follows.kept n (subst (λ (s : State). Reachable (renewed_state 1 ns s) n) (sym (same_state h f)) reached),
    )

    pub renews_heap : RenewsHeap x after h
    renews_heap = record {
      names = ns;
      made = all;
      few = let k = few in omega (arith, k, all);
      pauses = no_pauses;
      gone = ap (λ (z : Heap). z.gone) tells.heap;
      placed = λ at stands. let rests = rests_at at (stand_told at stands) in let s = renews at rests in (s.at, stand_renewed at rests, s.stay);
      bodies = ap (λ (z : Heap). record z.bodies { bodies = map (renamed ns) z.bodies.bodies }) tells.heap;
      terms = terms ∙ ap terms_of tells.heap;
      log = ap (λ (l : Limits). l.log) keeps ∙ ap (λ (z : Heap). z.space.limits.log) tells.heap;
      told = ap (λ (s : Space). map counted_name s.report.told.items) r.space ∙ tells.names ∙ all_left ∙ names;
      counts = ap (λ (s : Space). s.report.told.items) r.space ∙ tells.counts f;
      holds = record {
        legal = subst (λ t. IsLegalLarge t (Renewed ns ∷ h)) (sym terms) (is.legal, record { fresh = f; names = names });
        at = r.at;
        stands = stand_renewed is.at (rests_at is.at is.stands);
        gone = none_are_gone (renewed_moment 1 ns m) y.gone.items none;
        room = is.room ∙ sym (ap (λ (s : Space). s.report.dead.room) r.space);
        follows = rests.safepoint.holds.follows;
        few = (let long = length-map m.unreclaimed (renewed_name ns) in let most = is.few in let blocks = ap (λ (l : Limits). l.blocks) keeps in omega (arith, long, most, blocks));
        untraced = refl;
        limits = keeps ∙ is.limits ∙ ap (λ (l : Limits). limits_of l.blocks l.registers l.log) (sym keeps);
        log = subst (λ (l : Limits). most_logged ≤ l.log) (sym keeps) is.log;
        tally = ap (λ (s : Space). s.tally) r.space ∙ ap (λ k. record no_tally { pauses = k }) (sym no_pauses);
        state = ap (renewed_state 1 ns) is.state;
        world = world;
        next = ap (λ k. record { thread = 1; serial = k + 1 }) (length-map ns (λ n. renewed_object ns (object_at (large_state h).small.graph n)) ∙ sym all);
        counts = record {
          unreclaimed = (let long = length-map m.unreclaimed (renewed_name ns) in let one = ap length names in omega (arith, long, one, all));
          few = omega arith;
          young = omega arith;
        };
        names = subst (λ k. AllByRecursion (IsMade k) (large_state (Renewed ns ∷ h)).large) (sym all) (names_renewed ns order (large_state h).large);
        bodies = bodies;
        apart = apart_renewed ns order y.bodies.blocks y.bodies.bodies bodies_left is.apart;
        fresh = is.fresh;
        collected = λ e. record { made = refl; written = refl; exactly = exactly };
        drained = λ e. ap (λ (t : Tables). t.cursors DECREMENT_COUNT) r.tables ∙ is.drained e;
      };
    }
