-- After a draining pause of a legal history what is left is closed under references, so it is under its new names, and a history may begin
-- there.
use Rattle.std.proofs.Common.{◌≡◌, ℕ, ◌*◌, ◌≤◌, refl, sym, ap, subst, ◌∙◌, List, [], ◌∷◌, IsTrue, length, map}
use Rattle.std.specs.Prelude.{None, is_some}
use Rattle.std.proofs.lemmas.List.{length-map}
use Rattle.lxr_layout.specs.declared.TheConstants.{REGISTERS}
use Rattle.lxr_layout.specs.declared.Name.{Name}
use Rattle.lxr_graph.specs.Names.{AreInOrder, has}
use Rattle.lxr_graph.specs.State.{HasObject, object_at, shape_of, world, world_name}
use Rattle.lxr_graph.specs.History.{Call, Item, Pause, PauseReport, Renew}
use Rattle.lxr_graph.specs.Renewing.{renewed_graph, renewed_held, renewed_name, renewed_object, renewed_state}
use Rattle.lxr_model.specs.Legal.{IsLegalSoFar}
use Rattle.lxr_model.specs.Moments.{Moment, moment}
use Rattle.lxr_model.specs.Reachable.{IsClosed}
use Rattle.lxr_model.specs.Renewing.{IsStart, WorldHasShape}
use Rattle.lxr_model.specs.Terms.{Terms}
use Rattle.lxr_model.proofs.HistoryLemmas.{good_history}
use Rattle.lxr_model_counting.proofs.DistinctLemmas.{first_has}
use Rattle.lxr_model_laws.proofs.ClosedLemmas.{stuck_unreclaimed, unreclaimed_closed}
use Rattle.lxr_model_laws.proofs.ReportLemmas.{moments_in_order}
use Rattle.lxr_full.specs.Room.{HasWorld}
use Rattle.lxr_full.proofs.WorldLemmas.{stands_at}
use Rattle.lxr_renew.specs.Laws.{RenewalsAreLegal, RenewalsAreSound}
use Rattle.lxr_renew.proofs.FollowingLemmas.{renewed_rows}
use Rattle.lxr_renew.proofs.NameLemmas.{has_map, map_has, renewed_in_order, some_in_order}
use Rattle.lxr_renew.proofs.StateLemmas.{IsLeft, held_renewed, object_renewed, referred_renewed, shape_renewed}

-- a moment at which nothing was done since the pause that left these names
record IsLeftAt (threads : ℕ) (m : Moment) (us : List Name) : Type 0 where
  rests : m.last ≡ m.state
  registers : length m.state.registers ≡ REGISTERS * threads
  world : HasWorld m.state.graph
  closed : IsClosed m.state (has us)
  world_stuck : IsTrue (has m.stuck world_name)
  stuck : (n : Name) → IsTrue (has m.stuck n) → IsTrue (has us n)
  in_order : AreInOrder us
  stuck_in_order : AreInOrder m.stuck

left_at : (terms : Terms) (h : List Item) (report : PauseReport) → IsLegalSoFar terms (Pause report ∷ h) → IsLeftAt terms.threads (moment terms.threads (Pause report ∷ h)) (moment terms.threads (Pause report ∷ h)).unreclaimed
left_at terms h report legal =
    let stands = stands_at terms (Pause report ∷ h) legal in
    let order = moments_in_order terms (Pause report ∷ h) legal in
    record {
      rests = refl;
      registers = stands.registers;
      world = stands.world;
      closed = unreclaimed_closed terms h report legal;
      world_stuck = (good_history terms (Pause report ∷ h) legal).world_stuck;
      stuck = stuck_unreclaimed terms (Pause report ∷ h) legal;
      in_order = order.unreclaimed;
      stuck_in_order = order.stuck;
    }

module _ (threads : ℕ) (some : 1 ≤ threads) (m : Moment) (ns : List Name) (left : IsLeftAt threads m (world_name ∷ ns)) where
  abbrev us : List Name
  us = world_name ∷ ns

  abbrev rn : Name → Name
  rn = renewed_name ns

  alone : IsLeft ns left.in_order m.state
  alone = record {
    held = λ n h. left.closed.registers n h;
    referred = λ u n h refers. left.closed.references u n h refers;
  }

  object_there : (n : Name) → IsTrue (has (map rn us) n) → HasObject (renewed_graph threads ns m.state.graph) n
  object_there n h =
      let x = map_has rn us n h in
      ap (λ q. is_some (object_at (renewed_graph threads ns m.state.graph) q)) x.2 ∙ ap is_some (object_renewed ns left.in_order threads m.state.graph x.0 x.1)

  stuck_there : (n : Name) → IsTrue (has (map rn m.stuck) n) → IsTrue (has (map rn us) n)
  stuck_there n h = let x = map_has rn m.stuck n h in subst (λ q. IsTrue (has (map rn us) q)) (sym x.2) (has_map rn us x.0 (left.stuck x.0 x.1))

  world_there : WorldHasShape (renewed_graph threads ns m.state.graph)
  world_there =
      let w = left.world in
      let same : shape_of w.0 ≡ shape_of world = λ i. record { refs = w.2.refs i; values = w.2.values i } in
      (renewed_object ns (object_at m.state.graph world_name), refl, ap (λ o. shape_of (renewed_object ns o)) w.1 ∙ shape_renewed ns left.in_order w.0 ∙ same)

  starts : IsStart threads (record {
    state = renewed_state threads ns m.state;
    last = renewed_state threads ns m.last;
    number = 0;
    unreclaimed = map rn us;
    stuck = map rn m.stuck;
    trace = None;
    made = [];
    written = [];
  })
  starts = record {
    rests = ap (renewed_state threads ns) left.rests;
    rows = renewed_rows threads ns m.state.graph some;
    registers = length-map m.state.registers (renewed_held ns) ∙ left.registers;
    world = world_there;
    closed = record {
      world = first_has world_name (map rn ns);
      registers = held_renewed ns left.in_order threads m.state alone;
      references = referred_renewed ns left.in_order threads m.state alone;
    };
    objects = object_there;
    world_stuck = has_map rn m.stuck world_name left.world_stuck;
    stuck = stuck_there;
    unreclaimed_in_order = renewed_in_order ns left.in_order;
    stuck_in_order = some_in_order ns left.in_order m.stuck left.stuck left.stuck_in_order;
  }

pub sound : RenewalsAreSound
sound terms [] ns some legal behind left = absurd behind
sound terms (Call t o r ∷ h) ns some legal behind left = absurd behind
sound terms (Renew ms ∷ h) ns some legal behind left = absurd behind
sound terms (Pause report ∷ h) ns some legal behind left =
    let m : Moment = moment terms.threads (Pause report ∷ h) in
    subst (λ us. IsStart terms.threads (record {
      state = renewed_state terms.threads ns m.state;
      last = renewed_state terms.threads ns m.last;
      number = 0;
      unreclaimed = map (renewed_name ns) us;
      stuck = map (renewed_name ns) m.stuck;
      trace = None;
      made = [];
      written = [];
    })) (sym left) (starts terms.threads some m ns (subst (IsLeftAt terms.threads m) left (left_at terms h report legal)))

pub legal_renewed : RenewalsAreLegal
legal_renewed terms [] ns some may legal behind untraced left = absurd behind
legal_renewed terms (Call t o r ∷ h) ns some may legal behind untraced left = absurd behind
legal_renewed terms (Renew ms ∷ h) ns some may legal behind untraced left = absurd behind
legal_renewed terms (Pause report ∷ h) ns some may legal behind untraced left = (
  (
    legal.0,
    λ waits. legal.1 waits,
    record { allowed = may; behind = behind; untraced = untraced; left = left; sound = sound terms (Pause report ∷ h) ns some legal.0 behind left },
  ),
  tt,
)
