-- The moment with its names renewed follows its last pause, which left exactly what there is.
use Rattle.std.proofs.Common.{◌≡◌, ℕ, ◌+◌, ◌-◌, ◌*◌, ◌≤◌, refl, sym, ap, subst, ◌∙◌, inl, inr, arith, true, false, List, [], ◌∷◌, IsTrue, length, map}
use Rattle.std.specs.Prelude.{Option, Some, None, is_some, replicate}
use Rattle.std.proofs.lemmas.List.{length-map, length-replicate}
use Rattle.lxr_layout.specs.declared.TheConstants.{REGISTERS}
use Rattle.lxr_layout.specs.declared.Name.{Name}
use Rattle.lxr_graph.specs.Names.{has}
use Rattle.lxr_graph.specs.State.{Graph, Object, State, object_at, world_name}
use Rattle.lxr_graph.proofs.NameSets.{in_order-none}
use Rattle.lxr_model.specs.Reachable.{held, referred}
use Rattle.lxr_model_counting.specs.Following.{FollowsPause, HasShapeOf}
use Rattle.lxr_invariant.proofs.NameLemmas.{no_member}
use Rattle.lxr_graph.specs.Renewing.{renewed_graph, renewed_held, renewed_name, renewed_state}
use Rattle.lxr_renew.proofs.NameLemmas.{has_map, map_has, renewed_in_order}
use Rattle.lxr_renew.proofs.StateLemmas.{IsLeft, object_renewed, reachable_renewed, referred_renewed, still}

-- there is a row for each thread, and the world's
pub renewed_rows : (threads : ℕ) (ns : List Name) (g : Graph) → 1 ≤ threads → length (renewed_graph threads ns g) ≡ threads + 1
renewed_rows threads ns g some = let rest : length (replicate {A = List Object} (threads - 1) []) ≡ threads - 1 = length-replicate (threads - 1) [] in omega (arith, rest, some)

module _ (s : State) (number : ℕ) (ns stuck : List Name) (follows : FollowsPause (still s number (world_name ∷ ns) stuck)) where
  -- what is left holds and refers to itself alone
  pub is_left : IsLeft ns follows.unreclaimed s
  is_left = record {
    held = λ n h. follows.kept n (held h);
    referred = λ u n h refers. follows.closed u n h refers;
  }

  abbrev new_names : List Name
  new_names = map (renewed_name ns) (world_name ∷ ns)

  object_there : (threads : ℕ) (n : Name) → IsTrue (has new_names n) → IsTrue (is_some (object_at (renewed_graph threads ns s.graph) n))
  object_there threads n h =
      let x = map_has (renewed_name ns) (world_name ∷ ns) n h in
      ap (λ q. is_some (object_at (renewed_graph threads ns s.graph) q)) x.2 ∙ ap is_some (object_renewed ns follows.unreclaimed threads s.graph x.0 x.1)

  stuck_there : (n : Name) → IsTrue (has (map (renewed_name ns) stuck) n) → IsTrue (has new_names n)
  stuck_there n h =
      let x = map_has (renewed_name ns) stuck n h in
      subst (λ q. IsTrue (has new_names q)) (sym x.2) (has_map (renewed_name ns) (world_name ∷ ns) x.0 (follows.stuck x.0 x.1))

  pub follows_renewed : (threads : ℕ) → 1 ≤ threads → length s.graph ≡ threads + 1 → FollowsPause (still (renewed_state threads ns s) 0 new_names (map (renewed_name ns) stuck))
  follows_renewed threads some rows =
      let order = follows.unreclaimed in
      let many : length (map (renewed_held ns) s.registers) ≡ REGISTERS * (length (renewed_graph threads ns s.graph) - 1) =
      length-map s.registers (renewed_held ns) ∙ (let a = follows.registers in let b = renewed_rows threads ns s.graph some in omega (arith, a, b, rows)) in
      record {
        unreclaimed = renewed_in_order ns order;
        made = in_order-none;
        apart = λ n h. no_member n h;
        kept = λ n reached. reachable_renewed ns order threads s is_left n reached;
        closed = λ u n h refers. referred_renewed ns order threads s is_left u n h refers;
        world = has_map (renewed_name ns) stuck world_name follows.world;
        stuck = stuck_there;
        held = λ n h. inl (held h);
        referred = λ u n live refers. elim live [ inl reached ↦ inl (referred reached refers) | inr young ↦ no_member u young ];
        grows = λ n h. h;
        objects = λ n h. one_object n (object_at (renewed_graph threads ns s.graph) n) refl (object_there threads n h);
        young = λ n h. no_member n h;
        unreached = λ n h none. refl;
        unwritten = λ n i h none. refl;
        written_once = tt;
        written = λ n i h. absurd (let no : false ≡ true = h in cc);
        rows = refl;
        registers = many;
        registers_were = many;
      }
    where
      one_object : (n : Name) (o : Option Object) → object_at (renewed_graph threads ns s.graph) n ≡ o → IsTrue (is_some (object_at (renewed_graph threads ns s.graph) n)) → (was now : Object) × (object_at (renewed_graph threads ns s.graph) n ≡ Some was) × (object_at (renewed_graph threads ns s.graph) n ≡ Some now) × HasShapeOf now was
      one_object n None e some = absurd (let no : false ≡ true = sym (ap is_some e) ∙ some in cc)
      one_object n (Some o) e some = (o, o, e, e, record { refs = refl; values = refl })
