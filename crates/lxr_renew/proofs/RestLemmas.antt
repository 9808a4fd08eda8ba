-- A space at rest stays at rest under new names, once all headers are written.
use Rattle.std.proofs.Common.{◌≡◌, ℕ, ◌+◌, ◌*◌, ◌^◌, ◌<◌, refl, sym, ap, subst, ◌∙◌, arith, List, [], ◌∷◌, ◌++◌, IsTrue, length, map}
use Rattle.std.specs.Prelude.{None}
use Rattle.lxr_layout.specs.declared.Name.{Name}
use Rattle.lxr_layout.specs.declared.TheConstants.{GRANULES_IN_BLOCK}
use Rattle.lxr_layout.specs.Places.{first_word}
use Rattle.lxr_graph.specs.Names.{AreInOrder, has}
use Rattle.lxr_graph.specs.History.{PauseReport}
use Rattle.lxr_graph.specs.State.{Graph, State, world_name}
use Rattle.lxr_image.specs.declared.space.Space.{Space}
use Rattle.lxr_image.specs.Tables.{Tables}
use Rattle.lxr_image.specs.Reads.{granule_of}
use Rattle.lxr_image.specs.Spaces.{tables_of}
use Rattle.lxr_image.specs.Opened.{no_tally}
use Rattle.lxr_model.specs.Moments.{Moment}
use Rattle.lxr_invariant.specs.AbstractState.{AbstractState}
use Rattle.lxr_invariant.specs.Counting.{HasCounts, HasDecrements, IsUndecremented}
use Rattle.lxr_invariant.specs.Lines.{FreeAreUnused, HasBlocks, HasMarks, HasStates, KeepLines, OutsAreTaken}
use Rattle.lxr_invariant.specs.Quiescent.{HoldsMoment, IsAtRest}
use Rattle.lxr_invariant.specs.Settled.{IsSettled}
use Rattle.lxr_invariant.specs.Standing.{HasBits}
use Rattle.lxr_invariant.proofs.FrameLemmas.{blocks_still, rest_still}
use Rattle.lxr_invariant.proofs.NameLemmas.{in_first, no_member}
use Rattle.lxr_image.specs.Image.{IsImage}
use Rattle.lxr_graph.specs.Renewing.{renewed_graph, renewed_name, renewed_state}
use Rattle.lxr_model.specs.Moments.{renewed_moment}
use Rattle.lxr_renew.specs.Heads.{RenewsHeads}
use Rattle.lxr_renew.specs.Renewing.{MayRenew, Renews}
use Rattle.lxr_renew.proofs.FollowingLemmas.{follows_renewed, is_left}
use Rattle.lxr_renew.proofs.ImageLemmas.{WritesHeads, image_renewed, places_renewed, renewed_at, with_heads}
use Rattle.lxr_renew.proofs.NameLemmas.{old_of_renewed}
use Rattle.lxr_renew.proofs.StateLemmas.{IsLeft, still}
use Rattle.lxr_renew.proofs.TableLemmas.{bits_renewed, counts_renewed, decrements_renewed, lines_renewed, marks_renewed, outs_renewed, rest_renewed, undecremented_renewed, unused_renewed}

-- what a space stands for where nothing was done since the last pause
abbrev pub resting : State → ℕ → List Name → List Name → (Name → ℕ) → PauseReport → AbstractState
resting s number us stuck at reported = record { moment = still s number us stuck; at = at; reported = reported }

-- the space with other words, after no pause
abbrev pub uncounted : Space → Space → Space
uncounted s mid = record s { words = mid.words; tally = no_tally; pauses = 0 }

module _ (s mid : Space) (σ : State) (number : ℕ) (ns stuck : List Name) (at : Name → ℕ) (reported : PauseReport) (rows : length σ.graph ≡ s.limits.threads + 1) (few : length ns < 2 ^ 32)
    (rests : IsAtRest s (resting σ number (world_name ∷ ns) stuck at reported))
    (same : tables_of (uncounted s mid) ≡ with_heads (tables_of s) (tables_of (uncounted s mid)).heap) (writes : WritesHeads (tables_of s) (tables_of (uncounted s mid)).heap σ.graph at ns) where
  abbrev threads : ℕ
  threads = s.limits.threads

  abbrev us : List Name
  us = world_name ∷ ns

  abbrev t : Tables
  t = tables_of s

  abbrev after : Space
  after = uncounted s mid

  abbrev heap : ℕ → ℕ
  heap = (tables_of after).heap

  abbrev rn : Name → Name
  rn = renewed_name ns

  abbrev at' : Name → ℕ
  at' = renewed_at ns at

  abbrev g' : Graph
  g' = renewed_graph threads ns σ.graph

  abbrev m' : Moment
  m' = still (renewed_state threads ns σ) 0 (map rn us) (map rn stuck)

  abbrev old : HoldsMoment s (still σ number us stuck) at
  old = rests.safepoint.holds

  abbrev order : AreInOrder us
  order = old.follows.unreclaimed

  abbrev left : IsLeft ns order σ
  left = is_left σ number ns stuck old.follows

  holds_renewed : HoldsMoment after m' at'
  holds_renewed = record {
    space = record { limits = old.space.limits; size = ap (λ (x : Tables). x.size) same ∙ old.space.size };
    room = record { registers = old.room.registers; deferred = old.room.deferred; logged = old.room.logged; work = old.room.work; report = old.room.report };
    as_many = old.as_many;
    follows = follows_renewed σ number ns stuck old.follows threads old.space.limits.threads.0 rows;
    image = record {
      image = subst (λ (x : Tables). IsImage x s.limits.blocks at' g' (map rn us ++ [])) (sym same) (image_renewed threads t heap s.limits.blocks σ at ns order left few old.image.image writes);
      registers = places_renewed threads t heap s.limits.blocks σ at ns order left few old.image.image writes s.registers.items old.image.registers;
      deferred = places_renewed threads t heap s.limits.blocks σ at ns order left few old.image.image writes s.deferred.items old.image.deferred;
      world = old.image.world;
    };
    bits = subst (λ (x : Tables). HasBits x m' at' (map rn us)) (sym same) (bits_renewed threads t heap s.limits.blocks σ at ns order left few old.image.image writes number stuck old.follows.stuck old.bits);
    logs = old.logs;
    few_logs = old.few_logs;
    counts = subst (λ (x : Tables). HasCounts x m' at') (sym same)
        (counts_renewed threads t heap s.limits.blocks σ at ns order left few old.image.image writes number stuck old.follows.stuck rests.undecremented.none_done old.counts);
    decrements = subst (λ (x : Tables). HasDecrements s.limits x m' at') (sym same)
        (decrements_renewed threads t heap s.limits.blocks σ at ns order left few old.image.image writes number stuck old.follows.stuck s.limits old.decrements);
    marks = subst (λ (x : Tables). HasMarks x g' at' (map rn us)) (sym same) (marks_renewed threads t heap s.limits.blocks σ at ns order left few old.image.image writes number stuck old.follows.stuck old.marks);
    lines = λ n o k h. no_member n h;
    unchosen = λ n h. no_member n h;
    unused = subst (λ (x : Tables). FreeAreUnused x at' (map rn us)) (sym same) (unused_renewed threads t heap s.limits.blocks σ at ns order left few old.image.image writes number stuck old.follows.stuck old.unused);
    blocks = subst (λ (x : Tables). HasBlocks x s.limits None) (sym same) (blocks_still t (with_heads t heap) s.limits None refl refl old.blocks);
    rest = record {
      rest = rest_still s after refl refl refl (ap (λ (x : Tables). x.outs) same) (ap (λ (x : Tables). x.states) same) old.rest.rest;
      apart = rest_renewed threads t heap s.limits.blocks σ at ns order left few old.image.image writes number stuck old.follows.stuck s after refl refl old.rest.apart;
    };
    no_work = old.no_work;
  }

  pub still_rests : IsAtRest after (resting (renewed_state threads ns σ) 0 (map rn us) (map rn stuck) at' reported)
  still_rests = record {
    safepoint = record {
      holds = holds_renewed;
      numbers = record { pauses = refl; trace = rests.safepoint.numbers.trace; report = rests.safepoint.numbers.report };
      traced = tt;
    };
    undecremented = subst (λ (x : Tables). IsUndecremented x m' at') (sym same)
        (undecremented_renewed threads t heap s.limits.blocks σ at ns order left few old.image.image writes number stuck old.follows.stuck rests.undecremented);
    lines = subst (λ (x : Tables). KeepLines x g' at' (map rn us ++ [])) (sym same) (lines_renewed threads t heap s.limits.blocks σ at ns order left few old.image.image writes number stuck old.follows.stuck rests.lines);
    outs = subst (λ (x : Tables). OutsAreTaken x g' at' (map rn us ++ [])) (sym same) (outs_renewed threads t heap s.limits.blocks σ at ns order left few old.image.image writes number stuck old.follows.stuck rests.outs);
    states = subst (λ (x : Tables). HasStates x s.limits.blocks) (sym same) rests.states;
  }

-- ---- any moment since whose last pause nothing was done

pub settled_is : (m : Moment) (ns : List Name) → IsSettled m → m.trace ≡ None → m.unreclaimed ≡ world_name ∷ ns → m ≡ still m.state m.number (world_name ∷ ns) m.stuck
settled_is m ns settled untraced names = λ i. record {
  state = m.state;
  last = settled.same i;
  number = m.number;
  unreclaimed = names i;
  stuck = m.stuck;
  trace = untraced i;
  made = settled.none_made i;
  written = settled.none_written i;
}

-- what is left begins in the heap
begins_in_heap : (s : Space) (g : AbstractState) (ns : List Name) → MayRenew s g ns → (n : Name) → IsTrue (has g.moment.unreclaimed n) → granule_of (g.at n) < GRANULES_IN_BLOCK * s.limits.blocks
begins_in_heap s g ns may n h =
    let a = may.rests.safepoint.holds.image.image.stands n (in_first g.moment.unreclaimed g.moment.made n h) in
    let within = a.2.whole.in_heap in
    omega (arith, within)

pub renews_names : (s mid : Space) (g : AbstractState) (ns : List Name) → MayRenew s g ns → RenewsHeads s mid g ns (GRANULES_IN_BLOCK * s.limits.blocks) → Renews s (record mid { tally = no_tally; pauses = 0 }) g ns
renews_names s mid g ns may heads =
    let m : Moment = g.moment in
    let is : m ≡ still m.state m.number (world_name ∷ ns) m.stuck = settled_is m ns may.settled may.untraced may.names in
    let rests = subst (λ (x : Moment). IsAtRest s (record { moment = x; at = g.at; reported = g.reported })) is may.rests in
    let whole : record mid { tally = no_tally; pauses = 0 } ≡ uncounted s mid = ap {A = Space} (λ x. record x { tally = no_tally; pauses = 0 }) heads.rest in
    let tables : tables_of (uncounted s mid) ≡ tables_of mid = sym (ap tables_of heads.rest) in
    let heap : (w : ℕ) → (tables_of (uncounted s mid)).heap w ≡ (tables_of mid).heap w = λ w. ap (λ (x : Tables). x.heap w) tables in
    let same : tables_of (uncounted s mid) ≡ with_heads (tables_of s) (tables_of (uncounted s mid)).heap = tables ∙ heads.tables ∙ ap (λ (x : Tables). with_heads (tables_of s) x.heap) (sym tables) in
    let old : (n : Name) → IsTrue (has (world_name ∷ ns) n) → IsTrue (has m.unreclaimed n) = λ n h. subst (λ us. IsTrue (has us n)) (sym may.names) h in
    let writes : WritesHeads (tables_of s) (tables_of (uncounted s mid)).heap m.state.graph g.at ns = record {
      heads = λ n o h e. heap (first_word (g.at n)) ∙ heads.heads n o (old n h) e (begins_in_heap s g ns may n (old n h));
      others = λ w other. heap w ∙ heads.others w (λ n h below. other n (subst (λ us. IsTrue (has us n)) may.names h));
    } in
    record {
      at = renewed_at ns g.at;
      stay = λ n h. ap g.at (old_of_renewed ns may.told.order n (subst (λ us. IsTrue (has us n)) may.names h));
      rests = subst (λ (x : Space). IsAtRest x (record { moment = renewed_moment s.limits.threads ns m; at = renewed_at ns g.at; reported = g.reported })) (sym whole)
          (subst (λ (x : Moment). IsAtRest (uncounted s mid) (record { moment = x; at = renewed_at ns g.at; reported = g.reported })) (sym (ap (renewed_moment s.limits.threads ns) is))
          (still_rests s mid m.state m.number ns m.stuck g.at g.reported may.rows may.told.few rests same writes));
      space = whole;
      tables = heads.tables;
      others = λ w other. heads.others w (λ n h below. other n h);
    }
