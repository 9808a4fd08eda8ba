-- One handled object is reclaimed; and what isn't done stays so while others are.
use Rattle.std.proofs.Common.{◌≡◌, ℕ, ◌*◌, ◌<◌, ◌≤◌, refl, sym, ap, subst, ◌∙◌, inl, inr, arith, false, true, [], ◌∷◌, ◌++◌, length}
use Rattle.std.proofs.lemmas.Bool.Decides.{eqb_tells}
use Rattle.lxr_layout.specs.declared.TheConstants.{GRANULES_IN_BLOCK}
use Rattle.lxr_layout.specs.declared.Name.{Name}
use Rattle.lxr_layout.specs.declared.Place.{Place}
use Rattle.lxr_layout.specs.declared.Shape.{Shape}
use Rattle.lxr_layout.specs.Places.{IsPlace, field_word, first_word}
use Rattle.lxr_base.specs.Roomy.{pushed}
use Rattle.lxr_graph.specs.Listing.{with_name}
use Rattle.lxr_graph.specs.State.{Object, shape_of}
use Rattle.lxr_image.specs.declared.space.Space.{Space}
use Rattle.lxr_image.specs.Tables.{Tables, changed}
use Rattle.lxr_image.specs.Spaces.{Turns, tables_of}
use Rattle.lxr_image.specs.Reads.{granule_of}
use Rattle.lxr_image.proofs.SpaceLemmas.{same_limits, still_space}
use Rattle.lxr_invariant.specs.Standing.{place_of}
use Rattle.lxr_invariant.proofs.EntryLemmas.{changed_here, changed_other, passing_cleared}
use Rattle.lxr_blocks.specs.Clearing.{without_object}
use Rattle.lxr_pause_decrements.specs.Cascade.{CascadeStage, IsHandling, IsHeader, Keeps, Reclaims, later}
use Rattle.lxr_pause_decrements.specs.Handled.{AllHoldUndone, HoldsUndone}
use Rattle.lxr_pause_decrements.specs.Steps.{ReclaimsSomeHandled}
use Rattle.lxr_pause_decrements.proofs.CascadeLemmas.{BeginsAt, IsPlaced, append_group, append_nothing, placed, started}
use Rattle.lxr_pause_decrements.proofs.SpaceLemmas.{keeps_both, reclaimed_keeps, reclaimed_space, turned_leaves}
use Rattle.lxr_pause_decrements.proofs.HandlingLemmas.{handled, handling_room, same_handling, without_done}

-- the tables with one done bit cleared
abbrev pub without_bit : Tables → ℕ → Tables
without_bit t g = record t { dones = changed t.dones g false }

-- ---- the object at a place whose done bit is set

module _ (s : Space) (p : Place) (st : CascadeStage) (is : IsHandling s st) (place : IsPlace p) (done : (tables_of s).dones (granule_of p.0) ≡ true) where
  abbrev t : Tables
  t = tables_of s

  abbrev g : ℕ
  g = granule_of p.0

  starts : t.starts g ≡ true
  starts = is.handling.remains.bits.dones g done

  -- which name it has
  pub found : (r : Name) × BeginsAt st.moment st.at st.gone g r
  found = started s.limits t s.report.dead st g is.handling.remains starts

  stands : p.0 ≡ st.at found.0
  stands = let e = found.1.place in omega (arith, e, place.0)

  pub found_object : Object
  found_object = (is.handling.remains.ground.stands found.0 found.1.member).0

  -- its header stands there, also when the bit is cleared
  pub found_placed : (b : Space) → Turns s b (without_bit t g) → IsPlaced (tables_of b) b.limits.blocks found.0 found_object p.0
  unfolding found_object
  found_placed b turns =
      subst (λ l. IsPlaced (tables_of b) l.blocks found.0 found_object p.0) (sym (same_limits s b _ turns))
      (placed t.heap s.limits.blocks st.moment st.at is.handling.remains.ground (tables_of b) (ap (λ z. z.heap) turns.tables) found.0 found.1.member p.0 stands)

  -- and there is room for it in the lists
  pub found_room : (b : Space) → Turns s b (without_bit t g) → p.0 ≤ GRANULES_IN_BLOCK * s.limits.blocks → (length b.work.items < b.work.room) × (length b.report.dead.items < b.report.dead.room)
  found_room b turns within =
      let few = passing_cleared t.starts g (GRANULES_IN_BLOCK * s.limits.blocks) starts (omega (arith, within, place.0)) in
      let room = is.handling.remains.dead_room in (
        subst (λ w. length w.items < w.room) (sym (ap (λ z. z.work) turns.rest)) (handling_room s.limits t s.work s.report.dead st is.handling (omega (arith, few))),
        subst (λ d. length d.items < d.room) (sym (ap (λ z. z.report.dead) turns.rest)) (omega (arith, few, room)),
      )

  -- it is reclaimed
  pub found_reclaimed : (b e : Space) → Turns s b (without_bit t g) → Reclaims b e p found.0 (shape_of found_object) → IsHandling e (later st (found.0 ∷ st.gone) st.work st.extra)
  unfolding found_object
  found_reclaimed b e turns re =
      let o = is.handling.remains.ground.stands found.0 found.1.member in
      let ro : Object = o.0 in
      let r : Name = found.0 in
      let limits : e.limits ≡ s.limits = ap (λ z. z.limits) re.rest ∙ same_limits s b _ turns in
      let tables : tables_of e ≡ without_done t st.at r ro =
      re.tables ∙ ap (λ z. without_object z p.0 (shape_of ro)) turns.tables ∙ ap (λ q. without_object (without_bit t (granule_of q)) q (shape_of ro)) stands in
      let same_place : p ≡ place_of st.at r = λ i. record { 0 = stands i } in
      let work : e.work ≡ pushed s.work (place_of st.at r) = ap (λ z. z.work) re.rest ∙ ap (λ z. pushed z.work p) turns.rest ∙ ap (pushed s.work) same_place in
      let dead : e.report.dead ≡ with_name s.report.dead r = ap (λ z. z.report.dead) re.rest ∙ ap (λ z. with_name z.report.dead r) turns.rest in
      record {
        space = reclaimed_space b e p r (shape_of ro) re (still_space s b _ is.space turns refl);
        handling = same_handling s.limits e.limits _ (tables_of e) _ e.work _ e.report.dead (later st (r ∷ st.gone) st.work st.extra) limits tables work dead
            (handled s.limits t s.work s.report.dead st r ro is.handling found.1.member found.1.left (ap t.dones found.1.granule ∙ done) o.1);
      }

-- ---- what a call leaves that reclaims it

module _ (s b e : Space) (p : Place) (r : Name) (shape : Shape) (turns : Turns s b (without_bit (tables_of s) (granule_of p.0))) (re : Reclaims b e p r shape) where
  dones : (tables_of e).dones ≡ changed (tables_of s).dones (granule_of p.0) false
  dones = ap (λ z. z.dones) re.tables ∙ ap (λ z. z.dones) turns.tables

  -- its done bit is clear, and no other is set
  pub one_undone : (tables_of e).dones (granule_of p.0) ≡ false
  one_undone = ap (λ f. f (granule_of p.0)) dones ∙ changed_here (tables_of s).dones (granule_of p.0) false (granule_of p.0) refl

  pub one_fewer : (k : ℕ) → (tables_of s).dones k ≡ false → (tables_of e).dones k ≡ false
  one_fewer k clear = elim (eqb_tells k (granule_of p.0)) [
    | inl q ↦ ap (tables_of e).dones q.1 ∙ one_undone
    | inr q ↦ ap (λ f. f k) dones ∙ changed_other (tables_of s).dones (granule_of p.0) false k q.1 ∙ clear
  ]

  -- its place is put at the end of the worklist
  pub one_added : e.work.items ≡ s.work.items ++ p ∷ []
  one_added = ap (λ z. z.work.items) re.rest ∙ ap (λ z. z.work.items ++ p ∷ []) turns.rest

  pub one_keeps : Keeps s e
  one_keeps = keeps_both s b e
      (record {
        leaves = turned_leaves s b _ turns
            (record { keeps = record { heap = refl; reuse = refl; runs = refl; frees = refl; remembered = refl; cursors = λ k h j. refl }; decs = refl; outs = refl; states = refl });
        cursors = ap (λ z. z.cursors) turns.tables;
      })
      (reclaimed_keeps b e p r shape re)

-- ---- one call after another

pub some_none : (a : Space) → ReclaimsSomeHandled a a
some_none a = record { stage = λ st is. (st.gone, is); added = ([], append_nothing a.work.items); dones = λ k clear. clear }

pub some_both : (a b c : Space) → ReclaimsSomeHandled a b → ReclaimsSomeHandled b c → ReclaimsSomeHandled a c
some_both a b c x y = record {
  stage = λ st is. let first = x.stage st is in let second = y.stage (later st first.0 st.work st.extra) first.1 in (second.0, second.1);
  added = (x.added.0 ++ y.added.0, y.added.1 ∙ ap (λ z. z ++ y.added.0) x.added.1 ∙ sym (append_group a.work.items x.added.0 y.added.0));
  dones = λ k clear. y.dones k (x.dones k clear);
}

-- what a reference holds isn't done later either
pub holds_still : (a b : Space) (place i : ℕ) → Keeps a b → ReclaimsSomeHandled a b → HoldsUndone (tables_of a) place i → HoldsUndone (tables_of b) place i
holds_still a b place i keeps some was is =
    let same : (tables_of b).heap (field_word place i) ≡ (tables_of a).heap (field_word place i) = ap (λ f. f (field_word place i)) keeps.leaves.tables.keeps.heap in
    ap (λ z. (tables_of b).dones (granule_of z)) same ∙ some.dones _ (was (λ nil. is (same ∙ nil)))

-- nor is what all references of an object hold
pub header_before : (a b : Space) (place : ℕ) (n : Name) (shape : Shape) → Keeps a b → IsHeader (tables_of b) place n shape → IsHeader (tables_of a) place n shape
header_before a b place n shape keeps h = record { name = h.name; fits = h.fits; header = ap (λ f. f (first_word place)) (sym keeps.leaves.tables.keeps.heap) ∙ h.header }

pub all_hold_still : (a b : Space) (place : ℕ) → Keeps a b → ReclaimsSomeHandled a b → AllHoldUndone (tables_of a) place → AllHoldUndone (tables_of b) place
all_hold_still a b place keeps some was n shape h i within = holds_still a b place i keeps some (was n shape (header_before a b place n shape keeps h) i within)
