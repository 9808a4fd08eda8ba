-- One header is written after another: each start bit is that of one name, whose header stands there under its old name until it is written.
use Rattle.std.proofs.Common.{◌≡◌, ℕ, ◌+◌, ◌*◌, ◌/◌, ◌<◌, ◌≤◌, refl, sym, ap, subst, ◌∙◌, inl, inr, ◌⊎◌, arith, List, IsTrue}
use Rattle.std.specs.Prelude.{Some}
use Rattle.lxr_layout.specs.declared.Name.{Name}
use Rattle.lxr_layout.specs.declared.TheConstants.{GRANULES_IN_BLOCK}
use Rattle.lxr_layout.specs.Objects.{header_word, word_count}
use Rattle.lxr_layout.specs.Places.{first_word}
use Rattle.lxr_graph.specs.Names.{has, same_name}
use Rattle.lxr_graph.specs.State.{Object, object_at, shape_of}
use Rattle.lxr_graph.proofs.NameSets.{not_both, same_names}
use Rattle.lxr_image.specs.declared.space.Space.{Space}
use Rattle.lxr_image.specs.Tables.{Tables}
use Rattle.lxr_image.specs.Reads.{StandsWhole, granule_of}
use Rattle.lxr_image.specs.Spaces.{IsSpace, Turns, tables_of}
use Rattle.lxr_image.specs.Image.{Stands}
use Rattle.lxr_image.specs.ImageLaws.{with_heap}
use Rattle.lxr_image.proofs.ImageLemmas.{just_at, not_at}
use Rattle.lxr_image.proofs.SpaceLemmas.{space_alike}
use Rattle.lxr_image_search.specs.declared.Wanted.TheVariants as wanted
use Rattle.lxr_image_search.specs.Search.{AvoidsFree, IsNextWanted, NoneWanted}
use Rattle.lxr_blocks.specs.States.{state_in, state_of}
use Rattle.lxr_model_counting.proofs.DistinctLemmas.{tested}
use Rattle.lxr_invariant.specs.AbstractState.{AbstractState, members}
use Rattle.lxr_invariant.proofs.NameLemmas.{in_first}
use Rattle.lxr_invariant.proofs.PlaceLemmas.{granules_differ, same_object}
use Rattle.lxr_graph.specs.Renewing.{renewed_name}
use Rattle.lxr_large_model.specs.Renewing.{AreCounted}
use Rattle.lxr_renew.specs.Heads.{IsHead, RenewsHeads}
use Rattle.lxr_renew.specs.Renewing.{MayRenew}

-- nothing is written yet
pub first_heads : (s : Space) (g : AbstractState) (ns : List Name) → RenewsHeads s s g ns 0
first_heads s g ns = record { heads = λ n o h e below. absurd (omega (arith, below)); others = λ w other. refl; tables = refl; rest = refl }

-- what is left begins in no block that is Free
pub begins_used : (s now : Space) (g : AbstractState) (ns : List Name) (from : ℕ) → MayRenew s g ns → RenewsHeads s now g ns from → AvoidsFree (tables_of now) wanted.Object
begins_used s now g ns from may so_far k start free =
    let x = may.rests.safepoint.holds.bits.starts.only k (sym (ap (λ (t : Tables). t.starts k) so_far.tables) ∙ start) in
    may.rests.safepoint.holds.unused.objects x.0 x.1
    (ap (λ q. state_in (tables_of s) (q / GRANULES_IN_BLOCK)) x.2 ∙ sym (ap (λ (t : Tables). state_of (t.states (k / GRANULES_IN_BLOCK))) so_far.tables) ∙ free)

pub heads_limits : (s now : Space) (g : AbstractState) (ns : List Name) (from : ℕ) → RenewsHeads s now g ns from → now.limits ≡ s.limits
heads_limits s now g ns from so_far = ap (λ (x : Space). x.limits) so_far.rest

pub heads_space : (s now : Space) (g : AbstractState) (ns : List Name) (from : ℕ) → MayRenew s g ns → RenewsHeads s now g ns from → IsSpace now
heads_space s now g ns from may so_far = space_alike s now (heads_limits s now g ns from so_far) (ap (λ (t : Tables). t.size) so_far.tables) may.rests.safepoint.holds.space

-- the object of a name that is left, where it stands
pub record BeginsAt (s : Space) (g : AbstractState) (granule : ℕ) : Type 0 where
  pub name : Name
  pub member : IsTrue (has g.moment.unreclaimed name)
  pub granule_is : granule_of (g.at name) ≡ granule
  pub object : Object
  pub is : object_at g.moment.state.graph name ≡ Some object
  pub stands : Stands (tables_of s) s.limits.blocks g.at name object

module _ (s : Space) (g : AbstractState) (ns : List Name) (may : MayRenew s g ns) where
  starts_at : (granule : ℕ) → IsTrue ((tables_of s).starts granule) → BeginsAt s g granule
  starts_at granule start =
      let x = may.rests.safepoint.holds.bits.starts.only granule start in
      let a = may.rests.safepoint.holds.image.image.stands x.0 (in_first g.moment.unreclaimed g.moment.made x.0 x.1) in
      record { name = x.0; member = x.1; granule_is = x.2; object = a.0; is = a.1; stands = a.2 }

  -- two names at one granule are one
  one_name : (m n : Name) → IsTrue (has g.moment.unreclaimed m) → IsTrue (has g.moment.unreclaimed n) → granule_of (g.at m) ≡ granule_of (g.at n) → m ≡ n
  one_name m n in_m in_n same = elim (tested (same_name m n)) [
    | inl e ↦ same_names m n e
    | inr e ↦ absurd (granules_differ (tables_of s) s.limits.blocks g.at g.moment.state.graph (members g.moment) may.rests.safepoint.holds.image.image m n
        (in_first g.moment.unreclaimed g.moment.made m in_m) (in_first g.moment.unreclaimed g.moment.made n in_n) e same)
  ]

  module _ (now : Space) (from : ℕ) (so_far : RenewsHeads s now g ns from) where
    -- what is left and begins below the next one begins below where the search began
    begins_below : (granule : ℕ) → NoneWanted (tables_of now) wanted.Object from granule → (n : Name) → IsTrue (has g.moment.unreclaimed n) → granule_of (g.at n) < granule → granule_of (g.at n) < from
    begins_below granule none n h below = elim (order (granule_of (g.at n)) from) [
      | inl lower ↦ lower
      | inr upper ↦
          let start = ap (λ (t : Tables). t.starts (granule_of (g.at n))) so_far.tables ∙ may.rests.safepoint.holds.bits.starts.each n h in
          not_both ((tables_of now).starts (granule_of (g.at n))) start (none (granule_of (g.at n)) upper below)
    ]
      where
        order : (a b : ℕ) → (a < b) ⊎ (b ≤ a)
        order a b = grind arith

    -- where none is left to be found, all is written
    pub all_heads : (end : ℕ) → NoneWanted (tables_of now) wanted.Object from end → from ≤ end → RenewsHeads s now g ns end
    all_heads end none le = record {
      heads = λ n o h e below. so_far.heads n o h e (begins_below end none n h below);
      others = λ w other. so_far.others w (λ n h below. other n h (omega (arith, below, le)));
      tables = so_far.tables;
      rest = so_far.rest;
    }

    module _ (end granule : ℕ) (next : IsNextWanted (tables_of now) wanted.Object from end granule) where
      -- the name that begins there
      pub found : BeginsAt s g granule
      found = starts_at granule (sym (ap (λ (t : Tables). t.starts granule) so_far.tables) ∙ next.is)

      -- its header stands there under its old name
      pub is_head : IsHead now granule ns found.name (shape_of found.object)
      is_head =
          let whole = found.stands.whole in
          let reached = next.reached in
          let at = found.granule_is in
          let same : (tables_of now).heap (2 * granule_of (g.at found.name)) ≡ (tables_of s).heap (2 * granule_of (g.at found.name)) =
          so_far.others (2 * granule_of (g.at found.name)) (λ n h below e. absurd (omega (arith, below, reached, at, e))) in
          record {
            space = heads_space s now g ns from may so_far;
            told = subst (λ (x : Space). AreCounted x.report.told.items ns) (sym so_far.rest) may.told;
            member = subst (λ us. IsTrue (has us found.name)) may.names found.member;
            whole = subst (λ k. StandsWhole (tables_of now) now.limits.blocks k found.name (shape_of found.object)) at (record {
              name = whole.name;
              shape = whole.shape;
              header = same ∙ whole.header;
              in_heap = subst (λ l. granule_of (g.at found.name) + word_count (shape_of found.object) / 2 ≤ GRANULES_IN_BLOCK * l.blocks) (sym (heads_limits s now g ns from so_far)) whole.in_heap;
              in_block = whole.in_block;
            });
          }

      -- once it is written, all up to it is
      pub next_heads : (after : Space) → Turns now after (with_heap (tables_of now) (2 * granule) (header_word (renewed_name ns found.name) (shape_of found.object))) → RenewsHeads s after g ns (granule + 1)
      next_heads after turns =
          let value : ℕ = header_word (renewed_name ns found.name) (shape_of found.object) in
          let reached = next.reached in
          let heap : (w : ℕ) → (tables_of after).heap w ≡ (with_heap (tables_of now) (2 * granule) value).heap w = λ w. ap (λ (t : Tables). t.heap w) turns.tables in
          record {
            heads = λ n o h e below. elim (order (granule_of (g.at n)) granule) [
              | inl lower ↦ heap (first_word (g.at n)) ∙ not_at (tables_of now).heap (2 * granule) value (first_word (g.at n)) (λ w. absurd (omega (arith, w, lower)))
                  ∙ so_far.heads n o h e (begins_below granule next.passed n h lower)
              | inr upper ↦
                  let at = found.granule_is in
                  let same : found.name ≡ n = one_name found.name n found.member h (omega (arith, at, upper, below)) in
                  let object : found.object ≡ o = same_object g.moment.state.graph n found.object o (ap (object_at g.moment.state.graph) (sym same) ∙ found.is) e in
                  heap (first_word (g.at n)) ∙ just_at (tables_of now).heap (2 * granule) value (first_word (g.at n)) (omega (arith, upper, below))
                  ∙ (λ i. header_word (renewed_name ns (same i)) (shape_of (object i)))
            ];
            others = λ w other.
                let at = found.granule_is in
                heap w ∙ not_at (tables_of now).heap (2 * granule) value w (λ e. other found.name found.member (omega (arith, at)) (omega (arith, e, at)))
                ∙ so_far.others w (λ n h below. other n h (omega (arith, below, reached)));
            tables = turns.tables ∙ ap (λ (t : Tables). with_heap t (2 * granule) value) so_far.tables ∙ sym (ap (λ (t : Tables). record (tables_of s) { heap = t.heap }) turns.tables);
            rest = turns.rest ∙ ap {A = Space} (λ x. record x { words = after.words }) so_far.rest;
          }
        where
          order : (a b : ℕ) → (a < b) ⊎ (b ≤ a)
          order a b = grind arith
