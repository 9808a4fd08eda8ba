-- An opened space holds the opening moment.
use Rattle.std.proofs.Common.{◌≡◌, ◌≢◌, ℕ, zero, suc, ◌+◌, ◌-◌, ◌*◌, ◌%◌, ◌<◌, ◌≤◌, refl, sym, ap, subst, ◌∙◌, inl, inr, ◌⊎◌, arith, cond, Bool, true, false, List, [], ◌∷◌, length, map, nat_eq, nat_le}
use Rattle.std.specs.Prelude.{Some, None, IsTrue, ◌&&◌}
use Rattle.std.specs.List.Sorted.{IsPermutation}
use Rattle.std.proofs.lemmas.List.{length-map}
use Rattle.std.proofs.lemmas.List.Sorted.{IsPermutation-refl}
use Rattle.std.proofs.lemmas.Bool.Decides.{eqb_tells}
use Rattle.lxr_layout.specs.declared.limits.Limits.{Limits}
use Rattle.lxr_layout.specs.declared.Name.{Name}
use Rattle.lxr_layout.specs.declared.Place.{Place}
use Rattle.lxr_layout.specs.declared.TheConstants.{GRANULES_IN_LINE, REGISTERS, STUCK}
use Rattle.lxr_graph.specs.Names.{has}
use Rattle.lxr_graph.specs.State.{Graph, Object, object_at, opening, opening_registers, refs_of, world, world_name}
use Rattle.lxr_graph.proofs.NameSets.{has_one, not_both}
use Rattle.lxr_image.specs.declared.space.Space.{Space}
use Rattle.lxr_image.specs.declared.open.TheConstants.{WORLD_STATE}
use Rattle.lxr_image.specs.Tables.{changed}
use Rattle.lxr_image.specs.Spaces.{IsSpace, tables_of}
use Rattle.lxr_image.specs.Image.{ArePlacesOf, IsImage, IsOpeningImage, StartsAre, granules_of, opening_at}
use Rattle.lxr_image.specs.Opened.{IsOpened, opened_tables, opening_place}
use Rattle.lxr_blocks.specs.declared.states.BlockState.TheVariants.{Free, World}
use Rattle.lxr_blocks.specs.States.{state_in, state_of}
use Rattle.lxr_model.specs.Moments.{Moment, opening_moment}
use Rattle.lxr_graph.proofs.OpeningLemmas.{length-opening}
use Rattle.lxr_model_counting.proofs.FollowingLemmas.{opening_follows}
use Rattle.lxr_invariant.specs.Standing.{HasBits}
use Rattle.lxr_invariant.specs.Counting.{HasCounts, HasDecrements, IsUndecremented}
use Rattle.lxr_invariant.specs.Lines.{FreeAreUnused, HasBlocks, HasMarks, IsMarkOf, chosen_count, is_chosen}
use Rattle.lxr_invariant.specs.Quiescent.{HoldsMoment}
use Rattle.lxr_invariant.proofs.NameLemmas.{no_member}
use Rattle.lxr_invariant.proofs.EntryLemmas.{changed_other, unlike_number}

-- ---- the one member

the_world : (threads : ℕ) (n : Name) (o : Object) → IsTrue (has (world_name ∷ []) n) → object_at (opening threads).graph n ≡ Some o → (n ≡ world_name) × (o ≡ world)
the_world threads n o in_m e =
    let name : n ≡ world_name = has_one world_name n in_m in
    let k : Some o ≡ Some world = sym e ∙ ap (object_at (opening threads).graph) name in
    (name, cc)

-- the world's granules
pub within_world : (threads : ℕ) (n : Name) (o : Object) (k : ℕ) → IsTrue (has (world_name ∷ []) n) → object_at (opening threads).graph n ≡ Some o → k < 0 + granules_of o → k < 33
within_world threads n o k member there within = subst (λ z. k < 0 + granules_of z) (the_world threads n o member there).1 within

-- ---- its counts and bits

mark_lines : (k : ℕ) → k % GRANULES_IN_LINE ≡ 0 → 0 < k → k < 33 → (k ≡ 16) ⊎ (k ≡ 32)
mark_lines k begins some within = elim (eqb_tells k 16) [ inl e ↦ inl e.1 | inr e ↦ let ne = e.1 in inr (omega arith) ]

counted_at : (l : Limits) (k : ℕ) → (k ≡ GRANULES_IN_LINE) ⊎ (k ≡ 32) → (opened_tables l).counts k ≡ STUCK
counted_at l k (inl e) = ap (opened_tables l).counts e
counted_at l k (inr e) = ap (opened_tables l).counts e

pub uncounted_at : (l : Limits) (k : ℕ) → k ≢ 0 → k ≢ GRANULES_IN_LINE → k ≢ 32 → (opened_tables l).counts k ≡ 0
uncounted_at l k a b c =
    changed_other (changed (changed (λ _. 0) 0 STUCK) 16 STUCK) 32 STUCK k c ∙ changed_other (changed (λ _. 0) 0 STUCK) 16 STUCK k b ∙ changed_other (λ _. 0) 0 STUCK k a

opening_marks : (l : Limits) (threads : ℕ) → HasMarks (opened_tables l) (opening threads).graph opening_at (world_name ∷ [])
opening_marks l threads = record {
  marked = λ n o k member there mark. counted_at l k (mark_lines k mark.begins mark.behind (within_world threads n o k member there mark.within));
  elsewhere = λ k none bare. uncounted_at l k (λ e. none world_name refl (sym e))
      (λ e. bare world_name world refl refl (subst (IsMarkOf opening_at world_name world) (sym e) (record { begins = refl; behind = omega arith; within = omega arith })))
      (λ e. bare world_name world refl refl (subst (IsMarkOf opening_at world_name world) (sym e) (record { begins = refl; behind = omega arith; within = omega arith })));
}

opening_counts : (l : Limits) (threads : ℕ) → HasCounts (opened_tables l) (opening_moment threads) opening_at
opening_counts l threads = record {
  stuck = λ n member stuck. refl;
  below = λ n member loose. not_both (has (world_name ∷ []) n) member loose;
  exact = λ n member loose. not_both (has (world_name ∷ []) n) member loose;
  held = λ n member loose. not_both (has (world_name ∷ []) n) member loose;
  done = λ n member done. absurd (let k : false ≡ true = done in cc);
  dead = λ n member done. absurd (let k : false ≡ true = done in cc);
}

in_bits : (w : ℕ) → 1 ≤ w → w ≤ 64 → (nat_le 1 w && nat_le w 64) ≡ true
in_bits w low high = grind arith

bits_in : (w : ℕ) → (nat_le 1 w && nat_le w 64) ≡ true → (1 ≤ w) × (w ≤ 64)
bits_in w e = (grind arith, grind arith)

opening_bits : (l : Limits) (threads : ℕ) → StartsAre (opened_tables l) opening_at (world_name ∷ []) → HasBits (opened_tables l) (opening_moment threads) opening_at (world_name ∷ [])
opening_bits l threads starts = record {
  starts = starts;
  marks = λ k h. absurd (let e : false ≡ true = h in cc);
  grays = λ k h. absurd (let e : false ≡ true = h in cc);
  dones = λ k h. absurd (let e : false ≡ true = h in cc);
  unlogged = λ w. (
    λ bit.
        let within = bits_in w (told (nat_le 1 w && nat_le w 64) bit) in
        (world_name, w - 1, record { member = refl; index = short w within.0 within.1; unwritten = refl; word = back w within.0 }),
    λ (n, i, is).
        let within : i < 64 = subst (λ z. i < length (refs_of (object_at (opening threads).graph z))) (has_one world_name n is.member) is.index in
        ap (λ b. cond b true false) (in_bits w (low_word w i is.word) (high_word w i is.word within)),
  );
}
  where
    told : (b : Bool) → cond b true false ≡ true → b ≡ true
    told true h = refl
    told false h = h

    short : (w : ℕ) → 1 ≤ w → w ≤ 64 → w - 1 < 64
    short w low high = omega arith

    back : (w : ℕ) → 1 ≤ w → w ≡ 0 + 1 + (w - 1)
    back w low = omega arith

    low_word : (w i : ℕ) → w ≡ 0 + 1 + i → 1 ≤ w
    low_word w i e = omega arith

    high_word : (w i : ℕ) → w ≡ 0 + 1 + i → i < 64 → w ≤ 64
    high_word w i e h = omega arith

-- ---- blocks

unchosen_at : (l : Limits) (b : ℕ) → is_chosen (state_in (opened_tables l) b) ≡ false
unchosen_at l b = elim (nat_eq b 0) as (λ c. is_chosen (state_of (cond c WORLD_STATE 0)) ≡ false) [ true ↦ refl | false ↦ refl ]

none_chosen : (l : Limits) (n : ℕ) → chosen_count (opened_tables l) n ≡ 0
none_chosen l zero = refl
none_chosen l (suc b) = ap (λ c. cond c 1 0 + chosen_count (opened_tables l) b) (unchosen_at l b) ∙ ap (λ z. 0 + z) (none_chosen l b)

pub free_at : (l : Limits) (b : ℕ) → 1 ≤ b → state_in (opened_tables l) b ≡ Free
free_at l b some = ap (λ c. state_of (cond c WORLD_STATE 0)) (unlike_number b 0 (λ e. omega arith))

opening_blocks : (l : Limits) → HasBlocks (opened_tables l) l None
opening_blocks l =
    let none = none_chosen l l.blocks in
    record {
      world = refl;
      others = λ b some low e. let k : Free ≡ World = sym (free_at l b some) ∙ e in cc;
      few = omega (arith, none);
      chosen = none;
      tracing = refl;
    }

-- the world's block is World, and no line is out
opening_unused : (l : Limits) → FreeAreUnused (opened_tables l) opening_at (world_name ∷ [])
opening_unused l = record { objects = λ n member e. let k : World ≡ Free = e in cc; outs = λ line out. absurd (let no : false ≡ true = out in cc) }

-- ---- the whole

many_at : (places : List Place) (threads now : ℕ) → places ≡ map opening_place (opening_registers threads) → now ≡ threads → length places ≡ REGISTERS * now
many_at places threads now are same = ap length are ∙ length-map (opening_registers threads) opening_place ∙ length-opening threads ∙ ap (λ z. REGISTERS * z) (sym same)

pub opening_holds : (s : Space) (l : Limits) → IsSpace s → IsOpened s l → IsOpeningImage s → HoldsMoment s (opening_moment l.threads) opening_at
opening_holds s l is opened image =
    let threads : s.limits.threads ≡ l.threads = ap (λ z. z.threads) opened.limits in
    let same : tables_of s ≡ opened_tables l = opened.tables in
    let m : Moment = opening_moment l.threads in
    let g : Graph = (opening l.threads).graph in
    record {
      space = is;
      room = opened.room;
      follows = opening_follows l.threads;
      image = record {
        image = subst (λ z. IsImage (tables_of s) s.limits.blocks opening_at (opening z).graph (world_name ∷ [])) threads image.image;
        registers = subst (λ z. ArePlacesOf opening_at s.registers.items (opening_registers z)) threads image.registers;
        deferred = subst (λ z. ArePlacesOf opening_at s.deferred.items (opening_registers z)) threads image.deferred;
        world = refl;
      };
      bits = subst (λ z. HasBits z m opening_at (world_name ∷ [])) (sym same) (opening_bits l l.threads (subst (λ z. StartsAre z opening_at (world_name ∷ [])) same image.starts));
      logs = subst (λ z. IsPermutation [] z) (sym opened.logged) (IsPermutation-refl []);
      few_logs = subst (λ z. length z ≤ s.limits.threads * s.limits.log) (sym opened.logged) (omega arith);
      as_many = (many_at s.registers.items l.threads s.limits.threads opened.registers threads, many_at s.deferred.items l.threads s.limits.threads opened.deferred threads);
      counts = subst (λ z. HasCounts z m opening_at) (sym same) (opening_counts l l.threads);
      decrements = subst (λ z. HasDecrements s.limits z m opening_at) (sym same) (record { fits = omega arith; places = λ k below. absurd (omega arith) });
      marks = subst (λ z. HasMarks z g opening_at (world_name ∷ [])) (sym same) (opening_marks l l.threads);
      lines = λ n o k member covers. no_member n member;
      unchosen = λ n member. no_member n member;
      unused = subst (λ z. FreeAreUnused z opening_at (world_name ∷ [])) (sym same) (opening_unused l);
      blocks = subst (λ z. HasBlocks (tables_of s) z None) (sym opened.limits) (subst (λ z. HasBlocks z l None) (sym same) (opening_blocks l));
      rest = record {
        rest = inl (opened.rest.0 ∙ sym opened.rest.1);
        apart = λ n o k member covers. inr (subst (λ z. z ≤ k) (sym opened.rest.1) (omega arith));
      };
      no_work = opened.work;
    }

pub opening_undecremented : (s : Space) (l : Limits) → IsOpened s l → IsUndecremented (tables_of s) (opening_moment l.threads) opening_at
opening_undecremented s l opened =
    subst (λ z. IsUndecremented z (opening_moment l.threads) opening_at) (sym opened.tables) (record { none_done = λ k. refl; none_drawn = refl; positive = λ n member e. cc })
