-- Steps of decrementers that only look: what they have in hand stays, in other words.
use Rattle.std.proofs.Common.{◌≡◌, ◌≢◌, ℕ, ◌+◌, ◌<◌, ◌≤◌, refl, sym, ap, ◌∙◌, inl, inr, ◌⊎◌, arith, Bool, true, false, cond, List, IsTrue, length}
use Rattle.std.specs.Prelude.{nat_eq, nat_lt, Option, Some, None, slice_get}
use Rattle.std.proofs.lemmas.Option.{slice_get_within}
use Rattle.lxr_layout.specs.declared.limits.Limits.{Limits}
use Rattle.lxr_layout.specs.declared.Header.TheVariants as header
use Rattle.lxr_layout.specs.declared.Name.{Name}
use Rattle.lxr_layout.specs.declared.Shape.{Shape}
use Rattle.lxr_layout.specs.declared.TheConstants.{DECREMENT_COUNT, DECREMENT_CURSOR, STUCK}
use Rattle.lxr_layout.specs.Objects.{header_of}
use Rattle.lxr_layout.specs.Places.{field_word, first_word}
use Rattle.lxr_graph.specs.Names.{has, same_name}
use Rattle.lxr_graph.proofs.NameSets.{not_both, same_itself, same_names}
use Rattle.lxr_image.specs.Tables.{Tables}
use Rattle.lxr_image.specs.Reads.{granule_of}
use Rattle.lxr_image.specs.Image.{place_word}
use Rattle.lxr_model.specs.Moments.{Moment}
use Rattle.lxr_model_counting.proofs.DistinctLemmas.{tested}
use Rattle.lxr_invariant.specs.Counting.{occurrences_from}
use Rattle.lxr_invariant.proofs.NameLemmas.{occurrences_end, occurrences_step}
use Rattle.lxr_core_access.specs.Decrementers.{Decrementing, Handling, IsTry, handled_next, pocket, «list», Entry, References, Rests, AsksCount, AsksStart, Claims, ReadsHeader, AsksTracing, ReadsReference, MakesGray, AsksLowered, Lowers, AsksCursor, AsksNumber, Draws, ReadsEntry}
use Rattle.lxr_core_invariant.specs.Counted.{AreCounted, HeldAt, IsHandledAt, KnowsCounts, KnowsHandling, StandsAt, draws_soon, handled_by, in_hand, one_at, place_handled, references_at, unreached}
use Rattle.lxr_core_inv_counts.proofs.GroundLemmas.{IsGround}
use Rattle.lxr_core_inv_counts.proofs.TurnLemmas.{Looks}
use Rattle.lxr_core_inv_counts.proofs.FactLemmas.{has_read, in_hand_some, is_loose, is_stuck, one_is, refs_there, stands_at, word_of_nil, word_of_some}

-- ---- how a unit goes on

-- what comes once a reference, or an entry, is lowered: the decrements in hand are those of the references that are yet to be reached
pub record IsNext (blocks : ℕ) (t : Tables) (m : Moment) (at : Name → ℕ) (handling : Handling) (e : Decrementing) : Type 0 where
  pub hand : (n : Name) → in_hand t m at e n ≡ unreached m at handling n
  pub handled : (place : ℕ) → handled_by e ≡ Some place → place_handled handling ≡ Some place
  pub draws_none : (number : ℕ) → e ≡ ReadsEntry number → ⊥
  pub soon : draws_soon (t.cursors DECREMENT_COUNT) e ≡ 0
  pub own : KnowsCounts blocks t m at e

-- behind the last reference nothing is in hand
all_reached : (rs next refs : ℕ) → refs ≡ rs → next ≤ refs → nat_lt next refs ≡ false → next ≡ rs
all_reached rs next refs e within past = let k : refs ≤ next = grind (arith, past) in omega (arith, e, within, k)

pub next_is : (blocks : ℕ) (t : Tables) (m : Moment) (at : Name → ℕ) (handling : Handling) → KnowsHandling t m at handling → IsNext blocks t m at handling (handled_next handling)
next_is blocks t m at Entry knows = record { hand = λ n. refl; handled = λ place e. absurd (cc); draws_none = λ number e. cc; soon = refl; own = tt }
next_is blocks t m at (References place refs next traced) knows =
    elim (nat_lt next refs) as (λ b. nat_lt next refs ≡ b → IsNext blocks t m at (References place refs next traced) (cond b (ReadsReference place refs next traced) Rests)) [
      | true ↦ λ k. record { hand = λ n. refl; handled = λ p e. e; draws_none = λ number e. cc; soon = refl; own = (knows.0, let less : next < refs = grind (arith, k) in less) }
      | false ↦ λ k.
          let last = all_reached (length (references_at m at place)) next refs knows.0.refs_are knows.1 k in
          record {
            hand = λ n. sym (ap (λ z. occurrences_from (references_at m at place) z n) last ∙ occurrences_end (references_at m at place) n);
            handled = λ p e. absurd (cc);
            draws_none = λ number e. cc;
            soon = refl;
            own = tt;
          }
    ] refl

module _ (l : Limits) (t : Tables) (ds : List Decrementing) (m : Moment) (at : Name → ℕ) (ground : IsGround l t m at) (was : AreCounted l.blocks t ds m at) where
  abbrev blocks : ℕ
  blocks = l.blocks

  -- it goes on with the unit
  next_looks : (d : Decrementing) (handling : Handling) → KnowsHandling t m at handling → ((n : Name) → IsTrue (has m.unreclaimed n) → has m.stuck n ≡ false → in_hand t m at d n ≡ unreached m at handling n)
      → ((place : ℕ) → place_handled handling ≡ Some place → handled_by d ≡ Some place) → Looks blocks t m at d (handled_next handling)
  next_looks d handling knows same handled =
      let next = next_is blocks t m at handling knows in
      record {
        hand = λ n h k. next.hand n ∙ sym (same n h k);
        handled = λ place e. handled place (next.handled place e);
        draws_none = next.draws_none;
        drawn = inl (let soon = next.soon in omega (arith, soon));
        own = next.own;
      }

  -- it tries a place of its pocket, or the list
  pub try_looks : (d e : Decrementing) → IsTry blocks e → ((n : Name) → in_hand t m at d n ≡ 0) → Looks blocks t m at d e
  try_looks d e (pocket place some within) none = record { hand = λ n h k. sym (none n); handled = λ p e. absurd (cc); draws_none = λ number e. cc; drawn = inl (omega arith); own = (some, within) }
  try_looks d e «list» none = record { hand = λ n h k. sym (none n); handled = λ p e. absurd (cc); draws_none = λ number e. cc; drawn = inl (omega arith); own = tt }

  -- ---- an object of the pocket

  pub count_looks : (place : ℕ) → KnowsCounts blocks t m at (AsksCount place) → Looks blocks t m at (AsksCount place) (AsksStart place (nat_eq (t.counts (granule_of place)) 0))
  count_looks place knows = record { hand = λ n h k. refl; handled = λ p e. absurd (cc); draws_none = λ number e. cc; drawn = inl (omega arith); own = (knows, λ e. grind (arith, e)) }

  pub started_looks : (place : ℕ) → KnowsCounts blocks t m at (AsksStart place true) → IsTrue (t.starts (granule_of place)) → Looks blocks t m at (AsksStart place true) (Claims place)
  started_looks place knows started = record {
    hand = λ n h k. refl;
    handled = λ p e. absurd (cc);
    draws_none = λ number e. cc;
    drawn = inl (omega arith);
    own = record { stands = stands_at l t ds m at ground was place knows.0.0 started; zero = knows.1 refl };
  }

  pub header_looks : (place : ℕ) (n : Name) (s : Shape) → KnowsCounts blocks t m at (ReadsHeader place) → header_of (t.heap (first_word place)) ≡ header.Object n s
      → Looks blocks t m at (ReadsHeader place) (AsksTracing place s.refs)
  header_looks place n s knows told =
      let there = ground.stands knows.name knows.member in
      let same : header.Object n s ≡ header.Object knows.name there.shape = sym told ∙ ap (λ p. header_of (t.heap (first_word p))) knows.stands ∙ there.told in
      let shape : s ≡ there.shape = cc in
      record {
        hand = λ o h k. refl;
        handled = λ p e. e;
        draws_none = λ number e. cc;
        drawn = inl (omega arith);
        own = record { done = knows; refs_are = ap (λ (z : Shape). z.refs) shape ∙ there.refs ∙ ap length (sym (refs_there l t ds m at ground was place knows.name knows.member knows.stands)) };
      }

  pub tracing_looks : (place refs : ℕ) (traced : Bool) → KnowsCounts blocks t m at (AsksTracing place refs) → Looks blocks t m at (AsksTracing place refs) (handled_next (References place refs 0 traced))
  tracing_looks place refs traced knows = next_looks (AsksTracing place refs) (References place refs 0 traced) (knows, omega arith) (λ n h k. refl) (λ p e. e)

  -- ---- a reference

  -- a reference that is nil holds no decrement
  pub nil_looks : (place refs index : ℕ) (traced : Bool) → KnowsCounts blocks t m at (ReadsReference place refs index traced) → t.heap (field_word place index) ≡ 0
      → Looks blocks t m at (ReadsReference place refs index traced) (handled_next (References place refs (index + 1) traced))
  nil_looks place refs index traced knows zero =
      let rs : List (Option Name) = references_at m at place in
      let read = has_read l t ds m at ground was place refs index knows.0 knows.1 in
      let nil : read.held ≡ None = word_of_nil l t ds m at ground was read.held read.member (sym read.word ∙ zero) in
      let within = knows.1 in
      next_looks (ReadsReference place refs index traced) (References place refs (index + 1) traced) (knows.0, omega (arith, within))
      (λ n h k. let next = occurrences_step rs index None n (read.reference ∙ ap Some nil) in omega (arith, next)) (λ p e. e)

  -- what is read of a reference that isn't nil
  record HoldsName (place refs index : ℕ) : Type 0 where
    held : HeldAt m at place index (t.heap (field_word place index))
    behind : KnowsHandling t m at (References place refs (index + 1) true)

  holds_name : (place refs index : ℕ) → IsHandledAt t m at place refs → index < refs → t.heap (field_word place index) ≢ 0 → HoldsName place refs index
  holds_name place refs index is within some =
      let read = has_read l t ds m at ground was place refs index is within in
      let v = word_of_some at read.held (λ e. some (read.word ∙ e)) in
      record {
        held = record { held = v.0; member = read.member v.0 v.1; reference = read.reference ∙ ap Some v.1; stands = read.word ∙ ap (place_word at) v.1 };
        behind = (is, omega (arith, within));
      }

  -- its decrement comes into hand alone
  taken : (place index referent : ℕ) (n : Name) → HeldAt m at place index referent → IsTrue (has m.unreclaimed n)
      → one_at at referent n + occurrences_from (references_at m at place) (index + 1) n ≡ occurrences_from (references_at m at place) index n
  taken place index referent n held member =
      let a = one_is l t ds m at ground was referent held.held n held.member member held.stands in
      let b = occurrences_step (references_at m at place) index (Some held.held) n held.reference in
      omega (arith, a, b)

  pub untraced_looks : (place refs index : ℕ) → KnowsCounts blocks t m at (ReadsReference place refs index false) → t.heap (field_word place index) ≢ 0
      → Looks blocks t m at (ReadsReference place refs index false) (AsksLowered (t.heap (field_word place index)) (References place refs (index + 1) false))
  untraced_looks place refs index knows some =
      let x = holds_name place refs index knows.0 knows.1 some in
      record {
        hand = λ n h k. taken place index (t.heap (field_word place index)) n x.held h;
        handled = λ p e. e;
        draws_none = λ number e. cc;
        drawn = inl (omega arith);
        own = (record { name = x.held.held; member = x.held.member; stands = x.held.stands }, x.behind);
      }

  pub traced_looks : (place refs index : ℕ) → KnowsCounts blocks t m at (ReadsReference place refs index true) → t.heap (field_word place index) ≢ 0
      → Looks blocks t m at (ReadsReference place refs index true) (MakesGray place refs index (t.heap (field_word place index)))
  traced_looks place refs index knows some = record {
    hand = λ n h k. refl;
    handled = λ p e. e;
    draws_none = λ number e. cc;
    drawn = inl (omega arith);
    own = (knows.0, (holds_name place refs index knows.0 knows.1 some).held);
  }

  pub gray_looks : (place refs index referent : ℕ) → KnowsCounts blocks t m at (MakesGray place refs index referent)
      → Looks blocks t m at (MakesGray place refs index referent) (AsksLowered referent (References place refs (index + 1) true))
  gray_looks place refs index referent knows =
      let held = knows.1 in
      let within = slice_get_within (references_at m at place) index (Some held.held) held.reference in
      let as_many = knows.0.refs_are in
      record {
        hand = λ n h k. taken place index referent n held h;
        handled = λ p e. e;
        draws_none = λ number e. cc;
        drawn = inl (omega arith);
        own = (record { name = held.held; member = held.member; stands = held.stands }, (knows.0, omega (arith, within, as_many)));
      }

  -- ---- a count

  -- a decrement of what stands at a place is in hand
  in_hand_one : (place : ℕ) (n : Name) (more : ℕ) → IsTrue (has m.unreclaimed n) → place ≡ at n → 1 ≤ one_at at place n + more
  in_hand_one place n more member there = let a = one_is l t ds m at ground was place n n member member there ∙ ap (λ b. cond b 1 0) (same_itself n) in omega (arith, a)

  -- so its count isn't 0
  pub counted_some : (i : ℕ) (d : Decrementing) (place : ℕ) (handling : Handling) → slice_get ds i ≡ Some d → ((n : Name) → in_hand t m at d n ≡ one_at at place n + unreached m at handling n) → StandsAt m at place
      → t.counts (granule_of place) ≢ 0
  counted_some i d place handling shows same stands zero =
      let n : Name = stands.name in
      let one = in_hand_one place n (unreached m at handling n) stands.member stands.stands in
      let hand = same n in
      in_hand_some l t ds m at ground was i d n shows stands.member (omega (arith, one, hand)) (ap (λ p. t.counts (granule_of p)) (sym stands.stands) ∙ zero)

  -- a decrement of a stuck name is none
  pub stuck_looks : (referent : ℕ) (handling : Handling) → KnowsCounts blocks t m at (AsksLowered referent handling) → t.counts (granule_of referent) ≡ STUCK
      → Looks blocks t m at (AsksLowered referent handling) (handled_next handling)
  stuck_looks referent handling knows full =
      let o : Name = knows.0.name in
      let stuck = is_stuck l t ds m at ground was o knows.0.member (ap (λ p. t.counts (granule_of p)) (sym knows.0.stands) ∙ full) in
      next_looks (AsksLowered referent handling) handling knows.1
      (λ n h loose.
      let other : same_name n o ≡ false = elim (tested (same_name n o)) [ inl k ↦ not_both (has m.stuck o) stuck (ap (has m.stuck) (sym (same_names n o k)) ∙ loose) | inr k ↦ k ] in
      let none = one_is l t ds m at ground was referent o n knows.0.member h knows.0.stands ∙ ap (λ b. cond b 1 0) other in
      omega (arith, none))
      (λ p e. e)

  pub lowered_looks : (referent : ℕ) (handling : Handling) → KnowsCounts blocks t m at (AsksLowered referent handling) → t.counts (granule_of referent) ≢ STUCK
      → Looks blocks t m at (AsksLowered referent handling) (Lowers referent handling)
  lowered_looks referent handling knows differs =
      let o : Name = knows.0.name in
      let loose = is_loose l t ds m at ground was o knows.0.member (λ e. differs (ap (λ p. t.counts (granule_of p)) knows.0.stands ∙ e)) in
      record { hand = λ n h k. refl; handled = λ p e. e; draws_none = λ number e. cc; drawn = inl (omega arith); own = (record { name = o; member = knows.0.member; stands = knows.0.stands; unstuck = loose }, knows.1) }

  -- ---- the list

  pub cursor_looks : Looks blocks t m at AsksCursor (AsksNumber (t.cursors DECREMENT_CURSOR))
  cursor_looks = record {
    hand = λ n h k. refl;
    handled = λ p e. absurd (cc);
    draws_none = λ number e. cc;
    drawn = elim (nat_lt (t.cursors DECREMENT_CURSOR) (t.cursors DECREMENT_COUNT))
        as (λ b. nat_lt (t.cursors DECREMENT_CURSOR) (t.cursors DECREMENT_COUNT) ≡ b → (cond b 1 0 ≤ 0) ⊎ (t.cursors DECREMENT_CURSOR < t.cursors DECREMENT_COUNT)) [
          | true ↦ λ k. inr (grind (arith, k))
          | false ↦ λ k. inl (omega arith)
        ] refl;
    own = tt;
  }

  pub none_looks : (cursor : ℕ) → Looks blocks t m at (AsksNumber cursor) Rests
  none_looks cursor = record { hand = λ n h k. refl; handled = λ p e. absurd (cc); draws_none = λ number e. cc; drawn = inl (omega arith); own = tt }

  pub some_looks : (cursor : ℕ) → cursor < t.cursors DECREMENT_COUNT → Looks blocks t m at (AsksNumber cursor) (Draws (t.cursors DECREMENT_COUNT))
  some_looks cursor less = record {
    hand = λ n h k. refl;
    handled = λ p e. absurd (cc);
    draws_none = λ number e. cc;
    drawn = inl (let k : nat_lt cursor (t.cursors DECREMENT_COUNT) ≡ true = grind (arith, less) in let one : cond {A = ℕ} (nat_lt cursor (t.cursors DECREMENT_COUNT)) 1 0 ≡ 1 = ap (λ b. cond b 1 0) k in omega (arith, one));
    own = refl;
  }

  pub entry_looks : (number : ℕ) → KnowsCounts blocks t m at (ReadsEntry number) → Looks blocks t m at (ReadsEntry number) (AsksLowered (t.decs number) Entry)
  entry_looks number within =
      let x = ground.decrements.places number within in
      record {
        hand = λ n h k. omega arith;
        handled = λ p e. absurd (cc);
        draws_none = λ number e. cc;
        drawn = inl (omega arith);
        own = (record { name = x.0; member = x.1; stands = x.2 }, tt);
      }
