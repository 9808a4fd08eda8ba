-- Mutators keep marks inside: they set no bit, what they store is live, and garbage isn't.
use Rattle.std.proofs.Common.{◌≡◌, ℕ, ◌<◌, ◌≤◌, refl, sym, ap, subst, ◌∙◌, inl, inr, Bool, true, false, cond, List, IsTrue, length}
use Rattle.std.specs.Prelude.{Some, None, is_some}
use Rattle.lxr_layout.specs.declared.Name.{Name}
use Rattle.lxr_graph.specs.declared.Op.{Op}
use Rattle.lxr_graph.specs.declared.Reply.{Reply}
use Rattle.lxr_graph.specs.Names.{has, same_name}
use Rattle.lxr_graph.specs.State.{State, next_name, object_at, refs_of}
use Rattle.lxr_graph.specs.Step.{step}
use Rattle.lxr_graph.proofs.NameSets.{not_both, same_names}
use Rattle.lxr_graph.proofs.RowLemmas.{next_none}
use Rattle.lxr_image.specs.Tables.{Tables}
use Rattle.lxr_image.specs.ImageLaws.{placed}
use Rattle.lxr_image.specs.Reads.{granule_of}
use Rattle.lxr_model.specs.Moments.{Moment, Trace, after_call, made_after, written_after}
use Rattle.lxr_model.specs.Reachable.{Refers}
use Rattle.lxr_model.proofs.ObjectLemmas.{step_facts}
use Rattle.lxr_model.proofs.StepLemmas.{step_refers}
use Rattle.lxr_model_counting.specs.Following.{FollowsPause}
use Rattle.lxr_model_counting.specs.Garbage.{IsGarbageOf}
use Rattle.lxr_model_counting.proofs.FollowingLemmas.{live_before, live_reachable, stepped, unreclaimed_object}
use Rattle.lxr_model_counting.proofs.ReplyLemmas.{state_after_step}
use Rattle.lxr_invariant.specs.Tracing.{IsInSnapshot, StaysGarbage}
use Rattle.lxr_core_access.specs.Tracers.{Tracing}
use Rattle.lxr_core_invariant.specs.Inside.{StaysInside}

-- ---- tables and places

-- the tables have the same marks, grays and dones
pub record HasSameBits (t u : Tables) : Type 0 where
  pub marks : u.marks ≡ t.marks
  pub grays : u.grays ≡ t.grays
  pub dones : u.dones ≡ t.dones

-- the bit of an object that stands where it did
bit_on : (f g : ℕ → Bool) (p q : ℕ) → g ≡ f → q ≡ p → g (granule_of q) ≡ f (granule_of p)
bit_on f g p q same there = ap (λ z. z (granule_of q)) same ∙ ap (λ z. f (granule_of z)) there

-- bits stay, and unreclaimed objects stand where they did
pub bits_stay : (t u : Tables) (m : Moment) (at to : Name → ℕ) (ts : List Tracing) (trace : Trace) → HasSameBits t u → ((n : Name) → IsTrue (has m.unreclaimed n) → to n ≡ at n)
    → StaysInside t m at ts trace → StaysInside u m to ts trace
bits_stay t u m at to ts trace same there is =
    let marked : (n : Name) → IsTrue (has m.unreclaimed n) → u.marks (granule_of (to n)) ≡ t.marks (granule_of (at n)) = λ n h. bit_on t.marks u.marks (at n) (to n) same.marks (there n h) in
    let grayed : (n : Name) → IsTrue (has m.unreclaimed n) → u.grays (granule_of (to n)) ≡ t.grays (granule_of (at n)) = λ n h. bit_on t.grays u.grays (at n) (to n) same.grays (there n h) in
    let done : (n : Name) → IsTrue (has m.unreclaimed n) → u.dones (granule_of (to n)) ≡ t.dones (granule_of (at n)) = λ n h. bit_on t.dones u.dones (at n) (to n) same.dones (there n h) in
    record {
      marks = record {
        marks = λ n h k. is.marks.marks n h (sym (marked n h) ∙ k);
        grays = λ n h k. is.marks.grays n h (sym (grayed n h) ∙ k);
        dones = λ n h k. is.marks.dones n h (sym (done n h) ∙ k);
        members = λ n h. elim (is.marks.members n h) [ inl old ↦ inl old | inr q ↦ inr (q.0, marked n h ∙ q.1) ];
        referred = is.marks.referred;
        garbage = λ n g.
            let stays = is.marks.garbage n g in
            record { member = stays.member; dropped = stays.dropped; undone = done n stays.member ∙ stays.undone; references = stays.references; referred = stays.referred };
      };
      loaded = λ i d n shows e h. is.loaded i d n shows (e ∙ ap Some (there n h)) h;
    }

-- ---- a call

module _ (t : Tables) (m : Moment) (at : Name → ℕ) (ts : List Tracing) (trace : Trace) (follows : FollowsPause m) (is : StaysInside t m at ts trace)
    (i : ℕ) (o : Op) (r : Reply) (e : (step m.state i o).1 ≡ r) (row : i < length m.state.graph) (one : 1 ≤ i) where
  abbrev after : Moment
  after = stepped m i o r

  -- what is inside stays so, and what is inside and unreclaimed was so
  inside_on : (n : Name) → IsInSnapshot m trace n → IsInSnapshot after trace n
  inside_on n (inl reached) = inl reached
  inside_on n (inr younger) = inr (younger.0, (step_facts m.state i o row).stays n younger.1)

  inside_before : (n : Name) → IsTrue (has m.unreclaimed n) → IsInSnapshot after trace n → IsInSnapshot m trace n
  inside_before n member (inl reached) = inl reached
  inside_before n member (inr younger) = inr (younger.0, unreclaimed_object m follows n member)

  -- nothing inside comes to refer to garbage: what a step stores was reachable
  unreferred : (u n : Name) → IsTrue (has m.unreclaimed u) → IsInSnapshot after trace u → IsGarbageOf trace n → Refers after.state.graph u n → ⊥
  unreferred u n in_u inside g f = elim (step_refers m.state i o row u n f) [
    | inl q ↦ (is.marks.referred u n in_u (inside_before u in_u inside) g).1 q
    | inr q ↦ (is.marks.garbage n g).dropped (live_reachable m follows n q)
  ]

  -- garbage stays
  garbage_on : (n : Name) → IsGarbageOf trace n → StaysGarbage t after at trace n
  garbage_on n g =
      let stays = is.marks.garbage n g in
      let object = unreclaimed_object m follows n stays.member in
      record {
        member = stays.member;
        dropped = λ live. elim (live_before m i o r follows e row one n live) [
          | inl l ↦ stays.dropped l
          | inr none ↦ let k : is_some (object_at m.state.graph n) ≡ false = ap is_some none in not_both (is_some (object_at m.state.graph n)) object k
        ];
        undone = stays.undone;
        references = ap refs_of ((step_facts m.state i o row).same n object (λ k. stays.dropped (live_reachable m follows n k))) ∙ stays.references;
        referred = stays.referred;
      }

  step_stays : StaysInside t after at ts trace
  step_stays = record {
    marks = record {
      marks = λ n h k. inside_on n (is.marks.marks n h k);
      grays = λ n h k. inside_on n (is.marks.grays n h k);
      dones = λ n h k. inside_on n (is.marks.dones n h k);
      members = λ n h. elim (is.marks.members n h) [ inl old ↦ inl old | inr q ↦ inr ((q.0.0, (step_facts m.state i o row).stays n q.0.1), q.1) ];
      referred = λ u n in_u inside g. ((is.marks.referred u n in_u (inside_before u in_u inside) g).0, unreferred u n in_u inside g);
      garbage = garbage_on;
    };
    loaded = λ j d n shows k h. inside_on n (is.loaded j d n shows k h);
  }

-- the moment after a call with the reply of a step
pub call_stays : (t : Tables) (m : Moment) (at : Name → ℕ) (ts : List Tracing) (trace : Trace) (i : ℕ) (o : Op) → FollowsPause m → i < length m.state.graph → 1 ≤ i
    → StaysInside t m at ts trace → StaysInside t (after_call m i o (step m.state i o).1) at ts trace
call_stays t m at ts trace i o follows row one is =
    let r : Reply = (step m.state i o).1 in
    subst (λ (st : State). StaysInside t (record m { state = st; made = made_after m.made r; written = written_after m i o r }) at ts trace) (sym (state_after_step m.state i o))
    (step_stays t m at ts trace follows is i o r refl row one)

-- an unreclaimed object stands where it did once the next name gets a place
pub next_elsewhere : (m : Moment) (at : Name → ℕ) (t p : ℕ) → FollowsPause m → (n : Name) → IsTrue (has m.unreclaimed n) → placed at (next_name m.state.graph t) p n ≡ at n
next_elsewhere m at t p follows n member = elim (same_name n (next_name m.state.graph t)) as (λ b. same_name n (next_name m.state.graph t) ≡ b → cond b p (at n) ≡ at n) [
  | true ↦ λ k.
      let none : object_at m.state.graph n ≡ None = ap (object_at m.state.graph) (same_names n (next_name m.state.graph t) k) ∙ next_none m.state.graph t in
      not_both (is_some (object_at m.state.graph n)) (unreclaimed_object m follows n member) (ap is_some none)
  | false ↦ λ k. refl
] refl
