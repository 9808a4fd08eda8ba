-- What comes of an operation, by what has come of its parts.
use Rattle.std.proofs.Common.{◌≡◌, ℕ, ◌+◌, ◌<◌, ◌≤◌, refl, sym, ap, subst, ◌∙◌, inl, inr, Bool, true, false, cond, List, [], ◌∷◌, Option, Some, None}
use Rattle.std.specs.Prelude.{IsTrue, is_some, if◌then◌else◌, slice_set}
use Rattle.std.specs.List.{AllByRecursion}
use Rattle.lxr_layout.specs.declared.limits.Limits.{Limits}
use Rattle.lxr_layout.specs.declared.Name.{Name}
use Rattle.lxr_graph.specs.Names.{same_name}
use Rattle.lxr_graph.proofs.NameSets.{same_itself, same_names}
use Rattle.lxr_graph.specs.State.{State, register_at}
use Rattle.lxr_graph.specs.Step.{IsFormedFor}
use Rattle.lxr_graph.specs.declared.Op.{Op}
use Rattle.lxr_graph.specs.declared.Op.TheVariants as op
use Rattle.lxr_graph.specs.declared.Reply.{Reply}
use Rattle.lxr_graph.specs.declared.Reply.TheVariants as reply
use Rattle.lxr_image.specs.declared.space.Space.{Space}
use Rattle.lxr_invariant.specs.AbstractState.{members}
use Rattle.lxr_one_pause.specs.Settling.{survived}
use Rattle.lxr_direct.specs.Operating.{FindsLogFull, FindsNoRoom, IsDone, IsOfFirstVersion}
use Rattle.lxr_large_model.specs.declared.TheConstants.{MOST_BODY_BLOCKS}
use Rattle.lxr_large_model.specs.declared.Acted.{Acted}
use Rattle.lxr_large_model.specs.declared.Acted.TheVariants as acted
use Rattle.lxr_large_model.specs.declared.LargeOp.{LargeOp}
use Rattle.lxr_large_model.specs.declared.LargeOp.TheVariants as large_op
use Rattle.lxr_large_model.specs.declared.LargeReply.{LargeReply}
use Rattle.lxr_large_model.specs.declared.LargeReply.TheVariants as large_reply
use Rattle.lxr_large_model.specs.Full.{AreReachable, LeaveNoBody}
use Rattle.lxr_large_model.specs.History.{LargeItem, Called, large_moment, large_state}
use Rattle.lxr_large_model.specs.State.{LargeState, body_of as large_of, handle}
use Rattle.lxr_large_model.specs.Step.{get_from, got, put_at, put_to, word_in as word_of}
use Rattle.lxr_large_bodies.specs.Bodies.{Body, Held, IsFreeRun, body_of, fresh, with_placed, with_words, word_at}
use Rattle.lxr_heap.specs.declared.heap.Heap.{Heap}
use Rattle.lxr_heap.specs.Acting.{Acts, FindsNoPlace, IsReplied, made_by}
use Rattle.lxr_heap.specs.Holding.{IsHeapOf, StandAt, StayInPlace, abstract_of, made_with, terms_of}
use Rattle.lxr_heap.proofs.CallLemmas.{done_get, done_large, done_no_put, done_put, done_small, held_is_kept, held_word, lines_full, refused_big, refused_new, stands_then}
use Rattle.lxr_heap.proofs.EarlyLemmas.{log_alike}
use Rattle.lxr_heap.proofs.FullLemmas.{blocks_full}
use Rattle.lxr_heap.proofs.HeapLemmas.{IsStep, behind, is_step_of, keeps_beside, other_names, same_terms, standing}
use Rattle.lxr_heap.proofs.BodyLemmas.{held_names}
use Rattle.lxr_heap.proofs.StayLemmas.{stay_changed, stay_placed, stay_same}

-- ---- places

-- a call that leaves the space as it was, and leads to the same moment
still : (x y : Heap) (h : List LargeItem) (o : LargeOp) (r : LargeReply) → ((at : Name → ℕ) → StandAt x h at → StandAt y (Called o r ∷ h) at)
    → StayInPlace x y h (Called o r ∷ h) (members (survived (large_moment h) x.gone.items))
still x y h o r same = λ at stands. (at, same at stands, λ n old kept. refl)

-- ---- an operation on the object graph

-- what finds no place finds no room
place_room : (x : Heap) (o : Op) → FindsNoPlace x (large_op.Small o) → FindsNoRoom x.space o
place_room x (op.New dest shape) full = full
place_room x o full = absurd full

pub replied_small : (x : Heap) (h : List LargeItem) (is : IsHeapOf x h) (space : Space) (o : Op) (r : Reply) (made : ℕ) → IsFormedFor x.space.limits.registers o → IsOfFirstVersion o → made ≡ made_with x.made r
    → ((at : Name → ℕ) → StandAt x h at → IsDone x.space space (abstract_of x h at) 1 o r) → ¬ FindsNoRoom x.space o × ¬ FindsLogFull x.space (survived (large_moment h) x.gone.items) 1 o
    → IsReplied x (behind x space x.bodies made) h (large_op.Small o) (large_reply.Small r)
replied_small x h is space o r made formed first count done finds =
    let here = done is.at is.stands in
    let st : IsStep (terms_of x) h o r = is_step_of (terms_of x) h (large_moment h) o r is.state here.reply in
    record {
      holds = subst (λ k. IsHeapOf (behind x space x.bodies k) (Called (large_op.Small o) (large_reply.Small r) ∷ h)) (sym count) (done_small x h is space o r formed first here);
      refused = (λ f. absurd (st.refused f), λ p. absurd (finds.0 (place_room x o p)));
      fresh = λ f. absurd (st.refused f);
      logged = λ full. finds.1 ((log_alike (large_moment h) x.gone.items is.follows is.gone x.space 1 o).1 full);
      made = count;
      reported = ap (λ (s : Space). s.report) here.keeps;
      gone = refl;
      placed = λ at stands. let d = done at stands in (d.at, stands_then x h (standing x h is at stands) space o r d, λ n old kept. d.stay n old);
      stay = stay_same x.bodies.bodies;
      terms = same_terms x space x.bodies made (keeps_beside x.space space here.keeps) refl;
      log = ap (λ (l : Limits). l.log) (keeps_beside x.space space here.keeps).limits;
    }

-- what comes of an operation that finds no place
abbrev pub refusal : Bool → LargeReply → Acted
refusal fresh full = cond fresh (acted.Replied full) acted.Room

pub no_place_small : (x : Heap) (h : List LargeItem) → IsHeapOf x h → (o : Op) → IsFormedFor x.space.limits.registers o → FindsNoRoom x.space o → Acts x x h (large_op.Small o) (refusal x.fresh (large_reply.Small reply.Full))
no_place_small x h is (op.New dest shape) formed full = elim x.fresh as (λ c. x.fresh ≡ c → Acts x x h (large_op.Small (op.New dest shape)) (refusal c (large_reply.Small reply.Full))) [
  | true ↦ λ fresh.
      let may = lines_full x h is shape fresh full in
      record {
        holds = refused_new x h is dest shape formed (is.fresh.0 fresh, may.0, may.1, may.2);
        refused = (λ f. full, λ p. tt);
        fresh = λ f. (fresh, refl);
        logged = λ no. no;
        made = refl;
        reported = refl;
        gone = refl;
        placed = still x x h (large_op.Small (op.New dest shape)) (large_reply.Small reply.Full) (λ at stands. stands);
        stay = stay_same x.bodies.bodies;
        terms = refl;
        log = refl;
      }
  | false ↦ λ stale. (full, stale, refl)
] refl
no_place_small x h is o formed full = absurd full

-- ---- names

-- no body is of a name that comes next
pub no_body : (bs : List Body) (n : Name) → AllByRecursion (λ (b : Body). same_name b.name n ≡ false) bs → body_of bs n ≡ None
no_body [] n all = refl
no_body (b ∷ bs) n all = elim (same_name n b.name) as (λ c. same_name n b.name ≡ c → cond c (Some b) (body_of bs n) ≡ None) [
  | true ↦ λ same. let other : same_name n n ≡ false = subst (λ q. same_name q n ≡ false) (sym (same_names n b.name same)) all.0 in let both : true ≡ false = sym (same_itself n) ∙ other in absurd (cc)
  | false ↦ λ e. no_body bs n all.1
] refl

pub next_has_none : (x : Heap) (h : List LargeItem) (is : IsHeapOf x h) → body_of x.bodies.bodies (record { thread = 1; serial = x.made + 1 }) ≡ None
next_has_none x h is =
    no_body x.bodies.bodies (record { thread = 1; serial = x.made + 1 })
    (held_names (λ q. same_name q (record { thread = 1; serial = x.made + 1 }) ≡ false) (large_moment h) x.bodies.bodies (large_state h).large is.bodies
    (other_names x.made (record { thread = 1; serial = x.made + 1 }) (large_state h).large refl is.names))

-- ---- a new large object

pub no_place_big : (x : Heap) (h : List LargeItem) → IsHeapOf x h → (dest blocks : ℕ) → dest < x.space.limits.registers → (1 ≤ blocks) × (blocks ≤ MOST_BODY_BLOCKS) → FindsNoPlace x (large_op.Big dest blocks)
    → Acts x x h (large_op.Big dest blocks) (refusal x.fresh large_reply.Full)
no_place_big x h is dest blocks small range none = elim x.fresh as (λ c. x.fresh ≡ c → Acts x x h (large_op.Big dest blocks) (refusal c large_reply.Full)) [
  | true ↦ λ fresh.
      let full = may fresh none in
      record {
        holds = refused_big x h is dest blocks (small, range.0, range.1) (is.fresh.0 fresh, full.0, full.1, full.2);
        refused = (λ f. none, λ p. tt);
        fresh = λ f. (fresh, refl);
        logged = λ no. no;
        made = refl;
        reported = refl;
        gone = refl;
        placed = still x x h (large_op.Big dest blocks) large_reply.Full (λ at stands. stands);
        stay = stay_same x.bodies.bodies;
        terms = refl;
        log = refl;
      }
  | false ↦ λ stale. (none, stale, refl)
] refl
  where
    may : IsTrue x.fresh → FindsNoPlace x (large_op.Big dest blocks) → (ns : List Name) × AreReachable (large_state h) ns × LeaveNoBody (terms_of x) (large_state h) ns blocks
    may fresh (inl full) = let a = lines_full x h is handle fresh full in (a.0, a.1, inl a.2)
    may fresh (inr gone) = let a = blocks_full x h blocks is range.0 fresh gone in (a.0, a.1, inr a.2)

pub replied_big : (x : Heap) (h : List LargeItem) (is : IsHeapOf x h) (space : Space) (held' : Held) (n : Name) (dest blocks first : ℕ) → dest < x.space.limits.registers → (1 ≤ blocks) × (blocks ≤ MOST_BODY_BLOCKS)
    → IsFreeRun x.bodies first blocks → held' ≡ record x.bodies { bodies = with_placed x.bodies.bodies (fresh n first blocks) } → ¬ FindsNoPlace x (large_op.Big dest blocks) → n ≡ record { thread = 1; serial = x.made + 1 }
    → ((at : Name → ℕ) → StandAt x h at → IsDone x.space space (abstract_of x h at) 1 (op.New dest handle) (reply.New n)) → IsReplied x (behind x space held' (x.made + 1)) h (large_op.Big dest blocks) (large_reply.Big n)
replied_big x h is space held' n dest blocks first small range run placed some named done =
    let here = done is.at is.stands in
    subst (λ (held : Held). IsReplied x (behind x space held (x.made + 1)) h (large_op.Big dest blocks) (large_reply.Big n)) (sym placed) (record {
      holds = done_large x h is space n dest blocks first small range run named here;
      refused = (λ no. absurd no, λ p. absurd (some p));
      fresh = λ no. absurd no;
      logged = λ no. no;
      made = refl;
      reported = ap (λ (s : Space). s.report) here.keeps;
      gone = refl;
      placed = λ at stands. let d = done at stands in (d.at, stands_then x h (standing x h is at stands) space (op.New dest handle) (reply.New n) d, λ n old kept. d.stay n old);
      stay = stay_placed x.bodies.bodies (fresh n first blocks) (subst (λ q. body_of x.bodies.bodies q ≡ None) (sym named) (next_has_none x h is));
      terms = same_terms x space (record x.bodies { bodies = with_placed x.bodies.bodies (fresh n first blocks) }) (x.made + 1) (keeps_beside x.space space here.keeps) refl;
      log = ap (λ (l : Limits). l.log) (keeps_beside x.space space here.keeps).limits;
    })

-- ---- words of bodies

-- what a register holds by the state of the graph
small_register : (x : Heap) (h : List LargeItem) (is : IsHeapOf x h) (base : ℕ) (v : Option Name) → v ≡ register_at (large_moment h).state 1 base → register_at (large_state h).small 1 base ≡ v
small_register x h is base v e = sym (e ∙ ap (λ (s : State). register_at s 1 base) is.state)

-- a read makes no object
get_makes : (made : ℕ) (s : LargeState) (i : ℕ) (v : Option Name) → made_by made (get_from s i v) ≡ made
get_makes made s i None = refl
get_makes made s i (Some n) = by (word_of (large_of s.large n) i)
  where
    by : (word : Option ℕ) → made_by made (got word) ≡ made
    by None = refl
    by (Some w) = refl

-- nor does a write
put_makes : (made : ℕ) (s : LargeState) (i value : ℕ) (v : Option Name) → made_by made (put_to s i value v).1 ≡ made
put_makes made s i value None = refl
put_makes made s i value (Some n) = by (word_of (large_of s.large n) i)
  where
    by : (word : Option ℕ) → made_by made (put_at s n i value word).1 ≡ made
    by None = refl
    by (Some w) = refl

pub replied_get : (x : Heap) (h : List LargeItem) (is : IsHeapOf x h) (base i : ℕ) (v : Option Name) (r : LargeReply) → base < x.space.limits.registers → v ≡ register_at (large_moment h).state 1 base → get_from (large_state h) i v ≡ r
    → IsReplied x (behind x x.space x.bodies x.made) h (large_op.BigGet base i) r
replied_get x h is base i v r small e told = record {
  holds = done_get x h is base i r small (ap (get_from (large_state h) i) (small_register x h is base v e) ∙ told);
  refused = (λ no. absurd no, λ no. absurd no);
  fresh = λ no. absurd no;
  logged = λ no. no;
  made = sym (get_makes x.made (large_state h) i v) ∙ ap (made_by x.made) told;
  reported = refl;
  gone = refl;
  placed = still x (behind x x.space x.bodies x.made) h (large_op.BigGet base i) r (λ at stands. stands);
  stay = stay_same x.bodies.bodies;
  terms = refl;
  log = refl;
}

-- a word of the body of what a register holds
pub word_there : (x : Heap) (h : List LargeItem) (is : IsHeapOf x h) (base i : ℕ) (n : Name) → Some n ≡ register_at (large_moment h).state 1 base → word_at x.bodies.bodies n i ≡ word_of (large_of (large_state h).large n) i
word_there x h is base i n e = held_word x h is n i (held_is_kept x h is base n (sym e))

pub replied_no_put : (x : Heap) (h : List LargeItem) (is : IsHeapOf x h) (base i value : ℕ) (v : Option Name) (r : LargeReply) → base < x.space.limits.registers → v ≡ register_at (large_moment h).state 1 base
    → put_to (large_state h) i value v ≡ (large_state h, r) → IsReplied x (behind x x.space x.bodies x.made) h (large_op.BigPut base i value) r
replied_no_put x h is base i value v r small e told = record {
  holds = done_no_put x h is base i value r small (ap (put_to (large_state h) i value) (small_register x h is base v e) ∙ told);
  refused = (λ no. absurd no, λ no. absurd no);
  fresh = λ no. absurd no;
  logged = λ no. no;
  made = sym (put_makes x.made (large_state h) i value v) ∙ ap (λ (p : LargeState × LargeReply). made_by x.made p.1) told;
  reported = refl;
  gone = refl;
  placed = still x (behind x x.space x.bodies x.made) h (large_op.BigPut base i value) r (λ at stands. stands);
  stay = stay_same x.bodies.bodies;
  terms = refl;
  log = refl;
}

-- a `bput` by whether the body has the word
pub replied_put : (x : Heap) (h : List LargeItem) (is : IsHeapOf x h) (base i value : ℕ) (n : Name) (found : Bool) (held' : Held) → base < x.space.limits.registers → Some n ≡ register_at (large_moment h).state 1 base
    → found ≡ is_some (word_at x.bodies.bodies n i) → held' ≡ (if found then (record x.bodies { bodies = with_words x.bodies.bodies n (λ words. slice_set words i value) }) else x.bodies)
    → IsReplied x (behind x x.space held' x.made) h (large_op.BigPut base i value) (if found then large_reply.Put else large_reply.Range)
replied_put x h is base i value n found held' small e told changed =
    subst (λ (held : Held). IsReplied x (behind x x.space held x.made) h (large_op.BigPut base i value) (if found then large_reply.Put else large_reply.Range)) (sym changed)
    (subst (λ c. IsReplied x (behind x x.space (if c then (record x.bodies { bodies = with_words x.bodies.bodies n (λ words. slice_set words i value) }) else x.bodies) x.made) h (large_op.BigPut base i value) (if c then large_reply.Put else large_reply.Range))
    (sym (told ∙ ap is_some (word_there x h is base i n e))) (put_by (word_of (large_of (large_state h).large n) i) refl))
  where
    put_by : (word : Option ℕ) → word_of (large_of (large_state h).large n) i ≡ word
        → IsReplied x (behind x x.space (if is_some (word_of (large_of (large_state h).large n) i) then (record x.bodies { bodies = with_words x.bodies.bodies n (λ words. slice_set words i value) }) else x.bodies) x.made) h (large_op.BigPut base i value)
        (if is_some (word_of (large_of (large_state h).large n) i) then large_reply.Put else large_reply.Range)
    put_by None none = subst (λ w. IsReplied x (behind x x.space (if is_some w then (record x.bodies { bodies = with_words x.bodies.bodies n (λ words. slice_set words i value) }) else x.bodies) x.made) h (large_op.BigPut base i value) (if is_some w then large_reply.Put else large_reply.Range)) (sym none)
        (replied_no_put x h is base i value (Some n) large_reply.Range small e (ap (put_at (large_state h) n i value) none))
    put_by (Some old) some = subst (λ w. IsReplied x (behind x x.space (if is_some w then (record x.bodies { bodies = with_words x.bodies.bodies n (λ words. slice_set words i value) }) else x.bodies) x.made) h (large_op.BigPut base i value) (if is_some w then large_reply.Put else large_reply.Range)) (sym some)
        (record {
          holds = done_put x h is base i value old n small (small_register x h is base (Some n) e) some;
          refused = (λ no. absurd no, λ no. absurd no);
          fresh = λ no. absurd no;
          logged = λ no. no;
          made = refl;
          reported = refl;
          gone = refl;
          placed = λ at stands. (at, stands, λ n old kept. refl);
          stay = stay_changed n (λ words. slice_set words i value) x.bodies.bodies;
          terms = refl;
          log = refl;
        })

-- ---- histories

-- whatever comes of a call, the heap is that of some history
pub still_holds : (x y : Heap) (h : List LargeItem) (o : LargeOp) (a : Acted) → IsHeapOf x h → Acts x y h o a → (k : List LargeItem) × IsHeapOf y k
still_holds x y h o (acted.Replied r) is came = (Called o r ∷ h, came.holds)
still_holds x y h o acted.Room is came = (h, subst (λ (z : Heap). IsHeapOf z h) (sym came.2) is)
still_holds x y h o acted.Log is came = (h, subst (λ (z : Heap). IsHeapOf z h) (sym came.1) is)
