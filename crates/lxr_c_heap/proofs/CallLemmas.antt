-- What a call comes to, by what the handle kept.
use Rattle.std.proofs.Common.{◌≡◌, ℕ, refl, sym, subst, Bool, List, None, Some}
use Rattle.std.specs.Prelude.{IsSome, Result, Ok}
use Rattle.lxr_large_model.specs.declared.LargeOp.{LargeOp}
use Rattle.lxr_large_model.specs.declared.LargeReply.{LargeReply}
use Rattle.lxr_large_model.specs.History.{LargeItem}
use Rattle.lxr_heap.specs.declared.bulk.BodyReply.{BodyReply}
use Rattle.lxr_heap.specs.Bulk.{WritesWords}
use Rattle.lxr_heap.specs.Holding.{IsHeapOf}
use Rattle.lxr_c_base.specs.declared.codes.Code.{Code}
use Rattle.lxr_c_base.specs.declared.codes.Code.TheVariants as code
use Rattle.lxr_c_heap.specs.declared.host.HostHeap.{HostHeap}
use Rattle.lxr_c_heap.specs.declared.settings.Settings.{Settings}
use Rattle.lxr_c_heap.specs.Calling.{Asks, AsksPause, AsksWork, Closes, Opens, OpensSome, Sets, SetsPace}
use Rattle.lxr_c_heap.specs.Hosting.{IsHostOf, PausesAsked}
use Rattle.lxr_c_heap.specs.Keeping.{Kept}
use Rattle.lxr_c_heap.specs.Looking.{Looks, Writes}
use Rattle.lxr_c_heap.specs.Pacing.{pace_of}
use Rattle.lxr_c_heap.specs.Working.{WorksAsked, with_pace}
use Rattle.lxr_c_heap.specs.Settings.{AreSettings}
use Rattle.lxr_c_base.specs.Requests.{Request}

module _ (does : HostHeap → HostHeap → List LargeItem → LargeOp → LargeReply → Type 0) (before after : Kept) where
  pub asks_done : (x y : HostHeap) (request : Request) (o : LargeOp) (r : LargeReply) → before ≡ Some x → after ≡ Some y → request ≡ Ok o
      → ((h : List LargeItem) → IsHostOf x h → does x y h o r) → Asks does before after request (Ok r)
  asks_done x y request o r had has is done = subst (λ k. Asks does k after request (Ok r)) (sym had) (subst (λ q. Asks does (Some x) after q (Ok r)) (sym is) (y, r, has, refl, done))

-- a handle without a heap was to be opened
pub opens_anew : (before after : Kept) (wanted : Settings) (answer : Code) → ¬ IsSome before → Opens None after wanted answer → Opens before after wanted answer
opens_anew None after wanted answer none opened = opened
opens_anew (Some x) after wanted answer none opened = absurd (none refl)

module _ (before after : Kept) where
  pub opens_unfit : (wanted : Settings) → before ≡ None → after ≡ None → ¬ AreSettings wanted → Opens before after wanted code.Size
  opens_unfit wanted had has not = subst (λ k. Opens k after wanted code.Size) (sym had) (λ fits. absurd (not fits), λ unfit. (refl, has))

  pub opens_some : (wanted : Settings) (answer : Code) → before ≡ None → AreSettings wanted → OpensSome after wanted answer → Opens before after wanted answer
  opens_some wanted answer had fits opened = subst (λ k. Opens k after wanted answer) (sym had) (λ fit. opened, λ unfit. absurd (unfit fits))

  pub closes_none : before ≡ None → after ≡ None → Closes before after code.NoHeap
  closes_none had has = subst (λ k. Closes k after code.NoHeap) (sym had) (refl, has)

  pub closes_some : (x : HostHeap) → before ≡ Some x → after ≡ None → Closes before after code.Done
  closes_some x had has = subst (λ k. Closes k after code.Done) (sym had) (refl, has)

  -- a handle that was closed, or had no heap, has none
  pub closed_to_none : (answer : Code) → Closes before after answer → after ≡ None
  closed_to_none answer closed = closed_to before closed
    where
      closed_to : (kept : Kept) → Closes kept after answer → after ≡ None
      closed_to None closes = closes.1
      closed_to (Some x) closes = closes.1

  pub pauses_done : (x y : HostHeap) (collect : Bool) → before ≡ Some x → after ≡ Some y → ((h : List LargeItem) → IsHostOf x h → PausesAsked x y h collect) → AsksPause before after collect code.Done
  pauses_done x y collect had has done = subst (λ k. AsksPause k after collect code.Done) (sym had) (y, refl, has, done)

  pub works_done : (x y : HostHeap) (units : ℕ) (more : Bool) → before ≡ Some x → after ≡ Some y → ((h : List LargeItem) → IsHostOf x h → WorksAsked units x y h more) → AsksWork before after units (Ok more)
  works_done x y units more had has done = subst (λ k. AsksWork k after units (Ok more)) (sym had) (y, more, refl, has, done)

  pub sets_done : (x : HostHeap) (bytes : ℕ) → before ≡ Some x → after ≡ Some (with_pace (pace_of bytes) x) → SetsPace before after bytes code.Done
  sets_done x bytes had has = subst (λ k. SetsPace k after bytes code.Done) (sym had) (refl, has)

  pub sets_some : (does : HostHeap → HostHeap → Code → Type 0) (x y : HostHeap) (answer : Code) → before ≡ Some x → after ≡ Some y → does x y answer → Sets does before after answer
  sets_some does x y answer had has done = subst (λ k. Sets does k after answer) (sym had) (y, has, done)

module _ {R T : Type 0} (sees : HostHeap → List LargeItem → R → T → Type 0) (before after : Kept) where
  pub looks_seen : (x : HostHeap) (wanted : Result R Code) (what : R) (seen : T) → before ≡ Some x → after ≡ Some x → wanted ≡ Ok what
      → ((h : List LargeItem) → IsHeapOf x.heap h → sees x h what seen) → Looks sees before after wanted (Ok seen)
  looks_seen x wanted what seen had has is holds = subst (λ k. Looks {R = R} {T = T} sees k after wanted (Ok seen)) (sym had)
      (subst (λ q. Looks {R = R} {T = T} sees (Some x) after q (Ok seen)) (sym is) (has, seen, refl, holds))

module _ (before after : Kept) (i : ℕ) (words : List ℕ) where
  pub writes_done : (x y : HostHeap) (base : Result ℕ Code) (register : ℕ) (r : BodyReply) → before ≡ Some x → after ≡ Some y → base ≡ Ok register → y ≡ record x { heap = y.heap }
      → ((h : List LargeItem) → IsHeapOf x.heap h → WritesWords x.heap y.heap h register i words r) → Writes before after base i words (Ok r)
  writes_done x y base register r had has is rest written = subst (λ k. Writes k after base i words (Ok r)) (sym had)
      (subst (λ q. Writes (Some x) after q i words (Ok r)) (sym is) (y, r, has, refl, rest, written))
