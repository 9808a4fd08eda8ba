-- What holds of deques that are shared, and what is done at them.
use Rattle.std.specs.Prelude.{◌≡◌, ℕ, ◌≤◌, List, [], ◌∷◌, All, Option, Some, IfSome, IfNone, slice_get, slice_set}
use Rattle.std.specs.declared.alloc.Global.{Global}
use Rattle.atomic_blocks.specs.Lent.{RowsId}
use Rattle.crossbeam_deque.specs.Handles.{IsPassOf, stealer_deque, view, worker_capacity, worker_flavor, worker_view}
use Rattle.lxr_layout.specs.declared.Place.{Place}
use Rattle.lxr_hints.specs.declared.hinter.TheConstants.{HINTS}
use Rattle.lxr_hints.specs.declared.shared.Shared.{Shared}
use Rattle.lxr_hints.specs.declared.shared.Way.{Way}
use Rattle.lxr_hints.specs.Journals.{behind, with_put}
use Rattle.lxr_hints.specs.Rules.{MayLeave}

module _ {H : Type 0} where
  -- which deque a way leads to
  abbrev pub way_deque : Way H → RowsId × Global
  way_deque way = stealer_deque way.stealer

  -- its pass is one of the deque that its stealer takes from
  abbrev pub IsWay : Way H → Type 0
  IsWay way = IsPassOf (way_deque way) way.pass

  -- a place was put on the own deque, and no other was touched
  pub record HasPut (before : Shared H) (place : Place) (after : Shared H) : Type 0 where
    pub put : worker_view after.own ≡ with_put (worker_view before.own) (place ∷ [])
    pub ways : after.ways ≡ before.ways

  -- of the own deque the worker has got what a look at it gave, and where that gave none, the rule held of no places; no other was touched
  pub record HasPopped (holds : List Place → Type 0) (taken : Place → Type 0) (before : Shared H) (answer : Option Place) (after : Shared H) : Type 0 where
    pub got : worker_view after.own ≡ behind (worker_view before.own) answer
    pub known : IfSome answer taken
    pub empty : IfNone answer (holds [])
    pub ways : after.ways ≡ before.ways

-- `taken` is what the rule says of a place that is taken
module _ {H : Type 0} (taken : Place → Type 0) where
  -- the pass of a way has got what a try there gave
  pub record HasStolen (before : Way H) (answer : Option Place) (after : Way H) : Type 0 where
    pub got : view after.pass ≡ behind (view before.pass) answer
    pub known : IfSome answer taken

  -- the try was made by the way of this number, and no other deque was touched
  pub record HasStolenAt (before : Shared H) (number : ℕ) (answer : Option Place) (after : Shared H) : Type 0 where
    pub way : Way H
    pub was : slice_get before.ways.items number ≡ Some way
    pub behind : Way H
    pub is : after.ways.items ≡ slice_set before.ways.items number behind
    pub stolen : HasStolen way answer behind
    pub own : after.own ≡ before.own

-- the deque has room for each push, so none can fail, and gives out first what was pushed first; what may leave it the rule knows
pub record IsSound {H : Type 0} (holds : List Place → Type 0) (taken : Place → Type 0) (s : Shared H) : Type 0 where
  pub flavor : worker_flavor s.own ≡ 0
  pub room : HINTS ≤ worker_capacity s.own
  pub ways : All IsWay s.ways.items
  pub leaves : MayLeave holds taken
