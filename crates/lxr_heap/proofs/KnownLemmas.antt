-- Operations on fields of an object that was looked up, by what has come of them in the space.
use Rattle.std.proofs.Common.{◌≡◌, ℕ, ◌<◌, refl, sym, ap, subst, ◌∙◌, List}
use Rattle.std.specs.Prelude.{Option, Some, None, option_map}
use Rattle.lxr_layout.specs.declared.Name.{Name}
use Rattle.lxr_graph.specs.declared.Op.TheVariants as op
use Rattle.lxr_graph.specs.declared.Reply.TheVariants as reply
use Rattle.lxr_graph.specs.State.{State}
use Rattle.lxr_image.specs.declared.space.Space.{Space}
use Rattle.lxr_direct.specs.declared.Operated.TheVariants as operated
use Rattle.lxr_direct.specs.declared.known.HeldObject.{HeldObject}
use Rattle.lxr_direct.specs.Known.{base_in, referred}
use Rattle.lxr_direct.specs.Operating.{IsBase, IsDone, Operates, named_shape, shape_found}
use Rattle.lxr_large_model.specs.declared.LargeOp.TheVariants as large_op
use Rattle.lxr_large_model.specs.declared.LargeReply.TheVariants as large_reply
use Rattle.lxr_large_model.specs.History.{LargeItem, large_moment, large_state}
use Rattle.lxr_heap.specs.declared.heap.Heap.{Heap}
use Rattle.lxr_heap.specs.Acting.{IsReplied}
use Rattle.lxr_heap.specs.Holding.{IsHeapOf, StandAt, abstract_of}
use Rattle.lxr_heap.specs.Known.{shape_at}
use Rattle.lxr_heap.proofs.ActingLemmas.{replied_small}
use Rattle.lxr_heap.proofs.HeapLemmas.{behind}

module _ (x : Heap) (h : List LargeItem) (is : IsHeapOf x h) where
  abbrev m : State
  m = (large_moment h).state

  shape_then : (register : ℕ) (found : Option HeldObject) → IsBase (abstract_of x h is.at) 1 register (base_in found) → option_map (λ object. object.base.shape) found ≡ shape_at m register
  shape_then register None none = sym (ap (λ v. option_map (λ p. p.1) (named_shape m v)) none)
  shape_then register (Some object) (n, at) = ap Some (at.shaped ∙ ap shape_found (sym at.there)) ∙ sym (ap (λ v. option_map (λ p. p.1) (named_shape m v)) at.is)

  -- the shape of what is found
  pub shape_told : (register : ℕ) (found : Option HeldObject) → IsBase (abstract_of x h is.at) 1 register (base_in found) → option_map (λ object. object.base.shape) found ≡ shape_at (large_state h).small register
  shape_told register found base = shape_then register found base ∙ ap (λ (s : State). shape_at s register) is.state

  -- ---- what is replied

  pub put_replied : (space : Space) (base i v : ℕ) → base < x.space.limits.registers → ((at : Name → ℕ) → StandAt x h at → IsDone x.space space (abstract_of x h at) 1 (op.Put base i v) reply.Put)
      → IsReplied x (behind x space x.bodies x.made) h (large_op.Small (op.Put base i v)) (large_reply.Small reply.Put)
  put_replied space base i v small done = replied_small x h is space (op.Put base i v) reply.Put x.made small tt refl done ((λ no. no), (λ no. no))

  pub load_replied : (space : Space) (dest base i : ℕ) → (dest < x.space.limits.registers) × (base < x.space.limits.registers)
      → ((at : Name → ℕ) → StandAt x h at → IsDone x.space space (abstract_of x h at) 1 (op.Load dest base i) (reply.Loaded (referred m 1 base i)))
      → IsReplied x (behind x space x.bodies x.made) h (large_op.Small (op.Load dest base i)) (large_reply.Small (reply.Loaded (referred (large_state h).small 1 base i)))
  load_replied space dest base i small done =
      subst (λ (s : State). IsReplied x (behind x space x.bodies x.made) h (large_op.Small (op.Load dest base i)) (large_reply.Small (reply.Loaded (referred s 1 base i)))) is.state
      (replied_small x h is space (op.Load dest base i) (reply.Loaded (referred m 1 base i)) x.made small tt refl done ((λ no. no), (λ no. no)))

  pub store_replied : (space : Space) (base i source : ℕ) → (base < x.space.limits.registers) × (source < x.space.limits.registers)
      → ((at : Name → ℕ) → StandAt x h at → Operates x.space space (abstract_of x h at) 1 (op.Store base i source) (operated.Replied reply.Stored))
      → IsReplied x (behind x space x.bodies x.made) h (large_op.Small (op.Store base i source)) (large_reply.Small reply.Stored)
  store_replied space base i source small done =
      replied_small x h is space (op.Store base i source) reply.Stored x.made small tt refl (λ at stands. (done at stands).0) ((λ no. no), (done is.at is.stands).2)
