use Rattle.std.proofs.Common.{◌≡◌, ◌∙◌, ap, subst, sym, inl, inr, Bool, true, false, List, ◌∷◌}
use Rattle.std.specs.Prelude.{Some}
use Rattle.lxr_graph.specs.declared.Reply.TheVariants as reply
use Rattle.lxr_graph.specs.History.{Item, Call}
use Rattle.lxr_image.specs.declared.space.Space.{Space}
use Rattle.lxr_mutator.specs.declared.phases.Waiting.{Waiting}
use Rattle.lxr_mutator.specs.Mutating.{IsWaiting, Mutating, next_name, op_now, waiting_by}
use Rattle.lxr_mutator.specs.Mutators.{answered}
use Rattle.lxr_serve.specs.Answering.{FindsNoRoom, TakesTurn, refuses, serves}
use Rattle.lxr_serve.proofs.MutatorLemmas.{waits_by}
use Rattle.lxr_serve.proofs.serving.serve_or_refuse.Goals as goal

pub returns-then-serve_one : goal.returns-then-serve_one
returns-then-serve_one c = λ h. (
  Call c.args.mutator.now.thread (op_now c.args.mutator.now) (reply.New (next_name c.args.mutator.now)) ∷ h,
  serves c.args.mutator.now c.serve_one.new.mutator c.args.waiting c.args.space.now c.serve_one.new.space c.args.served h c.requires.waiting c.if-serve_one.ensures.serves,
)

pub refuse-requires : goal.refuse-requires
refuse-requires c = subst IsWaiting (sym c.if-serve_one.ensures.serves.mutator) (waits_by c.args.mutator.now c.args.waiting c.requires.waiting)

-- where a collecting pause stands before and none was served since, a `new` that found no room is refused
refused : (collected served : Bool) (before after : Space) (m n m' : Mutating) (w : Waiting) (h : List Item) → collected ≡ true → served ≡ false → waiting_by m m.end ≡ Some w → FindsNoRoom before after m n w.shape → m' ≡ answered n reply.Full
    → TakesTurn collected m.thread m m' before after served false h (Call m.thread (op_now m) reply.Full ∷ h)
refused collected false before after m n m' w h before_is none waits no_room now =
    refuses m m' w before after h waits before_is (record { full = no_room.full; space = no_room.space; mutator = now ∙ ap (λ x. answered x reply.Full) no_room.mutator })
refused collected true before after m n m' w h before_is none waits no_room now = absurd (cc)

pub returns-then-not-served : goal.returns-then-not-served
returns-then-not-served c = λ h. (
  Call c.args.mutator.now.thread (op_now c.args.mutator.now) reply.Full ∷ h,
  refused c.args.collected c.args.served c.args.space.now c.serve_one.new.space c.args.mutator.now c.serve_one.new.mutator c.refuse.new.self c.args.waiting h c.if-collected.true c.if-not-served.true c.requires.waiting
      c.if-serve_one.ensures.serves c.refuse.ensures,
)

pub returns : goal.returns
returns c = record {
  waiting = c.args.waiting;
  waits = c.requires.waiting;
  full = c.if-serve_one.ensures.serves.full;
  not_yet = elim c.else-collected.either [ inl both ↦ inr both.1 | inr not_collected ↦ inl not_collected ];
  space = c.if-serve_one.ensures.serves.space;
  mutator = c.if-serve_one.ensures.serves.mutator;
}
