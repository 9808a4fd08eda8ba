-- A new object, and operations that ask for a pause.
use Rattle.std.proofs.Common.{◌≡◌, ℕ, refl, sym, ap, subst, ◌∙◌}
use Rattle.lxr_layout.specs.declared.Name.{Name}
use Rattle.lxr_layout.specs.declared.Place.{Place}
use Rattle.lxr_layout.specs.declared.Shape.{Shape}
use Rattle.lxr_graph.specs.declared.Op.TheVariants as op
use Rattle.lxr_graph.specs.declared.Reply.TheVariants as reply
use Rattle.lxr_graph.specs.State.{register_index}
use Rattle.lxr_image.specs.declared.space.Space.{Space}
use Rattle.lxr_image.specs.ImageLaws.{placed}
use Rattle.lxr_invariant.specs.AbstractState.{AbstractState}
use Rattle.lxr_placing.specs.Placing.{IsServable, IsServed, IsServedFrom}
use Rattle.lxr_placing.proofs.NewLemmas.{is_beside}
use Rattle.lxr_placing.proofs.ServedLemmas.{KeepsOthers, served_keeps}
use Rattle.lxr_direct.specs.Operating.{IsDone, IsPlacedIn, KeepsBeside, MayOperate}
use Rattle.lxr_direct.proofs.DoneLemmas.{done_unchanged}
use Rattle.lxr_direct.proofs.RegisterLemmas.{row_there}

-- the name of the thread's next object
abbrev pub next_made : ℕ → ℕ → Name
next_made t serial = record { thread = t; serial = serial }

pub servable : (s : Space) (g : AbstractState) (t serial : ℕ) → MayOperate s g t serial → IsServable s g (next_made t serial)
servable s g t serial may = record { rests = may.rests; next = sym may.next }

-- what isn't among words, registers and the rest has stayed, the log among it
keeps_log : (before after : Space) → KeepsOthers before after → KeepsBeside before after
keeps_log before after keeps = keeps ∙ (λ i. record before {
  words = after.words;
  registers = record before.registers { items = after.registers.items };
  logged = record before.logged { items = (sym (ap (λ (z : Space). z.logged.items) keeps)) i };
  rest_next = after.rest_next;
  rest_end = after.rest_end;
})

-- the object is made
pub make_done : (s after : Space) (g : AbstractState) (t serial dest : ℕ) (shape : Shape) (p : Place) → MayOperate s g t serial → IsServed s after (next_made t serial) dest shape p
    → IsDone s after g t (op.New dest shape) (reply.New (next_made t serial))
make_done s after g t serial dest shape p may served =
    let n : Name = next_made t serial in
    let from : IsServedFrom after g n dest shape p = served.abstract_state g (servable s g t serial may) in
    let beside = is_beside g t dest p.0 shape (row_there s g t serial may).0 (λ q h. let a = may.rests.safepoint.holds.image.image.stands q h in (a.0, a.1)) in
    record {
      reply = sym from.reply;
      at = placed g.at n p.0;
      stay = λ q h. subst (λ z. placed g.at z p.0 q ≡ g.at q) may.next (beside.old_at q h);
      rests = from.rests;
      keeps = keeps_log s after (served_keeps s after n dest shape p served);
      leaves = subst (λ q. IsPlacedIn s after (register_index t dest) q shape) (sym may.next) (record { place = p; placed = served.middle; places = served.placed; held = served.held });
    }

-- a pause is asked for
pub pause_done : (s : Space) (g : AbstractState) (t serial : ℕ) → MayOperate s g t serial → IsDone s s g t op.Pause reply.Paused
pause_done s g t serial may = done_unchanged s g t serial op.Pause reply.Paused (λ after kept. kept) may refl refl

pub collect_done : (s : Space) (g : AbstractState) (t serial : ℕ) → MayOperate s g t serial → IsDone s s g t op.Collect reply.Collected
collect_done s g t serial may = done_unchanged s g t serial op.Collect reply.Collected (λ after kept. kept) may refl refl
