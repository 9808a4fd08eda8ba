use Rattle.std.proofs.Common.{◌≡◌, ◌+◌, ◌++◌, map, vec_len, vec_capacity}
use Rattle.std.specs.Prelude.{replicate}
use Rattle.lxr_trace.specs.Tracers.{first}
use Rattle.lxr_core.specs.declared.actors.AnyActor.TheVariants as any
use Rattle.lxr_rounds.proofs.helpers.add_tracers.Given as goal

abbrev pub invariant-loop : goal.invariant-loop
invariant-loop l = record {
  added : l.actors.items ≡ l.fn.actors.items ++ map any.Tracer (replicate l.counter (first l.limits));
  many : vec_len l.actors ≡ vec_len l.fn.actors + l.counter;
  room : vec_capacity l.actors ≡ vec_capacity l.fn.actors;
}
