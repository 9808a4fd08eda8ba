-- A space as its words and what it has beside them.
use Rattle.std.specs.Prelude.{ℕ, List}
use Rattle.lxr_image.specs.declared.rest.Rest.{Rest}
use Rattle.lxr_image.specs.declared.space.Space.{Space}

-- the space of these words and of this rest
abbrev pub whole : List ℕ → Rest → Space
whole words rest = record {
  words = words;
  limits = rest.limits;
  registers = rest.registers;
  deferred = rest.deferred;
  logged = rest.logged;
  work = rest.work;
  report = rest.report;
  tally = rest.tally;
  pauses = rest.pauses;
  trace = rest.trace;
  rest_next = rest.rest_next;
  rest_end = rest.rest_end;
}
