use Rattle.std.proofs.Common.{◌≡◌, ℕ, Bool, List, None, replicate, arith, rules, subst, sym}
use Rattle.lxr_base.specs.Roomy.{Roomy}
use Rattle.lxr_layout.specs.declared.LogEntry.{LogEntry}
use Rattle.lxr_layout.specs.declared.Place.{Place}
use Rattle.lxr_layout.specs.declared.limits.Regions.{Regions}
use Rattle.lxr_alloc.specs.declared.Spans.{Spans}
use Rattle.lxr_mutator.specs.Agendas.{dialogue}
use Rattle.lxr_mutator.specs.Dialogues.{Dialogue}
use Rattle.lxr_mutator.specs.declared.phases.MutatorPhase.TheVariants as phase
use Rattle.lxr_layout.specs.declared.TheConstants.{REGISTERS}
use Rattle.lxr_layout.specs.Registers.{AreNil, nil}
use Rattle.lxr_layout.proofs.NilLemmas.{held_cleared}
use Rattle.lxr_mutator.specs.Mutating.{Mutating}
use Rattle.lxr_mutator.specs.Mutators.{IsMutator, IsSetup, first_with, setup_of}
use Rattle.lxr_mutator.proofs.RegisterLemmas.{registers_cleared}
use Rattle.lxr_mutator.proofs.mutator.Mutator.with_agenda.Goals as goal

-- what is made
abbrev first_of : goal.After-no_spans → Mutating
first_of c = first_with c.args.thread c.args.agenda c.args.limits c.args.every c.args.names

held : (c : goal.After-no_spans) → c.in_ok-vec.field-0.items ≡ replicate REGISTERS nil
held c = c.in_ok-vec.ensures.items_if_clones_equal (λ y e. e)

first_set_up : (c : goal.After-no_spans) → IsSetup (setup_of (first_of c))
first_set_up c = search rules

first_sound : (c : goal.After-no_spans) → IsMutator (first_of c)
first_sound c =
    let none = c.requires.begins.0 in
    record {
      setup = first_set_up c;
      registers = registers_cleared c.args.limits.registers;
      spans = search rules;
      few_replies = search rules;
      replies = search rules;
      busy = λ e. absurd (cc);
      waits = λ e. absurd (cc);
      since = search rules;
      phase = tt;
    }

-- of these parts it is made
abbrev of_parts : Dialogue → Regions → Roomy LogEntry → List Place → Spans → (thread every width : ℕ) → (names : Bool) → Mutating
of_parts d regions log registers spans thread every width names = record {
  thread = thread;
  operations = d.operations;
  regions = regions;
  every = every;
  width = width;
  names = names;
  log = log;
  registers = registers;
  spans = spans;
  before = 0;
  replies = d.replies;
  since = 0;
  phase = phase.Ready;
  end = None;
}

same_parts : (d e : Dialogue) (r q : Regions) (l k : Roomy LogEntry) (ps qs : List Place) (s t : Spans) (thread every width : ℕ) (names : Bool)
    → d ≡ e → r ≡ q → l ≡ k → ps ≡ qs → s ≡ t → of_parts d r l ps s thread every width names ≡ of_parts e q k qs t thread every width names
same_parts d e r q l k ps qs s t thread every width names dialogues regions logs registers spans = cc

seen_so : (c : goal.After-no_spans) → of_parts (dialogue c.agenda.inside) c.regions.result c.in_ok-log.log c.in_ok-vec.field-0.items c.no_spans.result c.args.thread c.args.every c.args.limits.registers c.args.names ≡ first_of c
seen_so c =
    same_parts _ c.args.agenda _ _ _ _ _ _ _ _ c.args.thread c.args.every c.args.limits.registers c.args.names
    c.agenda.view_is c.regions.ensures c.in_ok-log.ensures (held c) c.no_spans.ensures

pub invariant_of-result-2 : goal.invariant_of-result-2
invariant_of-result-2 c = record {
  sound = subst IsMutator (sym (seen_so c)) (first_sound c);
  few = omega arith;
  others = subst (λ ps. AreNil ps 0 REGISTERS) (sym (held c)) (λ k above below. held_cleared REGISTERS k);
  tally = search rules;
  words = tt;
}

pub returns : goal.returns
returns c = seen_so c
