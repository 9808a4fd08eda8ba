use Rattle.std.proofs.Common.{refl, subst, sym}
use Rattle.std.specs.Prelude.{[], replicate}
use Rattle.std.proofs.lemmas.List.{length-replicate}
use Rattle.lxr_image.specs.declared.space.Space.{Space}
use Rattle.lxr_shared_heap.specs.declared.heap.Stage.TheVariants as stage
use Rattle.lxr_shared_heap.specs.Heaps.{StandsFor, TellsRenewed}
use Rattle.lxr_shared_heap.specs.Settings.{run_of}
use Rattle.lxr_shared_heap.proofs.heap.Heap.open.Goals as goal

pub of-requires : goal.of-requires
of-requires c = c.in-Ok.ensures.between.0.1.between.safepoint.holds.space

pub invariant_of-result : goal.invariant_of-result
invariant_of-result c =
    let script = replicate c.args.settings.mutators [] in (
      script,
      [],
      record {
        settings = c.are_in_range.ensures.0 cc;
        threads = length-replicate c.args.settings.mutators [];
        stands = subst (λ (s : Space). StandsFor (run_of c.args.settings script) [] (stage.Between s c.in-Ok.actors)) (sym c.of.ensures) c.in-Ok.ensures.between;
        told = subst (λ (s : Space). TellsRenewed [] (stage.Between s c.in-Ok.actors)) (sym c.of.ensures) c.in-Ok.ensures.untold;
      },
    )

pub returns-in-Ok-clause-opened : goal.returns-in-Ok-clause-opened
returns-in-Ok-clause-opened c =
    let script = replicate c.args.settings.mutators [] in record {
      settings_are = refl;
      lists = c.to_list.ensures;
      between = tt;
      holds = record {
        settings = c.are_in_range.ensures.0 cc;
        threads = length-replicate c.args.settings.mutators [];
        stands = subst (λ (s : Space). StandsFor (run_of c.args.settings script) [] (stage.Between s c.in-Ok.actors)) (sym c.of.ensures) c.in-Ok.ensures.between;
        told = subst (λ (s : Space). TellsRenewed [] (stage.Between s c.in-Ok.actors)) (sym c.of.ensures) c.in-Ok.ensures.untold;
      };
    }
