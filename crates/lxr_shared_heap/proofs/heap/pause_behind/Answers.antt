use Rattle.std.proofs.Common.{◌≡◌, ◌∙◌, inl, refl, sym, ap, length, true, false, subst}
use Rattle.std.specs.List.{list_any}
use Rattle.std.specs.Prelude.{◌&&◌, None, not}
use Rattle.std.proofs.lemmas.List.{with_items_is}
use Rattle.std.specs.Vec.{with_items}
use Rattle.lxr_image.specs.declared.space.Space.{Space}
use Rattle.lxr_core.specs.Actors.{mutators_in}
use Rattle.lxr_model.proofs.CollectLemmas.{whole_so_far}
use Rattle.lxr_rounds_invariant.specs.LoopInvariant.{IsBetweenEpochs, terms_of}
use Rattle.lxr_shared_heap.specs.declared.heap.Stage.TheVariants as stage
use Rattle.lxr_shared_heap.specs.Heaps.{ComesToRest, HasListed}
use Rattle.lxr_stations.specs.Living.{AreLive}
use Rattle.lxr_shared_heap.specs.Renewing.{RenewsWhere, StandsIdle, is_renewal_due, waits}
use Rattle.lxr_shared_heap.specs.Resting.{HasRested, ListsBehind}
use Rattle.lxr_shared_heap.specs.Settings.{run_of}
use Rattle.lxr_shared_heap.proofs.DueLemmas.{due_told, due_tested}
use Rattle.lxr_shared_heap.proofs.HeapLemmas.{idle_stands, newest_behind, renewed_many, renewed_space, stands_renewed, tells_none}
use Rattle.lxr_shared_heap.proofs.RecallLemmas.{unrenewed_behind}
use Rattle.lxr_shared_heap.specs.Telling.{EndByNewest}
use Rattle.lxr_shared_heap.proofs.TellingLemmas.{have_replied}
use Rattle.lxr_shared_heap.proofs.heap.pause_behind.Goals as goal

pub renew_where_due-requires : goal.renew_where_due-requires
renew_where_due-requires g c =
    let (script, before, calls, m, ran) = c.requires.made in
    let more : c.rest.result ≡ false = cc in
    let rested = subst (HasRested c.args.begins (run_of c.args.settings script) calls c.args.actors.items c.rest.new.space c.rest.new.actors.items) more (c.rest.ensures.rests script before calls m ran) in (
      c.args.settings,
      script,
      rested.history,
      rested.stands.0,
      subst (λ xs. StandsIdle c.args.settings script c.rest.new.space xs rested.history rested.stands.0 (not c.some_waits-idle.result)) (sym c.deref_mut.ensures.value)
          (idle_stands c.args.begins c.args.settings script calls c.args.actors.items c.rest.new.space c.rest.new.actors.items rested ran.actors_rest.mutators c.requires.live c.some_waits-idle.result (c.some_waits-idle.ensures ∙ ap (list_any waits) c.deref.ensures.value)),
    )

pub of-requires : goal.of-requires
of-requires g c =
    let (script, before, calls, m, ran) = c.requires.made in
    let ended : c.rest.result ≡ true = cc in
    let rested = subst (HasRested c.args.begins (run_of c.args.settings script) calls c.args.actors.items c.rest.new.space c.rest.new.actors.items) ended (c.rest.ensures.rests script before calls m ran) in
    rested.stands.left.1.between.safepoint.holds.space

pub of-requires-else-rest : goal.of-requires-else-rest
of-requires-else-rest g c =
    let (script, before, calls, m, ran) = c.requires.made in
    let more : c.rest.result ≡ false = cc in
    let rested = subst (HasRested c.args.begins (run_of c.args.settings script) calls c.args.actors.items c.rest.new.space c.rest.new.actors.items) more (c.rest.ensures.rests script before calls m ran) in
    let idle = not c.some_waits-idle.result in
    let space = c.rest.new.space in
    let actors = c.rest.new.actors.items in
    let stands = idle_stands c.args.begins c.args.settings script calls c.args.actors.items space actors rested ran.actors_rest.mutators c.requires.live c.some_waits-idle.result (c.some_waits-idle.ensures ∙ ap (list_any waits) c.deref.ensures.value) in
    let renews = subst (λ xs. RenewsWhere (idle && is_renewal_due space xs) space xs idle c.renew_where_due.new.space c.renew_where_due.new.actors) c.deref_mut.ensures.value c.renew_where_due.ensures.renews in
    renewed_space (idle && is_renewal_due space actors) c.args.settings script rested.history rested.stands.0 space actors idle c.renew_where_due.new.space c.renew_where_due.new.actors stands renews

pub returns-then-rest-clause-rests : goal.returns-then-rest-clause-rests
returns-then-rest-clause-rests g c = λ script before calls m ran newest. (
    let ended : c.rest.result ≡ true = cc in
    let rested = subst (HasRested c.args.begins (run_of c.args.settings script) calls c.args.actors.items c.rest.new.space c.rest.new.actors.items) ended (c.rest.ensures.rests script before calls m ran) in
    subst (λ (s : Space). ComesToRest c.args.begins c.args.settings script calls (mutators_in c.args.actors.items) (stage.Ended s c.rest.new.actors)) (sym c.of.ensures)
    (record {
      report = rested.report;
      collects = rested.collects;
      traces = rested.traces;
      answered = mutators_in c.rest.new.actors.items;
      history = rested.history;
      behind = rested.behind;
      renewed_script = script;
      renewed_history = rested.history;
      asked = rested.stands.actors_rest.mutators.script;
      names = rested.stands.actors_rest.mutators.names;
      replied = have_replied (run_of c.args.settings script) rested.history (mutators_in c.rest.new.actors.items) rested.stands.actors_rest.mutators;
      belongs = whole_so_far (terms_of (run_of c.args.settings script)) script rested.history rested.stands.history.legal rested.stands.history.belongs;
      renewed = inl (λ due. (let (i, m, at, less) = due.worn in due.unended i m at (rested.all_ended refl i m at)), refl, refl);
      stands = rested.stands;
      told = tells_none rested.history c.rest.new.space
          (unrenewed_behind (run_of c.args.settings script) rested.report calls (mutators_in c.args.actors.items) (mutators_in c.rest.new.actors.items) rested.history rested.behind) c.rest.ensures.untold;
      at_rest = tt;
    }))

pub returns-else-rest-clause-rests : goal.returns-else-rest-clause-rests
returns-else-rest-clause-rests g c = λ script before calls m ran newest. (
    let more : c.rest.result ≡ false = cc in
    let rested = subst (HasRested c.args.begins (run_of c.args.settings script) calls c.args.actors.items c.rest.new.space c.rest.new.actors.items) more (c.rest.ensures.rests script before calls m ran) in
    let idle = not c.some_waits-idle.result in
    let space = c.rest.new.space in
    let actors = c.rest.new.actors.items in
    let stands = idle_stands c.args.begins c.args.settings script calls c.args.actors.items space actors rested ran.actors_rest.mutators c.requires.live c.some_waits-idle.result (c.some_waits-idle.ensures ∙ ap (list_any waits) c.deref.ensures.value) in
    let renews = subst (λ xs. RenewsWhere (idle && is_renewal_due space xs) space xs idle c.renew_where_due.new.space c.renew_where_due.new.actors) c.deref_mut.ensures.value c.renew_where_due.ensures.renews in
    let due = idle && is_renewal_due space actors in
    let now = newest_behind (run_of c.args.settings script) rested.report calls (mutators_in c.args.actors.items) space actors rested.history rested.stands.0 rested.behind rested.stands.1 newest in
    let tests = c.some_waits-idle.ensures ∙ ap (list_any waits) c.deref.ensures.value in
    let anew = stands_renewed due (due_told c.args.begins c.args.settings script calls c.args.actors.items space actors rested c.some_waits-idle.result tests)
    (due_tested c.args.begins c.args.settings script calls c.args.actors.items space actors rested c.some_waits-idle.result tests) c.args.settings script rested.history rested.stands.0 space actors idle c.renew_where_due.new.space c.renew_where_due.new.actors stands now renews
    (unrenewed_behind (run_of c.args.settings script) rested.report calls (mutators_in c.args.actors.items) (mutators_in actors) rested.history rested.behind) c.rest.ensures.untold in
    let many = renewed_many due c.args.settings script rested.history rested.stands.0 space actors idle c.renew_where_due.new.space c.renew_where_due.new.actors stands renews in
    let same = with_items_is c.rest.new.actors c.renew_where_due.new.actors (many ∙ ap length (sym c.deref_mut.ensures.value) ∙ c.deref_mut.ensures.len) in
    subst (λ (s : Space). ComesToRest c.args.begins c.args.settings script calls (mutators_in c.args.actors.items) (stage.Between s (with_items c.rest.new.actors c.renew_where_due.new.actors))) (sym c.of-else-rest.ensures)
    (record {
      report = rested.report;
      collects = rested.collects;
      traces = rested.traces;
      answered = mutators_in actors;
      history = rested.history;
      behind = rested.behind;
      renewed_script = anew.renewed_script;
      renewed_history = anew.renewed_history;
      asked = rested.stands.1.actors_rest.mutators.script;
      names = rested.stands.1.actors_rest.mutators.names;
      replied = have_replied (run_of c.args.settings script) rested.history (mutators_in actors) rested.stands.1.actors_rest.mutators;
      belongs = rested.stands.1.come.history;
      renewed = anew.renewed;
      stands = (
        (anew.abstract_state, subst (λ xs. IsBetweenEpochs (run_of c.args.settings anew.renewed_script) c.renew_where_due.new.space None xs anew.renewed_history anew.abstract_state) (sym same) anew.between),
        subst (λ xs. AreLive (mutators_in xs)) (sym same) anew.live,
        subst (λ xs. EndByNewest anew.renewed_history (mutators_in xs)) (sym same) anew.newest,
      );
      told = anew.told;
      at_rest = tt;
    }))

pub returns-then-rest-clause-lists : goal.returns-then-rest-clause-lists
returns-then-rest-clause-lists g c =
    let ended : c.rest.result ≡ true = cc in
    subst (λ b. ListsBehind b c.args.to_list.now c.rest.new.space c.rest.new.to_list) ended c.rest.ensures.lists

pub returns-else-rest-clause-lists : goal.returns-else-rest-clause-lists
returns-else-rest-clause-lists g c =
    let more : c.rest.result ≡ false = cc in
    let (unlisted, lists) = subst (λ b. ListsBehind b c.args.to_list.now c.rest.new.space c.rest.new.to_list) more c.rest.ensures.lists in
    subst (λ (s : Space). HasListed c.args.to_list.now (stage.Between s (with_items c.rest.new.actors c.renew_where_due.new.actors)) c.rest.new.to_list) (sym c.of-else-rest.ensures)
    (unlisted, c.rest.new.space, lists, c.renew_where_due.ensures.lists)
