use Rattle.std.proofs.Common.{◌≡◌, ℕ, ◌+◌, ◌∙◌, ap, subst, sym, length, Bool, IsTrue, [], cond}
use Rattle.std.proofs.lemmas.Result.{on_ok_weaker}
use Rattle.lxr_layout.specs.declared.Name.{Name}
use Rattle.lxr_image.specs.declared.space.Space.{Space}
use Rattle.lxr_image.specs.declared.space.Tally.{Tally}
use Rattle.lxr_invariant.specs.AbstractState.{AbstractState, paused}
use Rattle.lxr_sights.specs.Sights.{Looks, sight_of}
use Rattle.lxr_graph.specs.History.{report_of}
use Rattle.lxr_pause_queue.specs.Entries.{with_told}
use Rattle.lxr_one_pause.specs.declared.Ask.{Ask}
use Rattle.lxr_one_pause.specs.declared.Pace.{Pace}
use Rattle.lxr_one_pause.specs.Pausing.{CanPause, Pauses}
use Rattle.lxr_one_pause.specs.Telling.{with_names_where}
use Rattle.lxr_rounds_invariant.proofs.PauseLemmas.{can_pause, paused_after, safepoint_by}
use Rattle.lxr_rounds.specs.Pausing.{MakesPause, with_logs_counted}
use Rattle.lxr_rounds.proofs.FewLemmas.{next_report}
use Rattle.lxr_rounds.proofs.TellingLemmas.{both_retold, counts_stay, counts_told, makes_told, names_ordered, names_read, paused_told, tells_wanted}
use Rattle.lxr_rounds.proofs.pauses.pause.Goals as goal

-- the pause is that of the space with what is logged counted
made : (asked : Ask) (pace : Pace) (before after : Space) (n : ℕ) → n ≡ length before.logged.items → ((g : AbstractState) → CanPause (safepoint_by before n) g → (at' : Name → ℕ) × Pauses (safepoint_by before n) after g at' asked pace) → MakesPause asked pace before after
made asked pace before after n is pauses = subst (λ k. (g : AbstractState) → CanPause (safepoint_by before k) g → (at' : Name → ℕ) × Pauses (safepoint_by before k) after g at' asked pace) is pauses

-- a pause is counted, whatever it moves and keeps
counted : (before after : Tally) (moved kept : ℕ) → after ≡ record before { pauses = before.pauses + 1; moved = before.moved + moved; kept = before.kept + kept }
    → after ≡ record before { pauses = before.pauses + 1; moved = after.moved; kept = after.kept }
counted before after moved kept is = is ∙ ap (λ (t : Tally). record before { pauses = before.pauses + 1; moved = t.moved; kept = t.kept }) (sym is)

-- so it is whatever is told after it
made_behind : (asked : Ask) (pace : Pace) (before amid told after : Space) (n : ℕ) (reads : Bool) → n ≡ length before.logged.items
    → ((g : AbstractState) → CanPause (safepoint_by before n) g → (at' : Name → ℕ) × Pauses (safepoint_by before n) amid g at' asked pace)
    → told ≡ with_told amid told.report.told.items → after ≡ with_names_where reads told → MakesPause asked pace before after
made_behind asked pace before amid told after n reads is pauses alone names = makes_told before amid after (both_retold amid told after reads alone names) asked pace (made asked pace before amid n is pauses)

pub one_pause-requires-clause-space : goal.one_pause-requires-clause-space
one_pause-requires-clause-space g c =
    let (task, h, abstract_state, to) = c.requires.due in (
      abstract_state,
      subst (λ n. CanPause (safepoint_by c.args.space.now n) abstract_state) (sym c.len.ensures) (can_pause task c.args.space.now (g.W.Watch.seen c.args.watch.now) h abstract_state to.come c.requires.counts),
    )

pub tell_where_wanted-requires : goal.tell_where_wanted-requires
tell_where_wanted-requires g c =
    let (task, h, abstract_state, to) = c.requires.due in
    let can = can_pause task c.args.space.now (g.W.Watch.seen c.args.watch.now) h abstract_state to.come c.requires.counts in
    let (at', pauses) = made c.args.ask c.args.pace c.args.space.now c.one_pause.new.space c.len.result c.len.ensures c.one_pause.ensures.pauses abstract_state can in
    ((paused abstract_state at' (report_of c.one_pause.new.space.report)).moment, at', pauses.between.safepoint.holds)

pub list_where_read-requires : goal.list_where_read-requires
list_where_read-requires g c =
    let (task, h, abstract_state, to) = c.requires.due in
    let can = can_pause task c.args.space.now (g.W.Watch.seen c.args.watch.now) h abstract_state to.come c.requires.counts in
    names_ordered c.args.ask c.args.pace c.args.space.now c.one_pause.new.space c.tell_where_wanted.new.space abstract_state can
    (made c.args.ask c.args.pace c.args.space.now c.one_pause.new.space c.len.result c.len.ensures c.one_pause.ensures.pauses) c.tell_where_wanted.ensures.rest

pub after_pause-requires-clause-counts : goal.after_pause-requires-clause-counts
after_pause-requires-clause-counts g c =
    let (task, h, abstract_state, to) = c.requires.due in
    let can = can_pause task c.args.space.now (g.W.Watch.seen c.args.watch.now) h abstract_state to.come c.requires.counts in
    counts_stay c.one_pause.new.space c.tell_where_wanted.new.space c.list_where_read.new.space (g.O.Observer.reads_names c.args.observer.now) c.tell_where_wanted.ensures.rest c.list_where_read.ensures
    (λ kind counts told. IsTrue (g.O.Observer.wants c.args.observer.now kind) → told ≡ counts)
    (counts_told c.args.space.now c.one_pause.new.space c.tell_where_wanted.new.space abstract_state c.args.ask c.args.pace (g.O.Observer.wants c.args.observer.now) can
    (made c.args.ask c.args.pace c.args.space.now c.one_pause.new.space c.len.result c.len.ensures c.one_pause.ensures.pauses) c.tell_where_wanted.ensures.rest c.tell_where_wanted.ensures.told c.tell_where_wanted.ensures.drains)

pub after_pause-requires-clause-names : goal.after_pause-requires-clause-names
after_pause-requires-clause-names g c = names_read c.tell_where_wanted.new.space c.list_where_read.new.space (g.O.Observer.reads_names c.args.observer.now) c.list_where_read.ensures

pub after_pause-requires-clause-next : goal.after_pause-requires-clause-next
after_pause-requires-clause-next g c = (
  c.args.space.now.pauses,
  next_report c.args.ask c.args.pace c.args.space.now c.list_where_read.new.space (g.W.Watch.seen c.args.watch.now) c.requires.due c.requires.counts
      (made_behind c.args.ask c.args.pace c.args.space.now c.one_pause.new.space c.tell_where_wanted.new.space c.list_where_read.new.space c.len.result (g.O.Observer.reads_names c.args.observer.now) c.len.ensures c.one_pause.ensures.pauses c.tell_where_wanted.ensures.rest c.list_where_read.ensures),
  c.requires.room,
)

pub returns-clause-paused : goal.returns-clause-paused
returns-clause-paused g c = λ task h abstract_state to.
    let can = can_pause task c.args.space.now (g.W.Watch.seen c.args.watch.now) h abstract_state to.come c.requires.counts in
    let (at', pauses) = made c.args.ask c.args.pace c.args.space.now c.one_pause.new.space c.len.result c.len.ensures c.one_pause.ensures.pauses abstract_state can in
    let first : Looks (g.W.Watch.seen c.args.watch.now) (g.W.Watch.seen c.look.new.self) (sight_of (with_logs_counted c.args.space.now)) =
    subst (λ n. Looks (g.W.Watch.seen c.args.watch.now) (g.W.Watch.seen c.look.new.self) (sight_of (safepoint_by c.args.space.now n))) c.len.ensures c.look.ensures in
    paused_told c.args.space.now c.one_pause.new.space c.list_where_read.new.space
    (both_retold c.one_pause.new.space c.tell_where_wanted.new.space c.list_where_read.new.space (g.O.Observer.reads_names c.args.observer.now) c.tell_where_wanted.ensures.rest c.list_where_read.ensures) task (g.W.Watch.seen c.look-2.new.self) h c.args.ask
    (paused_after task c.args.space.now c.one_pause.new.space (g.W.Watch.seen c.args.watch.now) (g.W.Watch.seen c.look.new.self) (g.W.Watch.seen c.look-2.new.self) h abstract_state to.come to.due c.args.ask to.right at'
    (subst (λ p. Pauses (with_logs_counted c.args.space.now) c.one_pause.new.space abstract_state at' c.args.ask p) (sym to.paced) pauses) c.one_pause.ensures.untold first c.look-2.ensures)

pub returns-clause-made : goal.returns-clause-made
returns-clause-made g c = made_behind c.args.ask c.args.pace c.args.space.now c.one_pause.new.space c.tell_where_wanted.new.space c.list_where_read.new.space c.len.result (g.O.Observer.reads_names c.args.observer.now) c.len.ensures c.one_pause.ensures.pauses c.tell_where_wanted.ensures.rest c.list_where_read.ensures

pub returns-clause-listed : goal.returns-clause-listed
returns-clause-listed g c =
    let (task, h, abstract_state, to) = c.requires.due in
    let can = can_pause task c.args.space.now (g.W.Watch.seen c.args.watch.now) h abstract_state to.come c.requires.counts in
    counts_stay c.one_pause.new.space c.tell_where_wanted.new.space c.list_where_read.new.space (g.O.Observer.reads_names c.args.observer.now) c.tell_where_wanted.ensures.rest c.list_where_read.ensures
    (λ kind counts told. told ≡ cond (g.O.Observer.wants c.args.observer.now kind) counts [])
    (tells_wanted c.one_pause.new.space c.tell_where_wanted.new.space (g.O.Observer.wants c.args.observer.now) c.tell_where_wanted.ensures.rest c.one_pause.ensures.untold c.tell_where_wanted.ensures.quiet
    (counts_told c.args.space.now c.one_pause.new.space c.tell_where_wanted.new.space abstract_state c.args.ask c.args.pace (g.O.Observer.wants c.args.observer.now) can
    (made c.args.ask c.args.pace c.args.space.now c.one_pause.new.space c.len.result c.len.ensures c.one_pause.ensures.pauses) c.tell_where_wanted.ensures.rest c.tell_where_wanted.ensures.told c.tell_where_wanted.ensures.drains))

pub returns-clause-tally : goal.returns-clause-tally
returns-clause-tally g c =
    let (task, h, abstract_state, to) = c.requires.due in
    let can = can_pause task c.args.space.now (g.W.Watch.seen c.args.watch.now) h abstract_state to.come c.requires.counts in
    let pauses = (returns-clause-made g c abstract_state can).1 in
    counted (with_logs_counted c.args.space.now).tally c.list_where_read.new.space.tally (length pauses.moved) (length pauses.kept) pauses.tally

pub returns-clause-pauses : goal.returns-clause-pauses
returns-clause-pauses g c =
    let (task, h, abstract_state, to) = c.requires.due in
    let can = can_pause task c.args.space.now (g.W.Watch.seen c.args.watch.now) h abstract_state to.come c.requires.counts in
    let (at', pauses) = returns-clause-made g c abstract_state can in
    ap (λ (s : Space). s.pauses) pauses.space

pub returns-clause-room : goal.returns-clause-room
returns-clause-room g c =
    let next = next_report c.args.ask c.args.pace c.args.space.now c.list_where_read.new.space (g.W.Watch.seen c.args.watch.now) c.requires.due c.requires.counts
    (made_behind c.args.ask c.args.pace c.args.space.now c.one_pause.new.space c.tell_where_wanted.new.space c.list_where_read.new.space c.len.result (g.O.Observer.reads_names c.args.observer.now) c.len.ensures c.one_pause.ensures.pauses c.tell_where_wanted.ensures.rest c.list_where_read.ensures) in
    on_ok_weaker c.after_pause.result (λ room. subst (g.O.Observer.has_room c.after_pause.new.self) (next.number ∙ sym (returns-clause-pauses g c)) room) c.after_pause.ensures.room
