use Rattle.std.proofs.Common.{rules, ◌<◌, ◌^◌, ◌∙◌, length, sym, ap, subst}
use Rattle.std.specs.List.{All}
use Rattle.lxr_image_search.specs.declared.Wanted.TheVariants.{ToScan}
use Rattle.lxr_image_search.specs.Search.{AvoidsFree}
use Rattle.lxr_mutator.specs.Mutators.{IsHeld}
use Rattle.lxr_core.specs.Actors.{mutators_in}
use Rattle.lxr_core.specs.Filling.{MayAllFill}
use Rattle.lxr_core.specs.Starting.{HaveStarted, MayNameAll}
use Rattle.lxr_core.proofs.OpenedLemmas.{grays_used, held_before, holds_at, may_all_fill, may_all_start, may_name_all, opened_traced, opened_untraced}
use Rattle.lxr_core.proofs.opening.open_epoch.Goals as goal

pub start_all-requires-clause-order : goal.start_all-requires-clause-order
start_all-requires-clause-order c = c.requires.1.fit.helpers.order

pub start_all-requires-clause-width : goal.start_all-requires-clause-width
start_all-requires-clause-width c =
    let same = ap (λ s. s.registers.width) c.put_cursor.ensures.rest in
    subst (λ width. MayNameAll width (mutators_in c.args.actors.now)) (sym same) (may_name_all c.requires.0 c.args.space.now c.args.actors.now c.requires.1)

pub start_all-requires-clause-held : goal.start_all-requires-clause-held
start_all-requires-clause-held c =
    let same = ap (λ s. s.registers.items) c.put_cursor.ensures.rest in
    subst (All IsHeld) (sym same) (held_before c.requires.0 c.args.space.now c.args.actors.now c.requires.1)

pub start_all-requires-clause-rest : goal.start_all-requires-clause-rest
start_all-requires-clause-rest c = may_all_start c.requires.0 c.args.space.now c.args.actors.now c.requires.1

pub fill_pockets-requires-clause-free : goal.fill_pockets-requires-clause-free
fill_pockets-requires-clause-free c = subst (λ t. AvoidsFree t ToScan) (sym c.put_cursor.ensures.tables) (grays_used c.requires.0 c.args.space.now c.args.actors.now c.requires.1)

pub fill_pockets-requires-clause-empty : goal.fill_pockets-requires-clause-empty
fill_pockets-requires-clause-empty c =
    let rest = c.put_cursor.ensures.rest in
    let registers = ap (λ s. s.registers.items) rest in
    subst (λ l. MayAllFill l c.start_all.new.actors) (sym (ap (λ s. s.limits) rest))
    (may_all_fill c.requires.0 c.args.space.now c.args.actors.now c.start_all.new.actors c.requires.1 (subst (λ places. HaveStarted places c.args.actors.now c.start_all.new.actors (length c.args.actors.now)) registers c.start_all.ensures))

pub returns-then-is_some-clause-opens : goal.returns-then-is_some-clause-opens
returns-then-is_some-clause-opens c =
    opened_traced c.args.space.now c.put_cursor.new.self c.args.actors.now c.start_all.new.actors c.put_cursor.ensures c.start_all.ensures c.fill_pockets.new.actors c.fill_pockets.ensures.0 (sym c.is_some.ensures ∙ c.if-is_some.true)
    c.fill_pockets.ensures.1

pub returns-then-is_some-clause-execution : goal.returns-then-is_some-clause-execution
returns-then-is_some-clause-execution c = λ b begins.
    let few : c.args.space.now.pauses < 2 ^ 32 = search rules in
    holds_at b c.args.space.now c.put_cursor.new.self c.args.actors.now c.fill_pockets.new.actors few c.unnamed_are_nil.ensures (search rules) begins (returns-then-is_some-clause-opens c)

pub returns-else-is_some-clause-opens : goal.returns-else-is_some-clause-opens
returns-else-is_some-clause-opens c =
    let registers = ap (λ s. s.registers.items) c.put_cursor.ensures.rest in
    opened_untraced c.args.space.now c.put_cursor.new.self c.args.actors.now c.start_all.new.actors c.put_cursor.ensures c.start_all.ensures (sym c.is_some.ensures ∙ c.if-is_some.false)
    (may_all_fill c.requires.0 c.args.space.now c.args.actors.now c.start_all.new.actors c.requires.1 (subst (λ places. HaveStarted places c.args.actors.now c.start_all.new.actors (length c.args.actors.now)) registers c.start_all.ensures))

pub returns-else-is_some-clause-execution : goal.returns-else-is_some-clause-execution
returns-else-is_some-clause-execution c = λ b begins.
    let few : c.args.space.now.pauses < 2 ^ 32 = search rules in
    holds_at b c.args.space.now c.put_cursor.new.self c.args.actors.now c.start_all.new.actors few c.unnamed_are_nil.ensures (search rules) begins (returns-else-is_some-clause-opens c)
