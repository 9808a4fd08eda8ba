use Rattle.std.proofs.Common.{◌≡◌, ℕ, ◌+◌, ◌-◌, ◌*◌, ◌<◌, ◌≤◌, List, length, take, drop, refl, sym, subst, arith, ◌∙◌, get_or, ap}
use Rattle.std.proofs.lemmas.List.{get_or_default, length-drop, length-take-le, with_items_is}
use Rattle.std.specs.Vec.{with_items}
use borrow.Rule.Slice.PartMut.{put_mid}
use Rattle.std.proofs.lemmas.List.Elements.{All-get_or}
use Rattle.lxr_layout.specs.declared.TheConstants.{REGISTERS}
use Rattle.lxr_layout.specs.declared.Place.{Place}
use Rattle.lxr_image.specs.Registers.{Registers, with_row}
use Rattle.lxr_image.proofs.RegisterLemmas.{length-with_row, put_in_use, row_written}
use Rattle.lxr_image.proofs.registers.RegisterFile.put_row.Goals as goal

within : (c : goal.After-self-2-1) → REGISTERS * c.args.thread + REGISTERS ≤ length c.self.inside.places.items
within c = subst (λ s. REGISTERS * c.args.thread + REGISTERS ≤ length s.items) (sym c.self.view_is) c.requires.thread

few : (c : goal.After-self-2-1) → c.args.in_use ≤ c.self.inside.width
few c = subst (λ s. c.args.in_use ≤ s.width) (sym c.self.view_is) c.requires.few

-- all registers once those of the thread are written over
written : (c : goal.After-self-2-1) → put_mid (REGISTERS * c.args.thread) (REGISTERS * c.args.thread + c.from-many.result - REGISTERS * c.args.thread) c.deref_mut.result.now c.copy_places.new.to
    ≡ with_row c.self.inside.places.items c.args.thread c.args.row.now
written c =
    let is = c.self.invariant in
    let room = within c in
    let fits = few c in
    let uses : List ℕ = c.self.inside.in_use.items in
    let many : ℕ = c.from-many.result in
    let counted : c.args.thread < length uses = let as_many = is.many in omega arith in
    let read : get_or uses c.args.thread 0 ≡ c.index.result.now = get_or_default uses c.args.thread 0 c.index.result.now counted ∙ sym c.index.ensures in
    let used : get_or uses c.args.thread 0 ≤ c.self.inside.width = All-get_or (λ n. n ≤ c.self.inside.width) uses c.args.thread 0 counted is.few in
    let most : many ≤ REGISTERS = omega arith in
    let there : length c.deref_mut.result.now ≡ length c.self.inside.places.items = ap length c.deref_mut.ensures.value in
    let after : ℕ = REGISTERS * c.args.thread + many - REGISTERS * c.args.thread in
    let left = length-drop (REGISTERS * c.args.thread) c.deref_mut.result.now in
    let long : length (take after (drop (REGISTERS * c.args.thread) c.deref_mut.result.now)) ≡ many = length-take-le after (drop (REGISTERS * c.args.thread) c.deref_mut.result.now) (omega (arith, room, there, left, most)) ∙ omega arith in
    let part : c.copy_places.new.to ≡ take many c.args.row.now = c.copy_places.ensures ∙ ap (λ n. take n c.args.row.now) long in
    let at_least : get_or uses c.args.thread 0 ≤ many = omega arith in
    row_written c.self.inside.places.items c.deref_mut.result.now c.copy_places.new.to c.args.row.now c.args.thread (REGISTERS * c.args.thread + many - REGISTERS * c.args.thread) many
    room c.requires.row most (λ k from end. is.others c.args.thread k (omega (arith, at_least)) end) (λ k from end. c.requires.others k (omega arith) end)
    c.deref_mut.ensures.value part (omega arith)

-- so the fields have them
held : (c : goal.After-self-2-1)
    → (with_items c.self.inside.places (put_mid (REGISTERS * c.args.thread) (REGISTERS * c.args.thread + c.from-many.result - REGISTERS * c.args.thread) c.deref_mut.result.now c.copy_places.new.to)).items
    ≡ with_row c.self.inside.places.items c.args.thread c.args.row.now
held c = with_items_is c.self.inside.places _ (ap length (written c) ∙ length-with_row c.self.inside.places.items c.args.row.now c.args.thread (within c) c.requires.row ∙ sym c.self.inside.places.ok.0) ∙ written c

pub invariant_of-self : goal.invariant_of-self
invariant_of-self c = put_in_use c.self.inside _ c.args.thread c.args.in_use c.args.row.now c.self.invariant (within c) c.requires.row (few c) c.requires.others (held c) refl refl

pub returns : goal.returns
returns c =
    let registers : List Place → Registers = λ z. record { items = z; width = c.self.inside.width } in
    let replaced : Registers → Registers = λ s. record s { items = with_row s.items c.args.thread c.args.row.now } in
    ap registers (held c) ∙ ap replaced c.self.view_is
