use Rattle.std.proofs.Common.{◌≡◌, ◌∙◌, ap, sym, length}
use Rattle.lxr_image.specs.Spaces.{with_bit}
use Rattle.lxr_image.specs.Tables.{tables_in}
use Rattle.lxr_image.proofs.WriteLemmas.{bit_known, bit_place, bit_put}
use Rattle.lxr_image.proofs.words.HeapWords.put_bit.Goals as goal

pub set_bit-requires : goal.set_bit-requires
set_bit-requires c = bit_place c.args.limits c.self.inside.plain c.args.table c.args.index c.begin-begin.result c.begin-begin.ensures (ap length c.self.view_is ∙ c.requires.size) c.requires.index

pub clear_bit-requires : goal.clear_bit-requires
clear_bit-requires c = bit_place c.args.limits c.self.inside.plain c.args.table c.args.index c.begin-begin.result c.begin-begin.ensures (ap length c.self.view_is ∙ c.requires.size) c.requires.index

-- the bit is set
set_words : (c : goal.After-set_bit) → tables_in c.args.limits c.set_bit.new.words ≡ with_bit (tables_in c.args.limits c.self.inside.plain) c.args.table c.args.index c.args.bit
set_words c = bit_put c.args.limits c.self.inside.plain c.set_bit.new.words c.args.table c.args.index 1 c.begin-begin.result c.begin-begin.ensures (ap length c.self.view_is ∙ c.requires.size) c.requires.index c.set_bit.ensures.table c.set_bit.ensures.others
    ∙ ap (with_bit (tables_in c.args.limits c.self.inside.plain) c.args.table c.args.index) (sym c.if-bit.true)

pub invariant_of-self : goal.invariant_of-self
invariant_of-self c = bit_known c.self.inside.settled c.note_bit.new.self c.args.limits c.self.inside.plain c.set_bit.new.words c.note_bit.ensures.blocks c.args.table c.block_of.result c.args.index c.args.bit c.block_of.ensures c.note_bit.ensures.knows (set_words c) c.self.invariant

pub returns-then-bit : goal.returns-then-bit
returns-then-bit c = set_words c ∙ ap (λ words. with_bit (tables_in c.args.limits words) c.args.table c.args.index c.args.bit) c.self.view_is

-- the bit is clear
cleared_words : (c : goal.After-clear_bit) → tables_in c.args.limits c.clear_bit.new.words ≡ with_bit (tables_in c.args.limits c.self.inside.plain) c.args.table c.args.index c.args.bit
cleared_words c = bit_put c.args.limits c.self.inside.plain c.clear_bit.new.words c.args.table c.args.index 0 c.begin-begin.result c.begin-begin.ensures (ap length c.self.view_is ∙ c.requires.size) c.requires.index c.clear_bit.ensures.table c.clear_bit.ensures.others
    ∙ ap (with_bit (tables_in c.args.limits c.self.inside.plain) c.args.table c.args.index) (sym c.if-bit.false)

pub invariant_of-self-else-bit : goal.invariant_of-self-else-bit
invariant_of-self-else-bit c = bit_known c.self.inside.settled c.note_bit.new.self c.args.limits c.self.inside.plain c.clear_bit.new.words c.note_bit.ensures.blocks c.args.table c.block_of.result c.args.index c.args.bit c.block_of.ensures c.note_bit.ensures.knows (cleared_words c) c.self.invariant

pub returns-else-bit : goal.returns-else-bit
returns-else-bit c = cleared_words c ∙ ap (λ words. with_bit (tables_in c.args.limits words) c.args.table c.args.index c.args.bit) c.self.view_is
