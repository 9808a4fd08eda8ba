-- The table of fields tells them apart as the model does.
use Rattle.std.proofs.Common.{◌≡◌, ap, sym, ◌∙◌, true, cond, map, nat_eq}
use Rattle.std.specs.Option.{option_map}
use Rattle.lxr_judge_report.specs.Fields.{field_of, joined_field, fields_with, is_write}
use Rattle.lxr_judge_report.specs.contracts.position.WrittenPartialEq.TheImpl as impl
use Rattle.lxr_judge_report.specs.Positions.{Present}
use Rattle.lxr_judge_report.proofs.LoopLemmas.{keys_joined, and_assoc}
use Rattle.lxr_judge_report.proofs.position.Position.note_written.Goals as goal

pub returns-in_ok-insert : goal.returns-in_ok-insert
returns-in_ok-insert c =
    let was = c.self.view_is in
    let now = c.args.self.now in
    let field = c.in-Some.field in
    let write : is_write c.args.reply ≡ true = sym c.is_write.ensures ∙ c.if-is_write.true in
    let told : fields_with now.written (option_map field_of c.args.target) c.args.reply ≡ joined_field now.written (field_of field) =
    ap (λ t. fields_with now.written (option_map field_of t) c.args.reply) c.in-Some.is ∙ ap (λ b. cond b (joined_field now.written (field_of field)) now.written) write in
    let keys = c.in_ok-insert.ensures.keys in
    let fields = ap (λ ks. map field_of ks) keys
    ∙ keys_joined (impl.eq-value).it (λ a b. and_assoc (nat_eq a.thread b.thread) (nat_eq a.serial b.serial) (nat_eq a.index b.index)) field c.self.inside.written.keys
    ∙ ap (λ (p : Present). joined_field p.written (field_of field)) was
    ∙ sym told in
    λ i. record { state = (was i).state; last = (was i).last; made = (was i).made; written = fields i }
