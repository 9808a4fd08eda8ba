use Rattle.std.proofs.Common.{◌≡◌, ◌+◌, ◌-◌, ◌*◌, ◌/◌, ◌%◌, ◌^◌, ◌<◌, ◌∙◌, ap, subst, sym, refl, arith, length}
use Rattle.std.specs.Prelude.{slice_index}
use Rattle.lxr_layout.specs.Spaces.{region_begin, reuse_region}
use Rattle.lxr_image.specs.Tables.{changed}
use Rattle.lxr_image.specs.Spaces.{tables_of}
use Rattle.lxr_image.proofs.HalfLemmas.{half_written, put_fits, taken_fits}
use Rattle.lxr_image.proofs.TableLaws.{half_is, half_put, reuse_within}
use Rattle.lxr_image.proofs.WriteLemmas.{size_is}
use Rattle.lxr_image.proofs.space.Space.raise_reuse.Goals as goal

pub get-word-requires : goal.get-word-requires
get-word-requires c = subst (λ at. at < length c.args.self.now.words) (sym c.reuse_word.ensures)
    (reuse_within c.args.self.now.limits c.args.self.now.words c.args.line c.requires.space.size c.requires.line)

pub put_reuse-requires-clause-size : goal.put_reuse-requires-clause-size
put_reuse-requires-clause-size c = sym (size_is c.args.self.now.limits c.args.self.now.words) ∙ c.requires.space.size

pub overflow_sub-cleared : goal.overflow_sub-cleared
overflow_sub-cleared c =
    let half = half_is c.args.self.now.limits c.args.self.now.words c.args.line c.reuse_word.result c.get-word.result c.requires.space.size c.requires.line c.reuse_word.ensures c.get-word.ensures in
    taken_fits c.get-word.result (c.args.line % 2) c.from.result (omega arith) (c.from.ensures ∙ c.reuse-old.ensures ∙ sym half)

pub overflow_add-raised : goal.overflow_add-raised
overflow_add-raised c =
    let half = half_is c.args.self.now.limits c.args.self.now.words c.args.line c.reuse_word.result c.get-word.result c.requires.space.size c.requires.line c.reuse_word.ensures c.get-word.ensures in
    let fits : c.get-word.result - c.from.result * 2 ^ (32 * (c.args.line % 2)) % 2 ^ 64 + c.from-2.result * 2 ^ (32 * (c.args.line % 2)) % 2 ^ 64 < 2 ^ 64 =
    put_fits c.get-word.result (c.args.line % 2) c.from.result c.from-2.result c.get-word.type_inv (omega arith) (omega arith) (c.from.ensures ∙ c.reuse-old.ensures ∙ sym half) in
    omega arith

pub returns : goal.returns
returns c =
    let half = half_is c.args.self.now.limits c.args.self.now.words c.args.line c.reuse_word.result c.get-word.result c.requires.space.size c.requires.line c.reuse_word.ensures c.get-word.ensures in
    let value : c.from-2.result ≡ ((tables_of c.args.self.now).reuse c.args.line + 1) % 2 ^ 32 = c.from-2.ensures ∙ ap (λ n. (n + 1) % 2 ^ 32) c.reuse-old.ensures in
    record {
      tables = half_put c.args.self.now.limits c.args.self.now.words c.put_reuse.new.self c.args.line (region_begin c.args.self.now.limits reuse_region + c.args.line / 2) c.get-word.result _ c.from-2.result c.requires.space.size c.requires.line refl (c.get-word.ensures ∙ ap (slice_index c.args.self.now.words) c.reuse_word.ensures) c.put_reuse.ensures (omega arith)
          (half_written c.get-word.result (c.args.line % 2) c.from.result c.from-2.result (omega arith) (omega arith) (c.from.ensures ∙ c.reuse-old.ensures ∙ sym half))
          ∙ ap (λ n. record (tables_of c.args.self.now) { reuse = changed (tables_of c.args.self.now).reuse c.args.line n }) value;
      rest = refl;
    }
