use Rattle.std.proofs.Common.{◌≡◌, ◌∙◌, ◌*◌, ap, sym, subst, arith}
use Rattle.lxr_layout.specs.declared.Place.{Place}
use Rattle.lxr_layout.specs.declared.Header.TheVariants as header
use Rattle.lxr_layout.specs.Objects.{header_of, header_word}
use Rattle.lxr_image.specs.ImageLaws.{with_heap}
use Rattle.lxr_image.specs.Spaces.{Turns, tables_of}
use Rattle.lxr_image.proofs.ReadLemmas.{header_unpacked}
use Rattle.lxr_graph.specs.Renewing.{renewed_name}
use Rattle.lxr_large_model.specs.Renewing.{AreCounted}
use Rattle.lxr_renew.proofs.heads.renew_head.Goals as goal

pub returns-in-Object : goal.returns-in-Object
returns-in-Object c = λ ns n shape h.
    let place = c.place_at.ensures in
    let first = c.word_of-word.ensures in
    let word : c.word_of-word.result ≡ 2 * c.args.granule = let p = ap (λ (q : Place). q.0) place in omega (arith, first, p) in
    let told : header.Object c.in-Object.name c.in-Object.shape ≡ header.Object n shape =
    sym c.in-Object.is ∙ c.unpack.ensures ∙ ap header_of (c.heap_word.ensures ∙ ap (tables_of c.args.space.now).heap word ∙ h.whole.header) ∙ header_unpacked n shape h.whole.name h.whole.shape in
    let name : c.in-Object.name ≡ n = cc in
    let same : c.in-Object.shape ≡ shape = cc in
    let counted : AreCounted c.as_slice.result.now ns = subst (λ cs. AreCounted cs ns) (sym c.as_slice.ensures) h.told in
    let value : c.pack.result ≡ header_word (renewed_name ns n) shape = c.pack.ensures.word ∙ (λ i. header_word ((c.renewed-name.ensures ns counted ∙ ap (renewed_name ns) name) i) (same i)) in
    subst (λ w. Turns c.args.space.now c.put_heap.new.self (with_heap (tables_of c.args.space.now) w (header_word (renewed_name ns n) shape))) word
    (subst (λ v. Turns c.args.space.now c.put_heap.new.self (with_heap (tables_of c.args.space.now) c.word_of-word.result v)) value c.put_heap.ensures)
