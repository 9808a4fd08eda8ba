use Rattle.std.proofs.Common.{◌≡◌, ◌+◌, ◌<◌, ◌∙◌, ap, subst, sym, length}
use Rattle.std.specs.Prelude.{slice_set}
use Rattle.lxr_layout.specs.Spaces.{region_begin, reuse_region}
use Rattle.lxr_tables.specs.Entries.{OthersStay}
use Rattle.lxr_tables.proofs.EntryLemmas.{others_stay}
use Rattle.lxr_image.proofs.WriteLemmas.{reuse_known, reuse_word_within}
use Rattle.lxr_image.proofs.words.HeapWords.put_reuse.Goals as goal

pub set-requires : goal.set-requires
set-requires c = subst (λ r. r.reuse + c.args.at < length c.self.inside.plain) (sym c.regions.ensures) (reuse_word_within c.args.limits c.self.inside.plain c.args.at (ap length c.self.view_is ∙ c.requires.size) c.requires.at)

-- one word has changed
written : (c : goal.After-set) → c.set.new.self ≡ slice_set c.self.inside.plain (region_begin c.args.limits reuse_region + c.args.at) c.args.value
written c = c.set.ensures ∙ ap (λ r. slice_set c.self.inside.plain (r.reuse + c.args.at) c.args.value) c.regions.ensures

pub invariant_of-self : goal.invariant_of-self
invariant_of-self c =
    let inside = reuse_word_within c.args.limits c.self.inside.plain c.args.at (ap length c.self.view_is ∙ c.requires.size) c.requires.at in
    reuse_known c.self.inside.settled c.keep_known.new.self c.args.limits c.self.inside.plain c.set.new.self c.keep_known.ensures.blocks c.args.at c.keep_known.ensures.knows c.requires.at
    (subst (λ vs. OthersStay c.self.inside.plain vs (region_begin c.args.limits reuse_region + c.args.at)) (sym (written c)) (others_stay c.self.inside.plain (region_begin c.args.limits reuse_region + c.args.at) c.args.value inside)) c.self.invariant

pub returns : goal.returns
returns c = written c ∙ ap (λ words. slice_set words (region_begin c.args.limits reuse_region + c.args.at) c.args.value) c.self.view_is
