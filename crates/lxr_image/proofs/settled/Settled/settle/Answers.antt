use Rattle.std.proofs.Common.{◌∙◌, ap, false, refl}
use Rattle.std.specs.Prelude.{slice_set}
use Rattle.lxr_image.proofs.SettledLemmas.{settle_known}
use Rattle.lxr_image.proofs.settled.Settled.settle.Goals as goal

pub returns-clause-knows : goal.returns-clause-knows
returns-clause-knows c t known block counted =
    let s = c.args.self.now in let put = c.put_lines.new.self in let rest = c.put_lines.ensures.rest in
    settle_known s (record { blocks = put.blocks; longest = c.put.new.self; handed = put.handed; lines = put.lines; runs = put.runs; counted = put.counted; forgotten = false }) c.args.block c.args.lines c.args.longest t
    c.requires.block (ap (λ x. x.blocks) rest) (c.put.ensures ∙ ap (λ x. slice_set x.longest c.args.block c.args.longest) rest) c.put_lines.ensures.lines c.put_lines.ensures.runs (ap (λ x. x.handed) rest) (ap (λ x. x.counted) rest) refl known block counted
