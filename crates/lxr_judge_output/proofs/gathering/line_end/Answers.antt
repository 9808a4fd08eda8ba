use Rattle.std.proofs.Common.{ap, ◌∙◌, arith, position, nat_eq, length, length-drop, drop, ◌-◌, List, ℕ}
use Rattle.std.proofs.lemmas.List.{take_all}
use Rattle.lxr_judge_output.proofs.gathering.line_end.Goals as goal

pub returns : goal.returns
returns c = c.first_feed.ensures ∙ ap (λ (xs : List ℕ). position (λ b. nat_eq b 10) xs) (take_all (length c.args.text.now - c.args.from) (drop c.args.from c.args.text.now) (simp length-drop (omega arith)))
