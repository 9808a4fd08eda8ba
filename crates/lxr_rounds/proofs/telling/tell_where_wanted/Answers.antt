use Rattle.std.proofs.Common.{◌≡◌, ◌∙◌, false, sym, true}
use Rattle.lxr_rounds.proofs.telling.tell_where_wanted.Goals as goal

pub returns-then-wants_counts-clause-told : goal.returns-then-wants_counts-clause-told
returns-then-wants_counts-clause-told g c = λ wanted m at holds. c.tell_counts.ensures m at holds

pub returns-then-wants_counts-clause-quiet : goal.returns-then-wants_counts-clause-quiet
returns-then-wants_counts-clause-quiet g c = λ none. (let both : true ≡ false = sym c.if-wants_counts.true ∙ c.wants_counts.ensures.wants ∙ none in absurd (cc))

pub returns-then-wants_counts-clause-drains : goal.returns-then-wants_counts-clause-drains
returns-then-wants_counts-clause-drains g c = λ wanted. c.wants_counts.ensures.drains (c.wants_counts.ensures.wants ∙ wanted)

pub returns-then-wants_counts-clause-rest : goal.returns-then-wants_counts-clause-rest
returns-then-wants_counts-clause-rest g c = let (m, at, holds) = c.requires in (c.tell_counts.ensures m at holds).space
