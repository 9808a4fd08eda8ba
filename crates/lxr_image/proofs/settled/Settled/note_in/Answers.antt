use Rattle.lxr_image.proofs.settled.Settled.note_in.Goals as goal

pub returns-then-blocks-self-clause-knows : goal.returns-then-blocks-self-clause-knows
returns-then-blocks-self-clause-knows c t u k disturbs = c.forget.ensures.knows t u k
