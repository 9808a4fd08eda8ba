use Rattle.lxr_image.proofs.OpeningLemmas.{laid_out, opened_is_image, opened_is_space, opened_stands_whole}
use Rattle.lxr_image.proofs.space.Space.open.Goals as goal

pub returns-clause-opened : goal.returns-clause-opened
returns-clause-opened c = laid_out c.in_ok-self.field-0 c.place_world.new.self c.list_blocks.new.self c.args.limits c.in_ok-self.ensures c.place_world.ensures c.list_blocks.ensures

pub returns-clause-space : goal.returns-clause-space
returns-clause-space c = opened_is_space c.list_blocks.new.self c.args.limits c.requires.limits
    (laid_out c.in_ok-self.field-0 c.place_world.new.self c.list_blocks.new.self c.args.limits c.in_ok-self.ensures c.place_world.ensures c.list_blocks.ensures)

pub returns-clause-image : goal.returns-clause-image
returns-clause-image c = opened_is_image c.list_blocks.new.self c.args.limits c.requires.limits
    (laid_out c.in_ok-self.field-0 c.place_world.new.self c.list_blocks.new.self c.args.limits c.in_ok-self.ensures c.place_world.ensures c.list_blocks.ensures)

pub returns-clause-starts : goal.returns-clause-starts
returns-clause-starts c = opened_stands_whole c.list_blocks.new.self (opened_is_image c.list_blocks.new.self c.args.limits c.requires.limits
    (laid_out c.in_ok-self.field-0 c.place_world.new.self c.list_blocks.new.self c.args.limits c.in_ok-self.ensures c.place_world.ensures c.list_blocks.ensures))
