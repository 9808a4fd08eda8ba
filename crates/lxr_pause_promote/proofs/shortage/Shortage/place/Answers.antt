use Rattle.std.proofs.Common.{◌≡◌, None, Option, Some, true}
use Rattle.std.specs.Option.{IfSome, is_some}
use Rattle.lxr_image.specs.declared.space.Space.{Space}
use Rattle.lxr_layout.specs.declared.Name.{Name}
use Rattle.lxr_layout.specs.declared.Place.{Place}
use Rattle.lxr_layout.specs.declared.Shape.{Shape}
use Rattle.lxr_layout.specs.Objects.{FitsShape}
use Rattle.lxr_blocks.specs.Placing.{IsPlaced, IsRest}
use Rattle.lxr_pause_promote.proofs.FewerLemmas.{HasFewerLines, placed_fewer, still_short}
use Rattle.lxr_pause_promote.proofs.shortage.Shortage.place.Goals as goal

-- where an object was placed, lines have become fewer
somewhere_fewer : (a b : Space) (n : Name) (s : Shape) (place : Option Place) → IsRest a → FitsShape s → is_some place ≡ true → IfSome place (λ p. IsPlaced a b n s p) → HasFewerLines a b
somewhere_fewer a b n s None rest fits some placed = absurd (cc)
somewhere_fewer a b n s (Some p) rest fits some placed = placed_fewer a b n s p rest fits placed

pub returns-else-is_none-clause-short : goal.returns-else-is_none-clause-short
returns-else-is_none-clause-short c =
    let fewer = somewhere_fewer c.args.space.now c.place_now-placed.new.space c.args.name c.args.shape c.place_now-placed.result c.requires.rest c.requires.shape c.if-is_none.ensures c.place_now-placed.ensures.placed in
    still_short c.args.space.now c.place_now-placed.new.space c.args.self.now fewer c.requires.short
