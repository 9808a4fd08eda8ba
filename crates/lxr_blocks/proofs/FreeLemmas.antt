-- Blocks that are Free, while lines are handed out: they were Free, and none of their lines is out.
use Rattle.std.proofs.Common.{◌≡◌, ◌≢◌, ℕ, ◌+◌, ◌-◌, ◌*◌, ◌/◌, ◌<◌, sym, ap, subst, ◌∙◌, arith, false}
use Rattle.lxr_layout.specs.declared.TheConstants.{LINES_IN_BLOCK}
use Rattle.lxr_image.specs.Tables.{Tables}
use Rattle.lxr_blocks.specs.declared.states.BlockState.TheVariants.{Free}
use Rattle.lxr_blocks.specs.Lines.{is_free}
use Rattle.lxr_blocks.specs.States.{KeepsFree, state_by_lines, state_of}
use Rattle.lxr_blocks.proofs.LineLemmas.{taken_by_lines}

pub free_joined : (t u v : Tables) → KeepsFree t u → KeepsFree u v → KeepsFree t v
free_joined t u v first second b is =
    let later = second b is in
    let earlier = first b later.0 in (earlier.0, λ line of_b out. earlier.1 line of_b (later.1 line of_b out))

-- where states stay, and no line is out that wasn't
pub free_same : (t u : Tables) → u.states ≡ t.states → u.outs ≡ t.outs → KeepsFree t u
free_same t u states outs b is = (sym (ap (λ f. state_of (f b)) states) ∙ is, λ line of_b out. sym (ap (λ f. f line) outs) ∙ out)

-- the block of a line that isn't free isn't Free by its lines
pub used_by_lines : (t : Tables) (line : ℕ) → is_free t line ≡ false → state_by_lines t (line / LINES_IN_BLOCK) ≢ Free
used_by_lines t line taken = taken_by_lines t (line / LINES_IN_BLOCK) (line - LINES_IN_BLOCK * (line / LINES_IN_BLOCK)) (within line) (subst (λ z. is_free t z ≡ false) (back line) taken)
  where
    within : (l : ℕ) → l - LINES_IN_BLOCK * (l / LINES_IN_BLOCK) < LINES_IN_BLOCK
    within l = omega arith

    back : (l : ℕ) → l ≡ LINES_IN_BLOCK * (l / LINES_IN_BLOCK) + (l - LINES_IN_BLOCK * (l / LINES_IN_BLOCK))
    back l = omega arith
