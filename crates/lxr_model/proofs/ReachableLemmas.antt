-- Each least set is within every set that obeys its rules, and the dead are apart from the reachable: whoever makes a
-- dead name reachable would be dead too.
use Rattle.std.proofs.Common.{◌≡◌, false, List, IsTrue}
use Rattle.lxr_layout.specs.declared.Name.{Name}
use Rattle.lxr_graph.specs.Names.{has}
use Rattle.lxr_graph.specs.State.{State, world_name}
use Rattle.lxr_graph.proofs.NameSets.{not_both}
use Rattle.lxr_model.specs.Reachable.{Holds, Refers, the_world, held, referred}
use Rattle.lxr_model.specs.Dead.{Dead, dead, Promoted, by_register, by_kept, by_promoted}
use Rattle.lxr_model.specs.Laws.{ReachableIsLeast, DeadIsLeast, PromotedIsLeast, DeadAreUnreachable}

pub reachable_within : ReachableIsLeast
reachable_within s p c n the_world = c.world
reachable_within s p c n (held h) = c.registers n h
reachable_within s p c n (referred {m = m} r f) = c.references m n (reachable_within s p c m r) f

pub dead_within : DeadIsLeast
dead_within s us stuck p c o (dead member unstuck unheld each) = c o member unstuck unheld (λ u h f. dead_within s us stuck p c u (each u h f))

pub promoted_within : PromotedIsLeast
promoted_within s kept made p c n (by_register q h) = c.registers n q h
promoted_within s kept made p c n (by_kept u q k f) = c.members u n q k f
promoted_within s kept made p c n (by_promoted {m = m} q r f) = c.promoted m n q (promoted_within s kept made p c m r) f

-- what was promoted was made since the last pause
pub promoted_made : {s : State} {kept made : List Name} {n : Name} → Promoted s kept made n → IsTrue (has made n)
promoted_made (by_register q h) = q
promoted_made (by_kept u q k f) = q
promoted_made (by_promoted q r f) = q

-- what a dead name comes with
pub record DeadParts (s : State) (us stuck : List Name) (o : Name) : Type 0 where
  pub member : IsTrue (has us o)
  pub unstuck : has stuck o ≡ false
  pub unheld : Holds s o → ⊥
  pub each : (u : Name) → IsTrue (has us u) → Refers s.graph u o → Dead s us stuck u

pub dead_parts : {s : State} {us stuck : List Name} {o : Name} → Dead s us stuck o → DeadParts s us stuck o
dead_parts (dead member unstuck unheld each) = record { member = member; unstuck = unstuck; unheld = unheld; each = each }

pub dead_apart : DeadAreUnreachable
dead_apart s us stuck within ws o d the_world = not_both (has stuck world_name) ws (dead_parts d).unstuck
dead_apart s us stuck within ws o d (held h) = (dead_parts d).unheld h
dead_apart s us stuck within ws o d (referred {m = m} r f) = dead_apart s us stuck within ws m ((dead_parts d).each m (within m r) f) r
