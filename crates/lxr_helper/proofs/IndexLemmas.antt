-- The regions of the largest space have few enough words.
use Rattle.std.proofs.Common.{◌+◌, ◌*◌, ◌≤◌, mul-le-mul, arith}
use Rattle.lxr_layout.specs.declared.limits.Limits.{Limits}
use Rattle.lxr_layout.specs.Spaces.{AreLimits}
use Rattle.lxr_helper.specs.Indexes.{SpacesHaveIndexes}

-- the list of decrements has few words
few_listed : (l : Limits) → AreLimits l → l.threads * (l.log + l.registers) ≤ 255 * 65792
few_listed l are =
    let threads : l.threads ≤ 255 = omega arith in
    let log = are.log.1 in
    let registers = are.registers.1 in
    let entries : l.log + l.registers ≤ 65792 = omega (arith, log, registers) in
    mul-le-mul threads entries

pub have_indexes : SpacesHaveIndexes
have_indexes l are = record {
  size = omega arith;
  heap = omega arith;
  counts = omega arith;
  starts = omega arith;
  marks = omega arith;
  grays = omega arith;
  dones = omega arith;
  reuse = omega arith;
  states = omega arith;
  decs = omega arith;
  remembered = omega arith;
  cursors = omega (arith, few_listed l are);
}
