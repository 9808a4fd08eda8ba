use Rattle.std.proofs.Common.{◌∙◌, ap, arith, refl, subst, sym}
use Rattle.std.specs.Prelude.{IsTrue}
use Rattle.lxr_large_model.specs.History.{large_state}
use Rattle.lxr_c_many.specs.Fields.{found_reply, leave_base, load_of}
use Rattle.lxr_c_many.specs.Following.{Follows, newest_first}
use Rattle.lxr_c_many.proofs.references.load.Goals as goal

pub load_all-requires-clause-base : goal.load_all-requires-clause-base
load_all-requires-clause-base c = let base = c.requires.base in let same = c.in-Ok.ensures.object.1 in omega (arith, base, same)

pub load_all-requires-clause-apart : goal.load_all-requires-clause-apart
load_all-requires-clause-apart c = subst (λ base. IsTrue (leave_base base c.args.targets.now)) (sym c.in-Ok.ensures.object.1) c.requires.apart

pub returns-in-Ok-clause-loads : goal.returns-in-Ok-clause-loads
returns-in-Ok-clause-loads c = λ h is. record {
  reply = sym (ap found_reply c.in-Ok.is) ∙ c.find_references.ensures.found h is;
  unchanged = λ no. absurd (no refl);
  follows = λ yes. subst (λ base. Follows c.args.heap.now h c.load_all.new.heap (newest_first (load_of (large_state h) base) c.args.first c.args.targets.now)) c.in-Ok.ensures.object.1 (c.load_all.ensures.follows h is);
}

pub returns-in-Err-clause-loads : goal.returns-in-Err-clause-loads
returns-in-Err-clause-loads c = λ h is. record { reply = sym (ap found_reply c.in-Err.is) ∙ c.find_references.ensures.found h is; unchanged = λ no. refl; follows = λ yes. absurd (c.in-Err.ensures.refused yes) }
