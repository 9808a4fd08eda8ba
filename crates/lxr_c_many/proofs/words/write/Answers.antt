use Rattle.std.proofs.Common.{◌∙◌, ap, arith, refl, subst, sym}
use Rattle.lxr_c_many.specs.Fields.{found_reply, put_of}
use Rattle.lxr_c_many.specs.Following.{Follows, newest_first}
use Rattle.lxr_c_many.proofs.words.write.Goals as goal

pub write_all-requires-clause-base : goal.write_all-requires-clause-base
write_all-requires-clause-base c = let base = c.requires.base in let same = c.in-Ok.ensures.object.1 in omega (arith, base, same)

pub returns-in-Ok-clause-writes : goal.returns-in-Ok-clause-writes
returns-in-Ok-clause-writes c = λ h is. record {
  reply = sym (ap found_reply c.in-Ok.is) ∙ c.find_words.ensures.found h is;
  unchanged = λ no. absurd (no refl);
  follows = λ yes. subst (λ base. Follows c.args.heap.now h c.write_all.new.heap (newest_first (put_of base) c.args.first c.args.words.now)) c.in-Ok.ensures.object.1 (c.write_all.ensures.follows h is);
}

pub returns-in-Err-clause-writes : goal.returns-in-Err-clause-writes
returns-in-Err-clause-writes c = λ h is. record { reply = sym (ap found_reply c.in-Err.is) ∙ c.find_words.ensures.found h is; unchanged = λ no. refl; follows = λ yes. absurd (c.in-Err.ensures.refused yes) }
