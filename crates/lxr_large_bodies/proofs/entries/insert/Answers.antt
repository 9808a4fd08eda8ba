use Rattle.std.proofs.Common.{◌≡◌, ◌∙◌, refl, cond, List, Result, Ok, Err}
use Rattle.std.specs.Result.{IsOk, is_ok}
use Rattle.lxr_large_bodies.specs.declared.entries.Entry.{Entry}
use Rattle.lxr_large_bodies.proofs.Sorted.{inserted_at}
use Rattle.lxr_large_bodies.proofs.entries.insert.Goals as goal

done : {T E : Type 0} (r : Result T E) (xs ys : List Entry) → IsOk r → cond (is_ok r) xs ys ≡ xs
done (Ok x) xs ys ok = refl
done (Err e) xs ys ok = cc

pub returns-clause-items : goal.returns-clause-items
returns-clause-items c = rw (inserted_at c.args.entries.now.items c.args.entry c.position-at.result (rw c.deref.ensures.value at c.position-at.ensures.bound))
    (c.insert-done.ensures.items ∙ done c.insert-done.result _ _ (c.insert-done.ensures.succeeds c.requires.room))
