use Rattle.std.proofs.Common.{◌∙◌, ap, refl, sym, arith, length}
use mathlib.Core.Logic.{∥∥₁_elim, ∥∥₁_prop}
use Rattle.std.proofs.lemmas.Bool.{eqb-false, eqb-true}
use Rattle.lxr_large_model.specs.History.{large_state}
use Rattle.lxr_c_many.specs.Fields.{found_reply}
use Rattle.lxr_c_many.proofs.FieldLemmas.{references_there}
use Rattle.lxr_c_many.proofs.references.store.Goals as goal

pub pause_for_stores-requires-clause-there : goal.pause_for_stores-requires-clause-there
pause_for_stores-requires-clause-there c = λ h is. references_there (large_state h) c.args.base c.args.first (length c.args.sources.now) (sym (ap found_reply c.in-Ok.is) ∙ c.find_references.ensures.found h is.heap)

pub store_behind-requires-clause-ready : goal.store_behind-requires-clause-ready
store_behind-requires-clause-ready c = ∥∥₁_elim c.requires.serving.holds ∥∥₁_prop (λ of.
    let paused = c.pause_for_stores.ensures.pauses of.0 of.1 in
    ∣ (paused.history, paused.holds.heap, paused.ready) ∣₁)

pub returns-then-is_empty-clause-stores : goal.returns-then-is_empty-clause-stores
returns-then-is_empty-clause-stores c = λ h is.
    let empty = eqb-true (length c.args.sources.now) 0 (sym c.is_empty.ensures ∙ c.if-is_empty.true) in
    record { reply = sym (ap found_reply c.in-Ok.is) ∙ c.find_references.ensures.found h is.heap; unchanged = λ no. refl; none = λ same. refl; stores = λ yes some. absurd (omega (arith, empty, some)) }

pub returns-else-is_empty-clause-stores : goal.returns-else-is_empty-clause-stores
returns-else-is_empty-clause-stores c = λ h is.
    let paused = c.pause_for_stores.ensures.pauses h is in
    record {
      reply = sym (ap found_reply c.in-Ok.is) ∙ c.find_references.ensures.found h is.heap;
      unchanged = λ no. absurd (no refl);
      none = λ empty. absurd (eqb-false (length c.args.sources.now) 0 (sym c.is_empty.ensures ∙ c.if-is_empty.false) empty);
      stores = λ yes some. record {
        settled = paused.settled;
        settled_history = paused.settled_history;
        settles = paused.settles;
        paused = c.pause_for_stores.new.heap;
        paused_history = paused.history;
        pauses = paused.pauses;
        follows = c.store_behind.ensures.follows paused.history paused.holds.heap paused.ready;
      };
    }

pub returns-in-Err-clause-stores : goal.returns-in-Err-clause-stores
returns-in-Err-clause-stores c = λ h is. record { reply = sym (ap found_reply c.in-Err.is) ∙ c.find_references.ensures.found h is.heap; unchanged = λ no. refl; none = λ same. refl; stores = λ yes some. absurd (c.in-Err.ensures.refused yes) }
