-- What a look is replied, and what a store and a load leave: registers that hold what they held, and objects.
use Rattle.std.proofs.Common.{◌≡◌, ◌≢◌, ℕ, ◌+◌, ◌<◌, ◌≤◌, ◌∙◌, refl, sym, ap, arith, Option, Some, None, [], length, get_or}
use Rattle.std.specs.Prelude.{option_map, unwrap_or}
use Rattle.std.proofs.lemmas.List.{get_or-set_other}
use Rattle.lxr_layout.specs.declared.Name.{Name}
use Rattle.lxr_graph.specs.declared.Op.TheVariants as op
use Rattle.lxr_graph.specs.declared.Reply.{Reply}
use Rattle.lxr_graph.specs.declared.Reply.TheVariants as reply
use Rattle.lxr_graph.specs.State.{Object, State, object_at, register_at, register_index, values_of}
use Rattle.lxr_graph.specs.Step.{load_from, loaded, store_to, stored}
use Rattle.lxr_core_invariant.proofs.ReplyStepLemmas.{get_ok}
use Rattle.lxr_large_model.specs.declared.LargeOp.TheVariants as large_op
use Rattle.lxr_large_model.specs.declared.LargeReply.TheVariants as large_reply
use Rattle.lxr_large_model.specs.State.{LargeState}
use Rattle.lxr_large_model.specs.Step.{large_step}
use Rattle.lxr_c_many.specs.Fields.{word_at}
use Rattle.lxr_c_many.specs.Steps.{HasWords}

-- ---- replies

-- what has a field is an object
pub word_object : (f : Option Object) (i : ℕ) → i + 1 ≤ length (values_of f) → (o : Object) × (f ≡ Some o) × (i < length o.values)
word_object None i few = absurd (omega (arith, few))
word_object (Some o) i few = (o, refl, omega (arith, few))

pub get_replies : (s : LargeState) (base i : ℕ) → HasWords s base (i + 1) → (large_step s (large_op.Small (op.Get base i))).1 ≡ large_reply.Small (reply.Got (word_at s base i))
get_replies s base i has =
    let found = word_object (object_at s.small.graph has.name) i has.within in
    let same : get_or found.0.values i 0 ≡ word_at s base i =
    sym (ap (λ v. get_or (unwrap_or (option_map (λ n. values_of (object_at s.small.graph n)) v) []) i 0) has.held ∙ ap (λ f. get_or (values_of f) i 0) found.1) in
    ap (λ (p : State × Reply). large_reply.Small p.1) (get_ok s.small 1 base i has.name found.0 has.held found.1 found.2) ∙ ap (λ w. large_reply.Small (reply.Got w)) same

-- ---- a reference was stored

stored_registers : (s : State) (n : Name) (i : ℕ) (v : Option Name) (found : Option (Option Name)) → (stored s n i v found).0.registers ≡ s.registers
stored_registers s n i v None = refl
stored_registers s n i v (Some old) = refl

-- registers hold what they held
pub store_registers : (s : State) (i : ℕ) (v b : Option Name) → (store_to s i v b).0.registers ≡ s.registers
store_registers s i v None = refl
store_registers s i v (Some n) = stored_registers s n i v _

-- ---- a reference was loaded

loaded_graph : (s : State) (t dest : ℕ) (found : Option (Option Name)) → (loaded s t dest found).0.graph ≡ s.graph
loaded_graph s t dest None = refl
loaded_graph s t dest (Some v) = refl

-- objects stay
pub load_graph : (s : State) (t dest i : ℕ) (b : Option Name) → (load_from s t dest i b).0.graph ≡ s.graph
load_graph s t dest i None = refl
load_graph s t dest i (Some n) = loaded_graph s t dest _

loaded_register : (s : State) (dest other : ℕ) (found : Option (Option Name)) → other ≢ dest → register_at (loaded s 1 dest found).0 1 other ≡ register_at s 1 other
loaded_register s dest other None apart = refl
loaded_register s dest other (Some v) apart =
    let no : register_index 1 other ≢ register_index 1 dest = λ e. apart (omega (arith, e)) in
    get_or-set_other s.registers (register_index 1 dest) (register_index 1 other) v None no

-- and so does each other register
pub load_register : (s : State) (dest other i : ℕ) (b : Option Name) → other ≢ dest → register_at (load_from s 1 dest i b).0 1 other ≡ register_at s 1 other
load_register s dest other i None apart = refl
load_register s dest other i (Some n) apart = loaded_register s dest other _ apart
