-- What one call more changes of what a history says of a thread, and what it leaves as it is.
use Rattle.std.proofs.Common.{◌≡◌, ◌≢◌, ℕ, suc, ◌+◌, refl, ap, ◌∙◌, inl, inr, List, [], ◌∷◌, ◌++◌, IsTrue, take}
use Rattle.std.specs.Prelude.{Some, slice_get, ◌||◌, ◌&&◌, if◌then◌else◌}
use Rattle.std.proofs.lemmas.List.{take_more}
use Rattle.std.proofs.lemmas.Option.{slice_get_within, get_or_from_slice_get}
use Rattle.lxr_layout.specs.declared.Name.{Name}
use Rattle.lxr_graph.specs.declared.Op.{Op}
use Rattle.lxr_graph.specs.declared.Reply.{Reply}
use Rattle.lxr_graph.specs.Names.{has}
use Rattle.lxr_graph.specs.History.{Call, Item, calls_of, replies_of}
use Rattle.lxr_model.specs.Belongs.{asks_for_pause, calls_since_pause, has_asked}
use Rattle.lxr_model.specs.Moments.{Moment, after_call, made_after}
use Rattle.lxr_model.proofs.HistoryLemmas.{made_old}
use Rattle.lxr_invariant.specs.AbstractState.{members}
use Rattle.lxr_invariant.proofs.NameLemmas.{in_either, in_first, in_second}
use Rattle.lxr_invariant.proofs.EntryLemmas.{same_number, unlike_number}

-- two histories say the same of a thread
pub record SaySame (t : ℕ) (h k : List Item) : Type 0 where
  pub calls : calls_of t k ≡ calls_of t h
  pub replies : replies_of t k ≡ replies_of t h
  pub since : calls_since_pause t k ≡ calls_since_pause t h
  pub asked : has_asked t k ≡ has_asked t h

-- a history says the same as itself
pub says_same : (t : ℕ) (h : List Item) → SaySame t h h
says_same t h = record { calls = refl; replies = refl; since = refl; asked = refl }

-- a call of another thread changes nothing of what is said of a thread
pub other_call : (t u : ℕ) (o : Op) (r : Reply) (h : List Item) → t ≢ u → SaySame t h (Call u o r ∷ h)
other_call t u o r h differ =
    let unlike = unlike_number t u differ in
    record {
      calls = ap (λ b. if b then calls_of t h ++ o ∷ [] else calls_of t h) unlike;
      replies = ap (λ b. if b then replies_of t h ++ r ∷ [] else replies_of t h) unlike;
      since = ap (λ b. if b then suc (calls_since_pause t h) else calls_since_pause t h) unlike;
      asked = ap (λ b. (b && asks_for_pause o) || has_asked t h) unlike;
    }

-- what a call of the thread itself adds
pub own_calls : (t : ℕ) (o : Op) (r : Reply) (h : List Item) → calls_of t (Call t o r ∷ h) ≡ calls_of t h ++ o ∷ []
own_calls t o r h = ap (λ b. if b then calls_of t h ++ o ∷ [] else calls_of t h) (same_number t t refl)

-- its reply
pub own_replies : (t : ℕ) (o : Op) (r : Reply) (h : List Item) → replies_of t (Call t o r ∷ h) ≡ replies_of t h ++ r ∷ []
own_replies t o r h = ap (λ b. if b then replies_of t h ++ r ∷ [] else replies_of t h) (same_number t t refl)

-- and that it had one call more since the pause
pub own_since : (t : ℕ) (o : Op) (r : Reply) (h : List Item) → calls_since_pause t (Call t o r ∷ h) ≡ suc (calls_since_pause t h)
own_since t o r h = ap (λ b. if b then suc (calls_since_pause t h) else calls_since_pause t h) (same_number t t refl)

-- and whether it asks for a pause
pub own_asked : (t : ℕ) (o : Op) (r : Reply) (h : List Item) → has_asked t (Call t o r ∷ h) ≡ (asks_for_pause o || has_asked t h)
own_asked t o r h = ap (λ b. (b && asks_for_pause o) || has_asked t h) (same_number t t refl)

-- members stay over a call
pub members_stay : (m : Moment) (t : ℕ) (o : Op) (r : Reply) (n : Name) → IsTrue (has (members m) n) → IsTrue (has (members (after_call m t o r)) n)
members_stay m t o r n member = elim (in_either m.unreclaimed m.made n member) [
  | inl kept ↦ in_first m.unreclaimed (made_after m.made r) n kept
  | inr made ↦ in_second m.unreclaimed (made_after m.made r) n (made_old m.made r n made)
]

-- one operation more of a list
pub take_next : (os : List Op) (k : ℕ) (o : Op) → slice_get os k ≡ Some o → take (k + 1) os ≡ take k os ++ o ∷ []
take_next os k o e = take_more os k o (slice_get_within os k o e) ∙ ap (λ z. take k os ++ z ∷ []) (get_or_from_slice_get os k o o e)
