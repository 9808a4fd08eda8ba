-- Replies told without names are as many, in the same order and of the same kinds; replies to a `new` are told whole.
use Rattle.std.proofs.Common.{◌≡◌, suc, ◌+◌, refl, sym, ap, ◌∙◌, Bool, true, false, List, [], ◌∷◌, ◌++◌, length, map}
use Rattle.std.specs.Prelude.{Option, Some, None, if◌then◌else◌}
use Rattle.std.specs.List.{count_by}
use Rattle.std.proofs.lemmas.List.{length-map, map-append}
use Rattle.std.proofs.lemmas.List.Sums.{sum_by-cons}
use Rattle.lxr_layout.specs.declared.Name.{Name}
use Rattle.lxr_graph.specs.declared.Reply.{Reply}
use Rattle.lxr_graph.specs.declared.Reply.TheVariants as reply
use Rattle.lxr_mutator.specs.Mutating.{is_asked_pause, is_collected, is_loaded, is_new, is_stored, tally_of}
use Rattle.lxr_mutator.specs.Naming.{all_told_as, blank, told_as}

-- ---- one reply

-- what has one value for all replies that tell what was loaded, and one for all that tell what was swapped out, is the same without the name
pub of_kind : {X : Type 0} (f : Reply → X) → ((a b : Option Name) → f (reply.Loaded a) ≡ f (reply.Loaded b)) → ((a b : Option Name) → f (reply.Swapped a) ≡ f (reply.Swapped b)) → (r : Reply) → f (blank r) ≡ f r
of_kind f loaded swapped (reply.New n) = refl
of_kind f loaded swapped reply.Full = refl
of_kind f loaded swapped (reply.Loaded None) = refl
of_kind f loaded swapped (reply.Loaded (Some n)) = loaded _ _
of_kind f loaded swapped reply.Stored = refl
of_kind f loaded swapped reply.Put = refl
of_kind f loaded swapped (reply.Got v) = refl
of_kind f loaded swapped (reply.Swapped None) = refl
of_kind f loaded swapped (reply.Swapped (Some n)) = swapped _ _
of_kind f loaded swapped (reply.Added v) = refl
of_kind f loaded swapped reply.Moved = refl
of_kind f loaded swapped reply.Cleared = refl
of_kind f loaded swapped (reply.Same v) = refl
of_kind f loaded swapped reply.Paused = refl
of_kind f loaded swapped reply.Collected = refl
of_kind f loaded swapped reply.Ended = refl
of_kind f loaded swapped reply.Bad = refl
of_kind f loaded swapped reply.Range = refl

-- so it is of the kinds that are counted or asked for
pub new_as : (r : Reply) → is_new (blank r) ≡ is_new r
new_as = of_kind is_new (λ a b. refl) (λ a b. refl)

pub loaded_as : (r : Reply) → is_loaded (blank r) ≡ is_loaded r
loaded_as = of_kind is_loaded (λ a b. refl) (λ a b. refl)

pub stored_as : (r : Reply) → is_stored (blank r) ≡ is_stored r
stored_as = of_kind is_stored (λ a b. refl) (λ a b. refl)

pub collected_as : (r : Reply) → is_collected (Some (blank r)) ≡ is_collected (Some r)
collected_as = of_kind (λ r. is_collected (Some r)) (λ a b. refl) (λ a b. refl)

pub asked_pause_as : (r : Reply) → is_asked_pause (Some (blank r)) ≡ is_asked_pause (Some r)
asked_pause_as = of_kind (λ r. is_asked_pause (Some r)) (λ a b. refl) (λ a b. refl)

pub told_asked : (b : Bool) (r : Reply) → is_asked_pause (Some (told_as b r)) ≡ is_asked_pause (Some r)
told_asked true r = refl
told_asked false r = asked_pause_as r

-- a name that is left out can't be left out again
pub blank_again : (r : Reply) → blank (blank r) ≡ blank r
blank_again (reply.New n) = refl
blank_again reply.Full = refl
blank_again (reply.Loaded None) = refl
blank_again (reply.Loaded (Some n)) = refl
blank_again reply.Stored = refl
blank_again reply.Put = refl
blank_again (reply.Got v) = refl
blank_again (reply.Swapped None) = refl
blank_again (reply.Swapped (Some n)) = refl
blank_again (reply.Added v) = refl
blank_again reply.Moved = refl
blank_again reply.Cleared = refl
blank_again (reply.Same v) = refl
blank_again reply.Paused = refl
blank_again reply.Collected = refl
blank_again reply.Ended = refl
blank_again reply.Bad = refl
blank_again reply.Range = refl

-- a reply that has no name to leave out is told whole
pub told_whole : (b : Bool) (r : Reply) → blank r ≡ r → told_as b r ≡ r
told_whole true r plain = refl
told_whole false r plain = plain

-- so is the name of a new object, and that there was no room for one
pub told_new : (b : Bool) (n : Name) → told_as b (reply.New n) ≡ reply.New n
told_new true n = refl
told_new false n = refl

pub told_full : (b : Bool) → told_as b reply.Full ≡ reply.Full
told_full true = refl
told_full false = refl

-- ---- replies

pub told_nothing : (b : Bool) → all_told_as b [] ≡ []
told_nothing true = refl
told_nothing false = refl

pub told_length : (b : Bool) (rs : List Reply) → length (all_told_as b rs) ≡ length rs
told_length true rs = refl
told_length false rs = length-map rs blank

-- with one more
pub told_more : (b : Bool) (rs : List Reply) (r : Reply) → all_told_as b (rs ++ r ∷ []) ≡ all_told_as b rs ++ told_as b r ∷ []
told_more true rs r = refl
told_more false rs r = map-append blank rs (r ∷ [])

-- where replies as they are told end with one, they end with one that is told so
pub record EndsTold (b : Bool) (rs xs : List Reply) (r : Reply) : Type 0 where
  pub front : List Reply
  pub last : Reply
  pub is : rs ≡ front ++ last ∷ []
  pub many : length front ≡ length xs
  pub told : told_as b last ≡ r

ends_blank : (rs xs : List Reply) (r : Reply) → map blank rs ≡ xs ++ r ∷ [] → EndsTold false rs xs r
ends_blank [] [] r e = absurd (cc)
ends_blank [] (x ∷ xs) r e = absurd (cc)
ends_blank (q ∷ []) [] r e = record { front = []; last = q; is = refl; many = refl; told = cc }
ends_blank (q ∷ p ∷ rs) [] r e = absurd (cc)
ends_blank (q ∷ rs) (x ∷ xs) r e =
    let rest = ends_blank rs xs r (cc) in record { front = q ∷ rest.front; last = rest.last; is = ap (λ z. q ∷ z) rest.is; many = ap suc rest.many; told = rest.told }

pub ends_told : (b : Bool) (rs xs : List Reply) (r : Reply) → all_told_as b rs ≡ xs ++ r ∷ [] → EndsTold b rs xs r
ends_told true rs xs r e = record { front = xs; last = r; is = e; many = refl; told = refl }
ends_told false rs xs r e = ends_blank rs xs r e

-- those of a kind are as many
count_as : (p : Reply → Bool) → ((r : Reply) → p (blank r) ≡ p r) → (rs : List Reply) → count_by p (map blank rs) ≡ count_by p rs
count_as p same [] = refl
count_as p same (r ∷ rs) =
    sum_by-cons (λ x. if p x then 1 else 0) (blank r) (map blank rs)
    ∙ ap (λ c. (if c then 1 else 0) + count_by p (map blank rs)) (same r)
    ∙ ap (λ n. (if p r then 1 else 0) + n) (count_as p same rs)
    ∙ sym (sum_by-cons (λ x. if p x then 1 else 0) r rs)

pub told_count : (p : Reply → Bool) → ((r : Reply) → p (blank r) ≡ p r) → (b : Bool) (rs : List Reply) → count_by p (all_told_as b rs) ≡ count_by p rs
told_count p same true rs = refl
told_count p same false rs = count_as p same rs

-- so are the new objects
pub told_news : (b : Bool) (rs : List Reply) → count_by is_new (all_told_as b rs) ≡ count_by is_new rs
told_news b rs = told_count is_new new_as b rs

-- and all that is counted of them
pub told_tally : (b : Bool) (rs : List Reply) → tally_of (all_told_as b rs) ≡ tally_of rs
told_tally b rs =
    let news = told_count is_new new_as b rs in
    let loads = told_count is_loaded loaded_as b rs in
    let stores = told_count is_stored stored_as b rs in
    λ j. record { news = news j; loads = loads j; stores = stores j }

-- names that are left out of all can't be left out again
pub told_again : (b : Bool) (rs : List Reply) → all_told_as b (all_told_as b rs) ≡ all_told_as b rs
told_again true rs = refl
told_again false rs = twice rs
  where
    twice : (rs : List Reply) → map blank (map blank rs) ≡ map blank rs
    twice [] = refl
    twice (r ∷ rs) = ap (λ x. x ∷ map blank (map blank rs)) (blank_again r) ∙ ap (λ xs. blank r ∷ xs) (twice rs)
