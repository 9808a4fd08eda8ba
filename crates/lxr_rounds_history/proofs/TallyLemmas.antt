-- What the numbers of a history are, and what they are within.
use Rattle.std.proofs.Common.{◌≡◌, ℕ, ◌+◌, ◌*◌, ◌≤◌, refl, sym, ap, ◌∙◌, arith, Bool, true, false, List, [], ◌∷◌, length}
use Rattle.std.specs.Prelude.{Option, Some, None, if◌then◌else◌}
use Rattle.std.specs.List.{list_any}
use Rattle.lxr_layout.specs.declared.Name.{Name}
use Rattle.lxr_graph.specs.declared.Op.{Op}
use Rattle.lxr_graph.specs.declared.Op.TheVariants as op
use Rattle.lxr_graph.specs.declared.Reply.{Reply}
use Rattle.lxr_graph.specs.declared.Reply.TheVariants as reply
use Rattle.lxr_graph.specs.History.{Item, Call, Pause, Renew}
use Rattle.lxr_graph.specs.Names.{has}
use Rattle.lxr_graph.specs.State.{register_at}
use Rattle.lxr_image.specs.declared.space.Tally.{Tally}
use Rattle.lxr_model.specs.Legal.{IsLegalSoFar}
use Rattle.lxr_model.specs.Moments.{Field, Moment, moment, same_field, with_field, written_after, written_with}
use Rattle.lxr_model.specs.Terms.{Terms}
use Rattle.lxr_mutator.specs.Mutating.{is_loaded, is_new, is_stored}
use Rattle.lxr_rounds_history.specs.Tally.{HasNumbersOf, counted, tally_of}
use Rattle.lxr_rounds_history.proofs.ThreadSums.{counted_in, one, replied}

-- a tally that has all numbers of a history but how many objects were moved and kept
pub has_numbers : (threads : ℕ) (h : List Item) (tally : Tally) (moved kept : ℕ) → tally ≡ record (tally_of threads h) { moved = moved; kept = kept } → HasNumbersOf threads h tally
has_numbers threads h tally moved kept is = is ∙ ap (λ (t : Tally). record (tally_of threads h) { moved = t.moved; kept = t.kept }) (sym is)

-- ---- kinds of replies

-- each number grows by the replies of its kind
news_grow : (t : Tally) (r : Reply) → (counted t r).news ≡ t.news + (if is_new r then 1 else 0)
news_grow t (reply.New n) = refl
news_grow t r = omega arith

loads_grow : (t : Tally) (r : Reply) → (counted t r).loads ≡ t.loads + (if is_loaded r then 1 else 0)
loads_grow t (reply.Loaded v) = refl
loads_grow t (reply.Swapped v) = refl
loads_grow t r = omega arith

stores_grow : (t : Tally) (r : Reply) → (counted t r).stores ≡ t.stores + (if is_stored r then 1 else 0)
stores_grow t reply.Stored = refl
stores_grow t (reply.Swapped v) = refl
stores_grow t r = omega arith

-- the numbers are those of the replies of each kind
pub news_are : (threads : ℕ) (h : List Item) → (tally_of threads h).news ≡ counted_in (replied is_new) h
news_are threads [] = refl
news_are threads (Renew ns ∷ h) = refl
news_are threads (Pause report ∷ h) = news_are threads h
news_are threads (Call t o r ∷ h) = news_grow (tally_of threads h) r ∙ ap (λ n. n + (if is_new r then 1 else 0)) (news_are threads h)

pub loads_are : (threads : ℕ) (h : List Item) → (tally_of threads h).loads ≡ counted_in (replied is_loaded) h
loads_are threads [] = refl
loads_are threads (Renew ns ∷ h) = refl
loads_are threads (Pause report ∷ h) = loads_are threads h
loads_are threads (Call t o r ∷ h) = loads_grow (tally_of threads h) r ∙ ap (λ n. n + (if is_loaded r then 1 else 0)) (loads_are threads h)

pub stores_are : (threads : ℕ) (h : List Item) → (tally_of threads h).stores ≡ counted_in (replied is_stored) h
stores_are threads [] = refl
stores_are threads (Renew ns ∷ h) = refl
stores_are threads (Pause report ∷ h) = stores_are threads h
stores_are threads (Call t o r ∷ h) = stores_grow (tally_of threads h) r ∙ ap (λ n. n + (if is_stored r then 1 else 0)) (stores_are threads h)

-- ---- bounds

-- one reply counts for two numbers at most
tally_few : (t : Tally) (r : Reply) → (counted t r).news + (counted t r).loads + (counted t r).stores ≤ t.news + t.loads + t.stores + 2
tally_few t (reply.New n) = omega arith
tally_few t (reply.Loaded v) = omega arith
tally_few t reply.Stored = omega arith
tally_few t (reply.Swapped v) = omega arith
tally_few t r = omega arith

-- so they are within twice the number of calls
pub replies_few : (threads : ℕ) (h : List Item) → (tally_of threads h).news + (tally_of threads h).loads + (tally_of threads h).stores ≤ 2 * counted_in one h
replies_few threads [] = omega arith
replies_few threads (Renew ns ∷ h) = omega arith
replies_few threads (Pause report ∷ h) = replies_few threads h
replies_few threads (Call t o r ∷ h) = let few = replies_few threads h in let more = tally_few (tally_of threads h) r in omega arith

-- a call leaves the number of pauses, and what was logged before them
pub pauses_stay : (t : Tally) (r : Reply) → (counted t r).pauses ≡ t.pauses
pauses_stay t (reply.New n) = refl
pauses_stay t (reply.Loaded v) = refl
pauses_stay t reply.Stored = refl
pauses_stay t (reply.Swapped v) = refl
pauses_stay t r = refl

pub logs_stay : (t : Tally) (r : Reply) → (counted t r).logs ≡ t.logs
logs_stay t (reply.New n) = refl
logs_stay t (reply.Loaded v) = refl
logs_stay t reply.Stored = refl
logs_stay t (reply.Swapped v) = refl
logs_stay t r = refl

-- pauses are numbered from 1
pub pauses_are : (terms : Terms) (h : List Item) → IsLegalSoFar terms h → (tally_of terms.threads h).pauses ≡ (moment terms.threads h).number
pauses_are terms [] legal = refl
pauses_are terms (Renew ns ∷ h) legal = refl
pauses_are terms (Call t o r ∷ h) legal = pauses_stay (tally_of terms.threads h) r ∙ pauses_are terms h legal.0
pauses_are terms (Pause report ∷ h) legal =
    let (parts, is) = legal.2.reports in
    ap (λ n. n + 1) (pauses_are terms h legal.0) ∙ sym is.number

-- ---- logs

-- a field joins the written ones once
chosen_few : (b : Bool) (ws : List Field) (w : Field) → length (if b then ws else w ∷ ws) ≤ length ws + 1
chosen_few true ws w = omega arith
chosen_few false ws w = omega arith

field_few : (ws : List Field) (w : Field) → length (with_field ws w) ≤ length ws + 1
field_few ws w = chosen_few (list_any (same_field w) ws) ws w

member_few : (b : Bool) (ws : List Field) (w : Field) → length (if b then with_field ws w else ws) ≤ length ws + 1
member_few true ws w = field_few ws w
member_few false ws w = omega arith

with_few : (us : List Name) (ws : List Field) (n : Option Name) (i : ℕ) → length (written_with us ws n i) ≤ length ws + 1
with_few us ws None i = omega arith
with_few us ws (Some n) i = member_few (has us n) ws (n, i)

-- stores do not become fewer
stores_not_fewer : (t : Tally) (r : Reply) → t.stores ≤ (counted t r).stores
stores_not_fewer t r = let e = stores_grow t r in omega arith

-- a call writes a field only where it counts as a store
written_few : (t : Tally) (m : Moment) (thread : ℕ) (o : Op) (r : Reply) → length (written_after m thread o r) + t.stores ≤ length m.written + (counted t r).stores
written_few t m thread (op.Store base index source) reply.Stored = let few = with_few m.unreclaimed m.written (register_at m.state thread base) index in omega arith
written_few t m thread (op.Swap dest base index source) (reply.Swapped old) = let few = with_few m.unreclaimed m.written (register_at m.state thread base) index in omega arith
written_few t m thread (op.Store base index source) r = let more = stores_not_fewer t r in omega arith
written_few t m thread o r = let more = stores_not_fewer t r in omega arith

-- all that was logged was stored
pub logs_few : (threads : ℕ) (h : List Item) → (tally_of threads h).logs + length (moment threads h).written ≤ (tally_of threads h).stores
logs_few threads [] = omega arith
logs_few threads (Renew ns ∷ h) = omega arith
logs_few threads (Pause report ∷ h) = let few = logs_few threads h in omega arith
logs_few threads (Call t o r ∷ h) =
    let few = logs_few threads h in
    let more = written_few (tally_of threads h) (moment threads h) t o r in
    let same = logs_stay (tally_of threads h) r in
    omega arith
