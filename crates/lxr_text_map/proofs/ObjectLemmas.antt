-- Granules at which no object begins add no line, so the lines of objects grow from one object to the next.
use Rattle.std.proofs.Common.{◌≡◌, ℕ, ◌+◌, ◌*◌, ◌≤◌, sym, ap, subst, ◌∙◌, List, [], ◌++◌, IsTrue, cond}
use Rattle.std.specs.Prelude.{Option}
use Rattle.lxr_layout.specs.declared.Header.TheVariants.{Moved}
use Rattle.lxr_layout.specs.declared.Place.{Place}
use Rattle.lxr_layout.specs.Objects.{header_of}
use Rattle.lxr_image.specs.Reads.{StartsStandWhole}
use Rattle.lxr_image.specs.Tables.{Tables}
use Rattle.lxr_image.proofs.ReadLemmas.{header_unpacked}
use Rattle.lxr_image_search.specs.declared.Wanted.TheVariants as wanted
use Rattle.lxr_image_search.specs.Search.{IsNextWanted, NoneWanted}
use Rattle.lxr_text_print.specs.Pages.{Moves}
use Rattle.lxr_text_map.specs.Map.{granule_text, object_line, objects_text}
use Rattle.lxr_text_map.proofs.JoinedLemmas.{Moves-piece, joined_stays}

-- no moved object stands at a start bit
pub none_moved : (t : Tables) (blocks g : ℕ) (to : Place) → StartsStandWhole t blocks → IsTrue (t.starts g) → header_of (t.heap (2 * g)) ≡ Moved to → ⊥
none_moved t blocks g to stand begins moved =
    let there = stand g begins in
    let whole = there.2 in
    let told = ap header_of whole.header ∙ header_unpacked there.0 there.1 whole.name whole.shape in
    cc

-- nothing is added where no object begins
pub none_added : (t : Tables) (from end : ℕ) → from ≤ end → NoneWanted t wanted.Object from end → objects_text t end ≡ objects_text t from
none_added t from end past none =
    joined_stays (granule_text t) from end past
    (λ g above below. ap (λ b. cond b (object_line (g + 1) (header_of (t.heap (2 * g)))) []) (none g above below))

-- the next object's line was pushed behind those so far
pub Moves-object : {u v w : Option (List ℕ)} {p q r : List ℕ} (page : List ℕ) (t : Tables) (from end granule : ℕ) → IsNextWanted t wanted.Object from end granule →
    Moves u v (page ++ objects_text t from) p → Moves v w p q → r ≡ q ++ object_line (granule + 1) (header_of (t.heap (2 * granule))) →
    Moves u w (page ++ objects_text t (granule + 1)) r
Moves-object {u = u} {v = v} {p = p} {q = q} page t from end granule next a b e =
    let here : Moves u v (page ++ objects_text t granule) p = subst (λ x. Moves u v (page ++ x) p) (sym (none_added t from granule next.reached next.passed)) a in
    let text : object_line (granule + 1) (header_of (t.heap (2 * granule))) ≡ granule_text t granule =
    ap (λ b. cond b (object_line (granule + 1) (header_of (t.heap (2 * granule)))) []) (sym next.is) in
    Moves-piece page (granule_text t) granule here b (e ∙ ap (λ x. q ++ x) text)
