-- The texts in the order in which they are pushed: lists of names and of lines, item by item.
use Rattle.std.proofs.Common.{◌≡◌, ℕ, ◌+◌, ◌<◌, ◌≤◌, sym, ap, ◌∙◌, List, [], ◌∷◌, ◌++◌, length, get_or, take, drop, append_assoc, arith, codes, decimal}
use Rattle.std.specs.Prelude.{flat_map, map}
use Rattle.std.specs.List.{join_with_byte, zip}
use Rattle.std.proofs.lemmas.Slice.Zip.{get_or-zip, length-zip}
use Rattle.std.proofs.lemmas.List.{take-append-drop, take_all, take_more, append-nil}
use Rattle.std.proofs.lemmas.List.Concat.{flat_map-append}
use Rattle.std.specs.Prelude.{Option}
use Rattle.lxr_layout.specs.declared.Name.{Name}
use Rattle.lxr_graph.specs.declared.Op.{Op}
use Rattle.lxr_graph.specs.declared.Reply.{Reply}
use Rattle.lxr_text_stream.proofs.StreamLemmas.{AppendsFront-before}
use Rattle.lxr_text_print.specs.Replies.{call_text}
use Rattle.lxr_text_stream.specs.Streams.{AppendsFront}
use Rattle.lxr_text_print.specs.Pages.{Moves}
use Rattle.lxr_text_print.proofs.PageLemmas.{AppendsFront-moved, AppendsFront-part, Moves-then, Moves-push}
use Rattle.lxr_text_print.specs.Lines.{name_text, space, spaced_name, words}
use Rattle.lxr_text_print.specs.Reports.{names_text}

-- one item more
pub flat_map-take_more : {X : Type 0} (f : X → List ℕ) (xs : List X) (i : ℕ) (d : X) → i < length xs →
    flat_map f (take (i + 1) xs) ≡ flat_map f (take i xs) ++ f (get_or xs i d)
flat_map-take_more f xs i d h =
    ap (flat_map f) (take_more xs i d h) ∙ flat_map-append f (take i xs) (get_or xs i d ∷ []) ∙ ap (λ y. flat_map f (take i xs) ++ y) (append-nil (f (get_or xs i d)))

-- the items so far, and the rest of them
pub flat_map-take_drop : {X : Type 0} (f : X → List ℕ) (xs : List X) (i : ℕ) →
    flat_map f xs ≡ flat_map f (take i xs) ++ flat_map f (drop i xs)
flat_map-take_drop f xs i = ap (flat_map f) (sym (take-append-drop i xs)) ∙ flat_map-append f (take i xs) (drop i xs)

-- words one after another, each with the space before it
pub join-map : {X : Type 0} (f : X → List ℕ) (x : List ℕ) (ys : List X) →
    join_with_byte space (x ∷ map f ys) ≡ x ++ flat_map (λ y. codes " " ++ f y) ys
join-map f x [] = sym (append-nil x)
join-map f x (y ∷ ys) = ap (λ z. x ++ (space ∷ z)) (join-map f (f y) ys)

-- the front of a line of names: its label, and how many follow
abbrev pub names_front : List ℕ → ℕ → List ℕ
names_front label n = words (label ∷ decimal n ∷ [])

-- a line of names as it is pushed: its front, and name by name
pub names_text-is : (label : List ℕ) (names : List Name) →
    names_text label names ≡ (names_front label (length names) ++ flat_map spaced_name names) ++ codes "\n"
unfolding names_text
names_text-is label names = ap (λ y. (label ++ (space ∷ y)) ++ codes "\n") (join-map name_text (decimal (length names)) names) ∙ simp append_assoc

-- the names so far, and the rest of the line
pub names_text-split : (label : List ℕ) (names : List Name) (i : ℕ) →
    names_text label names ≡ (names_front label (length names) ++ flat_map spaced_name (take i names)) ++ (flat_map spaced_name (drop i names) ++ codes "\n")
names_text-split label names i = names_text-is label names ∙ rw (flat_map-take_drop spaced_name names i) (simp append_assoc)

-- one item more was pushed behind the items so far
pub Moves-item : {X : Type 0} {u v w : Option (List ℕ)} {p q r : List ℕ} (t : List ℕ) (f : X → List ℕ) (xs : List X) (i : ℕ) (d : X) → i < length xs →
    Moves u v (t ++ flat_map f (take i xs)) p → Moves v w p q → r ≡ q ++ f (get_or xs i d) → Moves u w (t ++ flat_map f (take (i + 1) xs)) r
Moves-item t f xs i d h a b e = rw (e, flat_map-take_more f xs i d h, ← append_assoc t (flat_map f (take i xs)) (f (get_or xs i d))) (Moves-push (f (get_or xs i d)) (Moves-then a b))

-- the items so far were moved, and a call stopped within the page
pub AppendsFront-items : {X : Type 0} {u v w : Option (List ℕ)} {p : List ℕ} (t : List ℕ) (f : X → List ℕ) (xs : List X) (i : ℕ) →
    Moves u v (t ++ flat_map f (take i xs)) p → AppendsFront v w p → AppendsFront u w (t ++ flat_map f xs)
AppendsFront-items t f xs i a b = AppendsFront-part _ _ t (flat_map f (take i xs)) (flat_map f (drop i xs)) (flat_map f xs) (flat_map-take_drop f xs i) (AppendsFront-moved a b)

-- all items were moved
pub Moves-items : {X : Type 0} {u v : Option (List ℕ)} {p : List ℕ} (t : List ℕ) (f : X → List ℕ) (xs : List X) (i : ℕ) → length xs ≤ i →
    Moves u v (t ++ flat_map f (take i xs)) p → Moves u v (t ++ flat_map f xs) p
Moves-items t f xs i h a = rw (take_all i xs h) at a

-- one call more was pushed behind the calls so far
pub Moves-call : {u v w : Option (List ℕ)} {p q r : List ℕ} (t : List ℕ) (os : List Op) (rs : List Reply) (i : ℕ) (d : Op) (e : Reply) → i < length os → i < length rs →
    Moves u v (t ++ flat_map (λ x. call_text x.0 x.1) (take i (zip os rs))) p → Moves v w p q → r ≡ q ++ call_text (get_or os i d) (get_or rs i e) →
    Moves u w (t ++ flat_map (λ x. call_text x.0 x.1) (take (i + 1) (zip os rs))) r
Moves-call {q = q} t os rs i d e h k a b pushed =
    let f : Op × Reply → List ℕ = λ x. call_text x.0 x.1 in
    let at : get_or (zip os rs) i (d, e) ≡ (get_or os i d, get_or rs i e) = get_or-zip os rs i (d, e) h k in
    Moves-item t f (zip os rs) i (d, e) (omega (arith, length-zip os rs)) a b (pushed ∙ ap (λ x. q ++ f x) (sym at))

-- pieces put behind a text, one after another
abbrev pub with_pieces : List ℕ → List (List ℕ) → List ℕ
with_pieces t [] = t
with_pieces t (x ∷ xs) = with_pieces (t ++ x) xs

-- a prefix of a text is a prefix of the text with more pieces
pub AppendsFront-pieces : (u w : Option (List ℕ)) (t : List ℕ) (xs : List (List ℕ)) → AppendsFront u w t → AppendsFront u w (with_pieces t xs)
AppendsFront-pieces u w t [] a = a
AppendsFront-pieces u w t (x ∷ xs) a = AppendsFront-pieces u w (t ++ x) xs (AppendsFront-before u w t x a)
