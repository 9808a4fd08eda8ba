-- Text that moves to a sink by way of a page: what is pushed behind, what is sent, what is left after an error.
use Rattle.std.proofs.Common.{◌≡◌, ℕ, refl, sym, ap, ◌∙◌, List, [], ◌++◌, append_assoc}
use Rattle.std.specs.Prelude.{Option, Result, Ok, Err, OnErr}
use Rattle.lxr_text_stream.specs.Streams.{Appends, AppendsFront}
use Rattle.lxr_text_stream.proofs.StreamLemmas.{Appends-nil, Appends-append, AppendsFront-after, AppendsFront-before}
use Rattle.lxr_text_print.specs.Pages.{Moves}

-- nothing was sent
pub Moves-none : (w : Option (List ℕ)) (t : List ℕ) → Moves w w t t
Moves-none w t = record { sent = []; written = Appends-nil w; in_order = refl }

pub Moves-then : {u v w : Option (List ℕ)} {t p q : List ℕ} → Moves u v t p → Moves v w p q → Moves u w t q
Moves-then {u} {v} {w} {t} {p} {q} a b = record {
  sent = a.sent ++ b.sent;
  written = Appends-append u v w a.sent b.sent a.written b.written;
  in_order = a.in_order ∙ ap (λ x. a.sent ++ x) b.in_order ∙ sym (append_assoc a.sent b.sent q);
}

-- more text waits behind what waits
pub Moves-push : {u v : Option (List ℕ)} {t p : List ℕ} (more : List ℕ) → Moves u v t p → Moves u v (t ++ more) (p ++ more)
Moves-push {u} {v} {t} {p} more a = record {
  sent = a.sent;
  written = a.written;
  in_order = ap (λ x. x ++ more) a.in_order ∙ append_assoc a.sent p more;
}

-- all that waited was written
pub Appends-moved : {u v w : Option (List ℕ)} {t p : List ℕ} → Moves u v t p → Appends v w p → Appends u w t
Appends-moved {u} {v} {w} {t} {p} a b = rw a.in_order (Appends-append u v w a.sent p a.written b)

-- a prefix of what waited was written
pub AppendsFront-moved : {u v w : Option (List ℕ)} {t p : List ℕ} → Moves u v t p → AppendsFront v w p → AppendsFront u w t
AppendsFront-moved {u} {v} {w} {t} {p} a b = rw a.in_order (AppendsFront-after u v w a.sent p a.written b)

-- a call moved the page and more text behind it
pub Moves-behind : {u v w : Option (List ℕ)} {t p q : List ℕ} (more : List ℕ) → Moves u v t p → Moves v w (p ++ more) q → Moves u w (t ++ more) q
Moves-behind more a b = Moves-then (Moves-push more a) b

-- a call stopped within the page and more text behind it
pub AppendsFront-behind : {u v w : Option (List ℕ)} {t p : List ℕ} (more : List ℕ) → Moves u v t p → AppendsFront v w (p ++ more) → AppendsFront u w (t ++ more)
AppendsFront-behind more a b = AppendsFront-moved (Moves-push more a) b

-- a prefix of a part of the text is a prefix of the text
pub AppendsFront-part : (u w : Option (List ℕ)) (page part rest text : List ℕ) → text ≡ part ++ rest → AppendsFront u w (page ++ part) → AppendsFront u w (page ++ text)
AppendsFront-part u w page part rest text e a = rw (e, ← append_assoc page part rest) (AppendsFront-before u w (page ++ part) rest a)

-- what holds whatever the result holds of its error
pub OnErr-always : {T E P : Type 0} (r : Result T E) → P → OnErr r P
OnErr-always (Ok x) p = tt
OnErr-always (Err e) p = p
