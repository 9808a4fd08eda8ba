-- A legal history under terms that renew no names has no renewal.
use Rattle.std.proofs.Common.{◌≡◌, ◌∙◌, sym, true, false, List, [], ◌∷◌}
use Rattle.lxr_graph.specs.History.{Item, Call, Pause, Renew}
use Rattle.lxr_model.specs.Terms.{Terms}
use Rattle.lxr_model.specs.Legal.{IsLegalSoFar}

-- names are never renewed in it
abbrev pub IsUnrenewed : List Item → Type 0
IsUnrenewed [] = Unit {0}
IsUnrenewed (Renew ns ∷ h) = ⊥
IsUnrenewed (Call t o r ∷ h) = IsUnrenewed h
IsUnrenewed (Pause report ∷ h) = IsUnrenewed h

pub legal_unrenewed : (terms : Terms) (h : List Item) → terms.renews ≡ false → IsLegalSoFar terms h → IsUnrenewed h
legal_unrenewed terms [] never legal = tt
legal_unrenewed terms (Renew ns ∷ h) never legal = let both : true ≡ false = sym legal.2.allowed ∙ never in absurd (cc)
legal_unrenewed terms (Call t o r ∷ h) never legal = legal_unrenewed terms h never legal.0
legal_unrenewed terms (Pause report ∷ h) never legal = legal_unrenewed terms h never legal.0
