-- A value of one struct is a value of another that is laid out alike. Assumes `Logic`.
use Rattle.std.proofs.Common.{◌≡◌, ◌∷◌, List, [], refl, subst}
use lib.Dec.{T}
use seplogic.Ra.Ura.{Ura}
use mir.Syntax.{Ty}
use mir.Raw.{raw}
use mir.Val.{Val, has_ty, WT}
use base.Logic.{ent, sep}
use types.Logic.{Logic, sem}
use types.Kit.{Goal, Seq, Item, ‵, ◌$◌, ◌∵◌, !, qed, done, move, fjoin, fpack, feq_i, rewrite}
use denote.RattleType.{RattleType, Valss}
use denote.Laws.{Is, Typed, shows}
use denote.Steps.{peeks, nothing}
use denote.Struct.Struct.{within}
use denote.Struct.Declared.{shape}
use denote.Struct.Tuple.{Tuple, tuple_type}
use denote.Param.{layout}
use denote.Param.Laws.{Laws, arg_typed}
use Rattle.core.proofs.mem.Param.{one}
use Rattle.atomic_table.proofs.Fields.{pair_of}

-- a machine value of a type
abbrev pub Good : Ty → Val → Type 0
Good τ v = T (has_ty τ v) × WT v

-- the raw form alone says which values a type has
pub good_as : (τ : Ty) (R : RattleType) → Laws R → raw τ ≡ raw (layout R) → (v : Val) → Typed R.mir (v ∷ []) → Good τ v
good_as τ R L same v t = (arg_typed τ R L.one same (v ∷ []) t).0

module _ {M : Type 1} {𝓤 : Ura M} {𝓛 : Logic 𝓤} {K : Type 0} {Γ : List (Item 𝓤)} {G : Goal 𝓤 𝓛.H} where
  -- what a value owns is owned in one machine value, of its type
  pub value_of : K → (R : RattleType) → Laws R → (x : R.Denot) (vs : List Val) → ((v : Val) → vs ≡ v ∷ [] → Good (layout R) v → Seq K 𝓛 (‵ (R.own_val x (v ∷ [])) ∷ Γ) G) → Seq K 𝓛 (‵ (R.own_val x vs) ∷ Γ) G
  value_of t R L x vs k = peeks t R (Is R) (shows 𝓛 R) x vs (λ is.
      let lone = one (record { row = R; laws = L }) vs (subst (λ (τs : List Ty). Typed τs vs) L.one ((L.lawful 𝓛).typed x vs is)) in
      rewrite t 0 (λ (us : List Val). ‵ (R.own_val x us)) lone.1 refl $ k lone.0 lone.1 lone.2)

-- two values that are owned are a pair that is owned
pub paired : {M : Type 1} {𝓤 : Ura M} (𝓛 : Logic 𝓤) (R S : RattleType) (x : R.Denot) (y : S.Denot) (u v : Val)
    → ent 𝓤 (sep 𝓤 (sem 𝓛 (R.own_val x (u ∷ []))) (sem 𝓛 (S.own_val y (v ∷ [])))) (sem 𝓛 ((Tuple (R ∷ S ∷ [])).own_val (x, y) (pair_of u v ∷ [])))
paired 𝓛 R S x y u v =
    qed 𝓛 (‵ (R.own_val x (u ∷ [])) ∷ ‵ (S.own_val y (v ∷ [])) ∷ []) ∵ nothing ! $ move ! (2 ∷ 0 ∷ []) $ fjoin ! $ move ! (1 ∷ 0 ∷ []) $ fjoin ! $
    feq_i ! (List Val) (pair_of u v ∷ []) (pair_of u v ∷ []) refl $ fjoin ! $
    fpack ! (Valss (R ∷ S ∷ [])) (within (shape (tuple_type (R ∷ S ∷ []))) (x, (y, tt)) (pair_of u v ∷ [])) (u ∷ [], (v ∷ [], tt)) $ done !
