-- The box is read as its parts: the two are laid out alike, and own the same.
use Rattle.atomic_table.proofs.Names.{◌≡◌, List, [], ◌∷◌, ◌++◌, refl, a_type, dcons, dnil, Val, inst_fn, SProp, emp, ‵, raw, at_ret, ◌$◌, ◌∵◌, !, qed, by, move, keep, split, join, fsplit, fjoin, use0, use1, ◌⊛◌, stop, of_opd, addr, load, look_raw, first, blocks, exec, returns, enter, alloc_all, pass_all, free_all, look_at, get, sets, sets_last, through, env, tables, no, RattleType, owns, types_at, plain, nothing, param, bounded, alive, Stays, stay_dropped, walk_of, fact, fact_i, full_share, WpFn}
use base.Fml.{fat}
use mir.Raw.{raw as bare}
use prog.Wp.{spot_of}
use types.Run.{from}
use types.Kit.{regoal, prop}
use types.ByLocal.{take_at, give_at}
use denote.Param.{layout}
use denote.Param.Laws.{Laws, param_laws}
use Rattle.core.proofs.slots.Bodies.{after}
use Rattle.core.proofs.alloc.Calls.{Goes-blank}
use Rattle.atomic_table.proofs.Walks.{proved_at, leaves}
use Rattle.core.specs.contracts.mem.manually_drop.ManuallyDrop as kept
use Rattle.core.proofs.mem.manually_drop.ManuallyDrop.TheLaws as kept_laws
use Rattle.std_alloc.specs.contracts.boxed.Box as box
use Rattle.std_alloc.proofs.boxed.Box.TheLaws as box_laws
use Rattle.lxr_c_base.specs.contracts.boxed.Parts as parts
use Rattle.lxr_tables.proofs.LayoutLemmas.{Good, good_as, value_of}
use Rattle.lxr_c_base.specs.contracts.boxed.take_apart.{ended, clauses}
use Rattle.lxr_c_base.specs.contracts.boxed.take_apart.Key.{name as #self}
use Rattle.lxr_c_base.proofs.boxed.take_apart.Statement.{statement}
use Rattle.lxr_c_base.proofs.boxed.take_apart.Code as code

pub take_apart_spec : {M : Type 1} → statement M
take_apart_spec 𝓤 𝓛 𝓜 𝓡 wired S A LS LA g d dd _ _ =
    let H = 𝓛.H in let 𝓣 = tables 𝓤 H 𝓜 𝓡 𝓡.env in let R : RattleType = param 0 S in let Z : RattleType = param 1 A in let En = ended S A g d dd in let c = clauses S A g d dd 𝓛 𝓜.mem 𝓡.returns in
    let fn = inst_fn (bounded (a_type ∷ a_type ∷ []) (S, (A, tt)) (dcons d (dcons dd dnil))) code.function in
    let BoxRow : RattleType = box.the_row R Z g in let KeptBox : RattleType = kept.the_row BoxRow in
    let KeptParts : RattleType = kept.the_row (parts.the_row R Z g) in
    let BoxLaws : Laws KeptBox = kept_laws.the_row_laws BoxRow (box_laws.the_row_laws R Z g (param_laws 0 S LS) (param_laws 1 A LA)) in
    let hs : Stays En.signature.params En.kept = (stay_dropped (plain (λ _. KeptBox)) no, tt) in
    proved_at 𝓛 En hs c 𝓜 𝓡 (Goes-blank 𝓛 2 (plain (λ _. KeptBox)) no (λ κs x f. tt), tt) (#self (bounded (a_type ∷ a_type ∷ []) (S, (A, tt)) (dcons d (dcons dd dnil)))) fn (code.unfolded 𝓤 H 𝓜 𝓡 wired (S, (A, tt)) d dd) (λ y are.
    let x : BoxRow.Denot = y.0.3.0.value in let Post : Val → SProp 𝓤 = (walk_of 𝓛 En hs c).post y in
    qed 𝓛 ((raw (alive 𝓛 En.signature y.0.0 y.0.1) ⊛ ‵ (owns (types_at En.signature.params y.0.0) y.0.3 y.0.4)) ∷ raw ((c y.0.0 y.0.3).requires y.1) ∷ []) ∵
    split ! $ move ! (1 ∷ []) $ fsplit ! $ value_of ! KeptBox BoxLaws y.0.3.0 y.0.4.0 (λ v is good.
    -- [what the box owns; nothing; the tokens]
    keep ! (0 ∷ 2 ∷ []) $ regoal ! (λ (us : List Val). prop (WpFn 𝓤 H 𝓣.C 𝓣.Λ fn (us ++ []) Post)) is refl $
    enter ! 𝓣.C 𝓣.Λ fn (v ∷ []) Post $ alloc_all ! (λ l. pass_all ! refl (good, tt) $ let Ev = env fn.locals l in let σ = (spot_of 𝓤 H Ev 2).0 in
    let fine : Good (layout KeptParts) v = good_as (layout KeptParts) KeptBox BoxLaws refl v (good, tt) in
    sets ! (of_opd ! (get ! refl)) refl good $ sets ! (addr ! (from ! (stop !))) refl (tt, tt) $
    first ! $ blocks ! $ take_at ! 2 $ use1 𝓛 (‵ (fat full_share (bare σ) (l 2) 0 v)) (𝓛.laws.at_raw full_share σ (l 2) 0 v) $
    sets_last ! (of_opd ! (load ! (through ! refl (stop !)) (look_raw ! 0 refl))) refl fine $
    use1 𝓛 (‵ (fat full_share σ (l 2) 0 v)) (𝓛.laws.raw_at full_share σ (l 2) 0 v) $ give_at ! 2 $
    exec ! 𝓣.C 𝓣.Λ Ev (after 3 fn.body) (at_ret Ev Post) $ sets ! (of_opd ! (get ! refl)) refl fine $
    returns ! (look_at ! 0 refl) $ free_all ! refl $
    let r : KeptParts.Denot = record { value = record { ptr = x.ptr; alloc = x.alloc; value = x.value } } in
    let same : Type 0 = x.value ≡ x.value in
    use0 𝓛 (raw (fact 𝓤 same)) (fact_i 𝓤 same (emp 𝓤) refl) $
    nothing ! $ nothing ! $ fjoin ! $ keep ! (3 ∷ 0 ∷ 2 ∷ 1 ∷ []) $ by ! (leaves 𝓛 En hs c y v r (((tt, (tt, tt)), tt), tt) (tt, tt)))))
