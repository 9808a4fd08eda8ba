-- The fields' value is read as that of the table: the two are laid out alike, and what the fields own is what the table owns.
use Rattle.atomic_table.proofs.Names.{◌≡◌, List, [], ◌∷◌, ◌++◌, refl, a_type, dcons, dnil, Val, inst_fn, SProp, emp, ‵, raw, at_ret, ◌$◌, ◌∵◌, !, qed, by, move, keep, split, fsplit, fsplit3, fjoin, fjoin3, fpick, fpack, use0, use1, ◌⊛◌, stop, of_opd, addr, load, look_raw, first, blocks, exec, returns, enter, alloc_all, pass_all, free_all, look_at, get, sets, sets_last, through, env, tables, no, RattleType, owns, Valss, types_at, plain, nothing, param, bounded, alive, Stays, stay_dropped, walk_of, fact, fact_i, full_share, WpFn, Tuple, u64, usize, heard}
use base.Fml.{fat}
use mir.Raw.{raw as bare}
use prog.Wp.{spot_of}
use types.Run.{from}
use types.Kit.{regoal, prop}
use types.ByLocal.{take_at, give_at}
use denote.Struct.Struct.{within}
use denote.Struct.Declared.{Declared, fields, shape}
use denote.Param.{layout}
use denote.Param.Laws.{Laws, param_laws}
use Rattle.core.proofs.slots.Bodies.{after}
use Rattle.core.proofs.alloc.Calls.{Goes-blank}
use Rattle.atomic_table.proofs.Walks.{proved_at, leaves}
use Rattle.core.specs.contracts.mem.manually_drop.ManuallyDrop as kept
use Rattle.core.proofs.mem.manually_drop.ManuallyDrop.TheLaws as kept_laws
use Rattle.core.specs.contracts.slots.Lease as lease
use Rattle.atomic_table.specs.contracts.shared.Shared as shared
use Rattle.atomic_table.specs.contracts.owned.Table as table
use Rattle.atomic_table.proofs.owned.Table.TheLaws as table_laws
use Rattle.lxr_tables.proofs.LayoutLemmas.{Good, good_as, value_of}
use Rattle.lxr_tables.specs.contracts.closed_fields.put_together.{ended, clauses}
use Rattle.lxr_tables.specs.contracts.closed_fields.put_together.Key.{name as #self}
use Rattle.lxr_tables.proofs.closed_fields.put_together.Statement.{statement}
use Rattle.lxr_tables.proofs.closed_fields.put_together.Code as code

pub put_together_spec : {M : Type 1} → statement M
put_together_spec 𝓤 𝓛 𝓜 𝓡 wired S V K P A LS LV LK LP LA gp dp g d dd _ _ _ =
    let H = 𝓛.H in let 𝓣 = tables 𝓤 H 𝓜 𝓡 𝓡.env in
    let R : RattleType = param 0 S in let W : RattleType = param 1 V in let X : RattleType = param 2 K in let Y : RattleType = param 3 P in let Z : RattleType = param 4 A in
    let En = ended S V K P A gp dp g d dd in let c = clauses S V K P A gp dp g d dd 𝓛 𝓜.mem 𝓡.returns in
    let inst = bounded (a_type ∷ a_type ∷ a_type ∷ a_type ∷ a_type ∷ []) (S, (V, (K, (P, (A, tt))))) (dcons dp (dcons d (dcons dd dnil))) in let fn = inst_fn inst code.function in
    let SharedRow : RattleType = shared.the_row R W X Y gp in let TableType : Declared = table.the_type R W X Y Z gp g in let TableRow : RattleType = table.the_row R W X Y Z gp g in
    let FieldsRow : RattleType = Tuple (SharedRow ∷ usize ∷ usize ∷ Tuple (lease.the_row u64 Z g ∷ []) ∷ Tuple (lease.the_row R Z g ∷ []) ∷ Z ∷ []) in
    let TableLaws : Laws (kept.the_row TableRow) = kept_laws.the_row_laws TableRow (table_laws.the_row_laws R W X Y Z gp g (param_laws 0 S LS) (param_laws 1 V LV) (param_laws 2 K LK) (param_laws 3 P LP) (param_laws 4 A LA)) in
    let hs : Stays En.signature.params En.kept = (stay_dropped (plain (λ _. kept.the_row FieldsRow)) no, tt) in
    proved_at 𝓛 En hs c 𝓜 𝓡 (Goes-blank 𝓛 5 (plain (λ _. kept.the_row FieldsRow)) no (λ κs x f. tt), tt) (#self inst) fn (code.unfolded 𝓤 H 𝓜 𝓡 wired (S, (V, (K, (P, (A, tt))))) dp d dd) (λ y are.
    let x : FieldsRow.Denot = y.0.3.0.value in let Post : Val → SProp 𝓤 = (walk_of 𝓛 En hs c).post y in
    qed 𝓛 ((raw (alive 𝓛 En.signature y.0.0 y.0.1) ⊛ ‵ (owns (types_at En.signature.params y.0.0) y.0.3 y.0.4)) ∷ raw (fact 𝓤 _) ∷ raw (fact 𝓤 _) ∷ raw (fact 𝓤 _) ∷ raw (fact 𝓤 _) ∷ raw (fact 𝓤 _) ∷ raw (fact 𝓤 _) ∷ raw (fact 𝓤 _) ∷ raw (fact 𝓤 _) ∷ []) ∵
    move ! (6 ∷ 7 ∷ 8 ∷ []) $ heard ! _ (λ counts. heard ! _ (λ words. heard ! _ (λ slots.
    let r : TableRow.Denot = record { shared = x.0; words = x.1; slots = x.2; word_lease = record { lease = x.3.0 }; slot_lease = record { lease = x.4.0 }; heap = x.5; counts = counts; words_leased = words; slots_leased = slots } in
    keep ! (0 ∷ []) $ split ! $ move ! (1 ∷ []) $ fsplit ! $
    -- [what the fields own; nothing; the tokens]
    fpick ! (λ us. fsplit ! $ move ! (1 ∷ []) $ fsplit ! $ fpick ! (λ ts. fsplit ! $ move ! (1 ∷ []) $
    fsplit3 ! $ move ! (2 ∷ []) $ fsplit3 ! $ move ! (2 ∷ []) $ fsplit ! $
    -- [the slots' lease; the heap; the number of slots; the words' lease; the shared table; the number of words]
    nothing ! $ move ! (1 ∷ 0 ∷ []) $ fjoin ! $ fjoin ! $ nothing ! $ move ! (3 ∷ 0 ∷ []) $ fjoin ! $
    move ! (2 ∷ 0 ∷ 1 ∷ []) $ fjoin3 ! $ move ! (1 ∷ 2 ∷ 0 ∷ []) $ fjoin3 ! $ move ! (1 ∷ 0 ∷ []) $ fjoin ! $ fpack ! (Valss (fields TableType)) (within (shape TableType) (TableType.to r) us.0) ts $
    fjoin ! $ move ! (1 ∷ 0 ∷ []) $ fjoin ! $ fpack ! (Valss (TableRow ∷ [])) (within (shape (kept.the_type TableRow)) (r, tt) y.0.4.0) us $
    value_of ! (kept.the_row TableRow) TableLaws (record { value = r }) y.0.4.0 (λ v is good.
    -- [the table; nothing; the tokens]
    keep ! (0 ∷ 2 ∷ []) $ regoal ! (λ (ws : List Val). prop (WpFn 𝓤 H 𝓣.C 𝓣.Λ fn (ws ++ []) Post)) is refl $
    let fine : Good (layout (kept.the_row FieldsRow)) v = good_as (layout (kept.the_row FieldsRow)) (kept.the_row TableRow) TableLaws refl v (good, tt) in
    enter ! 𝓣.C 𝓣.Λ fn (v ∷ []) Post $ alloc_all ! (λ l. pass_all ! refl (fine, tt) $ let Ev = env fn.locals l in let σ = (spot_of 𝓤 H Ev 2).0 in
    sets ! (of_opd ! (get ! refl)) refl fine $ sets ! (addr ! (from ! (stop !))) refl (tt, tt) $
    first ! $ blocks ! $ take_at ! 2 $ use1 𝓛 (‵ (fat full_share (bare σ) (l 2) 0 v)) (𝓛.laws.at_raw full_share σ (l 2) 0 v) $
    sets_last ! (of_opd ! (load ! (through ! refl (stop !)) (look_raw ! 0 refl))) refl good $
    use1 𝓛 (‵ (fat full_share σ (l 2) 0 v)) (𝓛.laws.raw_at full_share σ (l 2) 0 v) $ give_at ! 2 $
    exec ! 𝓣.C 𝓣.Λ Ev (after 3 fn.body) (at_ret Ev Post) $ sets ! (of_opd ! (get ! refl)) refl good $
    returns ! (look_at ! 0 refl) $ free_all ! refl $
    use0 𝓛 (raw (fact 𝓤 (x.0 ≡ x.0))) (fact_i 𝓤 (x.0 ≡ x.0) (emp 𝓤) refl) $ nothing ! $ nothing ! $ fjoin ! $
    keep ! (3 ∷ 0 ∷ 2 ∷ 1 ∷ []) $ by ! (leaves 𝓛 En hs c y v (record { value = r }) (((tt, (tt, (tt, ((tt, tt), ((tt, tt), (tt, tt)))))), tt), tt) (tt, tt))))))))))
