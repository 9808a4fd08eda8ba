-- The two pointers are read off the rows, and the shared table and its seat off words that lie as theirs do.
use Rattle.atomic_table.proofs.Names.{◌≡◌, ℕ, List, [], ◌∷◌, ◌++◌, length, sym, refl, a_type, dcons, dnil, named, Val, vptr, inst_fn, SProp, emp, ‵, raw, at_ret, ◌$◌, ◌∵◌, !, qed, by, move, keep, drop, split, join, fsplit, fjoin, use0, use1, use2, ◌⊛◌, some, given, later, await, pick, learn, stop, fld, of_opd, no_more, and_then, addr, load, look_raw, first, blocks, exec, returns, enter, alloc_all, pass_all, free_all, look_at, get, sets, sets_last, through, env, agg, sub, whole, tables, yes, no, RattleType, owns, types_at, plain, nothing, param, bounded, alive, Stays, stay_dropped, walk_of, Goes-dropped, fact, fact_i, full_share, WpFn, RefOf, shr_Tells, heard, Ptr, block_ptr}
use base.Fml.{fat}
use mir.Raw.{raw as bare}
use prog.Wp.{spot_of}
use types.Run.{from}
use types.Kit.{regoal, prop}
use types.ByLocal.{take_at, give_at, look_in_at}
use denote.Param.{layout}
use Rattle.core.proofs.slots.Bodies.{after}
use Rattle.core.proofs.alloc.Calls.{Goes-blank}
use Rattle.atomic_table.proofs.Walks.{proved_at, leaves}
use Rattle.core.specs.Mem.Slots.{slots_items, slots_ptr, slots_len}
use Rattle.core.specs.contracts.mem.manually_drop.ManuallyDrop as kept
use Rattle.atomic_table.specs.Seated.{TableId}
use Rattle.atomic_table.proofs.Fields.{hand_of, hand_good, token_val, pair_of, dealt_good}
use Rattle.lxr_tables.proofs.LayoutLemmas.{Good}
use Rattle.lxr_tables.proofs.SharingLemmas.{Rows, rows_val, rows_had, Shared-at, Seat-at, Both, shares}
use Rattle.lxr_tables.specs.contracts.closed_rows.share.{ended, clauses}
use Rattle.lxr_tables.specs.contracts.closed_rows.share.Key.{name as #self}
use Rattle.lxr_tables.proofs.closed_rows.share.Statement.{statement}
use Rattle.lxr_tables.proofs.closed_rows.share.Code as code

pub share_spec : {M : Type 1} → statement M
share_spec 𝓤 𝓛 𝓜 𝓡 wired S V K P B Q LS _ _ _ _ _ g d k e _ _ =
    let H = 𝓛.H in let 𝓣 = tables 𝓤 H 𝓜 𝓡 𝓡.env in
    let R : RattleType = param 0 S in let W : RattleType = param 1 V in let X : RattleType = param 2 K in let Y : RattleType = param 3 P in let Z : RattleType = param 4 B in
    let En = ended S V K P B Q g d k e in let c = clauses S V K P B Q g d k e 𝓛 𝓜.mem 𝓡.returns in
    let inst = bounded (a_type ∷ a_type ∷ a_type ∷ a_type ∷ a_type ∷ a_type ∷ []) (S, (V, (K, (P, (B, (Q, tt)))))) (dcons d (dcons e dnil)) in let fn = inst_fn inst code.function in
    let hs : Stays En.signature.params En.kept = (stay_dropped (RefOf (0 ∷ []) tt (plain (λ _. Z)) (λ _. tt)) yes, (stay_dropped (plain (λ _. kept.the_row (Rows R))) no, tt)) in
    proved_at 𝓛 En hs c 𝓜 𝓡 (Goes-dropped 𝓛 7 (RefOf (0 ∷ []) tt (plain (λ _. Z)) (λ _. tt)) yes (λ κs x f. refl), (Goes-blank 𝓛 7 (plain (λ _. kept.the_row (Rows R))) no (λ κs x f. tt), tt)) (#self inst) fn
    (code.unfolded 𝓤 H 𝓜 𝓡 wired (S, (V, (K, (P, (B, (Q, tt)))))) d e) (λ y are.
    let at : Val = vptr y.0.3.0.ref_ptr.0 y.0.3.0.ref_ptr.1 in let x : (Rows R).Denot = y.0.3.1.0.value in let ns : List ℕ = slots_items x.0 in let xs : List S.Denot = slots_items x.1 in let key : K.Denot = k.key y.0.3.0.now ns in
    let Post : Val → SProp 𝓤 = (walk_of 𝓛 En hs c).post y in
    qed 𝓛 ((raw (alive 𝓛 En.signature y.0.0 y.0.1) ⊛ ‵ (owns (types_at En.signature.params y.0.0) y.0.3 y.0.4)) ∷ raw (fact 𝓤 _) ∷ raw (fact 𝓤 _) ∷ raw (fact 𝓤 _) ∷ raw (fact 𝓤 _) ∷ raw (fact 𝓤 _) ∷ raw (fact 𝓤 _) ∷ raw (fact 𝓤 _) ∷ raw (fact 𝓤 _) ∷ []) ∵
    move ! (7 ∷ 8 ∷ []) $ heard ! _ (λ full. heard ! _ (λ good. keep ! (0 ∷ []) $ split ! $ move ! (1 ∷ []) $ fsplit ! $ drop ! $ fsplit ! $ move ! (1 ∷ []) $ drop ! $
    rows_had (record { row = S; laws = LS }) ! x y.0.4.1.0 full (λ b o b' o' words_at slots_at is fn_ fm.
    let w : Ptr = block_ptr b o in let p : Ptr = block_ptr b' o' in let v : Val = rows_val b o (slots_len x.0) b' o' (slots_len x.1) in let u : Val = pair_of (hand_of w p) token_val in
    -- [the words; the slots; the tokens]
    regoal ! (λ (ws : List Val × List Val). prop (WpFn 𝓤 H 𝓣.C 𝓣.Λ fn (ws.0 ++ (ws.1 ++ [])) Post)) (λ i. (shr_Tells (named 0) y.0.0.0 Z y.0.3.0 y.0.4.0 are.0 i, is i)) refl $
    let rows_good : Good (layout (kept.the_row (Rows R))) v = (tt, (((tt, (record { fits = fn_ }, tt)), ((tt, (record { fits = fm }, tt)), tt)), tt)) in
    enter ! 𝓣.C 𝓣.Λ fn (at ∷ v ∷ []) Post $ alloc_all ! (λ l. pass_all ! refl ((tt, tt), (rows_good, tt)) $ let Ev = env fn.locals l in
    use2 𝓛 (later (some (λ (z : TableId). given ((z.words ≡ length ns) × (z.slots ≡ length xs)) (‵ (Both 𝓛 R W X Y g key w p z))))) (shares 𝓛 R W X Y g key w p ns xs good) $ await ! tt $ pick ! (λ z. learn ! (λ so.
    -- [the shared table and its seat; the tokens; the locals]
    sets ! (of_opd ! (get ! refl)) refl rows_good $ sets ! (addr ! (from ! (stop !))) refl (tt, tt) $
    first ! $ blocks ! $ sets_last ! (of_opd ! (load ! (through ! refl (fld ! refl (fld ! refl (stop !)))) (look_in_at ! 3 (sub ! 0 refl (sub ! 0 refl (sub ! 0 refl (whole !))))))) refl (tt, tt) $
    exec ! 𝓣.C 𝓣.Λ Ev (after 3 fn.body) (at_ret Ev Post) $ sets ! (of_opd ! (get ! refl)) refl (tt, tt) $
    first ! $ blocks ! $ sets_last ! (of_opd ! (load ! (through ! refl (fld ! refl (fld ! refl (stop !)))) (look_in_at ! 3 (sub ! 0 refl (sub ! 1 refl (sub ! 0 refl (whole !))))))) refl (tt, tt) $
    exec ! 𝓣.C 𝓣.Λ Ev (after 5 fn.body) (at_ret Ev Post) $ sets ! (of_opd ! (get ! refl)) refl (tt, tt) $
    sets ! (agg ! (no_more !)) refl (tt, tt) $ sets ! (agg ! (and_then ! (get ! refl) (and_then ! (get ! refl) (and_then ! (get ! refl) (no_more !))))) refl (hand_good w p tt tt) $
    sets ! (agg ! (no_more !)) refl (tt, tt) $ sets ! (agg ! (and_then ! (get ! refl) (no_more !))) refl (tt, (tt, tt)) $
    sets ! (agg ! (and_then ! (get ! refl) (and_then ! (get ! refl) (no_more !)))) refl (dealt_good w p tt tt) $
    first ! $ blocks ! $ sets ! (addr ! (from ! (stop !))) refl (tt, tt) $ let σ = (spot_of 𝓤 H Ev 7).0 in
    take_at ! 7 $ use1 𝓛 (‵ (fat full_share (bare σ) (l 7) 0 u)) (𝓛.laws.at_raw full_share σ (l 7) 0 u) $
    sets_last ! (of_opd ! (load ! (through ! refl (stop !)) (look_raw ! 0 refl))) refl (dealt_good w p tt tt) $
    use1 𝓛 (‵ (fat full_share σ (l 7) 0 u)) (𝓛.laws.raw_at full_share σ (l 7) 0 u) $ give_at ! 7 $
    exec ! 𝓣.C 𝓣.Λ Ev (after 12 fn.body) (at_ret Ev Post) $ sets ! (of_opd ! (get ! refl)) refl (dealt_good w p tt tt) $
    returns ! (look_at ! 0 refl) $ free_all ! refl $
    let counts : Type 0 = (z.words ≡ length ns) × (z.slots ≡ length xs) × (z ≡ z) in let places : Type 0 = (w ≡ slots_ptr x.0) × (p ≡ slots_ptr x.1) × (key ≡ key) in let first_seat : Type 0 = (0 ≡ 0) × ((g.first key, []) ≡ (g.first key, [])) in
    use0 𝓛 (raw (fact 𝓤 first_seat)) (fact_i 𝓤 first_seat (emp 𝓤) (refl, refl)) $ use0 𝓛 (raw (fact 𝓤 places)) (fact_i 𝓤 places (emp 𝓤) (sym words_at, sym slots_at, refl)) $ join ! $
    use0 𝓛 (raw (fact 𝓤 counts)) (fact_i 𝓤 counts (emp 𝓤) (so.0, so.1, refl)) $ join ! $
    nothing ! $ nothing ! $ fjoin ! $ nothing ! $ fjoin ! $ keep ! (3 ∷ 0 ∷ 2 ∷ 1 ∷ []) $
    by ! (leaves 𝓛 En hs c y u (Shared-at 𝓛 R W X Y g key w p z, Seat-at 𝓛 R W X Y g key w p z) (tt, (((tt, (tt, tt)), tt), tt)) (tt, (tt, tt))))))))))
