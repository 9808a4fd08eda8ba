-- The allocator's answer is matched. Its block is room for the words, and the two values are read off words that lie as theirs do.
use Rattle.atomic_table.proofs.Names.{◌≡◌, ℕ, ◌*◌, ◌^◌, ◌<◌, List, [], ◌∷◌, ◌++◌, length, replicate, length-replicate, refl, sym, ◌∙◌, arith, lit<, a_type, dcons, dnil, named, Val, vptr, vint, vstruct, vcons, vnil, w64, WT, inst_fn, SProp, ent, sep, sem, emp, ‵, raw, at_ret, ◌$◌, ◌∵◌, !, qed, by, move, keep, split, split3, fsplit, fjoin, group, use0, use1, use2, ◌⊛◌, later, await, stop, fld, of_opd, no_more, and_then, lit, bin, addr, load, look_raw, first, blocks, exec, returns, enter, alloc_all, pass_all, free_all, look_at, get, get_in, sets, sets_last, lands_as, through, env, agg, whole, tables, yes, RattleType, owns, types_at, plain, nothing, heard, param, bounded, alive, Stays, stay_dropped, walk_of, Goes-dropped, fact, fact_i, full_share, WpFn, RefOf, usize, shr_Tells, Tuple, block_ptr, flft, ftrue, ◌⊑◌, calls_at, live, rewrite}
use Rattle.std.proofs.Common.{false, true}
use base.Fml.{fat, froom, Incl-trans}
use mir.Raw.{raw as bare}
use mir.Syntax.{Body, ty_array}
use contract.Running.{tables_of}
use prog.Wp.{Wp, after_seq, at_return, spot_of}
use types.Run.{from, switches_on}
use types.Match.{vrt, in_variant}
use types.Kit.{Post as After, any_q, regoal, prop}
use types.ByLocal.{take_at, give_at, get_tag}
use denote.Laws.{Is}
use denote.Steps.{owned}
use denote.Struct.Struct.{Struct, Struct-Makes}
use denote.Struct.Declared as Declared
use Rattle.core.specs.declared.result.Result.TheVariants.{Ok, Err}
use Rattle.core.specs.Result.{IfOk}
use Rattle.core.specs.contracts.result.Result as answer
use Rattle.core.specs.contracts.alloc.AllocError as refusal
use Rattle.core.specs.Mem.Slots.{slots_items, slots_ptr, slots_len, lease_ptr, lease_len, lease_heap}
use Rattle.core.proofs.alloc.Calls.{Al, Answer-typed, Takes, at_takes, Answered, Takes-goes, Takes-gives, answers}
use Rattle.core.proofs.atomic.Steps.{fm}
use Rattle.core.proofs.mem.Param.{elτ}
use Rattle.core.proofs.slots.Bodies.{after, head, arm_body}
use Rattle.core.proofs.slots.Leases.{lease_val, block_ty, block_size, block_align, Lr, made, lease_made}
use Rattle.core.proofs.slots.Opens.{Sr, el_d, places, row_val, row_made}
use Rattle.core.proofs.slots.Places.{of_room}
use Rattle.std.proofs.ResultValues.{ok_of, err_of}
use Rattle.atomic_table.proofs.Fields.{pair_of}
use Rattle.atomic_table.proofs.Walks.{proved_at, leaves}
use Rattle.lxr_tables.proofs.LayoutLemmas.{paired}
use Rattle.lxr_tables.proofs.SharingLemmas.{words_el}
use Rattle.lxr_tables.specs.contracts.reserving.reserve_words.{ended, clauses}
use Rattle.lxr_tables.specs.contracts.reserving.reserve_words.Key.{name as #self}
use Rattle.lxr_tables.proofs.reserving.reserve_words.Statement.{statement}
use Rattle.lxr_tables.proofs.reserving.reserve_words.Code as code

pub reserve_words_spec : {M : Type 1} → statement M
unfolding tables_of
reserve_words_spec 𝓤 𝓛 𝓜 𝓡 wired A LA g d dd met md =
    let H = 𝓛.H in let 𝓣 = tables 𝓤 H 𝓜 𝓡 𝓡.env in let X : RattleType = param 0 A in
    let E = words_el in let Z : Al = record { row = A; laws = LA; g = g; d = d; drops = dd } in
    let Both : RattleType = Tuple (Sr E ∷ Lr E Z ∷ []) in let Out : RattleType = answer.the_row Both refusal.the_row in
    let En = ended A g d dd in let c = clauses A g d dd 𝓛 𝓜.mem 𝓡.returns in
    let inst = bounded (a_type ∷ []) (A, tt) (dcons d (dcons dd dnil)) in let fn = inst_fn inst code.function in
    let hs : Stays En.signature.params En.kept = (stay_dropped (RefOf (0 ∷ []) tt (plain (λ _. X)) (λ _. tt)) yes, (stay_dropped (plain (λ _. usize)) yes, tt)) in
    proved_at 𝓛 En hs c 𝓜 𝓡 (Goes-dropped 𝓛 2 (RefOf (0 ∷ []) tt (plain (λ _. X)) (λ _. tt)) yes (λ κs x f. refl), (Goes-dropped 𝓛 2 (plain (λ _. usize)) yes (λ κs x f. refl), tt)) (#self inst) fn (code.unfolded 𝓤 H 𝓜 𝓡 wired (A, tt) d dd) (λ y are.
    let κ = y.0.0.0 in let q = y.0.1.0 in let at = y.0.3.0.ref_ptr in let a = y.0.3.0.now in let n : ℕ = y.0.3.1.0 in let τ = block_ty E n in
    let Post : Val → SProp 𝓤 = (walk_of 𝓛 En hs c).post y in let Alive : SProp 𝓤 = alive 𝓛 En.signature y.0.0 y.0.1 in
    let Said : Out.Denot → Type 0 = λ r. IfOk r (λ p. (slots_items p.0 ≡ replicate n 0) × (slots_len p.0 ≡ n) × (lease_ptr p.1 ≡ slots_ptr p.0) × (lease_len p.1 ≡ n) × (lease_heap p.1 ≡ a)) in
    let leave : (r : Out.Denot) (v : Val) → Said r → ent 𝓤 (sep 𝓤 (sem 𝓛 (Out.own_val r (v ∷ []))) Alive) (Post v) = λ r v said.
    qed 𝓛 (‵ (Out.own_val r (v ∷ [])) ∷ raw Alive ∷ []) ∵ use0 𝓛 (raw (fact 𝓤 (Said r))) (fact_i 𝓤 (Said r) (emp 𝓤) said) $ nothing ! $ nothing ! $ fjoin ! $ nothing ! $ fjoin ! $
    keep ! (3 ∷ 0 ∷ 2 ∷ 1 ∷ []) $ by ! (leaves 𝓛 En hs c y v r (tt, (tt, tt)) (tt, (tt, tt))) in
    qed 𝓛 (((‵ (flft κ q) ⊛ ‵ (flft y.0.0.1.0 y.0.1.1.0) ⊛ ‵ ftrue) ⊛ ‵ (owns (types_at En.signature.params y.0.0) y.0.3 y.0.4)) ∷ (raw (fact 𝓤 (y.0.0.1.0 ⊑ A.lives)) ⊛ raw (fact 𝓤 (n * 8 < 2 ^ 63))) ∷ []) ∵
    move ! (1 ∷ []) $ split ! $ heard ! (y.0.0.1.0 ⊑ A.lives) (λ within. heard ! (n * 8 < 2 ^ 63) (λ small.
    split ! $ split3 ! $ move ! (3 ∷ []) $ fsplit ! $ fsplit ! $ keep ! (1 ∷ 3 ∷ 4 ∷ 5 ∷ []) $
    -- [the `&` to the allocator; the tokens]
    let fits : n < 2 ^ 64 = are.1.0.1 in let bytes : n * 8 < 2 ^ 64 = omega arith in let t = at_takes Z 𝓛 𝓜.mem 𝓡.returns κ q at a (n * 8) 8 τ in
    regoal ! (λ (ws : List Val × List Val). prop (WpFn 𝓤 H 𝓣.C 𝓣.Λ fn (ws.0 ++ (ws.1 ++ [])) Post)) (λ i. (shr_Tells (named 0) κ X y.0.3.0 y.0.4.0 are.0 i, are.1.0.0 i)) refl $
    enter ! 𝓣.C 𝓣.Λ fn (vptr at.0 at.1 ∷ vint w64 n ∷ []) Post $ alloc_all ! (λ l. pass_all ! refl ((tt, tt), ((tt, record { fits = fits }), tt)) $ let Ev = env fn.locals l in
    let arms : Body = head (after 4 fn.body) in let Then : After 𝓤 H = any_q (after_seq 𝓤 H (Wp 𝓤 H 𝓣.C 𝓣.Λ Ev (after 5 fn.body) (at_return 𝓤 H Ev Post)) (at_return 𝓤 H Ev Post)) in
    sets ! (of_opd ! (get ! refl)) refl (tt, tt) $ sets ! (of_opd ! (get ! refl)) refl (tt, record { fits = fits }) $
    sets ! (bin ! (get ! refl) (lit ! tt) (record { fits = bytes })) refl (tt, record { fits = bytes }) $
    use2 𝓛 (raw ((Takes Z 𝓛 𝓜.mem 𝓡.returns).pre t)) (Takes-goes Z 𝓛 𝓜.mem 𝓡.returns κ q at a (Incl-trans y.0.2.0 within) (n * 8) 8 τ (block_size E n bytes) (block_align E n) bytes (lit< tt)) $
    calls_at ! (fm 𝓛 𝓜 𝓡) (Takes Z 𝓛 𝓜.mem 𝓡.returns) (met.allocate dd) t (and_then ! (get ! refl) (and_then ! (get ! refl) (and_then ! (lit ! tt) (no_more !)))) (λ v.
    use1 𝓛 (later (raw (Answered Z 𝓛 𝓜.mem 𝓡.returns a τ v) ⊛ ‵ (flft κ q))) (Takes-gives Z 𝓛 𝓜.mem 𝓡.returns κ q at a (n * 8) 8 τ v) $ await ! tt $ split ! $
    move ! (1 ∷ 2 ∷ 3 ∷ []) $ group ! 3 $ move ! (1 ∷ []) $ answers Z ! 𝓜.mem 𝓡.returns a τ v
    (λ b o e.
    -- [the block; the right to free it; the tokens; the locals]
    let xs : List ℕ = replicate n 0 in let len : length xs ≡ n = length-replicate n 0 in
    let row : el_d E = record { ptr = block_ptr b o; len = n; items = xs; filled = replicate (length xs) false; ok = (sym len, sym len ∙ sym (length-replicate (length xs) false)); small = fits } in
    let w : Val = row_val b o n in let p : Val = lease_val (block_ptr b o) n in let u : Val = pair_of w p in
    let w_good : WT w = (tt, (record { fits = fits }, tt)) in let p_good : WT p = (tt, (record { fits = fits }, (tt, tt))) in let u_good : WT u = (w_good, (p_good, tt)) in
    lands_as ! e refl (Answer-typed true b o) $ first ! $ switches_on ! (get_tag ! (vrt ! refl (fld ! refl (stop !))) (whole !)) $ exec ! 𝓣.C 𝓣.Λ Ev (arm_body 0 arms) Then $
    sets ! (of_opd ! (get_in ! (vrt ! refl (fld ! refl (stop !))) (in_variant ! 0 0 refl refl (whole !)))) refl (tt, tt) $
    sets ! (of_opd ! (get ! refl)) refl (tt, tt) $ sets ! (of_opd ! (get ! refl)) refl (tt, tt) $
    sets ! (of_opd ! (get ! refl)) refl (tt, tt) $ sets ! (of_opd ! (get ! refl)) refl (tt, record { fits = fits }) $
    sets ! (agg ! (and_then ! (get ! refl) (and_then ! (get ! refl) (no_more !)))) refl (tt, w_good) $
    sets ! (of_opd ! (get ! refl)) refl (tt, tt) $ sets ! (of_opd ! (get ! refl)) refl (tt, record { fits = fits }) $ sets ! (agg ! (no_more !)) refl (tt, tt) $
    sets ! (agg ! (and_then ! (get ! refl) (and_then ! (get ! refl) (and_then ! (get ! refl) (no_more !))))) refl (tt, p_good) $
    sets ! (agg ! (and_then ! (get ! refl) (and_then ! (get ! refl) (no_more !)))) refl (tt, u_good) $
    first ! $ blocks ! $ sets ! (addr ! (from ! (stop !))) refl (tt, tt) $ let σ = (spot_of 𝓤 H Ev 5).0 in
    take_at ! 5 $ use1 𝓛 (‵ (fat full_share (bare σ) (l 5) 0 u)) (𝓛.laws.at_raw full_share σ (l 5) 0 u) $
    sets_last ! (of_opd ! (load ! (through ! refl (stop !)) (look_raw ! 0 refl))) refl (tt, u_good) $
    use1 𝓛 (‵ (fat full_share σ (l 5) 0 u)) (𝓛.laws.raw_at full_share σ (l 5) 0 u) $ give_at ! 5 $
    exec ! 𝓣.C 𝓣.Λ Ev (after 12 (arm_body 0 arms)) Then $ sets ! (of_opd ! (get ! refl)) refl (tt, u_good) $
    sets_last ! (agg ! (and_then ! (lit ! tt) (and_then ! (get ! refl) (no_more !)))) refl (tt, (record { fits = lit< tt }, (u_good, tt))) $
    exec ! 𝓣.C 𝓣.Λ Ev (after 5 fn.body) (at_ret Ev Post) $ sets ! (of_opd ! (get ! refl)) refl (tt, (record { fits = lit< tt }, (u_good, tt))) $
    use1 𝓛 (‵ (froom (ty_array (elτ E) n) b o)) (𝓛.laws.raw-room (ty_array (elτ E) n) b o) $ rewrite ! 0 (λ (k : ℕ). ‵ (froom (ty_array (elτ E) k) b o)) (sym len) refl $
    use1 𝓛 (‵ (places E row b o)) (of_room E 𝓛 b xs o) $ row_made E ! row b o refl fits small $ move ! (1 ∷ []) $ lease_made E Z ! a b o n fits $ move ! (1 ∷ 0 ∷ []) $
    use2 𝓛 (‵ (Both.own_val (row, made E Z a b o n) (u ∷ []))) (paired 𝓛 (Sr E) (Lr E Z) row (made E Z a b o n) w p) $
    use1 𝓛 (‵ (Out.own_val (Ok (row, made E Z a b o n)) (live 0 (vcons u vnil) ∷ []))) (ok_of 𝓛 Both refusal.the_row (row, made E Z a b o n) u) $
    returns ! (look_at ! 0 refl) $ free_all ! refl $ keep ! (0 ∷ 1 ∷ []) $ by ! (leave (Ok (row, made E Z a b o n)) (live 0 (vcons u vnil)) (refl, refl, refl, refl, refl)))
    (λ e.
    let Refused : RattleType = Struct (Declared.shape refusal.the_type) in let u : Val = live 1 (vcons (vstruct vnil) vnil) in
    lands_as ! e refl (Answer-typed false 0 0) $ first ! $ switches_on ! (get_tag ! (vrt ! refl (fld ! refl (stop !))) (whole !)) $ exec ! 𝓣.C 𝓣.Λ Ev (arm_body 1 arms) Then $
    sets ! (of_opd ! (get_in ! (vrt ! refl (fld ! refl (stop !))) (in_variant ! 1 0 refl refl (whole !)))) refl (tt, tt) $ sets ! (of_opd ! (get ! refl)) refl (tt, tt) $
    sets_last ! (agg ! (and_then ! (lit ! tt) (and_then ! (get ! refl) (no_more !)))) refl (tt, (record { fits = lit< tt }, (tt, tt))) $
    exec ! 𝓣.C 𝓣.Λ Ev (after 5 fn.body) (at_ret Ev Post) $ sets ! (of_opd ! (get ! refl)) refl (tt, (record { fits = lit< tt }, (tt, tt))) $
    owned ! Refused (Is Refused) (Struct-Makes 𝓛 (Declared.shape refusal.the_type) tt) tt (vstruct vnil ∷ []) (tt, (refl, tt)) $
    use1 𝓛 (‵ (Out.own_val (Err (record {})) (u ∷ []))) (err_of 𝓛 Both refusal.the_row (record {}) (vstruct vnil)) $
    returns ! (look_at ! 0 refl) $ free_all ! refl $ keep ! (0 ∷ 1 ∷ []) $ by ! (leave (Err (record {})) u tt)))))))
