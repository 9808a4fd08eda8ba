-- `lend` reads the pointer through the `&mut`, and lends what is at it; what holds it follows.
use mathlib.Core.Path.{◌≡◌, refl, sym, subst}
use Prim.Native.Nat.{ℕ}
use mathlib.Core.List.{List, [], ◌∷◌}
use lib.Dec.{T}
use seplogic.Ra.Ura.{Ura}
use base.Fraction.{full_share}
use mir.Syntax.{named}
use mir.Val.{Val, vptr}
use mir.Raw.{raw as bare}
use base.Logic.{SProp, ent, sep}
use base.Fml.{Lft, GName, Share, Fml, ftrue, flft, fsep}
use prog.Memory.{Memory}
use prog.Routine.{Routine}
use prog.Wp.{Env, Calls, Loops, WpFn, Tables}
use types.Logic.{Logic, sem}
use sound.WpLaws.{WpFn-mono}
use types.Kit.{‵, ◌⊛◌, some, at_ret, ◌$◌, ◌∵◌, !, qed, by, move, keep, use1, drop, split, join, pick, rewrite, fsplit, fsplit3, fjoin, suffices, frame, done, raw, later, await, group, fpack}
use types.Part.{whole, sub, look_in}
use types.Run.{stop, fld, load, of_opd, first, blocks, exec, returns, enter, addr}
use types.ByLocal.{alloc_all, pass_all, free_all, look_at, get, through, sets, env, sets_last}
use contract.Monad.{Fun, fact}
use contract.Running.{tables, tables_of}
use denote.Exit.{no}
use denote.Follow.{follows, Part, lends_Part}
use denote.Memory.{part_at, mem, cell_at, part_of}
use denote.RattleType.{RattleType, owns}
use denote.RawPtr.{Ptr, block_ptr}
use denote.Ref.{MutRef, mut_vals, mut_Tells}
use denote.Signature.{plain, mut_ref_to}
use denote.Steps.{heard, nothing, opens}
use denote.Triple.Entry.{on_entry}
use denote.Triple.Spec.{Meets, triple_of}
use denote.Triple.Table.{entered}
use denote.Triple.Walked.{says, Stays, stay_dropped, walk_of, ends_at, walked, walk_Meets, Goes-spent_ref}
use Rattle.core.proofs.alloc.Calls.{token}
use Rattle.std.specs.declared.option.Option.{Option}
use Rattle.std.specs.declared.option.Option.TheVariants.{None, Some}
use Rattle.std.specs.Prelude.{IsSome}
use Rattle.std_alloc.proofs.VecSteps.Shapes.{after}
use Rattle.std_alloc.proofs.BoxSteps.Form.{D, τ, word, handle}
use Rattle.std_alloc.proofs.BoxSteps.Steps.{box_out, box_in}
use Rattle.std_heap.specs.contracts.Global as Heap
use Rattle.lxr_c_shared.specs.Lending.{with_owned}
use Rattle.lxr_c_shared.specs.contracts.owned.Owned as Owned
use Rattle.lxr_c_shared.specs.contracts.held.Held as Held
use Rattle.lxr_c_shared.proofs.AsHeld.{E}
use Rattle.lxr_c_shared.specs.contracts.held.Held.lend as F
use Rattle.lxr_c_shared.specs.contracts.held.Held.lend.Key.{name as #self}
use Rattle.lxr_c_shared.proofs.held.Held.lend.Statement as stated
use Rattle.lxr_c_shared.proofs.held.Held.lend.Code as code

abbrev B : RattleType
B = Held.the_row

abbrev R : RattleType
R = Owned.the_row

abbrev stayed : Stays (F.ended).signature.params (F.ended).kept
stayed = (stay_dropped (mut_ref_to (0 ∷ []) tt (plain (λ _. B))) no, tt)

module _ {M : Type 1} {𝓤 : Ura M} (𝓛 : Logic 𝓤) (at_mem : Memory → SProp 𝓤) (run : Routine → Fun 𝓤) where
  open 𝓛 use {H, A}

  module _ (κ : Lft) (q : Share) (rb ro : ℕ) (γ : GName) (p : Ptr) (a : Heap.the_row.Denot) where
    abbrev at : Option R.Denot → B.Denot
    at k = record { ptr = p; alloc = a; value = k }

    abbrev bound : Option R.Denot → (walk_of 𝓛 F.ended stayed (F.clauses 𝓛 at_mem run)).Ghost
    bound k = (((κ, tt), (q, tt), tt, (record { ref_ptr = (rb, ro); ghost_name = γ; now = at k }, tt), (vptr rb ro ∷ [], tt)), tt)

    abbrev Post : Option R.Denot → Val → SProp 𝓤
    Post k = (walk_of 𝓛 F.ended stayed (F.clauses 𝓛 at_mem run)).post (bound k)

    module _ (c : R.Denot) (b o : ℕ) (hv : Val) where
      abbrev h : B.Denot
      h = at (Some c)

      -- all that is held but the value
      abbrev Rest : Fml
      Rest = fsep (fsep (token E.al a (bare (τ E)) (block_ptr b o)) (handle E a hv)) (cell_at full_share B.mir (word E hv b o ∷ []) rb ro)

      back : p ≡ block_ptr b o → (w : R.Denot) → ent 𝓤 (sep 𝓤 (sem 𝓛 ((mem R).own_at w b o)) (sem 𝓛 Rest)) (sem 𝓛 ((mem B).own_at (with_owned h w) rb ro))
      unfolding part_of
      back at_b w =
          let v : D E = record { ptr = p; alloc = a; value = w } in
          qed 𝓛 (‵ (part_at R full_share w b o) ∷ ‵ Rest ∷ []) ∵ move ! (1 ∷ []) $ fsplit ! $ fsplit ! $ move ! (3 ∷ []) $
          box_in E ! v b o w at_b refl $ move ! (1 ∷ 0 ∷ []) $ fjoin ! $
          fpack ! (List Val) (λ us. fsep (cell_at full_share B.mir us rb ro) (B.own_val (with_owned h w) us)) (word E hv b o ∷ []) $ done !

      exits : (γ' : GName)
          → ent 𝓤 (sep 𝓤 (sem 𝓛 ((MutRef (named 0) κ R).own_val (record { ref_ptr = (b, o); ghost_name = γ'; now = c }) (vptr b o ∷ []))) (sep 𝓤 (A.lft κ q) (sem 𝓛 (follows B R γ γ' (with_owned h))))) (Post (Some c) (vptr b o))
      exits γ' =
          qed 𝓛 (‵ ((MutRef (named 0) κ R).own_val (record { ref_ptr = (b, o); ghost_name = γ'; now = c }) (vptr b o ∷ [])) ∷ ‵ (flft κ q) ∷ ‵ (follows B R γ γ' (with_owned h)) ∷ []) ∵
          suffices ! _ (ends_at 𝓛 F.ended stayed (F.clauses 𝓛 at_mem run) (bound (Some c)) (vptr b o) (record { ref_ptr = (b, o); ghost_name = γ'; now = c }) (tt, tt) (tt, tt)) $
          nothing ! $ nothing ! $ fjoin ! $ join ! $ nothing ! $ move ! (2 ∷ 0 ∷ []) $ join ! $ join ! $ frame ! $ says ! refl $ done !

    module _ (C : Calls 𝓤 H) (Λ : Loops 𝓤 H) where
      walk : (k : Option R.Denot) → ent 𝓤 (sep 𝓤 (on_entry 𝓛 F.signature (κ, tt) (q, tt) (record { ref_ptr = (rb, ro); ghost_name = γ; now = at k }, tt) (vptr rb ro ∷ [], tt)) (fact 𝓤 (IsSome k)))
          (WpFn 𝓤 H C Λ code.function (vptr rb ro ∷ []) (Post k))
      walk None =
          qed 𝓛 (raw (on_entry 𝓛 F.signature (κ, tt) (q, tt) (record { ref_ptr = (rb, ro); ghost_name = γ; now = at None }, tt) (vptr rb ro ∷ [], tt)) ∷ raw (fact 𝓤 (IsSome {T = R.Denot} None)) ∷ []) ∵ move ! (1 ∷ []) $
          heard ! (IsSome {T = R.Denot} None) (λ e. absurd (subst T (sym e) tt))
      walk (Some c) =
          let h = at (Some c) in
          let v : D E = record { ptr = p; alloc = a; value = c } in
          qed 𝓛 (((‵ (flft κ q) ⊛ ‵ ftrue) ⊛ ‵ (owns (MutRef (named 0) κ B ∷ []) (record { ref_ptr = (rb, ro); ghost_name = γ; now = h }, tt) (vptr rb ro ∷ [], tt))) ∷ raw (fact 𝓤 (IsSome (Some c))) ∷ []) ∵
          move ! (1 ∷ []) $ drop ! $ split ! $
          enter ! C Λ code.function (vptr rb ro ∷ []) _ $
          alloc_all ! (λ l. pass_all ! refl ((tt, tt), tt) $
          let En : Env 𝓤 H = env code.function.locals l in
          move ! (1 ∷ []) $ fsplit ! $ fsplit3 ! $ drop ! $ move ! (3 ∷ []) $ split ! $ move ! (2 ∷ 3 ∷ 0 ∷ []) $
          opens ! tt B {h = h} rb ro (λ vs. move ! (1 ∷ []) $ box_out E ! v vs (λ b o hv at_b ws fa. move ! (1 ∷ 2 ∷ []) $ fjoin ! $ move ! (1 ∷ []) $
          rewrite ! 2 (λ (us : List Val). ‵ (cell_at full_share B.mir us rb ro)) ws refl $
          first ! $ blocks ! $
          sets ! (of_opd ! (load ! (through ! refl (fld ! refl (stop !))) (look_in ! 2 (sub ! 0 refl (whole !))))) refl (tt, tt) $
          sets ! (of_opd ! (get ! refl)) refl (tt, tt) $
          sets_last ! (addr ! (through ! refl (stop !))) refl (tt, tt) $
          exec ! C Λ En (after 1 code.function.body) (at_ret En (Post (Some c))) $
          sets ! (of_opd ! (get ! refl)) refl (tt, tt) $
          move ! (1 ∷ 2 ∷ []) $ fjoin ! $ move ! (2 ∷ 3 ∷ 4 ∷ 1 ∷ 0 ∷ []) $ group ! 5 $
          use1 𝓛 (later (some (λ (γ' : GName). raw (Part 𝓛 B R (with_owned h) (named 0) κ q rb ro b o γ (sem 𝓛 (Rest c b o hv)) (back c b o hv at_b) c γ'))))
          (lends_Part 𝓛 B R (with_owned h) (named 0) κ q rb ro b o γ (sem 𝓛 (Rest c b o hv)) (back c b o hv at_b) (B.coded.code h) (B.coded.code h) c) $ await ! tt $ pick ! (λ γ'.
          returns ! (look_at ! 0 refl) $ free_all ! refl $
          keep ! (0 ∷ []) $ by ! (exits c b o hv γ')))))

  meets : (𝓣 : Tables 𝓤 H) → Meets 𝓛 F.signature (WpFn 𝓤 H 𝓣.C 𝓣.Λ code.function) (F.spec 𝓛 at_mem run)
  meets 𝓣 =
      walk_Meets 𝓛 F.ended stayed (Goes-spent_ref 𝓛 1 (0 ∷ []) tt (plain (λ _. B)), tt) (F.clauses 𝓛 at_mem run) (WpFn 𝓤 H 𝓣.C 𝓣.Λ code.function) (WpFn-mono 𝓤 H 𝓛.laws 𝓣 code.function)
      (walked 𝓛 F.ended stayed (F.clauses 𝓛 at_mem run) (WpFn 𝓤 H 𝓣.C 𝓣.Λ code.function) (λ κs. (mut_vals, tt)) (λ κs. (mut_Tells (named 0) κs.0 B, tt))
      (λ κs qs bounds a g are. walk κs.0 qs.0 a.0.ref_ptr.0 a.0.ref_ptr.1 a.0.ghost_name a.0.now.ptr a.0.now.alloc 𝓣.C 𝓣.Λ a.0.now.value))

pub lend_spec : {M : Type 1} → stated.statement M
unfolding tables_of
lend_spec 𝓤 𝓛 𝓜 𝓡 wired =
    let 𝓣 : Tables 𝓤 𝓛.H = tables_of 𝓤 𝓛.H 𝓜 (tables 𝓤 𝓛.H 𝓜 𝓡 𝓡.env) in
    entered 𝓤 𝓛.H (triple_of 𝓛 F.signature (F.spec 𝓛 𝓜.mem 𝓡.returns)) 𝓣.C 𝓣.Λ #self code.function (code.unfolded 𝓤 𝓛.H 𝓜 𝓡 wired) (meets 𝓛 𝓜.mem 𝓡.returns 𝓣)
