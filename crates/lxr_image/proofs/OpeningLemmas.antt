-- An opened space is the image of the opening state.
use Rattle.std.proofs.Common.{◌≡◌, ◌+◌, refl, sym, ap, subst, ◌∙◌, inl, inr, arith, true, false, cond, List, [], ◌∷◌, lit<, lit≤}
use Rattle.std.specs.Prelude.{Option, Some, None, map}
use Rattle.std.proofs.lemmas.Bool.Decides.{eqb_tells}
use Rattle.lxr_layout.specs.declared.limits.Limits.{Limits}
use Rattle.lxr_layout.specs.declared.Name.{Name}
use Rattle.lxr_layout.specs.Spaces.{AreLimits, all_regions, region_begin}
use Rattle.lxr_graph.specs.State.{object_at, opening, opening_registers, world, world_name}
use Rattle.lxr_graph.specs.Names.{same_name}
use Rattle.lxr_graph.proofs.NameSets.{has_one, same_itself}
use Rattle.lxr_image.specs.declared.space.Space.{Space}
use Rattle.lxr_image.specs.Tables.{Tables}
use Rattle.lxr_image.specs.Spaces.{IsSpace, Turns, tables_of}
use Rattle.lxr_image.specs.Opened.{IsNew, IsOpened, cleared_tables, opened_tables, opening_place, with_blocks, with_world}
use Rattle.lxr_image.specs.Image.{ArePlacesOf, IsImage, IsOpeningImage, Stands, StartsAre, opening_at, place_word}
use Rattle.lxr_image.specs.Reads.{StartsStandWhole}
use Rattle.lxr_image.proofs.ImageLemmas.{not_at, starts_stand_whole}
use Rattle.lxr_image.proofs.NewLemmas.{same_value}

world_stands : (l : Limits) → AreLimits l → Stands (opened_tables l) l.blocks opening_at world_name world
world_stands l allowed =
    let blocks = allowed.blocks.0 in
    record {
      placed = lit≤ tt;
      whole = record {
        name = record { thread = lit< tt; serial = lit< tt };
        shape = (lit≤ tt, lit≤ tt);
        header = refl;
        in_heap = omega arith;
        in_block = refl;
      };
      refs = λ i r e. let nil : place_word opening_at r ≡ 0 = ap (place_word opening_at) (same_value 64 None r i e) in not_at (λ _. 0) 0 _ (0 + 1 + i) (λ z. omega arith) ∙ sym nil;
      values = λ i v e. absurd (let k : None ≡ Some v = e in cc);
    }

opened_image : (l : Limits) → AreLimits l → IsImage (opened_tables l) l.blocks opening_at (opening l.threads).graph (world_name ∷ [])
opened_image l allowed = record {
  stands = λ n member. let n_is = has_one world_name n member in
      (world, ap (object_at (opening l.threads).graph) n_is, subst (λ m. Stands (opened_tables l) l.blocks opening_at m world) (sym n_is) (world_stands l allowed));
  apart = λ m n a b in_m in_n differ e f. absurd
      (let k : true ≡ false = sym (same_itself world_name) ∙ ap (λ z. same_name z world_name) (sym (has_one world_name m in_m)) ∙ ap (same_name m) (sym (has_one world_name n in_n)) ∙ differ in cc);
}

opened_starts : (l : Limits) → StartsAre (opened_tables l) opening_at (world_name ∷ [])
opened_starts l = record {
  each = λ n member. refl;
  only = λ g start. (world_name, same_itself world_name, elim (eqb_tells g 0) [ inl k ↦ sym k.1 | inr k ↦ absurd (let z : false ≡ true = sym (ap (λ b. cond b true false) k.0) ∙ start in cc) ]);
}

opening_places : (held : List (Option Name)) → ArePlacesOf opening_at (map opening_place held) held
opening_places [] = refl
opening_places (None ∷ held) = ap (λ xs. 0 ∷ xs) (opening_places held)
opening_places (Some n ∷ held) = ap (λ xs. 1 ∷ xs) (opening_places held)

-- a new space of which only the tables change is a new space of those tables
new_turns : (a b : Space) (l : Limits) (t u : Tables) → IsNew a l t → Turns a b u → IsNew b l u
new_turns a b l t u is turns =
    let same : IsNew (record a { words = b.words }) l u → IsNew b l u = subst (λ z. IsNew z l u) (sym turns.rest) in
    same (record {
      limits = is.limits;
      tables = sym (ap tables_of turns.rest) ∙ turns.tables;
      registers = is.registers;
      deferred = is.deferred;
      logged = is.logged;
      work = is.work;
      report = is.report;
      tally = is.tally;
      pauses = is.pauses;
      trace = is.trace;
      rest = is.rest;
      room = record {
        registers = is.room.registers;
        deferred = is.room.deferred;
        logged = is.room.logged;
        work = is.room.work;
        report = is.room.report;
      };
    })

-- a cleared space on which the world is placed and the blocks are listed is an opened one
pub laid_out : (a b c : Space) (l : Limits) → IsNew a l (cleared_tables (region_begin l all_regions)) → Turns a b (with_world (tables_of a)) → Turns b c (with_blocks b.limits.blocks (tables_of b)) → IsOpened c l
laid_out a b c l is placed listed =
    let world_there = new_turns a b l (cleared_tables (region_begin l all_regions)) (with_world (tables_of a)) is placed in
    let blocks_there = new_turns b c l (with_world (tables_of a)) (with_blocks b.limits.blocks (tables_of b)) world_there listed in
    subst (IsNew c l) (ap (λ n. with_blocks n (tables_of b)) (ap (λ k. k.blocks) world_there.limits) ∙ ap (with_blocks l.blocks) (world_there.tables ∙ ap with_world is.tables)) blocks_there

pub opened_is_image : (s : Space) (l : Limits) → AreLimits l → IsOpened s l → IsOpeningImage s
opened_is_image s l allowed is = record {
  image = subst (λ k. IsImage (tables_of s) k.blocks opening_at (opening k.threads).graph (world_name ∷ [])) (sym is.limits)
      (subst (λ t. IsImage t l.blocks opening_at (opening l.threads).graph (world_name ∷ [])) (sym is.tables) (opened_image l allowed));
  starts = subst (λ t. StartsAre t opening_at (world_name ∷ [])) (sym is.tables) (opened_starts l);
  registers = subst (λ k. ArePlacesOf opening_at s.registers.items (opening k.threads).registers) (sym is.limits)
      (subst (λ places. ArePlacesOf opening_at places (opening_registers l.threads)) (sym is.registers) (opening_places (opening_registers l.threads)));
  deferred = subst (λ k. ArePlacesOf opening_at s.deferred.items (opening k.threads).registers) (sym is.limits)
      (subst (λ places. ArePlacesOf opening_at places (opening_registers l.threads)) (sym is.deferred) (opening_places (opening_registers l.threads)));
}

pub opened_is_space : (s : Space) (l : Limits) → AreLimits l → IsOpened s l → IsSpace s
opened_is_space s l allowed is = record {
  limits = subst AreLimits (sym is.limits) allowed;
  size = ap (λ t. t.size) is.tables ∙ ap (λ k. region_begin k all_regions) (sym is.limits);
}

pub opened_stands_whole : (s : Space) → IsOpeningImage s → StartsStandWhole (tables_of s) s.limits.blocks
opened_stands_whole s is = starts_stand_whole (tables_of s) s.limits.blocks opening_at (opening s.limits.threads).graph (world_name ∷ []) (world_name ∷ []) is.image is.starts (λ n member. member)
