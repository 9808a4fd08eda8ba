-- What has the room of allowed limits, and what fits it.
use Rattle.std.proofs.Common.{◌≡◌, ℕ, ◌+◌, ◌*◌, ◌≤◌, sym, ap, subst, ◌∙◌, arith, List, [], ◌∷◌, ◌++◌, length}
use Rattle.std.specs.Prelude.{map}
use Rattle.std.proofs.lemmas.List.{length-map, length_push}
use Rattle.lxr_layout.specs.declared.TheConstants.{GRANULES_IN_BLOCK, REGISTERS}
use Rattle.lxr_layout.specs.declared.limits.Limits.{Limits}
use Rattle.lxr_layout.specs.Spaces.{all_regions, region_begin}
use Rattle.lxr_base.specs.Roomy.{Roomy, pushed}
use Rattle.lxr_graph.specs.declared.report.Report.{Report}
use Rattle.lxr_graph.specs.State.{opening_registers}
use Rattle.lxr_image.specs.declared.space.Space.{Space}
use Rattle.lxr_image.specs.Opened.{HasReportRoom, IsOpened, opening_place}
use Rattle.lxr_image.specs.Registers.{Registers}
use Rattle.lxr_image.specs.Spaces.{IsSpace}
use Rattle.lxr_image.specs.Tables.{tables_in}
use Rattle.lxr_graph.proofs.OpeningLemmas.{length-opening}
use Rattle.lxr_sights.specs.Copies.{AreAlike, AreRegistersFor, Every, FitsReportRoom, FitsRoom, HasReportRoomFor, HasRoomFor, IsSpare, RoomySpacesFit}

-- ---- rooms

report_of_room : (to from : Report) (granules : ℕ) → HasReportRoom to granules → HasReportRoomFor to from → FitsReportRoom from granules
report_of_room to from granules room within = record {
  promoted = omega (arith, room.promoted, within.promoted);
  dead = omega (arith, room.dead, within.dead);
  stuck = omega (arith, room.stuck, within.stuck);
  swept = omega (arith, room.swept, within.swept);
  told = omega (arith, room.told, within.told);
}

room_for_report : (to from : Report) (granules : ℕ) → HasReportRoom to granules → FitsReportRoom from granules → HasReportRoomFor to from
room_for_report to from granules room fits = record {
  promoted = omega (arith, room.promoted, fits.promoted);
  dead = omega (arith, room.dead, fits.dead);
  stuck = omega (arith, room.stuck, fits.stuck);
  swept = omega (arith, room.swept, fits.swept);
  told = omega (arith, room.told, fits.told);
}

words_of_space : (s : Space) → IsSpace s → length s.words ≡ region_begin s.limits all_regions
unfolding tables_in
words_of_space s is = is.size

-- registers that are alike are those of the same limits
alike_are : (r q : Registers) (l : Limits) → AreAlike r q → AreRegistersFor r l → AreRegistersFor q l
alike_are r q l same are = record { as_many = sym same.as_many ∙ are.as_many; width = sym same.width ∙ are.width }

-- and those of the same limits are alike
are_alike : (r q : Registers) (l : Limits) → AreRegistersFor r l → AreRegistersFor q l → AreAlike r q
are_alike r q l these those = record { as_many = these.as_many ∙ sym those.as_many; width = these.width ∙ sym those.width }

-- what a spare space of these limits has room for fits them
pub roomy_spaces_fit : RoomySpacesFit
roomy_spaces_fit s spare is spared within = record {
  words = words_of_space s is;
  registers = alike_are spare.registers s.registers s.limits within.registers spared.registers;
  deferred = alike_are spare.deferred s.deferred s.limits within.deferred spared.deferred;
  logged = let room = spared.room.logged in subst (λ k. length s.logged.items ≤ k.threads * k.log) spared.limits (omega (arith, room, within.logged));
  work = let room = spared.room.work in subst (λ k. length s.work.items ≤ GRANULES_IN_BLOCK * k.blocks) spared.limits (omega (arith, room, within.work));
  report = subst (λ k. FitsReportRoom s.report (GRANULES_IN_BLOCK * k.blocks)) spared.limits (report_of_room spare.report s.report (GRANULES_IN_BLOCK * spare.limits.blocks) spared.room.report within.report);
}

-- what fits these limits can be copied into a spare space of them
pub spare_has_room : (l : Limits) (to from : Space) → IsSpare l to → FitsRoom from l → HasRoomFor to from
spare_has_room l to from is fits =
    let here : FitsRoom from to.limits = subst (FitsRoom from) (sym is.limits) fits in
    record {
      registers = are_alike to.registers from.registers l is.registers fits.registers;
      deferred = are_alike to.deferred from.deferred l is.deferred fits.deferred;
      logged = omega (arith, is.room.logged, here.logged);
      work = omega (arith, is.room.work, here.work);
      report = room_for_report to.report from.report (GRANULES_IN_BLOCK * to.limits.blocks) is.room.report here.report;
    }

pub spare_has_words : (l : Limits) (to from : Space) → IsSpare l to → FitsRoom from l → length to.words ≡ length from.words
spare_has_words l to from is fits = words_of_space to is.space ∙ ap (λ k. region_begin k all_regions) is.limits ∙ sym fits.words

-- an opened space is a spare one of its limits
pub opened_is_spare : (s : Space) (l : Limits) → IsSpace s → IsOpened s l → IsSpare l s
opened_is_spare s l is opened =
    let many : length (map opening_place (opening_registers l.threads)) ≡ REGISTERS * l.threads = length-map (opening_registers l.threads) opening_place ∙ length-opening l.threads in
    record {
      limits = opened.limits;
      space = is;
      registers = record { as_many = ap length opened.registers ∙ many; width = opened.room.registers ∙ ap (λ k. k.registers) opened.limits };
      deferred = record { as_many = ap length opened.deferred ∙ many; width = opened.room.deferred ∙ ap (λ k. k.registers) opened.limits };
      room = opened.room;
    }

-- ---- lists

-- so many spaces of a list with room for all are opened
pub record AreOpened (l : Limits) (spaces : Roomy Space) (opened all : ℕ) : Type 0 where
  pub made : length spaces.items ≡ opened
  pub room : spaces.room ≡ all
  pub spare : Every (IsSpare l) spaces.items

every_last : {T : Type 0} (P : T → Type 0) (xs : List T) (x : T) → Every P (xs ++ x ∷ []) → P x
every_last P [] x all = all.0
every_last P (y ∷ xs) x all = every_last P xs x all.1

every_front : {T : Type 0} (P : T → Type 0) (xs : List T) (x : T) → Every P (xs ++ x ∷ []) → Every P xs
every_front P [] x all = tt
every_front P (y ∷ xs) x all = (all.0, every_front P xs x all.1)

-- the last one is taken of a list of which each is such a one: it is one, and so is each that is left
pub taken_is : {T : Type 0} (P : T → Type 0) (spare left : Roomy T) (x : T) → spare ≡ pushed left x → Every P spare.items → P x
taken_is P spare left x taken all = every_last P left.items x (subst (λ l. Every P l.items) taken all)

pub left_are : {T : Type 0} (P : T → Type 0) (spare left : Roomy T) (x : T) → spare ≡ pushed left x → Every P spare.items → Every P left.items
left_are P spare left x taken all = every_front P left.items x (subst (λ l. Every P l.items) taken all)

-- one is taken of a list and one is added to another, which had room for all
pub room_is_left : {T : Type 0} (kept grown spare left : Roomy T) (x y : T) → grown ≡ pushed kept y → spare ≡ pushed left x
    → length kept.items + length spare.items ≤ kept.room → length grown.items + length left.items ≤ grown.room
room_is_left kept grown spare left x y added taken room =
    let more = ap (λ l. length l.items) added ∙ length_push kept.items y in
    let less = ap (λ l. length l.items) taken ∙ length_push left.items x in
    let same = ap (λ l. l.room) added in
    omega (arith, more, less, same)

every_more : {T : Type 0} (P : T → Type 0) (xs : List T) (x : T) → Every P xs → P x → Every P (xs ++ x ∷ [])
every_more P [] x all is = (is, tt)
every_more P (y ∷ xs) x all is = (all.0, every_more P xs x all.1 is)

-- one space more is opened
pub one_more_opened : (l : Limits) (spaces grown : Roomy Space) (s : Space) (n all : ℕ) → AreOpened l spaces n all → grown ≡ pushed spaces s → IsSpare l s → AreOpened l grown (n + 1) all
one_more_opened l spaces grown s n all was added spare =
    let more = ap (λ k. length k.items) added ∙ length_push spaces.items s in
    let made = was.made in
    record {
      made = omega (arith, more, made);
      room = ap (λ k. k.room) added ∙ was.room;
      spare = subst (λ k. Every (IsSpare l) k.items) (sym added) (every_more (IsSpare l) spaces.items s was.spare spare);
    }
