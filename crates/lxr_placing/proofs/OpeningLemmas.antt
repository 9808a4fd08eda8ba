-- An opened space is between epochs, for the opening abstract state.
use Rattle.std.proofs.Common.{◌≡◌, ℕ, zero, suc, ◌+◌, ◌*◌, ◌/◌, ◌<◌, ◌≤◌, refl, sym, subst, ◌∙◌, arith, true, false, [], ◌∷◌}
use Rattle.lxr_layout.specs.declared.TheConstants.{GRANULES_IN_LINE, LINES_IN_BLOCK}
use Rattle.lxr_layout.specs.declared.limits.Limits.{Limits}
use Rattle.lxr_graph.specs.History.{report_of}
use Rattle.lxr_graph.specs.State.{Graph, opening, world_name}
use Rattle.lxr_graph.specs.declared.report.Report.{Report}
use Rattle.lxr_image.specs.Spaces.{tables_of}
use Rattle.lxr_image.specs.Image.{opening_at}
use Rattle.lxr_image.specs.Opened.{IsBlank, opened_tables}
use Rattle.lxr_blocks.specs.Lines.{free_in, is_free}
use Rattle.lxr_blocks.proofs.LineLemmas.{all_free_state, zero_ends}
use Rattle.lxr_blocks.proofs.KeptLemmas.{free_line_is_told}
use Rattle.lxr_invariant.specs.Lines.{HasStates, KeepLines, OutsAreTaken}
use Rattle.lxr_invariant.proofs.OpeningLemmas.{free_at, opening_holds, opening_undecremented, uncounted_at, within_world}
use Rattle.lxr_invariant.specs.AbstractState.{no_report}
use Rattle.lxr_placing.specs.Opening.{OpenedIsQuiescent}

-- ---- lines and blocks

-- the world's three lines aren't free
world_line : (l : Limits) (j : ℕ) → j < 3 → is_free (opened_tables l) j ≡ false
world_line l zero h = zero_ends (opened_tables l).counts 0 0 GRANULES_IN_LINE (omega arith) (λ e. cc)
world_line l (suc zero) h = zero_ends (opened_tables l).counts GRANULES_IN_LINE 0 GRANULES_IN_LINE (omega arith) (λ e. cc)
world_line l (suc (suc zero)) h = zero_ends (opened_tables l).counts 32 0 GRANULES_IN_LINE (omega arith) (λ e. cc)
world_line l (suc (suc (suc j))) h = absurd (omega arith)

-- no line of the world is free
opening_lines : (l : Limits) (threads : ℕ) → KeepLines (opened_tables l) (opening threads).graph opening_at (world_name ∷ [])
opening_lines l threads n o k member covers =
    let within = within_world threads n o k member covers.object covers.behind in
    world_line l (k / GRANULES_IN_LINE) (omega (arith, within))

-- all lines of the further blocks are free
all_free : (l : Limits) (b i : ℕ) → 1 ≤ b → free_in (opened_tables l) b i ≡ true
all_free l b i some = (free_line_is_told (opened_tables l) (LINES_IN_BLOCK * b + i)).1 (record {
  in_hand = refl;
  uncounted = λ k small. uncounted_at l (GRANULES_IN_LINE * (LINES_IN_BLOCK * b + i) + k) (λ e. omega arith) (λ e. omega arith) (λ e. omega arith);
})

-- and those blocks are Free
opening_states : (l : Limits) → HasStates (opened_tables l) l.blocks
opening_states l zero low loose = absurd (cc)
opening_states l (suc b) low loose =
    free_at l (suc b) (omega arith) ∙ all_free_state (opened_tables l) (suc b) (λ i below. all_free l (suc b) i (omega arith))

-- no line is out
none_out : (l : Limits) (threads : ℕ) → OutsAreTaken (opened_tables l) (opening threads).graph opening_at (world_name ∷ [])
none_out l threads = record {
  taken = λ line out. absurd (let e : false ≡ true = out in cc);
  outside = λ line out. absurd (let e : false ≡ true = out in cc);
}

-- ---- the report

-- the report of an opened space is that of no pause
blank_report : (r : Report) → IsBlank r → report_of r ≡ no_report
blank_report r is = λ j. record {
  number = is.number j;
  kind = is.kind j;
  promoted = is.promoted j;
  dead = is.dead j;
  stuck = is.stuck j;
  swept = is.swept j;
  counts = is.counts j;
}

-- ---- the whole

pub opened_is_quiescent : OpenedIsQuiescent
opened_is_quiescent s l is opened image =
    let same : tables_of s ≡ opened_tables l = opened.tables in
    let g : Graph = (opening l.threads).graph in
    record {
      safepoint = record {
        holds = opening_holds s l is opened image;
        numbers = record { pauses = opened.pauses; trace = opened.trace; report = blank_report s.report opened.report };
        traced = tt;
      };
      unwritten = refl;
      undecremented = opening_undecremented s l opened;
      lines = subst (λ t. KeepLines t g opening_at (world_name ∷ [])) (sym same) (opening_lines l l.threads);
      outs = subst (λ t. OutsAreTaken t g opening_at (world_name ∷ [])) (sym same) (none_out l l.threads);
      states = subst (λ z. HasStates (tables_of s) z.blocks) (sym opened.limits) (subst (λ t. HasStates t l.blocks) (sym same) (opening_states l));
    }
