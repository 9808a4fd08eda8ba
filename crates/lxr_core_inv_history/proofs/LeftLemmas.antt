-- The history is left by helpers: of tables, it reads the pause word and the numbers of free blocks alone.
use Rattle.std.proofs.Common.{◌≡◌, refl, sym, ◌∙◌, arith}
use Rattle.lxr_layout.specs.declared.TheConstants.{FREE_BLOCK_COUNT, FREE_BLOCK_CURSOR, PAUSE_WORD}
use Rattle.lxr_core_invariant.specs.EpochStates.{EpochState}
use Rattle.lxr_core_invariant.specs.Laws.{HistoryIsLeft}
use Rattle.lxr_core_inv_history.proofs.CallLemmas.{says_same}
use Rattle.lxr_core_inv_history.proofs.KeepLemmas.{Keeps, called_kept, sets_kept}

-- mutators stand to their operations as they did
pub history_is_left : HistoryIsLeft
history_is_left b s u ds ts is leaves =
    let after : EpochState = record s { tables = u; decrementers = ds; tracers = ts } in
    let word : u.cursors PAUSE_WORD ≡ s.tables.cursors PAUSE_WORD = leaves.cursors PAUSE_WORD (λ e. absurd (omega arith)) (λ e. absurd (omega arith)) in
    let listed = leaves.cursors FREE_BLOCK_COUNT (λ e. absurd (omega arith)) (λ e. absurd (omega arith)) in
    let drawn = leaves.cursors FREE_BLOCK_CURSOR (λ e. absurd (omega arith)) (λ e. absurd (omega arith)) in
    let keeps : Keeps b s after = record { members = λ n h. (h, refl); word = λ set. word ∙ set; blocks = λ none. omega (arith, listed, drawn, none) } in
    record {
      extends = is.extends;
      lives = is.lives;
      called = record {
        as_many = is.called.as_many;
        threads = is.called.threads;
        each = λ i v shown. called_kept b s after v keeps (says_same v.thread s.history) (is.called.each i v shown);
        word = λ set. let by = is.called.word (sym word ∙ set) in (by.0, by.1, by.2, sets_kept s after by.1 by.1.stage (says_same by.1.thread s.history) by.3);
      };
    }
