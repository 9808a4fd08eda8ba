-- Bits and logs are left by helpers, who set bits only where an unreclaimed object begins.
use Rattle.std.proofs.Common.{◌≡◌, ℕ, sym, ap, ◌∙◌, inl, inr, List}
use Rattle.std.specs.Prelude.{IsTrue}
use Rattle.lxr_layout.specs.declared.Name.{Name}
use Rattle.lxr_image.specs.Tables.{Tables}
use Rattle.lxr_image.specs.Reads.{granule_of}
use Rattle.lxr_model.specs.Moments.{Moment}
use Rattle.lxr_invariant.specs.Standing.{HasBits}
use Rattle.lxr_core_invariant.specs.EpochStates.{moment_of}
use Rattle.lxr_core_invariant.specs.Decremented.{LeavesTables}
use Rattle.lxr_core_invariant.specs.Logged.{with_cleared}
use Rattle.lxr_core_invariant.specs.Laws.{BitsAndLogsAreLeft}

-- bits stand where they may
bits_left : (t u : Tables) (m : Moment) (at : Name → ℕ) (us : List Name) → LeavesTables t u → HasBits t m at us → HasBits u m at us
bits_left t u m at us leaves is =
    let starts : u.starts ≡ t.starts = ap (λ (z : Tables). z.starts) leaves.rest in
    let unlogged : u.unlogged ≡ t.unlogged = ap (λ (z : Tables). z.unlogged) leaves.rest in
    let started : (k : ℕ) → IsTrue (t.starts k) → IsTrue (u.starts k) = λ k h. ap (λ f. f k) starts ∙ h in
    record {
      starts = record {
        each = λ n h. started (granule_of (at n)) (is.starts.each n h);
        only = λ g h. is.starts.only g (sym (ap (λ f. f g) starts) ∙ h);
      };
      marks = λ k h. started k (elim (leaves.marks k) [ inl same ↦ is.marks k (sym same ∙ h) | inr begins ↦ begins ]);
      grays = λ k h. started k (elim (leaves.grays k) [ inl same ↦ is.grays k (sym same ∙ h) | inr begins ↦ begins ]);
      dones = λ k h. started k (elim (leaves.dones k) [ inl same ↦ is.dones k (sym same ∙ h) | inr begins ↦ begins ]);
      unlogged = λ w. (λ h. (is.unlogged w).0 (sym (ap (λ f. f w) unlogged) ∙ h), λ h. ap (λ f. f w) unlogged ∙ (is.unlogged w).1 h);
    }

-- logs have the entries that they had
pub bits_and_logs_are_left : BitsAndLogsAreLeft
bits_and_logs_are_left b s u ds ts is leaves =
    let m : Moment = moment_of b s in
    let logged = is.logged in
    record {
      once = logged.once;
      fields = logged.fields;
      bits = bits_left s.tables u (with_cleared m s.cleared) s.at m.unreclaimed leaves logged.bits;
      logs = logged.logs;
      written = logged.written;
      cleared = λ n i h. elim (logged.cleared n i h) [
        | inl stored ↦ inl stored
        | inr soon ↦ inr (record { number = soon.number; thread_state = soon.thread_state; shows = soon.shows; stage = soon.stage })
      ];
      loaded = logged.loaded;
      stores = logged.stores;
      rooms = logged.rooms;
    }
