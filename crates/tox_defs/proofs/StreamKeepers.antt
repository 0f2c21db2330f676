-- What the proofs share that each giving keeps streams.
use Rattle.std.proofs.Common.{◌≡◌, ℕ, ◌+◌, ◌-◌, ◌<◌, ◌≤◌, max, true, List, [], ◌∷◌, refl, arith}
use Rattle.tox_time.specs.declared.streams.span.Span.{Span}
use Rattle.tox_time.specs.declared.streams.item.Item.{Item}
use Rattle.tox_time.specs.declared.streams.item.Item.TheVariants.{Chunk, Closed, Reset, Quiet}
use Rattle.tox_time.specs.Time.{horizon, plus}
use Rattle.tox_time.specs.streams.Stream.{span_len, latest_from, is_final, IsStreamFrom}
use Rattle.tox_defs.specs.toxics.Ordered.{in_order}
use Rattle.tox_defs.specs.toxics.Pieces.{cut, leave}
use Rattle.tox_defs.proofs.OpenStates.{has_final-leave}
use Rattle.tox_defs.proofs.KeepingStreams.{CanFollow, GoesOn, AreChunks-leave}

-- any two instants, and one not after the other
abbrev pub Whatever : ℕ → ℕ → Type 0
Whatever given taken = Unit {0}

abbrev pub NotAfter : ℕ → ℕ → Type 0
NotAfter given taken = given ≤ taken

-- an instant not after another, nor after a bound
abbrev pub NotAfterEither : ℕ → ℕ → ℕ → Type 0
NotAfterEither bound given taken = (given ≤ taken) × (given ≤ bound)

-- a final that leaves in order
pub in_order_final : (previous position since : ℕ) (item : Item) → previous ≤ horizon → is_final item ≡ true → CanFollow position since item
    → IsStreamFrom position previous (in_order previous item ∷ [])
in_order_final previous position since (Chunk span t) fits final follows = absurd (cc)
in_order_final previous position since (Closed t) fits final follows = (omega arith, omega (arith, fits, follows.1), refl)
in_order_final previous position since (Reset t) fits final follows = (omega arith, omega (arith, fits, follows.1), refl)
in_order_final previous position since Quiet fits final follows = refl

-- a final that leaves as it came
pub unchanged_final : (previous position since : ℕ) (item : Item) → previous ≤ since → is_final item ≡ true → CanFollow position since item
    → IsStreamFrom position previous (item ∷ [])
unchanged_final previous position since (Chunk span t) before final follows = absurd (cc)
unchanged_final previous position since (Closed t) before final follows = (omega (arith, before, follows.0), follows.1, refl)
unchanged_final previous position since (Reset t) before final follows = (omega (arith, before, follows.0), follows.1, refl)
unchanged_final previous position since Quiet before final follows = refl

latest_from-leave : (wait : ℕ → ℕ) (since t : ℕ) (spans : List Span) → since ≤ horizon → latest_from since (leave wait since t spans) ≤ horizon
latest_from-leave wait since t [] fits = fits
latest_from-leave wait since t (span ∷ spans) fits = latest_from-leave wait (plus (max since t) (wait (span_len span))) t spans (omega arith)

-- pieces that leave one after the other
pub leave_goes_on : (size wait : ℕ → ℕ) → ((n : ℕ) → 0 < size n) → (number previous t : ℕ) (span : Span) → previous ≤ horizon → span.start < span.stop
    → t ≤ horizon → GoesOn Whatever (leave wait previous t (cut size number span.start (span_len span) (span_len span))) span.start previous span.stop t
leave_goes_on size wait some number previous t span fits nonempty instant =
    let whole : span.start + (span.stop - span.start) ≡ span.stop = omega (arith, nonempty) in
    record {
      in_row = rw whole at (AreChunks-leave size wait some number span.start (span_len span) (span_len span) previous t (omega arith) fits instant);
      no_final = has_final-leave wait previous t (cut size number span.start (span_len span) (span_len span));
      related = tt;
      instant = latest_from-leave wait previous t (cut size number span.start (span_len span) (span_len span)) fits;
    }
