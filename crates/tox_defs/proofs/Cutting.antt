-- Cutting: a chunk's pieces are its first piece, and then those of the rest.
use Rattle.std.proofs.Common.{◌≡◌, ℕ, zero, suc, ◌+◌, ◌-◌, ◌<◌, ◌≤◌, min, max, true, false, List, [], ◌∷◌, ◌++◌, refl, ap, sym, ◌∙◌, arith, ◌≢◌, ◌⊎◌, inl, inr}
use Rattle.std.proofs.Common.{eq-eqb}
use Rattle.std.proofs.Math.Dec.{leb}
use Rattle.std.proofs.lemmas.Bool.{le-ltb, lt-ltb, ne_eqb}
use Rattle.std.proofs.lemmas.Bool.Decides.{leb_tells}
use Rattle.tox_time.specs.declared.streams.span.Span.{Span}
use Rattle.tox_time.specs.declared.streams.slice.Slice.{Slice}
use Rattle.tox_time.specs.declared.streams.item.Item.{Item}
use Rattle.tox_time.specs.declared.streams.item.Item.TheVariants.{Chunk}
use Rattle.tox_time.specs.Time.{plus}
use Rattle.tox_time.specs.streams.Stream.{span_len}
use Rattle.tox_defs.specs.declared.operations.state.State.{State}
use Rattle.tox_defs.specs.stage.Reaction.{Giving, counted, state_after, with_piece, with_chunk, flow_from, state_from}
use Rattle.tox_defs.specs.toxics.Pieces.{cut, pieces_of, leave}
use Rattle.tox_defs.specs.operations.Look.{as_chunk, rest_of, Continues, after_piece_of}
use Rattle.tox_defs.specs.toxics.Pieces.{first_span}
use Rattle.tox_defs.proofs.FlowLemmas.{state_same, Continues-counted}

-- room for more pieces than there are bytes changes nothing
pub cut-enough : (size : ℕ → ℕ) → ((n : ℕ) → 0 < size n) → (number start left most more : ℕ) → left ≤ most → left ≤ more
    → cut size number start left most ≡ cut size number start left more
cut-enough size some number start zero most more enough others = refl
cut-enough size some number start (suc left) zero more enough others = absurd (omega (arith, enough))
cut-enough size some number start (suc left) (suc most) zero enough others = absurd (omega (arith, others))
cut-enough size some number start (suc left) (suc most) (suc more) enough others =
    let positive : 0 < size number = some number in
    ap (λ spans. record { start = start; stop = start + min (size number) (suc left) } ∷ spans)
    (cut-enough size some (number + 1) (start + min (size number) (suc left)) (suc left - size number) most more (omega (arith, enough, positive))
    (omega (arith, others, positive)))

-- pieces of one size need no number
pub cut-same_size : (size number other start left most : ℕ) → cut (λ _. size) number start left most ≡ cut (λ _. size) other start left most
cut-same_size size number other start zero most = refl
cut-same_size size number other start (suc left) zero = refl
cut-same_size size number other start (suc left) (suc most) =
    ap (λ spans. record { start = start; stop = start + min size (suc left) } ∷ spans)
    (cut-same_size size (number + 1) (other + 1) (start + min size (suc left)) (suc left - size) most)

-- what is behind a span's first bytes
abbrev pub behind : ℕ → Span → Span
behind bytes span = record { start = (first_span bytes span).stop; stop = span.stop }

-- the first piece, and the pieces of what is behind it
pub pieces_of-first : (size : ℕ → ℕ) → ((n : ℕ) → 0 < size n) → (number : ℕ) (span : Span) → span.start < span.stop
    → pieces_of size number span ≡ first_span (size number) span ∷ pieces_of size (number + 1) (behind (size number) span)
pieces_of-first size some number span nonempty =
    let positive : 0 < size number = some number in
    let one_more : span_len span ≡ suc (span_len span - 1) = omega arith in
    let left : span_len span - size number ≡ span_len (behind (size number) span) = omega arith in
    ap (λ len. cut size number span.start len len) one_more
    ∙ ap (λ len. record { start = span.start; stop = span.start + min (size number) len }
    ∷ cut size (number + 1) (span.start + min (size number) len) (len - size number) (span_len span - 1)) (sym one_more)
    ∙ ap (λ spans. first_span (size number) span ∷ spans)
    (ap (λ left. cut size (number + 1) (first_span (size number) span).stop left (span_len span - 1)) left
    ∙ cut-enough size some (number + 1) (first_span (size number) span).stop (span_len (behind (size number) span)) (span_len span - 1)
    (span_len (behind (size number) span)) (omega (arith, positive)) (omega arith))

-- a giving that cuts chunks into pieces of these sizes, each by its wait after the one before
abbrev pub Cuts : Giving → (ℕ → ℕ) → (ℕ → ℕ) → Type 0
Cuts giving size wait = (state : State) (span : Span) (t : ℕ) → giving state (Chunk span t) ≡ leave wait state.previous t (pieces_of size state.pieces span)

-- the pieces of a chunk leave one after the other
cut_given : (giving : Giving) (size wait : ℕ → ℕ) → ((n : ℕ) → 0 < size n) → Cuts giving size wait → (state : State) (rest piece : Slice)
    → rest.span.start < rest.span.stop
    → piece ≡ record {
      span = first_span (size state.pieces) rest.span;
      instant =
          plus (max state.previous rest.instant) (wait (span_len (first_span (size state.pieces) rest.span)));
    }
    → giving state (as_chunk rest) ≡ as_chunk piece ∷ leave wait piece.instant rest.instant
    (pieces_of size (state.pieces + 1) (record { start = piece.span.stop; stop = rest.span.stop }))
cut_given giving size wait some cuts state rest piece nonempty is =
    cuts state rest.span rest.instant
    ∙ ap (λ spans. leave wait state.previous rest.instant spans) (pieces_of-first size some state.pieces rest.span nonempty)
    ∙ ap (λ piece. as_chunk piece ∷ leave wait piece.instant rest.instant
    (pieces_of size (state.pieces + 1) (record { start = piece.span.stop; stop = rest.span.stop }))) (sym is)

-- a piece, and then what comes for what is behind it
cut_goes_on : (giving : Giving) (state : State) (rest behind piece : Slice) (items others : List Item) → state.done ≡ false
    → giving state (as_chunk rest) ≡ as_chunk piece ∷ others → giving (with_piece state piece) (as_chunk behind) ≡ others
    → Continues (counted giving) state (as_chunk rest ∷ items) (as_chunk piece ∷ []) (with_piece state piece) (as_chunk behind ∷ items)
cut_goes_on giving state rest behind piece items others running first later =
    let whole = Continues-counted giving state (as_chunk rest) items (as_chunk piece ∷ others) running first in
    let part = Continues-counted giving (with_piece state piece) (as_chunk behind) items others running later in
    let same : state_after state (as_chunk rest) (as_chunk piece ∷ others) ≡ state_after (with_piece state piece) (as_chunk behind) others
    = state_same _ _ _ _ _ _ _ _ refl (omega arith) (omega arith) in
    record {
      gives = whole.gives ∙ ap (λ state. as_chunk piece ∷ (others ++ flow_from (counted giving) state items)) same
          ∙ ap (λ later. as_chunk piece ∷ later) (sym part.gives);
      leaves = whole.leaves ∙ ap (λ state. state_from (counted giving) state items) same ∙ sym part.leaves;
    }

-- the last piece
pub cut_ends : (giving : Giving) (state : State) (rest piece : Slice) (items : List Item) → state.done ≡ false
    → giving state (as_chunk rest) ≡ as_chunk piece ∷ []
    → Continues (counted giving) state (as_chunk rest ∷ items) (as_chunk piece ∷ []) (with_chunk (with_piece state piece)) items
cut_ends giving state rest piece items running only =
    let whole = Continues-counted giving state (as_chunk rest) items (as_chunk piece ∷ []) running only in
    let made : state_after state (as_chunk rest) (as_chunk piece ∷ []) ≡ with_chunk (with_piece state piece)
    = ap (λ done. record {
      previous = piece.instant;
      chunks = state.chunks + 1;
      pieces = state.pieces + 1;
      passed = state.passed + (span_len piece.span + 0);
      done = done;
    }) (sym running)
    ∙ state_same _ _ _ _ _ _ _ _ refl refl (omega arith) in
    record {
      gives = whole.gives ∙ ap (λ state. as_chunk piece ∷ flow_from (counted giving) state items) made;
      leaves = whole.leaves ∙ ap (λ state. state_from (counted giving) state items) made;
    }

-- the first piece of a chunk that is cut, and what then comes
pub cut_found : (giving : Giving) (size wait : ℕ → ℕ) → ((n : ℕ) → 0 < size n) → Cuts giving size wait
    → (state : State) (rest piece : Slice) (items : List Item)
    → state.done ≡ false → rest.span.start < rest.span.stop
    → piece ≡ record {
      span = first_span (size state.pieces) rest.span;
      instant =
          plus (max state.previous rest.instant) (wait (span_len (first_span (size state.pieces) rest.span)));
    }
    → Continues (counted giving) state (as_chunk rest ∷ items) (as_chunk piece ∷ []) (after_piece_of rest.span.stop state piece)
    (rest_of piece.span.stop rest.span.stop rest.instant ++ items)
cut_found giving size wait some cuts state rest piece items running nonempty is = by_stop (leb_tells rest.span.stop piece.span.stop)
  where
    first : giving state (as_chunk rest) ≡ as_chunk piece ∷ leave wait piece.instant rest.instant
        (pieces_of size (state.pieces + 1) (record { start = piece.span.stop; stop = rest.span.stop }))
    first = cut_given giving size wait some cuts state rest piece nonempty is

    stop_is : piece.span.stop ≡ rest.span.start + min (size state.pieces) (span_len rest.span)
    stop_is = ap (λ piece. piece.span.stop) is

    by_stop : ((leb rest.span.stop piece.span.stop ≡ true) × (rest.span.stop ≤ piece.span.stop))
        ⊎ ((leb rest.span.stop piece.span.stop ≡ false) × (piece.span.stop < rest.span.stop))
        → Continues (counted giving) state (as_chunk rest ∷ items) (as_chunk piece ∷ []) (after_piece_of rest.span.stop state piece)
        (rest_of piece.span.stop rest.span.stop rest.instant ++ items)
    by_stop (inl ended) =
        let whole : piece.span.stop ≡ rest.span.stop = omega (arith, ended.1, stop_is) in
        let nothing : rest.span.stop - piece.span.stop ≡ 0 = omega arith in
        rw (le-ltb piece.span.stop rest.span.stop ended.1, eq-eqb piece.span.stop rest.span.stop whole)
        (cut_ends giving state rest piece items running
        (first ∙ ap (λ left. as_chunk piece ∷ leave wait piece.instant rest.instant (cut size (state.pieces + 1) piece.span.stop left left)) nothing))
    by_stop (inr more) =
        let other : piece.span.stop ≢ rest.span.stop = omega (arith, more.1) in
        rw (lt-ltb piece.span.stop rest.span.stop more.1, ne_eqb piece.span.stop rest.span.stop other)
        (cut_goes_on giving state rest (record { span = record { start = piece.span.stop; stop = rest.span.stop }; instant = rest.instant }) piece items _
        running first
        (cuts (with_piece state piece) (record { start = piece.span.stop; stop = rest.span.stop }) rest.instant))
