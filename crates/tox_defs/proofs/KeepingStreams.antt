-- A reaction that keeps streams at each item gives a stream for a stream.
use Rattle.std.proofs.Common.{◌≡◌, ℕ, zero, suc, ◌+◌, ◌-◌, ◌<◌, ◌≤◌, min, max, Bool, true, false, List, [], ◌∷◌, ◌++◌, refl, ap, ◌∙◌, arith, sym, subst, inl}
use Rattle.std.proofs.Common.{inr, ◌⊎◌}
use Rattle.std.proofs.lemmas.List.{append-nil}
use Rattle.tox_time.specs.declared.streams.span.Span.{Span}
use Rattle.tox_time.specs.declared.streams.item.Item.{Item}
use Rattle.tox_time.specs.declared.streams.item.Item.TheVariants.{Chunk, Closed, Reset, Quiet}
use Rattle.tox_time.specs.Time.{horizon, plus, IsInstant}
use Rattle.tox_time.specs.streams.Stream.{has_final, latest_from, is_final, IsStreamFrom}
use Rattle.tox_defs.specs.stage.Reaction.{Answer, Giving, Reaction, counted, flow_from}
use Rattle.tox_defs.specs.declared.operations.state.State.{State}
use Rattle.tox_defs.specs.toxics.Pieces.{cut, leave}
use Rattle.tox_defs.proofs.OpenStates.{open_state}
use Rattle.tox_defs.proofs.FlowLemmas.{flow_from-done, flow_from-last}

-- an item that can come next, after a position and an instant
abbrev pub CanFollow : ℕ → ℕ → Item → Type 0
CanFollow position since (Chunk span t) = (span.start ≡ position) × (position < span.stop) × (since ≤ t) × (IsInstant t)
CanFollow position since (Closed t) = (since ≤ t) × (IsInstant t)
CanFollow position since (Reset t) = (since ≤ t) × (IsInstant t)
CanFollow position since Quiet = Unit {0}

-- chunks in order, from a position and an instant, up to a position
abbrev pub AreChunks : ℕ → ℕ → List Item → ℕ → Type 0
AreChunks position since [] stop = position ≡ stop
AreChunks position since (Chunk span t ∷ items) stop = (span.start ≡ position) × (position < span.stop) × (since ≤ t) × (IsInstant t)
    × AreChunks span.stop t items stop
AreChunks position since (item ∷ items) stop = ⊥

-- chunks, and then a stream
IsStreamFrom-append : (chunks items : List Item) (position since stop : ℕ) → AreChunks position since chunks stop
    → IsStreamFrom stop (latest_from since chunks) items → IsStreamFrom position since (chunks ++ items)
IsStreamFrom-append [] items position since stop fits stream = rw fits stream
IsStreamFrom-append (Chunk span t ∷ chunks) items position since stop fits stream =
    (fits.0, fits.1, fits.2, fits.3, IsStreamFrom-append chunks items span.stop t stop fits.4 stream)
IsStreamFrom-append (Closed t ∷ chunks) items position since stop fits stream = absurd fits
IsStreamFrom-append (Reset t ∷ chunks) items position since stop fits stream = absurd fits
IsStreamFrom-append (Quiet ∷ chunks) items position since stop fits stream = absurd fits

-- a final ends a stream
pub IsStreamFrom-final : (item : Item) (items : List Item) (position since : ℕ) → is_final item ≡ true → CanFollow position since item → items ≡ []
    → IsStreamFrom position since (item ∷ items)
IsStreamFrom-final (Chunk span t) items position since final follows none = absurd (cc)
IsStreamFrom-final (Closed t) items position since final follows none = (follows.0, follows.1, none)
IsStreamFrom-final (Reset t) items position since final follows none = (follows.0, follows.1, none)
IsStreamFrom-final Quiet items position since final follows none = none

-- the pieces of a span, as chunks in order
pub AreChunks-leave : (size wait : ℕ → ℕ) → ((n : ℕ) → 0 < size n) → (number start left fuel since t : ℕ) → left ≤ fuel → since ≤ horizon → t ≤ horizon
    → AreChunks start since (leave wait since t (cut size number start left fuel)) (start + left)
AreChunks-leave size wait some number start zero fuel since t enough late fits = omega arith
AreChunks-leave size wait some number start (suc left) zero since t enough late fits = absurd (omega (arith, enough))
AreChunks-leave size wait some number start (suc left) (suc fuel) since t enough late fits =
    let positive : 0 < size number = some number in
    let rest : start + suc left ≡ start + min (size number) (suc left) + (suc left - size number) = omega arith in
    let leaves = plus (max since t) (wait (start + min (size number) (suc left) - start)) in (
      refl,
      omega (arith, positive),
      omega (arith, late, fits),
      omega arith,
      rw rest (AreChunks-leave size wait some (number + 1) (start + min (size number) (suc left)) (suc left - size number) fuel leaves t
          (omega (arith, enough, positive)) (omega arith) fits),
    )

-- what is given goes on with the stream, up to a position
pub record GoesOn (R : ℕ → ℕ → Type 0) (given : List Item) (start previous stop t : ℕ) : Type 0 where
  pub in_row : AreChunks start previous given stop
  pub no_final : has_final given ≡ false
  pub related : R (latest_from previous given) t
  pub instant : latest_from previous given ≤ horizon

-- or ends it
pub record EndsThere (given : List Item) (start previous : ℕ) : Type 0 where
  pub a_final : has_final given ≡ true
  pub in_row : IsStreamFrom start previous given

-- an answer whose state follows what is given: its last instant, and whether a final is among it
pub record Follows (previous : ℕ) (answer : Answer) : Type 0 where
  pub instant : answer.state.previous ≡ latest_from previous answer.given
  pub done : answer.state.done ≡ has_final answer.given

-- what counts all that it takes and gives follows it
pub counted_follows : (giving : Giving) (previous chunks pieces passed : ℕ) (item : Item)
    → Follows previous (counted giving (open_state previous chunks pieces passed) item)
counted_follows giving previous chunks pieces passed item = record { instant = refl; done = refl }

-- a reaction that keeps streams, where R stands between the last given instant and the last taken one
pub record KeepsStreams (R : ℕ → ℕ → Type 0) (reaction : Reaction) : Type 0 where
  pub at_chunk : (previous chunks pieces passed : ℕ) (span : Span) (t since : ℕ) → previous ≤ horizon → R previous since → span.start < span.stop → since ≤ t
      → t ≤ horizon
      → GoesOn R (reaction (open_state previous chunks pieces passed) (Chunk span t)).given span.start previous span.stop t
      ⊎ EndsThere (reaction (open_state previous chunks pieces passed) (Chunk span t)).given span.start previous
  pub at_final : (previous chunks pieces passed : ℕ) (item : Item) (position since : ℕ) → previous ≤ horizon → R previous since → is_final item ≡ true
      → CanFollow position since item
      → IsStreamFrom position previous (reaction (open_state previous chunks pieces passed) item).given
  pub follows : (previous chunks pieces passed : ℕ) (item : Item) → Follows previous (reaction (open_state previous chunks pieces passed) item)

-- a state that has given no final
opened : (state : State) → state.done ≡ false → state ≡ open_state state.previous state.chunks state.pieces state.passed
opened state undone =
    let make : Bool → State = λ done. record { previous = state.previous; chunks = state.chunks; pieces = state.pieces; passed = state.passed; done = done } in
    ap make undone

-- the flow behind a chunk, from the state after it
flow_behind : (R : ℕ → ℕ → Type 0) (reaction : Reaction) (answer : Answer) (previous stop t : ℕ) (items : List Item) → Follows previous answer
    → has_final answer.given ≡ false → R (latest_from previous answer.given) t → latest_from previous answer.given ≤ horizon
    → ((previous' chunks' pieces' passed' : ℕ) → previous' ≤ horizon → R previous' t
    → IsStreamFrom stop previous' (flow_from reaction (open_state previous' chunks' pieces' passed') items))
    → IsStreamFrom stop (latest_from previous answer.given) (flow_from reaction answer.state items)
flow_behind R reaction answer previous stop t items follows undone related instant others =
    let state : State = answer.state in
    let here : IsStreamFrom stop state.previous (flow_from reaction (open_state state.previous state.chunks state.pieces state.passed) items) =
    others state.previous state.chunks state.pieces state.passed (subst (λ at. at ≤ horizon) (sym follows.instant) instant)
    (subst (λ at. R at t) (sym follows.instant) related) in
    subst (λ state. IsStreamFrom stop (latest_from previous answer.given) (flow_from reaction state items)) (sym (opened state (follows.done ∙ undone)))
    (subst (λ at. IsStreamFrom stop at (flow_from reaction (open_state state.previous state.chunks state.pieces state.passed) items)) follows.instant here)

-- the flow at a chunk
flow_at_chunk : (R : ℕ → ℕ → Type 0) (reaction : Reaction) (answer : Answer) (previous : ℕ) (span : Span) (t : ℕ) (items : List Item) → Follows previous answer
    → GoesOn R answer.given span.start previous span.stop t ⊎ EndsThere answer.given span.start previous
    → ((previous' chunks' pieces' passed' : ℕ) → previous' ≤ horizon → R previous' t
    → IsStreamFrom span.stop previous' (flow_from reaction (open_state previous' chunks' pieces' passed') items))
    → IsStreamFrom span.start previous (answer.given ++ flow_from reaction answer.state items)
flow_at_chunk R reaction answer previous span t items follows (inl on) others =
    IsStreamFrom-append answer.given (flow_from reaction answer.state items) span.start previous span.stop on.in_row
    (flow_behind R reaction answer previous span.stop t items follows on.no_final on.related on.instant others)
flow_at_chunk R reaction answer previous span t items follows (inr end) others =
    rw (flow_from-done reaction answer.state items (follows.done ∙ end.a_final)) (rw (append-nil answer.given) end.in_row)

flow_at_final : (reaction : Reaction) (previous chunks pieces passed position : ℕ) (item : Item) (items : List Item) → items ≡ []
    → IsStreamFrom position previous (reaction (open_state previous chunks pieces passed) item).given
    → IsStreamFrom position previous (flow_from reaction (open_state previous chunks pieces passed) (item ∷ items))
flow_at_final reaction previous chunks pieces passed position item items none stream =
    let same : flow_from reaction (open_state previous chunks pieces passed) (item ∷ items) ≡ (reaction (open_state previous chunks pieces passed) item).given =
    flow_from-last reaction (open_state previous chunks pieces passed) item items none in
    subst (λ given. IsStreamFrom position previous given) (sym same) stream

-- streams give streams
pub IsStreamFrom-flow : (R : ℕ → ℕ → Type 0) (reaction : Reaction) → KeepsStreams R reaction
    → (items : List Item) (previous chunks pieces passed position since : ℕ) → previous ≤ horizon → R previous since → IsStreamFrom position since items
    → IsStreamFrom position previous (flow_from reaction (open_state previous chunks pieces passed) items)
IsStreamFrom-flow R reaction keeps [] previous chunks pieces passed position since fits related stream = stream
IsStreamFrom-flow R reaction keeps (Chunk span t ∷ items) previous chunks pieces passed position since fits related stream =
    rw (← stream.0)
    (flow_at_chunk R reaction (reaction (open_state previous chunks pieces passed) (Chunk span t)) previous span t items
    (keeps.follows previous chunks pieces passed (Chunk span t))
    (keeps.at_chunk previous chunks pieces passed span t since fits related (omega (arith, stream.0, stream.1)) stream.2 stream.3)
    (λ previous' chunks' pieces' passed' fits' related'. IsStreamFrom-flow R reaction keeps items previous' chunks' pieces' passed' span.stop t fits' related'
    stream.4))
IsStreamFrom-flow R reaction keeps (Closed t ∷ items) previous chunks pieces passed position since fits related stream =
    flow_at_final reaction previous chunks pieces passed position (Closed t) items stream.2
    (keeps.at_final previous chunks pieces passed (Closed t) position since fits related refl (stream.0, stream.1))
IsStreamFrom-flow R reaction keeps (Reset t ∷ items) previous chunks pieces passed position since fits related stream =
    flow_at_final reaction previous chunks pieces passed position (Reset t) items stream.2
    (keeps.at_final previous chunks pieces passed (Reset t) position since fits related refl (stream.0, stream.1))
IsStreamFrom-flow R reaction keeps (Quiet ∷ items) previous chunks pieces passed position since fits related stream =
    flow_at_final reaction previous chunks pieces passed position Quiet items stream
    (keeps.at_final previous chunks pieces passed Quiet position since fits related refl tt)
