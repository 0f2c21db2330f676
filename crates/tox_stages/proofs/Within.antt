-- Each chunk that a chain gives lies in one arrival.
use Rattle.std.proofs.Common.{◌≡◌, ℕ, zero, suc, ◌<◌, ◌≤◌, max, Bool, true, false, List, [], ◌∷◌, ◌++◌, length, map, Some, sym, subst, arith, if◌then◌else◌}
use Rattle.std.specs.Prelude.{Any}
use Rattle.std.specs.List.{slice_index_or}
use Rattle.tox_time.specs.declared.streams.span.Span.{Span}
use Rattle.tox_time.specs.declared.streams.slice.Slice.{Slice}
use Rattle.tox_time.specs.declared.streams.item.Item.{Item}
use Rattle.tox_time.specs.declared.streams.item.Item.TheVariants.{Chunk, Closed, Reset, Quiet}
use Rattle.tox_time.specs.declared.streams.ending.Ending.{Ending}
use Rattle.tox_time.specs.streams.Stream.{IsStreamFrom}
use Rattle.tox_time.specs.streams.Neighbours.{LiesInChunk, AreNeighbours}
use Rattle.tox_words.specs.Draw.{Draws}
use Rattle.tox_defs.specs.declared.operations.state.State.{State}
use Rattle.tox_defs.specs.chain.Chain.{Toxics}
use Rattle.tox_defs.specs.stage.Reaction.{Answer, Giving, react, counted, flow_from, first_state, flow_through}
use Rattle.tox_defs.specs.toxics.Ordered.{in_order}
use Rattle.tox_defs.specs.operations.During.{during, is_outside, uncounted_answer}
use Rattle.tox_defs.specs.declared.chain.applied.Placed.{Placed}
use Rattle.tox_defs.specs.Flow.{toxic_from, toxic_giving, toxic_reaction, toxic_until, applied, chain_draws, chain_flow}
use Rattle.tox_defs.specs.Laws.{toxic_flow}
use Rattle.tox_defs.proofs.ToxicProofs.{toxic_facts}
use Rattle.tox_defs.proofs.Within.{GivesWithin, LieWithin, chunk_within, in_first}
use Rattle.tox_network.specs.Shown.{shown}

-- behind the first of them
in_later : (span : Span) (item : Item) (items : List Item) → Any (LiesInChunk span) items → Any (LiesInChunk span) (item ∷ items)
in_later span item items found = (suc found.0, found.1, (let below = found.2 in omega arith), found.3, found.4)

later_within : (item : Item) (items given : List Item) → LieWithin items given → LieWithin (item ∷ items) given
later_within item items [] within = tt
later_within item items (Chunk span t ∷ given) within = (in_later span item items within.0, later_within item items given within.1)
later_within item items (Closed t ∷ given) within = later_within item items given within
later_within item items (Reset t ∷ given) within = later_within item items given within
later_within item items (Quiet ∷ given) within = later_within item items given within

both_within : (items given others : List Item) → LieWithin items given → LieWithin items others → LieWithin items (given ++ others)
both_within items [] others within rest = rest
both_within items (Chunk span t ∷ given) others within rest = (within.0, both_within items given others within.1 rest)
both_within items (Closed t ∷ given) others within rest = both_within items given others within rest
both_within items (Reset t ∷ given) others within rest = both_within items given others within rest
both_within items (Quiet ∷ given) others within rest = both_within items given others within rest

themselves_within : (items : List Item) → LieWithin items items
themselves_within [] = tt
themselves_within (Chunk span t ∷ items) = (
  in_first span span t items (omega arith) (omega arith),
  later_within (Chunk span t) items items (themselves_within items),
)
themselves_within (Closed t ∷ items) = later_within (Closed t) items items (themselves_within items)
themselves_within (Reset t ∷ items) = later_within (Reset t) items items (themselves_within items)
themselves_within (Quiet ∷ items) = later_within Quiet items items (themselves_within items)

-- a span within one that lies in an item lies in it too
wider : (span whole : Span) (item : Item) → whole.start ≤ span.start → span.stop ≤ whole.stop → LiesInChunk whole item → LiesInChunk span item
wider span whole (Chunk outer t) from to lies = (omega (arith, lies.0), omega (arith, lies.1))
wider span whole (Closed t) from to lies = lies
wider span whole (Reset t) from to lies = lies
wider span whole Quiet from to lies = lies

in_what_lies : (span : Span) (items given : List Item) (k : ℕ) (item : Item) → LieWithin items given → k < length given → slice_index_or given k item ≡ item
    → LiesInChunk span item → Any (LiesInChunk span) items
in_what_lies span items [] k item within below is lies = absurd (omega arith)
in_what_lies span items (Chunk whole t ∷ given) zero item within below is lies =
    let bounds : LiesInChunk span (Chunk whole t) = subst (LiesInChunk span) (sym is) lies in
    let found = within.0 in
    (found.0, found.1, found.2, found.3, wider span whole found.1 bounds.0 bounds.1 found.4)
in_what_lies span items (Chunk whole t ∷ given) (suc k) item within below is lies = in_what_lies span items given k item within.1 (omega arith) is lies
in_what_lies span items (Closed t ∷ given) zero item within below is lies = absurd (subst (LiesInChunk span) (sym is) lies)
in_what_lies span items (Closed t ∷ given) (suc k) item within below is lies = in_what_lies span items given k item within (omega arith) is lies
in_what_lies span items (Reset t ∷ given) zero item within below is lies = absurd (subst (LiesInChunk span) (sym is) lies)
in_what_lies span items (Reset t ∷ given) (suc k) item within below is lies = in_what_lies span items given k item within (omega arith) is lies
in_what_lies span items (Quiet ∷ given) zero item within below is lies = absurd (subst (LiesInChunk span) (sym is) lies)
in_what_lies span items (Quiet ∷ given) (suc k) item within below is lies = in_what_lies span items given k item within (omega arith) is lies

through_within : (items given last : List Item) → LieWithin items given → LieWithin given last → LieWithin items last
through_within items given [] within inner = tt
through_within items given (Chunk span t ∷ last) within inner =
    let found = inner.0 in
    (in_what_lies span items given found.0 found.1 within found.2 found.3 found.4, through_within items given last within inner.1)
through_within items given (Closed t ∷ last) within inner = through_within items given last within inner
through_within items given (Reset t ∷ last) within inner = through_within items given last within inner
through_within items given (Quiet ∷ last) within inner = through_within items given last within inner

-- Flows

in_order_within : (since : ℕ) (item : Item) (items : List Item) → LieWithin (item ∷ items) (in_order since item ∷ [])
in_order_within since (Chunk span t) items = chunk_within span t (max since t) items
in_order_within since (Closed t) items = tt
in_order_within since (Reset t) items = tt
in_order_within since Quiet items = tt

either_within : (outside : Bool) (giving : Giving) (state : State) (item : Item) (items : List Item) → GivesWithin giving
    → LieWithin (item ∷ items) (if outside then uncounted_answer state item else counted giving state item).given
either_within true giving state item items gives = in_order_within state.previous item items
either_within false giving state item items gives = gives state item items

react_within : (done : Bool) (from until : ℕ) (giving : Giving) (state : State) (item : Item) (items : List Item) → GivesWithin giving
    → LieWithin (item ∷ items) (if done then (record { state = state; given = [] }) else during from until (counted giving) state item).given
react_within true from until giving state item items gives = tt
react_within false from until giving state item items gives = either_within (is_outside from until item) giving state item items gives

flow_within : (from until : ℕ) (giving : Giving) → GivesWithin giving → (state : State) (items : List Item)
    → LieWithin items (flow_from (during from until (counted giving)) state items)
flow_within from until giving gives state [] = tt
flow_within from until giving gives state (item ∷ items) =
    let answer : Answer = react (during from until (counted giving)) state item in
    both_within (item ∷ items) answer.given (flow_from (during from until (counted giving)) answer.state items)
    (react_within state.done from until giving state item items gives)
    (later_within item items (flow_from (during from until (counted giving)) answer.state items) (flow_within from until giving gives answer.state items))

toxics_within : (toxics : List Placed) (draws : Draws) (items : List Item)
    → LieWithin items (flow_through (map (λ placed. toxic_reaction placed.toxic (draws placed.place)) toxics) items)
toxics_within [] draws items = themselves_within items
toxics_within (placed ∷ toxics) draws items =
    let given = toxic_flow placed.toxic (draws placed.place) items in
    through_within items given (flow_through (map (λ placed. toxic_reaction placed.toxic (draws placed.place)) toxics) given)
    (flow_within (toxic_from placed.toxic) (toxic_until placed.toxic) (toxic_giving placed.toxic (draws placed.place))
    ((toxic_facts placed.toxic).within (draws placed.place)) first_state items)
    (toxics_within toxics draws given)

pub chain_within : (chain : Toxics) (words : List ℕ) (items : List Item) → LieWithin items (chain_flow chain words items)
chain_within chain words items = toxics_within (applied chain words) (chain_draws chain words) items

-- slices that show a stream of such chunks are neighbours
pub neighbours_shown : (items : List Item) (position since : ℕ) (slices : List Slice) (ending : Ending)
    → IsStreamFrom position since (shown slices (Some ending))
    → LieWithin items (shown slices (Some ending)) → AreNeighbours items position slices
neighbours_shown items position since [] ending stream within = tt
neighbours_shown items position since (slice ∷ slices) ending stream within =
    (stream.0, stream.1, within.0, neighbours_shown items slice.span.stop slice.instant slices ending stream.4 within.1)
