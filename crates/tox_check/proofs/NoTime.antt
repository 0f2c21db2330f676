-- A toxic that stops no later than it begins changes no stream: every chunk is outside its time.
use Rattle.std.proofs.Common.{◌≡◌, ℕ, zero, suc, ◌+◌, ◌*◌, ◌<◌, ◌≤◌, max, ◌||◌, Bool, true, false, List, [], ◌∷◌, ◌++◌, Some, arith, refl, ap, ap₂, sym, ◌∙◌}
use Rattle.std.specs.Prelude.{All, nat_le, nat_lt}
use Rattle.std.specs.List.{slice_get}
use Rattle.std.proofs.lemmas.Bool.{and_parts, le-leb, leb-true, ltb-false, ltb-true}
use Rattle.std.proofs.lemmas.List.Elements.{All-head, All-tail}
use Rattle.tox_time.specs.declared.streams.span.Span.{Span}
use Rattle.tox_time.specs.declared.streams.item.Item.{Item}
use Rattle.tox_time.specs.declared.streams.item.Item.TheVariants.{Chunk, Closed, Reset, Quiet}
use Rattle.tox_time.specs.declared.streams.ending.Ending.TheVariants.{StillOpen, Closed as ClosedAt, Reset as ResetAt}
use Rattle.tox_time.specs.streams.Stream.{IsStream, IsStreamFrom}
use Rattle.tox_time.specs.streams.Table.{ending, table}
use Rattle.tox_words.specs.Draw.{Draws}
use Rattle.tox_defs.specs.declared.chain.Entry.{Entry}
use Rattle.tox_defs.specs.declared.toxic.Toxic.{Toxic}
use Rattle.tox_defs.specs.declared.toxic.Toxic.TheVariants.{Latency, Bandwidth, SlowClose, Timeout, ResetPeer, Slicer, LimitData}
use Rattle.tox_defs.specs.chain.Applied.{is_applied}
use Rattle.tox_defs.specs.chain.Chain.{Toxics, IsChain, IsEntry}
use Rattle.tox_defs.specs.Flow.{chain_draws, toxic_from, toxic_until}
use Rattle.tox_defs.specs.Laws.{toxic_flow}
use Rattle.tox_defs.specs.operations.During.{during, is_outside}
use Rattle.tox_defs.specs.stage.Reaction.{Answer, Giving, counted, flow_from}
use Rattle.tox_defs.specs.toxics.Bandwidth.{pace_gives}
use Rattle.tox_defs.specs.toxics.Latency.{latency_gives}
use Rattle.tox_defs.specs.toxics.Slicer.{slicer_gives}
use Rattle.tox_defs.specs.toxics.Varied.{varied}
use Rattle.tox_defs.proofs.OpenStates.{open_state}
use Rattle.tox_defs.proofs.Windows.{during-outside}
use Rattle.tox_check.proofs.FinalsKept.{OrdersFinals, delay-orders, final-kept, pace-orders, slicing-orders}
use Rattle.tox_check.proofs.Through.{through, through-cons, through-silenced, through_one, through_one-stream}
use Rattle.tox_check.specs.Idle.{ChangesNothing, has_no_time, silenced}

-- every chunk comes before the one instant or past the other
outside : (from until : ℕ) (span : Span) (t : ℕ) → 0 < until → until ≤ from → is_outside from until (Chunk span t) ≡ true
outside from zero span t some before = absurd (omega arith)
outside zero (suc until) span t some before = absurd (omega arith)
outside (suc from) (suc until) span t some before = by (nat_lt t (1000 * suc from)) refl
  where
    by : (e : Bool) → nat_lt t (1000 * suc from) ≡ e → (nat_lt t (1000 * suc from) || nat_le (1000 * suc until) t) ≡ true
    by true is = rw is refl
    by false is =
        let past = ltb-false t (1000 * suc from) is in
        let late : 1000 * suc until ≤ t = omega (arith, before, past) in rw (is, le-leb (1000 * suc until) t late) refl

-- the items of a stream stay as they are
kept : (from until : ℕ) (giving : Giving) (items : List Item) (p c n b position since : ℕ) → OrdersFinals giving → 0 < until → until ≤ from → p ≤ since
    → IsStreamFrom position since items
    → flow_from (during from until (counted giving)) (open_state p c n b) items ≡ items
kept from until giving [] p c n b position since orders some before early stream = absurd stream
kept from until giving (Chunk span t ∷ items) p c n b position since orders some before early stream =
    let reaction = during from until (counted giving) in
    let at : max p t ≡ t = omega (arith, early, stream.2) in
    ap (λ (answer : Answer). answer.given ++ flow_from reaction answer.state items)
    (during-outside from until (counted giving) (open_state p c n b) (Chunk span t) (outside from until span t some before))
    ∙ ap₂ (λ (t : ℕ) (items : List Item). Chunk span t ∷ items) at (kept from until giving items (max p t) c n b span.stop t orders some before
    (omega (arith, at)) stream.4)
kept from until giving (Closed t ∷ items) p c n b position since orders some before early stream =
    let same : max p t ≡ t = omega (arith, early, stream.0) in
    rw stream.2 (final-kept from until giving (ClosedAt t) p c n b orders (ap (λ (t : ℕ). Closed t) same))
kept from until giving (Reset t ∷ items) p c n b position since orders some before early stream =
    let same : max p t ≡ t = omega (arith, early, stream.0) in
    rw stream.2 (final-kept from until giving (ResetAt t) p c n b orders (ap (λ (t : ℕ). Reset t) same))
kept from until giving (Quiet ∷ items) p c n b position since orders some before early stream =
    rw stream (final-kept from until giving StillOpen p c n b orders refl)

no_time : (toxic : Toxic) → has_no_time toxic ≡ true → (0 < toxic_until toxic) × (toxic_until toxic ≤ toxic_from toxic)
no_time toxic is =
    let both = and_parts (nat_lt 0 (toxic_until toxic)) (nat_le (toxic_until toxic) (toxic_from toxic)) is in
    (ltb-true 0 (toxic_until toxic) both.0, leb-true (toxic_until toxic) (toxic_from toxic) both.1)

-- the toxic keeps each stream
toxic-same : (toxic : Toxic) (words : ℕ → ℕ) (items : List Item) → has_no_time toxic ≡ true → IsStream items → toxic_flow toxic words items ≡ items
toxic-same (Latency latency jitter until from) words items is stream =
    let time = no_time (Latency latency jitter until from) is in
    kept from until (latency_gives latency jitter words) items 0 0 0 0 0 0 (delay-orders (λ chunk. 1000 * varied latency jitter (words (1 + chunk)))) time.0
    time.1 (omega arith) stream
toxic-same (Bandwidth rate until from) words items is stream =
    let time = no_time (Bandwidth rate until from) is in kept from until (pace_gives rate) items 0 0 0 0 0 0 (pace-orders rate) time.0 time.1 (omega arith)
    stream
toxic-same (Slicer average variation delay until from) words items is stream =
    let time = no_time (Slicer average variation delay until from) is in
    kept from until (slicer_gives average variation delay words) items 0 0 0 0 0 0
    (slicing-orders (λ piece. varied average variation (words (1 + piece))) delay) time.0 time.1 (omega arith) stream
toxic-same (SlowClose delay) words items is stream = absurd (cc)
toxic-same (Timeout timeout from after) words items is stream = absurd (cc)
toxic-same (ResetPeer timeout after) words items is stream = absurd (cc)
toxic-same (LimitData bytes) words items is stream = absurd (cc)

one-same : (e : Bool) (toxic : Toxic) (words : ℕ → ℕ) (items : List Item) → has_no_time toxic ≡ true → IsStream items → through_one e toxic words items ≡ items
one-same true toxic words items is stream = toxic-same toxic words items is stream
one-same false toxic words items is stream = refl

-- without it the others give the same
without-same : (draws : Draws) (place k : ℕ) (entries : List Entry) (entry : Entry) (items : List Item) → All IsEntry entries → has_no_time entry.toxic ≡ true
    → slice_get entries k ≡ Some entry → IsStream items → through draws place entries items ≡ through draws place (silenced k entries) items
without-same draws place k [] entry items fit is found stream = refl
without-same draws place zero (first ∷ entries) entry items fit is found stream =
    let same : first ≡ entry = cc in
    let is' : has_no_time first.toxic ≡ true = ap (λ (e : Entry). has_no_time e.toxic) same ∙ is in
    through-cons draws place first entries items
    ∙ ap (λ (items : List Item). through draws (place + 1) entries items) (one-same (is_applied first place draws) first.toxic (draws place) items is' stream)
    ∙ sym (through-silenced draws place first entries items)
without-same draws place (suc k) (first ∷ entries) entry items fit is found stream =
    let e = is_applied first place draws in
    let given = through_one-stream e first.toxic (draws place) items (All-head IsEntry first entries fit).0 stream in
    through-cons draws place first entries items
    ∙ without-same draws (place + 1) k entries entry (through_one e first.toxic (draws place) items) (All-tail IsEntry first entries fit) is found given
    ∙ sym (through-cons draws place first (silenced k entries) items)

pub no_time-same : (chain : Toxics) (k : ℕ) (entry : Entry) → IsChain chain → slice_get chain.entries k ≡ Some entry → has_no_time entry.toxic ≡ true
    → ChangesNothing k chain
no_time-same chain k entry fits found is words items stream =
    let same = without-same (chain_draws chain words) 0 k chain.entries entry items fits.entries_fit is found stream in
    record { tables = ap table same; endings = ap ending same }
