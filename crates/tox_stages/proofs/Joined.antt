-- The two ends of a ring, brought together.
use Rattle.std.proofs.Common.{◌≡◌, true, List, [], ◌∷◌, ◌++◌, refl, sym, ◌∙◌, ap, subst, arith}
use Rattle.std.proofs.lemmas.List.{append-nil}
use Rattle.tox_time.specs.declared.streams.item.Item.{Item}
use Rattle.tox_time.specs.streams.Stream.{IsStream, has_final}
use Rattle.tox_defs.specs.stage.Reaction.{Reaction, flow}
use Rattle.tox_defs.specs.Laws.{IsKeptBy}
use Rattle.tox_stages.specs.Passing.{IsLinkStream, SendsFlow, PassesOn, Delivers}
use Rattle.tox_stages.proofs.Places.{whole_stream, nothing_more}

-- what a worker or the source sent is what was received of it
received_all : (below known sent : List Item) → below ++ known ≡ sent → IsLinkStream sent → (IsLinkStream (below ++ known) → IsLinkStream below) → below ≡ sent
received_all below known sent ring link whole =
    let both : IsLinkStream (below ++ known) = subst IsLinkStream (sym ring) link in
    let none : known ≡ [] = nothing_more below known (whole both).stream both.stream in
    sym (append-nil below) ∙ ap (λ rest. below ++ rest) (sym none) ∙ ring

-- at a ring into which a whole stream was sent
pub from_ring : (reactions : List Reaction) (sent below known delivered : List Item) → IsLinkStream sent → below ++ known ≡ sent
    → Delivers reactions below delivered → PassesOn reactions sent delivered
from_ring reactions sent below known delivered link ring delivers =
    let passes : PassesOn reactions below delivered = delivers (known, subst IsLinkStream (sym ring) link) in
    let same : below ≡ sent = received_all below known sent ring link (λ both. passes.whole) in
    subst (λ items. PassesOn reactions items delivered) same passes

-- one ring, which gave what came out
pub last_ring : (received delivered : List Item) → has_final received ≡ true → delivered ≡ received → Delivers [] received delivered
last_ring received delivered ended same begins = record {
  whole = whole_stream received ended begins;
  rings = record { sent = received; given = received } ∷ [];
  passed = (refl, refl, refl);
  flowed = same;
}

-- what a level promises by its worker's promise, its ring and the level below
pub level_up : (reaction : Reaction) (reactions : List Reaction) (above sent below known delivered : List Item)
    → ((items : List Item) → IsStream items → IsKeptBy items (flow reaction items))
    → SendsFlow reaction above sent → below ++ known ≡ sent → Delivers reactions below delivered → Delivers (reaction ∷ reactions) above delivered
level_up reaction reactions above sent below known delivered keeps sends ring delivers begins =
    let whole : IsLinkStream above = sends.whole begins in
    let kept : IsKeptBy above (flow reaction above) = keeps above whole.stream in
    let given : IsLinkStream (flow reaction above) = record { stream = kept.stream; few = (let few = whole.few in let fewer = kept.bytes in omega arith) } in
    let passes : PassesOn reactions (flow reaction above) delivered = from_ring reactions (flow reaction above) below known delivered given
    (ring ∙ sends.flowed begins) delivers in
    record {
      whole = whole;
      rings = record { sent = above; given = above } ∷ passes.rings;
      passed = (refl, refl, passes.passed);
      flowed = passes.flowed;
    }
