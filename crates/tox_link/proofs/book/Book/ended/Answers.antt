-- How a side ended changes no total.
use Rattle.std.proofs.Common.{◌≡◌, ◌<◌, slice_index_or, length, ap, sym, ◌∙◌, rules}
use Rattle.std.proofs.Math.ListN.{length-set}
use Rattle.tox_time.specs.declared.streams.stream.Stream.TheVariants.{Upstream, Downstream}
use Rattle.tox_link.specs.declared.book.sides.Side.{Side}
use Rattle.tox_link.specs.book.Links.{side_of}
use Rattle.tox_link.proofs.BookTotals.{total_kept, bounds_kept}
use Rattle.tox_link.proofs.book.Book.ended.Goals as goal

pub invariant_of-self : goal.invariant_of-self
invariant_of-self c =
    let links = c.self.inside.links.items in
    let place = c.in_ok-place.place in
    let link = c.in_ok-place.link in
    let stream = c.args.stream in
    let side : Side = record c.side.result { state = c.of_end.result } in
    let below : place < length links = search rules in
    let at : link ≡ slice_index_or links place link = search rules in
    let same : side.bytes ≡ (side_of stream link).bytes = ap (λ (s : Side). s.bytes) c.side.ensures in
    let kept = c.self.invariant in
    rw c.with_side.ensures (record {
      upstream = kept.upstream ∙ sym (total_kept Upstream stream links place link side below at same);
      downstream = kept.downstream ∙ sym (total_kept Downstream stream links place link side below at same);
      bounded = bounds_kept stream links place link side below at same kept.bounded;
      few = simp length-set kept.few;
    })
