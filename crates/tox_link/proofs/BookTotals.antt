-- The totals of a book, and a change of one link.
use Rattle.std.proofs.Common.{◌≡◌, ℕ, ◌*◌, ◌<◌, ◌≤◌, List, length, All, slice_index_or, slice_set, refl, sym, ap, subst, arith}
use Rattle.std.specs.List.{sum_by}
use Rattle.std.proofs.lemmas.List.Sums.{sum_by-le, sum_by-set}
use Rattle.std.proofs.lemmas.List.Elements.{All-set}
use Rattle.tox_time.specs.declared.streams.stream.Stream.{Stream}
use Rattle.tox_time.specs.declared.streams.stream.Stream.TheVariants.{Upstream, Downstream}
use Rattle.tox_link.specs.declared.book.sides.Link.{Link}
use Rattle.tox_link.specs.declared.book.sides.Side.{Side}
use Rattle.tox_link.specs.book.Links.{side_of, with_side, total_of, IsBounded}

-- the total of a stream is within the room of all links
pub total_bound : (stream : Stream) (links : List Link) → All IsBounded links → total_of stream links ≤ length links * 1099511627776
total_bound Upstream links bounded = sum_by-le (λ (link : Link). link.upstream.bytes) 1099511627776 links (λ k d below. (bounded k d below).0)
total_bound Downstream links bounded = sum_by-le (λ (link : Link). link.downstream.bytes) 1099511627776 links (λ k d below. (bounded k d below).1)

-- where a link's bytes stay, so does the sum
sum_kept : (f : Link → ℕ) (links : List Link) (place : ℕ) (link new : Link) → place < length links → link ≡ slice_index_or links place link → f new ≡ f link
    → sum_by f (slice_set links place new) ≡ sum_by f links
sum_kept f links place link new below at same =
    let e = sum_by-set f links place new link below in
    let g = ap f at in
    omega (arith, e, g, same)

-- a side with other bytes than these leaves the bytes of the link as they were
same_bytes : (other stream : Stream) (side : Side) (link : Link) → side.bytes ≡ (side_of stream link).bytes
    → (side_of other (with_side stream side link)).bytes ≡ (side_of other link).bytes
same_bytes Upstream Upstream side link same = same
same_bytes Upstream Downstream side link same = refl
same_bytes Downstream Upstream side link same = refl
same_bytes Downstream Downstream side link same = same

-- a change that leaves the bytes of a side leaves each total
pub total_kept : (other stream : Stream) (links : List Link) (place : ℕ) (link : Link) (side : Side) → place < length links
    → link ≡ slice_index_or links place link → side.bytes ≡ (side_of stream link).bytes
    → total_of other (slice_set links place (with_side stream side link)) ≡ total_of other links
total_kept other stream links place link side below at same =
    sum_kept (λ l. (side_of other l).bytes) links place link (with_side stream side link) below at (same_bytes other stream side link same)

-- .. and each link within its bounds
pub bounds_kept : (stream : Stream) (links : List Link) (place : ℕ) (link : Link) (side : Side) → place < length links → link ≡ slice_index_or links place link
    → side.bytes ≡ (side_of stream link).bytes → All IsBounded links → All IsBounded (slice_set links place (with_side stream side link))
bounds_kept stream links place link side below at same bounded =
    let old : IsBounded link = subst IsBounded (sym at) (bounded place link below) in
    let up = same_bytes Upstream stream side link same in
    let down = same_bytes Downstream stream side link same in
    All-set IsBounded links place (with_side stream side link) (omega arith, omega arith) bounded
