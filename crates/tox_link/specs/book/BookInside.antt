-- What the fields of a `Book` keep.
use Rattle.std.specs.Prelude.{◌≡◌, ◌≤◌, length, All}
use Rattle.tox_time.specs.declared.streams.stream.Stream.TheVariants.{Upstream, Downstream}
use Rattle.tox_link.specs.declared.book.Book.TheInside.{Inside}
use Rattle.tox_link.specs.book.Links.{IsBounded, total_of}

-- at most 1,000,000 links, each within its bounds, and the sums of their bytes
pub record IsTotalled (book : Inside) : Type 0 where
  pub upstream : book.upstream ≡ total_of Upstream book.links.items
  pub downstream : book.downstream ≡ total_of Downstream book.links.items
  pub bounded : All IsBounded book.links.items
  pub few : length book.links.items ≤ 1000000
