-- A total has room for the bytes of one more side.
use Rattle.std.proofs.Common.{arith}
use Rattle.tox_time.specs.declared.streams.stream.Stream.TheVariants.{Upstream, Downstream}
use Rattle.tox_link.proofs.BookTotals.{total_bound}
use Rattle.tox_link.proofs.book.Book.add_bytes.Goals as goal

pub overflow_add-self : goal.overflow_add-self
overflow_add-self c = let b = total_bound Upstream c.self.inside.links.items c.self.invariant.bounded in omega arith

pub overflow_add-self-in-Downstream : goal.overflow_add-self-in-Downstream
overflow_add-self-in-Downstream c = let b = total_bound Downstream c.self.inside.links.items c.self.invariant.bounded in omega arith
