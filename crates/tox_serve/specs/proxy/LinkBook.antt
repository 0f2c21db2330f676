-- The book of a proxy's links while they end.
use Rattle.std.specs.Prelude.{◌+◌, Bool, true, false, nat_le, length, min}
use Rattle.tox_serve.specs.declared.link.end.LinkEnd.{LinkEnd}
use Rattle.tox_serve.specs.declared.proxy.link_book.LinkBook.{LinkBook}
use Rattle.tox_serve.specs.link.LinkEnds.{settled}

-- the book after the end of a link: it is settled and counted, unless the book is closed
abbrev pub after_end : LinkEnd → LinkBook → Bool → LinkBook
after_end end links true = links
after_end end links false =
    record { book = settled end links.book; ended = min (links.ended + 1) 18446744073709551615; closed = links.closed }

-- whether each link that was opened has ended
abbrev pub have_ended : LinkBook → Bool
have_ended links = nat_le (length links.book) links.ended
