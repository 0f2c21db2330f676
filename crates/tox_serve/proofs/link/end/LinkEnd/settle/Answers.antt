-- Each of the four calls leaves the links as its change does.
use Rattle.std.proofs.Common.{ap, ◌∙◌}
use Rattle.tox_time.specs.declared.streams.stream.Stream.TheVariants.{Upstream, Downstream}
use Rattle.tox_link.specs.book.Links.{changed, with_bytes, with_end}
use Rattle.tox_serve.specs.link.LinkEnds.{after_change}
use Rattle.tox_serve.proofs.ServeLemmas.{left}
use Rattle.tox_serve.proofs.link.end.LinkEnd.settle.Goals as goal

pub returns : goal.returns
returns c =
    let end' = c.args.self.now in
    let number = end'.number in
    let up = left c.args.book.now c.add_bytes.result c.add_bytes.new.self (changed (with_bytes end'.upstream.bytes) c.args.book.now number Upstream)
    c.add_bytes.ensures in
    let both = left c.add_bytes.new.self c.add_bytes-2.result c.add_bytes-2.new.self
    (changed (with_bytes end'.downstream.bytes) c.add_bytes.new.self number Downstream) c.add_bytes-2.ensures in
    let one = left c.add_bytes-2.new.self c.ended.result c.ended.new.self (changed (with_end end'.upstream.ending) c.add_bytes-2.new.self number Upstream)
    c.ended.ensures in
    let two = left c.ended.new.self c.ended-2.result c.ended-2.new.self (changed (with_end end'.downstream.ending) c.ended.new.self number Downstream)
    c.ended-2.ensures in
    two ∙ ap (after_change (with_end end'.downstream.ending) number Downstream)
    (one ∙ ap (after_change (with_end end'.upstream.ending) number Upstream)
    (both ∙ ap (after_change (with_bytes end'.downstream.bytes) number Downstream) up))
