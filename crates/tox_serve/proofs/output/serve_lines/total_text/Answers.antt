-- The parts are the name and the three numbers of the book.
use Rattle.std.proofs.Common.{◌≡◌, List, ◌++◌, ℕ, codes, decimal, length, append_assoc, subst}
use Rattle.tox_time.specs.declared.streams.stream.Stream.TheVariants.{Upstream, Downstream}
use Rattle.tox_link.specs.declared.book.sides.Link.{Link}
use Rattle.tox_link.specs.book.Links.{total_of}
use Rattle.tox_text.specs.Names.{visible_name}
use Rattle.tox_serve.specs.output.ServeLines.{proxy_total_line}
use Rattle.tox_serve.specs.output.LineText.{IsLine}
use Rattle.tox_serve.proofs.output.serve_lines.total_text.Goals as goal

proxy_total_line-parts : (name : List ℕ) (links : List Link)
    → codes "total " ++ (visible_name name ++ (codes " " ++ (decimal (length links)
    ++ (codes " up " ++ (decimal (total_of Upstream links) ++ (codes " down " ++ (decimal (total_of Downstream links) ++ codes "\n")))))))
    ≡ proxy_total_line name links
proxy_total_line-parts name links = simp append_assoc

pub returns : goal.returns
returns c =
    subst (IsLine c.of.result) (proxy_total_line-parts c.args.name.now c.args.book.now)
    (rw (c.links.ensures, c.total-upstream.ensures, c.total-downstream.ensures) at c.of.ensures.line)
