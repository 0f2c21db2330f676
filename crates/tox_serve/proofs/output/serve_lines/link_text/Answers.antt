-- The parts are the name, the number and both sides.
use Rattle.std.proofs.Common.{◌≡◌, List, ◌++◌, ℕ, codes, decimal, append_assoc, subst}
use Rattle.tox_text.specs.Names.{visible_name}
use Rattle.tox_serve.specs.declared.link.end.LinkEnd.{LinkEnd}
use Rattle.tox_serve.specs.output.ServeLines.{end_word, link_end_line}
use Rattle.tox_serve.specs.output.LineText.{IsLine}
use Rattle.tox_serve.proofs.output.serve_lines.link_text.Goals as goal

two-sides : (title name a number b sent c ended d received e other f : List ℕ)
    → title ++ (name ++ (a ++ (number ++ (b ++ (sent ++ (c ++ (ended ++ (d ++ (received ++ (e ++ (other ++ f)))))))))))
    ≡ title ++ name ++ a ++ number ++ b ++ (sent ++ c ++ ended) ++ d ++ (received ++ e ++ other) ++ f
two-sides title name a number b sent c ended d received e other f = simp append_assoc

link_end_line-parts : (name : List ℕ) (end : LinkEnd)
    → codes "link " ++ (visible_name name ++ (codes " " ++ (decimal end.number
    ++ (codes " up " ++ (decimal end.upstream.bytes ++ (codes " " ++
    (end_word end.upstream.ending ++ (codes " down " ++ (decimal end.downstream.bytes
    ++ (codes " " ++ (end_word end.downstream.ending ++ codes "\n")))))))))))
    ≡ link_end_line name end
link_end_line-parts name end =
    two-sides (codes "link ") (visible_name name) (codes " ") (decimal end.number) (codes " up ") (decimal end.upstream.bytes) (codes " ")
    (end_word end.upstream.ending) (codes " down ") (decimal end.downstream.bytes) (codes " ") (end_word end.downstream.ending) (codes "\n")

pub returns : goal.returns
returns c =
    subst (IsLine c.of.result) (link_end_line-parts c.args.name.now c.args.end.now)
    (rw (c.end_word.ensures, c.end_word-2.ensures) at c.of.ensures.line)
