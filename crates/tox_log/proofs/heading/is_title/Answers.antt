-- The line is the first one where it has its bytes.
use Rattle.std.proofs.Common.{◌++◌, ◌∷◌, [], codes, ap, sym, ◌∙◌}
use Rattle.std.proofs.lemmas.List.{append_cancel_right}
use Rattle.std.specs.Cmp.Lexicographic.{bytes_decides}
use Rattle.tox_log.proofs.heading.is_title.Goals as goal

pub returns : goal.returns
returns c = (
  λ is. ap (λ line. line ++ 10 ∷ []) ((bytes_decides c.args.line.now c.as_slice.result.now).0 (sym c.eq.ensures ∙ is) ∙ c.as_slice.ensures),
  λ same. c.eq.ensures ∙ (bytes_decides c.args.line.now c.as_slice.result.now).1
      (append_cancel_right c.args.line.now (codes "toxi log 1") (10 ∷ []) same ∙ sym c.as_slice.ensures),
)
