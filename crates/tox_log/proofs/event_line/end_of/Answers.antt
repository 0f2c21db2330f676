-- The word is `reset`, or it is no line.
use Rattle.std.proofs.Common.{rules, None, ap, sym, ◌∙◌, ◌++◌, ◌∷◌, codes, decimal, append_assoc}
use Rattle.std.specs.Cmp.Lexicographic.{other_text}
use Rattle.tox_log.proofs.NoLines.{no_end, reads-same}
use Rattle.tox_log.proofs.event_line.end_of.Goals as goal

pub returns-then-eq : goal.returns-then-eq
returns-then-eq c = (
  ap (λ how. decimal c.args.reading.now ++ codes " end " ++ how) (search rules)
      ∙ append_assoc (decimal c.args.reading.now) (codes " end ") (codes "reset"),
  c.requires,
)

pub returns : goal.returns
returns c = reads-same None (decimal c.args.reading.now ++ 32 ∷ (codes "end" ++ 32 ∷ c.args.how.now)) _ (simp append_assoc)
    (no_end c.args.reading.now c.args.how.now c.requires (λ is. other_text _ _ c.if-eq.ensures (is ∙ sym c.as_slice.ensures)))
