-- Lines that are taken from blocks.
use Rattle.std.proofs.Common.{◌≡◌, ℕ, true, false, List, [], ◌∷◌, ◌++◌, Option, ap, sym, subst, ◌∙◌, append_assoc}
use Rattle.std.specs.Io.KnownBytes.{IsAtEnd, prepend_known}
use Rattle.std.specs.Prelude.{◌≢◌}
use Rattle.std.proofs.lemmas.List.Elements.{All-append}
use Rattle.tox_link.proofs.Sent.{prepend-append, prepend_more}
use Rattle.tox_log.specs.declared.line_reader.LineReader.{LineReader}
use Rattle.tox_log.specs.Numbers.{Lacks}
use Rattle.tox_log.specs.Reading.{HasLine, Takes, TakesLine, TakesPart, TakesRest, to_take, waiting}

-- a part more was taken, behind a block that was read
takes-more : (old mid next new : LineReader) (before between after : Option (List ℕ)) (text part taken : List ℕ) → Takes old mid before between text text
    → to_take mid between ≡ to_take next after → (next.line ≡ mid.line) × (next.long ≡ mid.long) → waiting next ≡ taken ++ waiting new
    → ((text : List ℕ) → HasLine next text → HasLine new (text ++ part)) → Takes old new before after (text ++ part) (text ++ taken)
takes-more old mid next new before between after text part taken takes filled same parts line = record {
  given = prepend_more text taken (to_take old before) (to_take mid between) (to_take new after) takes.given
      (filled ∙ ap (λ bytes. prepend_known bytes after) parts ∙ prepend-append taken (waiting new) after);
  line = line text (λ short. ap (λ line. line.items) same.0 ∙ takes.line.0 (sym same.1 ∙ short), λ fits. same.1 ∙ takes.line.1 fits);
}

-- a part without a line feed
pub takes-part : (old mid next new : LineReader) (before between after : Option (List ℕ))
    → (text : List ℕ) × Takes old mid before between text text × Lacks 10 text
    → to_take mid between ≡ to_take next after → (next.line ≡ mid.line) × (next.long ≡ mid.long)
    → TakesPart next new false
    → (text : List ℕ) × Takes old new before after text text × Lacks 10 text
takes-part old mid next new before between after (text, takes, lacks) filled same more = (
  text ++ more.part,
  takes-more old mid next new before between after text more.part more.part takes filled same more.given more.line,
  All-append (λ other. other ≢ 10) text more.part lacks more.unended,
)

-- the last part of a line, and its line feed
pub takes-line : (old mid next new : LineReader) (before between after : Option (List ℕ))
    → (text : List ℕ) × Takes old mid before between text text × Lacks 10 text
    → to_take mid between ≡ to_take next after → (next.line ≡ mid.line) × (next.long ≡ mid.long)
    → TakesPart next new true
    → TakesLine old new before after
takes-line old mid next new before between after (text, takes, lacks) filled same more = (
  text ++ more.part,
  subst-taken (takes-more old mid next new before between after text more.part (more.part ++ 10 ∷ []) takes filled same (more.given ∙ simp append_assoc)
      more.line),
  All-append (λ other. other ≢ 10) text more.part lacks more.unended,
)
  where
    subst-taken : Takes old new before after (text ++ more.part) (text ++ (more.part ++ 10 ∷ []))
        → Takes old new before after (text ++ more.part) ((text ++ more.part) ++ 10 ∷ [])
    subst-taken = subst (Takes old new before after (text ++ more.part)) (sym (append_assoc text more.part (10 ∷ [])))

-- a last part, and no more bytes
pub takes-rest : (old mid next : LineReader) (before between after : Option (List ℕ)) → (text : List ℕ) × Takes old mid before between text text × Lacks 10 text
    → to_take mid between ≡ to_take next after → IsAtEnd (to_take next after) → TakesRest old next before after
takes-rest old mid next before between after (text, takes, lacks) filled ended =
    record { torn = text; given = takes.given ∙ ap (prepend_known text) filled; unended = lacks; ended = ended }
