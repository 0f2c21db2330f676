-- By the logs that there are.
use Rattle.std.proofs.Common.{ap, ◌∙◌}
use Rattle.tox_draw.specs.pages.LinkLogs.{link_words}
use Rattle.tox_draw.proofs.pages.conversations.section_text.Goals as goal

pub returns-in-One : goal.returns-in-One
returns-in-One g c = rw c.in-One.is (rw (c.ended_by-words.ensures ∙ ap link_words c.in-One.is) at c.one_text.ensures)

pub returns-in-Both : goal.returns-in-Both
returns-in-Both g c = rw c.in-Both.is (rw (c.ended_by-words.ensures ∙ ap link_words c.in-Both.is) at c.both_text.ensures)
