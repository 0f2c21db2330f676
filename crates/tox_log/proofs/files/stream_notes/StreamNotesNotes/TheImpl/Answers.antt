-- No events are kept.
use Rattle.std.proofs.Common.{rules}
use Rattle.tox_log.proofs.files.stream_notes.StreamNotesNotes.TheImpl.Goals as goal

pub note-tells : goal.note-tells
note-tells g c = rw c.ensures.goes_on (search rules)
