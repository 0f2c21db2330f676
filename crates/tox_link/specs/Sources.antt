-- How a link's source ended, as its reader's thread says it.
use Rattle.std.specs.Prelude.{Option, Some, None}
use Rattle.tox_link.specs.declared.ring.message.ReadEnd.{ReadEnd}
use Rattle.tox_link.specs.declared.ring.message.ReadEnd.TheVariants.{Eof, ReadFault, ReadsUsedUp, TooManyBytes}
use Rattle.tox_link.specs.declared.source_ending.SourceEnding.{SourceEnding}
use Rattle.tox_link.specs.declared.source_ending.SourceEnding.TheVariants.{Eof as AtEof, ReadFault as AtFault, ReadsUsedUp as AtLastRead}
use Rattle.tox_link.specs.declared.source_ending.SourceEnding.TheVariants.{TooManyBytes as AtLimit, NotReached}

-- why the reading ended, if the link learnt of it in time
abbrev pub read_end_of : SourceEnding → Option ReadEnd
read_end_of AtEof = Some Eof
read_end_of AtFault = Some ReadFault
read_end_of AtLastRead = Some ReadsUsedUp
read_end_of AtLimit = Some TooManyBytes
read_end_of NotReached = None
