-- What a log gets for each thing that it is given.
use Rattle.std.specs.Prelude.{ℕ, List, ◌++◌, codes, map}
use Rattle.tox_text.specs.Names.{visible_name}
use Rattle.tox_log.specs.HeaderText.{header_text, printed_name}
use Rattle.tox_log.specs.Lines.{line_words}
use Rattle.tox_log.specs.declared.files.entry.Entry.{Entry}
use Rattle.tox_log.specs.declared.files.entry.Entry.TheVariants.{Header, Line}

-- the text of an entry
unfoldable pub entry_text : Entry → List ℕ
entry_text (Header header) =
    header_text (visible_name header.link.now.proxy.now) header.link.now.number header.link.now.stream
    header.link.now.seed header.chain.now (map printed_name header.names.now)
entry_text (Line line) = line_words line.now ++ codes "\n"
