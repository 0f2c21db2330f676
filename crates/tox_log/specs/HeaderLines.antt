-- Lines of a header that a log can have.
use Rattle.std.specs.Prelude.{◌≡◌, ℕ, ◌<◌, ◌≤◌, false, List, [], ◌∷◌, ◌++◌, All, codes, length}
use Rattle.std.specs.Char.{is_ascii_control}
use Rattle.std.specs.Str.{IsUtf8}
use Rattle.tox_time.specs.declared.streams.stream.Stream.{Stream}
use Rattle.tox_defs.specs.chain.Chain.{IsEntry}
use Rattle.tox_defs.specs.declared.chain.Entry.{Entry}
use Rattle.tox_log.specs.declared.heading.LinkWords.{LinkWords}
use Rattle.tox_log.specs.HeaderText.{link_line, toxic_line}

-- a name that a log can have: text that isn't empty, without control characters
pub record IsWritableName (name : List ℕ) : Type 0 where
  pub some : 0 < length name
  pub text : IsUtf8 name
  pub visible : All (λ byte. is_ascii_control byte ≡ false) name

-- a toxic that a log can have, with its name: its line has at most 4,096 bytes, and a line feed
pub record IsWritableToxic (named : Entry × List ℕ) : Type 0 where
  pub entry : IsEntry named.0
  pub name : IsWritableName named.1
  pub short : length (toxic_line named.0 named.1) ≤ 4_097

-- the names of a header: the proxy's, and one for each toxic of the chain, so that each has its line. A log can have each of them, so none has a line feed
pub record AreHeaderNames (name : List ℕ) (entries : List Entry) (names : List (List ℕ)) : Type 0 where
  pub writable : IsWritableName name
  pub one_each : length names ≡ length entries
  pub each : All IsWritableName names

-- a line that prints the name of a proxy, and the number and the stream of a link
pub record PrintsLink (line name : List ℕ) (number : ℕ) (stream : Stream) : Type 0 where
  pub named : IsWritableName name
  pub numbered : (1 ≤ number) × (number ≤ 1_000_000)
  pub printed : line ++ 10 ∷ [] ≡ link_line name number stream

-- the words of a link are this name, number and stream
pub record AreLinkWords (link : LinkWords) (name : List ℕ) (number : ℕ) (stream : Stream) : Type 0 where
  pub its_name : link.proxy.now ≡ name
  pub its_number : link.number ≡ number
  pub its_stream : link.stream ≡ stream

-- a line that prints a toxic with its name
pub record PrintsToxic (line : List ℕ) (named : Entry × List ℕ) : Type 0 where
  pub toxic : IsWritableToxic named
  pub printed : line ++ 10 ∷ [] ≡ toxic_line named.0 named.1

-- a line that begins as a toxic's does
abbrev pub BeginsToxic : List ℕ → Type 0
BeginsToxic line = (rest : List ℕ) × (line ≡ codes "toxic " ++ rest)
