-- What stands for links below the list.
use Rattle.std.specs.Prelude.{◌≡◌, ℕ, ◌+◌, List, [], ◌∷◌, ◌++◌, Option, string_bytes}
use Rattle.std.specs.Option.{ForSome}
use Rattle.std.specs.declared.string.String.{String}
use Rattle.std.specs.declared.alloc.Global.{Global}
use Rattle.tox_draw.specs.Drawn.{IsPictureOnPage}
use Rattle.tox_draw.specs.declared.axis.Axis.{Axis}
use Rattle.tox_draw.specs.declared.pages.link_logs.LinkLogs.{LinkLogs}
use Rattle.tox_draw.specs.declared.pages.link_logs.LinkLogs.TheVariants.{One, Both}
use Rattle.tox_draw.specs.declared.pages.row.Row.{Row}
use Rattle.tox_time.specs.declared.streams.stream.Stream.{Stream}
use Rattle.tox_draw.specs.pages.LinkLogs.{link_words}
use Rattle.tox_draw.specs.pages.Logs.{KnownLog, OpensLog}
use Rattle.tox_draw.specs.pages.Sections.{both_section, one_section}

-- a picture of the bytes that a reader of a log gave, in the conversation of this number
pub record IsPictureOfLog (time : Axis) (known : KnownLog) (number : ℕ) (stream : Stream)
    (text : List ℕ) : Type 0 where
  pub given : Option (List ℕ)
  pub opened : OpensLog known given
  pub drawn : IsPictureOnPage time given number stream text

-- if there is a picture, it is one of this row's log
abbrev pub MayShow : Axis → (List ℕ → KnownLog) → ℕ → Row → Option (String Global) → Type 0
MayShow time known number row picture =
    ForSome picture
    (λ shown. IsPictureOfLog time (known (string_bytes row.name)) number row.facts.stream (string_bytes shown))

-- the conversation of a link of which one stream has a log; who ended it is reported in these words
pub record IsOneSection (known : List ℕ → KnownLog) (words : List ℕ) (number : ℕ) (row : Row)
    (text : List ℕ) : Type 0 where
  pub time : Axis
  pub picture : Option (String Global)
  pub drawn : MayShow time known number row picture
  pub is : text ≡ one_section words number row.facts picture

-- the conversation of a link of which both streams have a log: the pictures have one axis of time
pub record IsBothSection (known : List ℕ → KnownLog) (words : List ℕ) (number : ℕ) (up down : Row)
    (text : List ℕ) : Type 0 where
  pub time : Axis
  pub upstream : Option (String Global)
  pub downstream : Option (String Global)
  pub above : MayShow time known number up upstream
  pub below : MayShow time known number down downstream
  pub is : text ≡ both_section words number up.facts down.facts upstream downstream

-- the conversation of a link, with this number
abbrev pub IsSection : (List ℕ → KnownLog) → ℕ → LinkLogs → List ℕ → Type 0
IsSection known number (One row) text =
    IsOneSection known (link_words (One row)) number row text
IsSection known number (Both up down) text =
    IsBothSection known (link_words (Both up down)) number up down text

-- the conversations of some links, of which the first has this number, by what is known of each log's name
abbrev pub AreSections : (List ℕ → KnownLog) → ℕ → List LinkLogs → List ℕ → Type 0
AreSections known number [] text = text ≡ []
AreSections known number (link ∷ links) text =
    (first : List ℕ) × (others : List ℕ) × IsSection known number link first
    × AreSections known (number + 1) links others × (text ≡ first ++ others)
