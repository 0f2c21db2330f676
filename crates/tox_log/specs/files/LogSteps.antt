-- How a log grows, and when its end is reported.
use Rattle.std.specs.Prelude.{◌≡◌, ℕ, ◌*◌, ◌==◌, ◌≤◌, Bool, true, false, not, ◌||◌, ◌⊎◌, List, ◌++◌, length, take, if◌then◌else◌}
use Rattle.tox_log.specs.declared.files.entry.Entry.{Entry}
use Rattle.tox_log.specs.declared.files.entry.Entry.TheVariants.{Header, Line}
use Rattle.tox_log.specs.declared.files.log_state.LogState.{LogState}
use Rattle.tox_log.specs.declared.files.log_state.LogState.TheVariants.{Goes, Done, Cut, Reported}
use Rattle.tox_log.specs.Reading.{is_last}
use Rattle.tox_log.specs.files.WholeLines.{AreLines, IsLinesWithin}

-- how a log is that has all of an entry: done behind its last line
abbrev pub state_behind : Entry → LogState
state_behind (Header header) = Goes
state_behind (Line line) = if is_last line.now then Done else Goes

-- the lines of a text that have room came behind those that waited, and the log is done unless that is all of it
pub record Keeps (room : ℕ) (old text new : List ℕ) (next state : LogState) : Type 0 where
  pub count : ℕ
  pub lines : IsLinesWithin room text count
  pub kept : new ≡ old ++ take count text
  pub few : length new ≤ 1048576
  pub goes : state ≡ (if count == length text then next else Done)

-- what a text makes of the lines that wait: it is kept, or none of it is and the log is cut
abbrev pub Adds : ℕ → List ℕ → List ℕ → List ℕ → LogState → LogState → Type 0
Adds room old text new next state = Keeps room old text new next state ⊎ ((new ≡ old) × (state ≡ Cut))

-- whether a log is cut
abbrev pub is_log_cut : LogState → Bool
is_log_cut Goes = false
is_log_cut Done = false
is_log_cut Cut = true
is_log_cut Reported = false

-- whether a log has something for its writer: lines, or that it was cut
abbrev pub is_wanted : List ℕ → LogState → Bool
is_wanted waiting state = not (length waiting == 0) || is_log_cut state

-- whether a log's end is reported: its file failed, or it was cut and its file has all its lines. None is reported twice
abbrev pub tells : List ℕ → LogState → Bool → Bool
tells waiting Goes failed = failed
tells waiting Done failed = failed
tells waiting Cut failed = failed || (length waiting == 0)
tells waiting Reported failed = false

-- these bytes are the log of a text that was given: its first whole lines, all of it while the log goes, within the limit
pub record IsLogOf (most : ℕ) (logged bytes : List ℕ) (state : LogState) : Type 0 where
  pub rest : List ℕ
  pub front : bytes ++ rest ≡ logged
  pub lines : AreLines bytes
  pub few : length bytes ≤ most
  pub whole : state ≡ Goes → bytes ≡ logged

-- what waits of a log is counted, and at most as much again ahead of it
pub record IsShareOf (share : ℕ) (waiting : List ℕ) : Type 0 where
  pub held : length waiting ≤ share
  pub ahead : share ≤ 2 * length waiting
