-- The header of a log, as it is read.
use Rattle.std.specs.Prelude.{◌≡◌, ℕ, false, List, [], ◌∷◌, ◌++◌, All, map, flat_map, string_bytes, Option, ◌⊎◌}
use Rattle.std.specs.Io.KnownBytes.{IsAtEnd, prepend_known}
use Rattle.tox_defs.specs.declared.chain.Entry.{Entry}
use Rattle.tox_log.specs.declared.open_log.OpenLog.{OpenLog}
use Rattle.tox_time.specs.streams.StreamPosition.{first_position}
use Rattle.tox_log.specs.HeaderLines.{AreHeaderNames, IsWritableName}
use Rattle.tox_log.specs.HeaderText.{header_text, toxic_line}
use Rattle.tox_log.specs.Numbers.{Lacks}
use Rattle.tox_log.specs.Reading.{to_hand, to_take}

-- the lines of toxics, each with its name
abbrev pub named_lines : List (Entry × List ℕ) → List ℕ
named_lines toxics = flat_map (λ named. toxic_line named.0 named.1) toxics

-- nothing of a log changed but its chain, its line and what waits
abbrev pub SameHeading : OpenLog → OpenLog → Type 0
SameHeading old new =
    (new.heading ≡ old.heading) × (new.over ≡ old.over) × (new.chain.lanes ≡ old.chain.lanes)
    × (new.heard ≡ old.heard)

-- the line that was read is a toxic's, which is the chain's last one
pub record AddsToxic (old new : OpenLog) : Type 0 where
  pub entry : Entry
  pub name : List ℕ
  pub named : IsWritableName name
  pub line : old.lines.line.items ++ 10 ∷ [] ≡ toxic_line entry name
  pub short : old.lines.long ≡ false
  pub chain : new.chain.entries ≡ old.chain.entries ++ entry ∷ []

-- the lines of the chain's toxics were read, and the line behind them waits or there is none
pub record ReadsToxics (old new : OpenLog) (before after : Option (List ℕ)) : Type 0 where
  pub toxics : List (Entry × List ℕ)
  pub torn : List ℕ
  pub named : All (λ named. IsWritableName named.1) toxics
  pub chain : new.chain.entries ≡ old.chain.entries ++ map (λ named. named.0) toxics
  pub given : to_take old.lines before ≡ prepend_known (named_lines toxics ++ torn) (to_hand new after)
  pub rest : (torn ≡ []) ⊎ IsAtEnd (to_hand new after)
  pub unended : Lacks 10 torn

-- the header was read, which these bytes begin with
pub record Opens (before after : Option (List ℕ)) (log : OpenLog) : Type 0 where
  pub names : List (List ℕ)
  pub torn : List ℕ
  pub named : AreHeaderNames (string_bytes log.heading.proxy) log.chain.entries names
  pub given : before ≡ prepend_known (header_text (string_bytes log.heading.proxy) log.heading.number log.heading.stream log.heading.seed log.chain names
      ++ torn) (to_hand log after)
  pub rest : (torn ≡ []) ⊎ IsAtEnd (to_hand log after)
  pub unended : Lacks 10 torn
  pub going : log.over ≡ false
  pub start : log.heard ≡ first_position
