-- What is left of a log that a link can write, line by line.
use Rattle.std.proofs.Common.{◌≡◌, ℕ, ◌≤◌, Bool, true, false, List, [], ◌∷◌, ◌++◌, length, length-append, map, Option, Some, None, inl, inr, refl, ap, sym}
use Rattle.std.proofs.Common.{subst, ◌∙◌, append_assoc, append-nil, arith}
use Rattle.std.specs.Io.KnownBytes.{prepend_known}
use Rattle.std.specs.Prelude.{◌⊎◌, ◌≢◌, All, IsFalse, IsTrue, if◌then◌else◌}
use Rattle.std.proofs.lemmas.List.Elements.{All-head, All-nil, All-tail}
use Rattle.tox_words.specs.Draw.{lane_count}
use Rattle.tox_defs.specs.declared.chain.Entry.{Entry}
use Rattle.tox_log.specs.declared.event_line.LogLine.{LogLine}
use Rattle.tox_log.specs.declared.fault.LogFault.{LogFault}
use Rattle.tox_log.specs.declared.open_log.OpenLog.{OpenLog}
use Rattle.tox_log.specs.HeaderText.{toxic_line}
use Rattle.tox_log.specs.HeaderLines.{IsWritableToxic}
use Rattle.tox_log.specs.Left.{HandsFirst, HasLinesLeft, HasToxicsLeft, IsNextLine, IsNextToxic, BlamesNoLine, ReadsChain}
use Rattle.tox_log.specs.Lines.{IsWritable, line_words}
use Rattle.tox_log.specs.Numbers.{Lacks}
use Rattle.tox_log.specs.Opening.{SameHeading, named_lines}
use Rattle.tox_log.specs.Order.{ComesNext, GoesOnWith, heard_with}
use Rattle.tox_log.specs.Reading.{IsLineRead, TakesLine, TakesRest, is_last, to_hand, to_take}
use Rattle.tox_log.specs.WrittenLog.{AreInOrder, log_lines}
use Rattle.tox_log.proofs.LineBytes.{line-feedless, log-line-next, toxic-line-next, toxic-parts, toxic_words}
use Rattle.tox_log.proofs.NextLine.{line-of, next-line, no-line, no-rest, torn-taken}

-- what the text of lines begins with
lines-first : (line : LogLine) (more : List LogLine) (torn : List ℕ) → log_lines (line ∷ more) ++ torn
    ≡ (line_words line ++ 10 ∷ []) ++ (log_lines more ++ torn)
lines-first line more torn = append_assoc (line_words line ++ 10 ∷ []) (log_lines more) torn

toxics-first : (named : Entry × List ℕ) (toxics : List (Entry × List ℕ)) (rest : List ℕ)
    → named_lines (named ∷ toxics) ++ rest ≡ toxic_line named.0 named.1 ++ (named_lines toxics ++ rest)
toxics-first named toxics rest = append_assoc (toxic_line named.0 named.1) (named_lines toxics) rest

-- The header

-- the line that was read is the next toxic's
pub record ReadToxic (log : OpenLog) (remaining : Option (List ℕ)) (entries : List Entry) (lines : List LogLine) : Type 0 where
  pub named : Entry × List ℕ
  pub toxics : List (Entry × List ℕ)
  pub torn : List ℕ
  pub chain : entries ≡ log.chain.entries ++ named.0 ∷ map (λ named. named.0) toxics
  pub read : IsLineRead log.lines (toxic_words named)
  pub toxic : IsWritableToxic named
  pub bytes : to_take log.lines remaining ≡ Some (named_lines toxics ++ (log_lines lines ++ torn))
  pub writable : All IsWritableToxic toxics
  pub room : length entries ≤ lane_count log.chain.lanes
  pub order : AreInOrder log.heard lines
  pub going : log.over ≡ false
  pub unended : Lacks 10 torn

-- or the first one behind the toxics
pub record ReadOther (log : OpenLog) (remaining : Option (List ℕ)) (entries : List Entry) (lines : List LogLine) : Type 0 where
  pub line : LogLine
  pub more : List LogLine
  pub torn : List ℕ
  pub first : lines ≡ line ∷ more
  pub chain : log.chain.entries ≡ entries
  pub read : IsLineRead log.lines (line_words line)
  pub writable : IsWritable line
  pub bytes : to_take log.lines remaining ≡ Some (log_lines more ++ torn)
  pub order : AreInOrder log.heard lines
  pub going : log.over ≡ false
  pub unended : Lacks 10 torn

module _ (mid next : OpenLog) (between after : Option (List ℕ)) (entries : List Entry) (same : SameHeading mid next) (kept : next.chain ≡ mid.chain) where
  reads-by : (toxics : List (Entry × List ℕ)) (lines : List LogLine) (torn : List ℕ) → entries ≡ mid.chain.entries ++ map (λ named. named.0) toxics
      → to_take mid.lines between ≡ Some (named_lines toxics ++ (log_lines lines ++ torn)) → All IsWritableToxic toxics
      → length entries ≤ lane_count mid.chain.lanes
      → AreInOrder mid.heard lines → mid.over ≡ false → Lacks 10 torn → TakesLine mid.lines next.lines between after
      → ReadToxic next after entries lines ⊎ ReadOther next after entries lines
  reads-by (named ∷ toxics) lines torn chain bytes writable room order going unended takes =
      let toxic = All-head IsWritableToxic named toxics writable in
      let rest = named_lines toxics ++ (log_lines lines ++ torn) in
      let read = next-line mid.lines next.lines between after (toxic_words named) rest
      (toxic-line-next (to_take mid.lines between) named rest toxic (bytes ∙ ap Some (toxics-first named toxics (log_lines lines ++ torn)))) takes in
      inl (record {
        named = named;
        toxics = toxics;
        torn = torn;
        chain = chain ∙ ap (λ c. c.entries ++ named.0 ∷ map (λ named. named.0) toxics) (sym kept);
        read = read.0;
        toxic = toxic;
        bytes = read.1;
        writable = All-tail IsWritableToxic named toxics writable;
        room = subst (λ lanes. length entries ≤ lane_count lanes) (sym same.2) room;
        order = subst (λ heard. AreInOrder heard lines) (sym same.3) order;
        going = same.1 ∙ going;
        unended = unended;
      })
  reads-by [] (line ∷ more) torn chain bytes writable room order going unended takes =
      let rest = log_lines more ++ torn in
      let read = next-line mid.lines next.lines between after (line_words line) rest
      (log-line-next (to_take mid.lines between) line rest order.0 (bytes ∙ ap Some (lines-first line more torn))) takes in
      inr (record {
        line = line;
        more = more;
        torn = torn;
        first = refl;
        chain = ap (λ c. c.entries) kept ∙ sym (append-nil mid.chain.entries) ∙ sym chain;
        read = read.0;
        writable = order.0;
        bytes = read.1;
        order = subst (λ heard. AreInOrder heard (line ∷ more)) (sym same.3) order;
        going = same.1 ∙ going;
        unended = unended;
      })
  reads-by [] [] torn chain bytes writable room order going unended (text, takes, lacks) =
      absurd (no-line (to_take mid.lines between) (to_take next.lines after) torn text bytes takes.given unended)

  pub reads-next : (lines : List LogLine) → HasToxicsLeft mid between entries lines → TakesLine mid.lines next.lines between after
      → ReadToxic next after entries lines ⊎ ReadOther next after entries lines
  reads-next lines left = reads-by left.toxics lines left.torn left.chain left.bytes left.writable left.room left.order left.going left.unended

  ends-by : (toxics : List (Entry × List ℕ)) (lines : List LogLine) (torn : List ℕ) → entries ≡ mid.chain.entries ++ map (λ named. named.0) toxics
      → to_take mid.lines between ≡ Some (named_lines toxics ++ (log_lines lines ++ torn)) → All IsWritableToxic toxics → AreInOrder mid.heard lines
      → next.waits ≡ false
      → TakesRest mid.lines next.lines between after → ReadsChain next after entries lines
  ends-by (named ∷ toxics) lines torn chain bytes writable order going rest =
      let more = named_lines toxics ++ (log_lines lines ++ torn) in
      absurd (no-rest mid.lines next.lines between after (toxic_words named) more
      (toxic-line-next (to_take mid.lines between) named more (All-head IsWritableToxic named toxics writable)
      (bytes ∙ ap Some (toxics-first named toxics (log_lines lines ++ torn)))) rest)
  ends-by [] (line ∷ more) torn chain bytes writable order going rest =
      absurd (no-rest mid.lines next.lines between after (line_words line) (log_lines more ++ torn)
      (log-line-next (to_take mid.lines between) line (log_lines more ++ torn) order.0 (bytes ∙ ap Some (lines-first line more torn))) rest)
  ends-by [] [] torn chain bytes writable order going rest = record {
    chain = ap (λ c. c.entries) kept ∙ sym (append-nil mid.chain.entries) ∙ sym chain;
    left = record {
      torn = [];
      bytes = ap (λ w. if w then prepend_known (next.lines.line.items ++ 10 ∷ []) (to_take next.lines after) else to_take next.lines after) going
          ∙ torn-taken (to_take mid.lines between) (to_take next.lines after) torn rest.torn bytes rest.given rest.ended;
      waits = λ waits. absurd (no-wait (sym waits ∙ going));
      order = tt;
      over = λ _. refl;
      unended = All-nil (λ other. other ≢ 10);
    };
  }
    where
      no-wait : true ≡ false → ⊥
      no-wait same = cc

  -- no line is left
  pub toxics-end : (lines : List LogLine) → HasToxicsLeft mid between entries lines → next.waits ≡ false → TakesRest mid.lines next.lines between after
      → ReadsChain next after entries lines
  toxics-end lines left = ends-by left.toxics lines left.torn left.chain left.bytes left.writable left.order

-- the line of the next toxic, for which the chain has room
next-toxic : (log : OpenLog) (remaining : Option (List ℕ)) (entries : List Entry) (lines : List LogLine) → (read : ReadToxic log remaining entries lines)
    → IsNextToxic log read.named
next-toxic log remaining entries lines read = record {
  line = toxic_words read.named;
  read = read.read;
  printed = record { toxic = read.toxic; printed = toxic-parts read.named };
  room = omega (arith, ap length read.chain, length-append log.chain.entries (read.named.0 ∷ map (λ named. named.0) read.toxics), read.room);
}

-- it was added
pub toxic-added : (log new : OpenLog) (remaining : Option (List ℕ)) (entries : List Entry) (lines : List LogLine)
    → (read : ReadToxic log remaining entries lines)
    → new.chain.entries ≡ log.chain.entries ++ read.named.0 ∷ [] → SameHeading log new → new.lines ≡ log.lines → HasToxicsLeft new remaining entries lines
toxic-added log new remaining entries lines read added same kept = record {
  toxics = read.toxics;
  torn = read.torn;
  chain = read.chain ∙ sym (append_assoc log.chain.entries (read.named.0 ∷ []) (map (λ named. named.0) read.toxics))
      ∙ ap (λ entries. entries ++ map (λ named. named.0) read.toxics) (sym added);
  bytes = ap (λ lines. to_take lines remaining) kept ∙ read.bytes;
  writable = read.writable;
  room = subst (λ lanes. length entries ≤ lane_count lanes) (sym same.2) read.room;
  order = subst (λ heard. AreInOrder heard lines) (sym same.3) read.order;
  going = same.1 ∙ read.going;
  unended = read.unended;
}

-- the line behind the toxics waits
pub other-waits : (log new : OpenLog) (remaining : Option (List ℕ)) (entries : List Entry) (lines : List LogLine) → ReadOther log remaining entries lines
    → new.chain ≡ log.chain → SameHeading log new
    → new.lines ≡ log.lines → new.waits ≡ true → ReadsChain new remaining entries lines
other-waits log new remaining entries lines read chain same kept waits = record {
  chain = ap (λ c. c.entries) chain ∙ read.chain;
  left = record {
    torn = read.torn;
    bytes = ap (λ w. if w then prepend_known (new.lines.line.items ++ 10 ∷ []) (to_take new.lines remaining) else to_take new.lines remaining) waits
        ∙ ap (λ l. prepend_known (l.line.items ++ 10 ∷ []) (to_take l remaining)) kept
        ∙ ap (prepend_known (log.lines.line.items ++ 10 ∷ [])) read.bytes
        ∙ ap (λ items. Some ((items ++ 10 ∷ []) ++ (log_lines read.more ++ read.torn))) read.read.0
        ∙ ap Some (sym (lines-first read.line read.more read.torn))
        ∙ ap (λ lines. Some (log_lines lines ++ read.torn)) (sym read.first);
    waits = λ _. (
      subst (λ l. Lacks 10 l.line.items) (sym kept) (subst (Lacks 10) (sym read.read.0) (line-feedless read.line read.writable)),
      ap (λ l. l.long) kept ∙ read.read.1,
    );
    order = subst (λ heard. AreInOrder heard lines) (sym same.3) read.order;
    over = λ over. absurd (no-over (sym over ∙ same.1 ∙ read.going));
    unended = read.unended;
  };
}
  where
    no-over : true ≡ false → ⊥
    no-over same = cc

module _ (log : OpenLog) (remaining : Option (List ℕ)) (entries : List Entry) (lines : List LogLine) where
  -- a line that isn't taken is no bad one
  pub toxic-fails : (fault : LogFault) → ReadToxic log remaining entries lines ⊎ ReadOther log remaining entries lines
      → ((named : Entry × List ℕ) → IsNextToxic log named → BlamesNoLine fault)
      → ((line : LogLine) → IsLineRead log.lines (line_words line) → IsWritable line → BlamesNoLine fault) → BlamesNoLine fault
  toxic-fails fault (inl toxic) takes skips = takes toxic.named (next-toxic log remaining entries lines toxic)
  toxic-fails fault (inr other) takes skips = skips other.line other.read other.writable

  -- one that was added was a toxic's
  pub toxic-goes : (new : OpenLog) (added : Bool) → added ≡ true → ReadToxic log remaining entries lines ⊎ ReadOther log remaining entries lines
      → ((named : Entry × List ℕ) → IsNextToxic log named → IsTrue added × (new.chain.entries ≡ log.chain.entries ++ named.0 ∷ []))
      → ((line : LogLine) → IsLineRead log.lines (line_words line) → IsWritable line → IsFalse added) → SameHeading log new → new.lines ≡ log.lines
      → HasToxicsLeft new remaining entries lines
  toxic-goes new added was (inl toxic) takes skips same kept =
      toxic-added log new remaining entries lines toxic (takes toxic.named (next-toxic log remaining entries lines toxic)).1 same kept
  toxic-goes new added was (inr other) takes skips same kept = absurd (both was (skips other.line other.read other.writable))
    where
      both : added ≡ true → IsFalse added → ⊥
      both is isnt = let same : true ≡ false = sym is ∙ isnt in cc

  -- and else the one behind them, which waits
  pub other-goes : (new : OpenLog) (added : Bool) → added ≡ false → ReadToxic log remaining entries lines ⊎ ReadOther log remaining entries lines
      → ((named : Entry × List ℕ) → IsNextToxic log named → IsTrue added × (new.chain.entries ≡ log.chain.entries ++ named.0 ∷ []))
      → new.chain ≡ log.chain → SameHeading log new → new.lines ≡ log.lines → new.waits ≡ true → ReadsChain new remaining entries lines
  other-goes new added was (inl toxic) takes chain same kept waits = absurd (both was (takes toxic.named (next-toxic log remaining entries lines toxic)).0)
    where
      both : added ≡ false → IsTrue added → ⊥
      both isnt is = let same : true ≡ false = sym is ∙ isnt in cc
  other-goes new added was (inr other) takes chain same kept waits = other-waits log new remaining entries lines other chain same kept waits

-- The lines behind it

-- the first line that is left was read
pub record NextLeft (log : OpenLog) (remaining : Option (List ℕ)) (lines : List LogLine) : Type 0 where
  pub line : LogLine
  pub more : List LogLine
  pub torn : List ℕ
  pub first : lines ≡ line ∷ more
  pub next : IsNextLine log line
  pub bytes : to_take log.lines remaining ≡ Some (log_lines more ++ torn)
  pub order : AreInOrder (heard_with log.heard line) more
  pub last : is_last line ≡ true → more ≡ []
  pub unended : Lacks 10 torn

still-going : (over : Bool) (line : LogLine) (more : List LogLine) → (over ≡ true → line ∷ more ≡ []) → over ≡ false
still-going false line more none = refl
still-going true line more none = let same : line ∷ more ≡ [] = none refl in absurd (cc)

-- it was the one that waited
waits-by : (log : OpenLog) (remaining : Option (List ℕ)) (lines : List LogLine) (torn : List ℕ) → to_hand log remaining ≡ Some (log_lines lines ++ torn)
    → (log.waits ≡ true → Lacks 10 log.lines.line.items × (log.lines.long ≡ false)) → AreInOrder log.heard lines → (log.over ≡ true → lines ≡ [])
    → Lacks 10 torn → log.waits ≡ true
    → NextLeft (record log { waits = false }) remaining lines
waits-by log remaining [] torn bytes well order over unended waits =
    absurd (no-line (to_hand log remaining) (to_take log.lines remaining) torn log.lines.line.items bytes
    (ap (λ w. if w then prepend_known (log.lines.line.items ++ 10 ∷ []) (to_take log.lines remaining) else to_take log.lines remaining) waits) unended)
waits-by log remaining (line ∷ more) torn bytes well order over unended waits =
    let kept = well waits in
    let read = line-of (to_hand log remaining) (to_take log.lines remaining) (line_words line) log.lines.line.items (log_lines more ++ torn)
    (bytes ∙ ap Some (lines-first line more torn))
    (ap (λ w. if w then prepend_known (log.lines.line.items ++ 10 ∷ []) (to_take log.lines remaining) else to_take log.lines remaining) waits)
    (line-feedless line order.0) kept.0 in record {
      line = line;
      more = more;
      torn = torn;
      first = refl;
      next = record { read = (read.0, kept.1); writable = order.0; next = order.1; going = still-going log.over line more over };
      bytes = read.1;
      order = order.3;
      last = order.2;
      unended = unended;
    }

pub next-waits : (log : OpenLog) (remaining : Option (List ℕ)) (lines : List LogLine) → HasLinesLeft log remaining lines → log.waits ≡ true
    → NextLeft (record log { waits = false }) remaining lines
next-waits log remaining lines left = waits-by log remaining lines left.torn left.bytes left.waits left.order left.over left.unended

handed-none : (log : OpenLog) (remaining : Option (List ℕ)) → log.waits ≡ false → to_hand log remaining ≡ to_take log.lines remaining
handed-none log remaining waits = ap (λ w. if w then prepend_known (log.lines.line.items ++ 10 ∷ []) (to_take log.lines remaining) else to_take log.lines
    remaining) waits

module _ (old new : OpenLog) (before after : Option (List ℕ)) (going : old.waits ≡ false) where
  read-by : (lines : List LogLine) (torn : List ℕ) → to_take old.lines before ≡ Some (log_lines lines ++ torn) → AreInOrder old.heard lines
      → (old.over ≡ true → lines ≡ []) → Lacks 10 torn
      → TakesLine old.lines new.lines before after → new.heard ≡ old.heard → new.over ≡ old.over → NextLeft new after lines
  read-by [] torn bytes order over unended (text, takes, lacks) heard same =
      absurd (no-line (to_take old.lines before) (to_take new.lines after) torn text bytes takes.given unended)
  read-by (line ∷ more) torn bytes order over unended takes heard same =
      let read = next-line old.lines new.lines before after (line_words line) (log_lines more ++ torn)
      (log-line-next (to_take old.lines before) line (log_lines more ++ torn) order.0 (bytes ∙ ap Some (lines-first line more torn))) takes in record {
        line = line;
        more = more;
        torn = torn;
        first = refl;
        next = record {
          read = read.0;
          writable = order.0;
          next = subst (λ heard. ComesNext heard line) (sym heard) order.1;
          going = same ∙ still-going old.over line more over;
        };
        bytes = read.1;
        order = subst (λ heard. AreInOrder (heard_with heard line) more) (sym heard) order.3;
        last = order.2;
        unended = unended;
      }

  -- it was taken from the reader
  pub next-read : (lines : List LogLine) → HasLinesLeft old before lines → TakesLine old.lines new.lines before after → new.heard ≡ old.heard
      → new.over ≡ old.over → NextLeft new after lines
  next-read lines left = read-by lines left.torn (sym (handed-none old before going) ∙ left.bytes) left.order left.over left.unended

  none-by : (lines : List LogLine) (torn : List ℕ) → to_take old.lines before ≡ Some (log_lines lines ++ torn) → AreInOrder old.heard lines
      → TakesRest old.lines new.lines before after → lines ≡ []
  none-by [] torn bytes order rest = refl
  none-by (line ∷ more) torn bytes order rest =
      absurd (no-rest old.lines new.lines before after (line_words line) (log_lines more ++ torn)
      (log-line-next (to_take old.lines before) line (log_lines more ++ torn) order.0 (bytes ∙ ap Some (lines-first line more torn))) rest)

  -- none is left
  pub none-left : (lines : List LogLine) → HasLinesLeft old before lines → TakesRest old.lines new.lines before after → lines ≡ []
  none-left lines left = none-by lines left.torn (sym (handed-none old before going) ∙ left.bytes) left.order

-- the first line is handed out
pub hands-first : (log new : OpenLog) (remaining : Option (List ℕ)) (lines : List LogLine) (handed : LogLine) → (left : NextLeft log remaining lines)
    → Some handed ≡ Some left.line → new.lines ≡ log.lines
    → log.waits ≡ false → new.waits ≡ log.waits → new.over ≡ is_last handed → GoesOnWith log.heard handed new.heard
    → HandsFirst (Some handed) new remaining lines
hands-first log new remaining lines handed left is kept going waits over goes =
    let line : handed ≡ left.line = line-is is in
    subst (HandsFirst (Some handed) new remaining) (sym left.first) (
      is,
      record {
        torn = left.torn;
        bytes = handed-none new remaining (waits ∙ going) ∙ ap (λ lines. to_take lines remaining) kept ∙ left.bytes;
        waits = λ waiting. absurd (no-wait (sym waiting ∙ waits ∙ going));
        order = subst (λ heard. AreInOrder heard left.more) (sym (goes.heard ∙ ap (heard_with log.heard) line)) left.order;
        over = λ ended. left.last (ap is_last (sym line) ∙ sym over ∙ ended);
        unended = left.unended;
      },
    )
  where
    line-is : Some handed ≡ Some left.line → handed ≡ left.line
    line-is same = cc

    no-wait : true ≡ false → ⊥
    no-wait same = cc

-- none is handed out
pub hands-none : (new : OpenLog) (remaining : Option (List ℕ)) (lines : List LogLine) → lines ≡ [] → HandsFirst None new remaining lines
hands-none new remaining lines none = subst (HandsFirst None new remaining) (sym none) refl

-- the same, wherever it stands
pub next-moved : (log other : OpenLog) (remaining bytes : Option (List ℕ)) (lines : List LogLine) → other ≡ log → bytes ≡ remaining
    → NextLeft log remaining lines → NextLeft other bytes lines
next-moved log other remaining bytes lines same left next = subst (λ log. NextLeft log bytes lines) (sym same)
    (subst (λ bytes. NextLeft log bytes lines) (sym left) next)

-- the others are left behind the one that was handed out
pub rest-left : (log : OpenLog) (remaining : Option (List ℕ)) (lines : List LogLine) (line : LogLine) → HandsFirst (Some line) log remaining lines
    → (rest : List LogLine) × (lines ≡ line ∷ rest) × HasLinesLeft log remaining rest
rest-left log remaining [] line hands = absurd (no-first hands)
  where
    no-first : Some line ≡ None → ⊥
    no-first same = cc
rest-left log remaining (first ∷ rest) line hands = (rest, first-is hands.0, hands.1)
  where
    first-is : Some line ≡ Some first → first ∷ rest ≡ line ∷ rest
    first-is same = cc
