-- The lines of a header, one behind the other.
use Rattle.std.proofs.Common.{◌≡◌, ℕ, All, true, false, List, [], ◌∷◌, ◌++◌, length, map, string_bytes, Option, inl, inr, refl, sym, ap, subst, ◌∙◌, append_assoc}
use Rattle.std.proofs.Common.{append-nil}
use Rattle.std.specs.Prelude.{◌⊎◌, if◌then◌else◌}
use Rattle.std.specs.List.{zip}
use Rattle.std.specs.Io.KnownBytes.{IsAtEnd, prepend_known}
use Rattle.std.proofs.lemmas.Grind.{flat_map-append}
use Rattle.std.proofs.lemmas.List.{length-map, map-append}
use Rattle.tox_link.proofs.CarryLemmas.{prepend-nil}
use Rattle.tox_link.proofs.Sent.{prepend_more}
use Rattle.tox_defs.specs.declared.chain.Entry.{Entry}
use Rattle.tox_time.specs.declared.streams.stream.Stream.{Stream}
use Rattle.tox_words.specs.declared.lanes.Lanes.{Lanes}
use Rattle.tox_log.specs.declared.heading.Heading.{Heading}
use Rattle.tox_log.specs.declared.line_reader.LineReader.{LineReader}
use Rattle.tox_log.specs.declared.open_log.OpenLog.{OpenLog}
use Rattle.tox_log.specs.HeaderLines.{AreHeaderNames, IsWritableName}
use Rattle.tox_log.specs.HeaderText.{header_text, heading_lines, toxic_line, toxic_lines}
use Rattle.tox_log.specs.Opening.{AddsToxic, Opens, ReadsToxics, named_lines}
use Rattle.std.specs.Prelude.{◌≢◌}
use Rattle.std.proofs.lemmas.List.Elements.{All-append, All-cons, All-map, All-nil}
use Rattle.tox_time.specs.streams.StreamPosition.{first_position}
use Rattle.tox_log.specs.Numbers.{Lacks}
use Rattle.tox_log.specs.Reading.{TakesLine, TakesRest, to_hand, to_take, waiting}

-- the toxics of these lines were read
pub record HasRead (old now : OpenLog) (before after : Option (List ℕ)) : Type 0 where
  pub toxics : List (Entry × List ℕ)
  pub named : All (λ named. IsWritableName named.1) toxics
  pub chain : now.chain.entries ≡ old.chain.entries ++ map (λ named. named.0) toxics
  pub given : to_take old.lines before ≡ prepend_known (named_lines toxics) (to_take now.lines after)

-- none yet
pub read-none : (log : OpenLog) (remaining : Option (List ℕ)) → to_take log.lines remaining ≡ prepend_known [] (to_take log.lines remaining)
    → HasRead log log remaining remaining
read-none log remaining same = record {
  toxics = [];
  named = All-nil (λ (named : Entry × List ℕ). IsWritableName named.1);
  chain = sym (append-nil log.chain.entries);
  given = same;
}

-- the line that was taken, in the bytes that it comes from
line-taken : (old new : LineReader) (before after : Option (List ℕ)) → TakesLine old new before after → new.long ≡ false
    → to_take old before ≡ prepend_known (new.line.items ++ 10 ∷ []) (to_take new after)
line-taken old new before after (text, takes, lacks) short =
    takes.given ∙ ap (λ line. prepend_known (line ++ 10 ∷ []) (to_take new after)) (sym (takes.line.0 short))

-- one more
pub read-one : (old mid next new : OpenLog) (before between after : Option (List ℕ)) → HasRead old mid before between
    → TakesLine mid.lines next.lines between after → next.chain ≡ mid.chain
    → AddsToxic next new → new.lines ≡ next.lines → HasRead old new before after
read-one old mid next new before between after read line kept adds same =
    let is_named : Entry × List ℕ → Type 0 = λ named. IsWritableName named.1 in
    let given = line-taken mid.lines next.lines between after line adds.short in
    let whole : to_take old.lines before ≡ prepend_known (named_lines read.toxics ++ toxic_line adds.entry adds.name) (to_take next.lines after) =
    prepend_more (named_lines read.toxics) (toxic_line adds.entry adds.name) (to_take old.lines before) (to_take mid.lines between) (to_take next.lines after)
    read.given
    (given ∙ ap (λ line. prepend_known line (to_take next.lines after)) adds.line) in
    let lines : named_lines (read.toxics ++ (adds.entry, adds.name) ∷ []) ≡ named_lines read.toxics ++ toxic_line adds.entry adds.name =
    flat_map-append (λ named. toxic_line named.0 named.1) read.toxics ((adds.entry, adds.name) ∷ [])
    ∙ ap (λ last. named_lines read.toxics ++ last) (append-nil (toxic_line adds.entry adds.name)) in record {
      toxics = read.toxics ++ (adds.entry, adds.name) ∷ [];
      named = All-append is_named read.toxics ((adds.entry, adds.name) ∷ []) read.named
          (All-cons is_named (adds.entry, adds.name) [] adds.named (All-nil is_named));
      chain = adds.chain ∙ ap (λ chain. chain.entries ++ adds.entry ∷ []) kept ∙ ap (λ entries. entries ++ adds.entry ∷ []) read.chain
          ∙ append_assoc old.chain.entries (map (λ named. named.0) read.toxics) (adds.entry ∷ [])
          ∙ ap (λ entries. old.chain.entries ++ entries) (sym (map-append (λ named. named.0) read.toxics ((adds.entry, adds.name) ∷ [])));
      given = whole ∙ ap (λ bytes. prepend_known bytes (to_take next.lines after)) (sym lines)
          ∙ ap (λ lines. prepend_known (named_lines (read.toxics ++ (adds.entry, adds.name) ∷ [])) (to_take lines after)) (sym same);
    }

-- the line behind them waits
pub read-waits : (old mid next new : OpenLog) (before between after : Option (List ℕ)) → HasRead old mid before between
    → TakesLine mid.lines next.lines between after → next.chain ≡ mid.chain
    → next.lines.long ≡ false → new.chain ≡ next.chain → new.lines ≡ next.lines → new.waits ≡ true → ReadsToxics old new before after
read-waits old mid next new before between after read line kept short chain same waits =
    let handed : to_hand new after ≡ prepend_known (next.lines.line.items ++ 10 ∷ []) (to_take next.lines after) =
    ap (λ w. if w then prepend_known (new.lines.line.items ++ 10 ∷ []) (to_take new.lines after) else to_take new.lines after) waits
    ∙ ap (λ lines. prepend_known (lines.line.items ++ 10 ∷ []) (to_take lines after)) same in record {
      toxics = read.toxics;
      torn = [];
      named = read.named;
      unended = All-nil (λ other. other ≢ 10);
      chain = ap (λ chain. chain.entries) (chain ∙ kept) ∙ read.chain;
      given = read.given ∙ ap (prepend_known (named_lines read.toxics)) (line-taken mid.lines next.lines between after line short ∙ sym handed)
          ∙ ap (λ bytes. prepend_known bytes (to_hand new after)) (sym (append-nil (named_lines read.toxics)));
      rest = inl refl;
    }

-- no line comes behind them
pub read-ends : (old mid next : OpenLog) (before between after : Option (List ℕ)) → HasRead old mid before between
    → TakesRest mid.lines next.lines between after → next.chain ≡ mid.chain
    → next.waits ≡ false → ReadsToxics old next before after
read-ends old mid next before between after read rest kept going =
    let handed : to_hand next after ≡ to_take next.lines after =
    ap (λ w. if w then prepend_known (next.lines.line.items ++ 10 ∷ []) (to_take next.lines after) else to_take next.lines after) going in record {
      toxics = read.toxics;
      torn = rest.torn;
      named = read.named;
      unended = rest.unended;
      chain = ap (λ chain. chain.entries) kept ∙ read.chain;
      given = prepend_more (named_lines read.toxics) rest.torn (to_take old.lines before) (to_take mid.lines between) (to_hand next after) read.given
          (rest.given ∙ ap (prepend_known rest.torn) (sym handed));
      rest = inr (subst IsAtEnd (sym handed) rest.ended);
    }

zip-pairs : {X Y : Type 0} (pairs : List (X × Y)) → zip (map (λ pair. pair.0) pairs) (map (λ pair. pair.1) pairs) ≡ pairs
zip-pairs [] = refl
zip-pairs (pair ∷ pairs) = ap (λ rest. pair ∷ rest) (zip-pairs pairs)

-- the whole header
opens-so : (first : LineReader) (start log : OpenLog) (before between after : Option (List ℕ)) (name : List ℕ) (number seed : ℕ) (direction : Stream)
    (lanes : Lanes)
    → waiting first ≡ [] → to_take first before ≡ prepend_known (heading_lines name number direction lanes seed) (to_take start.lines between)
    → IsWritableName name → start.chain.entries ≡ []
    → log.chain.lanes ≡ lanes → ReadsToxics start log between after
    → (names : List (List ℕ)) × (torn : List ℕ) × AreHeaderNames name log.chain.entries names
    × (before ≡ prepend_known (header_text name number direction seed log.chain names ++ torn) (to_hand log after))
    × ((torn ≡ []) ⊎ IsAtEnd (to_hand log after))
    × Lacks 10 torn
opens-so first start log before between after name number seed direction lanes fresh heading writable none same read =
    let names = map (λ named. named.1) read.toxics in
    let all : before ≡ to_take first before = prepend-nil before ∙ ap (λ bytes. prepend_known bytes before) (sym fresh) in
    let entries : log.chain.entries ≡ map (λ named. named.0) read.toxics = read.chain ∙ ap (λ entries. entries ++ map (λ named. named.0) read.toxics) none in
    let lines : toxic_lines log.chain.entries names ≡ named_lines read.toxics =
    ap (λ entries. toxic_lines entries names) entries ∙ ap named_lines (zip-pairs read.toxics) in
    let header : header_text name number direction seed log.chain names ≡ heading_lines name number direction lanes seed ++ named_lines read.toxics =
    ap (λ lanes. heading_lines name number direction lanes seed ++ toxic_lines log.chain.entries names) same
    ∙ ap (λ lines. heading_lines name number direction lanes seed ++ lines) lines in (
      names,
      read.torn,
      record {
        writable = writable;
        one_each = length-map read.toxics (λ named. named.1) ∙ sym (ap length entries ∙ length-map read.toxics (λ named. named.0));
        each = All-map IsWritableName (λ named. named.1) read.toxics read.named;
      },
      all ∙ prepend_more (heading_lines name number direction lanes seed) (named_lines read.toxics ++ read.torn) (to_take first before)
          (to_take start.lines between) (to_hand log after) heading read.given
          ∙ ap (λ bytes. prepend_known bytes (to_hand log after)) (sym (append_assoc (heading_lines name number direction lanes seed) (named_lines read.toxics)
          read.torn) ∙ ap (λ header. header ++ read.torn) (sym header)),
      read.rest,
      read.unended,
    )

-- the log that is read now
pub opens : (first : LineReader) (start log : OpenLog) (before between after : Option (List ℕ)) (heading : Heading) → waiting first ≡ []
    → to_take first before ≡ prepend_known (heading_lines (string_bytes heading.proxy) heading.number heading.stream heading.lanes heading.seed)
    (to_take start.lines between)
    → IsWritableName (string_bytes heading.proxy) → start.chain.entries ≡ [] → log.heading ≡ heading → log.over ≡ false → log.chain.lanes ≡ heading.lanes → log.heard ≡ first_position
    → ReadsToxics start log between after → Opens before after log
opens first start log before between after heading fresh lines writable none is going same begun read =
    let (names, torn, named, given, rest, unended) = opens-so first start log before between after (string_bytes heading.proxy) heading.number heading.seed
    heading.stream heading.lanes fresh lines writable none same read in record {
      names = names;
      torn = torn;
      named = subst (λ (h : Heading). AreHeaderNames (string_bytes h.proxy) log.chain.entries names) (sym is) named;
      given = subst (λ h. before ≡ prepend_known (header_text (string_bytes h.proxy) h.number h.stream h.seed log.chain names ++ torn) (to_hand log after))
          (sym is) given;
      rest = rest;
      unended = unended;
      going = going;
      start = begun;
    }
