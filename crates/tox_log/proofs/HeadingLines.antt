-- The lines of a header are read as they are printed.
use Rattle.std.proofs.Common.{◌≡◌, ℕ, ◌^◌, ◌<◌, Bool, true, false, Option, Some, None, MatchOption, IsUtf8, List, [], ◌∷◌, ◌++◌, codes, drop, refl, ap, sym}
use Rattle.std.proofs.Common.{subst, ◌∙◌, append_assoc, arith}
use Rattle.std.specs.Fmt.{decimal}
use Rattle.std.specs.Prelude.{◌≢◌, is_some}
use Rattle.std.proofs.lemmas.Fmt.{decimal_injective}
use Rattle.std.proofs.lemmas.List.{append_cancel_right}
use Rattle.tox_time.specs.declared.streams.stream.Stream.{Stream}
use Rattle.tox_time.specs.declared.streams.stream.Stream.TheVariants.{Upstream, Downstream}
use Rattle.tox_time.specs.streams.StreamName.{stream_name}
use Rattle.tox_words.specs.declared.lanes.Lanes.{Lanes}
use Rattle.tox_words.specs.declared.lanes.Lanes.TheVariants.{Sixteen, ThirtyTwo}
use Rattle.tox_words.specs.Draw.{lane_count}
use Rattle.tox_words.proofs.LaneCounts.{lane_count-most}
use Rattle.tox_defs.specs.declared.chain.Entry.{Entry}
use Rattle.tox_defs.specs.short.Printed.{printed_short}
use Rattle.tox_log.specs.HeaderText.{seed_line, title_line}
use Rattle.tox_log.specs.HeaderLines.{BeginsToxic, IsWritableName, PrintsLink, PrintsToxic}
use Rattle.tox_log.specs.Left.{HasLineNext}
use Rattle.tox_log.specs.Numbers.{Lacks}
use Rattle.tox_log.specs.WrittenLog.{IsWritableLog, WrittenLog}
use Rattle.tox_log.proofs.Cuts.{cut-last, cut-once, number-lacks, stands}
use Rattle.tox_log.proofs.LineBytes.{link-parts, link_words, seed-parts, seed_words, toxic-parts, toxic_words}
use Rattle.tox_log.proofs.NoLines.{lacks-by, other-word}
use Rattle.tox_log.proofs.ShortForms.{short-signs, signs-lack, signs-utf8}

-- names of streams
pub stream-lacks : (direction : Stream) → Lacks 32 (stream_name direction)
stream-lacks Upstream = lacks-by 32 (codes "upstream") refl
stream-lacks Downstream = lacks-by 32 (codes "downstream") refl

pub same-stream : (a b : Stream) → stream_name a ≡ stream_name b → a ≡ b
same-stream Upstream Upstream same = refl
same-stream Upstream Downstream same = absurd (other-word (codes "upstream") (codes "downstream") refl same)
same-stream Downstream Upstream same = absurd (other-word (codes "downstream") (codes "upstream") refl same)
same-stream Downstream Downstream same = refl

-- numbers of lanes
pub same-lanes : (a b : Lanes) → lane_count a ≡ lane_count b → a ≡ b
same-lanes Sixteen Sixteen same = refl
same-lanes Sixteen ThirtyTwo same = absurd (omega (arith, same))
same-lanes ThirtyTwo Sixteen same = absurd (omega (arith, same))
same-lanes ThirtyTwo ThirtyTwo same = refl

pub link-is : (line name : List ℕ) (number : ℕ) (direction : Stream) → PrintsLink line name number direction → line ≡ link_words name number direction
link-is line name number direction prints = append_cancel_right line (link_words name number direction) (10 ∷ [])
    (prints.printed ∙ sym (link-parts name number direction))

-- behind its first word
pub link-rest : (line rest name : List ℕ) (number : ℕ) (direction : Stream) → PrintsLink line name number direction → rest ≡ drop 5 line
    → rest ≡ (name ++ 32 ∷ decimal number) ++ 32 ∷ stream_name direction
link-rest line rest name number direction prints is = is ∙ ap (drop 5) (link-is line name number direction prints)

-- cut at its last space
pub link-cut : (rest front tail name : List ℕ) (number : ℕ) (direction : Stream) → rest ≡ (name ++ 32 ∷ decimal number) ++ 32 ∷ stream_name direction
    → Lacks 32 tail → rest ≡ front ++ 32 ∷ tail
    → (front ≡ name ++ 32 ∷ decimal number) × (tail ≡ stream_name direction)
link-cut rest front tail name number direction is lacks cut = cut-last 32 front tail (name ++ 32 ∷ decimal number) (stream_name direction) lacks
    (stream-lacks direction) (sym cut ∙ is)

-- and at the one before
pub name-cut : (rest front tail name : List ℕ) (number : ℕ) → number < 2 ^ 64 → rest ≡ name ++ 32 ∷ decimal number → Lacks 32 tail → rest ≡ front ++ 32 ∷ tail
    → (front ≡ name) × (tail ≡ decimal number)
name-cut rest front tail name number fits is lacks cut = cut-last 32 front tail name (decimal number) lacks (number-lacks 32 number (omega arith) fits)
    (sym cut ∙ is)

-- a text that has a space can be cut
pub no-cut : (rest front tail : List ℕ) → Lacks 32 rest → rest ≡ front ++ 32 ∷ tail → ⊥
no-cut rest front tail lacks is = stands 32 front tail (subst (Lacks 32) is lacks)

pub seed-is : (line : List ℕ) (lanes : Lanes) (seed : ℕ) → line ++ 10 ∷ [] ≡ seed_line lanes seed → line ≡ seed_words lanes seed
seed-is line lanes seed same = append_cancel_right line (seed_words lanes seed) (10 ∷ []) (same ∙ sym (seed-parts lanes seed))

pub seed-cut : (rest count more : List ℕ) (lanes : Lanes) (seed : ℕ) → rest ≡ decimal (lane_count lanes) ++ 32 ∷ (codes "seed " ++ decimal seed)
    → Lacks 32 count → rest ≡ count ++ 32 ∷ more
    → (count ≡ decimal (lane_count lanes)) × (more ≡ codes "seed " ++ decimal seed)
seed-cut rest count more lanes seed is lacks cut =
    cut-once 32 count more (decimal (lane_count lanes)) (codes "seed " ++ decimal seed) lacks
    (number-lacks 32 (lane_count lanes) (omega arith) (omega (arith, lane_count-most lanes))) (sym cut ∙ is)

pub toxic-is : (line : List ℕ) (named : Entry × List ℕ) → PrintsToxic line named → line ≡ toxic_words named
toxic-is line named prints = append_cancel_right line (toxic_words named) (10 ∷ []) (prints.printed ∙ sym (toxic-parts named))

-- its short form and its name
pub toxic-cut : (line short name : List ℕ) (named : Entry × List ℕ) → PrintsToxic line named → Lacks 32 short → line ≡ codes "toxic " ++ short ++ 32 ∷ name
    → (short ≡ printed_short named.0.toxic named.0.toxicity) × (name ≡ named.1)
toxic-cut line short name named prints lacks cut =
    let form = printed_short named.0.toxic named.0.toxicity in
    let entry = prints.toxic.entry in
    let same : short ++ 32 ∷ name ≡ form ++ 32 ∷ named.1 = ap (drop 6) (sym cut ∙ toxic-is line named prints ∙ spaced form) in
    cut-once 32 short name form named.1 lacks (signs-lack 32 form (omega arith) (short-signs named.0.toxic named.0.toxicity entry.0 entry.1)) same
  where
    spaced : (form : List ℕ) → codes "toxic " ++ form ++ codes " " ++ named.1 ≡ codes "toxic " ++ (form ++ 32 ∷ named.1)
    spaced form = simp append_assoc

-- the words of the second line
pub link-whole : (line rest front tail first digits name : List ℕ) (number : ℕ) (direction : Stream) → PrintsLink line name number direction
    → rest ≡ drop 5 line
    → Lacks 32 tail × (rest ≡ front ++ 32 ∷ tail) → Lacks 32 digits × (front ≡ first ++ 32 ∷ digits)
    → (first ≡ name) × (digits ≡ decimal number) × (tail ≡ stream_name direction)
link-whole line rest front tail first digits name number direction prints is last cut =
    let parts = link-cut rest front tail name number direction (link-rest line rest name number direction prints is) last.0 last.1 in
    let names = name-cut front first digits name number (omega (arith, prints.numbered.1)) parts.0 cut.0 cut.1 in
    (names.0, names.1, parts.1)

-- the words of a toxic's line
pub toxic-spaced : (line : List ℕ) (named : Entry × List ℕ) → PrintsToxic line named
    → line ≡ codes "toxic " ++ printed_short named.0.toxic named.0.toxicity ++ 32 ∷ named.1
toxic-spaced line named prints = toxic-is line named prints ∙ simp append_assoc

pub words-read : {A : Type 0} (read : Option A) (first second : A → List ℕ) (line rest : List ℕ) → rest ≡ drop 6 line → line ≡ codes "toxic " ++ rest
    → MatchOption read (Lacks 32 rest) (λ p. Lacks 32 (first p) × (rest ≡ first p ++ 32 ∷ second p))
    → MatchOption read ((short name : List ℕ) → line ≢ codes "toxic " ++ short ++ 32 ∷ name)
    (λ p. Lacks 32 (first p) × (line ≡ codes "toxic " ++ first p ++ 32 ∷ second p))
words-read None first second line rest is whole lacks = λ short name same. stands 32 short name (subst (Lacks 32) (is ∙ ap (drop 6) same) lacks)
words-read (Some p) first second line rest is whole cut = (cut.0, whole ∙ ap (λ rest. codes "toxic " ++ rest) cut.1)

-- names of streams are text
pub stream-utf8 : (direction : Stream) → IsUtf8 (stream_name direction)
stream-utf8 Upstream = signs-utf8 (codes "upstream") refl
stream-utf8 Downstream = signs-utf8 (codes "downstream") refl

-- a name that isn't read
pub no-name : {A : Type 0} (read : Option A) (text : List ℕ) (P : A → Type 0) → is_some read ≡ false → MatchOption read (¬ IsWritableName text) P
    → ¬ IsWritableName text
no-name None text P none refused = refused
no-name (Some a) text P none refused = absurd (cc)

-- and one that is read
pub read-name : {A : Type 0} (read : Option A) (text : List ℕ) (P : A → Type 0) → is_some read ≡ true
    → MatchOption read (¬ IsWritableName text) (λ name. P name × IsWritableName text) → IsWritableName text
read-name None text P some refused = absurd (cc)
read-name (Some a) text P some named = named.1

-- the words of the third line
pub seed-whole : (line rest count more : List ℕ) (lanes : Lanes) (seed : ℕ) → line ++ 10 ∷ [] ≡ seed_line lanes seed → rest ≡ drop 6 line
    → Lacks 32 count × (rest ≡ count ++ 32 ∷ more)
    → (count ≡ decimal (lane_count lanes)) × (more ≡ codes "seed " ++ decimal seed)
seed-whole line rest count more lanes seed same is cut = seed-cut rest count more lanes seed (is ∙ ap (drop 6) (seed-is line lanes seed same)) cut.0 cut.1

pub lanes-read : (a b : Lanes) → decimal (lane_count a) ≡ decimal (lane_count b) → a ≡ b
lanes-read a b same = same-lanes a b (decimal_injective (lane_count a) (lane_count b) (omega (arith, lane_count-most a)) (omega (arith, lane_count-most b))
    same)

pub value-of : {A : Type 0} (a b : A) → Some a ≡ Some b → a ≡ b
value-of a b same = cc

-- it begins as one
pub begins-toxic : (line : List ℕ) (named : Entry × List ℕ) → PrintsToxic line named → BeginsToxic line
begins-toxic line named prints = (printed_short named.0.toxic named.0.toxicity ++ codes " " ++ named.1, toxic-is line named prints ∙ simp append_assoc)

-- the first line comes next
pub title-next : (given : Option (List ℕ)) (more : List ℕ) → given ≡ Some (title_line ++ more) → HasLineNext given (codes "toxi log 1") more
title-next given more is = record { bytes = is; unended = lacks-by 10 (codes "toxi log 1") refl; short = omega arith }

-- a line that is too long isn't read
pub long-line : {A : Type 0} (read : Option A) (long : Bool) (P : A → Type 0) → read ≡ None → MatchOption read (long ≡ true) P → long ≡ false → ⊥
long-line read long P none is short =
    let too_long : long ≡ true = subst (λ read. MatchOption read (long ≡ true) P) none is in
    let same : true ≡ false = sym too_long ∙ short in cc

-- the lines of a log that can be written
pub prints-link : (line : List ℕ) (log : WrittenLog) → IsWritableLog log → line ≡ link_words log.name log.number log.stream
    → PrintsLink line log.name log.number log.stream
prints-link line log writable is = record {
  named = writable.name;
  numbered = writable.number;
  printed = ap (λ line. line ++ 10 ∷ []) is ∙ link-parts log.name log.number log.stream;
}

pub prints-seed : (line : List ℕ) (lanes : Lanes) (seed : ℕ) → line ≡ seed_words lanes seed → line ++ 10 ∷ [] ≡ seed_line lanes seed
prints-seed line lanes seed is = ap (λ line. line ++ 10 ∷ []) is ∙ seed-parts lanes seed

pub pair-parts : {A B : Type 0} (a c : A × B) → Some a ≡ Some c → (a.0 ≡ c.0) × (a.1 ≡ c.1)
pair-parts a c same = let whole = value-of a c same in (ap (λ pair. pair.0) whole, ap (λ pair. pair.1) whole)

pub three-parts : (title link seed more : List ℕ) → (title ++ link ++ seed) ++ more ≡ title ++ (link ++ (seed ++ more))
three-parts title link seed more = simp append_assoc
