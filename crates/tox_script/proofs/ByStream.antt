-- Toxics in the file's order against the same toxics by their streams.
use Rattle.std.proofs.Common.{◌≡◌, ℕ, ◌+◌, Bool, true, false, cond, ◌||◌, List, [], ◌∷◌, ◌++◌, Ok, Err, length, map, filter, count_by, leb, refl, sym, ap, ◌∙◌}
use Rattle.std.proofs.Common.{append-nil, length-append}
use Rattle.std.specs.List.{list_any}
use Rattle.std.specs.Str.{bytes_eq}
use Rattle.std.proofs.lemmas.List.{length-map, map-append}
use Rattle.std.proofs.lemmas.List.Elements.{filter-append}
use Rattle.std.proofs.lemmas.List.Sums.{length-filter}
use Rattle.tox_time.specs.declared.streams.stream.Stream.{Stream}
use Rattle.tox_time.specs.declared.streams.stream.Stream.TheVariants.{Upstream, Downstream}
use Rattle.tox_defs.specs.chain.Chain.{is_full}
use Rattle.tox_script.specs.chains.Chains.{has_name, on, pushed, put_toxic}
use Rattle.tox_time.specs.Steps.{◌>>=◌}
use Rattle.tox_script.specs.chains.NamedChain.{NamedToxics, with_toxic}
use Rattle.tox_time.specs.streams.StreamName.{same_stream}
use Rattle.tox_script.specs.chains.Toxic.{NamedToxic}
use Rattle.tox_script.specs.chains.Toxics.{behind, chain_on, chains_of, is_on}
use Rattle.tox_script.specs.declared.chains.Chains.{Chains}
use Rattle.tox_words.specs.declared.lanes.Lanes.{Lanes}
use Rattle.tox_words.specs.Draw.{lane_count}
use Rattle.tox_script.specs.declared.fault.Location.{Location}
use Rattle.tox_script.specs.declared.fault.ScriptFault.TheVariants.{DoubleName, TooManyToxics}

-- `or` of three, with the first of them last
or_first : (a b c : Bool) → ((a || b) || c) ≡ (a || (b || c))
or_first true b c = refl
or_first false b c = refl

-- `or` of three, with the first of them in the middle
or_middle : (a b c : Bool) → (b || (a || c)) ≡ (a || (b || c))
or_middle true true c = refl
or_middle true false c = refl
or_middle false b c = refl

-- whether some of the toxics has a name
abbrev any_named : List ℕ → List NamedToxic → Bool
any_named name toxics = list_any (λ other. bytes_eq other name) (map (λ toxic. toxic.name) toxics)

module _ (lanes : Lanes) where
  -- a name stands on one of the streams where it stands at all
  has_name-chains_of : (name : List ℕ) (toxics : List NamedToxic) → has_name name (chains_of lanes toxics) ≡ list_any (λ toxic. bytes_eq toxic.name name) toxics
  has_name-chains_of name [] = refl
  has_name-chains_of name (toxic ∷ toxics) = at toxic.stream ∙ ap (λ others. bytes_eq toxic.name name || others) (has_name-chains_of name toxics)
    where
      at : (stream : Stream) → (any_named name (cond (same_stream Upstream stream) (toxic ∷ filter (is_on Upstream) toxics) (filter (is_on Upstream) toxics))
          || any_named name (cond (same_stream Downstream stream) (toxic ∷ filter (is_on Downstream) toxics) (filter (is_on Downstream) toxics)))
          ≡ (bytes_eq toxic.name name || has_name name (chains_of lanes toxics))
      at Upstream = or_first (bytes_eq toxic.name name) (any_named name (filter (is_on Upstream) toxics)) (any_named name (filter (is_on Downstream) toxics))
      at Downstream = or_middle (bytes_eq toxic.name name) (any_named name (filter (is_on Upstream) toxics)) (any_named name (filter (is_on Downstream) toxics))

  -- the chain of one of the streams
  on-chains_of : (stream : Stream) (toxics : List NamedToxic) → on stream (chains_of lanes toxics) ≡ chain_on lanes stream toxics
  on-chains_of Upstream toxics = refl
  on-chains_of Downstream toxics = refl

  -- a chain is full where each lane has a toxic of its stream
  is_full-chains_of : (stream : Stream) (toxics : List NamedToxic) → is_full (on stream (chains_of lanes toxics)).chain
      ≡ leb (lane_count lanes) (count_by (is_on stream) toxics)
  is_full-chains_of stream toxics =
      ap (λ (chain : NamedToxics). is_full chain.chain) (on-chains_of stream toxics)
      ∙ ap (leb (lane_count lanes)) (
      length-map (filter (is_on stream) toxics) (λ (toxic : NamedToxic). toxic.entry)
      ∙ length-filter (is_on stream) toxics)

  -- the chain that some toxics make
  abbrev chain_from : List NamedToxic → NamedToxics
  chain_from toxics = record {
    chain = record { lanes = lanes; entries = map (λ toxic. toxic.entry) toxics };
    names = map (λ toxic. toxic.name) toxics;
  }

  -- one more toxic behind those of a chain
  chain_from-append : (toxics : List NamedToxic) (toxic : NamedToxic) → chain_from (toxics ++ toxic ∷ [])
      ≡ with_toxic toxic.entry toxic.name (chain_from toxics)
  chain_from-append toxics toxic =
      let entries = map-append (λ (t : NamedToxic). t.entry) toxics (toxic ∷ []) in
      let names = map-append (λ (t : NamedToxic). t.name) toxics (toxic ∷ []) in
      cc

  -- the chains that two lists of toxics make
  abbrev chains_from : List NamedToxic → List NamedToxic → Chains
  chains_from up down = record { upstream = chain_from up; downstream = chain_from down }

  -- one more toxic joins the chain of its stream alone
  pushed-chains_from : (up down : List NamedToxic) (toxic : NamedToxic) (stream : Stream)
      → pushed stream toxic.entry toxic.name (chains_from up down)
      ≡ chains_from (up ++ cond (same_stream Upstream stream) (toxic ∷ []) []) (down ++ cond (same_stream Downstream stream) (toxic ∷ []) [])
  pushed-chains_from up down toxic Upstream =
      let one = chain_from-append up toxic in
      let other : down ++ [] ≡ down = append-nil down in
      rw (one, other) refl
  pushed-chains_from up down toxic Downstream =
      let one = chain_from-append down toxic in
      let other : up ++ [] ≡ up = append-nil up in
      rw (one, other) refl

  -- one more toxic of a rule joins the chain of its stream alone
  pushed-chains_of : (toxics : List NamedToxic) (toxic : NamedToxic) → pushed toxic.stream toxic.entry toxic.name (chains_of lanes toxics)
      ≡ chains_of lanes (toxics ++ toxic ∷ [])
  pushed-chains_of toxics toxic =
      let ups = filter-append (is_on Upstream) toxics (toxic ∷ []) in
      let downs = filter-append (is_on Downstream) toxics (toxic ∷ []) in
      pushed-chains_from (filter (is_on Upstream) toxics) (filter (is_on Downstream) toxics) toxic toxic.stream
      ∙ sym (
      ap (λ up. chains_from up (filter (is_on Downstream) (toxics ++ toxic ∷ []))) ups
      ∙ ap (chains_from (filter (is_on Upstream) toxics ++ cond (same_stream Upstream toxic.stream) (toxic ∷ []) [])) downs
      )

  -- putting a toxic is standing behind the earlier ones
  pub put_toxic-chains_of : (at : Location) (earlier : List NamedToxic) (toxic : NamedToxic)
      → put_toxic at toxic (chains_of lanes earlier) ≡ (behind lanes at earlier toxic >>= (λ toxics. Ok (chains_of lanes toxics)))
  put_toxic-chains_of at earlier toxic =
      rw (has_name-chains_of toxic.name earlier, is_full-chains_of toxic.stream earlier, pushed-chains_of earlier toxic)
      (cases (list_any (λ other. bytes_eq other.name toxic.name) earlier) (leb (lane_count lanes) (count_by (is_on toxic.stream) earlier)))
    where
      cases : (named full : Bool) → cond named (Err (DoubleName at)) (cond full (Err (TooManyToxics at)) (Ok (chains_of lanes (earlier ++ toxic ∷ []))))
          ≡ (cond named (Err (DoubleName at)) (cond full (Err (TooManyToxics at)) (Ok (earlier ++ toxic ∷ []))) >>= (λ toxics. Ok (chains_of lanes toxics)))
      cases true full = refl
      cases false true = refl
      cases false false = refl

  -- a toxic that stands behind the earlier ones is the last
  pub toxics-behind : (at : Location) (earlier : List NamedToxic) (toxic : NamedToxic) (toxics : List NamedToxic) → behind lanes at earlier toxic ≡ Ok toxics
      → toxics ≡ earlier ++ toxic ∷ []
  toxics-behind at earlier toxic toxics = cases (list_any (λ other. bytes_eq other.name toxic.name) earlier)
      (leb (lane_count lanes) (count_by (is_on toxic.stream) earlier))
    where
      cases : (named full : Bool) → cond named (Err (DoubleName at)) (cond full (Err (TooManyToxics at)) (Ok (earlier ++ toxic ∷ []))) ≡ Ok toxics
          → toxics ≡ earlier ++ toxic ∷ []
      cases true full is = absurd (cc)
      cases false true is = absurd (cc)
      cases false false is = cc

  -- a toxic that stands behind the earlier ones is one more
  pub length-behind : (at : Location) (earlier : List NamedToxic) (toxic : NamedToxic) (toxics : List NamedToxic) → behind lanes at earlier toxic ≡ Ok toxics
      → length toxics ≡ length earlier + 1
  length-behind at earlier toxic toxics is = ap length (toxics-behind at earlier toxic toxics is) ∙ length-append earlier (toxic ∷ [])
