-- What was looked up of a connection is what the script says of it.
use Rattle.std.proofs.Common.{◌≡◌, ℕ, suc, ◌+◌, ◌<◌, ◌^◌, Bool, true, false, cond, List, [], ◌∷◌, ◌++◌, length, Option, Some, arith, sym, ap, ◌∙◌}
use Rattle.std.specs.List.{position_from}
use Rattle.std.specs.Option.{ForSome}
use Rattle.tox_time.specs.declared.streams.stream.Stream.TheVariants.{Upstream, Downstream}
use Rattle.tox_script.specs.Covering.{chains_for, covers}
use Rattle.tox_script.specs.Rule.{Rules}
use Rattle.tox_script.specs.declared.chains.Chains.{Chains}
use Rattle.tox_script.specs.index.Numbered.{chains_numbered, covering_number}
use Rattle.tox_script.proofs.Indexing.{chains_numbered-covering}
use Rattle.tox_check.specs.forecast.Applied.{chain_flags, flags_for}
use Rattle.tox_check.specs.forecast.ForecastText.{link_text, wanted_line}
use Rattle.tox_check.specs.declared.forecast.question.Question.{Question}

-- the chains of the rule that was found
pub chains_found : (proxy : List ℕ) (script : Rules) (conn : ℕ) (rule : Option ℕ) (chains : Chains) → rule ≡ covering_number proxy conn script
    → chains ≡ chains_numbered rule script → chains ≡ chains_for proxy conn script
chains_found proxy script conn rule chains met is = is ∙ ap (λ r. chains_numbered r script) met ∙ chains_numbered-covering proxy conn script

-- the lines
pub link_text-found : (question : Question) (proxy : List ℕ) (script : Rules) (conn : ℕ) (rule : Option ℕ) (chains : Chains) (up down : List Bool)
    → rule ≡ covering_number proxy conn script → chains ≡ chains_for proxy conn script
    → up ≡ flags_for proxy script question.seed conn Upstream → down ≡ flags_for proxy script question.seed conn Downstream
    → wanted_line question proxy conn Upstream rule chains.upstream.names up ++ wanted_line question proxy conn Downstream rule chains.downstream.names down
    ≡ link_text question proxy script conn
link_text-found question proxy script conn rule chains up down met is ups downs =
    ap (λ r. wanted_line question proxy conn Upstream r chains.upstream.names up ++ wanted_line question proxy conn Downstream r chains.downstream.names down)
    met
    ∙ ap (λ (cs : Chains). wanted_line question proxy conn Upstream (covering_number proxy conn script) cs.upstream.names up
    ++ wanted_line question proxy conn Downstream (covering_number proxy conn script) cs.downstream.names down) is
    ∙ ap (λ fs. wanted_line question proxy conn Upstream (covering_number proxy conn script) (chains_for proxy conn script).upstream.names fs
    ++ wanted_line question proxy conn Downstream (covering_number proxy conn script) (chains_for proxy conn script).downstream.names down) ups
    ∙ ap (λ fs. wanted_line question proxy conn Upstream (covering_number proxy conn script) (chains_for proxy conn script).upstream.names
    (flags_for proxy script question.seed conn Upstream) ++ wanted_line question proxy conn Downstream (covering_number proxy conn script)
    (chains_for proxy conn script).downstream.names fs) downs

-- the flags
pub flags_found : (proxy : List ℕ) (script : Rules) (seed conn : ℕ) (chains : Chains) → chains ≡ chains_for proxy conn script
    → (chain_flags chains.upstream.chain seed conn Upstream ≡ flags_for proxy script seed conn Upstream)
    × (chain_flags chains.downstream.chain seed conn Downstream ≡ flags_for proxy script seed conn Downstream)
flags_found proxy script seed conn chains is =
    (ap (λ (cs : Chains). chain_flags cs.upstream.chain seed conn Upstream) is, ap (λ (cs : Chains). chain_flags cs.downstream.chain seed conn Downstream) is)

-- the first place that passes lies within the list
position_below : {X : Type 0} (test : X → Bool) (n : ℕ) (xs : List X) (i : ℕ) → position_from test n xs ≡ Some i → i < n + length xs
position_below test n [] i found = absurd (cc)
position_below test n (x ∷ xs) i found = at (test x) (λ later. let h = position_below test (n + 1) xs i later in omega arith) found
  where
    at : (passes : Bool) → (position_from test (n + 1) xs ≡ Some i → i < n + suc (length xs)) → cond passes (Some n) (position_from test (n + 1) xs) ≡ Some i
        → i < n + suc (length xs)
    at true later found = let same : n ≡ i = cc in omega arith
    at false later found = later found

-- the number of a rule fits
pub met_fits : (proxy : List ℕ) (script : Rules) (conn : ℕ) (rule : Option ℕ) → rule ≡ covering_number proxy conn script → length script.rules < 2 ^ 64
    → ForSome rule (λ number. number + 1 < 2 ^ 64)
met_fits proxy script conn rule is few number some =
    let below : number < 0 + length script.rules = position_below (covers proxy conn) 0 script.rules number (sym is ∙ some) in omega arith
