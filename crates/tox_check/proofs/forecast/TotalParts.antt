-- The lines of a rule's toxics, in the parts in which they are printed.
use Rattle.std.proofs.Common.{◌≡◌, ℕ, ◌≤◌, Bool, List, [], ◌∷◌, ◌++◌, codes, decimal, length, drop, get_or, append_assoc, arith, refl, ap, ◌∙◌}
use Rattle.tox_time.specs.declared.streams.stream.Stream.{Stream}
use Rattle.tox_script.specs.declared.chains.Chains.{Chains}
use Rattle.tox_text.specs.Names.{visible_name}
use Rattle.tox_check.specs.forecast.Totals.{Totals, place_on, places_after, rule_totals, total_line, toxic_total, toxic_totals}
use Rattle.tox_check.specs.declared.forecast.totals.places.Places.{Places}

pub total_line-parts : (rule number applied met : ℕ) (name : List ℕ)
    → codes "rule " ++ (decimal rule ++ (codes " toxic " ++ (decimal number
    ++ (codes " applied " ++ (decimal applied ++ (codes " of " ++ (decimal met ++ (codes " " ++ (visible_name name ++ codes "\n")))))))))
    ≡ total_line rule number applied met name
total_line-parts rule number applied met name = simp append_assoc

-- the first toxic, and the others
pub toxic_totals-cons : (json : Bool) (proxy : List ℕ) (rule : ℕ) (totals : Totals) (chains : Chains) (at : Places) (order : List Stream) (d : Stream)
    → 1 ≤ length order
    → toxic_total json proxy rule totals chains (record { number = at.number; stream = get_or order 0 d; place = place_on (get_or order 0 d) at })
    ++ toxic_totals json proxy rule totals chains (places_after (get_or order 0 d) at) (drop 1 order)
    ≡ toxic_totals json proxy rule totals chains at order
toxic_totals-cons json proxy rule totals chains at [] d some = absurd (omega arith)
toxic_totals-cons json proxy rule totals chains at (first ∷ order) d some = refl

-- the same totals, chains and streams
pub rule_totals-same : (json : Bool) (proxy : List ℕ) (rule : ℕ) (t totals : Totals) (c chains : Chains) (o order : List Stream) → t ≡ totals → c ≡ chains
    → o ≡ order → rule_totals json proxy rule t c o ≡ rule_totals json proxy rule totals chains order
rule_totals-same json proxy rule t totals c chains o order same_totals same_chains same_order =
    ap (λ x. rule_totals json proxy rule x c o) same_totals ∙ ap (λ x. rule_totals json proxy rule totals x o) same_chains
    ∙ ap (rule_totals json proxy rule totals chains) same_order
