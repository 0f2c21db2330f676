-- The toxics that are still to be read, behind those that were read.
use Rattle.std.proofs.Common.{◌≡◌, ℕ, ◌+◌, ◌≤◌, List, [], ◌∷◌, ◌++◌, length, drop, Result, Ok, Err, ap, sym, ◌∙◌}
use Rattle.std.proofs.lemmas.List.{drop_more, drop_all}
use Rattle.tox_time.specs.Steps.{◌>>=◌}
use Rattle.tox_runs.specs.declared.files.toxics.ToxicsFault.{ToxicsFault}
use Rattle.tox_text.proofs.Listed.{IsAt}
use Rattle.tox_inline.specs.Toxics.{typed_behind, typed_toxics}
use Rattle.tox_inline.specs.declared.toxics.InlineToxic.{InlineToxic}
use Rattle.tox_inline.specs.declared.toxics.NumberedToxic.{NumberedToxic}

-- the next one
from-next : (earlier : List NumberedToxic) (toxics : List InlineToxic) (i : ℕ) (toxic : InlineToxic) → IsAt toxics i toxic
    → typed_toxics earlier (drop i toxics) ≡ (typed_behind earlier toxic >>= (λ next. typed_toxics (earlier ++ next ∷ []) (drop (i + 1) toxics)))
from-next earlier toxics i toxic here =
    ap (typed_toxics earlier) (drop_more toxics i here.default here.below)
    ∙ ap (λ (t : InlineToxic). typed_behind earlier t >>= (λ next. typed_toxics (earlier ++ next ∷ []) (drop (i + 1) toxics))) (sym here.is)

-- it was read
pub typed_toxics-more : (earlier : List NumberedToxic) (toxics : List InlineToxic) (i : ℕ) (toxic : InlineToxic) (next : NumberedToxic) → IsAt toxics i toxic
    → Ok next ≡ typed_behind earlier toxic
    → typed_toxics earlier (drop i toxics) ≡ typed_toxics (earlier ++ next ∷ []) (drop (i + 1) toxics)
typed_toxics-more earlier toxics i toxic next here is =
    from-next earlier toxics i toxic here
    ∙ ap (λ (r : Result NumberedToxic ToxicsFault). r >>= (λ n. typed_toxics (earlier ++ n ∷ []) (drop (i + 1) toxics))) (sym is)

-- it was refused
pub typed_toxics-refused : (earlier : List NumberedToxic) (toxics : List InlineToxic) (i : ℕ) (toxic : InlineToxic) (fault : ToxicsFault) → IsAt toxics i toxic
    → Err fault ≡ typed_behind earlier toxic
    → typed_toxics earlier (drop i toxics) ≡ Err fault
typed_toxics-refused earlier toxics i toxic fault here is =
    from-next earlier toxics i toxic here
    ∙ ap (λ (r : Result NumberedToxic ToxicsFault). r >>= (λ n. typed_toxics (earlier ++ n ∷ []) (drop (i + 1) toxics))) (sym is)

-- none is left
pub typed_toxics-all : (earlier : List NumberedToxic) (toxics : List InlineToxic) (i : ℕ) → length toxics ≤ i
    → typed_toxics earlier (drop i toxics) ≡ Ok earlier
typed_toxics-all earlier toxics i past = ap (typed_toxics earlier) (drop_all i toxics past)
