-- One flag more, and what it stands for.
use Rattle.std.proofs.Common.{◌≡◌, ℕ, ◌+◌, ◌<◌, Bool, List, [], ◌∷◌, ◌++◌, length, map, take, get_or, arith, sym, ap, ◌∙◌}
use Rattle.std.specs.List.{enumerate_from}
use Rattle.std.proofs.lemmas.List.{get_or-map, length-map, take_more}
use Rattle.tox_words.specs.Draw.{Draws}
use Rattle.tox_defs.specs.chain.Applied.{is_applied}
use Rattle.tox_defs.specs.declared.chain.Entry.{Entry}
use Rattle.tox_text.proofs.Listed.{IsAt, IsAt-enumerate, IsAt-read}
use Rattle.tox_check.specs.forecast.Applied.{applied_flags}

-- the first elements and one more
pub take-more_at : {X : Type 0} (xs : List X) (i : ℕ) (x : X) → IsAt xs i x → take (i + 1) xs ≡ take i xs ++ x ∷ []
take-more_at xs i x here = take_more xs i here.default here.below ∙ ap (λ y. take i xs ++ y ∷ []) (sym here.is)

IsAt-map : {X Y : Type 0} (f : X → Y) (xs : List X) (i : ℕ) (x : X) → IsAt xs i x → IsAt (map f xs) i (f x)
IsAt-map f xs i x here = record {
  below = let h = here.below in omega (arith, length-map xs f);
  default = f here.default;
  is = ap f here.is ∙ sym (get_or-map f xs i here.default (f here.default) here.below);
}

-- the flag of the entry at a place
pub flags-more : (draws : Draws) (entries : List Entry) (place : ℕ) (default : Entry) (flags : List Bool) (flag : Bool) → place < length entries
    → flag ≡ is_applied (get_or entries place default) place draws → flags ≡ take place (applied_flags draws entries)
    → flags ++ flag ∷ [] ≡ take (place + 1) (applied_flags draws entries)
flags-more draws entries place default flags flag below is made =
    let f = λ (placed : ℕ × Entry). is_applied placed.1 placed.0 draws in
    let entry = get_or entries place default in
    let here = IsAt-map f (enumerate_from 0 entries) place (place, entry) (IsAt-enumerate entries place entry (IsAt-read entries place default below)) in
    ap (λ fs. fs ++ flag ∷ []) made ∙ ap (λ b. take place (applied_flags draws entries) ++ b ∷ []) is
    ∙ sym (take-more_at (applied_flags draws entries) place (is_applied entry place draws) here)
