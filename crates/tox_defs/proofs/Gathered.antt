-- The applied toxics, gathered entry by entry.
use Rattle.std.proofs.Common.{◌≡◌, ℕ, ◌+◌, ◌<◌, ◌≤◌, true, false, List, [], ◌∷◌, ◌++◌, length, drop, get_or, drop-cons, add-one, length-append, arith, refl, ap}
use Rattle.std.proofs.Common.{sym, subst, ◌∙◌, if◌then◌else◌}
use Rattle.std.specs.Prelude.{All}
use Rattle.std.proofs.lemmas.List.{append-nil, append_assoc, drop_all}
use Rattle.std.proofs.lemmas.List.Elements.{All-nil, All-push}
use Rattle.tox_words.specs.Draw.{Draws}
use Rattle.tox_defs.specs.declared.chain.applied.Placed.{Placed}
use Rattle.tox_defs.specs.declared.chain.Entry.{Entry}
use Rattle.tox_defs.specs.chain.Applied.{is_applied}
use Rattle.tox_defs.specs.chain.Chain.{Toxics, IsChain, IsEntry}
use Rattle.tox_defs.specs.Flow.{IsPlaced, applied, applied_from, chain_draws}

-- what the loop over the entries keeps: behind those met before a place come those from it on
pub record Gathers (chain : Toxics) (words : List ℕ) (place : ℕ) (met : List Placed) : Type 0 where
  pub all : met ++ applied_from place (drop place chain.entries) (chain_draws chain words) ≡ applied chain words
  pub few : length met ≤ place
  pub placed : All (IsPlaced chain.lanes) met

-- before the first entry
pub gathers-none : (chain : Toxics) (words : List ℕ) → Gathers chain words 0 []
gathers-none chain words = record { all = refl; few = omega arith; placed = All-nil (IsPlaced chain.lanes) }

-- the toxic of the entry at a place
abbrev pub at_place : ℕ → Entry → Placed
at_place place entry = record { place = place; toxic = entry.toxic }

-- the entry at a place comes first of those from it on
from_place : (place : ℕ) (entries : List Entry) (entry d : Entry) (draws : Draws) → place < length entries → entry ≡ get_or entries place d
    → applied_from place (drop place entries) draws ≡ applied_from place (entry ∷ drop (place + 1) entries) draws
from_place place entries entry d draws here is =
    ap (λ others. applied_from place others draws) (drop-cons entries place d here)
    ∙ ap (λ others. applied_from place (get_or entries place d ∷ others) draws) (ap (λ n. drop n entries) (sym (add-one place)))
    ∙ ap (λ entry. applied_from place (entry ∷ drop (place + 1) entries) draws) (sym is)

-- one more toxic that is met
pub gathers-met : (chain : Toxics) (words : List ℕ) (place : ℕ) (met : List Placed) (entries : List Entry) (entry d : Entry) → IsChain chain
    → entries ≡ chain.entries → place < length entries → entry ≡ get_or entries place d
    → is_applied entry place (chain_draws chain words) ≡ true → Gathers chain words place met
    → Gathers chain words (place + 1) (met ++ at_place place entry ∷ [])
gathers-met chain words place met entries entry d fits same here is applies so_far =
    let later = applied_from (place + 1) (drop (place + 1) chain.entries) (chain_draws chain words) in
    let within : place < length chain.entries = subst (λ entries. place < length entries) same here in
    let at : entry ≡ get_or chain.entries place d = is ∙ ap (λ entries. get_or entries place d) same in
    let in_range : IsEntry entry = subst IsEntry (sym at) (fits.entries_fit place d within) in
    record {
      all = append_assoc met (at_place place entry ∷ []) later
          ∙ sym (ap (λ others. met ++ others) (from_place place chain.entries entry d (chain_draws chain words) within at
          ∙ ap (λ applied. if applied then at_place place entry ∷ later else later) applies))
          ∙ so_far.all;
      few = omega (arith, so_far.few, length-append met (at_place place entry ∷ []));
      placed = All-push (IsPlaced chain.lanes) met (at_place place entry) so_far.placed (in_range.0, omega (arith, within, fits.most));
    }

-- one more toxic that isn't
pub gathers-skipped : (chain : Toxics) (words : List ℕ) (place : ℕ) (met : List Placed) (entries : List Entry) (entry d : Entry)
    → entries ≡ chain.entries → place < length entries → entry ≡ get_or entries place d
    → is_applied entry place (chain_draws chain words) ≡ false → Gathers chain words place met → Gathers chain words (place + 1) met
gathers-skipped chain words place met entries entry d same here is skipped so_far =
    let later = applied_from (place + 1) (drop (place + 1) chain.entries) (chain_draws chain words) in
    let within : place < length chain.entries = subst (λ entries. place < length entries) same here in
    let at : entry ≡ get_or chain.entries place d = is ∙ ap (λ entries. get_or entries place d) same in
    record {
      all = sym (ap (λ others. met ++ others) (from_place place chain.entries entry d (chain_draws chain words) within at
          ∙ ap (λ applied. if applied then at_place place entry ∷ later else later) skipped)) ∙ so_far.all;
      few = omega (arith, so_far.few);
      placed = so_far.placed;
    }

-- behind the last entry
pub gathered : (chain : Toxics) (words : List ℕ) (place : ℕ) (met : List Placed) → length chain.entries ≤ place → Gathers chain words place met
    → met ≡ applied chain words
gathered chain words place met past so_far =
    sym (append-nil met) ∙ sym (ap (λ entries. met ++ applied_from place entries (chain_draws chain words)) (drop_all place chain.entries past)) ∙ so_far.all
