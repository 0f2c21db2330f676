-- One toxic more: what the operations so far become stays, there are few of them, and they add little.
use Rattle.std.proofs.Common.{◌≡◌, ℕ, ◌+◌, ◌*◌, ◌<◌, ◌≤◌, List, [], ◌∷◌, ◌++◌, length, map, take, get_or, arith, ap, sym, ◌∙◌, subst}
use Rattle.std.specs.Prelude.{All, fold}
use Rattle.std.proofs.lemmas.List.{map-append, take_all, take_more}
use Rattle.std.proofs.lemmas.List.Sums.{fold-append}
use Rattle.tox_words.specs.declared.lanes.Lanes.{Lanes}
use Rattle.tox_defs.specs.declared.chain.applied.Placed.{Placed}
use Rattle.tox_defs.specs.declared.operations.op.Op.{Op}
use Rattle.tox_defs.specs.Flow.{IsPlaced}
use Rattle.tox_defs.specs.operations.Op.{millis_of}
use Rattle.tox_defs.proofs.ToxicProofs.{toxic_facts}
use Rattle.tox_compile.specs.Compiled.{op_of_placed}
use Rattle.tox_compile.specs.Normal.{with_op}
use Rattle.tox_compile.proofs.Sums.{AddAtMost, length-with_op, with_op_adds}

-- what the loop over the applied toxics keeps
pub record Compiles (toxics : List Placed) (count : ℕ) (ops : List Op) : Type 0 where
  pub folded : ops ≡ fold with_op [] (map op_of_placed (take count toxics))
  pub few : length ops ≤ count
  pub sums : AddAtMost (3_600_000 * count) ops

-- one more toxic
pub compiles-more : (lanes : Lanes) (toxics : List Placed) (count : ℕ) (ops : List Op) (toxic d : Placed) → count < length toxics
    → toxic ≡ get_or toxics count d
    → All (IsPlaced lanes) toxics → Compiles toxics count ops → Compiles toxics (count + 1) (with_op ops (op_of_placed toxic))
compiles-more lanes toxics count ops toxic d here is placed so_far =
    let in_range : IsPlaced lanes toxic = subst (IsPlaced lanes) (sym is) (placed count d here) in
    let hour = (toxic_facts toxic.toxic).delays toxic.place in_range.0 in
    let more : 3_600_000 * count + 3_600_000 ≡ 3_600_000 * (count + 1) = omega arith in
    let most = length-with_op ops (op_of_placed toxic) in
    let before = map op_of_placed (take count toxics) in
    let with_one : map op_of_placed (take (count + 1) toxics) ≡ before ++ op_of_placed toxic ∷ [] =
    ap (map op_of_placed) (take_more toxics count d here ∙ ap (λ toxic. take count toxics ++ toxic ∷ []) (sym is))
    ∙ map-append op_of_placed (take count toxics) (toxic ∷ []) in
    record {
      folded = ap (λ ops. with_op ops (op_of_placed toxic)) so_far.folded
          ∙ sym (fold-append with_op [] before (op_of_placed toxic ∷ []))
          ∙ sym (ap (fold with_op []) with_one);
      few = omega (arith, most, so_far.few);
      sums = subst (λ most. AddAtMost most (with_op ops (op_of_placed toxic))) more
          (with_op_adds (3_600_000 * count) 3_600_000 ops (op_of_placed toxic) so_far.sums hour);
    }

-- what it adds fits
pub sums_fit : (lanes : Lanes) (toxics : List Placed) (count : ℕ) (ops : List Op) (toxic d : Placed) → count < length toxics → length toxics ≤ 32
    → toxic ≡ get_or toxics count d
    → All (IsPlaced lanes) toxics → Compiles toxics count ops → All (λ last. millis_of last + millis_of (op_of_placed toxic) < 4294967296) ops
sums_fit lanes toxics count ops toxic d here few is placed so_far =
    λ place other within.
    let in_range : IsPlaced lanes toxic = subst (IsPlaced lanes) (sym is) (placed count d here) in
    let hour = (toxic_facts toxic.toxic).delays toxic.place in_range.0 in
    let so_many = so_far.sums place other within in
    omega (arith, hour, so_many, here, few)

-- behind the last toxic the operations are those of all
pub compiled : (toxics : List Placed) (count : ℕ) (ops : List Op) → length toxics ≤ count → Compiles toxics count ops
    → ops ≡ fold with_op [] (map op_of_placed toxics)
compiled toxics count ops past so_far =
    so_far.folded ∙ ap (λ toxics. fold with_op [] (map op_of_placed toxics)) (take_all count toxics past)
