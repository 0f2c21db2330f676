-- A plan that draws nothing means the same for all words.
use Rattle.std.proofs.Common.{◌≡◌, ℕ, zero, suc, ◌+◌, false, List, [], ◌∷◌, refl, arith, ap, sym, ◌∙◌}
use Rattle.std.specs.Prelude.{All, nat_lt}
use Rattle.std.proofs.lemmas.Bool.{ltb-false, or_parts}
use Rattle.std.proofs.lemmas.List.Elements.{All-head, All-tail}
use mathlib.Core.Path.{fun_ext}
use Rattle.tox_words.specs.Draw.{Draws}
use Rattle.tox_defs.specs.declared.operations.op.Op.{Op}
use Rattle.tox_defs.specs.declared.operations.op.Op.TheVariants.{Delay, Pace, Slow, Mute, Cutoff, Slicing, Limit, Halt}
use Rattle.tox_defs.specs.stage.Reaction.{counted}
use Rattle.tox_defs.specs.operations.Op.{op_reaction, IsOp}
use Rattle.tox_defs.specs.operations.During.{during}
use Rattle.tox_defs.specs.toxics.Slicer.{slicing_gives}
use Rattle.tox_defs.specs.toxics.Varied.{varied}
use Rattle.tox_compile.specs.Drawing.{op_draws, plan_draws}
use Rattle.tox_compile.specs.Meaning.{op_reactions}
use Rattle.tox_compile.proofs.Joins.{giving-fixed}

varied-still : (middle variation word : ℕ) → variation ≡ 0 → varied middle variation word ≡ middle
varied-still middle zero word none = omega arith
varied-still middle (suc variation) word none = absurd (omega arith)

still : (n : ℕ) → nat_lt 0 n ≡ false → n ≡ 0
still n none = omega (arith, ltb-false 0 n none)

reaction-undrawn : (words other : Draws) (op : Op) → IsOp op → op_draws op ≡ false → op_reaction op words ≡ op_reaction op other
reaction-undrawn words other (Delay fixed latency jitter lane until from) normal none =
    ap (λ giving. during from until (counted giving))
    (giving-fixed fixed latency jitter lane until from words normal (still jitter none)
    ∙ sym (giving-fixed fixed latency jitter lane until from other normal (still jitter none)))
reaction-undrawn words other (Slicing average variation micros lane until from) less none =
    let sizes : (piece : ℕ) → varied average variation (words lane (1 + piece)) ≡ varied average variation (other lane (1 + piece))
    = λ piece. varied-still average variation (words lane (1 + piece)) (still variation none)
    ∙ sym (varied-still average variation (other lane (1 + piece)) (still variation none)) in
    ap (λ size. during from until (counted (slicing_gives size micros))) (fun_ext sizes)
reaction-undrawn words other (Pace rate until from) fits none = refl
reaction-undrawn words other (Slow millis) fits none = refl
reaction-undrawn words other (Mute end) fits none = refl
reaction-undrawn words other (Cutoff instant) fits none = refl
reaction-undrawn words other (Limit bytes) fits none = refl
reaction-undrawn words other (Halt at after end) fits none = refl

pub reactions-undrawn : (words other : Draws) (ops : List Op) → All IsOp ops → plan_draws ops ≡ false → op_reactions ops words ≡ op_reactions ops other
reactions-undrawn words other [] fit none = refl
reactions-undrawn words other (op ∷ ops) fit none =
    let first = reaction-undrawn words other op (All-head IsOp op ops fit) (or_parts (op_draws op) (plan_draws ops) none).0 in
    let others = reactions-undrawn words other ops (All-tail IsOp op ops fit) (or_parts (op_draws op) (plan_draws ops) none).1 in
    cc
