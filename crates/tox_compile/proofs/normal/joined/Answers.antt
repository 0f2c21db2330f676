-- An operation gives the ending of a mute as it would give that item.
use Rattle.std.proofs.Common.{rules, ◌≡◌, [], ◌∷◌, ap, subst, Some}
use Rattle.tox_time.specs.streams.Table.{final_of}
use Rattle.tox_defs.specs.declared.operations.op.Op.TheVariants.{Mute}
use Rattle.tox_defs.specs.operations.Op.{op_giving}
use Rattle.tox_defs.specs.stage.Reaction.{first_state}
use Rattle.tox_compile.proofs.Mutes.{is-after_mute}
use Rattle.tox_compile.proofs.normal.joined.Goals as goal

pub returns-in-Mute-default : goal.returns-in-Mute-default
returns-in-Mute-default c =
    let first : c.default.result ≡ first_state = search rules in
    let after = is-after_mute c.args.second.now c.in-Mute-default.ending c.map_ending.result
    (subst (λ state. op_giving c.args.second.now (λ _ _. 0) state (final_of c.in-Mute-default.ending) ≡ final_of c.map_ending.result ∷ []) first
    (c.map_ending.ensures (λ _ _. 0))) in
    rw c.in-Mute-default.is-0 (ap (λ end. Some (Mute end)) after)
