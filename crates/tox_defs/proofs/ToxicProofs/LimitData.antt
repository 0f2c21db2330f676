-- limit_data: it keeps streams and bytes, and its law.
use Rattle.std.proofs.Common.{◌≡◌, ℕ, ◌-◌, refl, arith, min, ◌∙◌}
use Rattle.std.specs.Prelude.{nat_lt}
use Rattle.std.proofs.lemmas.Grind.{common_steps}
use Rattle.tox_time.specs.declared.streams.ending.Ending.{Ending}
use Rattle.tox_time.specs.declared.streams.ending.Ending.TheVariants.{Closed as ClosedAt}
use Rattle.tox_time.specs.streams.Stream.{span_len, arrived}
use Rattle.tox_defs.specs.declared.operations.op.Op.TheVariants.{Limit}
use Rattle.tox_defs.specs.declared.toxic.Toxic.TheVariants.{LimitData}
use Rattle.tox_defs.specs.stage.Reaction.{counted}
use Rattle.tox_defs.specs.toxics.LimitData.{limit_gives}
use Rattle.tox_defs.proofs.KeepingStreams.{counted_follows, KeepsStreams, IsStreamFrom-flow}
use Rattle.tox_defs.proofs.OpFacts.{OpFacts, one_final}
use Rattle.tox_defs.proofs.StreamKeepers.{NotAfter}
use Rattle.tox_defs.proofs.ToxicFacts.{ToxicFacts}
use Rattle.tox_defs.proofs.ToxicProofs.FirstBytes.{bytes_at_final, bytes_chunk, bytes_final, bytes-passes, bytes_within, length-bytes_table}

-- the ending of the instant
abbrev close_at : ℕ → Ending
close_at t = ClosedAt t

limited_keeps : (bytes : ℕ) → KeepsStreams NotAfter (counted (limit_gives bytes))
limited_keeps bytes = record {
  at_chunk = λ previous chunks pieces passed span t since fits before some late t_fits.
      bytes_chunk NotAfter bytes close_at previous chunks pieces passed span t (nat_lt (span_len span) (bytes - passed)) refl (omega (arith, before, late))
      (omega arith) some t_fits (omega arith, t_fits);
  at_final = λ previous chunks pieces passed item position since fits before final follows.
      bytes_at_final bytes close_at previous chunks pieces passed item position since before final follows;
  follows = counted_follows (limit_gives bytes);
}

pub limit_data_facts : (bytes : ℕ) → ToxicFacts (LimitData bytes)
limit_data_facts bytes = record {
  reacts = λ place draws. refl;
  is_op = λ place fits. tt;
  delays = λ place fits. omega arith;
  passes = λ words. bytes-passes bytes close_at;
  within = λ words. bytes_within bytes close_at;
  law = λ fits start never words items list.
      let room : min (bytes - 0) (arrived items) ≡ min bytes (arrived items) = omega arith in
      length-bytes_table bytes close_at items 0 0 0 0 0 0 (omega arith) list.0 ∙ room;
  spelled = record { word = refl; named = refl; words = refl; known = refl; apart = refl; keys = refl; made = refl };
  short = λ inside. grind (arith, common_steps);
}

pub limit_facts : (bytes : ℕ) → OpFacts (Limit bytes)
limit_facts bytes = record {
  streams = λ draws items fits stream. IsStreamFrom-flow NotAfter (counted (limit_gives bytes)) (limited_keeps bytes) items 0 0 0 0 0 0 (omega arith)
      (omega arith) stream;
  final = λ draws state end. one_final (limit_gives bytes state _) end (bytes_final bytes close_at state end);
}
