-- One more connection, counted.
use Rattle.std.proofs.Common.{◌≡◌, ℕ, zero, suc, ◌+◌, ◌<◌, inl, inr, ◌&&◌, Bool, true, false, cond, List, [], ◌∷◌, ◌++◌, length, count_by, get_or, Option, None}
use Rattle.std.proofs.Common.{Some, arith, refl, sym, ap, ◌∙◌, replicate, slice_index}
use mathlib.Core.Path.{fun_ext}
use Rattle.std.proofs.lemmas.Bool.Decides.{eqb_tells}
use Rattle.std.proofs.lemmas.List.{get_or-replicate, length-replicate}
use Rattle.std.proofs.lemmas.List.Sums.{count_by-le-length, sum_by-append}
use Rattle.tox_time.specs.declared.streams.stream.Stream.{Stream}
use Rattle.tox_time.specs.declared.streams.stream.Stream.TheVariants.{Upstream, Downstream}
use Rattle.tox_script.specs.Rule.{Rules}
use Rattle.tox_script.specs.index.Numbered.{covering_number}
use Rattle.tox_check.specs.forecast.Applied.{flag_at, flags_for}
use Rattle.tox_check.specs.forecast.Counted.{numbers_from}
use Rattle.tox_check.specs.forecast.Tallied.{IsTallied}
use Rattle.tox_check.specs.forecast.Tally.{CountsLink, CountsOne, CountsRule, HasRoom, counts_on, no_counts, one_for, totals_in}
use Rattle.tox_check.specs.forecast.Totals.{Totals, is_rule, meets, totals_of}
use Rattle.tox_check.specs.declared.forecast.flags.LinkFlags.{LinkFlags}
use Rattle.tox_check.specs.declared.forecast.tally.Tally.{Tally}
use Rattle.tox_check.proofs.forecast.NumbersFrom.{length-numbers_from}

count_by-push : (p : ℕ → Bool) (xs : List ℕ) (x : ℕ) → count_by p (xs ++ x ∷ []) ≡ count_by p xs + one_for (p x)
count_by-push p xs x = omega (arith, sum_by-append (λ y. cond (p y) 1 0) xs (x ∷ []))

totals_same : (a b : Totals) → a.met ≡ b.met → ((stream : Stream) (place : ℕ) → a.applied stream place ≡ b.applied stream place) → a ≡ b
totals_same a b met applied =
    ap (λ n. record { met = n; applied = a.applied }) met ∙ ap (λ f. record { met = b.met; applied = f }) (fun_ext (λ stream. fun_ext (applied stream)))

module _ (proxy : List ℕ) (script : Rules) (seed : ℕ) where
  -- the totals so far, and what one more connection adds
  totals_step : (rule links : ℕ) (old new : Tally) (met : Bool) → meets proxy script rule (links + 1) ≡ met
      → new.met ≡ old.met + one_for met
      → ((stream : Stream) (place : ℕ) → slice_index (counts_on stream new) place
      ≡ slice_index (counts_on stream old) place + one_for (met && flag_at place (flags_for proxy script seed (links + 1) stream)))
      → totals_in old ≡ totals_of proxy script seed rule (numbers_from 1 links) → totals_in new ≡ totals_of proxy script seed rule (numbers_from 1 (suc links))
  totals_step rule links old new met is more applied so_far =
      let all = numbers_from 1 links in
      totals_same (totals_in new) (totals_of proxy script seed rule (numbers_from 1 (suc links)))
      (more ∙ ap (λ (t : Totals). t.met + one_for met) so_far ∙ ap (λ m. count_by (meets proxy script rule) all + one_for m) (sym is)
      ∙ sym (count_by-push (meets proxy script rule) all (links + 1)))
      (λ stream place.
      applied stream place
      ∙ ap (λ (t : Totals). t.applied stream place + one_for (met && flag_at place (flags_for proxy script seed (links + 1) stream))) so_far
      ∙ ap (λ m. count_by (λ conn. meets proxy script rule conn && flag_at place (flags_for proxy script seed conn stream)) all
      + one_for (m && flag_at place (flags_for proxy script seed (links + 1) stream))) (sym is)
      ∙ sym (count_by-push (λ conn. meets proxy script rule conn && flag_at place (flags_for proxy script seed conn stream)) all (links + 1)))

  -- a connection that met another rule, or none
  totals_other : (rule links : ℕ) (old new : Tally) → meets proxy script rule (links + 1) ≡ false → new ≡ old
      → totals_in old ≡ totals_of proxy script seed rule (numbers_from 1 links) → totals_in new ≡ totals_of proxy script seed rule (numbers_from 1 (suc links))
  totals_other rule links old new other same =
      totals_step rule links old new false other
      (let m : new.met ≡ old.met = ap (λ (t : Tally). t.met) same in omega arith)
      (λ stream place. let n : slice_index (counts_on stream new) place ≡ slice_index (counts_on stream old) place =
      ap (λ (t : Tally). slice_index (counts_on stream t) place) same in omega arith)

  -- one that met this rule
  totals_here : (rule links : ℕ) (flags : LinkFlags) (old new : Tally) → meets proxy script rule (links + 1) ≡ true → CountsLink flags old new
      → flags.upstream.items ≡ flags_for proxy script seed (links + 1) Upstream → flags.downstream.items ≡ flags_for proxy script seed (links + 1) Downstream
      → totals_in old ≡ totals_of proxy script seed rule (numbers_from 1 links) → totals_in new ≡ totals_of proxy script seed rule (numbers_from 1 (suc links))
  totals_here rule links flags old new here counts up down = totals_step rule links old new true here counts.met applied
    where
      applied : (stream : Stream) (place : ℕ) → slice_index (counts_on stream new) place
          ≡ slice_index (counts_on stream old) place + one_for (true && flag_at place (flags_for proxy script seed (links + 1) stream))
      applied Upstream place = counts.upstream place ∙ ap (λ fs. slice_index old.upstream place + one_for (flag_at place fs)) up
      applied Downstream place = counts.downstream place ∙ ap (λ fs. slice_index old.downstream place + one_for (flag_at place fs)) down

  -- all rules
  pub IsTallied-next : (links : ℕ) (met : Option ℕ) (flags : LinkFlags) (old new : List Tally) → met ≡ covering_number proxy (links + 1) script
      → flags.upstream.items ≡ flags_for proxy script seed (links + 1) Upstream → flags.downstream.items ≡ flags_for proxy script seed (links + 1) Downstream
      → CountsRule met flags old new → IsTallied proxy script seed links old → IsTallied proxy script seed (suc links) new
  IsTallied-next links None flags old new is up down same tallied =
      λ rule d below.
      totals_other rule links (get_or old rule d) (get_or new rule d) (ap (is_rule rule) (sym is)) (ap (λ ts. get_or ts rule d) same)
      (tallied rule d (let n : length new ≡ length old = ap length same in omega arith))
  IsTallied-next links (Some met) flags old new is up down counts tallied =
      λ rule d below.
      let within : rule < length old = let n = counts.length_same in omega arith in
      elim (eqb_tells met rule) [
        | inl same ↦
            let at_rule : CountsOne rule flags old new = rw same.1 at counts in
            totals_here rule links flags (get_or old rule d) (get_or new rule d) (ap (is_rule rule) (sym is) ∙ same.0) (at_rule.here d within) up down
            (tallied rule d within)
        | inr other ↦
            totals_other rule links (get_or old rule d) (get_or new rule d) (ap (is_rule rule) (sym is) ∙ other.0) (counts.others rule d (λ e. other.1 (sym e)))
            (tallied rule d within)
      ]

  -- no count exceeds the connections
  pub HasRoom-tallied : (links : ℕ) (tallies : List Tally) → links < 1000000 → IsTallied proxy script seed links tallies → HasRoom tallies
  HasRoom-tallied links tallies few tallied =
      λ rule d below.
      let all = numbers_from 1 links in
      let is = tallied rule d below in
      let long = length-numbers_from 1 links in
      record {
        met = let m = ap (λ (t : Totals). t.met) is in omega (arith, count_by-le-length (meets proxy script rule) all);
        upstream = λ place. let m = ap (λ (t : Totals). t.applied Upstream place) is in
            omega (arith, count_by-le-length (λ conn. meets proxy script rule conn && flag_at place (flags_for proxy script seed conn Upstream)) all);
        downstream = λ place. let m = ap (λ (t : Totals). t.applied Downstream place) is in
            omega (arith, count_by-le-length (λ conn. meets proxy script rule conn && flag_at place (flags_for proxy script seed conn Downstream)) all);
      }

zeros : (n place : ℕ) → slice_index (replicate n 0) place ≡ 0
zeros zero place = refl
zeros (suc n) zero = refl
zeros (suc n) (suc place) = zeros n place

uncounted : (stream : Stream) (place : ℕ) → slice_index (counts_on stream no_counts) place ≡ 0
uncounted Upstream place = zeros 32 place
uncounted Downstream place = zeros 32 place

-- nothing is counted of no connection
pub IsTallied-none : (proxy : List ℕ) (script : Rules) (seed n : ℕ) (tallies : List Tally) → tallies ≡ replicate n no_counts
    → IsTallied proxy script seed 0 tallies
IsTallied-none proxy script seed n tallies is =
    λ rule d below.
    let within : rule < n = let e = ap length is in omega (arith, length-replicate n no_counts) in
    ap totals_in (ap (λ ts. get_or ts rule d) is ∙ get_or-replicate n rule no_counts d within)
    ∙ totals_same (totals_in no_counts) (totals_of proxy script seed rule []) refl uncounted
