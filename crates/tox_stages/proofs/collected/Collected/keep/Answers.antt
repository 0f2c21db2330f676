-- One item more.
use Rattle.std.proofs.Common.{◌≡◌, ◌++◌, [], ◌∷◌, false, Result, Ok, Err, sym, ◌∙◌, ap}
use Rattle.std.specs.Prelude.{OnOk}
use Rattle.std.specs.Result.{is_err}
use Rattle.tox_time.specs.streams.Stream.{has_final}
use Rattle.tox_stages.proofs.Places.{has_final-last}
use Rattle.tox_stages.proofs.collected.Collected.keep.Goals as goal

ok_kept : {X E : Type 0} (result : Result X E) (P : Type 0) → is_err result ≡ false → OnOk result P → P
ok_kept (Ok x) P fine reported = reported
ok_kept (Err e) P fine reported = absurd (cc)

pub invariant_of-self : goal.invariant_of-self
invariant_of-self c = record {
  known = λ fine.
      let pushed = ok_kept _ _ (sym c.is_err-self.ensures.value ∙ fine) c.push.ensures.ok in
      ap has_final pushed ∙ has_final-last c.args.self.now.delivered c.args.item (c.args.self.now.known c.if-not-self.true ∙ c.requires)
      ∙ sym c.is_final-self.ensures;
}

pub returns-then-not-self : goal.returns-then-not-self
returns-then-not-self c = record {
  kept = λ items before. record {
    kept = λ fine. ok_kept _ _ (sym c.is_err-self.ensures.value ∙ fine) c.push.ensures.ok
        ∙ ap (λ kept. kept ++ c.args.item ∷ []) (before.kept c.if-not-self.true);
    ended = c.is_final-self.ensures ∙ sym (has_final-last items c.args.item (sym before.ended ∙ c.requires));
  };
}

pub returns-else-not-self : goal.returns-else-not-self
returns-else-not-self c = record {
  kept = λ items before. record {
    kept = λ fine. absurd (let refused = c.if-not-self.false in cc);
    ended = c.is_final-self.ensures ∙ sym (has_final-last items c.args.item (sym before.ended ∙ c.requires));
  };
}
