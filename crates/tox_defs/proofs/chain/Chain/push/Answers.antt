-- A toxic in its range joins the others.
use Rattle.std.proofs.Common.{arith, subst, sym, List}
use Rattle.std.specs.Prelude.{All}
use Rattle.std.proofs.lemmas.Grind.{common_steps}
use Rattle.std.proofs.lemmas.List.Elements.{All-push}
use Rattle.tox_defs.specs.declared.chain.Entry.{Entry}
use Rattle.tox_defs.specs.chain.Chain.{IsEntry}
use Rattle.tox_defs.proofs.chain.Chain.push.Goals as goal

pub invariant_of-self : goal.invariant_of-self
invariant_of-self c =
    let joins : IsEntry (record { toxic = c.args.toxic; toxicity = c.args.toxicity }) = (c.requires.in_range, c.requires.thousandths) in
    record {
      most = grind (arith, common_steps);
      entries_fit = subst (λ (entries : List Entry). All IsEntry entries) (sym c.push.ensures.items)
          (All-push IsEntry c.self.inside.entries.items _ c.self.invariant.entries_fit joins);
    }
