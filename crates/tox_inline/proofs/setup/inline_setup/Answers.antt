-- The addresses were read before the toxics, and those before the script that stands for them.
use Rattle.std.proofs.Common.{ℕ, List, ap, sym, ◌∙◌, subst}
use Rattle.std.proofs.lemmas.Result.{err_from_is_err_and}
use Rattle.tox_config.specs.ConfigFaults.{IsConfigFault}
use Rattle.tox_config.specs.Populate.{populate}
use Rattle.tox_script.specs.Script.{script_of}
use Rattle.tox_script.specs.ScriptFaults.{IsScriptFault}
use Rattle.tox_inline.specs.Setup.{HasInlineCause, IsInlineFault, IsPopulated}
use Rattle.tox_inline.specs.Texts.{script_text}
use Rattle.tox_inline.specs.Toxics.{numbered_toxics}
use Rattle.tox_inline.specs.declared.fault.InlineFault.{InlineFault}
use Rattle.tox_inline.specs.declared.fault.InlineFault.TheVariants.{Config, Toxics, Script, OutOfMemory}
use Rattle.tox_inline.specs.declared.setup.Inline.{Inline}
use Rattle.tox_inline.proofs.setup.inline_setup.Goals as goal

-- a fault of the toxics is the command line's, once the addresses are those of a proxy
cause-from_toxics : (inline : Inline) (fault : InlineFault) → IsPopulated inline → IsInlineFault (numbered_toxics inline.toxics.now) fault
    → HasInlineCause inline fault
cause-from_toxics inline (Toxics fault) populated read = (populated, read)
cause-from_toxics inline OutOfMemory populated read = tt
cause-from_toxics inline (Config fault) populated read = absurd read
cause-from_toxics inline (Script fault) populated read = absurd read

pub returns-in_err-proxies-clause-fault : goal.returns-in_err-proxies-clause-fault
returns-in_err-proxies-clause-fault c =
    let exit = err_from_is_err_and c.from_residual-in_err-proxies.result c.from_residual-in_err-proxies.ensures.1 in
    rw (exit.1, exit.2)
    (subst (λ (text : List ℕ). IsConfigFault (populate text) c.in_err-proxies.field-0.0) (c.bytes.ensures ∙ c.in_ok-populate.ensures.ok)
    c.in_err-proxies.ensures.err)

pub returns-in_err-toxics-clause-fault : goal.returns-in_err-toxics-clause-fault
returns-in_err-toxics-clause-fault c =
    let exit = err_from_is_err_and c.from_residual-in_err-toxics.result c.from_residual-in_err-toxics.ensures.1 in
    let populated : IsPopulated c.args.inline.now = record {
      proxies = c.in_ok-proxies.proxies.items;
      populated = ap populate (sym (c.bytes.ensures ∙ c.in_ok-populate.ensures.ok)) ∙ c.in_ok-proxies.ensures.ok;
    } in
    rw (exit.1, exit.2) (cause-from_toxics c.args.inline.now c.in_err-toxics.field-0.0 populated c.in_err-toxics.ensures.fault)

pub returns-in_err-rules-clause-fault : goal.returns-in_err-rules-clause-fault
returns-in_err-rules-clause-fault c =
    let exit = err_from_is_err_and c.from_residual-in_err-rules.result c.from_residual-in_err-rules.ensures.1 in
    let text = c.bytes-2.ensures ∙ c.in_ok-script.ensures.ok ∙ ap script_text c.deref.ensures.value in
    rw (exit.1, exit.2) (
      c.in_ok-toxics.toxics.items,
      c.in_ok-toxics.ensures.ok,
      subst (λ (file : List ℕ). IsScriptFault (script_of file) c.in_err-rules.field-0.0) text c.in_err-rules.ensures.err,
    )
