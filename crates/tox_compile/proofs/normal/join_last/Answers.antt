-- The last operation is joined with the new one, or both stay.
use Rattle.std.proofs.Common.{◌≡◌, List, [], ◌∷◌, ◌++◌, ap, sym, ◌∙◌, append_assoc, Option, None, Some}
use Rattle.std.specs.Option.{option_to_list}
use Rattle.tox_defs.specs.declared.operations.op.Op.{Op}
use Rattle.tox_compile.specs.Normal.{joined, one_or_two, with_last}
use Rattle.tox_compile.proofs.Sums.{with_last-append}
use Rattle.tox_compile.proofs.normal.join_last.Goals as goal

-- the operations with one more, by what the joining answers
appended : (ops front : List Op) (last op : Op) (popped one : Option Op) → ops ≡ front ++ option_to_list popped → popped ≡ Some last → joined last op ≡ one
    → front ++ one_or_two one last op ≡ with_last ops op
appended ops front last op popped one parts is tells =
    ap (λ one. front ++ one_or_two one last op) (sym tells)
    ∙ sym (with_last-append front last op)
    ∙ ap (λ items. with_last items op) (sym (parts ∙ ap (λ popped. front ++ option_to_list popped) is))

pub returns-in_default-joined : goal.returns-in_default-joined
returns-in_default-joined c =
    let front = c.pop.new.self.items in
    let last = c.in-Some.last in
    let op = c.args.op.now in
    c.append-in_default-joined-2.ensures
    ∙ ap (λ items. items ++ op ∷ []) c.append-in_default-joined.ensures
    ∙ append_assoc front (last ∷ []) (op ∷ [])
    ∙ appended c.args.ops.now.items front last op c.pop.result None c.pop.ensures.items c.in-Some.is (sym c.joined.ensures ∙ c.in_default-joined.is)

pub returns-in-Some-joined : goal.returns-in-Some-joined
returns-in-Some-joined c =
    c.append-in-Some-joined.ensures
    ∙ appended c.args.ops.now.items c.pop.new.self.items c.in-Some.last c.args.op.now c.pop.result (Some c.in-Some-joined.one) c.pop.ensures.items c.in-Some.is
    (sym c.joined.ensures ∙ c.in-Some-joined.is)
