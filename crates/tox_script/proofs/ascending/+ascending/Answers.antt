-- One value more, and the order of a map's keys.
use Rattle.std.proofs.Common.{◌≡◌, get_or, take, [], ◌∷◌, ◌++◌, sym, ap, ◌∙◌, arith, append_assoc, append-nil}
use Rattle.std.proofs.lemmas.Grind.{common_steps}
use Rattle.std.proofs.lemmas.List.{take_more}
use Rattle.toml.proofs.Views.{Entry, items_are_sorted-last, values_sorted-last, members_are_sorted-from}
use Rattle.tox_script.proofs.ascending.+ascending.Goals as goal

pub items_ascend-items-preserved : goal.items_ascend-items-preserved
items_ascend-items-preserved c c' =
    let xs = c'.args.items.now in
    let i = c'.items.item-index in
    let item = c'.item-item.result in
    let at : get_or xs i item ≡ item = grind (arith, common_steps) in
    rw (take_more xs i item c'.items-test.true, at) (items_are_sorted-last (take i xs) item c'.items.invariant c'.ascends.ensures)

pub members_ascend-members-preserved : goal.members_ascend-members-preserved
members_ascend-members-preserved c c' =
    let (can, finite, done, whole, sorted) = c'.members.invariant in
    let e : Entry = (c'.in-Some._key.now, c'.in-Some.member.now) in
    let iter : c'.members._key-iterator ≡ e ∷ c'.next.new.self = grind (arith, common_steps) in
    let all = whole ∙ ap (λ t. done ++ t) iter ∙ sym (append_assoc done (e ∷ []) c'.next.new.self) in
    (tt, tt, done ++ e ∷ [], all, values_sorted-last done e sorted c'.ascends.ensures)

pub members_ascend-returns : goal.members_ascend-returns
members_ascend-returns c c' =
    let (can, finite, done, whole, sorted) = c'.members.invariant in
    let none : c'.members._key-iterator ≡ [] = grind (arith, common_steps) in
    let all : c'.args.members.now.entries ≡ done = whole ∙ rw none (append-nil done) in
    rw all (members_are_sorted-from done (rw all at c'.iter-key-items.ensures.ordered) sorted)
