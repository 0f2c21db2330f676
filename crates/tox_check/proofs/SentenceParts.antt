-- Sentences, in the parts in which they are printed.
use Rattle.std.proofs.Common.{◌≡◌, ℕ, List, [], ◌++◌, append-nil, codes, decimal, Option, ap}
use Rattle.tox_text.specs.Names.{visible_name}
use Rattle.tox_check.specs.Sentences.{near_text, range_text, run_end, sentence, warning_text, unknown_text}
use Rattle.tox_check.specs.declared.run.Run.{Run}
use Rattle.tox_check.specs.declared.warning.Warning.{Warning}

pub range_text-parts : (run : Run) → (decimal run.first ++ []) ++ run_end run ≡ range_text run
range_text-parts run = ap (λ digits. digits ++ run_end run) (append-nil (decimal run.first))

pub sentence-parts : (rule : ℕ) (warning : Warning) → (codes "rule " ++ (decimal rule ++ [])) ++ warning_text warning ≡ sentence rule warning
sentence-parts rule warning = ap (λ digits. (codes "rule " ++ digits) ++ warning_text warning) (append-nil (decimal rule))

pub unknown_text-parts : (name : List ℕ) (near : Option (List ℕ)) → (codes " never applies: no proxy " ++ (visible_name name ++ [])) ++ near_text near
    ≡ unknown_text name near
unknown_text-parts name near = ap (λ shown. (codes " never applies: no proxy " ++ shown) ++ near_text near) (append-nil (visible_name name))

pub unread_line-parts : (proxy key : List ℕ) (near : Option (List ℕ))
    → (codes "proxy " ++ (visible_name proxy ++ (codes " has an unknown member: " ++ (visible_name key ++ [])))) ++ near_text near
    ≡ (codes "proxy " ++ (visible_name proxy ++ (codes " has an unknown member: " ++ visible_name key))) ++ near_text near
unread_line-parts proxy key near =
    ap (λ shown. (codes "proxy " ++ (visible_name proxy ++ (codes " has an unknown member: " ++ shown))) ++ near_text near) (append-nil (visible_name key))
