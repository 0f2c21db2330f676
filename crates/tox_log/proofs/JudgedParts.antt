-- The object of a judged log, in the fields in which it is printed.
use Rattle.std.proofs.Common.{◌≡◌, ℕ, List, [], ◌∷◌, ◌++◌, codes, decimal, flat_map, not, Some, append_assoc, append-nil, ap, ap₂, ◌∙◌}
use Rattle.tox_text.specs.Json.{flag_text}
use Rattle.tox_text.specs.JsonLine.{field_text, number_field, text_field}
use Rattle.tox_text.specs.declared.json_line.JsonField.{JsonField}
use Rattle.tox_log.specs.JudgedObject.{ended_fields, late_field}
use Rattle.tox_log.specs.declared.lateness.Percentiles.{Percentiles}

-- two texts, one behind the other
beside : {a b c d : List ℕ} → a ≡ b → c ≡ d → a ++ c ≡ b ++ d
beside first second = ap₂ (λ (x y : List ℕ). x ++ y) first second

pub ended_fields-parts : (word : List ℕ) (instant : ℕ) (f1 f2 : JsonField)
    → field_text f1 ≡ text_field (codes "end") word → field_text f2 ≡ number_field (codes "instant") instant
    → flat_map field_text (f1 ∷ f2 ∷ []) ≡ ended_fields word instant
ended_fields-parts word instant f1 f2 e1 e2 = beside e1 (append-nil (field_text f2) ∙ e2)

-- nine texts, one behind the other
pub nine : (a b c d e f g h i : List ℕ) → a ++ (b ++ (c ++ (d ++ (e ++ (f ++ (g ++ (h ++ (i ++ [])))))))) ≡ a ++ b ++ c ++ d ++ e ++ f ++ g ++ h ++ i
nine a b c d e f g h i = simp (append_assoc, append-nil)

pub late_field-parts : (late : Percentiles) (word : List ℕ) → word ≡ flag_text (not late.exact)
    → codes ",\"late\":{\"median\":" ++ (decimal late.median ++ (codes ",\"p99\":" ++ (decimal late.p99 ++ (codes ",\"max\":" ++ (decimal late.max
    ++ (codes ",\"approximate\":" ++ (word ++ (codes "}" ++ [])))))))) ≡ late_field (Some late)
late_field-parts late word is =
    nine (codes ",\"late\":{\"median\":") (decimal late.median) (codes ",\"p99\":") (decimal late.p99) (codes ",\"max\":") (decimal late.max)
    (codes ",\"approximate\":") word (codes "}")
    ∙ ap (λ (text : List ℕ). codes ",\"late\":{\"median\":" ++ decimal late.median ++ codes ",\"p99\":" ++ decimal late.p99 ++ codes ",\"max\":"
    ++ decimal late.max ++ codes ",\"approximate\":" ++ text ++ codes "}") is
