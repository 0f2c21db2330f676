-- Objects of JSON, in the fields in which they are printed.
use Rattle.std.proofs.Common.{◌≡◌, ℕ, Bool, List, [], ◌∷◌, ◌++◌, codes, Option, refl, ap, ap₂}
use Rattle.tox_time.specs.declared.streams.stream.Stream.{Stream}
use Rattle.tox_time.specs.streams.StreamName.{stream_name}
use Rattle.tox_text.specs.Json.{array_text}
use Rattle.tox_text.specs.JsonLine.{event_text, field_text, key_text, number_field, object_line, text_field}
use Rattle.tox_text.specs.declared.json_line.JsonField.{JsonField}
use Rattle.tox_check.specs.forecast.Objects.{place_items, rule_number, stream_object, total_object}

-- two texts, one behind the other
beside : {a b c d : List ℕ} → a ≡ b → c ≡ d → a ++ c ≡ b ++ d
beside first second = ap₂ (λ (x y : List ℕ). x ++ y) first second

pub stream_object-fields : (proxy : List ℕ) (conn : ℕ) (stream : Stream) (rule : Option ℕ) (flags : List Bool) (f1 f2 f3 f4 f5 : JsonField)
    → field_text f1 ≡ text_field (codes "proxy") proxy → field_text f2 ≡ number_field (codes "link") conn
    → field_text f3 ≡ text_field (codes "stream") (stream_name stream) → field_text f4 ≡ number_field (codes "rule") (rule_number rule)
    → field_text f5 ≡ key_text (codes "applied") ++ array_text (place_items flags)
    → object_line (codes "forecast") (f1 ∷ f2 ∷ f3 ∷ f4 ∷ f5 ∷ []) ≡ stream_object proxy conn stream rule flags
stream_object-fields proxy conn stream rule flags f1 f2 f3 f4 f5 e1 e2 e3 e4 e5 =
    ap (λ (fields : List ℕ). event_text (codes "forecast") ++ (fields ++ codes "}\n"))
    (beside e1 (beside e2 (beside e3 (beside e4 (beside e5 refl)))))

pub total_object-fields : (proxy : List ℕ) (rule number applied met : ℕ) (name : List ℕ) (f1 f2 f3 f4 f5 f6 : JsonField)
    → field_text f1 ≡ text_field (codes "proxy") proxy → field_text f2 ≡ number_field (codes "rule") rule
    → field_text f3 ≡ number_field (codes "toxic") number → field_text f4 ≡ number_field (codes "applied") applied
    → field_text f5 ≡ number_field (codes "of") met → field_text f6 ≡ text_field (codes "name") name
    → object_line (codes "toxic") (f1 ∷ f2 ∷ f3 ∷ f4 ∷ f5 ∷ f6 ∷ []) ≡ total_object proxy rule number applied met name
total_object-fields proxy rule number applied met name f1 f2 f3 f4 f5 f6 e1 e2 e3 e4 e5 e6 =
    ap (λ (fields : List ℕ). event_text (codes "toxic") ++ (fields ++ codes "}\n"))
    (beside e1 (beside e2 (beside e3 (beside e4 (beside e5 (beside e6 refl))))))
