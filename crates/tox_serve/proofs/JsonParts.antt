-- Objects of JSON, in the fields in which they are printed.
use Rattle.std.proofs.Common.{◌≡◌, ℕ, List, [], ◌∷◌, ◌++◌, codes, append_assoc, append-nil, refl, ap, ap₂, ◌∙◌}
use Rattle.tox_time.specs.streams.StreamName.{stream_name}
use Rattle.tox_text.specs.Json.{array_text}
use Rattle.tox_text.specs.JsonLine.{event_text, field_text, key_text, number_field, object_line, text_field}
use Rattle.tox_text.specs.declared.json_line.JsonField.{JsonField}
use Rattle.tox_serve.specs.declared.link.end.LinkEnd.{LinkEnd}
use Rattle.tox_serve.specs.declared.output.open_line.OpenStream.{OpenStream}
use Rattle.tox_serve.specs.output.JsonLines.{link_object}
use Rattle.tox_serve.specs.output.OpenLine.{open_object, text_items}
use Rattle.tox_serve.specs.output.ServeLines.{end_word}

-- two texts, one behind the other
beside : {a b c d : List ℕ} → a ≡ b → c ≡ d → a ++ c ≡ b ++ d
beside first second = ap₂ (λ (x y : List ℕ). x ++ y) first second

five : (a b c d e z : List ℕ) → (a ++ (b ++ (c ++ (d ++ (e ++ []))))) ++ z ≡ a ++ (b ++ (c ++ (d ++ (e ++ z))))
five a b c d e z = simp (append_assoc, append-nil)

six : (a b c d e f z : List ℕ) → (a ++ (b ++ (c ++ (d ++ (e ++ (f ++ [])))))) ++ z ≡ a ++ (b ++ (c ++ (d ++ (e ++ (f ++ z)))))
six a b c d e f z = simp (append_assoc, append-nil)

pub link_object-fields : (name : List ℕ) (end : LinkEnd) (f1 f2 f3 f4 f5 f6 : JsonField)
    → field_text f1 ≡ text_field (codes "proxy") name → field_text f2 ≡ number_field (codes "link") end.number
    → field_text f3 ≡ number_field (codes "up") end.upstream.bytes → field_text f4 ≡ text_field (codes "up_end") (end_word end.upstream.ending)
    → field_text f5 ≡ number_field (codes "down") end.downstream.bytes → field_text f6 ≡ text_field (codes "down_end") (end_word end.downstream.ending)
    → object_line (codes "link") (f1 ∷ f2 ∷ f3 ∷ f4 ∷ f5 ∷ f6 ∷ []) ≡ link_object name end
link_object-fields name end f1 f2 f3 f4 f5 f6 e1 e2 e3 e4 e5 e6 =
    ap (λ (fields : List ℕ). event_text (codes "link") ++ fields) (
    six (field_text f1) (field_text f2) (field_text f3) (field_text f4) (field_text f5) (field_text f6) (codes "}\n")
    ∙ beside e1 (beside e2 (beside e3 (beside e4 (beside e5 (beside e6 refl))))))

pub open_object-fields : (opened : OpenStream) (f1 f2 f3 f4 f5 : JsonField)
    → field_text f1 ≡ text_field (codes "proxy") opened.proxy.now → field_text f2 ≡ number_field (codes "link") opened.number
    → field_text f3 ≡ text_field (codes "stream") (stream_name opened.stream) → field_text f4 ≡ text_field (codes "client") opened.client.now
    → field_text f5 ≡ key_text (codes "toxics") ++ array_text (text_items opened.toxics.now)
    → object_line (codes "open") (f1 ∷ f2 ∷ f3 ∷ f4 ∷ f5 ∷ []) ≡ open_object opened
open_object-fields opened f1 f2 f3 f4 f5 e1 e2 e3 e4 e5 =
    ap (λ (fields : List ℕ). event_text (codes "open") ++ fields) (
    five (field_text f1) (field_text f2) (field_text f3) (field_text f4) (field_text f5) (codes "}\n")
    ∙ beside e1 (beside e2 (beside e3 (beside e4 (beside e5 refl)))))
