use Rattle.std.proofs.Common.{◌≡◌, ℕ, List, Bool, true, false, None, refl}
use Rattle.std.specs.Prelude.{IsUtf8, if◌then◌else◌}
use Rattle.std.specs.Str.{is_utf8}
use Rattle.std.proofs.lemmas.Str.{IsUtf8-from_is_utf8, is_utf8-from_IsUtf8}
use Rattle.toml.specs.Parse.{parse_document}
use Rattle.plan_file.specs.PlanText.{document_of}
use Rattle.plan_file.proofs.reading.document_of.Goals as goal

-- bytes that are no text are no document, nor is a text that the grammar refuses
no_text_or_refused : (bytes : List ℕ) → (IsUtf8 bytes → parse_document bytes ≡ None) → document_of bytes ≡ None
no_text_or_refused bytes refused = by (is_utf8 bytes) refl
  where
    by : (b : Bool) → is_utf8 bytes ≡ b → (if b then parse_document bytes else None) ≡ None
    by true e = refused (IsUtf8-from_is_utf8 bytes e)
    by false e = refl

pub returns-in-Ok : goal.returns-in-Ok
returns-in-Ok c =
    let text = is_utf8-from_IsUtf8 c.args.bytes.now c.in-Ok.ensures.ok.0 in
    rw (text, c.in-Ok.ensures.ok.1) refl

pub returns-else-is_memory : goal.returns-else-is_memory
returns-else-is_memory c =
    rw (no_text_or_refused c.args.bytes.now (c.in-Err.ensures.refused (λ memory. let so = c.is_memory.ensures.1 memory in cc (so, c.if-is_memory.false)))) refl
