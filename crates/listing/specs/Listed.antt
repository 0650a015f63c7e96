-- What becomes of a text and the buffer that it is listed into.
use Rattle.std.specs.Prelude.{◌≡◌, ℕ, ◌<◌, ◌≤◌, List, ◌++◌, length, drop, Ok, Err, Result}
use Rattle.mesh.specs.declared.refusals.Refusal.{Refusal}
use Rattle.mesh.specs.declared.refusals.Refusal.TheVariants.{ShortBuffer}

-- a buffer with a text written over its front
abbrev pub over : List ℕ → List ℕ → List ℕ
over text buffer = text ++ drop (length text) buffer

-- the text's length is replied and the text stands in front; or the buffer is too short, and stays
abbrev pub Listed : List ℕ → List ℕ → List ℕ → Result ℕ Refusal → Type 0
Listed text entry exit (Ok n) = (length text ≤ length entry) × (n ≡ length text) × (exit ≡ over text entry)
Listed text entry exit (Err e) = (length entry < length text) × (e ≡ ShortBuffer) × (exit ≡ entry)
