-- The library's version: three numbers, each below 10, and how they are told.
use Rattle.std.specs.Prelude.{ℕ, ◌+◌, ◌*◌, [], ◌∷◌}
use Rattle.version.specs.declared.Text.{Text}

abbrev pub major : ℕ
major = 0

abbrev pub minor : ℕ
minor = 3

abbrev pub patch : ℕ
patch = 0

-- as one number: a byte for minor, a byte for patch
abbrev pub packed : ℕ
packed = 65536 * major + 256 * minor + patch

-- as text: a decimal digit for each (0 is code 48), dots between (code 46), and zeros behind up to 8 bytes
abbrev pub written : Text
written = record { text = (48 + major) ∷ 46 ∷ (48 + minor) ∷ 46 ∷ (48 + patch) ∷ 0 ∷ 0 ∷ 0 ∷ [] }
