-- How long a sheet is: 2,134 bytes with all its lines, and no good sheet is longer; and the last line that can be bad.
-- Assumes nothing.
use Prim.Native.Nat.{ℕ, zero, suc, ◌+◌, ◌≤◌}
use mathlib.Core.Path.{◌≡◌, refl, ap, ◌∙◌}
use mathlib.Core.List.{List, [], ◌∷◌, map}
use native.Mathlib.Omega.{arith}
use lib.ListN.{length, drop, length-append}
use Rattle.vocabulary.specs.Choice.{pick}
use Rattle.vocabulary.proofs.Choice.{picks_first, picks_second, cases}
use Rattle.hex_digits.specs.Hex.{hex}
use Rattle.sheet.specs.Sheet.{Line}
use Rattle.std.specs.Prelude.{Some, None}
use Rattle.sheet.specs.Sheet.{keys, key_at, front, width, required, line_text, line_of, Reading, good, bad, led, ended}
use Rattle.sheet.specs.Sheet.{read_from, sheet_of, bad_line, text_from}
use Rattle.sheet.proofs.Texts.{line_length}
use Rattle.sheet.proofs.Good.{sound}

-- how many bytes the lines of n keys have, from key k on
size : ℕ → ℕ → ℕ
size zero k = 0
size (suc n) k = length (front (key_at k)) + width (key_at k) + 1 + size n (k + 1)

length_from : (vs : List ℕ) (k : ℕ) → length (text_from k (map Some vs)) ≡ size (length vs) k
unfolding text_from size
length_from [] k = refl
length_from (v ∷ vs) k = simp length-append (omega (arith, line_length (key_at k) v, length_from vs (k + 1)))

-- all 265 lines
all : size keys 0 ≡ 2134
unfolding size key_at pick front hex
all = refl

pub length_all : (vs : List ℕ) → length vs ≡ keys → length (text_from 0 (map Some vs)) ≡ 2134
length_all vs e = length_from vs 0 ∙ ap (λ (n : ℕ). size n 0) e ∙ all

-- a missing line is no longer than one that is there
no_longer : (l : List Line) (k : ℕ) → length (text_from k l) ≤ size (length l) k
unfolding text_from size
no_longer [] k = omega arith
no_longer (Some v ∷ l) k = simp length-append (omega (arith, line_length (key_at k) v, no_longer l (k + 1)))
no_longer (None ∷ l) k = omega (arith, no_longer l (k + 1))

-- a sheet has at most 2,134 bytes
pub sheet_bytes : (t : List ℕ) (l : List Line) → sheet_of t ≡ good l → length t ≤ 2134
sheet_bytes t l e =
    let s = sound t l e in
    omega (arith, ap length s.text, no_longer l 0, ap (λ (n : ℕ). size n 0) s.long, all)

-- a bad line's number is at most 266
bad_led : (x : Line) (r : Reading) → bad_line (led x r) ≡ bad_line r
bad_led x (good l) = refl
bad_led x (bad n) = refl

bad_ended : (t : List ℕ) (n : ℕ) → bad_line (ended t n) ≤ n + 0
bad_ended [] n = omega arith
bad_ended (b ∷ t) n = omega arith

module _ (more k n : ℕ) (t : List ℕ)
    (on : (n : ℕ) (t : List ℕ) → bad_line (read_from more (k + 1) n t) ≤ n + more) where
  bad_step : (x : Line) → line_of (key_at k) t ≡ x → bad_line (read_from (suc more) k n t) ≤ n + suc more
  unfolding read_from
  bad_step (Some v) e = rw (e, bad_led) (omega (arith, on (n + 1) (drop (length (line_text (key_at k) v)) t)))
  bad_step None e =
      rw e
      (cases (required (key_at k))
      (λ b. rw (picks_first (bad n) _ b) (omega arith))
      (λ b. rw (picks_second (bad n) _ b, bad_led) (omega (arith, on n t))))

bad_from : (more k n : ℕ) (t : List ℕ) → bad_line (read_from more k n t) ≤ n + more
unfolding read_from
bad_from zero k n t = bad_ended t n
bad_from (suc more) k n t = bad_step more k n t (λ m s. bad_from more (k + 1) m s) (line_of (key_at k) t) refl

pub bad_bound : (t : List ℕ) → bad_line (sheet_of t) ≤ 266
bad_bound t = bad_from keys 0 1 t
