-- Calls as bytes, and as they are stored. Assumes nothing.
use Prim.Native.Nat.{ℕ, ◌+◌, ◌*◌, ◌≤◌}
use mathlib.Core.Path.{◌≡◌, refl, sym, ap}
use mathlib.Core.List.{List, [], ◌∷◌, ◌++◌}
use native.Mathlib.Omega.{arith}
use lib.ListN.{length, drop, get_or}
use Rattle.std.specs.Prelude.{Some, None}
use Rattle.sheet.specs.Sheet.{Line, registers_of, pasted, Wrote}
use Rattle.sheet.proofs.Paste.{pasted_none}
use Rattle.calls.specs.Calls.{Call, register_calls, call_bytes}
use Rattle.calls.specs.Kept.{Kept}

pub bytes_append : (l m : List Call) → call_bytes (l ++ m) ≡ call_bytes l ++ call_bytes m
unfolding call_bytes
bytes_append [] m = refl
bytes_append (x ∷ l) m = ap (λ (r : List ℕ). x.select ∷ x.byte ∷ r) (bytes_append l m)

pub length_bytes : (l : List Call) → length (call_bytes l) ≡ 2 * length l
unfolding call_bytes
length_bytes [] = refl
length_bytes (x ∷ l) = omega (arith, length_bytes l)

-- a word copied to a buffer's start
pub stored : (d w last : List ℕ) → last ≡ w → Wrote d 0 w (length w) (last ++ drop (length w) d)
unfolding pasted
stored d w last is = let none : 0 + length w ≡ length w = omega arith in (sym none, rw (is, none))

pub nothing : (d : List ℕ) → Wrote d 0 [] 0 d
nothing d = (refl, sym (pasted_none d 0))

-- the registers' bytes
pub register_bytes : (lines : List Line) {read blink control timing : ℕ} → registers_of lines
    ≡ Some read ∷ Some blink ∷ Some control ∷ Some timing ∷ []
    → call_bytes (register_calls 4 (registers_of lines))
    ≡ 4 ∷ read ∷ 5 ∷ blink ∷ 6 ∷ control ∷ 7 ∷ timing ∷ []
unfolding call_bytes register_calls
register_bytes lines e = rw e refl

-- a good sheet's registers: there, and bytes
pub record Registers (lines : List Line) : Type 0 where
  pub read : ℕ
  pub blink : ℕ
  pub control : ℕ
  pub timing : ℕ
  pub is : registers_of lines ≡ Some read ∷ Some blink ∷ Some control ∷ Some timing ∷ []

pub registers_there : (lines : List Line) → Kept lines → Registers lines
registers_there [] k = absurd (let z : ⊥ = omega (arith, k.long) in z)
registers_there (a ∷ []) k = absurd k.read
registers_there (a ∷ None ∷ l) k = absurd k.read
registers_there (a ∷ Some b ∷ []) k = absurd k.blink
registers_there (a ∷ Some b ∷ None ∷ l) k = absurd k.blink
registers_there (a ∷ Some b ∷ Some c ∷ []) k = absurd k.control
registers_there (a ∷ Some b ∷ Some c ∷ None ∷ l) k = absurd k.control
registers_there (a ∷ Some b ∷ Some c ∷ Some d ∷ []) k = absurd k.timing
registers_there (a ∷ Some b ∷ Some c ∷ Some d ∷ None ∷ l) k = absurd k.timing
registers_there (a ∷ Some b ∷ Some c ∷ Some d ∷ Some e ∷ l) k =
    record { read = b; blink = c; control = d; timing = e; is = refl }

pub length_registers : (lines : List Line) → Kept lines → length (call_bytes (register_calls 4 (registers_of lines))) ≡ 8
length_registers lines k = ap length (register_bytes lines (registers_there lines k).is)

-- five lines and more, the last four of them there: they are written, in one piece
pub registers_wrote : (lines : List Line) (out last : List ℕ) (read blink control timing : ℕ) → 5 ≤ length lines
    → get_or lines 1 None ≡ Some read → get_or lines 2 None ≡ Some blink → get_or lines 3 None ≡ Some control
    → get_or lines 4 None ≡ Some timing → last ≡ 4 ∷ read ∷ 5 ∷ blink ∷ 6 ∷ control ∷ 7 ∷ timing ∷ []
    → Wrote out 0 (call_bytes (register_calls 4 (registers_of lines))) 8 (last ++ drop 8 out)
unfolding call_bytes register_calls
registers_wrote [] out last r b c t h e f g i is = absurd (let z : ⊥ = omega (arith, h) in z)
registers_wrote (x ∷ []) out last r b c t h e f g i is = absurd (let z : ⊥ = omega (arith, h) in z)
registers_wrote (x ∷ y ∷ []) out last r b c t h e f g i is = absurd (let z : ⊥ = omega (arith, h) in z)
registers_wrote (x ∷ y ∷ z ∷ []) out last r b c t h e f g i is = absurd (let z : ⊥ = omega (arith, h) in z)
registers_wrote (x ∷ y ∷ z ∷ v ∷ []) out last r b c t h e f g i is = absurd (let z : ⊥ = omega (arith, h) in z)
registers_wrote (x ∷ y ∷ z ∷ v ∷ w ∷ l) out last r b c t h e f g i is = rw (e, f, g, i) (stored out _ last is)
