-- The whole step, by how it ends. Assumes nothing.
use Prim.Native.Nat.{ℕ, ◌+◌, ◌*◌, ◌^◌, ◌≤◌, ◌<◌}
use mathlib.Core.Path.{◌≡◌, refl, sym, ◌∙◌}
use mathlib.Core.Bool.{true}
use mathlib.Core.List.{List, [], ◌∷◌, ◌++◌}
use native.Mathlib.Omega.{arith}
use lib.ListN.{length}
use borrow.Author.Tests.{lt-ltb, le-ltb}
use Rattle.vocabulary.specs.declared.Refusal.{Refusal}
use Rattle.vocabulary.specs.declared.Refusal.TheVariants.{LentLength, OutOfRange, NoAccess, NoIndex, ReadMode, StillWaiting}
use Rattle.vocabulary.specs.declared.Refusal.TheVariants.{OverFifteen, Malformed, ShortBuffer}
use Rattle.vocabulary.proofs.Call.{stops, goes_on}
use Rattle.vocabulary.proofs.Range.{clash}
use Rattle.std.specs.Prelude.{Some, None, IsSomeAnd, Ok, Err}
use Rattle.sheet.specs.Sheet.{Line, good, bad, keys, key_at, width, required, sheet_of, pasted, outcome, refused_for}
use Rattle.sheet.proofs.Texts.{required_first, width_register}
use Rattle.sheet.specs.Grammar.{Lawful}
use Rattle.sheet.specs.Kept.{reading_of}
use Rattle.sheet.proofs.Good.{sound}
use Rattle.calls.specs.Calls.{calls_of, call_bytes, call_refusals, sheet_to_calls}
use Rattle.calls.specs.Kept.{Kept}
use Rattle.calls.proofs.Stored.{length_bytes}

-- what is tried before 8
abbrev before : List Refusal
before = LentLength ∷ OutOfRange ∷ NoAccess ∷ NoIndex ∷ ReadMode ∷ StillWaiting ∷ OverFifteen ∷ []

-- a bad sheet is refusal 8, with its line
pub malformed_eight : (t out : List ℕ) (n : ℕ) → reading_of (Err n) ≡ sheet_of t
    → outcome (Err (record { refusal = Malformed; line = n })) out ≡ sheet_to_calls t out
unfolding sheet_to_calls
malformed_eight t out n e =
    rw (sym e)
    (stops (call_refusals (bad n) out) n out _ before Malformed 7 _ refl refl
    (refl, (refl, (refl, (refl, (refl, (refl, (refl, tt))))))) refl)

-- a required line is there, a register's with a byte
required_there : (k : ℕ) (x : Line) (l : List Line) → required (key_at k) ≡ true → Lawful k (x ∷ l)
    → IsSomeAnd x (λ v. v < 16 ^ width (key_at k)) × Lawful (k + 1) l
required_there k (Some v) l r h = (h.0, h.2)
required_there k None l r h = clash (sym r ∙ h.0)

register_there : (k : ℕ) (x : Line) (l : List Line) → 1 ≤ k → k < 5 → Lawful k (x ∷ l)
    → IsSomeAnd x (λ v. v < 256) × Lawful (k + 1) l
register_there k x l g h w =
    let r = required_there k x l (required_first k h) w in
    (rw (width_register k g h) at r.0, r.1)

lawful_kept : (lines : List Line) → length lines ≡ keys → Lawful 0 lines → Kept lines
lawful_kept [] e h = absurd (let z : ⊥ = omega arith in z)
lawful_kept (a ∷ []) e h = absurd (let z : ⊥ = omega arith in z)
lawful_kept (a ∷ b ∷ []) e h = absurd (let z : ⊥ = omega arith in z)
lawful_kept (a ∷ b ∷ c ∷ []) e h = absurd (let z : ⊥ = omega arith in z)
lawful_kept (a ∷ b ∷ c ∷ d ∷ []) e h = absurd (let z : ⊥ = omega arith in z)
lawful_kept (a ∷ b ∷ c ∷ d ∷ f ∷ l) e h =
    let r0 = required_there 0 a (b ∷ c ∷ d ∷ f ∷ l) (required_first 0 (omega arith)) h in
    let r1 = register_there 1 b (c ∷ d ∷ f ∷ l) (omega arith) (omega arith) r0.1 in
    let r2 = register_there 2 c (d ∷ f ∷ l) (omega arith) (omega arith) r1.1 in
    let r3 = register_there 3 d (f ∷ l) (omega arith) (omega arith) r2.1 in
    let r4 = register_there 4 f l (omega arith) (omega arith) r3.1 in
    record { long = e; read = r1.0; blink = r2.0; control = r3.0; timing = r4.0 }

pub calls_fit : (lines : List Line) (out : List ℕ) {n : ℕ} → n ≡ length (calls_of lines) → 2 * n ≤ length out
    → length (call_bytes (calls_of lines)) ≤ length out
calls_fit lines out e h = omega (arith, length_bytes (calls_of lines))

-- a good sheet
module _ (t : List ℕ) (lines : List Line) (is : reading_of (Ok lines) ≡ sheet_of t) where
  -- is kept well
  pub good_kept : Kept lines
  good_kept = let s = sound t lines (sym is) in lawful_kept lines s.long s.lawful

  module _ (out : List ℕ) {count : ℕ} (counts : count ≡ length (calls_of lines)) where
    abbrev bytes : ℕ
    bytes = length (call_bytes (calls_of lines))

    pub refused_short : length out < 2 * count → outcome (Err (refused_for ShortBuffer)) out ≡ sheet_to_calls t out
    unfolding sheet_to_calls
    refused_short h =
        let short : length out < bytes = omega (arith, length_bytes (calls_of lines)) in
        rw (sym is)
        (stops (call_refusals (good lines) out) 0 out _ (before ++ (Malformed ∷ [])) ShortBuffer 6 _ refl
        refl (refl, (refl, (refl, (refl, (refl, (refl, (refl, (refl, tt)))))))) (lt-ltb (length out) bytes short))

    pub done : {left : List ℕ} → 2 * count ≤ length out → left ≡ pasted out 0 (call_bytes (calls_of lines))
        → outcome (Ok count) left ≡ sheet_to_calls t out
    unfolding sheet_to_calls
    done h f =
        let room = calls_fit lines out counts h in
        rw (sym is, counts, f)
        (goes_on (call_refusals (good lines) out) 0 out _ (refl, (le-ltb (length out) bytes room, tt)))
