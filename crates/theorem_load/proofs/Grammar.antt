-- What the grammar says of a good sheet: a line for each key, the four registers there, each value below its limit.
-- Assumes nothing.
use Prim.Native.Nat.{ℕ, zero, suc, ◌+◌, ◌<◌, ◌≤◌}
use mathlib.Core.Path.{◌≡◌, refl}
use mathlib.Core.List.{List, [], ◌∷◌}
use native.Mathlib.Omega.{arith}
use borrow.Author.Tests.{eqb-true}
use lib.Bits.{bit_and}
use lib.ListN.{length, take, drop, length-take, length-drop}
use Rattle.vocabulary.specs.Choice.{pick}
use Rattle.vocabulary.proofs.Range.{clash}
use Rattle.hd153108.specs.Hd153108.{Table, colour, overlay, size, reserved_bits}
use Rattle.sheet.specs.Sheet.{Line}
use Rattle.std.specs.Prelude.{Some, None}
use Rattle.sheet.specs.Sheet.{key_at, keys, sheet_of, good, registers_of, overlays_of}
use Rattle.sheet.proofs.Texts.{width_entry}
use Rattle.sheet.specs.Grammar.{Lawful}
use Rattle.sheet.proofs.Good.{sound}
use Rattle.theorem_load.specs.Load.{entries_of}

-- ---- parts of lawful lines

one_on : (k n : ℕ) → k + suc n ≡ k + 1 + n
one_on k n = omega arith

lawful_drop : (n k : ℕ) (l : List Line) → Lawful k l → Lawful (k + n) (drop n l)
lawful_drop zero k l h = let e : k + 0 ≡ k = omega arith in rw e h
lawful_drop (suc n) k [] h = tt
lawful_drop (suc n) k (Some v ∷ l) (_, _, h) = rw (one_on k n) (lawful_drop n (k + 1) l h)
lawful_drop (suc n) k (None ∷ l) (_, h) = rw (one_on k n) (lawful_drop n (k + 1) l h)

lawful_take : (n k : ℕ) (l : List Line) → Lawful k l → Lawful k (take n l)
lawful_take zero k l h = tt
lawful_take (suc n) k [] h = tt
lawful_take (suc n) k (Some v ∷ l) (fits, right, h) = (fits, right, lawful_take n (k + 1) l h)
lawful_take (suc n) k (None ∷ l) (free, h) = (free, lawful_take n (k + 1) l h)

-- every colour that is listed has three digits
abbrev pub Colours : List Line → Type 0
Colours [] = Unit
Colours (Some v ∷ l) = (v < 4096) × Colours l
Colours (None ∷ l) = Colours l

colours_below : (k : ℕ) (l : List Line) → 5 ≤ k → Lawful k l → Colours l
colours_below k [] h f = tt
colours_below k (Some v ∷ l) h (fits, _, f) = (rw (width_entry k h) at fits, colours_below (k + 1) l (omega arith) f)
colours_below k (None ∷ l) h (_, f) = colours_below (k + 1) l (omega arith) f

-- the four registers, each there
pub record Registers (l : List Line) : Type 0 where
  pub readmask : ℕ
  pub blinkmask : ℕ
  pub control : ℕ
  pub timing : ℕ
  pub lines : l ≡ Some readmask ∷ Some blinkmask ∷ Some control ∷ Some timing ∷ []
  pub readmask_byte : readmask < 256
  pub blinkmask_byte : blinkmask < 256
  pub control_byte : control < 256
  pub control_clear : bit_and control reserved_bits ≡ 0
  pub timing_byte : timing < 256

lawful_registers : (l : List Line) → length l ≡ 4 → Lawful 1 l → Registers l
unfolding key_at pick
lawful_registers (Some r ∷ Some b ∷ Some o ∷ Some t ∷ []) h (fr, _, (fb, _, (fo, clear, (ft, _, _)))) = record {
  readmask = r;
  blinkmask = b;
  control = o;
  timing = t;
  lines = refl;
  readmask_byte = fr;
  blinkmask_byte = fb;
  control_byte = fo;
  control_clear = eqb-true _ 0 clear;
  timing_byte = ft;
}
lawful_registers (None ∷ l) h (free, _) = clash free
lawful_registers (Some r ∷ None ∷ l) h (_, _, (free, _)) = clash free
lawful_registers (Some r ∷ Some b ∷ None ∷ l) h (_, _, (_, _, (free, _))) = clash free
lawful_registers (Some r ∷ Some b ∷ Some o ∷ None ∷ l) h (_, _, (_, _, (_, _, (free, _)))) = clash free
lawful_registers [] h f = absurd (let z : ⊥ = omega arith in z)
lawful_registers (Some r ∷ []) h f = absurd (let z : ⊥ = omega arith in z)
lawful_registers (Some r ∷ Some b ∷ []) h f = absurd (let z : ⊥ = omega arith in z)
lawful_registers (Some r ∷ Some b ∷ Some o ∷ []) h f = absurd (let z : ⊥ = omega arith in z)
lawful_registers (Some r ∷ Some b ∷ Some o ∷ Some t ∷ x ∷ l) h f = absurd (let z : ⊥ = omega arith in z)

-- ---- a good sheet

pub record GoodLines (lines : List Line) : Type 0 where
  pub all : length lines ≡ keys
  pub registers : Registers (registers_of lines)
  pub colours : (t : Table) → Colours (entries_of t lines)
  pub entries : (t : Table) → length (entries_of t lines) ≡ size t

module _ (lines : List Line) (n : length lines ≡ keys) where
  entries_length : (t : Table) → length (entries_of t lines) ≡ size t
  entries_length colour = omega (arith, length-drop 9 lines)
  entries_length overlay = simp (length-take, length-drop) (omega arith)

  registers_length : length (registers_of lines) ≡ 4
  registers_length = simp (length-take, length-drop) (omega arith)

entries_below : (t : Table) (lines : List Line) → Lawful 0 lines → Colours (entries_of t lines)
entries_below colour lines f = colours_below 9 (drop 9 lines) (omega arith) (lawful_drop 9 0 lines f)
entries_below overlay lines f =
    colours_below 5 (overlays_of lines) (omega arith) (lawful_take 4 5 (drop 5 lines) (lawful_drop 5 0 lines f))

pub good_lines : (text : List ℕ) (lines : List Line) → sheet_of text ≡ good lines → GoodLines lines
good_lines text lines e =
    let s = sound text lines e in
    let f = s.lawful in
    record {
      all = s.long;
      registers =
          lawful_registers (registers_of lines) (registers_length lines s.long)
          (lawful_take 4 1 (drop 1 lines) (lawful_drop 1 0 lines f));
      colours = λ t. entries_below t lines f;
      entries = entries_length lines s.long;
    }
