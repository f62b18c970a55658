-- WHAT DOCUMENTS 01 AND 02 SAY OF THE EXPANDER, in their words and numbers, as rows: a width and a value, and what
-- they answer. It is said of any `called`, and takes nothing of Expand.antt: who ticks these rows against the
-- documents need not believe that file. The expander meets them (`scope`), and one that meets them is that expander
-- (`scope_determines`), refusals included.
use Rattle.std.specs.Prelude.{ℕ, ◌+◌, ◌*◌, ◌/◌, ◌-◌, ◌^◌, ◌%◌, ◌<◌, ◌≤◌, ◌≡◌}
use Rattle.vocabulary.specs.Line.{line}
use Rattle.vocabulary.specs.Outcome.{Outcome, accepting, refusing}

-- 02, P4: "The expander takes a width from 4 to 8 and repeats the component's bits from the top until ten are filled"
pub record Scope (called : ℕ → ℕ → Outcome Unit) : Type 0 where
  -- 02, P4: "4 bits as 64v + 4v + floor(v/4), 5 bits as 33v"
  pub four : (v : ℕ) → v < 16 → called 4 v ≡ accepting (64 * v + 4 * v + v / 4) 0 tt
  pub five : (v : ℕ) → v < 32 → called 5 v ≡ accepting (33 * v) 0 tt
  -- 01: "6 bits as 16v + floor(v/4)"
  pub six : (v : ℕ) → v < 64 → called 6 v ≡ accepting (16 * v + v / 4) 0 tt
  -- no document spells 7 bits out; the row is P4's sentence: the component, 8v, and its first three bits again
  pub seven : (v : ℕ) → v < 128 → called 7 v ≡ accepting (8 * v + v / 16) 0 tt
  -- 01: "8 bits as 4v + floor(v/64)"
  pub eight : (v : ℕ) → v < 256 → called 8 v ≡ accepting (4 * v + v / 64) 0 tt
  -- 02, P4: "9 for a width outside 4 to 8, or a value of 2 to the width or more"
  pub nine_width : (w v : ℕ) → ¬ ((4 ≤ w) × (w ≤ 8)) → called w v ≡ refusing 9 0 tt
  pub nine_value : (w v : ℕ) → 2 ^ w ≤ v → called w v ≡ refusing 9 0 tt

-- ---- What every width has, of any function from components of w bits to ten

pub record Shared (w : ℕ) (ten : ℕ → ℕ) : Type 0 where
  -- the ten bits from the top are the component's from its top, over and over
  pub bits : (v i : ℕ) → i < 10 → line (ten v) (9 - i) ≡ line v (w - 1 - i % w)
  pub below : (v : ℕ) → ten v < 1024
  -- the top bits are the component, so that it can be got back
  pub top : (v : ℕ) → v < 2 ^ w → ten v / 2 ^ (10 - w) ≡ v
  pub least : ten 0 ≡ 0
  pub largest : ten (2 ^ w - 1) ≡ 1023
  pub order : (u v : ℕ) → v < 2 ^ w → u < v → ten u < ten v
