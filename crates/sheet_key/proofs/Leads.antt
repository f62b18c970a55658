-- Lines before a reading, and keys that are passed over. Assumes nothing.
use Prim.Native.Nat.{ℕ, zero, suc, ◌+◌, ◌≤◌, ◌<◌}
use mathlib.Core.Path.{◌≡◌, refl, ap, ◌∙◌}
use mathlib.Core.List.{List, [], ◌∷◌, ◌++◌}
use native.Mathlib.Omega.{arith}
use lib.ListN.{length, drop, replicate}
use Rattle.vocabulary.proofs.Choice.{picks_first, picks_second}
use Rattle.sheet.specs.Sheet.{Line}
use Rattle.std.specs.Prelude.{Some, None}
use Rattle.sheet.specs.Sheet.{key_at, line_of, line_text, Reading, good, bad, led, read_from}
use Rattle.sheet.proofs.Texts.{required_first, required_entry}
use Rattle.sheet_key.specs.Reader.{leads}

pub leads_append : (l m : List Line) (r : Reading) → leads (l ++ m) r ≡ leads l (leads m r)
unfolding leads
leads_append [] m r = refl
leads_append (x ∷ l) m r = ap (led x) (leads_append l m r)

pub leads_bad : (l : List Line) (n : ℕ) → leads l (bad n) ≡ bad n
unfolding leads
leads_bad [] n = refl
leads_bad (x ∷ l) n = ap (led x) (leads_bad l n)

pub leads_good : (l m : List Line) → leads l (good m) ≡ good (l ++ m)
unfolding leads
leads_good [] m = refl
leads_good (x ∷ l) m = ap (led x) (leads_good l m)

-- one key on, by its line
module _ (k n : ℕ) (t : List ℕ) (more : ℕ) where
  pub has : (v : ℕ) → line_of (key_at k) t ≡ Some v
      → read_from (suc more) k n t
      ≡ led (Some v) (read_from more (k + 1) (n + 1) (drop (length (line_text (key_at k) v)) t))
  unfolding read_from
  has v e = rw e

  module _ (e : line_of (key_at k) t ≡ None) where
    pub pass : 5 ≤ k → read_from (suc more) k n t ≡ led None (read_from more (k + 1) n t)
    unfolding read_from
    pass h = rw e (picks_second (bad n) _ (required_entry k h))

    pub stop : k < 5 → read_from (suc more) k n t ≡ bad n
    unfolding read_from
    stop h = rw e (picks_first (bad n) _ (required_first k h))

-- entries that are missing are passed over
pub skip : (m r k n : ℕ) (t : List ℕ) → 5 ≤ k → ((j : ℕ) → k ≤ j → j < k + m → line_of (key_at j) t ≡ None)
    → read_from (m + r) k n t ≡ leads (replicate m None) (read_from r (k + m) n t)
unfolding leads
skip zero r k n t h none = let a : 0 + r ≡ r = omega arith in let b : k + 0 ≡ k = omega arith in rw (a, b)
skip (suc m) r k n t h none =
    let a : suc m + r ≡ suc (m + r) = omega arith in
    let b : k + suc m ≡ k + 1 + m = omega arith in
    rw (a, b)
    (pass k n t (m + r) (none k (omega arith) (omega arith)) h
    ∙ ap (led None) (skip m r (k + 1) n t (omega arith) (λ j g l. none j (omega arith) (omega arith))))
