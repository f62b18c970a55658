-- What a good sheet is: one line for each key, each lawful, and its text is that of its lines. Assumes nothing.
use Prim.Native.Nat.{ℕ, zero, suc, ◌+◌}
use mathlib.Core.Path.{◌≡◌, refl, sym, ap}
use mathlib.Core.Bool.{Bool, true, false}
use mathlib.Core.List.{List, [], ◌∷◌}
use native.Mathlib.Omega.{arith}
use Rattle.vocabulary.specs.Choice.{pick}
use Rattle.sheet.specs.Sheet.{Line}
use Rattle.std.specs.Prelude.{Some, None}
use Rattle.sheet.specs.Sheet.{keys, key_at, line_of, Reading, good, bad, led}
use Rattle.sheet.specs.Sheet.{ended, read_from, sheet_of, text_from}
use Rattle.sheet.specs.Grammar.{Sound}
use Rattle.sheet.proofs.Lines.{line_is, line_taken, line_below}

-- a good reading with a line before it
record Led (x : Line) (r : Reading) (l : List Line) : Type 0 where
  rest : List Line
  is : r ≡ good rest
  all : x ∷ rest ≡ l

led_good : (x : Line) (r : Reading) (l : List Line) → led x r ≡ good l → Led x r l
led_good x (good m) l e = record { rest = m; is = refl; all = cc }
led_good x (bad n) l e = let z : ◌≡◌ {A = ℕ} 0 1 = cc in absurd (omega arith)

may_miss : (b : Bool) (n : ℕ) (r : Reading) (l : List Line) → pick b (bad n) r ≡ good l → (b ≡ false) × (r ≡ good l)
unfolding pick
may_miss true n r l e = let z : ◌≡◌ {A = ℕ} 0 1 = cc in absurd (omega arith)
may_miss false n r l e = (refl, e)

ended_good : (k : ℕ) (t : List ℕ) (n : ℕ) (l : List Line) → ended t n ≡ good l → Sound 0 k t l
unfolding text_from
ended_good k [] n l e =
    let is : l ≡ [] = cc in
    rw is (record { long = refl; lawful = tt; text = refl })
ended_good k (b ∷ t) n l e = let z : ◌≡◌ {A = ℕ} 0 1 = cc in absurd (omega arith)

module _ (more k n : ℕ) (t : List ℕ) (l : List Line)
    (on : (n : ℕ) (t : List ℕ) (l : List Line) → read_from more (k + 1) n t ≡ good l → Sound more (k + 1) t l) where
  step : (x : Line) → line_of (key_at k) t ≡ x → read_from (suc more) k n t ≡ good l → Sound (suc more) k t l
  unfolding read_from text_from
  step (Some v) e w =
      let led = led_good (Some v) (read_from more (k + 1) _ _) l (rw e at w) in
      let r = on _ _ led.rest led.is in
      rw (sym led.all)
      (record {
        long = ap suc r.long;
        lawful = (line_below (key_at k) t v e, line_taken (key_at k) t v e, r.lawful);
        text = rw r.text (line_is (key_at k) t v e);
      })
  step None e w =
      let miss = may_miss _ n _ l (rw e at w) in
      let led = led_good None _ l miss.1 in
      let r = on _ _ led.rest led.is in
      rw (sym led.all) (record { long = ap suc r.long; lawful = (miss.0, r.lawful); text = r.text })

sound_from : (more k n : ℕ) (t : List ℕ) (l : List Line) → read_from more k n t ≡ good l → Sound more k t l
unfolding read_from
sound_from zero k n t l e = ended_good k t n l e
sound_from (suc more) k n t l e =
    step more k n t l (λ m s u v. sound_from more (k + 1) m s u v) (line_of (key_at k) t) refl e

pub sound : (t : List ℕ) (l : List Line) → sheet_of t ≡ good l → Sound keys 0 t l
sound t l e = sound_from keys 0 _ t l e
