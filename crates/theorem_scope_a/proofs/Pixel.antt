-- What the lines of a pixel show, as the rows say it. Assumes nothing.
use Prim.Native.Nat.{ℕ, zero, suc, ◌+◌, ◌/◌, ◌<◌}
use mathlib.Core.Path.{◌≡◌, refl, sym, ap, ◌∙◌}
use mathlib.Core.Bool.{Bool, true, false, ◌&&◌, ◌||◌}
use native.Mathlib.Omega.{arith}
use lib.Dec.{eqb}
use Rattle.vocabulary.specs.Choice.{pick}
use Rattle.vocabulary.specs.Line.{line}
use Rattle.hd153108.specs.declared.State.{State}
use Rattle.hd153108.specs.Hd153108.{line_reads, masked, is_off, overlay_number}
use Rattle.hd153108.proofs.Masks.{masked_by_line, masked_fits}
use Rattle.theorem_scope_a.specs.Scope.{seen, of_lines, byte_seen, number_seen}
use Rattle.theorem_scope_a.proofs.Good.{by_values}

line_seen : (off : Bool) (read blink x : ℕ) → read < 2 → blink < 2
    → line_reads off read blink x ≡ pick (eqb read 1 || (off && eqb blink 0)) 0 x
unfolding line_reads pick
line_seen true zero zero x h g = refl
line_seen true zero (suc zero) x h g = refl
line_seen true zero (suc (suc blink)) x h g = absurd (let z : ⊥ = omega arith in z)
line_seen false zero blink x h g = refl
line_seen off (suc zero) blink x h g = refl
line_seen off (suc (suc read)) blink x h g = absurd (let z : ⊥ = omega arith in z)

-- numbers with equal lines are equal
same_lines : (w : ℕ) (l m : ℕ → ℕ) → ((k : ℕ) → k < w → l k ≡ m k) → of_lines w l ≡ of_lines w m
unfolding of_lines
same_lines zero l m h = refl
same_lines (suc w) l m h = rw (same_lines w l m (λ k g. h k (omega arith)), h w (omega arith))

byte_lines : (n : ℕ) → n < 256 → of_lines 8 (line n) ≡ n
unfolding of_lines
byte_lines n h = by_values 256 (λ b. of_lines 8 (line b)) (λ b. b) refl n h

number_lines : (n : ℕ) → n < 4 → of_lines 2 (line n) ≡ n
unfolding of_lines
number_lines n h = by_values 4 (λ b. of_lines 2 (line b)) (λ b. b) refl n h

module _ (s : State) where
  pub byte_seen_lem : (byte : ℕ) → masked 8 (is_off s.clock) s.readmask s.blinkmask byte ≡ byte_seen byte s
  unfolding is_off
  byte_seen_lem byte =
      let n = masked 8 (is_off s.clock) s.readmask s.blinkmask byte in
      sym (byte_lines n (masked_fits 8 _ _ _ byte))
      ∙ same_lines 8 _ _
      (λ k h.
      masked_by_line 8 k _ s.readmask s.blinkmask byte h
      ∙ line_seen _ (line s.readmask k) (line s.blinkmask k) (line byte k) (omega arith) (omega arith))

  -- the blink mask stands two bits above the read mask
  above : (k : ℕ) → k < 2 → line (s.control / 4) k ≡ line s.control (k + 2)
  above zero h = omega arith
  above (suc zero) h = omega arith
  above (suc (suc k)) h = absurd (let z : ⊥ = omega arith in z)

  pub number_seen_lem : (number : ℕ) → overlay_number number s ≡ number_seen number s
  unfolding is_off
  number_seen_lem number =
      sym (number_lines (overlay_number number s) (masked_fits 2 _ _ _ number))
      ∙ same_lines 2 _ _
      (λ k h.
      masked_by_line 2 k _ s.control (s.control / 4) number h
      ∙ (line_seen _ (line s.control k) (line (s.control / 4) k) (line number k) (omega arith) (omega arith)
      ∙ ap (λ (b : ℕ). seen s (line s.control k) b (line number k)) (above k h)))
