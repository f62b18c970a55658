-- Laws of a read: what an accepted one answers, and when it is refused. Assumes nothing.
use Prim.Native.Nat.{ℕ}
use mathlib.Core.Path.{◌≡◌, refl, sym, ap, ◌∙◌}
use mathlib.Core.Bool.{true, false, not, ◌&&◌}
use mathlib.Core.List.{[], ◌∷◌}
use borrow.Author.Tests.{eq-eqb, ne_eqb}
use lib.Dec.{eqb}
use lib.ListN.{length, get_or-eq_default}
use Rattle.vocabulary.specs.declared.Refusal.TheVariants.{LentLength, OutOfRange, NoAccess, NoIndex, ReadMode, StillWaiting}
use Rattle.vocabulary.specs.Outcome.{Outcome, accepting, refusing}
use Rattle.vocabulary.specs.Component.{Component, green, blue}
use Rattle.vocabulary.specs.Choice.{pick}
use Rattle.vocabulary.specs.Face.{called_by}
use Rattle.vocabulary.proofs.Call.{stops, goes_on}
use Rattle.vocabulary.proofs.Range.{over_seven}
use Rattle.ms622424.specs.declared.Port.{Port}
use Rattle.ms622424.specs.Ms622424.{Register, none, access_modes, Chip, InRange, register_at, selected, with_port}
use Rattle.ms622424.specs.Ms622424.{mark, status_of, status_byte, fresh, buffer, buffer_byte, buffer_stepped}
use Rattle.ms622424.specs.Ms622424.{address_low, address_high, answers, readable, read_refusals, reads, called}
use Rattle.ms622424.proofs.InRange.{lengths_right, ranges_right}

-- a read of the address moves nothing, and neither does the buffer's green read
pub address_read_keeps : (c : Chip) → ((answers address_low c).left ≡ c) × ((answers address_high c).left ≡ c)
unfolding answers
address_read_keeps c = (refl, refl)

pub green_read_keeps : (p : Port) → buffer_stepped green p ≡ p
unfolding buffer_stepped
green_read_keeps p = refl

-- a reset chip's status: empty, neither half full nor full
pub fresh_status : (c : Chip) → status_byte (fresh c) ≡ 24
unfolding status_byte status_of mark pick
fresh_status c = refl

module _ (select : ℕ) (c : Chip) (h : InRange c) where
  -- a register that is read
  pub read_does : (k : ℕ) {o : Outcome Chip} → select ≡ k → readable (register_at k) (selected c.port) ≡ true
      → (eqb k 2 && eqb c.control.readmode 0) ≡ false → (eqb k 2 && not (eqb (length c.waiting) 0)) ≡ false
      → o ≡ answers (register_at k) c → o ≡ called (reads select) c
  unfolding called_by
  read_does k e r p w d =
      rw e
      (d ∙ goes_on (read_refusals k c) 0 c (answers (register_at k) c)
      (lengths_right c h, (ranges_right c h, (ap not r, (p, (w, tt))))))

  -- one that is not
  read_no_access : readable (register_at select) (selected c.port) ≡ false → refusing 3 0 c ≡ called (reads select) c
  unfolding called_by
  read_no_access e =
      stops (read_refusals select c) 0 c _ (LentLength ∷ OutOfRange ∷ []) NoAccess 2 _ refl refl
      (lengths_right c h, (ranges_right c h, tt)) (ap not e)

  -- the palette outside read mode, and with entries waiting
  pub read_outside_mode : select ≡ 2 → c.control.readmode ≡ 0 → refusing 5 0 c ≡ called (reads select) c
  unfolding called_by register_at readable
  read_outside_mode e f =
      rw e
      (stops (read_refusals 2 c) 0 c _ (LentLength ∷ OutOfRange ∷ NoAccess ∷ NoIndex ∷ []) ReadMode 4 _ refl refl
      (lengths_right c h, (ranges_right c h, (refl, (refl, tt)))) (eq-eqb _ 0 f))

  pub read_waiting : select ≡ 2 → (c.control.readmode ≡ 0 → ⊥) → (length c.waiting ≡ 0 → ⊥)
      → refusing 6 0 c ≡ called (reads select) c
  unfolding called_by register_at readable
  read_waiting e f g =
      rw e
      (stops (read_refusals 2 c) 0 c _ (LentLength ∷ OutOfRange ∷ NoAccess ∷ NoIndex ∷ ReadMode ∷ []) StillWaiting 5
      _ refl refl
      (lengths_right c h, (ranges_right c h, (refl, (refl, (ne_eqb _ 0 f, tt))))) (ap not (ne_eqb _ 0 g)))

  -- the buffer at red and at green, and at blue
  pub read_buffer : (k : Component) {o : Outcome Chip} → select ≡ 5 → selected c.port ≡ k → readable buffer k ≡ true
      → o ≡ accepting (buffer_byte k c.port) 0 (with_port (buffer_stepped k c.port) c) → o ≡ called (reads select) c
  unfolding register_at answers
  read_buffer k e f r d =
      let ok : readable buffer (selected c.port) ≡ true = rw f r in
      read_does 5 e ok refl refl
      (d
      ∙ ap (λ (j : Component). accepting (buffer_byte j c.port) 0 (with_port (buffer_stepped j c.port) c)) (sym f))

  pub read_no_blue : select ≡ 5 → selected c.port ≡ blue → refusing 3 0 c ≡ called (reads select) c
  unfolding register_at readable
  read_no_blue e f = read_no_access (rw (e, f))

  -- every other select
  pub not_read : (select ≡ 0 → ⊥) → (select ≡ 1 → ⊥) → (select ≡ 2 → ⊥) → (select ≡ 3 → ⊥) → (select ≡ 4 → ⊥)
      → (select ≡ 5 → ⊥) → (select ≡ 6 → ⊥) → (select ≡ 7 → ⊥) → refusing 3 0 c ≡ called (reads select) c
  unfolding register_at readable
  not_read a b d e f g i j =
      let over = over_seven select a b d e f g i j in
      let k = selected c.port in
      read_no_access (ap (λ (r : Register). readable r k) (get_or-eq_default access_modes none over))
