-- Laws of a write: what an accepted one does, and when it is refused. Assumes nothing.
use Prim.Native.Nat.{ℕ, zero, suc, ◌+◌, ◌%◌, ◌<◌}
use mathlib.Core.Path.{◌≡◌, refl, ap, ◌∙◌}
use mathlib.Core.Bool.{true, false, not, ◌&&◌}
use mathlib.Core.List.{[], ◌∷◌}
use borrow.Author.Tests.{eq-eqb}
use lib.Dec.{eqb}
use Rattle.vocabulary.specs.Range.{below, fails}
use Rattle.vocabulary.specs.declared.Refusal.TheVariants.{LentLength, OutOfRange, NoAccess, NoIndex, ReadMode}
use Rattle.vocabulary.specs.Outcome.{Outcome, accepting, refusing}
use Rattle.vocabulary.specs.Component.{red, green, blue}
use Rattle.vocabulary.specs.Face.{called_by}
use Rattle.vocabulary.proofs.Range.{holds_passes}
use Rattle.vocabulary.proofs.Call.{stops, goes_on}
use Rattle.ms622424.specs.declared.Port.{Port}
use Rattle.ms622424.specs.Ms622424.{Chip, ranges, InRange, register_at, selected, stepped, port, with_port}
use Rattle.ms622424.specs.Ms622424.{complete, Moves, made, room_made, address_low, address_high, palette, taken}
use Rattle.ms622424.specs.Ms622424.{written, writable, write_refusals, writes, called}
use Rattle.ms622424.proofs.InRange.{lengths_right, ranges_hold}
use Rattle.ms622424.proofs.Moves.{room_keeps}

-- three steps come round to red at the next address, and three bytes complete a colour
pub three_steps : (p : Port)
    → stepped blue (stepped green (stepped red p)) ≡ port ((p.address + 1) % 8192) 0 p.red p.green
unfolding stepped
three_steps p = refl

pub three_taken : (r g b : ℕ) (c : Chip)
    → taken blue b (taken green g (taken red r c))
    ≡ with_port (port ((c.port.address + 1) % 8192) 0 r g)
    (complete (record { address = c.port.address; red = r; green = g; blue = b }) c)
unfolding taken stepped complete
three_taken r g b c = refl

-- an address write keeps the buffer
pub address_write_keeps_buffer : (byte : ℕ) (c : Chip)
    → ((written address_low byte c).left.port.red ≡ c.port.red)
    × ((written address_low byte c).left.port.green ≡ c.port.green)
    × ((written address_high byte c).left.port.red ≡ c.port.red)
    × ((written address_high byte c).left.port.green ≡ c.port.green)
unfolding written
address_write_keeps_buffer byte c = (refl, refl, refl, refl)

-- a palette write makes room, and takes the byte
pub palette_written : (byte : ℕ) (c : Chip) {n : ℕ} {room left : Chip} → made n room ≡ room_made c
    → left ≡ taken (selected room.port) byte room → accepting 0 n left ≡ written palette byte c
unfolding written
palette_written byte c {n} {room} {left} e l =
    let same : room.port ≡ c.port = ap (λ (m : Moves). m.after.port) e
    ∙ room_keeps c Port (λ d. d.port) (λ es m n. refl) in
    ap (accepting 0 n) l
    ∙ (ap (λ (p : Port). accepting 0 n (taken (selected p) byte room)) same
    ∙ ap (λ (m : Moves). accepting 0 m.count (taken (selected c.port) byte m.after)) e)

unwritable : (select : ℕ) → (select ≡ 0 → ⊥) → (select ≡ 1 → ⊥) → (select ≡ 2 → ⊥) → (select ≡ 3 → ⊥)
    → (select ≡ 7 → ⊥) → writable (register_at select) ≡ false
unfolding register_at writable
unwritable zero a b d e f = absurd (a refl)
unwritable (suc zero) a b d e f = absurd (b refl)
unwritable (suc (suc zero)) a b d e f = absurd (d refl)
unwritable (suc (suc (suc zero))) a b d e f = absurd (e refl)
unwritable (suc (suc (suc (suc zero)))) a b d e f = refl
unwritable (suc (suc (suc (suc (suc zero))))) a b d e f = refl
unwritable (suc (suc (suc (suc (suc (suc zero)))))) a b d e f = refl
unwritable (suc (suc (suc (suc (suc (suc (suc zero))))))) a b d e f = absurd (f refl)
unwritable (suc (suc (suc (suc (suc (suc (suc (suc n)))))))) a b d e f = refl

module _ (select byte : ℕ) (c : Chip) (h : InRange c) (small : byte < 256) where
  inside : fails (below byte 256 ∷ ranges c) ≡ false
  inside = holds_passes _ (small, ranges_hold c h)

  -- a register that is written
  pub write_does : (k : ℕ) {o : Outcome Chip} → select ≡ k → writable (register_at k) ≡ true
      → (eqb k 2 && eqb c.control.readmode 1) ≡ false → o ≡ written (register_at k) byte c
      → o ≡ called (writes select byte) c
  unfolding called_by
  write_does k e w p d =
      rw e
      (d ∙ goes_on (write_refusals k byte c) 0 c (written (register_at k) byte c)
      (lengths_right c h, (inside, (ap not w, (p, tt)))))

  -- one that is not
  write_no_access : writable (register_at select) ≡ false → refusing 3 0 c ≡ called (writes select byte) c
  unfolding called_by
  write_no_access e =
      stops (write_refusals select byte c) 0 c _ (LentLength ∷ OutOfRange ∷ []) NoAccess 2 _ refl refl
      (lengths_right c h, (inside, tt)) (ap not e)

  -- the palette in read mode
  pub write_read_mode : select ≡ 2 → c.control.readmode ≡ 1 → refusing 5 0 c ≡ called (writes select byte) c
  unfolding called_by register_at writable
  write_read_mode e f =
      rw e
      (stops (write_refusals 2 byte c) 0 c _ (LentLength ∷ OutOfRange ∷ NoAccess ∷ NoIndex ∷ []) ReadMode 4 _ refl refl
      (lengths_right c h, (inside, (refl, (refl, tt)))) (eq-eqb _ 1 f))

  -- every other select
  pub not_written : (select ≡ 0 → ⊥) → (select ≡ 1 → ⊥) → (select ≡ 2 → ⊥) → (select ≡ 3 → ⊥) → (select ≡ 7 → ⊥)
      → refusing 3 0 c ≡ called (writes select byte) c
  not_written x y z v w = write_no_access (unwritable select x y z v w)
