-- The rows of select 2: writes that move the oldest first, and reads of the map. Assumes nothing.
use Prim.Native.Nat.{ℕ, ◌+◌, ◌*◌, ◌%◌, ◌<◌}
use mathlib.Core.Path.{◌≡◌, refl, sym, ap, ◌∙◌}
use mathlib.Core.Bool.{not}
use mathlib.Core.List.{List, [], ◌∷◌}
use native.Mathlib.Nat.{add-zero}
use native.Mathlib.Omega.{arith}
use borrow.Author.Tests.{eq-eqb, ne_eqb}
use lib.ListN.{length, get_or, take, drop}
use Rattle.vocabulary.specs.Component.{Component, red, green, blue, component_at, put}
use Rattle.vocabulary.specs.Outcome.{accepting}
use Rattle.ms622424.specs.Ms622424.{Chip, Entry, InRange, with_port, all_stored, stepped, complete, made, room_made}
use Rattle.ms622424.specs.Ms622424.{register_at, writable, readable, taken, answers, writes, reads, called}
use Rattle.ms622424.proofs.Access.{is_red, is_green, is_blue}
use Rattle.ms622424.proofs.Moves.{first_after_lem, moved_on, moves_least, room_forced, room_left}
use Rattle.ms622424.proofs.Read.{read_does}
use Rattle.ms622424.proofs.Write.{palette_written, write_does}
use Rattle.theorem_scope_b.specs.Scope.{queued, transferring, moved, Stores, Fetches}

-- entries one after another, as the moves store them
transferring_stores : (es : List Entry) (m : List ℕ) → all_stored es m ≡ transferring es m
unfolding all_stored transferring put
transferring_stores [] m = refl
transferring_stores (e ∷ es) m = transferring_stores es _

pub moved_is : (n : ℕ) (c : Chip) → c.lent.first < 64
    → moved_on n (drop n c.waiting) (all_stored (take n c.waiting) c.map) c ≡ moved n c
moved_is n c h =
    rw (first_after_lem n c.lent.first h)
    (ap (λ (m : List ℕ). queued (drop n c.waiting) m ((c.lent.first + n) % 64) c)
    (transferring_stores (take n c.waiting) c.map))

module _ (c : Chip) (r : InRange c) where
  -- ---- writes
  module _ (mode : c.control.readmode ≡ 0) where
    stored : (n : ℕ) → made n (moved n c) ≡ room_made c → (k : Component) → component_at c.port.counter ≡ k
        → (b : ℕ) → b < 256 → called (writes 2 b) c ≡ accepting 0 n (taken k b (moved n c))
    unfolding register_at writable
    stored n e k f b h =
        sym (write_does 2 b c r h 2 refl refl (ne_eqb c.control.readmode 1 (λ z. omega arith))
        (palette_written b c e (ap (λ (j : Component). taken j b (moved n c)) (sym f))))

    stores : (n : ℕ) → made n (moved n c) ≡ room_made c → Stores called n c
    unfolding taken stepped complete
    stores n e = record {
      red_write = λ b h f. stored n e red (is_red f) b h;
      green_write = λ b h f. stored n e green (is_green f) b h;
      blue_write = λ b h f. stored n e blue (is_blue _ (λ z. omega arith) (λ z. omega arith)) b h;
    }

    pub full : length c.waiting ≡ 64 → Stores called 4 c
    full l =
        stores 4
        (sym (room_forced c l ∙ (moves_least 4 4 c (omega (arith, l)) ∙ ap (made 4) (moved_is 4 c r.first))))

    pub roomy : ¬ (length c.waiting ≡ 64) → Stores called 0 c
    unfolding transferring
    roomy l =
        let same : (c.lent.first + 0) % 64 ≡ c.lent.first = omega (arith, r.first) in
        stores 0 (rw same (sym (room_left c l)))

  -- ---- reads
  module _ (mode : c.control.readmode ≡ 1) (none : length c.waiting ≡ 0) where
    fetched : (k : Component) → component_at c.port.counter ≡ k → (n : ℕ) → c.port.counter ≡ n
        → called (reads 2) c
        ≡ accepting (get_or c.map (3 * c.port.address + n) 0) 0 (with_port (stepped k c.port) c)
    unfolding register_at readable answers
    fetched k f n e =
        sym (read_does 2 c r 2 refl refl (ne_eqb c.control.readmode 0 (λ z. omega arith))
        (ap not (eq-eqb (length c.waiting) 0 none)) refl)
        ∙ rw (f, ← e) refl

    pub map_read : Fetches called c
    unfolding stepped
    map_read = record {
      red_read = λ f. fetched red (is_red f) 0 f ∙ simp add-zero;
      green_read = λ f. fetched green (is_green f) 1 f;
      blue_read = λ f. fetched blue (is_blue _ (λ z. omega arith) (λ z. omega arith)) 2 f;
    }
