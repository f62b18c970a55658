-- THE ROWS LEAVE NOTHING OPEN: a chip that meets them is the HD153108, in every call on every chip, refusals included.
-- Assumes nothing.
use Prim.Native.Nat.{ℕ, zero, suc, ◌<◌}
use mathlib.Core.Path.{◌≡◌, sym, subst}
use mathlib.Core.List.{List}
use native.Mathlib.Omega.{arith}
use Rattle.vocabulary.specs.Outcome.{Outcome}
use Rattle.vocabulary.proofs.Cases.{under, three, within, bounds}
use Rattle.vocabulary.proofs.Outcome.{determined}
use Rattle.hd153108.specs.Hd153108.{Chip, lengths, ranges, clock_ranges, Call, writes, reads, resets, ticks, pixels}
use Rattle.hd153108.specs.Hd153108.{looks, called}
use Rattle.theorem_scope_a.specs.Scope.{Good, Asks, Data, Accesses, Scope}
use Rattle.theorem_scope_a.proofs.Good.{sizes_hold, hold_sizes, ranges_hold, hold_ranges, clock_holds}
use Rattle.theorem_scope_a.proofs.Good.{holds_clock}
use Rattle.theorem_scope_a.proofs.Scope.{scope}

-- any chip
abbrev Called : Type 0
Called = Call → Chip → Outcome Chip

module _ (f : Called) (s : Scope f) where
  abbrev Same : Call → Chip → Type 0
  Same k c = f k c ≡ called k c

  -- what the rows tell of every chip they tell of both
  by : {k : Call} {c : Chip} {o : Outcome Chip} → ((h : Called) → Scope h → h k c ≡ o) → Same k c
  by row = determined (row f s) (row called scope)

  -- ---- A good chip
  module _ (c : Chip) (g : Good c) where
    row : {k : Call} {o : Outcome Chip} → ((h : Called) → Accesses h c → h k c ≡ o) → Same k c
    row told = by (λ h t. told h (t.accesses c g))

    module _ {select : ℕ} {entry next : ℕ → ℕ} {bytes : Chip → List ℕ} {with : List ℕ → Chip → Chip}
        (rows : (h : Called) → Accesses h c → Data h select entry next bytes with c) where
      data_write_lem : (b : ℕ) → b < 256 → Same (writes select b) c
      data_write_lem b l =
          three c.state.pointer g.ranges.pointer (λ e. row (λ h a. (rows h a).red_write b l e))
          (λ e. row (λ h a. (rows h a).green_write b l e)) (λ e. row (λ h a. (rows h a).blue_write b l e))

      data_read_lem : Same (reads select) c
      data_read_lem =
          three c.state.pointer g.ranges.pointer (λ e. row (λ h a. (rows h a).red_read e))
          (λ e. row (λ h a. (rows h a).green_read e)) (λ e. row (λ h a. (rows h a).blue_read e))

    byte : (select b : ℕ) → b < 256 → Same (writes select b) c
    byte zero b l = row (λ h a. a.address_write b l)
    byte (suc zero) b l = data_write_lem (λ h a. a.colours) b l
    byte (suc (suc zero)) b l = row (λ h a. (a.reserved b l).0)
    byte (suc (suc (suc zero))) b l = data_write_lem (λ h a. a.overlays) b l
    byte (suc (suc (suc (suc zero)))) b l = row (λ h a. a.readmask.write b l)
    byte (suc (suc (suc (suc (suc zero))))) b l = row (λ h a. a.blinkmask.write b l)
    byte (suc (suc (suc (suc (suc (suc zero)))))) b l = row (λ h a. a.control.write b l)
    byte (suc (suc (suc (suc (suc (suc (suc zero))))))) b l = row (λ h a. a.timing.write b l)
    byte (suc (suc (suc (suc (suc (suc (suc (suc n)))))))) b l = row (λ h a. (a.over_seven _ b (omega arith) l).0)

    read : (select : ℕ) → Same (reads select) c
    read zero = row (λ h a. a.address_read)
    read (suc zero) = data_read_lem (λ h a. a.colours)
    read (suc (suc zero)) = row (λ h a. (a.reserved 0 (omega arith)).1)
    read (suc (suc (suc zero))) = data_read_lem (λ h a. a.overlays)
    read (suc (suc (suc (suc zero)))) = row (λ h a. a.readmask.read)
    read (suc (suc (suc (suc (suc zero))))) = row (λ h a. a.blinkmask.read)
    read (suc (suc (suc (suc (suc (suc zero)))))) = row (λ h a. a.control.read)
    read (suc (suc (suc (suc (suc (suc (suc zero))))))) = row (λ h a. a.timing.read)
    read (suc (suc (suc (suc (suc (suc (suc (suc n)))))))) =
        row (λ h a. (a.over_seven _ 0 (omega arith) (omega arith)).1)

    pixel : (enable number b : ℕ) → Same (pixels enable number b) c
    pixel enable number b =
        under enable 2
        (λ e. under number 4 (λ n. row (λ h a. a.pixel enable number b e n))
        (λ n. row (λ h a. a.no_pixel enable number b (λ z. omega (arith, z.1)))))
        (λ e. row (λ h a. a.no_pixel enable number b (λ z. omega (arith, z.0))))

    look : (place : ℕ) → Same (looks place) c
    look place =
        under place 9 (λ l. row (λ h a. a.look_state place l))
        (λ l. within 0x100 12 place (λ i u e. there e (row (λ h a. a.look_overlay i u)))
        (λ o. within 0x1000 768 place (λ i u e. there e (row (λ h a. a.look_colour i u)))
        (λ n. row (λ h a. a.look_nowhere place l o n))))
      where
        there : {p q : ℕ} → p ≡ q → Same (looks q) c → Same (looks p) c
        there e = subst (λ (p : ℕ). Same (looks p) c) (sym e)

  -- ---- Every chip

  -- refused 1 or 9, or good
  stands : {k : Call} {c : Chip} → Asks k → (Good c → Same k c) → Same k c
  stands {k} {c} a good =
      bounds (lengths c) (hold_sizes c) (sizes_hold c)
      (λ l. bounds (ranges c) (hold_ranges c.state) (ranges_hold c.state)
      (λ r. good (record { sizes = l; ranges = r })) (λ n. by (λ h t. t.nine k c a l n)))
      (λ n. by (λ h t. t.one k c a n))

  pub scope_determines : (k : Call) (c : Chip) → f k c ≡ called k c
  scope_determines (writes select b) c =
      stands tt (λ g. under b 256 (byte c g select b) (λ l. row c g (λ h a. a.no_byte select b l)))
  scope_determines (reads select) c = stands tt (λ g. read c g select)
  scope_determines (pixels enable number b) c = stands tt (λ g. pixel c g enable number b)
  scope_determines (looks place) c = stands tt (λ g. look c g place)
  scope_determines resets c = by (λ h t. t.reset c)
  scope_determines ticks c =
      bounds (clock_ranges c.state.clock) (holds_clock c.state.clock) (clock_holds c.state.clock)
      (λ r. by (λ h t. t.tick c r)) (λ n. by (λ h t. t.no_tick c n))
