-- THE ROWS LEAVE NOTHING OPEN: a chip that meets them is the MS622424, in every call on every chip, refusals included.
-- Assumes nothing.
use Prim.Native.Nat.{ℕ, zero, suc, ◌^◌, ◌<◌}
use mathlib.Core.Path.{◌≡◌, sym, subst}
use native.Mathlib.Omega.{arith}
use lib.ListN.{length}
use Rattle.vocabulary.specs.Outcome.{Outcome}
use Rattle.vocabulary.proofs.Cases.{under, equals, two, three, within}
use Rattle.vocabulary.proofs.Outcome.{determined}
use Rattle.ms622424.specs.Ms622424.{Chip, Call, writes, reads, blanks, pixels, signals, resets, looks, called}
use Rattle.theorem_scope_b.specs.Scope.{Lends, Asks, Good, Stores, Accesses, Scope}
use Rattle.theorem_scope_b.proofs.Cases.{lends, asks}
use Rattle.theorem_scope_b.proofs.Scope.{scope}

-- any chip
abbrev Called : Type 0
Called = Call → Chip → Outcome Chip

module _ (f : Called) (s : Scope f) where
  abbrev Same : Call → Chip → Type 0
  Same k c = f k c ≡ called k c

  -- what the rows tell of every chip they tell of both
  by : {k : Call} {c : Chip} {o : Outcome Chip} → ((h : Called) → Scope h → h k c ≡ o) → Same k c
  by row = determined (row f s) (row called scope)

  -- ---- A good chip
  module _ (c : Chip) (g : Good c) where
    row : {k : Call} {o : Outcome Chip} → ((h : Called) → Accesses h c → h k c ≡ o) → Same k c
    row told = by (λ h t. told h (t.accesses c g))

    store : (n : ℕ) → ((h : Called) → Accesses h c → Stores h n c) → (b : ℕ) → b < 256 → Same (writes 2 b) c
    store n rows b l =
        three c.port.counter g.ranges.counter (λ e. row (λ h a. (rows h a).red_write b l e))
        (λ e. row (λ h a. (rows h a).green_write b l e)) (λ e. row (λ h a. (rows h a).blue_write b l e))

    store_any : (b : ℕ) → b < 256 → Same (writes 2 b) c
    store_any b l =
        two c.control.readmode g.ranges.readmode
        (λ m. equals (length c.waiting) 64 (λ e. store 4 (λ h a. a.full m e) b l)
        (λ e. store 0 (λ h a. a.roomy m e) b l))
        (λ m. row (λ h a. a.no_store b l m))

    unwritten : (select b : ℕ) → b < 256 → 3 < select → select < 7 → Same (writes select b) c
    unwritten select b l h u = row (λ f a. a.no_write select b h u l)

    byte : (select b : ℕ) → b < 256 → Same (writes select b) c
    byte zero b l = row (λ h a. a.low_write b l)
    byte (suc zero) b l = row (λ h a. a.high_write b l)
    byte (suc (suc zero)) b l = store_any b l
    byte (suc (suc (suc zero))) b l = row (λ h a. a.command_write b l)
    byte (suc (suc (suc (suc zero)))) b l = unwritten 4 b l (omega arith) (omega arith)
    byte (suc (suc (suc (suc (suc zero))))) b l = unwritten 5 b l (omega arith) (omega arith)
    byte (suc (suc (suc (suc (suc (suc zero)))))) b l = unwritten 6 b l (omega arith) (omega arith)
    byte (suc (suc (suc (suc (suc (suc (suc zero))))))) b l = row (λ h a. a.mode_on b l)
    byte (suc (suc (suc (suc (suc (suc (suc (suc n)))))))) b l = row (λ h a. (a.over_seven _ b (omega arith) l).0)

    fetch : Same (reads 2) c
    fetch =
        two c.control.readmode g.ranges.readmode (λ m. row (λ h a. a.outside_mode m))
        (λ m. equals (length c.waiting) 0
        (λ w. three c.port.counter g.ranges.counter (λ e. row (λ h a. (a.map_read m w).red_read e))
        (λ e. row (λ h a. (a.map_read m w).green_read e)) (λ e. row (λ h a. (a.map_read m w).blue_read e)))
        (λ w. row (λ h a. a.still_waiting_lem m w)))

    buffer : Same (reads 5) c
    buffer =
        three c.port.counter g.ranges.counter (λ e. row (λ h a. a.buffer_red e))
        (λ e. row (λ h a. a.buffer_green e)) (λ e. row (λ h a. a.buffer_blue e))

    read : (select : ℕ) → Same (reads select) c
    read zero = row (λ h a. a.low_read)
    read (suc zero) = row (λ h a. a.high_read)
    read (suc (suc zero)) = fetch
    read (suc (suc (suc zero))) = row (λ h a. a.command_read)
    read (suc (suc (suc (suc zero)))) = row (λ h a. a.status_read)
    read (suc (suc (suc (suc (suc zero))))) = buffer
    read (suc (suc (suc (suc (suc (suc zero)))))) = row (λ h a. a.revision_read)
    read (suc (suc (suc (suc (suc (suc (suc zero))))))) = row (λ h a. a.mode_off)
    read (suc (suc (suc (suc (suc (suc (suc (suc n)))))))) =
        row (λ h a. (a.over_seven _ 0 (omega arith) (omega arith)).1)

    unseen : (mode word : ℕ) → ¬ ((mode < 4) × (word < 2 ^ 24)) → Same (pixels mode word) c
    unseen mode word n = row (λ h a. a.no_pixel mode word n)

    pixel : (mode word : ℕ) → word < 2 ^ 24 → Same (pixels mode word) c
    pixel zero word l = row (λ h a. a.mode_0 word l)
    pixel (suc zero) word l = row (λ h a. a.mode_1 word l)
    pixel (suc (suc zero)) word l = row (λ h a. a.mode_2 word l)
    pixel (suc (suc (suc zero))) word l = row (λ h a. a.mode_3 word l)
    pixel (suc (suc (suc (suc n)))) word l = unseen _ word (λ z. omega (arith, z.0))

    look : (place : ℕ) → Same (looks place) c
    look place =
        under place 9 (λ l. row (λ h a. a.look_state place l))
        (λ l. equals place 0xC (λ e. subst (λ (p : ℕ). Same (looks p) c) (sym e) (row (λ h a. a.look_first)))
        (λ f. within 0x10000 24576 place
        (λ i u e. subst (λ (p : ℕ). Same (looks p) c) (sym e) (row (λ h a. a.look_map i u)))
        (λ n. row (λ h a. a.look_nowhere place l f n))))

  -- ---- Every chip that a call asks nothing more of
  asked : (k : Call) (c : Chip) → Lends k c → Asks k c → Same k c
  asked (writes select b) c l r =
      let g : Good c = record { sizes = l; ranges = r } in
      under b 256 (λ h. byte c g select b h) (λ h. row c g (λ f a. a.no_byte select b h))
  asked (reads select) c l r = read c (record { sizes = l; ranges = r }) select
  asked (blanks slots) c l r =
      let g : Good c = record { sizes = l; ranges = r } in
      under slots 65536 (λ h. row c g (λ f a. a.blank slots h)) (λ h. row c g (λ f a. a.no_blank slots h))
  asked (pixels mode word) c l r =
      let g : Good c = record { sizes = l; ranges = r } in
      under word (2 ^ 24) (λ h. pixel c g mode word h) (λ h. unseen c g mode word (λ z. omega (arith, z.1)))
  asked (signals n) c l r =
      under n 16 (λ h. by (λ f t. t.signal n c l r h)) (λ h. by (λ f t. t.no_signal n c l r h))
  asked resets c l r = by (λ f t. t.reset c l r)
  asked (looks place) c l r = look c (record { sizes = l; ranges = r }) place

  -- ---- Every call of every chip
  pub scope_determines : (k : Call) (c : Chip) → f k c ≡ called k c
  scope_determines k c =
      lends k c (λ l. asks k c (λ r. asked k c l r) (λ n. by (λ h t. t.nine k c l n))) (λ n. by (λ h t. t.one k c n))
