-- THE ROWS LEAVE NOTHING OPEN: a chip that meets them is the RGB640's palette port, in every call on every chip,
-- refusals included. Assumes nothing.
use Prim.Native.Nat.{ℕ, ◌+◌, ◌-◌, ◌*◌, ◌%◌, ◌<◌, ◌≤◌}
use mathlib.Core.Path.{◌≡◌, sym, subst}
use native.Mathlib.Omega.{arith}
use Rattle.vocabulary.specs.Line.{line}
use Rattle.vocabulary.specs.Outcome.{Outcome}
use Rattle.vocabulary.proofs.Cases.{under, equals, two, three, bounds}
use Rattle.vocabulary.proofs.Outcome.{determined}
use Rattle.rgb640.specs.Rgb640.{Chip, lengths, ranges, Call, writes, reads, resets, looks, called}
use Rattle.theorem_scope_c.specs.Scope.{Good, Asks, FromTo, Accesses, Scope}
use Rattle.theorem_scope_c.proofs.Scope.{sizes_hold, hold_sizes, ranges_hold, hold_ranges, scope}

-- a number of a part from one to another, or not
part : {P : Type 0} (first last n : ℕ) → ((e : ℕ) → first + e ≤ last → n ≡ first + e → P)
    → (¬ FromTo first last n → P) → P
part first last n here off =
    under n first (λ l. off (λ h. omega (arith, h.0)))
    (λ l. under last n (λ u. off (λ h. omega (arith, h.1))) (λ u. here (n - first) (omega arith) (omega arith)))

-- one of the three ports, or another
at_port : (P : ℕ → Type 0) (port : ℕ) → P 4 → P 5 → P 6 → (¬ FromTo 4 6 port → P port) → P port
at_port P port low high six off =
    equals port 4 (λ e. subst P (sym e) low)
    (λ a. equals port 5 (λ e. subst P (sym e) high)
    (λ b. equals port 6 (λ e. subst P (sym e) six) (λ d. off (λ h. omega (arith, h)))))

-- any chip
abbrev Called : Type 0
Called = Call → Chip → Outcome Chip

module _ (f : Called) (s : Scope f) where
  abbrev Same : Call → Chip → Type 0
  Same k c = f k c ≡ called k c

  -- what the rows tell of every chip they tell of both
  by : {k : Call} {c : Chip} {o : Outcome Chip} → ((h : Called) → Scope h → h k c ≡ o) → Same k c
  by row = determined (row f s) (row called scope)

  -- ---- A good chip
  module _ (c : Chip) (g : Good c) where
    row : {k : Call} {o : Outcome Chip} → ((h : Called) → Accesses h c → h k c ≡ o) → Same k c
    row told = by (λ h t. told h (t.accesses c g))

    high_write : (b : ℕ) → b < 256 → Same (writes 5 b) c
    high_write b l =
        part 0x8000 0x83FF (b * 256 + c.state.index % 256)
        (λ e u i. row (λ h a. a.index.high_write_fetches b e l (omega arith) i))
        (λ off. row (λ h a. a.index.high_write b l off))

    data_write_lem : (b : ℕ) → b < 256 → Same (writes 6 b) c
    data_write_lem b l =
        equals c.state.index 0x000E (λ e. row (λ h a. a.update_write b l e))
        (λ other. part 0x4000 0x43FF c.state.index
        (λ e u i.
        let w : e < 1024 = omega arith in
        three c.state.place g.ranges.place (λ p. row (λ h a. (a.write e w i).red_write b l p))
        (λ p. row (λ h a. (a.write e w i).green_write b l p))
        (λ p. two (line c.state.update 1) (omega arith) (λ z. row (λ h a. (a.write e w i).blue_write_steps b l p z))
        (λ z. row (λ h a. (a.write e w i).blue_write_stays b l p z))))
        (λ off. row (λ h a. a.no_write b l other off)))

    data_read_lem : Same (reads 6) c
    data_read_lem =
        equals c.state.index 0x000E (λ e. row (λ h a. a.update_read e))
        (λ other. part 0x8000 0x83FF c.state.index
        (λ e u i.
        let w : e < 1024 = omega arith in
        three c.state.place g.ranges.place (λ p. row (λ h a. (a.read e w i).red_read p))
        (λ p. row (λ h a. (a.read e w i).green_read p))
        (λ p. two (line c.state.update 2) (omega arith) (λ z. row (λ h a. (a.read e w i).blue_read_steps p z))
        (λ z. row (λ h a. (a.read e w i).blue_read_stays p z))))
        (λ off. row (λ h a. a.no_read other off)))

    good : (k : Call) → Asks k → Same k c
    good (writes port b) a =
        under b 256
        (λ l. at_port (λ (n : ℕ). Same (writes n b) c) port (row (λ h a. a.index.low_write b l)) (high_write b l)
        (data_write_lem b l) (λ off. row (λ h a. (a.no_port_lem port b off l).0)))
        (λ l. row (λ h a. a.no_byte port b l))
    good (reads port) a =
        at_port (λ (n : ℕ). Same (reads n) c) port (row (λ h a. a.index.low_read)) (row (λ h a. a.index.high_read))
        data_read_lem (λ off. row (λ h a. (a.no_port_lem port 0 off (omega arith)).1))
    good resets a = absurd a
    good (looks place) a =
        under place 8 (λ l. row (λ h a. a.look_state place l))
        (λ l. part 0x10000 0x10BFF place
        (λ i u e. subst (λ (n : ℕ). Same (looks n) c) (sym e) (row (λ h a. a.look_table i (omega arith))))
        (λ off. row (λ h a. a.look_nowhere place l off)))

  -- ---- Every chip

  -- refused 1 or 9, or good
  stands : (k : Call) (c : Chip) → Asks k → Same k c
  stands k c a =
      bounds (lengths c) (hold_sizes c) (sizes_hold c)
      (λ l. bounds (ranges c) (hold_ranges c) (ranges_hold c) (λ r. good c (record { sizes = l; ranges = r }) k a)
      (λ n. by (λ h t. t.nine k c a l n)))
      (λ n. by (λ h t. t.one k c a n))

  pub scope_determines : (k : Call) (c : Chip) → f k c ≡ called k c
  scope_determines (writes port b) c = stands (writes port b) c tt
  scope_determines (reads port) c = stands (reads port) c tt
  scope_determines resets c = by (λ h t. t.reset c)
  scope_determines (looks place) c = stands (looks place) c tt
