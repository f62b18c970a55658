-- A data write by the pointer, and the calls of one entry. One argument for both tables. Assumes nothing.
use Prim.Native.Nat.{ℕ, ◌+◌, ◌%◌, ◌<◌}
use mathlib.Core.Path.{◌≡◌, refl, ◌∙◌}
use mathlib.Core.List.{[], ◌∷◌}
use mathlib.Core.Bool.{Bool, true, false}
use native.Mathlib.Omega.{arith}
use Rattle.hd153108.specs.Hd153108.{Chip, Table, colour, overlay, register_at, size, table_of, with_table}
use Rattle.hd153108.specs.Hd153108.{entry_at, next, port, data_write, written, InRange}
use Rattle.vocabulary.specs.Component.{put}
use Rattle.hd153108.proofs.Data.{at, table_at, red_write, green_write, blue_write}
use Rattle.std.specs.Prelude.{Some}
use Rattle.sheet.specs.Sheet.{red_of, green_of, blue_of}
use Rattle.calls.specs.Calls.{call, colour_calls, entry_calls}
use Rattle.theorem_load.proofs.Runs.{Runs, one, next as after}

-- ---- a data write, by the pointer

-- Table 1.1: the select of a table's data
abbrev pub select_of : Table → ℕ
select_of colour = 1
select_of overlay = 3

data_call : (t : Table) (b : ℕ) (c : Chip) {d : Chip} → InRange c → b < 256 → data_write t b c ≡ d
    → Runs (call (select_of t) b ∷ []) c d
unfolding register_at written
data_call colour b c g h e = one 1 b c g refl h e
data_call overlay b c g h e = one 3 b c g refl h e

-- ---- one entry

entry_at_lem : (t : Table) (e : ℕ) → e < size t → entry_at t e ≡ e
entry_at_lem colour e h = refl
entry_at_lem overlay e h = omega arith

entry_fits : (t : Table) (e : ℕ) → e < size t → e < 256
entry_fits colour e h = h
entry_fits overlay e h = omega arith

pub next_entry : (t : Table) (e : ℕ) → e + 1 < size t → next t e ≡ e + 1
next_entry colour e h = omega arith
next_entry overlay e h = omega arith

-- the chip after an entry's calls: the colour stored, the pointer at red, the address one on
unfoldable pub entry_done : Table → ℕ → ℕ → Chip → Chip
entry_done t e v c =
    with_table t (put e (red_of v) (green_of v) (blue_of v) (table_of t c)) (at c (next t e) 0 (red_of v) (green_of v))

module _ (t : Table) (e v : ℕ) (in_table : e < size t) (colourFits : v < 4096) where
  -- three writes, with the address there and the pointer at red
  three_calls : (c : Chip) → InRange c → c.state.pointer ≡ 0 → c.state.address ≡ e
      → Runs (colour_calls (select_of t) v) c (entry_done t e v c)
  unfolding entry_done
  three_calls c g p a =
      let red = red_of v in
      let green = green_of v in
      let r : red % 16 ≡ red = omega arith in
      let n : green % 16 ≡ green = omega arith in
      let b : blue_of v % 16 ≡ blue_of v = omega arith in
      let c1 = at c e 1 red c.state.green in
      let c2 = at c e 2 red green in
      after g (data_call t red c g (omega arith) (red_write t red c p ∙ rw (a, r)))
      (λ g1. after g1 (data_call t green c1 g1 (omega arith) (green_write t green c1 refl ∙ rw n))
      (λ g2. data_call t (blue_of v) c2 g2 (omega arith)
      (blue_write t (blue_of v) c2 refl ∙ rw (b, entry_at_lem t e in_table, table_at t c))))

  -- where an address write comes first, no matter what address and pointer were
  addressed_done : (c : Chip) → entry_done t e v (at c e 0 c.state.red c.state.green) ≡ entry_done t e v c
  unfolding entry_done
  addressed_done c = rw (table_at t c)

  address_call : (c : Chip) → InRange c → Runs (call 0 e ∷ []) c (at c e 0 c.state.red c.state.green)
  unfolding register_at written
  address_call c g = one 0 e c g refl (entry_fits t e in_table) refl

  pub entry_calls_lem : (follows : Bool) (c : Chip) → InRange c
      → (follows ≡ true → (c.state.pointer ≡ 0) × (c.state.address ≡ e))
      → Runs (entry_calls (select_of t) e follows (Some v)) c (entry_done t e v c)
  unfolding entry_calls
  entry_calls_lem true c g r = let (pointer, address) = r refl in three_calls c g pointer address
  entry_calls_lem false c g r =
      after g (address_call c g) (λ h. rw (addressed_done c) at (three_calls _ h refl refl))

pub entry_state : (t : Table) (e v : ℕ) (c : Chip)
    → (entry_done t e v c).state ≡ port c.state (next t e) 0 (red_of v) (green_of v)
unfolding entry_done
entry_state colour e v c = refl
entry_state overlay e v c = refl
