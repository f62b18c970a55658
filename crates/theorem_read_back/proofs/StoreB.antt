-- Chip B's calls that write a colour: read mode off, the address, three bytes. Each is accepted and leaves the next
-- chip, and the colour is the last that waits. Assumes nothing.
use Prim.Native.Nat.{ℕ, ◌+◌, ◌*◌, ◌/◌, ◌%◌, ◌<◌}
use mathlib.Core.Path.{◌≡◌, refl, sym, ap, subst, ◌∙◌}
use mathlib.Core.List.{List, [], ◌∷◌, ◌++◌}
use native.Mathlib.Omega.{arith}
use borrow.Author.Tests.{eqb-true, eqb-false, eq-eqb}
use lib.Dec.{eqb}
use lib.ListN.{length}
use Rattle.vocabulary.specs.Choice.{pick}
use Rattle.vocabulary.specs.Component.{Component, red, green, blue, one_of}
use Rattle.vocabulary.specs.Outcome.{Outcome, accepting}
use Rattle.vocabulary.specs.Reply.{Reply}
use Rattle.vocabulary.proofs.Choice.{cases, picks_first, picks_second}
use Rattle.ms622424.specs.Ms622424.{Chip, Entry, InRange, port, control, with_port, with_control}
use Rattle.ms622424.specs.Ms622424.{register_at, selected, stepped, complete, Moves, room_made, taken}
use Rattle.ms622424.specs.Ms622424.{writable, written, readable, answers, Call, writes, reads, called}
use Rattle.ms622424.proofs.Access.{is_red, is_green, is_blue}
use Rattle.ms622424.proofs.Kept.{called_keeps_range}
use Rattle.ms622424.proofs.Moves.{moves_are, room_forced, room_left, room_keeps, room_space}
use Rattle.ms622424.proofs.Read.{read_does}
use Rattle.ms622424.proofs.Write.{write_does}
use Rattle.theorem_queue_unseen.specs.Unseen.{last_for, byte_at}
use Rattle.theorem_queue_unseen.proofs.Accepting.{palette_accepted}
use Rattle.theorem_queue_unseen.proofs.Stored.{last_append}
use Rattle.theorem_read_back.specs.Told.{tells}
use Rattle.theorem_read_back.specs.ReadBackB.{pointing}
use Rattle.theorem_read_back.proofs.Told.{Tells, then}

-- the next chip is in range too
pub kept : (k : Call) {c d : Chip} {v n : ℕ} → InRange c → called k c ≡ accepting v n d → InRange d
kept k {c} r e = subst (λ (o : Outcome Chip). InRange o.left) e (called_keeps_range k c r)

-- ---- The address is set through selects 0 and 1
module _ (c : Chip) (x : InRange c) (a : ℕ) (h : a < 8192) where
  abbrev low : Chip
  low = with_port (port (c.port.address / 256 * 256 + a % 256) 0 c.port.red c.port.green) c

  abbrev pub pointed : Chip
  pointed = with_port (port a 0 c.port.red c.port.green) c

  pub first_half : called (writes 0 (a % 256)) c ≡ accepting 0 0 low
  unfolding register_at writable written
  first_half = sym (write_does 0 (a % 256) c x (omega arith) 0 refl refl refl refl)

  pub second_half : called (writes 1 (a / 256)) low ≡ accepting 0 0 pointed
  unfolding register_at writable written
  second_half =
      sym (write_does 1 (a / 256) low (kept _ x first_half) (omega arith) 1 refl refl refl refl)
      ∙ ap (λ (n : ℕ). accepting 0 0 (with_port (port n 0 c.port.red c.port.green) c)) (omega arith)

  pub pointed_range : InRange pointed
  pointed_range = kept _ (kept _ x first_half) second_half

  pub points : {ks : List Call} {rs : List Reply} → Tells called ks pointed rs
      → Tells called (pointing a ++ ks) c (tells 0 ∷ tells 0 ∷ rs)
  points t = then first_half (then second_half t)

-- ---- Three bytes are written
-- a byte that finds room
module _ (c : Chip) (x : InRange c) (off : c.control.readmode ≡ 0) (byte : ℕ) (hb : byte < 256) where
  taken_at_once : length c.waiting < 64
      → called (writes 2 byte) c ≡ accepting 0 0 (taken (selected c.port) byte c)
  unfolding written
  taken_at_once w =
      palette_accepted c x byte off hb
      ∙ ap (λ (m : Moves). accepting 0 m.count (taken (selected c.port) byte m.after))
      (room_left c (λ z. omega arith))

-- how many the first byte moves
room_count : (c : Chip) → (room_made c).count ≡ pick (eqb (length c.waiting) 64) 4 0
room_count c =
    cases (eqb (length c.waiting) 64)
    (λ e.
    let full = eqb-true (length c.waiting) 64 e in
    ap (λ (m : Moves). m.count) (room_forced c full ∙ moves_are 4 c)
    ∙ (omega (arith, full) ∙ sym (picks_first 4 0 e)))
    (λ e.
    ap (λ (m : Moves). m.count) (room_left c (eqb-false (length c.waiting) 64 e)) ∙ sym (picks_second 4 0 e))

-- from a chip outside read mode, pointed at an address
module _ (c : Chip) (x : InRange c) (off : c.control.readmode ≡ 0) (at-red : c.port.counter ≡ 0)
    (r g b : ℕ) (hr : r < 256) (hg : g < 256) (hb : b < 256) where
  abbrev pub room : Chip
  room = (room_made c).after

  abbrev one : Chip
  one = taken red r room

  abbrev two : Chip
  two = taken green g one

  abbrev pub three : Chip
  three = taken blue b two

  pub red_written : called (writes 2 r) c ≡ accepting 0 (pick (eqb (length c.waiting) 64) 4 0) one
  unfolding written
  red_written =
      palette_accepted c x r off hr
      ∙ (ap (λ (k : Component). accepting 0 (room_made c).count (taken k r room)) (is_red at-red)
      ∙ ap (λ (n : ℕ). accepting 0 n one) (room_count c))

  room_off : room.control.readmode ≡ 0
  room_off = room_keeps c ℕ (λ d. d.control.readmode) (λ es m n. refl) ∙ off

  pub green_written : called (writes 2 g) one ≡ accepting 0 0 two
  unfolding taken stepped
  green_written =
      taken_at_once one (kept _ x red_written) room_off g hg (room_space c x)
      ∙ ap (λ (k : Component). accepting 0 0 (taken k g one)) (is_green refl)

  pub blue_written : called (writes 2 b) two ≡ accepting 0 0 three
  unfolding taken stepped
  blue_written =
      taken_at_once two (kept _ (kept _ x red_written) green_written) room_off b hb (room_space c x)
      ∙ ap (λ (k : Component). accepting 0 0 (taken k b two)) (is_blue 2 (λ z. omega arith) (λ z. omega arith))

  -- the colour is the last that waits
  pub waits_last : three.waiting
      ≡ room.waiting ++ (record { address = c.port.address; red = r; green = g; blue = b } ∷ [])
  unfolding taken complete stepped
  waits_last =
      ap (λ (n : ℕ). room.waiting ++ (record { address = n; red = r; green = g; blue = b } ∷ []))
      (room_keeps c ℕ (λ d. d.port.address) (λ es m n. refl))

  pub stored_last : (k : Component) (m : List ℕ) → byte_at c.port.address k three.waiting m ≡ one_of k r g b
  unfolding last_for
  stored_last k m =
      ap (λ (es : List Entry). byte_at c.port.address k es m) waits_last
      ∙ (last_append room.waiting _ c.port.address k _
      ∙ picks_first (one_of k r g b) _ (eq-eqb c.port.address c.port.address refl))

-- read mode off
module _ (c : Chip) (x : InRange c) where
  abbrev pub begun : Chip
  begun = with_control (control c.control.command 0) c

  pub begins : called (reads 7) c ≡ accepting 0 0 begun
  unfolding register_at readable answers
  begins = sym (read_does 7 c x 7 refl refl refl refl refl)
