-- Chip B: for each kind of call, those that catch its impostors, on a chip of zeros and on ones with a number or with
-- waiting colours. Assumes nothing.
use Prim.Native.Nat.{ℕ, zero, suc, ◌≤◌, ◌<◌}
use mathlib.Core.Path.{◌≡◌, refl}
use mathlib.Core.List.{[]}
use native.Mathlib.Omega.{arith}
use lib.ListN.{length, get_or, replicate, length-replicate, get_or-replicate}
use Rattle.vocabulary.specs.Choice.{pick}
use Rattle.ms622424.specs.Ms622424.{Chip, Entry, resets, called}
use Rattle.theorem_scope_b.specs.Scope.{InMap, Ranges, Good, on_guns, Accesses}
use Rattle.theorem_scope_b.proofs.Scope.{scope}
use Rattle.theorem_impostors.specs.Impostors.{once, ImpostorsB}
use Rattle.theorem_impostors.proofs.Law.{changed, stirs_or_refuses, all_four, tells_or_refuses}

abbrev black : Entry
black = record { address = 0; red = 0; green = 0; blue = 0 }

-- zeros, but for a command, so many colours waiting, and the bytes of the map
chip : ℕ → ℕ → ℕ → Chip
chip command waiting byte = record {
  port = record { address = 0; counter = 0; red = 0; green = 0 };
  control = record { command = command; readmode = 0 };
  ident = record { revision = 0; board = 0 };
  waiting = replicate waiting black;
  map = replicate 24576 byte;
  lent = record { places = 64; first = 0 };
}

waiting_in_map : (n : ℕ) → InMap (replicate n black)
waiting_in_map zero = tt
waiting_in_map (suc n) = (omega arith, waiting_in_map n)

ranges : (command waiting byte : ℕ) → command < 32 → waiting ≤ 64 → Ranges (chip command waiting byte)
unfolding chip
ranges command waiting byte h w =
    let few = length-replicate waiting black in
    let in_map = waiting_in_map waiting in
    search arith

good : (command waiting byte : ℕ) → command < 32 → waiting ≤ 64 → Good (chip command waiting byte)
unfolding chip
good command waiting byte h w =
    record {
      sizes = record { places = refl; map = length-replicate 24576 byte };
      ranges = ranges command waiting byte h w;
    }

accesses : (command waiting byte : ℕ) → command < 32 → waiting ≤ 64 → Accesses called (chip command waiting byte)
accesses command waiting byte h w = scope.accesses _ (good command waiting byte h w)

zeros : Accesses called (chip 0 0 0)
zeros = accesses 0 0 0 (omega arith) (omega arith)

-- a command; a colour waiting; a full queue; bytes in the map
commanded : Accesses called (chip 1 0 0)
commanded = accesses 1 0 0 (omega arith) (omega arith)

waiting : Accesses called (chip 0 1 0)
waiting = accesses 0 1 0 (omega arith) (omega arith)

full : Accesses called (chip 0 64 0)
full = accesses 0 64 0 (omega arith) (omega arith)

ones : Accesses called (chip 0 0 1)
ones = accesses 0 0 1 (omega arith) (omega arith)

-- a board number of 16
strange : Chip
strange = record {
  port = record { address = 0; counter = 0; red = 0; green = 0 };
  control = record { command = 0; readmode = 0 };
  ident = record { revision = 0; board = 16 };
  waiting = [];
  map = [];
  lent = record { places = 64; first = 0 };
}

-- what entry 0 shows
shown_apart : on_guns 0 0 0 (replicate 24576 0) ≡ on_guns 0 0 0 (replicate 24576 1) → ⊥
shown_apart e =
    let at : (i b : ℕ) → i < 24576 → get_or (replicate 24576 b) i 0 ≡ b = λ i b h. get_or-replicate 24576 i b 0 h in
    let z = at 0 0 (omega arith) in
    let o = at 0 1 (omega arith) in
    let z1 = at 1 0 (omega arith) in
    let o1 = at 1 1 (omega arith) in
    omega (arith, e, z, o, z1, o1)

pub impostors_b : ImpostorsB
unfolding chip strange pick
impostors_b =
    let byte : 1 < 256 = omega arith in
    let sixty-four = length-replicate 64 black in
    record {
      writes =
          all_four called _ (3, 1) _ (zeros.command_write 1 byte)
          (changed (λ c. c.control.command) (λ e. omega arith)) (4, 1) _
          (zeros.no_write 4 1 (omega arith) (omega arith) byte) (2, 1) (3, 1) _ _
          ((full.full refl sixty-four).red_write 1 byte refl) (zeros.command_write 1 byte) (λ v n. omega arith);
      reads =
          all_four called _ 5 _ (zeros.buffer_red refl) (changed (λ c. c.port.counter) (λ e. omega arith)) 2 _
          (zeros.outside_mode refl) 3 3 _ _ zeros.command_read commanded.command_read (λ v n. omega arith);
      blanks =
          all_four called _ 1 _ (waiting.blank 1 (omega arith))
          (changed (λ c. length c.waiting) (λ e. omega arith)) 65536 _ (zeros.no_blank 65536 (omega arith)) 1 1 _ _
          (waiting.blank 1 (omega arith)) (zeros.blank 1 (omega arith)) (λ v n. omega arith);
      pixels =
          tells_or_refuses called _ (4, 0) _ (zeros.no_pixel 4 0 (λ h. omega arith)) (0, 0) (0, 0) _ _
          (zeros.mode_0 0 (omega arith)) (ones.mode_0 0 (omega arith)) (λ v n. shown_apart v);
      signals =
          let r = ranges 0 0 0 (omega arith) (omega arith) in
          tells_or_refuses called _ 16 _ (scope.no_signal 16 (chip 0 0 0) refl r (omega arith)) 0 4 _ _
          (scope.signal 0 (chip 0 0 0) refl r (omega arith)) (scope.signal 4 (chip 0 0 0) refl r (omega arith))
          (λ v n. omega arith);
      resets =
          stirs_or_refuses called _ once _ (scope.reset (chip 1 0 0) refl (search arith))
          (changed (λ c. c.control.command) (λ e. omega arith)) once _
          (scope.nine resets strange refl (λ h. omega (arith, h.board)));
      looks =
          tells_or_refuses called _ 9 _
          (zeros.look_nowhere 9 (omega arith) (λ h. omega arith) (λ h. omega arith)) 4 4 _ _
          (zeros.look_state 4 (omega arith)) (commanded.look_state 4 (omega arith)) (λ v n. omega arith);
    }
