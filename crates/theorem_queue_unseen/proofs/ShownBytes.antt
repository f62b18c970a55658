-- Completed colours are of bytes, and so is what a map of bytes shows: a pixel's guns are the bytes of its value.
-- Assumes nothing.
use Prim.Native.Nat.{ℕ, ◌+◌, ◌*◌, ◌<◌}
use mathlib.Core.Path.{◌≡◌, refl}
use mathlib.Core.Bool.{Bool, true, ◌&&◌}
use mathlib.Core.List.{List, [], ◌∷◌}
use native.Mathlib.Omega.{arith}
use borrow.Author.Tests.{eqb-true, ltb-true, lt-ltb}
use lib.Dec.{ltb, eqb}
use lib.ListN.{length}
use Rattle.vocabulary.specs.Choice.{pick}
use Rattle.vocabulary.specs.Component.{Component, red, green, blue, part, one_of, colour_word}
use Rattle.vocabulary.specs.Every.{every}
use Rattle.vocabulary.specs.Range.{below}
use Rattle.vocabulary.specs.Run.{gathered, Accepted}
use Rattle.vocabulary.proofs.Choice.{cases, picks_first, picks_second}
use Rattle.vocabulary.proofs.Component.{part_below, word_red, word_green}
use Rattle.vocabulary.proofs.Every.{every_append, every_at}
use Rattle.vocabulary.proofs.Face.{called_clear}
use Rattle.vocabulary.proofs.Range.{passes_holds, both, pair}
use Rattle.ms622424.specs.Ms622424.{Chip, Entry, ranges, refusals, does, called}
use Rattle.ms622424.specs.Ms622424.{Call, writes, reads, blanks, pixels, signals, resets, looks}
use Rattle.theorem_queue_unseen.specs.Unseen.{completes, completed_by, completed_in, last_for, byte_at}
use Rattle.theorem_queue_unseen.specs.Unseen.{byte_of, are_bytes}

-- ---- completed colours
abbrev of_bytes : Entry → Bool
of_bytes e = ltb e.red 256 && (ltb e.green 256 && ltb e.blue 256)

-- what is chosen by a test passes where both do
every_picked : {b : Bool} (es : List Entry) → (b ≡ true → every of_bytes es ≡ true)
    → every of_bytes (pick b es []) ≡ true
unfolding every
every_picked {b} es h =
    cases b (λ e. rw (picks_first es [] e) (h e)) (λ e. rw (picks_second es [] e) refl)

write_bytes : (select byte : ℕ) (c : Chip) → Accepted called (writes select byte) c
    → every of_bytes (completes (writes select byte) c) ≡ true
unfolding completes every
write_bytes select byte c a =
    let t = called_clear refusals does (writes select byte) c a in
    let h = passes_holds (below byte 256 ∷ ranges c) t.1.0 in
    every_picked _ (λ e.
    pair (pair (lt-ltb c.port.red 256 (omega arith)) (pair (lt-ltb c.port.green 256 (omega arith))
    (lt-ltb byte 256 (omega arith)))) refl)

call_bytes_lem : (k : Call) (c : Chip) → Accepted called k c → every of_bytes (completes k c) ≡ true
unfolding completes every
call_bytes_lem (writes select byte) c a = write_bytes select byte c a
call_bytes_lem (reads select) c a = refl
call_bytes_lem (blanks slots) c a = refl
call_bytes_lem (pixels mode word) c a = refl
call_bytes_lem (signals s) c a = refl
call_bytes_lem resets c a = refl
call_bytes_lem (looks place) c a = refl

completed_bytes : (calls : List Call) (c : Chip) → every of_bytes (completed_in calls c) ≡ true
unfolding gathered every
completed_bytes [] c = refl
completed_bytes (k ∷ calls) c =
    rw (every_append of_bytes (completed_by k c) (completed_in calls (called k c).left))
    (pair (every_picked _ (λ e. call_bytes_lem k c (eqb-true _ 0 e))) (completed_bytes calls (called k c).left))

-- ---- the last of them, or a map's byte
gun_byte : (e : Entry) (k : Component) → of_bytes e ≡ true → one_of k e.red e.green e.blue < 256
gun_byte e red h = ltb-true _ 256 (both (ltb e.red 256) _ h).0
gun_byte e green h = ltb-true _ 256 (both (ltb e.green 256) _ (both (ltb e.red 256) _ h).1).0
gun_byte e blue h = ltb-true _ 256 (both (ltb e.green 256) _ (both (ltb e.red 256) _ h).1).1

last_byte : (es : List Entry) (a : ℕ) (k : Component) (byte : ℕ) → every of_bytes es ≡ true → byte < 256
    → last_for a k es byte < 256
unfolding every last_for
last_byte [] a k byte h b = b
last_byte (e ∷ es) a k byte h b =
    let t = both (of_bytes e) _ h in
    last_byte es a k _ t.1
    (cases (eqb e.address a)
    (λ p. rw (picks_first (one_of k e.red e.green e.blue) byte p) (gun_byte e k t.0))
    (λ p. rw (picks_second (one_of k e.red e.green e.blue) byte p) b))

pub byte_at_lem : (calls : List Call) (c : Chip) (m : List ℕ) (a : ℕ) (k : Component) → are_bytes m ≡ true
    → 3 * a + 2 < length m → byte_at a k (completed_in calls c) m < 256
byte_at_lem calls c m a k h l =
    let p = part_below k in
    last_byte (completed_in calls c) a k _ (completed_bytes calls c)
    (ltb-true _ 256 (every_at (λ (n : ℕ). ltb n 256) m 0 h (3 * a + part k) (omega arith)))

-- ---- a colour's bytes
pub word_byte : (k : Component) (r g b : ℕ) → r < 256 → g < 256 → b < 256
    → byte_of k (colour_word r g b) ≡ one_of k r g b
unfolding byte_of
word_byte red r g b hr hg hb = word_red r g b hr hg
word_byte green r g b hr hg hb = word_green r g b hr hg
word_byte blue r g b hr hg hb = omega arith
