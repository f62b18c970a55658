-- Two rings that hold the same from different first positions: every call leaves them so, and tells the same of both.
-- Assumes nothing.
use Prim.Native.Nat.{ℕ, zero, suc, ◌<◌, min}
use mathlib.Core.Path.{◌≡◌, refl, sym, ap, ◌∙◌}
use mathlib.Core.Bool.{true, false}
use native.Mathlib.Omega.{arith}
use borrow.Author.Tests.{lt-ltb, leb-true, eqb-false}
use lib.Dec.{ltb, eqb}
use lib.ListN.{length}
use Rattle.vocabulary.specs.Choice.{pick}
use Rattle.vocabulary.specs.Component.{Component, red, green, blue}
use Rattle.vocabulary.specs.Face.{called_by}
use Rattle.vocabulary.specs.Look.{Found, found, looked}
use Rattle.vocabulary.specs.Outcome.{Outcome, accepting, answered, answered_at}
use Rattle.vocabulary.specs.Range.{within, meets, fails}
use Rattle.vocabulary.specs.Refusal.{refusal_of}
use Rattle.vocabulary.specs.Reply.{telling}
use Rattle.vocabulary.specs.Run.{Alike}
use Rattle.vocabulary.proofs.Cases.{equals}
use Rattle.vocabulary.proofs.Choice.{cases}
use Rattle.vocabulary.proofs.Face.{refused_leaves}
use Rattle.vocabulary.proofs.Range.{not_meets, clash}
use Rattle.vocabulary.proofs.Run.{runs_alike}
use Rattle.ms622424.specs.Ms622424.{Chip, with_first, look_places, Moves, made, moves, room_made, taken}
use Rattle.ms622424.specs.Ms622424.{stepped, complete, written, answers, Register, address_low, address_high, palette}
use Rattle.ms622424.specs.Ms622424.{command, status, buffer, revision, initialization, none, selected, register_at}
use Rattle.ms622424.specs.Ms622424.{status_byte, pipe_out}
use Rattle.ms622424.specs.Ms622424.{Call, writes, reads, blanks, pixels, signals, resets, looks, refusals, does, called}
use Rattle.ms622424.proofs.Kept.{accepted_in_order, does_accepts, look_stays}
use Rattle.ms622424.proofs.Moves.{first_after, moves_are, room_forced, room_left}
use Rattle.theorem_ring.specs.Ring.{is_first_look, Turned, AsTurned}

-- an outcome that differs at most in the first position that it leaves
abbrev refirst : ℕ → Outcome Chip → Outcome Chip
refirst n o = record {
  refusal = o.refusal;
  value = o.value;
  count = o.count;
  line = o.line;
  left = with_first n o.left;
}

record ButFirst (o p : Outcome Chip) : Type 0 where
  pub first : ℕ
  pub is : o ≡ refirst first p

-- the same of moves
record MovesButFirst (m p : Moves) : Type 0 where
  pub first : ℕ
  pub is : m ≡ made p.count (with_first first p.after)

taken_turned : (n : ℕ) (c : Chip) (k : Component) (byte : ℕ)
    → taken k byte (with_first n c) ≡ with_first n (taken k byte c)
unfolding taken stepped complete
taken_turned n c red byte = refl
taken_turned n c green byte = refl
taken_turned n c blue byte = refl

module _ (n : ℕ) (c : Chip) where
  -- ---- what an accepted call does
  moves_turned : (slots : ℕ) → MovesButFirst (moves slots (with_first n c)) (moves slots c)
  moves_turned slots = record {
    first = first_after (min slots (length c.waiting)) n;
    is = rw (moves_are slots (with_first n c), moves_are slots c) refl;
  }

  room_turned : MovesButFirst (room_made (with_first n c)) (room_made c)
  room_turned =
      equals (length c.waiting) 64
      (λ e.
      let t = moves_turned 4 in
      record { first = t.first; is = room_forced (with_first n c) e ∙ (t.is ∙ rw (room_forced c e) refl) })
      (λ e. record { first = n; is = room_left (with_first n c) e ∙ rw (room_left c e) refl })

  written_turned : (r : Register) (byte : ℕ) → ButFirst (written r byte (with_first n c)) (written r byte c)
  unfolding written
  written_turned address_low byte = record { first = n; is = refl }
  written_turned address_high byte = record { first = n; is = refl }
  written_turned palette byte =
      let t = room_turned in
      record {
        first = t.first;
        is = ap (λ (m : Moves). accepting 0 m.count (taken (selected c.port) byte m.after)) t.is
            ∙ ap (accepting 0 (room_made c).count)
            (taken_turned t.first (room_made c).after (selected c.port) byte);
      }
  written_turned command byte = record { first = n; is = refl }
  written_turned status byte = record { first = n; is = refl }
  written_turned buffer byte = record { first = n; is = refl }
  written_turned revision byte = record { first = n; is = refl }
  written_turned initialization byte = record { first = n; is = refl }
  written_turned none byte = record { first = n; is = refl }

  answers_turned : (r : Register) → ButFirst (answers r (with_first n c)) (answers r c)
  unfolding answers status_byte
  answers_turned address_low = record { first = n; is = refl }
  answers_turned address_high = record { first = n; is = refl }
  answers_turned palette = record { first = n; is = refl }
  answers_turned command = record { first = n; is = refl }
  answers_turned status = record { first = n; is = refl }
  answers_turned buffer = record { first = n; is = refl }
  answers_turned revision = record { first = n; is = refl }
  answers_turned initialization = record { first = n; is = refl }
  answers_turned none = record { first = n; is = refl }

  -- the place of the first position apart, the same is found
  found_turned : (place : ℕ) → eqb place 0xC ≡ false
      → found (look_places (with_first n c)) place ≡ found (look_places c) place
  unfolding found pick
  found_turned place e =
      let other = eqb-false place 0xC e in
      let beside : meets (within 0xC 1 place) ≡ false =
      not_meets (within 0xC 1 place) (λ g. let low = leb-true 0xC place g.0 in other (omega (arith, g.1.0))) in
      rw beside refl

  does_turned : (k : Call) → is_first_look k ≡ false → ButFirst (does k (with_first n c)) (does k c)
  unfolding pipe_out
  does_turned (writes select byte) e = written_turned (register_at select) byte
  does_turned (reads select) e = answers_turned (register_at select)
  does_turned (blanks slots) e =
      let t = moves_turned slots in
      record { first = t.first; is = ap (λ (m : Moves). accepting 0 m.count m.after) t.is }
  does_turned (pixels mode word) e = record { first = n; is = refl }
  does_turned (signals s) e = record { first = n; is = refl }
  does_turned resets e = record { first = 0; is = refl }
  does_turned (looks place) e =
      record { first = n; is = ap (λ (f : Found). looked f (with_first n c)) (found_turned place e) }

  -- ---- when it is refused
  module _ (h : n < 64) (g : c.lent.first < 64) where
    here : ltb n 64 ≡ true
    here = lt-ltb n 64 h

    there : ltb c.lent.first 64 ≡ true
    there = lt-ltb c.lent.first 64 g

    refusals_turned : (k : Call) → is_first_look k ≡ false
        → refusal_of (refusals k (with_first n c)) ≡ refusal_of (refusals k c)
    unfolding fails meets
    refusals_turned (writes select byte) e = rw (here, there) refl
    refusals_turned (reads select) e = rw (here, there) refl
    refusals_turned (blanks slots) e = rw (here, there) refl
    refusals_turned (pixels mode word) e = rw (here, there) refl
    refusals_turned (signals s) e = rw (here, there) refl
    refusals_turned resets e = refl
    refusals_turned (looks place) e = rw (here, there, found_turned place e) refl

  answered_turned : (r : ℕ) (o p : Outcome Chip) → ButFirst o p
      → ButFirst (answered r (with_first n c) o) (answered r c p)
  unfolding answered_at
  answered_turned zero o p t = t
  answered_turned (suc r) o p t = record { first = n; is = refl }

  called_turned : n < 64 → c.lent.first < 64 → (k : Call) → is_first_look k ≡ false
      → ButFirst (called k (with_first n c)) (called k c)
  unfolding called_by
  called_turned h g k e = rw (refusals_turned h g k e) (answered_turned _ _ _ (does_turned k e))

-- ---- the first position stays a place
pub first_stays : (k : Call) (c : Chip) → c.lent.first < 64 → (called k c).left.lent.first < 64
first_stays k c h =
    equals (called k c).refusal 0 (λ a. (accepted_in_order k c a).1)
    (λ z. rw (refused_leaves refusals does k c (does_accepts k c) z) h)

-- TWO RINGS
abbrev Agree : Call → Chip → Chip → Type 0
Agree k c d = Turned (called k c).left (called k d).left × (telling (called k c) ≡ telling (called k d))

agree : (k : Call) (c d : Chip) → is_first_look k ≡ false → Turned c d → Agree k c d
agree k c d e t =
    let turned = called_turned c.lent.first d t.first t.other k e in
    let is = ap (called k) t.but_first ∙ turned.is in
    let at = ap (λ (o : Outcome Chip). o.left.lent.first) is in (
      record {
        but_first = ap (λ (o : Outcome Chip). o.left) is
            ∙ ap (λ (n : ℕ). with_first n (called k d).left) (sym at);
        first = first_stays k c t.first;
        other = first_stays k d t.other;
      },
      ap telling is,
    )

first_look_stays : (k : Call) (c : Chip) → is_first_look k ≡ true → (called k c).left ≡ c
first_look_stays (writes select byte) c e = clash (sym e)
first_look_stays (reads select) c e = clash (sym e)
first_look_stays (blanks slots) c e = clash (sym e)
first_look_stays (pixels mode word) c e = clash (sym e)
first_look_stays (signals s) c e = clash (sym e)
first_look_stays resets c e = clash (sym e)
first_look_stays (looks place) c e = look_stays (looks place) c refl

rings_alike : Alike called called is_first_look Turned
rings_alike = record {
  leaves = λ k c d t.
      cases (is_first_look k)
      (λ e. rw (first_look_stays k c e, first_look_stays k d e) t)
      (λ e. (agree k c d e t).0);
  tells = λ k c d e t. (agree k c d e t).1;
}

pub as_turned : AsTurned called
as_turned = (rings_alike, runs_alike called called is_first_look Turned rings_alike)
