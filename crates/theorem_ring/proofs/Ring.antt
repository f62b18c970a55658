-- THE RING IS EQUAL TO THE OLD QUEUE: call by call, over any run, and from an accepted reset on. Assumes nothing.
use Prim.Native.Nat.{ℕ, zero, suc}
use mathlib.Core.Path.{◌≡◌, refl, sym, ap, subst, ◌∙◌}
use mathlib.Core.List.{List}
use mathlib.Core.Bool.{false}
use native.Mathlib.Omega.{arith}
use Rattle.vocabulary.specs.Face.{called_by}
use Rattle.vocabulary.specs.Outcome.{Outcome, answered, answered_at}
use Rattle.vocabulary.specs.Refusal.{refusal_of}
use Rattle.vocabulary.specs.Reply.{telling}
use Rattle.vocabulary.specs.Run.{after, Alike}
use Rattle.vocabulary.proofs.Outcome.{accepted_does, accepted_none}
use Rattle.vocabulary.proofs.Run.{runs_alike}
use Rattle.ms622424.specs.declared.Port.{Port}
use Rattle.ms622424.specs.declared.Control.{Control}
use Rattle.ms622424.specs.declared.Ident.{Ident}
use Rattle.ms622424.specs.Ms622424.{Chip, Entry, chip, with_first, Call, resets, refusals, does, called}
use Rattle.ms622424.proofs.Kept.{accepted_in_order, does_accepts}
use Rattle.ms622424_places.specs.Places.{view}
use Rattle.theorem_queue_unseen.proofs.Made.{made_run}
use Rattle.theorem_ring.specs.OldQueue.{Old, seen, queue_after, old_does, old_called}
use Rattle.theorem_ring.specs.Ring.{is_first_look, Turned, Orderly, SameAs, AsOld, SameFromReset, CallerAsOld}
use Rattle.theorem_ring.proofs.Turned.{as_turned}
use Rattle.theorem_ring.proofs.OldQueue.{emptied_orderly}
use Rattle.theorem_ring.proofs.OldCalls.{Holding, left_holding}

-- equal parts
same_chip : {p p' : Port} {d d' : Control} {i i' : Ident} {es es' : List Entry} {m m' : List ℕ} {n n' : ℕ} (f : ℕ)
    → p ≡ p' → d ≡ d' → i ≡ i' → es ≡ es' → m ≡ m' → n ≡ n'
    → chip p d i es m (record { places = n; first = f }) ≡ chip p' d' i' es' m' (record { places = n'; first = f })
same_chip f a b c d e g = cc

-- ---- a ring that holds what an old queue holds is that queue's chip, turned
turned_of : (c : Chip) (o : Old) → SameAs c o → Turned c (seen o)
turned_of c o s = record {
  but_first = same_chip c.lent.first s.port s.control s.ident s.waiting s.map
      (s.places ∙ sym s.orderly.long);
  first = s.first;
  other = omega arith;
}

same_of : (c : Chip) (o : Old) → Turned c (seen o) → Orderly o.queue → SameAs c o
same_of c o t h =
    let e = t.but_first in
    record {
      port = ap (λ (d : Chip). d.port) e;
      control = ap (λ (d : Chip). d.control) e;
      ident = ap (λ (d : Chip). d.ident) e;
      waiting = ap (λ (d : Chip). d.waiting) e;
      map = ap (λ (d : Chip). d.map) e;
      places = ap (λ (d : Chip). d.lent.places) e ∙ h.long;
      first = t.first;
      orderly = h;
    }

-- ---- an old call is the chip's own, of the chip that the old queue is
pub record OldLeaves (c : Chip) (o : Old) : Type 0 where
  pub chip : seen o ≡ with_first 0 c
  pub orderly : Orderly o.queue

old_tells : (r : ℕ) (o : Old) (k : Call)
    → telling (answered r o (old_does k o)) ≡ telling (answered r (seen o) (does k (seen o)))
unfolding answered_at
old_tells zero o k = refl
old_tells (suc r) o k = refl

module _ (k : Call) (o : Old) (h : Orderly o.queue) where
  old_left : (r : ℕ) → (r ≡ 0 → Holding (queue_after k o) (does k (seen o)).left.waiting)
      → (r ≡ 0 → (does k (seen o)).left.lent.places ≡ 64)
      → OldLeaves (answered r (seen o) (does k (seen o))).left (answered r o (old_does k o)).left
  unfolding answered_at
  old_left zero holds long =
      let q = holds refl in
      record {
        chip = same_chip 0 refl refl refl q.colours refl (q.orderly.long ∙ sym (long refl));
        orderly = q.orderly;
      }
  old_left (suc r) holds long = record { chip = refl; orderly = h }

  old_leaves : OldLeaves (called k (seen o)).left (old_called k o).left
  unfolding called_by
  old_leaves =
      let c = seen o in
      let served : refusal_of (refusals k c) ≡ 0 → called k c ≡ does k c = λ z. accepted_does 0 c (does k c) z in
      let accepted : refusal_of (refusals k c) ≡ 0 → (called k c).refusal ≡ 0 = λ z.
      ap (λ (p : Outcome Chip). p.refusal) (served z) ∙ does_accepts k c in
      old_left (refusal_of (refusals k c)) (λ z. left_holding o h k (accepted z))
      (λ z.
      ap (λ (p : Outcome Chip). p.left.lent.places) (sym (served z))
      ∙ (accepted_in_order k c (accepted z)).0)

  old_says : telling (old_called k o) ≡ telling (called k (seen o))
  unfolding called_by
  old_says = old_tells (refusal_of (refusals k (seen o))) o k

-- ---- THE CALLS
leaves : (k : Call) (c : Chip) (o : Old) → SameAs c o → SameAs (called k c).left (old_called k o).left
leaves k c o s =
    let t = as_turned.0.leaves k c (seen o) (turned_of c o s) in
    let l = old_leaves k o s.orderly in
    let e = ap (λ (d : Chip). with_first (called k c).left.lent.first d) (sym l.chip) in
    same_of (called k c).left (old_called k o).left
    (record { but_first = t.but_first ∙ e; first = t.first; other = omega arith })
    l.orderly

alike : Alike called old_called is_first_look SameAs
alike = record {
  leaves = leaves;
  tells = λ k c o e s. as_turned.0.tells k c (seen o) e (turned_of c o s) ∙ sym (old_says k o s.orderly);
}

pub as_old : AsOld called
as_old = (alike, runs_alike called old_called is_first_look SameAs alike)

-- ---- FROM A RESET on, and as a caller makes them
pub same_from_reset : SameFromReset called
unfolding called_by queue_after
same_from_reset c o i m l a =
    let none = accepted_none _ 0 c (does resets c) a in
    let same : refusal_of (refusals resets (seen o)) ≡ refusal_of (refusals resets c) = rw (i, l) refl in
    let ring : called resets c ≡ does resets c = accepted_does 0 c (does resets c) none in
    let before : old_called resets o ≡ old_does resets o = accepted_does 0 o (old_does resets o) (same ∙ none) in
    let fresh : SameAs (does resets c).left (old_does resets o).left = record {
      port = refl;
      control = refl;
      ident = i;
      waiting = refl;
      map = m;
      places = ap (λ (p : Outcome Chip). p.left.lent.places) (sym ring) ∙ (accepted_in_order resets c a).0;
      first = omega arith;
      orderly = emptied_orderly;
    } in
    rw (ring, before) fresh

pub caller_as_old : CallerAsOld
caller_as_old h last o calls s made =
    let now : SameAs (view last) (after old_called calls o) =
    subst (λ (c : Chip). SameAs c (after old_called calls o)) (sym (made_run made))
    (as_old.1.leaves calls (view h) o s) in (
      now,
      λ k next e d. ap telling d.chip ∙ alike.tells k (view last) (after old_called calls o) e now,
    )

-- A CHIP THAT IS AS THE OLD QUEUE is the MS622424, but for where the first colour is
pub as_old_determines : (other : Call → Chip → Outcome Chip) → AsOld other → (k : Call) (c : Chip) (o : Old)
    → SameAs c o
    → Turned (other k c).left (called k c).left × (is_first_look k ≡ false → telling (other k c) ≡ telling (called k c))
as_old_determines other a k c o s =
    let t = turned_of _ _ (a.0.leaves k c o s) in
    let u = turned_of _ _ (alike.leaves k c o s) in (
      record {
        but_first = t.but_first ∙ ap (with_first (other k c).left.lent.first) (sym u.but_first);
        first = t.first;
        other = u.first;
      },
      λ e. a.0.tells k c o e s ∙ sym (alike.tells k c o e s),
    )
