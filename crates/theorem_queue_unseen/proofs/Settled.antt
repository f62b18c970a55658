-- What a call does to the settled map: a completed colour is written after all others, and nothing else changes it.
-- Moves take from the list's front what they store; the rest computes, select by select. Assumes nothing.
use Prim.Native.Nat.{ℕ, zero, suc, ◌<◌}
use mathlib.Core.Path.{◌≡◌, refl, sym, ap, ◌∙◌}
use mathlib.Core.Bool.{true}
use mathlib.Core.List.{List, [], ◌∷◌}
use native.Mathlib.Omega.{arith}
use borrow.Author.Tests.{ne_eqb}
use lib.Dec.{eqb}
use lib.ListN.{take, drop, take-append-drop}
use Rattle.vocabulary.specs.Choice.{pick}
use Rattle.vocabulary.specs.Component.{component_at}
use Rattle.vocabulary.specs.Face.{called_by}
use Rattle.vocabulary.specs.Outcome.{Outcome, answered_at}
use Rattle.vocabulary.specs.Refusal.{refusal_of}
use Rattle.vocabulary.specs.Run.{Accepted}
use Rattle.vocabulary.proofs.Outcome.{accepted_does}
use Rattle.vocabulary.proofs.Range.{passes_holds}
use Rattle.vocabulary.proofs.Refusals.{none_exactly}
use Rattle.ms622424.specs.declared.Port.{Port}
use Rattle.ms622424.specs.Ms622424.{Chip, Entry, completed, complete, stored, all_stored, register_at, selected}
use Rattle.ms622424.specs.Ms622424.{Moves, moves, room_made, taken, written, answers}
use Rattle.ms622424.specs.Ms622424.{Call, writes, reads, blanks, pixels, signals, resets, looks, refusals, does}
use Rattle.ms622424.specs.Ms622424.{called}
use Rattle.ms622424.proofs.Moves.{all_stored_append, moves_are, room_cases, room_keeps}
use Rattle.theorem_queue_unseen.specs.Unseen.{is_reset, completes, completed_by, settled}

-- ---- the moves change nothing of it
pub moves_settled : (slots : ℕ) (c : Chip) → settled (moves slots c).after ≡ settled c
unfolding settled
moves_settled slots c =
    let es = c.waiting in
    ap (λ (m : Moves). settled m.after) (moves_are slots c)
    ∙ (sym (all_stored_append (take slots es) (drop slots es) c.map)
    ∙ ap (λ (l : List Entry). all_stored l c.map) (take-append-drop slots es))

-- ---- a completed colour is written after all others
pub complete_settled : (e : Entry) (c : Chip) → settled (complete e c) ≡ stored e (settled c)
unfolding settled complete all_stored
complete_settled e c = all_stored_append c.waiting (e ∷ []) c.map

-- ---- a byte for the palette: what blue completes is written, red and green write nothing
taken_settled : (n byte : ℕ) (c : Chip) → n < 3
    → settled (taken (component_at n) byte c)
    ≡ all_stored (pick (eqb n 2) (completed c.port byte ∷ []) []) (settled c)
unfolding settled component_at taken pick all_stored
taken_settled zero byte c h = refl
taken_settled (suc zero) byte c h = refl
taken_settled (suc (suc zero)) byte c h = complete_settled (completed c.port byte) c
taken_settled (suc (suc (suc n))) byte c h = absurd (omega arith)

palette_settled : (byte : ℕ) (c : Chip) → c.port.counter < 3
    → settled (taken (selected c.port) byte (room_made c).after)
    ≡ all_stored (pick (eqb c.port.counter 2) (completed c.port byte ∷ []) []) (settled c)
palette_settled byte c h =
    let same = room_cases c (λ (m : Moves). settled m.after ≡ settled c) (moves_settled 4 c) refl in
    let kept = room_keeps c Port (λ d. d.port) (λ es m n. refl) in
    taken_settled c.port.counter byte (room_made c).after h ∙ rw (same, kept) refl

-- ---- what each call does where it is accepted, by select
abbrev Settles : Call → Chip → Outcome Chip → Type 0
Settles k c o = settled o.left ≡ all_stored (pick (eqb o.refusal 0) (completes k c) []) (settled c)

write_settles : (select byte : ℕ) (c : Chip) → c.port.counter < 3
    → Settles (writes select byte) c (does (writes select byte) c)
unfolding register_at written completes settled all_stored pick
write_settles zero byte c h = refl
write_settles (suc zero) byte c h = refl
write_settles (suc (suc zero)) byte c h = palette_settled byte c h
write_settles (suc (suc (suc zero))) byte c h = refl
write_settles (suc (suc (suc (suc zero)))) byte c h = refl
write_settles (suc (suc (suc (suc (suc zero))))) byte c h = refl
write_settles (suc (suc (suc (suc (suc (suc zero)))))) byte c h = refl
write_settles (suc (suc (suc (suc (suc (suc (suc zero))))))) byte c h = refl
write_settles (suc (suc (suc (suc (suc (suc (suc (suc n)))))))) byte c h =
    rw (ne_eqb (suc (suc (suc (suc (suc (suc (suc (suc n)))))))) 2 (λ e. omega arith))

read_settles : (select : ℕ) (c : Chip) → Settles (reads select) c (does (reads select) c)
unfolding register_at answers completes settled all_stored pick
read_settles zero c = refl
read_settles (suc zero) c = refl
read_settles (suc (suc zero)) c = refl
read_settles (suc (suc (suc zero))) c = refl
read_settles (suc (suc (suc (suc zero)))) c = refl
read_settles (suc (suc (suc (suc (suc zero))))) c = refl
read_settles (suc (suc (suc (suc (suc (suc zero)))))) c = refl
read_settles (suc (suc (suc (suc (suc (suc (suc zero))))))) c = refl
read_settles (suc (suc (suc (suc (suc (suc (suc (suc n)))))))) c = refl

-- ---- one call, accepted or not: a refused one completes nothing
where_accepted_lem : (k : Call) (n : ℕ) (c : Chip) (done : Outcome Chip) → (n ≡ 0 → Settles k c done)
    → Settles k c (answered_at n 0 c done)
unfolding answered_at pick all_stored
where_accepted_lem k zero c done h = h refl
where_accepted_lem k (suc n) c done h = rw (ne_eqb (suc n) 0 (λ z. omega arith))

counts : (select byte : ℕ) (c : Chip) → refusal_of (refusals (writes select byte) c) ≡ 0 → c.port.counter < 3
counts select byte c e =
    let (_, (inside, _)) = none_exactly (refusals (writes select byte) c) e in
    let range = passes_holds _ inside in
    omega arith

does_settles : (k : Call) (c : Chip) → ¬ ((is_reset k ≡ true) × Accepted called k c) → refusal_of (refusals k c) ≡ 0
    → Settles k c (does k c)
unfolding called_by completes all_stored pick
does_settles (writes select byte) c h e = write_settles select byte c (counts select byte c e)
does_settles (reads select) c h e = read_settles select c
does_settles (blanks slots) c h e = moves_settled slots c
does_settles (pixels mode word) c h e = refl
does_settles (signals s) c h e = refl
does_settles (looks place) c h e = refl
does_settles resets c h e = absurd (h (refl, ap (λ (o : Outcome Chip). o.refusal) (accepted_does 0 c _ e)))

pub call_settled : (k : Call) (c : Chip) → ¬ ((is_reset k ≡ true) × Accepted called k c)
    → settled (called k c).left ≡ all_stored (completed_by k c) (settled c)
unfolding called_by
call_settled k c h = where_accepted_lem k (refusal_of (refusals k c)) c (does k c) (does_settles k c h)
