-- A chip in range stays in range, whatever the call; pixels, timing signals and looks leave it as it is. Assumes
-- nothing.
use Prim.Native.Nat.{ℕ, ◌^◌, ◌<◌, min}
use mathlib.Core.Path.{◌≡◌, refl, sym, subst, ◌∙◌}
use mathlib.Core.Bool.{true}
use mathlib.Core.List.{List, [], ◌∷◌, ◌++◌}
use native.Mathlib.Omega.{arith}
use borrow.Author.Tests.{lt-ltb}
use lib.ListN.{length, take, drop, length-append, length-drop}
use Rattle.vocabulary.specs.Range.{below, Holds}
use Rattle.vocabulary.specs.Component.{Component, red, green, blue}
use Rattle.vocabulary.specs.Every.{every}
use Rattle.vocabulary.specs.Outcome.{Outcome}
use Rattle.vocabulary.specs.Run.{Keeps, Unnoticed}
use Rattle.vocabulary.proofs.Range.{passes_holds, pair, clash}
use Rattle.vocabulary.proofs.Every.{every_append, every_one, every_drop}
use Rattle.vocabulary.proofs.Face.{called_clear, called_does, called_holds}
use Rattle.vocabulary.proofs.Run.{unnoticed}
use Rattle.ms622424.specs.Ms622424.{Chip, Entry, with_port, with_queue, with_first, lengths, queue_lengths, is_in_map}
use Rattle.ms622424.specs.Ms622424.{ident_ranges, ranges, InRange, selected, stepped, completed, complete}
use Rattle.ms622424.specs.Ms622424.{Moves, moves}
use Rattle.ms622424.specs.Ms622424.{room_made, taken, written, buffer_stepped, answers, fresh, register_at}
use Rattle.ms622424.specs.Ms622424.{Register, address_low, address_high, palette, command, status, buffer}
use Rattle.ms622424.specs.Ms622424.{revision, initialization, none, Call, writes, reads, blanks, pixels}
use Rattle.ms622424.specs.Ms622424.{signals, resets, looks, is_pixel, is_signals, is_look, refusals, does, called}
use Rattle.ms622424.proofs.InRange.{in_range_lem}
use Rattle.ms622424.proofs.Moves.{first_below, all_stored_length, moves_are, room_cases, room_space}

-- ---- a part anew
queue_kept : (es : List Entry) (m : List ℕ) (c : Chip) → InRange c → length m ≡ length c.map → length es < 65
    → every is_in_map es ≡ true → InRange (with_queue es m c)
queue_kept es m c h l n e = let size = l ∙ h.size in search

first_kept : (n : ℕ) (c : Chip) → InRange c → n < 64 → InRange (with_first n c)
first_kept n c h l = search

stepped_kept : (k : Component) (c : Chip) → InRange c → InRange (with_port (stepped k c.port) c)
unfolding stepped
stepped_kept red c h = search arith
stepped_kept green c h = search arith
stepped_kept blue c h = search arith

buffer_kept : (k : Component) (c : Chip) → InRange c → InRange (with_port (buffer_stepped k c.port) c)
unfolding buffer_stepped
buffer_kept red c h = stepped_kept red c h
buffer_kept green c h = h
buffer_kept blue c h = h

-- ---- the queue
moves_kept : (slots : ℕ) (c : Chip) → InRange c → InRange (moves slots c).after
moves_kept slots c h =
    let few = h.few in
    let k = min slots (length c.waiting) in
    let on = first_kept _ c h (first_below k c.lent.first h.first) in
    subst (λ (m : Moves). InRange m.after) (sym (moves_are slots c))
    (queue_kept (drop slots c.waiting) _ _ on (all_stored_length (take slots c.waiting) c.map)
    (simp length-drop (omega arith)) (every_drop is_in_map slots c.waiting h.in_map))

taken_kept : (k : Component) (byte : ℕ) (c : Chip) → InRange c → length c.waiting < 64 → byte < 256
    → InRange (taken k byte c)
unfolding taken stepped complete
taken_kept red byte c h w b = search arith
taken_kept green byte c h w b = search arith
taken_kept blue byte c h w b =
    let e = completed c.port byte in
    let one : is_in_map e ≡ true = lt-ltb c.port.address 8192 h.address in
    let more = queue_kept (c.waiting ++ (e ∷ [])) c.map c h refl (simp length-append (omega arith))
    (rw (every_append, every_one) (pair h.in_map one)) in
    stepped_kept blue _ more

-- ---- accepted calls
written_kept : (r : Register) (byte : ℕ) (c : Chip) → InRange c → byte < 256 → InRange (written r byte c).left
unfolding written
written_kept address_low byte c h b = search arith
written_kept address_high byte c h b = search arith
written_kept palette byte c h b =
    taken_kept (selected c.port) byte (room_made c).after
    (room_cases c (λ (m : Moves). InRange m.after) (moves_kept 4 c h) h) (room_space c h) b
written_kept command byte c h b = search arith
written_kept status byte c h b = h
written_kept buffer byte c h b = h
written_kept revision byte c h b = h
written_kept initialization byte c h b = search arith
written_kept none byte c h b = h

answers_kept : (r : Register) (c : Chip) → InRange c → InRange (answers r c).left
unfolding answers
answers_kept address_low c h = h
answers_kept address_high c h = h
answers_kept palette c h = stepped_kept (selected c.port) c h
answers_kept command c h = h
answers_kept status c h = h
answers_kept buffer c h = buffer_kept (selected c.port) c h
answers_kept revision c h = h
answers_kept initialization c h = search arith
answers_kept none c h = h

-- a reset needs only the places, the map's length, and what it reads
pub fresh_in_range : (c : Chip) → c.lent.places ≡ 64 → length c.map ≡ 24576 → Holds (ident_ranges c.ident)
    → InRange (fresh c)
unfolding every
fresh_in_range c l m kept = search arith

-- an accepted look leaves its chip
look_leaves : (place : ℕ) (c : Chip) → (does (looks place) c).left ≡ c
look_leaves place c = refl

-- THE CALLS keep the ranges
pub called_keeps_range : Keeps called InRange
called_keeps_range (writes select byte) c h =
    called_holds refusals does (writes select byte) c InRange h
    (λ t. written_kept (register_at select) byte c h (passes_holds (below byte 256 ∷ ranges c) t.1.0).0)
called_keeps_range (reads select) c h =
    called_holds refusals does (reads select) c InRange h (λ t. answers_kept (register_at select) c h)
called_keeps_range (blanks slots) c h =
    called_holds refusals does (blanks slots) c InRange h (λ t. moves_kept slots c h)
called_keeps_range (pixels mode word) c h = called_holds refusals does (pixels mode word) c InRange h (λ t. h)
called_keeps_range (signals s) c h = called_holds refusals does (signals s) c InRange h (λ t. h)
called_keeps_range resets c h =
    called_holds refusals does resets c InRange h
    (λ t. fresh_in_range c h.places h.size (passes_holds (ident_ranges c.ident) t.1.0))
called_keeps_range (looks place) c h =
    called_holds refusals does (looks place) c InRange h (λ t. subst InRange (sym (look_leaves place c)) h)

-- ---- the calls that no other call can tell from not being made
pixel_stays : (k : Call) (c : Chip) → is_pixel k ≡ true → (called k c).left ≡ c
pixel_stays (writes select byte) c e = clash (sym e)
pixel_stays (reads select) c e = clash (sym e)
pixel_stays (blanks slots) c e = clash (sym e)
pixel_stays (pixels mode word) c e =
    called_holds refusals does (pixels mode word) c (λ (d : Chip). d ≡ c) refl (λ t. refl)
pixel_stays (signals s) c e = clash (sym e)
pixel_stays resets c e = clash (sym e)
pixel_stays (looks place) c e = clash (sym e)

signals_stay : (k : Call) (c : Chip) → is_signals k ≡ true → (called k c).left ≡ c
signals_stay (writes select byte) c e = clash (sym e)
signals_stay (reads select) c e = clash (sym e)
signals_stay (blanks slots) c e = clash (sym e)
signals_stay (pixels mode word) c e = clash (sym e)
signals_stay (signals s) c e = called_holds refusals does (signals s) c (λ (d : Chip). d ≡ c) refl (λ t. refl)
signals_stay resets c e = clash (sym e)
signals_stay (looks place) c e = clash (sym e)

pub look_stays : (k : Call) (c : Chip) → is_look k ≡ true → (called k c).left ≡ c
look_stays (writes select byte) c e = clash (sym e)
look_stays (reads select) c e = clash (sym e)
look_stays (blanks slots) c e = clash (sym e)
look_stays (pixels mode word) c e = clash (sym e)
look_stays (signals s) c e = clash (sym e)
look_stays resets c e = clash (sym e)
look_stays (looks place) c e =
    called_holds refusals does (looks place) c (λ (d : Chip). d ≡ c) refl (λ t. look_leaves place c)

-- pixels and signals are what the chip calls so
pub pixels_named : (mode word : ℕ) → is_pixel (pixels mode word) ≡ true
pixels_named mode word = refl

pub signals_named : (s : ℕ) → is_signals (signals s) ≡ true
signals_named s = refl

pub pixels_unnoticed : Unnoticed called is_pixel
pixels_unnoticed = unnoticed called is_pixel pixel_stays

pub signals_unnoticed : Unnoticed called is_signals
signals_unnoticed = unnoticed called is_signals signals_stay

pub looks_unnoticed : Unnoticed called is_look
looks_unnoticed = unnoticed called is_look look_stays

-- AN ACCEPTED CALL leaves the lent places as they should be
abbrev pub InOrder : Chip → Type 0
InOrder c = (c.lent.places ≡ 64) × (c.lent.first < 64)

in_order : (k : Call) (c : Chip) → Holds (lengths c) → Holds (ranges c) → InOrder (called k c).left
in_order k c l r = let h = called_keeps_range k c (in_range_lem c l r) in (h.places, h.first)

pub accepted_in_order : (k : Call) (c : Chip) → (called k c).refusal ≡ 0 → InOrder (called k c).left
accepted_in_order (writes select byte) c a =
    let t = called_clear refusals does (writes select byte) c a in
    in_order (writes select byte) c (passes_holds _ t.0) (passes_holds (below byte 256 ∷ ranges c) t.1.0).1
accepted_in_order (reads select) c a =
    let t = called_clear refusals does (reads select) c a in
    in_order (reads select) c (passes_holds _ t.0) (passes_holds (ranges c) t.1.0)
accepted_in_order (blanks slots) c a =
    let t = called_clear refusals does (blanks slots) c a in
    in_order (blanks slots) c (passes_holds _ t.0) (passes_holds (below slots 65536 ∷ ranges c) t.1.0).1
accepted_in_order (pixels mode word) c a =
    let t = called_clear refusals does (pixels mode word) c a in
    in_order (pixels mode word) c (passes_holds _ t.0)
    (passes_holds (below mode 4 ∷ below word (2 ^ 24) ∷ ranges c) t.1.0).1.1
accepted_in_order (signals s) c a =
    let t = called_clear refusals does (signals s) c a in
    let r = (passes_holds (below s 16 ∷ ranges c) t.1.0).1 in
    subst InOrder (sym (signals_stay (signals s) c refl)) ((passes_holds (queue_lengths c) t.0).0, search)
accepted_in_order resets c a =
    let t = called_clear refusals does resets c a in
    subst (λ (o : Outcome Chip). InOrder o.left) (sym (called_does refusals does resets c a))
    ((passes_holds (queue_lengths c) t.0).0, omega arith)
accepted_in_order (looks place) c a =
    let t = called_clear refusals does (looks place) c a in
    in_order (looks place) c (passes_holds _ t.0) (passes_holds (ranges c) t.1.0)

-- ---- What is done where nothing is refused gives no refusal itself
access_accepts : (r : Register) (byte : ℕ) (c : Chip) → ((written r byte c).refusal ≡ 0) × ((answers r c).refusal ≡ 0)
unfolding written answers
access_accepts address_low byte c = (refl, refl)
access_accepts address_high byte c = (refl, refl)
access_accepts palette byte c = (refl, refl)
access_accepts command byte c = (refl, refl)
access_accepts status byte c = (refl, refl)
access_accepts buffer byte c = (refl, refl)
access_accepts revision byte c = (refl, refl)
access_accepts initialization byte c = (refl, refl)
access_accepts none byte c = (refl, refl)

pub does_accepts : (k : Call) (c : Chip) → (does k c).refusal ≡ 0
does_accepts (writes select byte) c = (access_accepts (register_at select) byte c).0
does_accepts (reads select) c = (access_accepts (register_at select) 0 c).1
does_accepts (blanks slots) c = refl
does_accepts (pixels mode word) c = refl
does_accepts (signals s) c = refl
does_accepts resets c = refl
does_accepts (looks place) c = refl
