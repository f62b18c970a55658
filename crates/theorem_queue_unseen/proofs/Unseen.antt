-- THE THEOREM: the queue can't be seen. A run's settled map by induction over its calls. Assumes nothing.
use Prim.Native.Nat.{ℕ, zero, suc, ◌+◌, ◌*◌, ◌<◌}
use mathlib.Core.Path.{◌≡◌, refl, sym, ap, ◌∙◌}
use mathlib.Core.Bool.{true}
use mathlib.Core.List.{List, [], ◌∷◌}
use native.Mathlib.Omega.{arith}
use borrow.Author.Tests.{eqb-true, eqb-false}
use lib.Dec.{eqb}
use lib.ListN.{length, get_or}
use Rattle.vocabulary.specs.Component.{Component, red, green, blue, component_at, part, one_of}
use Rattle.vocabulary.specs.Outcome.{Outcome}
use Rattle.vocabulary.specs.Run.{after, gathered, Along, Accepted}
use Rattle.vocabulary.proofs.Choice.{cases}
use Rattle.vocabulary.proofs.Face.{called_does}
use Rattle.vocabulary.proofs.Range.{clash}
use Rattle.ms622424.specs.Ms622424.{Chip, Entry, all_stored, gun_shown, refusals, does, called}
use Rattle.ms622424.specs.Ms622424.{Call, writes, reads, blanks, pixels, signals, resets, looks}
use Rattle.ms622424.proofs.Moves.{all_stored_length, all_stored_append}
use Rattle.ms622424.proofs.Pixel.{shown_in_map}
use Rattle.theorem_queue_unseen.specs.Unseen.{is_reset, NoReset, completed_by, completed_in, settled, immediate}
use Rattle.theorem_queue_unseen.specs.Unseen.{last_for, byte_at, byte_of, are_bytes, gun_entry, colour_shown}
use Rattle.theorem_queue_unseen.specs.Unseen.{ReadsNoWaiting, component, QueueUnseen}
use Rattle.theorem_queue_unseen.proofs.Settled.{call_settled}
use Rattle.theorem_queue_unseen.proofs.Shown.{settled_empty, shown_entry_lem, pixel_range, pixel_shown}
use Rattle.theorem_queue_unseen.proofs.Shown.{read_range, read_component}
use Rattle.theorem_queue_unseen.proofs.Stored.{all_found}
use Rattle.theorem_queue_unseen.proofs.ShownBytes.{byte_at_lem, word_byte}
use Rattle.theorem_queue_unseen.proofs.Short.{short_run}

-- ---- a run
pub run_settled : (calls : List Call) (c : Chip) → NoReset calls c
    → settled (after called calls c) ≡ all_stored (completed_in calls c) (settled c)
unfolding after Along gathered all_stored
run_settled [] c h = refl
run_settled (k ∷ calls) c (h, hs) =
    let d = (called k c).left in
    run_settled calls d hs
    ∙ (ap (all_stored (completed_in calls d)) (call_settled k c h)
    ∙ sym (all_stored_append (completed_by k c) (completed_in calls d) (settled c)))

-- the same byte by byte, said without storing: what stands at an address changes by the last completed colour for it
pub run_found : (calls : List Call) (c : Chip) (a : ℕ) (k : Component) → NoReset calls c → length c.map ≡ 24576
    → a < 8192
    → let now = after called calls c in
    byte_at a k now.waiting now.map ≡ last_for a k (completed_in calls c) (byte_at a k c.waiting c.map)
unfolding settled
run_found calls c a k h l low =
    let now = after called calls c in
    let done = completed_in calls c in
    let run = run_settled calls c h in
    let ls = all_stored_length c.waiting c.map in
    let ln = sym (all_stored_length now.waiting now.map) ∙ (ap (λ (m : List ℕ). length m) run
    ∙ all_stored_length done (settled c)) in
    sym (all_found now.waiting now.map a k (omega (arith, l, ls, ln)))
    ∙ (ap (λ (m : List ℕ). get_or m (3 * a + part k) 0) run
    ∙ (all_found done (settled c) a k (omega (arith, l, ls))
    ∙ ap (last_for a k done) (all_found c.waiting c.map a k (omega (arith, l)))))

-- ---- just after an accepted reset nothing waits
reset_empty : (k : Call) (c : Chip) → is_reset k ≡ true → Accepted called k c → (called k c).left.waiting ≡ []
reset_empty (writes select byte) c e a = clash (sym e)
reset_empty (reads select) c e a = clash (sym e)
reset_empty (blanks slots) c e a = clash (sym e)
reset_empty (pixels mode word) c e a = clash (sym e)
reset_empty (signals s) c e a = clash (sym e)
reset_empty (looks place) c e a = clash (sym e)
reset_empty resets c e a = ap (λ (o : Outcome Chip). o.left.waiting) (called_does refusals does resets c a)

-- ---- a component's own, and its number
pub one_of_lem : (k : Component) (f : Component → ℕ) → one_of k (f red) (f green) (f blue) ≡ f k
one_of_lem red f = refl
one_of_lem green f = refl
one_of_lem blue f = refl

part_at : (n : ℕ) → n < 3 → part (component_at n) ≡ n
unfolding component_at
part_at zero h = refl
part_at (suc zero) h = refl
part_at (suc (suc zero)) h = refl
part_at (suc (suc (suc n))) h = absurd (omega arith)

-- ---- Demand 3, from a start where nothing waits
module _ (start : Chip) (calls : List Call) (h : NoReset calls start) (empty : start.waiting ≡ []) where
  abbrev now : Chip
  now = after called calls start

  settles : settled now ≡ immediate calls start
  unfolding immediate
  settles = run_settled calls start h ∙ ap (all_stored (completed_in calls start)) (settled_empty start empty)

  length_same : length now.map ≡ length start.map
  unfolding settled immediate
  length_same =
      sym (all_stored_length now.waiting now.map)
      ∙ (ap (λ (m : List ℕ). length m) settles ∙ all_stored_length (completed_in calls start) start.map)

  -- the immediate map, byte by byte
  immediate_found : (a : ℕ) (k : Component) → a < 8192 → length start.map ≡ 24576
      → get_or (immediate calls start) (3 * a + part k) 0 ≡ byte_at a k (completed_in calls start) start.map
  unfolding immediate
  immediate_found a k low l = all_found (completed_in calls start) start.map a k (omega arith)

  last_same : (a : ℕ) (k : Component) → a < 8192
      → byte_at a k now.waiting now.map ≡ byte_at a k (completed_in calls start) start.map
  unfolding last_for
  last_same a k low =
      cases (eqb (length start.map) 24576)
      (λ e.
      run_found calls start a k h (eqb-true (length start.map) 24576 e) low
      ∙ ap (λ (es : List Entry). last_for a k (completed_in calls start) (byte_at a k es start.map)) empty)
      (λ e.
      let (same, none) = short_run calls start (eqb-false (length start.map) 24576 e) h in
      rw (same, none, empty) refl)

  pixel_same : (mode word : ℕ) → Accepted called (pixels mode word) now → ReadsNoWaiting mode word now
      → (called (pixels mode word) now).value ≡ colour_shown mode word (immediate calls start)
  pixel_same mode word p w = pixel_shown mode word now p w ∙ ap (colour_shown mode word) settles

  -- of an accepted pixel: each gun's byte is the immediate map's, so it is a byte, and one of the value's
  module _ (mode word : ℕ) (p : Accepted called (pixels mode word) now) where
    whole : length start.map ≡ 24576
    whole = sym length_same ∙ (pixel_range mode word now p).0.size

    entry_low : (k : Component) → gun_entry mode word k < 8192
    entry_low k =
        let (_, (m, w)) = pixel_range mode word now p in
        let low = shown_in_map mode word k m w in
        let same = shown_entry_lem mode word k m w in
        omega arith

    gun_found : (k : Component)
        → gun_shown mode word (immediate calls start) k
        ≡ byte_at (gun_entry mode word k) k (completed_in calls start) start.map
    unfolding gun_shown
    gun_found k =
        let (_, (m, w)) = pixel_range mode word now p in
        ap (λ (e : ℕ). get_or (immediate calls start) (3 * e + part k) 0) (shown_entry_lem mode word k m w)
        ∙ immediate_found (gun_entry mode word k) k (entry_low k) whole

    gun_byte : are_bytes start.map ≡ true → (k : Component) → gun_shown mode word (immediate calls start) k < 256
    gun_byte b k =
        let low = entry_low k in
        let l = whole in
        rw (gun_found k) (byte_at_lem calls start start.map (gun_entry mode word k) k b (omega arith))

    gun_same : ReadsNoWaiting mode word now → are_bytes start.map ≡ true → (k : Component)
        → byte_of k (called (pixels mode word) now).value
        ≡ byte_at (gun_entry mode word k) k (completed_in calls start) start.map
    unfolding colour_shown
    gun_same w b k =
        let gun = gun_shown mode word (immediate calls start) in
        ap (byte_of k) (pixel_same mode word p w)
        ∙ (word_byte k (gun red) (gun green) (gun blue) (gun_byte b red) (gun_byte b green) (gun_byte b blue)
        ∙ (one_of_lem k gun ∙ gun_found k))

  read_same : Accepted called (reads 2) now
      → (called (reads 2) now).value
      ≡ byte_at now.port.address (component_at now.port.counter) (completed_in calls start) start.map
  unfolding component
  read_same p =
      let r = read_range now p in
      read_component now p
      ∙ (ap (component now.port) settles
      ∙ (ap (λ (i : ℕ). get_or (immediate calls start) (3 * now.port.address + i) 0)
      (sym (part_at now.port.counter r.counter))
      ∙ immediate_found now.port.address (component_at now.port.counter) r.address
      (sym length_same ∙ r.size)))

pub unseen : QueueUnseen
unseen before reset calls r a h =
    let start = (called reset before).left in
    let empty = reset_empty reset before r a in
    record {
      map_settles = settles start calls h empty;
      length_stays = length_same start calls h empty;
      last_settles = last_same start calls h empty;
      pixel_shows = pixel_same start calls h empty;
      pixel_guns = gun_same start calls h empty;
      read_answers = λ p. read_component _ p ∙ ap (component _) (settles start calls h empty);
      read_last = read_same start calls h empty;
    }
