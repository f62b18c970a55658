-- What the reading back rules out: two wrong chips in place of B, each of which a statement in the chip's own storing
-- would let pass. Assumes nothing.
use Prim.Native.Nat.{ℕ, ◌+◌, ◌*◌, ◌<◌}
use mathlib.Core.Path.{◌≡◌, refl, sym, ap, subst, ◌∙◌}
use mathlib.Core.Bool.{false}
use mathlib.Core.List.{List, [], ◌∷◌, ◌++◌, map, map-append}
use native.Mathlib.Omega.{arith}
use borrow.Author.Tests.{eq-eqb}
use lib.Dec.{eqb}
use lib.ListN.{length, get_or, take}
use lib.Seq.{take_all}
use Rattle.vocabulary.specs.Choice.{pick}
use Rattle.vocabulary.specs.Component.{Component, red, part, one_of}
use Rattle.vocabulary.specs.Outcome.{Outcome}
use Rattle.vocabulary.specs.Run.{after, Keeps}
use Rattle.vocabulary.proofs.Choice.{cases, picks_first, picks_second}
use Rattle.vocabulary.proofs.Range.{clash}
use Rattle.ms622424.specs.Ms622424.{Chip, Entry, InRange, complete, taken}
use Rattle.ms622424.specs.Ms622424.{Call, writes, reads, blanks, pixels, signals, resets, looks, called}
use Rattle.ms622424.proofs.Kept.{called_keeps_range}
use Rattle.ms622424.proofs.Moves.{all_stored_length}
use Rattle.theorem_queue_unseen.specs.Unseen.{last_for, byte_at}
use Rattle.theorem_queue_unseen.proofs.Stored.{all_found, last_append}
use Rattle.theorem_premises.specs.Premises.{zeros}
use Rattle.theorem_premises.proofs.Premises.{zeros_in_range}
use Rattle.theorem_read_back.specs.ReadBackB.{storing, ReadsBack}
use Rattle.theorem_read_back.specs.WrongB.{moves_colours, spoilt, exchanged, storing_exchanged}
use Rattle.theorem_read_back.proofs.ReadBackB.{blanks_all, full, full_range, older, full_waits, leads}
use Rattle.theorem_read_back.proofs.Held.{must_hold}

-- ---- Wrong chips: B's own calls, but for what an accepted blanking leaves in the map
module _ (leaves : ℕ → Chip → List ℕ) (sized : (slots : ℕ) (c : Chip) → length (leaves slots c) ≡ length c.map) where
  spoilt_keeps : Keeps (spoilt leaves) InRange
  unfolding spoilt
  spoilt_keeps (writes select byte) c h = called_keeps_range (writes select byte) c h
  spoilt_keeps (reads select) c h = called_keeps_range (reads select) c h
  spoilt_keeps (blanks slots) c h =
      let range = called_keeps_range (blanks slots) c h in
      let size : length (pick (eqb (called (blanks slots) c).refusal 0) (leaves slots c) c.map) ≡ 24576 =
      cases (eqb (called (blanks slots) c).refusal 0)
      (λ e. ap (λ (m : List ℕ). length m) (picks_first _ _ e) ∙ (sized slots c ∙ h.size))
      (λ e. ap (λ (m : List ℕ). length m) (picks_second _ _ e) ∙ h.size) in
      search
  spoilt_keeps (pixels mode word) c h = called_keeps_range (pixels mode word) c h
  spoilt_keeps (signals s) c h = called_keeps_range (signals s) c h
  spoilt_keeps resets c h = called_keeps_range resets c h
  spoilt_keeps (looks place) c h = called_keeps_range (looks place) c h

  spoilt_own : (k : Call) (c : Chip) → moves_colours k ≡ false → spoilt leaves k c ≡ called k c
  unfolding spoilt
  spoilt_own (writes select byte) c e = refl
  spoilt_own (reads select) c e = refl
  spoilt_own (blanks slots) c e = clash e
  spoilt_own (pixels mode word) c e = refl
  spoilt_own (signals s) c e = refl
  spoilt_own resets c e = refl
  spoilt_own (looks place) c e = refl

  -- what blanking leaves after a colour was written has its bytes, each at its own gun
  module _ (back : ReadsBack (spoilt leaves)) (c : Chip) (x : InRange c) (a r g b : ℕ) (ha : a < 8192) (hr : r < 256)
      (hg : g < 256) (hb : b < 256) where
    abbrev waits : Chip
    waits = full c x a r g b ha hr hg hb

    spoilt_must : (k : Component) → get_or (leaves 64 waits) (3 * a + part k) 0 ≡ one_of k r g b
    unfolding spoilt after
    spoilt_must k =
        let stored = after called (storing a r g b) c in
        let e : stored ≡ waits = leads c x a r g b ha hr hg hb in
        let y = subst InRange (sym e) (full_range c x a r g b ha hr hg hb) in
        let few = y.few in
        let all = blanks_all stored y 64 (omega arith) (omega arith) in
        let accepted = ap (λ (o : Outcome Chip). eqb o.refusal 0) all in
        ap (λ (d : Chip). get_or (leaves 64 d) (3 * a + part k) 0) (sym e)
        ∙ (ap (λ (m : List ℕ). get_or m (3 * a + part k) 0) (sym (picks_first _ _ accepted))
        ∙ must_hold (spoilt leaves) back spoilt_keeps spoilt_own c x a r g b ha hr hg hb k)

-- A TRANSFER THAT STORES NOTHING is refused: the same map would have to hold two different bytes
pub nothing_stored : ReadsBack (spoilt (λ slots c. c.map)) → ⊥
unfolding taken complete
nothing_stored back =
    let low : 0 < 8192 = omega arith in
    let byte : 1 < 256 = omega arith in
    let none : 0 < 256 = omega arith in
    let dark = spoilt_must _ (λ slots c. refl) back zeros zeros_in_range 0 0 0 0 low none none none red in
    let bright = spoilt_must _ (λ slots c. refl) back zeros zeros_in_range 0 1 0 0 low byte none none red in
    let z : ◌≡◌ {A = ℕ} 0 1 = sym dark ∙ bright in
    omega arith

-- ONE THAT EXCHANGES THE GUNS is refused: red's place would have to hold red, and holds blue
exchanged_size : (slots : ℕ) (c : Chip) → length (storing_exchanged slots c) ≡ length c.map
exchanged_size slots c = all_stored_length (map exchanged (take slots c.waiting)) c.map

last_exchanged : (c : Chip) (es : List Entry) (e : Entry) → InRange c → e.address < 8192
    → c.waiting ≡ es ++ (e ∷ []) → get_or (storing_exchanged 64 c) (3 * e.address + part red) 0 ≡ e.blue
unfolding last_for
last_exchanged c es e h low w =
    let few = h.few in
    let size = h.size in
    let all : take 64 c.waiting ≡ es ++ (e ∷ []) = take_all 64 c.waiting (omega arith) ∙ w in
    rw all
    (all_found (map exchanged (es ++ (e ∷ []))) c.map e.address red (omega arith)
    ∙ (ap (λ (l : List Entry). byte_at e.address red l c.map) (map-append exchanged es (e ∷ []))
    ∙ (last_append (map exchanged es) (exchanged e ∷ []) e.address red _
    ∙ picks_first e.blue _ (eq-eqb e.address e.address refl))))

exchanged_red : (c : Chip) (x : InRange c) (a r g b : ℕ) (ha : a < 8192) (hr : r < 256) (hg : g < 256) (hb : b < 256)
    → get_or (storing_exchanged 64 (full c x a r g b ha hr hg hb)) (3 * a + part red) 0 ≡ b
exchanged_red c x a r g b ha hr hg hb =
    last_exchanged (full c x a r g b ha hr hg hb) (older c x a r g b ha hr hg hb)
    (record { address = a; red = r; green = g; blue = b }) (full_range c x a r g b ha hr hg hb) ha
    (full_waits c x a r g b ha hr hg hb)

pub guns_exchanged : ReadsBack (spoilt storing_exchanged) → ⊥
guns_exchanged back =
    let low : 0 < 8192 = omega arith in
    let byte : 1 < 256 = omega arith in
    let none : 0 < 256 = omega arith in
    let must = spoilt_must storing_exchanged exchanged_size back zeros zeros_in_range 0 1 0 0 low byte none none red in
    let is_blue = exchanged_red zeros zeros_in_range 0 1 0 0 low byte none none in
    let z : ◌≡◌ {A = ℕ} 0 1 = sym is_blue ∙ must in
    omega arith
