-- What the reading back asks of any chip that one would put in place of B: a written colour's bytes are in the map
-- after blanking, each at its own gun. Assumes nothing.
use Prim.Native.Nat.{ℕ, ◌+◌, ◌*◌, ◌/◌, ◌<◌}
use mathlib.Core.Path.{◌≡◌, refl, sym, ap, ◌∙◌}
use mathlib.Core.Bool.{true, false, not}
use mathlib.Core.List.{List, [], ◌∷◌, ◌++◌}
use native.Mathlib.Omega.{arith}
use borrow.Author.Tests.{not-true}
use lib.ListN.{get_or, drop}
use Rattle.vocabulary.specs.Component.{Component, red, green, blue, part, one_of}
use Rattle.vocabulary.specs.Every.{every}
use Rattle.vocabulary.specs.Outcome.{Outcome}
use Rattle.vocabulary.specs.Reply.{Reply, telling}
use Rattle.vocabulary.specs.Run.{after, gathered, Along, replies, Keeps}
use Rattle.vocabulary.proofs.Range.{both}
use Rattle.vocabulary.proofs.Run.{run_keeps}
use Rattle.ms622424.specs.Ms622424.{Chip, InRange, control, with_control, written}
use Rattle.ms622424.specs.Ms622424.{Call, writes, reads, blanks, called}
use Rattle.theorem_queue_unseen.proofs.Accepting.{initialized}
use Rattle.theorem_queue_unseen.proofs.Shown.{read_waiting}
use Rattle.theorem_queue_unseen.proofs.Unseen.{one_of_lem}
use Rattle.theorem_read_back.specs.Told.{tells}
use Rattle.theorem_read_back.specs.WrongB.{moves_colours}
use Rattle.theorem_read_back.specs.ReadBackB.{pointing, storing, ReadsBack}
use Rattle.theorem_read_back.proofs.Told.{told_next, heard}
use Rattle.theorem_read_back.proofs.StoreB.{kept, pointed, pointed_range, first_half, second_half}
use Rattle.theorem_read_back.proofs.ReadBackB.{recalls}

abbrev three_reads : List Call
three_reads = reads 2 ∷ reads 2 ∷ reads 2 ∷ []

-- a chip that meets it, keeps its ranges, and whose other calls are B's own
module _ (step : Call → Chip → Outcome Chip) (back : ReadsBack step) (keeps : Keeps step InRange)
    (own : (k : Call) (c : Chip) → moves_colours k ≡ false → step k c ≡ called k c) where
  own_replies : (ks : List Call) (c : Chip) → every (λ (k : Call). not (moves_colours k)) ks ≡ true
      → replies step ks c ≡ replies called ks c
  unfolding gathered every
  own_replies [] c h = refl
  own_replies (k ∷ ks) c h =
      let t = both (not (moves_colours k)) _ h in
      ap (λ (o : Outcome Chip). telling o ∷ replies step ks o.left) (own k c (not-true _ t.0))
      ∙ ap (λ (l : List Reply). telling (called k c) ∷ l) (own_replies ks (called k c).left t.1)

  module _ (c : Chip) (x : InRange c) (a r g b : ℕ) (ha : a < 8192) (hr : r < 256) (hg : g < 256) (hb : b < 256) where
    abbrev stored : Chip
    stored = after step (storing a r g b) c

    stored_range : InRange stored
    stored_range = run_keeps step InRange keeps (storing a r g b) c x

    abbrev blanked : Chip
    blanked = (step (blanks 64) stored).left

    blanked_range : InRange blanked
    blanked_range = keeps (blanks 64) stored stored_range

    abbrev reading : Chip
    reading = with_control (control blanked.control.command 1) blanked

    reading_range : InRange reading
    unfolding written
    reading_range = kept _ blanked_range (initialized blanked blanked_range)

    -- what the three reads tell
    told : replies called three_reads (pointed reading reading_range a ha) ≡ tells r ∷ tells g ∷ tells b ∷ []
    unfolding gathered after Along written every
    told =
        let few = stored_range.few in
        let all = (back c x a r g b ha hr hg hb [] 64 tt (omega arith) (omega arith)).1 in
        let mine = own_replies (writes 7 0 ∷ (pointing a ++ three_reads)) blanked refl in
        let ahead = told_next called (pointing a ++ three_reads) (initialized blanked blanked_range) in
        let low = told_next called (writes 1 (a / 256) ∷ three_reads) (first_half reading reading_range a ha) in
        let high = told_next called three_reads (second_half reading reading_range a ha) in
        sym (ap (drop 1) high)
        ∙ (sym (ap (drop 2) low) ∙ (sym (ap (drop 3) ahead) ∙ (sym (ap (drop 3) mine) ∙ ap (drop 4) all)))

    pub must_hold : (k : Component) → get_or blanked.map (3 * a + part k) 0 ≡ one_of k r g b
    unfolding gathered
    must_hold k =
        let p = pointed reading reading_range a ha in
        let first = ap (λ (l : List Reply). (get_or l 0 (tells 0)).refusal) told in
        let byte : Component → ℕ = λ j. get_or blanked.map (3 * a + part j) 0 in
        let range = pointed_range reading reading_range a ha in
        let answered =
        heard called (recalls p range refl (read_waiting p first) refl (λ j. sym (one_of_lem j byte))) in
        let same = sym answered ∙ told in
        let value : ℕ → List Reply → ℕ = λ n l. (get_or l n (tells 0)).value in
        let er : byte red ≡ r = ap (value 0) same in
        let eg : byte green ≡ g = ap (value 1) same in
        let eb : byte blue ≡ b = ap (value 2) same in
        sym (one_of_lem k byte) ∙ rw (er, eg, eb) refl
