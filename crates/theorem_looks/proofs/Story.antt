-- The bench tool's story: with looks the colour is the panel's, and with a read of the address it is torn. Assumes
-- nothing.
use Prim.Native.Nat.{ℕ, ◌+◌, ◌*◌, ◌<◌, ◌≤◌}
use mathlib.Core.Path.{◌≡◌, refl, sym, ap, subst, ◌∙◌}
use mathlib.Core.List.{List, [], ◌∷◌}
use native.Mathlib.Omega.{arith}
use lib.ListN.{length}
use Rattle.vocabulary.specs.Choice.{pick}
use Rattle.vocabulary.specs.Outcome.{Outcome, accepting}
use Rattle.vocabulary.specs.Run.{besides, after}
use Rattle.vocabulary.proofs.Run.{after_none, after_next}
use Rattle.hd153108.specs.Hd153108.{Chip, colour, register_at, nibble, data_write, written, answers, InRange, writes}
use Rattle.hd153108.specs.Hd153108.{reads, looks, is_look, Call, does, called}
use Rattle.hd153108.proofs.Access.{Access, writing, reading, Served, select_of, access_goes}
use Rattle.hd153108.proofs.Data.{at, red_write, green_write, latches_shared}
use Rattle.hd153108.proofs.Keep.{called_keeps_range, looks_unnoticed}
use Rattle.hd153108.proofs.Look.{look_state}
use Rattle.theorem_load.proofs.Tables.{put_same, put_other}
use Rattle.theorem_looks.specs.Looks.{colour_calls, Stored, Torn, Story, Stories}

-- an access that is accepted: the chip that it leaves, which is in range too
goes : (k : Call) (c : Chip) {d : Chip} → Access k → Served (select_of k) → InRange c → (does k c).left ≡ d
    → ((called k c).left ≡ d) × InRange d
goes k c u h g e =
    let left = ap (λ (o : Outcome Chip). o.left) (sym (access_goes c g u h)) ∙ e in
    (left, subst InRange left (called_keeps_range k c g))

module _ (address r g b : ℕ) (c : Chip) (range : InRange c) (ha : address < 256) (hr : r < 256) (hg : g < 256)
    (hb : b < 256) where
  -- after the address, and after red
  c1 : Chip
  c1 = at c address 0 c.state.red c.state.green

  c2 : Chip
  c2 = at c address 1 (nibble r) c.state.green

  to_c1 : ((called (writes 0 address) c).left ≡ c1) × InRange c1
  unfolding register_at written c1
  to_c1 = goes (writes 0 address) c (writing ha) refl range refl

  byte_goes : (x : ℕ) (d : Chip) {e : Chip} → x < 256 → InRange d → data_write colour x d ≡ e
      → ((called (writes 1 x) d).left ≡ e) × InRange e
  unfolding register_at written
  byte_goes x d h i e = goes (writes 1 x) d (writing h) refl i e

  to_c2 : ((called (writes 1 r) c1).left ≡ c2) × InRange c2
  unfolding c1 c2
  to_c2 = byte_goes r c1 hr to_c1.1 (red_write colour r c1 refl)

  -- ---- the panel's four calls
  stored : Chip
  stored = data_write colour b (data_write colour g (data_write colour r c1))

  four_calls : after called (colour_calls address r g b) c ≡ stored
  unfolding stored
  four_calls =
      let d2 = data_write colour r c1 in
      let d3 = data_write colour g d2 in
      let (l1, i1) = to_c1 in
      let (l2, i2) = byte_goes r c1 {e = d2} hr i1 refl in
      let (l3, i3) = byte_goes g d2 {e = d3} hg i2 refl in
      let (l4, _) = byte_goes b d3 hb i3 refl in
      after_next called _ _ c l1
      ∙ (after_next called _ _ c1 l2
      ∙ (after_next called _ _ d2 l3 ∙ (after_next called _ _ d3 l4 ∙ after_none called _)))

  entry_stored : Stored address r g b c stored
  unfolding stored c1
  entry_stored =
      let e = latches_shared colour colour colour r g b c1 refl in
      let room : 3 * address + 3 ≤ length c.colours = omega (arith, range.colours) in
      rw e (record {
        entry = put_same address (nibble r) (nibble g) (nibble b) c.colours room;
        others = λ n d. put_other address (nibble r) (nibble g) (nibble b) c.colours n d;
      })

  with_looks : (run : List Call) → besides is_look run ≡ colour_calls address r g b
      → Stored address r g b c (after called run c)
  unfolding besides pick
  with_looks run e =
      subst (Stored address r g b c)
      (sym (looks_unnoticed.ends run (colour_calls address r g b) c e ∙ four_calls)) entry_stored

  -- ---- a look at the address, after red
  look_answers : called (looks 0) c2 ≡ accepting address 0 c2
  unfolding c2
  look_answers = (look_state c2 to_c2.1).0

  -- ---- a read of the address in its place
  torn : Torn g b c (after called (writes 0 address ∷ writes 1 r ∷ reads 0 ∷ writes 1 g ∷ writes 1 b ∷ []) c)
  unfolding register_at answers c2
  torn =
      let (l1, _) = to_c1 in
      let (l2, i2) = to_c2 in
      let d3 = at c address 0 (nibble r) c.state.green in
      let d4 = at c address 1 (nibble g) c.state.green in
      let (l3, i3) = goes (reads 0) c2 {d = d3} reading refl i2 refl in
      let (l4, i4) = byte_goes g d3 hg i3 (red_write colour g d3 refl) in
      let (l5, _) = byte_goes b d4 hb i4 (green_write colour b d4 refl) in
      subst (Torn g b c)
      (sym (after_next called _ _ c l1
      ∙ (after_next called _ _ c1 l2
      ∙ (after_next called _ _ c2 l3
      ∙ (after_next called _ _ d3 l4 ∙ (after_next called _ _ d4 l5 ∙ after_none called _))))))
      (record { colours = refl; red = refl; green = refl })

  tells_after : let d = after called (writes 0 address ∷ writes 1 r ∷ []) c in
      called (looks 0) d ≡ accepting address 0 d
  tells_after =
      subst (λ (d : Chip). called (looks 0) d ≡ accepting address 0 d)
      (sym (after_next called _ _ c to_c1.0 ∙ (after_next called _ _ c1 to_c2.0 ∙ after_none called c2)))
      look_answers

  pub story : Story address r g b c
  unfolding besides pick
  story = record {
    looked = with_looks (writes 0 address ∷ writes 1 r ∷ looks 0 ∷ writes 1 g ∷ writes 1 b ∷ []) refl;
    tells = tells_after;
    read = torn;
    anywhere = with_looks;
  }

pub stories : Stories
stories address r g b c range ha hr hg hb = story address r g b c range ha hr hg hb
