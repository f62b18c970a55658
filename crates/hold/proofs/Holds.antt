-- A byte more in the hold, with room and without; and, with room for 16 bytes, what is held of a line. Assumes nothing.
use Prim.Native.Nat.{ℕ, ◌+◌, ◌≤◌, ◌<◌}
use mathlib.Core.Path.{◌≡◌, refl, sym, ap, ◌∙◌}
use mathlib.Core.List.{List, [], ◌∷◌, ◌++◌, append-nil}
use native.Mathlib.Numerals.{add-one}
use native.Mathlib.Omega.{arith}
use lib.Dec.{ltb}
use lib.ListN.{length, take, set, length-set, length-append, length-take}
use lib.Seq.{length-take-le, take_all, take-append-le, take-suc-set, append_snoc}
use borrow.Author.Tests.{lt-ltb, le-ltb, ltb-true, ltb-false}
use Rattle.vocabulary.proofs.Choice.{picks_first, picks_second, cases}
use Rattle.hold.specs.Hold.{Hold, hold, held, holding, holding_all}

module _ (b : ℕ) (bytes : List ℕ) (len : ℕ) where
  pub holds_room : len < length bytes → hold (set bytes len b) (len + 1) ≡ holding b (hold bytes len)
  unfolding holding
  holds_room h = sym (picks_first _ _ (lt-ltb len (length bytes) h))

  pub holds_full : length bytes ≤ len → hold bytes len ≡ holding b (hold bytes len)
  unfolding holding
  holds_full h = sym (picks_second _ _ (le-ltb len (length bytes) h))

-- bytes behind bytes
pub holding_more : (xs ys : List ℕ) (h : Hold) → holding_all (xs ++ ys) h ≡ holding_all ys (holding_all xs h)
unfolding holding_all
holding_more [] ys h = refl
holding_more (x ∷ xs) ys h = holding_more xs ys (holding x h)

-- the first 16 bytes of a line
pub record Reading (line : List ℕ) (h : Hold) : Type 0 where
  pub room : length h.bytes ≡ 16
  pub inside : h.len ≤ 16
  pub first : held h ≡ take 16 line

-- a byte more of the line, with room and without
module _ (b : ℕ) (line : List ℕ) (h : Hold) (r : Reading line h) where
  size : length (take 16 line) ≡ h.len
  size =
      let i = r.inside in
      let m = r.room in
      sym (ap length r.first) ∙ length-take-le h.len h.bytes (omega arith)

  reads_room : h.len < 16 → Reading (line ++ b ∷ []) (holding b h)
  reads_room g =
      let m = r.room in
      let all : length line ≡ h.len = let n = sym (length-take 16 line) ∙ size in omega arith in
      let more : length (line ++ b ∷ []) ≤ 16 = rw (length-append line (b ∷ [])) (omega arith) in
      let is : take (h.len + 1) (set h.bytes h.len b) ≡ take 16 (line ++ b ∷ []) =
      rw add-one (take-suc-set h.bytes h.len b (omega arith))
      ∙ ap (λ (l : List ℕ). l ++ b ∷ []) (r.first ∙ take_all 16 line (omega arith))
      ∙ sym (take_all 16 (line ++ b ∷ []) more) in
      rw (sym (holds_room b h.bytes h.len (omega arith))) (record {
        room = length-set h.bytes h.len b ∙ m;
        inside = omega arith;
        first = is;
      })

  reads_full : 16 ≤ h.len → Reading (line ++ b ∷ []) (holding b h)
  reads_full g =
      let m = r.room in
      let long : 16 ≤ length line = let n = sym (length-take 16 line) ∙ size in omega arith in
      rw (sym (holds_full b h.bytes h.len (omega arith))) (record {
        room = m;
        inside = r.inside;
        first = r.first ∙ sym (take-append-le 16 line (b ∷ []) long);
      })

  reads_byte : Reading (line ++ b ∷ []) (holding b h)
  reads_byte =
      cases (ltb h.len 16) (λ e. reads_room (ltb-true h.len 16 e)) (λ e. reads_full (ltb-false h.len 16 e))

pub reads : (bs line : List ℕ) (h : Hold) → Reading line h → Reading (line ++ bs) (holding_all bs h)
unfolding holding_all
reads [] line h r = rw append-nil r
reads (b ∷ bs) line h r =
    rw (sym (append_snoc line b bs)) (reads bs (line ++ b ∷ []) (holding b h) (reads_byte b line h r))
