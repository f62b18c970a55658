-- What is written to chip C reads back: each call is accepted and leaves the next chip, from the first to the
-- last, and the entry that the reads are fetched from is the one that was put. Assumes nothing.
use Prim.Native.Nat.{ℕ, ◌+◌, ◌*◌, ◌/◌, ◌%◌, ◌≤◌, ◌<◌}
use mathlib.Core.Path.{◌≡◌, refl, sym, ap, subst, ◌∙◌}
use mathlib.Core.List.{List, [], ◌∷◌, ◌++◌}
use native.Mathlib.Omega.{arith}
use Rattle.vocabulary.specs.Component.{put}
use Rattle.vocabulary.specs.Outcome.{Outcome, accepting}
use Rattle.vocabulary.specs.Reply.{Reply}
use Rattle.expand.specs.Expand.{ten}
use Rattle.expand.proofs.Width.{ten_below, ten_top}
use Rattle.rgb640.specs.declared.State.{State}
use Rattle.rgb640.specs.declared.Colour.{Colour}
use Rattle.rgb640.specs.declared.Answer.{Answer}
use Rattle.rgb640.specs.Rgb640.{Chip, chip, at, latching, fetching, register_at, writing, offset, entry, three_bytes}
use Rattle.rgb640.specs.Rgb640.{restarted, palette_taken, palette_told, Space, palette_write, palette_read, prefetched}
use Rattle.rgb640.specs.Rgb640.{wrote, accept_told, outcome, Call, writes, reads, called, InRange}
use Rattle.rgb640.proofs.Entry.{entry_put}
use Rattle.rgb640.proofs.Index.{space_write, space_read, fetches_entry_lem, fetches_nothing_lem}
use Rattle.rgb640.proofs.Order.{red_latched, green_latched, blue_stored, red_told, green_told, blue_told}
use Rattle.rgb640.proofs.InRange.{called_keeps_range}
use Rattle.rgb640.proofs.Access.{write_index, write_data, read_data}
use Rattle.theorem_read_back.specs.Told.{tells}
use Rattle.theorem_read_back.specs.ReadBackC.{pointing, recalling, ReadsBack}
use Rattle.theorem_read_back.proofs.Told.{Tells, done, then, heard}

-- the next chip is in range too
kept : (k : Call) {c d : Chip} {v : ℕ} → InRange c → called k c ≡ accepting v 0 d → InRange d
kept k {c} r e = subst (λ (o : Outcome Chip). InRange o.left) e (called_keeps_range k c r)

-- ---- The index is set through ports 4 and 5
module _ (c : Chip) (r : InRange c) (i : ℕ) (h : i < 65536) where
  abbrev low : Chip
  low = chip (at c.state (c.state.index / 256 * 256 + i % 256) c.state.place) c.table

  abbrev pointed : Chip
  pointed = chip (prefetched c.table (at c.state i 0)) c.table

  first_half : called (writes 4 (i % 256)) c ≡ accepting 0 0 low
  unfolding register_at wrote
  first_half = sym (write_index c r (i % 256) (omega arith) 4 refl refl)

  second_half : called (writes 5 (i / 256)) low ≡ accepting 0 0 pointed
  unfolding register_at wrote
  second_half =
      sym (write_index low (kept _ r first_half) (i / 256) (omega arith) 5 refl refl)
      ∙ ap (λ (j : ℕ). accepting 0 0 (chip (prefetched c.table (at c.state j 0)) c.table)) (omega arith)

  module _ {d : Chip} (p : pointed ≡ d) where
    pointed_range : InRange d
    pointed_range = subst InRange p (kept _ (kept _ r first_half) second_half)

    points : {ks : List Call} {rs : List Reply} → Tells called ks d rs
        → Tells called (pointing i ++ ks) c (tells 0 ∷ tells 0 ∷ rs)
    points h = then first_half (then (second_half ∙ ap (accepting 0 0) p) h)

-- ---- Three bytes are written
module _ (s : State) (t : List ℕ) (x : InRange (chip s t)) (l : 0x4000 ≤ s.index) (u : s.index < 0x4400) where
  writes_goes : (b : ℕ) → b < 256 → {d : Chip} → d ≡ palette_taken three_bytes b (chip s t)
      → called (writes 6 b) (chip s t) ≡ accepting 0 0 d
  unfolding palette_write
  writes_goes b h e =
      sym (write_data (chip s t) x b h (ap (λ (row : Space). row.on_write) (space_write _ l u)))
      ∙ ap (accepting 0 0) (sym e)

module _ (s : State) (t : List ℕ) (x : InRange (chip s t)) (l : 0x4000 ≤ s.index) (u : s.index < 0x4400)
    (p : s.place ≡ 0) (r g b : ℕ) (hr : r < 256) (hg : g < 256) (hb : b < 256) where
  abbrev one : State
  one = at (latching s (ten 8 r) s.green) s.index 1

  abbrev two : State
  two = at (latching s (ten 8 r) (ten 8 g)) s.index 2

  abbrev full : List ℕ
  full = put (offset s.index) (ten 8 r) (ten 8 g) (ten 8 b) t

  abbrev stored : Chip
  stored = chip (restarted writing (λ n. n) two) full

  red_written : called (writes 6 r) (chip s t) ≡ accepting 0 0 (chip one t)
  red_written = writes_goes s t x l u r hr (red_latched s t r refl p)

  green_written : called (writes 6 g) (chip one t) ≡ accepting 0 0 (chip two t)
  green_written = writes_goes one t (kept _ x red_written) l u g hg (green_latched one t g refl refl)

  blue_written : called (writes 6 b) (chip two t) ≡ accepting 0 0 stored
  blue_written =
      writes_goes two t (kept _ (kept _ x red_written) green_written) l u b hb
      (blue_stored two t b refl refl refl refl)

  stored_range : InRange stored
  stored_range = kept _ (kept _ (kept _ x red_written) green_written) blue_written

  stores : {ks : List Call} {rs : List Reply} → Tells called ks stored rs
      → Tells called (writes 6 r ∷ writes 6 g ∷ writes 6 b ∷ ks) (chip s t) (tells 0 ∷ tells 0 ∷ tells 0 ∷ rs)
  stores h = then red_written (then green_written (then blue_written h))

-- ---- Three bytes are read
module _ (s : State) (t : List ℕ) (x : InRange (chip s t)) (l : 0x8000 ≤ s.index) (u : s.index < 0x8400) where
  reads_goes : {a : Answer} → a ≡ accept_told (palette_told three_bytes (chip s t))
      → called (reads 6) (chip s t) ≡ outcome a t
  unfolding palette_read
  reads_goes e =
      sym (read_data (chip s t) x (ap (λ (row : Space). row.on_read) (space_read _ l u)))
      ∙ ap (λ (a : Answer). outcome a t) (sym e)

module _ (s : State) (t : List ℕ) (x : InRange (chip s t)) (l : 0x8000 ≤ s.index) (u : s.index < 0x8400)
    (p : s.place ≡ 0) where
  red_read : called (reads 6) (chip s t) ≡ accepting (s.fetched.red / 4) 0 (chip (at s s.index 1) t)
  red_read = reads_goes s t x l u (red_told s t p refl)

  green_read : called (reads 6) (chip (at s s.index 1) t)
      ≡ accepting (s.fetched.green / 4) 0 (chip (at s s.index 2) t)
  green_read = reads_goes _ t (kept _ x red_read) l u (green_told _ t refl refl)

  recalls : Tells called (reads 6 ∷ reads 6 ∷ reads 6 ∷ []) (chip s t)
      (tells (s.fetched.red / 4) ∷ tells (s.fetched.green / 4) ∷ tells (s.fetched.blue / 4) ∷ [])
  recalls =
      then red_read (then green_read (then
      (reads_goes _ t (kept _ (kept _ x red_read) green_read) l u (blue_told _ t refl refl refl)) done))

-- ---- What is written reads back
-- an entry's components, each divided by 4
module _ (c : Chip) (x : InRange c) (e : ℕ) (h : e < 1024) (f : Colour) (q : entry e c.table ≡ f) where
  abbrev prepared : State
  prepared = fetching (at c.state (0x8000 + e) 0) f

  fetched : pointed c x (0x8000 + e) (omega arith) ≡ chip prepared c.table
  fetched =
      sym (ap (λ (s : State). chip s c.table) (fetches_entry_lem _ (omega arith) (omega arith) c.table _ refl))
      ∙ ap (λ (k : Colour). chip (fetching (at c.state (0x8000 + e) 0) k) c.table)
      (ap (λ (n : ℕ). entry n c.table) (omega arith) ∙ q)

  recalled : Tells called (recalling e) c
      (tells 0 ∷ tells 0 ∷ tells (f.red / 4) ∷ tells (f.green / 4) ∷ tells (f.blue / 4) ∷ [])
  recalled =
      points c x (0x8000 + e) (omega arith) fetched
      (recalls prepared c.table (pointed_range c x (0x8000 + e) (omega arith) fetched) (omega arith) (omega arith)
      refl)

pub reads_back : ReadsBack
reads_back c x e r g b he hr hg hb =
    let i = 0x4000 + e in
    let s = at c.state i 0 in
    let low = ten_below 8 in
    let top = ten_top 8 in
    let nothing : pointed c x i (omega arith) ≡ chip s c.table =
    ap (λ (n : State). chip n c.table) (fetches_nothing_lem _ (λ a b. omega arith) _ _) in
    let y = pointed_range c x i (omega arith) nothing in
    let z = stored_range s c.table y (omega arith) (omega arith) refl r g b hr hg hb in
    let found =
    ap (λ (n : ℕ). entry e (put n (ten 8 r) (ten 8 g) (ten 8 b) c.table)) (let m : offset i ≡ e = omega arith in m)
    ∙ entry_put e _ _ _ c.table (omega arith) (low r) (low g) (low b) in
    heard called (points c x i (omega arith) nothing
    (stores s c.table y (omega arith) (omega arith) refl r g b hr hg hb (recalled _ z e he _ found)))
    ∙ (let er = top r hr (omega arith) in let eg = top g hg (omega arith) in let eb = top b hb (omega arith) in cc)
