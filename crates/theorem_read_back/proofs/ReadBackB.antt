-- What is written to chip B reads back: a written colour is the last that waits, demand 3's account of a run carries
-- it through the calls in between, and blanking leaves it in the map. Assumes nothing.
use Prim.Native.Nat.{ℕ, ◌+◌, ◌*◌, ◌%◌, ◌<◌, ◌≤◌, min}
use mathlib.Core.Path.{◌≡◌, refl, sym, ap, subst, ◌∙◌}
use mathlib.Core.Bool.{Bool, true, not}
use mathlib.Core.List.{List, [], ◌∷◌, ◌++◌}
use native.Mathlib.Omega.{arith}
use lib.Dec.{eqb}
use lib.ListN.{length, get_or, drop_of_length-le}
use lib.Seq.{take_all}
use Rattle.vocabulary.specs.Choice.{pick}
use Rattle.vocabulary.specs.Component.{Component, red, green, blue, component_at, part, one_of}
use Rattle.vocabulary.specs.Every.{every}
use Rattle.vocabulary.specs.Outcome.{Outcome, accepting}
use Rattle.vocabulary.specs.Run.{after, gathered, Along}
use Rattle.vocabulary.proofs.Every.{every_append}
use Rattle.vocabulary.proofs.Range.{pair}
use Rattle.vocabulary.proofs.Run.{after_next, after_none, run_keeps}
use Rattle.ms622424.specs.Ms622424.{Chip, Entry, InRange, port, control, with_port, with_control}
use Rattle.ms622424.specs.Ms622424.{stepped}
use Rattle.ms622424.specs.Ms622424.{written, answers, Call, reads, blanks, called}
use Rattle.ms622424.proofs.Blank.{blank_does}
use Rattle.ms622424.proofs.Kept.{called_keeps_range}
use Rattle.ms622424.proofs.Moves.{moved_on, moves_are}
use Rattle.theorem_queue_unseen.specs.Unseen.{NoReset, completed_by, completed_in, settled, byte_at}
use Rattle.theorem_queue_unseen.proofs.Accepting.{initialized, table_read}
use Rattle.theorem_queue_unseen.proofs.Stored.{all_found, last_elsewhere}
use Rattle.theorem_queue_unseen.proofs.Unseen.{run_found}
use Rattle.theorem_read_back.specs.Told.{tells, counts}
use Rattle.theorem_read_back.specs.ReadBackB.{storing, Apart, ReadsBack}
use Rattle.theorem_read_back.proofs.Told.{Tells, done, then, heard}
use Rattle.theorem_read_back.proofs.StoreB.{kept, pointed, pointed_range, first_half, second_half, points}
use Rattle.theorem_read_back.proofs.StoreB.{room, three, red_written, green_written, blue_written}
use Rattle.theorem_read_back.proofs.StoreB.{waits_last, stored_last, begun, begins}

-- ---- Blanking and three reads
module _ (c : Chip) (x : InRange c) (slots : ℕ) (enough : length c.waiting ≤ slots) (few : slots < 65536) where
  abbrev emptied : Chip
  emptied = moved_on (length c.waiting) [] (settled c) c

  pub blanks_all : called (blanks slots) c ≡ accepting 0 (length c.waiting) emptied
  unfolding settled
  blanks_all =
      let n : min slots (length c.waiting) ≡ length c.waiting = omega arith in
      let d = drop_of_length-le c.waiting {i = slots} enough in
      let t = take_all slots c.waiting enough in
      sym (blank_does slots c x few (sym (moves_are slots c))) ∙ rw (n, d, t) refl

-- in read mode, nothing waiting, pointed at an address
module _ (c : Chip) (x : InRange c) (on : c.control.readmode ≡ 1) (empty : c.waiting ≡ [])
    (at-red : c.port.counter ≡ 0) where
  abbrev at : ℕ → Chip
  at n = with_port (port c.port.address n c.port.red c.port.green) c

  abbrev next : Chip
  next = with_port (port ((c.port.address + 1) % 8192) 0 c.port.red c.port.green) c

  red_read : called (reads 2) c ≡ accepting (get_or c.map (3 * c.port.address + 0) 0) 0 (at 1)
  unfolding answers stepped component_at
  red_read = table_read c x on empty ∙ rw at-red refl

  green_read : called (reads 2) (at 1) ≡ accepting (get_or c.map (3 * c.port.address + 1) 0) 0 (at 2)
  unfolding answers stepped component_at
  green_read = table_read (at 1) (kept _ x red_read) on empty

  blue_read : called (reads 2) (at 2) ≡ accepting (get_or c.map (3 * c.port.address + 2) 0) 0 next
  unfolding answers stepped component_at
  blue_read = table_read (at 2) (kept _ (kept _ x red_read) green_read) on empty

  pub recalls : {r g b : ℕ} → ((k : Component) → get_or c.map (3 * c.port.address + part k) 0 ≡ one_of k r g b)
      → Tells called (reads 2 ∷ reads 2 ∷ reads 2 ∷ []) c (tells r ∷ tells g ∷ tells b ∷ [])
  recalls {r} {g} {b} f =
      then (red_read ∙ ap (λ (v : ℕ). accepting v 0 (at 1)) (f red))
      (then (green_read ∙ ap (λ (v : ℕ). accepting v 0 (at 2)) (f green))
      (then (blue_read ∙ ap (λ (v : ℕ). accepting v 0 next) (f blue)) done))

-- ---- In between
apart_splits : (a : ℕ) (ks : List Call) (c : Chip) → Along called (Apart called a) ks c
    → NoReset ks c × (every (λ (e : Entry). not (eqb e.address a)) (completed_in ks c) ≡ true)
unfolding Along gathered every
apart_splits a [] c h = (tt, refl)
apart_splits a (k ∷ ks) c ((reset, other), hs) =
    let (resets, others) = apart_splits a ks (called k c).left hs in
    let other-address : Entry → Bool = λ e. not (eqb e.address a) in
    ((reset, resets), rw (every_append other-address (completed_by k c) _) (pair other others))

-- ---- What is written reads back
module _ (c : Chip) (x : InRange c) (a r g b : ℕ) (ha : a < 8192) (hr : r < 256) (hg : g < 256) (hb : b < 256) where
  abbrev off : InRange (begun c x)
  off = kept _ x (begins c x)

  abbrev from : Chip
  from = pointed (begun c x) off a ha

  abbrev from_range : InRange from
  from_range = pointed_range (begun c x) off a ha

  stores : Tells called (storing a r g b) c
      (tells 0 ∷ tells 0 ∷ tells 0 ∷ counts (pick (eqb (length c.waiting) 64) 4 0) ∷ tells 0 ∷ tells 0 ∷ [])
  stores =
      then (begins c x) (points (begun c x) off a ha
      (then (red_written from from_range refl refl r g b hr hg hb)
      (then (green_written from from_range refl refl r g b hr hg hb)
      (then (blue_written from from_range refl refl r g b hr hg hb) done))))

  abbrev pub full : Chip
  full = three from from_range refl refl r g b hr hg hb

  pub leads : after called (storing a r g b) c ≡ full
  leads =
      let left : Outcome Chip → Chip = λ o. o.left in
      after_next called _ _ c (ap left (begins c x))
      ∙ (after_next called _ _ _ (ap left (first_half (begun c x) off a ha))
      ∙ (after_next called _ _ _ (ap left (second_half (begun c x) off a ha))
      ∙ (after_next called _ _ _ (ap left (red_written from from_range refl refl r g b hr hg hb))
      ∙ (after_next called _ _ _ (ap left (green_written from from_range refl refl r g b hr hg hb))
      ∙ (after_next called _ _ _ (ap left (blue_written from from_range refl refl r g b hr hg hb))
      ∙ after_none called full)))))

  pub full_range : InRange full
  full_range = subst InRange leads (run_keeps called InRange called_keeps_range (storing a r g b) c x)

  abbrev pub older : List Entry
  older = (room from from_range refl refl r g b hr hg hb).waiting

  pub full_waits : full.waiting ≡ older ++ (record { address = a; red = r; green = g; blue = b } ∷ [])
  full_waits = waits_last from from_range refl refl r g b hr hg hb

  -- what the map then holds, whatever was done in between: demand 3's account
  module _ (between : List Call) where
    abbrev stored : Chip
    stored = after called (storing a r g b) c

    abbrev now : Chip
    now = after called between stored

    stored_range : InRange stored
    stored_range = run_keeps called InRange called_keeps_range (storing a r g b) c x

    now_range : InRange now
    now_range = run_keeps called InRange called_keeps_range between stored stored_range

    settles : Along called (Apart called a) between stored → (k : Component)
        → get_or (settled now) (3 * a + part k) 0 ≡ one_of k r g b
    unfolding settled
    settles h k =
        let (resets, others) = apart_splits a between stored h in
        let size = now_range.size in
        all_found now.waiting now.map a k (omega arith)
        ∙ (run_found between stored a k resets stored_range.size ha
        ∙ (last_elsewhere (completed_in between stored) a k _ others
        ∙ (ap (λ (d : Chip). byte_at a k d.waiting d.map) leads
        ∙ stored_last from from_range refl refl r g b hr hg hb k full.map)))

pub reads_back : ReadsBack called
unfolding written
reads_back c x a r g b ha hr hg hb between slots h enough few =
    let now = after called between (after called (storing a r g b) c) in
    let all = blanks_all now (now_range c x a r g b ha hr hg hb between) slots enough few in
    let d = moved_on (length now.waiting) [] (settled now) now in
    let y = kept _ (now_range c x a r g b ha hr hg hb between) all in
    let on = initialized d y in
    let z = kept _ y on in
    let e = with_control (control d.control.command 1) d in (
      heard called (stores c x a r g b ha hr hg hb),
      heard called (then all (then on (points e z a ha
          (recalls (pointed e z a ha) (pointed_range e z a ha) refl refl refl
          (settles c x a r g b ha hr hg hb between h))))),
    )
