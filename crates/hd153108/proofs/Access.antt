-- Laws of an access: which refusal, and what follows where there is none. How an access ends is said as the code knows
-- it, an answer's promise and a test on it, so that a search closes the code's walks with it. Assumes nothing.
use Prim.Native.Nat.{ℕ, zero, suc, ◌+◌, ◌*◌, ◌%◌, ◌<◌, ◌≤◌}
use native.Mathlib.Omega.{arith}
use mathlib.Core.Path.{◌≡◌, refl, sym, ap, ◌∙◌}
use mathlib.Core.List.{List, [], ◌∷◌, ◌++◌}
use mathlib.Core.Bool.{Bool, true, false}
use lib.ListN.{length}
use Rattle.vocabulary.specs.Range.{Bound, below, fails}
use Rattle.vocabulary.specs.Refusal.{refusal_of, standing}
use Rattle.vocabulary.specs.declared.Refusal.TheVariants.{LentLength, OutOfRange, NoAccess}
use Rattle.vocabulary.specs.Outcome.{Outcome, accepting, refusing, answered}
use Rattle.vocabulary.specs.Component.{component_at, red, green, blue}
use Rattle.vocabulary.specs.Face.{called_by}
use Rattle.vocabulary.proofs.Range.{passes_holds, holds_passes, fails_right}
use Rattle.vocabulary.proofs.Refusals.{standing_clear}
use Rattle.vocabulary.proofs.Call.{tried_first, stops, goes_on}
use Rattle.hd153108.specs.declared.State.{State}
use Rattle.hd153108.specs.declared.Answer.{Answer}
use Rattle.hd153108.specs.Hd153108.{Chip, chip, register_at, no_register, ranges, short, outside, InRange}
use Rattle.hd153108.specs.Hd153108.{access_refusals, Call, writes, reads, resets, ticks, pixels, looks, does}
use Rattle.hd153108.specs.Hd153108.{called, refuse, accept, outcome}
use Rattle.hd153108.proofs.InRange.{in_range_lem, ranges_hold, not_short}

-- ---- What every call tries first

pub stands_short : {short : Bool} (outside : Bool) → short ≡ true → 1 ≡ refusal_of (standing short outside)
unfolding refusal_of
stands_short outside e = rw e refl

pub stands_outside : {short outside : Bool} → short ≡ false → outside ≡ true → 9 ≡ refusal_of (standing short outside)
unfolding refusal_of
stands_outside e f = rw (e, f) refl

pub stands : {short outside : Bool} → short ≡ false → outside ≡ false → 0 ≡ refusal_of (standing short outside)
unfolding refusal_of
stands e f = rw (e, f) refl

abbrev pub tried : Chip → ℕ
tried c = refusal_of (standing (short c) (outside c))

-- where nothing fails, the chip is in range
pub known : (c : Chip) → 0 ≡ tried c → InRange c
known c e = let (l, r) = standing_clear _ _ (sym e) in in_range_lem c (passes_holds _ l) (passes_holds _ r)

-- so the accessed entry lies in its table
module _ (s : State) (cs os : List ℕ) (e : 0 ≡ tried (chip s cs os)) where
  inside : InRange (chip s cs os)
  inside = known _ e

  pub colour_room : s.address < 256 → 3 * s.address + 3 ≤ length cs
  colour_room f = omega (arith, inside.colours)

  pub overlay_room : 3 * (s.address % 4) + 3 ≤ length os
  overlay_room = omega (arith, inside.overlays)

  pub pointer_low : s.pointer < 3
  pointer_low = inside.pointer

-- ---- Selects

-- selects 0, 1 and 3 to 7 have a register
abbrev pub Served : ℕ → Type 0
Served select = no_register (register_at select) ≡ false

pub selects_served : Served 0 × Served 1 × Served 3 × Served 4 × Served 5 × Served 6 × Served 7
unfolding register_at
selects_served = (refl, refl, refl, refl, refl, refl, refl)

-- every other select has none
others : (select : ℕ) → (select ≡ 0 → ⊥) → (select ≡ 1 → ⊥) → (select ≡ 3 → ⊥) → (select ≡ 4 → ⊥) → (select ≡ 5 → ⊥)
    → (select ≡ 6 → ⊥) → (select ≡ 7 → ⊥) → no_register (register_at select) ≡ true
unfolding register_at
others zero a b d f g h i = absurd (a refl)
others (suc zero) a b d f g h i = absurd (b refl)
others (suc (suc zero)) a b d f g h i = refl
others (suc (suc (suc zero))) a b d f g h i = absurd (d refl)
others (suc (suc (suc (suc zero)))) a b d f g h i = absurd (f refl)
others (suc (suc (suc (suc (suc zero))))) a b d f g h i = absurd (g refl)
others (suc (suc (suc (suc (suc (suc zero)))))) a b d f g h i = absurd (h refl)
others (suc (suc (suc (suc (suc (suc (suc zero))))))) a b d f g h i = absurd (i refl)
others (suc (suc (suc (suc (suc (suc (suc (suc n)))))))) a b d f g h i = refl

-- ---- How an access ends

-- a write of a byte, or a read
pub data Access : Call → Type 0 where
  writing : {select byte : ℕ} → byte < 256 → Access (writes select byte)
  reading : {select : ℕ} → Access (reads select)

-- its select (no other call has one), and the same access at another select
abbrev pub select_of : Call → ℕ
select_of (writes select byte) = select
select_of (reads select) = select
select_of resets = 8
select_of ticks = 8
select_of (pixels enable number byte) = 8
select_of (looks place) = 8

abbrev pub at_select : ℕ → Call → Call
at_select j (writes select byte) = writes j byte
at_select j (reads select) = reads j
at_select j resets = resets
at_select j ticks = ticks
at_select j (pixels enable number byte) = pixels enable number byte
at_select j (looks place) = looks place

module _ (c : Chip) (given : List Bound) (select : ℕ) (done : Outcome Chip) where
  first_stops : {n : ℕ} → n ≡ tried c → (n ≡ 0 → ⊥)
      → refusing n 0 c ≡ answered (refusal_of (access_refusals given select c)) c done
  first_stops e h =
      tried_first (access_refusals given select c) 0 c done (short c) (outside c) _ refl
      (fails_right given (ranges c)) e h

  module _ (g : InRange c) (passes : fails (given ++ ranges c) ≡ false) where
    select_stops : no_register (register_at select) ≡ true
        → refusing 3 0 c ≡ answered (refusal_of (access_refusals given select c)) c done
    select_stops h =
        stops (access_refusals given select c) 0 c done (LentLength ∷ OutOfRange ∷ []) NoAccess 2 _ refl refl
        (not_short c g, (passes, tt)) h

    select_serves : Served select → done ≡ answered (refusal_of (access_refusals given select c)) c done
    select_serves h = goes_on (access_refusals given select c) 0 c done (not_short c g, (passes, (h, tt)))

-- refused by what every call tries first
pub access_stops : (c : Chip) {k : Call} → Access k → {n : ℕ} → n ≡ tried c → (n ≡ 0 → ⊥) → refusing n 0 c ≡ called k c
unfolding called_by
access_stops c (writing {select} {byte} b) e h = first_stops c (below byte 256 ∷ []) select _ e h
access_stops c (reading {select}) e h = first_stops c [] select _ e h

module _ (c : Chip) (g : InRange c) where
  -- no register is there: refusal 3
  pub no_access_lem : {k : Call} → Access k → no_register (register_at (select_of k)) ≡ true → refusing 3 0 c ≡ called k c
  unfolding called_by
  no_access_lem (writing {select} {byte} b) h =
      select_stops c (below byte 256 ∷ []) select _ g (holds_passes _ (b, ranges_hold c g)) h
  no_access_lem (reading {select}) h = select_stops c [] select _ g (holds_passes _ (ranges_hold c g)) h

  -- a register is there: the access does what it does
  pub access_goes : {k : Call} → Access k → Served (select_of k) → does k c ≡ called k c
  unfolding called_by
  access_goes (writing {select} {byte} b) h =
      select_serves c (below byte 256 ∷ []) select _ g (holds_passes _ (b, ranges_hold c g)) h
  access_goes (reading {select}) h = select_serves c [] select _ g (holds_passes _ (ranges_hold c g)) h

select_same : (c : Chip) {j : ℕ} {k : Call} → Access k → select_of k ≡ j → does (at_select j k) c ≡ does k c
select_same c (writing b) e = rw e
select_same c reading e = rw e

module _ (s : State) (cs os : List ℕ) (a : Answer) {k : Call} (u : Access k) where
  abbrev answers_as : (ds ps : List ℕ) {b : Answer} → a ≡ b → outcome a ds ps ≡ outcome b ds ps
  answers_as ds ps f = ap (λ (x : Answer). outcome x ds ps) f

  pub stopped : {n : ℕ} → n ≡ tried (chip s cs os) → (n ≡ 0 → ⊥) → a ≡ refuse n s
      → outcome a cs os ≡ called k (chip s cs os)
  stopped e h f = answers_as cs os f ∙ access_stops _ u e h

  module _ (e : 0 ≡ tried (chip s cs os)) where
    pub unserved : (select_of k ≡ 0 → ⊥) → (select_of k ≡ 1 → ⊥) → (select_of k ≡ 3 → ⊥) → (select_of k ≡ 4 → ⊥)
        → (select_of k ≡ 5 → ⊥) → (select_of k ≡ 6 → ⊥) → (select_of k ≡ 7 → ⊥) → a ≡ refuse 3 s
        → outcome a cs os ≡ called k (chip s cs os)
    unserved z i j l m o p f =
        answers_as cs os f ∙ no_access_lem _ (known _ e) u (others (select_of k) z i j l m o p)

    -- the arm of select j, with the tables as it leaves them
    pub served : {j v : ℕ} {t t' : State} (ds ps : List ℕ) → select_of k ≡ j → a ≡ accept v t → t ≡ t' → Served j
        → accepting v 0 (chip t' ds ps) ≡ does (at_select j k) (chip s cs os)
        → outcome a ds ps ≡ called k (chip s cs os)
    served {j} ds ps m f g r w =
        answers_as ds ps f ∙ (rw g w ∙ (select_same _ u m ∙ access_goes _ (known _ e) u (rw m r)))

    -- the same of an arm that answers the state as it is
    pub kept : {j v : ℕ} → select_of k ≡ j → a ≡ accept v s → Served j
        → accepting v 0 (chip s cs os) ≡ does (at_select j k) (chip s cs os)
        → outcome a cs os ≡ called k (chip s cs os)
    kept m f r w = served cs os m f refl r w

-- ---- The pointer's three places

pub is_red : (p : ℕ) → p ≡ 0 → component_at p ≡ red
unfolding component_at
is_red p e = rw e

pub is_green : (p : ℕ) → p ≡ 1 → component_at p ≡ green
unfolding component_at
is_green p e = rw e

pub is_blue : (p : ℕ) → (p ≡ 0 → ⊥) → (p ≡ 1 → ⊥) → component_at p ≡ blue
unfolding component_at
is_blue zero h g = absurd (h refl)
is_blue (suc zero) h g = absurd (g refl)
is_blue (suc (suc p)) h g = refl

pub ruleset places = (is_red, is_green, is_blue)
