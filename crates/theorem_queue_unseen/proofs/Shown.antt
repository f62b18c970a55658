-- A pixel that reads no waiting address, and a read of the table, are of the settled map: what is stored elsewhere is
-- not read, and a read finds nothing waiting. Assumes nothing.
use Prim.Native.Nat.{ℕ, zero, suc, ◌+◌, ◌*◌, ◌^◌, ◌<◌}
use mathlib.Core.Path.{◌≡◌, refl, sym, ap, ◌∙◌}
use mathlib.Core.Bool.{true, false, not}
use mathlib.Core.List.{List, [], ◌∷◌}
use native.Mathlib.Omega.{arith}
use borrow.Author.Tests.{eqb-true, eqb-false, not-true, not-false}
use lib.Dec.{eqb}
use lib.ListN.{length, get_or}
use Rattle.vocabulary.specs.Choice.{pick}
use Rattle.vocabulary.specs.Component.{Component, red, green, blue, part}
use Rattle.vocabulary.specs.Every.{every}
use Rattle.vocabulary.specs.Outcome.{Outcome}
use Rattle.vocabulary.specs.Range.{below}
use Rattle.vocabulary.specs.Run.{Accepted}
use Rattle.vocabulary.proofs.Component.{part_below, put_elsewhere}
use Rattle.vocabulary.proofs.Face.{called_clear, called_does}
use Rattle.vocabulary.proofs.Range.{passes_holds, both}
use Rattle.ms622424.specs.Ms622424.{Chip, Entry, lengths, ranges, InRange, stored, all_stored, register_at, pixel_byte}
use Rattle.ms622424.specs.Ms622424.{entry_shown, gun_shown, answers, reads, pixels, refusals, does, called}
use Rattle.ms622424.proofs.InRange.{in_range_lem}
use Rattle.theorem_queue_unseen.specs.Unseen.{settled, byte_of, gun_entry, colour_shown, ReadsNoWaiting, component}

-- ---- a pixel

-- a colour is stored in its own entry alone, ..
pub stored_elsewhere : (e : Entry) (m : List ℕ) (n i : ℕ) → i < 3 → ¬ (e.address ≡ n)
    → get_or (stored e m) (3 * n + i) 0 ≡ get_or m (3 * n + i) 0
stored_elsewhere e m n i h d = put_elsewhere e.address e.red e.green e.blue m n i h d

-- .. and so are many
pub all_elsewhere : (es : List Entry) (m : List ℕ) (n i : ℕ) → i < 3
    → every (λ (e : Entry). not (eqb e.address n)) es ≡ true
    → get_or (all_stored es m) (3 * n + i) 0 ≡ get_or m (3 * n + i) 0
unfolding all_stored every
all_elsewhere [] m n i h d = refl
all_elsewhere (e ∷ es) m n i h d =
    let t = both (not (eqb e.address n)) _ d in
    all_elsewhere es (stored e m) n i h t.1
    ∙ stored_elsewhere e m n i h (eqb-false e.address n (not-true _ t.0))

-- the entry that a gun shows is document 01's
own_byte : (k : Component) (word : ℕ) → word < 2 ^ 24 → pixel_byte k word ≡ byte_of k word
unfolding pixel_byte byte_of
own_byte red word w = refl
own_byte green word w = refl
own_byte blue word w = omega arith

pub shown_entry_lem : (mode word : ℕ) (k : Component) → mode < 4 → word < 2 ^ 24
    → entry_shown mode word k ≡ gun_entry mode word k
unfolding entry_shown gun_entry pick
shown_entry_lem zero word k m w = refl
shown_entry_lem (suc zero) word k m w = ap (λ (n : ℕ). 7424 + n) (own_byte k word w)
shown_entry_lem (suc (suc zero)) word k m w = ap (λ (n : ℕ). 7680 + n) (own_byte k word w)
shown_entry_lem (suc (suc (suc zero))) word k m w = ap (λ (n : ℕ). 7936 + n) (own_byte k word w)
shown_entry_lem (suc (suc (suc (suc mode)))) word k m w = absurd (omega arith)

-- what an accepted pixel tells of itself and its chip
pub pixel_range : (mode word : ℕ) (c : Chip) → Accepted called (pixels mode word) c
    → InRange c × ((mode < 4) × (word < 2 ^ 24))
pixel_range mode word c a =
    let t = called_clear refusals does (pixels mode word) c a in
    let (m, (w, r)) = passes_holds (below mode 4 ∷ below word (2 ^ 24) ∷ ranges c) t.1.0 in
    (in_range_lem c (passes_holds (lengths c) t.0) r, (m, w))

pub guns_show : (mode word : ℕ) (c : Chip) → mode < 4 → word < 2 ^ 24 → ReadsNoWaiting mode word c → (k : Component)
    → gun_shown mode word c.map k ≡ gun_shown mode word (settled c) k
unfolding ReadsNoWaiting gun_shown settled
guns_show mode word c m w h k =
    sym (all_elsewhere c.waiting c.map (entry_shown mode word k) (part k) (part_below k)
    (rw (shown_entry_lem mode word k m w) (h k)))

pub pixel_shown : (mode word : ℕ) (c : Chip) → Accepted called (pixels mode word) c → ReadsNoWaiting mode word c
    → (called (pixels mode word) c).value ≡ colour_shown mode word (settled c)
unfolding colour_shown
pixel_shown mode word c a h =
    let (_, (m, w)) = pixel_range mode word c a in
    let show = guns_show mode word c m w h in
    ap (λ (o : Outcome Chip). o.value) (called_does refusals does (pixels mode word) c a)
    ∙ cc (show red, show green, show blue)

-- ---- a read of the table: nothing waits
pub settled_empty : (c : Chip) → c.waiting ≡ [] → settled c ≡ c.map
unfolding settled all_stored
settled_empty c e = ap (λ (es : List Entry). all_stored es c.map) e

none : {A : Type 0} (l : List A) → length l ≡ 0 → l ≡ []
none [] e = refl
none (x ∷ l) e = absurd (omega arith)

pub read_waiting : (c : Chip) → Accepted called (reads 2) c → c.waiting ≡ []
read_waiting c a =
    let clear = called_clear refusals does (reads 2) c a in
    let empty : not (eqb (length c.waiting) 0) ≡ false = search in
    none c.waiting (eqb-true (length c.waiting) 0 (not-false _ empty))

pub read_range : (c : Chip) → Accepted called (reads 2) c → InRange c
read_range c a =
    let t = called_clear refusals does (reads 2) c a in
    in_range_lem c (passes_holds (lengths c) t.0) (passes_holds (ranges c) t.1.0)

pub read_component : (c : Chip) → Accepted called (reads 2) c
    → (called (reads 2) c).value ≡ component c.port (settled c)
unfolding component answers register_at
read_component c a =
    ap (λ (o : Outcome Chip). o.value) (called_does refusals does (reads 2) c a)
    ∙ ap (component c.port) (sym (settled_empty c (read_waiting c a)))
