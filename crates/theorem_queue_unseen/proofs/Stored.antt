-- What a map holds once colours were stored, byte by byte: at each address and gun the last of them, or what was
-- there. Assumes nothing.
use Prim.Native.Nat.{ℕ, ◌+◌, ◌*◌, ◌<◌}
use mathlib.Core.Path.{◌≡◌, refl, sym, ap, ◌∙◌}
use mathlib.Core.Bool.{true, not}
use mathlib.Core.List.{List, [], ◌∷◌, ◌++◌}
use native.Mathlib.Omega.{arith}
use borrow.Author.Tests.{eqb-true, eqb-false, not-true}
use lib.Dec.{eqb}
use lib.ListN.{length, get_or}
use Rattle.vocabulary.specs.Choice.{pick}
use Rattle.vocabulary.specs.Component.{Component, part, one_of}
use Rattle.vocabulary.specs.Every.{every}
use Rattle.vocabulary.proofs.Choice.{cases, picks_first, picks_second}
use Rattle.vocabulary.proofs.Component.{part_below, put_length}
use Rattle.vocabulary.proofs.Range.{both}
use Rattle.ms622424.specs.Ms622424.{Entry, stored, all_stored}
use Rattle.ms622424.proofs.Moves.{stored_own}
use Rattle.theorem_queue_unseen.specs.Unseen.{last_for, byte_at}
use Rattle.theorem_queue_unseen.proofs.Shown.{stored_elsewhere}

stored_found : (e : Entry) (m : List ℕ) (a : ℕ) (k : Component) → 3 * a + 2 < length m
    → get_or (stored e m) (3 * a + part k) 0
    ≡ pick (eqb e.address a) (one_of k e.red e.green e.blue) (get_or m (3 * a + part k) 0)
stored_found e m a k h =
    cases (eqb e.address a)
    (λ t.
    let same = eqb-true e.address a t in
    ap (λ (i : ℕ). get_or (stored e m) (3 * i + part k) 0) (sym same)
    ∙ (stored_own e m (omega (arith, same)) k ∙ sym (picks_first _ _ t)))
    (λ t. stored_elsewhere e m a (part k) (part_below k) (eqb-false e.address a t) ∙ sym (picks_second _ _ t))

-- EVERY BYTE of a map with colours stored: of the last of them for its address, or what was there
pub all_found : (es : List Entry) (m : List ℕ) (a : ℕ) (k : Component) → 3 * a + 2 < length m
    → get_or (all_stored es m) (3 * a + part k) 0 ≡ byte_at a k es m
unfolding all_stored last_for
all_found [] m a k h = refl
all_found (e ∷ es) m a k h =
    let l = put_length e.address e.red e.green e.blue m in
    all_found es (stored e m) a k (omega (arith, l, h)) ∙ ap (last_for a k es) (stored_found e m a k h)

-- colours for other addresses change nothing of it
pub last_elsewhere : (es : List Entry) (a : ℕ) (k : Component) (byte : ℕ)
    → every (λ (e : Entry). not (eqb e.address a)) es ≡ true → last_for a k es byte ≡ byte
unfolding every last_for
last_elsewhere [] a k byte h = refl
last_elsewhere (e ∷ es) a k byte h =
    let t = both (not (eqb e.address a)) _ h in
    ap (last_for a k es) (picks_second _ _ (not-true _ t.0)) ∙ last_elsewhere es a k byte t.1

-- a list and then another: the last of the second, or of the first
pub last_append : (es fs : List Entry) (a : ℕ) (k : Component) (byte : ℕ)
    → last_for a k (es ++ fs) byte ≡ last_for a k fs (last_for a k es byte)
unfolding last_for
last_append [] fs a k byte = refl
last_append (e ∷ es) fs a k byte = last_append es fs a k _
