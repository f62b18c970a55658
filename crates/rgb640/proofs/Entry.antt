-- An entry that is put is found again: a colour of ten bits a component as it was put. Assumes nothing.
use Prim.Native.Nat.{ℕ, ◌+◌, ◌*◌, ◌%◌, ◌<◌}
use mathlib.Core.Path.{◌≡◌, ap, ◌∙◌}
use mathlib.Core.List.{List}
use native.Mathlib.Nat.{add-zero, mod-eq_of_lt}
use lib.ListN.{length}
use Rattle.vocabulary.specs.Component.{red, green, blue, put}
use Rattle.vocabulary.proofs.Component.{put_own}
use Rattle.rgb640.specs.Rgb640.{colour, entry}

pub entry_put : (e r g b : ℕ) (t : List ℕ) → 3 * e + 2 < length t → r < 1024 → g < 1024 → b < 1024
    → entry e (put e r g b t) ≡ colour r g b
unfolding entry
entry_put e r g b t fits hr hg hb =
    let own = put_own e r g b t fits in
    let z = add-zero (3 * e) in
    let er = ap (λ (n : ℕ). n % 1024) (own red) ∙ mod-eq_of_lt hr in
    let eg = ap (λ (n : ℕ). n % 1024) (own green) ∙ mod-eq_of_lt hg in
    let eb = ap (λ (n : ℕ). n % 1024) (own blue) ∙ mod-eq_of_lt hb in
    let same : entry e (put e r g b t) ≡ colour r g b = cc in
    same
