-- Laws of a pixel's answer, for any chip. Assumes nothing.
use Prim.Native.Nat.{ℕ, ◌/◌, ◌%◌, ◌<◌}
use mathlib.Core.Path.{◌≡◌, sym, ap, ◌∙◌}
use Rattle.vocabulary.specs.Outcome.{Outcome}
use Rattle.vocabulary.specs.Pixel.{showing}
use Rattle.vocabulary.specs.declared.Shown.{Shown}
use Rattle.vocabulary.proofs.Component.{word_red, word_green, word_blue}

-- an answer shows what its equal shows
pub shown_as : {C : Type 0} {c : C} {o : Outcome C} (a : Shown) {b : Shown} → a ≡ b → showing b c ≡ o → showing a c ≡ o
shown_as {c = c} a e f = ap (λ (x : Shown). showing x c) e ∙ f

-- two answers that show the same are the same: the three bytes can be told from the value
same_shown : {n m r x g y b z : ℕ} → n ≡ m → r ≡ x → g ≡ y → b ≡ z
    → ◌≡◌ {A = Shown} (record { refusal = n; red = r; green = g; blue = b })
    (record { refusal = m; red = x; green = y; blue = z })
same_shown e f g h = cc

pub showing_once : {C : Type 0} (a b : Shown) (c : C) → a.red < 256 → a.green < 256 → b.red < 256 → b.green < 256
    → showing a c ≡ showing b c → a ≡ b
showing_once {C = C} a b c ar ag br bg e =
    let v = ap (λ (o : Outcome C). o.value) e in
    same_shown (ap (λ (o : Outcome C). o.refusal) e)
    (sym (word_red _ _ a.blue ar ag) ∙ (ap (λ (n : ℕ). n % 256) v ∙ word_red _ _ b.blue br bg))
    (sym (word_green _ _ a.blue ar ag) ∙ (ap (λ (n : ℕ). n / 256 % 256) v ∙ word_green _ _ b.blue br bg))
    (sym (word_blue _ _ a.blue ar ag) ∙ (ap (λ (n : ℕ). n / 65536) v ∙ word_blue _ _ b.blue br bg))
