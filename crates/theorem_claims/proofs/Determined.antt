-- The one lemma behind "two outcomes allowed by it are equal": what a caller sees can be read back out of what the
-- promise speaks of. Assumes nothing.
use mathlib.Core.Path.{◌≡◌, refl, sym, ap, ◌∙◌}
use Rattle.vocabulary.proofs.Reply.{decoded_once}
use Rattle.vocabulary.specs.Outcome.{Outcome}
use Rattle.vocabulary.specs.Reply.{Reply, decoded}
use Rattle.vocabulary.specs.Pixel.{showing}
use Rattle.vocabulary.specs.Look.{looking}
use Rattle.vocabulary.specs.declared.Looked.{Looked}
use Rattle.vocabulary.specs.declared.Shown.{Shown}
use Rattle.vocabulary.proofs.Pixel.{showing_once}
use Rattle.theorem_claims.specs.Determined.{DeterminedOf, Determined, Bytes}

module _ {A C : Type 0} (says : A → C) (back : C → A) where
  -- read back, for the answers that the type holds
  pub determined_of : (Held : A → Type 0) → ((a : A) → Held a → back (says a) ≡ a) → (d : C) → DeterminedOf Held says d
  determined_of Held same d a b ha hb e f = sym (same a ha) ∙ (ap back (e ∙ sym f) ∙ same b hb)

  -- for every answer
  pub determined : ((a : A) → back (says a) ≡ a) → (d : C) → Determined says d
  determined same d = determined_of (λ a. Unit) (λ a h. same a) d

-- a promise that names the answer itself
pub itself : {A : Type 0} (d : A) → Determined (λ (a : A). a) d
itself d a b ha hb e f = e ∙ sym f

-- the number that C gets
pub number_determined : (d : Reply) → Determined decoded d
number_determined d a b ha hb e f = decoded_once a b (e ∙ sym f)

-- a pixel's answer, of either chip that has pixels
pub shown_determined : {C : Type 0} (c : C) (d : Outcome C) → DeterminedOf Bytes (λ (a : Shown). showing a c) d
shown_determined c d a b ha hb e f =
    showing_once a b c ha.red ha.green hb.red hb.green (e ∙ sym f)

-- a look's, of any chip
pub looked_determined : {C : Type 0} (c : C) (d : Outcome C) → Determined (λ (a : Looked). looking a c) d
looked_determined c d = determined _ (λ o. record { refusal = o.refusal; value = o.value }) (λ a. refl) d
