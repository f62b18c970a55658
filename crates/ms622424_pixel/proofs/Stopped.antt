-- A pixel that is refused by what every call tries first. Assumes nothing.
use Rattle.std.proofs.Common.{ℕ, ◌≡◌, List, [], ◌∷◌, length, refl}
use Rattle.vocabulary.specs.Pixel.{showing, dark}
use Rattle.vocabulary.specs.Range.{equal, fails}
use Rattle.vocabulary.specs.Refusal.{number, refusal_of, standing}
use Rattle.vocabulary.specs.declared.Refusal.{Refusal}
use Rattle.vocabulary.proofs.Refusals.{number_positive}
use Rattle.ms622424.specs.Ms622424.{outside, pixels, called}
use Rattle.ms622424.proofs.InRange.{tried}
use Rattle.ms622424_places.specs.declared.State.{State}
use Rattle.ms622424_places.specs.Places.{handed, view}

pub stopped : (s : State) (q m : List ℕ) (mode word : ℕ) (r : Refusal)
    → number r
    ≡ refusal_of (standing (fails (equal (length q) 64 ∷ equal (length m) 24576 ∷ [])) (outside (view (handed s q []))))
    → showing (dark (number r)) (view (handed s q m)) ≡ called (pixels mode word) (view (handed s q m))
stopped s q m mode word r f = tried (pixels mode word) (view (handed s q m)) _ refl refl f (number_positive r)
