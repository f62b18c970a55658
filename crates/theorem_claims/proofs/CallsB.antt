-- Chip B's calls: each judged by its table, and each determined by its promise. Assumes nothing.
use Prim.Native.Nat.{ℕ}
use mathlib.Core.Path.{◌≡◌, ap}
use mathlib.Core.List.{List}
use Rattle.vocabulary.specs.Judged.{Judged}
use Rattle.vocabulary.proofs.Judged.{called_judged}
use Rattle.ms622424.specs.Ms622424.{Chip, Call, refusals, does, called}
use Rattle.ms622424.proofs.Kept.{does_accepts}
use Rattle.ms622424_places.specs.declared.Answer.{Answer}
use Rattle.ms622424_places.specs.declared.State.{State}
use Rattle.ms622424_places.specs.Places.{Handed, handed, outcome, Does, SameInUse}
use Rattle.ms622424_places.proofs.Determined as P

-- ---- judged
pub called_judged_b : (k : Call) (c : Chip) → Judged (refusals k c) 0 c (called k c)
called_judged_b k c = called_judged refusals does does_accepts k c

-- ---- determined: the answer, the map and the waiting places, of whatever call, by the promise of its places, and
-- every place where it is refused; a pixel's answer by its three bytes and a look's by its number (`shown_determined`,
-- `looked_determined` of Determined)
same_answer : {n n' v v' k k' : ℕ} {s s' : State} → n ≡ n' → v ≡ v' → k ≡ k' → s ≡ s'
    → ◌≡◌ {A = Answer} (record { refusal = n; value = v; count = k; state = s })
    (record { refusal = n'; value = v'; count = k'; state = s' })
same_answer a b c d = cc

pub changed : (k : Call) (h : Handed) (a b : Answer) (q q' m m' : List ℕ) → Does h (outcome a q m) (called k)
    → Does h (outcome b q' m') (called k)
    → (a ≡ b) × SameInUse (handed a.state q m) (handed b.state q' m') × (¬ (a.refusal ≡ 0) → q ≡ q')
changed k h a b q q' m m' d e =
    let o = outcome a q m in
    let p = outcome b q' m' in
    let (refusal, value, count, line, left) = P.determined k h o p d e in (
      same_answer refusal value count left.state,
      left,
      λ z. ap (λ (g : Handed). g.queue) (P.refused_same k h o p d e z),
    )
