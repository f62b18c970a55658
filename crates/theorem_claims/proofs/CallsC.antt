-- Chip C's calls: each judged by its table, and each determined by its promise. Assumes nothing.
use Prim.Native.Nat.{ℕ}
use mathlib.Core.Path.{refl}
use mathlib.Core.List.{List}
use Rattle.vocabulary.specs.Outcome.{Outcome}
use Rattle.vocabulary.specs.Judged.{Judged}
use Rattle.vocabulary.proofs.Judged.{called_judged}
use Rattle.rgb640.specs.declared.Answer.{Answer}
use Rattle.rgb640.specs.Rgb640.{Chip, Call, refusals, does, called, outcome}
use Rattle.rgb640.proofs.Keeps.{does_accepts}
use Rattle.theorem_claims.specs.Determined.{Determined}
use Rattle.theorem_claims.proofs.Determined.{determined}

-- ---- judged
pub called_judged_c : (k : Call) (c : Chip) → Judged (refusals k c) 0 c (called k c)
called_judged_c k c = called_judged refusals does does_accepts k c

-- ---- determined: the answer, and the table where it is lent to be changed
answer_of : Outcome Chip → Answer
answer_of o = record { refusal = o.refusal; value = o.value; state = o.left.state }

-- a write; a read, and a reset at any table beside it
pub changed : (d : Outcome Chip) → Determined {A = Answer × List ℕ} (λ x. outcome x.0 x.1) d
unfolding answer_of
changed d = determined _ (λ o. (answer_of o, o.left.table)) (λ x. refl) d

pub answered : (table : List ℕ) (d : Outcome Chip) → Determined (λ (a : Answer). outcome a table) d
unfolding answer_of
answered table d = determined _ answer_of (λ a. refl) d
