-- THE THEOREM: looks can't be noticed. One law of runs, of calls that leave their chip, serves the three; of chip B as
-- a caller keeps it, a run is one of the chip that is kept. Assumes nothing.
use mathlib.Core.Path.{◌≡◌, refl, sym, ap, ◌∙◌}
use Rattle.vocabulary.specs.Outcome.{Outcome}
use Rattle.vocabulary.specs.Reply.{telling}
use Rattle.vocabulary.specs.Run.{after, RunsAlike}
use Rattle.vocabulary.proofs.Run.{runs_alike}
use Rattle.hd153108.proofs.Keep as A
use Rattle.ms622424.specs.Ms622424.{Chip, Call, is_look, called}
use Rattle.ms622424.proofs.Kept as B
use Rattle.ms622424_places.specs.Places.{Handed, view, Does}
use Rattle.ms622424_places.proofs.Determined.{kept_once}
use Rattle.rgb640.proofs.Keeps as C
use Rattle.theorem_looks.specs.Looks.{KeptUnnoticed, LooksUnnoticed}

-- code that keeps chip B's promise
module _ (step : Call → Handed → Outcome Handed) (keeps : (k : Call) (h : Handed) → Does h (step k h) (called k)) where
  runs_seen : RunsAlike step called is_look (λ (h : Handed) (c : Chip). view h ≡ c)
  runs_seen =
      runs_alike step called is_look _
      (record {
        leaves = λ k h c e.
            ap (λ (o : Outcome Chip). o.left) (keeps k h).chip ∙ ap (λ (d : Chip). (called k d).left) e;
        tells = λ k h c n e.
            ap (λ (o : Outcome Chip). telling o) (keeps k h).chip ∙ ap (λ (d : Chip). telling (called k d)) e;
      })

  kept_unnoticed : KeptUnnoticed step
  kept_unnoticed = record {
    hears = λ ks ls h e.
        runs_seen.replies ks h (view h) refl
        ∙ ((B.looks_unnoticed).hears ks ls (view h) e ∙ sym (runs_seen.replies ls h (view h) refl));
    ends = λ ks ls h e.
        kept_once (after step ks h) (after step ls h)
        (runs_seen.leaves ks h (view h) refl
        ∙ ((B.looks_unnoticed).ends ks ls (view h) e ∙ sym (runs_seen.leaves ls h (view h) refl)));
  }

pub looks_unnoticed : LooksUnnoticed
looks_unnoticed = record {
  named = λ place. (refl, refl, refl);
  a = A.looks_unnoticed;
  b = B.looks_unnoticed;
  c = C.looks_unnoticed;
  b_kept = kept_unnoticed;
}
