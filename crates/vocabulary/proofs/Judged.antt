-- The one theorem behind every call: a table of refusals judges it. Assumes nothing.
use Prim.Native.Nat.{ℕ, zero, suc}
use mathlib.Core.Path.{◌≡◌, refl, ap, ◌∙◌}
use mathlib.Core.Bool.{Bool}
use mathlib.Core.List.{List, [], ◌∷◌}
use native.Mathlib.Omega.{arith}
use Rattle.vocabulary.specs.Refusal.{Row, due, order, first_due, refusal_of}
use Rattle.vocabulary.specs.declared.Refusal.{Refusal}
use Rattle.vocabulary.specs.Outcome.{Outcome, refusing, answered_at}
use Rattle.vocabulary.proofs.Refusals.{number_positive, refusal_is, refusal_exactly, none_exactly}
use Rattle.vocabulary.proofs.Outcome.{refusal_keeps, accepted_does, accepted_none}
use Rattle.vocabulary.specs.Judged.{None, First, Judged}
use Rattle.vocabulary.specs.Face.{called_by}

none_due : (d : Refusal → Bool) (rs : List Refusal) → None d rs → first_due d rs ≡ 0
none_due d [] h = refl
none_due d (r ∷ rs) h = rw h.0 (none_due d rs h.1)

module _ {C : Type 0} (rows : List Row) (line : ℕ) (given : C) (done : Outcome C) where
  -- the first that is due is given
  due_given : (n : ℕ) → First (due rows) order n → answered_at (refusal_of rows) line given done ≡ refusing n line given
  due_given n f =
      let e = refusal_is rows f.before f.refusal f.after f.split f.none f.is_due ∙ f.numbered in
      rw e (refusal_keeps n line given done (λ z. number_positive f.refusal (f.numbered ∙ z)))

  clear_taken : None (due rows) order → refusal_of rows ≡ 0
  unfolding refusal_of
  clear_taken h = none_due (due rows) order h

  -- a refusal that was given stands in the table
  given_due : done.refusal ≡ 0 → (m n : ℕ) → (answered_at m line given done).refusal ≡ suc n → m ≡ suc n
  unfolding answered_at
  given_due e zero n f = absurd (let z : ⊥ = omega (arith, e, f) in z)
  given_due e (suc m) n f = f

  pub judged : done.refusal ≡ 0 → Judged rows line given (answered_at (refusal_of rows) line given done)
  judged e = record {
    due_refuses = due_given;
    clear_accepts = λ h. ap (λ (o : Outcome C). o.refusal) (accepted_does line given done (clear_taken h)) ∙ e;
    refused_due = λ n f. refusal_exactly rows n (given_due e (refusal_of rows) n f);
    accepted_clear = λ f. none_exactly rows (accepted_none (refusal_of rows) line given done f);
  }

-- so every call of a chip is judged by its row of the face
pub called_judged : {C K : Type 0} (refusals : K → C → List Row) (does : K → C → Outcome C)
    → ((k : K) (c : C) → (does k c).refusal ≡ 0) → (k : K) (c : C)
    → Judged (refusals k c) 0 c (called_by refusals does k c)
unfolding called_by
called_judged refusals does accepts k c = judged (refusals k c) 0 c (does k c) (accepts k c)
